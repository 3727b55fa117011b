-- Forms that look back at the scope before their parts.
use Rattle.std.proofs.Common.{◌≡◌, refl, ap, sym, ◌∙◌, ℕ, Bool, not, List, [], Option, length, take}
use Rattle.cr_base.specs.declared.refusal.Refusal.{Refusal}
use Rattle.cx_core.specs.Trees.{CTy}
use Rattle.cx_init_steps.specs.Steps as init_steps
use Rattle.cx_rules.specs.Initial.{CAt, CStored}
use Rattle.cx_rules.specs.Walk as walk
use Rattle.cx_walk.specs.Walks as walks
use Rattle.cx_kept.specs.Prefix.{Prefix}
use Rattle.cx_rules.specs.Lines.{own_line, expr_line}
use Rattle.cx_rules.specs.Operands.{COperand}
use Rattle.cx_rules.specs.Pieces.{CFilling, CTarget, calls_by_name, designated_from, object_of_type, with_literal}
use Rattle.cx_rules.specs.Readings.{CChecked, stops, fine, Check, check_behind, check_gives, check_chain, check_here, check_becomes, check_look}
use Rattle.cx_rules.specs.Scope.{CScope, unevaluated}
use Rattle.cx_rules.specs.Units.{check_expr}
use Rattle.cx_scope.specs.Changes.{cut_back}
use Rattle.cx_expr_steps.specs.Steps as steps
use Rattle.cx_tree.specs.Trees.{InitialiserListTree, EntryTree, Entry, no_designators, more_designators, ExprTree, Call, SizeofExpr, ExprTrees}

pub call_is : (of : ExprTree) (args : ExprTrees) (lines : List ℕ) (before one two : CScope) (callee : COperand) (given : List COperand) (mentioned : ℕ) →
    check_expr of before ≡ fine callee one → walks.exprs_walk args one ≡ fine given two → mentioned ≡ length before.mentions →
    steps.call_seen (expr_line of) (calls_by_name of callee) mentioned callee given two ≡ check_expr (Call of args lines) before
unfolding check_chain check_here
call_is of args lines before one two callee given mentioned e f m = rw e (rw f (rw m refl))

cut_is : (before after : CScope) → Prefix before after → cut_back (length before.literals) (length before.mentions) after ≡ unevaluated before after
cut_is before after kept =
    ap (λ literals. record after { literals = literals; mentions = take (length before.mentions) after.mentions }) kept.0
    ∙ ap (λ mentions. record after { literals = before.literals; mentions = mentions }) kept.1

sized_is : (line : ℕ) (of : COperand) (before after : CScope) → Prefix before after →
    steps.sized line (length before.literals) (length before.mentions) of after ≡ steps.sizeof_seen line before of after
unfolding check_chain check_here check_look check_becomes check_gives
sized_is line of before after kept = rw (cut_is before after kept) refl

pub sizeof_is : (on : ExprTree) (lines : List ℕ) (before after : CScope) (of : COperand) (literals mentions : ℕ) →
    check_expr on before ≡ fine of after → Prefix before after → literals ≡ length before.literals → mentions ≡ length before.mentions →
    steps.sized (own_line lines) literals mentions of after ≡ check_expr (SizeofExpr on lines) before
unfolding check_chain check_here
sizeof_is on lines before after of literals mentions e kept l m = rw (l, m, e) (sized_is (own_line lines) of before after kept)

-- the list of a compound literal, before which the object came into being
pub literal_fine : (type : CTy) (line : ℕ) (list : InitialiserListTree) (before two : CScope) (stored : List CStored) (literals object : ℕ) (inside : Bool) →
    inside ≡ before.in_function → literals ≡ length before.literals → object ≡ before.next_object →
    walks.list_walk (object_of_type (not inside) type) [] list (with_literal type before) ≡ fine stored two →
    init_steps.literal_ended literals object line type stored two ≡ walks.literal_walk type line list before
unfolding check_chain check_here check_becomes check_gives
literal_fine type line list before two stored literals object inside i l o e =
    ap (λ n. init_steps.literal_ended n object line type stored two) l
    ∙ ap (λ n. init_steps.literal_ended (length before.literals) n line type stored two) o
    ∙ ap (λ walked. check_behind walked (λ one. walk.literal_ends Check check_gives check_chain check_here check_becomes check_look before line type one))
    (sym (ap (λ b. walks.list_walk (object_of_type (not b) type) [] list (with_literal type before)) (sym i) ∙ e))

pub literal_stops : (type : CTy) (line : ℕ) (list : InitialiserListTree) (before : CScope) (inside : Bool) (refusal : Refusal) → inside ≡ before.in_function →
    walks.list_walk (object_of_type (not inside) type) [] list (with_literal type before) ≡ stops refusal → walks.literal_walk type line list before ≡ stops refusal
unfolding check_chain check_here check_becomes check_gives
literal_stops type line list before inside refusal i e =
    ap (λ walked. check_behind walked (λ one. walk.literal_ends Check check_gives check_chain check_here check_becomes check_look before line type one))
    (ap (λ b. walks.list_walk (object_of_type (not b) type) [] list (with_literal type before)) (sym i) ∙ e)

-- what follows two steps follows the first of them and then the second
joined : {A B C : Type 0} (walked : CChecked A) (next : A → Check B) (last : B → Check C) →
    check_behind walked (λ one. λ scope. check_behind (next one scope) last) ≡ check_behind (check_behind walked next) last
joined (stops refusal) next last = refl
joined (fine one scope) next last = refl

-- an entry of a list: the part that it is for, and then its value
pub entry_is : (target : CTarget) (filling : CFilling) (entry : EntryTree) (before : CScope) →
    walks.entry_walk target filling entry before
    ≡ check_behind (walks.entry_part target filling entry before) (λ at. walks.given_walk target at filling (walks.initialiser_in entry))
unfolding check_chain check_gives
entry_is target filling (Entry no_designators init lines) before = refl
entry_is target filling (Entry (more_designators first others) init lines) before =
    joined (walks.designator_walk (designated_from target) first before) (λ at. walks.designators_walk at others) (λ at. walks.given_walk target at filling init)

pub entry_fine : (target : CTarget) (filling : CFilling) (entry : EntryTree) (before : CScope) (at : Option CAt) (after : CScope) →
    walks.entry_part target filling entry before ≡ fine at after → walks.given_walk target at filling (walks.initialiser_in entry) after ≡ walks.entry_walk target filling entry before
entry_fine target filling entry before at after e =
    sym (entry_is target filling entry before ∙ ap (λ walked. check_behind walked (λ one. walks.given_walk target one filling (walks.initialiser_in entry))) e)
