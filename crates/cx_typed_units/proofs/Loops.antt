-- `for` (ISO C99, 6.8.5.3).
use Rattle.std.proofs.Common.{◌≡◌, ℕ, Bool, true, false, ◌&&◌, ◌||◌, List, [], ◌∷◌, ◌++◌, Option, None, Some, refl, sym, ◌∙◌, subst}
use Rattle.std.specs.Prelude.{IfSome}
use Rattle.cx_core.specs.Statements.{CBody, IsCondition, IsVoidExpr, IsForFirst, IsTypedStmtForm, within_loop, objects_in, objects_in_list}
use Rattle.cx_core.specs.Trees.{CExpr, CStmt, stmt, label, case, default, block, expression, if_then, switch, while, do_while, for_loop, goto, continue, break, returns, begin, CStmts, no_stmts, more_stmts}
use Rattle.cx_core.specs.Typing.{CHome}
use Rattle.cx_rules.proofs.UnitNodesAgree.{s_option_walk, s_dropped_option, s_first_walk, s_for_begins, s_for_ends, s_controls_option}
use Rattle.cx_rules.specs.Lines.{own_line, expr_line}
use Rattle.cx_rules.specs.Nodes.{controls_node}
use Rattle.cx_rules.specs.Operands.{COperand}
use Rattle.cx_rules.specs.Pieces.{Done, at_line}
use Rattle.cx_rules.specs.Readings.{Seen, seen_chain}
use Rattle.cx_rules.specs.Scope.{CScope, entered}
use Rattle.cx_rules.specs.UnitWalk.{CWhere, CMeant, CStated, CFor, stated, stmts_of, nothing_meant, as_meant, option_value, in_loop, labels_of, literals_since}
use Rattle.cx_tree.specs.Trees.{ExprTree, OptionExprTree, no_expr, some_expr, ForFirstTree, FirstValue, FirstDeclared, StmtTree, For, ExprStmt}
use Rattle.cx_typed.proofs.Goes.{go_gives, go_here_then, go_chain}
use Rattle.cx_typed.proofs.Scopes.{stays_itself, part_of, passes_on}
use Rattle.cx_typed.proofs.Walked.{passes_keep}
use Rattle.cx_typed.specs.Growth.{Grows}
use Rattle.cx_typed.specs.Scopes.{Serves, Passes}
use Rattle.cx_typed.specs.Unbroken.{IsUnbroken}
use Rattle.cx_typed.specs.Walked.{IsGood, Ends}
use Rattle.cx_typed_units.proofs.Around.{place_on, place_entered}
use Rattle.cx_typed_units.proofs.Blocks.{are_both, are_front, blocks_joined, literal_blocks, serves_of, all_on}
use Rattle.cx_typed_units.proofs.Conditions.{condition_is, go_controls}
use Rattle.cx_typed_units.proofs.Items.{stated_items, declared_items, none_items}
use Rattle.cx_typed_units.proofs.Labels.{labels_from}
use Rattle.cx_typed_units.proofs.Selections.{none_on, place_loop, stands_loop}
use Rattle.cx_typed_units.proofs.Simple.{expression_is}
use Rattle.cx_typed_units.proofs.Once.{for_once, literals_once}
use Rattle.cx_typed_units.proofs.Stretches.{leads_itself, leads_on, backs_first, backs_second}
use Rattle.cx_typed_units.proofs.Valued.{IsValued, valued, IsDropped, dropped_goes}
use Rattle.cx_typed_units.proofs.Whole.{go_scope, go_whole, scoped_goes, IsWhole, whole_is}
use Rattle.cx_typed_units.specs.Rest.{DefinesNone}
use Rattle.cx_typed_units.specs.Statements.{StandsIn, IsPlace, IsStated, StmtGoes, AreItems, AreBegun, IsScoped, OptionGoes, FirstGoes}
use Rattle.cx_typed_units.specs.Stretches.{Leads, DeclaresNone, Backs, IsHeldAt, AreIn}

-- ---- clauses that may be missing

record IsOptionTest (opens : List ℕ) (before : CScope) (test : Option COperand) (after : CScope) : Type 0 where
  good : IsGood opens after
  leads : Leads opens before after
  none : DeclaresNone before after
  body_is : after.body ≡ before.body
  passes : Passes opens before after
  defined : DefinesNone before.mentions after.mentions
  -- what is asked behind the statement
  later : (last : CScope) → Leads opens after last → DeclaresNone after last → (home : CHome) → Serves home opens before after → Grows opens last.types home.program.types
      → IfSome test (λ value. IsUnbroken last last.types (controls_node value)) → IfSome (option_value test) (IsCondition home)

option_tests : (opens : List ℕ) (tree : OptionExprTree) (scope : CScope) → OptionGoes tree → IsGood opens scope → Ends (s_option_walk tree) scope (IsOptionTest opens scope)
option_tests opens no_expr scope goes good = go_gives None scope _ (record {
  good = good;
  leads = leads_itself opens scope;
  none = λ name meant thing is. is;
  body_is = refl;
  passes = stays_itself opens scope;
  defined = λ index one is held. is;
  later = λ last leads none home serves grows unbroken. tt;
})
option_tests opens (some_expr tree) scope goes good =
    go_chain _ _ _ _ scope (IsValued opens tree scope) _ (valued opens tree scope goes good) (λ value after held.
    go_gives (Some value) after _ (record {
      good = held.is_expr.good;
      leads = held.leads;
      none = held.none;
      body_is = held.body_is;
      passes = held.is_expr.passes;
      defined = held.defined;
      later = λ last leads none home serves grows unbroken. condition_is opens tree scope after value held last leads none home serves grows unbroken;
    }))

record IsOptionDropped (opens : List ℕ) (before : CScope) (found : Option CExpr) (after : CScope) : Type 0 where
  good : IsGood opens after
  leads : Leads opens before after
  none : DeclaresNone before after
  body_is : after.body ≡ before.body
  passes : Passes opens before after
  defined : DefinesNone before.mentions after.mentions
  typed : (home : CHome) → Serves home opens before after → IfSome found (IsVoidExpr home)

option_drops : (opens : List ℕ) (tree : OptionExprTree) (scope : CScope) → OptionGoes tree → IsGood opens scope → Ends (s_dropped_option tree) scope (IsOptionDropped opens scope)
option_drops opens no_expr scope goes good = go_gives None scope _ (record {
  good = good;
  leads = leads_itself opens scope;
  none = λ name meant thing is. is;
  body_is = refl;
  passes = stays_itself opens scope;
  defined = λ index one is held. is;
  typed = λ home serves. tt;
})
option_drops opens (some_expr tree) scope goes good =
    go_chain _ _ _ _ scope (IsDropped opens scope) _ (dropped_goes opens tree scope goes good) (λ value after held.
    go_gives (Some value) after _ (record {
      good = held.good;
      leads = held.leads;
      none = held.none;
      body_is = held.body_is;
      passes = held.passes;
      defined = held.defined;
      typed = held.typed;
    }))

-- ---- what it begins with

record IsFirst (opens : List ℕ) (where_is : CWhere) (before : CScope) (all : CMeant) (after : CScope) : Type 0 where
  items : AreItems opens where_is [] before all after
  first_is : IsForFirst (stmts_of all.stmts)
  body_is : after.body ≡ before.body

-- as `Statements` says it
abbrev is_declaration : CStmt → Bool
is_declaration (stmt place objects (begin number puts)) = true
is_declaration (stmt place objects _) = false

abbrev are_declarations : CStmts → Bool
are_declarations no_stmts = true
are_declarations (more_stmts first others) = is_declaration first && are_declarations others

are_begun : (all : List CStmt) → AreBegun all → are_declarations (stmts_of all) ≡ true
are_begun [] begun = refl
are_begun (stmt place objects (begin number puts) ∷ all) begun = are_begun all begun.1
are_begun (stmt place objects (label name inner) ∷ all) begun = absurd begun.0
are_begun (stmt place objects (case value inner) ∷ all) begun = absurd begun.0
are_begun (stmt place objects (default inner) ∷ all) begun = absurd begun.0
are_begun (stmt place objects (block stmts) ∷ all) begun = absurd begun.0
are_begun (stmt place objects (expression value) ∷ all) begun = absurd begun.0
are_begun (stmt place objects (if_then test inner otherwise) ∷ all) begun = absurd begun.0
are_begun (stmt place objects (switch value inner) ∷ all) begun = absurd begun.0
are_begun (stmt place objects (while test inner) ∷ all) begun = absurd begun.0
are_begun (stmt place objects (do_while inner test) ∷ all) begun = absurd begun.0
are_begun (stmt place objects (for_loop first test next inner) ∷ all) begun = absurd begun.0
are_begun (stmt place objects (goto name) ∷ all) begun = absurd begun.0
are_begun (stmt place objects continue ∷ all) begun = absurd begun.0
are_begun (stmt place objects break ∷ all) begun = absurd begun.0
are_begun (stmt place objects (returns value) ∷ all) begun = absurd begun.0

first_of : (one other : Bool) → one ≡ true → (one || other) ≡ true
first_of true other is = refl
first_of false other is = absurd cc

record IsFirstValue (opens : List ℕ) (value : ExprTree) (before : CScope) (one : CStated) (after : CScope) : Type 0 where
  core : CExpr
  one_is : one ≡ stated (at_line after (expr_line value)) (expression (Some core)) (literals_since before after)
  held : IsDropped opens before core after

first_goes : (opens : List ℕ) (where_is : CWhere) (tree : ForFirstTree) (scope : CScope) → FirstGoes tree → IsPlace opens scope where_is → Ends (s_first_walk tree) scope (IsFirst opens where_is scope)
first_goes opens where_is (FirstValue no_expr) scope goes place =
    go_gives nothing_meant scope _ (record { items = none_items opens where_is scope place; first_is = refl; body_is = refl })
first_goes opens where_is (FirstValue (some_expr value)) scope goes place =
    go_chain _ _ _ _ scope (IsFirstValue opens value scope) _
    (go_here_then _ _ scope _ (go_chain _ _ _ _ scope (IsDropped opens scope) _ (dropped_goes opens value scope goes place.good) (λ core after held.
    go_here_then _ _ after _ (go_gives _ after _ (record { core = core; one_is = refl; held = held })))))
    (λ one after at. go_gives _ after _ (subst (λ found. IsFirst opens where_is scope (as_meant found) after) (sym at.one_is) (record {
      items = stated_items opens where_is (ExprStmt (some_expr value) []) scope _ after (expression_is opens where_is value [] scope at.core after at.held);
      first_is = refl;
      body_is = at.held.body_is;
    })))
first_goes opens where_is (FirstDeclared decl) scope goes place = record {
  ends = λ fine.
      let made = (goes opens scope place.good place.orderly place.in_function).ends fine in
      record { items = declared_items opens where_is scope _ _ made; first_is = first_of _ _ (are_begun _ made.begun); body_is = made.body_is };
}

-- ---- the walk

go_controls_option : (line : ℕ) (test : Option COperand) (A : Type 0) (next : Done → Seen A) (scope : CScope) (Post : A → CScope → Type 0)
    → (IfSome test (λ value. IsUnbroken scope scope.types (controls_node value)) → Ends (next tt) scope Post) → Ends (seen_chain Done A (s_controls_option line test) next) scope Post
go_controls_option line None A next scope Post held =
    go_chain _ _ _ _ scope (λ done after. after ≡ scope) _ (go_gives _ scope _ refl) (λ done after at. subst (λ one. Ends (next done) one Post) (sym at) (held tt))
go_controls_option line (Some test) A next scope Post held = go_controls line test A next scope Post held

record IsForBegun (opens : List ℕ) (where_is : CWhere) (scope : CScope) (begun : CFor) (after : CScope) : Type 0 where
  first : CMeant
  behind : CScope
  firsts : IsFirst opens where_is (entered scope) first behind
  test : Option COperand
  middle : CScope
  tests : IsOptionTest opens behind test middle
  next : Option CExpr
  nexts : IsOptionDropped opens middle next after
  begun_is : begun ≡ record { before = scope; first = first; test = test; next = next; literals = literals_since behind after }

for_begun : (opens : List ℕ) (where_is : CWhere) (first : ForFirstTree) (second third : OptionExprTree) (scope : CScope) → FirstGoes first → OptionGoes second → OptionGoes third → IsPlace opens scope where_is
    → Ends (s_for_begins first second third) scope (IsForBegun opens where_is scope)
for_begun opens where_is first second third scope h1 h2 h3 place =
    go_scope _ _ scope _ (go_chain _ _ _ _ (entered scope) (IsFirst opens where_is (entered scope)) _ (first_goes opens where_is first (entered scope) h1 (place_entered opens where_is scope place)) (λ begun behind firsts.
    go_here_then _ _ behind _ (go_chain _ _ _ _ behind (IsOptionTest opens behind) _ (option_tests opens second behind h2 firsts.items.good) (λ test middle tests.
    go_chain _ _ _ _ middle (IsOptionDropped opens middle) _ (option_drops opens third middle h3 tests.good) (λ next after nexts.
    go_here_then _ _ after _ (go_gives _ after _ (record {
      first = begun;
      behind = behind;
      firsts = firsts;
      test = test;
      middle = middle;
      tests = tests;
      next = next;
      nexts = nexts;
      begun_is = refl;
    })))))))

module _ (opens : List ℕ) (where_is : CWhere) (tree : StmtTree) (inner : StmtTree) (line : ℕ) (scope : CScope) (place : IsPlace opens scope where_is) (begun : CFor) (after : CScope)
    (held : IsForBegun opens where_is scope begun after) (one : CStmt) (last : CScope) (body_of : IsScoped opens (in_loop where_is) (labels_of inner) after one last)
    (unbroken : IfSome held.test (λ value. IsUnbroken last last.types (controls_node value))) (labels_same : labels_of tree ≡ labels_of inner) where
  abbrev literals : List ℕ
  literals = literals_since held.behind after

  clauses_lead : Leads opens held.behind after
  clauses_lead = leads_on opens held.behind held.middle after held.tests.leads held.nexts.leads

  clauses_none : DeclaresNone held.behind after
  clauses_none = none_on held.behind held.middle after held.tests.none held.nexts.none

  clauses_define : DefinesNone held.behind.mentions after.mentions
  clauses_define index one is defining = held.tests.defined index one (held.nexts.defined index one is defining) defining

  rest_leads_on : Leads opens held.behind last
  rest_leads_on = leads_on opens held.behind after last clauses_lead body_of.leads

  first_backs : (home : CHome) → Backs home opens (entered scope) last → Backs home opens (entered scope) held.behind
  first_backs home backs = backs_first opens home (entered scope) held.behind last backs rest_leads_on

  behind_backs : (home : CHome) → Backs home opens (entered scope) last → Backs home opens held.behind last
  behind_backs home backs = backs_second opens home (entered scope) held.behind last backs held.firsts.items.leads

  clause_backs : (home : CHome) → Backs home opens (entered scope) last → Backs home opens held.behind after
  clause_backs home backs = backs_first opens home held.behind after last (behind_backs home backs) body_of.leads

  for_form : (body : CBody) → StandsIn where_is body → Backs body.home opens (entered scope) last → IsHeldAt body.home scope.declared
      → AreIn body.home.scope (held.first.objects ++ literals)
      → IsTypedStmtForm body [] (held.first.objects ++ literals) (for_loop (stmts_of held.first.stmts) (option_value held.test) held.next one)
  for_form body stands backs known inside =
      let both = are_both body.home.scope held.first.objects literals inside in
      let early = held.firsts.items.held body.home (first_backs body.home backs) known both.0 in
      let serves = serves_of body.home opens held.behind after (clause_backs body.home backs) clauses_define early both.1 in
      let tested_part : Serves body.home opens held.behind held.middle =
      part_of opens body.home held.behind held.behind held.middle after serves (stays_itself opens held.behind)
      (passes_keep opens _ _ held.middle after held.nexts.passes) in
      let next_part : Serves body.home opens held.middle after =
      part_of opens body.home held.behind held.middle after after serves held.tests.passes
      (passes_keep opens _ _ after after (stays_itself opens after)) in (
        held.firsts.first_is,
        held.firsts.items.typed body (held.first.objects ++ literals) stands (first_backs body.home backs) known both.0 (are_front held.first.objects literals),
        held.tests.later last (leads_on opens held.middle after last held.nexts.leads body_of.leads) (none_on held.middle after last held.nexts.none body_of.none) body.home tested_part backs.grows unbroken,
        held.nexts.typed body.home next_part,
        body_of.typed (within_loop body) (stands_loop where_is body stands) (backs_second opens body.home held.behind after last (behind_backs body.home backs) clauses_lead)
            (all_on body.home held.behind after clauses_none early),
      )

  same_labels : after.body ≡ scope.body
  same_labels = held.nexts.body_is ∙ (held.tests.body_is ∙ held.firsts.body_is)

  for_is : IsWhole opens where_is tree scope last line (held.first.objects ++ literals) (for_loop (stmts_of held.first.stmts) (option_value held.test) held.next one)
  for_is =
      whole_is opens where_is tree scope place last (leads_on opens (entered scope) held.behind last held.firsts.items.leads rest_leads_on) body_of.good (at_line last line) (held.first.objects ++ literals)
      (for_loop (stmts_of held.first.stmts) (option_value held.test) held.next one)
      (λ switchable. labels_from after.body scope.body last.body _ _ _ same_labels (body_of.adds switchable)) (body_of.labels_are ∙ sym labels_same)
      (for_once scope.next_object held.behind.next_object after.next_object last.next_object held.first.objects literals (objects_in_list (stmts_of held.first.stmts)) (objects_in one) held.firsts.items.numbers
      (literals_once held.behind after (passes_on opens held.behind held.middle after held.tests.passes held.nexts.passes).numbers) body_of.numbers)
      (λ home backs. blocks_joined home held.first.objects literals (held.firsts.items.blocks home (first_backs home backs)) (literal_blocks home opens held.behind after (clause_backs home backs)))
      for_form

pub for_goes : (first : ForFirstTree) (second third : OptionExprTree) (inner : StmtTree) (lines : List ℕ) → FirstGoes first → OptionGoes second → OptionGoes third → StmtGoes inner
    → StmtGoes (For first second third inner lines)
for_goes first second third inner lines h1 h2 h3 h4 opens where_is scope place =
    go_chain _ _ _ _ scope (IsForBegun opens where_is scope) _ (for_begun opens where_is first second third scope h1 h2 h3 place) (λ begun after held.
    let leads = leads_on opens (entered scope) held.behind after held.firsts.items.leads (leads_on opens held.behind held.middle after held.tests.leads held.nexts.leads) in
    let inside = place_on opens where_is (entered scope) after (place_entered opens where_is scope place) leads held.nexts.good in
    go_chain _ _ _ _ after (IsScoped opens (in_loop where_is) (labels_of inner) after) _ (scoped_goes opens (in_loop where_is) inner after h4 (place_loop opens where_is after inside)) (λ one last body_of.
    subst (λ found. Ends (s_for_ends found (own_line lines) one) last (IsStated opens where_is (For first second third inner lines) scope)) (sym held.begun_is)
    (go_controls_option (own_line lines) held.test _ _ last _ (λ unbroken.
    go_whole scope (own_line lines) _ (held.first.objects ++ literals_since held.behind after) last _
    (for_is opens where_is (For first second third inner lines) inner (own_line lines) scope place begun after held one last body_of unbroken refl)))))
