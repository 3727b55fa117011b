-- The walk over expressions, form by form (ISO C99, 6.5).
use Rattle.std.proofs.Common.{◌≡◌, ℕ, ◌<◌, ℤ, true, false, List, [], ◌∷◌, Option, None, Some, refl}
use Rattle.std.specs.Prelude.{IfSome}
use Rattle.cr_base.specs.Scalar.{IsInRange}
use Rattle.cx_core.specs.declared.expr.Op2.{Op2}
use Rattle.cx_lex.specs.declared.token.Punct.{Punct}
use Rattle.cx_lex.specs.declared.token.Punct.TheVariants as punct
use Rattle.cx_lex.specs.declared.token.Ty0.{Ty0}
use Rattle.cx_lex.specs.Numbers.{above}
use Rattle.cx_rules.proofs.NodesAgree.{s_unary_seen, s_binary_seen, s_assign_seen}
use Rattle.cx_rules.specs.Lines.{own_line, expr_line}
use Rattle.cx_rules.specs.Meanings.{is_comparison}
use Rattle.cx_rules.specs.Operands.{COperand, value_of}
use Rattle.cx_rules.specs.Pairs.{pairing}
use Rattle.cx_rules.specs.Pieces.{at_line, CUnary, takes_address, follows, computes, unary_of, CBinary, tests_both, tests_either, operates, binary_of, assignment_of}
use Rattle.cx_rules.specs.Scope.{CScope}
use Rattle.cx_tree.specs.Trees.{ExprTree, Number, Letter, Paren, Index, Dot, Arrow, PostUp, PostDown, PreUp, PreDown, Unary, Binary, Cond, Assign, Comma}
use Rattle.cx_typed.proofs.Constants.{constants}
use Rattle.cx_typed.proofs.Goes.{go_gives, go_here_then, go_chain, go_settled}
use Rattle.cx_typed.proofs.OfNumbers.{index_none, dot_none, arrow_none, address_none, follows_none, unary_numbers, binary_numbers, assigned_none, choice_numbers}
use Rattle.cx_typed.proofs.Operators.{operators}
use Rattle.cx_typed.proofs.Scopes.{stays_itself}
use Rattle.cx_typed.specs.Constants.{int_scalar}
use Rattle.cx_typed.proofs.Walked.{standing_of, one_more, just_one, just_two, node_is, constant_is}
use Rattle.cx_typed.specs.Walked.{Ends, IsExpr, AreExprs, ExprGoes}

-- ---- forms

pub number_goes : (value : ℕ) (type : Ty0) (lines : List ℕ) → value < above type → ExprGoes (Number value type lines)
number_goes value type lines fits opens scope good =
    go_here_then _ _ scope _ (go_gives _ scope _
    (constant_is opens (Number value type lines) scope scope (own_line lines) _ (λ is. absurd cc) good (stays_itself opens scope) refl ((constants (standing_of opens scope (own_line lines))).number value type fits)))

pub letter_goes : (value : ℤ) (lines : List ℕ) → IsInRange int_scalar value → ExprGoes (Letter value lines)
letter_goes value lines fits opens scope good =
    go_here_then _ _ scope _ (go_gives _ scope _
    (constant_is opens (Letter value lines) scope scope (own_line lines) _ (λ is. absurd cc) good (stays_itself opens scope) refl ((constants (standing_of opens scope (own_line lines))).int value fits)))

pub index_goes : (of index : ExprTree) (lines : List ℕ) → ExprGoes of → ExprGoes index → ExprGoes (Index of index lines)
index_goes of index lines first second opens scope good =
    go_chain _ _ _ _ scope (IsExpr opens of scope) _ (first opens scope good) (λ one middle left.
    go_chain _ _ _ _ middle (IsExpr opens index middle) _ (second opens middle left.good) (λ other after right.
    go_here_then _ _ after _ (go_settled _ after (expr_line of) _ _ after _ (λ unbroken.
    node_is opens (Index of index lines) scope after (expr_line of) _ (one ∷ other ∷ []) _ (λ is. absurd cc) (λ held. absurd (index_none after.types (at_line after (expr_line of)) one other after unbroken held)) (just_two opens of index scope middle after one other left right)
    ((operators (standing_of opens after (expr_line of))).index one other) unbroken))))

pub dot_goes : (of : ExprTree) (name lines : List ℕ) → ExprGoes of → ExprGoes (Dot of name lines)
dot_goes of name lines first opens scope good =
    go_chain _ _ _ _ scope (IsExpr opens of scope) _ (first opens scope good) (λ one after left.
    go_here_then _ _ after _ (go_settled _ after (expr_line of) _ _ after _ (λ unbroken.
    node_is opens (Dot of name lines) scope after (expr_line of) _ (one ∷ []) _ (λ is. absurd cc) (λ held. absurd (dot_none after (at_line after (expr_line of)) after.types one name unbroken held))
    (just_one opens of scope after one left) ((operators (standing_of opens after (expr_line of))).dot one name) unbroken)))

pub arrow_goes : (of : ExprTree) (name lines : List ℕ) → ExprGoes of → ExprGoes (Arrow of name lines)
arrow_goes of name lines first opens scope good =
    go_chain _ _ _ _ scope (IsExpr opens of scope) _ (first opens scope good) (λ one after left.
    go_here_then _ _ after _ (go_settled _ after (expr_line of) _ _ after _ (λ unbroken.
    node_is opens (Arrow of name lines) scope after (expr_line of) _ (one ∷ []) _ (λ is. absurd cc) (λ held. absurd (arrow_none after (at_line after (expr_line of)) after.types one name unbroken held))
    (just_one opens of scope after one left) ((operators (standing_of opens after (expr_line of))).arrow one name) unbroken)))

pub post_up_goes : (of : ExprTree) (lines : List ℕ) → ExprGoes of → ExprGoes (PostUp of lines)
post_up_goes of lines first opens scope good =
    go_chain _ _ _ _ scope (IsExpr opens of scope) _ (first opens scope good) (λ one after left.
    go_here_then _ _ after _ (go_settled _ after (expr_line of) _ _ after _ (λ unbroken.
    node_is opens (PostUp of lines) scope after (expr_line of) _ (one ∷ []) _ (λ is. absurd cc) (λ held. absurd held.1) (just_one opens of scope after one left) ((operators (standing_of opens after (expr_line of))).step true true one) unbroken)))

pub post_down_goes : (of : ExprTree) (lines : List ℕ) → ExprGoes of → ExprGoes (PostDown of lines)
post_down_goes of lines first opens scope good =
    go_chain _ _ _ _ scope (IsExpr opens of scope) _ (first opens scope good) (λ one after left.
    go_here_then _ _ after _ (go_settled _ after (expr_line of) _ _ after _ (λ unbroken.
    node_is opens (PostDown of lines) scope after (expr_line of) _ (one ∷ []) _ (λ is. absurd cc) (λ held. absurd held.1) (just_one opens of scope after one left) ((operators (standing_of opens after (expr_line of))).step false true one) unbroken)))

pub pre_up_goes : (of : ExprTree) (lines : List ℕ) → ExprGoes of → ExprGoes (PreUp of lines)
pre_up_goes of lines first opens scope good =
    go_chain _ _ _ _ scope (IsExpr opens of scope) _ (first opens scope good) (λ one after left.
    go_here_then _ _ after _ (go_settled _ after (own_line lines) _ _ after _ (λ unbroken.
    node_is opens (PreUp of lines) scope after (own_line lines) _ (one ∷ []) _ (λ is. absurd cc) (λ held. absurd held.1) (just_one opens of scope after one left) ((operators (standing_of opens after (own_line lines))).step true false one) unbroken)))

pub pre_down_goes : (of : ExprTree) (lines : List ℕ) → ExprGoes of → ExprGoes (PreDown of lines)
pre_down_goes of lines first opens scope good =
    go_chain _ _ _ _ scope (IsExpr opens of scope) _ (first opens scope good) (λ one after left.
    go_here_then _ _ after _ (go_settled _ after (own_line lines) _ _ after _ (λ unbroken.
    node_is opens (PreDown of lines) scope after (own_line lines) _ (one ∷ []) _ (λ is. absurd cc) (λ held. absurd held.1) (just_one opens of scope after one left) ((operators (standing_of opens after (own_line lines))).step false false one) unbroken)))

pub paren_goes : (inner : ExprTree) (lines : List ℕ) → ExprGoes inner → ExprGoes (Paren inner lines)
paren_goes inner lines first opens scope good = record {
  ends = λ fine.
      let made = (first opens scope good).ends fine in
      record { good = made.good; passes = made.passes; known = made.known; typed = made.typed; named = made.named; made = made.made; makes_none = made.makes_none };
}

unary_by : (opens : List ℕ) (op : Punct) (on : ExprTree) (lines : List ℕ) (before after : CScope) (one : COperand) → IsExpr opens on before one after → (how : CUnary)
    → Ends (s_unary_seen (own_line lines) how one) after (IsExpr opens (Unary op on lines) before)
unary_by opens op on lines before after one held takes_address =
    go_here_then _ _ after _ (go_settled _ after (own_line lines) _ _ after _ (λ unbroken.
    node_is opens (Unary op on lines) before after (own_line lines) _ (one ∷ []) _ (λ is. absurd cc) (λ is. absurd (address_none opens after.types after.unit (at_line after (own_line lines)) after one held.known unbroken is))
    (just_one opens on before after one held) ((operators (standing_of opens after (own_line lines))).address one) unbroken))
unary_by opens op on lines before after one held follows =
    go_here_then _ _ after _ (go_settled _ after (own_line lines) _ _ after _ (λ unbroken.
    node_is opens (Unary op on lines) before after (own_line lines) _ (one ∷ []) _ (λ is. absurd cc) (λ is. absurd (follows_none after after.types (at_line after (own_line lines)) one unbroken is))
    (just_one opens on before after one held) ((operators (standing_of opens after (own_line lines))).follows one) unbroken))
unary_by opens op on lines before after one held (computes which) =
    go_here_then _ _ after _ (go_settled _ after (own_line lines) _ _ after _ (λ unbroken.
    node_is opens (Unary op on lines) before after (own_line lines) _ (one ∷ []) _ (λ is. absurd cc) (λ is. (unary_numbers (at_line after (own_line lines)) after.types which one is, tt))
    (just_one opens on before after one held) ((operators (standing_of opens after (own_line lines))).unary which one) unbroken))

pub unary_goes : (op : Punct) (on : ExprTree) (lines : List ℕ) → ExprGoes on → ExprGoes (Unary op on lines)
unary_goes op on lines first opens scope good =
    go_chain _ _ _ _ scope (IsExpr opens on scope) _ (first opens scope good) (λ one after held. unary_by opens op on lines scope after one held (unary_of op))

binary_by : (opens : List ℕ) (left : ExprTree) (op : Punct) (right : ExprTree) (lines : List ℕ) (before after : CScope) (one other : COperand) → AreExprs opens before (one ∷ other ∷ []) after
    → (how : CBinary) → Ends (s_binary_seen (expr_line left) how one other) after (IsExpr opens (Binary left op right lines) before)
binary_by opens left op right lines before after one other all tests_both =
    go_here_then _ _ after _ (go_settled _ after (expr_line left) _ _ after _ (λ unbroken.
    node_is opens (Binary left op right lines) before after (expr_line left) _ (one ∷ other ∷ []) _ (λ is. absurd cc) (λ held. (held.1.0, (held.1.1, tt))) all
    ((operators (standing_of opens after (expr_line left))).both one other) unbroken))
binary_by opens left op right lines before after one other all tests_either =
    go_here_then _ _ after _ (go_settled _ after (expr_line left) _ _ after _ (λ unbroken.
    node_is opens (Binary left op right lines) before after (expr_line left) _ (one ∷ other ∷ []) _ (λ is. absurd cc) (λ held. (held.1.0, (held.1.1, tt))) all
    ((operators (standing_of opens after (expr_line left))).either one other) unbroken))
binary_by opens left op right lines before after one other all (operates which) =
    go_here_then _ _ after _ (go_settled _ after (expr_line left) _ _ after _ (λ unbroken.
    node_is opens (Binary left op right lines) before after (expr_line left) _ (one ∷ other ∷ []) _ (λ is. absurd cc) (λ held. (let parts = binary_numbers after.types (at_line after (expr_line left)) one other after which unbroken held in (parts.0, (parts.1, tt)))) all
    ((operators (standing_of opens after (expr_line left))).binary which one other) unbroken))

pub binary_goes : (left : ExprTree) (op : Punct) (right : ExprTree) (lines : List ℕ) → ExprGoes left → ExprGoes right → ExprGoes (Binary left op right lines)
binary_goes left op right lines first second opens scope good =
    go_chain _ _ _ _ scope (IsExpr opens left scope) _ (first opens scope good) (λ one middle held.
    go_chain _ _ _ _ middle (IsExpr opens right middle) _ (second opens middle held.good) (λ other after behind.
    binary_by opens left op right lines scope after one other (just_two opens left right scope middle after one other held behind) (binary_of op)))

assign_by : (opens : List ℕ) (left : ExprTree) (op : Punct) (right : ExprTree) (lines : List ℕ) (before after : CScope) (one other : COperand) → AreExprs opens before (one ∷ other ∷ []) after
    → (how : Option Op2) → IfSome how (λ which. is_comparison which ≡ false) → Ends (s_assign_seen (expr_line left) how one other) after (IsExpr opens (Assign left op right lines) before)
assign_by opens left op right lines before after one other all None plain =
    go_here_then _ _ after _ (go_settled _ after (expr_line left) _ _ after _ (λ unbroken.
    node_is opens (Assign left op right lines) before after (expr_line left) _ (one ∷ other ∷ []) _ (λ is. absurd cc) (λ held. absurd held.1) all
    ((operators (standing_of opens after (expr_line left))).assign one other) unbroken))
assign_by opens left op right lines before after one other all (Some which) plain =
    go_here_then _ _ after _ (go_settled _ after (expr_line left) _ _ after _ (λ unbroken.
    node_is opens (Assign left op right lines) before after (expr_line left) _ (one ∷ other ∷ []) _ (λ is. absurd cc) (λ held. absurd (assigned_none (at_line after (expr_line left)) after.types which one other (pairing after.types which (value_of one) (value_of other)) held.1)) all
    ((operators (standing_of opens after (expr_line left))).assign_by which plain one other) unbroken))

-- no operator of a compound assignment is a comparison
assigns_by : (op : Punct) → IfSome (assignment_of op) (λ which. is_comparison which ≡ false)
unfolding assignment_of
assigns_by punct.LeftBracket = tt
assigns_by punct.RightBracket = tt
assigns_by punct.LeftParenthesis = tt
assigns_by punct.RightParenthesis = tt
assigns_by punct.LeftBrace = tt
assigns_by punct.RightBrace = tt
assigns_by punct.Dot = tt
assigns_by punct.Arrow = tt
assigns_by punct.PlusPlus = tt
assigns_by punct.MinusMinus = tt
assigns_by punct.Ampersand = tt
assigns_by punct.Star = tt
assigns_by punct.Plus = tt
assigns_by punct.Minus = tt
assigns_by punct.Tilde = tt
assigns_by punct.Exclamation = tt
assigns_by punct.Slash = tt
assigns_by punct.Percent = tt
assigns_by punct.ShiftLeft = tt
assigns_by punct.ShiftRight = tt
assigns_by punct.Less = tt
assigns_by punct.Greater = tt
assigns_by punct.LessEqual = tt
assigns_by punct.GreaterEqual = tt
assigns_by punct.EqualEqual = tt
assigns_by punct.NotEqual = tt
assigns_by punct.Caret = tt
assigns_by punct.Bar = tt
assigns_by punct.AndAnd = tt
assigns_by punct.BarBar = tt
assigns_by punct.Question = tt
assigns_by punct.Colon = tt
assigns_by punct.Semicolon = tt
assigns_by punct.Ellipsis = tt
assigns_by punct.Equal = tt
assigns_by punct.StarEqual = refl
assigns_by punct.SlashEqual = refl
assigns_by punct.PercentEqual = refl
assigns_by punct.PlusEqual = refl
assigns_by punct.MinusEqual = refl
assigns_by punct.ShiftLeftEqual = refl
assigns_by punct.ShiftRightEqual = refl
assigns_by punct.AmpersandEqual = refl
assigns_by punct.CaretEqual = refl
assigns_by punct.BarEqual = refl
assigns_by punct.Comma = tt

pub assign_goes : (left : ExprTree) (op : Punct) (right : ExprTree) (lines : List ℕ) → ExprGoes left → ExprGoes right → ExprGoes (Assign left op right lines)
assign_goes left op right lines first second opens scope good =
    go_chain _ _ _ _ scope (IsExpr opens left scope) _ (first opens scope good) (λ one middle held.
    go_chain _ _ _ _ middle (IsExpr opens right middle) _ (second opens middle held.good) (λ other after behind.
    assign_by opens left op right lines scope after one other (just_two opens left right scope middle after one other held behind) (assignment_of op) (assigns_by op)))

pub comma_goes : (left right : ExprTree) (lines : List ℕ) → ExprGoes left → ExprGoes right → ExprGoes (Comma left right lines)
comma_goes left right lines first second opens scope good =
    go_chain _ _ _ _ scope (IsExpr opens left scope) _ (first opens scope good) (λ one middle held.
    go_chain _ _ _ _ middle (IsExpr opens right middle) _ (second opens middle held.good) (λ other after behind.
    go_here_then _ _ after _ (go_settled _ after (expr_line left) _ _ after _ (λ unbroken.
    node_is opens (Comma left right lines) scope after (expr_line left) _ (one ∷ other ∷ []) _ (λ is. absurd cc) (λ held. (held.1.0, (held.1.1, tt))) (just_two opens left right scope middle after one other held behind)
    ((operators (standing_of opens after (expr_line left))).comma one other) unbroken))))

pub cond_goes : (test first second : ExprTree) (lines : List ℕ) → ExprGoes test → ExprGoes first → ExprGoes second → ExprGoes (Cond test first second lines)
cond_goes test first second lines h1 h2 h3 opens scope good =
    go_chain _ _ _ _ scope (IsExpr opens test scope) _ (h1 opens scope good) (λ one middle held.
    go_chain _ _ _ _ middle (IsExpr opens first middle) _ (h2 opens middle held.good) (λ other later behind.
    go_chain _ _ _ _ later (IsExpr opens second later) _ (h3 opens later behind.good) (λ last after ends.
    go_here_then _ _ after _ (go_settled _ after (expr_line test) _ _ after _ (λ unbroken.
    node_is opens (Cond test first second lines) scope after (expr_line test) _ (one ∷ other ∷ last ∷ []) _ (λ is. absurd cc)
    (λ held. (let parts = choice_numbers after (at_line after (expr_line test)) after.types one other last unbroken held in (parts.0, (parts.1, (parts.2, tt)))))
    (one_more opens test scope middle after one (other ∷ last ∷ []) held (just_two opens first second middle later after other last behind ends))
    ((operators (standing_of opens after (expr_line test))).choice one other last) unbroken)))))
