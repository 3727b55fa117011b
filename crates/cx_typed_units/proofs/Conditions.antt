-- Expressions that control statements (ISO C99, 6.8.4, 6.8.5).
use Rattle.std.proofs.Common.{◌≡◌, ℕ, false, ◌||◌, List, refl, sym, ◌∙◌, subst}
use Rattle.cx_core.specs.Statements.{IsCondition}
use Rattle.cx_core.specs.Trees.{CTypes, CExpr, type_of}
use Rattle.cx_core.specs.Typing.{CHome}
use Rattle.cx_rules.specs.declared.kinds.OperandKind.{OperandKind}
use Rattle.cx_rules.specs.declared.kinds.OperandKind.TheVariants.{Value, Place, Function, VoidPlace}
use Rattle.cx_rules.proofs.UnitNodesAgree.{s_controls_seen, s_tested_begins, s_begun_with}
use Rattle.cx_rules.specs.Nodes.{controls_node}
use Rattle.cx_rules.specs.Operands.{COperand, value_of, value_type, gives_nothing, holds_nothing}
use Rattle.cx_rules.specs.Pieces.{Done}
use Rattle.cx_rules.specs.Readings.{Seen, seen_gives, seen_chain, seen_here}
use Rattle.cx_rules.specs.Scope.{CScope, entered}
use Rattle.cx_rules.specs.UnitWalk.{CTested, literals_since}
use Rattle.cx_tree.specs.Trees.{ExprTree}
use Rattle.cx_typed.proofs.Goes.{go_gives, go_here_then, go_chain, go_settled}
use Rattle.cx_typed.proofs.Promoted.{neither, not_not, scalar_there}
use Rattle.cx_typed.proofs.Single.{no_less}
use Rattle.cx_typed.proofs.Values.{value_is, value_type_is}
use Rattle.cx_typed.proofs.Walked.{known_stays, integer_stays}
use Rattle.cx_typed.specs.Growth.{Grows}
use Rattle.cx_typed.specs.Operands.{IsOperandType, IsOperandTypeBy}
use Rattle.cx_typed.specs.Scopes.{Serves}
use Rattle.cx_typed.specs.Unbroken.{IsUnbroken}
use Rattle.cx_typed.specs.Walked.{IsGood, Ends, ExprGoes}
use Rattle.cx_typed_units.proofs.Around.{good_entered}
use Rattle.cx_typed_units.proofs.Valued.{IsValued, valued}
use Rattle.cx_typed_units.proofs.Whole.{go_scope}
use Rattle.cx_typed_units.specs.Stretches.{Leads, DeclaresNone}

-- ---- operands in a later scope

module _ (opens : List ℕ) (before after : CTypes) (grows : Grows opens before after) (unit : ℕ) where
  later_by : (kind : OperandKind) (core : CExpr) → IsOperandTypeBy kind opens before unit core → IsOperandTypeBy kind opens after unit core
  later_by Value core held = record { known = known_stays opens before after grows unit (type_of core) held.known; plain = held.plain; form = held.form }
  later_by Place core held = record {
    known = known_stays opens before after grows unit (type_of core) held.known;
    object = held.object;
    bits = λ is. integer_stays opens before after grows unit (type_of core) held.known.settled (held.bits is);
    followed = held.followed;
  }
  later_by Function core held = record { known = known_stays opens before after grows unit (type_of core) held.known; target = held.target }
  later_by VoidPlace core held = record { known = known_stays opens before after grows unit (type_of core) held.known; target = held.target }

operand_on : (opens : List ℕ) (before after : CScope) (operand : COperand) → Leads opens before after → IsOperandType opens before.types before.unit operand → IsOperandType opens after.types after.unit operand
operand_on opens before after operand leads held =
    subst (λ unit. IsOperandType opens after.types unit operand) (sym leads.declares.unit_is)
    (later_by opens before.types after.types leads.declares.grows before.unit operand.kind operand.core held)

-- ---- what controls a statement is scalar, where it is asked behind the statement

module _ (opens : List ℕ) (tree : ExprTree) (before middle : CScope) (test : COperand) (held : IsValued opens tree before test middle)
    (after : CScope) (leads : Leads opens middle after) (none : DeclaresNone middle after) (home : CHome) (serves : Serves home opens before middle) (grows : Grows opens after.types home.program.types) where
  pub operand_later : IsOperandType opens after.types home.unit test
  operand_later =
      subst (λ unit. IsOperandType opens after.types unit test) (leads.declares.unit_is ∙ (held.leads.declares.unit_is ∙ sym serves.unit_is))
      (operand_on opens middle after test leads held.is_expr.known)

  pub condition_is : IsUnbroken after after.types (controls_node test) → IsCondition home (value_of test)
  condition_is unbroken = (
    value_is opens after.types home grows test operand_later
        (no_less (holds_nothing after.types test) (neither {a = gives_nothing test || false} {b = holds_nothing after.types test || false} (no_less _ unbroken.k10)).1) (held.is_expr.typed home serves),
    scalar_there opens after.types home grows (value_type test) (value_type_is opens after.types home.unit test operand_later) (not_not unbroken.k18),
  )

-- ---- the walk

pub go_controls : (line : ℕ) (test : COperand) (A : Type 0) (next : Done → Seen A) (scope : CScope) (Post : A → CScope → Type 0)
    → (IsUnbroken scope scope.types (controls_node test) → Ends (next tt) scope Post) → Ends (seen_chain Done A (s_controls_seen line test) next) scope Post
go_controls line test A next scope Post held =
    go_chain _ _ _ _ scope (λ done after. (IsUnbroken scope scope.types (controls_node test)) × (after ≡ scope)) _
    (go_here_then _ _ scope _ (go_settled _ scope _ _ _ scope _ (λ unbroken. (unbroken, refl))))
    (λ done after at. subst (λ one. Ends (next done) one Post) (sym at.1) (held at.0))

-- the literals of the expression are known behind it
pub go_begun : (before : CScope) (test : COperand) (A : Type 0) (next : CTested → Seen A) (scope : CScope) (Post : A → CScope → Type 0)
    → Ends (next (record { before = before; test = test; literals = literals_since before scope })) scope Post → Ends (seen_chain CTested A (s_begun_with before test) next) scope Post
unfolding seen_chain seen_here seen_gives
go_begun before test A next scope Post held = record { ends = λ fine. held.ends fine }

record IsBegunWith (opens : List ℕ) (tree : ExprTree) (before start : CScope) (begun : CTested) (middle : CScope) : Type 0 where
  test : COperand
  begun_is : begun ≡ record { before = before; test = test; literals = literals_since before middle }
  held : IsValued opens tree start test middle

-- a statement begins with the expression that controls it
pub go_tested : (opens : List ℕ) (tree : ExprTree) (A : Type 0) (next : CTested → Seen A) (scope : CScope) (Post : A → CScope → Type 0) → ExprGoes tree → IsGood opens scope
    → ((test : COperand) (middle : CScope) → IsValued opens tree (entered scope) test middle
    → Ends (next (record { before = scope; test = test; literals = literals_since scope middle })) middle Post)
    → Ends (seen_chain CTested A (s_tested_begins tree) next) scope Post
go_tested opens tree A next scope Post goes good held =
    go_chain _ _ _ _ scope (IsBegunWith opens tree scope (entered scope)) _
    (go_scope _ _ scope _ (go_chain _ _ _ _ (entered scope) (IsValued opens tree (entered scope)) _ (valued opens tree (entered scope) goes (good_entered opens scope good)) (λ test middle made.
    go_here_then _ _ middle _ (go_gives _ middle _ (record { test = test; begun_is = refl; held = made })))))
    (λ begun middle at. subst (λ one. Ends (next one) middle Post) (sym at.begun_is) (held at.test middle at.held))
