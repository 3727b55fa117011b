-- Expressions in statements: what they leave of a scope, and the statements that they are (ISO C99, 6.8.3).
use Rattle.std.proofs.Common.{◌≡◌, ℕ, Bool, true, false, ◌||◌, if◌then◌else◌, List, refl, sym, ap, ◌∙◌, subst}
use Rattle.cx_core.specs.Statements.{IsVoid, IsVoidExpr}
use Rattle.cx_core.specs.Trees.{CTy, ty, void, basic, enum_type, pointer, array, record_type, function, CExpr, expr, convert, type_of, place_of}
use Rattle.cx_core.specs.Typing.{CHome, IsTyped}
use Rattle.cx_rules.proofs.UnitNodesAgree.{s_dropped_walk}
use Rattle.cx_rules.specs.Operands.{COperand, value_of, holds_nothing, dropped}
use Rattle.cx_rules.specs.Scope.{CScope}
use Rattle.cx_rules.specs.Types.{is_void, void_type}
use Rattle.cx_rules.specs.Units.{seen_expr}
use Rattle.cx_tree.specs.Trees.{ExprTree}
use Rattle.cx_typed.proofs.Goes.{go_here_then, go_chain, go_settled}
use Rattle.cx_typed.proofs.Single.{no_less}
use Rattle.cx_typed.proofs.Values.{value_is}
use Rattle.cx_typed.specs.Operands.{IsOperandType}
use Rattle.cx_typed.specs.Scopes.{Serves, Passes}
use Rattle.cx_typed.specs.Walked.{IsGood, Ends, IsExpr, ExprGoes}
use Rattle.cx_typed_units.proofs.RestTrees.{kept_expr_walk}
use Rattle.cx_typed_units.proofs.Rests.{rest_leads}
use Rattle.cx_typed_units.proofs.Stretches.{passes_declare}
use Rattle.cx_typed_units.specs.Rest.{CRest, DefinesNone}
use Rattle.cx_typed_units.specs.Stretches.{Leads, DeclaresNone}

pub record IsValued (opens : List ℕ) (tree : ExprTree) (before : CScope) (operand : COperand) (after : CScope) : Type 0 where
  pub is_expr : IsExpr opens tree before operand after
  pub leads : Leads opens before after
  pub none : DeclaresNone before after
  pub body_is : after.body ≡ before.body
  pub defined : DefinesNone before.mentions after.mentions

pub valued : (opens : List ℕ) (tree : ExprTree) (scope : CScope) → ExprGoes tree → IsGood opens scope → Ends (seen_expr tree) scope (IsValued opens tree scope)
valued opens tree scope goes good = record {
  ends = λ fine.
      let made = (goes opens scope good).ends fine in
      let stays = (kept_expr_walk tree scope).kept in
      record {
        is_expr = made;
        leads = rest_leads opens scope (seen_expr tree scope).scope (passes_declare opens scope (seen_expr tree scope).scope made.passes) made.passes.declared stays made.passes.numbers made.made;
        none = made.passes.declared;
        body_is = ap {A = CRest} (λ one. one.body) stays.rest_is;
        defined = stays.defined;
      };
}

-- the value of an expression, in a program that serves its stretch
pub value_served : (opens : List ℕ) (tree : ExprTree) (before after : CScope) (operand : COperand) → IsExpr opens tree before operand after → holds_nothing after.types operand ≡ false
    → (home : CHome) → Serves home opens before after → IsTyped home (value_of operand)
value_served opens tree before after operand made holds home serves =
    value_is opens after.types home serves.grows operand
    (subst (λ unit. IsOperandType opens after.types unit operand) (made.passes.unit_is ∙ sym serves.unit_is) made.known) holds (made.typed home serves)

-- ---- values that aren't taken (6.8.3p2)

pub void_form : (type : CTy) → is_void type ≡ true → IsVoid type
void_form (ty void is_const) is = refl
void_form (ty (basic which) is_const) is = absurd cc
void_form (ty (enum_type number) is_const) is = absurd cc
void_form (ty (pointer to) is_const) is = absurd cc
void_form (ty (array element length) is_const) is = absurd cc
void_form (ty (record_type number) is_const) is = absurd cc
void_form (ty (function result params variadic) is_const) is = absurd cc

dropped_by : (home : CHome) (value : CExpr) (found : Bool) → is_void (type_of value) ≡ found → IsTyped home value
    → IsVoidExpr home (if found then value else expr void_type (place_of value) (convert value))
dropped_by home value true is typed = (typed, void_form (type_of value) is)
dropped_by home value false is typed = ((tt, (typed, record { plain = refl; allowed = tt })), refl)

pub dropped_is : (home : CHome) (value : CExpr) → IsTyped home value → IsVoidExpr home (dropped value)
dropped_is home value typed = dropped_by home value (is_void (type_of value)) refl typed

pub record IsDropped (opens : List ℕ) (before : CScope) (core : CExpr) (after : CScope) : Type 0 where
  pub good : IsGood opens after
  pub leads : Leads opens before after
  pub none : DeclaresNone before after
  pub body_is : after.body ≡ before.body
  pub passes : Passes opens before after
  pub defined : DefinesNone before.mentions after.mentions
  pub typed : (home : CHome) → Serves home opens before after → IsVoidExpr home core

pub dropped_goes : (opens : List ℕ) (tree : ExprTree) (scope : CScope) → ExprGoes tree → IsGood opens scope → Ends (s_dropped_walk tree) scope (IsDropped opens scope)
dropped_goes opens tree scope goes good =
    go_chain _ _ _ _ scope (IsValued opens tree scope) _ (valued opens tree scope goes good) (λ one after held.
    go_here_then _ _ after _ (go_settled _ after _ _ _ after (IsDropped opens scope) (λ unbroken. record {
      good = held.is_expr.good;
      leads = held.leads;
      none = held.none;
      body_is = held.body_is;
      passes = held.is_expr.passes;
      defined = held.defined;
      typed = λ home serves.
          dropped_is home (value_of one)
          (value_served opens tree scope after one held.is_expr (no_less (holds_nothing after.types one) (no_less (holds_nothing after.types one || false) unbroken.k10)) home serves);
    })))
