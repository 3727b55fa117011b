-- What the walk that stops at the first broken node answers says what is broken of all nodes.
use Rattle.std.proofs.Common.{◌≡◌, refl, sym, ap, ◌∙◌, ℕ, ℤ, [], Option, None, Some, Result, Ok, Err}
use Rattle.cr_base.specs.declared.refusal.Refusal.{Refusal}
use Rattle.cr_base.specs.declared.refusal.Stop.{Stop}
use Rattle.cr_base.specs.declared.rule.Rule.TheVariants as rule
use Rattle.cx_check.specs.Tells.{Tells, constant_in, needed, broken_constant, TellsConstant, seen_type}
use Rattle.cx_context.specs.Checks.{Checks}
use Rattle.cx_rules.specs.Laws.{TypeNamesStop}
use Rattle.cx_rules.specs.Operands.{COperand, value_of, constant_of}
use Rattle.cx_rules.specs.Readings.{CSeen, first_broken, or_else, CChecked, stops, fine, verdict_by, verdict}
use Rattle.cx_rules.specs.Scope.{CScope}
use Rattle.cx_rules.specs.Units.{check_type_name}
use Rattle.cx_tree.specs.Trees.{SpecTrees, DeclaratorTree, TypeName}

fine_by : {B : Type 0} (seen : CSeen B) (found : Option Refusal) (meaning : B) (after : CScope) → verdict_by seen found ≡ fine meaning after →
    (found ≡ None) × (after ≡ seen.scope) × (meaning ≡ seen.meaning)
fine_by seen None meaning after e = (refl, cc, cc)
fine_by seen (Some refusal) meaning after e = absurd cc

stops_by : {B : Type 0} (seen : CSeen B) (found : Option Refusal) (refusal : Refusal) → verdict_by seen found ≡ stops refusal → found ≡ Some refusal
stops_by seen None refusal e = absurd cc
stops_by seen (Some other) refusal e = cc

pub told : {A B : Type 0} (view : A → B) (result : Result A Stop) (after : CScope) (seen : CSeen B) (walked : CChecked B) →
    walked ≡ verdict seen → Checks view result after walked → Tells (λ value meaning. view value ≡ meaning) result after seen
unfolding verdict
told view (Ok value) after seen walked e checks = fine_by seen (first_broken seen.nodes) (view value) after (sym e ∙ checks)
told view (Err why) after seen walked e checks = λ refusal is. stops_by seen (first_broken seen.nodes) refusal (sym e ∙ checks refusal is)

-- ---- integer constant expressions

constant_by : (line unit : ℕ) (broken : Option Refusal) (found : Option ℤ) (value : ℤ) → broken ≡ None → found ≡ Some value → or_else broken (needed line unit found) ≡ None
constant_by line unit None None value none some = absurd cc
constant_by line unit None (Some other) value none some = refl
constant_by line unit (Some refusal) found value none some = absurd cc

pub is_constant : (line : ℕ) (seen : CSeen COperand) (after : CScope) (operand : COperand) (value : ℤ) →
    first_broken seen.nodes ≡ None → after ≡ seen.scope → operand ≡ seen.meaning → Some value ≡ constant_of after.types (value_of operand) → TellsConstant (Ok value) after line seen
is_constant line seen after operand value none same meaning found =
    let constant : constant_in seen ≡ Some value =
    sym (ap (λ scope. constant_of scope.types (value_of operand)) same ∙ ap (λ one. constant_of seen.scope.types (value_of one)) meaning) ∙ sym found in
    (constant_by line seen.scope.unit (first_broken seen.nodes) (constant_in seen) value none constant, same, constant)

none_by : (line unit : ℕ) (broken : Option Refusal) (found : Option ℤ) → broken ≡ None → found ≡ None →
    or_else broken (needed line unit found) ≡ Some (record { rule = rule.K17; unit = unit; line = line })
none_by line unit None None none e = refl
none_by line unit None (Some value) none e = absurd cc
none_by line unit (Some refusal) found none e = absurd cc

pub is_no_constant : (line unit : ℕ) (seen : CSeen COperand) (after : CScope) (operand : COperand) →
    first_broken seen.nodes ≡ None → after ≡ seen.scope → operand ≡ seen.meaning → unit ≡ after.unit → None ≡ constant_of after.types (value_of operand) →
    broken_constant line seen ≡ Some (record { rule = rule.K17; unit = unit; line = line })
is_no_constant line unit seen after operand none same meaning unit_is found =
    let constant : constant_in seen ≡ None =
    sym (ap (λ scope. constant_of scope.types (value_of operand)) same ∙ ap (λ one. constant_of seen.scope.types (value_of one)) meaning) ∙ sym found in
    none_by line seen.scope.unit (first_broken seen.nodes) (constant_in seen) none constant
    ∙ ap (λ number. Some (record { rule = rule.K17; unit = number; line = line })) (sym (unit_is ∙ ap (λ scope. scope.unit) same))

broken_by : (line unit : ℕ) (broken : Option Refusal) (found : Option ℤ) (refusal : Refusal) → broken ≡ Some refusal → or_else broken (needed line unit found) ≡ Some refusal
broken_by line unit None found refusal e = absurd cc
broken_by line unit (Some other) found refusal e = e

pub is_broken : (line : ℕ) (seen : CSeen COperand) (refusal : Refusal) → first_broken seen.nodes ≡ Some refusal → broken_constant line seen ≡ Some refusal
is_broken line seen refusal e = broken_by line seen.scope.unit (first_broken seen.nodes) (constant_in seen) refusal e

-- ---- types

pub type_stops : TypeNamesStop → (specs : SpecTrees) (declarator : DeclaratorTree) (scope : CScope) →
    check_type_name (TypeName specs declarator []) scope ≡ verdict (seen_type specs declarator scope)
unfolding seen_type
type_stops law specs declarator scope = law (TypeName specs declarator []) scope
