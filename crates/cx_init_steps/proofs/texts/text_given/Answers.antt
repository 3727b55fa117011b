use Rattle.std.proofs.Common.{rules, ◌≡◌, refl, sym, ap, subst, ◌∙◌, option_map, map}
use Rattle.cx_context.specs.Checks.{Checks}
use Rattle.cx_context.specs.Views.{scope_of}
use Rattle.cx_core.specs.Views.{view_type}
use Rattle.cx_init.specs.Views.{view_filling, view_target, view_stored, view_filled}
use Rattle.cx_init_steps.proofs.Parts.{text_fills, text_is_value, whole_fills, whole_is_value}
use Rattle.cx_init_steps.specs.Steps as steps
use Rattle.cx_operands.specs.Views.{view_operand}
use Rattle.cx_parts.specs.Views.{view_at}
use Rattle.cx_rules.specs.Initial.{joined_bytes}
use Rattle.cx_rules.specs.Pieces.{landed, text_landed, is_array_at, base_is_text, whole_at, filled_object}
use Rattle.cx_rules.specs.Readings.{check_chain, check_here}
use Rattle.cx_init_steps.proofs.texts.text_given.Goals as goal

pub returns-then-is_array_at : goal.returns-then-is_array_at
returns-then-is_array_at c =
    let found : (option_map view_at c.in_ok-found.found) ≡ text_landed (scope_of c.args.context.now).types (option_map view_at c.args.at.now) = search rules in
    let fills : is_array_at (option_map view_at c.in_ok-found.found) ≡ c.is_array_at.result = search rules in
    let bytes : c.bytes-bytes.result.now ≡ joined_bytes c.args.parts.now = search rules in
    subst (λ walked. Checks (λ (_ : Unit {0}). view_filling c.text_given_at.new.filling) c.text_given_at.result (scope_of c.text_given_at.new.context) walked)
    (text_fills c.args.line (view_target c.args.target.now) (option_map view_at c.args.at.now) (option_map view_at c.in_ok-found.found) (view_filling c.args.filling.now) c.args.parts.now c.bytes-bytes.result.now (scope_of c.args.context.now) found bytes (fills ∙ c.if-is_array_at.true))
    (search rules)

pub returns : goal.returns
returns c =
    let found : (option_map view_at c.in_ok-found.found) ≡ text_landed (scope_of c.args.context.now).types (option_map view_at c.args.at.now) = search rules in
    let fills : is_array_at (option_map view_at c.in_ok-found.found) ≡ c.is_array_at.result = search rules in
    subst (λ walked. Checks (λ (_ : Unit {0}). view_filling c.text_as_value.new.filling) c.text_as_value.result (scope_of c.text_as_value.new.context) walked)
    (text_is_value c.args.line (view_target c.args.target.now) (option_map view_at c.args.at.now) (option_map view_at c.in_ok-found.found) (view_filling c.args.filling.now) c.args.parts.now (scope_of c.args.context.now) found (fills ∙ c.if-is_array_at.false))
    c.text_as_value.ensures
