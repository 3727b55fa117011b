use Rattle.std.proofs.Common.{rules, ◌≡◌, refl, sym, ap, subst, ◌∙◌, option_map, map}
use Rattle.cx_context.specs.Checks.{Checks}
use Rattle.cx_context.specs.Views.{scope_of}
use Rattle.cx_core.specs.Views.{view_type}
use Rattle.cx_init.specs.Views.{view_filling, view_target, view_stored, view_filled}
use Rattle.cx_init_steps.proofs.Parts.{text_fills, text_is_value, whole_fills, whole_is_value}
use Rattle.cx_init_steps.specs.Steps as steps
use Rattle.cx_operands.specs.Views.{view_operand}
use Rattle.cx_parts.specs.Views.{view_at}
use Rattle.cx_rules.specs.Initial.{joined_bytes}
use Rattle.cx_rules.specs.Pieces.{landed, text_landed, is_array_at, base_is_text, whole_at, filled_object}
use Rattle.cx_rules.specs.Readings.{check_chain, check_here}
use Rattle.cx_init_steps.proofs.literals.literal_ended.Goals as goal

pub returns-then-is_inside : goal.returns-then-is_inside
unfolding check_chain check_here
returns-then-is_inside c =
    let same : view_filled c.in_ok-filled.filled ≡ filled_object (scope_of c.args.context.now).types (view_type c.args.ty) (map view_stored c.args.stored) = search rules in
    subst (λ filled. Checks view_operand c.inside_ended.result (scope_of c.inside_ended.new.context) (steps.literal_ended_as c.args.begun.literals c.args.begun.object c.args.line (scope_of c.args.context.now) filled (scope_of c.args.context.now))) same c.inside_ended.ensures

pub returns-else-is_inside : goal.returns-else-is_inside
unfolding check_chain check_here
returns-else-is_inside c =
    let same : view_filled c.in_ok-filled.filled ≡ filled_object (scope_of c.args.context.now).types (view_type c.args.ty) (map view_stored c.args.stored) = search rules in
    subst (λ filled. Checks view_operand c.outside_ended.result (scope_of c.outside_ended.new.context) (steps.literal_ended_as c.args.begun.literals c.args.begun.object c.args.line (scope_of c.args.context.now) filled (scope_of c.args.context.now))) same c.outside_ended.ensures
