use Rattle.std.proofs.Common.{rules, ◌≡◌, refl, sym, ap, subst, ◌∙◌, option_map, map}
use Rattle.cx_context.specs.Checks.{Checks}
use Rattle.cx_context.specs.Views.{scope_of}
use Rattle.cx_core.specs.Views.{view_type}
use Rattle.cx_init.specs.Views.{view_filling, view_target, view_stored, view_filled}
use Rattle.cx_init_steps.proofs.Parts.{text_fills, text_is_value, whole_fills, whole_is_value}
use Rattle.cx_init_steps.specs.Steps as steps
use Rattle.cx_operands.specs.Views.{view_operand}
use Rattle.cx_parts.specs.Views.{view_at}
use Rattle.cx_rules.specs.Initial.{joined_bytes}
use Rattle.cx_rules.specs.Pieces.{landed, text_landed, is_array_at, base_is_text, whole_at, filled_object}
use Rattle.cx_rules.specs.Readings.{check_chain, check_here}
use Rattle.cx_init_steps.proofs.values.whole_given.Goals as goal

pub returns : goal.returns
unfolding check_chain check_here
returns c =
    let found : option_map view_at c.in_ok-at.at ≡ whole_at (view_target c.args.target.now) = search rules in
    subst (λ at. Checks view_filling c.whole_value.result (scope_of c.args.context.now) (steps.whole_value_at c.args.line (view_target c.args.target.now) (view_operand c.args.value) at (scope_of c.args.context.now) (scope_of c.args.context.now))) found (search rules)
