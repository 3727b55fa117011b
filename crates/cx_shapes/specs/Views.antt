-- What specifiers, steps and declarators stand for.
use Rattle.std.specs.Prelude.{map, reverse, option_map}
use Rattle.cx_core.specs.Trees.{CTyForm, void, basic}
use Rattle.cx_core.specs.Views.{view_type}
use Rattle.cx_rules.specs.Shapes.{CSpecs, CStep, to_pointer, to_array, to_function, CShape}
use Rattle.cx_scope.specs.Views.{view_declared, view_param}
use Rattle.cx_shapes.specs.declared.forms.Form.{Form}
use Rattle.cx_shapes.specs.declared.forms.Form.TheVariants as form
use Rattle.cx_shapes.specs.declared.specifiers.Specs.{Specs}
use Rattle.cx_shapes.specs.declared.steps.Shape.{Shape}
use Rattle.cx_shapes.specs.declared.steps.Step.{Step}
use Rattle.cx_shapes.specs.declared.steps.Step.TheVariants as step

abbrev pub view_form : Form → CTyForm
view_form form.Void = void
view_form (form.Basic which) = basic which

abbrev pub view_specs : Specs → CSpecs
view_specs one = record {
  words = one.words;
  types = map view_type one.types;
  storage = one.storage;
  is_const = one.is_const;
  is_restrict = one.is_restrict;
  is_inline = one.is_inline;
}

abbrev pub view_step : Step → CStep
view_step (step.Pointer is_const is_restrict) = to_pointer is_const is_restrict
view_step (step.Array count) = to_array count
view_step (step.Function params variadic within) = to_function (option_map (map view_param) params) variadic (map view_declared within)

-- the step from the type of the specifiers is held last
abbrev pub view_shape : Shape → CShape
view_shape one = record { name = one.name; steps = reverse (map view_step one.steps) }
