-- What the values of src/ stand for in the definitions.
use Rattle.cx_core.specs.Trees.{CExpr, expr, CForm}
use Rattle.cx_core.specs.Views.{view_expr}
use Rattle.cx_mean.specs.Nodes.{CChoice, decided, tests_next, carries_next, truth}
use Rattle.cx_node_steps.specs.declared.choices.Choice.{Choice}
use Rattle.cx_node_steps.specs.declared.choices.Choice.TheVariants as choice

-- what a node of an expression does
abbrev pub form_of : CExpr → CForm
form_of (expr type place form) = form

abbrev pub view_choice : Choice → CChoice
view_choice (choice.Decided holds) = decided (truth holds)
view_choice (choice.Tests second) = tests_next (view_expr second.now)
view_choice (choice.Carries part) = carries_next (view_expr part.now)
