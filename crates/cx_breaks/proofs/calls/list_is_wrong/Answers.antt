use Rattle.std.proofs.Common.{◌∙◌, refl}
use Rattle.cx_breaks.proofs.CallRules.{wrong_by_list}
use Rattle.cx_core.specs.Views.{view_type}
use Rattle.cx_breaks.proofs.calls.list_is_wrong.Goals as goal

pub returns : goal.returns
returns c = c.number_is_wrong.ensures ∙ wrong_by_list view_type c.args.list.now c.args.is_variadic _ c.args.count refl
