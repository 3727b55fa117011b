-- What values of the declared types say of nodes.
use Rattle.lift_exprs.specs.Lifted as spec
use Rattle.lift_nodes.specs.declared.branches.Deciding.{Deciding}
use Rattle.lift_nodes.specs.declared.branches.Deciding.TheVariants.{WhereTrue, WhereFalse}
use Rattle.lift_nodes.specs.declared.choices.Choice.{Choice}
use Rattle.lift_nodes.specs.Texts.{ChoiceText}
use Rattle.lift_stores.specs.Views.{text_view}

abbrev pub deciding_view : Deciding → spec.Deciding
deciding_view WhereTrue = spec.where_true
deciding_view WhereFalse = spec.where_false

-- what is written for the parts of `?:`
abbrev pub choice_view : Choice → ChoiceText
choice_view three = record { test = text_view three.test; first = text_view three.first; second = text_view three.second }
