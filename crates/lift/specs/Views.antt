-- What values of the declared types say of the parts of an expression.
use Rattle.std.specs.Prelude.{map}
use Rattle.lift.specs.Texts.{ArgumentsText, BothTexts}
use Rattle.lift.specs.declared.walk.Both.{Both}
use Rattle.lift_call_forms.specs.Views.{argument_view}
use Rattle.lift_call_forms.specs.declared.arguments.Arguments.{Arguments}
use Rattle.lift_stores.specs.Views.{text_view}
use Rattle.rs_tree.specs.Views.{stmt_view}

abbrev pub both_view : Both → BothTexts
both_view two = record { first = text_view two.first; second = text_view two.second }

-- arguments, and the statements in front of them
abbrev pub arguments_view : Arguments → ArgumentsText
arguments_view one = record { body = map stmt_view one.written.body; list = map argument_view one.list; next = one.written.next }
