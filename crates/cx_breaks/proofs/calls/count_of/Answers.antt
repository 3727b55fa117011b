use Rattle.std.proofs.Common.{sym}
use Rattle.std.proofs.lemmas.List.{length-map}
use Rattle.cx_operands.specs.Views.{view_operand}
use Rattle.cx_breaks.proofs.calls.count_of.Goals as goal

pub returns : goal.returns
returns c = sym (length-map c.args.args.now view_operand)
