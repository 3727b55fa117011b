use Rattle.std.proofs.Common.{arith}
use Rattle.cx_place.proofs.Entries.{none_of_many}
use Rattle.cx_place.proofs.lists.holds_text.Goals as goal

pub returns-in_default-2 : goal.returns-in_default-2
returns-in_default-2 c = none_of_many c.args.entries.now (omega (arith, c.in_default.len_at_least))
