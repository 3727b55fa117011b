use Rattle.lift_calls_entry.proofs.Entries.{entries_owe}
use Rattle.lift_calls_entry.proofs.laws.entries_owe.Goals as goal

pub returns : goal.returns
returns c = entries_owe
