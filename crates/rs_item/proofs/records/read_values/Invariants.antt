use Rattle.std.proofs.Common.{◌≡◌, ◌-◌, length}
use Rattle.rs_expr.specs.Reading.{many, part}
use Rattle.rs_item.specs.Items.{ends_brackets, read_values, value}
use Rattle.rs_item.proofs.records.read_values.Given as goal

abbrev pub invariant-loop-turn : goal.invariant-loop-turn
invariant-loop-turn l = many ends_brackets (part value) (length l.initial.cursor - l._turn) l.list l.cursor ≡ read_values l.initial.cursor
