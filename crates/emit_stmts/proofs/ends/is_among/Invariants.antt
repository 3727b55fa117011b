use Rattle.std.proofs.Common.{◌≡◌, drop}
use Rattle.rs_text.specs.Names.{is_among}
use Rattle.emit_stmts.proofs.ends.is_among.Given as goal

abbrev pub invariant-loop-one : goal.invariant-loop-one
invariant-loop-one l = is_among (drop l.one-index l.labels) l.label ≡ is_among l.labels l.label
