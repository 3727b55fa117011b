use Rattle.std.proofs.Common.{◌≡◌, ◌||◌, ◌&&◌, not, ℕ, List, drop}
use Rattle.std.specs.Prelude.{bytes_eq}
use Rattle.rs_text.specs.Names.{is_among}
use Rattle.emit_stmts.proofs.ends.without.Given as goal

abbrev pub invariant-loop-one : goal.invariant-loop-one
invariant-loop-one l = (other : List ℕ) → (is_among l.made other || (not (bytes_eq l.label other) && is_among (drop l.one-index l.labels) other)) ≡ (not (bytes_eq l.label other) && is_among l.labels other)
