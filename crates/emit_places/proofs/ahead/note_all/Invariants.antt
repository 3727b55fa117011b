use Rattle.std.proofs.Common.{◌≡◌, ℕ, drop, if◌then◌else◌}
use Rattle.emit_places.specs.Ahead.{place_in}
use Rattle.reloop.specs.Graphs.{is_in}
use Rattle.emit_places.proofs.ahead.note_all.Given as goal

abbrev pub invariant-loop-node : goal.invariant-loop-node
invariant-loop-node l = (node : ℕ) → (if is_in node (drop l.node-index l.nodes) then l.number else place_in l.places node) ≡ (if is_in node l.nodes then l.number else place_in l.initial.places node)
