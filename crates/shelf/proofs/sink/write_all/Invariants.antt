use Rattle.std.proofs.Common.{◌≡◌, ℕ, ◌-◌, ◌≤◌, List, take, length}
use Rattle.shelf.specs.Sink.{SinkState, Appended}
use Rattle.shelf.proofs.sink.write_all.Given as goal

-- the sink has taken the first bytes of the piece, and no call of it has failed
pub record IsUnderWay (piece : List ℕ) (done : ℕ) (before now : SinkState) : Type 0 where
  pub within : done ≤ length piece
  pub taken : Appended (take done piece) before.written now.written
  pub later : before.faults ≤ now.faults
  pub still : now.faults ≡ before.faults

abbrev pub invariant-loop-done : goal.invariant-loop-done
invariant-loop-done g l = IsUnderWay l.piece l.done (g.S.Sink.state l.initial.sink) (g.S.Sink.state l.sink)

abbrev pub decreases-loop-done : goal.decreases-loop-done
decreases-loop-done g l = length l.piece - l.done
