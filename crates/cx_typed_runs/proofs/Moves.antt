-- Moves of a typed function stand somewhere in it (ISO C99, 6.8).
use Rattle.cx_core.specs.Trees.{CTy, CFun, CProgram}
use Rattle.cx_typed_runs.proofs.MovesChosen.{chosen_stands}
use Rattle.cx_typed_runs.proofs.MovesNext.{next_stands, turned_stands}
use Rattle.cx_typed_runs.proofs.MovesPuts.{puts_stand}
use Rattle.cx_typed_runs.proofs.MovesReached.{reached_stands, begun_stands}
use Rattle.cx_typed_runs.proofs.Standing.{MovesStand}

pub moves_stand : (program : CProgram) (one : CFun) (result : CTy) → MovesStand program one result
moves_stand program one result = record {
  next = λ held rest site here. next_stands program one result held rest site.levels site.bottom here;
  turned = λ held rest site here is. turned_stands program one result held rest site here is;
  reached_it = λ held rest site stmt here is. reached_stands program one result held rest site stmt here is;
  has_begun = λ held rest it new linked is same memory allocated owned. begun_stands program one result held rest it new linked is same memory allocated owned;
  chosen_by = λ held rest site node operand here is given chooses. chosen_stands program one result held rest site node operand here is given chooses;
  puts_left = λ held rest site object number puts here found there are. puts_stand program one result held rest site object number puts here found there are;
}
