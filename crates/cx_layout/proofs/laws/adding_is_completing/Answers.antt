use Rattle.cx_layout.proofs.Completing.{completed_layouts, completed_all}
use Rattle.cx_layout.proofs.laws.adding_is_completing.Goals as goal

pub returns : goal.returns
returns c = λ types new_types one layouts new_layouts completes are all adds. (
  completed_layouts types new_types one completes layouts new_layouts are all adds,
  completed_all types new_types one completes layouts new_layouts are all adds,
)
