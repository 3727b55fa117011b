-- What is next behind a move.
use Rattle.cx_core.specs.Linked.{main_of}
use Rattle.cx_machine.specs.declared.machine.Machine.{Machine}
use Rattle.cx_machine.specs.Machines.{GoesTo, next_at}
use Rattle.cx_mean.specs.Moves.{CMove, values, reaches, begins, leaves, calls_main, goes_nowhere, reached}
use Rattle.cx_mean.specs.Settings.{CSetting}
use Rattle.cx_mean.specs.State.{control_of, main_called}
use Rattle.mem_bytes.specs.Memory.{Blocks}

-- one in which nothing begins and no function returns; no other is meant
abbrev pub MovesOn : CSetting → CMove → (old new : Machine) → (before after : Blocks) → Type 0
MovesOn setting (values value purpose) old new before after = GoesTo old new (record { control = control_of (values value purpose); blocks = before }) after
MovesOn setting (reaches one site) old new before after = GoesTo old new (next_at (reached setting one site before)) after
MovesOn setting calls_main old new before after = GoesTo old new (record { control = main_called (main_of setting.program); blocks = before }) after
MovesOn setting (begins one) old new before after = ⊥
MovesOn setting (leaves value site) old new before after = ⊥
MovesOn setting (goes_nowhere place) old new before after = ⊥
