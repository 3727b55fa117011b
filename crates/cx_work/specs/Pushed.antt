-- Operands that are begun one after the other.
use Rattle.std.specs.Prelude.{◌≡◌, List, [], ◌∷◌, ◌++◌, Result, Ok, Err}
use Rattle.cr_base.specs.declared.memory.Memory.{Memory}
use Rattle.cx_work.specs.declared.work.Work.{Work}

-- one more operand stands behind the others
abbrev pub IsPushed : (before after : List Work) → Result Work Memory → Type 0
IsPushed before after (Ok one) = after ≡ before ++ one ∷ []
IsPushed before after (Err why) = ⊥
