-- The value of a put that is stored.
use Rattle.std.specs.Prelude.{ℕ, Result}
use Rattle.cx_core.specs.Trees.{CPut, put}
use Rattle.cx_mean.specs.Accesses.{CStored}
use Rattle.cx_mean.specs.Initialisers.{put_stored}
use Rattle.cx_mean.specs.Marks.{Marks}
use Rattle.cx_mean.specs.Operands.{CWhy, CValue, Frame}
use Rattle.cx_mean.specs.Settings.{CSetting}
use Rattle.mem_bytes.specs.Memory.{Blocks}

-- a value with its marks, in the part of an object that a put covers
abbrev pub value_put : CSetting → Frame → Blocks → (object : ℕ) → CPut → CValue → Marks → Result CStored CWhy
value_put setting frame blocks number (put spot type held) value marks =
    put_stored setting frame blocks number spot type (record { type = type; value = value; marks = marks })
