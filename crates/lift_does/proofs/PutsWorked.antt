-- Worked puts in bit-fields: why what is stored there has to be the same whatever has been stored. A bit-field is written byte by byte, and its value is computed anew for each byte.
use Rattle.std.specs.Prelude.{◌≡◌, ℕ, pos, false, List, [], ◌∷◌, map, length, Some, codes}
use Rattle.std.proofs.Common.{refl}
use Rattle.cr_base.specs.declared.layout.Spot.{Spot}
use Rattle.cr_runs.specs.Runs.{Ran, came}
use Rattle.cr_world.specs.World.{World, Stop, open_ended}
use Rattle.lift_forms.specs.BitFields.{bit_read, bit_write}
use Rattle.mem_bytes.specs.Memory.{byte_cell}
use Rattle.rs_mean.specs.declared.cause.Cause.{Cause}
use Rattle.rs_mean.specs.declared.cause.Cause.TheVariants as cause
use Rattle.rs_mean.specs.Run.{Frame, Flow, normal, run_stmts}
use Rattle.rs_mean.specs.World.{pure, fails, seq, local}
use Rattle.rs_text.specs.declared.integer.IntegerTy.TheVariants.{U8, U64}
use Rattle.rs_text.specs.declared.operator.Operator.TheVariants.{Add}
use Rattle.rs_text.specs.Tree.{Integer, Array, Local, Expr, Literal, AddressOf, Binary, stmts}

abbrev frame : ℕ → Frame
frame size = record {
  modules = [];
  locals = record { name = codes "x"; ty = Array (Integer U8) size; block = 0 } ∷ [];
  bodies = λ fun args. fails cause.WrongCall;
}

abbrev bytes : List ℕ → World
bytes values = record { held = record { blocks = Some (record { align = 1; cells = map byte_cell values }) ∷ []; heap = [] }; made = []; answers = []; terms = open_ended }

-- a bit-field of ten bits at the begin of `x`
abbrev ten : Spot
ten = record { byte = 0; bit = 0; width = 10 }

abbrev object : Expr
object = AddressOf (Local (codes "x"))

abbrev written : List ℕ → Expr → Ran (Stop Cause) World Flow
written values value = run_stmts (frame (length values)) (stmts (bit_write object ten value)) (bytes values) 0

abbrev left : List ℕ → Ran (Stop Cause) World Flow
left values = came normal (bytes values) 0

-- `struct t { unsigned a : 10; }; struct s { struct t t; } x = { .t = v, .t.a = x.t.a + 300 };` where `v.a` is 250: C stores 550, which is 0x226
steady_value : written (0xFA ∷ 0 ∷ []) (Literal (pos 550) U64) ≡ left (0x26 ∷ 2 ∷ [])
unfolding pure fails seq local
steady_value = refl

-- but behind the first byte the bit-field is 38, and 338 is 0x152
computed_anew : written (0xFA ∷ 0 ∷ []) (Binary (bit_read object ten false) Add (Literal (pos 300) U64)) ≡ left (0x26 ∷ 1 ∷ [])
unfolding pure fails seq local
computed_anew = refl
