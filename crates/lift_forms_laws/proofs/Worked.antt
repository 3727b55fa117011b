-- Worked bit-fields: what the crate's expressions and statements do with an array of bytes, beside what the x86-64 System V ABI gives the structure of the same bytes
-- ("Bit-Fields": from the lowest bit of the lowest byte on).
use Rattle.std.specs.Prelude.{◌≡◌, ℕ, pos, negsuc, Bool, true, false, List, [], ◌∷◌, map, length, Some, codes}
use Rattle.std.proofs.Common.{refl}
use Rattle.cr_base.specs.declared.layout.Spot.{Spot}
use Rattle.cr_runs.specs.Runs.{Ran, came, bad}
use Rattle.cr_world.specs.World.{World, Stop, open_ended, wrong}
use Rattle.mem_bytes.specs.Memory.{byte_cell}
use Rattle.mem_bytes.specs.declared.cell.Cell.{Cell}
use Rattle.mem_bytes.specs.declared.cell.Cell.TheVariants.{Bits}
use Rattle.mem_bytes.specs.declared.value.Value.TheVariants.{Whole}
use Rattle.rs_mean.specs.declared.cause.Cause.{Cause}
use Rattle.rs_mean.specs.declared.cause.Cause.TheVariants as cause
use Rattle.rs_mean.specs.Run.{Frame, Flow, normal, run_expr, run_stmts}
use Rattle.rs_mean.specs.Values.{Typed, typed}
use Rattle.rs_mean.specs.World.{pure, fails, seq, local}
use Rattle.rs_text.specs.declared.integer.IntegerTy.TheVariants.{I8, I32, I64, U8, U64}
use Rattle.rs_text.specs.Tree.{Integer, Array, Local, Expr, Literal, Truth, AddressOf, stmts}
use Rattle.lift_forms.specs.BitFields.{bit_read, bit_write}

-- ---- the object `x`, its cells, and a bit-field in it

abbrev frame : ℕ → Frame
frame size = record {
  modules = [];
  locals = record { name = codes "x"; ty = Array (Integer U8) size; block = 0 } ∷ [];
  bodies = λ fun args. fails cause.WrongCall;
}

abbrev holding : List Cell → World
holding cells = record { held = record { blocks = Some (record { align = 1; cells = cells }) ∷ []; heap = [] }; made = []; answers = []; terms = open_ended }

abbrev bytes : List ℕ → World
bytes values = holding (map byte_cell values)

abbrev field : (byte bit width : ℕ) → Spot
field byte bit width = record { byte = byte; bit = bit; width = width }

abbrev object : Expr
object = AddressOf (Local (codes "x"))

-- what is read, and what is left where a value was stored; no unit is there to be taken
abbrev read : List ℕ → Spot → (signed : Bool) → Ran (Stop Cause) World Typed
read values spot signed = run_expr (frame (length values)) (bit_read object spot signed) (bytes values) 0

abbrev written : List ℕ → Spot → Expr → Ran (Stop Cause) World Flow
written values spot value = run_stmts (frame (length values)) (stmts (bit_write object spot value)) (bytes values) 0

abbrev left : List ℕ → Ran (Stop Cause) World Flow
left values = came normal (bytes values) 0

-- ---- loads: 0xB4 is 10110100

-- `unsigned b : 4` behind two bits is 1101, and `int b : 4` is -3
unsigned_four : read (0xB4 ∷ []) (field 0 2 4) false ≡ came (typed (Integer U64) (Whole (pos 13))) (bytes (0xB4 ∷ [])) 0
unfolding pure fails seq local
unsigned_four = refl

signed_four : read (0xB4 ∷ []) (field 0 2 4) true ≡ came (typed (Integer I64) (Whole (negsuc 2))) (bytes (0xB4 ∷ [])) 0
unfolding pure fails seq local
signed_four = refl

-- eight bits of two bytes, the second of which isn't the first of the object
across_bytes : read (0xFF ∷ 0x34 ∷ 0x12 ∷ []) (field 1 4 8) false ≡ came (typed (Integer U64) (Whole (pos 0x23))) (bytes (0xFF ∷ 0x34 ∷ 0x12 ∷ [])) 0
unfolding pure fails seq local
across_bytes = refl

-- 32 bits of five bytes, all of them set: 4294967295 or -1
all_of_five : read (0x80 ∷ 0xFF ∷ 0xFF ∷ 0xFF ∷ 0x7F ∷ []) (field 0 7 32) false ≡ came (typed (Integer U64) (Whole (pos 4294967295))) (bytes (0x80 ∷ 0xFF ∷ 0xFF ∷ 0xFF ∷ 0x7F ∷ [])) 0
unfolding pure fails seq local
all_of_five = refl

signed_five : read (0x80 ∷ 0xFF ∷ 0xFF ∷ 0xFF ∷ 0x7F ∷ []) (field 0 7 32) true ≡ came (typed (Integer I64) (Whole (negsuc 0))) (bytes (0x80 ∷ 0xFF ∷ 0xFF ∷ 0xFF ∷ 0x7F ∷ [])) 0
unfolding pure fails seq local
signed_five = refl

-- ---- stores: the bits beside the field stay

-- 0x1AB in eight bits is 0xAB
eight_of_two : written (0x34 ∷ 0x12 ∷ []) (field 0 4 8) (Literal (pos 0x1AB) I32) ≡ left (0xB4 ∷ 0x1A ∷ [])
unfolding pure fails seq local
eight_of_two = refl

-- -1 in three bits
three_ones : written (0x00 ∷ []) (field 0 2 3) (Literal (negsuc 0) I8) ≡ left (0x1C ∷ [])
unfolding pure fails seq local
three_ones = refl

-- 0 in 32 bits of five bytes
none_of_five : written (0xFF ∷ 0xFF ∷ 0xFF ∷ 0xFF ∷ 0xFF ∷ []) (field 0 7 32) (Literal (pos 0) I32) ≡ left (0x7F ∷ 0x00 ∷ 0x00 ∷ 0x00 ∷ 0x80 ∷ [])
unfolding pure fails seq local
none_of_five = refl

-- a `bool`, behind a byte of another member
one_bit : written (0xAA ∷ 0x00 ∷ []) (field 1 7 1) (Truth true) ≡ left (0xAA ∷ 0x80 ∷ [])
unfolding pure fails seq local
one_bit = refl

-- another bit-field of the same byte: `s.a = s.b`
from_its_neighbour : written (0xA5 ∷ []) (field 0 4 4) (bit_read object (field 0 0 4) false) ≡ left (0x55 ∷ [])
unfolding pure fails seq local
from_its_neighbour = refl

-- and one of two bytes that ends where the other begins: it is read again for the second byte, when the first has been written
from_below : written (0xCD ∷ 0xAB ∷ []) (field 0 6 6) (bit_read object (field 0 0 6) false) ≡ left (0x4D ∷ 0xA3 ∷ [])
unfolding pure fails seq local
from_below = refl

-- bytes of which bits were never set are not put together: a number has no such bits
unset_bits : run_stmts (frame 1) (stmts (bit_write object (field 0 0 4) (Literal (pos 1) I32))) (holding (Bits 0 0xF0 ∷ [])) 0 ≡ bad (wrong cause.Unset) (holding (Bits 0 0xF0 ∷ []))
unfolding pure fails seq local
unset_bits = refl
