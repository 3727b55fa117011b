-- Worked parts of calls, frames and returns; and what would be wrong with less.
use Rattle.std.proofs.Common.{◌≡◌, ℕ, pos, true, false, [], ◌∷◌, Some, None, refl, codes}
use Rattle.cr_runs.specs.Runs.{bad}
use Rattle.cr_world.specs.World.{World, wrong, open_ended}
use Rattle.cx_mean.specs.Operands.{scalar, missing}
use Rattle.lift_stands.specs.Stands.{Images, ValueBelow, IsByte}
use Rattle.lift_calls.specs.Calls.{is_place, IsHanded, ResultHanded, type_in, GivesBack}
use Rattle.lift_calls.specs.Frames.{home_in}
use Rattle.mem_bytes.specs.Memory.{byte_cell}
use Rattle.mem_bytes.specs.declared.cell.Cell.TheVariants.{PtrByte}
use Rattle.mem_bytes.specs.declared.value.Ptr.{Ptr}
use Rattle.mem_bytes.specs.declared.value.Value.TheVariants.{Whole, Object}
use Rattle.rs_mean.specs.Calls.{without_blocks}
use Rattle.rs_mean.specs.Lookups.{LocalBlock}
use Rattle.rs_mean.specs.Run.{Frame, normal, returned, given_by, the_value}
use Rattle.rs_mean.specs.Values.{typed}
use Rattle.rs_mean.specs.World.{pure, fails}
use Rattle.rs_mean.specs.declared.cause.Cause.TheVariants.{WrongCall}
use Rattle.rs_text.specs.Tree.{Integer, Boolean, Pointer, Local, Static, Deref, Read}
use Rattle.rs_text.specs.declared.integer.IntegerTy.TheVariants.{I32}

abbrev at : ℕ → ℕ → Ptr
at block offset = record { block = block; offset = offset }

-- block 0 of C is block 1 of the crate
abbrev images : Images
images = record { blocks = 1 ∷ []; functions = λ number. None; in_bytes = true }

-- ---- results

-- the place of a result is the one block that a call may write beside what lives in C
own_block : is_place (Some (at 3 0)) 3 ≡ true
own_block = refl

other_block : is_place (Some (at 3 0)) 4 ≡ false
other_block = refl

no_block : is_place None 3 ≡ false
no_block = refl

-- a function that gives no structure or union is given its arguments alone
arguments_alone : ResultHanded images [] None None (typed (Integer I32) (Whole (pos 7)) ∷ []) (typed (Integer I32) (Whole (pos 7)) ∷ [])
arguments_alone = refl

number_handed : IsHanded images [] (scalar (Whole (pos 7))) (Whole (pos 7))
number_handed = ValueBelow.same_number (pos 7)

number_back : GivesBack images [] 1 None (scalar (Object (at 0 4))) (Some (typed (Pointer Boolean) (Object (at 1 4))))
number_back = ValueBelow.to_image (at 0 4) (at 1 4) (record { block = refl; offset = refl })

-- C's call ended without a value: what the crate's gives is of its type all the same
nothing_back : GivesBack images [] 1 None missing (given_by (Some (Integer I32)) (returned (Some (typed (Integer I32) (Whole (pos 0))))))
nothing_back = tt

type_back : type_in (given_by (Some (Integer I32)) (returned (Some (typed (Integer I32) (Whole (pos 0)))))) ≡ Some (Integer I32)
type_back = refl

no_type : type_in (given_by None normal) ≡ None
no_type = refl

-- a body that ended without one would be wrong at once, where C goes on to the event of another operand
abbrev world : World
world = record { held = record { blocks = []; heap = [] }; made = []; answers = []; terms = open_ended }

no_type_is_wrong : the_value (given_by (Some (Integer I32)) normal) world 5 ≡ bad (wrong WrongCall) world
unfolding fails
no_type_is_wrong = refl

-- a place that has held a pointer is no room for an object in a program with bit-fields, though it is a place for a result, whose bytes are all written
pointer_stays : IsByte (PtrByte (Object (at 0 0)) 3) → ⊥
pointer_stays is =
    let same : PtrByte (Object (at 0 0)) 3 ≡ byte_cell is.0 = is.1 in
    cc

-- ---- frames

abbrev x : LocalBlock
x = record { name = codes "x"; ty = Integer I32; block = 4 }

abbrev frame : Frame
frame = record { modules = []; locals = x ∷ []; bodies = λ fun args. pure None }

local_here : home_in frame (Local (codes "x")) ≡ Some (record { block = 4; ty = Integer I32 })
local_here = refl

no_local : home_in frame (Local (codes "y")) ≡ None
no_local = refl

no_static : home_in frame (Static (codes "m") (codes "x")) ≡ None
no_static = refl

-- what a pointer points to isn't where an object is kept
no_home : home_in frame (Deref (Read (Local (codes "x")))) ≡ None
no_home = refl

-- ---- returns

locals_end : without_blocks (record { name = codes "x"; ty = Boolean; block = 1 } ∷ []) (Some (record { align = 1; cells = byte_cell 1 ∷ [] }) ∷ Some (record { align = 1; cells = byte_cell 0 ∷ [] }) ∷ []) ≡
    Some (record { align = 1; cells = byte_cell 1 ∷ [] }) ∷ None ∷ []
locals_end = refl
