-- Worked moves: which objects die, and which stay.
use Rattle.std.proofs.Common.{◌≡◌, ℕ, [], ◌∷◌, Some, None, codes, refl}
use Rattle.cx_core.specs.Trees.{CStmtForm, while, block, label}
use Rattle.cx_mean.proofs.Programs.{here, stmts, n, skip, does}
use Rattle.cx_mean.specs.Moves.{breaking, continuing, jumping}
use Rattle.cx_mean.specs.Operands.{missing, Slot, Frame}
use Rattle.cx_mean.specs.Paths.{CRest, nothing_left, turn_left, CLevel, CBottom}
use Rattle.mem_bytes.specs.Memory.{Blocks, new_block}
use Rattle.cx_mean_moves.specs.Laws.{LeavesObjects}

-- the object with a number lives in the block with its number
slot : ℕ → Slot
slot number = record { object = number; block = number }

open_level : CStmtForm → CRest → ℕ → CLevel
open_level form rest number = record { slots = slot number ∷ []; form = form; rest = rest }

-- `{ int x0; while (1) { int x2; .. } l: ; }`, where the object 1 is of a block around the loop's body
inner : CLevel
inner = open_level (block (stmts (skip ∷ []))) nothing_left 2

loop : CLevel
loop = open_level (while (n 1) skip) turn_left 1

outer : CLevel
outer = open_level (block (stmts (does (label (codes "l") skip) ∷ []))) nothing_left 0

bottom : CBottom
bottom = record { params = slot 3 ∷ []; at_end = missing }

memory : Blocks
memory = Some (new_block 4 4) ∷ Some (new_block 4 4) ∷ Some (new_block 4 4) ∷ Some (new_block 4 4) ∷ []

-- the objects of all three, the innermost first
abbrev slots : Frame
slots = slot 2 ∷ slot 1 ∷ slot 0 ∷ []

-- `continue` leaves the body
continued : LeavesObjects slots bottom memory (continuing here (inner ∷ loop ∷ outer ∷ []) bottom memory)
unfolding slot open_level inner loop outer bottom memory
continued = record { gone = slot 2 ∷ []; kept = slot 1 ∷ slot 0 ∷ []; parts = refl; dies = refl; stands = record { slots = refl; in_function = refl } }

continued_memory : (continuing here (inner ∷ loop ∷ outer ∷ []) bottom memory).blocks ≡ Some (new_block 4 4) ∷ Some (new_block 4 4) ∷ None ∷ Some (new_block 4 4) ∷ []
unfolding slot open_level inner loop outer bottom memory
continued_memory = refl

-- `break` leaves the body and the loop, and here nothing is left of what is around them; the parameter lives until the function returns
broken : LeavesObjects slots bottom memory (breaking here (inner ∷ loop ∷ outer ∷ []) bottom memory)
unfolding slot open_level inner loop outer bottom memory
broken = record { gone = slots; kept = []; parts = refl; dies = refl; stands = record { slots = refl; in_function = refl } }

broken_memory : (breaking here (inner ∷ loop ∷ outer ∷ []) bottom memory).blocks ≡ None ∷ None ∷ None ∷ Some (new_block 4 4) ∷ []
unfolding slot open_level inner loop outer bottom memory
broken_memory = refl

-- `goto l` leaves the body and the loop, and the object of the block that holds the label stays in scope
jumped : LeavesObjects slots bottom memory (jumping here (codes "l") (inner ∷ loop ∷ outer ∷ []) bottom memory)
unfolding slot open_level inner loop outer bottom memory
jumped = record { gone = slot 2 ∷ slot 1 ∷ []; kept = slot 0 ∷ []; parts = refl; dies = refl; stands = record { slots = refl; in_function = refl } }
