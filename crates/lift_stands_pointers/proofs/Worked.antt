-- Worked operations on pointers, in C and in the crate, and what is wrong with those that no law has.
use Rattle.std.proofs.Common.{◌≡◌, ℕ, pos, negsuc, true, false, [], ◌∷◌, replicate, Option, Some, None, Ok, Err, refl}
use Rattle.cr_base.specs.declared.layout.Laid.{Laid}
use Rattle.mem_bytes.specs.declared.pointer.PointerFault.TheVariants.{ToDead, LeavesObject, NotWithinOne}
use Rattle.mem_bytes.specs.declared.value.Value.{Value}
use Rattle.mem_bytes.specs.declared.value.Value.TheVariants.{Whole, Null, Object, Code}
use Rattle.mem_bytes.specs.Memory.{Block, Blocks, byte_cell}
use Rattle.mem_bytes.specs.Pointers.{moved, distance, difference, equality}
use Rattle.rs_mean.specs.declared.cause.Cause.TheVariants.{Apart}
use Rattle.rs_mean.specs.Values.{typed, truth, on_pointers, on_functions, offset_by, apart_by}
use Rattle.rs_text.specs.declared.integer.IntegerTy.TheVariants.{I32, Isize}
use Rattle.rs_text.specs.declared.operator.Operator.TheVariants.{Less as IsLess, Equal as IsEqual}
use Rattle.rs_text.specs.Tree.{Integer, Pointer}

abbrev to : ℕ → ℕ → Value
to block offset = Object (record { block = block; offset = offset })

abbrev eight : Option Block
eight = Some (record { align = 4; cells = replicate 8 (byte_cell 0) })

-- two objects of eight bytes: blocks 0 and 1 of C, blocks 2 and 1 of the crate
abbrev in_c : Blocks
in_c = eight ∷ eight ∷ []

abbrev in_crate : Blocks
in_crate = None ∷ eight ∷ eight ∷ []

abbrev int : Option Laid
int = Some (record { size = 4; align = 4 })

-- ---- moving

moved_in_c : moved in_c (to 0 0) (pos 8) ≡ Ok (to 0 8)
moved_in_c = refl

moved_in_crate : offset_by in_crate (Integer I32) int (to 2 0) (Whole (pos 2)) ≡ Ok (typed (Pointer (Integer I32)) (to 2 8))
moved_in_crate = refl

back_in_crate : offset_by in_crate (Integer I32) int (to 2 8) (Whole (negsuc 0)) ≡ Ok (typed (Pointer (Integer I32)) (to 2 4))
back_in_crate = refl

-- one byte further leaves the object in both
leaves_in_c : moved in_c (to 0 0) (pos 9) ≡ Err LeavesObject
leaves_in_c = refl

-- an image of another size would leave it in the crate alone
leaves_in_a_smaller_one : moved (Some (record { align = 4; cells = replicate 4 (byte_cell 0) }) ∷ []) (to 0 0) (pos 8) ≡ Err LeavesObject
leaves_in_a_smaller_one = refl

-- a null pointer isn't moved, by no bytes either
null_stays : moved in_c Null (pos 0) ≡ Err LeavesObject
null_stays = refl

-- ---- differences and orders

apart_in_c : difference in_c 4 (to 0 8) (to 0 4) ≡ Ok (pos 1)
apart_in_c = refl

apart_in_crate : apart_by in_crate int (to 2 8) (to 2 4) ≡ Ok (typed (Integer Isize) (Whole (pos 1)))
apart_in_crate = refl

less_in_crate : on_pointers in_crate IsLess (to 2 4) (to 2 8) ≡ Ok (truth true)
less_in_crate = refl

-- no order is told of pointers to two objects
no_order_in_c : distance in_c (to 0 0) (to 1 0) ≡ Err NotWithinOne
no_order_in_c = refl

no_order_in_crate : on_pointers in_crate IsLess (to 2 0) (to 1 0) ≡ Err Apart
no_order_in_crate = refl

-- ---- equality

-- pointers to two objects aren't equal in either
differ_in_c : equality in_c (to 0 4) (to 1 4) ≡ Ok false
differ_in_c = refl

differ_in_crate : on_pointers in_crate IsEqual (to 2 4) (to 1 4) ≡ Ok (truth false)
differ_in_crate = refl

-- with one image for two live objects they would be in the crate
equal_with_one_image : on_pointers in_crate IsEqual (to 1 4) (to 1 4) ≡ Ok (truth true)
equal_with_one_image = refl

-- one past the end of one object and the start of another: C doesn't tell
past_in_c : equality in_c (to 0 8) (to 1 0) ≡ Err NotWithinOne
past_in_c = refl

-- nor of a pointer to what has died, which may have the image of a live object
dead_in_c : equality (None ∷ eight ∷ []) (to 0 0) (to 1 0) ≡ Err ToDead
dead_in_c = refl

null_in_crate : on_pointers in_crate IsEqual Null (to 1 0) ≡ Ok (truth false)
null_in_crate = refl

-- pointers to functions, by their images
functions_differ : on_functions IsEqual (Code 3) (Code 5) ≡ Ok (truth false)
functions_differ = refl

functions_are_equal : on_functions IsEqual (Code 3) (Code 3) ≡ Ok (truth true)
functions_are_equal = refl
