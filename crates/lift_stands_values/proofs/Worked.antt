-- Worked members, objects that are made anew, arguments and operands, in C and in the crate; and what would be wrong with less.
use Rattle.std.proofs.Common.{◌≡◌, ℕ, pos, negsuc, true, false, List, [], ◌∷◌, map, Some, None, Ok, Err, refl, codes}
use Rattle.cr_base.specs.declared.layout.Spot.{Spot}
use Rattle.cr_base.specs.declared.rule.URule.TheVariants.{U5, U10, U11}
use Rattle.cr_base.specs.declared.scalar.Scalar.TheVariants.{Truth, Whole, Object}
use Rattle.cx_core.specs.Trees.{ty, basic, CProgram, no_types_yet, more_puts, no_puts, put, expr, whole}
use Rattle.cx_core.specs.declared.ty.Basic.TheVariants.{Int}
use Rattle.cx_mean.specs.Calls.{argument_of}
use Rattle.cx_mean.specs.Initialisers.{unset_by, first_cells}
use Rattle.cx_mean.specs.Nodes.{member_at}
use Rattle.cx_mean.specs.Operands.{breaks, CValue, designates}
use Rattle.cx_mean.specs.Settings.{CSetting}
use Rattle.ext_calls.specs.declared.call.Arg.TheVariants.{Whole as WholeArg, Text as TextArg}
use Rattle.lift_stands.specs.Stands.{Images, ValueBelow}
use Rattle.lift_stands_values.specs.Given.{GivenBelow, given_type}
use Rattle.mem_bytes.specs.Access.{value_at, after_fill}
use Rattle.mem_bytes.specs.Memory.{Block, unset_cell, byte_cell}
use Rattle.mem_bytes.specs.Pointers.{moved}
use Rattle.mem_bytes.specs.declared.cell.Cell.TheVariants.{Bits}
use Rattle.mem_bytes.specs.declared.fault.Fault.TheVariants.{BadBool}
use Rattle.mem_bytes.specs.declared.value.Ptr.{Ptr}
use Rattle.mem_bytes.specs.declared.value.Value.TheVariants.{Whole as Number, Null, Object as Address}
use Rattle.rs_mean.specs.Calls.{may_stand, argument_by}
use Rattle.rs_mean.specs.declared.cause.Cause.TheVariants.{WrongCall}
use Rattle.rs_text.specs.Tree.{Integer, Pointer, Code, no_tys, no_ty}
use Rattle.rs_text.specs.declared.integer.IntegerTy.TheVariants.{I32, I8}

abbrev at : ℕ → ℕ → Ptr
at block offset = record { block = block; offset = offset }

abbrev bytes : ℕ → List ℕ → Block
bytes align numbers = record { align = align; cells = map byte_cell numbers }

abbrev plain : ℕ → Spot
plain byte = record { byte = byte; bit = 0; width = 0 }

-- ---- members of places

-- of a structure of alignment 4, in a block of alignment 4: C finds the member behind it, and the crate's pointer moves as far, from a base that is aligned
member_in_c : member_at (Some (bytes 4 (1 ∷ 2 ∷ 3 ∷ 4 ∷ 5 ∷ 6 ∷ 7 ∷ 8 ∷ [])) ∷ []) (plain 4) 4 (at 0 0) ≡ Ok (designates (Address (at 0 4)))
member_in_c = refl

member_in_crate : moved (None ∷ Some (bytes 8 (1 ∷ 2 ∷ 3 ∷ 4 ∷ 5 ∷ 6 ∷ 7 ∷ 8 ∷ [])) ∷ []) (Address (at 1 0)) (pos 4) ≡ Ok (Address (at 1 4))
member_in_crate = refl

base_in_crate : may_stand (None ∷ Some (bytes 8 (1 ∷ 2 ∷ 3 ∷ 4 ∷ [])) ∷ []) (Some (record { size = 8; align = 4 })) (Address (at 1 0)) ≡ true
base_in_crate = refl

-- where the structure may not stand neither has a meaning
misaligned_in_c : member_at (Some (bytes 4 (1 ∷ 2 ∷ 3 ∷ 4 ∷ [])) ∷ []) (plain 0) 4 (at 0 2) ≡ Err (breaks U10)
misaligned_in_c = refl

misaligned_in_crate : may_stand (Some (bytes 4 (1 ∷ 2 ∷ 3 ∷ 4 ∷ [])) ∷ []) (Some (record { size = 4; align = 4 })) (Address (at 0 2)) ≡ false
misaligned_in_crate = refl

-- a member may begin at the end, and no further
at_end_in_c : member_at (Some (bytes 4 (1 ∷ 2 ∷ 3 ∷ 4 ∷ [])) ∷ []) (plain 4) 4 (at 0 0) ≡ Ok (designates (Address (at 0 4)))
at_end_in_c = refl

past_in_c : member_at (Some (bytes 4 (1 ∷ 2 ∷ 3 ∷ 4 ∷ [])) ∷ []) (plain 5) 4 (at 0 0) ≡ Err (breaks U11)
past_in_c = refl

dead_in_c : member_at (None ∷ []) (plain 0) 4 (at 0 0) ≡ Err (breaks U5)
dead_in_c = refl

-- ---- objects that are made anew

abbrev nothing : CProgram
nothing = record { types = no_types_yet; objects = []; functions = []; externals = []; orders = [] }

abbrev setting : CSetting
setting = record { program = nothing; layouts = []; pairs = [] }

-- an `int` in eight bytes, of which the second is put: the first four are 0, and set
half_put : first_cells setting 8 (Some (more_puts (put (plain 4) (ty (basic Int) false) (expr (ty (basic Int) false) (record { unit = 0; line = 1 }) (whole (pos 7)))) no_puts)) ≡
    Ok (byte_cell 0 ∷ byte_cell 0 ∷ byte_cell 0 ∷ byte_cell 0 ∷ unset_cell ∷ unset_cell ∷ unset_cell ∷ unset_cell ∷ [])
half_put = refl

-- without initialiser no bit is set
none_put : first_cells setting 2 None ≡ Ok (unset_cell ∷ unset_cell ∷ [])
none_put = refl

-- a bit-field of three bits is unset, and the bits beside it stay set, and 0
field_put : unset_by (record { byte = 0; bit = 2; width = 3 }) 4 3 (byte_cell 0 ∷ byte_cell 0 ∷ []) ≡ Bits 0 227 ∷ byte_cell 0 ∷ []
field_put = refl

-- zero bytes stand for all of these
zeros_in_crate : after_fill (Some (bytes 1 (7 ∷ 1 ∷ [])) ∷ []) (at 0 0) 0 2 ≡ Ok (Some (bytes 1 (0 ∷ 0 ∷ [])) ∷ [])
zeros_in_crate = refl

-- bits that no put covers may be read in C, so what was there before doesn't stand for them
left_in_c : value_at (Some (bytes 1 (0 ∷ [])) ∷ []) (at 0 0) (Whole 8 false) ≡ Ok (Number (pos 0))
left_in_c = refl

left_in_crate : value_at (Some (bytes 1 (7 ∷ [])) ∷ []) (at 0 0) (Whole 8 false) ≡ Ok (Number (pos 7))
left_in_crate = refl

-- ---- arguments

number_in_c : argument_of [] (Some (Whole 32 true)) (Number (negsuc 0)) ≡ Ok (WholeArg (Whole 32 true) (negsuc 0))
number_in_c = refl

number_in_crate : argument_by [] (Integer I32) (Number (negsuc 0)) ≡ Ok (WholeArg (Whole 32 true) (negsuc 0))
number_in_crate = refl

text_in_c : argument_of (Some (bytes 1 (72 ∷ 105 ∷ 0 ∷ [])) ∷ []) (Some Object) (Address (at 0 0)) ≡ Ok (TextArg (codes "Hi"))
text_in_c = refl

text_in_crate : argument_by (None ∷ Some (bytes 1 (72 ∷ 105 ∷ 0 ∷ [])) ∷ []) (Pointer (Integer I8)) (Address (at 1 0)) ≡ Ok (TextArg (codes "Hi"))
text_in_crate = refl

-- with a type that memory sees otherwise the outside sees another argument
other_in_crate : argument_by [] (Integer I8) (Number (pos 7)) ≡ Ok (WholeArg (Whole 8 true) (pos 7))
other_in_crate = refl

function_in_crate : argument_by [] (Code no_tys no_ty) Null ≡ Err WrongCall
function_in_crate = refl

-- ---- ranges

truth_in_range : value_at (Some (bytes 1 (1 ∷ [])) ∷ []) (at 0 0) Truth ≡ Ok (Number (pos 1))
truth_in_range = refl

no_truth : value_at (Some (bytes 1 (2 ∷ [])) ∷ []) (at 0 0) Truth ≡ Err BadBool
no_truth = refl

-- ---- operands

-- block 0 of C is block 1 of the crate
abbrev images : Images
images = record { blocks = 1 ∷ []; functions = λ number. None; in_bytes = false }

-- an object in scope is given by its address
name_given : GivenBelow images [] (record { object = 5; block = 0 } ∷ []) 4 (CValue.names 5) (Address (at 1 0))
name_given = ValueBelow.to_image (at 0 0) (at 1 0) (record { block = refl; offset = refl })

place_type : given_type (Integer I32) (designates Null) ≡ Pointer (Integer I32)
place_type = refl

-- anything stands for a missing value
missing_given : GivenBelow images [] [] 1 CValue.missing (Number (pos 7))
missing_given = tt
