-- The types of the subset as scalars, their sizes and their values (the Rust Reference, "Numeric types", "Boolean
-- type", "Type layout").
use Rattle.std.specs.Prelude.{ℕ, ◌==◌, Bool, true, false, ◌&&◌, ℤ, int_le, int_lt}
use Rattle.cr_base.specs.Scalar.{least, above}
use Rattle.cr_base.specs.declared.scalar.Scalar.{Scalar}
use Rattle.cr_base.specs.declared.scalar.Scalar.TheVariants.{Truth, Whole}
use Rattle.straight_rust_tree.specs.Tree.{Ty, i8, i16, i32, i64, u8, u16, u32, u64, isize, usize, bool}
use Rattle.straight_rust_tree.specs.Valid.{is_integer}

-- a type as memory sees it; `isize` and `usize` have 64 bits
abbrev pub scalar_of : Ty → Scalar
scalar_of i8 = Whole 8 true
scalar_of i16 = Whole 16 true
scalar_of i32 = Whole 32 true
scalar_of i64 = Whole 64 true
scalar_of u8 = Whole 8 false
scalar_of u16 = Whole 16 false
scalar_of u32 = Whole 32 false
scalar_of u64 = Whole 64 false
scalar_of isize = Whole 64 true
scalar_of usize = Whole 64 false
scalar_of bool = Truth

-- a signed integer type
abbrev pub is_signed : Ty → Bool
is_signed i8 = true
is_signed i16 = true
is_signed i32 = true
is_signed i64 = true
is_signed isize = true
is_signed _ = false

-- a number by which a type is told from the others
abbrev pub type_number : Ty → ℕ
type_number i8 = 0
type_number i16 = 1
type_number i32 = 2
type_number i64 = 3
type_number u8 = 4
type_number u16 = 5
type_number u32 = 6
type_number u64 = 7
type_number isize = 8
type_number usize = 9
type_number bool = 10

abbrev pub same_type : Ty → Ty → Bool
same_type ty other = type_number ty == type_number other

-- a number is a value of a type
abbrev pub in_range : Ty → ℤ → Bool
in_range ty value = int_le (least (scalar_of ty)) value && int_lt value (above (scalar_of ty))

-- a number can be written as a literal of a type
abbrev pub literal_fits : Ty → ℤ → Bool
literal_fits ty value = is_integer ty && in_range ty value
