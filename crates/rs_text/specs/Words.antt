-- The words of the written crates that stand for a variant each: types of integers, operators and methods.
use Rattle.std.specs.Prelude.{ℕ, Bool, true, false, List, codes}
use Rattle.rs_text.specs.declared.integer.IntegerTy.{IntegerTy}
use Rattle.rs_text.specs.declared.integer.IntegerTy.TheVariants.{I8, I16, I32, I64, U8, U16, U32, U64, Isize, Usize}
use Rattle.rs_text.specs.declared.operator.Operator.{Operator}
use Rattle.rs_text.specs.declared.operator.Operator.TheVariants.{Add, Sub, Mul, Div, Rem, BitAnd, BitOr, BitXor, Shl, Shr, Equal, NotEqual, Less, LessEqual, Greater, GreaterEqual}
use Rattle.rs_text.specs.declared.operator.Wrapping.{Wrapping}
use Rattle.rs_text.specs.declared.operator.Wrapping.TheVariants.{WrappingAdd, WrappingSub, WrappingMul}

-- an integer type's name ("Numeric types")
abbrev pub integer_word : IntegerTy → List ℕ
integer_word I8 = codes "i8"
integer_word I16 = codes "i16"
integer_word I32 = codes "i32"
integer_word I64 = codes "i64"
integer_word U8 = codes "u8"
integer_word U16 = codes "u16"
integer_word U32 = codes "u32"
integer_word U64 = codes "u64"
integer_word Isize = codes "isize"
integer_word Usize = codes "usize"

-- the mark of an operator ("Operator expressions")
abbrev pub operator_mark : Operator → List ℕ
operator_mark Add = codes "+"
operator_mark Sub = codes "-"
operator_mark Mul = codes "*"
operator_mark Div = codes "/"
operator_mark Rem = codes "%"
operator_mark BitAnd = codes "&"
operator_mark BitOr = codes "|"
operator_mark BitXor = codes "^"
operator_mark Shl = codes "<<"
operator_mark Shr = codes ">>"
operator_mark Equal = codes "=="
operator_mark NotEqual = codes "!="
operator_mark Less = codes "<"
operator_mark LessEqual = codes "<="
operator_mark Greater = codes ">"
operator_mark GreaterEqual = codes ">="

-- the method of an operation modulo 2 to the width of its type
abbrev pub wrapping_word : Wrapping → List ℕ
wrapping_word WrappingAdd = codes "wrapping_add"
wrapping_word WrappingSub = codes "wrapping_sub"
wrapping_word WrappingMul = codes "wrapping_mul"

abbrev pub truth_word : Bool → List ℕ
truth_word true = codes "true"
truth_word false = codes "false"

-- the keyword of a struct, or where true of a union
abbrev pub record_word : Bool → List ℕ
record_word true = codes "union"
record_word false = codes "struct"
