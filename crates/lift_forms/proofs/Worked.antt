-- Worked examples: expressions of C as Rust writes them. Each is valid, has its type where these names are declared, and prints so.
use Rattle.std.specs.Prelude.{◌≡◌, ℕ, ℤ, pos, negsuc, true, false, ◌&&◌, if◌then◌else◌, List, [], ◌∷◌, map, Some, None, codes, refl}
use Rattle.std.specs.Fmt.{digits}
use Rattle.cx_core.specs.declared.expr.Op1.TheVariants as op1
use Rattle.cx_core.specs.declared.expr.Op2.TheVariants as op2
use Rattle.rs_mean.specs.Typing.{Scope, kind_of, is_of_type, stmts_typed}
use Rattle.rs_text.specs.declared.attribute.Attribute.TheVariants.{Mangled}
use Rattle.rs_text.specs.declared.integer.IntegerTy.TheVariants.{I8, I32, I64, U8, U32, U64}
use Rattle.rs_text.specs.Lines.{address_of as begins_address, null_of as begins_null, transmute_of, expr_text, stmts_lines, place_text}
use Rattle.rs_text.specs.Names.{keywords, path_words}
use Rattle.rs_text.specs.Tree.{Ty, Integer, Boolean, Void, Pointer, Array, Code, Record, tys, no_ty, some_ty, no_stmts, Local, Static, Deref, Field, Expr, Literal, Read, Stmt, stmts, FieldTree, LocalTree, RecordItem, StaticItem, FunctionItem, ModuleTree}
use Rattle.rs_text.specs.Valid.{valid_expr, valid_place}
use Rattle.lift_forms.specs.BitFields.{bit_read, bit_write}
use Rattle.lift_forms.specs.Given.{Given, nothing, truth, value, place}
use Rattle.lift_forms.specs.Operators.{Operand, null_of, zero_of, unary_form, binary_form, and_form, or_form, choice_form, function_form, converted}
use Rattle.lift_forms.specs.Places.{object_place, address_form}

-- ---- names

abbrev int : Ty
int = Integer I32

abbrev node : Ty
node = Record (codes "m") (codes "node")

-- `int (*)(int)` and `void (*)(char *)`
abbrev counter : Ty
counter = Code (tys (int ∷ [])) (some_ty int)

abbrev taker : Ty
taker = Code (tys (Pointer (Integer I8) ∷ [])) no_ty

abbrev declared : List ℕ → Ty → LocalTree
declared name ty = record { name = name; ty = ty }

abbrev local : List ℕ → Ty → Operand
local name ty = record { ty = ty; given = value (Read (Local name)) }

abbrev a : Operand
a = local (codes "a") int

abbrev b : Operand
b = local (codes "b") int

abbrev u : Operand
u = local (codes "u") (Integer U32)

abbrev v : Operand
v = local (codes "v") (Integer U32)

abbrev long : Operand
long = local (codes "l") (Integer I64)

abbrev letter : Operand
letter = local (codes "c") (Integer I8)

abbrev flag : Operand
flag = local (codes "t") Boolean

abbrev p : Operand
p = local (codes "p") (Pointer int)

abbrev q : Operand
q = local (codes "q") (Pointer int)

abbrev any : Operand
any = local (codes "r") (Pointer Void)

abbrev head : Operand
head = local (codes "w") (Pointer node)

abbrev counts : Operand
counts = local (codes "g") counter

abbrev takes : Operand
takes = local (codes "h") taker

abbrev number : ℤ → Operand
number n = record { ty = int; given = value (Literal n I32) }

abbrev fields : List FieldTree
fields =
    record { name = codes "next"; ty = Pointer node } ∷ record { name = codes "value"; ty = int }
    ∷ record { name = codes "bits"; ty = Array (Integer U8) 4 } ∷ []

abbrev home : ModuleTree
home = record {
  name = codes "m";
  items =
      RecordItem (record { align = None; is_union = false; name = codes "node"; fields = fields })
      ∷ StaticItem (record { attribute = Mangled; name = codes "total"; ty = Integer I64; values = None })
      ∷ StaticItem (record { attribute = Mangled; name = codes "list"; ty = Array int 3; values = None })
      ∷ FunctionItem (record { attribute = Mangled; name = codes "f"; params = declared (codes "x") int ∷ []; result = Some int; locals = []; body = no_stmts }) ∷ [];
}

abbrev scope : Scope
scope = record {
  modules = home ∷ [];
  locals =
      declared (codes "a") int ∷ declared (codes "b") int ∷ declared (codes "u") (Integer U32) ∷ declared (codes "v") (Integer U32)
      ∷ declared (codes "l") (Integer I64) ∷ declared (codes "c") (Integer I8) ∷ declared (codes "t") Boolean ∷ declared (codes "p") (Pointer int)
      ∷ declared (codes "q") (Pointer int) ∷ declared (codes "r") (Pointer Void) ∷ declared (codes "w") (Pointer node) ∷ declared (codes "g") counter
      ∷ declared (codes "h") taker ∷ declared (codes "s") node ∷ [];
}

-- ---- texts

-- the text of an expression that is valid and has this type
abbrev expression : Ty → Expr → List ℕ
expression ty e = if valid_expr e && is_of_type ty (kind_of scope e) then expr_text e else codes "ill formed"

-- the text of what is given: a value of this type, or a truth value
abbrev text : Ty → Given → List ℕ
text ty nothing = codes "nothing"
text ty (truth e) = expression Boolean e
text ty (value e) = expression ty e
text ty (place at) = if valid_place at then place_text at else codes "ill formed"

abbrev as_operand : Ty → Given → Operand
as_operand ty given = record { ty = ty; given = given }

-- ---- arithmetic

sum : text int (binary_form op2.Add a b) ≡ codes "a + b"
unfolding digits begins_address begins_null transmute_of keywords path_words
sum = refl

unsigned_sum : text (Integer U32) (binary_form op2.Add u v) ≡ codes "u.wrapping_add(v)"
unfolding digits begins_address begins_null transmute_of keywords path_words
unsigned_sum = refl

unsigned_difference : text (Integer U32) (binary_form op2.Subtract u v) ≡ codes "u.wrapping_sub(v)"
unfolding digits begins_address begins_null transmute_of keywords path_words
unsigned_difference = refl

unsigned_product : text (Integer U32) (binary_form op2.Multiply u v) ≡ codes "u.wrapping_mul(v)"
unfolding digits begins_address begins_null transmute_of keywords path_words
unsigned_product = refl

quotient : text int (binary_form op2.Divide a b) ≡ codes "a / b"
unfolding digits begins_address begins_null transmute_of keywords path_words
quotient = refl

unsigned_remainder : text (Integer U32) (binary_form op2.Remainder u v) ≡ codes "u % v"
unfolding digits begins_address begins_null transmute_of keywords path_words
unsigned_remainder = refl

sum_of_product : text int (binary_form op2.Add a (as_operand int (binary_form op2.Multiply b a))) ≡ codes "a + (b * a)"
unfolding digits begins_address begins_null transmute_of keywords path_words
sum_of_product = refl

opposite : text int (unary_form op1.Minus a) ≡ codes "-a"
unfolding digits begins_address begins_null transmute_of keywords path_words
opposite = refl

unsigned_opposite : text (Integer U32) (unary_form op1.Minus u) ≡ codes "u.wrapping_neg()"
unfolding digits begins_address begins_null transmute_of keywords path_words
unsigned_opposite = refl

minus_one : text int (unary_form op1.Minus (number (pos 1))) ≡ codes "-1i32"
unfolding digits begins_address begins_null transmute_of keywords path_words
minus_one = refl

minus_minus_one : text int (unary_form op1.Minus (number (negsuc 0))) ≡ codes "1i32"
unfolding digits begins_address begins_null transmute_of keywords path_words
minus_minus_one = refl

minus_least : text int (unary_form op1.Minus (number (negsuc 2147483647))) ≡ codes "0i32 - (-2147483648i32)"
unfolding digits begins_address begins_null transmute_of keywords path_words
minus_least = refl

minus_sum : text int (unary_form op1.Minus (as_operand int (binary_form op2.Add a b))) ≡ codes "-(a + b)"
unfolding digits begins_address begins_null transmute_of keywords path_words
minus_sum = refl

plus : text int (unary_form op1.Plus a) ≡ codes "a"
unfolding digits begins_address begins_null transmute_of keywords path_words
plus = refl

complement : text int (unary_form op1.Complement a) ≡ codes "!a"
unfolding digits begins_address begins_null transmute_of keywords path_words
complement = refl

shifted_left : text int (binary_form op2.ShiftLeft a b) ≡ codes "a << (b as u32)"
unfolding digits begins_address begins_null transmute_of keywords path_words
shifted_left = refl

shifted_by_unsigned : text int (binary_form op2.ShiftRight a u) ≡ codes "a >> u"
unfolding digits begins_address begins_null transmute_of keywords path_words
shifted_by_unsigned = refl

shifted_by_truth : text (Integer U32) (binary_form op2.ShiftRight u (as_operand int (binary_form op2.Less a b))) ≡ codes "u >> ((a < b) as u32)"
unfolding digits begins_address begins_null transmute_of keywords path_words
shifted_by_truth = refl

masked : text (Integer U32) (binary_form op2.BitAnd u (as_operand (Integer U32) (unary_form op1.Complement v))) ≡ codes "u & (!v)"
unfolding digits begins_address begins_null transmute_of keywords path_words
masked = refl

-- ---- truth values

less : text int (binary_form op2.Less a b) ≡ codes "a < b"
unfolding digits begins_address begins_null transmute_of keywords path_words
less = refl

negated : text int (unary_form op1.Not a) ≡ codes "a == 0i32"
unfolding digits begins_address begins_null transmute_of keywords path_words
negated = refl

null_test : text int (unary_form op1.Not p) ≡ codes "p.is_null()"
unfolding digits begins_address begins_null transmute_of keywords path_words
null_test = refl

no_function : text int (unary_form op1.Not counts) ≡ codes "g.is_none()"
unfolding digits begins_address begins_null transmute_of keywords path_words
no_function = refl

not_flag : text int (unary_form op1.Not flag) ≡ codes "!t"
unfolding digits begins_address begins_null transmute_of keywords path_words
not_flag = refl

both : text int (and_form (as_operand int (binary_form op2.Less a b)) (as_operand int (unary_form op1.Not p))) ≡ codes "(a < b) && p.is_null()"
unfolding digits begins_address begins_null transmute_of keywords path_words
both = refl

either : text int (or_form a p) ≡ codes "(a != 0i32) || (!p.is_null())"
unfolding digits begins_address begins_null transmute_of keywords path_words
either = refl

truth_in_sum : text int (binary_form op2.Add (as_operand int (binary_form op2.Less a b)) a) ≡ codes "((a < b) as i32) + a"
unfolding digits begins_address begins_null transmute_of keywords path_words
truth_in_sum = refl

truth_as_number : text int (converted int (as_operand int (binary_form op2.Less a b))) ≡ codes "(a < b) as i32"
unfolding digits begins_address begins_null transmute_of keywords path_words
truth_as_number = refl

truth_as_long : text (Integer I64) (converted (Integer I64) (as_operand int (binary_form op2.Equal a b))) ≡ codes "(a == b) as i64"
unfolding digits begins_address begins_null transmute_of keywords path_words
truth_as_long = refl

choice : text int (choice_form flag a b) ≡ codes "if t { a } else { b }"
unfolding digits begins_address begins_null transmute_of keywords path_words
choice = refl

-- ---- conversions

widened : text (Integer I64) (converted (Integer I64) a) ≡ codes "a as i64"
unfolding digits begins_address begins_null transmute_of keywords path_words
widened = refl

promoted : text int (converted int letter) ≡ codes "c as i32"
unfolding digits begins_address begins_null transmute_of keywords path_words
promoted = refl

same : text int (converted int a) ≡ codes "a"
unfolding digits begins_address begins_null transmute_of keywords path_words
same = refl

from_flag : text int (converted int flag) ≡ codes "t as i32"
unfolding digits begins_address begins_null transmute_of keywords path_words
from_flag = refl

to_flag : text Boolean (converted Boolean long) ≡ codes "l != 0i64"
unfolding digits begins_address begins_null transmute_of keywords path_words
to_flag = refl

pointer_to_flag : text Boolean (converted Boolean p) ≡ codes "!p.is_null()"
unfolding digits begins_address begins_null transmute_of keywords path_words
pointer_to_flag = refl

function_to_flag : text Boolean (converted Boolean counts) ≡ codes "!g.is_none()"
unfolding digits begins_address begins_null transmute_of keywords path_words
function_to_flag = refl

to_void : text int (converted Void a) ≡ codes "nothing"
unfolding digits begins_address begins_null transmute_of keywords path_words
to_void = refl

to_any : text (Pointer Void) (converted (Pointer Void) p) ≡ codes "p as *mut core::ffi::c_void"
unfolding digits begins_address begins_null transmute_of keywords path_words
to_any = refl

same_pointer : text (Pointer int) (converted (Pointer int) p) ≡ codes "p"
unfolding digits begins_address begins_null transmute_of keywords path_words
same_pointer = refl

other_function : text taker (converted taker counts) ≡ codes "core::mem::transmute::<Option<unsafe extern \"C\" fn(i32) -> i32>, Option<unsafe extern \"C\" fn(*mut i8)>>(g)"
unfolding digits begins_address begins_null transmute_of keywords path_words
other_function = refl

-- ---- pointers and functions

moved : text (Pointer int) (binary_form op2.Add p a) ≡ codes "p.offset(a as isize)"
unfolding digits begins_address begins_null transmute_of keywords path_words
moved = refl

moved_by_first : text (Pointer int) (binary_form op2.Add u p) ≡ codes "p.offset(u as isize)"
unfolding digits begins_address begins_null transmute_of keywords path_words
moved_by_first = refl

moved_back : text (Pointer int) (binary_form op2.Subtract p long) ≡ codes "p.offset(-(l as isize))"
unfolding digits begins_address begins_null transmute_of keywords path_words
moved_back = refl

moved_by_truth : text (Pointer int) (binary_form op2.Add p (as_operand int (unary_form op1.Not a))) ≡ codes "p.offset((a == 0i32) as isize)"
unfolding digits begins_address begins_null transmute_of keywords path_words
moved_by_truth = refl

-- `_Bool` is an integer type, too
moved_by_flag : text (Pointer int) (binary_form op2.Add p flag) ≡ codes "p.offset(t as isize)"
unfolding digits begins_address begins_null transmute_of keywords path_words
moved_by_flag = refl

moved_back_by_flag : text (Pointer int) (binary_form op2.Subtract p flag) ≡ codes "p.offset(-(t as isize))"
unfolding digits begins_address begins_null transmute_of keywords path_words
moved_back_by_flag = refl

flag_moves : text (Pointer int) (binary_form op2.Add flag p) ≡ codes "p.offset(t as isize)"
unfolding digits begins_address begins_null transmute_of keywords path_words
flag_moves = refl

difference : text (Integer I64) (binary_form op2.Subtract p q) ≡ codes "p.offset_from(q) as i64"
unfolding digits begins_address begins_null transmute_of keywords path_words
difference = refl

ordered : text int (binary_form op2.LessOrEqual p q) ≡ codes "p <= q"
unfolding digits begins_address begins_null transmute_of keywords path_words
ordered = refl

equal_to_any : text int (binary_form op2.Equal p any) ≡ codes "p == (r as *mut i32)"
unfolding digits begins_address begins_null transmute_of keywords path_words
equal_to_any = refl

equal_functions : text int (binary_form op2.NotEqual takes (as_operand counter (value (null_of counter)))) ≡ codes "h != core::mem::transmute::<Option<unsafe extern \"C\" fn(i32) -> i32>, Option<unsafe extern \"C\" fn(*mut i8)>>(core::mem::transmute::<Option<unsafe extern \"C\" fn(i32) -> i32>, Option<unsafe extern \"C\" fn(i32) -> i32>>(None))"
unfolding digits begins_address begins_null transmute_of keywords path_words
equal_functions = refl

null : text (Pointer int) (value (null_of (Pointer int))) ≡ codes "core::ptr::null_mut::<i32>()"
unfolding digits begins_address begins_null transmute_of keywords path_words
null = refl

function : text counter (function_form (codes "m") (codes "f") counter counter) ≡ codes "Some(crate::m::f as unsafe extern \"C\" fn(i32) -> i32)"
unfolding digits begins_address begins_null transmute_of keywords path_words
function = refl

zero_flag : text Boolean (value (zero_of Boolean)) ≡ codes "false"
unfolding digits begins_address begins_null transmute_of keywords path_words
zero_flag = refl

zero : text (Integer U32) (value (zero_of (Integer U32))) ≡ codes "0u32"
unfolding digits begins_address begins_null transmute_of keywords path_words
zero = refl

-- ---- places

object : text int (place (object_place (record { place = Static (codes "m") (codes "total"); ty = Integer I64 }) (Integer I64))) ≡ codes "crate::m::total"
unfolding digits begins_address begins_null transmute_of keywords path_words
object = refl

object_of_other_type : text int (place (object_place (record { place = Static (codes "m") (codes "total"); ty = Integer I64 }) (Integer U64))) ≡ codes "*(core::ptr::addr_of_mut!(crate::m::total) as *mut u64)"
unfolding digits begins_address begins_null transmute_of keywords path_words
object_of_other_type = refl

member : text int (value (Read (Field (Deref (Read (Local (codes "w")))) (codes "value")))) ≡ codes "(*w).value"
unfolding digits begins_address begins_null transmute_of keywords path_words
member = refl

member_of_object : text int (value (Read (Field (Local (codes "s")) (codes "value")))) ≡ codes "s.value"
unfolding digits begins_address begins_null transmute_of keywords path_words
member_of_object = refl

next_of_next : text (Pointer node) (value (Read (Field (Deref (Read (Field (Deref (Read (Local (codes "w")))) (codes "next")))) (codes "next")))) ≡ codes "(*(*w).next).next"
unfolding digits begins_address begins_null transmute_of keywords path_words
next_of_next = refl

first_element : text (Pointer int) (address_form (Array int 3) int (Static (codes "m") (codes "list"))) ≡ codes "core::ptr::addr_of_mut!(crate::m::list) as *mut i32"
unfolding digits begins_address begins_null transmute_of keywords path_words
first_element = refl

address_of_target : text (Pointer int) (address_form int int (Deref (Read (Local (codes "p"))))) ≡ codes "p"
unfolding digits begins_address begins_null transmute_of keywords path_words
address_of_target = refl

element : text (Pointer int) (place (Deref (Read (Local (codes "p"))))) ≡ codes "*p"
unfolding digits begins_address begins_null transmute_of keywords path_words
element = refl

-- ---- bit-fields

bits : text (Integer U64) (value (bit_read (Read (Local (codes "w"))) (record { byte = 12; bit = 3; width = 5 }) false)) ≡ codes "(((*(w as *mut u8).offset(12isize)) as u64) >> 3u32) % 32u64"
unfolding digits begins_address begins_null transmute_of keywords path_words
bits = refl

signed_bits : text (Integer I64) (value (bit_read (Read (Local (codes "w"))) (record { byte = 12; bit = 0; width = 3 }) true)) ≡ codes "((((((*(w as *mut u8).offset(12isize)) as u64) >> 0u32) + 4u64) % 8u64) as i64) - 4i64"
unfolding digits begins_address begins_null transmute_of keywords path_words
signed_bits = refl

-- ---- stores of bit-fields

-- statements that are well typed, each on its line
abbrev lines : List Stmt → List (List ℕ)
lines list = if stmts_typed (record { names = scope; result = None; labels = [] }) (stmts list) then map (λ line. line.text) (stmts_lines 0 (stmts list)) else []

within_a_byte : lines (bit_write (Read (Local (codes "w"))) (record { byte = 12; bit = 3; width = 5 }) (Read (Local (codes "a"))))
    ≡ codes "*(w as *mut u8).offset(12isize) = ((((((*(w as *mut u8).offset(12isize)) as u64) >> 8u32) << 8u32) + ((((a as u64) >> 0u32) % 32u64) << 3u32)) + (((*(w as *mut u8).offset(12isize)) as u64) % 8u64)) as u8;" ∷ []
unfolding digits begins_address begins_null transmute_of keywords path_words
within_a_byte = refl

over_two_bytes : lines (bit_write (Read (Local (codes "w"))) (record { byte = 12; bit = 6; width = 5 }) (Read (Local (codes "a"))))
    ≡ codes "*(w as *mut u8).offset(12isize) = ((((((*(w as *mut u8).offset(12isize)) as u64) >> 8u32) << 8u32) + ((((a as u64) >> 0u32) % 4u64) << 6u32)) + (((*(w as *mut u8).offset(12isize)) as u64) % 64u64)) as u8;"
    ∷ codes "*(w as *mut u8).offset(13isize) = ((((((*(w as *mut u8).offset(13isize)) as u64) >> 3u32) << 3u32) + ((((a as u64) >> 2u32) % 8u64) << 0u32)) + (((*(w as *mut u8).offset(13isize)) as u64) % 1u64)) as u8;" ∷ []
unfolding digits begins_address begins_null transmute_of keywords path_words
over_two_bytes = refl
