-- A worked example with every form of the subset: its text to the byte, and that it is read back.
use Rattle.std.proofs.Common.{◌≡◌, ℕ, pos, negsuc, true, false, List, [], ◌∷◌, ◌++◌, map, Option, Some, None, codes, refl}
use Rattle.std.specs.Fmt.{digits}
use Rattle.std.specs.List.{flat_map}
use Rattle.rs_text.specs.declared.attribute.Attribute.TheVariants.{Mangled, NoMangle, ExportName}
use Rattle.rs_text.specs.declared.integer.IntegerTy.TheVariants.{I8, I32, I64, Isize, U8, U32, Usize}
use Rattle.rs_text.specs.declared.operator.Operator.TheVariants.{Add, Sub, Mul, Div, Rem, BitAnd, BitOr, BitXor, Shl, Shr, Equal, NotEqual, Less, LessEqual, Greater, GreaterEqual}
use Rattle.rs_text.specs.declared.operator.Wrapping.TheVariants.{WrappingAdd, WrappingSub, WrappingMul}
use Rattle.rs_text.specs.Lines.{allow_line, address_of, null_of, transmute_of, function_of, zeroed, static_zeroed, exit_of, initialiser_of, cargo_lines}
use Rattle.rs_text.specs.Names.{keywords, path_words}
use Rattle.rs_text.specs.Reads.{ReadsAs}
use Rattle.rs_text.specs.Text.{text_of}
use Rattle.rs_text.specs.Tokens.{marks}
use Rattle.rs_text.specs.Tree.{Ty, Integer, Boolean, Void, Pointer, Array, Code, Record, tys, option_ty, Place, Local, Static, Deref, Field, Expr, Literal, Truth, NoFunction, Read, Call, CallBy, Wrapped, WrappingNeg, Offset, OffsetFrom, IsNull, IsNone, AddressOf, NullPointer, SomeFunction, Transmute, Neg, Not, Cast, Binary, And, Or, Choose, exprs, Stmt, Assign, Eval, CopyBytes, If, Loop, Block, Break, Continue, Match, Return, stmts, LiteralArm, arms, FieldTree, LocalTree, ItemTree, RecordItem, StaticItem, ExternItem, FunctionItem, CrateTree}

-- ---- short names

abbrev int : Ty
int = Integer I32

abbrev point : Ty
point = Record (codes "a") (codes "point")

-- a pointer to a function of no parameters without result, and one from `i32` to `i32`
abbrev action : Ty
action = Code (tys []) (option_ty None)

abbrev step : Ty
step = Code (tys (int ∷ [])) (option_ty (Some int))

abbrev number : ℕ → Expr
number n = Literal (pos n) I32

abbrev x : List ℕ → Expr
x name = Read (Local name)

abbrev n : Expr
n = x (codes "n")

abbrev b : Expr
b = x (codes "b")

abbrev p : Expr
p = x (codes "p")

abbrev f : Expr
f = x (codes "f")

abbrev v : Expr
v = x (codes "v")

-- `(*p).x` and `here.x`
abbrev of_p : Place
of_p = Field (Deref p) (codes "x")

abbrev of_here : Place
of_here = Field (Local (codes "here")) (codes "x")

abbrev gets : List ℕ → Expr → Stmt
gets name value = Assign (Local name) value

abbrev local : List ℕ → Ty → LocalTree
local name ty = record { name = name; ty = ty }

abbrev field : List ℕ → Ty → FieldTree
field name ty = record { name = name; ty = ty }

-- a function that is known to its crate alone
abbrev function : List ℕ → List LocalTree → Option Ty → List LocalTree → List Stmt → ItemTree
function name params result locals body =
    FunctionItem (record { attribute = Mangled; name = name; params = params; result = result; locals = locals; body = stmts body })

abbrev initialiser : ItemTree
initialiser = function (codes "run_static_initializers") [] None [] []

-- ---- records, objects, external functions

abbrev record_point : ItemTree
record_point = RecordItem (record {
  align = None;
  is_union = false;
  name = codes "point";
  fields = field (codes "x") int ∷ field (codes "r#type") (Pointer point) ∷ [];
})

abbrev union_either : ItemTree
union_either = RecordItem (record {
  align = Some 16;
  is_union = true;
  name = codes "either";
  fields = field (codes "bytes") (Array (Integer U8) 2)
      ∷ field (codes "code") (Code (tys (Integer I8 ∷ Pointer Void ∷ [])) (option_ty (Some action))) ∷ [];
})

abbrev object_count : ItemTree
object_count = StaticItem (record { attribute = NoMangle; name = codes "count"; ty = Integer Usize; values = None })

abbrev object_text : ItemTree
object_text = StaticItem (record {
  attribute = ExportName (codes "fn");
  name = codes "text";
  ty = Array (Integer I8) 2;
  values = Some (pos 72 ∷ negsuc 0 ∷ []);
})

abbrev externals : ItemTree
externals = ExternItem (
    record { link_name = None; name = codes "putchar"; params = int ∷ []; variadic = false; result = Some int }
    ∷ record { link_name = Some (codes "printf"); name = codes "r#loop"; params = Pointer (Integer I8) ∷ Integer I64 ∷ []; variadic = true; result = Some int }
    ∷ [])

-- ---- functions

abbrev next : ItemTree
next = FunctionItem (record {
  attribute = NoMangle;
  name = codes "next";
  params = local (codes "n") int ∷ [];
  result = Some int;
  locals = [];
  body = stmts (Return (Some (Binary n Add (number 1))) ∷ []);
})

abbrev places : ItemTree
places = function (codes "places") (local (codes "p") (Pointer point) ∷ local (codes "n") int ∷ []) None (local (codes "here") point ∷ [])
    (Assign of_here n
    ∷ Assign of_p (Neg (Read of_here))
    ∷ Assign (Field (Deref (Read (Field (Deref p) (codes "r#type")))) (codes "x")) (Read of_p)
    ∷ Assign (Deref (AddressOf of_p)) (Literal (negsuc 6) I32)
    ∷ Assign (Static (codes "a") (codes "count")) (Literal (pos 5) Usize)
    ∷ CopyBytes (Cast (AddressOf (Local (codes "here"))) (Pointer (Integer U8))) (Cast p (Pointer (Integer U8))) (Literal (pos 16) Usize)
    ∷ Return None ∷ [])

abbrev pointers : ItemTree
pointers = function (codes "pointers") (local (codes "p") (Pointer int) ∷ local (codes "f") step ∷ []) (Some Boolean) (local (codes "v") (Pointer Void) ∷ [])
    (gets (codes "p") (Offset (Offset p (Literal (pos 1) Isize)) (OffsetFrom p p))
    ∷ gets (codes "v") (NullPointer Void)
    ∷ gets (codes "f") (SomeFunction (codes "a") (codes "next") (tys (int ∷ [])) (option_ty (Some int)))
    ∷ Assign (Deref p) (CallBy f (exprs (Read (Deref p) ∷ [])))
    ∷ Eval (CallBy f (exprs (number 2 ∷ [])))
    ∷ gets (codes "f") (Transmute action step NoFunction)
    ∷ Return (Some (And (Not (IsNull p)) (Or (IsNull v) (IsNone f)))) ∷ [])

abbrev numbers : ItemTree
numbers = function (codes "numbers") (local (codes "n") int ∷ local (codes "b") Boolean ∷ []) (Some int) []
    (gets (codes "n") (Wrapped (Wrapped (Wrapped n WrappingAdd (number 1)) WrappingSub (number 2)) WrappingMul (WrappingNeg n))
    ∷ gets (codes "n") (Binary (Binary (Binary n Add (number 1)) Sub (Binary n Mul (number 2))) Div (Binary n Rem (number 3)))
    ∷ gets (codes "n") (Binary (Binary (Binary n BitAnd (number 1)) BitOr (Binary n BitXor (number 2))) Shl (Cast n (Integer U32)))
    ∷ gets (codes "n") (Binary n Shr (Literal (pos 1) U32))
    ∷ gets (codes "b") (Binary (Binary n Equal (number 1)) NotEqual (Binary n Less (number 2)))
    ∷ gets (codes "b") (Or (Binary n LessEqual (number 3)) (Binary n Greater (number 4)))
    ∷ gets (codes "b") (And b (Binary n GreaterEqual (number 5)))
    ∷ gets (codes "b") (Truth true)
    ∷ gets (codes "b") (Not b)
    ∷ gets (codes "n") (Choose b n (Neg n))
    ∷ Return (Some n) ∷ [])

abbrev flows : ItemTree
flows = function (codes "flows") (local (codes "n") int ∷ []) None []
    (Eval (Call (codes "a") (codes "putchar") (exprs (n ∷ [])))
    ∷ If (Binary n Less (number 3)) (stmts (gets (codes "n") (number 1) ∷ [])) (stmts (gets (codes "n") (number 2) ∷ []))
    ∷ If (Binary n Equal (number 4)) (stmts []) (stmts [])
    ∷ Loop (Some (codes "a")) (stmts (Loop None (stmts (Break (codes "a") ∷ [])) ∷ Continue (codes "a") ∷ []))
    ∷ Block (codes "b") (stmts (Match n
    (arms (LiteralArm (pos 1) I32 (stmts (Break (codes "b") ∷ [])) ∷ LiteralArm (negsuc 1) I32 (stmts []) ∷ []))
    (stmts (Return None ∷ [])) ∷ []))
    ∷ [])

abbrev main_0 : ItemTree
main_0 = function (codes "main_0") [] (Some int) [] (Return (Some (Call (codes "a") (codes "next") (exprs (number 41 ∷ [])))) ∷ [])

-- ---- the crate

abbrev pub every_form : CrateTree
every_form = record {
  modules = record {
    name = codes "a";
    items = record_point ∷ union_either ∷ object_count ∷ object_text ∷ externals ∷ next ∷ places ∷ pointers ∷ numbers ∷ flows ∷ initialiser ∷ [];
  } ∷ record {
    name = codes "b";
    items = main_0 ∷ initialiser ∷ [];
  } ∷ [];
  entry = 1;
}

-- ---- its text

-- lines, each ended by a newline
abbrev rows : List (List ℕ) → List ℕ
rows lines = flat_map (λ one. one ++ codes "\n") lines

-- `src/a.rs`
abbrev a_rs : List ℕ
a_rs = rows (
    codes "#[derive(Copy, Clone)]" ∷
    codes "#[repr(C)]" ∷
    codes "pub struct point {" ∷
    codes "    pub x: i32," ∷
    codes "    pub r#type: *mut crate::a::point," ∷
    codes "}" ∷
    codes "#[derive(Copy, Clone)]" ∷
    codes "#[repr(C, align(16))]" ∷
    codes "pub union either {" ∷
    codes "    pub bytes: [u8; 2]," ∷
    codes "    pub code: Option<unsafe extern \"C\" fn(i8, *mut core::ffi::c_void) -> Option<unsafe extern \"C\" fn()>>," ∷
    codes "}" ∷
    codes "#[no_mangle]" ∷
    codes "pub static mut count: usize = unsafe { core::mem::zeroed() };" ∷
    codes "#[export_name = \"fn\"]" ∷
    codes "pub static mut text: [i8; 2] = [72i8, -1i8];" ∷
    codes "extern \"C\" {" ∷
    codes "    pub fn putchar(a0: i32) -> i32;" ∷
    codes "    #[link_name = \"printf\"]" ∷
    codes "    pub fn r#loop(a0: *mut i8, a1: i64, ...) -> i32;" ∷
    codes "}" ∷
    codes "#[no_mangle]" ∷
    codes "pub unsafe extern \"C\" fn next(mut n: i32) -> i32 {" ∷
    codes "    return n + 1i32;" ∷
    codes "}" ∷
    codes "pub unsafe extern \"C\" fn places(mut p: *mut crate::a::point, mut n: i32) {" ∷
    codes "    let mut here: crate::a::point = core::mem::zeroed();" ∷
    codes "    here.x = n;" ∷
    codes "    (*p).x = -here.x;" ∷
    codes "    (*(*p).r#type).x = (*p).x;" ∷
    codes "    *core::ptr::addr_of_mut!((*p).x) = -7i32;" ∷
    codes "    crate::a::count = 5usize;" ∷
    codes "    core::ptr::copy(core::ptr::addr_of_mut!(here) as *mut u8, p as *mut u8, 16usize);" ∷
    codes "    return;" ∷
    codes "}" ∷
    codes "pub unsafe extern \"C\" fn pointers(mut p: *mut i32, mut f: Option<unsafe extern \"C\" fn(i32) -> i32>) -> bool {" ∷
    codes "    let mut v: *mut core::ffi::c_void = core::mem::zeroed();" ∷
    codes "    p = p.offset(1isize).offset(p.offset_from(p));" ∷
    codes "    v = core::ptr::null_mut::<core::ffi::c_void>();" ∷
    codes "    f = Some(crate::a::next as unsafe extern \"C\" fn(i32) -> i32);" ∷
    codes "    *p = f.unwrap()(*p);" ∷
    codes "    f.unwrap()(2i32);" ∷
    codes "    f = core::mem::transmute::<Option<unsafe extern \"C\" fn()>, Option<unsafe extern \"C\" fn(i32) -> i32>>(None);" ∷
    codes "    return (!p.is_null()) && (v.is_null() || f.is_none());" ∷
    codes "}" ∷
    codes "pub unsafe extern \"C\" fn numbers(mut n: i32, mut b: bool) -> i32 {" ∷
    codes "    n = n.wrapping_add(1i32).wrapping_sub(2i32).wrapping_mul(n.wrapping_neg());" ∷
    codes "    n = ((n + 1i32) - (n * 2i32)) / (n % 3i32);" ∷
    codes "    n = ((n & 1i32) | (n ^ 2i32)) << (n as u32);" ∷
    codes "    n = n >> 1u32;" ∷
    codes "    b = (n == 1i32) != (n < 2i32);" ∷
    codes "    b = (n <= 3i32) || (n > 4i32);" ∷
    codes "    b = b && (n >= 5i32);" ∷
    codes "    b = true;" ∷
    codes "    b = !b;" ∷
    codes "    n = if b { n } else { -n };" ∷
    codes "    return n;" ∷
    codes "}" ∷
    codes "pub unsafe extern \"C\" fn flows(mut n: i32) {" ∷
    codes "    crate::a::putchar(n);" ∷
    codes "    if n < 3i32 {" ∷
    codes "        n = 1i32;" ∷
    codes "    } else {" ∷
    codes "        n = 2i32;" ∷
    codes "    }" ∷
    codes "    if n == 4i32 {" ∷
    codes "    }" ∷
    codes "    'a: loop {" ∷
    codes "        loop {" ∷
    codes "            break 'a;" ∷
    codes "        }" ∷
    codes "        continue 'a;" ∷
    codes "    }" ∷
    codes "    'b: {" ∷
    codes "        match n {" ∷
    codes "            1i32 => {" ∷
    codes "                break 'b;" ∷
    codes "            }" ∷
    codes "            -2i32 => {" ∷
    codes "            }" ∷
    codes "            _ => {" ∷
    codes "                return;" ∷
    codes "            }" ∷
    codes "        }" ∷
    codes "    }" ∷
    codes "}" ∷
    codes "pub unsafe extern \"C\" fn run_static_initializers() {" ∷
    codes "}" ∷ [])

-- `src/b.rs`
abbrev b_rs : List ℕ
b_rs = rows (
    codes "pub unsafe extern \"C\" fn main_0() -> i32 {" ∷
    codes "    return crate::a::next(41i32);" ∷
    codes "}" ∷
    codes "pub unsafe extern \"C\" fn run_static_initializers() {" ∷
    codes "}" ∷ [])

-- `src/main.rs`
abbrev main_rs : List ℕ
main_rs = rows (
    codes "#![allow(unconditional_panic, arithmetic_overflow)]" ∷
    codes "mod a;" ∷
    codes "mod b;" ∷
    codes "fn main() {" ∷
    codes "    unsafe {" ∷
    codes "        crate::a::run_static_initializers();" ∷
    codes "        crate::b::run_static_initializers();" ∷
    codes "        std::process::exit(crate::b::main_0());" ∷
    codes "    }" ∷
    codes "}" ∷ [])

-- `Cargo.toml`
abbrev cargo_toml : List ℕ
cargo_toml = rows (
    codes "[package]" ∷
    codes "name = \"translated\"" ∷
    codes "version = \"0.0.0\"" ∷
    codes "edition = \"2021\"" ∷ [])

every_text : map (λ file. file.bytes) (text_of every_form) ≡ a_rs ∷ b_rs ∷ main_rs ∷ cargo_toml ∷ []
unfolding allow_line address_of null_of transmute_of function_of zeroed static_zeroed exit_of initialiser_of cargo_lines digits
every_text = refl

every_names : map (λ file. file.name) (text_of every_form) ≡ codes "src/a.rs" ∷ codes "src/b.rs" ∷ codes "src/main.rs" ∷ codes "Cargo.toml" ∷ []
every_names = refl

every_read : ReadsAs (text_of every_form) every_form
unfolding allow_line address_of null_of transmute_of function_of zeroed static_zeroed exit_of initialiser_of cargo_lines digits marks keywords path_words
every_read = record { valid = refl; count = refl; cargo = refl; main = refl; modules = refl }
