-- Readers of types (the Rust Reference, "Types").
use Rattle.std.specs.Prelude.{ℕ, zero, suc, Bool, bytes_eq, codes, List, drop, map, Option, Some, None, option_map, if◌then◌else◌}
use Rattle.rs_expr.specs.Numbers.{integer_of, size_of}
use Rattle.rs_expr.specs.Reading.{Reader, read_of, listed}
use Rattle.rs_expr.specs.Signs.{sign_at, text_at}
use Rattle.rs_expr.specs.declared.sign.Sign.{Sign}
use Rattle.rs_expr.specs.declared.sign.Sign.TheVariants.{Star, LeftBracket, Crate, Arrow}
use Rattle.rs_expr.specs.declared.types.Signature.{Signature}
use Rattle.rs_text.specs.Tree.{Ty, Integer, Boolean, Void, Pointer, Array, Code, Record, tys, option_ty}
use Rattle.rs_tree.specs.Views.{ty_view}

-- `*mut T`
unfoldable pub pointer : Reader Ty → Reader Ty
pointer below tokens = read_of (Pointer (below (drop 2 tokens)).0) (below (drop 2 tokens)).1

-- `[T; N]`
unfoldable pub array : Reader Ty → Reader Ty
array below tokens =
    read_of (Array (below (drop 1 tokens)).0 (size_of (text_at (drop 1 (below (drop 1 tokens)).1)))) (drop 3 (below (drop 1 tokens)).1)

-- `crate::m::x`
unfoldable pub record_ty : Reader Ty
record_ty tokens = read_of (Record (text_at (drop 2 tokens)) (text_at (drop 4 tokens))) (drop 5 tokens)

abbrev pub result_by : Sign → Reader Ty → Reader (Option Ty)
result_by Arrow below tokens = read_of (Some (below (drop 1 tokens)).0) (below (drop 1 tokens)).1
result_by _ below tokens = read_of None tokens

-- `-> T`, which may be missing
unfoldable pub result : Reader Ty → Reader (Option Ty)
result below tokens = result_by (sign_at tokens) below tokens

-- the types of parameters, and that of a result
pub record SignatureTree : Type 0 where
  pub params : List Ty
  pub result : Option Ty

abbrev pub signature_tree : List Ty → Option Ty → SignatureTree
signature_tree params result = record { params = params; result = result }

abbrev pub signature_view : Signature → SignatureTree
signature_view of = signature_tree (map ty_view of.params) (option_map ty_view of.result)

-- `unsafe extern "C" fn(T, T) -> T`
unfoldable pub signature : Reader Ty → Reader SignatureTree
signature below tokens =
    read_of (signature_tree (listed below (drop 5 tokens)).0 (result below (drop 1 (listed below (drop 5 tokens)).1)).0)
    (result below (drop 1 (listed below (drop 5 tokens)).1)).1

-- `Option<unsafe extern "C" fn(T, T) -> T>`
unfoldable pub code : Reader Ty → Reader Ty
code below tokens =
    read_of (Code (tys (signature below (drop 2 tokens)).0.params) (option_ty (signature below (drop 2 tokens)).0.result))
    (drop 1 (signature below (drop 2 tokens)).1)

abbrev pub is_option : List ℕ → Bool
is_option word = bytes_eq word (codes "Option")

-- a type of one word, or `core::ffi::c_void`
unfoldable pub plain_ty : Reader Ty
plain_ty tokens =
    if bytes_eq (text_at tokens) (codes "bool") then read_of Boolean (drop 1 tokens)
    else if bytes_eq (text_at tokens) (codes "core") then read_of Void (drop 5 tokens)
    else read_of (Integer (integer_of (text_at tokens))) (drop 1 tokens)

-- a type that begins with a word
unfoldable pub word_ty : Reader Ty → Reader Ty
word_ty below tokens = if is_option (text_at tokens) then code below tokens else plain_ty tokens

abbrev pub ty_by : Sign → Reader Ty → Reader Ty
ty_by Star below tokens = pointer below tokens
ty_by LeftBracket below tokens = array below tokens
ty_by Crate below tokens = record_ty tokens
ty_by _ below tokens = word_ty below tokens

unfoldable pub ty_from : Reader Ty → Reader Ty
ty_from below tokens = ty_by (sign_at tokens) below tokens

-- a type of at most so many levels
unfoldable pub ty : ℕ → Reader Ty
ty zero tokens = read_of Boolean tokens
ty (suc levels) tokens = ty_from (ty levels) tokens
