-- Readers of places and expressions (the Rust Reference, "Expressions"). `below` reads an expression that stands in another.
use Rattle.std.specs.Prelude.{◌&&◌, not, ℕ, zero, suc, true, false, Bool, codes, List, [], ◌∷◌, drop, length, Option, Some, None, if◌then◌else◌}
use Rattle.rs_expr.specs.Numbers.{literal}
use Rattle.rs_expr.specs.Reading.{Toks, Reader, read_of, listed}
use Rattle.rs_expr.specs.Signs.{sign_at, text_at, entry_of}
use Rattle.rs_expr.specs.Types.{ty, signature}
use Rattle.rs_expr.specs.declared.sign.Sign.{Sign}
use Rattle.rs_expr.specs.declared.sign.Sign.TheVariants as of
use Rattle.rs_expr.specs.declared.words.CoreWord.{CoreWord}
use Rattle.rs_expr.specs.declared.words.CoreWord.TheVariants.{AddressWord, NullWord, TransmuteWord}
use Rattle.rs_expr.specs.declared.words.Method.{Method}
use Rattle.rs_expr.specs.declared.words.Method.TheVariants.{Unwrap, AddMethod, SubMethod, MulMethod, NegMethod, OffsetMethod, OffsetFromMethod, IsNullMethod, IsNoneMethod}
use Rattle.rs_text.specs.Tree.{Ty, Place, Local, Static, Deref, Field, Expr, Literal, Truth, NoFunction, Read, Call, CallBy, Wrapped, WrappingNeg, Offset, OffsetFrom, IsNull, IsNone, AddressOf, NullPointer, SomeFunction, Transmute, Neg, Not, Cast, Binary, And, Or, Choose, exprs, tys, option_ty}
use Rattle.rs_text.specs.declared.operator.Operator.{Operator}
use Rattle.rs_text.specs.declared.operator.Operator.TheVariants.{Add, Sub, Mul, Div, Rem, BitAnd, BitOr, BitXor, Shl, Shr, Equal, NotEqual, Less, LessEqual, Greater, GreaterEqual}
use Rattle.rs_text.specs.declared.operator.Wrapping.{Wrapping}
use Rattle.rs_text.specs.declared.operator.Wrapping.TheVariants.{WrappingAdd, WrappingSub, WrappingMul}

-- ---- words and marks

unfoldable pub core_words : List (List ℕ × CoreWord)
core_words = (codes "addr_of_mut", AddressWord) ∷ (codes "null_mut", NullWord) ∷ (codes "transmute", TransmuteWord) ∷ []

abbrev pub core_word : List ℕ → CoreWord
core_word word = entry_of core_words word TransmuteWord

unfoldable pub methods : List (List ℕ × Method)
methods =
    (codes "unwrap", Unwrap) ∷ (codes "wrapping_add", AddMethod) ∷ (codes "wrapping_sub", SubMethod) ∷ (codes "wrapping_mul", MulMethod)
    ∷ (codes "wrapping_neg", NegMethod) ∷ (codes "offset", OffsetMethod) ∷ (codes "offset_from", OffsetFromMethod)
    ∷ (codes "is_null", IsNullMethod) ∷ (codes "is_none", IsNoneMethod) ∷ []

abbrev pub method_of : List ℕ → Method
method_of word = entry_of methods word IsNoneMethod

unfoldable pub operators : List (List ℕ × Operator)
operators =
    (codes "+", Add) ∷ (codes "-", Sub) ∷ (codes "*", Mul) ∷ (codes "/", Div) ∷ (codes "%", Rem) ∷ (codes "&", BitAnd) ∷ (codes "|", BitOr)
    ∷ (codes "^", BitXor) ∷ (codes "<<", Shl) ∷ (codes ">>", Shr) ∷ (codes "==", Equal) ∷ (codes "!=", NotEqual) ∷ (codes "<", Less)
    ∷ (codes "<=", LessEqual) ∷ (codes ">", Greater) ∷ (codes ">=", GreaterEqual) ∷ []

abbrev pub operator_of : List ℕ → Operator
operator_of mark = entry_of operators mark Add

-- a type that stands in an expression
abbrev pub read_ty : Reader Ty
read_ty tokens = ty (length tokens) tokens

-- the place that an expression reads, if it reads one
abbrev pub place_in : Expr → Option Place
place_in (Read place) = Some place
place_in _ = None

abbrev pub place_or : Option Place → Place
place_or None = Local []
place_or (Some place) = place

-- that place, or one without a name
abbrev pub place_of : Expr → Place
place_of e = place_or (place_in e)

-- ---- atoms

-- `core::ptr::addr_of_mut!(p)`
unfoldable pub address : Reader Expr → Reader Expr
address below tokens = read_of (AddressOf (place_of (below (drop 7 tokens)).0)) (drop 1 (below (drop 7 tokens)).1)

-- `core::ptr::null_mut::<T>()`
unfoldable pub null : Reader Expr
null tokens = read_of (NullPointer (read_ty (drop 7 tokens)).0) (drop 3 (read_ty (drop 7 tokens)).1)

-- `T>(e)` of a transmutation, whose first type is read
unfoldable pub transmute_to : Ty → Reader Expr → Reader Expr
transmute_to from below tokens =
    read_of (Transmute from (read_ty tokens).0 (below (drop 2 (read_ty tokens).1)).0) (drop 1 (below (drop 2 (read_ty tokens).1)).1)

-- `core::mem::transmute::<T, T>(e)`
unfoldable pub transmute : Reader Expr → Reader Expr
transmute below tokens = transmute_to (read_ty (drop 7 tokens)).0 below (drop 1 (read_ty (drop 7 tokens)).1)

abbrev pub core_by : CoreWord → Reader Expr → Reader Expr
core_by AddressWord below tokens = address below tokens
core_by NullWord below tokens = null tokens
core_by TransmuteWord below tokens = transmute below tokens

-- a call of a function of `core`
unfoldable pub core_call : Reader Expr → Reader Expr
core_call below tokens = core_by (core_word (text_at (drop 4 tokens))) below tokens

-- `crate::m::x`: the names of the module and of the item
unfoldable pub item_path : Reader (List ℕ × List ℕ)
item_path tokens = read_of (text_at (drop 2 tokens), text_at (drop 4 tokens)) (drop 5 tokens)

-- `Some(crate::m::x as unsafe extern "C" fn(T) -> T)`
unfoldable pub some_function : Reader Expr
some_function tokens =
    read_of (SomeFunction (text_at (drop 4 tokens)) (text_at (drop 6 tokens))
    (tys (signature (ty (length tokens)) (drop 8 tokens)).0.params) (option_ty (signature (ty (length tokens)) (drop 8 tokens)).0.result))
    (drop 1 (signature (ty (length tokens)) (drop 8 tokens)).1)

-- `crate::m::x(e, e)`
unfoldable pub call : Reader Expr → Reader Expr
call below tokens =
    read_of (Call (text_at (drop 2 tokens)) (text_at (drop 4 tokens)) (exprs (listed below (drop 6 tokens)).0))
    (drop 1 (listed below (drop 6 tokens)).1)

-- `crate::m::x`, a static object
unfoldable pub static_object : Reader Expr
static_object tokens = read_of (Read (Static (text_at (drop 2 tokens)) (text_at (drop 4 tokens)))) (drop 5 tokens)

abbrev pub path_by : Sign → Reader Expr → Reader Expr
path_by of.LeftParenthesis below tokens = call below tokens
path_by _ below tokens = static_object tokens

-- a call of a function of the crate, or a static object
unfoldable pub path : Reader Expr → Reader Expr
path below tokens = path_by (sign_at (drop 5 tokens)) below tokens

-- a parameter or local
unfoldable pub local : Reader Expr
local tokens = read_of (Read (Local (text_at tokens))) (drop 1 tokens)

abbrev pub name_by : Sign → Reader Expr → Reader Expr
name_by of.PathMark below tokens = core_call below tokens
name_by of.LeftParenthesis below tokens = some_function tokens
name_by _ below tokens = local tokens

-- what begins with a name
unfoldable pub named : Reader Expr → Reader Expr
named below tokens = name_by (sign_at (drop 1 tokens)) below tokens

-- a literal without a sign
unfoldable pub number : Reader Expr
number tokens = read_of (Literal (literal tokens).0.0 (literal tokens).0.1) (literal tokens).1

-- an expression in parentheses
unfoldable pub in_parentheses : Reader Expr → Reader Expr
in_parentheses below tokens = read_of (below (drop 1 tokens)).0 (drop 1 (below (drop 1 tokens)).1)

abbrev pub value_by : Sign → Expr
value_by of.NoneWord = NoFunction
value_by of.True = Truth true
value_by _ = Truth false

-- a literal of `bool`, or no function
unfoldable pub word_value : Reader Expr
word_value tokens = read_of (value_by (sign_at tokens)) (drop 1 tokens)

abbrev pub base_by : Sign → Reader Expr → Reader Expr
base_by of.LeftParenthesis below tokens = in_parentheses below tokens
base_by of.Number below tokens = number tokens
base_by of.True below tokens = word_value tokens
base_by of.False below tokens = word_value tokens
base_by of.NoneWord below tokens = word_value tokens
base_by of.Crate below tokens = path below tokens
base_by _ below tokens = named below tokens

-- what stands before dots
unfoldable pub base : Reader Expr → Reader Expr
base below tokens = base_by (sign_at tokens) below tokens

-- ---- dots

-- `unwrap()(e, e)`, behind its first parenthesis
unfoldable pub unwrapped : Expr → Reader Expr → Reader Expr
unwrapped operand below tokens = read_of (CallBy operand (exprs (listed below (drop 2 tokens)).0)) (drop 1 (listed below (drop 2 tokens)).1)

-- an argument and the parenthesis behind it
unfoldable pub argument : Reader Expr → Reader Expr
argument below tokens = read_of (below tokens).0 (drop 1 (below tokens).1)

-- `wrapping_add(e)` and its like
unfoldable pub wrapped : Wrapping → Expr → Reader Expr → Reader Expr
wrapped operation operand below tokens = read_of (Wrapped operand operation (argument below tokens).0) (argument below tokens).1

-- `offset(e)`
unfoldable pub moved : Expr → Reader Expr → Reader Expr
moved operand below tokens = read_of (Offset operand (argument below tokens).0) (argument below tokens).1

-- `offset_from(e)`
unfoldable pub measured : Expr → Reader Expr → Reader Expr
measured operand below tokens = read_of (OffsetFrom operand (argument below tokens).0) (argument below tokens).1

-- a method with an argument, which isn't `unwrap`, and its node
abbrev pub applied_tree : Method → Expr → Expr → Expr
applied_tree AddMethod operand arg = Wrapped operand WrappingAdd arg
applied_tree SubMethod operand arg = Wrapped operand WrappingSub arg
applied_tree MulMethod operand arg = Wrapped operand WrappingMul arg
applied_tree OffsetMethod operand arg = Offset operand arg
applied_tree _ operand arg = OffsetFrom operand arg

abbrev pub applied : Method → Expr → Reader Expr → Reader Expr
applied word operand below tokens = read_of (applied_tree word operand (argument below tokens).0) (argument below tokens).1

-- a method without arguments, behind its parenthesis
abbrev pub plain_by : Method → Expr → Reader Expr
plain_by NegMethod operand tokens = read_of (WrappingNeg operand) (drop 1 tokens)
plain_by IsNullMethod operand tokens = read_of (IsNull operand) (drop 1 tokens)
plain_by _ operand tokens = read_of (IsNone operand) (drop 1 tokens)

abbrev pub method_by : Method → Expr → Reader Expr → Reader Expr
method_by Unwrap operand below tokens = unwrapped operand below tokens
method_by AddMethod operand below tokens = wrapped WrappingAdd operand below tokens
method_by SubMethod operand below tokens = wrapped WrappingSub operand below tokens
method_by MulMethod operand below tokens = wrapped WrappingMul operand below tokens
method_by NegMethod operand below tokens = plain_by NegMethod operand tokens
method_by OffsetMethod operand below tokens = moved operand below tokens
method_by OffsetFromMethod operand below tokens = measured operand below tokens
method_by IsNullMethod operand below tokens = plain_by IsNullMethod operand tokens
method_by IsNoneMethod operand below tokens = plain_by IsNoneMethod operand tokens

-- a method, behind its parenthesis
unfoldable pub method : Method → Expr → Reader Expr → Reader Expr
method word operand below tokens = method_by word operand below tokens

-- `.f`
unfoldable pub field : Expr → Reader Expr
field operand tokens = read_of (Read (Field (place_of operand) (text_at (drop 1 tokens)))) (drop 2 tokens)

abbrev pub tail_by : Sign → Expr → Reader Expr → Reader Expr
tail_by of.LeftParenthesis operand below tokens = method (method_of (text_at (drop 1 tokens))) operand below (drop 3 tokens)
tail_by _ operand below tokens = field operand tokens

-- `.f`, or a method
unfoldable pub tail : Expr → Reader Expr → Reader Expr
tail operand below tokens = tail_by (sign_at (drop 2 tokens)) operand below tokens

abbrev pub is_dot : Sign → Bool
is_dot of.Dot = true
is_dot _ = false

-- all that stands behind an operand, each behind a dot
unfoldable pub tails : ℕ → Expr → Reader Expr → Reader Expr
tails zero operand below tokens = read_of operand tokens
tails (suc turns) operand below tokens =
    if is_dot (sign_at tokens) then tails turns (tail operand below tokens).0 below (tail operand below tokens).1 else read_of operand tokens

-- an operand
unfoldable pub operand : Reader Expr → Reader Expr
operand below tokens = tails (length (base below tokens).1) (base below tokens).0 below (base below tokens).1

-- ---- compounds

-- `as T`
unfoldable pub cast : Expr → Reader Expr
cast left tokens = read_of (Cast left (read_ty (drop 1 tokens)).0) (read_ty (drop 1 tokens)).1

-- the operand behind an operator
abbrev pub right : Reader Expr → Reader Expr
right below tokens = operand below (drop 1 tokens)

unfoldable pub and_right : Expr → Reader Expr → Reader Expr
and_right left below tokens = read_of (And left (right below tokens).0) (right below tokens).1

unfoldable pub or_right : Expr → Reader Expr → Reader Expr
or_right left below tokens = read_of (Or left (right below tokens).0) (right below tokens).1

unfoldable pub operated : Expr → Reader Expr → Reader Expr
operated left below tokens = read_of (Binary left (operator_of (text_at tokens)) (right below tokens).0) (right below tokens).1

-- an operator between two operands, by its mark, and its node
abbrev pub joined_tree : Sign → Expr → Operator → Expr → Expr
joined_tree of.AndAnd left operator right = And left right
joined_tree of.OrOr left operator right = Or left right
joined_tree _ left operator right = Binary left operator right

abbrev pub joined : Sign → Expr → Reader Expr → Reader Expr
joined sign left below tokens =
    read_of (joined_tree sign left (operator_of (text_at tokens)) (right below tokens).0) (right below tokens).1

abbrev pub continuation_by : Sign → Expr → Reader Expr → Reader Expr
continuation_by of.As left below tokens = cast left tokens
continuation_by of.AndAnd left below tokens = and_right left below tokens
continuation_by of.OrOr left below tokens = or_right left below tokens
continuation_by of.Star left below tokens = operated left below tokens
continuation_by of.Minus left below tokens = operated left below tokens
continuation_by of.OtherMark left below tokens = operated left below tokens
continuation_by _ left below tokens = read_of left tokens

-- what stands behind the first operand
unfoldable pub continuation : Expr → Reader Expr → Reader Expr
continuation left below tokens = continuation_by (sign_at tokens) left below tokens

-- an operand, or an operator between two
unfoldable pub between : Reader Expr → Reader Expr
between below tokens = continuation (operand below tokens).0 below (operand below tokens).1

-- `-o`
unfoldable pub opposite : Reader Expr → Reader Expr
opposite below tokens = read_of (Neg (right below tokens).0) (right below tokens).1

-- `!o`
unfoldable pub inverted : Reader Expr → Reader Expr
inverted below tokens = read_of (Not (right below tokens).0) (right below tokens).1

-- `*o`
unfoldable pub pointed : Reader Expr → Reader Expr
pointed below tokens = read_of (Read (Deref (right below tokens).0)) (right below tokens).1

-- an operator before its operand, by its mark, and its node
abbrev pub prefixed_tree : Sign → Expr → Expr
prefixed_tree of.Minus operand = Neg operand
prefixed_tree of.Bang operand = Not operand
prefixed_tree _ operand = Read (Deref operand)

abbrev pub prefixed : Sign → Reader Expr → Reader Expr
prefixed sign below tokens = read_of (prefixed_tree sign (right below tokens).0) (right below tokens).1

abbrev pub is_number : Sign → Bool
is_number of.Number = true
is_number _ = false

-- a literal that no dot stands behind is behind the next token
abbrev pub is_lone : Toks → Bool
is_lone tokens = is_number (sign_at (drop 1 tokens)) && not (is_dot (sign_at (drop 2 tokens)))

-- a negative literal, or `-o`
unfoldable pub minus : Reader Expr → Reader Expr
minus below tokens = if is_lone tokens then number tokens else opposite below tokens

-- `e } else { e }`, where the condition is read
unfoldable pub choose_from : Expr → Reader Expr → Reader Expr
choose_from condition below tokens =
    read_of (Choose condition (below tokens).0 (below (drop 3 (below tokens).1)).0) (drop 1 (below (drop 3 (below tokens).1)).1)

-- `if e { e } else { e }`
unfoldable pub choose : Reader Expr → Reader Expr
choose below tokens = choose_from (below (drop 1 tokens)).0 below (drop 1 (below (drop 1 tokens)).1)

abbrev pub expr_by : Sign → Reader Expr → Reader Expr
expr_by of.If below tokens = choose below tokens
expr_by of.Minus below tokens = minus below tokens
expr_by of.Bang below tokens = inverted below tokens
expr_by of.Star below tokens = pointed below tokens
expr_by _ below tokens = between below tokens

unfoldable pub expr_from : Reader Expr → Reader Expr
expr_from below tokens = expr_by (sign_at tokens) below tokens

-- an expression of at most so many levels
unfoldable pub expr : ℕ → Reader Expr
expr zero tokens = read_of NoFunction tokens
expr (suc levels) tokens = expr_from (expr levels) tokens
