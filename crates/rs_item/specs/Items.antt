-- Readers of items and of modules (the Rust Reference, "Items").
use Rattle.std.specs.Prelude.{ℕ, ℤ, ◌^◌, Bool, true, false, not, bytes_eq, codes, List, drop, map, length, Option, Some, None, option_map, if◌then◌else◌}
use Rattle.rs_expr.specs.Numbers.{literal, limited, size_of}
use Rattle.rs_expr.specs.Reading.{Toks, Reader, read_of, many_ahead, part, listed}
use Rattle.rs_expr.specs.Signs.{sign_at, text_at}
use Rattle.rs_expr.specs.Types.{ty, result}
use Rattle.rs_expr.specs.declared.sign.Sign.{Sign}
use Rattle.rs_expr.specs.declared.sign.Sign.TheVariants as of
use Rattle.rs_item.specs.declared.functions.Head.{Head}
use Rattle.rs_tree.specs.Views.{ty_view, local_view}
use Rattle.rs_item.specs.Stmts.{read_stmts}
use Rattle.rs_text.specs.Tree.{Ty, Stmt, stmts, FieldTree, RecordTree, StaticTree, OuterTree, LocalTree, FunctionTree, ItemTree, RecordItem, StaticItem, ExternItem, FunctionItem}
use Rattle.rs_text.specs.declared.attribute.Attribute.{Attribute}
use Rattle.rs_text.specs.declared.attribute.Attribute.TheVariants.{Mangled, NoMangle, ExportName}

abbrev pub read_ty : Reader Ty
read_ty tokens = ty (length tokens) tokens

abbrev pub read_result : Reader (Option Ty)
read_result tokens = result (ty (length tokens)) tokens

abbrev pub field_tree : List ℕ → Ty → FieldTree
field_tree name ty = record { name = name; ty = ty }

abbrev pub local_tree : List ℕ → Ty → LocalTree
local_tree name ty = record { name = name; ty = ty }

-- `x: T`, as what has a name and a type
unfoldable pub typed : Reader LocalTree
typed tokens = read_of (local_tree (text_at tokens) (read_ty (drop 2 tokens)).0) (read_ty (drop 2 tokens)).1

-- ---- attributes

-- the text of `#[w = "s"]`
unfoldable pub text_attribute : Reader (List ℕ)
text_attribute tokens = read_of (text_at (drop 4 tokens)) (drop 6 tokens)

-- `#[no_mangle]` is ahead
abbrev pub is_no_mangle : Toks → Bool
is_no_mangle tokens = bytes_eq (text_at (drop 2 tokens)) (codes "no_mangle")

abbrev pub attribute_by : Sign → Reader Attribute
attribute_by of.Hash tokens =
    if is_no_mangle tokens then read_of NoMangle (drop 4 tokens) else read_of (ExportName (text_attribute tokens).0) (text_attribute tokens).1
attribute_by _ tokens = read_of Mangled tokens

-- the attribute that gives a symbol, which may be missing
unfoldable pub attribute : Reader Attribute
attribute tokens = attribute_by (sign_at tokens) tokens

abbrev pub link_name_by : Sign → Reader (Option (List ℕ))
link_name_by of.Hash tokens = read_of (Some (text_attribute tokens).0) (text_attribute tokens).1
link_name_by _ tokens = read_of None tokens

-- `#[link_name = "s"]`, which may be missing
unfoldable pub link_name : Reader (Option (List ℕ))
link_name tokens = link_name_by (sign_at tokens) tokens

-- ---- records

-- a number of 32 bits
abbrev pub narrow : ℕ → ℕ
narrow size = limited (2 ^ 32) size

abbrev pub align_by : Sign → Reader (Option ℕ)
align_by of.Comma tokens = read_of (Some (narrow (size_of (text_at (drop 8 tokens))))) (drop 12 tokens)
align_by _ tokens = read_of None (drop 7 tokens)

-- `#[repr(C)]`, or `#[repr(C, align(N))]`
unfoldable pub repr : Reader (Option ℕ)
repr tokens = align_by (sign_at (drop 5 tokens)) tokens

-- `pub f: T,`
unfoldable pub field : Reader FieldTree
field tokens = read_of (field_tree (typed (drop 1 tokens)).0.name (typed (drop 1 tokens)).0.ty) (drop 1 (typed (drop 1 tokens)).1)

abbrev pub ends_braces : Sign → Bool
ends_braces of.End = true
ends_braces of.RightBrace = true
ends_braces _ = false

abbrev pub fields : Reader (List FieldTree)
fields = many_ahead ends_braces field

abbrev pub is_struct : Sign → Bool
is_struct of.Struct = true
is_struct _ = false

abbrev pub record_tree : Option ℕ → Bool → List ℕ → List FieldTree → RecordTree
record_tree align is_union name fields = record { align = align; is_union = is_union; name = name; fields = fields }

-- `pub struct x { .. }`, behind its attributes
unfoldable pub record_from : Option ℕ → Reader RecordTree
record_from align tokens =
    read_of (record_tree align (not (is_struct (sign_at (drop 1 tokens)))) (text_at (drop 2 tokens)) (fields (drop 4 tokens)).0)
    (drop 1 (fields (drop 4 tokens)).1)

-- a record
unfoldable pub record_item : Reader RecordTree
record_item tokens = record_from (repr (drop 9 tokens)).0 (repr (drop 9 tokens)).1

-- ---- static objects

unfoldable pub value : Reader ℤ
value tokens = read_of (literal tokens).0.0 (literal tokens).1

abbrev pub ends_brackets : Sign → Bool
ends_brackets of.End = true
ends_brackets of.RightBracket = true
ends_brackets _ = false

abbrev pub read_values : Reader (List ℤ)
read_values = many_ahead ends_brackets (part value)

abbrev pub values_by : Sign → Reader (Option (List ℤ))
values_by of.LeftBracket tokens = read_of (Some (read_values (drop 1 tokens)).0) (drop 1 (read_values (drop 1 tokens)).1)
values_by _ tokens = read_of None (drop 10 tokens)

-- what a static object begins as
unfoldable pub values : Reader (Option (List ℤ))
values tokens = values_by (sign_at tokens) tokens

abbrev pub static_tree : Attribute → List ℕ → Ty → Option (List ℤ) → StaticTree
static_tree attribute name ty values = record { attribute = attribute; name = name; ty = ty; values = values }

-- `= ..;`, where the name and the type are read
unfoldable pub static_end : Attribute → LocalTree → Reader StaticTree
static_end given typed tokens =
    read_of (static_tree given typed.name typed.ty (values (drop 1 tokens)).0) (drop 1 (values (drop 1 tokens)).1)

-- `pub static mut x: T = ..;`, behind its attribute
unfoldable pub static_from : Attribute → Reader StaticTree
static_from given tokens = static_end given (typed (drop 3 tokens)).0 (typed (drop 3 tokens)).1

-- ---- external functions

-- the type of a parameter behind its name
unfoldable pub outer_param : Reader Ty
outer_param tokens = read_of (read_ty (drop 2 tokens)).0 (read_ty (drop 2 tokens)).1

abbrev pub ends_params : Sign → Bool
ends_params of.End = true
ends_params of.RightParenthesis = true
ends_params of.OtherMark = true
ends_params _ = false

abbrev pub outer_params : Reader (List Ty)
outer_params = many_ahead ends_params (part outer_param)

abbrev pub variadic_by : Sign → Reader Bool
variadic_by of.OtherMark tokens = read_of true (drop 1 tokens)
variadic_by _ tokens = read_of false tokens

-- `...`, which may be missing
unfoldable pub variadic : Reader Bool
variadic tokens = variadic_by (sign_at tokens) tokens

abbrev pub outer_tree : Option (List ℕ) → List ℕ → List Ty → Bool → Option Ty → OuterTree
outer_tree link_name name params variadic result =
    record { link_name = link_name; name = name; params = params; variadic = variadic; result = result }

-- `...) -> T;`, behind the parameters
unfoldable pub outer_end : Option (List ℕ) → List ℕ → List Ty → Reader OuterTree
outer_end symbol name params tokens =
    read_of (outer_tree symbol name params (variadic tokens).0 (read_result (drop 1 (variadic tokens).1)).0)
    (drop 1 (read_result (drop 1 (variadic tokens).1)).1)

-- `pub fn x(a0: T, ...) -> T;`, behind its attribute
unfoldable pub outer_from : Option (List ℕ) → Reader OuterTree
outer_from symbol tokens = outer_end symbol (text_at (drop 2 tokens)) (outer_params (drop 4 tokens)).0 (outer_params (drop 4 tokens)).1

-- an external function
unfoldable pub outer : Reader OuterTree
outer tokens = outer_from (link_name tokens).0 (link_name tokens).1

abbrev pub outers : Reader (List OuterTree)
outers = many_ahead ends_braces outer

-- `extern "C" { .. }`
unfoldable pub extern_item : Reader (List OuterTree)
extern_item tokens = read_of (outers (drop 3 tokens)).0 (drop 1 (outers (drop 3 tokens)).1)

-- ---- functions

-- `mut x: T`
unfoldable pub param : Reader LocalTree
param tokens = typed (drop 1 tokens)

abbrev pub params : Reader (List LocalTree)
params = listed param

-- `let mut x: T = core::mem::zeroed();`
unfoldable pub local : Reader LocalTree
local tokens = read_of (typed (drop 2 tokens)).0 (drop 9 (typed (drop 2 tokens)).1)

abbrev pub ends_locals : Sign → Bool
ends_locals of.Let = false
ends_locals _ = true

abbrev pub locals : Reader (List LocalTree)
locals = many_ahead ends_locals local

-- what stands before the body of a function
pub record HeadTree : Type 0 where
  pub attribute : Attribute
  pub name : List ℕ
  pub params : List LocalTree
  pub result : Option Ty

abbrev pub head_tree : Attribute → List ℕ → List LocalTree → Option Ty → HeadTree
head_tree attribute name params result = record { attribute = attribute; name = name; params = params; result = result }

abbrev pub head_view : Head → HeadTree
head_view head = head_tree head.attribute head.name (map local_view head.params) (option_map ty_view head.result)

-- `pub unsafe extern "C" fn x(mut f: T) -> T`, behind its attribute
unfoldable pub head : Attribute → Reader HeadTree
head given tokens =
    read_of (head_tree given (text_at (drop 5 tokens)) (params (drop 7 tokens)).0 (read_result (drop 1 (params (drop 7 tokens)).1)).0)
    (read_result (drop 1 (params (drop 7 tokens)).1)).1

-- a function of its head, its locals and its statements
abbrev pub with_body : HeadTree → List LocalTree → List Stmt → FunctionTree
with_body of locals body = record {
  attribute = of.attribute;
  name = of.name;
  params = of.params;
  result = of.result;
  locals = locals;
  body = stmts body;
}

-- `{ .. }` of a function, whose head is read
unfoldable pub function_from : HeadTree → Reader FunctionTree
function_from of tokens =
    read_of (record {
      attribute = of.attribute;
      name = of.name;
      params = of.params;
      result = of.result;
      locals = (locals (drop 1 tokens)).0;
      body = stmts (read_stmts (length tokens) (locals (drop 1 tokens)).1).0;
    })
    (drop 1 (read_stmts (length tokens) (locals (drop 1 tokens)).1).1)

unfoldable pub function_item : Attribute → Reader FunctionTree
function_item given tokens = function_from (head given tokens).0 (head given tokens).1

-- ---- modules

unfoldable pub record_of : Reader ItemTree
record_of tokens = read_of (RecordItem (record_item tokens).0) (record_item tokens).1

unfoldable pub extern_of : Reader ItemTree
extern_of tokens = read_of (ExternItem (extern_item tokens).0) (extern_item tokens).1

unfoldable pub static_of : Attribute → Reader ItemTree
static_of given tokens = read_of (StaticItem (static_from given tokens).0) (static_from given tokens).1

unfoldable pub function_of : Attribute → Reader ItemTree
function_of given tokens = read_of (FunctionItem (function_item given tokens).0) (function_item given tokens).1

abbrev pub symbol_by : Sign → Attribute → Reader ItemTree
symbol_by of.Static given tokens = static_of given tokens
symbol_by _ given tokens = function_of given tokens

-- a static object or a function, behind its attribute
unfoldable pub symbol_item : Attribute → Reader ItemTree
symbol_item given tokens = symbol_by (sign_at (drop 1 tokens)) given tokens

-- a static object or a function
unfoldable pub attributed : Reader ItemTree
attributed tokens = symbol_item (attribute tokens).0 (attribute tokens).1

-- a derive stands ahead
abbrev pub is_derive : Toks → Bool
is_derive tokens = bytes_eq (text_at (drop 2 tokens)) (codes "derive")

-- what begins with `#`
unfoldable pub hashed : Reader ItemTree
hashed tokens = if is_derive tokens then record_of tokens else attributed tokens

abbrev pub item_by : Sign → Reader ItemTree
item_by of.Extern tokens = extern_of tokens
item_by of.Hash tokens = hashed tokens
item_by _ tokens = attributed tokens

unfoldable pub item : Reader ItemTree
item tokens = item_by (sign_at tokens) tokens

abbrev pub ends_module : Sign → Bool
ends_module of.End = true
ends_module _ = false

abbrev pub read_items : Reader (List ItemTree)
read_items = many_ahead ends_module item

-- the items of a module
abbrev pub items : Toks → List ItemTree
items tokens = (read_items tokens).0
