-- The printed lines of a crate. Each has its text without indentation, and the count of the braces that are open at it.
use Rattle.std.specs.Prelude.{ℕ, ◌+◌, ◌*◌, pos, negsuc, Bool, true, false, List, [], ◌∷◌, ◌++◌, map, replicate, Option, Some, None, codes, slice_get}
use Rattle.std.specs.List.{flat_map}
use Rattle.std.specs.Fmt.{decimal, signed_decimal}
use Rattle.straight_rust_tree.specs.declared.files.Line.{Line}
use Rattle.straight_rust_tree.specs.declared.tree.Attribute.{Attribute}
use Rattle.straight_rust_tree.specs.declared.tree.Attribute.TheVariants.{Mangled, NoMangle, ExportName}
use Rattle.straight_rust_tree.specs.declared.tree.Operator.{Operator}
use Rattle.straight_rust_tree.specs.declared.tree.Operator.TheVariants.{Add, Sub, Mul}
use Rattle.straight_rust_tree.specs.Tree.{Ty, i8, i16, i32, i64, u8, u16, u32, u64, isize, usize, bool, Place, named, static_at, Expr, Exprs, literal, read, call, neg, binary, no_exprs, expr_and, Stmt, Stmts, assign, eval, gives, no_stmts, stmt_and, LocalTree, StaticTree, OuterTree, FunctionTree, ItemTree, static, extern, defined, ModuleTree, CrateTree}

abbrev pub line : ℕ → List ℕ → Line
line depth text = record { depth = depth; text = text }

-- ---- types and expressions

abbrev pub type_text : Ty → List ℕ
type_text i8 = codes "i8"
type_text i16 = codes "i16"
type_text i32 = codes "i32"
type_text i64 = codes "i64"
type_text u8 = codes "u8"
type_text u16 = codes "u16"
type_text u32 = codes "u32"
type_text u64 = codes "u64"
type_text isize = codes "isize"
type_text usize = codes "usize"
type_text bool = codes "bool"

-- the path of an item
abbrev pub path_text : List ℕ → List ℕ → List ℕ
path_text m x = codes "crate::" ++ m ++ codes "::" ++ x

abbrev pub place_text : Place → List ℕ
place_text (named x) = x
place_text (static_at m x) = path_text m x

abbrev pub operator_text : Operator → List ℕ
operator_text Add = codes " + "
operator_text Sub = codes " - "
operator_text Mul = codes " * "

-- an atom; what isn't one is a compound
abbrev pub is_atom : Expr → Bool
is_atom (literal (pos n) ty) = true
is_atom (literal (negsuc n) ty) = false
is_atom (read place) = true
is_atom (call m x args) = true
is_atom (neg operand) = false
is_atom (binary operator left right) = false

-- an operand stands as it is where it is an atom, and in parentheses where it is a compound
abbrev pub operand_text : Bool → List ℕ → List ℕ
operand_text true text = text
operand_text false text = codes "(" ++ text ++ codes ")"

abbrev mutual
  -- an expression stays on its line
  pub expr_text : Expr → List ℕ
  expr_text (literal value ty) = signed_decimal value ++ type_text ty
  expr_text (read place) = place_text place
  expr_text (call m x args) = path_text m x ++ codes "(" ++ args_text args ++ codes ")"
  expr_text (neg operand) = codes "-" ++ operand_text (is_atom operand) (expr_text operand)
  expr_text (binary operator left right) =
      operand_text (is_atom left) (expr_text left) ++ operator_text operator ++ operand_text (is_atom right) (expr_text right)

  -- expressions, with a comma and a blank between two
  pub args_text : Exprs → List ℕ
  args_text no_exprs = []
  args_text (expr_and e es) = expr_text e ++ more_args_text es

  -- expressions behind another
  pub more_args_text : Exprs → List ℕ
  more_args_text no_exprs = []
  more_args_text (expr_and e es) = codes ", " ++ expr_text e ++ more_args_text es

-- ---- statements

abbrev pub stmt_text : Stmt → List ℕ
stmt_text (assign place value) = place_text place ++ codes " = " ++ expr_text value ++ codes ";"
stmt_text (eval value) = expr_text value ++ codes ";"
stmt_text (gives None) = codes "return;"
stmt_text (gives (Some value)) = codes "return " ++ expr_text value ++ codes ";"

-- the lines of a statement at a depth
abbrev pub stmt_lines : ℕ → Stmt → List Line
stmt_lines depth stmt = line depth (stmt_text stmt) ∷ []

abbrev pub stmts_lines : ℕ → Stmts → List Line
stmts_lines depth no_stmts = []
stmts_lines depth (stmt_and s ss) = stmt_lines depth s ++ stmts_lines depth ss

-- ---- items

-- the line of an attribute that gives a symbol
abbrev pub symbol_line : ℕ → List ℕ → List ℕ → Line
symbol_line depth start symbol = line depth (start ++ symbol ++ codes "\"]")

unfoldable pub no_mangle_line : Line
no_mangle_line = line 0 (codes "#[no_mangle]")

unfoldable pub export_line : List ℕ → Line
export_line symbol = symbol_line 0 (codes "#[export_name = \"") symbol

-- the line of an attribute, if there is one
abbrev pub attribute_lines : Attribute → List Line
attribute_lines Mangled = []
attribute_lines NoMangle = no_mangle_line ∷ []
attribute_lines (ExportName symbol) = export_line symbol ∷ []

-- a name and its type
abbrev pub typed_text : LocalTree → List ℕ
typed_text local = local.name ++ codes ": " ++ type_text local.ty

-- the parts of a list, with a comma and a blank between two
abbrev pub behind_comma : List (List ℕ) → List ℕ
behind_comma [] = []
behind_comma (part ∷ parts) = codes ", " ++ part ++ behind_comma parts

abbrev pub listed : List (List ℕ) → List ℕ
listed [] = []
listed (part ∷ parts) = part ++ behind_comma parts

-- the result in a function's head
abbrev pub result_text : Option Ty → List ℕ
result_text None = []
result_text (Some ty) = codes " -> " ++ type_text ty

abbrev pub static_line : StaticTree → Line
static_line object =
    line 0 (codes "pub static mut " ++ object.name ++ codes ": " ++ type_text object.ty ++ codes " = unsafe { core::mem::zeroed() };")

abbrev pub static_lines : StaticTree → List Line
static_lines object = attribute_lines object.attribute ++ static_line object ∷ []

-- a parameter of an external function, by its number
abbrev pub outer_param : ℕ → Ty → List ℕ
outer_param k ty = codes "a" ++ decimal k ++ codes ": " ++ type_text ty

-- the parameters of an external function, the first of which has this number
abbrev pub outer_params : ℕ → List Ty → List (List ℕ)
outer_params k [] = []
outer_params k (ty ∷ tys) = outer_param k ty ∷ outer_params (k + 1) tys

-- `...` behind the parameters
abbrev pub variadic_params : Bool → List (List ℕ)
variadic_params false = []
variadic_params true = codes "..." ∷ []

unfoldable pub link_line : List ℕ → Line
link_line symbol = symbol_line 1 (codes "#[link_name = \"") symbol

abbrev pub link_name_lines : Option (List ℕ) → List Line
link_name_lines None = []
link_name_lines (Some symbol) = link_line symbol ∷ []

abbrev pub outer_line : OuterTree → Line
outer_line outer =
    line 1 (codes "pub fn " ++ outer.name ++ codes "(" ++ listed (outer_params 0 outer.params ++ variadic_params outer.variadic)
    ++ codes ")" ++ result_text outer.result ++ codes ";")

abbrev pub outer_lines : OuterTree → List Line
outer_lines outer = link_name_lines outer.link_name ++ outer_line outer ∷ []

abbrev pub local_line : LocalTree → Line
local_line local = line 1 (codes "let mut " ++ typed_text local ++ codes " = core::mem::zeroed();")

abbrev pub param_text : LocalTree → List ℕ
param_text param = codes "mut " ++ typed_text param

abbrev pub function_head : FunctionTree → Line
function_head fun =
    line 0 (codes "pub unsafe extern \"C\" fn " ++ fun.name ++ codes "(" ++ listed (map param_text fun.params)
    ++ codes ")" ++ result_text fun.result ++ codes " {")

-- the line of a brace that ends what stands at a depth
unfoldable pub closing_line : ℕ → Line
closing_line depth = line depth (codes "}")

-- a function: its attribute, its head, a line for each local, its statements, and its closing brace
abbrev pub function_lines : FunctionTree → List Line
function_lines fun =
    attribute_lines fun.attribute
    ++ function_head fun ∷ map local_line fun.locals ++ stmts_lines 1 fun.body ++ closing_line 0 ∷ []

unfoldable pub extern_line : Line
extern_line = line 0 (codes "extern \"C\" {")

abbrev pub item_lines : ItemTree → List Line
item_lines (static object) = static_lines object
item_lines (extern outers) = extern_line ∷ flat_map outer_lines outers ++ closing_line 0 ∷ []
item_lines (defined fun) = function_lines fun

-- ---- files

-- a module's file: its items, one behind another
abbrev pub module_lines : ModuleTree → List Line
module_lines unit = flat_map item_lines unit.items

-- the line of `main.rs` that declares a module
abbrev pub declaration_line : ModuleTree → Line
declaration_line unit = line 0 (codes "mod " ++ unit.name ++ codes ";")

-- the line of `main.rs` that stores a module's initial values
abbrev pub initialiser_line : ModuleTree → Line
initialiser_line unit = line 2 (codes "crate::" ++ unit.name ++ codes "::run_static_initializers();")

-- the name of the module that has `main_0`
abbrev pub name_or_empty : Option ModuleTree → List ℕ
name_or_empty None = []
name_or_empty (Some unit) = unit.name

abbrev pub entry_name : CrateTree → List ℕ
entry_name whole = name_or_empty (slice_get whole.modules whole.entry)

-- the line of `main.rs` that runs the program and ends with its status
unfoldable pub exit_line : List ℕ → Line
exit_line entry = line 2 (codes "std::process::exit(crate::" ++ entry ++ codes "::main_0());")

unfoldable pub allow_line : Line
allow_line = line 0 (codes "#![allow(unconditional_panic, arithmetic_overflow)]")

unfoldable pub main_line : Line
main_line = line 0 (codes "fn main() {")

unfoldable pub unsafe_line : Line
unsafe_line = line 1 (codes "unsafe {")

-- `main.rs`: the modules, then the calls of their initialisers, then that of `main_0`
abbrev pub main_lines : CrateTree → List Line
main_lines whole =
    allow_line ∷ map declaration_line whole.modules
    ++ main_line ∷ unsafe_line ∷ map initialiser_line whole.modules
    ++ exit_line (entry_name whole) ∷ closing_line 1 ∷ closing_line 0 ∷ []

-- `Cargo.toml`: the package is named `translated` and has no dependencies
unfoldable pub cargo_lines : List Line
cargo_lines =
    line 0 (codes "[package]") ∷ line 0 (codes "name = \"translated\"") ∷ line 0 (codes "version = \"0.0.0\"")
    ∷ line 0 (codes "edition = \"2021\"") ∷ []

-- the lines of all files, in the order in which they are put: the modules, `main.rs`, `Cargo.toml`
abbrev pub lines_of : CrateTree → List Line
lines_of whole = flat_map module_lines whole.modules ++ main_lines whole ++ cargo_lines

-- ---- the bytes of lines

-- the blanks before a line: four for each open brace
abbrev pub indentation : ℕ → List ℕ
indentation depth = replicate (4 * depth) 32

-- a line as it stands in a file, ended by one newline
abbrev pub line_bytes : Line → List ℕ
line_bytes one = indentation one.depth ++ one.text ++ codes "\n"

abbrev pub text_of_lines : List Line → List ℕ
text_of_lines lines = flat_map line_bytes lines
