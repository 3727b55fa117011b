-- The tokens of the files of a crate.
use Rattle.std.specs.Prelude.{ℕ, ◌+◌, ℤ, pos, negsuc, suc, Bool, true, false, List, [], ◌∷◌, ◌++◌, map, Option, Some, None, codes}
use Rattle.std.specs.List.{flat_map}
use Rattle.std.specs.Fmt.{decimal}
use Rattle.straight_rust_tree.specs.declared.tree.Attribute.{Attribute}
use Rattle.straight_rust_tree.specs.declared.tree.Attribute.TheVariants.{Mangled, NoMangle, ExportName}
use Rattle.straight_rust_tree.specs.declared.tree.Operator.{Operator}
use Rattle.straight_rust_tree.specs.declared.tree.Operator.TheVariants.{Add, Sub, Mul}
use Rattle.straight_rust_tree.specs.Lines.{type_text, is_atom, entry_name, cargo_lines, text_of_lines}
use Rattle.straight_rust_tree.specs.Tokens.{RToken, word, quoted, mark, tokens_in}
use Rattle.straight_rust_tree.specs.Tree.{Ty, Place, named, static_at, Expr, Exprs, literal, read, call, neg, binary, no_exprs, expr_and, Stmt, Stmts, assign, eval, gives, no_stmts, stmt_and, LocalTree, StaticTree, OuterTree, FunctionTree, ItemTree, static, extern, defined, ModuleTree, CrateTree}

abbrev pub type_tokens : Ty → List RToken
type_tokens ty = word (type_text ty) ∷ []

-- ---- expressions

abbrev pub path_tokens : List ℕ → List ℕ → List RToken
path_tokens m x = word (codes "crate") ∷ mark (codes "::") ∷ word m ∷ mark (codes "::") ∷ word x ∷ []

abbrev pub place_tokens : Place → List RToken
place_tokens (named x) = word x ∷ []
place_tokens (static_at m x) = path_tokens m x

-- an integer literal has its type as suffix; a negative one has a sign before it
abbrev pub literal_tokens : ℤ → Ty → List RToken
literal_tokens (pos n) ty = word (decimal n ++ type_text ty) ∷ []
literal_tokens (negsuc n) ty = mark (codes "-") ∷ word (decimal (suc n) ++ type_text ty) ∷ []

abbrev pub operator_tokens : Operator → List RToken
operator_tokens Add = mark (codes "+") ∷ []
operator_tokens Sub = mark (codes "-") ∷ []
operator_tokens Mul = mark (codes "*") ∷ []

abbrev pub in_parentheses : List RToken → List RToken
in_parentheses tokens = mark (codes "(") ∷ tokens ++ mark (codes ")") ∷ []

-- an operand is an atom, or a compound in parentheses
abbrev pub operand_tokens : Bool → List RToken → List RToken
operand_tokens true tokens = tokens
operand_tokens false tokens = in_parentheses tokens

abbrev mutual
  pub expr_tokens : Expr → List RToken
  expr_tokens (literal value ty) = literal_tokens value ty
  expr_tokens (read place) = place_tokens place
  expr_tokens (call m x args) = path_tokens m x ++ in_parentheses (args_tokens args)
  expr_tokens (neg operand) = mark (codes "-") ∷ operand_tokens (is_atom operand) (expr_tokens operand)
  expr_tokens (binary operator left right) =
      operand_tokens (is_atom left) (expr_tokens left) ++ operator_tokens operator ++ operand_tokens (is_atom right) (expr_tokens right)

  -- expressions, with a comma between two
  pub args_tokens : Exprs → List RToken
  args_tokens no_exprs = []
  args_tokens (expr_and e es) = expr_tokens e ++ more_args_tokens es

  -- expressions behind another
  pub more_args_tokens : Exprs → List RToken
  more_args_tokens no_exprs = []
  more_args_tokens (expr_and e es) = mark (codes ",") ∷ expr_tokens e ++ more_args_tokens es

-- ---- statements

abbrev pub stmt_tokens : Stmt → List RToken
stmt_tokens (assign place value) = place_tokens place ++ mark (codes "=") ∷ expr_tokens value ++ mark (codes ";") ∷ []
stmt_tokens (eval value) = expr_tokens value ++ mark (codes ";") ∷ []
stmt_tokens (gives None) = word (codes "return") ∷ mark (codes ";") ∷ []
stmt_tokens (gives (Some value)) = word (codes "return") ∷ expr_tokens value ++ mark (codes ";") ∷ []

abbrev pub stmts_tokens : Stmts → List RToken
stmts_tokens no_stmts = []
stmts_tokens (stmt_and s ss) = stmt_tokens s ++ stmts_tokens ss

-- ---- items

abbrev pub in_braces : List RToken → List RToken
in_braces tokens = mark (codes "{") ∷ tokens ++ mark (codes "}") ∷ []

-- an attribute that gives a symbol
abbrev pub symbol_tokens : List ℕ → List ℕ → List RToken
symbol_tokens name symbol =
    mark (codes "#") ∷ mark (codes "[") ∷ word name ∷ mark (codes "=") ∷ quoted symbol ∷ mark (codes "]") ∷ []

abbrev pub attribute_tokens : Attribute → List RToken
attribute_tokens Mangled = []
attribute_tokens NoMangle = mark (codes "#") ∷ mark (codes "[") ∷ word (codes "no_mangle") ∷ mark (codes "]") ∷ []
attribute_tokens (ExportName symbol) = symbol_tokens (codes "export_name") symbol

abbrev pub typed_tokens : LocalTree → List RToken
typed_tokens local = word local.name ∷ mark (codes ":") ∷ type_tokens local.ty

-- the parts of a list, with a comma between two
abbrev pub behind_comma : List (List RToken) → List RToken
behind_comma [] = []
behind_comma (part ∷ parts) = mark (codes ",") ∷ part ++ behind_comma parts

abbrev pub listed : List (List RToken) → List RToken
listed [] = []
listed (part ∷ parts) = part ++ behind_comma parts

abbrev pub result_tokens : Option Ty → List RToken
result_tokens None = []
result_tokens (Some ty) = mark (codes "->") ∷ type_tokens ty

-- `core::mem::zeroed()`
abbrev pub zeroed_tokens : List RToken
zeroed_tokens =
    word (codes "core") ∷ mark (codes "::") ∷ word (codes "mem") ∷ mark (codes "::") ∷ word (codes "zeroed")
    ∷ mark (codes "(") ∷ mark (codes ")") ∷ []

abbrev pub static_tokens : StaticTree → List RToken
static_tokens object =
    attribute_tokens object.attribute
    ++ word (codes "pub") ∷ word (codes "static") ∷ word (codes "mut") ∷ word object.name ∷ mark (codes ":")
    ∷ type_tokens object.ty ++ mark (codes "=") ∷ word (codes "unsafe") ∷ in_braces zeroed_tokens ++ mark (codes ";") ∷ []

-- the parameters of an external function, the first of which has this number
abbrev pub outer_params : ℕ → List Ty → List (List RToken)
outer_params k [] = []
outer_params k (ty ∷ tys) = (word (codes "a" ++ decimal k) ∷ mark (codes ":") ∷ type_tokens ty) ∷ outer_params (k + 1) tys

abbrev pub variadic_params : Bool → List (List RToken)
variadic_params false = []
variadic_params true = (mark (codes "...") ∷ []) ∷ []

abbrev pub link_name_tokens : Option (List ℕ) → List RToken
link_name_tokens None = []
link_name_tokens (Some symbol) = symbol_tokens (codes "link_name") symbol

abbrev pub outer_tokens : OuterTree → List RToken
outer_tokens outer =
    link_name_tokens outer.link_name
    ++ word (codes "pub") ∷ word (codes "fn") ∷ word outer.name
    ∷ in_parentheses (listed (outer_params 0 outer.params ++ variadic_params outer.variadic))
    ++ result_tokens outer.result ++ mark (codes ";") ∷ []

abbrev pub local_tokens : LocalTree → List RToken
local_tokens local =
    word (codes "let") ∷ word (codes "mut") ∷ typed_tokens local ++ mark (codes "=") ∷ zeroed_tokens ++ mark (codes ";") ∷ []

abbrev pub param_tokens : LocalTree → List RToken
param_tokens param = word (codes "mut") ∷ typed_tokens param

abbrev pub function_tokens : FunctionTree → List RToken
function_tokens fun =
    attribute_tokens fun.attribute
    ++ word (codes "pub") ∷ word (codes "unsafe") ∷ word (codes "extern") ∷ quoted (codes "C") ∷ word (codes "fn") ∷ word fun.name
    ∷ in_parentheses (listed (map param_tokens fun.params))
    ++ result_tokens fun.result ++ in_braces (flat_map local_tokens fun.locals ++ stmts_tokens fun.body)

abbrev pub item_tokens : ItemTree → List RToken
item_tokens (static object) = static_tokens object
item_tokens (extern outers) = word (codes "extern") ∷ quoted (codes "C") ∷ in_braces (flat_map outer_tokens outers)
item_tokens (defined fun) = function_tokens fun

-- ---- files

abbrev pub module_tokens : ModuleTree → List RToken
module_tokens unit = flat_map item_tokens unit.items

abbrev pub declaration_tokens : ModuleTree → List RToken
declaration_tokens unit = word (codes "mod") ∷ word unit.name ∷ mark (codes ";") ∷ []

-- a call without arguments
abbrev pub called : List RToken → List RToken
called path = path ++ mark (codes "(") ∷ mark (codes ")") ∷ []

abbrev pub initialiser_tokens : ModuleTree → List RToken
initialiser_tokens unit = called (path_tokens unit.name (codes "run_static_initializers")) ++ mark (codes ";") ∷ []

-- the attribute `#![allow(unconditional_panic, arithmetic_overflow)]`
abbrev pub allow_tokens : List RToken
allow_tokens =
    mark (codes "#") ∷ mark (codes "!") ∷ mark (codes "[") ∷ word (codes "allow") ∷ mark (codes "(") ∷ word (codes "unconditional_panic")
    ∷ mark (codes ",") ∷ word (codes "arithmetic_overflow") ∷ mark (codes ")") ∷ mark (codes "]") ∷ []

-- `std::process::exit` of what `main_0` of the entry gives
abbrev pub exit_tokens : List ℕ → List RToken
exit_tokens entry =
    word (codes "std") ∷ mark (codes "::") ∷ word (codes "process") ∷ mark (codes "::") ∷ word (codes "exit")
    ∷ in_parentheses (called (path_tokens entry (codes "main_0"))) ++ mark (codes ";") ∷ []

abbrev pub main_tokens : CrateTree → List RToken
main_tokens whole =
    allow_tokens ++ flat_map declaration_tokens whole.modules
    ++ word (codes "fn") ∷ word (codes "main") ∷ mark (codes "(") ∷ mark (codes ")")
    ∷ in_braces (word (codes "unsafe") ∷ in_braces (flat_map initialiser_tokens whole.modules ++ exit_tokens (entry_name whole)))

-- `Cargo.toml` has one form, and the tokens of its text
abbrev pub cargo_tokens : Option (List RToken)
cargo_tokens = tokens_in (text_of_lines cargo_lines)
