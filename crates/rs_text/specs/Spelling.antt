-- The tokens of a tree: of its types, expressions, statements, items and modules.
use Rattle.std.specs.Prelude.{ℕ, ◌+◌, ℤ, pos, negsuc, suc, Bool, true, false, List, [], ◌∷◌, ◌++◌, map, Option, Some, None, codes}
use Rattle.std.specs.List.{flat_map}
use Rattle.std.specs.Fmt.{decimal}
use Rattle.rs_text.specs.declared.attribute.Attribute.{Attribute}
use Rattle.rs_text.specs.declared.attribute.Attribute.TheVariants.{Mangled, NoMangle, ExportName}
use Rattle.rs_text.specs.declared.integer.IntegerTy.{IntegerTy}
use Rattle.rs_text.specs.declared.integer.IntegerTy.TheVariants.{I8}
use Rattle.rs_text.specs.Forms.{is_compound, is_deref}
use Rattle.rs_text.specs.Tokens.{RToken, Word, Label, Quoted, Mark, Close}
use Rattle.rs_text.specs.Tree.{Ty, Integer, Boolean, Void, Pointer, Array, Code, Record, Tys, no_tys, more_tys, OptionTy, no_ty, some_ty, Place, Local, Static, Deref, Field, Expr, Literal, Truth, NoFunction, Read, Call, CallBy, Wrapped, WrappingNeg, Offset, OffsetFrom, IsNull, IsNone, AddressOf, NullPointer, SomeFunction, Transmute, Neg, Not, Cast, Binary, And, Or, Choose, Exprs, no_exprs, more_exprs, Stmt, Assign, Eval, CopyBytes, If, Loop, Block, Break, Continue, Match, Return, Stmts, no_stmts, more_stmts, ArmTree, LiteralArm, Arms, no_arms, more_arms, FieldTree, RecordTree, StaticTree, OuterTree, LocalTree, FunctionTree, ItemTree, RecordItem, StaticItem, ExternItem, FunctionItem, ModuleTree, option_ty}
use Rattle.rs_text.specs.Words.{integer_word, operator_mark, wrapping_word, truth_word, record_word}

-- ---- pieces

-- names with `::` between two
abbrev pub path_tokens : List (List ℕ) → List RToken
path_tokens [] = []
path_tokens (name ∷ []) = Word name ∷ []
path_tokens (name ∷ other ∷ others) = Word name ∷ Mark (codes "::") ∷ path_tokens (other ∷ others)

-- `crate::m::x`
abbrev pub item_path : List ℕ → List ℕ → List RToken
item_path m x = path_tokens (codes "crate" ∷ m ∷ x ∷ [])

abbrev pub in_parentheses : List RToken → List RToken
in_parentheses tokens = Mark (codes "(") ∷ (tokens ++ (Mark (codes ")") ∷ []))

abbrev pub in_brackets : List RToken → List RToken
in_brackets tokens = Mark (codes "[") ∷ (tokens ++ (Mark (codes "]") ∷ []))

abbrev pub in_braces : List RToken → List RToken
in_braces tokens = Mark (codes "{") ∷ (tokens ++ (Mark (codes "}") ∷ []))

-- types in `< >`
abbrev pub in_angles : List RToken → List RToken
in_angles tokens = Mark (codes "<") ∷ (tokens ++ (Close ∷ []))

-- parts behind another, each with a comma before it
abbrev pub behind_commas : List (List RToken) → List RToken
behind_commas [] = []
behind_commas (part ∷ parts) = Mark (codes ",") ∷ (part ++ behind_commas parts)

-- parts with a comma between two
abbrev pub listed : List (List RToken) → List RToken
listed [] = []
listed (part ∷ parts) = part ++ behind_commas parts

-- an attribute `#[..]`
abbrev pub attribute : List RToken → List RToken
attribute tokens = Mark (codes "#") ∷ in_brackets tokens

-- ---- types

-- `unsafe extern "C" fn`
abbrev pub unsafe_extern_fn : List RToken
unsafe_extern_fn = Word (codes "unsafe") ∷ Word (codes "extern") ∷ Quoted (codes "C") ∷ Word (codes "fn") ∷ []

-- the type of a function of these parameters and this result
abbrev pub signature : List (List RToken) → List RToken → List RToken
signature params result = unsafe_extern_fn ++ (in_parentheses (listed params) ++ result)

abbrev mutual
  pub ty_tokens : Ty → List RToken
  ty_tokens (Integer ty) = Word (integer_word ty) ∷ []
  ty_tokens Boolean = Word (codes "bool") ∷ []
  ty_tokens Void = path_tokens (codes "core" ∷ codes "ffi" ∷ codes "c_void" ∷ [])
  ty_tokens (Pointer target) = Mark (codes "*") ∷ Word (codes "mut") ∷ ty_tokens target
  ty_tokens (Array element size) = in_brackets (ty_tokens element ++ (Mark (codes ";") ∷ Word (decimal size) ∷ []))
  ty_tokens (Code params result) = Word (codes "Option") ∷ in_angles (signature (tys_parts params) (result_tokens result))
  ty_tokens (Record m x) = item_path m x

  -- the tokens of each type
  pub tys_parts : Tys → List (List RToken)
  tys_parts no_tys = []
  tys_parts (more_tys t ts) = ty_tokens t ∷ tys_parts ts

  -- the type of a result, if there is one
  pub result_tokens : OptionTy → List RToken
  result_tokens no_ty = []
  result_tokens (some_ty t) = Mark (codes "->") ∷ ty_tokens t

-- ---- places and expressions

-- an integer literal has its type as suffix; a negative one has a sign before it
abbrev pub literal_tokens : ℤ → IntegerTy → List RToken
literal_tokens (pos n) ty = Word (decimal n ++ integer_word ty) ∷ []
literal_tokens (negsuc n) ty = Mark (codes "-") ∷ Word (decimal (suc n) ++ integer_word ty) ∷ []

-- an operand is an atom, or, where true, a compound in parentheses
abbrev pub operand : Bool → List RToken → List RToken
operand false tokens = tokens
operand true tokens = in_parentheses tokens

-- a method of an operand, with its arguments
abbrev pub method : List RToken → List ℕ → List RToken → List RToken
method of name args = of ++ (Mark (codes ".") ∷ Word name ∷ in_parentheses args)

-- a function of `core` that has types in `< >`
abbrev pub generic_call : List (List ℕ) → List (List RToken) → List RToken → List RToken
generic_call path types args = path_tokens path ++ (Mark (codes "::") ∷ (in_angles (listed types) ++ in_parentheses args))

abbrev mutual
  pub place_tokens : Place → List RToken
  place_tokens (Local x) = Word x ∷ []
  place_tokens (Static m x) = item_path m x
  place_tokens (Deref e) = Mark (codes "*") ∷ operand (is_compound e) (expr_tokens e)
  place_tokens (Field p f) = operand (is_deref p) (place_tokens p) ++ (Mark (codes ".") ∷ Word f ∷ [])

  pub expr_tokens : Expr → List RToken
  expr_tokens (Literal value ty) = literal_tokens value ty
  expr_tokens (Truth value) = Word (truth_word value) ∷ []
  expr_tokens NoFunction = Word (codes "None") ∷ []
  expr_tokens (Read p) = place_tokens p
  expr_tokens (Call m x args) = item_path m x ++ in_parentheses (listed (exprs_parts args))
  expr_tokens (CallBy e args) =
      method (operand (is_compound e) (expr_tokens e)) (codes "unwrap") [] ++ in_parentheses (listed (exprs_parts args))
  expr_tokens (Wrapped e op arg) = method (operand (is_compound e) (expr_tokens e)) (wrapping_word op) (expr_tokens arg)
  expr_tokens (WrappingNeg e) = method (operand (is_compound e) (expr_tokens e)) (codes "wrapping_neg") []
  expr_tokens (Offset e arg) = method (operand (is_compound e) (expr_tokens e)) (codes "offset") (expr_tokens arg)
  expr_tokens (OffsetFrom e arg) = method (operand (is_compound e) (expr_tokens e)) (codes "offset_from") (expr_tokens arg)
  expr_tokens (IsNull e) = method (operand (is_compound e) (expr_tokens e)) (codes "is_null") []
  expr_tokens (IsNone e) = method (operand (is_compound e) (expr_tokens e)) (codes "is_none") []
  expr_tokens (AddressOf p) =
      path_tokens (codes "core" ∷ codes "ptr" ∷ codes "addr_of_mut" ∷ [])
      ++ (Mark (codes "!") ∷ in_parentheses (place_tokens p))
  expr_tokens (NullPointer ty) = generic_call (codes "core" ∷ codes "ptr" ∷ codes "null_mut" ∷ []) (ty_tokens ty ∷ []) []
  expr_tokens (SomeFunction m x params result) =
      Word (codes "Some") ∷ in_parentheses (item_path m x
      ++ (Word (codes "as") ∷ signature (tys_parts params) (result_tokens result)))
  expr_tokens (Transmute from to e) = generic_call (codes "core" ∷ codes "mem" ∷ codes "transmute" ∷ []) (ty_tokens from ∷ ty_tokens to ∷ []) (expr_tokens e)
  expr_tokens (Neg e) = Mark (codes "-") ∷ operand (is_compound e) (expr_tokens e)
  expr_tokens (Not e) = Mark (codes "!") ∷ operand (is_compound e) (expr_tokens e)
  expr_tokens (Cast e ty) = operand (is_compound e) (expr_tokens e) ++ (Word (codes "as") ∷ ty_tokens ty)
  expr_tokens (Binary left op right) =
      operand (is_compound left) (expr_tokens left)
      ++ (Mark (operator_mark op) ∷ operand (is_compound right) (expr_tokens right))
  expr_tokens (And left right) =
      operand (is_compound left) (expr_tokens left) ++ (Mark (codes "&&") ∷ operand (is_compound right) (expr_tokens right))
  expr_tokens (Or left right) =
      operand (is_compound left) (expr_tokens left) ++ (Mark (codes "||") ∷ operand (is_compound right) (expr_tokens right))
  expr_tokens (Choose condition if_true if_false) =
      Word (codes "if") ∷ (expr_tokens condition ++ (in_braces (expr_tokens if_true)
      ++ (Word (codes "else") ∷ in_braces (expr_tokens if_false))))

  -- the tokens of each expression
  pub exprs_parts : Exprs → List (List RToken)
  exprs_parts no_exprs = []
  exprs_parts (more_exprs e es) = expr_tokens e ∷ exprs_parts es

-- ---- statements

-- `'l:` before a loop, if it has a label
abbrev pub label_tokens : Option (List ℕ) → List RToken
label_tokens None = []
label_tokens (Some label) = Label label ∷ Mark (codes ":") ∷ []

-- there is no `else` where its list is empty
abbrev pub else_tokens : Stmts → List RToken → List RToken
else_tokens no_stmts tokens = []
else_tokens (more_stmts s ss) tokens = Word (codes "else") ∷ in_braces tokens

abbrev pub return_tokens : Option Expr → List RToken
return_tokens None = Word (codes "return") ∷ Mark (codes ";") ∷ []
return_tokens (Some value) = Word (codes "return") ∷ (expr_tokens value ++ (Mark (codes ";") ∷ []))

abbrev mutual
  pub stmt_tokens : Stmt → List RToken
  stmt_tokens (Assign place value) = place_tokens place ++ (Mark (codes "=") ∷ (expr_tokens value ++ (Mark (codes ";") ∷ [])))
  stmt_tokens (Eval value) = expr_tokens value ++ (Mark (codes ";") ∷ [])
  stmt_tokens (CopyBytes source target count) =
      path_tokens (codes "core" ∷ codes "ptr" ∷ codes "copy" ∷ [])
      ++ (in_parentheses (listed (expr_tokens source ∷ expr_tokens target ∷ expr_tokens count ∷ [])) ++ (Mark (codes ";") ∷ []))
  stmt_tokens (If condition if_true if_false) =
      Word (codes "if") ∷ (expr_tokens condition ++ (in_braces (stmts_tokens if_true)
      ++ else_tokens if_false (stmts_tokens if_false)))
  stmt_tokens (Loop label body) = label_tokens label ++ (Word (codes "loop") ∷ in_braces (stmts_tokens body))
  stmt_tokens (Block label body) = label_tokens (Some label) ++ in_braces (stmts_tokens body)
  stmt_tokens (Break label) = Word (codes "break") ∷ Label label ∷ Mark (codes ";") ∷ []
  stmt_tokens (Continue label) = Word (codes "continue") ∷ Label label ∷ Mark (codes ";") ∷ []
  stmt_tokens (Match value cases other) =
      Word (codes "match") ∷ (expr_tokens value ++ in_braces (arms_tokens cases
      ++ (Word (codes "_") ∷ Mark (codes "=>") ∷ in_braces (stmts_tokens other))))
  stmt_tokens (Return value) = return_tokens value

  pub stmts_tokens : Stmts → List RToken
  stmts_tokens no_stmts = []
  stmts_tokens (more_stmts s ss) = stmt_tokens s ++ stmts_tokens ss

  pub arm_tokens : ArmTree → List RToken
  arm_tokens (LiteralArm value ty body) = literal_tokens value ty ++ (Mark (codes "=>") ∷ in_braces (stmts_tokens body))

  pub arms_tokens : Arms → List RToken
  arms_tokens no_arms = []
  arms_tokens (more_arms one others) = arm_tokens one ++ arms_tokens others

-- ---- items

-- a name and its type
abbrev pub typed_tokens : List ℕ → Ty → List RToken
typed_tokens name ty = Word name ∷ Mark (codes ":") ∷ ty_tokens ty

-- an attribute that gives a symbol
abbrev pub symbol_tokens : List ℕ → List ℕ → List RToken
symbol_tokens name symbol = attribute (Word name ∷ Mark (codes "=") ∷ Quoted symbol ∷ [])

abbrev pub attribute_tokens : Attribute → List RToken
attribute_tokens Mangled = []
attribute_tokens NoMangle = attribute (Word (codes "no_mangle") ∷ [])
attribute_tokens (ExportName symbol) = symbol_tokens (codes "export_name") symbol

-- `C`, or `C, align(N)`
abbrev pub repr_tokens : Option ℕ → List RToken
repr_tokens None = Word (codes "C") ∷ []
repr_tokens (Some align) = Word (codes "C") ∷ Mark (codes ",") ∷ Word (codes "align") ∷ in_parentheses (Word (decimal align) ∷ [])

abbrev pub field_tokens : FieldTree → List RToken
field_tokens field = Word (codes "pub") ∷ (typed_tokens field.name field.ty ++ (Mark (codes ",") ∷ []))

abbrev pub record_item_tokens : RecordTree → List RToken
record_item_tokens of =
    attribute (Word (codes "derive") ∷ in_parentheses (Word (codes "Copy") ∷ Mark (codes ",") ∷ Word (codes "Clone") ∷ []))
    ++ (attribute (Word (codes "repr") ∷ in_parentheses (repr_tokens of.align))
    ++ (Word (codes "pub") ∷ Word (record_word of.is_union) ∷ Word of.name ∷ in_braces (flat_map field_tokens of.fields)))

-- `core::mem::zeroed()`
abbrev pub zeroed_tokens : List RToken
zeroed_tokens = path_tokens (codes "core" ∷ codes "mem" ∷ codes "zeroed" ∷ []) ++ in_parentheses []

-- what a static object begins as
abbrev pub values_tokens : Option (List ℤ) → List RToken
values_tokens None = Word (codes "unsafe") ∷ in_braces zeroed_tokens
values_tokens (Some values) = in_brackets (listed (map (λ value. literal_tokens value I8) values))

abbrev pub static_tokens : StaticTree → List RToken
static_tokens object =
    attribute_tokens object.attribute
    ++ (Word (codes "pub") ∷ Word (codes "static") ∷ Word (codes "mut") ∷ (typed_tokens object.name object.ty
    ++ (Mark (codes "=") ∷ (values_tokens object.values ++ (Mark (codes ";") ∷ [])))))

-- the parameters of an external function, the first of which has this number
abbrev pub outer_params : ℕ → List Ty → List (List RToken)
outer_params k [] = []
outer_params k (ty ∷ others) = typed_tokens (codes "a" ++ decimal k) ty ∷ outer_params (k + 1) others

-- `...` behind the parameters, of which a valid tree then has one
abbrev pub variadic_tokens : Bool → List RToken
variadic_tokens false = []
variadic_tokens true = Mark (codes ",") ∷ Mark (codes "...") ∷ []

abbrev pub link_name_tokens : Option (List ℕ) → List RToken
link_name_tokens None = []
link_name_tokens (Some symbol) = symbol_tokens (codes "link_name") symbol

abbrev pub outer_tokens : OuterTree → List RToken
outer_tokens outer =
    link_name_tokens outer.link_name
    ++ (Word (codes "pub") ∷ Word (codes "fn") ∷ Word outer.name ∷ (in_parentheses (listed (outer_params 0 outer.params)
    ++ variadic_tokens outer.variadic) ++ (result_tokens (option_ty outer.result) ++ (Mark (codes ";") ∷ []))))

abbrev pub param_tokens : LocalTree → List RToken
param_tokens param = Word (codes "mut") ∷ typed_tokens param.name param.ty

abbrev pub local_tokens : LocalTree → List RToken
local_tokens local =
    Word (codes "let") ∷ Word (codes "mut") ∷ (typed_tokens local.name local.ty ++ (Mark (codes "=") ∷ (zeroed_tokens
    ++ (Mark (codes ";") ∷ []))))

abbrev pub function_tokens : FunctionTree → List RToken
function_tokens fun =
    attribute_tokens fun.attribute ++ (Word (codes "pub") ∷ (unsafe_extern_fn
    ++ (Word fun.name ∷ (in_parentheses (listed (map param_tokens fun.params)) ++ (result_tokens (option_ty fun.result)
    ++ in_braces (flat_map local_tokens fun.locals ++ stmts_tokens fun.body))))))

abbrev pub item_tokens : ItemTree → List RToken
item_tokens (RecordItem of) = record_item_tokens of
item_tokens (StaticItem object) = static_tokens object
item_tokens (ExternItem outers) = Word (codes "extern") ∷ Quoted (codes "C") ∷ in_braces (flat_map outer_tokens outers)
item_tokens (FunctionItem fun) = function_tokens fun

-- the tokens of a module's file
abbrev pub module_tokens : ModuleTree → List RToken
module_tokens unit = flat_map item_tokens unit.items
