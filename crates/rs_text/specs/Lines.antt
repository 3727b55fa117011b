-- The printed lines of a crate. Each has its text without indentation, and how many braces are open where it begins.
use Rattle.std.specs.Prelude.{ℕ, ◌+◌, ◌*◌, ℤ, Bool, true, false, List, [], ◌∷◌, ◌++◌, map, replicate, Option, Some, None, codes, slice_get}
use Rattle.std.specs.List.{flat_map}
use Rattle.std.specs.Fmt.{decimal, signed_decimal}
use Rattle.rs_text.specs.declared.attribute.Attribute.{Attribute}
use Rattle.rs_text.specs.declared.attribute.Attribute.TheVariants.{Mangled, NoMangle, ExportName}
use Rattle.rs_text.specs.declared.integer.IntegerTy.{IntegerTy}
use Rattle.rs_text.specs.declared.integer.IntegerTy.TheVariants.{I8}
use Rattle.rs_text.specs.declared.line.Line.{Line}
use Rattle.rs_text.specs.Forms.{is_compound, is_deref}
use Rattle.rs_text.specs.Tree.{Ty, Integer, Boolean, Void, Pointer, Array, Code, Record, Tys, no_tys, more_tys, OptionTy, no_ty, some_ty, Place, Local, Static, Deref, Field, Expr, Literal, Truth, NoFunction, Read, Call, CallBy, Wrapped, WrappingNeg, Offset, OffsetFrom, IsNull, IsNone, AddressOf, NullPointer, SomeFunction, Transmute, Neg, Not, Cast, Binary, And, Or, Choose, Exprs, no_exprs, more_exprs, Stmt, Assign, Eval, CopyBytes, If, Loop, Block, Break, Continue, Match, Return, Stmts, no_stmts, more_stmts, ArmTree, LiteralArm, Arms, no_arms, more_arms, FieldTree, RecordTree, StaticTree, OuterTree, LocalTree, FunctionTree, ItemTree, RecordItem, StaticItem, ExternItem, FunctionItem, ModuleTree, CrateTree, option_ty}
use Rattle.rs_text.specs.Words.{integer_word, operator_mark, wrapping_word, truth_word, record_word}

abbrev pub line : ℕ → List ℕ → Line
line depth text = record { depth = depth; text = text }

-- the line of a brace that closes what was opened at a depth
abbrev pub closing : ℕ → Line
closing depth = line depth (codes "}")

-- parts behind another, each with a comma and a blank before it
abbrev pub behind_commas : List (List ℕ) → List ℕ
behind_commas [] = []
behind_commas (part ∷ parts) = codes ", " ++ (part ++ behind_commas parts)

-- parts with a comma and a blank between two
abbrev pub listed : List (List ℕ) → List ℕ
listed [] = []
listed (part ∷ parts) = part ++ behind_commas parts

-- `crate::m::x`
abbrev pub item_path : List ℕ → List ℕ → List ℕ
item_path m x = codes "crate::" ++ (m ++ (codes "::" ++ x))

-- ---- types

-- the type of a function of these parameters and this result, and what stands behind it
abbrev pub signature : List (List ℕ) → List ℕ → List ℕ → List ℕ
signature params result behind = codes "unsafe extern \"C\" fn(" ++ (listed params ++ (codes ")" ++ (result ++ behind)))

abbrev mutual
  pub ty_text : Ty → List ℕ
  ty_text (Integer ty) = integer_word ty
  ty_text Boolean = codes "bool"
  ty_text Void = codes "core::ffi::c_void"
  ty_text (Pointer target) = codes "*mut " ++ ty_text target
  ty_text (Array element size) = codes "[" ++ (ty_text element ++ (codes "; " ++ (decimal size ++ codes "]")))
  ty_text (Code params result) = codes "Option<" ++ signature (tys_texts params) (result_text result) (codes ">")
  ty_text (Record m x) = item_path m x

  -- the text of each type
  pub tys_texts : Tys → List (List ℕ)
  tys_texts no_tys = []
  tys_texts (more_tys t ts) = ty_text t ∷ tys_texts ts

  -- the type of a result, if there is one
  pub result_text : OptionTy → List ℕ
  result_text no_ty = []
  result_text (some_ty t) = codes " -> " ++ ty_text t

-- ---- places and expressions

-- what begins an address, a null pointer and a transmutation
unfoldable pub address_of : List ℕ
address_of = codes "core::ptr::addr_of_mut!("

unfoldable pub null_of : List ℕ
null_of = codes "core::ptr::null_mut::<"

unfoldable pub transmute_of : List ℕ
transmute_of = codes "core::mem::transmute::<"

-- an integer literal has its type as suffix; a negative one has a sign before it
abbrev pub literal_text : ℤ → IntegerTy → List ℕ
literal_text value ty = signed_decimal value ++ integer_word ty

-- an operand is an atom, or, where true, a compound in parentheses
abbrev pub operand : Bool → List ℕ → List ℕ
operand false text = text
operand true text = codes "(" ++ (text ++ codes ")")

-- a method of an operand, with its argument
abbrev pub method : List ℕ → List ℕ → List ℕ → List ℕ
method of name arg = of ++ (codes "." ++ (name ++ (codes "(" ++ (arg ++ codes ")"))))

-- an operator between two operands
abbrev pub joined_by : List ℕ → List ℕ → List ℕ → List ℕ
joined_by left operator right = left ++ (codes " " ++ (operator ++ (codes " " ++ right)))

abbrev mutual
  pub place_text : Place → List ℕ
  place_text (Local x) = x
  place_text (Static m x) = item_path m x
  place_text (Deref e) = codes "*" ++ operand (is_compound e) (expr_text e)
  place_text (Field p f) = operand (is_deref p) (place_text p) ++ (codes "." ++ f)

  -- an expression stays on its line
  pub expr_text : Expr → List ℕ
  expr_text (Literal value ty) = literal_text value ty
  expr_text (Truth value) = truth_word value
  expr_text NoFunction = codes "None"
  expr_text (Read p) = place_text p
  expr_text (Call m x args) = item_path m x ++ (codes "(" ++ (listed (exprs_texts args) ++ codes ")"))
  expr_text (CallBy e args) =
      operand (is_compound e) (expr_text e) ++ (codes ".unwrap()(" ++ (listed (exprs_texts args) ++ codes ")"))
  expr_text (Wrapped e op arg) = method (operand (is_compound e) (expr_text e)) (wrapping_word op) (expr_text arg)
  expr_text (WrappingNeg e) = method (operand (is_compound e) (expr_text e)) (codes "wrapping_neg") []
  expr_text (Offset e arg) = method (operand (is_compound e) (expr_text e)) (codes "offset") (expr_text arg)
  expr_text (OffsetFrom e arg) = method (operand (is_compound e) (expr_text e)) (codes "offset_from") (expr_text arg)
  expr_text (IsNull e) = method (operand (is_compound e) (expr_text e)) (codes "is_null") []
  expr_text (IsNone e) = method (operand (is_compound e) (expr_text e)) (codes "is_none") []
  expr_text (AddressOf p) = address_of ++ (place_text p ++ codes ")")
  expr_text (NullPointer ty) = null_of ++ (ty_text ty ++ codes ">()")
  expr_text (SomeFunction m x params result) =
      codes "Some(" ++ (item_path m x ++ (codes " as " ++ signature (tys_texts params) (result_text result) (codes ")")))
  expr_text (Transmute from to e) =
      transmute_of ++ (ty_text from ++ (codes ", " ++ (ty_text to ++ (codes ">(" ++ (expr_text e ++ codes ")")))))
  expr_text (Neg e) = codes "-" ++ operand (is_compound e) (expr_text e)
  expr_text (Not e) = codes "!" ++ operand (is_compound e) (expr_text e)
  expr_text (Cast e ty) = operand (is_compound e) (expr_text e) ++ (codes " as " ++ ty_text ty)
  expr_text (Binary left op right) = joined_by (operand (is_compound left) (expr_text left)) (operator_mark op) (operand (is_compound right) (expr_text right))
  expr_text (And left right) = joined_by (operand (is_compound left) (expr_text left)) (codes "&&") (operand (is_compound right) (expr_text right))
  expr_text (Or left right) = joined_by (operand (is_compound left) (expr_text left)) (codes "||") (operand (is_compound right) (expr_text right))
  expr_text (Choose condition if_true if_false) =
      codes "if "
      ++ (expr_text condition ++ (codes " { " ++ (expr_text if_true ++ (codes " } else { " ++ (expr_text if_false ++ codes " }")))))

  -- the text of each expression
  pub exprs_texts : Exprs → List (List ℕ)
  exprs_texts no_exprs = []
  exprs_texts (more_exprs e es) = expr_text e ∷ exprs_texts es

-- ---- statements

-- the line of a loop's head
abbrev pub loop_line : ℕ → Option (List ℕ) → Line
loop_line depth None = line depth (codes "loop {")
loop_line depth (Some label) = line depth (codes "'" ++ (label ++ codes ": loop {"))

abbrev pub return_line : ℕ → Option Expr → Line
return_line depth None = line depth (codes "return;")
return_line depth (Some value) = line depth (codes "return " ++ (expr_text value ++ codes ";"))

-- `} else {` and the lines of its list, which isn't printed where it is empty
abbrev pub else_lines : ℕ → Stmts → List Line → List Line
else_lines depth no_stmts lines = []
else_lines depth (more_stmts s ss) lines = line depth (codes "} else {") ∷ lines

abbrev mutual
  -- the lines of a statement at a depth
  pub stmt_lines : ℕ → Stmt → List Line
  stmt_lines depth (Assign place value) = line depth (place_text place ++ (codes " = " ++ (expr_text value ++ codes ";"))) ∷ []
  stmt_lines depth (Eval value) = line depth (expr_text value ++ codes ";") ∷ []
  stmt_lines depth (CopyBytes source target count) =
      line depth (codes "core::ptr::copy(" ++ (expr_text source ++ (codes ", " ++ (expr_text target ++ (codes ", "
      ++ (expr_text count ++ codes ");")))))) ∷ []
  stmt_lines depth (If condition if_true if_false) =
      line depth (codes "if " ++ (expr_text condition ++ codes " {")) ∷ (stmts_lines (depth + 1) if_true
      ++ (else_lines depth if_false (stmts_lines (depth + 1) if_false) ++ (closing depth ∷ [])))
  stmt_lines depth (Loop label body) = loop_line depth label ∷ (stmts_lines (depth + 1) body ++ (closing depth ∷ []))
  stmt_lines depth (Block label body) =
      line depth (codes "'" ++ (label ++ codes ": {")) ∷ (stmts_lines (depth + 1) body ++ (closing depth ∷ []))
  stmt_lines depth (Break label) = line depth (codes "break '" ++ (label ++ codes ";")) ∷ []
  stmt_lines depth (Continue label) = line depth (codes "continue '" ++ (label ++ codes ";")) ∷ []
  stmt_lines depth (Match value cases other) =
      line depth (codes "match " ++ (expr_text value ++ codes " {")) ∷ (arms_lines (depth + 1) cases
      ++ (line (depth + 1) (codes "_ => {") ∷ (stmts_lines (depth + 1 + 1) other
      ++ (closing (depth + 1) ∷ closing depth ∷ []))))
  stmt_lines depth (Return value) = return_line depth value ∷ []

  pub stmts_lines : ℕ → Stmts → List Line
  stmts_lines depth no_stmts = []
  stmts_lines depth (more_stmts s ss) = stmt_lines depth s ++ stmts_lines depth ss

  pub arm_lines : ℕ → ArmTree → List Line
  arm_lines depth (LiteralArm value ty body) =
      line depth (literal_text value ty ++ codes " => {") ∷ (stmts_lines (depth + 1) body ++ (closing depth ∷ []))

  pub arms_lines : ℕ → Arms → List Line
  arms_lines depth no_arms = []
  arms_lines depth (more_arms one others) = arm_lines depth one ++ arms_lines depth others

-- ---- items

-- what begins the head of a function with a body
unfoldable pub function_of : List ℕ
function_of = codes "pub unsafe extern \"C\" fn "

-- what ends the line of a local
unfoldable pub zeroed : List ℕ
zeroed = codes " = core::mem::zeroed();"

-- what a static object of zero bytes begins as
unfoldable pub static_zeroed : List ℕ
static_zeroed = codes "unsafe { core::mem::zeroed() }"

-- a name and its type
abbrev pub typed_text : List ℕ → Ty → List ℕ
typed_text name ty = name ++ (codes ": " ++ ty_text ty)

-- the line of the attribute that gives a symbol, if there is one
abbrev pub attribute_lines : Attribute → List Line
attribute_lines Mangled = []
attribute_lines NoMangle = line 0 (codes "#[no_mangle]") ∷ []
attribute_lines (ExportName symbol) = line 0 (codes "#[export_name = \"" ++ (symbol ++ codes "\"]")) ∷ []

abbrev pub repr_line : Option ℕ → Line
repr_line None = line 0 (codes "#[repr(C)]")
repr_line (Some align) = line 0 (codes "#[repr(C, align(" ++ (decimal align ++ codes "))]"))

abbrev pub record_head : RecordTree → Line
record_head of = line 0 (codes "pub " ++ (record_word of.is_union ++ (codes " " ++ (of.name ++ codes " {"))))

abbrev pub field_line : FieldTree → Line
field_line field = line 1 (codes "pub " ++ (typed_text field.name field.ty ++ codes ","))

-- a record: its attributes, its head, a line for each field, and its closing brace
abbrev pub record_lines : RecordTree → List Line
record_lines of =
    line 0 (codes "#[derive(Copy, Clone)]") ∷ repr_line of.align ∷ record_head of ∷ (map field_line of.fields
    ++ (closing 0 ∷ []))

-- what a static object begins as
abbrev pub values_text : Option (List ℤ) → List ℕ
values_text None = static_zeroed
values_text (Some values) = codes "[" ++ (listed (map (λ value. literal_text value I8) values) ++ codes "]")

abbrev pub static_line : StaticTree → Line
static_line object =
    line 0 (codes "pub static mut " ++ (typed_text object.name object.ty ++ (codes " = " ++ (values_text object.values
    ++ codes ";"))))

abbrev pub static_lines : StaticTree → List Line
static_lines object = attribute_lines object.attribute ++ (static_line object ∷ [])

-- a parameter of an external function, by its number
abbrev pub outer_param : ℕ → Ty → List ℕ
outer_param k ty = codes "a" ++ (decimal k ++ (codes ": " ++ ty_text ty))

-- the parameters of an external function, the first of which has this number
abbrev pub outer_params : ℕ → List Ty → List (List ℕ)
outer_params k [] = []
outer_params k (ty ∷ others) = outer_param k ty ∷ outer_params (k + 1) others

-- `...` behind the parameters, of which a valid tree then has one
abbrev pub variadic_text : Bool → List ℕ
variadic_text false = []
variadic_text true = codes ", ..."

abbrev pub link_name_lines : Option (List ℕ) → List Line
link_name_lines None = []
link_name_lines (Some symbol) = line 1 (codes "#[link_name = \"" ++ (symbol ++ codes "\"]")) ∷ []

abbrev pub outer_line : OuterTree → Line
outer_line outer =
    line 1 (codes "pub fn " ++ (outer.name ++ (codes "(" ++ (listed (outer_params 0 outer.params)
    ++ (variadic_text outer.variadic ++ (codes ")" ++ (result_text (option_ty outer.result) ++ codes ";")))))))

abbrev pub outer_lines : OuterTree → List Line
outer_lines outer = link_name_lines outer.link_name ++ (outer_line outer ∷ [])

abbrev pub local_line : LocalTree → Line
local_line local = line 1 (codes "let mut " ++ (typed_text local.name local.ty ++ zeroed))

abbrev pub param_text : LocalTree → List ℕ
param_text param = codes "mut " ++ typed_text param.name param.ty

abbrev pub function_head : FunctionTree → Line
function_head fun =
    line 0 (function_of ++ (fun.name ++ (codes "(" ++ (listed (map param_text fun.params) ++ (codes ")"
    ++ (result_text (option_ty fun.result) ++ codes " {"))))))

-- a function: its attribute, its head, a line for each local, its statements, and its closing brace
abbrev pub function_lines : FunctionTree → List Line
function_lines fun =
    attribute_lines fun.attribute ++ (function_head fun ∷ (map local_line fun.locals ++ (stmts_lines 1 fun.body
    ++ (closing 0 ∷ []))))

abbrev pub item_lines : ItemTree → List Line
item_lines (RecordItem of) = record_lines of
item_lines (StaticItem object) = static_lines object
item_lines (ExternItem outers) = line 0 (codes "extern \"C\" {") ∷ (flat_map outer_lines outers ++ (closing 0 ∷ []))
item_lines (FunctionItem fun) = function_lines fun

-- ---- files

-- a module's file: its items, one behind another
abbrev pub module_lines : ModuleTree → List Line
module_lines unit = flat_map item_lines unit.items

-- the names of the modules
abbrev pub module_names : CrateTree → List (List ℕ)
module_names whole = map (λ unit. unit.name) whole.modules

-- the name of the module that has `main_0`
abbrev pub name_or_empty : Option ModuleTree → List ℕ
name_or_empty None = []
name_or_empty (Some unit) = unit.name

abbrev pub entry_name : CrateTree → List ℕ
entry_name whole = name_or_empty (slice_get whole.modules whole.entry)

-- the first line of `main.rs`: the compiler doesn't refuse a program for what would panic if it were reached
unfoldable pub allow_line : Line
allow_line = line 0 (codes "#![allow(unconditional_panic, arithmetic_overflow)]")

-- the line of `main.rs` that declares a module
abbrev pub declaration_line : List ℕ → Line
declaration_line name = line 0 (codes "mod " ++ (name ++ codes ";"))

-- what ends the call of a module's initialiser
unfoldable pub initialiser_of : List ℕ
initialiser_of = codes "::run_static_initializers();"

-- the line of `main.rs` that stores a module's initial values
abbrev pub initialiser_line : List ℕ → Line
initialiser_line name = line 2 (codes "crate::" ++ (name ++ initialiser_of))

-- what begins the call that ends the program with its status
unfoldable pub exit_of : List ℕ
exit_of = codes "std::process::exit(crate::"

-- the line of `main.rs` that runs the program and ends with its status
abbrev pub exit_line : List ℕ → Line
exit_line entry = line 2 (exit_of ++ (entry ++ codes "::main_0());"))

-- `main.rs` by the names of the modules and of the entry's: the modules, then the calls of their initialisers, then that of `main_0`
abbrev pub main_of : List (List ℕ) → List ℕ → List Line
main_of names entry =
    allow_line ∷ (map declaration_line names
    ++ (line 0 (codes "fn main() {") ∷ line 1 (codes "unsafe {") ∷ (map initialiser_line names
    ++ (exit_line entry ∷ closing 1 ∷ closing 0 ∷ []))))

abbrev pub main_lines : CrateTree → List Line
main_lines whole = main_of (module_names whole) (entry_name whole)

-- `Cargo.toml`: the package is named `translated` and has no dependencies
unfoldable pub cargo_lines : List Line
cargo_lines =
    line 0 (codes "[package]") ∷ line 0 (codes "name = \"translated\"") ∷ line 0 (codes "version = \"0.0.0\"")
    ∷ line 0 (codes "edition = \"2021\"") ∷ []

-- the lines of all files, in the order in which they are put: the modules, `main.rs`, `Cargo.toml`
abbrev pub lines_of : CrateTree → List Line
lines_of whole = flat_map module_lines whole.modules ++ (main_lines whole ++ cargo_lines)

-- ---- the bytes of lines

-- the blanks before a line: four for each open brace
abbrev pub indentation : ℕ → List ℕ
indentation depth = replicate (4 * depth) 32

-- a line as it stands in a file, ended by one newline
abbrev pub line_bytes : Line → List ℕ
line_bytes one = indentation one.depth ++ (one.text ++ codes "\n")

abbrev pub text_of_lines : List Line → List ℕ
text_of_lines lines = flat_map line_bytes lines
