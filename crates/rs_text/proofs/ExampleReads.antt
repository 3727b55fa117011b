-- Worked examples of what files read as: a small crate, its files in other orders and with other white space, and near misses.
use Rattle.std.proofs.Common.{◌≡◌, ℕ, pos, negsuc, Bool, true, false, List, [], ◌∷◌, ◌++◌, map, length, Option, Some, None, codes, refl}
use Rattle.std.specs.Fmt.{digits}
use Rattle.std.specs.List.{flat_map}
use Rattle.shelf.specs.declared.file.File.{File}
use Rattle.rs_text.specs.declared.attribute.Attribute.TheVariants.{Mangled, NoMangle}
use Rattle.rs_text.specs.declared.integer.IntegerTy.TheVariants.{I8, I32}
use Rattle.rs_text.specs.declared.operator.Operator.TheVariants.{Add, Shr, Greater, Mul}
use Rattle.rs_text.specs.Lines.{allow_line, address_of, null_of, transmute_of, function_of, zeroed, static_zeroed, exit_of, initialiser_of, cargo_lines, module_names, entry_name}
use Rattle.rs_text.specs.Names.{keywords, path_words, is_identifier, is_module_name, is_label}
use Rattle.rs_text.specs.Reads.{ReadsAs, IsMain, spells, spells_main, spells_cargo, spells_module}
use Rattle.rs_text.specs.Spelling.{item_tokens, ty_tokens, expr_tokens, stmt_tokens}
use Rattle.rs_text.specs.Text.{text_of, file_of}
use Rattle.rs_text.specs.Tokens.{tokens_in, marks, Word, Label, Quoted, Mark}
use Rattle.rs_text.specs.Tree.{Ty, Integer, Void, Pointer, Array, Code, tys, option_ty, Local, Static, Expr, Literal, Read, Neg, Binary, Stmt, Eval, If, Return, stmts, OuterTree, ItemTree, RecordItem, StaticItem, ExternItem, FunctionItem, ModuleTree, CrateTree}
use Rattle.rs_text.specs.Valid.{valid_ty, valid_expr, valid_stmt, valid_item, valid_items, valid_crate}

-- ---- the crate of `int main(void) { return 42; }`

abbrev int : Ty
int = Integer I32

abbrev function : List ℕ → Option Ty → List Stmt → ItemTree
function name result body =
    FunctionItem (record { attribute = Mangled; name = name; params = []; result = result; locals = []; body = stmts body })

abbrev returning : Stmt → ModuleTree
returning value = record {
  name = codes "a";
  items = function (codes "main_0") (Some int) (value ∷ []) ∷ function (codes "run_static_initializers") None [] ∷ [];
}

abbrev return_42 : Stmt
return_42 = Return (Some (Literal (pos 42) I32))

abbrev pub small : CrateTree
small = record { modules = returning return_42 ∷ []; entry = 0 }

-- lines, each ended by a newline
abbrev rows : List (List ℕ) → List ℕ
rows lines = flat_map (λ one. one ++ codes "\n") lines

abbrev a_rs : List ℕ → List ℕ
a_rs returned = rows (
    codes "pub unsafe extern \"C\" fn main_0() -> i32 {" ∷
    returned ∷
    codes "}" ∷
    codes "pub unsafe extern \"C\" fn run_static_initializers() {" ∷
    codes "}" ∷ [])

abbrev main_rs : List ℕ → List ℕ
main_rs line = rows (
    codes "#![allow(unconditional_panic, arithmetic_overflow)]" ∷
    codes "mod a;" ∷
    line ∷
    codes "fn main() {" ∷
    codes "    unsafe {" ∷
    codes "        crate::a::run_static_initializers();" ∷
    codes "        std::process::exit(crate::a::main_0());" ∷
    codes "    }" ∷
    codes "}" ∷ [])

-- its three files have 118, 185 and 65 bytes
small_sizes : map (λ file. length file.bytes) (text_of small) ≡ 118 ∷ 185 ∷ 65 ∷ []
unfolding allow_line address_of null_of transmute_of function_of zeroed static_zeroed exit_of initialiser_of cargo_lines digits
small_sizes = refl

small_text : map (λ file. file.bytes) (text_of small)
    ≡ a_rs (codes "    return 42i32;")
    ∷ rows (
    codes "#![allow(unconditional_panic, arithmetic_overflow)]" ∷
    codes "mod a;" ∷
    codes "fn main() {" ∷
    codes "    unsafe {" ∷
    codes "        crate::a::run_static_initializers();" ∷
    codes "        std::process::exit(crate::a::main_0());" ∷
    codes "    }" ∷
    codes "}" ∷ [])
    ∷ rows (codes "[package]" ∷ codes "name = \"translated\"" ∷ codes "version = \"0.0.0\"" ∷ codes "edition = \"2021\"" ∷ []) ∷ []
unfolding allow_line address_of null_of transmute_of function_of zeroed static_zeroed exit_of initialiser_of cargo_lines digits
small_text = refl

small_read : ReadsAs (text_of small) small
unfolding allow_line address_of null_of transmute_of function_of zeroed static_zeroed exit_of initialiser_of cargo_lines digits marks keywords path_words
small_read = record { valid = refl; count = refl; cargo = refl; main = refl; modules = refl }

-- ---- files in another order, and other white space

abbrev cargo_toml : List ℕ
cargo_toml = codes "[package]\n\nname=\"translated\"\n  version = \"0.0.0\"\t\nedition = \"2021\""

abbrev others : List File
others =
    file_of (codes "Cargo.toml") cargo_toml
    ∷ file_of (codes "src/a.rs") (a_rs (codes "\treturn   42i32 ;"))
    ∷ file_of (codes "src/main.rs") (main_rs (codes "")) ∷ []

others_read : ReadsAs others small
unfolding allow_line address_of null_of transmute_of function_of zeroed static_zeroed exit_of initialiser_of cargo_lines digits marks keywords path_words
others_read = record { valid = refl; count = refl; cargo = refl; main = refl; modules = refl }

-- a name twice, and a name that is missing
twice : spells_module (file_of (codes "src/a.rs") (a_rs (codes "return 42i32;")) ∷ file_of (codes "src/a.rs") (a_rs (codes "return 42i32;")) ∷ []) (returning return_42) ≡ false
twice = refl

missing : spells_module (file_of (codes "src/b.rs") (a_rs (codes "return 42i32;")) ∷ []) (returning return_42) ≡ false
missing = refl

-- ---- a statement that is nearly spelled

abbrev returns : List ℕ → Bool
returns text = spells text (stmt_tokens return_42)

in_words : returns (codes "return\n42i32;") ≡ true
unfolding digits marks
in_words = refl

in_parentheses : returns (codes "return (42i32);") ≡ false
unfolding digits marks
in_parentheses = refl

apart : returns (codes "return 42 i32;") ≡ false
unfolding digits marks
apart = refl

without_suffix : returns (codes "return 42;") ≡ false
unfolding digits marks
without_suffix = refl

with_zeros : returns (codes "return 042i32;") ≡ false
unfolding digits marks
with_zeros = refl

with_comment : returns (codes "return 42i32; // the answer") ≡ false
unfolding digits marks
with_comment = refl

joined : returns (codes "return42i32;") ≡ false
unfolding digits marks
joined = refl

two_ends : returns (codes "return 42i32;;") ≡ false
unfolding digits marks
two_ends = refl

no_end : returns (codes "return 42i32") ≡ false
unfolding digits marks
no_end = refl

-- ---- operands

abbrev n : Expr
n = Read (Local (codes "n"))

-- a compound as an operand has parentheses, and nothing else has
sum_of_product : spells (codes "n + (n * n)") (expr_tokens (Binary n Add (Binary n Mul n))) ≡ true
unfolding marks
sum_of_product = refl

no_parentheses : spells (codes "n + n * n") (expr_tokens (Binary n Add (Binary n Mul n))) ≡ false
unfolding marks
no_parentheses = refl

more_parentheses : spells (codes "n + ((n * n))") (expr_tokens (Binary n Add (Binary n Mul n))) ≡ false
unfolding marks
more_parentheses = refl

around_an_atom : spells (codes "(n) + n") (expr_tokens (Binary n Add n)) ≡ false
unfolding marks
around_an_atom = refl

-- a negative literal is a sign and a literal, with or without white space between; unary minus before a literal is no tree
negative : spells (codes "- 1i32") (expr_tokens (Literal (negsuc 0) I32)) ≡ true
unfolding digits marks
negative = refl

minus_literal : valid_expr (Neg (Literal (pos 1) I32)) ≡ false
minus_literal = refl

minus_negative : valid_expr (Neg (Literal (negsuc 0) I32)) ≡ false
minus_negative = refl

-- ---- `>>`: one operator, or two ends of lists of types

shift : spells (codes "n >> n") (expr_tokens (Binary n Shr n)) ≡ true
unfolding marks
shift = refl

shift_apart : spells (codes "n > > n") (expr_tokens (Binary n Shr n)) ≡ false
unfolding marks
shift_apart = refl

greater_twice : spells (codes "n >> n") (expr_tokens (Binary n Greater n)) ≡ false
unfolding marks
greater_twice = refl

-- the type of a function that gives one that gives one
abbrev action : Ty
action = Code (tys []) (option_ty None)

abbrev giving : Ty → Ty
giving ty = Code (tys []) (option_ty (Some ty))

two_closes : spells (codes "Option<unsafe extern \"C\" fn() -> Option<unsafe extern \"C\" fn()>>") (ty_tokens (giving action)) ≡ true
unfolding marks
two_closes = refl

two_closes_apart : spells (codes "Option < unsafe extern \"C\" fn ( ) -> Option < unsafe extern \"C\" fn ( ) > >") (ty_tokens (giving action)) ≡ true
unfolding marks
two_closes_apart = refl

three_closes : spells (codes "Option<unsafe extern \"C\" fn() -> Option<unsafe extern \"C\" fn() -> Option<unsafe extern \"C\" fn()>>>") (ty_tokens (giving (giving action))) ≡ true
unfolding marks
three_closes = refl

three_closes_apart : spells (codes "Option<unsafe extern \"C\" fn() -> Option<unsafe extern \"C\" fn() -> Option<unsafe extern \"C\" fn()> >>") (ty_tokens (giving (giving action))) ≡ true
unfolding marks
three_closes_apart = refl

one_close_more : spells (codes "Option<unsafe extern \"C\" fn()>>") (ty_tokens action) ≡ false
unfolding marks
one_close_more = refl

one_close_less : spells (codes "Option<unsafe extern \"C\" fn() -> Option<unsafe extern \"C\" fn()>") (ty_tokens (giving action)) ≡ false
unfolding marks
one_close_less = refl

-- ---- items that are nearly spelled

abbrev with_symbol : ItemTree
with_symbol = StaticItem (record { attribute = NoMangle; name = codes "x"; ty = int; values = None })

symbol_attribute : spells (codes "#[no_mangle] pub static mut x: i32 = unsafe { core::mem::zeroed() };") (item_tokens with_symbol) ≡ true
unfolding marks
symbol_attribute = refl

-- the attribute and the block of another edition
unsafe_attribute : spells (codes "#[unsafe(no_mangle)] pub static mut x: i32 = unsafe { core::mem::zeroed() };") (item_tokens with_symbol) ≡ false
unfolding marks
unsafe_attribute = refl

abbrev putchar : ItemTree
putchar = ExternItem (record { link_name = None; name = codes "putchar"; params = int ∷ []; variadic = false; result = Some int } ∷ [])

block_of_externals : spells (codes "extern \"C\" { pub fn putchar(a0: i32) -> i32; }") (item_tokens putchar) ≡ true
unfolding digits marks
block_of_externals = refl

unsafe_block : spells (codes "unsafe extern \"C\" { pub fn putchar(a0: i32) -> i32; }") (item_tokens putchar) ≡ false
unfolding digits marks
unsafe_block = refl

-- a parameter by another name
other_param : spells (codes "extern \"C\" { pub fn putchar(c: i32) -> i32; }") (item_tokens putchar) ≡ false
unfolding digits marks
other_param = refl

-- locals stand before the statements
abbrev with_local : ItemTree
with_local = FunctionItem (record {
  attribute = Mangled;
  name = codes "f";
  params = [];
  result = None;
  locals = record { name = codes "x"; ty = int } ∷ [];
  body = stmts (Return None ∷ []);
})

local_first : spells (codes "pub unsafe extern \"C\" fn f() { let mut x: i32 = core::mem::zeroed(); return; }") (item_tokens with_local) ≡ true
unfolding marks
local_first = refl

local_behind : spells (codes "pub unsafe extern \"C\" fn f() { return; let mut x: i32 = core::mem::zeroed(); }") (item_tokens with_local) ≡ false
unfolding marks
local_behind = refl

-- `else` stands only where its list isn't empty
abbrev without_else : Stmt
without_else = If n (stmts []) (stmts [])

if_alone : spells (codes "if n { }") (stmt_tokens without_else) ≡ true
unfolding marks
if_alone = refl

empty_else : spells (codes "if n { } else { }") (stmt_tokens without_else) ≡ false
unfolding marks
empty_else = refl

-- ---- tokens

words_and_marks : tokens_in (codes "let mut r#type: i32=-5i32;") ≡ Some (Word (codes "let") ∷ Word (codes "mut") ∷ Word (codes "r#type") ∷ Mark (codes ":") ∷ Word (codes "i32") ∷ Mark (codes "=") ∷ Mark (codes "-") ∷ Word (codes "5i32") ∷ Mark (codes ";") ∷ [])
unfolding marks
words_and_marks = refl

-- a text in quotes has no suffix; a blank makes two tokens of it
suffix_of_a_text : tokens_in (codes "\"C\"fn") ≡ None
suffix_of_a_text = refl

text_and_word : tokens_in (codes "\"C\" fn") ≡ Some (Quoted (codes "C") ∷ Word (codes "fn") ∷ [])
text_and_word = refl

-- a path into a module `main` has its form; whether there is such an item is a matter of typing
path_into_main : valid_expr (Read (Static (codes "main") (codes "x"))) ≡ true
unfolding keywords path_words
path_into_main = refl

labels : tokens_in (codes "'a: break 'b;") ≡ Some (Label (codes "a") ∷ Mark (codes ":") ∷ Word (codes "break") ∷ Label (codes "b") ∷ Mark (codes ";") ∷ [])
unfolding marks
labels = refl

-- the longest mark is one token, so blanks between marks count
longest_mark : tokens_in (codes "a<<=b=>...") ≡ Some (Word (codes "a") ∷ Mark (codes "<<=") ∷ Word (codes "b") ∷ Mark (codes "=>") ∷ Mark (codes "...") ∷ [])
unfolding marks
longest_mark = refl

-- a character, a quote alone, an escape, a prefixed literal, a text that isn't closed and a byte past ASCII are no tokens
no_letter : tokens_in (codes "'a'") ≡ None
no_letter = refl

no_quote : tokens_in (codes "' a") ≡ None
no_quote = refl

no_escape : tokens_in (codes "\"a\\n\"") ≡ None
no_escape = refl

no_prefix : tokens_in (codes "extern\"C\"") ≡ None
no_prefix = refl

not_closed : tokens_in (codes "\"C") ≡ None
not_closed = refl

no_other_byte : tokens_in (195 ∷ 164 ∷ []) ≡ None
unfolding marks
no_other_byte = refl

-- ---- names

raw_name : is_identifier (codes "r#fn") ≡ true
unfolding keywords path_words
raw_name = refl

keyword_name : is_identifier (codes "fn") ≡ false
unfolding keywords path_words
keyword_name = refl

raw_no_keyword : is_identifier (codes "r#x") ≡ false
unfolding keywords path_words
raw_no_keyword = refl

digit_first : is_identifier (codes "1x") ≡ false
unfolding keywords path_words
digit_first = refl

raw_self : is_identifier (codes "r#self") ≡ false
unfolding keywords path_words
raw_self = refl

module_main : is_module_name (codes "main") ≡ false
unfolding keywords path_words
module_main = refl

raw_module : is_module_name (codes "r#fn") ≡ false
unfolding keywords path_words
raw_module = refl

label_static : is_label (codes "static") ≡ false
unfolding keywords path_words
label_static = refl

-- ---- trees that are none of the subset

-- `core::ffi::c_void` by itself, and as the target of a pointer
void_alone : valid_ty Void ≡ false
void_alone = refl

void_target : valid_ty (Pointer Void) ≡ true
void_target = refl

-- an expression that is no call, as a statement
no_call : valid_stmt (Eval n) ≡ false
unfolding keywords path_words
no_call = refl

-- `...` without a parameter before it, and an empty block of externals
abbrev variadic : List Ty → OuterTree
variadic params = record { link_name = None; name = codes "printf"; params = params; variadic = true; result = None }

dots_alone : valid_item (ExternItem (variadic [] ∷ [])) ≡ false
unfolding keywords path_words
dots_alone = refl

dots_behind : valid_item (ExternItem (variadic (int ∷ []) ∷ [])) ≡ true
unfolding keywords path_words
dots_behind = refl

no_externals : valid_item (ExternItem []) ≡ false
no_externals = refl

-- a list of literals for another type, or of another number than the length
listed_int : valid_item (StaticItem (record { attribute = Mangled; name = codes "x"; ty = Array int 1; values = Some (pos 1 ∷ []) })) ≡ false
unfolding keywords path_words
listed_int = refl

listed_one : valid_item (StaticItem (record { attribute = Mangled; name = codes "x"; ty = Array (Integer I8) 2; values = Some (pos 1 ∷ []) })) ≡ false
unfolding keywords path_words
listed_one = refl

-- an alignment that isn't among the five
aligned_three : valid_item (RecordItem (record { align = Some 3; is_union = false; name = codes "x"; fields = [] })) ≡ false
aligned_three = refl

abbrev object : ItemTree
object = StaticItem (record { attribute = NoMangle; name = codes "x"; ty = int; values = None })

abbrev block : ItemTree
block = ExternItem (variadic (int ∷ []) ∷ [])

abbrev last : ItemTree
last = function (codes "run_static_initializers") None []

in_order : valid_items (object ∷ object ∷ block ∷ last ∷ []) ≡ true
unfolding keywords path_words
in_order = refl

out_of_order : valid_items (block ∷ object ∷ last ∷ []) ≡ false
unfolding keywords path_words
out_of_order = refl

two_blocks : valid_items (block ∷ block ∷ last ∷ []) ≡ false
unfolding keywords path_words
two_blocks = refl

not_last : valid_items (last ∷ function (codes "f") None [] ∷ []) ≡ false
unfolding keywords path_words
not_last = refl

no_initialiser : valid_items (object ∷ []) ≡ false
unfolding keywords path_words
no_initialiser = refl

-- crates: no module, a module twice, an entry without `main_0`, an entry that isn't there
no_module : valid_crate (record { modules = []; entry = 0 }) ≡ false
no_module = refl

-- `main.rs` names its modules and its entry
main_is : IsMain (main_rs (codes "")) (codes "a" ∷ []) (codes "a")
unfolding allow_line exit_of initialiser_of marks keywords path_words
main_is = record { valid = refl; among = refl; spelled = refl }

module_twice : valid_crate (record { modules = returning return_42 ∷ returning return_42 ∷ []; entry = 0 }) ≡ false
unfolding keywords path_words
module_twice = refl

no_entry : valid_crate (record { modules = record { name = codes "a"; items = last ∷ [] } ∷ []; entry = 0 }) ≡ false
unfolding keywords path_words
no_entry = refl

entry_past : valid_crate (record { modules = returning return_42 ∷ []; entry = 1 }) ≡ false
unfolding keywords path_words
entry_past = refl

-- ---- `main.rs` and `Cargo.toml`

abbrev is_main : List ℕ → Bool
is_main text = spells_main text (module_names small) (entry_name small)

main_as_printed : is_main (main_rs (codes "")) ≡ true
unfolding allow_line exit_of initialiser_of marks
main_as_printed = refl

main_with_another_line : is_main (main_rs (codes "mod b;")) ≡ false
unfolding allow_line exit_of initialiser_of marks
main_with_another_line = refl

main_with_comment : is_main (main_rs (codes "// mod b;")) ≡ false
unfolding allow_line exit_of initialiser_of marks
main_with_comment = refl

main_empty : is_main [] ≡ false
unfolding allow_line exit_of initialiser_of marks
main_empty = refl

cargo_as_printed : spells_cargo (rows (codes "[package]" ∷ codes "name = \"translated\"" ∷ codes "version = \"0.0.0\"" ∷ codes "edition = \"2021\"" ∷ [])) ≡ true
unfolding cargo_lines marks
cargo_as_printed = refl

-- lines of `Cargo.toml` in one, another edition, a line more, a comment
cargo_joined : spells_cargo (codes "[package] name = \"translated\"\nversion = \"0.0.0\"\nedition = \"2021\"\n") ≡ false
unfolding cargo_lines marks
cargo_joined = refl

cargo_edition : spells_cargo (codes "[package]\nname = \"translated\"\nversion = \"0.0.0\"\nedition = \"2024\"\n") ≡ false
unfolding cargo_lines marks
cargo_edition = refl

cargo_more : spells_cargo (codes "[package]\nname = \"translated\"\nversion = \"0.0.0\"\nedition = \"2021\"\n[dependencies]\n") ≡ false
unfolding cargo_lines marks
cargo_more = refl

cargo_less : spells_cargo (codes "[package]\nname = \"translated\"\nversion = \"0.0.0\"\n") ≡ false
unfolding cargo_lines marks
cargo_less = refl

cargo_comment : spells_cargo (codes "# made by c2rs\n[package]\nname = \"translated\"\nversion = \"0.0.0\"\nedition = \"2021\"\n") ≡ false
unfolding cargo_lines marks
cargo_comment = refl
