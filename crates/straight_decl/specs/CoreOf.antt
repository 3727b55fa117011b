-- The typed program of a unit (ISO C99, 6.2 to 6.9), or none where the unit isn't one that is typed today: a
-- straight `int` program. Such a unit declares, in this order, `int putchar(int);` or not; objects `int x;` and
-- `int x = N;`; and `int main(void)` with a body of expression statements, the last of which is a `return`.
-- Expressions are constants of type `int`, objects, unary `-`, `+`, `-`, `*`, assignments to objects and calls of
-- `putchar`. No name is declared twice, and each is declared before its use.
use Rattle.std.specs.Prelude.{ℕ, suc, ℤ, pos, Bool, true, false, ◌&&◌, ◌||◌, nat_le, if◌then◌else◌, List, [], ◌∷◌, ◌++◌, length, Option, Some, None, option_map, get_or, codes, bytes_eq}
use Rattle.std.specs.List.{list_any}
use Rattle.cr_base.specs.declared.refusal.Place.{Place}
use Rattle.straight_core.specs.declared.expr.Op1.TheVariants.{Minus as Negate}
use Rattle.straight_core.specs.declared.expr.Op2.{Op2}
use Rattle.straight_core.specs.declared.expr.Op2.TheVariants.{Add, Subtract, Multiply}
use Rattle.straight_core.specs.declared.program.Linkage.TheVariants.{External}
use Rattle.straight_core.specs.Trees.{CTy, ty, void, int, function, listed, no_types, more_types, CExpr, expr, whole, object, load, convert, unary, binary, assign, call, no_exprs, more_exprs, CStmt, stmt, block, expression, returns, CPut, put, CObject, CFun, COuter, CTypes, CProgram}
use Rattle.straight_core.specs.Views.{stmts_of}
use Rattle.cx_lex.specs.declared.token.Punct.{Punct}
use Rattle.cx_lex.specs.declared.token.Punct.TheVariants.{Plus, Minus, Star, Equal}
use Rattle.cx_lex.specs.declared.token.Ty0.{Ty0}
use Rattle.cx_lex.specs.declared.token.Ty0.TheVariants.{Int}
use Rattle.straight_tree.specs.Trees as tree
use Rattle.straight_tree.specs.Trees.{ExprTree, SpecTree, SpecTrees, SpecsTree, DeclaratorTree, ParamTree, ParamTrees, InitialiserTree, InitDeclaratorTree, DeclTree, StmtTree, ItemTree, ItemTrees, ExternalTree, UnitTree}

-- ---- what is declared

-- the declarations whose scope holds a place (6.2.1p7): the objects, the k-th of which is object k, and whether the
-- function `putchar` is declared, which then is function 0
pub record Scope : Type 0 where
  pub objects : List (List ℕ)
  pub has_putchar : Bool

abbrev pub putchar_name : List ℕ
putchar_name = codes "putchar"

abbrev pub main_name : List ℕ
main_name = codes "main"

-- the number of the object that a name declares
abbrev pub object_named : List ℕ → List (List ℕ) → Option ℕ
object_named name [] = None
object_named name (first ∷ others) = if bytes_eq first name then Some 0 else option_map suc (object_named name others)

-- a name is declared, or will be: `main` is the unit's own function
abbrev pub is_declared : List ℕ → Scope → Bool
is_declared name scope =
    list_any (λ other. bytes_eq other name) scope.objects
    || (scope.has_putchar && bytes_eq putchar_name name)
    || bytes_eq main_name name

-- ---- types and places

abbrev pub int_type : CTy
int_type = ty int false

abbrev pub void_type : CTy
void_type = ty void false

-- a place in a unit, by the lines of a node's own tokens
abbrev pub place_in : ℕ → List ℕ → Place
place_in unit lines = record { unit = unit; line = get_or lines 0 0 }

-- the line of the first token of an expression
abbrev pub first_line : ExprTree → ℕ
first_line (tree.Name name lines) = get_or lines 0 0
first_line (tree.Number value type lines) = get_or lines 0 0
first_line (tree.Paren inner lines) = get_or lines 0 0
first_line (tree.Call of args lines) = first_line of
first_line (tree.Unary op on lines) = get_or lines 0 0
first_line (tree.Binary left op right lines) = first_line left
first_line (tree.Assign left op right lines) = first_line left

-- the place of an expression: that of its first token
abbrev pub place_of : ℕ → ExprTree → Place
place_of unit e = record { unit = unit; line = first_line e }

-- ---- expressions (6.5)

-- two parts, both of which are there
abbrev pub both : {A B C : Type 0} → Option A → Option B → (A → B → C) → Option C
both (Some a) (Some b) make = Some (make a b)
both (Some a) None make = None
both None second make = None

-- a constant of type `int` (6.4.4.1)
abbrev pub is_int_constant : ℕ → Ty0 → Bool
is_int_constant value Int = nat_le value 2147483647
is_int_constant value _ = false

-- an arithmetic operator with two operands (6.5.5, 6.5.6)
abbrev pub operator_of : Punct → Option Op2
operator_of Plus = Some Add
operator_of Minus = Some Subtract
operator_of Star = Some Multiply
operator_of _ = None

-- the lvalue of an object, by its name (6.5.1p2)
abbrev pub named_object : Place → List ℕ → Scope → Option CExpr
named_object place name scope = option_map (λ number. expr int_type place (object number)) (object_named name scope.objects)

-- what stands left of `=`: an object, by its name
abbrev pub target_of : ℕ → Scope → ExprTree → Option CExpr
target_of unit scope (tree.Name name lines) = named_object (place_in unit lines) name scope
target_of unit scope _ = None

-- what is called: `putchar`, where it is declared
abbrev pub is_putchar : Scope → ExprTree → Bool
is_putchar scope (tree.Name name lines) = scope.has_putchar && bytes_eq name putchar_name
is_putchar scope _ = false

-- unary `-` of an operand (6.5.3.3)
abbrev pub negation_of : Option CExpr → Place → Punct → Option CExpr
negation_of None place op = None
negation_of (Some value) place Minus = Some (expr int_type place (unary Negate value))
negation_of (Some value) place _ = None

-- an operator between two operands (6.5.5, 6.5.6)
abbrev pub binary_of : Option CExpr → Option CExpr → Place → Option Op2 → Option CExpr
binary_of None right place operator = None
binary_of (Some left) None place operator = None
binary_of (Some left) (Some right) place None = None
binary_of (Some left) (Some right) place (Some operator) = Some (expr int_type place (binary operator left right))

-- a value is stored in what stands left of `=` (6.5.16.1)
abbrev pub assignment_of : Option CExpr → Option CExpr → Place → Punct → Option CExpr
assignment_of None value place op = None
assignment_of (Some target) None place op = None
assignment_of (Some target) (Some value) place Equal = Some (expr int_type place (assign target value))
assignment_of (Some target) (Some value) place _ = None

-- a call of `putchar` with one argument (6.5.2.2)
abbrev pub call_of : Option CExpr → Place → Bool → Option CExpr
call_of None place known = None
call_of (Some arg) place true = Some (expr int_type place (call 0 (more_exprs arg no_exprs)))
call_of (Some arg) place false = None

abbrev mutual
  -- an expression that gives a value of type `int`
  pub core_expr : ℕ → Scope → ExprTree → Option CExpr
  core_expr unit scope (tree.Name name lines) =
      option_map (λ from. expr int_type (place_in unit lines) (load from)) (named_object (place_in unit lines) name scope)
  core_expr unit scope (tree.Number value type lines) =
      if is_int_constant value type then Some (expr int_type (place_in unit lines) (whole (pos value))) else None
  core_expr unit scope (tree.Paren inner lines) = core_expr unit scope inner
  core_expr unit scope (tree.Call of args lines) = call_of (core_only unit scope args) (place_of unit of) (is_putchar scope of)
  core_expr unit scope (tree.Unary op on lines) = negation_of (core_expr unit scope on) (place_in unit lines) op
  core_expr unit scope (tree.Binary left op right lines) =
      binary_of (core_expr unit scope left) (core_expr unit scope right) (place_of unit left) (operator_of op)
  core_expr unit scope (tree.Assign left op right lines) =
      assignment_of (target_of unit scope left) (core_expr unit scope right) (place_of unit left) op

  -- the one expression of a list
  pub core_only : ℕ → Scope → tree.ExprTrees → Option CExpr
  core_only unit scope (tree.more_exprs arg tree.no_exprs) = core_expr unit scope arg
  core_only unit scope (tree.more_exprs arg (tree.more_exprs other others)) = None
  core_only unit scope tree.no_exprs = None

-- ---- statements (6.8)

-- an expression whose value isn't taken stands under a conversion to `void` (6.8.3p2)
abbrev pub dropped : CExpr → CExpr
dropped (expr type place form) = expr void_type place (convert (expr type place form))

-- a statement of the body: an expression statement, and at the end a `return` with a value
abbrev pub core_expression : ℕ → Scope → ExprTree → Option CStmt
core_expression unit scope e = option_map (λ value. stmt (place_of unit e) [] (expression (dropped value))) (core_expr unit scope e)

abbrev pub core_return : ℕ → Scope → ExprTree → List ℕ → Option CStmt
core_return unit scope e lines = option_map (λ value. stmt (place_in unit lines) [] (returns (Some value))) (core_expr unit scope e)

-- what stands in a block, in order
abbrev pub items_in : ItemTrees → List ItemTree
items_in tree.no_items = []
items_in (tree.more_items first others) = first ∷ items_in others

abbrev pub core_first : ℕ → Scope → ItemTree → Option CStmt
core_first unit scope (tree.StmtItem (tree.ExprStmt (Some e) lines)) = core_expression unit scope e
core_first unit scope (tree.StmtItem (tree.ExprStmt None lines)) = None
core_first unit scope (tree.StmtItem (tree.Block items lines)) = None
core_first unit scope (tree.StmtItem (tree.Return value lines)) = None

abbrev pub core_last : ℕ → Scope → ItemTree → Option CStmt
core_last unit scope (tree.StmtItem (tree.Return (Some e) lines)) = core_return unit scope e lines
core_last unit scope (tree.StmtItem (tree.Return None lines)) = None
core_last unit scope (tree.StmtItem (tree.Block items lines)) = None
core_last unit scope (tree.StmtItem (tree.ExprStmt e lines)) = None

-- the expression statements before the `return`
abbrev pub core_firsts : ℕ → Scope → List ItemTree → Option (List CStmt)
core_firsts unit scope [] = Some []
core_firsts unit scope (first ∷ others) = both (core_first unit scope first) (core_firsts unit scope others) (λ one more. one ∷ more)

-- the last of a list that isn't empty, and those before it
abbrev pub last_of : {A : Type 0} → A → List A → A
last_of first [] = first
last_of first (next ∷ others) = last_of next others

abbrev pub before_last : {A : Type 0} → A → List A → List A
before_last first [] = []
before_last first (next ∷ others) = first ∷ before_last next others

-- the statements of the body: the last is the `return`
abbrev pub core_stmts : ℕ → Scope → List ItemTree → Option (List CStmt)
core_stmts unit scope [] = None
core_stmts unit scope (first ∷ others) =
    both (core_firsts unit scope (before_last first others)) (core_last unit scope (last_of first others)) (λ firsts last. firsts ++ last ∷ [])

-- ---- declarations (6.7, 6.9)

-- one specifier alone, which passes a test
abbrev pub is_only : (SpecTree → Bool) → SpecTrees → Bool
is_only test tree.no_specs = false
is_only test (tree.more_specs one tree.no_specs) = test one
is_only test (tree.more_specs one (tree.more_specs other others)) = false

abbrev pub is_int_word : SpecTree → Bool
is_int_word tree.Int = true
is_int_word tree.Void = false

abbrev pub is_void_word : SpecTree → Bool
is_void_word tree.Int = false
is_void_word tree.Void = true

-- the specifier `int`, alone, and `void`, alone
abbrev pub is_int : SpecsTree → Bool
is_int (tree.Specs list lines) = is_only is_int_word list

abbrev pub is_void : SpecsTree → Bool
is_void (tree.Specs list lines) = is_only is_void_word list

-- one parameter, without a name, whose specifiers pass a test
abbrev pub is_missing : DeclaratorTree → Bool
is_missing tree.Missing = true
is_missing (tree.Identifier name lines) = false
is_missing (tree.Function of list lines) = false

abbrev pub param_is : (SpecsTree → Bool) → ParamTree → Bool
param_is test (tree.Param specs declarator) = is_missing declarator && test specs

abbrev pub is_only_param : (SpecsTree → Bool) → ParamTrees → Bool
is_only_param test tree.no_params = false
is_only_param test (tree.more_params one tree.no_params) = param_is test one
is_only_param test (tree.more_params one (tree.more_params other others)) = false

-- the parameters of `putchar`, `(int)`, and those of `main`, `(void)`
abbrev pub takes_int : ParamTrees → Bool
takes_int = is_only_param is_int

abbrev pub takes_nothing : ParamTrees → Bool
takes_nothing = is_only_param is_void

-- a declarator of a function with a name, whose parameters pass a test
abbrev pub declares_function : List ℕ → (ParamTrees → Bool) → DeclaratorTree → Bool
declares_function name takes (tree.Function (tree.Identifier declared lines) params own) = bytes_eq declared name && takes params
declares_function name takes _ = false

-- the declaration `int putchar(int);`
abbrev pub is_bare : Option InitialiserTree → Bool
is_bare None = true
is_bare (Some init) = false

abbrev pub lists_putchar : List InitDeclaratorTree → Bool
lists_putchar (one ∷ []) = is_bare one.init && declares_function putchar_name takes_int one.declarator
lists_putchar _ = false

abbrev pub declares_putchar : ExternalTree → Bool
declares_putchar (tree.Declaration d) = is_int d.specs && lists_putchar d.list
declares_putchar (tree.Definition specs declarator body lines) = false

-- the puts of an object's initialiser: none, or a constant of type `int` (6.7.8)
abbrev pub put_of : Place → ℤ → CPut
put_of place value = put (record { byte = 0; bit = 0; width = 0 }) int_type (expr int_type place (whole value))

abbrev pub puts_of : ℕ → Option InitialiserTree → Option (List CPut)
puts_of unit None = Some []
puts_of unit (Some (tree.ExprInitialiser (tree.Number value type lines))) =
    if is_int_constant value type then Some (put_of (place_in unit lines) (pos value) ∷ []) else None
puts_of unit (Some (tree.ExprInitialiser _)) = None

-- a name that isn't declared yet
abbrev pub new_name : Scope → DeclaratorTree → Option (List ℕ)
new_name scope (tree.Identifier name lines) = if is_declared name scope then None else Some name
new_name scope _ = None

-- an object of type `int` with external linkage: its declaration is a definition, tentative where it has no
-- initialiser (6.9.2)
abbrev pub object_of : ℕ → Scope → List ℕ → List CPut → CObject
object_of unit scope name puts = record {
  object = length scope.objects;
  unit = unit;
  name = Some name;
  is_text = false;
  type = int_type;
  linkage = External;
  puts = Some puts;
}

-- the object that a declaration declares: `int x;` or `int x = N;`
abbrev pub listed_object : ℕ → Scope → List InitDeclaratorTree → Option CObject
listed_object unit scope (one ∷ []) = both (new_name scope one.declarator) (puts_of unit one.init) (object_of unit scope)
listed_object unit scope _ = None

abbrev pub declared_object : ℕ → Scope → DeclTree → Option CObject
declared_object unit scope d = if is_int d.specs then listed_object unit scope d.list else None

-- the scope behind an object's declaration
abbrev pub name_or_empty : Option (List ℕ) → List ℕ
name_or_empty None = []
name_or_empty (Some name) = name

abbrev pub with_object : Scope → CObject → Scope
with_object scope one = record { objects = scope.objects ++ name_or_empty one.name ∷ []; has_putchar = scope.has_putchar }

-- ---- the unit

-- the types of the two functions
abbrev pub putchar_type : CTy
putchar_type = ty (function int_type (listed (more_types int_type no_types)) false) false

abbrev pub main_type : CTy
main_type = ty (function int_type (listed no_types) false) false

abbrev pub putchar_outer : COuter
putchar_outer = record { function = 0; name = putchar_name; type = putchar_type }

-- the number of `main`: functions are numbered in the order of their first declarations
abbrev pub main_number : Bool → ℕ
main_number true = 1
main_number false = 0

abbrev pub main_function : ℕ → Bool → CStmt → CFun
main_function unit has_putchar body = record {
  function = main_number has_putchar;
  name = main_name;
  unit = unit;
  linkage = External;
  type = main_type;
  params = [];
  body = body;
}

-- the body of `main`, a block
abbrev pub main_body : ℕ → Scope → StmtTree → Option CStmt
main_body unit scope (tree.Block items lines) = option_map (λ stmts. stmt (place_in unit lines) [] (block (stmts_of stmts))) (core_stmts unit scope (items_in items))
main_body unit scope _ = None

-- the definition `int main(void) { .. }`
abbrev pub core_main : ℕ → Scope → SpecsTree → DeclaratorTree → StmtTree → Option CFun
core_main unit scope specs declarator body =
    if is_int specs && declares_function main_name takes_nothing declarator
    then option_map (main_function unit scope.has_putchar) (main_body unit scope body)
    else None

abbrev pub core_function : ℕ → Scope → ExternalTree → Option CFun
core_function unit scope (tree.Definition specs declarator body lines) = core_main unit scope specs declarator body
core_function unit scope (tree.Declaration d) = None

-- ---- objects in order

abbrev pub core_object : ℕ → Scope → ExternalTree → Option CObject
core_object unit scope (tree.Declaration d) = declared_object unit scope d
core_object unit scope (tree.Definition specs declarator body lines) = None

-- an object, and those that are declared behind it
abbrev pub behind : Option CObject → (CObject → Option (List CObject)) → Option (List CObject)
behind None others = None
behind (Some one) others = option_map (λ more. one ∷ more) (others one)

abbrev pub core_objects : ℕ → Scope → List ExternalTree → Option (List CObject)
core_objects unit scope [] = Some []
core_objects unit scope (part ∷ others) = behind (core_object unit scope part) (λ one. core_objects unit (with_object scope one) others)

-- the scope behind all these objects
abbrev pub scope_behind : Scope → List CObject → Scope
scope_behind scope [] = scope
scope_behind scope (one ∷ others) = scope_behind (with_object scope one) others

-- objects, and then the function `main`
abbrev pub then_main : ℕ → Scope → ExternalTree → List CObject → Option (List CObject × CFun)
then_main unit scope part objects = option_map (λ main. (objects, main)) (core_function unit (scope_behind scope objects) part)

abbrev pub and_main : ℕ → Scope → ExternalTree → Option (List CObject) → Option (List CObject × CFun)
and_main unit scope part None = None
and_main unit scope part (Some objects) = then_main unit scope part objects

-- no records and no enumerated types
abbrev pub no_core_types : CTypes
no_core_types = record { records = []; enums = []; record_units = []; enum_units = [] }

-- the external functions: `putchar`, where it is declared
abbrev pub externals_of : Bool → List COuter
externals_of true = putchar_outer ∷ []
externals_of false = []

abbrev pub program_with : Bool → List CObject × CFun → CProgram
program_with has_putchar parts = record {
  types = no_core_types;
  objects = parts.0;
  functions = parts.1 ∷ [];
  externals = externals_of has_putchar;
}

abbrev pub no_scope : Bool → Scope
no_scope has_putchar = record { objects = []; has_putchar = has_putchar }

-- the program of objects, and of the function `main` behind them
abbrev pub parted : ℕ → Bool → List ExternalTree → ExternalTree → Option CProgram
parted unit has_putchar firsts last = option_map (program_with has_putchar) (and_main unit (no_scope has_putchar) last (core_objects unit (no_scope has_putchar) firsts))

-- the program of a unit's parts behind the declaration of `putchar`, if it has one
abbrev pub program_behind : ℕ → Bool → List ExternalTree → Option CProgram
program_behind unit has_putchar [] = None
program_behind unit has_putchar (first ∷ others) = parted unit has_putchar (before_last first others) (last_of first others)

-- the parts of a unit, the first of which may be the declaration of `putchar`
abbrev pub program_of_parts : ℕ → List ExternalTree → Option CProgram
program_of_parts unit [] = None
program_of_parts unit (first ∷ others) =
    if declares_putchar first then program_behind unit true others else program_behind unit false (first ∷ others)

-- the typed program of a unit with a number
abbrev pub core_of : ℕ → UnitTree → Option CProgram
core_of unit whole_unit = program_of_parts unit whole_unit.parts
