-- Worked examples that compute: the typed programs of units.
use Rattle.std.proofs.Common.{◌≡◌, ℕ, pos, false, List, [], ◌∷◌, Option, Some, None, codes, refl}
use Rattle.cr_base.specs.declared.refusal.Place.{Place}
use Rattle.straight_core.specs.declared.expr.Op2.{Op2}
use Rattle.straight_core.specs.declared.expr.Op2.TheVariants.{Add, Subtract}
use Rattle.straight_core.specs.declared.program.Linkage.TheVariants.{External}
use Rattle.straight_core.specs.Trees.{CTy, ty, void, int, function, listed, no_types, more_types, CExpr, expr, whole, object, load, convert, binary, assign, call, no_exprs, more_exprs, CStmt, stmt, block, expression, returns, no_stmts, more_stmts, CPut, put, CObject, CFun, COuter, CProgram}
use Rattle.straight_decl.specs.CoreOf.{core_of}
use Rattle.cx_lex.specs.declared.token.Punct.TheVariants as punct
use Rattle.cx_lex.specs.declared.token.Ty0.TheVariants as type
use Rattle.straight_tree.specs.Trees as tree
use Rattle.straight_tree.specs.Trees.{ExprTree, SpecsTree, DeclaratorTree, InitialiserTree, ItemTree, ItemTrees, ExternalTree, UnitTree}

-- ---- the parts of units

abbrev x_name : List ℕ
x_name = codes "x"

abbrev y_name : List ℕ
y_name = codes "y"

abbrev name_on : ℕ → List ℕ → ExprTree
name_on line name = tree.Name name (line ∷ [])

abbrev number_on : ℕ → ℕ → ExprTree
number_on line value = tree.Number value type.Int (line ∷ [])

abbrev int_on : ℕ → SpecsTree
int_on line = tree.Specs (tree.more_specs tree.Int tree.no_specs) (line ∷ [])

abbrev void_on : ℕ → SpecsTree
void_on line = tree.Specs (tree.more_specs tree.Void tree.no_specs) (line ∷ [])

-- `name(int)` or `name(void)`, on one line
abbrev function_on : ℕ → List ℕ → SpecsTree → DeclaratorTree
function_on line name param = tree.Function (tree.Identifier name (line ∷ [])) (tree.more_params (tree.Param param tree.Missing) tree.no_params) (line ∷ line ∷ [])

-- `int declarator;` or `int declarator = init;`, on one line
abbrev declared_on : ℕ → DeclaratorTree → Option InitialiserTree → List ℕ → ExternalTree
declared_on line declarator init equals = tree.Declaration (record {
  specs = int_on line;
  list = record { declarator = declarator; init = init; lines = equals } ∷ [];
  lines = line ∷ [];
})

-- `int putchar(int);`, `int name = value;` and `int name;`
abbrev putchar_on : ℕ → ExternalTree
putchar_on line = declared_on line (function_on line (codes "putchar") (int_on line)) None []

abbrev initialised_on : ℕ → List ℕ → ℕ → ExternalTree
initialised_on line name value = declared_on line (tree.Identifier name (line ∷ [])) (Some (tree.ExprInitialiser (number_on line value))) (line ∷ [])

abbrev tentative_on : ℕ → List ℕ → ExternalTree
tentative_on line name = declared_on line (tree.Identifier name (line ∷ [])) None []

abbrev return_on : ℕ → ExprTree → ItemTree
return_on line value = tree.StmtItem (tree.Return (Some value) (line ∷ line ∷ []))

-- `int main(void) { .. }`, whose braces stand on two lines
abbrev main_on : ℕ → ℕ → ItemTrees → ExternalTree
main_on line end items = tree.Definition (int_on line) (function_on line (codes "main") (void_on line)) (tree.Block items (line ∷ end ∷ [])) []

abbrev unit_with : List ExternalTree → UnitTree
unit_with parts = record { parts = parts; lines = [] }

-- ---- the parts of programs, in unit 7

abbrev int_type : CTy
int_type = ty int false

abbrev on : ℕ → Place
on line = record { unit = 7; line = line }

abbrev whole_on : ℕ → ℕ → CExpr
whole_on line value = expr int_type (on line) (whole (pos value))

abbrev object_on : ℕ → ℕ → CExpr
object_on line number = expr int_type (on line) (object number)

abbrev read_on : ℕ → ℕ → CExpr
read_on line number = expr int_type (on line) (load (object_on line number))

abbrev binary_on : ℕ → Op2 → CExpr → CExpr → CExpr
binary_on line op left right = expr int_type (on line) (binary op left right)

abbrev assign_on : ℕ → CExpr → CExpr → CExpr
assign_on line target value = expr int_type (on line) (assign target value)

abbrev call_on : ℕ → ℕ → CExpr → CExpr
call_on line number arg = expr int_type (on line) (call number (more_exprs arg no_exprs))

-- an expression statement, whose value is dropped
abbrev stmt_on : ℕ → CExpr → CStmt
stmt_on line value = stmt (on line) [] (expression (expr (ty void false) (on line) (convert value)))

abbrev given_on : ℕ → CExpr → CStmt
given_on line value = stmt (on line) [] (returns (Some value))

abbrev static_int : ℕ → List ℕ → List CPut → CObject
static_int number name puts = record {
  object = number;
  unit = 7;
  name = Some name;
  is_text = false;
  type = int_type;
  linkage = External;
  puts = Some puts;
}

abbrev main_is : ℕ → CStmt → CFun
main_is number body = record {
  function = number;
  name = codes "main";
  unit = 7;
  linkage = External;
  type = ty (function int_type (listed no_types) false) false;
  params = [];
  body = body;
}

abbrev putchar_is : ℕ → COuter
putchar_is number = record {
  function = number;
  name = codes "putchar";
  type = ty (function int_type (listed (more_types int_type no_types)) false) false;
}

abbrev program_is : List CObject → CFun → List COuter → CProgram
program_is objects main externals = record {
  types = record { records = []; enums = []; record_units = []; enum_units = [] };
  objects = objects;
  functions = main ∷ [];
  externals = externals;
}

-- ---- a straight program: functions and objects are numbered in the order of their declarations, and the place
-- of a node is that of its first token
--
--     int putchar(int);
--     int y;
--     int x = 60;
--     int main(void) {
--         x = x + putchar(x
--             + 5);
--         return (x - y);
--     }

abbrev straight : UnitTree
straight = unit_with
    (putchar_on 1
    ∷ tentative_on 2 y_name
    ∷ initialised_on 3 x_name 60
    ∷ main_on 4 8
    (tree.more_items (tree.StmtItem (tree.ExprStmt (Some (tree.Assign (name_on 5 x_name) punct.Equal
    (tree.Binary (name_on 5 x_name) punct.Plus
    (tree.Call (name_on 5 (codes "putchar")) (tree.more_exprs (tree.Binary (name_on 5 x_name) punct.Plus (number_on 6 5) (6 ∷ [])) tree.no_exprs) (5 ∷ 6 ∷ [])) (5 ∷ [])) (5 ∷ []))) (6 ∷ [])))
    (tree.more_items (return_on 7 (tree.Paren (tree.Binary (name_on 7 x_name) punct.Minus (name_on 7 y_name) (7 ∷ [])) (7 ∷ 7 ∷ [])))
    tree.no_items))
    ∷ [])

abbrev straight_program : CProgram
straight_program = program_is
    (static_int 0 y_name [] ∷ static_int 1 x_name (put (record { byte = 0; bit = 0; width = 0 }) int_type (whole_on 3 60) ∷ []) ∷ [])
    (main_is 1 (stmt (on 4) [] (block
    (more_stmts (stmt_on 5 (assign_on 5 (object_on 5 1) (binary_on 5 Add (read_on 5 1) (call_on 5 0 (binary_on 5 Add (read_on 5 1) (whole_on 6 5))))))
    (more_stmts (given_on 7 (binary_on 7 Subtract (read_on 7 1) (read_on 7 0)))
    no_stmts)))))
    (putchar_is 0 ∷ [])

straight_is_typed : core_of 7 straight ≡ Some straight_program
straight_is_typed = refl

-- ---- where `putchar` isn't declared, `main` is function 0, and a call of `putchar` isn't typed

abbrev main_alone : ExprTree → UnitTree
main_alone value = unit_with (main_on 1 1 (tree.more_items (return_on 1 value) tree.no_items) ∷ [])

main_is_typed : core_of 7 (main_alone (number_on 1 2147483647))
    ≡ Some (program_is [] (main_is 0 (stmt (on 1) [] (block (more_stmts (given_on 1 (whole_on 1 2147483647)) no_stmts)))) [])
main_is_typed = refl

call_is_refused : core_of 7 (main_alone (tree.Call (name_on 1 (codes "putchar")) (tree.more_exprs (number_on 1 5) tree.no_exprs) (1 ∷ 1 ∷ []))) ≡ None
call_is_refused = refl

-- ---- a name that isn't declared, and one that is declared twice

undeclared_is_refused : core_of 7 (main_alone (name_on 1 x_name)) ≡ None
undeclared_is_refused = refl

twice_is_refused : core_of 7 (unit_with (tentative_on 1 x_name ∷ initialised_on 2 x_name 1 ∷ main_on 3 3 (tree.more_items (return_on 3 (name_on 3 x_name)) tree.no_items) ∷ [])) ≡ None
twice_is_refused = refl
