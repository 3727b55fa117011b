-- Worked units: the bodies of typed functions, and the tentative definitions that are left.
use Rattle.std.specs.Prelude.{◌≡◌, ℕ, pos, false, List, [], ◌∷◌, map, None, Some, codes}
use mathlib.Core.Path.{refl}
use Rattle.cr_base.specs.declared.refusal.Place.{Place as TextPlace}
use Rattle.cx_lex.specs.declared.token.Keyword.TheVariants as keyword
use Rattle.cx_lex.specs.declared.token.Ty0.TheVariants as ty0
use Rattle.cx_tree.specs.Trees as t
use Rattle.cx_tree.specs.Trees.{UnitTree}
use Rattle.cx_core.specs.Layouts.{layouts_of}
use Rattle.cx_core.specs.Conversions.{same_basic}
use Rattle.cx_core.specs.ValidTypes.{holds_const}
use Rattle.cx_rules.specs.Declare.{linkage_of, clashes, with_declaration, with_content, with_head, unit_of}
use Rattle.cx_rules.specs.Initial.{char_type, landing, puts_of}
use Rattle.cx_rules.specs.Operands.{constant_of, is_null_constant}
use Rattle.cx_rules.specs.Pairs.{pairing, is_assignable}
use Rattle.cx_rules.specs.Readings.{CChecked, stops, fine, check_gives, check_chain, check_here, check_becomes, check_look}
use Rattle.cx_rules.specs.Rules.{breaks, node_rules, rule_at}
use Rattle.cx_rules.specs.Shapes.{same_key, specs_type}
use Rattle.cx_rules.specs.Pieces.{unary_of, binary_of, assignment_of}
use Rattle.cx_core.specs.Trees.{CUnit, CExpr, expr, whole, convert, call, no_exprs, more_exprs, CStmt, stmt, block, returns, no_stmts, more_stmts}
use Rattle.cx_rules.specs.Types.{int_type}
use Rattle.cx_rules.specs.Scope.{new_scope}
use Rattle.cx_rules.specs.UnitWalk.{tentative_things}
use Rattle.cx_rules.specs.Units.{check_unit}

-- ---- bodies

abbrev bodies_in : CChecked CUnit → List CStmt
bodies_in (stops refusal) = []
bodies_in (fine unit scope) = map (λ one. one.body) unit.functions

abbrev bodies : UnitTree → List CStmt
bodies tree = bodies_in (check_unit tree (new_scope 0))

abbrev here : TextPlace
here = record { unit = 0; line = 1 }

-- `{ return VALUE; }` on line 1
abbrev returning : CExpr → CStmt
returning value = stmt here [] (block (more_stmts (stmt here [] (returns (Some value))) no_stmts))

-- 1000 as a `char`
abbrev converted : CExpr
converted = expr char_type here (convert (expr int_type here (whole (pos 1000))))

-- `char f(void) { return 1000; }`: the value is converted to the type of the function (6.8.6.4p3)
converted_result : bodies (record { parts = (t.Defined (record { specs = (t.more_specs (t.Key keyword.Char (1 ∷ [])) t.no_specs); declarator = (t.Function (t.Identifier (codes "f") (1 ∷ [])) (t.more_params (t.Param (t.more_specs (t.Key keyword.Void (1 ∷ [])) t.no_specs) t.Missing []) t.no_params) false (1 ∷ 1 ∷ [])); body = t.Block (t.more_items (t.Statement (t.Return (t.some_expr (t.Number 1000 ty0.Int (1 ∷ []))) (1 ∷ 1 ∷ []))) t.no_items) (1 ∷ 1 ∷ []); lines = [] })) ∷ []; lines = [] }) ≡ returning converted ∷ []
unfolding layouts_of same_basic holds_const linkage_of clashes with_declaration with_content with_head unit_of landing puts_of constant_of is_null_constant pairing is_assignable check_gives check_chain check_here check_becomes check_look breaks node_rules rule_at same_key specs_type unary_of binary_of assignment_of
converted_result = refl

-- `int f(char); int main(void) { return f(1000); }`: the argument is converted to the type of the parameter (6.5.2.2p7)
converted_argument : bodies (record { parts = (t.Declaration (record { specs = (t.more_specs (t.Key keyword.Int (1 ∷ [])) t.no_specs); list = record { declarator = (t.Function (t.Identifier (codes "f") (1 ∷ [])) (t.more_params (t.Param (t.more_specs (t.Key keyword.Char (1 ∷ [])) t.no_specs) t.Missing []) t.no_params) false (1 ∷ 1 ∷ [])); init = None; lines = [] } ∷ []; lines = (1 ∷ []) })) ∷ (t.Defined (record { specs = (t.more_specs (t.Key keyword.Int (1 ∷ [])) t.no_specs); declarator = (t.Function (t.Identifier (codes "main") (1 ∷ [])) (t.more_params (t.Param (t.more_specs (t.Key keyword.Void (1 ∷ [])) t.no_specs) t.Missing []) t.no_params) false (1 ∷ 1 ∷ [])); body = t.Block (t.more_items (t.Statement (t.Return (t.some_expr (t.Call (t.Name (codes "f") (1 ∷ [])) (t.more_exprs (t.Number 1000 ty0.Int (1 ∷ [])) t.no_exprs) (1 ∷ 1 ∷ []))) (1 ∷ 1 ∷ []))) t.no_items) (1 ∷ 1 ∷ []); lines = [] })) ∷ []; lines = [] }) ≡ returning (expr int_type here (call 0 (more_exprs converted no_exprs))) ∷ []
unfolding layouts_of same_basic holds_const linkage_of clashes with_declaration with_content with_head unit_of landing puts_of constant_of is_null_constant pairing is_assignable check_gives check_chain check_here check_becomes check_look breaks node_rules rule_at same_key specs_type unary_of binary_of assignment_of
converted_argument = refl

-- ---- tentative definitions

abbrev left_in : CChecked CUnit → List (List ℕ)
left_in (stops refusal) = []
left_in (fine unit scope) = map (λ one. one.name) (tentative_things scope.things)

abbrev left : UnitTree → List (List ℕ)
left tree = left_in (check_unit tree (new_scope 0))

-- `int x; int x = 1; int y;`: the tentative definition of `x` is none beside its definition (6.9.2p2)
tentative_beside_a_definition : left (record { parts = (t.Declaration (record { specs = (t.more_specs (t.Key keyword.Int (1 ∷ [])) t.no_specs); list = record { declarator = (t.Identifier (codes "x") (1 ∷ [])); init = None; lines = [] } ∷ []; lines = (1 ∷ []) })) ∷ (t.Declaration (record { specs = (t.more_specs (t.Key keyword.Int (1 ∷ [])) t.no_specs); list = record { declarator = (t.Identifier (codes "x") (1 ∷ [])); init = (Some (t.Single (t.Number 1 ty0.Int (1 ∷ [])))); lines = [] } ∷ []; lines = (1 ∷ []) })) ∷ (t.Declaration (record { specs = (t.more_specs (t.Key keyword.Int (1 ∷ [])) t.no_specs); list = record { declarator = (t.Identifier (codes "y") (1 ∷ [])); init = None; lines = [] } ∷ []; lines = (1 ∷ []) })) ∷ []; lines = [] }) ≡ codes "y" ∷ []
unfolding layouts_of same_basic holds_const linkage_of clashes with_declaration with_content with_head unit_of landing puts_of constant_of is_null_constant pairing is_assignable check_gives check_chain check_here check_becomes check_look breaks node_rules rule_at same_key specs_type unary_of binary_of assignment_of
tentative_beside_a_definition = refl
