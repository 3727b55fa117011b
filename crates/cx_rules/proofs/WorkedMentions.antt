-- Worked units: what typed units mention, in text order, and the types of their objects.
use Rattle.std.specs.Prelude.{◌≡◌, ℕ, true, false, List, [], ◌∷◌, map, None, Some, codes}
use mathlib.Core.Path.{refl}
use Rattle.cx_lex.specs.declared.token.Keyword.TheVariants as keyword
use Rattle.cx_lex.specs.declared.token.Punct.TheVariants as punct
use Rattle.cx_lex.specs.declared.token.Ty0.TheVariants as ty0
use Rattle.cx_tree.specs.Trees as t
use Rattle.cx_tree.specs.Trees.{UnitTree}
use Rattle.cx_core.specs.Layouts.{layouts_of}
use Rattle.cx_core.specs.Conversions.{same_basic}
use Rattle.cx_core.specs.ValidTypes.{holds_const}
use Rattle.cx_rules.specs.Declare.{linkage_of, clashes, with_declaration, with_content, with_head, unit_of}
use Rattle.cx_rules.specs.Initial.{char_type, landing, puts_of}
use Rattle.cx_rules.specs.Operands.{constant_of, is_null_constant}
use Rattle.cx_rules.specs.Pairs.{pairing, is_assignable}
use Rattle.cx_rules.specs.Readings.{CChecked, stops, fine, check_gives, check_chain, check_here, check_becomes, check_look}
use Rattle.cx_rules.specs.Rules.{breaks, node_rules, rule_at}
use Rattle.cx_rules.specs.Shapes.{same_key, specs_type}
use Rattle.cx_rules.specs.Pieces.{unary_of, binary_of, assignment_of}
use Rattle.cx_core.specs.Trees.{CUnit, CMention, CDoes, declares, defines, calls, uses, ty, CTyForm, void, basic, enum_type, pointer, array, function, unlisted, listed, no_types, more_types, form_of_type}
use Rattle.cx_core.specs.declared.ty.Basic.TheVariants.{Int, Unsigned}
use Rattle.cx_rules.specs.Types.{int_type, difference_type}
use Rattle.cx_rules.specs.Scope.{new_scope}
use Rattle.cx_rules.specs.Units.{check_unit}

-- a name that is mentioned, and what is done with it
record CTold : Type 0 where
  name : List ℕ
  does : CDoes

abbrev told : CMention → CTold
told one = record { name = one.name; does = one.does }

abbrev told_in : CChecked CUnit → List CTold
told_in (stops refusal) = []
told_in (fine unit scope) = map told unit.mentions

abbrev mentions : UnitTree → List CTold
mentions tree = told_in (check_unit tree (new_scope 0))

abbrev forms_in : CChecked CUnit → List CTyForm
forms_in (stops refusal) = []
forms_in (fine unit scope) = map (λ one. form_of_type one.type) unit.objects

abbrev forms : UnitTree → List CTyForm
forms tree = forms_in (check_unit tree (new_scope 0))

-- `int f(int, ...); int g(void); int x; int main(void) { return f(x, g(), 2l) + sizeof(x) + sizeof f(1); }`
mentions_in_order : mentions (record { parts = (t.Declaration (record { specs = (t.more_specs (t.Key keyword.Int (1 ∷ [])) t.no_specs); list = record { declarator = (t.Function (t.Identifier (codes "f") (1 ∷ [])) (t.more_params (t.Param (t.more_specs (t.Key keyword.Int (1 ∷ [])) t.no_specs) t.Missing []) t.no_params) true (1 ∷ 1 ∷ [])); init = None; lines = [] } ∷ []; lines = (1 ∷ []) })) ∷ (t.Declaration (record { specs = (t.more_specs (t.Key keyword.Int (1 ∷ [])) t.no_specs); list = record { declarator = (t.Function (t.Identifier (codes "g") (1 ∷ [])) (t.more_params (t.Param (t.more_specs (t.Key keyword.Void (1 ∷ [])) t.no_specs) t.Missing []) t.no_params) false (1 ∷ 1 ∷ [])); init = None; lines = [] } ∷ []; lines = (1 ∷ []) })) ∷ (t.Declaration (record { specs = (t.more_specs (t.Key keyword.Int (1 ∷ [])) t.no_specs); list = record { declarator = (t.Identifier (codes "x") (1 ∷ [])); init = None; lines = [] } ∷ []; lines = (1 ∷ []) })) ∷ (t.Defined (record { specs = (t.more_specs (t.Key keyword.Int (1 ∷ [])) t.no_specs); declarator = (t.Function (t.Identifier (codes "main") (1 ∷ [])) (t.more_params (t.Param (t.more_specs (t.Key keyword.Void (1 ∷ [])) t.no_specs) t.Missing []) t.no_params) false (1 ∷ 1 ∷ [])); body = t.Block (t.more_items (t.Statement (t.Return (t.some_expr (t.Binary (t.Binary (t.Call (t.Name (codes "f") (1 ∷ [])) (t.more_exprs (t.Name (codes "x") (1 ∷ [])) (t.more_exprs (t.Call (t.Name (codes "g") (1 ∷ [])) t.no_exprs (1 ∷ 1 ∷ [])) (t.more_exprs (t.Number 2 ty0.Long (1 ∷ [])) t.no_exprs))) (1 ∷ 1 ∷ [])) punct.Plus (t.SizeofExpr (t.Name (codes "x") (1 ∷ [])) (1 ∷ [])) (1 ∷ [])) punct.Plus (t.SizeofExpr (t.Call (t.Name (codes "f") (1 ∷ [])) (t.more_exprs (t.Number 1 ty0.Int (1 ∷ [])) t.no_exprs) (1 ∷ 1 ∷ [])) (1 ∷ [])) (1 ∷ []))) (1 ∷ 1 ∷ []))) t.no_items) (1 ∷ 1 ∷ []); lines = [] })) ∷ []; lines = [] }) ≡ record { name = codes "f"; does = declares } ∷ record { name = codes "g"; does = declares } ∷ record { name = codes "x"; does = defines } ∷ record { name = codes "main"; does = defines } ∷ record { name = codes "f"; does = calls (int_type ∷ difference_type ∷ []) } ∷ record { name = codes "x"; does = uses } ∷ record { name = codes "g"; does = calls [] } ∷ []
unfolding layouts_of same_basic holds_const linkage_of clashes with_declaration with_content with_head unit_of landing puts_of constant_of is_null_constant pairing is_assignable check_gives check_chain check_here check_becomes check_look breaks node_rules rule_at same_key specs_type unary_of binary_of assignment_of
mentions_in_order = refl

-- `int f(void); static int g(void) { return 0; } int main(void) { int (*p)(void) = f; p = g; return p(); }`
mentions_of_pointers : mentions (record { parts = (t.Declaration (record { specs = (t.more_specs (t.Key keyword.Int (1 ∷ [])) t.no_specs); list = record { declarator = (t.Function (t.Identifier (codes "f") (1 ∷ [])) (t.more_params (t.Param (t.more_specs (t.Key keyword.Void (1 ∷ [])) t.no_specs) t.Missing []) t.no_params) false (1 ∷ 1 ∷ [])); init = None; lines = [] } ∷ []; lines = (1 ∷ []) })) ∷ (t.Defined (record { specs = (t.more_specs (t.Key keyword.Static (1 ∷ [])) (t.more_specs (t.Key keyword.Int (1 ∷ [])) t.no_specs)); declarator = (t.Function (t.Identifier (codes "g") (1 ∷ [])) (t.more_params (t.Param (t.more_specs (t.Key keyword.Void (1 ∷ [])) t.no_specs) t.Missing []) t.no_params) false (1 ∷ 1 ∷ [])); body = t.Block (t.more_items (t.Statement (t.Return (t.some_expr (t.Number 0 ty0.Int (1 ∷ []))) (1 ∷ 1 ∷ []))) t.no_items) (1 ∷ 1 ∷ []); lines = [] })) ∷ (t.Defined (record { specs = (t.more_specs (t.Key keyword.Int (1 ∷ [])) t.no_specs); declarator = (t.Function (t.Identifier (codes "main") (1 ∷ [])) (t.more_params (t.Param (t.more_specs (t.Key keyword.Void (1 ∷ [])) t.no_specs) t.Missing []) t.no_params) false (1 ∷ 1 ∷ [])); body = t.Block (t.more_items (t.Declared (record { specs = (t.more_specs (t.Key keyword.Int (1 ∷ [])) t.no_specs); list = record { declarator = (t.Function (t.Group (t.Pointer [] (t.Identifier (codes "p") (1 ∷ [])) (1 ∷ [])) (1 ∷ 1 ∷ [])) (t.more_params (t.Param (t.more_specs (t.Key keyword.Void (1 ∷ [])) t.no_specs) t.Missing []) t.no_params) false (1 ∷ 1 ∷ [])); init = (Some (t.Single (t.Name (codes "f") (1 ∷ [])))); lines = [] } ∷ []; lines = (1 ∷ []) })) (t.more_items (t.Statement (t.ExprStmt (t.some_expr (t.Assign (t.Name (codes "p") (1 ∷ [])) punct.Equal (t.Name (codes "g") (1 ∷ [])) (1 ∷ []))) (1 ∷ []))) (t.more_items (t.Statement (t.Return (t.some_expr (t.Call (t.Name (codes "p") (1 ∷ [])) t.no_exprs (1 ∷ 1 ∷ []))) (1 ∷ 1 ∷ []))) t.no_items))) (1 ∷ 1 ∷ []); lines = [] })) ∷ []; lines = [] }) ≡ record { name = codes "f"; does = declares } ∷ record { name = codes "g"; does = defines } ∷ record { name = codes "main"; does = defines } ∷ record { name = codes "f"; does = uses } ∷ record { name = codes "g"; does = uses } ∷ []
unfolding layouts_of same_basic holds_const linkage_of clashes with_declaration with_content with_head unit_of landing puts_of constant_of is_null_constant pairing is_assignable check_gives check_chain check_here check_becomes check_look breaks node_rules rule_at same_key specs_type unary_of binary_of assignment_of
mentions_of_pointers = refl

-- `extern int x; static int y; int z = 1; int main(void) { extern int x; return x + y + z; }`
mentions_of_objects : mentions (record { parts = (t.Declaration (record { specs = (t.more_specs (t.Key keyword.Extern (1 ∷ [])) (t.more_specs (t.Key keyword.Int (1 ∷ [])) t.no_specs)); list = record { declarator = (t.Identifier (codes "x") (1 ∷ [])); init = None; lines = [] } ∷ []; lines = (1 ∷ []) })) ∷ (t.Declaration (record { specs = (t.more_specs (t.Key keyword.Static (1 ∷ [])) (t.more_specs (t.Key keyword.Int (1 ∷ [])) t.no_specs)); list = record { declarator = (t.Identifier (codes "y") (1 ∷ [])); init = None; lines = [] } ∷ []; lines = (1 ∷ []) })) ∷ (t.Declaration (record { specs = (t.more_specs (t.Key keyword.Int (1 ∷ [])) t.no_specs); list = record { declarator = (t.Identifier (codes "z") (1 ∷ [])); init = (Some (t.Single (t.Number 1 ty0.Int (1 ∷ [])))); lines = [] } ∷ []; lines = (1 ∷ []) })) ∷ (t.Defined (record { specs = (t.more_specs (t.Key keyword.Int (1 ∷ [])) t.no_specs); declarator = (t.Function (t.Identifier (codes "main") (1 ∷ [])) (t.more_params (t.Param (t.more_specs (t.Key keyword.Void (1 ∷ [])) t.no_specs) t.Missing []) t.no_params) false (1 ∷ 1 ∷ [])); body = t.Block (t.more_items (t.Declared (record { specs = (t.more_specs (t.Key keyword.Extern (1 ∷ [])) (t.more_specs (t.Key keyword.Int (1 ∷ [])) t.no_specs)); list = record { declarator = (t.Identifier (codes "x") (1 ∷ [])); init = None; lines = [] } ∷ []; lines = (1 ∷ []) })) (t.more_items (t.Statement (t.Return (t.some_expr (t.Binary (t.Binary (t.Name (codes "x") (1 ∷ [])) punct.Plus (t.Name (codes "y") (1 ∷ [])) (1 ∷ [])) punct.Plus (t.Name (codes "z") (1 ∷ [])) (1 ∷ []))) (1 ∷ 1 ∷ []))) t.no_items)) (1 ∷ 1 ∷ []); lines = [] })) ∷ []; lines = [] }) ≡ record { name = codes "x"; does = declares } ∷ record { name = codes "z"; does = defines } ∷ record { name = codes "main"; does = defines } ∷ record { name = codes "x"; does = declares } ∷ record { name = codes "x"; does = uses } ∷ record { name = codes "z"; does = uses } ∷ []
unfolding layouts_of same_basic holds_const linkage_of clashes with_declaration with_content with_head unit_of landing puts_of constant_of is_null_constant pairing is_assignable check_gives check_chain check_here check_becomes check_look breaks node_rules rule_at same_key specs_type unary_of binary_of assignment_of
mentions_of_objects = refl

-- `int a[];`
tentative_has_one_element : forms (record { parts = (t.Declaration (record { specs = (t.more_specs (t.Key keyword.Int (1 ∷ [])) t.no_specs); list = record { declarator = (t.Array (t.Identifier (codes "a") (1 ∷ [])) (t.Unsized []) (1 ∷ 1 ∷ [])); init = None; lines = [] } ∷ []; lines = (1 ∷ []) })) ∷ []; lines = [] }) ≡ (array int_type (Some 1)) ∷ []
unfolding layouts_of same_basic holds_const linkage_of clashes with_declaration with_content with_head unit_of landing puts_of constant_of is_null_constant pairing is_assignable check_gives check_chain check_here check_becomes check_look breaks node_rules rule_at same_key specs_type unary_of binary_of assignment_of
tentative_has_one_element = refl

-- `int a[]; extern int a[3]; extern int (*p)[]; int (*p)[2];`
composite_of_both : forms (record { parts = (t.Declaration (record { specs = (t.more_specs (t.Key keyword.Int (1 ∷ [])) t.no_specs); list = record { declarator = (t.Array (t.Identifier (codes "a") (1 ∷ [])) (t.Unsized []) (1 ∷ 1 ∷ [])); init = None; lines = [] } ∷ []; lines = (1 ∷ []) })) ∷ (t.Declaration (record { specs = (t.more_specs (t.Key keyword.Extern (1 ∷ [])) (t.more_specs (t.Key keyword.Int (1 ∷ [])) t.no_specs)); list = record { declarator = (t.Array (t.Identifier (codes "a") (1 ∷ [])) (t.Length [] (t.Number 3 ty0.Int (1 ∷ []))) (1 ∷ 1 ∷ [])); init = None; lines = [] } ∷ []; lines = (1 ∷ []) })) ∷ (t.Declaration (record { specs = (t.more_specs (t.Key keyword.Extern (1 ∷ [])) (t.more_specs (t.Key keyword.Int (1 ∷ [])) t.no_specs)); list = record { declarator = (t.Array (t.Group (t.Pointer [] (t.Identifier (codes "p") (1 ∷ [])) (1 ∷ [])) (1 ∷ 1 ∷ [])) (t.Unsized []) (1 ∷ 1 ∷ [])); init = None; lines = [] } ∷ []; lines = (1 ∷ []) })) ∷ (t.Declaration (record { specs = (t.more_specs (t.Key keyword.Int (1 ∷ [])) t.no_specs); list = record { declarator = (t.Array (t.Group (t.Pointer [] (t.Identifier (codes "p") (1 ∷ [])) (1 ∷ [])) (1 ∷ 1 ∷ [])) (t.Length [] (t.Number 2 ty0.Int (1 ∷ []))) (1 ∷ 1 ∷ [])); init = None; lines = [] } ∷ []; lines = (1 ∷ []) })) ∷ []; lines = [] }) ≡ (array int_type (Some 3)) ∷ (pointer (ty (array int_type (Some 2)) false)) ∷ []
unfolding layouts_of same_basic holds_const linkage_of clashes with_declaration with_content with_head unit_of landing puts_of constant_of is_null_constant pairing is_assignable check_gives check_chain check_here check_becomes check_look breaks node_rules rule_at same_key specs_type unary_of binary_of assignment_of
composite_of_both = refl

-- `char *p = "a"; int x; int *q = (int[]){1, 2}; int y;`
literals_in_text_order : forms (record { parts = (t.Declaration (record { specs = (t.more_specs (t.Key keyword.Char (1 ∷ [])) t.no_specs); list = record { declarator = (t.Pointer [] (t.Identifier (codes "p") (1 ∷ [])) (1 ∷ [])); init = (Some (t.Single (t.Text ((codes "a") ∷ []) (1 ∷ [])))); lines = [] } ∷ []; lines = (1 ∷ []) })) ∷ (t.Declaration (record { specs = (t.more_specs (t.Key keyword.Int (1 ∷ [])) t.no_specs); list = record { declarator = (t.Identifier (codes "x") (1 ∷ [])); init = None; lines = [] } ∷ []; lines = (1 ∷ []) })) ∷ (t.Declaration (record { specs = (t.more_specs (t.Key keyword.Int (1 ∷ [])) t.no_specs); list = record { declarator = (t.Pointer [] (t.Identifier (codes "q") (1 ∷ [])) (1 ∷ [])); init = (Some (t.Single (t.Literal (t.TypeName (t.more_specs (t.Key keyword.Int (1 ∷ [])) t.no_specs) (t.Array t.Missing (t.Unsized []) (1 ∷ 1 ∷ [])) []) (t.InitialiserList (t.more_entries (t.Entry t.no_designators (t.Single (t.Number 1 ty0.Int (1 ∷ []))) []) (t.more_entries (t.Entry t.no_designators (t.Single (t.Number 2 ty0.Int (1 ∷ []))) []) t.no_entries)) false (1 ∷ 1 ∷ [])) (1 ∷ 1 ∷ [])))); lines = [] } ∷ []; lines = (1 ∷ []) })) ∷ (t.Declaration (record { specs = (t.more_specs (t.Key keyword.Int (1 ∷ [])) t.no_specs); list = record { declarator = (t.Identifier (codes "y") (1 ∷ [])); init = None; lines = [] } ∷ []; lines = (1 ∷ []) })) ∷ []; lines = [] }) ≡ (pointer char_type) ∷ (array char_type (Some 2)) ∷ (basic Int) ∷ (pointer int_type) ∷ (array int_type (Some 2)) ∷ (basic Int) ∷ []
unfolding layouts_of same_basic holds_const linkage_of clashes with_declaration with_content with_head unit_of landing puts_of constant_of is_null_constant pairing is_assignable check_gives check_chain check_here check_becomes check_look breaks node_rules rule_at same_key specs_type unary_of binary_of assignment_of
literals_in_text_order = refl

-- `int a[] = {1, [3] = 2}; char b[] = "abc";`
completed_by_initialiser : forms (record { parts = (t.Declaration (record { specs = (t.more_specs (t.Key keyword.Int (1 ∷ [])) t.no_specs); list = record { declarator = (t.Array (t.Identifier (codes "a") (1 ∷ [])) (t.Unsized []) (1 ∷ 1 ∷ [])); init = (Some (t.Braced (t.InitialiserList (t.more_entries (t.Entry t.no_designators (t.Single (t.Number 1 ty0.Int (1 ∷ []))) []) (t.more_entries (t.Entry (t.more_designators (t.Element (t.Number 3 ty0.Int (1 ∷ [])) (1 ∷ 1 ∷ [])) t.no_designators) (t.Single (t.Number 2 ty0.Int (1 ∷ []))) []) t.no_entries)) false (1 ∷ 1 ∷ [])))); lines = [] } ∷ []; lines = (1 ∷ []) })) ∷ (t.Declaration (record { specs = (t.more_specs (t.Key keyword.Char (1 ∷ [])) t.no_specs); list = record { declarator = (t.Array (t.Identifier (codes "b") (1 ∷ [])) (t.Unsized []) (1 ∷ 1 ∷ [])); init = (Some (t.Single (t.Text ((codes "abc") ∷ []) (1 ∷ [])))); lines = [] } ∷ []; lines = (1 ∷ []) })) ∷ []; lines = [] }) ≡ (array int_type (Some 4)) ∷ (array char_type (Some 4)) ∷ []
unfolding layouts_of same_basic holds_const linkage_of clashes with_declaration with_content with_head unit_of landing puts_of constant_of is_null_constant pairing is_assignable check_gives check_chain check_here check_becomes check_look breaks node_rules rule_at same_key specs_type unary_of binary_of assignment_of
completed_by_initialiser = refl

abbrev told_forms_in : CChecked CUnit → List CTyForm
told_forms_in (stops refusal) = []
told_forms_in (fine unit scope) = map (λ one. form_of_type one.type) unit.mentions

abbrev told_forms : UnitTree → List CTyForm
told_forms tree = told_forms_in (check_unit tree (new_scope 0))

-- `extern int a[]; extern int a[4];`
type_at_its_place : told_forms (record { parts = (t.Declaration (record { specs = (t.more_specs (t.Key keyword.Extern (1 ∷ [])) (t.more_specs (t.Key keyword.Int (1 ∷ [])) t.no_specs)); list = record { declarator = (t.Array (t.Identifier (codes "a") (1 ∷ [])) (t.Unsized []) (1 ∷ 1 ∷ [])); init = None; lines = [] } ∷ []; lines = (1 ∷ []) })) ∷ (t.Declaration (record { specs = (t.more_specs (t.Key keyword.Extern (1 ∷ [])) (t.more_specs (t.Key keyword.Int (1 ∷ [])) t.no_specs)); list = record { declarator = (t.Array (t.Identifier (codes "a") (1 ∷ [])) (t.Length [] (t.Number 4 ty0.Int (1 ∷ []))) (1 ∷ 1 ∷ [])); init = None; lines = [] } ∷ []; lines = (1 ∷ []) })) ∷ []; lines = [] }) ≡ (array int_type None) ∷ (array int_type (Some 4)) ∷ []
unfolding layouts_of same_basic holds_const linkage_of clashes with_declaration with_content with_head unit_of landing puts_of constant_of is_null_constant pairing is_assignable check_gives check_chain check_here check_becomes check_look breaks node_rules rule_at same_key specs_type unary_of binary_of assignment_of
type_at_its_place = refl

-- `extern int a[4]; extern int a[];`
type_of_both : told_forms (record { parts = (t.Declaration (record { specs = (t.more_specs (t.Key keyword.Extern (1 ∷ [])) (t.more_specs (t.Key keyword.Int (1 ∷ [])) t.no_specs)); list = record { declarator = (t.Array (t.Identifier (codes "a") (1 ∷ [])) (t.Length [] (t.Number 4 ty0.Int (1 ∷ []))) (1 ∷ 1 ∷ [])); init = None; lines = [] } ∷ []; lines = (1 ∷ []) })) ∷ (t.Declaration (record { specs = (t.more_specs (t.Key keyword.Extern (1 ∷ [])) (t.more_specs (t.Key keyword.Int (1 ∷ [])) t.no_specs)); list = record { declarator = (t.Array (t.Identifier (codes "a") (1 ∷ [])) (t.Unsized []) (1 ∷ 1 ∷ [])); init = None; lines = [] } ∷ []; lines = (1 ∷ []) })) ∷ []; lines = [] }) ≡ (array int_type (Some 4)) ∷ (array int_type (Some 4)) ∷ []
unfolding layouts_of same_basic holds_const linkage_of clashes with_declaration with_content with_head unit_of landing puts_of constant_of is_null_constant pairing is_assignable check_gives check_chain check_here check_becomes check_look breaks node_rules rule_at same_key specs_type unary_of binary_of assignment_of
type_of_both = refl

-- `int a[] = {1, [3] = 2};`
type_by_its_initialiser : told_forms (record { parts = (t.Declaration (record { specs = (t.more_specs (t.Key keyword.Int (1 ∷ [])) t.no_specs); list = record { declarator = (t.Array (t.Identifier (codes "a") (1 ∷ [])) (t.Unsized []) (1 ∷ 1 ∷ [])); init = (Some (t.Braced (t.InitialiserList (t.more_entries (t.Entry t.no_designators (t.Single (t.Number 1 ty0.Int (1 ∷ []))) []) (t.more_entries (t.Entry (t.more_designators (t.Element (t.Number 3 ty0.Int (1 ∷ [])) (1 ∷ 1 ∷ [])) t.no_designators) (t.Single (t.Number 2 ty0.Int (1 ∷ []))) []) t.no_entries)) false (1 ∷ 1 ∷ [])))); lines = [] } ∷ []; lines = (1 ∷ []) })) ∷ []; lines = [] }) ≡ (array int_type (Some 4)) ∷ []
unfolding layouts_of same_basic holds_const linkage_of clashes with_declaration with_content with_head unit_of landing puts_of constant_of is_null_constant pairing is_assignable check_gives check_chain check_here check_becomes check_look breaks node_rules rule_at same_key specs_type unary_of binary_of assignment_of
type_by_its_initialiser = refl

-- `int a[]; extern int a[];`
type_at_the_end : told_forms (record { parts = (t.Declaration (record { specs = (t.more_specs (t.Key keyword.Int (1 ∷ [])) t.no_specs); list = record { declarator = (t.Array (t.Identifier (codes "a") (1 ∷ [])) (t.Unsized []) (1 ∷ 1 ∷ [])); init = None; lines = [] } ∷ []; lines = (1 ∷ []) })) ∷ (t.Declaration (record { specs = (t.more_specs (t.Key keyword.Extern (1 ∷ [])) (t.more_specs (t.Key keyword.Int (1 ∷ [])) t.no_specs)); list = record { declarator = (t.Array (t.Identifier (codes "a") (1 ∷ [])) (t.Unsized []) (1 ∷ 1 ∷ [])); init = None; lines = [] } ∷ []; lines = (1 ∷ []) })) ∷ []; lines = [] }) ≡ (array int_type (Some 1)) ∷ (array int_type None) ∷ []
unfolding layouts_of same_basic holds_const linkage_of clashes with_declaration with_content with_head unit_of landing puts_of constant_of is_null_constant pairing is_assignable check_gives check_chain check_here check_becomes check_look breaks node_rules rule_at same_key specs_type unary_of binary_of assignment_of
type_at_the_end = refl

-- `int a[]; int a[4];`
type_that_a_later_one_completes : told_forms (record { parts = (t.Declaration (record { specs = (t.more_specs (t.Key keyword.Int (1 ∷ [])) t.no_specs); list = record { declarator = (t.Array (t.Identifier (codes "a") (1 ∷ [])) (t.Unsized []) (1 ∷ 1 ∷ [])); init = None; lines = [] } ∷ []; lines = (1 ∷ []) })) ∷ (t.Declaration (record { specs = (t.more_specs (t.Key keyword.Int (1 ∷ [])) t.no_specs); list = record { declarator = (t.Array (t.Identifier (codes "a") (1 ∷ [])) (t.Length [] (t.Number 4 ty0.Int (1 ∷ []))) (1 ∷ 1 ∷ [])); init = None; lines = [] } ∷ []; lines = (1 ∷ []) })) ∷ []; lines = [] }) ≡ (array int_type None) ∷ (array int_type (Some 4)) ∷ []
unfolding layouts_of same_basic holds_const linkage_of clashes with_declaration with_content with_head unit_of landing puts_of constant_of is_null_constant pairing is_assignable check_gives check_chain check_here check_becomes check_look breaks node_rules rule_at same_key specs_type unary_of binary_of assignment_of
type_that_a_later_one_completes = refl

-- `void f(void) { extern int (*p)(int); } int (*p)() = 0;`: a definition says the type that its initialiser gives, and the object has it
definition_says_its_own : told_forms (record { parts = (t.Defined (record { specs = (t.more_specs (t.Key keyword.Void (1 ∷ [])) t.no_specs); declarator = (t.Function (t.Identifier (codes "f") (1 ∷ [])) (t.more_params (t.Param (t.more_specs (t.Key keyword.Void (1 ∷ [])) t.no_specs) t.Missing []) t.no_params) false (1 ∷ 1 ∷ [])); body = t.Block (t.more_items (t.Declared (record { specs = (t.more_specs (t.Key keyword.Extern (1 ∷ [])) (t.more_specs (t.Key keyword.Int (1 ∷ [])) t.no_specs)); list = record { declarator = (t.Function (t.Group (t.Pointer [] (t.Identifier (codes "p") (1 ∷ [])) (1 ∷ [])) (1 ∷ 1 ∷ [])) (t.more_params (t.Param (t.more_specs (t.Key keyword.Int (1 ∷ [])) t.no_specs) t.Missing []) t.no_params) false (1 ∷ 1 ∷ [])); init = None; lines = [] } ∷ []; lines = (1 ∷ []) })) t.no_items) (1 ∷ 1 ∷ []); lines = [] })) ∷ (t.Declaration (record { specs = (t.more_specs (t.Key keyword.Int (1 ∷ [])) t.no_specs); list = record { declarator = (t.Identifiers (t.Group (t.Pointer [] (t.Identifier (codes "p") (1 ∷ [])) (1 ∷ [])) (1 ∷ 1 ∷ [])) [] (1 ∷ 1 ∷ [])); init = (Some (t.Single (t.Number 0 ty0.Int (1 ∷ [])))); lines = [] } ∷ []; lines = (1 ∷ []) })) ∷ []; lines = [] }) ≡ (function (ty void false) (listed no_types) false) ∷ (pointer (ty (function int_type (listed (more_types int_type no_types)) false) false)) ∷ (pointer (ty (function int_type unlisted false) false)) ∷ []
unfolding layouts_of same_basic holds_const linkage_of clashes with_declaration with_content with_head unit_of landing puts_of constant_of is_null_constant pairing is_assignable check_gives check_chain check_here check_becomes check_look breaks node_rules rule_at same_key specs_type unary_of binary_of assignment_of
definition_says_its_own = refl

-- `void f(void) { extern int (*p)(int); } int (*p)() = 0;`
object_has_its_own : forms (record { parts = (t.Defined (record { specs = (t.more_specs (t.Key keyword.Void (1 ∷ [])) t.no_specs); declarator = (t.Function (t.Identifier (codes "f") (1 ∷ [])) (t.more_params (t.Param (t.more_specs (t.Key keyword.Void (1 ∷ [])) t.no_specs) t.Missing []) t.no_params) false (1 ∷ 1 ∷ [])); body = t.Block (t.more_items (t.Declared (record { specs = (t.more_specs (t.Key keyword.Extern (1 ∷ [])) (t.more_specs (t.Key keyword.Int (1 ∷ [])) t.no_specs)); list = record { declarator = (t.Function (t.Group (t.Pointer [] (t.Identifier (codes "p") (1 ∷ [])) (1 ∷ [])) (1 ∷ 1 ∷ [])) (t.more_params (t.Param (t.more_specs (t.Key keyword.Int (1 ∷ [])) t.no_specs) t.Missing []) t.no_params) false (1 ∷ 1 ∷ [])); init = None; lines = [] } ∷ []; lines = (1 ∷ []) })) t.no_items) (1 ∷ 1 ∷ []); lines = [] })) ∷ (t.Declaration (record { specs = (t.more_specs (t.Key keyword.Int (1 ∷ [])) t.no_specs); list = record { declarator = (t.Identifiers (t.Group (t.Pointer [] (t.Identifier (codes "p") (1 ∷ [])) (1 ∷ [])) (1 ∷ 1 ∷ [])) [] (1 ∷ 1 ∷ [])); init = (Some (t.Single (t.Number 0 ty0.Int (1 ∷ [])))); lines = [] } ∷ []; lines = (1 ∷ []) })) ∷ []; lines = [] }) ≡ (pointer (ty (function int_type unlisted false) false)) ∷ []
unfolding layouts_of same_basic holds_const linkage_of clashes with_declaration with_content with_head unit_of landing puts_of constant_of is_null_constant pairing is_assignable check_gives check_chain check_here check_becomes check_look breaks node_rules rule_at same_key specs_type unary_of binary_of assignment_of
object_has_its_own = refl

-- `enum e { A }; unsigned x = 0; extern enum e x;`: a later declaration changes nothing of an object that is defined
told_once_more : told_forms (record { parts = (t.Declaration (record { specs = (t.more_specs (t.Enum (Some (codes "e")) (t.some_enumerator_list (t.more_enumerators (t.Enumerator (codes "A") t.no_expr (1 ∷ [])) t.no_enumerators)) false (1 ∷ 1 ∷ 1 ∷ 1 ∷ [])) t.no_specs); list = []; lines = (1 ∷ []) })) ∷ (t.Declaration (record { specs = (t.more_specs (t.Key keyword.Unsigned (1 ∷ [])) t.no_specs); list = record { declarator = (t.Identifier (codes "x") (1 ∷ [])); init = (Some (t.Single (t.Number 0 ty0.Int (1 ∷ [])))); lines = [] } ∷ []; lines = (1 ∷ []) })) ∷ (t.Declaration (record { specs = (t.more_specs (t.Key keyword.Extern (1 ∷ [])) (t.more_specs (t.Enum (Some (codes "e")) t.no_enumerator_list false (1 ∷ 1 ∷ [])) t.no_specs)); list = record { declarator = (t.Identifier (codes "x") (1 ∷ [])); init = None; lines = [] } ∷ []; lines = (1 ∷ []) })) ∷ []; lines = [] }) ≡ (basic Unsigned) ∷ (enum_type 0) ∷ []
unfolding layouts_of same_basic holds_const linkage_of clashes with_declaration with_content with_head unit_of landing puts_of constant_of is_null_constant pairing is_assignable check_gives check_chain check_here check_becomes check_look breaks node_rules rule_at same_key specs_type unary_of binary_of assignment_of
told_once_more = refl

-- `enum e { A }; unsigned x = 0; extern enum e x;`
object_keeps_its_type : forms (record { parts = (t.Declaration (record { specs = (t.more_specs (t.Enum (Some (codes "e")) (t.some_enumerator_list (t.more_enumerators (t.Enumerator (codes "A") t.no_expr (1 ∷ [])) t.no_enumerators)) false (1 ∷ 1 ∷ 1 ∷ 1 ∷ [])) t.no_specs); list = []; lines = (1 ∷ []) })) ∷ (t.Declaration (record { specs = (t.more_specs (t.Key keyword.Unsigned (1 ∷ [])) t.no_specs); list = record { declarator = (t.Identifier (codes "x") (1 ∷ [])); init = (Some (t.Single (t.Number 0 ty0.Int (1 ∷ [])))); lines = [] } ∷ []; lines = (1 ∷ []) })) ∷ (t.Declaration (record { specs = (t.more_specs (t.Key keyword.Extern (1 ∷ [])) (t.more_specs (t.Enum (Some (codes "e")) t.no_enumerator_list false (1 ∷ 1 ∷ [])) t.no_specs)); list = record { declarator = (t.Identifier (codes "x") (1 ∷ [])); init = None; lines = [] } ∷ []; lines = (1 ∷ []) })) ∷ []; lines = [] }) ≡ (basic Unsigned) ∷ []
unfolding layouts_of same_basic holds_const linkage_of clashes with_declaration with_content with_head unit_of landing puts_of constant_of is_null_constant pairing is_assignable check_gives check_chain check_here check_becomes check_look breaks node_rules rule_at same_key specs_type unary_of binary_of assignment_of
object_keeps_its_type = refl
