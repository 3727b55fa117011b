-- Worked units for initialisers, literals and records in records: each breaks the rule that is named, at its line, or none.
use Rattle.std.specs.Prelude.{true, false, [], ◌∷◌, None, Some, codes}
use mathlib.Core.Path.{refl}
use Rattle.cr_base.specs.declared.rule.Rule.TheVariants as rule
use Rattle.cx_lex.specs.declared.token.Keyword.TheVariants as keyword
use Rattle.cx_lex.specs.declared.token.Punct.TheVariants as punct
use Rattle.cx_lex.specs.declared.token.Ty0.TheVariants as ty0
use Rattle.cx_tree.specs.Trees as t
use Rattle.cx_tree.specs.Trees.{UnitTree}
use Rattle.cx_core.specs.Layouts.{layouts_of}
use Rattle.cx_core.specs.Conversions.{same_basic}
use Rattle.cx_core.specs.ValidTypes.{holds_const}
use Rattle.cx_rules.specs.Declare.{linkage_of, clashes, with_declaration, with_content, with_head, unit_of}
use Rattle.cx_rules.specs.Initial.{landing, puts_of}
use Rattle.cx_rules.specs.Operands.{constant_of, is_null_constant}
use Rattle.cx_rules.specs.Pairs.{pairing, is_assignable}
use Rattle.cx_rules.specs.Readings.{check_gives, check_chain, check_here, check_becomes, check_look}
use Rattle.cx_rules.specs.Rules.{breaks, node_rules, rule_at}
use Rattle.cx_rules.specs.Shapes.{same_key, specs_type}
use Rattle.cx_rules.specs.Pieces.{unary_of, binary_of, assignment_of}
use Rattle.cx_rules.proofs.Worked.{is_refused, is_fine}

-- Overrides, constants and lists

-- `struct s { struct s { int a; } x; int b; };`
nested_completion : is_refused (record { parts = (t.Declaration (record { specs = (t.more_specs (t.Record false (Some (codes "s")) (t.some_members (t.more_member_decls (t.MemberDecl (t.more_specs (t.Record false (Some (codes "s")) (t.some_members (t.more_member_decls (t.MemberDecl (t.more_specs (t.Key keyword.Int (1 ∷ [])) t.no_specs) (t.more_member_declarators (t.MemberDeclarator (t.Identifier (codes "a") (1 ∷ [])) t.no_expr (1 ∷ [])) t.no_member_declarators) (1 ∷ [])) t.no_member_decls)) (1 ∷ 1 ∷ 1 ∷ [])) t.no_specs) (t.more_member_declarators (t.MemberDeclarator (t.Identifier (codes "x") (1 ∷ [])) t.no_expr (1 ∷ [])) t.no_member_declarators) (1 ∷ [])) (t.more_member_decls (t.MemberDecl (t.more_specs (t.Key keyword.Int (1 ∷ [])) t.no_specs) (t.more_member_declarators (t.MemberDeclarator (t.Identifier (codes "b") (1 ∷ [])) t.no_expr (1 ∷ [])) t.no_member_declarators) (1 ∷ [])) t.no_member_decls))) (1 ∷ 1 ∷ 1 ∷ [])) t.no_specs); list = []; lines = (1 ∷ []) })) ∷ []; lines = [] }) rule.K24 1
unfolding layouts_of same_basic holds_const linkage_of clashes with_declaration with_content with_head unit_of landing puts_of constant_of is_null_constant pairing is_assignable check_gives check_chain check_here check_becomes check_look breaks node_rules rule_at same_key specs_type unary_of binary_of assignment_of
nested_completion = refl

-- `int x; struct s { struct s { int a; } x; };`
nested_completion_line : is_refused (record { parts = (t.Declaration (record { specs = (t.more_specs (t.Key keyword.Int (1 ∷ [])) t.no_specs); list = record { declarator = (t.Identifier (codes "x") (1 ∷ [])); init = None; lines = [] } ∷ []; lines = (1 ∷ []) })) ∷ (t.Declaration (record { specs = (t.more_specs (t.Record false (Some (codes "s")) (t.some_members (t.more_member_decls (t.MemberDecl (t.more_specs (t.Record false (Some (codes "s")) (t.some_members (t.more_member_decls (t.MemberDecl (t.more_specs (t.Key keyword.Int (3 ∷ [])) t.no_specs) (t.more_member_declarators (t.MemberDeclarator (t.Identifier (codes "a") (3 ∷ [])) t.no_expr (3 ∷ [])) t.no_member_declarators) (3 ∷ [])) t.no_member_decls)) (3 ∷ 3 ∷ 3 ∷ [])) t.no_specs) (t.more_member_declarators (t.MemberDeclarator (t.Identifier (codes "x") (3 ∷ [])) t.no_expr (3 ∷ [])) t.no_member_declarators) (3 ∷ [])) t.no_member_decls)) (2 ∷ 2 ∷ 2 ∷ [])) t.no_specs); list = []; lines = (2 ∷ []) })) ∷ []; lines = [] }) rule.K24 2
unfolding layouts_of same_basic holds_const linkage_of clashes with_declaration with_content with_head unit_of landing puts_of constant_of is_null_constant pairing is_assignable check_gives check_chain check_here check_becomes check_look breaks node_rules rule_at same_key specs_type unary_of binary_of assignment_of
nested_completion_line = refl

-- `struct s { struct t { int a; } x; int b; }; struct s y;`
nested_other_tag : is_fine (record { parts = (t.Declaration (record { specs = (t.more_specs (t.Record false (Some (codes "s")) (t.some_members (t.more_member_decls (t.MemberDecl (t.more_specs (t.Record false (Some (codes "t")) (t.some_members (t.more_member_decls (t.MemberDecl (t.more_specs (t.Key keyword.Int (1 ∷ [])) t.no_specs) (t.more_member_declarators (t.MemberDeclarator (t.Identifier (codes "a") (1 ∷ [])) t.no_expr (1 ∷ [])) t.no_member_declarators) (1 ∷ [])) t.no_member_decls)) (1 ∷ 1 ∷ 1 ∷ [])) t.no_specs) (t.more_member_declarators (t.MemberDeclarator (t.Identifier (codes "x") (1 ∷ [])) t.no_expr (1 ∷ [])) t.no_member_declarators) (1 ∷ [])) (t.more_member_decls (t.MemberDecl (t.more_specs (t.Key keyword.Int (1 ∷ [])) t.no_specs) (t.more_member_declarators (t.MemberDeclarator (t.Identifier (codes "b") (1 ∷ [])) t.no_expr (1 ∷ [])) t.no_member_declarators) (1 ∷ [])) t.no_member_decls))) (1 ∷ 1 ∷ 1 ∷ [])) t.no_specs); list = []; lines = (1 ∷ []) })) ∷ (t.Declaration (record { specs = (t.more_specs (t.Record false (Some (codes "s")) t.no_members (1 ∷ 1 ∷ [])) t.no_specs); list = record { declarator = (t.Identifier (codes "y") (1 ∷ [])); init = None; lines = [] } ∷ []; lines = (1 ∷ []) })) ∷ []; lines = [] })
unfolding layouts_of same_basic holds_const linkage_of clashes with_declaration with_content with_head unit_of landing puts_of constant_of is_null_constant pairing is_assignable check_gives check_chain check_here check_becomes check_look breaks node_rules rule_at same_key specs_type unary_of binary_of assignment_of
nested_other_tag = refl

-- `struct s { struct s *x; int b; }; struct s y;`
nested_use : is_fine (record { parts = (t.Declaration (record { specs = (t.more_specs (t.Record false (Some (codes "s")) (t.some_members (t.more_member_decls (t.MemberDecl (t.more_specs (t.Record false (Some (codes "s")) t.no_members (1 ∷ 1 ∷ [])) t.no_specs) (t.more_member_declarators (t.MemberDeclarator (t.Pointer [] (t.Identifier (codes "x") (1 ∷ [])) (1 ∷ [])) t.no_expr (1 ∷ [])) t.no_member_declarators) (1 ∷ [])) (t.more_member_decls (t.MemberDecl (t.more_specs (t.Key keyword.Int (1 ∷ [])) t.no_specs) (t.more_member_declarators (t.MemberDeclarator (t.Identifier (codes "b") (1 ∷ [])) t.no_expr (1 ∷ [])) t.no_member_declarators) (1 ∷ [])) t.no_member_decls))) (1 ∷ 1 ∷ 1 ∷ [])) t.no_specs); list = []; lines = (1 ∷ []) })) ∷ (t.Declaration (record { specs = (t.more_specs (t.Record false (Some (codes "s")) t.no_members (1 ∷ 1 ∷ [])) t.no_specs); list = record { declarator = (t.Identifier (codes "y") (1 ∷ [])); init = None; lines = [] } ∷ []; lines = (1 ∷ []) })) ∷ []; lines = [] })
unfolding layouts_of same_basic holds_const linkage_of clashes with_declaration with_content with_head unit_of landing puts_of constant_of is_null_constant pairing is_assignable check_gives check_chain check_here check_becomes check_look breaks node_rules rule_at same_key specs_type unary_of binary_of assignment_of
nested_use = refl

-- `int a[3]; long d = &a[1] - &a[0];`
difference_of_addresses : is_refused (record { parts = (t.Declaration (record { specs = (t.more_specs (t.Key keyword.Int (1 ∷ [])) t.no_specs); list = record { declarator = (t.Array (t.Identifier (codes "a") (1 ∷ [])) (t.Length [] (t.Number 3 ty0.Int (1 ∷ []))) (1 ∷ 1 ∷ [])); init = None; lines = [] } ∷ []; lines = (1 ∷ []) })) ∷ (t.Declaration (record { specs = (t.more_specs (t.Key keyword.Long (1 ∷ [])) t.no_specs); list = record { declarator = (t.Identifier (codes "d") (1 ∷ [])); init = (Some (t.Single (t.Binary (t.Unary punct.Ampersand (t.Index (t.Name (codes "a") (1 ∷ [])) (t.Number 1 ty0.Int (1 ∷ [])) (1 ∷ 1 ∷ [])) (1 ∷ [])) punct.Minus (t.Unary punct.Ampersand (t.Index (t.Name (codes "a") (1 ∷ [])) (t.Number 0 ty0.Int (1 ∷ [])) (1 ∷ 1 ∷ [])) (1 ∷ [])) (1 ∷ [])))); lines = [] } ∷ []; lines = (1 ∷ []) })) ∷ []; lines = [] }) rule.K17 1
unfolding layouts_of same_basic holds_const linkage_of clashes with_declaration with_content with_head unit_of landing puts_of constant_of is_null_constant pairing is_assignable check_gives check_chain check_here check_becomes check_look breaks node_rules rule_at same_key specs_type unary_of binary_of assignment_of
difference_of_addresses = refl

-- `int a, b; long d = &a - &b;`
difference_of_objects : is_refused (record { parts = (t.Declaration (record { specs = (t.more_specs (t.Key keyword.Int (1 ∷ [])) t.no_specs); list = record { declarator = (t.Identifier (codes "a") (1 ∷ [])); init = None; lines = [] } ∷ []; lines = (1 ∷ []) })) ∷ (t.Declaration (record { specs = (t.more_specs (t.Key keyword.Int (1 ∷ [])) t.no_specs); list = record { declarator = (t.Identifier (codes "b") (1 ∷ [])); init = None; lines = [] } ∷ []; lines = (1 ∷ []) })) ∷ (t.Declaration (record { specs = (t.more_specs (t.Key keyword.Long (1 ∷ [])) t.no_specs); list = record { declarator = (t.Identifier (codes "d") (1 ∷ [])); init = (Some (t.Single (t.Binary (t.Unary punct.Ampersand (t.Name (codes "a") (1 ∷ [])) (1 ∷ [])) punct.Minus (t.Unary punct.Ampersand (t.Name (codes "b") (1 ∷ [])) (1 ∷ [])) (1 ∷ [])))); lines = [] } ∷ []; lines = (1 ∷ []) })) ∷ []; lines = [] }) rule.K17 1
unfolding layouts_of same_basic holds_const linkage_of clashes with_declaration with_content with_head unit_of landing puts_of constant_of is_null_constant pairing is_assignable check_gives check_chain check_here check_becomes check_look breaks node_rules rule_at same_key specs_type unary_of binary_of assignment_of
difference_of_objects = refl

-- `int a; _Bool d = (_Bool)&a;`
address_as_truth : is_refused (record { parts = (t.Declaration (record { specs = (t.more_specs (t.Key keyword.Int (1 ∷ [])) t.no_specs); list = record { declarator = (t.Identifier (codes "a") (1 ∷ [])); init = None; lines = [] } ∷ []; lines = (1 ∷ []) })) ∷ (t.Declaration (record { specs = (t.more_specs (t.Key keyword.Bool (1 ∷ [])) t.no_specs); list = record { declarator = (t.Identifier (codes "d") (1 ∷ [])); init = (Some (t.Single (t.Cast (t.TypeName (t.more_specs (t.Key keyword.Bool (1 ∷ [])) t.no_specs) t.Missing []) (t.Unary punct.Ampersand (t.Name (codes "a") (1 ∷ [])) (1 ∷ [])) (1 ∷ 1 ∷ [])))); lines = [] } ∷ []; lines = (1 ∷ []) })) ∷ []; lines = [] }) rule.K17 1
unfolding layouts_of same_basic holds_const linkage_of clashes with_declaration with_content with_head unit_of landing puts_of constant_of is_null_constant pairing is_assignable check_gives check_chain check_here check_becomes check_look breaks node_rules rule_at same_key specs_type unary_of binary_of assignment_of
address_as_truth = refl

-- `int a; _Bool d = &a;`
address_for_truth : is_fine (record { parts = (t.Declaration (record { specs = (t.more_specs (t.Key keyword.Int (1 ∷ [])) t.no_specs); list = record { declarator = (t.Identifier (codes "a") (1 ∷ [])); init = None; lines = [] } ∷ []; lines = (1 ∷ []) })) ∷ (t.Declaration (record { specs = (t.more_specs (t.Key keyword.Bool (1 ∷ [])) t.no_specs); list = record { declarator = (t.Identifier (codes "d") (1 ∷ [])); init = (Some (t.Single (t.Unary punct.Ampersand (t.Name (codes "a") (1 ∷ [])) (1 ∷ [])))); lines = [] } ∷ []; lines = (1 ∷ []) })) ∷ []; lines = [] })
unfolding layouts_of same_basic holds_const linkage_of clashes with_declaration with_content with_head unit_of landing puts_of constant_of is_null_constant pairing is_assignable check_gives check_chain check_here check_becomes check_look breaks node_rules rule_at same_key specs_type unary_of binary_of assignment_of
address_for_truth = refl

-- `int a[3]; int *p = a + 1, *q = &a[2] - 1; char *r = (char *)a + 1;`
address_plus : is_fine (record { parts = (t.Declaration (record { specs = (t.more_specs (t.Key keyword.Int (1 ∷ [])) t.no_specs); list = record { declarator = (t.Array (t.Identifier (codes "a") (1 ∷ [])) (t.Length [] (t.Number 3 ty0.Int (1 ∷ []))) (1 ∷ 1 ∷ [])); init = None; lines = [] } ∷ []; lines = (1 ∷ []) })) ∷ (t.Declaration (record { specs = (t.more_specs (t.Key keyword.Int (1 ∷ [])) t.no_specs); list = record { declarator = (t.Pointer [] (t.Identifier (codes "p") (1 ∷ [])) (1 ∷ [])); init = (Some (t.Single (t.Binary (t.Name (codes "a") (1 ∷ [])) punct.Plus (t.Number 1 ty0.Int (1 ∷ [])) (1 ∷ [])))); lines = [] } ∷ []; lines = (1 ∷ []) })) ∷ (t.Declaration (record { specs = (t.more_specs (t.Key keyword.Int (1 ∷ [])) t.no_specs); list = record { declarator = (t.Pointer [] (t.Identifier (codes "q") (1 ∷ [])) (1 ∷ [])); init = (Some (t.Single (t.Binary (t.Unary punct.Ampersand (t.Index (t.Name (codes "a") (1 ∷ [])) (t.Number 2 ty0.Int (1 ∷ [])) (1 ∷ 1 ∷ [])) (1 ∷ [])) punct.Minus (t.Number 1 ty0.Int (1 ∷ [])) (1 ∷ [])))); lines = [] } ∷ []; lines = (1 ∷ []) })) ∷ (t.Declaration (record { specs = (t.more_specs (t.Key keyword.Char (1 ∷ [])) t.no_specs); list = record { declarator = (t.Pointer [] (t.Identifier (codes "r") (1 ∷ [])) (1 ∷ [])); init = (Some (t.Single (t.Binary (t.Cast (t.TypeName (t.more_specs (t.Key keyword.Char (1 ∷ [])) t.no_specs) (t.Pointer [] t.Missing (1 ∷ [])) []) (t.Name (codes "a") (1 ∷ [])) (1 ∷ 1 ∷ [])) punct.Plus (t.Number 1 ty0.Int (1 ∷ [])) (1 ∷ [])))); lines = [] } ∷ []; lines = (1 ∷ []) })) ∷ []; lines = [] })
unfolding layouts_of same_basic holds_const linkage_of clashes with_declaration with_content with_head unit_of landing puts_of constant_of is_null_constant pairing is_assignable check_gives check_chain check_here check_becomes check_look breaks node_rules rule_at same_key specs_type unary_of binary_of assignment_of
address_plus = refl

-- `struct s { int a; int b[2]; } x; int *p = &x.b[1];`
address_of_member : is_fine (record { parts = (t.Declaration (record { specs = (t.more_specs (t.Record false (Some (codes "s")) (t.some_members (t.more_member_decls (t.MemberDecl (t.more_specs (t.Key keyword.Int (1 ∷ [])) t.no_specs) (t.more_member_declarators (t.MemberDeclarator (t.Identifier (codes "a") (1 ∷ [])) t.no_expr (1 ∷ [])) t.no_member_declarators) (1 ∷ [])) (t.more_member_decls (t.MemberDecl (t.more_specs (t.Key keyword.Int (1 ∷ [])) t.no_specs) (t.more_member_declarators (t.MemberDeclarator (t.Array (t.Identifier (codes "b") (1 ∷ [])) (t.Length [] (t.Number 2 ty0.Int (1 ∷ []))) (1 ∷ 1 ∷ [])) t.no_expr (1 ∷ [])) t.no_member_declarators) (1 ∷ [])) t.no_member_decls))) (1 ∷ 1 ∷ 1 ∷ [])) t.no_specs); list = record { declarator = (t.Identifier (codes "x") (1 ∷ [])); init = None; lines = [] } ∷ []; lines = (1 ∷ []) })) ∷ (t.Declaration (record { specs = (t.more_specs (t.Key keyword.Int (1 ∷ [])) t.no_specs); list = record { declarator = (t.Pointer [] (t.Identifier (codes "p") (1 ∷ [])) (1 ∷ [])); init = (Some (t.Single (t.Unary punct.Ampersand (t.Index (t.Dot (t.Name (codes "x") (1 ∷ [])) (codes "b") (1 ∷ 1 ∷ [])) (t.Number 1 ty0.Int (1 ∷ [])) (1 ∷ 1 ∷ [])) (1 ∷ [])))); lines = [] } ∷ []; lines = (1 ∷ []) })) ∷ []; lines = [] })
unfolding layouts_of same_basic holds_const linkage_of clashes with_declaration with_content with_head unit_of landing puts_of constant_of is_null_constant pairing is_assignable check_gives check_chain check_here check_becomes check_look breaks node_rules rule_at same_key specs_type unary_of binary_of assignment_of
address_of_member = refl

-- `int a; int b = !&a;`
address_tested : is_refused (record { parts = (t.Declaration (record { specs = (t.more_specs (t.Key keyword.Int (1 ∷ [])) t.no_specs); list = record { declarator = (t.Identifier (codes "a") (1 ∷ [])); init = None; lines = [] } ∷ []; lines = (1 ∷ []) })) ∷ (t.Declaration (record { specs = (t.more_specs (t.Key keyword.Int (1 ∷ [])) t.no_specs); list = record { declarator = (t.Identifier (codes "b") (1 ∷ [])); init = (Some (t.Single (t.Unary punct.Exclamation (t.Unary punct.Ampersand (t.Name (codes "a") (1 ∷ [])) (1 ∷ [])) (1 ∷ [])))); lines = [] } ∷ []; lines = (1 ∷ []) })) ∷ []; lines = [] }) rule.K17 1
unfolding layouts_of same_basic holds_const linkage_of clashes with_declaration with_content with_head unit_of landing puts_of constant_of is_null_constant pairing is_assignable check_gives check_chain check_here check_becomes check_look breaks node_rules rule_at same_key specs_type unary_of binary_of assignment_of
address_tested = refl

-- `int *p; int *q = p;`
address_held : is_refused (record { parts = (t.Declaration (record { specs = (t.more_specs (t.Key keyword.Int (1 ∷ [])) t.no_specs); list = record { declarator = (t.Pointer [] (t.Identifier (codes "p") (1 ∷ [])) (1 ∷ [])); init = None; lines = [] } ∷ []; lines = (1 ∷ []) })) ∷ (t.Declaration (record { specs = (t.more_specs (t.Key keyword.Int (1 ∷ [])) t.no_specs); list = record { declarator = (t.Pointer [] (t.Identifier (codes "q") (1 ∷ [])) (1 ∷ [])); init = (Some (t.Single (t.Name (codes "p") (1 ∷ [])))); lines = [] } ∷ []; lines = (1 ∷ []) })) ∷ []; lines = [] }) rule.K17 1
unfolding layouts_of same_basic holds_const linkage_of clashes with_declaration with_content with_head unit_of landing puts_of constant_of is_null_constant pairing is_assignable check_gives check_chain check_here check_becomes check_look breaks node_rules rule_at same_key specs_type unary_of binary_of assignment_of
address_held = refl

-- `int main(void) { int x; static int *p = &x; return 0; }`
address_in_block : is_refused (record { parts = (t.Defined (record { specs = (t.more_specs (t.Key keyword.Int (1 ∷ [])) t.no_specs); declarator = (t.Function (t.Identifier (codes "main") (1 ∷ [])) (t.more_params (t.Param (t.more_specs (t.Key keyword.Void (1 ∷ [])) t.no_specs) t.Missing []) t.no_params) false (1 ∷ 1 ∷ [])); body = t.Block (t.more_items (t.Declared (record { specs = (t.more_specs (t.Key keyword.Int (1 ∷ [])) t.no_specs); list = record { declarator = (t.Identifier (codes "x") (1 ∷ [])); init = None; lines = [] } ∷ []; lines = (1 ∷ []) })) (t.more_items (t.Declared (record { specs = (t.more_specs (t.Key keyword.Static (1 ∷ [])) (t.more_specs (t.Key keyword.Int (1 ∷ [])) t.no_specs)); list = record { declarator = (t.Pointer [] (t.Identifier (codes "p") (1 ∷ [])) (1 ∷ [])); init = (Some (t.Single (t.Unary punct.Ampersand (t.Name (codes "x") (1 ∷ [])) (1 ∷ [])))); lines = [] } ∷ []; lines = (1 ∷ []) })) (t.more_items (t.Statement (t.Return (t.some_expr (t.Number 0 ty0.Int (1 ∷ []))) (1 ∷ 1 ∷ []))) t.no_items))) (1 ∷ 1 ∷ []); lines = [] })) ∷ []; lines = [] }) rule.K17 1
unfolding layouts_of same_basic holds_const linkage_of clashes with_declaration with_content with_head unit_of landing puts_of constant_of is_null_constant pairing is_assignable check_gives check_chain check_here check_becomes check_look breaks node_rules rule_at same_key specs_type unary_of binary_of assignment_of
address_in_block = refl

-- `int main(void) { static int x; static int *p = &x; return 0; }`
address_of_static : is_fine (record { parts = (t.Defined (record { specs = (t.more_specs (t.Key keyword.Int (1 ∷ [])) t.no_specs); declarator = (t.Function (t.Identifier (codes "main") (1 ∷ [])) (t.more_params (t.Param (t.more_specs (t.Key keyword.Void (1 ∷ [])) t.no_specs) t.Missing []) t.no_params) false (1 ∷ 1 ∷ [])); body = t.Block (t.more_items (t.Declared (record { specs = (t.more_specs (t.Key keyword.Static (1 ∷ [])) (t.more_specs (t.Key keyword.Int (1 ∷ [])) t.no_specs)); list = record { declarator = (t.Identifier (codes "x") (1 ∷ [])); init = None; lines = [] } ∷ []; lines = (1 ∷ []) })) (t.more_items (t.Declared (record { specs = (t.more_specs (t.Key keyword.Static (1 ∷ [])) (t.more_specs (t.Key keyword.Int (1 ∷ [])) t.no_specs)); list = record { declarator = (t.Pointer [] (t.Identifier (codes "p") (1 ∷ [])) (1 ∷ [])); init = (Some (t.Single (t.Unary punct.Ampersand (t.Name (codes "x") (1 ∷ [])) (1 ∷ [])))); lines = [] } ∷ []; lines = (1 ∷ []) })) (t.more_items (t.Statement (t.Return (t.some_expr (t.Number 0 ty0.Int (1 ∷ []))) (1 ∷ 1 ∷ []))) t.no_items))) (1 ∷ 1 ∷ []); lines = [] })) ∷ []; lines = [] })
unfolding layouts_of same_basic holds_const linkage_of clashes with_declaration with_content with_head unit_of landing puts_of constant_of is_null_constant pairing is_assignable check_gives check_chain check_here check_becomes check_look breaks node_rules rule_at same_key specs_type unary_of binary_of assignment_of
address_of_static = refl

-- `char *p = "ab" + 1;`
address_of_literal : is_fine (record { parts = (t.Declaration (record { specs = (t.more_specs (t.Key keyword.Char (1 ∷ [])) t.no_specs); list = record { declarator = (t.Pointer [] (t.Identifier (codes "p") (1 ∷ [])) (1 ∷ [])); init = (Some (t.Single (t.Binary (t.Text ((codes "ab") ∷ []) (1 ∷ [])) punct.Plus (t.Number 1 ty0.Int (1 ∷ [])) (1 ∷ [])))); lines = [] } ∷ []; lines = (1 ∷ []) })) ∷ []; lines = [] })
unfolding layouts_of same_basic holds_const linkage_of clashes with_declaration with_content with_head unit_of landing puts_of constant_of is_null_constant pairing is_assignable check_gives check_chain check_here check_becomes check_look breaks node_rules rule_at same_key specs_type unary_of binary_of assignment_of
address_of_literal = refl

-- `struct s { int a; int b; }; int *p = &((struct s *)0)->b;`
null_member : is_fine (record { parts = (t.Declaration (record { specs = (t.more_specs (t.Record false (Some (codes "s")) (t.some_members (t.more_member_decls (t.MemberDecl (t.more_specs (t.Key keyword.Int (1 ∷ [])) t.no_specs) (t.more_member_declarators (t.MemberDeclarator (t.Identifier (codes "a") (1 ∷ [])) t.no_expr (1 ∷ [])) t.no_member_declarators) (1 ∷ [])) (t.more_member_decls (t.MemberDecl (t.more_specs (t.Key keyword.Int (1 ∷ [])) t.no_specs) (t.more_member_declarators (t.MemberDeclarator (t.Identifier (codes "b") (1 ∷ [])) t.no_expr (1 ∷ [])) t.no_member_declarators) (1 ∷ [])) t.no_member_decls))) (1 ∷ 1 ∷ 1 ∷ [])) t.no_specs); list = []; lines = (1 ∷ []) })) ∷ (t.Declaration (record { specs = (t.more_specs (t.Key keyword.Int (1 ∷ [])) t.no_specs); list = record { declarator = (t.Pointer [] (t.Identifier (codes "p") (1 ∷ [])) (1 ∷ [])); init = (Some (t.Single (t.Unary punct.Ampersand (t.Arrow (t.Cast (t.TypeName (t.more_specs (t.Record false (Some (codes "s")) t.no_members (1 ∷ 1 ∷ [])) t.no_specs) (t.Pointer [] t.Missing (1 ∷ [])) []) (t.Number 0 ty0.Int (1 ∷ [])) (1 ∷ 1 ∷ [])) (codes "b") (1 ∷ 1 ∷ [])) (1 ∷ [])))); lines = [] } ∷ []; lines = (1 ∷ []) })) ∷ []; lines = [] })
unfolding layouts_of same_basic holds_const linkage_of clashes with_declaration with_content with_head unit_of landing puts_of constant_of is_null_constant pairing is_assignable check_gives check_chain check_here check_becomes check_look breaks node_rules rule_at same_key specs_type unary_of binary_of assignment_of
null_member = refl

-- `int main(void) { int a[2]; a++; return 0; }`
steps_an_array : is_refused (record { parts = (t.Defined (record { specs = (t.more_specs (t.Key keyword.Int (1 ∷ [])) t.no_specs); declarator = (t.Function (t.Identifier (codes "main") (1 ∷ [])) (t.more_params (t.Param (t.more_specs (t.Key keyword.Void (1 ∷ [])) t.no_specs) t.Missing []) t.no_params) false (1 ∷ 1 ∷ [])); body = t.Block (t.more_items (t.Declared (record { specs = (t.more_specs (t.Key keyword.Int (1 ∷ [])) t.no_specs); list = record { declarator = (t.Array (t.Identifier (codes "a") (1 ∷ [])) (t.Length [] (t.Number 2 ty0.Int (1 ∷ []))) (1 ∷ 1 ∷ [])); init = None; lines = [] } ∷ []; lines = (1 ∷ []) })) (t.more_items (t.Statement (t.ExprStmt (t.some_expr (t.PostUp (t.Name (codes "a") (1 ∷ [])) (1 ∷ []))) (1 ∷ []))) (t.more_items (t.Statement (t.Return (t.some_expr (t.Number 0 ty0.Int (1 ∷ []))) (1 ∷ 1 ∷ []))) t.no_items))) (1 ∷ 1 ∷ []); lines = [] })) ∷ []; lines = [] }) rule.K11 1
unfolding layouts_of same_basic holds_const linkage_of clashes with_declaration with_content with_head unit_of landing puts_of constant_of is_null_constant pairing is_assignable check_gives check_chain check_here check_becomes check_look breaks node_rules rule_at same_key specs_type unary_of binary_of assignment_of
steps_an_array = refl

-- `struct s { int a; }; int main(void) { struct s x; x++; return 0; }`
steps_a_struct : is_refused (record { parts = (t.Declaration (record { specs = (t.more_specs (t.Record false (Some (codes "s")) (t.some_members (t.more_member_decls (t.MemberDecl (t.more_specs (t.Key keyword.Int (1 ∷ [])) t.no_specs) (t.more_member_declarators (t.MemberDeclarator (t.Identifier (codes "a") (1 ∷ [])) t.no_expr (1 ∷ [])) t.no_member_declarators) (1 ∷ [])) t.no_member_decls)) (1 ∷ 1 ∷ 1 ∷ [])) t.no_specs); list = []; lines = (1 ∷ []) })) ∷ (t.Defined (record { specs = (t.more_specs (t.Key keyword.Int (1 ∷ [])) t.no_specs); declarator = (t.Function (t.Identifier (codes "main") (1 ∷ [])) (t.more_params (t.Param (t.more_specs (t.Key keyword.Void (1 ∷ [])) t.no_specs) t.Missing []) t.no_params) false (1 ∷ 1 ∷ [])); body = t.Block (t.more_items (t.Declared (record { specs = (t.more_specs (t.Record false (Some (codes "s")) t.no_members (1 ∷ 1 ∷ [])) t.no_specs); list = record { declarator = (t.Identifier (codes "x") (1 ∷ [])); init = None; lines = [] } ∷ []; lines = (1 ∷ []) })) (t.more_items (t.Statement (t.ExprStmt (t.some_expr (t.PostUp (t.Name (codes "x") (1 ∷ [])) (1 ∷ []))) (1 ∷ []))) (t.more_items (t.Statement (t.Return (t.some_expr (t.Number 0 ty0.Int (1 ∷ []))) (1 ∷ 1 ∷ []))) t.no_items))) (1 ∷ 1 ∷ []); lines = [] })) ∷ []; lines = [] }) rule.K10 1
unfolding layouts_of same_basic holds_const linkage_of clashes with_declaration with_content with_head unit_of landing puts_of constant_of is_null_constant pairing is_assignable check_gives check_chain check_here check_becomes check_look breaks node_rules rule_at same_key specs_type unary_of binary_of assignment_of
steps_a_struct = refl

-- `int f(void); int main(void) { f++; return 0; }`
steps_a_function : is_refused (record { parts = (t.Declaration (record { specs = (t.more_specs (t.Key keyword.Int (1 ∷ [])) t.no_specs); list = record { declarator = (t.Function (t.Identifier (codes "f") (1 ∷ [])) (t.more_params (t.Param (t.more_specs (t.Key keyword.Void (1 ∷ [])) t.no_specs) t.Missing []) t.no_params) false (1 ∷ 1 ∷ [])); init = None; lines = [] } ∷ []; lines = (1 ∷ []) })) ∷ (t.Defined (record { specs = (t.more_specs (t.Key keyword.Int (1 ∷ [])) t.no_specs); declarator = (t.Function (t.Identifier (codes "main") (1 ∷ [])) (t.more_params (t.Param (t.more_specs (t.Key keyword.Void (1 ∷ [])) t.no_specs) t.Missing []) t.no_params) false (1 ∷ 1 ∷ [])); body = t.Block (t.more_items (t.Statement (t.ExprStmt (t.some_expr (t.PostUp (t.Name (codes "f") (1 ∷ [])) (1 ∷ []))) (1 ∷ []))) (t.more_items (t.Statement (t.Return (t.some_expr (t.Number 0 ty0.Int (1 ∷ []))) (1 ∷ 1 ∷ []))) t.no_items)) (1 ∷ 1 ∷ []); lines = [] })) ∷ []; lines = [] }) rule.K10 1
unfolding layouts_of same_basic holds_const linkage_of clashes with_declaration with_content with_head unit_of landing puts_of constant_of is_null_constant pairing is_assignable check_gives check_chain check_here check_becomes check_look breaks node_rules rule_at same_key specs_type unary_of binary_of assignment_of
steps_a_function = refl

-- `int main(void) { 1++; return 0; }`
steps_a_constant : is_refused (record { parts = (t.Defined (record { specs = (t.more_specs (t.Key keyword.Int (1 ∷ [])) t.no_specs); declarator = (t.Function (t.Identifier (codes "main") (1 ∷ [])) (t.more_params (t.Param (t.more_specs (t.Key keyword.Void (1 ∷ [])) t.no_specs) t.Missing []) t.no_params) false (1 ∷ 1 ∷ [])); body = t.Block (t.more_items (t.Statement (t.ExprStmt (t.some_expr (t.PostUp (t.Number 1 ty0.Int (1 ∷ [])) (1 ∷ []))) (1 ∷ []))) (t.more_items (t.Statement (t.Return (t.some_expr (t.Number 0 ty0.Int (1 ∷ []))) (1 ∷ 1 ∷ []))) t.no_items)) (1 ∷ 1 ∷ []); lines = [] })) ∷ []; lines = [] }) rule.K11 1
unfolding layouts_of same_basic holds_const linkage_of clashes with_declaration with_content with_head unit_of landing puts_of constant_of is_null_constant pairing is_assignable check_gives check_chain check_here check_becomes check_look breaks node_rules rule_at same_key specs_type unary_of binary_of assignment_of
steps_a_constant = refl

-- `int main(void) { int a[2]; a += 1; return 0; }`
adds_to_an_array : is_refused (record { parts = (t.Defined (record { specs = (t.more_specs (t.Key keyword.Int (1 ∷ [])) t.no_specs); declarator = (t.Function (t.Identifier (codes "main") (1 ∷ [])) (t.more_params (t.Param (t.more_specs (t.Key keyword.Void (1 ∷ [])) t.no_specs) t.Missing []) t.no_params) false (1 ∷ 1 ∷ [])); body = t.Block (t.more_items (t.Declared (record { specs = (t.more_specs (t.Key keyword.Int (1 ∷ [])) t.no_specs); list = record { declarator = (t.Array (t.Identifier (codes "a") (1 ∷ [])) (t.Length [] (t.Number 2 ty0.Int (1 ∷ []))) (1 ∷ 1 ∷ [])); init = None; lines = [] } ∷ []; lines = (1 ∷ []) })) (t.more_items (t.Statement (t.ExprStmt (t.some_expr (t.Assign (t.Name (codes "a") (1 ∷ [])) punct.PlusEqual (t.Number 1 ty0.Int (1 ∷ [])) (1 ∷ []))) (1 ∷ []))) (t.more_items (t.Statement (t.Return (t.some_expr (t.Number 0 ty0.Int (1 ∷ []))) (1 ∷ 1 ∷ []))) t.no_items))) (1 ∷ 1 ∷ []); lines = [] })) ∷ []; lines = [] }) rule.K11 1
unfolding layouts_of same_basic holds_const linkage_of clashes with_declaration with_content with_head unit_of landing puts_of constant_of is_null_constant pairing is_assignable check_gives check_chain check_here check_becomes check_look breaks node_rules rule_at same_key specs_type unary_of binary_of assignment_of
adds_to_an_array = refl

-- `int main(void) { (void){0}; return 0; }`
void_literal : is_refused (record { parts = (t.Defined (record { specs = (t.more_specs (t.Key keyword.Int (1 ∷ [])) t.no_specs); declarator = (t.Function (t.Identifier (codes "main") (1 ∷ [])) (t.more_params (t.Param (t.more_specs (t.Key keyword.Void (1 ∷ [])) t.no_specs) t.Missing []) t.no_params) false (1 ∷ 1 ∷ [])); body = t.Block (t.more_items (t.Statement (t.ExprStmt (t.some_expr (t.Literal (t.TypeName (t.more_specs (t.Key keyword.Void (1 ∷ [])) t.no_specs) t.Missing []) (t.InitialiserList (t.more_entries (t.Entry t.no_designators (t.Single (t.Number 0 ty0.Int (1 ∷ []))) []) t.no_entries) false (1 ∷ 1 ∷ [])) (1 ∷ 1 ∷ []))) (1 ∷ []))) (t.more_items (t.Statement (t.Return (t.some_expr (t.Number 0 ty0.Int (1 ∷ []))) (1 ∷ 1 ∷ []))) t.no_items)) (1 ∷ 1 ∷ []); lines = [] })) ∷ []; lines = [] }) rule.K21 1
unfolding layouts_of same_basic holds_const linkage_of clashes with_declaration with_content with_head unit_of landing puts_of constant_of is_null_constant pairing is_assignable check_gives check_chain check_here check_becomes check_look breaks node_rules rule_at same_key specs_type unary_of binary_of assignment_of
void_literal = refl

-- `int main(void) { (void){ 0}; return 0; }`
void_literal_line : is_refused (record { parts = (t.Defined (record { specs = (t.more_specs (t.Key keyword.Int (1 ∷ [])) t.no_specs); declarator = (t.Function (t.Identifier (codes "main") (1 ∷ [])) (t.more_params (t.Param (t.more_specs (t.Key keyword.Void (1 ∷ [])) t.no_specs) t.Missing []) t.no_params) false (1 ∷ 1 ∷ [])); body = t.Block (t.more_items (t.Statement (t.ExprStmt (t.some_expr (t.Literal (t.TypeName (t.more_specs (t.Key keyword.Void (1 ∷ [])) t.no_specs) t.Missing []) (t.InitialiserList (t.more_entries (t.Entry t.no_designators (t.Single (t.Number 0 ty0.Int (2 ∷ []))) []) t.no_entries) false (2 ∷ 2 ∷ [])) (1 ∷ 1 ∷ []))) (1 ∷ []))) (t.more_items (t.Statement (t.Return (t.some_expr (t.Number 0 ty0.Int (2 ∷ []))) (2 ∷ 2 ∷ []))) t.no_items)) (1 ∷ 1 ∷ []); lines = [] })) ∷ []; lines = [] }) rule.K21 2
unfolding layouts_of same_basic holds_const linkage_of clashes with_declaration with_content with_head unit_of landing puts_of constant_of is_null_constant pairing is_assignable check_gives check_chain check_here check_becomes check_look breaks node_rules rule_at same_key specs_type unary_of binary_of assignment_of
void_literal_line = refl

-- `struct s; int main(void) { (struct s){0}; return 0; }`
incomplete_literal : is_refused (record { parts = (t.Declaration (record { specs = (t.more_specs (t.Record false (Some (codes "s")) t.no_members (1 ∷ 1 ∷ [])) t.no_specs); list = []; lines = (1 ∷ []) })) ∷ (t.Defined (record { specs = (t.more_specs (t.Key keyword.Int (1 ∷ [])) t.no_specs); declarator = (t.Function (t.Identifier (codes "main") (1 ∷ [])) (t.more_params (t.Param (t.more_specs (t.Key keyword.Void (1 ∷ [])) t.no_specs) t.Missing []) t.no_params) false (1 ∷ 1 ∷ [])); body = t.Block (t.more_items (t.Statement (t.ExprStmt (t.some_expr (t.Literal (t.TypeName (t.more_specs (t.Record false (Some (codes "s")) t.no_members (1 ∷ 1 ∷ [])) t.no_specs) t.Missing []) (t.InitialiserList (t.more_entries (t.Entry t.no_designators (t.Single (t.Number 0 ty0.Int (1 ∷ []))) []) t.no_entries) false (1 ∷ 1 ∷ [])) (1 ∷ 1 ∷ []))) (1 ∷ []))) (t.more_items (t.Statement (t.Return (t.some_expr (t.Number 0 ty0.Int (1 ∷ []))) (1 ∷ 1 ∷ []))) t.no_items)) (1 ∷ 1 ∷ []); lines = [] })) ∷ []; lines = [] }) rule.K21 1
unfolding layouts_of same_basic holds_const linkage_of clashes with_declaration with_content with_head unit_of landing puts_of constant_of is_null_constant pairing is_assignable check_gives check_chain check_here check_becomes check_look breaks node_rules rule_at same_key specs_type unary_of binary_of assignment_of
incomplete_literal = refl

-- `int main(void) { (char[]){[16777216] = 1}; return 0; }`
large_literal : is_refused (record { parts = (t.Defined (record { specs = (t.more_specs (t.Key keyword.Int (1 ∷ [])) t.no_specs); declarator = (t.Function (t.Identifier (codes "main") (1 ∷ [])) (t.more_params (t.Param (t.more_specs (t.Key keyword.Void (1 ∷ [])) t.no_specs) t.Missing []) t.no_params) false (1 ∷ 1 ∷ [])); body = t.Block (t.more_items (t.Statement (t.ExprStmt (t.some_expr (t.Literal (t.TypeName (t.more_specs (t.Key keyword.Char (1 ∷ [])) t.no_specs) (t.Array t.Missing (t.Unsized []) (1 ∷ 1 ∷ [])) []) (t.InitialiserList (t.more_entries (t.Entry (t.more_designators (t.Element (t.Number 16777216 ty0.Int (1 ∷ [])) (1 ∷ 1 ∷ [])) t.no_designators) (t.Single (t.Number 1 ty0.Int (1 ∷ []))) []) t.no_entries) false (1 ∷ 1 ∷ [])) (1 ∷ 1 ∷ []))) (1 ∷ []))) (t.more_items (t.Statement (t.Return (t.some_expr (t.Number 0 ty0.Int (1 ∷ []))) (1 ∷ 1 ∷ []))) t.no_items)) (1 ∷ 1 ∷ []); lines = [] })) ∷ []; lines = [] }) rule.M3 1
unfolding layouts_of same_basic holds_const linkage_of clashes with_declaration with_content with_head unit_of landing puts_of constant_of is_null_constant pairing is_assignable check_gives check_chain check_here check_becomes check_look breaks node_rules rule_at same_key specs_type unary_of binary_of assignment_of
large_literal = refl

-- `int main(void) { (char[]){[16777215] = 1}; return 0; }`
largest_literal : is_fine (record { parts = (t.Defined (record { specs = (t.more_specs (t.Key keyword.Int (1 ∷ [])) t.no_specs); declarator = (t.Function (t.Identifier (codes "main") (1 ∷ [])) (t.more_params (t.Param (t.more_specs (t.Key keyword.Void (1 ∷ [])) t.no_specs) t.Missing []) t.no_params) false (1 ∷ 1 ∷ [])); body = t.Block (t.more_items (t.Statement (t.ExprStmt (t.some_expr (t.Literal (t.TypeName (t.more_specs (t.Key keyword.Char (1 ∷ [])) t.no_specs) (t.Array t.Missing (t.Unsized []) (1 ∷ 1 ∷ [])) []) (t.InitialiserList (t.more_entries (t.Entry (t.more_designators (t.Element (t.Number 16777215 ty0.Int (1 ∷ [])) (1 ∷ 1 ∷ [])) t.no_designators) (t.Single (t.Number 1 ty0.Int (1 ∷ []))) []) t.no_entries) false (1 ∷ 1 ∷ [])) (1 ∷ 1 ∷ []))) (1 ∷ []))) (t.more_items (t.Statement (t.Return (t.some_expr (t.Number 0 ty0.Int (1 ∷ []))) (1 ∷ 1 ∷ []))) t.no_items)) (1 ∷ 1 ∷ []); lines = [] })) ∷ []; lines = [] })
unfolding layouts_of same_basic holds_const linkage_of clashes with_declaration with_content with_head unit_of landing puts_of constant_of is_null_constant pairing is_assignable check_gives check_chain check_here check_becomes check_look breaks node_rules rule_at same_key specs_type unary_of binary_of assignment_of
largest_literal = refl

-- `char a[] = {[16777216] = 1};`
large_object : is_refused (record { parts = (t.Declaration (record { specs = (t.more_specs (t.Key keyword.Char (1 ∷ [])) t.no_specs); list = record { declarator = (t.Array (t.Identifier (codes "a") (1 ∷ [])) (t.Unsized []) (1 ∷ 1 ∷ [])); init = (Some (t.Braced (t.InitialiserList (t.more_entries (t.Entry (t.more_designators (t.Element (t.Number 16777216 ty0.Int (1 ∷ [])) (1 ∷ 1 ∷ [])) t.no_designators) (t.Single (t.Number 1 ty0.Int (1 ∷ []))) []) t.no_entries) false (1 ∷ 1 ∷ [])))); lines = [] } ∷ []; lines = (1 ∷ []) })) ∷ []; lines = [] }) rule.M3 1
unfolding layouts_of same_basic holds_const linkage_of clashes with_declaration with_content with_head unit_of landing puts_of constant_of is_null_constant pairing is_assignable check_gives check_chain check_here check_becomes check_look breaks node_rules rule_at same_key specs_type unary_of binary_of assignment_of
large_object = refl

-- `int a[] = {[2305843009213693952] = 1};`
no_room : is_refused (record { parts = (t.Declaration (record { specs = (t.more_specs (t.Key keyword.Int (1 ∷ [])) t.no_specs); list = record { declarator = (t.Array (t.Identifier (codes "a") (1 ∷ [])) (t.Unsized []) (1 ∷ 1 ∷ [])); init = (Some (t.Braced (t.InitialiserList (t.more_entries (t.Entry (t.more_designators (t.Element (t.Number 2305843009213693952 ty0.Long (1 ∷ [])) (1 ∷ 1 ∷ [])) t.no_designators) (t.Single (t.Number 1 ty0.Int (1 ∷ []))) []) t.no_entries) false (1 ∷ 1 ∷ [])))); lines = [] } ∷ []; lines = (1 ∷ []) })) ∷ []; lines = [] }) rule.K21 1
unfolding layouts_of same_basic holds_const linkage_of clashes with_declaration with_content with_head unit_of landing puts_of constant_of is_null_constant pairing is_assignable check_gives check_chain check_here check_becomes check_look breaks node_rules rule_at same_key specs_type unary_of binary_of assignment_of
no_room = refl

-- `struct s { char n[4]; int x; } a = {"abc", 1}; struct s b[2] = {{{"ab"}, 1}, "cd", 2};`
string_member : is_fine (record { parts = (t.Declaration (record { specs = (t.more_specs (t.Record false (Some (codes "s")) (t.some_members (t.more_member_decls (t.MemberDecl (t.more_specs (t.Key keyword.Char (1 ∷ [])) t.no_specs) (t.more_member_declarators (t.MemberDeclarator (t.Array (t.Identifier (codes "n") (1 ∷ [])) (t.Length [] (t.Number 4 ty0.Int (1 ∷ []))) (1 ∷ 1 ∷ [])) t.no_expr (1 ∷ [])) t.no_member_declarators) (1 ∷ [])) (t.more_member_decls (t.MemberDecl (t.more_specs (t.Key keyword.Int (1 ∷ [])) t.no_specs) (t.more_member_declarators (t.MemberDeclarator (t.Identifier (codes "x") (1 ∷ [])) t.no_expr (1 ∷ [])) t.no_member_declarators) (1 ∷ [])) t.no_member_decls))) (1 ∷ 1 ∷ 1 ∷ [])) t.no_specs); list = record { declarator = (t.Identifier (codes "a") (1 ∷ [])); init = (Some (t.Braced (t.InitialiserList (t.more_entries (t.Entry t.no_designators (t.Single (t.Text ((codes "abc") ∷ []) (1 ∷ []))) []) (t.more_entries (t.Entry t.no_designators (t.Single (t.Number 1 ty0.Int (1 ∷ []))) []) t.no_entries)) false (1 ∷ 1 ∷ [])))); lines = [] } ∷ []; lines = (1 ∷ []) })) ∷ (t.Declaration (record { specs = (t.more_specs (t.Record false (Some (codes "s")) t.no_members (1 ∷ 1 ∷ [])) t.no_specs); list = record { declarator = (t.Array (t.Identifier (codes "b") (1 ∷ [])) (t.Length [] (t.Number 2 ty0.Int (1 ∷ []))) (1 ∷ 1 ∷ [])); init = (Some (t.Braced (t.InitialiserList (t.more_entries (t.Entry t.no_designators (t.Braced (t.InitialiserList (t.more_entries (t.Entry t.no_designators (t.Braced (t.InitialiserList (t.more_entries (t.Entry t.no_designators (t.Single (t.Text ((codes "ab") ∷ []) (1 ∷ []))) []) t.no_entries) false (1 ∷ 1 ∷ []))) []) (t.more_entries (t.Entry t.no_designators (t.Single (t.Number 1 ty0.Int (1 ∷ []))) []) t.no_entries)) false (1 ∷ 1 ∷ []))) []) (t.more_entries (t.Entry t.no_designators (t.Single (t.Text ((codes "cd") ∷ []) (1 ∷ []))) []) (t.more_entries (t.Entry t.no_designators (t.Single (t.Number 2 ty0.Int (1 ∷ []))) []) t.no_entries))) false (1 ∷ 1 ∷ [])))); lines = [] } ∷ []; lines = (1 ∷ []) })) ∷ []; lines = [] })
unfolding layouts_of same_basic holds_const linkage_of clashes with_declaration with_content with_head unit_of landing puts_of constant_of is_null_constant pairing is_assignable check_gives check_chain check_here check_becomes check_look breaks node_rules rule_at same_key specs_type unary_of binary_of assignment_of
string_member = refl

-- `struct s { char n[2]; int x; } a = {"abc", 1};`
string_too_long : is_refused (record { parts = (t.Declaration (record { specs = (t.more_specs (t.Record false (Some (codes "s")) (t.some_members (t.more_member_decls (t.MemberDecl (t.more_specs (t.Key keyword.Char (1 ∷ [])) t.no_specs) (t.more_member_declarators (t.MemberDeclarator (t.Array (t.Identifier (codes "n") (1 ∷ [])) (t.Length [] (t.Number 2 ty0.Int (1 ∷ []))) (1 ∷ 1 ∷ [])) t.no_expr (1 ∷ [])) t.no_member_declarators) (1 ∷ [])) (t.more_member_decls (t.MemberDecl (t.more_specs (t.Key keyword.Int (1 ∷ [])) t.no_specs) (t.more_member_declarators (t.MemberDeclarator (t.Identifier (codes "x") (1 ∷ [])) t.no_expr (1 ∷ [])) t.no_member_declarators) (1 ∷ [])) t.no_member_decls))) (1 ∷ 1 ∷ 1 ∷ [])) t.no_specs); list = record { declarator = (t.Identifier (codes "a") (1 ∷ [])); init = (Some (t.Braced (t.InitialiserList (t.more_entries (t.Entry t.no_designators (t.Single (t.Text ((codes "abc") ∷ []) (1 ∷ []))) []) (t.more_entries (t.Entry t.no_designators (t.Single (t.Number 1 ty0.Int (1 ∷ []))) []) t.no_entries)) false (1 ∷ 1 ∷ [])))); lines = [] } ∷ []; lines = (1 ∷ []) })) ∷ []; lines = [] }) rule.K21 1
unfolding layouts_of same_basic holds_const linkage_of clashes with_declaration with_content with_head unit_of landing puts_of constant_of is_null_constant pairing is_assignable check_gives check_chain check_here check_becomes check_look breaks node_rules rule_at same_key specs_type unary_of binary_of assignment_of
string_too_long = refl

-- `int a[3] = "ab";`
string_for_ints : is_refused (record { parts = (t.Declaration (record { specs = (t.more_specs (t.Key keyword.Int (1 ∷ [])) t.no_specs); list = record { declarator = (t.Array (t.Identifier (codes "a") (1 ∷ [])) (t.Length [] (t.Number 3 ty0.Int (1 ∷ []))) (1 ∷ 1 ∷ [])); init = (Some (t.Single (t.Text ((codes "ab") ∷ []) (1 ∷ [])))); lines = [] } ∷ []; lines = (1 ∷ []) })) ∷ []; lines = [] }) rule.K12 1
unfolding layouts_of same_basic holds_const linkage_of clashes with_declaration with_content with_head unit_of landing puts_of constant_of is_null_constant pairing is_assignable check_gives check_chain check_here check_becomes check_look breaks node_rules rule_at same_key specs_type unary_of binary_of assignment_of
string_for_ints = refl

-- `char a[2][4] = {"abc", {"de"}}; char b[sizeof a == 8 ? 1 : -1];`
string_in_nested : is_fine (record { parts = (t.Declaration (record { specs = (t.more_specs (t.Key keyword.Char (1 ∷ [])) t.no_specs); list = record { declarator = (t.Array (t.Array (t.Identifier (codes "a") (1 ∷ [])) (t.Length [] (t.Number 2 ty0.Int (1 ∷ []))) (1 ∷ 1 ∷ [])) (t.Length [] (t.Number 4 ty0.Int (1 ∷ []))) (1 ∷ 1 ∷ [])); init = (Some (t.Braced (t.InitialiserList (t.more_entries (t.Entry t.no_designators (t.Single (t.Text ((codes "abc") ∷ []) (1 ∷ []))) []) (t.more_entries (t.Entry t.no_designators (t.Braced (t.InitialiserList (t.more_entries (t.Entry t.no_designators (t.Single (t.Text ((codes "de") ∷ []) (1 ∷ []))) []) t.no_entries) false (1 ∷ 1 ∷ []))) []) t.no_entries)) false (1 ∷ 1 ∷ [])))); lines = [] } ∷ []; lines = (1 ∷ []) })) ∷ (t.Declaration (record { specs = (t.more_specs (t.Key keyword.Char (1 ∷ [])) t.no_specs); list = record { declarator = (t.Array (t.Identifier (codes "b") (1 ∷ [])) (t.Length [] (t.Cond (t.Binary (t.SizeofExpr (t.Name (codes "a") (1 ∷ [])) (1 ∷ [])) punct.EqualEqual (t.Number 8 ty0.Int (1 ∷ [])) (1 ∷ [])) (t.Number 1 ty0.Int (1 ∷ [])) (t.Unary punct.Minus (t.Number 1 ty0.Int (1 ∷ [])) (1 ∷ [])) (1 ∷ 1 ∷ []))) (1 ∷ 1 ∷ [])); init = None; lines = [] } ∷ []; lines = (1 ∷ []) })) ∷ []; lines = [] })
unfolding layouts_of same_basic holds_const linkage_of clashes with_declaration with_content with_head unit_of landing puts_of constant_of is_null_constant pairing is_assignable check_gives check_chain check_here check_becomes check_look breaks node_rules rule_at same_key specs_type unary_of binary_of assignment_of
string_in_nested = refl

-- `int x = {1, 2};`
scalar_list : is_refused (record { parts = (t.Declaration (record { specs = (t.more_specs (t.Key keyword.Int (1 ∷ [])) t.no_specs); list = record { declarator = (t.Identifier (codes "x") (1 ∷ [])); init = (Some (t.Braced (t.InitialiserList (t.more_entries (t.Entry t.no_designators (t.Single (t.Number 1 ty0.Int (1 ∷ []))) []) (t.more_entries (t.Entry t.no_designators (t.Single (t.Number 2 ty0.Int (1 ∷ []))) []) t.no_entries)) false (1 ∷ 1 ∷ [])))); lines = [] } ∷ []; lines = (1 ∷ []) })) ∷ []; lines = [] }) rule.K21 1
unfolding layouts_of same_basic holds_const linkage_of clashes with_declaration with_content with_head unit_of landing puts_of constant_of is_null_constant pairing is_assignable check_gives check_chain check_here check_becomes check_look breaks node_rules rule_at same_key specs_type unary_of binary_of assignment_of
scalar_list = refl

-- `union u { int a; int b; } x = {1, 2};`
union_second : is_refused (record { parts = (t.Declaration (record { specs = (t.more_specs (t.Record true (Some (codes "u")) (t.some_members (t.more_member_decls (t.MemberDecl (t.more_specs (t.Key keyword.Int (1 ∷ [])) t.no_specs) (t.more_member_declarators (t.MemberDeclarator (t.Identifier (codes "a") (1 ∷ [])) t.no_expr (1 ∷ [])) t.no_member_declarators) (1 ∷ [])) (t.more_member_decls (t.MemberDecl (t.more_specs (t.Key keyword.Int (1 ∷ [])) t.no_specs) (t.more_member_declarators (t.MemberDeclarator (t.Identifier (codes "b") (1 ∷ [])) t.no_expr (1 ∷ [])) t.no_member_declarators) (1 ∷ [])) t.no_member_decls))) (1 ∷ 1 ∷ 1 ∷ [])) t.no_specs); list = record { declarator = (t.Identifier (codes "x") (1 ∷ [])); init = (Some (t.Braced (t.InitialiserList (t.more_entries (t.Entry t.no_designators (t.Single (t.Number 1 ty0.Int (1 ∷ []))) []) (t.more_entries (t.Entry t.no_designators (t.Single (t.Number 2 ty0.Int (1 ∷ []))) []) t.no_entries)) false (1 ∷ 1 ∷ [])))); lines = [] } ∷ []; lines = (1 ∷ []) })) ∷ []; lines = [] }) rule.K21 1
unfolding layouts_of same_basic holds_const linkage_of clashes with_declaration with_content with_head unit_of landing puts_of constant_of is_null_constant pairing is_assignable check_gives check_chain check_here check_becomes check_look breaks node_rules rule_at same_key specs_type unary_of binary_of assignment_of
union_second = refl

-- `struct { union { int a; int b; } u; int c; } x = {1, 2};`
union_in_struct : is_fine (record { parts = (t.Declaration (record { specs = (t.more_specs (t.Record false None (t.some_members (t.more_member_decls (t.MemberDecl (t.more_specs (t.Record true None (t.some_members (t.more_member_decls (t.MemberDecl (t.more_specs (t.Key keyword.Int (1 ∷ [])) t.no_specs) (t.more_member_declarators (t.MemberDeclarator (t.Identifier (codes "a") (1 ∷ [])) t.no_expr (1 ∷ [])) t.no_member_declarators) (1 ∷ [])) (t.more_member_decls (t.MemberDecl (t.more_specs (t.Key keyword.Int (1 ∷ [])) t.no_specs) (t.more_member_declarators (t.MemberDeclarator (t.Identifier (codes "b") (1 ∷ [])) t.no_expr (1 ∷ [])) t.no_member_declarators) (1 ∷ [])) t.no_member_decls))) (1 ∷ 1 ∷ 1 ∷ [])) t.no_specs) (t.more_member_declarators (t.MemberDeclarator (t.Identifier (codes "u") (1 ∷ [])) t.no_expr (1 ∷ [])) t.no_member_declarators) (1 ∷ [])) (t.more_member_decls (t.MemberDecl (t.more_specs (t.Key keyword.Int (1 ∷ [])) t.no_specs) (t.more_member_declarators (t.MemberDeclarator (t.Identifier (codes "c") (1 ∷ [])) t.no_expr (1 ∷ [])) t.no_member_declarators) (1 ∷ [])) t.no_member_decls))) (1 ∷ 1 ∷ 1 ∷ [])) t.no_specs); list = record { declarator = (t.Identifier (codes "x") (1 ∷ [])); init = (Some (t.Braced (t.InitialiserList (t.more_entries (t.Entry t.no_designators (t.Single (t.Number 1 ty0.Int (1 ∷ []))) []) (t.more_entries (t.Entry t.no_designators (t.Single (t.Number 2 ty0.Int (1 ∷ []))) []) t.no_entries)) false (1 ∷ 1 ∷ [])))); lines = [] } ∷ []; lines = (1 ∷ []) })) ∷ []; lines = [] })
unfolding layouts_of same_basic holds_const linkage_of clashes with_declaration with_content with_head unit_of landing puts_of constant_of is_null_constant pairing is_assignable check_gives check_chain check_here check_becomes check_look breaks node_rules rule_at same_key specs_type unary_of binary_of assignment_of
union_in_struct = refl

-- `int x = {[0] = 1};`
designator_of_scalar : is_refused (record { parts = (t.Declaration (record { specs = (t.more_specs (t.Key keyword.Int (1 ∷ [])) t.no_specs); list = record { declarator = (t.Identifier (codes "x") (1 ∷ [])); init = (Some (t.Braced (t.InitialiserList (t.more_entries (t.Entry (t.more_designators (t.Element (t.Number 0 ty0.Int (1 ∷ [])) (1 ∷ 1 ∷ [])) t.no_designators) (t.Single (t.Number 1 ty0.Int (1 ∷ []))) []) t.no_entries) false (1 ∷ 1 ∷ [])))); lines = [] } ∷ []; lines = (1 ∷ []) })) ∷ []; lines = [] }) rule.K21 1
unfolding layouts_of same_basic holds_const linkage_of clashes with_declaration with_content with_head unit_of landing puts_of constant_of is_null_constant pairing is_assignable check_gives check_chain check_here check_becomes check_look breaks node_rules rule_at same_key specs_type unary_of binary_of assignment_of
designator_of_scalar = refl

-- `struct s { int a; } x = {.b = 1};`
designator_unknown : is_refused (record { parts = (t.Declaration (record { specs = (t.more_specs (t.Record false (Some (codes "s")) (t.some_members (t.more_member_decls (t.MemberDecl (t.more_specs (t.Key keyword.Int (1 ∷ [])) t.no_specs) (t.more_member_declarators (t.MemberDeclarator (t.Identifier (codes "a") (1 ∷ [])) t.no_expr (1 ∷ [])) t.no_member_declarators) (1 ∷ [])) t.no_member_decls)) (1 ∷ 1 ∷ 1 ∷ [])) t.no_specs); list = record { declarator = (t.Identifier (codes "x") (1 ∷ [])); init = (Some (t.Braced (t.InitialiserList (t.more_entries (t.Entry (t.more_designators (t.Member (codes "b") (1 ∷ 1 ∷ [])) t.no_designators) (t.Single (t.Number 1 ty0.Int (1 ∷ []))) []) t.no_entries) false (1 ∷ 1 ∷ [])))); lines = [] } ∷ []; lines = (1 ∷ []) })) ∷ []; lines = [] }) rule.K21 1
unfolding layouts_of same_basic holds_const linkage_of clashes with_declaration with_content with_head unit_of landing puts_of constant_of is_null_constant pairing is_assignable check_gives check_chain check_here check_becomes check_look breaks node_rules rule_at same_key specs_type unary_of binary_of assignment_of
designator_unknown = refl

-- `int a[] = {[-1] = 1};`
designator_negative : is_refused (record { parts = (t.Declaration (record { specs = (t.more_specs (t.Key keyword.Int (1 ∷ [])) t.no_specs); list = record { declarator = (t.Array (t.Identifier (codes "a") (1 ∷ [])) (t.Unsized []) (1 ∷ 1 ∷ [])); init = (Some (t.Braced (t.InitialiserList (t.more_entries (t.Entry (t.more_designators (t.Element (t.Unary punct.Minus (t.Number 1 ty0.Int (1 ∷ [])) (1 ∷ [])) (1 ∷ 1 ∷ [])) t.no_designators) (t.Single (t.Number 1 ty0.Int (1 ∷ []))) []) t.no_entries) false (1 ∷ 1 ∷ [])))); lines = [] } ∷ []; lines = (1 ∷ []) })) ∷ []; lines = [] }) rule.K21 1
unfolding layouts_of same_basic holds_const linkage_of clashes with_declaration with_content with_head unit_of landing puts_of constant_of is_null_constant pairing is_assignable check_gives check_chain check_here check_becomes check_look breaks node_rules rule_at same_key specs_type unary_of binary_of assignment_of
designator_negative = refl

-- `int main(void) { int n = 1; int a[2] = {[n + 0] = 1}; return 0; }`
designator_not_constant : is_refused (record { parts = (t.Defined (record { specs = (t.more_specs (t.Key keyword.Int (1 ∷ [])) t.no_specs); declarator = (t.Function (t.Identifier (codes "main") (1 ∷ [])) (t.more_params (t.Param (t.more_specs (t.Key keyword.Void (1 ∷ [])) t.no_specs) t.Missing []) t.no_params) false (1 ∷ 1 ∷ [])); body = t.Block (t.more_items (t.Declared (record { specs = (t.more_specs (t.Key keyword.Int (1 ∷ [])) t.no_specs); list = record { declarator = (t.Identifier (codes "n") (1 ∷ [])); init = (Some (t.Single (t.Number 1 ty0.Int (1 ∷ [])))); lines = [] } ∷ []; lines = (1 ∷ []) })) (t.more_items (t.Declared (record { specs = (t.more_specs (t.Key keyword.Int (1 ∷ [])) t.no_specs); list = record { declarator = (t.Array (t.Identifier (codes "a") (1 ∷ [])) (t.Length [] (t.Number 2 ty0.Int (1 ∷ []))) (1 ∷ 1 ∷ [])); init = (Some (t.Braced (t.InitialiserList (t.more_entries (t.Entry (t.more_designators (t.Element (t.Binary (t.Name (codes "n") (1 ∷ [])) punct.Plus (t.Number 0 ty0.Int (1 ∷ [])) (1 ∷ [])) (1 ∷ 1 ∷ [])) t.no_designators) (t.Single (t.Number 1 ty0.Int (1 ∷ []))) []) t.no_entries) false (1 ∷ 1 ∷ [])))); lines = [] } ∷ []; lines = (1 ∷ []) })) (t.more_items (t.Statement (t.Return (t.some_expr (t.Number 0 ty0.Int (1 ∷ []))) (1 ∷ 1 ∷ []))) t.no_items))) (1 ∷ 1 ∷ []); lines = [] })) ∷ []; lines = [] }) rule.K17 1
unfolding layouts_of same_basic holds_const linkage_of clashes with_declaration with_content with_head unit_of landing puts_of constant_of is_null_constant pairing is_assignable check_gives check_chain check_here check_becomes check_look breaks node_rules rule_at same_key specs_type unary_of binary_of assignment_of
designator_not_constant = refl

-- `int f(void) = 1;`
function_init : is_refused (record { parts = (t.Declaration (record { specs = (t.more_specs (t.Key keyword.Int (1 ∷ [])) t.no_specs); list = record { declarator = (t.Function (t.Identifier (codes "f") (1 ∷ [])) (t.more_params (t.Param (t.more_specs (t.Key keyword.Void (1 ∷ [])) t.no_specs) t.Missing []) t.no_params) false (1 ∷ 1 ∷ [])); init = (Some (t.Single (t.Number 1 ty0.Int (1 ∷ [])))); lines = [] } ∷ []; lines = (1 ∷ []) })) ∷ []; lines = [] }) rule.K21 1
unfolding layouts_of same_basic holds_const linkage_of clashes with_declaration with_content with_head unit_of landing puts_of constant_of is_null_constant pairing is_assignable check_gives check_chain check_here check_becomes check_look breaks node_rules rule_at same_key specs_type unary_of binary_of assignment_of
function_init = refl

-- `extern int x = 1;`
extern_init : is_fine (record { parts = (t.Declaration (record { specs = (t.more_specs (t.Key keyword.Extern (1 ∷ [])) (t.more_specs (t.Key keyword.Int (1 ∷ [])) t.no_specs)); list = record { declarator = (t.Identifier (codes "x") (1 ∷ [])); init = (Some (t.Single (t.Number 1 ty0.Int (1 ∷ [])))); lines = [] } ∷ []; lines = (1 ∷ []) })) ∷ []; lines = [] })
unfolding layouts_of same_basic holds_const linkage_of clashes with_declaration with_content with_head unit_of landing puts_of constant_of is_null_constant pairing is_assignable check_gives check_chain check_here check_becomes check_look breaks node_rules rule_at same_key specs_type unary_of binary_of assignment_of
extern_init = refl

-- `struct s; struct s x = {1};`
incomplete_init : is_refused (record { parts = (t.Declaration (record { specs = (t.more_specs (t.Record false (Some (codes "s")) t.no_members (1 ∷ 1 ∷ [])) t.no_specs); list = []; lines = (1 ∷ []) })) ∷ (t.Declaration (record { specs = (t.more_specs (t.Record false (Some (codes "s")) t.no_members (1 ∷ 1 ∷ [])) t.no_specs); list = record { declarator = (t.Identifier (codes "x") (1 ∷ [])); init = (Some (t.Braced (t.InitialiserList (t.more_entries (t.Entry t.no_designators (t.Single (t.Number 1 ty0.Int (1 ∷ []))) []) t.no_entries) false (1 ∷ 1 ∷ [])))); lines = [] } ∷ []; lines = (1 ∷ []) })) ∷ []; lines = [] }) rule.K21 1
unfolding layouts_of same_basic holds_const linkage_of clashes with_declaration with_content with_head unit_of landing puts_of constant_of is_null_constant pairing is_assignable check_gives check_chain check_here check_becomes check_look breaks node_rules rule_at same_key specs_type unary_of binary_of assignment_of
incomplete_init = refl

-- `struct s { int a; } x = 5;`
struct_by_value : is_refused (record { parts = (t.Declaration (record { specs = (t.more_specs (t.Record false (Some (codes "s")) (t.some_members (t.more_member_decls (t.MemberDecl (t.more_specs (t.Key keyword.Int (1 ∷ [])) t.no_specs) (t.more_member_declarators (t.MemberDeclarator (t.Identifier (codes "a") (1 ∷ [])) t.no_expr (1 ∷ [])) t.no_member_declarators) (1 ∷ [])) t.no_member_decls)) (1 ∷ 1 ∷ 1 ∷ [])) t.no_specs); list = record { declarator = (t.Identifier (codes "x") (1 ∷ [])); init = (Some (t.Single (t.Number 5 ty0.Int (1 ∷ [])))); lines = [] } ∷ []; lines = (1 ∷ []) })) ∷ []; lines = [] }) rule.K12 1
unfolding layouts_of same_basic holds_const linkage_of clashes with_declaration with_content with_head unit_of landing puts_of constant_of is_null_constant pairing is_assignable check_gives check_chain check_here check_becomes check_look breaks node_rules rule_at same_key specs_type unary_of binary_of assignment_of
struct_by_value = refl

-- `int a[2], b[2]; int main(void) { int c[2] = a; return 0; }`
array_by_value : is_refused (record { parts = (t.Declaration (record { specs = (t.more_specs (t.Key keyword.Int (1 ∷ [])) t.no_specs); list = record { declarator = (t.Array (t.Identifier (codes "a") (1 ∷ [])) (t.Length [] (t.Number 2 ty0.Int (1 ∷ []))) (1 ∷ 1 ∷ [])); init = None; lines = [] } ∷ []; lines = (1 ∷ []) })) ∷ (t.Declaration (record { specs = (t.more_specs (t.Key keyword.Int (1 ∷ [])) t.no_specs); list = record { declarator = (t.Array (t.Identifier (codes "b") (1 ∷ [])) (t.Length [] (t.Number 2 ty0.Int (1 ∷ []))) (1 ∷ 1 ∷ [])); init = None; lines = [] } ∷ []; lines = (1 ∷ []) })) ∷ (t.Defined (record { specs = (t.more_specs (t.Key keyword.Int (1 ∷ [])) t.no_specs); declarator = (t.Function (t.Identifier (codes "main") (1 ∷ [])) (t.more_params (t.Param (t.more_specs (t.Key keyword.Void (1 ∷ [])) t.no_specs) t.Missing []) t.no_params) false (1 ∷ 1 ∷ [])); body = t.Block (t.more_items (t.Declared (record { specs = (t.more_specs (t.Key keyword.Int (1 ∷ [])) t.no_specs); list = record { declarator = (t.Array (t.Identifier (codes "c") (1 ∷ [])) (t.Length [] (t.Number 2 ty0.Int (1 ∷ []))) (1 ∷ 1 ∷ [])); init = (Some (t.Single (t.Name (codes "a") (1 ∷ [])))); lines = [] } ∷ []; lines = (1 ∷ []) })) (t.more_items (t.Statement (t.Return (t.some_expr (t.Number 0 ty0.Int (1 ∷ []))) (1 ∷ 1 ∷ []))) t.no_items)) (1 ∷ 1 ∷ []); lines = [] })) ∷ []; lines = [] }) rule.K12 1
unfolding layouts_of same_basic holds_const linkage_of clashes with_declaration with_content with_head unit_of landing puts_of constant_of is_null_constant pairing is_assignable check_gives check_chain check_here check_becomes check_look breaks node_rules rule_at same_key specs_type unary_of binary_of assignment_of
array_by_value = refl

-- `int a[] = {1, 2, [5] = 3}; char b[sizeof a == 24 ? 1 : -1];`
length_given : is_fine (record { parts = (t.Declaration (record { specs = (t.more_specs (t.Key keyword.Int (1 ∷ [])) t.no_specs); list = record { declarator = (t.Array (t.Identifier (codes "a") (1 ∷ [])) (t.Unsized []) (1 ∷ 1 ∷ [])); init = (Some (t.Braced (t.InitialiserList (t.more_entries (t.Entry t.no_designators (t.Single (t.Number 1 ty0.Int (1 ∷ []))) []) (t.more_entries (t.Entry t.no_designators (t.Single (t.Number 2 ty0.Int (1 ∷ []))) []) (t.more_entries (t.Entry (t.more_designators (t.Element (t.Number 5 ty0.Int (1 ∷ [])) (1 ∷ 1 ∷ [])) t.no_designators) (t.Single (t.Number 3 ty0.Int (1 ∷ []))) []) t.no_entries))) false (1 ∷ 1 ∷ [])))); lines = [] } ∷ []; lines = (1 ∷ []) })) ∷ (t.Declaration (record { specs = (t.more_specs (t.Key keyword.Char (1 ∷ [])) t.no_specs); list = record { declarator = (t.Array (t.Identifier (codes "b") (1 ∷ [])) (t.Length [] (t.Cond (t.Binary (t.SizeofExpr (t.Name (codes "a") (1 ∷ [])) (1 ∷ [])) punct.EqualEqual (t.Number 24 ty0.Int (1 ∷ [])) (1 ∷ [])) (t.Number 1 ty0.Int (1 ∷ [])) (t.Unary punct.Minus (t.Number 1 ty0.Int (1 ∷ [])) (1 ∷ [])) (1 ∷ 1 ∷ []))) (1 ∷ 1 ∷ [])); init = None; lines = [] } ∷ []; lines = (1 ∷ []) })) ∷ []; lines = [] })
unfolding layouts_of same_basic holds_const linkage_of clashes with_declaration with_content with_head unit_of landing puts_of constant_of is_null_constant pairing is_assignable check_gives check_chain check_here check_becomes check_look breaks node_rules rule_at same_key specs_type unary_of binary_of assignment_of
length_given = refl

-- `char a[] = "abc"; char b[sizeof a == 4 ? 1 : -1];`
length_of_string : is_fine (record { parts = (t.Declaration (record { specs = (t.more_specs (t.Key keyword.Char (1 ∷ [])) t.no_specs); list = record { declarator = (t.Array (t.Identifier (codes "a") (1 ∷ [])) (t.Unsized []) (1 ∷ 1 ∷ [])); init = (Some (t.Single (t.Text ((codes "abc") ∷ []) (1 ∷ [])))); lines = [] } ∷ []; lines = (1 ∷ []) })) ∷ (t.Declaration (record { specs = (t.more_specs (t.Key keyword.Char (1 ∷ [])) t.no_specs); list = record { declarator = (t.Array (t.Identifier (codes "b") (1 ∷ [])) (t.Length [] (t.Cond (t.Binary (t.SizeofExpr (t.Name (codes "a") (1 ∷ [])) (1 ∷ [])) punct.EqualEqual (t.Number 4 ty0.Int (1 ∷ [])) (1 ∷ [])) (t.Number 1 ty0.Int (1 ∷ [])) (t.Unary punct.Minus (t.Number 1 ty0.Int (1 ∷ [])) (1 ∷ [])) (1 ∷ 1 ∷ []))) (1 ∷ 1 ∷ [])); init = None; lines = [] } ∷ []; lines = (1 ∷ []) })) ∷ []; lines = [] })
unfolding layouts_of same_basic holds_const linkage_of clashes with_declaration with_content with_head unit_of landing puts_of constant_of is_null_constant pairing is_assignable check_gives check_chain check_here check_becomes check_look breaks node_rules rule_at same_key specs_type unary_of binary_of assignment_of
length_of_string = refl

-- `struct s { int a : 3; int : 2; int b; } x = {1, 2, 3};`
unnamed_is_skipped : is_refused (record { parts = (t.Declaration (record { specs = (t.more_specs (t.Record false (Some (codes "s")) (t.some_members (t.more_member_decls (t.MemberDecl (t.more_specs (t.Key keyword.Int (1 ∷ [])) t.no_specs) (t.more_member_declarators (t.MemberDeclarator (t.Identifier (codes "a") (1 ∷ [])) (t.some_expr (t.Number 3 ty0.Int (1 ∷ []))) (1 ∷ [])) t.no_member_declarators) (1 ∷ [])) (t.more_member_decls (t.MemberDecl (t.more_specs (t.Key keyword.Int (1 ∷ [])) t.no_specs) (t.more_member_declarators (t.MemberDeclarator t.Missing (t.some_expr (t.Number 2 ty0.Int (1 ∷ []))) (1 ∷ [])) t.no_member_declarators) (1 ∷ [])) (t.more_member_decls (t.MemberDecl (t.more_specs (t.Key keyword.Int (1 ∷ [])) t.no_specs) (t.more_member_declarators (t.MemberDeclarator (t.Identifier (codes "b") (1 ∷ [])) t.no_expr (1 ∷ [])) t.no_member_declarators) (1 ∷ [])) t.no_member_decls)))) (1 ∷ 1 ∷ 1 ∷ [])) t.no_specs); list = record { declarator = (t.Identifier (codes "x") (1 ∷ [])); init = (Some (t.Braced (t.InitialiserList (t.more_entries (t.Entry t.no_designators (t.Single (t.Number 1 ty0.Int (1 ∷ []))) []) (t.more_entries (t.Entry t.no_designators (t.Single (t.Number 2 ty0.Int (1 ∷ []))) []) (t.more_entries (t.Entry t.no_designators (t.Single (t.Number 3 ty0.Int (1 ∷ []))) []) t.no_entries))) false (1 ∷ 1 ∷ [])))); lines = [] } ∷ []; lines = (1 ∷ []) })) ∷ []; lines = [] }) rule.K21 1
unfolding layouts_of same_basic holds_const linkage_of clashes with_declaration with_content with_head unit_of landing puts_of constant_of is_null_constant pairing is_assignable check_gives check_chain check_here check_becomes check_look breaks node_rules rule_at same_key specs_type unary_of binary_of assignment_of
unnamed_is_skipped = refl
