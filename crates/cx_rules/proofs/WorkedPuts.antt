-- Worked units: what the first object of each holds before the program begins, as its bytes with puts and their numbers.
use Rattle.std.specs.Prelude.{◌≡◌, ℕ, ℤ, pos, true, false, List, [], ◌∷◌, None, Some, codes}
use mathlib.Core.Path.{refl}
use Rattle.cx_lex.specs.declared.token.Keyword.TheVariants as keyword
use Rattle.cx_lex.specs.declared.token.Ty0.TheVariants as ty0
use Rattle.cx_tree.specs.Trees as t
use Rattle.cx_tree.specs.Trees.{UnitTree}
use Rattle.cx_core.specs.Layouts.{layouts_of}
use Rattle.cx_core.specs.Conversions.{same_basic}
use Rattle.cx_core.specs.ValidTypes.{holds_const}
use Rattle.cx_rules.specs.Declare.{linkage_of, clashes, with_declaration, with_content, with_head, unit_of}
use Rattle.cx_rules.specs.Initial.{landing, puts_of}
use Rattle.cx_rules.specs.Operands.{constant_of, is_null_constant}
use Rattle.cx_rules.specs.Pairs.{pairing, is_assignable}
use Rattle.cx_rules.specs.Readings.{CChecked, stops, fine, check_gives, check_chain, check_here, check_becomes, check_look}
use Rattle.cx_rules.specs.Rules.{breaks, node_rules, rule_at}
use Rattle.cx_rules.specs.Shapes.{same_key, specs_type}
use Rattle.cx_rules.specs.Pieces.{unary_of, binary_of, assignment_of}
use Rattle.cx_core.specs.Trees.{CUnit, CObject, CPuts, no_puts, more_puts, put, CExpr, expr, whole, convert}
use Rattle.cx_rules.specs.Scope.{new_scope}
use Rattle.cx_rules.specs.Units.{check_unit}

-- a byte, and the number that is stored there
record CHeld : Type 0 where
  byte : ℕ
  number : ℤ

abbrev number_in : CExpr → ℤ
number_in (expr type place (whole value)) = value
number_in (expr type place (convert value)) = number_in value
number_in (expr type place form) = pos 0

abbrev held_by : CPuts → List CHeld
held_by no_puts = []
held_by (more_puts (put spot type value) others) = record { byte = spot.byte; number = number_in value } ∷ held_by others

abbrev first_held : List CObject → List CHeld
first_held [] = []
first_held (one ∷ others) = elim one.puts as (λ _. List CHeld) [ None ↦ [] | Some puts ↦ held_by puts ]

abbrev held_in : CChecked CUnit → List CHeld
held_in (stops refusal) = []
held_in (fine unit scope) = first_held unit.objects

abbrev held : UnitTree → List CHeld
held tree = held_in (check_unit tree (new_scope 0))

-- `int a[5] = {[3] = 1, 2, [0] = 9};`
by_designators : held (record { parts = (t.Declaration (record { specs = (t.more_specs (t.Key keyword.Int (1 ∷ [])) t.no_specs); list = record { declarator = (t.Array (t.Identifier (codes "a") (1 ∷ [])) (t.Length [] (t.Number 5 ty0.Int (1 ∷ []))) (1 ∷ 1 ∷ [])); init = (Some (t.Braced (t.InitialiserList (t.more_entries (t.Entry (t.more_designators (t.Element (t.Number 3 ty0.Int (1 ∷ [])) (1 ∷ 1 ∷ [])) t.no_designators) (t.Single (t.Number 1 ty0.Int (1 ∷ []))) []) (t.more_entries (t.Entry t.no_designators (t.Single (t.Number 2 ty0.Int (1 ∷ []))) []) (t.more_entries (t.Entry (t.more_designators (t.Element (t.Number 0 ty0.Int (1 ∷ [])) (1 ∷ 1 ∷ [])) t.no_designators) (t.Single (t.Number 9 ty0.Int (1 ∷ []))) []) t.no_entries))) false (1 ∷ 1 ∷ [])))); lines = [] } ∷ []; lines = (1 ∷ []) })) ∷ []; lines = [] }) ≡ record { byte = 0; number = pos 9 } ∷ record { byte = 12; number = pos 1 } ∷ record { byte = 16; number = pos 2 } ∷ []
unfolding layouts_of same_basic holds_const linkage_of clashes with_declaration with_content with_head unit_of landing puts_of constant_of is_null_constant pairing is_assignable check_gives check_chain check_here check_becomes check_look breaks node_rules rule_at same_key specs_type unary_of binary_of assignment_of
by_designators = refl

-- `struct { int a[2]; int b; } x = {.a[0] = 1, .a = {[1] = 2}, 3};`
list_over_member : held (record { parts = (t.Declaration (record { specs = (t.more_specs (t.Record false None (t.some_members (t.more_member_decls (t.MemberDecl (t.more_specs (t.Key keyword.Int (1 ∷ [])) t.no_specs) (t.more_member_declarators (t.MemberDeclarator (t.Array (t.Identifier (codes "a") (1 ∷ [])) (t.Length [] (t.Number 2 ty0.Int (1 ∷ []))) (1 ∷ 1 ∷ [])) t.no_expr (1 ∷ [])) t.no_member_declarators) (1 ∷ [])) (t.more_member_decls (t.MemberDecl (t.more_specs (t.Key keyword.Int (1 ∷ [])) t.no_specs) (t.more_member_declarators (t.MemberDeclarator (t.Identifier (codes "b") (1 ∷ [])) t.no_expr (1 ∷ [])) t.no_member_declarators) (1 ∷ [])) t.no_member_decls))) (1 ∷ 1 ∷ 1 ∷ [])) t.no_specs); list = record { declarator = (t.Identifier (codes "x") (1 ∷ [])); init = (Some (t.Braced (t.InitialiserList (t.more_entries (t.Entry (t.more_designators (t.Member (codes "a") (1 ∷ 1 ∷ [])) (t.more_designators (t.Element (t.Number 0 ty0.Int (1 ∷ [])) (1 ∷ 1 ∷ [])) t.no_designators)) (t.Single (t.Number 1 ty0.Int (1 ∷ []))) []) (t.more_entries (t.Entry (t.more_designators (t.Member (codes "a") (1 ∷ 1 ∷ [])) t.no_designators) (t.Braced (t.InitialiserList (t.more_entries (t.Entry (t.more_designators (t.Element (t.Number 1 ty0.Int (1 ∷ [])) (1 ∷ 1 ∷ [])) t.no_designators) (t.Single (t.Number 2 ty0.Int (1 ∷ []))) []) t.no_entries) false (1 ∷ 1 ∷ []))) []) (t.more_entries (t.Entry t.no_designators (t.Single (t.Number 3 ty0.Int (1 ∷ []))) []) t.no_entries))) false (1 ∷ 1 ∷ [])))); lines = [] } ∷ []; lines = (1 ∷ []) })) ∷ []; lines = [] }) ≡ record { byte = 4; number = pos 2 } ∷ record { byte = 8; number = pos 3 } ∷ []
unfolding layouts_of same_basic holds_const linkage_of clashes with_declaration with_content with_head unit_of landing puts_of constant_of is_null_constant pairing is_assignable check_gives check_chain check_here check_becomes check_look breaks node_rules rule_at same_key specs_type unary_of binary_of assignment_of
list_over_member = refl

-- `struct { int a[2]; int b; } x = {.a = {1, 2}, .a[0] = 3};`
member_over_list : held (record { parts = (t.Declaration (record { specs = (t.more_specs (t.Record false None (t.some_members (t.more_member_decls (t.MemberDecl (t.more_specs (t.Key keyword.Int (1 ∷ [])) t.no_specs) (t.more_member_declarators (t.MemberDeclarator (t.Array (t.Identifier (codes "a") (1 ∷ [])) (t.Length [] (t.Number 2 ty0.Int (1 ∷ []))) (1 ∷ 1 ∷ [])) t.no_expr (1 ∷ [])) t.no_member_declarators) (1 ∷ [])) (t.more_member_decls (t.MemberDecl (t.more_specs (t.Key keyword.Int (1 ∷ [])) t.no_specs) (t.more_member_declarators (t.MemberDeclarator (t.Identifier (codes "b") (1 ∷ [])) t.no_expr (1 ∷ [])) t.no_member_declarators) (1 ∷ [])) t.no_member_decls))) (1 ∷ 1 ∷ 1 ∷ [])) t.no_specs); list = record { declarator = (t.Identifier (codes "x") (1 ∷ [])); init = (Some (t.Braced (t.InitialiserList (t.more_entries (t.Entry (t.more_designators (t.Member (codes "a") (1 ∷ 1 ∷ [])) t.no_designators) (t.Braced (t.InitialiserList (t.more_entries (t.Entry t.no_designators (t.Single (t.Number 1 ty0.Int (1 ∷ []))) []) (t.more_entries (t.Entry t.no_designators (t.Single (t.Number 2 ty0.Int (1 ∷ []))) []) t.no_entries)) false (1 ∷ 1 ∷ []))) []) (t.more_entries (t.Entry (t.more_designators (t.Member (codes "a") (1 ∷ 1 ∷ [])) (t.more_designators (t.Element (t.Number 0 ty0.Int (1 ∷ [])) (1 ∷ 1 ∷ [])) t.no_designators)) (t.Single (t.Number 3 ty0.Int (1 ∷ []))) []) t.no_entries)) false (1 ∷ 1 ∷ [])))); lines = [] } ∷ []; lines = (1 ∷ []) })) ∷ []; lines = [] }) ≡ record { byte = 0; number = pos 3 } ∷ record { byte = 4; number = pos 2 } ∷ []
unfolding layouts_of same_basic holds_const linkage_of clashes with_declaration with_content with_head unit_of landing puts_of constant_of is_null_constant pairing is_assignable check_gives check_chain check_here check_becomes check_look breaks node_rules rule_at same_key specs_type unary_of binary_of assignment_of
member_over_list = refl

-- `struct { char s[4]; } x = {.s[3] = 7, .s = "a"};`
text_over_element : held (record { parts = (t.Declaration (record { specs = (t.more_specs (t.Record false None (t.some_members (t.more_member_decls (t.MemberDecl (t.more_specs (t.Key keyword.Char (1 ∷ [])) t.no_specs) (t.more_member_declarators (t.MemberDeclarator (t.Array (t.Identifier (codes "s") (1 ∷ [])) (t.Length [] (t.Number 4 ty0.Int (1 ∷ []))) (1 ∷ 1 ∷ [])) t.no_expr (1 ∷ [])) t.no_member_declarators) (1 ∷ [])) t.no_member_decls)) (1 ∷ 1 ∷ 1 ∷ [])) t.no_specs); list = record { declarator = (t.Identifier (codes "x") (1 ∷ [])); init = (Some (t.Braced (t.InitialiserList (t.more_entries (t.Entry (t.more_designators (t.Member (codes "s") (1 ∷ 1 ∷ [])) (t.more_designators (t.Element (t.Number 3 ty0.Int (1 ∷ [])) (1 ∷ 1 ∷ [])) t.no_designators)) (t.Single (t.Number 7 ty0.Int (1 ∷ []))) []) (t.more_entries (t.Entry (t.more_designators (t.Member (codes "s") (1 ∷ 1 ∷ [])) t.no_designators) (t.Single (t.Text ((codes "a") ∷ []) (1 ∷ []))) []) t.no_entries)) false (1 ∷ 1 ∷ [])))); lines = [] } ∷ []; lines = (1 ∷ []) })) ∷ []; lines = [] }) ≡ record { byte = 0; number = pos 97 } ∷ record { byte = 1; number = pos 0 } ∷ []
unfolding layouts_of same_basic holds_const linkage_of clashes with_declaration with_content with_head unit_of landing puts_of constant_of is_null_constant pairing is_assignable check_gives check_chain check_here check_becomes check_look breaks node_rules rule_at same_key specs_type unary_of binary_of assignment_of
text_over_element = refl

-- `struct { char s[4]; } x = {.s = "a", .s[0] = 7};`
element_over_text : held (record { parts = (t.Declaration (record { specs = (t.more_specs (t.Record false None (t.some_members (t.more_member_decls (t.MemberDecl (t.more_specs (t.Key keyword.Char (1 ∷ [])) t.no_specs) (t.more_member_declarators (t.MemberDeclarator (t.Array (t.Identifier (codes "s") (1 ∷ [])) (t.Length [] (t.Number 4 ty0.Int (1 ∷ []))) (1 ∷ 1 ∷ [])) t.no_expr (1 ∷ [])) t.no_member_declarators) (1 ∷ [])) t.no_member_decls)) (1 ∷ 1 ∷ 1 ∷ [])) t.no_specs); list = record { declarator = (t.Identifier (codes "x") (1 ∷ [])); init = (Some (t.Braced (t.InitialiserList (t.more_entries (t.Entry (t.more_designators (t.Member (codes "s") (1 ∷ 1 ∷ [])) t.no_designators) (t.Single (t.Text ((codes "a") ∷ []) (1 ∷ []))) []) (t.more_entries (t.Entry (t.more_designators (t.Member (codes "s") (1 ∷ 1 ∷ [])) (t.more_designators (t.Element (t.Number 0 ty0.Int (1 ∷ [])) (1 ∷ 1 ∷ [])) t.no_designators)) (t.Single (t.Number 7 ty0.Int (1 ∷ []))) []) t.no_entries)) false (1 ∷ 1 ∷ [])))); lines = [] } ∷ []; lines = (1 ∷ []) })) ∷ []; lines = [] }) ≡ record { byte = 0; number = pos 7 } ∷ record { byte = 1; number = pos 0 } ∷ []
unfolding layouts_of same_basic holds_const linkage_of clashes with_declaration with_content with_head unit_of landing puts_of constant_of is_null_constant pairing is_assignable check_gives check_chain check_here check_becomes check_look breaks node_rules rule_at same_key specs_type unary_of binary_of assignment_of
element_over_text = refl

-- `struct { int a; int b; } x[2] = {{1, 2}, 3, [0] = {.b = 4}};`
list_over_list : held (record { parts = (t.Declaration (record { specs = (t.more_specs (t.Record false None (t.some_members (t.more_member_decls (t.MemberDecl (t.more_specs (t.Key keyword.Int (1 ∷ [])) t.no_specs) (t.more_member_declarators (t.MemberDeclarator (t.Identifier (codes "a") (1 ∷ [])) t.no_expr (1 ∷ [])) t.no_member_declarators) (1 ∷ [])) (t.more_member_decls (t.MemberDecl (t.more_specs (t.Key keyword.Int (1 ∷ [])) t.no_specs) (t.more_member_declarators (t.MemberDeclarator (t.Identifier (codes "b") (1 ∷ [])) t.no_expr (1 ∷ [])) t.no_member_declarators) (1 ∷ [])) t.no_member_decls))) (1 ∷ 1 ∷ 1 ∷ [])) t.no_specs); list = record { declarator = (t.Array (t.Identifier (codes "x") (1 ∷ [])) (t.Length [] (t.Number 2 ty0.Int (1 ∷ []))) (1 ∷ 1 ∷ [])); init = (Some (t.Braced (t.InitialiserList (t.more_entries (t.Entry t.no_designators (t.Braced (t.InitialiserList (t.more_entries (t.Entry t.no_designators (t.Single (t.Number 1 ty0.Int (1 ∷ []))) []) (t.more_entries (t.Entry t.no_designators (t.Single (t.Number 2 ty0.Int (1 ∷ []))) []) t.no_entries)) false (1 ∷ 1 ∷ []))) []) (t.more_entries (t.Entry t.no_designators (t.Single (t.Number 3 ty0.Int (1 ∷ []))) []) (t.more_entries (t.Entry (t.more_designators (t.Element (t.Number 0 ty0.Int (1 ∷ [])) (1 ∷ 1 ∷ [])) t.no_designators) (t.Braced (t.InitialiserList (t.more_entries (t.Entry (t.more_designators (t.Member (codes "b") (1 ∷ 1 ∷ [])) t.no_designators) (t.Single (t.Number 4 ty0.Int (1 ∷ []))) []) t.no_entries) false (1 ∷ 1 ∷ []))) []) t.no_entries))) false (1 ∷ 1 ∷ [])))); lines = [] } ∷ []; lines = (1 ∷ []) })) ∷ []; lines = [] }) ≡ record { byte = 4; number = pos 4 } ∷ record { byte = 8; number = pos 3 } ∷ []
unfolding layouts_of same_basic holds_const linkage_of clashes with_declaration with_content with_head unit_of landing puts_of constant_of is_null_constant pairing is_assignable check_gives check_chain check_here check_becomes check_look breaks node_rules rule_at same_key specs_type unary_of binary_of assignment_of
list_over_list = refl

-- `union { int a[2]; int b; } x = {.b = 1, .a[1] = 2};`
union_over_member : held (record { parts = (t.Declaration (record { specs = (t.more_specs (t.Record true None (t.some_members (t.more_member_decls (t.MemberDecl (t.more_specs (t.Key keyword.Int (1 ∷ [])) t.no_specs) (t.more_member_declarators (t.MemberDeclarator (t.Array (t.Identifier (codes "a") (1 ∷ [])) (t.Length [] (t.Number 2 ty0.Int (1 ∷ []))) (1 ∷ 1 ∷ [])) t.no_expr (1 ∷ [])) t.no_member_declarators) (1 ∷ [])) (t.more_member_decls (t.MemberDecl (t.more_specs (t.Key keyword.Int (1 ∷ [])) t.no_specs) (t.more_member_declarators (t.MemberDeclarator (t.Identifier (codes "b") (1 ∷ [])) t.no_expr (1 ∷ [])) t.no_member_declarators) (1 ∷ [])) t.no_member_decls))) (1 ∷ 1 ∷ 1 ∷ [])) t.no_specs); list = record { declarator = (t.Identifier (codes "x") (1 ∷ [])); init = (Some (t.Braced (t.InitialiserList (t.more_entries (t.Entry (t.more_designators (t.Member (codes "b") (1 ∷ 1 ∷ [])) t.no_designators) (t.Single (t.Number 1 ty0.Int (1 ∷ []))) []) (t.more_entries (t.Entry (t.more_designators (t.Member (codes "a") (1 ∷ 1 ∷ [])) (t.more_designators (t.Element (t.Number 1 ty0.Int (1 ∷ [])) (1 ∷ 1 ∷ [])) t.no_designators)) (t.Single (t.Number 2 ty0.Int (1 ∷ []))) []) t.no_entries)) false (1 ∷ 1 ∷ [])))); lines = [] } ∷ []; lines = (1 ∷ []) })) ∷ []; lines = [] }) ≡ record { byte = 4; number = pos 2 } ∷ []
unfolding layouts_of same_basic holds_const linkage_of clashes with_declaration with_content with_head unit_of landing puts_of constant_of is_null_constant pairing is_assignable check_gives check_chain check_here check_becomes check_look breaks node_rules rule_at same_key specs_type unary_of binary_of assignment_of
union_over_member = refl

-- `struct { int a[2]; int b; } x = {.a[1] = 1, 2};`
behind_designator : held (record { parts = (t.Declaration (record { specs = (t.more_specs (t.Record false None (t.some_members (t.more_member_decls (t.MemberDecl (t.more_specs (t.Key keyword.Int (1 ∷ [])) t.no_specs) (t.more_member_declarators (t.MemberDeclarator (t.Array (t.Identifier (codes "a") (1 ∷ [])) (t.Length [] (t.Number 2 ty0.Int (1 ∷ []))) (1 ∷ 1 ∷ [])) t.no_expr (1 ∷ [])) t.no_member_declarators) (1 ∷ [])) (t.more_member_decls (t.MemberDecl (t.more_specs (t.Key keyword.Int (1 ∷ [])) t.no_specs) (t.more_member_declarators (t.MemberDeclarator (t.Identifier (codes "b") (1 ∷ [])) t.no_expr (1 ∷ [])) t.no_member_declarators) (1 ∷ [])) t.no_member_decls))) (1 ∷ 1 ∷ 1 ∷ [])) t.no_specs); list = record { declarator = (t.Identifier (codes "x") (1 ∷ [])); init = (Some (t.Braced (t.InitialiserList (t.more_entries (t.Entry (t.more_designators (t.Member (codes "a") (1 ∷ 1 ∷ [])) (t.more_designators (t.Element (t.Number 1 ty0.Int (1 ∷ [])) (1 ∷ 1 ∷ [])) t.no_designators)) (t.Single (t.Number 1 ty0.Int (1 ∷ []))) []) (t.more_entries (t.Entry t.no_designators (t.Single (t.Number 2 ty0.Int (1 ∷ []))) []) t.no_entries)) false (1 ∷ 1 ∷ [])))); lines = [] } ∷ []; lines = (1 ∷ []) })) ∷ []; lines = [] }) ≡ record { byte = 4; number = pos 1 } ∷ record { byte = 8; number = pos 2 } ∷ []
unfolding layouts_of same_basic holds_const linkage_of clashes with_declaration with_content with_head unit_of landing puts_of constant_of is_null_constant pairing is_assignable check_gives check_chain check_here check_becomes check_look breaks node_rules rule_at same_key specs_type unary_of binary_of assignment_of
behind_designator = refl

-- `struct { struct { int a; int b; } s; int c; } x = {.s.a = 1, 2, 3};`
behind_nested_member : held (record { parts = (t.Declaration (record { specs = (t.more_specs (t.Record false None (t.some_members (t.more_member_decls (t.MemberDecl (t.more_specs (t.Record false None (t.some_members (t.more_member_decls (t.MemberDecl (t.more_specs (t.Key keyword.Int (1 ∷ [])) t.no_specs) (t.more_member_declarators (t.MemberDeclarator (t.Identifier (codes "a") (1 ∷ [])) t.no_expr (1 ∷ [])) t.no_member_declarators) (1 ∷ [])) (t.more_member_decls (t.MemberDecl (t.more_specs (t.Key keyword.Int (1 ∷ [])) t.no_specs) (t.more_member_declarators (t.MemberDeclarator (t.Identifier (codes "b") (1 ∷ [])) t.no_expr (1 ∷ [])) t.no_member_declarators) (1 ∷ [])) t.no_member_decls))) (1 ∷ 1 ∷ 1 ∷ [])) t.no_specs) (t.more_member_declarators (t.MemberDeclarator (t.Identifier (codes "s") (1 ∷ [])) t.no_expr (1 ∷ [])) t.no_member_declarators) (1 ∷ [])) (t.more_member_decls (t.MemberDecl (t.more_specs (t.Key keyword.Int (1 ∷ [])) t.no_specs) (t.more_member_declarators (t.MemberDeclarator (t.Identifier (codes "c") (1 ∷ [])) t.no_expr (1 ∷ [])) t.no_member_declarators) (1 ∷ [])) t.no_member_decls))) (1 ∷ 1 ∷ 1 ∷ [])) t.no_specs); list = record { declarator = (t.Identifier (codes "x") (1 ∷ [])); init = (Some (t.Braced (t.InitialiserList (t.more_entries (t.Entry (t.more_designators (t.Member (codes "s") (1 ∷ 1 ∷ [])) (t.more_designators (t.Member (codes "a") (1 ∷ 1 ∷ [])) t.no_designators)) (t.Single (t.Number 1 ty0.Int (1 ∷ []))) []) (t.more_entries (t.Entry t.no_designators (t.Single (t.Number 2 ty0.Int (1 ∷ []))) []) (t.more_entries (t.Entry t.no_designators (t.Single (t.Number 3 ty0.Int (1 ∷ []))) []) t.no_entries))) false (1 ∷ 1 ∷ [])))); lines = [] } ∷ []; lines = (1 ∷ []) })) ∷ []; lines = [] }) ≡ record { byte = 0; number = pos 1 } ∷ record { byte = 4; number = pos 2 } ∷ record { byte = 8; number = pos 3 } ∷ []
unfolding layouts_of same_basic holds_const linkage_of clashes with_declaration with_content with_head unit_of landing puts_of constant_of is_null_constant pairing is_assignable check_gives check_chain check_here check_becomes check_look breaks node_rules rule_at same_key specs_type unary_of binary_of assignment_of
behind_nested_member = refl

-- `struct { int a[2]; int b; } x[2] = {1, 2, 3, 4};`
without_braces : held (record { parts = (t.Declaration (record { specs = (t.more_specs (t.Record false None (t.some_members (t.more_member_decls (t.MemberDecl (t.more_specs (t.Key keyword.Int (1 ∷ [])) t.no_specs) (t.more_member_declarators (t.MemberDeclarator (t.Array (t.Identifier (codes "a") (1 ∷ [])) (t.Length [] (t.Number 2 ty0.Int (1 ∷ []))) (1 ∷ 1 ∷ [])) t.no_expr (1 ∷ [])) t.no_member_declarators) (1 ∷ [])) (t.more_member_decls (t.MemberDecl (t.more_specs (t.Key keyword.Int (1 ∷ [])) t.no_specs) (t.more_member_declarators (t.MemberDeclarator (t.Identifier (codes "b") (1 ∷ [])) t.no_expr (1 ∷ [])) t.no_member_declarators) (1 ∷ [])) t.no_member_decls))) (1 ∷ 1 ∷ 1 ∷ [])) t.no_specs); list = record { declarator = (t.Array (t.Identifier (codes "x") (1 ∷ [])) (t.Length [] (t.Number 2 ty0.Int (1 ∷ []))) (1 ∷ 1 ∷ [])); init = (Some (t.Braced (t.InitialiserList (t.more_entries (t.Entry t.no_designators (t.Single (t.Number 1 ty0.Int (1 ∷ []))) []) (t.more_entries (t.Entry t.no_designators (t.Single (t.Number 2 ty0.Int (1 ∷ []))) []) (t.more_entries (t.Entry t.no_designators (t.Single (t.Number 3 ty0.Int (1 ∷ []))) []) (t.more_entries (t.Entry t.no_designators (t.Single (t.Number 4 ty0.Int (1 ∷ []))) []) t.no_entries)))) false (1 ∷ 1 ∷ [])))); lines = [] } ∷ []; lines = (1 ∷ []) })) ∷ []; lines = [] }) ≡ record { byte = 0; number = pos 1 } ∷ record { byte = 4; number = pos 2 } ∷ record { byte = 8; number = pos 3 } ∷ record { byte = 12; number = pos 4 } ∷ []
unfolding layouts_of same_basic holds_const linkage_of clashes with_declaration with_content with_head unit_of landing puts_of constant_of is_null_constant pairing is_assignable check_gives check_chain check_here check_becomes check_look breaks node_rules rule_at same_key specs_type unary_of binary_of assignment_of
without_braces = refl
