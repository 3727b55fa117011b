-- Worked units: the order of their declarations.
use Rattle.std.specs.Prelude.{◌≡◌, ℕ, false, List, [], ◌∷◌, Option, None, Some, codes}
use mathlib.Core.Path.{refl}
use Rattle.cx_lex.specs.declared.token.Keyword.{Keyword}
use Rattle.cx_lex.specs.declared.token.Keyword.TheVariants as keyword
use Rattle.cx_lex.specs.declared.token.Ty0.TheVariants as ty0
use Rattle.cx_tree.specs.Trees as t
use Rattle.cx_tree.specs.Trees.{DeclaratorTree, ExternalTree, ItemTree, ItemTrees, MemberDeclTrees, OptionMemberDeclTrees, ParamTrees, SpecTree, SpecTrees, DeclTree, UnitTree}
use Rattle.cx_core.specs.Layouts.{layouts_of}
use Rattle.cx_core.specs.Conversions.{same_basic}
use Rattle.cx_core.specs.ValidTypes.{holds_const}
use Rattle.cx_core.specs.Trees.{CUnit, CDeclaredOrder, a_function, an_object}
use Rattle.cx_rules.specs.Declare.{linkage_of, clashes, with_declaration, with_content, with_head, unit_of}
use Rattle.cx_rules.specs.Initial.{landing, puts_of}
use Rattle.cx_rules.specs.Operands.{constant_of, is_null_constant}
use Rattle.cx_rules.specs.Pairs.{pairing, is_assignable}
use Rattle.cx_rules.specs.Readings.{CChecked, stops, fine, check_gives, check_chain, check_here, check_becomes, check_look}
use Rattle.cx_rules.specs.Rules.{breaks, node_rules, rule_at}
use Rattle.cx_rules.specs.Shapes.{same_key, specs_type}
use Rattle.cx_rules.specs.Pieces.{unary_of, binary_of, assignment_of}
use Rattle.cx_rules.specs.Scope.{new_scope}
use Rattle.cx_rules.specs.Units.{check_unit}

abbrev order_in : CChecked CUnit → Option CDeclaredOrder
order_in (stops refusal) = None
order_in (fine unit scope) = Some unit.order

abbrev order : UnitTree → Option CDeclaredOrder
order tree = order_in (check_unit tree (new_scope 0))

-- ---- what the units are made of

abbrev here : List ℕ
here = 1 ∷ []

abbrev twice : List ℕ
twice = 1 ∷ 1 ∷ []

abbrev key : Keyword → SpecTrees → SpecTrees
key word others = t.more_specs (t.Key word here) others

abbrev int : SpecTrees
int = key keyword.Int t.no_specs

abbrev names : List ℕ → DeclaratorTree
names name = t.Identifier name here

abbrev taking_nothing : List ℕ → DeclaratorTree
taking_nothing name = t.Function (names name) (t.more_params (t.Param (key keyword.Void t.no_specs) t.Missing []) t.no_params) false twice

abbrev declares : SpecTrees → DeclaratorTree → DeclTree
declares specs declarator = record { specs = specs; list = record { declarator = declarator; init = None; lines = [] } ∷ []; lines = here }

abbrev defines : List ℕ → ItemTrees → ExternalTree
defines name items = t.Defined (record { specs = int; declarator = taking_nothing name; body = t.Block items twice; lines = [] })

abbrev structure : List ℕ → OptionMemberDeclTrees → SpecTrees
structure tag members = t.more_specs (t.Record false (Some tag) members (1 ∷ 1 ∷ 1 ∷ [])) t.no_specs

abbrev member : SpecTrees → List ℕ → OptionMemberDeclTrees
member specs name =
    t.some_members (t.more_member_decls (t.MemberDecl specs (t.more_member_declarators (t.MemberDeclarator (names name) t.no_expr here) t.no_member_declarators) here) t.no_member_decls)

abbrev alone : SpecTrees → ExternalTree
alone specs = t.Declaration (record { specs = specs; list = []; lines = here })

abbrev unit : List ExternalTree → UnitTree
unit parts = record { parts = parts; lines = [] }

-- ---- what has linkage

-- int f(void);
-- static int y;
-- int g(void) { extern int x; static int z; int h(void); char *p = "a"; }
-- int x, f(void);
abbrev text_of_p : DeclTree
text_of_p = record {
  specs = key keyword.Char t.no_specs;
  list = record { declarator = t.Pointer [] (names (codes "p")) here; init = Some (t.Single (t.Text (codes "a" ∷ []) here)); lines = [] } ∷ [];
  lines = here;
}

across_functions_and_objects : order (unit (
    t.Declaration (declares int (taking_nothing (codes "f")))
    ∷ t.Declaration (declares (key keyword.Static int) (names (codes "y")))
    ∷ defines (codes "g") (
    t.more_items (t.Declared (declares (key keyword.Extern int) (names (codes "x"))))
    (t.more_items (t.Declared (declares (key keyword.Static int) (names (codes "z"))))
    (t.more_items (t.Declared (declares int (taking_nothing (codes "h"))))
    (t.more_items (t.Declared text_of_p) t.no_items))))
    ∷ t.Declaration (declares int (names (codes "x")))
    ∷ t.Declaration (declares int (taking_nothing (codes "f")))
    ∷ []))
    ≡ Some (record { things = a_function 0 ∷ an_object 0 ∷ a_function 1 ∷ an_object 1 ∷ a_function 2 ∷ []; completed = [] })
unfolding layouts_of same_basic holds_const linkage_of clashes with_declaration with_content with_head unit_of landing puts_of constant_of is_null_constant pairing is_assignable check_gives check_chain check_here check_becomes check_look breaks node_rules rule_at same_key specs_type unary_of binary_of assignment_of
across_functions_and_objects = refl

-- ---- records

-- struct a;
-- struct b { struct c { int n; } c; };
-- struct a { struct b b; };
-- a record is completed where its list ends: c, then b, then a
by_completion : order (unit (
    alone (structure (codes "a") t.no_members)
    ∷ alone (structure (codes "b") (member (structure (codes "c") (member int (codes "n"))) (codes "c")))
    ∷ alone (structure (codes "a") (member (structure (codes "b") t.no_members) (codes "b")))
    ∷ []))
    ≡ Some (record { things = []; completed = 2 ∷ 1 ∷ 0 ∷ [] })
unfolding layouts_of same_basic holds_const linkage_of clashes with_declaration with_content with_head unit_of landing puts_of constant_of is_null_constant pairing is_assignable check_gives check_chain check_here check_becomes check_look breaks node_rules rule_at same_key specs_type unary_of binary_of assignment_of
by_completion = refl

-- struct a { int n; };
-- struct b;
-- struct c { struct a a; };
-- what isn't completed isn't among them
only_completed : order (unit (
    alone (structure (codes "a") (member int (codes "n")))
    ∷ alone (structure (codes "b") t.no_members)
    ∷ alone (structure (codes "c") (member (structure (codes "a") t.no_members) (codes "a")))
    ∷ []))
    ≡ Some (record { things = []; completed = 0 ∷ 2 ∷ [] })
unfolding layouts_of same_basic holds_const linkage_of clashes with_declaration with_content with_head unit_of landing puts_of constant_of is_null_constant pairing is_assignable check_gives check_chain check_here check_becomes check_look breaks node_rules rule_at same_key specs_type unary_of binary_of assignment_of
only_completed = refl
