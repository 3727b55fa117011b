-- Worked units for types, tags and layouts: each breaks the rule that is named, at its line, or none.
use Rattle.std.specs.Prelude.{true, false, [], ◌∷◌, None, Some, codes}
use mathlib.Core.Path.{refl}
use Rattle.cr_base.specs.declared.rule.Rule.TheVariants as rule
use Rattle.cx_lex.specs.declared.token.Keyword.TheVariants as keyword
use Rattle.cx_lex.specs.declared.token.Punct.TheVariants as punct
use Rattle.cx_lex.specs.declared.token.Ty0.TheVariants as ty0
use Rattle.cx_tree.specs.Trees as t
use Rattle.cx_tree.specs.Trees.{UnitTree}
use Rattle.cx_core.specs.Layouts.{layouts_of}
use Rattle.cx_core.specs.Conversions.{same_basic}
use Rattle.cx_core.specs.ValidTypes.{holds_const}
use Rattle.cx_rules.specs.Declare.{linkage_of, clashes, with_declaration, with_content, with_head, unit_of}
use Rattle.cx_rules.specs.Initial.{landing, puts_of}
use Rattle.cx_rules.specs.Operands.{constant_of, is_null_constant}
use Rattle.cx_rules.specs.Pairs.{pairing, is_assignable}
use Rattle.cx_rules.specs.Readings.{check_gives, check_chain, check_here, check_becomes, check_look}
use Rattle.cx_rules.specs.Rules.{breaks, node_rules, rule_at}
use Rattle.cx_rules.specs.Shapes.{same_key, specs_type}
use Rattle.cx_rules.specs.Pieces.{unary_of, binary_of, assignment_of}
use Rattle.cx_rules.proofs.Worked.{is_refused, is_fine}

-- Type words and declarators

-- `unsigned long long int a; long unsigned b; short int unsigned c; signed char d; char e[sizeof a + sizeof b + sizeof c + sizeof d == 19 ? 1 : -1];`
type_words : is_fine (record { parts = (t.Declaration (record { specs = (t.more_specs (t.Key keyword.Unsigned (1 ∷ [])) (t.more_specs (t.Key keyword.Long (1 ∷ [])) (t.more_specs (t.Key keyword.Long (1 ∷ [])) (t.more_specs (t.Key keyword.Int (1 ∷ [])) t.no_specs)))); list = record { declarator = (t.Identifier (codes "a") (1 ∷ [])); init = None; lines = [] } ∷ []; lines = (1 ∷ []) })) ∷ (t.Declaration (record { specs = (t.more_specs (t.Key keyword.Long (1 ∷ [])) (t.more_specs (t.Key keyword.Unsigned (1 ∷ [])) t.no_specs)); list = record { declarator = (t.Identifier (codes "b") (1 ∷ [])); init = None; lines = [] } ∷ []; lines = (1 ∷ []) })) ∷ (t.Declaration (record { specs = (t.more_specs (t.Key keyword.Short (1 ∷ [])) (t.more_specs (t.Key keyword.Int (1 ∷ [])) (t.more_specs (t.Key keyword.Unsigned (1 ∷ [])) t.no_specs))); list = record { declarator = (t.Identifier (codes "c") (1 ∷ [])); init = None; lines = [] } ∷ []; lines = (1 ∷ []) })) ∷ (t.Declaration (record { specs = (t.more_specs (t.Key keyword.Signed (1 ∷ [])) (t.more_specs (t.Key keyword.Char (1 ∷ [])) t.no_specs)); list = record { declarator = (t.Identifier (codes "d") (1 ∷ [])); init = None; lines = [] } ∷ []; lines = (1 ∷ []) })) ∷ (t.Declaration (record { specs = (t.more_specs (t.Key keyword.Char (1 ∷ [])) t.no_specs); list = record { declarator = (t.Array (t.Identifier (codes "e") (1 ∷ [])) (t.Length [] (t.Cond (t.Binary (t.Binary (t.Binary (t.Binary (t.SizeofExpr (t.Name (codes "a") (1 ∷ [])) (1 ∷ [])) punct.Plus (t.SizeofExpr (t.Name (codes "b") (1 ∷ [])) (1 ∷ [])) (1 ∷ [])) punct.Plus (t.SizeofExpr (t.Name (codes "c") (1 ∷ [])) (1 ∷ [])) (1 ∷ [])) punct.Plus (t.SizeofExpr (t.Name (codes "d") (1 ∷ [])) (1 ∷ [])) (1 ∷ [])) punct.EqualEqual (t.Number 19 ty0.Int (1 ∷ [])) (1 ∷ [])) (t.Number 1 ty0.Int (1 ∷ [])) (t.Unary punct.Minus (t.Number 1 ty0.Int (1 ∷ [])) (1 ∷ [])) (1 ∷ 1 ∷ []))) (1 ∷ 1 ∷ [])); init = None; lines = [] } ∷ []; lines = (1 ∷ []) })) ∷ []; lines = [] })
unfolding layouts_of same_basic holds_const linkage_of clashes with_declaration with_content with_head unit_of landing puts_of constant_of is_null_constant pairing is_assignable check_gives check_chain check_here check_becomes check_look breaks node_rules rule_at same_key specs_type unary_of binary_of assignment_of
type_words = refl

-- `long long long a;`
three_longs : is_refused (record { parts = (t.Declaration (record { specs = (t.more_specs (t.Key keyword.Long (1 ∷ [])) (t.more_specs (t.Key keyword.Long (1 ∷ [])) (t.more_specs (t.Key keyword.Long (1 ∷ [])) t.no_specs))); list = record { declarator = (t.Identifier (codes "a") (1 ∷ [])); init = None; lines = [] } ∷ []; lines = (1 ∷ []) })) ∷ []; lines = [] }) rule.K3 1
unfolding layouts_of same_basic holds_const linkage_of clashes with_declaration with_content with_head unit_of landing puts_of constant_of is_null_constant pairing is_assignable check_gives check_chain check_here check_becomes check_look breaks node_rules rule_at same_key specs_type unary_of binary_of assignment_of
three_longs = refl

-- `short long a;`
short_long : is_refused (record { parts = (t.Declaration (record { specs = (t.more_specs (t.Key keyword.Short (1 ∷ [])) (t.more_specs (t.Key keyword.Long (1 ∷ [])) t.no_specs)); list = record { declarator = (t.Identifier (codes "a") (1 ∷ [])); init = None; lines = [] } ∷ []; lines = (1 ∷ []) })) ∷ []; lines = [] }) rule.K3 1
unfolding layouts_of same_basic holds_const linkage_of clashes with_declaration with_content with_head unit_of landing puts_of constant_of is_null_constant pairing is_assignable check_gives check_chain check_here check_becomes check_look breaks node_rules rule_at same_key specs_type unary_of binary_of assignment_of
short_long = refl

-- `signed unsigned a;`
two_signs : is_refused (record { parts = (t.Declaration (record { specs = (t.more_specs (t.Key keyword.Signed (1 ∷ [])) (t.more_specs (t.Key keyword.Unsigned (1 ∷ [])) t.no_specs)); list = record { declarator = (t.Identifier (codes "a") (1 ∷ [])); init = None; lines = [] } ∷ []; lines = (1 ∷ []) })) ∷ []; lines = [] }) rule.K3 1
unfolding layouts_of same_basic holds_const linkage_of clashes with_declaration with_content with_head unit_of landing puts_of constant_of is_null_constant pairing is_assignable check_gives check_chain check_here check_becomes check_look breaks node_rules rule_at same_key specs_type unary_of binary_of assignment_of
two_signs = refl

-- `int int a;`
two_ints : is_refused (record { parts = (t.Declaration (record { specs = (t.more_specs (t.Key keyword.Int (1 ∷ [])) (t.more_specs (t.Key keyword.Int (1 ∷ [])) t.no_specs)); list = record { declarator = (t.Identifier (codes "a") (1 ∷ [])); init = None; lines = [] } ∷ []; lines = (1 ∷ []) })) ∷ []; lines = [] }) rule.K3 1
unfolding layouts_of same_basic holds_const linkage_of clashes with_declaration with_content with_head unit_of landing puts_of constant_of is_null_constant pairing is_assignable check_gives check_chain check_here check_becomes check_look breaks node_rules rule_at same_key specs_type unary_of binary_of assignment_of
two_ints = refl

-- `unsigned void *a;`
signed_void : is_refused (record { parts = (t.Declaration (record { specs = (t.more_specs (t.Key keyword.Unsigned (1 ∷ [])) (t.more_specs (t.Key keyword.Void (1 ∷ [])) t.no_specs)); list = record { declarator = (t.Pointer [] (t.Identifier (codes "a") (1 ∷ [])) (1 ∷ [])); init = None; lines = [] } ∷ []; lines = (1 ∷ []) })) ∷ []; lines = [] }) rule.K3 1
unfolding layouts_of same_basic holds_const linkage_of clashes with_declaration with_content with_head unit_of landing puts_of constant_of is_null_constant pairing is_assignable check_gives check_chain check_here check_becomes check_look breaks node_rules rule_at same_key specs_type unary_of binary_of assignment_of
signed_void = refl

-- `unsigned _Bool a;`
signed_truth : is_refused (record { parts = (t.Declaration (record { specs = (t.more_specs (t.Key keyword.Unsigned (1 ∷ [])) (t.more_specs (t.Key keyword.Bool (1 ∷ [])) t.no_specs)); list = record { declarator = (t.Identifier (codes "a") (1 ∷ [])); init = None; lines = [] } ∷ []; lines = (1 ∷ []) })) ∷ []; lines = [] }) rule.K3 1
unfolding layouts_of same_basic holds_const linkage_of clashes with_declaration with_content with_head unit_of landing puts_of constant_of is_null_constant pairing is_assignable check_gives check_chain check_here check_becomes check_look breaks node_rules rule_at same_key specs_type unary_of binary_of assignment_of
signed_truth = refl

-- `long char a;`
long_char : is_refused (record { parts = (t.Declaration (record { specs = (t.more_specs (t.Key keyword.Long (1 ∷ [])) (t.more_specs (t.Key keyword.Char (1 ∷ [])) t.no_specs)); list = record { declarator = (t.Identifier (codes "a") (1 ∷ [])); init = None; lines = [] } ∷ []; lines = (1 ∷ []) })) ∷ []; lines = [] }) rule.K3 1
unfolding layouts_of same_basic holds_const linkage_of clashes with_declaration with_content with_head unit_of landing puts_of constant_of is_null_constant pairing is_assignable check_gives check_chain check_here check_becomes check_look breaks node_rules rule_at same_key specs_type unary_of binary_of assignment_of
long_char = refl

-- `int main(void) { restrict int x; return 0; }`
restrict_on_int : is_refused (record { parts = (t.Defined (record { specs = (t.more_specs (t.Key keyword.Int (1 ∷ [])) t.no_specs); declarator = (t.Function (t.Identifier (codes "main") (1 ∷ [])) (t.more_params (t.Param (t.more_specs (t.Key keyword.Void (1 ∷ [])) t.no_specs) t.Missing []) t.no_params) false (1 ∷ 1 ∷ [])); body = t.Block (t.more_items (t.Declared (record { specs = (t.more_specs (t.Key keyword.Restrict (1 ∷ [])) (t.more_specs (t.Key keyword.Int (1 ∷ [])) t.no_specs)); list = record { declarator = (t.Identifier (codes "x") (1 ∷ [])); init = None; lines = [] } ∷ []; lines = (1 ∷ []) })) (t.more_items (t.Statement (t.Return (t.some_expr (t.Number 0 ty0.Int (1 ∷ []))) (1 ∷ 1 ∷ []))) t.no_items)) (1 ∷ 1 ∷ []); lines = [] })) ∷ []; lines = [] }) rule.K3 1
unfolding layouts_of same_basic holds_const linkage_of clashes with_declaration with_content with_head unit_of landing puts_of constant_of is_null_constant pairing is_assignable check_gives check_chain check_here check_becomes check_look breaks node_rules rule_at same_key specs_type unary_of binary_of assignment_of
restrict_on_int = refl

-- `int *restrict p;`
restrict_on_pointer : is_fine (record { parts = (t.Declaration (record { specs = (t.more_specs (t.Key keyword.Int (1 ∷ [])) t.no_specs); list = record { declarator = (t.Pointer (keyword.Restrict ∷ []) (t.Identifier (codes "p") (1 ∷ [])) (1 ∷ 1 ∷ [])); init = None; lines = [] } ∷ []; lines = (1 ∷ []) })) ∷ []; lines = [] })
unfolding layouts_of same_basic holds_const linkage_of clashes with_declaration with_content with_head unit_of landing puts_of constant_of is_null_constant pairing is_assignable check_gives check_chain check_here check_becomes check_look breaks node_rules rule_at same_key specs_type unary_of binary_of assignment_of
restrict_on_pointer = refl

-- `int (*restrict p)(void);`
restrict_on_function_pointer : is_refused (record { parts = (t.Declaration (record { specs = (t.more_specs (t.Key keyword.Int (1 ∷ [])) t.no_specs); list = record { declarator = (t.Function (t.Group (t.Pointer (keyword.Restrict ∷ []) (t.Identifier (codes "p") (1 ∷ [])) (1 ∷ 1 ∷ [])) (1 ∷ 1 ∷ [])) (t.more_params (t.Param (t.more_specs (t.Key keyword.Void (1 ∷ [])) t.no_specs) t.Missing []) t.no_params) false (1 ∷ 1 ∷ [])); init = None; lines = [] } ∷ []; lines = (1 ∷ []) })) ∷ []; lines = [] }) rule.K3 1
unfolding layouts_of same_basic holds_const linkage_of clashes with_declaration with_content with_head unit_of landing puts_of constant_of is_null_constant pairing is_assignable check_gives check_chain check_here check_becomes check_look breaks node_rules rule_at same_key specs_type unary_of binary_of assignment_of
restrict_on_function_pointer = refl

-- `typedef int *T; restrict T p;`
restrict_on_typedef : is_fine (record { parts = (t.Declaration (record { specs = (t.more_specs (t.Key keyword.Typedef (1 ∷ [])) (t.more_specs (t.Key keyword.Int (1 ∷ [])) t.no_specs)); list = record { declarator = (t.Pointer [] (t.Identifier (codes "T") (1 ∷ [])) (1 ∷ [])); init = None; lines = [] } ∷ []; lines = (1 ∷ []) })) ∷ (t.Declaration (record { specs = (t.more_specs (t.Key keyword.Restrict (1 ∷ [])) (t.more_specs (t.Typedef (codes "T") (1 ∷ [])) t.no_specs)); list = record { declarator = (t.Identifier (codes "p") (1 ∷ [])); init = None; lines = [] } ∷ []; lines = (1 ∷ []) })) ∷ []; lines = [] })
unfolding layouts_of same_basic holds_const linkage_of clashes with_declaration with_content with_head unit_of landing puts_of constant_of is_null_constant pairing is_assignable check_gives check_chain check_here check_becomes check_look breaks node_rules rule_at same_key specs_type unary_of binary_of assignment_of
restrict_on_typedef = refl

-- `typedef int *T[2]; restrict T p;`
restrict_on_array_of_pointers : is_fine (record { parts = (t.Declaration (record { specs = (t.more_specs (t.Key keyword.Typedef (1 ∷ [])) (t.more_specs (t.Key keyword.Int (1 ∷ [])) t.no_specs)); list = record { declarator = (t.Pointer [] (t.Array (t.Identifier (codes "T") (1 ∷ [])) (t.Length [] (t.Number 2 ty0.Int (1 ∷ []))) (1 ∷ 1 ∷ [])) (1 ∷ [])); init = None; lines = [] } ∷ []; lines = (1 ∷ []) })) ∷ (t.Declaration (record { specs = (t.more_specs (t.Key keyword.Restrict (1 ∷ [])) (t.more_specs (t.Typedef (codes "T") (1 ∷ [])) t.no_specs)); list = record { declarator = (t.Identifier (codes "p") (1 ∷ [])); init = None; lines = [] } ∷ []; lines = (1 ∷ []) })) ∷ []; lines = [] })
unfolding layouts_of same_basic holds_const linkage_of clashes with_declaration with_content with_head unit_of landing puts_of constant_of is_null_constant pairing is_assignable check_gives check_chain check_here check_becomes check_look breaks node_rules rule_at same_key specs_type unary_of binary_of assignment_of
restrict_on_array_of_pointers = refl

-- `typedef int (*T)(void); restrict T p;`
restrict_on_function_typedef : is_refused (record { parts = (t.Declaration (record { specs = (t.more_specs (t.Key keyword.Typedef (1 ∷ [])) (t.more_specs (t.Key keyword.Int (1 ∷ [])) t.no_specs)); list = record { declarator = (t.Function (t.Group (t.Pointer [] (t.Identifier (codes "T") (1 ∷ [])) (1 ∷ [])) (1 ∷ 1 ∷ [])) (t.more_params (t.Param (t.more_specs (t.Key keyword.Void (1 ∷ [])) t.no_specs) t.Missing []) t.no_params) false (1 ∷ 1 ∷ [])); init = None; lines = [] } ∷ []; lines = (1 ∷ []) })) ∷ (t.Declaration (record { specs = (t.more_specs (t.Key keyword.Restrict (1 ∷ [])) (t.more_specs (t.Typedef (codes "T") (1 ∷ [])) t.no_specs)); list = record { declarator = (t.Identifier (codes "p") (1 ∷ [])); init = None; lines = [] } ∷ []; lines = (1 ∷ []) })) ∷ []; lines = [] }) rule.K3 1
unfolding layouts_of same_basic holds_const linkage_of clashes with_declaration with_content with_head unit_of landing puts_of constant_of is_null_constant pairing is_assignable check_gives check_chain check_here check_becomes check_look breaks node_rules rule_at same_key specs_type unary_of binary_of assignment_of
restrict_on_function_typedef = refl

-- `void a[2];`
array_of_void : is_refused (record { parts = (t.Declaration (record { specs = (t.more_specs (t.Key keyword.Void (1 ∷ [])) t.no_specs); list = record { declarator = (t.Array (t.Identifier (codes "a") (1 ∷ [])) (t.Length [] (t.Number 2 ty0.Int (1 ∷ []))) (1 ∷ 1 ∷ [])); init = None; lines = [] } ∷ []; lines = (1 ∷ []) })) ∷ []; lines = [] }) rule.K5 1
unfolding layouts_of same_basic holds_const linkage_of clashes with_declaration with_content with_head unit_of landing puts_of constant_of is_null_constant pairing is_assignable check_gives check_chain check_here check_becomes check_look breaks node_rules rule_at same_key specs_type unary_of binary_of assignment_of
array_of_void = refl

-- `struct s; struct s a[2];`
array_of_incomplete : is_refused (record { parts = (t.Declaration (record { specs = (t.more_specs (t.Record false (Some (codes "s")) t.no_members (1 ∷ 1 ∷ [])) t.no_specs); list = []; lines = (1 ∷ []) })) ∷ (t.Declaration (record { specs = (t.more_specs (t.Record false (Some (codes "s")) t.no_members (1 ∷ 1 ∷ [])) t.no_specs); list = record { declarator = (t.Array (t.Identifier (codes "a") (1 ∷ [])) (t.Length [] (t.Number 2 ty0.Int (1 ∷ []))) (1 ∷ 1 ∷ [])); init = None; lines = [] } ∷ []; lines = (1 ∷ []) })) ∷ []; lines = [] }) rule.K5 1
unfolding layouts_of same_basic holds_const linkage_of clashes with_declaration with_content with_head unit_of landing puts_of constant_of is_null_constant pairing is_assignable check_gives check_chain check_here check_becomes check_look breaks node_rules rule_at same_key specs_type unary_of binary_of assignment_of
array_of_incomplete = refl

-- `int a[2][];`
array_of_open : is_refused (record { parts = (t.Declaration (record { specs = (t.more_specs (t.Key keyword.Int (1 ∷ [])) t.no_specs); list = record { declarator = (t.Array (t.Array (t.Identifier (codes "a") (1 ∷ [])) (t.Length [] (t.Number 2 ty0.Int (1 ∷ []))) (1 ∷ 1 ∷ [])) (t.Unsized []) (1 ∷ 1 ∷ [])); init = None; lines = [] } ∷ []; lines = (1 ∷ []) })) ∷ []; lines = [] }) rule.K5 1
unfolding layouts_of same_basic holds_const linkage_of clashes with_declaration with_content with_head unit_of landing puts_of constant_of is_null_constant pairing is_assignable check_gives check_chain check_here check_becomes check_look breaks node_rules rule_at same_key specs_type unary_of binary_of assignment_of
array_of_open = refl

-- `int (*a)[];`
pointer_to_open : is_fine (record { parts = (t.Declaration (record { specs = (t.more_specs (t.Key keyword.Int (1 ∷ [])) t.no_specs); list = record { declarator = (t.Array (t.Group (t.Pointer [] (t.Identifier (codes "a") (1 ∷ [])) (1 ∷ [])) (1 ∷ 1 ∷ [])) (t.Unsized []) (1 ∷ 1 ∷ [])); init = None; lines = [] } ∷ []; lines = (1 ∷ []) })) ∷ []; lines = [] })
unfolding layouts_of same_basic holds_const linkage_of clashes with_declaration with_content with_head unit_of landing puts_of constant_of is_null_constant pairing is_assignable check_gives check_chain check_here check_becomes check_look breaks node_rules rule_at same_key specs_type unary_of binary_of assignment_of
pointer_to_open = refl

-- `struct s; int f(struct s a[]);`
parameter_of_incomplete_elements : is_refused (record { parts = (t.Declaration (record { specs = (t.more_specs (t.Record false (Some (codes "s")) t.no_members (1 ∷ 1 ∷ [])) t.no_specs); list = []; lines = (1 ∷ []) })) ∷ (t.Declaration (record { specs = (t.more_specs (t.Key keyword.Int (1 ∷ [])) t.no_specs); list = record { declarator = (t.Function (t.Identifier (codes "f") (1 ∷ [])) (t.more_params (t.Param (t.more_specs (t.Record false (Some (codes "s")) t.no_members (1 ∷ 1 ∷ [])) t.no_specs) (t.Array (t.Identifier (codes "a") (1 ∷ [])) (t.Unsized []) (1 ∷ 1 ∷ [])) []) t.no_params) false (1 ∷ 1 ∷ [])); init = None; lines = [] } ∷ []; lines = (1 ∷ []) })) ∷ []; lines = [] }) rule.K5 1
unfolding layouts_of same_basic holds_const linkage_of clashes with_declaration with_content with_head unit_of landing puts_of constant_of is_null_constant pairing is_assignable check_gives check_chain check_here check_becomes check_look breaks node_rules rule_at same_key specs_type unary_of binary_of assignment_of
parameter_of_incomplete_elements = refl

-- `int f(int a[], int b[][3]);`
parameter_open : is_fine (record { parts = (t.Declaration (record { specs = (t.more_specs (t.Key keyword.Int (1 ∷ [])) t.no_specs); list = record { declarator = (t.Function (t.Identifier (codes "f") (1 ∷ [])) (t.more_params (t.Param (t.more_specs (t.Key keyword.Int (1 ∷ [])) t.no_specs) (t.Array (t.Identifier (codes "a") (1 ∷ [])) (t.Unsized []) (1 ∷ 1 ∷ [])) []) (t.more_params (t.Param (t.more_specs (t.Key keyword.Int (1 ∷ [])) t.no_specs) (t.Array (t.Array (t.Identifier (codes "b") (1 ∷ [])) (t.Unsized []) (1 ∷ 1 ∷ [])) (t.Length [] (t.Number 3 ty0.Int (1 ∷ []))) (1 ∷ 1 ∷ [])) []) t.no_params)) false (1 ∷ 1 ∷ [])); init = None; lines = [] } ∷ []; lines = (1 ∷ []) })) ∷ []; lines = [] })
unfolding layouts_of same_basic holds_const linkage_of clashes with_declaration with_content with_head unit_of landing puts_of constant_of is_null_constant pairing is_assignable check_gives check_chain check_here check_becomes check_look breaks node_rules rule_at same_key specs_type unary_of binary_of assignment_of
parameter_open = refl

-- `int f(int a[][]);`
parameter_open_elements : is_refused (record { parts = (t.Declaration (record { specs = (t.more_specs (t.Key keyword.Int (1 ∷ [])) t.no_specs); list = record { declarator = (t.Function (t.Identifier (codes "f") (1 ∷ [])) (t.more_params (t.Param (t.more_specs (t.Key keyword.Int (1 ∷ [])) t.no_specs) (t.Array (t.Array (t.Identifier (codes "a") (1 ∷ [])) (t.Unsized []) (1 ∷ 1 ∷ [])) (t.Unsized []) (1 ∷ 1 ∷ [])) []) t.no_params) false (1 ∷ 1 ∷ [])); init = None; lines = [] } ∷ []; lines = (1 ∷ []) })) ∷ []; lines = [] }) rule.K5 1
unfolding layouts_of same_basic holds_const linkage_of clashes with_declaration with_content with_head unit_of landing puts_of constant_of is_null_constant pairing is_assignable check_gives check_chain check_here check_becomes check_look breaks node_rules rule_at same_key specs_type unary_of binary_of assignment_of
parameter_open_elements = refl

-- `int f(int a[*]);`
star_length : is_refused (record { parts = (t.Declaration (record { specs = (t.more_specs (t.Key keyword.Int (1 ∷ [])) t.no_specs); list = record { declarator = (t.Function (t.Identifier (codes "f") (1 ∷ [])) (t.more_params (t.Param (t.more_specs (t.Key keyword.Int (1 ∷ [])) t.no_specs) (t.Array (t.Identifier (codes "a") (1 ∷ [])) (t.Star []) (1 ∷ 1 ∷ [])) []) t.no_params) false (1 ∷ 1 ∷ [])); init = None; lines = [] } ∷ []; lines = (1 ∷ []) })) ∷ []; lines = [] }) rule.O3 1
unfolding layouts_of same_basic holds_const linkage_of clashes with_declaration with_content with_head unit_of landing puts_of constant_of is_null_constant pairing is_assignable check_gives check_chain check_here check_becomes check_look breaks node_rules rule_at same_key specs_type unary_of binary_of assignment_of
star_length = refl

-- `int f(int a[static 3]);`
static_length : is_refused (record { parts = (t.Declaration (record { specs = (t.more_specs (t.Key keyword.Int (1 ∷ [])) t.no_specs); list = record { declarator = (t.Function (t.Identifier (codes "f") (1 ∷ [])) (t.more_params (t.Param (t.more_specs (t.Key keyword.Int (1 ∷ [])) t.no_specs) (t.Array (t.Identifier (codes "a") (1 ∷ [])) (t.StaticFirst [] (t.Number 3 ty0.Int (1 ∷ []))) (1 ∷ 1 ∷ [])) []) t.no_params) false (1 ∷ 1 ∷ [])); init = None; lines = [] } ∷ []; lines = (1 ∷ []) })) ∷ []; lines = [] }) rule.O3 1
unfolding layouts_of same_basic holds_const linkage_of clashes with_declaration with_content with_head unit_of landing puts_of constant_of is_null_constant pairing is_assignable check_gives check_chain check_here check_becomes check_look breaks node_rules rule_at same_key specs_type unary_of binary_of assignment_of
static_length = refl

-- `int f(int a[const]);`
const_length : is_refused (record { parts = (t.Declaration (record { specs = (t.more_specs (t.Key keyword.Int (1 ∷ [])) t.no_specs); list = record { declarator = (t.Function (t.Identifier (codes "f") (1 ∷ [])) (t.more_params (t.Param (t.more_specs (t.Key keyword.Int (1 ∷ [])) t.no_specs) (t.Array (t.Identifier (codes "a") (1 ∷ [])) (t.Unsized (keyword.Const ∷ [])) (1 ∷ 1 ∷ [])) []) t.no_params) false (1 ∷ 1 ∷ [])); init = None; lines = [] } ∷ []; lines = (1 ∷ []) })) ∷ []; lines = [] }) rule.O3 1
unfolding layouts_of same_basic holds_const linkage_of clashes with_declaration with_content with_head unit_of landing puts_of constant_of is_null_constant pairing is_assignable check_gives check_chain check_here check_becomes check_look breaks node_rules rule_at same_key specs_type unary_of binary_of assignment_of
const_length = refl

-- `int a[(int *)0];`
length_of_pointer : is_refused (record { parts = (t.Declaration (record { specs = (t.more_specs (t.Key keyword.Int (1 ∷ [])) t.no_specs); list = record { declarator = (t.Array (t.Identifier (codes "a") (1 ∷ [])) (t.Length [] (t.Cast (t.TypeName (t.more_specs (t.Key keyword.Int (1 ∷ [])) t.no_specs) (t.Pointer [] t.Missing (1 ∷ [])) []) (t.Number 0 ty0.Int (1 ∷ [])) (1 ∷ 1 ∷ []))) (1 ∷ 1 ∷ [])); init = None; lines = [] } ∷ []; lines = (1 ∷ []) })) ∷ []; lines = [] }) rule.O3 1
unfolding layouts_of same_basic holds_const linkage_of clashes with_declaration with_content with_head unit_of landing puts_of constant_of is_null_constant pairing is_assignable check_gives check_chain check_here check_becomes check_look breaks node_rules rule_at same_key specs_type unary_of binary_of assignment_of
length_of_pointer = refl

-- `int a[0];`
length_zero : is_refused (record { parts = (t.Declaration (record { specs = (t.more_specs (t.Key keyword.Int (1 ∷ [])) t.no_specs); list = record { declarator = (t.Array (t.Identifier (codes "a") (1 ∷ [])) (t.Length [] (t.Number 0 ty0.Int (1 ∷ []))) (1 ∷ 1 ∷ [])); init = None; lines = [] } ∷ []; lines = (1 ∷ []) })) ∷ []; lines = [] }) rule.K6 1
unfolding layouts_of same_basic holds_const linkage_of clashes with_declaration with_content with_head unit_of landing puts_of constant_of is_null_constant pairing is_assignable check_gives check_chain check_here check_becomes check_look breaks node_rules rule_at same_key specs_type unary_of binary_of assignment_of
length_zero = refl

-- `int a[1], b[0];`
length_later : is_refused (record { parts = (t.Declaration (record { specs = (t.more_specs (t.Key keyword.Int (1 ∷ [])) t.no_specs); list = record { declarator = (t.Array (t.Identifier (codes "a") (1 ∷ [])) (t.Length [] (t.Number 1 ty0.Int (1 ∷ []))) (1 ∷ 1 ∷ [])); init = None; lines = [] } ∷ []; lines = (1 ∷ []) })) ∷ (t.Declaration (record { specs = (t.more_specs (t.Key keyword.Int (1 ∷ [])) t.no_specs); list = record { declarator = (t.Array (t.Identifier (codes "b") (2 ∷ [])) (t.Length [] (t.Number 0 ty0.Int (2 ∷ []))) (2 ∷ 2 ∷ [])); init = None; lines = [] } ∷ []; lines = (2 ∷ []) })) ∷ []; lines = [] }) rule.K6 2
unfolding layouts_of same_basic holds_const linkage_of clashes with_declaration with_content with_head unit_of landing puts_of constant_of is_null_constant pairing is_assignable check_gives check_chain check_here check_becomes check_look breaks node_rules rule_at same_key specs_type unary_of binary_of assignment_of
length_later = refl

-- `int f(void)(void);`
function_of_function : is_refused (record { parts = (t.Declaration (record { specs = (t.more_specs (t.Key keyword.Int (1 ∷ [])) t.no_specs); list = record { declarator = (t.Function (t.Function (t.Identifier (codes "f") (1 ∷ [])) (t.more_params (t.Param (t.more_specs (t.Key keyword.Void (1 ∷ [])) t.no_specs) t.Missing []) t.no_params) false (1 ∷ 1 ∷ [])) (t.more_params (t.Param (t.more_specs (t.Key keyword.Void (1 ∷ [])) t.no_specs) t.Missing []) t.no_params) false (1 ∷ 1 ∷ [])); init = None; lines = [] } ∷ []; lines = (1 ∷ []) })) ∷ []; lines = [] }) rule.K7 1
unfolding layouts_of same_basic holds_const linkage_of clashes with_declaration with_content with_head unit_of landing puts_of constant_of is_null_constant pairing is_assignable check_gives check_chain check_here check_becomes check_look breaks node_rules rule_at same_key specs_type unary_of binary_of assignment_of
function_of_function = refl

-- `typedef int A[2]; A f(void);`
function_of_typedef_array : is_refused (record { parts = (t.Declaration (record { specs = (t.more_specs (t.Key keyword.Typedef (1 ∷ [])) (t.more_specs (t.Key keyword.Int (1 ∷ [])) t.no_specs)); list = record { declarator = (t.Array (t.Identifier (codes "A") (1 ∷ [])) (t.Length [] (t.Number 2 ty0.Int (1 ∷ []))) (1 ∷ 1 ∷ [])); init = None; lines = [] } ∷ []; lines = (1 ∷ []) })) ∷ (t.Declaration (record { specs = (t.more_specs (t.Typedef (codes "A") (1 ∷ [])) t.no_specs); list = record { declarator = (t.Function (t.Identifier (codes "f") (1 ∷ [])) (t.more_params (t.Param (t.more_specs (t.Key keyword.Void (1 ∷ [])) t.no_specs) t.Missing []) t.no_params) false (1 ∷ 1 ∷ [])); init = None; lines = [] } ∷ []; lines = (1 ∷ []) })) ∷ []; lines = [] }) rule.K7 1
unfolding layouts_of same_basic holds_const linkage_of clashes with_declaration with_content with_head unit_of landing puts_of constant_of is_null_constant pairing is_assignable check_gives check_chain check_here check_becomes check_look breaks node_rules rule_at same_key specs_type unary_of binary_of assignment_of
function_of_typedef_array = refl

-- `typedef int F(void); F a[2];`
array_of_typedef_functions : is_refused (record { parts = (t.Declaration (record { specs = (t.more_specs (t.Key keyword.Typedef (1 ∷ [])) (t.more_specs (t.Key keyword.Int (1 ∷ [])) t.no_specs)); list = record { declarator = (t.Function (t.Identifier (codes "F") (1 ∷ [])) (t.more_params (t.Param (t.more_specs (t.Key keyword.Void (1 ∷ [])) t.no_specs) t.Missing []) t.no_params) false (1 ∷ 1 ∷ [])); init = None; lines = [] } ∷ []; lines = (1 ∷ []) })) ∷ (t.Declaration (record { specs = (t.more_specs (t.Typedef (codes "F") (1 ∷ [])) t.no_specs); list = record { declarator = (t.Array (t.Identifier (codes "a") (1 ∷ [])) (t.Length [] (t.Number 2 ty0.Int (1 ∷ []))) (1 ∷ 1 ∷ [])); init = None; lines = [] } ∷ []; lines = (1 ∷ []) })) ∷ []; lines = [] }) rule.K7 1
unfolding layouts_of same_basic holds_const linkage_of clashes with_declaration with_content with_head unit_of landing puts_of constant_of is_null_constant pairing is_assignable check_gives check_chain check_here check_becomes check_look breaks node_rules rule_at same_key specs_type unary_of binary_of assignment_of
array_of_typedef_functions = refl

-- `int f(void x);`
void_named : is_refused (record { parts = (t.Declaration (record { specs = (t.more_specs (t.Key keyword.Int (1 ∷ [])) t.no_specs); list = record { declarator = (t.Function (t.Identifier (codes "f") (1 ∷ [])) (t.more_params (t.Param (t.more_specs (t.Key keyword.Void (1 ∷ [])) t.no_specs) (t.Identifier (codes "x") (1 ∷ [])) []) t.no_params) false (1 ∷ 1 ∷ [])); init = None; lines = [] } ∷ []; lines = (1 ∷ []) })) ∷ []; lines = [] }) rule.K7 1
unfolding layouts_of same_basic holds_const linkage_of clashes with_declaration with_content with_head unit_of landing puts_of constant_of is_null_constant pairing is_assignable check_gives check_chain check_here check_becomes check_look breaks node_rules rule_at same_key specs_type unary_of binary_of assignment_of
void_named = refl

-- `int f(int, void);`
void_behind : is_refused (record { parts = (t.Declaration (record { specs = (t.more_specs (t.Key keyword.Int (1 ∷ [])) t.no_specs); list = record { declarator = (t.Function (t.Identifier (codes "f") (1 ∷ [])) (t.more_params (t.Param (t.more_specs (t.Key keyword.Int (1 ∷ [])) t.no_specs) t.Missing []) (t.more_params (t.Param (t.more_specs (t.Key keyword.Void (1 ∷ [])) t.no_specs) t.Missing []) t.no_params)) false (1 ∷ 1 ∷ [])); init = None; lines = [] } ∷ []; lines = (1 ∷ []) })) ∷ []; lines = [] }) rule.K7 1
unfolding layouts_of same_basic holds_const linkage_of clashes with_declaration with_content with_head unit_of landing puts_of constant_of is_null_constant pairing is_assignable check_gives check_chain check_here check_becomes check_look breaks node_rules rule_at same_key specs_type unary_of binary_of assignment_of
void_behind = refl

-- `int f(void, ...);`
void_more : is_refused (record { parts = (t.Declaration (record { specs = (t.more_specs (t.Key keyword.Int (1 ∷ [])) t.no_specs); list = record { declarator = (t.Function (t.Identifier (codes "f") (1 ∷ [])) (t.more_params (t.Param (t.more_specs (t.Key keyword.Void (1 ∷ [])) t.no_specs) t.Missing []) t.no_params) true (1 ∷ 1 ∷ [])); init = None; lines = [] } ∷ []; lines = (1 ∷ []) })) ∷ []; lines = [] }) rule.K7 1
unfolding layouts_of same_basic holds_const linkage_of clashes with_declaration with_content with_head unit_of landing puts_of constant_of is_null_constant pairing is_assignable check_gives check_chain check_here check_becomes check_look breaks node_rules rule_at same_key specs_type unary_of binary_of assignment_of
void_more = refl

-- `typedef void V; int f(V); int main(void) { return f(); }`
void_by_typedef : is_fine (record { parts = (t.Declaration (record { specs = (t.more_specs (t.Key keyword.Typedef (1 ∷ [])) (t.more_specs (t.Key keyword.Void (1 ∷ [])) t.no_specs)); list = record { declarator = (t.Identifier (codes "V") (1 ∷ [])); init = None; lines = [] } ∷ []; lines = (1 ∷ []) })) ∷ (t.Declaration (record { specs = (t.more_specs (t.Key keyword.Int (1 ∷ [])) t.no_specs); list = record { declarator = (t.Function (t.Identifier (codes "f") (1 ∷ [])) (t.more_params (t.Param (t.more_specs (t.Typedef (codes "V") (1 ∷ [])) t.no_specs) t.Missing []) t.no_params) false (1 ∷ 1 ∷ [])); init = None; lines = [] } ∷ []; lines = (1 ∷ []) })) ∷ (t.Defined (record { specs = (t.more_specs (t.Key keyword.Int (1 ∷ [])) t.no_specs); declarator = (t.Function (t.Identifier (codes "main") (1 ∷ [])) (t.more_params (t.Param (t.more_specs (t.Key keyword.Void (1 ∷ [])) t.no_specs) t.Missing []) t.no_params) false (1 ∷ 1 ∷ [])); body = t.Block (t.more_items (t.Statement (t.Return (t.some_expr (t.Call (t.Name (codes "f") (1 ∷ [])) t.no_exprs (1 ∷ 1 ∷ []))) (1 ∷ 1 ∷ []))) t.no_items) (1 ∷ 1 ∷ []); lines = [] })) ∷ []; lines = [] })
unfolding layouts_of same_basic holds_const linkage_of clashes with_declaration with_content with_head unit_of landing puts_of constant_of is_null_constant pairing is_assignable check_gives check_chain check_here check_becomes check_look breaks node_rules rule_at same_key specs_type unary_of binary_of assignment_of
void_by_typedef = refl

-- `typedef int F(void); F f { return 0; }`
body_of_typedef : is_refused (record { parts = (t.Declaration (record { specs = (t.more_specs (t.Key keyword.Typedef (1 ∷ [])) (t.more_specs (t.Key keyword.Int (1 ∷ [])) t.no_specs)); list = record { declarator = (t.Function (t.Identifier (codes "F") (1 ∷ [])) (t.more_params (t.Param (t.more_specs (t.Key keyword.Void (1 ∷ [])) t.no_specs) t.Missing []) t.no_params) false (1 ∷ 1 ∷ [])); init = None; lines = [] } ∷ []; lines = (1 ∷ []) })) ∷ (t.Defined (record { specs = (t.more_specs (t.Typedef (codes "F") (1 ∷ [])) t.no_specs); declarator = (t.Identifier (codes "f") (1 ∷ [])); body = t.Block (t.more_items (t.Statement (t.Return (t.some_expr (t.Number 0 ty0.Int (1 ∷ []))) (1 ∷ 1 ∷ []))) t.no_items) (1 ∷ 1 ∷ []); lines = [] })) ∷ []; lines = [] }) rule.K7 1
unfolding layouts_of same_basic holds_const linkage_of clashes with_declaration with_content with_head unit_of landing puts_of constant_of is_null_constant pairing is_assignable check_gives check_chain check_here check_becomes check_look breaks node_rules rule_at same_key specs_type unary_of binary_of assignment_of
body_of_typedef = refl

-- `int f(int a, int a);`
two_parameters : is_refused (record { parts = (t.Declaration (record { specs = (t.more_specs (t.Key keyword.Int (1 ∷ [])) t.no_specs); list = record { declarator = (t.Function (t.Identifier (codes "f") (1 ∷ [])) (t.more_params (t.Param (t.more_specs (t.Key keyword.Int (1 ∷ [])) t.no_specs) (t.Identifier (codes "a") (1 ∷ [])) []) (t.more_params (t.Param (t.more_specs (t.Key keyword.Int (1 ∷ [])) t.no_specs) (t.Identifier (codes "a") (1 ∷ [])) []) t.no_params)) false (1 ∷ 1 ∷ [])); init = None; lines = [] } ∷ []; lines = (1 ∷ []) })) ∷ []; lines = [] }) rule.K2 1
unfolding layouts_of same_basic holds_const linkage_of clashes with_declaration with_content with_head unit_of landing puts_of constant_of is_null_constant pairing is_assignable check_gives check_chain check_here check_becomes check_look breaks node_rules rule_at same_key specs_type unary_of binary_of assignment_of
two_parameters = refl

-- `int f(enum { a } x, int a);`
parameter_and_enumerator : is_refused (record { parts = (t.Declaration (record { specs = (t.more_specs (t.Key keyword.Int (1 ∷ [])) t.no_specs); list = record { declarator = (t.Function (t.Identifier (codes "f") (1 ∷ [])) (t.more_params (t.Param (t.more_specs (t.Enum None (t.some_enumerator_list (t.more_enumerators (t.Enumerator (codes "a") t.no_expr (1 ∷ [])) t.no_enumerators)) false (1 ∷ 1 ∷ 1 ∷ [])) t.no_specs) (t.Identifier (codes "x") (1 ∷ [])) []) (t.more_params (t.Param (t.more_specs (t.Key keyword.Int (1 ∷ [])) t.no_specs) (t.Identifier (codes "a") (1 ∷ [])) []) t.no_params)) false (1 ∷ 1 ∷ [])); init = None; lines = [] } ∷ []; lines = (1 ∷ []) })) ∷ []; lines = [] }) rule.K2 1
unfolding layouts_of same_basic holds_const linkage_of clashes with_declaration with_content with_head unit_of landing puts_of constant_of is_null_constant pairing is_assignable check_gives check_chain check_here check_becomes check_look breaks node_rules rule_at same_key specs_type unary_of binary_of assignment_of
parameter_and_enumerator = refl

-- `int f(struct a *a);`
parameter_and_tag : is_fine (record { parts = (t.Declaration (record { specs = (t.more_specs (t.Key keyword.Int (1 ∷ [])) t.no_specs); list = record { declarator = (t.Function (t.Identifier (codes "f") (1 ∷ [])) (t.more_params (t.Param (t.more_specs (t.Record false (Some (codes "a")) t.no_members (1 ∷ 1 ∷ [])) t.no_specs) (t.Pointer [] (t.Identifier (codes "a") (1 ∷ [])) (1 ∷ [])) []) t.no_params) false (1 ∷ 1 ∷ [])); init = None; lines = [] } ∷ []; lines = (1 ∷ []) })) ∷ []; lines = [] })
unfolding layouts_of same_basic holds_const linkage_of clashes with_declaration with_content with_head unit_of landing puts_of constant_of is_null_constant pairing is_assignable check_gives check_chain check_here check_becomes check_look breaks node_rules rule_at same_key specs_type unary_of binary_of assignment_of
parameter_and_tag = refl

-- `int f() { return 0; } int main(void) { return f(); }`
empty_list : is_fine (record { parts = (t.Defined (record { specs = (t.more_specs (t.Key keyword.Int (1 ∷ [])) t.no_specs); declarator = (t.Identifiers (t.Identifier (codes "f") (1 ∷ [])) [] (1 ∷ 1 ∷ [])); body = t.Block (t.more_items (t.Statement (t.Return (t.some_expr (t.Number 0 ty0.Int (1 ∷ []))) (1 ∷ 1 ∷ []))) t.no_items) (1 ∷ 1 ∷ []); lines = [] })) ∷ (t.Defined (record { specs = (t.more_specs (t.Key keyword.Int (1 ∷ [])) t.no_specs); declarator = (t.Function (t.Identifier (codes "main") (1 ∷ [])) (t.more_params (t.Param (t.more_specs (t.Key keyword.Void (1 ∷ [])) t.no_specs) t.Missing []) t.no_params) false (1 ∷ 1 ∷ [])); body = t.Block (t.more_items (t.Statement (t.Return (t.some_expr (t.Call (t.Name (codes "f") (1 ∷ [])) t.no_exprs (1 ∷ 1 ∷ []))) (1 ∷ 1 ∷ []))) t.no_items) (1 ∷ 1 ∷ []); lines = [] })) ∷ []; lines = [] })
unfolding layouts_of same_basic holds_const linkage_of clashes with_declaration with_content with_head unit_of landing puts_of constant_of is_null_constant pairing is_assignable check_gives check_chain check_here check_becomes check_look breaks node_rules rule_at same_key specs_type unary_of binary_of assignment_of
empty_list = refl

-- `union u { int a; char b[]; };`
flexible_in_union : is_refused (record { parts = (t.Declaration (record { specs = (t.more_specs (t.Record true (Some (codes "u")) (t.some_members (t.more_member_decls (t.MemberDecl (t.more_specs (t.Key keyword.Int (1 ∷ [])) t.no_specs) (t.more_member_declarators (t.MemberDeclarator (t.Identifier (codes "a") (1 ∷ [])) t.no_expr (1 ∷ [])) t.no_member_declarators) (1 ∷ [])) (t.more_member_decls (t.MemberDecl (t.more_specs (t.Key keyword.Char (1 ∷ [])) t.no_specs) (t.more_member_declarators (t.MemberDeclarator (t.Array (t.Identifier (codes "b") (1 ∷ [])) (t.Unsized []) (1 ∷ 1 ∷ [])) t.no_expr (1 ∷ [])) t.no_member_declarators) (1 ∷ [])) t.no_member_decls))) (1 ∷ 1 ∷ 1 ∷ [])) t.no_specs); list = []; lines = (1 ∷ []) })) ∷ []; lines = [] }) rule.O10 1
unfolding layouts_of same_basic holds_const linkage_of clashes with_declaration with_content with_head unit_of landing puts_of constant_of is_null_constant pairing is_assignable check_gives check_chain check_here check_becomes check_look breaks node_rules rule_at same_key specs_type unary_of binary_of assignment_of
flexible_in_union = refl

-- `struct s { char b[]; };`
flexible_alone : is_refused (record { parts = (t.Declaration (record { specs = (t.more_specs (t.Record false (Some (codes "s")) (t.some_members (t.more_member_decls (t.MemberDecl (t.more_specs (t.Key keyword.Char (1 ∷ [])) t.no_specs) (t.more_member_declarators (t.MemberDeclarator (t.Array (t.Identifier (codes "b") (1 ∷ [])) (t.Unsized []) (1 ∷ 1 ∷ [])) t.no_expr (1 ∷ [])) t.no_member_declarators) (1 ∷ [])) t.no_member_decls)) (1 ∷ 1 ∷ 1 ∷ [])) t.no_specs); list = []; lines = (1 ∷ []) })) ∷ []; lines = [] }) rule.O10 1
unfolding layouts_of same_basic holds_const linkage_of clashes with_declaration with_content with_head unit_of landing puts_of constant_of is_null_constant pairing is_assignable check_gives check_chain check_here check_becomes check_look breaks node_rules rule_at same_key specs_type unary_of binary_of assignment_of
flexible_alone = refl

-- `typedef char A[]; struct s { int n; A a; };`
flexible_by_typedef : is_refused (record { parts = (t.Declaration (record { specs = (t.more_specs (t.Key keyword.Typedef (1 ∷ [])) (t.more_specs (t.Key keyword.Char (1 ∷ [])) t.no_specs)); list = record { declarator = (t.Array (t.Identifier (codes "A") (1 ∷ [])) (t.Unsized []) (1 ∷ 1 ∷ [])); init = None; lines = [] } ∷ []; lines = (1 ∷ []) })) ∷ (t.Declaration (record { specs = (t.more_specs (t.Record false (Some (codes "s")) (t.some_members (t.more_member_decls (t.MemberDecl (t.more_specs (t.Key keyword.Int (1 ∷ [])) t.no_specs) (t.more_member_declarators (t.MemberDeclarator (t.Identifier (codes "n") (1 ∷ [])) t.no_expr (1 ∷ [])) t.no_member_declarators) (1 ∷ [])) (t.more_member_decls (t.MemberDecl (t.more_specs (t.Typedef (codes "A") (1 ∷ [])) t.no_specs) (t.more_member_declarators (t.MemberDeclarator (t.Identifier (codes "a") (1 ∷ [])) t.no_expr (1 ∷ [])) t.no_member_declarators) (1 ∷ [])) t.no_member_decls))) (1 ∷ 1 ∷ 1 ∷ [])) t.no_specs); list = []; lines = (1 ∷ []) })) ∷ []; lines = [] }) rule.O10 1
unfolding layouts_of same_basic holds_const linkage_of clashes with_declaration with_content with_head unit_of landing puts_of constant_of is_null_constant pairing is_assignable check_gives check_chain check_here check_becomes check_look breaks node_rules rule_at same_key specs_type unary_of binary_of assignment_of
flexible_by_typedef = refl

-- `struct s { char b[]; int n; };`
flexible_inside : is_refused (record { parts = (t.Declaration (record { specs = (t.more_specs (t.Record false (Some (codes "s")) (t.some_members (t.more_member_decls (t.MemberDecl (t.more_specs (t.Key keyword.Char (1 ∷ [])) t.no_specs) (t.more_member_declarators (t.MemberDeclarator (t.Array (t.Identifier (codes "b") (1 ∷ [])) (t.Unsized []) (1 ∷ 1 ∷ [])) t.no_expr (1 ∷ [])) t.no_member_declarators) (1 ∷ [])) (t.more_member_decls (t.MemberDecl (t.more_specs (t.Key keyword.Int (1 ∷ [])) t.no_specs) (t.more_member_declarators (t.MemberDeclarator (t.Identifier (codes "n") (1 ∷ [])) t.no_expr (1 ∷ [])) t.no_member_declarators) (1 ∷ [])) t.no_member_decls))) (1 ∷ 1 ∷ 1 ∷ [])) t.no_specs); list = []; lines = (1 ∷ []) })) ∷ []; lines = [] }) rule.K5 1
unfolding layouts_of same_basic holds_const linkage_of clashes with_declaration with_content with_head unit_of landing puts_of constant_of is_null_constant pairing is_assignable check_gives check_chain check_here check_becomes check_look breaks node_rules rule_at same_key specs_type unary_of binary_of assignment_of
flexible_inside = refl

-- `struct s { int f(void); };`
member_function : is_refused (record { parts = (t.Declaration (record { specs = (t.more_specs (t.Record false (Some (codes "s")) (t.some_members (t.more_member_decls (t.MemberDecl (t.more_specs (t.Key keyword.Int (1 ∷ [])) t.no_specs) (t.more_member_declarators (t.MemberDeclarator (t.Function (t.Identifier (codes "f") (1 ∷ [])) (t.more_params (t.Param (t.more_specs (t.Key keyword.Void (1 ∷ [])) t.no_specs) t.Missing []) t.no_params) false (1 ∷ 1 ∷ [])) t.no_expr (1 ∷ [])) t.no_member_declarators) (1 ∷ [])) t.no_member_decls)) (1 ∷ 1 ∷ 1 ∷ [])) t.no_specs); list = []; lines = (1 ∷ []) })) ∷ []; lines = [] }) rule.K8 1
unfolding layouts_of same_basic holds_const linkage_of clashes with_declaration with_content with_head unit_of landing puts_of constant_of is_null_constant pairing is_assignable check_gives check_chain check_here check_becomes check_look breaks node_rules rule_at same_key specs_type unary_of binary_of assignment_of
member_function = refl

-- `struct s { void a; };`
member_void : is_refused (record { parts = (t.Declaration (record { specs = (t.more_specs (t.Record false (Some (codes "s")) (t.some_members (t.more_member_decls (t.MemberDecl (t.more_specs (t.Key keyword.Void (1 ∷ [])) t.no_specs) (t.more_member_declarators (t.MemberDeclarator (t.Identifier (codes "a") (1 ∷ [])) t.no_expr (1 ∷ [])) t.no_member_declarators) (1 ∷ [])) t.no_member_decls)) (1 ∷ 1 ∷ 1 ∷ [])) t.no_specs); list = []; lines = (1 ∷ []) })) ∷ []; lines = [] }) rule.K5 1
unfolding layouts_of same_basic holds_const linkage_of clashes with_declaration with_content with_head unit_of landing puts_of constant_of is_null_constant pairing is_assignable check_gives check_chain check_here check_becomes check_look breaks node_rules rule_at same_key specs_type unary_of binary_of assignment_of
member_void = refl

-- `struct s { int : 3; };`
member_unnamed_only : is_refused (record { parts = (t.Declaration (record { specs = (t.more_specs (t.Record false (Some (codes "s")) (t.some_members (t.more_member_decls (t.MemberDecl (t.more_specs (t.Key keyword.Int (1 ∷ [])) t.no_specs) (t.more_member_declarators (t.MemberDeclarator t.Missing (t.some_expr (t.Number 3 ty0.Int (1 ∷ []))) (1 ∷ [])) t.no_member_declarators) (1 ∷ [])) t.no_member_decls)) (1 ∷ 1 ∷ 1 ∷ [])) t.no_specs); list = []; lines = (1 ∷ []) })) ∷ []; lines = [] }) rule.K8 1
unfolding layouts_of same_basic holds_const linkage_of clashes with_declaration with_content with_head unit_of landing puts_of constant_of is_null_constant pairing is_assignable check_gives check_chain check_here check_becomes check_look breaks node_rules rule_at same_key specs_type unary_of binary_of assignment_of
member_unnamed_only = refl

-- `struct s { int a; char a; };`
member_twice_later : is_refused (record { parts = (t.Declaration (record { specs = (t.more_specs (t.Record false (Some (codes "s")) (t.some_members (t.more_member_decls (t.MemberDecl (t.more_specs (t.Key keyword.Int (1 ∷ [])) t.no_specs) (t.more_member_declarators (t.MemberDeclarator (t.Identifier (codes "a") (1 ∷ [])) t.no_expr (1 ∷ [])) t.no_member_declarators) (1 ∷ [])) (t.more_member_decls (t.MemberDecl (t.more_specs (t.Key keyword.Char (2 ∷ [])) t.no_specs) (t.more_member_declarators (t.MemberDeclarator (t.Identifier (codes "a") (2 ∷ [])) t.no_expr (2 ∷ [])) t.no_member_declarators) (2 ∷ [])) t.no_member_decls))) (1 ∷ 1 ∷ 1 ∷ [])) t.no_specs); list = []; lines = (1 ∷ []) })) ∷ []; lines = [] }) rule.K8 2
unfolding layouts_of same_basic holds_const linkage_of clashes with_declaration with_content with_head unit_of landing puts_of constant_of is_null_constant pairing is_assignable check_gives check_chain check_here check_becomes check_look breaks node_rules rule_at same_key specs_type unary_of binary_of assignment_of
member_twice_later = refl

-- `enum e { A }; struct s { enum e a : 32; int b; };`
bits_of_enum : is_fine (record { parts = (t.Declaration (record { specs = (t.more_specs (t.Enum (Some (codes "e")) (t.some_enumerator_list (t.more_enumerators (t.Enumerator (codes "A") t.no_expr (1 ∷ [])) t.no_enumerators)) false (1 ∷ 1 ∷ 1 ∷ [])) t.no_specs); list = []; lines = (1 ∷ []) })) ∷ (t.Declaration (record { specs = (t.more_specs (t.Record false (Some (codes "s")) (t.some_members (t.more_member_decls (t.MemberDecl (t.more_specs (t.Enum (Some (codes "e")) t.no_enumerator_list false (1 ∷ 1 ∷ [])) t.no_specs) (t.more_member_declarators (t.MemberDeclarator (t.Identifier (codes "a") (1 ∷ [])) (t.some_expr (t.Number 32 ty0.Int (1 ∷ []))) (1 ∷ [])) t.no_member_declarators) (1 ∷ [])) (t.more_member_decls (t.MemberDecl (t.more_specs (t.Key keyword.Int (1 ∷ [])) t.no_specs) (t.more_member_declarators (t.MemberDeclarator (t.Identifier (codes "b") (1 ∷ [])) t.no_expr (1 ∷ [])) t.no_member_declarators) (1 ∷ [])) t.no_member_decls))) (1 ∷ 1 ∷ 1 ∷ [])) t.no_specs); list = []; lines = (1 ∷ []) })) ∷ []; lines = [] })
unfolding layouts_of same_basic holds_const linkage_of clashes with_declaration with_content with_head unit_of landing puts_of constant_of is_null_constant pairing is_assignable check_gives check_chain check_here check_becomes check_look breaks node_rules rule_at same_key specs_type unary_of binary_of assignment_of
bits_of_enum = refl

-- `struct s { _Bool a : 2; };`
bits_of_truth : is_refused (record { parts = (t.Declaration (record { specs = (t.more_specs (t.Record false (Some (codes "s")) (t.some_members (t.more_member_decls (t.MemberDecl (t.more_specs (t.Key keyword.Bool (1 ∷ [])) t.no_specs) (t.more_member_declarators (t.MemberDeclarator (t.Identifier (codes "a") (1 ∷ [])) (t.some_expr (t.Number 2 ty0.Int (1 ∷ []))) (1 ∷ [])) t.no_member_declarators) (1 ∷ [])) t.no_member_decls)) (1 ∷ 1 ∷ 1 ∷ [])) t.no_specs); list = []; lines = (1 ∷ []) })) ∷ []; lines = [] }) rule.K22 1
unfolding layouts_of same_basic holds_const linkage_of clashes with_declaration with_content with_head unit_of landing puts_of constant_of is_null_constant pairing is_assignable check_gives check_chain check_here check_becomes check_look breaks node_rules rule_at same_key specs_type unary_of binary_of assignment_of
bits_of_truth = refl

-- `struct s { int *a : 2; };`
bits_of_pointer : is_refused (record { parts = (t.Declaration (record { specs = (t.more_specs (t.Record false (Some (codes "s")) (t.some_members (t.more_member_decls (t.MemberDecl (t.more_specs (t.Key keyword.Int (1 ∷ [])) t.no_specs) (t.more_member_declarators (t.MemberDeclarator (t.Pointer [] (t.Identifier (codes "a") (1 ∷ [])) (1 ∷ [])) (t.some_expr (t.Number 2 ty0.Int (1 ∷ []))) (1 ∷ [])) t.no_member_declarators) (1 ∷ [])) t.no_member_decls)) (1 ∷ 1 ∷ 1 ∷ [])) t.no_specs); list = []; lines = (1 ∷ []) })) ∷ []; lines = [] }) rule.K22 1
unfolding layouts_of same_basic holds_const linkage_of clashes with_declaration with_content with_head unit_of landing puts_of constant_of is_null_constant pairing is_assignable check_gives check_chain check_here check_becomes check_look breaks node_rules rule_at same_key specs_type unary_of binary_of assignment_of
bits_of_pointer = refl

-- `struct s { int a : -1; };`
bits_negative : is_refused (record { parts = (t.Declaration (record { specs = (t.more_specs (t.Record false (Some (codes "s")) (t.some_members (t.more_member_decls (t.MemberDecl (t.more_specs (t.Key keyword.Int (1 ∷ [])) t.no_specs) (t.more_member_declarators (t.MemberDeclarator (t.Identifier (codes "a") (1 ∷ [])) (t.some_expr (t.Unary punct.Minus (t.Number 1 ty0.Int (1 ∷ [])) (1 ∷ []))) (1 ∷ [])) t.no_member_declarators) (1 ∷ [])) t.no_member_decls)) (1 ∷ 1 ∷ 1 ∷ [])) t.no_specs); list = []; lines = (1 ∷ []) })) ∷ []; lines = [] }) rule.K22 1
unfolding layouts_of same_basic holds_const linkage_of clashes with_declaration with_content with_head unit_of landing puts_of constant_of is_null_constant pairing is_assignable check_gives check_chain check_here check_becomes check_look breaks node_rules rule_at same_key specs_type unary_of binary_of assignment_of
bits_negative = refl

-- `int n; struct s { int a : n; };`
bits_not_constant : is_refused (record { parts = (t.Declaration (record { specs = (t.more_specs (t.Key keyword.Int (1 ∷ [])) t.no_specs); list = record { declarator = (t.Identifier (codes "n") (1 ∷ [])); init = None; lines = [] } ∷ []; lines = (1 ∷ []) })) ∷ (t.Declaration (record { specs = (t.more_specs (t.Record false (Some (codes "s")) (t.some_members (t.more_member_decls (t.MemberDecl (t.more_specs (t.Key keyword.Int (1 ∷ [])) t.no_specs) (t.more_member_declarators (t.MemberDeclarator (t.Identifier (codes "a") (1 ∷ [])) (t.some_expr (t.Name (codes "n") (1 ∷ []))) (1 ∷ [])) t.no_member_declarators) (1 ∷ [])) t.no_member_decls)) (1 ∷ 1 ∷ 1 ∷ [])) t.no_specs); list = []; lines = (1 ∷ []) })) ∷ []; lines = [] }) rule.K17 1
unfolding layouts_of same_basic holds_const linkage_of clashes with_declaration with_content with_head unit_of landing puts_of constant_of is_null_constant pairing is_assignable check_gives check_chain check_here check_becomes check_look breaks node_rules rule_at same_key specs_type unary_of binary_of assignment_of
bits_not_constant = refl

-- `struct s { unsigned long a : 3; };`
bits_of_long : is_refused (record { parts = (t.Declaration (record { specs = (t.more_specs (t.Record false (Some (codes "s")) (t.some_members (t.more_member_decls (t.MemberDecl (t.more_specs (t.Key keyword.Unsigned (1 ∷ [])) (t.more_specs (t.Key keyword.Long (1 ∷ [])) t.no_specs)) (t.more_member_declarators (t.MemberDeclarator (t.Identifier (codes "a") (1 ∷ [])) (t.some_expr (t.Number 3 ty0.Int (1 ∷ []))) (1 ∷ [])) t.no_member_declarators) (1 ∷ [])) t.no_member_decls)) (1 ∷ 1 ∷ 1 ∷ [])) t.no_specs); list = []; lines = (1 ∷ []) })) ∷ []; lines = [] }) rule.O6 1
unfolding layouts_of same_basic holds_const linkage_of clashes with_declaration with_content with_head unit_of landing puts_of constant_of is_null_constant pairing is_assignable check_gives check_chain check_here check_becomes check_look breaks node_rules rule_at same_key specs_type unary_of binary_of assignment_of
bits_of_long = refl

-- `struct s { char a : 9; };`
bits_of_char : is_refused (record { parts = (t.Declaration (record { specs = (t.more_specs (t.Record false (Some (codes "s")) (t.some_members (t.more_member_decls (t.MemberDecl (t.more_specs (t.Key keyword.Char (1 ∷ [])) t.no_specs) (t.more_member_declarators (t.MemberDeclarator (t.Identifier (codes "a") (1 ∷ [])) (t.some_expr (t.Number 9 ty0.Int (1 ∷ []))) (1 ∷ [])) t.no_member_declarators) (1 ∷ [])) t.no_member_decls)) (1 ∷ 1 ∷ 1 ∷ [])) t.no_specs); list = []; lines = (1 ∷ []) })) ∷ []; lines = [] }) rule.K22 1
unfolding layouts_of same_basic holds_const linkage_of clashes with_declaration with_content with_head unit_of landing puts_of constant_of is_null_constant pairing is_assignable check_gives check_chain check_here check_becomes check_look breaks node_rules rule_at same_key specs_type unary_of binary_of assignment_of
bits_of_char = refl

-- `enum e { A = -2147483648 - 1 };`
enumerator_low : is_refused (record { parts = (t.Declaration (record { specs = (t.more_specs (t.Enum (Some (codes "e")) (t.some_enumerator_list (t.more_enumerators (t.Enumerator (codes "A") (t.some_expr (t.Binary (t.Unary punct.Minus (t.Number 2147483648 ty0.Long (1 ∷ [])) (1 ∷ [])) punct.Minus (t.Number 1 ty0.Int (1 ∷ [])) (1 ∷ []))) (1 ∷ [])) t.no_enumerators)) false (1 ∷ 1 ∷ 1 ∷ [])) t.no_specs); list = []; lines = (1 ∷ []) })) ∷ []; lines = [] }) rule.K23 1
unfolding layouts_of same_basic holds_const linkage_of clashes with_declaration with_content with_head unit_of landing puts_of constant_of is_null_constant pairing is_assignable check_gives check_chain check_here check_becomes check_look breaks node_rules rule_at same_key specs_type unary_of binary_of assignment_of
enumerator_low = refl

-- `enum e { A = 2147483648 };`
enumerator_high : is_refused (record { parts = (t.Declaration (record { specs = (t.more_specs (t.Enum (Some (codes "e")) (t.some_enumerator_list (t.more_enumerators (t.Enumerator (codes "A") (t.some_expr (t.Number 2147483648 ty0.Long (1 ∷ []))) (1 ∷ [])) t.no_enumerators)) false (1 ∷ 1 ∷ 1 ∷ [])) t.no_specs); list = []; lines = (1 ∷ []) })) ∷ []; lines = [] }) rule.K23 1
unfolding layouts_of same_basic holds_const linkage_of clashes with_declaration with_content with_head unit_of landing puts_of constant_of is_null_constant pairing is_assignable check_gives check_chain check_here check_becomes check_look breaks node_rules rule_at same_key specs_type unary_of binary_of assignment_of
enumerator_high = refl

-- `enum e { A = 2147483647, B };`
enumerator_next : is_refused (record { parts = (t.Declaration (record { specs = (t.more_specs (t.Enum (Some (codes "e")) (t.some_enumerator_list (t.more_enumerators (t.Enumerator (codes "A") (t.some_expr (t.Number 2147483647 ty0.Int (1 ∷ []))) (1 ∷ [])) (t.more_enumerators (t.Enumerator (codes "B") t.no_expr (2 ∷ [])) t.no_enumerators))) false (1 ∷ 1 ∷ 1 ∷ [])) t.no_specs); list = []; lines = (1 ∷ []) })) ∷ []; lines = [] }) rule.K23 2
unfolding layouts_of same_basic holds_const linkage_of clashes with_declaration with_content with_head unit_of landing puts_of constant_of is_null_constant pairing is_assignable check_gives check_chain check_here check_becomes check_look breaks node_rules rule_at same_key specs_type unary_of binary_of assignment_of
enumerator_next = refl

-- `enum e { A = A };`
enumerator_in_itself : is_refused (record { parts = (t.Declaration (record { specs = (t.more_specs (t.Enum (Some (codes "e")) (t.some_enumerator_list (t.more_enumerators (t.Enumerator (codes "A") (t.some_expr (t.Name (codes "A") (1 ∷ []))) (1 ∷ [])) t.no_enumerators)) false (1 ∷ 1 ∷ 1 ∷ [])) t.no_specs); list = []; lines = (1 ∷ []) })) ∷ []; lines = [] }) rule.K1 1
unfolding layouts_of same_basic holds_const linkage_of clashes with_declaration with_content with_head unit_of landing puts_of constant_of is_null_constant pairing is_assignable check_gives check_chain check_here check_becomes check_look breaks node_rules rule_at same_key specs_type unary_of binary_of assignment_of
enumerator_in_itself = refl

-- `enum e { A, B = A + 1 };`
enumerator_before : is_fine (record { parts = (t.Declaration (record { specs = (t.more_specs (t.Enum (Some (codes "e")) (t.some_enumerator_list (t.more_enumerators (t.Enumerator (codes "A") t.no_expr (1 ∷ [])) (t.more_enumerators (t.Enumerator (codes "B") (t.some_expr (t.Binary (t.Name (codes "A") (1 ∷ [])) punct.Plus (t.Number 1 ty0.Int (1 ∷ [])) (1 ∷ []))) (1 ∷ [])) t.no_enumerators))) false (1 ∷ 1 ∷ 1 ∷ [])) t.no_specs); list = []; lines = (1 ∷ []) })) ∷ []; lines = [] })
unfolding layouts_of same_basic holds_const linkage_of clashes with_declaration with_content with_head unit_of landing puts_of constant_of is_null_constant pairing is_assignable check_gives check_chain check_here check_becomes check_look breaks node_rules rule_at same_key specs_type unary_of binary_of assignment_of
enumerator_before = refl

-- `enum e { A = sizeof(enum e) };`
enum_in_its_list : is_refused (record { parts = (t.Declaration (record { specs = (t.more_specs (t.Enum (Some (codes "e")) (t.some_enumerator_list (t.more_enumerators (t.Enumerator (codes "A") (t.some_expr (t.SizeofType (t.TypeName (t.more_specs (t.Enum (Some (codes "e")) t.no_enumerator_list false (1 ∷ 1 ∷ [])) t.no_specs) t.Missing []) (1 ∷ 1 ∷ 1 ∷ []))) (1 ∷ [])) t.no_enumerators)) false (1 ∷ 1 ∷ 1 ∷ [])) t.no_specs); list = []; lines = (1 ∷ []) })) ∷ []; lines = [] }) rule.K24 1
unfolding layouts_of same_basic holds_const linkage_of clashes with_declaration with_content with_head unit_of landing puts_of constant_of is_null_constant pairing is_assignable check_gives check_chain check_here check_becomes check_look breaks node_rules rule_at same_key specs_type unary_of binary_of assignment_of
enum_in_its_list = refl

-- `enum e { A }; enum e { B };`
enum_twice : is_refused (record { parts = (t.Declaration (record { specs = (t.more_specs (t.Enum (Some (codes "e")) (t.some_enumerator_list (t.more_enumerators (t.Enumerator (codes "A") t.no_expr (1 ∷ [])) t.no_enumerators)) false (1 ∷ 1 ∷ 1 ∷ [])) t.no_specs); list = []; lines = (1 ∷ []) })) ∷ (t.Declaration (record { specs = (t.more_specs (t.Enum (Some (codes "e")) (t.some_enumerator_list (t.more_enumerators (t.Enumerator (codes "B") t.no_expr (1 ∷ [])) t.no_enumerators)) false (1 ∷ 1 ∷ 1 ∷ [])) t.no_specs); list = []; lines = (1 ∷ []) })) ∷ []; lines = [] }) rule.K24 1
unfolding layouts_of same_basic holds_const linkage_of clashes with_declaration with_content with_head unit_of landing puts_of constant_of is_null_constant pairing is_assignable check_gives check_chain check_here check_becomes check_look breaks node_rules rule_at same_key specs_type unary_of binary_of assignment_of
enum_twice = refl

-- `enum e { A }; struct e x;`
enum_as_struct : is_refused (record { parts = (t.Declaration (record { specs = (t.more_specs (t.Enum (Some (codes "e")) (t.some_enumerator_list (t.more_enumerators (t.Enumerator (codes "A") t.no_expr (1 ∷ [])) t.no_enumerators)) false (1 ∷ 1 ∷ 1 ∷ [])) t.no_specs); list = []; lines = (1 ∷ []) })) ∷ (t.Declaration (record { specs = (t.more_specs (t.Record false (Some (codes "e")) t.no_members (1 ∷ 1 ∷ [])) t.no_specs); list = record { declarator = (t.Identifier (codes "x") (1 ∷ [])); init = None; lines = [] } ∷ []; lines = (1 ∷ []) })) ∷ []; lines = [] }) rule.K24 1
unfolding layouts_of same_basic holds_const linkage_of clashes with_declaration with_content with_head unit_of landing puts_of constant_of is_null_constant pairing is_assignable check_gives check_chain check_here check_becomes check_look breaks node_rules rule_at same_key specs_type unary_of binary_of assignment_of
enum_as_struct = refl

-- `struct s { int a; }; enum s x;`
struct_as_enum : is_refused (record { parts = (t.Declaration (record { specs = (t.more_specs (t.Record false (Some (codes "s")) (t.some_members (t.more_member_decls (t.MemberDecl (t.more_specs (t.Key keyword.Int (1 ∷ [])) t.no_specs) (t.more_member_declarators (t.MemberDeclarator (t.Identifier (codes "a") (1 ∷ [])) t.no_expr (1 ∷ [])) t.no_member_declarators) (1 ∷ [])) t.no_member_decls)) (1 ∷ 1 ∷ 1 ∷ [])) t.no_specs); list = []; lines = (1 ∷ []) })) ∷ (t.Declaration (record { specs = (t.more_specs (t.Enum (Some (codes "s")) t.no_enumerator_list false (1 ∷ 1 ∷ [])) t.no_specs); list = record { declarator = (t.Identifier (codes "x") (1 ∷ [])); init = None; lines = [] } ∷ []; lines = (1 ∷ []) })) ∷ []; lines = [] }) rule.K24 1
unfolding layouts_of same_basic holds_const linkage_of clashes with_declaration with_content with_head unit_of landing puts_of constant_of is_null_constant pairing is_assignable check_gives check_chain check_here check_becomes check_look breaks node_rules rule_at same_key specs_type unary_of binary_of assignment_of
struct_as_enum = refl

-- `struct s { int a; }; union s { int b; };`
struct_as_union : is_refused (record { parts = (t.Declaration (record { specs = (t.more_specs (t.Record false (Some (codes "s")) (t.some_members (t.more_member_decls (t.MemberDecl (t.more_specs (t.Key keyword.Int (1 ∷ [])) t.no_specs) (t.more_member_declarators (t.MemberDeclarator (t.Identifier (codes "a") (1 ∷ [])) t.no_expr (1 ∷ [])) t.no_member_declarators) (1 ∷ [])) t.no_member_decls)) (1 ∷ 1 ∷ 1 ∷ [])) t.no_specs); list = []; lines = (1 ∷ []) })) ∷ (t.Declaration (record { specs = (t.more_specs (t.Record true (Some (codes "s")) (t.some_members (t.more_member_decls (t.MemberDecl (t.more_specs (t.Key keyword.Int (1 ∷ [])) t.no_specs) (t.more_member_declarators (t.MemberDeclarator (t.Identifier (codes "b") (1 ∷ [])) t.no_expr (1 ∷ [])) t.no_member_declarators) (1 ∷ [])) t.no_member_decls)) (1 ∷ 1 ∷ 1 ∷ [])) t.no_specs); list = []; lines = (1 ∷ []) })) ∷ []; lines = [] }) rule.K24 1
unfolding layouts_of same_basic holds_const linkage_of clashes with_declaration with_content with_head unit_of landing puts_of constant_of is_null_constant pairing is_assignable check_gives check_chain check_here check_becomes check_look breaks node_rules rule_at same_key specs_type unary_of binary_of assignment_of
struct_as_union = refl

-- `struct s { int a; }; struct s { int a; };`
struct_twice : is_refused (record { parts = (t.Declaration (record { specs = (t.more_specs (t.Record false (Some (codes "s")) (t.some_members (t.more_member_decls (t.MemberDecl (t.more_specs (t.Key keyword.Int (1 ∷ [])) t.no_specs) (t.more_member_declarators (t.MemberDeclarator (t.Identifier (codes "a") (1 ∷ [])) t.no_expr (1 ∷ [])) t.no_member_declarators) (1 ∷ [])) t.no_member_decls)) (1 ∷ 1 ∷ 1 ∷ [])) t.no_specs); list = []; lines = (1 ∷ []) })) ∷ (t.Declaration (record { specs = (t.more_specs (t.Record false (Some (codes "s")) (t.some_members (t.more_member_decls (t.MemberDecl (t.more_specs (t.Key keyword.Int (1 ∷ [])) t.no_specs) (t.more_member_declarators (t.MemberDeclarator (t.Identifier (codes "a") (1 ∷ [])) t.no_expr (1 ∷ [])) t.no_member_declarators) (1 ∷ [])) t.no_member_decls)) (1 ∷ 1 ∷ 1 ∷ [])) t.no_specs); list = []; lines = (1 ∷ []) })) ∷ []; lines = [] }) rule.K24 1
unfolding layouts_of same_basic holds_const linkage_of clashes with_declaration with_content with_head unit_of landing puts_of constant_of is_null_constant pairing is_assignable check_gives check_chain check_here check_becomes check_look breaks node_rules rule_at same_key specs_type unary_of binary_of assignment_of
struct_twice = refl

-- `struct s; struct s *p; struct s { int a; }; int main(void) { return p->a; }`
struct_later : is_fine (record { parts = (t.Declaration (record { specs = (t.more_specs (t.Record false (Some (codes "s")) t.no_members (1 ∷ 1 ∷ [])) t.no_specs); list = []; lines = (1 ∷ []) })) ∷ (t.Declaration (record { specs = (t.more_specs (t.Record false (Some (codes "s")) t.no_members (1 ∷ 1 ∷ [])) t.no_specs); list = record { declarator = (t.Pointer [] (t.Identifier (codes "p") (1 ∷ [])) (1 ∷ [])); init = None; lines = [] } ∷ []; lines = (1 ∷ []) })) ∷ (t.Declaration (record { specs = (t.more_specs (t.Record false (Some (codes "s")) (t.some_members (t.more_member_decls (t.MemberDecl (t.more_specs (t.Key keyword.Int (1 ∷ [])) t.no_specs) (t.more_member_declarators (t.MemberDeclarator (t.Identifier (codes "a") (1 ∷ [])) t.no_expr (1 ∷ [])) t.no_member_declarators) (1 ∷ [])) t.no_member_decls)) (1 ∷ 1 ∷ 1 ∷ [])) t.no_specs); list = []; lines = (1 ∷ []) })) ∷ (t.Defined (record { specs = (t.more_specs (t.Key keyword.Int (1 ∷ [])) t.no_specs); declarator = (t.Function (t.Identifier (codes "main") (1 ∷ [])) (t.more_params (t.Param (t.more_specs (t.Key keyword.Void (1 ∷ [])) t.no_specs) t.Missing []) t.no_params) false (1 ∷ 1 ∷ [])); body = t.Block (t.more_items (t.Statement (t.Return (t.some_expr (t.Arrow (t.Name (codes "p") (1 ∷ [])) (codes "a") (1 ∷ 1 ∷ []))) (1 ∷ 1 ∷ []))) t.no_items) (1 ∷ 1 ∷ []); lines = [] })) ∷ []; lines = [] })
unfolding layouts_of same_basic holds_const linkage_of clashes with_declaration with_content with_head unit_of landing puts_of constant_of is_null_constant pairing is_assignable check_gives check_chain check_here check_becomes check_look breaks node_rules rule_at same_key specs_type unary_of binary_of assignment_of
struct_later = refl

-- `struct s { char a; }; int main(void) { struct s { int a; } x; return sizeof x == 4; }`
tag_in_block : is_fine (record { parts = (t.Declaration (record { specs = (t.more_specs (t.Record false (Some (codes "s")) (t.some_members (t.more_member_decls (t.MemberDecl (t.more_specs (t.Key keyword.Char (1 ∷ [])) t.no_specs) (t.more_member_declarators (t.MemberDeclarator (t.Identifier (codes "a") (1 ∷ [])) t.no_expr (1 ∷ [])) t.no_member_declarators) (1 ∷ [])) t.no_member_decls)) (1 ∷ 1 ∷ 1 ∷ [])) t.no_specs); list = []; lines = (1 ∷ []) })) ∷ (t.Defined (record { specs = (t.more_specs (t.Key keyword.Int (1 ∷ [])) t.no_specs); declarator = (t.Function (t.Identifier (codes "main") (1 ∷ [])) (t.more_params (t.Param (t.more_specs (t.Key keyword.Void (1 ∷ [])) t.no_specs) t.Missing []) t.no_params) false (1 ∷ 1 ∷ [])); body = t.Block (t.more_items (t.Declared (record { specs = (t.more_specs (t.Record false (Some (codes "s")) (t.some_members (t.more_member_decls (t.MemberDecl (t.more_specs (t.Key keyword.Int (1 ∷ [])) t.no_specs) (t.more_member_declarators (t.MemberDeclarator (t.Identifier (codes "a") (1 ∷ [])) t.no_expr (1 ∷ [])) t.no_member_declarators) (1 ∷ [])) t.no_member_decls)) (1 ∷ 1 ∷ 1 ∷ [])) t.no_specs); list = record { declarator = (t.Identifier (codes "x") (1 ∷ [])); init = None; lines = [] } ∷ []; lines = (1 ∷ []) })) (t.more_items (t.Statement (t.Return (t.some_expr (t.Binary (t.SizeofExpr (t.Name (codes "x") (1 ∷ [])) (1 ∷ [])) punct.EqualEqual (t.Number 4 ty0.Int (1 ∷ [])) (1 ∷ []))) (1 ∷ 1 ∷ []))) t.no_items)) (1 ∷ 1 ∷ []); lines = [] })) ∷ []; lines = [] })
unfolding layouts_of same_basic holds_const linkage_of clashes with_declaration with_content with_head unit_of landing puts_of constant_of is_null_constant pairing is_assignable check_gives check_chain check_here check_becomes check_look breaks node_rules rule_at same_key specs_type unary_of binary_of assignment_of
tag_in_block = refl

-- `int f(struct s *p); struct s { int a; } x; int main(void) { return f(&x); }`
tag_in_prototype : is_refused (record { parts = (t.Declaration (record { specs = (t.more_specs (t.Key keyword.Int (1 ∷ [])) t.no_specs); list = record { declarator = (t.Function (t.Identifier (codes "f") (1 ∷ [])) (t.more_params (t.Param (t.more_specs (t.Record false (Some (codes "s")) t.no_members (1 ∷ 1 ∷ [])) t.no_specs) (t.Pointer [] (t.Identifier (codes "p") (1 ∷ [])) (1 ∷ [])) []) t.no_params) false (1 ∷ 1 ∷ [])); init = None; lines = [] } ∷ []; lines = (1 ∷ []) })) ∷ (t.Declaration (record { specs = (t.more_specs (t.Record false (Some (codes "s")) (t.some_members (t.more_member_decls (t.MemberDecl (t.more_specs (t.Key keyword.Int (1 ∷ [])) t.no_specs) (t.more_member_declarators (t.MemberDeclarator (t.Identifier (codes "a") (1 ∷ [])) t.no_expr (1 ∷ [])) t.no_member_declarators) (1 ∷ [])) t.no_member_decls)) (1 ∷ 1 ∷ 1 ∷ [])) t.no_specs); list = record { declarator = (t.Identifier (codes "x") (1 ∷ [])); init = None; lines = [] } ∷ []; lines = (1 ∷ []) })) ∷ (t.Defined (record { specs = (t.more_specs (t.Key keyword.Int (1 ∷ [])) t.no_specs); declarator = (t.Function (t.Identifier (codes "main") (1 ∷ [])) (t.more_params (t.Param (t.more_specs (t.Key keyword.Void (1 ∷ [])) t.no_specs) t.Missing []) t.no_params) false (1 ∷ 1 ∷ [])); body = t.Block (t.more_items (t.Statement (t.Return (t.some_expr (t.Call (t.Name (codes "f") (1 ∷ [])) (t.more_exprs (t.Unary punct.Ampersand (t.Name (codes "x") (1 ∷ [])) (1 ∷ [])) t.no_exprs) (1 ∷ 1 ∷ []))) (1 ∷ 1 ∷ []))) t.no_items) (1 ∷ 1 ∷ []); lines = [] })) ∷ []; lines = [] }) rule.K12 1
unfolding layouts_of same_basic holds_const linkage_of clashes with_declaration with_content with_head unit_of landing puts_of constant_of is_null_constant pairing is_assignable check_gives check_chain check_here check_becomes check_look breaks node_rules rule_at same_key specs_type unary_of binary_of assignment_of
tag_in_prototype = refl

-- `int f(struct s { int a; } x) { struct s y = x; return y.a; }`
tag_of_parameter_in_body : is_fine (record { parts = (t.Defined (record { specs = (t.more_specs (t.Key keyword.Int (1 ∷ [])) t.no_specs); declarator = (t.Function (t.Identifier (codes "f") (1 ∷ [])) (t.more_params (t.Param (t.more_specs (t.Record false (Some (codes "s")) (t.some_members (t.more_member_decls (t.MemberDecl (t.more_specs (t.Key keyword.Int (1 ∷ [])) t.no_specs) (t.more_member_declarators (t.MemberDeclarator (t.Identifier (codes "a") (1 ∷ [])) t.no_expr (1 ∷ [])) t.no_member_declarators) (1 ∷ [])) t.no_member_decls)) (1 ∷ 1 ∷ 1 ∷ [])) t.no_specs) (t.Identifier (codes "x") (1 ∷ [])) []) t.no_params) false (1 ∷ 1 ∷ [])); body = t.Block (t.more_items (t.Declared (record { specs = (t.more_specs (t.Record false (Some (codes "s")) t.no_members (1 ∷ 1 ∷ [])) t.no_specs); list = record { declarator = (t.Identifier (codes "y") (1 ∷ [])); init = (Some (t.Single (t.Name (codes "x") (1 ∷ [])))); lines = [] } ∷ []; lines = (1 ∷ []) })) (t.more_items (t.Statement (t.Return (t.some_expr (t.Dot (t.Name (codes "y") (1 ∷ [])) (codes "a") (1 ∷ 1 ∷ []))) (1 ∷ 1 ∷ []))) t.no_items)) (1 ∷ 1 ∷ []); lines = [] })) ∷ []; lines = [] })
unfolding layouts_of same_basic holds_const linkage_of clashes with_declaration with_content with_head unit_of landing puts_of constant_of is_null_constant pairing is_assignable check_gives check_chain check_here check_becomes check_look breaks node_rules rule_at same_key specs_type unary_of binary_of assignment_of
tag_of_parameter_in_body = refl

-- `typedef int A[2]; const A a = { 1 }; int main(void) { a[0] = 1; return 0; }`
const_typedef_array : is_refused (record { parts = (t.Declaration (record { specs = (t.more_specs (t.Key keyword.Typedef (1 ∷ [])) (t.more_specs (t.Key keyword.Int (1 ∷ [])) t.no_specs)); list = record { declarator = (t.Array (t.Identifier (codes "A") (1 ∷ [])) (t.Length [] (t.Number 2 ty0.Int (1 ∷ []))) (1 ∷ 1 ∷ [])); init = None; lines = [] } ∷ []; lines = (1 ∷ []) })) ∷ (t.Declaration (record { specs = (t.more_specs (t.Key keyword.Const (1 ∷ [])) (t.more_specs (t.Typedef (codes "A") (1 ∷ [])) t.no_specs)); list = record { declarator = (t.Identifier (codes "a") (1 ∷ [])); init = (Some (t.Braced (t.InitialiserList (t.more_entries (t.Entry t.no_designators (t.Single (t.Number 1 ty0.Int (1 ∷ []))) []) t.no_entries) false (1 ∷ 1 ∷ [])))); lines = [] } ∷ []; lines = (1 ∷ []) })) ∷ (t.Defined (record { specs = (t.more_specs (t.Key keyword.Int (1 ∷ [])) t.no_specs); declarator = (t.Function (t.Identifier (codes "main") (1 ∷ [])) (t.more_params (t.Param (t.more_specs (t.Key keyword.Void (1 ∷ [])) t.no_specs) t.Missing []) t.no_params) false (1 ∷ 1 ∷ [])); body = t.Block (t.more_items (t.Statement (t.ExprStmt (t.some_expr (t.Assign (t.Index (t.Name (codes "a") (1 ∷ [])) (t.Number 0 ty0.Int (1 ∷ [])) (1 ∷ 1 ∷ [])) punct.Equal (t.Number 1 ty0.Int (1 ∷ [])) (1 ∷ []))) (1 ∷ []))) (t.more_items (t.Statement (t.Return (t.some_expr (t.Number 0 ty0.Int (1 ∷ []))) (1 ∷ 1 ∷ []))) t.no_items)) (1 ∷ 1 ∷ []); lines = [] })) ∷ []; lines = [] }) rule.K11 1
unfolding layouts_of same_basic holds_const linkage_of clashes with_declaration with_content with_head unit_of landing puts_of constant_of is_null_constant pairing is_assignable check_gives check_chain check_here check_becomes check_look breaks node_rules rule_at same_key specs_type unary_of binary_of assignment_of
const_typedef_array = refl

-- `char (*p)[16777217];`
too_large_behind_pointer : is_refused (record { parts = (t.Declaration (record { specs = (t.more_specs (t.Key keyword.Char (1 ∷ [])) t.no_specs); list = record { declarator = (t.Array (t.Group (t.Pointer [] (t.Identifier (codes "p") (1 ∷ [])) (1 ∷ [])) (1 ∷ 1 ∷ [])) (t.Length [] (t.Number 16777217 ty0.Int (1 ∷ []))) (1 ∷ 1 ∷ [])); init = None; lines = [] } ∷ []; lines = (1 ∷ []) })) ∷ []; lines = [] }) rule.M3 1
unfolding layouts_of same_basic holds_const linkage_of clashes with_declaration with_content with_head unit_of landing puts_of constant_of is_null_constant pairing is_assignable check_gives check_chain check_here check_becomes check_look breaks node_rules rule_at same_key specs_type unary_of binary_of assignment_of
too_large_behind_pointer = refl

-- `char (*f(void))[16777217];`
too_large_result : is_refused (record { parts = (t.Declaration (record { specs = (t.more_specs (t.Key keyword.Char (1 ∷ [])) t.no_specs); list = record { declarator = (t.Array (t.Group (t.Pointer [] (t.Function (t.Identifier (codes "f") (1 ∷ [])) (t.more_params (t.Param (t.more_specs (t.Key keyword.Void (1 ∷ [])) t.no_specs) t.Missing []) t.no_params) false (1 ∷ 1 ∷ [])) (1 ∷ [])) (1 ∷ 1 ∷ [])) (t.Length [] (t.Number 16777217 ty0.Int (1 ∷ []))) (1 ∷ 1 ∷ [])); init = None; lines = [] } ∷ []; lines = (1 ∷ []) })) ∷ []; lines = [] }) rule.M3 1
unfolding layouts_of same_basic holds_const linkage_of clashes with_declaration with_content with_head unit_of landing puts_of constant_of is_null_constant pairing is_assignable check_gives check_chain check_here check_becomes check_look breaks node_rules rule_at same_key specs_type unary_of binary_of assignment_of
too_large_result = refl

-- `struct s { char a[16777216]; char b; };`
too_large_record : is_refused (record { parts = (t.Declaration (record { specs = (t.more_specs (t.Record false (Some (codes "s")) (t.some_members (t.more_member_decls (t.MemberDecl (t.more_specs (t.Key keyword.Char (1 ∷ [])) t.no_specs) (t.more_member_declarators (t.MemberDeclarator (t.Array (t.Identifier (codes "a") (1 ∷ [])) (t.Length [] (t.Number 16777216 ty0.Int (1 ∷ []))) (1 ∷ 1 ∷ [])) t.no_expr (1 ∷ [])) t.no_member_declarators) (1 ∷ [])) (t.more_member_decls (t.MemberDecl (t.more_specs (t.Key keyword.Char (1 ∷ [])) t.no_specs) (t.more_member_declarators (t.MemberDeclarator (t.Identifier (codes "b") (1 ∷ [])) t.no_expr (1 ∷ [])) t.no_member_declarators) (1 ∷ [])) t.no_member_decls))) (1 ∷ 1 ∷ 1 ∷ [])) t.no_specs); list = []; lines = (1 ∷ []) })) ∷ []; lines = [] }) rule.M3 1
unfolding layouts_of same_basic holds_const linkage_of clashes with_declaration with_content with_head unit_of landing puts_of constant_of is_null_constant pairing is_assignable check_gives check_chain check_here check_becomes check_look breaks node_rules rule_at same_key specs_type unary_of binary_of assignment_of
too_large_record = refl

-- `int main(void) { return sizeof(char[16777217]); }`
too_large_type_name : is_refused (record { parts = (t.Defined (record { specs = (t.more_specs (t.Key keyword.Int (1 ∷ [])) t.no_specs); declarator = (t.Function (t.Identifier (codes "main") (1 ∷ [])) (t.more_params (t.Param (t.more_specs (t.Key keyword.Void (1 ∷ [])) t.no_specs) t.Missing []) t.no_params) false (1 ∷ 1 ∷ [])); body = t.Block (t.more_items (t.Statement (t.Return (t.some_expr (t.SizeofType (t.TypeName (t.more_specs (t.Key keyword.Char (1 ∷ [])) t.no_specs) (t.Array t.Missing (t.Length [] (t.Number 16777217 ty0.Int (1 ∷ []))) (1 ∷ 1 ∷ [])) []) (1 ∷ 1 ∷ 1 ∷ []))) (1 ∷ 1 ∷ []))) t.no_items) (1 ∷ 1 ∷ []); lines = [] })) ∷ []; lines = [] }) rule.M3 1
unfolding layouts_of same_basic holds_const linkage_of clashes with_declaration with_content with_head unit_of landing puts_of constant_of is_null_constant pairing is_assignable check_gives check_chain check_here check_becomes check_look breaks node_rules rule_at same_key specs_type unary_of binary_of assignment_of
too_large_type_name = refl

-- `char a[2][16777216];`
too_large_elements : is_refused (record { parts = (t.Declaration (record { specs = (t.more_specs (t.Key keyword.Char (1 ∷ [])) t.no_specs); list = record { declarator = (t.Array (t.Array (t.Identifier (codes "a") (1 ∷ [])) (t.Length [] (t.Number 2 ty0.Int (1 ∷ []))) (1 ∷ 1 ∷ [])) (t.Length [] (t.Number 16777216 ty0.Int (1 ∷ []))) (1 ∷ 1 ∷ [])); init = None; lines = [] } ∷ []; lines = (1 ∷ []) })) ∷ []; lines = [] }) rule.M3 1
unfolding layouts_of same_basic holds_const linkage_of clashes with_declaration with_content with_head unit_of landing puts_of constant_of is_null_constant pairing is_assignable check_gives check_chain check_here check_becomes check_look breaks node_rules rule_at same_key specs_type unary_of binary_of assignment_of
too_large_elements = refl

-- `struct s { char a[16777216]; };`
largest_record : is_fine (record { parts = (t.Declaration (record { specs = (t.more_specs (t.Record false (Some (codes "s")) (t.some_members (t.more_member_decls (t.MemberDecl (t.more_specs (t.Key keyword.Char (1 ∷ [])) t.no_specs) (t.more_member_declarators (t.MemberDeclarator (t.Array (t.Identifier (codes "a") (1 ∷ [])) (t.Length [] (t.Number 16777216 ty0.Int (1 ∷ []))) (1 ∷ 1 ∷ [])) t.no_expr (1 ∷ [])) t.no_member_declarators) (1 ∷ [])) t.no_member_decls)) (1 ∷ 1 ∷ 1 ∷ [])) t.no_specs); list = []; lines = (1 ∷ []) })) ∷ []; lines = [] })
unfolding layouts_of same_basic holds_const linkage_of clashes with_declaration with_content with_head unit_of landing puts_of constant_of is_null_constant pairing is_assignable check_gives check_chain check_here check_becomes check_look breaks node_rules rule_at same_key specs_type unary_of binary_of assignment_of
largest_record = refl

-- Layouts

-- `union u { char a[9]; int b; }; char a[sizeof(union u) == 12 ? 1 : -1];`
union_layout : is_fine (record { parts = (t.Declaration (record { specs = (t.more_specs (t.Record true (Some (codes "u")) (t.some_members (t.more_member_decls (t.MemberDecl (t.more_specs (t.Key keyword.Char (1 ∷ [])) t.no_specs) (t.more_member_declarators (t.MemberDeclarator (t.Array (t.Identifier (codes "a") (1 ∷ [])) (t.Length [] (t.Number 9 ty0.Int (1 ∷ []))) (1 ∷ 1 ∷ [])) t.no_expr (1 ∷ [])) t.no_member_declarators) (1 ∷ [])) (t.more_member_decls (t.MemberDecl (t.more_specs (t.Key keyword.Int (1 ∷ [])) t.no_specs) (t.more_member_declarators (t.MemberDeclarator (t.Identifier (codes "b") (1 ∷ [])) t.no_expr (1 ∷ [])) t.no_member_declarators) (1 ∷ [])) t.no_member_decls))) (1 ∷ 1 ∷ 1 ∷ [])) t.no_specs); list = []; lines = (1 ∷ []) })) ∷ (t.Declaration (record { specs = (t.more_specs (t.Key keyword.Char (1 ∷ [])) t.no_specs); list = record { declarator = (t.Array (t.Identifier (codes "a") (1 ∷ [])) (t.Length [] (t.Cond (t.Binary (t.SizeofType (t.TypeName (t.more_specs (t.Record true (Some (codes "u")) t.no_members (1 ∷ 1 ∷ [])) t.no_specs) t.Missing []) (1 ∷ 1 ∷ 1 ∷ [])) punct.EqualEqual (t.Number 12 ty0.Int (1 ∷ [])) (1 ∷ [])) (t.Number 1 ty0.Int (1 ∷ [])) (t.Unary punct.Minus (t.Number 1 ty0.Int (1 ∷ [])) (1 ∷ [])) (1 ∷ 1 ∷ []))) (1 ∷ 1 ∷ [])); init = None; lines = [] } ∷ []; lines = (1 ∷ []) })) ∷ []; lines = [] })
unfolding layouts_of same_basic holds_const linkage_of clashes with_declaration with_content with_head unit_of landing puts_of constant_of is_null_constant pairing is_assignable check_gives check_chain check_here check_becomes check_look breaks node_rules rule_at same_key specs_type unary_of binary_of assignment_of
union_layout = refl

-- `struct s { short a : 9; short b : 9; }; char a[sizeof(struct s) == 4 ? 1 : -1];`
bits_layout : is_fine (record { parts = (t.Declaration (record { specs = (t.more_specs (t.Record false (Some (codes "s")) (t.some_members (t.more_member_decls (t.MemberDecl (t.more_specs (t.Key keyword.Short (1 ∷ [])) t.no_specs) (t.more_member_declarators (t.MemberDeclarator (t.Identifier (codes "a") (1 ∷ [])) (t.some_expr (t.Number 9 ty0.Int (1 ∷ []))) (1 ∷ [])) t.no_member_declarators) (1 ∷ [])) (t.more_member_decls (t.MemberDecl (t.more_specs (t.Key keyword.Short (1 ∷ [])) t.no_specs) (t.more_member_declarators (t.MemberDeclarator (t.Identifier (codes "b") (1 ∷ [])) (t.some_expr (t.Number 9 ty0.Int (1 ∷ []))) (1 ∷ [])) t.no_member_declarators) (1 ∷ [])) t.no_member_decls))) (1 ∷ 1 ∷ 1 ∷ [])) t.no_specs); list = []; lines = (1 ∷ []) })) ∷ (t.Declaration (record { specs = (t.more_specs (t.Key keyword.Char (1 ∷ [])) t.no_specs); list = record { declarator = (t.Array (t.Identifier (codes "a") (1 ∷ [])) (t.Length [] (t.Cond (t.Binary (t.SizeofType (t.TypeName (t.more_specs (t.Record false (Some (codes "s")) t.no_members (1 ∷ 1 ∷ [])) t.no_specs) t.Missing []) (1 ∷ 1 ∷ 1 ∷ [])) punct.EqualEqual (t.Number 4 ty0.Int (1 ∷ [])) (1 ∷ [])) (t.Number 1 ty0.Int (1 ∷ [])) (t.Unary punct.Minus (t.Number 1 ty0.Int (1 ∷ [])) (1 ∷ [])) (1 ∷ 1 ∷ []))) (1 ∷ 1 ∷ [])); init = None; lines = [] } ∷ []; lines = (1 ∷ []) })) ∷ []; lines = [] })
unfolding layouts_of same_basic holds_const linkage_of clashes with_declaration with_content with_head unit_of landing puts_of constant_of is_null_constant pairing is_assignable check_gives check_chain check_here check_becomes check_look breaks node_rules rule_at same_key specs_type unary_of binary_of assignment_of
bits_layout = refl

-- `struct s { char c; int f : 31; }; char a[sizeof(struct s) == 8 ? 1 : -1];`
bits_behind_char : is_fine (record { parts = (t.Declaration (record { specs = (t.more_specs (t.Record false (Some (codes "s")) (t.some_members (t.more_member_decls (t.MemberDecl (t.more_specs (t.Key keyword.Char (1 ∷ [])) t.no_specs) (t.more_member_declarators (t.MemberDeclarator (t.Identifier (codes "c") (1 ∷ [])) t.no_expr (1 ∷ [])) t.no_member_declarators) (1 ∷ [])) (t.more_member_decls (t.MemberDecl (t.more_specs (t.Key keyword.Int (1 ∷ [])) t.no_specs) (t.more_member_declarators (t.MemberDeclarator (t.Identifier (codes "f") (1 ∷ [])) (t.some_expr (t.Number 31 ty0.Int (1 ∷ []))) (1 ∷ [])) t.no_member_declarators) (1 ∷ [])) t.no_member_decls))) (1 ∷ 1 ∷ 1 ∷ [])) t.no_specs); list = []; lines = (1 ∷ []) })) ∷ (t.Declaration (record { specs = (t.more_specs (t.Key keyword.Char (1 ∷ [])) t.no_specs); list = record { declarator = (t.Array (t.Identifier (codes "a") (1 ∷ [])) (t.Length [] (t.Cond (t.Binary (t.SizeofType (t.TypeName (t.more_specs (t.Record false (Some (codes "s")) t.no_members (1 ∷ 1 ∷ [])) t.no_specs) t.Missing []) (1 ∷ 1 ∷ 1 ∷ [])) punct.EqualEqual (t.Number 8 ty0.Int (1 ∷ [])) (1 ∷ [])) (t.Number 1 ty0.Int (1 ∷ [])) (t.Unary punct.Minus (t.Number 1 ty0.Int (1 ∷ [])) (1 ∷ [])) (1 ∷ 1 ∷ []))) (1 ∷ 1 ∷ [])); init = None; lines = [] } ∷ []; lines = (1 ∷ []) })) ∷ []; lines = [] })
unfolding layouts_of same_basic holds_const linkage_of clashes with_declaration with_content with_head unit_of landing puts_of constant_of is_null_constant pairing is_assignable check_gives check_chain check_here check_becomes check_look breaks node_rules rule_at same_key specs_type unary_of binary_of assignment_of
bits_behind_char = refl

-- `struct s { long a; char b; }; char a[sizeof(struct s) == 16 ? 1 : -1];`
aligned_end : is_fine (record { parts = (t.Declaration (record { specs = (t.more_specs (t.Record false (Some (codes "s")) (t.some_members (t.more_member_decls (t.MemberDecl (t.more_specs (t.Key keyword.Long (1 ∷ [])) t.no_specs) (t.more_member_declarators (t.MemberDeclarator (t.Identifier (codes "a") (1 ∷ [])) t.no_expr (1 ∷ [])) t.no_member_declarators) (1 ∷ [])) (t.more_member_decls (t.MemberDecl (t.more_specs (t.Key keyword.Char (1 ∷ [])) t.no_specs) (t.more_member_declarators (t.MemberDeclarator (t.Identifier (codes "b") (1 ∷ [])) t.no_expr (1 ∷ [])) t.no_member_declarators) (1 ∷ [])) t.no_member_decls))) (1 ∷ 1 ∷ 1 ∷ [])) t.no_specs); list = []; lines = (1 ∷ []) })) ∷ (t.Declaration (record { specs = (t.more_specs (t.Key keyword.Char (1 ∷ [])) t.no_specs); list = record { declarator = (t.Array (t.Identifier (codes "a") (1 ∷ [])) (t.Length [] (t.Cond (t.Binary (t.SizeofType (t.TypeName (t.more_specs (t.Record false (Some (codes "s")) t.no_members (1 ∷ 1 ∷ [])) t.no_specs) t.Missing []) (1 ∷ 1 ∷ 1 ∷ [])) punct.EqualEqual (t.Number 16 ty0.Int (1 ∷ [])) (1 ∷ [])) (t.Number 1 ty0.Int (1 ∷ [])) (t.Unary punct.Minus (t.Number 1 ty0.Int (1 ∷ [])) (1 ∷ [])) (1 ∷ 1 ∷ []))) (1 ∷ 1 ∷ [])); init = None; lines = [] } ∷ []; lines = (1 ∷ []) })) ∷ []; lines = [] })
unfolding layouts_of same_basic holds_const linkage_of clashes with_declaration with_content with_head unit_of landing puts_of constant_of is_null_constant pairing is_assignable check_gives check_chain check_here check_becomes check_look breaks node_rules rule_at same_key specs_type unary_of binary_of assignment_of
aligned_end = refl
