-- Worked units with functions: what a definition says of the parameters, and results of type `void`.
use Rattle.std.specs.Prelude.{ℕ, true, false, List, [], ◌∷◌, None, Some, codes}
use mathlib.Core.Path.{refl}
use Rattle.cr_base.specs.declared.rule.Rule.TheVariants as rule
use Rattle.cx_lex.specs.declared.token.Keyword.{Keyword}
use Rattle.cx_lex.specs.declared.token.Keyword.TheVariants as keyword
use Rattle.cx_lex.specs.declared.token.Ty0.TheVariants as ty0
use Rattle.cx_tree.specs.Trees as t
use Rattle.cx_tree.specs.Trees.{UnitTree, SpecTrees, DeclaratorTree, ParamTrees, StmtTree, ExternalTree}
use Rattle.cx_core.specs.Layouts.{layouts_of}
use Rattle.cx_core.specs.Conversions.{same_basic}
use Rattle.cx_core.specs.ValidTypes.{holds_const}
use Rattle.cx_rules.specs.Declare.{linkage_of, clashes, with_declaration, with_content, with_head, unit_of}
use Rattle.cx_rules.specs.Initial.{landing, puts_of}
use Rattle.cx_rules.specs.Operands.{constant_of, is_null_constant}
use Rattle.cx_rules.specs.Pairs.{pairing, is_assignable}
use Rattle.cx_rules.specs.Readings.{check_gives, check_chain, check_here, check_becomes, check_look}
use Rattle.cx_rules.specs.Rules.{breaks, node_rules, rule_at}
use Rattle.cx_rules.specs.Shapes.{same_key, specs_type}
use Rattle.cx_rules.specs.Pieces.{unary_of, binary_of, assignment_of}
use Rattle.cx_rules.proofs.Worked.{is_refused, is_fine}

-- `f`, with a list of parameters or with `()`, on a line
abbrev listed : ℕ → ParamTrees → DeclaratorTree
listed line params = t.Function (t.Identifier (codes "f") (line ∷ [])) params false (line ∷ line ∷ [])

abbrev unlisted : ℕ → DeclaratorTree
unlisted line = t.Identifiers (t.Identifier (codes "f") (line ∷ [])) [] (line ∷ line ∷ [])

abbrev one_param : Keyword → ℕ → ParamTrees
one_param word line = t.more_params (t.Param (t.more_specs (t.Key word (line ∷ [])) t.no_specs) t.Missing []) t.no_params

abbrev int_specs : ℕ → SpecTrees
int_specs line = t.more_specs (t.Key keyword.Int (line ∷ [])) t.no_specs

abbrev const_void_specs : ℕ → SpecTrees
const_void_specs line = t.more_specs (t.Key keyword.Const (line ∷ [])) (t.more_specs (t.Key keyword.Void (line ∷ [])) t.no_specs)

abbrev declares : SpecTrees → DeclaratorTree → ℕ → ExternalTree
declares specs declarator line =
    t.Declaration (record { specs = specs; list = record { declarator = declarator; init = None; lines = [] } ∷ []; lines = line ∷ [] })

abbrev defines : SpecTrees → DeclaratorTree → StmtTree → ExternalTree
defines specs declarator body = t.Defined (record { specs = specs; declarator = declarator; body = body; lines = [] })

abbrev returns_zero : ℕ → StmtTree
returns_zero line = t.Block (t.more_items (t.Statement (t.Return (t.some_expr (t.Number 0 ty0.Int (line ∷ []))) (line ∷ line ∷ []))) t.no_items) (line ∷ line ∷ [])

abbrev nothing_done : ℕ → StmtTree
nothing_done line = t.Block t.no_items (line ∷ line ∷ [])

abbrev unit : List ExternalTree → UnitTree
unit parts = record { parts = parts; lines = [] }

-- ---- definitions with `()` have no parameters (6.7.5.3p14, p15)

-- `int f(int); int f() { return 0; }`
defined_without_the_parameter : is_refused (unit (declares (int_specs 1) (listed 1 (one_param keyword.Int 1)) 1 ∷ defines (int_specs 2) (unlisted 2) (returns_zero 2) ∷ [])) rule.K2 2
unfolding layouts_of same_basic holds_const linkage_of clashes with_declaration with_content with_head unit_of landing puts_of constant_of is_null_constant pairing is_assignable check_gives check_chain check_here check_becomes check_look breaks node_rules rule_at same_key specs_type unary_of binary_of assignment_of
defined_without_the_parameter = refl

-- `int f() { return 0; } int f(int);`
declared_with_a_parameter_behind : is_refused (unit (defines (int_specs 1) (unlisted 1) (returns_zero 1) ∷ declares (int_specs 2) (listed 2 (one_param keyword.Int 2)) 2 ∷ [])) rule.K2 2
unfolding layouts_of same_basic holds_const linkage_of clashes with_declaration with_content with_head unit_of landing puts_of constant_of is_null_constant pairing is_assignable check_gives check_chain check_here check_becomes check_look breaks node_rules rule_at same_key specs_type unary_of binary_of assignment_of
declared_with_a_parameter_behind = refl

-- `int f(void); int f() { return 0; } int f();`
defined_without_parameters : is_fine (unit (declares (int_specs 1) (listed 1 (one_param keyword.Void 1)) 1 ∷ defines (int_specs 2) (unlisted 2) (returns_zero 2) ∷ declares (int_specs 3) (unlisted 3) 3 ∷ []))
unfolding layouts_of same_basic holds_const linkage_of clashes with_declaration with_content with_head unit_of landing puts_of constant_of is_null_constant pairing is_assignable check_gives check_chain check_here check_becomes check_look breaks node_rules rule_at same_key specs_type unary_of binary_of assignment_of
defined_without_parameters = refl

-- `int f(int); int f();`
declared_without_a_list : is_fine (unit (declares (int_specs 1) (listed 1 (one_param keyword.Int 1)) 1 ∷ declares (int_specs 2) (unlisted 2) 2 ∷ []))
unfolding layouts_of same_basic holds_const linkage_of clashes with_declaration with_content with_head unit_of landing puts_of constant_of is_null_constant pairing is_assignable check_gives check_chain check_here check_becomes check_look breaks node_rules rule_at same_key specs_type unary_of binary_of assignment_of
declared_without_a_list = refl

-- ---- `const void` isn't `void` (6.9.1p3)

-- `const void f(void) { }`
gives_const_void : is_refused (unit (defines (const_void_specs 1) (listed 1 (one_param keyword.Void 1)) (nothing_done 1) ∷ [])) rule.K5 1
unfolding layouts_of same_basic holds_const linkage_of clashes with_declaration with_content with_head unit_of landing puts_of constant_of is_null_constant pairing is_assignable check_gives check_chain check_here check_becomes check_look breaks node_rules rule_at same_key specs_type unary_of binary_of assignment_of
gives_const_void = refl

-- `const void f(void);`
declares_const_void : is_fine (unit (declares (const_void_specs 1) (listed 1 (one_param keyword.Void 1)) 1 ∷ []))
unfolding layouts_of same_basic holds_const linkage_of clashes with_declaration with_content with_head unit_of landing puts_of constant_of is_null_constant pairing is_assignable check_gives check_chain check_here check_becomes check_look breaks node_rules rule_at same_key specs_type unary_of binary_of assignment_of
declares_const_void = refl
