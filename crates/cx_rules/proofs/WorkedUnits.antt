-- Worked units: each breaks the rule that is named, at its line, or none.
use Rattle.std.specs.Prelude.{true, false, [], ◌∷◌, None, Some, codes}
use mathlib.Core.Path.{refl}
use Rattle.cr_base.specs.declared.rule.Rule.TheVariants as rule
use Rattle.cx_lex.specs.declared.token.Keyword.TheVariants as keyword
use Rattle.cx_lex.specs.declared.token.Punct.TheVariants as punct
use Rattle.cx_lex.specs.declared.token.Ty0.TheVariants as ty0
use Rattle.cx_tree.specs.Trees as t
use Rattle.cx_tree.specs.Trees.{UnitTree}
use Rattle.cx_core.specs.Layouts.{layouts_of}
use Rattle.cx_core.specs.Conversions.{same_basic}
use Rattle.cx_core.specs.ValidTypes.{holds_const}
use Rattle.cx_rules.specs.Declare.{linkage_of, clashes, with_declaration, with_content, with_head, unit_of}
use Rattle.cx_rules.specs.Initial.{landing, puts_of}
use Rattle.cx_rules.specs.Operands.{constant_of, is_null_constant}
use Rattle.cx_rules.specs.Pairs.{pairing, is_assignable}
use Rattle.cx_rules.specs.Readings.{check_gives, check_chain, check_here, check_becomes, check_look}
use Rattle.cx_rules.specs.Rules.{breaks, node_rules, rule_at}
use Rattle.cx_rules.specs.Shapes.{same_key, specs_type}
use Rattle.cx_rules.specs.Pieces.{unary_of, binary_of, assignment_of}
use Rattle.cx_rules.proofs.Worked.{is_refused, is_fine}

-- Expressions

-- `int main(void) { return 42; }`
returns_constant : is_fine (record { parts = (t.Defined (record { specs = (t.more_specs (t.Key keyword.Int (1 ∷ [])) t.no_specs); declarator = (t.Function (t.Identifier (codes "main") (1 ∷ [])) (t.more_params (t.Param (t.more_specs (t.Key keyword.Void (1 ∷ [])) t.no_specs) t.Missing []) t.no_params) false (1 ∷ 1 ∷ [])); body = t.Block (t.more_items (t.Statement (t.Return (t.some_expr (t.Number 42 ty0.Int (1 ∷ []))) (1 ∷ 1 ∷ []))) t.no_items) (1 ∷ 1 ∷ []); lines = [] })) ∷ []; lines = [] })
unfolding layouts_of same_basic holds_const linkage_of clashes with_declaration with_content with_head unit_of landing puts_of constant_of is_null_constant pairing is_assignable check_gives check_chain check_here check_becomes check_look breaks node_rules rule_at same_key specs_type unary_of binary_of assignment_of
returns_constant = refl

-- `int main(void) { return y; }`
undeclared : is_refused (record { parts = (t.Defined (record { specs = (t.more_specs (t.Key keyword.Int (1 ∷ [])) t.no_specs); declarator = (t.Function (t.Identifier (codes "main") (1 ∷ [])) (t.more_params (t.Param (t.more_specs (t.Key keyword.Void (1 ∷ [])) t.no_specs) t.Missing []) t.no_params) false (1 ∷ 1 ∷ [])); body = t.Block (t.more_items (t.Statement (t.Return (t.some_expr (t.Name (codes "y") (1 ∷ []))) (1 ∷ 1 ∷ []))) t.no_items) (1 ∷ 1 ∷ []); lines = [] })) ∷ []; lines = [] }) rule.K1 1
unfolding layouts_of same_basic holds_const linkage_of clashes with_declaration with_content with_head unit_of landing puts_of constant_of is_null_constant pairing is_assignable check_gives check_chain check_here check_becomes check_look breaks node_rules rule_at same_key specs_type unary_of binary_of assignment_of
undeclared = refl

-- `int x; int main(void) { return x + y; }`
undeclared_line : is_refused (record { parts = (t.Declaration (record { specs = (t.more_specs (t.Key keyword.Int (1 ∷ [])) t.no_specs); list = record { declarator = (t.Identifier (codes "x") (1 ∷ [])); init = None; lines = [] } ∷ []; lines = (1 ∷ []) })) ∷ (t.Defined (record { specs = (t.more_specs (t.Key keyword.Int (2 ∷ [])) t.no_specs); declarator = (t.Function (t.Identifier (codes "main") (2 ∷ [])) (t.more_params (t.Param (t.more_specs (t.Key keyword.Void (2 ∷ [])) t.no_specs) t.Missing []) t.no_params) false (2 ∷ 2 ∷ [])); body = t.Block (t.more_items (t.Statement (t.Return (t.some_expr (t.Binary (t.Name (codes "x") (3 ∷ [])) punct.Plus (t.Name (codes "y") (3 ∷ [])) (3 ∷ []))) (3 ∷ 3 ∷ []))) t.no_items) (2 ∷ 2 ∷ []); lines = [] })) ∷ []; lines = [] }) rule.K1 3
unfolding layouts_of same_basic holds_const linkage_of clashes with_declaration with_content with_head unit_of landing puts_of constant_of is_null_constant pairing is_assignable check_gives check_chain check_here check_becomes check_look breaks node_rules rule_at same_key specs_type unary_of binary_of assignment_of
undeclared_line = refl

-- `int f(int a) { return a; } int main(void) { int (*p)(int) = f; return p(1) + (*p)(2) + (&f)(3); }`
calls_pointer : is_fine (record { parts = (t.Defined (record { specs = (t.more_specs (t.Key keyword.Int (1 ∷ [])) t.no_specs); declarator = (t.Function (t.Identifier (codes "f") (1 ∷ [])) (t.more_params (t.Param (t.more_specs (t.Key keyword.Int (1 ∷ [])) t.no_specs) (t.Identifier (codes "a") (1 ∷ [])) []) t.no_params) false (1 ∷ 1 ∷ [])); body = t.Block (t.more_items (t.Statement (t.Return (t.some_expr (t.Name (codes "a") (1 ∷ []))) (1 ∷ 1 ∷ []))) t.no_items) (1 ∷ 1 ∷ []); lines = [] })) ∷ (t.Defined (record { specs = (t.more_specs (t.Key keyword.Int (1 ∷ [])) t.no_specs); declarator = (t.Function (t.Identifier (codes "main") (1 ∷ [])) (t.more_params (t.Param (t.more_specs (t.Key keyword.Void (1 ∷ [])) t.no_specs) t.Missing []) t.no_params) false (1 ∷ 1 ∷ [])); body = t.Block (t.more_items (t.Declared (record { specs = (t.more_specs (t.Key keyword.Int (1 ∷ [])) t.no_specs); list = record { declarator = (t.Function (t.Group (t.Pointer [] (t.Identifier (codes "p") (1 ∷ [])) (1 ∷ [])) (1 ∷ 1 ∷ [])) (t.more_params (t.Param (t.more_specs (t.Key keyword.Int (1 ∷ [])) t.no_specs) t.Missing []) t.no_params) false (1 ∷ 1 ∷ [])); init = (Some (t.Single (t.Name (codes "f") (1 ∷ [])))); lines = [] } ∷ []; lines = (1 ∷ []) })) (t.more_items (t.Statement (t.Return (t.some_expr (t.Binary (t.Binary (t.Call (t.Name (codes "p") (1 ∷ [])) (t.more_exprs (t.Number 1 ty0.Int (1 ∷ [])) t.no_exprs) (1 ∷ 1 ∷ [])) punct.Plus (t.Call (t.Unary punct.Star (t.Name (codes "p") (1 ∷ [])) (1 ∷ [])) (t.more_exprs (t.Number 2 ty0.Int (1 ∷ [])) t.no_exprs) (1 ∷ 1 ∷ [])) (1 ∷ [])) punct.Plus (t.Call (t.Unary punct.Ampersand (t.Name (codes "f") (1 ∷ [])) (1 ∷ [])) (t.more_exprs (t.Number 3 ty0.Int (1 ∷ [])) t.no_exprs) (1 ∷ 1 ∷ [])) (1 ∷ []))) (1 ∷ 1 ∷ []))) t.no_items)) (1 ∷ 1 ∷ []); lines = [] })) ∷ []; lines = [] })
unfolding layouts_of same_basic holds_const linkage_of clashes with_declaration with_content with_head unit_of landing puts_of constant_of is_null_constant pairing is_assignable check_gives check_chain check_here check_becomes check_look breaks node_rules rule_at same_key specs_type unary_of binary_of assignment_of
calls_pointer = refl

-- `int f(int a, int b) { return a; } int main(void) { return f(1); }`
too_few : is_refused (record { parts = (t.Defined (record { specs = (t.more_specs (t.Key keyword.Int (1 ∷ [])) t.no_specs); declarator = (t.Function (t.Identifier (codes "f") (1 ∷ [])) (t.more_params (t.Param (t.more_specs (t.Key keyword.Int (1 ∷ [])) t.no_specs) (t.Identifier (codes "a") (1 ∷ [])) []) (t.more_params (t.Param (t.more_specs (t.Key keyword.Int (1 ∷ [])) t.no_specs) (t.Identifier (codes "b") (1 ∷ [])) []) t.no_params)) false (1 ∷ 1 ∷ [])); body = t.Block (t.more_items (t.Statement (t.Return (t.some_expr (t.Name (codes "a") (1 ∷ []))) (1 ∷ 1 ∷ []))) t.no_items) (1 ∷ 1 ∷ []); lines = [] })) ∷ (t.Defined (record { specs = (t.more_specs (t.Key keyword.Int (1 ∷ [])) t.no_specs); declarator = (t.Function (t.Identifier (codes "main") (1 ∷ [])) (t.more_params (t.Param (t.more_specs (t.Key keyword.Void (1 ∷ [])) t.no_specs) t.Missing []) t.no_params) false (1 ∷ 1 ∷ [])); body = t.Block (t.more_items (t.Statement (t.Return (t.some_expr (t.Call (t.Name (codes "f") (1 ∷ [])) (t.more_exprs (t.Number 1 ty0.Int (1 ∷ [])) t.no_exprs) (1 ∷ 1 ∷ []))) (1 ∷ 1 ∷ []))) t.no_items) (1 ∷ 1 ∷ []); lines = [] })) ∷ []; lines = [] }) rule.K9 1
unfolding layouts_of same_basic holds_const linkage_of clashes with_declaration with_content with_head unit_of landing puts_of constant_of is_null_constant pairing is_assignable check_gives check_chain check_here check_becomes check_look breaks node_rules rule_at same_key specs_type unary_of binary_of assignment_of
too_few = refl

-- `int f(); int main(void) { return f(1); }`
with_arguments_unlisted : is_refused (record { parts = (t.Declaration (record { specs = (t.more_specs (t.Key keyword.Int (1 ∷ [])) t.no_specs); list = record { declarator = (t.Identifiers (t.Identifier (codes "f") (1 ∷ [])) [] (1 ∷ 1 ∷ [])); init = None; lines = [] } ∷ []; lines = (1 ∷ []) })) ∷ (t.Defined (record { specs = (t.more_specs (t.Key keyword.Int (1 ∷ [])) t.no_specs); declarator = (t.Function (t.Identifier (codes "main") (1 ∷ [])) (t.more_params (t.Param (t.more_specs (t.Key keyword.Void (1 ∷ [])) t.no_specs) t.Missing []) t.no_params) false (1 ∷ 1 ∷ [])); body = t.Block (t.more_items (t.Statement (t.Return (t.some_expr (t.Call (t.Name (codes "f") (1 ∷ [])) (t.more_exprs (t.Number 1 ty0.Int (1 ∷ [])) t.no_exprs) (1 ∷ 1 ∷ []))) (1 ∷ 1 ∷ []))) t.no_items) (1 ∷ 1 ∷ []); lines = [] })) ∷ []; lines = [] }) rule.O4 1
unfolding layouts_of same_basic holds_const linkage_of clashes with_declaration with_content with_head unit_of landing puts_of constant_of is_null_constant pairing is_assignable check_gives check_chain check_here check_becomes check_look breaks node_rules rule_at same_key specs_type unary_of binary_of assignment_of
with_arguments_unlisted = refl

-- `int main(void) { int x = 1; return x(); }`
no_function : is_refused (record { parts = (t.Defined (record { specs = (t.more_specs (t.Key keyword.Int (1 ∷ [])) t.no_specs); declarator = (t.Function (t.Identifier (codes "main") (1 ∷ [])) (t.more_params (t.Param (t.more_specs (t.Key keyword.Void (1 ∷ [])) t.no_specs) t.Missing []) t.no_params) false (1 ∷ 1 ∷ [])); body = t.Block (t.more_items (t.Declared (record { specs = (t.more_specs (t.Key keyword.Int (1 ∷ [])) t.no_specs); list = record { declarator = (t.Identifier (codes "x") (1 ∷ [])); init = (Some (t.Single (t.Number 1 ty0.Int (1 ∷ [])))); lines = [] } ∷ []; lines = (1 ∷ []) })) (t.more_items (t.Statement (t.Return (t.some_expr (t.Call (t.Name (codes "x") (1 ∷ [])) t.no_exprs (1 ∷ 1 ∷ []))) (1 ∷ 1 ∷ []))) t.no_items)) (1 ∷ 1 ∷ []); lines = [] })) ∷ []; lines = [] }) rule.K9 1
unfolding layouts_of same_basic holds_const linkage_of clashes with_declaration with_content with_head unit_of landing puts_of constant_of is_null_constant pairing is_assignable check_gives check_chain check_here check_becomes check_look breaks node_rules rule_at same_key specs_type unary_of binary_of assignment_of
no_function = refl

-- `struct s { int a; }; int main(void) { struct s x; return -x; }`
struct_operand : is_refused (record { parts = (t.Declaration (record { specs = (t.more_specs (t.Record false (Some (codes "s")) (t.some_members (t.more_member_decls (t.MemberDecl (t.more_specs (t.Key keyword.Int (1 ∷ [])) t.no_specs) (t.more_member_declarators (t.MemberDeclarator (t.Identifier (codes "a") (1 ∷ [])) t.no_expr (1 ∷ [])) t.no_member_declarators) (1 ∷ [])) t.no_member_decls)) (1 ∷ 1 ∷ 1 ∷ [])) t.no_specs); list = []; lines = (1 ∷ []) })) ∷ (t.Defined (record { specs = (t.more_specs (t.Key keyword.Int (1 ∷ [])) t.no_specs); declarator = (t.Function (t.Identifier (codes "main") (1 ∷ [])) (t.more_params (t.Param (t.more_specs (t.Key keyword.Void (1 ∷ [])) t.no_specs) t.Missing []) t.no_params) false (1 ∷ 1 ∷ [])); body = t.Block (t.more_items (t.Declared (record { specs = (t.more_specs (t.Record false (Some (codes "s")) t.no_members (1 ∷ 1 ∷ [])) t.no_specs); list = record { declarator = (t.Identifier (codes "x") (1 ∷ [])); init = None; lines = [] } ∷ []; lines = (1 ∷ []) })) (t.more_items (t.Statement (t.Return (t.some_expr (t.Unary punct.Minus (t.Name (codes "x") (1 ∷ [])) (1 ∷ []))) (1 ∷ 1 ∷ []))) t.no_items)) (1 ∷ 1 ∷ []); lines = [] })) ∷ []; lines = [] }) rule.K10 1
unfolding layouts_of same_basic holds_const linkage_of clashes with_declaration with_content with_head unit_of landing puts_of constant_of is_null_constant pairing is_assignable check_gives check_chain check_here check_becomes check_look breaks node_rules rule_at same_key specs_type unary_of binary_of assignment_of
struct_operand = refl

-- `void f(void); int main(void) { return 1 + f(); }`
void_value : is_refused (record { parts = (t.Declaration (record { specs = (t.more_specs (t.Key keyword.Void (1 ∷ [])) t.no_specs); list = record { declarator = (t.Function (t.Identifier (codes "f") (1 ∷ [])) (t.more_params (t.Param (t.more_specs (t.Key keyword.Void (1 ∷ [])) t.no_specs) t.Missing []) t.no_params) false (1 ∷ 1 ∷ [])); init = None; lines = [] } ∷ []; lines = (1 ∷ []) })) ∷ (t.Defined (record { specs = (t.more_specs (t.Key keyword.Int (1 ∷ [])) t.no_specs); declarator = (t.Function (t.Identifier (codes "main") (1 ∷ [])) (t.more_params (t.Param (t.more_specs (t.Key keyword.Void (1 ∷ [])) t.no_specs) t.Missing []) t.no_params) false (1 ∷ 1 ∷ [])); body = t.Block (t.more_items (t.Statement (t.Return (t.some_expr (t.Binary (t.Number 1 ty0.Int (1 ∷ [])) punct.Plus (t.Call (t.Name (codes "f") (1 ∷ [])) t.no_exprs (1 ∷ 1 ∷ [])) (1 ∷ []))) (1 ∷ 1 ∷ []))) t.no_items) (1 ∷ 1 ∷ []); lines = [] })) ∷ []; lines = [] }) rule.K10 1
unfolding layouts_of same_basic holds_const linkage_of clashes with_declaration with_content with_head unit_of landing puts_of constant_of is_null_constant pairing is_assignable check_gives check_chain check_here check_becomes check_look breaks node_rules rule_at same_key specs_type unary_of binary_of assignment_of
void_value = refl

-- `int main(void) { 3 = 4; return 0; }`
assigns_constant : is_refused (record { parts = (t.Defined (record { specs = (t.more_specs (t.Key keyword.Int (1 ∷ [])) t.no_specs); declarator = (t.Function (t.Identifier (codes "main") (1 ∷ [])) (t.more_params (t.Param (t.more_specs (t.Key keyword.Void (1 ∷ [])) t.no_specs) t.Missing []) t.no_params) false (1 ∷ 1 ∷ [])); body = t.Block (t.more_items (t.Statement (t.ExprStmt (t.some_expr (t.Assign (t.Number 3 ty0.Int (1 ∷ [])) punct.Equal (t.Number 4 ty0.Int (1 ∷ [])) (1 ∷ []))) (1 ∷ []))) (t.more_items (t.Statement (t.Return (t.some_expr (t.Number 0 ty0.Int (1 ∷ []))) (1 ∷ 1 ∷ []))) t.no_items)) (1 ∷ 1 ∷ []); lines = [] })) ∷ []; lines = [] }) rule.K11 1
unfolding layouts_of same_basic holds_const linkage_of clashes with_declaration with_content with_head unit_of landing puts_of constant_of is_null_constant pairing is_assignable check_gives check_chain check_here check_becomes check_look breaks node_rules rule_at same_key specs_type unary_of binary_of assignment_of
assigns_constant = refl

-- `int main(void) { const int x = 1; x = 2; return 0; }`
assigns_const : is_refused (record { parts = (t.Defined (record { specs = (t.more_specs (t.Key keyword.Int (1 ∷ [])) t.no_specs); declarator = (t.Function (t.Identifier (codes "main") (1 ∷ [])) (t.more_params (t.Param (t.more_specs (t.Key keyword.Void (1 ∷ [])) t.no_specs) t.Missing []) t.no_params) false (1 ∷ 1 ∷ [])); body = t.Block (t.more_items (t.Declared (record { specs = (t.more_specs (t.Key keyword.Const (1 ∷ [])) (t.more_specs (t.Key keyword.Int (1 ∷ [])) t.no_specs)); list = record { declarator = (t.Identifier (codes "x") (1 ∷ [])); init = (Some (t.Single (t.Number 1 ty0.Int (1 ∷ [])))); lines = [] } ∷ []; lines = (1 ∷ []) })) (t.more_items (t.Statement (t.ExprStmt (t.some_expr (t.Assign (t.Name (codes "x") (1 ∷ [])) punct.Equal (t.Number 2 ty0.Int (1 ∷ [])) (1 ∷ []))) (1 ∷ []))) (t.more_items (t.Statement (t.Return (t.some_expr (t.Number 0 ty0.Int (1 ∷ []))) (1 ∷ 1 ∷ []))) t.no_items))) (1 ∷ 1 ∷ []); lines = [] })) ∷ []; lines = [] }) rule.K11 1
unfolding layouts_of same_basic holds_const linkage_of clashes with_declaration with_content with_head unit_of landing puts_of constant_of is_null_constant pairing is_assignable check_gives check_chain check_here check_becomes check_look breaks node_rules rule_at same_key specs_type unary_of binary_of assignment_of
assigns_const = refl

-- `struct s { const int a; }; int main(void) { struct s x, y; x = y; return 0; }`
assigns_const_member : is_refused (record { parts = (t.Declaration (record { specs = (t.more_specs (t.Record false (Some (codes "s")) (t.some_members (t.more_member_decls (t.MemberDecl (t.more_specs (t.Key keyword.Const (1 ∷ [])) (t.more_specs (t.Key keyword.Int (1 ∷ [])) t.no_specs)) (t.more_member_declarators (t.MemberDeclarator (t.Identifier (codes "a") (1 ∷ [])) t.no_expr (1 ∷ [])) t.no_member_declarators) (1 ∷ [])) t.no_member_decls)) (1 ∷ 1 ∷ 1 ∷ [])) t.no_specs); list = []; lines = (1 ∷ []) })) ∷ (t.Defined (record { specs = (t.more_specs (t.Key keyword.Int (1 ∷ [])) t.no_specs); declarator = (t.Function (t.Identifier (codes "main") (1 ∷ [])) (t.more_params (t.Param (t.more_specs (t.Key keyword.Void (1 ∷ [])) t.no_specs) t.Missing []) t.no_params) false (1 ∷ 1 ∷ [])); body = t.Block (t.more_items (t.Declared (record { specs = (t.more_specs (t.Record false (Some (codes "s")) t.no_members (1 ∷ 1 ∷ [])) t.no_specs); list = record { declarator = (t.Identifier (codes "x") (1 ∷ [])); init = None; lines = [] } ∷ []; lines = (1 ∷ []) })) (t.more_items (t.Declared (record { specs = (t.more_specs (t.Record false (Some (codes "s")) t.no_members (1 ∷ 1 ∷ [])) t.no_specs); list = record { declarator = (t.Identifier (codes "y") (1 ∷ [])); init = None; lines = [] } ∷ []; lines = (1 ∷ []) })) (t.more_items (t.Statement (t.ExprStmt (t.some_expr (t.Assign (t.Name (codes "x") (1 ∷ [])) punct.Equal (t.Name (codes "y") (1 ∷ [])) (1 ∷ []))) (1 ∷ []))) (t.more_items (t.Statement (t.Return (t.some_expr (t.Number 0 ty0.Int (1 ∷ []))) (1 ∷ 1 ∷ []))) t.no_items)))) (1 ∷ 1 ∷ []); lines = [] })) ∷ []; lines = [] }) rule.K11 1
unfolding layouts_of same_basic holds_const linkage_of clashes with_declaration with_content with_head unit_of landing puts_of constant_of is_null_constant pairing is_assignable check_gives check_chain check_here check_becomes check_look breaks node_rules rule_at same_key specs_type unary_of binary_of assignment_of
assigns_const_member = refl

-- `int main(void) { int *p; p = 5; return 0; }`
pointer_from_int : is_refused (record { parts = (t.Defined (record { specs = (t.more_specs (t.Key keyword.Int (1 ∷ [])) t.no_specs); declarator = (t.Function (t.Identifier (codes "main") (1 ∷ [])) (t.more_params (t.Param (t.more_specs (t.Key keyword.Void (1 ∷ [])) t.no_specs) t.Missing []) t.no_params) false (1 ∷ 1 ∷ [])); body = t.Block (t.more_items (t.Declared (record { specs = (t.more_specs (t.Key keyword.Int (1 ∷ [])) t.no_specs); list = record { declarator = (t.Pointer [] (t.Identifier (codes "p") (1 ∷ [])) (1 ∷ [])); init = None; lines = [] } ∷ []; lines = (1 ∷ []) })) (t.more_items (t.Statement (t.ExprStmt (t.some_expr (t.Assign (t.Name (codes "p") (1 ∷ [])) punct.Equal (t.Number 5 ty0.Int (1 ∷ [])) (1 ∷ []))) (1 ∷ []))) (t.more_items (t.Statement (t.Return (t.some_expr (t.Number 0 ty0.Int (1 ∷ []))) (1 ∷ 1 ∷ []))) t.no_items))) (1 ∷ 1 ∷ []); lines = [] })) ∷ []; lines = [] }) rule.K12 1
unfolding layouts_of same_basic holds_const linkage_of clashes with_declaration with_content with_head unit_of landing puts_of constant_of is_null_constant pairing is_assignable check_gives check_chain check_here check_becomes check_look breaks node_rules rule_at same_key specs_type unary_of binary_of assignment_of
pointer_from_int = refl

-- `int main(void) { int *p; p = 0; p = (void *)0; return p == 0; }`
null_pointer : is_fine (record { parts = (t.Defined (record { specs = (t.more_specs (t.Key keyword.Int (1 ∷ [])) t.no_specs); declarator = (t.Function (t.Identifier (codes "main") (1 ∷ [])) (t.more_params (t.Param (t.more_specs (t.Key keyword.Void (1 ∷ [])) t.no_specs) t.Missing []) t.no_params) false (1 ∷ 1 ∷ [])); body = t.Block (t.more_items (t.Declared (record { specs = (t.more_specs (t.Key keyword.Int (1 ∷ [])) t.no_specs); list = record { declarator = (t.Pointer [] (t.Identifier (codes "p") (1 ∷ [])) (1 ∷ [])); init = None; lines = [] } ∷ []; lines = (1 ∷ []) })) (t.more_items (t.Statement (t.ExprStmt (t.some_expr (t.Assign (t.Name (codes "p") (1 ∷ [])) punct.Equal (t.Number 0 ty0.Int (1 ∷ [])) (1 ∷ []))) (1 ∷ []))) (t.more_items (t.Statement (t.ExprStmt (t.some_expr (t.Assign (t.Name (codes "p") (1 ∷ [])) punct.Equal (t.Cast (t.TypeName (t.more_specs (t.Key keyword.Void (1 ∷ [])) t.no_specs) (t.Pointer [] t.Missing (1 ∷ [])) []) (t.Number 0 ty0.Int (1 ∷ [])) (1 ∷ 1 ∷ [])) (1 ∷ []))) (1 ∷ []))) (t.more_items (t.Statement (t.Return (t.some_expr (t.Binary (t.Name (codes "p") (1 ∷ [])) punct.EqualEqual (t.Number 0 ty0.Int (1 ∷ [])) (1 ∷ []))) (1 ∷ 1 ∷ []))) t.no_items)))) (1 ∷ 1 ∷ []); lines = [] })) ∷ []; lines = [] })
unfolding layouts_of same_basic holds_const linkage_of clashes with_declaration with_content with_head unit_of landing puts_of constant_of is_null_constant pairing is_assignable check_gives check_chain check_here check_becomes check_look breaks node_rules rule_at same_key specs_type unary_of binary_of assignment_of
null_pointer = refl

-- `int main(void) { const int *p = 0; int *q; q = p; return 0; }`
drops_const : is_refused (record { parts = (t.Defined (record { specs = (t.more_specs (t.Key keyword.Int (1 ∷ [])) t.no_specs); declarator = (t.Function (t.Identifier (codes "main") (1 ∷ [])) (t.more_params (t.Param (t.more_specs (t.Key keyword.Void (1 ∷ [])) t.no_specs) t.Missing []) t.no_params) false (1 ∷ 1 ∷ [])); body = t.Block (t.more_items (t.Declared (record { specs = (t.more_specs (t.Key keyword.Const (1 ∷ [])) (t.more_specs (t.Key keyword.Int (1 ∷ [])) t.no_specs)); list = record { declarator = (t.Pointer [] (t.Identifier (codes "p") (1 ∷ [])) (1 ∷ [])); init = (Some (t.Single (t.Number 0 ty0.Int (1 ∷ [])))); lines = [] } ∷ []; lines = (1 ∷ []) })) (t.more_items (t.Declared (record { specs = (t.more_specs (t.Key keyword.Int (1 ∷ [])) t.no_specs); list = record { declarator = (t.Pointer [] (t.Identifier (codes "q") (1 ∷ [])) (1 ∷ [])); init = None; lines = [] } ∷ []; lines = (1 ∷ []) })) (t.more_items (t.Statement (t.ExprStmt (t.some_expr (t.Assign (t.Name (codes "q") (1 ∷ [])) punct.Equal (t.Name (codes "p") (1 ∷ [])) (1 ∷ []))) (1 ∷ []))) (t.more_items (t.Statement (t.Return (t.some_expr (t.Number 0 ty0.Int (1 ∷ []))) (1 ∷ 1 ∷ []))) t.no_items)))) (1 ∷ 1 ∷ []); lines = [] })) ∷ []; lines = [] }) rule.K12 1
unfolding layouts_of same_basic holds_const linkage_of clashes with_declaration with_content with_head unit_of landing puts_of constant_of is_null_constant pairing is_assignable check_gives check_chain check_here check_becomes check_look breaks node_rules rule_at same_key specs_type unary_of binary_of assignment_of
drops_const = refl

-- `struct s { int a; }; int main(void) { struct s x; return (int)x; }`
casts_struct : is_refused (record { parts = (t.Declaration (record { specs = (t.more_specs (t.Record false (Some (codes "s")) (t.some_members (t.more_member_decls (t.MemberDecl (t.more_specs (t.Key keyword.Int (1 ∷ [])) t.no_specs) (t.more_member_declarators (t.MemberDeclarator (t.Identifier (codes "a") (1 ∷ [])) t.no_expr (1 ∷ [])) t.no_member_declarators) (1 ∷ [])) t.no_member_decls)) (1 ∷ 1 ∷ 1 ∷ [])) t.no_specs); list = []; lines = (1 ∷ []) })) ∷ (t.Defined (record { specs = (t.more_specs (t.Key keyword.Int (1 ∷ [])) t.no_specs); declarator = (t.Function (t.Identifier (codes "main") (1 ∷ [])) (t.more_params (t.Param (t.more_specs (t.Key keyword.Void (1 ∷ [])) t.no_specs) t.Missing []) t.no_params) false (1 ∷ 1 ∷ [])); body = t.Block (t.more_items (t.Declared (record { specs = (t.more_specs (t.Record false (Some (codes "s")) t.no_members (1 ∷ 1 ∷ [])) t.no_specs); list = record { declarator = (t.Identifier (codes "x") (1 ∷ [])); init = None; lines = [] } ∷ []; lines = (1 ∷ []) })) (t.more_items (t.Statement (t.Return (t.some_expr (t.Cast (t.TypeName (t.more_specs (t.Key keyword.Int (1 ∷ [])) t.no_specs) t.Missing []) (t.Name (codes "x") (1 ∷ [])) (1 ∷ 1 ∷ []))) (1 ∷ 1 ∷ []))) t.no_items)) (1 ∷ 1 ∷ []); lines = [] })) ∷ []; lines = [] }) rule.K13 1
unfolding layouts_of same_basic holds_const linkage_of clashes with_declaration with_content with_head unit_of landing puts_of constant_of is_null_constant pairing is_assignable check_gives check_chain check_here check_becomes check_look breaks node_rules rule_at same_key specs_type unary_of binary_of assignment_of
casts_struct = refl

-- `int main(void) { int x; return (int)&x; }`
casts_pointer : is_refused (record { parts = (t.Defined (record { specs = (t.more_specs (t.Key keyword.Int (1 ∷ [])) t.no_specs); declarator = (t.Function (t.Identifier (codes "main") (1 ∷ [])) (t.more_params (t.Param (t.more_specs (t.Key keyword.Void (1 ∷ [])) t.no_specs) t.Missing []) t.no_params) false (1 ∷ 1 ∷ [])); body = t.Block (t.more_items (t.Declared (record { specs = (t.more_specs (t.Key keyword.Int (1 ∷ [])) t.no_specs); list = record { declarator = (t.Identifier (codes "x") (1 ∷ [])); init = None; lines = [] } ∷ []; lines = (1 ∷ []) })) (t.more_items (t.Statement (t.Return (t.some_expr (t.Cast (t.TypeName (t.more_specs (t.Key keyword.Int (1 ∷ [])) t.no_specs) t.Missing []) (t.Unary punct.Ampersand (t.Name (codes "x") (1 ∷ [])) (1 ∷ [])) (1 ∷ 1 ∷ []))) (1 ∷ 1 ∷ []))) t.no_items)) (1 ∷ 1 ∷ []); lines = [] })) ∷ []; lines = [] }) rule.O7 1
unfolding layouts_of same_basic holds_const linkage_of clashes with_declaration with_content with_head unit_of landing puts_of constant_of is_null_constant pairing is_assignable check_gives check_chain check_here check_becomes check_look breaks node_rules rule_at same_key specs_type unary_of binary_of assignment_of
casts_pointer = refl

-- `int main(void) { int x = 1; int *p = (int *)x; return 0; }`
casts_integer : is_refused (record { parts = (t.Defined (record { specs = (t.more_specs (t.Key keyword.Int (1 ∷ [])) t.no_specs); declarator = (t.Function (t.Identifier (codes "main") (1 ∷ [])) (t.more_params (t.Param (t.more_specs (t.Key keyword.Void (1 ∷ [])) t.no_specs) t.Missing []) t.no_params) false (1 ∷ 1 ∷ [])); body = t.Block (t.more_items (t.Declared (record { specs = (t.more_specs (t.Key keyword.Int (1 ∷ [])) t.no_specs); list = record { declarator = (t.Identifier (codes "x") (1 ∷ [])); init = (Some (t.Single (t.Number 1 ty0.Int (1 ∷ [])))); lines = [] } ∷ []; lines = (1 ∷ []) })) (t.more_items (t.Declared (record { specs = (t.more_specs (t.Key keyword.Int (1 ∷ [])) t.no_specs); list = record { declarator = (t.Pointer [] (t.Identifier (codes "p") (1 ∷ [])) (1 ∷ [])); init = (Some (t.Single (t.Cast (t.TypeName (t.more_specs (t.Key keyword.Int (1 ∷ [])) t.no_specs) (t.Pointer [] t.Missing (1 ∷ [])) []) (t.Name (codes "x") (1 ∷ [])) (1 ∷ 1 ∷ [])))); lines = [] } ∷ []; lines = (1 ∷ []) })) (t.more_items (t.Statement (t.Return (t.some_expr (t.Number 0 ty0.Int (1 ∷ []))) (1 ∷ 1 ∷ []))) t.no_items))) (1 ∷ 1 ∷ []); lines = [] })) ∷ []; lines = [] }) rule.O7 1
unfolding layouts_of same_basic holds_const linkage_of clashes with_declaration with_content with_head unit_of landing puts_of constant_of is_null_constant pairing is_assignable check_gives check_chain check_here check_becomes check_look breaks node_rules rule_at same_key specs_type unary_of binary_of assignment_of
casts_integer = refl

-- `int main(void) { int *p = (int *)0; return !p; }`
casts_zero : is_fine (record { parts = (t.Defined (record { specs = (t.more_specs (t.Key keyword.Int (1 ∷ [])) t.no_specs); declarator = (t.Function (t.Identifier (codes "main") (1 ∷ [])) (t.more_params (t.Param (t.more_specs (t.Key keyword.Void (1 ∷ [])) t.no_specs) t.Missing []) t.no_params) false (1 ∷ 1 ∷ [])); body = t.Block (t.more_items (t.Declared (record { specs = (t.more_specs (t.Key keyword.Int (1 ∷ [])) t.no_specs); list = record { declarator = (t.Pointer [] (t.Identifier (codes "p") (1 ∷ [])) (1 ∷ [])); init = (Some (t.Single (t.Cast (t.TypeName (t.more_specs (t.Key keyword.Int (1 ∷ [])) t.no_specs) (t.Pointer [] t.Missing (1 ∷ [])) []) (t.Number 0 ty0.Int (1 ∷ [])) (1 ∷ 1 ∷ [])))); lines = [] } ∷ []; lines = (1 ∷ []) })) (t.more_items (t.Statement (t.Return (t.some_expr (t.Unary punct.Exclamation (t.Name (codes "p") (1 ∷ [])) (1 ∷ []))) (1 ∷ 1 ∷ []))) t.no_items)) (1 ∷ 1 ∷ []); lines = [] })) ∷ []; lines = [] })
unfolding layouts_of same_basic holds_const linkage_of clashes with_declaration with_content with_head unit_of landing puts_of constant_of is_null_constant pairing is_assignable check_gives check_chain check_here check_becomes check_look breaks node_rules rule_at same_key specs_type unary_of binary_of assignment_of
casts_zero = refl

-- `int f(void); int main(void) { void *p = (void *)f; return 0; }`
casts_function : is_refused (record { parts = (t.Declaration (record { specs = (t.more_specs (t.Key keyword.Int (1 ∷ [])) t.no_specs); list = record { declarator = (t.Function (t.Identifier (codes "f") (1 ∷ [])) (t.more_params (t.Param (t.more_specs (t.Key keyword.Void (1 ∷ [])) t.no_specs) t.Missing []) t.no_params) false (1 ∷ 1 ∷ [])); init = None; lines = [] } ∷ []; lines = (1 ∷ []) })) ∷ (t.Defined (record { specs = (t.more_specs (t.Key keyword.Int (1 ∷ [])) t.no_specs); declarator = (t.Function (t.Identifier (codes "main") (1 ∷ [])) (t.more_params (t.Param (t.more_specs (t.Key keyword.Void (1 ∷ [])) t.no_specs) t.Missing []) t.no_params) false (1 ∷ 1 ∷ [])); body = t.Block (t.more_items (t.Declared (record { specs = (t.more_specs (t.Key keyword.Void (1 ∷ [])) t.no_specs); list = record { declarator = (t.Pointer [] (t.Identifier (codes "p") (1 ∷ [])) (1 ∷ [])); init = (Some (t.Single (t.Cast (t.TypeName (t.more_specs (t.Key keyword.Void (1 ∷ [])) t.no_specs) (t.Pointer [] t.Missing (1 ∷ [])) []) (t.Name (codes "f") (1 ∷ [])) (1 ∷ 1 ∷ [])))); lines = [] } ∷ []; lines = (1 ∷ []) })) (t.more_items (t.Statement (t.Return (t.some_expr (t.Number 0 ty0.Int (1 ∷ []))) (1 ∷ 1 ∷ []))) t.no_items)) (1 ∷ 1 ∷ []); lines = [] })) ∷ []; lines = [] }) rule.O8 1
unfolding layouts_of same_basic holds_const linkage_of clashes with_declaration with_content with_head unit_of landing puts_of constant_of is_null_constant pairing is_assignable check_gives check_chain check_here check_becomes check_look breaks node_rules rule_at same_key specs_type unary_of binary_of assignment_of
casts_function = refl

-- `int f(void); int main(void) { return sizeof f; }`
size_of_function : is_refused (record { parts = (t.Declaration (record { specs = (t.more_specs (t.Key keyword.Int (1 ∷ [])) t.no_specs); list = record { declarator = (t.Function (t.Identifier (codes "f") (1 ∷ [])) (t.more_params (t.Param (t.more_specs (t.Key keyword.Void (1 ∷ [])) t.no_specs) t.Missing []) t.no_params) false (1 ∷ 1 ∷ [])); init = None; lines = [] } ∷ []; lines = (1 ∷ []) })) ∷ (t.Defined (record { specs = (t.more_specs (t.Key keyword.Int (1 ∷ [])) t.no_specs); declarator = (t.Function (t.Identifier (codes "main") (1 ∷ [])) (t.more_params (t.Param (t.more_specs (t.Key keyword.Void (1 ∷ [])) t.no_specs) t.Missing []) t.no_params) false (1 ∷ 1 ∷ [])); body = t.Block (t.more_items (t.Statement (t.Return (t.some_expr (t.SizeofExpr (t.Name (codes "f") (1 ∷ [])) (1 ∷ []))) (1 ∷ 1 ∷ []))) t.no_items) (1 ∷ 1 ∷ []); lines = [] })) ∷ []; lines = [] }) rule.K14 1
unfolding layouts_of same_basic holds_const linkage_of clashes with_declaration with_content with_head unit_of landing puts_of constant_of is_null_constant pairing is_assignable check_gives check_chain check_here check_becomes check_look breaks node_rules rule_at same_key specs_type unary_of binary_of assignment_of
size_of_function = refl

-- `struct s { int a : 3; }; int main(void) { struct s x; return sizeof x.a; }`
size_of_bits : is_refused (record { parts = (t.Declaration (record { specs = (t.more_specs (t.Record false (Some (codes "s")) (t.some_members (t.more_member_decls (t.MemberDecl (t.more_specs (t.Key keyword.Int (1 ∷ [])) t.no_specs) (t.more_member_declarators (t.MemberDeclarator (t.Identifier (codes "a") (1 ∷ [])) (t.some_expr (t.Number 3 ty0.Int (1 ∷ []))) (1 ∷ [])) t.no_member_declarators) (1 ∷ [])) t.no_member_decls)) (1 ∷ 1 ∷ 1 ∷ [])) t.no_specs); list = []; lines = (1 ∷ []) })) ∷ (t.Defined (record { specs = (t.more_specs (t.Key keyword.Int (1 ∷ [])) t.no_specs); declarator = (t.Function (t.Identifier (codes "main") (1 ∷ [])) (t.more_params (t.Param (t.more_specs (t.Key keyword.Void (1 ∷ [])) t.no_specs) t.Missing []) t.no_params) false (1 ∷ 1 ∷ [])); body = t.Block (t.more_items (t.Declared (record { specs = (t.more_specs (t.Record false (Some (codes "s")) t.no_members (1 ∷ 1 ∷ [])) t.no_specs); list = record { declarator = (t.Identifier (codes "x") (1 ∷ [])); init = None; lines = [] } ∷ []; lines = (1 ∷ []) })) (t.more_items (t.Statement (t.Return (t.some_expr (t.SizeofExpr (t.Dot (t.Name (codes "x") (1 ∷ [])) (codes "a") (1 ∷ 1 ∷ [])) (1 ∷ []))) (1 ∷ 1 ∷ []))) t.no_items)) (1 ∷ 1 ∷ []); lines = [] })) ∷ []; lines = [] }) rule.K14 1
unfolding layouts_of same_basic holds_const linkage_of clashes with_declaration with_content with_head unit_of landing puts_of constant_of is_null_constant pairing is_assignable check_gives check_chain check_here check_becomes check_look breaks node_rules rule_at same_key specs_type unary_of binary_of assignment_of
size_of_bits = refl

-- `struct s { int a : 3; }; int main(void) { struct s x; int *p = &x.a; return 0; }`
address_of_bits : is_refused (record { parts = (t.Declaration (record { specs = (t.more_specs (t.Record false (Some (codes "s")) (t.some_members (t.more_member_decls (t.MemberDecl (t.more_specs (t.Key keyword.Int (1 ∷ [])) t.no_specs) (t.more_member_declarators (t.MemberDeclarator (t.Identifier (codes "a") (1 ∷ [])) (t.some_expr (t.Number 3 ty0.Int (1 ∷ []))) (1 ∷ [])) t.no_member_declarators) (1 ∷ [])) t.no_member_decls)) (1 ∷ 1 ∷ 1 ∷ [])) t.no_specs); list = []; lines = (1 ∷ []) })) ∷ (t.Defined (record { specs = (t.more_specs (t.Key keyword.Int (1 ∷ [])) t.no_specs); declarator = (t.Function (t.Identifier (codes "main") (1 ∷ [])) (t.more_params (t.Param (t.more_specs (t.Key keyword.Void (1 ∷ [])) t.no_specs) t.Missing []) t.no_params) false (1 ∷ 1 ∷ [])); body = t.Block (t.more_items (t.Declared (record { specs = (t.more_specs (t.Record false (Some (codes "s")) t.no_members (1 ∷ 1 ∷ [])) t.no_specs); list = record { declarator = (t.Identifier (codes "x") (1 ∷ [])); init = None; lines = [] } ∷ []; lines = (1 ∷ []) })) (t.more_items (t.Declared (record { specs = (t.more_specs (t.Key keyword.Int (1 ∷ [])) t.no_specs); list = record { declarator = (t.Pointer [] (t.Identifier (codes "p") (1 ∷ [])) (1 ∷ [])); init = (Some (t.Single (t.Unary punct.Ampersand (t.Dot (t.Name (codes "x") (1 ∷ [])) (codes "a") (1 ∷ 1 ∷ [])) (1 ∷ [])))); lines = [] } ∷ []; lines = (1 ∷ []) })) (t.more_items (t.Statement (t.Return (t.some_expr (t.Number 0 ty0.Int (1 ∷ []))) (1 ∷ 1 ∷ []))) t.no_items))) (1 ∷ 1 ∷ []); lines = [] })) ∷ []; lines = [] }) rule.K15 1
unfolding layouts_of same_basic holds_const linkage_of clashes with_declaration with_content with_head unit_of landing puts_of constant_of is_null_constant pairing is_assignable check_gives check_chain check_here check_becomes check_look breaks node_rules rule_at same_key specs_type unary_of binary_of assignment_of
address_of_bits = refl

-- `int main(void) { register int x; int *p = &x; return 0; }`
address_of_register : is_refused (record { parts = (t.Defined (record { specs = (t.more_specs (t.Key keyword.Int (1 ∷ [])) t.no_specs); declarator = (t.Function (t.Identifier (codes "main") (1 ∷ [])) (t.more_params (t.Param (t.more_specs (t.Key keyword.Void (1 ∷ [])) t.no_specs) t.Missing []) t.no_params) false (1 ∷ 1 ∷ [])); body = t.Block (t.more_items (t.Declared (record { specs = (t.more_specs (t.Key keyword.Register (1 ∷ [])) (t.more_specs (t.Key keyword.Int (1 ∷ [])) t.no_specs)); list = record { declarator = (t.Identifier (codes "x") (1 ∷ [])); init = None; lines = [] } ∷ []; lines = (1 ∷ []) })) (t.more_items (t.Declared (record { specs = (t.more_specs (t.Key keyword.Int (1 ∷ [])) t.no_specs); list = record { declarator = (t.Pointer [] (t.Identifier (codes "p") (1 ∷ [])) (1 ∷ [])); init = (Some (t.Single (t.Unary punct.Ampersand (t.Name (codes "x") (1 ∷ [])) (1 ∷ [])))); lines = [] } ∷ []; lines = (1 ∷ []) })) (t.more_items (t.Statement (t.Return (t.some_expr (t.Number 0 ty0.Int (1 ∷ []))) (1 ∷ 1 ∷ []))) t.no_items))) (1 ∷ 1 ∷ []); lines = [] })) ∷ []; lines = [] }) rule.K15 1
unfolding layouts_of same_basic holds_const linkage_of clashes with_declaration with_content with_head unit_of landing puts_of constant_of is_null_constant pairing is_assignable check_gives check_chain check_here check_becomes check_look breaks node_rules rule_at same_key specs_type unary_of binary_of assignment_of
address_of_register = refl

-- `int main(void) { register int a[2]; return a[0]; }`
register_array : is_refused (record { parts = (t.Defined (record { specs = (t.more_specs (t.Key keyword.Int (1 ∷ [])) t.no_specs); declarator = (t.Function (t.Identifier (codes "main") (1 ∷ [])) (t.more_params (t.Param (t.more_specs (t.Key keyword.Void (1 ∷ [])) t.no_specs) t.Missing []) t.no_params) false (1 ∷ 1 ∷ [])); body = t.Block (t.more_items (t.Declared (record { specs = (t.more_specs (t.Key keyword.Register (1 ∷ [])) (t.more_specs (t.Key keyword.Int (1 ∷ [])) t.no_specs)); list = record { declarator = (t.Array (t.Identifier (codes "a") (1 ∷ [])) (t.Length [] (t.Number 2 ty0.Int (1 ∷ []))) (1 ∷ 1 ∷ [])); init = None; lines = [] } ∷ []; lines = (1 ∷ []) })) (t.more_items (t.Statement (t.Return (t.some_expr (t.Index (t.Name (codes "a") (1 ∷ [])) (t.Number 0 ty0.Int (1 ∷ [])) (1 ∷ 1 ∷ []))) (1 ∷ 1 ∷ []))) t.no_items)) (1 ∷ 1 ∷ []); lines = [] })) ∷ []; lines = [] }) rule.K15 1
unfolding layouts_of same_basic holds_const linkage_of clashes with_declaration with_content with_head unit_of landing puts_of constant_of is_null_constant pairing is_assignable check_gives check_chain check_here check_becomes check_look breaks node_rules rule_at same_key specs_type unary_of binary_of assignment_of
register_array = refl

-- `struct s { int a; }; int main(void) { struct s x; return x ? 1 : 2; }`
choice_of_struct : is_refused (record { parts = (t.Declaration (record { specs = (t.more_specs (t.Record false (Some (codes "s")) (t.some_members (t.more_member_decls (t.MemberDecl (t.more_specs (t.Key keyword.Int (1 ∷ [])) t.no_specs) (t.more_member_declarators (t.MemberDeclarator (t.Identifier (codes "a") (1 ∷ [])) t.no_expr (1 ∷ [])) t.no_member_declarators) (1 ∷ [])) t.no_member_decls)) (1 ∷ 1 ∷ 1 ∷ [])) t.no_specs); list = []; lines = (1 ∷ []) })) ∷ (t.Defined (record { specs = (t.more_specs (t.Key keyword.Int (1 ∷ [])) t.no_specs); declarator = (t.Function (t.Identifier (codes "main") (1 ∷ [])) (t.more_params (t.Param (t.more_specs (t.Key keyword.Void (1 ∷ [])) t.no_specs) t.Missing []) t.no_params) false (1 ∷ 1 ∷ [])); body = t.Block (t.more_items (t.Declared (record { specs = (t.more_specs (t.Record false (Some (codes "s")) t.no_members (1 ∷ 1 ∷ [])) t.no_specs); list = record { declarator = (t.Identifier (codes "x") (1 ∷ [])); init = None; lines = [] } ∷ []; lines = (1 ∷ []) })) (t.more_items (t.Statement (t.Return (t.some_expr (t.Cond (t.Name (codes "x") (1 ∷ [])) (t.Number 1 ty0.Int (1 ∷ [])) (t.Number 2 ty0.Int (1 ∷ [])) (1 ∷ 1 ∷ []))) (1 ∷ 1 ∷ []))) t.no_items)) (1 ∷ 1 ∷ []); lines = [] })) ∷ []; lines = [] }) rule.K16 1
unfolding layouts_of same_basic holds_const linkage_of clashes with_declaration with_content with_head unit_of landing puts_of constant_of is_null_constant pairing is_assignable check_gives check_chain check_here check_becomes check_look breaks node_rules rule_at same_key specs_type unary_of binary_of assignment_of
choice_of_struct = refl

-- `int main(void) { int *p = 0; int x = 1; x ? p : x; return 0; }`
choice_of_two : is_refused (record { parts = (t.Defined (record { specs = (t.more_specs (t.Key keyword.Int (1 ∷ [])) t.no_specs); declarator = (t.Function (t.Identifier (codes "main") (1 ∷ [])) (t.more_params (t.Param (t.more_specs (t.Key keyword.Void (1 ∷ [])) t.no_specs) t.Missing []) t.no_params) false (1 ∷ 1 ∷ [])); body = t.Block (t.more_items (t.Declared (record { specs = (t.more_specs (t.Key keyword.Int (1 ∷ [])) t.no_specs); list = record { declarator = (t.Pointer [] (t.Identifier (codes "p") (1 ∷ [])) (1 ∷ [])); init = (Some (t.Single (t.Number 0 ty0.Int (1 ∷ [])))); lines = [] } ∷ []; lines = (1 ∷ []) })) (t.more_items (t.Declared (record { specs = (t.more_specs (t.Key keyword.Int (1 ∷ [])) t.no_specs); list = record { declarator = (t.Identifier (codes "x") (1 ∷ [])); init = (Some (t.Single (t.Number 1 ty0.Int (1 ∷ [])))); lines = [] } ∷ []; lines = (1 ∷ []) })) (t.more_items (t.Statement (t.ExprStmt (t.some_expr (t.Cond (t.Name (codes "x") (1 ∷ [])) (t.Name (codes "p") (1 ∷ [])) (t.Name (codes "x") (1 ∷ [])) (1 ∷ 1 ∷ []))) (1 ∷ []))) (t.more_items (t.Statement (t.Return (t.some_expr (t.Number 0 ty0.Int (1 ∷ []))) (1 ∷ 1 ∷ []))) t.no_items)))) (1 ∷ 1 ∷ []); lines = [] })) ∷ []; lines = [] }) rule.K16 1
unfolding layouts_of same_basic holds_const linkage_of clashes with_declaration with_content with_head unit_of landing puts_of constant_of is_null_constant pairing is_assignable check_gives check_chain check_here check_becomes check_look breaks node_rules rule_at same_key specs_type unary_of binary_of assignment_of
choice_of_two = refl

-- `struct s { int a; }; int main(void) { struct s x; return x.b; }`
unknown_member : is_refused (record { parts = (t.Declaration (record { specs = (t.more_specs (t.Record false (Some (codes "s")) (t.some_members (t.more_member_decls (t.MemberDecl (t.more_specs (t.Key keyword.Int (1 ∷ [])) t.no_specs) (t.more_member_declarators (t.MemberDeclarator (t.Identifier (codes "a") (1 ∷ [])) t.no_expr (1 ∷ [])) t.no_member_declarators) (1 ∷ [])) t.no_member_decls)) (1 ∷ 1 ∷ 1 ∷ [])) t.no_specs); list = []; lines = (1 ∷ []) })) ∷ (t.Defined (record { specs = (t.more_specs (t.Key keyword.Int (1 ∷ [])) t.no_specs); declarator = (t.Function (t.Identifier (codes "main") (1 ∷ [])) (t.more_params (t.Param (t.more_specs (t.Key keyword.Void (1 ∷ [])) t.no_specs) t.Missing []) t.no_params) false (1 ∷ 1 ∷ [])); body = t.Block (t.more_items (t.Declared (record { specs = (t.more_specs (t.Record false (Some (codes "s")) t.no_members (1 ∷ 1 ∷ [])) t.no_specs); list = record { declarator = (t.Identifier (codes "x") (1 ∷ [])); init = None; lines = [] } ∷ []; lines = (1 ∷ []) })) (t.more_items (t.Statement (t.Return (t.some_expr (t.Dot (t.Name (codes "x") (1 ∷ [])) (codes "b") (1 ∷ 1 ∷ []))) (1 ∷ 1 ∷ []))) t.no_items)) (1 ∷ 1 ∷ []); lines = [] })) ∷ []; lines = [] }) rule.K8 1
unfolding layouts_of same_basic holds_const linkage_of clashes with_declaration with_content with_head unit_of landing puts_of constant_of is_null_constant pairing is_assignable check_gives check_chain check_here check_becomes check_look breaks node_rules rule_at same_key specs_type unary_of binary_of assignment_of
unknown_member = refl

-- `int main(void) { int x; return x.b; }`
member_of_int : is_refused (record { parts = (t.Defined (record { specs = (t.more_specs (t.Key keyword.Int (1 ∷ [])) t.no_specs); declarator = (t.Function (t.Identifier (codes "main") (1 ∷ [])) (t.more_params (t.Param (t.more_specs (t.Key keyword.Void (1 ∷ [])) t.no_specs) t.Missing []) t.no_params) false (1 ∷ 1 ∷ [])); body = t.Block (t.more_items (t.Declared (record { specs = (t.more_specs (t.Key keyword.Int (1 ∷ [])) t.no_specs); list = record { declarator = (t.Identifier (codes "x") (1 ∷ [])); init = None; lines = [] } ∷ []; lines = (1 ∷ []) })) (t.more_items (t.Statement (t.Return (t.some_expr (t.Dot (t.Name (codes "x") (1 ∷ [])) (codes "b") (1 ∷ 1 ∷ []))) (1 ∷ 1 ∷ []))) t.no_items)) (1 ∷ 1 ∷ []); lines = [] })) ∷ []; lines = [] }) rule.K8 1
unfolding layouts_of same_basic holds_const linkage_of clashes with_declaration with_content with_head unit_of landing puts_of constant_of is_null_constant pairing is_assignable check_gives check_chain check_here check_becomes check_look breaks node_rules rule_at same_key specs_type unary_of binary_of assignment_of
member_of_int = refl

-- `struct s { int a[2]; }; struct s f(void); int main(void) { f().a; return 0; }`
array_of_value : is_refused (record { parts = (t.Declaration (record { specs = (t.more_specs (t.Record false (Some (codes "s")) (t.some_members (t.more_member_decls (t.MemberDecl (t.more_specs (t.Key keyword.Int (1 ∷ [])) t.no_specs) (t.more_member_declarators (t.MemberDeclarator (t.Array (t.Identifier (codes "a") (1 ∷ [])) (t.Length [] (t.Number 2 ty0.Int (1 ∷ []))) (1 ∷ 1 ∷ [])) t.no_expr (1 ∷ [])) t.no_member_declarators) (1 ∷ [])) t.no_member_decls)) (1 ∷ 1 ∷ 1 ∷ [])) t.no_specs); list = []; lines = (1 ∷ []) })) ∷ (t.Declaration (record { specs = (t.more_specs (t.Record false (Some (codes "s")) t.no_members (1 ∷ 1 ∷ [])) t.no_specs); list = record { declarator = (t.Function (t.Identifier (codes "f") (1 ∷ [])) (t.more_params (t.Param (t.more_specs (t.Key keyword.Void (1 ∷ [])) t.no_specs) t.Missing []) t.no_params) false (1 ∷ 1 ∷ [])); init = None; lines = [] } ∷ []; lines = (1 ∷ []) })) ∷ (t.Defined (record { specs = (t.more_specs (t.Key keyword.Int (1 ∷ [])) t.no_specs); declarator = (t.Function (t.Identifier (codes "main") (1 ∷ [])) (t.more_params (t.Param (t.more_specs (t.Key keyword.Void (1 ∷ [])) t.no_specs) t.Missing []) t.no_params) false (1 ∷ 1 ∷ [])); body = t.Block (t.more_items (t.Statement (t.ExprStmt (t.some_expr (t.Dot (t.Call (t.Name (codes "f") (1 ∷ [])) t.no_exprs (1 ∷ 1 ∷ [])) (codes "a") (1 ∷ 1 ∷ []))) (1 ∷ []))) (t.more_items (t.Statement (t.Return (t.some_expr (t.Number 0 ty0.Int (1 ∷ []))) (1 ∷ 1 ∷ []))) t.no_items)) (1 ∷ 1 ∷ []); lines = [] })) ∷ []; lines = [] }) rule.O11 1
unfolding layouts_of same_basic holds_const linkage_of clashes with_declaration with_content with_head unit_of landing puts_of constant_of is_null_constant pairing is_assignable check_gives check_chain check_here check_becomes check_look breaks node_rules rule_at same_key specs_type unary_of binary_of assignment_of
array_of_value = refl

-- `int main(void) { int a[4]; return &a[3] - a; }`
subtracts_pointers : is_fine (record { parts = (t.Defined (record { specs = (t.more_specs (t.Key keyword.Int (1 ∷ [])) t.no_specs); declarator = (t.Function (t.Identifier (codes "main") (1 ∷ [])) (t.more_params (t.Param (t.more_specs (t.Key keyword.Void (1 ∷ [])) t.no_specs) t.Missing []) t.no_params) false (1 ∷ 1 ∷ [])); body = t.Block (t.more_items (t.Declared (record { specs = (t.more_specs (t.Key keyword.Int (1 ∷ [])) t.no_specs); list = record { declarator = (t.Array (t.Identifier (codes "a") (1 ∷ [])) (t.Length [] (t.Number 4 ty0.Int (1 ∷ []))) (1 ∷ 1 ∷ [])); init = None; lines = [] } ∷ []; lines = (1 ∷ []) })) (t.more_items (t.Statement (t.Return (t.some_expr (t.Binary (t.Unary punct.Ampersand (t.Index (t.Name (codes "a") (1 ∷ [])) (t.Number 3 ty0.Int (1 ∷ [])) (1 ∷ 1 ∷ [])) (1 ∷ [])) punct.Minus (t.Name (codes "a") (1 ∷ [])) (1 ∷ []))) (1 ∷ 1 ∷ []))) t.no_items)) (1 ∷ 1 ∷ []); lines = [] })) ∷ []; lines = [] })
unfolding layouts_of same_basic holds_const linkage_of clashes with_declaration with_content with_head unit_of landing puts_of constant_of is_null_constant pairing is_assignable check_gives check_chain check_here check_becomes check_look breaks node_rules rule_at same_key specs_type unary_of binary_of assignment_of
subtracts_pointers = refl

-- `int main(void) { int a[4]; return a + a; }`
adds_pointers : is_refused (record { parts = (t.Defined (record { specs = (t.more_specs (t.Key keyword.Int (1 ∷ [])) t.no_specs); declarator = (t.Function (t.Identifier (codes "main") (1 ∷ [])) (t.more_params (t.Param (t.more_specs (t.Key keyword.Void (1 ∷ [])) t.no_specs) t.Missing []) t.no_params) false (1 ∷ 1 ∷ [])); body = t.Block (t.more_items (t.Declared (record { specs = (t.more_specs (t.Key keyword.Int (1 ∷ [])) t.no_specs); list = record { declarator = (t.Array (t.Identifier (codes "a") (1 ∷ [])) (t.Length [] (t.Number 4 ty0.Int (1 ∷ []))) (1 ∷ 1 ∷ [])); init = None; lines = [] } ∷ []; lines = (1 ∷ []) })) (t.more_items (t.Statement (t.Return (t.some_expr (t.Binary (t.Name (codes "a") (1 ∷ [])) punct.Plus (t.Name (codes "a") (1 ∷ [])) (1 ∷ []))) (1 ∷ 1 ∷ []))) t.no_items)) (1 ∷ 1 ∷ []); lines = [] })) ∷ []; lines = [] }) rule.K10 1
unfolding layouts_of same_basic holds_const linkage_of clashes with_declaration with_content with_head unit_of landing puts_of constant_of is_null_constant pairing is_assignable check_gives check_chain check_here check_becomes check_look breaks node_rules rule_at same_key specs_type unary_of binary_of assignment_of
adds_pointers = refl

-- `int main(void) { int a[4]; return a < 1; }`
orders_pointer_and_int : is_refused (record { parts = (t.Defined (record { specs = (t.more_specs (t.Key keyword.Int (1 ∷ [])) t.no_specs); declarator = (t.Function (t.Identifier (codes "main") (1 ∷ [])) (t.more_params (t.Param (t.more_specs (t.Key keyword.Void (1 ∷ [])) t.no_specs) t.Missing []) t.no_params) false (1 ∷ 1 ∷ [])); body = t.Block (t.more_items (t.Declared (record { specs = (t.more_specs (t.Key keyword.Int (1 ∷ [])) t.no_specs); list = record { declarator = (t.Array (t.Identifier (codes "a") (1 ∷ [])) (t.Length [] (t.Number 4 ty0.Int (1 ∷ []))) (1 ∷ 1 ∷ [])); init = None; lines = [] } ∷ []; lines = (1 ∷ []) })) (t.more_items (t.Statement (t.Return (t.some_expr (t.Binary (t.Name (codes "a") (1 ∷ [])) punct.Less (t.Number 1 ty0.Int (1 ∷ [])) (1 ∷ []))) (1 ∷ 1 ∷ []))) t.no_items)) (1 ∷ 1 ∷ []); lines = [] })) ∷ []; lines = [] }) rule.K10 1
unfolding layouts_of same_basic holds_const linkage_of clashes with_declaration with_content with_head unit_of landing puts_of constant_of is_null_constant pairing is_assignable check_gives check_chain check_here check_becomes check_look breaks node_rules rule_at same_key specs_type unary_of binary_of assignment_of
orders_pointer_and_int = refl

-- `int f(void); int main(void) { int (*p)(void) = f; p++; return 0; }`
steps_function : is_refused (record { parts = (t.Declaration (record { specs = (t.more_specs (t.Key keyword.Int (1 ∷ [])) t.no_specs); list = record { declarator = (t.Function (t.Identifier (codes "f") (1 ∷ [])) (t.more_params (t.Param (t.more_specs (t.Key keyword.Void (1 ∷ [])) t.no_specs) t.Missing []) t.no_params) false (1 ∷ 1 ∷ [])); init = None; lines = [] } ∷ []; lines = (1 ∷ []) })) ∷ (t.Defined (record { specs = (t.more_specs (t.Key keyword.Int (1 ∷ [])) t.no_specs); declarator = (t.Function (t.Identifier (codes "main") (1 ∷ [])) (t.more_params (t.Param (t.more_specs (t.Key keyword.Void (1 ∷ [])) t.no_specs) t.Missing []) t.no_params) false (1 ∷ 1 ∷ [])); body = t.Block (t.more_items (t.Declared (record { specs = (t.more_specs (t.Key keyword.Int (1 ∷ [])) t.no_specs); list = record { declarator = (t.Function (t.Group (t.Pointer [] (t.Identifier (codes "p") (1 ∷ [])) (1 ∷ [])) (1 ∷ 1 ∷ [])) (t.more_params (t.Param (t.more_specs (t.Key keyword.Void (1 ∷ [])) t.no_specs) t.Missing []) t.no_params) false (1 ∷ 1 ∷ [])); init = (Some (t.Single (t.Name (codes "f") (1 ∷ [])))); lines = [] } ∷ []; lines = (1 ∷ []) })) (t.more_items (t.Statement (t.ExprStmt (t.some_expr (t.PostUp (t.Name (codes "p") (1 ∷ [])) (1 ∷ []))) (1 ∷ []))) (t.more_items (t.Statement (t.Return (t.some_expr (t.Number 0 ty0.Int (1 ∷ []))) (1 ∷ 1 ∷ []))) t.no_items))) (1 ∷ 1 ∷ []); lines = [] })) ∷ []; lines = [] }) rule.K10 1
unfolding layouts_of same_basic holds_const linkage_of clashes with_declaration with_content with_head unit_of landing puts_of constant_of is_null_constant pairing is_assignable check_gives check_chain check_here check_becomes check_look breaks node_rules rule_at same_key specs_type unary_of binary_of assignment_of
steps_function = refl

-- Type names and declarators

-- `int main(void) { int n = 3; int a[n]; return 0; }`
no_int_array : is_refused (record { parts = (t.Defined (record { specs = (t.more_specs (t.Key keyword.Int (1 ∷ [])) t.no_specs); declarator = (t.Function (t.Identifier (codes "main") (1 ∷ [])) (t.more_params (t.Param (t.more_specs (t.Key keyword.Void (1 ∷ [])) t.no_specs) t.Missing []) t.no_params) false (1 ∷ 1 ∷ [])); body = t.Block (t.more_items (t.Declared (record { specs = (t.more_specs (t.Key keyword.Int (1 ∷ [])) t.no_specs); list = record { declarator = (t.Identifier (codes "n") (1 ∷ [])); init = (Some (t.Single (t.Number 3 ty0.Int (1 ∷ [])))); lines = [] } ∷ []; lines = (1 ∷ []) })) (t.more_items (t.Declared (record { specs = (t.more_specs (t.Key keyword.Int (1 ∷ [])) t.no_specs); list = record { declarator = (t.Array (t.Identifier (codes "a") (1 ∷ [])) (t.Length [] (t.Name (codes "n") (1 ∷ []))) (1 ∷ 1 ∷ [])); init = None; lines = [] } ∷ []; lines = (1 ∷ []) })) (t.more_items (t.Statement (t.Return (t.some_expr (t.Number 0 ty0.Int (1 ∷ []))) (1 ∷ 1 ∷ []))) t.no_items))) (1 ∷ 1 ∷ []); lines = [] })) ∷ []; lines = [] }) rule.O3 1
unfolding layouts_of same_basic holds_const linkage_of clashes with_declaration with_content with_head unit_of landing puts_of constant_of is_null_constant pairing is_assignable check_gives check_chain check_here check_becomes check_look breaks node_rules rule_at same_key specs_type unary_of binary_of assignment_of
no_int_array = refl

-- `int main(void) { return sizeof(int[0]); }`
empty_array : is_refused (record { parts = (t.Defined (record { specs = (t.more_specs (t.Key keyword.Int (1 ∷ [])) t.no_specs); declarator = (t.Function (t.Identifier (codes "main") (1 ∷ [])) (t.more_params (t.Param (t.more_specs (t.Key keyword.Void (1 ∷ [])) t.no_specs) t.Missing []) t.no_params) false (1 ∷ 1 ∷ [])); body = t.Block (t.more_items (t.Statement (t.Return (t.some_expr (t.SizeofType (t.TypeName (t.more_specs (t.Key keyword.Int (1 ∷ [])) t.no_specs) (t.Array t.Missing (t.Length [] (t.Number 0 ty0.Int (1 ∷ []))) (1 ∷ 1 ∷ [])) []) (1 ∷ 1 ∷ 1 ∷ []))) (1 ∷ 1 ∷ []))) t.no_items) (1 ∷ 1 ∷ []); lines = [] })) ∷ []; lines = [] }) rule.K6 1
unfolding layouts_of same_basic holds_const linkage_of clashes with_declaration with_content with_head unit_of landing puts_of constant_of is_null_constant pairing is_assignable check_gives check_chain check_here check_becomes check_look breaks node_rules rule_at same_key specs_type unary_of binary_of assignment_of
empty_array = refl

-- `int a[-1]; int main(void) { return 0; }`
negative_array : is_refused (record { parts = (t.Declaration (record { specs = (t.more_specs (t.Key keyword.Int (1 ∷ [])) t.no_specs); list = record { declarator = (t.Array (t.Identifier (codes "a") (1 ∷ [])) (t.Length [] (t.Unary punct.Minus (t.Number 1 ty0.Int (1 ∷ [])) (1 ∷ []))) (1 ∷ 1 ∷ [])); init = None; lines = [] } ∷ []; lines = (1 ∷ []) })) ∷ (t.Defined (record { specs = (t.more_specs (t.Key keyword.Int (1 ∷ [])) t.no_specs); declarator = (t.Function (t.Identifier (codes "main") (1 ∷ [])) (t.more_params (t.Param (t.more_specs (t.Key keyword.Void (1 ∷ [])) t.no_specs) t.Missing []) t.no_params) false (1 ∷ 1 ∷ [])); body = t.Block (t.more_items (t.Statement (t.Return (t.some_expr (t.Number 0 ty0.Int (1 ∷ []))) (1 ∷ 1 ∷ []))) t.no_items) (1 ∷ 1 ∷ []); lines = [] })) ∷ []; lines = [] }) rule.K6 1
unfolding layouts_of same_basic holds_const linkage_of clashes with_declaration with_content with_head unit_of landing puts_of constant_of is_null_constant pairing is_assignable check_gives check_chain check_here check_becomes check_look breaks node_rules rule_at same_key specs_type unary_of binary_of assignment_of
negative_array = refl

-- `int f(void)[3]; int main(void) { return 0; }`
function_of_array : is_refused (record { parts = (t.Declaration (record { specs = (t.more_specs (t.Key keyword.Int (1 ∷ [])) t.no_specs); list = record { declarator = (t.Array (t.Function (t.Identifier (codes "f") (1 ∷ [])) (t.more_params (t.Param (t.more_specs (t.Key keyword.Void (1 ∷ [])) t.no_specs) t.Missing []) t.no_params) false (1 ∷ 1 ∷ [])) (t.Length [] (t.Number 3 ty0.Int (1 ∷ []))) (1 ∷ 1 ∷ [])); init = None; lines = [] } ∷ []; lines = (1 ∷ []) })) ∷ (t.Defined (record { specs = (t.more_specs (t.Key keyword.Int (1 ∷ [])) t.no_specs); declarator = (t.Function (t.Identifier (codes "main") (1 ∷ [])) (t.more_params (t.Param (t.more_specs (t.Key keyword.Void (1 ∷ [])) t.no_specs) t.Missing []) t.no_params) false (1 ∷ 1 ∷ [])); body = t.Block (t.more_items (t.Statement (t.Return (t.some_expr (t.Number 0 ty0.Int (1 ∷ []))) (1 ∷ 1 ∷ []))) t.no_items) (1 ∷ 1 ∷ []); lines = [] })) ∷ []; lines = [] }) rule.K7 1
unfolding layouts_of same_basic holds_const linkage_of clashes with_declaration with_content with_head unit_of landing puts_of constant_of is_null_constant pairing is_assignable check_gives check_chain check_here check_becomes check_look breaks node_rules rule_at same_key specs_type unary_of binary_of assignment_of
function_of_array = refl

-- `int f[3](void); int main(void) { return 0; }`
array_of_functions : is_refused (record { parts = (t.Declaration (record { specs = (t.more_specs (t.Key keyword.Int (1 ∷ [])) t.no_specs); list = record { declarator = (t.Function (t.Array (t.Identifier (codes "f") (1 ∷ [])) (t.Length [] (t.Number 3 ty0.Int (1 ∷ []))) (1 ∷ 1 ∷ [])) (t.more_params (t.Param (t.more_specs (t.Key keyword.Void (1 ∷ [])) t.no_specs) t.Missing []) t.no_params) false (1 ∷ 1 ∷ [])); init = None; lines = [] } ∷ []; lines = (1 ∷ []) })) ∷ (t.Defined (record { specs = (t.more_specs (t.Key keyword.Int (1 ∷ [])) t.no_specs); declarator = (t.Function (t.Identifier (codes "main") (1 ∷ [])) (t.more_params (t.Param (t.more_specs (t.Key keyword.Void (1 ∷ [])) t.no_specs) t.Missing []) t.no_params) false (1 ∷ 1 ∷ [])); body = t.Block (t.more_items (t.Statement (t.Return (t.some_expr (t.Number 0 ty0.Int (1 ∷ []))) (1 ∷ 1 ∷ []))) t.no_items) (1 ∷ 1 ∷ []); lines = [] })) ∷ []; lines = [] }) rule.K7 1
unfolding layouts_of same_basic holds_const linkage_of clashes with_declaration with_content with_head unit_of landing puts_of constant_of is_null_constant pairing is_assignable check_gives check_chain check_here check_becomes check_look breaks node_rules rule_at same_key specs_type unary_of binary_of assignment_of
array_of_functions = refl

-- `int f(void, int); int main(void) { return 0; }`
void_beside : is_refused (record { parts = (t.Declaration (record { specs = (t.more_specs (t.Key keyword.Int (1 ∷ [])) t.no_specs); list = record { declarator = (t.Function (t.Identifier (codes "f") (1 ∷ [])) (t.more_params (t.Param (t.more_specs (t.Key keyword.Void (1 ∷ [])) t.no_specs) t.Missing []) (t.more_params (t.Param (t.more_specs (t.Key keyword.Int (1 ∷ [])) t.no_specs) t.Missing []) t.no_params)) false (1 ∷ 1 ∷ [])); init = None; lines = [] } ∷ []; lines = (1 ∷ []) })) ∷ (t.Defined (record { specs = (t.more_specs (t.Key keyword.Int (1 ∷ [])) t.no_specs); declarator = (t.Function (t.Identifier (codes "main") (1 ∷ [])) (t.more_params (t.Param (t.more_specs (t.Key keyword.Void (1 ∷ [])) t.no_specs) t.Missing []) t.no_params) false (1 ∷ 1 ∷ [])); body = t.Block (t.more_items (t.Statement (t.Return (t.some_expr (t.Number 0 ty0.Int (1 ∷ []))) (1 ∷ 1 ∷ []))) t.no_items) (1 ∷ 1 ∷ []); lines = [] })) ∷ []; lines = [] }) rule.K7 1
unfolding layouts_of same_basic holds_const linkage_of clashes with_declaration with_content with_head unit_of landing puts_of constant_of is_null_constant pairing is_assignable check_gives check_chain check_here check_becomes check_look breaks node_rules rule_at same_key specs_type unary_of binary_of assignment_of
void_beside = refl

-- `struct s { int a; int a; }; int main(void) { return 0; }`
member_twice : is_refused (record { parts = (t.Declaration (record { specs = (t.more_specs (t.Record false (Some (codes "s")) (t.some_members (t.more_member_decls (t.MemberDecl (t.more_specs (t.Key keyword.Int (1 ∷ [])) t.no_specs) (t.more_member_declarators (t.MemberDeclarator (t.Identifier (codes "a") (1 ∷ [])) t.no_expr (1 ∷ [])) t.no_member_declarators) (1 ∷ [])) (t.more_member_decls (t.MemberDecl (t.more_specs (t.Key keyword.Int (1 ∷ [])) t.no_specs) (t.more_member_declarators (t.MemberDeclarator (t.Identifier (codes "a") (1 ∷ [])) t.no_expr (1 ∷ [])) t.no_member_declarators) (1 ∷ [])) t.no_member_decls))) (1 ∷ 1 ∷ 1 ∷ [])) t.no_specs); list = []; lines = (1 ∷ []) })) ∷ (t.Defined (record { specs = (t.more_specs (t.Key keyword.Int (1 ∷ [])) t.no_specs); declarator = (t.Function (t.Identifier (codes "main") (1 ∷ [])) (t.more_params (t.Param (t.more_specs (t.Key keyword.Void (1 ∷ [])) t.no_specs) t.Missing []) t.no_params) false (1 ∷ 1 ∷ [])); body = t.Block (t.more_items (t.Statement (t.Return (t.some_expr (t.Number 0 ty0.Int (1 ∷ []))) (1 ∷ 1 ∷ []))) t.no_items) (1 ∷ 1 ∷ []); lines = [] })) ∷ []; lines = [] }) rule.K8 1
unfolding layouts_of same_basic holds_const linkage_of clashes with_declaration with_content with_head unit_of landing puts_of constant_of is_null_constant pairing is_assignable check_gives check_chain check_here check_becomes check_look breaks node_rules rule_at same_key specs_type unary_of binary_of assignment_of
member_twice = refl

-- `struct s { struct s t; }; int main(void) { return 0; }`
incomplete_member : is_refused (record { parts = (t.Declaration (record { specs = (t.more_specs (t.Record false (Some (codes "s")) (t.some_members (t.more_member_decls (t.MemberDecl (t.more_specs (t.Record false (Some (codes "s")) t.no_members (1 ∷ 1 ∷ [])) t.no_specs) (t.more_member_declarators (t.MemberDeclarator (t.Identifier (codes "t") (1 ∷ [])) t.no_expr (1 ∷ [])) t.no_member_declarators) (1 ∷ [])) t.no_member_decls)) (1 ∷ 1 ∷ 1 ∷ [])) t.no_specs); list = []; lines = (1 ∷ []) })) ∷ (t.Defined (record { specs = (t.more_specs (t.Key keyword.Int (1 ∷ [])) t.no_specs); declarator = (t.Function (t.Identifier (codes "main") (1 ∷ [])) (t.more_params (t.Param (t.more_specs (t.Key keyword.Void (1 ∷ [])) t.no_specs) t.Missing []) t.no_params) false (1 ∷ 1 ∷ [])); body = t.Block (t.more_items (t.Statement (t.Return (t.some_expr (t.Number 0 ty0.Int (1 ∷ []))) (1 ∷ 1 ∷ []))) t.no_items) (1 ∷ 1 ∷ []); lines = [] })) ∷ []; lines = [] }) rule.K5 1
unfolding layouts_of same_basic holds_const linkage_of clashes with_declaration with_content with_head unit_of landing puts_of constant_of is_null_constant pairing is_assignable check_gives check_chain check_here check_becomes check_look breaks node_rules rule_at same_key specs_type unary_of binary_of assignment_of
incomplete_member = refl

-- `struct s { struct s *t; }; int main(void) { return sizeof(struct s) - 8; }`
pointer_member : is_fine (record { parts = (t.Declaration (record { specs = (t.more_specs (t.Record false (Some (codes "s")) (t.some_members (t.more_member_decls (t.MemberDecl (t.more_specs (t.Record false (Some (codes "s")) t.no_members (1 ∷ 1 ∷ [])) t.no_specs) (t.more_member_declarators (t.MemberDeclarator (t.Pointer [] (t.Identifier (codes "t") (1 ∷ [])) (1 ∷ [])) t.no_expr (1 ∷ [])) t.no_member_declarators) (1 ∷ [])) t.no_member_decls)) (1 ∷ 1 ∷ 1 ∷ [])) t.no_specs); list = []; lines = (1 ∷ []) })) ∷ (t.Defined (record { specs = (t.more_specs (t.Key keyword.Int (1 ∷ [])) t.no_specs); declarator = (t.Function (t.Identifier (codes "main") (1 ∷ [])) (t.more_params (t.Param (t.more_specs (t.Key keyword.Void (1 ∷ [])) t.no_specs) t.Missing []) t.no_params) false (1 ∷ 1 ∷ [])); body = t.Block (t.more_items (t.Statement (t.Return (t.some_expr (t.Binary (t.SizeofType (t.TypeName (t.more_specs (t.Record false (Some (codes "s")) t.no_members (1 ∷ 1 ∷ [])) t.no_specs) t.Missing []) (1 ∷ 1 ∷ 1 ∷ [])) punct.Minus (t.Number 8 ty0.Int (1 ∷ [])) (1 ∷ []))) (1 ∷ 1 ∷ []))) t.no_items) (1 ∷ 1 ∷ []); lines = [] })) ∷ []; lines = [] })
unfolding layouts_of same_basic holds_const linkage_of clashes with_declaration with_content with_head unit_of landing puts_of constant_of is_null_constant pairing is_assignable check_gives check_chain check_here check_becomes check_look breaks node_rules rule_at same_key specs_type unary_of binary_of assignment_of
pointer_member = refl

-- `struct s { int n; char a[]; }; int main(void) { return 0; }`
flexible : is_refused (record { parts = (t.Declaration (record { specs = (t.more_specs (t.Record false (Some (codes "s")) (t.some_members (t.more_member_decls (t.MemberDecl (t.more_specs (t.Key keyword.Int (1 ∷ [])) t.no_specs) (t.more_member_declarators (t.MemberDeclarator (t.Identifier (codes "n") (1 ∷ [])) t.no_expr (1 ∷ [])) t.no_member_declarators) (1 ∷ [])) (t.more_member_decls (t.MemberDecl (t.more_specs (t.Key keyword.Char (1 ∷ [])) t.no_specs) (t.more_member_declarators (t.MemberDeclarator (t.Array (t.Identifier (codes "a") (1 ∷ [])) (t.Unsized []) (1 ∷ 1 ∷ [])) t.no_expr (1 ∷ [])) t.no_member_declarators) (1 ∷ [])) t.no_member_decls))) (1 ∷ 1 ∷ 1 ∷ [])) t.no_specs); list = []; lines = (1 ∷ []) })) ∷ (t.Defined (record { specs = (t.more_specs (t.Key keyword.Int (1 ∷ [])) t.no_specs); declarator = (t.Function (t.Identifier (codes "main") (1 ∷ [])) (t.more_params (t.Param (t.more_specs (t.Key keyword.Void (1 ∷ [])) t.no_specs) t.Missing []) t.no_params) false (1 ∷ 1 ∷ [])); body = t.Block (t.more_items (t.Statement (t.Return (t.some_expr (t.Number 0 ty0.Int (1 ∷ []))) (1 ∷ 1 ∷ []))) t.no_items) (1 ∷ 1 ∷ []); lines = [] })) ∷ []; lines = [] }) rule.O10 1
unfolding layouts_of same_basic holds_const linkage_of clashes with_declaration with_content with_head unit_of landing puts_of constant_of is_null_constant pairing is_assignable check_gives check_chain check_here check_becomes check_look breaks node_rules rule_at same_key specs_type unary_of binary_of assignment_of
flexible = refl

-- `struct s { long a : 3; }; int main(void) { return 0; }`
long_bits : is_refused (record { parts = (t.Declaration (record { specs = (t.more_specs (t.Record false (Some (codes "s")) (t.some_members (t.more_member_decls (t.MemberDecl (t.more_specs (t.Key keyword.Long (1 ∷ [])) t.no_specs) (t.more_member_declarators (t.MemberDeclarator (t.Identifier (codes "a") (1 ∷ [])) (t.some_expr (t.Number 3 ty0.Int (1 ∷ []))) (1 ∷ [])) t.no_member_declarators) (1 ∷ [])) t.no_member_decls)) (1 ∷ 1 ∷ 1 ∷ [])) t.no_specs); list = []; lines = (1 ∷ []) })) ∷ (t.Defined (record { specs = (t.more_specs (t.Key keyword.Int (1 ∷ [])) t.no_specs); declarator = (t.Function (t.Identifier (codes "main") (1 ∷ [])) (t.more_params (t.Param (t.more_specs (t.Key keyword.Void (1 ∷ [])) t.no_specs) t.Missing []) t.no_params) false (1 ∷ 1 ∷ [])); body = t.Block (t.more_items (t.Statement (t.Return (t.some_expr (t.Number 0 ty0.Int (1 ∷ []))) (1 ∷ 1 ∷ []))) t.no_items) (1 ∷ 1 ∷ []); lines = [] })) ∷ []; lines = [] }) rule.O6 1
unfolding layouts_of same_basic holds_const linkage_of clashes with_declaration with_content with_head unit_of landing puts_of constant_of is_null_constant pairing is_assignable check_gives check_chain check_here check_becomes check_look breaks node_rules rule_at same_key specs_type unary_of binary_of assignment_of
long_bits = refl

-- `struct s { int a : 33; }; int main(void) { return 0; }`
wide_bits : is_refused (record { parts = (t.Declaration (record { specs = (t.more_specs (t.Record false (Some (codes "s")) (t.some_members (t.more_member_decls (t.MemberDecl (t.more_specs (t.Key keyword.Int (1 ∷ [])) t.no_specs) (t.more_member_declarators (t.MemberDeclarator (t.Identifier (codes "a") (1 ∷ [])) (t.some_expr (t.Number 33 ty0.Int (1 ∷ []))) (1 ∷ [])) t.no_member_declarators) (1 ∷ [])) t.no_member_decls)) (1 ∷ 1 ∷ 1 ∷ [])) t.no_specs); list = []; lines = (1 ∷ []) })) ∷ (t.Defined (record { specs = (t.more_specs (t.Key keyword.Int (1 ∷ [])) t.no_specs); declarator = (t.Function (t.Identifier (codes "main") (1 ∷ [])) (t.more_params (t.Param (t.more_specs (t.Key keyword.Void (1 ∷ [])) t.no_specs) t.Missing []) t.no_params) false (1 ∷ 1 ∷ [])); body = t.Block (t.more_items (t.Statement (t.Return (t.some_expr (t.Number 0 ty0.Int (1 ∷ []))) (1 ∷ 1 ∷ []))) t.no_items) (1 ∷ 1 ∷ []); lines = [] })) ∷ []; lines = [] }) rule.K22 1
unfolding layouts_of same_basic holds_const linkage_of clashes with_declaration with_content with_head unit_of landing puts_of constant_of is_null_constant pairing is_assignable check_gives check_chain check_here check_becomes check_look breaks node_rules rule_at same_key specs_type unary_of binary_of assignment_of
wide_bits = refl

-- `struct s { int a : 0; }; int main(void) { return 0; }`
named_zero_bits : is_refused (record { parts = (t.Declaration (record { specs = (t.more_specs (t.Record false (Some (codes "s")) (t.some_members (t.more_member_decls (t.MemberDecl (t.more_specs (t.Key keyword.Int (1 ∷ [])) t.no_specs) (t.more_member_declarators (t.MemberDeclarator (t.Identifier (codes "a") (1 ∷ [])) (t.some_expr (t.Number 0 ty0.Int (1 ∷ []))) (1 ∷ [])) t.no_member_declarators) (1 ∷ [])) t.no_member_decls)) (1 ∷ 1 ∷ 1 ∷ [])) t.no_specs); list = []; lines = (1 ∷ []) })) ∷ (t.Defined (record { specs = (t.more_specs (t.Key keyword.Int (1 ∷ [])) t.no_specs); declarator = (t.Function (t.Identifier (codes "main") (1 ∷ [])) (t.more_params (t.Param (t.more_specs (t.Key keyword.Void (1 ∷ [])) t.no_specs) t.Missing []) t.no_params) false (1 ∷ 1 ∷ [])); body = t.Block (t.more_items (t.Statement (t.Return (t.some_expr (t.Number 0 ty0.Int (1 ∷ []))) (1 ∷ 1 ∷ []))) t.no_items) (1 ∷ 1 ∷ []); lines = [] })) ∷ []; lines = [] }) rule.K22 1
unfolding layouts_of same_basic holds_const linkage_of clashes with_declaration with_content with_head unit_of landing puts_of constant_of is_null_constant pairing is_assignable check_gives check_chain check_here check_becomes check_look breaks node_rules rule_at same_key specs_type unary_of binary_of assignment_of
named_zero_bits = refl

-- `struct s { int a : 3; int : 0; int b : 3; }; int main(void) { return sizeof(struct s); }`
unnamed_zero_bits : is_fine (record { parts = (t.Declaration (record { specs = (t.more_specs (t.Record false (Some (codes "s")) (t.some_members (t.more_member_decls (t.MemberDecl (t.more_specs (t.Key keyword.Int (1 ∷ [])) t.no_specs) (t.more_member_declarators (t.MemberDeclarator (t.Identifier (codes "a") (1 ∷ [])) (t.some_expr (t.Number 3 ty0.Int (1 ∷ []))) (1 ∷ [])) t.no_member_declarators) (1 ∷ [])) (t.more_member_decls (t.MemberDecl (t.more_specs (t.Key keyword.Int (1 ∷ [])) t.no_specs) (t.more_member_declarators (t.MemberDeclarator t.Missing (t.some_expr (t.Number 0 ty0.Int (1 ∷ []))) (1 ∷ [])) t.no_member_declarators) (1 ∷ [])) (t.more_member_decls (t.MemberDecl (t.more_specs (t.Key keyword.Int (1 ∷ [])) t.no_specs) (t.more_member_declarators (t.MemberDeclarator (t.Identifier (codes "b") (1 ∷ [])) (t.some_expr (t.Number 3 ty0.Int (1 ∷ []))) (1 ∷ [])) t.no_member_declarators) (1 ∷ [])) t.no_member_decls)))) (1 ∷ 1 ∷ 1 ∷ [])) t.no_specs); list = []; lines = (1 ∷ []) })) ∷ (t.Defined (record { specs = (t.more_specs (t.Key keyword.Int (1 ∷ [])) t.no_specs); declarator = (t.Function (t.Identifier (codes "main") (1 ∷ [])) (t.more_params (t.Param (t.more_specs (t.Key keyword.Void (1 ∷ [])) t.no_specs) t.Missing []) t.no_params) false (1 ∷ 1 ∷ [])); body = t.Block (t.more_items (t.Statement (t.Return (t.some_expr (t.SizeofType (t.TypeName (t.more_specs (t.Record false (Some (codes "s")) t.no_members (1 ∷ 1 ∷ [])) t.no_specs) t.Missing []) (1 ∷ 1 ∷ 1 ∷ []))) (1 ∷ 1 ∷ []))) t.no_items) (1 ∷ 1 ∷ []); lines = [] })) ∷ []; lines = [] })
unfolding layouts_of same_basic holds_const linkage_of clashes with_declaration with_content with_head unit_of landing puts_of constant_of is_null_constant pairing is_assignable check_gives check_chain check_here check_becomes check_look breaks node_rules rule_at same_key specs_type unary_of binary_of assignment_of
unnamed_zero_bits = refl

-- `enum e { A = 2147483647, B }; int main(void) { return A; }`
enumerator_range : is_refused (record { parts = (t.Declaration (record { specs = (t.more_specs (t.Enum (Some (codes "e")) (t.some_enumerator_list (t.more_enumerators (t.Enumerator (codes "A") (t.some_expr (t.Number 2147483647 ty0.Int (1 ∷ []))) (1 ∷ [])) (t.more_enumerators (t.Enumerator (codes "B") t.no_expr (1 ∷ [])) t.no_enumerators))) false (1 ∷ 1 ∷ 1 ∷ [])) t.no_specs); list = []; lines = (1 ∷ []) })) ∷ (t.Defined (record { specs = (t.more_specs (t.Key keyword.Int (1 ∷ [])) t.no_specs); declarator = (t.Function (t.Identifier (codes "main") (1 ∷ [])) (t.more_params (t.Param (t.more_specs (t.Key keyword.Void (1 ∷ [])) t.no_specs) t.Missing []) t.no_params) false (1 ∷ 1 ∷ [])); body = t.Block (t.more_items (t.Statement (t.Return (t.some_expr (t.Name (codes "A") (1 ∷ []))) (1 ∷ 1 ∷ []))) t.no_items) (1 ∷ 1 ∷ []); lines = [] })) ∷ []; lines = [] }) rule.K23 1
unfolding layouts_of same_basic holds_const linkage_of clashes with_declaration with_content with_head unit_of landing puts_of constant_of is_null_constant pairing is_assignable check_gives check_chain check_here check_becomes check_look breaks node_rules rule_at same_key specs_type unary_of binary_of assignment_of
enumerator_range = refl

-- `enum e { A, A }; int main(void) { return A; }`
enumerator_twice : is_refused (record { parts = (t.Declaration (record { specs = (t.more_specs (t.Enum (Some (codes "e")) (t.some_enumerator_list (t.more_enumerators (t.Enumerator (codes "A") t.no_expr (1 ∷ [])) (t.more_enumerators (t.Enumerator (codes "A") t.no_expr (1 ∷ [])) t.no_enumerators))) false (1 ∷ 1 ∷ 1 ∷ [])) t.no_specs); list = []; lines = (1 ∷ []) })) ∷ (t.Defined (record { specs = (t.more_specs (t.Key keyword.Int (1 ∷ [])) t.no_specs); declarator = (t.Function (t.Identifier (codes "main") (1 ∷ [])) (t.more_params (t.Param (t.more_specs (t.Key keyword.Void (1 ∷ [])) t.no_specs) t.Missing []) t.no_params) false (1 ∷ 1 ∷ [])); body = t.Block (t.more_items (t.Statement (t.Return (t.some_expr (t.Name (codes "A") (1 ∷ []))) (1 ∷ 1 ∷ []))) t.no_items) (1 ∷ 1 ∷ []); lines = [] })) ∷ []; lines = [] }) rule.K2 1
unfolding layouts_of same_basic holds_const linkage_of clashes with_declaration with_content with_head unit_of landing puts_of constant_of is_null_constant pairing is_assignable check_gives check_chain check_here check_becomes check_look breaks node_rules rule_at same_key specs_type unary_of binary_of assignment_of
enumerator_twice = refl

-- `enum e; int main(void) { return 0; }`
enum_without_list : is_refused (record { parts = (t.Declaration (record { specs = (t.more_specs (t.Enum (Some (codes "e")) t.no_enumerator_list false (1 ∷ 1 ∷ [])) t.no_specs); list = []; lines = (1 ∷ []) })) ∷ (t.Defined (record { specs = (t.more_specs (t.Key keyword.Int (1 ∷ [])) t.no_specs); declarator = (t.Function (t.Identifier (codes "main") (1 ∷ [])) (t.more_params (t.Param (t.more_specs (t.Key keyword.Void (1 ∷ [])) t.no_specs) t.Missing []) t.no_params) false (1 ∷ 1 ∷ [])); body = t.Block (t.more_items (t.Statement (t.Return (t.some_expr (t.Number 0 ty0.Int (1 ∷ []))) (1 ∷ 1 ∷ []))) t.no_items) (1 ∷ 1 ∷ []); lines = [] })) ∷ []; lines = [] }) rule.K24 1
unfolding layouts_of same_basic holds_const linkage_of clashes with_declaration with_content with_head unit_of landing puts_of constant_of is_null_constant pairing is_assignable check_gives check_chain check_here check_becomes check_look breaks node_rules rule_at same_key specs_type unary_of binary_of assignment_of
enum_without_list = refl

-- `struct s { int a; }; struct s { int b; }; int main(void) { return 0; }`
tag_twice : is_refused (record { parts = (t.Declaration (record { specs = (t.more_specs (t.Record false (Some (codes "s")) (t.some_members (t.more_member_decls (t.MemberDecl (t.more_specs (t.Key keyword.Int (1 ∷ [])) t.no_specs) (t.more_member_declarators (t.MemberDeclarator (t.Identifier (codes "a") (1 ∷ [])) t.no_expr (1 ∷ [])) t.no_member_declarators) (1 ∷ [])) t.no_member_decls)) (1 ∷ 1 ∷ 1 ∷ [])) t.no_specs); list = []; lines = (1 ∷ []) })) ∷ (t.Declaration (record { specs = (t.more_specs (t.Record false (Some (codes "s")) (t.some_members (t.more_member_decls (t.MemberDecl (t.more_specs (t.Key keyword.Int (1 ∷ [])) t.no_specs) (t.more_member_declarators (t.MemberDeclarator (t.Identifier (codes "b") (1 ∷ [])) t.no_expr (1 ∷ [])) t.no_member_declarators) (1 ∷ [])) t.no_member_decls)) (1 ∷ 1 ∷ 1 ∷ [])) t.no_specs); list = []; lines = (1 ∷ []) })) ∷ (t.Defined (record { specs = (t.more_specs (t.Key keyword.Int (1 ∷ [])) t.no_specs); declarator = (t.Function (t.Identifier (codes "main") (1 ∷ [])) (t.more_params (t.Param (t.more_specs (t.Key keyword.Void (1 ∷ [])) t.no_specs) t.Missing []) t.no_params) false (1 ∷ 1 ∷ [])); body = t.Block (t.more_items (t.Statement (t.Return (t.some_expr (t.Number 0 ty0.Int (1 ∷ []))) (1 ∷ 1 ∷ []))) t.no_items) (1 ∷ 1 ∷ []); lines = [] })) ∷ []; lines = [] }) rule.K24 1
unfolding layouts_of same_basic holds_const linkage_of clashes with_declaration with_content with_head unit_of landing puts_of constant_of is_null_constant pairing is_assignable check_gives check_chain check_here check_becomes check_look breaks node_rules rule_at same_key specs_type unary_of binary_of assignment_of
tag_twice = refl

-- `struct s { int a; }; union s x; int main(void) { return 0; }`
tag_of_other_kind : is_refused (record { parts = (t.Declaration (record { specs = (t.more_specs (t.Record false (Some (codes "s")) (t.some_members (t.more_member_decls (t.MemberDecl (t.more_specs (t.Key keyword.Int (1 ∷ [])) t.no_specs) (t.more_member_declarators (t.MemberDeclarator (t.Identifier (codes "a") (1 ∷ [])) t.no_expr (1 ∷ [])) t.no_member_declarators) (1 ∷ [])) t.no_member_decls)) (1 ∷ 1 ∷ 1 ∷ [])) t.no_specs); list = []; lines = (1 ∷ []) })) ∷ (t.Declaration (record { specs = (t.more_specs (t.Record true (Some (codes "s")) t.no_members (1 ∷ 1 ∷ [])) t.no_specs); list = record { declarator = (t.Identifier (codes "x") (1 ∷ [])); init = None; lines = [] } ∷ []; lines = (1 ∷ []) })) ∷ (t.Defined (record { specs = (t.more_specs (t.Key keyword.Int (1 ∷ [])) t.no_specs); declarator = (t.Function (t.Identifier (codes "main") (1 ∷ [])) (t.more_params (t.Param (t.more_specs (t.Key keyword.Void (1 ∷ [])) t.no_specs) t.Missing []) t.no_params) false (1 ∷ 1 ∷ [])); body = t.Block (t.more_items (t.Statement (t.Return (t.some_expr (t.Number 0 ty0.Int (1 ∷ []))) (1 ∷ 1 ∷ []))) t.no_items) (1 ∷ 1 ∷ []); lines = [] })) ∷ []; lines = [] }) rule.K24 1
unfolding layouts_of same_basic holds_const linkage_of clashes with_declaration with_content with_head unit_of landing puts_of constant_of is_null_constant pairing is_assignable check_gives check_chain check_here check_becomes check_look breaks node_rules rule_at same_key specs_type unary_of binary_of assignment_of
tag_of_other_kind = refl

-- `struct s { int a; }; int main(void) { struct s; struct s { int b; } x; return x.b = 0; }`
tag_in_block : is_fine (record { parts = (t.Declaration (record { specs = (t.more_specs (t.Record false (Some (codes "s")) (t.some_members (t.more_member_decls (t.MemberDecl (t.more_specs (t.Key keyword.Int (1 ∷ [])) t.no_specs) (t.more_member_declarators (t.MemberDeclarator (t.Identifier (codes "a") (1 ∷ [])) t.no_expr (1 ∷ [])) t.no_member_declarators) (1 ∷ [])) t.no_member_decls)) (1 ∷ 1 ∷ 1 ∷ [])) t.no_specs); list = []; lines = (1 ∷ []) })) ∷ (t.Defined (record { specs = (t.more_specs (t.Key keyword.Int (1 ∷ [])) t.no_specs); declarator = (t.Function (t.Identifier (codes "main") (1 ∷ [])) (t.more_params (t.Param (t.more_specs (t.Key keyword.Void (1 ∷ [])) t.no_specs) t.Missing []) t.no_params) false (1 ∷ 1 ∷ [])); body = t.Block (t.more_items (t.Declared (record { specs = (t.more_specs (t.Record false (Some (codes "s")) t.no_members (1 ∷ 1 ∷ [])) t.no_specs); list = []; lines = (1 ∷ []) })) (t.more_items (t.Declared (record { specs = (t.more_specs (t.Record false (Some (codes "s")) (t.some_members (t.more_member_decls (t.MemberDecl (t.more_specs (t.Key keyword.Int (1 ∷ [])) t.no_specs) (t.more_member_declarators (t.MemberDeclarator (t.Identifier (codes "b") (1 ∷ [])) t.no_expr (1 ∷ [])) t.no_member_declarators) (1 ∷ [])) t.no_member_decls)) (1 ∷ 1 ∷ 1 ∷ [])) t.no_specs); list = record { declarator = (t.Identifier (codes "x") (1 ∷ [])); init = None; lines = [] } ∷ []; lines = (1 ∷ []) })) (t.more_items (t.Statement (t.Return (t.some_expr (t.Assign (t.Dot (t.Name (codes "x") (1 ∷ [])) (codes "b") (1 ∷ 1 ∷ [])) punct.Equal (t.Number 0 ty0.Int (1 ∷ [])) (1 ∷ []))) (1 ∷ 1 ∷ []))) t.no_items))) (1 ∷ 1 ∷ []); lines = [] })) ∷ []; lines = [] })
unfolding layouts_of same_basic holds_const linkage_of clashes with_declaration with_content with_head unit_of landing puts_of constant_of is_null_constant pairing is_assignable check_gives check_chain check_here check_becomes check_look breaks node_rules rule_at same_key specs_type unary_of binary_of assignment_of
tag_in_block = refl

-- `char a[16777217]; int main(void) { return 0; }`
too_large : is_refused (record { parts = (t.Declaration (record { specs = (t.more_specs (t.Key keyword.Char (1 ∷ [])) t.no_specs); list = record { declarator = (t.Array (t.Identifier (codes "a") (1 ∷ [])) (t.Length [] (t.Number 16777217 ty0.Int (1 ∷ []))) (1 ∷ 1 ∷ [])); init = None; lines = [] } ∷ []; lines = (1 ∷ []) })) ∷ (t.Defined (record { specs = (t.more_specs (t.Key keyword.Int (1 ∷ [])) t.no_specs); declarator = (t.Function (t.Identifier (codes "main") (1 ∷ [])) (t.more_params (t.Param (t.more_specs (t.Key keyword.Void (1 ∷ [])) t.no_specs) t.Missing []) t.no_params) false (1 ∷ 1 ∷ [])); body = t.Block (t.more_items (t.Statement (t.Return (t.some_expr (t.Number 0 ty0.Int (1 ∷ []))) (1 ∷ 1 ∷ []))) t.no_items) (1 ∷ 1 ∷ []); lines = [] })) ∷ []; lines = [] }) rule.M3 1
unfolding layouts_of same_basic holds_const linkage_of clashes with_declaration with_content with_head unit_of landing puts_of constant_of is_null_constant pairing is_assignable check_gives check_chain check_here check_becomes check_look breaks node_rules rule_at same_key specs_type unary_of binary_of assignment_of
too_large = refl

-- `char a[16777216]; int main(void) { return 0; }`
large : is_fine (record { parts = (t.Declaration (record { specs = (t.more_specs (t.Key keyword.Char (1 ∷ [])) t.no_specs); list = record { declarator = (t.Array (t.Identifier (codes "a") (1 ∷ [])) (t.Length [] (t.Number 16777216 ty0.Int (1 ∷ []))) (1 ∷ 1 ∷ [])); init = None; lines = [] } ∷ []; lines = (1 ∷ []) })) ∷ (t.Defined (record { specs = (t.more_specs (t.Key keyword.Int (1 ∷ [])) t.no_specs); declarator = (t.Function (t.Identifier (codes "main") (1 ∷ [])) (t.more_params (t.Param (t.more_specs (t.Key keyword.Void (1 ∷ [])) t.no_specs) t.Missing []) t.no_params) false (1 ∷ 1 ∷ [])); body = t.Block (t.more_items (t.Statement (t.Return (t.some_expr (t.Number 0 ty0.Int (1 ∷ []))) (1 ∷ 1 ∷ []))) t.no_items) (1 ∷ 1 ∷ []); lines = [] })) ∷ []; lines = [] })
unfolding layouts_of same_basic holds_const linkage_of clashes with_declaration with_content with_head unit_of landing puts_of constant_of is_null_constant pairing is_assignable check_gives check_chain check_here check_becomes check_look breaks node_rules rule_at same_key specs_type unary_of binary_of assignment_of
large = refl

-- `int a[2147483647][2147483647]; int main(void) { return 0; }`
too_large_twice : is_refused (record { parts = (t.Declaration (record { specs = (t.more_specs (t.Key keyword.Int (1 ∷ [])) t.no_specs); list = record { declarator = (t.Array (t.Array (t.Identifier (codes "a") (1 ∷ [])) (t.Length [] (t.Number 2147483647 ty0.Int (1 ∷ []))) (1 ∷ 1 ∷ [])) (t.Length [] (t.Number 2147483647 ty0.Int (1 ∷ []))) (1 ∷ 1 ∷ [])); init = None; lines = [] } ∷ []; lines = (1 ∷ []) })) ∷ (t.Defined (record { specs = (t.more_specs (t.Key keyword.Int (1 ∷ [])) t.no_specs); declarator = (t.Function (t.Identifier (codes "main") (1 ∷ [])) (t.more_params (t.Param (t.more_specs (t.Key keyword.Void (1 ∷ [])) t.no_specs) t.Missing []) t.no_params) false (1 ∷ 1 ∷ [])); body = t.Block (t.more_items (t.Statement (t.Return (t.some_expr (t.Number 0 ty0.Int (1 ∷ []))) (1 ∷ 1 ∷ []))) t.no_items) (1 ∷ 1 ∷ []); lines = [] })) ∷ []; lines = [] }) rule.M3 1
unfolding layouts_of same_basic holds_const linkage_of clashes with_declaration with_content with_head unit_of landing puts_of constant_of is_null_constant pairing is_assignable check_gives check_chain check_here check_becomes check_look breaks node_rules rule_at same_key specs_type unary_of binary_of assignment_of
too_large_twice = refl

-- Declarations and initialisers

-- `extern static int x; int main(void) { return 0; }`
two_storage : is_refused (record { parts = (t.Declaration (record { specs = (t.more_specs (t.Key keyword.Extern (1 ∷ [])) (t.more_specs (t.Key keyword.Static (1 ∷ [])) (t.more_specs (t.Key keyword.Int (1 ∷ [])) t.no_specs))); list = record { declarator = (t.Identifier (codes "x") (1 ∷ [])); init = None; lines = [] } ∷ []; lines = (1 ∷ []) })) ∷ (t.Defined (record { specs = (t.more_specs (t.Key keyword.Int (1 ∷ [])) t.no_specs); declarator = (t.Function (t.Identifier (codes "main") (1 ∷ [])) (t.more_params (t.Param (t.more_specs (t.Key keyword.Void (1 ∷ [])) t.no_specs) t.Missing []) t.no_params) false (1 ∷ 1 ∷ [])); body = t.Block (t.more_items (t.Statement (t.Return (t.some_expr (t.Number 0 ty0.Int (1 ∷ []))) (1 ∷ 1 ∷ []))) t.no_items) (1 ∷ 1 ∷ []); lines = [] })) ∷ []; lines = [] }) rule.K4 1
unfolding layouts_of same_basic holds_const linkage_of clashes with_declaration with_content with_head unit_of landing puts_of constant_of is_null_constant pairing is_assignable check_gives check_chain check_here check_becomes check_look breaks node_rules rule_at same_key specs_type unary_of binary_of assignment_of
two_storage = refl

-- `auto int x; int main(void) { return 0; }`
auto_outside : is_refused (record { parts = (t.Declaration (record { specs = (t.more_specs (t.Key keyword.Auto (1 ∷ [])) (t.more_specs (t.Key keyword.Int (1 ∷ [])) t.no_specs)); list = record { declarator = (t.Identifier (codes "x") (1 ∷ [])); init = None; lines = [] } ∷ []; lines = (1 ∷ []) })) ∷ (t.Defined (record { specs = (t.more_specs (t.Key keyword.Int (1 ∷ [])) t.no_specs); declarator = (t.Function (t.Identifier (codes "main") (1 ∷ [])) (t.more_params (t.Param (t.more_specs (t.Key keyword.Void (1 ∷ [])) t.no_specs) t.Missing []) t.no_params) false (1 ∷ 1 ∷ [])); body = t.Block (t.more_items (t.Statement (t.Return (t.some_expr (t.Number 0 ty0.Int (1 ∷ []))) (1 ∷ 1 ∷ []))) t.no_items) (1 ∷ 1 ∷ []); lines = [] })) ∷ []; lines = [] }) rule.K4 1
unfolding layouts_of same_basic holds_const linkage_of clashes with_declaration with_content with_head unit_of landing puts_of constant_of is_null_constant pairing is_assignable check_gives check_chain check_here check_becomes check_look breaks node_rules rule_at same_key specs_type unary_of binary_of assignment_of
auto_outside = refl

-- `inline int f(void) { return 0; } int main(void) { return 0; }`
inline_alone : is_refused (record { parts = (t.Defined (record { specs = (t.more_specs (t.Key keyword.Inline (1 ∷ [])) (t.more_specs (t.Key keyword.Int (1 ∷ [])) t.no_specs)); declarator = (t.Function (t.Identifier (codes "f") (1 ∷ [])) (t.more_params (t.Param (t.more_specs (t.Key keyword.Void (1 ∷ [])) t.no_specs) t.Missing []) t.no_params) false (1 ∷ 1 ∷ [])); body = t.Block (t.more_items (t.Statement (t.Return (t.some_expr (t.Number 0 ty0.Int (1 ∷ []))) (1 ∷ 1 ∷ []))) t.no_items) (1 ∷ 1 ∷ []); lines = [] })) ∷ (t.Defined (record { specs = (t.more_specs (t.Key keyword.Int (1 ∷ [])) t.no_specs); declarator = (t.Function (t.Identifier (codes "main") (1 ∷ [])) (t.more_params (t.Param (t.more_specs (t.Key keyword.Void (1 ∷ [])) t.no_specs) t.Missing []) t.no_params) false (1 ∷ 1 ∷ [])); body = t.Block (t.more_items (t.Statement (t.Return (t.some_expr (t.Number 0 ty0.Int (1 ∷ []))) (1 ∷ 1 ∷ []))) t.no_items) (1 ∷ 1 ∷ []); lines = [] })) ∷ []; lines = [] }) rule.O9 1
unfolding layouts_of same_basic holds_const linkage_of clashes with_declaration with_content with_head unit_of landing puts_of constant_of is_null_constant pairing is_assignable check_gives check_chain check_here check_becomes check_look breaks node_rules rule_at same_key specs_type unary_of binary_of assignment_of
inline_alone = refl

-- `int main(void) { int x; int x; return 0; }`
same_name : is_refused (record { parts = (t.Defined (record { specs = (t.more_specs (t.Key keyword.Int (1 ∷ [])) t.no_specs); declarator = (t.Function (t.Identifier (codes "main") (1 ∷ [])) (t.more_params (t.Param (t.more_specs (t.Key keyword.Void (1 ∷ [])) t.no_specs) t.Missing []) t.no_params) false (1 ∷ 1 ∷ [])); body = t.Block (t.more_items (t.Declared (record { specs = (t.more_specs (t.Key keyword.Int (1 ∷ [])) t.no_specs); list = record { declarator = (t.Identifier (codes "x") (1 ∷ [])); init = None; lines = [] } ∷ []; lines = (1 ∷ []) })) (t.more_items (t.Declared (record { specs = (t.more_specs (t.Key keyword.Int (1 ∷ [])) t.no_specs); list = record { declarator = (t.Identifier (codes "x") (1 ∷ [])); init = None; lines = [] } ∷ []; lines = (1 ∷ []) })) (t.more_items (t.Statement (t.Return (t.some_expr (t.Number 0 ty0.Int (1 ∷ []))) (1 ∷ 1 ∷ []))) t.no_items))) (1 ∷ 1 ∷ []); lines = [] })) ∷ []; lines = [] }) rule.K2 1
unfolding layouts_of same_basic holds_const linkage_of clashes with_declaration with_content with_head unit_of landing puts_of constant_of is_null_constant pairing is_assignable check_gives check_chain check_here check_becomes check_look breaks node_rules rule_at same_key specs_type unary_of binary_of assignment_of
same_name = refl

-- `int f(int x) { int x; return 0; } int main(void) { return 0; }`
param_again : is_refused (record { parts = (t.Defined (record { specs = (t.more_specs (t.Key keyword.Int (1 ∷ [])) t.no_specs); declarator = (t.Function (t.Identifier (codes "f") (1 ∷ [])) (t.more_params (t.Param (t.more_specs (t.Key keyword.Int (1 ∷ [])) t.no_specs) (t.Identifier (codes "x") (1 ∷ [])) []) t.no_params) false (1 ∷ 1 ∷ [])); body = t.Block (t.more_items (t.Declared (record { specs = (t.more_specs (t.Key keyword.Int (1 ∷ [])) t.no_specs); list = record { declarator = (t.Identifier (codes "x") (1 ∷ [])); init = None; lines = [] } ∷ []; lines = (1 ∷ []) })) (t.more_items (t.Statement (t.Return (t.some_expr (t.Number 0 ty0.Int (1 ∷ []))) (1 ∷ 1 ∷ []))) t.no_items)) (1 ∷ 1 ∷ []); lines = [] })) ∷ (t.Defined (record { specs = (t.more_specs (t.Key keyword.Int (1 ∷ [])) t.no_specs); declarator = (t.Function (t.Identifier (codes "main") (1 ∷ [])) (t.more_params (t.Param (t.more_specs (t.Key keyword.Void (1 ∷ [])) t.no_specs) t.Missing []) t.no_params) false (1 ∷ 1 ∷ [])); body = t.Block (t.more_items (t.Statement (t.Return (t.some_expr (t.Number 0 ty0.Int (1 ∷ []))) (1 ∷ 1 ∷ []))) t.no_items) (1 ∷ 1 ∷ []); lines = [] })) ∷ []; lines = [] }) rule.K2 1
unfolding layouts_of same_basic holds_const linkage_of clashes with_declaration with_content with_head unit_of landing puts_of constant_of is_null_constant pairing is_assignable check_gives check_chain check_here check_becomes check_look breaks node_rules rule_at same_key specs_type unary_of binary_of assignment_of
param_again = refl

-- `int main(void) { int x = 1; { int x = 2; x = 3; } return x; }`
inner_name : is_fine (record { parts = (t.Defined (record { specs = (t.more_specs (t.Key keyword.Int (1 ∷ [])) t.no_specs); declarator = (t.Function (t.Identifier (codes "main") (1 ∷ [])) (t.more_params (t.Param (t.more_specs (t.Key keyword.Void (1 ∷ [])) t.no_specs) t.Missing []) t.no_params) false (1 ∷ 1 ∷ [])); body = t.Block (t.more_items (t.Declared (record { specs = (t.more_specs (t.Key keyword.Int (1 ∷ [])) t.no_specs); list = record { declarator = (t.Identifier (codes "x") (1 ∷ [])); init = (Some (t.Single (t.Number 1 ty0.Int (1 ∷ [])))); lines = [] } ∷ []; lines = (1 ∷ []) })) (t.more_items (t.Statement (t.Block (t.more_items (t.Declared (record { specs = (t.more_specs (t.Key keyword.Int (1 ∷ [])) t.no_specs); list = record { declarator = (t.Identifier (codes "x") (1 ∷ [])); init = (Some (t.Single (t.Number 2 ty0.Int (1 ∷ [])))); lines = [] } ∷ []; lines = (1 ∷ []) })) (t.more_items (t.Statement (t.ExprStmt (t.some_expr (t.Assign (t.Name (codes "x") (1 ∷ [])) punct.Equal (t.Number 3 ty0.Int (1 ∷ [])) (1 ∷ []))) (1 ∷ []))) t.no_items)) (1 ∷ 1 ∷ []))) (t.more_items (t.Statement (t.Return (t.some_expr (t.Name (codes "x") (1 ∷ []))) (1 ∷ 1 ∷ []))) t.no_items))) (1 ∷ 1 ∷ []); lines = [] })) ∷ []; lines = [] })
unfolding layouts_of same_basic holds_const linkage_of clashes with_declaration with_content with_head unit_of landing puts_of constant_of is_null_constant pairing is_assignable check_gives check_chain check_here check_becomes check_look breaks node_rules rule_at same_key specs_type unary_of binary_of assignment_of
inner_name = refl

-- `int f(void) { return 0; } int f(void) { return 1; } int main(void) { return 0; }`
second_body : is_refused (record { parts = (t.Defined (record { specs = (t.more_specs (t.Key keyword.Int (1 ∷ [])) t.no_specs); declarator = (t.Function (t.Identifier (codes "f") (1 ∷ [])) (t.more_params (t.Param (t.more_specs (t.Key keyword.Void (1 ∷ [])) t.no_specs) t.Missing []) t.no_params) false (1 ∷ 1 ∷ [])); body = t.Block (t.more_items (t.Statement (t.Return (t.some_expr (t.Number 0 ty0.Int (1 ∷ []))) (1 ∷ 1 ∷ []))) t.no_items) (1 ∷ 1 ∷ []); lines = [] })) ∷ (t.Defined (record { specs = (t.more_specs (t.Key keyword.Int (1 ∷ [])) t.no_specs); declarator = (t.Function (t.Identifier (codes "f") (1 ∷ [])) (t.more_params (t.Param (t.more_specs (t.Key keyword.Void (1 ∷ [])) t.no_specs) t.Missing []) t.no_params) false (1 ∷ 1 ∷ [])); body = t.Block (t.more_items (t.Statement (t.Return (t.some_expr (t.Number 1 ty0.Int (1 ∷ []))) (1 ∷ 1 ∷ []))) t.no_items) (1 ∷ 1 ∷ []); lines = [] })) ∷ (t.Defined (record { specs = (t.more_specs (t.Key keyword.Int (1 ∷ [])) t.no_specs); declarator = (t.Function (t.Identifier (codes "main") (1 ∷ [])) (t.more_params (t.Param (t.more_specs (t.Key keyword.Void (1 ∷ [])) t.no_specs) t.Missing []) t.no_params) false (1 ∷ 1 ∷ [])); body = t.Block (t.more_items (t.Statement (t.Return (t.some_expr (t.Number 0 ty0.Int (1 ∷ []))) (1 ∷ 1 ∷ []))) t.no_items) (1 ∷ 1 ∷ []); lines = [] })) ∷ []; lines = [] }) rule.K2 1
unfolding layouts_of same_basic holds_const linkage_of clashes with_declaration with_content with_head unit_of landing puts_of constant_of is_null_constant pairing is_assignable check_gives check_chain check_here check_becomes check_look breaks node_rules rule_at same_key specs_type unary_of binary_of assignment_of
second_body = refl

-- `int f(int); long f(int x) { return x; } int main(void) { return 0; }`
other_type : is_refused (record { parts = (t.Declaration (record { specs = (t.more_specs (t.Key keyword.Int (1 ∷ [])) t.no_specs); list = record { declarator = (t.Function (t.Identifier (codes "f") (1 ∷ [])) (t.more_params (t.Param (t.more_specs (t.Key keyword.Int (1 ∷ [])) t.no_specs) t.Missing []) t.no_params) false (1 ∷ 1 ∷ [])); init = None; lines = [] } ∷ []; lines = (1 ∷ []) })) ∷ (t.Defined (record { specs = (t.more_specs (t.Key keyword.Long (1 ∷ [])) t.no_specs); declarator = (t.Function (t.Identifier (codes "f") (1 ∷ [])) (t.more_params (t.Param (t.more_specs (t.Key keyword.Int (1 ∷ [])) t.no_specs) (t.Identifier (codes "x") (1 ∷ [])) []) t.no_params) false (1 ∷ 1 ∷ [])); body = t.Block (t.more_items (t.Statement (t.Return (t.some_expr (t.Name (codes "x") (1 ∷ []))) (1 ∷ 1 ∷ []))) t.no_items) (1 ∷ 1 ∷ []); lines = [] })) ∷ (t.Defined (record { specs = (t.more_specs (t.Key keyword.Int (1 ∷ [])) t.no_specs); declarator = (t.Function (t.Identifier (codes "main") (1 ∷ [])) (t.more_params (t.Param (t.more_specs (t.Key keyword.Void (1 ∷ [])) t.no_specs) t.Missing []) t.no_params) false (1 ∷ 1 ∷ [])); body = t.Block (t.more_items (t.Statement (t.Return (t.some_expr (t.Number 0 ty0.Int (1 ∷ []))) (1 ∷ 1 ∷ []))) t.no_items) (1 ∷ 1 ∷ []); lines = [] })) ∷ []; lines = [] }) rule.K2 1
unfolding layouts_of same_basic holds_const linkage_of clashes with_declaration with_content with_head unit_of landing puts_of constant_of is_null_constant pairing is_assignable check_gives check_chain check_here check_becomes check_look breaks node_rules rule_at same_key specs_type unary_of binary_of assignment_of
other_type = refl

-- `int x; int main(void) { extern long x; return 0; }`
hidden_other_type : is_refused (record { parts = (t.Declaration (record { specs = (t.more_specs (t.Key keyword.Int (1 ∷ [])) t.no_specs); list = record { declarator = (t.Identifier (codes "x") (1 ∷ [])); init = None; lines = [] } ∷ []; lines = (1 ∷ []) })) ∷ (t.Defined (record { specs = (t.more_specs (t.Key keyword.Int (1 ∷ [])) t.no_specs); declarator = (t.Function (t.Identifier (codes "main") (1 ∷ [])) (t.more_params (t.Param (t.more_specs (t.Key keyword.Void (1 ∷ [])) t.no_specs) t.Missing []) t.no_params) false (1 ∷ 1 ∷ [])); body = t.Block (t.more_items (t.Declared (record { specs = (t.more_specs (t.Key keyword.Extern (1 ∷ [])) (t.more_specs (t.Key keyword.Long (1 ∷ [])) t.no_specs)); list = record { declarator = (t.Identifier (codes "x") (1 ∷ [])); init = None; lines = [] } ∷ []; lines = (1 ∷ []) })) (t.more_items (t.Statement (t.Return (t.some_expr (t.Number 0 ty0.Int (1 ∷ []))) (1 ∷ 1 ∷ []))) t.no_items)) (1 ∷ 1 ∷ []); lines = [] })) ∷ []; lines = [] }) rule.K2 1
unfolding layouts_of same_basic holds_const linkage_of clashes with_declaration with_content with_head unit_of landing puts_of constant_of is_null_constant pairing is_assignable check_gives check_chain check_here check_becomes check_look breaks node_rules rule_at same_key specs_type unary_of binary_of assignment_of
hidden_other_type = refl

-- `int f(int a, ...) { return a; } int main(void) { return 0; }`
variadic_body : is_refused (record { parts = (t.Defined (record { specs = (t.more_specs (t.Key keyword.Int (1 ∷ [])) t.no_specs); declarator = (t.Function (t.Identifier (codes "f") (1 ∷ [])) (t.more_params (t.Param (t.more_specs (t.Key keyword.Int (1 ∷ [])) t.no_specs) (t.Identifier (codes "a") (1 ∷ [])) []) t.no_params) true (1 ∷ 1 ∷ [])); body = t.Block (t.more_items (t.Statement (t.Return (t.some_expr (t.Name (codes "a") (1 ∷ []))) (1 ∷ 1 ∷ []))) t.no_items) (1 ∷ 1 ∷ []); lines = [] })) ∷ (t.Defined (record { specs = (t.more_specs (t.Key keyword.Int (1 ∷ [])) t.no_specs); declarator = (t.Function (t.Identifier (codes "main") (1 ∷ [])) (t.more_params (t.Param (t.more_specs (t.Key keyword.Void (1 ∷ [])) t.no_specs) t.Missing []) t.no_params) false (1 ∷ 1 ∷ [])); body = t.Block (t.more_items (t.Statement (t.Return (t.some_expr (t.Number 0 ty0.Int (1 ∷ []))) (1 ∷ 1 ∷ []))) t.no_items) (1 ∷ 1 ∷ []); lines = [] })) ∷ []; lines = [] }) rule.O5 1
unfolding layouts_of same_basic holds_const linkage_of clashes with_declaration with_content with_head unit_of landing puts_of constant_of is_null_constant pairing is_assignable check_gives check_chain check_here check_becomes check_look breaks node_rules rule_at same_key specs_type unary_of binary_of assignment_of
variadic_body = refl

-- `int main(void) { void x; return 0; }`
void_object : is_refused (record { parts = (t.Defined (record { specs = (t.more_specs (t.Key keyword.Int (1 ∷ [])) t.no_specs); declarator = (t.Function (t.Identifier (codes "main") (1 ∷ [])) (t.more_params (t.Param (t.more_specs (t.Key keyword.Void (1 ∷ [])) t.no_specs) t.Missing []) t.no_params) false (1 ∷ 1 ∷ [])); body = t.Block (t.more_items (t.Declared (record { specs = (t.more_specs (t.Key keyword.Void (1 ∷ [])) t.no_specs); list = record { declarator = (t.Identifier (codes "x") (1 ∷ [])); init = None; lines = [] } ∷ []; lines = (1 ∷ []) })) (t.more_items (t.Statement (t.Return (t.some_expr (t.Number 0 ty0.Int (1 ∷ []))) (1 ∷ 1 ∷ []))) t.no_items)) (1 ∷ 1 ∷ []); lines = [] })) ∷ []; lines = [] }) rule.K5 1
unfolding layouts_of same_basic holds_const linkage_of clashes with_declaration with_content with_head unit_of landing puts_of constant_of is_null_constant pairing is_assignable check_gives check_chain check_here check_becomes check_look breaks node_rules rule_at same_key specs_type unary_of binary_of assignment_of
void_object = refl

-- `struct s; int main(void) { struct s x; return 0; }`
incomplete_object : is_refused (record { parts = (t.Declaration (record { specs = (t.more_specs (t.Record false (Some (codes "s")) t.no_members (1 ∷ 1 ∷ [])) t.no_specs); list = []; lines = (1 ∷ []) })) ∷ (t.Defined (record { specs = (t.more_specs (t.Key keyword.Int (1 ∷ [])) t.no_specs); declarator = (t.Function (t.Identifier (codes "main") (1 ∷ [])) (t.more_params (t.Param (t.more_specs (t.Key keyword.Void (1 ∷ [])) t.no_specs) t.Missing []) t.no_params) false (1 ∷ 1 ∷ [])); body = t.Block (t.more_items (t.Declared (record { specs = (t.more_specs (t.Record false (Some (codes "s")) t.no_members (1 ∷ 1 ∷ [])) t.no_specs); list = record { declarator = (t.Identifier (codes "x") (1 ∷ [])); init = None; lines = [] } ∷ []; lines = (1 ∷ []) })) (t.more_items (t.Statement (t.Return (t.some_expr (t.Number 0 ty0.Int (1 ∷ []))) (1 ∷ 1 ∷ []))) t.no_items)) (1 ∷ 1 ∷ []); lines = [] })) ∷ []; lines = [] }) rule.K5 1
unfolding layouts_of same_basic holds_const linkage_of clashes with_declaration with_content with_head unit_of landing puts_of constant_of is_null_constant pairing is_assignable check_gives check_chain check_here check_becomes check_look breaks node_rules rule_at same_key specs_type unary_of binary_of assignment_of
incomplete_object = refl

-- `struct s; struct s x; int main(void) { return 0; }`
tentative_incomplete : is_refused (record { parts = (t.Declaration (record { specs = (t.more_specs (t.Record false (Some (codes "s")) t.no_members (1 ∷ 1 ∷ [])) t.no_specs); list = []; lines = (1 ∷ []) })) ∷ (t.Declaration (record { specs = (t.more_specs (t.Record false (Some (codes "s")) t.no_members (1 ∷ 1 ∷ [])) t.no_specs); list = record { declarator = (t.Identifier (codes "x") (1 ∷ [])); init = None; lines = [] } ∷ []; lines = (1 ∷ []) })) ∷ (t.Defined (record { specs = (t.more_specs (t.Key keyword.Int (1 ∷ [])) t.no_specs); declarator = (t.Function (t.Identifier (codes "main") (1 ∷ [])) (t.more_params (t.Param (t.more_specs (t.Key keyword.Void (1 ∷ [])) t.no_specs) t.Missing []) t.no_params) false (1 ∷ 1 ∷ [])); body = t.Block (t.more_items (t.Statement (t.Return (t.some_expr (t.Number 0 ty0.Int (1 ∷ []))) (1 ∷ 1 ∷ []))) t.no_items) (1 ∷ 1 ∷ []); lines = [] })) ∷ []; lines = [] }) rule.K5 1
unfolding layouts_of same_basic holds_const linkage_of clashes with_declaration with_content with_head unit_of landing puts_of constant_of is_null_constant pairing is_assignable check_gives check_chain check_here check_becomes check_look breaks node_rules rule_at same_key specs_type unary_of binary_of assignment_of
tentative_incomplete = refl

-- `struct s; struct s x; struct s { int a; }; int main(void) { return x.a; }`
tentative_completed : is_fine (record { parts = (t.Declaration (record { specs = (t.more_specs (t.Record false (Some (codes "s")) t.no_members (1 ∷ 1 ∷ [])) t.no_specs); list = []; lines = (1 ∷ []) })) ∷ (t.Declaration (record { specs = (t.more_specs (t.Record false (Some (codes "s")) t.no_members (1 ∷ 1 ∷ [])) t.no_specs); list = record { declarator = (t.Identifier (codes "x") (1 ∷ [])); init = None; lines = [] } ∷ []; lines = (1 ∷ []) })) ∷ (t.Declaration (record { specs = (t.more_specs (t.Record false (Some (codes "s")) (t.some_members (t.more_member_decls (t.MemberDecl (t.more_specs (t.Key keyword.Int (1 ∷ [])) t.no_specs) (t.more_member_declarators (t.MemberDeclarator (t.Identifier (codes "a") (1 ∷ [])) t.no_expr (1 ∷ [])) t.no_member_declarators) (1 ∷ [])) t.no_member_decls)) (1 ∷ 1 ∷ 1 ∷ [])) t.no_specs); list = []; lines = (1 ∷ []) })) ∷ (t.Defined (record { specs = (t.more_specs (t.Key keyword.Int (1 ∷ [])) t.no_specs); declarator = (t.Function (t.Identifier (codes "main") (1 ∷ [])) (t.more_params (t.Param (t.more_specs (t.Key keyword.Void (1 ∷ [])) t.no_specs) t.Missing []) t.no_params) false (1 ∷ 1 ∷ [])); body = t.Block (t.more_items (t.Statement (t.Return (t.some_expr (t.Dot (t.Name (codes "x") (1 ∷ [])) (codes "a") (1 ∷ 1 ∷ []))) (1 ∷ 1 ∷ []))) t.no_items) (1 ∷ 1 ∷ []); lines = [] })) ∷ []; lines = [] })
unfolding layouts_of same_basic holds_const linkage_of clashes with_declaration with_content with_head unit_of landing puts_of constant_of is_null_constant pairing is_assignable check_gives check_chain check_here check_becomes check_look breaks node_rules rule_at same_key specs_type unary_of binary_of assignment_of
tentative_completed = refl

-- `int a[]; int main(void) { return a[0]; }`
tentative_array : is_fine (record { parts = (t.Declaration (record { specs = (t.more_specs (t.Key keyword.Int (1 ∷ [])) t.no_specs); list = record { declarator = (t.Array (t.Identifier (codes "a") (1 ∷ [])) (t.Unsized []) (1 ∷ 1 ∷ [])); init = None; lines = [] } ∷ []; lines = (1 ∷ []) })) ∷ (t.Defined (record { specs = (t.more_specs (t.Key keyword.Int (1 ∷ [])) t.no_specs); declarator = (t.Function (t.Identifier (codes "main") (1 ∷ [])) (t.more_params (t.Param (t.more_specs (t.Key keyword.Void (1 ∷ [])) t.no_specs) t.Missing []) t.no_params) false (1 ∷ 1 ∷ [])); body = t.Block (t.more_items (t.Statement (t.Return (t.some_expr (t.Index (t.Name (codes "a") (1 ∷ [])) (t.Number 0 ty0.Int (1 ∷ [])) (1 ∷ 1 ∷ []))) (1 ∷ 1 ∷ []))) t.no_items) (1 ∷ 1 ∷ []); lines = [] })) ∷ []; lines = [] })
unfolding layouts_of same_basic holds_const linkage_of clashes with_declaration with_content with_head unit_of landing puts_of constant_of is_null_constant pairing is_assignable check_gives check_chain check_here check_becomes check_look breaks node_rules rule_at same_key specs_type unary_of binary_of assignment_of
tentative_array = refl

-- `int a[5] = { [3] = 1, 2, [0] = 9 }; struct { int x[2]; int y; } s[2] = { { { 1 }, 2 }, 3 }; int main(void) { return a[0] + s[0].x[0]; }`
initial_worked : is_fine (record { parts = (t.Declaration (record { specs = (t.more_specs (t.Key keyword.Int (1 ∷ [])) t.no_specs); list = record { declarator = (t.Array (t.Identifier (codes "a") (1 ∷ [])) (t.Length [] (t.Number 5 ty0.Int (1 ∷ []))) (1 ∷ 1 ∷ [])); init = (Some (t.Braced (t.InitialiserList (t.more_entries (t.Entry (t.more_designators (t.Element (t.Number 3 ty0.Int (1 ∷ [])) (1 ∷ 1 ∷ [])) t.no_designators) (t.Single (t.Number 1 ty0.Int (1 ∷ []))) []) (t.more_entries (t.Entry t.no_designators (t.Single (t.Number 2 ty0.Int (1 ∷ []))) []) (t.more_entries (t.Entry (t.more_designators (t.Element (t.Number 0 ty0.Int (1 ∷ [])) (1 ∷ 1 ∷ [])) t.no_designators) (t.Single (t.Number 9 ty0.Int (1 ∷ []))) []) t.no_entries))) false (1 ∷ 1 ∷ [])))); lines = [] } ∷ []; lines = (1 ∷ []) })) ∷ (t.Declaration (record { specs = (t.more_specs (t.Record false None (t.some_members (t.more_member_decls (t.MemberDecl (t.more_specs (t.Key keyword.Int (1 ∷ [])) t.no_specs) (t.more_member_declarators (t.MemberDeclarator (t.Array (t.Identifier (codes "x") (1 ∷ [])) (t.Length [] (t.Number 2 ty0.Int (1 ∷ []))) (1 ∷ 1 ∷ [])) t.no_expr (1 ∷ [])) t.no_member_declarators) (1 ∷ [])) (t.more_member_decls (t.MemberDecl (t.more_specs (t.Key keyword.Int (1 ∷ [])) t.no_specs) (t.more_member_declarators (t.MemberDeclarator (t.Identifier (codes "y") (1 ∷ [])) t.no_expr (1 ∷ [])) t.no_member_declarators) (1 ∷ [])) t.no_member_decls))) (1 ∷ 1 ∷ 1 ∷ [])) t.no_specs); list = record { declarator = (t.Array (t.Identifier (codes "s") (1 ∷ [])) (t.Length [] (t.Number 2 ty0.Int (1 ∷ []))) (1 ∷ 1 ∷ [])); init = (Some (t.Braced (t.InitialiserList (t.more_entries (t.Entry t.no_designators (t.Braced (t.InitialiserList (t.more_entries (t.Entry t.no_designators (t.Braced (t.InitialiserList (t.more_entries (t.Entry t.no_designators (t.Single (t.Number 1 ty0.Int (1 ∷ []))) []) t.no_entries) false (1 ∷ 1 ∷ []))) []) (t.more_entries (t.Entry t.no_designators (t.Single (t.Number 2 ty0.Int (1 ∷ []))) []) t.no_entries)) false (1 ∷ 1 ∷ []))) []) (t.more_entries (t.Entry t.no_designators (t.Single (t.Number 3 ty0.Int (1 ∷ []))) []) t.no_entries)) false (1 ∷ 1 ∷ [])))); lines = [] } ∷ []; lines = (1 ∷ []) })) ∷ (t.Defined (record { specs = (t.more_specs (t.Key keyword.Int (1 ∷ [])) t.no_specs); declarator = (t.Function (t.Identifier (codes "main") (1 ∷ [])) (t.more_params (t.Param (t.more_specs (t.Key keyword.Void (1 ∷ [])) t.no_specs) t.Missing []) t.no_params) false (1 ∷ 1 ∷ [])); body = t.Block (t.more_items (t.Statement (t.Return (t.some_expr (t.Binary (t.Index (t.Name (codes "a") (1 ∷ [])) (t.Number 0 ty0.Int (1 ∷ [])) (1 ∷ 1 ∷ [])) punct.Plus (t.Index (t.Dot (t.Index (t.Name (codes "s") (1 ∷ [])) (t.Number 0 ty0.Int (1 ∷ [])) (1 ∷ 1 ∷ [])) (codes "x") (1 ∷ 1 ∷ [])) (t.Number 0 ty0.Int (1 ∷ [])) (1 ∷ 1 ∷ [])) (1 ∷ []))) (1 ∷ 1 ∷ []))) t.no_items) (1 ∷ 1 ∷ []); lines = [] })) ∷ []; lines = [] })
unfolding layouts_of same_basic holds_const linkage_of clashes with_declaration with_content with_head unit_of landing puts_of constant_of is_null_constant pairing is_assignable check_gives check_chain check_here check_becomes check_look breaks node_rules rule_at same_key specs_type unary_of binary_of assignment_of
initial_worked = refl

-- `int a[2] = { 1, 2, 3 }; int main(void) { return 0; }`
too_many_values : is_refused (record { parts = (t.Declaration (record { specs = (t.more_specs (t.Key keyword.Int (1 ∷ [])) t.no_specs); list = record { declarator = (t.Array (t.Identifier (codes "a") (1 ∷ [])) (t.Length [] (t.Number 2 ty0.Int (1 ∷ []))) (1 ∷ 1 ∷ [])); init = (Some (t.Braced (t.InitialiserList (t.more_entries (t.Entry t.no_designators (t.Single (t.Number 1 ty0.Int (1 ∷ []))) []) (t.more_entries (t.Entry t.no_designators (t.Single (t.Number 2 ty0.Int (1 ∷ []))) []) (t.more_entries (t.Entry t.no_designators (t.Single (t.Number 3 ty0.Int (1 ∷ []))) []) t.no_entries))) false (1 ∷ 1 ∷ [])))); lines = [] } ∷ []; lines = (1 ∷ []) })) ∷ (t.Defined (record { specs = (t.more_specs (t.Key keyword.Int (1 ∷ [])) t.no_specs); declarator = (t.Function (t.Identifier (codes "main") (1 ∷ [])) (t.more_params (t.Param (t.more_specs (t.Key keyword.Void (1 ∷ [])) t.no_specs) t.Missing []) t.no_params) false (1 ∷ 1 ∷ [])); body = t.Block (t.more_items (t.Statement (t.Return (t.some_expr (t.Number 0 ty0.Int (1 ∷ []))) (1 ∷ 1 ∷ []))) t.no_items) (1 ∷ 1 ∷ []); lines = [] })) ∷ []; lines = [] }) rule.K21 1
unfolding layouts_of same_basic holds_const linkage_of clashes with_declaration with_content with_head unit_of landing puts_of constant_of is_null_constant pairing is_assignable check_gives check_chain check_here check_becomes check_look breaks node_rules rule_at same_key specs_type unary_of binary_of assignment_of
too_many_values = refl

-- `int a[2] = { [2] = 1 }; int main(void) { return 0; }`
designator_past : is_refused (record { parts = (t.Declaration (record { specs = (t.more_specs (t.Key keyword.Int (1 ∷ [])) t.no_specs); list = record { declarator = (t.Array (t.Identifier (codes "a") (1 ∷ [])) (t.Length [] (t.Number 2 ty0.Int (1 ∷ []))) (1 ∷ 1 ∷ [])); init = (Some (t.Braced (t.InitialiserList (t.more_entries (t.Entry (t.more_designators (t.Element (t.Number 2 ty0.Int (1 ∷ [])) (1 ∷ 1 ∷ [])) t.no_designators) (t.Single (t.Number 1 ty0.Int (1 ∷ []))) []) t.no_entries) false (1 ∷ 1 ∷ [])))); lines = [] } ∷ []; lines = (1 ∷ []) })) ∷ (t.Defined (record { specs = (t.more_specs (t.Key keyword.Int (1 ∷ [])) t.no_specs); declarator = (t.Function (t.Identifier (codes "main") (1 ∷ [])) (t.more_params (t.Param (t.more_specs (t.Key keyword.Void (1 ∷ [])) t.no_specs) t.Missing []) t.no_params) false (1 ∷ 1 ∷ [])); body = t.Block (t.more_items (t.Statement (t.Return (t.some_expr (t.Number 0 ty0.Int (1 ∷ []))) (1 ∷ 1 ∷ []))) t.no_items) (1 ∷ 1 ∷ []); lines = [] })) ∷ []; lines = [] }) rule.K21 1
unfolding layouts_of same_basic holds_const linkage_of clashes with_declaration with_content with_head unit_of landing puts_of constant_of is_null_constant pairing is_assignable check_gives check_chain check_here check_becomes check_look breaks node_rules rule_at same_key specs_type unary_of binary_of assignment_of
designator_past = refl

-- `char a[2] = "abc"; int main(void) { return 0; }`
text_past : is_refused (record { parts = (t.Declaration (record { specs = (t.more_specs (t.Key keyword.Char (1 ∷ [])) t.no_specs); list = record { declarator = (t.Array (t.Identifier (codes "a") (1 ∷ [])) (t.Length [] (t.Number 2 ty0.Int (1 ∷ []))) (1 ∷ 1 ∷ [])); init = (Some (t.Single (t.Text ((codes "abc") ∷ []) (1 ∷ [])))); lines = [] } ∷ []; lines = (1 ∷ []) })) ∷ (t.Defined (record { specs = (t.more_specs (t.Key keyword.Int (1 ∷ [])) t.no_specs); declarator = (t.Function (t.Identifier (codes "main") (1 ∷ [])) (t.more_params (t.Param (t.more_specs (t.Key keyword.Void (1 ∷ [])) t.no_specs) t.Missing []) t.no_params) false (1 ∷ 1 ∷ [])); body = t.Block (t.more_items (t.Statement (t.Return (t.some_expr (t.Number 0 ty0.Int (1 ∷ []))) (1 ∷ 1 ∷ []))) t.no_items) (1 ∷ 1 ∷ []); lines = [] })) ∷ []; lines = [] }) rule.K21 1
unfolding layouts_of same_basic holds_const linkage_of clashes with_declaration with_content with_head unit_of landing puts_of constant_of is_null_constant pairing is_assignable check_gives check_chain check_here check_becomes check_look breaks node_rules rule_at same_key specs_type unary_of binary_of assignment_of
text_past = refl

-- `char a[3] = "abc"; int main(void) { return a[0]; }`
text_without_zero : is_fine (record { parts = (t.Declaration (record { specs = (t.more_specs (t.Key keyword.Char (1 ∷ [])) t.no_specs); list = record { declarator = (t.Array (t.Identifier (codes "a") (1 ∷ [])) (t.Length [] (t.Number 3 ty0.Int (1 ∷ []))) (1 ∷ 1 ∷ [])); init = (Some (t.Single (t.Text ((codes "abc") ∷ []) (1 ∷ [])))); lines = [] } ∷ []; lines = (1 ∷ []) })) ∷ (t.Defined (record { specs = (t.more_specs (t.Key keyword.Int (1 ∷ [])) t.no_specs); declarator = (t.Function (t.Identifier (codes "main") (1 ∷ [])) (t.more_params (t.Param (t.more_specs (t.Key keyword.Void (1 ∷ [])) t.no_specs) t.Missing []) t.no_params) false (1 ∷ 1 ∷ [])); body = t.Block (t.more_items (t.Statement (t.Return (t.some_expr (t.Index (t.Name (codes "a") (1 ∷ [])) (t.Number 0 ty0.Int (1 ∷ [])) (1 ∷ 1 ∷ []))) (1 ∷ 1 ∷ []))) t.no_items) (1 ∷ 1 ∷ []); lines = [] })) ∷ []; lines = [] })
unfolding layouts_of same_basic holds_const linkage_of clashes with_declaration with_content with_head unit_of landing puts_of constant_of is_null_constant pairing is_assignable check_gives check_chain check_here check_becomes check_look breaks node_rules rule_at same_key specs_type unary_of binary_of assignment_of
text_without_zero = refl

-- `char a[] = { "abc" }; int main(void) { return sizeof a; }`
text_in_braces : is_fine (record { parts = (t.Declaration (record { specs = (t.more_specs (t.Key keyword.Char (1 ∷ [])) t.no_specs); list = record { declarator = (t.Array (t.Identifier (codes "a") (1 ∷ [])) (t.Unsized []) (1 ∷ 1 ∷ [])); init = (Some (t.Braced (t.InitialiserList (t.more_entries (t.Entry t.no_designators (t.Single (t.Text ((codes "abc") ∷ []) (1 ∷ []))) []) t.no_entries) false (1 ∷ 1 ∷ [])))); lines = [] } ∷ []; lines = (1 ∷ []) })) ∷ (t.Defined (record { specs = (t.more_specs (t.Key keyword.Int (1 ∷ [])) t.no_specs); declarator = (t.Function (t.Identifier (codes "main") (1 ∷ [])) (t.more_params (t.Param (t.more_specs (t.Key keyword.Void (1 ∷ [])) t.no_specs) t.Missing []) t.no_params) false (1 ∷ 1 ∷ [])); body = t.Block (t.more_items (t.Statement (t.Return (t.some_expr (t.SizeofExpr (t.Name (codes "a") (1 ∷ [])) (1 ∷ []))) (1 ∷ 1 ∷ []))) t.no_items) (1 ∷ 1 ∷ []); lines = [] })) ∷ []; lines = [] })
unfolding layouts_of same_basic holds_const linkage_of clashes with_declaration with_content with_head unit_of landing puts_of constant_of is_null_constant pairing is_assignable check_gives check_chain check_here check_becomes check_look breaks node_rules rule_at same_key specs_type unary_of binary_of assignment_of
text_in_braces = refl

-- `char a[4] = { "abc", 1 }; int main(void) { return 0; }`
text_beside : is_refused (record { parts = (t.Declaration (record { specs = (t.more_specs (t.Key keyword.Char (1 ∷ [])) t.no_specs); list = record { declarator = (t.Array (t.Identifier (codes "a") (1 ∷ [])) (t.Length [] (t.Number 4 ty0.Int (1 ∷ []))) (1 ∷ 1 ∷ [])); init = (Some (t.Braced (t.InitialiserList (t.more_entries (t.Entry t.no_designators (t.Single (t.Text ((codes "abc") ∷ []) (1 ∷ []))) []) (t.more_entries (t.Entry t.no_designators (t.Single (t.Number 1 ty0.Int (1 ∷ []))) []) t.no_entries)) false (1 ∷ 1 ∷ [])))); lines = [] } ∷ []; lines = (1 ∷ []) })) ∷ (t.Defined (record { specs = (t.more_specs (t.Key keyword.Int (1 ∷ [])) t.no_specs); declarator = (t.Function (t.Identifier (codes "main") (1 ∷ [])) (t.more_params (t.Param (t.more_specs (t.Key keyword.Void (1 ∷ [])) t.no_specs) t.Missing []) t.no_params) false (1 ∷ 1 ∷ [])); body = t.Block (t.more_items (t.Statement (t.Return (t.some_expr (t.Number 0 ty0.Int (1 ∷ []))) (1 ∷ 1 ∷ []))) t.no_items) (1 ∷ 1 ∷ []); lines = [] })) ∷ []; lines = [] }) rule.K12 1
unfolding layouts_of same_basic holds_const linkage_of clashes with_declaration with_content with_head unit_of landing puts_of constant_of is_null_constant pairing is_assignable check_gives check_chain check_here check_becomes check_look breaks node_rules rule_at same_key specs_type unary_of binary_of assignment_of
text_beside = refl

-- `int main(void) { extern int x = 1; return 0; }`
typedef_initialised : is_refused (record { parts = (t.Defined (record { specs = (t.more_specs (t.Key keyword.Int (1 ∷ [])) t.no_specs); declarator = (t.Function (t.Identifier (codes "main") (1 ∷ [])) (t.more_params (t.Param (t.more_specs (t.Key keyword.Void (1 ∷ [])) t.no_specs) t.Missing []) t.no_params) false (1 ∷ 1 ∷ [])); body = t.Block (t.more_items (t.Declared (record { specs = (t.more_specs (t.Key keyword.Extern (1 ∷ [])) (t.more_specs (t.Key keyword.Int (1 ∷ [])) t.no_specs)); list = record { declarator = (t.Identifier (codes "x") (1 ∷ [])); init = (Some (t.Single (t.Number 1 ty0.Int (1 ∷ [])))); lines = [] } ∷ []; lines = (1 ∷ []) })) (t.more_items (t.Statement (t.Return (t.some_expr (t.Number 0 ty0.Int (1 ∷ []))) (1 ∷ 1 ∷ []))) t.no_items)) (1 ∷ 1 ∷ []); lines = [] })) ∷ []; lines = [] }) rule.K21 1
unfolding layouts_of same_basic holds_const linkage_of clashes with_declaration with_content with_head unit_of landing puts_of constant_of is_null_constant pairing is_assignable check_gives check_chain check_here check_becomes check_look breaks node_rules rule_at same_key specs_type unary_of binary_of assignment_of
typedef_initialised = refl

-- `int x = 1; int y = x; int main(void) { return 0; }`
not_constant : is_refused (record { parts = (t.Declaration (record { specs = (t.more_specs (t.Key keyword.Int (1 ∷ [])) t.no_specs); list = record { declarator = (t.Identifier (codes "x") (1 ∷ [])); init = (Some (t.Single (t.Number 1 ty0.Int (1 ∷ [])))); lines = [] } ∷ []; lines = (1 ∷ []) })) ∷ (t.Declaration (record { specs = (t.more_specs (t.Key keyword.Int (1 ∷ [])) t.no_specs); list = record { declarator = (t.Identifier (codes "y") (1 ∷ [])); init = (Some (t.Single (t.Name (codes "x") (1 ∷ [])))); lines = [] } ∷ []; lines = (1 ∷ []) })) ∷ (t.Defined (record { specs = (t.more_specs (t.Key keyword.Int (1 ∷ [])) t.no_specs); declarator = (t.Function (t.Identifier (codes "main") (1 ∷ [])) (t.more_params (t.Param (t.more_specs (t.Key keyword.Void (1 ∷ [])) t.no_specs) t.Missing []) t.no_params) false (1 ∷ 1 ∷ [])); body = t.Block (t.more_items (t.Statement (t.Return (t.some_expr (t.Number 0 ty0.Int (1 ∷ []))) (1 ∷ 1 ∷ []))) t.no_items) (1 ∷ 1 ∷ []); lines = [] })) ∷ []; lines = [] }) rule.K17 1
unfolding layouts_of same_basic holds_const linkage_of clashes with_declaration with_content with_head unit_of landing puts_of constant_of is_null_constant pairing is_assignable check_gives check_chain check_here check_becomes check_look breaks node_rules rule_at same_key specs_type unary_of binary_of assignment_of
not_constant = refl

-- `int x = 1; int *p = &x; int a[3]; int *q = a + 2; int f(void); int (*g)(void) = f; int main(void) { return 0; }`
address_constant : is_fine (record { parts = (t.Declaration (record { specs = (t.more_specs (t.Key keyword.Int (1 ∷ [])) t.no_specs); list = record { declarator = (t.Identifier (codes "x") (1 ∷ [])); init = (Some (t.Single (t.Number 1 ty0.Int (1 ∷ [])))); lines = [] } ∷ []; lines = (1 ∷ []) })) ∷ (t.Declaration (record { specs = (t.more_specs (t.Key keyword.Int (1 ∷ [])) t.no_specs); list = record { declarator = (t.Pointer [] (t.Identifier (codes "p") (1 ∷ [])) (1 ∷ [])); init = (Some (t.Single (t.Unary punct.Ampersand (t.Name (codes "x") (1 ∷ [])) (1 ∷ [])))); lines = [] } ∷ []; lines = (1 ∷ []) })) ∷ (t.Declaration (record { specs = (t.more_specs (t.Key keyword.Int (1 ∷ [])) t.no_specs); list = record { declarator = (t.Array (t.Identifier (codes "a") (1 ∷ [])) (t.Length [] (t.Number 3 ty0.Int (1 ∷ []))) (1 ∷ 1 ∷ [])); init = None; lines = [] } ∷ []; lines = (1 ∷ []) })) ∷ (t.Declaration (record { specs = (t.more_specs (t.Key keyword.Int (1 ∷ [])) t.no_specs); list = record { declarator = (t.Pointer [] (t.Identifier (codes "q") (1 ∷ [])) (1 ∷ [])); init = (Some (t.Single (t.Binary (t.Name (codes "a") (1 ∷ [])) punct.Plus (t.Number 2 ty0.Int (1 ∷ [])) (1 ∷ [])))); lines = [] } ∷ []; lines = (1 ∷ []) })) ∷ (t.Declaration (record { specs = (t.more_specs (t.Key keyword.Int (1 ∷ [])) t.no_specs); list = record { declarator = (t.Function (t.Identifier (codes "f") (1 ∷ [])) (t.more_params (t.Param (t.more_specs (t.Key keyword.Void (1 ∷ [])) t.no_specs) t.Missing []) t.no_params) false (1 ∷ 1 ∷ [])); init = None; lines = [] } ∷ []; lines = (1 ∷ []) })) ∷ (t.Declaration (record { specs = (t.more_specs (t.Key keyword.Int (1 ∷ [])) t.no_specs); list = record { declarator = (t.Function (t.Group (t.Pointer [] (t.Identifier (codes "g") (1 ∷ [])) (1 ∷ [])) (1 ∷ 1 ∷ [])) (t.more_params (t.Param (t.more_specs (t.Key keyword.Void (1 ∷ [])) t.no_specs) t.Missing []) t.no_params) false (1 ∷ 1 ∷ [])); init = (Some (t.Single (t.Name (codes "f") (1 ∷ [])))); lines = [] } ∷ []; lines = (1 ∷ []) })) ∷ (t.Defined (record { specs = (t.more_specs (t.Key keyword.Int (1 ∷ [])) t.no_specs); declarator = (t.Function (t.Identifier (codes "main") (1 ∷ [])) (t.more_params (t.Param (t.more_specs (t.Key keyword.Void (1 ∷ [])) t.no_specs) t.Missing []) t.no_params) false (1 ∷ 1 ∷ [])); body = t.Block (t.more_items (t.Statement (t.Return (t.some_expr (t.Number 0 ty0.Int (1 ∷ []))) (1 ∷ 1 ∷ []))) t.no_items) (1 ∷ 1 ∷ []); lines = [] })) ∷ []; lines = [] })
unfolding layouts_of same_basic holds_const linkage_of clashes with_declaration with_content with_head unit_of landing puts_of constant_of is_null_constant pairing is_assignable check_gives check_chain check_here check_becomes check_look breaks node_rules rule_at same_key specs_type unary_of binary_of assignment_of
address_constant = refl

-- `int *p = 5; int main(void) { return 0; }`
wrong_initial : is_refused (record { parts = (t.Declaration (record { specs = (t.more_specs (t.Key keyword.Int (1 ∷ [])) t.no_specs); list = record { declarator = (t.Pointer [] (t.Identifier (codes "p") (1 ∷ [])) (1 ∷ [])); init = (Some (t.Single (t.Number 5 ty0.Int (1 ∷ [])))); lines = [] } ∷ []; lines = (1 ∷ []) })) ∷ (t.Defined (record { specs = (t.more_specs (t.Key keyword.Int (1 ∷ [])) t.no_specs); declarator = (t.Function (t.Identifier (codes "main") (1 ∷ [])) (t.more_params (t.Param (t.more_specs (t.Key keyword.Void (1 ∷ [])) t.no_specs) t.Missing []) t.no_params) false (1 ∷ 1 ∷ [])); body = t.Block (t.more_items (t.Statement (t.Return (t.some_expr (t.Number 0 ty0.Int (1 ∷ []))) (1 ∷ 1 ∷ []))) t.no_items) (1 ∷ 1 ∷ []); lines = [] })) ∷ []; lines = [] }) rule.K12 1
unfolding layouts_of same_basic holds_const linkage_of clashes with_declaration with_content with_head unit_of landing puts_of constant_of is_null_constant pairing is_assignable check_gives check_chain check_here check_becomes check_look breaks node_rules rule_at same_key specs_type unary_of binary_of assignment_of
wrong_initial = refl

-- `int x = { { 1 } }; int main(void) { return x; }`
nested_braces : is_fine (record { parts = (t.Declaration (record { specs = (t.more_specs (t.Key keyword.Int (1 ∷ [])) t.no_specs); list = record { declarator = (t.Identifier (codes "x") (1 ∷ [])); init = (Some (t.Braced (t.InitialiserList (t.more_entries (t.Entry t.no_designators (t.Braced (t.InitialiserList (t.more_entries (t.Entry t.no_designators (t.Single (t.Number 1 ty0.Int (1 ∷ []))) []) t.no_entries) false (1 ∷ 1 ∷ []))) []) t.no_entries) false (1 ∷ 1 ∷ [])))); lines = [] } ∷ []; lines = (1 ∷ []) })) ∷ (t.Defined (record { specs = (t.more_specs (t.Key keyword.Int (1 ∷ [])) t.no_specs); declarator = (t.Function (t.Identifier (codes "main") (1 ∷ [])) (t.more_params (t.Param (t.more_specs (t.Key keyword.Void (1 ∷ [])) t.no_specs) t.Missing []) t.no_params) false (1 ∷ 1 ∷ [])); body = t.Block (t.more_items (t.Statement (t.Return (t.some_expr (t.Name (codes "x") (1 ∷ []))) (1 ∷ 1 ∷ []))) t.no_items) (1 ∷ 1 ∷ []); lines = [] })) ∷ []; lines = [] })
unfolding layouts_of same_basic holds_const linkage_of clashes with_declaration with_content with_head unit_of landing puts_of constant_of is_null_constant pairing is_assignable check_gives check_chain check_here check_becomes check_look breaks node_rules rule_at same_key specs_type unary_of binary_of assignment_of
nested_braces = refl

-- `struct s { int a; struct { int b; int c; } t; } x = { .t = { .c = 3 }, .a = 1 }; int main(void) { return x.t.c; }`
members_by_name : is_fine (record { parts = (t.Declaration (record { specs = (t.more_specs (t.Record false (Some (codes "s")) (t.some_members (t.more_member_decls (t.MemberDecl (t.more_specs (t.Key keyword.Int (1 ∷ [])) t.no_specs) (t.more_member_declarators (t.MemberDeclarator (t.Identifier (codes "a") (1 ∷ [])) t.no_expr (1 ∷ [])) t.no_member_declarators) (1 ∷ [])) (t.more_member_decls (t.MemberDecl (t.more_specs (t.Record false None (t.some_members (t.more_member_decls (t.MemberDecl (t.more_specs (t.Key keyword.Int (1 ∷ [])) t.no_specs) (t.more_member_declarators (t.MemberDeclarator (t.Identifier (codes "b") (1 ∷ [])) t.no_expr (1 ∷ [])) t.no_member_declarators) (1 ∷ [])) (t.more_member_decls (t.MemberDecl (t.more_specs (t.Key keyword.Int (1 ∷ [])) t.no_specs) (t.more_member_declarators (t.MemberDeclarator (t.Identifier (codes "c") (1 ∷ [])) t.no_expr (1 ∷ [])) t.no_member_declarators) (1 ∷ [])) t.no_member_decls))) (1 ∷ 1 ∷ 1 ∷ [])) t.no_specs) (t.more_member_declarators (t.MemberDeclarator (t.Identifier (codes "t") (1 ∷ [])) t.no_expr (1 ∷ [])) t.no_member_declarators) (1 ∷ [])) t.no_member_decls))) (1 ∷ 1 ∷ 1 ∷ [])) t.no_specs); list = record { declarator = (t.Identifier (codes "x") (1 ∷ [])); init = (Some (t.Braced (t.InitialiserList (t.more_entries (t.Entry (t.more_designators (t.Member (codes "t") (1 ∷ 1 ∷ [])) t.no_designators) (t.Braced (t.InitialiserList (t.more_entries (t.Entry (t.more_designators (t.Member (codes "c") (1 ∷ 1 ∷ [])) t.no_designators) (t.Single (t.Number 3 ty0.Int (1 ∷ []))) []) t.no_entries) false (1 ∷ 1 ∷ []))) []) (t.more_entries (t.Entry (t.more_designators (t.Member (codes "a") (1 ∷ 1 ∷ [])) t.no_designators) (t.Single (t.Number 1 ty0.Int (1 ∷ []))) []) t.no_entries)) false (1 ∷ 1 ∷ [])))); lines = [] } ∷ []; lines = (1 ∷ []) })) ∷ (t.Defined (record { specs = (t.more_specs (t.Key keyword.Int (1 ∷ [])) t.no_specs); declarator = (t.Function (t.Identifier (codes "main") (1 ∷ [])) (t.more_params (t.Param (t.more_specs (t.Key keyword.Void (1 ∷ [])) t.no_specs) t.Missing []) t.no_params) false (1 ∷ 1 ∷ [])); body = t.Block (t.more_items (t.Statement (t.Return (t.some_expr (t.Dot (t.Dot (t.Name (codes "x") (1 ∷ [])) (codes "t") (1 ∷ 1 ∷ [])) (codes "c") (1 ∷ 1 ∷ []))) (1 ∷ 1 ∷ []))) t.no_items) (1 ∷ 1 ∷ []); lines = [] })) ∷ []; lines = [] })
unfolding layouts_of same_basic holds_const linkage_of clashes with_declaration with_content with_head unit_of landing puts_of constant_of is_null_constant pairing is_assignable check_gives check_chain check_here check_becomes check_look breaks node_rules rule_at same_key specs_type unary_of binary_of assignment_of
members_by_name = refl

-- `struct s { int a; int b; }; int main(void) { struct s x = { 1, 2 }, y[2] = { x, { 3 } }; return y[0].b; }`
block_values : is_fine (record { parts = (t.Declaration (record { specs = (t.more_specs (t.Record false (Some (codes "s")) (t.some_members (t.more_member_decls (t.MemberDecl (t.more_specs (t.Key keyword.Int (1 ∷ [])) t.no_specs) (t.more_member_declarators (t.MemberDeclarator (t.Identifier (codes "a") (1 ∷ [])) t.no_expr (1 ∷ [])) t.no_member_declarators) (1 ∷ [])) (t.more_member_decls (t.MemberDecl (t.more_specs (t.Key keyword.Int (1 ∷ [])) t.no_specs) (t.more_member_declarators (t.MemberDeclarator (t.Identifier (codes "b") (1 ∷ [])) t.no_expr (1 ∷ [])) t.no_member_declarators) (1 ∷ [])) t.no_member_decls))) (1 ∷ 1 ∷ 1 ∷ [])) t.no_specs); list = []; lines = (1 ∷ []) })) ∷ (t.Defined (record { specs = (t.more_specs (t.Key keyword.Int (1 ∷ [])) t.no_specs); declarator = (t.Function (t.Identifier (codes "main") (1 ∷ [])) (t.more_params (t.Param (t.more_specs (t.Key keyword.Void (1 ∷ [])) t.no_specs) t.Missing []) t.no_params) false (1 ∷ 1 ∷ [])); body = t.Block (t.more_items (t.Declared (record { specs = (t.more_specs (t.Record false (Some (codes "s")) t.no_members (1 ∷ 1 ∷ [])) t.no_specs); list = record { declarator = (t.Identifier (codes "x") (1 ∷ [])); init = (Some (t.Braced (t.InitialiserList (t.more_entries (t.Entry t.no_designators (t.Single (t.Number 1 ty0.Int (1 ∷ []))) []) (t.more_entries (t.Entry t.no_designators (t.Single (t.Number 2 ty0.Int (1 ∷ []))) []) t.no_entries)) false (1 ∷ 1 ∷ [])))); lines = [] } ∷ []; lines = (1 ∷ []) })) (t.more_items (t.Declared (record { specs = (t.more_specs (t.Record false (Some (codes "s")) t.no_members (1 ∷ 1 ∷ [])) t.no_specs); list = record { declarator = (t.Array (t.Identifier (codes "y") (1 ∷ [])) (t.Length [] (t.Number 2 ty0.Int (1 ∷ []))) (1 ∷ 1 ∷ [])); init = (Some (t.Braced (t.InitialiserList (t.more_entries (t.Entry t.no_designators (t.Single (t.Name (codes "x") (1 ∷ []))) []) (t.more_entries (t.Entry t.no_designators (t.Braced (t.InitialiserList (t.more_entries (t.Entry t.no_designators (t.Single (t.Number 3 ty0.Int (1 ∷ []))) []) t.no_entries) false (1 ∷ 1 ∷ []))) []) t.no_entries)) false (1 ∷ 1 ∷ [])))); lines = [] } ∷ []; lines = (1 ∷ []) })) (t.more_items (t.Statement (t.Return (t.some_expr (t.Dot (t.Index (t.Name (codes "y") (1 ∷ [])) (t.Number 0 ty0.Int (1 ∷ [])) (1 ∷ 1 ∷ [])) (codes "b") (1 ∷ 1 ∷ []))) (1 ∷ 1 ∷ []))) t.no_items))) (1 ∷ 1 ∷ []); lines = [] })) ∷ []; lines = [] })
unfolding layouts_of same_basic holds_const linkage_of clashes with_declaration with_content with_head unit_of landing puts_of constant_of is_null_constant pairing is_assignable check_gives check_chain check_here check_becomes check_look breaks node_rules rule_at same_key specs_type unary_of binary_of assignment_of
block_values = refl

-- `int *p = (int[]){ 1, 2 }; int main(void) { return *p; }`
literal_outside : is_fine (record { parts = (t.Declaration (record { specs = (t.more_specs (t.Key keyword.Int (1 ∷ [])) t.no_specs); list = record { declarator = (t.Pointer [] (t.Identifier (codes "p") (1 ∷ [])) (1 ∷ [])); init = (Some (t.Single (t.Literal (t.TypeName (t.more_specs (t.Key keyword.Int (1 ∷ [])) t.no_specs) (t.Array t.Missing (t.Unsized []) (1 ∷ 1 ∷ [])) []) (t.InitialiserList (t.more_entries (t.Entry t.no_designators (t.Single (t.Number 1 ty0.Int (1 ∷ []))) []) (t.more_entries (t.Entry t.no_designators (t.Single (t.Number 2 ty0.Int (1 ∷ []))) []) t.no_entries)) false (1 ∷ 1 ∷ [])) (1 ∷ 1 ∷ [])))); lines = [] } ∷ []; lines = (1 ∷ []) })) ∷ (t.Defined (record { specs = (t.more_specs (t.Key keyword.Int (1 ∷ [])) t.no_specs); declarator = (t.Function (t.Identifier (codes "main") (1 ∷ [])) (t.more_params (t.Param (t.more_specs (t.Key keyword.Void (1 ∷ [])) t.no_specs) t.Missing []) t.no_params) false (1 ∷ 1 ∷ [])); body = t.Block (t.more_items (t.Statement (t.Return (t.some_expr (t.Unary punct.Star (t.Name (codes "p") (1 ∷ [])) (1 ∷ []))) (1 ∷ 1 ∷ []))) t.no_items) (1 ∷ 1 ∷ []); lines = [] })) ∷ []; lines = [] })
unfolding layouts_of same_basic holds_const linkage_of clashes with_declaration with_content with_head unit_of landing puts_of constant_of is_null_constant pairing is_assignable check_gives check_chain check_here check_becomes check_look breaks node_rules rule_at same_key specs_type unary_of binary_of assignment_of
literal_outside = refl

-- Statements

-- `int main(void) { break; return 0; }`
break_outside : is_refused (record { parts = (t.Defined (record { specs = (t.more_specs (t.Key keyword.Int (1 ∷ [])) t.no_specs); declarator = (t.Function (t.Identifier (codes "main") (1 ∷ [])) (t.more_params (t.Param (t.more_specs (t.Key keyword.Void (1 ∷ [])) t.no_specs) t.Missing []) t.no_params) false (1 ∷ 1 ∷ [])); body = t.Block (t.more_items (t.Statement (t.Break (1 ∷ 1 ∷ []))) (t.more_items (t.Statement (t.Return (t.some_expr (t.Number 0 ty0.Int (1 ∷ []))) (1 ∷ 1 ∷ []))) t.no_items)) (1 ∷ 1 ∷ []); lines = [] })) ∷ []; lines = [] }) rule.K18 1
unfolding layouts_of same_basic holds_const linkage_of clashes with_declaration with_content with_head unit_of landing puts_of constant_of is_null_constant pairing is_assignable check_gives check_chain check_here check_becomes check_look breaks node_rules rule_at same_key specs_type unary_of binary_of assignment_of
break_outside = refl

-- `int main(void) { switch (1) { case 1: continue; } return 0; }`
continue_in_switch : is_refused (record { parts = (t.Defined (record { specs = (t.more_specs (t.Key keyword.Int (1 ∷ [])) t.no_specs); declarator = (t.Function (t.Identifier (codes "main") (1 ∷ [])) (t.more_params (t.Param (t.more_specs (t.Key keyword.Void (1 ∷ [])) t.no_specs) t.Missing []) t.no_params) false (1 ∷ 1 ∷ [])); body = t.Block (t.more_items (t.Statement (t.Switch (t.Number 1 ty0.Int (1 ∷ [])) (t.Block (t.more_items (t.Statement (t.Case (t.Number 1 ty0.Int (1 ∷ [])) (t.Continue (1 ∷ 1 ∷ [])) (1 ∷ 1 ∷ []))) t.no_items) (1 ∷ 1 ∷ [])) (1 ∷ 1 ∷ 1 ∷ []))) (t.more_items (t.Statement (t.Return (t.some_expr (t.Number 0 ty0.Int (1 ∷ []))) (1 ∷ 1 ∷ []))) t.no_items)) (1 ∷ 1 ∷ []); lines = [] })) ∷ []; lines = [] }) rule.K18 1
unfolding layouts_of same_basic holds_const linkage_of clashes with_declaration with_content with_head unit_of landing puts_of constant_of is_null_constant pairing is_assignable check_gives check_chain check_here check_becomes check_look breaks node_rules rule_at same_key specs_type unary_of binary_of assignment_of
continue_in_switch = refl

-- `int main(void) { switch (1) { case 1: case 1: return 0; } return 1; }`
equal_cases : is_refused (record { parts = (t.Defined (record { specs = (t.more_specs (t.Key keyword.Int (1 ∷ [])) t.no_specs); declarator = (t.Function (t.Identifier (codes "main") (1 ∷ [])) (t.more_params (t.Param (t.more_specs (t.Key keyword.Void (1 ∷ [])) t.no_specs) t.Missing []) t.no_params) false (1 ∷ 1 ∷ [])); body = t.Block (t.more_items (t.Statement (t.Switch (t.Number 1 ty0.Int (1 ∷ [])) (t.Block (t.more_items (t.Statement (t.Case (t.Number 1 ty0.Int (1 ∷ [])) (t.ExprStmt t.no_expr (1 ∷ [])) (1 ∷ 1 ∷ []))) (t.more_items (t.Statement (t.Case (t.Number 1 ty0.Int (1 ∷ [])) (t.Return (t.some_expr (t.Number 0 ty0.Int (1 ∷ []))) (1 ∷ 1 ∷ [])) (1 ∷ 1 ∷ []))) t.no_items)) (1 ∷ 1 ∷ [])) (1 ∷ 1 ∷ 1 ∷ []))) (t.more_items (t.Statement (t.Return (t.some_expr (t.Number 1 ty0.Int (1 ∷ []))) (1 ∷ 1 ∷ []))) t.no_items)) (1 ∷ 1 ∷ []); lines = [] })) ∷ []; lines = [] }) rule.K18 1
unfolding layouts_of same_basic holds_const linkage_of clashes with_declaration with_content with_head unit_of landing puts_of constant_of is_null_constant pairing is_assignable check_gives check_chain check_here check_becomes check_look breaks node_rules rule_at same_key specs_type unary_of binary_of assignment_of
equal_cases = refl

-- `int main(void) { switch ((char)1) { case 4294967296: ; case 0: return 0; } return 1; }`
equal_converted : is_refused (record { parts = (t.Defined (record { specs = (t.more_specs (t.Key keyword.Int (1 ∷ [])) t.no_specs); declarator = (t.Function (t.Identifier (codes "main") (1 ∷ [])) (t.more_params (t.Param (t.more_specs (t.Key keyword.Void (1 ∷ [])) t.no_specs) t.Missing []) t.no_params) false (1 ∷ 1 ∷ [])); body = t.Block (t.more_items (t.Statement (t.Switch (t.Cast (t.TypeName (t.more_specs (t.Key keyword.Char (1 ∷ [])) t.no_specs) t.Missing []) (t.Number 1 ty0.Int (1 ∷ [])) (1 ∷ 1 ∷ [])) (t.Block (t.more_items (t.Statement (t.Case (t.Number 4294967296 ty0.Long (2 ∷ [])) (t.ExprStmt t.no_expr (2 ∷ [])) (2 ∷ 2 ∷ []))) (t.more_items (t.Statement (t.Case (t.Number 0 ty0.Int (2 ∷ [])) (t.Return (t.some_expr (t.Number 0 ty0.Int (2 ∷ []))) (2 ∷ 2 ∷ [])) (2 ∷ 2 ∷ []))) t.no_items)) (1 ∷ 1 ∷ [])) (1 ∷ 1 ∷ 1 ∷ []))) (t.more_items (t.Statement (t.Return (t.some_expr (t.Number 1 ty0.Int (2 ∷ []))) (2 ∷ 2 ∷ []))) t.no_items)) (1 ∷ 1 ∷ []); lines = [] })) ∷ []; lines = [] }) rule.K18 2
unfolding layouts_of same_basic holds_const linkage_of clashes with_declaration with_content with_head unit_of landing puts_of constant_of is_null_constant pairing is_assignable check_gives check_chain check_here check_becomes check_look breaks node_rules rule_at same_key specs_type unary_of binary_of assignment_of
equal_converted = refl

-- `int main(void) { int n = 1; switch (1) { case n: return 0; } return 1; }`
case_not_constant : is_refused (record { parts = (t.Defined (record { specs = (t.more_specs (t.Key keyword.Int (1 ∷ [])) t.no_specs); declarator = (t.Function (t.Identifier (codes "main") (1 ∷ [])) (t.more_params (t.Param (t.more_specs (t.Key keyword.Void (1 ∷ [])) t.no_specs) t.Missing []) t.no_params) false (1 ∷ 1 ∷ [])); body = t.Block (t.more_items (t.Declared (record { specs = (t.more_specs (t.Key keyword.Int (1 ∷ [])) t.no_specs); list = record { declarator = (t.Identifier (codes "n") (1 ∷ [])); init = (Some (t.Single (t.Number 1 ty0.Int (1 ∷ [])))); lines = [] } ∷ []; lines = (1 ∷ []) })) (t.more_items (t.Statement (t.Switch (t.Number 1 ty0.Int (1 ∷ [])) (t.Block (t.more_items (t.Statement (t.Case (t.Name (codes "n") (1 ∷ [])) (t.Return (t.some_expr (t.Number 0 ty0.Int (1 ∷ []))) (1 ∷ 1 ∷ [])) (1 ∷ 1 ∷ []))) t.no_items) (1 ∷ 1 ∷ [])) (1 ∷ 1 ∷ 1 ∷ []))) (t.more_items (t.Statement (t.Return (t.some_expr (t.Number 1 ty0.Int (1 ∷ []))) (1 ∷ 1 ∷ []))) t.no_items))) (1 ∷ 1 ∷ []); lines = [] })) ∷ []; lines = [] }) rule.K17 1
unfolding layouts_of same_basic holds_const linkage_of clashes with_declaration with_content with_head unit_of landing puts_of constant_of is_null_constant pairing is_assignable check_gives check_chain check_here check_becomes check_look breaks node_rules rule_at same_key specs_type unary_of binary_of assignment_of
case_not_constant = refl

-- `int main(void) { switch (1) { default: ; default: ; } return 1; }`
two_defaults : is_refused (record { parts = (t.Defined (record { specs = (t.more_specs (t.Key keyword.Int (1 ∷ [])) t.no_specs); declarator = (t.Function (t.Identifier (codes "main") (1 ∷ [])) (t.more_params (t.Param (t.more_specs (t.Key keyword.Void (1 ∷ [])) t.no_specs) t.Missing []) t.no_params) false (1 ∷ 1 ∷ [])); body = t.Block (t.more_items (t.Statement (t.Switch (t.Number 1 ty0.Int (1 ∷ [])) (t.Block (t.more_items (t.Statement (t.Default (t.ExprStmt t.no_expr (1 ∷ [])) (1 ∷ 1 ∷ []))) (t.more_items (t.Statement (t.Default (t.ExprStmt t.no_expr (1 ∷ [])) (1 ∷ 1 ∷ []))) t.no_items)) (1 ∷ 1 ∷ [])) (1 ∷ 1 ∷ 1 ∷ []))) (t.more_items (t.Statement (t.Return (t.some_expr (t.Number 1 ty0.Int (1 ∷ []))) (1 ∷ 1 ∷ []))) t.no_items)) (1 ∷ 1 ∷ []); lines = [] })) ∷ []; lines = [] }) rule.K18 1
unfolding layouts_of same_basic holds_const linkage_of clashes with_declaration with_content with_head unit_of landing puts_of constant_of is_null_constant pairing is_assignable check_gives check_chain check_here check_becomes check_look breaks node_rules rule_at same_key specs_type unary_of binary_of assignment_of
two_defaults = refl

-- `int main(void) { int *p = 0; switch (p) { default: ; } return 1; }`
switch_on_pointer : is_refused (record { parts = (t.Defined (record { specs = (t.more_specs (t.Key keyword.Int (1 ∷ [])) t.no_specs); declarator = (t.Function (t.Identifier (codes "main") (1 ∷ [])) (t.more_params (t.Param (t.more_specs (t.Key keyword.Void (1 ∷ [])) t.no_specs) t.Missing []) t.no_params) false (1 ∷ 1 ∷ [])); body = t.Block (t.more_items (t.Declared (record { specs = (t.more_specs (t.Key keyword.Int (1 ∷ [])) t.no_specs); list = record { declarator = (t.Pointer [] (t.Identifier (codes "p") (1 ∷ [])) (1 ∷ [])); init = (Some (t.Single (t.Number 0 ty0.Int (1 ∷ [])))); lines = [] } ∷ []; lines = (1 ∷ []) })) (t.more_items (t.Statement (t.Switch (t.Name (codes "p") (1 ∷ [])) (t.Block (t.more_items (t.Statement (t.Default (t.ExprStmt t.no_expr (1 ∷ [])) (1 ∷ 1 ∷ []))) t.no_items) (1 ∷ 1 ∷ [])) (1 ∷ 1 ∷ 1 ∷ []))) (t.more_items (t.Statement (t.Return (t.some_expr (t.Number 1 ty0.Int (1 ∷ []))) (1 ∷ 1 ∷ []))) t.no_items))) (1 ∷ 1 ∷ []); lines = [] })) ∷ []; lines = [] }) rule.K18 1
unfolding layouts_of same_basic holds_const linkage_of clashes with_declaration with_content with_head unit_of landing puts_of constant_of is_null_constant pairing is_assignable check_gives check_chain check_here check_becomes check_look breaks node_rules rule_at same_key specs_type unary_of binary_of assignment_of
switch_on_pointer = refl

-- `struct s { int a; }; int main(void) { struct s x; if (x) return 0; return 1; }`
if_on_struct : is_refused (record { parts = (t.Declaration (record { specs = (t.more_specs (t.Record false (Some (codes "s")) (t.some_members (t.more_member_decls (t.MemberDecl (t.more_specs (t.Key keyword.Int (1 ∷ [])) t.no_specs) (t.more_member_declarators (t.MemberDeclarator (t.Identifier (codes "a") (1 ∷ [])) t.no_expr (1 ∷ [])) t.no_member_declarators) (1 ∷ [])) t.no_member_decls)) (1 ∷ 1 ∷ 1 ∷ [])) t.no_specs); list = []; lines = (1 ∷ []) })) ∷ (t.Defined (record { specs = (t.more_specs (t.Key keyword.Int (1 ∷ [])) t.no_specs); declarator = (t.Function (t.Identifier (codes "main") (1 ∷ [])) (t.more_params (t.Param (t.more_specs (t.Key keyword.Void (1 ∷ [])) t.no_specs) t.Missing []) t.no_params) false (1 ∷ 1 ∷ [])); body = t.Block (t.more_items (t.Declared (record { specs = (t.more_specs (t.Record false (Some (codes "s")) t.no_members (1 ∷ 1 ∷ [])) t.no_specs); list = record { declarator = (t.Identifier (codes "x") (1 ∷ [])); init = None; lines = [] } ∷ []; lines = (1 ∷ []) })) (t.more_items (t.Statement (t.If (t.Name (codes "x") (1 ∷ [])) (t.Return (t.some_expr (t.Number 0 ty0.Int (1 ∷ []))) (1 ∷ 1 ∷ [])) t.no_stmt (1 ∷ 1 ∷ 1 ∷ 1 ∷ []))) (t.more_items (t.Statement (t.Return (t.some_expr (t.Number 1 ty0.Int (1 ∷ []))) (1 ∷ 1 ∷ []))) t.no_items))) (1 ∷ 1 ∷ []); lines = [] })) ∷ []; lines = [] }) rule.K18 1
unfolding layouts_of same_basic holds_const linkage_of clashes with_declaration with_content with_head unit_of landing puts_of constant_of is_null_constant pairing is_assignable check_gives check_chain check_here check_becomes check_look breaks node_rules rule_at same_key specs_type unary_of binary_of assignment_of
if_on_struct = refl

-- `int main(void) { a: ; a: ; return 0; }`
label_twice : is_refused (record { parts = (t.Defined (record { specs = (t.more_specs (t.Key keyword.Int (1 ∷ [])) t.no_specs); declarator = (t.Function (t.Identifier (codes "main") (1 ∷ [])) (t.more_params (t.Param (t.more_specs (t.Key keyword.Void (1 ∷ [])) t.no_specs) t.Missing []) t.no_params) false (1 ∷ 1 ∷ [])); body = t.Block (t.more_items (t.Statement (t.Label (codes "a") (t.ExprStmt t.no_expr (1 ∷ [])) (1 ∷ 1 ∷ []))) (t.more_items (t.Statement (t.Label (codes "a") (t.ExprStmt t.no_expr (1 ∷ [])) (1 ∷ 1 ∷ []))) (t.more_items (t.Statement (t.Return (t.some_expr (t.Number 0 ty0.Int (1 ∷ []))) (1 ∷ 1 ∷ []))) t.no_items))) (1 ∷ 1 ∷ []); lines = [] })) ∷ []; lines = [] }) rule.K19 1
unfolding layouts_of same_basic holds_const linkage_of clashes with_declaration with_content with_head unit_of landing puts_of constant_of is_null_constant pairing is_assignable check_gives check_chain check_here check_becomes check_look breaks node_rules rule_at same_key specs_type unary_of binary_of assignment_of
label_twice = refl

-- `int main(void) { goto a; return 0; }`
goto_none : is_refused (record { parts = (t.Defined (record { specs = (t.more_specs (t.Key keyword.Int (1 ∷ [])) t.no_specs); declarator = (t.Function (t.Identifier (codes "main") (1 ∷ [])) (t.more_params (t.Param (t.more_specs (t.Key keyword.Void (1 ∷ [])) t.no_specs) t.Missing []) t.no_params) false (1 ∷ 1 ∷ [])); body = t.Block (t.more_items (t.Statement (t.Goto (codes "a") (1 ∷ 1 ∷ 1 ∷ []))) (t.more_items (t.Statement (t.Return (t.some_expr (t.Number 0 ty0.Int (1 ∷ []))) (1 ∷ 1 ∷ []))) t.no_items)) (1 ∷ 1 ∷ []); lines = [] })) ∷ []; lines = [] }) rule.K19 1
unfolding layouts_of same_basic holds_const linkage_of clashes with_declaration with_content with_head unit_of landing puts_of constant_of is_null_constant pairing is_assignable check_gives check_chain check_here check_becomes check_look breaks node_rules rule_at same_key specs_type unary_of binary_of assignment_of
goto_none = refl

-- `int main(void) { goto a; a: return 0; }`
goto_forward : is_fine (record { parts = (t.Defined (record { specs = (t.more_specs (t.Key keyword.Int (1 ∷ [])) t.no_specs); declarator = (t.Function (t.Identifier (codes "main") (1 ∷ [])) (t.more_params (t.Param (t.more_specs (t.Key keyword.Void (1 ∷ [])) t.no_specs) t.Missing []) t.no_params) false (1 ∷ 1 ∷ [])); body = t.Block (t.more_items (t.Statement (t.Goto (codes "a") (1 ∷ 1 ∷ 1 ∷ []))) (t.more_items (t.Statement (t.Label (codes "a") (t.Return (t.some_expr (t.Number 0 ty0.Int (1 ∷ []))) (1 ∷ 1 ∷ [])) (1 ∷ 1 ∷ []))) t.no_items)) (1 ∷ 1 ∷ []); lines = [] })) ∷ []; lines = [] })
unfolding layouts_of same_basic holds_const linkage_of clashes with_declaration with_content with_head unit_of landing puts_of constant_of is_null_constant pairing is_assignable check_gives check_chain check_here check_becomes check_look breaks node_rules rule_at same_key specs_type unary_of binary_of assignment_of
goto_forward = refl

-- `int f(void) { a: return 0; } int main(void) { goto a; return 0; }`
goto_other_function : is_refused (record { parts = (t.Defined (record { specs = (t.more_specs (t.Key keyword.Int (1 ∷ [])) t.no_specs); declarator = (t.Function (t.Identifier (codes "f") (1 ∷ [])) (t.more_params (t.Param (t.more_specs (t.Key keyword.Void (1 ∷ [])) t.no_specs) t.Missing []) t.no_params) false (1 ∷ 1 ∷ [])); body = t.Block (t.more_items (t.Statement (t.Label (codes "a") (t.Return (t.some_expr (t.Number 0 ty0.Int (1 ∷ []))) (1 ∷ 1 ∷ [])) (1 ∷ 1 ∷ []))) t.no_items) (1 ∷ 1 ∷ []); lines = [] })) ∷ (t.Defined (record { specs = (t.more_specs (t.Key keyword.Int (1 ∷ [])) t.no_specs); declarator = (t.Function (t.Identifier (codes "main") (1 ∷ [])) (t.more_params (t.Param (t.more_specs (t.Key keyword.Void (1 ∷ [])) t.no_specs) t.Missing []) t.no_params) false (1 ∷ 1 ∷ [])); body = t.Block (t.more_items (t.Statement (t.Goto (codes "a") (1 ∷ 1 ∷ 1 ∷ []))) (t.more_items (t.Statement (t.Return (t.some_expr (t.Number 0 ty0.Int (1 ∷ []))) (1 ∷ 1 ∷ []))) t.no_items)) (1 ∷ 1 ∷ []); lines = [] })) ∷ []; lines = [] }) rule.K19 1
unfolding layouts_of same_basic holds_const linkage_of clashes with_declaration with_content with_head unit_of landing puts_of constant_of is_null_constant pairing is_assignable check_gives check_chain check_here check_becomes check_look breaks node_rules rule_at same_key specs_type unary_of binary_of assignment_of
goto_other_function = refl

-- `int f(void) { a: return 0; } int main(void) { a: return 0; }`: the scope of a label is its function (6.2.1p3)
label_in_two_functions : is_fine (record { parts = (t.Defined (record { specs = (t.more_specs (t.Key keyword.Int (1 ∷ [])) t.no_specs); declarator = (t.Function (t.Identifier (codes "f") (1 ∷ [])) (t.more_params (t.Param (t.more_specs (t.Key keyword.Void (1 ∷ [])) t.no_specs) t.Missing []) t.no_params) false (1 ∷ 1 ∷ [])); body = t.Block (t.more_items (t.Statement (t.Label (codes "a") (t.Return (t.some_expr (t.Number 0 ty0.Int (1 ∷ []))) (1 ∷ 1 ∷ [])) (1 ∷ 1 ∷ []))) t.no_items) (1 ∷ 1 ∷ []); lines = [] })) ∷ (t.Defined (record { specs = (t.more_specs (t.Key keyword.Int (1 ∷ [])) t.no_specs); declarator = (t.Function (t.Identifier (codes "main") (1 ∷ [])) (t.more_params (t.Param (t.more_specs (t.Key keyword.Void (1 ∷ [])) t.no_specs) t.Missing []) t.no_params) false (1 ∷ 1 ∷ [])); body = t.Block (t.more_items (t.Statement (t.Label (codes "a") (t.Return (t.some_expr (t.Number 0 ty0.Int (1 ∷ []))) (1 ∷ 1 ∷ [])) (1 ∷ 1 ∷ []))) t.no_items) (1 ∷ 1 ∷ []); lines = [] })) ∷ []; lines = [] })
unfolding layouts_of same_basic holds_const linkage_of clashes with_declaration with_content with_head unit_of landing puts_of constant_of is_null_constant pairing is_assignable check_gives check_chain check_here check_becomes check_look breaks node_rules rule_at same_key specs_type unary_of binary_of assignment_of
label_in_two_functions = refl

-- `void f(void) { return 1; } int main(void) { return 0; }`
value_in_void : is_refused (record { parts = (t.Defined (record { specs = (t.more_specs (t.Key keyword.Void (1 ∷ [])) t.no_specs); declarator = (t.Function (t.Identifier (codes "f") (1 ∷ [])) (t.more_params (t.Param (t.more_specs (t.Key keyword.Void (1 ∷ [])) t.no_specs) t.Missing []) t.no_params) false (1 ∷ 1 ∷ [])); body = t.Block (t.more_items (t.Statement (t.Return (t.some_expr (t.Number 1 ty0.Int (1 ∷ []))) (1 ∷ 1 ∷ []))) t.no_items) (1 ∷ 1 ∷ []); lines = [] })) ∷ (t.Defined (record { specs = (t.more_specs (t.Key keyword.Int (1 ∷ [])) t.no_specs); declarator = (t.Function (t.Identifier (codes "main") (1 ∷ [])) (t.more_params (t.Param (t.more_specs (t.Key keyword.Void (1 ∷ [])) t.no_specs) t.Missing []) t.no_params) false (1 ∷ 1 ∷ [])); body = t.Block (t.more_items (t.Statement (t.Return (t.some_expr (t.Number 0 ty0.Int (1 ∷ []))) (1 ∷ 1 ∷ []))) t.no_items) (1 ∷ 1 ∷ []); lines = [] })) ∷ []; lines = [] }) rule.K20 1
unfolding layouts_of same_basic holds_const linkage_of clashes with_declaration with_content with_head unit_of landing puts_of constant_of is_null_constant pairing is_assignable check_gives check_chain check_here check_becomes check_look breaks node_rules rule_at same_key specs_type unary_of binary_of assignment_of
value_in_void = refl

-- `int main(void) { return; }`
no_value : is_refused (record { parts = (t.Defined (record { specs = (t.more_specs (t.Key keyword.Int (1 ∷ [])) t.no_specs); declarator = (t.Function (t.Identifier (codes "main") (1 ∷ [])) (t.more_params (t.Param (t.more_specs (t.Key keyword.Void (1 ∷ [])) t.no_specs) t.Missing []) t.no_params) false (1 ∷ 1 ∷ [])); body = t.Block (t.more_items (t.Statement (t.Return t.no_expr (1 ∷ 1 ∷ []))) t.no_items) (1 ∷ 1 ∷ []); lines = [] })) ∷ []; lines = [] }) rule.K20 1
unfolding layouts_of same_basic holds_const linkage_of clashes with_declaration with_content with_head unit_of landing puts_of constant_of is_null_constant pairing is_assignable check_gives check_chain check_here check_becomes check_look breaks node_rules rule_at same_key specs_type unary_of binary_of assignment_of
no_value = refl

-- `int *f(void) { return 1; } int main(void) { return 0; }`
result_of_other_type : is_refused (record { parts = (t.Defined (record { specs = (t.more_specs (t.Key keyword.Int (1 ∷ [])) t.no_specs); declarator = (t.Pointer [] (t.Function (t.Identifier (codes "f") (1 ∷ [])) (t.more_params (t.Param (t.more_specs (t.Key keyword.Void (1 ∷ [])) t.no_specs) t.Missing []) t.no_params) false (1 ∷ 1 ∷ [])) (1 ∷ [])); body = t.Block (t.more_items (t.Statement (t.Return (t.some_expr (t.Number 1 ty0.Int (1 ∷ []))) (1 ∷ 1 ∷ []))) t.no_items) (1 ∷ 1 ∷ []); lines = [] })) ∷ (t.Defined (record { specs = (t.more_specs (t.Key keyword.Int (1 ∷ [])) t.no_specs); declarator = (t.Function (t.Identifier (codes "main") (1 ∷ [])) (t.more_params (t.Param (t.more_specs (t.Key keyword.Void (1 ∷ [])) t.no_specs) t.Missing []) t.no_params) false (1 ∷ 1 ∷ [])); body = t.Block (t.more_items (t.Statement (t.Return (t.some_expr (t.Number 0 ty0.Int (1 ∷ []))) (1 ∷ 1 ∷ []))) t.no_items) (1 ∷ 1 ∷ []); lines = [] })) ∷ []; lines = [] }) rule.K12 1
unfolding layouts_of same_basic holds_const linkage_of clashes with_declaration with_content with_head unit_of landing puts_of constant_of is_null_constant pairing is_assignable check_gives check_chain check_here check_becomes check_look breaks node_rules rule_at same_key specs_type unary_of binary_of assignment_of
result_of_other_type = refl

-- `int main(void) { int i, s = 0; for (i = 0; i < 4; i++) { if (i == 2) continue; while (s < 9) { s++; break; } do s--; while (s > 3); } for (int j = 0; j < 2; j++) s += j; return s; }`
loops : is_fine (record { parts = (t.Defined (record { specs = (t.more_specs (t.Key keyword.Int (1 ∷ [])) t.no_specs); declarator = (t.Function (t.Identifier (codes "main") (1 ∷ [])) (t.more_params (t.Param (t.more_specs (t.Key keyword.Void (1 ∷ [])) t.no_specs) t.Missing []) t.no_params) false (1 ∷ 1 ∷ [])); body = t.Block (t.more_items (t.Declared (record { specs = (t.more_specs (t.Key keyword.Int (1 ∷ [])) t.no_specs); list = record { declarator = (t.Identifier (codes "i") (1 ∷ [])); init = None; lines = [] } ∷ []; lines = (1 ∷ []) })) (t.more_items (t.Declared (record { specs = (t.more_specs (t.Key keyword.Int (1 ∷ [])) t.no_specs); list = record { declarator = (t.Identifier (codes "s") (1 ∷ [])); init = (Some (t.Single (t.Number 0 ty0.Int (1 ∷ [])))); lines = [] } ∷ []; lines = (1 ∷ []) })) (t.more_items (t.Statement (t.For (t.FirstValue (t.some_expr (t.Assign (t.Name (codes "i") (1 ∷ [])) punct.Equal (t.Number 0 ty0.Int (1 ∷ [])) (1 ∷ [])))) (t.some_expr (t.Binary (t.Name (codes "i") (1 ∷ [])) punct.Less (t.Number 4 ty0.Int (1 ∷ [])) (1 ∷ []))) (t.some_expr (t.PostUp (t.Name (codes "i") (1 ∷ [])) (1 ∷ []))) (t.Block (t.more_items (t.Statement (t.If (t.Binary (t.Name (codes "i") (1 ∷ [])) punct.EqualEqual (t.Number 2 ty0.Int (1 ∷ [])) (1 ∷ [])) (t.Continue (1 ∷ 1 ∷ [])) t.no_stmt (1 ∷ 1 ∷ 1 ∷ 1 ∷ []))) (t.more_items (t.Statement (t.While (t.Binary (t.Name (codes "s") (1 ∷ [])) punct.Less (t.Number 9 ty0.Int (1 ∷ [])) (1 ∷ [])) (t.Block (t.more_items (t.Statement (t.ExprStmt (t.some_expr (t.PostUp (t.Name (codes "s") (1 ∷ [])) (1 ∷ []))) (1 ∷ []))) (t.more_items (t.Statement (t.Break (1 ∷ 1 ∷ []))) t.no_items)) (1 ∷ 1 ∷ [])) (1 ∷ 1 ∷ 1 ∷ []))) (t.more_items (t.Statement (t.Do (t.ExprStmt (t.some_expr (t.PostDown (t.Name (codes "s") (1 ∷ [])) (1 ∷ []))) (1 ∷ [])) (t.Binary (t.Name (codes "s") (1 ∷ [])) punct.Greater (t.Number 3 ty0.Int (1 ∷ [])) (1 ∷ [])) (1 ∷ 1 ∷ 1 ∷ 1 ∷ 1 ∷ []))) t.no_items))) (1 ∷ 1 ∷ [])) (1 ∷ 1 ∷ 1 ∷ 1 ∷ 1 ∷ []))) (t.more_items (t.Statement (t.For (t.FirstDeclared (record { specs = (t.more_specs (t.Key keyword.Int (1 ∷ [])) t.no_specs); list = record { declarator = (t.Identifier (codes "j") (1 ∷ [])); init = (Some (t.Single (t.Number 0 ty0.Int (1 ∷ [])))); lines = [] } ∷ []; lines = (1 ∷ []) })) (t.some_expr (t.Binary (t.Name (codes "j") (1 ∷ [])) punct.Less (t.Number 2 ty0.Int (1 ∷ [])) (1 ∷ []))) (t.some_expr (t.PostUp (t.Name (codes "j") (1 ∷ [])) (1 ∷ []))) (t.ExprStmt (t.some_expr (t.Assign (t.Name (codes "s") (1 ∷ [])) punct.PlusEqual (t.Name (codes "j") (1 ∷ [])) (1 ∷ []))) (1 ∷ [])) (1 ∷ 1 ∷ 1 ∷ 1 ∷ 1 ∷ []))) (t.more_items (t.Statement (t.Return (t.some_expr (t.Name (codes "s") (1 ∷ []))) (1 ∷ 1 ∷ []))) t.no_items))))) (1 ∷ 1 ∷ []); lines = [] })) ∷ []; lines = [] })
unfolding layouts_of same_basic holds_const linkage_of clashes with_declaration with_content with_head unit_of landing puts_of constant_of is_null_constant pairing is_assignable check_gives check_chain check_here check_becomes check_look breaks node_rules rule_at same_key specs_type unary_of binary_of assignment_of
loops = refl

-- `int main(void) { return (enum { A = 3 })A - A; }`
enumerator_in_cast : is_fine (record { parts = (t.Defined (record { specs = (t.more_specs (t.Key keyword.Int (1 ∷ [])) t.no_specs); declarator = (t.Function (t.Identifier (codes "main") (1 ∷ [])) (t.more_params (t.Param (t.more_specs (t.Key keyword.Void (1 ∷ [])) t.no_specs) t.Missing []) t.no_params) false (1 ∷ 1 ∷ [])); body = t.Block (t.more_items (t.Statement (t.Return (t.some_expr (t.Binary (t.Cast (t.TypeName (t.more_specs (t.Enum None (t.some_enumerator_list (t.more_enumerators (t.Enumerator (codes "A") (t.some_expr (t.Number 3 ty0.Int (1 ∷ []))) (1 ∷ [])) t.no_enumerators)) false (1 ∷ 1 ∷ 1 ∷ [])) t.no_specs) t.Missing []) (t.Name (codes "A") (1 ∷ [])) (1 ∷ 1 ∷ [])) punct.Minus (t.Name (codes "A") (1 ∷ [])) (1 ∷ []))) (1 ∷ 1 ∷ []))) t.no_items) (1 ∷ 1 ∷ []); lines = [] })) ∷ []; lines = [] })
unfolding layouts_of same_basic holds_const linkage_of clashes with_declaration with_content with_head unit_of landing puts_of constant_of is_null_constant pairing is_assignable check_gives check_chain check_here check_becomes check_look breaks node_rules rule_at same_key specs_type unary_of binary_of assignment_of
enumerator_in_cast = refl

-- Orders, scopes and types

-- `int main(void) { return a + b; }`
left_first : is_refused (record { parts = (t.Defined (record { specs = (t.more_specs (t.Key keyword.Int (1 ∷ [])) t.no_specs); declarator = (t.Function (t.Identifier (codes "main") (1 ∷ [])) (t.more_params (t.Param (t.more_specs (t.Key keyword.Void (1 ∷ [])) t.no_specs) t.Missing []) t.no_params) false (1 ∷ 1 ∷ [])); body = t.Block (t.more_items (t.Statement (t.Return (t.some_expr (t.Binary (t.Name (codes "a") (2 ∷ [])) punct.Plus (t.Name (codes "b") (3 ∷ [])) (2 ∷ []))) (1 ∷ 1 ∷ []))) t.no_items) (1 ∷ 1 ∷ []); lines = [] })) ∷ []; lines = [] }) rule.K1 2
unfolding layouts_of same_basic holds_const linkage_of clashes with_declaration with_content with_head unit_of landing puts_of constant_of is_null_constant pairing is_assignable check_gives check_chain check_here check_becomes check_look breaks node_rules rule_at same_key specs_type unary_of binary_of assignment_of
left_first = refl

-- `int main(void) { { int x; } return x; }`
scope_ends : is_refused (record { parts = (t.Defined (record { specs = (t.more_specs (t.Key keyword.Int (1 ∷ [])) t.no_specs); declarator = (t.Function (t.Identifier (codes "main") (1 ∷ [])) (t.more_params (t.Param (t.more_specs (t.Key keyword.Void (1 ∷ [])) t.no_specs) t.Missing []) t.no_params) false (1 ∷ 1 ∷ [])); body = t.Block (t.more_items (t.Statement (t.Block (t.more_items (t.Declared (record { specs = (t.more_specs (t.Key keyword.Int (1 ∷ [])) t.no_specs); list = record { declarator = (t.Identifier (codes "x") (1 ∷ [])); init = None; lines = [] } ∷ []; lines = (1 ∷ []) })) t.no_items) (1 ∷ 1 ∷ []))) (t.more_items (t.Statement (t.Return (t.some_expr (t.Name (codes "x") (1 ∷ []))) (1 ∷ 1 ∷ []))) t.no_items)) (1 ∷ 1 ∷ []); lines = [] })) ∷ []; lines = [] }) rule.K1 1
unfolding layouts_of same_basic holds_const linkage_of clashes with_declaration with_content with_head unit_of landing puts_of constant_of is_null_constant pairing is_assignable check_gives check_chain check_here check_becomes check_look breaks node_rules rule_at same_key specs_type unary_of binary_of assignment_of
scope_ends = refl

-- `int main(void) { int x = 1, *p = &x; return *(1 ? p : 0); }`
null_choice : is_fine (record { parts = (t.Defined (record { specs = (t.more_specs (t.Key keyword.Int (1 ∷ [])) t.no_specs); declarator = (t.Function (t.Identifier (codes "main") (1 ∷ [])) (t.more_params (t.Param (t.more_specs (t.Key keyword.Void (1 ∷ [])) t.no_specs) t.Missing []) t.no_params) false (1 ∷ 1 ∷ [])); body = t.Block (t.more_items (t.Declared (record { specs = (t.more_specs (t.Key keyword.Int (1 ∷ [])) t.no_specs); list = record { declarator = (t.Identifier (codes "x") (1 ∷ [])); init = (Some (t.Single (t.Number 1 ty0.Int (1 ∷ [])))); lines = [] } ∷ []; lines = (1 ∷ []) })) (t.more_items (t.Declared (record { specs = (t.more_specs (t.Key keyword.Int (1 ∷ [])) t.no_specs); list = record { declarator = (t.Pointer [] (t.Identifier (codes "p") (1 ∷ [])) (1 ∷ [])); init = (Some (t.Single (t.Unary punct.Ampersand (t.Name (codes "x") (1 ∷ [])) (1 ∷ [])))); lines = [] } ∷ []; lines = (1 ∷ []) })) (t.more_items (t.Statement (t.Return (t.some_expr (t.Unary punct.Star (t.Cond (t.Number 1 ty0.Int (1 ∷ [])) (t.Name (codes "p") (1 ∷ [])) (t.Number 0 ty0.Int (1 ∷ [])) (1 ∷ 1 ∷ [])) (1 ∷ []))) (1 ∷ 1 ∷ []))) t.no_items))) (1 ∷ 1 ∷ []); lines = [] })) ∷ []; lines = [] })
unfolding layouts_of same_basic holds_const linkage_of clashes with_declaration with_content with_head unit_of landing puts_of constant_of is_null_constant pairing is_assignable check_gives check_chain check_here check_becomes check_look breaks node_rules rule_at same_key specs_type unary_of binary_of assignment_of
null_choice = refl

-- `int main(void) { int x = 1, *p = &x; return *(0 ? 0 : p); }`
null_choice_left : is_fine (record { parts = (t.Defined (record { specs = (t.more_specs (t.Key keyword.Int (1 ∷ [])) t.no_specs); declarator = (t.Function (t.Identifier (codes "main") (1 ∷ [])) (t.more_params (t.Param (t.more_specs (t.Key keyword.Void (1 ∷ [])) t.no_specs) t.Missing []) t.no_params) false (1 ∷ 1 ∷ [])); body = t.Block (t.more_items (t.Declared (record { specs = (t.more_specs (t.Key keyword.Int (1 ∷ [])) t.no_specs); list = record { declarator = (t.Identifier (codes "x") (1 ∷ [])); init = (Some (t.Single (t.Number 1 ty0.Int (1 ∷ [])))); lines = [] } ∷ []; lines = (1 ∷ []) })) (t.more_items (t.Declared (record { specs = (t.more_specs (t.Key keyword.Int (1 ∷ [])) t.no_specs); list = record { declarator = (t.Pointer [] (t.Identifier (codes "p") (1 ∷ [])) (1 ∷ [])); init = (Some (t.Single (t.Unary punct.Ampersand (t.Name (codes "x") (1 ∷ [])) (1 ∷ [])))); lines = [] } ∷ []; lines = (1 ∷ []) })) (t.more_items (t.Statement (t.Return (t.some_expr (t.Unary punct.Star (t.Cond (t.Number 0 ty0.Int (1 ∷ [])) (t.Number 0 ty0.Int (1 ∷ [])) (t.Name (codes "p") (1 ∷ [])) (1 ∷ 1 ∷ [])) (1 ∷ []))) (1 ∷ 1 ∷ []))) t.no_items))) (1 ∷ 1 ∷ []); lines = [] })) ∷ []; lines = [] })
unfolding layouts_of same_basic holds_const linkage_of clashes with_declaration with_content with_head unit_of landing puts_of constant_of is_null_constant pairing is_assignable check_gives check_chain check_here check_becomes check_look breaks node_rules rule_at same_key specs_type unary_of binary_of assignment_of
null_choice_left = refl

-- `char a[(-1 < 0u) ? -1 : 1]; int main(void) { return 0; }`
unsigned_comparison : is_fine (record { parts = (t.Declaration (record { specs = (t.more_specs (t.Key keyword.Char (1 ∷ [])) t.no_specs); list = record { declarator = (t.Array (t.Identifier (codes "a") (1 ∷ [])) (t.Length [] (t.Cond (t.Binary (t.Unary punct.Minus (t.Number 1 ty0.Int (1 ∷ [])) (1 ∷ [])) punct.Less (t.Number 0 ty0.Unsigned (1 ∷ [])) (1 ∷ [])) (t.Unary punct.Minus (t.Number 1 ty0.Int (1 ∷ [])) (1 ∷ [])) (t.Number 1 ty0.Int (1 ∷ [])) (1 ∷ 1 ∷ []))) (1 ∷ 1 ∷ [])); init = None; lines = [] } ∷ []; lines = (1 ∷ []) })) ∷ (t.Defined (record { specs = (t.more_specs (t.Key keyword.Int (1 ∷ [])) t.no_specs); declarator = (t.Function (t.Identifier (codes "main") (1 ∷ [])) (t.more_params (t.Param (t.more_specs (t.Key keyword.Void (1 ∷ [])) t.no_specs) t.Missing []) t.no_params) false (1 ∷ 1 ∷ [])); body = t.Block (t.more_items (t.Statement (t.Return (t.some_expr (t.Number 0 ty0.Int (1 ∷ []))) (1 ∷ 1 ∷ []))) t.no_items) (1 ∷ 1 ∷ []); lines = [] })) ∷ []; lines = [] })
unfolding layouts_of same_basic holds_const linkage_of clashes with_declaration with_content with_head unit_of landing puts_of constant_of is_null_constant pairing is_assignable check_gives check_chain check_here check_becomes check_look breaks node_rules rule_at same_key specs_type unary_of binary_of assignment_of
unsigned_comparison = refl

-- `char a[(1 ? -1 : 0u) == 4294967295 ? 1 : -1]; int main(void) { return 0; }`
constant_conditional : is_fine (record { parts = (t.Declaration (record { specs = (t.more_specs (t.Key keyword.Char (1 ∷ [])) t.no_specs); list = record { declarator = (t.Array (t.Identifier (codes "a") (1 ∷ [])) (t.Length [] (t.Cond (t.Binary (t.Cond (t.Number 1 ty0.Int (1 ∷ [])) (t.Unary punct.Minus (t.Number 1 ty0.Int (1 ∷ [])) (1 ∷ [])) (t.Number 0 ty0.Unsigned (1 ∷ [])) (1 ∷ 1 ∷ [])) punct.EqualEqual (t.Number 4294967295 ty0.Long (1 ∷ [])) (1 ∷ [])) (t.Number 1 ty0.Int (1 ∷ [])) (t.Unary punct.Minus (t.Number 1 ty0.Int (1 ∷ [])) (1 ∷ [])) (1 ∷ 1 ∷ []))) (1 ∷ 1 ∷ [])); init = None; lines = [] } ∷ []; lines = (1 ∷ []) })) ∷ (t.Defined (record { specs = (t.more_specs (t.Key keyword.Int (1 ∷ [])) t.no_specs); declarator = (t.Function (t.Identifier (codes "main") (1 ∷ [])) (t.more_params (t.Param (t.more_specs (t.Key keyword.Void (1 ∷ [])) t.no_specs) t.Missing []) t.no_params) false (1 ∷ 1 ∷ [])); body = t.Block (t.more_items (t.Statement (t.Return (t.some_expr (t.Number 0 ty0.Int (1 ∷ []))) (1 ∷ 1 ∷ []))) t.no_items) (1 ∷ 1 ∷ []); lines = [] })) ∷ []; lines = [] })
unfolding layouts_of same_basic holds_const linkage_of clashes with_declaration with_content with_head unit_of landing puts_of constant_of is_null_constant pairing is_assignable check_gives check_chain check_here check_becomes check_look breaks node_rules rule_at same_key specs_type unary_of binary_of assignment_of
constant_conditional = refl

-- `enum e { A = 1 << 31 }; int main(void) { return 0; }`
shift_into_sign : is_refused (record { parts = (t.Declaration (record { specs = (t.more_specs (t.Enum (Some (codes "e")) (t.some_enumerator_list (t.more_enumerators (t.Enumerator (codes "A") (t.some_expr (t.Binary (t.Number 1 ty0.Int (1 ∷ [])) punct.ShiftLeft (t.Number 31 ty0.Int (1 ∷ [])) (1 ∷ []))) (1 ∷ [])) t.no_enumerators)) false (1 ∷ 1 ∷ 1 ∷ [])) t.no_specs); list = []; lines = (1 ∷ []) })) ∷ (t.Defined (record { specs = (t.more_specs (t.Key keyword.Int (1 ∷ [])) t.no_specs); declarator = (t.Function (t.Identifier (codes "main") (1 ∷ [])) (t.more_params (t.Param (t.more_specs (t.Key keyword.Void (1 ∷ [])) t.no_specs) t.Missing []) t.no_params) false (1 ∷ 1 ∷ [])); body = t.Block (t.more_items (t.Statement (t.Return (t.some_expr (t.Number 0 ty0.Int (1 ∷ []))) (1 ∷ 1 ∷ []))) t.no_items) (1 ∷ 1 ∷ []); lines = [] })) ∷ []; lines = [] }) rule.K17 1
unfolding layouts_of same_basic holds_const linkage_of clashes with_declaration with_content with_head unit_of landing puts_of constant_of is_null_constant pairing is_assignable check_gives check_chain check_here check_becomes check_look breaks node_rules rule_at same_key specs_type unary_of binary_of assignment_of
shift_into_sign = refl

-- `enum e { A = 1 / 0 }; int main(void) { return 0; }`
division_by_zero : is_refused (record { parts = (t.Declaration (record { specs = (t.more_specs (t.Enum (Some (codes "e")) (t.some_enumerator_list (t.more_enumerators (t.Enumerator (codes "A") (t.some_expr (t.Binary (t.Number 1 ty0.Int (1 ∷ [])) punct.Slash (t.Number 0 ty0.Int (1 ∷ [])) (1 ∷ []))) (1 ∷ [])) t.no_enumerators)) false (1 ∷ 1 ∷ 1 ∷ [])) t.no_specs); list = []; lines = (1 ∷ []) })) ∷ (t.Defined (record { specs = (t.more_specs (t.Key keyword.Int (1 ∷ [])) t.no_specs); declarator = (t.Function (t.Identifier (codes "main") (1 ∷ [])) (t.more_params (t.Param (t.more_specs (t.Key keyword.Void (1 ∷ [])) t.no_specs) t.Missing []) t.no_params) false (1 ∷ 1 ∷ [])); body = t.Block (t.more_items (t.Statement (t.Return (t.some_expr (t.Number 0 ty0.Int (1 ∷ []))) (1 ∷ 1 ∷ []))) t.no_items) (1 ∷ 1 ∷ []); lines = [] })) ∷ []; lines = [] }) rule.K17 1
unfolding layouts_of same_basic holds_const linkage_of clashes with_declaration with_content with_head unit_of landing puts_of constant_of is_null_constant pairing is_assignable check_gives check_chain check_here check_becomes check_look breaks node_rules rule_at same_key specs_type unary_of binary_of assignment_of
division_by_zero = refl

-- `enum e { A = 0 && 1 / 0, B = 1 || 1 / 0, C = 1 ? 3 : 1 / 0 }; int main(void) { return C; }`
unevaluated_division : is_fine (record { parts = (t.Declaration (record { specs = (t.more_specs (t.Enum (Some (codes "e")) (t.some_enumerator_list (t.more_enumerators (t.Enumerator (codes "A") (t.some_expr (t.Binary (t.Number 0 ty0.Int (1 ∷ [])) punct.AndAnd (t.Binary (t.Number 1 ty0.Int (1 ∷ [])) punct.Slash (t.Number 0 ty0.Int (1 ∷ [])) (1 ∷ [])) (1 ∷ []))) (1 ∷ [])) (t.more_enumerators (t.Enumerator (codes "B") (t.some_expr (t.Binary (t.Number 1 ty0.Int (1 ∷ [])) punct.BarBar (t.Binary (t.Number 1 ty0.Int (1 ∷ [])) punct.Slash (t.Number 0 ty0.Int (1 ∷ [])) (1 ∷ [])) (1 ∷ []))) (1 ∷ [])) (t.more_enumerators (t.Enumerator (codes "C") (t.some_expr (t.Cond (t.Number 1 ty0.Int (1 ∷ [])) (t.Number 3 ty0.Int (1 ∷ [])) (t.Binary (t.Number 1 ty0.Int (1 ∷ [])) punct.Slash (t.Number 0 ty0.Int (1 ∷ [])) (1 ∷ [])) (1 ∷ 1 ∷ []))) (1 ∷ [])) t.no_enumerators)))) false (1 ∷ 1 ∷ 1 ∷ [])) t.no_specs); list = []; lines = (1 ∷ []) })) ∷ (t.Defined (record { specs = (t.more_specs (t.Key keyword.Int (1 ∷ [])) t.no_specs); declarator = (t.Function (t.Identifier (codes "main") (1 ∷ [])) (t.more_params (t.Param (t.more_specs (t.Key keyword.Void (1 ∷ [])) t.no_specs) t.Missing []) t.no_params) false (1 ∷ 1 ∷ [])); body = t.Block (t.more_items (t.Statement (t.Return (t.some_expr (t.Name (codes "C") (1 ∷ []))) (1 ∷ 1 ∷ []))) t.no_items) (1 ∷ 1 ∷ []); lines = [] })) ∷ []; lines = [] })
unfolding layouts_of same_basic holds_const linkage_of clashes with_declaration with_content with_head unit_of landing puts_of constant_of is_null_constant pairing is_assignable check_gives check_chain check_here check_becomes check_look breaks node_rules rule_at same_key specs_type unary_of binary_of assignment_of
unevaluated_division = refl

-- `char a[(char)200 == -56 ? 1 : -1]; int main(void) { return 0; }`
char_wraps : is_fine (record { parts = (t.Declaration (record { specs = (t.more_specs (t.Key keyword.Char (1 ∷ [])) t.no_specs); list = record { declarator = (t.Array (t.Identifier (codes "a") (1 ∷ [])) (t.Length [] (t.Cond (t.Binary (t.Cast (t.TypeName (t.more_specs (t.Key keyword.Char (1 ∷ [])) t.no_specs) t.Missing []) (t.Number 200 ty0.Int (1 ∷ [])) (1 ∷ 1 ∷ [])) punct.EqualEqual (t.Unary punct.Minus (t.Number 56 ty0.Int (1 ∷ [])) (1 ∷ [])) (1 ∷ [])) (t.Number 1 ty0.Int (1 ∷ [])) (t.Unary punct.Minus (t.Number 1 ty0.Int (1 ∷ [])) (1 ∷ [])) (1 ∷ 1 ∷ []))) (1 ∷ 1 ∷ [])); init = None; lines = [] } ∷ []; lines = (1 ∷ []) })) ∷ (t.Defined (record { specs = (t.more_specs (t.Key keyword.Int (1 ∷ [])) t.no_specs); declarator = (t.Function (t.Identifier (codes "main") (1 ∷ [])) (t.more_params (t.Param (t.more_specs (t.Key keyword.Void (1 ∷ [])) t.no_specs) t.Missing []) t.no_params) false (1 ∷ 1 ∷ [])); body = t.Block (t.more_items (t.Statement (t.Return (t.some_expr (t.Number 0 ty0.Int (1 ∷ []))) (1 ∷ 1 ∷ []))) t.no_items) (1 ∷ 1 ∷ []); lines = [] })) ∷ []; lines = [] })
unfolding layouts_of same_basic holds_const linkage_of clashes with_declaration with_content with_head unit_of landing puts_of constant_of is_null_constant pairing is_assignable check_gives check_chain check_here check_becomes check_look breaks node_rules rule_at same_key specs_type unary_of binary_of assignment_of
char_wraps = refl

-- `struct s { char a; int b:3; int c:30; unsigned :0; char d; }; char a[sizeof(struct s) == 12 ? 1 : -1]; int main(void) { return 0; }`
record_size : is_fine (record { parts = (t.Declaration (record { specs = (t.more_specs (t.Record false (Some (codes "s")) (t.some_members (t.more_member_decls (t.MemberDecl (t.more_specs (t.Key keyword.Char (1 ∷ [])) t.no_specs) (t.more_member_declarators (t.MemberDeclarator (t.Identifier (codes "a") (1 ∷ [])) t.no_expr (1 ∷ [])) t.no_member_declarators) (1 ∷ [])) (t.more_member_decls (t.MemberDecl (t.more_specs (t.Key keyword.Int (1 ∷ [])) t.no_specs) (t.more_member_declarators (t.MemberDeclarator (t.Identifier (codes "b") (1 ∷ [])) (t.some_expr (t.Number 3 ty0.Int (1 ∷ []))) (1 ∷ [])) t.no_member_declarators) (1 ∷ [])) (t.more_member_decls (t.MemberDecl (t.more_specs (t.Key keyword.Int (1 ∷ [])) t.no_specs) (t.more_member_declarators (t.MemberDeclarator (t.Identifier (codes "c") (1 ∷ [])) (t.some_expr (t.Number 30 ty0.Int (1 ∷ []))) (1 ∷ [])) t.no_member_declarators) (1 ∷ [])) (t.more_member_decls (t.MemberDecl (t.more_specs (t.Key keyword.Unsigned (1 ∷ [])) t.no_specs) (t.more_member_declarators (t.MemberDeclarator t.Missing (t.some_expr (t.Number 0 ty0.Int (1 ∷ []))) (1 ∷ [])) t.no_member_declarators) (1 ∷ [])) (t.more_member_decls (t.MemberDecl (t.more_specs (t.Key keyword.Char (1 ∷ [])) t.no_specs) (t.more_member_declarators (t.MemberDeclarator (t.Identifier (codes "d") (1 ∷ [])) t.no_expr (1 ∷ [])) t.no_member_declarators) (1 ∷ [])) t.no_member_decls)))))) (1 ∷ 1 ∷ 1 ∷ [])) t.no_specs); list = []; lines = (1 ∷ []) })) ∷ (t.Declaration (record { specs = (t.more_specs (t.Key keyword.Char (1 ∷ [])) t.no_specs); list = record { declarator = (t.Array (t.Identifier (codes "a") (1 ∷ [])) (t.Length [] (t.Cond (t.Binary (t.SizeofType (t.TypeName (t.more_specs (t.Record false (Some (codes "s")) t.no_members (1 ∷ 1 ∷ [])) t.no_specs) t.Missing []) (1 ∷ 1 ∷ 1 ∷ [])) punct.EqualEqual (t.Number 12 ty0.Int (1 ∷ [])) (1 ∷ [])) (t.Number 1 ty0.Int (1 ∷ [])) (t.Unary punct.Minus (t.Number 1 ty0.Int (1 ∷ [])) (1 ∷ [])) (1 ∷ 1 ∷ []))) (1 ∷ 1 ∷ [])); init = None; lines = [] } ∷ []; lines = (1 ∷ []) })) ∷ (t.Defined (record { specs = (t.more_specs (t.Key keyword.Int (1 ∷ [])) t.no_specs); declarator = (t.Function (t.Identifier (codes "main") (1 ∷ [])) (t.more_params (t.Param (t.more_specs (t.Key keyword.Void (1 ∷ [])) t.no_specs) t.Missing []) t.no_params) false (1 ∷ 1 ∷ [])); body = t.Block (t.more_items (t.Statement (t.Return (t.some_expr (t.Number 0 ty0.Int (1 ∷ []))) (1 ∷ 1 ∷ []))) t.no_items) (1 ∷ 1 ∷ []); lines = [] })) ∷ []; lines = [] })
unfolding layouts_of same_basic holds_const linkage_of clashes with_declaration with_content with_head unit_of landing puts_of constant_of is_null_constant pairing is_assignable check_gives check_chain check_here check_becomes check_look breaks node_rules rule_at same_key specs_type unary_of binary_of assignment_of
record_size = refl
