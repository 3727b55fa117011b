-- Worked units for declarations, scopes and statements: each breaks the rule that is named, at its line, or none.
use Rattle.std.specs.Prelude.{true, false, [], ◌∷◌, None, Some, codes}
use mathlib.Core.Path.{refl}
use Rattle.cr_base.specs.declared.rule.Rule.TheVariants as rule
use Rattle.cx_lex.specs.declared.token.Keyword.TheVariants as keyword
use Rattle.cx_lex.specs.declared.token.Punct.TheVariants as punct
use Rattle.cx_lex.specs.declared.token.Ty0.TheVariants as ty0
use Rattle.cx_tree.specs.Trees as t
use Rattle.cx_tree.specs.Trees.{UnitTree}
use Rattle.cx_core.specs.Layouts.{layouts_of}
use Rattle.cx_core.specs.Conversions.{same_basic}
use Rattle.cx_core.specs.ValidTypes.{holds_const}
use Rattle.cx_rules.specs.Declare.{linkage_of, clashes, with_declaration, with_content, with_head, unit_of}
use Rattle.cx_rules.specs.Initial.{landing, puts_of}
use Rattle.cx_rules.specs.Operands.{constant_of, is_null_constant}
use Rattle.cx_rules.specs.Pairs.{pairing, is_assignable}
use Rattle.cx_rules.specs.Readings.{check_gives, check_chain, check_here, check_becomes, check_look}
use Rattle.cx_rules.specs.Rules.{breaks, node_rules, rule_at}
use Rattle.cx_rules.specs.Shapes.{same_key, specs_type}
use Rattle.cx_rules.specs.Pieces.{unary_of, binary_of, assignment_of}
use Rattle.cx_rules.proofs.Worked.{is_refused, is_fine}

-- Storage classes, linkage and scopes

-- `static extern int x;`
two_storage : is_refused (record { parts = (t.Declaration (record { specs = (t.more_specs (t.Key keyword.Static (1 ∷ [])) (t.more_specs (t.Key keyword.Extern (1 ∷ [])) (t.more_specs (t.Key keyword.Int (1 ∷ [])) t.no_specs))); list = record { declarator = (t.Identifier (codes "x") (1 ∷ [])); init = None; lines = [] } ∷ []; lines = (1 ∷ []) })) ∷ []; lines = [] }) rule.K4 1
unfolding layouts_of same_basic holds_const linkage_of clashes with_declaration with_content with_head unit_of landing puts_of constant_of is_null_constant pairing is_assignable check_gives check_chain check_here check_becomes check_look breaks node_rules rule_at same_key specs_type unary_of binary_of assignment_of
two_storage = refl

-- `register int x;`
register_outside : is_refused (record { parts = (t.Declaration (record { specs = (t.more_specs (t.Key keyword.Register (1 ∷ [])) (t.more_specs (t.Key keyword.Int (1 ∷ [])) t.no_specs)); list = record { declarator = (t.Identifier (codes "x") (1 ∷ [])); init = None; lines = [] } ∷ []; lines = (1 ∷ []) })) ∷ []; lines = [] }) rule.K4 1
unfolding layouts_of same_basic holds_const linkage_of clashes with_declaration with_content with_head unit_of landing puts_of constant_of is_null_constant pairing is_assignable check_gives check_chain check_here check_becomes check_look breaks node_rules rule_at same_key specs_type unary_of binary_of assignment_of
register_outside = refl

-- `int f(static int x);`
static_parameter : is_refused (record { parts = (t.Declaration (record { specs = (t.more_specs (t.Key keyword.Int (1 ∷ [])) t.no_specs); list = record { declarator = (t.Function (t.Identifier (codes "f") (1 ∷ [])) (t.more_params (t.Param (t.more_specs (t.Key keyword.Static (1 ∷ [])) (t.more_specs (t.Key keyword.Int (1 ∷ [])) t.no_specs)) (t.Identifier (codes "x") (1 ∷ [])) []) t.no_params) false (1 ∷ 1 ∷ [])); init = None; lines = [] } ∷ []; lines = (1 ∷ []) })) ∷ []; lines = [] }) rule.K4 1
unfolding layouts_of same_basic holds_const linkage_of clashes with_declaration with_content with_head unit_of landing puts_of constant_of is_null_constant pairing is_assignable check_gives check_chain check_here check_becomes check_look breaks node_rules rule_at same_key specs_type unary_of binary_of assignment_of
static_parameter = refl

-- `int f(register int x) { return x; }`
register_parameter : is_fine (record { parts = (t.Defined (record { specs = (t.more_specs (t.Key keyword.Int (1 ∷ [])) t.no_specs); declarator = (t.Function (t.Identifier (codes "f") (1 ∷ [])) (t.more_params (t.Param (t.more_specs (t.Key keyword.Register (1 ∷ [])) (t.more_specs (t.Key keyword.Int (1 ∷ [])) t.no_specs)) (t.Identifier (codes "x") (1 ∷ [])) []) t.no_params) false (1 ∷ 1 ∷ [])); body = t.Block (t.more_items (t.Statement (t.Return (t.some_expr (t.Name (codes "x") (1 ∷ []))) (1 ∷ 1 ∷ []))) t.no_items) (1 ∷ 1 ∷ []); lines = [] })) ∷ []; lines = [] })
unfolding layouts_of same_basic holds_const linkage_of clashes with_declaration with_content with_head unit_of landing puts_of constant_of is_null_constant pairing is_assignable check_gives check_chain check_here check_becomes check_look breaks node_rules rule_at same_key specs_type unary_of binary_of assignment_of
register_parameter = refl

-- `int main(void) { static int f(void); return 0; }`
static_function_in_block : is_refused (record { parts = (t.Defined (record { specs = (t.more_specs (t.Key keyword.Int (1 ∷ [])) t.no_specs); declarator = (t.Function (t.Identifier (codes "main") (1 ∷ [])) (t.more_params (t.Param (t.more_specs (t.Key keyword.Void (1 ∷ [])) t.no_specs) t.Missing []) t.no_params) false (1 ∷ 1 ∷ [])); body = t.Block (t.more_items (t.Declared (record { specs = (t.more_specs (t.Key keyword.Static (1 ∷ [])) (t.more_specs (t.Key keyword.Int (1 ∷ [])) t.no_specs)); list = record { declarator = (t.Function (t.Identifier (codes "f") (1 ∷ [])) (t.more_params (t.Param (t.more_specs (t.Key keyword.Void (1 ∷ [])) t.no_specs) t.Missing []) t.no_params) false (1 ∷ 1 ∷ [])); init = None; lines = [] } ∷ []; lines = (1 ∷ []) })) (t.more_items (t.Statement (t.Return (t.some_expr (t.Number 0 ty0.Int (1 ∷ []))) (1 ∷ 1 ∷ []))) t.no_items)) (1 ∷ 1 ∷ []); lines = [] })) ∷ []; lines = [] }) rule.K4 1
unfolding layouts_of same_basic holds_const linkage_of clashes with_declaration with_content with_head unit_of landing puts_of constant_of is_null_constant pairing is_assignable check_gives check_chain check_here check_becomes check_look breaks node_rules rule_at same_key specs_type unary_of binary_of assignment_of
static_function_in_block = refl

-- `int main(void) { extern int f(void); int g(void); return 0; }`
extern_function_in_block : is_fine (record { parts = (t.Defined (record { specs = (t.more_specs (t.Key keyword.Int (1 ∷ [])) t.no_specs); declarator = (t.Function (t.Identifier (codes "main") (1 ∷ [])) (t.more_params (t.Param (t.more_specs (t.Key keyword.Void (1 ∷ [])) t.no_specs) t.Missing []) t.no_params) false (1 ∷ 1 ∷ [])); body = t.Block (t.more_items (t.Declared (record { specs = (t.more_specs (t.Key keyword.Extern (1 ∷ [])) (t.more_specs (t.Key keyword.Int (1 ∷ [])) t.no_specs)); list = record { declarator = (t.Function (t.Identifier (codes "f") (1 ∷ [])) (t.more_params (t.Param (t.more_specs (t.Key keyword.Void (1 ∷ [])) t.no_specs) t.Missing []) t.no_params) false (1 ∷ 1 ∷ [])); init = None; lines = [] } ∷ []; lines = (1 ∷ []) })) (t.more_items (t.Declared (record { specs = (t.more_specs (t.Key keyword.Int (1 ∷ [])) t.no_specs); list = record { declarator = (t.Function (t.Identifier (codes "g") (1 ∷ [])) (t.more_params (t.Param (t.more_specs (t.Key keyword.Void (1 ∷ [])) t.no_specs) t.Missing []) t.no_params) false (1 ∷ 1 ∷ [])); init = None; lines = [] } ∷ []; lines = (1 ∷ []) })) (t.more_items (t.Statement (t.Return (t.some_expr (t.Number 0 ty0.Int (1 ∷ []))) (1 ∷ 1 ∷ []))) t.no_items))) (1 ∷ 1 ∷ []); lines = [] })) ∷ []; lines = [] })
unfolding layouts_of same_basic holds_const linkage_of clashes with_declaration with_content with_head unit_of landing puts_of constant_of is_null_constant pairing is_assignable check_gives check_chain check_here check_becomes check_look breaks node_rules rule_at same_key specs_type unary_of binary_of assignment_of
extern_function_in_block = refl

-- `int main(void) { for (static int i = 0;;) ; return 0; }`
static_in_for : is_refused (record { parts = (t.Defined (record { specs = (t.more_specs (t.Key keyword.Int (1 ∷ [])) t.no_specs); declarator = (t.Function (t.Identifier (codes "main") (1 ∷ [])) (t.more_params (t.Param (t.more_specs (t.Key keyword.Void (1 ∷ [])) t.no_specs) t.Missing []) t.no_params) false (1 ∷ 1 ∷ [])); body = t.Block (t.more_items (t.Statement (t.For (t.FirstDeclared (record { specs = (t.more_specs (t.Key keyword.Static (1 ∷ [])) (t.more_specs (t.Key keyword.Int (1 ∷ [])) t.no_specs)); list = record { declarator = (t.Identifier (codes "i") (1 ∷ [])); init = (Some (t.Single (t.Number 0 ty0.Int (1 ∷ [])))); lines = [] } ∷ []; lines = (1 ∷ []) })) t.no_expr t.no_expr (t.ExprStmt t.no_expr (1 ∷ [])) (1 ∷ 1 ∷ 1 ∷ 1 ∷ 1 ∷ []))) (t.more_items (t.Statement (t.Return (t.some_expr (t.Number 0 ty0.Int (1 ∷ []))) (1 ∷ 1 ∷ []))) t.no_items)) (1 ∷ 1 ∷ []); lines = [] })) ∷ []; lines = [] }) rule.K4 1
unfolding layouts_of same_basic holds_const linkage_of clashes with_declaration with_content with_head unit_of landing puts_of constant_of is_null_constant pairing is_assignable check_gives check_chain check_here check_becomes check_look breaks node_rules rule_at same_key specs_type unary_of binary_of assignment_of
static_in_for = refl

-- `int main(void) { for (register int i = 0; i < 1; i++) ; return 0; }`
register_in_for : is_fine (record { parts = (t.Defined (record { specs = (t.more_specs (t.Key keyword.Int (1 ∷ [])) t.no_specs); declarator = (t.Function (t.Identifier (codes "main") (1 ∷ [])) (t.more_params (t.Param (t.more_specs (t.Key keyword.Void (1 ∷ [])) t.no_specs) t.Missing []) t.no_params) false (1 ∷ 1 ∷ [])); body = t.Block (t.more_items (t.Statement (t.For (t.FirstDeclared (record { specs = (t.more_specs (t.Key keyword.Register (1 ∷ [])) (t.more_specs (t.Key keyword.Int (1 ∷ [])) t.no_specs)); list = record { declarator = (t.Identifier (codes "i") (1 ∷ [])); init = (Some (t.Single (t.Number 0 ty0.Int (1 ∷ [])))); lines = [] } ∷ []; lines = (1 ∷ []) })) (t.some_expr (t.Binary (t.Name (codes "i") (1 ∷ [])) punct.Less (t.Number 1 ty0.Int (1 ∷ [])) (1 ∷ []))) (t.some_expr (t.PostUp (t.Name (codes "i") (1 ∷ [])) (1 ∷ []))) (t.ExprStmt t.no_expr (1 ∷ [])) (1 ∷ 1 ∷ 1 ∷ 1 ∷ 1 ∷ []))) (t.more_items (t.Statement (t.Return (t.some_expr (t.Number 0 ty0.Int (1 ∷ []))) (1 ∷ 1 ∷ []))) t.no_items)) (1 ∷ 1 ∷ []); lines = [] })) ∷ []; lines = [] })
unfolding layouts_of same_basic holds_const linkage_of clashes with_declaration with_content with_head unit_of landing puts_of constant_of is_null_constant pairing is_assignable check_gives check_chain check_here check_becomes check_look breaks node_rules rule_at same_key specs_type unary_of binary_of assignment_of
register_in_for = refl

-- `register int f(void) { return 0; }`
register_definition : is_refused (record { parts = (t.Defined (record { specs = (t.more_specs (t.Key keyword.Register (1 ∷ [])) (t.more_specs (t.Key keyword.Int (1 ∷ [])) t.no_specs)); declarator = (t.Function (t.Identifier (codes "f") (1 ∷ [])) (t.more_params (t.Param (t.more_specs (t.Key keyword.Void (1 ∷ [])) t.no_specs) t.Missing []) t.no_params) false (1 ∷ 1 ∷ [])); body = t.Block (t.more_items (t.Statement (t.Return (t.some_expr (t.Number 0 ty0.Int (1 ∷ []))) (1 ∷ 1 ∷ []))) t.no_items) (1 ∷ 1 ∷ []); lines = [] })) ∷ []; lines = [] }) rule.K4 1
unfolding layouts_of same_basic holds_const linkage_of clashes with_declaration with_content with_head unit_of landing puts_of constant_of is_null_constant pairing is_assignable check_gives check_chain check_here check_becomes check_look breaks node_rules rule_at same_key specs_type unary_of binary_of assignment_of
register_definition = refl

-- `static int f(void) { return 0; } int main(void) { return f(); }`
static_definition : is_fine (record { parts = (t.Defined (record { specs = (t.more_specs (t.Key keyword.Static (1 ∷ [])) (t.more_specs (t.Key keyword.Int (1 ∷ [])) t.no_specs)); declarator = (t.Function (t.Identifier (codes "f") (1 ∷ [])) (t.more_params (t.Param (t.more_specs (t.Key keyword.Void (1 ∷ [])) t.no_specs) t.Missing []) t.no_params) false (1 ∷ 1 ∷ [])); body = t.Block (t.more_items (t.Statement (t.Return (t.some_expr (t.Number 0 ty0.Int (1 ∷ []))) (1 ∷ 1 ∷ []))) t.no_items) (1 ∷ 1 ∷ []); lines = [] })) ∷ (t.Defined (record { specs = (t.more_specs (t.Key keyword.Int (1 ∷ [])) t.no_specs); declarator = (t.Function (t.Identifier (codes "main") (1 ∷ [])) (t.more_params (t.Param (t.more_specs (t.Key keyword.Void (1 ∷ [])) t.no_specs) t.Missing []) t.no_params) false (1 ∷ 1 ∷ [])); body = t.Block (t.more_items (t.Statement (t.Return (t.some_expr (t.Call (t.Name (codes "f") (1 ∷ [])) t.no_exprs (1 ∷ 1 ∷ []))) (1 ∷ 1 ∷ []))) t.no_items) (1 ∷ 1 ∷ []); lines = [] })) ∷ []; lines = [] })
unfolding layouts_of same_basic holds_const linkage_of clashes with_declaration with_content with_head unit_of landing puts_of constant_of is_null_constant pairing is_assignable check_gives check_chain check_here check_becomes check_look breaks node_rules rule_at same_key specs_type unary_of binary_of assignment_of
static_definition = refl

-- `static inline int x;`
inline_object : is_refused (record { parts = (t.Declaration (record { specs = (t.more_specs (t.Key keyword.Static (1 ∷ [])) (t.more_specs (t.Key keyword.Inline (1 ∷ [])) (t.more_specs (t.Key keyword.Int (1 ∷ [])) t.no_specs))); list = record { declarator = (t.Identifier (codes "x") (1 ∷ [])); init = None; lines = [] } ∷ []; lines = (1 ∷ []) })) ∷ []; lines = [] }) rule.K4 1
unfolding layouts_of same_basic holds_const linkage_of clashes with_declaration with_content with_head unit_of landing puts_of constant_of is_null_constant pairing is_assignable check_gives check_chain check_here check_becomes check_look breaks node_rules rule_at same_key specs_type unary_of binary_of assignment_of
inline_object = refl

-- `inline int f(void);`
inline_alone : is_refused (record { parts = (t.Declaration (record { specs = (t.more_specs (t.Key keyword.Inline (1 ∷ [])) (t.more_specs (t.Key keyword.Int (1 ∷ [])) t.no_specs)); list = record { declarator = (t.Function (t.Identifier (codes "f") (1 ∷ [])) (t.more_params (t.Param (t.more_specs (t.Key keyword.Void (1 ∷ [])) t.no_specs) t.Missing []) t.no_params) false (1 ∷ 1 ∷ [])); init = None; lines = [] } ∷ []; lines = (1 ∷ []) })) ∷ []; lines = [] }) rule.O9 1
unfolding layouts_of same_basic holds_const linkage_of clashes with_declaration with_content with_head unit_of landing puts_of constant_of is_null_constant pairing is_assignable check_gives check_chain check_here check_becomes check_look breaks node_rules rule_at same_key specs_type unary_of binary_of assignment_of
inline_alone = refl

-- `extern inline int f(void);`
inline_extern : is_refused (record { parts = (t.Declaration (record { specs = (t.more_specs (t.Key keyword.Extern (1 ∷ [])) (t.more_specs (t.Key keyword.Inline (1 ∷ [])) (t.more_specs (t.Key keyword.Int (1 ∷ [])) t.no_specs))); list = record { declarator = (t.Function (t.Identifier (codes "f") (1 ∷ [])) (t.more_params (t.Param (t.more_specs (t.Key keyword.Void (1 ∷ [])) t.no_specs) t.Missing []) t.no_params) false (1 ∷ 1 ∷ [])); init = None; lines = [] } ∷ []; lines = (1 ∷ []) })) ∷ []; lines = [] }) rule.O9 1
unfolding layouts_of same_basic holds_const linkage_of clashes with_declaration with_content with_head unit_of landing puts_of constant_of is_null_constant pairing is_assignable check_gives check_chain check_here check_becomes check_look breaks node_rules rule_at same_key specs_type unary_of binary_of assignment_of
inline_extern = refl

-- `static inline int f(void) { return 0; } int main(void) { return f(); }`
inline_static : is_fine (record { parts = (t.Defined (record { specs = (t.more_specs (t.Key keyword.Static (1 ∷ [])) (t.more_specs (t.Key keyword.Inline (1 ∷ [])) (t.more_specs (t.Key keyword.Int (1 ∷ [])) t.no_specs))); declarator = (t.Function (t.Identifier (codes "f") (1 ∷ [])) (t.more_params (t.Param (t.more_specs (t.Key keyword.Void (1 ∷ [])) t.no_specs) t.Missing []) t.no_params) false (1 ∷ 1 ∷ [])); body = t.Block (t.more_items (t.Statement (t.Return (t.some_expr (t.Number 0 ty0.Int (1 ∷ []))) (1 ∷ 1 ∷ []))) t.no_items) (1 ∷ 1 ∷ []); lines = [] })) ∷ (t.Defined (record { specs = (t.more_specs (t.Key keyword.Int (1 ∷ [])) t.no_specs); declarator = (t.Function (t.Identifier (codes "main") (1 ∷ [])) (t.more_params (t.Param (t.more_specs (t.Key keyword.Void (1 ∷ [])) t.no_specs) t.Missing []) t.no_params) false (1 ∷ 1 ∷ [])); body = t.Block (t.more_items (t.Statement (t.Return (t.some_expr (t.Call (t.Name (codes "f") (1 ∷ [])) t.no_exprs (1 ∷ 1 ∷ []))) (1 ∷ 1 ∷ []))) t.no_items) (1 ∷ 1 ∷ []); lines = [] })) ∷ []; lines = [] })
unfolding layouts_of same_basic holds_const linkage_of clashes with_declaration with_content with_head unit_of landing puts_of constant_of is_null_constant pairing is_assignable check_gives check_chain check_here check_becomes check_look breaks node_rules rule_at same_key specs_type unary_of binary_of assignment_of
inline_static = refl

-- `static inline int x { return 0; }`
inline_body_of_object : is_refused (record { parts = (t.Defined (record { specs = (t.more_specs (t.Key keyword.Static (1 ∷ [])) (t.more_specs (t.Key keyword.Inline (1 ∷ [])) (t.more_specs (t.Key keyword.Int (1 ∷ [])) t.no_specs))); declarator = (t.Identifier (codes "x") (1 ∷ [])); body = t.Block (t.more_items (t.Statement (t.Return (t.some_expr (t.Number 0 ty0.Int (1 ∷ []))) (1 ∷ 1 ∷ []))) t.no_items) (1 ∷ 1 ∷ []); lines = [] })) ∷ []; lines = [] }) rule.K4 1
unfolding layouts_of same_basic holds_const linkage_of clashes with_declaration with_content with_head unit_of landing puts_of constant_of is_null_constant pairing is_assignable check_gives check_chain check_here check_becomes check_look breaks node_rules rule_at same_key specs_type unary_of binary_of assignment_of
inline_body_of_object = refl

-- `static int x; int x;`
static_then_plain : is_refused (record { parts = (t.Declaration (record { specs = (t.more_specs (t.Key keyword.Static (1 ∷ [])) (t.more_specs (t.Key keyword.Int (1 ∷ [])) t.no_specs)); list = record { declarator = (t.Identifier (codes "x") (1 ∷ [])); init = None; lines = [] } ∷ []; lines = (1 ∷ []) })) ∷ (t.Declaration (record { specs = (t.more_specs (t.Key keyword.Int (1 ∷ [])) t.no_specs); list = record { declarator = (t.Identifier (codes "x") (1 ∷ [])); init = None; lines = [] } ∷ []; lines = (1 ∷ []) })) ∷ []; lines = [] }) rule.K2 1
unfolding layouts_of same_basic holds_const linkage_of clashes with_declaration with_content with_head unit_of landing puts_of constant_of is_null_constant pairing is_assignable check_gives check_chain check_here check_becomes check_look breaks node_rules rule_at same_key specs_type unary_of binary_of assignment_of
static_then_plain = refl

-- `static int x; extern int x; int main(void) { return x; }`
static_then_extern : is_fine (record { parts = (t.Declaration (record { specs = (t.more_specs (t.Key keyword.Static (1 ∷ [])) (t.more_specs (t.Key keyword.Int (1 ∷ [])) t.no_specs)); list = record { declarator = (t.Identifier (codes "x") (1 ∷ [])); init = None; lines = [] } ∷ []; lines = (1 ∷ []) })) ∷ (t.Declaration (record { specs = (t.more_specs (t.Key keyword.Extern (1 ∷ [])) (t.more_specs (t.Key keyword.Int (1 ∷ [])) t.no_specs)); list = record { declarator = (t.Identifier (codes "x") (1 ∷ [])); init = None; lines = [] } ∷ []; lines = (1 ∷ []) })) ∷ (t.Defined (record { specs = (t.more_specs (t.Key keyword.Int (1 ∷ [])) t.no_specs); declarator = (t.Function (t.Identifier (codes "main") (1 ∷ [])) (t.more_params (t.Param (t.more_specs (t.Key keyword.Void (1 ∷ [])) t.no_specs) t.Missing []) t.no_params) false (1 ∷ 1 ∷ [])); body = t.Block (t.more_items (t.Statement (t.Return (t.some_expr (t.Name (codes "x") (1 ∷ []))) (1 ∷ 1 ∷ []))) t.no_items) (1 ∷ 1 ∷ []); lines = [] })) ∷ []; lines = [] })
unfolding layouts_of same_basic holds_const linkage_of clashes with_declaration with_content with_head unit_of landing puts_of constant_of is_null_constant pairing is_assignable check_gives check_chain check_here check_becomes check_look breaks node_rules rule_at same_key specs_type unary_of binary_of assignment_of
static_then_extern = refl

-- `extern int x; static int x;`
extern_then_static : is_refused (record { parts = (t.Declaration (record { specs = (t.more_specs (t.Key keyword.Extern (1 ∷ [])) (t.more_specs (t.Key keyword.Int (1 ∷ [])) t.no_specs)); list = record { declarator = (t.Identifier (codes "x") (1 ∷ [])); init = None; lines = [] } ∷ []; lines = (1 ∷ []) })) ∷ (t.Declaration (record { specs = (t.more_specs (t.Key keyword.Static (1 ∷ [])) (t.more_specs (t.Key keyword.Int (1 ∷ [])) t.no_specs)); list = record { declarator = (t.Identifier (codes "x") (1 ∷ [])); init = None; lines = [] } ∷ []; lines = (1 ∷ []) })) ∷ []; lines = [] }) rule.K2 1
unfolding layouts_of same_basic holds_const linkage_of clashes with_declaration with_content with_head unit_of landing puts_of constant_of is_null_constant pairing is_assignable check_gives check_chain check_here check_becomes check_look breaks node_rules rule_at same_key specs_type unary_of binary_of assignment_of
extern_then_static = refl

-- `static int f(void); int f(void) { return 0; } int main(void) { return f(); }`
static_function_then_plain : is_fine (record { parts = (t.Declaration (record { specs = (t.more_specs (t.Key keyword.Static (1 ∷ [])) (t.more_specs (t.Key keyword.Int (1 ∷ [])) t.no_specs)); list = record { declarator = (t.Function (t.Identifier (codes "f") (1 ∷ [])) (t.more_params (t.Param (t.more_specs (t.Key keyword.Void (1 ∷ [])) t.no_specs) t.Missing []) t.no_params) false (1 ∷ 1 ∷ [])); init = None; lines = [] } ∷ []; lines = (1 ∷ []) })) ∷ (t.Defined (record { specs = (t.more_specs (t.Key keyword.Int (1 ∷ [])) t.no_specs); declarator = (t.Function (t.Identifier (codes "f") (1 ∷ [])) (t.more_params (t.Param (t.more_specs (t.Key keyword.Void (1 ∷ [])) t.no_specs) t.Missing []) t.no_params) false (1 ∷ 1 ∷ [])); body = t.Block (t.more_items (t.Statement (t.Return (t.some_expr (t.Number 0 ty0.Int (1 ∷ []))) (1 ∷ 1 ∷ []))) t.no_items) (1 ∷ 1 ∷ []); lines = [] })) ∷ (t.Defined (record { specs = (t.more_specs (t.Key keyword.Int (1 ∷ [])) t.no_specs); declarator = (t.Function (t.Identifier (codes "main") (1 ∷ [])) (t.more_params (t.Param (t.more_specs (t.Key keyword.Void (1 ∷ [])) t.no_specs) t.Missing []) t.no_params) false (1 ∷ 1 ∷ [])); body = t.Block (t.more_items (t.Statement (t.Return (t.some_expr (t.Call (t.Name (codes "f") (1 ∷ [])) t.no_exprs (1 ∷ 1 ∷ []))) (1 ∷ 1 ∷ []))) t.no_items) (1 ∷ 1 ∷ []); lines = [] })) ∷ []; lines = [] })
unfolding layouts_of same_basic holds_const linkage_of clashes with_declaration with_content with_head unit_of landing puts_of constant_of is_null_constant pairing is_assignable check_gives check_chain check_here check_becomes check_look breaks node_rules rule_at same_key specs_type unary_of binary_of assignment_of
static_function_then_plain = refl

-- `int f(void); static int f(void) { return 0; }`
plain_function_then_static : is_refused (record { parts = (t.Declaration (record { specs = (t.more_specs (t.Key keyword.Int (1 ∷ [])) t.no_specs); list = record { declarator = (t.Function (t.Identifier (codes "f") (1 ∷ [])) (t.more_params (t.Param (t.more_specs (t.Key keyword.Void (1 ∷ [])) t.no_specs) t.Missing []) t.no_params) false (1 ∷ 1 ∷ [])); init = None; lines = [] } ∷ []; lines = (1 ∷ []) })) ∷ (t.Defined (record { specs = (t.more_specs (t.Key keyword.Static (1 ∷ [])) (t.more_specs (t.Key keyword.Int (1 ∷ [])) t.no_specs)); declarator = (t.Function (t.Identifier (codes "f") (1 ∷ [])) (t.more_params (t.Param (t.more_specs (t.Key keyword.Void (1 ∷ [])) t.no_specs) t.Missing []) t.no_params) false (1 ∷ 1 ∷ [])); body = t.Block (t.more_items (t.Statement (t.Return (t.some_expr (t.Number 0 ty0.Int (1 ∷ []))) (1 ∷ 1 ∷ []))) t.no_items) (1 ∷ 1 ∷ []); lines = [] })) ∷ []; lines = [] }) rule.K2 1
unfolding layouts_of same_basic holds_const linkage_of clashes with_declaration with_content with_head unit_of landing puts_of constant_of is_null_constant pairing is_assignable check_gives check_chain check_here check_becomes check_look breaks node_rules rule_at same_key specs_type unary_of binary_of assignment_of
plain_function_then_static = refl

-- `int x; int x; int x = 1;`
tentative_twice : is_fine (record { parts = (t.Declaration (record { specs = (t.more_specs (t.Key keyword.Int (1 ∷ [])) t.no_specs); list = record { declarator = (t.Identifier (codes "x") (1 ∷ [])); init = None; lines = [] } ∷ []; lines = (1 ∷ []) })) ∷ (t.Declaration (record { specs = (t.more_specs (t.Key keyword.Int (1 ∷ [])) t.no_specs); list = record { declarator = (t.Identifier (codes "x") (1 ∷ [])); init = None; lines = [] } ∷ []; lines = (1 ∷ []) })) ∷ (t.Declaration (record { specs = (t.more_specs (t.Key keyword.Int (1 ∷ [])) t.no_specs); list = record { declarator = (t.Identifier (codes "x") (1 ∷ [])); init = (Some (t.Single (t.Number 1 ty0.Int (1 ∷ [])))); lines = [] } ∷ []; lines = (1 ∷ []) })) ∷ []; lines = [] })
unfolding layouts_of same_basic holds_const linkage_of clashes with_declaration with_content with_head unit_of landing puts_of constant_of is_null_constant pairing is_assignable check_gives check_chain check_here check_becomes check_look breaks node_rules rule_at same_key specs_type unary_of binary_of assignment_of
tentative_twice = refl

-- `int x = 1; int x = 1;`
defined_twice : is_refused (record { parts = (t.Declaration (record { specs = (t.more_specs (t.Key keyword.Int (1 ∷ [])) t.no_specs); list = record { declarator = (t.Identifier (codes "x") (1 ∷ [])); init = (Some (t.Single (t.Number 1 ty0.Int (1 ∷ [])))); lines = [] } ∷ []; lines = (1 ∷ []) })) ∷ (t.Declaration (record { specs = (t.more_specs (t.Key keyword.Int (1 ∷ [])) t.no_specs); list = record { declarator = (t.Identifier (codes "x") (1 ∷ [])); init = (Some (t.Single (t.Number 1 ty0.Int (1 ∷ [])))); lines = [] } ∷ []; lines = (1 ∷ []) })) ∷ []; lines = [] }) rule.K2 1
unfolding layouts_of same_basic holds_const linkage_of clashes with_declaration with_content with_head unit_of landing puts_of constant_of is_null_constant pairing is_assignable check_gives check_chain check_here check_becomes check_look breaks node_rules rule_at same_key specs_type unary_of binary_of assignment_of
defined_twice = refl

-- `typedef int T; typedef int T;`
typedef_twice : is_refused (record { parts = (t.Declaration (record { specs = (t.more_specs (t.Key keyword.Typedef (1 ∷ [])) (t.more_specs (t.Key keyword.Int (1 ∷ [])) t.no_specs)); list = record { declarator = (t.Identifier (codes "T") (1 ∷ [])); init = None; lines = [] } ∷ []; lines = (1 ∷ []) })) ∷ (t.Declaration (record { specs = (t.more_specs (t.Key keyword.Typedef (1 ∷ [])) (t.more_specs (t.Key keyword.Int (1 ∷ [])) t.no_specs)); list = record { declarator = (t.Identifier (codes "T") (1 ∷ [])); init = None; lines = [] } ∷ []; lines = (1 ∷ []) })) ∷ []; lines = [] }) rule.K2 1
unfolding layouts_of same_basic holds_const linkage_of clashes with_declaration with_content with_head unit_of landing puts_of constant_of is_null_constant pairing is_assignable check_gives check_chain check_here check_becomes check_look breaks node_rules rule_at same_key specs_type unary_of binary_of assignment_of
typedef_twice = refl

-- `int A; enum e { A };`
object_and_enumerator : is_refused (record { parts = (t.Declaration (record { specs = (t.more_specs (t.Key keyword.Int (1 ∷ [])) t.no_specs); list = record { declarator = (t.Identifier (codes "A") (1 ∷ [])); init = None; lines = [] } ∷ []; lines = (1 ∷ []) })) ∷ (t.Declaration (record { specs = (t.more_specs (t.Enum (Some (codes "e")) (t.some_enumerator_list (t.more_enumerators (t.Enumerator (codes "A") t.no_expr (1 ∷ [])) t.no_enumerators)) false (1 ∷ 1 ∷ 1 ∷ [])) t.no_specs); list = []; lines = (1 ∷ []) })) ∷ []; lines = [] }) rule.K2 1
unfolding layouts_of same_basic holds_const linkage_of clashes with_declaration with_content with_head unit_of landing puts_of constant_of is_null_constant pairing is_assignable check_gives check_chain check_here check_becomes check_look breaks node_rules rule_at same_key specs_type unary_of binary_of assignment_of
object_and_enumerator = refl

-- `enum e { A }; int A;`
enumerator_and_object : is_refused (record { parts = (t.Declaration (record { specs = (t.more_specs (t.Enum (Some (codes "e")) (t.some_enumerator_list (t.more_enumerators (t.Enumerator (codes "A") t.no_expr (1 ∷ [])) t.no_enumerators)) false (1 ∷ 1 ∷ 1 ∷ [])) t.no_specs); list = []; lines = (1 ∷ []) })) ∷ (t.Declaration (record { specs = (t.more_specs (t.Key keyword.Int (1 ∷ [])) t.no_specs); list = record { declarator = (t.Identifier (codes "A") (1 ∷ [])); init = None; lines = [] } ∷ []; lines = (1 ∷ []) })) ∷ []; lines = [] }) rule.K2 1
unfolding layouts_of same_basic holds_const linkage_of clashes with_declaration with_content with_head unit_of landing puts_of constant_of is_null_constant pairing is_assignable check_gives check_chain check_here check_becomes check_look breaks node_rules rule_at same_key specs_type unary_of binary_of assignment_of
enumerator_and_object = refl

-- `int f; int f(void);`
object_and_function : is_refused (record { parts = (t.Declaration (record { specs = (t.more_specs (t.Key keyword.Int (1 ∷ [])) t.no_specs); list = record { declarator = (t.Identifier (codes "f") (1 ∷ [])); init = None; lines = [] } ∷ []; lines = (1 ∷ []) })) ∷ (t.Declaration (record { specs = (t.more_specs (t.Key keyword.Int (1 ∷ [])) t.no_specs); list = record { declarator = (t.Function (t.Identifier (codes "f") (1 ∷ [])) (t.more_params (t.Param (t.more_specs (t.Key keyword.Void (1 ∷ [])) t.no_specs) t.Missing []) t.no_params) false (1 ∷ 1 ∷ [])); init = None; lines = [] } ∷ []; lines = (1 ∷ []) })) ∷ []; lines = [] }) rule.K2 1
unfolding layouts_of same_basic holds_const linkage_of clashes with_declaration with_content with_head unit_of landing puts_of constant_of is_null_constant pairing is_assignable check_gives check_chain check_here check_becomes check_look breaks node_rules rule_at same_key specs_type unary_of binary_of assignment_of
object_and_function = refl

-- `int x; unsigned x;`
other_type : is_refused (record { parts = (t.Declaration (record { specs = (t.more_specs (t.Key keyword.Int (1 ∷ [])) t.no_specs); list = record { declarator = (t.Identifier (codes "x") (1 ∷ [])); init = None; lines = [] } ∷ []; lines = (1 ∷ []) })) ∷ (t.Declaration (record { specs = (t.more_specs (t.Key keyword.Unsigned (1 ∷ [])) t.no_specs); list = record { declarator = (t.Identifier (codes "x") (1 ∷ [])); init = None; lines = [] } ∷ []; lines = (1 ∷ []) })) ∷ []; lines = [] }) rule.K2 1
unfolding layouts_of same_basic holds_const linkage_of clashes with_declaration with_content with_head unit_of landing puts_of constant_of is_null_constant pairing is_assignable check_gives check_chain check_here check_becomes check_look breaks node_rules rule_at same_key specs_type unary_of binary_of assignment_of
other_type = refl

-- `int x; const int x;`
other_const : is_refused (record { parts = (t.Declaration (record { specs = (t.more_specs (t.Key keyword.Int (1 ∷ [])) t.no_specs); list = record { declarator = (t.Identifier (codes "x") (1 ∷ [])); init = None; lines = [] } ∷ []; lines = (1 ∷ []) })) ∷ (t.Declaration (record { specs = (t.more_specs (t.Key keyword.Const (1 ∷ [])) (t.more_specs (t.Key keyword.Int (1 ∷ [])) t.no_specs)); list = record { declarator = (t.Identifier (codes "x") (1 ∷ [])); init = None; lines = [] } ∷ []; lines = (1 ∷ []) })) ∷ []; lines = [] }) rule.K2 1
unfolding layouts_of same_basic holds_const linkage_of clashes with_declaration with_content with_head unit_of landing puts_of constant_of is_null_constant pairing is_assignable check_gives check_chain check_here check_becomes check_look breaks node_rules rule_at same_key specs_type unary_of binary_of assignment_of
other_const = refl

-- `int a[2]; int a[3];`
other_length : is_refused (record { parts = (t.Declaration (record { specs = (t.more_specs (t.Key keyword.Int (1 ∷ [])) t.no_specs); list = record { declarator = (t.Array (t.Identifier (codes "a") (1 ∷ [])) (t.Length [] (t.Number 2 ty0.Int (1 ∷ []))) (1 ∷ 1 ∷ [])); init = None; lines = [] } ∷ []; lines = (1 ∷ []) })) ∷ (t.Declaration (record { specs = (t.more_specs (t.Key keyword.Int (1 ∷ [])) t.no_specs); list = record { declarator = (t.Array (t.Identifier (codes "a") (1 ∷ [])) (t.Length [] (t.Number 3 ty0.Int (1 ∷ []))) (1 ∷ 1 ∷ [])); init = None; lines = [] } ∷ []; lines = (1 ∷ []) })) ∷ []; lines = [] }) rule.K2 1
unfolding layouts_of same_basic holds_const linkage_of clashes with_declaration with_content with_head unit_of landing puts_of constant_of is_null_constant pairing is_assignable check_gives check_chain check_here check_becomes check_look breaks node_rules rule_at same_key specs_type unary_of binary_of assignment_of
other_length = refl

-- `int a[]; int a[3]; char b[sizeof a == 12 ? 1 : -1];`
length_later_known : is_fine (record { parts = (t.Declaration (record { specs = (t.more_specs (t.Key keyword.Int (1 ∷ [])) t.no_specs); list = record { declarator = (t.Array (t.Identifier (codes "a") (1 ∷ [])) (t.Unsized []) (1 ∷ 1 ∷ [])); init = None; lines = [] } ∷ []; lines = (1 ∷ []) })) ∷ (t.Declaration (record { specs = (t.more_specs (t.Key keyword.Int (1 ∷ [])) t.no_specs); list = record { declarator = (t.Array (t.Identifier (codes "a") (1 ∷ [])) (t.Length [] (t.Number 3 ty0.Int (1 ∷ []))) (1 ∷ 1 ∷ [])); init = None; lines = [] } ∷ []; lines = (1 ∷ []) })) ∷ (t.Declaration (record { specs = (t.more_specs (t.Key keyword.Char (1 ∷ [])) t.no_specs); list = record { declarator = (t.Array (t.Identifier (codes "b") (1 ∷ [])) (t.Length [] (t.Cond (t.Binary (t.SizeofExpr (t.Name (codes "a") (1 ∷ [])) (1 ∷ [])) punct.EqualEqual (t.Number 12 ty0.Int (1 ∷ [])) (1 ∷ [])) (t.Number 1 ty0.Int (1 ∷ [])) (t.Unary punct.Minus (t.Number 1 ty0.Int (1 ∷ [])) (1 ∷ [])) (1 ∷ 1 ∷ []))) (1 ∷ 1 ∷ [])); init = None; lines = [] } ∷ []; lines = (1 ∷ []) })) ∷ []; lines = [] })
unfolding layouts_of same_basic holds_const linkage_of clashes with_declaration with_content with_head unit_of landing puts_of constant_of is_null_constant pairing is_assignable check_gives check_chain check_here check_becomes check_look breaks node_rules rule_at same_key specs_type unary_of binary_of assignment_of
length_later_known = refl

-- `int a[3]; int main(void) { extern int a[4]; return 0; }`
length_in_block : is_refused (record { parts = (t.Declaration (record { specs = (t.more_specs (t.Key keyword.Int (1 ∷ [])) t.no_specs); list = record { declarator = (t.Array (t.Identifier (codes "a") (1 ∷ [])) (t.Length [] (t.Number 3 ty0.Int (1 ∷ []))) (1 ∷ 1 ∷ [])); init = None; lines = [] } ∷ []; lines = (1 ∷ []) })) ∷ (t.Defined (record { specs = (t.more_specs (t.Key keyword.Int (1 ∷ [])) t.no_specs); declarator = (t.Function (t.Identifier (codes "main") (1 ∷ [])) (t.more_params (t.Param (t.more_specs (t.Key keyword.Void (1 ∷ [])) t.no_specs) t.Missing []) t.no_params) false (1 ∷ 1 ∷ [])); body = t.Block (t.more_items (t.Declared (record { specs = (t.more_specs (t.Key keyword.Extern (1 ∷ [])) (t.more_specs (t.Key keyword.Int (1 ∷ [])) t.no_specs)); list = record { declarator = (t.Array (t.Identifier (codes "a") (1 ∷ [])) (t.Length [] (t.Number 4 ty0.Int (1 ∷ []))) (1 ∷ 1 ∷ [])); init = None; lines = [] } ∷ []; lines = (1 ∷ []) })) (t.more_items (t.Statement (t.Return (t.some_expr (t.Number 0 ty0.Int (1 ∷ []))) (1 ∷ 1 ∷ []))) t.no_items)) (1 ∷ 1 ∷ []); lines = [] })) ∷ []; lines = [] }) rule.K2 1
unfolding layouts_of same_basic holds_const linkage_of clashes with_declaration with_content with_head unit_of landing puts_of constant_of is_null_constant pairing is_assignable check_gives check_chain check_here check_becomes check_look breaks node_rules rule_at same_key specs_type unary_of binary_of assignment_of
length_in_block = refl

-- `int main(void) { int f(void); return f(); } long f(void) { return 0; }`
function_in_block_other : is_refused (record { parts = (t.Defined (record { specs = (t.more_specs (t.Key keyword.Int (1 ∷ [])) t.no_specs); declarator = (t.Function (t.Identifier (codes "main") (1 ∷ [])) (t.more_params (t.Param (t.more_specs (t.Key keyword.Void (1 ∷ [])) t.no_specs) t.Missing []) t.no_params) false (1 ∷ 1 ∷ [])); body = t.Block (t.more_items (t.Declared (record { specs = (t.more_specs (t.Key keyword.Int (1 ∷ [])) t.no_specs); list = record { declarator = (t.Function (t.Identifier (codes "f") (1 ∷ [])) (t.more_params (t.Param (t.more_specs (t.Key keyword.Void (1 ∷ [])) t.no_specs) t.Missing []) t.no_params) false (1 ∷ 1 ∷ [])); init = None; lines = [] } ∷ []; lines = (1 ∷ []) })) (t.more_items (t.Statement (t.Return (t.some_expr (t.Call (t.Name (codes "f") (1 ∷ [])) t.no_exprs (1 ∷ 1 ∷ []))) (1 ∷ 1 ∷ []))) t.no_items)) (1 ∷ 1 ∷ []); lines = [] })) ∷ (t.Defined (record { specs = (t.more_specs (t.Key keyword.Long (1 ∷ [])) t.no_specs); declarator = (t.Function (t.Identifier (codes "f") (1 ∷ [])) (t.more_params (t.Param (t.more_specs (t.Key keyword.Void (1 ∷ [])) t.no_specs) t.Missing []) t.no_params) false (1 ∷ 1 ∷ [])); body = t.Block (t.more_items (t.Statement (t.Return (t.some_expr (t.Number 0 ty0.Int (1 ∷ []))) (1 ∷ 1 ∷ []))) t.no_items) (1 ∷ 1 ∷ []); lines = [] })) ∷ []; lines = [] }) rule.K2 1
unfolding layouts_of same_basic holds_const linkage_of clashes with_declaration with_content with_head unit_of landing puts_of constant_of is_null_constant pairing is_assignable check_gives check_chain check_here check_becomes check_look breaks node_rules rule_at same_key specs_type unary_of binary_of assignment_of
function_in_block_other = refl

-- `int f(); int main(void) { return f(1); } int f(int x) { return x; }`
unlisted_then_listed : is_refused (record { parts = (t.Declaration (record { specs = (t.more_specs (t.Key keyword.Int (1 ∷ [])) t.no_specs); list = record { declarator = (t.Identifiers (t.Identifier (codes "f") (1 ∷ [])) [] (1 ∷ 1 ∷ [])); init = None; lines = [] } ∷ []; lines = (1 ∷ []) })) ∷ (t.Defined (record { specs = (t.more_specs (t.Key keyword.Int (1 ∷ [])) t.no_specs); declarator = (t.Function (t.Identifier (codes "main") (1 ∷ [])) (t.more_params (t.Param (t.more_specs (t.Key keyword.Void (1 ∷ [])) t.no_specs) t.Missing []) t.no_params) false (1 ∷ 1 ∷ [])); body = t.Block (t.more_items (t.Statement (t.Return (t.some_expr (t.Call (t.Name (codes "f") (1 ∷ [])) (t.more_exprs (t.Number 1 ty0.Int (1 ∷ [])) t.no_exprs) (1 ∷ 1 ∷ []))) (1 ∷ 1 ∷ []))) t.no_items) (1 ∷ 1 ∷ []); lines = [] })) ∷ (t.Defined (record { specs = (t.more_specs (t.Key keyword.Int (1 ∷ [])) t.no_specs); declarator = (t.Function (t.Identifier (codes "f") (1 ∷ [])) (t.more_params (t.Param (t.more_specs (t.Key keyword.Int (1 ∷ [])) t.no_specs) (t.Identifier (codes "x") (1 ∷ [])) []) t.no_params) false (1 ∷ 1 ∷ [])); body = t.Block (t.more_items (t.Statement (t.Return (t.some_expr (t.Name (codes "x") (1 ∷ []))) (1 ∷ 1 ∷ []))) t.no_items) (1 ∷ 1 ∷ []); lines = [] })) ∷ []; lines = [] }) rule.O4 1
unfolding layouts_of same_basic holds_const linkage_of clashes with_declaration with_content with_head unit_of landing puts_of constant_of is_null_constant pairing is_assignable check_gives check_chain check_here check_becomes check_look breaks node_rules rule_at same_key specs_type unary_of binary_of assignment_of
unlisted_then_listed = refl

-- `int f(int); int f(); int main(void) { return f(1); }`
listed_then_unlisted : is_fine (record { parts = (t.Declaration (record { specs = (t.more_specs (t.Key keyword.Int (1 ∷ [])) t.no_specs); list = record { declarator = (t.Function (t.Identifier (codes "f") (1 ∷ [])) (t.more_params (t.Param (t.more_specs (t.Key keyword.Int (1 ∷ [])) t.no_specs) t.Missing []) t.no_params) false (1 ∷ 1 ∷ [])); init = None; lines = [] } ∷ []; lines = (1 ∷ []) })) ∷ (t.Declaration (record { specs = (t.more_specs (t.Key keyword.Int (1 ∷ [])) t.no_specs); list = record { declarator = (t.Identifiers (t.Identifier (codes "f") (1 ∷ [])) [] (1 ∷ 1 ∷ [])); init = None; lines = [] } ∷ []; lines = (1 ∷ []) })) ∷ (t.Defined (record { specs = (t.more_specs (t.Key keyword.Int (1 ∷ [])) t.no_specs); declarator = (t.Function (t.Identifier (codes "main") (1 ∷ [])) (t.more_params (t.Param (t.more_specs (t.Key keyword.Void (1 ∷ [])) t.no_specs) t.Missing []) t.no_params) false (1 ∷ 1 ∷ [])); body = t.Block (t.more_items (t.Statement (t.Return (t.some_expr (t.Call (t.Name (codes "f") (1 ∷ [])) (t.more_exprs (t.Number 1 ty0.Int (1 ∷ [])) t.no_exprs) (1 ∷ 1 ∷ []))) (1 ∷ 1 ∷ []))) t.no_items) (1 ∷ 1 ∷ []); lines = [] })) ∷ []; lines = [] })
unfolding layouts_of same_basic holds_const linkage_of clashes with_declaration with_content with_head unit_of landing puts_of constant_of is_null_constant pairing is_assignable check_gives check_chain check_here check_becomes check_look breaks node_rules rule_at same_key specs_type unary_of binary_of assignment_of
listed_then_unlisted = refl

-- `int f(); int f(char);`
unlisted_and_char : is_refused (record { parts = (t.Declaration (record { specs = (t.more_specs (t.Key keyword.Int (1 ∷ [])) t.no_specs); list = record { declarator = (t.Identifiers (t.Identifier (codes "f") (1 ∷ [])) [] (1 ∷ 1 ∷ [])); init = None; lines = [] } ∷ []; lines = (1 ∷ []) })) ∷ (t.Declaration (record { specs = (t.more_specs (t.Key keyword.Int (1 ∷ [])) t.no_specs); list = record { declarator = (t.Function (t.Identifier (codes "f") (1 ∷ [])) (t.more_params (t.Param (t.more_specs (t.Key keyword.Char (1 ∷ [])) t.no_specs) t.Missing []) t.no_params) false (1 ∷ 1 ∷ [])); init = None; lines = [] } ∷ []; lines = (1 ∷ []) })) ∷ []; lines = [] }) rule.K2 1
unfolding layouts_of same_basic holds_const linkage_of clashes with_declaration with_content with_head unit_of landing puts_of constant_of is_null_constant pairing is_assignable check_gives check_chain check_here check_becomes check_look breaks node_rules rule_at same_key specs_type unary_of binary_of assignment_of
unlisted_and_char = refl

-- `int f(); int f(int, ...);`
unlisted_and_variadic : is_refused (record { parts = (t.Declaration (record { specs = (t.more_specs (t.Key keyword.Int (1 ∷ [])) t.no_specs); list = record { declarator = (t.Identifiers (t.Identifier (codes "f") (1 ∷ [])) [] (1 ∷ 1 ∷ [])); init = None; lines = [] } ∷ []; lines = (1 ∷ []) })) ∷ (t.Declaration (record { specs = (t.more_specs (t.Key keyword.Int (1 ∷ [])) t.no_specs); list = record { declarator = (t.Function (t.Identifier (codes "f") (1 ∷ [])) (t.more_params (t.Param (t.more_specs (t.Key keyword.Int (1 ∷ [])) t.no_specs) t.Missing []) t.no_params) true (1 ∷ 1 ∷ [])); init = None; lines = [] } ∷ []; lines = (1 ∷ []) })) ∷ []; lines = [] }) rule.K2 1
unfolding layouts_of same_basic holds_const linkage_of clashes with_declaration with_content with_head unit_of landing puts_of constant_of is_null_constant pairing is_assignable check_gives check_chain check_here check_becomes check_look breaks node_rules rule_at same_key specs_type unary_of binary_of assignment_of
unlisted_and_variadic = refl

-- `int f(const int); int f(int x) { return x; }`
parameters_const : is_fine (record { parts = (t.Declaration (record { specs = (t.more_specs (t.Key keyword.Int (1 ∷ [])) t.no_specs); list = record { declarator = (t.Function (t.Identifier (codes "f") (1 ∷ [])) (t.more_params (t.Param (t.more_specs (t.Key keyword.Const (1 ∷ [])) (t.more_specs (t.Key keyword.Int (1 ∷ [])) t.no_specs)) t.Missing []) t.no_params) false (1 ∷ 1 ∷ [])); init = None; lines = [] } ∷ []; lines = (1 ∷ []) })) ∷ (t.Defined (record { specs = (t.more_specs (t.Key keyword.Int (1 ∷ [])) t.no_specs); declarator = (t.Function (t.Identifier (codes "f") (1 ∷ [])) (t.more_params (t.Param (t.more_specs (t.Key keyword.Int (1 ∷ [])) t.no_specs) (t.Identifier (codes "x") (1 ∷ [])) []) t.no_params) false (1 ∷ 1 ∷ [])); body = t.Block (t.more_items (t.Statement (t.Return (t.some_expr (t.Name (codes "x") (1 ∷ []))) (1 ∷ 1 ∷ []))) t.no_items) (1 ∷ 1 ∷ []); lines = [] })) ∷ []; lines = [] })
unfolding layouts_of same_basic holds_const linkage_of clashes with_declaration with_content with_head unit_of landing puts_of constant_of is_null_constant pairing is_assignable check_gives check_chain check_here check_becomes check_look breaks node_rules rule_at same_key specs_type unary_of binary_of assignment_of
parameters_const = refl

-- `int main(void) { int x; extern int x; return 0; }`
extern_behind_local : is_refused (record { parts = (t.Defined (record { specs = (t.more_specs (t.Key keyword.Int (1 ∷ [])) t.no_specs); declarator = (t.Function (t.Identifier (codes "main") (1 ∷ [])) (t.more_params (t.Param (t.more_specs (t.Key keyword.Void (1 ∷ [])) t.no_specs) t.Missing []) t.no_params) false (1 ∷ 1 ∷ [])); body = t.Block (t.more_items (t.Declared (record { specs = (t.more_specs (t.Key keyword.Int (1 ∷ [])) t.no_specs); list = record { declarator = (t.Identifier (codes "x") (1 ∷ [])); init = None; lines = [] } ∷ []; lines = (1 ∷ []) })) (t.more_items (t.Declared (record { specs = (t.more_specs (t.Key keyword.Extern (1 ∷ [])) (t.more_specs (t.Key keyword.Int (1 ∷ [])) t.no_specs)); list = record { declarator = (t.Identifier (codes "x") (1 ∷ [])); init = None; lines = [] } ∷ []; lines = (1 ∷ []) })) (t.more_items (t.Statement (t.Return (t.some_expr (t.Number 0 ty0.Int (1 ∷ []))) (1 ∷ 1 ∷ []))) t.no_items))) (1 ∷ 1 ∷ []); lines = [] })) ∷ []; lines = [] }) rule.K2 1
unfolding layouts_of same_basic holds_const linkage_of clashes with_declaration with_content with_head unit_of landing puts_of constant_of is_null_constant pairing is_assignable check_gives check_chain check_here check_becomes check_look breaks node_rules rule_at same_key specs_type unary_of binary_of assignment_of
extern_behind_local = refl

-- `int main(void) { int x = 0; { long x = 1; x++; } return x; }`
local_in_inner_block : is_fine (record { parts = (t.Defined (record { specs = (t.more_specs (t.Key keyword.Int (1 ∷ [])) t.no_specs); declarator = (t.Function (t.Identifier (codes "main") (1 ∷ [])) (t.more_params (t.Param (t.more_specs (t.Key keyword.Void (1 ∷ [])) t.no_specs) t.Missing []) t.no_params) false (1 ∷ 1 ∷ [])); body = t.Block (t.more_items (t.Declared (record { specs = (t.more_specs (t.Key keyword.Int (1 ∷ [])) t.no_specs); list = record { declarator = (t.Identifier (codes "x") (1 ∷ [])); init = (Some (t.Single (t.Number 0 ty0.Int (1 ∷ [])))); lines = [] } ∷ []; lines = (1 ∷ []) })) (t.more_items (t.Statement (t.Block (t.more_items (t.Declared (record { specs = (t.more_specs (t.Key keyword.Long (1 ∷ [])) t.no_specs); list = record { declarator = (t.Identifier (codes "x") (1 ∷ [])); init = (Some (t.Single (t.Number 1 ty0.Int (1 ∷ [])))); lines = [] } ∷ []; lines = (1 ∷ []) })) (t.more_items (t.Statement (t.ExprStmt (t.some_expr (t.PostUp (t.Name (codes "x") (1 ∷ [])) (1 ∷ []))) (1 ∷ []))) t.no_items)) (1 ∷ 1 ∷ []))) (t.more_items (t.Statement (t.Return (t.some_expr (t.Name (codes "x") (1 ∷ []))) (1 ∷ 1 ∷ []))) t.no_items))) (1 ∷ 1 ∷ []); lines = [] })) ∷ []; lines = [] })
unfolding layouts_of same_basic holds_const linkage_of clashes with_declaration with_content with_head unit_of landing puts_of constant_of is_null_constant pairing is_assignable check_gives check_chain check_here check_becomes check_look breaks node_rules rule_at same_key specs_type unary_of binary_of assignment_of
local_in_inner_block = refl

-- `int main(void) { int x = sizeof x; return x; }`
own_initialiser : is_fine (record { parts = (t.Defined (record { specs = (t.more_specs (t.Key keyword.Int (1 ∷ [])) t.no_specs); declarator = (t.Function (t.Identifier (codes "main") (1 ∷ [])) (t.more_params (t.Param (t.more_specs (t.Key keyword.Void (1 ∷ [])) t.no_specs) t.Missing []) t.no_params) false (1 ∷ 1 ∷ [])); body = t.Block (t.more_items (t.Declared (record { specs = (t.more_specs (t.Key keyword.Int (1 ∷ [])) t.no_specs); list = record { declarator = (t.Identifier (codes "x") (1 ∷ [])); init = (Some (t.Single (t.SizeofExpr (t.Name (codes "x") (1 ∷ [])) (1 ∷ [])))); lines = [] } ∷ []; lines = (1 ∷ []) })) (t.more_items (t.Statement (t.Return (t.some_expr (t.Name (codes "x") (1 ∷ []))) (1 ∷ 1 ∷ []))) t.no_items)) (1 ∷ 1 ∷ []); lines = [] })) ∷ []; lines = [] })
unfolding layouts_of same_basic holds_const linkage_of clashes with_declaration with_content with_head unit_of landing puts_of constant_of is_null_constant pairing is_assignable check_gives check_chain check_here check_becomes check_look breaks node_rules rule_at same_key specs_type unary_of binary_of assignment_of
own_initialiser = refl

-- `int x; int main(void) { char x[sizeof x == 4 ? 1 : -1]; return sizeof x; }`
outer_in_inner_length : is_fine (record { parts = (t.Declaration (record { specs = (t.more_specs (t.Key keyword.Int (1 ∷ [])) t.no_specs); list = record { declarator = (t.Identifier (codes "x") (1 ∷ [])); init = None; lines = [] } ∷ []; lines = (1 ∷ []) })) ∷ (t.Defined (record { specs = (t.more_specs (t.Key keyword.Int (1 ∷ [])) t.no_specs); declarator = (t.Function (t.Identifier (codes "main") (1 ∷ [])) (t.more_params (t.Param (t.more_specs (t.Key keyword.Void (1 ∷ [])) t.no_specs) t.Missing []) t.no_params) false (1 ∷ 1 ∷ [])); body = t.Block (t.more_items (t.Declared (record { specs = (t.more_specs (t.Key keyword.Char (1 ∷ [])) t.no_specs); list = record { declarator = (t.Array (t.Identifier (codes "x") (1 ∷ [])) (t.Length [] (t.Cond (t.Binary (t.SizeofExpr (t.Name (codes "x") (1 ∷ [])) (1 ∷ [])) punct.EqualEqual (t.Number 4 ty0.Int (1 ∷ [])) (1 ∷ [])) (t.Number 1 ty0.Int (1 ∷ [])) (t.Unary punct.Minus (t.Number 1 ty0.Int (1 ∷ [])) (1 ∷ [])) (1 ∷ 1 ∷ []))) (1 ∷ 1 ∷ [])); init = None; lines = [] } ∷ []; lines = (1 ∷ []) })) (t.more_items (t.Statement (t.Return (t.some_expr (t.SizeofExpr (t.Name (codes "x") (1 ∷ [])) (1 ∷ []))) (1 ∷ 1 ∷ []))) t.no_items)) (1 ∷ 1 ∷ []); lines = [] })) ∷ []; lines = [] })
unfolding layouts_of same_basic holds_const linkage_of clashes with_declaration with_content with_head unit_of landing puts_of constant_of is_null_constant pairing is_assignable check_gives check_chain check_here check_becomes check_look breaks node_rules rule_at same_key specs_type unary_of binary_of assignment_of
outer_in_inner_length = refl

-- `int main(void) { for (int i = 0; i < 1; i++) ; return i; }`
for_scope_ends : is_refused (record { parts = (t.Defined (record { specs = (t.more_specs (t.Key keyword.Int (1 ∷ [])) t.no_specs); declarator = (t.Function (t.Identifier (codes "main") (1 ∷ [])) (t.more_params (t.Param (t.more_specs (t.Key keyword.Void (1 ∷ [])) t.no_specs) t.Missing []) t.no_params) false (1 ∷ 1 ∷ [])); body = t.Block (t.more_items (t.Statement (t.For (t.FirstDeclared (record { specs = (t.more_specs (t.Key keyword.Int (1 ∷ [])) t.no_specs); list = record { declarator = (t.Identifier (codes "i") (1 ∷ [])); init = (Some (t.Single (t.Number 0 ty0.Int (1 ∷ [])))); lines = [] } ∷ []; lines = (1 ∷ []) })) (t.some_expr (t.Binary (t.Name (codes "i") (1 ∷ [])) punct.Less (t.Number 1 ty0.Int (1 ∷ [])) (1 ∷ []))) (t.some_expr (t.PostUp (t.Name (codes "i") (1 ∷ [])) (1 ∷ []))) (t.ExprStmt t.no_expr (1 ∷ [])) (1 ∷ 1 ∷ 1 ∷ 1 ∷ 1 ∷ []))) (t.more_items (t.Statement (t.Return (t.some_expr (t.Name (codes "i") (1 ∷ []))) (1 ∷ 1 ∷ []))) t.no_items)) (1 ∷ 1 ∷ []); lines = [] })) ∷ []; lines = [] }) rule.K1 1
unfolding layouts_of same_basic holds_const linkage_of clashes with_declaration with_content with_head unit_of landing puts_of constant_of is_null_constant pairing is_assignable check_gives check_chain check_here check_becomes check_look breaks node_rules rule_at same_key specs_type unary_of binary_of assignment_of
for_scope_ends = refl

-- `int main(void) { for (int i = 0; i < 1; i++) { int i = 2; i++; } return 0; }`
for_body_scope : is_fine (record { parts = (t.Defined (record { specs = (t.more_specs (t.Key keyword.Int (1 ∷ [])) t.no_specs); declarator = (t.Function (t.Identifier (codes "main") (1 ∷ [])) (t.more_params (t.Param (t.more_specs (t.Key keyword.Void (1 ∷ [])) t.no_specs) t.Missing []) t.no_params) false (1 ∷ 1 ∷ [])); body = t.Block (t.more_items (t.Statement (t.For (t.FirstDeclared (record { specs = (t.more_specs (t.Key keyword.Int (1 ∷ [])) t.no_specs); list = record { declarator = (t.Identifier (codes "i") (1 ∷ [])); init = (Some (t.Single (t.Number 0 ty0.Int (1 ∷ [])))); lines = [] } ∷ []; lines = (1 ∷ []) })) (t.some_expr (t.Binary (t.Name (codes "i") (1 ∷ [])) punct.Less (t.Number 1 ty0.Int (1 ∷ [])) (1 ∷ []))) (t.some_expr (t.PostUp (t.Name (codes "i") (1 ∷ [])) (1 ∷ []))) (t.Block (t.more_items (t.Declared (record { specs = (t.more_specs (t.Key keyword.Int (1 ∷ [])) t.no_specs); list = record { declarator = (t.Identifier (codes "i") (1 ∷ [])); init = (Some (t.Single (t.Number 2 ty0.Int (1 ∷ [])))); lines = [] } ∷ []; lines = (1 ∷ []) })) (t.more_items (t.Statement (t.ExprStmt (t.some_expr (t.PostUp (t.Name (codes "i") (1 ∷ [])) (1 ∷ []))) (1 ∷ []))) t.no_items)) (1 ∷ 1 ∷ [])) (1 ∷ 1 ∷ 1 ∷ 1 ∷ 1 ∷ []))) (t.more_items (t.Statement (t.Return (t.some_expr (t.Number 0 ty0.Int (1 ∷ []))) (1 ∷ 1 ∷ []))) t.no_items)) (1 ∷ 1 ∷ []); lines = [] })) ∷ []; lines = [] })
unfolding layouts_of same_basic holds_const linkage_of clashes with_declaration with_content with_head unit_of landing puts_of constant_of is_null_constant pairing is_assignable check_gives check_chain check_here check_becomes check_look breaks node_rules rule_at same_key specs_type unary_of binary_of assignment_of
for_body_scope = refl

-- `int main(void) { if (sizeof(enum { A })) ; return A; }`
if_scope_ends : is_refused (record { parts = (t.Defined (record { specs = (t.more_specs (t.Key keyword.Int (1 ∷ [])) t.no_specs); declarator = (t.Function (t.Identifier (codes "main") (1 ∷ [])) (t.more_params (t.Param (t.more_specs (t.Key keyword.Void (1 ∷ [])) t.no_specs) t.Missing []) t.no_params) false (1 ∷ 1 ∷ [])); body = t.Block (t.more_items (t.Statement (t.If (t.SizeofType (t.TypeName (t.more_specs (t.Enum None (t.some_enumerator_list (t.more_enumerators (t.Enumerator (codes "A") t.no_expr (1 ∷ [])) t.no_enumerators)) false (1 ∷ 1 ∷ 1 ∷ [])) t.no_specs) t.Missing []) (1 ∷ 1 ∷ 1 ∷ [])) (t.ExprStmt t.no_expr (1 ∷ [])) t.no_stmt (1 ∷ 1 ∷ 1 ∷ 1 ∷ []))) (t.more_items (t.Statement (t.Return (t.some_expr (t.Name (codes "A") (1 ∷ []))) (1 ∷ 1 ∷ []))) t.no_items)) (1 ∷ 1 ∷ []); lines = [] })) ∷ []; lines = [] }) rule.K1 1
unfolding layouts_of same_basic holds_const linkage_of clashes with_declaration with_content with_head unit_of landing puts_of constant_of is_null_constant pairing is_assignable check_gives check_chain check_here check_becomes check_look breaks node_rules rule_at same_key specs_type unary_of binary_of assignment_of
if_scope_ends = refl

-- `int f(int x); int main(void) { return x; }`
prototype_scope_ends : is_refused (record { parts = (t.Declaration (record { specs = (t.more_specs (t.Key keyword.Int (1 ∷ [])) t.no_specs); list = record { declarator = (t.Function (t.Identifier (codes "f") (1 ∷ [])) (t.more_params (t.Param (t.more_specs (t.Key keyword.Int (1 ∷ [])) t.no_specs) (t.Identifier (codes "x") (1 ∷ [])) []) t.no_params) false (1 ∷ 1 ∷ [])); init = None; lines = [] } ∷ []; lines = (1 ∷ []) })) ∷ (t.Defined (record { specs = (t.more_specs (t.Key keyword.Int (1 ∷ [])) t.no_specs); declarator = (t.Function (t.Identifier (codes "main") (1 ∷ [])) (t.more_params (t.Param (t.more_specs (t.Key keyword.Void (1 ∷ [])) t.no_specs) t.Missing []) t.no_params) false (1 ∷ 1 ∷ [])); body = t.Block (t.more_items (t.Statement (t.Return (t.some_expr (t.Name (codes "x") (1 ∷ []))) (1 ∷ 1 ∷ []))) t.no_items) (1 ∷ 1 ∷ []); lines = [] })) ∷ []; lines = [] }) rule.K1 1
unfolding layouts_of same_basic holds_const linkage_of clashes with_declaration with_content with_head unit_of landing puts_of constant_of is_null_constant pairing is_assignable check_gives check_chain check_here check_becomes check_look breaks node_rules rule_at same_key specs_type unary_of binary_of assignment_of
prototype_scope_ends = refl

-- `int main(void) { return sizeof(enum { A = 3 }) - A; }`
enumerator_in_sizeof : is_fine (record { parts = (t.Defined (record { specs = (t.more_specs (t.Key keyword.Int (1 ∷ [])) t.no_specs); declarator = (t.Function (t.Identifier (codes "main") (1 ∷ [])) (t.more_params (t.Param (t.more_specs (t.Key keyword.Void (1 ∷ [])) t.no_specs) t.Missing []) t.no_params) false (1 ∷ 1 ∷ [])); body = t.Block (t.more_items (t.Statement (t.Return (t.some_expr (t.Binary (t.SizeofType (t.TypeName (t.more_specs (t.Enum None (t.some_enumerator_list (t.more_enumerators (t.Enumerator (codes "A") (t.some_expr (t.Number 3 ty0.Int (1 ∷ []))) (1 ∷ [])) t.no_enumerators)) false (1 ∷ 1 ∷ 1 ∷ [])) t.no_specs) t.Missing []) (1 ∷ 1 ∷ 1 ∷ [])) punct.Minus (t.Name (codes "A") (1 ∷ [])) (1 ∷ []))) (1 ∷ 1 ∷ []))) t.no_items) (1 ∷ 1 ∷ []); lines = [] })) ∷ []; lines = [] })
unfolding layouts_of same_basic holds_const linkage_of clashes with_declaration with_content with_head unit_of landing puts_of constant_of is_null_constant pairing is_assignable check_gives check_chain check_here check_becomes check_look breaks node_rules rule_at same_key specs_type unary_of binary_of assignment_of
enumerator_in_sizeof = refl

-- `int f(int n) { return n ? f(n - 1) : 0; }`
function_in_itself : is_fine (record { parts = (t.Defined (record { specs = (t.more_specs (t.Key keyword.Int (1 ∷ [])) t.no_specs); declarator = (t.Function (t.Identifier (codes "f") (1 ∷ [])) (t.more_params (t.Param (t.more_specs (t.Key keyword.Int (1 ∷ [])) t.no_specs) (t.Identifier (codes "n") (1 ∷ [])) []) t.no_params) false (1 ∷ 1 ∷ [])); body = t.Block (t.more_items (t.Statement (t.Return (t.some_expr (t.Cond (t.Name (codes "n") (1 ∷ [])) (t.Call (t.Name (codes "f") (1 ∷ [])) (t.more_exprs (t.Binary (t.Name (codes "n") (1 ∷ [])) punct.Minus (t.Number 1 ty0.Int (1 ∷ [])) (1 ∷ [])) t.no_exprs) (1 ∷ 1 ∷ [])) (t.Number 0 ty0.Int (1 ∷ [])) (1 ∷ 1 ∷ []))) (1 ∷ 1 ∷ []))) t.no_items) (1 ∷ 1 ∷ []); lines = [] })) ∷ []; lines = [] })
unfolding layouts_of same_basic holds_const linkage_of clashes with_declaration with_content with_head unit_of landing puts_of constant_of is_null_constant pairing is_assignable check_gives check_chain check_here check_becomes check_look breaks node_rules rule_at same_key specs_type unary_of binary_of assignment_of
function_in_itself = refl

-- `int main(void) { int a = 0; a: return a; }`
label_and_object : is_fine (record { parts = (t.Defined (record { specs = (t.more_specs (t.Key keyword.Int (1 ∷ [])) t.no_specs); declarator = (t.Function (t.Identifier (codes "main") (1 ∷ [])) (t.more_params (t.Param (t.more_specs (t.Key keyword.Void (1 ∷ [])) t.no_specs) t.Missing []) t.no_params) false (1 ∷ 1 ∷ [])); body = t.Block (t.more_items (t.Declared (record { specs = (t.more_specs (t.Key keyword.Int (1 ∷ [])) t.no_specs); list = record { declarator = (t.Identifier (codes "a") (1 ∷ [])); init = (Some (t.Single (t.Number 0 ty0.Int (1 ∷ [])))); lines = [] } ∷ []; lines = (1 ∷ []) })) (t.more_items (t.Statement (t.Label (codes "a") (t.Return (t.some_expr (t.Name (codes "a") (1 ∷ []))) (1 ∷ 1 ∷ [])) (1 ∷ 1 ∷ []))) t.no_items)) (1 ∷ 1 ∷ []); lines = [] })) ∷ []; lines = [] })
unfolding layouts_of same_basic holds_const linkage_of clashes with_declaration with_content with_head unit_of landing puts_of constant_of is_null_constant pairing is_assignable check_gives check_chain check_here check_becomes check_look breaks node_rules rule_at same_key specs_type unary_of binary_of assignment_of
label_and_object = refl

-- `struct s; int main(void) { struct s x; return 0; }`
local_incomplete : is_refused (record { parts = (t.Declaration (record { specs = (t.more_specs (t.Record false (Some (codes "s")) t.no_members (1 ∷ 1 ∷ [])) t.no_specs); list = []; lines = (1 ∷ []) })) ∷ (t.Defined (record { specs = (t.more_specs (t.Key keyword.Int (1 ∷ [])) t.no_specs); declarator = (t.Function (t.Identifier (codes "main") (1 ∷ [])) (t.more_params (t.Param (t.more_specs (t.Key keyword.Void (1 ∷ [])) t.no_specs) t.Missing []) t.no_params) false (1 ∷ 1 ∷ [])); body = t.Block (t.more_items (t.Declared (record { specs = (t.more_specs (t.Record false (Some (codes "s")) t.no_members (1 ∷ 1 ∷ [])) t.no_specs); list = record { declarator = (t.Identifier (codes "x") (1 ∷ [])); init = None; lines = [] } ∷ []; lines = (1 ∷ []) })) (t.more_items (t.Statement (t.Return (t.some_expr (t.Number 0 ty0.Int (1 ∷ []))) (1 ∷ 1 ∷ []))) t.no_items)) (1 ∷ 1 ∷ []); lines = [] })) ∷ []; lines = [] }) rule.K5 1
unfolding layouts_of same_basic holds_const linkage_of clashes with_declaration with_content with_head unit_of landing puts_of constant_of is_null_constant pairing is_assignable check_gives check_chain check_here check_becomes check_look breaks node_rules rule_at same_key specs_type unary_of binary_of assignment_of
local_incomplete = refl

-- `int main(void) { int a[]; return 0; }`
local_open : is_refused (record { parts = (t.Defined (record { specs = (t.more_specs (t.Key keyword.Int (1 ∷ [])) t.no_specs); declarator = (t.Function (t.Identifier (codes "main") (1 ∷ [])) (t.more_params (t.Param (t.more_specs (t.Key keyword.Void (1 ∷ [])) t.no_specs) t.Missing []) t.no_params) false (1 ∷ 1 ∷ [])); body = t.Block (t.more_items (t.Declared (record { specs = (t.more_specs (t.Key keyword.Int (1 ∷ [])) t.no_specs); list = record { declarator = (t.Array (t.Identifier (codes "a") (1 ∷ [])) (t.Unsized []) (1 ∷ 1 ∷ [])); init = None; lines = [] } ∷ []; lines = (1 ∷ []) })) (t.more_items (t.Statement (t.Return (t.some_expr (t.Number 0 ty0.Int (1 ∷ []))) (1 ∷ 1 ∷ []))) t.no_items)) (1 ∷ 1 ∷ []); lines = [] })) ∷ []; lines = [] }) rule.K5 1
unfolding layouts_of same_basic holds_const linkage_of clashes with_declaration with_content with_head unit_of landing puts_of constant_of is_null_constant pairing is_assignable check_gives check_chain check_here check_becomes check_look breaks node_rules rule_at same_key specs_type unary_of binary_of assignment_of
local_open = refl

-- `int main(void) { int a[] = { 1 }; return a[0]; }`
local_completed : is_fine (record { parts = (t.Defined (record { specs = (t.more_specs (t.Key keyword.Int (1 ∷ [])) t.no_specs); declarator = (t.Function (t.Identifier (codes "main") (1 ∷ [])) (t.more_params (t.Param (t.more_specs (t.Key keyword.Void (1 ∷ [])) t.no_specs) t.Missing []) t.no_params) false (1 ∷ 1 ∷ [])); body = t.Block (t.more_items (t.Declared (record { specs = (t.more_specs (t.Key keyword.Int (1 ∷ [])) t.no_specs); list = record { declarator = (t.Array (t.Identifier (codes "a") (1 ∷ [])) (t.Unsized []) (1 ∷ 1 ∷ [])); init = (Some (t.Braced (t.InitialiserList (t.more_entries (t.Entry t.no_designators (t.Single (t.Number 1 ty0.Int (1 ∷ []))) []) t.no_entries) false (1 ∷ 1 ∷ [])))); lines = [] } ∷ []; lines = (1 ∷ []) })) (t.more_items (t.Statement (t.Return (t.some_expr (t.Index (t.Name (codes "a") (1 ∷ [])) (t.Number 0 ty0.Int (1 ∷ [])) (1 ∷ 1 ∷ []))) (1 ∷ 1 ∷ []))) t.no_items)) (1 ∷ 1 ∷ []); lines = [] })) ∷ []; lines = [] })
unfolding layouts_of same_basic holds_const linkage_of clashes with_declaration with_content with_head unit_of landing puts_of constant_of is_null_constant pairing is_assignable check_gives check_chain check_here check_becomes check_look breaks node_rules rule_at same_key specs_type unary_of binary_of assignment_of
local_completed = refl

-- `int main(void) { static int a[]; return 0; }`
static_local_open : is_refused (record { parts = (t.Defined (record { specs = (t.more_specs (t.Key keyword.Int (1 ∷ [])) t.no_specs); declarator = (t.Function (t.Identifier (codes "main") (1 ∷ [])) (t.more_params (t.Param (t.more_specs (t.Key keyword.Void (1 ∷ [])) t.no_specs) t.Missing []) t.no_params) false (1 ∷ 1 ∷ [])); body = t.Block (t.more_items (t.Declared (record { specs = (t.more_specs (t.Key keyword.Static (1 ∷ [])) (t.more_specs (t.Key keyword.Int (1 ∷ [])) t.no_specs)); list = record { declarator = (t.Array (t.Identifier (codes "a") (1 ∷ [])) (t.Unsized []) (1 ∷ 1 ∷ [])); init = None; lines = [] } ∷ []; lines = (1 ∷ []) })) (t.more_items (t.Statement (t.Return (t.some_expr (t.Number 0 ty0.Int (1 ∷ []))) (1 ∷ 1 ∷ []))) t.no_items)) (1 ∷ 1 ∷ []); lines = [] })) ∷ []; lines = [] }) rule.K5 1
unfolding layouts_of same_basic holds_const linkage_of clashes with_declaration with_content with_head unit_of landing puts_of constant_of is_null_constant pairing is_assignable check_gives check_chain check_here check_becomes check_look breaks node_rules rule_at same_key specs_type unary_of binary_of assignment_of
static_local_open = refl

-- `int main(void) { extern int a[]; return a[0]; }`
extern_open_in_block : is_fine (record { parts = (t.Defined (record { specs = (t.more_specs (t.Key keyword.Int (1 ∷ [])) t.no_specs); declarator = (t.Function (t.Identifier (codes "main") (1 ∷ [])) (t.more_params (t.Param (t.more_specs (t.Key keyword.Void (1 ∷ [])) t.no_specs) t.Missing []) t.no_params) false (1 ∷ 1 ∷ [])); body = t.Block (t.more_items (t.Declared (record { specs = (t.more_specs (t.Key keyword.Extern (1 ∷ [])) (t.more_specs (t.Key keyword.Int (1 ∷ [])) t.no_specs)); list = record { declarator = (t.Array (t.Identifier (codes "a") (1 ∷ [])) (t.Unsized []) (1 ∷ 1 ∷ [])); init = None; lines = [] } ∷ []; lines = (1 ∷ []) })) (t.more_items (t.Statement (t.Return (t.some_expr (t.Index (t.Name (codes "a") (1 ∷ [])) (t.Number 0 ty0.Int (1 ∷ [])) (1 ∷ 1 ∷ []))) (1 ∷ 1 ∷ []))) t.no_items)) (1 ∷ 1 ∷ []); lines = [] })) ∷ []; lines = [] })
unfolding layouts_of same_basic holds_const linkage_of clashes with_declaration with_content with_head unit_of landing puts_of constant_of is_null_constant pairing is_assignable check_gives check_chain check_here check_becomes check_look breaks node_rules rule_at same_key specs_type unary_of binary_of assignment_of
extern_open_in_block = refl

-- `void x;`
void_object : is_refused (record { parts = (t.Declaration (record { specs = (t.more_specs (t.Key keyword.Void (1 ∷ [])) t.no_specs); list = record { declarator = (t.Identifier (codes "x") (1 ∷ [])); init = None; lines = [] } ∷ []; lines = (1 ∷ []) })) ∷ []; lines = [] }) rule.K5 1
unfolding layouts_of same_basic holds_const linkage_of clashes with_declaration with_content with_head unit_of landing puts_of constant_of is_null_constant pairing is_assignable check_gives check_chain check_here check_becomes check_look breaks node_rules rule_at same_key specs_type unary_of binary_of assignment_of
void_object = refl

-- `extern void x; int main(void) { return 0; }`
external_void : is_fine (record { parts = (t.Declaration (record { specs = (t.more_specs (t.Key keyword.Extern (1 ∷ [])) (t.more_specs (t.Key keyword.Void (1 ∷ [])) t.no_specs)); list = record { declarator = (t.Identifier (codes "x") (1 ∷ [])); init = None; lines = [] } ∷ []; lines = (1 ∷ []) })) ∷ (t.Defined (record { specs = (t.more_specs (t.Key keyword.Int (1 ∷ [])) t.no_specs); declarator = (t.Function (t.Identifier (codes "main") (1 ∷ [])) (t.more_params (t.Param (t.more_specs (t.Key keyword.Void (1 ∷ [])) t.no_specs) t.Missing []) t.no_params) false (1 ∷ 1 ∷ [])); body = t.Block (t.more_items (t.Statement (t.Return (t.some_expr (t.Number 0 ty0.Int (1 ∷ []))) (1 ∷ 1 ∷ []))) t.no_items) (1 ∷ 1 ∷ []); lines = [] })) ∷ []; lines = [] })
unfolding layouts_of same_basic holds_const linkage_of clashes with_declaration with_content with_head unit_of landing puts_of constant_of is_null_constant pairing is_assignable check_gives check_chain check_here check_becomes check_look breaks node_rules rule_at same_key specs_type unary_of binary_of assignment_of
external_void = refl

-- `void x;`, and on the next line `int main(void) { return y; }`: only the end of the unit shows that `x` stays incomplete
void_object_comes_last : is_refused (record { parts = (t.Declaration (record { specs = (t.more_specs (t.Key keyword.Void (1 ∷ [])) t.no_specs); list = record { declarator = (t.Identifier (codes "x") (1 ∷ [])); init = None; lines = [] } ∷ []; lines = (1 ∷ []) })) ∷ (t.Defined (record { specs = (t.more_specs (t.Key keyword.Int (2 ∷ [])) t.no_specs); declarator = (t.Function (t.Identifier (codes "main") (2 ∷ [])) (t.more_params (t.Param (t.more_specs (t.Key keyword.Void (2 ∷ [])) t.no_specs) t.Missing []) t.no_params) false (2 ∷ 2 ∷ [])); body = t.Block (t.more_items (t.Statement (t.Return (t.some_expr (t.Name (codes "y") (2 ∷ []))) (2 ∷ 2 ∷ []))) t.no_items) (2 ∷ 2 ∷ []); lines = [] })) ∷ []; lines = [] }) rule.K1 2
unfolding layouts_of same_basic holds_const linkage_of clashes with_declaration with_content with_head unit_of landing puts_of constant_of is_null_constant pairing is_assignable check_gives check_chain check_here check_becomes check_look breaks node_rules rule_at same_key specs_type unary_of binary_of assignment_of
void_object_comes_last = refl

-- `extern void x; int main(void) { return sizeof x; }`
external_void_named : is_refused (record { parts = (t.Declaration (record { specs = (t.more_specs (t.Key keyword.Extern (1 ∷ [])) (t.more_specs (t.Key keyword.Void (1 ∷ [])) t.no_specs)); list = record { declarator = (t.Identifier (codes "x") (1 ∷ [])); init = None; lines = [] } ∷ []; lines = (1 ∷ []) })) ∷ (t.Defined (record { specs = (t.more_specs (t.Key keyword.Int (1 ∷ [])) t.no_specs); declarator = (t.Function (t.Identifier (codes "main") (1 ∷ [])) (t.more_params (t.Param (t.more_specs (t.Key keyword.Void (1 ∷ [])) t.no_specs) t.Missing []) t.no_params) false (1 ∷ 1 ∷ [])); body = t.Block (t.more_items (t.Statement (t.Return (t.some_expr (t.SizeofExpr (t.Name (codes "x") (1 ∷ [])) (1 ∷ []))) (1 ∷ 1 ∷ []))) t.no_items) (1 ∷ 1 ∷ []); lines = [] })) ∷ []; lines = [] }) rule.K10 1
unfolding layouts_of same_basic holds_const linkage_of clashes with_declaration with_content with_head unit_of landing puts_of constant_of is_null_constant pairing is_assignable check_gives check_chain check_here check_becomes check_look breaks node_rules rule_at same_key specs_type unary_of binary_of assignment_of
external_void_named = refl

-- `extern void x = 3;`
external_void_initialised : is_refused (record { parts = (t.Declaration (record { specs = (t.more_specs (t.Key keyword.Extern (1 ∷ [])) (t.more_specs (t.Key keyword.Void (1 ∷ [])) t.no_specs)); list = record { declarator = (t.Identifier (codes "x") (1 ∷ [])); init = (Some (t.Single (t.Number 3 ty0.Int (1 ∷ [])))); lines = [] } ∷ []; lines = (1 ∷ []) })) ∷ []; lines = [] }) rule.K21 1
unfolding layouts_of same_basic holds_const linkage_of clashes with_declaration with_content with_head unit_of landing puts_of constant_of is_null_constant pairing is_assignable check_gives check_chain check_here check_becomes check_look breaks node_rules rule_at same_key specs_type unary_of binary_of assignment_of
external_void_initialised = refl

-- `struct s; int f(struct s x) { return 0; }`
void_parameter_in_definition : is_refused (record { parts = (t.Declaration (record { specs = (t.more_specs (t.Record false (Some (codes "s")) t.no_members (1 ∷ 1 ∷ [])) t.no_specs); list = []; lines = (1 ∷ []) })) ∷ (t.Defined (record { specs = (t.more_specs (t.Key keyword.Int (1 ∷ [])) t.no_specs); declarator = (t.Function (t.Identifier (codes "f") (1 ∷ [])) (t.more_params (t.Param (t.more_specs (t.Record false (Some (codes "s")) t.no_members (1 ∷ 1 ∷ [])) t.no_specs) (t.Identifier (codes "x") (1 ∷ [])) []) t.no_params) false (1 ∷ 1 ∷ [])); body = t.Block (t.more_items (t.Statement (t.Return (t.some_expr (t.Number 0 ty0.Int (1 ∷ []))) (1 ∷ 1 ∷ []))) t.no_items) (1 ∷ 1 ∷ []); lines = [] })) ∷ []; lines = [] }) rule.K5 1
unfolding layouts_of same_basic holds_const linkage_of clashes with_declaration with_content with_head unit_of landing puts_of constant_of is_null_constant pairing is_assignable check_gives check_chain check_here check_becomes check_look breaks node_rules rule_at same_key specs_type unary_of binary_of assignment_of
void_parameter_in_definition = refl

-- `struct s; struct s f(void);`
incomplete_result_declared : is_fine (record { parts = (t.Declaration (record { specs = (t.more_specs (t.Record false (Some (codes "s")) t.no_members (1 ∷ 1 ∷ [])) t.no_specs); list = []; lines = (1 ∷ []) })) ∷ (t.Declaration (record { specs = (t.more_specs (t.Record false (Some (codes "s")) t.no_members (1 ∷ 1 ∷ [])) t.no_specs); list = record { declarator = (t.Function (t.Identifier (codes "f") (1 ∷ [])) (t.more_params (t.Param (t.more_specs (t.Key keyword.Void (1 ∷ [])) t.no_specs) t.Missing []) t.no_params) false (1 ∷ 1 ∷ [])); init = None; lines = [] } ∷ []; lines = (1 ∷ []) })) ∷ []; lines = [] })
unfolding layouts_of same_basic holds_const linkage_of clashes with_declaration with_content with_head unit_of landing puts_of constant_of is_null_constant pairing is_assignable check_gives check_chain check_here check_becomes check_look breaks node_rules rule_at same_key specs_type unary_of binary_of assignment_of
incomplete_result_declared = refl

-- `struct s; struct s f(void) { }`
incomplete_result_defined : is_refused (record { parts = (t.Declaration (record { specs = (t.more_specs (t.Record false (Some (codes "s")) t.no_members (1 ∷ 1 ∷ [])) t.no_specs); list = []; lines = (1 ∷ []) })) ∷ (t.Defined (record { specs = (t.more_specs (t.Record false (Some (codes "s")) t.no_members (1 ∷ 1 ∷ [])) t.no_specs); declarator = (t.Function (t.Identifier (codes "f") (1 ∷ [])) (t.more_params (t.Param (t.more_specs (t.Key keyword.Void (1 ∷ [])) t.no_specs) t.Missing []) t.no_params) false (1 ∷ 1 ∷ [])); body = t.Block t.no_items (1 ∷ 1 ∷ []); lines = [] })) ∷ []; lines = [] }) rule.K5 1
unfolding layouts_of same_basic holds_const linkage_of clashes with_declaration with_content with_head unit_of landing puts_of constant_of is_null_constant pairing is_assignable check_gives check_chain check_here check_becomes check_look breaks node_rules rule_at same_key specs_type unary_of binary_of assignment_of
incomplete_result_defined = refl

-- `struct s; struct s x; int y;`
tentative_at_end : is_refused (record { parts = (t.Declaration (record { specs = (t.more_specs (t.Record false (Some (codes "s")) t.no_members (1 ∷ 1 ∷ [])) t.no_specs); list = []; lines = (1 ∷ []) })) ∷ (t.Declaration (record { specs = (t.more_specs (t.Record false (Some (codes "s")) t.no_members (2 ∷ 2 ∷ [])) t.no_specs); list = record { declarator = (t.Identifier (codes "x") (2 ∷ [])); init = None; lines = [] } ∷ []; lines = (2 ∷ []) })) ∷ (t.Declaration (record { specs = (t.more_specs (t.Key keyword.Int (3 ∷ [])) t.no_specs); list = record { declarator = (t.Identifier (codes "y") (3 ∷ [])); init = None; lines = [] } ∷ []; lines = (3 ∷ []) })) ∷ []; lines = [] }) rule.K5 2
unfolding layouts_of same_basic holds_const linkage_of clashes with_declaration with_content with_head unit_of landing puts_of constant_of is_null_constant pairing is_assignable check_gives check_chain check_here check_becomes check_look breaks node_rules rule_at same_key specs_type unary_of binary_of assignment_of
tentative_at_end = refl

-- `struct s; struct s x; int y = z;`
tentative_behind_others : is_refused (record { parts = (t.Declaration (record { specs = (t.more_specs (t.Record false (Some (codes "s")) t.no_members (1 ∷ 1 ∷ [])) t.no_specs); list = []; lines = (1 ∷ []) })) ∷ (t.Declaration (record { specs = (t.more_specs (t.Record false (Some (codes "s")) t.no_members (2 ∷ 2 ∷ [])) t.no_specs); list = record { declarator = (t.Identifier (codes "x") (2 ∷ [])); init = None; lines = [] } ∷ []; lines = (2 ∷ []) })) ∷ (t.Declaration (record { specs = (t.more_specs (t.Key keyword.Int (3 ∷ [])) t.no_specs); list = record { declarator = (t.Identifier (codes "y") (3 ∷ [])); init = (Some (t.Single (t.Name (codes "z") (3 ∷ [])))); lines = [] } ∷ []; lines = (3 ∷ []) })) ∷ []; lines = [] }) rule.K1 3
unfolding layouts_of same_basic holds_const linkage_of clashes with_declaration with_content with_head unit_of landing puts_of constant_of is_null_constant pairing is_assignable check_gives check_chain check_here check_becomes check_look breaks node_rules rule_at same_key specs_type unary_of binary_of assignment_of
tentative_behind_others = refl

-- `extern struct s a; struct t b; struct s a;`: the first in the text counts, not what was declared first
tentative_first_in_text : is_refused (record { parts = (t.Declaration (record { specs = (t.more_specs (t.Key keyword.Extern (1 ∷ [])) (t.more_specs (t.Record false (Some (codes "s")) t.no_members (1 ∷ 1 ∷ [])) t.no_specs)); list = record { declarator = (t.Identifier (codes "a") (1 ∷ [])); init = None; lines = [] } ∷ []; lines = (1 ∷ []) })) ∷ (t.Declaration (record { specs = (t.more_specs (t.Record false (Some (codes "t")) t.no_members (2 ∷ 2 ∷ [])) t.no_specs); list = record { declarator = (t.Identifier (codes "b") (2 ∷ [])); init = None; lines = [] } ∷ []; lines = (2 ∷ []) })) ∷ (t.Declaration (record { specs = (t.more_specs (t.Record false (Some (codes "s")) t.no_members (3 ∷ 3 ∷ [])) t.no_specs); list = record { declarator = (t.Identifier (codes "a") (3 ∷ [])); init = None; lines = [] } ∷ []; lines = (3 ∷ []) })) ∷ []; lines = [] }) rule.K5 2
unfolding layouts_of same_basic holds_const linkage_of clashes with_declaration with_content with_head unit_of landing puts_of constant_of is_null_constant pairing is_assignable check_gives check_chain check_here check_becomes check_look breaks node_rules rule_at same_key specs_type unary_of binary_of assignment_of
tentative_first_in_text = refl

-- `int a[]; int main(void) { return a[0]; }`
tentative_array : is_fine (record { parts = (t.Declaration (record { specs = (t.more_specs (t.Key keyword.Int (1 ∷ [])) t.no_specs); list = record { declarator = (t.Array (t.Identifier (codes "a") (1 ∷ [])) (t.Unsized []) (1 ∷ 1 ∷ [])); init = None; lines = [] } ∷ []; lines = (1 ∷ []) })) ∷ (t.Defined (record { specs = (t.more_specs (t.Key keyword.Int (1 ∷ [])) t.no_specs); declarator = (t.Function (t.Identifier (codes "main") (1 ∷ [])) (t.more_params (t.Param (t.more_specs (t.Key keyword.Void (1 ∷ [])) t.no_specs) t.Missing []) t.no_params) false (1 ∷ 1 ∷ [])); body = t.Block (t.more_items (t.Statement (t.Return (t.some_expr (t.Index (t.Name (codes "a") (1 ∷ [])) (t.Number 0 ty0.Int (1 ∷ [])) (1 ∷ 1 ∷ []))) (1 ∷ 1 ∷ []))) t.no_items) (1 ∷ 1 ∷ []); lines = [] })) ∷ []; lines = [] })
unfolding layouts_of same_basic holds_const linkage_of clashes with_declaration with_content with_head unit_of landing puts_of constant_of is_null_constant pairing is_assignable check_gives check_chain check_here check_becomes check_look breaks node_rules rule_at same_key specs_type unary_of binary_of assignment_of
tentative_array = refl

-- `struct s; extern struct s x; int main(void) { return &x == 0; }`
extern_incomplete : is_fine (record { parts = (t.Declaration (record { specs = (t.more_specs (t.Record false (Some (codes "s")) t.no_members (1 ∷ 1 ∷ [])) t.no_specs); list = []; lines = (1 ∷ []) })) ∷ (t.Declaration (record { specs = (t.more_specs (t.Key keyword.Extern (1 ∷ [])) (t.more_specs (t.Record false (Some (codes "s")) t.no_members (1 ∷ 1 ∷ [])) t.no_specs)); list = record { declarator = (t.Identifier (codes "x") (1 ∷ [])); init = None; lines = [] } ∷ []; lines = (1 ∷ []) })) ∷ (t.Defined (record { specs = (t.more_specs (t.Key keyword.Int (1 ∷ [])) t.no_specs); declarator = (t.Function (t.Identifier (codes "main") (1 ∷ [])) (t.more_params (t.Param (t.more_specs (t.Key keyword.Void (1 ∷ [])) t.no_specs) t.Missing []) t.no_params) false (1 ∷ 1 ∷ [])); body = t.Block (t.more_items (t.Statement (t.Return (t.some_expr (t.Binary (t.Unary punct.Ampersand (t.Name (codes "x") (1 ∷ [])) (1 ∷ [])) punct.EqualEqual (t.Number 0 ty0.Int (1 ∷ [])) (1 ∷ []))) (1 ∷ 1 ∷ []))) t.no_items) (1 ∷ 1 ∷ []); lines = [] })) ∷ []; lines = [] })
unfolding layouts_of same_basic holds_const linkage_of clashes with_declaration with_content with_head unit_of landing puts_of constant_of is_null_constant pairing is_assignable check_gives check_chain check_here check_becomes check_look breaks node_rules rule_at same_key specs_type unary_of binary_of assignment_of
extern_incomplete = refl

-- `int (*f(void))(int, ...) { return 0; }`
variadic_pointer_result : is_fine (record { parts = (t.Defined (record { specs = (t.more_specs (t.Key keyword.Int (1 ∷ [])) t.no_specs); declarator = (t.Function (t.Group (t.Pointer [] (t.Function (t.Identifier (codes "f") (1 ∷ [])) (t.more_params (t.Param (t.more_specs (t.Key keyword.Void (1 ∷ [])) t.no_specs) t.Missing []) t.no_params) false (1 ∷ 1 ∷ [])) (1 ∷ [])) (1 ∷ 1 ∷ [])) (t.more_params (t.Param (t.more_specs (t.Key keyword.Int (1 ∷ [])) t.no_specs) t.Missing []) t.no_params) true (1 ∷ 1 ∷ [])); body = t.Block (t.more_items (t.Statement (t.Return (t.some_expr (t.Number 0 ty0.Int (1 ∷ []))) (1 ∷ 1 ∷ []))) t.no_items) (1 ∷ 1 ∷ []); lines = [] })) ∷ []; lines = [] })
unfolding layouts_of same_basic holds_const linkage_of clashes with_declaration with_content with_head unit_of landing puts_of constant_of is_null_constant pairing is_assignable check_gives check_chain check_here check_becomes check_look breaks node_rules rule_at same_key specs_type unary_of binary_of assignment_of
variadic_pointer_result = refl

-- `int f(int a, ...) { return y; }`
variadic_definition_line : is_refused (record { parts = (t.Defined (record { specs = (t.more_specs (t.Key keyword.Int (1 ∷ [])) t.no_specs); declarator = (t.Function (t.Identifier (codes "f") (2 ∷ [])) (t.more_params (t.Param (t.more_specs (t.Key keyword.Int (2 ∷ [])) t.no_specs) (t.Identifier (codes "a") (2 ∷ [])) []) t.no_params) true (2 ∷ 2 ∷ [])); body = t.Block (t.more_items (t.Statement (t.Return (t.some_expr (t.Name (codes "y") (2 ∷ []))) (2 ∷ 2 ∷ []))) t.no_items) (2 ∷ 2 ∷ []); lines = [] })) ∷ []; lines = [] }) rule.O5 2
unfolding layouts_of same_basic holds_const linkage_of clashes with_declaration with_content with_head unit_of landing puts_of constant_of is_null_constant pairing is_assignable check_gives check_chain check_here check_becomes check_look breaks node_rules rule_at same_key specs_type unary_of binary_of assignment_of
variadic_definition_line = refl

-- `short long a[n];`
specifiers_before_declarator : is_refused (record { parts = (t.Declaration (record { specs = (t.more_specs (t.Key keyword.Short (1 ∷ [])) (t.more_specs (t.Key keyword.Long (1 ∷ [])) t.no_specs)); list = record { declarator = (t.Array (t.Identifier (codes "a") (1 ∷ [])) (t.Length [] (t.Name (codes "n") (1 ∷ []))) (1 ∷ 1 ∷ [])); init = None; lines = [] } ∷ []; lines = (1 ∷ []) })) ∷ []; lines = [] }) rule.K3 1
unfolding layouts_of same_basic holds_const linkage_of clashes with_declaration with_content with_head unit_of landing puts_of constant_of is_null_constant pairing is_assignable check_gives check_chain check_here check_becomes check_look breaks node_rules rule_at same_key specs_type unary_of binary_of assignment_of
specifiers_before_declarator = refl

-- `int x = 1; int x = y;`
initialiser_before_redeclared : is_refused (record { parts = (t.Declaration (record { specs = (t.more_specs (t.Key keyword.Int (1 ∷ [])) t.no_specs); list = record { declarator = (t.Identifier (codes "x") (1 ∷ [])); init = (Some (t.Single (t.Number 1 ty0.Int (1 ∷ [])))); lines = [] } ∷ []; lines = (1 ∷ []) })) ∷ (t.Declaration (record { specs = (t.more_specs (t.Key keyword.Int (1 ∷ [])) t.no_specs); list = record { declarator = (t.Identifier (codes "x") (1 ∷ [])); init = (Some (t.Single (t.Name (codes "y") (1 ∷ [])))); lines = [] } ∷ []; lines = (1 ∷ []) })) ∷ []; lines = [] }) rule.K1 1
unfolding layouts_of same_basic holds_const linkage_of clashes with_declaration with_content with_head unit_of landing puts_of constant_of is_null_constant pairing is_assignable check_gives check_chain check_here check_becomes check_look breaks node_rules rule_at same_key specs_type unary_of binary_of assignment_of
initialiser_before_redeclared = refl

-- Statements

-- `struct s { int a; } x; int main(void) { for (; x;) ; return 0; }`
for_not_scalar : is_refused (record { parts = (t.Declaration (record { specs = (t.more_specs (t.Record false (Some (codes "s")) (t.some_members (t.more_member_decls (t.MemberDecl (t.more_specs (t.Key keyword.Int (1 ∷ [])) t.no_specs) (t.more_member_declarators (t.MemberDeclarator (t.Identifier (codes "a") (1 ∷ [])) t.no_expr (1 ∷ [])) t.no_member_declarators) (1 ∷ [])) t.no_member_decls)) (1 ∷ 1 ∷ 1 ∷ [])) t.no_specs); list = record { declarator = (t.Identifier (codes "x") (1 ∷ [])); init = None; lines = [] } ∷ []; lines = (1 ∷ []) })) ∷ (t.Defined (record { specs = (t.more_specs (t.Key keyword.Int (1 ∷ [])) t.no_specs); declarator = (t.Function (t.Identifier (codes "main") (1 ∷ [])) (t.more_params (t.Param (t.more_specs (t.Key keyword.Void (1 ∷ [])) t.no_specs) t.Missing []) t.no_params) false (1 ∷ 1 ∷ [])); body = t.Block (t.more_items (t.Statement (t.For (t.FirstValue t.no_expr) (t.some_expr (t.Name (codes "x") (1 ∷ []))) t.no_expr (t.ExprStmt t.no_expr (1 ∷ [])) (1 ∷ 1 ∷ 1 ∷ 1 ∷ 1 ∷ []))) (t.more_items (t.Statement (t.Return (t.some_expr (t.Number 0 ty0.Int (1 ∷ []))) (1 ∷ 1 ∷ []))) t.no_items)) (1 ∷ 1 ∷ []); lines = [] })) ∷ []; lines = [] }) rule.K18 1
unfolding layouts_of same_basic holds_const linkage_of clashes with_declaration with_content with_head unit_of landing puts_of constant_of is_null_constant pairing is_assignable check_gives check_chain check_here check_becomes check_look breaks node_rules rule_at same_key specs_type unary_of binary_of assignment_of
for_not_scalar = refl

-- `struct s { int a; } x; int main(void) { while (x) ; return 0; }`
while_not_scalar : is_refused (record { parts = (t.Declaration (record { specs = (t.more_specs (t.Record false (Some (codes "s")) (t.some_members (t.more_member_decls (t.MemberDecl (t.more_specs (t.Key keyword.Int (1 ∷ [])) t.no_specs) (t.more_member_declarators (t.MemberDeclarator (t.Identifier (codes "a") (1 ∷ [])) t.no_expr (1 ∷ [])) t.no_member_declarators) (1 ∷ [])) t.no_member_decls)) (1 ∷ 1 ∷ 1 ∷ [])) t.no_specs); list = record { declarator = (t.Identifier (codes "x") (1 ∷ [])); init = None; lines = [] } ∷ []; lines = (1 ∷ []) })) ∷ (t.Defined (record { specs = (t.more_specs (t.Key keyword.Int (1 ∷ [])) t.no_specs); declarator = (t.Function (t.Identifier (codes "main") (1 ∷ [])) (t.more_params (t.Param (t.more_specs (t.Key keyword.Void (1 ∷ [])) t.no_specs) t.Missing []) t.no_params) false (1 ∷ 1 ∷ [])); body = t.Block (t.more_items (t.Statement (t.While (t.Name (codes "x") (1 ∷ [])) (t.ExprStmt t.no_expr (1 ∷ [])) (1 ∷ 1 ∷ 1 ∷ []))) (t.more_items (t.Statement (t.Return (t.some_expr (t.Number 0 ty0.Int (1 ∷ []))) (1 ∷ 1 ∷ []))) t.no_items)) (1 ∷ 1 ∷ []); lines = [] })) ∷ []; lines = [] }) rule.K18 1
unfolding layouts_of same_basic holds_const linkage_of clashes with_declaration with_content with_head unit_of landing puts_of constant_of is_null_constant pairing is_assignable check_gives check_chain check_here check_becomes check_look breaks node_rules rule_at same_key specs_type unary_of binary_of assignment_of
while_not_scalar = refl

-- `struct s { int a; } x; int main(void) { do ; while (x); return 0; }`
do_not_scalar : is_refused (record { parts = (t.Declaration (record { specs = (t.more_specs (t.Record false (Some (codes "s")) (t.some_members (t.more_member_decls (t.MemberDecl (t.more_specs (t.Key keyword.Int (1 ∷ [])) t.no_specs) (t.more_member_declarators (t.MemberDeclarator (t.Identifier (codes "a") (1 ∷ [])) t.no_expr (1 ∷ [])) t.no_member_declarators) (1 ∷ [])) t.no_member_decls)) (1 ∷ 1 ∷ 1 ∷ [])) t.no_specs); list = record { declarator = (t.Identifier (codes "x") (1 ∷ [])); init = None; lines = [] } ∷ []; lines = (1 ∷ []) })) ∷ (t.Defined (record { specs = (t.more_specs (t.Key keyword.Int (1 ∷ [])) t.no_specs); declarator = (t.Function (t.Identifier (codes "main") (1 ∷ [])) (t.more_params (t.Param (t.more_specs (t.Key keyword.Void (1 ∷ [])) t.no_specs) t.Missing []) t.no_params) false (1 ∷ 1 ∷ [])); body = t.Block (t.more_items (t.Statement (t.Do (t.ExprStmt t.no_expr (1 ∷ [])) (t.Name (codes "x") (1 ∷ [])) (1 ∷ 1 ∷ 1 ∷ 1 ∷ 1 ∷ []))) (t.more_items (t.Statement (t.Return (t.some_expr (t.Number 0 ty0.Int (1 ∷ []))) (1 ∷ 1 ∷ []))) t.no_items)) (1 ∷ 1 ∷ []); lines = [] })) ∷ []; lines = [] }) rule.K18 1
unfolding layouts_of same_basic holds_const linkage_of clashes with_declaration with_content with_head unit_of landing puts_of constant_of is_null_constant pairing is_assignable check_gives check_chain check_here check_becomes check_look breaks node_rules rule_at same_key specs_type unary_of binary_of assignment_of
do_not_scalar = refl

-- `int *p; int main(void) { if (p) return 1; while (p) p = 0; return 0; }`
if_pointer : is_fine (record { parts = (t.Declaration (record { specs = (t.more_specs (t.Key keyword.Int (1 ∷ [])) t.no_specs); list = record { declarator = (t.Pointer [] (t.Identifier (codes "p") (1 ∷ [])) (1 ∷ [])); init = None; lines = [] } ∷ []; lines = (1 ∷ []) })) ∷ (t.Defined (record { specs = (t.more_specs (t.Key keyword.Int (1 ∷ [])) t.no_specs); declarator = (t.Function (t.Identifier (codes "main") (1 ∷ [])) (t.more_params (t.Param (t.more_specs (t.Key keyword.Void (1 ∷ [])) t.no_specs) t.Missing []) t.no_params) false (1 ∷ 1 ∷ [])); body = t.Block (t.more_items (t.Statement (t.If (t.Name (codes "p") (1 ∷ [])) (t.Return (t.some_expr (t.Number 1 ty0.Int (1 ∷ []))) (1 ∷ 1 ∷ [])) t.no_stmt (1 ∷ 1 ∷ 1 ∷ 1 ∷ []))) (t.more_items (t.Statement (t.While (t.Name (codes "p") (1 ∷ [])) (t.ExprStmt (t.some_expr (t.Assign (t.Name (codes "p") (1 ∷ [])) punct.Equal (t.Number 0 ty0.Int (1 ∷ [])) (1 ∷ []))) (1 ∷ [])) (1 ∷ 1 ∷ 1 ∷ []))) (t.more_items (t.Statement (t.Return (t.some_expr (t.Number 0 ty0.Int (1 ∷ []))) (1 ∷ 1 ∷ []))) t.no_items))) (1 ∷ 1 ∷ []); lines = [] })) ∷ []; lines = [] })
unfolding layouts_of same_basic holds_const linkage_of clashes with_declaration with_content with_head unit_of landing puts_of constant_of is_null_constant pairing is_assignable check_gives check_chain check_here check_becomes check_look breaks node_rules rule_at same_key specs_type unary_of binary_of assignment_of
if_pointer = refl

-- `void f(void); int main(void) { if (f()) return 1; return 0; }`
if_void : is_refused (record { parts = (t.Declaration (record { specs = (t.more_specs (t.Key keyword.Void (1 ∷ [])) t.no_specs); list = record { declarator = (t.Function (t.Identifier (codes "f") (1 ∷ [])) (t.more_params (t.Param (t.more_specs (t.Key keyword.Void (1 ∷ [])) t.no_specs) t.Missing []) t.no_params) false (1 ∷ 1 ∷ [])); init = None; lines = [] } ∷ []; lines = (1 ∷ []) })) ∷ (t.Defined (record { specs = (t.more_specs (t.Key keyword.Int (1 ∷ [])) t.no_specs); declarator = (t.Function (t.Identifier (codes "main") (1 ∷ [])) (t.more_params (t.Param (t.more_specs (t.Key keyword.Void (1 ∷ [])) t.no_specs) t.Missing []) t.no_params) false (1 ∷ 1 ∷ [])); body = t.Block (t.more_items (t.Statement (t.If (t.Call (t.Name (codes "f") (1 ∷ [])) t.no_exprs (1 ∷ 1 ∷ [])) (t.Return (t.some_expr (t.Number 1 ty0.Int (1 ∷ []))) (1 ∷ 1 ∷ [])) t.no_stmt (1 ∷ 1 ∷ 1 ∷ 1 ∷ []))) (t.more_items (t.Statement (t.Return (t.some_expr (t.Number 0 ty0.Int (1 ∷ []))) (1 ∷ 1 ∷ []))) t.no_items)) (1 ∷ 1 ∷ []); lines = [] })) ∷ []; lines = [] }) rule.K10 1
unfolding layouts_of same_basic holds_const linkage_of clashes with_declaration with_content with_head unit_of landing puts_of constant_of is_null_constant pairing is_assignable check_gives check_chain check_here check_becomes check_look breaks node_rules rule_at same_key specs_type unary_of binary_of assignment_of
if_void = refl

-- `enum e { A, B } x; int main(void) { switch (x) { case A: return 1; case B: return 2; } return 0; }`
switch_enum : is_fine (record { parts = (t.Declaration (record { specs = (t.more_specs (t.Enum (Some (codes "e")) (t.some_enumerator_list (t.more_enumerators (t.Enumerator (codes "A") t.no_expr (1 ∷ [])) (t.more_enumerators (t.Enumerator (codes "B") t.no_expr (1 ∷ [])) t.no_enumerators))) false (1 ∷ 1 ∷ 1 ∷ [])) t.no_specs); list = record { declarator = (t.Identifier (codes "x") (1 ∷ [])); init = None; lines = [] } ∷ []; lines = (1 ∷ []) })) ∷ (t.Defined (record { specs = (t.more_specs (t.Key keyword.Int (1 ∷ [])) t.no_specs); declarator = (t.Function (t.Identifier (codes "main") (1 ∷ [])) (t.more_params (t.Param (t.more_specs (t.Key keyword.Void (1 ∷ [])) t.no_specs) t.Missing []) t.no_params) false (1 ∷ 1 ∷ [])); body = t.Block (t.more_items (t.Statement (t.Switch (t.Name (codes "x") (1 ∷ [])) (t.Block (t.more_items (t.Statement (t.Case (t.Name (codes "A") (1 ∷ [])) (t.Return (t.some_expr (t.Number 1 ty0.Int (1 ∷ []))) (1 ∷ 1 ∷ [])) (1 ∷ 1 ∷ []))) (t.more_items (t.Statement (t.Case (t.Name (codes "B") (1 ∷ [])) (t.Return (t.some_expr (t.Number 2 ty0.Int (1 ∷ []))) (1 ∷ 1 ∷ [])) (1 ∷ 1 ∷ []))) t.no_items)) (1 ∷ 1 ∷ [])) (1 ∷ 1 ∷ 1 ∷ []))) (t.more_items (t.Statement (t.Return (t.some_expr (t.Number 0 ty0.Int (1 ∷ []))) (1 ∷ 1 ∷ []))) t.no_items)) (1 ∷ 1 ∷ []); lines = [] })) ∷ []; lines = [] })
unfolding layouts_of same_basic holds_const linkage_of clashes with_declaration with_content with_head unit_of landing puts_of constant_of is_null_constant pairing is_assignable check_gives check_chain check_here check_becomes check_look breaks node_rules rule_at same_key specs_type unary_of binary_of assignment_of
switch_enum = refl

-- `struct s { int a : 3; } x; int main(void) { switch (x.a) { case 1: return 1; } return 0; }`
switch_bits : is_fine (record { parts = (t.Declaration (record { specs = (t.more_specs (t.Record false (Some (codes "s")) (t.some_members (t.more_member_decls (t.MemberDecl (t.more_specs (t.Key keyword.Int (1 ∷ [])) t.no_specs) (t.more_member_declarators (t.MemberDeclarator (t.Identifier (codes "a") (1 ∷ [])) (t.some_expr (t.Number 3 ty0.Int (1 ∷ []))) (1 ∷ [])) t.no_member_declarators) (1 ∷ [])) t.no_member_decls)) (1 ∷ 1 ∷ 1 ∷ [])) t.no_specs); list = record { declarator = (t.Identifier (codes "x") (1 ∷ [])); init = None; lines = [] } ∷ []; lines = (1 ∷ []) })) ∷ (t.Defined (record { specs = (t.more_specs (t.Key keyword.Int (1 ∷ [])) t.no_specs); declarator = (t.Function (t.Identifier (codes "main") (1 ∷ [])) (t.more_params (t.Param (t.more_specs (t.Key keyword.Void (1 ∷ [])) t.no_specs) t.Missing []) t.no_params) false (1 ∷ 1 ∷ [])); body = t.Block (t.more_items (t.Statement (t.Switch (t.Dot (t.Name (codes "x") (1 ∷ [])) (codes "a") (1 ∷ 1 ∷ [])) (t.Block (t.more_items (t.Statement (t.Case (t.Number 1 ty0.Int (1 ∷ [])) (t.Return (t.some_expr (t.Number 1 ty0.Int (1 ∷ []))) (1 ∷ 1 ∷ [])) (1 ∷ 1 ∷ []))) t.no_items) (1 ∷ 1 ∷ [])) (1 ∷ 1 ∷ 1 ∷ []))) (t.more_items (t.Statement (t.Return (t.some_expr (t.Number 0 ty0.Int (1 ∷ []))) (1 ∷ 1 ∷ []))) t.no_items)) (1 ∷ 1 ∷ []); lines = [] })) ∷ []; lines = [] })
unfolding layouts_of same_basic holds_const linkage_of clashes with_declaration with_content with_head unit_of landing puts_of constant_of is_null_constant pairing is_assignable check_gives check_chain check_here check_becomes check_look breaks node_rules rule_at same_key specs_type unary_of binary_of assignment_of
switch_bits = refl

-- `int main(void) { case 1: return 0; }`
case_outside : is_refused (record { parts = (t.Defined (record { specs = (t.more_specs (t.Key keyword.Int (1 ∷ [])) t.no_specs); declarator = (t.Function (t.Identifier (codes "main") (1 ∷ [])) (t.more_params (t.Param (t.more_specs (t.Key keyword.Void (1 ∷ [])) t.no_specs) t.Missing []) t.no_params) false (1 ∷ 1 ∷ [])); body = t.Block (t.more_items (t.Statement (t.Case (t.Number 1 ty0.Int (1 ∷ [])) (t.Return (t.some_expr (t.Number 0 ty0.Int (1 ∷ []))) (1 ∷ 1 ∷ [])) (1 ∷ 1 ∷ []))) t.no_items) (1 ∷ 1 ∷ []); lines = [] })) ∷ []; lines = [] }) rule.K18 1
unfolding layouts_of same_basic holds_const linkage_of clashes with_declaration with_content with_head unit_of landing puts_of constant_of is_null_constant pairing is_assignable check_gives check_chain check_here check_becomes check_look breaks node_rules rule_at same_key specs_type unary_of binary_of assignment_of
case_outside = refl

-- `int main(void) { default: return 0; }`
default_outside : is_refused (record { parts = (t.Defined (record { specs = (t.more_specs (t.Key keyword.Int (1 ∷ [])) t.no_specs); declarator = (t.Function (t.Identifier (codes "main") (1 ∷ [])) (t.more_params (t.Param (t.more_specs (t.Key keyword.Void (1 ∷ [])) t.no_specs) t.Missing []) t.no_params) false (1 ∷ 1 ∷ [])); body = t.Block (t.more_items (t.Statement (t.Default (t.Return (t.some_expr (t.Number 0 ty0.Int (1 ∷ []))) (1 ∷ 1 ∷ [])) (1 ∷ 1 ∷ []))) t.no_items) (1 ∷ 1 ∷ []); lines = [] })) ∷ []; lines = [] }) rule.K18 1
unfolding layouts_of same_basic holds_const linkage_of clashes with_declaration with_content with_head unit_of landing puts_of constant_of is_null_constant pairing is_assignable check_gives check_chain check_here check_becomes check_look breaks node_rules rule_at same_key specs_type unary_of binary_of assignment_of
default_outside = refl

-- `int main(void) { int n = 3; switch (n) { case 0: do { n--; case 1: n--; } while (n > 0); } return 0; }`
case_in_loop : is_fine (record { parts = (t.Defined (record { specs = (t.more_specs (t.Key keyword.Int (1 ∷ [])) t.no_specs); declarator = (t.Function (t.Identifier (codes "main") (1 ∷ [])) (t.more_params (t.Param (t.more_specs (t.Key keyword.Void (1 ∷ [])) t.no_specs) t.Missing []) t.no_params) false (1 ∷ 1 ∷ [])); body = t.Block (t.more_items (t.Declared (record { specs = (t.more_specs (t.Key keyword.Int (1 ∷ [])) t.no_specs); list = record { declarator = (t.Identifier (codes "n") (1 ∷ [])); init = (Some (t.Single (t.Number 3 ty0.Int (1 ∷ [])))); lines = [] } ∷ []; lines = (1 ∷ []) })) (t.more_items (t.Statement (t.Switch (t.Name (codes "n") (1 ∷ [])) (t.Block (t.more_items (t.Statement (t.Case (t.Number 0 ty0.Int (1 ∷ [])) (t.Do (t.Block (t.more_items (t.Statement (t.ExprStmt (t.some_expr (t.PostDown (t.Name (codes "n") (1 ∷ [])) (1 ∷ []))) (1 ∷ []))) (t.more_items (t.Statement (t.Case (t.Number 1 ty0.Int (1 ∷ [])) (t.ExprStmt (t.some_expr (t.PostDown (t.Name (codes "n") (1 ∷ [])) (1 ∷ []))) (1 ∷ [])) (1 ∷ 1 ∷ []))) t.no_items)) (1 ∷ 1 ∷ [])) (t.Binary (t.Name (codes "n") (1 ∷ [])) punct.Greater (t.Number 0 ty0.Int (1 ∷ [])) (1 ∷ [])) (1 ∷ 1 ∷ 1 ∷ 1 ∷ 1 ∷ [])) (1 ∷ 1 ∷ []))) t.no_items) (1 ∷ 1 ∷ [])) (1 ∷ 1 ∷ 1 ∷ []))) (t.more_items (t.Statement (t.Return (t.some_expr (t.Number 0 ty0.Int (1 ∷ []))) (1 ∷ 1 ∷ []))) t.no_items))) (1 ∷ 1 ∷ []); lines = [] })) ∷ []; lines = [] })
unfolding layouts_of same_basic holds_const linkage_of clashes with_declaration with_content with_head unit_of landing puts_of constant_of is_null_constant pairing is_assignable check_gives check_chain check_here check_becomes check_look breaks node_rules rule_at same_key specs_type unary_of binary_of assignment_of
case_in_loop = refl

-- `int main(void) { switch (1) { case 1: switch (2) { case 1: ; default: ; } default: ; } return 0; }`
case_in_inner : is_fine (record { parts = (t.Defined (record { specs = (t.more_specs (t.Key keyword.Int (1 ∷ [])) t.no_specs); declarator = (t.Function (t.Identifier (codes "main") (1 ∷ [])) (t.more_params (t.Param (t.more_specs (t.Key keyword.Void (1 ∷ [])) t.no_specs) t.Missing []) t.no_params) false (1 ∷ 1 ∷ [])); body = t.Block (t.more_items (t.Statement (t.Switch (t.Number 1 ty0.Int (1 ∷ [])) (t.Block (t.more_items (t.Statement (t.Case (t.Number 1 ty0.Int (1 ∷ [])) (t.Switch (t.Number 2 ty0.Int (1 ∷ [])) (t.Block (t.more_items (t.Statement (t.Case (t.Number 1 ty0.Int (1 ∷ [])) (t.ExprStmt t.no_expr (1 ∷ [])) (1 ∷ 1 ∷ []))) (t.more_items (t.Statement (t.Default (t.ExprStmt t.no_expr (1 ∷ [])) (1 ∷ 1 ∷ []))) t.no_items)) (1 ∷ 1 ∷ [])) (1 ∷ 1 ∷ 1 ∷ [])) (1 ∷ 1 ∷ []))) (t.more_items (t.Statement (t.Default (t.ExprStmt t.no_expr (1 ∷ [])) (1 ∷ 1 ∷ []))) t.no_items)) (1 ∷ 1 ∷ [])) (1 ∷ 1 ∷ 1 ∷ []))) (t.more_items (t.Statement (t.Return (t.some_expr (t.Number 0 ty0.Int (1 ∷ []))) (1 ∷ 1 ∷ []))) t.no_items)) (1 ∷ 1 ∷ []); lines = [] })) ∷ []; lines = [] })
unfolding layouts_of same_basic holds_const linkage_of clashes with_declaration with_content with_head unit_of landing puts_of constant_of is_null_constant pairing is_assignable check_gives check_chain check_here check_becomes check_look breaks node_rules rule_at same_key specs_type unary_of binary_of assignment_of
case_in_inner = refl

-- `int main(void) { switch (1) { case 1: switch (2) { case 2: ; } case 1: ; } return 0; }`
case_after_inner : is_refused (record { parts = (t.Defined (record { specs = (t.more_specs (t.Key keyword.Int (1 ∷ [])) t.no_specs); declarator = (t.Function (t.Identifier (codes "main") (1 ∷ [])) (t.more_params (t.Param (t.more_specs (t.Key keyword.Void (1 ∷ [])) t.no_specs) t.Missing []) t.no_params) false (1 ∷ 1 ∷ [])); body = t.Block (t.more_items (t.Statement (t.Switch (t.Number 1 ty0.Int (1 ∷ [])) (t.Block (t.more_items (t.Statement (t.Case (t.Number 1 ty0.Int (1 ∷ [])) (t.Switch (t.Number 2 ty0.Int (1 ∷ [])) (t.Block (t.more_items (t.Statement (t.Case (t.Number 2 ty0.Int (1 ∷ [])) (t.ExprStmt t.no_expr (1 ∷ [])) (1 ∷ 1 ∷ []))) t.no_items) (1 ∷ 1 ∷ [])) (1 ∷ 1 ∷ 1 ∷ [])) (1 ∷ 1 ∷ []))) (t.more_items (t.Statement (t.Case (t.Number 1 ty0.Int (1 ∷ [])) (t.ExprStmt t.no_expr (1 ∷ [])) (1 ∷ 1 ∷ []))) t.no_items)) (1 ∷ 1 ∷ [])) (1 ∷ 1 ∷ 1 ∷ []))) (t.more_items (t.Statement (t.Return (t.some_expr (t.Number 0 ty0.Int (1 ∷ []))) (1 ∷ 1 ∷ []))) t.no_items)) (1 ∷ 1 ∷ []); lines = [] })) ∷ []; lines = [] }) rule.K18 1
unfolding layouts_of same_basic holds_const linkage_of clashes with_declaration with_content with_head unit_of landing puts_of constant_of is_null_constant pairing is_assignable check_gives check_chain check_here check_becomes check_look breaks node_rules rule_at same_key specs_type unary_of binary_of assignment_of
case_after_inner = refl

-- `int main(void) { switch (1u) { case -1: ; case 4294967295: ; } return 0; }`
case_converted : is_refused (record { parts = (t.Defined (record { specs = (t.more_specs (t.Key keyword.Int (1 ∷ [])) t.no_specs); declarator = (t.Function (t.Identifier (codes "main") (1 ∷ [])) (t.more_params (t.Param (t.more_specs (t.Key keyword.Void (1 ∷ [])) t.no_specs) t.Missing []) t.no_params) false (1 ∷ 1 ∷ [])); body = t.Block (t.more_items (t.Statement (t.Switch (t.Number 1 ty0.Unsigned (1 ∷ [])) (t.Block (t.more_items (t.Statement (t.Case (t.Unary punct.Minus (t.Number 1 ty0.Int (1 ∷ [])) (1 ∷ [])) (t.ExprStmt t.no_expr (1 ∷ [])) (1 ∷ 1 ∷ []))) (t.more_items (t.Statement (t.Case (t.Number 4294967295 ty0.Long (1 ∷ [])) (t.ExprStmt t.no_expr (1 ∷ [])) (1 ∷ 1 ∷ []))) t.no_items)) (1 ∷ 1 ∷ [])) (1 ∷ 1 ∷ 1 ∷ []))) (t.more_items (t.Statement (t.Return (t.some_expr (t.Number 0 ty0.Int (1 ∷ []))) (1 ∷ 1 ∷ []))) t.no_items)) (1 ∷ 1 ∷ []); lines = [] })) ∷ []; lines = [] }) rule.K18 1
unfolding layouts_of same_basic holds_const linkage_of clashes with_declaration with_content with_head unit_of landing puts_of constant_of is_null_constant pairing is_assignable check_gives check_chain check_here check_becomes check_look breaks node_rules rule_at same_key specs_type unary_of binary_of assignment_of
case_converted = refl

-- `int main(void) { switch (1l) { case -1: ; case 4294967295: ; } return 0; }`
case_long : is_fine (record { parts = (t.Defined (record { specs = (t.more_specs (t.Key keyword.Int (1 ∷ [])) t.no_specs); declarator = (t.Function (t.Identifier (codes "main") (1 ∷ [])) (t.more_params (t.Param (t.more_specs (t.Key keyword.Void (1 ∷ [])) t.no_specs) t.Missing []) t.no_params) false (1 ∷ 1 ∷ [])); body = t.Block (t.more_items (t.Statement (t.Switch (t.Number 1 ty0.Long (1 ∷ [])) (t.Block (t.more_items (t.Statement (t.Case (t.Unary punct.Minus (t.Number 1 ty0.Int (1 ∷ [])) (1 ∷ [])) (t.ExprStmt t.no_expr (1 ∷ [])) (1 ∷ 1 ∷ []))) (t.more_items (t.Statement (t.Case (t.Number 4294967295 ty0.Long (1 ∷ [])) (t.ExprStmt t.no_expr (1 ∷ [])) (1 ∷ 1 ∷ []))) t.no_items)) (1 ∷ 1 ∷ [])) (1 ∷ 1 ∷ 1 ∷ []))) (t.more_items (t.Statement (t.Return (t.some_expr (t.Number 0 ty0.Int (1 ∷ []))) (1 ∷ 1 ∷ []))) t.no_items)) (1 ∷ 1 ∷ []); lines = [] })) ∷ []; lines = [] })
unfolding layouts_of same_basic holds_const linkage_of clashes with_declaration with_content with_head unit_of landing puts_of constant_of is_null_constant pairing is_assignable check_gives check_chain check_here check_becomes check_look breaks node_rules rule_at same_key specs_type unary_of binary_of assignment_of
case_long = refl

-- `int main(void) { switch (1) { case 1 / 0: ; } return 0; }`
case_undefined : is_refused (record { parts = (t.Defined (record { specs = (t.more_specs (t.Key keyword.Int (1 ∷ [])) t.no_specs); declarator = (t.Function (t.Identifier (codes "main") (1 ∷ [])) (t.more_params (t.Param (t.more_specs (t.Key keyword.Void (1 ∷ [])) t.no_specs) t.Missing []) t.no_params) false (1 ∷ 1 ∷ [])); body = t.Block (t.more_items (t.Statement (t.Switch (t.Number 1 ty0.Int (1 ∷ [])) (t.Block (t.more_items (t.Statement (t.Case (t.Binary (t.Number 1 ty0.Int (1 ∷ [])) punct.Slash (t.Number 0 ty0.Int (1 ∷ [])) (1 ∷ [])) (t.ExprStmt t.no_expr (1 ∷ [])) (1 ∷ 1 ∷ []))) t.no_items) (1 ∷ 1 ∷ [])) (1 ∷ 1 ∷ 1 ∷ []))) (t.more_items (t.Statement (t.Return (t.some_expr (t.Number 0 ty0.Int (1 ∷ []))) (1 ∷ 1 ∷ []))) t.no_items)) (1 ∷ 1 ∷ []); lines = [] })) ∷ []; lines = [] }) rule.K17 1
unfolding layouts_of same_basic holds_const linkage_of clashes with_declaration with_content with_head unit_of landing puts_of constant_of is_null_constant pairing is_assignable check_gives check_chain check_here check_becomes check_look breaks node_rules rule_at same_key specs_type unary_of binary_of assignment_of
case_undefined = refl

-- `int main(void) { while (0) switch (1) { case 1: continue; } return 0; }`
continue_in_switch_in_loop : is_fine (record { parts = (t.Defined (record { specs = (t.more_specs (t.Key keyword.Int (1 ∷ [])) t.no_specs); declarator = (t.Function (t.Identifier (codes "main") (1 ∷ [])) (t.more_params (t.Param (t.more_specs (t.Key keyword.Void (1 ∷ [])) t.no_specs) t.Missing []) t.no_params) false (1 ∷ 1 ∷ [])); body = t.Block (t.more_items (t.Statement (t.While (t.Number 0 ty0.Int (1 ∷ [])) (t.Switch (t.Number 1 ty0.Int (1 ∷ [])) (t.Block (t.more_items (t.Statement (t.Case (t.Number 1 ty0.Int (1 ∷ [])) (t.Continue (1 ∷ 1 ∷ [])) (1 ∷ 1 ∷ []))) t.no_items) (1 ∷ 1 ∷ [])) (1 ∷ 1 ∷ 1 ∷ [])) (1 ∷ 1 ∷ 1 ∷ []))) (t.more_items (t.Statement (t.Return (t.some_expr (t.Number 0 ty0.Int (1 ∷ []))) (1 ∷ 1 ∷ []))) t.no_items)) (1 ∷ 1 ∷ []); lines = [] })) ∷ []; lines = [] })
unfolding layouts_of same_basic holds_const linkage_of clashes with_declaration with_content with_head unit_of landing puts_of constant_of is_null_constant pairing is_assignable check_gives check_chain check_here check_becomes check_look breaks node_rules rule_at same_key specs_type unary_of binary_of assignment_of
continue_in_switch_in_loop = refl

-- `int main(void) { if (1) break; return 0; }`
break_in_if : is_refused (record { parts = (t.Defined (record { specs = (t.more_specs (t.Key keyword.Int (1 ∷ [])) t.no_specs); declarator = (t.Function (t.Identifier (codes "main") (1 ∷ [])) (t.more_params (t.Param (t.more_specs (t.Key keyword.Void (1 ∷ [])) t.no_specs) t.Missing []) t.no_params) false (1 ∷ 1 ∷ [])); body = t.Block (t.more_items (t.Statement (t.If (t.Number 1 ty0.Int (1 ∷ [])) (t.Break (1 ∷ 1 ∷ [])) t.no_stmt (1 ∷ 1 ∷ 1 ∷ 1 ∷ []))) (t.more_items (t.Statement (t.Return (t.some_expr (t.Number 0 ty0.Int (1 ∷ []))) (1 ∷ 1 ∷ []))) t.no_items)) (1 ∷ 1 ∷ []); lines = [] })) ∷ []; lines = [] }) rule.K18 1
unfolding layouts_of same_basic holds_const linkage_of clashes with_declaration with_content with_head unit_of landing puts_of constant_of is_null_constant pairing is_assignable check_gives check_chain check_here check_becomes check_look breaks node_rules rule_at same_key specs_type unary_of binary_of assignment_of
break_in_if = refl

-- `int main(void) { a: ; { a: ; } return 0; }`
label_twice_apart : is_refused (record { parts = (t.Defined (record { specs = (t.more_specs (t.Key keyword.Int (1 ∷ [])) t.no_specs); declarator = (t.Function (t.Identifier (codes "main") (1 ∷ [])) (t.more_params (t.Param (t.more_specs (t.Key keyword.Void (1 ∷ [])) t.no_specs) t.Missing []) t.no_params) false (1 ∷ 1 ∷ [])); body = t.Block (t.more_items (t.Statement (t.Label (codes "a") (t.ExprStmt t.no_expr (1 ∷ [])) (1 ∷ 1 ∷ []))) (t.more_items (t.Statement (t.Block (t.more_items (t.Statement (t.Label (codes "a") (t.ExprStmt t.no_expr (1 ∷ [])) (1 ∷ 1 ∷ []))) t.no_items) (1 ∷ 1 ∷ []))) (t.more_items (t.Statement (t.Return (t.some_expr (t.Number 0 ty0.Int (1 ∷ []))) (1 ∷ 1 ∷ []))) t.no_items))) (1 ∷ 1 ∷ []); lines = [] })) ∷ []; lines = [] }) rule.K19 1
unfolding layouts_of same_basic holds_const linkage_of clashes with_declaration with_content with_head unit_of landing puts_of constant_of is_null_constant pairing is_assignable check_gives check_chain check_here check_becomes check_look breaks node_rules rule_at same_key specs_type unary_of binary_of assignment_of
label_twice_apart = refl

-- `int main(void) { goto a; { a: ; } return 0; }`
goto_into_block : is_fine (record { parts = (t.Defined (record { specs = (t.more_specs (t.Key keyword.Int (1 ∷ [])) t.no_specs); declarator = (t.Function (t.Identifier (codes "main") (1 ∷ [])) (t.more_params (t.Param (t.more_specs (t.Key keyword.Void (1 ∷ [])) t.no_specs) t.Missing []) t.no_params) false (1 ∷ 1 ∷ [])); body = t.Block (t.more_items (t.Statement (t.Goto (codes "a") (1 ∷ 1 ∷ 1 ∷ []))) (t.more_items (t.Statement (t.Block (t.more_items (t.Statement (t.Label (codes "a") (t.ExprStmt t.no_expr (1 ∷ [])) (1 ∷ 1 ∷ []))) t.no_items) (1 ∷ 1 ∷ []))) (t.more_items (t.Statement (t.Return (t.some_expr (t.Number 0 ty0.Int (1 ∷ []))) (1 ∷ 1 ∷ []))) t.no_items))) (1 ∷ 1 ∷ []); lines = [] })) ∷ []; lines = [] })
unfolding layouts_of same_basic holds_const linkage_of clashes with_declaration with_content with_head unit_of landing puts_of constant_of is_null_constant pairing is_assignable check_gives check_chain check_here check_becomes check_look breaks node_rules rule_at same_key specs_type unary_of binary_of assignment_of
goto_into_block = refl

-- `char f(void) { return 1000; } int main(void) { return f(); }`
return_converts : is_fine (record { parts = (t.Defined (record { specs = (t.more_specs (t.Key keyword.Char (1 ∷ [])) t.no_specs); declarator = (t.Function (t.Identifier (codes "f") (1 ∷ [])) (t.more_params (t.Param (t.more_specs (t.Key keyword.Void (1 ∷ [])) t.no_specs) t.Missing []) t.no_params) false (1 ∷ 1 ∷ [])); body = t.Block (t.more_items (t.Statement (t.Return (t.some_expr (t.Number 1000 ty0.Int (1 ∷ []))) (1 ∷ 1 ∷ []))) t.no_items) (1 ∷ 1 ∷ []); lines = [] })) ∷ (t.Defined (record { specs = (t.more_specs (t.Key keyword.Int (1 ∷ [])) t.no_specs); declarator = (t.Function (t.Identifier (codes "main") (1 ∷ [])) (t.more_params (t.Param (t.more_specs (t.Key keyword.Void (1 ∷ [])) t.no_specs) t.Missing []) t.no_params) false (1 ∷ 1 ∷ [])); body = t.Block (t.more_items (t.Statement (t.Return (t.some_expr (t.Call (t.Name (codes "f") (1 ∷ [])) t.no_exprs (1 ∷ 1 ∷ []))) (1 ∷ 1 ∷ []))) t.no_items) (1 ∷ 1 ∷ []); lines = [] })) ∷ []; lines = [] })
unfolding layouts_of same_basic holds_const linkage_of clashes with_declaration with_content with_head unit_of landing puts_of constant_of is_null_constant pairing is_assignable check_gives check_chain check_here check_becomes check_look breaks node_rules rule_at same_key specs_type unary_of binary_of assignment_of
return_converts = refl

-- `int f(void) { int *p = 0; return p; }`
return_other : is_refused (record { parts = (t.Defined (record { specs = (t.more_specs (t.Key keyword.Int (1 ∷ [])) t.no_specs); declarator = (t.Function (t.Identifier (codes "f") (1 ∷ [])) (t.more_params (t.Param (t.more_specs (t.Key keyword.Void (1 ∷ [])) t.no_specs) t.Missing []) t.no_params) false (1 ∷ 1 ∷ [])); body = t.Block (t.more_items (t.Declared (record { specs = (t.more_specs (t.Key keyword.Int (1 ∷ [])) t.no_specs); list = record { declarator = (t.Pointer [] (t.Identifier (codes "p") (1 ∷ [])) (1 ∷ [])); init = (Some (t.Single (t.Number 0 ty0.Int (1 ∷ [])))); lines = [] } ∷ []; lines = (1 ∷ []) })) (t.more_items (t.Statement (t.Return (t.some_expr (t.Name (codes "p") (1 ∷ []))) (1 ∷ 1 ∷ []))) t.no_items)) (1 ∷ 1 ∷ []); lines = [] })) ∷ []; lines = [] }) rule.K12 1
unfolding layouts_of same_basic holds_const linkage_of clashes with_declaration with_content with_head unit_of landing puts_of constant_of is_null_constant pairing is_assignable check_gives check_chain check_here check_becomes check_look breaks node_rules rule_at same_key specs_type unary_of binary_of assignment_of
return_other = refl

-- `void g(void); void f(void) { return g(); }`
return_void_call : is_refused (record { parts = (t.Declaration (record { specs = (t.more_specs (t.Key keyword.Void (1 ∷ [])) t.no_specs); list = record { declarator = (t.Function (t.Identifier (codes "g") (1 ∷ [])) (t.more_params (t.Param (t.more_specs (t.Key keyword.Void (1 ∷ [])) t.no_specs) t.Missing []) t.no_params) false (1 ∷ 1 ∷ [])); init = None; lines = [] } ∷ []; lines = (1 ∷ []) })) ∷ (t.Defined (record { specs = (t.more_specs (t.Key keyword.Void (1 ∷ [])) t.no_specs); declarator = (t.Function (t.Identifier (codes "f") (1 ∷ [])) (t.more_params (t.Param (t.more_specs (t.Key keyword.Void (1 ∷ [])) t.no_specs) t.Missing []) t.no_params) false (1 ∷ 1 ∷ [])); body = t.Block (t.more_items (t.Statement (t.Return (t.some_expr (t.Call (t.Name (codes "g") (1 ∷ [])) t.no_exprs (1 ∷ 1 ∷ []))) (1 ∷ 1 ∷ []))) t.no_items) (1 ∷ 1 ∷ []); lines = [] })) ∷ []; lines = [] }) rule.K20 1
unfolding layouts_of same_basic holds_const linkage_of clashes with_declaration with_content with_head unit_of landing puts_of constant_of is_null_constant pairing is_assignable check_gives check_chain check_here check_becomes check_look breaks node_rules rule_at same_key specs_type unary_of binary_of assignment_of
return_void_call = refl

-- `void g(void); int f(void) { return g(); }`
return_of_void : is_refused (record { parts = (t.Declaration (record { specs = (t.more_specs (t.Key keyword.Void (1 ∷ [])) t.no_specs); list = record { declarator = (t.Function (t.Identifier (codes "g") (1 ∷ [])) (t.more_params (t.Param (t.more_specs (t.Key keyword.Void (1 ∷ [])) t.no_specs) t.Missing []) t.no_params) false (1 ∷ 1 ∷ [])); init = None; lines = [] } ∷ []; lines = (1 ∷ []) })) ∷ (t.Defined (record { specs = (t.more_specs (t.Key keyword.Int (1 ∷ [])) t.no_specs); declarator = (t.Function (t.Identifier (codes "f") (1 ∷ [])) (t.more_params (t.Param (t.more_specs (t.Key keyword.Void (1 ∷ [])) t.no_specs) t.Missing []) t.no_params) false (1 ∷ 1 ∷ [])); body = t.Block (t.more_items (t.Statement (t.Return (t.some_expr (t.Call (t.Name (codes "g") (1 ∷ [])) t.no_exprs (1 ∷ 1 ∷ []))) (1 ∷ 1 ∷ []))) t.no_items) (1 ∷ 1 ∷ []); lines = [] })) ∷ []; lines = [] }) rule.K10 1
unfolding layouts_of same_basic holds_const linkage_of clashes with_declaration with_content with_head unit_of landing puts_of constant_of is_null_constant pairing is_assignable check_gives check_chain check_here check_becomes check_look breaks node_rules rule_at same_key specs_type unary_of binary_of assignment_of
return_of_void = refl

-- `struct s { int a; } x; struct s f(void) { return x; }`
return_record : is_fine (record { parts = (t.Declaration (record { specs = (t.more_specs (t.Record false (Some (codes "s")) (t.some_members (t.more_member_decls (t.MemberDecl (t.more_specs (t.Key keyword.Int (1 ∷ [])) t.no_specs) (t.more_member_declarators (t.MemberDeclarator (t.Identifier (codes "a") (1 ∷ [])) t.no_expr (1 ∷ [])) t.no_member_declarators) (1 ∷ [])) t.no_member_decls)) (1 ∷ 1 ∷ 1 ∷ [])) t.no_specs); list = record { declarator = (t.Identifier (codes "x") (1 ∷ [])); init = None; lines = [] } ∷ []; lines = (1 ∷ []) })) ∷ (t.Defined (record { specs = (t.more_specs (t.Record false (Some (codes "s")) t.no_members (1 ∷ 1 ∷ [])) t.no_specs); declarator = (t.Function (t.Identifier (codes "f") (1 ∷ [])) (t.more_params (t.Param (t.more_specs (t.Key keyword.Void (1 ∷ [])) t.no_specs) t.Missing []) t.no_params) false (1 ∷ 1 ∷ [])); body = t.Block (t.more_items (t.Statement (t.Return (t.some_expr (t.Name (codes "x") (1 ∷ []))) (1 ∷ 1 ∷ []))) t.no_items) (1 ∷ 1 ∷ []); lines = [] })) ∷ []; lines = [] })
unfolding layouts_of same_basic holds_const linkage_of clashes with_declaration with_content with_head unit_of landing puts_of constant_of is_null_constant pairing is_assignable check_gives check_chain check_here check_becomes check_look breaks node_rules rule_at same_key specs_type unary_of binary_of assignment_of
return_record = refl

-- `int main(void) { if (a) return b; return 0; }`
condition_before_body : is_refused (record { parts = (t.Defined (record { specs = (t.more_specs (t.Key keyword.Int (1 ∷ [])) t.no_specs); declarator = (t.Function (t.Identifier (codes "main") (1 ∷ [])) (t.more_params (t.Param (t.more_specs (t.Key keyword.Void (1 ∷ [])) t.no_specs) t.Missing []) t.no_params) false (1 ∷ 1 ∷ [])); body = t.Block (t.more_items (t.Statement (t.If (t.Name (codes "a") (1 ∷ [])) (t.Return (t.some_expr (t.Name (codes "b") (1 ∷ []))) (1 ∷ 1 ∷ [])) t.no_stmt (1 ∷ 1 ∷ 1 ∷ 1 ∷ []))) (t.more_items (t.Statement (t.Return (t.some_expr (t.Number 0 ty0.Int (1 ∷ []))) (1 ∷ 1 ∷ []))) t.no_items)) (1 ∷ 1 ∷ []); lines = [] })) ∷ []; lines = [] }) rule.K1 1
unfolding layouts_of same_basic holds_const linkage_of clashes with_declaration with_content with_head unit_of landing puts_of constant_of is_null_constant pairing is_assignable check_gives check_chain check_here check_becomes check_look breaks node_rules rule_at same_key specs_type unary_of binary_of assignment_of
condition_before_body = refl

-- `struct s { int a; } x; int main(void) { while (x) return y; return 0; }`
body_before_loop : is_refused (record { parts = (t.Declaration (record { specs = (t.more_specs (t.Record false (Some (codes "s")) (t.some_members (t.more_member_decls (t.MemberDecl (t.more_specs (t.Key keyword.Int (1 ∷ [])) t.no_specs) (t.more_member_declarators (t.MemberDeclarator (t.Identifier (codes "a") (1 ∷ [])) t.no_expr (1 ∷ [])) t.no_member_declarators) (1 ∷ [])) t.no_member_decls)) (1 ∷ 1 ∷ 1 ∷ [])) t.no_specs); list = record { declarator = (t.Identifier (codes "x") (1 ∷ [])); init = None; lines = [] } ∷ []; lines = (1 ∷ []) })) ∷ (t.Defined (record { specs = (t.more_specs (t.Key keyword.Int (1 ∷ [])) t.no_specs); declarator = (t.Function (t.Identifier (codes "main") (1 ∷ [])) (t.more_params (t.Param (t.more_specs (t.Key keyword.Void (1 ∷ [])) t.no_specs) t.Missing []) t.no_params) false (1 ∷ 1 ∷ [])); body = t.Block (t.more_items (t.Statement (t.While (t.Name (codes "x") (1 ∷ [])) (t.Return (t.some_expr (t.Name (codes "y") (2 ∷ []))) (2 ∷ 2 ∷ [])) (1 ∷ 1 ∷ 1 ∷ []))) (t.more_items (t.Statement (t.Return (t.some_expr (t.Number 0 ty0.Int (2 ∷ []))) (2 ∷ 2 ∷ []))) t.no_items)) (1 ∷ 1 ∷ []); lines = [] })) ∷ []; lines = [] }) rule.K1 2
unfolding layouts_of same_basic holds_const linkage_of clashes with_declaration with_content with_head unit_of landing puts_of constant_of is_null_constant pairing is_assignable check_gives check_chain check_here check_becomes check_look breaks node_rules rule_at same_key specs_type unary_of binary_of assignment_of
body_before_loop = refl

-- `int main(void) { for (;; a) return b; return 0; }`
third_before_body : is_refused (record { parts = (t.Defined (record { specs = (t.more_specs (t.Key keyword.Int (1 ∷ [])) t.no_specs); declarator = (t.Function (t.Identifier (codes "main") (1 ∷ [])) (t.more_params (t.Param (t.more_specs (t.Key keyword.Void (1 ∷ [])) t.no_specs) t.Missing []) t.no_params) false (1 ∷ 1 ∷ [])); body = t.Block (t.more_items (t.Statement (t.For (t.FirstValue t.no_expr) t.no_expr (t.some_expr (t.Name (codes "a") (1 ∷ []))) (t.Return (t.some_expr (t.Name (codes "b") (2 ∷ []))) (2 ∷ 2 ∷ [])) (1 ∷ 1 ∷ 1 ∷ 1 ∷ 1 ∷ []))) (t.more_items (t.Statement (t.Return (t.some_expr (t.Number 0 ty0.Int (2 ∷ []))) (2 ∷ 2 ∷ []))) t.no_items)) (1 ∷ 1 ∷ []); lines = [] })) ∷ []; lines = [] }) rule.K1 1
unfolding layouts_of same_basic holds_const linkage_of clashes with_declaration with_content with_head unit_of landing puts_of constant_of is_null_constant pairing is_assignable check_gives check_chain check_here check_becomes check_look breaks node_rules rule_at same_key specs_type unary_of binary_of assignment_of
third_before_body = refl

-- Composite types

-- `int a[3]; extern int a[]; char b[sizeof a == 12 ? 1 : -1];`
later_without_length : is_fine (record { parts = (t.Declaration (record { specs = (t.more_specs (t.Key keyword.Int (1 ∷ [])) t.no_specs); list = record { declarator = (t.Array (t.Identifier (codes "a") (1 ∷ [])) (t.Length [] (t.Number 3 ty0.Int (1 ∷ []))) (1 ∷ 1 ∷ [])); init = None; lines = [] } ∷ []; lines = (1 ∷ []) })) ∷ (t.Declaration (record { specs = (t.more_specs (t.Key keyword.Extern (1 ∷ [])) (t.more_specs (t.Key keyword.Int (1 ∷ [])) t.no_specs)); list = record { declarator = (t.Array (t.Identifier (codes "a") (1 ∷ [])) (t.Unsized []) (1 ∷ 1 ∷ [])); init = None; lines = [] } ∷ []; lines = (1 ∷ []) })) ∷ (t.Declaration (record { specs = (t.more_specs (t.Key keyword.Char (1 ∷ [])) t.no_specs); list = record { declarator = (t.Array (t.Identifier (codes "b") (1 ∷ [])) (t.Length [] (t.Cond (t.Binary (t.SizeofExpr (t.Name (codes "a") (1 ∷ [])) (1 ∷ [])) punct.EqualEqual (t.Number 12 ty0.Int (1 ∷ [])) (1 ∷ [])) (t.Number 1 ty0.Int (1 ∷ [])) (t.Unary punct.Minus (t.Number 1 ty0.Int (1 ∷ [])) (1 ∷ [])) (1 ∷ 1 ∷ []))) (1 ∷ 1 ∷ [])); init = None; lines = [] } ∷ []; lines = (1 ∷ []) })) ∷ []; lines = [] })
unfolding layouts_of same_basic holds_const linkage_of clashes with_declaration with_content with_head unit_of landing puts_of constant_of is_null_constant pairing is_assignable check_gives check_chain check_here check_becomes check_look breaks node_rules rule_at same_key specs_type unary_of binary_of assignment_of
later_without_length = refl

-- `int a[3]; int main(void) { extern int a[]; char b[sizeof a == 12 ? 1 : -1]; return 0; }`
length_seen_in_block : is_fine (record { parts = (t.Declaration (record { specs = (t.more_specs (t.Key keyword.Int (1 ∷ [])) t.no_specs); list = record { declarator = (t.Array (t.Identifier (codes "a") (1 ∷ [])) (t.Length [] (t.Number 3 ty0.Int (1 ∷ []))) (1 ∷ 1 ∷ [])); init = None; lines = [] } ∷ []; lines = (1 ∷ []) })) ∷ (t.Defined (record { specs = (t.more_specs (t.Key keyword.Int (1 ∷ [])) t.no_specs); declarator = (t.Function (t.Identifier (codes "main") (1 ∷ [])) (t.more_params (t.Param (t.more_specs (t.Key keyword.Void (1 ∷ [])) t.no_specs) t.Missing []) t.no_params) false (1 ∷ 1 ∷ [])); body = t.Block (t.more_items (t.Declared (record { specs = (t.more_specs (t.Key keyword.Extern (1 ∷ [])) (t.more_specs (t.Key keyword.Int (1 ∷ [])) t.no_specs)); list = record { declarator = (t.Array (t.Identifier (codes "a") (1 ∷ [])) (t.Unsized []) (1 ∷ 1 ∷ [])); init = None; lines = [] } ∷ []; lines = (1 ∷ []) })) (t.more_items (t.Declared (record { specs = (t.more_specs (t.Key keyword.Char (1 ∷ [])) t.no_specs); list = record { declarator = (t.Array (t.Identifier (codes "b") (1 ∷ [])) (t.Length [] (t.Cond (t.Binary (t.SizeofExpr (t.Name (codes "a") (1 ∷ [])) (1 ∷ [])) punct.EqualEqual (t.Number 12 ty0.Int (1 ∷ [])) (1 ∷ [])) (t.Number 1 ty0.Int (1 ∷ [])) (t.Unary punct.Minus (t.Number 1 ty0.Int (1 ∷ [])) (1 ∷ [])) (1 ∷ 1 ∷ []))) (1 ∷ 1 ∷ [])); init = None; lines = [] } ∷ []; lines = (1 ∷ []) })) (t.more_items (t.Statement (t.Return (t.some_expr (t.Number 0 ty0.Int (1 ∷ []))) (1 ∷ 1 ∷ []))) t.no_items))) (1 ∷ 1 ∷ []); lines = [] })) ∷ []; lines = [] })
unfolding layouts_of same_basic holds_const linkage_of clashes with_declaration with_content with_head unit_of landing puts_of constant_of is_null_constant pairing is_assignable check_gives check_chain check_here check_becomes check_look breaks node_rules rule_at same_key specs_type unary_of binary_of assignment_of
length_seen_in_block = refl

-- `int f(int); int main(void) { int f(); return f(1, 2); }`
function_seen_in_block : is_refused (record { parts = (t.Declaration (record { specs = (t.more_specs (t.Key keyword.Int (1 ∷ [])) t.no_specs); list = record { declarator = (t.Function (t.Identifier (codes "f") (1 ∷ [])) (t.more_params (t.Param (t.more_specs (t.Key keyword.Int (1 ∷ [])) t.no_specs) t.Missing []) t.no_params) false (1 ∷ 1 ∷ [])); init = None; lines = [] } ∷ []; lines = (1 ∷ []) })) ∷ (t.Defined (record { specs = (t.more_specs (t.Key keyword.Int (1 ∷ [])) t.no_specs); declarator = (t.Function (t.Identifier (codes "main") (1 ∷ [])) (t.more_params (t.Param (t.more_specs (t.Key keyword.Void (1 ∷ [])) t.no_specs) t.Missing []) t.no_params) false (1 ∷ 1 ∷ [])); body = t.Block (t.more_items (t.Declared (record { specs = (t.more_specs (t.Key keyword.Int (1 ∷ [])) t.no_specs); list = record { declarator = (t.Identifiers (t.Identifier (codes "f") (1 ∷ [])) [] (1 ∷ 1 ∷ [])); init = None; lines = [] } ∷ []; lines = (1 ∷ []) })) (t.more_items (t.Statement (t.Return (t.some_expr (t.Call (t.Name (codes "f") (1 ∷ [])) (t.more_exprs (t.Number 1 ty0.Int (1 ∷ [])) (t.more_exprs (t.Number 2 ty0.Int (1 ∷ [])) t.no_exprs)) (1 ∷ 1 ∷ []))) (1 ∷ 1 ∷ []))) t.no_items)) (1 ∷ 1 ∷ []); lines = [] })) ∷ []; lines = [] }) rule.K9 1
unfolding layouts_of same_basic holds_const linkage_of clashes with_declaration with_content with_head unit_of landing puts_of constant_of is_null_constant pairing is_assignable check_gives check_chain check_here check_becomes check_look breaks node_rules rule_at same_key specs_type unary_of binary_of assignment_of
function_seen_in_block = refl

-- Types that an initialiser or another declaration of the unit completes

-- `int f(void) { extern int a[2]; return 0; }` and on line 2 `int a[] = {1, 2, 3};`
other_length_by_initialiser : is_refused (record { parts = (t.Defined (record { specs = (t.more_specs (t.Key keyword.Int (1 ∷ [])) t.no_specs); declarator = (t.Function (t.Identifier (codes "f") (1 ∷ [])) (t.more_params (t.Param (t.more_specs (t.Key keyword.Void (1 ∷ [])) t.no_specs) t.Missing []) t.no_params) false (1 ∷ 1 ∷ [])); body = t.Block (t.more_items (t.Declared (record { specs = (t.more_specs (t.Key keyword.Extern (1 ∷ [])) (t.more_specs (t.Key keyword.Int (1 ∷ [])) t.no_specs)); list = record { declarator = (t.Array (t.Identifier (codes "a") (1 ∷ [])) (t.Length [] (t.Number 2 ty0.Int (1 ∷ []))) (1 ∷ 1 ∷ [])); init = None; lines = [] } ∷ []; lines = (1 ∷ []) })) (t.more_items (t.Statement (t.Return (t.some_expr (t.Number 0 ty0.Int (1 ∷ []))) (1 ∷ 1 ∷ []))) t.no_items)) (1 ∷ 1 ∷ []); lines = [] })) ∷ (t.Declaration (record { specs = (t.more_specs (t.Key keyword.Int (2 ∷ [])) t.no_specs); list = record { declarator = (t.Array (t.Identifier (codes "a") (2 ∷ [])) (t.Unsized []) (2 ∷ 2 ∷ [])); init = (Some (t.Braced (t.InitialiserList (t.more_entries (t.Entry t.no_designators (t.Single (t.Number 1 ty0.Int (2 ∷ []))) []) (t.more_entries (t.Entry t.no_designators (t.Single (t.Number 2 ty0.Int (2 ∷ []))) []) (t.more_entries (t.Entry t.no_designators (t.Single (t.Number 3 ty0.Int (2 ∷ []))) []) t.no_entries))) false (2 ∷ 2 ∷ 2 ∷ 2 ∷ [])))); lines = [] } ∷ []; lines = (2 ∷ []) })) ∷ []; lines = [] }) rule.K2 2
unfolding layouts_of same_basic holds_const linkage_of clashes with_declaration with_content with_head unit_of landing puts_of constant_of is_null_constant pairing is_assignable check_gives check_chain check_here check_becomes check_look breaks node_rules rule_at same_key specs_type unary_of binary_of assignment_of
other_length_by_initialiser = refl

-- `int f(void) { extern int a[3]; return 0; }` and on line 2 `int a[] = {1, 2, 3};`
same_length_by_initialiser : is_fine (record { parts = (t.Defined (record { specs = (t.more_specs (t.Key keyword.Int (1 ∷ [])) t.no_specs); declarator = (t.Function (t.Identifier (codes "f") (1 ∷ [])) (t.more_params (t.Param (t.more_specs (t.Key keyword.Void (1 ∷ [])) t.no_specs) t.Missing []) t.no_params) false (1 ∷ 1 ∷ [])); body = t.Block (t.more_items (t.Declared (record { specs = (t.more_specs (t.Key keyword.Extern (1 ∷ [])) (t.more_specs (t.Key keyword.Int (1 ∷ [])) t.no_specs)); list = record { declarator = (t.Array (t.Identifier (codes "a") (1 ∷ [])) (t.Length [] (t.Number 3 ty0.Int (1 ∷ []))) (1 ∷ 1 ∷ [])); init = None; lines = [] } ∷ []; lines = (1 ∷ []) })) (t.more_items (t.Statement (t.Return (t.some_expr (t.Number 0 ty0.Int (1 ∷ []))) (1 ∷ 1 ∷ []))) t.no_items)) (1 ∷ 1 ∷ []); lines = [] })) ∷ (t.Declaration (record { specs = (t.more_specs (t.Key keyword.Int (2 ∷ [])) t.no_specs); list = record { declarator = (t.Array (t.Identifier (codes "a") (2 ∷ [])) (t.Unsized []) (2 ∷ 2 ∷ [])); init = (Some (t.Braced (t.InitialiserList (t.more_entries (t.Entry t.no_designators (t.Single (t.Number 1 ty0.Int (2 ∷ []))) []) (t.more_entries (t.Entry t.no_designators (t.Single (t.Number 2 ty0.Int (2 ∷ []))) []) (t.more_entries (t.Entry t.no_designators (t.Single (t.Number 3 ty0.Int (2 ∷ []))) []) t.no_entries))) false (2 ∷ 2 ∷ 2 ∷ 2 ∷ [])))); lines = [] } ∷ []; lines = (2 ∷ []) })) ∷ []; lines = [] })
unfolding layouts_of same_basic holds_const linkage_of clashes with_declaration with_content with_head unit_of landing puts_of constant_of is_null_constant pairing is_assignable check_gives check_chain check_here check_becomes check_look breaks node_rules rule_at same_key specs_type unary_of binary_of assignment_of
same_length_by_initialiser = refl

-- `void f(void) { extern int (*p)[2]; }`, on line 2 `int (*p)[] = 0;` and on line 3 `void g(void) { extern int (*p)[3]; }`
other_length_behind_initialiser : is_refused (record { parts = (t.Defined (record { specs = (t.more_specs (t.Key keyword.Void (1 ∷ [])) t.no_specs); declarator = (t.Function (t.Identifier (codes "f") (1 ∷ [])) (t.more_params (t.Param (t.more_specs (t.Key keyword.Void (1 ∷ [])) t.no_specs) t.Missing []) t.no_params) false (1 ∷ 1 ∷ [])); body = t.Block (t.more_items (t.Declared (record { specs = (t.more_specs (t.Key keyword.Extern (1 ∷ [])) (t.more_specs (t.Key keyword.Int (1 ∷ [])) t.no_specs)); list = record { declarator = (t.Array (t.Group (t.Pointer [] (t.Identifier (codes "p") (1 ∷ [])) (1 ∷ [])) (1 ∷ 1 ∷ [])) (t.Length [] (t.Number 2 ty0.Int (1 ∷ []))) (1 ∷ 1 ∷ [])); init = None; lines = [] } ∷ []; lines = (1 ∷ []) })) t.no_items) (1 ∷ 1 ∷ []); lines = [] })) ∷ (t.Declaration (record { specs = (t.more_specs (t.Key keyword.Int (2 ∷ [])) t.no_specs); list = record { declarator = (t.Array (t.Group (t.Pointer [] (t.Identifier (codes "p") (2 ∷ [])) (2 ∷ [])) (2 ∷ 2 ∷ [])) (t.Unsized []) (2 ∷ 2 ∷ [])); init = (Some (t.Single (t.Number 0 ty0.Int (2 ∷ [])))); lines = [] } ∷ []; lines = (2 ∷ []) })) ∷ (t.Defined (record { specs = (t.more_specs (t.Key keyword.Void (3 ∷ [])) t.no_specs); declarator = (t.Function (t.Identifier (codes "g") (3 ∷ [])) (t.more_params (t.Param (t.more_specs (t.Key keyword.Void (3 ∷ [])) t.no_specs) t.Missing []) t.no_params) false (3 ∷ 3 ∷ [])); body = t.Block (t.more_items (t.Declared (record { specs = (t.more_specs (t.Key keyword.Extern (3 ∷ [])) (t.more_specs (t.Key keyword.Int (3 ∷ [])) t.no_specs)); list = record { declarator = (t.Array (t.Group (t.Pointer [] (t.Identifier (codes "p") (3 ∷ [])) (3 ∷ [])) (3 ∷ 3 ∷ [])) (t.Length [] (t.Number 3 ty0.Int (3 ∷ []))) (3 ∷ 3 ∷ [])); init = None; lines = [] } ∷ []; lines = (3 ∷ []) })) t.no_items) (3 ∷ 3 ∷ []); lines = [] })) ∷ []; lines = [] }) rule.K2 3
unfolding layouts_of same_basic holds_const linkage_of clashes with_declaration with_content with_head unit_of landing puts_of constant_of is_null_constant pairing is_assignable check_gives check_chain check_here check_becomes check_look breaks node_rules rule_at same_key specs_type unary_of binary_of assignment_of
other_length_behind_initialiser = refl

-- `void f(void) { extern int (*p)[2]; }`, on line 2 `int (*p)[] = 0;` and on line 3 `void g(void) { extern int (*p)[2]; }`
same_length_behind_initialiser : is_fine (record { parts = (t.Defined (record { specs = (t.more_specs (t.Key keyword.Void (1 ∷ [])) t.no_specs); declarator = (t.Function (t.Identifier (codes "f") (1 ∷ [])) (t.more_params (t.Param (t.more_specs (t.Key keyword.Void (1 ∷ [])) t.no_specs) t.Missing []) t.no_params) false (1 ∷ 1 ∷ [])); body = t.Block (t.more_items (t.Declared (record { specs = (t.more_specs (t.Key keyword.Extern (1 ∷ [])) (t.more_specs (t.Key keyword.Int (1 ∷ [])) t.no_specs)); list = record { declarator = (t.Array (t.Group (t.Pointer [] (t.Identifier (codes "p") (1 ∷ [])) (1 ∷ [])) (1 ∷ 1 ∷ [])) (t.Length [] (t.Number 2 ty0.Int (1 ∷ []))) (1 ∷ 1 ∷ [])); init = None; lines = [] } ∷ []; lines = (1 ∷ []) })) t.no_items) (1 ∷ 1 ∷ []); lines = [] })) ∷ (t.Declaration (record { specs = (t.more_specs (t.Key keyword.Int (2 ∷ [])) t.no_specs); list = record { declarator = (t.Array (t.Group (t.Pointer [] (t.Identifier (codes "p") (2 ∷ [])) (2 ∷ [])) (2 ∷ 2 ∷ [])) (t.Unsized []) (2 ∷ 2 ∷ [])); init = (Some (t.Single (t.Number 0 ty0.Int (2 ∷ [])))); lines = [] } ∷ []; lines = (2 ∷ []) })) ∷ (t.Defined (record { specs = (t.more_specs (t.Key keyword.Void (3 ∷ [])) t.no_specs); declarator = (t.Function (t.Identifier (codes "g") (3 ∷ [])) (t.more_params (t.Param (t.more_specs (t.Key keyword.Void (3 ∷ [])) t.no_specs) t.Missing []) t.no_params) false (3 ∷ 3 ∷ [])); body = t.Block (t.more_items (t.Declared (record { specs = (t.more_specs (t.Key keyword.Extern (3 ∷ [])) (t.more_specs (t.Key keyword.Int (3 ∷ [])) t.no_specs)); list = record { declarator = (t.Array (t.Group (t.Pointer [] (t.Identifier (codes "p") (3 ∷ [])) (3 ∷ [])) (3 ∷ 3 ∷ [])) (t.Length [] (t.Number 2 ty0.Int (3 ∷ []))) (3 ∷ 3 ∷ [])); init = None; lines = [] } ∷ []; lines = (3 ∷ []) })) t.no_items) (3 ∷ 3 ∷ []); lines = [] })) ∷ []; lines = [] })
unfolding layouts_of same_basic holds_const linkage_of clashes with_declaration with_content with_head unit_of landing puts_of constant_of is_null_constant pairing is_assignable check_gives check_chain check_here check_becomes check_look breaks node_rules rule_at same_key specs_type unary_of binary_of assignment_of
same_length_behind_initialiser = refl

-- `enum d { A }; enum e { B }; extern enum d x; extern unsigned x;` and on line 2 `extern enum e x;`
enumerated_types_around_an_integer : is_refused (record { parts = (t.Declaration (record { specs = (t.more_specs (t.Enum (Some (codes "d")) (t.some_enumerator_list (t.more_enumerators (t.Enumerator (codes "A") t.no_expr (1 ∷ [])) t.no_enumerators)) false (1 ∷ 1 ∷ 1 ∷ [])) t.no_specs); list = []; lines = (1 ∷ []) })) ∷ (t.Declaration (record { specs = (t.more_specs (t.Enum (Some (codes "e")) (t.some_enumerator_list (t.more_enumerators (t.Enumerator (codes "B") t.no_expr (1 ∷ [])) t.no_enumerators)) false (1 ∷ 1 ∷ 1 ∷ [])) t.no_specs); list = []; lines = (1 ∷ []) })) ∷ (t.Declaration (record { specs = (t.more_specs (t.Key keyword.Extern (1 ∷ [])) (t.more_specs (t.Enum (Some (codes "d")) t.no_enumerator_list false (1 ∷ 1 ∷ [])) t.no_specs)); list = record { declarator = (t.Identifier (codes "x") (1 ∷ [])); init = None; lines = [] } ∷ []; lines = (1 ∷ []) })) ∷ (t.Declaration (record { specs = (t.more_specs (t.Key keyword.Extern (1 ∷ [])) (t.more_specs (t.Key keyword.Unsigned (1 ∷ [])) t.no_specs)); list = record { declarator = (t.Identifier (codes "x") (1 ∷ [])); init = None; lines = [] } ∷ []; lines = (1 ∷ []) })) ∷ (t.Declaration (record { specs = (t.more_specs (t.Key keyword.Extern (2 ∷ [])) (t.more_specs (t.Enum (Some (codes "e")) t.no_enumerator_list false (2 ∷ 2 ∷ [])) t.no_specs)); list = record { declarator = (t.Identifier (codes "x") (2 ∷ [])); init = None; lines = [] } ∷ []; lines = (2 ∷ []) })) ∷ []; lines = [] }) rule.K2 2
unfolding layouts_of same_basic holds_const linkage_of clashes with_declaration with_content with_head unit_of landing puts_of constant_of is_null_constant pairing is_assignable check_gives check_chain check_here check_becomes check_look breaks node_rules rule_at same_key specs_type unary_of binary_of assignment_of
enumerated_types_around_an_integer = refl

-- `enum d { A }; enum e { B }; extern unsigned x; extern enum d x;` and on line 2 `extern enum e x;`
integer_between_enumerated_types : is_refused (record { parts = (t.Declaration (record { specs = (t.more_specs (t.Enum (Some (codes "d")) (t.some_enumerator_list (t.more_enumerators (t.Enumerator (codes "A") t.no_expr (1 ∷ [])) t.no_enumerators)) false (1 ∷ 1 ∷ 1 ∷ [])) t.no_specs); list = []; lines = (1 ∷ []) })) ∷ (t.Declaration (record { specs = (t.more_specs (t.Enum (Some (codes "e")) (t.some_enumerator_list (t.more_enumerators (t.Enumerator (codes "B") t.no_expr (1 ∷ [])) t.no_enumerators)) false (1 ∷ 1 ∷ 1 ∷ [])) t.no_specs); list = []; lines = (1 ∷ []) })) ∷ (t.Declaration (record { specs = (t.more_specs (t.Key keyword.Extern (1 ∷ [])) (t.more_specs (t.Key keyword.Unsigned (1 ∷ [])) t.no_specs)); list = record { declarator = (t.Identifier (codes "x") (1 ∷ [])); init = None; lines = [] } ∷ []; lines = (1 ∷ []) })) ∷ (t.Declaration (record { specs = (t.more_specs (t.Key keyword.Extern (1 ∷ [])) (t.more_specs (t.Enum (Some (codes "d")) t.no_enumerator_list false (1 ∷ 1 ∷ [])) t.no_specs)); list = record { declarator = (t.Identifier (codes "x") (1 ∷ [])); init = None; lines = [] } ∷ []; lines = (1 ∷ []) })) ∷ (t.Declaration (record { specs = (t.more_specs (t.Key keyword.Extern (2 ∷ [])) (t.more_specs (t.Enum (Some (codes "e")) t.no_enumerator_list false (2 ∷ 2 ∷ [])) t.no_specs)); list = record { declarator = (t.Identifier (codes "x") (2 ∷ [])); init = None; lines = [] } ∷ []; lines = (2 ∷ []) })) ∷ []; lines = [] }) rule.K2 2
unfolding layouts_of same_basic holds_const linkage_of clashes with_declaration with_content with_head unit_of landing puts_of constant_of is_null_constant pairing is_assignable check_gives check_chain check_here check_becomes check_look breaks node_rules rule_at same_key specs_type unary_of binary_of assignment_of
integer_between_enumerated_types = refl

-- `enum d { A }; enum e { B }; extern unsigned x; extern enum d x; extern unsigned x;`
enumerated_type_and_its_integer : is_fine (record { parts = (t.Declaration (record { specs = (t.more_specs (t.Enum (Some (codes "d")) (t.some_enumerator_list (t.more_enumerators (t.Enumerator (codes "A") t.no_expr (1 ∷ [])) t.no_enumerators)) false (1 ∷ 1 ∷ 1 ∷ [])) t.no_specs); list = []; lines = (1 ∷ []) })) ∷ (t.Declaration (record { specs = (t.more_specs (t.Enum (Some (codes "e")) (t.some_enumerator_list (t.more_enumerators (t.Enumerator (codes "B") t.no_expr (1 ∷ [])) t.no_enumerators)) false (1 ∷ 1 ∷ 1 ∷ [])) t.no_specs); list = []; lines = (1 ∷ []) })) ∷ (t.Declaration (record { specs = (t.more_specs (t.Key keyword.Extern (1 ∷ [])) (t.more_specs (t.Key keyword.Unsigned (1 ∷ [])) t.no_specs)); list = record { declarator = (t.Identifier (codes "x") (1 ∷ [])); init = None; lines = [] } ∷ []; lines = (1 ∷ []) })) ∷ (t.Declaration (record { specs = (t.more_specs (t.Key keyword.Extern (1 ∷ [])) (t.more_specs (t.Enum (Some (codes "d")) t.no_enumerator_list false (1 ∷ 1 ∷ [])) t.no_specs)); list = record { declarator = (t.Identifier (codes "x") (1 ∷ [])); init = None; lines = [] } ∷ []; lines = (1 ∷ []) })) ∷ (t.Declaration (record { specs = (t.more_specs (t.Key keyword.Extern (1 ∷ [])) (t.more_specs (t.Key keyword.Unsigned (1 ∷ [])) t.no_specs)); list = record { declarator = (t.Identifier (codes "x") (1 ∷ [])); init = None; lines = [] } ∷ []; lines = (1 ∷ []) })) ∷ []; lines = [] })
unfolding layouts_of same_basic holds_const linkage_of clashes with_declaration with_content with_head unit_of landing puts_of constant_of is_null_constant pairing is_assignable check_gives check_chain check_here check_becomes check_look breaks node_rules rule_at same_key specs_type unary_of binary_of assignment_of
enumerated_type_and_its_integer = refl
