-- Worked units for expressions: each breaks the rule that is named, at its line, or none.
use Rattle.std.specs.Prelude.{pos, true, false, [], ◌∷◌, None, Some, codes}
use mathlib.Core.Path.{refl}
use Rattle.cr_base.specs.declared.rule.Rule.TheVariants as rule
use Rattle.cx_lex.specs.declared.token.Keyword.TheVariants as keyword
use Rattle.cx_lex.specs.declared.token.Punct.TheVariants as punct
use Rattle.cx_lex.specs.declared.token.Ty0.TheVariants as ty0
use Rattle.cx_tree.specs.Trees as t
use Rattle.cx_tree.specs.Trees.{UnitTree}
use Rattle.cx_core.specs.Layouts.{layouts_of}
use Rattle.cx_core.specs.Conversions.{same_basic}
use Rattle.cx_core.specs.ValidTypes.{holds_const}
use Rattle.cx_rules.specs.Declare.{linkage_of, clashes, with_declaration, with_content, with_head, unit_of}
use Rattle.cx_rules.specs.Initial.{landing, puts_of}
use Rattle.cx_rules.specs.Operands.{constant_of, is_null_constant}
use Rattle.cx_rules.specs.Pairs.{pairing, is_assignable}
use Rattle.cx_rules.specs.Readings.{check_gives, check_chain, check_here, check_becomes, check_look}
use Rattle.cx_rules.specs.Rules.{breaks, node_rules, rule_at}
use Rattle.cx_rules.specs.Shapes.{same_key, specs_type}
use Rattle.cx_rules.specs.Pieces.{unary_of, binary_of, assignment_of}
use Rattle.cx_rules.proofs.Worked.{is_refused, is_fine}

-- Types and values of constant expressions

-- `char a[sizeof 'a' == 4 ? 1 : -1];`
type_of_char_constant : is_fine (record { parts = (t.Declaration (record { specs = (t.more_specs (t.Key keyword.Char (1 ∷ [])) t.no_specs); list = record { declarator = (t.Array (t.Identifier (codes "a") (1 ∷ [])) (t.Length [] (t.Cond (t.Binary (t.SizeofExpr (t.Letter (pos 97) (1 ∷ [])) (1 ∷ [])) punct.EqualEqual (t.Number 4 ty0.Int (1 ∷ [])) (1 ∷ [])) (t.Number 1 ty0.Int (1 ∷ [])) (t.Unary punct.Minus (t.Number 1 ty0.Int (1 ∷ [])) (1 ∷ [])) (1 ∷ 1 ∷ []))) (1 ∷ 1 ∷ [])); init = None; lines = [] } ∷ []; lines = (1 ∷ []) })) ∷ []; lines = [] })
unfolding layouts_of same_basic holds_const linkage_of clashes with_declaration with_content with_head unit_of landing puts_of constant_of is_null_constant pairing is_assignable check_gives check_chain check_here check_becomes check_look breaks node_rules rule_at same_key specs_type unary_of binary_of assignment_of
type_of_char_constant = refl

-- `char a[sizeof 2147483648 == 8 ? 1 : -1];`
type_of_long : is_fine (record { parts = (t.Declaration (record { specs = (t.more_specs (t.Key keyword.Char (1 ∷ [])) t.no_specs); list = record { declarator = (t.Array (t.Identifier (codes "a") (1 ∷ [])) (t.Length [] (t.Cond (t.Binary (t.SizeofExpr (t.Number 2147483648 ty0.Long (1 ∷ [])) (1 ∷ [])) punct.EqualEqual (t.Number 8 ty0.Int (1 ∷ [])) (1 ∷ [])) (t.Number 1 ty0.Int (1 ∷ [])) (t.Unary punct.Minus (t.Number 1 ty0.Int (1 ∷ [])) (1 ∷ [])) (1 ∷ 1 ∷ []))) (1 ∷ 1 ∷ [])); init = None; lines = [] } ∷ []; lines = (1 ∷ []) })) ∷ []; lines = [] })
unfolding layouts_of same_basic holds_const linkage_of clashes with_declaration with_content with_head unit_of landing puts_of constant_of is_null_constant pairing is_assignable check_gives check_chain check_here check_becomes check_look breaks node_rules rule_at same_key specs_type unary_of binary_of assignment_of
type_of_long = refl

-- `char a[sizeof 0x80000000 == 4 ? 1 : -1]; char b[-0x80000000 > 0 ? 1 : -1];`
type_of_hex : is_fine (record { parts = (t.Declaration (record { specs = (t.more_specs (t.Key keyword.Char (1 ∷ [])) t.no_specs); list = record { declarator = (t.Array (t.Identifier (codes "a") (1 ∷ [])) (t.Length [] (t.Cond (t.Binary (t.SizeofExpr (t.Number 2147483648 ty0.Unsigned (1 ∷ [])) (1 ∷ [])) punct.EqualEqual (t.Number 4 ty0.Int (1 ∷ [])) (1 ∷ [])) (t.Number 1 ty0.Int (1 ∷ [])) (t.Unary punct.Minus (t.Number 1 ty0.Int (1 ∷ [])) (1 ∷ [])) (1 ∷ 1 ∷ []))) (1 ∷ 1 ∷ [])); init = None; lines = [] } ∷ []; lines = (1 ∷ []) })) ∷ (t.Declaration (record { specs = (t.more_specs (t.Key keyword.Char (1 ∷ [])) t.no_specs); list = record { declarator = (t.Array (t.Identifier (codes "b") (1 ∷ [])) (t.Length [] (t.Cond (t.Binary (t.Unary punct.Minus (t.Number 2147483648 ty0.Unsigned (1 ∷ [])) (1 ∷ [])) punct.Greater (t.Number 0 ty0.Int (1 ∷ [])) (1 ∷ [])) (t.Number 1 ty0.Int (1 ∷ [])) (t.Unary punct.Minus (t.Number 1 ty0.Int (1 ∷ [])) (1 ∷ [])) (1 ∷ 1 ∷ []))) (1 ∷ 1 ∷ [])); init = None; lines = [] } ∷ []; lines = (1 ∷ []) })) ∷ []; lines = [] })
unfolding layouts_of same_basic holds_const linkage_of clashes with_declaration with_content with_head unit_of landing puts_of constant_of is_null_constant pairing is_assignable check_gives check_chain check_here check_becomes check_look breaks node_rules rule_at same_key specs_type unary_of binary_of assignment_of
type_of_hex = refl

-- `char a[-1u > 0 ? 1 : -1]; char b[sizeof 1l == 8 ? 1 : -1]; char c[sizeof 1u == 4 ? 1 : -1];`
type_of_suffix : is_fine (record { parts = (t.Declaration (record { specs = (t.more_specs (t.Key keyword.Char (1 ∷ [])) t.no_specs); list = record { declarator = (t.Array (t.Identifier (codes "a") (1 ∷ [])) (t.Length [] (t.Cond (t.Binary (t.Unary punct.Minus (t.Number 1 ty0.Unsigned (1 ∷ [])) (1 ∷ [])) punct.Greater (t.Number 0 ty0.Int (1 ∷ [])) (1 ∷ [])) (t.Number 1 ty0.Int (1 ∷ [])) (t.Unary punct.Minus (t.Number 1 ty0.Int (1 ∷ [])) (1 ∷ [])) (1 ∷ 1 ∷ []))) (1 ∷ 1 ∷ [])); init = None; lines = [] } ∷ []; lines = (1 ∷ []) })) ∷ (t.Declaration (record { specs = (t.more_specs (t.Key keyword.Char (1 ∷ [])) t.no_specs); list = record { declarator = (t.Array (t.Identifier (codes "b") (1 ∷ [])) (t.Length [] (t.Cond (t.Binary (t.SizeofExpr (t.Number 1 ty0.Long (1 ∷ [])) (1 ∷ [])) punct.EqualEqual (t.Number 8 ty0.Int (1 ∷ [])) (1 ∷ [])) (t.Number 1 ty0.Int (1 ∷ [])) (t.Unary punct.Minus (t.Number 1 ty0.Int (1 ∷ [])) (1 ∷ [])) (1 ∷ 1 ∷ []))) (1 ∷ 1 ∷ [])); init = None; lines = [] } ∷ []; lines = (1 ∷ []) })) ∷ (t.Declaration (record { specs = (t.more_specs (t.Key keyword.Char (1 ∷ [])) t.no_specs); list = record { declarator = (t.Array (t.Identifier (codes "c") (1 ∷ [])) (t.Length [] (t.Cond (t.Binary (t.SizeofExpr (t.Number 1 ty0.Unsigned (1 ∷ [])) (1 ∷ [])) punct.EqualEqual (t.Number 4 ty0.Int (1 ∷ [])) (1 ∷ [])) (t.Number 1 ty0.Int (1 ∷ [])) (t.Unary punct.Minus (t.Number 1 ty0.Int (1 ∷ [])) (1 ∷ [])) (1 ∷ 1 ∷ []))) (1 ∷ 1 ∷ [])); init = None; lines = [] } ∷ []; lines = (1 ∷ []) })) ∷ []; lines = [] })
unfolding layouts_of same_basic holds_const linkage_of clashes with_declaration with_content with_head unit_of landing puts_of constant_of is_null_constant pairing is_assignable check_gives check_chain check_here check_becomes check_look breaks node_rules rule_at same_key specs_type unary_of binary_of assignment_of
type_of_suffix = refl

-- `char a[sizeof +(char)1 == 4 ? 1 : -1]; char b[sizeof -(short)1 == 4 ? 1 : -1]; char c[sizeof ~(char)1 == 4 ? 1 : -1];`
promotes_char : is_fine (record { parts = (t.Declaration (record { specs = (t.more_specs (t.Key keyword.Char (1 ∷ [])) t.no_specs); list = record { declarator = (t.Array (t.Identifier (codes "a") (1 ∷ [])) (t.Length [] (t.Cond (t.Binary (t.SizeofExpr (t.Unary punct.Plus (t.Cast (t.TypeName (t.more_specs (t.Key keyword.Char (1 ∷ [])) t.no_specs) t.Missing []) (t.Number 1 ty0.Int (1 ∷ [])) (1 ∷ 1 ∷ [])) (1 ∷ [])) (1 ∷ [])) punct.EqualEqual (t.Number 4 ty0.Int (1 ∷ [])) (1 ∷ [])) (t.Number 1 ty0.Int (1 ∷ [])) (t.Unary punct.Minus (t.Number 1 ty0.Int (1 ∷ [])) (1 ∷ [])) (1 ∷ 1 ∷ []))) (1 ∷ 1 ∷ [])); init = None; lines = [] } ∷ []; lines = (1 ∷ []) })) ∷ (t.Declaration (record { specs = (t.more_specs (t.Key keyword.Char (1 ∷ [])) t.no_specs); list = record { declarator = (t.Array (t.Identifier (codes "b") (1 ∷ [])) (t.Length [] (t.Cond (t.Binary (t.SizeofExpr (t.Unary punct.Minus (t.Cast (t.TypeName (t.more_specs (t.Key keyword.Short (1 ∷ [])) t.no_specs) t.Missing []) (t.Number 1 ty0.Int (1 ∷ [])) (1 ∷ 1 ∷ [])) (1 ∷ [])) (1 ∷ [])) punct.EqualEqual (t.Number 4 ty0.Int (1 ∷ [])) (1 ∷ [])) (t.Number 1 ty0.Int (1 ∷ [])) (t.Unary punct.Minus (t.Number 1 ty0.Int (1 ∷ [])) (1 ∷ [])) (1 ∷ 1 ∷ []))) (1 ∷ 1 ∷ [])); init = None; lines = [] } ∷ []; lines = (1 ∷ []) })) ∷ (t.Declaration (record { specs = (t.more_specs (t.Key keyword.Char (1 ∷ [])) t.no_specs); list = record { declarator = (t.Array (t.Identifier (codes "c") (1 ∷ [])) (t.Length [] (t.Cond (t.Binary (t.SizeofExpr (t.Unary punct.Tilde (t.Cast (t.TypeName (t.more_specs (t.Key keyword.Char (1 ∷ [])) t.no_specs) t.Missing []) (t.Number 1 ty0.Int (1 ∷ [])) (1 ∷ 1 ∷ [])) (1 ∷ [])) (1 ∷ [])) punct.EqualEqual (t.Number 4 ty0.Int (1 ∷ [])) (1 ∷ [])) (t.Number 1 ty0.Int (1 ∷ [])) (t.Unary punct.Minus (t.Number 1 ty0.Int (1 ∷ [])) (1 ∷ [])) (1 ∷ 1 ∷ []))) (1 ∷ 1 ∷ [])); init = None; lines = [] } ∷ []; lines = (1 ∷ []) })) ∷ []; lines = [] })
unfolding layouts_of same_basic holds_const linkage_of clashes with_declaration with_content with_head unit_of landing puts_of constant_of is_null_constant pairing is_assignable check_gives check_chain check_here check_becomes check_look breaks node_rules rule_at same_key specs_type unary_of binary_of assignment_of
promotes_char = refl

-- `char a[-(unsigned short)1 < 0 ? 1 : -1];`
promotes_unsigned_short : is_fine (record { parts = (t.Declaration (record { specs = (t.more_specs (t.Key keyword.Char (1 ∷ [])) t.no_specs); list = record { declarator = (t.Array (t.Identifier (codes "a") (1 ∷ [])) (t.Length [] (t.Cond (t.Binary (t.Unary punct.Minus (t.Cast (t.TypeName (t.more_specs (t.Key keyword.Unsigned (1 ∷ [])) (t.more_specs (t.Key keyword.Short (1 ∷ [])) t.no_specs)) t.Missing []) (t.Number 1 ty0.Int (1 ∷ [])) (1 ∷ 1 ∷ [])) (1 ∷ [])) punct.Less (t.Number 0 ty0.Int (1 ∷ [])) (1 ∷ [])) (t.Number 1 ty0.Int (1 ∷ [])) (t.Unary punct.Minus (t.Number 1 ty0.Int (1 ∷ [])) (1 ∷ [])) (1 ∷ 1 ∷ []))) (1 ∷ 1 ∷ [])); init = None; lines = [] } ∷ []; lines = (1 ∷ []) })) ∷ []; lines = [] })
unfolding layouts_of same_basic holds_const linkage_of clashes with_declaration with_content with_head unit_of landing puts_of constant_of is_null_constant pairing is_assignable check_gives check_chain check_here check_becomes check_look breaks node_rules rule_at same_key specs_type unary_of binary_of assignment_of
promotes_unsigned_short = refl

-- `char a[sizeof ((char)1) == 1 ? 1 : -1];`
keeps_char : is_fine (record { parts = (t.Declaration (record { specs = (t.more_specs (t.Key keyword.Char (1 ∷ [])) t.no_specs); list = record { declarator = (t.Array (t.Identifier (codes "a") (1 ∷ [])) (t.Length [] (t.Cond (t.Binary (t.SizeofExpr (t.Cast (t.TypeName (t.more_specs (t.Key keyword.Char (1 ∷ [])) t.no_specs) t.Missing []) (t.Number 1 ty0.Int (1 ∷ [])) (1 ∷ 1 ∷ [])) (1 ∷ [])) punct.EqualEqual (t.Number 1 ty0.Int (1 ∷ [])) (1 ∷ [])) (t.Number 1 ty0.Int (1 ∷ [])) (t.Unary punct.Minus (t.Number 1 ty0.Int (1 ∷ [])) (1 ∷ [])) (1 ∷ 1 ∷ []))) (1 ∷ 1 ∷ [])); init = None; lines = [] } ∷ []; lines = (1 ∷ []) })) ∷ []; lines = [] })
unfolding layouts_of same_basic holds_const linkage_of clashes with_declaration with_content with_head unit_of landing puts_of constant_of is_null_constant pairing is_assignable check_gives check_chain check_here check_becomes check_look breaks node_rules rule_at same_key specs_type unary_of binary_of assignment_of
keeps_char = refl

-- `char a[sizeof (1l + 1u) == 8 ? 1 : -1]; char b[-1l < 1u ? 1 : -1];`
common_long_unsigned : is_fine (record { parts = (t.Declaration (record { specs = (t.more_specs (t.Key keyword.Char (1 ∷ [])) t.no_specs); list = record { declarator = (t.Array (t.Identifier (codes "a") (1 ∷ [])) (t.Length [] (t.Cond (t.Binary (t.SizeofExpr (t.Binary (t.Number 1 ty0.Long (1 ∷ [])) punct.Plus (t.Number 1 ty0.Unsigned (1 ∷ [])) (1 ∷ [])) (1 ∷ [])) punct.EqualEqual (t.Number 8 ty0.Int (1 ∷ [])) (1 ∷ [])) (t.Number 1 ty0.Int (1 ∷ [])) (t.Unary punct.Minus (t.Number 1 ty0.Int (1 ∷ [])) (1 ∷ [])) (1 ∷ 1 ∷ []))) (1 ∷ 1 ∷ [])); init = None; lines = [] } ∷ []; lines = (1 ∷ []) })) ∷ (t.Declaration (record { specs = (t.more_specs (t.Key keyword.Char (1 ∷ [])) t.no_specs); list = record { declarator = (t.Array (t.Identifier (codes "b") (1 ∷ [])) (t.Length [] (t.Cond (t.Binary (t.Unary punct.Minus (t.Number 1 ty0.Long (1 ∷ [])) (1 ∷ [])) punct.Less (t.Number 1 ty0.Unsigned (1 ∷ [])) (1 ∷ [])) (t.Number 1 ty0.Int (1 ∷ [])) (t.Unary punct.Minus (t.Number 1 ty0.Int (1 ∷ [])) (1 ∷ [])) (1 ∷ 1 ∷ []))) (1 ∷ 1 ∷ [])); init = None; lines = [] } ∷ []; lines = (1 ∷ []) })) ∷ []; lines = [] })
unfolding layouts_of same_basic holds_const linkage_of clashes with_declaration with_content with_head unit_of landing puts_of constant_of is_null_constant pairing is_assignable check_gives check_chain check_here check_becomes check_look breaks node_rules rule_at same_key specs_type unary_of binary_of assignment_of
common_long_unsigned = refl

-- `char a[-1ll < 1ul ? -1 : 1];`
common_long_long : is_fine (record { parts = (t.Declaration (record { specs = (t.more_specs (t.Key keyword.Char (1 ∷ [])) t.no_specs); list = record { declarator = (t.Array (t.Identifier (codes "a") (1 ∷ [])) (t.Length [] (t.Cond (t.Binary (t.Unary punct.Minus (t.Number 1 ty0.LongLong (1 ∷ [])) (1 ∷ [])) punct.Less (t.Number 1 ty0.UnsignedLong (1 ∷ [])) (1 ∷ [])) (t.Unary punct.Minus (t.Number 1 ty0.Int (1 ∷ [])) (1 ∷ [])) (t.Number 1 ty0.Int (1 ∷ [])) (1 ∷ 1 ∷ []))) (1 ∷ 1 ∷ [])); init = None; lines = [] } ∷ []; lines = (1 ∷ []) })) ∷ []; lines = [] })
unfolding layouts_of same_basic holds_const linkage_of clashes with_declaration with_content with_head unit_of landing puts_of constant_of is_null_constant pairing is_assignable check_gives check_chain check_here check_becomes check_look breaks node_rules rule_at same_key specs_type unary_of binary_of assignment_of
common_long_long = refl

-- `char a[sizeof (1 << 1l) == 4 ? 1 : -1]; char b[sizeof ((char)1 << 1) == 4 ? 1 : -1];`
shift_keeps_left : is_fine (record { parts = (t.Declaration (record { specs = (t.more_specs (t.Key keyword.Char (1 ∷ [])) t.no_specs); list = record { declarator = (t.Array (t.Identifier (codes "a") (1 ∷ [])) (t.Length [] (t.Cond (t.Binary (t.SizeofExpr (t.Binary (t.Number 1 ty0.Int (1 ∷ [])) punct.ShiftLeft (t.Number 1 ty0.Long (1 ∷ [])) (1 ∷ [])) (1 ∷ [])) punct.EqualEqual (t.Number 4 ty0.Int (1 ∷ [])) (1 ∷ [])) (t.Number 1 ty0.Int (1 ∷ [])) (t.Unary punct.Minus (t.Number 1 ty0.Int (1 ∷ [])) (1 ∷ [])) (1 ∷ 1 ∷ []))) (1 ∷ 1 ∷ [])); init = None; lines = [] } ∷ []; lines = (1 ∷ []) })) ∷ (t.Declaration (record { specs = (t.more_specs (t.Key keyword.Char (1 ∷ [])) t.no_specs); list = record { declarator = (t.Array (t.Identifier (codes "b") (1 ∷ [])) (t.Length [] (t.Cond (t.Binary (t.SizeofExpr (t.Binary (t.Cast (t.TypeName (t.more_specs (t.Key keyword.Char (1 ∷ [])) t.no_specs) t.Missing []) (t.Number 1 ty0.Int (1 ∷ [])) (1 ∷ 1 ∷ [])) punct.ShiftLeft (t.Number 1 ty0.Int (1 ∷ [])) (1 ∷ [])) (1 ∷ [])) punct.EqualEqual (t.Number 4 ty0.Int (1 ∷ [])) (1 ∷ [])) (t.Number 1 ty0.Int (1 ∷ [])) (t.Unary punct.Minus (t.Number 1 ty0.Int (1 ∷ [])) (1 ∷ [])) (1 ∷ 1 ∷ []))) (1 ∷ 1 ∷ [])); init = None; lines = [] } ∷ []; lines = (1 ∷ []) })) ∷ []; lines = [] })
unfolding layouts_of same_basic holds_const linkage_of clashes with_declaration with_content with_head unit_of landing puts_of constant_of is_null_constant pairing is_assignable check_gives check_chain check_here check_becomes check_look breaks node_rules rule_at same_key specs_type unary_of binary_of assignment_of
shift_keeps_left = refl

-- `char a[sizeof (1l < 2l) == 4 ? 1 : -1]; char b[sizeof (1l == 2l) == 4 ? 1 : -1]; char c[sizeof !1l == 4 ? 1 : -1]; char d[sizeof (1l && 1l) == 4 ? 1 : -1];`
comparison_is_int : is_fine (record { parts = (t.Declaration (record { specs = (t.more_specs (t.Key keyword.Char (1 ∷ [])) t.no_specs); list = record { declarator = (t.Array (t.Identifier (codes "a") (1 ∷ [])) (t.Length [] (t.Cond (t.Binary (t.SizeofExpr (t.Binary (t.Number 1 ty0.Long (1 ∷ [])) punct.Less (t.Number 2 ty0.Long (1 ∷ [])) (1 ∷ [])) (1 ∷ [])) punct.EqualEqual (t.Number 4 ty0.Int (1 ∷ [])) (1 ∷ [])) (t.Number 1 ty0.Int (1 ∷ [])) (t.Unary punct.Minus (t.Number 1 ty0.Int (1 ∷ [])) (1 ∷ [])) (1 ∷ 1 ∷ []))) (1 ∷ 1 ∷ [])); init = None; lines = [] } ∷ []; lines = (1 ∷ []) })) ∷ (t.Declaration (record { specs = (t.more_specs (t.Key keyword.Char (1 ∷ [])) t.no_specs); list = record { declarator = (t.Array (t.Identifier (codes "b") (1 ∷ [])) (t.Length [] (t.Cond (t.Binary (t.SizeofExpr (t.Binary (t.Number 1 ty0.Long (1 ∷ [])) punct.EqualEqual (t.Number 2 ty0.Long (1 ∷ [])) (1 ∷ [])) (1 ∷ [])) punct.EqualEqual (t.Number 4 ty0.Int (1 ∷ [])) (1 ∷ [])) (t.Number 1 ty0.Int (1 ∷ [])) (t.Unary punct.Minus (t.Number 1 ty0.Int (1 ∷ [])) (1 ∷ [])) (1 ∷ 1 ∷ []))) (1 ∷ 1 ∷ [])); init = None; lines = [] } ∷ []; lines = (1 ∷ []) })) ∷ (t.Declaration (record { specs = (t.more_specs (t.Key keyword.Char (1 ∷ [])) t.no_specs); list = record { declarator = (t.Array (t.Identifier (codes "c") (1 ∷ [])) (t.Length [] (t.Cond (t.Binary (t.SizeofExpr (t.Unary punct.Exclamation (t.Number 1 ty0.Long (1 ∷ [])) (1 ∷ [])) (1 ∷ [])) punct.EqualEqual (t.Number 4 ty0.Int (1 ∷ [])) (1 ∷ [])) (t.Number 1 ty0.Int (1 ∷ [])) (t.Unary punct.Minus (t.Number 1 ty0.Int (1 ∷ [])) (1 ∷ [])) (1 ∷ 1 ∷ []))) (1 ∷ 1 ∷ [])); init = None; lines = [] } ∷ []; lines = (1 ∷ []) })) ∷ (t.Declaration (record { specs = (t.more_specs (t.Key keyword.Char (1 ∷ [])) t.no_specs); list = record { declarator = (t.Array (t.Identifier (codes "d") (1 ∷ [])) (t.Length [] (t.Cond (t.Binary (t.SizeofExpr (t.Binary (t.Number 1 ty0.Long (1 ∷ [])) punct.AndAnd (t.Number 1 ty0.Long (1 ∷ [])) (1 ∷ [])) (1 ∷ [])) punct.EqualEqual (t.Number 4 ty0.Int (1 ∷ [])) (1 ∷ [])) (t.Number 1 ty0.Int (1 ∷ [])) (t.Unary punct.Minus (t.Number 1 ty0.Int (1 ∷ [])) (1 ∷ [])) (1 ∷ 1 ∷ []))) (1 ∷ 1 ∷ [])); init = None; lines = [] } ∷ []; lines = (1 ∷ []) })) ∷ []; lines = [] })
unfolding layouts_of same_basic holds_const linkage_of clashes with_declaration with_content with_head unit_of landing puts_of constant_of is_null_constant pairing is_assignable check_gives check_chain check_here check_becomes check_look breaks node_rules rule_at same_key specs_type unary_of binary_of assignment_of
comparison_is_int = refl

-- `char a[sizeof sizeof 1 == 8 ? 1 : -1]; char b[sizeof(int) - 5 > 0 ? 1 : -1];`
sizeof_is_unsigned_long : is_fine (record { parts = (t.Declaration (record { specs = (t.more_specs (t.Key keyword.Char (1 ∷ [])) t.no_specs); list = record { declarator = (t.Array (t.Identifier (codes "a") (1 ∷ [])) (t.Length [] (t.Cond (t.Binary (t.SizeofExpr (t.SizeofExpr (t.Number 1 ty0.Int (1 ∷ [])) (1 ∷ [])) (1 ∷ [])) punct.EqualEqual (t.Number 8 ty0.Int (1 ∷ [])) (1 ∷ [])) (t.Number 1 ty0.Int (1 ∷ [])) (t.Unary punct.Minus (t.Number 1 ty0.Int (1 ∷ [])) (1 ∷ [])) (1 ∷ 1 ∷ []))) (1 ∷ 1 ∷ [])); init = None; lines = [] } ∷ []; lines = (1 ∷ []) })) ∷ (t.Declaration (record { specs = (t.more_specs (t.Key keyword.Char (1 ∷ [])) t.no_specs); list = record { declarator = (t.Array (t.Identifier (codes "b") (1 ∷ [])) (t.Length [] (t.Cond (t.Binary (t.Binary (t.SizeofType (t.TypeName (t.more_specs (t.Key keyword.Int (1 ∷ [])) t.no_specs) t.Missing []) (1 ∷ 1 ∷ 1 ∷ [])) punct.Minus (t.Number 5 ty0.Int (1 ∷ [])) (1 ∷ [])) punct.Greater (t.Number 0 ty0.Int (1 ∷ [])) (1 ∷ [])) (t.Number 1 ty0.Int (1 ∷ [])) (t.Unary punct.Minus (t.Number 1 ty0.Int (1 ∷ [])) (1 ∷ [])) (1 ∷ 1 ∷ []))) (1 ∷ 1 ∷ [])); init = None; lines = [] } ∷ []; lines = (1 ∷ []) })) ∷ []; lines = [] })
unfolding layouts_of same_basic holds_const linkage_of clashes with_declaration with_content with_head unit_of landing puts_of constant_of is_null_constant pairing is_assignable check_gives check_chain check_here check_becomes check_look breaks node_rules rule_at same_key specs_type unary_of binary_of assignment_of
sizeof_is_unsigned_long = refl

-- `char a[sizeof (1, 2l) == 8 ? 1 : -1];`
comma_of_second : is_fine (record { parts = (t.Declaration (record { specs = (t.more_specs (t.Key keyword.Char (1 ∷ [])) t.no_specs); list = record { declarator = (t.Array (t.Identifier (codes "a") (1 ∷ [])) (t.Length [] (t.Cond (t.Binary (t.SizeofExpr (t.Comma (t.Number 1 ty0.Int (1 ∷ [])) (t.Number 2 ty0.Long (1 ∷ [])) (1 ∷ [])) (1 ∷ [])) punct.EqualEqual (t.Number 8 ty0.Int (1 ∷ [])) (1 ∷ [])) (t.Number 1 ty0.Int (1 ∷ [])) (t.Unary punct.Minus (t.Number 1 ty0.Int (1 ∷ [])) (1 ∷ [])) (1 ∷ 1 ∷ []))) (1 ∷ 1 ∷ [])); init = None; lines = [] } ∷ []; lines = (1 ∷ []) })) ∷ []; lines = [] })
unfolding layouts_of same_basic holds_const linkage_of clashes with_declaration with_content with_head unit_of landing puts_of constant_of is_null_constant pairing is_assignable check_gives check_chain check_here check_becomes check_look breaks node_rules rule_at same_key specs_type unary_of binary_of assignment_of
comma_of_second = refl

-- `char a[sizeof (1 ? 1 : 2l) == 8 ? 1 : -1]; char b[(1 ? -1 : 0u) > 0 ? 1 : -1];`
conditional_common : is_fine (record { parts = (t.Declaration (record { specs = (t.more_specs (t.Key keyword.Char (1 ∷ [])) t.no_specs); list = record { declarator = (t.Array (t.Identifier (codes "a") (1 ∷ [])) (t.Length [] (t.Cond (t.Binary (t.SizeofExpr (t.Cond (t.Number 1 ty0.Int (1 ∷ [])) (t.Number 1 ty0.Int (1 ∷ [])) (t.Number 2 ty0.Long (1 ∷ [])) (1 ∷ 1 ∷ [])) (1 ∷ [])) punct.EqualEqual (t.Number 8 ty0.Int (1 ∷ [])) (1 ∷ [])) (t.Number 1 ty0.Int (1 ∷ [])) (t.Unary punct.Minus (t.Number 1 ty0.Int (1 ∷ [])) (1 ∷ [])) (1 ∷ 1 ∷ []))) (1 ∷ 1 ∷ [])); init = None; lines = [] } ∷ []; lines = (1 ∷ []) })) ∷ (t.Declaration (record { specs = (t.more_specs (t.Key keyword.Char (1 ∷ [])) t.no_specs); list = record { declarator = (t.Array (t.Identifier (codes "b") (1 ∷ [])) (t.Length [] (t.Cond (t.Binary (t.Cond (t.Number 1 ty0.Int (1 ∷ [])) (t.Unary punct.Minus (t.Number 1 ty0.Int (1 ∷ [])) (1 ∷ [])) (t.Number 0 ty0.Unsigned (1 ∷ [])) (1 ∷ 1 ∷ [])) punct.Greater (t.Number 0 ty0.Int (1 ∷ [])) (1 ∷ [])) (t.Number 1 ty0.Int (1 ∷ [])) (t.Unary punct.Minus (t.Number 1 ty0.Int (1 ∷ [])) (1 ∷ [])) (1 ∷ 1 ∷ []))) (1 ∷ 1 ∷ [])); init = None; lines = [] } ∷ []; lines = (1 ∷ []) })) ∷ []; lines = [] })
unfolding layouts_of same_basic holds_const linkage_of clashes with_declaration with_content with_head unit_of landing puts_of constant_of is_null_constant pairing is_assignable check_gives check_chain check_here check_becomes check_look breaks node_rules rule_at same_key specs_type unary_of binary_of assignment_of
conditional_common = refl

-- `enum e { A = 7 / -2 == -3 && 7 % -2 == 1 && -7 % 2 == -1 && (5 & 3) == 1 && (5 ^ 3) == 6 && (5 | 3) == 7 && ~5 == -6 && 1 << 4 == 16 && -1 >> 1 == -1 }; char a[A ? 1 : -1];`
arithmetic : is_fine (record { parts = (t.Declaration (record { specs = (t.more_specs (t.Enum (Some (codes "e")) (t.some_enumerator_list (t.more_enumerators (t.Enumerator (codes "A") (t.some_expr (t.Binary (t.Binary (t.Binary (t.Binary (t.Binary (t.Binary (t.Binary (t.Binary (t.Binary (t.Binary (t.Number 7 ty0.Int (1 ∷ [])) punct.Slash (t.Unary punct.Minus (t.Number 2 ty0.Int (1 ∷ [])) (1 ∷ [])) (1 ∷ [])) punct.EqualEqual (t.Unary punct.Minus (t.Number 3 ty0.Int (1 ∷ [])) (1 ∷ [])) (1 ∷ [])) punct.AndAnd (t.Binary (t.Binary (t.Number 7 ty0.Int (1 ∷ [])) punct.Percent (t.Unary punct.Minus (t.Number 2 ty0.Int (1 ∷ [])) (1 ∷ [])) (1 ∷ [])) punct.EqualEqual (t.Number 1 ty0.Int (1 ∷ [])) (1 ∷ [])) (1 ∷ [])) punct.AndAnd (t.Binary (t.Binary (t.Unary punct.Minus (t.Number 7 ty0.Int (1 ∷ [])) (1 ∷ [])) punct.Percent (t.Number 2 ty0.Int (1 ∷ [])) (1 ∷ [])) punct.EqualEqual (t.Unary punct.Minus (t.Number 1 ty0.Int (1 ∷ [])) (1 ∷ [])) (1 ∷ [])) (1 ∷ [])) punct.AndAnd (t.Binary (t.Binary (t.Number 5 ty0.Int (1 ∷ [])) punct.Ampersand (t.Number 3 ty0.Int (1 ∷ [])) (1 ∷ [])) punct.EqualEqual (t.Number 1 ty0.Int (1 ∷ [])) (1 ∷ [])) (1 ∷ [])) punct.AndAnd (t.Binary (t.Binary (t.Number 5 ty0.Int (1 ∷ [])) punct.Caret (t.Number 3 ty0.Int (1 ∷ [])) (1 ∷ [])) punct.EqualEqual (t.Number 6 ty0.Int (1 ∷ [])) (1 ∷ [])) (1 ∷ [])) punct.AndAnd (t.Binary (t.Binary (t.Number 5 ty0.Int (1 ∷ [])) punct.Bar (t.Number 3 ty0.Int (1 ∷ [])) (1 ∷ [])) punct.EqualEqual (t.Number 7 ty0.Int (1 ∷ [])) (1 ∷ [])) (1 ∷ [])) punct.AndAnd (t.Binary (t.Unary punct.Tilde (t.Number 5 ty0.Int (1 ∷ [])) (1 ∷ [])) punct.EqualEqual (t.Unary punct.Minus (t.Number 6 ty0.Int (1 ∷ [])) (1 ∷ [])) (1 ∷ [])) (1 ∷ [])) punct.AndAnd (t.Binary (t.Binary (t.Number 1 ty0.Int (1 ∷ [])) punct.ShiftLeft (t.Number 4 ty0.Int (1 ∷ [])) (1 ∷ [])) punct.EqualEqual (t.Number 16 ty0.Int (1 ∷ [])) (1 ∷ [])) (1 ∷ [])) punct.AndAnd (t.Binary (t.Binary (t.Unary punct.Minus (t.Number 1 ty0.Int (1 ∷ [])) (1 ∷ [])) punct.ShiftRight (t.Number 1 ty0.Int (1 ∷ [])) (1 ∷ [])) punct.EqualEqual (t.Unary punct.Minus (t.Number 1 ty0.Int (1 ∷ [])) (1 ∷ [])) (1 ∷ [])) (1 ∷ []))) (1 ∷ [])) t.no_enumerators)) false (1 ∷ 1 ∷ 1 ∷ [])) t.no_specs); list = []; lines = (1 ∷ []) })) ∷ (t.Declaration (record { specs = (t.more_specs (t.Key keyword.Char (1 ∷ [])) t.no_specs); list = record { declarator = (t.Array (t.Identifier (codes "a") (1 ∷ [])) (t.Length [] (t.Cond (t.Name (codes "A") (1 ∷ [])) (t.Number 1 ty0.Int (1 ∷ [])) (t.Unary punct.Minus (t.Number 1 ty0.Int (1 ∷ [])) (1 ∷ [])) (1 ∷ 1 ∷ []))) (1 ∷ 1 ∷ [])); init = None; lines = [] } ∷ []; lines = (1 ∷ []) })) ∷ []; lines = [] })
unfolding layouts_of same_basic holds_const linkage_of clashes with_declaration with_content with_head unit_of landing puts_of constant_of is_null_constant pairing is_assignable check_gives check_chain check_here check_becomes check_look breaks node_rules rule_at same_key specs_type unary_of binary_of assignment_of
arithmetic = refl

-- `char a[0u - 1u == 4294967295u ? 1 : -1]; char b[4294967295u + 1u == 0 ? 1 : -1];`
unsigned_wraps : is_fine (record { parts = (t.Declaration (record { specs = (t.more_specs (t.Key keyword.Char (1 ∷ [])) t.no_specs); list = record { declarator = (t.Array (t.Identifier (codes "a") (1 ∷ [])) (t.Length [] (t.Cond (t.Binary (t.Binary (t.Number 0 ty0.Unsigned (1 ∷ [])) punct.Minus (t.Number 1 ty0.Unsigned (1 ∷ [])) (1 ∷ [])) punct.EqualEqual (t.Number 4294967295 ty0.Unsigned (1 ∷ [])) (1 ∷ [])) (t.Number 1 ty0.Int (1 ∷ [])) (t.Unary punct.Minus (t.Number 1 ty0.Int (1 ∷ [])) (1 ∷ [])) (1 ∷ 1 ∷ []))) (1 ∷ 1 ∷ [])); init = None; lines = [] } ∷ []; lines = (1 ∷ []) })) ∷ (t.Declaration (record { specs = (t.more_specs (t.Key keyword.Char (1 ∷ [])) t.no_specs); list = record { declarator = (t.Array (t.Identifier (codes "b") (1 ∷ [])) (t.Length [] (t.Cond (t.Binary (t.Binary (t.Number 4294967295 ty0.Unsigned (1 ∷ [])) punct.Plus (t.Number 1 ty0.Unsigned (1 ∷ [])) (1 ∷ [])) punct.EqualEqual (t.Number 0 ty0.Int (1 ∷ [])) (1 ∷ [])) (t.Number 1 ty0.Int (1 ∷ [])) (t.Unary punct.Minus (t.Number 1 ty0.Int (1 ∷ [])) (1 ∷ [])) (1 ∷ 1 ∷ []))) (1 ∷ 1 ∷ [])); init = None; lines = [] } ∷ []; lines = (1 ∷ []) })) ∷ []; lines = [] })
unfolding layouts_of same_basic holds_const linkage_of clashes with_declaration with_content with_head unit_of landing puts_of constant_of is_null_constant pairing is_assignable check_gives check_chain check_here check_becomes check_look breaks node_rules rule_at same_key specs_type unary_of binary_of assignment_of
unsigned_wraps = refl

-- `char a[(unsigned char)300 == 44 ? 1 : -1]; char b[(_Bool)300 == 1 ? 1 : -1]; char c[(short)65535 == -1 ? 1 : -1];`
casts_wrap : is_fine (record { parts = (t.Declaration (record { specs = (t.more_specs (t.Key keyword.Char (1 ∷ [])) t.no_specs); list = record { declarator = (t.Array (t.Identifier (codes "a") (1 ∷ [])) (t.Length [] (t.Cond (t.Binary (t.Cast (t.TypeName (t.more_specs (t.Key keyword.Unsigned (1 ∷ [])) (t.more_specs (t.Key keyword.Char (1 ∷ [])) t.no_specs)) t.Missing []) (t.Number 300 ty0.Int (1 ∷ [])) (1 ∷ 1 ∷ [])) punct.EqualEqual (t.Number 44 ty0.Int (1 ∷ [])) (1 ∷ [])) (t.Number 1 ty0.Int (1 ∷ [])) (t.Unary punct.Minus (t.Number 1 ty0.Int (1 ∷ [])) (1 ∷ [])) (1 ∷ 1 ∷ []))) (1 ∷ 1 ∷ [])); init = None; lines = [] } ∷ []; lines = (1 ∷ []) })) ∷ (t.Declaration (record { specs = (t.more_specs (t.Key keyword.Char (1 ∷ [])) t.no_specs); list = record { declarator = (t.Array (t.Identifier (codes "b") (1 ∷ [])) (t.Length [] (t.Cond (t.Binary (t.Cast (t.TypeName (t.more_specs (t.Key keyword.Bool (1 ∷ [])) t.no_specs) t.Missing []) (t.Number 300 ty0.Int (1 ∷ [])) (1 ∷ 1 ∷ [])) punct.EqualEqual (t.Number 1 ty0.Int (1 ∷ [])) (1 ∷ [])) (t.Number 1 ty0.Int (1 ∷ [])) (t.Unary punct.Minus (t.Number 1 ty0.Int (1 ∷ [])) (1 ∷ [])) (1 ∷ 1 ∷ []))) (1 ∷ 1 ∷ [])); init = None; lines = [] } ∷ []; lines = (1 ∷ []) })) ∷ (t.Declaration (record { specs = (t.more_specs (t.Key keyword.Char (1 ∷ [])) t.no_specs); list = record { declarator = (t.Array (t.Identifier (codes "c") (1 ∷ [])) (t.Length [] (t.Cond (t.Binary (t.Cast (t.TypeName (t.more_specs (t.Key keyword.Short (1 ∷ [])) t.no_specs) t.Missing []) (t.Number 65535 ty0.Int (1 ∷ [])) (1 ∷ 1 ∷ [])) punct.EqualEqual (t.Unary punct.Minus (t.Number 1 ty0.Int (1 ∷ [])) (1 ∷ [])) (1 ∷ [])) (t.Number 1 ty0.Int (1 ∷ [])) (t.Unary punct.Minus (t.Number 1 ty0.Int (1 ∷ [])) (1 ∷ [])) (1 ∷ 1 ∷ []))) (1 ∷ 1 ∷ [])); init = None; lines = [] } ∷ []; lines = (1 ∷ []) })) ∷ []; lines = [] })
unfolding layouts_of same_basic holds_const linkage_of clashes with_declaration with_content with_head unit_of landing puts_of constant_of is_null_constant pairing is_assignable check_gives check_chain check_here check_becomes check_look breaks node_rules rule_at same_key specs_type unary_of binary_of assignment_of
casts_wrap = refl

-- `enum e { A = 3, B, C = B * 2, D }; char a[A + B + C + D == 24 ? 1 : -1];`
enumerators_count : is_fine (record { parts = (t.Declaration (record { specs = (t.more_specs (t.Enum (Some (codes "e")) (t.some_enumerator_list (t.more_enumerators (t.Enumerator (codes "A") (t.some_expr (t.Number 3 ty0.Int (1 ∷ []))) (1 ∷ [])) (t.more_enumerators (t.Enumerator (codes "B") t.no_expr (1 ∷ [])) (t.more_enumerators (t.Enumerator (codes "C") (t.some_expr (t.Binary (t.Name (codes "B") (1 ∷ [])) punct.Star (t.Number 2 ty0.Int (1 ∷ [])) (1 ∷ []))) (1 ∷ [])) (t.more_enumerators (t.Enumerator (codes "D") t.no_expr (1 ∷ [])) t.no_enumerators))))) false (1 ∷ 1 ∷ 1 ∷ [])) t.no_specs); list = []; lines = (1 ∷ []) })) ∷ (t.Declaration (record { specs = (t.more_specs (t.Key keyword.Char (1 ∷ [])) t.no_specs); list = record { declarator = (t.Array (t.Identifier (codes "a") (1 ∷ [])) (t.Length [] (t.Cond (t.Binary (t.Binary (t.Binary (t.Binary (t.Name (codes "A") (1 ∷ [])) punct.Plus (t.Name (codes "B") (1 ∷ [])) (1 ∷ [])) punct.Plus (t.Name (codes "C") (1 ∷ [])) (1 ∷ [])) punct.Plus (t.Name (codes "D") (1 ∷ [])) (1 ∷ [])) punct.EqualEqual (t.Number 24 ty0.Int (1 ∷ [])) (1 ∷ [])) (t.Number 1 ty0.Int (1 ∷ [])) (t.Unary punct.Minus (t.Number 1 ty0.Int (1 ∷ [])) (1 ∷ [])) (1 ∷ 1 ∷ []))) (1 ∷ 1 ∷ [])); init = None; lines = [] } ∷ []; lines = (1 ∷ []) })) ∷ []; lines = [] })
unfolding layouts_of same_basic holds_const linkage_of clashes with_declaration with_content with_head unit_of landing puts_of constant_of is_null_constant pairing is_assignable check_gives check_chain check_here check_becomes check_look breaks node_rules rule_at same_key specs_type unary_of binary_of assignment_of
enumerators_count = refl

-- `enum e { A }; char a[(enum e)-1 > 0 ? 1 : -1]; enum f { B = -1 }; char b[(enum f)-1 < 0 ? 1 : -1];`
enum_is_unsigned : is_fine (record { parts = (t.Declaration (record { specs = (t.more_specs (t.Enum (Some (codes "e")) (t.some_enumerator_list (t.more_enumerators (t.Enumerator (codes "A") t.no_expr (1 ∷ [])) t.no_enumerators)) false (1 ∷ 1 ∷ 1 ∷ [])) t.no_specs); list = []; lines = (1 ∷ []) })) ∷ (t.Declaration (record { specs = (t.more_specs (t.Key keyword.Char (1 ∷ [])) t.no_specs); list = record { declarator = (t.Array (t.Identifier (codes "a") (1 ∷ [])) (t.Length [] (t.Cond (t.Binary (t.Cast (t.TypeName (t.more_specs (t.Enum (Some (codes "e")) t.no_enumerator_list false (1 ∷ 1 ∷ [])) t.no_specs) t.Missing []) (t.Unary punct.Minus (t.Number 1 ty0.Int (1 ∷ [])) (1 ∷ [])) (1 ∷ 1 ∷ [])) punct.Greater (t.Number 0 ty0.Int (1 ∷ [])) (1 ∷ [])) (t.Number 1 ty0.Int (1 ∷ [])) (t.Unary punct.Minus (t.Number 1 ty0.Int (1 ∷ [])) (1 ∷ [])) (1 ∷ 1 ∷ []))) (1 ∷ 1 ∷ [])); init = None; lines = [] } ∷ []; lines = (1 ∷ []) })) ∷ (t.Declaration (record { specs = (t.more_specs (t.Enum (Some (codes "f")) (t.some_enumerator_list (t.more_enumerators (t.Enumerator (codes "B") (t.some_expr (t.Unary punct.Minus (t.Number 1 ty0.Int (1 ∷ [])) (1 ∷ []))) (1 ∷ [])) t.no_enumerators)) false (1 ∷ 1 ∷ 1 ∷ [])) t.no_specs); list = []; lines = (1 ∷ []) })) ∷ (t.Declaration (record { specs = (t.more_specs (t.Key keyword.Char (1 ∷ [])) t.no_specs); list = record { declarator = (t.Array (t.Identifier (codes "b") (1 ∷ [])) (t.Length [] (t.Cond (t.Binary (t.Cast (t.TypeName (t.more_specs (t.Enum (Some (codes "f")) t.no_enumerator_list false (1 ∷ 1 ∷ [])) t.no_specs) t.Missing []) (t.Unary punct.Minus (t.Number 1 ty0.Int (1 ∷ [])) (1 ∷ [])) (1 ∷ 1 ∷ [])) punct.Less (t.Number 0 ty0.Int (1 ∷ [])) (1 ∷ [])) (t.Number 1 ty0.Int (1 ∷ [])) (t.Unary punct.Minus (t.Number 1 ty0.Int (1 ∷ [])) (1 ∷ [])) (1 ∷ 1 ∷ []))) (1 ∷ 1 ∷ [])); init = None; lines = [] } ∷ []; lines = (1 ∷ []) })) ∷ []; lines = [] })
unfolding layouts_of same_basic holds_const linkage_of clashes with_declaration with_content with_head unit_of landing puts_of constant_of is_null_constant pairing is_assignable check_gives check_chain check_here check_becomes check_look breaks node_rules rule_at same_key specs_type unary_of binary_of assignment_of
enum_is_unsigned = refl

-- `enum e { A = 2147483647 + 1 };`
overflows : is_refused (record { parts = (t.Declaration (record { specs = (t.more_specs (t.Enum (Some (codes "e")) (t.some_enumerator_list (t.more_enumerators (t.Enumerator (codes "A") (t.some_expr (t.Binary (t.Number 2147483647 ty0.Int (1 ∷ [])) punct.Plus (t.Number 1 ty0.Int (1 ∷ [])) (1 ∷ []))) (1 ∷ [])) t.no_enumerators)) false (1 ∷ 1 ∷ 1 ∷ [])) t.no_specs); list = []; lines = (1 ∷ []) })) ∷ []; lines = [] }) rule.K17 1
unfolding layouts_of same_basic holds_const linkage_of clashes with_declaration with_content with_head unit_of landing puts_of constant_of is_null_constant pairing is_assignable check_gives check_chain check_here check_becomes check_look breaks node_rules rule_at same_key specs_type unary_of binary_of assignment_of
overflows = refl

-- `char a[2147483647 + 1 > 0 ? 1 : -1];`
overflows_in_length : is_refused (record { parts = (t.Declaration (record { specs = (t.more_specs (t.Key keyword.Char (1 ∷ [])) t.no_specs); list = record { declarator = (t.Array (t.Identifier (codes "a") (1 ∷ [])) (t.Length [] (t.Cond (t.Binary (t.Binary (t.Number 2147483647 ty0.Int (1 ∷ [])) punct.Plus (t.Number 1 ty0.Int (1 ∷ [])) (1 ∷ [])) punct.Greater (t.Number 0 ty0.Int (1 ∷ [])) (1 ∷ [])) (t.Number 1 ty0.Int (1 ∷ [])) (t.Unary punct.Minus (t.Number 1 ty0.Int (1 ∷ [])) (1 ∷ [])) (1 ∷ 1 ∷ []))) (1 ∷ 1 ∷ [])); init = None; lines = [] } ∷ []; lines = (1 ∷ []) })) ∷ []; lines = [] }) rule.O3 1
unfolding layouts_of same_basic holds_const linkage_of clashes with_declaration with_content with_head unit_of landing puts_of constant_of is_null_constant pairing is_assignable check_gives check_chain check_here check_becomes check_look breaks node_rules rule_at same_key specs_type unary_of binary_of assignment_of
overflows_in_length = refl

-- `enum e { A = (-2147483647 - 1) / -1 };`
divides_least : is_refused (record { parts = (t.Declaration (record { specs = (t.more_specs (t.Enum (Some (codes "e")) (t.some_enumerator_list (t.more_enumerators (t.Enumerator (codes "A") (t.some_expr (t.Binary (t.Binary (t.Unary punct.Minus (t.Number 2147483647 ty0.Int (1 ∷ [])) (1 ∷ [])) punct.Minus (t.Number 1 ty0.Int (1 ∷ [])) (1 ∷ [])) punct.Slash (t.Unary punct.Minus (t.Number 1 ty0.Int (1 ∷ [])) (1 ∷ [])) (1 ∷ []))) (1 ∷ [])) t.no_enumerators)) false (1 ∷ 1 ∷ 1 ∷ [])) t.no_specs); list = []; lines = (1 ∷ []) })) ∷ []; lines = [] }) rule.K17 1
unfolding layouts_of same_basic holds_const linkage_of clashes with_declaration with_content with_head unit_of landing puts_of constant_of is_null_constant pairing is_assignable check_gives check_chain check_here check_becomes check_look breaks node_rules rule_at same_key specs_type unary_of binary_of assignment_of
divides_least = refl

-- `enum e { A = 1 << 32 };`
shifts_too_far : is_refused (record { parts = (t.Declaration (record { specs = (t.more_specs (t.Enum (Some (codes "e")) (t.some_enumerator_list (t.more_enumerators (t.Enumerator (codes "A") (t.some_expr (t.Binary (t.Number 1 ty0.Int (1 ∷ [])) punct.ShiftLeft (t.Number 32 ty0.Int (1 ∷ [])) (1 ∷ []))) (1 ∷ [])) t.no_enumerators)) false (1 ∷ 1 ∷ 1 ∷ [])) t.no_specs); list = []; lines = (1 ∷ []) })) ∷ []; lines = [] }) rule.K17 1
unfolding layouts_of same_basic holds_const linkage_of clashes with_declaration with_content with_head unit_of landing puts_of constant_of is_null_constant pairing is_assignable check_gives check_chain check_here check_becomes check_look breaks node_rules rule_at same_key specs_type unary_of binary_of assignment_of
shifts_too_far = refl

-- `enum e { A = -1 << 1 };`
shifts_negative : is_refused (record { parts = (t.Declaration (record { specs = (t.more_specs (t.Enum (Some (codes "e")) (t.some_enumerator_list (t.more_enumerators (t.Enumerator (codes "A") (t.some_expr (t.Binary (t.Unary punct.Minus (t.Number 1 ty0.Int (1 ∷ [])) (1 ∷ [])) punct.ShiftLeft (t.Number 1 ty0.Int (1 ∷ [])) (1 ∷ []))) (1 ∷ [])) t.no_enumerators)) false (1 ∷ 1 ∷ 1 ∷ [])) t.no_specs); list = []; lines = (1 ∷ []) })) ∷ []; lines = [] }) rule.K17 1
unfolding layouts_of same_basic holds_const linkage_of clashes with_declaration with_content with_head unit_of landing puts_of constant_of is_null_constant pairing is_assignable check_gives check_chain check_here check_becomes check_look breaks node_rules rule_at same_key specs_type unary_of binary_of assignment_of
shifts_negative = refl

-- `enum e { A = 1 ? 2 : 1 / 0, B = 0 ? 1 / 0 : 3, C = 1 || 1 / 0 };`
not_evaluated : is_fine (record { parts = (t.Declaration (record { specs = (t.more_specs (t.Enum (Some (codes "e")) (t.some_enumerator_list (t.more_enumerators (t.Enumerator (codes "A") (t.some_expr (t.Cond (t.Number 1 ty0.Int (1 ∷ [])) (t.Number 2 ty0.Int (1 ∷ [])) (t.Binary (t.Number 1 ty0.Int (1 ∷ [])) punct.Slash (t.Number 0 ty0.Int (1 ∷ [])) (1 ∷ [])) (1 ∷ 1 ∷ []))) (1 ∷ [])) (t.more_enumerators (t.Enumerator (codes "B") (t.some_expr (t.Cond (t.Number 0 ty0.Int (1 ∷ [])) (t.Binary (t.Number 1 ty0.Int (1 ∷ [])) punct.Slash (t.Number 0 ty0.Int (1 ∷ [])) (1 ∷ [])) (t.Number 3 ty0.Int (1 ∷ [])) (1 ∷ 1 ∷ []))) (1 ∷ [])) (t.more_enumerators (t.Enumerator (codes "C") (t.some_expr (t.Binary (t.Number 1 ty0.Int (1 ∷ [])) punct.BarBar (t.Binary (t.Number 1 ty0.Int (1 ∷ [])) punct.Slash (t.Number 0 ty0.Int (1 ∷ [])) (1 ∷ [])) (1 ∷ []))) (1 ∷ [])) t.no_enumerators)))) false (1 ∷ 1 ∷ 1 ∷ [])) t.no_specs); list = []; lines = (1 ∷ []) })) ∷ []; lines = [] })
unfolding layouts_of same_basic holds_const linkage_of clashes with_declaration with_content with_head unit_of landing puts_of constant_of is_null_constant pairing is_assignable check_gives check_chain check_here check_becomes check_look breaks node_rules rule_at same_key specs_type unary_of binary_of assignment_of
not_evaluated = refl

-- `int x; enum e { A = x };`
value_is_no_constant : is_refused (record { parts = (t.Declaration (record { specs = (t.more_specs (t.Key keyword.Int (1 ∷ [])) t.no_specs); list = record { declarator = (t.Identifier (codes "x") (1 ∷ [])); init = None; lines = [] } ∷ []; lines = (1 ∷ []) })) ∷ (t.Declaration (record { specs = (t.more_specs (t.Enum (Some (codes "e")) (t.some_enumerator_list (t.more_enumerators (t.Enumerator (codes "A") (t.some_expr (t.Name (codes "x") (1 ∷ []))) (1 ∷ [])) t.no_enumerators)) false (1 ∷ 1 ∷ 1 ∷ [])) t.no_specs); list = []; lines = (1 ∷ []) })) ∷ []; lines = [] }) rule.K17 1
unfolding layouts_of same_basic holds_const linkage_of clashes with_declaration with_content with_head unit_of landing puts_of constant_of is_null_constant pairing is_assignable check_gives check_chain check_here check_becomes check_look breaks node_rules rule_at same_key specs_type unary_of binary_of assignment_of
value_is_no_constant = refl

-- `int x; enum e { A = 1 + !(&x * 1) };`
address_is_no_constant : is_refused (record { parts = (t.Declaration (record { specs = (t.more_specs (t.Key keyword.Int (1 ∷ [])) t.no_specs); list = record { declarator = (t.Identifier (codes "x") (1 ∷ [])); init = None; lines = [] } ∷ []; lines = (1 ∷ []) })) ∷ (t.Declaration (record { specs = (t.more_specs (t.Enum (Some (codes "e")) (t.some_enumerator_list (t.more_enumerators (t.Enumerator (codes "A") (t.some_expr (t.Binary (t.Number 1 ty0.Int (1 ∷ [])) punct.Plus (t.Unary punct.Exclamation (t.Binary (t.Unary punct.Ampersand (t.Name (codes "x") (1 ∷ [])) (1 ∷ [])) punct.Star (t.Number 1 ty0.Int (1 ∷ [])) (1 ∷ [])) (1 ∷ [])) (1 ∷ []))) (1 ∷ [])) t.no_enumerators)) false (1 ∷ 1 ∷ 1 ∷ [])) t.no_specs); list = []; lines = (1 ∷ []) })) ∷ []; lines = [] }) rule.K10 1
unfolding layouts_of same_basic holds_const linkage_of clashes with_declaration with_content with_head unit_of landing puts_of constant_of is_null_constant pairing is_assignable check_gives check_chain check_here check_becomes check_look breaks node_rules rule_at same_key specs_type unary_of binary_of assignment_of
address_is_no_constant = refl

-- `int f(void); enum e { A = f() };`
called_is_no_constant : is_refused (record { parts = (t.Declaration (record { specs = (t.more_specs (t.Key keyword.Int (1 ∷ [])) t.no_specs); list = record { declarator = (t.Function (t.Identifier (codes "f") (1 ∷ [])) (t.more_params (t.Param (t.more_specs (t.Key keyword.Void (1 ∷ [])) t.no_specs) t.Missing []) t.no_params) false (1 ∷ 1 ∷ [])); init = None; lines = [] } ∷ []; lines = (1 ∷ []) })) ∷ (t.Declaration (record { specs = (t.more_specs (t.Enum (Some (codes "e")) (t.some_enumerator_list (t.more_enumerators (t.Enumerator (codes "A") (t.some_expr (t.Call (t.Name (codes "f") (1 ∷ [])) t.no_exprs (1 ∷ 1 ∷ []))) (1 ∷ [])) t.no_enumerators)) false (1 ∷ 1 ∷ 1 ∷ [])) t.no_specs); list = []; lines = (1 ∷ []) })) ∷ []; lines = [] }) rule.K17 1
unfolding layouts_of same_basic holds_const linkage_of clashes with_declaration with_content with_head unit_of landing puts_of constant_of is_null_constant pairing is_assignable check_gives check_chain check_here check_becomes check_look breaks node_rules rule_at same_key specs_type unary_of binary_of assignment_of
called_is_no_constant = refl

-- `enum e { A = !(void *)0 };`
pointer_cast_is_no_constant : is_refused (record { parts = (t.Declaration (record { specs = (t.more_specs (t.Enum (Some (codes "e")) (t.some_enumerator_list (t.more_enumerators (t.Enumerator (codes "A") (t.some_expr (t.Unary punct.Exclamation (t.Cast (t.TypeName (t.more_specs (t.Key keyword.Void (1 ∷ [])) t.no_specs) (t.Pointer [] t.Missing (1 ∷ [])) []) (t.Number 0 ty0.Int (1 ∷ [])) (1 ∷ 1 ∷ [])) (1 ∷ []))) (1 ∷ [])) t.no_enumerators)) false (1 ∷ 1 ∷ 1 ∷ [])) t.no_specs); list = []; lines = (1 ∷ []) })) ∷ []; lines = [] }) rule.K17 1
unfolding layouts_of same_basic holds_const linkage_of clashes with_declaration with_content with_head unit_of landing puts_of constant_of is_null_constant pairing is_assignable check_gives check_chain check_here check_becomes check_look breaks node_rules rule_at same_key specs_type unary_of binary_of assignment_of
pointer_cast_is_no_constant = refl

-- Types of other expressions

-- `int a[3]; char b[sizeof a == 12 ? 1 : -1]; char c[sizeof (a + 0) == 8 ? 1 : -1]; char d[sizeof a[0] == 4 ? 1 : -1]; char e[sizeof *a == 4 ? 1 : -1]; char f[sizeof &a == 8 ? 1 : -1]; char g[sizeof *&a == 12 ? 1 : -1];`
decays : is_fine (record { parts = (t.Declaration (record { specs = (t.more_specs (t.Key keyword.Int (1 ∷ [])) t.no_specs); list = record { declarator = (t.Array (t.Identifier (codes "a") (1 ∷ [])) (t.Length [] (t.Number 3 ty0.Int (1 ∷ []))) (1 ∷ 1 ∷ [])); init = None; lines = [] } ∷ []; lines = (1 ∷ []) })) ∷ (t.Declaration (record { specs = (t.more_specs (t.Key keyword.Char (1 ∷ [])) t.no_specs); list = record { declarator = (t.Array (t.Identifier (codes "b") (1 ∷ [])) (t.Length [] (t.Cond (t.Binary (t.SizeofExpr (t.Name (codes "a") (1 ∷ [])) (1 ∷ [])) punct.EqualEqual (t.Number 12 ty0.Int (1 ∷ [])) (1 ∷ [])) (t.Number 1 ty0.Int (1 ∷ [])) (t.Unary punct.Minus (t.Number 1 ty0.Int (1 ∷ [])) (1 ∷ [])) (1 ∷ 1 ∷ []))) (1 ∷ 1 ∷ [])); init = None; lines = [] } ∷ []; lines = (1 ∷ []) })) ∷ (t.Declaration (record { specs = (t.more_specs (t.Key keyword.Char (1 ∷ [])) t.no_specs); list = record { declarator = (t.Array (t.Identifier (codes "c") (1 ∷ [])) (t.Length [] (t.Cond (t.Binary (t.SizeofExpr (t.Binary (t.Name (codes "a") (1 ∷ [])) punct.Plus (t.Number 0 ty0.Int (1 ∷ [])) (1 ∷ [])) (1 ∷ [])) punct.EqualEqual (t.Number 8 ty0.Int (1 ∷ [])) (1 ∷ [])) (t.Number 1 ty0.Int (1 ∷ [])) (t.Unary punct.Minus (t.Number 1 ty0.Int (1 ∷ [])) (1 ∷ [])) (1 ∷ 1 ∷ []))) (1 ∷ 1 ∷ [])); init = None; lines = [] } ∷ []; lines = (1 ∷ []) })) ∷ (t.Declaration (record { specs = (t.more_specs (t.Key keyword.Char (1 ∷ [])) t.no_specs); list = record { declarator = (t.Array (t.Identifier (codes "d") (1 ∷ [])) (t.Length [] (t.Cond (t.Binary (t.SizeofExpr (t.Index (t.Name (codes "a") (1 ∷ [])) (t.Number 0 ty0.Int (1 ∷ [])) (1 ∷ 1 ∷ [])) (1 ∷ [])) punct.EqualEqual (t.Number 4 ty0.Int (1 ∷ [])) (1 ∷ [])) (t.Number 1 ty0.Int (1 ∷ [])) (t.Unary punct.Minus (t.Number 1 ty0.Int (1 ∷ [])) (1 ∷ [])) (1 ∷ 1 ∷ []))) (1 ∷ 1 ∷ [])); init = None; lines = [] } ∷ []; lines = (1 ∷ []) })) ∷ (t.Declaration (record { specs = (t.more_specs (t.Key keyword.Char (1 ∷ [])) t.no_specs); list = record { declarator = (t.Array (t.Identifier (codes "e") (1 ∷ [])) (t.Length [] (t.Cond (t.Binary (t.SizeofExpr (t.Unary punct.Star (t.Name (codes "a") (1 ∷ [])) (1 ∷ [])) (1 ∷ [])) punct.EqualEqual (t.Number 4 ty0.Int (1 ∷ [])) (1 ∷ [])) (t.Number 1 ty0.Int (1 ∷ [])) (t.Unary punct.Minus (t.Number 1 ty0.Int (1 ∷ [])) (1 ∷ [])) (1 ∷ 1 ∷ []))) (1 ∷ 1 ∷ [])); init = None; lines = [] } ∷ []; lines = (1 ∷ []) })) ∷ (t.Declaration (record { specs = (t.more_specs (t.Key keyword.Char (1 ∷ [])) t.no_specs); list = record { declarator = (t.Array (t.Identifier (codes "f") (1 ∷ [])) (t.Length [] (t.Cond (t.Binary (t.SizeofExpr (t.Unary punct.Ampersand (t.Name (codes "a") (1 ∷ [])) (1 ∷ [])) (1 ∷ [])) punct.EqualEqual (t.Number 8 ty0.Int (1 ∷ [])) (1 ∷ [])) (t.Number 1 ty0.Int (1 ∷ [])) (t.Unary punct.Minus (t.Number 1 ty0.Int (1 ∷ [])) (1 ∷ [])) (1 ∷ 1 ∷ []))) (1 ∷ 1 ∷ [])); init = None; lines = [] } ∷ []; lines = (1 ∷ []) })) ∷ (t.Declaration (record { specs = (t.more_specs (t.Key keyword.Char (1 ∷ [])) t.no_specs); list = record { declarator = (t.Array (t.Identifier (codes "g") (1 ∷ [])) (t.Length [] (t.Cond (t.Binary (t.SizeofExpr (t.Unary punct.Star (t.Unary punct.Ampersand (t.Name (codes "a") (1 ∷ [])) (1 ∷ [])) (1 ∷ [])) (1 ∷ [])) punct.EqualEqual (t.Number 12 ty0.Int (1 ∷ [])) (1 ∷ [])) (t.Number 1 ty0.Int (1 ∷ [])) (t.Unary punct.Minus (t.Number 1 ty0.Int (1 ∷ [])) (1 ∷ [])) (1 ∷ 1 ∷ []))) (1 ∷ 1 ∷ [])); init = None; lines = [] } ∷ []; lines = (1 ∷ []) })) ∷ []; lines = [] })
unfolding layouts_of same_basic holds_const linkage_of clashes with_declaration with_content with_head unit_of landing puts_of constant_of is_null_constant pairing is_assignable check_gives check_chain check_here check_becomes check_look breaks node_rules rule_at same_key specs_type unary_of binary_of assignment_of
decays = refl

-- `char a[sizeof "abc" == 4 ? 1 : -1]; char b[sizeof *"abc" == 1 ? 1 : -1];`
string_is_array : is_fine (record { parts = (t.Declaration (record { specs = (t.more_specs (t.Key keyword.Char (1 ∷ [])) t.no_specs); list = record { declarator = (t.Array (t.Identifier (codes "a") (1 ∷ [])) (t.Length [] (t.Cond (t.Binary (t.SizeofExpr (t.Text ((codes "abc") ∷ []) (1 ∷ [])) (1 ∷ [])) punct.EqualEqual (t.Number 4 ty0.Int (1 ∷ [])) (1 ∷ [])) (t.Number 1 ty0.Int (1 ∷ [])) (t.Unary punct.Minus (t.Number 1 ty0.Int (1 ∷ [])) (1 ∷ [])) (1 ∷ 1 ∷ []))) (1 ∷ 1 ∷ [])); init = None; lines = [] } ∷ []; lines = (1 ∷ []) })) ∷ (t.Declaration (record { specs = (t.more_specs (t.Key keyword.Char (1 ∷ [])) t.no_specs); list = record { declarator = (t.Array (t.Identifier (codes "b") (1 ∷ [])) (t.Length [] (t.Cond (t.Binary (t.SizeofExpr (t.Unary punct.Star (t.Text ((codes "abc") ∷ []) (1 ∷ [])) (1 ∷ [])) (1 ∷ [])) punct.EqualEqual (t.Number 1 ty0.Int (1 ∷ [])) (1 ∷ [])) (t.Number 1 ty0.Int (1 ∷ [])) (t.Unary punct.Minus (t.Number 1 ty0.Int (1 ∷ [])) (1 ∷ [])) (1 ∷ 1 ∷ []))) (1 ∷ 1 ∷ [])); init = None; lines = [] } ∷ []; lines = (1 ∷ []) })) ∷ []; lines = [] })
unfolding layouts_of same_basic holds_const linkage_of clashes with_declaration with_content with_head unit_of landing puts_of constant_of is_null_constant pairing is_assignable check_gives check_chain check_here check_becomes check_look breaks node_rules rule_at same_key specs_type unary_of binary_of assignment_of
string_is_array = refl

-- `char f(void); char a[sizeof f() == 1 ? 1 : -1];`
call_has_result : is_fine (record { parts = (t.Declaration (record { specs = (t.more_specs (t.Key keyword.Char (1 ∷ [])) t.no_specs); list = record { declarator = (t.Function (t.Identifier (codes "f") (1 ∷ [])) (t.more_params (t.Param (t.more_specs (t.Key keyword.Void (1 ∷ [])) t.no_specs) t.Missing []) t.no_params) false (1 ∷ 1 ∷ [])); init = None; lines = [] } ∷ []; lines = (1 ∷ []) })) ∷ (t.Declaration (record { specs = (t.more_specs (t.Key keyword.Char (1 ∷ [])) t.no_specs); list = record { declarator = (t.Array (t.Identifier (codes "a") (1 ∷ [])) (t.Length [] (t.Cond (t.Binary (t.SizeofExpr (t.Call (t.Name (codes "f") (1 ∷ [])) t.no_exprs (1 ∷ 1 ∷ [])) (1 ∷ [])) punct.EqualEqual (t.Number 1 ty0.Int (1 ∷ [])) (1 ∷ [])) (t.Number 1 ty0.Int (1 ∷ [])) (t.Unary punct.Minus (t.Number 1 ty0.Int (1 ∷ [])) (1 ∷ [])) (1 ∷ 1 ∷ []))) (1 ∷ 1 ∷ [])); init = None; lines = [] } ∷ []; lines = (1 ∷ []) })) ∷ []; lines = [] })
unfolding layouts_of same_basic holds_const linkage_of clashes with_declaration with_content with_head unit_of landing puts_of constant_of is_null_constant pairing is_assignable check_gives check_chain check_here check_becomes check_look breaks node_rules rule_at same_key specs_type unary_of binary_of assignment_of
call_has_result = refl

-- `char x; char a[sizeof (x = 1l) == 1 ? 1 : -1]; char b[sizeof (x += 1l) == 1 ? 1 : -1]; char c[sizeof x++ == 1 ? 1 : -1];`
assignment_has_left : is_fine (record { parts = (t.Declaration (record { specs = (t.more_specs (t.Key keyword.Char (1 ∷ [])) t.no_specs); list = record { declarator = (t.Identifier (codes "x") (1 ∷ [])); init = None; lines = [] } ∷ []; lines = (1 ∷ []) })) ∷ (t.Declaration (record { specs = (t.more_specs (t.Key keyword.Char (1 ∷ [])) t.no_specs); list = record { declarator = (t.Array (t.Identifier (codes "a") (1 ∷ [])) (t.Length [] (t.Cond (t.Binary (t.SizeofExpr (t.Assign (t.Name (codes "x") (1 ∷ [])) punct.Equal (t.Number 1 ty0.Long (1 ∷ [])) (1 ∷ [])) (1 ∷ [])) punct.EqualEqual (t.Number 1 ty0.Int (1 ∷ [])) (1 ∷ [])) (t.Number 1 ty0.Int (1 ∷ [])) (t.Unary punct.Minus (t.Number 1 ty0.Int (1 ∷ [])) (1 ∷ [])) (1 ∷ 1 ∷ []))) (1 ∷ 1 ∷ [])); init = None; lines = [] } ∷ []; lines = (1 ∷ []) })) ∷ (t.Declaration (record { specs = (t.more_specs (t.Key keyword.Char (1 ∷ [])) t.no_specs); list = record { declarator = (t.Array (t.Identifier (codes "b") (1 ∷ [])) (t.Length [] (t.Cond (t.Binary (t.SizeofExpr (t.Assign (t.Name (codes "x") (1 ∷ [])) punct.PlusEqual (t.Number 1 ty0.Long (1 ∷ [])) (1 ∷ [])) (1 ∷ [])) punct.EqualEqual (t.Number 1 ty0.Int (1 ∷ [])) (1 ∷ [])) (t.Number 1 ty0.Int (1 ∷ [])) (t.Unary punct.Minus (t.Number 1 ty0.Int (1 ∷ [])) (1 ∷ [])) (1 ∷ 1 ∷ []))) (1 ∷ 1 ∷ [])); init = None; lines = [] } ∷ []; lines = (1 ∷ []) })) ∷ (t.Declaration (record { specs = (t.more_specs (t.Key keyword.Char (1 ∷ [])) t.no_specs); list = record { declarator = (t.Array (t.Identifier (codes "c") (1 ∷ [])) (t.Length [] (t.Cond (t.Binary (t.SizeofExpr (t.PostUp (t.Name (codes "x") (1 ∷ [])) (1 ∷ [])) (1 ∷ [])) punct.EqualEqual (t.Number 1 ty0.Int (1 ∷ [])) (1 ∷ [])) (t.Number 1 ty0.Int (1 ∷ [])) (t.Unary punct.Minus (t.Number 1 ty0.Int (1 ∷ [])) (1 ∷ [])) (1 ∷ 1 ∷ []))) (1 ∷ 1 ∷ [])); init = None; lines = [] } ∷ []; lines = (1 ∷ []) })) ∷ []; lines = [] })
unfolding layouts_of same_basic holds_const linkage_of clashes with_declaration with_content with_head unit_of landing puts_of constant_of is_null_constant pairing is_assignable check_gives check_chain check_here check_becomes check_look breaks node_rules rule_at same_key specs_type unary_of binary_of assignment_of
assignment_has_left = refl

-- `int a[3]; char b[sizeof (&a[1] - a) == 8 ? 1 : -1];`
difference_is_long : is_fine (record { parts = (t.Declaration (record { specs = (t.more_specs (t.Key keyword.Int (1 ∷ [])) t.no_specs); list = record { declarator = (t.Array (t.Identifier (codes "a") (1 ∷ [])) (t.Length [] (t.Number 3 ty0.Int (1 ∷ []))) (1 ∷ 1 ∷ [])); init = None; lines = [] } ∷ []; lines = (1 ∷ []) })) ∷ (t.Declaration (record { specs = (t.more_specs (t.Key keyword.Char (1 ∷ [])) t.no_specs); list = record { declarator = (t.Array (t.Identifier (codes "b") (1 ∷ [])) (t.Length [] (t.Cond (t.Binary (t.SizeofExpr (t.Binary (t.Unary punct.Ampersand (t.Index (t.Name (codes "a") (1 ∷ [])) (t.Number 1 ty0.Int (1 ∷ [])) (1 ∷ 1 ∷ [])) (1 ∷ [])) punct.Minus (t.Name (codes "a") (1 ∷ [])) (1 ∷ [])) (1 ∷ [])) punct.EqualEqual (t.Number 8 ty0.Int (1 ∷ [])) (1 ∷ [])) (t.Number 1 ty0.Int (1 ∷ [])) (t.Unary punct.Minus (t.Number 1 ty0.Int (1 ∷ [])) (1 ∷ [])) (1 ∷ 1 ∷ []))) (1 ∷ 1 ∷ [])); init = None; lines = [] } ∷ []; lines = (1 ∷ []) })) ∷ []; lines = [] })
unfolding layouts_of same_basic holds_const linkage_of clashes with_declaration with_content with_head unit_of landing puts_of constant_of is_null_constant pairing is_assignable check_gives check_chain check_here check_becomes check_look breaks node_rules rule_at same_key specs_type unary_of binary_of assignment_of
difference_is_long = refl

-- `struct s { char c; int d[3]; } x; char a[sizeof x.d == 12 ? 1 : -1]; char b[sizeof (&x)->c == 1 ? 1 : -1];`
member_has_type : is_fine (record { parts = (t.Declaration (record { specs = (t.more_specs (t.Record false (Some (codes "s")) (t.some_members (t.more_member_decls (t.MemberDecl (t.more_specs (t.Key keyword.Char (1 ∷ [])) t.no_specs) (t.more_member_declarators (t.MemberDeclarator (t.Identifier (codes "c") (1 ∷ [])) t.no_expr (1 ∷ [])) t.no_member_declarators) (1 ∷ [])) (t.more_member_decls (t.MemberDecl (t.more_specs (t.Key keyword.Int (1 ∷ [])) t.no_specs) (t.more_member_declarators (t.MemberDeclarator (t.Array (t.Identifier (codes "d") (1 ∷ [])) (t.Length [] (t.Number 3 ty0.Int (1 ∷ []))) (1 ∷ 1 ∷ [])) t.no_expr (1 ∷ [])) t.no_member_declarators) (1 ∷ [])) t.no_member_decls))) (1 ∷ 1 ∷ 1 ∷ [])) t.no_specs); list = record { declarator = (t.Identifier (codes "x") (1 ∷ [])); init = None; lines = [] } ∷ []; lines = (1 ∷ []) })) ∷ (t.Declaration (record { specs = (t.more_specs (t.Key keyword.Char (1 ∷ [])) t.no_specs); list = record { declarator = (t.Array (t.Identifier (codes "a") (1 ∷ [])) (t.Length [] (t.Cond (t.Binary (t.SizeofExpr (t.Dot (t.Name (codes "x") (1 ∷ [])) (codes "d") (1 ∷ 1 ∷ [])) (1 ∷ [])) punct.EqualEqual (t.Number 12 ty0.Int (1 ∷ [])) (1 ∷ [])) (t.Number 1 ty0.Int (1 ∷ [])) (t.Unary punct.Minus (t.Number 1 ty0.Int (1 ∷ [])) (1 ∷ [])) (1 ∷ 1 ∷ []))) (1 ∷ 1 ∷ [])); init = None; lines = [] } ∷ []; lines = (1 ∷ []) })) ∷ (t.Declaration (record { specs = (t.more_specs (t.Key keyword.Char (1 ∷ [])) t.no_specs); list = record { declarator = (t.Array (t.Identifier (codes "b") (1 ∷ [])) (t.Length [] (t.Cond (t.Binary (t.SizeofExpr (t.Arrow (t.Unary punct.Ampersand (t.Name (codes "x") (1 ∷ [])) (1 ∷ [])) (codes "c") (1 ∷ 1 ∷ [])) (1 ∷ [])) punct.EqualEqual (t.Number 1 ty0.Int (1 ∷ [])) (1 ∷ [])) (t.Number 1 ty0.Int (1 ∷ [])) (t.Unary punct.Minus (t.Number 1 ty0.Int (1 ∷ [])) (1 ∷ [])) (1 ∷ 1 ∷ []))) (1 ∷ 1 ∷ [])); init = None; lines = [] } ∷ []; lines = (1 ∷ []) })) ∷ []; lines = [] })
unfolding layouts_of same_basic holds_const linkage_of clashes with_declaration with_content with_head unit_of landing puts_of constant_of is_null_constant pairing is_assignable check_gives check_chain check_here check_becomes check_look breaks node_rules rule_at same_key specs_type unary_of binary_of assignment_of
member_has_type = refl

-- `int main(void) { int *p = 0; const int *q = 0; void *v = 0; const int *r = 1 ? p : q; v = 1 ? p : v; p = 1 ? v : p; return 0; }`
pointer_choice : is_fine (record { parts = (t.Defined (record { specs = (t.more_specs (t.Key keyword.Int (1 ∷ [])) t.no_specs); declarator = (t.Function (t.Identifier (codes "main") (1 ∷ [])) (t.more_params (t.Param (t.more_specs (t.Key keyword.Void (1 ∷ [])) t.no_specs) t.Missing []) t.no_params) false (1 ∷ 1 ∷ [])); body = t.Block (t.more_items (t.Declared (record { specs = (t.more_specs (t.Key keyword.Int (1 ∷ [])) t.no_specs); list = record { declarator = (t.Pointer [] (t.Identifier (codes "p") (1 ∷ [])) (1 ∷ [])); init = (Some (t.Single (t.Number 0 ty0.Int (1 ∷ [])))); lines = [] } ∷ []; lines = (1 ∷ []) })) (t.more_items (t.Declared (record { specs = (t.more_specs (t.Key keyword.Const (1 ∷ [])) (t.more_specs (t.Key keyword.Int (1 ∷ [])) t.no_specs)); list = record { declarator = (t.Pointer [] (t.Identifier (codes "q") (1 ∷ [])) (1 ∷ [])); init = (Some (t.Single (t.Number 0 ty0.Int (1 ∷ [])))); lines = [] } ∷ []; lines = (1 ∷ []) })) (t.more_items (t.Declared (record { specs = (t.more_specs (t.Key keyword.Void (1 ∷ [])) t.no_specs); list = record { declarator = (t.Pointer [] (t.Identifier (codes "v") (1 ∷ [])) (1 ∷ [])); init = (Some (t.Single (t.Number 0 ty0.Int (1 ∷ [])))); lines = [] } ∷ []; lines = (1 ∷ []) })) (t.more_items (t.Declared (record { specs = (t.more_specs (t.Key keyword.Const (1 ∷ [])) (t.more_specs (t.Key keyword.Int (1 ∷ [])) t.no_specs)); list = record { declarator = (t.Pointer [] (t.Identifier (codes "r") (1 ∷ [])) (1 ∷ [])); init = (Some (t.Single (t.Cond (t.Number 1 ty0.Int (1 ∷ [])) (t.Name (codes "p") (1 ∷ [])) (t.Name (codes "q") (1 ∷ [])) (1 ∷ 1 ∷ [])))); lines = [] } ∷ []; lines = (1 ∷ []) })) (t.more_items (t.Statement (t.ExprStmt (t.some_expr (t.Assign (t.Name (codes "v") (1 ∷ [])) punct.Equal (t.Cond (t.Number 1 ty0.Int (1 ∷ [])) (t.Name (codes "p") (1 ∷ [])) (t.Name (codes "v") (1 ∷ [])) (1 ∷ 1 ∷ [])) (1 ∷ []))) (1 ∷ []))) (t.more_items (t.Statement (t.ExprStmt (t.some_expr (t.Assign (t.Name (codes "p") (1 ∷ [])) punct.Equal (t.Cond (t.Number 1 ty0.Int (1 ∷ [])) (t.Name (codes "v") (1 ∷ [])) (t.Name (codes "p") (1 ∷ [])) (1 ∷ 1 ∷ [])) (1 ∷ []))) (1 ∷ []))) (t.more_items (t.Statement (t.Return (t.some_expr (t.Number 0 ty0.Int (1 ∷ []))) (1 ∷ 1 ∷ []))) t.no_items))))))) (1 ∷ 1 ∷ []); lines = [] })) ∷ []; lines = [] })
unfolding layouts_of same_basic holds_const linkage_of clashes with_declaration with_content with_head unit_of landing puts_of constant_of is_null_constant pairing is_assignable check_gives check_chain check_here check_becomes check_look breaks node_rules rule_at same_key specs_type unary_of binary_of assignment_of
pointer_choice = refl

-- `int main(void) { int *p = 0; const int *q = 0; p = 1 ? p : q; return 0; }`
choice_adds_const : is_refused (record { parts = (t.Defined (record { specs = (t.more_specs (t.Key keyword.Int (1 ∷ [])) t.no_specs); declarator = (t.Function (t.Identifier (codes "main") (1 ∷ [])) (t.more_params (t.Param (t.more_specs (t.Key keyword.Void (1 ∷ [])) t.no_specs) t.Missing []) t.no_params) false (1 ∷ 1 ∷ [])); body = t.Block (t.more_items (t.Declared (record { specs = (t.more_specs (t.Key keyword.Int (1 ∷ [])) t.no_specs); list = record { declarator = (t.Pointer [] (t.Identifier (codes "p") (1 ∷ [])) (1 ∷ [])); init = (Some (t.Single (t.Number 0 ty0.Int (1 ∷ [])))); lines = [] } ∷ []; lines = (1 ∷ []) })) (t.more_items (t.Declared (record { specs = (t.more_specs (t.Key keyword.Const (1 ∷ [])) (t.more_specs (t.Key keyword.Int (1 ∷ [])) t.no_specs)); list = record { declarator = (t.Pointer [] (t.Identifier (codes "q") (1 ∷ [])) (1 ∷ [])); init = (Some (t.Single (t.Number 0 ty0.Int (1 ∷ [])))); lines = [] } ∷ []; lines = (1 ∷ []) })) (t.more_items (t.Statement (t.ExprStmt (t.some_expr (t.Assign (t.Name (codes "p") (1 ∷ [])) punct.Equal (t.Cond (t.Number 1 ty0.Int (1 ∷ [])) (t.Name (codes "p") (1 ∷ [])) (t.Name (codes "q") (1 ∷ [])) (1 ∷ 1 ∷ [])) (1 ∷ []))) (1 ∷ []))) (t.more_items (t.Statement (t.Return (t.some_expr (t.Number 0 ty0.Int (1 ∷ []))) (1 ∷ 1 ∷ []))) t.no_items)))) (1 ∷ 1 ∷ []); lines = [] })) ∷ []; lines = [] }) rule.K12 1
unfolding layouts_of same_basic holds_const linkage_of clashes with_declaration with_content with_head unit_of landing puts_of constant_of is_null_constant pairing is_assignable check_gives check_chain check_here check_becomes check_look breaks node_rules rule_at same_key specs_type unary_of binary_of assignment_of
choice_adds_const = refl

-- `int main(void) { void *p = 0; const int *q = 0; p = 1 ? p : q; return 0; }`
choice_of_void_adds_const : is_refused (record { parts = (t.Defined (record { specs = (t.more_specs (t.Key keyword.Int (1 ∷ [])) t.no_specs); declarator = (t.Function (t.Identifier (codes "main") (1 ∷ [])) (t.more_params (t.Param (t.more_specs (t.Key keyword.Void (1 ∷ [])) t.no_specs) t.Missing []) t.no_params) false (1 ∷ 1 ∷ [])); body = t.Block (t.more_items (t.Declared (record { specs = (t.more_specs (t.Key keyword.Void (1 ∷ [])) t.no_specs); list = record { declarator = (t.Pointer [] (t.Identifier (codes "p") (1 ∷ [])) (1 ∷ [])); init = (Some (t.Single (t.Number 0 ty0.Int (1 ∷ [])))); lines = [] } ∷ []; lines = (1 ∷ []) })) (t.more_items (t.Declared (record { specs = (t.more_specs (t.Key keyword.Const (1 ∷ [])) (t.more_specs (t.Key keyword.Int (1 ∷ [])) t.no_specs)); list = record { declarator = (t.Pointer [] (t.Identifier (codes "q") (1 ∷ [])) (1 ∷ [])); init = (Some (t.Single (t.Number 0 ty0.Int (1 ∷ [])))); lines = [] } ∷ []; lines = (1 ∷ []) })) (t.more_items (t.Statement (t.ExprStmt (t.some_expr (t.Assign (t.Name (codes "p") (1 ∷ [])) punct.Equal (t.Cond (t.Number 1 ty0.Int (1 ∷ [])) (t.Name (codes "p") (1 ∷ [])) (t.Name (codes "q") (1 ∷ [])) (1 ∷ 1 ∷ [])) (1 ∷ []))) (1 ∷ []))) (t.more_items (t.Statement (t.Return (t.some_expr (t.Number 0 ty0.Int (1 ∷ []))) (1 ∷ 1 ∷ []))) t.no_items)))) (1 ∷ 1 ∷ []); lines = [] })) ∷ []; lines = [] }) rule.K12 1
unfolding layouts_of same_basic holds_const linkage_of clashes with_declaration with_content with_head unit_of landing puts_of constant_of is_null_constant pairing is_assignable check_gives check_chain check_here check_becomes check_look breaks node_rules rule_at same_key specs_type unary_of binary_of assignment_of
choice_of_void_adds_const = refl

-- `int main(void) { int *p = 0; char *q = 0; 1 ? p : q; return 0; }`
choice_of_others : is_refused (record { parts = (t.Defined (record { specs = (t.more_specs (t.Key keyword.Int (1 ∷ [])) t.no_specs); declarator = (t.Function (t.Identifier (codes "main") (1 ∷ [])) (t.more_params (t.Param (t.more_specs (t.Key keyword.Void (1 ∷ [])) t.no_specs) t.Missing []) t.no_params) false (1 ∷ 1 ∷ [])); body = t.Block (t.more_items (t.Declared (record { specs = (t.more_specs (t.Key keyword.Int (1 ∷ [])) t.no_specs); list = record { declarator = (t.Pointer [] (t.Identifier (codes "p") (1 ∷ [])) (1 ∷ [])); init = (Some (t.Single (t.Number 0 ty0.Int (1 ∷ [])))); lines = [] } ∷ []; lines = (1 ∷ []) })) (t.more_items (t.Declared (record { specs = (t.more_specs (t.Key keyword.Char (1 ∷ [])) t.no_specs); list = record { declarator = (t.Pointer [] (t.Identifier (codes "q") (1 ∷ [])) (1 ∷ [])); init = (Some (t.Single (t.Number 0 ty0.Int (1 ∷ [])))); lines = [] } ∷ []; lines = (1 ∷ []) })) (t.more_items (t.Statement (t.ExprStmt (t.some_expr (t.Cond (t.Number 1 ty0.Int (1 ∷ [])) (t.Name (codes "p") (1 ∷ [])) (t.Name (codes "q") (1 ∷ [])) (1 ∷ 1 ∷ []))) (1 ∷ []))) (t.more_items (t.Statement (t.Return (t.some_expr (t.Number 0 ty0.Int (1 ∷ []))) (1 ∷ 1 ∷ []))) t.no_items)))) (1 ∷ 1 ∷ []); lines = [] })) ∷ []; lines = [] }) rule.K16 1
unfolding layouts_of same_basic holds_const linkage_of clashes with_declaration with_content with_head unit_of landing puts_of constant_of is_null_constant pairing is_assignable check_gives check_chain check_here check_becomes check_look breaks node_rules rule_at same_key specs_type unary_of binary_of assignment_of
choice_of_others = refl

-- `void f(void); int main(void) { 1 ? f() : 1; return 0; }`
choice_of_void_and_int : is_refused (record { parts = (t.Declaration (record { specs = (t.more_specs (t.Key keyword.Void (1 ∷ [])) t.no_specs); list = record { declarator = (t.Function (t.Identifier (codes "f") (1 ∷ [])) (t.more_params (t.Param (t.more_specs (t.Key keyword.Void (1 ∷ [])) t.no_specs) t.Missing []) t.no_params) false (1 ∷ 1 ∷ [])); init = None; lines = [] } ∷ []; lines = (1 ∷ []) })) ∷ (t.Defined (record { specs = (t.more_specs (t.Key keyword.Int (1 ∷ [])) t.no_specs); declarator = (t.Function (t.Identifier (codes "main") (1 ∷ [])) (t.more_params (t.Param (t.more_specs (t.Key keyword.Void (1 ∷ [])) t.no_specs) t.Missing []) t.no_params) false (1 ∷ 1 ∷ [])); body = t.Block (t.more_items (t.Statement (t.ExprStmt (t.some_expr (t.Cond (t.Number 1 ty0.Int (1 ∷ [])) (t.Call (t.Name (codes "f") (1 ∷ [])) t.no_exprs (1 ∷ 1 ∷ [])) (t.Number 1 ty0.Int (1 ∷ [])) (1 ∷ 1 ∷ []))) (1 ∷ []))) (t.more_items (t.Statement (t.Return (t.some_expr (t.Number 0 ty0.Int (1 ∷ []))) (1 ∷ 1 ∷ []))) t.no_items)) (1 ∷ 1 ∷ []); lines = [] })) ∷ []; lines = [] }) rule.K16 1
unfolding layouts_of same_basic holds_const linkage_of clashes with_declaration with_content with_head unit_of landing puts_of constant_of is_null_constant pairing is_assignable check_gives check_chain check_here check_becomes check_look breaks node_rules rule_at same_key specs_type unary_of binary_of assignment_of
choice_of_void_and_int = refl

-- `void f(void); int main(void) { 1 ? f() : f(); return 0; }`
choice_of_voids : is_fine (record { parts = (t.Declaration (record { specs = (t.more_specs (t.Key keyword.Void (1 ∷ [])) t.no_specs); list = record { declarator = (t.Function (t.Identifier (codes "f") (1 ∷ [])) (t.more_params (t.Param (t.more_specs (t.Key keyword.Void (1 ∷ [])) t.no_specs) t.Missing []) t.no_params) false (1 ∷ 1 ∷ [])); init = None; lines = [] } ∷ []; lines = (1 ∷ []) })) ∷ (t.Defined (record { specs = (t.more_specs (t.Key keyword.Int (1 ∷ [])) t.no_specs); declarator = (t.Function (t.Identifier (codes "main") (1 ∷ [])) (t.more_params (t.Param (t.more_specs (t.Key keyword.Void (1 ∷ [])) t.no_specs) t.Missing []) t.no_params) false (1 ∷ 1 ∷ [])); body = t.Block (t.more_items (t.Statement (t.ExprStmt (t.some_expr (t.Cond (t.Number 1 ty0.Int (1 ∷ [])) (t.Call (t.Name (codes "f") (1 ∷ [])) t.no_exprs (1 ∷ 1 ∷ [])) (t.Call (t.Name (codes "f") (1 ∷ [])) t.no_exprs (1 ∷ 1 ∷ [])) (1 ∷ 1 ∷ []))) (1 ∷ []))) (t.more_items (t.Statement (t.Return (t.some_expr (t.Number 0 ty0.Int (1 ∷ []))) (1 ∷ 1 ∷ []))) t.no_items)) (1 ∷ 1 ∷ []); lines = [] })) ∷ []; lines = [] })
unfolding layouts_of same_basic holds_const linkage_of clashes with_declaration with_content with_head unit_of landing puts_of constant_of is_null_constant pairing is_assignable check_gives check_chain check_here check_becomes check_look breaks node_rules rule_at same_key specs_type unary_of binary_of assignment_of
choice_of_voids = refl

-- `struct s { int a; } x; struct s y; int main(void) { return (1 ? x : y).a; }`
choice_of_records : is_fine (record { parts = (t.Declaration (record { specs = (t.more_specs (t.Record false (Some (codes "s")) (t.some_members (t.more_member_decls (t.MemberDecl (t.more_specs (t.Key keyword.Int (1 ∷ [])) t.no_specs) (t.more_member_declarators (t.MemberDeclarator (t.Identifier (codes "a") (1 ∷ [])) t.no_expr (1 ∷ [])) t.no_member_declarators) (1 ∷ [])) t.no_member_decls)) (1 ∷ 1 ∷ 1 ∷ [])) t.no_specs); list = record { declarator = (t.Identifier (codes "x") (1 ∷ [])); init = None; lines = [] } ∷ []; lines = (1 ∷ []) })) ∷ (t.Declaration (record { specs = (t.more_specs (t.Record false (Some (codes "s")) t.no_members (1 ∷ 1 ∷ [])) t.no_specs); list = record { declarator = (t.Identifier (codes "y") (1 ∷ [])); init = None; lines = [] } ∷ []; lines = (1 ∷ []) })) ∷ (t.Defined (record { specs = (t.more_specs (t.Key keyword.Int (1 ∷ [])) t.no_specs); declarator = (t.Function (t.Identifier (codes "main") (1 ∷ [])) (t.more_params (t.Param (t.more_specs (t.Key keyword.Void (1 ∷ [])) t.no_specs) t.Missing []) t.no_params) false (1 ∷ 1 ∷ [])); body = t.Block (t.more_items (t.Statement (t.Return (t.some_expr (t.Dot (t.Cond (t.Number 1 ty0.Int (1 ∷ [])) (t.Name (codes "x") (1 ∷ [])) (t.Name (codes "y") (1 ∷ [])) (1 ∷ 1 ∷ [])) (codes "a") (1 ∷ 1 ∷ []))) (1 ∷ 1 ∷ []))) t.no_items) (1 ∷ 1 ∷ []); lines = [] })) ∷ []; lines = [] })
unfolding layouts_of same_basic holds_const linkage_of clashes with_declaration with_content with_head unit_of landing puts_of constant_of is_null_constant pairing is_assignable check_gives check_chain check_here check_becomes check_look breaks node_rules rule_at same_key specs_type unary_of binary_of assignment_of
choice_of_records = refl

-- `struct s { int a; } x; struct t { int a; } y; int main(void) { 1 ? x : y; return 0; }`
choice_of_two_records : is_refused (record { parts = (t.Declaration (record { specs = (t.more_specs (t.Record false (Some (codes "s")) (t.some_members (t.more_member_decls (t.MemberDecl (t.more_specs (t.Key keyword.Int (1 ∷ [])) t.no_specs) (t.more_member_declarators (t.MemberDeclarator (t.Identifier (codes "a") (1 ∷ [])) t.no_expr (1 ∷ [])) t.no_member_declarators) (1 ∷ [])) t.no_member_decls)) (1 ∷ 1 ∷ 1 ∷ [])) t.no_specs); list = record { declarator = (t.Identifier (codes "x") (1 ∷ [])); init = None; lines = [] } ∷ []; lines = (1 ∷ []) })) ∷ (t.Declaration (record { specs = (t.more_specs (t.Record false (Some (codes "t")) (t.some_members (t.more_member_decls (t.MemberDecl (t.more_specs (t.Key keyword.Int (1 ∷ [])) t.no_specs) (t.more_member_declarators (t.MemberDeclarator (t.Identifier (codes "a") (1 ∷ [])) t.no_expr (1 ∷ [])) t.no_member_declarators) (1 ∷ [])) t.no_member_decls)) (1 ∷ 1 ∷ 1 ∷ [])) t.no_specs); list = record { declarator = (t.Identifier (codes "y") (1 ∷ [])); init = None; lines = [] } ∷ []; lines = (1 ∷ []) })) ∷ (t.Defined (record { specs = (t.more_specs (t.Key keyword.Int (1 ∷ [])) t.no_specs); declarator = (t.Function (t.Identifier (codes "main") (1 ∷ [])) (t.more_params (t.Param (t.more_specs (t.Key keyword.Void (1 ∷ [])) t.no_specs) t.Missing []) t.no_params) false (1 ∷ 1 ∷ [])); body = t.Block (t.more_items (t.Statement (t.ExprStmt (t.some_expr (t.Cond (t.Number 1 ty0.Int (1 ∷ [])) (t.Name (codes "x") (1 ∷ [])) (t.Name (codes "y") (1 ∷ [])) (1 ∷ 1 ∷ []))) (1 ∷ []))) (t.more_items (t.Statement (t.Return (t.some_expr (t.Number 0 ty0.Int (1 ∷ []))) (1 ∷ 1 ∷ []))) t.no_items)) (1 ∷ 1 ∷ []); lines = [] })) ∷ []; lines = [] }) rule.K16 1
unfolding layouts_of same_basic holds_const linkage_of clashes with_declaration with_content with_head unit_of landing puts_of constant_of is_null_constant pairing is_assignable check_gives check_chain check_here check_becomes check_look breaks node_rules rule_at same_key specs_type unary_of binary_of assignment_of
choice_of_two_records = refl

-- `void f(void); int main(void) { return f() ? 1 : 2; }`
choice_by_void : is_refused (record { parts = (t.Declaration (record { specs = (t.more_specs (t.Key keyword.Void (1 ∷ [])) t.no_specs); list = record { declarator = (t.Function (t.Identifier (codes "f") (1 ∷ [])) (t.more_params (t.Param (t.more_specs (t.Key keyword.Void (1 ∷ [])) t.no_specs) t.Missing []) t.no_params) false (1 ∷ 1 ∷ [])); init = None; lines = [] } ∷ []; lines = (1 ∷ []) })) ∷ (t.Defined (record { specs = (t.more_specs (t.Key keyword.Int (1 ∷ [])) t.no_specs); declarator = (t.Function (t.Identifier (codes "main") (1 ∷ [])) (t.more_params (t.Param (t.more_specs (t.Key keyword.Void (1 ∷ [])) t.no_specs) t.Missing []) t.no_params) false (1 ∷ 1 ∷ [])); body = t.Block (t.more_items (t.Statement (t.Return (t.some_expr (t.Cond (t.Call (t.Name (codes "f") (1 ∷ [])) t.no_exprs (1 ∷ 1 ∷ [])) (t.Number 1 ty0.Int (1 ∷ [])) (t.Number 2 ty0.Int (1 ∷ [])) (1 ∷ 1 ∷ []))) (1 ∷ 1 ∷ []))) t.no_items) (1 ∷ 1 ∷ []); lines = [] })) ∷ []; lines = [] }) rule.K10 1
unfolding layouts_of same_basic holds_const linkage_of clashes with_declaration with_content with_head unit_of landing puts_of constant_of is_null_constant pairing is_assignable check_gives check_chain check_here check_becomes check_look breaks node_rules rule_at same_key specs_type unary_of binary_of assignment_of
choice_by_void = refl

-- `int a[3]; int main(void) { return 1[a] + a[1]; }`
index_either_way : is_fine (record { parts = (t.Declaration (record { specs = (t.more_specs (t.Key keyword.Int (1 ∷ [])) t.no_specs); list = record { declarator = (t.Array (t.Identifier (codes "a") (1 ∷ [])) (t.Length [] (t.Number 3 ty0.Int (1 ∷ []))) (1 ∷ 1 ∷ [])); init = None; lines = [] } ∷ []; lines = (1 ∷ []) })) ∷ (t.Defined (record { specs = (t.more_specs (t.Key keyword.Int (1 ∷ [])) t.no_specs); declarator = (t.Function (t.Identifier (codes "main") (1 ∷ [])) (t.more_params (t.Param (t.more_specs (t.Key keyword.Void (1 ∷ [])) t.no_specs) t.Missing []) t.no_params) false (1 ∷ 1 ∷ [])); body = t.Block (t.more_items (t.Statement (t.Return (t.some_expr (t.Binary (t.Index (t.Number 1 ty0.Int (1 ∷ [])) (t.Name (codes "a") (1 ∷ [])) (1 ∷ 1 ∷ [])) punct.Plus (t.Index (t.Name (codes "a") (1 ∷ [])) (t.Number 1 ty0.Int (1 ∷ [])) (1 ∷ 1 ∷ [])) (1 ∷ []))) (1 ∷ 1 ∷ []))) t.no_items) (1 ∷ 1 ∷ []); lines = [] })) ∷ []; lines = [] })
unfolding layouts_of same_basic holds_const linkage_of clashes with_declaration with_content with_head unit_of landing puts_of constant_of is_null_constant pairing is_assignable check_gives check_chain check_here check_becomes check_look breaks node_rules rule_at same_key specs_type unary_of binary_of assignment_of
index_either_way = refl

-- `int main(void) { return 1[2]; }`
index_of_numbers : is_refused (record { parts = (t.Defined (record { specs = (t.more_specs (t.Key keyword.Int (1 ∷ [])) t.no_specs); declarator = (t.Function (t.Identifier (codes "main") (1 ∷ [])) (t.more_params (t.Param (t.more_specs (t.Key keyword.Void (1 ∷ [])) t.no_specs) t.Missing []) t.no_params) false (1 ∷ 1 ∷ [])); body = t.Block (t.more_items (t.Statement (t.Return (t.some_expr (t.Index (t.Number 1 ty0.Int (1 ∷ [])) (t.Number 2 ty0.Int (1 ∷ [])) (1 ∷ 1 ∷ []))) (1 ∷ 1 ∷ []))) t.no_items) (1 ∷ 1 ∷ []); lines = [] })) ∷ []; lines = [] }) rule.K10 1
unfolding layouts_of same_basic holds_const linkage_of clashes with_declaration with_content with_head unit_of landing puts_of constant_of is_null_constant pairing is_assignable check_gives check_chain check_here check_becomes check_look breaks node_rules rule_at same_key specs_type unary_of binary_of assignment_of
index_of_numbers = refl

-- `int main(void) { void *p = 0; return p[0], 0; }`
index_of_void : is_refused (record { parts = (t.Defined (record { specs = (t.more_specs (t.Key keyword.Int (1 ∷ [])) t.no_specs); declarator = (t.Function (t.Identifier (codes "main") (1 ∷ [])) (t.more_params (t.Param (t.more_specs (t.Key keyword.Void (1 ∷ [])) t.no_specs) t.Missing []) t.no_params) false (1 ∷ 1 ∷ [])); body = t.Block (t.more_items (t.Declared (record { specs = (t.more_specs (t.Key keyword.Void (1 ∷ [])) t.no_specs); list = record { declarator = (t.Pointer [] (t.Identifier (codes "p") (1 ∷ [])) (1 ∷ [])); init = (Some (t.Single (t.Number 0 ty0.Int (1 ∷ [])))); lines = [] } ∷ []; lines = (1 ∷ []) })) (t.more_items (t.Statement (t.Return (t.some_expr (t.Comma (t.Index (t.Name (codes "p") (1 ∷ [])) (t.Number 0 ty0.Int (1 ∷ [])) (1 ∷ 1 ∷ [])) (t.Number 0 ty0.Int (1 ∷ [])) (1 ∷ []))) (1 ∷ 1 ∷ []))) t.no_items)) (1 ∷ 1 ∷ []); lines = [] })) ∷ []; lines = [] }) rule.K10 1
unfolding layouts_of same_basic holds_const linkage_of clashes with_declaration with_content with_head unit_of landing puts_of constant_of is_null_constant pairing is_assignable check_gives check_chain check_here check_becomes check_look breaks node_rules rule_at same_key specs_type unary_of binary_of assignment_of
index_of_void = refl

-- `int main(void) { void *p = 0; p + 1; return 0; }`
moves_void : is_refused (record { parts = (t.Defined (record { specs = (t.more_specs (t.Key keyword.Int (1 ∷ [])) t.no_specs); declarator = (t.Function (t.Identifier (codes "main") (1 ∷ [])) (t.more_params (t.Param (t.more_specs (t.Key keyword.Void (1 ∷ [])) t.no_specs) t.Missing []) t.no_params) false (1 ∷ 1 ∷ [])); body = t.Block (t.more_items (t.Declared (record { specs = (t.more_specs (t.Key keyword.Void (1 ∷ [])) t.no_specs); list = record { declarator = (t.Pointer [] (t.Identifier (codes "p") (1 ∷ [])) (1 ∷ [])); init = (Some (t.Single (t.Number 0 ty0.Int (1 ∷ [])))); lines = [] } ∷ []; lines = (1 ∷ []) })) (t.more_items (t.Statement (t.ExprStmt (t.some_expr (t.Binary (t.Name (codes "p") (1 ∷ [])) punct.Plus (t.Number 1 ty0.Int (1 ∷ [])) (1 ∷ []))) (1 ∷ []))) (t.more_items (t.Statement (t.Return (t.some_expr (t.Number 0 ty0.Int (1 ∷ []))) (1 ∷ 1 ∷ []))) t.no_items))) (1 ∷ 1 ∷ []); lines = [] })) ∷ []; lines = [] }) rule.K10 1
unfolding layouts_of same_basic holds_const linkage_of clashes with_declaration with_content with_head unit_of landing puts_of constant_of is_null_constant pairing is_assignable check_gives check_chain check_here check_becomes check_look breaks node_rules rule_at same_key specs_type unary_of binary_of assignment_of
moves_void = refl

-- `struct s; int main(void) { struct s *p = 0; p + 1; return 0; }`
moves_incomplete : is_refused (record { parts = (t.Declaration (record { specs = (t.more_specs (t.Record false (Some (codes "s")) t.no_members (1 ∷ 1 ∷ [])) t.no_specs); list = []; lines = (1 ∷ []) })) ∷ (t.Defined (record { specs = (t.more_specs (t.Key keyword.Int (1 ∷ [])) t.no_specs); declarator = (t.Function (t.Identifier (codes "main") (1 ∷ [])) (t.more_params (t.Param (t.more_specs (t.Key keyword.Void (1 ∷ [])) t.no_specs) t.Missing []) t.no_params) false (1 ∷ 1 ∷ [])); body = t.Block (t.more_items (t.Declared (record { specs = (t.more_specs (t.Record false (Some (codes "s")) t.no_members (1 ∷ 1 ∷ [])) t.no_specs); list = record { declarator = (t.Pointer [] (t.Identifier (codes "p") (1 ∷ [])) (1 ∷ [])); init = (Some (t.Single (t.Number 0 ty0.Int (1 ∷ [])))); lines = [] } ∷ []; lines = (1 ∷ []) })) (t.more_items (t.Statement (t.ExprStmt (t.some_expr (t.Binary (t.Name (codes "p") (1 ∷ [])) punct.Plus (t.Number 1 ty0.Int (1 ∷ [])) (1 ∷ []))) (1 ∷ []))) (t.more_items (t.Statement (t.Return (t.some_expr (t.Number 0 ty0.Int (1 ∷ []))) (1 ∷ 1 ∷ []))) t.no_items))) (1 ∷ 1 ∷ []); lines = [] })) ∷ []; lines = [] }) rule.K10 1
unfolding layouts_of same_basic holds_const linkage_of clashes with_declaration with_content with_head unit_of landing puts_of constant_of is_null_constant pairing is_assignable check_gives check_chain check_here check_becomes check_look breaks node_rules rule_at same_key specs_type unary_of binary_of assignment_of
moves_incomplete = refl

-- `int main(void) { int *p = 0; char *q = 0; return p - q; }`
subtracts_other : is_refused (record { parts = (t.Defined (record { specs = (t.more_specs (t.Key keyword.Int (1 ∷ [])) t.no_specs); declarator = (t.Function (t.Identifier (codes "main") (1 ∷ [])) (t.more_params (t.Param (t.more_specs (t.Key keyword.Void (1 ∷ [])) t.no_specs) t.Missing []) t.no_params) false (1 ∷ 1 ∷ [])); body = t.Block (t.more_items (t.Declared (record { specs = (t.more_specs (t.Key keyword.Int (1 ∷ [])) t.no_specs); list = record { declarator = (t.Pointer [] (t.Identifier (codes "p") (1 ∷ [])) (1 ∷ [])); init = (Some (t.Single (t.Number 0 ty0.Int (1 ∷ [])))); lines = [] } ∷ []; lines = (1 ∷ []) })) (t.more_items (t.Declared (record { specs = (t.more_specs (t.Key keyword.Char (1 ∷ [])) t.no_specs); list = record { declarator = (t.Pointer [] (t.Identifier (codes "q") (1 ∷ [])) (1 ∷ [])); init = (Some (t.Single (t.Number 0 ty0.Int (1 ∷ [])))); lines = [] } ∷ []; lines = (1 ∷ []) })) (t.more_items (t.Statement (t.Return (t.some_expr (t.Binary (t.Name (codes "p") (1 ∷ [])) punct.Minus (t.Name (codes "q") (1 ∷ [])) (1 ∷ []))) (1 ∷ 1 ∷ []))) t.no_items))) (1 ∷ 1 ∷ []); lines = [] })) ∷ []; lines = [] }) rule.K10 1
unfolding layouts_of same_basic holds_const linkage_of clashes with_declaration with_content with_head unit_of landing puts_of constant_of is_null_constant pairing is_assignable check_gives check_chain check_here check_becomes check_look breaks node_rules rule_at same_key specs_type unary_of binary_of assignment_of
subtracts_other = refl

-- `int main(void) { int *p = 0; const int *q = 0; return p - q; }`
subtracts_const : is_fine (record { parts = (t.Defined (record { specs = (t.more_specs (t.Key keyword.Int (1 ∷ [])) t.no_specs); declarator = (t.Function (t.Identifier (codes "main") (1 ∷ [])) (t.more_params (t.Param (t.more_specs (t.Key keyword.Void (1 ∷ [])) t.no_specs) t.Missing []) t.no_params) false (1 ∷ 1 ∷ [])); body = t.Block (t.more_items (t.Declared (record { specs = (t.more_specs (t.Key keyword.Int (1 ∷ [])) t.no_specs); list = record { declarator = (t.Pointer [] (t.Identifier (codes "p") (1 ∷ [])) (1 ∷ [])); init = (Some (t.Single (t.Number 0 ty0.Int (1 ∷ [])))); lines = [] } ∷ []; lines = (1 ∷ []) })) (t.more_items (t.Declared (record { specs = (t.more_specs (t.Key keyword.Const (1 ∷ [])) (t.more_specs (t.Key keyword.Int (1 ∷ [])) t.no_specs)); list = record { declarator = (t.Pointer [] (t.Identifier (codes "q") (1 ∷ [])) (1 ∷ [])); init = (Some (t.Single (t.Number 0 ty0.Int (1 ∷ [])))); lines = [] } ∷ []; lines = (1 ∷ []) })) (t.more_items (t.Statement (t.Return (t.some_expr (t.Binary (t.Name (codes "p") (1 ∷ [])) punct.Minus (t.Name (codes "q") (1 ∷ [])) (1 ∷ []))) (1 ∷ 1 ∷ []))) t.no_items))) (1 ∷ 1 ∷ []); lines = [] })) ∷ []; lines = [] })
unfolding layouts_of same_basic holds_const linkage_of clashes with_declaration with_content with_head unit_of landing puts_of constant_of is_null_constant pairing is_assignable check_gives check_chain check_here check_becomes check_look breaks node_rules rule_at same_key specs_type unary_of binary_of assignment_of
subtracts_const = refl

-- `int main(void) { int *p = 0; 1 - p; return 0; }`
subtracts_from_number : is_refused (record { parts = (t.Defined (record { specs = (t.more_specs (t.Key keyword.Int (1 ∷ [])) t.no_specs); declarator = (t.Function (t.Identifier (codes "main") (1 ∷ [])) (t.more_params (t.Param (t.more_specs (t.Key keyword.Void (1 ∷ [])) t.no_specs) t.Missing []) t.no_params) false (1 ∷ 1 ∷ [])); body = t.Block (t.more_items (t.Declared (record { specs = (t.more_specs (t.Key keyword.Int (1 ∷ [])) t.no_specs); list = record { declarator = (t.Pointer [] (t.Identifier (codes "p") (1 ∷ [])) (1 ∷ [])); init = (Some (t.Single (t.Number 0 ty0.Int (1 ∷ [])))); lines = [] } ∷ []; lines = (1 ∷ []) })) (t.more_items (t.Statement (t.ExprStmt (t.some_expr (t.Binary (t.Number 1 ty0.Int (1 ∷ [])) punct.Minus (t.Name (codes "p") (1 ∷ [])) (1 ∷ []))) (1 ∷ []))) (t.more_items (t.Statement (t.Return (t.some_expr (t.Number 0 ty0.Int (1 ∷ []))) (1 ∷ 1 ∷ []))) t.no_items))) (1 ∷ 1 ∷ []); lines = [] })) ∷ []; lines = [] }) rule.K10 1
unfolding layouts_of same_basic holds_const linkage_of clashes with_declaration with_content with_head unit_of landing puts_of constant_of is_null_constant pairing is_assignable check_gives check_chain check_here check_becomes check_look breaks node_rules rule_at same_key specs_type unary_of binary_of assignment_of
subtracts_from_number = refl

-- `int main(void) { int *p = 0; void *q = 0; return p < q; }`
orders_other : is_refused (record { parts = (t.Defined (record { specs = (t.more_specs (t.Key keyword.Int (1 ∷ [])) t.no_specs); declarator = (t.Function (t.Identifier (codes "main") (1 ∷ [])) (t.more_params (t.Param (t.more_specs (t.Key keyword.Void (1 ∷ [])) t.no_specs) t.Missing []) t.no_params) false (1 ∷ 1 ∷ [])); body = t.Block (t.more_items (t.Declared (record { specs = (t.more_specs (t.Key keyword.Int (1 ∷ [])) t.no_specs); list = record { declarator = (t.Pointer [] (t.Identifier (codes "p") (1 ∷ [])) (1 ∷ [])); init = (Some (t.Single (t.Number 0 ty0.Int (1 ∷ [])))); lines = [] } ∷ []; lines = (1 ∷ []) })) (t.more_items (t.Declared (record { specs = (t.more_specs (t.Key keyword.Void (1 ∷ [])) t.no_specs); list = record { declarator = (t.Pointer [] (t.Identifier (codes "q") (1 ∷ [])) (1 ∷ [])); init = (Some (t.Single (t.Number 0 ty0.Int (1 ∷ [])))); lines = [] } ∷ []; lines = (1 ∷ []) })) (t.more_items (t.Statement (t.Return (t.some_expr (t.Binary (t.Name (codes "p") (1 ∷ [])) punct.Less (t.Name (codes "q") (1 ∷ [])) (1 ∷ []))) (1 ∷ 1 ∷ []))) t.no_items))) (1 ∷ 1 ∷ []); lines = [] })) ∷ []; lines = [] }) rule.K10 1
unfolding layouts_of same_basic holds_const linkage_of clashes with_declaration with_content with_head unit_of landing puts_of constant_of is_null_constant pairing is_assignable check_gives check_chain check_here check_becomes check_look breaks node_rules rule_at same_key specs_type unary_of binary_of assignment_of
orders_other = refl

-- `int main(void) { void *p = 0; void *q = 0; return p < q; }`
orders_void : is_fine (record { parts = (t.Defined (record { specs = (t.more_specs (t.Key keyword.Int (1 ∷ [])) t.no_specs); declarator = (t.Function (t.Identifier (codes "main") (1 ∷ [])) (t.more_params (t.Param (t.more_specs (t.Key keyword.Void (1 ∷ [])) t.no_specs) t.Missing []) t.no_params) false (1 ∷ 1 ∷ [])); body = t.Block (t.more_items (t.Declared (record { specs = (t.more_specs (t.Key keyword.Void (1 ∷ [])) t.no_specs); list = record { declarator = (t.Pointer [] (t.Identifier (codes "p") (1 ∷ [])) (1 ∷ [])); init = (Some (t.Single (t.Number 0 ty0.Int (1 ∷ [])))); lines = [] } ∷ []; lines = (1 ∷ []) })) (t.more_items (t.Declared (record { specs = (t.more_specs (t.Key keyword.Void (1 ∷ [])) t.no_specs); list = record { declarator = (t.Pointer [] (t.Identifier (codes "q") (1 ∷ [])) (1 ∷ [])); init = (Some (t.Single (t.Number 0 ty0.Int (1 ∷ [])))); lines = [] } ∷ []; lines = (1 ∷ []) })) (t.more_items (t.Statement (t.Return (t.some_expr (t.Binary (t.Name (codes "p") (1 ∷ [])) punct.Less (t.Name (codes "q") (1 ∷ [])) (1 ∷ []))) (1 ∷ 1 ∷ []))) t.no_items))) (1 ∷ 1 ∷ []); lines = [] })) ∷ []; lines = [] })
unfolding layouts_of same_basic holds_const linkage_of clashes with_declaration with_content with_head unit_of landing puts_of constant_of is_null_constant pairing is_assignable check_gives check_chain check_here check_becomes check_look breaks node_rules rule_at same_key specs_type unary_of binary_of assignment_of
orders_void = refl

-- `int main(void) { int *p = 0; return p < 0; }`
orders_null : is_refused (record { parts = (t.Defined (record { specs = (t.more_specs (t.Key keyword.Int (1 ∷ [])) t.no_specs); declarator = (t.Function (t.Identifier (codes "main") (1 ∷ [])) (t.more_params (t.Param (t.more_specs (t.Key keyword.Void (1 ∷ [])) t.no_specs) t.Missing []) t.no_params) false (1 ∷ 1 ∷ [])); body = t.Block (t.more_items (t.Declared (record { specs = (t.more_specs (t.Key keyword.Int (1 ∷ [])) t.no_specs); list = record { declarator = (t.Pointer [] (t.Identifier (codes "p") (1 ∷ [])) (1 ∷ [])); init = (Some (t.Single (t.Number 0 ty0.Int (1 ∷ [])))); lines = [] } ∷ []; lines = (1 ∷ []) })) (t.more_items (t.Statement (t.Return (t.some_expr (t.Binary (t.Name (codes "p") (1 ∷ [])) punct.Less (t.Number 0 ty0.Int (1 ∷ [])) (1 ∷ []))) (1 ∷ 1 ∷ []))) t.no_items)) (1 ∷ 1 ∷ []); lines = [] })) ∷ []; lines = [] }) rule.K10 1
unfolding layouts_of same_basic holds_const linkage_of clashes with_declaration with_content with_head unit_of landing puts_of constant_of is_null_constant pairing is_assignable check_gives check_chain check_here check_becomes check_look breaks node_rules rule_at same_key specs_type unary_of binary_of assignment_of
orders_null = refl

-- `int f(void); int main(void) { return f < f; }`
orders_functions : is_refused (record { parts = (t.Declaration (record { specs = (t.more_specs (t.Key keyword.Int (1 ∷ [])) t.no_specs); list = record { declarator = (t.Function (t.Identifier (codes "f") (1 ∷ [])) (t.more_params (t.Param (t.more_specs (t.Key keyword.Void (1 ∷ [])) t.no_specs) t.Missing []) t.no_params) false (1 ∷ 1 ∷ [])); init = None; lines = [] } ∷ []; lines = (1 ∷ []) })) ∷ (t.Defined (record { specs = (t.more_specs (t.Key keyword.Int (1 ∷ [])) t.no_specs); declarator = (t.Function (t.Identifier (codes "main") (1 ∷ [])) (t.more_params (t.Param (t.more_specs (t.Key keyword.Void (1 ∷ [])) t.no_specs) t.Missing []) t.no_params) false (1 ∷ 1 ∷ [])); body = t.Block (t.more_items (t.Statement (t.Return (t.some_expr (t.Binary (t.Name (codes "f") (1 ∷ [])) punct.Less (t.Name (codes "f") (1 ∷ [])) (1 ∷ []))) (1 ∷ 1 ∷ []))) t.no_items) (1 ∷ 1 ∷ []); lines = [] })) ∷ []; lines = [] }) rule.K10 1
unfolding layouts_of same_basic holds_const linkage_of clashes with_declaration with_content with_head unit_of landing puts_of constant_of is_null_constant pairing is_assignable check_gives check_chain check_here check_becomes check_look breaks node_rules rule_at same_key specs_type unary_of binary_of assignment_of
orders_functions = refl

-- `int main(void) { int *p = 0; void *q = 0; return p == q; }`
equals_void : is_fine (record { parts = (t.Defined (record { specs = (t.more_specs (t.Key keyword.Int (1 ∷ [])) t.no_specs); declarator = (t.Function (t.Identifier (codes "main") (1 ∷ [])) (t.more_params (t.Param (t.more_specs (t.Key keyword.Void (1 ∷ [])) t.no_specs) t.Missing []) t.no_params) false (1 ∷ 1 ∷ [])); body = t.Block (t.more_items (t.Declared (record { specs = (t.more_specs (t.Key keyword.Int (1 ∷ [])) t.no_specs); list = record { declarator = (t.Pointer [] (t.Identifier (codes "p") (1 ∷ [])) (1 ∷ [])); init = (Some (t.Single (t.Number 0 ty0.Int (1 ∷ [])))); lines = [] } ∷ []; lines = (1 ∷ []) })) (t.more_items (t.Declared (record { specs = (t.more_specs (t.Key keyword.Void (1 ∷ [])) t.no_specs); list = record { declarator = (t.Pointer [] (t.Identifier (codes "q") (1 ∷ [])) (1 ∷ [])); init = (Some (t.Single (t.Number 0 ty0.Int (1 ∷ [])))); lines = [] } ∷ []; lines = (1 ∷ []) })) (t.more_items (t.Statement (t.Return (t.some_expr (t.Binary (t.Name (codes "p") (1 ∷ [])) punct.EqualEqual (t.Name (codes "q") (1 ∷ [])) (1 ∷ []))) (1 ∷ 1 ∷ []))) t.no_items))) (1 ∷ 1 ∷ []); lines = [] })) ∷ []; lines = [] })
unfolding layouts_of same_basic holds_const linkage_of clashes with_declaration with_content with_head unit_of landing puts_of constant_of is_null_constant pairing is_assignable check_gives check_chain check_here check_becomes check_look breaks node_rules rule_at same_key specs_type unary_of binary_of assignment_of
equals_void = refl

-- `int f(void); int main(void) { return f == f && f != 0 && f != (void *)0; }`
equals_function : is_fine (record { parts = (t.Declaration (record { specs = (t.more_specs (t.Key keyword.Int (1 ∷ [])) t.no_specs); list = record { declarator = (t.Function (t.Identifier (codes "f") (1 ∷ [])) (t.more_params (t.Param (t.more_specs (t.Key keyword.Void (1 ∷ [])) t.no_specs) t.Missing []) t.no_params) false (1 ∷ 1 ∷ [])); init = None; lines = [] } ∷ []; lines = (1 ∷ []) })) ∷ (t.Defined (record { specs = (t.more_specs (t.Key keyword.Int (1 ∷ [])) t.no_specs); declarator = (t.Function (t.Identifier (codes "main") (1 ∷ [])) (t.more_params (t.Param (t.more_specs (t.Key keyword.Void (1 ∷ [])) t.no_specs) t.Missing []) t.no_params) false (1 ∷ 1 ∷ [])); body = t.Block (t.more_items (t.Statement (t.Return (t.some_expr (t.Binary (t.Binary (t.Binary (t.Name (codes "f") (1 ∷ [])) punct.EqualEqual (t.Name (codes "f") (1 ∷ [])) (1 ∷ [])) punct.AndAnd (t.Binary (t.Name (codes "f") (1 ∷ [])) punct.NotEqual (t.Number 0 ty0.Int (1 ∷ [])) (1 ∷ [])) (1 ∷ [])) punct.AndAnd (t.Binary (t.Name (codes "f") (1 ∷ [])) punct.NotEqual (t.Cast (t.TypeName (t.more_specs (t.Key keyword.Void (1 ∷ [])) t.no_specs) (t.Pointer [] t.Missing (1 ∷ [])) []) (t.Number 0 ty0.Int (1 ∷ [])) (1 ∷ 1 ∷ [])) (1 ∷ [])) (1 ∷ []))) (1 ∷ 1 ∷ []))) t.no_items) (1 ∷ 1 ∷ []); lines = [] })) ∷ []; lines = [] })
unfolding layouts_of same_basic holds_const linkage_of clashes with_declaration with_content with_head unit_of landing puts_of constant_of is_null_constant pairing is_assignable check_gives check_chain check_here check_becomes check_look breaks node_rules rule_at same_key specs_type unary_of binary_of assignment_of
equals_function = refl

-- `int f(void); int main(void) { void *q = 0; return f == q; }`
equals_function_and_void : is_refused (record { parts = (t.Declaration (record { specs = (t.more_specs (t.Key keyword.Int (1 ∷ [])) t.no_specs); list = record { declarator = (t.Function (t.Identifier (codes "f") (1 ∷ [])) (t.more_params (t.Param (t.more_specs (t.Key keyword.Void (1 ∷ [])) t.no_specs) t.Missing []) t.no_params) false (1 ∷ 1 ∷ [])); init = None; lines = [] } ∷ []; lines = (1 ∷ []) })) ∷ (t.Defined (record { specs = (t.more_specs (t.Key keyword.Int (1 ∷ [])) t.no_specs); declarator = (t.Function (t.Identifier (codes "main") (1 ∷ [])) (t.more_params (t.Param (t.more_specs (t.Key keyword.Void (1 ∷ [])) t.no_specs) t.Missing []) t.no_params) false (1 ∷ 1 ∷ [])); body = t.Block (t.more_items (t.Declared (record { specs = (t.more_specs (t.Key keyword.Void (1 ∷ [])) t.no_specs); list = record { declarator = (t.Pointer [] (t.Identifier (codes "q") (1 ∷ [])) (1 ∷ [])); init = (Some (t.Single (t.Number 0 ty0.Int (1 ∷ [])))); lines = [] } ∷ []; lines = (1 ∷ []) })) (t.more_items (t.Statement (t.Return (t.some_expr (t.Binary (t.Name (codes "f") (1 ∷ [])) punct.EqualEqual (t.Name (codes "q") (1 ∷ [])) (1 ∷ []))) (1 ∷ 1 ∷ []))) t.no_items)) (1 ∷ 1 ∷ []); lines = [] })) ∷ []; lines = [] }) rule.K10 1
unfolding layouts_of same_basic holds_const linkage_of clashes with_declaration with_content with_head unit_of landing puts_of constant_of is_null_constant pairing is_assignable check_gives check_chain check_here check_becomes check_look breaks node_rules rule_at same_key specs_type unary_of binary_of assignment_of
equals_function_and_void = refl

-- `int main(void) { int *p = 0; return p == 1; }`
equals_number : is_refused (record { parts = (t.Defined (record { specs = (t.more_specs (t.Key keyword.Int (1 ∷ [])) t.no_specs); declarator = (t.Function (t.Identifier (codes "main") (1 ∷ [])) (t.more_params (t.Param (t.more_specs (t.Key keyword.Void (1 ∷ [])) t.no_specs) t.Missing []) t.no_params) false (1 ∷ 1 ∷ [])); body = t.Block (t.more_items (t.Declared (record { specs = (t.more_specs (t.Key keyword.Int (1 ∷ [])) t.no_specs); list = record { declarator = (t.Pointer [] (t.Identifier (codes "p") (1 ∷ [])) (1 ∷ [])); init = (Some (t.Single (t.Number 0 ty0.Int (1 ∷ [])))); lines = [] } ∷ []; lines = (1 ∷ []) })) (t.more_items (t.Statement (t.Return (t.some_expr (t.Binary (t.Name (codes "p") (1 ∷ [])) punct.EqualEqual (t.Number 1 ty0.Int (1 ∷ [])) (1 ∷ []))) (1 ∷ 1 ∷ []))) t.no_items)) (1 ∷ 1 ∷ []); lines = [] })) ∷ []; lines = [] }) rule.K10 1
unfolding layouts_of same_basic holds_const linkage_of clashes with_declaration with_content with_head unit_of landing puts_of constant_of is_null_constant pairing is_assignable check_gives check_chain check_here check_becomes check_look breaks node_rules rule_at same_key specs_type unary_of binary_of assignment_of
equals_number = refl

-- `int main(void) { int *p = 0; ~p; return 0; }`
complements_pointer : is_refused (record { parts = (t.Defined (record { specs = (t.more_specs (t.Key keyword.Int (1 ∷ [])) t.no_specs); declarator = (t.Function (t.Identifier (codes "main") (1 ∷ [])) (t.more_params (t.Param (t.more_specs (t.Key keyword.Void (1 ∷ [])) t.no_specs) t.Missing []) t.no_params) false (1 ∷ 1 ∷ [])); body = t.Block (t.more_items (t.Declared (record { specs = (t.more_specs (t.Key keyword.Int (1 ∷ [])) t.no_specs); list = record { declarator = (t.Pointer [] (t.Identifier (codes "p") (1 ∷ [])) (1 ∷ [])); init = (Some (t.Single (t.Number 0 ty0.Int (1 ∷ [])))); lines = [] } ∷ []; lines = (1 ∷ []) })) (t.more_items (t.Statement (t.ExprStmt (t.some_expr (t.Unary punct.Tilde (t.Name (codes "p") (1 ∷ [])) (1 ∷ []))) (1 ∷ []))) (t.more_items (t.Statement (t.Return (t.some_expr (t.Number 0 ty0.Int (1 ∷ []))) (1 ∷ 1 ∷ []))) t.no_items))) (1 ∷ 1 ∷ []); lines = [] })) ∷ []; lines = [] }) rule.K10 1
unfolding layouts_of same_basic holds_const linkage_of clashes with_declaration with_content with_head unit_of landing puts_of constant_of is_null_constant pairing is_assignable check_gives check_chain check_here check_becomes check_look breaks node_rules rule_at same_key specs_type unary_of binary_of assignment_of
complements_pointer = refl

-- `int main(void) { int x = 0; return *x; }`
follows_number : is_refused (record { parts = (t.Defined (record { specs = (t.more_specs (t.Key keyword.Int (1 ∷ [])) t.no_specs); declarator = (t.Function (t.Identifier (codes "main") (1 ∷ [])) (t.more_params (t.Param (t.more_specs (t.Key keyword.Void (1 ∷ [])) t.no_specs) t.Missing []) t.no_params) false (1 ∷ 1 ∷ [])); body = t.Block (t.more_items (t.Declared (record { specs = (t.more_specs (t.Key keyword.Int (1 ∷ [])) t.no_specs); list = record { declarator = (t.Identifier (codes "x") (1 ∷ [])); init = (Some (t.Single (t.Number 0 ty0.Int (1 ∷ [])))); lines = [] } ∷ []; lines = (1 ∷ []) })) (t.more_items (t.Statement (t.Return (t.some_expr (t.Unary punct.Star (t.Name (codes "x") (1 ∷ [])) (1 ∷ []))) (1 ∷ 1 ∷ []))) t.no_items)) (1 ∷ 1 ∷ []); lines = [] })) ∷ []; lines = [] }) rule.K10 1
unfolding layouts_of same_basic holds_const linkage_of clashes with_declaration with_content with_head unit_of landing puts_of constant_of is_null_constant pairing is_assignable check_gives check_chain check_here check_becomes check_look breaks node_rules rule_at same_key specs_type unary_of binary_of assignment_of
follows_number = refl

-- `int main(void) { int *p = 0; p % 2; return 0; }`
remainder_of_pointer : is_refused (record { parts = (t.Defined (record { specs = (t.more_specs (t.Key keyword.Int (1 ∷ [])) t.no_specs); declarator = (t.Function (t.Identifier (codes "main") (1 ∷ [])) (t.more_params (t.Param (t.more_specs (t.Key keyword.Void (1 ∷ [])) t.no_specs) t.Missing []) t.no_params) false (1 ∷ 1 ∷ [])); body = t.Block (t.more_items (t.Declared (record { specs = (t.more_specs (t.Key keyword.Int (1 ∷ [])) t.no_specs); list = record { declarator = (t.Pointer [] (t.Identifier (codes "p") (1 ∷ [])) (1 ∷ [])); init = (Some (t.Single (t.Number 0 ty0.Int (1 ∷ [])))); lines = [] } ∷ []; lines = (1 ∷ []) })) (t.more_items (t.Statement (t.ExprStmt (t.some_expr (t.Binary (t.Name (codes "p") (1 ∷ [])) punct.Percent (t.Number 2 ty0.Int (1 ∷ [])) (1 ∷ []))) (1 ∷ []))) (t.more_items (t.Statement (t.Return (t.some_expr (t.Number 0 ty0.Int (1 ∷ []))) (1 ∷ 1 ∷ []))) t.no_items))) (1 ∷ 1 ∷ []); lines = [] })) ∷ []; lines = [] }) rule.K10 1
unfolding layouts_of same_basic holds_const linkage_of clashes with_declaration with_content with_head unit_of landing puts_of constant_of is_null_constant pairing is_assignable check_gives check_chain check_here check_becomes check_look breaks node_rules rule_at same_key specs_type unary_of binary_of assignment_of
remainder_of_pointer = refl

-- `int main(void) { int x = 0; int *p = 0; x += p; return 0; }`
joins_by_pointer : is_refused (record { parts = (t.Defined (record { specs = (t.more_specs (t.Key keyword.Int (1 ∷ [])) t.no_specs); declarator = (t.Function (t.Identifier (codes "main") (1 ∷ [])) (t.more_params (t.Param (t.more_specs (t.Key keyword.Void (1 ∷ [])) t.no_specs) t.Missing []) t.no_params) false (1 ∷ 1 ∷ [])); body = t.Block (t.more_items (t.Declared (record { specs = (t.more_specs (t.Key keyword.Int (1 ∷ [])) t.no_specs); list = record { declarator = (t.Identifier (codes "x") (1 ∷ [])); init = (Some (t.Single (t.Number 0 ty0.Int (1 ∷ [])))); lines = [] } ∷ []; lines = (1 ∷ []) })) (t.more_items (t.Declared (record { specs = (t.more_specs (t.Key keyword.Int (1 ∷ [])) t.no_specs); list = record { declarator = (t.Pointer [] (t.Identifier (codes "p") (1 ∷ [])) (1 ∷ [])); init = (Some (t.Single (t.Number 0 ty0.Int (1 ∷ [])))); lines = [] } ∷ []; lines = (1 ∷ []) })) (t.more_items (t.Statement (t.ExprStmt (t.some_expr (t.Assign (t.Name (codes "x") (1 ∷ [])) punct.PlusEqual (t.Name (codes "p") (1 ∷ [])) (1 ∷ []))) (1 ∷ []))) (t.more_items (t.Statement (t.Return (t.some_expr (t.Number 0 ty0.Int (1 ∷ []))) (1 ∷ 1 ∷ []))) t.no_items)))) (1 ∷ 1 ∷ []); lines = [] })) ∷ []; lines = [] }) rule.K10 1
unfolding layouts_of same_basic holds_const linkage_of clashes with_declaration with_content with_head unit_of landing puts_of constant_of is_null_constant pairing is_assignable check_gives check_chain check_here check_becomes check_look breaks node_rules rule_at same_key specs_type unary_of binary_of assignment_of
joins_by_pointer = refl

-- `int main(void) { int a[2]; int *p = a; p += 1; p -= 1; p++; --p; return 0; }`
moves_by_assignment : is_fine (record { parts = (t.Defined (record { specs = (t.more_specs (t.Key keyword.Int (1 ∷ [])) t.no_specs); declarator = (t.Function (t.Identifier (codes "main") (1 ∷ [])) (t.more_params (t.Param (t.more_specs (t.Key keyword.Void (1 ∷ [])) t.no_specs) t.Missing []) t.no_params) false (1 ∷ 1 ∷ [])); body = t.Block (t.more_items (t.Declared (record { specs = (t.more_specs (t.Key keyword.Int (1 ∷ [])) t.no_specs); list = record { declarator = (t.Array (t.Identifier (codes "a") (1 ∷ [])) (t.Length [] (t.Number 2 ty0.Int (1 ∷ []))) (1 ∷ 1 ∷ [])); init = None; lines = [] } ∷ []; lines = (1 ∷ []) })) (t.more_items (t.Declared (record { specs = (t.more_specs (t.Key keyword.Int (1 ∷ [])) t.no_specs); list = record { declarator = (t.Pointer [] (t.Identifier (codes "p") (1 ∷ [])) (1 ∷ [])); init = (Some (t.Single (t.Name (codes "a") (1 ∷ [])))); lines = [] } ∷ []; lines = (1 ∷ []) })) (t.more_items (t.Statement (t.ExprStmt (t.some_expr (t.Assign (t.Name (codes "p") (1 ∷ [])) punct.PlusEqual (t.Number 1 ty0.Int (1 ∷ [])) (1 ∷ []))) (1 ∷ []))) (t.more_items (t.Statement (t.ExprStmt (t.some_expr (t.Assign (t.Name (codes "p") (1 ∷ [])) punct.MinusEqual (t.Number 1 ty0.Int (1 ∷ [])) (1 ∷ []))) (1 ∷ []))) (t.more_items (t.Statement (t.ExprStmt (t.some_expr (t.PostUp (t.Name (codes "p") (1 ∷ [])) (1 ∷ []))) (1 ∷ []))) (t.more_items (t.Statement (t.ExprStmt (t.some_expr (t.PreDown (t.Name (codes "p") (1 ∷ [])) (1 ∷ []))) (1 ∷ []))) (t.more_items (t.Statement (t.Return (t.some_expr (t.Number 0 ty0.Int (1 ∷ []))) (1 ∷ 1 ∷ []))) t.no_items))))))) (1 ∷ 1 ∷ []); lines = [] })) ∷ []; lines = [] })
unfolding layouts_of same_basic holds_const linkage_of clashes with_declaration with_content with_head unit_of landing puts_of constant_of is_null_constant pairing is_assignable check_gives check_chain check_here check_becomes check_look breaks node_rules rule_at same_key specs_type unary_of binary_of assignment_of
moves_by_assignment = refl

-- `int main(void) { int *p = 0; p *= 2; return 0; }`
doubles_pointer : is_refused (record { parts = (t.Defined (record { specs = (t.more_specs (t.Key keyword.Int (1 ∷ [])) t.no_specs); declarator = (t.Function (t.Identifier (codes "main") (1 ∷ [])) (t.more_params (t.Param (t.more_specs (t.Key keyword.Void (1 ∷ [])) t.no_specs) t.Missing []) t.no_params) false (1 ∷ 1 ∷ [])); body = t.Block (t.more_items (t.Declared (record { specs = (t.more_specs (t.Key keyword.Int (1 ∷ [])) t.no_specs); list = record { declarator = (t.Pointer [] (t.Identifier (codes "p") (1 ∷ [])) (1 ∷ [])); init = (Some (t.Single (t.Number 0 ty0.Int (1 ∷ [])))); lines = [] } ∷ []; lines = (1 ∷ []) })) (t.more_items (t.Statement (t.ExprStmt (t.some_expr (t.Assign (t.Name (codes "p") (1 ∷ [])) punct.StarEqual (t.Number 2 ty0.Int (1 ∷ [])) (1 ∷ []))) (1 ∷ []))) (t.more_items (t.Statement (t.Return (t.some_expr (t.Number 0 ty0.Int (1 ∷ []))) (1 ∷ 1 ∷ []))) t.no_items))) (1 ∷ 1 ∷ []); lines = [] })) ∷ []; lines = [] }) rule.K10 1
unfolding layouts_of same_basic holds_const linkage_of clashes with_declaration with_content with_head unit_of landing puts_of constant_of is_null_constant pairing is_assignable check_gives check_chain check_here check_becomes check_look breaks node_rules rule_at same_key specs_type unary_of binary_of assignment_of
doubles_pointer = refl

-- `int main(void) { int x; (x = 1) = 2; return 0; }`
assigns_value : is_refused (record { parts = (t.Defined (record { specs = (t.more_specs (t.Key keyword.Int (1 ∷ [])) t.no_specs); declarator = (t.Function (t.Identifier (codes "main") (1 ∷ [])) (t.more_params (t.Param (t.more_specs (t.Key keyword.Void (1 ∷ [])) t.no_specs) t.Missing []) t.no_params) false (1 ∷ 1 ∷ [])); body = t.Block (t.more_items (t.Declared (record { specs = (t.more_specs (t.Key keyword.Int (1 ∷ [])) t.no_specs); list = record { declarator = (t.Identifier (codes "x") (1 ∷ [])); init = None; lines = [] } ∷ []; lines = (1 ∷ []) })) (t.more_items (t.Statement (t.ExprStmt (t.some_expr (t.Assign (t.Assign (t.Name (codes "x") (1 ∷ [])) punct.Equal (t.Number 1 ty0.Int (1 ∷ [])) (1 ∷ [])) punct.Equal (t.Number 2 ty0.Int (1 ∷ [])) (1 ∷ []))) (1 ∷ []))) (t.more_items (t.Statement (t.Return (t.some_expr (t.Number 0 ty0.Int (1 ∷ []))) (1 ∷ 1 ∷ []))) t.no_items))) (1 ∷ 1 ∷ []); lines = [] })) ∷ []; lines = [] }) rule.K11 1
unfolding layouts_of same_basic holds_const linkage_of clashes with_declaration with_content with_head unit_of landing puts_of constant_of is_null_constant pairing is_assignable check_gives check_chain check_here check_becomes check_look breaks node_rules rule_at same_key specs_type unary_of binary_of assignment_of
assigns_value = refl

-- `int main(void) { int a[2], b[2]; a = b; return 0; }`
assigns_array : is_refused (record { parts = (t.Defined (record { specs = (t.more_specs (t.Key keyword.Int (1 ∷ [])) t.no_specs); declarator = (t.Function (t.Identifier (codes "main") (1 ∷ [])) (t.more_params (t.Param (t.more_specs (t.Key keyword.Void (1 ∷ [])) t.no_specs) t.Missing []) t.no_params) false (1 ∷ 1 ∷ [])); body = t.Block (t.more_items (t.Declared (record { specs = (t.more_specs (t.Key keyword.Int (1 ∷ [])) t.no_specs); list = record { declarator = (t.Array (t.Identifier (codes "a") (1 ∷ [])) (t.Length [] (t.Number 2 ty0.Int (1 ∷ []))) (1 ∷ 1 ∷ [])); init = None; lines = [] } ∷ []; lines = (1 ∷ []) })) (t.more_items (t.Declared (record { specs = (t.more_specs (t.Key keyword.Int (1 ∷ [])) t.no_specs); list = record { declarator = (t.Array (t.Identifier (codes "b") (1 ∷ [])) (t.Length [] (t.Number 2 ty0.Int (1 ∷ []))) (1 ∷ 1 ∷ [])); init = None; lines = [] } ∷ []; lines = (1 ∷ []) })) (t.more_items (t.Statement (t.ExprStmt (t.some_expr (t.Assign (t.Name (codes "a") (1 ∷ [])) punct.Equal (t.Name (codes "b") (1 ∷ [])) (1 ∷ []))) (1 ∷ []))) (t.more_items (t.Statement (t.Return (t.some_expr (t.Number 0 ty0.Int (1 ∷ []))) (1 ∷ 1 ∷ []))) t.no_items)))) (1 ∷ 1 ∷ []); lines = [] })) ∷ []; lines = [] }) rule.K11 1
unfolding layouts_of same_basic holds_const linkage_of clashes with_declaration with_content with_head unit_of landing puts_of constant_of is_null_constant pairing is_assignable check_gives check_chain check_here check_becomes check_look breaks node_rules rule_at same_key specs_type unary_of binary_of assignment_of
assigns_array = refl

-- `int main(void) { "abc"[0] = 1; return 0; }`
assigns_string_element : is_fine (record { parts = (t.Defined (record { specs = (t.more_specs (t.Key keyword.Int (1 ∷ [])) t.no_specs); declarator = (t.Function (t.Identifier (codes "main") (1 ∷ [])) (t.more_params (t.Param (t.more_specs (t.Key keyword.Void (1 ∷ [])) t.no_specs) t.Missing []) t.no_params) false (1 ∷ 1 ∷ [])); body = t.Block (t.more_items (t.Statement (t.ExprStmt (t.some_expr (t.Assign (t.Index (t.Text ((codes "abc") ∷ []) (1 ∷ [])) (t.Number 0 ty0.Int (1 ∷ [])) (1 ∷ 1 ∷ [])) punct.Equal (t.Number 1 ty0.Int (1 ∷ [])) (1 ∷ []))) (1 ∷ []))) (t.more_items (t.Statement (t.Return (t.some_expr (t.Number 0 ty0.Int (1 ∷ []))) (1 ∷ 1 ∷ []))) t.no_items)) (1 ∷ 1 ∷ []); lines = [] })) ∷ []; lines = [] })
unfolding layouts_of same_basic holds_const linkage_of clashes with_declaration with_content with_head unit_of landing puts_of constant_of is_null_constant pairing is_assignable check_gives check_chain check_here check_becomes check_look breaks node_rules rule_at same_key specs_type unary_of binary_of assignment_of
assigns_string_element = refl

-- `struct s { int a; } f(void); int main(void) { f().a = 1; return 0; }`
assigns_member_of_value : is_refused (record { parts = (t.Declaration (record { specs = (t.more_specs (t.Record false (Some (codes "s")) (t.some_members (t.more_member_decls (t.MemberDecl (t.more_specs (t.Key keyword.Int (1 ∷ [])) t.no_specs) (t.more_member_declarators (t.MemberDeclarator (t.Identifier (codes "a") (1 ∷ [])) t.no_expr (1 ∷ [])) t.no_member_declarators) (1 ∷ [])) t.no_member_decls)) (1 ∷ 1 ∷ 1 ∷ [])) t.no_specs); list = record { declarator = (t.Function (t.Identifier (codes "f") (1 ∷ [])) (t.more_params (t.Param (t.more_specs (t.Key keyword.Void (1 ∷ [])) t.no_specs) t.Missing []) t.no_params) false (1 ∷ 1 ∷ [])); init = None; lines = [] } ∷ []; lines = (1 ∷ []) })) ∷ (t.Defined (record { specs = (t.more_specs (t.Key keyword.Int (1 ∷ [])) t.no_specs); declarator = (t.Function (t.Identifier (codes "main") (1 ∷ [])) (t.more_params (t.Param (t.more_specs (t.Key keyword.Void (1 ∷ [])) t.no_specs) t.Missing []) t.no_params) false (1 ∷ 1 ∷ [])); body = t.Block (t.more_items (t.Statement (t.ExprStmt (t.some_expr (t.Assign (t.Dot (t.Call (t.Name (codes "f") (1 ∷ [])) t.no_exprs (1 ∷ 1 ∷ [])) (codes "a") (1 ∷ 1 ∷ [])) punct.Equal (t.Number 1 ty0.Int (1 ∷ [])) (1 ∷ []))) (1 ∷ []))) (t.more_items (t.Statement (t.Return (t.some_expr (t.Number 0 ty0.Int (1 ∷ []))) (1 ∷ 1 ∷ []))) t.no_items)) (1 ∷ 1 ∷ []); lines = [] })) ∷ []; lines = [] }) rule.K11 1
unfolding layouts_of same_basic holds_const linkage_of clashes with_declaration with_content with_head unit_of landing puts_of constant_of is_null_constant pairing is_assignable check_gives check_chain check_here check_becomes check_look breaks node_rules rule_at same_key specs_type unary_of binary_of assignment_of
assigns_member_of_value = refl

-- `struct s { int a; }; int main(void) { const struct s x = { 1 }; x.a = 2; return 0; }`
assigns_member_of_const : is_refused (record { parts = (t.Declaration (record { specs = (t.more_specs (t.Record false (Some (codes "s")) (t.some_members (t.more_member_decls (t.MemberDecl (t.more_specs (t.Key keyword.Int (1 ∷ [])) t.no_specs) (t.more_member_declarators (t.MemberDeclarator (t.Identifier (codes "a") (1 ∷ [])) t.no_expr (1 ∷ [])) t.no_member_declarators) (1 ∷ [])) t.no_member_decls)) (1 ∷ 1 ∷ 1 ∷ [])) t.no_specs); list = []; lines = (1 ∷ []) })) ∷ (t.Defined (record { specs = (t.more_specs (t.Key keyword.Int (1 ∷ [])) t.no_specs); declarator = (t.Function (t.Identifier (codes "main") (1 ∷ [])) (t.more_params (t.Param (t.more_specs (t.Key keyword.Void (1 ∷ [])) t.no_specs) t.Missing []) t.no_params) false (1 ∷ 1 ∷ [])); body = t.Block (t.more_items (t.Declared (record { specs = (t.more_specs (t.Key keyword.Const (1 ∷ [])) (t.more_specs (t.Record false (Some (codes "s")) t.no_members (1 ∷ 1 ∷ [])) t.no_specs)); list = record { declarator = (t.Identifier (codes "x") (1 ∷ [])); init = (Some (t.Braced (t.InitialiserList (t.more_entries (t.Entry t.no_designators (t.Single (t.Number 1 ty0.Int (1 ∷ []))) []) t.no_entries) false (1 ∷ 1 ∷ [])))); lines = [] } ∷ []; lines = (1 ∷ []) })) (t.more_items (t.Statement (t.ExprStmt (t.some_expr (t.Assign (t.Dot (t.Name (codes "x") (1 ∷ [])) (codes "a") (1 ∷ 1 ∷ [])) punct.Equal (t.Number 2 ty0.Int (1 ∷ [])) (1 ∷ []))) (1 ∷ []))) (t.more_items (t.Statement (t.Return (t.some_expr (t.Number 0 ty0.Int (1 ∷ []))) (1 ∷ 1 ∷ []))) t.no_items))) (1 ∷ 1 ∷ []); lines = [] })) ∷ []; lines = [] }) rule.K11 1
unfolding layouts_of same_basic holds_const linkage_of clashes with_declaration with_content with_head unit_of landing puts_of constant_of is_null_constant pairing is_assignable check_gives check_chain check_here check_becomes check_look breaks node_rules rule_at same_key specs_type unary_of binary_of assignment_of
assigns_member_of_const = refl

-- `int main(void) { const int a[2] = { 1 }; a[0] = 2; return 0; }`
assigns_element_of_const : is_refused (record { parts = (t.Defined (record { specs = (t.more_specs (t.Key keyword.Int (1 ∷ [])) t.no_specs); declarator = (t.Function (t.Identifier (codes "main") (1 ∷ [])) (t.more_params (t.Param (t.more_specs (t.Key keyword.Void (1 ∷ [])) t.no_specs) t.Missing []) t.no_params) false (1 ∷ 1 ∷ [])); body = t.Block (t.more_items (t.Declared (record { specs = (t.more_specs (t.Key keyword.Const (1 ∷ [])) (t.more_specs (t.Key keyword.Int (1 ∷ [])) t.no_specs)); list = record { declarator = (t.Array (t.Identifier (codes "a") (1 ∷ [])) (t.Length [] (t.Number 2 ty0.Int (1 ∷ []))) (1 ∷ 1 ∷ [])); init = (Some (t.Braced (t.InitialiserList (t.more_entries (t.Entry t.no_designators (t.Single (t.Number 1 ty0.Int (1 ∷ []))) []) t.no_entries) false (1 ∷ 1 ∷ [])))); lines = [] } ∷ []; lines = (1 ∷ []) })) (t.more_items (t.Statement (t.ExprStmt (t.some_expr (t.Assign (t.Index (t.Name (codes "a") (1 ∷ [])) (t.Number 0 ty0.Int (1 ∷ [])) (1 ∷ 1 ∷ [])) punct.Equal (t.Number 2 ty0.Int (1 ∷ [])) (1 ∷ []))) (1 ∷ []))) (t.more_items (t.Statement (t.Return (t.some_expr (t.Number 0 ty0.Int (1 ∷ []))) (1 ∷ 1 ∷ []))) t.no_items))) (1 ∷ 1 ∷ []); lines = [] })) ∷ []; lines = [] }) rule.K11 1
unfolding layouts_of same_basic holds_const linkage_of clashes with_declaration with_content with_head unit_of landing puts_of constant_of is_null_constant pairing is_assignable check_gives check_chain check_here check_becomes check_look breaks node_rules rule_at same_key specs_type unary_of binary_of assignment_of
assigns_element_of_const = refl

-- `int main(void) { const int *p = 0; *p = 2; return 0; }`
assigns_through_const : is_refused (record { parts = (t.Defined (record { specs = (t.more_specs (t.Key keyword.Int (1 ∷ [])) t.no_specs); declarator = (t.Function (t.Identifier (codes "main") (1 ∷ [])) (t.more_params (t.Param (t.more_specs (t.Key keyword.Void (1 ∷ [])) t.no_specs) t.Missing []) t.no_params) false (1 ∷ 1 ∷ [])); body = t.Block (t.more_items (t.Declared (record { specs = (t.more_specs (t.Key keyword.Const (1 ∷ [])) (t.more_specs (t.Key keyword.Int (1 ∷ [])) t.no_specs)); list = record { declarator = (t.Pointer [] (t.Identifier (codes "p") (1 ∷ [])) (1 ∷ [])); init = (Some (t.Single (t.Number 0 ty0.Int (1 ∷ [])))); lines = [] } ∷ []; lines = (1 ∷ []) })) (t.more_items (t.Statement (t.ExprStmt (t.some_expr (t.Assign (t.Unary punct.Star (t.Name (codes "p") (1 ∷ [])) (1 ∷ [])) punct.Equal (t.Number 2 ty0.Int (1 ∷ [])) (1 ∷ []))) (1 ∷ []))) (t.more_items (t.Statement (t.Return (t.some_expr (t.Number 0 ty0.Int (1 ∷ []))) (1 ∷ 1 ∷ []))) t.no_items))) (1 ∷ 1 ∷ []); lines = [] })) ∷ []; lines = [] }) rule.K11 1
unfolding layouts_of same_basic holds_const linkage_of clashes with_declaration with_content with_head unit_of landing puts_of constant_of is_null_constant pairing is_assignable check_gives check_chain check_here check_becomes check_look breaks node_rules rule_at same_key specs_type unary_of binary_of assignment_of
assigns_through_const = refl

-- `int main(void) { int *const p = 0; p = 0; return 0; }`
assigns_to_const_pointer : is_refused (record { parts = (t.Defined (record { specs = (t.more_specs (t.Key keyword.Int (1 ∷ [])) t.no_specs); declarator = (t.Function (t.Identifier (codes "main") (1 ∷ [])) (t.more_params (t.Param (t.more_specs (t.Key keyword.Void (1 ∷ [])) t.no_specs) t.Missing []) t.no_params) false (1 ∷ 1 ∷ [])); body = t.Block (t.more_items (t.Declared (record { specs = (t.more_specs (t.Key keyword.Int (1 ∷ [])) t.no_specs); list = record { declarator = (t.Pointer (keyword.Const ∷ []) (t.Identifier (codes "p") (1 ∷ [])) (1 ∷ 1 ∷ [])); init = (Some (t.Single (t.Number 0 ty0.Int (1 ∷ [])))); lines = [] } ∷ []; lines = (1 ∷ []) })) (t.more_items (t.Statement (t.ExprStmt (t.some_expr (t.Assign (t.Name (codes "p") (1 ∷ [])) punct.Equal (t.Number 0 ty0.Int (1 ∷ [])) (1 ∷ []))) (1 ∷ []))) (t.more_items (t.Statement (t.Return (t.some_expr (t.Number 0 ty0.Int (1 ∷ []))) (1 ∷ 1 ∷ []))) t.no_items))) (1 ∷ 1 ∷ []); lines = [] })) ∷ []; lines = [] }) rule.K11 1
unfolding layouts_of same_basic holds_const linkage_of clashes with_declaration with_content with_head unit_of landing puts_of constant_of is_null_constant pairing is_assignable check_gives check_chain check_here check_becomes check_look breaks node_rules rule_at same_key specs_type unary_of binary_of assignment_of
assigns_to_const_pointer = refl

-- `void f(void); int main(void) { int x; x = f(); return 0; }`
assigns_void : is_refused (record { parts = (t.Declaration (record { specs = (t.more_specs (t.Key keyword.Void (1 ∷ [])) t.no_specs); list = record { declarator = (t.Function (t.Identifier (codes "f") (1 ∷ [])) (t.more_params (t.Param (t.more_specs (t.Key keyword.Void (1 ∷ [])) t.no_specs) t.Missing []) t.no_params) false (1 ∷ 1 ∷ [])); init = None; lines = [] } ∷ []; lines = (1 ∷ []) })) ∷ (t.Defined (record { specs = (t.more_specs (t.Key keyword.Int (1 ∷ [])) t.no_specs); declarator = (t.Function (t.Identifier (codes "main") (1 ∷ [])) (t.more_params (t.Param (t.more_specs (t.Key keyword.Void (1 ∷ [])) t.no_specs) t.Missing []) t.no_params) false (1 ∷ 1 ∷ [])); body = t.Block (t.more_items (t.Declared (record { specs = (t.more_specs (t.Key keyword.Int (1 ∷ [])) t.no_specs); list = record { declarator = (t.Identifier (codes "x") (1 ∷ [])); init = None; lines = [] } ∷ []; lines = (1 ∷ []) })) (t.more_items (t.Statement (t.ExprStmt (t.some_expr (t.Assign (t.Name (codes "x") (1 ∷ [])) punct.Equal (t.Call (t.Name (codes "f") (1 ∷ [])) t.no_exprs (1 ∷ 1 ∷ [])) (1 ∷ []))) (1 ∷ []))) (t.more_items (t.Statement (t.Return (t.some_expr (t.Number 0 ty0.Int (1 ∷ []))) (1 ∷ 1 ∷ []))) t.no_items))) (1 ∷ 1 ∷ []); lines = [] })) ∷ []; lines = [] }) rule.K10 1
unfolding layouts_of same_basic holds_const linkage_of clashes with_declaration with_content with_head unit_of landing puts_of constant_of is_null_constant pairing is_assignable check_gives check_chain check_here check_becomes check_look breaks node_rules rule_at same_key specs_type unary_of binary_of assignment_of
assigns_void = refl

-- `int main(void) { int x; _Bool b; b = &x; return b; }`
assigns_pointer_to_truth : is_fine (record { parts = (t.Defined (record { specs = (t.more_specs (t.Key keyword.Int (1 ∷ [])) t.no_specs); declarator = (t.Function (t.Identifier (codes "main") (1 ∷ [])) (t.more_params (t.Param (t.more_specs (t.Key keyword.Void (1 ∷ [])) t.no_specs) t.Missing []) t.no_params) false (1 ∷ 1 ∷ [])); body = t.Block (t.more_items (t.Declared (record { specs = (t.more_specs (t.Key keyword.Int (1 ∷ [])) t.no_specs); list = record { declarator = (t.Identifier (codes "x") (1 ∷ [])); init = None; lines = [] } ∷ []; lines = (1 ∷ []) })) (t.more_items (t.Declared (record { specs = (t.more_specs (t.Key keyword.Bool (1 ∷ [])) t.no_specs); list = record { declarator = (t.Identifier (codes "b") (1 ∷ [])); init = None; lines = [] } ∷ []; lines = (1 ∷ []) })) (t.more_items (t.Statement (t.ExprStmt (t.some_expr (t.Assign (t.Name (codes "b") (1 ∷ [])) punct.Equal (t.Unary punct.Ampersand (t.Name (codes "x") (1 ∷ [])) (1 ∷ [])) (1 ∷ []))) (1 ∷ []))) (t.more_items (t.Statement (t.Return (t.some_expr (t.Name (codes "b") (1 ∷ []))) (1 ∷ 1 ∷ []))) t.no_items)))) (1 ∷ 1 ∷ []); lines = [] })) ∷ []; lines = [] })
unfolding layouts_of same_basic holds_const linkage_of clashes with_declaration with_content with_head unit_of landing puts_of constant_of is_null_constant pairing is_assignable check_gives check_chain check_here check_becomes check_look breaks node_rules rule_at same_key specs_type unary_of binary_of assignment_of
assigns_pointer_to_truth = refl

-- `int main(void) { int x; x = &x; return 0; }`
assigns_pointer_to_number : is_refused (record { parts = (t.Defined (record { specs = (t.more_specs (t.Key keyword.Int (1 ∷ [])) t.no_specs); declarator = (t.Function (t.Identifier (codes "main") (1 ∷ [])) (t.more_params (t.Param (t.more_specs (t.Key keyword.Void (1 ∷ [])) t.no_specs) t.Missing []) t.no_params) false (1 ∷ 1 ∷ [])); body = t.Block (t.more_items (t.Declared (record { specs = (t.more_specs (t.Key keyword.Int (1 ∷ [])) t.no_specs); list = record { declarator = (t.Identifier (codes "x") (1 ∷ [])); init = None; lines = [] } ∷ []; lines = (1 ∷ []) })) (t.more_items (t.Statement (t.ExprStmt (t.some_expr (t.Assign (t.Name (codes "x") (1 ∷ [])) punct.Equal (t.Unary punct.Ampersand (t.Name (codes "x") (1 ∷ [])) (1 ∷ [])) (1 ∷ []))) (1 ∷ []))) (t.more_items (t.Statement (t.Return (t.some_expr (t.Number 0 ty0.Int (1 ∷ []))) (1 ∷ 1 ∷ []))) t.no_items))) (1 ∷ 1 ∷ []); lines = [] })) ∷ []; lines = [] }) rule.K12 1
unfolding layouts_of same_basic holds_const linkage_of clashes with_declaration with_content with_head unit_of landing puts_of constant_of is_null_constant pairing is_assignable check_gives check_chain check_here check_becomes check_look breaks node_rules rule_at same_key specs_type unary_of binary_of assignment_of
assigns_pointer_to_number = refl

-- `int main(void) { int *p; unsigned *q = 0; p = q; return 0; }`
assigns_other_pointer : is_refused (record { parts = (t.Defined (record { specs = (t.more_specs (t.Key keyword.Int (1 ∷ [])) t.no_specs); declarator = (t.Function (t.Identifier (codes "main") (1 ∷ [])) (t.more_params (t.Param (t.more_specs (t.Key keyword.Void (1 ∷ [])) t.no_specs) t.Missing []) t.no_params) false (1 ∷ 1 ∷ [])); body = t.Block (t.more_items (t.Declared (record { specs = (t.more_specs (t.Key keyword.Int (1 ∷ [])) t.no_specs); list = record { declarator = (t.Pointer [] (t.Identifier (codes "p") (1 ∷ [])) (1 ∷ [])); init = None; lines = [] } ∷ []; lines = (1 ∷ []) })) (t.more_items (t.Declared (record { specs = (t.more_specs (t.Key keyword.Unsigned (1 ∷ [])) t.no_specs); list = record { declarator = (t.Pointer [] (t.Identifier (codes "q") (1 ∷ [])) (1 ∷ [])); init = (Some (t.Single (t.Number 0 ty0.Int (1 ∷ [])))); lines = [] } ∷ []; lines = (1 ∷ []) })) (t.more_items (t.Statement (t.ExprStmt (t.some_expr (t.Assign (t.Name (codes "p") (1 ∷ [])) punct.Equal (t.Name (codes "q") (1 ∷ [])) (1 ∷ []))) (1 ∷ []))) (t.more_items (t.Statement (t.Return (t.some_expr (t.Number 0 ty0.Int (1 ∷ []))) (1 ∷ 1 ∷ []))) t.no_items)))) (1 ∷ 1 ∷ []); lines = [] })) ∷ []; lines = [] }) rule.K12 1
unfolding layouts_of same_basic holds_const linkage_of clashes with_declaration with_content with_head unit_of landing puts_of constant_of is_null_constant pairing is_assignable check_gives check_chain check_here check_becomes check_look breaks node_rules rule_at same_key specs_type unary_of binary_of assignment_of
assigns_other_pointer = refl

-- `int main(void) { int **p = 0; const int **q; q = p; return 0; }`
assigns_deep_const : is_refused (record { parts = (t.Defined (record { specs = (t.more_specs (t.Key keyword.Int (1 ∷ [])) t.no_specs); declarator = (t.Function (t.Identifier (codes "main") (1 ∷ [])) (t.more_params (t.Param (t.more_specs (t.Key keyword.Void (1 ∷ [])) t.no_specs) t.Missing []) t.no_params) false (1 ∷ 1 ∷ [])); body = t.Block (t.more_items (t.Declared (record { specs = (t.more_specs (t.Key keyword.Int (1 ∷ [])) t.no_specs); list = record { declarator = (t.Pointer [] (t.Pointer [] (t.Identifier (codes "p") (1 ∷ [])) (1 ∷ [])) (1 ∷ [])); init = (Some (t.Single (t.Number 0 ty0.Int (1 ∷ [])))); lines = [] } ∷ []; lines = (1 ∷ []) })) (t.more_items (t.Declared (record { specs = (t.more_specs (t.Key keyword.Const (1 ∷ [])) (t.more_specs (t.Key keyword.Int (1 ∷ [])) t.no_specs)); list = record { declarator = (t.Pointer [] (t.Pointer [] (t.Identifier (codes "q") (1 ∷ [])) (1 ∷ [])) (1 ∷ [])); init = None; lines = [] } ∷ []; lines = (1 ∷ []) })) (t.more_items (t.Statement (t.ExprStmt (t.some_expr (t.Assign (t.Name (codes "q") (1 ∷ [])) punct.Equal (t.Name (codes "p") (1 ∷ [])) (1 ∷ []))) (1 ∷ []))) (t.more_items (t.Statement (t.Return (t.some_expr (t.Number 0 ty0.Int (1 ∷ []))) (1 ∷ 1 ∷ []))) t.no_items)))) (1 ∷ 1 ∷ []); lines = [] })) ∷ []; lines = [] }) rule.K12 1
unfolding layouts_of same_basic holds_const linkage_of clashes with_declaration with_content with_head unit_of landing puts_of constant_of is_null_constant pairing is_assignable check_gives check_chain check_here check_becomes check_look breaks node_rules rule_at same_key specs_type unary_of binary_of assignment_of
assigns_deep_const = refl

-- `int main(void) { void *p = 0; int (*f)(void); f = p; return 0; }`
assigns_void_to_function : is_refused (record { parts = (t.Defined (record { specs = (t.more_specs (t.Key keyword.Int (1 ∷ [])) t.no_specs); declarator = (t.Function (t.Identifier (codes "main") (1 ∷ [])) (t.more_params (t.Param (t.more_specs (t.Key keyword.Void (1 ∷ [])) t.no_specs) t.Missing []) t.no_params) false (1 ∷ 1 ∷ [])); body = t.Block (t.more_items (t.Declared (record { specs = (t.more_specs (t.Key keyword.Void (1 ∷ [])) t.no_specs); list = record { declarator = (t.Pointer [] (t.Identifier (codes "p") (1 ∷ [])) (1 ∷ [])); init = (Some (t.Single (t.Number 0 ty0.Int (1 ∷ [])))); lines = [] } ∷ []; lines = (1 ∷ []) })) (t.more_items (t.Declared (record { specs = (t.more_specs (t.Key keyword.Int (1 ∷ [])) t.no_specs); list = record { declarator = (t.Function (t.Group (t.Pointer [] (t.Identifier (codes "f") (1 ∷ [])) (1 ∷ [])) (1 ∷ 1 ∷ [])) (t.more_params (t.Param (t.more_specs (t.Key keyword.Void (1 ∷ [])) t.no_specs) t.Missing []) t.no_params) false (1 ∷ 1 ∷ [])); init = None; lines = [] } ∷ []; lines = (1 ∷ []) })) (t.more_items (t.Statement (t.ExprStmt (t.some_expr (t.Assign (t.Name (codes "f") (1 ∷ [])) punct.Equal (t.Name (codes "p") (1 ∷ [])) (1 ∷ []))) (1 ∷ []))) (t.more_items (t.Statement (t.Return (t.some_expr (t.Number 0 ty0.Int (1 ∷ []))) (1 ∷ 1 ∷ []))) t.no_items)))) (1 ∷ 1 ∷ []); lines = [] })) ∷ []; lines = [] }) rule.K12 1
unfolding layouts_of same_basic holds_const linkage_of clashes with_declaration with_content with_head unit_of landing puts_of constant_of is_null_constant pairing is_assignable check_gives check_chain check_here check_becomes check_look breaks node_rules rule_at same_key specs_type unary_of binary_of assignment_of
assigns_void_to_function = refl

-- `int g(); int main(void) { int (*f)(int) = g; f = g; return 0; }`
assigns_unlisted : is_fine (record { parts = (t.Declaration (record { specs = (t.more_specs (t.Key keyword.Int (1 ∷ [])) t.no_specs); list = record { declarator = (t.Identifiers (t.Identifier (codes "g") (1 ∷ [])) [] (1 ∷ 1 ∷ [])); init = None; lines = [] } ∷ []; lines = (1 ∷ []) })) ∷ (t.Defined (record { specs = (t.more_specs (t.Key keyword.Int (1 ∷ [])) t.no_specs); declarator = (t.Function (t.Identifier (codes "main") (1 ∷ [])) (t.more_params (t.Param (t.more_specs (t.Key keyword.Void (1 ∷ [])) t.no_specs) t.Missing []) t.no_params) false (1 ∷ 1 ∷ [])); body = t.Block (t.more_items (t.Declared (record { specs = (t.more_specs (t.Key keyword.Int (1 ∷ [])) t.no_specs); list = record { declarator = (t.Function (t.Group (t.Pointer [] (t.Identifier (codes "f") (1 ∷ [])) (1 ∷ [])) (1 ∷ 1 ∷ [])) (t.more_params (t.Param (t.more_specs (t.Key keyword.Int (1 ∷ [])) t.no_specs) t.Missing []) t.no_params) false (1 ∷ 1 ∷ [])); init = (Some (t.Single (t.Name (codes "g") (1 ∷ [])))); lines = [] } ∷ []; lines = (1 ∷ []) })) (t.more_items (t.Statement (t.ExprStmt (t.some_expr (t.Assign (t.Name (codes "f") (1 ∷ [])) punct.Equal (t.Name (codes "g") (1 ∷ [])) (1 ∷ []))) (1 ∷ []))) (t.more_items (t.Statement (t.Return (t.some_expr (t.Number 0 ty0.Int (1 ∷ []))) (1 ∷ 1 ∷ []))) t.no_items))) (1 ∷ 1 ∷ []); lines = [] })) ∷ []; lines = [] })
unfolding layouts_of same_basic holds_const linkage_of clashes with_declaration with_content with_head unit_of landing puts_of constant_of is_null_constant pairing is_assignable check_gives check_chain check_here check_becomes check_look breaks node_rules rule_at same_key specs_type unary_of binary_of assignment_of
assigns_unlisted = refl

-- `int f(int *); int main(void) { return f(1); }`
argument_of_other : is_refused (record { parts = (t.Declaration (record { specs = (t.more_specs (t.Key keyword.Int (1 ∷ [])) t.no_specs); list = record { declarator = (t.Function (t.Identifier (codes "f") (1 ∷ [])) (t.more_params (t.Param (t.more_specs (t.Key keyword.Int (1 ∷ [])) t.no_specs) (t.Pointer [] t.Missing (1 ∷ [])) []) t.no_params) false (1 ∷ 1 ∷ [])); init = None; lines = [] } ∷ []; lines = (1 ∷ []) })) ∷ (t.Defined (record { specs = (t.more_specs (t.Key keyword.Int (1 ∷ [])) t.no_specs); declarator = (t.Function (t.Identifier (codes "main") (1 ∷ [])) (t.more_params (t.Param (t.more_specs (t.Key keyword.Void (1 ∷ [])) t.no_specs) t.Missing []) t.no_params) false (1 ∷ 1 ∷ [])); body = t.Block (t.more_items (t.Statement (t.Return (t.some_expr (t.Call (t.Name (codes "f") (1 ∷ [])) (t.more_exprs (t.Number 1 ty0.Int (1 ∷ [])) t.no_exprs) (1 ∷ 1 ∷ []))) (1 ∷ 1 ∷ []))) t.no_items) (1 ∷ 1 ∷ []); lines = [] })) ∷ []; lines = [] }) rule.K12 1
unfolding layouts_of same_basic holds_const linkage_of clashes with_declaration with_content with_head unit_of landing puts_of constant_of is_null_constant pairing is_assignable check_gives check_chain check_here check_becomes check_look breaks node_rules rule_at same_key specs_type unary_of binary_of assignment_of
argument_of_other = refl

-- `long f(long, char); int main(void) { return f(1, 2l); }`
argument_is_converted : is_fine (record { parts = (t.Declaration (record { specs = (t.more_specs (t.Key keyword.Long (1 ∷ [])) t.no_specs); list = record { declarator = (t.Function (t.Identifier (codes "f") (1 ∷ [])) (t.more_params (t.Param (t.more_specs (t.Key keyword.Long (1 ∷ [])) t.no_specs) t.Missing []) (t.more_params (t.Param (t.more_specs (t.Key keyword.Char (1 ∷ [])) t.no_specs) t.Missing []) t.no_params)) false (1 ∷ 1 ∷ [])); init = None; lines = [] } ∷ []; lines = (1 ∷ []) })) ∷ (t.Defined (record { specs = (t.more_specs (t.Key keyword.Int (1 ∷ [])) t.no_specs); declarator = (t.Function (t.Identifier (codes "main") (1 ∷ [])) (t.more_params (t.Param (t.more_specs (t.Key keyword.Void (1 ∷ [])) t.no_specs) t.Missing []) t.no_params) false (1 ∷ 1 ∷ [])); body = t.Block (t.more_items (t.Statement (t.Return (t.some_expr (t.Call (t.Name (codes "f") (1 ∷ [])) (t.more_exprs (t.Number 1 ty0.Int (1 ∷ [])) (t.more_exprs (t.Number 2 ty0.Long (1 ∷ [])) t.no_exprs)) (1 ∷ 1 ∷ []))) (1 ∷ 1 ∷ []))) t.no_items) (1 ∷ 1 ∷ []); lines = [] })) ∷ []; lines = [] })
unfolding layouts_of same_basic holds_const linkage_of clashes with_declaration with_content with_head unit_of landing puts_of constant_of is_null_constant pairing is_assignable check_gives check_chain check_here check_becomes check_look breaks node_rules rule_at same_key specs_type unary_of binary_of assignment_of
argument_is_converted = refl

-- `int f(int); int main(void) { return f(1, 2); }`
too_many : is_refused (record { parts = (t.Declaration (record { specs = (t.more_specs (t.Key keyword.Int (1 ∷ [])) t.no_specs); list = record { declarator = (t.Function (t.Identifier (codes "f") (1 ∷ [])) (t.more_params (t.Param (t.more_specs (t.Key keyword.Int (1 ∷ [])) t.no_specs) t.Missing []) t.no_params) false (1 ∷ 1 ∷ [])); init = None; lines = [] } ∷ []; lines = (1 ∷ []) })) ∷ (t.Defined (record { specs = (t.more_specs (t.Key keyword.Int (1 ∷ [])) t.no_specs); declarator = (t.Function (t.Identifier (codes "main") (1 ∷ [])) (t.more_params (t.Param (t.more_specs (t.Key keyword.Void (1 ∷ [])) t.no_specs) t.Missing []) t.no_params) false (1 ∷ 1 ∷ [])); body = t.Block (t.more_items (t.Statement (t.Return (t.some_expr (t.Call (t.Name (codes "f") (1 ∷ [])) (t.more_exprs (t.Number 1 ty0.Int (1 ∷ [])) (t.more_exprs (t.Number 2 ty0.Int (1 ∷ [])) t.no_exprs)) (1 ∷ 1 ∷ []))) (1 ∷ 1 ∷ []))) t.no_items) (1 ∷ 1 ∷ []); lines = [] })) ∷ []; lines = [] }) rule.K9 1
unfolding layouts_of same_basic holds_const linkage_of clashes with_declaration with_content with_head unit_of landing puts_of constant_of is_null_constant pairing is_assignable check_gives check_chain check_here check_becomes check_look breaks node_rules rule_at same_key specs_type unary_of binary_of assignment_of
too_many = refl

-- `int f(int, ...); int main(void) { return f(); }`
variadic_few : is_refused (record { parts = (t.Declaration (record { specs = (t.more_specs (t.Key keyword.Int (1 ∷ [])) t.no_specs); list = record { declarator = (t.Function (t.Identifier (codes "f") (1 ∷ [])) (t.more_params (t.Param (t.more_specs (t.Key keyword.Int (1 ∷ [])) t.no_specs) t.Missing []) t.no_params) true (1 ∷ 1 ∷ [])); init = None; lines = [] } ∷ []; lines = (1 ∷ []) })) ∷ (t.Defined (record { specs = (t.more_specs (t.Key keyword.Int (1 ∷ [])) t.no_specs); declarator = (t.Function (t.Identifier (codes "main") (1 ∷ [])) (t.more_params (t.Param (t.more_specs (t.Key keyword.Void (1 ∷ [])) t.no_specs) t.Missing []) t.no_params) false (1 ∷ 1 ∷ [])); body = t.Block (t.more_items (t.Statement (t.Return (t.some_expr (t.Call (t.Name (codes "f") (1 ∷ [])) t.no_exprs (1 ∷ 1 ∷ []))) (1 ∷ 1 ∷ []))) t.no_items) (1 ∷ 1 ∷ []); lines = [] })) ∷ []; lines = [] }) rule.K9 1
unfolding layouts_of same_basic holds_const linkage_of clashes with_declaration with_content with_head unit_of landing puts_of constant_of is_null_constant pairing is_assignable check_gives check_chain check_here check_becomes check_look breaks node_rules rule_at same_key specs_type unary_of binary_of assignment_of
variadic_few = refl

-- `int f(int, ...); int main(void) { return f(1, 2, "a"); }`
variadic_more : is_fine (record { parts = (t.Declaration (record { specs = (t.more_specs (t.Key keyword.Int (1 ∷ [])) t.no_specs); list = record { declarator = (t.Function (t.Identifier (codes "f") (1 ∷ [])) (t.more_params (t.Param (t.more_specs (t.Key keyword.Int (1 ∷ [])) t.no_specs) t.Missing []) t.no_params) true (1 ∷ 1 ∷ [])); init = None; lines = [] } ∷ []; lines = (1 ∷ []) })) ∷ (t.Defined (record { specs = (t.more_specs (t.Key keyword.Int (1 ∷ [])) t.no_specs); declarator = (t.Function (t.Identifier (codes "main") (1 ∷ [])) (t.more_params (t.Param (t.more_specs (t.Key keyword.Void (1 ∷ [])) t.no_specs) t.Missing []) t.no_params) false (1 ∷ 1 ∷ [])); body = t.Block (t.more_items (t.Statement (t.Return (t.some_expr (t.Call (t.Name (codes "f") (1 ∷ [])) (t.more_exprs (t.Number 1 ty0.Int (1 ∷ [])) (t.more_exprs (t.Number 2 ty0.Int (1 ∷ [])) (t.more_exprs (t.Text ((codes "a") ∷ []) (1 ∷ [])) t.no_exprs))) (1 ∷ 1 ∷ []))) (1 ∷ 1 ∷ []))) t.no_items) (1 ∷ 1 ∷ []); lines = [] })) ∷ []; lines = [] })
unfolding layouts_of same_basic holds_const linkage_of clashes with_declaration with_content with_head unit_of landing puts_of constant_of is_null_constant pairing is_assignable check_gives check_chain check_here check_becomes check_look breaks node_rules rule_at same_key specs_type unary_of binary_of assignment_of
variadic_more = refl

-- `struct s; struct s f(void); int main(void) { f(); return 0; }`
incomplete_result : is_refused (record { parts = (t.Declaration (record { specs = (t.more_specs (t.Record false (Some (codes "s")) t.no_members (1 ∷ 1 ∷ [])) t.no_specs); list = []; lines = (1 ∷ []) })) ∷ (t.Declaration (record { specs = (t.more_specs (t.Record false (Some (codes "s")) t.no_members (1 ∷ 1 ∷ [])) t.no_specs); list = record { declarator = (t.Function (t.Identifier (codes "f") (1 ∷ [])) (t.more_params (t.Param (t.more_specs (t.Key keyword.Void (1 ∷ [])) t.no_specs) t.Missing []) t.no_params) false (1 ∷ 1 ∷ [])); init = None; lines = [] } ∷ []; lines = (1 ∷ []) })) ∷ (t.Defined (record { specs = (t.more_specs (t.Key keyword.Int (1 ∷ [])) t.no_specs); declarator = (t.Function (t.Identifier (codes "main") (1 ∷ [])) (t.more_params (t.Param (t.more_specs (t.Key keyword.Void (1 ∷ [])) t.no_specs) t.Missing []) t.no_params) false (1 ∷ 1 ∷ [])); body = t.Block (t.more_items (t.Statement (t.ExprStmt (t.some_expr (t.Call (t.Name (codes "f") (1 ∷ [])) t.no_exprs (1 ∷ 1 ∷ []))) (1 ∷ []))) (t.more_items (t.Statement (t.Return (t.some_expr (t.Number 0 ty0.Int (1 ∷ []))) (1 ∷ 1 ∷ []))) t.no_items)) (1 ∷ 1 ∷ []); lines = [] })) ∷ []; lines = [] }) rule.K9 1
unfolding layouts_of same_basic holds_const linkage_of clashes with_declaration with_content with_head unit_of landing puts_of constant_of is_null_constant pairing is_assignable check_gives check_chain check_here check_becomes check_look breaks node_rules rule_at same_key specs_type unary_of binary_of assignment_of
incomplete_result = refl

-- `void f(void); int g(int); int main(void) { return g(f()); }`
void_argument : is_refused (record { parts = (t.Declaration (record { specs = (t.more_specs (t.Key keyword.Void (1 ∷ [])) t.no_specs); list = record { declarator = (t.Function (t.Identifier (codes "f") (1 ∷ [])) (t.more_params (t.Param (t.more_specs (t.Key keyword.Void (1 ∷ [])) t.no_specs) t.Missing []) t.no_params) false (1 ∷ 1 ∷ [])); init = None; lines = [] } ∷ []; lines = (1 ∷ []) })) ∷ (t.Declaration (record { specs = (t.more_specs (t.Key keyword.Int (1 ∷ [])) t.no_specs); list = record { declarator = (t.Function (t.Identifier (codes "g") (1 ∷ [])) (t.more_params (t.Param (t.more_specs (t.Key keyword.Int (1 ∷ [])) t.no_specs) t.Missing []) t.no_params) false (1 ∷ 1 ∷ [])); init = None; lines = [] } ∷ []; lines = (1 ∷ []) })) ∷ (t.Defined (record { specs = (t.more_specs (t.Key keyword.Int (1 ∷ [])) t.no_specs); declarator = (t.Function (t.Identifier (codes "main") (1 ∷ [])) (t.more_params (t.Param (t.more_specs (t.Key keyword.Void (1 ∷ [])) t.no_specs) t.Missing []) t.no_params) false (1 ∷ 1 ∷ [])); body = t.Block (t.more_items (t.Statement (t.Return (t.some_expr (t.Call (t.Name (codes "g") (1 ∷ [])) (t.more_exprs (t.Call (t.Name (codes "f") (1 ∷ [])) t.no_exprs (1 ∷ 1 ∷ [])) t.no_exprs) (1 ∷ 1 ∷ []))) (1 ∷ 1 ∷ []))) t.no_items) (1 ∷ 1 ∷ []); lines = [] })) ∷ []; lines = [] }) rule.K10 1
unfolding layouts_of same_basic holds_const linkage_of clashes with_declaration with_content with_head unit_of landing puts_of constant_of is_null_constant pairing is_assignable check_gives check_chain check_here check_becomes check_look breaks node_rules rule_at same_key specs_type unary_of binary_of assignment_of
void_argument = refl

-- `int main(void) { int x; return &(x + 1) != 0; }`
address_of_value : is_refused (record { parts = (t.Defined (record { specs = (t.more_specs (t.Key keyword.Int (1 ∷ [])) t.no_specs); declarator = (t.Function (t.Identifier (codes "main") (1 ∷ [])) (t.more_params (t.Param (t.more_specs (t.Key keyword.Void (1 ∷ [])) t.no_specs) t.Missing []) t.no_params) false (1 ∷ 1 ∷ [])); body = t.Block (t.more_items (t.Declared (record { specs = (t.more_specs (t.Key keyword.Int (1 ∷ [])) t.no_specs); list = record { declarator = (t.Identifier (codes "x") (1 ∷ [])); init = None; lines = [] } ∷ []; lines = (1 ∷ []) })) (t.more_items (t.Statement (t.Return (t.some_expr (t.Binary (t.Unary punct.Ampersand (t.Binary (t.Name (codes "x") (1 ∷ [])) punct.Plus (t.Number 1 ty0.Int (1 ∷ [])) (1 ∷ [])) (1 ∷ [])) punct.NotEqual (t.Number 0 ty0.Int (1 ∷ [])) (1 ∷ []))) (1 ∷ 1 ∷ []))) t.no_items)) (1 ∷ 1 ∷ []); lines = [] })) ∷ []; lines = [] }) rule.K15 1
unfolding layouts_of same_basic holds_const linkage_of clashes with_declaration with_content with_head unit_of landing puts_of constant_of is_null_constant pairing is_assignable check_gives check_chain check_here check_becomes check_look breaks node_rules rule_at same_key specs_type unary_of binary_of assignment_of
address_of_value = refl

-- `int main(void) { void *p = 0; return &*p == 0; }`
address_of_void : is_fine (record { parts = (t.Defined (record { specs = (t.more_specs (t.Key keyword.Int (1 ∷ [])) t.no_specs); declarator = (t.Function (t.Identifier (codes "main") (1 ∷ [])) (t.more_params (t.Param (t.more_specs (t.Key keyword.Void (1 ∷ [])) t.no_specs) t.Missing []) t.no_params) false (1 ∷ 1 ∷ [])); body = t.Block (t.more_items (t.Declared (record { specs = (t.more_specs (t.Key keyword.Void (1 ∷ [])) t.no_specs); list = record { declarator = (t.Pointer [] (t.Identifier (codes "p") (1 ∷ [])) (1 ∷ [])); init = (Some (t.Single (t.Number 0 ty0.Int (1 ∷ [])))); lines = [] } ∷ []; lines = (1 ∷ []) })) (t.more_items (t.Statement (t.Return (t.some_expr (t.Binary (t.Unary punct.Ampersand (t.Unary punct.Star (t.Name (codes "p") (1 ∷ [])) (1 ∷ [])) (1 ∷ [])) punct.EqualEqual (t.Number 0 ty0.Int (1 ∷ [])) (1 ∷ []))) (1 ∷ 1 ∷ []))) t.no_items)) (1 ∷ 1 ∷ []); lines = [] })) ∷ []; lines = [] })
unfolding layouts_of same_basic holds_const linkage_of clashes with_declaration with_content with_head unit_of landing puts_of constant_of is_null_constant pairing is_assignable check_gives check_chain check_here check_becomes check_look breaks node_rules rule_at same_key specs_type unary_of binary_of assignment_of
address_of_void = refl

-- `int f(void); int main(void) { int (*p)(void) = &f; return (*p)() + (**p)(); }`
address_of_function : is_fine (record { parts = (t.Declaration (record { specs = (t.more_specs (t.Key keyword.Int (1 ∷ [])) t.no_specs); list = record { declarator = (t.Function (t.Identifier (codes "f") (1 ∷ [])) (t.more_params (t.Param (t.more_specs (t.Key keyword.Void (1 ∷ [])) t.no_specs) t.Missing []) t.no_params) false (1 ∷ 1 ∷ [])); init = None; lines = [] } ∷ []; lines = (1 ∷ []) })) ∷ (t.Defined (record { specs = (t.more_specs (t.Key keyword.Int (1 ∷ [])) t.no_specs); declarator = (t.Function (t.Identifier (codes "main") (1 ∷ [])) (t.more_params (t.Param (t.more_specs (t.Key keyword.Void (1 ∷ [])) t.no_specs) t.Missing []) t.no_params) false (1 ∷ 1 ∷ [])); body = t.Block (t.more_items (t.Declared (record { specs = (t.more_specs (t.Key keyword.Int (1 ∷ [])) t.no_specs); list = record { declarator = (t.Function (t.Group (t.Pointer [] (t.Identifier (codes "p") (1 ∷ [])) (1 ∷ [])) (1 ∷ 1 ∷ [])) (t.more_params (t.Param (t.more_specs (t.Key keyword.Void (1 ∷ [])) t.no_specs) t.Missing []) t.no_params) false (1 ∷ 1 ∷ [])); init = (Some (t.Single (t.Unary punct.Ampersand (t.Name (codes "f") (1 ∷ [])) (1 ∷ [])))); lines = [] } ∷ []; lines = (1 ∷ []) })) (t.more_items (t.Statement (t.Return (t.some_expr (t.Binary (t.Call (t.Unary punct.Star (t.Name (codes "p") (1 ∷ [])) (1 ∷ [])) t.no_exprs (1 ∷ 1 ∷ [])) punct.Plus (t.Call (t.Unary punct.Star (t.Unary punct.Star (t.Name (codes "p") (1 ∷ [])) (1 ∷ [])) (1 ∷ [])) t.no_exprs (1 ∷ 1 ∷ [])) (1 ∷ []))) (1 ∷ 1 ∷ []))) t.no_items)) (1 ∷ 1 ∷ []); lines = [] })) ∷ []; lines = [] })
unfolding layouts_of same_basic holds_const linkage_of clashes with_declaration with_content with_head unit_of landing puts_of constant_of is_null_constant pairing is_assignable check_gives check_chain check_here check_becomes check_look breaks node_rules rule_at same_key specs_type unary_of binary_of assignment_of
address_of_function = refl

-- `struct s { int a; }; int main(void) { register struct s x; return &x.a != 0; }`
address_of_register_member : is_refused (record { parts = (t.Declaration (record { specs = (t.more_specs (t.Record false (Some (codes "s")) (t.some_members (t.more_member_decls (t.MemberDecl (t.more_specs (t.Key keyword.Int (1 ∷ [])) t.no_specs) (t.more_member_declarators (t.MemberDeclarator (t.Identifier (codes "a") (1 ∷ [])) t.no_expr (1 ∷ [])) t.no_member_declarators) (1 ∷ [])) t.no_member_decls)) (1 ∷ 1 ∷ 1 ∷ [])) t.no_specs); list = []; lines = (1 ∷ []) })) ∷ (t.Defined (record { specs = (t.more_specs (t.Key keyword.Int (1 ∷ [])) t.no_specs); declarator = (t.Function (t.Identifier (codes "main") (1 ∷ [])) (t.more_params (t.Param (t.more_specs (t.Key keyword.Void (1 ∷ [])) t.no_specs) t.Missing []) t.no_params) false (1 ∷ 1 ∷ [])); body = t.Block (t.more_items (t.Declared (record { specs = (t.more_specs (t.Key keyword.Register (1 ∷ [])) (t.more_specs (t.Record false (Some (codes "s")) t.no_members (1 ∷ 1 ∷ [])) t.no_specs)); list = record { declarator = (t.Identifier (codes "x") (1 ∷ [])); init = None; lines = [] } ∷ []; lines = (1 ∷ []) })) (t.more_items (t.Statement (t.Return (t.some_expr (t.Binary (t.Unary punct.Ampersand (t.Dot (t.Name (codes "x") (1 ∷ [])) (codes "a") (1 ∷ 1 ∷ [])) (1 ∷ [])) punct.NotEqual (t.Number 0 ty0.Int (1 ∷ [])) (1 ∷ []))) (1 ∷ 1 ∷ []))) t.no_items)) (1 ∷ 1 ∷ []); lines = [] })) ∷ []; lines = [] }) rule.K15 1
unfolding layouts_of same_basic holds_const linkage_of clashes with_declaration with_content with_head unit_of landing puts_of constant_of is_null_constant pairing is_assignable check_gives check_chain check_here check_becomes check_look breaks node_rules rule_at same_key specs_type unary_of binary_of assignment_of
address_of_register_member = refl

-- `struct s { int a[2]; }; int main(void) { register struct s x; return x.a[0]; }`
register_member_array : is_refused (record { parts = (t.Declaration (record { specs = (t.more_specs (t.Record false (Some (codes "s")) (t.some_members (t.more_member_decls (t.MemberDecl (t.more_specs (t.Key keyword.Int (1 ∷ [])) t.no_specs) (t.more_member_declarators (t.MemberDeclarator (t.Array (t.Identifier (codes "a") (1 ∷ [])) (t.Length [] (t.Number 2 ty0.Int (1 ∷ []))) (1 ∷ 1 ∷ [])) t.no_expr (1 ∷ [])) t.no_member_declarators) (1 ∷ [])) t.no_member_decls)) (1 ∷ 1 ∷ 1 ∷ [])) t.no_specs); list = []; lines = (1 ∷ []) })) ∷ (t.Defined (record { specs = (t.more_specs (t.Key keyword.Int (1 ∷ [])) t.no_specs); declarator = (t.Function (t.Identifier (codes "main") (1 ∷ [])) (t.more_params (t.Param (t.more_specs (t.Key keyword.Void (1 ∷ [])) t.no_specs) t.Missing []) t.no_params) false (1 ∷ 1 ∷ [])); body = t.Block (t.more_items (t.Declared (record { specs = (t.more_specs (t.Key keyword.Register (1 ∷ [])) (t.more_specs (t.Record false (Some (codes "s")) t.no_members (1 ∷ 1 ∷ [])) t.no_specs)); list = record { declarator = (t.Identifier (codes "x") (1 ∷ [])); init = None; lines = [] } ∷ []; lines = (1 ∷ []) })) (t.more_items (t.Statement (t.Return (t.some_expr (t.Index (t.Dot (t.Name (codes "x") (1 ∷ [])) (codes "a") (1 ∷ 1 ∷ [])) (t.Number 0 ty0.Int (1 ∷ [])) (1 ∷ 1 ∷ []))) (1 ∷ 1 ∷ []))) t.no_items)) (1 ∷ 1 ∷ []); lines = [] })) ∷ []; lines = [] }) rule.K15 1
unfolding layouts_of same_basic holds_const linkage_of clashes with_declaration with_content with_head unit_of landing puts_of constant_of is_null_constant pairing is_assignable check_gives check_chain check_here check_becomes check_look breaks node_rules rule_at same_key specs_type unary_of binary_of assignment_of
register_member_array = refl

-- `int main(void) { register int a[2]; return sizeof a; }`
register_array_size : is_fine (record { parts = (t.Defined (record { specs = (t.more_specs (t.Key keyword.Int (1 ∷ [])) t.no_specs); declarator = (t.Function (t.Identifier (codes "main") (1 ∷ [])) (t.more_params (t.Param (t.more_specs (t.Key keyword.Void (1 ∷ [])) t.no_specs) t.Missing []) t.no_params) false (1 ∷ 1 ∷ [])); body = t.Block (t.more_items (t.Declared (record { specs = (t.more_specs (t.Key keyword.Register (1 ∷ [])) (t.more_specs (t.Key keyword.Int (1 ∷ [])) t.no_specs)); list = record { declarator = (t.Array (t.Identifier (codes "a") (1 ∷ [])) (t.Length [] (t.Number 2 ty0.Int (1 ∷ []))) (1 ∷ 1 ∷ [])); init = None; lines = [] } ∷ []; lines = (1 ∷ []) })) (t.more_items (t.Statement (t.Return (t.some_expr (t.SizeofExpr (t.Name (codes "a") (1 ∷ [])) (1 ∷ []))) (1 ∷ 1 ∷ []))) t.no_items)) (1 ∷ 1 ∷ []); lines = [] })) ∷ []; lines = [] })
unfolding layouts_of same_basic holds_const linkage_of clashes with_declaration with_content with_head unit_of landing puts_of constant_of is_null_constant pairing is_assignable check_gives check_chain check_here check_becomes check_look breaks node_rules rule_at same_key specs_type unary_of binary_of assignment_of
register_array_size = refl

-- `int main(void) { return sizeof(void); }`
size_of_void : is_refused (record { parts = (t.Defined (record { specs = (t.more_specs (t.Key keyword.Int (1 ∷ [])) t.no_specs); declarator = (t.Function (t.Identifier (codes "main") (1 ∷ [])) (t.more_params (t.Param (t.more_specs (t.Key keyword.Void (1 ∷ [])) t.no_specs) t.Missing []) t.no_params) false (1 ∷ 1 ∷ [])); body = t.Block (t.more_items (t.Statement (t.Return (t.some_expr (t.SizeofType (t.TypeName (t.more_specs (t.Key keyword.Void (1 ∷ [])) t.no_specs) t.Missing []) (1 ∷ 1 ∷ 1 ∷ []))) (1 ∷ 1 ∷ []))) t.no_items) (1 ∷ 1 ∷ []); lines = [] })) ∷ []; lines = [] }) rule.K14 1
unfolding layouts_of same_basic holds_const linkage_of clashes with_declaration with_content with_head unit_of landing puts_of constant_of is_null_constant pairing is_assignable check_gives check_chain check_here check_becomes check_look breaks node_rules rule_at same_key specs_type unary_of binary_of assignment_of
size_of_void = refl

-- `struct s; int main(void) { return sizeof(struct s); }`
size_of_incomplete : is_refused (record { parts = (t.Declaration (record { specs = (t.more_specs (t.Record false (Some (codes "s")) t.no_members (1 ∷ 1 ∷ [])) t.no_specs); list = []; lines = (1 ∷ []) })) ∷ (t.Defined (record { specs = (t.more_specs (t.Key keyword.Int (1 ∷ [])) t.no_specs); declarator = (t.Function (t.Identifier (codes "main") (1 ∷ [])) (t.more_params (t.Param (t.more_specs (t.Key keyword.Void (1 ∷ [])) t.no_specs) t.Missing []) t.no_params) false (1 ∷ 1 ∷ [])); body = t.Block (t.more_items (t.Statement (t.Return (t.some_expr (t.SizeofType (t.TypeName (t.more_specs (t.Record false (Some (codes "s")) t.no_members (1 ∷ 1 ∷ [])) t.no_specs) t.Missing []) (1 ∷ 1 ∷ 1 ∷ []))) (1 ∷ 1 ∷ []))) t.no_items) (1 ∷ 1 ∷ []); lines = [] })) ∷ []; lines = [] }) rule.K14 1
unfolding layouts_of same_basic holds_const linkage_of clashes with_declaration with_content with_head unit_of landing puts_of constant_of is_null_constant pairing is_assignable check_gives check_chain check_here check_becomes check_look breaks node_rules rule_at same_key specs_type unary_of binary_of assignment_of
size_of_incomplete = refl

-- `int main(void) { return sizeof(int(void)); }`
size_of_function_type : is_refused (record { parts = (t.Defined (record { specs = (t.more_specs (t.Key keyword.Int (1 ∷ [])) t.no_specs); declarator = (t.Function (t.Identifier (codes "main") (1 ∷ [])) (t.more_params (t.Param (t.more_specs (t.Key keyword.Void (1 ∷ [])) t.no_specs) t.Missing []) t.no_params) false (1 ∷ 1 ∷ [])); body = t.Block (t.more_items (t.Statement (t.Return (t.some_expr (t.SizeofType (t.TypeName (t.more_specs (t.Key keyword.Int (1 ∷ [])) t.no_specs) (t.Function t.Missing (t.more_params (t.Param (t.more_specs (t.Key keyword.Void (1 ∷ [])) t.no_specs) t.Missing []) t.no_params) false (1 ∷ 1 ∷ [])) []) (1 ∷ 1 ∷ 1 ∷ []))) (1 ∷ 1 ∷ []))) t.no_items) (1 ∷ 1 ∷ []); lines = [] })) ∷ []; lines = [] }) rule.K14 1
unfolding layouts_of same_basic holds_const linkage_of clashes with_declaration with_content with_head unit_of landing puts_of constant_of is_null_constant pairing is_assignable check_gives check_chain check_here check_becomes check_look breaks node_rules rule_at same_key specs_type unary_of binary_of assignment_of
size_of_function_type = refl

-- `extern int a[]; int main(void) { return sizeof a; }`
size_of_open_array : is_refused (record { parts = (t.Declaration (record { specs = (t.more_specs (t.Key keyword.Extern (1 ∷ [])) (t.more_specs (t.Key keyword.Int (1 ∷ [])) t.no_specs)); list = record { declarator = (t.Array (t.Identifier (codes "a") (1 ∷ [])) (t.Unsized []) (1 ∷ 1 ∷ [])); init = None; lines = [] } ∷ []; lines = (1 ∷ []) })) ∷ (t.Defined (record { specs = (t.more_specs (t.Key keyword.Int (1 ∷ [])) t.no_specs); declarator = (t.Function (t.Identifier (codes "main") (1 ∷ [])) (t.more_params (t.Param (t.more_specs (t.Key keyword.Void (1 ∷ [])) t.no_specs) t.Missing []) t.no_params) false (1 ∷ 1 ∷ [])); body = t.Block (t.more_items (t.Statement (t.Return (t.some_expr (t.SizeofExpr (t.Name (codes "a") (1 ∷ [])) (1 ∷ []))) (1 ∷ 1 ∷ []))) t.no_items) (1 ∷ 1 ∷ []); lines = [] })) ∷ []; lines = [] }) rule.K14 1
unfolding layouts_of same_basic holds_const linkage_of clashes with_declaration with_content with_head unit_of landing puts_of constant_of is_null_constant pairing is_assignable check_gives check_chain check_here check_becomes check_look breaks node_rules rule_at same_key specs_type unary_of binary_of assignment_of
size_of_open_array = refl

-- `struct s { int a : 3; } x; char b[sizeof (x.a + 0) == 4 ? 1 : -1];`
size_of_bit_field_sum : is_fine (record { parts = (t.Declaration (record { specs = (t.more_specs (t.Record false (Some (codes "s")) (t.some_members (t.more_member_decls (t.MemberDecl (t.more_specs (t.Key keyword.Int (1 ∷ [])) t.no_specs) (t.more_member_declarators (t.MemberDeclarator (t.Identifier (codes "a") (1 ∷ [])) (t.some_expr (t.Number 3 ty0.Int (1 ∷ []))) (1 ∷ [])) t.no_member_declarators) (1 ∷ [])) t.no_member_decls)) (1 ∷ 1 ∷ 1 ∷ [])) t.no_specs); list = record { declarator = (t.Identifier (codes "x") (1 ∷ [])); init = None; lines = [] } ∷ []; lines = (1 ∷ []) })) ∷ (t.Declaration (record { specs = (t.more_specs (t.Key keyword.Char (1 ∷ [])) t.no_specs); list = record { declarator = (t.Array (t.Identifier (codes "b") (1 ∷ [])) (t.Length [] (t.Cond (t.Binary (t.SizeofExpr (t.Binary (t.Dot (t.Name (codes "x") (1 ∷ [])) (codes "a") (1 ∷ 1 ∷ [])) punct.Plus (t.Number 0 ty0.Int (1 ∷ [])) (1 ∷ [])) (1 ∷ [])) punct.EqualEqual (t.Number 4 ty0.Int (1 ∷ [])) (1 ∷ [])) (t.Number 1 ty0.Int (1 ∷ [])) (t.Unary punct.Minus (t.Number 1 ty0.Int (1 ∷ [])) (1 ∷ [])) (1 ∷ 1 ∷ []))) (1 ∷ 1 ∷ [])); init = None; lines = [] } ∷ []; lines = (1 ∷ []) })) ∷ []; lines = [] })
unfolding layouts_of same_basic holds_const linkage_of clashes with_declaration with_content with_head unit_of landing puts_of constant_of is_null_constant pairing is_assignable check_gives check_chain check_here check_becomes check_look breaks node_rules rule_at same_key specs_type unary_of binary_of assignment_of
size_of_bit_field_sum = refl

-- `struct s { int a; } x; int main(void) { (struct s)x; return 0; }`
cast_to_record : is_refused (record { parts = (t.Declaration (record { specs = (t.more_specs (t.Record false (Some (codes "s")) (t.some_members (t.more_member_decls (t.MemberDecl (t.more_specs (t.Key keyword.Int (1 ∷ [])) t.no_specs) (t.more_member_declarators (t.MemberDeclarator (t.Identifier (codes "a") (1 ∷ [])) t.no_expr (1 ∷ [])) t.no_member_declarators) (1 ∷ [])) t.no_member_decls)) (1 ∷ 1 ∷ 1 ∷ [])) t.no_specs); list = record { declarator = (t.Identifier (codes "x") (1 ∷ [])); init = None; lines = [] } ∷ []; lines = (1 ∷ []) })) ∷ (t.Defined (record { specs = (t.more_specs (t.Key keyword.Int (1 ∷ [])) t.no_specs); declarator = (t.Function (t.Identifier (codes "main") (1 ∷ [])) (t.more_params (t.Param (t.more_specs (t.Key keyword.Void (1 ∷ [])) t.no_specs) t.Missing []) t.no_params) false (1 ∷ 1 ∷ [])); body = t.Block (t.more_items (t.Statement (t.ExprStmt (t.some_expr (t.Cast (t.TypeName (t.more_specs (t.Record false (Some (codes "s")) t.no_members (1 ∷ 1 ∷ [])) t.no_specs) t.Missing []) (t.Name (codes "x") (1 ∷ [])) (1 ∷ 1 ∷ []))) (1 ∷ []))) (t.more_items (t.Statement (t.Return (t.some_expr (t.Number 0 ty0.Int (1 ∷ []))) (1 ∷ 1 ∷ []))) t.no_items)) (1 ∷ 1 ∷ []); lines = [] })) ∷ []; lines = [] }) rule.K13 1
unfolding layouts_of same_basic holds_const linkage_of clashes with_declaration with_content with_head unit_of landing puts_of constant_of is_null_constant pairing is_assignable check_gives check_chain check_here check_becomes check_look breaks node_rules rule_at same_key specs_type unary_of binary_of assignment_of
cast_to_record = refl

-- `int x; int main(void) { (int[2])x; return 0; }`
cast_to_array : is_refused (record { parts = (t.Declaration (record { specs = (t.more_specs (t.Key keyword.Int (1 ∷ [])) t.no_specs); list = record { declarator = (t.Identifier (codes "x") (1 ∷ [])); init = None; lines = [] } ∷ []; lines = (1 ∷ []) })) ∷ (t.Defined (record { specs = (t.more_specs (t.Key keyword.Int (1 ∷ [])) t.no_specs); declarator = (t.Function (t.Identifier (codes "main") (1 ∷ [])) (t.more_params (t.Param (t.more_specs (t.Key keyword.Void (1 ∷ [])) t.no_specs) t.Missing []) t.no_params) false (1 ∷ 1 ∷ [])); body = t.Block (t.more_items (t.Statement (t.ExprStmt (t.some_expr (t.Cast (t.TypeName (t.more_specs (t.Key keyword.Int (1 ∷ [])) t.no_specs) (t.Array t.Missing (t.Length [] (t.Number 2 ty0.Int (1 ∷ []))) (1 ∷ 1 ∷ [])) []) (t.Name (codes "x") (1 ∷ [])) (1 ∷ 1 ∷ []))) (1 ∷ []))) (t.more_items (t.Statement (t.Return (t.some_expr (t.Number 0 ty0.Int (1 ∷ []))) (1 ∷ 1 ∷ []))) t.no_items)) (1 ∷ 1 ∷ []); lines = [] })) ∷ []; lines = [] }) rule.K13 1
unfolding layouts_of same_basic holds_const linkage_of clashes with_declaration with_content with_head unit_of landing puts_of constant_of is_null_constant pairing is_assignable check_gives check_chain check_here check_becomes check_look breaks node_rules rule_at same_key specs_type unary_of binary_of assignment_of
cast_to_array = refl

-- `struct s { int a; } x; int main(void) { (void)x; return 0; }`
cast_to_void : is_fine (record { parts = (t.Declaration (record { specs = (t.more_specs (t.Record false (Some (codes "s")) (t.some_members (t.more_member_decls (t.MemberDecl (t.more_specs (t.Key keyword.Int (1 ∷ [])) t.no_specs) (t.more_member_declarators (t.MemberDeclarator (t.Identifier (codes "a") (1 ∷ [])) t.no_expr (1 ∷ [])) t.no_member_declarators) (1 ∷ [])) t.no_member_decls)) (1 ∷ 1 ∷ 1 ∷ [])) t.no_specs); list = record { declarator = (t.Identifier (codes "x") (1 ∷ [])); init = None; lines = [] } ∷ []; lines = (1 ∷ []) })) ∷ (t.Defined (record { specs = (t.more_specs (t.Key keyword.Int (1 ∷ [])) t.no_specs); declarator = (t.Function (t.Identifier (codes "main") (1 ∷ [])) (t.more_params (t.Param (t.more_specs (t.Key keyword.Void (1 ∷ [])) t.no_specs) t.Missing []) t.no_params) false (1 ∷ 1 ∷ [])); body = t.Block (t.more_items (t.Statement (t.ExprStmt (t.some_expr (t.Cast (t.TypeName (t.more_specs (t.Key keyword.Void (1 ∷ [])) t.no_specs) t.Missing []) (t.Name (codes "x") (1 ∷ [])) (1 ∷ 1 ∷ []))) (1 ∷ []))) (t.more_items (t.Statement (t.Return (t.some_expr (t.Number 0 ty0.Int (1 ∷ []))) (1 ∷ 1 ∷ []))) t.no_items)) (1 ∷ 1 ∷ []); lines = [] })) ∷ []; lines = [] })
unfolding layouts_of same_basic holds_const linkage_of clashes with_declaration with_content with_head unit_of landing puts_of constant_of is_null_constant pairing is_assignable check_gives check_chain check_here check_becomes check_look breaks node_rules rule_at same_key specs_type unary_of binary_of assignment_of
cast_to_void = refl

-- `void f(void); int main(void) { return (int)f(); }`
cast_of_void : is_refused (record { parts = (t.Declaration (record { specs = (t.more_specs (t.Key keyword.Void (1 ∷ [])) t.no_specs); list = record { declarator = (t.Function (t.Identifier (codes "f") (1 ∷ [])) (t.more_params (t.Param (t.more_specs (t.Key keyword.Void (1 ∷ [])) t.no_specs) t.Missing []) t.no_params) false (1 ∷ 1 ∷ [])); init = None; lines = [] } ∷ []; lines = (1 ∷ []) })) ∷ (t.Defined (record { specs = (t.more_specs (t.Key keyword.Int (1 ∷ [])) t.no_specs); declarator = (t.Function (t.Identifier (codes "main") (1 ∷ [])) (t.more_params (t.Param (t.more_specs (t.Key keyword.Void (1 ∷ [])) t.no_specs) t.Missing []) t.no_params) false (1 ∷ 1 ∷ [])); body = t.Block (t.more_items (t.Statement (t.Return (t.some_expr (t.Cast (t.TypeName (t.more_specs (t.Key keyword.Int (1 ∷ [])) t.no_specs) t.Missing []) (t.Call (t.Name (codes "f") (1 ∷ [])) t.no_exprs (1 ∷ 1 ∷ [])) (1 ∷ 1 ∷ []))) (1 ∷ 1 ∷ []))) t.no_items) (1 ∷ 1 ∷ []); lines = [] })) ∷ []; lines = [] }) rule.K10 1
unfolding layouts_of same_basic holds_const linkage_of clashes with_declaration with_content with_head unit_of landing puts_of constant_of is_null_constant pairing is_assignable check_gives check_chain check_here check_becomes check_look breaks node_rules rule_at same_key specs_type unary_of binary_of assignment_of
cast_of_void = refl

-- `int x; int main(void) { return (_Bool)&x; }`
cast_to_truth : is_fine (record { parts = (t.Declaration (record { specs = (t.more_specs (t.Key keyword.Int (1 ∷ [])) t.no_specs); list = record { declarator = (t.Identifier (codes "x") (1 ∷ [])); init = None; lines = [] } ∷ []; lines = (1 ∷ []) })) ∷ (t.Defined (record { specs = (t.more_specs (t.Key keyword.Int (1 ∷ [])) t.no_specs); declarator = (t.Function (t.Identifier (codes "main") (1 ∷ [])) (t.more_params (t.Param (t.more_specs (t.Key keyword.Void (1 ∷ [])) t.no_specs) t.Missing []) t.no_params) false (1 ∷ 1 ∷ [])); body = t.Block (t.more_items (t.Statement (t.Return (t.some_expr (t.Cast (t.TypeName (t.more_specs (t.Key keyword.Bool (1 ∷ [])) t.no_specs) t.Missing []) (t.Unary punct.Ampersand (t.Name (codes "x") (1 ∷ [])) (1 ∷ [])) (1 ∷ 1 ∷ []))) (1 ∷ 1 ∷ []))) t.no_items) (1 ∷ 1 ∷ []); lines = [] })) ∷ []; lines = [] })
unfolding layouts_of same_basic holds_const linkage_of clashes with_declaration with_content with_head unit_of landing puts_of constant_of is_null_constant pairing is_assignable check_gives check_chain check_here check_becomes check_look breaks node_rules rule_at same_key specs_type unary_of binary_of assignment_of
cast_to_truth = refl

-- `int main(void) { int x = 0; return (int *)x == 0; }`
cast_of_zero_value : is_refused (record { parts = (t.Defined (record { specs = (t.more_specs (t.Key keyword.Int (1 ∷ [])) t.no_specs); declarator = (t.Function (t.Identifier (codes "main") (1 ∷ [])) (t.more_params (t.Param (t.more_specs (t.Key keyword.Void (1 ∷ [])) t.no_specs) t.Missing []) t.no_params) false (1 ∷ 1 ∷ [])); body = t.Block (t.more_items (t.Declared (record { specs = (t.more_specs (t.Key keyword.Int (1 ∷ [])) t.no_specs); list = record { declarator = (t.Identifier (codes "x") (1 ∷ [])); init = (Some (t.Single (t.Number 0 ty0.Int (1 ∷ [])))); lines = [] } ∷ []; lines = (1 ∷ []) })) (t.more_items (t.Statement (t.Return (t.some_expr (t.Binary (t.Cast (t.TypeName (t.more_specs (t.Key keyword.Int (1 ∷ [])) t.no_specs) (t.Pointer [] t.Missing (1 ∷ [])) []) (t.Name (codes "x") (1 ∷ [])) (1 ∷ 1 ∷ [])) punct.EqualEqual (t.Number 0 ty0.Int (1 ∷ [])) (1 ∷ []))) (1 ∷ 1 ∷ []))) t.no_items)) (1 ∷ 1 ∷ []); lines = [] })) ∷ []; lines = [] }) rule.O7 1
unfolding layouts_of same_basic holds_const linkage_of clashes with_declaration with_content with_head unit_of landing puts_of constant_of is_null_constant pairing is_assignable check_gives check_chain check_here check_becomes check_look breaks node_rules rule_at same_key specs_type unary_of binary_of assignment_of
cast_of_zero_value = refl

-- `int main(void) { return (long)(void *)0; }`
cast_of_null_back : is_refused (record { parts = (t.Defined (record { specs = (t.more_specs (t.Key keyword.Int (1 ∷ [])) t.no_specs); declarator = (t.Function (t.Identifier (codes "main") (1 ∷ [])) (t.more_params (t.Param (t.more_specs (t.Key keyword.Void (1 ∷ [])) t.no_specs) t.Missing []) t.no_params) false (1 ∷ 1 ∷ [])); body = t.Block (t.more_items (t.Statement (t.Return (t.some_expr (t.Cast (t.TypeName (t.more_specs (t.Key keyword.Long (1 ∷ [])) t.no_specs) t.Missing []) (t.Cast (t.TypeName (t.more_specs (t.Key keyword.Void (1 ∷ [])) t.no_specs) (t.Pointer [] t.Missing (1 ∷ [])) []) (t.Number 0 ty0.Int (1 ∷ [])) (1 ∷ 1 ∷ [])) (1 ∷ 1 ∷ []))) (1 ∷ 1 ∷ []))) t.no_items) (1 ∷ 1 ∷ []); lines = [] })) ∷ []; lines = [] }) rule.O7 1
unfolding layouts_of same_basic holds_const linkage_of clashes with_declaration with_content with_head unit_of landing puts_of constant_of is_null_constant pairing is_assignable check_gives check_chain check_here check_becomes check_look breaks node_rules rule_at same_key specs_type unary_of binary_of assignment_of
cast_of_null_back = refl

-- `int f(void); int main(void) { long (*p)(int) = (long (*)(int))f; return p == 0; }`
cast_between_functions : is_fine (record { parts = (t.Declaration (record { specs = (t.more_specs (t.Key keyword.Int (1 ∷ [])) t.no_specs); list = record { declarator = (t.Function (t.Identifier (codes "f") (1 ∷ [])) (t.more_params (t.Param (t.more_specs (t.Key keyword.Void (1 ∷ [])) t.no_specs) t.Missing []) t.no_params) false (1 ∷ 1 ∷ [])); init = None; lines = [] } ∷ []; lines = (1 ∷ []) })) ∷ (t.Defined (record { specs = (t.more_specs (t.Key keyword.Int (1 ∷ [])) t.no_specs); declarator = (t.Function (t.Identifier (codes "main") (1 ∷ [])) (t.more_params (t.Param (t.more_specs (t.Key keyword.Void (1 ∷ [])) t.no_specs) t.Missing []) t.no_params) false (1 ∷ 1 ∷ [])); body = t.Block (t.more_items (t.Declared (record { specs = (t.more_specs (t.Key keyword.Long (1 ∷ [])) t.no_specs); list = record { declarator = (t.Function (t.Group (t.Pointer [] (t.Identifier (codes "p") (1 ∷ [])) (1 ∷ [])) (1 ∷ 1 ∷ [])) (t.more_params (t.Param (t.more_specs (t.Key keyword.Int (1 ∷ [])) t.no_specs) t.Missing []) t.no_params) false (1 ∷ 1 ∷ [])); init = (Some (t.Single (t.Cast (t.TypeName (t.more_specs (t.Key keyword.Long (1 ∷ [])) t.no_specs) (t.Function (t.Group (t.Pointer [] t.Missing (1 ∷ [])) (1 ∷ 1 ∷ [])) (t.more_params (t.Param (t.more_specs (t.Key keyword.Int (1 ∷ [])) t.no_specs) t.Missing []) t.no_params) false (1 ∷ 1 ∷ [])) []) (t.Name (codes "f") (1 ∷ [])) (1 ∷ 1 ∷ [])))); lines = [] } ∷ []; lines = (1 ∷ []) })) (t.more_items (t.Statement (t.Return (t.some_expr (t.Binary (t.Name (codes "p") (1 ∷ [])) punct.EqualEqual (t.Number 0 ty0.Int (1 ∷ [])) (1 ∷ []))) (1 ∷ 1 ∷ []))) t.no_items)) (1 ∷ 1 ∷ []); lines = [] })) ∷ []; lines = [] })
unfolding layouts_of same_basic holds_const linkage_of clashes with_declaration with_content with_head unit_of landing puts_of constant_of is_null_constant pairing is_assignable check_gives check_chain check_here check_becomes check_look breaks node_rules rule_at same_key specs_type unary_of binary_of assignment_of
cast_between_functions = refl

-- `int (*p)(void) = (int (*)(void))(void *)0;`
cast_null_to_function : is_fine (record { parts = (t.Declaration (record { specs = (t.more_specs (t.Key keyword.Int (1 ∷ [])) t.no_specs); list = record { declarator = (t.Function (t.Group (t.Pointer [] (t.Identifier (codes "p") (1 ∷ [])) (1 ∷ [])) (1 ∷ 1 ∷ [])) (t.more_params (t.Param (t.more_specs (t.Key keyword.Void (1 ∷ [])) t.no_specs) t.Missing []) t.no_params) false (1 ∷ 1 ∷ [])); init = (Some (t.Single (t.Cast (t.TypeName (t.more_specs (t.Key keyword.Int (1 ∷ [])) t.no_specs) (t.Function (t.Group (t.Pointer [] t.Missing (1 ∷ [])) (1 ∷ 1 ∷ [])) (t.more_params (t.Param (t.more_specs (t.Key keyword.Void (1 ∷ [])) t.no_specs) t.Missing []) t.no_params) false (1 ∷ 1 ∷ [])) []) (t.Cast (t.TypeName (t.more_specs (t.Key keyword.Void (1 ∷ [])) t.no_specs) (t.Pointer [] t.Missing (1 ∷ [])) []) (t.Number 0 ty0.Int (1 ∷ [])) (1 ∷ 1 ∷ [])) (1 ∷ 1 ∷ [])))); lines = [] } ∷ []; lines = (1 ∷ []) })) ∷ []; lines = [] })
unfolding layouts_of same_basic holds_const linkage_of clashes with_declaration with_content with_head unit_of landing puts_of constant_of is_null_constant pairing is_assignable check_gives check_chain check_here check_becomes check_look breaks node_rules rule_at same_key specs_type unary_of binary_of assignment_of
cast_null_to_function = refl

-- `int f(void); int main(void) { char *p = (char *)f; return 0; }`
cast_function_to_object : is_refused (record { parts = (t.Declaration (record { specs = (t.more_specs (t.Key keyword.Int (1 ∷ [])) t.no_specs); list = record { declarator = (t.Function (t.Identifier (codes "f") (1 ∷ [])) (t.more_params (t.Param (t.more_specs (t.Key keyword.Void (1 ∷ [])) t.no_specs) t.Missing []) t.no_params) false (1 ∷ 1 ∷ [])); init = None; lines = [] } ∷ []; lines = (1 ∷ []) })) ∷ (t.Defined (record { specs = (t.more_specs (t.Key keyword.Int (1 ∷ [])) t.no_specs); declarator = (t.Function (t.Identifier (codes "main") (1 ∷ [])) (t.more_params (t.Param (t.more_specs (t.Key keyword.Void (1 ∷ [])) t.no_specs) t.Missing []) t.no_params) false (1 ∷ 1 ∷ [])); body = t.Block (t.more_items (t.Declared (record { specs = (t.more_specs (t.Key keyword.Char (1 ∷ [])) t.no_specs); list = record { declarator = (t.Pointer [] (t.Identifier (codes "p") (1 ∷ [])) (1 ∷ [])); init = (Some (t.Single (t.Cast (t.TypeName (t.more_specs (t.Key keyword.Char (1 ∷ [])) t.no_specs) (t.Pointer [] t.Missing (1 ∷ [])) []) (t.Name (codes "f") (1 ∷ [])) (1 ∷ 1 ∷ [])))); lines = [] } ∷ []; lines = (1 ∷ []) })) (t.more_items (t.Statement (t.Return (t.some_expr (t.Number 0 ty0.Int (1 ∷ []))) (1 ∷ 1 ∷ []))) t.no_items)) (1 ∷ 1 ∷ []); lines = [] })) ∷ []; lines = [] }) rule.O8 1
unfolding layouts_of same_basic holds_const linkage_of clashes with_declaration with_content with_head unit_of landing puts_of constant_of is_null_constant pairing is_assignable check_gives check_chain check_here check_becomes check_look breaks node_rules rule_at same_key specs_type unary_of binary_of assignment_of
cast_function_to_object = refl

-- `struct s { int a; } x; int main(void) { struct s *p = &x; return p.a; }`
member_of_pointer : is_refused (record { parts = (t.Declaration (record { specs = (t.more_specs (t.Record false (Some (codes "s")) (t.some_members (t.more_member_decls (t.MemberDecl (t.more_specs (t.Key keyword.Int (1 ∷ [])) t.no_specs) (t.more_member_declarators (t.MemberDeclarator (t.Identifier (codes "a") (1 ∷ [])) t.no_expr (1 ∷ [])) t.no_member_declarators) (1 ∷ [])) t.no_member_decls)) (1 ∷ 1 ∷ 1 ∷ [])) t.no_specs); list = record { declarator = (t.Identifier (codes "x") (1 ∷ [])); init = None; lines = [] } ∷ []; lines = (1 ∷ []) })) ∷ (t.Defined (record { specs = (t.more_specs (t.Key keyword.Int (1 ∷ [])) t.no_specs); declarator = (t.Function (t.Identifier (codes "main") (1 ∷ [])) (t.more_params (t.Param (t.more_specs (t.Key keyword.Void (1 ∷ [])) t.no_specs) t.Missing []) t.no_params) false (1 ∷ 1 ∷ [])); body = t.Block (t.more_items (t.Declared (record { specs = (t.more_specs (t.Record false (Some (codes "s")) t.no_members (1 ∷ 1 ∷ [])) t.no_specs); list = record { declarator = (t.Pointer [] (t.Identifier (codes "p") (1 ∷ [])) (1 ∷ [])); init = (Some (t.Single (t.Unary punct.Ampersand (t.Name (codes "x") (1 ∷ [])) (1 ∷ [])))); lines = [] } ∷ []; lines = (1 ∷ []) })) (t.more_items (t.Statement (t.Return (t.some_expr (t.Dot (t.Name (codes "p") (1 ∷ [])) (codes "a") (1 ∷ 1 ∷ []))) (1 ∷ 1 ∷ []))) t.no_items)) (1 ∷ 1 ∷ []); lines = [] })) ∷ []; lines = [] }) rule.K8 1
unfolding layouts_of same_basic holds_const linkage_of clashes with_declaration with_content with_head unit_of landing puts_of constant_of is_null_constant pairing is_assignable check_gives check_chain check_here check_becomes check_look breaks node_rules rule_at same_key specs_type unary_of binary_of assignment_of
member_of_pointer = refl

-- `struct s { int a; } x; int main(void) { return x->a; }`
arrow_of_record : is_refused (record { parts = (t.Declaration (record { specs = (t.more_specs (t.Record false (Some (codes "s")) (t.some_members (t.more_member_decls (t.MemberDecl (t.more_specs (t.Key keyword.Int (1 ∷ [])) t.no_specs) (t.more_member_declarators (t.MemberDeclarator (t.Identifier (codes "a") (1 ∷ [])) t.no_expr (1 ∷ [])) t.no_member_declarators) (1 ∷ [])) t.no_member_decls)) (1 ∷ 1 ∷ 1 ∷ [])) t.no_specs); list = record { declarator = (t.Identifier (codes "x") (1 ∷ [])); init = None; lines = [] } ∷ []; lines = (1 ∷ []) })) ∷ (t.Defined (record { specs = (t.more_specs (t.Key keyword.Int (1 ∷ [])) t.no_specs); declarator = (t.Function (t.Identifier (codes "main") (1 ∷ [])) (t.more_params (t.Param (t.more_specs (t.Key keyword.Void (1 ∷ [])) t.no_specs) t.Missing []) t.no_params) false (1 ∷ 1 ∷ [])); body = t.Block (t.more_items (t.Statement (t.Return (t.some_expr (t.Arrow (t.Name (codes "x") (1 ∷ [])) (codes "a") (1 ∷ 1 ∷ []))) (1 ∷ 1 ∷ []))) t.no_items) (1 ∷ 1 ∷ []); lines = [] })) ∷ []; lines = [] }) rule.K8 1
unfolding layouts_of same_basic holds_const linkage_of clashes with_declaration with_content with_head unit_of landing puts_of constant_of is_null_constant pairing is_assignable check_gives check_chain check_here check_becomes check_look breaks node_rules rule_at same_key specs_type unary_of binary_of assignment_of
arrow_of_record = refl

-- `struct s; int main(void) { struct s *p = 0; return p->a; }`
arrow_of_incomplete : is_refused (record { parts = (t.Declaration (record { specs = (t.more_specs (t.Record false (Some (codes "s")) t.no_members (1 ∷ 1 ∷ [])) t.no_specs); list = []; lines = (1 ∷ []) })) ∷ (t.Defined (record { specs = (t.more_specs (t.Key keyword.Int (1 ∷ [])) t.no_specs); declarator = (t.Function (t.Identifier (codes "main") (1 ∷ [])) (t.more_params (t.Param (t.more_specs (t.Key keyword.Void (1 ∷ [])) t.no_specs) t.Missing []) t.no_params) false (1 ∷ 1 ∷ [])); body = t.Block (t.more_items (t.Declared (record { specs = (t.more_specs (t.Record false (Some (codes "s")) t.no_members (1 ∷ 1 ∷ [])) t.no_specs); list = record { declarator = (t.Pointer [] (t.Identifier (codes "p") (1 ∷ [])) (1 ∷ [])); init = (Some (t.Single (t.Number 0 ty0.Int (1 ∷ [])))); lines = [] } ∷ []; lines = (1 ∷ []) })) (t.more_items (t.Statement (t.Return (t.some_expr (t.Arrow (t.Name (codes "p") (1 ∷ [])) (codes "a") (1 ∷ 1 ∷ []))) (1 ∷ 1 ∷ []))) t.no_items)) (1 ∷ 1 ∷ []); lines = [] })) ∷ []; lines = [] }) rule.K8 1
unfolding layouts_of same_basic holds_const linkage_of clashes with_declaration with_content with_head unit_of landing puts_of constant_of is_null_constant pairing is_assignable check_gives check_chain check_here check_becomes check_look breaks node_rules rule_at same_key specs_type unary_of binary_of assignment_of
arrow_of_incomplete = refl

-- `struct s { int a; } x[2]; int main(void) { return x->a; }`
arrow_of_array : is_fine (record { parts = (t.Declaration (record { specs = (t.more_specs (t.Record false (Some (codes "s")) (t.some_members (t.more_member_decls (t.MemberDecl (t.more_specs (t.Key keyword.Int (1 ∷ [])) t.no_specs) (t.more_member_declarators (t.MemberDeclarator (t.Identifier (codes "a") (1 ∷ [])) t.no_expr (1 ∷ [])) t.no_member_declarators) (1 ∷ [])) t.no_member_decls)) (1 ∷ 1 ∷ 1 ∷ [])) t.no_specs); list = record { declarator = (t.Array (t.Identifier (codes "x") (1 ∷ [])) (t.Length [] (t.Number 2 ty0.Int (1 ∷ []))) (1 ∷ 1 ∷ [])); init = None; lines = [] } ∷ []; lines = (1 ∷ []) })) ∷ (t.Defined (record { specs = (t.more_specs (t.Key keyword.Int (1 ∷ [])) t.no_specs); declarator = (t.Function (t.Identifier (codes "main") (1 ∷ [])) (t.more_params (t.Param (t.more_specs (t.Key keyword.Void (1 ∷ [])) t.no_specs) t.Missing []) t.no_params) false (1 ∷ 1 ∷ [])); body = t.Block (t.more_items (t.Statement (t.Return (t.some_expr (t.Arrow (t.Name (codes "x") (1 ∷ [])) (codes "a") (1 ∷ 1 ∷ []))) (1 ∷ 1 ∷ []))) t.no_items) (1 ∷ 1 ∷ []); lines = [] })) ∷ []; lines = [] })
unfolding layouts_of same_basic holds_const linkage_of clashes with_declaration with_content with_head unit_of landing puts_of constant_of is_null_constant pairing is_assignable check_gives check_chain check_here check_becomes check_look breaks node_rules rule_at same_key specs_type unary_of binary_of assignment_of
arrow_of_array = refl

-- `struct s { int a[2]; } f(void); int main(void) { return sizeof f().a; }`
array_of_value_unused : is_refused (record { parts = (t.Declaration (record { specs = (t.more_specs (t.Record false (Some (codes "s")) (t.some_members (t.more_member_decls (t.MemberDecl (t.more_specs (t.Key keyword.Int (1 ∷ [])) t.no_specs) (t.more_member_declarators (t.MemberDeclarator (t.Array (t.Identifier (codes "a") (1 ∷ [])) (t.Length [] (t.Number 2 ty0.Int (1 ∷ []))) (1 ∷ 1 ∷ [])) t.no_expr (1 ∷ [])) t.no_member_declarators) (1 ∷ [])) t.no_member_decls)) (1 ∷ 1 ∷ 1 ∷ [])) t.no_specs); list = record { declarator = (t.Function (t.Identifier (codes "f") (1 ∷ [])) (t.more_params (t.Param (t.more_specs (t.Key keyword.Void (1 ∷ [])) t.no_specs) t.Missing []) t.no_params) false (1 ∷ 1 ∷ [])); init = None; lines = [] } ∷ []; lines = (1 ∷ []) })) ∷ (t.Defined (record { specs = (t.more_specs (t.Key keyword.Int (1 ∷ [])) t.no_specs); declarator = (t.Function (t.Identifier (codes "main") (1 ∷ [])) (t.more_params (t.Param (t.more_specs (t.Key keyword.Void (1 ∷ [])) t.no_specs) t.Missing []) t.no_params) false (1 ∷ 1 ∷ [])); body = t.Block (t.more_items (t.Statement (t.Return (t.some_expr (t.SizeofExpr (t.Dot (t.Call (t.Name (codes "f") (1 ∷ [])) t.no_exprs (1 ∷ 1 ∷ [])) (codes "a") (1 ∷ 1 ∷ [])) (1 ∷ []))) (1 ∷ 1 ∷ []))) t.no_items) (1 ∷ 1 ∷ []); lines = [] })) ∷ []; lines = [] }) rule.O11 1
unfolding layouts_of same_basic holds_const linkage_of clashes with_declaration with_content with_head unit_of landing puts_of constant_of is_null_constant pairing is_assignable check_gives check_chain check_here check_becomes check_look breaks node_rules rule_at same_key specs_type unary_of binary_of assignment_of
array_of_value_unused = refl

-- `struct s { struct { int a[2]; } t; } f(void); int main(void) { return f().t.a[0]; }`
array_of_value_deep : is_refused (record { parts = (t.Declaration (record { specs = (t.more_specs (t.Record false (Some (codes "s")) (t.some_members (t.more_member_decls (t.MemberDecl (t.more_specs (t.Record false None (t.some_members (t.more_member_decls (t.MemberDecl (t.more_specs (t.Key keyword.Int (1 ∷ [])) t.no_specs) (t.more_member_declarators (t.MemberDeclarator (t.Array (t.Identifier (codes "a") (1 ∷ [])) (t.Length [] (t.Number 2 ty0.Int (1 ∷ []))) (1 ∷ 1 ∷ [])) t.no_expr (1 ∷ [])) t.no_member_declarators) (1 ∷ [])) t.no_member_decls)) (1 ∷ 1 ∷ 1 ∷ [])) t.no_specs) (t.more_member_declarators (t.MemberDeclarator (t.Identifier (codes "t") (1 ∷ [])) t.no_expr (1 ∷ [])) t.no_member_declarators) (1 ∷ [])) t.no_member_decls)) (1 ∷ 1 ∷ 1 ∷ [])) t.no_specs); list = record { declarator = (t.Function (t.Identifier (codes "f") (1 ∷ [])) (t.more_params (t.Param (t.more_specs (t.Key keyword.Void (1 ∷ [])) t.no_specs) t.Missing []) t.no_params) false (1 ∷ 1 ∷ [])); init = None; lines = [] } ∷ []; lines = (1 ∷ []) })) ∷ (t.Defined (record { specs = (t.more_specs (t.Key keyword.Int (1 ∷ [])) t.no_specs); declarator = (t.Function (t.Identifier (codes "main") (1 ∷ [])) (t.more_params (t.Param (t.more_specs (t.Key keyword.Void (1 ∷ [])) t.no_specs) t.Missing []) t.no_params) false (1 ∷ 1 ∷ [])); body = t.Block (t.more_items (t.Statement (t.Return (t.some_expr (t.Index (t.Dot (t.Dot (t.Call (t.Name (codes "f") (1 ∷ [])) t.no_exprs (1 ∷ 1 ∷ [])) (codes "t") (1 ∷ 1 ∷ [])) (codes "a") (1 ∷ 1 ∷ [])) (t.Number 0 ty0.Int (1 ∷ [])) (1 ∷ 1 ∷ []))) (1 ∷ 1 ∷ []))) t.no_items) (1 ∷ 1 ∷ []); lines = [] })) ∷ []; lines = [] }) rule.O11 1
unfolding layouts_of same_basic holds_const linkage_of clashes with_declaration with_content with_head unit_of landing puts_of constant_of is_null_constant pairing is_assignable check_gives check_chain check_here check_becomes check_look breaks node_rules rule_at same_key specs_type unary_of binary_of assignment_of
array_of_value_deep = refl

-- `int main(void) { return (int)&x; }`
k_before_o_at_child : is_refused (record { parts = (t.Defined (record { specs = (t.more_specs (t.Key keyword.Int (1 ∷ [])) t.no_specs); declarator = (t.Function (t.Identifier (codes "main") (1 ∷ [])) (t.more_params (t.Param (t.more_specs (t.Key keyword.Void (1 ∷ [])) t.no_specs) t.Missing []) t.no_params) false (1 ∷ 1 ∷ [])); body = t.Block (t.more_items (t.Statement (t.Return (t.some_expr (t.Cast (t.TypeName (t.more_specs (t.Key keyword.Int (1 ∷ [])) t.no_specs) t.Missing []) (t.Unary punct.Ampersand (t.Name (codes "x") (1 ∷ [])) (1 ∷ [])) (1 ∷ 1 ∷ []))) (1 ∷ 1 ∷ []))) t.no_items) (1 ∷ 1 ∷ []); lines = [] })) ∷ []; lines = [] }) rule.K1 1
unfolding layouts_of same_basic holds_const linkage_of clashes with_declaration with_content with_head unit_of landing puts_of constant_of is_null_constant pairing is_assignable check_gives check_chain check_here check_becomes check_look breaks node_rules rule_at same_key specs_type unary_of binary_of assignment_of
k_before_o_at_child = refl

-- `int n; char a[n][-1];`
o_before_k_at_node : is_refused (record { parts = (t.Declaration (record { specs = (t.more_specs (t.Key keyword.Int (1 ∷ [])) t.no_specs); list = record { declarator = (t.Identifier (codes "n") (1 ∷ [])); init = None; lines = [] } ∷ []; lines = (1 ∷ []) })) ∷ (t.Declaration (record { specs = (t.more_specs (t.Key keyword.Char (1 ∷ [])) t.no_specs); list = record { declarator = (t.Array (t.Array (t.Identifier (codes "a") (1 ∷ [])) (t.Length [] (t.Name (codes "n") (1 ∷ []))) (1 ∷ 1 ∷ [])) (t.Length [] (t.Unary punct.Minus (t.Number 1 ty0.Int (1 ∷ [])) (1 ∷ []))) (1 ∷ 1 ∷ [])); init = None; lines = [] } ∷ []; lines = (1 ∷ []) })) ∷ []; lines = [] }) rule.O3 1
unfolding layouts_of same_basic holds_const linkage_of clashes with_declaration with_content with_head unit_of landing puts_of constant_of is_null_constant pairing is_assignable check_gives check_chain check_here check_becomes check_look breaks node_rules rule_at same_key specs_type unary_of binary_of assignment_of
o_before_k_at_node = refl

-- `struct s; struct s f(); int main(void) { f(1); return 0; }`: a list is lacking (O4), and the result is incomplete (K9, 6.5.2.2p1)
o_before_k_at_call : is_refused (record { parts = (t.Declaration (record { specs = (t.more_specs (t.Record false (Some (codes "s")) t.no_members (1 ∷ 1 ∷ [])) t.no_specs); list = []; lines = (1 ∷ []) })) ∷ (t.Declaration (record { specs = (t.more_specs (t.Record false (Some (codes "s")) t.no_members (1 ∷ 1 ∷ [])) t.no_specs); list = record { declarator = (t.Identifiers (t.Identifier (codes "f") (1 ∷ [])) [] (1 ∷ 1 ∷ [])); init = None; lines = [] } ∷ []; lines = (1 ∷ []) })) ∷ (t.Defined (record { specs = (t.more_specs (t.Key keyword.Int (1 ∷ [])) t.no_specs); declarator = (t.Function (t.Identifier (codes "main") (1 ∷ [])) (t.more_params (t.Param (t.more_specs (t.Key keyword.Void (1 ∷ [])) t.no_specs) t.Missing []) t.no_params) false (1 ∷ 1 ∷ [])); body = t.Block (t.more_items (t.Statement (t.ExprStmt (t.some_expr (t.Call (t.Name (codes "f") (1 ∷ [])) (t.more_exprs (t.Number 1 ty0.Int (1 ∷ [])) t.no_exprs) (1 ∷ 1 ∷ []))) (1 ∷ []))) (t.more_items (t.Statement (t.Return (t.some_expr (t.Number 0 ty0.Int (1 ∷ []))) (1 ∷ 1 ∷ []))) t.no_items)) (1 ∷ 1 ∷ []); lines = [] })) ∷ []; lines = [] }) rule.O4 1
unfolding layouts_of same_basic holds_const linkage_of clashes with_declaration with_content with_head unit_of landing puts_of constant_of is_null_constant pairing is_assignable check_gives check_chain check_here check_becomes check_look breaks node_rules rule_at same_key specs_type unary_of binary_of assignment_of
o_before_k_at_call = refl

-- `int main(void) { return x + *1; }`
left_before_right : is_refused (record { parts = (t.Defined (record { specs = (t.more_specs (t.Key keyword.Int (1 ∷ [])) t.no_specs); declarator = (t.Function (t.Identifier (codes "main") (1 ∷ [])) (t.more_params (t.Param (t.more_specs (t.Key keyword.Void (1 ∷ [])) t.no_specs) t.Missing []) t.no_params) false (1 ∷ 1 ∷ [])); body = t.Block (t.more_items (t.Statement (t.Return (t.some_expr (t.Binary (t.Name (codes "x") (2 ∷ [])) punct.Plus (t.Unary punct.Star (t.Number 1 ty0.Int (3 ∷ [])) (3 ∷ [])) (2 ∷ []))) (1 ∷ 1 ∷ []))) t.no_items) (1 ∷ 1 ∷ []); lines = [] })) ∷ []; lines = [] }) rule.K1 2
unfolding layouts_of same_basic holds_const linkage_of clashes with_declaration with_content with_head unit_of landing puts_of constant_of is_null_constant pairing is_assignable check_gives check_chain check_here check_becomes check_look breaks node_rules rule_at same_key specs_type unary_of binary_of assignment_of
left_before_right = refl

-- `int main(void) { int *p; return (p * 2).x; }`
child_before_parent : is_refused (record { parts = (t.Defined (record { specs = (t.more_specs (t.Key keyword.Int (1 ∷ [])) t.no_specs); declarator = (t.Function (t.Identifier (codes "main") (1 ∷ [])) (t.more_params (t.Param (t.more_specs (t.Key keyword.Void (1 ∷ [])) t.no_specs) t.Missing []) t.no_params) false (1 ∷ 1 ∷ [])); body = t.Block (t.more_items (t.Declared (record { specs = (t.more_specs (t.Key keyword.Int (1 ∷ [])) t.no_specs); list = record { declarator = (t.Pointer [] (t.Identifier (codes "p") (1 ∷ [])) (1 ∷ [])); init = None; lines = [] } ∷ []; lines = (1 ∷ []) })) (t.more_items (t.Statement (t.Return (t.some_expr (t.Dot (t.Binary (t.Name (codes "p") (1 ∷ [])) punct.Star (t.Number 2 ty0.Int (1 ∷ [])) (1 ∷ [])) (codes "x") (1 ∷ 1 ∷ []))) (1 ∷ 1 ∷ []))) t.no_items)) (1 ∷ 1 ∷ []); lines = [] })) ∷ []; lines = [] }) rule.K10 1
unfolding layouts_of same_basic holds_const linkage_of clashes with_declaration with_content with_head unit_of landing puts_of constant_of is_null_constant pairing is_assignable check_gives check_chain check_here check_becomes check_look breaks node_rules rule_at same_key specs_type unary_of binary_of assignment_of
child_before_parent = refl

-- What isn't evaluated must still be constant

-- `int x; enum e { A = 0 && x };`
unevaluated_object : is_refused (record { parts = (t.Declaration (record { specs = (t.more_specs (t.Key keyword.Int (1 ∷ [])) t.no_specs); list = record { declarator = (t.Identifier (codes "x") (1 ∷ [])); init = None; lines = [] } ∷ []; lines = (1 ∷ []) })) ∷ (t.Declaration (record { specs = (t.more_specs (t.Enum (Some (codes "e")) (t.some_enumerator_list (t.more_enumerators (t.Enumerator (codes "A") (t.some_expr (t.Binary (t.Number 0 ty0.Int (1 ∷ [])) punct.AndAnd (t.Name (codes "x") (1 ∷ [])) (1 ∷ []))) (1 ∷ [])) t.no_enumerators)) false (1 ∷ 1 ∷ 1 ∷ [])) t.no_specs); list = []; lines = (1 ∷ []) })) ∷ []; lines = [] }) rule.K17 1
unfolding layouts_of same_basic holds_const linkage_of clashes with_declaration with_content with_head unit_of landing puts_of constant_of is_null_constant pairing is_assignable check_gives check_chain check_here check_becomes check_look breaks node_rules rule_at same_key specs_type unary_of binary_of assignment_of
unevaluated_object = refl

-- `int x; enum e { A = 0 && (long)x };`
unevaluated_cast : is_refused (record { parts = (t.Declaration (record { specs = (t.more_specs (t.Key keyword.Int (1 ∷ [])) t.no_specs); list = record { declarator = (t.Identifier (codes "x") (1 ∷ [])); init = None; lines = [] } ∷ []; lines = (1 ∷ []) })) ∷ (t.Declaration (record { specs = (t.more_specs (t.Enum (Some (codes "e")) (t.some_enumerator_list (t.more_enumerators (t.Enumerator (codes "A") (t.some_expr (t.Binary (t.Number 0 ty0.Int (1 ∷ [])) punct.AndAnd (t.Cast (t.TypeName (t.more_specs (t.Key keyword.Long (1 ∷ [])) t.no_specs) t.Missing []) (t.Name (codes "x") (1 ∷ [])) (1 ∷ 1 ∷ [])) (1 ∷ []))) (1 ∷ [])) t.no_enumerators)) false (1 ∷ 1 ∷ 1 ∷ [])) t.no_specs); list = []; lines = (1 ∷ []) })) ∷ []; lines = [] }) rule.K17 1
unfolding layouts_of same_basic holds_const linkage_of clashes with_declaration with_content with_head unit_of landing puts_of constant_of is_null_constant pairing is_assignable check_gives check_chain check_here check_becomes check_look breaks node_rules rule_at same_key specs_type unary_of binary_of assignment_of
unevaluated_cast = refl

-- `int f(void); enum e { A = 1 || f() };`
unevaluated_call : is_refused (record { parts = (t.Declaration (record { specs = (t.more_specs (t.Key keyword.Int (1 ∷ [])) t.no_specs); list = record { declarator = (t.Function (t.Identifier (codes "f") (1 ∷ [])) (t.more_params (t.Param (t.more_specs (t.Key keyword.Void (1 ∷ [])) t.no_specs) t.Missing []) t.no_params) false (1 ∷ 1 ∷ [])); init = None; lines = [] } ∷ []; lines = (1 ∷ []) })) ∷ (t.Declaration (record { specs = (t.more_specs (t.Enum (Some (codes "e")) (t.some_enumerator_list (t.more_enumerators (t.Enumerator (codes "A") (t.some_expr (t.Binary (t.Number 1 ty0.Int (1 ∷ [])) punct.BarBar (t.Call (t.Name (codes "f") (1 ∷ [])) t.no_exprs (1 ∷ 1 ∷ [])) (1 ∷ []))) (1 ∷ [])) t.no_enumerators)) false (1 ∷ 1 ∷ 1 ∷ [])) t.no_specs); list = []; lines = (1 ∷ []) })) ∷ []; lines = [] }) rule.K17 1
unfolding layouts_of same_basic holds_const linkage_of clashes with_declaration with_content with_head unit_of landing puts_of constant_of is_null_constant pairing is_assignable check_gives check_chain check_here check_becomes check_look breaks node_rules rule_at same_key specs_type unary_of binary_of assignment_of
unevaluated_call = refl

-- `int x; enum e { A = 1 ? 2 : (short)x };`
unevaluated_choice : is_refused (record { parts = (t.Declaration (record { specs = (t.more_specs (t.Key keyword.Int (1 ∷ [])) t.no_specs); list = record { declarator = (t.Identifier (codes "x") (1 ∷ [])); init = None; lines = [] } ∷ []; lines = (1 ∷ []) })) ∷ (t.Declaration (record { specs = (t.more_specs (t.Enum (Some (codes "e")) (t.some_enumerator_list (t.more_enumerators (t.Enumerator (codes "A") (t.some_expr (t.Cond (t.Number 1 ty0.Int (1 ∷ [])) (t.Number 2 ty0.Int (1 ∷ [])) (t.Cast (t.TypeName (t.more_specs (t.Key keyword.Short (1 ∷ [])) t.no_specs) t.Missing []) (t.Name (codes "x") (1 ∷ [])) (1 ∷ 1 ∷ [])) (1 ∷ 1 ∷ []))) (1 ∷ [])) t.no_enumerators)) false (1 ∷ 1 ∷ 1 ∷ [])) t.no_specs); list = []; lines = (1 ∷ []) })) ∷ []; lines = [] }) rule.K17 1
unfolding layouts_of same_basic holds_const linkage_of clashes with_declaration with_content with_head unit_of landing puts_of constant_of is_null_constant pairing is_assignable check_gives check_chain check_here check_becomes check_look breaks node_rules rule_at same_key specs_type unary_of binary_of assignment_of
unevaluated_choice = refl

-- `int f(int (*p)[3], int (*q)[]) { return p < q; }`
pointers_to_one_incomplete_type : is_refused (record { parts = (t.Defined (record { specs = (t.more_specs (t.Key keyword.Int (1 ∷ [])) t.no_specs); declarator = (t.Function (t.Identifier (codes "f") (1 ∷ [])) (t.more_params (t.Param (t.more_specs (t.Key keyword.Int (1 ∷ [])) t.no_specs) (t.Array (t.Group (t.Pointer [] (t.Identifier (codes "p") (1 ∷ [])) (1 ∷ [])) (1 ∷ 1 ∷ [])) (t.Length [] (t.Number 3 ty0.Int (1 ∷ []))) (1 ∷ 1 ∷ [])) []) (t.more_params (t.Param (t.more_specs (t.Key keyword.Int (1 ∷ [])) t.no_specs) (t.Array (t.Group (t.Pointer [] (t.Identifier (codes "q") (1 ∷ [])) (1 ∷ [])) (1 ∷ 1 ∷ [])) (t.Unsized []) (1 ∷ 1 ∷ [])) []) t.no_params)) false (1 ∷ 1 ∷ [])); body = t.Block (t.more_items (t.Statement (t.Return (t.some_expr (t.Binary (t.Name (codes "p") (1 ∷ [])) punct.Less (t.Name (codes "q") (1 ∷ [])) (1 ∷ []))) (1 ∷ 1 ∷ []))) t.no_items) (1 ∷ 1 ∷ []); lines = [] })) ∷ []; lines = [] }) rule.K10 1
unfolding layouts_of same_basic holds_const linkage_of clashes with_declaration with_content with_head unit_of landing puts_of constant_of is_null_constant pairing is_assignable check_gives check_chain check_here check_becomes check_look breaks node_rules rule_at same_key specs_type unary_of binary_of assignment_of
pointers_to_one_incomplete_type = refl

-- `int f(int (*p)[3], int (*q)[3]) { return p < q; }`
pointers_to_complete_types : is_fine (record { parts = (t.Defined (record { specs = (t.more_specs (t.Key keyword.Int (1 ∷ [])) t.no_specs); declarator = (t.Function (t.Identifier (codes "f") (1 ∷ [])) (t.more_params (t.Param (t.more_specs (t.Key keyword.Int (1 ∷ [])) t.no_specs) (t.Array (t.Group (t.Pointer [] (t.Identifier (codes "p") (1 ∷ [])) (1 ∷ [])) (1 ∷ 1 ∷ [])) (t.Length [] (t.Number 3 ty0.Int (1 ∷ []))) (1 ∷ 1 ∷ [])) []) (t.more_params (t.Param (t.more_specs (t.Key keyword.Int (1 ∷ [])) t.no_specs) (t.Array (t.Group (t.Pointer [] (t.Identifier (codes "q") (1 ∷ [])) (1 ∷ [])) (1 ∷ 1 ∷ [])) (t.Length [] (t.Number 3 ty0.Int (1 ∷ []))) (1 ∷ 1 ∷ [])) []) t.no_params)) false (1 ∷ 1 ∷ [])); body = t.Block (t.more_items (t.Statement (t.Return (t.some_expr (t.Binary (t.Name (codes "p") (1 ∷ [])) punct.Less (t.Name (codes "q") (1 ∷ [])) (1 ∷ []))) (1 ∷ 1 ∷ []))) t.no_items) (1 ∷ 1 ∷ []); lines = [] })) ∷ []; lines = [] })
unfolding layouts_of same_basic holds_const linkage_of clashes with_declaration with_content with_head unit_of landing puts_of constant_of is_null_constant pairing is_assignable check_gives check_chain check_here check_becomes check_look breaks node_rules rule_at same_key specs_type unary_of binary_of assignment_of
pointers_to_complete_types = refl

-- `int f(int (*p)[], int (*q)[]) { return p < q; }`
pointers_to_incomplete_types : is_fine (record { parts = (t.Defined (record { specs = (t.more_specs (t.Key keyword.Int (1 ∷ [])) t.no_specs); declarator = (t.Function (t.Identifier (codes "f") (1 ∷ [])) (t.more_params (t.Param (t.more_specs (t.Key keyword.Int (1 ∷ [])) t.no_specs) (t.Array (t.Group (t.Pointer [] (t.Identifier (codes "p") (1 ∷ [])) (1 ∷ [])) (1 ∷ 1 ∷ [])) (t.Unsized []) (1 ∷ 1 ∷ [])) []) (t.more_params (t.Param (t.more_specs (t.Key keyword.Int (1 ∷ [])) t.no_specs) (t.Array (t.Group (t.Pointer [] (t.Identifier (codes "q") (1 ∷ [])) (1 ∷ [])) (1 ∷ 1 ∷ [])) (t.Unsized []) (1 ∷ 1 ∷ [])) []) t.no_params)) false (1 ∷ 1 ∷ [])); body = t.Block (t.more_items (t.Statement (t.Return (t.some_expr (t.Binary (t.Name (codes "p") (1 ∷ [])) punct.Less (t.Name (codes "q") (1 ∷ [])) (1 ∷ []))) (1 ∷ 1 ∷ []))) t.no_items) (1 ∷ 1 ∷ []); lines = [] })) ∷ []; lines = [] })
unfolding layouts_of same_basic holds_const linkage_of clashes with_declaration with_content with_head unit_of landing puts_of constant_of is_null_constant pairing is_assignable check_gives check_chain check_here check_becomes check_look breaks node_rules rule_at same_key specs_type unary_of binary_of assignment_of
pointers_to_incomplete_types = refl
