-- Worked example: the bytes of a program that breaks no rule, so the laws aren't empty (ISO C99, 5.1.2.2.1).
use Rattle.std.proofs.Common.{◌≡◌, ℕ, List, [], ◌∷◌, None, Some, All, codes, false, refl, lit≤}
use Rattle.std.proofs.lemmas.List.Elements.{All-nil, All-cons}
use Rattle.cx_core.specs.Conversions.{same_basic}
use Rattle.cx_core.specs.Layouts.{layouts_of}
use Rattle.cx_core.specs.Linked.{IsLinked}
use Rattle.cx_core.specs.Trees.{CUnit}
use Rattle.cx_core.specs.ValidTypes.{holds_const}
use Rattle.cx_lex.specs.Marks.{marks}
use Rattle.cx_lex.specs.Tokens.{piece_at, Spells, at_end, behind_space, behind_token}
use Rattle.cx_lex.specs.Words.{keywords, floating_words, gnu_words, builtin_prefix}
use Rattle.cx_lex.specs.declared.token.Keyword.TheVariants as keyword
use Rattle.cx_lex.specs.declared.token.Punct.TheVariants as punct
use Rattle.cx_lex.specs.declared.token.Token.{Token}
use Rattle.cx_lex.specs.declared.token.TokenKind.{TokenKind}
use Rattle.cx_lex.specs.declared.token.TokenKind.TheVariants as kind
use Rattle.cx_lex.specs.declared.token.Ty0.TheVariants as ty
use Rattle.cx_links.specs.Program.{linked}
use Rattle.cx_links.specs.Rules.{broken_links, first_in, rule_of}
use Rattle.cx_rules.specs.Declare.{linkage_of, clashes, with_declaration, with_content, with_head, unit_of}
use Rattle.cx_rules.specs.Initial.{landing, puts_of}
use Rattle.cx_rules.specs.Operands.{constant_of, is_null_constant}
use Rattle.cx_rules.specs.Pairs.{pairing, is_assignable}
use Rattle.cx_rules.specs.Pieces.{unary_of, binary_of, assignment_of}
use Rattle.cx_rules.specs.Readings.{seen_gives, seen_chain, seen_here, seen_becomes, seen_look, first_broken, check_gives, check_chain, check_here, check_becomes, check_look}
use Rattle.cx_rules.specs.Rules.{breaks, node_rules, rule_at}
use Rattle.cx_rules.specs.Shapes.{same_key, specs_type}
use Rattle.cx_rules.specs.Units.{broken_unit, seen_unit}
use Rattle.cx_sound.proofs.Sound.{unbroken_units_are_linked}
use Rattle.cx_sound.specs.Sound.{MeansUnit, BreakNothing}
use Rattle.cx_tree.specs.Derives.{Derives}
use Rattle.cx_tree.specs.Trees.{Number, SpecTrees, Key, no_specs, more_specs, some_expr, Missing, Identifier, Function, Param, no_params, more_params, Block, Return, Statement, no_items, more_items, Defined, UnitTree}
use Rattle.cx_tree.specs.Valid.{OneOrMore, AreValidSpecs}
use Rattle.cx_tree.specs.Words.{is_storage_class, is_type_word, is_qualifier, is_function_specifier, is_typedef_word}
use Rattle.cx_typed.specs.Constants.{IsByte}

abbrev text : List ℕ
text = codes "int main(void){return 42;}"

-- every token stands on line 1
abbrev one : List ℕ
one = 1 ∷ []

abbrev two : List ℕ
two = 1 ∷ one

abbrev on_one : TokenKind → Token
on_one of = record { kind = of; line = 1 }

abbrev tokens : List Token
tokens = on_one (kind.Key keyword.Int) ∷ on_one (kind.Word (codes "main")) ∷ on_one (kind.Mark punct.LeftParenthesis) ∷ on_one (kind.Key keyword.Void)
    ∷ on_one (kind.Mark punct.RightParenthesis) ∷ on_one (kind.Mark punct.LeftBrace) ∷ on_one (kind.Key keyword.Return)
    ∷ on_one (kind.Number 42 ty.Int) ∷ on_one (kind.Mark punct.Semicolon) ∷ on_one (kind.Mark punct.RightBrace) ∷ []

abbrev int : SpecTrees
int = more_specs (Key keyword.Int one) no_specs

abbrev void : SpecTrees
void = more_specs (Key keyword.Void one) no_specs

abbrev tree : UnitTree
tree = record {
  parts = Defined (record {
    specs = int;
    declarator = Function (Identifier (codes "main") one) (more_params (Param void Missing []) no_params) false two;
    body = Block (more_items (Statement (Return (some_expr (Number 42 ty.Int one)) two)) no_items) two;
    lines = [];
  }) ∷ [];
  lines = [];
}

abbrev AreSmall : List ℕ → Type 0
AreSmall [] = Unit {0}
AreSmall (byte ∷ others) = IsByte byte × AreSmall others

all_small : (bytes : List ℕ) → AreSmall bytes → All IsByte bytes
all_small [] small = All-nil IsByte
all_small (byte ∷ others) small = All-cons IsByte byte others small.0 (all_small others small.1)

are_bytes : All IsByte text
are_bytes = all_small text (lit≤ tt, (lit≤ tt, (lit≤ tt, (lit≤ tt, (lit≤ tt, (lit≤ tt, (lit≤ tt, (lit≤ tt, (lit≤ tt, (lit≤ tt, (lit≤ tt, (lit≤ tt, (lit≤ tt, (lit≤ tt, (lit≤ tt, (lit≤ tt, (lit≤ tt, (lit≤ tt, (lit≤ tt, (lit≤ tt, (lit≤ tt, (lit≤ tt, (lit≤ tt, (lit≤ tt, (lit≤ tt, (lit≤ tt, tt))))))))))))))))))))))))))

spelled : Spells text tokens
unfolding piece_at marks keywords floating_words gnu_words builtin_prefix
spelled =
    behind_token 3 _ refl (behind_space 1 refl (behind_token 4 _ refl (behind_token 1 _ refl (behind_token 4 _ refl (behind_token 1 _ refl (behind_token 1 _ refl
    (behind_token 6 _ refl (behind_space 1 refl (behind_token 2 _ refl (behind_token 1 _ refl (behind_token 1 _ refl at_end)))))))))))

abbrev int_valid : OneOrMore 1 (AreValidSpecs int)
unfolding is_storage_class is_type_word is_qualifier is_function_specifier
int_valid = record { present = lit≤ tt; each = (record { part = refl; own = refl }, tt) }

abbrev void_valid : OneOrMore 1 (AreValidSpecs void)
unfolding is_storage_class is_type_word is_qualifier is_function_specifier
void_valid = record { present = lit≤ tt; each = (record { part = refl; own = refl }, tt) }

derived : Derives tokens tree
unfolding is_storage_class is_type_word is_qualifier is_function_specifier is_typedef_word
derived = record {
  valid = record {
    part = record {
      present = lit≤ tt;
      each = (
        record {
          specs = int_valid;
          declarator = record {
            of = refl;
            direct = refl;
            behind = record { present = lit≤ tt; each = (record { specs = void_valid; declarator = tt; fits = tt; own = refl }, tt) };
            own = refl;
          };
          named = refl;
          body = record { part = (record { part = record { valid = refl; level = lit≤ tt }; own = refl }, tt); own = refl };
          block = refl;
          own = refl;
        },
        tt,
      );
    };
    own = refl;
  };
  depth = lit≤ tt;
  stands = (
    record { specs = (tt, tt); behind = tt; declarator = (tt, (record { specs = (tt, tt); behind = tt; declared = tt }, tt)); body = (tt, tt) },
    tt,
  );
  spelled = refl;
}

unbroken : broken_unit 0 tree ≡ None
unfolding seen_unit seen_gives seen_chain seen_here seen_becomes seen_look first_broken layouts_of same_basic holds_const linkage_of clashes with_declaration with_content with_head unit_of landing puts_of constant_of is_null_constant pairing is_assignable check_gives check_chain check_here check_becomes check_look breaks node_rules rule_at same_key specs_type unary_of binary_of assignment_of
unbroken = refl

abbrev meaning : CUnit
meaning = (seen_unit 0 tree).meaning

unbroken_together : broken_links (meaning ∷ []) ≡ None
unfolding broken_links linked first_in rule_of seen_unit seen_gives seen_chain seen_here seen_becomes seen_look first_broken layouts_of same_basic holds_const linkage_of clashes with_declaration with_content with_head unit_of landing puts_of constant_of is_null_constant pairing is_assignable check_gives check_chain check_here check_becomes check_look breaks node_rules rule_at same_key specs_type unary_of binary_of assignment_of
unbroken_together = refl

means : MeansUnit 0 text meaning
means = record { are_bytes = are_bytes; tokens = tokens; spelled = spelled; tree = tree; derived = derived; unbroken = unbroken; meaning = refl }

-- `int main(void){return 42;}` breaks no rule
pub breaks_nothing : BreakNothing (text ∷ []) (meaning ∷ [])
breaks_nothing = record { mean = (means, tt); unbroken = unbroken_together }

-- so its program is typed and linked
pub is_linked : IsLinked (linked (meaning ∷ []))
is_linked = unbroken_units_are_linked (text ∷ []) (meaning ∷ []) breaks_nothing
