-- The walk over names, string literals, `sizeof`, casts and calls (ISO C99, 6.4.5, 6.5.1 to 6.5.4).
use Rattle.std.proofs.Common.{◌≡◌, ℕ, ◌<◌, false, List, [], ◌∷◌, ◌++◌, length, Option, None, Some, refl, sym, ap, arith}
use Rattle.std.specs.Prelude.{IfSome}
use Rattle.cx_core.specs.declared.program.Linkage.TheVariants.{External, Internal, Nothing}
use Rattle.cx_core.specs.Trees.{unqualified, expr, object, type_of}
use Rattle.cx_core.specs.Typing.{CHome}
use Rattle.cx_rules.specs.Lines.{own_line}
use Rattle.cx_rules.specs.Initial.{joined_bytes, text_type}
use Rattle.cx_rules.specs.Meanings.{name_meaning, makes_null}
use Rattle.cx_rules.specs.Nodes.{name_node, literal_node}
use Rattle.cx_rules.specs.Operands.{COperand, value_of}
use Rattle.cx_rules.specs.Pieces.{at_line, used, made_text, with_text, text_meaning}
use Rattle.cx_rules.specs.Scope.{CMeant, an_object, a_function, a_type_name, an_enumerator, a_tag, CScope, ordinary, unevaluated}
use Rattle.cx_tree.specs.Trees.{ExprTree, Name, Text, SizeofExpr, SizeofType, Cast, ExprTrees, no_exprs, more_exprs, TypeNameTree}
use Rattle.cx_typed.proofs.Constants.{constants}
use Rattle.cx_typed.proofs.Goes.{go_gives, go_here_then, go_chain, go_settled, go_changed}
use Rattle.cx_typed.proofs.Operators.{operators}
use Rattle.cx_typed.proofs.Names.{names}
use Rattle.cx_typed.proofs.OfNumbers.{no_place_operand, cast_numbers}
use Rattle.cx_typed.proofs.Numbered.{numbers_by, one_number}
use Rattle.cx_typed.proofs.Scopes.{grows_not, grows_on, used_passes, name_served, kept_before, serve}
use Rattle.cx_typed.proofs.TextHeld.{EndsWithZero, joined_ended}
use Rattle.cx_typed.proofs.Texts.{text_made}
use Rattle.cx_typed.specs.Names.{IsKnownMeant, IsServed}
use Rattle.cx_typed.specs.Constants.{IsTypedConstant}
use Rattle.cx_typed.specs.Scopes.{Serves, Passes}
use Rattle.cx_typed.specs.Unbroken.{IsUnbroken}
use Rattle.cx_typed.proofs.Walked.{standing_of, makes_nothing, none_are, one_more, just_one, exprs_behind, node_is, constant_is, known_on, type_on}
use Rattle.cx_typed.specs.Walked.{IsGood, IsExpr, AreExprs, IsTypeName, ExprGoes, ArgsGo, TypeNameGoes}

-- ---- names (6.5.1)

used_good : (opens : List ℕ) (scope : CScope) (line : ℕ) (name : List ℕ) (found : Option CMeant) → IsGood opens scope → IsGood opens (used line name found scope)
used_good opens scope line name (Some (an_object number type is_register External)) good = record { sound = good.sound; known = good.known; tags = good.tags }
used_good opens scope line name (Some (an_object number type is_register Internal)) good = good
used_good opens scope line name (Some (an_object number type is_register Nothing)) good = good
used_good opens scope line name (Some (a_function number type linkage)) good = record { sound = good.sound; known = good.known; tags = good.tags }
used_good opens scope line name (Some (a_type_name type)) good = good
used_good opens scope line name (Some (an_enumerator value)) good = good
used_good opens scope line name (Some (a_tag is_record is_open number)) good = good
used_good opens scope line name None good = good

pub used_literals : (scope : CScope) (line : ℕ) (name : List ℕ) (found : Option CMeant) → (used line name found scope).literals ≡ scope.literals
used_literals scope line name (Some (an_object number type is_register External)) = refl
used_literals scope line name (Some (an_object number type is_register Internal)) = refl
used_literals scope line name (Some (an_object number type is_register Nothing)) = refl
used_literals scope line name (Some (a_function number type linkage)) = refl
used_literals scope line name (Some (a_type_name type)) = refl
used_literals scope line name (Some (an_enumerator value)) = refl
used_literals scope line name (Some (a_tag is_record is_open number)) = refl
used_literals scope line name None = refl

module _ (opens : List ℕ) (scope : CScope) (good : IsGood opens scope) where
  module _ (name : List ℕ) (line : ℕ) where
    known_by : (found : Option CMeant) → ordinary name scope.declared ≡ found → IfSome found (IsKnownMeant opens scope.types scope.unit)
    known_by None is = tt
    known_by (Some meant) is = good.known name meant is

    served_by : (home : CHome) (found : Option CMeant) → ordinary name scope.declared ≡ found → Serves home opens scope (used line name found scope) → IfSome found (IsServed home)
    served_by home None is serves = tt
    served_by home (Some meant) is serves = name_served opens home scope line name meant is serves

    name_is : (lines : List ℕ) (found : Option CMeant) → ordinary name scope.declared ≡ found → IsUnbroken scope scope.types (name_node found)
        → IsExpr opens (Name name lines) scope (name_meaning (at_line scope line) found) (used line name found scope)
    name_is lines found is unbroken =
        let made = (names (standing_of opens scope line)).name found unbroken (known_by found is) in
        let passes = used_passes opens scope line name found in
        record {
          good = used_good opens scope line name found good;
          passes = passes;
          known = known_on opens scope (used line name found scope) (name_meaning (at_line scope line) found) passes made.known;
          typed = λ home serves.
              made.typed home serves.unit_is (grows_on opens scope.types (used line name found scope).types home.program.types passes.grows serves.grows) (served_by home found is serves);
          named = λ other. record {
            name = name;
            line = line;
            operand_is = ap (name_meaning (at_line scope line)) (sym is);
            after_is = ap (λ meant. used line name meant scope) (sym is);
          };
          made = makes_nothing opens scope (used line name found scope) (used_literals scope line name found);
          makes_none = λ other. used_literals scope line name found;
        }

  -- ---- string literals (6.4.5)

  text_is : (parts : List (List ℕ)) (lines : List ℕ) (bytes : List ℕ) → 0 < length bytes → EndsWithZero bytes → IsUnbroken scope scope.types (literal_node (text_type bytes))
      → IsExpr opens (Text parts lines) scope (text_meaning scope (own_line lines) bytes) (with_text (own_line lines) bytes scope)
  text_is parts lines bytes some ended unbroken =
      let made = (names (standing_of opens scope (own_line lines))).text scope (own_line lines) bytes unbroken some in
      record {
        good = record { sound = good.sound; known = good.known; tags = good.tags };
        passes = record {
          unit_is = refl;
          grows = grows_not opens scope.types;
          declared = λ name meant thing is. is;
          mentions = λ number x is. is;
          literals = λ number x is. kept_before scope.literals _ number x is;
          front = [];
          declared_is = refl;
          begins_is = refl;
          rest_is = refl;
          numbers = one_number scope (made_text scope (own_line lines) bytes) refl;
        };
        known = made.known;
        typed = λ home serves. made.typed home serves.unit_is serves.grows ((serve opens).text home scope (own_line lines) bytes serves);
        named = λ is. absurd cc;
        made = text_made opens scope (own_line lines) bytes good.sound some ended unbroken;
        makes_none = λ is. absurd (no_place_operand false (expr (text_type bytes) (at_line scope (own_line lines)) (object scope.next_object)) is);
      }

pub joined_some : (parts : List (List ℕ)) → 0 < length (joined_bytes parts)
joined_some [] = omega arith
joined_some (part ∷ parts) = some_behind part (joined_bytes parts) (joined_some parts)
  where
    some_behind : (front behind : List ℕ) → 0 < length behind → 0 < length (front ++ behind)
    some_behind [] behind some = some
    some_behind (first ∷ front) behind some = omega arith

pub name_goes : (name lines : List ℕ) → ExprGoes (Name name lines)
name_goes name lines opens scope good =
    go_here_then _ _ scope _ (go_changed _ scope (own_line lines) _ _ _ scope _ (name_is opens scope good name (own_line lines) lines (ordinary name scope.declared) refl))

pub text_goes : (parts : List (List ℕ)) (lines : List ℕ) → ExprGoes (Text parts lines)
text_goes parts lines opens scope good =
    go_here_then _ _ scope _ (go_changed _ scope (own_line lines) _ _ _ scope _ (text_is opens scope good parts lines (joined_bytes parts) (joined_some parts) (joined_ended parts)))

-- ---- `sizeof` and casts (6.5.3.4, 6.5.4)

pub sizeof_goes : (on : ExprTree) (lines : List ℕ) → ExprGoes on → ExprGoes (SizeofExpr on lines)
sizeof_goes on lines first opens scope good =
    go_here_then _ _ scope _ (go_chain _ _ _ _ scope (IsExpr opens on scope) _ (first opens scope good) (λ one after held.
    go_here_then _ _ after _ (go_changed _ after (own_line lines) _ _ _ after _ (λ unbroken. sized after held.good held.passes ((constants (standing_of opens after (own_line lines))).size (type_of one.core))))))
  where
    sized : (after : CScope) {meaning : COperand} → IsGood opens after → Passes opens scope after → IsTypedConstant (standing_of opens after (own_line lines)) meaning
        → IsExpr opens (SizeofExpr on lines) scope meaning (unevaluated scope after)
    sized after fine passes made = record {
      good = record { sound = fine.sound; known = fine.known; tags = fine.tags };
      passes = record {
        unit_is = passes.unit_is;
        grows = passes.grows;
        declared = passes.declared;
        mentions = λ number x is. is;
        literals = λ number x is. is;
        front = passes.front;
        declared_is = passes.declared_is;
        begins_is = passes.begins_is;
        rest_is = passes.rest_is;
        numbers = numbers_by scope (unevaluated scope after) passes.numbers.grows refl;
      };
      known = made.known;
      typed = λ home serves. made.typed home;
      named = λ is. absurd cc;
      made = makes_nothing opens scope (unevaluated scope after) refl;
      makes_none = λ is. refl;
    }

pub sizeof_type_goes : (of : TypeNameTree) (lines : List ℕ) → TypeNameGoes of → ExprGoes (SizeofType of lines)
sizeof_type_goes of lines first opens scope good =
    go_chain _ _ _ _ scope (IsTypeName opens scope) _ (first opens scope good) (λ type after held.
    go_here_then _ _ after _ (go_settled _ after (own_line lines) _ _ after _ (λ unbroken.
    constant_is opens (SizeofType of lines) scope after (own_line lines) _ (λ is. absurd cc) held.good held.passes held.makes_none ((constants (standing_of opens after (own_line lines))).size type))))

pub cast_goes : (to : TypeNameTree) (on : ExprTree) (lines : List ℕ) → TypeNameGoes to → ExprGoes on → ExprGoes (Cast to on lines)
cast_goes to on lines first second opens scope good =
    go_chain _ _ _ _ scope (IsTypeName opens scope) _ (first opens scope good) (λ type middle held.
    go_chain _ _ _ _ middle (IsExpr opens on middle) _ (second opens middle held.good) (λ one after behind.
    go_here_then _ _ after _ (go_settled _ after (own_line lines) _ _ after _ (λ unbroken.
    node_is opens (Cast to on lines) scope after (own_line lines) _ (one ∷ []) _ (λ is. absurd cc) (λ is. (cast_numbers (makes_null after.types type (value_of one)) (unqualified type) (at_line after (own_line lines)) (value_of one) is, tt))
    (exprs_behind opens scope middle after (one ∷ []) held.passes held.makes_none (just_one opens on middle after one behind))
    ((operators (standing_of opens after (own_line lines))).cast type (type_on opens middle after type behind.passes held.known) one) unbroken))))

-- ---- arguments

pub no_args_go : ArgsGo no_exprs
no_args_go opens scope good = go_gives [] scope _ (none_are opens scope good)

pub more_args_go : (first : ExprTree) (others : ExprTrees) → ExprGoes first → ArgsGo others → ArgsGo (more_exprs first others)
more_args_go first others one more opens scope good =
    go_chain _ _ _ _ scope (IsExpr opens first scope) _ (one opens scope good) (λ operand middle held.
    go_chain _ _ _ _ middle (AreExprs opens middle) _ (more opens middle held.good) (λ operands after behind.
    go_gives (operand ∷ operands) after _ (one_more opens first scope middle after operand operands held behind)))
