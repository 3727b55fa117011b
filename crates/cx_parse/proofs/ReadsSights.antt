-- What shows in front of specifiers, of a declarator, and of what stands behind these.
use Rattle.std.proofs.Common.{◌≡◌, ℕ, ◌<◌, Bool, true, false, not, ◌&&◌, ◌||◌, ◌⊎◌, Option, Some, None, List, [], ◌∷◌, ◌++◌, drop, refl, sym, ap, ◌∙◌, subst, inl, inr, arith, append_assoc}
use Rattle.std.proofs.lemmas.Bool.{true≢false, or_right}
use Rattle.std.specs.Prelude.{⊤}
use Rattle.cx_cursor.specs.Sights.{word_sight, sight_in, shows_mark, shows_word, same_mark}
use Rattle.cx_cursor.specs.declared.sight.Sight.{Sight}
use Rattle.cx_cursor.specs.declared.sight.Sight.TheVariants as sights
use Rattle.cx_words.specs.Beginnings.{begins_abstract, begins_declarator, is_no_qualifier}
use Rattle.cx_words.specs.Beginnings.{begins_tagged, begins_member_spec, begins_spec, shows_spec}
use Rattle.cx_words.specs.declared.form.Form.TheVariants.{Parameter}
use Rattle.cx_lex.specs.declared.token.Keyword.{Keyword}
use Rattle.cx_lex.specs.declared.token.Keyword.TheVariants as keywords
use Rattle.cx_lex.specs.declared.token.Punct.{Punct}
use Rattle.cx_lex.specs.declared.token.Punct.TheVariants as punct
use Rattle.cx_lex.specs.declared.token.Token.{Token}
use Rattle.cx_lex.specs.declared.token.TokenKind.TheVariants as kind
use Rattle.cx_tree.specs.Names.{Binding, is_type, first_name, IsOrdinary, StandsBehind, SpecStands, SpecsStand}
use Rattle.cx_tree.specs.Tokens as tree
use Rattle.cx_tree.specs.Tokens.{spec_tokens, specs_tokens, declarator_tokens}
use Rattle.cx_tree.specs.Trees.{SpecTree, Key, Typedef, Record, Enum, SpecTrees, no_specs, more_specs, DeclaratorTree, Missing, Identifier, Group, Pointer, Array, Function, Identifiers, BracketsTree, Unsized, Length, StaticFirst, StaticLast, Star}
use Rattle.cx_tree.specs.Valid.{is_qualifying, are_qualifying, is_present, has_name, specs_count, IsValidSpec, AreValidSpecs}
use Rattle.cx_tree.specs.Words.{is_storage_class, is_type_word, is_qualifier, is_function_specifier, is_specifier_word}
use Rattle.cx_cursor.proofs.Readers.{token}
use Rattle.cx_parse.proofs.ReadsSteps.{word_no_mark, no_brace_shown}
use Rattle.cx_parse.proofs.Stood.{BeginsMark, EndsDeclarator, EndsAt, NoBrace}

-- ---- specifiers

-- a keyword that is a specifier begins one
begins_by : (all storage type_word qualifier function_word tagged : Bool) → (((storage || type_word) || qualifier) || function_word) ≡ true
    → (all ≡ false → not (storage || function_word) ≡ true) → ((type_word || (qualifier || tagged)) || (all && (storage || function_word))) ≡ true
begins_by all s true q f g is only = refl
begins_by all s false true f g is only = refl
begins_by true true false false f g is only = or_right g true refl
begins_by true false false false true g is only = or_right g true refl
begins_by false true false false f g is only = absurd (true≢false (sym (only refl)))
begins_by false false false false true g is only = absurd (true≢false (sym (only refl)))
begins_by all false false false false g is only = absurd (true≢false (sym is))

pub specifier_begins : (all : Bool) (word : Keyword) → is_specifier_word word ≡ true → (all ≡ false → not (is_storage_class word || is_function_specifier word) ≡ true) → begins_spec all word ≡ true
unfolding begins_spec begins_member_spec
specifier_begins all word is only = begins_by all (is_storage_class word) (is_type_word word) (is_qualifier word) (is_function_specifier word) (begins_tagged word) is only

record_begins : (all is_union : Bool) → begins_spec all (tree.record_keyword is_union) ≡ true
unfolding begins_spec begins_member_spec begins_tagged is_type_word is_qualifier
record_begins all true = refl
record_begins all false = refl

enum_begins : (all : Bool) → begins_spec all keywords.Enum ≡ true
unfolding begins_spec begins_member_spec begins_tagged is_type_word is_qualifier
enum_begins all = refl

-- a specifier shows
pub spec_shows : (all typed : Bool) (s : SpecTree) (names : List Binding) (rest : List Token) → IsValidSpec s → SpecStands names typed s
    → (all ≡ false → is_qualifying s ≡ true) → shows_spec all typed (sight_in names (spec_tokens s ++ rest)) ≡ true
spec_shows all typed (Key word lines) names rest valid stands only = specifier_begins all word valid.part only
spec_shows all typed (Typedef name lines) names rest valid stands only = ap (λ (b : Bool). shows_spec all typed (word_sight b)) stands.0 ∙ ap not stands.1
spec_shows all typed (Record is_union tag _ lines) names rest valid stands only = record_begins all is_union
spec_shows all typed (Enum tag list last_comma lines) names rest valid stands only = enum_begins all

pub qualifying_first : (a b : Bool) → (a && b) ≡ true → a ≡ true
qualifying_first true b e = refl
qualifying_first false b e = e

pub qualifying_others : (a b : Bool) → (a && b) ≡ true → b ≡ true
qualifying_others true b e = e
qualifying_others false b e = absurd (true≢false (sym e))

-- a list of specifiers shows one
pub specs_show : (all typed : Bool) (ss : SpecTrees) (names : List Binding) (rest : List Token) → 0 < specs_count ss → AreValidSpecs ss → SpecsStand names typed ss
    → (all ≡ false → are_qualifying ss ≡ true) → shows_spec all typed (sight_in names (specs_tokens ss ++ rest)) ≡ true
specs_show all typed no_specs names rest some valid stands only = absurd (omega arith)
specs_show all typed (more_specs s ss) names rest some valid stands only =
    ap (λ (ts : List Token). shows_spec all typed (sight_in names ts)) (append_assoc (spec_tokens s) (specs_tokens ss) rest)
    ∙ spec_shows all typed s names (specs_tokens ss ++ rest) valid.0 stands.0 (λ e. qualifying_first (is_qualifying s) (are_qualifying ss) (only e))

-- a mark shows neither in front of a specifier
pub spec_no_mark : (p : Punct) (s : SpecTree) (names : List Binding) (rest : List Token) → shows_mark p (sight_in names (spec_tokens s ++ rest)) ≡ false
spec_no_mark p (Key word lines) names rest = refl
spec_no_mark p (Typedef name lines) names rest = word_no_mark p (is_type names name)
spec_no_mark p (Record is_union tag _ lines) names rest = refl
spec_no_mark p (Enum tag list last_comma lines) names rest = refl

pub specs_no_mark : (p : Punct) (ss : SpecTrees) (names : List Binding) (rest : List Token) → 0 < specs_count ss → shows_mark p (sight_in names (specs_tokens ss ++ rest)) ≡ false
specs_no_mark p no_specs names rest some = absurd (omega arith)
specs_no_mark p (more_specs s ss) names rest some =
    ap (λ (ts : List Token). shows_mark p (sight_in names ts)) (append_assoc (spec_tokens s) (specs_tokens ss) rest) ∙ spec_no_mark p s names (specs_tokens ss ++ rest)

-- ---- declarators

-- what a declarator begins with
pub data Front : Type 0 where
  at_nothing : Front
  at_name : List ℕ → Front
  at_star : Front
  at_parenthesis : Front
  at_bracket : Front

abbrev pub behind : Front → Front → Front
behind at_nothing other = other
behind (at_name name) other = at_name name
behind at_star other = at_star
behind at_parenthesis other = at_parenthesis
behind at_bracket other = at_bracket

abbrev pub front : DeclaratorTree → Front
front Missing = at_nothing
front (Identifier name lines) = at_name name
front (Group inner lines) = at_parenthesis
front (Pointer qualifiers of lines) = at_star
front (Array of brackets lines) = behind (front of) at_bracket
front (Function of _ variadic lines) = behind (front of) at_parenthesis
front (Identifiers of names lines) = behind (front of) at_parenthesis

-- what shows there; behind a declarator that is missing, what stands behind it
abbrev pub front_sight : Front → List Binding → Sight → Sight
front_sight at_nothing names rest = rest
front_sight (at_name name) names rest = word_sight (is_type names name)
front_sight at_star names rest = sights.Mark punct.Star
front_sight at_parenthesis names rest = sights.Mark punct.LeftParenthesis
front_sight at_bracket names rest = sights.Mark punct.LeftBracket

behind_bracket : (f : Front) (names : List Binding) (rest : Sight) → front_sight f names (sights.Mark punct.LeftBracket) ≡ front_sight (behind f at_bracket) names rest
behind_bracket at_nothing names rest = refl
behind_bracket (at_name name) names rest = refl
behind_bracket at_star names rest = refl
behind_bracket at_parenthesis names rest = refl
behind_bracket at_bracket names rest = refl

behind_parenthesis : (f : Front) (names : List Binding) (rest : Sight) → front_sight f names (sights.Mark punct.LeftParenthesis) ≡ front_sight (behind f at_parenthesis) names rest
behind_parenthesis at_nothing names rest = refl
behind_parenthesis (at_name name) names rest = refl
behind_parenthesis at_star names rest = refl
behind_parenthesis at_parenthesis names rest = refl
behind_parenthesis at_bracket names rest = refl

bracket_shows : (b : BracketsTree) (names : List Binding) (lines : List ℕ) (more rest : List Token)
    → sight_in names ((tree.owns (tree.brackets_front b) lines ++ more) ++ rest) ≡ sights.Mark punct.LeftBracket
bracket_shows (Unsized qualifiers) names lines more rest = refl
bracket_shows (Length qualifiers size) names lines more rest = refl
bracket_shows (StaticFirst qualifiers size) names lines more rest = refl
bracket_shows (StaticLast qualifiers size) names lines more rest = refl
bracket_shows (Star qualifiers) names lines more rest = refl

pub declarator_shows : (d : DeclaratorTree) (names : List Binding) (rest : List Token) → sight_in names (declarator_tokens d ++ rest) ≡ front_sight (front d) names (sight_in names rest)
declarator_shows Missing names rest = refl
declarator_shows (Identifier name lines) names rest = refl
declarator_shows (Group inner lines) names rest = refl
declarator_shows (Pointer qualifiers of lines) names rest = refl
declarator_shows (Array of brackets lines) names rest =
    let more = tree.length_tokens brackets ++ tree.mark (tree.behind_front brackets lines) 0 punct.RightBracket ∷ [] in
    ap (λ (ts : List Token). sight_in names ts) (append_assoc (declarator_tokens of) (tree.owns (tree.brackets_front brackets) lines ++ more) rest)
    ∙ declarator_shows of names ((tree.owns (tree.brackets_front brackets) lines ++ more) ++ rest)
    ∙ ap (λ (s : Sight). front_sight (front of) names s) (bracket_shows brackets names lines more rest)
    ∙ behind_bracket (front of) names (sight_in names rest)
declarator_shows (Function of params variadic lines) names rest =
    let more : List Token = tree.mark lines 0 punct.LeftParenthesis ∷ tree.listed (tree.parenthesis variadic) (tree.params_tokens params) (drop 1 lines) in
    ap (λ (ts : List Token). sight_in names ts) (append_assoc (declarator_tokens of) more rest)
    ∙ declarator_shows of names (more ++ rest)
    ∙ behind_parenthesis (front of) names (sight_in names rest)
declarator_shows (Identifiers of listed lines) names rest =
    let more : List Token = tree.mark lines 0 punct.LeftParenthesis ∷ tree.names_tokens listed (drop 1 lines) in
    ap (λ (ts : List Token). sight_in names ts) (append_assoc (declarator_tokens of) more rest)
    ∙ declarator_shows of names (more ++ rest)
    ∙ behind_parenthesis (front of) names (sight_in names rest)

-- ---- what such a front shows

abbrev front_name : Front → Option (List ℕ)
front_name at_nothing = None
front_name (at_name name) = Some name
front_name at_star = None
front_name at_parenthesis = None
front_name at_bracket = None

behind_name : (f other : Front) → front_name other ≡ None → front_name f ≡ front_name (behind f other)
behind_name at_nothing other absent = sym absent
behind_name (at_name name) other absent = refl
behind_name at_star other absent = refl
behind_name at_parenthesis other absent = refl
behind_name at_bracket other absent = refl

pub first_name_is : (d : DeclaratorTree) → first_name d ≡ front_name (front d)
first_name_is Missing = refl
first_name_is (Identifier name lines) = refl
first_name_is (Group inner lines) = refl
first_name_is (Pointer qualifiers of lines) = refl
first_name_is (Array of brackets lines) = first_name_is of ∙ behind_name (front of) at_bracket refl
first_name_is (Function of _ variadic lines) = first_name_is of ∙ behind_name (front of) at_parenthesis refl
first_name_is (Identifiers of names lines) = first_name_is of ∙ behind_name (front of) at_parenthesis refl

-- a declarator without a name begins with none
pub no_first_name : (d : DeclaratorTree) → has_name d ≡ false → first_name d ≡ None
no_first_name Missing absent = refl
no_first_name (Identifier name lines) absent = absurd (true≢false absent)
no_first_name (Group inner lines) absent = refl
no_first_name (Pointer qualifiers of lines) absent = refl
no_first_name (Array of brackets lines) absent = no_first_name of absent
no_first_name (Function of _ variadic lines) absent = no_first_name of absent
no_first_name (Identifiers of names lines) absent = no_first_name of absent

abbrev pub is_there : Front → Bool
is_there at_nothing = false
is_there (at_name name) = true
is_there at_star = true
is_there at_parenthesis = true
is_there at_bracket = true

behind_there : (f other : Front) → is_there other ≡ true → true ≡ is_there (behind f other)
behind_there at_nothing other is = sym is
behind_there (at_name name) other is = refl
behind_there at_star other is = refl
behind_there at_parenthesis other is = refl
behind_there at_bracket other is = refl

pub present_is : (d : DeclaratorTree) → is_present d ≡ is_there (front d)
present_is Missing = refl
present_is (Identifier name lines) = refl
present_is (Group inner lines) = refl
present_is (Pointer qualifiers of lines) = refl
present_is (Array of brackets lines) = behind_there (front of) at_bracket refl
present_is (Function of _ variadic lines) = behind_there (front of) at_parenthesis refl
present_is (Identifiers of names lines) = behind_there (front of) at_parenthesis refl

-- what stands behind specifiers, and begins with no identifier that would be one of them, shows none
abbrev Apart : Bool → List Binding → Option (List ℕ) → Type 0
Apart true names name = ⊤
Apart false names name = IsOrdinary names name

apart_from : (typed : Bool) (names : List Binding) (d : DeclaratorTree) → StandsBehind typed names d → Apart typed names (front_name (front d))
apart_from true names d stands = tt
apart_from false names d stands = subst (λ (n : Option (List ℕ)). IsOrdinary names n) (first_name_is d) stands

word_no_spec : (all typed is_type : Bool) → (typed ≡ true) ⊎ (is_type ≡ false) → shows_spec all typed (word_sight is_type) ≡ false
word_no_spec all true true h = refl
word_no_spec all false true (inl e) = absurd (true≢false (sym e))
word_no_spec all false true (inr e) = absurd (true≢false e)
word_no_spec all typed false h = refl

front_no_spec : (all typed : Bool) (f : Front) (names : List Binding) (rest : Sight) → Apart typed names (front_name f) → shows_spec all typed rest ≡ false
    → shows_spec all typed (front_sight f names rest) ≡ false
front_no_spec all typed at_nothing names rest apart absent = absent
front_no_spec all true (at_name name) names rest apart absent = word_no_spec all true (is_type names name) (inl refl)
front_no_spec all false (at_name name) names rest apart absent = word_no_spec all false (is_type names name) (inr apart)
front_no_spec all typed at_star names rest apart absent = refl
front_no_spec all typed at_parenthesis names rest apart absent = refl
front_no_spec all typed at_bracket names rest apart absent = refl

pub declarator_no_spec : (all typed : Bool) (d : DeclaratorTree) (names : List Binding) (rest : List Token) → StandsBehind typed names d → shows_spec all typed (sight_in names rest) ≡ false
    → shows_spec all typed (sight_in names (declarator_tokens d ++ rest)) ≡ false
declarator_no_spec all typed d names rest stands absent =
    ap (λ (s : Sight). shows_spec all typed s) (declarator_shows d names rest)
    ∙ front_no_spec all typed (front d) names (sight_in names rest) (apart_from typed names d stands) absent

-- a declarator shows no mark but an opening one or a star
front_no_mark : (p : Punct) (f : Front) (names : List Binding) (rest : Sight) → same_mark punct.Star p ≡ false → same_mark punct.LeftParenthesis p ≡ false → same_mark punct.LeftBracket p ≡ false
    → (is_there f ≡ false → shows_mark p rest ≡ false) → shows_mark p (front_sight f names rest) ≡ false
front_no_mark p at_nothing names rest star parenthesis bracket absent = absent refl
front_no_mark p (at_name name) names rest star parenthesis bracket absent = word_no_mark p (is_type names name)
front_no_mark p at_star names rest star parenthesis bracket absent = star
front_no_mark p at_parenthesis names rest star parenthesis bracket absent = parenthesis
front_no_mark p at_bracket names rest star parenthesis bracket absent = bracket

-- another mark than those that a declarator begins with
pub record IsOther (p : Punct) : Type 0 where
  pub star : same_mark punct.Star p ≡ false
  pub parenthesis : same_mark punct.LeftParenthesis p ≡ false
  pub bracket : same_mark punct.LeftBracket p ≡ false

pub declarator_no_mark : (p : Punct) (d : DeclaratorTree) (names : List Binding) (rest : List Token) → IsOther p → (is_present d ≡ false → shows_mark p (sight_in names rest) ≡ false)
    → shows_mark p (sight_in names (declarator_tokens d ++ rest)) ≡ false
declarator_no_mark p d names rest other absent =
    ap (λ (s : Sight). shows_mark p s) (declarator_shows d names rest)
    ∙ front_no_mark p (front d) names (sight_in names rest) other.star other.parenthesis other.bracket (λ e. absent (present_is d ∙ e))

pub brace_other : IsOther punct.LeftBrace
unfolding same_mark
brace_other = record { star = refl; parenthesis = refl; bracket = refl }

pub colon_other : IsOther punct.Colon
unfolding same_mark
colon_other = record { star = refl; parenthesis = refl; bracket = refl }

pub closing_other : IsOther punct.RightParenthesis
unfolding same_mark
closing_other = record { star = refl; parenthesis = refl; bracket = refl }

pub semicolon_other : IsOther punct.Semicolon
unfolding same_mark
semicolon_other = record { star = refl; parenthesis = refl; bracket = refl }

-- no qualifier
pub word_no_qualifier : (is_type : Bool) → is_no_qualifier (word_sight is_type) ≡ true
word_no_qualifier true = refl
word_no_qualifier false = refl

front_no_qualifier : (f : Front) (names : List Binding) (rest : Sight) → is_no_qualifier rest ≡ true → is_no_qualifier (front_sight f names rest) ≡ true
front_no_qualifier at_nothing names rest absent = absent
front_no_qualifier (at_name name) names rest absent = word_no_qualifier (is_type names name)
front_no_qualifier at_star names rest absent = refl
front_no_qualifier at_parenthesis names rest absent = refl
front_no_qualifier at_bracket names rest absent = refl

pub declarator_no_qualifier : (d : DeclaratorTree) (names : List Binding) (rest : List Token) → is_no_qualifier (sight_in names rest) ≡ true
    → is_no_qualifier (sight_in names (declarator_tokens d ++ rest)) ≡ true
declarator_no_qualifier d names rest absent =
    ap is_no_qualifier (declarator_shows d names rest) ∙ front_no_qualifier (front d) names (sight_in names rest) absent

-- ---- what stands behind

pub mark_shown : (rest : List Token) (names : List Binding) (ahead : BeginsMark rest) → sight_in names rest ≡ sights.Mark ahead.punct
mark_shown rest names ahead = ap (λ (ts : List Token). sight_in names ts) ahead.is

pub mark_no_spec : (all typed : Bool) (rest : List Token) (names : List Binding) → BeginsMark rest → shows_spec all typed (sight_in names rest) ≡ false
mark_no_spec all typed rest names ahead = ap (λ (s : Sight). shows_spec all typed s) (mark_shown rest names ahead)

pub mark_no_qualifier : (rest : List Token) (names : List Binding) → BeginsMark rest → is_no_qualifier (sight_in names rest) ≡ true
mark_no_qualifier rest names ahead = ap is_no_qualifier (mark_shown rest names ahead)

-- one of two marks isn't a third
pub among_apart : (p one other third : Punct) → (p ≡ one) ⊎ (p ≡ other) → same_mark one third ≡ false → same_mark other third ≡ false → same_mark p third ≡ false
among_apart p one other third (inl e) a b = ap (λ (p : Punct). same_mark p third) e ∙ a
among_apart p one other third (inr e) a b = ap (λ (p : Punct). same_mark p third) e ∙ b

-- a mark that ends a declarator
pub record IsEnd (p : Punct) : Type 0 where
  pub star : same_mark p punct.Star ≡ false
  pub parenthesis : same_mark p punct.LeftParenthesis ≡ false
  pub bracket : same_mark p punct.LeftBracket ≡ false
  pub brace : same_mark p punct.LeftBrace ≡ false

pub comma_end : IsEnd punct.Comma
unfolding same_mark
comma_end = record { star = refl; parenthesis = refl; bracket = refl; brace = refl }

pub semicolon_end : IsEnd punct.Semicolon
unfolding same_mark
semicolon_end = record { star = refl; parenthesis = refl; bracket = refl; brace = refl }

pub closing_end : IsEnd punct.RightParenthesis
unfolding same_mark
closing_end = record { star = refl; parenthesis = refl; bracket = refl; brace = refl }

pub colon_end : IsEnd punct.Colon
unfolding same_mark
colon_end = record { star = refl; parenthesis = refl; bracket = refl; brace = refl }

pub bracket_end : IsEnd punct.RightBracket
unfolding same_mark
bracket_end = record { star = refl; parenthesis = refl; bracket = refl; brace = refl }

pub among_end : (rest : List Token) (one other : Punct) → EndsAt one other rest → IsEnd one → IsEnd other → EndsDeclarator rest
among_end rest one other ends a b =
    let p = ends.front.punct in
    record {
      front = ends.front;
      no_star = among_apart p one other punct.Star ends.among a.star b.star;
      no_parenthesis = among_apart p one other punct.LeftParenthesis ends.among a.parenthesis b.parenthesis;
      no_bracket = among_apart p one other punct.LeftBracket ends.among a.bracket b.bracket;
    }

-- no `{` stands there
pub among_no_brace : (one other : Punct) (rest : List Token) → EndsAt one other rest → IsEnd one → IsEnd other → NoBrace rest
among_no_brace one other rest ends a b =
    no_brace_shown [] rest
    (ap (λ (s : Sight). shows_mark punct.LeftBrace s) (mark_shown rest [] ends.front) ∙ among_apart ends.front.punct one other punct.LeftBrace ends.among a.brace b.brace)

pub mark_end : (p : Punct) (line : ℕ) (more : List Token) → IsEnd p → EndsDeclarator (token (kind.Mark p) line ∷ more)
mark_end p line more a = record {
  front = record { punct = p; line = line; more = more; is = refl };
  no_star = a.star;
  no_parenthesis = a.parenthesis;
  no_bracket = a.bracket;
}

-- ---- what begins a declarator

ends_begin_none : (rest : List Token) (names : List Binding) → EndsDeclarator rest → begins_abstract (sight_in names rest) ≡ false
ends_begin_none rest names ends =
    let p = ends.front.punct in
    ap begins_abstract (mark_shown rest names ends.front)
    ∙ ap (λ (b : Bool). b || (same_mark p punct.LeftParenthesis || same_mark p punct.LeftBracket)) ends.no_star
    ∙ ap (λ (b : Bool). b || same_mark p punct.LeftBracket) ends.no_parenthesis
    ∙ ends.no_bracket

ends_no_word : (rest : List Token) (names : List Binding) → EndsDeclarator rest → shows_word (sight_in names rest) ≡ false
ends_no_word rest names ends = ap shows_word (mark_shown rest names ends.front)

pub word_shows : (is_type : Bool) → shows_word (word_sight is_type) ≡ true
word_shows true = refl
word_shows false = refl

front_begins_abstract : (f : Front) (names : List Binding) (rest : Sight) → front_name f ≡ None → begins_abstract rest ≡ false → begins_abstract (front_sight f names rest) ≡ is_there f
unfolding same_mark
front_begins_abstract at_nothing names rest absent none = none
front_begins_abstract (at_name name) names rest absent none = cc
front_begins_abstract at_star names rest absent none = refl
front_begins_abstract at_parenthesis names rest absent none = refl
front_begins_abstract at_bracket names rest absent none = refl

-- an abstract declarator begins where there is one
pub abstract_begins : (d : DeclaratorTree) (names : List Binding) (rest : List Token) → has_name d ≡ false → EndsDeclarator rest
    → begins_abstract (sight_in names (declarator_tokens d ++ rest)) ≡ is_present d
abstract_begins d names rest absent ends =
    ap begins_abstract (declarator_shows d names rest)
    ∙ front_begins_abstract (front d) names (sight_in names rest) (sym (first_name_is d) ∙ no_first_name d absent) (ends_begin_none rest names ends)
    ∙ sym (present_is d)

front_begins_parameter : (f : Front) (names : List Binding) (rest : Sight) → (shows_word rest || begins_abstract rest) ≡ false
    → (shows_word (front_sight f names rest) || begins_abstract (front_sight f names rest)) ≡ is_there f
unfolding same_mark
front_begins_parameter at_nothing names rest none = none
front_begins_parameter (at_name name) names rest none = ap (λ (b : Bool). b || begins_abstract (word_sight (is_type names name))) (word_shows (is_type names name))
front_begins_parameter at_star names rest none = refl
front_begins_parameter at_parenthesis names rest none = refl
front_begins_parameter at_bracket names rest none = refl

-- a parameter's declarator begins where there is one
pub parameter_begins : (d : DeclaratorTree) (names : List Binding) (rest : List Token) → EndsDeclarator rest
    → begins_declarator Parameter (sight_in names (declarator_tokens d ++ rest)) ≡ is_present d
parameter_begins d names rest ends =
    ap (λ (s : Sight). begins_declarator Parameter s) (declarator_shows d names rest)
    ∙ front_begins_parameter (front d) names (sight_in names rest)
    (ap (λ (b : Bool). b || begins_abstract (sight_in names rest)) (ends_no_word rest names ends) ∙ ends_begin_none rest names ends)
    ∙ sym (present_is d)
