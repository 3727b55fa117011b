-- What a declarator begins with, where one is missing in front of brackets or parentheses too.
use Rattle.std.proofs.Common.{◌≡◌, ℕ, ◌<◌, Bool, true, false, cond, not, ◌&&◌, Option, List, [], ◌∷◌, ◌++◌, length, get_or, drop, refl, sym, ap, ◌∙◌, subst, arith, append_assoc, append-nil}
use Rattle.std.proofs.lemmas.Bool.{true≢false, or_left, or_right, or_from}
use Rattle.std.specs.Prelude.{⊤}
use Rattle.cx_cursor.specs.Reading.{at}
use Rattle.cx_cursor.specs.Sights.{sight_in, sight_behind, shows_mark, shows_word, sees_mark, same_mark}
use Rattle.cx_cursor.specs.declared.sight.Sight.{Sight}
use Rattle.cx_cursor.specs.declared.sight.Sight.TheVariants as sights
use Rattle.cx_cursor.proofs.Readers.{token, same_mark_refl}
use Rattle.cx_expr.specs.Declarators.{qualifiers}
use Rattle.cx_words.specs.Beginnings.{begins_params}
use Rattle.cx_words.specs.Beginnings.{shows_spec}
use Rattle.cx_words.specs.declared.form.Form.{Form}
use Rattle.cx_words.specs.declared.form.Form.TheVariants.{Named, Abstract, Parameter}
use Rattle.cx_lex.specs.declared.token.Punct.TheVariants as punct
use Rattle.cx_lex.specs.declared.token.Token.{Token}
use Rattle.cx_lex.specs.declared.token.TokenKind.TheVariants as kind
use Rattle.cx_tree.specs.Names.{Binding, is_type, new_declarator, new_params, first_name, IsOrdinary, StandsInGroup, ParamsStand}
use Rattle.cx_tree.specs.Tokens as tree
use Rattle.cx_tree.specs.Tokens.{owns, keys, declarator_tokens}
use Rattle.cx_tree.specs.Trees.{DeclaratorTree, Missing, Identifier, Group, Pointer, Array, Function, Identifiers, BracketsTree, Unsized, Length, StaticFirst, StaticLast, Star, ParamTrees, no_params, more_params}
use Rattle.cx_tree.specs.Valid.{has_name, is_present, is_direct, may_list, params_count, IsValidDeclarator, AreValidParams, OneOrMore}
use Rattle.cx_parse.proofs.ReadsBrackets.{brackets_text}
use Rattle.cx_parse.proofs.ReadsFunctions.{param_shows}
use Rattle.cx_parse.proofs.ReadsSights.{declarator_no_mark, declarator_no_spec, closing_other, no_first_name, Front, at_nothing, at_name, at_star, at_parenthesis, at_bracket, behind, front, front_sight, is_there, declarator_shows, present_is}
use Rattle.cx_parse.proofs.ReadsSteps.{word_no_mark}
use Rattle.cx_parse.proofs.Stood.{IsNamed}

-- ---- declarators with a name

pub named_present : (d : DeclaratorTree) → has_name d ≡ true → true ≡ is_present d
named_present Missing named = sym named
named_present (Identifier name lines) named = refl
named_present (Group inner lines) named = refl
named_present (Pointer qualifiers of lines) named = refl
named_present (Array of brackets lines) named = refl
named_present (Function of _ variadic lines) named = refl
named_present (Identifiers of names lines) named = refl

-- ---- where a head is missing

-- No declarator stands there: an array or a function begins.
pub record NoHead (names : List Binding) (rest : List Token) : Type 0 where
  pub grouped : (sees_mark punct.LeftParenthesis (at rest names) && not (begins_params (sight_behind (at rest names)))) ≡ false
  pub worded : shows_word (sight_in names rest) ≡ false

-- where the declarator is missing, an array or a function begins
abbrev pub Headed : DeclaratorTree → List Binding → List Token → Type 0
Headed Missing names rest = NoHead names rest
Headed _ names rest = ⊤

pub present_headed : (d : DeclaratorTree) (names : List Binding) (rest : List Token) → is_present d ≡ true → Headed d names rest
present_headed Missing names rest present = absurd (true≢false (sym present))
present_headed (Identifier name lines) names rest present = tt
present_headed (Group inner lines) names rest present = tt
present_headed (Pointer qualifiers of lines) names rest present = tt
present_headed (Array of brackets lines) names rest present = tt
present_headed (Function of _ variadic lines) names rest present = tt
present_headed (Identifiers of listed lines) names rest present = tt

pub headed_by : (d : DeclaratorTree) (names : List Binding) (rest : List Token) → NoHead names rest → Headed d names rest
headed_by Missing names rest absent = absent
headed_by (Identifier name lines) names rest absent = tt
headed_by (Group inner lines) names rest absent = tt
headed_by (Pointer qualifiers of lines) names rest absent = tt
headed_by (Array of brackets lines) names rest absent = tt
headed_by (Function of _ variadic lines) names rest absent = tt
headed_by (Identifiers of listed lines) names rest absent = tt

bracket_no_parenthesis : same_mark punct.LeftBracket punct.LeftParenthesis ≡ false
unfolding same_mark
bracket_no_parenthesis = refl

pub parenthesis_no_bracket : same_mark punct.LeftParenthesis punct.LeftBracket ≡ false
unfolding same_mark
parenthesis_no_bracket = refl

-- brackets begin with a bracket
bracket_first : (brackets : BracketsTree) (lines : List ℕ) (names : List Binding) (rest : List Token) → sight_in names (brackets_text brackets lines ++ rest) ≡ sights.Mark punct.LeftBracket
bracket_first (Unsized qualifiers) lines names rest = refl
bracket_first (Length qualifiers size) lines names rest = refl
bracket_first (StaticFirst qualifiers size) lines names rest = refl
bracket_first (StaticLast qualifiers size) lines names rest = refl
bracket_first (Star qualifiers) lines names rest = refl

pub bracket_some : (brackets : BracketsTree) (lines : List ℕ) → 0 < length (brackets_text brackets lines)
bracket_some (Unsized qualifiers) lines = omega arith
bracket_some (Length qualifiers size) lines = omega arith
bracket_some (StaticFirst qualifiers size) lines = omega arith
bracket_some (StaticLast qualifiers size) lines = omega arith
bracket_some (Star qualifiers) lines = omega arith

pub bracket_sees : (brackets : BracketsTree) (lines : List ℕ) (names : List Binding) (rest : List Token) → sees_mark punct.LeftBracket (at (brackets_text brackets lines ++ rest) names) ≡ true
bracket_sees brackets lines names rest = ap (λ (s : Sight). shows_mark punct.LeftBracket s) (bracket_first brackets lines names rest) ∙ same_mark_refl punct.LeftBracket

pub bracket_headed : (of : DeclaratorTree) (brackets : BracketsTree) (lines : List ℕ) (names : List Binding) (rest : List Token) → Headed of names (brackets_text brackets lines ++ rest)
bracket_headed of brackets lines names rest =
    let behind = not (begins_params (sight_behind (at (brackets_text brackets lines ++ rest) names))) in
    headed_by of names (brackets_text brackets lines ++ rest) (record {
      grouped = ap (λ (s : Sight). shows_mark punct.LeftParenthesis s && behind) (bracket_first brackets lines names rest) ∙ ap (λ (b : Bool). b && behind) bracket_no_parenthesis;
      worded = ap shows_word (bracket_first brackets lines names rest);
    })

-- behind a parenthesis, parameters begin, or `)` stands
params_no_head : (line : ℕ) (more : List Token) (names : List Binding) → begins_params (sight_in names more) ≡ true → NoHead names (token (kind.Mark punct.LeftParenthesis) line ∷ more)
params_no_head line more names begins = record {
  grouped = ap (λ (b : Bool). b && not (begins_params (sight_in names more))) (same_mark_refl punct.LeftParenthesis) ∙ ap not begins;
  worded = refl;
}

params_begin : (ps : ParamTrees) (variadic : Bool) (lines : List ℕ) (names : List Binding) (rest : List Token) → OneOrMore (params_count ps) (AreValidParams ps) → ParamsStand names ps
    → shows_spec true false (sight_in names (tree.listed (tree.parenthesis variadic) (tree.params_tokens ps) lines ++ rest)) ≡ true
params_begin no_params variadic lines names rest valid stands = let some : 0 < 0 = valid.present in absurd (omega arith)
params_begin (more_params p ps) variadic lines names rest valid stands =
    let behind : List Token = tree.behind_commas (tree.parenthesis variadic) (tree.params_tokens ps) lines in
    ap (λ (ts : List Token). shows_spec true false (sight_in names ts)) (append_assoc (tree.param_tokens p) behind rest) ∙ param_shows p names (behind ++ rest) valid.each.0 stands.0

-- ---- parts of a declarator

-- a part with the same name is named alike
pub named_inside : (form : Form) (of d : DeclaratorTree) → has_name of ≡ has_name d → IsNamed form d → IsNamed form of
named_inside Named of d same named = same ∙ named
named_inside Abstract of d same named = same ∙ named
named_inside Parameter of d same named = tt

pub own_is : (b : Bool) (ps qs : ParamTrees) → cond b (new_params ps) (new_params qs) ≡ new_params (cond b ps qs)
own_is true ps qs = refl
own_is false ps qs = refl

-- behind a parenthesis that begins a declarator, no parameters begin
pub group_begins : (in_parameter : Bool) (inner : DeclaratorTree) (names : List Binding) (rest : List Token) → is_present inner ≡ true → (in_parameter ≡ false → has_name inner ≡ false)
    → StandsInGroup in_parameter names inner → shows_spec true false (sight_in names rest) ≡ false → begins_params (sight_in names (declarator_tokens inner ++ rest)) ≡ false
group_begins in_parameter inner names rest present abstract stands absent =
    or_from (shows_mark punct.RightParenthesis (sight_in names (declarator_tokens inner ++ rest))) (shows_spec true false (sight_in names (declarator_tokens inner ++ rest)))
    (declarator_no_mark punct.RightParenthesis inner names rest closing_other (λ missing. absurd (true≢false (sym present ∙ missing))))
    (declarator_no_spec true false inner names rest (ordinary in_parameter abstract stands) absent) where
      ordinary : (in_parameter : Bool) → (in_parameter ≡ false → has_name inner ≡ false) → StandsInGroup in_parameter names inner → IsOrdinary names (first_name inner)
      ordinary true abstract stands = stands
      ordinary false abstract stands = subst (λ (n : Option (List ℕ)). IsOrdinary names n) (sym (no_first_name inner (abstract refl))) tt

-- a direct declarator shows no star
is_starred : Front → Bool
is_starred at_star = true
is_starred at_nothing = false
is_starred (at_name name) = false
is_starred at_parenthesis = false
is_starred at_bracket = false

behind_starred : (f other : Front) → is_starred f ≡ false → is_starred other ≡ false → is_starred (behind f other) ≡ false
behind_starred at_nothing other a b = b
behind_starred (at_name name) other a b = a
behind_starred at_star other a b = a
behind_starred at_parenthesis other a b = a
behind_starred at_bracket other a b = a

direct_front : (d : DeclaratorTree) → IsValidDeclarator d → is_direct d ≡ true → is_starred (front d) ≡ false
unfolding is_starred
direct_front Missing valid direct = refl
direct_front (Identifier name lines) valid direct = refl
direct_front (Group inner lines) valid direct = refl
direct_front (Pointer qualifiers of lines) valid direct = absurd (true≢false (sym direct))
direct_front (Array of brackets lines) valid direct = behind_starred (front of) at_bracket (direct_front of valid.of valid.direct) refl
direct_front (Function of _ variadic lines) valid direct = behind_starred (front of) at_parenthesis (direct_front of valid.of valid.direct) refl
direct_front (Identifiers of listed lines) valid direct = behind_starred (front of) at_parenthesis (direct_front of valid.of valid.direct) refl

front_no_star : (f : Front) (names : List Binding) (rest : Sight) → is_starred f ≡ false → true ≡ is_there f → shows_mark punct.Star (front_sight f names rest) ≡ false
unfolding same_mark is_starred
front_no_star at_nothing names rest a there = absurd (true≢false there)
front_no_star (at_name name) names rest a there = word_no_mark punct.Star (is_type names name)
front_no_star at_star names rest a there = absurd (true≢false a)
front_no_star at_parenthesis names rest a there = refl
front_no_star at_bracket names rest a there = refl

pub direct_no_star : (d : DeclaratorTree) (names : List Binding) (rest : List Token) → IsValidDeclarator d → is_direct d ≡ true → is_present d ≡ true
    → shows_mark punct.Star (sight_in names (declarator_tokens d ++ rest)) ≡ false
direct_no_star d names rest valid direct present =
    ap (λ (s : Sight). shows_mark punct.Star s) (declarator_shows d names rest)
    ∙ front_no_star (front d) names (sight_in names rest) (direct_front d valid direct) (sym present ∙ present_is d)

-- parameters, and identifiers, in place of a declarator that is missing
pub params_headed : (of : DeclaratorTree) (ps : ParamTrees) (variadic : Bool) (lines : List ℕ) (names : List Binding) (rest : List Token) → OneOrMore (params_count ps) (AreValidParams ps)
    → ParamsStand (names ++ new_declarator of) ps
    → Headed of names ((tree.mark lines 0 punct.LeftParenthesis ∷ tree.listed (tree.parenthesis variadic) (tree.params_tokens ps) (drop 1 lines)) ++ rest)
params_headed Missing ps variadic lines names rest valid stands =
    let more : List Token = tree.listed (tree.parenthesis variadic) (tree.params_tokens ps) (drop 1 lines) ++ rest in
    let inside : ParamsStand names ps = subst (λ (bs : List Binding). ParamsStand bs ps) (append-nil names) stands in
    params_no_head (get_or lines 0 0) more names (or_right (shows_mark punct.RightParenthesis (sight_in names more)) _ (params_begin ps variadic (drop 1 lines) names rest valid inside))
params_headed (Identifier name _) ps variadic lines names rest valid stands = tt
params_headed (Group inner _) ps variadic lines names rest valid stands = tt
params_headed (Pointer qualifiers of _) ps variadic lines names rest valid stands = tt
params_headed (Array of brackets _) ps variadic lines names rest valid stands = tt
params_headed (Function of _ _ _) ps variadic lines names rest valid stands = tt
params_headed (Identifiers of listed _) ps variadic lines names rest valid stands = tt

empty_headed : (of : DeclaratorTree) (lines : List ℕ) (names : List Binding) (rest : List Token)
    → Headed of names ((tree.mark lines 0 punct.LeftParenthesis ∷ tree.names_tokens [] (drop 1 lines)) ++ rest)
empty_headed of lines names rest =
    let more : List Token = tree.names_tokens [] (drop 1 lines) ++ rest in
    headed_by of names (token (kind.Mark punct.LeftParenthesis) (get_or lines 0 0) ∷ more)
    (params_no_head (get_or lines 0 0) more names (or_left (same_mark punct.RightParenthesis punct.RightParenthesis) _ (same_mark_refl punct.RightParenthesis)))

-- a list that isn't empty stands behind a name
pub names_headed : (of : DeclaratorTree) (listed : List (List ℕ)) (lines : List ℕ) (names : List Binding) (rest : List Token) → may_list listed of ≡ true
    → Headed of names ((tree.mark lines 0 punct.LeftParenthesis ∷ tree.names_tokens listed (drop 1 lines)) ++ rest)
names_headed of [] lines names rest may = empty_headed of lines names rest
names_headed of (name ∷ listed) lines names rest may = present_headed of names ((tree.mark lines 0 punct.LeftParenthesis ∷ tree.names_tokens (name ∷ listed) (drop 1 lines)) ++ rest)
    (sym (named_present of may))
