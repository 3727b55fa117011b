-- Functions of declarators are read: their parameters, and their lists of identifiers.
use Rattle.std.proofs.Common.{◌≡◌, ℕ, zero, suc, ◌+◌, ◌*◌, ◌-◌, ◌<◌, ◌≤◌, Bool, true, false, cond, not, ◌||◌, Option, Some, List, [], ◌∷◌, ◌++◌, length, map, get_or, take, drop, refl, sym, ap, ◌∙◌, arith, append_assoc, append-nil, length-append}
use Rattle.std.proofs.lemmas.Bool.{cond-true, cond-false, true≢false, or_left, or_right}
use Rattle.cx_cursor.specs.Lists.{ListRead, list_read, no_comma, many, many_ahead, taking}
use Rattle.cx_cursor.specs.Reading.{State, at, onward}
use Rattle.cx_cursor.specs.Sights.{word_sight, sight, sight_in, shows_mark, sees_mark, same_mark, mark}
use Rattle.cx_cursor.proofs.Readers.{bind_some, token, mark_reads, word_reads, same_mark_refl}
use Rattle.cx_expr.specs.Below.{Below, DeclaratorRead, declarator_read}
use Rattle.cx_expr.specs.Declarators.{no_param, plain_word, with_comma_name, comma_name, may_name, params_read, scoped_read, params_end, some_names, names_in, identifiers, params_in, scoped_params, function, in_parentheses, function_or_identifiers}
use Rattle.cx_words.specs.Beginnings.{is_plain}
use Rattle.cx_words.specs.Beginnings.{shows_spec}
use Rattle.cx_lex.specs.declared.token.Punct.TheVariants as punct
use Rattle.cx_lex.specs.declared.token.Token.{Token}
use Rattle.cx_lex.specs.declared.token.TokenKind.TheVariants as kind
use Rattle.cx_tree.specs.Depth.{params_depth}
use Rattle.cx_tree.specs.Names.{Binding, is_type, new_param, new_params, is_identifier, AreOrdinary, ParamStands, ParamsStand}
use Rattle.cx_tree.specs.Tokens as tree
use Rattle.cx_tree.specs.Tokens.{owns, listed, parenthesis, behind_commas, behind_names, names_tokens, specs_tokens, declarator_tokens, param_tokens, params_tokens}
use Rattle.cx_tree.specs.Trees.{ParamTree, Param, ParamTrees, no_params, more_params, Function, Identifiers}
use Rattle.cx_tree.specs.Valid.{has_name, may_list, one_if, params_count, IsValidParam, AreValidParams, OneOrMore}
use Rattle.cx_tree.specs.Views.{params}
use Rattle.cx_parse.proofs.Lists.{each_of}
use Rattle.cx_parse.proofs.ReadsCommas.{AllGood, listed_read, lines_split, lines_left, ends_first, ends_second}
use Rattle.cx_parse.proofs.ReadsSights.{specs_show, specs_no_mark}
use Rattle.cx_parse.proofs.ReadsSteps.{Quiet, mark_quiet, many_stops, many_steps, takes, one_line, word_no_mark}
use Rattle.cx_parse.proofs.Stood.{ParamFits, EndsAt, Reads, AllRead}

-- ---- the list that a tree of parameters is

abbrev param_list : ParamTrees → List ParamTree
param_list no_params = []
param_list (more_params p ps) = p ∷ param_list ps

params_of_list : (ps : ParamTrees) → params (param_list ps) ≡ ps
params_of_list no_params = refl
params_of_list (more_params p ps) = ap (λ (t : ParamTrees). more_params p t) (params_of_list ps)

params_texts : (ps : ParamTrees) → map param_tokens (param_list ps) ≡ params_tokens ps
params_texts no_params = refl
params_texts (more_params p ps) = ap (λ (ts : List (List Token)). param_tokens p ∷ ts) (params_texts ps)

params_new : (ps : ParamTrees) → each_of new_param (param_list ps) ≡ new_params ps
params_new no_params = refl
params_new (more_params p ps) = ap (λ (bs : List Binding). new_param p ++ bs) (params_new ps)

params_are : (ps : ParamTrees) → length (param_list ps) ≡ params_count ps
params_are no_params = refl
params_are (more_params p ps) = ap suc (params_are ps)

params_good : (most : ℕ) (ps : ParamTrees) (names : List Binding) → AreValidParams ps → ParamsStand names ps → params_depth ps ≤ most → AllGood (ParamFits most) new_param names (param_list ps)
params_good most no_params names valid stands deep = tt
params_good most (more_params p ps) names valid stands deep =
    (record { valid = valid.0; stands = stands.0; deep = omega arith }, params_good most ps (names ++ new_param p) valid.1 stands.1 (omega arith))

-- a parameter shows a specifier
pub param_shows : (p : ParamTree) (names : List Binding) (rest : List Token) → IsValidParam p → ParamStands names p → shows_spec true false (sight_in names (param_tokens p ++ rest)) ≡ true
param_shows (Param ss d lines) names rest valid stands =
    ap (λ (ts : List Token). shows_spec true false (sight_in names ts)) (append_assoc (specs_tokens ss) (declarator_tokens d) rest)
    ∙ specs_show true false ss names (declarator_tokens d ++ rest) valid.specs.present valid.specs.each stands.specs (λ e. absurd (true≢false e))

param_no_dots : (p : ParamTree) (names : List Binding) (rest : List Token) → IsValidParam p → shows_mark punct.Ellipsis (sight_in names (param_tokens p ++ rest)) ≡ false
param_no_dots (Param ss d lines) names rest valid =
    ap (λ (ts : List Token). shows_mark punct.Ellipsis (sight_in names ts)) (append_assoc (specs_tokens ss) (declarator_tokens d) rest)
    ∙ specs_no_mark punct.Ellipsis ss names (declarator_tokens d ++ rest) valid.specs.present

-- ---- the end of a list of parameters

closing_no_comma : same_mark punct.RightParenthesis punct.Comma ≡ false
unfolding same_mark
closing_no_comma = refl

parenthesis_ends : (variadic : Bool) (lines : List ℕ) (rest : List Token) → EndsAt punct.Comma punct.RightParenthesis (owns (parenthesis variadic) lines ++ rest)
parenthesis_ends true lines rest = ends_first punct.Comma punct.RightParenthesis (get_or lines 0 0) _
parenthesis_ends false lines rest = ends_second punct.Comma punct.RightParenthesis (get_or lines 0 0) rest

parenthesis_stops : {A : Type 0} (variadic : Bool) (all : ListRead A) (lines : List ℕ) (names : List Binding) (rest : List Token)
    → no_param all (at (owns (parenthesis variadic) lines ++ rest) names) ≡ true
parenthesis_stops true all lines names rest = or_right (not (same_mark punct.Comma punct.Comma)) (same_mark punct.Ellipsis punct.Ellipsis) (same_mark_refl punct.Ellipsis)
parenthesis_stops false all lines names rest = ap (λ (b : Bool). not b || shows_mark punct.Ellipsis (sight_in names rest)) closing_no_comma

parenthesis_count : (variadic : Bool) → length (parenthesis variadic) ≡ 2 * one_if variadic + 1
parenthesis_count true = refl
parenthesis_count false = refl

end_reads : (variadic : Bool) (list : List ParamTree) (front lines : List ℕ) (names : List Binding) (rest : List Token) → length lines ≡ length (parenthesis variadic)
    → params_end (list_read list front) (at (owns (parenthesis variadic) lines ++ rest) names) ≡ Some (params_read list variadic (front ++ lines), at rest names)
unfolding params_end
end_reads true list front [] names rest count = absurd (omega arith)
end_reads true list front (l ∷ []) names rest count = absurd (omega arith)
end_reads true list front (l ∷ k ∷ []) names rest count = absurd (omega arith)
end_reads true list front (l ∷ k ∷ j ∷ []) names rest count =
    let closing : List Token = token (kind.Mark punct.RightParenthesis) j ∷ rest in
    let dots : List Token = token (kind.Mark punct.Ellipsis) k ∷ closing in
    cond-true (same_mark punct.Comma punct.Comma) _ _ (same_mark_refl punct.Comma)
    ∙ bind_some (mark punct.Comma) _ (at (token (kind.Mark punct.Comma) l ∷ dots) names) l (at dots names) (mark_reads punct.Comma l dots names)
    ∙ bind_some (mark punct.Ellipsis) _ (at dots names) k (at closing names) (mark_reads punct.Ellipsis k closing names)
    ∙ bind_some (mark punct.RightParenthesis) _ (at closing names) j (at rest names) (mark_reads punct.RightParenthesis j rest names)
end_reads true list front (l ∷ k ∷ j ∷ i ∷ lines) names rest count = absurd (omega arith)
end_reads false list front [] names rest count = absurd (omega arith)
end_reads false list front (l ∷ []) names rest count =
    cond-false (same_mark punct.RightParenthesis punct.Comma) _ _ closing_no_comma
    ∙ bind_some (mark punct.RightParenthesis) _ (at (token (kind.Mark punct.RightParenthesis) l ∷ rest) names) l (at rest names) (mark_reads punct.RightParenthesis l rest names)
end_reads false list front (l ∷ k ∷ lines) names rest count = absurd (omega arith)

-- ---- a scope that is left

taken_off : (names new : List Binding) → take (length names) (names ++ new) ≡ names
taken_off [] new = refl
taken_off (b ∷ names) new = ap (λ (bs : List Binding). b ∷ bs) (taken_off names new)

kept : (names new : List Binding) → drop (length names) (names ++ new) ≡ new
kept [] new = refl
kept (b ∷ names) new = kept names new

-- ---- lists of identifiers

names_front : List (List ℕ) → List ℕ → List ℕ
names_front [] lines = []
names_front (name ∷ listed) lines = get_or lines 0 0 ∷ get_or lines 1 0 ∷ names_front listed (drop 2 lines)

names_last : List (List ℕ) → List ℕ → ℕ
names_last [] lines = get_or lines 0 0
names_last (name ∷ listed) lines = names_last listed (drop 2 lines)

names_lines : (listed : List (List ℕ)) (lines : List ℕ) → length lines ≡ 2 * length listed + 1 → names_front listed lines ++ names_last listed lines ∷ [] ≡ lines
unfolding names_front names_last
names_lines [] [] count = absurd (omega arith)
names_lines [] (l ∷ []) count = refl
names_lines [] (l ∷ k ∷ lines) count = absurd (omega arith)
names_lines (name ∷ listed) [] count = absurd (omega arith)
names_lines (name ∷ listed) (l ∷ []) count = absurd (omega arith)
names_lines (name ∷ listed) (l ∷ k ∷ lines) count = ap (λ (ls : List ℕ). l ∷ k ∷ ls) (names_lines listed lines (omega arith))

pub plain_reads : (name : List ℕ) (line : ℕ) (names : List Binding) (rest : List Token) → is_type names name ≡ false
    → plain_word (at (token (kind.Word name) line ∷ rest) names) ≡ Some ((name, line), at rest names)
unfolding plain_word
plain_reads name line names rest is =
    cond-true (is_plain (sight (at (token (kind.Word name) line ∷ rest) names))) _ _ (ap (λ (b : Bool). is_plain (word_sight b)) is) ∙ word_reads name line rest names

same_names : (a b : List (List ℕ)) (ls ks : List ℕ) (rest : List Token) (names : List Binding) → a ≡ b → ls ≡ ks
    → ◌≡◌ {A = Option (ListRead (List ℕ) × State)} (Some (list_read a ls, at rest names)) (Some (list_read b ks, at rest names))
same_names a b ls ks rest names e f = λ i. Some (list_read (e i) (f i), at rest names)

comma_name_reads : (name : List ℕ) (comma line : ℕ) (names : List Binding) (rest : List Token) → is_type names name ≡ false
    → comma_name (at (token (kind.Mark punct.Comma) comma ∷ token (kind.Word name) line ∷ rest) names) ≡ Some ((comma, (name, line)), at rest names)
unfolding comma_name
comma_name_reads name comma line names rest is =
    let inside : List Token = token (kind.Word name) line ∷ rest in
    bind_some (mark punct.Comma) _ (at (token (kind.Mark punct.Comma) comma ∷ inside) names) comma (at inside names) (mark_reads punct.Comma comma inside names)
    ∙ bind_some plain_word _ (at inside names) (name, line) (at rest names) (plain_reads name line names rest is)

names_many : (listed : List (List ℕ)) (turns : ℕ) (list : List (List ℕ)) (front lines : List ℕ) (names : List Binding) (rest : List Token) → length listed < turns → AreOrdinary names listed
    → many no_comma (taking comma_name with_comma_name) turns (list_read list front) (at (behind_names listed lines ++ rest) names)
    ≡ Some (list_read (list ++ listed) (front ++ names_front listed lines), at (token (kind.Mark punct.RightParenthesis) (names_last listed lines) ∷ rest) names)
unfolding names_front names_last
names_many listed zero list front lines names rest room ordinary = absurd (omega arith)
names_many [] (suc turns) list front lines names rest room ordinary =
    let closing : List Token = token (kind.Mark punct.RightParenthesis) (get_or lines 0 0) ∷ rest in
    many_stops no_comma (taking comma_name with_comma_name) turns (list_read list front) (at closing names) (ap not closing_no_comma)
    ∙ same_names list (list ++ []) front (front ++ []) closing names (sym (append-nil list)) (sym (append-nil front))
names_many (name ∷ listed) (suc turns) list front lines names rest room ordinary =
    let comma = get_or lines 0 0 in
    let line = get_or lines 1 0 in
    let more : List Token = behind_names listed (drop 2 lines) ++ rest in
    let opened : State = at (token (kind.Mark punct.Comma) comma ∷ token (kind.Word name) line ∷ more) names in
    let next = list_read (list ++ name ∷ []) ((front ++ comma ∷ []) ++ line ∷ []) in
    many_steps no_comma (taking comma_name with_comma_name) turns (list_read list front) next opened (at more names) (ap not (same_mark_refl punct.Comma))
    (takes comma_name with_comma_name (list_read list front) opened (at more names) (comma, (name, line)) (comma_name_reads name comma line names more ordinary.0))
    ∙ names_many listed turns (list ++ name ∷ []) ((front ++ comma ∷ []) ++ line ∷ []) (drop 2 lines) names rest (omega arith) ordinary.1
    ∙ same_names _ _ _ _ (token (kind.Mark punct.RightParenthesis) (names_last listed (drop 2 lines)) ∷ rest) names (append_assoc list (name ∷ []) listed)
    (append_assoc (front ++ comma ∷ []) (line ∷ []) (names_front listed (drop 2 lines)) ∙ append_assoc front (comma ∷ []) (line ∷ names_front listed (drop 2 lines)))

names_fewer : (listed : List (List ℕ)) (lines : List ℕ) → length listed ≤ length (behind_names listed lines)
names_fewer [] lines = omega arith
names_fewer (name ∷ listed) lines = let a = names_fewer listed (drop 2 lines) in omega (arith, a)

some_names_read : (name : List ℕ) (listed : List (List ℕ)) (first line : ℕ) (lines : List ℕ) (names : List Binding) (rest : List Token) → AreOrdinary names (name ∷ listed)
    → some_names first (at (token (kind.Word name) line ∷ (behind_names listed lines ++ rest)) names)
    ≡ Some (list_read (name ∷ listed) (first ∷ line ∷ names_front listed lines), at (token (kind.Mark punct.RightParenthesis) (names_last listed lines) ∷ rest) names)
unfolding some_names many_ahead
some_names_read name listed first line lines names rest ordinary =
    let more : List Token = behind_names listed lines ++ rest in
    let a = names_fewer listed lines in
    let b = length-append (behind_names listed lines) rest in
    bind_some plain_word _ (at (token (kind.Word name) line ∷ more) names) (name, line) (at more names) (plain_reads name line names more ordinary.0)
    ∙ names_many listed (suc (length more)) (name ∷ []) (first ∷ line ∷ []) lines names rest (omega (arith, a, b)) ordinary.1

identifiers_by : (of : DeclaratorRead) (listed : List (List ℕ)) (front : List ℕ) (first last : ℕ) (lines : List ℕ) (state : State) (names : List Binding) (rest : List Token)
    → names_in first state ≡ Some (list_read listed (first ∷ front), at (token (kind.Mark punct.RightParenthesis) last ∷ rest) names) → front ++ last ∷ [] ≡ lines
    → identifiers of first state ≡ Some (declarator_read (Identifiers of.tree listed (first ∷ lines)) of.own, at rest names)
unfolding identifiers
identifiers_by of listed front first last lines state names rest read e =
    let closing : State = at (token (kind.Mark punct.RightParenthesis) last ∷ rest) names in
    bind_some (names_in first) _ state (list_read listed (first ∷ front)) closing read
    ∙ bind_some (mark punct.RightParenthesis) _ closing last (at rest names) (mark_reads punct.RightParenthesis last rest names)
    ∙ ap (λ (ls : List ℕ). Some (declarator_read (Identifiers of.tree listed (first ∷ ls)) of.own, at rest names)) e

identifiers_read : (below : Below) (of : DeclaratorRead) (listed : List (List ℕ)) (first : ℕ) (lines : List ℕ) (names : List Binding) (rest : List Token)
    → may_list listed of.tree ≡ true → AreOrdinary names listed → length lines ≡ (length listed + (length listed - 1)) + 1
    → in_parentheses below of first (at (names_tokens listed lines ++ rest) names) ≡ Some (declarator_read (Identifiers of.tree listed (first ∷ lines)) of.own, at rest names)
unfolding in_parentheses names_in
identifiers_read below of [] first lines names rest may ordinary count =
    let state : State = at (token (kind.Mark punct.RightParenthesis) (get_or lines 0 0) ∷ rest) names in
    cond-true (may_name of state) _ _ (or_right (has_name of.tree) (same_mark punct.RightParenthesis punct.RightParenthesis) (same_mark_refl punct.RightParenthesis))
    ∙ identifiers_by of [] [] first (get_or lines 0 0) lines state names rest
    (cond-true (sees_mark punct.RightParenthesis state) _ _ (same_mark_refl punct.RightParenthesis)) (one_line lines (omega (arith, count)))
identifiers_read below of (name ∷ listed) first [] names rest may ordinary count = absurd (omega (arith, count))
identifiers_read below of (name ∷ listed) first (line ∷ lines) names rest may ordinary count =
    let more : List Token = behind_names listed lines ++ rest in
    let state : State = at (token (kind.Word name) line ∷ more) names in
    cond-false (shows_spec true false (sight state)) _ _ (ap (λ (b : Bool). shows_spec true false (word_sight b)) ordinary.0)
    ∙ cond-true (may_name of state) _ _ (or_left (has_name of.tree) (sees_mark punct.RightParenthesis state) may)
    ∙ identifiers_by of (name ∷ listed) (line ∷ names_front listed lines) first (names_last listed lines) (line ∷ lines) state names rest
    (cond-false (sees_mark punct.RightParenthesis state) _ _ (word_no_mark punct.RightParenthesis (is_type names name)) ∙ some_names_read name listed first line lines names rest ordinary)
    (ap (λ (ls : List ℕ). line ∷ ls) (names_lines listed lines (omega (arith, count))))

-- a list of identifiers in parentheses, which may be empty
pub identifiers_reads : (below : Below) (of : DeclaratorRead) (listed : List (List ℕ)) (lines : List ℕ) (names : List Binding) (rest : List Token)
    → may_list listed of.tree ≡ true → AreOrdinary names listed → length lines ≡ (length listed + (length listed - 1)) + 2
    → Quiet (function_or_identifiers below of) (tree.mark lines 0 punct.LeftParenthesis ∷ names_tokens listed (drop 1 lines)) (declarator_read (Identifiers of.tree listed lines) of.own) names rest
unfolding function_or_identifiers
identifiers_reads below of listed [] names rest may ordinary count = absurd (omega (arith, count))
identifiers_reads below of listed (first ∷ lines) names rest may ordinary count =
    mark_quiet punct.LeftParenthesis _ first (names_tokens listed lines) (declarator_read (Identifiers of.tree listed (first ∷ lines)) of.own) names rest
    (identifiers_read below of listed first lines names rest may ordinary (omega (arith, count)))

-- ---- parameters

module _ (below : Below) (most : ℕ) (reads : AllRead below most) where
  param_next : (p : ParamTree) (names : List Binding) (rest : List Token) → ParamFits most names p → EndsAt punct.Comma punct.RightParenthesis rest
      → Reads below.param (param_tokens p) (new_param p) p names rest
  param_next p names rest fits ends = reads.param p names rest fits ends

  param_goes : (all : ListRead ParamTree) (line : ℕ) (p : ParamTree) (names : List Binding) (rest : List Token) → ParamFits most names p
      → no_param all (at (token (kind.Mark punct.Comma) line ∷ (param_tokens p ++ rest)) names) ≡ false
  param_goes all line p names rest fits =
      ap (λ (b : Bool). not b || shows_mark punct.Ellipsis (sight_in names (param_tokens p ++ rest))) (same_mark_refl punct.Comma) ∙ param_no_dots p names rest fits.valid

  params_in_reads : (p : ParamTree) (ps : List ParamTree) (variadic : Bool) (first : ℕ) (lines : List ℕ) (names : List Binding) (rest : List Token)
      → length lines ≡ length ps + length (parenthesis variadic) → AllGood (ParamFits most) new_param names (p ∷ ps)
      → params_in below first (at (listed (parenthesis variadic) (map param_tokens (p ∷ ps)) lines ++ rest) names)
      ≡ Some (list_read (p ∷ ps) (first ∷ take (length ps) lines), at (owns (parenthesis variadic) (drop (length ps) lines) ++ rest) (names ++ each_of new_param (p ∷ ps)))
  unfolding params_in
  params_in_reads p ps variadic first lines names rest count good =
      listed_read below.param param_tokens new_param (ParamFits most) (EndsAt punct.Comma punct.RightParenthesis) no_param param_next
      (λ line more. ends_first punct.Comma punct.RightParenthesis line more)
      param_goes (parenthesis variadic) rest (λ lines count. parenthesis_ends variadic lines rest) (λ all lines names count. parenthesis_stops variadic all lines names rest)
      p ps [] (first ∷ []) lines names count good

  scoped_reads : (p : ParamTree) (ps : List ParamTree) (variadic : Bool) (first : ℕ) (lines : List ℕ) (names : List Binding) (rest : List Token)
      → length lines ≡ length ps + length (parenthesis variadic) → AllGood (ParamFits most) new_param names (p ∷ ps)
      → scoped_params below first (at (listed (parenthesis variadic) (map param_tokens (p ∷ ps)) lines ++ rest) names)
      ≡ Some (scoped_read (list_read (p ∷ ps) (first ∷ take (length ps) lines)) (each_of new_param (p ∷ ps)), at (owns (parenthesis variadic) (drop (length ps) lines) ++ rest) names)
  unfolding scoped_params
  scoped_reads p ps variadic first lines names rest count good =
      let list = list_read (p ∷ ps) (first ∷ take (length ps) lines) in
      let new = each_of new_param (p ∷ ps) in
      let behind : List Token = owns (parenthesis variadic) (drop (length ps) lines) ++ rest in
      ap (λ (r : Option (ListRead ParamTree × State)). onward r (λ all after. Some (scoped_read all (drop (length names) after.names), at after.tokens (take (length names) after.names))))
      (params_in_reads p ps variadic first lines names rest count good)
      ∙ (λ i. Some (scoped_read list (kept names new i), at behind (taken_off names new i)))

  function_by : (of : DeclaratorRead) (p : ParamTree) (ps : ParamTrees) (variadic : Bool) (first : ℕ) (lines : List ℕ) (names : List Binding) (rest : List Token)
      → length lines ≡ params_count ps + length (parenthesis variadic) → AllGood (ParamFits most) new_param names (p ∷ param_list ps)
      → function below of first (at (listed (parenthesis variadic) (params_tokens (more_params p ps)) lines ++ rest) names)
      ≡ Some (declarator_read (Function of.tree (more_params p ps) variadic (first ∷ lines)) (cond (is_identifier of.tree) (new_params (more_params p ps)) of.own), at rest names)
  unfolding function
  function_by of p ps variadic first lines names rest count good =
      let xs = param_list ps in
      let n = length xs in
      let a = params_are ps in
      let count_is : length lines ≡ n + length (parenthesis variadic) = omega (arith, a, count) in
      let list = list_read (p ∷ xs) (first ∷ take n lines) in
      let new = each_of new_param (p ∷ xs) in
      let behind : State = at (owns (parenthesis variadic) (drop n lines) ++ rest) names in
      ap (λ (ts : List (List Token)). function below of first (at (listed (parenthesis variadic) (param_tokens p ∷ ts) lines ++ rest) names)) (sym (params_texts ps))
      ∙ bind_some (scoped_params below first) _ (at (listed (parenthesis variadic) (map param_tokens (p ∷ xs)) lines ++ rest) names) (scoped_read list new) behind
      (scoped_reads p xs variadic first lines names rest count_is good)
      ∙ bind_some (params_end list) _ behind (params_read (p ∷ xs) variadic ((first ∷ take n lines) ++ drop n lines)) (at rest names)
      (end_reads variadic (p ∷ xs) (first ∷ take n lines) (drop n lines) names rest (lines_left n (length (parenthesis variadic)) lines count_is))
      ∙ (λ i. Some (
        declarator_read (Function of.tree (more_params p (params_of_list ps i)) variadic (first ∷ lines_split n lines i))
            (cond (is_identifier of.tree) (new_param p ++ params_new ps i) of.own),
        at rest names,
      ))

  -- parameters in parentheses
  pub function_reads : (of : DeclaratorRead) (ps : ParamTrees) (variadic : Bool) (lines : List ℕ) (names : List Binding) (rest : List Token) → OneOrMore (params_count ps) (AreValidParams ps)
      → ParamsStand names ps → params_depth ps ≤ most → length lines ≡ ((params_count ps - 1) + 2 * one_if variadic) + 2
      → Quiet (function_or_identifiers below of) (tree.mark lines 0 punct.LeftParenthesis ∷ listed (parenthesis variadic) (params_tokens ps) (drop 1 lines))
      (declarator_read (Function of.tree ps variadic lines) (cond (is_identifier of.tree) (new_params ps) of.own)) names rest
  unfolding function_or_identifiers in_parentheses
  function_reads of no_params variadic lines names rest valid stands deep count = let some : 0 < 0 = valid.present in absurd (omega arith)
  function_reads of (more_params p ps) variadic [] names rest valid stands deep count = absurd (omega (arith, count))
  function_reads of (more_params p ps) variadic (first ∷ lines) names rest valid stands deep count =
      let a = parenthesis_count variadic in
      let text : List Token = listed (parenthesis variadic) (params_tokens (more_params p ps)) lines in
      let behind : List Token = behind_commas (parenthesis variadic) (params_tokens ps) lines in
      let shown : shows_spec true false (sight_in names (text ++ rest)) ≡ true =
      ap (λ (ts : List Token). shows_spec true false (sight_in names ts)) (append_assoc (param_tokens p) behind rest) ∙ param_shows p names (behind ++ rest) valid.each.0 stands.0 in
      mark_quiet punct.LeftParenthesis _ first text (declarator_read (Function of.tree (more_params p ps) variadic (first ∷ lines))
      (cond (is_identifier of.tree) (new_params (more_params p ps)) of.own)) names rest
      (cond-true (shows_spec true false (sight (at (text ++ rest) names))) _ _ shown
      ∙ function_by of p ps variadic first lines names rest (omega (arith, a, count)) (params_good most (more_params p ps) names valid.each stands deep))
