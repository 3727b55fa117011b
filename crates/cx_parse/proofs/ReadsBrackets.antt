-- Qualifiers, and arrays, are read.
use Rattle.std.proofs.Common.{◌≡◌, ℕ, zero, suc, ◌+◌, ◌<◌, ◌≤◌, Bool, true, false, not, ◌&&◌, Option, Some, List, [], ◌∷◌, ◌++◌, length, get_or, take, drop, refl, sym, ap, ◌∙◌, subst, arith, append_assoc, append-nil, length-append}
use Rattle.std.proofs.lemmas.Bool.{cond-true, cond-false, true≢false, and_from}
use Rattle.cx_cursor.specs.Lists.{many, many_ahead, taking}
use Rattle.cx_cursor.specs.Reading.{State, at, bind}
use Rattle.cx_cursor.specs.Sights.{sight_in, sight_behind, shows_mark, shows_key, sees_mark, sees_key, same_mark, same_key, mark, keyword}
use Rattle.cx_cursor.specs.declared.sight.Sight.{Sight}
use Rattle.cx_cursor.specs.declared.sight.Sight.TheVariants as sights
use Rattle.cx_cursor.proofs.Readers.{bind_some, token, mark_reads, keyword_reads, same_mark_refl, same_key_refl}
use Rattle.cx_expr.specs.Below.{Below, DeclaratorRead, declarator_read}
use Rattle.cx_expr.specs.Declarators.{QualifiersRead, qualifiers_read, with_qualifier, stops_qualifiers, qualifiers, BracketsRead, brackets_read, without_size, star, static_first, static_last, sized, behind_qualifiers, in_brackets, array}
use Rattle.cx_words.specs.Beginnings.{is_no_qualifier, sees_star}
use Rattle.cx_lex.specs.declared.token.Keyword.{Keyword}
use Rattle.cx_lex.specs.declared.token.Keyword.TheVariants as keywords
use Rattle.cx_lex.specs.declared.token.Punct.TheVariants as punct
use Rattle.cx_lex.specs.declared.token.Token.{Token}
use Rattle.cx_lex.specs.declared.token.TokenKind.{TokenKind}
use Rattle.cx_lex.specs.declared.token.TokenKind.TheVariants as kind
use Rattle.cx_tree.specs.Depth.{brackets_depth}
use Rattle.cx_tree.specs.Levels.{assignment_level}
use Rattle.cx_tree.specs.Names.{Binding, new_expr, new_brackets, ExprStands, BracketsStand}
use Rattle.cx_tree.specs.Tokens as tree
use Rattle.cx_tree.specs.Tokens.{expr_tokens, owns, keys, brackets_front, behind_front, length_tokens}
use Rattle.cx_tree.specs.Trees as trees
use Rattle.cx_tree.specs.Trees.{ExprTree, BracketsTree, Unsized, Length, StaticFirst, StaticLast, Array}
use Rattle.cx_tree.specs.Valid.{AreQualifiers, AreValidBrackets, IsValidExpr}
use Rattle.cx_tree.specs.Words.{is_qualifier}
use Rattle.cx_parse.proofs.ExprEdges.{begins_expr, expr_begins, begins_no_mark, expr_no_mark, expr_no_key, star_behind}
use Rattle.cx_parse.proofs.ReadsCommas.{lines_split, lines_left, last_line}
use Rattle.cx_parse.proofs.ReadsMembers.{bracket_ends, mark_ends}
use Rattle.cx_parse.proofs.ReadsSteps.{Quiet, quiet_then, then_quiet, quiet_reads, mark_then, mark_last, key_then, read_as, many_stops, many_steps, takes}
use Rattle.cx_parse.proofs.Stood.{ExprFits, Reads, AllRead}

-- ---- lines of own tokens

drop_none : (count : ℕ) → [] ≡ drop {A = ℕ} count []
drop_none zero = refl
drop_none (suc count) = refl

-- own tokens side by side, in two parts
pub owns_both : (kinds more : List TokenKind) (lines : List ℕ) → owns (kinds ++ more) lines ≡ owns kinds lines ++ owns more (drop (length kinds) lines)
owns_both [] more lines = refl
owns_both (k ∷ kinds) more [] =
    ap (λ (ts : List Token). tree.own [] 0 k ∷ ts) (owns_both kinds more [] ∙ ap (λ (ls : List ℕ). owns kinds [] ++ owns more ls) (sym (drop_none (length kinds))))
owns_both (k ∷ kinds) more (line ∷ lines) = ap (λ (ts : List Token). tree.own (line ∷ lines) 0 k ∷ ts) (owns_both kinds more lines)

pub keys_count : (words : List Keyword) → length (keys words) ≡ length words
keys_count [] = refl
keys_count (word ∷ words) = ap suc (keys_count words)

-- the lines behind qualifiers and one token more
drop_more : (words : List Keyword) (k : TokenKind) (lines : List ℕ) → drop (length (keys words ++ k ∷ [])) lines ≡ drop 1 (drop (length words) lines)
drop_more [] k lines = refl
drop_more (word ∷ words) k [] = sym (drop_none 1)
drop_more (word ∷ words) k (line ∷ lines) = drop_more words k lines

-- ---- qualifiers

qualifier_no_static : (word : Keyword) → is_qualifier word ≡ true → same_key word keywords.Static ≡ false
unfolding is_qualifier same_key
qualifier_no_static keywords.Const is = refl
qualifier_no_static keywords.Restrict is = refl
qualifier_no_static _ is = absurd (true≢false (sym is))

qualifiers_no_static : (words : List Keyword) (lines : List ℕ) (names : List Binding) (more : List Token) → AreQualifiers words → shows_key keywords.Static (sight_in names more) ≡ false
    → shows_key keywords.Static (sight_in names (owns (keys words) lines ++ more)) ≡ false
qualifiers_no_static [] lines names more valid none = none
qualifiers_no_static (word ∷ words) lines names more valid none = qualifier_no_static word valid.0

same_read : (words list : List Keyword) (lines marks : List ℕ) (rest : List Token) (names : List Binding) → words ≡ list → lines ≡ marks
    → ◌≡◌ {A = Option (QualifiersRead × State)} (Some (qualifiers_read words lines, at rest names)) (Some (qualifiers_read list marks, at rest names))
same_read words list lines marks rest names e f = λ i. Some (qualifiers_read (e i) (f i), at rest names)

qualifiers_many : (words : List Keyword) (turns : ℕ) (list : List Keyword) (front lines : List ℕ) (names : List Binding) (rest : List Token) → length words < turns → AreQualifiers words
    → length words ≤ length lines → is_no_qualifier (sight_in names rest) ≡ true
    → many stops_qualifiers (taking keyword with_qualifier) turns (qualifiers_read list front) (at (owns (keys words) lines ++ rest) names)
    ≡ Some (qualifiers_read (list ++ words) (front ++ take (length words) lines), at rest names)
qualifiers_many words zero list front lines names rest room valid enough stop = absurd (omega arith)
qualifiers_many [] (suc turns) list front lines names rest room valid enough stop =
    many_stops stops_qualifiers (taking keyword with_qualifier) turns (qualifiers_read list front) (at rest names) stop
    ∙ same_read list (list ++ []) front (front ++ []) rest names (sym (append-nil list)) (sym (append-nil front))
qualifiers_many (word ∷ words) (suc turns) list front [] names rest room valid enough stop = absurd (omega arith)
qualifiers_many (word ∷ words) (suc turns) list front (line ∷ lines) names rest room valid enough stop =
    let more : List Token = owns (keys words) lines ++ rest in
    let opened : State = at (token (kind.Key word) line ∷ more) names in
    many_steps stops_qualifiers (taking keyword with_qualifier) turns (qualifiers_read list front) (qualifiers_read (list ++ word ∷ []) (front ++ line ∷ [])) opened (at more names)
    (ap not valid.0)
    (takes keyword with_qualifier (qualifiers_read list front) opened (at more names) (word, line) (keyword_reads word line more names))
    ∙ qualifiers_many words turns (list ++ word ∷ []) (front ++ line ∷ []) lines names rest (omega arith) valid.1 (omega arith) stop
    ∙ same_read _ _ _ _ rest names (append_assoc list (word ∷ []) words) (append_assoc front (line ∷ []) (take (length words) lines))

owns_count : (kinds : List TokenKind) (lines : List ℕ) → length (owns kinds lines) ≡ length kinds
owns_count [] lines = refl
owns_count (k ∷ kinds) lines = ap suc (owns_count kinds (drop 1 lines))

-- qualifiers, where none stands behind them
pub qualifiers_reads : (words : List Keyword) (front lines : List ℕ) (names : List Binding) (rest : List Token) → AreQualifiers words → length words ≤ length lines
    → is_no_qualifier (sight_in names rest) ≡ true
    → Quiet (qualifiers front) (owns (keys words) lines) (qualifiers_read words (front ++ take (length words) lines)) names rest
unfolding qualifiers many_ahead
qualifiers_reads words front lines names rest valid enough stop =
    let a = owns_count (keys words) lines in
    let b = keys_count words in
    let c = length-append (owns (keys words) lines) rest in
    qualifiers_many words (suc (length (owns (keys words) lines ++ rest))) [] front lines names rest (omega (arith, a, b, c)) valid enough stop

-- ---- what an expression in brackets shows

sizeof_no_qualifier : (k : Keyword) → same_key k keywords.Sizeof ≡ true → not (is_qualifier k) ≡ true
unfolding is_qualifier same_key
sizeof_no_qualifier keywords.Const is = absurd (true≢false (sym is))
sizeof_no_qualifier keywords.Restrict is = absurd (true≢false (sym is))
sizeof_no_qualifier _ is = refl

begins_no_qualifier : (e : ExprTree) (names : List Binding) (rest : List Token) → IsValidExpr e → ExprStands names e → is_no_qualifier (sight_in names (expr_tokens e ++ rest)) ≡ true
begins_no_qualifier e names rest valid stands = by_sight (sight_in names (expr_tokens e ++ rest)) (expr_begins e names rest valid stands) where
  by_sight : (s : Sight) → begins_expr s ≡ true → is_no_qualifier s ≡ true
  by_sight (sights.Key k) begins = sizeof_no_qualifier k begins
  by_sight (sights.Mark p) begins = refl
  by_sight sights.Word begins = refl
  by_sight sights.TypeWord begins = refl
  by_sight sights.Number begins = refl
  by_sight sights.Letter begins = refl
  by_sight sights.Text begins = refl
  by_sight sights.End begins = refl

star_no_bracket : same_mark punct.Star punct.RightBracket ≡ false
unfolding same_mark
star_no_bracket = refl

sizeof_no_static : same_key keywords.Sizeof keywords.Static ≡ false
unfolding same_key
sizeof_no_static = refl

-- an expression isn't a star alone
expr_no_star : (e : ExprTree) (names : List Binding) (rest : List Token) → IsValidExpr e → ExprStands names e → sees_star (at (expr_tokens e ++ rest) names) ≡ false
expr_no_star e names rest valid stands = by_star (sees_mark punct.Star (at (expr_tokens e ++ rest) names)) refl where
  by_star : (b : Bool) → sees_mark punct.Star (at (expr_tokens e ++ rest) names) ≡ b → (b && shows_mark punct.RightBracket (sight_behind (at (expr_tokens e ++ rest) names))) ≡ false
  by_star false is = refl
  by_star true is = begins_no_mark punct.RightBracket (sight_behind (at (expr_tokens e ++ rest) names)) (star_behind e names rest valid stands is) refl

static_no_qualifier : not (is_qualifier keywords.Static) ≡ true
unfolding is_qualifier
static_no_qualifier = refl

-- the tokens of brackets
abbrev pub brackets_text : BracketsTree → List ℕ → List Token
brackets_text brackets lines = owns (brackets_front brackets) lines ++ (length_tokens brackets ++ tree.mark (behind_front brackets lines) 0 punct.RightBracket ∷ [])

-- ---- what stands in brackets behind the qualifiers

unsized_reads : (below : Below) (q : QualifiersRead) (ends : List ℕ) (names : List Binding) (rest : List Token) → length ends ≡ 1
    → Quiet (behind_qualifiers below q) (tree.mark ends 0 punct.RightBracket ∷ []) (brackets_read (Unsized q.list) (q.lines ++ ends)) names rest
unfolding behind_qualifiers without_size
unsized_reads below q [] names rest count = absurd (omega arith)
unsized_reads below q (last ∷ []) names rest count =
    let state : State = at (token (kind.Mark punct.RightBracket) last ∷ rest) names in
    cond-true (sees_mark punct.RightBracket state) _ _ (same_mark_refl punct.RightBracket)
    ∙ bind_some (mark punct.RightBracket) _ state last (at rest names) (mark_reads punct.RightBracket last rest names)
unsized_reads below q (last ∷ more ∷ ends) names rest count = absurd (omega arith)

star_reads : (below : Below) (q : QualifiersRead) (ends : List ℕ) (names : List Binding) (rest : List Token) → length ends ≡ 2
    → Quiet (behind_qualifiers below q) (tree.mark ends 0 punct.Star ∷ tree.mark (drop 1 ends) 0 punct.RightBracket ∷ []) (brackets_read (trees.Star q.list) (q.lines ++ ends)) names rest
unfolding behind_qualifiers star
star_reads below q [] names rest count = absurd (omega arith)
star_reads below q (line ∷ []) names rest count = absurd (omega arith)
star_reads below q (line ∷ last ∷ []) names rest count =
    let closing : List Token = token (kind.Mark punct.RightBracket) last ∷ rest in
    let state : State = at (token (kind.Mark punct.Star) line ∷ closing) names in
    let alone : sees_star state ≡ true = and_from (same_mark punct.Star punct.Star) (same_mark punct.RightBracket punct.RightBracket) (same_mark_refl punct.Star) (same_mark_refl punct.RightBracket) in
    cond-false (sees_mark punct.RightBracket state) _ _ star_no_bracket
    ∙ cond-true (sees_star state) _ _ alone
    ∙ bind_some (mark punct.Star) _ state line (at closing names) (mark_reads punct.Star line closing names)
    ∙ bind_some (mark punct.RightBracket) _ (at closing names) last (at rest names) (mark_reads punct.RightBracket last rest names)
star_reads below q (line ∷ last ∷ more ∷ ends) names rest count = absurd (omega arith)

module _ (below : Below) (most : ℕ) (reads : AllRead below most) where
  -- an expression and the closing bracket
  length_reads : {B : Type 0} (make : ExprTree → ℕ → B) (e : ExprTree) (line : ℕ) (names : List Binding) (rest : List Token) → ExprFits most assignment_level names e
      → Reads (bind (below.expr assignment_level) (λ e. bind (mark punct.RightBracket) (λ last. λ s. Some (make e last, s)))) (expr_tokens e ++ token (kind.Mark punct.RightBracket) line ∷ []) (new_expr e)
      (make e line) names rest
  length_reads make e line names rest fits =
      then_quiet (below.expr assignment_level) (λ e. bind (mark punct.RightBracket) (λ last. λ s. Some (make e last, s))) (expr_tokens e) (token (kind.Mark punct.RightBracket) line ∷ [])
      (new_expr e) e (make e line) names rest
      (reads.expr e assignment_level names (token (kind.Mark punct.RightBracket) line ∷ rest) (omega arith) (omega arith) fits
      (mark_ends assignment_level punct.RightBracket line rest (bracket_ends assignment_level (omega arith))))
      (mark_last punct.RightBracket (make e) line (names ++ new_expr e) rest)

  sized_reads : (q : QualifiersRead) (e : ExprTree) (ends : List ℕ) (names : List Binding) (rest : List Token) → length ends ≡ 1 → ExprFits most assignment_level names e
      → Reads (behind_qualifiers below q) (expr_tokens e ++ tree.mark ends 0 punct.RightBracket ∷ []) (new_expr e) (brackets_read (Length q.list e) (q.lines ++ ends)) names rest
  unfolding behind_qualifiers sized
  sized_reads q e [] names rest count fits = absurd (omega arith)
  sized_reads q e (last ∷ []) names rest count fits =
      let behind : List Token = token (kind.Mark punct.RightBracket) last ∷ [] in
      let state : State = at ((expr_tokens e ++ behind) ++ rest) names in
      let front : (expr_tokens e ++ behind) ++ rest ≡ expr_tokens e ++ (behind ++ rest) = append_assoc (expr_tokens e) behind rest in
      cond-false (sees_key keywords.Static state) _ _
      (ap (λ (ts : List Token). sees_key keywords.Static (at ts names)) front ∙ expr_no_key keywords.Static e names (behind ++ rest) fits.valid.valid fits.stands sizeof_no_static)
      ∙ cond-false (sees_mark punct.RightBracket state) _ _
      (ap (λ (ts : List Token). sees_mark punct.RightBracket (at ts names)) front ∙ expr_no_mark punct.RightBracket e names (behind ++ rest) fits.valid.valid fits.stands refl)
      ∙ cond-false (sees_star state) _ _
      (ap (λ (ts : List Token). sees_star (at ts names)) front ∙ expr_no_star e names (behind ++ rest) fits.valid.valid fits.stands)
      ∙ length_reads (λ e last. brackets_read (Length q.list e) (q.lines ++ last ∷ [])) e last names rest fits
  sized_reads q e (last ∷ more ∷ ends) names rest count fits = absurd (omega arith)

  static_last_reads : (q : QualifiersRead) (e : ExprTree) (ends : List ℕ) (names : List Binding) (rest : List Token) → length ends ≡ 2 → ExprFits most assignment_level names e
      → Reads (behind_qualifiers below q) (tree.key ends 0 keywords.Static ∷ (expr_tokens e ++ tree.mark (drop 1 ends) 0 punct.RightBracket ∷ [])) (new_expr e)
      (brackets_read (StaticLast q.list e) (q.lines ++ ends)) names rest
  unfolding behind_qualifiers static_last
  static_last_reads q e [] names rest count fits = absurd (omega arith)
  static_last_reads q e (line ∷ []) names rest count fits = absurd (omega arith)
  static_last_reads q e (line ∷ last ∷ []) names rest count fits =
      let inside : List Token = expr_tokens e ++ token (kind.Mark punct.RightBracket) last ∷ [] in
      cond-true (sees_key keywords.Static (at (token (kind.Key keywords.Static) line ∷ (inside ++ rest)) names)) _ _ (same_key_refl keywords.Static)
      ∙ key_then keywords.Static _ line inside (new_expr e) (brackets_read (StaticLast q.list e) (q.lines ++ line ∷ last ∷ [])) names rest
      (length_reads (λ e last. brackets_read (StaticLast q.list e) (q.lines ++ line ∷ last ∷ [])) e last names rest fits)
  static_last_reads q e (line ∷ last ∷ more ∷ ends) names rest count fits = absurd (omega arith)

  -- ---- what stands in brackets

  -- qualifiers, and what stands behind them
  qualified_reads : (words : List Keyword) (front lines : List ℕ) (more : List Token) (new : List Binding) (read : BracketsRead) (names : List Binding) (rest : List Token) → AreQualifiers words
      → length words ≤ length lines → shows_key keywords.Static (sight_in names (owns (keys words) lines ++ (more ++ rest))) ≡ false → is_no_qualifier (sight_in names (more ++ rest)) ≡ true
      → Reads (behind_qualifiers below (qualifiers_read words (front ++ take (length words) lines))) more new read names rest
      → Reads (in_brackets below front) (owns (keys words) lines ++ more) new read names rest
  unfolding in_brackets
  qualified_reads words front lines more new read names rest valid enough none stop second =
      let text : (owns (keys words) lines ++ more) ++ rest ≡ owns (keys words) lines ++ (more ++ rest) = append_assoc (owns (keys words) lines) more rest in
      cond-false (sees_key keywords.Static (at ((owns (keys words) lines ++ more) ++ rest) names)) _ _ (ap (λ (ts : List Token). sees_key keywords.Static (at ts names)) text ∙ none)
      ∙ quiet_then (qualifiers front) (λ q. behind_qualifiers below q) (owns (keys words) lines) more new (qualifiers_read words (front ++ take (length words) lines)) read names rest
      (qualifiers_reads words front lines names (more ++ rest) valid enough stop) second

  -- the lines in front, those of qualifiers, and those that end it, are all of them
  all_lines : (front lines : List ℕ) (count : ℕ) → (front ++ take count lines) ++ drop count lines ≡ front ++ lines
  all_lines front lines count = append_assoc front (take count lines) (drop count lines) ∙ ap (λ (ls : List ℕ). front ++ ls) (lines_split count lines)

  with_lines : (brackets : BracketsTree) (front lines : List ℕ) (inside : List Token) (new : List Binding) (names : List Binding) (rest : List Token) (count : ℕ)
      → Reads (in_brackets below front) inside new (brackets_read brackets ((front ++ take count lines) ++ drop count lines)) names rest
      → Reads (in_brackets below front) inside new (brackets_read brackets (front ++ lines)) names rest
  with_lines brackets front lines inside new names rest count read =
      subst (λ (ls : List ℕ). Reads (in_brackets below front) inside new (brackets_read brackets ls) names rest) (all_lines front lines count) read

  unsized_in : (words : List Keyword) (front lines : List ℕ) (names : List Binding) (rest : List Token) → AreQualifiers words → length lines ≡ length words + 1
      → Reads (in_brackets below front) (owns (keys words) lines ++ tree.mark (drop (length (keys words)) lines) 0 punct.RightBracket ∷ []) [] (brackets_read (Unsized words) (front ++ lines)) names rest
  unsized_in words front lines names rest valid count =
      let n = length words in
      let ends = drop n lines in
      let behind : List ℕ → List Token = λ ends. tree.mark ends 0 punct.RightBracket ∷ [] in
      subst (λ (k : ℕ). Reads (in_brackets below front) (owns (keys words) lines ++ behind (drop k lines)) [] (brackets_read (Unsized words) (front ++ lines)) names rest) (sym (keys_count words))
      (with_lines (Unsized words) front lines (owns (keys words) lines ++ behind ends) [] names rest n
      (qualified_reads words front lines (behind ends) [] (brackets_read (Unsized words) ((front ++ take n lines) ++ ends)) names rest valid (omega (arith, count))
      (qualifiers_no_static words lines names (behind ends ++ rest) valid refl) refl
      (quiet_reads (behind_qualifiers below (qualifiers_read words (front ++ take n lines))) (behind ends) (brackets_read (Unsized words) ((front ++ take n lines) ++ ends)) names rest
      (unsized_reads below (qualifiers_read words (front ++ take n lines)) ends names rest (lines_left n 1 lines count)))))

  length_in : (words : List Keyword) (e : ExprTree) (front lines : List ℕ) (names : List Binding) (rest : List Token) → AreQualifiers words → ExprFits most assignment_level names e
      → length lines ≡ length words + 1
      → Reads (in_brackets below front) (owns (keys words) lines ++ (expr_tokens e ++ tree.mark (drop (length (keys words)) lines) 0 punct.RightBracket ∷ [])) (new_expr e)
      (brackets_read (Length words e) (front ++ lines)) names rest
  length_in words e front lines names rest valid fits count =
      let n = length words in
      let ends = drop n lines in
      let behind : List ℕ → List Token = λ ends. expr_tokens e ++ tree.mark ends 0 punct.RightBracket ∷ [] in
      let more : List Token = tree.mark ends 0 punct.RightBracket ∷ rest in
      let text : behind ends ++ rest ≡ expr_tokens e ++ more = append_assoc (expr_tokens e) (tree.mark ends 0 punct.RightBracket ∷ []) rest in
      subst (λ (k : ℕ). Reads (in_brackets below front) (owns (keys words) lines ++ behind (drop k lines)) (new_expr e) (brackets_read (Length words e) (front ++ lines)) names rest)
      (sym (keys_count words))
      (with_lines (Length words e) front lines (owns (keys words) lines ++ behind ends) (new_expr e) names rest n
      (qualified_reads words front lines (behind ends) (new_expr e) (brackets_read (Length words e) ((front ++ take n lines) ++ ends)) names rest valid (omega (arith, count))
      (qualifiers_no_static words lines names (behind ends ++ rest) valid
      (ap (λ (ts : List Token). shows_key keywords.Static (sight_in names ts)) text ∙ expr_no_key keywords.Static e names more fits.valid.valid fits.stands sizeof_no_static))
      (ap (λ (ts : List Token). is_no_qualifier (sight_in names ts)) text ∙ begins_no_qualifier e names more fits.valid.valid fits.stands)
      (sized_reads (qualifiers_read words (front ++ take n lines)) e ends names rest (lines_left n 1 lines count) fits)))

  static_last_in : (word : Keyword) (words : List Keyword) (e : ExprTree) (front lines : List ℕ) (names : List Binding) (rest : List Token) → AreQualifiers (word ∷ words)
      → ExprFits most assignment_level names e → length lines ≡ length (word ∷ words) + 2
      → Reads (in_brackets below front) (owns (keys (word ∷ words)) lines ++ (tree.key (drop (length (word ∷ words)) lines) 0 keywords.Static
      ∷ (expr_tokens e ++ tree.mark (drop 1 (drop (length (word ∷ words)) lines)) 0 punct.RightBracket ∷ []))) (new_expr e)
      (brackets_read (StaticLast (word ∷ words) e) (front ++ lines)) names rest
  static_last_in word words e front lines names rest valid fits count =
      let all = word ∷ words in
      let n = length all in
      let ends = drop n lines in
      let behind : List Token = tree.key ends 0 keywords.Static ∷ (expr_tokens e ++ tree.mark (drop 1 ends) 0 punct.RightBracket ∷ []) in
      with_lines (StaticLast all e) front lines (owns (keys all) lines ++ behind) (new_expr e) names rest n
      (qualified_reads all front lines behind (new_expr e) (brackets_read (StaticLast all e) ((front ++ take n lines) ++ ends)) names rest valid (omega (arith, count))
      (qualifier_no_static word valid.0) static_no_qualifier
      (static_last_reads (qualifiers_read all (front ++ take n lines)) e ends names rest (lines_left n 2 lines count) fits))

  star_in : (words : List Keyword) (front lines : List ℕ) (names : List Binding) (rest : List Token) → AreQualifiers words → length lines ≡ length words + 2
      → Reads (in_brackets below front) (owns (keys words) lines ++ (tree.mark (drop (length words) lines) 0 punct.Star ∷ tree.mark (drop 1 (drop (length words) lines)) 0 punct.RightBracket ∷ [])) []
      (brackets_read (trees.Star words) (front ++ lines)) names rest
  star_in words front lines names rest valid count =
      let n = length words in
      let ends = drop n lines in
      let behind : List Token = tree.mark ends 0 punct.Star ∷ tree.mark (drop 1 ends) 0 punct.RightBracket ∷ [] in
      with_lines (trees.Star words) front lines (owns (keys words) lines ++ behind) [] names rest n
      (qualified_reads words front lines behind [] (brackets_read (trees.Star words) ((front ++ take n lines) ++ ends)) names rest valid (omega (arith, count))
      (qualifiers_no_static words lines names (behind ++ rest) valid refl) refl
      (quiet_reads (behind_qualifiers below (qualifiers_read words (front ++ take n lines))) behind (brackets_read (trees.Star words) ((front ++ take n lines) ++ ends)) names rest
      (star_reads below (qualifiers_read words (front ++ take n lines)) ends names rest (lines_left n 2 lines count))))

  static_first_in : (words : List Keyword) (e : ExprTree) (front : List ℕ) (line : ℕ) (lines : List ℕ) (names : List Binding) (rest : List Token) → AreQualifiers words
      → ExprFits most assignment_level names e → length lines ≡ length words + 1
      → Reads (in_brackets below front) (token (kind.Key keywords.Static) line ∷ (owns (keys words) lines ++ (expr_tokens e ++ tree.mark (drop (length (keys words)) lines) 0 punct.RightBracket ∷ []))) (new_expr e)
      (brackets_read (StaticFirst words e) (front ++ line ∷ lines)) names rest
  unfolding in_brackets static_first
  static_first_in words e front line lines names rest valid fits count =
      let n = length words in
      let ends = drop n lines in
      let last = get_or ends 0 0 in
      let marks = (front ++ line ∷ []) ++ take n lines in
      let behind : List ℕ → List Token = λ ends. expr_tokens e ++ tree.mark ends 0 punct.RightBracket ∷ [] in
      let more : List Token = token (kind.Mark punct.RightBracket) last ∷ rest in
      let text : behind ends ++ rest ≡ expr_tokens e ++ more = append_assoc (expr_tokens e) (token (kind.Mark punct.RightBracket) last ∷ []) rest in
      let lines_are : marks ++ last ∷ [] ≡ front ++ line ∷ lines =
      append_assoc (front ++ line ∷ []) (take n lines) (last ∷ []) ∙ ap (λ (ls : List ℕ). (front ++ line ∷ []) ++ ls) (last_line n lines count) ∙ append_assoc front (line ∷ []) lines in
      let R : ℕ → List ℕ → Type 0 = λ k ls.
      Reads (in_brackets below front) (token (kind.Key keywords.Static) line ∷ (owns (keys words) lines ++ behind (drop k lines))) (new_expr e)
      (brackets_read (StaticFirst words e) ls) names rest in
      subst (λ (k : ℕ). R k (front ++ line ∷ lines)) (sym (keys_count words)) (subst (λ (ls : List ℕ). R n ls) lines_are
      (cond-true (sees_key keywords.Static (at (token (kind.Key keywords.Static) line ∷ ((owns (keys words) lines ++ behind ends) ++ rest)) names)) _ _ (same_key_refl keywords.Static)
      ∙ key_then keywords.Static _ line (owns (keys words) lines ++ behind ends) (new_expr e) (brackets_read (StaticFirst words e) (marks ++ last ∷ [])) names rest
      (quiet_then (qualifiers (front ++ line ∷ [])) _ (owns (keys words) lines) (behind ends) (new_expr e) (qualifiers_read words marks)
      (brackets_read (StaticFirst words e) (marks ++ last ∷ [])) names rest
      (qualifiers_reads words (front ++ line ∷ []) lines names (behind ends ++ rest) valid (omega (arith, count))
      (ap (λ (ts : List Token). is_no_qualifier (sight_in names ts)) text ∙ begins_no_qualifier e names more fits.valid.valid fits.stands))
      (length_reads (λ e last. brackets_read (StaticFirst words e) (marks ++ last ∷ [])) e last names rest fits))))

  -- ---- arrays

  array_by : (of : DeclaratorRead) (brackets : BracketsTree) (line : ℕ) (lines : List ℕ) (inside : List Token) (names : List Binding) (rest : List Token)
      → Reads (in_brackets below (line ∷ [])) inside (new_brackets brackets) (brackets_read brackets (line ∷ lines)) names rest
      → Reads (array below of) (token (kind.Mark punct.LeftBracket) line ∷ inside) (new_brackets brackets) (declarator_read (Array of.tree brackets (line ∷ lines)) of.own) names rest
  unfolding array
  array_by of brackets line lines inside names rest read =
      mark_then punct.LeftBracket _ line inside (new_brackets brackets) (declarator_read (Array of.tree brackets (line ∷ lines)) of.own) names rest
      (read_as (in_brackets below (line ∷ [])) (λ read. declarator_read (Array of.tree read.brackets read.lines) of.own) inside (new_brackets brackets)
      (brackets_read brackets (line ∷ lines)) names rest read)

  -- where one token more stands behind the qualifiers
  text_more : (words : List Keyword) (k : TokenKind) (lines : List ℕ) (more : List ℕ → List Token)
      → owns (keys words ++ k ∷ []) lines ++ more (drop (length (keys words ++ k ∷ [])) lines)
      ≡ owns (keys words) lines ++ (tree.own (drop (length words) lines) 0 k ∷ more (drop 1 (drop (length words) lines)))
  text_more words k lines more =
      ap (λ (ls : List ℕ). owns (keys words ++ k ∷ []) lines ++ more ls) (drop_more words k lines)
      ∙ ap (λ (ts : List Token). ts ++ more (drop 1 (drop (length words) lines))) (owns_both (keys words) (k ∷ []) lines
      ∙ ap (λ (n : ℕ). owns (keys words) lines ++ owns (k ∷ []) (drop n lines)) (keys_count words))
      ∙ append_assoc (owns (keys words) lines) (tree.own (drop (length words) lines) 0 k ∷ []) (more (drop 1 (drop (length words) lines)))

  pub array_reads : (of : DeclaratorRead) (brackets : BracketsTree) (lines : List ℕ) (names : List Binding) (rest : List Token) → AreValidBrackets brackets → BracketsStand names brackets
      → brackets_depth brackets ≤ most → length lines ≡ length (brackets_front brackets) + 1
      → Reads (array below of) (brackets_text brackets lines) (new_brackets brackets) (declarator_read (Array of.tree brackets lines) of.own) names rest
  array_reads of brackets [] names rest valid stands deep count = absurd (omega (arith, count))
  array_reads of (Unsized words) (line ∷ lines) names rest valid stands deep count =
      let a = keys_count words in
      array_by of (Unsized words) line lines (owns (keys words) lines ++ tree.mark (drop (length (keys words)) lines) 0 punct.RightBracket ∷ []) names rest
      (unsized_in words (line ∷ []) lines names rest valid (omega (arith, a, count)))
  array_reads of (Length words e) (line ∷ lines) names rest valid stands deep count =
      let a = keys_count words in
      array_by of (Length words e) line lines (owns (keys words) lines ++ (expr_tokens e ++ tree.mark (drop (length (keys words)) lines) 0 punct.RightBracket ∷ [])) names rest
      (length_in words e (line ∷ []) lines names rest valid.0 (record { valid = valid.1; stands = stands; deep = deep }) (omega (arith, a, count)))
  array_reads of (StaticFirst words e) (line ∷ []) names rest valid stands deep count = absurd (omega (arith, count))
  array_reads of (StaticFirst words e) (line ∷ k ∷ lines) names rest valid stands deep count =
      let a = keys_count words in
      array_by of (StaticFirst words e) line (k ∷ lines) (token (kind.Key keywords.Static) k ∷
      (owns (keys words) lines ++ (expr_tokens e ++ tree.mark (drop (length (keys words)) lines) 0 punct.RightBracket ∷ []))) names rest
      (static_first_in words e (line ∷ []) k lines names rest valid.0 (record { valid = valid.1; stands = stands; deep = deep }) (omega (arith, a, count)))
  array_reads of (StaticLast [] e) (line ∷ lines) names rest valid stands deep count = let some : 0 < 0 = valid.0.present in absurd (omega (arith, some))
  array_reads of (StaticLast (word ∷ words) e) (line ∷ lines) names rest valid stands deep count =
      let all = word ∷ words in
      let a = keys_count words in
      let b = length-append (keys all) (kind.Key keywords.Static ∷ []) in
      let more : List ℕ → List Token = λ ls. expr_tokens e ++ tree.mark ls 0 punct.RightBracket ∷ [] in
      array_by of (StaticLast all e) line lines (owns (keys all ++ kind.Key keywords.Static ∷ []) lines ++ more (drop (length (keys all ++ kind.Key keywords.Static ∷ [])) lines)) names rest
      (subst (λ (ts : List Token). Reads (in_brackets below (line ∷ [])) ts (new_expr e) (brackets_read (StaticLast all e) (line ∷ lines)) names rest)
      (sym (text_more all (kind.Key keywords.Static) lines more))
      (static_last_in word words e (line ∷ []) lines names rest valid.0.each (record { valid = valid.1; stands = stands; deep = deep }) (omega (arith, a, b, count))))
  array_reads of (trees.Star words) (line ∷ lines) names rest valid stands deep count =
      let a = keys_count words in
      let b = length-append (keys words) (kind.Mark punct.Star ∷ []) in
      let more : List ℕ → List Token = λ ls. tree.mark ls 0 punct.RightBracket ∷ [] in
      array_by of (trees.Star words) line lines (owns (keys words ++ kind.Mark punct.Star ∷ []) lines ++ more (drop (length (keys words ++ kind.Mark punct.Star ∷ [])) lines)) names rest
      (subst (λ (ts : List Token). Reads (in_brackets below (line ∷ [])) ts [] (brackets_read (trees.Star words) (line ∷ lines)) names rest) (sym (text_more words (kind.Mark punct.Star) lines more))
      (star_in words (line ∷ []) lines names rest valid (omega (arith, a, b, count))))
