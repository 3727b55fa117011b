-- What begins with no left operand is read.
use Rattle.std.proofs.Common.{◌≡◌, ℕ, ℤ, zero, suc, ◌<◌, ◌≤◌, Bool, true, false, not, ◌&&◌, nat_le, cond, Some, List, [], ◌∷◌, ◌++◌, length, get_or, drop, refl, sym, ap, ◌∙◌, subst, arith, lit≤, append_assoc, length-append}
use Rattle.std.specs.Prelude.{IsTrue}
use Rattle.std.proofs.lemmas.Bool.{cond-true, cond-false, true≢false, and_parts}
use Rattle.std.proofs.lemmas.Bool.Decides.{nat_tests}
use Rattle.std.proofs.lemmas.List.{append-nil}
use Rattle.cx_cursor.specs.Lists.{ListRead, list_read, many, many_ahead, taking}
use Rattle.cx_cursor.specs.Reading.{State, at, Reader, bind}
use Rattle.cx_cursor.specs.Sights as read
use Rattle.cx_cursor.specs.Sights.{sight, sight_of, sight_behind, word_sight, shows_mark, shows_text, same_mark, same_key, sees_mark}
use Rattle.cx_cursor.proofs.Readers.{bind_some, token, word_reads, number_reads, letter_reads, text_reads}
use Rattle.cx_expr.specs.Below.{Below}
use Rattle.cx_words.specs.Continuations.{continuation_of_mark, continuation_of_other}
use Rattle.cx_expr.specs.Exprs.{name, constant, character, no_text, with_text, texts, TypeRead, type_read, typed, literal_of, cast_of, behind_type, paren, parenthesised, unary, start_mark, start_by, start}
use Rattle.cx_words.specs.Beginnings.{begins_type, sees_type}
use Rattle.cx_lex.specs.declared.token.Punct.{Punct}
use Rattle.cx_lex.specs.declared.token.Punct.TheVariants as punct
use Rattle.cx_lex.specs.declared.token.Token.{Token}
use Rattle.cx_lex.specs.declared.token.TokenKind.TheVariants as kind
use Rattle.cx_lex.specs.declared.token.Ty0.{Ty0}
use Rattle.cx_parse.proofs.ExprEdges.{expr_no_spec, expr_no_mark}
use Rattle.cx_parse.proofs.Operands.{spine}
use Rattle.cx_parse.proofs.ReadsRules.{reads_is, reads_none, part_then, part_last, mark_then, part_closed, ends_by}
use Rattle.cx_parse.proofs.ReadsSteps.{one_line, two_lines}
use Rattle.cx_parse.proofs.ReadsTails.{expr_reads}
use Rattle.cx_parse.proofs.ReadsSights.{spec_shows}
use Rattle.cx_parse.proofs.Stood.{Reads, TypeNameFits, ListFits, EndsExpr, EndsDeclarator, AllRead}
use Rattle.cx_tree.specs.Depth.{expr_depth}
use Rattle.cx_tree.specs.Levels.{level, binary_level, is_unary_operator, is_assignment_operator}
use Rattle.cx_tree.specs.Names.{Binding, is_type, new_expr, new_type_name, new_initialiser_list, ExprStands, TypeNameStands}
use Rattle.cx_tree.specs.Tokens.{mark, texts_tokens, expr_tokens, specs_tokens, spec_tokens, declarator_tokens, type_name_tokens, initialiser_list_tokens}
use Rattle.cx_tree.specs.Trees.{ExprTree, Name, Number, Letter, Text, Paren, Literal, PreUp, PreDown, Unary, SizeofExpr, SizeofType, Cast, TypeNameTree, TypeName, no_specs, more_specs, InitialiserListTree, InitialiserList}
use Rattle.cx_tree.specs.Valid.{Lines, IsValidExpr, IsValidTypeName, is_qualifying, are_qualifying, has_name}

-- ---- type names in parentheses

-- a type name behind a parenthesis is seen
pub type_seen : (type : TypeNameTree) (line : ℕ) (names : List Binding) (more : List Token) → IsValidTypeName type → TypeNameStands names type
    → sees_type (at (token (kind.Mark punct.LeftParenthesis) line ∷ (type_name_tokens type ++ more)) names) ≡ true
unfolding same_mark
type_seen (TypeName no_specs declarator lines) line names more v stands = let a : 0 < 0 = v.specs.present in absurd (omega (arith, a))
type_seen (TypeName (more_specs s ss) declarator lines) line names more v stands =
    let apart = and_parts (are_qualifying (more_specs s ss)) (not (has_name declarator)) v.fits in
    let each = and_parts (is_qualifying s) (are_qualifying ss) apart.0 in
    let specs_valid = v.specs.each in
    let specs_stand = stands.specs in
    ap (λ (ts : List Token). sees_type (at (token (kind.Mark punct.LeftParenthesis) line ∷ ts) names))
    (append_assoc (spec_tokens s ++ specs_tokens ss) (declarator_tokens declarator) more ∙ append_assoc (spec_tokens s) (specs_tokens ss) (declarator_tokens declarator ++ more))
    ∙ spec_shows false false s names (specs_tokens ss ++ (declarator_tokens declarator ++ more)) specs_valid.0 specs_stand.0 (λ none. each.0)

-- where no parenthesis stands ahead, nor a type name in parentheses
type_unseen : (state : State) → sees_mark punct.LeftParenthesis state ≡ false → sees_type state ≡ false
type_unseen state e = ap (λ (b : Bool). b && begins_type (sight_behind state)) e

-- an expression behind a parenthesis is no type name
pub paren_unseen : (inner : ExprTree) (line : ℕ) (names : List Binding) (more : List Token) → IsValidExpr inner → ExprStands names inner
    → sees_type (at (token (kind.Mark punct.LeftParenthesis) line ∷ (expr_tokens inner ++ more)) names) ≡ false
unfolding same_mark
paren_unseen inner line names more v stands = expr_no_spec inner names more false false v stands

pub no_brace_by : (line other : ℕ) → token (kind.Mark punct.RightParenthesis) line ≡ token (kind.Mark punct.LeftBrace) other → ⊥
unfolding same_mark
no_brace_by line other e = true≢false (sym (ap (λ (t : Token). shows_mark punct.LeftBrace (sight_of [] t.kind)) e))

pub parenthesis_ends : (line : ℕ) (rest : List Token) → EndsDeclarator (token (kind.Mark punct.RightParenthesis) line ∷ rest)
unfolding same_mark
parenthesis_ends line rest =
    record { front = record { punct = punct.RightParenthesis; line = line; more = rest; is = refl }; no_star = refl; no_parenthesis = refl; no_bracket = refl }

-- what ends an expression is no `{`, and no string literal
pub ends_no_brace : (least : ℕ) (rest : List Token) (names : List Binding) → EndsExpr least rest → sees_mark punct.LeftBrace (at rest names) ≡ false
ends_no_brace least rest names ends = subst (λ (ts : List Token). sees_mark punct.LeftBrace (at ts names) ≡ false) (sym ends.front.is) ends.no_brace

pub ends_no_text : (least : ℕ) (rest : List Token) (names : List Binding) → EndsExpr least rest → shows_text (sight (at rest names)) ≡ false
ends_no_text least rest names ends = subst (λ (ts : List Token). shows_text (sight (at ts names)) ≡ false) (sym ends.front.is) refl

-- a list in braces begins with `{`
pub list_begins : (list : InitialiserListTree) (names : List Binding) (more : List Token) → sees_mark punct.LeftBrace (at (initialiser_list_tokens list ++ more) names) ≡ true
unfolding same_mark
list_begins (InitialiserList _ last_comma lines) names more = refl

-- ---- string literals

texts_turns : (parts : List (List ℕ)) (lines : List ℕ) (turns : ℕ) (list : List (List ℕ)) (before : List ℕ) (names : List Binding) (rest : List Token)
    → length lines ≡ length parts → length parts < turns → shows_text (sight (at rest names)) ≡ false
    → many no_text (taking read.text with_text) turns (list_read list before) (at (texts_tokens parts lines ++ rest) names) ≡ Some (list_read (list ++ parts) (before ++ lines), at rest names)
unfolding many taking
texts_turns parts lines zero list before names rest count room stop = absurd (omega arith)
texts_turns [] [] (suc turns) list before names rest count room stop =
    cond-true (not (shows_text (sight (at rest names)))) _ _ (ap not stop) ∙ (λ i. Some (list_read (sym (append-nil list) i) (sym (append-nil before) i), at rest names))
texts_turns [] (line ∷ lines) (suc turns) list before names rest count room stop = absurd (omega arith)
texts_turns (part ∷ parts) [] (suc turns) list before names rest count room stop = absurd (omega arith)
texts_turns (part ∷ parts) (line ∷ lines) (suc turns) list before names rest count room stop =
    let mid : State = at (texts_tokens parts lines ++ rest) names in
    let state : State = at (token (kind.Text part) line ∷ (texts_tokens parts lines ++ rest)) names in
    let all : ListRead (List ℕ) = list_read list before in
    bind_some (taking read.text with_text all) (many no_text (taking read.text with_text) turns) state (with_text all (part, line)) mid
    (bind_some read.text _ state (part, line) mid (text_reads part line (texts_tokens parts lines ++ rest) names))
    ∙ texts_turns parts lines turns (list ++ part ∷ []) (before ++ line ∷ []) names rest (omega arith) (omega arith) stop
    ∙ (λ i. Some (list_read (append_assoc list (part ∷ []) parts i) (append_assoc before (line ∷ []) lines i), at rest names))

texts_long : (parts : List (List ℕ)) (lines : List ℕ) → length (texts_tokens parts lines) ≡ length parts
texts_long [] lines = refl
texts_long (part ∷ parts) lines = ap suc (texts_long parts (drop 1 lines))

pub texts_read : (parts : List (List ℕ)) (lines : List ℕ) (names : List Binding) (rest : List Token) → 0 < length parts → length lines ≡ length parts
    → shows_text (sight (at rest names)) ≡ false
    → texts (at (texts_tokens parts lines ++ rest) names) ≡ Some (Text parts lines, at rest names)
unfolding texts many_ahead taking
texts_read [] lines names rest some count stop = absurd (omega arith)
texts_read (part ∷ parts) [] names rest some count stop = absurd (omega arith)
texts_read (part ∷ parts) (line ∷ lines) names rest some count stop =
    let state : State = at (token (kind.Text part) line ∷ (texts_tokens parts lines ++ rest)) names in
    let mid : State = at (texts_tokens parts lines ++ rest) names in
    let one : ListRead (List ℕ) = list_read (part ∷ []) (line ∷ []) in
    let long = texts_long parts lines in
    let sum = length-append (texts_tokens parts lines) rest in
    bind_some (taking read.text with_text (list_read [] [])) _ state one mid
    (bind_some read.text _ state (part, line) mid (text_reads part line (texts_tokens parts lines ++ rest) names))
    ∙ bind_some (many_ahead no_text (taking read.text with_text) one) _ mid (list_read (part ∷ parts) (line ∷ lines)) (at rest names)
    (texts_turns parts lines (suc (length (texts_tokens parts lines ++ rest))) (part ∷ []) (line ∷ []) names rest (omega arith) (omega (arith, long, sum)) stop)

-- ---- what stands ahead by the first token

pub start_unary : (below : Below) (least : ℕ) (op : Punct) → IsTrue (is_unary_operator op) → start_mark below least op ≡ unary below
unfolding start_mark is_unary_operator same_mark
start_unary below least punct.Ampersand h = refl
start_unary below least punct.Star h = refl
start_unary below least punct.Plus h = refl
start_unary below least punct.Minus h = refl
start_unary below least punct.Tilde h = refl
start_unary below least punct.Exclamation h = refl
start_unary below least _ h = absurd (true≢false (sym h))

unary_no_parenthesis : (op : Punct) → IsTrue (is_unary_operator op) → same_mark op punct.LeftParenthesis ≡ false
unfolding is_unary_operator same_mark
unary_no_parenthesis punct.LeftParenthesis h = absurd (true≢false (sym h))
unary_no_parenthesis _ h = refl

abbrev pub is_literal : ExprTree → Bool
is_literal (Literal of list lines) = true
is_literal _ = false

-- a unary expression that doesn't begin with a compound literal doesn't begin with a type name in parentheses
pub edge_unseen : (e : ExprTree) (names : List Binding) (rest : List Token) → spine e ≡ 0 → IsValidExpr e → ExprStands names e → 15 ≤ level e → is_literal e ≡ false
    → sees_type (at (expr_tokens e ++ rest) names) ≡ false
unfolding same_mark
edge_unseen (Name bytes lines) names rest alone v stands le other =
    type_unseen (at (expr_tokens (Name bytes lines) ++ rest) names) (ap (λ (b : Bool). shows_mark punct.LeftParenthesis (word_sight b)) stands)
edge_unseen (Number value ty lines) names rest alone v stands le other = refl
edge_unseen (Letter value lines) names rest alone v stands le other = refl
edge_unseen (Text [] lines) names rest alone v stands le other = let a : 0 < 0 = v.part in absurd (omega (arith, a))
edge_unseen (Text (part ∷ parts) lines) names rest alone v stands le other = refl
edge_unseen (Paren inner lines) names rest alone v stands le other =
    ap (λ (ts : List Token). sees_type (at (mark lines 0 punct.LeftParenthesis ∷ ts) names)) (append_assoc (expr_tokens inner) (mark lines 1 punct.RightParenthesis ∷ []) rest)
    ∙ paren_unseen inner (get_or lines 0 0) names (mark lines 1 punct.RightParenthesis ∷ rest) v.part.valid stands
edge_unseen (Literal of list lines) names rest alone v stands le other = absurd (true≢false other)
edge_unseen (PreUp on lines) names rest alone v stands le other = refl
edge_unseen (PreDown on lines) names rest alone v stands le other = refl
edge_unseen (Unary op on lines) names rest alone v stands le other = type_unseen (at (expr_tokens (Unary op on lines) ++ rest) names) (unary_no_parenthesis op v.operator)
edge_unseen (SizeofExpr on lines) names rest alone v stands le other = refl
edge_unseen (SizeofType of lines) names rest alone v stands le other = refl
edge_unseen (Cast to on lines) names rest alone v stands le other = absurd (omega (arith, le))
edge_unseen _ names rest alone v stands le other = absurd (omega (arith, alone))

module _ (below : Below) (most : ℕ) (reads : AllRead below most) where
  pub name_reads : (least : ℕ) (bytes lines : List ℕ) (names : List Binding) (rest : List Token) → Lines lines 1 → is_type names bytes ≡ false
      → Reads (start below least) (expr_tokens (Name bytes lines)) [] (Name bytes lines) names rest
  unfolding start name
  name_reads least bytes lines names rest lined ordinary =
      let state : State = at (expr_tokens (Name bytes lines) ++ rest) names in
      let line = get_or lines 0 0 in
      reads_none (start below least) (expr_tokens (Name bytes lines)) (Name bytes lines) names rest
      (ap (λ (b : Bool). start_by below least (word_sight b) state) ordinary
      ∙ bind_some read.word _ state (bytes, line) (at rest names) (word_reads bytes line rest names)
      ∙ ap (λ (ls : List ℕ). Some (Name bytes ls, at rest names)) (one_line lines lined))

  pub constant_reads : (least value : ℕ) (ty : Ty0) (lines : List ℕ) (names : List Binding) (rest : List Token) → Lines lines 1
      → Reads (start below least) (expr_tokens (Number value ty lines)) [] (Number value ty lines) names rest
  unfolding start constant
  constant_reads least value ty lines names rest lined =
      let state : State = at (expr_tokens (Number value ty lines) ++ rest) names in
      let line = get_or lines 0 0 in
      reads_none (start below least) (expr_tokens (Number value ty lines)) (Number value ty lines) names rest
      (bind_some read.number _ state (value, ty, line) (at rest names) (number_reads value ty line rest names)
      ∙ ap (λ (ls : List ℕ). Some (Number value ty ls, at rest names)) (one_line lines lined))

  pub character_reads : (least : ℕ) (value : ℤ) (lines : List ℕ) (names : List Binding) (rest : List Token) → Lines lines 1
      → Reads (start below least) (expr_tokens (Letter value lines)) [] (Letter value lines) names rest
  unfolding start character
  character_reads least value lines names rest lined =
      let state : State = at (expr_tokens (Letter value lines) ++ rest) names in
      let line = get_or lines 0 0 in
      reads_none (start below least) (expr_tokens (Letter value lines)) (Letter value lines) names rest
      (bind_some read.letter _ state (value, line) (at rest names) (letter_reads value line rest names)
      ∙ ap (λ (ls : List ℕ). Some (Letter value ls, at rest names)) (one_line lines lined))

  pub start_texts : (least : ℕ) (parts : List (List ℕ)) (lines : List ℕ) (names : List Binding) (rest : List Token) → 0 < length parts
      → start below least (at (texts_tokens parts lines ++ rest) names) ≡ texts (at (texts_tokens parts lines ++ rest) names)
  unfolding start
  start_texts least [] lines names rest some = absurd (omega (arith, some))
  start_texts least (part ∷ parts) lines names rest some = refl

  -- ---- parentheses

  pub typed_reads : (type : TypeNameTree) (first last : ℕ) (names : List Binding) (rest : List Token) → TypeNameFits most names type
      → Reads (typed below) (token (kind.Mark punct.LeftParenthesis) first ∷ (type_name_tokens type ++ token (kind.Mark punct.RightParenthesis) last ∷ [])) (new_type_name type)
      (type_read type (first ∷ last ∷ [])) names rest
  unfolding typed
  typed_reads type first last names rest fits =
      mark_then _ punct.LeftParenthesis first (type_name_tokens type ++ token (kind.Mark punct.RightParenthesis) last ∷ []) (new_type_name type)
      (type_read type (first ∷ last ∷ [])) names rest
      (part_closed below.type_name (λ type last. type_read type (first ∷ last ∷ [])) punct.RightParenthesis last (type_name_tokens type) (new_type_name type) type names rest
      (reads.type_name type names (token (kind.Mark punct.RightParenthesis) last ∷ rest) fits (parenthesis_ends last rest) (λ other e. no_brace_by last other e)))

  -- what begins with a type name in parentheses
  pub behind_typed : {A : Type 0} (go : TypeRead → Reader A) (otherwise : Reader A) (type : TypeNameTree) (first last : ℕ) (more : List Token) (further : List Binding) (a : A)
      (names : List Binding) (rest : List Token) → TypeNameFits most names type
      → Reads (go (type_read type (first ∷ last ∷ []))) more further a (names ++ new_type_name type) rest
      → Reads (λ s. cond (sees_type s) (bind (typed below) go s) (otherwise s))
      (token (kind.Mark punct.LeftParenthesis) first ∷ (type_name_tokens type ++ (token (kind.Mark punct.RightParenthesis) last ∷ more))) (new_type_name type ++ further) a names rest
  behind_typed {A} go otherwise type first last more further a names rest fits one =
      let closed : List Token = token (kind.Mark punct.RightParenthesis) last ∷ [] in
      let front : List Token = token (kind.Mark punct.LeftParenthesis) first ∷ (type_name_tokens type ++ (token (kind.Mark punct.RightParenthesis) last ∷ more)) in
      let whole : (type_name_tokens type ++ (token (kind.Mark punct.RightParenthesis) last ∷ more)) ++ rest ≡ type_name_tokens type ++
      (token (kind.Mark punct.RightParenthesis) last ∷ (more ++ rest)) =
      append_assoc (type_name_tokens type) (token (kind.Mark punct.RightParenthesis) last ∷ more) rest in
      let seen : sees_type (at (front ++ rest) names) ≡ true =
      ap (λ (ts : List Token). sees_type (at (token (kind.Mark punct.LeftParenthesis) first ∷ ts) names)) whole ∙ type_seen type first names _ fits.valid fits.stands in
      let parts : token (kind.Mark punct.LeftParenthesis) first ∷ ((type_name_tokens type ++ closed) ++ more) ≡ front =
      ap (λ (ts : List Token). token (kind.Mark punct.LeftParenthesis) first ∷ ts) (append_assoc (type_name_tokens type) closed more) in
      let together : Reads (bind (typed below) go) (token (kind.Mark punct.LeftParenthesis) first ∷ ((type_name_tokens type ++ closed) ++ more))
      (new_type_name type ++ further) a names rest =
      part_then (typed below) go (token (kind.Mark punct.LeftParenthesis) first ∷ (type_name_tokens type ++ closed)) more (new_type_name type) further
      (type_read type (first ∷ last ∷ [])) a names rest
      (typed_reads type first last names (more ++ rest) fits) one in
      cond-true (sees_type (at (front ++ rest) names)) _ _ seen
      ∙ subst (λ (ts : List Token). Reads (bind (typed below) go) ts (new_type_name type ++ further) a names rest) parts together

  start_parenthesis : (least line : ℕ) (more : List Token) (names : List Binding)
      → start below least (at (token (kind.Mark punct.LeftParenthesis) line ∷ more) names) ≡ parenthesised below least (at (token (kind.Mark punct.LeftParenthesis) line ∷ more) names)
  unfolding start start_mark same_mark
  start_parenthesis least line more names = refl

  pub paren_reads : (least : ℕ) (inner : ExprTree) (lines : List ℕ) (names : List Binding) (rest : List Token) → IsValidExpr (Paren inner lines) → ExprStands names inner
      → expr_depth inner ≤ most
      → Reads (start below least) (expr_tokens (Paren inner lines)) (new_expr inner) (Paren inner lines) names rest
  unfolding parenthesised paren continuation_of_mark continuation_of_other binary_level is_assignment_operator same_mark
  paren_reads least inner lines names rest v stands deep =
      let first = get_or lines 0 0 in
      let last = get_or lines 1 0 in
      let front : List Token = expr_tokens (Paren inner lines) in
      let closed : List Token = token (kind.Mark punct.RightParenthesis) last ∷ [] in
      let unseen : sees_type (at (front ++ rest) names) ≡ false =
      ap (λ (ts : List Token). sees_type (at (token (kind.Mark punct.LeftParenthesis) first ∷ ts) names)) (append_assoc (expr_tokens inner) closed rest)
      ∙ paren_unseen inner first names (closed ++ rest) v.part.valid stands in
      start_parenthesis least first ((expr_tokens inner ++ closed) ++ rest) names
      ∙ cond-false (sees_type (at (front ++ rest) names)) _ _ unseen
      ∙ reads_is (paren below) front (new_expr inner) (Paren inner (first ∷ last ∷ [])) (Paren inner lines) names rest (ap (λ (ls : List ℕ). Paren inner ls) (two_lines lines v.own))
      (mark_then _ punct.LeftParenthesis first (expr_tokens inner ++ closed) (new_expr inner) (Paren inner (first ∷ last ∷ [])) names rest
      (part_closed (below.expr 1) (λ inner last. Paren inner (first ∷ last ∷ [])) punct.RightParenthesis last (expr_tokens inner) (new_expr inner) inner names rest
      (expr_reads below most reads inner 1 names _ (lit≤ tt) (lit≤ tt) v.part stands deep (ends_by punct.RightParenthesis last rest 1 (lit≤ tt) refl refl))))

  pub cast_reads : (least : ℕ) (to : TypeNameTree) (on : ExprTree) (lines : List ℕ) (names : List Binding) (rest : List Token) → IsValidExpr (Cast to on lines)
      → ExprStands names (Cast to on lines)
      → expr_depth (Cast to on lines) ≤ suc most → least ≤ 14 → EndsExpr 14 rest
      → Reads (start below least) (expr_tokens (Cast to on lines)) (new_expr (Cast to on lines)) (Cast to on lines) names rest
  unfolding parenthesised behind_type cast_of
  cast_reads least to on lines names rest v stands deep low ends =
      let first = get_or lines 0 0 in
      let last = get_or lines 1 0 in
      let here : List Binding = names ++ new_type_name to in
      let state : State = at (expr_tokens on ++ rest) here in
      let lower : nat_le least 14 ≡ true = grind (arith, nat_tests) in
      start_parenthesis least first _ names
      ∙ reads_is (parenthesised below least) (expr_tokens (Cast to on lines)) (new_expr (Cast to on lines)) (Cast to on (first ∷ last ∷ [])) (Cast to on lines) names rest
      (ap (λ (ls : List ℕ). Cast to on ls) (two_lines lines v.own))
      (behind_typed (λ read. behind_type below least read) (paren below) to first last (expr_tokens on) (new_expr on) (Cast to on (first ∷ last ∷ [])) names rest
      (record { valid = v.first; stands = stands.0; deep = omega (arith, deep) })
      (cond-false (sees_mark punct.LeftBrace state) _ _ (expr_no_mark punct.LeftBrace on here rest v.second.valid stands.1 refl)
      ∙ cond-true (nat_le least 14) _ _ lower
      ∙ part_last (below.expr 14) _ (expr_tokens on) (new_expr on) on (Cast to on (first ∷ last ∷ [])) here rest
      (expr_reads below most reads on 14 here rest (lit≤ tt) (lit≤ tt) v.second stands.1 (omega (arith, deep)) ends) refl))

  -- what stands behind the type name of a compound literal
  pub literal_list : (type : TypeNameTree) (lines : List ℕ) (list : InitialiserListTree) (names : List Binding) (rest : List Token) → ListFits most names list
      → Reads (literal_of below type lines) (initialiser_list_tokens list) (new_initialiser_list list) (Literal type list lines) names rest
  unfolding literal_of
  literal_list type lines list names rest fits =
      part_last below.list _ (initialiser_list_tokens list) (new_initialiser_list list) list (Literal type list lines) names rest (reads.list list names rest fits) refl

  pub literal_reads : (least : ℕ) (type : TypeNameTree) (list : InitialiserListTree) (lines : List ℕ) (names : List Binding) (rest : List Token)
      → IsValidExpr (Literal type list lines)
      → ExprStands names (Literal type list lines) → expr_depth (Literal type list lines) ≤ suc most
      → Reads (start below least) (expr_tokens (Literal type list lines)) (new_expr (Literal type list lines)) (Literal type list lines) names rest
  unfolding parenthesised behind_type
  literal_reads least type list lines names rest v stands deep =
      let first = get_or lines 0 0 in
      let last = get_or lines 1 0 in
      let here : List Binding = names ++ new_type_name type in
      start_parenthesis least first _ names
      ∙ reads_is (parenthesised below least) (expr_tokens (Literal type list lines)) (new_expr (Literal type list lines)) (Literal type list (first ∷ last ∷ []))
      (Literal type list lines) names rest
      (ap (λ (ls : List ℕ). Literal type list ls) (two_lines lines v.own))
      (behind_typed (λ read. behind_type below least read) (paren below) type first last (initialiser_list_tokens list) (new_initialiser_list list) (Literal type list (first ∷ last ∷ [])) names rest
      (record { valid = v.first; stands = stands.0; deep = omega (arith, deep) })
      (cond-true (sees_mark punct.LeftBrace (at (initialiser_list_tokens list ++ rest) here)) _ _ (list_begins list here rest)
      ∙ literal_list type (first ∷ last ∷ []) list here rest (record { valid = v.second; stands = stands.1; deep = omega (arith, deep) })))
