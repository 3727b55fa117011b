-- Each valid expression that isn't too deep is read from its tokens.
use Rattle.std.proofs.Common.{◌≡◌, ℕ, suc, ◌+◌, ◌-◌, ◌≤◌, Bool, true, false, nat_lt, Some, List, [], ◌∷◌, ◌++◌, get_or, refl, sym, ap, ◌∙◌, subst, arith, lit≤, append_assoc}
use Rattle.std.proofs.lemmas.Bool.{cond-true, cond-false, true≢false}
use Rattle.std.proofs.lemmas.Bool.Decides.{nat_tests}
use Rattle.std.proofs.lemmas.List.{append-nil, append_cancel_left}
use Rattle.cx_cursor.specs.Reading.{State, at, Reader, bind}
use Rattle.cx_cursor.specs.Sights as read
use Rattle.cx_cursor.specs.Sights.{sight, same_mark, same_key, sees_mark}
use Rattle.cx_cursor.proofs.Readers.{bind_some, token, key_reads}
use Rattle.cx_expr.specs.Below.{Below}
use Rattle.cx_words.specs.Continuations.{continuation_of, goes_on}
use Rattle.cx_expr.specs.Exprs.{stepped_of, literal_of, pre_step, unary, start_mark, sizeof_typed, sizeof_expr, sizeof_behind, sizeof, start, climb, expr_from, literal_from}
use Rattle.cx_words.specs.Beginnings.{sees_type}
use Rattle.cx_expr.specs.Knot.{above}
use Rattle.cx_lex.specs.declared.token.Keyword.TheVariants as keyword
use Rattle.cx_lex.specs.declared.token.Punct.{Punct}
use Rattle.cx_lex.specs.declared.token.Punct.TheVariants as punct
use Rattle.cx_lex.specs.declared.token.Token.{Token}
use Rattle.cx_lex.specs.declared.token.TokenKind.TheVariants as kind
use Rattle.cx_parse.proofs.Climbs.{behind_edge, new_behind, Climbed, climbed}
use Rattle.cx_parse.proofs.Operands.{spine, spine_deep, bound, goes_on_false, ends_weak, ends_bound}
use Rattle.cx_parse.proofs.ReadsRules.{three_lines, reads_is, reads_no_more, part_last, operator_then}
use Rattle.cx_parse.proofs.ReadsSteps.{one_line, two_lines}
use Rattle.cx_parse.proofs.ReadsTails.{expr_reads}
use Rattle.cx_parse.proofs.Starts.{ends_no_brace, ends_no_text, list_begins, texts_read, start_unary, is_literal, edge_unseen, name_reads, constant_reads, character_reads, start_texts, behind_typed, paren_reads, cast_reads, literal_list, literal_reads}
use Rattle.cx_parse.proofs.Stood.{Reads, ExprFits, EndsExpr, AllRead, BeginsLiteral, left_edge}
use Rattle.cx_tree.specs.Depth.{expr_depth, type_name_depth, initialiser_list_depth}
use Rattle.cx_tree.specs.Levels.{unary_level, level}
use Rattle.cx_tree.specs.Names.{Binding, new_expr, new_type_name, new_initialiser_list, ExprStands, TypeNameStands}
use Rattle.cx_tree.specs.Tokens.{mark, expr_tokens, type_name_tokens, initialiser_list_tokens}
use Rattle.cx_tree.specs.Trees.{ExprTree, Name, Number, Letter, Text, Paren, Literal, PreUp, PreDown, Unary, SizeofExpr, SizeofType, Cast, TypeNameTree, InitialiserListTree}
use Rattle.cx_tree.specs.Valid.{At, IsValidExpr}

module _ (below : Below) (most : ℕ) (reads : AllRead below most) where
  -- ---- operators before an operand

  stepped_reads : (p : Punct) (on made : ExprTree) (lines : List ℕ) (names : List Binding) (rest : List Token) → stepped_of p on (get_or lines 0 0 ∷ []) ≡ made
      → At (IsValidExpr on) (level on) 15 → ExprStands names on → expr_depth on ≤ most → EndsExpr 15 rest
      → Reads (pre_step below) (mark lines 0 p ∷ expr_tokens on) (new_expr on) made names rest
  unfolding pre_step
  stepped_reads p on made lines names rest is v stands deep ends =
      let first = get_or lines 0 0 in
      operator_then _ p first (expr_tokens on) (new_expr on) made names rest
      (part_last (below.expr 15) _ (expr_tokens on) (new_expr on) on made names rest (expr_reads below most reads on 15 names rest (lit≤ tt) (lit≤ tt) v stands deep ends)
      (ap (λ (e : ExprTree). Some (e, at rest (names ++ new_expr on))) is))

  pre_up_reads : (least : ℕ) (on : ExprTree) (lines : List ℕ) (names : List Binding) (rest : List Token) → IsValidExpr (PreUp on lines) → ExprStands names on → expr_depth on ≤ most
      → EndsExpr 15 rest → Reads (start below least) (expr_tokens (PreUp on lines)) (new_expr on) (PreUp on lines) names rest
  unfolding start start_mark same_mark
  pre_up_reads least on lines names rest v stands deep ends =
      stepped_reads punct.PlusPlus on (PreUp on lines) lines names rest (ap (λ (ls : List ℕ). PreUp on ls) (one_line lines v.own)) v.part stands deep ends

  pre_down_reads : (least : ℕ) (on : ExprTree) (lines : List ℕ) (names : List Binding) (rest : List Token) → IsValidExpr (PreDown on lines) → ExprStands names on
      → expr_depth on ≤ most
      → EndsExpr 15 rest → Reads (start below least) (expr_tokens (PreDown on lines)) (new_expr on) (PreDown on lines) names rest
  unfolding start start_mark same_mark
  pre_down_reads least on lines names rest v stands deep ends =
      stepped_reads punct.MinusMinus on (PreDown on lines) lines names rest (ap (λ (ls : List ℕ). PreDown on ls) (one_line lines v.own)) v.part stands deep ends

  unary_reads : (least : ℕ) (op : Punct) (on : ExprTree) (lines : List ℕ) (names : List Binding) (rest : List Token) → IsValidExpr (Unary op on lines) → ExprStands names on
      → expr_depth on ≤ most → EndsExpr 14 rest → Reads (start below least) (expr_tokens (Unary op on lines)) (new_expr on) (Unary op on lines) names rest
  unfolding start unary
  unary_reads least op on lines names rest v stands deep ends =
      let first = get_or lines 0 0 in
      let state : State = at (expr_tokens (Unary op on lines) ++ rest) names in
      ap (λ (r : Reader ExprTree). r state) (start_unary below least op v.operator)
      ∙ operator_then _ op first (expr_tokens on) (new_expr on) (Unary op on lines) names rest
      (part_last (below.expr 14) _ (expr_tokens on) (new_expr on) on (Unary op on lines) names rest
      (expr_reads below most reads on 14 names rest (lit≤ tt) (lit≤ tt) v.operand stands deep ends)
      (ap (λ (ls : List ℕ). Some (Unary op on ls, at rest (names ++ new_expr on))) (one_line lines v.own)))

  -- ---- sizeof

  start_sizeof : (least line : ℕ) (more : List Token) (new : List Binding) (e : ExprTree) (names : List Binding) (rest : List Token)
      → Reads (sizeof_behind below line) more new e names rest → Reads (start below least) (token (kind.Key keyword.Sizeof) line ∷ more) new e names rest
  unfolding start sizeof
  start_sizeof least line more new e names rest one =
      bind_some (read.key keyword.Sizeof) _ (at (token (kind.Key keyword.Sizeof) line ∷ (more ++ rest)) names) line (at (more ++ rest) names)
      (key_reads keyword.Sizeof line (more ++ rest) names) ∙ one

  sizeof_type_reads : (least : ℕ) (type : TypeNameTree) (lines : List ℕ) (names : List Binding) (rest : List Token) → IsValidExpr (SizeofType type lines) → TypeNameStands names type
      → type_name_depth type ≤ most → EndsExpr 18 rest → Reads (start below least) (expr_tokens (SizeofType type lines)) (new_type_name type) (SizeofType type lines) names rest
  unfolding sizeof_behind sizeof_typed
  sizeof_type_reads least type lines names rest v stands deep ends =
      let line = get_or lines 0 0 in
      let first = get_or lines 1 0 in
      let last = get_or lines 2 0 in
      let front : List Token = token (kind.Mark punct.LeftParenthesis) first ∷ (type_name_tokens type ++ token (kind.Mark punct.RightParenthesis) last ∷ []) in
      let here : List Binding = (names ++ new_type_name type) ++ [] in
      let back : here ≡ names ++ new_type_name type = append-nil (names ++ new_type_name type) in
      let shut : sees_mark punct.LeftBrace (at rest (names ++ new_type_name type)) ≡ false = ends_no_brace 18 rest (names ++ new_type_name type) ends in
      start_sizeof least line front (new_type_name type) (SizeofType type lines) names rest
      (reads_no_more (sizeof_behind below line) front (new_type_name type) (SizeofType type lines) names rest
      (reads_is (sizeof_behind below line) front (new_type_name type ++ []) (SizeofType type (line ∷ first ∷ last ∷ [])) (SizeofType type lines) names rest
      (ap (λ (ls : List ℕ). SizeofType type ls) (three_lines lines v.own))
      (behind_typed below most reads (λ read. sizeof_typed below line read) (sizeof_expr below line) type first last [] [] (SizeofType type (line ∷ first ∷ last ∷ [])) names rest
      (record { valid = v.part; stands = stands; deep = deep })
      (cond-false (sees_mark punct.LeftBrace (at rest (names ++ new_type_name type))) _ _ shut
      ∙ ap (λ (bs : List Binding). Some (SizeofType type (line ∷ first ∷ last ∷ []), at rest bs)) (sym back)))))

  -- where the operand doesn't begin with a compound literal
  sizeof_plain : (line : ℕ) (on : ExprTree) (names : List Binding) (rest : List Token) → At (IsValidExpr on) (level on) 15 → ExprStands names on → expr_depth on ≤ most
      → EndsExpr 15 rest
      → sees_type (at (expr_tokens on ++ rest) names) ≡ false → Reads (sizeof_behind below line) (expr_tokens on) (new_expr on) (SizeofExpr on (line ∷ [])) names rest
  unfolding sizeof_behind sizeof_expr
  sizeof_plain line on names rest v stands deep ends unseen =
      cond-false (sees_type (at (expr_tokens on ++ rest) names)) _ _ unseen
      ∙ part_last (below.expr 15) _ (expr_tokens on) (new_expr on) on (SizeofExpr on (line ∷ [])) names rest
      (expr_reads below most reads on 15 names rest (lit≤ tt) (lit≤ tt) v stands deep ends) refl

  -- and where it does
  sizeof_literal : (line : ℕ) (on : ExprTree) (names : List Binding) (rest : List Token) (type : TypeNameTree) (list : InitialiserListTree) (lines : List ℕ)
      (from turns : ℕ) (behind : List Token) (new : List Binding) → At (IsValidExpr on) (level on) 15 → ExprStands names on → expr_depth on ≤ most → EndsExpr 15 rest
      → left_edge on ≡ Literal type list lines → Climbed below most 15 from turns names on (Literal type list lines) behind new rest
      → Reads (sizeof_behind below line) (expr_tokens on) (new_expr on) (SizeofExpr on (line ∷ [])) names rest
  unfolding sizeof_behind sizeof_typed
  sizeof_literal line on names rest type list lines from turns behind new v stands deep ends edge c =
      let first = get_or lines 0 0 in
      let last = get_or lines 1 0 in
      let here : List Binding = names ++ new_type_name type in
      let more : List Token = initialiser_list_tokens list ++ behind in
      let further : List Binding = new_initialiser_list list ++ new in
      let front : List Token = token (kind.Mark punct.LeftParenthesis) first ∷ (type_name_tokens type ++ (token (kind.Mark punct.RightParenthesis) last ∷ more)) in
      let spelled : expr_tokens on ≡ front =
      c.tokens ∙ ap (λ (ts : List Token). token (kind.Mark punct.LeftParenthesis) first ∷ ts)
      (append_assoc (type_name_tokens type) (token (kind.Mark punct.RightParenthesis) last ∷ initialiser_list_tokens list) behind) in
      let named : new_expr on ≡ new_type_name type ++ further = c.names_are ∙ append_assoc (new_type_name type) (new_initialiser_list list) new in
      let literal : IsValidExpr (Literal type list lines) = c.valid in
      let lined : first ∷ last ∷ [] ≡ lines = two_lines lines literal.own in
      let inner = c.deep in
      let begins : BeginsLiteral on type lines more further = record { list = list; edge = edge; tokens = spelled; names = named } in
      let one : Reads (below.literal type lines) more further on here rest =
      reads.literal on type lines more further names rest begins (record { valid = v; stands = stands; deep = deep }) ends in
      let seen : sees_mark punct.LeftBrace (at (more ++ rest) here) ≡ true =
      ap (λ (ts : List Token). sees_mark punct.LeftBrace (at ts here)) (append_assoc (initialiser_list_tokens list) behind rest) ∙ list_begins list here (behind ++ rest) in
      let whole : Reads (sizeof_behind below line) front (new_type_name type ++ further) (SizeofExpr on (line ∷ [])) names rest =
      behind_typed below most reads (λ read. sizeof_typed below line read) (sizeof_expr below line) type first last more further (SizeofExpr on (line ∷ [])) names rest
      (record { valid = literal.first; stands = c.stands.0; deep = omega (arith, inner, deep) })
      (cond-true (sees_mark punct.LeftBrace (at (more ++ rest) here)) _ _ seen
      ∙ ap (λ (ls : List ℕ). bind (below.literal type ls) (λ on. λ s. Some (SizeofExpr on (line ∷ []), s)) (at (more ++ rest) here)) lined
      ∙ part_last (below.literal type lines) _ more further on (SizeofExpr on (line ∷ [])) here rest one refl) in
      subst (λ (ts : List Token). Reads (sizeof_behind below line) ts (new_expr on) (SizeofExpr on (line ∷ [])) names rest) (sym spelled)
      (subst (λ (bs : List Binding). Reads (sizeof_behind below line) front bs (SizeofExpr on (line ∷ [])) names rest) (sym named) whole)

  sizeof_by : (line : ℕ) (on : ExprTree) (names : List Binding) (rest : List Token) (edge : ExprTree) (from turns : ℕ) (behind : List Token) (new : List Binding) (b : Bool)
      → At (IsValidExpr on) (level on) 15 → ExprStands names on → expr_depth on ≤ most → EndsExpr 15 rest
      → left_edge on ≡ edge → is_literal edge ≡ b → Climbed below most 15 from turns names on edge behind new rest
      → Reads (sizeof_behind below line) (expr_tokens on) (new_expr on) (SizeofExpr on (line ∷ [])) names rest
  sizeof_by line on names rest edge from turns behind new false v stands deep ends is other c =
      let higher = c.higher in
      let le = v.level in
      sizeof_plain line on names rest v stands deep ends
      (ap (λ (ts : List Token). sees_type (at (ts ++ rest) names)) c.tokens ∙ ap (λ (ts : List Token). sees_type (at ts names)) (append_assoc (expr_tokens edge) behind rest)
      ∙ edge_unseen edge names (behind ++ rest) c.alone c.valid c.stands (omega (arith, higher, le)) other)
  sizeof_by line on names rest (Literal type list lines) from turns behind new true v stands deep ends is other c =
      sizeof_literal line on names rest type list lines from turns behind new v stands deep ends is c
  sizeof_by line on names rest _ from turns behind new true v stands deep ends is other c = absurd (true≢false (sym other))

  sizeof_expr_reads : (least : ℕ) (on : ExprTree) (lines : List ℕ) (names : List Binding) (rest : List Token) → IsValidExpr (SizeofExpr on lines) → ExprStands names on
      → expr_depth on ≤ most
      → EndsExpr 15 rest → Reads (start below least) (expr_tokens (SizeofExpr on lines)) (new_expr on) (SizeofExpr on lines) names rest
  sizeof_expr_reads least on lines names rest v stands deep ends =
      let line = get_or lines 0 0 in
      let le = v.part.level in
      let c = climbed below most reads on 15 (0 + spine on) 0 names rest v.part.valid stands (omega (arith, deep)) le refl (ends_bound on 15 rest (lit≤ tt) le ends) in
      start_sizeof least line (expr_tokens on) (new_expr on) (SizeofExpr on lines) names rest
      (reads_is (sizeof_behind below line) (expr_tokens on) (new_expr on) (SizeofExpr on (line ∷ [])) (SizeofExpr on lines) names rest (ap (λ (ls : List ℕ). SizeofExpr on ls) (one_line lines v.own))
      (sizeof_by line on names rest (left_edge on) (0 + spine on) 0 (behind_edge on) (new_behind on) (is_literal (left_edge on)) v.part stands deep ends refl refl c))

  -- ---- what begins with no left operand

  start_reads : (e : ExprTree) (least : ℕ) (names : List Binding) (rest : List Token) → spine e ≡ 0 → IsValidExpr e → ExprStands names e → expr_depth e ≤ suc most → least ≤ level e
      → EndsExpr (bound e) rest → Reads (start below least) (expr_tokens e) (new_expr e) e names rest
  start_reads (Name bytes lines) least names rest alone v stands deep le ends = name_reads below most reads least bytes lines names rest v stands
  start_reads (Number value ty lines) least names rest alone v stands deep le ends = constant_reads below most reads least value ty lines names rest v
  start_reads (Letter value lines) least names rest alone v stands deep le ends = character_reads below most reads least value lines names rest v
  start_reads (Text parts lines) least names rest alone v stands deep le ends =
      start_texts below most reads least parts lines names rest v.part ∙ texts_read parts lines names rest v.part v.own (ends_no_text 18 rest names ends)
      ∙ ap (λ (bs : List Binding). Some (Text parts lines, at rest bs)) (sym (append-nil names))
  start_reads (Paren inner lines) least names rest alone v stands deep le ends = paren_reads below most reads least inner lines names rest v stands (omega (arith, deep))
  start_reads (Literal of list lines) least names rest alone v stands deep le ends = literal_reads below most reads least of list lines names rest v stands deep
  start_reads (PreUp on lines) least names rest alone v stands deep le ends = pre_up_reads least on lines names rest v stands (omega (arith, deep)) ends
  start_reads (PreDown on lines) least names rest alone v stands deep le ends = pre_down_reads least on lines names rest v stands (omega (arith, deep)) ends
  start_reads (Unary op on lines) least names rest alone v stands deep le ends = unary_reads least op on lines names rest v stands (omega (arith, deep)) ends
  start_reads (SizeofExpr on lines) least names rest alone v stands deep le ends = sizeof_expr_reads least on lines names rest v stands (omega (arith, deep)) ends
  start_reads (SizeofType of lines) least names rest alone v stands deep le ends = sizeof_type_reads least of lines names rest v stands (omega (arith, deep)) ends
  start_reads (Cast to on lines) least names rest alone v stands deep le ends = cast_reads below most reads least to on lines names rest v stands deep le ends
  start_reads _ least names rest alone v stands deep le ends = absurd (omega (arith, alone))

  -- ---- the whole

  -- the loop stops behind the whole
  stops : (e : ExprTree) (least turns : ℕ) (names : List Binding) (rest : List Token) → EndsExpr least rest
      → climb below most least (suc turns) e (at rest names) ≡ Some (e, at rest names)
  unfolding climb
  stops e least turns names rest ends =
      let here : State = at rest names in
      cond-false (goes_on least (continuation_of (sight here)) (level e)) _ _ (goes_on_false least (continuation_of (sight here)) (level e) (ends_weak least rest names ends))

  pub expr_from_reads : (e : ExprTree) (least : ℕ) (names : List Binding) (rest : List Token) → 1 ≤ least → least ≤ unary_level → ExprFits (suc most) least names e
      → EndsExpr least rest
      → Reads ((above below most).expr least) (expr_tokens e) (new_expr e) e names rest
  unfolding expr_from
  expr_from_reads e least names rest some low fits ends =
      let deep = fits.deep in
      let v : IsValidExpr e = fits.valid.valid in
      let le : least ≤ level e = fits.valid.level in
      let steep = spine_deep e in
      let n : ℕ = most - spine e in
      let edge : ExprTree = left_edge e in
      let behind : List Token = behind_edge e in
      let c : Climbed below most least (suc most) (suc n) names e edge behind (new_behind e) rest =
      climbed below most reads e least (suc most) (suc n) names rest v fits.stands deep le (omega (arith, steep, deep)) (ends_bound e least rest low le ends) in
      let inner = c.deep in
      let higher = c.higher in
      ap (λ (ts : List Token). expr_from below most least (at (ts ++ rest) names)) c.tokens
      ∙ ap (λ (ts : List Token). expr_from below most least (at ts names)) (append_assoc (expr_tokens edge) behind rest)
      ∙ bind_some (start below least) (λ left. climb below most least (suc most) left) (at (expr_tokens edge ++ (behind ++ rest)) names) edge
      (at (behind ++ rest) (names ++ new_expr edge))
      (start_reads edge least names (behind ++ rest) c.alone c.valid c.stands (omega (arith, inner, deep)) (omega (arith, higher, le)) c.ends)
      ∙ c.climbs
      ∙ stops e least n (names ++ new_expr e) rest ends

  literal_by : (e : ExprTree) (type : TypeNameTree) (list : InitialiserListTree) (lines : List ℕ) (behind front : List Token) (new further names : List Binding) (rest : List Token) (n : ℕ)
      → expr_depth e ≤ suc most → Climbed below most 15 (suc most) (suc n) names e (Literal type list lines) front further rest
      → behind ≡ initialiser_list_tokens list ++ front → new_expr e ≡ new_type_name type ++ new → EndsExpr 15 rest
      → Reads (literal_from below most type lines) behind new e (names ++ new_type_name type) rest
  unfolding literal_from
  literal_by e type list lines behind front new further names rest n deep c spelled named ends =
      let here : List Binding = names ++ new_type_name type in
      let state : State = at (behind ++ rest) here in
      let inner = c.deep in
      let literal : IsValidExpr (Literal type list lines) = c.valid in
      let stands : ExprStands names (Literal type list lines) = c.stands in
      let type_shallow : type_name_depth type ≤ most = omega (arith, inner, deep) in
      let list_shallow : initialiser_list_depth list ≤ most = omega (arith, inner, deep) in
      let shallow : nat_lt most (type_name_depth type) ≡ false = grind (arith, nat_tests, type_shallow) in
      let mid : State = at (front ++ rest) (here ++ new_initialiser_list list) in
      let after : names ++ (new_type_name type ++ new_initialiser_list list) ≡ here ++ new_initialiser_list list =
      sym (append_assoc names (new_type_name type) (new_initialiser_list list)) in
      cond-false (nat_lt most (type_name_depth type)) _ _ shallow
      ∙ ap (λ (ts : List Token). bind (literal_of below type lines) (λ left. climb below most unary_level (suc most) left) (at ts here))
      (ap (λ (ts : List Token). ts ++ rest) spelled ∙ append_assoc (initialiser_list_tokens list) front rest)
      ∙ bind_some (literal_of below type lines) (λ left. climb below most unary_level (suc most) left) (at (initialiser_list_tokens list ++ (front ++ rest)) here)
      (Literal type list lines) mid
      (literal_list below most reads type lines list here (front ++ rest) (record { valid = literal.second; stands = stands.1; deep = list_shallow }))
      ∙ ap (λ (bs : List Binding). climb below most unary_level (suc most) (Literal type list lines) (at (front ++ rest) bs)) (sym after)
      ∙ c.climbs
      ∙ stops e 15 n (names ++ new_expr e) rest ends
      ∙ ap (λ (bs : List Binding). Some (e, at rest bs)) (ap (λ (bs : List Binding). names ++ bs) named ∙ sym (append_assoc names (new_type_name type) new))

  pub literal_from_reads : (e : ExprTree) (type : TypeNameTree) (lines : List ℕ) (behind : List Token) (new names : List Binding) (rest : List Token)
      → BeginsLiteral e type lines behind new → ExprFits (suc most) unary_level names e → EndsExpr unary_level rest
      → Reads ((above below most).literal type lines) behind new e (names ++ new_type_name type) rest
  literal_from_reads e type lines behind new names rest begins fits ends =
      let deep = fits.deep in
      let v : IsValidExpr e = fits.valid.valid in
      let le : 15 ≤ level e = fits.valid.level in
      let steep = spine_deep e in
      let n : ℕ = most - spine e in
      let list : InitialiserListTree = begins.list in
      let front : List Token = behind_edge e in
      let further : List Binding = new_behind e in
      let c : Climbed below most 15 (suc most) (suc n) names e (Literal type list lines) front further rest =
      subst (λ (edge : ExprTree). Climbed below most 15 (suc most) (suc n) names e edge front further rest) begins.edge
      (climbed below most reads e 15 (suc most) (suc n) names rest v fits.stands deep le (omega (arith, steep, deep)) (ends_bound e 15 rest (lit≤ tt) le ends)) in
      let first : Token = mark lines 0 punct.LeftParenthesis in
      let last : Token = mark lines 1 punct.RightParenthesis in
      let tokens : first ∷ (type_name_tokens type ++ (last ∷ behind)) ≡ first ∷ (type_name_tokens type ++ (last ∷ (initialiser_list_tokens list ++ front))) =
      sym begins.tokens ∙ c.tokens ∙ ap (λ (ts : List Token). first ∷ ts) (append_assoc (type_name_tokens type) (last ∷ initialiser_list_tokens list) front) in
      let spelled : behind ≡ initialiser_list_tokens list ++ front =
      append_cancel_left (first ∷ (type_name_tokens type ++ last ∷ [])) behind (initialiser_list_tokens list ++ front)
      (ap (λ (ts : List Token). first ∷ ts) (append_assoc (type_name_tokens type) (last ∷ []) behind) ∙ tokens
      ∙ sym (ap (λ (ts : List Token). first ∷ ts) (append_assoc (type_name_tokens type) (last ∷ []) (initialiser_list_tokens list ++ front)))) in
      literal_by e type list lines behind front new further names rest n deep c spelled begins.names ends
