-- Declarators are read.
use Rattle.std.proofs.Common.{◌≡◌, ℕ, zero, suc, ◌+◌, ◌*◌, ◌-◌, ◌<◌, ◌≤◌, Bool, true, false, not, ◌&&◌, ◌||◌, ◌⊎◌, nat_lt, Some, List, [], ◌∷◌, ◌++◌, length, get_or, take, drop, refl, sym, ap, ◌∙◌, subst, inl, inr, arith, append_assoc, append-nil, length-append}
use Rattle.std.proofs.lemmas.Bool.{cond-true, cond-false, true≢false, and_from, or_left, or_right, or_from}
use Rattle.std.proofs.lemmas.Bool.Decides.{nat_tests}
use Rattle.cx_cursor.specs.Lists.{many, many_ahead}
use Rattle.cx_cursor.specs.Reading.{at, bind}
use Rattle.cx_cursor.specs.Sights.{word_sight, sight_in, sight_behind, shows_mark, shows_word, sees_mark, same_mark, word}
use Rattle.cx_cursor.specs.declared.sight.Sight.{Sight}
use Rattle.cx_cursor.proofs.Readers.{bind_some, token, word_reads, same_mark_refl}
use Rattle.cx_expr.specs.Below.{Below, DeclaratorRead, declarator_read}
use Rattle.cx_expr.specs.Declarators.{qualifiers_read, qualifiers, no_tail, no_declarator, identifier, tail, tails, declarator_or_missing, pointer, group, abstract_head, head, declarator_from}
use Rattle.cx_words.specs.Beginnings.{begins_declarator, begins_params, begins_group}
use Rattle.cx_words.specs.declared.form.Form.{Form}
use Rattle.cx_words.specs.declared.form.Form.TheVariants.{Named, Abstract, Parameter}
use Rattle.cx_lex.specs.declared.token.Keyword.{Keyword}
use Rattle.cx_lex.specs.declared.token.Punct.TheVariants as punct
use Rattle.cx_lex.specs.declared.token.Token.{Token}
use Rattle.cx_lex.specs.declared.token.TokenKind.TheVariants as kind
use Rattle.cx_tree.specs.Depth.{declarator_depth, brackets_depth, params_depth}
use Rattle.cx_tree.specs.Names.{Binding, is_type, new_declarator, new_params, own_params, is_identifier, new_brackets, AreOrdinary, StandsInGroup, DeclaratorStands, BracketsStand, ParamsStand}
use Rattle.cx_tree.specs.Tokens as tree
use Rattle.cx_tree.specs.Tokens.{owns, keys, declarator_tokens}
use Rattle.cx_tree.specs.Trees.{DeclaratorTree, Missing, Identifier, Group, Pointer, Array, Function, Identifiers, BracketsTree, ParamTrees}
use Rattle.cx_tree.specs.Valid.{has_name, is_present, is_direct, may_list, one_if, params_count, IsValidDeclarator, AreValidBrackets, AreValidParams, OneOrMore}
use Rattle.cx_parse.proofs.ReadsBrackets.{qualifiers_reads, brackets_text, array_reads}
use Rattle.cx_parse.proofs.ReadsFunctions.{function_reads, identifiers_reads}
use Rattle.cx_parse.proofs.ReadsMembers.{missing_or_present}
use Rattle.cx_parse.proofs.ReadsSights.{declarator_no_qualifier, closing_end, abstract_begins, parameter_begins, mark_end, mark_shown, mark_no_qualifier, word_shows}
use Rattle.cx_parse.proofs.ReadsSteps.{Quiet, quiet_reads, quiet_then, then_quiet, mark_then, mark_last, read_as, many_stops, many_steps, word_no_mark, one_line, two_lines}
use Rattle.cx_parse.proofs.Stood.{is_parameter, IsNamed, IsDeclarator, DeclaratorFits, EndsDeclarator, Reads, AllRead}
use Rattle.cx_parse.proofs.ReadsHeads.{Headed, NoHead, bracket_headed, bracket_sees, bracket_some, direct_no_star, group_begins, named_inside, named_present, names_headed, own_is, params_headed, parenthesis_no_bracket, present_headed}

-- what is read of a declarator
abbrev pub as_read : DeclaratorTree → DeclaratorRead
as_read d = declarator_read d (new_params (own_params d))

-- ---- a declarator, or none

begins_is : (form : Form) (d : DeclaratorTree) (names : List Binding) (rest : List Token) → IsNamed form d → EndsDeclarator rest
    → begins_declarator form (sight_in names (declarator_tokens d ++ rest)) ≡ is_present d
begins_is Named d names rest named ends = named_present d named
begins_is Abstract d names rest named ends = abstract_begins d names rest named ends
begins_is Parameter d names rest named ends = parameter_begins d names rest ends

-- ---- the loop over tails

-- The loop stands at the declarator, with more turns than there are tokens behind it.
record Loops (below : Below) (most : ℕ) (form : Form) (d : DeclaratorTree) (names : List Binding) (rest : List Token) : Type 0 where
  turns : ℕ
  room : length rest < turns
  loops : bind (head below form) (λ of. tails below most of) (at (declarator_tokens d ++ rest) names) ≡ many no_tail (tail below most) turns (as_read d) (at rest (names ++ new_declarator d))

module _ (below : Below) (most : ℕ) (reads : AllRead below most) where
  -- a declarator is read where there is one
  pub or_missing_reads : (form : Form) (d : DeclaratorTree) (names : List Binding) (rest : List Token) → IsValidDeclarator d → IsNamed form d → DeclaratorStands (is_parameter form) names d
      → declarator_depth d ≤ most → EndsDeclarator rest
      → Reads (declarator_or_missing below form) (declarator_tokens d) (new_declarator d) (as_read d) names rest
  unfolding declarator_or_missing
  or_missing_reads form d names rest valid named stands deep ends = by_presence (missing_or_present d) where
    begins : begins_declarator form (sight_in names (declarator_tokens d ++ rest)) ≡ is_present d
    begins = begins_is form d names rest named ends

    by_presence : (d ≡ Missing) ⊎ (is_present d ≡ true) → Reads (declarator_or_missing below form) (declarator_tokens d) (new_declarator d) (as_read d) names rest
    by_presence (inr present) =
        cond-true (begins_declarator form (sight_in names (declarator_tokens d ++ rest))) _ _ (begins ∙ present)
        ∙ reads.declarator form d names rest (record { valid = record { valid = valid; present = present; named = named }; stands = stands; deep = deep }) ends
    by_presence (inl missing) =
        subst (λ (d : DeclaratorTree). begins_declarator form (sight_in names (declarator_tokens d ++ rest)) ≡ is_present d → Reads (declarator_or_missing below form) (declarator_tokens d)
        (new_declarator d) (as_read d) names rest)
        (sym missing)
        (λ begins. cond-false (begins_declarator form (sight_in names rest)) _ _ begins ∙ ap (λ (bs : List Binding). Some (no_declarator, at rest bs)) (sym (append-nil names))) begins

  -- ---- pointers

  pointer_lines : (qualifiers : List Keyword) (first : ℕ) (lines : List ℕ) → length lines ≡ length qualifiers → (first ∷ []) ++ take (length qualifiers) lines ≡ first ∷ lines
  pointer_lines [] first [] count = refl
  pointer_lines [] first (line ∷ lines) count = absurd (omega arith)
  pointer_lines (q ∷ qualifiers) first [] count = absurd (omega arith)
  pointer_lines (q ∷ qualifiers) first (line ∷ lines) count = ap (λ (ls : List ℕ). first ∷ ls) (pointer_lines qualifiers line lines (omega arith))

  pointer_by : (form : Form) (words : List Keyword) (of : DeclaratorTree) (line : ℕ) (lines : List ℕ) (names : List Binding) (rest : List Token)
      → DeclaratorFits (suc most) form names (Pointer words of (line ∷ lines)) → EndsDeclarator rest
      → Reads (pointer below form) (declarator_tokens (Pointer words of (line ∷ lines))) (new_declarator of) (as_read (Pointer words of (line ∷ lines))) names rest
  unfolding pointer
  pointer_by form words of line lines names rest fits ends =
      let own = fits.valid.valid.own in
      let deep = fits.deep in
      let count : length lines ≡ length words = omega (arith, own) in
      let marks = (line ∷ []) ++ take (length words) lines in
      let read : List ℕ → DeclaratorRead = λ ls. declarator_read (Pointer words of ls) (new_params (own_params of)) in
      subst (λ (ls : List ℕ). Reads (pointer below form) (token (kind.Mark punct.Star) line ∷ (owns (keys words) lines ++ declarator_tokens of)) (new_declarator of) (read ls) names rest)
      (pointer_lines words line lines count)
      (mark_then punct.Star _ line (owns (keys words) lines ++ declarator_tokens of) (new_declarator of) (read marks) names rest
      (quiet_then (qualifiers (line ∷ [])) _ (owns (keys words) lines) (declarator_tokens of) (new_declarator of) (qualifiers_read words marks) (read marks) names rest
      (qualifiers_reads words (line ∷ []) lines names (declarator_tokens of ++ rest) fits.valid.valid.first (omega (arith, count))
      (declarator_no_qualifier of names rest (mark_no_qualifier rest names ends.front)))
      (read_as (declarator_or_missing below form) (λ of. declarator_read (Pointer words of.tree marks) of.own) (declarator_tokens of) (new_declarator of) (as_read of) names rest
      (or_missing_reads form of names rest fits.valid.valid.second (pointer_named form words of (line ∷ lines) fits.valid.named) fits.stands (omega (arith, deep)) ends)))) where
        pointer_named : (form : Form) (words : List Keyword) (of : DeclaratorTree) (lines : List ℕ) → IsNamed form (Pointer words of lines) → IsNamed form of
        pointer_named Named words of lines named = named
        pointer_named Abstract words of lines named = named
        pointer_named Parameter words of lines named = tt

  pointer_reads : (form : Form) (words : List Keyword) (of : DeclaratorTree) (lines : List ℕ) (names : List Binding) (rest : List Token)
      → DeclaratorFits (suc most) form names (Pointer words of lines) → EndsDeclarator rest
      → Reads (pointer below form) (declarator_tokens (Pointer words of lines)) (new_declarator of) (as_read (Pointer words of lines)) names rest
  pointer_reads form words of [] names rest fits ends = let own = fits.valid.valid.own in absurd (omega (arith, own))
  pointer_reads form words of (line ∷ lines) names rest fits ends = pointer_by form words of line lines names rest fits ends

  -- ---- declarators in parentheses

  group_reads : (form : Form) (inner : DeclaratorTree) (lines : List ℕ) (names : List Binding) (rest : List Token) → IsDeclarator form inner → DeclaratorStands (is_parameter form) names inner
      → declarator_depth inner ≤ most → length lines ≡ 2
      → Reads (group below form) (declarator_tokens (Group inner lines)) (new_declarator inner) (as_read (Group inner lines)) names rest
  unfolding group
  group_reads form inner lines names rest valid stands deep count =
      let first = get_or lines 0 0 in
      let last = get_or lines 1 0 in
      let closing : List Token = token (kind.Mark punct.RightParenthesis) last ∷ [] in
      let read : List ℕ → DeclaratorRead = λ ls. declarator_read (Group inner ls) (new_params (own_params inner)) in
      subst (λ (ls : List ℕ). Reads (group below form) (declarator_tokens (Group inner lines)) (new_declarator inner) (read ls) names rest) (two_lines lines count)
      (mark_then punct.LeftParenthesis _ first (declarator_tokens inner ++ closing) (new_declarator inner) (read (first ∷ last ∷ [])) names rest
      (then_quiet (below.declarator form) _ (declarator_tokens inner) closing (new_declarator inner) (as_read inner) (read (first ∷ last ∷ [])) names rest
      (reads.declarator form inner names (closing ++ rest) (record { valid = valid; stands = stands; deep = deep }) (mark_end punct.RightParenthesis last rest closing_end))
      (mark_last punct.RightParenthesis (λ last. read (first ∷ last ∷ [])) last (names ++ new_declarator inner) rest)))

  -- ---- heads

  identifier_reads : (name : List ℕ) (lines : List ℕ) (names : List Binding) (rest : List Token) → length lines ≡ 1
      → identifier (at (declarator_tokens (Identifier name lines) ++ rest) names) ≡ Some (as_read (Identifier name lines), at rest names)
  unfolding identifier
  identifier_reads name lines names rest count =
      let line = get_or lines 0 0 in
      bind_some word _ (at (token (kind.Word name) line ∷ rest) names) (name, line) (at rest names) (word_reads name line rest names)
      ∙ ap (λ (ls : List ℕ). Some (declarator_read (Identifier name ls) [], at rest names)) (one_line lines count)

  -- the head of a declarator, in front
  abbrev Heads : Form → DeclaratorTree → List Binding → List Token → Type 0
  Heads form d names rest = head below form (at (declarator_tokens d ++ rest) names) ≡ Some (as_read d, at rest (names ++ new_declarator d))

  head_missing : (form : Form) (names : List Binding) (rest : List Token) → IsNamed form Missing → NoHead names rest → Heads form Missing names rest
  unfolding head abstract_head
  head_missing Named names rest named absent = absurd (true≢false (sym named))
  head_missing Abstract names rest named absent =
      cond-false (sees_mark punct.LeftParenthesis (at rest names) && begins_group Abstract (at rest names)) _ _ absent.grouped ∙ ap (λ (bs : List Binding). Some (no_declarator, at rest bs))
      (sym (append-nil names))
  head_missing Parameter names rest named absent =
      cond-false (shows_word (sight_in names rest)) _ _ absent.worded
      ∙ cond-false (sees_mark punct.LeftParenthesis (at rest names) && begins_group Parameter (at rest names)) _ _ absent.grouped ∙ ap
      (λ (bs : List Binding). Some (no_declarator, at rest bs)) (sym (append-nil names))

  head_identifier : (form : Form) (name : List ℕ) (lines : List ℕ) (names : List Binding) (rest : List Token) → IsNamed form (Identifier name lines) → length lines ≡ 1
      → Heads form (Identifier name lines) names rest
  unfolding head
  head_identifier Named name lines names rest named count =
      cond-false (shows_mark punct.LeftParenthesis (word_sight (is_type names name))) _ _ (word_no_mark punct.LeftParenthesis (is_type names name))
      ∙ identifier_reads name lines names rest count ∙ ap (λ (bs : List Binding). Some (as_read (Identifier name lines), at rest bs)) (sym (append-nil names))
  head_identifier Abstract name lines names rest named count = absurd (true≢false named)
  head_identifier Parameter name lines names rest named count =
      cond-true (shows_word (word_sight (is_type names name))) _ _ (word_shows (is_type names name))
      ∙ identifier_reads name lines names rest count ∙ ap (λ (bs : List Binding). Some (as_read (Identifier name lines), at rest bs)) (sym (append-nil names))

  -- a parenthesis in front of a declarator, behind which no parameters begin
  sees_group : (in_parameter : Bool) (inner : DeclaratorTree) (lines : List ℕ) (names : List Binding) (rest : List Token) → is_present inner ≡ true → (in_parameter ≡ false → has_name inner ≡ false)
      → StandsInGroup in_parameter names inner
      → (sees_mark punct.LeftParenthesis (at (declarator_tokens (Group inner lines) ++ rest) names) && not (begins_params (sight_behind (at (declarator_tokens (Group inner lines) ++ rest) names)))) ≡ true
  sees_group in_parameter inner lines names rest present abstract stands =
      let closing : List Token = tree.mark lines 1 punct.RightParenthesis ∷ [] in
      and_from (same_mark punct.LeftParenthesis punct.LeftParenthesis) _ (same_mark_refl punct.LeftParenthesis)
      (ap (λ (ts : List Token). not (begins_params (sight_in names ts))) (append_assoc (declarator_tokens inner) closing rest)
      ∙ ap not (group_begins in_parameter inner names (closing ++ rest) present abstract stands refl))

  head_group : (form : Form) (inner : DeclaratorTree) (lines : List ℕ) (names : List Binding) (rest : List Token) → IsDeclarator form inner → StandsInGroup (is_parameter form) names inner
      → DeclaratorStands (is_parameter form) names inner → declarator_depth inner ≤ most → length lines ≡ 2 → Heads form (Group inner lines) names rest
  unfolding head abstract_head
  head_group Named inner lines names rest valid grouped stands deep count =
      cond-true (sees_mark punct.LeftParenthesis (at (declarator_tokens (Group inner lines) ++ rest) names)) _ _ (same_mark_refl punct.LeftParenthesis)
      ∙ group_reads Named inner lines names rest valid stands deep count
  head_group Abstract inner lines names rest valid grouped stands deep count =
      cond-true (sees_mark punct.LeftParenthesis (at (declarator_tokens (Group inner lines) ++ rest) names) && begins_group Abstract (at (declarator_tokens (Group inner lines) ++ rest) names)) _ _
      (sees_group false inner lines names rest valid.present (λ e. valid.named) grouped)
      ∙ group_reads Abstract inner lines names rest valid stands deep count
  head_group Parameter inner lines names rest valid grouped stands deep count =
      cond-true (sees_mark punct.LeftParenthesis (at (declarator_tokens (Group inner lines) ++ rest) names) && begins_group Parameter (at (declarator_tokens (Group inner lines) ++ rest) names)) _ _
      (sees_group true inner lines names rest valid.present (λ e. absurd (true≢false e)) grouped)
      ∙ group_reads Parameter inner lines names rest valid stands deep count

  -- ---- tails

  tail_array : (of : DeclaratorTree) (brackets : BracketsTree) (lines : List ℕ) (names : List Binding) (rest : List Token) → declarator_depth of ≤ most → AreValidBrackets brackets
      → BracketsStand names brackets → brackets_depth brackets ≤ most → length lines ≡ length (tree.brackets_front brackets) + 1
      → Reads (tail below most (as_read of)) (brackets_text brackets lines) (new_brackets brackets) (as_read (Array of brackets lines)) names rest
  unfolding tail
  tail_array of brackets lines names rest shallow valid stands deep count =
      let d : nat_lt most (declarator_depth of) ≡ false = grind (arith, nat_tests) in
      cond-false (nat_lt most (declarator_depth of)) _ _ d
      ∙ cond-true (sees_mark punct.LeftBracket (at (brackets_text brackets lines ++ rest) names)) _ _ (bracket_sees brackets lines names rest)
      ∙ array_reads below most reads (as_read of) brackets lines names rest valid stands deep count

  tail_function : (of : DeclaratorTree) (ps : ParamTrees) (variadic : Bool) (lines : List ℕ) (names : List Binding) (rest : List Token) → declarator_depth of ≤ most
      → OneOrMore (params_count ps) (AreValidParams ps) → ParamsStand names ps → params_depth ps ≤ most → length lines ≡ ((params_count ps - 1) + 2 * one_if variadic) + 2
      → Quiet (tail below most (as_read of)) (tree.mark lines 0 punct.LeftParenthesis ∷ tree.listed (tree.parenthesis variadic) (tree.params_tokens ps) (drop 1 lines)) (as_read (Function of ps variadic lines)) names rest
  unfolding tail
  tail_function of ps variadic lines names rest shallow valid stands deep count =
      let d : nat_lt most (declarator_depth of) ≡ false = grind (arith, nat_tests) in
      let text : List Token = tree.mark lines 0 punct.LeftParenthesis ∷ tree.listed (tree.parenthesis variadic) (tree.params_tokens ps) (drop 1 lines) in
      cond-false (nat_lt most (declarator_depth of)) _ _ d
      ∙ cond-false (sees_mark punct.LeftBracket (at (text ++ rest) names)) _ _ parenthesis_no_bracket
      ∙ function_reads below most reads (as_read of) ps variadic lines names rest valid stands deep count
      ∙ ap (λ (own : List Binding). Some (declarator_read (Function of ps variadic lines) own, at rest names)) (own_is (is_identifier of) ps (own_params of))

  tail_identifiers : (of : DeclaratorTree) (listed : List (List ℕ)) (lines : List ℕ) (names : List Binding) (rest : List Token) → declarator_depth of ≤ most → may_list listed of ≡ true
      → AreOrdinary names listed → length lines ≡ (length listed + (length listed - 1)) + 2
      → Quiet (tail below most (as_read of)) (tree.mark lines 0 punct.LeftParenthesis ∷ tree.names_tokens listed (drop 1 lines)) (as_read (Identifiers of listed lines)) names rest
  unfolding tail
  tail_identifiers of listed lines names rest shallow may ordinary count =
      let d : nat_lt most (declarator_depth of) ≡ false = grind (arith, nat_tests) in
      let text : List Token = tree.mark lines 0 punct.LeftParenthesis ∷ tree.names_tokens listed (drop 1 lines) in
      cond-false (nat_lt most (declarator_depth of)) _ _ d
      ∙ cond-false (sees_mark punct.LeftBracket (at (text ++ rest) names)) _ _ parenthesis_no_bracket
      ∙ identifiers_reads below (as_read of) listed lines names rest may ordinary count

  -- ---- the loop over tails

  head_loops : (form : Form) (d : DeclaratorTree) (names : List Binding) (rest : List Token) → Heads form d names rest → Loops below most form d names rest
  unfolding tails many_ahead
  head_loops form d names rest e = record {
    turns = suc (length rest);
    room = omega arith;
    loops = bind_some (head below form) (λ of. tails below most of) (at (declarator_tokens d ++ rest) names) (as_read d) (at rest (names ++ new_declarator d)) e;
  }

  -- one tail more
  loop_by : (form : Form) (of d : DeclaratorTree) (text : List Token) (new : List Binding) (names : List Binding) (rest : List Token) (turns : ℕ)
      → declarator_tokens d ≡ declarator_tokens of ++ text → new_declarator d ≡ new_declarator of ++ new → 0 < length text
      → no_tail (as_read of) (at (text ++ rest) (names ++ new_declarator of)) ≡ false
      → Reads (tail below most (as_read of)) text new (as_read d) (names ++ new_declarator of) rest
      → length (text ++ rest) < turns
      → bind (head below form) (λ of. tails below most of) (at (declarator_tokens of ++ (text ++ rest)) names) ≡ many no_tail (tail below most) turns (as_read of) (at (text ++ rest) (names ++ new_declarator of))
      → Loops below most form d names rest
  loop_by form of d text new names rest zero text_is new_is some goes one room e = absurd (omega arith)
  loop_by form of d text new names rest (suc turns) text_is new_is some goes one room e =
      let sum = length-append text rest in
      record {
        turns = turns;
        room = omega (arith, sum);
        loops = ap (λ (ts : List Token). bind (head below form) (λ of. tails below most of) (at ts names))
            (ap (λ (ts : List Token). ts ++ rest) text_is ∙ append_assoc (declarator_tokens of) text rest)
            ∙ e
            ∙ many_steps no_tail (tail below most) turns (as_read of) (as_read d) (at (text ++ rest) (names ++ new_declarator of)) (at rest ((names ++ new_declarator of) ++ new)) goes one
            ∙ ap (λ (bs : List Binding). many no_tail (tail below most) turns (as_read d) (at rest bs))
            (append_assoc names (new_declarator of) new ∙ ap (λ (bs : List Binding). names ++ bs) (sym new_is));
      }

  loop_on : (form : Form) (of d : DeclaratorTree) (text : List Token) (new : List Binding) (names : List Binding) (rest : List Token)
      → declarator_tokens d ≡ declarator_tokens of ++ text → new_declarator d ≡ new_declarator of ++ new → 0 < length text
      → no_tail (as_read of) (at (text ++ rest) (names ++ new_declarator of)) ≡ false
      → Reads (tail below most (as_read of)) text new (as_read d) (names ++ new_declarator of) rest
      → Loops below most form of names (text ++ rest) → Loops below most form d names rest
  loop_on form of d text new names rest text_is new_is some goes one inside = loop_by form of d text new names rest inside.turns text_is new_is some goes one inside.room inside.loops

  declarator_loops : (form : Form) (d : DeclaratorTree) (names : List Binding) (rest : List Token) → IsValidDeclarator d → is_direct d ≡ true → IsNamed form d
      → DeclaratorStands (is_parameter form) names d → declarator_depth d ≤ suc most → Headed d names rest → Loops below most form d names rest
  declarator_loops form Missing names rest valid direct named stands deep headed = head_loops form Missing names rest (head_missing form names rest named headed)
  declarator_loops form (Identifier name lines) names rest valid direct named stands deep headed = head_loops form (Identifier name lines) names rest
      (head_identifier form name lines names rest named valid)
  declarator_loops form (Group inner lines) names rest valid direct named stands deep headed =
      head_loops form (Group inner lines) names rest
      (head_group form inner lines names rest (record { valid = valid.second; present = valid.first; named = named_inside form inner (Group inner lines) refl named }) stands.0 stands.1
      (omega (arith, deep)) valid.own)
  declarator_loops form (Pointer words of lines) names rest valid direct named stands deep headed = absurd (true≢false (sym direct))
  declarator_loops form (Array of brackets lines) names rest valid direct named stands deep headed =
      let text = brackets_text brackets lines in
      loop_on form of (Array of brackets lines) text (new_brackets brackets) names rest refl refl (bracket_some brackets lines)
      (ap not (or_left _ _ (bracket_sees brackets lines (names ++ new_declarator of) rest)))
      (tail_array of brackets lines (names ++ new_declarator of) rest (omega (arith, deep)) valid.behind stands.1 (omega (arith, deep)) valid.own)
      (declarator_loops form of names (text ++ rest) valid.of valid.direct (named_inside form of (Array of brackets lines) refl named) stands.0 (omega (arith, deep))
      (bracket_headed of brackets lines names rest))
  declarator_loops form (Function of ps variadic lines) names rest valid direct named stands deep headed =
      let text : List Token = tree.mark lines 0 punct.LeftParenthesis ∷ tree.listed (tree.parenthesis variadic) (tree.params_tokens ps) (drop 1 lines) in
      loop_on form of (Function of ps variadic lines) text [] names rest refl (sym (append-nil (new_declarator of))) (omega arith)
      (ap not (or_right _ _ (same_mark_refl punct.LeftParenthesis)))
      (quiet_reads (tail below most (as_read of)) text (as_read (Function of ps variadic lines)) (names ++ new_declarator of) rest
      (tail_function of ps variadic lines (names ++ new_declarator of) rest (omega (arith, deep)) valid.behind stands.1 (omega (arith, deep)) valid.own))
      (declarator_loops form of names (text ++ rest) valid.of valid.direct (named_inside form of (Function of ps variadic lines) refl named) stands.0 (omega (arith, deep))
      (params_headed of ps variadic lines names rest valid.behind stands.1))
  declarator_loops form (Identifiers of listed lines) names rest valid direct named stands deep headed =
      let text : List Token = tree.mark lines 0 punct.LeftParenthesis ∷ tree.names_tokens listed (drop 1 lines) in
      loop_on form of (Identifiers of listed lines) text [] names rest refl (sym (append-nil (new_declarator of))) (omega arith)
      (ap not (or_right _ _ (same_mark_refl punct.LeftParenthesis)))
      (quiet_reads (tail below most (as_read of)) text (as_read (Identifiers of listed lines)) (names ++ new_declarator of) rest
      (tail_identifiers of listed lines (names ++ new_declarator of) rest (omega (arith, deep)) valid.behind stands.1 valid.own))
      (declarator_loops form of names (text ++ rest) valid.of valid.direct (named_inside form of (Identifiers of listed lines) refl named) stands.0 (omega (arith, deep))
      (names_headed of listed lines names rest valid.behind))

  -- ---- declarators

  loop_ends : (d : DeclaratorTree) (turns : ℕ) (names : List Binding) (rest : List Token) → length rest < turns → EndsDeclarator rest
      → many no_tail (tail below most) turns (as_read d) (at rest names) ≡ Some (as_read d, at rest names)
  loop_ends d zero names rest room ends = absurd (omega arith)
  loop_ends d (suc turns) names rest room ends =
      let p = ends.front.punct in
      many_stops no_tail (tail below most) turns (as_read d) (at rest names)
      (ap (λ (s : Sight). not (shows_mark punct.LeftBracket s || shows_mark punct.LeftParenthesis s)) (mark_shown rest names ends.front)
      ∙ ap not (or_from (same_mark p punct.LeftBracket) (same_mark p punct.LeftParenthesis) ends.no_bracket ends.no_parenthesis))

  direct_reads : (form : Form) (d : DeclaratorTree) (names : List Binding) (rest : List Token) → is_direct d ≡ true → DeclaratorFits (suc most) form names d → EndsDeclarator rest
      → Reads (declarator_from below most form) (declarator_tokens d) (new_declarator d) (as_read d) names rest
  unfolding declarator_from
  direct_reads form d names rest direct fits ends =
      let inside : Loops below most form d names rest =
      declarator_loops form d names rest fits.valid.valid direct fits.valid.named fits.stands fits.deep (present_headed d names rest fits.valid.present) in
      cond-false (sees_mark punct.Star (at (declarator_tokens d ++ rest) names)) _ _ (direct_no_star d names rest fits.valid.valid direct fits.valid.present)
      ∙ inside.loops ∙ loop_ends d inside.turns (names ++ new_declarator d) rest inside.room ends

  -- a declarator that isn't missing
  pub declarator_from_reads : (form : Form) (d : DeclaratorTree) (names : List Binding) (rest : List Token) → DeclaratorFits (suc most) form names d → EndsDeclarator rest
      → Reads (declarator_from below most form) (declarator_tokens d) (new_declarator d) (declarator_read d (new_params (own_params d))) names rest
  unfolding declarator_from
  declarator_from_reads form (Pointer words of lines) names rest fits ends =
      cond-true (sees_mark punct.Star (at (declarator_tokens (Pointer words of lines) ++ rest) names)) _ _ (same_mark_refl punct.Star)
      ∙ pointer_reads form words of lines names rest fits ends
  declarator_from_reads form Missing names rest fits ends = absurd (true≢false (sym fits.valid.present))
  declarator_from_reads form (Identifier name lines) names rest fits ends = direct_reads form (Identifier name lines) names rest refl fits ends
  declarator_from_reads form (Group inner lines) names rest fits ends = direct_reads form (Group inner lines) names rest refl fits ends
  declarator_from_reads form (Array of brackets lines) names rest fits ends = direct_reads form (Array of brackets lines) names rest refl fits ends
  declarator_from_reads form (Function of ps variadic lines) names rest fits ends = direct_reads form (Function of ps variadic lines) names rest refl fits ends
  declarator_from_reads form (Identifiers of listed lines) names rest fits ends = direct_reads form (Identifiers of listed lines) names rest refl fits ends
