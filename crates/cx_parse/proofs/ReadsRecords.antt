-- Specifiers are read.
use Rattle.std.proofs.Common.{◌≡◌, ℕ, suc, ◌+◌, ◌-◌, ◌<◌, ◌≤◌, Bool, true, false, cond, Option, Some, None, List, [], ◌∷◌, ◌++◌, length, map, fold, get_or, drop, refl, sym, ap, ◌∙◌, subst, arith, append_assoc, append-nil, length-append}
use Rattle.std.proofs.lemmas.Bool.{cond-true, cond-false, true≢false}
use Rattle.std.specs.Prelude.{⊤}
use Rattle.cx_cursor.specs.Lists.{list_read, many_ahead, taking}
use Rattle.cx_cursor.specs.Reading.{State, at, refuse}
use Rattle.cx_cursor.specs.Sights.{word_sight, sight, sight_in, shows_mark, sees_mark, shows_word, mark, word, keyword}
use Rattle.cx_cursor.proofs.Readers.{bind_some, token, mark_reads, word_reads, keyword_reads, same_mark_refl}
use Rattle.cx_expr.specs.Below.{Below}
use Rattle.cx_expr.specs.Specifiers.{no_brace, with_member, braced_read, braced, typedef_spec, members, record_tagged, record_untagged, record_behind, enum_tagged, enum_untagged, enum_behind, spec_behind, key_spec, spec_by, spec_from}
use Rattle.cx_lex.specs.declared.token.Keyword.{Keyword}
use Rattle.cx_lex.specs.declared.token.Keyword.TheVariants as keywords
use Rattle.cx_lex.specs.declared.token.Punct.TheVariants as punct
use Rattle.cx_lex.specs.declared.token.Token.{Token}
use Rattle.cx_lex.specs.declared.token.TokenKind.TheVariants as kind
use Rattle.cx_tree.specs.Depth.{member_decls_depth, enumerators_depth}
use Rattle.cx_tree.specs.Names.{Binding, is_type, new_spec, new_member_decl, new_member_decls, new_enumerator, new_enumerators, MemberDeclsStand, EnumeratorsStand}
use Rattle.cx_tree.specs.Tokens as tree
use Rattle.cx_tree.specs.Tokens.{spec_tokens, specs_tokens, members_tokens, member_decl_tokens, member_decls_tokens, enumerator_tokens, enumerators_tokens, record_keyword, brace, listed}
use Rattle.cx_tree.specs.Trees.{SpecTree, Key, Typedef, Record, Enum, SpecTrees, no_specs, more_specs, MemberDeclTree, MemberDecl, MemberDeclTrees, no_member_decls, more_member_decls, OptionMemberDeclTrees, no_members, some_members, EnumeratorTree, Enumerator, EnumeratorTrees, no_enumerators, more_enumerators, OptionEnumeratorTrees, no_enumerator_list, some_enumerator_list}
use Rattle.cx_tree.specs.Valid.{one_if, specs_count, member_decls_count, enumerators_count, IsValidMemberDecl, AreValidMemberDecls, AreValidEnumerators, OneOrMore}
use Rattle.cx_tree.specs.Views.{member_decls, enumerators}
use Rattle.cx_tree.specs.Words.{is_storage_class, is_type_word, is_qualifier, is_function_specifier, is_specifier_word}
use Rattle.cx_parse.proofs.Lists.{each_of, Each, many_ahead_reads}
use Rattle.cx_parse.proofs.ReadsCommas.{AllGood, braced_reads}
use Rattle.cx_parse.proofs.ReadsSights.{specifier_begins, specs_no_mark, word_shows}
use Rattle.cx_parse.proofs.ReadsSpecs.{spec_some}
use Rattle.cx_parse.proofs.ReadsSteps.{word_no_mark, shows_no_brace, takes, no_line, one_line, two_lines}
use Rattle.cx_parse.proofs.Stood.{MemberDeclFits, EnumeratorFits, SpecFits, NoBrace, EndsAt, Reads, AllRead}

-- ---- the list that a tree of members is

abbrev decl_list : MemberDeclTrees → List MemberDeclTree
decl_list no_member_decls = []
decl_list (more_member_decls m ms) = m ∷ decl_list ms

decls_of_list : (ms : MemberDeclTrees) → member_decls (decl_list ms) ≡ ms
decls_of_list no_member_decls = refl
decls_of_list (more_member_decls m ms) = ap (λ (t : MemberDeclTrees). more_member_decls m t) (decls_of_list ms)

decls_texts : (ms : MemberDeclTrees) → each_of member_decl_tokens (decl_list ms) ≡ member_decls_tokens ms
decls_texts no_member_decls = refl
decls_texts (more_member_decls m ms) = ap (λ (ts : List Token). member_decl_tokens m ++ ts) (decls_texts ms)

decls_new : (ms : MemberDeclTrees) → each_of new_member_decl (decl_list ms) ≡ new_member_decls ms
decls_new no_member_decls = refl
decls_new (more_member_decls m ms) = ap (λ (bs : List Binding). new_member_decl m ++ bs) (decls_new ms)

decls_taken : (xs list : List MemberDeclTree) → fold with_member list xs ≡ list ++ xs
decls_taken [] list = sym (append-nil list)
decls_taken (x ∷ xs) list = decls_taken xs (list ++ x ∷ []) ∙ append_assoc list (x ∷ []) xs

abbrev DeclFits : ℕ → List MemberDeclTree → List Binding → MemberDeclTree → Type 0
DeclFits most all names m = MemberDeclFits most names m

decls_good : (most : ℕ) (ms : MemberDeclTrees) (all : List MemberDeclTree) (names : List Binding) → AreValidMemberDecls ms → MemberDeclsStand names ms → member_decls_depth ms ≤ most
    → Each (DeclFits most) new_member_decl with_member all names (decl_list ms)
decls_good most no_member_decls all names valid stands deep = tt
decls_good most (more_member_decls m ms) all names valid stands deep =
    (record { valid = valid.0; stands = stands.0; deep = omega arith }, decls_good most ms (all ++ m ∷ []) (names ++ new_member_decl m) valid.1 stands.1 (omega arith))

specs_some : (ss : SpecTrees) → 0 < specs_count ss → 0 < length (specs_tokens ss)
specs_some no_specs some = absurd (omega arith)
specs_some (more_specs s ss) some = let a = spec_some s in let b = length-append (spec_tokens s) (specs_tokens ss) in omega (arith, a, b)

decl_some : (m : MemberDeclTree) → IsValidMemberDecl m → 0 < length (member_decl_tokens m)
decl_some (MemberDecl ss list lines) valid =
    let a = specs_some ss valid.specs.present in
    let b = length-append (specs_tokens ss) (listed (tree.ended punct.Semicolon) (tree.member_declarators_tokens list) lines) in
    omega (arith, a, b)

decl_no_brace : (m : MemberDeclTree) (names : List Binding) (rest : List Token) → IsValidMemberDecl m → shows_mark punct.RightBrace (sight_in names (member_decl_tokens m ++ rest)) ≡ false
decl_no_brace (MemberDecl ss list lines) names rest valid =
    let behind : List Token = listed (tree.ended punct.Semicolon) (tree.member_declarators_tokens list) lines in
    ap (λ (ts : List Token). shows_mark punct.RightBrace (sight_in names ts)) (append_assoc (specs_tokens ss) behind rest)
    ∙ specs_no_mark punct.RightBrace ss names (behind ++ rest) valid.specs.present

-- ---- the list that a tree of enumerators is

abbrev enum_list : EnumeratorTrees → List EnumeratorTree
enum_list no_enumerators = []
enum_list (more_enumerators e es) = e ∷ enum_list es

enums_of_list : (es : EnumeratorTrees) → enumerators (enum_list es) ≡ es
enums_of_list no_enumerators = refl
enums_of_list (more_enumerators e es) = ap (λ (t : EnumeratorTrees). more_enumerators e t) (enums_of_list es)

enums_texts : (es : EnumeratorTrees) → map enumerator_tokens (enum_list es) ≡ enumerators_tokens es
enums_texts no_enumerators = refl
enums_texts (more_enumerators e es) = ap (λ (ts : List (List Token)). enumerator_tokens e ∷ ts) (enums_texts es)

enums_new : (es : EnumeratorTrees) → each_of new_enumerator (enum_list es) ≡ new_enumerators es
enums_new no_enumerators = refl
enums_new (more_enumerators e es) = ap (λ (bs : List Binding). new_enumerator e ++ bs) (enums_new es)

enums_count : (es : EnumeratorTrees) → length (enum_list es) ≡ enumerators_count es
enums_count no_enumerators = refl
enums_count (more_enumerators e es) = ap suc (enums_count es)

enums_good : (most : ℕ) (es : EnumeratorTrees) (names : List Binding) → AreValidEnumerators es → EnumeratorsStand names es → enumerators_depth es ≤ most
    → AllGood (EnumeratorFits most) new_enumerator names (enum_list es)
enums_good most no_enumerators names valid stands deep = tt
enums_good most (more_enumerators e es) names valid stands deep =
    (record { valid = valid.0; stands = stands.0; deep = omega arith }, enums_good most es (names ++ new_enumerator e) valid.1 stands.1 (omega arith))

enum_no_brace : (e : EnumeratorTree) (names : List Binding) (rest : List Token) → shows_mark punct.RightBrace (sight_in names (enumerator_tokens e ++ rest)) ≡ false
enum_no_brace (Enumerator name value lines) names rest = word_no_mark punct.RightBrace (is_type names name)

brace_count : (last_comma : Bool) → length (brace last_comma) ≡ one_if last_comma + 1
brace_count true = refl
brace_count false = refl

module _ (below : Below) (most : ℕ) (reads : AllRead below most) where
  -- ---- keywords

  key_behind : (word : Keyword) (line : ℕ) (names : List Binding) (rest : List Token) → is_specifier_word word ≡ true
      → spec_behind below word line (at rest names) ≡ Some (Key word (line ∷ []), at rest names)
  unfolding is_storage_class is_type_word is_qualifier is_function_specifier
  key_behind keywords.Struct line names rest is = absurd (true≢false (sym is))
  key_behind keywords.Union line names rest is = absurd (true≢false (sym is))
  key_behind keywords.Enum line names rest is = absurd (true≢false (sym is))
  key_behind word line names rest is =
      ap (λ (b : Bool). cond b (λ (s : State). Some (Key word (line ∷ []), s)) refuse (at rest names)) (specifier_begins true word is (λ e. absurd (true≢false e)))

  record_is : (is_union : Bool) (line : ℕ) (state : State) → spec_behind below (record_keyword is_union) line state ≡ record_behind below is_union line state
  record_is true line state = refl
  record_is false line state = refl

  -- ---- members

  decl_next : (all : List MemberDeclTree) (names : List Binding) (m : MemberDeclTree) (rest : List Token) → DeclFits most all names m → ⊤
      → Reads below.member (member_decl_tokens m) (new_member_decl m) m names rest
  decl_next all names m rest fits unit = reads.member m names rest fits

  decls_behind : (m : MemberDeclTree) (ms : MemberDeclTrees) (names : List Binding) (line : ℕ) (rest : List Token) → Each (DeclFits most) new_member_decl with_member (m ∷ []) names (decl_list ms)
      → Reads (many_ahead no_brace (taking below.member with_member) (m ∷ [])) (member_decls_tokens ms) (new_member_decls ms) (m ∷ decl_list ms) names (token (kind.Mark punct.RightBrace) line ∷ rest)
  decls_behind m ms names line rest good =
      let behind : List Token = token (kind.Mark punct.RightBrace) line ∷ rest in
      let R : List MemberDeclTree → List Token → List Binding → Type 0 = λ made front new. Reads (many_ahead no_brace (taking below.member with_member) (m ∷ [])) front new made names behind in
      let read = many_ahead_reads (DeclFits most) member_decl_tokens new_member_decl with_member no_brace below.member (λ rest. ⊤)
      (λ all names m rest fits. decl_no_brace m names rest fits.valid) (λ all names m rest fits. tt) decl_next (λ all names m fits. decl_some m fits.valid)
      (decl_list ms) (m ∷ []) names behind good tt (same_mark_refl punct.RightBrace) in
      subst (λ (made : List MemberDeclTree). R made (member_decls_tokens ms) (new_member_decls ms)) (decls_taken (decl_list ms) (m ∷ []))
      (subst (λ (new : List Binding). R (fold with_member (m ∷ []) (decl_list ms)) (member_decls_tokens ms) new) (decls_new ms)
      (subst (λ (front : List Token). R (fold with_member (m ∷ []) (decl_list ms)) front (each_of new_member_decl (decl_list ms))) (decls_texts ms) read))

  members_reads : (list : MemberDeclTrees) (front lines : List ℕ) (names : List Binding) (rest : List Token) → length lines ≡ 2 → OneOrMore (member_decls_count list) (AreValidMemberDecls list)
      → MemberDeclsStand names list → member_decls_depth list ≤ most
      → Reads (members below front) (members_tokens (some_members list) lines) (new_member_decls list) (list_read (decl_list list) (front ++ lines)) names rest
  unfolding members
  members_reads no_member_decls front lines names rest own valid stands deep = let some : 0 < 0 = valid.present in absurd (omega arith)
  members_reads (more_member_decls m ms) front lines names rest own valid stands deep =
      let first = get_or lines 0 0 in
      let last = get_or lines 1 0 in
      let closing : List Token = token (kind.Mark punct.RightBrace) last ∷ rest in
      let inside : List Token = member_decl_tokens m ++ (member_decls_tokens ms ++ closing) in
      let one = names ++ new_member_decl m in
      let good : Each (DeclFits most) new_member_decl with_member [] names (decl_list (more_member_decls m ms)) = decls_good most (more_member_decls m ms) [] names valid.each stands deep in
      ap (λ (ts : List Token). members below front (at (token (kind.Mark punct.LeftBrace) first ∷ ts) names))
      (append_assoc (member_decl_tokens m ++ member_decls_tokens ms) (token (kind.Mark punct.RightBrace) last ∷ []) rest ∙ append_assoc (member_decl_tokens m) (member_decls_tokens ms) closing)
      ∙ bind_some (mark punct.LeftBrace) _ (at (token (kind.Mark punct.LeftBrace) first ∷ inside) names) first (at inside names) (mark_reads punct.LeftBrace first inside names)
      ∙ bind_some (taking below.member with_member []) _ (at inside names) (m ∷ []) (at (member_decls_tokens ms ++ closing) one)
      (takes below.member with_member [] (at inside names) (at (member_decls_tokens ms ++ closing) one) m (reads.member m names (member_decls_tokens ms ++ closing) good.0))
      ∙ bind_some (many_ahead no_brace (taking below.member with_member) (m ∷ [])) _ (at (member_decls_tokens ms ++ closing) one) (m ∷ decl_list ms) (at closing (one ++ new_member_decls ms))
      (decls_behind m ms one last rest good.1)
      ∙ bind_some (mark punct.RightBrace) _ (at closing (one ++ new_member_decls ms)) last (at rest (one ++ new_member_decls ms)) (mark_reads punct.RightBrace last rest (one ++ new_member_decls ms))
      ∙ (λ i. Some (list_read (m ∷ decl_list ms) (front ++ two_lines lines own i), at rest (append_assoc names (new_member_decl m) (new_member_decls ms) i)))

  -- ---- records

  record_reads : (is_union : Bool) (tag : Option (List ℕ)) (list : OptionMemberDeclTrees) (lines : List ℕ) (names : List Binding) (rest : List Token)
      → SpecFits (suc most) names (Record is_union tag list lines) → NoBrace rest
      → Reads (record_behind below is_union (get_or lines 0 0)) (tree.tag_tokens tag (drop 1 lines) ++ members_tokens list (tree.behind_tag tag (drop 1 lines))) (new_spec (Record is_union tag list lines))
      (Record is_union tag list lines) names rest
  unfolding record_behind record_tagged record_untagged
  record_reads is_union None no_members lines names rest fits free = absurd (true≢false (sym fits.valid.tagged))
  record_reads is_union None (some_members list) [] names rest fits free = let own = fits.valid.own in absurd (omega (arith, own))
  record_reads is_union None (some_members list) (line ∷ lines) names rest fits free =
      let own = fits.valid.own in
      let deep = fits.deep in
      let state : State = at (members_tokens (some_members list) lines ++ rest) names in
      bind_some (members below (line ∷ [])) _ state (list_read (decl_list list) (line ∷ lines)) (at rest (names ++ new_member_decls list))
      (members_reads list (line ∷ []) lines names rest (omega (arith, own)) fits.valid.listed fits.stands (omega (arith, deep)))
      ∙ ap (λ (ms : MemberDeclTrees). Some (Record is_union None (some_members ms) (line ∷ lines), at rest (names ++ new_member_decls list))) (decls_of_list list)
  record_reads is_union (Some name) list [] names rest fits free = let own = fits.valid.own in absurd (omega (arith, own))
  record_reads is_union (Some name) list (line ∷ []) names rest fits free = let own = fits.valid.own in absurd (omega (arith, own))
  record_reads is_union (Some name) no_members (line ∷ k ∷ lines) names rest fits free =
      let own = fits.valid.own in
      let state : State = at (token (kind.Word name) k ∷ rest) names in
      cond-true (shows_word (sight state)) _ _ (word_shows (is_type names name))
      ∙ bind_some word _ state (name, k) (at rest names) (word_reads name k rest names)
      ∙ cond-false (sees_mark punct.LeftBrace (at rest names)) _ _ (shows_no_brace names rest free)
      ∙ (λ i. Some (Record is_union (Some name) no_members (line ∷ k ∷ no_line lines (omega (arith, own)) i), at rest (sym (append-nil names) i)))
  record_reads is_union (Some name) (some_members list) (line ∷ k ∷ lines) names rest fits free =
      let own = fits.valid.own in
      let deep = fits.deep in
      let inside : List Token = members_tokens (some_members list) lines ++ rest in
      let state : State = at (token (kind.Word name) k ∷ inside) names in
      cond-true (shows_word (sight state)) _ _ (word_shows (is_type names name))
      ∙ bind_some word _ state (name, k) (at inside names) (word_reads name k inside names)
      ∙ cond-true (sees_mark punct.LeftBrace (at inside names)) _ _ (same_mark_refl punct.LeftBrace)
      ∙ bind_some (members below (line ∷ k ∷ [])) _ (at inside names) (list_read (decl_list list) (line ∷ k ∷ lines)) (at rest (names ++ new_member_decls list))
      (members_reads list (line ∷ k ∷ []) lines names rest (omega (arith, own)) fits.valid.listed fits.stands (omega (arith, deep)))
      ∙ ap (λ (ms : MemberDeclTrees). Some (Record is_union (Some name) (some_members ms) (line ∷ k ∷ lines), at rest (names ++ new_member_decls list))) (decls_of_list list)

  -- ---- enumerations

  enum_next : (e : EnumeratorTree) (names : List Binding) (rest : List Token) → EnumeratorFits most names e → EndsAt punct.Comma punct.RightBrace rest
      → Reads below.enumerator (enumerator_tokens e) (new_enumerator e) e names rest
  enum_next e names rest fits ends = reads.enumerator e names rest fits ends

  enums_read : (list : EnumeratorTrees) (last_comma : Bool) (front lines : List ℕ) (names : List Binding) (rest : List Token) → length lines ≡ (enumerators_count list - 1) + one_if last_comma + 2
      → OneOrMore (enumerators_count list) (AreValidEnumerators list) → EnumeratorsStand names list → enumerators_depth list ≤ most
      → Reads (braced below.enumerator front) (tree.enumerator_list_tokens (some_enumerator_list list) last_comma lines) (new_enumerators list) (braced_read (enum_list list) last_comma (front ++ lines)) names rest
  enums_read no_enumerators last_comma front lines names rest own valid stands deep = let some : 0 < 0 = valid.present in absurd (omega arith)
  enums_read (more_enumerators e es) last_comma front lines names rest own valid stands deep =
      let R : List (List Token) → List Binding → Type 0 = λ texts new.
      Reads (braced below.enumerator front) (tree.mark lines 0 punct.LeftBrace ∷ listed (brace last_comma) (enumerator_tokens e ∷ texts) (drop 1 lines)) (new_enumerator e ++ new)
      (braced_read (e ∷ enum_list es) last_comma (front ++ lines)) names rest in
      let a = enums_count es in
      let b = brace_count last_comma in
      let read = braced_reads below.enumerator enumerator_tokens new_enumerator (EnumeratorFits most) enum_next (λ e names rest fits. enum_no_brace e names rest)
      e (enum_list es) last_comma front lines names rest (omega (arith, a, b, own)) (enums_good most (more_enumerators e es) names valid.each stands deep) in
      subst (λ (new : List Binding). R (enumerators_tokens es) new) (enums_new es) (subst (λ (texts : List (List Token)). R texts (each_of new_enumerator (enum_list es))) (enums_texts es) read)

  enum_reads : (tag : Option (List ℕ)) (list : OptionEnumeratorTrees) (last_comma : Bool) (lines : List ℕ) (names : List Binding) (rest : List Token)
      → SpecFits (suc most) names (Enum tag list last_comma lines) → NoBrace rest
      → Reads (enum_behind below (get_or lines 0 0)) (tree.tag_tokens tag (drop 1 lines) ++ tree.enumerator_list_tokens list last_comma (tree.behind_tag tag (drop 1 lines))) (new_spec (Enum tag list last_comma lines))
      (Enum tag list last_comma lines) names rest
  unfolding enum_behind enum_tagged enum_untagged
  enum_reads None no_enumerator_list last_comma lines names rest fits free = absurd (true≢false (sym fits.valid.tagged))
  enum_reads None (some_enumerator_list list) last_comma [] names rest fits free = let own = fits.valid.own in absurd (omega (arith, own))
  enum_reads None (some_enumerator_list list) last_comma (line ∷ lines) names rest fits free =
      let own = fits.valid.own in
      let deep = fits.deep in
      let front : List Token = tree.enumerator_list_tokens (some_enumerator_list list) last_comma lines in
      bind_some (braced below.enumerator (line ∷ [])) _ (at (front ++ rest) names) (braced_read (enum_list list) last_comma (line ∷ lines)) (at rest (names ++ new_enumerators list))
      (enums_read list last_comma (line ∷ []) lines names rest (omega (arith, own)) fits.valid.listed fits.stands (omega (arith, deep)))
      ∙ ap (λ (es : EnumeratorTrees). Some (Enum None (some_enumerator_list es) last_comma (line ∷ lines), at rest (names ++ new_enumerators list))) (enums_of_list list)
  enum_reads (Some name) list last_comma [] names rest fits free = let own = fits.valid.own in absurd (omega (arith, own))
  enum_reads (Some name) list last_comma (line ∷ []) names rest fits free = let own = fits.valid.own in absurd (omega (arith, own))
  enum_reads (Some name) no_enumerator_list last_comma (line ∷ k ∷ lines) names rest fits free =
      let own = fits.valid.own in
      let state : State = at (token (kind.Word name) k ∷ rest) names in
      let absent : false ≡ last_comma = sym fits.valid.listed in
      cond-true (shows_word (sight state)) _ _ (word_shows (is_type names name))
      ∙ bind_some word _ state (name, k) (at rest names) (word_reads name k rest names)
      ∙ cond-false (sees_mark punct.LeftBrace (at rest names)) _ _ (shows_no_brace names rest free)
      ∙ (λ i. Some (Enum (Some name) no_enumerator_list (absent i) (line ∷ k ∷ no_line lines (omega (arith, own)) i), at rest (sym (append-nil names) i)))
  enum_reads (Some name) (some_enumerator_list list) last_comma (line ∷ k ∷ lines) names rest fits free =
      let own = fits.valid.own in
      let deep = fits.deep in
      let inside : List Token = tree.enumerator_list_tokens (some_enumerator_list list) last_comma lines ++ rest in
      let state : State = at (token (kind.Word name) k ∷ inside) names in
      cond-true (shows_word (sight state)) _ _ (word_shows (is_type names name))
      ∙ bind_some word _ state (name, k) (at inside names) (word_reads name k inside names)
      ∙ cond-true (sees_mark punct.LeftBrace (at inside names)) _ _ (same_mark_refl punct.LeftBrace)
      ∙ bind_some (braced below.enumerator (line ∷ k ∷ [])) _ (at inside names) (braced_read (enum_list list) last_comma (line ∷ k ∷ lines)) (at rest (names ++ new_enumerators list))
      (enums_read list last_comma (line ∷ k ∷ []) lines names rest (omega (arith, own)) fits.valid.listed fits.stands (omega (arith, deep)))
      ∙ ap (λ (es : EnumeratorTrees). Some (Enum (Some name) (some_enumerator_list es) last_comma (line ∷ k ∷ lines), at rest (names ++ new_enumerators list))) (enums_of_list list)

  -- ---- specifiers

  pub spec_from_reads : (s : SpecTree) (names : List Binding) (rest : List Token) → SpecFits (suc most) names s → NoBrace rest
      → Reads (spec_from below) (spec_tokens s) (new_spec s) s names rest
  unfolding spec_from key_spec typedef_spec
  spec_from_reads (Key word lines) names rest fits free =
      let line = get_or lines 0 0 in
      bind_some keyword (λ k. spec_behind below k.0 k.1) (at (token (kind.Key word) line ∷ rest) names) (word, line) (at rest names) (keyword_reads word line rest names)
      ∙ key_behind word line names rest fits.valid.part
      ∙ (λ i. Some (Key word (one_line lines fits.valid.own i), at rest (sym (append-nil names) i)))
  spec_from_reads (Typedef name lines) names rest fits free =
      let line = get_or lines 0 0 in
      let state : State = at (token (kind.Word name) line ∷ rest) names in
      ap (λ (b : Bool). spec_by below (word_sight b) state) fits.stands.0
      ∙ bind_some word _ state (name, line) (at rest names) (word_reads name line rest names)
      ∙ (λ i. Some (Typedef name (one_line lines fits.valid i), at rest (sym (append-nil names) i)))
  spec_from_reads (Record is_union tag list lines) names rest fits free =
      let line = get_or lines 0 0 in
      let inside : List Token = (tree.tag_tokens tag (drop 1 lines) ++ members_tokens list (tree.behind_tag tag (drop 1 lines))) ++ rest in
      bind_some keyword (λ k. spec_behind below k.0 k.1) (at (token (kind.Key (record_keyword is_union)) line ∷ inside) names) (record_keyword is_union, line) (at inside names)
      (keyword_reads (record_keyword is_union) line inside names)
      ∙ record_is is_union line (at inside names)
      ∙ record_reads is_union tag list lines names rest fits free
  spec_from_reads (Enum tag list last_comma lines) names rest fits free =
      let line = get_or lines 0 0 in
      let inside : List Token = (tree.tag_tokens tag (drop 1 lines) ++ tree.enumerator_list_tokens list last_comma (tree.behind_tag tag (drop 1 lines))) ++ rest in
      bind_some keyword (λ k. spec_behind below k.0 k.1) (at (token (kind.Key keywords.Enum) line ∷ inside) names) (keywords.Enum, line) (at inside names)
      (keyword_reads keywords.Enum line inside names)
      ∙ enum_reads tag list last_comma lines names rest fits free
