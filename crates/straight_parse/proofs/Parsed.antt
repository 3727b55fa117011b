-- Units, in both directions, and what `parse` answers.
use Rattle.std.proofs.Common.{◌≡◌, ℕ, suc, ◌<◌, ◌≤◌, Bool, true, false, not, cond, Option, Some, None, List, [], ◌∷◌, ◌++◌, length, map, fold, get_or, refl, sym, ap, ◌∙◌, subst, inl, inr, arith, append_assoc, append-nil, length-append}
use Rattle.std.proofs.lemmas.Bool.{cond-true, cond-false, true≢false}
use Rattle.cx_lex.specs.declared.token.Punct.TheVariants.{LeftBrace, Semicolon}
use Rattle.cx_lex.specs.declared.token.Token.{Token}
use Rattle.cx_lex.specs.declared.token.TokenKind.{TokenKind}
use Rattle.cx_lex.specs.declared.token.TokenKind.TheVariants as kind
use Rattle.straight_parse.specs.Declarations.{decl_tree, declaration}
use Rattle.straight_parse.specs.Declarators.{MeasuredDeclarator, declarator, specs, stops_specs, stops_functions}
use Rattle.straight_parse.specs.Lists.{many_ahead, taking}
use Rattle.straight_parse.specs.Parsed.{OneTree}
use Rattle.straight_parse.specs.Reading.{State, bind}
use Rattle.straight_parse.specs.Sights.{sight_of, sight, shows_mark, sees_mark, mark}
use Rattle.straight_parse.specs.Stmts.{block}
use Rattle.straight_parse.specs.Units.{definition, behind_first, no_declarator, behind_specs, external, at_end, with_external, unit_tree, unit}
use Rattle.straight_parse.proofs.Declared.{declaration_sound, declaration_reads, first_ends, Ends}
use Rattle.straight_parse.proofs.DeclaratorReads.{declarator_reads, named_begins}
use Rattle.straight_parse.proofs.DeclaratorSound.{StandsNamed, declarator_sound}
use Rattle.straight_parse.proofs.ExprReads.{one_line}
use Rattle.straight_parse.proofs.Many.{Each, Items, many_sound, many_reads}
use Rattle.straight_parse.proofs.Marks.{same_mark_refl, equal_no_opening, comma_no_opening, semicolon_no_opening, left_brace_no_opening, semicolon_no_left_brace, comma_no_left_brace, equal_no_left_brace}
use Rattle.straight_parse.proofs.Readers.{bind_some, bind_elim, same_answer, none_some, token, mark_front, mark_reads}
use Rattle.straight_parse.proofs.Specifiers.{SpecsStand, specs_sound, specs_reads}
use Rattle.straight_parse.proofs.Statements.{block_sound, block_reads, block_begins}
use Rattle.straight_tree.specs.Depth.{declarator_depth, external_depth, externals_depth, unit_depth}
use Rattle.straight_tree.specs.Derives.{Derives}
use Rattle.straight_tree.specs.Tokens as tree
use Rattle.straight_tree.specs.Tokens.{joined, specs_tokens, spec_list_tokens, spec_keyword, declarator_tokens, init_tokens, init_declarator_tokens, init_declarators_tokens, stmt_tokens, listed, external_tokens, externals_tokens, unit_tokens}
use Rattle.straight_tree.specs.Trees.{SpecsTree, Specs, no_specs, more_specs, DeclaratorTree, InitialiserTree, InitDeclaratorTree, StmtTree, ExternalTree, Definition, Declaration, UnitTree}
use Rattle.straight_tree.specs.Valid.{IsValidSpecs, IsNamed, IsValidExternal, AreValidExternals, IsValidUnit}

-- ---- what was read stands in front

record StandsExternal (depth : ℕ) (state : State) (e : ExternalTree) (after : State) : Type 0 where
  spelled : state ≡ external_tokens e ++ after
  valid : IsValidExternal e
  within : external_depth e ≤ depth

three : (a b c : List Token) (s0 s1 s2 s3 : State) → s0 ≡ a ++ s1 → s1 ≡ b ++ s2 → s2 ≡ c ++ s3 → s0 ≡ (a ++ b ++ c) ++ s3
three a b c s0 s1 s2 s3 e f g =
    e ∙ ap (λ (s : State). a ++ s) (f ∙ ap (λ (s : State). b ++ s) g) ∙ sym (append_assoc a b (c ++ s3)) ∙ sym (append_assoc (a ++ b) c s3)

two : (a b : List Token) (s0 s1 s2 : State) → s0 ≡ a ++ s1 → s1 ≡ b ++ s2 → s0 ≡ (a ++ b) ++ s2
two a b s0 s1 s2 e f = e ∙ ap (λ (s : State). a ++ s) f ∙ sym (append_assoc a b s2)

module _ (depth : ℕ) (state : State) (s : SpecsTree) (s1 : State) (front : SpecsStand state s s1) (some : 1 ≤ depth) where
  definition_sound : (left : MeasuredDeclarator) (s2 : State) (e : ExternalTree) (after : State) → StandsNamed depth s1 left s2
      → definition depth s left.0 s2 ≡ Some (e, after) → StandsExternal (suc depth) state e after
  unfolding definition
  definition_sound left s2 e after stands h =
      bind_elim _ (block depth) _ s2 e after h (λ body s3 e3 k3.
      let inside = block_sound depth s2 body s3 e3 in
      same_answer (StandsExternal (suc depth) state) (Definition s left.0 body []) s3 e after k3 (record {
        spelled = three (specs_tokens s) (declarator_tokens left.0) (stmt_tokens body) state s1 s2 s3 front.spelled stands.spelled inside.stands.spelled;
        valid = (front.valid, stands.named, inside.stands.valid, inside.is_block, refl);
        within = let a = stands.deep in let b : left.1 ≤ depth = stands.within in let c = inside.stands.within in omega (arith, a, c);
      }))

  decl_sound : (left : MeasuredDeclarator) (s2 : State) (e : ExternalTree) (after : State) → StandsNamed depth s1 left s2
      → bind (declaration depth s left) (λ d. λ t. Some (Declaration d, t)) s2 ≡ Some (e, after) → StandsExternal (suc depth) state e after
  decl_sound left s2 e after stands h =
      bind_elim _ (declaration depth s left) _ s2 e after h (λ d s3 e3 k3.
      let inside = declaration_sound depth s s1 left s2 d s3 stands e3 in
      let is = inside.specs_are in
      same_answer (StandsExternal (suc depth) state) (Declaration d) s3 e after k3 (record {
        spelled = two (specs_tokens d.specs) (listed Semicolon (init_declarators_tokens d.list) d.lines) state s1 s3
            (front.spelled ∙ ap (λ (s : SpecsTree). specs_tokens s ++ s1) (sym is)) inside.spelled;
        valid = (subst IsValidSpecs (sym is) front.valid, inside.valid, inside.count);
        within = let a = inside.within in omega (arith, a);
      }))

  first_by : (left : MeasuredDeclarator) (s2 : State) (e : ExternalTree) (after : State) (test : Bool) → StandsNamed depth s1 left s2
      → cond {A = Option (ExternalTree × State)} test (definition depth s left.0 s2) (bind (declaration depth s left) (λ d. λ t. Some (Declaration d, t)) s2) ≡ Some (e, after)
      → StandsExternal (suc depth) state e after
  first_by left s2 e after true stands h = definition_sound left s2 e after stands h
  first_by left s2 e after false stands h = decl_sound left s2 e after stands h

  no_declarator_sound : (e : ExternalTree) (after : State) → no_declarator s s1 ≡ Some (e, after) → StandsExternal (suc depth) state e after
  unfolding no_declarator
  no_declarator_sound e after h =
      bind_elim _ (mark Semicolon) _ s1 e after h (λ last s2 e2 k2.
      same_answer (StandsExternal (suc depth) state) (Declaration (decl_tree s [] (last ∷ []))) s2 e after k2 (record {
        spelled = two (specs_tokens s) (token (kind.Mark Semicolon) last ∷ []) state s1 s2 front.spelled (mark_front Semicolon s1 last s2 e2);
        valid = (front.valid, tt, refl);
        within = omega arith;
      }))

  behind_by : (e : ExternalTree) (after : State) (test : Bool)
      → cond {A = Option (ExternalTree × State)} test (no_declarator s s1) (bind (declarator depth) (λ left. behind_first depth s left) s1) ≡ Some (e, after)
      → StandsExternal (suc depth) state e after
  unfolding behind_first
  behind_by e after true h = no_declarator_sound e after h
  behind_by e after false h =
      bind_elim _ (declarator depth) _ s1 e after h (λ left s2 e2 k2.
      first_by left s2 e after (sees_mark LeftBrace s2) (declarator_sound depth s1 left s2 e2) k2)

external_sound : (depth : ℕ) (state : State) (e : ExternalTree) (after : State) → external depth state ≡ Some (e, after) → StandsExternal (suc depth) state e after
unfolding external behind_specs
external_sound depth state e after h =
    bind_elim _ (specs depth) _ state e after h (λ s s1 e1 k1.
    let front = specs_sound depth state s s1 e1 in
    behind_by depth state s s1 front.0 front.1 e after (sees_mark Semicolon s1) k1)

abbrev Good : ℕ → ExternalTree → Type 0
Good depth e = IsValidExternal e × (external_depth e ≤ suc depth)

fold_externals : (es : List ExternalTree) (all : List ExternalTree) → fold with_external all es ≡ all ++ es
fold_externals [] all = sym (append-nil all)
fold_externals (e ∷ es) all = fold_externals es (with_external all e) ∙ append_assoc all (e ∷ []) es

externals_joined : (es : List ExternalTree) → joined (map external_tokens es) ≡ joined (externals_tokens es)
externals_joined [] = refl
externals_joined (e ∷ es) = ap (λ (ts : List Token). external_tokens e ++ ts) (externals_joined es)

externals_valid : (depth : ℕ) (es : List ExternalTree) → Each (Good depth) es → AreValidExternals es
externals_valid depth [] good = tt
externals_valid depth (e ∷ es) good = (good.0.0, externals_valid depth es good.1)

externals_within : (depth : ℕ) (es : List ExternalTree) → Each (Good depth) es → externals_depth es ≤ suc depth
externals_within depth [] good = omega arith
externals_within depth (e ∷ es) good = let a = good.0.1 in let b = externals_within depth es good.1 in omega (arith, a, b)

kind_no_end : (k : TokenKind) → at_end (sight_of k) ≡ false
kind_no_end (kind.Word bytes) = refl
kind_no_end (kind.Key k) = refl
kind_no_end (kind.Number value ty) = refl
kind_no_end (kind.Letter value) = refl
kind_no_end (kind.Text bytes) = refl
kind_no_end (kind.Mark punct) = refl

end_empty : (state : State) → at_end (sight state) ≡ true → state ≡ []
end_empty [] e = refl
end_empty (t ∷ state) e = absurd (true≢false (sym e ∙ kind_no_end t.kind))

pub record StandsUnit (depth : ℕ) (state : State) (u : UnitTree) : Type 0 where
  pub spelled : unit_tokens u ≡ state
  pub valid : IsValidUnit u
  pub within : unit_depth u ≤ suc (suc depth)

unit_stands : (depth : ℕ) (state s1 : State) (first : ExternalTree) (parts : List ExternalTree) (after : State) → StandsExternal (suc depth) state first s1
    → Items (Good depth) external_tokens with_external at_end (with_external [] first) s1 parts after → StandsUnit depth state (unit_tree parts)
unit_stands depth state s1 first parts after front read =
    let es = read.items in
    let made : parts ≡ first ∷ es = read.taken ∙ fold_externals es (with_external [] first) in
    let empty : after ≡ [] = end_empty after read.stopped in
    let P : List ExternalTree → Type 0 = λ parts. StandsUnit depth state (unit_tree parts) in
    subst P (sym made) (record {
      spelled = sym (front.spelled ∙ ap (λ (s : State). external_tokens first ++ s)
          (read.spelled ∙ ap (λ (s : State). joined (map external_tokens es) ++ s) empty ∙ append-nil (joined (map external_tokens es)) ∙ externals_joined es));
      valid = (omega arith, (front.valid, externals_valid depth es read.good), refl);
      within = let a = front.within in let b = externals_within depth es read.good in omega (arith, a, b);
    })

pub unit_sound : (depth : ℕ) (state : State) (u : UnitTree) (after : State) → unit depth state ≡ Some (u, after) → StandsUnit depth state u
unfolding unit taking many_ahead
unit_sound depth state u after h =
    bind_elim _ (taking (external depth) with_external []) _ state u after h (λ one s1 e1 k1.
    bind_elim _ (many_ahead at_end (taking (external depth) with_external) one) _ s1 u after k1 (λ parts s2 e2 k2.
    bind_elim _ (external depth) _ state one s1 e1 (λ first mid e same.
    let P : List ExternalTree → State → Type 0 = λ one s1. many_ahead at_end (taking (external depth) with_external) one s1 ≡ Some (parts, s2) → StandsUnit depth state (unit_tree parts) in
    same_answer (λ u after. StandsUnit depth state u) (unit_tree parts) s2 u after k2
    (same_answer P (with_external [] first) mid one s1 same
    (λ read. unit_stands depth state mid first parts s2 (external_sound depth state first mid e)
    (many_sound (Good depth) external_tokens with_external at_end (external depth)
    (λ state e after h. let one = external_sound depth state e after h in (one.spelled, (one.valid, one.within))) (suc (length mid)) (with_external [] first) mid parts s2 read)) e2))))

-- ---- what stands in front is read

-- behind a named declarator no specifier stands, nor a semicolon
named_stops_specs : (t : DeclaratorTree) (rest : State) → IsNamed t → stops_specs (sight (declarator_tokens t ++ rest)) ≡ true
named_stops_specs t rest v = ap stops_specs (named_begins t rest v)

named_no_semicolon : (t : DeclaratorTree) (rest : State) → IsNamed t → sees_mark Semicolon (declarator_tokens t ++ rest) ≡ false
named_no_semicolon t rest v = ap (shows_mark Semicolon) (named_begins t rest v)

init_no_brace : (lines : List ℕ) (i : Option InitialiserTree) (rest : State) → Ends rest → sees_mark LeftBrace (init_tokens lines i ++ rest) ≡ false
init_no_brace lines None rest (inl comma) = ap (shows_mark LeftBrace) comma ∙ comma_no_left_brace
init_no_brace lines None rest (inr last) = ap (shows_mark LeftBrace) last ∙ semicolon_no_left_brace
init_no_brace lines (Some i) rest ends = equal_no_left_brace

init_no_function : (lines : List ℕ) (i : Option InitialiserTree) (rest : State) → Ends rest → stops_functions (sight (init_tokens lines i ++ rest)) ≡ true
init_no_function lines None rest (inl comma) = ap stops_functions comma ∙ ap not comma_no_opening
init_no_function lines None rest (inr last) = ap stops_functions last ∙ ap not semicolon_no_opening
init_no_function lines (Some i) rest ends = ap not equal_no_opening

no_line : (lines : List ℕ) → length lines ≡ 0 → [] ≡ lines
no_line [] e = refl
no_line (l ∷ lines) e = absurd (omega arith)

definition_reads : (depth : ℕ) (s : SpecsTree) (d : DeclaratorTree) (body : StmtTree) (lines : List ℕ) (rest : State) → IsValidExternal (Definition s d body lines)
    → external_depth (Definition s d body lines) ≤ suc depth → external depth (external_tokens (Definition s d body lines) ++ rest) ≡ Some (Definition s d body lines, rest)
unfolding external behind_specs behind_first definition
definition_reads depth s d body lines rest v deep =
    let s2 : State = stmt_tokens body ++ rest in
    let s1 : State = declarator_tokens d ++ s2 in
    let brace = block_begins body rest v.3 in
    ap (λ (t : State). external depth t) (append_assoc (specs_tokens s ++ declarator_tokens d) (stmt_tokens body) rest ∙ append_assoc (specs_tokens s) (declarator_tokens d) s2)
    ∙ bind_some (specs depth) _ (specs_tokens s ++ s1) s s1 (specs_reads depth s s1 (omega (arith, deep)) v.0 (named_stops_specs d s2 v.1))
    ∙ cond-false (sees_mark Semicolon s1) _ _ (named_no_semicolon d s2 v.1)
    ∙ bind_some (declarator depth) _ s1 (d, declarator_depth d) s2
    (declarator_reads depth d s2 v.1 (omega (arith, deep)) (ap stops_functions brace ∙ ap not left_brace_no_opening))
    ∙ cond-true (sees_mark LeftBrace s2) _ _ (ap (shows_mark LeftBrace) brace ∙ same_mark_refl LeftBrace)
    ∙ bind_some (block depth) _ s2 body rest (block_reads depth body rest v.2 v.3 (omega (arith, deep)))
    ∙ ap (λ (ls : List ℕ). Some (Definition s d body ls, rest)) (no_line lines v.4)

some_decl_reads : (depth : ℕ) (s : SpecsTree) (d : InitDeclaratorTree) (ds : List InitDeclaratorTree) (lines : List ℕ) (rest : State)
    → IsValidExternal (Declaration (decl_tree s (d ∷ ds) lines)) → external_depth (Declaration (decl_tree s (d ∷ ds) lines)) ≤ suc depth
    → external depth (external_tokens (Declaration (decl_tree s (d ∷ ds) lines)) ++ rest) ≡ Some (Declaration (decl_tree s (d ∷ ds) lines), rest)
unfolding external behind_specs behind_first
some_decl_reads depth s d ds lines rest v deep =
    let tail : State = tree.behind_commas Semicolon (init_declarators_tokens ds) lines ++ rest in
    let s2 : State = init_tokens d.lines d.init ++ tail in
    let s1 : State = declarator_tokens d.declarator ++ s2 in
    let ends = first_ends ds lines rest in
    ap (λ (t : State). external depth t)
    (append_assoc (specs_tokens s) (init_declarator_tokens d ++ tree.behind_commas Semicolon (init_declarators_tokens ds) lines) rest
    ∙ ap (λ (t : State). specs_tokens s ++ t) (append_assoc (init_declarator_tokens d) (tree.behind_commas Semicolon (init_declarators_tokens ds) lines) rest
    ∙ append_assoc (declarator_tokens d.declarator) (init_tokens d.lines d.init) tail))
    ∙ bind_some (specs depth) _ (specs_tokens s ++ s1) s s1 (specs_reads depth s s1 (omega (arith, deep)) v.0 (named_stops_specs d.declarator s2 v.1.0.0))
    ∙ cond-false (sees_mark Semicolon s1) _ _ (named_no_semicolon d.declarator s2 v.1.0.0)
    ∙ bind_some (declarator depth) _ s1 (d.declarator, declarator_depth d.declarator) s2
    (declarator_reads depth d.declarator s2 v.1.0.0 (omega (arith, deep)) (init_no_function d.lines d.init tail ends))
    ∙ cond-false (sees_mark LeftBrace s2) _ _ (init_no_brace d.lines d.init tail ends)
    ∙ bind_some (declaration depth s (d.declarator, declarator_depth d.declarator)) _ s2 (decl_tree s (d ∷ ds) lines) rest
    (declaration_reads depth s d ds lines rest v.1 v.2 (omega (arith, deep)))

no_decl_reads : (depth : ℕ) (s : SpecsTree) (lines : List ℕ) (rest : State) → IsValidExternal (Declaration (decl_tree s [] lines)) → external_depth (Declaration (decl_tree s [] lines)) ≤ suc depth
    → external depth (external_tokens (Declaration (decl_tree s [] lines)) ++ rest) ≡ Some (Declaration (decl_tree s [] lines), rest)
unfolding external behind_specs no_declarator
no_decl_reads depth s lines rest v deep =
    let last = get_or lines 0 0 in
    let s1 : State = token (kind.Mark Semicolon) last ∷ rest in
    ap (λ (t : State). external depth t) (append_assoc (specs_tokens s) (token (kind.Mark Semicolon) last ∷ []) rest)
    ∙ bind_some (specs depth) _ (specs_tokens s ++ s1) s s1 (specs_reads depth s s1 (omega (arith, deep)) v.0 refl)
    ∙ cond-true (sees_mark Semicolon s1) _ _ (same_mark_refl Semicolon)
    ∙ bind_some (mark Semicolon) _ s1 last rest (mark_reads Semicolon last rest)
    ∙ ap (λ (ls : List ℕ). Some (Declaration (decl_tree s [] ls), rest)) (one_line lines v.2)

decl_reads : (depth : ℕ) (s : SpecsTree) (list : List InitDeclaratorTree) (lines : List ℕ) (rest : State)
    → IsValidExternal (Declaration (decl_tree s list lines)) → external_depth (Declaration (decl_tree s list lines)) ≤ suc depth
    → external depth (external_tokens (Declaration (decl_tree s list lines)) ++ rest) ≡ Some (Declaration (decl_tree s list lines), rest)
decl_reads depth s [] lines rest v deep = no_decl_reads depth s lines rest v deep
decl_reads depth s (d ∷ ds) lines rest v deep = some_decl_reads depth s d ds lines rest v deep

external_reads : (depth : ℕ) (e : ExternalTree) (rest : State) → Good depth e → external depth (external_tokens e ++ rest) ≡ Some (e, rest)
external_reads depth (Definition s d body lines) rest good = definition_reads depth s d body lines rest good.0 good.1
external_reads depth (Declaration d) rest good = decl_reads depth d.specs d.list d.lines rest good.0 good.1

-- an external declaration begins with a specifier
some_front : (s : SpecsTree) (rest : State) → IsValidSpecs s → 0 < length (specs_tokens s ++ rest)
some_front (Specs no_specs lines) rest v = absurd (let a = v.0 in omega (arith, a))
some_front (Specs (more_specs s ss) lines) rest v = omega arith

not_empty : (state : State) → 0 < length state → at_end (sight state) ≡ false
not_empty [] some = absurd (omega arith)
not_empty (t ∷ state) some = kind_no_end t.kind

external_some : (e : ExternalTree) → IsValidExternal e → 0 < length (external_tokens e)
external_some (Definition s d body lines) v =
    let a = some_front s [] v.0 in omega (arith, a, length-append (specs_tokens s ++ declarator_tokens d) (stmt_tokens body), length-append (specs_tokens s) (declarator_tokens d), length-append (specs_tokens s) [])
external_some (Declaration d) v =
    let a = some_front d.specs [] v.0 in omega (arith, a, length-append (specs_tokens d.specs) (listed Semicolon (init_declarators_tokens d.list) d.lines), length-append (specs_tokens d.specs) [])

external_begins : (depth : ℕ) (e : ExternalTree) (behind : State) → Good depth e → at_end (sight (external_tokens e ++ behind)) ≡ false
external_begins depth e behind good =
    let a = external_some e good.0 in not_empty (external_tokens e ++ behind) (omega (arith, a, length-append (external_tokens e) behind))

good_externals : (depth : ℕ) (es : List ExternalTree) → AreValidExternals es → externals_depth es ≤ suc depth → Each (Good depth) es
good_externals depth [] valid within = tt
good_externals depth (e ∷ es) valid within = ((valid.0, omega (arith, within)), good_externals depth es valid.1 (omega (arith, within)))

-- each is at least one token long
abbrev Long : ExternalTree → Type 0
Long e = 0 < length (external_tokens e)

no_longer_externals : (depth : ℕ) (es : List ExternalTree) (rest : State) → Each (Good depth) es → length es ≤ length (joined (map external_tokens es) ++ rest)
no_longer_externals depth [] rest good = omega arith
no_longer_externals depth (e ∷ es) rest good =
    omega (
      arith,
      no_longer_externals depth es rest good.1,
      external_some e good.0.0,
      ap length (append_assoc (external_tokens e) (joined (map external_tokens es)) rest),
      length-append (external_tokens e) (joined (map external_tokens es) ++ rest),
    )

parts_read : (depth : ℕ) (e : ExternalTree) (es : List ExternalTree) → Each (Good depth) (e ∷ es) → unit depth (joined (externals_tokens (e ∷ es))) ≡ Some (unit_tree (e ∷ es), [])
unfolding unit taking many_ahead
parts_read depth e es good =
    let mid : State = joined (map external_tokens es) ++ [] in
    let one = with_external [] e in
    let state_is : joined (externals_tokens (e ∷ es)) ≡ external_tokens e ++ mid =
    ap (λ (s : State). external_tokens e ++ s) (sym (externals_joined es) ∙ sym (append-nil (joined (map external_tokens es)))) in
    ap (λ (s : State). unit depth s) state_is
    ∙ bind_some (taking (external depth) with_external []) _ (external_tokens e ++ mid) one mid
    (bind_some (external depth) _ (external_tokens e ++ mid) e mid (external_reads depth e mid good.0))
    ∙ bind_some (many_ahead at_end (taking (external depth) with_external) one) _ mid (fold with_external one es) []
    (many_reads (Good depth) external_tokens with_external at_end (external depth) (λ s. Unit {0}) (λ e behind good. external_begins depth e behind good) (λ e behind good. tt)
    (λ e behind good follows. external_reads depth e behind good) es (suc (length mid)) one [] (let a = no_longer_externals depth es [] good.1 in omega (arith, a)) good.1 tt refl)
    ∙ ap (λ (parts : List ExternalTree). Some (unit_tree parts, [])) (fold_externals es one)

unit_parts_read : (depth : ℕ) (parts : List ExternalTree) (lines : List ℕ) → 0 < length parts → AreValidExternals parts → length lines ≡ 0 → externals_depth parts ≤ suc depth
    → unit depth (joined (externals_tokens parts)) ≡ Some (record { parts = parts; lines = lines }, [])
unit_parts_read depth [] lines some valid none within = absurd (omega arith)
unit_parts_read depth (e ∷ es) lines some valid none within =
    parts_read depth e es (good_externals depth (e ∷ es) valid within)
    ∙ ap (λ (ls : List ℕ). Some (record { parts = e ∷ es; lines = ls }, [])) (no_line lines none)

pub unit_reads : (depth : ℕ) (u : UnitTree) → IsValidUnit u → unit_depth u ≤ suc (suc depth) → unit depth (unit_tokens u) ≡ Some (u, [])
unit_reads depth u v deep = unit_parts_read depth u.parts u.lines v.0 v.1 v.2 (omega (arith, deep))

-- ---- what tokens derive

-- what is read of parts at most this deep
pub derives_read : (depth : ℕ) (state : State) (tokens : List Token) (u : UnitTree) → state ≡ tokens → 510 ≤ depth → Derives tokens u → unit depth state ≡ Some (u, [])
derives_read depth state tokens u same deep d =
    let within = d.depth in
    subst (λ (s : State). unit depth s ≡ Some (u, [])) (d.spelled ∙ sym same) (unit_reads depth u d.valid (omega (arith, within)))

pub read_derives : (depth : ℕ) (state : State) (tokens : List Token) (u : UnitTree) (after : State) → state ≡ tokens → unit depth state ≡ Some (u, after) → depth ≤ 510 → Derives tokens u
read_derives depth state tokens u after same h low =
    let stands = unit_sound depth state u after h in
    let within = stands.within in
    record { valid = stands.valid; depth = omega (arith, within); spelled = stands.spelled ∙ same }

some_one : {A : Type 0} (a b : A) → Some a ≡ Some b → a ≡ b
some_one a b e = cc

pub same_read : (u v : UnitTree) (s t : State) (r : Option (UnitTree × State)) → r ≡ Some (u, s) → r ≡ Some (v, t) → u ≡ v
same_read u v s t r e f = ap (λ (p : UnitTree × State). p.0) (some_one {A = UnitTree × State} (u, s) (v, t) (sym e ∙ f))

-- the one tree is that which is read
pub read_only : (depth : ℕ) (state : State) (tokens : List Token) (u : UnitTree) (after : State) → state ≡ tokens → unit depth state ≡ Some (u, after) → 510 ≤ depth
    → (v : UnitTree) → Derives tokens v → u ≡ v
read_only depth state tokens u after same h deep v d = same_read u v after [] (unit depth state) h (derives_read depth state tokens v same deep d)

pub one_tree : OneTree
one_tree tokens a b da db = same_read a b [] [] (unit 510 tokens) (derives_read 510 tokens tokens a refl (omega arith) da) (derives_read 510 tokens tokens b refl (omega arith) db)

pub none_derived : (depth : ℕ) (state : State) (tokens : List Token) → state ≡ tokens → unit depth state ≡ None → 510 ≤ depth → (u : UnitTree) → Derives tokens u → ⊥
none_derived depth state tokens same none deep u d = none_some _ (u, []) (sym none ∙ derives_read depth state tokens u same deep d)
