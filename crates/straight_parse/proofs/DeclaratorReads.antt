-- Each valid declarator that isn't too deep is read from its tokens.
use Rattle.std.proofs.Common.{◌≡◌, ℕ, zero, suc, ◌<◌, ◌≤◌, max, true, false, not, nat_lt, ◌⊎◌, Option, Some, List, [], ◌∷◌, ◌++◌, length, get_or, drop, refl, sym, ap, ◌∙◌, subst, inl, inr, arith, append_assoc, length-append}
use Rattle.std.proofs.lemmas.Bool.{cond-true, cond-false}
use Rattle.std.proofs.lemmas.Bool.Decides.{nat_tests}
use Rattle.cx_lex.specs.declared.token.Punct.TheVariants.{LeftParenthesis, RightParenthesis}
use Rattle.cx_lex.specs.declared.token.Token.{Token}
use Rattle.cx_lex.specs.declared.token.TokenKind.TheVariants as kind
use Rattle.straight_parse.specs.declared.sight.Sight.{Sight}
use Rattle.straight_parse.specs.declared.sight.Sight.TheVariants as sights
use Rattle.straight_parse.specs.Declarators.{specs, stops_specs, MeasuredDeclarator, MeasuredParam, identifier, params_from, function, stops_functions, declarator_from, declarator_by, declarator_or_missing, param_from, declarator, param}
use Rattle.straight_parse.specs.Lists.{list_read, listed_none, with_item, many, many_ahead}
use Rattle.straight_parse.specs.Reading.{State, Reader}
use Rattle.straight_parse.specs.Sights.{sight, mark, word}
use Rattle.straight_parse.proofs.Commas.{Follows, zipped, commas_reads, lines_of, items_of, trees_of, parts_of, deepest}
use Rattle.straight_parse.proofs.DeclaratorSound.{IsParam}
use Rattle.straight_parse.proofs.ExprReads.{one_line, some_line, less_line, follows_commas}
use Rattle.straight_parse.proofs.Many.{Each}
use Rattle.straight_parse.proofs.Marks.{same_mark_refl, parenthesis_no_comma, closing_no_opening, comma_no_opening}
use Rattle.straight_parse.proofs.Readers.{bind_some, token, word_reads, mark_reads}
use Rattle.straight_parse.proofs.Specifiers.{specs_reads}
use Rattle.straight_tree.specs.Depth.{declarator_depth, param_depth, params_depth}
use Rattle.straight_tree.specs.Tokens as tree
use Rattle.straight_tree.specs.Tokens.{declarator_tokens, specs_tokens, param_tokens, params_tokens, listed}
use Rattle.straight_tree.specs.Trees.{DeclaratorTree, Missing, Identifier, Function, ParamTree, Param, ParamTrees, no_params, more_params}
use Rattle.straight_tree.specs.Valid.{IsNamed, IsValidParam, AreValidParams, params_count, list_marks}
use Rattle.straight_tree.specs.Views.{params}

abbrev ReadsNamed : Reader MeasuredDeclarator → ℕ → Type 0
ReadsNamed read depth =
    (t : DeclaratorTree) (rest : State) → IsNamed t → declarator_depth t ≤ depth → stops_functions (sight rest) ≡ true → read (declarator_tokens t ++ rest) ≡ Some ((t, declarator_depth t), rest)

abbrev ReadsParam : Reader MeasuredParam → ℕ → Type 0
ReadsParam read depth =
    (t : ParamTree) (rest : State) → IsValidParam t → param_depth t ≤ depth → Follows RightParenthesis rest → read (param_tokens t ++ rest) ≡ Some ((t, param_depth t), rest)

-- ---- parameters

abbrev measured_list : ParamTrees → List MeasuredParam
measured_list no_params = []
measured_list (more_params p ps) = (p, param_depth p) ∷ measured_list ps

measured_tokens : (ps : ParamTrees) → params_tokens ps ≡ parts_of param_tokens (measured_list ps)
measured_tokens no_params = refl
measured_tokens (more_params p ps) = ap (λ (ts : List (List Token)). param_tokens p ∷ ts) (measured_tokens ps)

measured_trees : (ps : ParamTrees) → params (trees_of (measured_list ps)) ≡ ps
measured_trees no_params = refl
measured_trees (more_params p ps) = ap (λ (ts : ParamTrees). more_params p ts) (measured_trees ps)

measured_deepest : (ps : ParamTrees) → deepest (measured_list ps) ≡ params_depth ps
measured_deepest no_params = refl
measured_deepest (more_params p ps) = ap (λ (n : ℕ). max (param_depth p) n) (measured_deepest ps)

measured_count : (ps : ParamTrees) → length (measured_list ps) ≡ params_count ps
measured_count no_params = refl
measured_count (more_params p ps) = ap suc (measured_count ps)

measured_good : (depth : ℕ) (ps : ParamTrees) → AreValidParams ps → params_depth ps ≤ depth → Each (IsParam depth) (measured_list ps)
measured_good depth no_params valid within = tt
measured_good depth (more_params p ps) valid within = ((valid.0, refl, omega arith), measured_good depth ps valid.1 (omega arith))

-- the function whose parameters were read
function_is : (of : DeclaratorTree) (p : ParamTree) (ps : ParamTrees) (lines : List ℕ) (rest : State) (nexts : List (ℕ × MeasuredParam)) (last : ℕ) → items_of nexts ≡ measured_list ps
    → lines_of nexts ++ last ∷ [] ≡ drop 1 lines → length lines ≡ suc (list_marks (params_count (more_params p ps)))
    → ◌≡◌ {A = Option (MeasuredDeclarator × State)}
    (Some ((Function of (params (p ∷ trees_of (items_of nexts))) ((get_or lines 0 0 ∷ lines_of nexts) ++ last ∷ []), suc (max (declarator_depth of) (max (max 0 (param_depth p)) (deepest (items_of nexts))))), rest))
    (Some ((Function of (more_params p ps) lines, declarator_depth (Function of (more_params p ps) lines)), rest))
function_is of p ps lines rest nexts last items_is lines_is count =
    let trees : params (trees_of (items_of nexts)) ≡ ps = ap (λ (is : List MeasuredParam). params (trees_of is)) items_is ∙ measured_trees ps in
    let deep : max (max 0 (param_depth p)) (deepest (items_of nexts)) ≡ max (param_depth p) (params_depth ps) =
    ap (λ (is : List MeasuredParam). max (max 0 (param_depth p)) (deepest is)) items_is ∙ ap (λ (n : ℕ). max (max 0 (param_depth p)) n) (measured_deepest ps)
    ∙ ap (λ (n : ℕ). max n (params_depth ps)) (omega arith) in
    let same : get_or lines 0 0 ∷ (lines_of nexts ++ last ∷ []) ≡ lines = ap (λ (ls : List ℕ). get_or lines 0 0 ∷ ls) lines_is ∙ some_line lines _ count in
    λ i. Some ((Function of (more_params p (trees i)) (same i), suc (max (declarator_depth of) (deep i))), rest)

-- ---- declarators, where parameters are read

-- The loop over functions stands at the declarator, with more turns than there are tokens behind it.
record Loops (parameter : Reader MeasuredParam) (depth : ℕ) (t : DeclaratorTree) (rest : State) : Type 0 where
  turns : ℕ
  room : length rest < turns
  loops : declarator_from parameter depth (declarator_tokens t ++ rest) ≡ many stops_functions (function parameter depth) turns (t, declarator_depth t) rest

module _ (parameter : Reader MeasuredParam) (depth : ℕ) (reads : ReadsParam parameter depth) where
  param_item : (x : MeasuredParam) (behind : State) → IsParam depth x → Follows RightParenthesis behind → parameter (param_tokens x.0 ++ behind) ≡ Some (x, behind)
  param_item x behind good follows =
      let shallow : param_depth x.0 ≤ depth = let a = good.1 in let b : x.1 ≤ depth = good.2 in omega (arith, a) in
      reads x.0 behind good.0 shallow follows ∙ ap (λ (n : ℕ). Some ((x.0, n), behind)) good.1

  function_reads : (of : DeclaratorTree) (p : ParamTree) (ps : ParamTrees) (lines : List ℕ) (rest : State) → IsNamed (Function of (more_params p ps) lines)
      → declarator_depth of ≤ depth → params_depth (more_params p ps) ≤ depth
      → function parameter depth (of, declarator_depth of) (token (kind.Mark LeftParenthesis) (get_or lines 0 0) ∷ (listed RightParenthesis (params_tokens (more_params p ps)) (drop 1 lines) ++ rest))
      ≡ Some ((Function of (more_params p ps) lines, declarator_depth (Function of (more_params p ps) lines)), rest)
  unfolding function params_from
  function_reads of p ps lines rest v shallow deep =
      let first = get_or lines 0 0 in
      let count : length (drop 1 lines) ≡ suc (length (measured_list ps)) = let a = measured_count ps in let b = less_line lines _ v.3 in omega (arith, a, b) in
      let zip = zipped (measured_list ps) (drop 1 lines) count in
      let nexts = zip.nexts in
      let last = zip.last in
      let valid = v.2 in
      let good_ps : Each (IsParam depth) (measured_list ps) = measured_good depth ps valid.1 (omega arith) in
      let good_nexts : Each (IsParam depth) (items_of nexts) = subst (λ (is : List MeasuredParam). Each (IsParam depth) is) (sym zip.items_is) good_ps in
      let tail : State = tree.behind_commas RightParenthesis (parts_of param_tokens (items_of nexts)) (lines_of nexts ++ last ∷ []) ++ rest in
      let tail_is : tree.behind_commas RightParenthesis (params_tokens ps) (drop 1 lines) ++ rest ≡ tail =
      ap (λ (ts : List (List Token)). tree.behind_commas RightParenthesis ts (drop 1 lines) ++ rest) (measured_tokens ps)
      ∙ ap (λ (is : List MeasuredParam). tree.behind_commas RightParenthesis (parts_of param_tokens is) (drop 1 lines) ++ rest) (sym zip.items_is)
      ∙ ap (λ (ls : List ℕ). tree.behind_commas RightParenthesis (parts_of param_tokens (items_of nexts)) ls ++ rest) (sym zip.lines_is) in
      let inside : State = param_tokens p ++ tail in
      let one : parameter inside ≡ Some ((p, param_depth p), tail) =
      param_item (p, param_depth p) tail (valid.0, refl, omega arith) (follows_commas RightParenthesis (parts_of param_tokens (items_of nexts)) (lines_of nexts ++ last ∷ []) rest) in
      let all = with_item (listed_none (first ∷ [])) (p, param_depth p) in
      let list = list_read (p ∷ trees_of (items_of nexts)) (max (max 0 (param_depth p)) (deepest (items_of nexts))) (first ∷ lines_of nexts) in
      let closing : State = token (kind.Mark RightParenthesis) last ∷ rest in
      let d : nat_lt depth (declarator_depth of) ≡ false = grind (arith, nat_tests) in
      ap (λ (s : State). function parameter depth (of, declarator_depth of) (token (kind.Mark LeftParenthesis) first ∷ s))
      (append_assoc (param_tokens p) (tree.behind_commas RightParenthesis (params_tokens ps) (drop 1 lines)) rest ∙ ap (λ (s : State). param_tokens p ++ s) tail_is)
      ∙ cond-false (nat_lt depth (declarator_depth of)) _ _ d
      ∙ bind_some (mark LeftParenthesis) _ (token (kind.Mark LeftParenthesis) first ∷ inside) first inside (mark_reads LeftParenthesis first inside)
      ∙ bind_some (params_from parameter first) _ inside list closing
      (bind_some parameter _ inside (p, param_depth p) tail one
      ∙ commas_reads (IsParam depth) param_tokens parameter RightParenthesis parenthesis_no_comma param_item nexts last all rest good_nexts)
      ∙ bind_some (mark RightParenthesis) _ closing last rest (mark_reads RightParenthesis last rest)
      ∙ function_is of p ps lines rest nexts last zip.items_is zip.lines_is v.3

  loop_on : (of : DeclaratorTree) (p : ParamTree) (ps : ParamTrees) (lines : List ℕ) (rest behind : State) (turns : ℕ) → IsNamed (Function of (more_params p ps) lines)
      → declarator_depth of ≤ depth → params_depth (more_params p ps) ≤ depth
      → behind ≡ token (kind.Mark LeftParenthesis) (get_or lines 0 0) ∷ (listed RightParenthesis (params_tokens (more_params p ps)) (drop 1 lines) ++ rest) → length behind < turns
      → declarator_from parameter depth (declarator_tokens of ++ behind) ≡ many stops_functions (function parameter depth) turns (of, declarator_depth of) behind
      → Loops parameter depth (Function of (more_params p ps) lines) rest
  unfolding many
  loop_on of p ps lines rest behind zero v shallow deep is room e = absurd (omega arith)
  loop_on of p ps lines rest behind (suc turns) v shallow deep is room e =
      let opened : State = token (kind.Mark LeftParenthesis) (get_or lines 0 0) ∷ (listed RightParenthesis (params_tokens (more_params p ps)) (drop 1 lines) ++ rest) in
      let lengths = length-append (listed RightParenthesis (params_tokens (more_params p ps)) (drop 1 lines)) rest in
      let longer : length behind ≡ length opened = ap length is in
      record {
        turns = turns;
        room = omega (arith, lengths, longer);
        loops = ap (λ (s : State). declarator_from parameter depth s)
            (append_assoc (declarator_tokens of) (token (kind.Mark LeftParenthesis) (get_or lines 0 0) ∷ listed RightParenthesis (params_tokens (more_params p ps)) (drop 1 lines)) rest
            ∙ ap (λ (s : State). declarator_tokens of ++ s) (sym is))
            ∙ e
            ∙ ap (λ (s : State). many stops_functions (function parameter depth) (suc turns) (of, declarator_depth of) s) is
            ∙ cond-false (stops_functions (sight opened)) _ _ (ap not (same_mark_refl LeftParenthesis))
            ∙ bind_some (function parameter depth (of, declarator_depth of)) (many stops_functions (function parameter depth) turns) opened
            (Function of (more_params p ps) lines, declarator_depth (Function of (more_params p ps) lines)) rest (function_reads of p ps lines rest v shallow deep);
      }

  loops : (t : DeclaratorTree) (rest : State) → IsNamed t → declarator_depth t ≤ suc depth → Loops parameter depth t rest
  unfolding declarator_from identifier many_ahead
  loops Missing rest v deep = absurd v
  loops (Identifier bytes lines) rest v deep = record {
    turns = suc (length rest);
    room = omega arith;
    loops = bind_some identifier (λ of. many_ahead stops_functions (function parameter depth) of) (declarator_tokens (Identifier bytes lines) ++ rest) (Identifier bytes (get_or lines 0 0 ∷ []), 1) rest
        (bind_some word _ (declarator_tokens (Identifier bytes lines) ++ rest) (bytes, get_or lines 0 0) rest (word_reads bytes (get_or lines 0 0) rest))
        ∙ ap (λ (ls : List ℕ). many stops_functions (function parameter depth) (suc (length rest)) (Identifier bytes ls, 1) rest) (one_line lines v);
  }
  loops (Function of no_params lines) rest v deep = absurd (let a : 0 < 0 = v.1 in omega arith)
  loops (Function of (more_params p ps) lines) rest v deep =
      let behind : State = token (kind.Mark LeftParenthesis) (get_or lines 0 0) ∷ (listed RightParenthesis (params_tokens (more_params p ps)) (drop 1 lines) ++ rest) in
      let inside = loops of behind v.0 (omega arith) in
      loop_on of p ps lines rest behind inside.turns v (omega arith) (omega arith) refl inside.room inside.loops

  looped : (t : DeclaratorTree) (rest : State) (turns : ℕ) → stops_functions (sight rest) ≡ true → length rest < turns
      → many stops_functions (function parameter depth) turns (t, declarator_depth t) rest ≡ Some ((t, declarator_depth t), rest)
  unfolding many
  looped t rest zero stop room = absurd (omega arith)
  looped t rest (suc turns) stop room = cond-true (stops_functions (sight rest)) _ _ stop

  declarator_from_reads : ReadsNamed (declarator_from parameter depth) (suc depth)
  declarator_from_reads t rest v deep stop =
      let inside = loops t rest v deep in
      inside.loops ∙ looped t rest inside.turns stop inside.room

-- ---- parameters, where declarators are read

-- a declarator with a name begins with an identifier
pub named_begins : (t : DeclaratorTree) (rest : State) → IsNamed t → sight (declarator_tokens t ++ rest) ≡ sights.Word
named_begins Missing rest v = absurd v
named_begins (Identifier bytes lines) rest v = refl
named_begins (Function of ps lines) rest v =
    ap sight (append_assoc (declarator_tokens of) (token (kind.Mark LeftParenthesis) (get_or lines 0 0) ∷ listed RightParenthesis (params_tokens ps) (drop 1 lines)) rest)
    ∙ named_begins of _ v.0

follows_stops : (rest : State) → Follows RightParenthesis rest → stops_functions (sight rest) ≡ true
follows_stops rest (inl comma) = ap stops_functions comma ∙ ap not comma_no_opening
follows_stops rest (inr last) = ap stops_functions last ∙ ap not closing_no_opening

module _ (named : Reader MeasuredDeclarator) (depth : ℕ) (reads : ReadsNamed named depth) where
  missing_reads : (rest : State) → Follows RightParenthesis rest → declarator_or_missing named rest ≡ Some ((Missing, 1), rest)
  unfolding declarator_or_missing
  missing_reads rest (inl comma) = ap (λ (s : Sight). declarator_by named s rest) comma
  missing_reads rest (inr last) = ap (λ (s : Sight). declarator_by named s rest) last

  named_reads : (t : DeclaratorTree) (rest : State) → IsNamed t → declarator_depth t ≤ depth → Follows RightParenthesis rest
      → declarator_or_missing named (declarator_tokens t ++ rest) ≡ Some ((t, declarator_depth t), rest)
  unfolding declarator_or_missing
  named_reads t rest v deep follows =
      ap (λ (s : Sight). declarator_by named s (declarator_tokens t ++ rest)) (named_begins t rest v) ∙ reads t rest v deep (follows_stops rest follows)

  any_reads : (t : DeclaratorTree) (rest : State) → (t ≡ Missing) ⊎ IsNamed t → declarator_depth t ≤ depth → Follows RightParenthesis rest
      → declarator_or_missing named (declarator_tokens t ++ rest) ≡ Some ((t, declarator_depth t), rest)
  any_reads t rest (inl missing) deep follows =
      let P : DeclaratorTree → Type 0 = λ t. declarator_or_missing named (declarator_tokens t ++ rest) ≡ Some ((t, declarator_depth t), rest) in
      subst P (sym missing) (missing_reads rest follows)
  any_reads t rest (inr v) deep follows = named_reads t rest v deep follows

  any_stops_specs : (t : DeclaratorTree) (rest : State) → (t ≡ Missing) ⊎ IsNamed t → Follows RightParenthesis rest → stops_specs (sight (declarator_tokens t ++ rest)) ≡ true
  any_stops_specs t rest (inl missing) (inl comma) =
      let P : DeclaratorTree → Type 0 = λ t. stops_specs (sight (declarator_tokens t ++ rest)) ≡ true in
      subst P (sym missing) (ap stops_specs comma)
  any_stops_specs t rest (inl missing) (inr last) =
      let P : DeclaratorTree → Type 0 = λ t. stops_specs (sight (declarator_tokens t ++ rest)) ≡ true in
      subst P (sym missing) (ap stops_specs last)
  any_stops_specs t rest (inr v) follows = ap stops_specs (named_begins t rest v)

  param_from_reads : ReadsParam (param_from named depth) (suc depth)
  unfolding param_from
  param_from_reads (Param s d) rest v deep follows =
      let inside : State = declarator_tokens d ++ rest in
      ap (λ (t : State). param_from named depth t) (append_assoc (specs_tokens s) (declarator_tokens d) rest)
      ∙ bind_some (specs depth) _ (specs_tokens s ++ inside) s inside (specs_reads depth s inside (omega arith) v.0 (any_stops_specs d rest v.1 follows))
      ∙ bind_some (declarator_or_missing named) _ inside (d, declarator_depth d) rest (any_reads d rest v.1 (omega arith) follows)

pub some_depth : (t : DeclaratorTree) → 1 ≤ declarator_depth t
some_depth Missing = omega arith
some_depth (Identifier bytes lines) = omega arith
some_depth (Function of ps lines) = omega arith

mutual
  unfolding declarator param

  pub declarator_reads : (depth : ℕ) → ReadsNamed (declarator depth) depth
  declarator_reads zero t rest v deep stop = let a = some_depth t in absurd (omega arith)
  declarator_reads (suc depth) t rest v deep stop = declarator_from_reads (param depth) depth (param_reads depth) t rest v deep stop

  param_reads : (depth : ℕ) → ReadsParam (param depth) depth
  param_reads zero (Param s d) rest v deep follows = absurd (omega arith)
  param_reads (suc depth) t rest v deep follows = param_from_reads (declarator depth) depth (declarator_reads depth) t rest v deep follows
