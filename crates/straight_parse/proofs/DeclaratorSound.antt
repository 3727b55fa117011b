-- What the readers of declarators and parameters give stands in front of the tokens.
use Rattle.std.proofs.Common.{◌≡◌, ℕ, zero, suc, ◌<◌, ◌≤◌, max, Bool, true, false, nat_lt, cond, ◌⊎◌, Option, Some, None, List, [], ◌∷◌, ◌++◌, length, refl, sym, ap, ◌∙◌, subst, inl, inr, arith, append_assoc, length-append}
use Rattle.std.proofs.lemmas.Bool.Decides.{nat_tests}
use Rattle.cx_lex.specs.declared.token.Punct.TheVariants.{LeftParenthesis, RightParenthesis}
use Rattle.cx_lex.specs.declared.token.Token.{Token}
use Rattle.cx_lex.specs.declared.token.TokenKind.TheVariants as kind
use Rattle.straight_parse.specs.declared.sight.Sight.{Sight}
use Rattle.straight_parse.specs.declared.sight.Sight.TheVariants as sights
use Rattle.straight_parse.specs.Declarators.{specs, MeasuredDeclarator, MeasuredParam, identifier, function_of, params_from, function, stops_functions, declarator_from, declarator_by, declarator_or_missing, param_from, declarator, param}
use Rattle.straight_parse.specs.Lists.{ListRead, with_line, many_ahead}
use Rattle.straight_parse.specs.Reading.{State, Reader, bind}
use Rattle.straight_parse.specs.Sights.{sight, mark, word}
use Rattle.straight_parse.proofs.Commas.{CommaList, commas_sound, trees_of, parts_of, deepest}
use Rattle.straight_parse.proofs.Many.{Each, many_keeps}
use Rattle.straight_parse.proofs.Readers.{bind_elim, same_answer, none_some, token, word_front, mark_front}
use Rattle.straight_parse.proofs.Specifiers.{specs_sound}
use Rattle.straight_tree.specs.Depth.{declarator_depth, param_depth, params_depth}
use Rattle.straight_tree.specs.Tokens.{declarator_tokens, specs_tokens, param_tokens, params_tokens, listed}
use Rattle.straight_tree.specs.Trees.{Missing, Identifier, Function, ParamTree, Param}
use Rattle.straight_tree.specs.Valid.{IsNamed, IsValidParam, AreValidParams, params_count, list_marks}
use Rattle.straight_tree.specs.Views.{params}

-- a declarator with a name, at most `depth` deep, stands in front of the rest
pub record StandsNamed (depth : ℕ) (state : State) (m : MeasuredDeclarator) (after : State) : Type 0 where
  pub spelled : state ≡ declarator_tokens m.0 ++ after
  pub named : IsNamed m.0
  pub deep : declarator_depth m.0 ≡ m.1
  pub within : m.1 ≤ depth

-- a declarator of a parameter
record StandsAny (depth : ℕ) (state : State) (m : MeasuredDeclarator) (after : State) : Type 0 where
  spelled : state ≡ declarator_tokens m.0 ++ after
  named : (m.0 ≡ Missing) ⊎ IsNamed m.0
  deep : declarator_depth m.0 ≡ m.1
  within : m.1 ≤ depth

-- a parameter
record StandsParam (depth : ℕ) (state : State) (m : MeasuredParam) (after : State) : Type 0 where
  spelled : state ≡ param_tokens m.0 ++ after
  valid : IsValidParam m.0
  deep : param_depth m.0 ≡ m.1
  within : m.1 ≤ depth

abbrev SoundNamed : Reader MeasuredDeclarator → ℕ → Type 0
SoundNamed read depth = (state : State) (m : MeasuredDeclarator) (after : State) → read state ≡ Some (m, after) → StandsNamed depth state m after

abbrev SoundParam : Reader MeasuredParam → ℕ → Type 0
SoundParam read depth = (state : State) (m : MeasuredParam) (after : State) → read state ≡ Some (m, after) → StandsParam depth state m after

-- ---- parameters

abbrev pub IsParam : ℕ → MeasuredParam → Type 0
IsParam depth m = IsValidParam m.0 × (param_depth m.0 ≡ m.1) × (m.1 ≤ depth)

params_tokens_are : (items : List MeasuredParam) → parts_of param_tokens items ≡ params_tokens (params (trees_of items))
params_tokens_are [] = refl
params_tokens_are (i ∷ is) = ap (λ (ts : List (List Token)). param_tokens i.0 ∷ ts) (params_tokens_are is)

params_count_is : (items : List MeasuredParam) → params_count (params (trees_of items)) ≡ length items
params_count_is [] = refl
params_count_is (i ∷ is) = ap suc (params_count_is is)

params_valid : (depth : ℕ) (items : List MeasuredParam) → Each (IsParam depth) items → AreValidParams (params (trees_of items))
params_valid depth [] good = tt
params_valid depth (i ∷ is) good = (good.0.0, params_valid depth is good.1)

params_deep : (depth : ℕ) (items : List MeasuredParam) → Each (IsParam depth) items → params_depth (params (trees_of items)) ≡ deepest items
params_deep depth [] good = refl
params_deep depth (i ∷ is) good = let a = good.0.1 in let b = params_deep depth is good.1 in cc

params_within : (depth : ℕ) (items : List MeasuredParam) → Each (IsParam depth) items → deepest items ≤ depth
params_within depth [] good = omega arith
params_within depth (i ∷ is) good = let a : i.1 ≤ depth = good.0.2 in let b = params_within depth is good.1 in omega arith

-- the parameters of a function stand in front; the closing parenthesis isn't read yet
record ParamsStand (depth first : ℕ) (state : State) (list : ListRead ParamTree) (after : State) : Type 0 where
  marks : List ℕ
  lines : list.lines ≡ first ∷ marks
  some : 0 < params_count (params list.list)
  count : suc (length marks) ≡ list_marks (params_count (params list.list))
  valid : AreValidParams (params list.list)
  deep : params_depth (params list.list) ≡ list.depth
  within : list.depth ≤ depth
  spelled : (last : ℕ) (rest : State) → after ≡ token (kind.Mark RightParenthesis) last ∷ rest
      → state ≡ listed RightParenthesis (params_tokens (params list.list)) (marks ++ last ∷ []) ++ rest

params_stand : (depth first : ℕ) (state : State) (list : ListRead ParamTree) (after : State)
    → CommaList (IsParam depth) param_tokens (first ∷ []) state list after → ParamsStand depth first state list after
params_stand depth first state list after read =
    let items = read.items in
    let a = params_count_is items in
    let b = read.count in
    subst (λ (l : ListRead ParamTree). ParamsStand depth first state l after) (sym read.made) (record {
      marks = read.marks;
      lines = refl;
      some = omega (arith, a, b);
      count = omega (arith, a, b);
      valid = params_valid depth items read.good;
      deep = params_deep depth items read.good;
      within = params_within depth items read.good;
      spelled = λ last rest e. read.spelled RightParenthesis last rest e
          ∙ ap (λ (ts : List (List Token)). listed RightParenthesis ts (read.marks ++ last ∷ []) ++ rest) (params_tokens_are items);
    })

call_tokens : (a : List Token) (t : Token) (b : List Token) (s0 s1 s2 rest : State) → s0 ≡ a ++ s1 → s1 ≡ t ∷ s2 → s2 ≡ b ++ rest → s0 ≡ (a ++ t ∷ b) ++ rest
call_tokens a t b s0 s1 s2 rest e f g = e ∙ ap (λ (s : State). a ++ s) (f ∙ ap (λ (s : State). t ∷ s) g) ∙ sym (append_assoc a (t ∷ b) rest)

-- ---- declarators, where parameters are sound

identifier_sound : (depth : ℕ) (state : State) (m : MeasuredDeclarator) (after : State) → identifier state ≡ Some (m, after) → StandsNamed (suc depth) state m after
unfolding identifier
identifier_sound depth state m after h =
    bind_elim _ word _ state m after h (λ w mid e k.
    same_answer (StandsNamed (suc depth) state) (Identifier w.0 (w.1 ∷ []), 1) mid m after k
    (record { spelled = word_front state w mid e; named = refl; deep = refl; within = omega arith }))

module _ (parameter : Reader MeasuredParam) (depth : ℕ) (sound : SoundParam parameter depth) where
  params_sound : (first : ℕ) (list : ListRead ParamTree) (s1 after : State) → params_from parameter first s1 ≡ Some (list, after) → ParamsStand depth first s1 list after
  unfolding params_from
  params_sound first list s1 after h =
      bind_elim _ parameter _ s1 list after h (λ one s2 e k.
      let stands = sound s1 one s2 e in
      params_stand depth first s1 list after
      (commas_sound (IsParam depth) param_tokens parameter
      (λ state m after e. let other = sound state m after e in (other.spelled, (other.valid, other.deep, other.within)))
      (first ∷ []) s1 s2 one list after stands.spelled (stands.valid, stands.deep, stands.within) k))

  function_read : (state : State) (of : MeasuredDeclarator) (mid : State) (m : MeasuredDeclarator) (after : State) → StandsNamed (suc depth) state of mid → of.1 ≤ depth
      → bind (mark LeftParenthesis) (λ first. bind (params_from parameter first) (λ list. bind (mark RightParenthesis) (λ last. λ s.
      Some (function_of of (with_line list last), s)))) mid ≡ Some (m, after)
      → StandsNamed (suc depth) state m after
  function_read state of mid m after stands shallow h =
      bind_elim _ (mark LeftParenthesis) _ mid m after h (λ first s1 e1 k1.
      bind_elim _ (params_from parameter first) _ s1 m after k1 (λ list s2 e2 k2.
      bind_elim _ (mark RightParenthesis) _ s2 m after k2 (λ last s3 e3 k3.
      let inside = params_sound first list s1 s2 e2 in
      let lines : list.lines ++ last ∷ [] ≡ first ∷ (inside.marks ++ last ∷ []) = ap (λ (ls : List ℕ). ls ++ last ∷ []) inside.lines in
      let P : List ℕ → Type 0 = λ ls. StandsNamed (suc depth) state (Function of.0 (params list.list) ls, suc (max of.1 list.depth)) s3 in
      same_answer (StandsNamed (suc depth) state) (function_of of (with_line list last)) s3 m after k3
      (subst P (sym lines) (record {
        spelled = call_tokens (declarator_tokens of.0) (token (kind.Mark LeftParenthesis) first) (listed RightParenthesis (params_tokens (params list.list)) (inside.marks ++ last ∷ []))
            state mid s1 s3 stands.spelled (mark_front LeftParenthesis mid first s1 e1) (inside.spelled last s3 (mark_front RightParenthesis s2 last s3 e3));
        named = (stands.named, inside.some, inside.valid, let a = inside.count in omega (arith, a, length-append inside.marks (last ∷ [])));
        deep = let a = stands.deep in let b = inside.deep in cc;
        within = let le : list.depth ≤ depth = inside.within in omega arith;
      })))))

  function_by : (state : State) (of : MeasuredDeclarator) (mid : State) (m : MeasuredDeclarator) (after : State) (test : Bool) → nat_lt depth of.1 ≡ test → StandsNamed (suc depth) state of mid
      → cond {A = Option (MeasuredDeclarator × State)} test None (bind (mark LeftParenthesis) (λ first. bind (params_from parameter first) (λ list. bind (mark RightParenthesis) (λ last. λ s.
      Some (function_of of (with_line list last), s)))) mid) ≡ Some (m, after)
      → StandsNamed (suc depth) state m after
  function_by state of mid m after true deep stands h = none_some _ _ h
  function_by state of mid m after false deep stands h = let shallow : of.1 ≤ depth = grind (arith, nat_tests) in function_read state of mid m after stands shallow h

  function_sound : (state : State) (of : MeasuredDeclarator) (mid : State) (m : MeasuredDeclarator) (after : State) → StandsNamed (suc depth) state of mid
      → function parameter depth of mid ≡ Some (m, after) → StandsNamed (suc depth) state m after
  unfolding function
  function_sound state of mid m after stands h = function_by state of mid m after (nat_lt depth of.1) refl stands h

  declarator_from_sound : SoundNamed (declarator_from parameter depth) (suc depth)
  unfolding declarator_from many_ahead
  declarator_from_sound state m after h =
      bind_elim _ identifier _ state m after h (λ of mid e k.
      many_keeps (StandsNamed (suc depth) state) stops_functions (function parameter depth) (λ of mid next behind stands e. function_sound state of mid next behind stands e)
      (suc (length mid)) of mid m after (identifier_sound depth state of mid e) k)

-- ---- parameters, where declarators are sound

module _ (named : Reader MeasuredDeclarator) (depth : ℕ) (sound : SoundNamed named depth) (some : 1 ≤ depth) where
  missing_sound : (state : State) (m : MeasuredDeclarator) (after : State) → ◌≡◌ {A = Option (MeasuredDeclarator × State)} (Some ((Missing, 1), state)) (Some (m, after)) → StandsAny depth state m after
  missing_sound state m after h =
      same_answer (StandsAny depth state) (Missing, 1) state m after h (record { spelled = refl; named = inl refl; deep = refl; within = some })

  any_sound_by : (s : Sight) (state : State) (m : MeasuredDeclarator) (after : State) → declarator_by named s state ≡ Some (m, after) → StandsAny depth state m after
  any_sound_by sights.Word state m after h =
      let stands = sound state m after h in
      record { spelled = stands.spelled; named = inr stands.named; deep = stands.deep; within = stands.within }
  any_sound_by sights.End state m after h = missing_sound state m after h
  any_sound_by sights.Number state m after h = missing_sound state m after h
  any_sound_by (sights.Key k) state m after h = missing_sound state m after h
  any_sound_by (sights.Mark punct) state m after h = missing_sound state m after h
  any_sound_by sights.Literal state m after h = missing_sound state m after h

  any_sound : (state : State) (m : MeasuredDeclarator) (after : State) → declarator_or_missing named state ≡ Some (m, after) → StandsAny depth state m after
  unfolding declarator_or_missing
  any_sound state m after h = any_sound_by (sight state) state m after h

param_from_sound : (named : Reader MeasuredDeclarator) (depth : ℕ) → SoundNamed named depth → SoundParam (param_from named depth) (suc depth)
unfolding param_from
param_from_sound named depth sound state m after h =
    bind_elim _ (specs depth) _ state m after h (λ s s1 e1 k1.
    bind_elim _ (declarator_or_missing named) _ s1 m after k1 (λ d s2 e2 k2.
    let front = specs_sound depth state s s1 e1 in
    let inside = any_sound named depth sound front.1 s1 d s2 e2 in
    same_answer (StandsParam (suc depth) state) (Param s d.0, suc (max 1 d.1)) s2 m after k2
    (record {
      spelled = front.0.spelled ∙ ap (λ (t : State). specs_tokens s ++ t) inside.spelled ∙ sym (append_assoc (specs_tokens s) (declarator_tokens d.0) s2);
      valid = (front.0.valid, inside.named);
      deep = let a = inside.deep in cc;
      within = let le : d.1 ≤ depth = inside.within in let one = front.1 in omega arith;
    })))

mutual
  unfolding declarator param

  pub declarator_sound : (depth : ℕ) → SoundNamed (declarator depth) depth
  declarator_sound zero state m after h = none_some _ _ h
  declarator_sound (suc depth) state m after h = declarator_from_sound (param depth) depth (param_sound depth) state m after h

  param_sound : (depth : ℕ) → SoundParam (param depth) depth
  param_sound zero state m after h = none_some _ _ h
  param_sound (suc depth) state m after h = param_from_sound (declarator depth) depth (declarator_sound depth) state m after h
