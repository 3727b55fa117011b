-- What a declarator says of the function that it declares (ISO C99, 6.7.5.3, 6.9.1).
use Rattle.std.proofs.Common.{◌≡◌, ◌⊎◌, inl, inr, ℕ, ◌+◌, ◌-◌, Bool, true, false, not, ◌&&◌, if◌then◌else◌, List, [], ◌∷◌, ◌++◌, length, take, drop, Option, None, Some, bytes_eq, refl, sym, ap, ◌∙◌, subst, length-append, arith}
use Rattle.cx_rules.proofs.NodesAgree.{s_params_end, s_params_walk, s_brackets_walk, s_declarator_walk}
use Rattle.cx_rules.specs.Lines.{own_line, declarator_line}
use Rattle.cx_rules.specs.Pieces.{declared_since, is_single}
use Rattle.cx_rules.specs.Readings.{seen_chain}
use Rattle.cx_rules.specs.Scope.{CMeant, CDeclared, CTag, CScope, entered, left, ordinary, tag, is_ordinary, tag_of}
use Rattle.cx_rules.specs.Shapes.{CParam, CStep, to_pointer, to_array, to_function, CShape, last_step}
use Rattle.cx_tree.specs.Trees.{DeclaratorTree, Missing, Identifier, Group, Pointer, Array, Function, Identifiers, BracketsTree, Unsized, Length, StaticFirst, StaticLast, Star, ParamTrees}
use Rattle.cx_typed.proofs.Declarators.{unsized_goes, length_goes, static_first_goes, static_last_goes, star_goes}
use Rattle.cx_typed.proofs.Goes.{go_gives, go_becomes, go_here_then, go_chain, go_settled}
use Rattle.cx_typed.proofs.Numbered.{numbers_by}
use Rattle.cx_typed.proofs.Spelled.{spelled_trees}
use Rattle.cx_typed.proofs.Tags.{meant_stays, tag_stays}
use Rattle.cx_typed.specs.Declarators.{IsShape, IsStep, BracketsGo}
use Rattle.cx_typed.specs.Names.{IsKnownMeant, IsKnownTag}
use Rattle.cx_typed.specs.Params.{Declares, AreParams}
use Rattle.cx_typed.specs.Scopes.{is_thing, Passes}
use Rattle.cx_typed.specs.Spelled.{IsSpelledDeclarator, AreSpelledBrackets}
use Rattle.cx_typed.specs.Walked.{IsGood, Ends}
use Rattle.cx_typed_units.proofs.Around.{good_entered}
use Rattle.cx_typed_files.proofs.OwnParams.{AreFrom, IsParamMeant, AreOwn, from_lower, from_higher, both_ends, params_are, own_params}

-- the parameters of the last step, and what they declare
pub record IsOwnStep (opens : List ℕ) (before after : CScope) (params : List CParam) (within : List CDeclared) : Type 0 where
  pub numbers : AreFrom before.next_object params after.next_object
  pub known : (name : List ℕ) (meant : CMeant) → ordinary name within ≡ Some meant → IsKnownMeant opens after.types after.unit meant
  pub tags : (name : List ℕ) (one : CTag) → tag name within ≡ Some one → IsKnownTag opens after.types after.unit name one
  pub things : (name : List ℕ) (meant : CMeant) → is_thing meant ≡ true → ordinary name within ≡ Some meant → (ordinary name before.declared ≡ Some meant) ⊎ IsParamMeant params meant

abbrev pub HeadOf : List ℕ → CScope → CScope → Option CStep → Type 0
HeadOf opens before after (Some (to_function (Some params) variadic within)) = IsOwnStep opens before after params within
HeadOf opens before after (Some (to_function None variadic within)) = within ≡ []
HeadOf opens before after _ = Unit {0}

module _ (opens : List ℕ) (before middle after : CScope) (passes : Passes opens middle after) where
  head_later : (found : Option CStep) → HeadOf opens before middle found → HeadOf opens before after found
  head_later (Some (to_function (Some params) variadic within)) held = record {
    numbers = from_higher before.next_object params middle.next_object after.next_object passes.numbers.grows held.numbers;
    known = λ name meant is.
        subst (λ unit. IsKnownMeant opens after.types unit meant) (sym passes.unit_is) (meant_stays opens middle.types after.types passes.grows middle.unit meant (held.known name meant is));
    tags = λ name one is.
        subst (λ unit. IsKnownTag opens after.types unit name one) (sym passes.unit_is) (tag_stays opens middle.types after.types passes.grows middle.unit name one (held.tags name one is));
    things = held.things;
  }
  head_later (Some (to_function None variadic within)) held = held
  head_later (Some (to_pointer is_const is_restrict)) held = tt
  head_later (Some (to_array length)) held = tt
  head_later None held = tt

last_before : (opens : List ℕ) (before after : CScope) (step : CStep) (steps : List CStep) → HeadOf opens before after (Some step) → HeadOf opens before after (last_step steps)
    → HeadOf opens before after (last_step (step ∷ steps))
last_before opens before after step [] first others = first
last_before opens before after step (next ∷ steps) first others = others

-- ---- lists

found_first : (name : List ℕ) (front behind : List CDeclared) (meant : CMeant) → ordinary name front ≡ Some meant → ordinary name (front ++ behind) ≡ Some meant
found_first name [] behind meant is = absurd cc
found_first name (one ∷ front) behind meant is = step (is_ordinary one.meant && bytes_eq one.name name) (λ later. found_first name front behind meant later) is
  where
    step : (here : Bool) → (ordinary name front ≡ Some meant → ordinary name (front ++ behind) ≡ Some meant) → (if here then Some one.meant else ordinary name front) ≡ Some meant → (if here then Some one.meant else ordinary name (front ++ behind)) ≡ Some meant
    step true others is = is
    step false others is = others is

tag_first : (name : List ℕ) (front behind : List CDeclared) (found : CTag) → tag name front ≡ Some found → tag name (front ++ behind) ≡ Some found
tag_first name [] behind found is = absurd cc
tag_first name (one ∷ front) behind found is = step (not (is_ordinary one.meant) && bytes_eq one.name name) (λ later. tag_first name front behind found later) is
  where
    step : (here : Bool) → (tag name front ≡ Some found → tag name (front ++ behind) ≡ Some found) → (if here then tag_of one.meant else tag name front) ≡ Some found → (if here then tag_of one.meant else tag name (front ++ behind)) ≡ Some found
    step true others is = is
    step false others is = others is

taken_front : (front behind : List CDeclared) → take (length (front ++ behind) - length behind) (front ++ behind) ≡ front
taken_front front behind = taken front behind (length (front ++ behind) - length behind) (count front behind)
  where
    count : (front behind : List CDeclared) → length (front ++ behind) - length behind ≡ length front
    count front behind = let h : length (front ++ behind) ≡ length front + length behind = length-append front behind in omega (arith, h)

    taken : (front behind : List CDeclared) (n : ℕ) → n ≡ length front → take n (front ++ behind) ≡ front
    taken [] behind n is = ap (λ count. take count behind) is
    taken (first ∷ front) behind n is = ap (λ count. take count (first ∷ (front ++ behind))) is ∙ ap (λ others. first ∷ others) (taken front behind (length front) refl)

-- ---- functions

module _ (opens : List ℕ) (trees : ParamTrees) (is_only : Bool) (scope middle inner : CScope) (shape : CShape) (held : IsShape opens scope shape middle) (params : List CParam)
    (are : AreParams opens is_only trees (entered middle) params inner) (own : AreOwn (entered middle) params inner) where
  within_is : declared_since (length middle.declared) inner ≡ are.declares.front
  within_is = ap (λ declared. take (length declared - length middle.declared) declared) are.declares.declared_is ∙ taken_front are.declares.front middle.declared

  in_inner : (name : List ℕ) (meant : CMeant) → ordinary name (declared_since (length middle.declared) inner) ≡ Some meant → ordinary name inner.declared ≡ Some meant
  in_inner name meant is =
      ap (ordinary name) are.declares.declared_is ∙ found_first name are.declares.front middle.declared meant (ap (ordinary name) (sym within_is) ∙ is)

  tag_inner : (name : List ℕ) (one : CTag) → tag name (declared_since (length middle.declared) inner) ≡ Some one → tag name inner.declared ≡ Some one
  tag_inner name one is = ap (tag name) are.declares.declared_is ∙ tag_first name are.declares.front middle.declared one (ap (tag name) (sym within_is) ∙ is)

  own_step : IsOwnStep opens scope (left (length middle.declared) middle.begins inner) params (declared_since (length middle.declared) inner)
  own_step = record {
    numbers = from_lower scope.next_object middle.next_object params inner.next_object held.passes.numbers.grows own.numbers;
    known = λ name meant is. are.good.known name meant (in_inner name meant is);
    tags = λ name one is. are.good.tags name one (tag_inner name one is);
    things = λ name meant thing is. early name meant thing (own.things name meant thing (in_inner name meant is));
  }
    where
      early : (name : List ℕ) (meant : CMeant) → is_thing meant ≡ true → (ordinary name middle.declared ≡ Some meant) ⊎ IsParamMeant params meant → (ordinary name scope.declared ≡ Some meant) ⊎ IsParamMeant params meant
      early name meant thing (inl at) = inl (held.passes.declared name meant thing at)
      early name meant thing (inr of) = inr of

brackets_go : (tree : BracketsTree) → AreSpelledBrackets tree → BracketsGo tree
brackets_go (Unsized qualifiers) spelled = unsized_goes qualifiers
brackets_go (Length qualifiers size) spelled = length_goes qualifiers size (spelled_trees.expressions size spelled)
brackets_go (StaticFirst qualifiers size) spelled = static_first_goes qualifiers size (spelled_trees.expressions size spelled)
brackets_go (StaticLast qualifiers size) spelled = static_last_goes qualifiers size (spelled_trees.expressions size spelled)
brackets_go (Star qualifiers) spelled = star_goes qualifiers

-- what stands in brackets leads to an array
array_step : (opens : List ℕ) (before : CScope) (tree : BracketsTree) (line : ℕ) (scope : CScope) → Ends (s_brackets_walk line tree) scope (λ step after. HeadOf opens before after (Some step))
array_step opens before (Unsized qualifiers) line scope = go_here_then _ _ scope _ (go_settled _ scope _ _ _ scope _ (λ unbroken. tt))
array_step opens before (Length qualifiers size) line scope =
    go_chain _ _ _ _ scope (λ one middle. Unit {0}) _ (record { ends = λ fine. tt }) (λ one middle held. go_here_then _ _ middle _ (go_settled _ middle _ _ _ middle _ (λ unbroken. tt)))
array_step opens before (StaticFirst qualifiers size) line scope =
    go_chain _ _ _ _ scope (λ one middle. Unit {0}) _ (record { ends = λ fine. tt }) (λ one middle held. go_here_then _ _ middle _ (go_settled _ middle _ _ _ middle _ (λ unbroken. tt)))
array_step opens before (StaticLast qualifiers size) line scope =
    go_chain _ _ _ _ scope (λ one middle. Unit {0}) _ (record { ends = λ fine. tt }) (λ one middle held. go_here_then _ _ middle _ (go_settled _ middle _ _ _ middle _ (λ unbroken. tt)))
array_step opens before (Star qualifiers) line scope = go_here_then _ _ scope _ (go_settled _ scope _ _ _ scope _ (λ unbroken. tt))

-- the scope of parameters ends
behind_front : (front behind : List CDeclared) → drop (length (front ++ behind) - length behind) (front ++ behind) ≡ behind
behind_front front behind = dropped front behind (length (front ++ behind) - length behind) (count front behind)
  where
    count : (front behind : List CDeclared) → length (front ++ behind) - length behind ≡ length front
    count front behind = let h : length (front ++ behind) ≡ length front + length behind = length-append front behind in omega (arith, h)

    dropped : (front behind : List CDeclared) (n : ℕ) → n ≡ length front → drop n (front ++ behind) ≡ behind
    dropped [] behind n is = ap (λ count. drop count behind) is
    dropped (first ∷ front) behind n is = ap (λ count. drop count (first ∷ (front ++ behind))) is ∙ dropped front behind (length front) refl

passes_back : (opens : List ℕ) (middle inner : CScope) → Declares opens (entered middle) inner → Passes opens middle (left (length middle.declared) middle.begins inner)
passes_back opens middle inner declares =
    let back_declared : drop (length inner.declared - length middle.declared) inner.declared ≡ middle.declared =
    ap (λ declared. drop (length declared - length middle.declared) declared) declares.declared_is ∙ behind_front declares.front middle.declared in
    record {
      unit_is = declares.unit_is;
      grows = declares.grows;
      declared = λ name meant thing is. ap (ordinary name) (sym back_declared) ∙ is;
      mentions = declares.mentions;
      literals = declares.literals;
      front = [];
      declared_is = back_declared;
      begins_is = refl;
      rest_is = declares.rest_is;
      numbers = numbers_by middle (left (length middle.declared) middle.begins inner) declares.numbers.grows declares.makes_none;
    }

-- ---- the walk

pub head_goes : (tree : DeclaratorTree) → IsSpelledDeclarator tree → (opens : List ℕ) (scope : CScope) → IsGood opens scope → Ends (s_declarator_walk tree) scope (λ shape after. HeadOf opens scope after (last_step shape.steps))
head_goes Missing spelled opens scope good = go_gives _ scope _ tt
head_goes (Identifier name lines) spelled opens scope good = go_gives _ scope _ tt
head_goes (Group inner lines) spelled opens scope good = head_goes inner spelled opens scope good
head_goes (Pointer qualifiers of lines) spelled opens scope good =
    go_chain _ _ _ _ scope (λ shape after. HeadOf opens scope after (last_step shape.steps)) _ (head_goes of spelled opens scope good) (λ shape after held.
    go_gives _ after _ (last_before opens scope after _ shape.steps tt held))
head_goes (Array of brackets lines) spelled opens scope good =
    go_chain _ _ _ _ scope (λ shape middle. IsShape opens scope shape middle × HeadOf opens scope middle (last_step shape.steps)) _
    (both_ends (s_declarator_walk of) scope (IsShape opens scope) (λ shape middle. HeadOf opens scope middle (last_step shape.steps)) (spelled_trees.declarators of spelled.0 opens scope good) (head_goes of spelled.0 opens scope good))
    (λ shape middle held.
    go_chain _ _ _ _ middle (λ step after. IsStep opens middle step after × HeadOf opens scope after (Some step)) _
    (both_ends (s_brackets_walk (declarator_line (own_line lines) of) brackets) middle (IsStep opens middle) (λ step after. HeadOf opens scope after (Some step))
    (brackets_go brackets spelled.1 opens (declarator_line (own_line lines) of) middle held.0.good) (array_step opens scope brackets (declarator_line (own_line lines) of) middle)) (λ step after behind.
    go_gives _ after _ (last_before opens scope after step shape.steps behind.1 (head_later opens scope middle after behind.0.passes (last_step shape.steps) held.1))))
head_goes (Function of trees variadic lines) spelled opens scope good =
    go_chain _ _ _ _ scope (λ shape middle. IsShape opens scope shape middle × HeadOf opens scope middle (last_step shape.steps)) _
    (both_ends (s_declarator_walk of) scope (IsShape opens scope) (λ shape middle. HeadOf opens scope middle (last_step shape.steps)) (spelled_trees.declarators of spelled.0 opens scope good) (head_goes of spelled.0 opens scope good))
    (λ shape middle held.
    go_chain _ _ _ _ middle (λ value last. (value ≡ middle) × (last ≡ entered middle)) _
    (go_here_then _ _ middle _ (go_chain _ _ _ _ middle (λ done last. last ≡ entered middle) _ (go_becomes (entered middle) middle _ refl) (λ done last is. go_gives middle last _ (refl, is))))
    (λ value last begun.
    subst (λ start. Ends (seen_chain (List CParam) CShape (s_params_walk (is_single trees variadic) trees) (λ list. s_params_end value list variadic shape)) start (λ whole after. HeadOf opens scope after (last_step whole.steps))) (sym begun.1)
    (subst (λ one. Ends (seen_chain (List CParam) CShape (s_params_walk (is_single trees variadic) trees) (λ list. s_params_end one list variadic shape)) (entered middle) (λ whole after. HeadOf opens scope after (last_step whole.steps)))
    (sym begun.0)
    (go_chain _ _ _ _ (entered middle) (λ params inner. AreParams opens (is_single trees variadic) trees (entered middle) params inner × AreOwn (entered middle) params inner) _
    (both_ends (s_params_walk (is_single trees variadic) trees) (entered middle) (AreParams opens (is_single trees variadic) trees (entered middle)) (AreOwn (entered middle))
    (params_are trees spelled.1 opens (is_single trees variadic) (entered middle) (good_entered opens middle held.0.good)) (own_params trees spelled.1 (is_single trees variadic) opens (entered middle) (good_entered opens middle held.0.good)))
    (λ params inner both.
    let new = left (length middle.declared) middle.begins inner in
    let passes = passes_back opens middle inner both.0.declares in
    go_here_then _ _ inner _ (go_chain _ _ _ _ inner (λ done after. after ≡ new) _ (go_becomes new inner _ refl) (λ done after is.
    go_gives _ after _ (subst (λ last. HeadOf opens scope last (last_step (to_function (Some params) variadic (declared_since (length middle.declared) inner) ∷ shape.steps))) (sym is)
    (last_before opens scope new (to_function (Some params) variadic (declared_since (length middle.declared) inner)) shape.steps
    (own_step opens trees (is_single trees variadic) scope middle inner shape held.0 params both.0 both.1) (head_later opens scope middle new passes (last_step shape.steps) held.1))))))))))
head_goes (Identifiers of names lines) spelled opens scope good =
    go_chain _ _ _ _ scope (λ shape after. HeadOf opens scope after (last_step shape.steps)) _ (head_goes of spelled opens scope good) (λ shape after held.
    go_here_then _ _ after _ (go_settled _ after _ _ _ after _ (λ unbroken. last_before opens scope after _ shape.steps refl held)))
