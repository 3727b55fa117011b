-- The head of a function definition (ISO C99, 6.9.1).
use Rattle.std.proofs.Common.{◌≡◌, ◌⊎◌, inl, inr, ℕ, zero, suc, ◌<◌, ◌≤◌, Bool, true, false, not, ◌&&◌, ◌||◌, if◌then◌else◌, List, [], ◌∷◌, ◌++◌, map, length, Option, None, Some, is_some, slice_get, bytes_eq, refl, sym, ap, ◌∙◌, subst, arith}
use Rattle.std.specs.Prelude.{IsSome, IfSome}
use Rattle.cx_core.specs.declared.program.Linkage.{Linkage}
use Rattle.cx_core.specs.declared.program.Linkage.TheVariants.{External, Nothing}
use Rattle.cx_core.specs.Trees.{CTy, function, CTypes, CObject, CMention, defines}
use Rattle.cx_rules.specs.declared.kinds.SpecsPlace.TheVariants.{Definition}
use Rattle.cx_rules.specs.Declare.{is_linked, is_typedef, linkage_of, thing_named, clashes_thing, clashes, CDeclaring, declaring, own_params, own_within, with_head}
use Rattle.cx_rules.specs.Scope.{CMeant, an_object, a_function, CDeclared, CTag, CMade, CThing, CScope, ordinary, tag, tag_of, is_ordinary, with_declared, with_mention, mention_of}
use Rattle.cx_rules.specs.Shapes.{CSpecs, CParam, CStep}
use Rattle.cx_rules.specs.Types.{is_function}
use Rattle.std.proofs.lemmas.Slice.Eq.{bytes_eq-Decides}
use Rattle.cx_typed.proofs.Scopes.{pushed_at}
use Rattle.cx_typed.specs.Names.{IsKnownMeant, IsKnownTag}
use Rattle.cx_typed.specs.Operands.{IsKnownType}
use Rattle.cx_typed.specs.Walked.{IsGood}
use Rattle.cx_typed_files.proofs.OwnParams.{AreFrom, IsParamMeant}
use Rattle.cx_typed_files.proofs.OwnShapes.{IsOwnStep}
use Rattle.cx_typed_files.proofs.ParamAccounts.{AreKnownOnes, params_accounted}
use Rattle.cx_typed_files.specs.FileScope.{IsAtFileScope}
use Rattle.cx_typed_units.proofs.Begun.{IsBegunAs, IsEntity, function_entity, named_as}
use Rattle.cx_typed_units.proofs.DeclarationAccounts.{found_goes}
use Rattle.cx_typed_units.proofs.Entities.{declared_again, new_thing, linked_function, linked_number, GoesWith, agree_function}
use Rattle.cx_typed_units.proofs.Fine.{IsFine, either_false, unclashed, fine_is, form_is, says_no_less}
use Rattle.cx_typed_units.proofs.Joins.{fills_through}
use Rattle.cx_typed_units.proofs.FunctionAccounts.{new_function_accounted, function_again_accounted}
use Rattle.cx_typed_units.proofs.Named.{found_last, found_set, has_name}
use Rattle.cx_typed_units.proofs.Stretches.{Steps, steps_on, thing_on, steps_of}
use Rattle.cx_typed_units.specs.Account.{account_of, IsAccounted}
use Rattle.cx_typed_units.specs.Fills.{Fills}
use Rattle.cx_typed_units.specs.Stretches.{IsThing, IsCovered, IsThingOf, IsKnownThing, IsOrderly, Leads}

-- ---- what a definition asks of declarations before

linked_false : (linked clashing : Bool) → (linked && clashing) ≡ false → linked ≡ true → clashing ≡ false
linked_false true clashing is linked = is
linked_false false clashing is linked = absurd cc

undefined_by : (types : CTypes) (written : CTy) (linkage : Linkage) (old : CThing) → clashes_thing types written linkage true (Some old) ≡ false → old.is_defined ≡ false
undefined_by types written linkage old fine = (either_false _ old.is_defined (either_false _ _ fine).1).1

undefined : (scope : CScope) (name : List ℕ) (typedef : Bool) (written : CTy) (linkage : Linkage) → clashes scope name typedef written linkage true ≡ false → is_linked linkage ≡ true → (old : CThing)
    → thing_named name scope.things ≡ Some old → old.is_defined ≡ false
unfolding clashes
undefined scope name typedef written linkage fine linked old there =
    undefined_by scope.types written linkage old
    (subst (λ found. clashes_thing scope.types written linkage true found ≡ false) there (linked_false (is_linked linkage) _ (either_false _ _ fine).1 linked))

-- ---- what a name means in a scope and in front of it

pub split_ordinary : (name : List ℕ) (front behind : List CDeclared) (meant : CMeant) → ordinary name (front ++ behind) ≡ Some meant → (ordinary name front ≡ Some meant) ⊎ (ordinary name behind ≡ Some meant)
split_ordinary name [] behind meant is = inr is
split_ordinary name (one ∷ front) behind meant is = step (is_ordinary one.meant && bytes_eq one.name name) (λ later. split_ordinary name front behind meant later) is
  where
    step : (here : Bool) → (ordinary name (front ++ behind) ≡ Some meant → (ordinary name front ≡ Some meant) ⊎ (ordinary name behind ≡ Some meant)) → (if here then Some one.meant else ordinary name (front ++ behind)) ≡ Some meant → ((if here then Some one.meant else ordinary name front) ≡ Some meant) ⊎ (ordinary name behind ≡ Some meant)
    step true others is = inl is
    step false others is = others is

split_tag : (name : List ℕ) (front behind : List CDeclared) (found : CTag) → tag name (front ++ behind) ≡ Some found → (tag name front ≡ Some found) ⊎ (tag name behind ≡ Some found)
split_tag name [] behind found is = inr is
split_tag name (one ∷ front) behind found is = step (not (is_ordinary one.meant) && bytes_eq one.name name) (λ later. split_tag name front behind found later) is
  where
    step : (here : Bool) → (tag name (front ++ behind) ≡ Some found → (tag name front ≡ Some found) ⊎ (tag name behind ≡ Some found)) → (if here then tag_of one.meant else tag name (front ++ behind)) ≡ Some found → ((if here then tag_of one.meant else tag name front) ≡ Some found) ⊎ (tag name behind ≡ Some found)
    step true others is = inl is
    step false others is = others is

pub split_list : {X : Type 0} (front behind : List X) (index : ℕ) (x : X) → slice_get (front ++ behind) index ≡ Some x → ((at : ℕ) × (slice_get front at ≡ Some x)) ⊎ ((at : ℕ) × (slice_get behind at ≡ Some x))
split_list [] behind index x is = inr (index, is)
split_list (first ∷ front) behind zero x is = inl (zero, is)
split_list {X} (first ∷ front) behind (suc index) x is = step (split_list front behind index x is)
  where
    step : ((at : ℕ) × (slice_get front at ≡ Some x)) ⊎ ((at : ℕ) × (slice_get behind at ≡ Some x)) → ((at : ℕ) × (slice_get (first ∷ front) at ≡ Some x)) ⊎ ((at : ℕ) × (slice_get behind at ≡ Some x))
    step (inl found) = inl (suc found.0, found.1)
    step (inr found) = inr found

-- as `Declare` says it
abbrev pub param_object : CScope → CParam → CObject
param_object scope one = record {
  object = one.object;
  unit = scope.unit;
  name = one.name;
  is_text = false;
  type = one.type;
  linkage = Nothing;
  puts = None;
}

abbrev linkage_in : CMeant → Linkage
linkage_in (an_object number type is_register linkage) = linkage
linkage_in _ = External

no_param_linked : (params : List CParam) (number : ℕ) (type : CTy) (is_register : Bool) (linkage : Linkage) → is_linked linkage ≡ true → IsParamMeant params (an_object number type is_register linkage) → ⊥
no_param_linked [] number type is_register linkage linked of = of
no_param_linked (one ∷ others) number type is_register linkage linked (inl is) =
    let h : linkage ≡ Nothing = ap linkage_in is in
    let k : is_linked Nothing ≡ true = subst (λ l. is_linked l ≡ true) h linked in
    let c : false ≡ true = k in cc
no_param_linked (one ∷ others) number type is_register linkage linked (inr of) = no_param_linked others number type is_register linkage linked of

no_param_code : (params : List CParam) (number : ℕ) (type : CTy) (linkage : Linkage) → IsParamMeant params (a_function number type linkage) → ⊥
no_param_code [] number type linkage of = of
no_param_code (one ∷ others) number type linkage (inl is) = cc
no_param_code (one ∷ others) number type linkage (inr of) = no_param_code others number type linkage of

-- where the declarator of a definition begins and ends, and what it says
pub record IsHead (opens : List ℕ) (start scope : CScope) (specs : CSpecs) (name : List ℕ) (written : CTy) (steps : List CStep) : Type 0 where
  pub at_start : IsAtFileScope opens start
  pub at : IsAtFileScope opens scope
  pub leads : Leads opens start scope
  pub objects_same : scope.objects ≡ start.objects
  pub literals_same : scope.literals ≡ start.literals
  pub known : IsKnownType opens scope.types scope.unit written
  pub own : IsOwnStep opens start scope (own_params steps) (own_within steps)
  pub typedef : is_typedef specs ≡ false
  pub code : is_function written ≡ true
  pub apart : clashes scope name (is_typedef specs) written (linkage_of Definition specs written (ordinary name scope.declared)) true ≡ false

module _ (opens : List ℕ) (start scope : CScope) (specs : CSpecs) (line : ℕ) (name : List ℕ) (written : CTy) (steps : List CStep) (head : IsHead opens start scope specs name written steps) where
  abbrev pub one : CDeclaring
  one = declaring scope Definition specs name line written true

  pub form : is_function one.type ≡ true
  form = form_is opens scope head.at.good head.at.orderly Definition specs name line written true head.known (unclashed scope name (is_typedef specs) written one.linkage true head.apart) ∙ head.code

  pub fine : IsFine opens scope one
  fine =
      fine_is opens scope head.at.good head.at.orderly Definition specs name line written true head.known (unclashed scope name (is_typedef specs) written one.linkage true head.apart) (λ t no_fun. absurd (let h : true ≡ false = sym form ∙ no_fun in cc))

  pub linked : is_linked one.linkage ≡ true
  linked = fine.function_linked head.typedef form

  abbrev pub number : ℕ
  number = linked_number scope.next_function (thing_named name scope.things)

  abbrev pub mention : CMention
  mention = mention_of scope name line written one.linkage defines

  abbrev pub entity_by : Option CThing → CScope
  entity_by found = linked_function name one.type one.linkage true found scope

  -- the function is declared
  abbrev pub behind : CScope
  behind = with_declared name (a_function number one.type one.linkage) (with_mention mention (entity_by (thing_named name scope.things)))

  entity : IsEntity opens scope name (a_function number one.type one.linkage) (entity_by (thing_named name scope.things))
  entity = function_entity opens scope name one.type fine.known head.at.orderly one.linkage linked (fine.goes linked) form true

  -- it has a body
  itself : bytes_eq name name ≡ true
  itself = (bytes_eq-Decides name name).1 refl

  thing_by : (found : Option CThing) → thing_named name scope.things ≡ found → (thing : CThing) × (thing_named name (entity_by found).things ≡ Some thing) × (thing.is_defined ≡ true)
  thing_by None there =
      let new = new_thing name one.linkage true scope.next_function one.type true None in
      (new, found_last name scope.things new there itself, refl)
  thing_by (Some old) there =
      let again = declared_again one.type true None old in
      let old_name = has_name name scope.things old there in (
        again,
        found_set name name again scope.things old (ap (λ n. bytes_eq n name) old_name) there ∙ ap (λ b. Some (if b then again else old)) (ap (λ n. bytes_eq n name) old_name ∙ itself),
        refl,
      )

  pub thing_defined : (thing : CThing) → thing_named name behind.things ≡ Some thing → thing.is_defined ≡ true
  thing_defined thing there =
      let found = thing_by (thing_named name scope.things) refl in
      let same : Some found.0 ≡ Some thing = sym found.1 ∙ there in
      let is : found.0 ≡ thing = cc in
      ap (λ (x : CThing). x.is_defined) (sym is) ∙ found.2

  -- the unit says no less of the function than what is written
  mention_covered : (found : Option CThing) → thing_named name (entity_by (thing_named name scope.things)).things ≡ found
      → IsSome found × IfSome found (IsThing opens (entity_by (thing_named name scope.things)).types number one.type one.linkage true)
      → IsCovered opens (entity_by (thing_named name scope.things)).types (entity_by (thing_named name scope.things)).things mention
  mention_covered None there held = absurd (let h : false ≡ true = held.0 in cc)
  mention_covered (Some thing) there held = record {
    thing = thing;
    there = there;
    fills = fills_through opens (entity_by (thing_named name scope.things)).types scope.unit written one.type thing.type
        (subst (λ types. Fills opens types written one.type) (sym entity.types_are)
        (says_no_less opens scope head.at.good head.at.orderly Definition specs name line written true head.known (unclashed scope name (is_typedef specs) written one.linkage true head.apart))) held.1.fills;
    defined = λ is. record { linkage_is = held.1.linkage_is; defined = ap (λ b. b || (not thing.is_function && is_some thing.tentative)) (thing_defined thing there) };
  }

  pub begun : IsBegunAs opens scope name (a_function number one.type one.linkage) behind
  begun =
      named_as opens scope head.at.good name (a_function number one.type one.linkage) refl (entity_by (thing_named name scope.things))
      entity true mention (λ is. mention_covered (thing_named name (entity_by (thing_named name scope.things)).things) refl entity.linked.1)

  account_at : (found : Option CThing) → thing_named name scope.things ≡ found → IsAccounted opens (Some name) (account_of (with_mention mention (entity_by found)))
  account_at None there =
      new_function_accounted opens None (account_of scope) head.at.accounted name one.type fine.known one.linkage true (λ is. refl) mention refl refl (λ is. absurd cc) there (λ is. absurd cc)
  account_at (Some old) there =
      let goes = found_goes (GoesWith scope.types one.type one.linkage) (thing_named name scope.things) old there (fine.goes linked) in
      let was = head.at.orderly.things name old there in
      function_again_accounted opens None (account_of scope) head.at.accounted name one.type fine.known one.linkage true (λ is. refl) mention refl refl (λ is. absurd cc) old there (has_name name scope.things old there)
      (sym was.function_is ∙ (sym (agree_function scope.types one.type old.type goes.agrees) ∙ form)) goes was.known (λ is. undefined scope name (is_typedef specs) written one.linkage head.apart linked old there)
      (λ is. absurd cc)

  behind_accounted : IsAccounted opens (Some name) (account_of behind)
  behind_accounted = account_at (thing_named name scope.things) refl

  entity_objects : (found : Option CThing) → (entity_by found).objects ≡ scope.objects
  entity_objects None = refl
  entity_objects (Some old) = refl

  entity_next : (found : Option CThing) → (entity_by found).next_object ≡ scope.next_object
  entity_next None = refl
  entity_next (Some old) = refl

  -- ---- the scope of the body begins

  abbrev pub inside : CScope
  inside = record behind {
    begins = length behind.declared;
    declared = own_within steps ++ behind.declared;
    objects = behind.objects ++ map (param_object behind) (own_params steps);
    in_function = true;
  }

  pub head_is : with_head one written steps scope ≡ inside
  unfolding with_head
  head_is = refl

  same_unit : behind.unit ≡ scope.unit
  same_unit = begun.leads.declares.unit_is

  pub inside_good : IsGood opens inside
  inside_good = record {
    sound = begun.good.sound;
    known = λ other meant is. known_by other meant (split_ordinary other (own_within steps) behind.declared meant is);
    tags = λ other found is. tag_by other found (split_tag other (own_within steps) behind.declared found is);
  }
    where
      known_by : (other : List ℕ) (meant : CMeant) → (ordinary other (own_within steps) ≡ Some meant) ⊎ (ordinary other behind.declared ≡ Some meant) → IsKnownMeant opens behind.types behind.unit meant
      known_by other meant (inl first) =
          subst (λ types. IsKnownMeant opens types behind.unit meant) (sym begun.types_are) (subst (λ unit. IsKnownMeant opens scope.types unit meant) (sym same_unit) (head.own.known other meant first))
      known_by other meant (inr later) = begun.good.known other meant later

      tag_by : (other : List ℕ) (found : CTag) → (tag other (own_within steps) ≡ Some found) ⊎ (tag other behind.declared ≡ Some found) → IsKnownTag opens behind.types behind.unit other found
      tag_by other found (inl first) =
          subst (λ types. IsKnownTag opens types behind.unit other found) (sym begun.types_are) (subst (λ unit. IsKnownTag opens scope.types unit other found) (sym same_unit) (head.own.tags other found first))
      tag_by other found (inr later) = begun.good.tags other found later

  early_object : (index : ℕ) (x : CObject) → slice_get behind.objects index ≡ Some x → x.object < start.next_object
  early_object index x is = head.at_start.accounted.objects_below index x (subst (λ objects. slice_get objects index ≡ Some x) (entity_objects (thing_named name scope.things) ∙ head.objects_same) is)

  early_literal : (index : ℕ) (x : CMade) → slice_get behind.literals index ≡ Some x → x.object < start.next_object
  early_literal index x is = head.at_start.accounted.literals_below index x (subst (λ literals. slice_get literals index ≡ Some x) (begun.literals_are ∙ head.literals_same) is)

  pub numbers_from : AreFrom start.next_object (own_params steps) behind.next_object
  numbers_from = subst (AreFrom start.next_object (own_params steps)) (sym (entity_next (thing_named name scope.things))) head.own.numbers

  pub inside_accounted : AreKnownOnes opens behind.types behind.unit (own_params steps) → IsAccounted opens (Some name) (account_of inside)
  inside_accounted ones =
      params_accounted opens (Some name) (param_object behind) (λ x. refl) (λ x. refl) (λ x. refl) (λ x. refl) (account_of behind) (own_params steps) start.next_object (λ x. refl) behind_accounted numbers_from ones
      early_object early_literal

  -- from the declarator's begin to the function
  pub all_steps : Steps opens start behind
  all_steps = steps_on opens start scope behind (steps_of opens start scope head.leads) begun.leads

  param_number : (params : List CParam) (low high : ℕ) → AreFrom low params high → (index : ℕ) (x : CObject) → slice_get (map (param_object behind) params) index ≡ Some x → (low ≤ x.object) × (x.object < high)
  param_number [] low high from index x is = absurd cc
  param_number (first ∷ params) low high from zero x is =
      let same : first.object ≡ x.object = ap (λ (y : CObject). y.object) (same_value is) in
      let h : low ≤ first.object = from.0 in
      let k : suc first.object ≤ high = at_most (suc first.object) params high from.1 in (omega (arith, h, same), omega (arith, k, same))
    where
      same_value : {x y : CObject} → Some x ≡ Some y → x ≡ y
      same_value is = cc

      at_most : (low : ℕ) (params : List CParam) (high : ℕ) → AreFrom low params high → low ≤ high
      at_most low [] high held = held
      at_most low (first ∷ params) high held = let h : low ≤ first.object = held.0 in let k : suc first.object ≤ high = at_most (suc first.object) params high held.1 in omega (arith, h, k)
  param_number (first ∷ params) low high from (suc index) x is =
      let later = param_number params (suc first.object) high from.1 index x is in
      let h : low ≤ first.object = from.0 in
      let k : suc first.object ≤ x.object = later.0 in (omega (arith, h, k), later.1)

  pub inside_orderly : IsOrderly opens inside
  inside_orderly =
      let held = begun.leads.orderly head.at.orderly in
      record {
        objects = λ other n type reg l is is_linked_so. object_by other n type reg l is_linked_so (split_ordinary other (own_within steps) behind.declared (an_object n type reg l) is);
        functions = λ other n type l is. function_by other n type l (split_ordinary other (own_within steps) behind.declared (a_function n type l) is);
        things = λ other x is.
            let was = held.things other x is in
            record {
              known = was.known;
              linked = was.linked;
              function_is = was.function_is;
              below = was.below;
              own = λ object index found there same. own_by other x is object found (split_list behind.objects (map (param_object behind) (own_params steps)) index found there) was same;
            };
        numbers = λ index found there. below_by found (split_list behind.objects (map (param_object behind) (own_params steps)) index found there);
      }
    where
      object_by : (other : List ℕ) (n : ℕ) (type : CTy) (reg : Bool) (l : Linkage) → is_linked l ≡ true
          → (ordinary other (own_within steps) ≡ Some (an_object n type reg l)) ⊎ (ordinary other behind.declared ≡ Some (an_object n type reg l)) → IsThingOf opens inside other n type l false
      object_by other n type reg l is_linked_so (inr later) = (begun.leads.orderly head.at.orderly).objects other n type reg l later is_linked_so
      object_by other n type reg l is_linked_so (inl first) = early (head.own.things other (an_object n type reg l) refl first)
        where
          early : (ordinary other start.declared ≡ Some (an_object n type reg l)) ⊎ IsParamMeant (own_params steps) (an_object n type reg l) → IsThingOf opens inside other n type l false
          early (inl was) = thing_on opens start behind all_steps.declares.grows all_steps.things other n type l false (head.at_start.orderly.objects other n type reg l was is_linked_so)
          early (inr of) = absurd (no_param_linked (own_params steps) n type reg l is_linked_so of)

      function_by : (other : List ℕ) (n : ℕ) (type : CTy) (l : Linkage) → (ordinary other (own_within steps) ≡ Some (a_function n type l)) ⊎ (ordinary other behind.declared ≡ Some (a_function n type l))
          → (is_linked l ≡ true) × IsThingOf opens inside other n type l true
      function_by other n type l (inr later) = (begun.leads.orderly head.at.orderly).functions other n type l later
      function_by other n type l (inl first) = early (head.own.things other (a_function n type l) refl first)
        where
          early : (ordinary other start.declared ≡ Some (a_function n type l)) ⊎ IsParamMeant (own_params steps) (a_function n type l) → (is_linked l ≡ true) × IsThingOf opens inside other n type l true
          early (inl was) =
              let before = head.at_start.orderly.functions other n type l was in (before.0, thing_on opens start behind all_steps.declares.grows all_steps.things other n type l true before.1)
          early (inr of) = absurd (no_param_code (own_params steps) n type l of)

      own_by : (other : List ℕ) (x : CThing) → thing_named other behind.things ≡ Some x → x.is_function ≡ false → (found : CObject)
          → ((index : ℕ) × (slice_get behind.objects index ≡ Some found)) ⊎ ((index : ℕ) × (slice_get (map (param_object behind) (own_params steps)) index ≡ Some found)) → IsKnownThing opens behind x → found.object ≡ x.number
          → is_linked found.linkage ≡ true
      own_by other x is object found (inl early) was same = was.own object early.0 found early.1 same
      own_by other x is object found (inr param) was same =
          let has = behind_accounted.object_things other x is object in
          let h : has.one.object < start.next_object = early_object has.index has.one has.at in
          let k : start.next_object ≤ found.object = (param_number (own_params steps) start.next_object behind.next_object numbers_from param.0 found param.1).0 in
          let n : has.one.object ≡ x.number = has.number_is in
          absurd (omega (arith, h, k, n, same))

      below_by : (found : CObject) → ((index : ℕ) × (slice_get behind.objects index ≡ Some found)) ⊎ ((index : ℕ) × (slice_get (map (param_object behind) (own_params steps)) index ≡ Some found)) → found.object < inside.next_object
      below_by found (inl early) = (begun.leads.orderly head.at.orderly).numbers early.0 found early.1
      below_by found (inr param) = (param_number (own_params steps) start.next_object behind.next_object numbers_from param.0 found param.1).1

  -- ---- the function that is declared

  pub same_objects : behind.objects ≡ scope.objects
  same_objects = entity_objects (thing_named name scope.things)

  pub mention_at : slice_get behind.mentions (length (entity_by (thing_named name scope.things)).mentions) ≡ Some mention
  mention_at = pushed_at (entity_by (thing_named name scope.things)).mentions mention
