-- An object with linkage, behind its initialiser (ISO C99, 6.7.8, 6.9.2p1).
use Rattle.std.proofs.Common.{◌≡◌, ◌⊎◌, inl, inr, ℕ, ◌==◌, Bool, true, false, not, ◌&&◌, ◌||◌, if◌then◌else◌, List, [], ◌∷◌, ◌++◌, map, length, None, Some, is_some, slice_get, bytes_eq, refl, sym, ap, ◌∙◌, subst, arith}
use Rattle.std.proofs.lemmas.Bool.Decides.{nat_tests}
use Rattle.std.proofs.lemmas.Slice.Eq.{bytes_eq-Decides}
use Rattle.std.specs.Prelude.{IsSome, IfSome}
use Rattle.cx_core.specs.declared.program.Linkage.{Linkage}
use Rattle.cx_core.specs.declared.program.Linkage.TheVariants.{External}
use Rattle.cx_core.specs.Linked.{home_of, IsStatic}
use Rattle.cx_core.specs.Trees.{CTy, form_of_type, CPuts, CObject, CMention, defines}
use Rattle.cx_core.specs.Typing.{CHome}
use Rattle.cx_core.specs.ValidTypes.{IsObjectForm}
use Rattle.cx_rules.specs.Declare.{is_linked, thing_named, with_object_at}
use Rattle.cx_rules.specs.Scope.{CMeant, an_object, a_function, CThing, CScope, new_scope, ordinary}
use Rattle.cx_rules.specs.Types.{is_function, composite}
use Rattle.cx_rules.specs.UnitWalk.{literals_since}
use Rattle.cx_typed.proofs.DeclaredForms.{object_declared}
use Rattle.cx_typed.proofs.Same.{number_is}
use Rattle.cx_typed.specs.Names.{IsKnownMeant}
use Rattle.cx_typed.specs.Operands.{IsKnownType}
use Rattle.cx_typed.specs.Scopes.{IsHeld, Serves, AreTypedLiterals, Passes, is_thing}
use Rattle.cx_typed.specs.Walked.{IsGood}
use Rattle.cx_typed_units.proofs.Around.{known_thing}
use Rattle.cx_typed_files.proofs.FileSteps.{backs_between}
use Rattle.cx_typed_units.proofs.Begun.{IsBegunAs}
use Rattle.cx_typed_units.proofs.Blocks.{serves_of, all_on}
use Rattle.cx_typed_units.proofs.Declared.{object_held, one_more_held}
use Rattle.cx_typed_units.proofs.Entities.{composite_function, agree_function, GoesWith}
use Rattle.cx_typed_units.proofs.FilledObjects.{AreFilled}
use Rattle.cx_typed_units.proofs.Joins.{fills_first, fills_second, composite_known}
use Rattle.cx_typed_units.proofs.Named.{set_thing, found_set, has_name}
use Rattle.cx_typed_units.proofs.ObjectNumbers.{numbered_of, changed_numbered}
use Rattle.cx_typed_units.proofs.Owned.{stored_in}
use Rattle.cx_typed_units.proofs.Redeclared.{redeclare_first, IsRetyped, redeclared_front, redeclared_means, redeclared_tags}
use Rattle.cx_typed_units.proofs.RestNodes.{StaysTo}
use Rattle.cx_typed_units.proofs.Rests.{since_in, literals_typed, rest_leads}
use Rattle.cx_typed_units.proofs.Steps.{got_mapped, mapped_at, changed_leads}
use Rattle.cx_typed_units.proofs.Stretches.{Steps, steps_on, steps_of, passes_declare, thing_on, backs_earlier, holds_earlier}
use Rattle.cx_typed_units.proofs.ThingAccounts.{AreDeclared, declared_account, thing_accounted, named_onward}
use Rattle.cx_typed_units.proofs.ThingLists.{set_declared}
use Rattle.cx_typed_units.proofs.ThingSteps.{with_set_thing, set_thing_leads}
use Rattle.cx_typed_units.specs.Account.{CAccount, account_of, is_declaring, does_by, IsToldAs, IsObjectNamed, IsKnownObject, IsObjectThing, IsAccounted}
use Rattle.cx_typed_units.specs.Rest.{CRest, is_defining}
use Rattle.cx_typed_units.specs.Fills.{Fills}
use Rattle.cx_typed_units.specs.Stretches.{IsSameThing, IsThing, IsThingOf, IsKnownThing, IsOrderly, IsCovered, AreCovered, Backs, IsHeldAt, AreIn, IsFilled, AreTypedUpTo}

same_value : {X : Type 0} {x y : X} → Some x ≡ Some y → x ≡ y
same_value is = cc

-- the mentions then: that of the declaration says the type of the object
pub record IsToldWhole (scope later : CScope) (mentions : List CMention) (name : List ℕ) (linkage : Linkage) (whole : CTy) : Type 0 where
  pub others : (index : ℕ) (one : CMention) → slice_get later.mentions index ≡ Some one → (one.name ≡ name → ⊥) → slice_get mentions index ≡ Some one
  pub used : (index : ℕ) (one : CMention) → slice_get later.mentions index ≡ Some one → is_defining one.does ≡ false → slice_get mentions index ≡ Some one
  pub early : (index : ℕ) (one : CMention) → slice_get scope.mentions index ≡ Some one → slice_get mentions index ≡ Some one
  pub said : (index : ℕ) (one : CMention) → slice_get mentions index ≡ Some one → (slice_get later.mentions index ≡ Some one) ⊎ ((one.name ≡ name) × (one.type ≡ whole) × (one.linkage ≡ linkage))
  pub own : linkage ≡ External → IsToldAs mentions name External (λ one. (one.type ≡ whole) × (one.does ≡ defines))

-- the thing that is declared, between its declarator and its initialiser
pub record IsOwnThing (opens : List ℕ) (name : List ℕ) (number : ℕ) (type : CTy) (linkage : Linkage) (middle : CScope) (thing : CThing) : Type 0 where
  pub there : thing_named name middle.things ≡ Some thing
  pub is_thing : IsThing opens middle.types number type linkage false thing
  pub defined : thing.is_defined ≡ true

module _ (opens : List ℕ) (scope : CScope) (orderly : IsOrderly opens scope) (name : List ℕ) (number : ℕ) (type : CTy) (is_register : Bool) (linkage : Linkage) (linked : is_linked linkage ≡ true) (middle later : CScope)
    (begun : IsBegunAs opens scope name (an_object number type is_register linkage) middle) (thing : CThing) (own : IsOwnThing opens name number type linkage middle thing)
    (passes : Passes opens middle later) (stays : StaysTo middle later) (made : AreTypedLiterals opens middle later) (good : IsGood opens later)
    (full : CTy) (known : IsKnownType opens later.types later.unit full) (object : IsObjectForm (form_of_type full)) (goes : GoesWith later.types full linkage thing) (puts : CPuts)
    (mentions : List CMention) (told : IsToldWhole scope later mentions name linkage full) where
  abbrev pub whole : CTy
  whole = composite full thing.type

  abbrev new : CThing
  new = record thing { type = whole }

  abbrev change : CObject → CObject
  change one = if one.object == number then stored_in true full puts one else one

  abbrev pub behind : CScope
  behind = record later { declared = redeclare_first name full later.declared; objects = map change later.objects; things = set_thing name new later.things; mentions = mentions }

  things_are : later.things ≡ middle.things
  things_are = ap {A = CRest} (λ one. one.things) stays.rest_is

  there : thing_named name later.things ≡ Some thing
  there = ap (thing_named name) things_are ∙ own.there

  init_steps : Steps opens middle later
  init_steps = steps_of opens middle later (rest_leads opens middle later (passes_declare opens middle later passes) passes.declared stays passes.numbers made)

  pub all_steps : Steps opens scope later
  all_steps = steps_on opens scope middle later begun.leads init_steps

  later_orderly : IsOrderly opens later
  later_orderly = all_steps.orderly orderly

  thing_known : IsKnownThing opens later thing
  thing_known = later_orderly.things name thing there

  is_object : thing.is_function ≡ false
  is_object = own.is_thing.function_is

  whole_known : IsKnownType opens later.types later.unit whole
  whole_known = composite_known opens later.types later.unit full thing.type known thing_known.known goes.agrees

  new_same : IsSameThing opens later.types thing new
  new_same = record { number_is = refl; linkage_is = refl; function_is = refl; fills = fills_second opens later.types later.unit full thing.type known thing_known.known goes.agrees; defined = λ is. is; tentative = λ is. is }

  thing_name : thing.name ≡ name
  thing_name = has_name name later.things thing there

  new_form : is_function new.type ≡ new.is_function
  new_form = composite_function full thing.type ∙ (agree_function later.types full thing.type goes.agrees ∙ thing_known.function_is)

  -- with the thing, and then with its object
  abbrev with_thing : CScope
  with_thing = with_set_thing name new later

  thing_steps : Steps opens later with_thing
  thing_steps = set_thing_leads opens later name thing new there thing_name new_same whole_known new_form

  abbrev with_objects : CScope
  with_objects = with_object_at number (stored_in true full puts) with_thing

  object_steps : Steps opens with_thing with_objects
  object_steps =
      changed_leads opens with_thing number (stored_in true full puts) (λ one. refl) (λ one. refl) (λ one is. refl)
      (λ index one at same. thing_known.own is_object index one at (same ∙ sym own.is_thing.number_is))

  both_steps : Steps opens scope with_objects
  both_steps = steps_on opens scope with_thing with_objects (steps_on opens scope later with_thing all_steps thing_steps) object_steps

  new_there : thing_named name (set_thing name new later.things) ≡ Some new
  new_there =
      found_set name name new later.things thing (ap (λ n. bytes_eq n name) thing_name) there
      ∙ ap (λ b. Some (if b then new else thing)) (ap (λ n. bytes_eq n name) thing_name ∙ (bytes_eq-Decides name name).1 refl)

  -- ---- what a name means then

  own_means : (other : List ℕ) (meant : CMeant) → name ≡ other → is_thing meant ≡ true → ordinary other later.declared ≡ Some meant → an_object number type is_register linkage ≡ meant
  own_means other meant same thing_like is =
      same_value (sym (ap (ordinary name) begun.declared_is ∙ ap (λ b. if b then Some (an_object number type is_register linkage) else ordinary name scope.declared) ((bytes_eq-Decides name name).1 refl)) ∙ named)
    where
      named : ordinary name middle.declared ≡ Some meant
      named = subst (λ n. ordinary n middle.declared ≡ Some meant) (sym same) (passes.declared other meant thing_like is)

  abbrev retype : CMeant → CMeant
  retype (an_object number before is_register linkage) = an_object number full is_register linkage
  retype meant = meant

  -- the name that is declared again
  retyped_is : (other : List ℕ) (found : CMeant) → IsRetyped name other full (ordinary other later.declared) found → found ≡ an_object number full is_register linkage
  retyped_is other found at = at.found_is ∙ sym (ap retype (own_means other _ at.name_is refl at.was_is))

  own_thing_of : IsThingOf opens behind name number full linkage false
  own_thing_of =
      subst (λ found. IsSome found × IfSome found (IsThing opens later.types number full linkage false)) (sym new_there) (
        refl,
        record {
          number_is = own.is_thing.number_is;
          linkage_is = own.is_thing.linkage_is;
          function_is = is_object;
          fills = fills_first opens later.types later.unit full thing.type known thing_known.known goes.agrees;
        },
      )

  all_orderly : IsOrderly opens with_objects
  all_orderly = both_steps.orderly orderly

  abbrev thing_of : CMeant → Type 0
  thing_of (an_object n found reg l) = IsThingOf opens behind name n found l false
  thing_of _ = Unit {0}

  object_by : (other : List ℕ) (n : ℕ) (found : CTy) (reg : Bool) (l : Linkage) → is_linked l ≡ true
      → (ordinary other later.declared ≡ Some (an_object n found reg l)) ⊎ IsRetyped name other full (ordinary other later.declared) (an_object n found reg l) → IsThingOf opens behind other n found l false
  object_by other n found reg l is_linked_so (inl at) = all_orderly.objects other n found reg l at is_linked_so
  object_by other n found reg l is_linked_so (inr at) =
      let same = retyped_is other _ at in
      subst (λ o. IsThingOf opens behind o n found l false) at.name_is
      (subst thing_of (sym same) own_thing_of)

  function_by : (other : List ℕ) (n : ℕ) (found : CTy) (l : Linkage)
      → (ordinary other later.declared ≡ Some (a_function n found l)) ⊎ IsRetyped name other full (ordinary other later.declared) (a_function n found l) → ordinary other later.declared ≡ Some (a_function n found l)
  function_by other n found l (inl at) = at
  function_by other n found l (inr at) = absurd (let h : a_function n found l ≡ an_object at.number full at.is_register at.linkage = at.found_is in cc)

  behind_orderly : IsOrderly opens behind
  behind_orderly = record {
    objects = λ other n found reg l is is_linked_so. object_by other n found reg l is_linked_so (redeclared_means name other full later.declared (an_object n found reg l) is);
    functions = λ other n found l is. all_orderly.functions other n found l (function_by other n found l (redeclared_means name other full later.declared (a_function n found l) is));
    things = λ other one is. known_thing opens with_objects behind refl refl refl refl one (all_orderly.things other one is);
    numbers = all_orderly.numbers;
  }

  covered_by : AreCovered opens with_objects → (index : ℕ) (one : CMention) → (slice_get later.mentions index ≡ Some one) ⊎ ((one.name ≡ name) × (one.type ≡ full) × (one.linkage ≡ linkage))
      → IsCovered opens later.types (set_thing name new later.things) one
  covered_by held index one (inl at) = held index one at
  covered_by held index one (inr is) = record {
    thing = new;
    there = ap (λ n. thing_named n (set_thing name new later.things)) is.0 ∙ new_there;
    fills = subst (λ type. Fills opens later.types type whole) (sym is.1) (fills_first opens later.types later.unit full thing.type known thing_known.known goes.agrees);
    defined = λ defining. record {
      linkage_is = own.is_thing.linkage_is ∙ sym is.2;
      defined = ap (λ b. b || (not thing.is_function && is_some thing.tentative)) own.defined;
    };
  }

  pub behind_steps : Steps opens scope behind
  behind_steps = record {
    declares = record {
      unit_is = both_steps.declares.unit_is;
      grows = both_steps.declares.grows;
      mentions = λ index one is. told.early index one is;
      literals = both_steps.declares.literals;
      front = redeclare_first name full (passes.front ++ record { name = name; meant = an_object number type is_register linkage } ∷ []);
      declared_is =
          ap (redeclare_first name full) (passes.declared_is ∙ ap (λ declared. passes.front ++ declared) begun.declared_is)
          ∙ redeclared_front name full passes.front (an_object number type is_register linkage) scope.declared refl;
    };
    begins_is = both_steps.begins_is;
    in_function_is = both_steps.in_function_is;
    functions_are = both_steps.functions_are;
    objects_more = both_steps.objects_more;
    objects = both_steps.objects;
    things = both_steps.things;
    orderly = λ held. behind_orderly;
    covered = λ early held index one at. covered_by (both_steps.covered early held) index one (told.said index one at);
    statics = both_steps.statics;
  }

  pub behind_good : IsGood opens behind
  behind_good = record {
    sound = good.sound;
    known = λ other found is. known_by other found (redeclared_means name other full later.declared found is);
    tags = λ other one is. good.tags other one (sym (redeclared_tags name other full later.declared) ∙ is);
  }
    where
      known_by : (other : List ℕ) (found : CMeant) → (ordinary other later.declared ≡ Some found) ⊎ IsRetyped name other full (ordinary other later.declared) found → IsKnownMeant opens later.types later.unit found
      known_by other found (inl at) = good.known other found at
      known_by other found (inr at) = subst (IsKnownMeant opens later.types later.unit) (sym at.found_is) (known, object_declared at.linkage (form_of_type full) object)

  -- ---- what the unit keeps account of

  abbrev few : CAccount
  few = account_of later

  module _ (held : IsAccounted opens (Some name) few) where
    was : IsObjectThing opens (Some name) few name thing
    was = held.object_things name thing there is_object

    number_kept : (one : CObject) (same : Bool) → (if same then stored_in true full puts one else one).object ≡ one.object
    number_kept one true = refl
    number_kept one false = refl

    at_number : (index : ℕ) (one : CObject) → slice_get later.objects index ≡ Some one → (one.object == number) ≡ true → was.one ≡ one
    at_number index one at same =
        let here : was.index ≡ index = held.objects_differ was.index index was.one one was.at at (was.number_is ∙ (own.is_thing.number_is ∙ sym (number_is one.object number same))) in
        same_value (sym was.at ∙ (ap (slice_get later.objects) here ∙ at))

    stays_by : (index : ℕ) (one : CObject) (same : Bool) → (one.object == number) ≡ same → slice_get later.objects index ≡ Some one → (one.name ≡ Some name → ⊥) → slice_get (map change later.objects) index ≡ Some one
    stays_by index one true e at apart = absurd (apart (ap (λ (x : CObject). x.name) (sym (at_number index one at e)) ∙ was.named))
    stays_by index one false e at apart = mapped_at change later.objects index one at ∙ ap (λ b. Some (if b then stored_in true full puts one else one)) e

    itself : (one other : ℕ) → one ≡ other → (one == other) ≡ true
    itself one other same = grind (arith, nat_tests)

    declared_so : AreDeclared later.things (set_thing name new later.things) name new
    declared_so = set_declared later.things held.listed name thing new there thing_name refl refl (λ is. is)

    abbrev many : CAccount
    many = declared_account few later.next_object later.next_function mentions (map change later.objects) (set_thing name new later.things)

    known_by : (index : ℕ) (before one : CObject) (same : Bool) → slice_get later.objects index ≡ Some before → (if same then stored_in true full puts before else before) ≡ one
        → (slice_get later.objects index ≡ Some one) ⊎ IsKnownObject opens many one
    known_by index before one true at is =
        let known_before = held.objects index before at in
        inr (subst (IsKnownObject opens many) is (record {
          here = known_before.here;
          known = known;
          object = object_declared before.linkage (form_of_type full) object;
          no_text = known_before.no_text;
          named = λ is_linked_so. named_onward later.things (set_thing name new later.things) name new declared_so (stored_in true full puts before) (named_stored before (known_before.named is_linked_so));
        }))
      where
        named_stored : (before : CObject) → IsObjectNamed later.things before → IsObjectNamed later.things (stored_in true full puts before)
        named_stored before held = record { name = held.name; named = held.named; thing = held.thing; there = held.there; number_is = held.number_is; object_is = held.object_is }
    known_by index before one false at is = inl (at ∙ ap (λ x. Some x) is)

    told_own : new.linkage ≡ External → IsToldAs mentions name External (λ one. (one.type ≡ full) × (one.does ≡ defines))
    told_own external = told.own (sym own.is_thing.linkage_is ∙ external)

    own_object : IsObjectThing opens None many name new
    own_object = record {
      index = was.index;
      one = stored_in true full puts was.one;
      at = mapped_at change later.objects was.index was.one was.at ∙ ap (λ b. Some (if b then stored_in true full puts was.one else was.one)) (itself was.one.object number (was.number_is ∙ own.is_thing.number_is));
      number_is = was.number_is;
      linkage_is = was.linkage_is;
      named = was.named;
      type_is = λ is. absurd (let h : true ≡ false = sym own.defined ∙ is in cc);
      fills = fills_first opens later.types later.unit full thing.type known thing_known.known goes.agrees;
      defined = λ is. own.defined;
      filled = λ apart is. refl;
      internal = λ is. ap (λ b. b || is_some thing.tentative) own.defined;
      type_told = λ external. (
          let held = told_own external in
          record { index = held.index; one = held.one; at = held.at; name_is = held.name_is; linkage_is = held.linkage_is; says = (held.says.0, ap is_declaring held.says.1) });
      does_told = λ external. (
          let held = told_own external in
          record { index = held.index; one = held.one; at = held.at; name_is = held.name_is; linkage_is = held.linkage_is; says = held.says.1 ∙ ap does_by (sym (ap (λ b. b || is_some thing.tentative) own.defined)) });
    }

    pub content_accounted : IsAccounted opens None (account_of behind)
    content_accounted =
        thing_accounted opens (Some name) None few later.next_object later.next_function mentions (map change later.objects) (set_thing name new later.things) held name new declared_so (record {
          told = λ index one is other. told_by index one is (bytes_eq one.name name) refl other;
          more_functions = omega arith;
          numbered = changed_numbered later.objects later.literals later.next_object (numbered_of opens (Some name) few held) change (λ one. number_kept one (one.object == number));
          stays = λ index one at apart. stays_by index one (one.object == number) refl at apart;
          known = λ index one at.
              let before = got_mapped change later.objects index one at in
              known_by index before.0 one (before.0.object == number) before.1 before.2;
          looser = λ other apart is. absurd (apart (sym (same_value is)));
          awaited = λ other is. absurd cc;
          own_object = λ is. own_object;
          own_function = λ is. absurd (let h : true ≡ false = sym is ∙ is_object in cc);
          apart = λ is. absurd (let h : true ≡ false = sym is ∙ is_object in cc);
        })
      where
        told_by : (index : ℕ) (one : CMention) → slice_get later.mentions index ≡ Some one → (same : Bool) → bytes_eq one.name name ≡ same → (one.name ≡ name → new.is_function ≡ true) → slice_get mentions index ≡ Some one
        told_by index one is true e other = absurd (let h : true ≡ false = sym (other ((bytes_eq-Decides one.name name).0 e)) ∙ is_object in cc)
        told_by index one is false e other = told.others index one is (λ same. let h : false ≡ true = sym e ∙ (bytes_eq-Decides one.name name).1 same in cc)

  -- ---- in a program

  module _ (home : CHome) (backs : Backs home opens (new_scope behind.unit) behind) (early : IsHeldAt home scope.declared) where
    backs_objects : Backs home opens (new_scope later.unit) with_objects
    backs_objects = record {
      unit_is = backs.unit_is;
      grows = backs.grows;
      told = backs.told;
      told_is = backs.told_is;
      mentions = λ index one from is none. backs.mentions index one from (told.used index one is none) none;
      literals = backs.literals;
      objects = backs.objects;
      things = backs.things;
      statics = backs.statics;
    }

    backs_later : Backs home opens (new_scope later.unit) later
    backs_later = backs_earlier opens home (new_scope later.unit) later with_objects backs_objects (steps_on opens later with_thing with_objects thing_steps object_steps)

    backs_middle : Backs home opens middle later
    backs_middle = backs_between opens home middle later init_steps backs_later

    held_middle : IsHeldAt home middle.declared
    held_middle =
        one_more_held home name (an_object number type is_register linkage) scope.declared middle.declared begun.declared_is early
        (object_held home opens middle later backs_middle name number type linkage (thing_on opens middle later init_steps.declares.grows init_steps.things name number type linkage false (begun.linked linked)) linked is_register)

    pub init_serves : AreIn home.scope (literals_since middle later) → Serves home opens middle later
    init_serves inside = serves_of home opens middle later backs_middle stays.defined held_middle inside

    pub held_behind : IsHeldAt home behind.declared
    held_behind other found is = by_case (redeclared_means name other full later.declared found is)
      where
        by_case : (ordinary other later.declared ≡ Some found) ⊎ IsRetyped name other full (ordinary other later.declared) found → IsHeld home other found
        by_case (inl at) = all_on home middle later passes.declared held_middle other found at
        by_case (inr at) =
            subst (IsHeld home other) (sym (retyped_is other found at))
            (subst (λ o. IsHeld home o (an_object number full is_register linkage)) at.name_is
            (object_held home opens scope behind (backs_between opens home scope behind behind_steps backs) name number full linkage own_thing_of linked is_register))

  module _ (own_static : (home : CHome) → Serves home opens middle later → IsStatic (home_of home.program home.mentions home.unit) full puts)
      (filled_middle : (home : CHome) → AreFilled home scope.objects → AreFilled home middle.objects) where
    object_filled : (home : CHome) → Serves home opens middle later → (index : ℕ) (before : CObject) (same : Bool) → (before.object == number) ≡ same → slice_get later.objects index ≡ Some before
        → IfSome before.puts (IsFilled home before) → IfSome (if same then stored_in true full puts before else before).puts (IsFilled home (if same then stored_in true full puts before else before))
    object_filled home serves index before true e at was = own_static home serves
    object_filled home serves index before false e at was = was

    pub content_typed : AreTypedUpTo opens scope → AreTypedUpTo opens behind
    content_typed held home all =
        let was = held home (holds_earlier opens home scope behind all behind_steps) in
        let serves = init_serves home all.backs was.held (since_in home.scope (length middle.literals) later.literals all.literals_inside) in
        record {
          held = held_behind home all.backs was.held;
          literals = literals_typed home middle later passes.literals (λ index one is. was.literals index one (subst (λ made. slice_get made index ≡ Some one) begun.literals_are is))
              (λ index one from is. made.typed home serves index one from is);
          objects = λ index one is.
              let before = got_mapped change later.objects index one is in
              subst (λ (x : CObject). IfSome x.puts (IsFilled home x)) before.2
              (object_filled home serves index before.0 (before.0.object == number) refl before.1
              (filled_middle home was.objects index before.0 (subst (λ objects. slice_get objects index ≡ Some before.0) (ap {A = CRest} (λ rest. rest.objects) stays.rest_is) before.1)));
          functions = λ index one is. was.functions index one (subst (λ functions. slice_get functions index ≡ Some one) behind_steps.functions_are is);
        }
