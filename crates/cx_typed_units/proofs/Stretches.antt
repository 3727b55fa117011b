-- Stretches of statements one behind another.
use Rattle.std.proofs.Common.{◌≡◌, inl, inr, ℕ, ◌≤◌, ◌<◌, Bool, true, false, not, ◌&&◌, ◌||◌, List, [], ◌∷◌, ◌++◌, length, Option, None, Some, is_some, slice_get, refl, sym, ap, ◌∙◌, subst, arith}
use Rattle.std.specs.Prelude.{IsSome, IfSome}
use Rattle.cx_core.specs.declared.program.Linkage.{Linkage}
use Rattle.cx_core.specs.declared.program.Linkage.TheVariants.{External, Internal, Nothing}
use Rattle.cx_core.specs.Trees.{CTy, CTypes, CObject, CProgram, CMention}
use Rattle.cx_core.specs.Typing.{CHome, CCallee, object_with, callee_with}
use Rattle.cx_rules.specs.Declare.{thing_named}
use Rattle.cx_rules.specs.Pieces.{is_static_object}
use Rattle.cx_rules.specs.Scope.{CMeant, an_object, a_function, a_type_name, an_enumerator, a_tag, CThing, CScope, new_scope, ordinary}
use Rattle.cx_typed.proofs.Numbered.{statics_stay}
use Rattle.cx_typed.proofs.Scopes.{longer, grows_not, grows_on}
use Rattle.cx_typed.proofs.Walked.{known_stays}
use Rattle.cx_typed.specs.Growth.{Grows}
use Rattle.cx_typed.specs.Operands.{IsKnownType}
use Rattle.cx_typed.specs.Scopes.{Passes, CRest as TypedRest}
use Rattle.cx_typed_units.proofs.Covering.{covers_itself, covers_through}
use Rattle.cx_typed_units.proofs.RestNodes.{StaysTo}
use Rattle.cx_typed_units.specs.Rest.{CRest, is_defining, linked_type, IsSaid}
use Rattle.cx_typed_units.specs.Account.{account_of, IsAccounted}
use Rattle.cx_typed_units.specs.Fills.{Fills}
use Rattle.cx_typed_units.specs.Stretches.{IsSameThing, IsKept, IsThing, IsThingOf, IsOrderly, IsDefinedAs, IsCovered, AreCovered, Continues, Leads, DeclaresNone, IsLinkedObject, IsLinkedFunction, IsLinkedBy, Backs, HoldsAll, AreTypedUpTo}

-- what an expression leaves as it is, as expressions say it
abbrev typed_rest : CRest → TypedRest
typed_rest one = record {
  in_function = one.in_function;
  next_function = one.next_function;
  objects = one.objects;
  functions = one.functions;
  things = one.things;
  body = one.body;
}

pub if_some : {X : Type 0} (P Q : X → Type 0) (found : Option X) → ((x : X) → P x → Q x) → IfSome found P → IfSome found Q
if_some P Q None each held = held
if_some P Q (Some x) each held = each x held

joined : {X : Type 0} (xs ys zs : List X) → xs ++ (ys ++ zs) ≡ (xs ++ ys) ++ zs
joined [] ys zs = refl
joined (first ∷ xs) ys zs = ap (λ others. first ∷ others) (joined xs ys zs)

-- a definition stays
or_second : (a b : Bool) → b ≡ true → (a || b) ≡ true
or_second true b is = refl
or_second false b is = is

definition_stays : (defined code tentative later later_code later_tentative : Bool) → (defined ≡ true → later ≡ true) → later_code ≡ code → (tentative ≡ true → later_tentative ≡ true)
    → (defined || (not code && tentative)) ≡ true → (later || (not later_code && later_tentative)) ≡ true
definition_stays true code tentative later later_code later_tentative stays same kept is = ap (λ b. b || (not later_code && later_tentative)) (stays refl)
definition_stays false true tentative later later_code later_tentative stays same kept is = absurd cc
definition_stays false false tentative later later_code later_tentative stays same kept is =
    or_second later (not later_code && later_tentative) (ap (λ b. not b && later_tentative) same ∙ kept is)

-- a place in a block with these objects
abbrev pub home_in : List ℕ → CHome → CHome
home_in objects home = record home { scope = objects ++ home.scope }

-- ---- what is declared

-- what a step of a declaration does to a scope: as `Leads`, but for what the unit keeps account of, which is right again behind the declaration
pub record Steps (opens : List ℕ) (before after : CScope) : Type 0 where
  pub declares : Continues opens before after
  pub begins_is : after.begins ≡ before.begins
  pub in_function_is : after.in_function ≡ before.in_function
  pub objects_more : length before.objects ≤ length after.objects
  pub objects : (number : ℕ) (one : CObject) → one.linkage ≡ Nothing → slice_get before.objects number ≡ Some one → slice_get after.objects number ≡ Some one
  pub things : (name : List ℕ) (one : CThing) → thing_named name before.things ≡ Some one → IsKept opens after.types one (thing_named name after.things)
  pub orderly : IsOrderly opens before → IsOrderly opens after
  pub covered : IsOrderly opens before → AreCovered opens before → AreCovered opens after
  pub functions_are : after.functions ≡ before.functions
  pub statics : (number : ℕ) → is_static_object before number ≡ true → is_static_object after number ≡ true

module _ (opens : List ℕ) where
  pub declares_itself : (scope : CScope) → Continues opens scope scope
  declares_itself scope = record {
    unit_is = refl;
    grows = grows_not opens scope.types;
    mentions = λ number x is. is;
    literals = λ number x is. is;
    front = [];
    declared_is = refl;
  }

  pub passes_declare : (before after : CScope) → Passes opens before after → Continues opens before after
  passes_declare before after passes = record {
    unit_is = passes.unit_is;
    grows = passes.grows;
    mentions = passes.mentions;
    literals = passes.literals;
    front = passes.front;
    declared_is = passes.declared_is;
  }

  pub declares_on : (before middle after : CScope) → Continues opens before middle → Continues opens middle after → Continues opens before after
  declares_on before middle after one other = record {
    unit_is = other.unit_is ∙ one.unit_is;
    grows = grows_on opens before.types middle.types after.types one.grows other.grows;
    mentions = λ number x is. other.mentions number x (one.mentions number x is);
    literals = λ number x is. other.literals number x (one.literals number x is);
    front = other.front ++ one.front;
    declared_is = other.declared_is ∙ (ap (λ declared. other.front ++ declared) one.declared_is ∙ joined other.front one.front before.declared);
  }

  -- ---- names with linkage

  pub kept_is : (types : CTypes) (one other : CThing) (found : Option CThing) → found ≡ Some other → IsSameThing opens types one other → IsKept opens types one found
  kept_is types one other found is same = subst (IsKept opens types one) (sym is) (refl, same)

  pub found_kept : (types : CTypes) (one : CThing) (found : Option CThing) → IsKept opens types one found → (other : CThing) × (found ≡ Some other) × IsSameThing opens types one other
  found_kept types one None held = absurd (let h : false ≡ true = held.0 in cc)
  found_kept types one (Some other) held = (other, refl, held.1)

  pub same_itself : (types : CTypes) (one : CThing) → IsSameThing opens types one one
  same_itself types one = record { number_is = refl; linkage_is = refl; function_is = refl; fills = λ now grows. covers_itself now one.type; defined = λ is. is; tentative = λ is. is }

  same_on : (middle after : CTypes) (one two three : CThing) → Grows opens middle after → IsSameThing opens middle one two → IsSameThing opens after two three → IsSameThing opens after one three
  same_on middle after one two three growth first second = record {
    number_is = second.number_is ∙ first.number_is;
    linkage_is = second.linkage_is ∙ first.linkage_is;
    function_is = second.function_is ∙ first.function_is;
    fills = λ now grows. covers_through now three.type two.type one.type (second.fills now grows) (first.fills now (grows_on opens middle after now growth grows));
    defined = λ is. second.defined (first.defined is);
    tentative = λ is. second.tentative (first.tentative is);
  }

  defined_later : (types : CTypes) (one other : CThing) (mention : CMention) → IsSameThing opens types one other → IsDefinedAs one mention → IsDefinedAs other mention
  defined_later types one other mention same held = record {
    linkage_is = same.linkage_is ∙ held.linkage_is;
    defined =
        definition_stays one.is_defined one.is_function (is_some one.tentative) other.is_defined other.is_function (is_some other.tentative) same.defined same.function_is same.tentative held.defined;
  }

  -- what the unit has of a name says no less later
  pub covered_stays : (few many : CTypes) (things later : List CThing) → Grows opens few many
      → ((name : List ℕ) (one : CThing) → thing_named name things ≡ Some one → IsKept opens many one (thing_named name later)) → (one : CMention) → IsCovered opens few things one → IsCovered opens many later one
  covered_stays few many things later growth kept one held =
      let there = found_kept many held.thing (thing_named one.name later) (kept one.name held.thing held.there) in
      record {
        thing = there.0;
        there = there.1;
        fills = λ now grows. covers_through now there.0.type held.thing.type one.type (there.2.fills now grows) (held.fills now (grows_on opens few many now growth grows));
        defined = λ is. defined_later many held.thing there.0 one there.2 (held.defined is);
      }

  -- ---- stretches

  pub steps_itself : (scope : CScope) → Steps opens scope scope
  steps_itself scope = record {
    declares = declares_itself scope;
    begins_is = refl;
    in_function_is = refl;
    functions_are = refl;
    objects_more = omega arith;
    objects = λ number one nothing is. is;
    things = λ name one is. kept_is scope.types one one (thing_named name scope.things) is (same_itself scope.types one);
    orderly = λ held. held;
    covered = λ orderly held. held;
    statics = λ number is. is;
  }

  things_on : (before middle after : CScope) → Steps opens before middle → Steps opens middle after → (name : List ℕ) (one : CThing) → thing_named name before.things ≡ Some one
      → IsKept opens after.types one (thing_named name after.things)
  things_on before middle after first second name one is =
      let here = found_kept middle.types one (thing_named name middle.things) (first.things name one is) in
      let there = found_kept after.types here.0 (thing_named name after.things) (second.things name here.0 here.1) in
      kept_is after.types one there.0 (thing_named name after.things) there.1 (same_on middle.types after.types one here.0 there.0 second.declares.grows here.2 there.2)

  pub steps_on : (before middle after : CScope) → Steps opens before middle → Steps opens middle after → Steps opens before after
  steps_on before middle after first second = record {
    declares = declares_on before middle after first.declares second.declares;
    begins_is = second.begins_is ∙ first.begins_is;
    in_function_is = second.in_function_is ∙ first.in_function_is;
    functions_are = second.functions_are ∙ first.functions_are;
    objects_more = omega (arith, first.objects_more, second.objects_more);
    objects = λ number one nothing is. second.objects number one nothing (first.objects number one nothing is);
    things = things_on before middle after first second;
    orderly = λ held. second.orderly (first.orderly held);
    covered = λ orderly held. second.covered (first.orderly orderly) (first.covered orderly held);
    statics = λ number is. second.statics number (first.statics number is);
  }

  pub steps_of : (before after : CScope) → Leads opens before after → Steps opens before after
  steps_of before after leads = record {
    declares = leads.declares;
    begins_is = leads.begins_is;
    in_function_is = leads.in_function_is;
    functions_are = leads.functions_are;
    objects_more = leads.objects_more;
    objects = leads.objects;
    things = leads.things;
    orderly = leads.orderly;
    covered = leads.covered;
    statics = leads.statics;
  }

  pub leads_by : (before after : CScope) → Steps opens before after
      → ((pending : Option (List ℕ)) → IsAccounted opens pending (account_of before) → IsAccounted opens pending (account_of after))
      → ((pending : Option (List ℕ)) → IsAccounted opens pending (account_of before) → AreTypedUpTo opens before → AreTypedUpTo opens after) → Leads opens before after
  leads_by before after steps keeps typed = record {
    declares = steps.declares;
    begins_is = steps.begins_is;
    in_function_is = steps.in_function_is;
    functions_are = steps.functions_are;
    objects_more = steps.objects_more;
    objects = steps.objects;
    things = steps.things;
    orderly = steps.orderly;
    covered = steps.covered;
    statics = steps.statics;
    keeps = keeps;
    typed = typed;
  }

  pub leads_itself : (scope : CScope) → Leads opens scope scope
  leads_itself scope = leads_by scope scope (steps_itself scope) (λ pending held. held) (λ pending account held. held)

  pub leads_on : (before middle after : CScope) → Leads opens before middle → Leads opens middle after → Leads opens before after
  leads_on before middle after first second =
      leads_by before after (steps_on before middle after (steps_of before middle first) (steps_of middle after second)) (λ pending held. second.keeps pending (first.keeps pending held))
      (λ pending account held. second.typed pending (first.keeps pending account) (first.typed pending account held))

  -- ---- names with linkage in a later scope

  thing_later : (few many : CTypes) (number : ℕ) (type : CTy) (linkage : Linkage) (is_function : Bool) (one other : CThing) → Grows opens few many → IsThing opens few number type linkage is_function one
      → IsSameThing opens many one other → IsThing opens many number type linkage is_function other
  thing_later few many number type linkage is_function one other growth held same = record {
    number_is = same.number_is ∙ held.number_is;
    linkage_is = same.linkage_is ∙ held.linkage_is;
    function_is = same.function_is ∙ held.function_is;
    fills = λ now grows. covers_through now other.type one.type type (same.fills now grows) (held.fills now (grows_on opens few many now growth grows));
  }

  found_by : (P Q : CThing → Type 0) (few many : Option CThing) → IsSome few × IfSome few P → ((one : CThing) → few ≡ Some one → IsSome many × IfSome many (λ other. P one → Q other))
      → IsSome many × IfSome many Q
  found_by P Q None many held later = absurd (let h : false ≡ true = held.0 in cc)
  found_by P Q (Some one) None held later = absurd (let h : false ≡ true = (later one refl).0 in cc)
  found_by P Q (Some one) (Some other) held later = (refl, (later one refl).1 held.1)

  -- what stands for a declared name does so later
  pub thing_on : (before after : CScope) → Grows opens before.types after.types
      → ((name : List ℕ) (one : CThing) → thing_named name before.things ≡ Some one → IsKept opens after.types one (thing_named name after.things))
      → (name : List ℕ) (number : ℕ) (type : CTy) (linkage : Linkage) (is_function : Bool) → IsThingOf opens before name number type linkage is_function
      → IsThingOf opens after name number type linkage is_function
  thing_on before after growth kept name number type linkage is_function held =
      found_by (IsThing opens before.types number type linkage is_function) (IsThing opens after.types number type linkage is_function) (thing_named name before.things) (thing_named name after.things) held
      (λ one is.
      let there = kept name one is in (
        there.0,
        if_some (IsSameThing opens after.types one) _ (thing_named name after.things)
            (λ other same was. thing_later before.types after.types number type linkage is_function one other growth was same) there.1,
      ))

  -- behind an expression, a type or an initialiser
  module _ (before after : CScope) (declares : Continues opens before after) (none : DeclaresNone before after) (stays : StaysTo before after) where
    rest_things : (name : List ℕ) (one : CThing) → thing_named name before.things ≡ Some one → IsKept opens after.types one (thing_named name after.things)
    rest_things name one is =
        kept_is after.types one one (thing_named name after.things) (subst (λ (other : CRest). thing_named name other.things ≡ Some one) (sym stays.rest_is) is) (same_itself after.types one)

    objects_are : after.objects ≡ before.objects
    objects_are = ap {A = CRest} (λ one. one.objects) stays.rest_is

    things_are : after.things ≡ before.things
    things_are = ap {A = CRest} (λ one. one.things) stays.rest_is

    rest_orderly : IsOrderly opens before → IsOrderly opens after
    rest_orderly held = record {
      objects = λ name number type is_register linkage is linked.
          thing_on before after declares.grows rest_things name number type linkage false (held.objects name number type is_register linkage (none name _ refl is) linked);
      functions = λ name number type linkage is.
          let was = held.functions name number type linkage (none name _ refl is) in (was.0, thing_on before after declares.grows rest_things name number type linkage true was.1);
      things = λ name one is.
          let was = held.things name one (subst (λ things. thing_named name things ≡ Some one) things_are is) in
          record {
            known = subst (λ unit. IsKnownType opens after.types unit one.type) (sym declares.unit_is) (known_stays opens before.types after.types declares.grows before.unit one.type was.known);
            linked = was.linked;
            function_is = was.function_is;
            below = λ object. let h : one.number < before.next_object = was.below object in omega (arith, h, stays.more);
            own = λ object index found at same. was.own object index found (subst (λ objects. slice_get objects index ≡ Some found) objects_are at) same;
          };
      numbers = λ index object at.
          let h : object.object < before.next_object = held.numbers index object (subst (λ objects. slice_get objects index ≡ Some object) objects_are at) in omega (arith, h, stays.more);
    }

    found_covered : (name : List ℕ) (number : ℕ) (type : CTy) (linkage : Linkage) (is_function : Bool) (found : Option CThing) → thing_named name before.things ≡ found
        → IsSome found × IfSome found (IsThing opens before.types number type linkage is_function) → (thing : CThing) × (thing_named name before.things ≡ Some thing) × Fills opens before.types type thing.type
    found_covered name number type linkage is_function None there held = absurd (let h : false ≡ true = held.0 in cc)
    found_covered name number type linkage is_function (Some thing) there held = (thing, there, held.1.fills)

    same_type : {one other : CTy} → Some one ≡ Some other → one ≡ other
    same_type e = cc

    -- the unit has what is visible
    visible_covered : IsOrderly opens before → (name : List ℕ) (type : CTy) (meant : Option CMeant) → ordinary name before.declared ≡ meant → linked_type meant ≡ Some type
        → (thing : CThing) × (thing_named name before.things ≡ Some thing) × Fills opens before.types type thing.type
    visible_covered orderly name type None is seen = absurd cc
    visible_covered orderly name type (Some (an_object number was is_register External)) is seen =
        subst (λ found. (thing : CThing) × (thing_named name before.things ≡ Some thing) × Fills opens before.types found thing.type) (same_type seen)
        (found_covered name number was External false (thing_named name before.things) refl (orderly.objects name number was is_register External is refl))
    visible_covered orderly name type (Some (an_object number was is_register Internal)) is seen = absurd cc
    visible_covered orderly name type (Some (an_object number was is_register Nothing)) is seen = absurd cc
    visible_covered orderly name type (Some (a_function number was linkage)) is seen =
        subst (λ found. (thing : CThing) × (thing_named name before.things ≡ Some thing) × Fills opens before.types found thing.type) (same_type seen)
        (found_covered name number was linkage true (thing_named name before.things) refl (orderly.functions name number was linkage is).1)
    visible_covered orderly name type (Some (a_type_name was)) is seen = absurd cc
    visible_covered orderly name type (Some (an_enumerator value)) is seen = absurd cc
    visible_covered orderly name type (Some (a_tag is_record is_open number)) is seen = absurd cc

    -- nothing is told of as defined that wasn't before
    defined_so : (one : CMention) → (is_defining one.does ≡ true → IsCovered opens before.types before.things one) → (thing : CThing) → thing_named one.name before.things ≡ Some thing
        → is_defining one.does ≡ true → IsDefinedAs thing one
    defined_so one early thing there is =
        let known = early is in subst (λ (x : CThing). IsDefinedAs x one) (same_found (sym known.there ∙ there)) (known.defined is)
      where
        same_found : {x y : CThing} → Some x ≡ Some y → x ≡ y
        same_found e = cc

    said_covered : IsOrderly opens before → AreCovered opens before → (one : CMention) → (is_defining one.does ≡ true → IsCovered opens before.types before.things one)
        → IsSaid before.mentions before.declared one → IsCovered opens before.types before.things one
    said_covered orderly held one defining (inl was) =
        let early = held was.index was.one was.at in
        let there = subst (λ name. thing_named name before.things ≡ Some early.thing) was.name_is early.there in
        record {
          thing = early.thing;
          there = there;
          fills = subst (λ type. Fills opens before.types type early.thing.type) was.type_is early.fills;
          defined = defined_so one defining early.thing there;
        }
    said_covered orderly held one defining (inr seen) =
        let found = visible_covered orderly one.name one.type (ordinary one.name before.declared) refl seen in
        record { thing = found.0; there = found.1; fills = found.2; defined = defined_so one defining found.0 found.1 }

    rest_covered : IsOrderly opens before → AreCovered opens before → AreCovered opens after
    rest_covered orderly held index one at =
        covered_stays before.types after.types before.things after.things declares.grows rest_things one
        (said_covered orderly held one (λ is. held index one (stays.defined index one at is)) (stays.said index one at))

    rest_statics : (number : ℕ) → is_static_object before number ≡ true → is_static_object after number ≡ true
    rest_statics = statics_stay before after declares.literals (ap {A = CRest} {B = TypedRest} typed_rest stays.rest_is)

    pub rest_steps : Steps opens before after
    rest_steps = record {
      declares = declares;
      begins_is = ap {A = CRest} (λ one. one.begins) stays.rest_is;
      in_function_is = ap {A = CRest} (λ one. one.in_function) stays.rest_is;
      functions_are = ap {A = CRest} (λ one. one.functions) stays.rest_is;
      objects_more = subst (λ (one : CRest). length before.objects ≤ length one.objects) (sym stays.rest_is) (omega arith);
      objects = λ number one nothing is. subst (λ (other : CRest). slice_get other.objects number ≡ Some one) (sym stays.rest_is) is;
      things = rest_things;
      orderly = rest_orderly;
      covered = rest_covered;
      statics = rest_statics;
    }

  -- ---- what a program has of them

  module _ (types : CTypes) (program : CProgram) (growth : Grows opens types program.types) (name : List ℕ) (one other : CThing) (same : IsSameThing opens types one other) where
    filled : (earlier : CTy) → Fills opens program.types earlier one.type → Fills opens program.types earlier other.type
    filled earlier first later grows = covers_through later other.type one.type earlier (same.fills later (grows_on opens types program.types later growth grows)) (first later grows)

    object_back : (found : CObject) → IsLinkedObject program.types opens name other found → IsLinkedObject program.types opens name one found
    object_back found held = record {
      linkage_is = held.linkage_is ∙ same.linkage_is;
      named = held.named;
      defined = λ internal. held.defined (same.linkage_is ∙ internal);
      compatible = λ earlier fills. held.compatible earlier (filled earlier fills);
    }

    function_back : (found : CCallee) → IsLinkedFunction program.types opens name other found → IsLinkedFunction program.types opens name one found
    function_back found held = record {
      compatible = λ earlier fills. held.compatible earlier (filled earlier fills);
      outer = if_some _ _ found.outer (λ x is. (is.0, is.1 ∙ same.linkage_is)) held.outer;
    }

    linked_by : (is_function : Bool) → IsLinkedBy is_function program opens name other → IsLinkedBy is_function program opens name one
    linked_by false held =
        subst (λ n. IsSome (object_with n program.objects) × IfSome (object_with n program.objects) (IsLinkedObject program.types opens name one)) same.number_is
        (held.0, if_some _ _ (object_with other.number program.objects) object_back held.1)
    linked_by true held =
        subst (λ n. IsSome (callee_with n program) × IfSome (callee_with n program) (IsLinkedFunction program.types opens name one)) same.number_is
        (held.0, if_some _ _ (callee_with other.number program) function_back held.1)

    linked_back : IsLinkedBy other.is_function program opens name other → IsLinkedBy one.is_function program opens name one
    linked_back held = subst (λ is_function. IsLinkedBy is_function program opens name one) same.function_is (linked_by other.is_function held)

  pub backs_earlier : (home : CHome) (before middle after : CScope) → Backs home opens before after → Steps opens middle after → Backs home opens before middle
  backs_earlier home before middle after backs second = record {
    unit_is = backs.unit_is;
    grows = grows_on opens middle.types after.types home.program.types second.declares.grows backs.grows;
    told = backs.told;
    told_is = backs.told_is;
    mentions = λ number one from is. backs.mentions number one from (second.declares.mentions number one is);
    literals = λ number one from is. backs.literals number one from (second.declares.literals number one is);
    objects = λ number one nothing from is. backs.objects number one nothing from (second.objects number one nothing is);
    things = λ name one is.
        let there = found_kept after.types one (thing_named name after.things) (second.things name one is) in
        linked_back after.types home.program backs.grows name one there.0 there.2 (backs.things name there.0 there.1);
    statics = λ number is. backs.statics number (second.statics number is);
  }

  pub backs_first : (home : CHome) (before middle after : CScope) → Backs home opens before after → Leads opens middle after → Backs home opens before middle
  backs_first home before middle after backs second = backs_earlier home before middle after backs (steps_of middle after second)

  pub backs_second : (home : CHome) (before middle after : CScope) → Backs home opens before after → Leads opens before middle → Backs home opens middle after
  backs_second home before middle after backs first =
      let told_more : length before.mentions ≤ length middle.mentions = longer before.mentions middle.mentions first.declares.mentions in
      let made_more : length before.literals ≤ length middle.literals = longer before.literals middle.literals first.declares.literals in
      record {
        unit_is = backs.unit_is ∙ sym first.declares.unit_is;
        grows = backs.grows;
        told = backs.told;
        told_is = backs.told_is;
        mentions = λ number one from is. backs.mentions number one (omega (arith, told_more, from)) is;
        literals = λ number one from is. backs.literals number one (omega (arith, made_more, from)) is;
        objects = λ number one nothing from is. backs.objects number one nothing (omega (arith, first.objects_more, from)) is;
        things = backs.things;
        statics = backs.statics;
      }

  -- in a block inside
  pub backs_in : (home : CHome) (objects : List ℕ) (before after : CScope) → Backs home opens before after → Backs (home_in objects home) opens before after
  backs_in home objects before after backs = record {
    unit_is = backs.unit_is;
    grows = backs.grows;
    told = backs.told;
    told_is = backs.told_is;
    mentions = backs.mentions;
    literals = backs.literals;
    objects = backs.objects;
    things = backs.things;
    statics = backs.statics;
  }

  -- ---- a program that has all of a unit up to a place

  pub backs_from : (home : CHome) (before after : CScope) → HoldsAll home opens after → Steps opens before after → Backs home opens before after
  backs_from home before after all steps = record {
    unit_is = all.backs.unit_is ∙ steps.declares.unit_is;
    grows = all.backs.grows;
    told = all.backs.told;
    told_is = all.backs.told_is;
    mentions = λ number one from is. all.backs.mentions number one (omega arith) is;
    literals = λ number one from is. all.backs.literals number one (omega arith) is;
    objects = λ number one nothing from is. all.backs.objects number one nothing (omega arith) is;
    things = all.backs.things;
    statics = all.backs.statics;
  }

  -- has all up to each place before it
  pub holds_earlier : (home : CHome) (before after : CScope) → HoldsAll home opens after → Steps opens before after → HoldsAll home opens before
  holds_earlier home before after all steps =
      let backs = backs_earlier home (new_scope after.unit) before after all.backs steps in
      record {
        backs = record {
          unit_is = backs.unit_is ∙ steps.declares.unit_is;
          grows = backs.grows;
          told = backs.told;
          told_is = backs.told_is;
          mentions = backs.mentions;
          literals = backs.literals;
          objects = backs.objects;
          things = backs.things;
          statics = backs.statics;
        };
        objects_inside = λ index one is nothing. all.objects_inside index one (steps.objects index one nothing is) nothing;
        literals_inside = λ index one is. all.literals_inside index one (steps.declares.literals index one is);
      }
