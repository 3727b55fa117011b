-- A declarator ends, and its name is in scope (ISO C99, 6.2.1p7).
use Rattle.std.proofs.Common.{◌≡◌, ℕ, Bool, true, false, if◌then◌else◌, List, ◌∷◌, length, Option, None, Some, refl, sym, ap, ◌∙◌, subst}
use Rattle.std.specs.Prelude.{IsSome, IfSome}
use Rattle.cx_core.specs.declared.program.Linkage.{Linkage}
use Rattle.cx_core.specs.declared.program.Linkage.TheVariants.{External, Internal, Nothing}
use Rattle.cx_core.specs.Linked.{IsDeclaredForm}
use Rattle.cx_core.specs.Trees.{CTy, ty, void, basic, enum_type, pointer, array, record_type, function, form_of_type, CPuts, CMention}
use Rattle.cx_rules.specs.Declare.{is_linked, thing_named, joined_with}
use Rattle.cx_rules.specs.Scope.{CMeant, an_object, a_function, a_type_name, an_enumerator, a_tag, CThing, CScope, ordinary, tag, is_ordinary, with_declared, with_mention}
use Rattle.cx_rules.specs.Types.{is_function, compatible, composite}
use Rattle.cx_typed.specs.Names.{IsKnownMeant, IsKnownTag, IsFunctionForm}
use Rattle.cx_typed.specs.Sound.{AreSound}
use Rattle.cx_typed.specs.Operands.{IsKnownType}
use Rattle.cx_typed.specs.Walked.{IsGood}
use Rattle.cx_typed_units.proofs.Entities.{new_object, linked_object, linked_function, linked_number, GoesWith, object_declared, function_declared, composite_function}
use Rattle.cx_typed_units.proofs.Joins.{earlier_goes, fills_itself, fills_first, fills_agree, joined_type, composite_known}
use Rattle.cx_typed_units.proofs.Steps.{IsLinkedName, good_declared, declared_leads, mention_leads, with_next_object, next_leads}
use Rattle.cx_typed_units.proofs.Stretches.{Steps, steps_itself, steps_on}
use Rattle.cx_typed_units.specs.Fills.{Fills}
use Rattle.cx_typed_units.specs.Stretches.{IsThing, IsThingOf, IsOrderly, IsCovered}

-- ---- the type beside the visible declaration (6.2.7p4)

pub record IsJoined (opens : List ℕ) (scope : CScope) (name : List ℕ) (written type : CTy) : Type 0 where
  pub known : IsKnownType opens scope.types scope.unit type
  pub goes : (one : CThing) → thing_named name scope.things ≡ Some one → compatible scope.types written one.type ≡ true → compatible scope.types type one.type ≡ true
  pub form : is_function type ≡ is_function written
  pub fills : Fills opens scope.types written type

thing_there : (P : CThing → Type 0) (found : Option CThing) → IsSome found × IfSome found P → (one : CThing) × (found ≡ Some one) × P one
thing_there P None held = absurd (let h : false ≡ true = held.0 in cc)
thing_there P (Some one) held = (one, refl, held.1)

module _ (opens : List ℕ) (scope : CScope) (good : IsGood opens scope) (orderly : IsOrderly opens scope) (name : List ℕ) (written : CTy) (known : IsKnownType opens scope.types scope.unit written)
    (goes : (one : CThing) → thing_named name scope.things ≡ Some one → compatible scope.types written one.type ≡ true) where
  as_written : IsJoined opens scope name written written
  as_written = record { known = known; goes = λ one is same. same; form = refl; fills = fills_itself opens scope.types scope.unit written }

  -- beside what is visible
  beside : (number : ℕ) (type : CTy) (linkage : Linkage) (is_fun : Bool) → IsKnownType opens scope.types scope.unit type → IsThingOf opens scope name number type linkage is_fun
      → IsJoined opens scope name written (composite written type)
  beside number type linkage is_fun visible thing =
      let there = thing_there (IsThing opens scope.types number type linkage is_fun) (thing_named name scope.things) thing in
      let same = goes there.0 there.1 in
      let both_go = earlier_goes opens scope.types scope.unit type there.0.type written there.2.fills same in
      record {
        known = composite_known opens scope.types scope.unit written type known visible both_go;
        goes = λ one is written_goes.
            let one_is : there.0 ≡ one = some_same there.0 one (sym there.1 ∙ is) in
            joined_type scope.types scope.unit written type one.type known.type_in visible.type_in both_go written_goes
            (subst (λ (x : CThing). compatible scope.types type x.type ≡ true) one_is (fills_agree opens scope.types scope.unit type there.0.type there.2.fills));
        form = composite_function written type;
        fills = fills_first opens scope.types scope.unit written type known visible both_go;
      }
    where
      some_same : (one other : CThing) → Some one ≡ Some other → one ≡ other
      some_same one other is = cc

  joined_by : (before : Option CMeant) → ordinary name scope.declared ≡ before → IsJoined opens scope name written (joined_with written before)
  joined_by (Some (an_object number type is_register External)) is =
      beside number type External false (good.known name _ is).0 (orderly.objects name number type is_register External is refl)
  joined_by (Some (an_object number type is_register Internal)) is =
      beside number type Internal false (good.known name _ is).0 (orderly.objects name number type is_register Internal is refl)
  joined_by (Some (an_object number type is_register Nothing)) is = as_written
  joined_by (Some (a_function number type linkage)) is = beside number type linkage true (good.known name _ is).0 (orderly.functions name number type linkage is).1
  joined_by (Some (a_type_name type)) is = as_written
  joined_by (Some (an_enumerator value)) is = as_written
  joined_by (Some (a_tag is_record is_open number)) is = as_written
  joined_by None is = as_written

  pub joined_is : IsJoined opens scope name written (joined_with written (ordinary name scope.declared))
  joined_is = joined_by (ordinary name scope.declared) refl

-- ---- what comes into scope

pub function_form : (type : CTy) → is_function type ≡ true → IsFunctionForm (form_of_type type)
function_form (ty (function result params variadic) is_const) is = tt
function_form (ty void is_const) is = absurd cc
function_form (ty (basic which) is_const) is = absurd cc
function_form (ty (enum_type number) is_const) is = absurd cc
function_form (ty (pointer to) is_const) is = absurd cc
function_form (ty (array element length) is_const) is = absurd cc
function_form (ty (record_type number) is_const) is = absurd cc

pub record IsBegunAs (opens : List ℕ) (before : CScope) (name : List ℕ) (meant : CMeant) (after : CScope) : Type 0 where
  pub good : IsGood opens after
  pub leads : Steps opens before after
  pub body_is : after.body ≡ before.body
  pub declared_is : after.declared ≡ record { name = name; meant = meant } ∷ before.declared
  pub linked : IsLinkedName opens after name meant
  pub types_are : after.types ≡ before.types
  pub literals_are : after.literals ≡ before.literals

linked_same : (opens : List ℕ) (few many : CScope) (name : List ℕ) (meant : CMeant) → many.things ≡ few.things → many.types ≡ few.types → IsLinkedName opens few name meant
    → IsLinkedName opens many name meant
linked_same opens few many name (an_object number type is_register linkage) things_are types_are held = λ linked.
    subst (λ types. IsSome (thing_named name many.things) × IfSome (thing_named name many.things) (IsThing opens types number type linkage false)) (sym types_are)
    (subst (λ things. IsSome (thing_named name things) × IfSome (thing_named name things) (IsThing opens few.types number type linkage false)) (sym things_are) (held linked))
linked_same opens few many name (a_function number type linkage) things_are types_are held = (
  held.0,
  subst (λ types. IsSome (thing_named name many.things) × IfSome (thing_named name many.things) (IsThing opens types number type linkage true)) (sym types_are)
      (subst (λ things. IsSome (thing_named name things) × IfSome (thing_named name things) (IsThing opens few.types number type linkage true)) (sym things_are) held.1),
)
linked_same opens few many name (a_type_name type) things_are types_are held = tt
linked_same opens few many name (an_enumerator value) things_are types_are held = tt
linked_same opens few many name (a_tag is_record is_open number) things_are types_are held = tt

-- the entity that is declared, before its name is in scope
pub record IsEntity (opens : List ℕ) (before : CScope) (name : List ℕ) (meant : CMeant) (middle : CScope) : Type 0 where
  pub leads : Steps opens before middle
  pub types_are : middle.types ≡ before.types
  pub unit_is : middle.unit ≡ before.unit
  pub declared_are : middle.declared ≡ before.declared
  pub body_is : middle.body ≡ before.body
  pub literals_are : middle.literals ≡ before.literals
  pub known : IsKnownMeant opens before.types before.unit meant
  pub linked : IsLinkedName opens middle name meant

module _ (opens : List ℕ) (before : CScope) (good : IsGood opens before) (name : List ℕ) (meant : CMeant) (plain : is_ordinary meant ≡ true) (middle : CScope)
    (entity : IsEntity opens before name meant middle) where
  middle_good : IsGood opens middle
  middle_good = record {
    sound = subst (λ types. AreSound opens types middle.unit) (sym entity.types_are) (subst (λ unit. AreSound opens before.types unit) (sym entity.unit_is) good.sound);
    known = λ other found is.
        subst (λ types. IsKnownMeant opens types middle.unit found) (sym entity.types_are)
        (subst (λ unit. IsKnownMeant opens before.types unit found) (sym entity.unit_is) (good.known other found (ap (ordinary other) (sym entity.declared_are) ∙ is)));
    tags = λ other one is.
        subst (λ types. IsKnownTag opens types middle.unit other one) (sym entity.types_are)
        (subst (λ unit. IsKnownTag opens before.types unit other one) (sym entity.unit_is) (good.tags other one (ap (tag other) (sym entity.declared_are) ∙ is)));
  }

  middle_known : IsKnownMeant opens middle.types middle.unit meant
  middle_known =
      subst (λ types. IsKnownMeant opens types middle.unit meant) (sym entity.types_are) (subst (λ unit. IsKnownMeant opens before.types unit meant) (sym entity.unit_is) entity.known)

  good_told : (mention : CMention) → IsGood opens (with_mention mention middle)
  good_told mention = record { sound = middle_good.sound; known = middle_good.known; tags = middle_good.tags }

  pub named_as : (told : Bool) (mention : CMention) → (told ≡ true → IsCovered opens middle.types middle.things mention)
      → IsBegunAs opens before name meant (with_declared name meant (if told then with_mention mention middle else middle))
  named_as true mention covered = record {
    good = good_declared opens (with_mention mention middle) name meant plain (good_told mention) middle_known;
    leads = steps_on opens before (with_mention mention middle) _ (steps_on opens before middle (with_mention mention middle) entity.leads (mention_leads opens middle mention (covered refl)))
        (declared_leads opens (with_mention mention middle) name meant (linked_same opens middle (with_mention mention middle) name meant refl refl entity.linked));
    body_is = entity.body_is;
    declared_is = ap (λ declared. record { name = name; meant = meant } ∷ declared) entity.declared_are;
    linked = linked_same opens middle (with_declared name meant (with_mention mention middle)) name meant refl refl entity.linked;
    types_are = entity.types_are;
    literals_are = entity.literals_are;
  }
  named_as false mention covered = record {
    good = good_declared opens middle name meant plain middle_good middle_known;
    leads = steps_on opens before middle _ entity.leads (declared_leads opens middle name meant entity.linked);
    body_is = entity.body_is;
    declared_is = ap (λ declared. record { name = name; meant = meant } ∷ declared) entity.declared_are;
    linked = linked_same opens middle (with_declared name meant middle) name meant refl refl entity.linked;
    types_are = entity.types_are;
    literals_are = entity.literals_are;
  }

-- ---- kinds of declarations

module _ (opens : List ℕ) (scope : CScope) (name : List ℕ) (type : CTy) (known : IsKnownType opens scope.types scope.unit type) where
  pub typedef_entity : IsEntity opens scope name (a_type_name type) scope
  typedef_entity = record {
    leads = steps_itself opens scope;
    types_are = refl;
    unit_is = refl;
    declared_are = refl;
    body_is = refl;
    literals_are = refl;
    known = known;
    linked = tt;
  }

  pub own_entity : (puts : Option CPuts) (is_register : Bool) → IsDeclaredForm Nothing (form_of_type type)
      → IsEntity opens scope name (an_object scope.next_object type is_register Nothing) (with_next_object (new_object scope name type Nothing puts) scope)
  own_entity puts is_register form = record {
    leads = next_leads opens scope (new_object scope name type Nothing puts) refl;
    types_are = refl;
    unit_is = refl;
    declared_are = refl;
    body_is = refl;
    literals_are = refl;
    known = (known, form);
    linked = λ linked. absurd (let h : false ≡ true = linked in cc);
  }

  module _ (orderly : IsOrderly opens scope) (linkage : Linkage) (linked : is_linked linkage ≡ true) (goes : IfSome (thing_named name scope.things) (GoesWith scope.types type linkage)) where
    pub object_entity : is_function type ≡ false → IsDeclaredForm linkage (form_of_type type) → (is_register has_content : Bool) (tentative : Option ℕ)
        → IsEntity opens scope name (an_object (linked_number scope.next_object (thing_named name scope.things)) type is_register linkage)
        (linked_object name type linkage has_content tentative (thing_named name scope.things) scope)
    object_entity no_function form is_register has_content tentative =
        let made = object_declared opens scope orderly name type known linkage linked no_function has_content tentative (thing_named name scope.things) refl goes in
        record {
          leads = made.leads;
          types_are = made.types_are;
          unit_is = made.unit_is;
          declared_are = made.declared_are;
          body_is = made.body_is;
          literals_are = made.literals_are;
          known = (known, form);
          linked = λ linked. made.thing;
        }

    pub function_entity : is_function type ≡ true → (has_body : Bool)
        → IsEntity opens scope name (a_function (linked_number scope.next_function (thing_named name scope.things)) type linkage)
        (linked_function name type linkage has_body (thing_named name scope.things) scope)
    function_entity is_fun has_body =
        let made = function_declared opens scope orderly name type known linkage linked is_fun has_body (thing_named name scope.things) refl goes in
        record {
          leads = made.leads;
          types_are = made.types_are;
          unit_is = made.unit_is;
          declared_are = made.declared_are;
          body_is = made.body_is;
          literals_are = made.literals_are;
          known = (known, function_form type is_fun);
          linked = (linked, made.thing);
        }
