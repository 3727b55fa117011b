-- Scopes inside of others, and labels, in stretches of statements (ISO C99, 6.2.1p4).
use Rattle.std.proofs.Common.{◌≡◌, ℕ, ◌-◌, ◌+◌, ◌<◌, true, false, List, [], ◌∷◌, ◌++◌, length, drop, Option, Some, slice_get, refl, sym, ap, ◌∙◌, subst, length-append, arith}
use Rattle.cx_core.specs.Statements.{CBody, with_objects}
use Rattle.cx_core.specs.Typing.{CHome}
use Rattle.cx_rules.specs.Scope.{CLabels, CDeclared, CThing, CScope, entered, left, ordinary, tag}
use Rattle.cx_rules.specs.UnitWalk.{CWhere}
use Rattle.cx_typed.proofs.Growing.{complete_stays}
use Rattle.cx_typed.proofs.Tags.{meant_stays, tag_stays}
use Rattle.cx_typed.proofs.Walked.{known_stays}
use Rattle.cx_typed.specs.Names.{IsKnownMeant, IsKnownTag}
use Rattle.cx_typed.specs.Operands.{IsKnownType}
use Rattle.cx_typed.specs.Walked.{IsGood}
use Rattle.cx_typed_units.proofs.Stretches.{Steps, thing_on, leads_by, holds_earlier}
use Rattle.cx_typed_units.specs.Statements.{IsPlace, StandsIn}
use Rattle.cx_typed_units.specs.Account.{account_of, IsAccounted}
use Rattle.cx_typed_units.specs.Stretches.{IsKnownThing, IsOrderly, Leads, DeclaresNone, Backs, HoldsAll, AreTypedUpTo}

pub behind_front : (front behind : List CDeclared) → drop (length (front ++ behind) - length behind) (front ++ behind) ≡ behind
behind_front front behind = dropped front behind (length (front ++ behind) - length behind) (count front behind)
  where
    count : (front behind : List CDeclared) → length (front ++ behind) - length behind ≡ length front
    count front behind = let h : length (front ++ behind) ≡ length front + length behind = length-append front behind in omega (arith, h)

    dropped : (front behind : List CDeclared) (n : ℕ) → n ≡ length front → drop n (front ++ behind) ≡ behind
    dropped [] behind n is = ap (λ count. drop count behind) is
    dropped (first ∷ front) behind n is = ap (λ count. drop count (first ∷ (front ++ behind))) is ∙ dropped front behind (length front) refl

-- ---- the same names with linkage

pub known_thing : (opens : List ℕ) (few many : CScope) → many.types ≡ few.types → many.unit ≡ few.unit → many.objects ≡ few.objects → many.next_object ≡ few.next_object
    → (one : CThing) → IsKnownThing opens few one → IsKnownThing opens many one
known_thing opens few many types_are unit_is objects_are next_is one held = record {
  known = subst (λ types. IsKnownType opens types many.unit one.type) (sym types_are) (subst (λ unit. IsKnownType opens few.types unit one.type) (sym unit_is) held.known);
  linked = held.linked;
  function_is = held.function_is;
  below = λ object. subst (λ next. one.number < next) (sym next_is) (held.below object);
  own = λ object index found at same. held.own object index found (subst (λ objects. slice_get objects index ≡ Some found) objects_are at) same;
}

orderly_entered : (opens : List ℕ) (scope : CScope) → IsOrderly opens scope → IsOrderly opens (entered scope)
orderly_entered opens scope held = record {
  objects = held.objects;
  functions = held.functions;
  things = λ name one is. known_thing opens scope (entered scope) refl refl refl refl one (held.things name one is);
  numbers = held.numbers;
}

pub orderly_labels : (opens : List ℕ) (labels : CLabels) (scope : CScope) → IsOrderly opens scope → IsOrderly opens (record scope { body = labels })
orderly_labels opens labels scope held = record {
  objects = held.objects;
  functions = held.functions;
  things = λ name one is. known_thing opens scope (record scope { body = labels }) refl refl refl refl one (held.things name one is);
  numbers = held.numbers;
}

-- ---- what is typed

typed_entered : (opens : List ℕ) (scope : CScope) → AreTypedUpTo opens scope → AreTypedUpTo opens (entered scope)
typed_entered opens scope held home all =
    let was = held home (record {
      backs = record {
        unit_is = all.backs.unit_is;
        grows = all.backs.grows;
        told = all.backs.told;
        told_is = all.backs.told_is;
        mentions = all.backs.mentions;
        literals = all.backs.literals;
        objects = all.backs.objects;
        things = all.backs.things;
        statics = all.backs.statics;
      };
      objects_inside = all.objects_inside;
      literals_inside = all.literals_inside;
    }) in
    record { held = was.held; literals = was.literals; objects = was.objects; functions = was.functions }

typed_labels : (opens : List ℕ) (labels : CLabels) (scope : CScope) → AreTypedUpTo opens scope → AreTypedUpTo opens (record scope { body = labels })
typed_labels opens labels scope held home all =
    let was = held home (record {
      backs = record {
        unit_is = all.backs.unit_is;
        grows = all.backs.grows;
        told = all.backs.told;
        told_is = all.backs.told_is;
        mentions = all.backs.mentions;
        literals = all.backs.literals;
        objects = all.backs.objects;
        things = all.backs.things;
        statics = all.backs.statics;
      };
      objects_inside = all.objects_inside;
      literals_inside = all.literals_inside;
    }) in
    record { held = was.held; literals = was.literals; objects = was.objects; functions = was.functions }

-- ---- a scope inside of another

module _ (opens : List ℕ) (before : CScope) (good : IsGood opens before) (inner : CScope) (leads : Leads opens (entered before) inner) (inner_good : IsGood opens inner) where
  abbrev pub back : CScope
  back = left (length before.declared) before.begins inner

  back_declared : back.declared ≡ before.declared
  back_declared = ap (λ declared. drop (length declared - length before.declared) declared) leads.declares.declared_is ∙ behind_front leads.declares.front before.declared

  back_orderly : IsOrderly opens before → IsOrderly opens back
  back_orderly held =
      let inside = leads.orderly (orderly_entered opens before held) in
      record {
        objects = λ name number type is_register linkage is linked.
            thing_on opens before back leads.declares.grows leads.things name number type linkage false
            (held.objects name number type is_register linkage (ap (ordinary name) (sym back_declared) ∙ is) linked);
        functions = λ name number type linkage is.
            let was = held.functions name number type linkage (ap (ordinary name) (sym back_declared) ∙ is) in (
              was.0,
              thing_on opens before back leads.declares.grows leads.things name number type linkage true was.1,
            );
        things = λ name one is. known_thing opens inner back refl refl refl refl one (inside.things name one is);
        numbers = inside.numbers;
      }

  back_steps : Steps opens before back
  back_steps = record {
    declares = record {
      unit_is = leads.declares.unit_is;
      grows = leads.declares.grows;
      mentions = leads.declares.mentions;
      literals = leads.declares.literals;
      front = [];
      declared_is = back_declared;
    };
    begins_is = refl;
    in_function_is = leads.in_function_is;
    functions_are = leads.functions_are;
    objects_more = leads.objects_more;
    objects = leads.objects;
    things = leads.things;
    orderly = back_orderly;
    covered = λ orderly held. leads.covered (orderly_entered opens before orderly) held;
    statics = leads.statics;
  }

  holds_inner : (home : CHome) → HoldsAll home opens back → HoldsAll home opens inner
  holds_inner home all = record {
    backs = record {
      unit_is = all.backs.unit_is;
      grows = all.backs.grows;
      told = all.backs.told;
      told_is = all.backs.told_is;
      mentions = all.backs.mentions;
      literals = all.backs.literals;
      objects = all.backs.objects;
      things = all.backs.things;
      statics = all.backs.statics;
    };
    objects_inside = all.objects_inside;
    literals_inside = all.literals_inside;
  }

  back_typed : (pending : Option (List ℕ)) → IsAccounted opens pending (account_of before) → AreTypedUpTo opens before → AreTypedUpTo opens back
  back_typed pending account held home all =
      let was = held home (holds_earlier opens home before back all back_steps) in
      let inside = leads.typed pending account (typed_entered opens before held) home (holds_inner home all) in
      record {
        held = λ name meant is. was.held name meant (ap (ordinary name) (sym back_declared) ∙ is);
        literals = inside.literals;
        objects = inside.objects;
        functions = inside.functions;
      }

  pub back_leads : Leads opens before back
  back_leads = leads_by opens before back back_steps leads.keeps back_typed

  pub back_none : DeclaresNone before back
  back_none name meant thing is = ap (ordinary name) (sym back_declared) ∙ is

  pub back_good : IsGood opens back
  back_good = record {
    sound = inner_good.sound;
    known = λ name meant is.
        subst (λ unit. IsKnownMeant opens inner.types unit meant) (sym leads.declares.unit_is)
        (meant_stays opens before.types inner.types leads.declares.grows before.unit meant (good.known name meant (ap (ordinary name) (sym back_declared) ∙ is)));
    tags = λ name one is.
        subst (λ unit. IsKnownTag opens inner.types unit name one) (sym leads.declares.unit_is)
        (tag_stays opens before.types inner.types leads.declares.grows before.unit name one (good.tags name one (ap (tag name) (sym back_declared) ∙ is)));
  }

  pub back_backs : (home : CHome) → Backs home opens before back → Backs home opens (entered before) inner
  back_backs home backs = record {
    unit_is = backs.unit_is;
    grows = backs.grows;
    told = backs.told;
    told_is = backs.told_is;
    mentions = backs.mentions;
    literals = backs.literals;
    objects = backs.objects;
    things = backs.things;
    statics = backs.statics;
  }

abbrev pub with_labels : CLabels → CScope → CScope
with_labels labels scope = record scope { body = labels }

module _ (opens : List ℕ) where
  pub good_entered : (scope : CScope) → IsGood opens scope → IsGood opens (entered scope)
  good_entered scope good = record { sound = good.sound; known = good.known; tags = good.tags }

  -- ---- labels

  pub good_labels : (labels : CLabels) (scope : CScope) → IsGood opens scope → IsGood opens (with_labels labels scope)
  good_labels labels scope good = record { sound = good.sound; known = good.known; tags = good.tags }

  pub leads_labels : (labels : CLabels) (before after : CScope) → Leads opens before after → Leads opens before (with_labels labels after)
  leads_labels labels before after leads = record {
    declares = record {
      unit_is = leads.declares.unit_is;
      grows = leads.declares.grows;
      mentions = leads.declares.mentions;
      literals = leads.declares.literals;
      front = leads.declares.front;
      declared_is = leads.declares.declared_is;
    };
    begins_is = leads.begins_is;
    in_function_is = leads.in_function_is;
    functions_are = leads.functions_are;
    objects_more = leads.objects_more;
    objects = leads.objects;
    things = leads.things;
    orderly = λ held. orderly_labels opens labels after (leads.orderly held);
    covered = leads.covered;
    statics = leads.statics;
    keeps = leads.keeps;
    typed = λ pending account held. typed_labels opens labels after (leads.typed pending account held);
  }

  pub leads_from_labels : (labels : CLabels) (before after : CScope) → Leads opens (with_labels labels before) after → Leads opens before after
  leads_from_labels labels before after leads = record {
    declares = record {
      unit_is = leads.declares.unit_is;
      grows = leads.declares.grows;
      mentions = leads.declares.mentions;
      literals = leads.declares.literals;
      front = leads.declares.front;
      declared_is = leads.declares.declared_is;
    };
    begins_is = leads.begins_is;
    in_function_is = leads.in_function_is;
    functions_are = leads.functions_are;
    objects_more = leads.objects_more;
    objects = leads.objects;
    things = leads.things;
    orderly = λ held. leads.orderly (orderly_labels opens labels before held);
    covered = λ orderly held. leads.covered (orderly_labels opens labels before orderly) held;
    statics = leads.statics;
    keeps = leads.keeps;
    typed = λ pending account held. leads.typed pending account (typed_labels opens labels before held);
  }

  pub backs_labels : (labels : CLabels) (home : CHome) (before after : CScope) → Backs home opens before (with_labels labels after) → Backs home opens before after
  backs_labels labels home before after backs = record {
    unit_is = backs.unit_is;
    grows = backs.grows;
    told = backs.told;
    told_is = backs.told_is;
    mentions = backs.mentions;
    literals = backs.literals;
    objects = backs.objects;
    things = backs.things;
    statics = backs.statics;
  }

  pub backs_from_labels : (labels : CLabels) (home : CHome) (before after : CScope) → Backs home opens before after → Backs home opens (with_labels labels before) after
  backs_from_labels labels home before after backs = record {
    unit_is = backs.unit_is;
    grows = backs.grows;
    told = backs.told;
    told_is = backs.told_is;
    mentions = backs.mentions;
    literals = backs.literals;
    objects = backs.objects;
    things = backs.things;
    statics = backs.statics;
  }

  -- ---- where a statement stands

  pub place_on : (where_is : CWhere) (scope later : CScope) → IsPlace opens scope where_is → Leads opens scope later → IsGood opens later → IsPlace opens later where_is
  place_on where_is scope later place leads good = record {
    good = good;
    orderly = leads.orderly place.orderly;
    in_function = leads.in_function_is ∙ place.in_function;
    result =
        subst (λ unit. IsKnownType opens later.types unit where_is.result) (sym leads.declares.unit_is)
        (known_stays opens scope.types later.types leads.declares.grows scope.unit where_is.result place.result);
    gives = λ some. complete_stays opens scope.types later.types leads.declares.grows where_is.result (place.gives some);
  }

  pub place_entered : (where_is : CWhere) (scope : CScope) → IsPlace opens scope where_is → IsPlace opens (entered scope) where_is
  place_entered where_is scope place = record {
    good = good_entered scope place.good;
    orderly = orderly_entered opens scope place.orderly;
    in_function = place.in_function;
    result = place.result;
    gives = place.gives;
  }

pub stands_inside : (where_is : CWhere) (body : CBody) (objects : List ℕ) → StandsIn where_is body → StandsIn where_is (with_objects objects body)
stands_inside where_is body objects stands = record {
  result_is = stands.result_is;
  labels_are = stands.labels_are;
  in_loop_is = stands.in_loop_is;
  in_switch_is = stands.in_switch_is;
  switchable = stands.switchable;
}
