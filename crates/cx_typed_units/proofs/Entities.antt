-- The objects and functions that declarations declare (ISO C99, 6.2.2, 6.2.7p4).
use Rattle.std.proofs.Common.{◌≡◌, ◌⊎◌, inl, inr, ℕ, ◌<◌, ◌==◌, Bool, true, false, ◌||◌, if◌then◌else◌, List, [], ◌∷◌, ◌++◌, map, Option, None, Some, is_some, slice_get, bytes_eq, refl, sym, ap, ◌∙◌, subst, arith}
use Rattle.std.proofs.lemmas.Slice.Eq.{bytes_eq-Decides}
use Rattle.std.specs.Prelude.{IsSome, IfSome}
use Rattle.cx_core.specs.declared.program.Linkage.{Linkage}
use Rattle.cx_core.specs.Compatible.{forms_agree, in_pairs}
use Rattle.cx_core.specs.Trees.{CTy, ty, CTyForm, void, basic, enum_type, pointer, array, record_type, function, CTypes, CPuts, CObject}
use Rattle.cx_rules.specs.Declare.{is_linked, thing_named, with_object_at, with_linked_object}
use Rattle.cx_rules.specs.Scope.{CThing, CScope, with_function_number}
use Rattle.cx_rules.specs.Types.{is_function, is_function_form, compatible, composite, composite_form}
use Rattle.cx_typed.proofs.Same.{both}
use Rattle.cx_typed.specs.Operands.{IsKnownType}
use Rattle.cx_typed_units.proofs.Joins.{fills_itself, fills_first, fills_second, composite_known}
use Rattle.cx_typed_units.proofs.Named.{found_last, set_thing, found_set, same_thing, has_name}
use Rattle.cx_typed_units.proofs.Steps.{number_leads, with_next_object, next_leads, got_behind, changed_leads}
use Rattle.cx_typed_units.proofs.Stretches.{Steps, steps_on}
use Rattle.cx_typed_units.proofs.ThingSteps.{with_new_thing, new_thing_leads, with_set_thing, set_thing_leads}
use Rattle.cx_typed_units.specs.Stretches.{IsSameThing, IsThing, IsThingOf, IsKnownThing, IsOrderly}

-- ---- function types

pub composite_function : (one other : CTy) → is_function (composite one other) ≡ is_function one
composite_function (ty one one_const) (ty other other_const) = by_form one other
  where
    by_form : (one other : CTyForm) → is_function_form (composite_form one other) ≡ is_function_form one
    by_form (basic one) (enum_type other) = refl
    by_form (pointer one) (pointer other) = refl
    by_form (array one one_length) (array other other_length) = refl
    by_form (function one ones one_more) (function other others other_more) = refl
    by_form void other = refl
    by_form (basic one) other = refl
    by_form (enum_type one) other = refl
    by_form (pointer one) other = refl
    by_form (array one one_length) other = refl
    by_form (record_type one) other = refl
    by_form (function one ones one_more) other = refl

agree_form : (types : CTypes) (one other : CTyForm) → forms_agree types (in_pairs []) one other ≡ true → is_function_form one ≡ is_function_form other
agree_form types void void is = refl
agree_form types (basic one) (basic other) is = refl
agree_form types (basic one) (enum_type other) is = refl
agree_form types (enum_type one) (basic other) is = refl
agree_form types (enum_type one) (enum_type other) is = refl
agree_form types (pointer one) (pointer other) is = refl
agree_form types (array one one_length) (array other other_length) is = refl
agree_form types (record_type one) (record_type other) is = refl
agree_form types (function one ones one_more) (function other others other_more) is = refl
agree_form types one other is = absurd cc

pub agree_function : (types : CTypes) (one other : CTy) → compatible types one other ≡ true → is_function one ≡ is_function other
agree_function types (ty one one_const) (ty other other_const) is = agree_form types one other (both is).1

-- ---- what declares once more, as `Declare` says it

abbrev pub or_line : Option ℕ → Option ℕ → Option ℕ
or_line None line = line
or_line (Some line) other = Some line

abbrev pub declared_again : CTy → Bool → Option ℕ → CThing → CThing
declared_again type has_content tentative one = record one {
  type = composite type one.type;
  is_defined = has_content || one.is_defined;
  tentative = or_line one.tentative tentative;
}

abbrev pub new_thing : List ℕ → Linkage → Bool → ℕ → CTy → Bool → Option ℕ → CThing
new_thing name linkage is_function number type has_content tentative = record {
  name = name;
  linkage = linkage;
  is_function = is_function;
  number = number;
  type = type;
  is_defined = has_content;
  tentative = tentative;
}

abbrev pub new_object : CScope → List ℕ → CTy → Linkage → Option CPuts → CObject
new_object scope name type linkage puts = record {
  object = scope.next_object;
  unit = scope.unit;
  name = Some name;
  is_text = false;
  type = type;
  linkage = linkage;
  puts = puts;
}

-- an object that its initialiser defines keeps the type that this gave
abbrev pub retyped : Bool → CTy → CObject → CObject
retyped is_defined type one = record one { type = if is_defined then one.type else type }

abbrev pub linked_object : List ℕ → CTy → Linkage → Bool → Option ℕ → Option CThing → CScope → CScope
linked_object name type linkage has_content tentative None scope =
    with_new_thing (new_thing name linkage false scope.next_object type has_content tentative) (with_next_object (new_object scope name type linkage None) scope)
linked_object name type linkage has_content tentative (Some one) scope =
    with_object_at one.number (retyped one.is_defined (composite type one.type)) (with_set_thing name (declared_again type has_content tentative one) scope)

-- so does `Declare`, which leaves all objects as they are then
same_objects : (number : ℕ) (type : CTy) (objects : List CObject) → objects ≡ map (λ one. if one.object == number then retyped true type one else one) objects
same_objects number type [] = refl
same_objects number type (one ∷ objects) =
    ap (λ others. one ∷ others) (same_objects number type objects)
    ∙ ap (λ first. first ∷ map (λ one. if one.object == number then retyped true type one else one) objects) (same_object (one.object == number))
  where
    same_object : (same : Bool) → one ≡ (if same then retyped true type one else one)
    same_object true = refl
    same_object false = refl

pub linked_object_is : (name : List ℕ) (type : CTy) (linkage : Linkage) (has_content : Bool) (tentative : Option ℕ) (found : Option CThing) (scope : CScope)
    → with_linked_object name type linkage has_content tentative found scope ≡ linked_object name type linkage has_content tentative found scope
linked_object_is name type linkage has_content tentative None scope = refl
linked_object_is name type linkage has_content tentative (Some one) scope = by_state one.is_defined
  where
    by_state : (is_defined : Bool) → (if is_defined then with_set_thing name (declared_again type has_content tentative one) scope
        else with_object_at one.number (λ object. record object { type = composite type one.type }) (with_set_thing name (declared_again type has_content tentative one) scope))
        ≡ with_object_at one.number (retyped is_defined (composite type one.type)) (with_set_thing name (declared_again type has_content tentative one) scope)
    by_state true = ap (λ objects. record (with_set_thing name (declared_again type has_content tentative one) scope) { objects = objects }) (same_objects one.number (composite type one.type) scope.objects)
    by_state false = refl

abbrev pub linked_function : List ℕ → CTy → Linkage → Bool → Option CThing → CScope → CScope
linked_function name type linkage has_body None scope =
    with_new_thing (new_thing name linkage true scope.next_function type has_body None) (with_function_number scope)
linked_function name type linkage has_body (Some one) scope = with_set_thing name (declared_again type has_body None one) scope

abbrev pub linked_number : ℕ → Option CThing → ℕ
linked_number new None = new
linked_number new (Some one) = one.number

-- ---- an object that is declared has a definition, where its declaration is one

either_defined : (has_content was_defined : Bool) (line tentative : Option ℕ) → (has_content || is_some tentative) ≡ true → ((has_content || was_defined) || is_some (or_line line tentative)) ≡ true
either_defined true was_defined line tentative is = refl
either_defined false true line tentative is = refl
either_defined false false (Some line) tentative is = refl
either_defined false false None tentative is = is

same_found : {x y : CThing} → Some x ≡ Some y → x ≡ y
same_found e = cc

pub object_defined : (scope : CScope) (name : List ℕ) (type : CTy) (linkage : Linkage) (has_content : Bool) (tentative : Option ℕ) → (has_content || is_some tentative) ≡ true
    → (found : Option CThing) → thing_named name scope.things ≡ found → (thing : CThing)
    → thing_named name (linked_object name type linkage has_content tentative found scope).things ≡ Some thing → (thing.is_defined || is_some thing.tentative) ≡ true
object_defined scope name type linkage has_content tentative is None none thing there =
    let new = new_thing name linkage false scope.next_object type has_content tentative in
    let found : thing_named name (scope.things ++ new ∷ []) ≡ Some new = found_last name scope.things new none ((bytes_eq-Decides name name).1 refl) in
    subst (λ (x : CThing). (x.is_defined || is_some x.tentative) ≡ true) (same_found (sym found ∙ there)) is
object_defined scope name type linkage has_content tentative is (Some old) old_there thing there =
    let again = declared_again type has_content tentative old in
    let old_name : bytes_eq old.name name ≡ bytes_eq name name = ap (λ n. bytes_eq n name) (has_name name scope.things old old_there) in
    let found : thing_named name (set_thing name again scope.things) ≡ Some again =
    found_set name name again scope.things old old_name old_there ∙ ap (λ b. Some (if b then again else old)) (old_name ∙ (bytes_eq-Decides name name).1 refl) in
    subst (λ (x : CThing). (x.is_defined || is_some x.tentative) ≡ true) (same_found (sym found ∙ there)) (either_defined has_content old.is_defined old.tentative tentative is)

-- what the unit says of the same object or function before
pub record GoesWith (types : CTypes) (type : CTy) (linkage : Linkage) (one : CThing) : Type 0 where
  pub linkage_is : one.linkage ≡ linkage
  pub agrees : compatible types type one.type ≡ true

-- what a declaration of a name with linkage makes of a scope
pub record IsDeclaredAs (opens : List ℕ) (before : CScope) (name : List ℕ) (number : ℕ) (type : CTy) (linkage : Linkage) (is_function : Bool) (after : CScope) : Type 0 where
  pub leads : Steps opens before after
  pub thing : IsThingOf opens after name number type linkage is_function
  pub types_are : after.types ≡ before.types
  pub unit_is : after.unit ≡ before.unit
  pub declared_are : after.declared ≡ before.declared
  pub body_is : after.body ≡ before.body
  pub literals_are : after.literals ≡ before.literals

module _ (opens : List ℕ) (scope : CScope) (orderly : IsOrderly opens scope) (name : List ℕ) (type : CTy) (known : IsKnownType opens scope.types scope.unit type)
    (linkage : Linkage) (linked : is_linked linkage ≡ true) where
  same_name : bytes_eq name name ≡ true
  same_name = (bytes_eq-Decides name name).1 refl

  -- for the first time
  thing_new : (things : List CThing) (is_fun : Bool) (number : ℕ) (has_content : Bool) (tentative : Option ℕ) → thing_named name things ≡ None
      → IsSome (thing_named name (things ++ new_thing name linkage is_fun number type has_content tentative ∷ []))
      × IfSome (thing_named name (things ++ new_thing name linkage is_fun number type has_content tentative ∷ [])) (IsThing opens scope.types number type linkage is_fun)
  thing_new things is_fun number has_content tentative none =
      subst (λ found. IsSome found × IfSome found (IsThing opens scope.types number type linkage is_fun))
      (sym (found_last name things (new_thing name linkage is_fun number type has_content tentative) none same_name))
      (refl, record { number_is = refl; linkage_is = refl; function_is = refl; fills = fills_itself opens scope.types scope.unit type })

  -- once more
  module _ (old : CThing) (there : thing_named name scope.things ≡ Some old) (goes : GoesWith scope.types type linkage old) (has_content : Bool) (tentative : Option ℕ) where
    abbrev again : CThing
    again = declared_again type has_content tentative old

    old_known : IsKnownThing opens scope old
    old_known = orderly.things name old there

    again_same : IsSameThing opens scope.types old again
    again_same = record {
      number_is = refl;
      linkage_is = refl;
      function_is = refl;
      fills = fills_second opens scope.types scope.unit type old.type known old_known.known goes.agrees;
      defined = λ is. or_defined has_content is;
      tentative = λ is. or_tentative old.tentative is;
    }
      where
        or_tentative : (line : Option ℕ) → is_some line ≡ true → is_some (or_line line tentative) ≡ true
        or_tentative None is = absurd cc
        or_tentative (Some line) is = refl

        or_defined : (content : Bool) → old.is_defined ≡ true → (content || old.is_defined) ≡ true
        or_defined true is = refl
        or_defined false is = is

    again_form : is_function again.type ≡ again.is_function
    again_form = composite_function type old.type ∙ (agree_function scope.types type old.type goes.agrees ∙ old_known.function_is)

    again_leads : Steps opens scope (with_set_thing name again scope)
    again_leads =
        set_thing_leads opens scope name old again there (has_name name scope.things old there) again_same (composite_known opens scope.types scope.unit type old.type known old_known.known goes.agrees)
        again_form

    old_is : same_thing name again old ≡ again
    old_is = ap (λ b. if b then again else old) (ap (λ n. bytes_eq n name) (has_name name scope.things old there) ∙ same_name)

    again_thing : (is_fun : Bool) → old.is_function ≡ is_fun → IsThingOf opens (with_set_thing name again scope) name old.number type linkage is_fun
    again_thing is_fun form =
        subst (λ found. IsSome found × IfSome found (IsThing opens scope.types old.number type linkage is_fun))
        (sym (found_set name name again scope.things old (ap (λ n. bytes_eq n name) (has_name name scope.things old there)) there ∙ ap (λ x. Some x) old_is)) (
          refl,
          record {
            number_is = refl;
            linkage_is = goes.linkage_is;
            function_is = form;
            fills = fills_first opens scope.types scope.unit type old.type known old_known.known goes.agrees;
          },
        )

  -- ---- objects

  pub object_declared : is_function type ≡ false → (has_content : Bool) (tentative : Option ℕ) (found : Option CThing) → thing_named name scope.things ≡ found
      → IfSome found (GoesWith scope.types type linkage)
      → IsDeclaredAs opens scope name (linked_number scope.next_object found) type linkage false (linked_object name type linkage has_content tentative found scope)
  object_declared no_function has_content tentative None there goes =
      let new = new_object scope name type linkage None in
      let thing = new_thing name linkage false scope.next_object type has_content tentative in
      let first = next_leads opens scope new refl in
      record {
        leads = steps_on opens scope (with_next_object new scope) _ first (new_thing_leads opens (with_next_object new scope) thing (record {
          known = known;
          linked = linked;
          function_is = no_function;
          below = λ is. omega arith;
          own = λ is index object at same. new_linked object index (got_behind scope.objects new index object at) same;
        }));
        thing = thing_new scope.things false scope.next_object has_content tentative there;
        types_are = refl;
        unit_is = refl;
        declared_are = refl;
        body_is = refl;
        literals_are = refl;
      }
    where
      new_linked : (object : CObject) (index : ℕ) → (slice_get scope.objects index ≡ Some object) ⊎ (new_object scope name type linkage None ≡ object) → object.object ≡ scope.next_object
          → is_linked object.linkage ≡ true
      new_linked object index (inl at) same = absurd (let h : object.object < scope.next_object = orderly.numbers index object at in omega (arith, h, same))
      new_linked object index (inr is) same = subst (λ (x : CObject). is_linked x.linkage ≡ true) is linked
  object_declared no_function has_content tentative (Some old) there goes =
      let old_object : old.is_function ≡ false = sym (old_known old there goes has_content tentative).function_is ∙ (sym (agree_function scope.types type old.type goes.agrees) ∙ no_function) in
      let set = with_set_thing name (declared_again type has_content tentative old) scope in
      record {
        leads = steps_on opens scope set _ (again_leads old there goes has_content tentative)
            (changed_leads opens set old.number (retyped old.is_defined (composite type old.type)) (λ one. refl) (λ one. refl) (λ one is. is)
            (λ index object at same. (old_known old there goes has_content tentative).own old_object index object at same));
        thing = again_thing old there goes has_content tentative false old_object;
        types_are = refl;
        unit_is = refl;
        declared_are = refl;
        body_is = refl;
        literals_are = refl;
      }

  -- ---- functions

  pub function_declared : is_function type ≡ true → (has_body : Bool) (found : Option CThing) → thing_named name scope.things ≡ found → IfSome found (GoesWith scope.types type linkage)
      → IsDeclaredAs opens scope name (linked_number scope.next_function found) type linkage true (linked_function name type linkage has_body found scope)
  function_declared is_fun has_body None there goes =
      let thing = new_thing name linkage true scope.next_function type has_body None in
      record {
        leads = steps_on opens scope (with_function_number scope) _ (number_leads opens scope) (new_thing_leads opens (with_function_number scope) thing (record {
          known = known;
          linked = linked;
          function_is = is_fun;
          below = λ is. absurd cc;
          own = λ is. absurd cc;
        }));
        thing = thing_new scope.things true scope.next_function has_body None there;
        types_are = refl;
        unit_is = refl;
        declared_are = refl;
        body_is = refl;
        literals_are = refl;
      }
  function_declared is_fun has_body (Some old) there goes =
      let old_function : old.is_function ≡ true = sym (old_known old there goes has_body None).function_is ∙ (sym (agree_function scope.types type old.type goes.agrees) ∙ is_fun) in
      record {
        leads = again_leads old there goes has_body None;
        thing = again_thing old there goes has_body None true old_function;
        types_are = refl;
        unit_is = refl;
        declared_are = refl;
        body_is = refl;
        literals_are = refl;
      }
