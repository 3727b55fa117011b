-- What a unit keeps account of stays right where an object without linkage has its value (ISO C99, 6.7.8).
use Rattle.std.proofs.Common.{◌≡◌, ℕ, ◌==◌, Bool, true, false, if◌then◌else◌, List, map, Option, Some, slice_get, refl, sym, ap, ◌∙◌, subst}
use Rattle.cx_core.specs.declared.program.Linkage.{Linkage}
use Rattle.cx_core.specs.declared.program.Linkage.TheVariants.{Nothing}
use Rattle.cx_core.specs.Trees.{CTy, form_of_type, CObject}
use Rattle.cx_core.specs.ValidTypes.{IsObjectForm}
use Rattle.cx_rules.specs.Declare.{is_linked, thing_named}
use Rattle.cx_rules.specs.Scope.{CThing}
use Rattle.cx_typed.proofs.DeclaredForms.{object_declared}
use Rattle.cx_typed.proofs.Same.{number_is}
use Rattle.cx_typed.specs.Operands.{IsKnownType}
use Rattle.cx_typed_units.proofs.ObjectNumbers.{numbered_of, changed_numbered}
use Rattle.cx_typed_units.proofs.Steps.{got_mapped, mapped_at}
use Rattle.cx_typed_units.specs.Account.{CAccount, IsKnownObject, IsObjectThing, IsAccounted}

same_value : {X : Type 0} {x y : X} → Some x ≡ Some y → x ≡ y
same_value is = cc

module _ (opens : List ℕ) (pending : Option (List ℕ)) (few : CAccount) (held : IsAccounted opens pending few) (linked_things : (name : List ℕ) (one : CThing) → thing_named name few.things ≡ Some one → is_linked one.linkage ≡ true)
    (index : ℕ) (own : CObject) (own_at : slice_get few.objects index ≡ Some own) (nothing : own.linkage ≡ Nothing) (number : ℕ) (own_number : own.object ≡ number)
    (change : CObject → CObject) (number_kept : (one : CObject) → (change one).object ≡ one.object) (linkage_kept : (one : CObject) → (change one).linkage ≡ one.linkage)
    (unit_kept : (one : CObject) → (change one).unit ≡ one.unit) (text_kept : (one : CObject) → (change one).is_text ≡ one.is_text) (type : CTy) (new_type : (one : CObject) → (change one).type ≡ type)
    (known : IsKnownType opens few.types few.unit type) (form : IsObjectForm (form_of_type type)) where
  abbrev change_one : CObject → CObject
  change_one one = if one.object == number then change one else one

  abbrev pub stored_account : CAccount
  stored_account = record few { objects = map change_one few.objects }

  all_kept : (one : CObject) (same : Bool) → (if same then change one else one).object ≡ one.object
  all_kept one true = number_kept one
  all_kept one false = refl

  is_own : (at : ℕ) (one : CObject) → slice_get few.objects at ≡ Some one → (one.object == number) ≡ true → own ≡ one
  is_own at one found same =
      let here : index ≡ at = held.objects_differ index at own one own_at found (own_number ∙ sym (number_is one.object number same)) in
      same_value (sym own_at ∙ (ap (slice_get few.objects) here ∙ found))

  not_linked : (l : Linkage) → l ≡ Nothing → is_linked l ≡ true → ⊥
  not_linked l is linked = let h : is_linked Nothing ≡ true = subst (λ x. is_linked x ≡ true) is linked in let k : false ≡ true = h in cc

  known_by : (at : ℕ) (before one : CObject) (same : Bool) → (before.object == number) ≡ same → slice_get few.objects at ≡ Some before → (if same then change before else before) ≡ one → IsKnownObject opens stored_account one
  known_by at before one true e found is =
      let was = held.objects at before found in
      subst (IsKnownObject opens stored_account) is (record {
        here = unit_kept before ∙ was.here;
        known = subst (IsKnownType opens few.types few.unit) (sym (new_type before)) known;
        object = object_declared (change before).linkage (form_of_type (change before).type) (subst (λ t. IsObjectForm (form_of_type t)) (sym (new_type before)) form);
        no_text = text_kept before ∙ was.no_text;
        named = λ linked. absurd (not_linked before.linkage (ap (λ (x : CObject). x.linkage) (sym (is_own at before found e)) ∙ nothing) (ap is_linked (sym (linkage_kept before)) ∙ linked));
      })
  known_by at before one false e found is =
      let was = held.objects at before found in
      subst (IsKnownObject opens stored_account) is (record { here = was.here; known = was.known; object = was.object; no_text = was.no_text; named = was.named })

  stays_by : (at : ℕ) (one : CObject) (same : Bool) → (one.object == number) ≡ same → slice_get few.objects at ≡ Some one → is_linked one.linkage ≡ true → slice_get (map change_one few.objects) at ≡ Some one
  stays_by at one true e found linked = absurd (not_linked one.linkage (ap (λ (x : CObject). x.linkage) (sym (is_own at one found e)) ∙ nothing) linked)
  stays_by at one false e found linked = mapped_at change_one few.objects at one found ∙ ap (λ b. Some (if b then change one else one)) e

  thing_later : (name : List ℕ) (thing : CThing) → thing_named name few.things ≡ Some thing → IsObjectThing opens pending few name thing → IsObjectThing opens pending stored_account name thing
  thing_later name thing there was = record {
    index = was.index;
    one = was.one;
    at = stays_by was.index was.one (was.one.object == number) refl was.at (ap is_linked was.linkage_is ∙ linked_things name thing there);
    number_is = was.number_is;
    linkage_is = was.linkage_is;
    named = was.named;
    type_is = was.type_is;
    fills = was.fills;
    defined = was.defined;
    filled = was.filled;
    internal = was.internal;
    type_told = was.type_told;
    does_told = was.does_told;
  }

  pub stored_accounted : IsAccounted opens pending stored_account
  stored_accounted =
      let numbered = changed_numbered few.objects few.literals few.next_object (numbered_of opens pending few held) change_one (λ one. all_kept one (one.object == number)) in
      record {
        objects_differ = numbered.differ;
        literals_differ = numbered.made.differ;
        apart = numbered.made.apart;
        objects_below = numbered.below;
        literals_below = numbered.made.below;
        literals = held.literals;
        objects = λ at one found.
            let before = got_mapped change_one few.objects at one found in
            known_by at before.0 one (before.0.object == number) refl before.1 before.2;
        listed = held.listed;
        things_differ = held.things_differ;
        object_things = λ name one there is. thing_later name one there (held.object_things name one there is);
        function_things = λ name one there is.
            let was = held.function_things name one there is in
            record {
              below = was.below;
              undefined = was.undefined;
              defined = λ apart defined.
                  let by = was.defined apart defined in
                  record { index = by.index; one = by.one; at = by.at; number_is = by.number_is; named = by.named; linkage_is = by.linkage_is; fills = by.fills };
            };
        functions_differ = held.functions_differ;
        functions = λ at one found.
            let was = held.functions at one found in
            record {
              here = was.here;
              linked = was.linked;
              thing = was.thing;
              there = was.there;
              function_is = was.function_is;
              defined = was.defined;
              number_is = was.number_is;
              told = was.told;
            };
        bodies_differ = held.bodies_differ;
        awaited = held.awaited;
      }
