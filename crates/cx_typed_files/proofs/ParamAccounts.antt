-- What a unit keeps account of stays right where parameters become objects, and where a function has its body (ISO C99, 6.9.1).
use Rattle.std.proofs.Common.{◌≡◌, ◌⊎◌, inl, inr, ℕ, suc, ◌<◌, ◌≤◌, Bool, true, false, List, [], ◌∷◌, ◌++◌, map, length, Option, None, Some, slice_get, bytes_eq, refl, sym, ap, ◌∙◌, subst, append_assoc, arith}
use Rattle.std.proofs.lemmas.Slice.Eq.{bytes_eq-Decides}
use Rattle.cx_core.specs.declared.program.Linkage.TheVariants.{External, Nothing}
use Rattle.cx_core.specs.Trees.{form_of_type, CTypes, CObject, CFun, defines}
use Rattle.cx_core.specs.ValidTypes.{IsObjectForm}
use Rattle.cx_rules.specs.Declare.{is_linked, thing_named}
use Rattle.cx_rules.specs.Scope.{CMade, CThing}
use Rattle.cx_rules.specs.Shapes.{CParam}
use Rattle.cx_typed.proofs.DeclaredForms.{object_declared}
use Rattle.cx_typed.proofs.Scopes.{kept_before, pushed_at}
use Rattle.cx_typed.specs.Operands.{IsKnownType}
use Rattle.cx_typed_files.proofs.OwnParams.{AreFrom}
use Rattle.cx_typed_units.proofs.ObjectNumbers.{got_last}
use Rattle.cx_typed_units.specs.Account.{CAccount, IsToldAs, IsKnownObject, IsObjectThing, IsDefinedBy, IsFunctionThing, IsKnownFun, IsAccounted}
use Rattle.cx_typed_units.specs.Fills.{Fills}

-- ---- an object without linkage under a number that is free

module _ (opens : List ℕ) (pending : Option (List ℕ)) (few : CAccount) (held : IsAccounted opens pending few) (new : CObject) (below : new.object < few.next_object)
    (free : (index : ℕ) (one : CObject) → slice_get few.objects index ≡ Some one → one.object ≡ new.object → ⊥) (free_made : (index : ℕ) (one : CMade) → slice_get few.literals index ≡ Some one → new.object ≡ one.object → ⊥)
    (nothing : new.linkage ≡ Nothing) (here : new.unit ≡ few.unit) (known : IsKnownType opens few.types few.unit new.type) (form : IsObjectForm (form_of_type new.type)) (no_text : new.is_text ≡ false) where
  abbrev pub free_account : CAccount
  free_account = record few { objects = few.objects ++ new ∷ [] }

  object_later : (one : CObject) → IsKnownObject opens few one → IsKnownObject opens free_account one
  object_later one was = record { here = was.here; known = was.known; object = was.object; no_text = was.no_text; named = was.named }

  known_by : (index : ℕ) (one : CObject) → (slice_get few.objects index ≡ Some one) ⊎ ((index ≡ length few.objects) × (new ≡ one)) → IsKnownObject opens free_account one
  known_by index one (inl at) = object_later one (held.objects index one at)
  known_by index one (inr at) = subst (IsKnownObject opens free_account) at.1 (record {
    here = here;
    known = known;
    object = object_declared new.linkage (form_of_type new.type) form;
    no_text = no_text;
    named = λ linked. absurd (let h : is_linked Nothing ≡ true = subst (λ l. is_linked l ≡ true) nothing linked in let k : false ≡ true = h in cc);
  })

  number_of : (one : CObject) → new ≡ one → one.object ≡ new.object
  number_of one is = ap (λ (x : CObject). x.object) (sym is)

  differ_by : (first second : ℕ) (one other : CObject) → one.object ≡ other.object → (slice_get few.objects first ≡ Some one) ⊎ ((first ≡ length few.objects) × (new ≡ one))
      → (slice_get few.objects second ≡ Some other) ⊎ ((second ≡ length few.objects) × (new ≡ other)) → first ≡ second
  differ_by first second one other same (inl at) (inl there) = held.objects_differ first second one other at there same
  differ_by first second one other same (inl at) (inr there) = absurd (free first one at (same ∙ number_of other there.1))
  differ_by first second one other same (inr at) (inl there) = absurd (free second other there (sym same ∙ number_of one at.1))
  differ_by first second one other same (inr at) (inr there) = at.0 ∙ sym there.0

  below_by : (index : ℕ) (one : CObject) → (slice_get few.objects index ≡ Some one) ⊎ ((index ≡ length few.objects) × (new ≡ one)) → one.object < few.next_object
  below_by index one (inl at) = held.objects_below index one at
  below_by index one (inr at) = let k : one.object ≡ new.object = number_of one at.1 in omega (arith, below, k)

  apart_by : (first second : ℕ) (one : CObject) (other : CMade) → slice_get few.literals second ≡ Some other → one.object ≡ other.object
      → (slice_get few.objects first ≡ Some one) ⊎ ((first ≡ length few.objects) × (new ≡ one)) → ⊥
  apart_by first second one other there same (inl at) = held.apart first second one other at there same
  apart_by first second one other there same (inr at) = free_made second other there (sym (number_of one at.1) ∙ same)

  thing_later : (name : List ℕ) (thing : CThing) → IsObjectThing opens pending few name thing → IsObjectThing opens pending free_account name thing
  thing_later name thing was = record {
    index = was.index;
    one = was.one;
    at = kept_before few.objects (new ∷ []) was.index was.one was.at;
    number_is = was.number_is;
    linkage_is = was.linkage_is;
    named = was.named;
    type_is = was.type_is;
    fills = was.fills;
    defined = was.defined;
    filled = was.filled;
    internal = was.internal;
    type_told = was.type_told;
    does_told = was.does_told;
  }

  pub free_accounted : IsAccounted opens pending free_account
  free_accounted = record {
    objects_differ = λ first second one other at there same. differ_by first second one other same (got_last few.objects new first one at) (got_last few.objects new second other there);
    literals_differ = held.literals_differ;
    apart = λ first second one other at there same. apart_by first second one other there same (got_last few.objects new first one at);
    objects_below = λ index one at. below_by index one (got_last few.objects new index one at);
    literals_below = held.literals_below;
    literals = held.literals;
    objects = λ index one at. known_by index one (got_last few.objects new index one at);
    listed = held.listed;
    things_differ = held.things_differ;
    object_things = λ name one there is. thing_later name one (held.object_things name one there is);
    function_things = λ name one there is.
        let was = held.function_things name one there is in
        record {
          below = was.below;
          undefined = was.undefined;
          defined = λ apart defined.
              let by = was.defined apart defined in
              record { index = by.index; one = by.one; at = by.at; number_is = by.number_is; named = by.named; linkage_is = by.linkage_is; fills = by.fills };
        };
    functions_differ = held.functions_differ;
    functions = λ index one at.
        let was = held.functions index one at in
        record {
          here = was.here;
          linked = was.linked;
          thing = was.thing;
          there = was.there;
          function_is = was.function_is;
          defined = was.defined;
          number_is = was.number_is;
          told = was.told;
        };
    bodies_differ = held.bodies_differ;
    awaited = held.awaited;
  }

-- ---- the objects of parameters

-- parameters whose types are known
abbrev pub AreKnownOnes : List ℕ → CTypes → ℕ → List CParam → Type 0
AreKnownOnes opens types unit [] = Unit {0}
AreKnownOnes opens types unit (one ∷ others) = (IsKnownType opens types unit one.type × IsObjectForm (form_of_type one.type)) × AreKnownOnes opens types unit others

module _ (opens : List ℕ) (pending : Option (List ℕ)) (object_of : CParam → CObject) (number_is : (one : CParam) → (object_of one).object ≡ one.object) (nothing : (one : CParam) → (object_of one).linkage ≡ Nothing)
    (type_is : (one : CParam) → (object_of one).type ≡ one.type) (no_text : (one : CParam) → (object_of one).is_text ≡ false) where
  pub params_accounted : (few : CAccount) (params : List CParam) (low : ℕ) → ((one : CParam) → (object_of one).unit ≡ few.unit) → IsAccounted opens pending few → AreFrom low params few.next_object
      → AreKnownOnes opens few.types few.unit params → ((index : ℕ) (one : CObject) → slice_get few.objects index ≡ Some one → one.object < low)
      → ((index : ℕ) (one : CMade) → slice_get few.literals index ≡ Some one → one.object < low) → IsAccounted opens pending (record few { objects = few.objects ++ map object_of params })
  params_accounted few [] low here held from known early early_made = subst (λ objects. IsAccounted opens pending (record few { objects = objects })) (sym (append_nil few.objects)) held
    where
      append_nil : (xs : List CObject) → xs ++ [] ≡ xs
      append_nil [] = refl
      append_nil (first ∷ xs) = ap (λ others. first ∷ others) (append_nil xs)
  params_accounted few (one ∷ others) low here held from known early early_made =
      let new = object_of one in
      let number : new.object ≡ one.object = number_is one in
      let low_is : low ≤ one.object = from.0 in
      let last : suc one.object ≤ few.next_object = at_most (suc one.object) others few.next_object from.1 in
      subst (λ objects. IsAccounted opens pending (record few { objects = objects })) (append_assoc few.objects (new ∷ []) (map object_of others))
      (params_accounted (record few { objects = few.objects ++ new ∷ [] }) others (suc one.object) here
      (free_accounted opens pending few held new (omega (arith, number, last))
      (λ index x at same. let h : x.object < low = early index x at in omega (arith, h, same, number, low_is))
      (λ index x at same. let h : x.object < low = early_made index x at in omega (arith, h, same, number, low_is)) (nothing one) (here one)
      (subst (IsKnownType opens few.types few.unit) (sym (type_is one)) known.0.0) (subst (λ t. IsObjectForm (form_of_type t)) (sym (type_is one)) known.0.1) (no_text one))
      from.1 known.1 (λ index x at. early_by index x (got_last few.objects new index x at))
      (λ index x at. let h : x.object < low = early_made index x at in omega (arith, h, low_is)))
    where
      at_most : (low : ℕ) (params : List CParam) (high : ℕ) → AreFrom low params high → low ≤ high
      at_most low [] high held = held
      at_most low (first ∷ params) high held = let h : low ≤ first.object = held.0 in let k : suc first.object ≤ high = at_most (suc first.object) params high held.1 in omega (arith, h, k)

      early_by : (index : ℕ) (x : CObject) → (slice_get few.objects index ≡ Some x) ⊎ ((index ≡ length few.objects) × (object_of one ≡ x)) → x.object < suc one.object
      early_by index x (inl at) = let h : x.object < low = early index x at in let k : low ≤ one.object = from.0 in omega (arith, h, k)
      early_by index x (inr at) = let h : x.object ≡ one.object = ap (λ (y : CObject). y.object) (sym at.1) ∙ number_is one in omega (arith, h)

-- ---- a function has its body

module _ (opens : List ℕ) (few : CAccount) (new : CFun) (held : IsAccounted opens (Some new.name) few) (here : new.unit ≡ few.unit) (linked : is_linked new.linkage ≡ true) (thing : CThing)
    (there : thing_named new.name few.things ≡ Some thing) (function_is : thing.is_function ≡ true) (defined : thing.is_defined ≡ true) (number_is : thing.number ≡ new.function) (same_linkage : thing.linkage ≡ new.linkage)
    (fills : Fills opens few.types new.type thing.type) (told : new.linkage ≡ External → IsToldAs few.mentions new.name External (λ mention. (mention.type ≡ new.type) × (mention.does ≡ defines))) where
  abbrev pub body_account : CAccount
  body_account = record few { functions = few.functions ++ new ∷ [] }

  own_fun : IsKnownFun body_account new
  own_fun = record { here = here; linked = linked; thing = thing; there = there; function_is = function_is; defined = defined; number_is = number_is; told = told }

  same_value : {X : Type 0} {x y : X} → Some x ≡ Some y → x ≡ y
  same_value is = cc

  own_defined : (name : List ℕ) (one : CThing) → thing_named name few.things ≡ Some one → name ≡ new.name → IsDefinedBy opens body_account name one
  own_defined name one at same =
      let is : thing ≡ one = same_value (sym there ∙ (ap (λ n. thing_named n few.things) (sym same) ∙ at)) in
      record {
        index = length few.functions;
        one = new;
        at = pushed_at few.functions new;
        number_is = sym number_is ∙ ap (λ (x : CThing). x.number) is;
        named = sym same;
        linkage_is = sym same_linkage ∙ ap (λ (x : CThing). x.linkage) is;
        fills = subst (λ (x : CThing). Fills opens few.types new.type x.type) is fills;
      }

  defined_by : (name : List ℕ) (one : CThing) (same : Bool) → bytes_eq name new.name ≡ same → thing_named name few.things ≡ Some one → IsFunctionThing opens (Some new.name) few name one → one.is_defined ≡ true
      → IsDefinedBy opens body_account name one
  defined_by name one true e at was is = own_defined name one at ((bytes_eq-Decides name new.name).0 e)
  defined_by name one false e at was is =
      let by = was.defined (λ waits. let h : bytes_eq name new.name ≡ true = (bytes_eq-Decides name new.name).1 (sym (same_value waits)) in let k : false ≡ true = sym e ∙ h in cc) is in
      record {
        index = by.index;
        one = by.one;
        at = kept_before few.functions (new ∷ []) by.index by.one by.at;
        number_is = by.number_is;
        named = by.named;
        linkage_is = by.linkage_is;
        fills = by.fills;
      }

  fun_by : (index : ℕ) (one : CFun) → (slice_get few.functions index ≡ Some one) ⊎ ((index ≡ length few.functions) × (new ≡ one)) → IsKnownFun body_account one
  fun_by index one (inl at) =
      let was = held.functions index one at in
      record {
        here = was.here;
        linked = was.linked;
        thing = was.thing;
        there = was.there;
        function_is = was.function_is;
        defined = was.defined;
        number_is = was.number_is;
        told = was.told;
      }
  fun_by index one (inr at) = subst (IsKnownFun body_account) at.1 own_fun

  differ_fun : (first second : ℕ) (one other : CFun) → one.name ≡ other.name → (slice_get few.functions first ≡ Some one) ⊎ ((first ≡ length few.functions) × (new ≡ one))
      → (slice_get few.functions second ≡ Some other) ⊎ ((second ≡ length few.functions) × (new ≡ other)) → first ≡ second
  differ_fun first second one other same (inl at) (inl also) = held.bodies_differ first second one other at also same
  differ_fun first second one other same (inl at) (inr also) = absurd (held.awaited new.name refl first one at (same ∙ ap (λ (x : CFun). x.name) (sym also.1)))
  differ_fun first second one other same (inr at) (inl also) = absurd (held.awaited new.name refl second other also (sym same ∙ ap (λ (x : CFun). x.name) (sym at.1)))
  differ_fun first second one other same (inr at) (inr also) = at.0 ∙ sym also.0

  object_thing : (name : List ℕ) (one : CThing) → one.is_function ≡ false → thing_named name few.things ≡ Some one → IsObjectThing opens (Some new.name) few name one → IsObjectThing opens None body_account name one
  object_thing name one object at was = record {
    index = was.index;
    one = was.one;
    at = was.at;
    number_is = was.number_is;
    linkage_is = was.linkage_is;
    named = was.named;
    type_is = was.type_is;
    fills = was.fills;
    defined = was.defined;
    filled = λ apart is. was.filled (λ waits. other_thing name one object at (sym (same_value waits))) is;
    internal = was.internal;
    type_told = was.type_told;
    does_told = was.does_told;
  }
    where
      other_thing : (name : List ℕ) (one : CThing) → one.is_function ≡ false → thing_named name few.things ≡ Some one → name ≡ new.name → ⊥
      other_thing name one object at same =
          let is : thing ≡ one = same_value (sym there ∙ (ap (λ n. thing_named n few.things) (sym same) ∙ at)) in
          let h : true ≡ false = sym function_is ∙ (ap (λ (x : CThing). x.is_function) is ∙ object) in cc

  pub body_accounted : IsAccounted opens None body_account
  body_accounted = record {
    objects_differ = held.objects_differ;
    literals_differ = held.literals_differ;
    apart = held.apart;
    objects_below = held.objects_below;
    literals_below = held.literals_below;
    literals = held.literals;
    objects = λ index one at. (
        let was = held.objects index one at in
        record { here = was.here; known = was.known; object = was.object; no_text = was.no_text; named = was.named });
    listed = held.listed;
    things_differ = held.things_differ;
    object_things = λ name one at is. object_thing name one is at (held.object_things name one at is);
    function_things = λ name one at is.
        let was = held.function_things name one at is in
        record { below = was.below; undefined = was.undefined; defined = λ apart defined. defined_by name one (bytes_eq name new.name) refl at was defined };
    functions_differ = held.functions_differ;
    functions = λ index one at. fun_by index one (got_last few.functions new index one at);
    bodies_differ = λ first second one other at also same. differ_fun first second one other same (got_last few.functions new first one at) (got_last few.functions new second other also);
    awaited = λ name is. absurd cc;
  }
