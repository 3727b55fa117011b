-- What a unit keeps account of stays right where a name with linkage is declared, for the first time or once more (ISO C99, 6.2.2, 6.2.7p4).
use Rattle.std.proofs.Common.{◌≡◌, ◌⊎◌, inl, inr, ℕ, ◌<◌, ◌≤◌, true, false, List, Option, Some, slice_get, sym, ap, ◌∙◌, subst, arith}
use Rattle.cx_core.specs.Trees.{CObject, CFun, CMention}
use Rattle.cx_rules.specs.Declare.{thing_named}
use Rattle.cx_rules.specs.Scope.{CThing}
use Rattle.cx_typed_units.proofs.Accounted.{told_named}
use Rattle.cx_typed_units.proofs.ObjectNumbers.{AreNumbered}
use Rattle.cx_typed_units.specs.Account.{CAccount, IsObjectNamed, IsKnownObject, IsObjectThing, IsDefinedBy, IsFunctionThing, IsKnownFun, IsAccounted, AreNamedApart}

-- what a name with linkage stands for, once another may have been declared
pub record IsOnward (name : List ℕ) (things : List CThing) (was : CThing) : Type 0 where
  pub one : CThing
  pub there : thing_named name things ≡ Some one
  pub number_is : one.number ≡ was.number
  pub function_is : one.is_function ≡ was.is_function
  pub defined : was.is_defined ≡ true → one.is_defined ≡ true

-- the names with linkage, where one of them is new, or is declared once more
pub record AreDeclared (few many : List CThing) (name : List ℕ) (new : CThing) : Type 0 where
  pub kept : (other : List ℕ) (was : CThing) → thing_named other few ≡ Some was → IsOnward other many was
  pub were : (other : List ℕ) (one : CThing) → thing_named other many ≡ Some one → ((thing_named other few ≡ Some one) × (other ≡ name → ⊥)) ⊎ ((other ≡ name) × (one ≡ new))
  pub listed : (index : ℕ) (one : CThing) → slice_get many index ≡ Some one → thing_named one.name many ≡ Some one
  pub differ : AreNamedApart few → AreNamedApart many

pub named_onward : (few many : List CThing) (name : List ℕ) (new : CThing) → AreDeclared few many name new → (one : CObject) → IsObjectNamed few one → IsObjectNamed many one
named_onward few many name new declared one was =
    let onward = declared.kept was.name was.thing was.there in
    record {
      name = was.name;
      named = was.named;
      thing = onward.one;
      there = onward.there;
      number_is = onward.number_is ∙ was.number_is;
      object_is = onward.function_is ∙ was.object_is;
    }

abbrev pub declared_account : CAccount → (next_object next_function : ℕ) → List CMention → List CObject → List CThing → CAccount
declared_account few next_object next_function mentions objects things = record few {
  next_object = next_object;
  next_function = next_function;
  mentions = mentions;
  objects = objects;
  things = things;
}

module _ (opens : List ℕ) (pending later : Option (List ℕ)) (few : CAccount) (next_object next_function : ℕ) (mentions : List CMention) (objects : List CObject) (things : List CThing)
    (held : IsAccounted opens pending few) (name : List ℕ) (new : CThing) (declared : AreDeclared few.things things name new) where
  abbrev many : CAccount
  many = declared_account few next_object next_function mentions objects things

  pub record AreChanged : Type 0 where
    -- a mention of another name stays, and so do those of a function
    pub told : (number : ℕ) (one : CMention) → slice_get few.mentions number ≡ Some one → (one.name ≡ name → new.is_function ≡ true) → slice_get mentions number ≡ Some one
    pub more_functions : few.next_function ≤ next_function
    pub numbered : AreNumbered objects few.literals next_object
    -- an object of another name stays
    pub stays : (index : ℕ) (one : CObject) → slice_get few.objects index ≡ Some one → (one.name ≡ Some name → ⊥) → slice_get objects index ≡ Some one
    -- and what is there was there, or is known
    pub known : (index : ℕ) (one : CObject) → slice_get objects index ≡ Some one → (slice_get few.objects index ≡ Some one) ⊎ IsKnownObject opens many one
    -- what was pending under another name is so still, and what is pending has no definition
    pub looser : (other : List ℕ) → (other ≡ name → ⊥) → pending ≡ Some other → later ≡ Some other
    pub awaited : (other : List ℕ) → later ≡ Some other → (index : ℕ) (one : CFun) → slice_get few.functions index ≡ Some one → one.name ≡ other → ⊥
    -- the name itself
    pub own_object : new.is_function ≡ false → IsObjectThing opens later many name new
    pub own_function : new.is_function ≡ true → IsFunctionThing opens later many name new
    pub apart : new.is_function ≡ true → (other : List ℕ) (was : CThing) → thing_named other few.things ≡ Some was → was.is_function ≡ true → was.number ≡ new.number → other ≡ name

  module _ (changed : AreChanged) where
    other_told : (other : List ℕ) → (other ≡ name → ⊥) → (number : ℕ) (one : CMention) → slice_get few.mentions number ≡ Some one → one.name ≡ other → slice_get mentions number ≡ Some one
    other_told other apart number one at named = changed.told number one at (λ same. absurd (apart (sym named ∙ same)))

    fun_told : (fun : CFun) → IsKnownFun few fun → (number : ℕ) (one : CMention) → slice_get few.mentions number ≡ Some one → one.name ≡ fun.name → slice_get mentions number ≡ Some one
    fun_told fun was number one at named = changed.told number one at (λ same. function_by (sym named ∙ same) (declared.were fun.name onward.one onward.there))
      where
        onward : IsOnward fun.name things was.thing
        onward = declared.kept fun.name was.thing was.there

        function_by : fun.name ≡ name → ((thing_named fun.name few.things ≡ Some onward.one) × (fun.name ≡ name → ⊥)) ⊎ ((fun.name ≡ name) × (onward.one ≡ new)) → new.is_function ≡ true
        function_by same (inl at) = absurd (at.1 same)
        function_by same (inr at) = ap (λ (x : CThing). x.is_function) (sym at.1) ∙ (onward.function_is ∙ was.function_is)

    known_by : (index : ℕ) (one : CObject) → (slice_get few.objects index ≡ Some one) ⊎ IsKnownObject opens many one → IsKnownObject opens many one
    known_by index one (inl at) =
        let was = held.objects index one at in
        record { here = was.here; known = was.known; object = was.object; no_text = was.no_text; named = λ linked. named_onward few.things things name new declared one (was.named linked) }
    known_by index one (inr known) = known

    same_name : (one other : List ℕ) → Some one ≡ Some other → one ≡ other
    same_name one other is = cc

    object_by : (other : List ℕ) (one : CThing) → one.is_function ≡ false → ((thing_named other few.things ≡ Some one) × (other ≡ name → ⊥)) ⊎ ((other ≡ name) × (one ≡ new)) → IsObjectThing opens later many other one
    object_by other one object (inl at) =
        let was = held.object_things other one at.0 object in
        record {
          index = was.index;
          one = was.one;
          at = changed.stays was.index was.one was.at (λ is. at.1 (same_name other name (sym was.named ∙ is)));
          number_is = was.number_is;
          linkage_is = was.linkage_is;
          named = was.named;
          type_is = was.type_is;
          fills = was.fills;
          defined = was.defined;
          filled = λ apart is. was.filled (λ waits. apart (changed.looser other at.1 waits)) is;
          internal = was.internal;
          type_told = λ external. told_named few.mentions mentions other (other_told other at.1) _ _ (was.type_told external);
          does_told = λ external. told_named few.mentions mentions other (other_told other at.1) _ _ (was.does_told external);
        }
    object_by other one object (inr at) =
        subst (λ n. IsObjectThing opens later many n one) (sym at.0)
        (subst (λ thing. IsObjectThing opens later many name thing) (sym at.1) (changed.own_object (ap (λ (x : CThing). x.is_function) (sym at.1) ∙ object)))

    defined_by : (other : List ℕ) (one : CThing) → IsDefinedBy opens few other one → IsDefinedBy opens many other one
    defined_by other one was = record {
      index = was.index;
      one = was.one;
      at = was.at;
      number_is = was.number_is;
      named = was.named;
      linkage_is = was.linkage_is;
      fills = was.fills;
    }

    functions_by : (other : List ℕ) (one : CThing) → one.is_function ≡ true → ((thing_named other few.things ≡ Some one) × (other ≡ name → ⊥)) ⊎ ((other ≡ name) × (one ≡ new)) → IsFunctionThing opens later many other one
    functions_by other one function (inl at) =
        let was = held.function_things other one at.0 function in
        record {
          below = (let h : one.number < few.next_function = was.below in let more = changed.more_functions in omega (arith, h, more));
          undefined = λ none. told_named few.mentions mentions other (other_told other at.1) one.linkage _ (was.undefined none);
          defined = λ apart is. defined_by other one (was.defined (λ waits. apart (changed.looser other at.1 waits)) is);
        }
    functions_by other one function (inr at) =
        subst (λ n. IsFunctionThing opens later many n one) (sym at.0)
        (subst (λ thing. IsFunctionThing opens later many name thing) (sym at.1) (changed.own_function (ap (λ (x : CThing). x.is_function) (sym at.1) ∙ function)))

    differ_by : (first second : List ℕ) (one two : CThing) → one.is_function ≡ true → two.is_function ≡ true → one.number ≡ two.number
        → ((thing_named first few.things ≡ Some one) × (first ≡ name → ⊥)) ⊎ ((first ≡ name) × (one ≡ new)) → ((thing_named second few.things ≡ Some two) × (second ≡ name → ⊥)) ⊎ ((second ≡ name) × (two ≡ new))
        → first ≡ second
    differ_by first second one two f g same (inl at) (inl there) = held.functions_differ first second one two at.0 there.0 f g same
    differ_by first second one two f g same (inl at) (inr there) =
        absurd (at.1 (changed.apart (ap (λ (x : CThing). x.is_function) (sym there.1) ∙ g) first one at.0 f (same ∙ ap (λ (x : CThing). x.number) there.1)))
    differ_by first second one two f g same (inr at) (inl there) =
        absurd (there.1 (changed.apart (ap (λ (x : CThing). x.is_function) (sym at.1) ∙ f) second two there.0 g (sym same ∙ ap (λ (x : CThing). x.number) at.1)))
    differ_by first second one two f g same (inr at) (inr there) = at.0 ∙ sym there.0

    fun_by : (one : CFun) → IsKnownFun few one → IsKnownFun many one
    fun_by one was =
        let onward = declared.kept one.name was.thing was.there in
        record {
          here = was.here;
          linked = was.linked;
          thing = onward.one;
          there = onward.there;
          function_is = onward.function_is ∙ was.function_is;
          defined = onward.defined was.defined;
          number_is = onward.number_is ∙ was.number_is;
          told = λ external. told_named few.mentions mentions one.name (fun_told one was) _ _ (was.told external);
        }

    pub thing_accounted : IsAccounted opens later many
    thing_accounted = record {
      objects_differ = changed.numbered.differ;
      literals_differ = changed.numbered.made.differ;
      apart = changed.numbered.made.apart;
      objects_below = changed.numbered.below;
      literals_below = changed.numbered.made.below;
      literals = held.literals;
      objects = λ index one at. known_by index one (changed.known index one at);
      listed = declared.listed;
      things_differ = declared.differ held.things_differ;
      object_things = λ other one there object. object_by other one object (declared.were other one there);
      function_things = λ other one there function. functions_by other one function (declared.were other one there);
      functions_differ = λ first second one two at there f g same. differ_by first second one two f g same (declared.were first one at) (declared.were second two there);
      functions = λ index one at. fun_by one (held.functions index one at);
      bodies_differ = held.bodies_differ;
      awaited = changed.awaited;
    }
