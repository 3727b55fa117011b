-- What a unit keeps account of stays right while it goes on (ISO C99, 6.2.2, 6.7).
use Rattle.std.proofs.Common.{◌≡◌, ◌⊎◌, inl, inr, ℕ, zero, suc, ◌<◌, ◌≤◌, List, length, Option, Some, slice_get, refl, sym, ap, subst, arith}
use Rattle.cx_core.specs.declared.program.Linkage.{Linkage}
use Rattle.cx_core.specs.Trees.{CTypes, CObject, CFun, CMention}
use Rattle.cx_rules.specs.Scope.{CMade, CThing, CScope}
use Rattle.cx_typed.proofs.Numbered.{was_or_new}
use Rattle.cx_typed.proofs.Scopes.{grows_on}
use Rattle.cx_typed.proofs.Walked.{known_stays, well_stays}
use Rattle.cx_typed.specs.Growth.{Gives, Grows}
use Rattle.cx_typed.specs.Scopes.{TakesNumbers, IsWellMade, AreTypedLiterals}
use Rattle.cx_typed_units.proofs.RestNodes.{StaysTo}
use Rattle.cx_typed_units.specs.Account.{CAccount, account_of, IsToldAs, IsKnownObject, IsObjectThing, IsDefinedBy, IsFunctionThing, IsKnownFun, IsAccounted}
use Rattle.cx_typed_units.specs.Rest.{CRest}
use Rattle.cx_typed_units.specs.Stretches.{Continues}

-- ---- mentions

pub told_later : (few many : List CMention) → ((number : ℕ) → Gives (slice_get few number) (slice_get many number)) → (name : List ℕ) (linkage : Linkage) (Says : CMention → Type 0) → IsToldAs few name linkage Says
    → IsToldAs many name linkage Says
told_later few many more name linkage Says held = record {
  index = held.index;
  one = held.one;
  at = more held.index held.one held.at;
  name_is = held.name_is;
  linkage_is = held.linkage_is;
  says = held.says;
}

-- those of one name stay
pub told_named : (few many : List CMention) (name : List ℕ) → ((number : ℕ) (one : CMention) → slice_get few number ≡ Some one → one.name ≡ name → slice_get many number ≡ Some one)
    → (linkage : Linkage) (Says : CMention → Type 0) → IsToldAs few name linkage Says → IsToldAs many name linkage Says
told_named few many name kept linkage Says held = record {
  index = held.index;
  one = held.one;
  at = kept held.index held.one held.at held.name_is;
  name_is = held.name_is;
  linkage_is = held.linkage_is;
  says = held.says;
}

-- ---- the numbers of literals

-- each literal has a number of its own, that no object has
pub record AreApart (objects : List CObject) (literals : List CMade) (next : ℕ) : Type 0 where
  pub differ : (first second : ℕ) (one other : CMade) → slice_get literals first ≡ Some one → slice_get literals second ≡ Some other → one.object ≡ other.object → first ≡ second
  pub apart : (first second : ℕ) (one : CObject) (other : CMade) → slice_get objects first ≡ Some one → slice_get literals second ≡ Some other → one.object ≡ other.object → ⊥
  pub below : (index : ℕ) (one : CMade) → slice_get literals index ≡ Some one → one.object < next

order_of : (one other : ℕ) → (one < other) ⊎ ((one ≡ other) ⊎ (other < one))
order_of zero zero = inr (inl refl)
order_of zero (suc other) = inl (omega arith)
order_of (suc one) zero = inr (inr (omega arith))
order_of (suc one) (suc other) = by_case (order_of one other)
  where
    by_case : (one < other) ⊎ ((one ≡ other) ⊎ (other < one)) → (suc one < suc other) ⊎ ((suc one ≡ suc other) ⊎ (suc other < suc one))
    by_case (inl less) = inl (let h : one < other = less in omega (arith, h))
    by_case (inr (inl same)) = inr (inl (ap suc same))
    by_case (inr (inr more)) = inr (inr (let h : other < one = more in omega (arith, h)))

module _ (before after : CScope) (numbers : TakesNumbers before after) (kept : (number : ℕ) → Gives (slice_get before.literals number) (slice_get after.literals number)) where
  made_before : (index : ℕ) (one : CMade) → slice_get after.literals index ≡ Some one → (slice_get before.literals index ≡ Some one) ⊎ (length before.literals ≤ index)
  made_before index one at = was_or_new before.literals after.literals kept index one at

  both_new : (first second : ℕ) (one other : CMade) → length before.literals ≤ first → length before.literals ≤ second → slice_get after.literals first ≡ Some one → slice_get after.literals second ≡ Some other
      → one.object ≡ other.object → (first < second) ⊎ ((first ≡ second) ⊎ (second < first)) → first ≡ second
  both_new first second one other from from_other at there same (inl less) = absurd (let h : one.object < other.object = numbers.in_order first second one other from less at there in omega (arith, h, same))
  both_new first second one other from from_other at there same (inr (inl is)) = is
  both_new first second one other from from_other at there same (inr (inr more)) =
      absurd (let h : other.object < one.object = numbers.in_order second first other one from_other more there at in omega (arith, h, same))

  module _ (objects : List CObject) (objects_below : (index : ℕ) (one : CObject) → slice_get objects index ≡ Some one → one.object < before.next_object) (held : AreApart objects before.literals before.next_object) where
    differ_by : (first second : ℕ) (one other : CMade) → slice_get after.literals first ≡ Some one → slice_get after.literals second ≡ Some other → one.object ≡ other.object
        → (slice_get before.literals first ≡ Some one) ⊎ (length before.literals ≤ first) → (slice_get before.literals second ≡ Some other) ⊎ (length before.literals ≤ second) → first ≡ second
    differ_by first second one other at there same (inl was) (inl also) = held.differ first second one other was also same
    differ_by first second one other at there same (inl was) (inr new) =
        absurd (let h : one.object < before.next_object = held.below first one was in let k = numbers.literals second other new there in omega (arith, h, k.0, same))
    differ_by first second one other at there same (inr new) (inl was) =
        absurd (let h : other.object < before.next_object = held.below second other was in let k = numbers.literals first one new at in omega (arith, h, k.0, same))
    differ_by first second one other at there same (inr new) (inr also) = both_new first second one other new also at there same (order_of first second)

    apart_by : (first second : ℕ) (one : CObject) (other : CMade) → slice_get objects first ≡ Some one → slice_get after.literals second ≡ Some other → one.object ≡ other.object
        → (slice_get before.literals second ≡ Some other) ⊎ (length before.literals ≤ second) → ⊥
    apart_by first second one other at there same (inl was) = held.apart first second one other at was same
    apart_by first second one other at there same (inr new) =
        let h : one.object < before.next_object = objects_below first one at in let k = numbers.literals second other new there in omega (arith, h, k.0, same)

    below_by : (index : ℕ) (one : CMade) → slice_get after.literals index ≡ Some one → (slice_get before.literals index ≡ Some one) ⊎ (length before.literals ≤ index) → one.object < after.next_object
    below_by index one at (inl was) = let h : one.object < before.next_object = held.below index one was in let more = numbers.grows in omega (arith, h, more)
    below_by index one at (inr new) = (numbers.literals index one new at).1

    pub still_apart : AreApart objects after.literals after.next_object
    still_apart = record {
      differ = λ first second one other at there same. differ_by first second one other at there same (made_before first one at) (made_before second other there);
      apart = λ first second one other at there same. apart_by first second one other at there same (made_before second other there);
      below = λ index one at. below_by index one at (made_before index one at);
    }

-- ---- types grow, and more is told

abbrev pub grown_account : CAccount → CTypes → (next_object next_function : ℕ) → List CMade → List CMention → CAccount
grown_account few types next_object next_function literals mentions = record few {
  types = types;
  next_object = next_object;
  next_function = next_function;
  literals = literals;
  mentions = mentions;
}

module _ (opens : List ℕ) (pending : Option (List ℕ)) (few : CAccount) (types : CTypes) (next_object next_function : ℕ) (literals : List CMade) (mentions : List CMention)
    (grows : Grows opens few.types types) (more : few.next_object ≤ next_object) (more_functions : few.next_function ≤ next_function)
    (told : (number : ℕ) → Gives (slice_get few.mentions number) (slice_get mentions number)) (made : AreApart few.objects literals next_object)
    (kept : (number : ℕ) → Gives (slice_get few.literals number) (slice_get literals number))
    (well : (number : ℕ) (one : CMade) → length few.literals ≤ number → slice_get literals number ≡ Some one → IsWellMade types one) where
  abbrev many : CAccount
  many = grown_account few types next_object next_function literals mentions

  object_later : (one : CObject) → IsKnownObject opens few one → IsKnownObject opens many one
  object_later one held = record {
    here = held.here;
    known = known_stays opens few.types types grows few.unit one.type held.known;
    object = held.object;
    no_text = held.no_text;
    named = held.named;
  }

  thing_later : (name : List ℕ) (thing : CThing) → IsObjectThing opens pending few name thing → IsObjectThing opens pending many name thing
  thing_later name thing held = record {
    index = held.index;
    one = held.one;
    at = held.at;
    number_is = held.number_is;
    linkage_is = held.linkage_is;
    named = held.named;
    type_is = held.type_is;
    fills = λ now growth. held.fills now (grows_on opens few.types types now grows growth);
    defined = held.defined;
    filled = held.filled;
    internal = held.internal;
    type_told = λ external. told_later few.mentions mentions told name _ _ (held.type_told external);
    does_told = λ external. told_later few.mentions mentions told name _ _ (held.does_told external);
  }

  defined_later : (name : List ℕ) (thing : CThing) → IsDefinedBy opens few name thing → IsDefinedBy opens many name thing
  defined_later name thing held = record {
    index = held.index;
    one = held.one;
    at = held.at;
    number_is = held.number_is;
    named = held.named;
    linkage_is = held.linkage_is;
    fills = λ now growth. held.fills now (grows_on opens few.types types now grows growth);
  }

  function_later : (name : List ℕ) (thing : CThing) → IsFunctionThing opens pending few name thing → IsFunctionThing opens pending many name thing
  function_later name thing held = record {
    below = (let h : thing.number < few.next_function = held.below in omega (arith, h, more_functions));
    undefined = λ none. told_later few.mentions mentions told name thing.linkage _ (held.undefined none);
    defined = λ apart is. defined_later name thing (held.defined apart is);
  }

  fun_later : (one : CFun) → IsKnownFun few one → IsKnownFun many one
  fun_later one held = record {
    here = held.here;
    linked = held.linked;
    thing = held.thing;
    there = held.there;
    function_is = held.function_is;
    defined = held.defined;
    number_is = held.number_is;
    told = λ external. told_later few.mentions mentions told one.name _ _ (held.told external);
  }

  well_by : (index : ℕ) (one : CMade) → slice_get literals index ≡ Some one → (slice_get few.literals index ≡ Some one) ⊎ (length few.literals ≤ index)
      → (slice_get few.literals index ≡ Some one → IsWellMade few.types one) → IsWellMade types one
  well_by index one at (inl was) held = well_stays opens few.types types grows one (held was)
  well_by index one at (inr new) held = well index one new at

  pub grown_accounted : IsAccounted opens pending few → IsAccounted opens pending many
  grown_accounted held = record {
    objects_differ = held.objects_differ;
    literals_differ = made.differ;
    apart = made.apart;
    objects_below = λ index one at. let h : one.object < few.next_object = held.objects_below index one at in omega (arith, h, more);
    literals_below = made.below;
    literals = λ index one at. well_by index one at (was_or_new few.literals literals kept index one at) (held.literals index one);
    objects = λ index one at. object_later one (held.objects index one at);
    listed = held.listed;
    things_differ = held.things_differ;
    object_things = λ name one there is. thing_later name one (held.object_things name one there is);
    function_things = λ name one there is. function_later name one (held.function_things name one there is);
    functions_differ = held.functions_differ;
    functions = λ index one at. fun_later one (held.functions index one at);
    bodies_differ = held.bodies_differ;
    awaited = held.awaited;
  }

pub apart_of : (opens : List ℕ) (pending : Option (List ℕ)) (account : CAccount) → IsAccounted opens pending account → AreApart account.objects account.literals account.next_object
apart_of opens pending account held = record { differ = held.literals_differ; apart = held.apart; below = held.literals_below }

-- behind an expression, a type or an initialiser
pub rest_accounted : (opens : List ℕ) (pending : Option (List ℕ)) (before after : CScope) → Continues opens before after → StaysTo before after → TakesNumbers before after
    → AreTypedLiterals opens before after → IsAccounted opens pending (account_of before) → IsAccounted opens pending (account_of after)
rest_accounted opens pending before after declares stays numbers made held =
    subst (λ (rest : CRest). IsAccounted opens pending (record {
      unit = rest.unit;
      types = after.types;
      next_object = after.next_object;
      next_function = rest.next_function;
      literals = after.literals;
      mentions = after.mentions;
      objects = rest.objects;
      functions = rest.functions;
      things = rest.things;
    })) (sym stays.rest_is)
    (grown_accounted opens pending (account_of before) after.types after.next_object before.next_function after.literals after.mentions declares.grows stays.more (omega arith) declares.mentions
    (still_apart before after numbers declares.literals before.objects held.objects_below (apart_of opens pending (account_of before) held)) declares.literals made.well held)
