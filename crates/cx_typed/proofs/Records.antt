-- Sound types of a unit stay sound where a structure or union is declared (ISO C99, 6.7.2.1, 6.7.2.3).
use Rattle.std.proofs.Common.{◌≡◌, ◌⊎◌, inl, inr, ⊎_elim, ℕ, zero, suc, ◌<◌, ◌≤◌, Bool, List, [], ◌∷◌, ◌++◌, length, Option, None, Some, All, slice_get, refl, sym, ap, subst, arith}
use Rattle.std.proofs.lemmas.List.Elements.{All-nil, All-cons, All-head, All-tail}
use Rattle.std.specs.Prelude.{IsSome, IfSome}
use Rattle.std.specs.Option.{option_flatten}
use Rattle.cx_core.specs.Conversions.{basic_of, rank}
use Rattle.cx_core.specs.declared.ty.Basic.TheVariants.{Int}
use Rattle.cx_core.specs.Layouts.{row_at, layouts_of}
use Rattle.cx_core.specs.Trees.{form_of_type, CMember, CRecord, CTypes}
use Rattle.cx_core.specs.ValidTypes.{IsBitFieldOf, IsMemberIn, IsRecordIn, most_bits}
use Rattle.cx_rules.specs.Scope.{CScope, with_record}
use Rattle.cx_typed.proofs.Growing.{some_stays, type_stays, complete_stays, basic_grows, layouts_grow}
use Rattle.cx_typed.proofs.Scopes.{kept_before, within}
use Rattle.cx_typed.proofs.Walked.{settled_form, integer_stays}
use Rattle.cx_typed.specs.Growth.{Gives, Grows, IsSettled}
use Rattle.cx_typed.specs.Records.{RecordsStaySound}
use Rattle.cx_typed.specs.Sound.{AreSound}

-- ---- what is there stays

if_stays : {X : Type 0} (P : X → Type 0) (few many : Option X) → Gives few many → IsSome few → IfSome few P → IfSome many P
if_stays P None many more some held = absurd cc
if_stays P (Some x) many more some held = subst (λ o. IfSome o P) (sym (more x refl)) held

if_more : {X : Type 0} (P Q : X → Type 0) (found : Option X) → ((x : X) → P x → Q x) → IfSome found P → IfSome found Q
if_more P Q None each held = held
if_more P Q (Some x) each held = each x held

module _ (opens : List ℕ) (before after : CTypes) (unit : ℕ) (grows : Grows opens before after) where
  bits_stay : (one : CMember) (width : ℕ) → IsSettled opens one.type → IsBitFieldOf before one width → IsBitFieldOf after one width
  bits_stay one width settled held =
      let more = basic_grows opens before after grows (form_of_type one.type) (settled_form opens before after grows unit one.type settled) in
      record {
        integer = integer_stays opens before after grows unit one.type settled held.integer;
        narrow = if_stays (λ which. rank which ≤ rank Int) (basic_of before (form_of_type one.type)) (basic_of after (form_of_type one.type)) more held.integer held.narrow;
        fits = if_stays (λ which. width ≤ most_bits which) (basic_of before (form_of_type one.type)) (basic_of after (form_of_type one.type)) more held.integer held.fits;
        named = held.named;
      }

  member_stays : (one : CMember) → IsSettled opens one.type → IsMemberIn before unit one → IsMemberIn after unit one
  member_stays one settled held = record {
    type_in = type_stays opens before after grows unit one.type held.type_in;
    complete = complete_stays opens before after grows one.type held.complete;
    bits = if_more (IsBitFieldOf before one) (IsBitFieldOf after one) one.bits (λ width is. bits_stay one width settled is) held.bits;
    named = held.named;
  }

  pub members_stay : (members : List CMember) → All (λ member. IsSettled opens member.type) members → All (IsMemberIn before unit) members → All (IsMemberIn after unit) members
  members_stay [] settled held = All-nil (IsMemberIn after unit)
  members_stay (first ∷ others) settled held =
      All-cons (IsMemberIn after unit) first others
      (member_stays first (All-head (λ member. IsSettled opens member.type) first others settled) (All-head (IsMemberIn before unit) first others held))
      (members_stay others (All-tail (λ member. IsSettled opens member.type) first others settled) (All-tail (IsMemberIn before unit) first others held))

  pub record_stays : (number : ℕ) (one : CRecord) → All (λ member. IsSettled opens member.type) one.members → IsRecordIn before number unit one → IsRecordIn after number unit one
  record_stays number one settled held = record {
    number_is = held.number_is;
    tag_is = grows.tags number _ held.tag_is;
    members = members_stay one.members settled held.members;
    names_differ = held.names_differ;
    named = held.named;
    laid = some_stays (row_at (layouts_of before) number) (row_at (layouts_of after) number) (layouts_grow opens before after grows number) held.laid;
  }

-- ---- one more at the end of a list

pub one_longer : {X Y : Type 0} (xs : List X) (ys : List Y) (x : X) (y : Y) → length xs ≡ length ys → length (xs ++ x ∷ []) ≡ length (ys ++ y ∷ [])
one_longer [] [] x y same = refl
one_longer [] (b ∷ ys) x y same = absurd cc
one_longer (a ∷ xs) [] x y same = absurd cc
one_longer (a ∷ xs) (b ∷ ys) x y same = (let e : length xs ≡ length ys = cc in ap suc (one_longer xs ys x y e))

pub was_there : {X : Type 0} (xs : List X) (last : X) (number : ℕ) (x : X) → slice_get (xs ++ last ∷ []) number ≡ Some x → (slice_get xs number ≡ Some x) ⊎ (x ≡ last)
was_there [] last zero x is = inr cc
was_there [] last (suc number) x is = absurd cc
was_there (first ∷ xs) last zero x is = inl is
was_there (first ∷ xs) last (suc number) x is = was_there xs last number x is

pub in_front : {X : Type 0} (xs ys : List X) (number : ℕ) (x : X) → number < length xs → slice_get (xs ++ ys) number ≡ Some x → slice_get xs number ≡ Some x
in_front [] ys number x less is = absurd (omega arith)
in_front (first ∷ xs) ys zero x less is = is
in_front (first ∷ xs) ys (suc number) x less is = in_front xs ys number x (omega arith) is

flat_stays : {X : Type 0} (xs : List (Option X)) (number : ℕ) (x : X) → option_flatten (slice_get xs number) ≡ Some x → option_flatten (slice_get (xs ++ None ∷ []) number) ≡ Some x
flat_stays [] number x is = absurd cc
flat_stays (first ∷ xs) zero x is = is
flat_stays (first ∷ xs) (suc number) x is = flat_stays xs number x is

flat_was : {X : Type 0} (xs : List (Option X)) (number : ℕ) (x : X) → option_flatten (slice_get (xs ++ None ∷ []) number) ≡ Some x → option_flatten (slice_get xs number) ≡ Some x
flat_was [] zero x is = absurd cc
flat_was [] (suc number) x is = absurd cc
flat_was (first ∷ xs) zero x is = is
flat_was (first ∷ xs) (suc number) x is = flat_was xs number x is

whole_was : {X : Type 0} (xs : List (Option X)) (number : ℕ) (x : X) → slice_get (xs ++ None ∷ []) number ≡ Some (Some x) → slice_get xs number ≡ Some (Some x)
whole_was [] zero x is = absurd cc
whole_was [] (suc number) x is = absurd cc
whole_was (first ∷ xs) zero x is = is
whole_was (first ∷ xs) (suc number) x is = whole_was xs number x is

-- ---- a structure or union is declared

module _ (opens : List ℕ) (scope : CScope) (name : Option (List ℕ)) (is_union : Bool) (sound : AreSound opens scope.types scope.unit) where
  abbrev more : CTypes
  more = (with_record name is_union scope).types

  pub more_grows : Grows opens scope.types more
  more_grows = record {
    records = λ number x is. flat_stays scope.types.records number x is;
    tags = λ number x is. kept_before scope.types.record_tags _ number x is;
    record_units = λ number x is. kept_before scope.types.record_units _ number x is;
    enum_units = λ number x is. is;
    enums = λ number closed x is. is;
  }

  record_in : (number unit : ℕ) (one : CRecord) → slice_get more.records number ≡ Some (Some one) → slice_get more.record_units number ≡ Some unit → IsRecordIn more number unit one
  record_in number unit one is unit_is =
      let was = whole_was scope.types.records number one is in
      let less : number < length scope.types.record_units = subst (λ n. number < n) (sym sound.types_are.record_units) (within scope.types.records number (Some one) was) in
      record_stays opens scope.types more unit more_grows number one (sound.settled number one (ap option_flatten was))
      (sound.types_are.records number unit one was (in_front scope.types.record_units (scope.unit ∷ []) number unit less unit_is))

  pub more_sound : AreSound opens more scope.unit
  more_sound = record {
    types_are = record {
      tags = one_longer scope.types.record_tags scope.types.records _ None sound.types_are.tags;
      record_units = one_longer scope.types.record_units scope.types.records scope.unit None sound.types_are.record_units;
      enum_units = sound.types_are.enum_units;
      records = λ number unit one is unit_is. record_in number unit one is unit_is;
    };
    records_here = λ number other is. ⊎_elim (sound.records_here number other) (λ same. same) (was_there scope.types.record_units scope.unit number other is);
    enums_here = sound.enums_here;
    settled = λ number one is. sound.settled number one (flat_was scope.types.records number one is);
    opens_here = sound.opens_here;
  }

pub records_sound : RecordsStaySound
records_sound = record {
  kept = λ opens before after unit number one grows settled held. record_stays opens before after unit grows number one settled held;
  declared = λ opens scope name is_union sound. record { grows = more_grows opens scope name is_union sound; sound = more_sound opens scope name is_union sound };
}
