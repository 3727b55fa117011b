-- The records of a unit are records of the program, and the types of a program that is made of typed units are types that C allows (ISO C99, 6.7.2.1).
use Rattle.std.proofs.Common.{◌≡◌, ℕ, ◌+◌, ◌≤◌, List, [], ◌∷◌, map, length, All, Option, None, Some, bytes_eq, refl, sym, ap, subst}
use Rattle.std.specs.Prelude.{IfSome, ◌<◌}
use Rattle.std.specs.List.{IsDistinct}
use Rattle.std.proofs.lemmas.List.Elements.{All-nil, All-cons, All-head, All-tail}
use Rattle.cx_core.specs.declared.ty.Basic.{Basic}
use Rattle.cx_core.specs.declared.ty.Basic.TheVariants.{Int}
use Rattle.cx_core.specs.Conversions.{basic_of, rank}
use Rattle.cx_core.specs.Layouts.{row_at, layouts_of}
use Rattle.cx_core.specs.Trees.{form_of_type, CMember, CRecord, CTypes}
use Rattle.cx_core.specs.ValidTypes.{most_bits, names_of_members, IsBitFieldOf, IsMemberIn, IsRecordIn, AreTypes}
use Rattle.cx_renumber.specs.Numbers.{CCounts, type_there, member_there, record_there}
use Rattle.cx_typed_links.proofs.Sizes.{layouts_carried, complete_there, some_stays}
use Rattle.cx_typed_links.proofs.Types.{type_in_there, basic_same, integer_there}
use Rattle.cx_typed_links.specs.Embedding.{IsInside, StandsIn, AreMadeOfUnits}

-- what is said of an optional value is said of another that it implies
if_some_goes : {X : Type 0} (P Q : X → Type 0) (o : Option X) → ((x : X) → P x → Q x) → IfSome o P → IfSome o Q
if_some_goes P Q None goes held = held
if_some_goes P Q (Some x) goes held = goes x held

pub all_mapped : {X Y : Type 0} (P : X → Type 0) (Q : Y → Type 0) (f : X → Y) (xs : List X) → ((x : X) → P x → Q (f x)) → All P xs → All Q (map f xs)
all_mapped P Q f [] goes all = All-nil Q
all_mapped P Q f (x ∷ xs) goes all =
    All-cons Q (f x) (map f xs) (goes x (All-head P x xs all)) (all_mapped P Q f xs goes (All-tail P x xs all))

module _ (before : CCounts) where
  names_there : (members : List CMember) → names_of_members (map (member_there before) members) ≡ names_of_members members
  names_there [] = refl
  names_there (one ∷ others) =
      ap (λ names. elim one.name as (λ _. List (List ℕ)) [
        | None ↦ names
        | Some name ↦ name ∷ names
      ]) (names_there others)

  module _ (one whole : CTypes) (inside : IsInside before one whole) (enum_units : length one.enum_units ≡ length one.enums) (unit : ℕ) where
    bit_field_there : (member : CMember) (width : ℕ) → IsMemberIn one unit member → IsBitFieldOf one member width → IsBitFieldOf whole (member_there before member) width
    bit_field_there member width in_unit held =
        let same : basic_of whole (form_of_type (type_there before member.type)) ≡ basic_of one (form_of_type member.type) =
        basic_same before one whole inside enum_units unit member.type in_unit.type_in in
        record {
          integer = integer_there before one whole inside enum_units unit member.type in_unit.type_in held.integer;
          narrow = subst (λ (found : Option Basic). IfSome found (λ which. rank which ≤ rank Int)) (sym same) held.narrow;
          fits = subst (λ (found : Option Basic). IfSome found (λ which. width ≤ most_bits which)) (sym same) held.fits;
          named = held.named;
        }

    member_in_there : (member : CMember) → IsMemberIn one unit member → IsMemberIn whole unit (member_there before member)
    member_in_there member held = record {
      type_in = type_in_there before one whole inside unit member.type held.type_in;
      complete = complete_there before one whole inside member.type held.complete;
      bits = if_some_goes (IsBitFieldOf one member) (IsBitFieldOf whole (member_there before member)) member.bits
          (λ width bits. bit_field_there member width held bits) held.bits;
      named = held.named;
    }

    pub record_in_there : (number : ℕ) (known : CRecord) → IsRecordIn one number unit known
        → IsRecordIn whole (before.records + number) unit (record_there before known)
    record_in_there number known held = record {
      number_is = ap (λ n. before.records + n) held.number_is;
      tag_is = inside.tags number (record { tag = known.tag; is_union = known.is_union }) held.tag_is;
      members = all_mapped (IsMemberIn one unit) (IsMemberIn whole unit) (member_there before) known.members member_in_there held.members;
      names_differ = subst (λ names. IsDistinct bytes_eq names) (sym (names_there known.members)) held.names_differ;
      named = subst (λ (names : List (List ℕ)). 0 < length names) (sym (names_there known.members)) held.named;
      laid = some_stays (row_at (layouts_of one) number) (row_at (layouts_of whole) (before.records + number))
          (layouts_carried before one whole inside number) held.laid;
    }

-- a record of a program that is one of a unit
record_stands : (whole : CTypes) (number unit : ℕ) (known : CRecord) → StandsIn whole number unit known → IsRecordIn whole number unit known
record_stands whole number unit known stands =
    subst (λ n. IsRecordIn whole n unit known) (sym stands.number_is)
    (subst (λ found. IsRecordIn whole (stands.before.records + stands.at) unit found) (sym stands.known_is)
    (record_in_there stands.before stands.one whole stands.inside stands.types.enum_units unit stands.at stands.own
    (stands.types.records stands.at unit stands.own stands.there stands.unit_is)))

pub made_of_units : (whole : CTypes) → AreMadeOfUnits whole → AreTypes whole
made_of_units whole made = record {
  tags = made.tags;
  record_units = made.record_units;
  enum_units = made.enum_units;
  records = λ number unit known there unit_is. record_stands whole number unit known (made.records number unit known there unit_is);
}
