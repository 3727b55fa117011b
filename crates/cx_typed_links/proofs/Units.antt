-- The types of each unit of a list stand inside those of their program, and the types of a program are types that C allows (ISO C99, 5.1.1.1).
use Rattle.std.proofs.Common.{◌≡◌, ℕ, zero, suc, ◌+◌, Bool, List, [], ◌∷◌, ◌++◌, map, length, All, Option, None, Some, option_map, slice_get, refl, sym, ap, ◌∙◌, subst}
use Rattle.std.proofs.lemmas.List.{length-map}
use Rattle.std.proofs.lemmas.List.Elements.{All-head, All-tail}
use Rattle.cx_core.specs.Linked.{IsTypedUnit}
use Rattle.cx_core.specs.Trees.{CRecord, CRecordTag, CTypes, CUnit}
use Rattle.cx_core.specs.ValidTypes.{AreTypes}
use Rattle.cx_links.specs.Program.{counts_before, types_from, types_of_all}
use Rattle.cx_renumber.specs.Numbers.{CCounts, record_there}
use Rattle.cx_typed_links.proofs.Joined.{joined, rows_before, all_rows, row_stands, row_from, joined_long, none_on, IsFrom}
use Rattle.cx_typed_links.proofs.Records.{made_of_units}
use Rattle.cx_typed_links.proofs.Sizes.{got_as}
use Rattle.cx_typed_links.proofs.Types.{held_by}
use Rattle.cx_typed_links.specs.Embedding.{IsInside, AreUnitTypes, StandsIn, AreMadeOfUnits}

-- ---- the five tables, unit by unit

abbrev HasTypes : CUnit → Type 0
HasTypes one = AreTypes one.types

abbrev records_in : CUnit → ℕ
records_in one = length one.types.records

abbrev enums_in : CUnit → ℕ
enums_in one = length one.types.enums

abbrev tag_rows : ℕ → CUnit → List CRecordTag
tag_rows unit one = one.types.record_tags

abbrev record_unit_rows : ℕ → CUnit → List ℕ
record_unit_rows unit one = one.types.record_units

abbrev enum_rows : ℕ → CUnit → List Bool
enum_rows unit one = one.types.enums

abbrev enum_unit_rows : ℕ → CUnit → List ℕ
enum_unit_rows unit one = one.types.enum_units

abbrev record_rows : List CUnit → ℕ → CUnit → List (Option CRecord)
record_rows units unit one = map (option_map (record_there (counts_before unit units))) one.types.records

-- a table has a row for each record, or for each enumerated type
records_sized : (units : List CUnit) (unit : ℕ) (one : CUnit) → HasTypes one → length (record_rows units unit one) ≡ records_in one
records_sized units unit one types = length-map one.types.records _

tags_sized : (unit : ℕ) (one : CUnit) → HasTypes one → length (tag_rows unit one) ≡ records_in one
tags_sized unit one types = types.tags

record_units_sized : (unit : ℕ) (one : CUnit) → HasTypes one → length (record_unit_rows unit one) ≡ records_in one
record_units_sized unit one types = types.record_units

enums_sized : (unit : ℕ) (one : CUnit) → HasTypes one → length (enum_rows unit one) ≡ enums_in one
enums_sized unit one types = refl

enum_units_sized : (unit : ℕ) (one : CUnit) → HasTypes one → length (enum_unit_rows unit one) ≡ enums_in one
enum_units_sized unit one types = types.enum_units

-- ---- the tables of the program are these

records_are : (units : List CUnit) (unit : ℕ) (others : List CUnit) → joined (record_rows units) unit others ≡ (types_from units unit others).records
records_are units unit [] = refl
records_are units unit (one ∷ others) = ap (λ rest. record_rows units unit one ++ rest) (records_are units (suc unit) others)

tags_are : (units : List CUnit) (unit : ℕ) (others : List CUnit) → joined tag_rows unit others ≡ (types_from units unit others).record_tags
tags_are units unit [] = refl
tags_are units unit (one ∷ others) = ap (λ rest. one.types.record_tags ++ rest) (tags_are units (suc unit) others)

record_units_are : (units : List CUnit) (unit : ℕ) (others : List CUnit) → joined record_unit_rows unit others ≡ (types_from units unit others).record_units
record_units_are units unit [] = refl
record_units_are units unit (one ∷ others) = ap (λ rest. one.types.record_units ++ rest) (record_units_are units (suc unit) others)

enums_are : (units : List CUnit) (unit : ℕ) (others : List CUnit) → joined enum_rows unit others ≡ (types_from units unit others).enums
enums_are units unit [] = refl
enums_are units unit (one ∷ others) = ap (λ rest. one.types.enums ++ rest) (enums_are units (suc unit) others)

enum_units_are : (units : List CUnit) (unit : ℕ) (others : List CUnit) → joined enum_unit_rows unit others ≡ (types_from units unit others).enum_units
enum_units_are units unit [] = refl
enum_units_are units unit (one ∷ others) = ap (λ rest. one.types.enum_units ++ rest) (enum_units_are units (suc unit) others)

records_before : (count : ℕ) (units : List CUnit) → rows_before records_in count units ≡ (counts_before count units).records
records_before zero units = refl
records_before (suc count) [] = refl
records_before (suc count) (one ∷ others) = ap (λ n. records_in one + n) (records_before count others)

enums_before : (count : ℕ) (units : List CUnit) → rows_before enums_in count units ≡ (counts_before count units).enums
enums_before zero units = refl
enums_before (suc count) [] = refl
enums_before (suc count) (one ∷ others) = ap (λ n. enums_in one + n) (enums_before count others)

module _ (units : List CUnit) (typed : All HasTypes units) where
  abbrev whole : CTypes
  whole = types_of_all units

  -- ---- a unit's tables in the program's

  module _ (unit : ℕ) (one : CUnit) (is : slice_get units unit ≡ Some one) where
    abbrev before : CCounts
    before = counts_before unit units

    -- a row of the unit, where the table of the program is the units' own, and so many rows stand before it
    row_inside : {A : Type 0} (rows : ℕ → CUnit → List A) (size : CUnit → ℕ) → ((n : ℕ) (other : CUnit) → HasTypes other → length (rows n other) ≡ size other)
        → (table : List A) → joined rows 0 units ≡ table → (first : ℕ) → rows_before size unit units ≡ first
        → (number : ℕ) (row : A) → slice_get (rows unit one) number ≡ Some row → slice_get table (first + number) ≡ Some row
    row_inside rows size sized table table_is first first_is number row there =
        subst (λ all. slice_get all (first + number) ≡ Some row) table_is
        (subst (λ n. slice_get (joined rows 0 units) (n + number) ≡ Some row) first_is
        (row_stands rows size HasTypes sized 0 units typed unit one is number row
        (subst (λ n. slice_get (rows n one) number ≡ Some row) (sym (none_on unit)) there)))

    pub unit_inside : IsInside before one.types whole
    unit_inside = record {
      records = λ number known there.
          row_inside (record_rows units) records_in (records_sized units) whole.records (records_are units 0 units)
          before.records (records_before unit units) number (option_map (record_there before) known)
          (got_as (option_map (record_there before)) one.types.records number known there);
      tags = λ number known there.
          row_inside tag_rows records_in tags_sized whole.record_tags (tags_are units 0 units)
          before.records (records_before unit units) number known there;
      record_units = λ number known there.
          row_inside record_unit_rows records_in record_units_sized whole.record_units (record_units_are units 0 units)
          before.records (records_before unit units) number known there;
      enums = λ number known there.
          row_inside enum_rows enums_in enums_sized whole.enums (enums_are units 0 units)
          before.enums (enums_before unit units) number known there;
      enum_units = λ number known there.
          row_inside enum_unit_rows enums_in enum_units_sized whole.enum_units (enum_units_are units 0 units)
          before.enums (enums_before unit units) number known there;
    }

    pub unit_types_inside : IsTypedUnit unit one → AreUnitTypes unit before one.types whole
    unit_types_inside held = record { inside = unit_inside; types = held.types; records_here = held.records_here }

  -- ---- each record of the program is one of a unit

  record MappedFrom (first : CCounts) (own : List (Option CRecord)) (number : ℕ) (known : CRecord) : Type 0 where
    before_it : CRecord
    known_is : known ≡ record_there first before_it
    there : slice_get own number ≡ Some (Some before_it)

  mapped_from : (first : CCounts) (own : List (Option CRecord)) (number : ℕ) (known : CRecord)
      → slice_get (map (option_map (record_there first)) own) number ≡ Some (Some known) → MappedFrom first own number known
  mapped_from first [] number known is = absurd cc
  mapped_from first (None ∷ others) zero known is = absurd cc
  mapped_from first (Some one ∷ others) zero known is = record { before_it = one; known_is = (let h : record_there first one ≡ known = cc (is) in sym h); there = refl }
  mapped_from first (other ∷ others) (suc n) known is =
      let found = mapped_from first others n known is in record { before_it = found.before_it; known_is = found.known_is; there = found.there }

  same_some : {X : Type 0} (o : Option X) (x y : X) → o ≡ Some x → o ≡ Some y → x ≡ y
  same_some None x y first second = absurd cc
  same_some (Some z) x y first second = (let h : z ≡ x = cc (first) in let k : z ≡ y = cc (second) in sym h ∙ k)

  typed_at : (others : List CUnit) → All HasTypes others → (at : ℕ) (one : CUnit) → slice_get others at ≡ Some one → HasTypes one
  typed_at [] all at one is = absurd cc
  typed_at (first ∷ others) all zero one is = (let same : first ≡ one = cc (is) in subst HasTypes same (All-head HasTypes first others all))
  typed_at (first ∷ others) all (suc at) one is = typed_at others (All-tail HasTypes first others all) at one is

  stands_in : (number unit : ℕ) (known : CRecord) → slice_get whole.record_units number ≡ Some unit
      → IsFrom (record_rows units) records_in HasTypes (records_sized units) 0 units number (Some known) → StandsIn whole number unit known
  stands_in number unit known unit_is from =
      let first = counts_before from.at units in
      let types = typed_at units typed from.at from.one from.unit_is in
      let row : slice_get (record_rows units from.at from.one) from.number ≡ Some (Some known) =
      subst (λ n. slice_get (record_rows units n from.one) from.number ≡ Some (Some known)) (none_on from.at) from.there in
      let own = mapped_from first from.one.types.records from.number known row in
      let place : number ≡ first.records + from.number =
      from.place_is ∙ ap (λ n. n + from.number) (records_before from.at units) in
      let inside = unit_inside from.at from.one from.unit_is in
      let own_unit = held_by from.one.types.record_units from.one.types.records from.number (Some own.before_it) (sym types.record_units) own.there in
      let same : own_unit.0 ≡ unit =
      same_some (slice_get whole.record_units number) own_unit.0 unit
      (subst (λ n. slice_get whole.record_units n ≡ Some own_unit.0) (sym place) (inside.record_units from.number own_unit.0 own_unit.1)) unit_is in
      record {
        before = first;
        one = from.one.types;
        inside = inside;
        types = types;
        at = from.number;
        own = own.before_it;
        number_is = place;
        known_is = own.known_is;
        there = own.there;
        unit_is = own_unit.1 ∙ ap (λ n. Some n) same;
      }

  made : AreMadeOfUnits whole
  made = record {
    tags =
        sym (ap length (tags_are units 0 units)) ∙ joined_long tag_rows records_in HasTypes tags_sized 0 units typed ∙ records_counted;
    record_units =
        sym (ap length (record_units_are units 0 units)) ∙ joined_long record_unit_rows records_in HasTypes record_units_sized 0 units typed ∙ records_counted;
    enum_units =
        sym (ap length (enum_units_are units 0 units)) ∙ joined_long enum_unit_rows enums_in HasTypes enum_units_sized 0 units typed
        ∙ sym (joined_long enum_rows enums_in HasTypes enums_sized 0 units typed) ∙ ap length (enums_are units 0 units);
    records = λ number unit known there unit_is.
        stands_in number unit known unit_is
        (row_from (record_rows units) records_in HasTypes (records_sized units) 0 units typed number (Some known)
        (subst (λ all. slice_get all number ≡ Some (Some known)) (sym (records_are units 0 units)) there));
  }
    where
      records_counted : all_rows records_in units ≡ length whole.records
      records_counted =
          sym (joined_long (record_rows units) records_in HasTypes (records_sized units) 0 units typed) ∙ ap length (records_are units 0 units)

  -- the types of the program
  pub program_types : AreTypes whole
  program_types = made_of_units whole made
