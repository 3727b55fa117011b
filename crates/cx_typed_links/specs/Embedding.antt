-- The types of a unit stand inside those of a whole program (ISO C99, 5.1.1.1, 6.2.7): each table of the unit stands in the program's, from the
-- numbers on that the units before it take, and the numbers in it are moved by these.
use Rattle.std.specs.Prelude.{◌≡◌, ℕ, ◌+◌, Option, Some, All, option_map, slice_get, length}
use Rattle.cx_core.specs.Trees.{CRecord, CTypes}
use Rattle.cx_core.specs.ValidTypes.{AreTypes}
use Rattle.cx_renumber.specs.Numbers.{CCounts, record_there}

-- what is there by the first is there by the second
abbrev pub Gives : {X : Type 0} → Option X → Option X → Type 0
Gives {X} first second = (x : X) → first ≡ Some x → second ≡ Some x

-- what is there by the first is there by the second as a function makes it
abbrev pub GivesAs : {X Y : Type 0} → (X → Y) → Option X → Option Y → Type 0
GivesAs {X} f first second = (x : X) → first ≡ Some x → second ≡ Some (f x)

-- the tables of one stand in those of the whole
pub record IsInside (before : CCounts) (one whole : CTypes) : Type 0 where
  pub records : (number : ℕ) → GivesAs (option_map (record_there before)) (slice_get one.records number) (slice_get whole.records (before.records + number))
  pub tags : (number : ℕ) → Gives (slice_get one.record_tags number) (slice_get whole.record_tags (before.records + number))
  pub record_units : (number : ℕ) → Gives (slice_get one.record_units number) (slice_get whole.record_units (before.records + number))
  pub enums : (number : ℕ) → Gives (slice_get one.enums number) (slice_get whole.enums (before.enums + number))
  pub enum_units : (number : ℕ) → Gives (slice_get one.enum_units number) (slice_get whole.enum_units (before.enums + number))

-- the types of a unit, whose records are of this unit alone, inside those of a program
pub record AreUnitTypes (unit : ℕ) (before : CCounts) (one whole : CTypes) : Type 0 where
  pub inside : IsInside before one whole
  pub types : AreTypes one
  pub records_here : All (λ number. number ≡ unit) one.record_units

-- a completed record of a program is one of a unit, renumbered
pub record StandsIn (whole : CTypes) (number unit : ℕ) (known : CRecord) : Type 0 where
  pub before : CCounts
  pub one : CTypes
  pub inside : IsInside before one whole
  pub types : AreTypes one
  pub at : ℕ
  pub own : CRecord
  pub number_is : number ≡ before.records + at
  pub known_is : known ≡ record_there before own
  pub there : slice_get one.records at ≡ Some (Some own)
  pub unit_is : slice_get one.record_units at ≡ Some unit

-- the tables of a program, each of whose completed records is one of a unit
pub record AreMadeOfUnits (whole : CTypes) : Type 0 where
  pub tags : length whole.record_tags ≡ length whole.records
  pub record_units : length whole.record_units ≡ length whole.records
  pub enum_units : length whole.enum_units ≡ length whole.enums
  pub records : (number unit : ℕ) (known : CRecord) → slice_get whole.records number ≡ Some (Some known)
      → slice_get whole.record_units number ≡ Some unit → StandsIn whole number unit known
