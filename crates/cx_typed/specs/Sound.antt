-- Sound types of a unit while it is read (ISO C99, 6.7.2.1 to 6.7.2.3).
use Rattle.std.specs.Prelude.{◌≡◌, ℕ, ◌≤◌, false, List, length, Some, All, slice_get}
use Rattle.cx_core.specs.Trees.{CRecord, CTypes}
use Rattle.cx_core.specs.ValidTypes.{AreTypes}
use Rattle.cx_layout.specs.Calls.{record_at}
use Rattle.cx_typed.specs.Growth.{is_open, IsSettled}

-- all are of one unit, each completed record is one that C allows, and none names an enumerated type whose list hasn't ended
pub record AreSound (opens : List ℕ) (types : CTypes) (unit : ℕ) : Type 0 where
  pub types_are : AreTypes types
  pub records_here : (number other : ℕ) → slice_get types.record_units number ≡ Some other → other ≡ unit
  pub enums_here : (number other : ℕ) → slice_get types.enum_units number ≡ Some other → other ≡ unit
  pub settled : (number : ℕ) (one : CRecord) → record_at types number ≡ Some one → All (λ member. IsSettled opens member.type) one.members
  -- the lists that haven't ended are those of types of the unit
  pub opens_here : (number : ℕ) → length types.enums ≤ number → is_open opens number ≡ false
