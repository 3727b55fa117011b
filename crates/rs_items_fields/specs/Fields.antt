-- How a member of a structure or union of C is written in Rust: by the name of the field that stands where it stands, with its type (ISO C99, 6.5.2.3).
use Rattle.std.specs.Prelude.{ℕ, ◌==◌, ◌&&◌, Bool, if◌then◌else◌, List, [], ◌∷◌, Option, None, Some}
use Rattle.std.specs.Option.{option_and_then}
use Rattle.cr_base.specs.declared.layout.Spot.{Spot}
use Rattle.rs_items.specs.Known.{MemberField, Names}
use Rattle.rs_mean.specs.Scalars.{same_type}
use Rattle.rs_text.specs.Tree.{Ty}

-- a field stands at this byte with this type
abbrev pub stands_at : (byte : ℕ) → Ty → MemberField → Bool
stands_at byte type one = one.byte == byte && same_type one.ty type

-- the name of the first of these fields that does
abbrev pub name_at : (byte : ℕ) → Ty → List MemberField → Option (List ℕ)
name_at byte type [] = None
name_at byte type (one ∷ others) = if stands_at byte type one then Some one.name else name_at byte type others

-- the name of the field of a member that is no bit-field, by the number of its structure or union, the spot at which it stands and its Rust type: none where no record
-- of that number was written, or no member stands there with that type
abbrev pub field_name : Names → (number : ℕ) → Spot → Ty → Option (List ℕ)
field_name names number spot type = option_and_then (name_at spot.byte type) (names.fields number)
