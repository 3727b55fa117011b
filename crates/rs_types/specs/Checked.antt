-- What the check of a crate answers.
use Rattle.std.specs.Prelude.{⊤, ℕ, Result, Ok, Err}
use Rattle.rs_mean.specs.Typing.{ItemPlace}
use Rattle.rs_types.specs.declared.checked.Place.{Place}
use Rattle.rs_types.specs.declared.checked.TypeFault.{TypeFault}
use Rattle.rs_types.specs.declared.checked.TypeFault.TheVariants.{IllTyped, Memory}

abbrev pub place : ℕ → ℕ → ItemPlace
place unit item = record { mod_number = unit; item_number = item }

-- which place in a crate a declared one is
abbrev pub place_view : Place → ItemPlace
place_view one = place one.unit one.item

-- what is said of the place, where the answer is that a crate is ill typed
abbrev pub IfIllTyped : {A : Type 0} → Result A TypeFault → (ItemPlace → Type 0) → Type 0
IfIllTyped (Ok value) says = ⊤
IfIllTyped (Err (IllTyped unit item)) says = says (place unit item)
IfIllTyped (Err Memory) says = ⊤
