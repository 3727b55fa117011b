-- Tables that lay out the same records tell the same places of members.
use Rattle.std.proofs.Common.{◌≡◌, ℕ, ap, ◌∙◌, refl}
use Rattle.std.specs.Prelude.{Option, None, Some, slice_get}
use Rattle.cx_core.specs.Layouts.{CLayouts, CRow, row_at, layouts_of}
use Rattle.cx_core.specs.Trees.{CTypes, record_type}
use Rattle.cx_core.specs.ValidTypes.{spot_of}
use Rattle.cx_layout.specs.Calls.{AreLayoutsOf, spot_at}
use Rattle.std.specs.Option.{option_and_then}

spot_as : (types : CTypes) (number index : ℕ) (row : Option CRow) → row_at (layouts_of types) number ≡ row
    → option_and_then (λ one. slice_get one.spots index) row ≡ spot_of types (record_type number) index
spot_as types number index None is = rw is refl
spot_as types number index (Some row) is = rw is refl

pub same_spot : (types : CTypes) (layouts : CLayouts) → AreLayoutsOf types layouts → (number index : ℕ)
    → spot_at layouts number index ≡ spot_of types (record_type number) index
same_spot types layouts are number index =
    ap (option_and_then (λ (row : CRow). slice_get row.spots index)) (are number) ∙ spot_as types number index (row_at (layouts_of types) number) refl
