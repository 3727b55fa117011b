-- Which place of a field a value of src/ is.
use Rattle.rs_mean.specs.Layout.{FieldPlace}
use Rattle.rs_tree.specs.Views.{ty_view}
use Rattle.rs_layout.specs.declared.places.PlacedField.{PlacedField}

abbrev pub place_view : PlacedField → FieldPlace
place_view place = record { ty = ty_view place.ty.now; byte = place.byte }
