-- A row is that of its record.
use Rattle.std.proofs.Common.{◌≡◌, ℕ, zero, suc, Option, Some, None, option_map, slice_get, sym, ap, ◌∙◌}
use Rattle.std.proofs.lemmas.Option.{slice_get-map}
use Rattle.std.specs.Option.{option_and_then, option_flatten}
use Rattle.cx_core.specs.Layouts.{CRow, completed_count, layouts_of, passes, row_at, row_of}
use Rattle.cx_core.specs.Trees.{CRecord, CTypes}
use Rattle.rs_items.specs.Laid.{IsLaidOut}

-- ---- a row is that of its record

module _ (types : CTypes) (number : ℕ) (one : CRecord) (row : CRow) (there : slice_get types.records number ≡ Some (Some one)) where
  in_passes : (n : ℕ) → row_at (passes n types) number ≡ Some row → IsLaidOut one row.spots row.laid.size row.laid.align
  in_passes zero is =
      let none : row_at (passes 0 types) number ≡ None =
      ap option_flatten (slice_get-map (λ (_ : Option CRecord). None) types.records number ∙ ap (option_map (λ (_ : Option CRecord). None)) there) in
      cc
  in_passes (suc n) is =
      let here : row_at (passes (suc n) types) number ≡ row_of (passes n types) one =
      ap option_flatten (slice_get-map (option_and_then (row_of (passes n types))) types.records number ∙ ap (option_map (option_and_then (row_of (passes n types)))) there) in
      record { layouts = passes n types; row = sym here ∙ is }

  pub is_laid_out : row_at (layouts_of types) number ≡ Some row → IsLaidOut one row.spots row.laid.size row.laid.align
  unfolding layouts_of
  is_laid_out is = in_passes (completed_count types.records) is
