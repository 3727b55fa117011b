-- Sizes by tables that lay out the same records are the same.
use Rattle.std.proofs.Common.{◌≡◌, refl, ap}
use Rattle.std.specs.Prelude.{option_map}
use Rattle.std.specs.Option.{option_and_then}
use Rattle.cx_core.specs.Layouts.{CLayouts, CRow, whole_extent, whole_extent_of, extent, array_extent, within_most}
use Rattle.cx_core.specs.Trees.{CTy, ty, CTyForm, void, basic, enum_type, pointer, array, record_type, function}
use Rattle.cx_layout.specs.Calls.{HaveSameRows}

module _ (one other : CLayouts) (same : HaveSameRows one other) where
  mutual
    pub same_extent : (type : CTy) → whole_extent one type ≡ whole_extent other type
    same_extent (ty form is_const) = same_extent_of form

    same_extent_of : (form : CTyForm) → whole_extent_of one form ≡ whole_extent_of other form
    same_extent_of void = refl
    same_extent_of (basic which) = refl
    same_extent_of (enum_type number) = refl
    same_extent_of (pointer to) = refl
    same_extent_of (array element length) = ap (array_extent length) (same_extent element)
    same_extent_of (record_type number) = ap (option_map (λ (row : CRow). row.laid)) (same number)
    same_extent_of (function result params variadic) = refl

  pub same_complete : (type : CTy) → extent one type ≡ extent other type
  same_complete type = ap (option_and_then within_most) (same_extent type)
