-- A type of a unit has in the program the size that it has in the unit, and none where it has none there (ISO C99, 6.2.5p1).
use Rattle.std.proofs.Common.{◌≡◌, ℕ, zero, suc, ◌+◌, Bool, Option, None, Some, option_map, slice_get, refl, sym, ap, ◌∙◌}
use Rattle.std.specs.Prelude.{IsSome}
use Rattle.std.specs.Option.{option_and_then, option_flatten}
use Rattle.cx_core.specs.Layouts.{CRow, row_at, array_extent, whole_extent, whole_extent_of, extent, within_most, layouts_of, passes, completed_count, row_of}
use Rattle.cx_core.specs.Trees.{CTy, ty, CTyForm, void, basic, enum_type, pointer, array, record_type, function, CRecord, CTypes}
use Rattle.cx_core.specs.ValidTypes.{IsTypeIn, IsFormIn}
use Rattle.cx_layout.proofs.Builds.{layouts_are}
use Rattle.cx_layout.proofs.Passes.{row_at-pass, passes_none}
use Rattle.cx_layout.specs.Calls.{record_at}
use Rattle.cx_renumber.specs.Numbers.{CCounts, type_there, form_there}
use Rattle.cx_typed_links.proofs.Sizes.{layouts_carried}
use Rattle.cx_typed_links.proofs.Types.{held_by}
use Rattle.cx_typed_links.specs.Embedding.{Gives, AreUnitTypes}

-- what isn't completed isn't laid out
no_row_by : (types : CTypes) (n number : ℕ) → record_at types number ≡ None → row_at (passes n types) number ≡ None
no_row_by types zero number missing = passes_none types number
no_row_by types (suc n) number missing =
    row_at-pass types (passes n types) number ∙ ap (option_and_then (row_of (passes n types))) missing

no_row : (types : CTypes) (number : ℕ) → record_at types number ≡ None → row_at (layouts_of types) number ≡ None
no_row types number missing =
    ap (λ all. row_at all number) (layouts_are types) ∙ no_row_by types (completed_count types.records) number missing

given_alike : (first second : Option CRow) → Gives first second → IsSome first → second ≡ first
given_alike None second gives some = absurd cc
given_alike (Some row) second gives some = gives row refl

module _ (unit : ℕ) (before : CCounts) (one whole : CTypes) (in_unit : AreUnitTypes unit before one whole) where
  row_by : (number : ℕ) → slice_get one.record_units number ≡ Some unit → (known : Option CRecord) → slice_get one.records number ≡ Some known
      → row_at (layouts_of whole) (before.records + number) ≡ row_at (layouts_of one) number
  row_by number here None is =
      no_row whole (before.records + number) (ap option_flatten (in_unit.inside.records number None is))
      ∙ sym (no_row one number (ap option_flatten is))
  row_by number here (Some known) is =
      given_alike (row_at (layouts_of one) number) (row_at (layouts_of whole) (before.records + number))
      (layouts_carried before one whole in_unit.inside number) (in_unit.types.records number unit known is here).laid

  row_same : (number : ℕ) → slice_get one.record_units number ≡ Some unit
      → row_at (layouts_of whole) (before.records + number) ≡ row_at (layouts_of one) number
  row_same number here =
      let known = held_by one.records one.record_units number unit in_unit.types.record_units here in row_by number here known.0 known.1

  mutual
    whole_same : (type : CTy) → IsTypeIn one unit type → whole_extent (layouts_of whole) (type_there before type) ≡ whole_extent (layouts_of one) type
    whole_same (ty form is_const) held = form_same is_const form held

    form_same : (is_const : Bool) (form : CTyForm) → IsFormIn one unit is_const form
        → whole_extent_of (layouts_of whole) (form_there before form) ≡ whole_extent_of (layouts_of one) form
    form_same is_const void held = refl
    form_same is_const (basic which) held = refl
    form_same is_const (enum_type number) held = refl
    form_same is_const (pointer to) held = refl
    form_same is_const (array element length) held = ap (array_extent length) (whole_same element held.0)
    form_same is_const (record_type number) held = ap (option_map (λ row. row.laid)) (row_same number held)
    form_same is_const (function result params variadic) held = refl

  pub size_same : (type : CTy) → IsTypeIn one unit type → extent (layouts_of whole) (type_there before type) ≡ extent (layouts_of one) type
  size_same type held = ap (option_and_then within_most) (whole_same type held)
