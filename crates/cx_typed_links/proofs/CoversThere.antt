-- A type that says all that another one says does so in a program as in its unit (ISO C99, 6.2.7p3).
use Rattle.std.proofs.Common.{◌≡◌, ℕ, ◌+◌, Bool, true, ◌&&◌, Option, None, Some, option_map, slice_get, refl, sym, ap, ◌∙◌, subst}
use Rattle.cx_core.specs.declared.ty.Basic.{Basic}
use Rattle.cx_core.specs.Compatible.{same_basics, is_kept_by_promotions, are_kept_by_promotions}
use Rattle.cx_core.specs.Conversions.{basic_of, basic_of_enum}
use Rattle.cx_core.specs.Trees.{CTy, ty, CTyForm, void, basic, enum_type, pointer, array, record_type, function, CParams, unlisted, listed, CTys, no_types, more_types, CTypes}
use Rattle.cx_renumber.specs.Numbers.{CCounts, type_there, form_there, params_there, types_there}
use Rattle.cx_typed_links.specs.Embedding.{Gives}
use Rattle.cx_typed_units.specs.Covers.{Covers, CoversForm, CoversParams, CoversTypes}

module _ (one whole : CTypes) (before : CCounts) (kinds : (number : ℕ) → Gives (slice_get one.enums number) (slice_get whole.enums (before.enums + number))) where
  kept_there : (form : CTyForm) → is_kept_by_promotions (form_there before form) ≡ is_kept_by_promotions form
  kept_there void = refl
  kept_there (basic which) = refl
  kept_there (enum_type number) = refl
  kept_there (pointer to) = refl
  kept_there (array element length) = refl
  kept_there (record_type number) = refl
  kept_there (function result params variadic) = refl

  all_kept_there : (types : CTys) → are_kept_by_promotions (types_there before types) ≡ are_kept_by_promotions types
  all_kept_there no_types = refl
  all_kept_there (more_types (ty form is_const) others) = ap (λ b. b && are_kept_by_promotions (types_there before others)) (kept_there form) ∙ ap (λ b. is_kept_by_promotions form && b) (all_kept_there others)

  basic_there : (which : Basic) (number : ℕ) (found : Option Bool) → slice_get one.enums number ≡ found → same_basics (Some which) (option_map basic_of_enum found) ≡ true
      → same_basics (Some which) (basic_of whole (enum_type (before.enums + number))) ≡ true
  basic_there which number None is held = absurd cc
  basic_there which number (Some kind) is held = subst (λ found. same_basics (Some which) (option_map basic_of_enum found) ≡ true) (sym (kinds number kind is)) held

  mutual
    pub covers_there : (type part : CTy) → Covers one type part → Covers whole (type_there before type) (type_there before part)
    covers_there (ty form is_const) (ty part part_const) covers = (covers.0, covers_form_there form part covers.1)

    covers_form_there : (form part : CTyForm) → CoversForm one form part → CoversForm whole (form_there before form) (form_there before part)
    covers_form_there void void covers = tt
    covers_form_there (basic which) (basic part) covers = covers
    covers_form_there (enum_type number) (basic part) covers = basic_there part number (slice_get one.enums number) refl covers
    covers_form_there (enum_type number) (enum_type part) covers = ap (λ n. before.enums + n) covers
    covers_form_there (record_type number) (record_type part) covers = ap (λ n. before.records + n) covers
    covers_form_there (pointer to) (pointer part) covers = covers_there to part covers
    covers_form_there (array element length) (array part part_length) covers = (covers.0, covers_there element part covers.1)
    covers_form_there (function result params more) (function part parts part_more) covers = (covers_there result part covers.0, covers_params_there params parts more part_more covers.1)
    covers_form_there form part covers = absurd covers

    covers_params_there : (params parts : CParams) (more part_more : Bool) → CoversParams one params more parts part_more → CoversParams whole (params_there before params) more (params_there before parts) part_more
    covers_params_there unlisted unlisted more part_more covers = covers
    covers_params_there unlisted (listed parts) more part_more covers = absurd covers
    covers_params_there (listed types) unlisted more part_more covers = (covers.0, all_kept_there types ∙ covers.1)
    covers_params_there (listed types) (listed parts) more part_more covers = (covers.0, covers_types_there types parts covers.1)

    covers_types_there : (types parts : CTys) → CoversTypes one types parts → CoversTypes whole (types_there before types) (types_there before parts)
    covers_types_there no_types no_types covers = tt
    covers_types_there no_types (more_types part parts) covers = absurd covers
    covers_types_there (more_types (ty form is_const) types) no_types covers = absurd covers
    covers_types_there (more_types (ty form is_const) types) (more_types (ty part part_const) parts) covers = (covers_form_there form part covers.0, covers_types_there types parts covers.1)
