-- Layouts stay those of the types where a record is declared, and where no record changes.
use Rattle.std.proofs.Common.{◌≡◌, ℕ, zero, suc, List, [], ◌∷◌, ◌++◌, map, Option, None, Some, IsSome, option_map, slice_get, refl, sym, ap, ◌∙◌, subst}
use Rattle.std.specs.Option.{option_and_then, option_flatten}
use Rattle.cx_context.specs.Laid.{IsLaid}
use Rattle.cx_core.specs.Layouts.{CLayouts, row_at, array_extent, whole_extent, whole_extent_of, piece, piece_of, put_front, pieces_of, row_of_pieces, row_of, passes, completed_count, layouts_of}
use Rattle.cx_core.specs.Trees.{CTy, ty, CTyForm, void, basic, enum_type, pointer, array, record_type, function, CMember, CRecord, CTypes}
use Rattle.cx_layout.specs.Calls.{HaveSameRows, record_at}

-- ---- tables with the same rows

module _ (one other : CLayouts) (same : HaveSameRows one other) where
  mutual
    same_extent : (type : CTy) → whole_extent one type ≡ whole_extent other type
    same_extent (ty form is_const) = same_form form

    same_form : (form : CTyForm) → whole_extent_of one form ≡ whole_extent_of other form
    same_form void = refl
    same_form (basic which) = refl
    same_form (enum_type number) = refl
    same_form (pointer to) = refl
    same_form (array element length) = ap (array_extent length) (same_extent element)
    same_form (record_type number) = ap (option_map (λ row. row.laid)) (same number)
    same_form (function result params variadic) = refl

  same_pieces : (members : List CMember) → pieces_of one members ≡ pieces_of other members
  same_pieces [] = refl
  same_pieces (first ∷ others) =
      ap (λ extent. put_front (option_map (piece first) extent) (pieces_of one others)) (same_extent first.type)
      ∙ ap (put_front (piece_of other first)) (same_pieces others)

  pub same_row : (record_is : CRecord) → row_of one record_is ≡ row_of other record_is
  same_row record_is = ap (option_and_then (row_of_pieces record_is.is_union)) (same_pieces record_is.members)

  same_rows : (found : Option CRecord) → option_and_then (row_of one) found ≡ option_and_then (row_of other) found
  same_rows None = refl
  same_rows (Some record_is) = same_row record_is

-- ---- passes

flat_pass : {X Y : Type 0} (f : X → Option Y) (xs : List (Option X)) (number : ℕ) →
    option_flatten (slice_get (map (option_and_then f) xs) number) ≡ option_and_then f (option_flatten (slice_get xs number))
flat_pass f [] number = refl
flat_pass f (x ∷ xs) zero = refl
flat_pass f (x ∷ xs) (suc n) = flat_pass f xs n

none_at : {X Y : Type 0} (xs : List X) (number : ℕ) → option_flatten {T = Y} (slice_get (map (λ _. None) xs) number) ≡ None
none_at [] number = refl
none_at (x ∷ xs) zero = refl
none_at (x ∷ xs) (suc n) = none_at xs n

declared_at : (records : List (Option CRecord)) (number : ℕ) → option_flatten (slice_get (records ++ None ∷ []) number) ≡ option_flatten (slice_get records number)
declared_at [] zero = refl
declared_at [] (suc n) = refl
declared_at (one ∷ records) zero = refl
declared_at (one ∷ records) (suc n) = declared_at records n

declared_count : (records : List (Option CRecord)) → completed_count (records ++ None ∷ []) ≡ completed_count records
declared_count [] = refl
declared_count (None ∷ records) = declared_count records
declared_count (Some one ∷ records) = ap suc (declared_count records)

module _ (types new : CTypes) (declared : new.records ≡ types.records ++ None ∷ []) where
  record_stays : (number : ℕ) → record_at new number ≡ record_at types number
  record_stays number = ap (λ records. option_flatten (slice_get records number)) declared ∙ declared_at types.records number

  row_stays : (n number : ℕ) → row_at (passes n new) number ≡ row_at (passes n types) number
  row_stays zero number = none_at new.records number ∙ sym (none_at types.records number)
  row_stays (suc n) number =
      flat_pass (row_of (passes n new)) new.records number
      ∙ ap (option_and_then (row_of (passes n new))) (record_stays number)
      ∙ same_rows (passes n new) (passes n types) (row_stays n) (record_at types number)
      ∙ sym (flat_pass (row_of (passes n types)) types.records number)

  count_stays : completed_count new.records ≡ completed_count types.records
  count_stays = ap completed_count declared ∙ declared_count types.records

  layouts_stay : HaveSameRows (layouts_of types) (layouts_of new)
  unfolding layouts_of
  layouts_stay number =
      sym (row_stays (completed_count types.records) number)
      ∙ ap (λ n. row_at (passes n new) number) (sym count_stays)

  declared_laid_of : (layouts : CLayouts) → IsLaid types layouts → IsLaid new layouts
  declared_laid_of layouts laid = record {
    same = λ number. laid.same number ∙ layouts_stay number;
    all = λ number there. laid.all number (subst (λ found. IsSome found) (record_stays number) there);
  }

-- a record is declared that isn't completed
pub declared_laid : (types new : CTypes) (layouts : CLayouts) → IsLaid types layouts → new.records ≡ types.records ++ None ∷ [] → IsLaid new layouts
declared_laid types new layouts laid declared = declared_laid_of types new declared layouts laid

-- ---- no record changes

module _ (types new : CTypes) (same : new.records ≡ types.records) where
  same_passes : (n : ℕ) → passes n new ≡ passes n types
  same_passes zero = ap (map (λ _. None)) same
  same_passes (suc n) =
      ap (λ layouts. map (option_and_then (row_of layouts)) new.records) (same_passes n)
      ∙ ap (map (option_and_then (row_of (passes n types)))) same

  same_layouts : layouts_of types ≡ layouts_of new
  unfolding layouts_of
  same_layouts = sym (same_passes (completed_count types.records)) ∙ ap (λ records. passes (completed_count records) new) (sym same)

  same_laid_of : (layouts : CLayouts) → IsLaid types layouts → IsLaid new layouts
  same_laid_of layouts laid = record {
    same = λ number. laid.same number ∙ ap (λ rows. row_at rows number) same_layouts;
    all = λ number there. laid.all number (subst (λ records. IsSome (option_flatten (slice_get records number))) same there);
  }

pub same_laid : (types new : CTypes) (layouts : CLayouts) → IsLaid types layouts → new.records ≡ types.records → IsLaid new layouts
same_laid types new layouts laid same = same_laid_of types new same layouts laid
