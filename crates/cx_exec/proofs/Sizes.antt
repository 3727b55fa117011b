-- No record of a typed program is too large.
use Rattle.std.proofs.Common.{◌≡◌, ◌∙◌, refl, sym, ap, subst, arith, ℕ, zero, suc, ◌<◌, length, Option, Some, None, slice_get, get_or, false, true}
use Rattle.std.proofs.lemmas.Option.{slice_get_within, slice_get-get_or}
use Rattle.std.specs.Option.{option_and_then, option_flatten, is_some}
use Rattle.std.specs.Prelude.{IsSome}
use Rattle.cx_core.specs.Layouts.{CLayouts, CRow, row_at, row_of, passes, completed_count, layouts_of}
use Rattle.cx_core.specs.Trees.{CRecord, CTypes}
use Rattle.cx_core.specs.ValidTypes.{AreTypes}
use Rattle.cx_layout.specs.Calls.{record_at, IsTooLarge, HasTooLarge}
use Rattle.cx_layout.proofs.Asked.{too_large_row}
use Rattle.cx_layout.proofs.Builds.{layouts_are}
use Rattle.cx_layout.proofs.Passes.{row_more, row_at-pass, passes_none, passes_more}

flat_some : {X : Type 0} (o : Option (Option X)) (x : X) → option_flatten o ≡ Some x → o ≡ Some (Some x)
flat_some None x is = cc
flat_some (Some None) x is = cc
flat_some (Some (Some y)) x is = ap Some is

-- what is laid out by a pass is laid out so by all of them
row_then : (types : CTypes) (n number : ℕ) (one : CRecord) (row : CRow) → record_at types number ≡ Some one → row_at (passes n types) number ≡ Some row
    → row_of (passes n types) one ≡ Some row
row_then types zero number one row found is = absurd (let h : None ≡ Some row = sym (passes_none types number) ∙ is in cc)
row_then types (suc n) number one row found is =
    let here : row_of (passes n types) one ≡ Some row = sym (row_at-pass types (passes n types) number ∙ ap (option_and_then (row_of (passes n types))) found) ∙ is in
    row_more (passes n types) (passes (suc n) types) (passes_more types n) one row here

row_in : (types : CTypes) (number : ℕ) (one : CRecord) (row : CRow) → record_at types number ≡ Some one → row_at (layouts_of types) number ≡ Some row
    → row_of (layouts_of types) one ≡ Some row
row_in types number one row found is =
    ap (λ (layouts : CLayouts). row_of layouts one) (layouts_are types)
    ∙ row_then types (completed_count types.records) number one row found (sym (ap (λ (layouts : CLayouts). row_at layouts number) (layouts_are types)) ∙ is)

laid_out : (types : CTypes) → AreTypes types → (number : ℕ) (one : CRecord) → record_at types number ≡ Some one → IsSome (row_at (layouts_of types) number)
laid_out types are number one found =
    let there : slice_get types.records number ≡ Some (Some one) = flat_some (slice_get types.records number) one found in
    let within : number < length types.records = slice_get_within types.records number (Some one) there in
    (are.records number (get_or types.record_units number 0) one there (slice_get-get_or types.record_units number 0 (omega (arith, within, are.record_units)))).laid

is_not_large : (types : CTypes) (number : ℕ) (one : CRecord) (row : Option CRow) → record_at types number ≡ Some one → row_at (layouts_of types) number ≡ row → IsSome row
    → IsTooLarge (layouts_of types) one → ⊥
is_not_large types number one None found is some large = absurd cc
is_not_large types number one (Some row) found is some large =
    let h : false ≡ true = too_large_row (layouts_of types) one large ∙ ap is_some (row_in types number one row found is) in cc

pub none_too_large : (types : CTypes) → AreTypes types → HasTooLarge types → ⊥
none_too_large types are large =
    is_not_large types large.number large.one (row_at (layouts_of types) large.number) large.completed refl (laid_out types are large.number large.one large.completed) large.too_large
