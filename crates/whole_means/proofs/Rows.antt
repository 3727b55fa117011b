-- The structures and unions that a unit completes stand in its module, each behind those that it holds, so each has in the crate the layout that it has in C (ISO C99, 6.7.2.1; the Rust
-- Reference, "The C representation").
use Rattle.std.proofs.Common.{arith, ◌≡◌, ◌<◌, ℕ, zero, suc, ◌+◌, Bool, true, false, if◌then◌else◌, List, [], ◌∷◌, length, Option, Some, None, slice_get, get_or, is_some, IsSome, IfSome, All, option_map, refl, sym, ap, ◌∙◌}
use Rattle.std.proofs.lemmas.List.Elements.{All-head, All-tail}
use Rattle.std.proofs.lemmas.Option.{slice_get_within, slice_get-get_or}
use Rattle.std.specs.Option.{option_and_then, option_flatten}
use Rattle.cx_core.specs.Layouts.{CLayouts, CRow, array_extent, completed_count, layouts_of, passes, piece, piece_of, pieces_of, put_front, row_at, row_of, row_of_pieces, whole_extent}
use Rattle.cx_core.specs.Trees.{CMember, CRecord, CTy, ty, void, basic, enum_type, pointer, array, record_type, function, CTypes}
use Rattle.cx_core.specs.ValidTypes.{AreTypes}
use Rattle.cx_layout.proofs.Builds.{layouts_are}
use Rattle.cx_layout.proofs.Passes.{row_more, row_at-pass, passes_none, passes_more}
use Rattle.cx_layout.specs.Calls.{record_at}
use Rattle.whole_means.specs.Written.{record_in}

-- ---- rows of the records of a program

flat_some : {X : Type 0} (o : Option (Option X)) (x : X) → option_flatten o ≡ Some x → o ≡ Some (Some x)
flat_some None x is = cc
flat_some (Some None) x is = cc
flat_some (Some (Some y)) x is = ap Some is

row_then : (types : CTypes) (n number : ℕ) (one : CRecord) (row : CRow) → record_at types number ≡ Some one → row_at (passes n types) number ≡ Some row
    → row_of (passes n types) one ≡ Some row
row_then types zero number one row found is = absurd (let h : None ≡ Some row = sym (passes_none types number) ∙ is in cc)
row_then types (suc n) number one row found is =
    let here : row_of (passes n types) one ≡ Some row = sym (row_at-pass types (passes n types) number ∙ ap (option_and_then (row_of (passes n types))) found) ∙ is in
    row_more (passes n types) (passes (suc n) types) (passes_more types n) one row here

-- a row is that of its record where all are laid out
pub row_in : (types : CTypes) (number : ℕ) (one : CRecord) (row : CRow) → record_at types number ≡ Some one → row_at (layouts_of types) number ≡ Some row →
    row_of (layouts_of types) one ≡ Some row
row_in types number one row found is =
    ap (λ (layouts : CLayouts). row_of layouts one) (layouts_are types)
    ∙ row_then types (completed_count types.records) number one row found (sym (ap (λ (layouts : CLayouts). row_at layouts number) (layouts_are types)) ∙ is)

-- a record that has a row is completed, and has a unit
pub record IsCompleted (types : CTypes) (number : ℕ) : Type 0 where
  pub one : CRecord
  pub unit : ℕ
  pub one_is : slice_get types.records number ≡ Some (Some one)
  pub unit_is : slice_get types.record_units number ≡ Some unit

row_completed : (types : CTypes) (n number : ℕ) (row : CRow) → row_at (passes n types) number ≡ Some row → IsSome (record_at types number)
row_completed types zero number row is = absurd (let h : None ≡ Some row = sym (passes_none types number) ∙ is in cc)
row_completed types (suc n) number row is = by_record (record_at types number) refl
  where
    by_record : (found : Option CRecord) → record_at types number ≡ found → IsSome (record_at types number)
    by_record None e = absurd (let h : None ≡ Some row = sym (row_at-pass types (passes n types) number ∙ ap (option_and_then (row_of (passes n types))) e) ∙ is in cc)
    by_record (Some one) e = ap is_some e

pub completed_by : (types : CTypes) (number : ℕ) (row : CRow) → AreTypes types → row_at (layouts_of types) number ≡ Some row → IsCompleted types number
completed_by types number row are is = by_record (record_at types number) refl
  where
    by_record : (found : Option CRecord) → record_at types number ≡ found → IsCompleted types number
    by_record None e =
        absurd (let some = row_completed types (completed_count types.records) number row (sym (ap (λ (layouts : CLayouts). row_at layouts number) (layouts_are types)) ∙ is) in
        let h : false ≡ true = sym (ap is_some e) ∙ some in cc)
    by_record (Some one) e =
        let there : slice_get types.records number ≡ Some (Some one) = flat_some (slice_get types.records number) one e in
        let within : number < length types.records = slice_get_within types.records number (Some one) there in
        record {
          one = one;
          unit = get_or types.record_units number 0;
          one_is = there;
          unit_is = slice_get-get_or types.record_units number 0 (omega (arith, within, are.record_units));
        }

some_row : (found : Option CRow) → IsSome found → (row : CRow) × (found ≡ Some row)
some_row None is = absurd cc
some_row (Some row) is = (row, refl)

pub row_there : (types : CTypes) (number unit : ℕ) (one : CRecord) → AreTypes types → slice_get types.records number ≡ Some (Some one) → slice_get types.record_units number ≡ Some unit →
    (row : CRow) × (row_at (layouts_of types) number ≡ Some row)
row_there types number unit one are found here = some_row (row_at (layouts_of types) number) ((are.records number unit one found here).laid)

-- ---- some of the rows

abbrev pub rows_that : (ℕ → Bool) → (from : ℕ) → CLayouts → CLayouts
rows_that test from [] = []
rows_that test from (row ∷ rows) = (if test from then row else None) ∷ rows_that test (suc from) rows

same_both : (t : Bool) (row : Option CRow) → row ≡ (if t then row else row)
same_both true row = refl
same_both false row = refl

rows_from : (test : ℕ → Bool) (from number : ℕ) (rows : CLayouts) → row_at (rows_that test from rows) number ≡ (if test (from + number) then row_at rows number else None)
rows_from test from number [] = same_both (test (from + number)) None
rows_from test from zero (row ∷ rows) =
    by_test (test from) ∙ ap (λ n. if test n then option_flatten (Some row) else None) (let e : from ≡ from + 0 = omega arith in e)
  where
    by_test : (t : Bool) → option_flatten (Some (if t then row else None)) ≡ (if t then option_flatten (Some row) else None)
    by_test true = refl
    by_test false = refl
rows_from test from (suc number) (row ∷ rows) =
    rows_from test (suc from) number rows ∙ ap (λ n. if test n then row_at rows number else None) (let e : suc from + number ≡ from + suc number = omega arith in e)

pub some_rows : (test : ℕ → Bool) (rows : CLayouts) (number : ℕ) → row_at (rows_that test 0 rows) number ≡ (if test number then row_at rows number else None)
some_rows test rows number = rows_from test 0 number rows ∙ ap (λ n. if test n then row_at rows number else None) (let e : 0 + number ≡ number = omega arith in e)

pub row_kept : (test : ℕ → Bool) (rows : CLayouts) (number : ℕ) → test number ≡ true → row_at (rows_that test 0 rows) number ≡ row_at rows number
row_kept test rows number e = some_rows test rows number ∙ ap (λ t. if t then row_at rows number else None) e

pub row_was : (test : ℕ → Bool) (rows : CLayouts) (number : ℕ) (row : CRow) → row_at (rows_that test 0 rows) number ≡ Some row → (test number ≡ true) × (row_at rows number ≡ Some row)
row_was test rows number row is = by_test (test number) refl
  where
    by_test : (t : Bool) → test number ≡ t → (test number ≡ true) × (row_at rows number ≡ Some row)
    by_test true e = (e, sym (row_kept test rows number e) ∙ is)
    by_test false e = absurd (let h : None ≡ Some row = sym (some_rows test rows number ∙ ap (λ t. if t then row_at rows number else None) e) ∙ is in cc)

-- ---- what holds only records with these rows has its row by them

module _ (test : ℕ → Bool) (rows : CLayouts) where
  abbrev some : CLayouts
  some = rows_that test 0 rows

  abbrev Holds : CTy → Type 0
  Holds type = IfSome (record_in type) (λ number. test number ≡ true)

  extent_kept : (type : CTy) → Holds type → whole_extent some type ≡ whole_extent rows type
  extent_kept (ty void is_const) holds = refl
  extent_kept (ty (basic which) is_const) holds = refl
  extent_kept (ty (enum_type number) is_const) holds = refl
  extent_kept (ty (pointer to) is_const) holds = refl
  extent_kept (ty (array element count) is_const) holds = ap (array_extent count) (extent_kept element holds)
  extent_kept (ty (record_type number) is_const) holds = ap (option_map (λ (row : CRow). row.laid)) (row_kept test rows number holds)
  extent_kept (ty (function result params variadic) is_const) holds = refl

  pieces_kept : (members : List CMember) → All (λ (one : CMember). Holds one.type) members → pieces_of some members ≡ pieces_of rows members
  pieces_kept [] holds = refl
  pieces_kept (one ∷ members) holds =
      ap (λ found. put_front (option_map (piece one) found) (pieces_of some members)) (extent_kept one.type (All-head (λ (m : CMember). Holds m.type) one members holds))
      ∙ ap (put_front (piece_of rows one)) (pieces_kept members (All-tail (λ (m : CMember). Holds m.type) one members holds))

  pub row_by : (one : CRecord) (row : CRow) → All (λ (m : CMember). Holds m.type) one.members → row_of rows one ≡ Some row → row_of some one ≡ Some row
  row_by one row holds is = ap (option_and_then (row_of_pieces one.is_union)) (pieces_kept one.members holds) ∙ is
