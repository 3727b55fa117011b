-- The records of a program can be ranked, by the pass after which each is laid out.
use Rattle.std.proofs.Common.{◌≡◌, ℕ, zero, suc, ◌+◌, ◌-◌, ◌<◌, ◌≤◌, Bool, true, false, List, [], ◌∷◌, length, get_or, Option, None, Some, is_some, IsSome, IfSome, option_map, slice_get, All, refl, sym, ap, ◌∙◌, arith, subst, if◌then◌else◌}
use Rattle.std.proofs.lemmas.List.Elements.{All-nil, All-cons, All-head, All-tail}
use Rattle.std.proofs.lemmas.Option.{slice_get_within, slice_get-get_or}
use Rattle.std.specs.Option.{option_and_then, option_flatten}
use Rattle.cr_base.specs.declared.layout.Laid.{Laid}
use Rattle.cr_base.specs.declared.layout.Piece.{Piece}
use Rattle.cx_core.specs.declared.ty.Basic.{Basic}
use Rattle.cx_core.specs.declared.ty.Basic.TheVariants.{Truth}
use Rattle.cx_core.specs.Conversions.{basic_of, basic_of_enum, width_of_basic}
use Rattle.cx_core.specs.Layouts.{CLayouts, CRow, row_at, array_extent, whole_extent, piece, piece_of, put_front, pieces_of, row_of, row_of_pieces, passes, completed_count}
use Rattle.cx_core.specs.Trees.{CTy, ty, CTyForm, void, basic, enum_type, pointer, array, record_type, function, form_of_type, CMember, CRecord, CTypes}
use Rattle.cx_core.specs.ValidTypes.{most_bits, IsBitFieldOf, IsMemberIn, IsRecordIn, AreTypes}
use Rattle.cx_layout.specs.Calls.{record_at, IsWideEnough, HasFittingBits, HoldsOnly, IsGrounded, AreGrounded}
use Rattle.cx_layout.proofs.Builds.{layouts_are, some_of}
use Rattle.cx_layout.proofs.Passes.{row_at-pass, passes_none, passes_after}

-- ---- the pass after which a record is laid out

abbrev one_by : Option CRow → ℕ
one_by found = if is_some found then 0 else 1

sum_zero : (n : ℕ) → n ≡ n + 0
sum_zero n = omega arith

sum_suc : (n m : ℕ) → suc (n + m) ≡ n + suc m
sum_suc n m = omega arith

-- after how many of so many passes, from none on, a record isn't laid out
late : CTypes → ℕ → ℕ → ℕ
late types zero number = 0
late types (suc k) number = one_by (row_at (passes k types) number) + late types k number

most_by : (row : Option CRow) (n k : ℕ) → n ≤ k → one_by row + n ≤ suc k
most_by None n k below = omega arith
most_by (Some row) n k below = omega arith

late_most : (types : CTypes) (k number : ℕ) → late types k number ≤ k
unfolding late
late_most types zero number = omega arith
late_most types (suc k) number = most_by (row_at (passes k types) number) (late types k number) k (late_most types k number)

-- a record that is laid out after a pass stays so
stays : (types : CTypes) (k m number : ℕ) → k ≤ m → IsSome (row_at (passes k types) number) → IsSome (row_at (passes m types) number)
stays types k m number before some =
    let row = some_of (row_at (passes k types) number) some in
    let e : k + (m - k) ≡ m = omega arith in
    subst IsSome (sym (ap (λ n. row_at (passes n types) number) (sym e) ∙ passes_after types k (m - k) number row.0 row.1)) refl

-- what is laid out after a pass isn't later than it
early_by : (row : Option CRow) (n k : ℕ) → IsSome row → n ≤ k → one_by row + n ≤ k
early_by None n k some below = absurd cc
early_by (Some row) n k some below = omega arith

early : (types : CTypes) (k extra number : ℕ) → IsSome (row_at (passes k types) number) → late types (k + extra) number ≤ k
unfolding late
early types k zero number some = subst (λ n. late types n number ≤ k) (sum_zero k) (late_most types k number)
early types k (suc extra) number some =
    subst (λ n. late types n number ≤ k) (sum_suc k extra)
    (early_by (row_at (passes (k + extra) types) number) (late types (k + extra) number) k
    (stays types k (k + extra) number (omega arith) some) (early types k extra number some))

-- what isn't laid out after a pass wasn't before
missing_before : (types : CTypes) (k m number : ℕ) (row : Option CRow) → row_at (passes k types) number ≡ row → k ≤ m → row_at (passes m types) number ≡ None → row_at (passes k types) number ≡ None
missing_before types k m number None is before none = is
missing_before types k m number (Some row) is before none =
    absurd (let h : IsSome {T = CRow} None = subst IsSome none (stays types k m number before (subst IsSome (sym is) refl)) in cc)

late_by : (row : Option CRow) (n : ℕ) → row ≡ None → one_by row + n ≡ suc n
late_by None n none = omega arith
late_by (Some row) n none = absurd cc

-- none of the passes up to one lays it out
all_late : (types : CTypes) (k number : ℕ) → row_at (passes k types) number ≡ None → late types (suc k) number ≡ suc k
unfolding late
all_late types zero number none = late_by (row_at (passes zero types) number) 0 none
all_late types (suc k) number none =
    late_by (row_at (passes (suc k) types) number) (late types (suc k) number) none
    ∙ ap suc (all_late types k number (missing_before types k (suc k) number (row_at (passes k types) number) refl (omega arith) none))

grows_by : (row : Option CRow) (n m : ℕ) → n ≤ m → n ≤ one_by row + m
grows_by None n m below = omega arith
grows_by (Some row) n m below = omega arith

late_grows : (types : CTypes) (k extra number : ℕ) → late types k number ≤ late types (k + extra) number
unfolding late
late_grows types k zero number = subst (λ n. late types k number ≤ late types n number) (sum_zero k) (omega arith)
late_grows types k (suc extra) number =
    subst (λ n. late types k number ≤ late types n number) (sum_suc k extra)
    (grows_by (row_at (passes (k + extra) types) number) (late types k number) (late types (k + extra) number) (late_grows types k extra number))

later : (types : CTypes) (k extra number : ℕ) → row_at (passes k types) number ≡ None → k < late types (suc k + extra) number
later types k extra number none = omega (arith, all_late types k number none, late_grows types (suc k) extra number)

-- ---- what a record that is laid out holds

some_map : {X Y : Type 0} (f : X → Y) (o : Option X) → IsSome (option_map f o) → IsSome o
some_map f None some = some
some_map f (Some x) some = refl

some_then : {X Y : Type 0} (f : X → Option Y) (o : Option X) → IsSome (option_and_then f o) → IsSome o
some_then f None some = some
some_then f (Some x) some = refl

some_front : (first : Option Piece) (others : Option (List Piece)) → IsSome (put_front first others) → IsSome first × IsSome others
some_front None others some = absurd cc
some_front (Some one) others some = (refl, some_map (λ pieces. one ∷ pieces) others some)

array_holds : (length_is : Option ℕ) (element : Option Laid) → IsSome (array_extent length_is element) → IsSome element × IfSome length_is (λ count. 0 < count) × IsSome length_is
array_holds None element some = absurd cc
array_holds (Some zero) element some = absurd cc
array_holds (Some (suc n)) element some = (some_map _ element some, omega arith, refl)

extent_holds : (P : ℕ → Type 0) (layouts : CLayouts) → ((inner : ℕ) → IsSome (row_at layouts inner) → P inner) → (type : CTy) → IsSome (whole_extent layouts type) → HoldsOnly P type
extent_holds P layouts holds (ty (basic which) is_const) some = tt
extent_holds P layouts holds (ty (enum_type number) is_const) some = tt
extent_holds P layouts holds (ty (pointer to) is_const) some = tt
extent_holds P layouts holds (ty (array element length_is) is_const) some =
    let parts = array_holds length_is (whole_extent layouts element) some in
    (extent_holds P layouts holds element parts.0, parts.1, parts.2)
extent_holds P layouts holds (ty (record_type number) is_const) some = holds number (some_map (λ row. row.laid) (row_at layouts number) some)
extent_holds P layouts holds (ty void is_const) some = absurd cc
extent_holds P layouts holds (ty (function result params variadic) is_const) some = absurd cc

members_hold : (P : ℕ → Type 0) (layouts : CLayouts) → ((inner : ℕ) → IsSome (row_at layouts inner) → P inner) → (members : List CMember) → IsSome (pieces_of layouts members) → All (λ member. HoldsOnly P member.type) members
members_hold P layouts holds [] some = All-nil (λ member. HoldsOnly P member.type)
members_hold P layouts holds (one ∷ others) some =
    let parts = some_front (piece_of layouts one) (pieces_of layouts others) some in
    All-cons (λ member. HoldsOnly P member.type) one others
    (extent_holds P layouts holds one.type (some_map (piece one) (whole_extent layouts one.type) parts.0))
    (members_hold P layouts holds others parts.1)

-- ---- bit-fields

wide_basic : (which : Basic) (width : ℕ) → width ≤ most_bits which → width ≤ width_of_basic which
wide_basic Truth width fits = omega arith
wide_basic _ width fits = fits

wide_enum : (is_int : Bool) (width : ℕ) → width ≤ most_bits (basic_of_enum is_int) → width ≤ 32
wide_enum true width fits = fits
wide_enum false width fits = fits

wide_by : (found : Option Bool) (width : ℕ) → IsSome (option_map basic_of_enum found) → IfSome (option_map basic_of_enum found) (λ which. width ≤ most_bits which) → width ≤ 32
wide_by None width some fits = absurd cc
wide_by (Some is_int) width some fits = wide_enum is_int width fits

wide_enough : (types : CTypes) (form : CTyForm) (width : ℕ) → IsSome (basic_of types form) → IfSome (basic_of types form) (λ which. width ≤ most_bits which) → IsWideEnough form width
wide_enough types (basic which) width some fits = wide_basic which width fits
wide_enough types (enum_type number) width some fits = wide_by (slice_get types.enums number) width some fits
wide_enough types void width some fits = absurd cc
wide_enough types (pointer to) width some fits = absurd cc
wide_enough types (array element length_is) width some fits = absurd cc
wide_enough types (record_type number) width some fits = absurd cc
wide_enough types (function result params variadic) width some fits = absurd cc

fitting_by : (types : CTypes) (one : CMember) (bits : Option ℕ) → IfSome bits (IsBitFieldOf types one) → IfSome bits (IsWideEnough (form_of_type one.type))
fitting_by types one None is = tt
fitting_by types one (Some width) is = wide_enough types (form_of_type one.type) width is.integer is.fits

fitting : (types : CTypes) (unit : ℕ) (members : List CMember) → All (IsMemberIn types unit) members → All HasFittingBits members
fitting types unit [] all = All-nil HasFittingBits
fitting types unit (one ∷ others) all =
    All-cons HasFittingBits one others
    (fitting_by types one one.bits (All-head (IsMemberIn types unit) one others all).bits)
    (fitting types unit others (All-tail (IsMemberIn types unit) one others all))

-- ---- ranks

-- the last pass before a record is laid out
pub record LastPass (types : CTypes) (number most : ℕ) : Type 0 where
  pub pass : ℕ
  pub below : suc pass ≤ most
  pub before : row_at (passes pass types) number ≡ None
  pub after : IsSome (row_at (passes (suc pass) types) number)

last_by : (types : CTypes) (number k : ℕ) (row : Option CRow) → row_at (passes k types) number ≡ row → IsSome (row_at (passes (suc k) types) number) → (IsSome (row_at (passes k types) number) → LastPass types number k) → LastPass types number (suc k)
last_by types number k None is some sooner = record { pass = k; below = omega arith; before = is; after = some }
last_by types number k (Some row) is some sooner =
    let last = sooner (subst IsSome (sym is) refl) in
    record { pass = last.pass; below = omega (arith, last.below); before = last.before; after = last.after }

last_pass : (types : CTypes) (k number : ℕ) → IsSome (row_at (passes k types) number) → LastPass types number k
last_pass types zero number some = absurd (let h : IsSome {T = CRow} None = subst IsSome (passes_none types number) some in cc)
last_pass types (suc k) number some =
    last_by types number k (row_at (passes k types) number) refl some (last_pass types k number)

recorded : (types : CTypes) (k number : ℕ) → IsSome (row_at (passes k types) number) → IsSome (record_at types number)
recorded types zero number some = absurd (let h : IsSome {T = CRow} None = subst IsSome (passes_none types number) some in cc)
recorded types (suc k) number some =
    some_then (row_of (passes k types)) (record_at types number) (subst IsSome (row_at-pass types (passes k types) number) some)

flat_some : {X : Type 0} (o : Option (Option X)) (x : X) → option_flatten o ≡ Some x → o ≡ Some (Some x)
flat_some None x is = absurd cc
flat_some (Some None) x is = absurd cc
flat_some (Some (Some y)) x is = ap (λ o. Some o) is

module _ (types : CTypes) (are : AreTypes types) where
  rank_of : ℕ → ℕ
  rank_of number = late types (suc (completed_count types.records)) number

  unit_of : (number : ℕ) (one : CRecord) → record_at types number ≡ Some one → (unit : ℕ) × (slice_get types.record_units number ≡ Some unit)
  unit_of number one found =
      let within : number < length types.records = slice_get_within types.records number (Some one) (flat_some (slice_get types.records number) one found) in
      (get_or types.record_units number 0, slice_get-get_or types.record_units number 0 (omega (arith, are.record_units)))

  is_record : (number : ℕ) (one : CRecord) (found : record_at types number ≡ Some one) → IsRecordIn types number (unit_of number one found).0 one
  is_record number one found =
      are.records number (unit_of number one found).0 one (flat_some (slice_get types.records number) one found) (unit_of number one found).1

  lower : (number inner : ℕ) (last : LastPass types number (completed_count types.records)) → IsSome (row_at (passes last.pass types) inner) → rank_of inner < rank_of number
  unfolding rank_of
  lower number inner last some =
      let extra = completed_count types.records - last.pass in
      let e : last.pass + suc extra ≡ suc (completed_count types.records) = omega (arith, last.below) in
      let f : suc last.pass + extra ≡ suc (completed_count types.records) = omega (arith, last.below) in
      let inner_early : late types (suc (completed_count types.records)) inner ≤ last.pass =
      subst (λ n. late types n inner ≤ last.pass) e (early types last.pass (suc extra) inner some) in
      let outer_late : last.pass < late types (suc (completed_count types.records)) number =
      subst (λ n. last.pass < late types n number) f (later types last.pass extra number last.before) in
      omega arith

  is_grounded : (number : ℕ) (one : CRecord) → record_at types number ≡ Some one → IsGrounded types rank_of number one
  is_grounded number one found =
      let is = is_record number one found in
      let laid : IsSome (row_at (passes (completed_count types.records) types) number) =
      subst (λ l. IsSome (row_at l number)) (layouts_are types) is.laid in
      let last = last_pass types (completed_count types.records) number laid in
      let row : IsSome (row_of (passes last.pass types) one) =
      subst IsSome (row_at-pass types (passes last.pass types) number ∙ ap (option_and_then (row_of (passes last.pass types))) found) last.after in
      record {
        number_is = is.number_is;
        bits = fitting types (unit_of number one found).0 one.members is.members;
        holds = members_hold (λ inner. IsSome (record_at types inner) × (rank_of inner < rank_of number)) (passes last.pass types)
            (λ inner some. (recorded types last.pass inner some, lower number inner last some)) one.members
            (some_then (row_of_pieces one.is_union) (pieces_of (passes last.pass types) one.members) row);
      }

  pub types_grounded : AreGrounded types
  types_grounded = record { rank = rank_of; grounded = is_grounded }
