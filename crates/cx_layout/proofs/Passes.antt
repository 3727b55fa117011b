-- What is laid out by a table is so by every table that has all its rows; so passes only add.
use Rattle.std.proofs.Common.{◌≡◌, ℕ, zero, suc, ◌+◌, ◌*◌, List, [], ◌∷◌, map, Option, None, Some, option_map, slice_get, refl, sym, ap, ◌∙◌, arith, subst}
use Rattle.std.specs.Option.{option_and_then, option_flatten}
use Rattle.cr_base.specs.declared.layout.Laid.{Laid}
use Rattle.cr_base.specs.declared.layout.Piece.{Piece}
use Rattle.cx_core.specs.Layouts.{CLayouts, row_at, elements, array_extent, whole_extent, whole_extent_of, piece, piece_of, put_front, pieces_of, row_of_pieces, row_of, pass, passes}
use Rattle.cx_core.specs.Trees.{CTy, ty, CTyForm, void, basic, enum_type, pointer, array, record_type, function, CMember, CRecord, CTypes}
use Rattle.cx_layout.specs.Calls.{record_at, record_extent}

-- what is there by the first is there by the second
abbrev pub Gives : {X : Type 0} → Option X → Option X → Type 0
Gives {X} first second = (x : X) → first ≡ Some x → second ≡ Some x

-- every row of one table is in the other
abbrev pub Extends : CLayouts → CLayouts → Type 0
Extends few many = (number : ℕ) → Gives (row_at few number) (row_at many number)

map_gives : {X Y : Type 0} (f : X → Y) (first second : Option X) → Gives first second → Gives (option_map f first) (option_map f second)
map_gives f None second gives y is = absurd cc
map_gives f (Some x) second gives y is = ap (option_map f) (gives x refl) ∙ is

then_gives : {X Y : Type 0} (f : X → Option Y) (first second : Option X) → Gives first second → Gives (option_and_then f first) (option_and_then f second)
then_gives f None second gives y is = absurd cc
then_gives f (Some x) second gives y is = ap (option_and_then f) (gives x refl) ∙ is

elements_give : (count : ℕ) (first second : Option Laid) → Gives first second → Gives (elements count first) (elements count second)
elements_give zero first second gives = λ laid is. absurd cc
elements_give (suc n) first second gives = map_gives (λ one. record { size = suc n * one.size; align = one.align }) first second gives

array_gives : (length : Option ℕ) (first second : Option Laid) → Gives first second → Gives (array_extent length first) (array_extent length second)
array_gives None first second gives = λ laid is. absurd cc
array_gives (Some count) first second gives = elements_give count first second gives

module _ (few many : CLayouts) (extends : Extends few many) where
  mutual
    pub extent_more : (type : CTy) → Gives (whole_extent few type) (whole_extent many type)
    extent_more (ty form is_const) = form_more form

    form_more : (form : CTyForm) → Gives (whole_extent_of few form) (whole_extent_of many form)
    form_more (basic which) = λ laid is. is
    form_more (enum_type number) = λ laid is. is
    form_more (pointer to) = λ laid is. is
    form_more (array element length) = array_gives length (whole_extent few element) (whole_extent many element) (extent_more element)
    form_more (record_type number) = map_gives (λ row. row.laid) (row_at few number) (row_at many number) (extends number)
    form_more void = λ laid is. is
    form_more (function result params variadic) = λ laid is. is

  piece_more : (one : CMember) → Gives (piece_of few one) (piece_of many one)
  piece_more one = map_gives (piece one) (whole_extent few one.type) (whole_extent many one.type) (extent_more one.type)

  front_more : (first first_more : Option Piece) (others others_more : Option (List Piece)) → Gives first first_more → Gives others others_more → Gives (put_front first others) (put_front first_more others_more)
  front_more None first_more others others_more gives then_gives pieces is = absurd cc
  front_more (Some one) first_more others others_more gives then_gives pieces is =
      ap (λ p. put_front p others_more) (gives one refl) ∙ map_gives (λ rest. one ∷ rest) others others_more then_gives pieces is

  pub pieces_more : (members : List CMember) → Gives (pieces_of few members) (pieces_of many members)
  pieces_more [] = λ pieces is. is
  pieces_more (one ∷ others) =
      front_more (piece_of few one) (piece_of many one) (pieces_of few others) (pieces_of many others) (piece_more one) (pieces_more others)

  pub row_more : (one : CRecord) → Gives (row_of few one) (row_of many one)
  row_more one = then_gives (row_of_pieces one.is_union) (pieces_of few one.members) (pieces_of many one.members) (pieces_more one.members)

  pub record_more : (one : CRecord) → Gives (record_extent few one) (record_extent many one)
  record_more one = map_gives _ (pieces_of few one.members) (pieces_of many one.members) (pieces_more one.members)

-- ---- passes

flat_pass : {X Y : Type 0} (f : X → Option Y) (xs : List (Option X)) (number : ℕ) → option_flatten (slice_get (map (option_and_then f) xs) number) ≡ option_and_then f (option_flatten (slice_get xs number))
flat_pass f [] number = refl
flat_pass f (x ∷ xs) zero = refl
flat_pass f (x ∷ xs) (suc n) = flat_pass f xs n

pub row_at-pass : (types : CTypes) (layouts : CLayouts) (number : ℕ) → row_at (pass types layouts) number ≡ option_and_then (row_of layouts) (record_at types number)
row_at-pass types layouts number = flat_pass (row_of layouts) types.records number

none_at : {X Y : Type 0} (xs : List X) (number : ℕ) → option_flatten {T = Y} (slice_get (map (λ _. None) xs) number) ≡ None
none_at [] number = refl
none_at (x ∷ xs) zero = refl
none_at (x ∷ xs) (suc n) = none_at xs n

pub passes_none : (types : CTypes) (number : ℕ) → row_at (passes zero types) number ≡ None
passes_none types number = none_at types.records number

and_then_gives : {X Y : Type 0} (f g : X → Option Y) (o : Option X) → ((x : X) → Gives (f x) (g x)) → Gives (option_and_then f o) (option_and_then g o)
and_then_gives f g None each y is = is
and_then_gives f g (Some x) each y is = each x y is

pass_more : (types : CTypes) (few many : CLayouts) → Extends few many → Extends (pass types few) (pass types many)
pass_more types few many extends number row is =
    row_at-pass types many number
    ∙ and_then_gives (row_of few) (row_of many) (record_at types number) (λ one. row_more few many extends one) row (sym (row_at-pass types few number) ∙ is)

pub passes_more : (types : CTypes) (n : ℕ) → Extends (passes n types) (passes (suc n) types)
passes_more types zero number row is = absurd (let h : None ≡ Some row = sym (passes_none types number) ∙ is in cc)
passes_more types (suc n) number row is = pass_more types (passes n types) (passes (suc n) types) (passes_more types n) number row is

after_zero : (n : ℕ) → n ≡ n + 0
after_zero n = omega arith

after_suc : (n k : ℕ) → suc (n + k) ≡ n + suc k
after_suc n k = omega arith

pub passes_after : (types : CTypes) (n k : ℕ) → Extends (passes n types) (passes (n + k) types)
passes_after types n zero number row is = subst (λ m. row_at (passes m types) number ≡ Some row) (after_zero n) is
passes_after types n (suc k) number row is =
    subst (λ m. row_at (passes m types) number ≡ Some row) (after_suc n k) (passes_more types (n + k) number row (passes_after types n k number row is))
