-- What is laid out in a unit is laid out alike in the program.
use Rattle.std.proofs.Common.{◌≡◌, ℕ, zero, suc, ◌+◌, ◌-◌, ◌*◌, ◌≤◌, List, [], ◌∷◌, map, Option, None, Some, option_map, slice_get, is_some, refl, sym, ap, ◌∙◌, arith, subst}
use Rattle.std.specs.Prelude.{IsSome}
use Rattle.std.specs.Option.{option_and_then, option_flatten}
use Rattle.cr_base.specs.declared.layout.Laid.{Laid}
use Rattle.cr_base.specs.declared.layout.Piece.{Piece}
use Rattle.cx_core.specs.Layouts.{CLayouts, row_at, elements, array_extent, whole_extent, whole_extent_of, extent, within_most, piece, piece_of, put_front, pieces_of, row_of_pieces, row_of, pass, passes, layouts_of, completed_count}
use Rattle.cx_core.specs.Trees.{CTy, ty, CTyForm, void, basic, enum_type, pointer, array, record_type, function, CMember, CRecord, CTypes}
use Rattle.cx_core.specs.ValidTypes.{IsComplete}
use Rattle.cx_layout.proofs.Builds.{layouts_are}
use Rattle.cx_layout.proofs.Passes.{row_at-pass, passes_none, passes_after}
use Rattle.cx_layout.specs.Calls.{record_at}
use Rattle.cx_renumber.specs.Numbers.{CCounts, type_there, form_there, member_there, record_there}
use Rattle.cx_typed_links.specs.Embedding.{Gives, GivesAs, IsInside}

-- ---- options

pub map_gives : {X Y : Type 0} (f : X → Y) (first second : Option X) → Gives first second → Gives (option_map f first) (option_map f second)
map_gives f None second gives y is = absurd cc
map_gives f (Some x) second gives y is = ap (option_map f) (gives x refl) ∙ is

pub then_gives : {X Y : Type 0} (f : X → Option Y) (first second : Option X) → Gives first second → Gives (option_and_then f first) (option_and_then f second)
then_gives f None second gives y is = absurd cc
then_gives f (Some x) second gives y is = ap (option_and_then f) (gives x refl) ∙ is

-- what follows of a value, and of what a function makes of it
pub then_gives_as : {X Y V : Type 0} (h : X → Y) (f : X → Option V) (g : Y → Option V) (first : Option X) (second : Option Y)
    → GivesAs h first second → ((x : X) → Gives (f x) (g (h x))) → Gives (option_and_then f first) (option_and_then g second)
then_gives_as h f g None second gives each v is = absurd cc
then_gives_as h f g (Some x) second gives each v is = ap (option_and_then g) (gives x refl) ∙ each x v is

pub some_given : {X Y : Type 0} (h : X → Y) (first : Option X) (second : Option Y) → GivesAs h first second → IsSome first → IsSome second
some_given h None second gives some = absurd cc
some_given h (Some x) second gives some = ap is_some (gives x refl)

pub some_stays : {X : Type 0} (first second : Option X) → Gives first second → IsSome first → IsSome second
some_stays first second gives some = some_given (λ x. x) first second gives some

pub flat_some : {X : Type 0} (o : Option (Option X)) (x : X) → option_flatten o ≡ Some x → o ≡ Some (Some x)
flat_some None x is = absurd cc
flat_some (Some None) x is = absurd cc
flat_some (Some (Some y)) x is = ap (λ o. Some o) is

pub got_as : {X Y : Type 0} (f : X → Y) (xs : List X) (number : ℕ) → GivesAs f (slice_get xs number) (slice_get (map f xs) number)
got_as f [] number x is = absurd cc
got_as f (first ∷ others) zero x is = ap (option_map f) is
got_as f (first ∷ others) (suc n) x is = got_as f others n x is

elements_give : (count : ℕ) (first second : Option Laid) → Gives first second → Gives (elements count first) (elements count second)
elements_give zero first second gives = λ laid is. absurd cc
elements_give (suc n) first second gives = map_gives (λ one. record { size = suc n * one.size; align = one.align }) first second gives

array_gives : (length : Option ℕ) (first second : Option Laid) → Gives first second → Gives (array_extent length first) (array_extent length second)
array_gives None first second gives = λ laid is. absurd cc
array_gives (Some count) first second gives = elements_give count first second gives

front_gives : (first first_more : Option Piece) (others others_more : Option (List Piece)) → Gives first first_more → Gives others others_more
    → Gives (put_front first others) (put_front first_more others_more)
front_gives None first_more others others_more gives then_given pieces is = absurd cc
front_gives (Some one) first_more others others_more gives then_given pieces is =
    ap (λ p. put_front p others_more) (gives one refl) ∙ map_gives (λ rest. one ∷ rest) others others_more then_given pieces is

-- ---- one table of layouts inside another

module _ (before : CCounts) where
  -- every row of one table is in the other, at its number there
  abbrev pub Carries : CLayouts → CLayouts → Type 0
  Carries few many = (number : ℕ) → Gives (row_at few number) (row_at many (before.records + number))

  module _ (few many : CLayouts) (carries : Carries few many) where
    mutual
      pub extent_carried : (type : CTy) → Gives (whole_extent few type) (whole_extent many (type_there before type))
      extent_carried (ty form is_const) = form_carried form

      form_carried : (form : CTyForm) → Gives (whole_extent_of few form) (whole_extent_of many (form_there before form))
      form_carried (basic which) = λ laid is. is
      form_carried (enum_type number) = λ laid is. is
      form_carried (pointer to) = λ laid is. is
      form_carried (array element length) =
          array_gives length (whole_extent few element) (whole_extent many (type_there before element)) (extent_carried element)
      form_carried (record_type number) = map_gives (λ row. row.laid) (row_at few number) (row_at many (before.records + number)) (carries number)
      form_carried void = λ laid is. is
      form_carried (function result params variadic) = λ laid is. is

    piece_carried : (one : CMember) → Gives (piece_of few one) (piece_of many (member_there before one))
    piece_carried one = map_gives (piece one) (whole_extent few one.type) (whole_extent many (type_there before one.type)) (extent_carried one.type)

    pieces_carried : (members : List CMember) → Gives (pieces_of few members) (pieces_of many (map (member_there before) members))
    pieces_carried [] = λ pieces is. is
    pieces_carried (one ∷ others) =
        front_gives (piece_of few one) (piece_of many (member_there before one)) (pieces_of few others) (pieces_of many (map (member_there before) others))
        (piece_carried one) (pieces_carried others)

    pub row_carried : (one : CRecord) → Gives (row_of few one) (row_of many (record_there before one))
    row_carried one =
        then_gives (row_of_pieces one.is_union) (pieces_of few one.members) (pieces_of many (map (member_there before) one.members)) (pieces_carried one.members)

-- ---- how many records are completed

counted_alike : (few many : List (Option CRecord))
    → ((number : ℕ) (known : CRecord) → option_flatten (slice_get few number) ≡ Some known → IsSome (option_flatten (slice_get many number)))
    → completed_count few ≤ completed_count many
counted_alike [] many more = omega arith
counted_alike (None ∷ few) [] more = counted_alike few [] (λ number. more (suc number))
counted_alike (Some one ∷ few) [] more = absurd (let h : IsSome {T = CRecord} None = more zero one refl in cc)
counted_alike (None ∷ few) (None ∷ many) more = counted_alike few many (λ number. more (suc number))
counted_alike (None ∷ few) (Some other ∷ many) more =
    let h : completed_count few ≤ completed_count many = counted_alike few many (λ number. more (suc number)) in omega arith
counted_alike (Some one ∷ few) (None ∷ many) more = absurd (let h : IsSome {T = CRecord} None = more zero one refl in cc)
counted_alike (Some one ∷ few) (Some other ∷ many) more =
    let h : completed_count few ≤ completed_count many = counted_alike few many (λ number. more (suc number)) in omega arith

none_more : (number : ℕ) → 0 + number ≡ number
none_more number = omega arith

one_more : (base number : ℕ) → suc base + number ≡ suc (base + number)
one_more base number = omega arith

counted_on : (first : Option CRecord) (others : List (Option CRecord)) → completed_count others ≤ completed_count (first ∷ others)
counted_on None others = omega arith
counted_on (Some one) others = omega arith

at_most : (few some many : ℕ) → few ≤ some → some ≤ many → few ≤ many
at_most few some many less more = omega arith

counted_inside : (base : ℕ) (few many : List (Option CRecord))
    → ((number : ℕ) (known : CRecord) → option_flatten (slice_get few number) ≡ Some known → IsSome (option_flatten (slice_get many (base + number))))
    → completed_count few ≤ completed_count many
counted_inside zero few many more =
    counted_alike few many (λ number known is. subst (λ n. IsSome (option_flatten (slice_get many n))) (none_more number) (more number known is))
counted_inside (suc base) few [] more = counted_alike few [] (λ number known is. more number known is)
counted_inside (suc base) few (first ∷ many) more =
    at_most (completed_count few) (completed_count many) (completed_count (first ∷ many))
    (counted_inside base few many
    (λ number known is. subst (λ n. IsSome (option_flatten (slice_get (first ∷ many) n))) (one_more base number) (more number known is)))
    (counted_on first many)

-- ---- the layouts of a unit and of the program

module _ (before : CCounts) (one whole : CTypes) (inside : IsInside before one whole) where
  pub record_given : (number : ℕ) → GivesAs (record_there before) (record_at one number) (record_at whole (before.records + number))
  record_given number known is =
      ap option_flatten (inside.records number (Some known) (flat_some (slice_get one.records number) known is))

  pass_carried : (few many : CLayouts) → Carries before few many → Carries before (pass one few) (pass whole many)
  pass_carried few many carries number row is =
      row_at-pass whole many (before.records + number)
      ∙ then_gives_as (record_there before) (row_of few) (row_of many) (record_at one number) (record_at whole (before.records + number))
      (record_given number) (row_carried before few many carries) row
      (sym (row_at-pass one few number) ∙ is)

  pub passes_carried : (n : ℕ) → Carries before (passes n one) (passes n whole)
  passes_carried zero number row is = absurd (let h : None ≡ Some row = sym (passes_none one number) ∙ is in cc)
  passes_carried (suc n) number row is = pass_carried (passes n one) (passes n whole) (passes_carried n) number row is

  pub fewer_completed : completed_count one.records ≤ completed_count whole.records
  fewer_completed =
      counted_inside before.records one.records whole.records
      (λ number known is. some_given (record_there before) (record_at one number) (record_at whole (before.records + number)) (record_given number)
      (ap is_some is))

  passes_left : (few many : ℕ) → few ≤ many → few + (many - few) ≡ many
  passes_left few many le = omega arith

  pub layouts_carried : Carries before (layouts_of one) (layouts_of whole)
  layouts_carried number row is =
      let few = completed_count one.records in
      let many = completed_count whole.records in
      let held : row_at (passes few whole) (before.records + number) ≡ Some row =
      passes_carried few number row (sym (ap (λ all. row_at all number) (layouts_are one)) ∙ is) in
      ap (λ all. row_at all (before.records + number)) (layouts_are whole)
      ∙ subst (λ n. row_at (passes n whole) (before.records + number) ≡ Some row) (passes_left few many fewer_completed)
      (passes_after whole few (many - few) (before.records + number) row held)

  pub whole_extent_there : (type : CTy) → Gives (whole_extent (layouts_of one) type) (whole_extent (layouts_of whole) (type_there before type))
  whole_extent_there type = extent_carried before (layouts_of one) (layouts_of whole) layouts_carried type

  pub extent_there : (type : CTy) → Gives (extent (layouts_of one) type) (extent (layouts_of whole) (type_there before type))
  extent_there type =
      then_gives within_most (whole_extent (layouts_of one) type) (whole_extent (layouts_of whole) (type_there before type)) (whole_extent_there type)

  pub complete_there : (type : CTy) → IsComplete one type → IsComplete whole (type_there before type)
  complete_there type =
      some_stays (extent (layouts_of one) type) (extent (layouts_of whole) (type_there before type)) (extent_there type)
