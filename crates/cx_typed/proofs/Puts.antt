-- What is stored gives typed puts, in the order of their places (ISO C99, 6.7.8).
use Rattle.std.proofs.Common.{◌≡◌, ℕ, zero, suc, ◌<◌, ◌≤◌, List, [], ◌∷◌, length, Option, None, Some, slice_get, refl, sym, ap, ◌∙◌, subst, arith}
use Rattle.std.specs.Prelude.{IfSome}
use Rattle.std.specs.Option.{option_flatten}
use Rattle.cx_core.specs.Conversions.{IsIntegerType}
use Rattle.cx_core.specs.Trees.{CTy, ty, array, form_of_type, unqualified, CMember, CRecord, CTypes, CProgram, type_of}
use Rattle.cx_core.specs.Typing.{CHome, ArePuts, AreInOrder, AreConstantPuts, IsTyped, IsConstant}
use Rattle.cx_core.specs.ValidTypes.{CPart, part_at, IsBitFieldOf, IsMemberIn, IsResultForm}
use Rattle.cx_rules.specs.Initial.{CStored, type_by, completed_type, put_at, puts_from, puts_of, kept, in_order}
use Rattle.cx_typed.proofs.Members.{all_at}
use Rattle.cx_typed.proofs.Ordered.{like_completed, part_in_whole, named_in_whole, ordered}
use Rattle.cx_typed.proofs.Placed.{HaveWholeBits, first_of, some_same}
use Rattle.cx_typed.proofs.Scopes.{within}
use Rattle.cx_typed.proofs.Sorted.{IsBefore, AllBefore, kept_each, sorted_each, kept_before}
use Rattle.cx_typed.proofs.Stays.{part_stays, named_stays}
use Rattle.cx_typed.specs.Growth.{Grows}
use Rattle.cx_typed.specs.Initialised.{IsStored, EachStored}
use Rattle.cx_typed.specs.Sound.{AreSound}

-- ---- bit-fields of sound types

pub whole_there : (found : Option (Option CRecord)) (one : CRecord) → option_flatten found ≡ Some one → found ≡ Some (Some one)
whole_there None one is = absurd cc
whole_there (Some None) one is = absurd cc
whole_there (Some (Some other)) one is = ap Some is

pub get_at : (xs : List ℕ) (number : ℕ) → number < length xs → (x : ℕ) × (slice_get xs number ≡ Some x)
get_at [] number less = absurd (omega arith)
get_at (first ∷ xs) zero less = (first, refl)
get_at (first ∷ xs) (suc number) less = get_at xs number (omega arith)

if_integer : (types : CTypes) (one : CMember) (bits : Option ℕ) → IfSome bits (IsBitFieldOf types one) → IfSome bits (λ width. IsIntegerType types one.type)
if_integer types one None held = tt
if_integer types one (Some width) held = held.integer

pub whole_bits : (opens : List ℕ) (types : CTypes) (unit : ℕ) → AreSound opens types unit → HaveWholeBits types
whole_bits opens types unit sound number index whole one is there =
    let held = whole_there (slice_get types.records number) whole is in
    let less : number < length types.record_units = subst (λ n. number < n) (sym sound.types_are.record_units) (within types.records number (Some whole) held) in
    let of = get_at types.record_units number less in
    let record_is = sound.types_are.records number of.0 whole held of.1 in
    if_integer types one one.bits (all_at (IsMemberIn types of.0) whole.members index one there record_is.members).bits

-- ---- puts

abbrev IsPartFrom : CTypes → CTy → CStored → ℕ → Type 0
IsPartFrom types other one from = (part : CPart) → part_at types one.path other ≡ Some part → from ≤ first_of part

module _ (types : CTypes) (type : CTy) (stored : List CStored) where
  abbrev whole : CTy
  whole = completed_type type stored

  -- a part that is stored in has the type of what is stored
  stored_type : (one : CStored) (part : CPart) → IsStored types type one → part_at types one.path whole ≡ Some part → part.type ≡ one.type
  stored_type one part held there = part_in_whole types one.path type whole one.type part (like_completed type stored) (λ empty. same_whole type one held empty) held.part there
    where
      no_array : (type : CTy) (one : CStored) → IsStored types type one → one.path ≡ [] → IsResultForm (form_of_type type)
      no_array type one held empty =
          subst (λ t. IsResultForm (form_of_type t)) (sym (some_same type one.type (sym (ap (λ path. type_by types (Some type) path) empty) ∙ held.part))) held.no_array

      same_by : (type : CTy) → IsResultForm (form_of_type type) → type ≡ completed_type type stored
      same_by (ty (array element length) is_const) form = absurd form
      same_by type form = refl

      same_whole : (type : CTy) (one : CStored) → IsStored types type one → one.path ≡ [] → type ≡ completed_type type stored
      same_whole type one held empty = same_by type (no_array type one held empty)

  -- ---- in the order of their places

  module _ (bits : HaveWholeBits types) where
    abbrev AreFrom : ℕ → List CStored → Type 0
    AreFrom from list = EachStored (λ one. IsPartFrom types whole one from) list

    behind_one : (one : CStored) (part : CPart) (others : List CStored) → IsStored types type one → part_at types one.path whole ≡ Some part → EachStored (IsStored types type) others
        → EachStored (IsBefore types type one) others → AreFrom (first_of part) others
    behind_one one part [] held there each before = tt
    behind_one one part (next ∷ others) held there each before = (
      λ later is. ordered types bits one.path next.path type whole one.type next.type part later (like_completed type stored) held.part each.0.part there is before.0.0 before.0.1,
      behind_one one part others held there each.1 before.1,
    )

    puts_ordered : (list : List CStored) (from : ℕ) → EachStored (IsStored types type) list → AllBefore types type list → AreFrom from list → AreInOrder from (puts_from types whole list)
    puts_ordered [] from each before held = tt
    puts_ordered (one ∷ others) from each before held = by_part (part_at types one.path whole) refl (puts_ordered others from each.1 before.1 held.1)
        (λ part is. puts_ordered others (first_of part) each.1 before.1 (behind_one one part others each.0 is each.1 before.0))
      where
        by_part : (found : Option CPart) → part_at types one.path whole ≡ found → AreInOrder from (puts_from types whole others)
            → ((part : CPart) → part_at types one.path whole ≡ Some part → AreInOrder (first_of part) (puts_from types whole others)) → AreInOrder from (put_at one found (puts_from types whole others))
        by_part None e rest later = rest
        by_part (Some part) e rest later = (held.0 part e, later part e)

    none_before : (list : List CStored) → AreFrom 0 list
    none_before [] = tt
    none_before (one ∷ others) = (λ part is. omega arith, none_before others)

    pub in_place : EachStored (IsStored types type) stored → AreInOrder 0 (puts_of types type stored)
    unfolding puts_of
    in_place each =
        puts_ordered (in_order (kept types type stored)) 0 (sorted_each (IsStored types type) (kept types type stored) (kept_each (IsStored types type) types type stored each))
        (kept_before types type stored) (none_before (in_order (kept types type stored)))

  -- ---- typed

  module _ (opens : List ℕ) (home : CHome) (grows : Grows opens types home.program.types) where
    abbrev IsTypedValue : CStored → Type 0
    IsTypedValue one = IsTyped home one.value × (type_of one.value ≡ unqualified one.type)

    typed_from : (list : List CStored) → EachStored (IsStored types type) list → EachStored IsTypedValue list → ArePuts home whole (puts_from types whole list)
    typed_from [] each held = tt
    typed_from (one ∷ others) each held = by_part (part_at types one.path whole) refl (typed_from others each.1 held.1)
      where
        by_part : (found : Option CPart) → part_at types one.path whole ≡ found → ArePuts home whole (puts_from types whole others) → ArePuts home whole (put_at one found (puts_from types whole others))
        by_part None e rest = rest
        by_part (Some part) e rest =
            let same : part.type ≡ one.type = stored_type one part each.0 e in (
              (
                held.0.0,
                record {
                  part = record {
                    path = one.path;
                    leads = part_stays opens types home.program.types grows one.path whole part e;
                    named = named_stays opens types home.program.types grows one.path whole part e
                        (named_in_whole types one.path type whole one.type part (like_completed type stored) each.0.part e each.0.named);
                  };
                  no_array = subst (λ t. IsResultForm (form_of_type t)) (sym same) each.0.no_array;
                  value_is = held.0.1 ∙ ap unqualified (sym same);
                },
              ),
              rest,
            )

    pub are_puts : EachStored (IsStored types type) stored → EachStored IsTypedValue stored → ArePuts home whole (puts_of types type stored)
    unfolding puts_of
    are_puts each held =
        typed_from (in_order (kept types type stored)) (sorted_each (IsStored types type) (kept types type stored) (kept_each (IsStored types type) types type stored each))
        (sorted_each IsTypedValue (kept types type stored) (kept_each IsTypedValue types type stored held))

  -- ---- constant

  constant_from : (program : CProgram) (list : List CStored) → EachStored (λ one. IsConstant program one.value) list → AreConstantPuts program (puts_from types whole list)
  constant_from program [] held = tt
  constant_from program (one ∷ others) held = by_part (part_at types one.path whole) (constant_from program others held.1)
    where
      by_part : (found : Option CPart) → AreConstantPuts program (puts_from types whole others) → AreConstantPuts program (put_at one found (puts_from types whole others))
      by_part None rest = rest
      by_part (Some part) rest = (held.0, rest)

  pub constant_puts : (program : CProgram) → EachStored (λ one. IsConstant program one.value) stored → AreConstantPuts program (puts_of types type stored)
  unfolding puts_of
  constant_puts program held =
      constant_from program (in_order (kept types type stored))
      (sorted_each (λ one. IsConstant program one.value) (kept types type stored) (kept_each (λ one. IsConstant program one.value) types type stored held))
