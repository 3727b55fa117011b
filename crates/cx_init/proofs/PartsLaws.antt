-- Parts of objects, and the puts of what is stored in them.
use Rattle.std.proofs.Common.{arith, ◌≡◌, refl, ap, sym, ◌∙◌, ℕ, ◌+◌, ◌*◌, ◌++◌, max, nat_lt, Bool, if◌then◌else◌, List, [], ◌∷◌, Option, None, Some, option_map}
use Rattle.cr_base.specs.declared.layout.Laid.{Laid}
use Rattle.cx_core.specs.Layouts.{extent, layouts_of}
use Rattle.cx_core.specs.Trees.{CTy, ty, void, basic, enum_type, pointer, array, record_type, function, CTypes, CPut}
use Rattle.cx_core.specs.ValidTypes.{CPart, part_at, direct_part}
use Rattle.cx_core.specs.Views as view
use Rattle.cx_init.specs.Parts.{after_one, completed_by, element_part, least_from, part_from, put_of, put_before, puts_listed}
use Rattle.cx_rules.specs.Pieces.{CFilled, filled_object}
use Rattle.cx_rules.specs.Types.{size_of}
use Rattle.cx_rules.specs.Initial.{CStored, least_length, completed_type, put_at, puts_from, puts_of, kept, in_order}

element_by_extent : (types : CTypes) (element : CTy) (below : Bool) (index : ℕ) (laid : Option Laid) → extent (layouts_of types) element ≡ laid
    → (if below then option_map (λ size. part_from element (index * size)) (size_of types element) else None)
    ≡ (if below then option_map (λ (one : Laid). part_from element (index * one.size)) (extent (layouts_of types) element) else None)
element_by_extent types element below index None is = rw is refl
element_by_extent types element below index (Some laid) is = rw is refl

pub element_by : (types : CTypes) (element : CTy) (length : Option ℕ) (index : ℕ) → element_part types element length index ≡ direct_part types index (array element length)
element_by types element None index = refl
element_by types element (Some length) index = element_by_extent types element (nat_lt index length) index (extent (layouts_of types) element) refl

put_by : (one : CStored) (part : Option CPart) (others : List CStored) (types : CTypes) (type : CTy) → view.puts_of (puts_listed types type others) ≡ puts_from types type others
    → view.puts_of (put_before (put_of one part) (puts_listed types type others)) ≡ put_at one part (puts_from types type others)
put_by one None others types type is = is
put_by one (Some part) others types type is = ap (λ rest. put_at one (Some part) rest) is

pub puts_are : (types : CTypes) (type : CTy) (stored : List CStored) → view.puts_of (puts_listed types type stored) ≡ puts_from types type stored
puts_are types type [] = refl
puts_are types type (one ∷ others) = put_by one (part_at types one.path type) others types type (puts_are types type others)

completed_is : (type : CTy) (stored : List CStored) → completed_by (least_length stored) type ≡ completed_type type stored
completed_is (ty (array element None) is_const) stored = refl
completed_is (ty (array element (Some length)) is_const) stored = refl
completed_is (ty void is_const) stored = refl
completed_is (ty (basic which) is_const) stored = refl
completed_is (ty (enum_type number) is_const) stored = refl
completed_is (ty (pointer to) is_const) stored = refl
completed_is (ty (record_type number) is_const) stored = refl
completed_is (ty (function result params variadic) is_const) stored = refl

behind_first : (first : Option CPut) (others last : List CPut) → put_before first (others ++ last) ≡ put_before first others ++ last
behind_first None others last = refl
behind_first (Some one) others last = refl

-- one more at the end
pub listed_last : (types : CTypes) (type : CTy) (stored : List CStored) (one : CStored)
    → puts_listed types type (stored ++ one ∷ []) ≡ puts_listed types type stored ++ put_before (put_of one (part_at types one.path type)) []
listed_last types type [] one = refl
listed_last types type (first ∷ others) one =
    ap (put_before (put_of first (part_at types first.path type))) (listed_last types type others one)
    ∙ behind_first (put_of first (part_at types first.path type)) (puts_listed types type others) (put_before (put_of one (part_at types one.path type)) [])

zero_max : (a : ℕ) → max 0 a ≡ a
zero_max a = grind arith

max_zero : (a : ℕ) → a ≡ max a 0
max_zero a = grind arith

max_turn : (a b c : ℕ) → max a (max b c) ≡ max (max b a) c
max_turn a b c = grind arith

least_behind : (least : ℕ) (path : List ℕ) (others : ℕ) → max (after_one path least) others ≡ max least (elim path as (λ _. ℕ) [ [] ↦ others | index ∷ rest ↦ max (index + 1) others ])
least_behind least [] others = refl
least_behind least (index ∷ rest) others = sym (max_turn least (index + 1) others)

from_is : (least : ℕ) (stored : List CStored) → least_from least stored ≡ max least (least_length stored)
from_is least [] = max_zero least
from_is least (one ∷ others) = from_is (after_one one.path least) others ∙ least_behind least one.path (least_length others)

pub least_by : (stored : List CStored) → least_from 0 stored ≡ least_length stored
least_by stored = from_is 0 stored ∙ zero_max (least_length stored)

abbrev filled_as : CTypes → CTy → List CStored → CTy → CFilled
filled_as types type stored t = record { type = t; puts = view.puts_of (puts_listed types t (in_order (kept types type stored))) }

pub filled_by : (types : CTypes) (type : CTy) (stored : List CStored)
    → filled_as types type stored (completed_by (least_from 0 stored) type) ≡ filled_object types type stored
unfolding puts_of
filled_by types type stored =
    let same : completed_by (least_from 0 stored) type ≡ completed_type type stored = ap (λ least. completed_by least type) (least_by stored) ∙ completed_is type stored in
    ap (filled_as types type stored) same
    ∙ ap (λ puts. record { type = completed_type type stored; puts = puts }) (puts_are types (completed_type type stored) (in_order (kept types type stored)))
