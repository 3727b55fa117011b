-- Paths that ascend, and a part that stands behind all of them.
use Rattle.std.proofs.Common.{◌≡◌, refl, ap, sym, ◌∙◌, ℕ, ◌==◌, nat_lt, Bool, true, false, not, ◌&&◌, if◌then◌else◌, map, List, [], ◌∷◌, ◌++◌}
use Rattle.cx_init.proofs.Rising.{behind_both, both_of}
use Rattle.cx_init.proofs.Taking.{one_outside}
use Rattle.cx_init.specs.declared.stored.Stored.{Stored}
use Rattle.cx_init.specs.Ascending.{paths_of, stands_behind, next_behind, ascend, last_of, ends_before, ends_before_more, ascend_joined, stand_before}
use Rattle.cx_init.specs.Views.{view_stored}
use Rattle.cx_rules.specs.Initial.{comes_before}
use Rattle.cx_rules.specs.Pieces.{is_within, kept_outside}

-- ---- the last path

last_joined : (path : List ℕ) (others : List (List ℕ)) (last : List ℕ) → last_of path (others ++ last ∷ []) ≡ last
last_joined path [] last = refl
last_joined path (next ∷ others) last = last_joined next others last

ends_by_last : (others : List (List ℕ)) (last later : List ℕ) → ends_before (others ++ last ∷ []) later ≡ stands_behind last later
ends_by_last [] last later = refl
ends_by_last (path ∷ others) last later = ap (λ found. stands_behind found later) (last_joined path others last)

-- ---- two lists, one behind the other

and_true : (a : Bool) → a ≡ (a && true)
and_true true = refl
and_true false = refl

and_turn : (a b : Bool) → (a && b) ≡ (b && a)
and_turn true true = refl
and_turn true false = refl
and_turn false true = refl
and_turn false false = refl

and_joined : (a b c : Bool) → (a && (b && c)) ≡ ((a && b) && c)
and_joined true b c = refl
and_joined false b c = refl

more_behind_none : (more : List (List ℕ)) → ascend more ≡ (ascend more && ends_before_more [] more)
more_behind_none [] = refl
more_behind_none (next ∷ others) = and_true (ascend (next ∷ others))

more_behind_one : (path : List ℕ) (more : List (List ℕ)) → ascend (path ∷ more) ≡ (ascend more && ends_before_more (path ∷ []) more)
more_behind_one path [] = refl
more_behind_one path (next ∷ others) = and_turn (stands_behind path next) (ascend (next ∷ others))

past_first : (path next : List ℕ) (others more : List (List ℕ)) → ends_before_more (next ∷ others) more ≡ ends_before_more (path ∷ next ∷ others) more
past_first path next others [] = refl
past_first path next others (first ∷ more) = refl

ascend_append : (paths more : List (List ℕ)) → ascend (paths ++ more) ≡ (ascend paths && (ascend more && ends_before_more paths more))
ascend_append [] more = more_behind_none more
ascend_append (path ∷ []) more = more_behind_one path more
ascend_append (path ∷ next ∷ others) more =
    ap (λ rest. stands_behind path next && rest) (ascend_append (next ∷ others) more)
    ∙ and_joined (stands_behind path next) (ascend (next ∷ others)) (ascend more && ends_before_more (next ∷ others) more)
    ∙ ap (λ joins. (stands_behind path next && ascend (next ∷ others)) && (ascend more && joins)) (past_first path next others more)

paths_append : (stored more : List Stored) → paths_of (stored ++ more) ≡ paths_of stored ++ paths_of more
paths_append [] more = refl
paths_append (one ∷ others) more = ap (λ rest. one.path ∷ rest) (paths_append others more)

pub joined_is : (stored more : List Stored) → ascend_joined (paths_of stored) (paths_of more) ≡ ascend (paths_of (stored ++ more))
joined_is stored more =
    sym (and_joined (ascend (paths_of stored)) (ascend (paths_of more)) (ends_before_more (paths_of stored) (paths_of more)))
    ∙ sym (ascend_append (paths_of stored) (paths_of more)) ∙ ap ascend (sym (paths_append stored more))

pub with_last : (stored : List Stored) (one : Stored) → stand_before (paths_of stored) one.path ≡ ascend (paths_of (stored ++ one ∷ []))
with_last stored one = sym (ascend_append (paths_of stored) (one.path ∷ [])) ∙ ap ascend (sym (paths_append stored (one ∷ [])))

pub ends_by : (stored others : List Stored) (last : Stored) (path later : List ℕ) → stored ≡ others ++ last ∷ [] → path ≡ last.path → stands_behind path later ≡ ends_before (paths_of stored) later
ends_by stored others last path later split is =
    ap (λ found. stands_behind found later) is ∙ sym (ends_by_last (paths_of others) last.path later)
    ∙ ap (λ paths. ends_before paths later) (sym (paths_append others (last ∷ []))) ∙ ap (λ held. ends_before (paths_of held) later) (sym split)

-- ---- nothing is within a part that stands behind all

is_false : (test : Bool) → not test ≡ true → test ≡ false
is_false true is = absurd cc
is_false false is = refl

outside_by : (same before within : Bool) (less : Bool) → (before ≡ false → within ≡ false) → (if same then before else less) ≡ false → (same && within) ≡ false
outside_by true before within less rest is = rest is
outside_by false before within less rest is = refl

-- a path that a part leads to doesn't come before the part
not_within : (part path : List ℕ) → comes_before part path ≡ false → is_within part path ≡ false
not_within [] path is = absurd cc
not_within (index ∷ part) [] is = refl
not_within (index ∷ part) (other ∷ path) is =
    outside_by (index == other) (comes_before part path) (is_within part path) (nat_lt index other) (not_within part path) is

first_before : (path : List ℕ) (others : List (List ℕ)) (part : List ℕ) → ascend (path ∷ others) ≡ true → stands_behind (last_of path others) part ≡ true → comes_before part path ≡ false
first_before path [] part ascends is = is_false (comes_before part path) is
first_before path (next ∷ others) part ascends is =
    let more = both_of (stands_behind path next) (ascend (next ∷ others)) ascends in
    behind_both path next part (is_false (comes_before next path) more.0) (first_before next others part more.1 is)

rest_before : (path : List ℕ) (others : List (List ℕ)) (part : List ℕ) → stands_behind (last_of path others) part ≡ true → ends_before others part ≡ true
rest_before path [] part is = refl
rest_before path (next ∷ others) part is = is

none_goes : (part : List ℕ) (stored : List Stored) → ascend (paths_of stored) ≡ true → ends_before (paths_of stored) part ≡ true → map view_stored stored ≡ kept_outside part (map view_stored stored)
none_goes part [] ascends is = refl
none_goes part (one ∷ others) ascends is =
    let more = both_of (next_behind one.path (paths_of others)) (ascend (paths_of others)) ascends in
    one_outside (is_within part one.path) (view_stored one) (map view_stored others) (kept_outside part (map view_stored others))
    (not_within part one.path (first_before one.path (paths_of others) part ascends is)) (none_goes part others more.1 (rest_before one.path (paths_of others) part is))

pub all_stay : (part : List ℕ) (stored : List Stored) → stand_before (paths_of stored) part ≡ true → map view_stored stored ≡ kept_outside part (map view_stored stored)
all_stay part stored is =
    let both = both_of (ascend (paths_of stored)) (ends_before (paths_of stored) part) is in
    none_goes part stored both.0 both.1
