-- The names of a module differ.
use Rattle.std.proofs.Common.{◌≡◌, ℕ, Bool, true, false, cond, not, ◌||◌, List, [], ◌∷◌, ◌++◌, map, Option, Some, None, bytes_eq, refl, ap, subst, ◌∙◌, rules, append_assoc}
use Rattle.std.specs.Prelude.{All, IsSome}
use Rattle.std.specs.List.{IsDistinct, AllByRecursion, list_any}
use Rattle.std.proofs.lemmas.Cmp.{nat_list_eq_equiv}
use Rattle.std.proofs.lemmas.List.Elements.{All-head, All-tail}
use Rattle.straight_core.specs.Linked.{is_external, name_of_object, names_of_objects, names_of_functions, external_names}
use Rattle.straight_core.specs.Trees.{CObject, CProgram}
use Rattle.straight_rust_tree.specs.Names.{is_among}
use Rattle.straight_rust_tree.specs.Valid.{all_differ}
use Rattle.straight_whole.specs.Items.{name_or_empty}
use Rattle.straight_whole.specs.Straight.{IsPlainObject, IsStraight}
use Rattle.straight_whole.proofs.Lookups.{object_names}
use Rattle.straight_whole.proofs.TypedLift.{and_true, all_append}

-- a name differs from all of a list
abbrev pub DiffersFrom : List (List ℕ) → List ℕ → Type 0
DiffersFrom names name = AllByRecursion (λ other. bytes_eq name other ≡ false) names

-- ---- lists of different names

pub split_all : {A : Type 0} (P : A → Type 0) (xs ys : List A) → AllByRecursion P (xs ++ ys) → AllByRecursion P xs × AllByRecursion P ys
split_all P [] ys all = (tt, all)
split_all P (x ∷ xs) ys all = ((all.0, (split_all P xs ys all.1).0), (split_all P xs ys all.1).1)

-- two lists whose names all differ, also from those of the other
pub record AreApart (xs ys : List (List ℕ)) : Type 0 where
  pub first : IsDistinct bytes_eq xs
  pub second : IsDistinct bytes_eq ys
  pub between : AllByRecursion (DiffersFrom ys) xs

pub split_distinct : (xs ys : List (List ℕ)) → IsDistinct bytes_eq (xs ++ ys) → AreApart xs ys
unfolding IsDistinct
split_distinct [] ys distinct = record { first = tt; second = distinct; between = tt }
split_distinct (x ∷ xs) ys distinct =
    let rest = split_distinct xs ys distinct.1 in
    let heads = split_all (λ other. bytes_eq x other ≡ false) xs ys distinct.0 in
    record { first = (heads.0, rest.first); second = rest.second; between = (heads.1, rest.between) }

pub join_distinct : (xs ys : List (List ℕ)) → AreApart xs ys → IsDistinct bytes_eq (xs ++ ys)
unfolding IsDistinct
join_distinct [] ys apart = apart.second
join_distinct (x ∷ xs) ys apart = (
  all_append (λ other. bytes_eq x other ≡ false) xs ys apart.first.0 apart.between.0,
  join_distinct xs ys (record { first = apart.first.1; second = apart.second; between = apart.between.1 }),
)

-- without the middle one of three lists
pub without_middle : (xs ys zs : List (List ℕ)) → IsDistinct bytes_eq (xs ++ ys ++ zs) → IsDistinct bytes_eq (xs ++ zs)
without_middle xs ys zs distinct =
    let outer = split_distinct xs (ys ++ zs) (subst (IsDistinct bytes_eq) (append_assoc xs ys zs) distinct) in
    let inner = split_distinct ys zs outer.second in
    join_distinct xs zs (record { first = outer.first; second = inner.second; between = between xs outer.between })
  where
    between : (list : List (List ℕ)) → AllByRecursion (DiffersFrom (ys ++ zs)) list → AllByRecursion (DiffersFrom zs) list
    between [] all = tt
    between (x ∷ rest) all = ((split_all (λ other. bytes_eq x other ≡ false) ys zs all.0).1, between rest all.1)

-- ---- the names of a program

named : (name : Option (List ℕ)) → IsSome name → name_of_object name ≡ name_or_empty name ∷ []
named None some = absurd (search (rules, some))
named (Some name) some = refl

names_of_plain : (objects : List CObject) → All IsPlainObject objects → names_of_objects objects ≡ object_names objects
names_of_plain [] plain = refl
names_of_plain (one ∷ others) plain =
    let first = All-head IsPlainObject one others plain in
    let rest = names_of_plain others (All-tail IsPlainObject one others plain) in
    ap (λ linkage. cond (is_external linkage) (name_of_object one.name ++ names_of_objects others) (names_of_objects others)) first.linkage
    ∙ ap (λ list. list ++ names_of_objects others) (named one.name first.named) ∙ ap (λ list. name_or_empty one.name ∷ list) rest

-- the names of objects and of external functions differ
pub names_distinct : (program : CProgram) → All IsPlainObject program.objects → IsDistinct bytes_eq (external_names program) →
    IsDistinct bytes_eq (map (λ one. name_or_empty one.name) program.objects ++ map (λ one. one.name) program.externals)
names_distinct program plain distinct =
    without_middle (object_names program.objects) (names_of_functions program.functions) (map (λ one. one.name) program.externals)
    (subst (λ list. IsDistinct bytes_eq (list ++ names_of_functions program.functions ++ map (λ one. one.name) program.externals)) (names_of_plain program.objects plain) distinct)

-- those of objects differ, those of external functions do, and no name is in both
pub names_apart : (program : CProgram) → IsStraight program → AreApart (object_names program.objects) (map (λ one. one.name) program.externals)
names_apart program straight =
    split_distinct (object_names program.objects) (map (λ one. one.name) program.externals) (names_distinct program straight.objects straight.linked.names_differ)

-- ---- tests of names

-- no name of a list is equal to one that all of them differ from, on either side
pub none_among : (names : List (List ℕ)) (name : List ℕ) → AllByRecursion (λ other. bytes_eq other name ≡ false) names → is_among names name ≡ false
none_among [] name all = refl
none_among (first ∷ others) name all = rw (all.0, none_among others name all.1) refl

pub among_none : (names : List (List ℕ)) (name : List ℕ) → is_among names name ≡ false → AllByRecursion (λ other. bytes_eq other name ≡ false) names
among_none [] name none = tt
among_none (first ∷ others) name none =
    let parts = or_false (bytes_eq first name) (is_among others name) none in
    (parts.0, among_none others name parts.1)
  where
    or_false : (a b : Bool) → (a || b) ≡ false → (a ≡ false) × (b ≡ false)
    or_false true b e = absurd (cc)
    or_false false b e = (refl, e)

pub turned : (names : List (List ℕ)) (name : List ℕ) → DiffersFrom names name → AllByRecursion (λ other. bytes_eq other name ≡ false) names
turned [] name all = tt
turned (first ∷ others) name all = (nat_list_eq_equiv.symm first name ∙ all.0, turned others name all.1)

pub turned_back : (names : List (List ℕ)) (name : List ℕ) → AllByRecursion (λ other. bytes_eq other name ≡ false) names → DiffersFrom names name
turned_back [] name all = tt
turned_back (first ∷ others) name all = (nat_list_eq_equiv.symm name first ∙ all.0, turned_back others name all.1)

pub differ_all : (names : List (List ℕ)) → IsDistinct bytes_eq names → all_differ names ≡ true
unfolding IsDistinct
differ_all [] distinct = refl
differ_all (first ∷ others) distinct =
    and_true (not (list_any (λ other. bytes_eq other first) others)) (all_differ others)
    (ap not (none_among others first (turned others first distinct.0))) (differ_all others distinct.1)

-- no name of a list is among others
pub not_any : (names earlier : List (List ℕ)) → AllByRecursion (λ name. is_among earlier name ≡ false) names → not (list_any (is_among earlier) names) ≡ true
not_any [] earlier all = refl
not_any (first ∷ others) earlier all = rw all.0 (not_any others earlier all.1)

-- a name is in neither of two lists
pub among_append : (xs ys : List (List ℕ)) (name : List ℕ) → is_among xs name ≡ false → is_among ys name ≡ false → is_among (xs ++ ys) name ≡ false
among_append [] ys name none other = other
among_append (first ∷ others) ys name none other = none_among ((first ∷ others) ++ ys) name
    (all_append (λ one. bytes_eq one name ≡ false) (first ∷ others) ys (among_none (first ∷ others) name none) (among_none ys name other))
