-- In a crate that is well typed each record is laid out.
use Rattle.std.proofs.Common.{◌≡◌, refl, sym, ap, ◌∙◌, subst, ℕ, ◌+◌, Bool, true, false, ◌&&◌, ◌||◌, List, [], ◌∷◌, ◌++◌, append_assoc, map, reverse, Option, Some, None, is_none, is_some, IsSome, bytes_eq, if◌then◌else◌}
use Rattle.std.specs.Cmp.Lexicographic.{same_text}
use Rattle.std.proofs.lemmas.Bool.{and_parts}
use Rattle.std.proofs.lemmas.List.{reverse-append}
use Rattle.cr_base.specs.declared.layout.Laid.{Laid}
use Rattle.rs_text.specs.Tree.{Ty, Integer, Boolean, Void, Pointer, Array, Code, Record, RecordTree, ItemTree, RecordItem, StaticItem, ExternItem, FunctionItem, ModuleTree, CrateTree}
use Rattle.rs_text.specs.Valid.{all_differ}
use Rattle.rs_mean.specs.Lookups.{items_in, record_among, record_at}
use Rattle.rs_mean.specs.Layout.{laid_among, laid_at, laid_of, record_laid}
use Rattle.rs_mean.specs.Typing.{by_earlier, has_fields, names_differ, item_typed, first_ill_item, ItemPlace, placed_in, first_ill_from, well_typed, type_stands}
use Rattle.rs_layout.specs.Layouts.{record_named, FoundRecord, first_found, found_among, by_front}
use Rattle.rs_layout.specs.LayoutsNumbered.{is_type_in}

-- ---- items in front of others

-- these items behind others, the last one first
unfoldable pub onto : List ItemTree → List ItemTree → List ItemTree
onto [] earlier = earlier
onto (item ∷ items) earlier = onto items (item ∷ earlier)

onto_is : (items earlier : List ItemTree) → onto items earlier ≡ reverse items ++ earlier
unfolding onto
onto_is [] earlier = refl
onto_is (item ∷ items) earlier =
    onto_is items (item ∷ earlier)
    ∙ sym (ap (λ list. list ++ earlier) (reverse-append (item ∷ []) items) ∙ append_assoc (reverse items) (item ∷ []) earlier)

append_none : (items : List ItemTree) → items ++ [] ≡ items
append_none [] = refl
append_none (item ∷ items) = ap (λ others. item ∷ others) (append_none items)

pub onto_reverse : (items : List ItemTree) → onto items [] ≡ reverse items
onto_reverse items = onto_is items [] ∙ append_none (reverse items)

-- ---- records that are laid out

-- each record among items, the last one first, is laid out
abbrev pub AreLaid : List ℕ → List ItemTree → Type 0
AreLaid home [] = Unit {0}
AreLaid home (RecordItem one ∷ earlier) = IsSome (record_laid (by_front home earlier) one) × AreLaid home earlier
AreLaid home (StaticItem object ∷ earlier) = AreLaid home earlier
AreLaid home (ExternItem outers ∷ earlier) = AreLaid home earlier
AreLaid home (FunctionItem fun ∷ earlier) = AreLaid home earlier

pub ill_by : (b : Bool) (rest : Option ℕ) (number : ℕ) → (if b then rest else Some number) ≡ None → (b ≡ true) × (rest ≡ None)
ill_by true rest number none = (refl, none)
ill_by false rest number none = absurd cc

pub record_stands : (modules : List ModuleTree) (unit : ModuleTree) (earlier : List ItemTree) (one : RecordTree) →
    item_typed modules unit earlier (RecordItem one) ≡ true → IsSome (record_laid (by_front unit.name earlier) one)
record_stands modules unit earlier one typed = (and_parts _ (is_some (record_laid (by_earlier unit earlier) one)) typed).1

pub fields_differ : (modules : List ModuleTree) (unit : ModuleTree) (earlier : List ItemTree) (one : RecordTree) →
    item_typed modules unit earlier (RecordItem one) ≡ true → all_differ (map (λ field. field.name) one.fields) ≡ true
fields_differ modules unit earlier one typed =
    let first = and_parts _ (is_some (record_laid (by_earlier unit earlier) one)) typed in
    let second = and_parts _ _ first.0 in
    (and_parts (has_fields one.fields) (all_differ (map (λ field. field.name) one.fields)) second.0).1

item_laid : (modules : List ModuleTree) (unit : ModuleTree) (earlier : List ItemTree) (item : ItemTree) → item_typed modules unit earlier item ≡ true →
    AreLaid unit.name earlier → AreLaid unit.name (item ∷ earlier)
item_laid modules unit earlier (RecordItem one) typed are =
    (record_stands modules unit earlier one typed, are)
item_laid modules unit earlier (StaticItem object) typed are = are
item_laid modules unit earlier (ExternItem outers) typed are = are
item_laid modules unit earlier (FunctionItem fun) typed are = are

items_laid : (modules : List ModuleTree) (unit : ModuleTree) (items earlier : List ItemTree) (number : ℕ) →
    first_ill_item modules unit earlier number items ≡ None → AreLaid unit.name earlier → AreLaid unit.name (onto items earlier)
unfolding onto
items_laid modules unit [] earlier number none are = are
items_laid modules unit (item ∷ items) earlier number none are =
    let parts = ill_by (names_differ earlier item && item_typed modules unit earlier item) (first_ill_item modules unit (item ∷ earlier) (number + 1) items) number none in
    let typed = and_parts (names_differ earlier item) (item_typed modules unit earlier item) parts.0 in
    items_laid modules unit items (item ∷ earlier) (number + 1) parts.1 (item_laid modules unit earlier item typed.1 are)

pub placed_none : (number : ℕ) (item : Option ℕ) (rest : Option ItemPlace) → is_none (placed_in number item rest) ≡ true → (item ≡ None) × (is_none rest ≡ true)
placed_none number None rest none = (refl, none)
placed_none number (Some item) rest none = absurd cc

named_laid : (m : List ℕ) (unit : ModuleTree) (modules : List ModuleTree) (b : Bool) → bytes_eq unit.name m ≡ b → AreLaid unit.name (reverse unit.items) →
    AreLaid m (reverse (items_in modules m)) → AreLaid m (reverse (items_in (unit ∷ modules) m))
named_laid m unit modules true same is are = rw same (subst (λ name. AreLaid name (reverse unit.items)) (same_text unit.name m (sym same)) is)
named_laid m unit modules false same is are = rw same are

modules_laid : (all modules : List ModuleTree) (number : ℕ) → is_none (first_ill_from all number modules) ≡ true → (m : List ℕ) →
    AreLaid m (reverse (items_in modules m))
modules_laid all [] number none m = tt
modules_laid all (unit ∷ modules) number none m =
    let parts = placed_none number (first_ill_item all unit [] 0 unit.items) (first_ill_from all (number + 1) modules) none in
    named_laid m unit modules (bytes_eq unit.name m) refl
    (subst (AreLaid unit.name) (onto_reverse unit.items) (items_laid all unit unit.items [] 0 parts.0 tt))
    (modules_laid all modules (number + 1) parts.1 m)

-- ---- the record of a name

laid_by : (home x : List ℕ) (one : RecordTree) (earlier : List ItemTree) (b : Bool) → IsSome (record_laid (by_front home earlier) one) →
    (IsSome (found_among x earlier) → IsSome (laid_among home earlier x)) →
    IsSome (first_found (if b then Some one else None) earlier (found_among x earlier)) →
    IsSome (if b then record_laid (by_front home earlier) one else laid_among home earlier x)
laid_by home x one earlier true is others some = is
laid_by home x one earlier false is others some = others some

among_laid : (home x : List ℕ) (items : List ItemTree) → AreLaid home items → IsSome (found_among x items) → IsSome (laid_among home items x)
among_laid home x [] are some = absurd cc
among_laid home x (RecordItem one ∷ earlier) are some =
    laid_by home x one earlier (bytes_eq one.name x) are.0 (among_laid home x earlier are.1) some
among_laid home x (StaticItem object ∷ earlier) are some = among_laid home x earlier are some
among_laid home x (ExternItem outers ∷ earlier) are some = among_laid home x earlier are some
among_laid home x (FunctionItem fun ∷ earlier) are some = among_laid home x earlier are some

first_some : (one : Option RecordTree) (earlier : List ItemTree) (others : Option FoundRecord) → IsSome others → IsSome (first_found one earlier others)
first_some (Some one) earlier others some = refl
first_some None earlier others some = some

found_kept : (x : List ℕ) (items earlier : List ItemTree) → IsSome (found_among x earlier) → IsSome (found_among x (onto items earlier))
unfolding onto
found_kept x [] earlier some = some
found_kept x (item ∷ items) earlier some =
    found_kept x items (item ∷ earlier) (first_some (record_named x item) earlier (found_among x earlier) some)

found_here : (x : List ℕ) (one : RecordTree) (earlier : List ItemTree) → bytes_eq one.name x ≡ true → IsSome (found_among x (RecordItem one ∷ earlier))
found_here x one earlier same = rw same refl

passed : (x : List ℕ) (one : RecordTree) (items : List ItemTree) → bytes_eq one.name x ≡ false → record_among x (RecordItem one ∷ items) ≡ record_among x items
passed x one items other = rw other refl

found_onto_by : (x : List ℕ) (one : RecordTree) (items earlier : List ItemTree) (b : Bool) → bytes_eq one.name x ≡ b →
    ((earlier : List ItemTree) → IsSome (record_among x items) → IsSome (found_among x (onto items earlier))) →
    IsSome (record_among x (RecordItem one ∷ items)) → IsSome (found_among x (onto items (RecordItem one ∷ earlier)))
found_onto_by x one items earlier true same others some = found_kept x items (RecordItem one ∷ earlier) (found_here x one earlier same)
found_onto_by x one items earlier false other others some = others (RecordItem one ∷ earlier) (subst IsSome (passed x one items other) some)

found_onto : (x : List ℕ) (items earlier : List ItemTree) → IsSome (record_among x items) → IsSome (found_among x (onto items earlier))
unfolding onto
found_onto x [] earlier some = absurd cc
found_onto x (RecordItem one ∷ items) earlier some = found_onto_by x one items earlier (bytes_eq one.name x) refl (found_onto x items) some
found_onto x (StaticItem object ∷ items) earlier some = found_onto x items (StaticItem object ∷ earlier) some
found_onto x (ExternItem outers ∷ items) earlier some = found_onto x items (ExternItem outers ∷ earlier) some
found_onto x (FunctionItem fun ∷ items) earlier some = found_onto x items (FunctionItem fun ∷ earlier) some

-- the record that a path names is laid out
pub path_laid : (whole : CrateTree) → well_typed whole ≡ true → (m x : List ℕ) → IsSome (record_at whole.modules m x) → IsSome (laid_at whole.modules m x)
path_laid whole typed m x some =
    among_laid m x (reverse (items_in whole.modules m)) (modules_laid whole.modules whole.modules 0 typed m)
    (subst (λ items. IsSome (found_among x items)) (onto_reverse (items_in whole.modules m)) (found_onto x (items_in whole.modules m) [] some))

-- an array whose elements are laid out isn't too large
array_laid : (element whole : Option Laid) → IsSome element → (is_none element || is_some whole) ≡ true → IsSome whole
array_laid None whole some fits = absurd cc
array_laid (Some one) None some fits = absurd cc
array_laid (Some one) (Some all) some fits = refl

-- a type that meets the cases is laid out
pub stands_laid : (whole : CrateTree) → well_typed whole ≡ true → (ty : Ty) → type_stands whole.modules ty ≡ true → IsSome (laid_of whole.modules ty)
stands_laid whole typed (Integer ty) stands = refl
stands_laid whole typed Boolean stands = refl
stands_laid whole typed Void stands = absurd cc
stands_laid whole typed (Pointer target) stands = refl
stands_laid whole typed (Array element size) stands =
    let parts = and_parts _ (is_none (laid_of whole.modules element) || is_some (laid_of whole.modules (Array element size))) stands in
    array_laid (laid_of whole.modules element) (laid_of whole.modules (Array element size))
    (stands_laid whole typed element (and_parts (type_stands whole.modules element) _ parts.0).0) parts.1
stands_laid whole typed (Code params result) stands = refl
stands_laid whole typed (Record m x) stands = path_laid whole typed m x stands

both_ways : {A : Type 0} (found : Option A) → IsSome found → is_some found ≡ false → ⊥
both_ways None some none = cc
both_ways (Some one) some none = cc

-- a type that has no layout is `c_void`
pub type_in_none : (whole : CrateTree) → well_typed whole ≡ true → (ty : Ty) → is_type_in whole.modules ty ≡ true → is_some (laid_of whole.modules ty) ≡ false → ty ≡ Void
type_in_none whole typed Void stands none = refl
type_in_none whole typed ty stands none = absurd (both_ways (laid_of whole.modules ty) (stands_laid whole typed ty stands) none)
