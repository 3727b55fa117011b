-- No record of a valid crate is aligned to more than 16 bytes.
use Rattle.std.proofs.Common.{◌≡◌, refl, sym, subst, arith, ℕ, ◌≤◌, nat_eq, Bool, true, false, ◌&&◌, ◌||◌, List, [], ◌∷◌, ◌++◌, reverse, Option, Some, None, bytes_eq}
use Rattle.std.specs.List.{list_all}
use Rattle.std.proofs.lemmas.List.{reverse-append}
use Rattle.std.proofs.lemmas.Bool.Decides.{nat_tests}
use Rattle.rs_text.specs.Tree.{ItemTree, RecordItem, StaticItem, ExternItem, FunctionItem, ModuleTree, CrateTree}
use Rattle.rs_text.specs.Valid.{valid_align, valid_item, valid_items, valid_crate}
use Rattle.rs_mean.specs.Lookups.{items_in}
use Rattle.rs_layout.specs.Layouts.{IsAligned, AreAligned, ModulesAreAligned}

both : (a b : Bool) → (a && b) ≡ true → (a ≡ true) × (b ≡ true)
both true true is = (refl, refl)
both true false is = absurd cc
both false b is = absurd cc

either : {P : Type 0} (a b : Bool) → (a || b) ≡ true → (a ≡ true → P) → (b ≡ true → P) → P
either true b is one other = one refl
either false b is one other = other is

equal : (n m : ℕ) → n ≤ 16 → nat_eq n m ≡ true → m ≤ 16
equal n m small is = let same : n ≡ m = grind (arith, nat_tests) in omega (arith, same)

align_small : (align : Option ℕ) → valid_align align ≡ true → IsAligned align
align_small None is = tt
align_small (Some n) is =
    either (nat_eq 1 n) _ is (equal 1 n (omega arith)) (λ is.
    either (nat_eq 2 n) _ is (equal 2 n (omega arith)) (λ is.
    either (nat_eq 4 n) _ is (equal 4 n (omega arith)) (λ is.
    either (nat_eq 8 n) _ is (equal 8 n (omega arith)) (λ is.
    either (nat_eq 16 n) false is (equal 16 n (omega arith)) (λ is. absurd cc)))))

items_aligned : (items : List ItemTree) → list_all valid_item items ≡ true → AreAligned items
items_aligned [] all = tt
items_aligned (RecordItem one ∷ items) all =
    let parts = both (valid_item (RecordItem one)) (list_all valid_item items) all in
    let first = both _ _ parts.0 in
    let align = both (valid_align one.align) _ first.0 in
    (align_small one.align align.0, items_aligned items parts.1)
items_aligned (StaticItem object ∷ items) all = items_aligned items (both (valid_item (StaticItem object)) (list_all valid_item items) all).1
items_aligned (ExternItem outers ∷ items) all = items_aligned items (both (valid_item (ExternItem outers)) (list_all valid_item items) all).1
items_aligned (FunctionItem fun ∷ items) all = items_aligned items (both (valid_item (FunctionItem fun)) (list_all valid_item items) all).1

aligned_append : (items others : List ItemTree) → AreAligned items → AreAligned others → AreAligned (items ++ others)
aligned_append [] others are too = too
aligned_append (RecordItem one ∷ items) others are too = (are.0, aligned_append items others are.1 too)
aligned_append (StaticItem object ∷ items) others are too = aligned_append items others are too
aligned_append (ExternItem outers ∷ items) others are too = aligned_append items others are too
aligned_append (FunctionItem fun ∷ items) others are too = aligned_append items others are too

behind_aligned : (item : ItemTree) (items : List ItemTree) → AreAligned (reverse items) → AreAligned (item ∷ []) → AreAligned (reverse (item ∷ items))
behind_aligned item items are is = subst AreAligned (sym (reverse-append (item ∷ []) items)) (aligned_append (reverse items) (item ∷ []) are is)

pub reversed_aligned : (items : List ItemTree) → AreAligned items → AreAligned (reverse items)
reversed_aligned [] are = tt
reversed_aligned (RecordItem one ∷ items) are = behind_aligned (RecordItem one) items (reversed_aligned items are.1) (are.0, tt)
reversed_aligned (StaticItem object ∷ items) are = behind_aligned (StaticItem object) items (reversed_aligned items are) tt
reversed_aligned (ExternItem outers ∷ items) are = behind_aligned (ExternItem outers) items (reversed_aligned items are) tt
reversed_aligned (FunctionItem fun ∷ items) are = behind_aligned (FunctionItem fun) items (reversed_aligned items are) tt

-- the earlier items of a module that is valid, the last one first
pub earlier_aligned : (items : List ItemTree) → list_all valid_item items ≡ true → AreAligned (reverse items)
earlier_aligned items all = reversed_aligned items (items_aligned items all)

named_by : (m : List ℕ) (unit : ModuleTree) (modules : List ModuleTree) (b : Bool) → bytes_eq unit.name m ≡ b → AreAligned (reverse unit.items) →
    AreAligned (reverse (items_in modules m)) → AreAligned (reverse (items_in (unit ∷ modules) m))
named_by m unit modules true same is are = rw same is
named_by m unit modules false same is are = rw same are

pub modules_aligned : (modules : List ModuleTree) → list_all (λ unit. valid_items unit.items) modules ≡ true → ModulesAreAligned modules
modules_aligned [] all m = tt
modules_aligned (unit ∷ modules) all m =
    let parts = both (valid_items unit.items) (list_all (λ unit. valid_items unit.items) modules) all in
    let first = both _ _ parts.0 in
    let items = both (list_all valid_item unit.items) _ first.0 in
    named_by m unit modules (bytes_eq unit.name m) refl (earlier_aligned unit.items items.0) (modules_aligned modules parts.1 m)

pub crate_aligned : (whole : CrateTree) → valid_crate whole ≡ true → ModulesAreAligned whole.modules
crate_aligned whole is =
    let first = both _ _ is in
    let modules = both _ (list_all (λ (unit : ModuleTree). valid_items unit.items) whole.modules) first.0 in
    modules_aligned whole.modules modules.1
