-- The module of a unit is found by its name, and the names of the modules of two units differ.
use Rattle.std.proofs.Common.{arith, ◌≡◌, ◌<◌, ◌≤◌, ℕ, zero, suc, ◌+◌, true, List, [], ◌∷◌, length, Some, slice_get, get_or, refl, sym, ap, ◌∙◌, ◌⊎◌, inl, inr}
use Rattle.std.proofs.lemmas.Bool.{cases_eq}
use Rattle.std.proofs.lemmas.Option.{slice_get-get_or}
use Rattle.std.specs.Str.{bytes_eq}
use Rattle.rs_mean.specs.Lookups.{items_in, items_of, module_named}
use Rattle.rs_text.specs.Tree.{ModuleTree}
use Rattle.rs_text.specs.Valid.{all_differ}
use Rattle.whole_items.specs.Items.{WrittenBodies, module_tree}
use Rattle.whole_means.proofs.Keys.{differ_first, differ_rest}
use Rattle.whole_means.proofs.Lists.{Among, among_at, find_only, texts_equal, texts_same}
use Rattle.whole_means.specs.Written.{IsNamed}
use Rattle.whole_names.specs.Kept.{NamedProgram, module_of}
use Rattle.whole_names.specs.ModuleNames.{name_or}

-- modules of so many units from a number on
abbrev pub modules_by : (ℕ → ModuleTree) → (unit left : ℕ) → List ModuleTree
modules_by tree unit zero = []
modules_by tree unit (suc left) = tree unit ∷ modules_by tree (suc unit) left

-- a module is that of a unit
pub record IsOfUnit (tree : ℕ → ModuleTree) (from left : ℕ) (one : ModuleTree) : Type 0 where
  pub unit : ℕ
  pub low : from ≤ unit
  pub high : unit < from + left
  pub is : tree unit ≡ one

pub unit_of : (tree : ℕ → ModuleTree) (from left : ℕ) (one : ModuleTree) → Among (modules_by tree from left) one → IsOfUnit tree from left one
unit_of tree from zero one there = absurd there
unit_of tree from (suc left) one (inl same) = record { unit = from; low = omega arith; high = omega arith; is = same }
unit_of tree from (suc left) one (inr there) =
    let rest = unit_of tree (suc from) left one there in
    let low = rest.low in
    let high = rest.high in
    record { unit = rest.unit; low = omega (arith, low); high = omega (arith, high); is = rest.is }

pub there_by : (tree : ℕ → ModuleTree) (from left unit : ℕ) → from ≤ unit → unit < from + left → Among (modules_by tree from left) (tree unit)
there_by tree from zero unit low high = absurd (omega (arith, low, high))
there_by tree from (suc left) unit low high = by_case (cases_eq from unit) (λ above. there_by tree (suc from) left unit above (omega (arith, high)))
  where
    by_case : (from ≡ unit) ⊎ (from ≡ unit → ⊥) → (suc from ≤ unit → Among (modules_by tree (suc from) left) (tree unit)) → Among (modules_by tree from (suc left)) (tree unit)
    by_case (inl same) more = inl (ap tree same)
    by_case (inr other) more = inr (more (omega (arith, other, low)))

-- of names that differ, no two are at two places
pub at_one_place : (names : List (List ℕ)) (i j : ℕ) (x : List ℕ) → all_differ names ≡ true → slice_get names i ≡ Some x → slice_get names j ≡ Some x → i ≡ j
at_one_place [] i j x differ first second = absurd cc
at_one_place (y ∷ names) zero zero x differ first second = refl
at_one_place (y ∷ names) zero (suc j) x differ first second = absurd (let e : Some y ≡ Some x = first in differ_first y names x differ (among_at names j x second) (sym (cc (e))))
at_one_place (y ∷ names) (suc i) zero x differ first second = absurd (let e : Some y ≡ Some x = second in differ_first y names x differ (among_at names i x first) (sym (cc (e))))
at_one_place (y ∷ names) (suc i) (suc j) x differ first second = ap suc (at_one_place names i j x (differ_rest y names differ) first second)

module _ (whole : NamedProgram) (is : IsNamed whole) where
  abbrev count : ℕ
  count = length whole.module_names

  module_name_is : (unit : ℕ) → unit < count → slice_get whole.module_names unit ≡ Some (module_of whole unit)
  module_name_is unit low =
      let there : slice_get whole.module_names unit ≡ Some (get_or whole.module_names unit []) = slice_get-get_or whole.module_names unit [] low in
      there ∙ ap Some (sym (ap (name_or []) there))

  pub modules_apart : (one other : ℕ) → one < count → other < count → module_of whole one ≡ module_of whole other → one ≡ other
  modules_apart one other low also same =
      at_one_place whole.module_names one other (module_of whole other) is.modules_differ (module_name_is one low ∙ ap Some same) (module_name_is other also)

  module _ (bodies : WrittenBodies) where
    abbrev modules : List ModuleTree
    modules = modules_by (module_tree whole bodies) 0 count

    pub module_found : (unit : ℕ) → unit < count → module_named (module_of whole unit) modules ≡ Some (module_tree whole bodies unit)
    module_found unit low =
        find_only (λ (one : ModuleTree). bytes_eq one.name (module_of whole unit)) modules (module_tree whole bodies unit)
        (there_by (module_tree whole bodies) 0 count unit (omega arith) (omega (arith, low)))
        (texts_same (module_of whole unit))
        (λ one there named.
        let of = unit_of (module_tree whole bodies) 0 count one there in
        let high = of.high in
        let name : module_of whole of.unit ≡ module_of whole unit = ap (λ (m : ModuleTree). m.name) of.is ∙ texts_equal one.name (module_of whole unit) named in
        sym of.is ∙ ap (module_tree whole bodies) (modules_apart of.unit unit (omega (arith, high)) low name))

    pub items_found : (unit : ℕ) → unit < count → items_in modules (module_of whole unit) ≡ (module_tree whole bodies unit).items
    items_found unit low = ap items_of (module_found unit low)
