-- The name of a module by its number.
use Rattle.std.proofs.Common.{◌≡◌, ◌∙◌, ◌<◌, ◌+◌, ℕ, suc, List, [], ◌∷◌, map, length, get_or, Option, Some, None, option_map, sym, ap, slice_get, unwrap_or, arith}
use Rattle.std.proofs.lemmas.List.{length-map}
use Rattle.std.proofs.lemmas.Option.{slice_get-get_or, slice_get-map}
use Rattle.rs_mean.specs.Typing.{ItemPlace, first_ill_from, first_ill_item, placed_in}
use Rattle.rs_text.specs.Tree.{ModuleTree}
use Rattle.rs_tree.specs.Views.{module_view}
use Rattle.rs_tree.specs.declared.item.Module.{Module}
use Rattle.rs_types.specs.Checked.{place}
use Rattle.run_ends.specs.Told.{name_at}

abbrev names_of : List Module → List (List ℕ)
names_of modules = map (λ (unit : ModuleTree). unit.name) (map module_view modules)

-- what stands at a number of two maps
stands : (modules : List Module) (number : ℕ) → slice_get (names_of modules) number ≡ option_map (λ (unit : ModuleTree). unit.name) (option_map module_view (slice_get modules number))
stands modules number =
    slice_get-map (λ (unit : ModuleTree). unit.name) (map module_view modules) number
    ∙ ap (option_map (λ (unit : ModuleTree). unit.name)) (slice_get-map module_view modules number)

pub named : (modules : List Module) (number : ℕ) (other : Module) → number < length modules → (get_or modules number other).name ≡ name_at (names_of modules) number
named modules number other within =
    sym (ap (λ (o : Option (List ℕ)). unwrap_or o [])
    (stands modules number ∙ ap (λ (o : Option Module). option_map (λ (tree : ModuleTree). tree.name) (option_map module_view o)) (slice_get-get_or modules number other within)))

-- ---- the first item that isn't well typed stands in a module

abbrev unit_in : Option ItemPlace → ℕ
unit_in None = 0
unit_in (Some one) = one.mod_number

placed_within : (number : ℕ) (found : Option ℕ) (rest : Option ItemPlace) (count unit item : ℕ) → (rest ≡ Some (place unit item) → unit < (number + 1) + count)
    → placed_in number found rest ≡ Some (place unit item) → unit < number + suc count
placed_within number None rest count unit item more is =
    let behind : unit < (number + 1) + count = more is in
    omega arith
placed_within number (Some here) rest count unit item more is =
    let same : number ≡ unit = ap unit_in is in
    omega arith

ill_within : (all modules : List ModuleTree) (number unit item : ℕ) → first_ill_from all number modules ≡ Some (place unit item) → unit < number + length modules
ill_within all [] number unit item is = cc
ill_within all (one ∷ others) number unit item is =
    placed_within number (first_ill_item all one [] 0 one.items) (first_ill_from all (number + 1) others) (length others) unit item (ill_within all others (number + 1) unit item) is

pub ill_unit : (modules : List Module) (unit item : ℕ) → first_ill_from (map module_view modules) 0 (map module_view modules) ≡ Some (place unit item) → unit < length modules
ill_unit modules unit item is =
    let within : unit < 0 + length (map module_view modules) = ill_within (map module_view modules) (map module_view modules) 0 unit item is in
    let count : length (map module_view modules) ≡ length modules = length-map modules module_view in
    omega arith
