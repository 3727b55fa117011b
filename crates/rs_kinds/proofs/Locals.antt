-- A name among parameters and locals.
use Rattle.std.proofs.Common.{◌≡◌, refl, ap, ◌∙◌, ℕ, Bool, true, false, if◌then◌else◌, List, [], ◌∷◌, ◌++◌, bytes_eq, option_map, Option, Some}
use Rattle.rs_text.specs.Tree.{Ty, LocalTree}
use Rattle.rs_mean.specs.Lookups.{local_type}
use Rattle.rs_layout.specs.Found.{or_else}

found_by : (test : Bool) (ty : LocalTree) (found : Option LocalTree) (other : Option Ty) (rest : Option Ty) → option_map (λ local. local.ty) found ≡ or_else Ty other rest →
    option_map (λ (local : LocalTree). local.ty) (if test then Some ty else found) ≡ or_else Ty (if test then Some ty.ty else other) rest
found_by true ty found other rest is = refl
found_by false ty found other rest is = is

pub local_of_two : (x : List ℕ) (params locals : List LocalTree) → local_type x (params ++ locals) ≡ or_else Ty (local_type x params) (local_type x locals)
local_of_two x [] locals = refl
local_of_two x (param ∷ params) locals =
    found_by (bytes_eq param.name x) param _ _ (local_type x locals) (local_of_two x params locals)
    ∙ ap (λ found. or_else Ty found (local_type x locals)) (sym_either (bytes_eq param.name x) param _)
  where
    sym_either : (test : Bool) (one : LocalTree) (found : Option LocalTree) → (if test then Some one.ty else option_map (λ (local : LocalTree). local.ty) found) ≡ option_map (λ local. local.ty) (if test then Some one else found)
    sym_either true one found = refl
    sym_either false one found = refl
