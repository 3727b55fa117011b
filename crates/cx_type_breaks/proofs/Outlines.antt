-- Steps see of a type no more than what is asked of it.
use Rattle.std.proofs.Common.{◌≡◌, ℕ, zero, suc, refl, ap, ◌∙◌, arith, map, reverse}
use Rattle.std.specs.Prelude.{◌==◌, Bool, true, false, not, ◌&&◌, List, [], ◌∷◌, ◌++◌, Option, None, Some, is_some}
use Rattle.std.proofs.lemmas.Bool.Decides.{nat_tests}
use Rattle.std.proofs.lemmas.List.{reverse-append, map-append}
use Rattle.cr_base.specs.declared.layout.Laid.{Laid}
use Rattle.cx_core.specs.Layouts.{array_extent, layouts_of, whole_extent}
use Rattle.cx_core.specs.Trees.{CTy, CTypes}
use Rattle.cx_rules.specs.Shapes.{CStep, to_pointer, to_array, to_function, step_on}
use Rattle.cx_type_breaks.specs.declared.derivation.Outline.{Outline}
use Rattle.cx_type_breaks.specs.Derivation.{outline_of, after_by, faults_at, faults_by, faults_of, joined, sized}

sized_element : (count : ℕ) (element : Option Laid) → sized (Some count) (is_some element) ≡ is_some (array_extent (Some count) element)
sized_element zero element = refl
sized_element (suc n) None = both_fail (not (suc n == 0))
  where
    both_fail : (b : Bool) → (b && false) ≡ false
    both_fail true = refl
    both_fail false = refl
sized_element (suc n) (Some laid) = let e : (suc n == 0) ≡ false = grind (arith, nat_tests) in rw e refl

sized_array : (length : Option ℕ) (element : Option Laid) → sized length (is_some element) ≡ is_some (array_extent length element)
sized_array None element = refl
sized_array (Some count) element = sized_element count element

outline_after : (types : CTypes) (type : CTy) (step : CStep) → after_by (outline_of types type) step ≡ outline_of types (step_on type step)
outline_after types type (to_pointer is_const is_restrict) = refl
outline_after types type (to_array length) =
    ap (λ b. record_with b) (sized_array length (whole_extent (layouts_of types) type))
  where
    record_with : Bool → Outline
    record_with b = record { is_function = false; is_array = true; has_size = b }
outline_after types type (to_function params variadic within) = refl

pub faults_are : (types : CTypes) (type : CTy) (steps : List CStep) → faults_by (outline_of types type) steps ≡ faults_of types type steps
faults_are types type [] = refl
faults_are types type (to_pointer is_const is_restrict ∷ steps) =
    ap (λ others. joined (faults_at (outline_of types type) (to_pointer is_const is_restrict)) others)
    (ap (λ here. faults_by here steps) (outline_after types type (to_pointer is_const is_restrict)) ∙ faults_are types (step_on type (to_pointer is_const is_restrict)) steps)
faults_are types type (to_array length ∷ steps) =
    ap (λ others. joined (faults_at (outline_of types type) (to_array length)) others)
    (ap (λ here. faults_by here steps) (outline_after types type (to_array length)) ∙ faults_are types (step_on type (to_array length)) steps)
faults_are types type (to_function params variadic within ∷ steps) =
    ap (λ others. joined (faults_at (outline_of types type) (to_function params variadic within)) others)
    (ap (λ here. faults_by here steps) (outline_after types type (to_function params variadic within)) ∙ faults_are types (step_on type (to_function params variadic within)) steps)

-- the last of a list that is held the other way round
pub last_is_first : {X Y : Type 0} (view : X → Y) (all others : List X) (last : X) → all ≡ others ++ last ∷ [] → reverse (map view all) ≡ view last ∷ reverse (map view others)
last_is_first view all others last is = ap (λ xs. reverse (map view xs)) is ∙ (ap reverse (map-append view others (last ∷ [])) ∙ reverse-append (map view others) (view last ∷ []))
