-- Arguments that are taken from the last one on.
use Rattle.std.proofs.Common.{◌≡◌, ◌∙◌, refl, sym, ap, List, [], ◌∷◌, ◌++◌, map, reverse, append_assoc}
use Rattle.std.proofs.lemmas.List.{map-append, reverse-append}
use Rattle.cx_mean.specs.Operands.{CValue}
use Rattle.cx_mean.specs.State.{values_of_args}
use Rattle.cx_work.specs.declared.operand.Finished.{Finished}
use Rattle.cx_work.specs.declared.operand.Operand.{Operand}
use Rattle.cx_work.specs.Views.{view_finished, view_operand}

values_before : (rest : List Operand) (one : Operand) → values_of_args (map view_operand (rest ++ one ∷ [])) ≡ values_of_args (map view_operand rest) ++ view_finished one.value ∷ []
values_before [] one = refl
values_before (first ∷ rest) one = ap (λ (values : List CValue). view_finished first.value ∷ values) (values_before rest one)

taken_first : (values : List Finished) (one : Finished) → reverse (map view_finished (values ++ one ∷ [])) ≡ view_finished one ∷ reverse (map view_finished values)
taken_first values one = ap (λ (list : List CValue). reverse list) (map-append view_finished values (one ∷ [])) ∙ reverse-append (map view_finished values) (view_finished one ∷ [])

pub one_taken : (args rest : List Operand) (one : Operand) (values more : List Finished) → args ≡ rest ++ one ∷ [] → more ≡ values ++ one.value ∷ [] →
    values_of_args (map view_operand rest) ++ reverse (map view_finished more) ≡ values_of_args (map view_operand args) ++ reverse (map view_finished values)
one_taken args rest one values more args_are more_are =
    ap (λ (list : List Finished). values_of_args (map view_operand rest) ++ reverse (map view_finished list)) more_are
    ∙ ap (λ (list : List CValue). values_of_args (map view_operand rest) ++ list) (taken_first values one.value)
    ∙ sym (append_assoc (values_of_args (map view_operand rest)) (view_finished one.value ∷ []) (reverse (map view_finished values)))
    ∙ ap (λ (list : List CValue). list ++ reverse (map view_finished values)) (sym (values_before rest one))
    ∙ ap (λ (list : List Operand). values_of_args (map view_operand list) ++ reverse (map view_finished values)) (sym args_are)
