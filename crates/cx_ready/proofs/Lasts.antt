-- The operands in front of the last one.
use Rattle.std.proofs.Common.{◌≡◌, refl, sym, ◌∙◌, ap, List, [], ◌∷◌, ◌++◌, map, Option, None, Some, IfSome}
use Rattle.std.proofs.lemmas.List.{map-append}
use Rattle.cx_mean.specs.Operands.{COperand}
use Rattle.cx_mean.specs.Work.{CWork, finished, needs, chooses, tests, carries, updates, fills, waits, operands_in}
use Rattle.cx_ready.specs.Taken.{IsLonger}
use Rattle.cx_work.specs.declared.operand.Operand.{Operand}
use Rattle.cx_work.specs.declared.work.Work.{Work}
use Rattle.cx_work.specs.Views.{view_operand, view_work, works_of}

last_behind : (works : List CWork) (operand : COperand) → operands_in (works_of (works ++ finished operand ∷ [])) ≡ operands_in (works_of works) ++ operand ∷ []
last_behind [] operand = refl
last_behind (finished first ∷ others) operand = ap (λ (list : List COperand). first ∷ list) (last_behind others operand)
last_behind (needs node operands ∷ others) operand = last_behind others operand
last_behind (chooses node first ∷ others) operand = last_behind others operand
last_behind (tests node marks second ∷ others) operand = last_behind others operand
last_behind (carries node marks part ∷ others) operand = last_behind others operand
last_behind (updates node update stage marks ∷ others) operand = last_behind others operand
last_behind (fills node marks entry rest value ∷ others) operand = last_behind others operand
last_behind (waits node marks ∷ others) operand = last_behind others operand

pub operands_before : (all works : List Work) (last : Work) (operand : COperand) → all ≡ works ++ last ∷ [] → view_work last ≡ finished operand →
    operands_in (works_of (map view_work all)) ≡ operands_in (works_of (map view_work works)) ++ operand ∷ []
operands_before all works last operand all_is last_is =
    ap (λ (list : List Work). operands_in (works_of (map view_work list))) all_is
    ∙ ap (λ (list : List CWork). operands_in (works_of list)) (map-append view_work works (last ∷ []) ∙ ap (λ (one : CWork). map view_work works ++ one ∷ []) last_is)
    ∙ last_behind (map view_work works) operand

-- an operand that was taken from behind the others
pub operand_found : (found : Option Operand) (all works : List Work) (last : Work) → all ≡ works ++ last ∷ [] →
    IfSome found (λ one. view_work last ≡ finished (view_operand one)) →
    IfSome found (λ one. operands_in (works_of (map view_work all)) ≡ operands_in (works_of (map view_work works)) ++ view_operand one ∷ [])
operand_found None all works last all_is is = tt
operand_found (Some one) all works last all_is is = operands_before all works last (view_operand one) all_is is

pub operands_longer : (others : Option (List Operand)) (found : Option Operand) (result : Option (List Operand)) (all works : List Work) (last : Work) →
    all ≡ works ++ last ∷ [] → IfSome found (λ one. view_work last ≡ finished (view_operand one)) →
    IfSome others (λ list. operands_in (works_of (map view_work works)) ≡ map view_operand list) → IsLonger others found result →
    IfSome result (λ list. operands_in (works_of (map view_work all)) ≡ map view_operand list)
operands_longer others found None all works last all_is is before longer = tt
operands_longer None found (Some list) all works last all_is is before longer = elim longer [ ]
operands_longer (Some others) None (Some list) all works last all_is is before longer = elim longer [ ]
operands_longer (Some others) (Some one) (Some list) all works last all_is is before longer =
    operands_before all works last (view_operand one) all_is is
    ∙ ap (λ (front : List COperand). front ++ view_operand one ∷ []) before
    ∙ sym (map-append view_operand others (one ∷ [])) ∙ ap (map view_operand) (sym longer)
