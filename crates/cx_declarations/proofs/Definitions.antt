-- A definition by what is kept of its head.
use Rattle.std.proofs.Common.{◌≡◌, refl, ap, ◌∙◌, false}
use Rattle.cx_decl_steps.specs.Kept.{CHeadKept, kept_of}
use Rattle.cx_declarations.proofs.Assoc.{begins_is}
use Rattle.cx_declarations.specs.Walks as walks
use Rattle.cx_rules.specs.declared.kinds.SpecsPlace.TheVariants.{Definition}
use Rattle.cx_rules.specs.Lines.{specs_line}
use Rattle.cx_rules.specs.Readings.{CChecked, stops, fine, Check, check_behind, check_gives, check_chain, check_here, check_becomes, check_look}
use Rattle.cx_rules.specs.Scope.{CScope}
use Rattle.cx_rules.specs.Shapes.{no_specs_yet}
use Rattle.cx_rules.specs.UnitWalk as unit
use Rattle.cx_rules.specs.UnitWalk.{CHead}
use Rattle.cx_tree.specs.Trees.{DeclaratorTree, SpecTrees}

heads : {A : Type 0} (walked : CChecked CHead) (rest : CHead → Check A) (by : CHeadKept → Check A) → ((head : CHead) (scope : CScope) → rest head scope ≡ by (kept_of head) scope) →
    check_behind walked rest ≡ check_behind (check_behind walked (λ head. λ scope. fine (kept_of head) scope)) by
heads (stops refusal) rest by same = refl
heads (fine head scope) rest by same = same head scope

seconds : {A B : Type 0} (walked : CChecked B) (second : Check CHead) (rest : CHead → Check A) (by : CHeadKept → Check A) → ((head : CHead) (scope : CScope) → rest head scope ≡ by (kept_of head) scope) →
    check_behind walked (λ _. λ scope. check_behind (second scope) rest)
    ≡ check_behind (check_behind walked (λ _. λ scope. check_behind (second scope) (λ head. λ after. fine (kept_of head) after))) by
seconds (stops refusal) second rest by same = refl
seconds (fine one scope) second rest by same = heads (second scope) rest by same

firsts : {A B C : Type 0} (walked : CChecked C) (first : C → Check B) (second : C → Check CHead) (rest : CHead → Check A) (by : CHeadKept → Check A) → ((head : CHead) (scope : CScope) → rest head scope ≡ by (kept_of head) scope) →
    check_behind walked (λ all. λ before. check_behind (first all before) (λ _. λ scope. check_behind (second all scope) rest))
    ≡ check_behind (check_behind walked (λ all. λ before. check_behind (first all before) (λ _. λ scope. check_behind (second all scope) (λ head. λ after. fine (kept_of head) after)))) by
firsts (stops refusal) first second rest by same = refl
firsts (fine all before) first second rest by same = seconds (first all before) (second all) rest by same

pub definition_is : {A : Type 0} (specs : SpecTrees) (declarator : DeclaratorTree) (rest : CHead → Check A) (by : CHeadKept → Check A) →
    ((head : CHead) (scope : CScope) → rest head scope ≡ by (kept_of head) scope) → (scope : CScope) →
    check_chain _ _ (unit.specs_walk Check check_gives check_chain check_here check_becomes check_look false no_specs_yet specs) (λ all.
    check_chain _ _ (unit.specs_seen Check check_gives check_chain check_here check_becomes check_look Definition (specs_line specs) all) (λ _.
    check_chain _ _ (unit.head_walk Check check_gives check_chain check_here check_becomes check_look all (specs_line specs) declarator) rest)) scope
    ≡ check_chain _ _ (walks.definition_begins specs declarator) by scope
unfolding check_chain check_gives
definition_is specs declarator rest by same scope =
    (firsts (unit.specs_walk Check check_gives check_chain check_here check_becomes check_look false no_specs_yet specs scope)
    (λ all. unit.specs_seen Check check_gives check_chain check_here check_becomes check_look Definition (specs_line specs) all)
    (λ all. unit.head_walk Check check_gives check_chain check_here check_becomes check_look all (specs_line specs) declarator) rest by same)
    ∙ ap (λ walked. check_behind walked by) (begins_is specs declarator scope)
