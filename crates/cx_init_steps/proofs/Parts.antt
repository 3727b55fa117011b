-- The steps of initialisers by what was found.
use Rattle.std.proofs.Common.{◌≡◌, refl, ap, sym, ◌∙◌, ℕ, Bool, true, false, List, Option}
use Rattle.cx_init_steps.specs.Steps as steps
use Rattle.cx_rules.specs.Initial.{CAt, joined_bytes}
use Rattle.cx_rules.specs.Pieces.{CFilling, CTarget, text_landed, is_array_at, base_is_text, whole_at}
use Rattle.cx_rules.specs.Readings.{Check, check_gives, check_chain, check_here, check_becomes, check_look}
use Rattle.cx_rules.specs.Scope.{CScope}
use Rattle.cx_rules.specs.Walk as walk

pub text_fills : (line : ℕ) (target : CTarget) (at landed : Option CAt) (filling : CFilling) (parts : List (List ℕ)) (bytes : List ℕ) (scope : CScope) →
    landed ≡ text_landed scope.types at → bytes ≡ joined_bytes parts → is_array_at landed ≡ true →
    steps.text_given_at line target filling bytes scope landed scope ≡ steps.text_given line target at filling parts scope
unfolding check_chain check_here
text_fills line target at landed filling parts bytes scope l b is =
    ap (λ held. steps.text_given_at line target filling held scope landed scope) b
    ∙ ap (λ found. steps.text_given_at line target filling (joined_bytes parts) scope found scope) l
    ∙ ap (λ fills. walk.either Check check_gives check_chain check_here check_becomes check_look fills
    (steps.text_given_at line target filling (joined_bytes parts) scope (text_landed scope.types at)) (steps.text_as_value line target at filling parts) scope)
    (sym is ∙ ap is_array_at l)

pub text_is_value : (line : ℕ) (target : CTarget) (at landed : Option CAt) (filling : CFilling) (parts : List (List ℕ)) (scope : CScope) →
    landed ≡ text_landed scope.types at → is_array_at landed ≡ false →
    steps.text_as_value line target at filling parts scope ≡ steps.text_given line target at filling parts scope
unfolding check_chain check_here
text_is_value line target at landed filling parts scope l is =
    ap (λ fills. walk.either Check check_gives check_chain check_here check_becomes check_look fills
    (steps.text_given_at line target filling (joined_bytes parts) scope (text_landed scope.types at)) (steps.text_as_value line target at filling parts) scope)
    (sym is ∙ ap is_array_at l)

pub whole_fills : (line : ℕ) (target : CTarget) (at : Option CAt) (parts : List (List ℕ)) (bytes : List ℕ) (scope : CScope) →
    at ≡ whole_at target → bytes ≡ joined_bytes parts → base_is_text target.base ≡ true →
    steps.whole_text_at line target bytes scope at scope ≡ steps.whole_text line target parts scope
unfolding check_chain check_here
whole_fills line target at parts bytes scope l b is =
    ap (λ held. steps.whole_text_at line target held scope at scope) b
    ∙ ap (λ found. steps.whole_text_at line target (joined_bytes parts) scope found scope) l
    ∙ ap (λ fills. walk.either Check check_gives check_chain check_here check_becomes check_look fills
    (steps.whole_text_at line target (joined_bytes parts) scope (whole_at target)) (steps.whole_text_as_value line target parts) scope) (sym is)

pub whole_is_value : (line : ℕ) (target : CTarget) (parts : List (List ℕ)) (scope : CScope) → base_is_text target.base ≡ false →
    steps.whole_text_as_value line target parts scope ≡ steps.whole_text line target parts scope
unfolding check_chain check_here
whole_is_value line target parts scope is =
    ap (λ fills. walk.either Check check_gives check_chain check_here check_becomes check_look fills
    (steps.whole_text_at line target (joined_bytes parts) scope (whole_at target)) (steps.whole_text_as_value line target parts) scope) (sym is)
