-- What the two readings of a walk have to do with each other: the rules by which every walk keeps it.
use Rattle.std.proofs.Common.{◌≡◌, refl, sym, ap, ◌∙◌}
use Rattle.std.specs.Prelude.{ℕ, Bool, true, false, List, [], ◌∷◌, ◌++◌, Option, None, Some}
use Rattle.cr_base.specs.declared.refusal.Refusal.{Refusal}
use Rattle.cx_rules.specs.Nodes.{CNode, CPlaced}
use Rattle.cx_rules.specs.Readings.{CSeen, Seen, seen_gives, seen_behind, seen_chain, seen_here, seen_becomes, seen_look, refusal_at, or_else, first_broken, Check, check_gives, check_behind, check_chain, check_here, check_becomes, check_by, check_look, verdict_by, verdict}
use Rattle.cx_rules.specs.Scope.{CScope}
use Rattle.cx_core.specs.Trees.{CStmt}
use Rattle.cx_rules.specs.UnitWalk as unit
use Rattle.cx_rules.specs.UnitWalk.{CStated, as_block}
use Rattle.cx_rules.specs.Walk as walk
use Rattle.cx_rules.specs.Pieces.{Done}

or_else_joins : (one other last : Option Refusal) → or_else one (or_else other last) ≡ or_else (or_else one other) last
or_else_joins None other last = refl
or_else_joins (Some refusal) other last = refl

-- the first broken node of two lists, one behind the other
pub broken_behind : (one other : List CPlaced) → first_broken (one ++ other) ≡ or_else (first_broken one) (first_broken other)
unfolding first_broken
broken_behind [] other = refl
broken_behind (placed ∷ others) other =
    ap (or_else (refusal_at placed)) (broken_behind others other) ∙ or_else_joins (refusal_at placed) (first_broken others) (first_broken other)

-- the walk that stops agrees with the one that doesn't
abbrev pub Agree : (A : Type 0) → Check A → Seen A → Type 0
Agree A check seen = (scope : CScope) → check scope ≡ verdict (seen scope)

pub on_gives : (A : Type 0) (value : A) → Agree A (check_gives A value) (seen_gives A value)
unfolding first_broken check_gives seen_gives verdict
on_gives A value scope = refl

pub on_here : Agree CScope check_here seen_here
unfolding first_broken check_here seen_here verdict
on_here scope = refl

pub on_becomes : (new : CScope) → Agree Done (check_becomes new) (seen_becomes new)
unfolding first_broken check_becomes seen_becomes verdict
on_becomes new scope = refl

look_by : (placed : CPlaced) (scope : CScope) (found : Option Refusal) →
    check_by found scope ≡ verdict_by (record { meaning = tt; scope = scope; nodes = placed ∷ [] }) (or_else found None)
look_by placed scope None = refl
look_by placed scope (Some refusal) = refl

pub on_look : (placed : CPlaced) → Agree Done (check_look placed) (seen_look placed)
unfolding first_broken check_look seen_look verdict
on_look placed scope = look_by placed scope (refusal_at placed)

behind_by : {A B : Type 0} (first : CSeen A) (check : A → Check B) (seen : A → Seen B) (found : Option Refusal) →
    ((value : A) → Agree B (check value) (seen value)) →
    check_behind (verdict_by first found) check ≡
    verdict_by (seen_behind first seen) (or_else found (first_broken (seen first.meaning first.scope).nodes))
unfolding verdict
behind_by first check seen None agree = agree first.meaning first.scope
behind_by first check seen (Some refusal) agree = refl

pub on_chain : (A B : Type 0) (check : Check A) (seen : Seen A) (more : A → Check B) (next : A → Seen B) → Agree A check seen →
    ((value : A) → Agree B (more value) (next value)) → Agree B (check_chain A B check more) (seen_chain A B seen next)
unfolding check_chain seen_chain verdict
on_chain A B check seen more next first agree scope =
    ap (λ one. check_behind one more) (first scope)
    ∙ (behind_by (seen scope) more next (first_broken (seen scope).nodes) agree
    ∙ ap (verdict_by (seen_behind (seen scope) next)) (sym (broken_behind (seen scope).nodes (next (seen scope).meaning (seen scope).scope).nodes)))

pub on_either : (A : Type 0) (test : Bool) (one other : Check A) (seen more : Seen A) → Agree A one seen → Agree A other more →
    Agree A (walk.either Check check_gives check_chain check_here check_becomes check_look test one other)
    (walk.either Seen seen_gives seen_chain seen_here seen_becomes seen_look test seen more)
on_either A true one other seen more h k = h
on_either A false one other seen more h k = k

pub on_settled : (A : Type 0) (scope : CScope) (line : ℕ) (node : CNode) (meaning : A) →
    Agree A (walk.settled Check check_gives check_chain check_here check_becomes check_look scope line node meaning)
    (walk.settled Seen seen_gives seen_chain seen_here seen_becomes seen_look scope line node meaning)
on_settled A scope line node meaning = on_chain _ _ _ _ _ _ (on_look _) (λ _. on_gives _ _)

pub on_changed : (A : Type 0) (scope : CScope) (line : ℕ) (node : CNode) (after : CScope) (meaning : A) →
    Agree A (walk.changed Check check_gives check_chain check_here check_becomes check_look scope line node after meaning)
    (walk.changed Seen seen_gives seen_chain seen_here seen_becomes seen_look scope line node after meaning)
on_changed A scope line node after meaning =
    on_chain _ _ _ _ _ _ (on_look _) (λ _. on_chain _ _ _ _ _ _ (on_becomes _) (λ _. on_gives _ _))

pub on_scope_ends : (A : Type 0) (before : CScope) (value : A) →
    Agree A (unit.scope_ends Check check_gives check_chain check_here check_becomes check_look before value)
    (unit.scope_ends Seen seen_gives seen_chain seen_here seen_becomes seen_look before value)
on_scope_ends A before value = on_chain _ _ _ _ _ _ on_here (λ scope. on_chain _ _ _ _ _ _ (on_becomes _) (λ _. on_gives _ _))

pub on_scoped : (check : Check CStated) (seen : Seen CStated) → Agree CStated check seen →
    Agree CStmt (unit.scoped Check check_gives check_chain check_here check_becomes check_look check)
    (unit.scoped Seen seen_gives seen_chain seen_here seen_becomes seen_look seen)
on_scoped check seen inner = on_chain _ _ _ _ _ _ (on_chain _ _ _ _ _ _ on_here (λ scope. on_chain _ _ _ _ _ _ (on_becomes _) (λ _. on_gives _ _)))
    (λ before. on_chain _ _ _ _ _ _ inner (λ one. on_scope_ends _ before (as_block one)))
