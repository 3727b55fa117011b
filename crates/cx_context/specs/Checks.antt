-- What a step of the walk over a unit answers.
use Rattle.std.specs.Prelude.{◌≡◌, ℕ, Result, Ok, Err}
use Rattle.cr_base.specs.declared.refusal.Refusal.{Refusal}
use Rattle.cr_base.specs.declared.refusal.Stop.{Stop}
use Rattle.cr_base.specs.declared.refusal.Stop.TheVariants as stop
use Rattle.cr_base.specs.declared.rule.Rule.{Rule}
use Rattle.cx_rules.specs.Readings.{CChecked, stops, fine}
use Rattle.cx_rules.specs.Scope.{CScope}

-- The answer is what the walk up to the first broken node gives: a value, with the scope behind it, or the first broken node. Want of
-- memory may come before.
abbrev pub Checks : {A B : Type 0} → (A → B) → Result A Stop → CScope → CChecked B → Type 0
Checks view (Ok value) after walked = walked ≡ fine (view value) after
Checks view (Err why) after walked = (refusal : Refusal) → why ≡ stop.Refused refusal → walked ≡ stops refusal

-- a node at a line of a unit breaks a rule
abbrev pub refusal_of : ℕ → ℕ → Rule → Refusal
refusal_of unit line rule = record { rule = rule; unit = unit; line = line }
