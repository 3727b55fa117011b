-- What labels change of a scope (ISO C99, 6.8.1, 6.8.4.2p3).
use Rattle.std.specs.Prelude.{ℕ, ℤ, Bool, true, false, List, [], ◌∷◌}
use Rattle.cx_rules.specs.Scope.{CScope}

abbrev pub with_label : List ℕ → CScope → CScope
with_label name scope = record scope { body = record scope.body { labels = name ∷ scope.body.labels } }

abbrev pub with_case : ℤ → CScope → CScope
with_case value scope = record scope { body = record scope.body { cases = value ∷ scope.body.cases } }

abbrev pub with_default : CScope → CScope
with_default scope = record scope { body = record scope.body { has_default = true } }

-- the labels of the innermost `switch` are these
abbrev pub with_cases : List ℤ → Bool → CScope → CScope
with_cases cases has_default scope = record scope { body = record scope.body { cases = cases; has_default = has_default } }
