use Rattle.std.proofs.Common.{rules, ◌≡◌, ℕ, ◌<◌, map, length, Some, sym, subst, ◌∙◌}
use Rattle.cx_core.specs.Views.{view_unit}
use Rattle.cx_link.proofs.Chains.{same_length}
use Rattle.cx_link.proofs.Joining.{stands_within}
use Rattle.cx_links.specs.Rules.{broken_links}
use Rattle.cx_units.proofs.Steps.{together_stops}
use Rattle.cx_units.proofs.checked.check_units.Goals as goal

pub returns-in-Some-clause-refused : goal.returns-in-Some-clause-refused
returns-in-Some-clause-refused c =
    let broken : broken_links (map view_unit c.in_ok-cores.cores) ≡ Some c.in-Some.refusal = search rules in
    let count : length (map view_unit c.in_ok-cores.cores) ≡ length c.args.sources.now = same_length view_unit c.in_ok-cores.cores ∙ c.in_ok-cores.ensures.count in
    together_stops c.args.sources.now (map view_unit c.in_ok-cores.cores) c.in-Some.refusal c.in_ok-cores.ensures.typed
    (subst (λ (n : ℕ). c.in-Some.refusal.unit < n) count
    (stands_within (map view_unit c.in_ok-cores.cores) c.in-Some.refusal (subst (λ (n : ℕ). 0 < n) (sym count) c.requires.some) broken)) broken
