use Rattle.std.proofs.Common.{◌≡◌, map, drop}
use Rattle.cx_core.specs.Views.{view_mention, view_types}
use Rattle.cx_link.specs.Chains.{Links}
use Rattle.cx_links.specs.Rules.{first_in}
use Rattle.cx_link.proofs.rules.first_broken.Given as goal

abbrev pub invariant-loop-one : goal.invariant-loop-one
invariant-loop-one l =
    Links l.chains (map view_mention l.all)
    × (first_in (view_types l.types) (map view_mention l.all) (map view_mention (drop l.one-index l.all))
    ≡ first_in (view_types l.types) (map view_mention l.all) (map view_mention l.all))
