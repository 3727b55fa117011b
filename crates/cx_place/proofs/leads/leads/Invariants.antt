use Rattle.std.proofs.Common.{◌≡◌, drop, option_map}
use Rattle.cx_kinds.specs.Known.{types_in}
use Rattle.cx_parts.specs.Views.{view_at}
use Rattle.cx_place.specs.Placing.{leads}
use Rattle.cx_place.proofs.leads.leads.Given as goal

-- those that are left lead on from here
abbrev pub invariant-loop-to : goal.invariant-loop-to
invariant-loop-to l =
    leads (types_in l.known) (drop l.to-index l.list) (record { at = option_map view_at l.at; rules = l.rules }) ≡ leads (types_in l.known) l.list (record { at = option_map view_at l.fn.from; rules = l.initial.rules })
