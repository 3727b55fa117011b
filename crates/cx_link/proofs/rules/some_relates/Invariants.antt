use Rattle.std.proofs.Common.{map, suc, option_map, unwrap_or}
use Rattle.cx_core.specs.Views.{view_mention, view_types}
use Rattle.cx_link.specs.Chains.{kind_of, relates, wanted}
use Rattle.cx_links.specs.Rules.{is_kind_of}
use Rattle.cx_link.proofs.Chains.{Walks}
use Rattle.cx_link.proofs.rules.some_relates.Given as goal

abbrev pub invariant-loop-at : goal.invariant-loop-at
invariant-loop-at l =
    Walks (is_kind_of (kind_of (wanted l.relation)) (view_mention l.one).name) (relates (view_types l.types) l.relation (view_mention l.one)) (map view_mention l.all) l.at

abbrev pub decreases-loop-at : goal.decreases-loop-at
decreases-loop-at l = unwrap_or (option_map suc l.at) 0
