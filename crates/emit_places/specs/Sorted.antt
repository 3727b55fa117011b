-- A list that is gone through, as it is kept.
use Rattle.std.specs.Prelude.{ℕ, suc, Bool, true, false, ◌&&◌, ◌==◌, [], ◌∷◌, ◌++◌, length, map, Option, Some, None, if◌then◌else◌}
use Rattle.emit_nests.specs.Views.{nest_view}
use Rattle.emit_rules.specs.Nests as tree
use Rattle.emit_rules.specs.Nests.{nest_entries}
use Rattle.emit_rules.specs.Places as places
use Rattle.emit_rules.specs.Places.{leavings, see_all}
use Rattle.emit_rules.specs.Sorting as spec
use Rattle.emit_rules.specs.Sorting.{ahead_with, first_from, goes_inside, only_entry, out_of_arm, seen_at, with_inner}
use Rattle.flow.specs.Flows.{FlowTree}
use Rattle.emit_places.specs.declared.placing.Inner.{Inner}
use Rattle.emit_places.specs.declared.placing.Sibling.{Sibling}
use Rattle.emit_places.specs.declared.placing.Sorted.{Sorted}
use Rattle.emit_places.specs.Places.{table_of}

abbrev pub inner_view : Inner → spec.Inner
inner_view inner = record { node = inner.node; arm = inner.arm; nest = nest_view inner.nest }

abbrev pub sibling_view : Sibling → spec.Sibling
sibling_view sibling = record { nest = nest_view sibling.nest; from = sibling.from; inside = map inner_view sibling.inside }

abbrev pub sorted_view : Sorted → spec.Sorted
sorted_view sorted = record { table = table_of sorted.table; siblings = map sibling_view sorted.siblings; ahead = sorted.ahead }

-- ---- one nest more, out of which so many ways lead to what is ahead

abbrev pub inside_with : FlowTree → (more : ℕ) → spec.Sorted → tree.Nest → places.Seen → spec.Sorted
inside_with flow more sorted nest seen = record {
  table = see_all seen.sibling false (out_of_arm seen (leavings flow nest)) sorted.table;
  siblings = with_inner seen.sibling (record { node = seen.node; arm = seen.arm; nest = nest }) sorted.siblings;
  ahead = ahead_with (suc seen.sibling == length sorted.siblings) sorted.ahead seen.count more;
}

abbrev pub behind_with : FlowTree → (more : ℕ) → spec.Sorted → tree.Nest → spec.Sorted
behind_with flow more sorted nest = record {
  table = see_all (length sorted.siblings) true (leavings flow nest) sorted.table;
  siblings = sorted.siblings ++ record { nest = nest; from = first_from sorted.table (length sorted.siblings) (nest_entries nest); inside = [] } ∷ [];
  ahead = more;
}

abbrev pub seen_with : FlowTree → (may_go_inside : Bool) → (more : ℕ) → spec.Sorted → tree.Nest → Option places.Seen → spec.Sorted
seen_with flow may_go_inside more sorted nest None = behind_with flow more sorted nest
seen_with flow may_go_inside more sorted nest (Some seen) =
    if may_go_inside && goes_inside flow sorted nest seen then inside_with flow more sorted nest seen else behind_with flow more sorted nest

abbrev pub put_with : FlowTree → (may_go_inside : Bool) → (more : ℕ) → spec.Sorted → tree.Nest → spec.Sorted
put_with flow may_go_inside more sorted nest = seen_with flow may_go_inside more sorted nest (seen_at sorted.table (only_entry (nest_entries nest)))
