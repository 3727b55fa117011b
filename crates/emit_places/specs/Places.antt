-- Ways out of nests, and what is seen of them, as they are kept.
use Rattle.std.specs.Prelude.{ℕ, Bool, false, ◌==◌, Option, Some, None, option_map}
use Rattle.std.specs.HashMap.{HashMap, get_by}
use Rattle.emit_rules.specs.Places as places
use Rattle.emit_rules.specs.Places.{Table, is_inner}
use Rattle.flow.specs.Flows.{FlowTree}
use Rattle.emit_places.specs.declared.seeing.Seen.{Seen}
use Rattle.emit_places.specs.declared.ways.Leaving.{Leaving}

abbrev pub leaving_view : Leaving → places.Leaving
leaving_view way = record { node = way.node; arm = way.arm; to = way.to; may_hold = way.may_hold }

abbrev pub seen_view : Seen → places.Seen
seen_view seen = record { sibling = seen.sibling; node = seen.node; arm = seen.arm; count = seen.count; is_one = seen.is_one; is_direct = seen.is_direct }

-- what a map tells of each node
abbrev pub table_of : {S : Type 0} → HashMap ℕ Seen S → Table
table_of map = λ node. option_map seen_view (get_by (λ key. node == key) map)

-- which nodes of a loop of a head have arms in which others may stand; without one none has
abbrev pub held_by : FlowTree → Option ℕ → ℕ → Bool
held_by flow None = λ node. false
held_by flow (Some head) = is_inner flow head
