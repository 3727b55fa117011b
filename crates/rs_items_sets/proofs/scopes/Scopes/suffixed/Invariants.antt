use Rattle.rs_items_sets.specs.Sets.{ArePassed, set_of}
use Rattle.rs_items_sets.proofs.scopes.Scopes.suffixed.Given as goal

-- the candidates so far are gone
abbrev pub invariant-loop-number : goal.invariant-loop-number
invariant-loop-number l = ArePassed (set_of l.self l.scope) l.scope l.name l.number
