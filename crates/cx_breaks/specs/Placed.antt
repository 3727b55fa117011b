-- Where a node stands, so far as its rules read it.
use Rattle.std.specs.Prelude.{ℕ}
use Rattle.cx_core.specs.Trees.{CTypes}
use Rattle.cx_rules.specs.Nodes.{CNode, CPlaced}
use Rattle.cx_rules.specs.Scope.{CScope}

-- a node at a line, in a scope with these types
abbrev pub placed : CTypes → CScope → ℕ → CNode → CPlaced
placed types scope line node = record { scope = record scope { types = types }; line = line; node = node }
