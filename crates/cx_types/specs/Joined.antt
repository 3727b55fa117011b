-- Composite types of two lists. Named by invariants alone.
use Rattle.std.specs.Prelude.{List, [], ◌∷◌}
use Rattle.cx_core.specs.Trees.{CTy}
use Rattle.cx_rules.specs.Types.{composite}

-- the composite types of two lists one by one, and what the first has more
abbrev pub joined : List CTy → List CTy → List CTy
joined [] seconds = []
joined (first ∷ firsts) [] = first ∷ firsts
joined (first ∷ firsts) (second ∷ seconds) = composite first second ∷ joined firsts seconds
