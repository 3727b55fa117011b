-- The objects of compound literals in a block, by how many literals there were before.
use Rattle.std.specs.Prelude.{ℕ, List, drop}
use Rattle.cx_contents.specs.Contents.{block_literals}
use Rattle.cx_rules.specs.Scope.{CScope}

abbrev pub literals_from : (count : ℕ) → CScope → List ℕ
literals_from count scope = block_literals (drop count scope.literals)
