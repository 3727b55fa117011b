-- The tree that tokens derive (ISO C99, 6.5 to 6.9).
use Rattle.std.specs.Prelude.{◌≡◌, ℕ, ◌≤◌, List, []}
use Rattle.cx_lex.specs.declared.token.Token.{Token}
use Rattle.cx_tree.specs.Depth.{unit_depth}
use Rattle.cx_tree.specs.Names.{UnitStands}
use Rattle.cx_tree.specs.Tokens.{unit_tokens}
use Rattle.cx_tree.specs.Trees.{UnitTree}
use Rattle.cx_tree.specs.Valid.{IsValidUnit}

-- how deep a tree may be, in nodes
abbrev pub max_depth : ℕ
max_depth = 512

-- the tree is valid and not too deep, each identifier is a typedef name exactly where it has to be one, and its tokens are these
pub record Derives (tokens : List Token) (unit : UnitTree) : Type 0 where
  pub valid : IsValidUnit unit
  pub depth : unit_depth unit ≤ max_depth
  pub stands : UnitStands [] unit
  pub spelled : unit_tokens unit ≡ tokens
