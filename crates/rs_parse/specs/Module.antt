-- What the text of a module reads as.
use Rattle.std.specs.Prelude.{⊤, ℕ, Bool, ◌&&◌, List, map, Result, Ok, Err, IsTrue}
use Rattle.std.specs.List.{flat_map}
use Rattle.rs_lex.specs.Same.{same_tokens}
use Rattle.rs_parse.specs.declared.fault.ReadFault.{ReadFault}
use Rattle.rs_parse.specs.declared.fault.ReadFault.TheVariants.{NotRust, Memory}
use Rattle.rs_text.specs.Reads.{spells}
use Rattle.rs_text.specs.Spelling.{item_tokens}
use Rattle.rs_text.specs.Tokens.{RToken}
use Rattle.rs_text.specs.Tree.{ItemTree}
use Rattle.rs_text.specs.Valid.{valid_items}
use Rattle.rs_tree.specs.declared.item.Item.{Item}
use Rattle.rs_tree.specs.Views.{item_view}

-- the tokens of the items of a module
abbrev pub tokens_of : List ItemTree → List RToken
tokens_of items = flat_map item_tokens items

-- A text is that of a valid module of these items.
pub record IsModule (text : List ℕ) (items : List ItemTree) : Type 0 where
  pub valid : IsTrue (valid_items items)
  pub spelled : IsTrue (spells text (tokens_of items))

-- the answer is the items of the module whose text it is, or that it is that of none, want of memory aside
abbrev pub IsRead : List ℕ → Result (List Item) ReadFault → Type 0
IsRead text (Ok items) = IsModule text (map item_view items)
IsRead text (Err (NotRust file line)) = (items : List ItemTree) → IsModule text items → ⊥
IsRead text (Err Memory) = ⊤

-- items are valid, and these tokens are theirs
abbrev pub are_theirs : List RToken → List ItemTree → Bool
are_theirs tokens items = valid_items items && same_tokens tokens (tokens_of items)
