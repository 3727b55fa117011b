-- Laws of reading: a text spells the tokens of one valid module at most, its items are read back from them, and the text of a valid
-- module spells its tokens. Files read as one crate at most, and those that a valid crate is written to read as that crate.
use Rattle.std.specs.Prelude.{◌≡◌, true, ℕ, List, Some, IsTrue}
use Rattle.shelf.specs.declared.file.File.{File}
use Rattle.rs_item.specs.Items.{items}
use Rattle.rs_lex.specs.Closed.{closed_in}
use Rattle.rs_text.specs.Lines.{module_lines, text_of_lines}
use Rattle.rs_text.specs.Reads.{spells, ReadsAs}
use Rattle.rs_text.specs.Spelling.{module_tokens}
use Rattle.rs_text.specs.Text.{text_of}
use Rattle.rs_text.specs.Tree.{ModuleTree, CrateTree}
use Rattle.rs_text.specs.Valid.{valid_items, valid_crate}

-- the tokens of each valid module are read as its items
abbrev pub ModulesAreRead : Type 0
ModulesAreRead = (unit : ModuleTree) → valid_items unit.items ≡ true → items (module_tokens unit) ≡ unit.items

-- what a text that spells a valid module has as tokens, with the ends of lists of types told apart
abbrev pub TextsAreClosed : Type 0
TextsAreClosed = (unit : ModuleTree) (text : List ℕ) → valid_items unit.items ≡ true → IsTrue (spells text (module_tokens unit)) →
    closed_in text ≡ Some (module_tokens unit)

-- two valid modules that the same text spells have the same items
abbrev pub OneModule : Type 0
OneModule = (one other : ModuleTree) (text : List ℕ) → valid_items one.items ≡ true → valid_items other.items ≡ true →
    IsTrue (spells text (module_tokens one)) → IsTrue (spells text (module_tokens other)) → one.items ≡ other.items

-- the printed text of a valid module spells its tokens
abbrev pub ModuleTextsSpell : Type 0
ModuleTextsSpell = (unit : ModuleTree) → valid_items unit.items ≡ true → IsTrue (spells (text_of_lines (module_lines unit)) (module_tokens unit))

-- the files of each valid crate read as that crate
abbrev pub TextReads : Type 0
TextReads = (whole : CrateTree) → valid_crate whole ≡ true → ReadsAs (text_of whole) whole

-- two crates that the same files read as are equal
abbrev pub OneCrate : Type 0
OneCrate = (files : List File) (one other : CrateTree) → ReadsAs files one → ReadsAs files other → one ≡ other
