-- Which crates can be printed.
use Rattle.std.specs.Prelude.{Bool, IsTrue, List}
use Rattle.std.specs.List.{list_all}
use Rattle.rs_text.specs.Names.{is_word}
use Rattle.rs_text.specs.Tree.{ModuleTree, CrateTree}
use Rattle.rs_text.specs.Valid.{valid_crate}

-- the names of modules are words, so the paths of their files are texts
abbrev pub have_words : List ModuleTree → Bool
have_words modules = list_all (λ unit. is_word unit.name) modules

abbrev pub IsPrintable : CrateTree → Type 0
IsPrintable whole = IsTrue (have_words whole.modules)

-- every valid crate can be printed
abbrev pub ValidIsPrintable : Type 0
ValidIsPrintable = (whole : CrateTree) → IsTrue (valid_crate whole) → IsPrintable whole
