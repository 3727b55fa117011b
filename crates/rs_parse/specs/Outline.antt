-- What the code reads from `main.rs`: a crate whose modules have no items yet.
use Rattle.std.specs.Prelude.{◌≡◌, ⊤, ℕ, zero, suc, ◌+◌, ◌*◌, ◌<◌, ◌≤◌, Bool, false, ◌&&◌, bytes_eq, codes, List, [], ◌∷◌, length, drop, slice_get, Option, Some, None, Result, Ok, Err, IsTrue, if◌then◌else◌}
use Rattle.rs_expr.specs.Reading.{Toks}
use Rattle.rs_expr.specs.Signs.{text_at}
use Rattle.rs_parse.specs.declared.fault.ReadFault.{ReadFault}
use Rattle.rs_parse.specs.declared.fault.ReadFault.TheVariants.{NotRust, Memory}
use Rattle.rs_tree.specs.declared.item.Crate.{Crate}
use Rattle.rs_lex.specs.Closed.{closed_in}
use Rattle.rs_lex.specs.Same.{same_tokens}
use Rattle.rs_text.specs.Lines.{main_lines, module_names, entry_name, text_of_lines}
use Rattle.rs_text.specs.Names.{is_among}
use Rattle.rs_text.specs.Reads.{IsMain}
use Rattle.rs_text.specs.Tree.{CrateTree}
use Rattle.rs_text.specs.Valid.{valid_names}
use Rattle.rs_tree.specs.Views.{crate_view}

-- the names behind `mod` in front of tokens, at most so many
unfoldable pub declared : ℕ → Toks → List (List ℕ)
declared zero tokens = []
declared (suc turns) tokens =
    if bytes_eq (text_at tokens) (codes "mod") then text_at (drop 1 tokens) ∷ declared turns (drop 3 tokens) else []

-- the modules that the tokens of `main.rs` declare, behind its first line
abbrev pub declared_in : Toks → List (List ℕ)
declared_in tokens = declared 64 (drop 10 tokens)

-- the entry in the tokens of `main.rs`, behind the declarations and the calls of so many initialisers
abbrev pub entry_in : ℕ → Toks → List ℕ
entry_in count tokens = text_at (drop (25 + 11 * count) tokens)

-- A crate has the modules and the entry that tokens have where those of `main.rs` have them.
pub record IsOutlineIn (tokens : Toks) (outline : CrateTree) : Type 0 where
  pub names : module_names outline ≡ declared_in tokens
  pub found : IsTrue (is_among (module_names outline) (entry_in (length outline.modules) tokens))
      → slice_get (module_names outline) outline.entry ≡ Some (entry_in (length outline.modules) tokens)
  pub within : 0 < length outline.modules → outline.entry < length outline.modules
  pub count : length outline.modules ≤ 64

-- tokens are those of a text, where it spells some
abbrev pub are_of : Toks → Option Toks → Bool
are_of tokens None = false
are_of tokens (Some others) = same_tokens tokens others

-- tokens are those of a crate's own `main.rs`
abbrev pub are_mains : Toks → CrateTree → Bool
are_mains tokens outline = valid_names (module_names outline) && are_of tokens (closed_in (text_of_lines (main_lines outline)))

-- A crate has the modules and the entry of `main.rs`.
pub record Outlines (text : List ℕ) (outline : CrateTree) : Type 0 where
  pub main : IsMain text (module_names outline) (entry_name outline)
  pub entry : outline.entry < length outline.modules

-- the answer is such a crate, or that the text isn't of the form of `main.rs`, want of memory aside
abbrev pub IsOutlined : List ℕ → Result Crate ReadFault → Type 0
IsOutlined text (Ok outline) = Outlines text (crate_view outline)
IsOutlined text (Err (NotRust file line)) = (file ≡ 0) × ((names : List (List ℕ)) (entry : List ℕ) → IsMain text names entry → ⊥)
IsOutlined text (Err Memory) = ⊤
