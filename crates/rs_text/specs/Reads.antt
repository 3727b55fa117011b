-- Which crate files are read as: the one whose tokens, file by file, are those that the files spell. White space between tokens
-- has no meaning; in `Cargo.toml`, which isn't Rust, it ends lines (TOML 1.0, "Spec").
use Rattle.std.specs.Prelude.{◌≡◌, ℕ, ◌+◌, Bool, true, false, ◌&&◌, ◌==◌, List, [], ◌∷◌, map, length, Option, Some, None, bytes_eq, codes, IsTrue, if◌then◌else◌}
use Rattle.std.specs.List.{list_all}
use Rattle.shelf.specs.declared.file.File.{File}
use Rattle.rs_text.specs.Lines.{cargo_lines, main_of, module_names, entry_name, text_of_lines}
use Rattle.rs_text.specs.Names.{is_among}
use Rattle.rs_text.specs.Spelling.{module_tokens}
use Rattle.rs_text.specs.Text.{module_path, main_path, cargo_path}
use Rattle.rs_text.specs.Tokens.{RToken, Word, Label, Quoted, Mark, Close, tokens_in}
use Rattle.rs_text.specs.Tree.{ModuleTree, CrateTree}
use Rattle.rs_text.specs.Valid.{valid_crate, valid_names}

-- ---- tokens of a text against those of a tree

-- a token of a text is one of a tree; the end of a list of types is spelled by `>`
abbrev pub is_token : RToken → RToken → Bool
is_token (Word text) (Word tree) = bytes_eq text tree
is_token (Label text) (Label tree) = bytes_eq text tree
is_token (Quoted text) (Quoted tree) = bytes_eq text tree
is_token (Mark text) (Mark tree) = bytes_eq text tree
is_token (Mark text) Close = bytes_eq text (codes ">")
is_token _ _ = false

-- the mark `>>`, which is the operator where a tree has that, and else two ends of lists of types that stand side by side
abbrev pub is_double_close : RToken → Bool
is_double_close (Mark text) = bytes_eq text (codes ">>")
is_double_close _ = false

-- The tokens of a text are those of a tree.
abbrev pub fits : List RToken → List RToken → Bool
fits [] [] = true
fits [] (one ∷ others) = false
fits (token ∷ tokens) [] = false
fits (token ∷ tokens) (Close ∷ Close ∷ others) =
    if is_double_close token then fits tokens others else is_token token Close && fits tokens (Close ∷ others)
fits (token ∷ tokens) (one ∷ others) = is_token token one && fits tokens others

-- both are there, and the first are the tokens of a text, the second those of a tree
abbrev pub both_fit : Option (List RToken) → Option (List RToken) → Bool
both_fit None tree = false
both_fit (Some text) None = false
both_fit (Some text) (Some tree) = fits text tree

-- a text spells these tokens of a tree
abbrev pub spells : List ℕ → List RToken → Bool
spells text tree = both_fit (tokens_in text) (Some tree)

-- a text spells the tokens of another text, which spells some
abbrev pub spells_as : List ℕ → List ℕ → Bool
spells_as text other = both_fit (tokens_in text) (tokens_in other)

-- ---- `main.rs` and `Cargo.toml`, by their printed lines

-- the tokens of `main.rs` are those of the lines for modules of these names and the entry of this one
abbrev pub spells_main : List ℕ → List (List ℕ) → List ℕ → Bool
spells_main text names entry = spells_as text (text_of_lines (main_of names entry))

-- A text is that of `main.rs` for modules of these names, of which the entry is one.
pub record IsMain (text : List ℕ) (names : List (List ℕ)) (entry : List ℕ) : Type 0 where
  pub valid : IsTrue (valid_names names)
  pub among : IsTrue (is_among names entry)
  pub spelled : IsTrue (spells_main text names entry)

-- a byte before lines
abbrev pub onto : ℕ → List (List ℕ) → List (List ℕ)
onto byte [] = (byte ∷ []) ∷ []
onto byte (line ∷ lines) = (byte ∷ line) ∷ lines

-- the lines of a text, which newlines separate
abbrev pub lines_in : List ℕ → List (List ℕ)
lines_in [] = [] ∷ []
lines_in (byte ∷ rest) = if byte == 10 then [] ∷ lines_in rest else onto byte (lines_in rest)

-- a line spells the tokens of the first of the printed lines, and what stands behind it goes with the others
abbrev pub spells_next : List ℕ → List (List ℕ) → (List (List ℕ) → Bool) → Bool
spells_next text [] others = false
spells_next text (line ∷ lines) others = spells_as text line && others lines

-- the lines of a text, empty ones aside, spell the tokens of printed lines, one by one
abbrev pub spells_lines : List (List ℕ) → List (List ℕ) → Bool
spells_lines [] [] = true
spells_lines [] (line ∷ lines) = false
spells_lines (text ∷ texts) lines =
    if spells text [] then spells_lines texts lines else spells_next text lines (spells_lines texts)

abbrev pub spells_cargo : List ℕ → Bool
spells_cargo text = spells_lines (lines_in text) (map (λ line. line.text) cargo_lines)

-- ---- files, in any order

-- the bytes of the files of this name
abbrev pub texts_named : List ℕ → List File → List (List ℕ)
texts_named name [] = []
texts_named name (file ∷ files) = if bytes_eq file.name name then file.bytes ∷ texts_named name files else texts_named name files

-- exactly one text, of which this holds
abbrev pub holds_once : List (List ℕ) → (List ℕ → Bool) → Bool
holds_once [] test = false
holds_once (text ∷ []) test = test text
holds_once (text ∷ other ∷ others) test = false

-- exactly one file has this name, and of its bytes this holds
abbrev pub in_file : List File → List ℕ → (List ℕ → Bool) → Bool
in_file files name test = holds_once (texts_named name files) test

-- a module's file spells its tokens
abbrev pub spells_module : List File → ModuleTree → Bool
spells_module files unit = in_file files (module_path unit.name) (λ text. spells text (module_tokens unit))

-- Files read as a crate: it is a valid tree, there is one file for each module, `main.rs` and `Cargo.toml`, in any order, and no other,
-- and the tokens of each are those of its part of the crate.
pub record ReadsAs (files : List File) (whole : CrateTree) : Type 0 where
  pub valid : IsTrue (valid_crate whole)
  pub count : length files ≡ length whole.modules + 2
  pub cargo : IsTrue (in_file files cargo_path spells_cargo)
  pub main : IsTrue (in_file files main_path (λ text. spells_main text (module_names whole) (entry_name whole)))
  pub modules : IsTrue (list_all (spells_module files) whole.modules)
