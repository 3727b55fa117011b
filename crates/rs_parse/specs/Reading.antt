-- What the code finds among files, and what it reads from that of one module.
use Rattle.std.specs.Prelude.{◌≡◌, ⊤, ℕ, suc, Bool, true, List, [], ◌∷◌, map, length, Option, Some, None, slice_get, codes, Result, Ok, Err, IsTrue}
use Rattle.std.specs.List.{list_any}
use Rattle.std.specs.Option.{is_none}
use Rattle.shelf.specs.declared.file.File.{File}
use Rattle.rs_parse.specs.declared.fault.ReadFault.{ReadFault}
use Rattle.rs_parse.specs.declared.fault.ReadFault.TheVariants.{NotRust, Memory}
use Rattle.rs_parse.specs.Crates.{IsAtFault}
use Rattle.rs_parse.specs.Module.{IsModule}
use Rattle.rs_parse.specs.Outline.{Outlines}
use Rattle.rs_text.specs.Lines.{module_names}
use Rattle.rs_text.specs.Reads.{in_file, spells_cargo, texts_named, spells_module, ReadsAs}
use Rattle.rs_text.specs.Text.{module_path, main_path, cargo_path}
use Rattle.rs_text.specs.Tree.{ModuleTree, CrateTree, ItemTree}
use Rattle.rs_text.specs.Valid.{is_function, valid_items}
use Rattle.rs_tree.specs.declared.item.Crate.{Crate}
use Rattle.rs_tree.specs.declared.item.Module.{Module}
use Rattle.rs_tree.specs.Views.{module_view, crate_view}

-- The file with this number has a name.
pub record HasName (files : List File) (number : ℕ) (name : List ℕ) : Type 0 where
  pub file : File
  pub here : slice_get files number ≡ Some file
  pub named : file.name ≡ name

-- The file with this number is the only one of a name.
pub record IsOnly (files : List File) (name : List ℕ) (number : ℕ) : Type 0 where
  pub file : File
  pub here : slice_get files number ≡ Some file
  pub named : file.name ≡ name
  pub only : texts_named name files ≡ file.bytes ∷ []

-- The file with this number is the first of a name, and others of this name are among some files behind it.
pub record IsFirst (files behind : List File) (name : List ℕ) (number : ℕ) : Type 0 where
  pub file : File
  pub here : slice_get files number ≡ Some file
  pub named : file.name ≡ name
  pub first : texts_named name files ≡ file.bytes ∷ texts_named name behind

-- what was found of a name among files of which some are left
abbrev pub IsFoundIn : List File → List File → List ℕ → Option ℕ → Type 0
IsFoundIn files left name None = texts_named name files ≡ texts_named name left
IsFoundIn files left name (Some number) = IsFirst files left name number

-- a function `main_0` is among items
abbrev pub has_main : List ItemTree → Type 0
has_main items = IsTrue (list_any (is_function (codes "main_0")) items)

-- A tree can stand as the module with this number of a crate whose modules have these names, of which one is the entry.
pub record IsModuleOf (files : List File) (outline : CrateTree) (index : ℕ) (unit : ModuleTree) : Type 0 where
  pub name : slice_get (module_names outline) index ≡ Some unit.name
  pub valid : IsTrue (valid_items unit.items)
  pub spelled : IsTrue (spells_module files unit)
  pub main : index ≡ outline.entry → has_main unit.items

-- The file with this number is that of a valid module of these items.
pub record FileHas (files : List File) (number : ℕ) (items : List ItemTree) : Type 0 where
  pub file : File
  pub here : slice_get files number ≡ Some file
  pub reads : IsModule file.bytes items

-- The file with this number is that of the module with that number, and no tree can stand there.
pub record IsWrongModule (files : List File) (outline : CrateTree) (index file : ℕ) : Type 0 where
  pub name : List ℕ
  pub at : slice_get (module_names outline) index ≡ Some name
  pub named : HasName files file (module_path name)
  pub none : (unit : ModuleTree) → IsModuleOf files outline index unit → ⊥

-- the answer is the module with this number, or that the file of its name is that of none, want of memory aside
abbrev pub IsModuleRead : List File → CrateTree → ℕ → Result Module ReadFault → Type 0
IsModuleRead files outline index (Ok unit) = IsModuleOf files outline index (module_view unit)
IsModuleRead files outline index (Err (NotRust file line)) = IsWrongModule files outline index file
IsModuleRead files outline index (Err Memory) = ⊤

-- what is read of a module of a name whose file has this number: the module of the file, and with the entry's function where it is the
-- entry, or that there is none
abbrev pub IsModuleAt : List File → ℕ → List ℕ → Bool → Result Module ReadFault → Type 0
IsModuleAt files number name is_entry (Ok unit) =
    (unit.name ≡ name) × FileHas files number (module_view unit).items × (is_entry ≡ true → has_main (module_view unit).items)
IsModuleAt files number name is_entry (Err (NotRust file line)) =
    (file ≡ number) × ((items : List ItemTree) → FileHas files number items → (is_entry ≡ true → has_main items) → ⊥)
IsModuleAt files number name is_entry (Err Memory) = ⊤

-- the fault is in the file with this number, or want of memory
abbrev pub IsAt : ReadFault → ℕ → Type 0
IsAt (NotRust file line) number = file ≡ number
IsAt Memory number = ⊤

-- The first modules were read, so many of them.
abbrev pub AreModulesOf : List File → CrateTree → ℕ → List ModuleTree → Type 0
AreModulesOf files outline index [] = ⊤
AreModulesOf files outline index (unit ∷ units) = IsModuleOf files outline index unit × AreModulesOf files outline (suc index) units

-- The modules in front of one were read, and the file with this number is that of the next, which is wrong.
pub record IsWrongBehind (files : List File) (outline : CrateTree) (file : ℕ) : Type 0 where
  pub units : List ModuleTree
  pub right : AreModulesOf files outline 0 units
  pub wrong : IsWrongModule files outline (length units) file

-- the answer is all modules, or which is the first that is wrong, want of memory aside
abbrev pub AreModulesRead : List File → CrateTree → Result (List Module) ReadFault → Type 0
AreModulesRead files outline (Ok units) = AreModulesOf files outline 0 (map module_view units) × (length units ≡ length outline.modules)
AreModulesRead files outline (Err (NotRust file line)) = IsWrongBehind files outline file
AreModulesRead files outline (Err Memory) = ⊤

-- The file with this number is the only `Cargo.toml`, and which line of it is wrong, if one is.
pub record IsHeaded (files : List File) (cargo : ℕ) (line : Option ℕ) : Type 0 where
  pub only : IsOnly files cargo_path cargo
  pub right : is_none line ≡ in_file files cargo_path spells_cargo

-- The only `main.rs` is that of an outline.
pub record IsMainOf (files : List File) (outline : CrateTree) : Type 0 where
  pub text : List ℕ
  pub only : texts_named main_path files ≡ text ∷ []
  pub main : Outlines text outline

-- the answer is the crate that files read as, or that they read as none and which file is at fault, want of memory aside
abbrev pub IsCrateRead : List File → Result Crate ReadFault → Type 0
IsCrateRead files (Ok whole) = ReadsAs files (crate_view whole)
IsCrateRead files (Err (NotRust file line)) = ((whole : CrateTree) → ReadsAs files whole → ⊥) × IsAtFault files file
IsCrateRead files (Err Memory) = ⊤
