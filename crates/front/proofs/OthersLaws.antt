-- Names that the job doesn't write hold what they held.
use Rattle.std.proofs.Common.{◌≡◌, ℕ, zero, suc, ◌+◌, Bool, true, false, ◌||◌, cond, List, [], ◌∷◌, ◌++◌, map, take, Option, Some, None, refl, sym, ap, ◌∙◌, slice_get, bytes_eq, codes}
use Rattle.std.specs.List.{list_any}
use Rattle.shelf.specs.declared.file.File.{File}
use Rattle.shelf.specs.Shelf.{ShelfState, with_file, without_file}
use Rattle.straight_core.specs.Trees.{CProgram}
use Rattle.straight_items.specs.Modules.{module_name}
use Rattle.straight_rust_tree.specs.Text.{text_of, file_of, module_file}
use Rattle.straight_rust_tree.specs.Tree.{ModuleTree, CrateTree}
use Rattle.straight_whole.specs.Items.{Outline, outlines_from, items_in, items_of, head_of}
use Rattle.front.specs.Files.{Held, WhereTold, files_in, file_in, name_in, with_files, written_names}
use Rattle.front.specs.Transpile.{WhereTranslated, IsLeftAt}
use Rattle.front.specs.Run.{held_under}
use Rattle.front.proofs.SourceLaws.{where_map, unit_names}

-- ---- the names of the files that are written

outline_names : (modules : List ModuleTree) → map (λ (o : Outline). o.name) (map (λ (unit : ModuleTree). record { name = unit.name; heads = map head_of unit.items }) modules) ≡ map (λ (unit : ModuleTree). unit.name) modules
outline_names [] = refl
outline_names (unit ∷ units) = ap (λ ns. unit.name ∷ ns) (outline_names units)

outlines_names : (program : CProgram) (k : ℕ) (names : List (List ℕ)) → map (λ (o : Outline). o.name) (outlines_from program k names) ≡ names
outlines_names program k [] = refl
outlines_names program k (name ∷ names) = ap (λ ns. name ∷ ns) (outlines_names program (k + 1) names)

-- the modules of a right translation are named after the files of their units
pub module_names : (whole : CrateTree) (program : CProgram) (names : List (List ℕ)) → items_in whole ≡ items_of program names → map (λ (unit : ModuleTree). unit.name) whole.modules ≡ names
module_names whole program names e =
    sym (outline_names whole.modules) ∙ ap (map (λ (o : Outline). o.name)) e ∙ outlines_names program 0 names

-- the name of a module's file, under a directory
abbrev rs_name : List ℕ → List ℕ → List ℕ
rs_name directory name = name_in directory (codes "src/" ++ (name ++ codes ".rs"))

module_file_names : (directory : List ℕ) (modules : List ModuleTree) (rest : List File) → map (λ (f : File). f.name) (map (file_in directory) (map module_file modules ++ rest)) ≡ map (rs_name directory) (map (λ (unit : ModuleTree). unit.name) modules) ++ map (λ (f : File). f.name) (map (file_in directory) rest)
module_file_names directory [] rest = refl
module_file_names directory (unit ∷ units) rest = ap (λ ns. rs_name directory unit.name ∷ ns) (module_file_names directory units rest)

written_map : (directory : List ℕ) (names : List (List ℕ)) → map (rs_name directory) (map module_name names) ≡ map (λ name. rs_name directory (module_name name)) names
written_map directory [] = refl
written_map directory (name ∷ names) = ap (λ ns. rs_name directory (module_name name) ∷ ns) (written_map directory names)

names_by : (units : List File) → map (λ (unit : File). module_name unit.name) units ≡ map module_name (map (λ (unit : File). unit.name) units)
names_by [] = refl
names_by (unit ∷ units) = ap (λ ns. module_name unit.name ∷ ns) (names_by units)

-- the files of a right translation have the names that the job writes
pub file_names : (directory : List ℕ) (names : List (List ℕ)) (units : List File) (whole : CrateTree) (program : CProgram) → map (λ (unit : File). unit.name) units ≡ names → items_in whole ≡ items_of program (map (λ (unit : File). module_name unit.name) units) → map (λ (f : File). f.name) (files_in directory (text_of whole)) ≡ written_names directory names
file_names directory names units whole program named items =
    let last = name_in directory (codes "src/main.rs") ∷ name_in directory (codes "Cargo.toml") ∷ [] in
    let modules = module_names whole program (map (λ (unit : File). module_name unit.name) units) items ∙ names_by units ∙ ap (map module_name) named in
    module_file_names directory whole.modules (file_of (codes "src/main.rs") _ ∷ file_of (codes "Cargo.toml") _ ∷ [])
    ∙ ap (λ ns. map (rs_name directory) ns ++ last) modules
    ∙ ap (λ ns. ns ++ last) (written_map directory names)

-- ---- what is held under another name

or_false : (a b : Bool) → (a || b) ≡ false → (a ≡ false) × (b ≡ false)
or_false true b e = cc
or_false false b e = (refl, e)

under_with : (name bytes asked : List ℕ) (h : Held) → bytes_eq name asked ≡ false → held_under asked (with_file name bytes h) ≡ held_under asked h
under_with name bytes asked None e = refl
under_with name bytes asked (Some held) e = ap (λ t. cond t (Some bytes) (held asked)) e

under_without : (name asked : List ℕ) (h : Held) → bytes_eq name asked ≡ false → held_under asked (without_file name h) ≡ held_under asked h
under_without name asked None e = refl
under_without name asked (Some held) e = ap (λ t. cond t None (held asked)) e

pub under_files : (files : List File) (asked : List ℕ) (h : Held) → list_any (λ name. bytes_eq name asked) (map (λ (f : File). f.name) files) ≡ false → held_under asked (with_files files h) ≡ held_under asked h
under_files [] asked h e = refl
under_files (file ∷ files) asked h e =
    let parts = or_false (bytes_eq file.name asked) (list_any (λ name. bytes_eq name asked) (map (λ (f : File). f.name) files)) e in
    under_files files asked (with_file file.name file.bytes h) parts.1 ∙ under_with file.name file.bytes asked h parts.0

-- a part of the files has no other names
take_lacks : (files : List File) (asked : List ℕ) (k : ℕ) → list_any (λ name. bytes_eq name asked) (map (λ (f : File). f.name) files) ≡ false → list_any (λ name. bytes_eq name asked) (map (λ (f : File). f.name) (take k files)) ≡ false
take_lacks files asked zero e = refl
take_lacks [] asked (suc k) e = refl
take_lacks (file ∷ files) asked (suc k) e =
    let parts = or_false (bytes_eq file.name asked) (list_any (λ name. bytes_eq name asked) (map (λ (f : File). f.name) files)) e in
    ap (λ t. t || list_any (λ name. bytes_eq name asked) (map (λ (f : File). f.name) (take k files))) parts.0 ∙ take_lacks files asked k parts.1

-- one of the names isn't one that none of them equals
pub lacks_at : (names : List (List ℕ)) (asked name : List ℕ) (k : ℕ) → list_any (λ other. bytes_eq other asked) names ≡ false → slice_get names k ≡ Some name → bytes_eq name asked ≡ false
lacks_at [] asked name zero e place = cc
lacks_at [] asked name (suc k) e place = cc
lacks_at (first ∷ names) asked name zero e place =
    let parts = or_false (bytes_eq first asked) (list_any (λ other. bytes_eq other asked) names) e in
    let same : first ≡ name = cc in
    ap (λ n. bytes_eq n asked) (sym same) ∙ parts.0
lacks_at (first ∷ names) asked name (suc k) e place =
    let parts = or_false (bytes_eq first asked) (list_any (λ other. bytes_eq other asked) names) e in
    lacks_at names asked name k parts.1 place

-- ---- the clause

abbrev pub Keeps : List (List ℕ) → Held → (List ℕ → Option (List ℕ)) → Type 0
Keeps names h held = (asked : List ℕ) → list_any (λ name. bytes_eq name asked) names ≡ false → held_under asked h ≡ held asked

pub keeps_same : (names : List (List ℕ)) (before after : Held) → after ≡ before → WhereTold before (Keeps names after)
keeps_same names None after e = tt
keeps_same names (Some held) after e = λ asked lacking. ap (held_under asked) e

pub keeps_done : (directory : List ℕ) (names : List (List ℕ)) (s t : ShelfState) → WhereTranslated directory names s (λ files. t.held ≡ with_files files s.held) → WhereTold s.held (Keeps (written_names directory names) t.held)
keeps_done directory names s t leaves = where_map _ (Keeps (written_names directory names) t.held) s.held (λ held told made asked lacking.
    let files = files_in directory (text_of made.1) in
    let named = file_names directory names made.0 made.1 made.3.program (unit_names held names made.0 made.2) made.3.right.items in
    let lacks = ap (list_any (λ name. bytes_eq name asked)) named ∙ lacking in
    ap (held_under asked) made.4 ∙ under_files files asked s.held lacks ∙ ap (held_under asked) told) leaves

pub keeps_left : (directory : List ℕ) (names : List (List ℕ)) (k : ℕ) (name : List ℕ) (s t : ShelfState) → IsLeftAt directory names k name s t → WhereTold s.held (Keeps (written_names directory names) t.held)
keeps_left directory names k name s t left = where_map _ (Keeps (written_names directory names) t.held) s.held (λ held told made asked lacking.
    let files = files_in directory (text_of made.1) in
    let named = file_names directory names made.0 made.1 made.3.program (unit_names held names made.0 made.2) made.3.right.items in
    let lacks = take_lacks files asked k (ap (list_any (λ other. bytes_eq other asked)) named ∙ lacking) in
    let differs = lacks_at (written_names directory names) asked name k lacking left.named in
    sym (under_without name asked t.held differs)
    ∙ ap (held_under asked) made.4
    ∙ under_without name asked (with_files (take k files) s.held) differs
    ∙ under_files (take k files) asked s.held lacks
    ∙ ap (held_under asked) told) left.left
