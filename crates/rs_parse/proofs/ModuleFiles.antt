-- What is read from the file of one module, and of all.
use Rattle.std.proofs.Common.{◌≡◌, ℕ, zero, suc, ◌+◌, ◌<◌, nat_eq, Bool, true, false, not, ◌&&◌, List, [], ◌∷◌, ◌++◌, map, length, get_or, codes, Option, Some, None, option_map, IfSome, refl, sym, ap, subst, ◌∙◌, Result, Ok, Err, arith, length-append, slice_get}
use Rattle.std.specs.List.{list_all, list_any}
use Rattle.std.specs.Option.{is_some}
use Rattle.std.proofs.lemmas.Bool.{and_parts}
use Rattle.std.proofs.lemmas.Bool.Decides.{nat_tests}
use Rattle.std.proofs.lemmas.List.{length-map}
use Rattle.std.proofs.lemmas.Option.{slice_get-map, slice_get-get_or, slice_get_within}
use Rattle.shelf.specs.declared.file.File.{File}
use Rattle.rs_parse.specs.Crates.{stands_once, are_of_modules}
use Rattle.rs_parse.specs.declared.fault.ReadFault.{ReadFault}
use Rattle.rs_parse.specs.declared.fault.ReadFault.TheVariants.{NotRust, Memory}
use Rattle.rs_parse.specs.Module.{IsModule, IsRead, tokens_of}
use Rattle.rs_parse.specs.Reading.{IsOnly, has_main, IsModuleOf, FileHas, IsWrongModule, IsModuleAt, IsModuleRead, IsAt, AreModulesOf, AreModulesRead}
use Rattle.rs_parse.proofs.CrateRead.{one_more}
use Rattle.rs_parse.proofs.Lexing.{Text}
use Rattle.rs_parse.proofs.ModuleLaws.{one_module}
use Rattle.rs_text.specs.Lines.{module_names}
use Rattle.rs_text.specs.Reads.{spells, spells_module, holds_once, texts_named}
use Rattle.rs_text.specs.Spelling.{module_tokens}
use Rattle.rs_text.specs.Text.{module_path}
use Rattle.rs_text.specs.Tree.{ModuleTree, CrateTree, ItemTree}
use Rattle.rs_text.specs.Valid.{is_function}
use Rattle.rs_tree.specs.declared.item.Crate.{Crate}
use Rattle.rs_tree.specs.declared.item.Item.{Item}
use Rattle.rs_tree.specs.declared.item.Module.{Module}
use Rattle.rs_tree.specs.Views.{item_view, module_view, crate_view}

-- ---- one file

abbrev unit_of : List ItemTree → ModuleTree
unit_of items = record { name = []; items = items }

same_file : (files : List File) (number : ℕ) (one other : File) → slice_get files number ≡ Some one → slice_get files number ≡ Some other → one ≡ other
same_file files number one other h g = some_file one other (sym h ∙ g)
  where
    some_file : (one other : File) → Some one ≡ Some other → one ≡ other
    some_file one other h = cc

one_items : (files : List File) (number : ℕ) (items others : List ItemTree) → FileHas files number items → FileHas files number others → items ≡ others
one_items files number items others a b =
    let same : a.file.bytes ≡ b.file.bytes = ap (λ (f : File). f.bytes) (same_file files number a.file b.file a.here b.here) in
    one_module (unit_of items) (unit_of others) a.file.bytes a.reads.valid b.reads.valid a.reads.spelled (subst (λ (t : Text). spells t (tokens_of others) ≡ true) (sym same) b.reads.spelled)

pub file_has : (files : List File) (number : ℕ) (file : File) (bytes : Text) (result : Result (List Item) ReadFault) (items : List Item) → number < length files → file ≡ get_or files number file →
    bytes ≡ (get_or files number file).bytes → IsRead bytes result → result ≡ Ok items → FileHas files number (map item_view items)
file_has files number file bytes result items h e b r o = record {
  file = get_or files number file;
  here = slice_get-get_or files number file h;
  reads = subst (λ (t : Text). IsModule t (map item_view items)) b (subst (λ (a : Result (List Item) ReadFault). IsRead bytes a) o r);
}

pub file_has_none : (files : List File) (number : ℕ) (file : File) (bytes : Text) (result : Result (List Item) ReadFault) (at line : ℕ) → number < length files → file ≡ get_or files number file →
    bytes ≡ (get_or files number file).bytes → IsRead bytes result → result ≡ Err (NotRust at line) → (items : List ItemTree) → FileHas files number items → ⊥
file_has_none files number file bytes result at line h e b r o items f =
    let same : f.file ≡ get_or files number file = same_file files number f.file (get_or files number file) f.here (slice_get-get_or files number file h) in
    let none : (items : List ItemTree) → IsModule bytes items → ⊥ = subst (λ (a : Result (List Item) ReadFault). IsRead bytes a) o r in
    none items (subst (λ (t : Text). IsModule t items) (ap (λ (g : File). g.bytes) same ∙ sym b) f.reads)

pub wrong_at : (files : List File) (number : ℕ) (name : Text) (is_entry : Bool) (fault : ReadFault) → IsAt fault number →
    ((items : List ItemTree) → FileHas files number items → (is_entry ≡ true → has_main items) → ⊥) → IsModuleAt files number name is_entry (Err fault)
wrong_at files number name is_entry (NotRust file line) at none = (at, none)
wrong_at files number name is_entry Memory at none = tt

both_hold : (a b : Bool) → true ≡ (a && not b) → (a ≡ true) × (b ≡ false)
both_hold true true h = cc
both_hold true false h = (refl, refl)
both_hold false b h = cc

pub no_main_at : (files : List File) (number : ℕ) (is_entry : Bool) (items : List ItemTree) → FileHas files number items →
    true ≡ (is_entry && not (list_any (is_function (codes "main_0")) items)) → (others : List ItemTree) → FileHas files number others → (is_entry ≡ true → has_main others) → ⊥
no_main_at files number is_entry items a h others b main =
    let parts = both_hold is_entry (list_any (is_function (codes "main_0")) items) h in
    let has : list_any (is_function (codes "main_0")) items ≡ true = ap (λ (l : List ItemTree). list_any (is_function (codes "main_0")) l) (one_items files number items others a b) ∙ main parts.0 in
    clash (list_any (is_function (codes "main_0")) items) has parts.1
  where
    clash : (b : Bool) → b ≡ true → b ≡ false → ⊥
    clash true h g = cc
    clash false h g = cc

pub main_at : (is_entry has : Bool) → false ≡ (is_entry && not has) → is_entry ≡ true → has ≡ true
main_at true true h e = refl
main_at true false h e = cc
main_at false has h e = cc

-- ---- one of the modules that `main.rs` names

holds_at : (test : Text → Bool) (names : List Text) (at : ℕ) (name : Text) → list_all test names ≡ true → slice_get names at ≡ Some name → test name ≡ true
holds_at test [] at name h e = cc
holds_at test (first ∷ names) zero name h e = ap test (sym (some_text first name e)) ∙ (and_parts (test first) (list_all test names) h).0
  where
    some_text : (a b : Text) → Some a ≡ Some b → a ≡ b
    some_text a b h = cc
holds_at test (first ∷ names) (suc at) name h e = holds_at test names at name (and_parts (test first) (list_all test names) h).1 e

pub name_of_module : (modules : List Module) (index : ℕ) (unit : Module) → index < length modules → unit ≡ get_or modules index unit →
    slice_get (map (λ unit. unit.name) (map module_view modules)) index ≡ Some unit.name
name_of_module modules index unit h e =
    slice_get-map (λ (unit : ModuleTree). unit.name) (map module_view modules) index
    ∙ ap (λ (o : Option ModuleTree). option_map (λ unit. unit.name) o)
    (slice_get-map module_view modules index ∙ ap (λ (o : Option Module). option_map module_view o) (slice_get-get_or modules index unit h ∙ ap (λ (u : Module). Some u) (sym e)))

pub stands : (files : List File) (outline : CrateTree) (index : ℕ) (name : Text) → are_of_modules files (module_names outline) ≡ true → slice_get (module_names outline) index ≡ Some name →
    stands_once files (module_path name) ≡ true
stands files outline index name h e =
    holds_at (λ name. stands_once files (module_path name)) (module_names outline) index name
    (and_parts (list_all (λ name. stands_once files (module_path name)) (module_names outline)) (nat_eq (length files) (length (module_names outline) + 2)) h).0 e

pub no_file : (o : Option ℕ) (once : Bool) → is_some o ≡ once → once ≡ true → o ≡ None → ⊥
no_file None once h g e = let k : false ≡ true = h ∙ g in cc
no_file (Some n) once h g e = cc

spells_at : (files : List File) (name : Text) (number : ℕ) (unit : ModuleTree) (only : IsOnly files name number) → module_path unit.name ≡ name →
    spells_module files unit ≡ spells only.file.bytes (module_tokens unit)
spells_at files name number unit only e =
    ap (λ (p : Text). holds_once (texts_named p files) (λ text. spells text (module_tokens unit))) e ∙ ap (λ l. holds_once l (λ text. spells text (module_tokens unit))) only.only

is_same : (a b : ℕ) → a ≡ b → nat_eq a b ≡ true
is_same a b e = grind (arith, nat_tests, e)

are_same : (a b : ℕ) → nat_eq a b ≡ true → a ≡ b
are_same a b e = grind (arith, nat_tests, e)

some_name : (a b : Text) → Some a ≡ Some b → a ≡ b
some_name a b h = cc

pub module_read : (files : List File) (outline : CrateTree) (index number : ℕ) (name : Text) (is_entry : Bool) (result : Result Module ReadFault) → slice_get (module_names outline) index ≡ Some name →
    IsOnly files (module_path name) number → (is_entry ≡ nat_eq index outline.entry) → IsModuleAt files number name is_entry result → IsModuleRead files outline index result
module_read files outline index number name is_entry (Ok unit) h only i m =
    let file : m.1.file ≡ only.file = same_file files number m.1.file only.file m.1.here only.here in
    record {
      name = h ∙ ap (λ (t : Text). Some t) (sym m.0);
      valid = m.1.reads.valid;
      spelled = spells_at files (module_path name) number (module_view unit) only (ap module_path m.0)
          ∙ subst (λ (t : Text). spells t (tokens_of (map item_view unit.items)) ≡ true) (ap (λ (f : File). f.bytes) file) m.1.reads.spelled;
      main = λ e. m.2 (i ∙ is_same index outline.entry e);
    }
module_read files outline index number name is_entry (Err (NotRust file line)) h only i m = record {
  name = name;
  at = h;
  named = record { file = only.file; here = ap (λ n. slice_get files n) m.0 ∙ only.here; named = only.named };
  none = λ unit of.
      let same : unit.name ≡ name = some_name unit.name name (sym of.name ∙ h) in
      let has : FileHas files number unit.items = record {
        file = only.file;
        here = only.here;
        reads = record { valid = of.valid; spelled = sym (spells_at files (module_path name) number unit only (ap module_path same)) ∙ of.spelled };
      } in
      m.1 unit.items has (λ e. of.main (are_same index outline.entry (sym i ∙ e)));
}
module_read files outline index number name is_entry (Err Memory) h only i m = tt

-- ---- all modules

-- the modules in front of one were read
pub record AreRead (files : List File) (outline : CrateTree) (index : ℕ) (modules : List Module) : Type 0 where
  pub right : AreModulesOf files outline 0 (map module_view modules)
  pub count : length modules ≡ index

pub read_on : (files : List File) (outline : CrateTree) (index : ℕ) (modules more : List Module) (unit : Module) (result : Result Module ReadFault) → AreRead files outline index modules →
    IsModuleRead files outline index result → result ≡ Ok unit → more ≡ modules ++ unit ∷ [] → AreRead files outline (index + 1) more
read_on files outline index modules more unit result a m o e =
    let of : IsModuleOf files outline index (module_view unit) = subst (λ (r : Result Module ReadFault). IsModuleRead files outline index r) o m in
    let count = a.count in
    let size = length-map modules module_view in
    let place : 0 + length (map module_view modules) ≡ index = omega (arith, size, count) in
    let sizes = length-append modules (unit ∷ []) in
    let all : length more ≡ length modules + 1 = ap length e ∙ sizes in
    record {
      right = subst (λ (l : List ModuleTree). AreModulesOf files outline 0 l) (sym (ap (λ (l : List Module). map module_view l) e ∙ map_more modules unit))
          (one_more files outline 0 (map module_view modules) (module_view unit) a.right (subst (λ n. IsModuleOf files outline n (module_view unit)) (sym place) of));
      count = omega (arith, all, count);
    }
  where
    map_more : (modules : List Module) (unit : Module) → map module_view (modules ++ unit ∷ []) ≡ map module_view modules ++ module_view unit ∷ []
    map_more [] unit = refl
    map_more (first ∷ modules) unit = ap (λ l. module_view first ∷ l) (map_more modules unit)

pub read_wrong : (files : List File) (outline : CrateTree) (index : ℕ) (modules : List Module) (fault : ReadFault) (result : Result Module ReadFault) → AreRead files outline index modules →
    IsModuleRead files outline index result → result ≡ Err fault → AreModulesRead files outline (Err fault)
read_wrong files outline index modules (NotRust file line) result a m o =
    let wrong : IsWrongModule files outline index file = subst (λ (r : Result Module ReadFault). IsModuleRead files outline index r) o m in
    let place : length (map module_view modules) ≡ index = length-map modules module_view ∙ a.count in
    record { units = map module_view modules; right = a.right; wrong = subst (λ n. IsWrongModule files outline n file) (sym place) wrong }
read_wrong files outline index modules Memory result a m o = tt

pub all_were_read : (files : List File) (whole : Crate) (index : ℕ) (modules : List Module) → AreRead files (crate_view whole) index modules → length whole.modules ≡ index →
    AreModulesRead files (crate_view whole) (Ok modules)
all_were_read files whole index modules a h =
    let sizes = length-map whole.modules module_view in
    (a.right, a.count ∙ sym h ∙ sym sizes)

-- ---- as the code sees them

pub name_in : (modules shown : List Module) (index : ℕ) (unit : Module) → shown ≡ modules → index < length modules →
    slice_get (map (λ unit. unit.name) (map module_view modules)) index ≡ Some (get_or shown index unit).name
name_in modules shown index unit e h =
    let within : index < length shown = subst (λ (l : List Module). index < length l) (sym e) h in
    ap (λ (l : List Module). slice_get (map (λ unit. unit.name) (map module_view l)) index) (sym e)
    ∙ slice_get-map (λ (unit : ModuleTree). unit.name) (map module_view shown) index
    ∙ ap (λ (o : Option ModuleTree). option_map (λ unit. unit.name) o)
    (slice_get-map module_view shown index ∙ ap (λ (o : Option Module). option_map module_view o) (slice_get-get_or shown index unit within))

pub only_of : (files : List File) (name : Text) (o : Option ℕ) (number : ℕ) → IfSome o (IsOnly files name) → o ≡ Some number → IsOnly files name number
only_of files name o number h e = subst (λ (p : Option ℕ). IfSome p (IsOnly files name)) e h

pub only_within : (files : List File) (name : Text) (number : ℕ) → IsOnly files name number → number < length files
only_within files name number only = slice_get_within files number only.file only.here
