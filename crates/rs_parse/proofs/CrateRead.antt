-- What is read of the files of a crate: the crate, or which file is at fault.
use Rattle.std.proofs.Common.{◌≡◌, ℕ, zero, suc, ◌+◌, ◌<◌, nat_eq, Bool, true, false, ◌&&◌, List, [], ◌∷◌, ◌++◌, map, length, take, codes, bytes_eq, Option, Some, None, option_map, refl, sym, ap, subst, ◌∙◌, ◌||◌, Result, Ok, Err, arith, slice_get, get_or, if◌then◌else◌}
use Rattle.std.specs.List.{list_all}
use Rattle.std.specs.Option.{is_none}
use Rattle.std.proofs.lemmas.Bool.{and_parts}
use Rattle.std.proofs.lemmas.Bool.Decides.{nat_tests}
use Rattle.std.specs.Bool.{⊤}
use Rattle.std.proofs.lemmas.List.{length-map}
use Rattle.std.proofs.lemmas.Option.{slice_get-map, get_or_from_slice_get}
use Rattle.shelf.specs.declared.file.File.{File}
use Rattle.rs_parse.specs.Crates.{NamesModules, MainNames, stands_once, have_heads, are_of_modules, are_spelled, HasFirst, IsFirstWrong, IsAtFault}
use Rattle.rs_parse.specs.declared.fault.ReadFault.{ReadFault}
use Rattle.rs_parse.specs.declared.fault.ReadFault.TheVariants.{NotRust, Memory}
use Rattle.rs_parse.specs.Outline.{Outlines, IsOutlined}
use Rattle.rs_parse.specs.Reading.{HasName, IsOnly, has_main, IsModuleOf, AreModulesOf, IsWrongBehind, IsHeaded, IsMainOf, IsAt, AreModulesRead, IsCrateRead}
use Rattle.rs_parse.proofs.Lexing.{Text, same_self}
use Rattle.rs_parse.proofs.OneCrate.{parts_of, number_same}
use Rattle.rs_parse.proofs.OutlineLaws.{entry_is, name_there, one_main, one_entry}
use Rattle.rs_text.specs.declared.attribute.Attribute.TheVariants.{Mangled}
use Rattle.rs_text.specs.Lines.{module_names, entry_name, name_or_empty}
use Rattle.rs_text.specs.Names.{is_among, path_words, keywords}
use Rattle.rs_text.specs.Reads.{IsMain, in_file, holds_once, spells_cargo, spells_main, spells_module, texts_named, ReadsAs}
use Rattle.rs_text.specs.Text.{module_path, main_path, cargo_path}
use Rattle.rs_text.specs.Tree.{ModuleTree, CrateTree, ItemTree, FunctionItem, no_stmts}
use Rattle.rs_text.specs.Valid.{has_entry, valid_items, valid_names, valid_crate}
use Rattle.rs_tree.specs.declared.item.Crate.{Crate}
use Rattle.rs_tree.specs.declared.item.Module.{Module}
use Rattle.rs_tree.specs.Views.{module_view, crate_view}
use Rattle.rs_valid.specs.Lists.{names_of}

no_some : {A : Type 0} (text : Text) → None ≡ Some text → A
no_some text h = cc

some_text : (a b : Text) → Some a ≡ Some b → a ≡ b
some_text a b h = cc

or_second : (a b : Bool) → b ≡ true → (a || b) ≡ true
or_second true b h = refl
or_second false b h = h

-- ---- crates whose other modules only have to be there

-- a function without statements
abbrev blank : Text → ItemTree
blank name = FunctionItem (record { attribute = Mangled; name = name; params = []; result = None; locals = []; body = no_stmts })

-- a module with the two functions that may be asked for
abbrev filler : Text → ModuleTree
filler name = record { name = name; items = blank (codes "main_0") ∷ blank (codes "run_static_initializers") ∷ [] }

filler_valid : (name : Text) → valid_items (filler name).items ≡ true
unfolding path_words keywords
filler_valid name = refl

-- these modules, and fillers for the names that are left
abbrev complete : List ModuleTree → List Text → List ModuleTree
complete [] names = map filler names
complete (unit ∷ units) [] = []
complete (unit ∷ units) (name ∷ names) = unit ∷ complete units names

-- the first modules can stand in front of these names
module _ (files : List File) (entry : ℕ) where
  record Fits (index : ℕ) (name : Text) (unit : ModuleTree) : Type 0 where
    named : unit.name ≡ name
    valid : valid_items unit.items ≡ true
    spelled : spells_module files unit ≡ true
    main : index ≡ entry → has_main unit.items

  abbrev AllFit : ℕ → List Text → List ModuleTree → Type 0
  AllFit index names [] = ⊤
  AllFit index [] (unit ∷ units) = ⊥
  AllFit index (name ∷ names) (unit ∷ units) = Fits index name unit × AllFit (suc index) names units

  names_complete : (index : ℕ) (names : List Text) (units : List ModuleTree) → AllFit index names units → map (λ unit. unit.name) (complete units names) ≡ names
  names_complete index names [] fit = fillers names
    where
      fillers : (names : List Text) → map (λ (unit : ModuleTree). unit.name) (map filler names) ≡ names
      fillers [] = refl
      fillers (name ∷ names) = ap (λ l. name ∷ l) (fillers names)
  names_complete index [] (unit ∷ units) fit = absurd fit
  names_complete index (name ∷ names) (unit ∷ units) fit =
      ap (λ n. n ∷ map (λ unit. unit.name) (complete units names)) fit.0.named ∙ ap (λ l. name ∷ l) (names_complete (suc index) names units fit.1)

  valid_complete : (index : ℕ) (names : List Text) (units : List ModuleTree) → AllFit index names units → list_all (λ unit. valid_items unit.items) (complete units names) ≡ true
  valid_complete index names [] fit = fillers names
    where
      fillers : (names : List Text) → list_all (λ (unit : ModuleTree). valid_items unit.items) (map filler names) ≡ true
      fillers [] = refl
      fillers (name ∷ names) = ap (λ b. b && list_all (λ (unit : ModuleTree). valid_items unit.items) (map filler names)) (filler_valid name) ∙ fillers names
  valid_complete index [] (unit ∷ units) fit = absurd fit
  valid_complete index (name ∷ names) (unit ∷ units) fit =
      ap (λ b. b && list_all (λ unit. valid_items unit.items) (complete units names)) fit.0.valid ∙ valid_complete (suc index) names units fit.1

  -- a module that is there has the entry's function, where it is the entry
  entry_complete : (index at : ℕ) (names : List Text) (units : List ModuleTree) → AllFit index names units → entry ≡ index + at → at < length names → has_entry (slice_get (complete units names) at) ≡ true
  entry_complete index at names [] fit e h = fillers names at h
    where
      fillers : (names : List Text) (at : ℕ) → at < length names → has_entry (slice_get (map filler names) at) ≡ true
      fillers [] at h = absurd (omega (arith, h))
      fillers (name ∷ names) zero h = refl
      fillers (name ∷ names) (suc at) h = let less : at < length names = omega (arith, h) in fillers names at less
  entry_complete index at [] (unit ∷ units) fit e h = absurd fit
  entry_complete index zero (name ∷ names) (unit ∷ units) fit e h = fit.0.main (omega (arith, e))
  entry_complete index (suc at) (name ∷ names) (unit ∷ units) fit e h =
      let less : at < length names = omega (arith, h) in
      let next : entry ≡ suc index + at = omega (arith, e) in
      entry_complete (suc index) at names units fit.1 next less

  spelled_complete : (index : ℕ) (names : List Text) (units : List ModuleTree) → AllFit index names units →
      list_all (λ is. is) (take (length units) (map (spells_module files) (complete units names))) ≡ true
  spelled_complete index names [] fit = refl
  spelled_complete index [] (unit ∷ units) fit = absurd fit
  spelled_complete index (name ∷ names) (unit ∷ units) fit =
      ap (λ b. b && list_all (λ is. is) (take (length units) (map (spells_module files) (complete units names)))) fit.0.spelled ∙ spelled_complete (suc index) names units fit.1

  -- where no name is left the modules are all
  all_complete : (index : ℕ) (names : List Text) (units : List ModuleTree) → AllFit index names units → length units ≡ length names → complete units names ≡ units
  all_complete index [] [] fit e = refl
  all_complete index (name ∷ names) [] fit e = absurd (omega (arith, e))
  all_complete index [] (unit ∷ units) fit e = absurd fit
  all_complete index (name ∷ names) (unit ∷ units) fit e =
      let rest : length units ≡ length names = omega (arith, e) in ap (λ l. unit ∷ l) (all_complete (suc index) names units fit.1 rest)

-- what is said by the number of a name, of the names that are left
fit_from : (files : List File) (outline : CrateTree) (index : ℕ) (names : List Text) (units : List ModuleTree) →
    ((at : ℕ) → slice_get (module_names outline) (index + at) ≡ slice_get names at) → AreModulesOf files outline index units → AllFit files outline.entry index names units
fit_from files outline index names [] same are = tt
fit_from files outline index [] (unit ∷ units) same are =
    let here : index + 0 ≡ index = omega arith in
    let none : slice_get (module_names outline) index ≡ None = ap (λ n. slice_get (module_names outline) n) (sym here) ∙ same 0 in
    no_some unit.name (sym none ∙ are.0.name)
fit_from files outline index (name ∷ names) (unit ∷ units) same are =
    let here : index + 0 ≡ index = omega arith in
    let first : slice_get (module_names outline) index ≡ Some name = ap (λ n. slice_get (module_names outline) n) (sym here) ∙ same 0 in
    let one : Fits files outline.entry index name unit = record { named = some_text unit.name name (sym are.0.name ∙ first); valid = are.0.valid; spelled = are.0.spelled; main = are.0.main } in
    (one, fit_from files outline (suc index) names units (λ at. let next : suc index + at ≡ index + suc at = omega arith in ap (λ n. slice_get (module_names outline) n) next ∙ same (suc at)) are.1)

all_fit : (files : List File) (outline : CrateTree) (units : List ModuleTree) → AreModulesOf files outline 0 units → AllFit files outline.entry 0 (module_names outline) units
all_fit files outline units are = fit_from files outline 0 (module_names outline) units (λ at. let here : 0 + at ≡ at = omega arith in ap (λ n. slice_get (module_names outline) n) here) are

pub one_more : (files : List File) (outline : CrateTree) (index : ℕ) (units : List ModuleTree) (unit : ModuleTree) → AreModulesOf files outline index units →
    IsModuleOf files outline (index + length units) unit → AreModulesOf files outline index (units ++ unit ∷ [])
one_more files outline index [] unit are one = let here : index + 0 ≡ index = omega arith in (subst (λ n. IsModuleOf files outline n unit) here one, tt)
one_more files outline index (first ∷ units) unit are one =
    let here : index + suc (length units) ≡ suc index + length units = omega arith in
    (are.0, one_more files outline (suc index) units unit are.1 (subst (λ n. IsModuleOf files outline n unit) here one))

-- ---- files of a name

once_true : (texts : List Text) (test : Text → Bool) → holds_once texts test ≡ true → holds_once texts (λ text. true) ≡ true
once_true [] test h = cc
once_true (text ∷ []) test h = refl
once_true (text ∷ other ∷ others) test h = cc

heads_once : (files : List File) (cargo main : Text) → texts_named cargo_path files ≡ cargo ∷ [] → texts_named main_path files ≡ main ∷ [] → have_heads files ≡ true
heads_once files cargo main c m =
    ap (λ l. holds_once l (λ text. true) && stands_once files main_path) c ∙ ap (λ l. holds_once l (λ text. true)) m

one_text : (text other : Text) → text ∷ [] ≡ other ∷ [] → text ≡ other
one_text text other h = cc

in_only : (files : List File) (name text : Text) (test : Text → Bool) → texts_named name files ≡ text ∷ [] → in_file files name test ≡ test text
in_only files name text test e = ap (λ l. holds_once l test) e

clash : (b : Bool) → b ≡ true → b ≡ false → ⊥
clash true h g = cc
clash false h g = cc

-- ---- what a crate that is read has

all_true : (files : List File) (units : List ModuleTree) → list_all (spells_module files) units ≡ true → list_all (λ is. is) (map (spells_module files) units) ≡ true
all_true files [] h = refl
all_true files (unit ∷ units) h =
    let parts = and_parts (spells_module files unit) (list_all (spells_module files) units) h in
    ap (λ b. b && list_all (λ is. is) (map (spells_module files) units)) parts.0 ∙ all_true files units parts.1

take_true : (count : ℕ) (bs : List Bool) → list_all (λ is. is) bs ≡ true → list_all (λ is. is) (take count bs) ≡ true
take_true zero bs h = refl
take_true (suc count) [] h = refl
take_true (suc count) (b ∷ bs) h =
    let parts = and_parts b (list_all (λ is. is) bs) h in ap (λ a. a && list_all (λ is. is) (take count bs)) parts.0 ∙ take_true count bs parts.1

both_true : (a b : Bool) → a ≡ true → b ≡ true → (a && b) ≡ true
both_true true b h g = g
both_true false b h g = cc

pub reads_first : (files : List File) (whole : CrateTree) (count : ℕ) → ReadsAs files whole → HasFirst files count whole
reads_first files whole count r = record {
  valid = r.valid;
  spelled = take_true count (are_spelled files whole)
      (both_true (in_file files cargo_path spells_cargo) _ r.cargo
      (both_true (in_file files main_path (λ text. spells_main text (module_names whole) (entry_name whole))) _ r.main (all_true files whole.modules r.modules)));
}

reads_heads : (files : List File) (whole : CrateTree) → ReadsAs files whole → have_heads files ≡ true
reads_heads files whole r =
    both_true (stands_once files cargo_path) (stands_once files main_path) (once_true (texts_named cargo_path files) spells_cargo r.cargo)
    (once_true (texts_named main_path files) (λ text. spells_main text (module_names whole) (entry_name whole)) r.main)

entry_among : (units : List ModuleTree) (k : ℕ) → has_entry (slice_get units k) ≡ true → is_among (map (λ unit. unit.name) units) (name_or_empty (slice_get units k)) ≡ true
entry_among [] k h = cc
entry_among (unit ∷ units) zero h = ap (λ b. b || is_among (map (λ unit. unit.name) units) unit.name) (same_self unit.name)
entry_among (unit ∷ units) (suc k) h = or_second (bytes_eq unit.name (name_or_empty (slice_get units k))) _ (entry_among units k h)

names_valid : (whole : CrateTree) → valid_crate whole ≡ true → valid_names (module_names whole) ≡ true
names_valid whole v =
    (and_parts (valid_names (module_names whole)) (list_all (λ unit. valid_items unit.items) whole.modules)
    (and_parts (valid_names (module_names whole) && list_all (λ unit. valid_items unit.items) whole.modules) (has_entry (slice_get whole.modules whole.entry)) v).0).0

main_of_crate : (text : Text) (whole : CrateTree) → valid_crate whole ≡ true → spells_main text (module_names whole) (entry_name whole) ≡ true → IsMain text (module_names whole) (entry_name whole)
main_of_crate text whole v s = record { valid = names_valid whole v; among = entry_among whole.modules whole.entry (parts_of whole v).entry; spelled = s }

-- the only `main.rs` is that of one list of names
named_one : (files : List File) (outline : CrateTree) (names : List Text) → IsMainOf files outline → MainNames files names → names ≡ module_names outline
named_one files outline names m n =
    let same : n.0 ≡ m.text = one_text n.0 m.text (sym n.1 ∙ m.only) in
    one_main m.text names (module_names outline) (subst (λ (t : Text). NamesModules t names) same n.2) (entry_name outline, m.main.main)

-- ---- `Cargo.toml` or `main.rs` isn't there once

pub no_heads : (files : List File) → have_heads files ≡ false → ((whole : CrateTree) → ReadsAs files whole → ⊥) × IsAtFault files 0
no_heads files h = (
  λ whole r. clash (have_heads files) (reads_heads files whole r) h,
  record { heads = λ none. refl; modules = λ some names main are. refl; first = λ some named. absurd (clash (have_heads files) some h) },
)

pub no_cargo : (files : List File) → false ≡ stands_once files cargo_path → ((whole : CrateTree) → ReadsAs files whole → ⊥) × IsAtFault files 0
no_cargo files h = no_heads files (ap (λ b. b && stands_once files main_path) (sym h))

pub no_main : (files : List File) → true ≡ stands_once files cargo_path → false ≡ stands_once files main_path → ((whole : CrateTree) → ReadsAs files whole → ⊥) × IsAtFault files 0
no_main files c h = no_heads files (ap (λ b. b && stands_once files main_path) (sym c) ∙ sym h)

-- ---- other files than those of the modules

reads_names : (files : List File) (whole : CrateTree) → ReadsAs files whole → are_of_modules files (module_names whole) ≡ true
reads_names files whole r =
    both_true (list_all (λ name. stands_once files (module_path name)) (module_names whole)) (nat_eq (length files) (length (module_names whole) + 2))
    (each whole.modules r.modules) (counted whole r.count)
  where
    each : (units : List ModuleTree) → list_all (spells_module files) units ≡ true → list_all (λ name. stands_once files (module_path name)) (map (λ (unit : ModuleTree). unit.name) units) ≡ true
    each [] h = refl
    each (unit ∷ units) h =
        let parts = and_parts (spells_module files unit) (list_all (spells_module files) units) h in
        both_true (stands_once files (module_path unit.name)) _ (once_true (texts_named (module_path unit.name) files) _ parts.0) (each units parts.1)

    counted : (whole : CrateTree) → length files ≡ length whole.modules + 2 → nat_eq (length files) (length (module_names whole) + 2) ≡ true
    counted whole e =
        let size = length-map whole.modules (λ (unit : ModuleTree). unit.name) in
        let same : length files ≡ length (module_names whole) + 2 = omega (arith, e, size) in
        grind (arith, nat_tests, same)

pub misnamed : (files : List File) (outline : CrateTree) → IsMainOf files outline → are_of_modules files (module_names outline) ≡ false → ((whole : CrateTree) → ReadsAs files whole → ⊥) × IsAtFault files 0
misnamed files outline m h = (
  λ whole r.
      let main : MainNames files (module_names whole) = (m.text, m.only, (entry_name whole, main_of_crate m.text whole r.valid (sym (in_only files main_path m.text (λ text. spells_main text (module_names whole) (entry_name whole)) m.only) ∙ r.main))) in
      clash (are_of_modules files (module_names outline)) (ap (are_of_modules files) (sym (named_one files outline (module_names whole) m main)) ∙ reads_names files whole r) h,
  record {
    heads = λ none. refl;
    modules = λ some names main are. refl;
    first = λ some named. absurd (clash (are_of_modules files (module_names outline)) (named (module_names outline) (m.text, m.only, (entry_name outline, m.main.main))) h);
  },
)

-- ---- the first file that is wrong

sample : CrateTree
sample = record { modules = filler (codes "a") ∷ []; entry = 0 }

sample_valid : valid_crate sample ≡ true
unfolding path_words keywords sample
sample_valid = refl

-- all that is said of a file that is the first wrong one
wrong_file : (files : List File) (number : ℕ) → have_heads files ≡ true → ((names : List Text) → MainNames files names → are_of_modules files names ≡ true) → IsFirstWrong files number →
    ((whole : CrateTree) → ReadsAs files whole → ⊥) × IsAtFault files number
wrong_file files number heads named first = (
  λ whole r. first.wrong whole (reads_first files whole (first.count + 1) r),
  record {
    heads = λ none. absurd (clash (have_heads files) heads none);
    modules = λ some names main are. absurd (clash (are_of_modules files names) (named names main) are);
    first = λ some all. first;
  },
)

is_named : (files : List File) (number : ℕ) (name : Text) → HasName files number name → option_map (λ file. file.name) (slice_get files number) ≡ Some name
is_named files number name h = ap (λ (o : Option File). option_map (λ file. file.name) o) h.here ∙ ap Some h.named

name_of_only : (files : List File) (number : ℕ) (name : Text) → IsOnly files name number → HasName files number name
name_of_only files number name o = record { file = o.file; here = o.here; named = o.named }

cargo_first : (files : List File) (cargo : ℕ) → IsOnly files cargo_path cargo → in_file files cargo_path spells_cargo ≡ false → IsFirstWrong files cargo
cargo_first files cargo only h = record {
  count = 0;
  before = sample;
  right = record { valid = sample_valid; spelled = refl };
  wrong = λ whole has. clash (in_file files cargo_path spells_cargo) (and_parts (in_file files cargo_path spells_cargo) true has.spelled).0 h;
  path = cargo_path;
  next = refl;
  here = is_named files cargo cargo_path (name_of_only files cargo cargo_path only);
}

main_first : (files : List File) (main : ℕ) (only : IsOnly files main_path main) → in_file files cargo_path spells_cargo ≡ true →
    ((names : List Text) (entry : Text) → IsMain only.file.bytes names entry → ⊥) → IsFirstWrong files main
main_first files main only c none = record {
  count = 1;
  before = sample;
  right = record { valid = sample_valid; spelled = ap (λ b. b && true) c };
  wrong = λ whole has.
      let spells = in_file files main_path (λ text. spells_main text (module_names whole) (entry_name whole)) in
      let spelled = (and_parts spells true (and_parts (in_file files cargo_path spells_cargo) (spells && true) has.spelled).1).0 in
      none (module_names whole) (entry_name whole) (main_of_crate only.file.bytes whole has.valid (sym (in_only files main_path only.file.bytes (λ text. spells_main text (module_names whole) (entry_name whole)) only.only) ∙ spelled));
  path = main_path;
  next = refl;
  here = is_named files main main_path (name_of_only files main main_path only);
}

-- no list of names is that of a `main.rs` that isn't of its form
none_named : (files : List File) (main : ℕ) (only : IsOnly files main_path main) → ((names : List Text) (entry : Text) → IsMain only.file.bytes names entry → ⊥) →
    (names : List Text) → MainNames files names → are_of_modules files names ≡ true
none_named files main only none names m =
    let same : m.0 ≡ only.file.bytes = one_text m.0 only.file.bytes (sym m.1 ∙ only.only) in
    absurd (none names m.2.0 (subst (λ (t : Text). IsMain t names m.2.0) same m.2.1))

pub wrong_cargo : (files : List File) (cargo main : ℕ) (only : IsOnly files cargo_path cargo) (other : IsOnly files main_path main) → in_file files cargo_path spells_cargo ≡ false →
    ((names : List Text) (entry : Text) → IsMain other.file.bytes names entry → ⊥) → ((whole : CrateTree) → ReadsAs files whole → ⊥) × IsAtFault files cargo
wrong_cargo files cargo main only other h none =
    wrong_file files cargo (heads_once files only.file.bytes other.file.bytes only.only other.only) (none_named files main other none) (cargo_first files cargo only h)

pub wrong_main : (files : List File) (cargo main : ℕ) (only : IsOnly files cargo_path cargo) (other : IsOnly files main_path main) → in_file files cargo_path spells_cargo ≡ true →
    ((names : List Text) (entry : Text) → IsMain other.file.bytes names entry → ⊥) → ((whole : CrateTree) → ReadsAs files whole → ⊥) × IsAtFault files main
wrong_main files cargo main only other h none =
    wrong_file files main (heads_once files only.file.bytes other.file.bytes only.only other.only) (none_named files main other none) (main_first files main other h none)

named_by : (files : List File) (outline : CrateTree) → IsMainOf files outline → are_of_modules files (module_names outline) ≡ true →
    (names : List Text) → MainNames files names → are_of_modules files names ≡ true
named_by files outline m are names main = ap (are_of_modules files) (named_one files outline names m main) ∙ are

pub wrong_cargo_of : (files : List File) (outline : CrateTree) (cargo : ℕ) (only : IsOnly files cargo_path cargo) → IsMainOf files outline → are_of_modules files (module_names outline) ≡ true →
    in_file files cargo_path spells_cargo ≡ false → ((whole : CrateTree) → ReadsAs files whole → ⊥) × IsAtFault files cargo
wrong_cargo_of files outline cargo only m are h =
    wrong_file files cargo (heads_once files only.file.bytes m.text only.only m.only) (named_by files outline m are) (cargo_first files cargo only h)

-- ---- the modules that were read, and fillers for the others

abbrev crate_of : List ModuleTree → ℕ → CrateTree
crate_of modules entry = record { modules = modules; entry = entry }

abbrev completed : List ModuleTree → CrateTree → CrateTree
completed units outline = crate_of (complete units (module_names outline)) outline.entry

module _ (files : List File) (outline : CrateTree) (units : List ModuleTree) (m : IsMainOf files outline) (are : AreModulesOf files outline 0 units) where
  names_are : module_names (completed units outline) ≡ module_names outline
  names_are = names_complete files outline.entry 0 (module_names outline) units (all_fit files outline units are)

  within : outline.entry < length (module_names outline)
  within = let inside = m.main.entry in let size = length-map outline.modules (λ (unit : ModuleTree). unit.name) in omega (arith, inside, size)

  entry_has : has_entry (slice_get (complete units (module_names outline)) outline.entry) ≡ true
  entry_has = entry_complete files outline.entry 0 outline.entry (module_names outline) units (all_fit files outline units are) (omega arith) within

  completed_valid : valid_crate (completed units outline) ≡ true
  completed_valid =
      both_true (valid_names (module_names (completed units outline)) && list_all (λ unit. valid_items unit.items) (complete units (module_names outline))) _
      (both_true (valid_names (module_names (completed units outline))) _ (ap valid_names names_are ∙ m.main.main.valid)
      (valid_complete files outline.entry 0 (module_names outline) units (all_fit files outline units are))) entry_has

  entry_same : entry_name (completed units outline) ≡ entry_name outline
  entry_same = entry_is (completed units outline) (entry_name outline)
      (ap (λ (l : List Text). slice_get l outline.entry) names_are ∙ name_there outline.modules outline.entry m.main.entry)

  main_spelled : in_file files main_path (λ text. spells_main text (module_names (completed units outline)) (entry_name (completed units outline))) ≡ true
  main_spelled =
      in_only files main_path m.text (λ text. spells_main text (module_names (completed units outline)) (entry_name (completed units outline))) m.only
      ∙ ap (λ (l : List Text). spells_main m.text l (entry_name (completed units outline))) names_are
      ∙ ap (λ (t : Text). spells_main m.text (module_names outline) t) entry_same ∙ m.main.main.spelled

record FoundAt (units : List ModuleTree) (at : ℕ) (name : Text) : Type 0 where
  unit : ModuleTree
  here : slice_get units at ≡ Some unit
  named : unit.name ≡ name

found_at : (units : List ModuleTree) (at : ℕ) (name : Text) → slice_get (map (λ unit. unit.name) units) at ≡ Some name → FoundAt units at name
found_at [] at name h = cc
found_at (unit ∷ units) zero name h = record { unit = unit; here = refl; named = some_text unit.name name h }
found_at (unit ∷ units) (suc at) name h = let found = found_at units at name h in record { unit = found.unit; here = found.here; named = found.named }

some_unit : (a b : ModuleTree) → Some a ≡ Some b → a ≡ b
some_unit a b h = cc

holds_at : (test : ModuleTree → Bool) (units : List ModuleTree) (at : ℕ) (unit : ModuleTree) → list_all test units ≡ true → slice_get units at ≡ Some unit → test unit ≡ true
holds_at test [] at unit h e = cc
holds_at test (first ∷ units) zero unit h e = ap test (sym (some_unit first unit e)) ∙ (and_parts (test first) (list_all test units) h).0
holds_at test (first ∷ units) (suc at) unit h e = holds_at test units at unit (and_parts (test first) (list_all test units) h).1 e

spelled_at : (files : List File) (units : List ModuleTree) (at : ℕ) (unit : ModuleTree) → list_all (λ is. is) (take (suc at) (map (spells_module files) units)) ≡ true →
    slice_get units at ≡ Some unit → spells_module files unit ≡ true
spelled_at files [] at unit h e = cc
spelled_at files (first ∷ units) zero unit h e = ap (spells_module files) (sym (some_unit first unit e)) ∙ (and_parts (spells_module files first) true h).0
spelled_at files (first ∷ units) (suc at) unit h e =
    spelled_at files units at unit (and_parts (spells_module files first) (list_all (λ is. is) (take (suc at) (map (spells_module files) units))) h).1 e

-- a crate with the tokens of the files up to a module has a tree that can stand as that module
module _ (files : List File) (outline : CrateTree) (units : List ModuleTree) (m : IsMainOf files outline) (are : AreModulesOf files outline 0 units) (whole : CrateTree) (valid : valid_crate whole ≡ true)
    (spelled : in_file files main_path (λ text. spells_main text (module_names whole) (entry_name whole)) ≡ true) where
  main_is : IsMain m.text (module_names whole) (entry_name whole)
  main_is = main_of_crate m.text whole valid (sym (in_only files main_path m.text (λ text. spells_main text (module_names whole) (entry_name whole)) m.only) ∙ spelled)

  same_names : module_names whole ≡ module_names outline
  same_names = one_main m.text (module_names whole) (module_names outline) (entry_name whole, main_is) (entry_name outline, m.main.main)

  same_entry_name : entry_name whole ≡ entry_name outline
  same_entry_name = one_entry m.text (module_names outline) (entry_name whole) (entry_name outline) (subst (λ (l : List Text). IsMain m.text l (entry_name whole)) same_names main_is) m.main.main

  same_entry : whole.entry ≡ outline.entry
  same_entry = number_same whole.modules (complete units (module_names outline)) whole.entry outline.entry
      (same_names ∙ sym (names_are files outline units m are)) (parts_of whole valid).differ (parts_of whole valid).entry (entry_has files outline units m are)
      (same_entry_name ∙ sym (entry_same files outline units m are))

  module_stands : (at : ℕ) (name : Text) → slice_get (module_names outline) at ≡ Some name → list_all (λ is. is) (take (suc at) (map (spells_module files) whole.modules)) ≡ true →
      (unit : ModuleTree) × IsModuleOf files outline at unit
  module_stands at name h s =
      let found = found_at whole.modules at name (ap (λ (l : List Text). slice_get l at) same_names ∙ h) in
      let main : at ≡ outline.entry → has_main found.unit.items = λ e.
      ap has_entry (sym (ap (λ n. slice_get whole.modules n) (same_entry ∙ sym e) ∙ found.here)) ∙ (parts_of whole valid).entry in (
        found.unit,
        record {
          name = h ∙ ap Some (sym found.named);
          valid = holds_at (λ unit. valid_items unit.items) whole.modules at found.unit (parts_of whole valid).items found.here;
          spelled = spelled_at files whole.modules at found.unit s found.here;
          main = main;
        },
      )

module_first : (files : List File) (outline : CrateTree) (number : ℕ) → IsMainOf files outline → in_file files cargo_path spells_cargo ≡ true → IsWrongBehind files outline number → IsFirstWrong files number
module_first files outline number m c w =
    let units = w.units in
    let names = module_names outline in
    let path : slice_get (map module_path (module_names (completed units outline))) (length units) ≡ Some (module_path w.wrong.name) =
    slice_get-map module_path (module_names (completed units outline)) (length units)
    ∙ ap (λ (l : List Text). option_map module_path (slice_get l (length units))) (names_are files outline units m w.right) ∙ ap (λ (o : Option Text). option_map module_path o) w.wrong.at in
    record {
      count = suc (suc (length units));
      before = completed units outline;
      right = record {
        valid = completed_valid files outline units m w.right;
        spelled = both_true (in_file files cargo_path spells_cargo) _ c (both_true _ _ (main_spelled files outline units m w.right)
            (spelled_complete files outline.entry 0 names units (all_fit files outline units w.right)));
      };
      wrong = λ whole has.
          let count : suc (suc (length units)) + 1 ≡ suc (suc (suc (length units))) = omega arith in
          let all : list_all (λ is. is) (take (suc (suc (suc (length units)))) (are_spelled files whole)) ≡ true = ap (λ n. list_all (λ is. is) (take n (are_spelled files whole))) (sym count) ∙ has.spelled in
          let behind = (and_parts (in_file files cargo_path spells_cargo) _ all).1 in
          let parts = and_parts (in_file files main_path (λ text. spells_main text (module_names whole) (entry_name whole))) _ behind in
          let stands = module_stands files outline units m w.right whole has.valid parts.0 (length units) w.wrong.name w.wrong.at parts.1 in
          w.wrong.none stands.0 stands.1;
      path = module_path w.wrong.name;
      next = path;
      here = is_named files number (module_path w.wrong.name) w.wrong.named;
    }

pub wrong_module : (files : List File) (outline : CrateTree) (cargo number : ℕ) → IsOnly files cargo_path cargo → IsMainOf files outline → are_of_modules files (module_names outline) ≡ true →
    in_file files cargo_path spells_cargo ≡ true → IsWrongBehind files outline number → ((whole : CrateTree) → ReadsAs files whole → ⊥) × IsAtFault files number
wrong_module files outline cargo number only m are c w =
    wrong_file files number (heads_once files only.file.bytes m.text only.only m.only) (named_by files outline m are) (module_first files outline number m c w)

-- ---- the crate

spelled_all : (files : List File) (entry index : ℕ) (names : List Text) (units : List ModuleTree) → AllFit files entry index names units → list_all (spells_module files) units ≡ true
spelled_all files entry index names [] fit = refl
spelled_all files entry index [] (unit ∷ units) fit = absurd fit
spelled_all files entry index (name ∷ names) (unit ∷ units) fit = both_true (spells_module files unit) _ fit.0.spelled (spelled_all files entry (suc index) names units fit.1)

pub all_read : (files : List File) (outline : CrateTree) (units : List ModuleTree) → IsMainOf files outline → are_of_modules files (module_names outline) ≡ true →
    in_file files cargo_path spells_cargo ≡ true → AreModulesOf files outline 0 units → length units ≡ length outline.modules → ReadsAs files (crate_of units outline.entry)
all_read files outline units m of_modules c are size =
    let names = module_names outline in
    let sizes = length-map outline.modules (λ (unit : ModuleTree). unit.name) in
    let all : complete units names ≡ units = all_complete files outline.entry 0 names units (all_fit files outline units are) (omega (arith, size, sizes)) in
    let counted : nat_eq (length files) (length names + 2) ≡ true = (and_parts (list_all (λ name. stands_once files (module_path name)) names) (nat_eq (length files) (length names + 2)) of_modules).1 in
    let count : length files ≡ length names + 2 = grind (arith, nat_tests, counted) in
    record {
      valid = ap (λ (l : List ModuleTree). valid_crate (crate_of l outline.entry)) (sym all) ∙ completed_valid files outline units m are;
      count = omega (arith, count, size, sizes);
      cargo = c;
      main = ap (λ (l : List ModuleTree). in_file files main_path (λ text. spells_main text (module_names (crate_of l outline.entry)) (entry_name (crate_of l outline.entry)))) (sym all)
          ∙ main_spelled files outline units m are;
      modules = spelled_all files outline.entry 0 names units (all_fit files outline units are);
    }

-- ---- as the code answers

pub at_fault : (files : List File) (fault : ReadFault) (number : ℕ) → IsAt fault number → ((whole : CrateTree) → ReadsAs files whole → ⊥) × IsAtFault files number → IsCrateRead files (Err fault)
at_fault files (NotRust file line) number at h = (h.0, subst (λ n. IsAtFault files n) (sym at) h.1)
at_fault files Memory number at h = tt

pub are_in : (files : List File) (outline : Crate) (shown : List Module) (are value : Bool) → shown ≡ outline.modules → are ≡ are_of_modules files (names_of shown) → are ≡ value →
    are_of_modules files (module_names (crate_view outline)) ≡ value
are_in files outline shown are value s e v = ap (λ (l : List Module). are_of_modules files (names_of l)) (sym s) ∙ sym e ∙ v

pub line_in : (files : List File) (cargo : ℕ) (line : Option ℕ) (other : Option ℕ) → IsHeaded files cargo line → line ≡ other → in_file files cargo_path spells_cargo ≡ is_none other
line_in files cargo line other h e = sym h.right ∙ ap (λ (o : Option ℕ). is_none o) e

pub wrong_modules : (files : List File) (outline : CrateTree) (cargo : ℕ) (fault : ReadFault) (result : Result (List Module) ReadFault) → IsOnly files cargo_path cargo → IsMainOf files outline →
    are_of_modules files (module_names outline) ≡ true → in_file files cargo_path spells_cargo ≡ true → AreModulesRead files outline result → result ≡ Err fault → IsCrateRead files (Err fault)
wrong_modules files outline cargo (NotRust file line) result only m are c r e =
    wrong_module files outline cargo file only m are c (subst (λ (a : Result (List Module) ReadFault). AreModulesRead files outline a) e r)
wrong_modules files outline cargo Memory result only m are c r e = tt

pub right_modules : (files : List File) (outline : Crate) (modules : List Module) (result : Result (List Module) ReadFault) → IsMainOf files (crate_view outline) →
    are_of_modules files (module_names (crate_view outline)) ≡ true → in_file files cargo_path spells_cargo ≡ true → AreModulesRead files (crate_view outline) result → result ≡ Ok modules →
    ReadsAs files (crate_of (map module_view modules) outline.entry)
right_modules files outline modules result m are c r e =
    let all : AreModulesRead files (crate_view outline) (Ok modules) = subst (λ (a : Result (List Module) ReadFault). AreModulesRead files (crate_view outline) a) e r in
    all_read files (crate_view outline) (map module_view modules) m are c all.0 (length-map modules module_view ∙ all.1)

-- the text of the only file of a name is that of the file with its number
text_of_only : (files : List File) (name text : Text) (number : ℕ) (file : File) (only : IsOnly files name number) → text ≡ (get_or files number file).bytes → text ≡ only.file.bytes
text_of_only files name text number file only e = e ∙ ap (λ (f : File). f.bytes) (get_or_from_slice_get files number only.file file only.here)

pub headed : (files : List File) (cargo : ℕ) (text : Text) (file : File) (line : Option ℕ) → IsOnly files cargo_path cargo → text ≡ (get_or files cargo file).bytes → is_none line ≡ spells_cargo text →
    IsHeaded files cargo line
headed files cargo text file line only e h = record {
  only = only;
  right = h ∙ ap spells_cargo (text_of_only files cargo_path text cargo file only e) ∙ sym (in_only files cargo_path only.file.bytes spells_cargo only.only);
}

head_by : (files : List File) (cargo main : ℕ) (line : Option ℕ) (fault : ReadFault) (only : IsOnly files cargo_path cargo) (other : IsOnly files main_path main) →
    is_none line ≡ in_file files cargo_path spells_cargo → IsAt fault (if is_none line then main else cargo) → ((names : List Text) (entry : Text) → IsMain other.file.bytes names entry → ⊥) →
    IsCrateRead files (Err fault)
head_by files cargo main None fault only other h at none = at_fault files fault main at (wrong_main files cargo main only other (sym h) none)
head_by files cargo main (Some line) fault only other h at none = at_fault files fault cargo at (wrong_cargo files cargo main only other (sym h) none)

pub head_wrong : (files : List File) (cargo main : ℕ) (line : Option ℕ) (fault : ReadFault) (text : Text) (file : File) (result : Result Crate ReadFault) (found at_line : ℕ) (found_fault : ReadFault) →
    IsHeaded files cargo line → IsOnly files main_path main → text ≡ (get_or files main file).bytes → IsAt fault (if is_none line then main else cargo) → IsOutlined text result →
    result ≡ Err found_fault → found_fault ≡ NotRust found at_line → IsCrateRead files (Err fault)
head_wrong files cargo main line fault text file result found at_line found_fault h only e at o r f =
    let none = (subst (λ (a : Result Crate ReadFault). IsOutlined text a) (r ∙ ap (λ (g : ReadFault). Err g) f) o).1 in
    head_by files cargo main line fault h.only only h.right at
    (λ names entry is. none names entry (subst (λ (t : Text). IsMain t names entry) (sym (text_of_only files main_path text main file only e)) is))

pub main_of : (files : List File) (main : ℕ) (text : Text) (file : File) (result : Result Crate ReadFault) (outline : Crate) → IsOnly files main_path main → text ≡ (get_or files main file).bytes →
    IsOutlined text result → result ≡ Ok outline → IsMainOf files (crate_view outline)
main_of files main text file result outline only e o r = record {
  text = only.file.bytes;
  only = only.only;
  main = subst (λ (t : Text). Outlines t (crate_view outline)) (text_of_only files main_path text main file only e) (subst (λ (a : Result Crate ReadFault). IsOutlined text a) r o);
}
