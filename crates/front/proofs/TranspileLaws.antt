-- What the job leaves, from what its steps leave.
use Rattle.std.proofs.Common.{◌≡◌, ℕ, ◌≤◌, ◌<◌, inl, inr, List, [], ◌∷◌, map, take, length, Option, Some, refl, sym, ap, subst, ◌∙◌, arith, slice_get, option_map}
use Rattle.std.proofs.lemmas.Option.{slice_get-map}
use Rattle.cr_base.specs.declared.refusal.Refusal.{Refusal}
use Rattle.cr_base.specs.declared.refusal.Stop.{Stop}
use Rattle.cr_base.specs.declared.refusal.Stop.TheVariants.{Refused, Memory}
use Rattle.cx_units.specs.Sources.{AreOf}
use Rattle.cx_units.specs.declared.source.Source.{Source}
use Rattle.cx_units.specs.declared.source.Source.TheVariants.{Bytes}
use Rattle.shelf.specs.declared.file.File.{File}
use Rattle.shelf.specs.Shelf.{ShelfState, without_file}
use Rattle.shelf.proofs.FaultLemmas.{rose_after}
use Rattle.straight_core.specs.Trees.{CProgram}
use Rattle.straight_items.specs.Modules.{stem_of}
use Rattle.straight_rust_tree.specs.Text.{file_of, text_of}
use Rattle.straight_rust_tree.specs.Tree.{CrateTree}
use Rattle.straight_whole.specs.Items.{items_in, items_of}
use Rattle.straight_whole.specs.Right.{IsRight}
use Rattle.front.specs.Files.{Held, WhereTold, units_of, files_in, with_files, written_names}
use Rattle.front.specs.Printed.{IsPlaced}
use Rattle.front.specs.Puts.{Puts}
use Rattle.front.specs.Refusals.{CoreOf, FirstBroken, bytes_of}
use Rattle.front.specs.Report.{Ending, done, refused, usage, cannot_read, cannot_write, memory}
use Rattle.front.specs.Report as ending
use Rattle.front.specs.Sources.{AreGot, IsBuiltOf, StopsJob, IsWithin, EndsStopped}
use Rattle.front.specs.Transpile.{Translates, IsTranspiled, IsRefused, IsUnwritten, IsLeftAt}
use Rattle.front.proofs.OthersLaws.{file_names}
use Rattle.front.proofs.SourceLaws.{unit_parts, unit_names, where_map}

-- ---- units that are stopped

-- the units that are held, with what was got of them
abbrev HeldUnits : List (List ℕ) → List Source → (List ℕ → Option (List ℕ)) → Type 0
HeldUnits names sources held = (units : List File) × (units_of held names ≡ Some units) × AreOf sources (bytes_of units)

abbrev HeldBroken : List (List ℕ) → Refusal → (List ℕ → Option (List ℕ)) → Type 0
HeldBroken names refusal held = (units : List File) × (units_of held names ≡ Some units) × FirstBroken units refusal

refused_units : (names : List (List ℕ)) (first : List ℕ) (sources : List Source) (refusal : Refusal) (file : List ℕ) (before after : ShelfState) → AreGot names sources before after
    → slice_get names 0 ≡ Some first → StopsJob first sources (Refused refusal) → slice_get names refusal.unit ≡ Some file → IsRefused names file refusal before after
refused_units names first sources refusal file before after got at stops named = record {
  kept = got.kept;
  unfailed = got.unfailed;
  named = named;
  broken = where_map (HeldUnits names sources) (HeldBroken names refusal) before.held (λ held told has. (
    has.0,
    has.1,
    stops.1 has.0 (record { first_is = ap (λ (list : List (List ℕ)). slice_get list 0) (unit_names held names has.0 has.1) ∙ at; given = has.2 }),
  )) got.held;
}

-- how the job ends where its units are stopped
pub stops_leave : (directory : List ℕ) (names : List (List ℕ)) (first : List ℕ) (sources : List Source) (stop : Stop) (ending : Ending) (before after : ShelfState) → AreGot names sources before after
    → slice_get names 0 ≡ Some first → StopsJob first sources stop → EndsStopped names stop ending → IsTranspiled directory names ending before after
stops_leave directory names first sources Memory ending before after got at stops ends =
    subst (λ (how : Ending). IsTranspiled directory names how before after) (sym ends) (inl got.kept)
stops_leave directory names first sources (Refused refusal) ending before after got at stops ends =
    subst (λ (how : Ending). IsTranspiled directory names how before after) (sym ends.2)
    (refused_units names first sources refusal ends.0 before after got at stops ends.1)

-- the refusal stands in one of the files
pub stops_within : (names : List (List ℕ)) (first : List ℕ) (sources : List Source) (count : ℕ) (stop : Stop) → length sources ≡ count → StopsJob first sources stop → IsWithin count stop
stops_within names first sources count Memory same stops = tt
stops_within names first sources count (Refused refusal) same stops = subst (λ (n : ℕ). refusal.unit < n) same stops.0

-- ---- one unit

one_of : (names : List (List ℕ)) (first : List ℕ) → length names ≡ 1 → slice_get names 0 ≡ Some first → names ≡ first ∷ []
one_of [] first count at = cc
one_of (name ∷ []) first count at =
    let same : name ≡ first = cc in
    ap (λ (one : List ℕ). one ∷ []) same
one_of (name ∷ other ∷ others) first count at = absurd (omega (arith, count))

-- the job has one file
pub one_name : (names : List (List ℕ)) (first : List ℕ) (sources : List Source) (program : CProgram) (before after : ShelfState) → AreGot names sources before after
    → slice_get names 0 ≡ Some first → IsBuiltOf first sources program → names ≡ first ∷ []
one_name names first sources program before after got at built = one_of names first (sym got.count ∙ ap length built.one) at

-- the one unit that is held
abbrev HoldsOne : List ℕ → List ℕ → (List ℕ → Option (List ℕ)) → Type 0
HoldsOne name bytes held = units_of held (name ∷ []) ≡ Some (file_of name bytes ∷ [])

same_unit : (name given : List ℕ) (held : List ℕ → Option (List ℕ)) → HeldUnits (name ∷ []) (Bytes given ∷ []) held → HoldsOne name given held
same_unit name given held has =
    let parts = unit_parts name (held name) (Some []) has.0 has.1 in
    let alone : [] ≡ parts.1 = cc in
    let is : has.0 ≡ file_of name parts.0 ∷ [] = parts.4 ∙ ap (λ (others : List File). file_of name parts.0 ∷ others) (sym alone) in
    let bytes : given ≡ parts.0 = (subst (λ (units : List File). AreOf (Bytes given ∷ []) (bytes_of units)) is has.2).0 in
    has.1 ∙ ap (λ (units : List File). Some units) (is ∙ ap (λ (b : List ℕ). file_of name b ∷ []) (sym bytes))

holds_one : (names : List (List ℕ)) (first : List ℕ) (sources : List Source) (given : List ℕ) (before after : ShelfState) → AreGot names sources before after
    → names ≡ first ∷ [] → sources ≡ Bytes given ∷ [] → WhereTold before.held (HoldsOne first given)
holds_one names first sources given before after got one is = where_map (HeldUnits names sources) (HoldsOne first given) before.held (λ held told has.
    same_unit first given held
    (subst (λ (list : List (List ℕ)). HeldUnits list (Bytes given ∷ []) held) one (subst (λ (list : List Source). HeldUnits names list held) is has))) got.held

-- the crate of the unit's program is a right translation
translates : (name bytes : List ℕ) (program : CProgram) (crate : CrateTree) → CoreOf (file_of name bytes ∷ []) program → IsRight program (stem_of name ∷ []) crate → Translates (file_of name bytes ∷ []) crate
translates name bytes program crate core right = record {
  program = program;
  core = core;
  right = subst (λ word. IsRight program (word ∷ []) crate) (sym core.built.plain) right;
}

-- the files of a crate, under the directory
abbrev files_for : List ℕ → CrateTree → List File
files_for directory crate = files_in directory (text_of crate)

abbrev translated_by : List ℕ → List ℕ → (List File → Type 0) → (List ℕ → Option (List ℕ)) → Type 0
translated_by directory name P held = (units : List File) × (crate : CrateTree) × (units_of held (name ∷ []) ≡ Some units) × Translates units crate × P (files_in directory (text_of crate))

module _ (directory name given : List ℕ) (program : CProgram) (crate : CrateTree) (core : CoreOf (file_of name given ∷ []) program) (right : IsRight program (stem_of name ∷ []) crate) where
  translated_told : (P : List File → Type 0) (held : Held) → WhereTold held (HoldsOne name given) → P (files_for directory crate) → WhereTold held (translated_by directory name P)
  translated_told P h holds p = where_map (HoldsOne name given) (translated_by directory name P) h
      (λ held told one. (file_of name given ∷ [], crate, one, translates name given program crate core right, p)) holds

  -- the names of the files that are put
  names_put : map (λ (file : File). file.name) (files_for directory crate) ≡ written_names directory (name ∷ [])
  names_put = file_names directory (name ∷ []) (file_of name given ∷ []) crate program refl (subst (λ word. items_in crate ≡ items_of program (word ∷ [])) (sym core.built.plain) right.items)

  -- the file at place k has the name at place k
  name_put : (k : ℕ) (file : File) → slice_get (files_for directory crate) k ≡ Some file → slice_get (written_names directory (name ∷ [])) k ≡ Some file.name
  name_put k file e =
      ap (λ names. slice_get names k) (sym names_put)
      ∙ slice_get-map (λ (f : File). f.name) (files_for directory crate) k
      ∙ ap (λ o. option_map (λ (f : File). f.name) o) e

-- the facts that stand before the files are put
pub record IsReady (directory name given : List ℕ) (program : CProgram) (files : List File) (before between : ShelfState) : Type 0 where
  pub holds : WhereTold before.held (HoldsOne name given)
  pub kept : between.held ≡ before.held
  pub later : before.faults ≤ between.faults
  pub core : CoreOf (file_of name given ∷ []) program
  pub made : IsPlaced directory program (stem_of name) files

module _ (directory name given : List ℕ) (program : CProgram) (files : List File) (before between after : ShelfState) (ready : IsReady directory name given program files before between) where
  left_at : (k : ℕ) (file : File) → slice_get files k ≡ Some file → without_file file.name after.held ≡ without_file file.name (with_files (take k files) between.held) → IsLeftAt directory (name ∷ []) k file.name before after
  left_at k file place left = record {
    named = name_put directory name given program ready.made.crate ready.core ready.made.right k file (ap (λ fs. slice_get fs k) (sym ready.made.text) ∙ place);
    left = translated_told directory name given program ready.made.crate ready.core ready.made.right
        (λ fs. without_file file.name after.held ≡ without_file file.name (with_files (take k fs) before.held))
        before.held ready.holds
        (left ∙ ap (λ held. without_file file.name (with_files (take k files) held)) ready.kept ∙ ap (λ fs. without_file file.name (with_files (take k fs) before.held)) ready.made.text);
  }

  -- what putting the crate's files leaves is what the job leaves
  pub put_leaves : (ending : Ending) → Puts files ending between after → IsTranspiled directory (name ∷ []) ending before after
  put_leaves done puts =
      translated_told directory name given program ready.made.crate ready.core ready.made.right (λ fs. after.held ≡ with_files fs before.held) before.held ready.holds
      (puts.held ∙ ap (λ held. with_files files held) ready.kept ∙ ap (λ fs. with_files fs before.held) ready.made.text)
  put_leaves (refused file refusal) puts = absurd puts
  put_leaves usage puts = absurd puts
  put_leaves (cannot_read file) puts = absurd puts
  put_leaves (cannot_write written) puts =
      let k = puts.0 in
      let file = puts.1 in
      let Unwritten : List ℕ → Type 0 = λ word. IsUnwritten directory (name ∷ []) word before after in
      let stopped : Unwritten file.name = record {
        rose = rose_after before.faults between.faults after.faults ready.later puts.2.why.0;
        last = puts.2.why.1;
        left = (k, left_at k file puts.2.place puts.2.left);
      } in
      subst Unwritten puts.3 stopped
  put_leaves memory puts = inr (puts.0, puts.1.name, left_at puts.0 puts.1 puts.2.place puts.2.left)
  put_leaves (ending.told tale) puts = absurd puts
  put_leaves (ending.not_rust file line) puts = absurd puts
  put_leaves (ending.ill_typed file item) puts = absurd puts

-- the crate of the one unit is put
pub one_leaves : (directory : List ℕ) (names : List (List ℕ)) (first : List ℕ) (sources : List Source) (program : CProgram) (files : List File) (before between after : ShelfState) (ending : Ending)
    → AreGot names sources before between → slice_get names 0 ≡ Some first → IsBuiltOf first sources program → IsPlaced directory program (stem_of first) files
    → Puts files ending between after → IsTranspiled directory names ending before after
one_leaves directory names first sources program files before between after ending got at built made puts =
    let one = one_name names first sources program before between got at built in
    subst (λ (list : List (List ℕ)). IsTranspiled directory list ending before after) (sym one)
    (put_leaves directory first built.bytes program files before between after (record {
      holds = holds_one names first sources built.bytes before between got one built.one;
      kept = got.kept;
      later = got.later;
      core = built.core;
      made = made;
    }) ending puts)
