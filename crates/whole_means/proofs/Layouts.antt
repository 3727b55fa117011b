-- Each structure or union, found by its path, is laid out in the crate as in C.
use Rattle.std.proofs.Common.{◌≡◌, ℕ, ◌==◌, Bool, true, false, if◌then◌else◌, List, [], ◌∷◌, ◌++◌, length, reverse, Option, Some, None, refl, sym, ap, subst, ◌∙◌, ◌⊎◌, inl, inr, append_assoc, append-nil}
use Rattle.std.proofs.lemmas.List.{reverse-append}
use Rattle.cx_core.specs.Layouts.{CRow, layouts_of, row_at}
use Rattle.cx_core.specs.Trees.{CFun, CObject, CPuts, CProgram}
use Rattle.rs_items_rules.specs.Agree.{AreKept}
use Rattle.rs_mean.specs.Layout.{laid_among, laid_at}
use Rattle.rs_text.specs.Tree.{FunctionItem, ExternItem, ItemTree, ModuleTree, OuterTree, RecordItem, StaticItem}
use Rattle.whole_items.specs.Items.{WrittenBodies, extern_items, function_items, function_of_unit, function_tree, initialiser_tree, module_tree, outers_of, record_items, static_items, static_of, static_with}
use Rattle.whole_means.proofs.Laid.{AreLaid, IsLaidSo, kept_so, more_laid}
use Rattle.whole_means.proofs.Lists.{Among, among_cases, among_flat}
use Rattle.whole_means.proofs.Modules.{items_found, modules_by}
use Rattle.whole_means.proofs.Records.{IsDone, is_completed, unit_low}
use Rattle.whole_means.proofs.Rows.{completed_by, row_there}
use Rattle.whole_means.specs.Written.{AreCompletedIn, IsCompletedIn, IsNamed}
use Rattle.whole_names.specs.Keys.{a_record, order_of}
use Rattle.whole_names.specs.Kept.{LocalNames, NamedProgram, known_thing, module_of, name_in}

pub among_reverse : {A : Type 0} (xs : List A) (x : A) → Among (reverse xs) x → Among xs x
among_reverse [] x there = there
among_reverse {A} (y ∷ xs) x there = by_place (among_reverse xs x) (among_cases (reverse xs) (y ∷ []) x (subst (λ (ys : List A). Among ys x) (reverse-append (y ∷ []) xs) there))
  where
    by_place : (Among (reverse xs) x → Among xs x) → Among (reverse xs) x ⊎ Among (y ∷ []) x → Among (y ∷ xs) x
    by_place more (inl before) = inr (more before)
    by_place more (inr (inl same)) = inl same
    by_place more (inr (inr none)) = absurd none

abbrev NotRecord : ItemTree → Type 0
NotRecord (RecordItem one) = ⊥
NotRecord (StaticItem one) = Unit {0}
NotRecord (ExternItem outers) = Unit {0}
NotRecord (FunctionItem fun) = Unit {0}

skipped : (home x : List ℕ) (items others : List ItemTree) → ((item : ItemTree) → Among items item → NotRecord item) → laid_among home (items ++ others) x ≡ laid_among home others x
skipped home x [] others are = refl
skipped home x (RecordItem one ∷ items) others are = absurd (are (RecordItem one) (inl refl))
skipped home x (StaticItem one ∷ items) others are = skipped home x items others (λ item there. are item (inr there))
skipped home x (ExternItem one ∷ items) others are = skipped home x items others (λ item there. are item (inr there))
skipped home x (FunctionItem one ∷ items) others are = skipped home x items others (λ item there. are item (inr there))

module _ (whole : NamedProgram) (bodies : WrittenBodies) (unit : ℕ) where
  static_no_record : (one : CObject) (puts : Option CPuts) (item : ItemTree) → Among (static_with whole one puts) item → NotRecord item
  static_no_record one None item there = absurd there
  static_no_record one (Some puts) item (inl same) = subst NotRecord same tt
  static_no_record one (Some puts) item (inr none) = absurd none

  static_of_no_record : (one : CObject) (t : Bool) (item : ItemTree) → Among (if t then static_with whole one one.puts else []) item → NotRecord item
  static_of_no_record one true item there = static_no_record one one.puts item there
  static_of_no_record one false item there = absurd there

  extern_no_record : (outers : List OuterTree) (item : ItemTree) → Among (extern_items outers) item → NotRecord item
  extern_no_record [] item there = absurd there
  extern_no_record (one ∷ others) item (inl same) = subst NotRecord same tt
  extern_no_record (one ∷ others) item (inr none) = absurd none

  function_no_record : (f : CFun) (t : Bool) (item : ItemTree) → Among (if t then FunctionItem (function_tree whole f (bodies.of_function f)) ∷ [] else []) item → NotRecord item
  function_no_record f true item (inl same) = subst NotRecord same tt
  function_no_record f true item (inr none) = absurd none
  function_no_record f false item there = absurd there

  abbrev ends : List ItemTree
  ends = FunctionItem (initialiser_tree (bodies.initialiser unit)) ∷ []

  abbrev others : List ItemTree
  others = static_items whole unit ++ (extern_items (outers_of whole unit) ++ (function_items whole bodies unit ++ ends))

  end_no_record : (item : ItemTree) → Among ends item → NotRecord item
  end_no_record item (inl same) = subst NotRecord same tt
  end_no_record item (inr none) = absurd none

  pub no_records : (item : ItemTree) → Among others item → NotRecord item
  no_records item there = second (among_cases (static_items whole unit) (extern_items (outers_of whole unit) ++ (function_items whole bodies unit ++ ends)) item there)
    where
      fourth : Among (function_items whole bodies unit) item ⊎ Among ends item → NotRecord item
      fourth (inl there) = let one = among_flat (function_of_unit whole bodies unit) whole.program.functions item there in function_no_record one.from (one.from.unit == unit) item one.made
      fourth (inr there) = end_no_record item there

      third : Among (extern_items (outers_of whole unit)) item ⊎ Among (function_items whole bodies unit ++ ends) item → NotRecord item
      third (inl there) = extern_no_record (outers_of whole unit) item there
      third (inr there) = fourth (among_cases (function_items whole bodies unit) ends item there)

      second : Among (static_items whole unit) item ⊎ Among (extern_items (outers_of whole unit) ++ (function_items whole bodies unit ++ ends)) item → NotRecord item
      second (inl there) = let one = among_flat (static_of whole unit) whole.program.objects item there in static_of_no_record one.from (one.from.unit == unit) item one.made
      second (inr there) = third (among_cases (extern_items (outers_of whole unit)) (function_items whole bodies unit ++ ends) item there)

module _ (written : NamedProgram) (is : IsNamed written) (given : WrittenBodies) where
  abbrev program : CProgram
  program = written.program

  done_from : (unit number : ℕ) (earlier : List ℕ) → IsCompletedIn program unit earlier number → IsDone written unit number
  done_from unit number earlier next =
      let row = row_there program.types number unit next.one is.linked.types next.one_is next.unit_is in
      record { one = next.one; row = row.0; one_is = next.one_is; unit_is = next.unit_is; row_is = row.1 }

  all_laid : (unit : ℕ) (earlier numbers : List ℕ) → AreLaid written is given unit earlier → ((number : ℕ) → Among earlier number → IsDone written unit number) →
      AreCompletedIn program unit earlier numbers → AreLaid written is given unit (earlier ++ numbers)
  all_laid unit earlier [] laid all are = subst (λ (numbers : List ℕ). AreLaid written is given unit numbers) (sym (append-nil earlier)) laid
  all_laid unit earlier (number ∷ numbers) laid all are =
      let done = done_from unit number earlier are.0 in
      subst (λ (all_numbers : List ℕ). AreLaid written is given unit all_numbers) (append_assoc earlier (number ∷ []) numbers)
      (all_laid unit (earlier ++ number ∷ []) numbers (more_laid written is given unit earlier laid all number are.0 done)
      (λ other there. by_place other done (among_cases earlier (number ∷ []) other there)) are.1)
    where
      by_place : (other : ℕ) → IsDone written unit number → Among earlier other ⊎ Among (number ∷ []) other → IsDone written unit other
      by_place other done (inl before) = all other before
      by_place other done (inr (inl same)) = subst (λ n. IsDone written unit n) same done
      by_place other done (inr (inr none)) = absurd none

  abbrev modules : List ModuleTree
  modules = modules_by (module_tree written given) 0 (length written.module_names)

  -- the record of a path is laid out as its structure or union
  pub laid_found : (unit number : ℕ) (done : IsDone written unit number) → laid_at modules (module_of written unit) (name_in written unit (a_record number)) ≡ Some done.row.laid
  laid_found unit number done =
      let home = module_of written unit in
      let x = name_in written unit (a_record number) in
      let numbers = (order_of program unit).completed in
      ap (λ (items : List ItemTree). laid_among home (reverse items) x) (items_found written is given unit (unit_low written is unit number done))
      ∙ ap (λ (items : List ItemTree). laid_among home items x) (reverse-append (record_items written unit) (others written given unit))
      ∙ skipped home x (reverse (others written given unit)) (reverse (record_items written unit))
      (λ item there. no_records written given unit item (among_reverse (others written given unit) item there))
      ∙ all_laid unit [] numbers (λ n there. absurd there) (λ n there. absurd there) (is.ordered.completed unit) number (is_completed written is unit number done) done

  -- so all are kept
  pub all_kept : (unit : ℕ) (own : LocalNames) → AreKept (known_thing written unit own) (laid_at modules) (layouts_of program.types)
  all_kept unit own = kept_so written is unit own (laid_at modules) (layouts_of program.types) each
    where
      each : (number : ℕ) (row : CRow) → row_at (layouts_of program.types) number ≡ Some row → IsLaidSo written (laid_at modules) number row
      each number row found =
          let it = completed_by program.types number row is.linked.types found in
          let done : IsDone written it.unit number = record { one = it.one; row = row; one_is = it.one_is; unit_is = it.unit_is; row_is = found } in
          record { unit = it.unit; done = done; row_same = refl; laid = laid_found it.unit number done }
