-- Laws of the names of modules and functions: they differ, and are identifiers where the names of C are (ISO C99, 6.4.2.1).
use Rattle.std.specs.Prelude.{◌≡◌, ℕ, true, List, ◌++◌, map}
use Rattle.std.specs.List.{list_all}
use Rattle.cx_core.specs.Trees.{CFun, CProgram}
use Rattle.rs_items_sets.specs.LawsNames.{AreFewWith}
use Rattle.rs_text.specs.Names.{is_word, is_identifier}
use Rattle.rs_text.specs.Valid.{all_differ}
use Rattle.whole_names.specs.FunctionNames.{LocalName, WantedLocal, wanted_in, local_names}
use Rattle.whole_names.specs.Keys.{module_keys}
use Rattle.whole_names.specs.ModuleNames.{own_names, wanted_name, taken_names}

abbrev pub wanted_of_module : CProgram → ℕ → List (List ℕ)
wanted_of_module program unit = map (wanted_name program) (module_keys program unit)

abbrev pub wanted_of_function : CProgram → CFun → (temporaries : ℕ) → List (List ℕ)
wanted_of_function program fun temporaries = map (λ (one : WantedLocal). one.wanted) (wanted_in program fun temporaries)

abbrev pub names_of_locals : CProgram → CFun → (temporaries : ℕ) → List (List ℕ)
names_of_locals program fun temporaries = map (λ (one : LocalName). one.name) (local_names program fun temporaries)

pub record NamesOfModules : Type 0 where
  -- no two items of a module have one name
  pub differ : (program : CProgram) (unit : ℕ) → AreFewWith own_names (wanted_of_module program unit) → all_differ (taken_names program unit) ≡ true
  pub identifiers : (program : CProgram) (unit : ℕ) → AreFewWith own_names (wanted_of_module program unit) → list_all is_word (wanted_of_module program unit) ≡ true →
      list_all is_identifier (taken_names program unit) ≡ true

pub record NamesOfFunctions : Type 0 where
  -- no two parameters or locals of a function have one name, and none has that of an item of its module
  pub differ : (program : CProgram) (fun : CFun) (temporaries : ℕ) → AreFewWith own_names (wanted_of_module program fun.unit) →
      AreFewWith (taken_names program fun.unit) (wanted_of_function program fun temporaries) →
      all_differ (taken_names program fun.unit ++ names_of_locals program fun temporaries) ≡ true
  pub identifiers : (program : CProgram) (fun : CFun) (temporaries : ℕ) → AreFewWith own_names (wanted_of_module program fun.unit) →
      AreFewWith (taken_names program fun.unit) (wanted_of_function program fun temporaries) → list_all is_word (wanted_of_module program fun.unit) ≡ true →
      list_all is_word (wanted_of_function program fun temporaries) ≡ true →
      list_all is_identifier (taken_names program fun.unit ++ names_of_locals program fun temporaries) ≡ true
