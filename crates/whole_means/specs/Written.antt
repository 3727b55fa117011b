-- What is known of a linked program and of the names of its modules where its crate is written (ISO C99, 6.2.2, 6.7.2.1 and 6.9; the Rust Reference, "Modules").
use Rattle.std.specs.Prelude.{◌≡◌, ℕ, ◌+◌, ◌*◌, ◌<◌, ◌^◌, true, List, [], ◌∷◌, ◌++◌, length, Option, None, Some, IfSome, IsSome, All, slice_get}
use Rattle.std.specs.List.{Contains}
use Rattle.cx_core.specs.Linked.{IsLinked, has_linkage}
use Rattle.cx_core.specs.Trees.{CTy, CTyForm, void, basic, enum_type, pointer, array, record_type, function, form_of_type, CMember, CRecord, CObject, CFun, CKey, CProgram}
use Rattle.cx_core.specs.Trees as core
use Rattle.cx_core.specs.Typing.{function_with, object_with}
use Rattle.rs_items_sets.specs.LawsNames.{AreFewWith}
use Rattle.rs_text.specs.Valid.{all_differ}
use Rattle.whole_names.specs.Keys.{order_of}
use Rattle.whole_names.specs.Kept.{NamedProgram}
use Rattle.whole_names.specs.Laws.{wanted_of_module}
use Rattle.whole_names.specs.ModuleNames.{own_names}

-- ---- the order of declarations

-- the structure or union that a type holds, itself or as elements
abbrev mutual
  pub record_in : CTy → Option ℕ
  record_in (core.ty form is_const) = record_in_form form

  pub record_in_form : CTyForm → Option ℕ
  record_in_form void = None
  record_in_form (basic which) = None
  record_in_form (enum_type number) = None
  record_in_form (pointer to) = None
  record_in_form (array element length) = record_in element
  record_in_form (record_type number) = Some number
  record_in_form (function result params variadic) = None

-- what a member holds is completed earlier (6.7.2.1p2)
abbrev pub HoldsEarlier : List ℕ → CMember → Type 0
HoldsEarlier earlier one = IfSome (record_in one.type) (Contains earlier)

-- a record that a unit completes behind others
pub record IsCompletedIn (program : CProgram) (unit : ℕ) (earlier : List ℕ) (number : ℕ) : Type 0 where
  pub one : CRecord
  pub one_is : slice_get program.types.records number ≡ Some (Some one)
  pub unit_is : slice_get program.types.record_units number ≡ Some unit
  pub holds : All (HoldsEarlier earlier) one.members

abbrev pub AreCompletedIn : CProgram → (unit : ℕ) → (earlier numbers : List ℕ) → Type 0
AreCompletedIn program unit earlier [] = Unit {0}
AreCompletedIn program unit earlier (number ∷ others) = IsCompletedIn program unit earlier number × AreCompletedIn program unit (earlier ++ number ∷ []) others

-- the orders of a program have all that its units define and complete
pub record AreOrdered (program : CProgram) : Type 0 where
  pub functions : (number : ℕ) (one : CFun) → function_with number program.functions ≡ Some one → Contains (order_of program one.unit).things (core.a_function number)
  pub objects : (number : ℕ) (one : CObject) → object_with number program.objects ≡ Some one → has_linkage one.linkage ≡ true → IsSome one.puts →
      Contains (order_of program one.unit).things (core.an_object number)
  pub records : (number unit : ℕ) (one : CRecord) → slice_get program.types.records number ≡ Some (Some one) → slice_get program.types.record_units number ≡ Some unit →
      Contains (order_of program unit).completed number
  pub completed : (unit : ℕ) → AreCompletedIn program unit [] (order_of program unit).completed

-- ---- programs with names of modules

pub record IsNamed (whole : NamedProgram) : Type 0 where
  pub linked : IsLinked whole.program
  pub ordered : AreOrdered whole.program
  -- there is a name for each unit, and no two are equal
  pub modules_differ : all_differ whole.module_names ≡ true
  pub functions_here : All (λ (one : CFun). one.unit < length whole.module_names) whole.program.functions
  pub objects_here : All (λ (one : CObject). one.unit < length whole.module_names) whole.program.objects
  pub records_here : All (λ unit. unit < length whole.module_names) whole.program.types.record_units
  -- there are no more names than a 64-bit number can tell, and no more members
  pub few_names : (unit : ℕ) → AreFewWith own_names (wanted_of_module whole.program unit)
  pub few_members : (number : ℕ) (one : CRecord) → slice_get whole.program.types.records number ≡ Some (Some one) → 2 * length one.members + 4 < 2 ^ 64
