-- What a written crate is made of: names of C that are identifiers, names of modules, and bodies that fit their functions (ISO C99, 6.4.2.1; the Rust Reference, "Items").
use Rattle.std.specs.Prelude.{◌≡◌, ℕ, ◌<◌, true, false, List, length, IfSome, All, Some, slice_get}
use Rattle.std.specs.List.{list_all}
use Rattle.cx_core.specs.Trees.{CFun, CMember, CObject, COuter, CProgram, CRecord, CRecordTag, CTyForm, function, listed, unlisted, form_of_type}
use Rattle.cx_core.specs.ValidTypes.{MayVary}
use Rattle.rs_items_sets.specs.LawsNames.{AreFewWith}
use Rattle.rs_mean.specs.Typing.{body_ends, scope_of, stmts_typed, type_stands}
use Rattle.rs_text.specs.Names.{is_module_name, is_word}
use Rattle.rs_text.specs.Tree.{ModuleTree, Stmts}
use Rattle.rs_text.specs.Valid.{valid_count, valid_stmts, valid_ty}
use Rattle.whole_items.specs.Items.{WrittenBodies, WrittenBody, count_of, function_tree, initialiser_tree}
use Rattle.whole_names.specs.Kept.{NamedProgram}
use Rattle.whole_names.specs.Laws.{wanted_of_function}
use Rattle.whole_names.specs.ModuleNames.{taken_names}

-- the names of a program's things are identifiers (6.4.2.1)
pub record HasWords (program : CProgram) : Type 0 where
  pub functions : All (λ (one : CFun). is_word one.name ≡ true) program.functions
  pub externals : All (λ (one : COuter). is_word one.name ≡ true) program.externals
  pub objects : All (λ (one : CObject). IfSome one.name (λ name. is_word name ≡ true)) program.objects
  pub tags : All (λ (one : CRecordTag). IfSome one.tag (λ tag. is_word tag ≡ true)) program.types.record_tags
  pub members : (number : ℕ) (one : CRecord) → slice_get program.types.records number ≡ Some (Some one) →
      All (λ (member : CMember). IfSome member.name (λ name. is_word name ≡ true)) one.members

-- further arguments follow at least one parameter (6.7.5p1)
abbrev pub MayVaryForm : CTyForm → Type 0
MayVaryForm (function result unlisted variadic) = variadic ≡ false
MayVaryForm (function result (listed params) variadic) = MayVary params variadic
MayVaryForm _ = Unit {0}

abbrev pub OutersMayVary : CProgram → Type 0
OutersMayVary program = All (λ (one : COuter). MayVaryForm (form_of_type one.type)) program.externals

-- the names of modules: 1 to 64, each the name of a module
pub record HasModuleNames (names : List (List ℕ)) : Type 0 where
  pub count : valid_count (length names) ≡ true
  pub named : list_all is_module_name names ≡ true

-- a body is valid and well typed where the parameters, locals and temporaries of its function are in scope, and ends as its function asks
pub record BodyFits (whole : NamedProgram) (modules : List ModuleTree) (fun : CFun) (body : WrittenBody) : Type 0 where
  pub few : AreFewWith (taken_names whole.program fun.unit) (wanted_of_function whole.program fun (count_of body.temporaries))
  pub temporaries_valid : list_all valid_ty body.temporaries ≡ true
  pub temporaries_stand : list_all (type_stands modules) body.temporaries ≡ true
  pub valid : valid_stmts body.statements ≡ true
  pub typed : stmts_typed (scope_of modules (function_tree whole fun body)) body.statements ≡ true
  pub ends : body_ends (function_tree whole fun body).result body.statements ≡ true

-- what an initialiser does is valid and well typed
pub record InitialiserFits (modules : List ModuleTree) (statements : Stmts) : Type 0 where
  pub valid : valid_stmts statements ≡ true
  pub typed : stmts_typed (scope_of modules (initialiser_tree statements)) statements ≡ true

-- all bodies fit
pub record AreFit (whole : NamedProgram) (modules : List ModuleTree) (bodies : WrittenBodies) : Type 0 where
  pub functions : All (λ fun. BodyFits whole modules fun (bodies.of_function fun)) whole.program.functions
  pub initialisers : (unit : ℕ) → unit < length whole.module_names → InitialiserFits modules (bodies.initialiser unit)
