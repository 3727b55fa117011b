-- What gets a name in a function, as it is gone through.
use Rattle.std.specs.Prelude.{ℕ, zero, suc, ◌&&◌, not, Bool, true, false, if◌then◌else◌, List, [], ◌∷◌, ◌++◌, is_some, is_none, codes}
use Rattle.cx_core.specs.Trees.{CObject, CProgram}
use Rattle.whole_locals.specs.declared.wanted.LocalKey.{LocalKey}
use Rattle.whole_locals.specs.declared.wanted.LocalKey.TheVariants.{Result, Passed, Local, Temporary}
use Rattle.whole_locals.specs.declared.wanted.WantedLocal.{WantedLocal}
use Rattle.whole_names.specs.FunctionNames as spec
use Rattle.whole_names.specs.FunctionNames.{is_among, wanted_param}

abbrev pub view_local_key : LocalKey → spec.LocalKey
view_local_key Result = spec.a_result
view_local_key (Passed number) = spec.a_passed number
view_local_key (Local number) = spec.a_local number
view_local_key (Temporary number) = spec.a_temporary number

abbrev pub view_wanted : WantedLocal → spec.WantedLocal
view_wanted one = record { key = view_local_key one.key; wanted = one.wanted }

-- a structure or union is passed by a pointer
abbrev pub passed_where : Bool → ℕ → List ℕ → List spec.WantedLocal
passed_where true number name = record { key = spec.a_passed number; wanted = name } ∷ []
passed_where false number name = []

abbrev pub params_behind : CProgram → List ℕ → List spec.WantedLocal → List spec.WantedLocal
params_behind program [] before = before
params_behind program (number ∷ numbers) before = params_behind program numbers (before ++ wanted_param program number)

-- an object of these blocks that isn't static, and none of these parameters
abbrev pub is_local_in : (blocks params : List ℕ) → CObject → Bool
is_local_in blocks params one = is_none one.puts && is_among blocks one.object && not (is_among params one.object)

abbrev pub has_name_where : Bool → CObject → Bool
has_name_where true one = is_some one.name
has_name_where false one = is_none one.name

abbrev pub is_wanted : (blocks params : List ℕ) → Bool → CObject → Bool
is_wanted blocks params has_name one = is_local_in blocks params one && has_name_where has_name one

abbrev pub temporaries_behind : (count : ℕ) → List spec.WantedLocal → List spec.WantedLocal
temporaries_behind zero before = before
temporaries_behind (suc count) before = temporaries_behind count before ++ record { key = spec.a_temporary count; wanted = codes "t" } ∷ []
