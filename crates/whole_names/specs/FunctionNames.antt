-- The names of a function's parameters and locals (ISO C99, 6.9.1, 6.2.4): behind those of its module the place of a structure or union that it gives (`ret`), its parameters, its
-- objects in the order of the text, its compound literals (`val`), and its temporaries (`t`).
use Rattle.std.specs.Prelude.{ℕ, zero, suc, ◌==◌, ◌&&◌, not, Bool, true, false, List, [], ◌∷◌, ◌++◌, map, filter, Option, Some, None, is_some, is_none, codes, if◌then◌else◌}
use Rattle.std.specs.List.{list_any}
use Rattle.cx_core.specs.Statements.{objects_in}
use Rattle.cx_core.specs.Trees.{CTy, form_of_type, CTyForm, void, basic, enum_type, pointer, array, record_type, function, CObject, CFun, CProgram}
use Rattle.cx_core.specs.Typing.{object_with}
use Rattle.rs_items_sets.specs.Names.{rust_name}
use Rattle.rs_items_sets.specs.declared.scope.NameScope.TheVariants.{Function}
use Rattle.whole_names.specs.ModuleNames.{name_or, taken_names}

-- what gets a name in a function
pub data LocalKey : Type 0 where
  -- where it writes the structure or union that it gives
  a_result : LocalKey
  -- the pointer to a structure or union that is passed; its copy is the parameter itself
  a_passed : (number : ℕ) → LocalKey
  -- a parameter, an object or a compound literal, by its number
  a_local : (number : ℕ) → LocalKey
  -- a temporary, by its number
  a_temporary : (number : ℕ) → LocalKey

-- ---- which

abbrev pub is_record : CTyForm → Bool
is_record (record_type number) = true
is_record _ = false

abbrev pub gives_record : CTyForm → Bool
gives_record (function result params variadic) = is_record (form_of_type result)
gives_record _ = false

abbrev pub object_is_record : Option CObject → Bool
object_is_record None = false
object_is_record (Some one) = is_record (form_of_type one.type)

abbrev pub is_among : List ℕ → ℕ → Bool
is_among numbers number = list_any (λ other. other == number) numbers

-- an object of the function's blocks that isn't static, and no parameter
abbrev pub is_local_of : CFun → CObject → Bool
is_local_of fun one = is_none one.puts && is_among (objects_in fun.body) one.object && not (is_among fun.params one.object)

-- a key, and the name that it is to get where that is free
pub record WantedLocal : Type 0 where
  pub key : LocalKey
  pub wanted : List ℕ

abbrev pub object_name : List ℕ → Option CObject → List ℕ
object_name other None = other
object_name other (Some one) = name_or other one.name

abbrev pub wanted_param : CProgram → ℕ → List WantedLocal
wanted_param program number =
    let one = object_with number program.objects in
    let name = object_name (codes "arg") one in
    if object_is_record one then record { key = a_passed number; wanted = name } ∷ record { key = a_local number; wanted = name } ∷ []
    else record { key = a_local number; wanted = name } ∷ []

abbrev pub wanted_params : CProgram → List ℕ → List WantedLocal
wanted_params program [] = []
wanted_params program (number ∷ numbers) = wanted_param program number ++ wanted_params program numbers

abbrev pub wanted_object : CObject → WantedLocal
wanted_object one = record { key = a_local one.object; wanted = name_or (codes "val") one.name }

-- objects are numbered in the order of the text
abbrev pub locals_that : (CObject → Bool) → CProgram → CFun → List WantedLocal
locals_that test program fun = map wanted_object (filter (λ one. is_local_of fun one && test one) program.objects)

abbrev pub wanted_locals : CProgram → CFun → List WantedLocal
wanted_locals program fun =
    (if gives_record (form_of_type fun.type) then record { key = a_result; wanted = codes "ret" } ∷ [] else [])
    ++ (wanted_params program fun.params ++ (locals_that (λ one. is_some one.name) program fun ++ locals_that (λ one. is_none one.name) program fun))

-- so many temporaries from a number on
abbrev pub wanted_temporaries : (from count : ℕ) → List WantedLocal
wanted_temporaries from zero = []
wanted_temporaries from (suc count) = record { key = a_temporary from; wanted = codes "t" } ∷ wanted_temporaries (suc from) count

-- ---- the names

pub record LocalName : Type 0 where
  pub key : LocalKey
  pub name : List ℕ

abbrev pub locals_from : (taken : List (List ℕ)) → List WantedLocal → List LocalName
locals_from taken [] = []
locals_from taken (one ∷ others) =
    let name = rust_name taken Function one.wanted in
    record { key = one.key; name = name } ∷ locals_from (taken ++ name ∷ []) others

-- all that gets a name in a function with so many temporaries
abbrev pub wanted_in : CProgram → CFun → (temporaries : ℕ) → List WantedLocal
wanted_in program fun temporaries = wanted_locals program fun ++ wanted_temporaries 0 temporaries

abbrev pub local_names : CProgram → CFun → (temporaries : ℕ) → List LocalName
local_names program fun temporaries = locals_from (taken_names program fun.unit) (wanted_in program fun temporaries)
