-- Keys behind others, as lists are gone through.
use Rattle.std.specs.Prelude.{ℕ, ◌==◌, ◌&&◌, not, Bool, true, false, if◌then◌else◌, List, [], ◌∷◌, ◌++◌, codes}
use Rattle.std.specs.List.{list_any}
use Rattle.cx_core.specs.BitFields.{has_bit_fields}
use Rattle.cx_core.specs.Trees.{CObject, CFun, COuter, CProgram}
use Rattle.whole_keys.specs.Kinds.{is_static}
use Rattle.whole_keys.specs.declared.entries.StaticKind.TheVariants.{OfBlock, Text, Literal}
use Rattle.whole_names.specs.Calls.{NamedCall}
use Rattle.whole_names.specs.Keys.{NameKey, a_function, an_object, a_record, a_calloc, a_bare_function, is_bare_too, is_called, is_entry, is_outer_named}

module _ {A B : Type 0} (test : A → Bool) (key : A → B) where
  -- what passes a test is put behind others
  abbrev pub put_one : A → List B → List B
  put_one one before = if test one then before ++ key one ∷ [] else before

  abbrev pub put_where : List A → List B → List B
  put_where [] before = before
  put_where (one ∷ others) before = put_where others (put_one one before)

abbrev pub object_key : CObject → NameKey
object_key one = an_object one.object

abbrev pub function_key : COuter → NameKey
function_key one = a_bare_function one.function

abbrev pub number_of : COuter → ℕ
number_of one = one.function

abbrev pub entry_key : CFun → NameKey
entry_key one = a_function one.function

abbrev pub is_entry_of : ℕ → CFun → Bool
is_entry_of unit one = one.unit == unit && is_entry one

-- a key is that of a function with one of these numbers
abbrev pub has_function : List ℕ → NameKey → Bool
has_function numbers (a_function number) = list_any (λ one. one == number) numbers
has_function numbers (an_object number) = false
has_function numbers (a_record number) = false
has_function numbers a_calloc = false
has_function numbers (a_bare_function number) = false

-- an external `malloc` is called
abbrev pub calls_malloc_in : List NamedCall → List COuter → Bool
calls_malloc_in calls externals = list_any (λ one. is_outer_named (codes "malloc") one && is_called calls one.function) externals

abbrev pub needs_calloc_in : CProgram → List NamedCall → (things : List NameKey) → Bool
needs_calloc_in program calls things =
    has_bit_fields program.types && calls_malloc_in calls program.externals
    && not (list_any (has_function (put_where (is_outer_named (codes "calloc")) number_of program.externals [])) things)

abbrev pub put_statics : CProgram → ℕ → List NameKey → List NameKey
put_statics program unit before =
    put_where (is_static Literal unit) object_key program.objects
    (put_where (is_static Text unit) object_key program.objects (put_where (is_static OfBlock unit) object_key program.objects before))

abbrev pub put_declared : CProgram → List NamedCall → Bool → List NameKey → List NameKey
put_declared program calls needs_calloc before =
    put_where (is_bare_too calls) function_key program.externals (if needs_calloc then before ++ a_calloc ∷ [] else before)
