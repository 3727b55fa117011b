-- Worked lists of units: which rule they break together, and what stands for what in their program.
use Rattle.std.specs.Prelude.{◌≡◌, ℕ, zero, suc, Bool, true, false, List, [], ◌∷◌, map, None, Some, codes}
use mathlib.Core.Path.{refl}
use Rattle.cr_base.specs.declared.rule.Rule.{Rule}
use Rattle.cr_base.specs.declared.rule.Rule.TheVariants.{L1, L2, L3, L4, L5, M2}
use Rattle.cx_core.specs.Conversions.{same_basic}
use Rattle.cx_core.specs.Externals.{known_functions}
use Rattle.cx_core.specs.declared.program.Linkage.{Linkage}
use Rattle.cx_core.specs.declared.program.Linkage.TheVariants.{External, Internal}
use Rattle.cx_core.specs.declared.ty.Basic.TheVariants.{Char, Int, Long, UnsignedLong}
use Rattle.cx_core.specs.Trees.{CTy, ty, void, basic, pointer, record_type, function, listed, unlisted, CTys, no_types, more_types, CExpr, expr, object, load, no_puts, stmt, block, returns, no_stmts, more_stmts, CTypes, no_types_yet, CObject, CFun, COuter, CDeclaredOrder, CDoes, declares, defines, calls, uses, CMention, CUnit, CProgram}
use Rattle.cx_links.specs.Program.{linked}
use Rattle.cx_externals.specs.Functions.{is_external_type}
use Rattle.cx_links.specs.Rules.{broken_links, compatible_in, first_in, rule_of}

-- ---- what the units are made of

abbrev int_type : CTy
int_type = ty (basic Int) false

abbrev long_type : CTy
long_type = ty (basic Long) false

-- a type that gives an `int` and takes these
abbrev takes : CTys → CTy
takes types = ty (function int_type (listed types) false) false

abbrev nothing_taken : CTy
nothing_taken = takes no_types

abbrev int_taken : CTy
int_taken = takes (more_types int_type no_types)

-- a mention at a line of a unit
abbrev at : (unit line : ℕ) → List ℕ → CTy → Linkage → CDoes → CMention
at unit line name type linkage does = record { name = name; place = record { unit = unit; line = line }; type = type; linkage = linkage; does = does }

-- a function whose body returns what an object holds, and one with an empty body
abbrev empty_function : (unit number : ℕ) → List ℕ → CTy → Linkage → CFun
empty_function unit number name type linkage = record {
  function = number;
  name = name;
  unit = unit;
  linkage = linkage;
  type = type;
  params = [];
  body = stmt (record { unit = unit; line = 1 }) [] (block no_stmts);
}

abbrev n_value : ℕ → CExpr
n_value number = expr int_type (record { unit = 0; line = 2 }) (load (expr int_type (record { unit = 0; line = 2 }) (object number)))

abbrev returns_object : (number : ℕ) → (object : ℕ) → CFun
returns_object number held = record {
  function = number;
  name = codes "main";
  unit = 0;
  linkage = External;
  type = nothing_taken;
  params = [];
  body = stmt (record { unit = 0; line = 2 }) [] (block (more_stmts (stmt (record { unit = 0; line = 2 }) [] (returns (Some (n_value held)))) no_stmts));
}

abbrev an_object : (unit number : ℕ) → List ℕ → CTy → Linkage → Bool → CObject
an_object unit number name type linkage true =
    record { object = number; unit = unit; name = Some name; is_text = false; type = type; linkage = linkage; puts = Some no_puts }
an_object unit number name type linkage false =
    record { object = number; unit = unit; name = Some name; is_text = false; type = type; linkage = linkage; puts = None }

abbrev an_outer : ℕ → List ℕ → CTy → Linkage → COuter
an_outer number name type linkage = record { function = number; name = name; linkage = linkage; type = type }

abbrev no_order : CDeclaredOrder
no_order = record { things = []; completed = [] }

abbrev a_unit : List CObject → List CFun → List COuter → List CMention → CUnit
a_unit objects functions externals mentions =
    record { types = no_types_yet; objects = objects; functions = functions; externals = externals; mentions = mentions; order = no_order }

-- `int main(void) { .. }` at a line
abbrev main_at : ℕ → ℕ → CMention
main_at unit line = at unit line (codes "main") nothing_taken External defines

abbrev main_in : ℕ → ℕ → CFun
main_in unit number = empty_function unit number (codes "main") nothing_taken External

abbrev only_main : ℕ → CUnit
only_main unit = a_unit [] (main_in unit 0 ∷ []) [] (main_at unit 1 ∷ [])

-- `int f(void);`, `int main(void) { .. }`, and what main does with `f`
abbrev beside_main : List ℕ → CTy → List CMention → CUnit
beside_main name type mentions =
    a_unit [] (main_in 0 1 ∷ []) (an_outer 0 name type External ∷ []) (at 0 1 name type External declares ∷ main_at 0 2 ∷ mentions)

abbrev is_fine : List CUnit → Type 0
is_fine units = broken_links units ≡ None

abbrev is_refused : List CUnit → Rule → (unit line : ℕ) → Type 0
is_refused units rule unit line = broken_links units ≡ Some (record { rule = rule; unit = unit; line = line })

-- ---- `main` (5.1.2.2.1)

-- `int main(void) { .. }`
alone : is_fine (only_main 0 ∷ [])
unfolding broken_links linked first_in rule_of same_basic
alone = refl

-- `int f(void);` by itself
no_main : is_refused (a_unit [] [] (an_outer 0 (codes "f") nothing_taken External ∷ []) (at 0 1 (codes "f") nothing_taken External declares ∷ []) ∷ []) L3 0 0
unfolding broken_links linked first_in rule_of is_external_type known_functions same_basic
no_main = refl

-- `static int main(void) { .. }`
static_main : is_refused (a_unit [] (empty_function 0 0 (codes "main") nothing_taken Internal ∷ []) [] (at 0 1 (codes "main") nothing_taken Internal defines ∷ []) ∷ []) L3 0 0
unfolding broken_links linked first_in rule_of same_basic
static_main = refl

-- `int main(int n) { .. }` at line 3
main_with_one : is_refused (a_unit [] (empty_function 0 0 (codes "main") int_taken External ∷ []) [] (at 0 3 (codes "main") int_taken External defines ∷ []) ∷ []) L3 0 3
unfolding broken_links linked first_in rule_of same_basic
main_with_one = refl

-- `int main() { .. }`
main_unlisted : is_fine (a_unit [] (empty_function 0 0 (codes "main") (ty (function int_type unlisted false) false) External ∷ []) []
    (at 0 1 (codes "main") (ty (function int_type unlisted false) false) External defines ∷ []) ∷ [])
unfolding broken_links linked first_in rule_of same_basic
main_unlisted = refl

-- `long main(void) { .. }`
long_main : is_refused (a_unit [] (empty_function 0 0 (codes "main") (ty (function long_type (listed no_types) false) false) External ∷ []) []
    (at 0 1 (codes "main") (ty (function long_type (listed no_types) false) false) External defines ∷ []) ∷ []) L3 0 1
unfolding broken_links linked first_in rule_of same_basic
long_main = refl

-- an object `main`, and a function `main` that is declared and defined nowhere
object_main : is_refused (a_unit (an_object 0 0 (codes "main") int_type External true ∷ []) [] [] (at 0 1 (codes "main") int_type External defines ∷ []) ∷ []) L3 0 1
unfolding broken_links linked first_in rule_of same_basic
object_main = refl

main_of_the_second : is_fine (a_unit [] [] [] [] ∷ only_main 1 ∷ [])
unfolding broken_links linked first_in rule_of same_basic
main_of_the_second = refl

-- ---- second definitions and declarations that clash (6.2.7p2, 6.9p5)

-- `int n; int main(void) { return n; }` and `int n;`
second_object : is_refused (a_unit (an_object 0 0 (codes "n") int_type External true ∷ []) (returns_object 0 0 ∷ []) []
    (at 0 1 (codes "n") int_type External defines ∷ main_at 0 2 ∷ at 0 2 (codes "n") int_type External uses ∷ [])
    ∷ a_unit (an_object 1 0 (codes "n") int_type External true ∷ []) [] [] (at 1 1 (codes "n") int_type External defines ∷ []) ∷ []) L1 1 1
unfolding broken_links linked first_in rule_of same_basic
second_object = refl

-- a tentative definition twice in one unit is none that counts here
twice_in_one : is_fine (a_unit (an_object 0 0 (codes "n") int_type External true ∷ []) (main_in 0 0 ∷ []) []
    (at 0 1 (codes "n") int_type External defines ∷ at 0 2 (codes "n") int_type External defines ∷ main_at 0 3 ∷ []) ∷ [])
unfolding broken_links linked first_in rule_of same_basic
twice_in_one = refl

-- two units with `static int n;`
two_static_objects : is_fine (a_unit (an_object 0 0 (codes "n") int_type Internal true ∷ []) (main_in 0 0 ∷ []) [] (main_at 0 1 ∷ [])
    ∷ a_unit (an_object 1 0 (codes "n") int_type Internal true ∷ []) [] [] [] ∷ [])
unfolding broken_links linked first_in rule_of same_basic
two_static_objects = refl

-- `int f(int); int main(void) { .. }` and `long f(int x) { .. }`
clash : is_refused (beside_main (codes "f") int_taken []
    ∷ a_unit [] (empty_function 1 0 (codes "f") (ty (function long_type (listed (more_types int_type no_types)) false) false) External ∷ []) []
    (at 1 1 (codes "f") (ty (function long_type (listed (more_types int_type no_types)) false) false) External defines ∷ []) ∷ []) L2 1 1
unfolding broken_links linked first_in rule_of is_external_type known_functions compatible_in same_basic
clash = refl

-- a definition in an earlier unit that isn't compatible: the second definition counts first
second_and_clash : is_refused (a_unit (an_object 0 0 (codes "n") int_type External true ∷ []) (main_in 0 0 ∷ []) []
    (at 0 1 (codes "n") int_type External defines ∷ main_at 0 2 ∷ [])
    ∷ a_unit (an_object 1 0 (codes "n") long_type External true ∷ []) [] [] (at 1 4 (codes "n") long_type External defines ∷ []) ∷ []) L1 1 4
unfolding broken_links linked first_in rule_of compatible_in same_basic
second_and_clash = refl

-- ---- functions from outside

-- `int f(void); int main(void) { .. }`, with `f` never called
never_called : is_fine (beside_main (codes "f") nothing_taken [] ∷ [])
unfolding broken_links linked first_in rule_of is_external_type known_functions same_basic
never_called = refl

-- `void f(int *); int main(void) { .. }`
pointer_taken : is_refused (beside_main (codes "f") (ty (function (ty void false) (listed (more_types (ty (pointer int_type) false) no_types)) false) false) [] ∷ []) L4 0 1
unfolding broken_links linked first_in rule_of is_external_type known_functions same_basic
pointer_taken = refl

-- the same is a function like any other where a unit defines it
pointer_taken_inside : is_fine (beside_main (codes "f") (ty (function (ty void false) (listed (more_types (ty (pointer int_type) false) no_types)) false) false) []
    ∷ a_unit [] (empty_function 1 0 (codes "f") (ty (function (ty void false) (listed (more_types (ty (pointer int_type) false) no_types)) false) false) External ∷ []) []
    (at 1 1 (codes "f") (ty (function (ty void false) (listed (more_types (ty (pointer int_type) false) no_types)) false) false) External defines ∷ []) ∷ [])
unfolding broken_links linked first_in rule_of is_external_type known_functions compatible_in same_basic
pointer_taken_inside = refl

-- `int printf(const char *, ...);` and `printf("%p", &x)` at line 2, and with an `int` behind the text
abbrev printf_type : CTy
printf_type = ty (function int_type (listed (more_types (ty (pointer (ty (basic Char) true)) false) no_types)) true) false

trailing_pointer : is_refused (beside_main (codes "printf") printf_type
    (at 0 2 (codes "printf") printf_type External (calls (ty (pointer int_type) false ∷ [])) ∷ []) ∷ []) L4 0 2
unfolding broken_links linked first_in rule_of is_external_type known_functions same_basic
trailing_pointer = refl

trailing_int : is_fine (beside_main (codes "printf") printf_type (at 0 2 (codes "printf") printf_type External (calls (int_type ∷ [])) ∷ []) ∷ [])
unfolding broken_links linked first_in rule_of is_external_type known_functions same_basic
trailing_int = refl

-- `f` by itself, where no unit defines it
pointed_to : is_refused (beside_main (codes "f") nothing_taken (at 0 2 (codes "f") nothing_taken External uses ∷ []) ∷ []) L4 0 2
unfolding broken_links linked first_in rule_of is_external_type known_functions same_basic
pointed_to = refl

-- `int malloc(int);`, and as the library has it
other_malloc : is_refused (beside_main (codes "malloc") int_taken [] ∷ []) L4 0 1
unfolding broken_links linked first_in rule_of is_external_type known_functions same_basic
other_malloc = refl

own_malloc : is_fine (beside_main (codes "malloc")
    (ty (function (ty (pointer (ty void false)) false) (listed (more_types (ty (basic UnsignedLong) false) no_types)) false) false) [] ∷ [])
unfolding broken_links linked first_in rule_of is_external_type known_functions same_basic
own_malloc = refl

-- ---- what is used and not defined

-- `extern int n; int main(void) { return n; }`, and with `int n;` in another unit
abbrev uses_n : CUnit
uses_n = a_unit (an_object 0 0 (codes "n") int_type External false ∷ []) (returns_object 0 0 ∷ []) []
    (at 0 1 (codes "n") int_type External declares ∷ main_at 0 2 ∷ at 0 2 (codes "n") int_type External uses ∷ [])

abbrev defines_n : CUnit
defines_n = a_unit (an_object 1 0 (codes "m") int_type Internal true ∷ an_object 1 1 (codes "n") int_type External true ∷ []) [] []
    (at 1 1 (codes "n") int_type External defines ∷ [])

undefined_object : is_refused (uses_n ∷ []) L5 0 2
unfolding broken_links linked first_in rule_of same_basic
undefined_object = refl

defined_elsewhere : is_fine (uses_n ∷ defines_n ∷ [])
unfolding broken_links linked first_in rule_of compatible_in same_basic
defined_elsewhere = refl

-- `extern int n; int main(void) { .. }`
unused_object : is_fine (a_unit (an_object 0 0 (codes "n") int_type External false ∷ []) (main_in 0 0 ∷ []) []
    (at 0 1 (codes "n") int_type External declares ∷ main_at 0 2 ∷ []) ∷ [])
unfolding broken_links linked first_in rule_of same_basic
unused_object = refl

-- `static int f(void); int main(void) { return f(); }`; a function of the same name in another unit is another one
abbrev static_f : List CMention → CUnit
static_f mentions = a_unit [] (main_in 0 1 ∷ []) (an_outer 0 (codes "f") nothing_taken Internal ∷ [])
    (at 0 1 (codes "f") nothing_taken Internal declares ∷ main_at 0 2 ∷ mentions)

undefined_static : is_refused (static_f (at 0 2 (codes "f") nothing_taken Internal (calls []) ∷ [])
    ∷ a_unit [] (empty_function 1 0 (codes "f") nothing_taken External ∷ []) [] (at 1 1 (codes "f") nothing_taken External defines ∷ []) ∷ []) L5 0 2
unfolding broken_links linked first_in rule_of same_basic
undefined_static = refl

unused_static : is_fine (static_f [] ∷ [])
unfolding broken_links linked first_in rule_of same_basic
unused_static = refl

-- ---- too many units

abbrev so_many : ℕ → List CUnit
so_many zero = []
so_many (suc count) = only_main 0 ∷ so_many count

too_many : is_refused (so_many 65) M2 0 0
unfolding broken_links
too_many = refl

-- ---- records of two units (6.2.7p1)

-- `struct s { struct s *NAME; }`, whose number in its unit is 0
abbrev one_record : (unit : ℕ) → List ℕ → CTypes
one_record unit name = record {
  records = Some (record {
    number = 0;
    tag = Some (codes "s");
    is_union = false;
    members = record { name = Some name; type = ty (pointer (ty (record_type 0) false)) false; bits = None } ∷ [];
  }) ∷ [];
  record_tags = record { tag = Some (codes "s"); is_union = false } ∷ [];
  record_units = unit ∷ [];
  enums = [];
  enum_units = [];
}

-- `struct s *p;` in two units, defined in the first
abbrev with_record : (unit : ℕ) → List ℕ → Bool → List CFun → List CMention → CUnit
with_record unit name is_defined functions mentions = record {
  types = one_record unit name;
  objects = an_object unit 0 (codes "p") (ty (pointer (ty (record_type 0) false)) false) External is_defined ∷ [];
  functions = functions;
  externals = [];
  mentions = mentions;
  order = no_order;
}

abbrev pointer_p : CTy
pointer_p = ty (pointer (ty (record_type 0) false)) false

alike_records : is_fine (with_record 0 (codes "a") true (main_in 0 0 ∷ []) (at 0 1 (codes "p") pointer_p External defines ∷ main_at 0 2 ∷ [])
    ∷ with_record 1 (codes "a") false [] (at 1 1 (codes "p") pointer_p External declares ∷ []) ∷ [])
unfolding broken_links linked first_in rule_of compatible_in same_basic
alike_records = refl

other_records : is_refused (with_record 0 (codes "a") true (main_in 0 0 ∷ []) (at 0 1 (codes "p") pointer_p External defines ∷ main_at 0 2 ∷ [])
    ∷ with_record 1 (codes "b") false [] (at 1 1 (codes "p") pointer_p External declares ∷ []) ∷ []) L2 1 1
unfolding broken_links linked first_in rule_of compatible_in same_basic
other_records = refl

-- ---- the program

abbrev object_numbers : CProgram → List ℕ
object_numbers program = map (λ one. one.object) program.objects

-- `n` is that of the unit that defines it, and stands there behind the static object
numbers_of_objects : object_numbers (linked (uses_n ∷ defines_n ∷ [])) ≡ 1 ∷ 2 ∷ []
unfolding linked
numbers_of_objects = refl

-- `main` returns what that one holds
main_returns : (linked (uses_n ∷ defines_n ∷ [])).functions ≡ returns_object 0 2 ∷ []
unfolding linked
main_returns = refl

-- the record of the second unit is the second one of the program
second_record : map (λ one. one.type) (linked (with_record 0 (codes "a") true [] [] ∷ with_record 1 (codes "a") false [] [] ∷ [])).objects ≡ pointer_p ∷ []
unfolding linked
second_record = refl

-- functions that units declare and none defines: once each, with the first number
abbrev outer_numbers : CProgram → List ℕ
outer_numbers program = map (λ one. one.function) program.externals

numbers_of_outers : outer_numbers (linked (beside_main (codes "f") nothing_taken [] ∷ beside_main (codes "f") nothing_taken [] ∷ [])) ≡ 0 ∷ []
unfolding linked
numbers_of_outers = refl

-- the declaration with a list of parameters stands for both (6.2.7p3), also where it comes behind; and of two with a list the first
abbrev outer_types : CProgram → List CTy
outer_types program = map (λ one. one.type) program.externals

abbrev unlisted_type : CTy
unlisted_type = ty (function int_type unlisted false) false

listed_behind : (outer_numbers (linked (beside_main (codes "f") unlisted_type [] ∷ beside_main (codes "f") int_taken [] ∷ [])) ≡ 2 ∷ [])
    × (outer_types (linked (beside_main (codes "f") unlisted_type [] ∷ beside_main (codes "f") int_taken [] ∷ [])) ≡ int_taken ∷ [])
unfolding linked
listed_behind = (refl, refl)

listed_before : (outer_numbers (linked (beside_main (codes "f") int_taken [] ∷ beside_main (codes "f") unlisted_type [] ∷ [])) ≡ 0 ∷ [])
    × (outer_types (linked (beside_main (codes "f") int_taken [] ∷ beside_main (codes "f") unlisted_type [] ∷ [])) ≡ int_taken ∷ [])
unfolding linked
listed_before = (refl, refl)

listed_nowhere : outer_numbers (linked (beside_main (codes "f") unlisted_type [] ∷ beside_main (codes "f") unlisted_type [] ∷ [])) ≡ 0 ∷ []
unfolding linked
listed_nowhere = refl
