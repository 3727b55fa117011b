-- Worked lists of units: the order of the objects of their program, and the order of declarations.
use Rattle.std.specs.Prelude.{◌≡◌, ℕ, Bool, true, false, if◌then◌else◌, List, [], ◌∷◌, map, Option, None, Some, codes}
use mathlib.Core.Path.{refl}
use Rattle.cx_core.specs.declared.program.Linkage.{Linkage}
use Rattle.cx_core.specs.declared.program.Linkage.TheVariants.{External, Internal, Nothing}
use Rattle.cx_core.specs.declared.ty.Basic.TheVariants.{Char, Int}
use Rattle.cx_core.specs.Trees.{CTy, ty, basic, array, function, listed, no_types, CPuts, no_puts, stmt, block, no_stmts, CMember, CRecord, CTypes, no_types_yet, CObject, CFun, COuter, CKey, a_function, an_object, CDeclaredOrder, CUnit, CProgram}
use Rattle.cx_links.specs.Program.{linked}

-- ---- what the units are made of

abbrev int_type : CTy
int_type = ty (basic Int) false

abbrev nothing_taken : CTy
nothing_taken = ty (function int_type (listed no_types) false) false

abbrev an_int : (unit number : ℕ) → Option (List ℕ) → Linkage → Option CPuts → CObject
an_int unit number name linkage puts = record { object = number; unit = unit; name = name; is_text = false; type = int_type; linkage = linkage; puts = puts }

-- `extern int NAME;` and a definition of it, tentative or not
abbrev declared : (unit number : ℕ) → List ℕ → CObject
declared unit number name = an_int unit number (Some name) External None

abbrev defined : (unit number : ℕ) → List ℕ → CObject
defined unit number name = an_int unit number (Some name) External (Some no_puts)

abbrev static_int : (unit number : ℕ) → List ℕ → CObject
static_int unit number name = an_int unit number (Some name) Internal (Some no_puts)

abbrev a_function_of : (unit number : ℕ) → List ℕ → CFun
a_function_of unit number name = record {
  function = number;
  name = name;
  unit = unit;
  linkage = External;
  type = nothing_taken;
  params = [];
  body = stmt (record { unit = unit; line = 1 }) [] (block no_stmts);
}

abbrev an_outer : ℕ → List ℕ → COuter
an_outer number name = record { function = number; name = name; linkage = External; type = nothing_taken }

abbrev a_unit : CTypes → List CObject → List CFun → List COuter → List CKey → List ℕ → CUnit
a_unit types objects functions externals things completed = record {
  types = types;
  objects = objects;
  functions = functions;
  externals = externals;
  mentions = [];
  order = record { things = things; completed = completed };
}

abbrev object_numbers : CProgram → List ℕ
object_numbers program = map (λ one. one.object) program.objects

abbrev object_units : CProgram → List ℕ
object_units program = map (λ one. one.unit) program.objects

-- ---- two units

-- `extern int x; int y;` and `int x;`
abbrev x_then_y : CUnit
x_then_y = a_unit no_types_yet (declared 0 0 (codes "x") ∷ defined 0 1 (codes "y") ∷ []) [] [] (an_object 0 ∷ an_object 1 ∷ []) []

abbrev only_x : CUnit
only_x = a_unit no_types_yet (defined 1 0 (codes "x") ∷ []) [] [] (an_object 0 ∷ []) []

-- `x` stands in the unit that defines it, behind all of the first
y_then_x : object_numbers (linked (x_then_y ∷ only_x ∷ [])) ≡ 1 ∷ 2 ∷ []
unfolding linked
y_then_x = refl

-- the first unit declares `x` in front of `y`
x_declared_first : (linked (x_then_y ∷ only_x ∷ [])).orders
    ≡ record { things = an_object 2 ∷ an_object 1 ∷ []; completed = [] } ∷ record { things = an_object 2 ∷ []; completed = [] } ∷ []
unfolding linked
x_declared_first = refl

-- by itself, the first unit has `x` where it declares it
x_alone : object_numbers (linked (x_then_y ∷ [])) ≡ 0 ∷ 1 ∷ []
unfolding linked
x_alone = refl

-- ---- three units

-- two records, the second of which is completed first, and a third in another unit
abbrev a_record : ℕ → Option CRecord
a_record number = Some (record { number = number; tag = None; is_union = false; members = record { name = Some (codes "n"); type = int_type; bits = None } ∷ [] })

abbrev records_of : List (Option CRecord) → CTypes
records_of records = record no_types_yet { records = records }

-- struct a; struct b { .. }; struct a { .. };
-- extern int x;
-- int f(void);
-- int y;
-- static int z;
-- int main(void) { static int count; extern int w; int g(void); "a"; }
abbrev first_unit : CUnit
first_unit = a_unit (records_of (a_record 0 ∷ a_record 1 ∷ []))
    (declared 0 0 (codes "x") ∷ defined 0 1 (codes "y") ∷ static_int 0 2 (codes "z") ∷ an_int 0 3 (Some (codes "count")) Nothing (Some no_puts)
    ∷ declared 0 4 (codes "w") ∷ record (an_int 0 5 None Nothing (Some no_puts)) { is_text = true; type = ty (array (ty (basic Char) false) (Some 2)) false } ∷ [])
    (a_function_of 0 1 (codes "main") ∷ []) (an_outer 0 (codes "f") ∷ an_outer 2 (codes "g") ∷ [])
    (an_object 0 ∷ a_function 0 ∷ an_object 1 ∷ an_object 2 ∷ a_function 1 ∷ an_object 4 ∷ a_function 2 ∷ []) (1 ∷ 0 ∷ [])

-- struct { .. };
-- extern int y;
-- int f(void) { }
-- int x = 1;
-- static int z;
abbrev second_unit : CUnit
second_unit = a_unit (records_of (a_record 0 ∷ []))
    (declared 1 0 (codes "y") ∷ defined 1 1 (codes "x") ∷ static_int 1 2 (codes "z") ∷ []) (a_function_of 1 0 (codes "f") ∷ []) []
    (an_object 0 ∷ a_function 0 ∷ an_object 1 ∷ an_object 2 ∷ []) (0 ∷ [])

-- int g(void);
-- extern int v;
-- int w;
abbrev third_unit : CUnit
third_unit = a_unit no_types_yet (declared 2 0 (codes "v") ∷ defined 2 1 (codes "w") ∷ []) [] (an_outer 0 (codes "g") ∷ [])
    (a_function 0 ∷ an_object 0 ∷ an_object 1 ∷ []) []

abbrev three : CProgram
three = linked (first_unit ∷ second_unit ∷ third_unit ∷ [])

-- y, z, count and "a" of the first unit, x and z of the second, v and w of the third
objects_of_three : object_numbers three ≡ 1 ∷ 2 ∷ 3 ∷ 5 ∷ 7 ∷ 8 ∷ 9 ∷ 10 ∷ []
unfolding linked
objects_of_three = refl

units_of_three : object_units three ≡ 0 ∷ 0 ∷ 0 ∷ 0 ∷ 1 ∷ 1 ∷ 2 ∷ 2 ∷ []
unfolding linked
units_of_three = refl

-- each unit's own order, by what stands for the names in the program; `g` is one function, which no unit defines
orders_of_three : three.orders ≡
    record {
      things = an_object 7 ∷ a_function 3 ∷ an_object 1 ∷ an_object 2 ∷ a_function 1 ∷ an_object 10 ∷ a_function 2 ∷ [];
      completed = 1 ∷ 0 ∷ [];
    }
    ∷ record { things = an_object 1 ∷ a_function 3 ∷ an_object 7 ∷ an_object 8 ∷ []; completed = 2 ∷ [] }
    ∷ record { things = a_function 2 ∷ an_object 9 ∷ an_object 10 ∷ []; completed = [] }
    ∷ []
unfolding linked
orders_of_three = refl
