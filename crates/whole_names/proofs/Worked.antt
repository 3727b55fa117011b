-- The names of a program of two units, computed:
--   a.c  extern int x; int fn(void); static int self; struct s { int m; }; struct { int m; } v; int main(void) { static int x; int x_0; { int x; "t"; } }
--   b.c  int x; struct s { int k; };
use Rattle.std.proofs.Common.{◌≡◌, ℕ, true, false, List, [], ◌∷◌, map, option_map, Some, None, codes, refl}
use Rattle.std.specs.Fmt.{digits}
use Rattle.cr_base.specs.declared.refusal.Place.{Place}
use Rattle.cx_core.specs.declared.program.Linkage.TheVariants.{External, Internal, Nothing}
use Rattle.cx_core.specs.declared.ty.Basic.TheVariants.{Char, Int}
use Rattle.cx_core.specs.Trees.{CTy, ty, void, basic, array, record_type, function, listed, no_types, more_types, CPuts, no_puts, CStmt, stmt, block, begin, no_stmts, more_stmts, CRecord, CTypes, CObject, CFun, COuter, CProgram, CKey, a_function, an_object}
use Rattle.rs_items_sets.specs.Names.{reserved}
use Rattle.rs_text.specs.Names.{keywords, path_words}
use Rattle.whole_names.specs.FunctionNames.{LocalName, local_names}
use Rattle.rs_items.specs.Known.{KnownThing}
use Rattle.rs_items.specs.declared.known.Named.TheVariants.{Object}
use Rattle.whole_names.specs.Keys as key
use Rattle.whole_names.specs.Kept.{NamedProgram, known_thing, no_locals, record_path}
use Rattle.whole_names.specs.ModuleNames.{GivenName, module_names, names_only}

abbrev int_type : CTy
int_type = ty (basic Int) false

abbrev here : Place
here = record { unit = 0; line = 1 }

abbrev a_record_of : ℕ → CRecord
a_record_of number = record { number = number; tag = Some (codes "s"); is_union = false; members = [] }

abbrev objects : List CObject
objects =
    record { object = 0; unit = 0; name = Some (codes "self"); is_text = false; type = int_type; linkage = Internal; puts = Some no_puts }
    ∷ record { object = 1; unit = 0; name = Some (codes "v"); is_text = false; type = ty (record_type 1) false; linkage = External; puts = Some no_puts }
    ∷ record { object = 2; unit = 0; name = Some (codes "x"); is_text = false; type = int_type; linkage = Nothing; puts = Some no_puts }
    ∷ record { object = 3; unit = 0; name = Some (codes "x_0"); is_text = false; type = int_type; linkage = Nothing; puts = None }
    ∷ record { object = 4; unit = 0; name = Some (codes "x"); is_text = false; type = int_type; linkage = Nothing; puts = None }
    ∷ record { object = 5; unit = 0; name = None; is_text = true; type = ty (array (ty (basic Char) false) (Some 2)) false; linkage = Nothing; puts = Some no_puts }
    ∷ record { object = 6; unit = 1; name = Some (codes "x"); is_text = false; type = int_type; linkage = External; puts = Some no_puts }
    ∷ []

abbrev main_function : CFun
main_function = record {
  function = 1;
  name = codes "main";
  unit = 0;
  linkage = External;
  type = ty (function int_type (listed no_types) false) false;
  params = [];
  body = stmt here (2 ∷ 3 ∷ []) (block (more_stmts (stmt here (4 ∷ []) (block no_stmts)) no_stmts));
}

abbrev program : CProgram
program = record {
  types = record {
    records = Some (a_record_of 0) ∷ Some (a_record_of 1) ∷ Some (a_record_of 2) ∷ [];
    record_tags = record { tag = Some (codes "s"); is_union = false } ∷ record { tag = None; is_union = false } ∷ record { tag = Some (codes "s"); is_union = false } ∷ [];
    record_units = 0 ∷ 0 ∷ 1 ∷ [];
    enums = [];
    enum_units = [];
  };
  objects = objects;
  functions = main_function ∷ [];
  externals = record { function = 0; name = codes "fn"; linkage = External; type = ty (function int_type (listed no_types) false) false } ∷ [];
  orders =
      record { things = an_object 6 ∷ a_function 0 ∷ an_object 0 ∷ an_object 1 ∷ a_function 1 ∷ []; completed = 0 ∷ 1 ∷ [] }
      ∷ record { things = an_object 6 ∷ []; completed = 2 ∷ [] } ∷ [];
}

-- a keyword gets `r#`, a word of paths a suffix; the object of the other unit has no name here, so that a static object of a block may have it
names_of_first : map (λ (one : GivenName). one.name) (module_names program 0)
    ≡ codes "main_0" ∷ codes "r#fn" ∷ codes "self_0" ∷ codes "v" ∷ codes "s" ∷ codes "anon" ∷ codes "x" ∷ codes "lit" ∷ []
unfolding digits reserved keywords path_words
names_of_first = refl

keys_of_first : map (λ (one : GivenName). one.key) (module_names program 0)
    ≡ key.a_function 1 ∷ key.a_function 0 ∷ key.an_object 0 ∷ key.an_object 1 ∷ key.a_record 0 ∷ key.a_record 1 ∷ key.an_object 2 ∷ key.an_object 5 ∷ []
keys_of_first = refl

names_of_second : map (λ (one : GivenName). one.name) (module_names program 1) ≡ codes "x" ∷ codes "s" ∷ []
unfolding digits reserved keywords path_words
names_of_second = refl

-- an inner `x` beside `x_0` and the module's `x`
names_of_main : map (λ (one : LocalName). one.name) (local_names program main_function 2) ≡ codes "x_0" ∷ codes "x_1" ∷ codes "t" ∷ codes "t_0" ∷ []
unfolding digits reserved keywords path_words
names_of_main = refl

-- ---- what things have become

abbrev whole : NamedProgram
whole = record { program = program; module_names = codes "a" ∷ codes "b" ∷ [] }

-- the object of the other unit is that unit's item
x_of_other : option_map (λ (one : KnownThing). one.module_name) (known_thing whole 0 no_locals (Object 6)) ≡ Some (Some (codes "b"))
x_of_other = refl

-- records of one tag in two units
records_apart : record_path whole 0 ≡ Some (record { home = codes "a"; name = codes "s" })
unfolding digits reserved keywords path_words
records_apart = refl

other_record : record_path whole 2 ≡ Some (record { home = codes "b"; name = codes "s" })
unfolding digits reserved keywords path_words
other_record = refl
