-- Items of a unit, computed:
--   int putchar(); int self; struct s { int b : 3; int n; } v; int main(void) { "ab"; putchar(); { int putchar(int); putchar(65); } }
use Rattle.std.proofs.Common.{◌≡◌, ℕ, ℤ, pos, true, false, List, [], ◌∷◌, map, Some, None, codes, refl}
use Rattle.std.specs.Fmt.{digits}
use Rattle.cr_base.specs.declared.layout.Spot.{Spot}
use Rattle.cr_base.specs.declared.refusal.Place.{Place}
use Rattle.cx_core.specs.declared.program.Linkage.TheVariants.{External, Nothing}
use Rattle.cx_core.specs.declared.ty.Basic.TheVariants.{Char, Int}
use Rattle.cx_core.specs.Layouts.{layouts_of}
use Rattle.cx_core.specs.Trees.{CTy, ty, basic, array, record_type, function, listed, no_types, more_types, CExpr, expr, whole, call, no_exprs, more_exprs, CPut, put, CPuts, no_puts, more_puts, CStmt, stmt, expression, block, no_stmts, more_stmts, CMember, CRecord, CObject, CFun, CProgram, a_function, an_object}
use Rattle.rs_items_sets.specs.Names.{reserved}
use Rattle.rs_items.specs.Records.{struct_end, struct_step}
use Rattle.rs_text.specs.declared.attribute.Attribute.TheVariants.{Mangled, NoMangle, ExportName}
use Rattle.rs_text.specs.declared.integer.IntegerTy.TheVariants.{I8, I32, U8}
use Rattle.rs_text.specs.Names.{keywords, path_words}
use Rattle.rs_text.specs.Tree.{Integer, Array, Record, no_stmts as no_statements, RecordItem, StaticItem}
use Rattle.whole_items.specs.Items.{WrittenBody, record_items, static_items, outers_of, function_tree}
use Rattle.whole_names.specs.Kept.{NamedProgram}

abbrev int_type : CTy
int_type = ty (basic Int) false

abbrev here : Place
here = record { unit = 0; line = 1 }

abbrev number : ℤ → CExpr
number value = expr int_type here (whole value)

abbrev at_byte : ℕ → Spot
at_byte byte = record { byte = byte; bit = 0; width = 0 }

abbrev char_put : ℕ → ℤ → CPut
char_put byte value = put (at_byte byte) (ty (basic Char) false) (expr (ty (basic Char) false) here (whole value))

abbrev objects : List CObject
objects =
    record { object = 0; unit = 0; name = Some (codes "self"); is_text = false; type = int_type; linkage = External; puts = Some no_puts }
    ∷ record { object = 1; unit = 0; name = Some (codes "v"); is_text = false; type = ty (record_type 0) false; linkage = External; puts = Some no_puts }
    ∷ record {
      object = 2;
      unit = 0;
      name = None;
      is_text = true;
      type = ty (array (ty (basic Char) false) (Some 3)) false;
      linkage = Nothing;
      puts = Some (more_puts (char_put 0 (pos 97)) (more_puts (char_put 1 (pos 98)) (more_puts (char_put 2 (pos 0)) no_puts)));
    } ∷ []

abbrev calls_both : CStmt
calls_both = stmt here [] (block (more_stmts (stmt here [] (expression (Some (expr int_type here (call 0 no_exprs)))))
    (more_stmts (stmt here [] (expression (Some (expr int_type here (call 0 (more_exprs (number (pos 65)) no_exprs)))))) no_stmts)))

abbrev main_function : CFun
main_function = record {
  function = 1;
  name = codes "main";
  unit = 0;
  linkage = External;
  type = ty (function int_type (listed no_types) false) false;
  params = [];
  body = calls_both;
}

abbrev s_record : CRecord
s_record = record {
  number = 0;
  tag = Some (codes "s");
  is_union = false;
  members = record { name = Some (codes "b"); type = int_type; bits = Some 3 } ∷ record { name = Some (codes "n"); type = int_type; bits = None } ∷ [];
}

abbrev program : CProgram
program = record {
  types = record {
    records = Some s_record ∷ [];
    record_tags = record { tag = Some (codes "s"); is_union = false } ∷ [];
    record_units = 0 ∷ [];
    enums = [];
    enum_units = [];
  };
  objects = objects;
  functions = main_function ∷ [];
  externals = record { function = 0; name = codes "putchar"; linkage = External; type = ty (function int_type (listed (more_types int_type no_types)) false) false } ∷ [];
  orders = record { things = a_function 0 ∷ an_object 0 ∷ an_object 1 ∷ a_function 1 ∷ []; completed = 0 ∷ [] } ∷ [];
}

abbrev named : NamedProgram
named = record { program = program; module_names = codes "a" ∷ [] }

-- a bit-field stands in bytes, which are named beside the members
s_item : record_items named 0 ≡ RecordItem (record {
  align = None;
  is_union = false;
  name = codes "s";
  fields = record { name = codes "bits"; ty = Array (Integer U8) 1 } ∷ record { name = codes "n"; ty = Integer I32 } ∷ [];
}) ∷ []
unfolding digits reserved keywords path_words layouts_of struct_end struct_step
s_item = refl

-- a name that isn't the symbol exports it; a text begins as its list
static_objects : static_items named 0
    ≡ StaticItem (record { attribute = ExportName (codes "self"); name = codes "self_0"; ty = Integer I32; values = None })
    ∷ StaticItem (record { attribute = NoMangle; name = codes "v"; ty = Record (codes "a") (codes "s"); values = None })
    ∷ StaticItem (record { attribute = Mangled; name = codes "lit"; ty = Array (Integer I8) 3; values = Some (pos 97 ∷ pos 98 ∷ pos 0 ∷ []) }) ∷ []
unfolding digits reserved keywords path_words
static_objects = refl

-- one external function with two lists
outer_functions : outers_of named 0
    ≡ record { link_name = None; name = codes "putchar"; params = Integer I32 ∷ []; variadic = false; result = Some (Integer I32) }
    ∷ record { link_name = Some (codes "putchar"); name = codes "putchar_0"; params = []; variadic = false; result = Some (Integer I32) } ∷ []
unfolding digits reserved keywords path_words
outer_functions = refl

-- `main`, with a temporary
main_tree : function_tree named main_function (record { temporaries = Integer I32 ∷ []; has_dispatch = false; statements = no_statements })
    ≡ record {
      attribute = Mangled;
      name = codes "main_0";
      params = [];
      result = Some (Integer I32);
      locals = record { name = codes "t"; ty = Integer I32 } ∷ [];
      body = no_statements;
    }
unfolding digits reserved keywords path_words
main_tree = refl
