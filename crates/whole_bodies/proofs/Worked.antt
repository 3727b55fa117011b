-- Worked examples: whole crates, by the text of their modules and whether they are well typed.
use Rattle.std.specs.Prelude.{◌≡◌, ℕ, pos, true, false, List, [], ◌∷◌, Some, codes, refl}
use Rattle.std.specs.Fmt.{digits}
use Rattle.cx_core.specs.Trees.{ty, function, CParams, listed, no_types, more_types, CTy, CExpr, stmt, block, returns, no_stmts, more_stmts, no_types_yet, CFun, CKey, a_function, CDeclaredOrder, CProgram}
use Rattle.cx_core.specs.declared.program.Linkage.TheVariants.{External}
use Rattle.lift_held.specs.Example.{at, int, number, call_of}
use Rattle.cr_world.specs.Known.{known_table}
use Rattle.reloop.specs.Shapes.{simple}
use Rattle.rs_items_sets.specs.Names.{reserved}
use Rattle.rs_mean.specs.Typing.{well_typed}
use Rattle.rs_text.specs.Names.{keywords, path_words}
use Rattle.rs_text.specs.Tree.{CrateTree}
use Rattle.whole_bodies.specs.Crates.{crate_of}

abbrev taking : CParams → CTy
taking params = ty (function int params false) false

-- a function that just returns
abbrev giving : (number unit : ℕ) → List ℕ → CExpr → CFun
giving number unit name e = record {
  function = number;
  name = name;
  unit = unit;
  linkage = External;
  type = taking (listed no_types);
  params = [];
  body = stmt at [] (block (more_stmts (stmt at [] (returns (Some e))) no_stmts));
}

abbrev order : List CKey → CDeclaredOrder
order things = record { things = things; completed = [] }

-- each body has one node
abbrev whole : CProgram → List (List ℕ) → CrateTree
whole program names = crate_of program names (λ graph. simple 0)

-- `int main(void) { return 42; }`
abbrev returning : CProgram
returning = record { types = no_types_yet; objects = []; functions = giving 0 0 (codes "main") (number (pos 42)) ∷ []; externals = []; orders = order (a_function 0 ∷ []) ∷ [] }

returning_is_typed : well_typed (whole returning (codes "a" ∷ [])) ≡ true
unfolding digits reserved keywords path_words known_table
returning_is_typed = refl

-- `int putchar(int); int g(void); int main(void) { return g(); }`, and `int putchar(int); int g(void) { return putchar(65); }`
abbrev two_units : CParams → CProgram
two_units params = record {
  types = no_types_yet;
  objects = [];
  functions = giving 0 0 (codes "main") (call_of int 1 []) ∷ giving 1 1 (codes "g") (call_of int 2 (number (pos 65) ∷ [])) ∷ [];
  externals = record { function = 2; name = codes "putchar"; linkage = External; type = taking params } ∷ [];
  orders = order (a_function 2 ∷ a_function 1 ∷ a_function 0 ∷ []) ∷ order (a_function 2 ∷ a_function 1 ∷ []) ∷ [];
}

two_are_typed : well_typed (whole (two_units (listed (more_types int no_types))) (codes "a" ∷ codes "b" ∷ [])) ≡ true
unfolding digits reserved keywords path_words known_table
two_are_typed = refl
