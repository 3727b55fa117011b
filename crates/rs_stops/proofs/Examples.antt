-- Worked examples: a crate with one object runs to its end over a store without limit, and is full over one without room for it.
use Rattle.std.specs.Prelude.{◌≡◌, pos, [], ◌∷◌, Option, Some, None, codes}
use Rattle.std.proofs.Common.{refl}
use Rattle.cr_world.specs.Known.{known_table}
use Rattle.cr_world.specs.World.{trail_of, full}
use Rattle.mem_bytes.specs.Counted.{Limit}
use Rattle.rs_text.specs.declared.attribute.Attribute.TheVariants.{Mangled}
use Rattle.rs_text.specs.declared.integer.IntegerTy.TheVariants.{I32}
use Rattle.rs_text.specs.Tree.{Integer, Array, Literal, Return, stmts, FunctionItem, CrateTree}
use Rattle.rs_mean.specs.Run.{RProgress, ended, stopped, rs_run_on}
use Rattle.rs_mean.specs.World.{pure, fails, ends, seq, takes_unit, local, tells, grants, begins, rounds}

-- fn main_0() -> i32 { let mut x: [i32; 4]; return 0; }
abbrev one_object : CrateTree
one_object = record {
  modules = record {
    name = codes "a";
    items = FunctionItem (record { attribute = Mangled; name = codes "main_0"; params = []; result = Some (Integer I32); locals = record { name = codes "x"; ty = Array (Integer I32) 4 } ∷ []; body = stmts (Return (Some (Literal (pos 0) I32)) ∷ []) })
        ∷ FunctionItem (record { attribute = Mangled; name = codes "run_static_initializers"; params = []; result = None; locals = []; body = stmts [] }) ∷ [];
  } ∷ [];
  entry = 0;
}

abbrev progress_over : Option Limit → RProgress
progress_over limit = (rs_run_on (trail_of limit) one_object (record { answers = [] }) 2).progress

without_limit : progress_over None ≡ ended (pos 0)
unfolding pure fails ends seq takes_unit local tells grants begins rounds known_table
without_limit = refl

-- its 16 bytes are more than the 8 that the store has
without_room : progress_over (Some (record { bytes = 8; blocks = 9 })) ≡ stopped (full 16 8)
unfolding pure fails ends seq takes_unit local tells grants begins rounds known_table
without_room = refl
