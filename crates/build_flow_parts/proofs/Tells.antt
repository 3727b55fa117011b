-- `current_block` is told a node.
use Rattle.std.proofs.Common.{◌≡◌, ℕ, suc, ◌^◌, ◌<◌, pos, false, true, List, [], ◌++◌, map, refl, sym, subst, arith}
use Rattle.std.proofs.lemmas.Int.{ints}
use Rattle.cr_base.specs.declared.scalar.Scalar.{Scalar}
use Rattle.cr_base.specs.declared.scalar.Scalar.TheVariants as scalars
use Rattle.cr_base.specs.Scalar.{IsInRange}
use Rattle.cr_runs.specs.Runs.{Ran, came, bind}
use Rattle.cr_world.specs.World.{World, Stop}
use Rattle.cx_mean.specs.Operands.{Slot, Frame as CFrame}
use Rattle.cx_typed_calls.proofs.Calls.{calls_end_typed}
use Rattle.build_flow_lives.specs.Standing.{Calling, own_slots, Standing}
use Rattle.build_flow_moves.specs.Parts.{objects_in}
use Rattle.lift_does.proofs.Around.{Around, LaterAt}
use Rattle.lift_does.proofs.Temporaries.{StoresTemporary, stores_temporary, reads_temporary}
use Rattle.lift_forms_laws.proofs.Runs.{literal_gives}
use Rattle.lift_forms_laws.specs.Gives.{GivesAt}
use Rattle.lift_stands.proofs.Images.{extends_same}
use Rattle.lift_stands.specs.Worlds.{WorldsStand}
use Rattle.mem_bytes.specs.declared.value.Value.TheVariants.{Whole}
use Rattle.rs_mean.specs.Run.{Flow, normal, breaks, continues, returned, then_on, run_expr, run_stmt}
use Rattle.rs_mean.specs.Values.{typed}
use Rattle.rs_mean.specs.World.{pure, seq}
use Rattle.rs_mean.specs.declared.cause.Cause.{Cause}
use Rattle.rs_mean_frames.proofs.Framed.{all_behave}
use Rattle.rs_mean_frames.specs.Behave.{BodiesBehave}
use Rattle.rs_text.specs.Tree.{Local, Literal, Integer, Read, Assign}
use Rattle.rs_text.specs.declared.integer.IntegerTy.TheVariants.{U32}
use Rattle.build_flow_parts.proofs.After.{stands_behind}
use Rattle.build_flow_parts.proofs.Conditions.{still}
use Rattle.build_flow_parts.proofs.Values.{here_of}
use Rattle.build_flow_parts.specs.Means.{home_in, PartsMean}
use Rattle.build_flow_parts.specs.Tells.{BlockMeans, NodeTold, NodesAreTold}

-- a statement that comes to its end alone does so by itself
one_ran : (ran : Ran (Stop Cause) World Flow) (after : World) (units : ℕ) → bind ran (then_on (pure normal)) ≡ came normal after units → ran ≡ came normal after units
unfolding pure
one_ran (came normal world left) after units is = is
one_ran (came (breaks label) world left) after units is = absurd cc
one_ran (came (continues label) world left) after units is = absurd cc
one_ran (came (returned value) world left) after units is = absurd cc
one_ran ran after units is = absurd cc

in_u32 : (bits node : ℕ) → node < 2 ^ bits → IsInRange (scalars.Whole bits false) (pos node)
in_u32 bits node few = (grind (arith, ints), grind (arith, ints))

module _ (a : Calling) (units steps : ℕ) (mean : PartsMean a.s a.names a.of units steps) (started : WorldsStand a.images a.c_before a.before) (params_are : map (λ (slot : Slot). slot.object) a.params ≡ a.one.params)
    (block : BlockMeans a) (slots : CFrame) (node : ℕ) (c_world world : World) (few : node < 2 ^ 32) (here : Standing a slots c_world world) where
  behave : BodiesBehave a.frame.bodies
  behave = subst BodiesBehave (sym here.inside.frames.bodies) (all_behave a.s.modules)

  abbrev x : Around
  x = record {
    s = a.s;
    names = a.of.names;
    kept = a.names;
    home = home_in a.s a.one (objects_in slots ++ a.one.params);
    c_frame = own_slots a slots;
    frame = a.frame;
    means = mean.means (home_in a.s a.one (objects_in slots ++ a.one.params)) refl;
    apart = mean.apart;
    bodies = behave;
    typed_calls = calls_end_typed a.s.program a.s.statics mean.linked mean.begun;
    units = units;
    steps = steps;
    promise = mean.promise;
  }

  abbrev kind : Scalar
  kind = scalars.Whole 32 false

  stores : StoresTemporary x block.number (Integer U32) kind (Literal (pos node) U32) (Whole (pos node)) here.later c_world world
  stores =
      stores_temporary x block.number (Integer U32) kind (Literal (pos node) U32) (Integer U32) (Whole (pos node)) here.later c_world world
      (here_of a units steps mean started params_are (objects_in slots) slots c_world world refl here) block.kept_is refl (in_u32 32 node few) (literal_gives a.frame world (pos node) U32)

  stored_runs : (k : ℕ) → run_stmt a.frame (Assign (Local (a.of.names.temporary block.number)) (Literal (pos node) U32)) world k ≡ came normal stores.after k
  unfolding seq
  stored_runs k = one_ran (run_stmt a.frame (Assign (Local (a.of.names.temporary block.number)) (Literal (pos node) U32)) world k) stores.after k (stores.comes k)

  later_there : LaterAt x here.later here.later (suc block.number) true [] c_world stores.after c_world stores.after
  later_there = record { extends = extends_same here.later; here = stores.reached.at; temporaries = λ one kept local less kept_is it. refl; lasts = still true [] c_world }

  reads_so : GivesAt a.frame stores.after (Read (Local (a.of.names.temporary block.number))) (Integer U32) (Whole (pos node))
  reads_so =
      reads_temporary x block.number (suc block.number) (Integer U32) kind (Whole (pos node)) here.later here.later true [] c_world stores.after c_world stores.after (omega arith) stores.holds later_there

  pub node_told : NodeTold a slots node c_world world
  node_told = record {
    later = stores.after;
    runs = λ k. subst (λ (name : List ℕ). run_stmt a.frame (Assign (Local name) (Literal (pos node) U32)) world k ≡ came normal stores.after k) block.name_is (stored_runs k);
    stands =
        stands_behind a started mean.apart slots c_world world here here.later stores.reached.own block.number (suc block.number) stores.reached.are_own c_world stores.after stores.reached.keeps stores.reached.at.worlds
        here.inside.scope;
    reads = λ k. subst (λ (name : List ℕ). run_expr a.frame (Read (Local name)) stores.after k ≡ came (typed (Integer U32) (Whole (pos node))) stores.after k) block.name_is (reads_so.runs k);
  }

pub nodes_told : NodesAreTold
nodes_told a units steps mean started params_are block slots node c_world world few here = node_told a units steps mean started params_are block slots node c_world world few here
