-- The initial values of static objects are stored on both sides.
use Rattle.std.proofs.Common.{◌≡◌, ℕ, ℤ, Bool, true, List, [], ◌∷◌, map, length, Option, Some, Result, Ok, Err, refl, sym, ap, subst, ◌∙◌}
use Rattle.std.specs.List.{AllByRecursion, slice_get}
use Rattle.cr_base.specs.declared.refusal.Place.{Place}
use Rattle.cr_runs.specs.Runs.{Ran, came, bind, tick}
use Rattle.cr_runs.specs.Owes.{Rests}
use Rattle.cr_runs.proofs.Rules.{no_meaning, renamed}
use Rattle.straight_core.specs.Trees.{CTy, ty, int, expr, whole, place_of, put, CProgram}
use Rattle.straight_mean.specs.Leftmost.{c_value, c_puts, c_stored}
use Rattle.straight_mean.specs.Nodes.{accessed}
use Rattle.straight_mean.specs.Operands.{Frame as CFrame, CWorld, CFault, constant, designates, designated, rule_of}
use Rattle.straight_mean.specs.State.{StaticPut, put_step, stored_put, value_of_put}
use Rattle.straight_lift.specs.Agrees.{int_scalar, WorldsAgree}
use Rattle.straight_lift.specs.Lifted.{Names}
use Rattle.straight_lift.specs.StandsFor.{Images}
use Rattle.straight_lift.proofs.Silent.{silent_seq, silent_stmts}
use Rattle.straight_lift.proofs.StandsLemmas.{put_stands}
use Rattle.mem_bytes.proofs.Numbered.{blocks_counted}
use Rattle.mem_bytes.specs.Access.{and_then, after_put}
use Rattle.mem_bytes.specs.Memory.{Blocks}
use Rattle.mem_bytes.specs.declared.fault.Fault.{Fault}
use Rattle.mem_bytes.specs.declared.value.Value.TheVariants.{Whole as Number}
use Rattle.straight_rust_mean.specs.declared.cause.Cause.{Cause}
use Rattle.straight_rust_mean.specs.Items.{Spot as RustSpot}
use Rattle.straight_rust_mean.specs.Run.{Frame, Flow, normal, spot_of, store, with_memory, run_stmts, then_on}
use Rattle.straight_rust_mean.specs.World.{World, Run}
use Rattle.straight_rust_tree.specs.Tree.{i32, static_at, Stmt, stmts}
use Rattle.straight_whole.proofs.Begins.{OwesAll, step_alone}
use Rattle.straight_whole.proofs.Halves.{c_events, r_events, c_ended, NoEnd}
use Rattle.straight_whole.specs.CrateOf.{store_in}

-- a put of an object of type `int` as a whole
pub record IsWholePut (one : StaticPut) : Type 0 where
  pub is_const : Bool
  pub type : CTy
  pub place : Place
  pub value : ℤ
  pub is : one.stored ≡ put (record { byte = 0; bit = 0; width = 0 }) (ty int is_const) (expr type place (whole value))

-- an object in scope at the start of a block, whose image is the block that its name stands for
pub record IsPlaced (names : Names) (images : Images) (c_frame : CFrame) (frame : Frame) (object : ℕ) : Type 0 where
  pub block : ℕ
  pub image : ℕ
  pub designates_it : designated c_frame object ≡ designates (record { block = block; offset = 0 })
  pub mapped : slice_get images.blocks block ≡ Some image
  pub spot : spot_of frame (static_at names.home (names.objects object)) ≡ Some (record { block = image; ty = i32 })

-- puts of such objects
abbrev pub ArePlaced : Names → Images → CFrame → Frame → List StaticPut → Type 0
ArePlaced names images c_frame frame puts = AllByRecursion (λ one. IsWholePut one × IsPlaced names images c_frame frame one.object) puts

abbrev pub written_stores : Names → List StaticPut → List Stmt
written_stores names puts = map (λ one. store_in names one.object one.stored) puts

-- what the store of a number shows, on the side of the program
store_step : (c_frame : CFrame) (one : StaticPut) (is : IsWholePut one) (block : ℕ) → designated c_frame one.object ≡ designates (record { block = block; offset = 0 }) → (world : CWorld) →
    put_step c_frame one (constant is.type is.value) world ≡ and_then (accessed (after_put world.memory (record { block = block; offset = 0 }) int_scalar (Number is.value))) (λ memory. Ok (record world { memory = memory }))
store_step c_frame one is block e world =
    ap (λ stored. stored_put (designated c_frame one.object) stored (constant is.type is.value) world) is.is
    ∙ ap (λ target. stored_put target (put (record { byte = 0; bit = 0; width = 0 }) (ty int is.is_const) (expr is.type is.place (whole is.value))) (constant is.type is.value) world) e

-- a store of a number in a place of the crate
abbrev store_to : Option RustSpot → ℤ → World → ℕ → Ran Cause World (Unit {0})
store_to spot value world units = store spot (record { ty = i32; value = Number value }) world units

module _ (program : CProgram) (names : Names) (images : Images) (c_frame : CFrame) (frame : Frame) (behind : Flow → Run (Unit {0}))
    (silent : (flow : Flow) (world : World) → Rests r_events world.events (behind flow world 0)) where
  -- the stores of the crate, and what stands behind them
  abbrev pub storing : List StaticPut → World → ℕ → Ran Cause World (Unit {0})
  storing puts world units = bind (run_stmts frame (stmts (written_stores names puts)) world units) behind

  abbrev pub c_storing : List StaticPut → CWorld → ℕ → Ran CFault CWorld (Unit {0})
  c_storing puts world k = c_ended (c_puts program c_frame puts world k)

  shows_nothing : (puts : List StaticPut) (world : World) → Rests r_events world.events (storing puts world 0)
  shows_nothing puts world = silent_seq (run_stmts frame (stmts (written_stores names puts))) behind (silent_stmts frame (stmts (written_stores names puts))) silent world

  -- one store of the crate
  store_here : (one : StaticPut) (is : IsWholePut one) (image : ℕ) → spot_of frame (static_at names.home (names.objects one.object)) ≡ Some (record { block = image; ty = i32 }) →
      (more : List StaticPut) (world : World) (memory : Blocks) → after_put world.memory (record { block = image; offset = 0 }) int_scalar (Number is.value) ≡ Ok memory →
      (units : ℕ) → storing (one ∷ more) world units ≡ storing more (record world { memory = memory }) units
  store_here one is image spot more world memory e units =
      ap (λ stored. bind (run_stmts frame (stmts (store_in names one.object stored ∷ written_stores names more)) world units) behind) is.is
      ∙ ap (λ s. bind (bind (bind (store_to s is.value world units) (λ _ w u. came normal w u)) (then_on (run_stmts frame (stmts (written_stores names more))))) behind) spot
      ∙ ap (λ outcome. bind (bind (bind (with_memory outcome world units) (λ _ w u. came normal w u)) (then_on (run_stmts frame (stmts (written_stores names more))))) behind) e

  stored_owe : (world : CWorld) (place : Place) (outcome : Result Blocks Fault) (more : List StaticPut) (target : ℕ → Ran Cause World (Unit {0})) →
      ((memory : Blocks) → outcome ≡ Ok memory → OwesAll (c_storing more (record world { memory = memory })) target) →
      OwesAll (λ k. c_ended (c_stored world place (and_then (accessed outcome) (λ memory. Ok (record world { memory = memory }))) (λ next left. c_puts program c_frame more next left) k)) target
  stored_owe world place (Ok memory) more target then n m = then memory refl n m
  stored_owe world place (Err fault) more target then n m = no_meaning c_events r_events NoEnd n m (record { rule = rule_of fault; place = place }) world target

  -- all of them
  pub puts_owe : (puts : List StaticPut) → ArePlaced names images c_frame frame puts → (c_world : CWorld) (world : World) → WorldsAgree images c_world world →
      ((c_after : CWorld) (after : World) → WorldsAgree images c_after after → length after.memory ≡ length world.memory → OwesAll (c_storing [] c_after) (λ units. behind normal after units)) →
      OwesAll (c_storing puts c_world) (storing puts world)
  puts_owe [] placed c_world world agree then = then c_world world agree refl
  puts_owe (one ∷ more) placed c_world world agree then =
      let is = placed.0.0 in
      let at = placed.0.1 in
      let outcome = after_put c_world.memory (record { block = at.block; offset = 0 }) int_scalar (Number is.value) in
      let source : (k : ℕ) → c_ended (tick c_world (c_stored c_world is.place (and_then (accessed outcome) (λ memory. Ok (record c_world { memory = memory }))) (λ next left. c_puts program c_frame more next left)) k) ≡ c_storing (one ∷ more) c_world k =
      λ k. ap (λ step. c_ended (tick c_world (c_stored c_world is.place step (λ next left. c_puts program c_frame more next left)) k)) (sym (store_step c_frame one is at.block at.designates_it c_world)) ∙ ap (λ stored. c_ended (bind (c_value program c_frame (value_of_put stored) c_world k) (λ operand w. tick w (c_stored w (place_of (value_of_put stored)) (put_step c_frame one operand w) (λ next left. c_puts program c_frame more next left))))) (sym is.is) in
      λ n m. renamed c_events r_events NoEnd n m _ (c_storing (one ∷ more) c_world) (storing (one ∷ more) world) (storing (one ∷ more) world) source (λ k. refl)
      (step_alone c_world (c_stored c_world is.place (and_then (accessed outcome) (λ memory. Ok (record c_world { memory = memory }))) (λ next left. c_puts program c_frame more next left)) (storing (one ∷ more) world)
      (subst (λ events. Rests r_events events (storing (one ∷ more) world 0)) (sym agree.events) (shows_nothing (one ∷ more) world))
      (stored_owe c_world is.place outcome more (storing (one ∷ more) world) (λ memory e.
      let put = put_stands 32 true images c_world.memory memory world.memory agree.memories (record { block = at.block; offset = 0 }) at.image at.mapped is.value e in
      λ n2 m2. renamed c_events r_events NoEnd n2 m2 _ _ (storing more (record world { memory = put.0 })) (storing (one ∷ more) world) (λ k. refl)
      (λ units. sym (store_here one is at.image at.spot more world put.0 put.1 units))
      (puts_owe more placed.1 (record c_world { memory = memory }) (record world { memory = put.0 }) (record { memories = put.2; events = agree.events; answers = agree.answers }) (λ c_after after agreed many. then c_after after agreed (many ∙ blocks_counted.put world.memory put.0 (record { block = at.image; offset = 0 }) int_scalar (Number is.value) put.1)) n2 m2)))
      n m)
