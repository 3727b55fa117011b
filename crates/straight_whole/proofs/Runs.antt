-- The run of a written crate, as the initialiser's stores, and then the body of `main_0`. How deep calls may be nested
-- doesn't matter, since neither calls a function of the crate.
use Rattle.std.proofs.Common.{◌≡◌, ℕ, zero, suc, List, [], ◌∷◌, ◌++◌, map, length, Option, Some, None, codes, bytes_eq, false, cond, refl, sym, ap, ◌∙◌, arith}
use Rattle.std.proofs.Math.Path.{fun_ext}
use Rattle.std.proofs.lemmas.Cmp.{nat_list_eq_equiv}
use Rattle.std.proofs.lemmas.List.{append-nil}
use Rattle.std.specs.List.{AllByRecursion}
use Rattle.cr_runs.specs.Runs.{Ran, came, bind, tick}
use Rattle.cr_runs.proofs.Rules.{bind_bind, bind_tick}
use Rattle.straight_core.specs.Trees.{CPut, put, COuter, CProgram}
use Rattle.straight_mean.specs.State.{StaticPut, puts_in}
use Rattle.ext_calls.specs.Outside.{Outside}
use Rattle.straight_lift.proofs.Shown.{bodies_do_not_matter}
use Rattle.straight_lift.specs.Lifted.{Names}
use Rattle.straight_rust_mean.specs.declared.cause.Cause.{Cause}
use Rattle.straight_rust_mean.specs.Functions.{Typed, entered}
use Rattle.straight_rust_mean.specs.Items.{Callee, own, callee_in, callee_at}
use Rattle.straight_rust_mean.specs.Run.{Bodies, Frame, Flow, run_stmt, run_stmts, then_on, frame_of, leave, run_function, bodies_within, call_found, run_main, rs_run, exits, status_of, world_before, seen_of}
use Rattle.straight_rust_mean.specs.World.{World, Run, pure, seq}
use Rattle.straight_rust_tree.specs.Tree.{stmts, FunctionTree, ModuleTree, CrateTree}
use Rattle.straight_whole.specs.Calls.{called_by, functions_of, calls_in_stmt}
use Rattle.straight_whole.specs.CrateOf.{names_of, store_in, main_of_body, initialiser_of, crate_of, static_of, extern_of}
use Rattle.straight_rust_tree.specs.Tree.{defined}
use Rattle.straight_whole.specs.Named.{IsKept, AreNamesKept, AreFresh}
use Rattle.straight_whole.specs.Straight.{IsStraight}
use Rattle.straight_whole.proofs.Bodies.{calls_declared}
use Rattle.straight_whole.proofs.Frames.{images, c_frame, declared, frames_agree}
use Rattle.straight_whole.proofs.Lookups.{filtered, finds_main, finds_initialiser}
use Rattle.straight_whole.proofs.Puts.{written_stores}
use Rattle.straight_whole.proofs.TypedCrate.{typed_body}
use Rattle.std.specs.List.{list_any}
use Rattle.std.proofs.lemmas.List.Elements.{All-head, All-tail}
use Rattle.std.specs.Prelude.{All}

-- ---- stores don't depend on how called functions run

one_store : (names : Names) (frame : Frame) (bodies : Bodies) (number : ℕ) (stored : CPut) (rest other : Run Flow) (world : World) (units : ℕ) → rest ≡ other →
    seq (run_stmt (record frame { bodies = bodies }) (store_in names number stored)) (then_on rest) world units ≡ seq (run_stmt frame (store_in names number stored)) (then_on other) world units
one_store names frame bodies number (put spot type value) rest other world units same = ap (λ r. seq (run_stmt frame (store_in names number (put spot type value))) (then_on r) world units) same

stores_same : (names : Names) (frame : Frame) (bodies : Bodies) (puts : List StaticPut) (world : World) (units : ℕ) →
    run_stmts (record frame { bodies = bodies }) (stmts (written_stores names puts)) world units ≡ run_stmts frame (stmts (written_stores names puts)) world units
stores_same names frame bodies [] world units = refl
stores_same names frame bodies (one ∷ more) world units =
    one_store names frame bodies one.object one.stored (run_stmts (record frame { bodies = bodies }) (stmts (written_stores names more))) (run_stmts frame (stmts (written_stores names more))) world units
    (fun_ext (λ w. fun_ext (λ u. stores_same names frame bodies more w u)))

-- what holds of all is known of all names
kept_names : (P : List ℕ → Type 0) → ((name : List ℕ) → IsKept name → P name) → (outers : List COuter) → All (λ one. IsKept one.name) outers → AllByRecursion P (map (λ one. one.name) outers)
kept_names P implied [] all = tt
kept_names P implied (first ∷ others) all =
    (implied first.name (All-head (λ (one : COuter). IsKept one.name) first others all), kept_names P implied others (All-tail (λ (one : COuter). IsKept one.name) first others all))

module _ (program : CProgram) (straight : IsStraight program) (home : List ℕ) (temporaries : List (List ℕ)) (kept : AreNamesKept program) (fresh : AreFresh program straight.main.body temporaries) where
  abbrev whole : CrateTree
  whole = crate_of program straight.main.body home temporaries

  abbrev pub main_function : FunctionTree
  main_function = main_of_body program straight.main.body home temporaries

  abbrev pub initialiser : FunctionTree
  initialiser = initialiser_of program home

  abbrev pub still : Bodies
  still = bodies_within whole 0

  -- the call of `main_0`, and the end of the program
  abbrev pub ends : Option Typed → Run (Unit {0})
  ends given = exits (status_of given)

  abbrev pub enters : Bodies → World → ℕ → Ran Cause World (Option Typed)
  enters bodies world = run_function whole bodies main_function [] world

  abbrev pub calls_main : Bodies → World → ℕ → Ran Cause World (Unit {0})
  calls_main bodies world units = bind (tick world (enters bodies world) units) ends

  -- what stands behind the stores of the initialiser
  abbrev pub behind : Bodies → Flow → Run (Unit {0})
  behind bodies flow world = calls_main bodies world

  abbrev pub starts : Bodies → World → ℕ → Ran Cause World (Unit {0})
  starts bodies world = tick world (λ units. bind (run_function whole bodies initialiser [] world units) (λ given. calls_main bodies))

  -- ---- the program calls both

  abbrev unit : ModuleTree
  unit = record {
    name = home;
    items = map static_of program.objects ++ (extern_of (called_by program 0) ++ defined main_function ∷ defined initialiser ∷ []);
  }

  in_module : (x : List ℕ) → callee_in x (Some unit) ≡ callee_at whole home x
  in_module x = sym (ap (λ same. callee_in x (cond same (Some unit) None)) (nat_list_eq_equiv.refl home))

  no_call_named : (name : List ℕ) → ((other : List ℕ) → IsKept other → bytes_eq other name ≡ false) → AllByRecursion (λ other. bytes_eq other name ≡ false) (map (λ one. one.name) (called_by program 0))
  no_call_named name apart =
      filtered (λ other. bytes_eq other name ≡ false) (λ (one : COuter). one.name) (λ outer. list_any (λ one. calls_in_stmt outer.function one.body) (functions_of program 0)) program.externals
      (kept_names (λ other. bytes_eq other name ≡ false) apart program.externals kept.externals)

  main_found : callee_in (codes "main_0") (Some unit) ≡ Some (own main_function)
  main_found = in_module (codes "main_0") ∙ finds_main program straight.main.body home temporaries (no_call_named (codes "main_0") (λ other is. is.not_entry))

  initialiser_found : callee_in (codes "run_static_initializers") (Some unit) ≡ Some (own initialiser)
  initialiser_found = in_module (codes "run_static_initializers") ∙ finds_initialiser program straight.main.body home temporaries (no_call_named (codes "run_static_initializers") (λ other is. is.not_initialiser))

  abbrev nothing : Run (Unit {0})
  nothing = pure tt

  abbrev runs : Bodies → Option Callee → Option Callee → Run (Unit {0})
  runs bodies first second = seq (seq (call_found bodies [] first) (λ _. nothing)) (λ _. seq (call_found bodies [] second) ends)

  run_is : (bodies : Bodies) (world : World) (units : ℕ) → run_main whole bodies world units ≡ runs bodies (Some (own initialiser)) (Some (own main_function)) world units
  run_is bodies world units =
      ap (λ found. runs bodies found (callee_in (codes "main_0") (Some unit)) world units) initialiser_found
      ∙ ap (λ found. runs bodies (Some (own initialiser)) found world units) main_found

  run_starts : (bodies : Bodies) (world : World) (units : ℕ) → run_main whole (run_function whole bodies) world units ≡ starts bodies world units
  run_starts bodies world units =
      run_is (run_function whole bodies) world units
      ∙ bind_bind (tick world (run_function whole bodies initialiser [] world) units) (λ given after rest. came tt after rest) (λ _. calls_main bodies)
      ∙ bind_tick world (run_function whole bodies initialiser [] world) (λ given. calls_main bodies) units

  -- ---- how called functions run doesn't matter

  initialiser_same : (one other : Bodies) (world : World) → run_function whole one initialiser [] world ≡ run_function whole other initialiser [] world
  initialiser_same one other world =
      fun_ext (λ units. ap (λ r. bind r (leave (length world.memory) initialiser)) (stores_same (names_of program home []) (frame_of whole other initialiser world) one (puts_in program.objects) (entered initialiser [] world) units))

  main_same : (one other : Bodies) (world : World) → enters one world ≡ enters other world
  main_same one other world =
      let frame = frame_of whole other main_function world in
      let typed = typed_body program straight in
      fun_ext (λ units. ap (λ r. bind r (leave (length world.memory) main_function))
      (bodies_do_not_matter program (names_of program home temporaries) (images program straight home temporaries kept fresh) (c_frame program straight home temporaries kept fresh) frame 0 (declared program straight home temporaries kept fresh)
      typed.result straight.main.body 0 one (entered main_function [] world) units
      (frames_agree program straight home temporaries kept fresh frame 0 refl refl (omega arith) (λ block number is. absurd (omega (arith, is)))) typed.typed (calls_declared straight.main.body)))

  calls_same : (one other : Bodies) → calls_main one ≡ calls_main other
  calls_same one other = fun_ext (λ world. ap (λ run. λ units. bind (tick world run units) ends) (main_same one other world))

  starts_same : (one other : Bodies) (world : World) → starts one world ≡ starts other world
  starts_same one other world =
      ap (λ run. tick world (λ units. bind (run units) (λ given. calls_main one))) (initialiser_same one other world)
      ∙ ap (λ calls. tick world (λ units. bind (run_function whole other initialiser [] world units) (λ given. calls))) (calls_same one other)

  -- the run of the crate
  pub same_target : (answers : Outside) (units : ℕ) → rs_run whole answers units ≡ seen_of (starts still (world_before whole answers) units)
  same_target answers zero = ap seen_of (run_is still (world_before whole answers) 0)
  same_target answers (suc units) =
      ap seen_of (run_starts (bodies_within whole units) (world_before whole answers) (suc units)
      ∙ ap (λ run. run (suc units)) (starts_same (bodies_within whole units) still (world_before whole answers)))

  -- ---- the stores of the initialiser

  pub opens : (world : World) (units : ℕ) → bind (run_function whole still initialiser [] world units) (λ given. calls_main still)
      ≡ bind (run_stmts (frame_of whole still initialiser world) (stmts (written_stores (names_of program home []) (puts_in program.objects))) world units) (behind still)
  opens world units =
      bind_bind (run_stmts (frame_of whole still initialiser world) (stmts (written_stores (names_of program home []) (puts_in program.objects))) (entered initialiser [] world) units) (leave (length world.memory) initialiser) (λ given. calls_main still)
      ∙ ap (λ memory. bind (run_stmts (frame_of whole still initialiser world) (stmts (written_stores (names_of program home []) (puts_in program.objects))) (record world { memory = memory }) units) (behind still)) (append-nil world.memory)
