-- The written crate behaves as its program.
use Rattle.std.proofs.Common.{◌≡◌, ◌≢◌, ℕ, zero, suc, ◌+◌, ◌<◌, ℤ, Bool, true, false, cond, ◌==◌, List, [], ◌∷◌, ◌++◌, map, length, Option, Some, None, refl, sym, ap, subst, ◌∙◌, ◌⊎◌, inl, inr, arith, rules}
use Rattle.std.specs.Prelude.{All, IsSome}
use Rattle.std.proofs.lemmas.List.Elements.{All-weaker, All-head, All-tail}
use Rattle.cr_runs.specs.Runs.{Ran, came, halted, bad, out, bind, tick}
use Rattle.cr_runs.specs.Owes.{Fails, Backed, Rests, Reached, Owes}
use Rattle.cr_runs.proofs.Rules.{pieces, renamed, below, tick_both, tick_target, bind_bind, bind_tick}
use Rattle.straight_core.specs.Linked.{IsTypedObject, main_of, is_main}
use Rattle.straight_core.specs.Trees.{form_of_type, place_of, CStmt, CFun, CObject, CProgram}
use Rattle.straight_core.specs.Typing.{scalar_of, object_with}
use Rattle.straight_mean.specs.Laws.{in_blocks_from, zeroed_blocks, world_of}
use Rattle.straight_mean.specs.Leftmost.{CRan, CFlow, goes_on, goes_out, gave, c_stmt, c_end, c_called, c_puts, c_begins, c_program, c_value, c_stored}
use Rattle.straight_mean.specs.Operands.{Frame as CFrame, scalar, COperand, CWorld}
use Rattle.straight_mean.specs.State.{StaticPut, puts_in, put_step, value_of_put, status_of}
use Rattle.straight_mean.proofs.Programs.{leftmost_is_run}
use Rattle.ext_calls.specs.Outside.{Outside}
use Rattle.straight_lift.specs.Agrees.{WorldsAgree, StmtsMeet, IsGave, GivesBack}
use Rattle.straight_lift.specs.Lifted.{Names, lift_stmt}
use Rattle.straight_lift.specs.StandsFor.{Images, StandsFor}
use Rattle.straight_lift.proofs.Shown.{statement_is_lifted, bodies_give}
use Rattle.straight_lift.proofs.StandsLemmas.{frame_stands}
use Rattle.mem_bytes.specs.Memory.{Block, Blocks, live_block}
use Rattle.mem_bytes.specs.declared.value.Value.TheVariants.{Whole as Number}
use Rattle.straight_rust_mean.specs.declared.cause.Cause.{Cause}
use Rattle.straight_rust_mean.specs.Functions.{Typed, entered, left, zeroed}
use Rattle.straight_rust_mean.specs.Run.{Frame, Flow, normal, returned, run_stmts, frame_of, leave, run_function, exits, given_by, world_before}
use Rattle.straight_rust_mean.specs.Run as rust
use Rattle.straight_rust_mean.specs.World.{World}
use Rattle.straight_rust_tree.specs.Tree.{stmts, CrateTree}
use Rattle.straight_whole.specs.Calls.{calls_in_stmt}
use Rattle.straight_whole.specs.CrateOf.{names_of, local_of, crate_of}
use Rattle.straight_whole.specs.Named.{AreNamesKept, AreFresh}
use Rattle.straight_whole.specs.Same.{BehavesAs}
use Rattle.straight_whole.specs.Straight.{IsPlainObject, IsStraight}
use Rattle.straight_whole.proofs.Begins.{OwesAll, begins_owe}
use Rattle.straight_whole.proofs.Bodies.{calls_declared, body_returns, enough}
use Rattle.straight_whole.proofs.Frames.{frames_agree, object_is, in_scope, statics_all, temporaries_begin}
use Rattle.straight_whole.proofs.Halves.{c_events, r_events, ends_with, c_ended, NoEnd, safe, gets_as_far}
use Rattle.straight_whole.proofs.Lookups.{statics_are}
use Rattle.straight_whole.proofs.Placed.{placed_at, all_placed}
use Rattle.straight_whole.proofs.Puts.{IsPlaced, ArePlaced, storing, puts_owe}
use Rattle.straight_whole.proofs.Runs.{main_function, initialiser, still, ends, calls_main, behind, starts, same_target, opens}
use Rattle.straight_whole.proofs.Starts.{own_images, many_blocks, begin_alike, stands_itself}
use Rattle.straight_whole.proofs.TypedCrate.{typed_body}
use Rattle.straight_whole.proofs.TypedScope.{all_found}

-- ---- two rules of what one run owes another

-- the program ends on both sides, with one status and at the same events
both_halt : (status other : ℤ) (s : CWorld) (t : World) → status ≡ other → c_events s ≡ r_events t → OwesAll (λ k. halted status s) (λ u. halted other t)
both_halt status other s t same events n m = record {
  safe = λ k is. inr (record { taken = 0; state = s; halts = ap (λ i. halted i s) same; same = events });
  reaches = λ k is. record { taken = 0; state = t; halts = ap (λ i. halted i t) (sym same); same = sym events };
}

-- what holds of each result of the source
abbrev OfResult : {F S A : Type 0} → (A → Type 0) → Ran F S A → Type 0
OfResult P (came value state rest) = P value
OfResult P (halted status state) = Unit {0}
OfResult P (bad fault state) = Unit {0}
OfResult P (out state) = Unit {0}

abbrev Both : {S T A B : Type 0} → (A → Type 0) → (A → S → B → T → Type 0) → A → S → B → T → Type 0
Both P Good a s b t = P a × Good a s b t

module _ {F G S T A B E : Type 0} (events_of : S → E) (events_in : T → E) (Good : A → S → B → T → Type 0) (P : A → Type 0)
    (source : ℕ → Ran F S A) (all : (k : ℕ) → OfResult P (source k)) where
  backed_too : (k : ℕ) (r : Ran G T B) → Backed events_of events_in Good source k r → Backed events_of events_in (Both P Good) source k r
  backed_too k (came value state rest) e =
      record { within = e.within; taken = e.taken; value = e.value; state = e.state; comes = e.comes; good = (subst (OfResult P) (e.comes 0) (all (e.taken + 0)), e.good) }
  backed_too k (halted status state) e = e
  backed_too k (bad fault state) e = e
  backed_too k (out state) e = e

  safe_too : (k : ℕ) (r : Ran G T B) → Fails source ⊎ Backed events_of events_in Good source k r → Fails source ⊎ Backed events_of events_in (Both P Good) source k r
  safe_too k r (inl fails) = inl fails
  safe_too k r (inr backed) = inr (backed_too k r backed)

  reached_too : (target : ℕ → Ran G T B) (k : ℕ) (r : Ran F S A) → OfResult P r → Reached events_of events_in Good target k r → Reached events_of events_in (Both P Good) target k r
  reached_too target k (came value state rest) holds e =
      record { within = e.within; taken = e.taken; value = e.value; state = e.state; comes = e.comes; good = (holds, e.good) }
  reached_too target k (halted status state) holds e = e
  reached_too target k (bad fault state) holds e = tt
  reached_too target k (out state) holds e = e

  with_result : (n m : ℕ) (target : ℕ → Ran G T B) → Owes events_of events_in Good n m source target → Owes events_of events_in (Both P Good) n m source target
  with_result n m target owes = record {
    safe = λ k is. safe_too k (target k) (owes.safe k is);
    reaches = λ k is. reached_too target k (source k) (all k) (owes.reaches k is);
  }

-- ---- blocks behind others

stays_live : (memory blocks : Blocks) (number : ℕ) (block : Block) → live_block memory number ≡ Some block → live_block (memory ++ blocks) number ≡ Some block
stays_live [] blocks number block e = cc
stays_live (one ∷ more) blocks zero block e = e
stays_live (one ∷ more) blocks (suc number) block e = stays_live more blocks number block e

-- what holds of all objects of a list holds of the one with a number
object_among : (P : CObject → Type 0) (list : List CObject) (number : ℕ) (found : Option CObject) → object_with number list ≡ found → All P list → IsSome found → (one : CObject) × (found ≡ Some one) × P one
object_among P [] number found e all some = absurd (search (rules, some, e))
object_among P (first ∷ others) number found e all some = by_test (first.object == number) e (λ f. object_among P others number found f (All-tail P first others all) some)
  where
    by_test : (test : Bool) → cond test (Some first) (object_with number others) ≡ found → (object_with number others ≡ found → (one : CObject) × (found ≡ Some one) × P one) → (one : CObject) × (found ≡ Some one) × P one
    by_test true f rest = (first, sym f, All-head P first others all)
    by_test false f rest = rest f

main_is_first : (main : CFun) (test : Bool) → IsSome (cond test (Some main) None) → cond test (Some main) None ≡ Some main
main_is_first main true some = refl
main_is_first main false some = absurd (search (rules, some))

gives_flow : (r : CRan CFlow) → GivesBack r → OfResult IsGave r
gives_flow (came flow world left) is = is
gives_flow (halted status world) is = tt
gives_flow (bad fault world) is = tt
gives_flow (out world) is = tt

-- the status that an operand gives
status_is : (operand : COperand) (number : ℤ) → operand.value ≡ scalar (Number number) → status_of operand ≡ number
status_is operand number e = ap (λ value. status_of (record { type = operand.type; value = value; marks = operand.marks })) e

-- ---- the program

module _ (program : CProgram) (straight : IsStraight program) (home : List ℕ) (temporaries : List (List ℕ)) (kept : AreNamesKept program) (fresh : AreFresh program straight.main.body temporaries) where
  abbrev tree : CrateTree
  tree = crate_of program straight.main.body home temporaries

  abbrev body : CStmt
  body = straight.main.body

  abbrev names : Names
  names = names_of program home temporaries

  abbrev images : Images
  images = own_images program.objects

  abbrev c_frame : CFrame
  c_frame = in_blocks_from 0 program.objects

  abbrev limit : ℕ
  limit = length temporaries

  abbrev quiet : rust.Bodies
  quiet = still program straight home temporaries kept fresh

  abbrev ending : Option Typed → World → ℕ → Ran Cause World (Unit {0})
  ending = ends program straight home temporaries kept fresh

  abbrev calling : World → ℕ → Ran Cause World (Unit {0})
  calling = calls_main program straight home temporaries kept fresh quiet

  abbrev main_frame : World → Frame
  main_frame world = frame_of tree quiet (main_function program straight home temporaries kept fresh) world

  main_is : main_of program.functions ≡ Some straight.main
  main_is = ap main_of straight.functions ∙ main_is_first straight.main (is_main straight.main) (subst (λ list. IsSome (main_of list)) straight.functions straight.linked.main_defined)

  -- ---- `main`

  abbrev entering : World → World
  entering world = entered (main_function program straight home temporaries kept fresh) [] world

  entered_agree : (c_world : CWorld) (world : World) → WorldsAgree images c_world world → WorldsAgree images c_world (entering world)
  entered_agree c_world world agree = record {
    memories = frame_stands images c_world.memory world.memory agree.memories (world.memory ++ map (λ local. zeroed local.ty) (map local_of temporaries))
        (λ image number block other live mapped here. stays_live world.memory (map (λ local. zeroed local.ty) (map local_of temporaries)) image other here);
    events = agree.events;
    answers = agree.answers;
  }

  apart_from : (world : World) → length world.memory ≡ length program.objects → (block number : ℕ) → number < limit → block < length program.objects → block ≢ length world.memory + number
  apart_from world many block number is within same = absurd (omega (arith, many, within, same))

  abbrev leaving : World → Flow → World → ℕ → Ran Cause World (Option Typed)
  leaving world = leave (length world.memory) (main_function program straight home temporaries kept fresh)

  -- the body gave back a number: both programs end with it
  given_owes : (before : World) (c_flow : CFlow) (c_world : CWorld) (flow : Flow) (world : World) → IsGave c_flow → StmtsMeet images (main_frame before) limit 0 (entering before) c_flow c_world flow world →
      OwesAll (λ k. c_ended (c_end c_flow c_world k)) (λ u. bind (leaving before flow world u) ending)
  given_owes before goes_on c_world flow world is meets = absurd is
  given_owes before goes_out c_world flow world is meets = absurd is
  given_owes before (gave operand) c_world flow world is meets =
      let after = left (length before.memory) (main_function program straight home temporaries kept fresh) world in
      λ n m. renamed c_events r_events NoEnd n m (λ k. halted (status_of operand) c_world) (λ k. c_ended (c_end (gave operand) c_world k)) (λ u. halted meets.flows.0 after) (λ u. bind (leaving before flow world u) ending)
      (λ k. refl) (λ u. ap (λ f. exits (rust.status_of (given_by f)) after u) (sym meets.flows.2))
      (both_halt (status_of operand) meets.flows.0 c_world after (status_is operand meets.flows.0 meets.flows.1) meets.worlds.events n m)

  -- the body, and the end of the program
  abbrev Beside : World → CFlow → CWorld → Flow → World → Type 0
  Beside world = Both IsGave (StmtsMeet images (main_frame world) limit 0 (entering world))

  body_owes : (c_world : CWorld) (world : World) → WorldsAgree images c_world world → length world.memory ≡ length program.objects → (n m : ℕ) →
      Owes c_events r_events (Beside world) n m (c_stmt program c_frame body c_world) (run_stmts (main_frame world) (stmts (lift_stmt names body 0).stmts) (entering world))
  body_owes c_world world agree many n m =
      let typed = typed_body program straight in
      with_result c_events r_events (StmtsMeet images (main_frame world) limit 0 (entering world)) IsGave (c_stmt program c_frame body c_world)
      (λ k. gives_flow (c_stmt program c_frame body c_world k) (bodies_give program c_frame typed.result body c_world k typed.scalar typed.typed (body_returns body straight.body)))
      n m (run_stmts (main_frame world) (stmts (lift_stmt names body 0).stmts) (entering world))
      (statement_is_lifted program names images c_frame (main_frame world) limit (λ k. calls_in_stmt k body) typed.result body 0 c_world (entering world) n m
      straight.linked (frames_agree program straight home temporaries kept fresh (main_frame world) limit refl refl (omega arith) (apart_from world many))
      (entered_agree c_world world agree) (temporaries_begin (main_frame world) temporaries world refl) typed.typed (calls_declared body) (enough program straight home temporaries fresh))

  ends_quietly : (world : World) (flow : Flow) (after : World) → Rests r_events after.events (bind (leaving world flow after 0) ending)
  ends_quietly world flow after = by_status (rust.status_of (given_by flow))
    where
      by_status : (status : Option ℤ) → Rests r_events after.events (exits status (left (length world.memory) (main_function program straight home temporaries kept fresh) after) 0)
      by_status None = refl
      by_status (Some status) = refl

  main_owes : (c_world : CWorld) (world : World) → WorldsAgree images c_world world → length world.memory ≡ length program.objects →
      OwesAll (λ k. c_ended (bind (c_stmt program c_frame body c_world k) c_end)) (λ u. bind (bind (run_stmts (main_frame world) (stmts (lift_stmt names body 0).stmts) (entering world) u) (leaving world)) ending)
  main_owes c_world world agree many n m =
      renamed c_events r_events NoEnd n m
      (λ k. bind (c_stmt program c_frame body c_world k) (λ flow after rest. c_ended (c_end flow after rest))) (λ k. c_ended (bind (c_stmt program c_frame body c_world k) c_end))
      (λ u. bind (run_stmts (main_frame world) (stmts (lift_stmt names body 0).stmts) (entering world) u) (λ flow after rest. bind (leaving world flow after rest) ending)) (λ u. bind (bind (run_stmts (main_frame world) (stmts (lift_stmt names body 0).stmts) (entering world) u) (leaving world)) ending)
      (λ k. sym (bind_bind (c_stmt program c_frame body c_world k) c_end ends_with))
      (λ u. sym (bind_bind (run_stmts (main_frame world) (stmts (lift_stmt names body 0).stmts) (entering world) u) (leaving world) ending))
      (pieces c_events r_events (Beside world) NoEnd (c_stmt program c_frame body c_world) (run_stmts (main_frame world) (stmts (lift_stmt names body 0).stmts) (entering world))
      (λ flow after rest. c_ended (c_end flow after rest)) (λ flow after rest. bind (leaving world flow after rest) ending) n m
      (body_owes c_world world agree many n m) (λ flow after. ends_quietly world flow after)
      (λ c_flow c_after flow after good. given_owes world c_flow c_after flow after good.0 good.1 n m))

  -- the call of `main`, on both sides
  called_owes : (c_world : CWorld) (world : World) → WorldsAgree images c_world world → length world.memory ≡ length program.objects →
      OwesAll (λ k. c_ended (c_called program c_frame (main_of program.functions) c_world k)) (calling world)
  called_owes c_world world agree many n m =
      renamed c_events r_events NoEnd n m
      (tick c_world (λ k. c_ended (bind (c_stmt program c_frame body c_world k) c_end))) (λ k. c_ended (c_called program c_frame (main_of program.functions) c_world k))
      (tick world (λ u. bind (bind (run_stmts (main_frame world) (stmts (lift_stmt names body 0).stmts) (entering world) u) (leaving world)) ending)) (calling world)
      (λ k. sym (bind_tick c_world (λ left. bind (c_stmt program c_frame body c_world left) c_end) ends_with k) ∙ ap (λ main. c_ended (c_called program c_frame main c_world k)) (sym main_is))
      (λ u. sym (bind_tick world (λ u. bind (run_stmts (main_frame world) (stmts (lift_stmt names body 0).stmts) (entering world) u) (leaving world)) ending u))
      (below c_events r_events NoEnd (suc n) (suc m) n m _ _ (omega arith) (omega arith)
      (tick_both c_events r_events NoEnd n m c_world world (λ k. c_ended (bind (c_stmt program c_frame body c_world k) c_end)) (λ u. bind (bind (run_stmts (main_frame world) (stmts (lift_stmt names body 0).stmts) (entering world) u) (leaving world)) ending)
      agree.events (main_owes c_world world agree many n m)))

  -- ---- the stores

  abbrev puts : List StaticPut
  puts = puts_in program.objects

  abbrev first_frame : World → Frame
  first_frame world = frame_of tree quiet (initialiser program straight home temporaries kept fresh) world

  placed_in : (world : World) (number : ℕ) → IsSome (object_with number program.objects) → IsPlaced (names_of program home []) images c_frame (first_frame world) number
  placed_in world number some =
      let found = object_among (λ one. IsSome one.puts) program.objects number (object_with number program.objects) refl (All-weaker IsPlainObject (λ (one : CObject). IsSome one.puts) (λ one is. is.defined) program.objects straight.objects) some in
      let at = in_scope program straight home temporaries kept fresh number found.0 found.1 found.2 in
      placed_at (names_of program home []) images c_frame (first_frame world) number at.0 at.1 (object_is program straight home temporaries kept fresh [] (first_frame world) refl number at.0 at.1)

  are_placed : (world : World) → ArePlaced (names_of program home []) images c_frame (first_frame world) puts
  are_placed world = all_placed program (names_of program home []) images c_frame (first_frame world) (placed_in world) program.objects straight.linked.objects (all_found program.objects)

  -- ---- the whole program

  abbrev first_world : Outside → World
  first_world answers = world_before tree answers

  begin_same : (answers : Outside) → (first_world answers).memory ≡ zeroed_blocks program.objects
  begin_same answers =
      ap (λ statics. map (λ object. zeroed object.ty) statics) (statics_are program body home temporaries)
      ∙ begin_alike home program.objects (All-weaker (IsTypedObject program) (λ (one : CObject). IsSome (scalar_of (form_of_type one.type))) (λ one is. is.scalar) program.objects straight.linked.objects)

  many_begin : (answers : Outside) → length (first_world answers).memory ≡ length program.objects
  many_begin answers = ap length (begin_same answers) ∙ sym (many_blocks program.objects)

  begin_agree : (answers : Outside) → WorldsAgree images (world_of (zeroed_blocks program.objects) answers) (first_world answers)
  begin_agree answers = record {
    memories = subst (StandsFor images (zeroed_blocks program.objects)) (sym (begin_same answers)) (stands_itself program.objects);
    events = refl;
    answers = refl;
  }

  -- without a step nothing is seen of the stores
  waits : (list : List StaticPut) (world : World) → ArePlaced (names_of program home []) images c_frame (first_frame world) list → (c_world : CWorld) →
      c_ended (c_puts program c_frame list c_world 0) ≡ out c_world
  waits [] world placed c_world = ap (λ main. c_ended (c_called program c_frame main c_world 0)) main_is
  waits (one ∷ more) world placed c_world =
      ap (λ stored. c_ended (bind (c_value program c_frame (value_of_put stored) c_world 0) (λ operand w. tick w (c_stored w (place_of (value_of_put stored)) (put_step c_frame one operand w) (λ next rest. c_puts program c_frame more next rest))))) placed.0.0.is

  stores_owe : (answers : Outside) → OwesAll (λ k. c_ended (c_puts program c_frame puts (world_of (zeroed_blocks program.objects) answers) k)) (starts program straight home temporaries kept fresh quiet (first_world answers))
  stores_owe answers n m =
      let world = first_world answers in
      let c_world = world_of (zeroed_blocks program.objects) answers in
      let behind_stores = behind program straight home temporaries kept fresh quiet in
      let silent : (flow : Flow) (after : World) → Rests r_events after.events (behind_stores flow after 0) = λ flow after. refl in
      let storing_here = storing program (names_of program home []) images c_frame (first_frame world) behind_stores silent puts world in
      below c_events r_events NoEnd (suc n) m n m _ _ (omega arith) (omega arith)
      (tick_target c_events r_events NoEnd n m world (λ k. c_ended (c_puts program c_frame puts c_world k)) (λ units. bind (run_function tree quiet (initialiser program straight home temporaries kept fresh) [] world units) (λ given. calling))
      (record { taken = 0; state = c_world; goes = waits puts world (are_placed world) c_world; same = refl })
      (renamed c_events r_events NoEnd n m (λ k. c_ended (c_puts program c_frame puts c_world k)) (λ k. c_ended (c_puts program c_frame puts c_world k)) storing_here (λ units. bind (run_function tree quiet (initialiser program straight home temporaries kept fresh) [] world units) (λ given. calling))
      (λ k. refl) (λ units. sym (opens program straight home temporaries kept fresh world units))
      (puts_owe program (names_of program home []) images c_frame (first_frame world) behind_stores silent puts (are_placed world) c_world world (begin_agree answers)
      (λ c_after after agree many. called_owes c_after after agree (many ∙ many_begin answers)) n m)))

  program_owes : (answers : Outside) (n m : ℕ) → Owes c_events r_events NoEnd n m (λ k. c_ended (c_program program answers k)) (starts program straight home temporaries kept fresh quiet (first_world answers))
  program_owes answers =
      subst (λ objects. OwesAll (λ k. c_ended (c_begins program [] objects (world_of [] answers) k)) (starts program straight home temporaries kept fresh quiet (first_world answers))) (sym (statics_all program straight home temporaries kept fresh))
      (begins_owe program program.objects [] [] answers (starts program straight home temporaries kept fresh quiet (first_world answers)) refl (stores_owe answers))

  -- the crate behaves as the program
  pub behaves : BehavesAs program tree
  behaves = record {
    safe = λ answers. safe program tree answers (starts program straight home temporaries kept fresh quiet (first_world answers)) (leftmost_is_run program answers) (same_target program straight home temporaries kept fresh answers) (program_owes answers);
    gets_as_far = λ answers. gets_as_far program tree answers (starts program straight home temporaries kept fresh quiet (first_world answers)) (leftmost_is_run program answers) (same_target program straight home temporaries kept fresh answers) (program_owes answers);
  }
