-- The statements that are written for statements do what these do.
use Rattle.std.proofs.Common.{◌≡◌, ℕ, Bool, suc, ◌≤◌, List, [], ◌∷◌, ◌++◌, Option, Some, None, refl, sym, ap, subst, ◌∙◌, arith}
use Rattle.cr_runs.proofs.Rules.{values, pieces, renamed, below, weaker, tick_source}
use Rattle.cr_runs.specs.Owes.{Owes, Rests}
use Rattle.cr_runs.specs.Runs.{Ran, came, bind, tick}
use Rattle.straight_core.specs.Linked.{IsLinked}
use Rattle.straight_core.specs.Trees.{CTy, int, form_of_type, expr, CStmt, stmt, CStmtForm, block, expression, returns, CStmts, no_stmts, more_stmts, CProgram}
use Rattle.straight_core.specs.Typing.{IsTypedStmt, IsTypedStmtForm, AreTypedStmts}
use Rattle.straight_mean.proofs.SoundCalls.{scalar_int, unqualified_form, operand_int}
use Rattle.straight_mean.specs.Leftmost.{CRan, c_form, CFlow, goes_on, goes_out, gave, c_then, c_stmt, c_stmt_form, c_stmts}
use Rattle.straight_mean.specs.Operands.{COperand, Frame as CFrame, CWorld}
use Rattle.ext_calls.specs.Outside.{Events}
use Rattle.straight_lift.specs.Agrees.{WorldsAgree, HasTemporaries, FramesAgree, Keeps, Meets, StmtsMeet, StmtCallsOnly, StmtFormCallsOnly, StmtsCallOnly}
use Rattle.straight_lift.specs.declared.atom.Atom.{Atom}
use Rattle.straight_lift.specs.Lifted.{Names, operand_expr, lift_form, lift_stmt, lift_stmt_form, lift_stmts}
use Rattle.straight_lift.specs.StandsFor.{Images}
use Rattle.straight_lift.proofs.Induction.{lifts, next_rises, join_owes, map_owes, rest_silent, given_number, held_number}
use Rattle.straight_lift.proofs.Pieces.{events_of, run_list, run_append, operand_runs, keeps_then, keeps_all, typed}
use Rattle.straight_lift.proofs.Silent.{events_in, silent_stmts}
use Rattle.mem_bytes.specs.declared.value.Value.TheVariants.{Whole as Number}
use Rattle.straight_rust_mean.specs.Functions.{Typed}
use Rattle.straight_rust_mean.specs.Run.{Frame, then_on, Flow, normal, returned}
use Rattle.straight_rust_mean.specs.World.{World, pure}
use Rattle.straight_rust_mean.specs.declared.cause.Cause.{Cause}
use Rattle.straight_rust_tree.specs.Tree.{i32, Stmt, gives, stmts}

-- ---- numbers of temporaries

mutual
  pub stmt_rises : (names : Names) (form : CStmtForm) (from : ℕ) → from ≤ (lift_stmt_form names form from).next
  stmt_rises names (block list) from = stmts_rise names list from
  stmt_rises names (expression (expr t p form)) from = next_rises names t form from
  stmt_rises names (returns None) from = omega arith
  stmt_rises names (returns (Some (expr t p form))) from = next_rises names t form from

  pub stmts_rise : (names : Names) (list : CStmts) (from : ℕ) → from ≤ (lift_stmts names list from).next
  stmts_rise names no_stmts from = omega arith
  stmts_rise names (more_stmts (stmt place objects form) others) from =
      let one = stmt_rises names form from in
      let more = stmts_rise names others (lift_stmt_form names form from).next in
      omega (arith, one, more)

module _ (program : CProgram) (linked : IsLinked program) (names : Names) (images : Images) (c_frame : CFrame) (frame : Frame) (limit : ℕ) (declared : ℕ → Bool)
    (agree : FramesAgree program names images c_frame frame limit declared) where
  -- what a list of written statements owes
  abbrev pub OweStmts : ℕ → World → ℕ → ℕ → (ℕ → CRan CFlow) → (ℕ → Ran Cause World Flow) → Type 0
  OweStmts from before n m source target = Owes events_of events_in (StmtsMeet images frame limit from before) n m source target

  -- a step of the program alone, in front of what the statements do
  step_alone : (from : ℕ) (before world : World) (c_world : CWorld) (source : ℕ → CRan CFlow) (list : List Stmt) (n m : ℕ) → c_world.events ≡ world.events →
      OweStmts from before n m source (run_list frame list world) → OweStmts from before n m (tick c_world source) (run_list frame list world)
  step_alone from before world c_world source list n m same one =
      below events_of events_in (StmtsMeet images frame limit from before) n (suc m) n m (tick c_world source) (run_list frame list world) (omega arith) (omega arith)
      (tick_source events_of events_in (StmtsMeet images frame limit from before) n m c_world source (run_list frame list world)
      (subst (λ (events : Events). Rests events_in events (run_list frame list world 0)) (sym same) (silent_stmts frame (stmts list) world)) one)

  -- a return gives back the number that its operand's atom holds
  return_owes : (from next : ℕ) (atom : Option Atom) (inner : CTy) (before middle : World) (operand : COperand) (c_world : CWorld) (n m : ℕ) →
      form_of_type inner ≡ int → next ≤ limit → Meets images frame limit from next atom inner before operand c_world normal middle →
      OweStmts from before n m (tick c_world (came (gave operand) c_world)) (run_list frame (gives (Some (operand_expr names atom)) ∷ []) middle)
  return_owes from next atom inner before middle operand c_world n m is within meets =
      let given = operand_int inner operand is meets.typed in
      let number = given.is_int.number in
      let value : Typed = typed program names images c_frame frame limit declared agree number in
      let holds = held_number program linked names images c_frame frame limit declared agree next middle atom operand given meets.gives in
      step_alone from before middle c_world (came (gave operand) c_world) (gives (Some (operand_expr names atom)) ∷ []) n m meets.worlds.events
      (renamed events_of events_in (StmtsMeet images frame limit from before) n m (came (gave operand) c_world) (came (gave operand) c_world)
      (came (returned (Some value)) middle) (run_list frame (gives (Some (operand_expr names atom)) ∷ []) middle)
      (λ k. refl)
      (λ k. sym (ap (λ (r : Ran Cause World Typed). bind (bind r (λ one. pure (returned (Some one)))) (then_on (pure normal)))
      (operand_runs program names images c_frame frame limit declared agree next middle atom number within holds k)))
      (values events_of events_in (StmtsMeet images frame limit from before) n m (gave operand) c_world (returned (Some value)) middle (record {
        flows = (number, given_number program linked names images c_frame frame limit declared agree operand given, refl);
        worlds = meets.worlds;
        temporaries = meets.temporaries;
        keeps = meets.keeps;
      })))

  -- what is to be shown of statements
  abbrev pub StmtLifts : CStmtForm → ℕ → CWorld → World → ℕ → ℕ → Type 0
  StmtLifts form from c_world world n m =
      OweStmts from world n m (c_stmt_form program c_frame form c_world) (run_list frame (lift_stmt_form names form from).stmts world)

  abbrev pub StmtsLift : CStmts → ℕ → CWorld → World → ℕ → ℕ → Type 0
  StmtsLift list from c_world world n m =
      OweStmts from world n m (c_stmts program c_frame list c_world) (run_list frame (lift_stmts names list from).stmts world)

  later_keeps : (from next : ℕ) (before middle : World) (c_flow : CFlow) (c_world : CWorld) (flow : Flow) (world : World) → from ≤ next → Keeps images frame from before middle →
      StmtsMeet images frame limit next middle c_flow c_world flow world → StmtsMeet images frame limit from before c_flow c_world flow world
  later_keeps from next before middle c_flow c_world flow world less keeps meets = record {
    flows = meets.flows;
    worlds = meets.worlds;
    temporaries = meets.temporaries;
    keeps = keeps_then program names images c_frame frame limit declared agree from next before middle world less keeps meets.keeps;
  }

  -- what comes behind a statement, by how it came to its end
  behind_owes : (from next : ℕ) (others : CStmts) (before middle : World) (c_flow : CFlow) (c_world : CWorld) (flow : Flow) (n m : ℕ) → from ≤ next →
      StmtsMeet images frame limit from before c_flow c_world flow middle → StmtsLift others next c_world middle n m →
      OweStmts from before n m (c_then c_flow (λ world steps. c_stmts program c_frame others world steps) c_world) (then_on (run_list frame (lift_stmts names others next).stmts) flow middle)
  behind_owes from next others before middle goes_on c_world flow n m less meets rest =
      subst (λ (f : Flow). OweStmts from before n m (c_stmts program c_frame others c_world) (then_on (run_list frame (lift_stmts names others next).stmts) f middle)) (sym meets.flows)
      (weaker events_of events_in (StmtsMeet images frame limit next middle) (StmtsMeet images frame limit from before)
      (λ a s b t met. later_keeps from next before middle a s b t less meets.keeps met) n m (c_stmts program c_frame others c_world) (run_list frame (lift_stmts names others next).stmts middle) rest)
  behind_owes from next others before middle goes_out c_world flow n m less meets rest =
      subst (λ (f : Flow). OweStmts from before n m (came goes_out c_world) (then_on (run_list frame (lift_stmts names others next).stmts) f middle)) (sym meets.flows)
      (values events_of events_in (StmtsMeet images frame limit from before) n m goes_out c_world (returned None) middle
      (record { flows = refl; worlds = meets.worlds; temporaries = meets.temporaries; keeps = meets.keeps }))
  behind_owes from next others before middle (gave operand) c_world flow n m less meets rest =
      let value : Option Typed = Some (record { ty = i32; value = Number meets.flows.0 }) in
      subst (λ (f : Flow). OweStmts from before n m (came (gave operand) c_world) (then_on (run_list frame (lift_stmts names others next).stmts) f middle)) (sym meets.flows.2)
      (values events_of events_in (StmtsMeet images frame limit from before) n m (gave operand) c_world (returned value) middle
      (record { flows = (meets.flows.0, meets.flows.1, refl); worlds = meets.worlds; temporaries = meets.temporaries; keeps = meets.keeps }))

  mutual
    pub lifts_form : (result : CTy) (form : CStmtForm) (from : ℕ) (c_world : CWorld) (world : World) → WorldsAgree images c_world world → HasTemporaries frame limit world →
        IsTypedStmtForm program result form → StmtFormCallsOnly declared form → (lift_stmt_form names form from).next ≤ limit → (n m : ℕ) → StmtLifts form from c_world world n m
    lifts_form result (block list) from c_world world agrees has is only within n m = lifts_stmts result list from c_world world agrees has is only within n m
    lifts_form result (expression (expr t p form)) from c_world world agrees has is only within n m =
        let one = lift_form names t form from in
        map_owes program linked names images c_frame frame limit declared agree (Meets images frame limit from one.next one.value t world) (StmtsMeet images frame limit from world)
        (c_form program c_frame t p form c_world) (λ operand. goes_on) (run_list frame one.stmts world) n m
        (lifts program linked names images c_frame frame limit declared agree t p form from c_world world agrees has is.0 only within n m)
        (λ a s b u meets. record { flows = meets.goes_on; worlds = meets.worlds; temporaries = meets.temporaries; keeps = meets.keeps })
    lifts_form result (returns None) from c_world world agrees has is only within n m =
        values events_of events_in (StmtsMeet images frame limit from world) n m goes_out c_world (returned None) world
        (record { flows = refl; worlds = agrees; temporaries = has; keeps = keeps_all program names images c_frame frame limit declared agree from world })
    lifts_form result (returns (Some (expr t p form))) from c_world world agrees has is only within n m =
        let one = lift_form names t form from in
        let inner : form_of_type t ≡ int = ap (λ (kind : CTy). form_of_type kind) is.2 ∙ (unqualified_form result ∙ scalar_int result is.1) in
        join_owes program linked names images c_frame frame limit declared agree (Meets images frame limit from one.next one.value t world) (StmtsMeet images frame limit from world)
        (c_form program c_frame t p form c_world) (λ operand after. tick after (came (gave operand) after)) one.stmts (gives (Some (operand_expr names one.value)) ∷ []) world n m
        (λ a s b u meets. meets.goes_on)
        (lifts program linked names images c_frame frame limit declared agree t p form from c_world world agrees has is.0 only within n m)
        (λ operand after middle meets. return_owes from one.next one.value t world middle operand after n m inner within meets)

    pub lifts_stmts : (result : CTy) (list : CStmts) (from : ℕ) (c_world : CWorld) (world : World) → WorldsAgree images c_world world → HasTemporaries frame limit world →
        AreTypedStmts program result list → StmtsCallOnly declared list → (lift_stmts names list from).next ≤ limit → (n m : ℕ) → StmtsLift list from c_world world n m
    lifts_stmts result no_stmts from c_world world agrees has is only within n m =
        values events_of events_in (StmtsMeet images frame limit from world) n m goes_on c_world normal world
        (record { flows = refl; worlds = agrees; temporaries = has; keeps = keeps_all program names images c_frame frame limit declared agree from world })
    lifts_stmts result (more_stmts (stmt place objects form) others) from c_world world agrees has is only within n m =
        let one = lift_stmt_form names form from in
        let rises = stmts_rise names others one.next in
        let source : ℕ → CRan CFlow = tick c_world (λ left. c_stmt_form program c_frame form c_world left) in
        let go : CFlow → CWorld → ℕ → CRan CFlow = λ flow after. c_then flow (λ later steps. c_stmts program c_frame others later steps) after in
        renamed events_of events_in (StmtsMeet images frame limit from world) n m (λ k. bind (source k) go) (λ k. bind (source k) go)
        (λ k. bind (run_list frame one.stmts world k) (then_on (run_list frame (lift_stmts names others one.next).stmts))) (run_list frame (one.stmts ++ (lift_stmts names others one.next).stmts) world)
        (λ k. refl) (λ k. sym (run_append frame one.stmts (lift_stmts names others one.next).stmts world k))
        (pieces events_of events_in (StmtsMeet images frame limit from world) (StmtsMeet images frame limit from world) source (run_list frame one.stmts world) go (then_on (run_list frame (lift_stmts names others one.next).stmts)) n m
        (step_alone from world world c_world (c_stmt_form program c_frame form c_world) one.stmts n m agrees.events
        (lifts_form result form from c_world world agrees has is.0.1 only.0 (omega (arith, rises, within)) n m))
        (rest_silent program linked names images c_frame frame limit declared agree (lift_stmts names others one.next).stmts)
        (λ flow after b t meets. behind_owes from one.next others world t flow after b n m (stmt_rises names form from) meets
        (lifts_stmts result others one.next after t meets.worlds meets.temporaries is.1 only.1 within n m)))

  pub lifts_stmt : (result : CTy) (body : CStmt) (from : ℕ) (c_world : CWorld) (world : World) → WorldsAgree images c_world world → HasTemporaries frame limit world →
      IsTypedStmt program result body → StmtCallsOnly declared body → (lift_stmt names body from).next ≤ limit → (n m : ℕ) →
      OweStmts from world n m (c_stmt program c_frame body c_world) (run_list frame (lift_stmt names body from).stmts world)
  lifts_stmt result (stmt place objects form) from c_world world agrees has is only within n m =
      step_alone from world world c_world (c_stmt_form program c_frame form c_world) (lift_stmt_form names form from).stmts n m agrees.events
      (lifts_form result form from c_world world agrees has is.1 only within n m)
