-- Statements, bodies and whole programs, as the steps give them under the empty order.
use Rattle.std.proofs.Common.{◌≡◌, ℕ, zero, suc, ℤ, pos, List, [], ◌∷◌, Option, Some, None, Result, Ok, Err, refl, ap, ◌∙◌}
use Rattle.cr_base.specs.declared.rule.URule.{URule}
use Rattle.cr_runs.specs.Runs.{came, halted, bad, out, bind}
use Rattle.straight_core.specs.Linked.{main_of}
use Rattle.straight_core.specs.Trees.{CExpr, expr, CStmt, stmt, CStmtForm, block, expression, returns, CStmts, no_stmts, more_stmts, CObject, CFun, CProgram, place_of}
use Rattle.straight_mean.specs.Leftmost.{CRan, c_value, CFlow, goes_on, goes_out, gave, c_then, c_stmt, c_stmt_form, c_stmts, c_end, c_called, c_stored, c_puts, c_begins}
use Rattle.straight_mean.specs.Laws.{LeftmostIsRun}
use Rattle.straight_mean.specs.Operands.{COperand, Frame, CWorld}
use Rattle.straight_mean.specs.Run.{seen_at, c_after, first_world}
use Rattle.straight_mean.specs.State.{begins, stores, calls_main, reaches, leaves, gives, has_ended, CState, Purpose, to_store, to_drop, to_return, StaticPut, statics_in, puts_in, with_object, with_static, put_step, value_of_put, reaching, evaluating, putting, beginning, entering, status_of, after_step, after_store, calling}
use Rattle.straight_mean.specs.Work.{Work, finished, unfinished, begin, ready, Stepped, stepped, faulted}
use Rattle.straight_mean.proofs.Holes.{IsHole, under, taken, choose_order}
use Rattle.straight_mean.proofs.Reached.{standing, Reaches, reached, reaches_bind, reaches_tick, reaches_from, Shows, shows_bind, shows_tick, shows_bad, shows_ended}
use Rattle.straight_mean.proofs.Values.{value_reaches}

-- ---- full expressions

-- the state in which a full expression is evaluated
abbrev evaluation : Frame → Purpose → Work → CWorld → CState
evaluation frame purpose work world = standing frame (evaluating work purpose) world

after_under : (purpose : Purpose) (frame : Frame) (world : CWorld) (step : Stepped) →
    after_step purpose frame [] world step ≡ under (evaluation frame purpose) frame world step
after_under purpose frame world (stepped work next) = refl
after_under purpose frame world (faulted fault) = refl

expression_hole : (program : CProgram) (frame : Frame) (purpose : Purpose) → IsHole program frame (evaluation frame purpose)
expression_hole program frame purpose = record {
  goes_on = λ type place form world. refl;
  steps = λ type place form world.
      ap (λ (order : List ℕ). after_step purpose frame order world (taken program (unfinished type place form) world))
      (choose_order (ready (unfinished type place form)))
      ∙ after_under purpose frame world (taken program (unfinished type place form) world);
}

expression_reaches : (program : CProgram) (frame : Frame) (purpose : Purpose) (value : CExpr) (world : CWorld) (steps : ℕ) →
    Reaches program steps (evaluation frame purpose (begin frame value) world) (c_value program frame value world steps) (λ one next. evaluation frame purpose (finished one) next)
expression_reaches program frame purpose (expr type place form) world steps =
    value_reaches program frame (evaluation frame purpose) (expression_hole program frame purpose) type place form world steps

-- ---- statements

-- the state behind a statement, where these statements are left
abbrev behind_flow : Frame → List CStmts → CFlow → CWorld → CState
behind_flow frame levels goes_on world = standing frame (reaching levels) world
behind_flow frame levels goes_out world = standing frame leaves world
behind_flow frame levels (gave one) world = standing frame (has_ended (status_of one)) world

then_reaches : (program : CProgram) (frame : Frame) (levels : List CStmts) (rest : CStmts) (others : CWorld → ℕ → CRan CFlow) →
    ((world : CWorld) (steps : ℕ) → Reaches program steps (standing frame (reaching (rest ∷ levels)) world) (others world steps) (behind_flow frame levels)) →
    (flow : CFlow) (world : CWorld) (steps : ℕ) →
    Reaches program steps (behind_flow frame (rest ∷ levels) flow world) (c_then flow others world steps) (behind_flow frame levels)
then_reaches program frame levels rest others reach goes_on world steps = reach world steps
then_reaches program frame levels rest others reach goes_out world steps = reached program steps goes_out world (behind_flow frame levels)
then_reaches program frame levels rest others reach (gave one) world steps = reached program steps (gave one) world (behind_flow frame levels)

mutual
  form_reaches : (program : CProgram) (frame : Frame) (levels : List CStmts) (form : CStmtForm) (world : CWorld) (steps : ℕ) →
      Reaches program steps (standing frame (entering frame levels form) world) (c_stmt_form program frame form world steps) (behind_flow frame levels)
  form_reaches program frame levels (block stmts) world steps = stmts_reach program frame levels stmts world steps
  form_reaches program frame levels (expression value) world steps =
      reaches_bind program steps _ _ _ _ _
      (expression_reaches program frame (to_drop levels) value world steps)
      (λ one next rest. reached program rest goes_on next (behind_flow frame levels))
  form_reaches program frame levels (returns (Some value)) world steps =
      reaches_bind program steps _ _ _ _ _
      (expression_reaches program frame to_return value world steps)
      (λ one next. reaches_tick program (standing frame (gives one) next) next (came (gave one) next) (behind_flow frame levels) refl
      (λ left. reached program left (gave one) next (behind_flow frame levels)))
  form_reaches program frame levels (returns None) world steps = reached program steps goes_out world (behind_flow frame levels)

  stmts_reach : (program : CProgram) (frame : Frame) (levels : List CStmts) (stmts : CStmts) (world : CWorld) (steps : ℕ) →
      Reaches program steps (standing frame (reaching (stmts ∷ levels)) world) (c_stmts program frame stmts world steps) (behind_flow frame levels)
  stmts_reach program frame levels no_stmts world steps = reached program steps goes_on world (behind_flow frame levels)
  stmts_reach program frame levels (more_stmts (stmt place objects form) others) world steps =
      reaches_bind program steps _ _ _ _ _
      (reaches_tick program (standing frame (reaches (stmt place objects form) (others ∷ levels)) world) world (λ left. c_stmt_form program frame form world left) (behind_flow frame (others ∷ levels)) refl
      (λ left. form_reaches program frame (others ∷ levels) form world left) steps)
      (λ flow next rest. then_reaches program frame levels others (λ after left. c_stmts program frame others after left)
      (λ after left. stmts_reach program frame levels others after left) flow next rest)

-- ---- programs

-- the state at the end of a program
abbrev at_end : Frame → ℤ → CWorld → CState
at_end frame status world = standing frame (has_ended status) world

shows_reached : (program : CProgram) (frame : Frame) (steps : ℕ) (state : CState) (piece : CRan ℤ) →
    Reaches program steps state piece (at_end frame) → Shows program steps state piece
shows_reached program frame steps state (came status world left) reach =
    record { seen = ap seen_at reach.goes ∙ (shows_ended program frame status world left).seen }
shows_reached program frame steps state (halted status world) reach = record { seen = reach.goes }
shows_reached program frame steps state (bad fault world) reach = record { seen = reach.goes }
shows_reached program frame steps state (out world) reach = record { seen = reach.goes }

-- the end of the body of `main`
end_reaches : (program : CProgram) (frame : Frame) (flow : CFlow) (world : CWorld) (steps : ℕ) →
    Reaches program steps (behind_flow frame (no_stmts ∷ []) flow world) (c_end flow world steps) (at_end frame)
end_reaches program frame goes_on world steps =
    reaches_tick program (standing frame leaves world) world (came (pos 0) world) (at_end frame) refl
    (λ left. reached program left (pos 0) world (at_end frame)) steps
end_reaches program frame goes_out world steps =
    reaches_tick program (standing frame leaves world) world (came (pos 0) world) (at_end frame) refl
    (λ left. reached program left (pos 0) world (at_end frame)) steps
end_reaches program frame (gave one) world steps = reached program steps (status_of one) world (at_end frame)

body_reaches : (program : CProgram) (frame : Frame) (body : CStmt) (world : CWorld) (steps : ℕ) →
    Reaches program steps (standing frame (reaching (more_stmts body no_stmts ∷ [])) world) (bind (c_stmt program frame body world steps) c_end) (at_end frame)
body_reaches program frame (stmt place objects form) world steps =
    reaches_bind program steps _ _ _ _ _
    (reaches_tick program (standing frame (reaches (stmt place objects form) (no_stmts ∷ [])) world) world (λ left. c_stmt_form program frame form world left) (behind_flow frame (no_stmts ∷ [])) refl
    (λ left. form_reaches program frame (no_stmts ∷ []) form world left) steps)
    (end_reaches program frame)

-- a program without `main` stays before its call
stays_before : (program : CProgram) (frame : Frame) (world : CWorld) → main_of program.functions ≡ None → (steps : ℕ) →
    c_after program steps (standing frame calls_main world) ≡ standing frame calls_main world
stays_before program frame world none zero = refl
stays_before program frame world none (suc steps) =
    ap (λ (found : Option CFun). c_after program steps (standing frame (calling found) world)) none
    ∙ stays_before program frame world none steps

called_shows : (program : CProgram) (frame : Frame) (found : Option CFun) → main_of program.functions ≡ found → (world : CWorld) (steps : ℕ) →
    Shows program steps (standing frame calls_main world) (c_called program frame found world steps)
called_shows program frame None same world steps =
    record { seen = ap seen_at (stays_before program frame world same steps) }
called_shows program frame (Some main) same world steps =
    shows_tick program (standing frame calls_main world) world (λ left. bind (c_stmt program frame main.body world left) c_end) refl
    (λ left. shows_reached program frame left _ _
    (reaches_from program left (standing frame (calling (main_of program.functions)) world) (standing frame (calling (Some main)) world) _ (at_end frame)
    (ap (λ (one : Option CFun). standing frame (calling one) world) same)
    (body_reaches program frame main.body world left))) steps

stored_shows : (program : CProgram) (frame : Frame) (one : StaticPut) (operand : COperand) (more : List StaticPut) (world : CWorld) (outcome : Result CWorld URule) (others : CWorld → ℕ → CRan ℤ) →
    ((next : CWorld) (left : ℕ) → Shows program left (standing frame (putting frame more) next) (others next left)) → (left : ℕ) →
    Shows program left (after_store one more (standing frame (stores one operand more) world) outcome) (c_stored world (place_of (value_of_put one.stored)) outcome others left)
stored_shows program frame one operand more world (Ok next) others shown left = shown next left
stored_shows program frame one operand more world (Err rule) others shown left =
    shows_bad program frame (record { rule = rule; place = place_of (value_of_put one.stored) }) world left

puts_show : (program : CProgram) (frame : Frame) (puts : List StaticPut) (world : CWorld) (steps : ℕ) →
    Shows program steps (standing frame (putting frame puts) world) (c_puts program frame puts world steps)
puts_show program frame [] world steps = called_shows program frame (main_of program.functions) refl world steps
puts_show program frame (one ∷ more) world steps =
    shows_bind program steps _ _ _ _
    (expression_reaches program frame (to_store one more) (value_of_put one.stored) world steps)
    (λ operand next. shows_tick program (standing frame (stores one operand more) next) next
    (c_stored next (place_of (value_of_put one.stored)) (put_step frame one operand next) (λ after left. c_puts program frame more after left)) refl
    (stored_shows program frame one operand more next (put_step frame one operand next) (λ after left. c_puts program frame more after left)
    (λ after left. puts_show program frame more after left)))

begins_show : (program : CProgram) (objects : List CObject) (frame : Frame) (world : CWorld) (steps : ℕ) →
    Shows program steps (standing frame (beginning frame objects (puts_in program.objects)) world) (c_begins program frame objects world steps)
begins_show program [] frame world steps = puts_show program frame (puts_in program.objects) world steps
begins_show program (one ∷ more) frame world steps =
    shows_tick program (standing frame (begins one more) world) world
    (λ left. c_begins program (with_object frame one world) more (with_static one world) left) refl
    (λ left. begins_show program more (with_object frame one world) (with_static one world) left) steps

-- what is seen of a run under the empty order is what the leftmost run as a function shows
pub leftmost_is_run : LeftmostIsRun
leftmost_is_run program answers steps =
    (begins_show program (statics_in program.objects) [] (first_world answers) steps).seen
