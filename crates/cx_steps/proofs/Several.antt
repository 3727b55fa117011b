-- Several steps of a full expression without an order, as steps of a run.
use Rattle.std.proofs.Common.{◌≡◌, ◌∙◌, refl, sym, ap, arith, inl, inr, ℕ, zero, suc, ◌<◌, ℤ, List, [], Option, Some, None, Result, Ok}
use Rattle.std.proofs.lemmas.Bool.{cases_lt}
use Rattle.cr_world.specs.World.{World, with_memory}
use Rattle.cx_eval.specs.declared.step.Last.{Last}
use Rattle.cx_eval.specs.declared.step.Next.{Next}
use Rattle.cx_eval.specs.declared.step.Next.TheVariants as next
use Rattle.cx_eval.specs.Next.{Takes}
use Rattle.cx_eval.specs.Several.{Goes}
use Rattle.cx_machine.specs.Answers.{held_work}
use Rattle.cx_machine.specs.declared.machine.Control.{Control}
use Rattle.cx_machine.specs.declared.machine.Control.TheVariants as control
use Rattle.cx_machine.specs.declared.machine.Machine.{Machine}
use Rattle.cx_machine.specs.declared.stop.Stop.{Stop}
use Rattle.cx_machine.specs.Machines.{control_in, values_in, view_machine}
use Rattle.cx_machine.specs.Steps.{Advances}
use Rattle.cx_mean.specs.Moves.{CPurpose}
use Rattle.cx_mean.specs.Operands.{Frame}
use Rattle.cx_mean.specs.Run.{going, progress_at, c_after}
use Rattle.cx_mean.specs.Settings.{CSetting}
use Rattle.cx_mean.specs.State.{CState, after_step, at_control, c_step, evaluates, evaluating, frame_for, going_on}
use Rattle.cx_mean.specs.Steps.{CPick, CStepped, did, step_at}
use Rattle.cx_mean.specs.Work.{CWork, finished, needs, chooses, tests, carries, updates, fills, waits, ready}
use Rattle.cx_moves.specs.declared.moves.Purpose.{Purpose}
use Rattle.cx_moves.specs.Sites.{view_purpose, view_site}
use Rattle.cx_outside.specs.States.{Around, KeptState, around, world_at}
use Rattle.cx_steps.specs.Choices.{scope_frame, stands_in_body}
use Rattle.cx_steps.specs.Picks.{Follows, HasGone, evaluating_in}
use Rattle.cx_steps.specs.Several.{GoesBy, AdvancesBy}
use Rattle.cx_steps.proofs.Advancing.{quiet_at}
use Rattle.cx_steps.proofs.Evaluated.{first_picked, followed, frame_is}
use Rattle.cx_work.specs.declared.work.Work.{Work}
use Rattle.cx_work.specs.Views.{view_work}
use Rattle.ext_calls.specs.declared.call.Made.{Made}
use Rattle.ext_calls.specs.Host.{HostState}
use Rattle.mem_bytes.specs.Counted.{Limit}
use Rattle.mem_bytes.specs.Memory.{Blocks}

-- ---- a run that is held goes on

going_work : (work : CWork) (purpose : CPurpose) → progress_at (evaluating work purpose) ≡ going
going_work (finished operand) purpose = refl
going_work (needs node operands) purpose = refl
going_work (chooses node first) purpose = refl
going_work (tests node marks second) purpose = refl
going_work (carries node marks part) purpose = refl
going_work (updates node update stage marks) purpose = refl
going_work (fills node marks one others value) purpose = refl
going_work (waits node marks) purpose = refl

going_values : (work : Option Work) (purpose : CPurpose) → progress_at (values_in work purpose) ≡ going
going_values None purpose = refl
going_values (Some work) purpose = going_work (view_work work) purpose

going_in : (machine : Machine) (one : Control) → progress_at (control_in machine one) ≡ going
going_in machine (control.Begins one others) = refl
going_in machine (control.Moves move) = refl
going_in machine (control.Values purpose) = going_values machine.work _
going_in machine (control.Takes callee params) = refl

pub goes_on : (machine : Machine) (world : World) → progress_at (view_machine machine world).control ≡ going
goes_on machine world = going_in machine machine.control

-- ---- trees with a ready node

-- where a node is ready the tree isn't finished
going_unfinished : (state : CState) (world : World) (work : CWork) (purpose : CPurpose) → 0 < ready work → going_on state world work purpose ≡ at_control state world (evaluates work purpose)
going_unfinished state world (finished operand) purpose more = absurd (omega (arith, more))
going_unfinished state world (needs node operands) purpose more = refl
going_unfinished state world (chooses node first) purpose more = refl
going_unfinished state world (tests node marks second) purpose more = refl
going_unfinished state world (carries node marks part) purpose more = refl
going_unfinished state world (updates node update stage marks) purpose more = refl
going_unfinished state world (fills node marks one others value) purpose more = refl
going_unfinished state world (waits node marks) purpose more = refl

-- a node is ready where a step is taken
ready_for : (which : Next) (setting : CSetting) (frame : Frame) (before later : Blocks) (work left : CWork) → Takes (Ok which) setting frame before later 0 work left → 0 < ready work
ready_for next.Stepped setting frame before later work left takes = takes.0
ready_for (next.Calls called) setting frame before later work left takes = takes.0
ready_for (next.Undefined rule place) setting frame before later work left takes = takes.0

-- ---- its steps without an order

module _ (setting : CSetting) (old : Machine) (one : Purpose) (none_left : old.order.now ≡ []) (kept : KeptState) (limit : Option Limit) (host : HostState) where
  abbrev purpose_in : CPurpose
  purpose_in = view_purpose (view_site old.site) one

  abbrev frame_in : Frame
  frame_in = scope_frame old (stands_in_body one)

  abbrev at_tree : CWork → World → CState
  at_tree work world = evaluating_in (view_machine old world) work purpose_in

  abbrev in_memory : Blocks → Around
  in_memory blocks = around kept blocks limit host

  -- one of them, behind which the tree isn't finished
  one_goes : (work left : CWork) (memory later : Blocks) (made : List Made) (ahead : List ℤ) → 0 < ready left → step_at setting frame_in memory 0 work ≡ Ok (did left later) →
      c_step setting (at_tree work (world_at (in_memory memory) made ahead)) ≡ at_tree left (world_at (in_memory later) made ahead)
  one_goes work left memory later made ahead more is =
      let here : World = world_at (in_memory memory) made ahead in
      let there : CState = at_tree work here in
      ap (λ (choice : CPick). after_step setting (record there { order = choice.order }) purpose_in (step_at setting (frame_for there purpose_in) memory choice.pick work)) (first_picked old.order.now (ready work) none_left)
      ∙ ap (λ (frame : Frame). after_step setting there purpose_in (step_at setting frame memory 0 work)) (frame_is old one there refl)
      ∙ ap (λ (found : CStepped). after_step setting there purpose_in found) is
      ∙ going_unfinished there (with_memory later here) left purpose_in more

  all_go : (count : ℕ) (before memory : Blocks) (work mid : CWork) → Goes setting frame_in count before work memory mid → 0 < ready mid → (made : List Made) (ahead : List ℤ) →
      c_after setting count (at_tree work (world_at (in_memory before) made ahead)) ≡ at_tree mid (world_at (in_memory memory) made ahead)
  all_go zero before memory work mid goes more made ahead =
      ap (λ (tree : CWork). at_tree tree (world_at (in_memory before) made ahead)) (sym goes.1) ∙ ap (λ (blocks : Blocks). at_tree mid (world_at (in_memory blocks) made ahead)) (sym goes.0)
  all_go (suc count) before memory work mid goes more made ahead =
      ap (λ (state : CState). c_step setting state) (all_go count before goes.0 work goes.1 goes.2 goes.3 made ahead) ∙ one_goes goes.1 mid goes.0 memory made ahead more goes.4

  all_went_on : (count : ℕ) (before memory : Blocks) (work mid : CWork) → Goes setting frame_in count before work memory mid → (made : List Made) (ahead : List ℤ) (fewer : ℕ) → fewer < count →
      progress_at (c_after setting fewer (at_tree work (world_at (in_memory before) made ahead))).control ≡ going
  all_went_on zero before memory work mid goes made ahead fewer less = absurd (omega (arith, less))
  all_went_on (suc count) before memory work mid goes made ahead fewer less = elim (cases_lt fewer count) [
    | inl below ↦ all_went_on count before goes.0 work goes.1 goes.2 made ahead fewer below
    | inr beyond ↦
        let same : fewer ≡ count = omega (arith, less, beyond) in
        ap (λ (n : ℕ). progress_at (c_after setting n (at_tree work (world_at (in_memory before) made ahead))).control) same
        ∙ ap (λ (state : CState). progress_at state.control) (all_go count before goes.0 work goes.1 goes.2 goes.3 made ahead)
  ]

  goes_by : (count : ℕ) (before memory : Blocks) (work mid : CWork) → Goes setting frame_in count before work memory mid → 0 < ready mid →
      GoesBy setting count (at_tree work) (at_tree mid) (in_memory before) (in_memory memory)
  goes_by count before memory work mid goes more = record {
    quiet = quiet_at kept before memory limit limit host refl;
    goes = all_go count before memory work mid goes more;
    went_on = all_went_on count before memory work mid goes;
    goes_on = λ world. refl;
    stands_in = λ world. refl;
  }

  -- steps up to one, and what follows behind that
  pub went_by : (mid : Machine) (before later : Blocks) (mid_limit : Option Limit) (most : ℕ) (last : Last) (result : Result (Unit {0}) Stop) (state : World → CState) (after : Around) → mid_limit ≡ limit →
      HasGone (Ok last) setting old mid one before later most → Follows last.next result setting mid one state (around kept later mid_limit host) after →
      AdvancesBy setting most last.before (at_tree (held_work old.work)) result state (in_memory before) after
  went_by mid before later mid_limit most last result state after limit_is has follows =
      let memory : Blocks = has.takes.1 in
      let tree : CWork = has.takes.2 in (
        has.takes.0,
        at_tree tree,
        in_memory memory,
        goes_by last.before before memory (held_work old.work) tree has.takes.3 (ready_for last.next setting frame_in memory later tree (held_work mid.work) has.takes.4),
        followed setting old mid one (evaluates tree purpose_in) tree (record { pick = 0; order = old.order.now }) (first_picked old.order.now (ready tree) none_left)
            has.order has.site has.statics has.callers result state kept memory later limit mid_limit host limit_is after last.next has.takes.4 follows,
      )

-- ---- none but one

pub none_before : (setting : CSetting) (most : ℕ) (first : World → CState) (result : Result (Unit {0}) Stop) (state : World → CState) (before after : Around) → 0 < most →
    ((world : World) → progress_at (first world).control ≡ going) → ((world : World) → (first world).world ≡ world) →
    Advances (λ world. c_step setting (first world)) result state before after → AdvancesBy setting most 0 first result state before after
none_before setting most first result state before after some goes stands advances = (
  some,
  first,
  before,
  record {
    quiet = record { trail = refl; made = refl; left = refl; limit = refl; takes = refl; later = omega arith };
    goes = λ made ahead. refl;
    went_on = λ made ahead fewer less. absurd (omega (arith, less));
    goes_on = goes;
    stands_in = stands;
  },
  advances,
)
