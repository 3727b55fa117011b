-- The text of the flow of a body follows the body.
use Rattle.std.proofs.Common.{◌≡◌, ◌∙◌, ℕ, suc, ◌<◌, ◌≤◌, ◌^◌, Bool, true, false, List, [], ◌∷◌, length, map, Option, Some, None, if◌then◌else◌, refl, sym, ap, subst, arith}
use Rattle.std.proofs.lemmas.List.{length-map}
use Rattle.cr_runs.specs.Owes.{Owes, Rests}
use Rattle.cr_runs.proofs.Rules.{values, weaker}
use Rattle.cr_world.specs.World.{World, blocks_of, events_of}
use Rattle.cx_core.specs.Trees.{CFun}
use Rattle.cx_mean.specs.Moves.{reaches}
use Rattle.cx_mean.specs.Operands.{CStop, CValue, Slot, Frame as CFrame}
use Rattle.cx_mean.specs.Paths.{site_at}
use Rattle.cx_mean.specs.State.{bottom_of}
use Rattle.build_flow_lives.proofs.Dying.{same_events, stands_on}
use Rattle.build_flow_lives.specs.Standing.{Calling, Standing, stage_of}
use Rattle.build_flow_moves.specs.Parts.{Stage, AlwaysHere}
use Rattle.build_flow_nodes.specs.Flows.{number_of, node_of, flow_of}
use Rattle.build_flow_numbers.proofs.Nodes.{reached}
use Rattle.build_flow_nodes.specs.Parts.{BodyNames}
use Rattle.build_flow_nodes.specs.Points.{FlowPlace, Placed, same_place}
use Rattle.build_flow_steps.proofs.Along.{goes_along, begins_there}
use Rattle.build_flow_steps.proofs.Positions.{Position, goes_on, has_given, runs_from, run_of_c, At, Back}
use Rattle.emit_rules.specs.Bodies.{emitted}
use Rattle.emit_laws.proofs.Written.{text_is_owed}
use Rattle.emit_laws.specs.LawsText.{IsWritten}
use Rattle.emit_laws.specs.Tells.{CanTell}
use Rattle.flow.specs.Flows.{FlowTree}
use Rattle.lift_calls.specs.Bodies.{Inside, Returned}
use Rattle.lift_calls.specs.Calls.{result_laid, type_in, IsOfItsType, GivesBack}
use Rattle.lift_calls.specs.Frames.{FunctionNames}
use Rattle.lift_calls.specs.Programs.{Setting, c_goes}
use Rattle.lift_stands.specs.Stands.{Images}
use Rattle.lift_stands.specs.Worlds.{WorldsStand}
use Rattle.lift_stands_values.specs.Given.{align_or}
use Rattle.mem_bytes.specs.declared.value.Ptr.{Ptr}
use Rattle.reloop.specs.Shapes.{ShapeTree, has_dispatch}
use Rattle.rs_mean.specs.Run.{Frame, Flow, normal, breaks, continues, returned, run_stmts, given_by}
use Rattle.rs_mean.specs.Values.{Typed}
use Rattle.rs_mean.specs.World.{Run, pure}
use Rattle.rs_mean_frames.proofs.Framed.{all_behave, pieces_behave}
use Rattle.rs_mean_frames.specs.Behave.{BodiesBehave}
use Rattle.rs_text.specs.Tree.{Ty, FunctionTree}
use Rattle.build_flow_laws.specs.Laws.{IsCalled, IsFlowing, TextFollows}
use Rattle.build_flow_laws.proofs.Settled.{settled, settles_owed}

-- a flow gives back the same where its end is a return without value
given_same : (result : Option Ty) (flow : Flow) → given_by result (settled flow) ≡ given_by result flow
given_same (Some ty) normal = refl
given_same (Some ty) (breaks label) = refl
given_same (Some ty) (continues label) = refl
given_same (Some ty) (returned value) = refl
given_same None normal = refl
given_same None (breaks label) = refl
given_same None (continues label) = refl
given_same None (returned value) = refl

-- the number of a place is that of one of a list, or the one behind
number_within : (place : FlowPlace) (list : List Placed) → number_of place list ≤ length list
number_within place [] = omega arith
number_within place (one ∷ others) = by (same_place place one.place) (number_within place others)
  where
    by : (same : Bool) → number_of place others ≤ length others → (if same then 0 else suc (number_of place others)) ≤ suc (length others)
    by true less = omega arith
    by false less = omega (arith, less)

below : (node number many nodes : ℕ) → node ≡ number → number ≤ many → nodes ≡ many → nodes < 2 ^ 32 → node < 2 ^ 32
below node number many nodes is less same few = omega (arith, is, less, same, few)

module _ (s : Setting) (one : CFun) (tree : FunctionTree) (names : FunctionNames) (of : BodyNames) (shape : ShapeTree) (units steps : ℕ) (flowing : IsFlowing s one tree names of shape units steps)
    (images later : Images) (place : Option Ptr) (c_before before : World) (c_frame : CFrame) (frame : Frame) (c_world world : World) (started : WorldsStand images c_before before)
    (params_are : map (λ (slot : Slot). slot.object) c_frame ≡ one.params) (inside : Inside s one names images later place c_before before c_frame frame c_world world) where
  abbrev a : Calling
  a = record { s = s; one = one; tree = tree; names = names; of = of; images = images; place = place; c_before = c_before; before = before; params = c_frame; frame = frame }

  called : IsCalled s one tree names of a
  called = record {
    setting_is = refl;
    one_is = refl;
    tree_is = refl;
    names_is = refl;
    of_is = refl;
    started = started;
    params_are = params_are;
    bodies_are = inside.frames.bodies;
  }

  abbrev stage : Stage
  stage = stage_of a units steps

  behave : BodiesBehave frame.bodies
  behave = subst BodiesBehave (sym inside.frames.bodies) (all_behave s.modules)

  always : AlwaysHere stage
  always = record { same = same_events a started; dies = λ gone kept c_here here standing. stands_on a started gone kept c_here here standing; ends = flowing.ends a called }

  abbrev flow : FlowTree
  flow = flow_of of one.body

  abbrev next : Flow → Run Flow
  next ending = pure (settled ending)

  abbrev Good : CValue → World → Flow → World → Type 0
  Good value c_end ending end = Returned images place (align_or (result_laid s one)) tree.result c_before before frame value c_end ending end

  silent : (ending : Flow) (after : World) → Rests events_of (events_of after) (next ending after 0)
  unfolding pure
  silent ending after = (refl, refl)

  returns_so : (n m : ℕ) (position : Position) (value : Option Typed) (after : World) → n ≤ units → m ≤ steps → Back stage position value after →
      Owes {F = CStop} events_of events_of Good n m (runs_from stage position) (next (returned value) after)
  unfolding pure
  returns_so n m (goes_on move c_end) value after few little back = elim back [ ]
  returns_so n m (has_given given c_end) value after few little back = values events_of events_of Good n m given c_end (returned value) after back

  few_nodes : has_dispatch shape ≡ true → (at : FlowPlace) (node : ℕ) → node ≡ number_of at (reached of one.body) → node < 2 ^ 32
  few_nodes has at node is =
      below node (number_of at (reached of one.body)) (length (reached of one.body)) (length (flow_of of one.body).nodes) is (number_within at (reached of one.body))
      (length-map (reached of one.body) (node_of (reached of one.body))) (flowing.few has)

  can_tell : has_dispatch shape ≡ true → CanTell frame (At stage one.body)
  can_tell has (goes_on move c_end) node after stands =
      let told = flowing.tells has a called stands.slots node c_end after (few_nodes has stands.place node stands.number_is) stands.here in
      record {
        later = told.later;
        runs = told.runs;
        at = record { place = stands.place; slots = stands.slots; at = stands.at; here = told.stands; there = stands.there; number_is = stands.number_is };
        reads = told.reads;
      }
  can_tell has (has_given given c_end) node after stands = elim stands [ ]

  written : IsWritten (run_of_c stage) frame flow shape (At stage one.body) (Back stage) Good units steps next
  written = record {
    bodies = behave;
    fits = flowing.fits;
    closed = flowing.closed;
    along = goes_along stage one.body Good behave always;
    tells = can_tell;
    behind = record { silent = silent; at_end = refl; returns = returns_so };
  }

  standing : Standing a [] c_world world
  standing = record { later = later; inside = inside; apart = flowing.apart c_frame params_are }

  unsettled : (value : CValue) (c_end : World) (ending : Flow) (end : World) → Good value c_end (settled ending) end → Good value c_end ending end
  unsettled value c_end ending end good = record {
    later = good.later;
    stays = good.stays;
    worlds = good.worlds;
    vacant = good.vacant;
    typed = ap type_in (sym (given_same tree.result ending)) ∙ good.typed;
    of_type = subst IsOfItsType (given_same tree.result ending) good.of_type;
    gives = subst (λ (given : Option Typed). GivesBack good.later (blocks_of end) (align_or (result_laid s one)) place value given) (given_same tree.result ending) good.gives;
  }

  pub body_follows :
      Owes events_of events_of Good units steps (c_goes s (reaches one.body (site_at [] (bottom_of one c_frame))) c_world) (run_stmts frame (emitted flow shape) world)
  body_follows =
      weaker events_of events_of (λ value c_end ending end. Good value c_end (settled ending) end) Good unsettled units steps
      (c_goes s (reaches one.body (site_at [] (bottom_of one c_frame))) c_world) (run_stmts frame (emitted flow shape) world)
      (settles_owed Good (run_stmts frame (emitted flow shape)) (pieces_behave.stmts frame behave (emitted flow shape)) (c_goes s (reaches one.body (site_at [] (bottom_of one c_frame))) c_world) world units steps
      (text_is_owed (run_of_c stage) frame flow shape (At stage one.body) (Back stage) Good units steps next written (goes_on (reaches one.body (site_at [] (bottom_of one c_frame))) c_world) world
      (begins_there stage one.body (flowing.parts a called) c_world world standing)))

pub text_follows : TextFollows
text_follows s one tree names of shape units steps flowing images later place c_before before c_frame frame c_world world started params_are inside =
    body_follows s one tree names of shape units steps flowing images later place c_before before c_frame frame c_world world started params_are inside
