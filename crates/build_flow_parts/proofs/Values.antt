-- Full expressions whose values are dropped, conditions, and operands of `switch`.
use Rattle.std.proofs.Common.{◌≡◌, ◌∙◌, inl, ℕ, ◌≤◌, Bool, true, false, not, List, ◌++◌, map, refl, sym, ap, subst}
use Rattle.cr_runs.specs.Owes.{Owes}
use Rattle.cr_runs.proofs.Rules.{weaker, known}
use Rattle.cr_world.specs.World.{World, events_of}
use Rattle.cx_core.specs.Trees.{CExpr, type_of}
use Rattle.cx_core.specs.Typing.{CHome}
use Rattle.cx_mean.specs.Operands.{COperand, Slot, Frame as CFrame}
use Rattle.cx_typed_calls.proofs.Calls.{calls_end_typed}
use Rattle.cx_typed_runs.proofs.Scenes.{scene_of, objects_append}
use Rattle.cx_typed_leftmost.proofs.Values.{leftmost_stays_typed}
use Rattle.cx_typed_leftmost.specs.Laws.{CallsAreTyped, IsTypedEnd}
use Rattle.build_flow_lives.specs.Standing.{Calling, own_slots, Standing, stage_of}
use Rattle.build_flow_moves.specs.Parts.{objects_in, value_in, EffectDone}
use Rattle.lift_calls.proofs.Owed.{promise_shrinks}
use Rattle.lift_calls.specs.Programs.{c_calls}
use Rattle.lift_does.proofs.Around.{Around}
use Rattle.lift_does.proofs.Lifting.{lifting_does}
use Rattle.lift_does.specs.Does.{IsAsked, Did}
use Rattle.lift_does.specs.Here.{Here}
use Rattle.lift_exprs.specs.Lifted.{lifted}
use Rattle.lift_held.specs.Held.{is_void, operand, part_of, full}
use Rattle.lift_held.specs.declared.asked.Asked.{Asked}
use Rattle.lift_stands.specs.Worlds.{WorldsStand}
use Rattle.rs_mean.specs.Run.{Flow, normal, run_stmts}
use Rattle.rs_mean_frames.proofs.Framed.{all_behave}
use Rattle.rs_mean_frames.specs.Behave.{BodiesBehave}
use Rattle.rs_text.specs.Tree.{stmts}
use Rattle.build_flow_parts.specs.Bodies.{ValueMeans}
use Rattle.build_flow_parts.specs.Means.{home_in, PartsMean}
use Rattle.build_flow_parts.proofs.After.{stands_behind}

-- ---- what is asked of an expression

full_asked : (e : CExpr) → IsAsked (full e) e
full_asked e = by (is_void (type_of e)) refl
  where
    by : (none : Bool) → is_void (type_of e) ≡ none → IsAsked (part_of (not none)) e
    by true is = record { used = λ used. absurd cc; base = λ base. absurd cc }
    by false is = record { used = λ used. is; base = λ base. refl }

pub operand_asked : (e : CExpr) → is_void (type_of e) ≡ false → IsAsked operand e
operand_asked e some = record { used = λ used. some; base = λ base. refl }

module _ (a : Calling) (units steps : ℕ) (mean : PartsMean a.s a.names a.of units steps) (started : WorldsStand a.images a.c_before a.before) (params_are : map (λ (slot : Slot). slot.object) a.params ≡ a.one.params) where
  abbrev home : List ℕ → CHome
  home scope = home_in a.s a.one (scope ++ a.one.params)

  -- functions that are called end typed
  pub calls_typed : CallsAreTyped a.s.program a.s.statics (c_calls a.s)
  calls_typed = calls_end_typed a.s.program a.s.statics mean.linked mean.begun

  -- where an expression begins
  pub here_of : (scope : List ℕ) (slots : CFrame) (c_world world : World) → objects_in slots ≡ scope → (here : Standing a slots c_world world) →
      Here a.s (home scope) a.names here.later (own_slots a slots) a.frame c_world world
  here_of scope slots c_world world known_are here = record {
    program = here.inside.program;
    worlds = here.inside.worlds;
    frames = here.inside.frames;
    typed = record {
      scene =
          scene_of a.s.program c_world.held (home scope) (own_slots a slots) a.s.statics mean.linked refl refl
          (ap (λ (list : List ℕ). list ++ a.one.params) (sym known_are) ∙ ap (λ (list : List ℕ). objects_in slots ++ list) (sym params_are) ∙ sym (objects_append slots a.params))
          here.inside.scope.memory here.inside.scope.owned mean.begun;
      allocated = here.inside.worlds.held.heaps.lives;
      owned = here.inside.scope.owned;
    };
  }

  -- what is known where statements run behind an expression, below other bounds
  abbrev pub around_of : (scope : List ℕ) (slots : CFrame) (c_world world : World) (n m : ℕ) → n ≤ units → m ≤ steps → Standing a slots c_world world → Around
  around_of scope slots c_world world n m few little here = record {
    s = a.s;
    names = a.of.names;
    kept = a.names;
    home = home scope;
    c_frame = own_slots a slots;
    frame = a.frame;
    means = mean.means (home scope) refl;
    apart = mean.apart;
    bodies = subst BodiesBehave (sym here.inside.frames.bodies) (all_behave a.s.modules);
    typed_calls = calls_typed;
    units = n;
    steps = m;
    promise = promise_shrinks a.s units steps n m few little mean.promise;
  }

  -- an expression has been evaluated, and both stand behind it
  pub record Evaluated (asked : Asked) (e : CExpr) (number : ℕ) (scope : List ℕ) (slots : CFrame) (c_world world : World) (here : Standing a slots c_world world) (given : COperand) (c_end : World) (flow : Flow) (end : World) :
      Type 0 where
    pub did : Did a.s (home scope) a.of.names a.names asked e number here.later (own_slots a slots) a.frame c_world world given c_end flow end
    pub typed : IsTypedEnd (home scope) (own_slots a slots ++ a.s.statics) e c_world given c_end

  abbrev pub stands_after : (asked : Asked) (e : CExpr) (number : ℕ) (scope : List ℕ) (slots : CFrame) (c_world world : World) (here : Standing a slots c_world world) (given : COperand) (c_end : World) (flow : Flow) (end : World) →
      Evaluated asked e number scope slots c_world world here given c_end flow end → Standing a slots c_end end
  stands_after asked e number scope slots c_world world here given c_end flow end is =
      stands_behind a started mean.apart slots c_world world here is.did.later is.did.own number (lifted a.of.names asked e number).next is.did.are_own c_end end is.did.keeps is.did.worlds
      (record { memory = is.typed.at.scene.memory; owned = is.typed.at.owned })

  -- the law of expressions, where one begins
  pub part_owes : (asked : Asked) (e : CExpr) (number : ℕ) (scope : List ℕ) → IsAsked asked e → ValueMeans a units steps asked scope e number →
      (slots : CFrame) (c_world world : World) (n m : ℕ) → n ≤ units → m ≤ steps → objects_in slots ≡ scope → (here : Standing a slots c_world world) →
      Owes events_of events_of (Did a.s (home scope) a.of.names a.names asked e number here.later (own_slots a slots) a.frame c_world world) n m (value_in (stage_of a units steps) slots e c_world)
      (run_stmts a.frame (stmts (lifted a.of.names asked e number).body) world)
  part_owes asked e number scope is_asked value_means slots c_world world n m few little known_are here =
      lifting_does a.s a.of.names a.names (home scope) asked e number n m (mean.means (home scope) refl) mean.apart is_asked value_means.kept (inl value_means.typed) value_means.calls calls_typed (promise_shrinks a.s units steps n m few little mean.promise)
      here.later (own_slots a slots) a.frame c_world world (here_of scope slots c_world world known_are here)

  pub evaluates : (asked : Asked) (e : CExpr) (number : ℕ) (scope : List ℕ) → IsAsked asked e → ValueMeans a units steps asked scope e number →
      (slots : CFrame) (c_world world : World) (n m : ℕ) → n ≤ units → m ≤ steps → objects_in slots ≡ scope → (here : Standing a slots c_world world) →
      Owes events_of events_of (Evaluated asked e number scope slots c_world world here) n m (value_in (stage_of a units steps) slots e c_world)
      (run_stmts a.frame (stmts (lifted a.of.names asked e number).body) world)
  evaluates asked e number scope is_asked value_means slots c_world world n m few little known_are here =
      let begins = here_of scope slots c_world world known_are here in
      weaker events_of events_of
      (λ given c_end flow end. Did a.s (home scope) a.of.names a.names asked e number here.later (own_slots a slots) a.frame c_world world given c_end flow end × IsTypedEnd (home scope) (own_slots a slots ++ a.s.statics) e c_world given c_end)
      (Evaluated asked e number scope slots c_world world here) (λ given c_end flow end is. record { did = is.0; typed = is.1 }) n m _ _
      (known events_of events_of (Did a.s (home scope) a.of.names a.names asked e number here.later (own_slots a slots) a.frame c_world world) (IsTypedEnd (home scope) (own_slots a slots ++ a.s.statics) e c_world) n m
      (value_in (stage_of a units steps) slots e c_world) (run_stmts a.frame (stmts (lifted a.of.names asked e number).body) world)
      (λ bound. leftmost_stays_typed (home scope) (c_calls a.s) (own_slots a slots) a.s.statics e c_world bound calls_typed (inl value_means.typed) begins.typed)
      (part_owes asked e number scope is_asked value_means slots c_world world n m few little known_are here))

  -- ---- an expression whose value is dropped

  pub effect_done : (scope : List ℕ) (e : CExpr) (number : ℕ) → ValueMeans a units steps (full e) scope e number →
      EffectDone (stage_of a units steps) scope e number
  effect_done scope e number value_means slots c_world world n m few little known_are here =
      weaker events_of events_of (Evaluated (full e) e number scope slots c_world world here) (λ given c_end flow end. (flow ≡ normal) × Standing a slots c_end end)
      (λ given c_end flow end is. (is.did.flow_is, stands_after (full e) e number scope slots c_world world here given c_end flow end is)) n m _ _
      (evaluates (full e) e number scope (full_asked e) value_means slots c_world world n m few little known_are here)
