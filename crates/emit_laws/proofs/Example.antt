-- A worked example: `for (;;);` and any run that waits for ever without an event (ISO C99, 6.8.5.3). What the law of the text asks for is given, and so the text `loop {}` is owed to
-- such a run.
use Rattle.std.proofs.Common.{◌≡◌, inl, inr, ℕ, zero, suc, pred, ◌<◌, ◌==◌, Bool, true, false, ◌||◌, List, [], ◌∷◌, get_or, Option, Some, None, arith, refl, sym, subst}
use Rattle.cr_runs.specs.Owes.{Owes, Rests}
use Rattle.cr_runs.specs.Runs.{Ran, out}
use Rattle.cr_runs_rules.proofs.Rules.{alone}
use Rattle.cr_runs_rules.specs.Steps.{StepsTo}
use Rattle.cr_world.specs.World.{World, events_of}
use Rattle.ext_calls.specs.declared.call.Call.{Call}
use Rattle.reloop.specs.Fits.{times, Lands, IsFit}
use Rattle.reloop.specs.Graphs.{IsIn}
use Rattle.reloop.specs.Shapes.{ShapeTree, simple, loop}
use Rattle.reloop.proofs.Sets.{same_number}
use Rattle.rs_text.specs.Tree.{Loop, Stmts, no_stmts, more_stmts}
use Rattle.rs_mean.specs.declared.cause.Cause.TheVariants.{WrongCall}
use Rattle.rs_mean.specs.Run.{Frame, Flow, run_stmts}
use Rattle.rs_mean.specs.Values.{Typed}
use Rattle.rs_mean.specs.World.{Run, pure, fails, seq}
use Rattle.rs_mean_frames.proofs.Behaving.{behaves_fails}
use Rattle.flow.specs.Flows.{go, NodeTree, FlowTree, node_at, graph_of, targets_of}
use Rattle.flow.specs.Machine.{Onto, to_node, run_at}
use Rattle.flow.specs.Sources.{Source, nothing_left, within_less, IsBehind, StepsAlong}
use Rattle.emit_rules.specs.Bodies.{emitted}
use Rattle.emit_laws.specs.Closed.{stmts_closed}
use Rattle.emit_laws.specs.LawsText.{IsWritten}
use Rattle.emit_laws.proofs.Written.{text_is_owed}

-- one node, which goes to itself
abbrev node : NodeTree
node = record { body = no_stmts; last = go 0 }

abbrev flow : FlowTree
flow = record { nodes = node ∷ []; entry = 0 }

abbrev shape : ShapeTree
shape = loop 0 (simple 0)

-- `loop {}`
abbrev text : Stmts
text = more_stmts (Loop None no_stmts) no_stmts

is_text : emitted flow shape ≡ text
is_text = refl

-- ---- the shape fits

only_one : (one head : ℕ) → IsIn one (head ∷ []) → one ≡ head
only_one one head there = same_number one head (by_test (one == head) there)
  where
    by_test : (here : Bool) → (here || false) ≡ true → here ≡ true
    by_test true is = refl
    by_test false is = is

no_more : (node : ℕ) → node < 1 → times node (0 ∷ []) ≡ 1
no_more zero less = refl
no_more (suc node) less = absurd (omega (arith, less))

edge_lands : (from to : ℕ) → IsIn to (get_or ((0 ∷ []) ∷ []) from []) → Lands from to shape
edge_lands zero to there = inl (refl, only_one to 0 there)
edge_lands (suc from) to there = absurd (nowhere from there)
  where
    nowhere : (from : ℕ) → IsIn to (get_or [] from []) → ⊥
    nowhere zero none = cc
    nowhere (suc from) none = cc

fits : IsFit (graph_of flow) shape
fits = record {
  nodes = record { each = no_more; only = λ node there. let same = only_one node 0 there in omega (arith, same) };
  entered = refl;
  alone = λ is. refl;
  edges = edge_lands;
  form = (record { entered = refl; round = (0, refl, refl) }, tt);
}

-- ---- a run that waits for ever

abbrev frame : Frame
frame = record { modules = []; locals = []; bodies = λ fun args. fails WrongCall }

abbrev no_events : Unit {0} → List Call
no_events state = []

abbrev source : Source (Unit {0}) (Unit {0}) (Unit {0}) (Unit {0})
source = record { runs = λ position steps. out tt; events = no_events; weight = λ position. 1; limit = 1 }

-- it stands at the node, and there was no event
abbrev At : Unit {0} → ℕ → World → Type 0
At position number world = (number ≡ 0) × (events_of world ≡ [])

-- it never returns
abbrev Back : Unit {0} → Option Typed → World → Type 0
Back position value world = ⊥

abbrev Good : Unit {0} → Unit {0} → Unit {0} → World → Type 0
Good value state other world = ⊥

abbrev waiting : ℕ → Ran (Unit {0}) (Unit {0}) (Unit {0})
waiting steps = out tt

steps_on : StepsTo waiting tt waiting
steps_on zero = refl
steps_on (suc bound) = refl

is_behind : (m : ℕ) → IsBehind {P = Unit {0}} (λ position. 1) (pred m) tt m tt
is_behind zero = nothing_left refl
is_behind (suc m) = within_less (omega arith)

-- the node goes to itself
runs_on : (next : Onto → Run (Unit {0})) → seq (run_at frame flow 0) next ≡ next (to_node 0)
unfolding pure seq
runs_on next = refl

-- what follows the text shows nothing
abbrev next : Flow → Run (Unit {0})
next ending = fails WrongCall

rests : (world : World) → Rests events_of (events_of world) (fails {A = Unit {0}} WrongCall world 0)
unfolding fails
rests world = refl

module _ (most_units most_steps : ℕ) where
  -- where the node runs, the source takes a step, and stands at it again
  along : StepsAlong source frame flow At Back Good most_units most_steps
  along = record {
    weighs = λ position. omega arith;
    limited = λ position. omega arith;
    waits = λ position number world at. inr (record { taken = 0; state = tt; goes = refl; same = sym at.1 });
    steps = λ n m position number world after few little at quiet follows.
        subst (λ (one : ℕ). Owes no_events events_of Good n m waiting (seq (run_at frame flow one) after world)) (sym at.0)
        (subst (λ (run : Run (Unit {0})). Owes no_events events_of Good n m waiting (run world)) (sym (runs_on after))
        (alone no_events events_of Good n m tt waiting waiting (after (to_node 0) world) steps_on (subst (λ (events : List Call). Rests events_of events (after (to_node 0) world 0)) at.1 (quiet (to_node 0) world))
        (follows.nodes (pred m) tt 0 world (subst (λ (one : ℕ). IsIn 0 (targets_of flow one)) (sym at.0) refl) (refl, at.1) (is_behind m))));
  }

  written : IsWritten source frame flow shape At Back Good most_units most_steps next
  written = record {
    bodies = record { body = λ fun args. behaves_fails (Option Typed) WrongCall };
    fits = fits;
    closed = closed;
    along = along;
    tells = λ has. absurd cc;
    behind = record { silent = λ ending world. rests world; at_end = refl; returns = λ n m position value world few little none. elim none [ ] };
  }
    where
      closed : (number : ℕ) (one : NodeTree) → node_at flow number ≡ Some one → stmts_closed [] one.body ≡ true
      closed zero one is = subst (λ (other : NodeTree). stmts_closed [] other.body ≡ true) (same node one is) refl
        where
          same : (one other : NodeTree) → Some one ≡ Some other → one ≡ other
          same one other is = cc
      closed (suc number) one is = absurd cc

  -- the text goes on for ever as the source does
  text_goes_on : (world : World) → events_of world ≡ [] → Owes no_events events_of Good most_units most_steps waiting (seq (run_stmts frame text) next world)
  text_goes_on world none = text_is_owed source frame flow shape At Back Good most_units most_steps next written tt world (refl, none)
