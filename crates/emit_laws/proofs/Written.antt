-- The text that is written from a flow and its shape is owed to any source that goes along the flow.
use Rattle.std.proofs.Common.{◌≡◌, ◌∙◌, ℕ, Bool, true, false, [], Option, Some, None, refl, sym, ap, subst}
use Rattle.std.specs.Prelude.{⊤, IsTrue}
use Rattle.cr_runs.specs.Laws.{Passes}
use Rattle.cr_runs.specs.Owes.{Owes}
use Rattle.cr_world.specs.World.{World, events_of}
use Rattle.reloop.specs.Graphs.{IsIn}
use Rattle.reloop.specs.Shapes.{ShapeTree, has_dispatch, goes_round}
use Rattle.rs_text.specs.Tree.{Stmt, Assign, Eval, CopyBytes, If, Loop, Block, Break, Continue, Match, Return, Stmts, no_stmts, more_stmts}
use Rattle.rs_mean.specs.Run.{Frame, Flow, normal, breaks, continues, returned, run_stmt, run_stmts, then_on}
use Rattle.rs_mean.specs.Values.{Typed}
use Rattle.rs_mean.specs.World.{Run, pure, seq}
use Rattle.rs_mean_ends.specs.Ways.{by_break, by_continue, stmts_end}
use Rattle.flow.specs.Flows.{FlowTree}
use Rattle.flow.specs.Sources.{Source}
use Rattle.emit_rules.specs.Bodies.{draft_of, emitted, without_return, without_last_return}
use Rattle.emit_rules.specs.Labels.{numbered}
use Rattle.emit_rules.specs.Nests.{Nest, single, choice, group, repeated, dispatched, Chain, no_nests, more_nests, Chains, no_chains, more_chains}
use Rattle.emit_rules.specs.Sorting.{nests_of}
use Rattle.emit_rules.specs.Texts.{one_stmt}
use Rattle.emit_laws.specs.Closed.{stmts_closed}
use Rattle.emit_laws.specs.LawsText.{NodesClosed, IsWritten, TextIsOwed, TextOwes}
use Rattle.emit_laws.proofs.Branches.{StaysWithin}
use Rattle.emit_laws.proofs.Closing.{stmts_break, stmts_continue}
use Rattle.emit_laws.proofs.Drafting.{Closed, closed_kept}
use Rattle.emit_laws.proofs.Every.{EveryNest, EveryChain, EveryChains, chain_choice_gives}
use Rattle.emit_laws.proofs.Fitting.{nests_cover, nests_enter}
use Rattle.emit_laws.proofs.Ifs.{run_one}
use Rattle.emit_laws.proofs.Keeping.{draft_good}
use Rattle.emit_laws.proofs.Numbering.{by_name, stmts_named}
use Rattle.emit_laws.proofs.Owing.{draft_owed}
use Rattle.emit_laws.proofs.Runs.{seq_seq, seq_with, pure_seq, seq_pure}
use Rattle.emit_laws.proofs.Shaped.{OfChoiceIn, nests_asked}

-- ---- statements of nodes

closed_within : (ss : Stmts) → stmts_closed [] ss ≡ true → StaysWithin ss
closed_within ss closed label = (by_test (stmts_end ss (by_break label)) refl (stmts_break label [] ss closed), by_test (stmts_end ss (by_continue label)) refl (stmts_continue label [] ss closed))
  where
    by_test : (test : Bool) {other : Bool} → other ≡ test → (other ≡ true → false ≡ true) → test ≡ false
    by_test false is none = refl
    by_test true is none = sym (none is)

-- ---- labels by depth, and a last `return;`

module _ (frame : Frame) where
  unnamed : (flow : Flow) → by_name [] flow ≡ pure flow
  unnamed normal = refl
  unnamed (breaks label) = refl
  unnamed (continues label) = refl
  unnamed (returned value) = refl

  pub numbered_runs : (ss : Stmts) → stmts_closed [] ss ≡ true → run_stmts frame (numbered [] ss) ≡ run_stmts frame ss
  numbered_runs ss closed = stmts_named frame [] ss closed ∙ seq_with (run_stmts frame ss) (by_name []) pure unnamed ∙ seq_pure (run_stmts frame ss)

  module _ {B : Type 0} (next : Flow → Run B) (at_end : next normal ≡ next (returned None)) where
    abbrev goes_on : Stmts → Run B
    goes_on ss = seq (run_stmts frame ss) next

    last_one : (s : Stmt) → goes_on (without_return s) ≡ goes_on (one_stmt s)
    last_one (Return None) = pure_seq normal next ∙ at_end ∙ sym (ap (λ (run : Run Flow). seq run next) (run_one frame (Return None)) ∙ pure_seq (returned None) next)
    last_one (Return (Some value)) = refl
    last_one (Assign p e) = refl
    last_one (Eval e) = refl
    last_one (CopyBytes source target count) = refl
    last_one (If condition if_true if_false) = refl
    last_one (Loop label body) = refl
    last_one (Block label body) = refl
    last_one (Break label) = refl
    last_one (Continue label) = refl
    last_one (Match e cases other) = refl

    then_next : (one other : Stmts) → goes_on one ≡ goes_on other → (flow : Flow) → seq (then_on (run_stmts frame one) flow) next ≡ seq (then_on (run_stmts frame other) flow) next
    then_next one other same normal = same
    then_next one other same (breaks label) = refl
    then_next one other same (continues label) = refl
    then_next one other same (returned value) = refl

    pub last_runs : (ss : Stmts) → goes_on (without_last_return ss) ≡ goes_on ss
    last_runs no_stmts = refl
    last_runs (more_stmts s no_stmts) = last_one s
    last_runs (more_stmts s (more_stmts other others)) =
        seq_seq (run_stmt frame s) _ next
        ∙ seq_with (run_stmt frame s) _ _ (then_next (without_last_return (more_stmts other others)) (more_stmts other others) (last_runs (more_stmts other others)))
        ∙ sym (seq_seq (run_stmt frame s) _ next)

-- ---- the text of nests

mutual
  any_nest : (nest : Nest) → EveryNest (λ node. ⊤) (λ heads. ⊤ × ((node : ℕ) → IsIn node heads → ⊤)) ⊤ nest
  any_nest (single node arms) = (tt, any_chains arms)
  any_nest (choice heads arms) = ((tt, λ node there. tt), any_chains arms)
  any_nest (group members) = any_chain members
  any_nest (repeated head body) = (tt, any_chain body)
  any_nest (dispatched heads body) = ((tt, λ node there. tt), tt, any_chain body)

  any_chain : (nests : Chain) → EveryChain (λ node. ⊤) (λ heads. ⊤ × ((node : ℕ) → IsIn node heads → ⊤)) ⊤ nests
  any_chain no_nests = tt
  any_chain (more_nests nest others) = (any_nest nest, any_chain others)

  any_chains : (arms : Chains) → EveryChains (λ node. ⊤) (λ heads. ⊤ × ((node : ℕ) → IsIn node heads → ⊤)) ⊤ arms
  any_chains no_chains = tt
  any_chains (more_chains first others) = (any_chain first, any_chains others)

pub draft_closed : (flow : FlowTree) → NodesClosed flow → (nests : Chain) → stmts_closed [] (draft_of flow nests) ≡ true
draft_closed flow closed nests = draft_good flow Closed (λ node. ⊤) ⊤ ⊤ (closed_kept flow closed) (λ number node there. tt) nests (any_chain nests) tt

-- the text runs as that without labels by depth
pub emitted_runs : (frame : Frame) (flow : FlowTree) (shape : ShapeTree) → NodesClosed flow → {B : Type 0} (next : Flow → Run B) → next normal ≡ next (returned None) →
    seq (run_stmts frame (emitted flow shape)) next ≡ seq (run_stmts frame (draft_of flow (nests_of flow shape))) next
emitted_runs frame flow shape closed next at_end =
    last_runs frame next at_end (numbered [] (draft_of flow (nests_of flow shape)))
    ∙ ap (λ (run : Run Flow). seq run next) (numbered_runs frame (draft_of flow (nests_of flow shape)) (draft_closed flow closed (nests_of flow shape)))

-- ---- the law, of any predicates

module _ {F S A B P : Type 0} (source : Source F S A P) (frame : Frame) (flow : FlowTree) (shape : ShapeTree) (At : P → ℕ → World → Type 0) (Back : P → Option Typed → World → Type 0)
    (Good : A → S → B → World → Type 0) (most_units most_steps : ℕ) (next : Flow → Run B) where
  pub text_is_owed : IsWritten source frame flow shape At Back Good most_units most_steps next → TextIsOwed source frame flow shape At Back Good most_units most_steps next
  text_is_owed written position world at =
      subst (λ (run : Run B). Owes source.events events_of Good most_units most_steps (source.runs position) (run world)) (sym (emitted_runs frame flow shape written.closed next written.behind.at_end))
      (draft_owed source frame written.bodies flow At Back Good most_units most_steps (λ number node is. closed_within node.body (written.closed number node is)) written.along
      (nests_of flow shape) (nests_cover flow shape written.fits)
      (λ chooses. written.tells (chain_choice_gives (λ node. ⊤) (OfChoiceIn flow shape written.fits) (goes_round shape ≡ true) (has_dispatch shape ≡ true) (λ heads asked. asked.0) (nests_of flow shape)
      (nests_asked flow shape written.fits) chooses))
      (nests_enter flow shape written.fits) next written.behind.silent written.behind.returns position world at)

pub text_owes : (F S A B P : Type 0) → TextOwes F S A B P
text_owes F S A B P source frame flow shape at back good most_units most_steps next =
    text_is_owed source frame flow shape (λ position node world. IsTrue (at position node world)) (λ position value world. IsTrue (back position value world)) (Passes good) most_units most_steps next
