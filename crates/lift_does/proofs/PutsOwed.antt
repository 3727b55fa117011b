-- A value of an initialiser or a compound literal is evaluated, and stored in a part of its object before the next one is reached (ISO C99, 6.5.2.5 and 6.7.8).
use Rattle.std.proofs.Common.{◌≡◌, inl, ℕ, ◌<◌, ◌≤◌, Bool, true, false, List, ◌++◌, length, Ok, refl, sym, ap, subst, ◌∙◌, arith}
use Rattle.std.proofs.lemmas.List.{append_assoc}
use Rattle.cr_base.specs.declared.layout.Spot.{Spot}
use Rattle.cr_runs.proofs.Rules.{renamed}
use Rattle.cr_runs.specs.Runs.{came, bind}
use Rattle.cr_world.specs.Held.{with_blocks}
use Rattle.cr_world.specs.World.{World, blocks_of, with_memory, with_held, events_of}
use Rattle.cx_core.specs.Trees.{CTy, CExpr, type_of, place_of, CProgram}
use Rattle.cx_core.specs.Typing.{IsTyped, IsPutOf}
use Rattle.cx_mean.specs.Accesses.{CStored}
use Rattle.cx_mean.specs.Initialisers.{put_stored}
use Rattle.cx_mean.specs.Leftmost.{CPiece, CRan, one_step}
use Rattle.cx_mean.specs.Operands.{COperand}
use Rattle.cx_mean.specs.Settings.{setting_of}
use Rattle.cx_typed_leftmost.proofs.Worlds.{typed_stepped}
use Rattle.cx_typed_leftmost.specs.Laws.{IsTypedAt}
use Rattle.cx_typed_values.specs.Outcomes.{Comes}
use Rattle.cx_typed_work.proofs.Puts.{IsLiteralAlive, put_comes}
use Rattle.cx_typed_work.proofs.Stores.{IsStoredOf}
use Rattle.cx_typed_work.specs.Operands.{IsOperandOf, IsGivenBy}
use Rattle.lift_calls.specs.Programs.{setting_in}
use Rattle.lift_does.proofs.Around.{Around, scope, At, OweAs, Reached, runs, value_in}
use Rattle.lift_does.proofs.Nodes.{PartOwes, OneDid, one_owes}
use Rattle.lift_does.proofs.PutsStores.{IsGivenMeanwhile, put_both}
use Rattle.lift_does.proofs.Reaching.{at_after, reached_then, later_itself}
use Rattle.lift_does.proofs.RecordAssignments.{temporaries_beside}
use Rattle.lift_does.proofs.Runs.{run_behind, step_owes, same_events}
use Rattle.lift_does.specs.Gives.{GivesOperand}
use Rattle.lift_exprs.specs.Objects.{object_at, part_target}
use Rattle.lift_exprs.specs.Stores.{Target, stored_value, stores}
use Rattle.lift_exprs.specs.Written.{Written}
use Rattle.lift_stands.specs.Stands.{Images}
use Rattle.lift_stands_accesses.specs.Objects.{LeftStanding}
use Rattle.lift_stands_lives.proofs.Begun.{worlds_held}
use Rattle.mem_bytes.specs.Memory.{Blocks}
use Rattle.rs_mean.specs.Run.{Flow, normal}
use Rattle.rs_text.specs.Tree.{Stmt}

module _ (x : Around) where
  -- statements that come to their end, in front of others, where C is already behind what they do
  pub front_owes : {A : Type 0} (Good : A → World → Flow → World → Type 0) (source : ℕ → CRan A) (first rest : List Stmt) (world after : World) → ((units : ℕ) → runs x first world units ≡ came normal after units) → OweAs x Good source rest after →
      OweAs x Good source (first ++ rest) world
  front_owes Good source first rest world after comes owes =
      renamed events_of events_of Good x.units x.steps source source (runs x rest after) (runs x (first ++ rest) world) (λ k. refl) (λ k. sym (run_behind x.frame first rest world after k (comes k))) owes

  -- both stand behind a store
  pub stored_reached : (number : ℕ) (images : Images) (c_world world : World) (made beyond : Blocks) → At x images c_world world → LeftStanding images c_world.held world.held made beyond → IsTypedAt x.home (scope x) (with_memory made c_world) →
      Reached x number number images images c_world world (with_memory made c_world) (with_held (with_blocks beyond world.held) world)
  stored_reached number images c_world world made beyond here left typed = record {
    own = λ _. false;
    are_own = λ block is. cc (is);
    keeps = left.keeps (length (blocks_of world)) (λ _. false);
    at = at_after x images images (λ _. false) c_world world (with_memory made c_world) (with_held (with_blocks beyond world.held) world) here (left.keeps (length (blocks_of world)) (λ _. false))
        (worlds_held images images c_world world (with_blocks made c_world.held) (with_blocks beyond world.held) here.worlds left.stands) typed;
  }

  module _ (type : CTy) (number : ℕ) (lives : (images : Images) (c_world world : World) → At x images c_world world → IsLiteralAlive x.home (scope x) (blocks_of c_world) type number) (spot : Spot) (part : CTy) (value : CExpr)
      (typed : IsTyped x.home value) (is : IsPutOf x.home.program.types type spot part (type_of value)) where
    abbrev to : Target
    to = part_target x.names type (object_at x.names type number) spot part

    -- what C stores is typed
    put_typed : (images : Images) (c_world world : World) (operand : COperand) (made : CStored) → At x images c_world world → IsOperandOf x.home value operand → put_stored (setting_in x.s) (scope x) (blocks_of c_world) number spot part operand ≡ Ok made →
        IsTypedAt x.home (scope x) (with_memory made.blocks c_world)
    put_typed images c_world world operand made here given e =
        let stored_it : put_stored (setting_of x.home.program) (scope x) (blocks_of c_world) number spot part operand ≡ Ok made = ap (λ (program : CProgram). put_stored (setting_of program) (scope x) (blocks_of c_world) number spot part operand) x.means.program ∙ e in
        let good = subst (Comes (IsStoredOf x.home.program part (blocks_of c_world))) stored_it
        (put_comes x.home (scope x) (blocks_of c_world) type number spot part value operand here.typed.scene (lives images c_world world here) (typed, is) given) in
        typed_stepped x.home (scope x) c_world made.blocks good.shapes good.memory here.typed

    -- what is given is the same while a number is stored in a bit-field, where nothing that is stored changes it
    meanwhile : (used fixed : Bool) (written : Written) (from : ℕ) (images later : Images) (c0 w0 : World) (operand : COperand) (c1 w1 : World) → used ≡ true → fixed ≡ true → OneDid x used fixed value written from images later c0 w0 operand c1 w1 →
        IsGivenMeanwhile x later c1 w1 value written.given operand.value
    meanwhile true true written from images later c0 w0 operand c1 w1 used is_fixed did one beyond midst left =
        did.gives later (with_memory one c1) (with_held (with_blocks beyond w1.held) w1) (record {
          extends = record { blocks = λ k image e. e; functions = refl; in_bytes = refl };
          here = midst.at;
          temporaries = temporaries_beside x written.next later c1 w1 one beyond did.reached.at left;
          lasts = midst.keeps;
        })
    meanwhile false fixed written from images later c0 w0 operand c1 w1 used is_fixed did one beyond midst left = cc (used)
    meanwhile true false written from images later c0 w0 operand c1 w1 used is_fixed did one beyond midst left = cc (is_fixed)

    -- the value, its store, and what comes behind them. The marks that C's store is given play no part.
    pub put_owes : {A : Type 0} (Good : A → World → Flow → World → Type 0) (again : COperand → COperand) (go : CStored → CPiece A) (rest : List Stmt) (fixed : Bool) (written : Written) (from : ℕ) (images : Images) (c0 w0 : World) →
        ((operand : COperand) → (again operand).value ≡ operand.value) → ((operand : COperand) → (again operand).type ≡ operand.type) → At x images c0 w0 → from ≤ written.next → (0 < spot.width → fixed ≡ true) → PartOwes x true fixed value written from images c0 w0 →
        ((made : CStored) (later : Images) (c1 w1 : World) → Reached x from written.next images later c0 w0 c1 w1 → OweAs x Good (go made c1) rest w1) →
        OweAs x Good (λ k. bind (value_in x value c0 k) (λ operand after. one_step (place_of value) (put_stored (setting_in x.s) (scope x) (blocks_of after) number spot part (again operand)) (λ made later. go made (with_memory made.blocks later)) after))
        ((written.body ++ stores to (stored_value to written.given)) ++ rest) w0
    put_owes Good again go rest fixed written from images c0 w0 same_value same_type here rises steady owes all =
        let list = stores to (stored_value to written.given) in
        subst (λ (l : List Stmt). OweAs x Good (λ k. bind (value_in x value c0 k) (λ operand after. one_step (place_of value) (put_stored (setting_in x.s) (scope x) (blocks_of after) number spot part (again operand)) (λ made later. go made (with_memory made.blocks later)) after)) l w0)
        (sym (append_assoc written.body list rest))
        (one_owes x Good (λ operand after. one_step (place_of value) (put_stored (setting_in x.s) (scope x) (blocks_of after) number spot part (again operand)) (λ made later. go made (with_memory made.blocks later)) after) (list ++ rest)
        true fixed value written from images c0 w0 here (inl typed) owes (λ operand later c1 w1 did.
        let at1 = did.reached.at in
        step_owes x Good (place_of value) (put_stored (setting_in x.s) (scope x) (blocks_of c1) number spot part (again operand)) (λ made after. go made (with_memory made.blocks after)) (list ++ rest) c1 w1 (same_events later c1 w1 at1.worlds) (λ made e.
        let gave : GivesOperand x.s x.names later x.c_frame x.frame w1 value written.given operand.value = did.gives later c1 w1 (later_itself x later written.next fixed operand.marks.reads c1 w1 at1) in
        let given : IsOperandOf x.home value (again operand) = again_operand operand did.knows_is.0.operand_is in
        let gave_again = subst (GivesOperand x.s x.names later x.c_frame x.frame w1 value written.given) (sym (same_value operand)) gave in
        let both = put_both x later c1 w1 type number spot part value written.given (again operand) made at1 (λ c_after after at_after_it. lives later c_after after at_after_it) is gave_again
        (λ some. subst (IsGivenMeanwhile x later c1 w1 value written.given) (sym (same_value operand)) (meanwhile true fixed written from images later c0 w0 operand c1 w1 refl (steady some) did)) e in
        let reached = stored_reached written.next later c1 w1 made.blocks both.beyond at1 both.left (put_typed later c1 w1 (again operand) made at1 given e) in
        front_owes Good (go made (with_memory made.blocks c1)) list rest w1 (with_held (with_blocks both.beyond w1.held) w1) both.comes
        (all made later (with_memory made.blocks c1) (with_held (with_blocks both.beyond w1.held) w1)
        (reached_then x from written.next written.next images later later c0 w0 c1 w1 (with_memory made.blocks c1) (with_held (with_blocks both.beyond w1.held) w1) rises (omega arith) here did.reached reached)))))
      where
        again_operand : (operand : COperand) → IsOperandOf x.home value operand → IsOperandOf x.home value (again operand)
        again_operand operand given = record {
          type_is = same_type operand ∙ given.type_is;
          given = subst (λ (v : _). IsGivenBy x.home value v) (sym (same_value operand)) given.given;
        }
