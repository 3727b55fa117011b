-- What is evaluated by the truth of what stands in front (ISO C99, 6.5.13p4, 6.5.14p4 and 6.5.15p4; the Rust Reference, "if and if let expressions").
use Rattle.std.proofs.Common.{◌≡◌, inl, ℕ, Bool, true, false, not, if◌then◌else◌, List, [], ◌∷◌, Ok, refl, sym, ap, subst, ◌∙◌}
use Rattle.std.proofs.lemmas.List.{append-nil}
use Rattle.cr_runs.proofs.Rules.{renamed}
use Rattle.cr_runs.specs.Runs.{Ran, came, halted, bad, out, bind}
use Rattle.cr_world.specs.World.{World, Stop, blocks_of, events_of}
use Rattle.cx_core.specs.Trees.{CExpr, type_of}
use Rattle.cx_core.specs.Typing.{IsTyped}
use Rattle.cx_mean.specs.Leftmost.{CRan, CPiece}
use Rattle.cx_mean.specs.Marks.{Range}
use Rattle.cx_mean.specs.Nodes.{truth_of_value}
use Rattle.cx_mean.specs.Operands.{scalar, COperand, scalar_value}
use Rattle.cx_mean.specs.Values.{is_true}
use Rattle.lift_calls.specs.Programs.{setting_in, c_calls}
use Rattle.lift_does.proofs.Around.{Around, scope, At, DidOf, OweAs, runs, value_in}
use Rattle.lift_does.proofs.Lasting.{lasts_once}
use Rattle.lift_does.proofs.Nodes.{and_then_is, PartOwes, GivesUsed, OneDid, did_one}
use Rattle.lift_does.proofs.Operands.{scalar_is, scalar_in, standing, scalar_given}
use Rattle.lift_does.proofs.Quiet.{quiet_stays, StaysAt}
use Rattle.lift_does.proofs.Reaching.{Knows, knows}
use Rattle.lift_does.proofs.Runs.{join_owes, known_owes}
use Rattle.lift_does.proofs.Sameness.{true_same}
use Rattle.lift_does.proofs.Steady.{SameSize}
use Rattle.lift_does.proofs.Types.{value_there}
use Rattle.lift_does.specs.Later.{Lasts}
use Rattle.lift_exprs.specs.Lifted.{if_stmt, branch, operand_of}
use Rattle.lift_exprs.specs.Written.{Written}
use Rattle.lift_forms.specs.Given.{Given}
use Rattle.lift_forms.specs.Operators.{Operand, test_of, opposite_of}
use Rattle.lift_forms_laws.proofs.Operands.{test_gives, opposite_gives}
use Rattle.lift_forms_laws.proofs.Runs.{seq_is, fails_is}
use Rattle.lift_forms_laws.specs.Gives.{GivesAt, truth_number}
use Rattle.lift_held.specs.Held.{acts}
use Rattle.lift_stands.specs.Stands.{Images}
use Rattle.mem_bytes.specs.declared.value.Value.{Value}
use Rattle.rs_mean.specs.Run.{Frame, Flow, normal, breaks, continues, returned, run_expr, run_stmt, run_stmts, tests, then_on}
use Rattle.rs_mean.specs.Values.{typed, test_of as test_of_typed}
use Rattle.rs_mean.specs.World.{pure, seq, either}
use Rattle.rs_mean.specs.declared.cause.Cause.{Cause}
use Rattle.rs_text.specs.Tree.{Boolean, Expr, Stmt, stmts}

-- ---- a branch of the crate

ends_alone : (ran : Ran (Stop Cause) World Flow) → bind ran (then_on (pure normal)) ≡ ran
unfolding pure
ends_alone (came normal world left) = refl
ends_alone (came (breaks label) world left) = refl
ends_alone (came (continues label) world left) = refl
ends_alone (came (returned value) world left) = refl
ends_alone (halted status world) = refl
ends_alone (bad why world) = refl
ends_alone (out world) = refl

tells : (test : Bool) → test_of_typed (typed Boolean (truth_number test)) ≡ Ok test
tells true = refl
tells false = refl

either_comes : (frame : Frame) (test : Bool) (first second : List Stmt) (world : World) (units : ℕ) →
    either test (run_stmts frame (stmts first)) (run_stmts frame (stmts second)) world units ≡ run_stmts frame (stmts (if test then first else second)) world units
either_comes frame true first second world units = refl
either_comes frame false first second world units = refl

alone_is : (frame : Frame) (one : Stmt) (world : World) (units : ℕ) → run_stmts frame (stmts (one ∷ [])) world units ≡ bind (run_stmt frame one world units) (then_on (pure normal))
unfolding seq
alone_is frame one world units = refl

if_comes : (frame : Frame) (condition : Expr) (first second : List Stmt) (test : Bool) (world : World) (units : ℕ) → GivesAt frame world condition Boolean (truth_number test) →
    run_stmts frame (stmts (if_stmt condition first second ∷ [])) world units ≡ run_stmts frame (stmts (if test then first else second)) world units
if_comes frame condition first second test world units gives =
    let runs_either = λ (holds : Bool). either holds (run_stmts frame (stmts first)) (run_stmts frame (stmts second)) in
    alone_is frame (if_stmt condition first second) world units
    ∙ ends_alone (run_stmt frame (if_stmt condition first second) world units)
    ∙ seq_is (run_expr frame condition) (λ value. seq (tests value) runs_either) world units (typed Boolean (truth_number test)) (gives.runs units)
    ∙ seq_is (tests (typed Boolean (truth_number test))) runs_either world units test (fails_is _ world units test (tells test))
    ∙ either_comes frame test first second world units

turned_list : (test : Bool) (list : List Stmt) → (if not test then list else []) ≡ (if test then [] else list)
turned_list true list = refl
turned_list false list = refl

nothing_either : (test : Bool) (none : List Stmt) → (if test then none else none) ≡ none
nothing_either true none = refl
nothing_either false none = refl

pub branch_comes : (frame : Frame) (operand : Operand) (first second : List Stmt) (test : Bool) (world : World) (units : ℕ) → GivesAt frame world (test_of operand) Boolean (truth_number test) →
    GivesAt frame world (opposite_of operand) Boolean (truth_number (not test)) →
    run_stmts frame (stmts (branch operand first second)) world units ≡ run_stmts frame (stmts (if test then first else second)) world units
branch_comes frame operand [] [] test world units gives opposite = ap (λ (list : List Stmt). run_stmts frame (stmts list) world units) (sym (nothing_either test []))
branch_comes frame operand (one ∷ others) second test world units gives opposite = if_comes frame (test_of operand) (one ∷ others) second test world units gives
branch_comes frame operand [] (one ∷ others) test world units gives opposite =
    if_comes frame (opposite_of operand) (one ∷ others) [] (not test) world units opposite ∙ ap (λ (list : List Stmt). run_stmts frame (stmts list) world units) (turned_list test (one ∷ others))

-- ---- the operand that decides

-- it has a truth
pub record IsTested (one : COperand) (c_world : World) (holds : Bool) : Type 0 where
  pub of_c : Value
  pub value_is : one.value ≡ scalar of_c
  pub true_is : is_true (blocks_of c_world) of_c ≡ Ok holds

pub tested_is : (one : COperand) (c_world : World) (holds : Bool) → truth_of_value (blocks_of c_world) one.value ≡ Ok holds → IsTested one c_world holds
tested_is one c_world holds e =
    let parts = and_then_is (scalar_value one.value) (is_true (blocks_of c_world)) holds e in
    record { of_c = parts.0; value_is = scalar_is one.value parts.0 parts.1; true_is = parts.2 }

module _ (x : Around) where
  pub branch_owes : {A : Type 0} (Good : A → World → Flow → World → Type 0) (source : ℕ → CRan A) (operand : Operand) (first second : List Stmt) (test : Bool) (world : World) →
      GivesAt x.frame world (test_of operand) Boolean (truth_number test) → GivesAt x.frame world (opposite_of operand) Boolean (truth_number (not test)) →
      OweAs x Good source (if test then first else second) world → OweAs x Good source (branch operand first second) world
  branch_owes Good source operand first second test world gives opposite owes =
      renamed events_of events_of Good x.units x.steps source source (runs x (if test then first else second) world) (runs x (branch operand first second) world) (λ k. refl)
      (λ k. sym (branch_comes x.frame operand first second test world k gives opposite)) owes

  -- the test of it in the crate gives its truth, in each later pair of worlds too
  pub test_at : (part : CExpr) (given : Given) (one : COperand) (before c_world : World) (holds : Bool) (tested : IsTested one c_world holds) → IsTyped x.home part → Knows x part before one c_world →
      (last : Images) (c_later later : World) → At x last c_later later → SameSize c_world c_later tested.of_c → GivesUsed x true last later part given one.value →
      GivesAt x.frame later (test_of (operand_of x.names part given)) Boolean (truth_number holds)
  test_at part given one before c_world holds tested typed_part knows_it last c_later later at same gave =
      test_gives last x.frame later (blocks_of c_later) (standing x last c_later later at).stands (operand_of x.names part given) tested.of_c holds (scalar_given x last later part given one.value tested.of_c tested.value_is gave).stands
      (value_there x (type_of part) tested.of_c (scalar_in x part one tested.of_c typed_part knows_it.0.operand_is tested.value_is)) (true_same c_world c_later tested.of_c same ∙ tested.true_is)

  pub opposite_at : (part : CExpr) (given : Given) (one : COperand) (before c_world : World) (holds : Bool) (tested : IsTested one c_world holds) → IsTyped x.home part → Knows x part before one c_world →
      (last : Images) (c_later later : World) → At x last c_later later → SameSize c_world c_later tested.of_c → GivesUsed x true last later part given one.value →
      GivesAt x.frame later (opposite_of (operand_of x.names part given)) Boolean (truth_number (not holds))
  opposite_at part given one before c_world holds tested typed_part knows_it last c_later later at same gave =
      opposite_gives last x.frame later (blocks_of c_later) (standing x last c_later later at).stands (operand_of x.names part given) tested.of_c holds (scalar_given x last later part given one.value tested.of_c tested.value_is gave).stands
      (value_there x (type_of part) tested.of_c (scalar_in x part one tested.of_c typed_part knows_it.0.operand_is tested.value_is)) (true_same c_world c_later tested.of_c same ∙ tested.true_is)

  -- ---- a part that does nothing: C's world stays

  pub still_owes : {A : Type 0} (Good : A → World → Flow → World → Type 0) (go : COperand → CPiece A) (used fixed : Bool) (part : CExpr) (written : Written) (from : ℕ) (images : Images) (c0 w0 : World) →
      At x images c0 w0 → IsTyped x.home part → acts used part ≡ false → PartOwes x used fixed part written from images c0 w0 →
      ((operand : COperand) (later : Images) (c1 w1 : World) → OneDid x used fixed part written from images later c0 w0 operand c1 w1 → c1 ≡ c0 → OweAs x Good (go operand c1) [] w1) →
      OweAs x Good (λ k. bind (value_in x part c0 k) (λ one after. go one after)) written.body w0
  still_owes Good go used fixed part written from images c0 w0 at typed_part quiet owes all =
      subst (λ (list : List Stmt). OweAs x Good (λ k. bind (value_in x part c0 k) (λ one after. go one after)) list w0) (append-nil written.body)
      (join_owes x (λ operand c1 flow w1. (DidOf x used fixed part written from images c0 w0 operand c1 flow w1 × Knows x part c0 operand c1) × StaysAt c0 operand c1) Good (value_in x part c0) (λ one after. go one after) written.body [] w0
      (λ operand c1 flow w1 good. good.0.0.flow_is)
      (known_owes x (λ operand c1 flow w1. DidOf x used fixed part written from images c0 w0 operand c1 flow w1 × Knows x part c0 operand c1) (StaysAt c0) (value_in x part c0) written.body w0
      (λ bound. quiet_stays (setting_in x.s) (c_calls x.s) (scope x) used part quiet c0 c0 refl bound)
      (known_owes x (DidOf x used fixed part written from images c0 w0) (Knows x part c0) (value_in x part c0) written.body w0 (knows x part images c0 w0 (inl typed_part) at) owes))
      (λ operand c1 w1 good. all operand good.0.0.later c1 w1 (did_one x used fixed part written from images c0 w0 operand c1 normal w1 at good.0.0 good.0.1) good.1))

  -- what was read lasts over it
  pub lasts_still : (fixed : Bool) (reads : List Range) (c1 c2 : World) → c2 ≡ c1 → Lasts fixed reads c1 c2
  lasts_still fixed reads c1 c2 same = subst (λ (c : World). Lasts fixed reads c1 c) (sym same) (lasts_once fixed reads c1)
