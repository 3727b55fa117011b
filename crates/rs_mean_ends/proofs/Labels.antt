-- A label that nothing inside names can go.
use Rattle.std.proofs.Common.{◌≡◌, ◌∙◌, ℕ, zero, suc, Bool, true, false, not, ◌&&◌, ◌||◌, List, Some, None, refl, sym, ap, subst, bytes_eq}
use Rattle.std.specs.Cmp.Lexicographic.{same_text}
use Rattle.cr_runs.specs.Runs.{Ran, came, halted, bad, out, bind}
use Rattle.cr_world.specs.World.{World, Stop}
use Rattle.rs_text.specs.Tree.{Stmt, Assign, Eval, CopyBytes, If, Loop, Block, Break, Continue, Match, Return, Stmts, no_stmts, more_stmts, LiteralArm, Arms, no_arms, more_arms}
use Rattle.rs_mean.specs.declared.cause.Cause.{Cause}
use Rattle.rs_mean.specs.Run.{Frame, Flow, normal, breaks, continues, returned, after_block, after_turn, run_stmt, run_stmts}
use Rattle.rs_mean.specs.World.{Run, pure, seq, takes_unit, either, Round, again, done, next_turn, turns_within, rounds}
use Rattle.rs_mean_ends.specs.Ways.{Way, goes, by_break, by_continue, stmt_ends, stmts_end, arms_end, stmt_names, stmts_name, arms_name}
use Rattle.rs_mean_ends.specs.Laws.{LabelsGo}
use Rattle.rs_mean_ends.proofs.Ending.{ComesBy, stmts_come}

-- ---- what names no label doesn't end by it

none_of : (one other : Bool) → (one || other) ≡ false → (one ≡ false) × (other ≡ false)
none_of true other is = absurd cc
none_of false other is = (refl, is)

neither : (one other : Bool) → one ≡ false → other ≡ false → (one || other) ≡ false
neither true other one is = absurd cc
neither false other one is = is

not_both : (one other : Bool) → other ≡ false → (one && other) ≡ false
not_both true other is = is
not_both false other is = refl

mutual
  stmt_unbroken : (name : List ℕ) (s : Stmt) → stmt_names name s ≡ false → stmt_ends s (by_break name) ≡ false
  stmt_unbroken name (Assign p e) is = refl
  stmt_unbroken name (Eval e) is = refl
  stmt_unbroken name (CopyBytes source target count) is = refl
  stmt_unbroken name (If condition if_true if_false) is =
      let parts = none_of (stmts_name name if_true) (stmts_name name if_false) is in
      neither (stmts_end if_true (by_break name)) (stmts_end if_false (by_break name)) (stmts_unbroken name if_true parts.0) (stmts_unbroken name if_false parts.1)
  stmt_unbroken name (Loop None body) is = stmts_unbroken name body is
  stmt_unbroken name (Loop (Some label) body) is = not_both (not (bytes_eq label name)) (stmts_end body (by_break name)) (stmts_unbroken name body is)
  stmt_unbroken name (Block label body) is = not_both (not (bytes_eq label name)) (stmts_end body (by_break name)) (stmts_unbroken name body is)
  stmt_unbroken name (Break label) is = is
  stmt_unbroken name (Continue label) is = refl
  stmt_unbroken name (Match e cases other) is =
      let parts = none_of (arms_name name cases) (stmts_name name other) is in
      neither (arms_end cases (by_break name)) (stmts_end other (by_break name)) (arms_unbroken name cases parts.0) (stmts_unbroken name other parts.1)
  stmt_unbroken name (Return value) is = refl

  pub stmts_unbroken : (name : List ℕ) (ss : Stmts) → stmts_name name ss ≡ false → stmts_end ss (by_break name) ≡ false
  stmts_unbroken name no_stmts is = refl
  stmts_unbroken name (more_stmts s ss) is =
      let parts = none_of (stmt_names name s) (stmts_name name ss) is in
      neither (stmt_ends s (by_break name)) (stmt_ends s goes && stmts_end ss (by_break name)) (stmt_unbroken name s parts.0)
      (not_both (stmt_ends s goes) (stmts_end ss (by_break name)) (stmts_unbroken name ss parts.1))

  arms_unbroken : (name : List ℕ) (cases : Arms) → arms_name name cases ≡ false → arms_end cases (by_break name) ≡ false
  arms_unbroken name no_arms is = refl
  arms_unbroken name (more_arms (LiteralArm value ty body) others) is =
      let parts = none_of (stmts_name name body) (arms_name name others) is in
      neither (stmts_end body (by_break name)) (arms_end others (by_break name)) (stmts_unbroken name body parts.0) (arms_unbroken name others parts.1)

mutual
  stmt_unturned : (name : List ℕ) (s : Stmt) → stmt_names name s ≡ false → stmt_ends s (by_continue name) ≡ false
  stmt_unturned name (Assign p e) is = refl
  stmt_unturned name (Eval e) is = refl
  stmt_unturned name (CopyBytes source target count) is = refl
  stmt_unturned name (If condition if_true if_false) is =
      let parts = none_of (stmts_name name if_true) (stmts_name name if_false) is in
      neither (stmts_end if_true (by_continue name)) (stmts_end if_false (by_continue name)) (stmts_unturned name if_true parts.0) (stmts_unturned name if_false parts.1)
  stmt_unturned name (Loop None body) is = stmts_unturned name body is
  stmt_unturned name (Loop (Some label) body) is = not_both (not (bytes_eq label name)) (stmts_end body (by_continue name)) (stmts_unturned name body is)
  stmt_unturned name (Block label body) is = stmts_unturned name body is
  stmt_unturned name (Break label) is = refl
  stmt_unturned name (Continue label) is = is
  stmt_unturned name (Match e cases other) is =
      let parts = none_of (arms_name name cases) (stmts_name name other) is in
      neither (arms_end cases (by_continue name)) (stmts_end other (by_continue name)) (arms_unturned name cases parts.0) (stmts_unturned name other parts.1)
  stmt_unturned name (Return value) is = refl

  pub stmts_unturned : (name : List ℕ) (ss : Stmts) → stmts_name name ss ≡ false → stmts_end ss (by_continue name) ≡ false
  stmts_unturned name no_stmts is = refl
  stmts_unturned name (more_stmts s ss) is =
      let parts = none_of (stmt_names name s) (stmts_name name ss) is in
      neither (stmt_ends s (by_continue name)) (stmt_ends s goes && stmts_end ss (by_continue name)) (stmt_unturned name s parts.0)
      (not_both (stmt_ends s goes) (stmts_end ss (by_continue name)) (stmts_unturned name ss parts.1))

  arms_unturned : (name : List ℕ) (cases : Arms) → arms_name name cases ≡ false → arms_end cases (by_continue name) ≡ false
  arms_unturned name no_arms is = refl
  arms_unturned name (more_arms (LiteralArm value ty body) others) is =
      let parts = none_of (stmts_name name body) (arms_name name others) is in
      neither (stmts_end body (by_continue name)) (arms_end others (by_continue name)) (stmts_unturned name body parts.0) (arms_unturned name others parts.1)

both_ways : (b : Bool) → b ≡ true → b ≡ false → ⊥
both_ways true is none = cc
both_ways false is none = cc

-- a way in which they end isn't one in which they don't
other_label : (name label : List ℕ) (can : List ℕ → Bool) → can label ≡ true → can name ≡ false → (test : Bool) → bytes_eq name label ≡ test → test ≡ false
other_label name label can is none true same =
    absurd (both_ways (can label) is (subst (λ (one : List ℕ). can one ≡ false) (same_text name label (sym same)) none))
other_label name label can is none false same = refl

differs : (name label : List ℕ) (can : List ℕ → Bool) → can label ≡ true → can name ≡ false → bytes_eq name label ≡ false
differs name label can is none = other_label name label can is none (bytes_eq name label) refl

-- ---- blocks

block_same : (name : List ℕ) (body : Way → Bool) → body (by_break name) ≡ false → (run : Ran (Stop Cause) World Flow) → ComesBy body run → bind run (after_block name) ≡ run
unfolding pure
block_same name body none (came normal world left) is = refl
block_same name body none (came (breaks label) world left) is =
    ap (λ (test : Bool). either test (pure normal) (pure (breaks label)) world left) (differs name label (λ one. body (by_break one)) is none)
block_same name body none (came (continues label) world left) is = refl
block_same name body none (came (returned value) world left) is = refl
block_same name body none (halted status world) is = refl
block_same name body none (bad why world) is = refl
block_same name body none (out world) is = refl

pub block_goes : (frame : Frame) (label : List ℕ) (body : Stmts) → stmts_name label body ≡ false → (world : World) (units : ℕ) →
    run_stmt frame (Block label body) world units ≡ run_stmts frame body world units
unfolding seq
block_goes frame label body none world units =
    block_same label (stmts_end body) (stmts_unbroken label body none) (run_stmts frame body world units) (stmts_come frame body world units)

-- ---- loops

abbrev Turned : Type 0
Turned = Ran (Stop Cause) World (Round (Unit {0}) Flow)

turn_same : (name : List ℕ) (body : Way → Bool) → body (by_break name) ≡ false → body (by_continue name) ≡ false → (run : Ran (Stop Cause) World Flow) → ComesBy body run →
    bind run (after_turn (Some name)) ≡ bind run (after_turn None)
turn_same name body none never (came normal world left) is = refl
turn_same name body none never (came (breaks label) world left) is =
    ap (λ (test : Bool). either test (pure (done normal)) (pure (done (breaks label))) world left) (differs name label (λ one. body (by_break one)) is none)
turn_same name body none never (came (continues label) world left) is =
    ap (λ (test : Bool). either test (pure (again tt)) (pure (done (continues label))) world left) (differs name label (λ one. body (by_continue one)) is never)
turn_same name body none never (came (returned value) world left) is = refl
turn_same name body none never (halted status world) is = refl
turn_same name body none never (bad why world) is = refl
turn_same name body none never (out world) is = refl

module _ (turn other : Unit {0} → Run (Round (Unit {0}) Flow)) (same : (state : Unit {0}) (world : World) (units : ℕ) → turn state world units ≡ other state world units) where
  next_same : (most : ℕ) → ((state : Unit {0}) (world : World) (units : ℕ) → turns_within most turn state world units ≡ turns_within most other state world units) →
      (run : Turned) → bind run (next_turn (turns_within most turn)) ≡ bind run (next_turn (turns_within most other))
  next_same most rest (came (again state) world left) = rest state world left
  next_same most rest (came (done value) world left) = refl
  next_same most rest (halted status world) = refl
  next_same most rest (bad why world) = refl
  next_same most rest (out world) = refl

  turns_same : (most : ℕ) (state : Unit {0}) (world : World) (units : ℕ) → turns_within most turn state world units ≡ turns_within most other state world units
  unfolding takes_unit seq
  turns_same zero state world units = refl
  turns_same (suc most) state world zero = refl
  turns_same (suc most) state world (suc units) =
      ap (λ (run : Turned). bind run (next_turn (turns_within most turn))) (same state world units)
      ∙ next_same most (turns_same most) (other state world units)

  pub rounds_same : (state : Unit {0}) (world : World) (units : ℕ) → rounds turn state world units ≡ rounds other state world units
  unfolding rounds
  rounds_same state world units = turns_same (suc units) state world units

turn_goes : (frame : Frame) (label : List ℕ) (body : Stmts) → stmts_name label body ≡ false → (state : Unit {0}) (world : World) (units : ℕ) →
    seq (run_stmts frame body) (after_turn (Some label)) world units ≡ seq (run_stmts frame body) (after_turn None) world units
unfolding seq
turn_goes frame label body none state world units =
    turn_same label (stmts_end body) (stmts_unbroken label body none) (stmts_unturned label body none) (run_stmts frame body world units) (stmts_come frame body world units)

pub loop_goes : (frame : Frame) (label : List ℕ) (body : Stmts) → stmts_name label body ≡ false → (world : World) (units : ℕ) →
    run_stmt frame (Loop (Some label) body) world units ≡ run_stmt frame (Loop None body) world units
loop_goes frame label body none world units =
    rounds_same (λ _. seq (run_stmts frame body) (after_turn (Some label))) (λ _. seq (run_stmts frame body) (after_turn None)) (turn_goes frame label body none) tt world units

pub labels_go : LabelsGo
labels_go = record {
  of_block = block_goes;
  of_loop = loop_goes;
  other_block = λ frame label other body none nor world units. block_goes frame label body none world units ∙ sym (block_goes frame other body nor world units);
  other_loop = λ frame label other body none nor world units. loop_goes frame label body none world units ∙ sym (loop_goes frame other body nor world units);
}
