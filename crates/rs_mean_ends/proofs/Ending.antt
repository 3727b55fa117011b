-- Statements end in ways alone in which they can by their form.
use Rattle.std.proofs.Common.{◌≡◌, ℕ, zero, suc, Bool, true, false, not, ◌&&◌, ◌||◌, List, Option, Some, None, refl, sym, subst, bytes_eq}
use Rattle.std.proofs.lemmas.Slice.Eq.{bytes_eq-Decides}
use Rattle.std.specs.Cmp.Lexicographic.{same_text}
use Rattle.cr_runs.specs.Runs.{Ran, came, halted, bad, out, bind}
use Rattle.cr_world.specs.World.{World, Stop}
use Rattle.rs_text.specs.Tree.{Expr, Literal, Truth, NoFunction, Read, Call as CallTree, CallBy, Wrapped, WrappingNeg, Offset, OffsetFrom, IsNull, IsNone, AddressOf, NullPointer, SomeFunction, Transmute, Neg, Not, Cast, Binary, And, Or, Choose, Stmt, Assign, Eval, CopyBytes, If, Loop, Block, Break, Continue, Match, Return, Stmts, no_stmts, more_stmts, LiteralArm, Arms, no_arms, more_arms}
use Rattle.rs_mean.specs.declared.cause.Cause.{Cause}
use Rattle.rs_mean.specs.Run.{Frame, Flow, normal, breaks, continues, returned, goes_on, run_dropped, after_block, after_turn, then_on, is_arm, run_stmt, run_stmts, run_arms}
use Rattle.rs_mean.specs.Values.{Typed}
use Rattle.rs_mean.specs.World.{Run, pure, seq, takes_unit, either, Round, again, done, next_turn, turns_within, rounds}
use Rattle.rs_mean_ends.specs.Ways.{Way, goes, by_break, by_continue, by_return, way_of, is_goes, block_ends, loop_ends, list_ends, stmt_ends, stmts_end, arms_end}
use Rattle.rs_mean_ends.specs.Laws.{EndsByForm}

-- a piece that came to its end did so in one of these ways
abbrev pub ComesBy : (Way → Bool) → Ran (Stop Cause) World Flow → Type 0
ComesBy can (came flow world left) = can (way_of flow) ≡ true
ComesBy can (halted status world) = Unit {0}
ComesBy can (bad why world) = Unit {0}
ComesBy can (out world) = Unit {0}

abbrev pub Ends : (Way → Bool) → Run Flow → Type 0
Ends can run = (world : World) (units : ℕ) → ComesBy can (run world units)

-- ---- pieces

ends_pure : (can : Way → Bool) (flow : Flow) → can (way_of flow) ≡ true → Ends can (pure flow)
unfolding pure
ends_pure can flow is world units = is

bind_ends : {A : Type 0} (can : Way → Bool) (first : Ran (Stop Cause) World A) (next : A → Run Flow) → ((value : A) → Ends can (next value)) → ComesBy can (bind first next)
bind_ends can (came value world left) next h = h value world left
bind_ends can (halted status world) next h = tt
bind_ends can (bad why world) next h = tt
bind_ends can (out world) next h = tt

seq_ends : (A : Type 0) (can : Way → Bool) (first : Run A) (next : A → Run Flow) → ((value : A) → Ends can (next value)) → Ends can (seq first next)
unfolding seq
seq_ends A can first next h world units = bind_ends can (first world units) next h

bind_then : (front can : Way → Bool) (first : Ran (Stop Cause) World Flow) (next : Flow → Run Flow) → ComesBy front first →
    ((flow : Flow) → front (way_of flow) ≡ true → Ends can (next flow)) → ComesBy can (bind first next)
bind_then front can (came flow world left) next is h = h flow is world left
bind_then front can (halted status world) next is h = tt
bind_then front can (bad why world) next is h = tt
bind_then front can (out world) next is h = tt

seq_then : (front can : Way → Bool) (first : Run Flow) (next : Flow → Run Flow) → Ends front first →
    ((flow : Flow) → front (way_of flow) ≡ true → Ends can (next flow)) → Ends can (seq first next)
unfolding seq
seq_then front can first next is h world units = bind_then front can (first world units) next (is world units) h

either_ends : (can : Way → Bool) (test : Bool) (one other : Run Flow) → Ends can one → Ends can other → Ends can (either test one other)
either_ends can true one other h k = h
either_ends can false one other h k = k

-- ends of one piece are ends of more
more_by : (can wider : Way → Bool) → ((way : Way) → can way ≡ true → wider way ≡ true) → (run : Ran (Stop Cause) World Flow) → ComesBy can run → ComesBy wider run
more_by can wider more (came flow world left) is = more (way_of flow) is
more_by can wider more (halted status world) is = tt
more_by can wider more (bad why world) is = tt
more_by can wider more (out world) is = tt

more_ends : (can wider : Way → Bool) → ((way : Way) → can way ≡ true → wider way ≡ true) → (run : Run Flow) → Ends can run → Ends wider run
more_ends can wider more run h world units = more_by can wider more (run world units) (h world units)

-- ---- tests

left_of : (one other : Bool) → one ≡ true → (one || other) ≡ true
left_of true other is = refl
left_of false other is = absurd cc

right_of : (one other : Bool) → other ≡ true → (one || other) ≡ true
right_of true other is = refl
right_of false other is = is

both_of : (one other : Bool) → one ≡ true → other ≡ true → (one && other) ≡ true
both_of true other one is = is
both_of false other one is = absurd cc

not_by : (test : Bool) → test ≡ false → not test ≡ true
not_by true is = absurd cc
not_by false is = refl

under : (first second other : Bool) → (second || other) ≡ true → ((first || second) || other) ≡ true
under true second other is = refl
under false second other is = is

-- ---- lists

-- behind a first statement that came to its end, others that do
others_end : (first others : Way → Bool) → first goes ≡ true → (way : Way) → others way ≡ true → list_ends first others way ≡ true
others_end first others is goes ends = both_of (first goes) (others goes) is ends
others_end first others is (by_break label) ends = right_of (first (by_break label)) _ (both_of (first goes) (others (by_break label)) is ends)
others_end first others is (by_continue label) ends = right_of (first (by_continue label)) _ (both_of (first goes) (others (by_continue label)) is ends)
others_end first others is by_return ends = right_of (first by_return) _ (both_of (first goes) (others by_return) is ends)

then_ends : (first others : Way → Bool) (rest : Run Flow) → Ends others rest → (flow : Flow) → first (way_of flow) ≡ true → Ends (list_ends first others) (then_on rest flow)
then_ends first others rest h normal is = more_ends others (list_ends first others) (others_end first others is) rest h
then_ends first others rest h (breaks label) is = ends_pure (list_ends first others) (breaks label) (left_of (first (by_break label)) _ is)
then_ends first others rest h (continues label) is = ends_pure (list_ends first others) (continues label) (left_of (first (by_continue label)) _ is)
then_ends first others rest h (returned value) is = ends_pure (list_ends first others) (returned value) (left_of (first by_return) _ is)

-- ---- blocks

broken_by : (name label : List ℕ) (body : Way → Bool) → body (by_break label) ≡ true → (test : Bool) → bytes_eq name label ≡ test →
    Ends (block_ends name body) (either test (pure normal) (pure (breaks label)))
broken_by name label body is true same =
    let own : body (by_break name) ≡ true = subst (λ (one : List ℕ). body (by_break one) ≡ true) (sym (same_text name label (sym same))) is in
    ends_pure (block_ends name body) normal (right_of (body goes) (body (by_break name)) own)
broken_by name label body is false same =
    ends_pure (block_ends name body) (breaks label) (both_of (not (bytes_eq name label)) (body (by_break label)) (not_by (bytes_eq name label) same) is)

block_after : (name : List ℕ) (body : Way → Bool) (flow : Flow) → body (way_of flow) ≡ true → Ends (block_ends name body) (after_block name flow)
block_after name body normal is = ends_pure (block_ends name body) normal (left_of (body goes) (body (by_break name)) is)
block_after name body (breaks label) is = broken_by name label body is (bytes_eq name label) refl
block_after name body (continues label) is = ends_pure (block_ends name body) (continues label) is
block_after name body (returned value) is = ends_pure (block_ends name body) (returned value) is

-- ---- loops

-- a turn that is the last one ends in one of these ways
abbrev LastBy : (Way → Bool) → Ran (Stop Cause) World (Round (Unit {0}) Flow) → Type 0
LastBy can (came (again state) world left) = Unit {0}
LastBy can (came (done flow) world left) = can (way_of flow) ≡ true
LastBy can (halted status world) = Unit {0}
LastBy can (bad why world) = Unit {0}
LastBy can (out world) = Unit {0}

abbrev Lasts : (Way → Bool) → Run (Round (Unit {0}) Flow) → Type 0
Lasts can turn = (world : World) (units : ℕ) → LastBy can (turn world units)

lasts_again : (can : Way → Bool) → Lasts can (pure (again tt))
unfolding pure
lasts_again can world units = tt

lasts_done : (can : Way → Bool) (flow : Flow) → can (way_of flow) ≡ true → Lasts can (pure (done flow))
unfolding pure
lasts_done can flow is world units = is

bind_lasts : (front can : Way → Bool) (first : Ran (Stop Cause) World Flow) (next : Flow → Run (Round (Unit {0}) Flow)) → ComesBy front first →
    ((flow : Flow) → front (way_of flow) ≡ true → Lasts can (next flow)) → LastBy can (bind first next)
bind_lasts front can (came flow world left) next is h = h flow is world left
bind_lasts front can (halted status world) next is h = tt
bind_lasts front can (bad why world) next is h = tt
bind_lasts front can (out world) next is h = tt

seq_lasts : (front can : Way → Bool) (first : Run Flow) (next : Flow → Run (Round (Unit {0}) Flow)) → Ends front first →
    ((flow : Flow) → front (way_of flow) ≡ true → Lasts can (next flow)) → Lasts can (seq first next)
unfolding seq
seq_lasts front can first next is h world units = bind_lasts front can (first world units) next (is world units) h

left_by : (name label : List ℕ) (body : Way → Bool) → body (by_break label) ≡ true → (test : Bool) → bytes_eq name label ≡ test →
    Lasts (loop_ends (Some name) body) (either test (pure (done normal)) (pure (done (breaks label))))
left_by name label body is true same =
    lasts_done (loop_ends (Some name) body) normal (subst (λ (one : List ℕ). body (by_break one) ≡ true) (sym (same_text name label (sym same))) is)
left_by name label body is false same =
    lasts_done (loop_ends (Some name) body) (breaks label) (both_of (not (bytes_eq name label)) (body (by_break label)) (not_by (bytes_eq name label) same) is)

turned_by : (name label : List ℕ) (body : Way → Bool) → body (by_continue label) ≡ true → (test : Bool) → bytes_eq name label ≡ test →
    Lasts (loop_ends (Some name) body) (either test (pure (again tt)) (pure (done (continues label))))
turned_by name label body is true same = lasts_again (loop_ends (Some name) body)
turned_by name label body is false same =
    lasts_done (loop_ends (Some name) body) (continues label) (both_of (not (bytes_eq name label)) (body (by_continue label)) (not_by (bytes_eq name label) same) is)

turn_after : (label : Option (List ℕ)) (body : Way → Bool) (flow : Flow) → body (way_of flow) ≡ true → Lasts (loop_ends label body) (after_turn label flow)
turn_after label body normal is = lasts_again (loop_ends label body)
turn_after None body (breaks name) is = lasts_done (loop_ends None body) (breaks name) is
turn_after (Some own) body (breaks name) is = left_by own name body is (bytes_eq own name) refl
turn_after None body (continues name) is = lasts_done (loop_ends None body) (continues name) is
turn_after (Some own) body (continues name) is = turned_by own name body is (bytes_eq own name) refl
turn_after None body (returned value) is = lasts_done (loop_ends None body) (returned value) is
turn_after (Some own) body (returned value) is = lasts_done (loop_ends (Some own) body) (returned value) is

next_ends : (can : Way → Bool) (rest : Unit {0} → Run Flow) → ((state : Unit {0}) → Ends can (rest state)) → (round : Ran (Stop Cause) World (Round (Unit {0}) Flow)) → LastBy can round →
    ComesBy can (bind round (next_turn rest))
unfolding pure
next_ends can rest h (came (again state) world left) is = h state world left
next_ends can rest h (came (done flow) world left) is = is
next_ends can rest h (halted status world) is = tt
next_ends can rest h (bad why world) is = tt
next_ends can rest h (out world) is = tt

turns_end : (can : Way → Bool) (turn : Unit {0} → Run (Round (Unit {0}) Flow)) → ((state : Unit {0}) → Lasts can (turn state)) → (most : ℕ) (state : Unit {0}) → Ends can (turns_within most turn state)
unfolding takes_unit seq
turns_end can turn h zero state world units = tt
turns_end can turn h (suc most) state world zero = tt
turns_end can turn h (suc most) state world (suc units) =
    next_ends can (turns_within most turn) (turns_end can turn h most) (turn state world units) (h state world units)

rounds_end : (can : Way → Bool) (turn : Unit {0} → Run (Round (Unit {0}) Flow)) → ((state : Unit {0}) → Lasts can (turn state)) → (state : Unit {0}) → Ends can (rounds turn state)
unfolding rounds
rounds_end can turn h state world units = turns_end can turn h (suc units) state world units

-- ---- statements

goes_ends : {A : Type 0} (run : Run A) → Ends is_goes (seq run goes_on)
goes_ends run = seq_ends _ is_goes run goes_on (λ value. ends_pure is_goes normal refl)

dropped_ends : (frame : Frame) (e : Expr) → Ends is_goes (run_dropped frame e)
dropped_ends frame (CallTree m x args) = seq_ends _ is_goes _ _ (λ values. goes_ends _)
dropped_ends frame (CallBy e args) = goes_ends _
dropped_ends frame (Literal value ty) = goes_ends _
dropped_ends frame (Truth value) = goes_ends _
dropped_ends frame NoFunction = goes_ends _
dropped_ends frame (Read p) = goes_ends _
dropped_ends frame (Wrapped e op arg) = goes_ends _
dropped_ends frame (WrappingNeg e) = goes_ends _
dropped_ends frame (Offset e arg) = goes_ends _
dropped_ends frame (OffsetFrom e arg) = goes_ends _
dropped_ends frame (IsNull e) = goes_ends _
dropped_ends frame (IsNone e) = goes_ends _
dropped_ends frame (AddressOf p) = goes_ends _
dropped_ends frame (NullPointer ty) = goes_ends _
dropped_ends frame (SomeFunction m x params result) = goes_ends _
dropped_ends frame (Transmute from to e) = goes_ends _
dropped_ends frame (Neg e) = goes_ends _
dropped_ends frame (Not e) = goes_ends _
dropped_ends frame (Cast e ty) = goes_ends _
dropped_ends frame (Binary l op r) = goes_ends _
dropped_ends frame (And l r) = goes_ends _
dropped_ends frame (Or l r) = goes_ends _
dropped_ends frame (Choose condition if_true if_false) = goes_ends _

own_break : (label : List ℕ) → bytes_eq label label ≡ true
own_break label = (bytes_eq-Decides label label).1 refl

mutual
  pub stmt_comes : (frame : Frame) (s : Stmt) → Ends (stmt_ends s) (run_stmt frame s)
  stmt_comes frame (Assign p e) = seq_ends _ is_goes _ _ (λ stored. seq_ends _ is_goes _ _ (λ place. goes_ends _))
  stmt_comes frame (Eval e) = dropped_ends frame e
  stmt_comes frame (CopyBytes source target count) =
      seq_ends _ is_goes _ _ (λ from. seq_ends _ is_goes _ _ (λ to. seq_ends _ is_goes _ _ (λ bytes. goes_ends _)))
  stmt_comes frame (If condition if_true if_false) =
      seq_ends _ (stmt_ends (If condition if_true if_false)) _ _ (λ value. seq_ends _ (stmt_ends (If condition if_true if_false)) _ _ (λ test.
      either_ends (stmt_ends (If condition if_true if_false)) test (run_stmts frame if_true) (run_stmts frame if_false)
      (more_ends (stmts_end if_true) (stmt_ends (If condition if_true if_false)) (λ way is. left_of (stmts_end if_true way) (stmts_end if_false way) is) (run_stmts frame if_true) (stmts_come frame if_true))
      (more_ends (stmts_end if_false) (stmt_ends (If condition if_true if_false)) (λ way is. right_of (stmts_end if_true way) (stmts_end if_false way) is) (run_stmts frame if_false) (stmts_come frame if_false))))
  stmt_comes frame (Loop label body) =
      rounds_end (loop_ends label (stmts_end body)) (λ _. seq (run_stmts frame body) (after_turn label))
      (λ _. seq_lasts (stmts_end body) (loop_ends label (stmts_end body)) (run_stmts frame body) (after_turn label) (stmts_come frame body) (turn_after label (stmts_end body))) tt
  stmt_comes frame (Block label body) =
      seq_then (stmts_end body) (block_ends label (stmts_end body)) (run_stmts frame body) (after_block label) (stmts_come frame body) (block_after label (stmts_end body))
  stmt_comes frame (Break label) = ends_pure (stmt_ends (Break label)) (breaks label) (own_break label)
  stmt_comes frame (Continue label) = ends_pure (stmt_ends (Continue label)) (continues label) (own_break label)
  stmt_comes frame (Match e cases other) =
      seq_ends _ (stmt_ends (Match e cases other)) _ _ (λ value. arms_come frame value cases other (run_stmts frame other) (stmts_come frame other))
  stmt_comes frame (Return None) = ends_pure (stmt_ends (Return None)) (returned None) refl
  stmt_comes frame (Return (Some e)) = seq_ends _ (stmt_ends (Return (Some e))) _ _ (λ value. ends_pure (stmt_ends (Return (Some e))) (returned (Some value)) refl)

  pub stmts_come : (frame : Frame) (ss : Stmts) → Ends (stmts_end ss) (run_stmts frame ss)
  stmts_come frame no_stmts = ends_pure (stmts_end no_stmts) normal refl
  stmts_come frame (more_stmts s ss) =
      seq_then (stmt_ends s) (list_ends (stmt_ends s) (stmts_end ss)) (run_stmt frame s) (then_on (run_stmts frame ss)) (stmt_comes frame s)
      (then_ends (stmt_ends s) (stmts_end ss) (run_stmts frame ss) (stmts_come frame ss))

  arms_come : (frame : Frame) (value : Typed) (cases : Arms) (others : Stmts) (other : Run Flow) → Ends (stmts_end others) other →
      Ends (λ way. arms_end cases way || stmts_end others way) (run_arms frame value cases other)
  arms_come frame value no_arms others other h = h
  arms_come frame value (more_arms (LiteralArm number ty body) rest) others other h =
      either_ends (λ way. (stmts_end body way || arms_end rest way) || stmts_end others way) (is_arm number value) (run_stmts frame body) (run_arms frame value rest other)
      (more_ends (stmts_end body) (λ way. (stmts_end body way || arms_end rest way) || stmts_end others way)
      (λ way is. left_of (stmts_end body way || arms_end rest way) (stmts_end others way) (left_of (stmts_end body way) (arms_end rest way) is)) (run_stmts frame body) (stmts_come frame body))
      (more_ends (λ way. arms_end rest way || stmts_end others way) (λ way. (stmts_end body way || arms_end rest way) || stmts_end others way)
      (λ way is. under (stmts_end body way) (arms_end rest way) (stmts_end others way) is) (run_arms frame value rest other) (arms_come frame value rest others other h))

-- ---- the law

comes_by : (can : Way → Bool) (run : Ran (Stop Cause) World Flow) (flow : Flow) (after : World) (left : ℕ) → ComesBy can run → run ≡ came flow after left → can (way_of flow) ≡ true
comes_by can run flow after left comes is = subst (λ (one : Ran (Stop Cause) World Flow). ComesBy can one) is comes

pub ends_by_form : EndsByForm
ends_by_form = record {
  stmt = λ frame s world units flow after left is. comes_by (stmt_ends s) (run_stmt frame s world units) flow after left (stmt_comes frame s world units) is;
  stmts = λ frame ss world units flow after left is. comes_by (stmts_end ss) (run_stmts frame ss world units) flow after left (stmts_come frame ss world units) is;
}
