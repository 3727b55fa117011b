-- Statements with labels by depth run as those without.
use Rattle.std.proofs.Common.{◌≡◌, ◌∙◌, ℕ, zero, suc, ◌<◌, Bool, true, false, List, [], ◌∷◌, map, length, Some, None, bytes_eq, if◌then◌else◌, arith, refl, sym, ap}
use Rattle.cr_runs.specs.Runs.{Ran, came, halted, bad, out, bind}
use Rattle.cr_world.specs.World.{World, Stop}
use Rattle.rs_text.specs.Tree.{Stmt, Assign, Eval, CopyBytes, If, Loop, Block, Break, Continue, Match, Return, Stmts, no_stmts, more_stmts, LiteralArm, Arms, no_arms, more_arms}
use Rattle.rs_mean.specs.declared.cause.Cause.{Cause}
use Rattle.rs_mean.specs.Run.{Frame, Flow, normal, breaks, continues, returned, run_expr, run_stmt, run_stmts, run_arms, then_on, after_block, after_turn, tests, is_arm}
use Rattle.rs_mean.specs.Typing.{LabelScope}
use Rattle.rs_mean.specs.Values.{Typed}
use Rattle.rs_mean.specs.World.{Run, pure, seq, takes_unit, either, Round, again, done, next_turn, turns_within, rounds}
use Rattle.rs_mean_ends.specs.Ways.{Way, way_of, is_goes, by_break, by_continue, stmt_ends, stmts_end}
use Rattle.rs_mean_ends.proofs.Ending.{ComesBy, stmt_comes, stmts_come}
use Rattle.emit_rules.specs.Jumps.{label_of}
use Rattle.emit_rules.specs.Labels.{numbered_label, numbered_stmt, numbered, numbered_arms}
use Rattle.emit_laws.specs.Closed.{is_bound, is_loop_label, of_loop, of_block, stmt_closed, stmts_closed, arms_closed}
use Rattle.emit_laws.proofs.Closing.{and_left, and_right, stmts_break, stmts_continue}
use Rattle.emit_laws.proofs.Names.{told_apart}
use Rattle.emit_laws.proofs.Runs.{same_runs, seq_seq, seq_with, pure_seq, seq_pure}
use Rattle.emit_laws.proofs.Turns.{same_label}

abbrev name_of : LabelScope → List ℕ
name_of one = one.name

-- the names of the labels around
abbrev pub names : List LabelScope → List (List ℕ)
names around = map name_of around

-- a way to end, with its label by depth
abbrev pub renamed : List LabelScope → Flow → Flow
renamed around normal = normal
renamed around (breaks label) = breaks (numbered_label (names around) label)
renamed around (continues label) = continues (numbered_label (names around) label)
renamed around (returned value) = returned value

abbrev pub by_name : List LabelScope → Flow → Run Flow
by_name around flow = pure (renamed around flow)

-- ---- labels around

-- a label around is one of a number that is less than theirs
pub record IsNumbered (around : List LabelScope) (label : List ℕ) : Type 0 where
  pub number : ℕ
  pub less : number < length (names around)
  pub is : numbered_label (names around) label ≡ label_of number

pub bound_number : (around : List LabelScope) (label : List ℕ) → is_bound around label ≡ true → IsNumbered around label
bound_number [] label is = absurd cc
bound_number (one ∷ others) label is = by_test (bytes_eq one.name label) refl is (bound_number others label)
  where
    by_test : (test : Bool) → bytes_eq one.name label ≡ test → (if test then true else is_bound others label) ≡ true → (is_bound others label ≡ true → IsNumbered others label) → IsNumbered (one ∷ others) label
    by_test true same is later = record {
      number = length (names others);
      less = omega arith;
      is = ap (λ (test : Bool). if test then label_of (length (names others)) else numbered_label (names others) label) same;
    }
    by_test false same is later =
        let found = later is in
        record {
          number = found.number;
          less = let less = found.less in omega (arith, less);
          is = ap (λ (test : Bool). if test then label_of (length (names others)) else numbered_label (names others) label) same ∙ found.is;
        }

-- so it isn't that of a further one
apart_inside : (around : List LabelScope) (label : List ℕ) → is_bound around label ≡ true → bytes_eq (label_of (length (names around))) (numbered_label (names around) label) ≡ false
apart_inside around label is =
    let found = bound_number around label is in
    ap (bytes_eq (label_of (length (names around)))) found.is ∙ told_apart (length (names around)) found.number (let less = found.less in λ same. absurd (omega (arith, less, same)))

pub loop_bound : (around : List LabelScope) (label : List ℕ) → is_loop_label around label ≡ true → is_bound around label ≡ true
loop_bound [] label is = absurd cc
loop_bound (one ∷ others) label is = by_test (bytes_eq one.name label) is (loop_bound others label)
  where
    by_test : (test : Bool) → (if test then one.is_loop else is_loop_label others label) ≡ true → (is_loop_label others label ≡ true → is_bound others label ≡ true) → (if test then true else is_bound others label) ≡ true
    by_test true is later = refl
    by_test false is later = later is

-- ---- turns

-- what a turn comes to, with labels by depth
abbrev round_by_name : List LabelScope → Round (Unit {0}) Flow → Round (Unit {0}) Flow
round_by_name around (again state) = again state
round_by_name around (done flow) = done (renamed around flow)

module _ (around : List LabelScope) (turn other : Unit {0} → Run (Round (Unit {0}) Flow)) (same : (state : Unit {0}) → other state ≡ seq (turn state) (λ round. pure (round_by_name around round))) where
  next_named : (most : ℕ) → ((state : Unit {0}) (world : World) (units : ℕ) → turns_within most other state world units ≡ bind (turns_within most turn state world units) (by_name around)) →
      (run : Ran (Stop Cause) World (Round (Unit {0}) Flow)) →
      bind (bind run (λ round. pure (round_by_name around round))) (next_turn (turns_within most other)) ≡ bind (bind run (next_turn (turns_within most turn))) (by_name around)
  unfolding pure
  next_named most rest (came (again state) world left) = rest state world left
  next_named most rest (came (done flow) world left) = refl
  next_named most rest (halted status world) = refl
  next_named most rest (bad why world) = refl
  next_named most rest (out world) = refl

  turns_named : (most : ℕ) (state : Unit {0}) (world : World) (units : ℕ) → turns_within most other state world units ≡ bind (turns_within most turn state world units) (by_name around)
  unfolding takes_unit seq
  turns_named zero state world units = refl
  turns_named (suc most) state world zero = refl
  turns_named (suc most) state world (suc units) =
      ap (λ (run : Run (Round (Unit {0}) Flow)). bind (run world units) (next_turn (turns_within most other))) (same state)
      ∙ next_named most (turns_named most) (turn state world units)

  rounds_named : (state : Unit {0}) → rounds other state ≡ seq (rounds turn state) (by_name around)
  unfolding rounds seq
  rounds_named state = same_runs _ _ (λ world units. turns_named (suc units) state world units)

-- ---- what follows

-- what follows statements is the same for all ways in which they end
with_ways : {A : Type 0} (can : Way → Bool) (next other : Flow → Run A) → ((flow : Flow) (world : World) (left : ℕ) → can (way_of flow) ≡ true → next flow world left ≡ other flow world left) →
    (run : Ran (Stop Cause) World Flow) → ComesBy can run → bind run next ≡ bind run other
with_ways can next other same (came flow world left) is = same flow world left is
with_ways can next other same (halted status world) is = refl
with_ways can next other same (bad why world) is = refl
with_ways can next other same (out world) is = refl

pub seq_ways : {A : Type 0} (can : Way → Bool) (first : Run Flow) (next other : Flow → Run A) → ((flow : Flow) → can (way_of flow) ≡ true → next flow ≡ other flow) →
    ((world : World) (units : ℕ) → ComesBy can (first world units)) → seq first next ≡ seq first other
unfolding seq
seq_ways {A = A} can first next other same ends =
    same_runs _ _ (λ world units. with_ways can next other (λ flow start left is. ap (λ (run : Run A). run start left) (same flow is)) (first world units) (ends world units))

-- what goes on alone is the same by any names
goes_alone : (around : List LabelScope) (flow : Flow) → is_goes (way_of flow) ≡ true → pure flow ≡ by_name around flow
goes_alone around normal is = refl
goes_alone around (breaks label) is = absurd cc
goes_alone around (continues label) is = absurd cc
goes_alone around (returned value) is = absurd cc

-- ---- blocks and loops

module _ (around : List LabelScope) (label : List ℕ) where
  -- the label by depth
  abbrev new : List ℕ
  new = label_of (length (names around))

  -- a label that isn't this one is one of those around
  is_around : (one : List ℕ) (is_loop : Bool) → is_bound (record { name = label; is_loop = is_loop } ∷ around) one ≡ true → bytes_eq label one ≡ false → is_bound around one ≡ true
  is_around one is_loop is differ = by_test (bytes_eq label one) is differ
    where
      by_test : (test : Bool) → (if test then true else is_bound around one) ≡ true → test ≡ false → is_bound around one ≡ true
      by_test true is differ = absurd cc
      by_test false is differ = is

  block_breaks : (one : List ℕ) (test : Bool) → (test ≡ false → is_bound around one ≡ true) →
      after_block new (breaks (if test then new else numbered_label (names around) one)) ≡ seq (either test (pure normal) (pure (breaks one))) (by_name around)
  block_breaks one true bound = ap (λ (test : Bool). either test (pure normal) (pure (breaks new))) (same_label new) ∙ sym (pure_seq normal (by_name around))
  block_breaks one false bound =
      ap (λ (test : Bool). either test (pure normal) (pure (breaks (numbered_label (names around) one)))) (apart_inside around one (bound refl)) ∙ sym (pure_seq (breaks one) (by_name around))

  block_continues : (one : List ℕ) (test : Bool) → (if test then false else is_loop_label around one) ≡ true →
      pure (continues (if test then new else numbered_label (names around) one)) ≡ seq (pure (continues one)) (by_name around)
  block_continues one true loop = absurd cc
  block_continues one false loop = sym (pure_seq (continues one) (by_name around))

  block_way : (can : Way → Bool) → ((one : List ℕ) → can (by_break one) ≡ true → is_bound (of_block label ∷ around) one ≡ true) →
      ((one : List ℕ) → can (by_continue one) ≡ true → is_loop_label (of_block label ∷ around) one ≡ true) → (flow : Flow) → can (way_of flow) ≡ true →
      seq (by_name (of_block label ∷ around) flow) (after_block new) ≡ seq (after_block label flow) (by_name around)
  block_way can bound loop normal is = pure_seq normal (after_block new) ∙ sym (pure_seq normal (by_name around))
  block_way can bound loop (breaks one) is =
      pure_seq (renamed (of_block label ∷ around) (breaks one)) (after_block new) ∙ block_breaks one (bytes_eq label one) (λ differ. is_around one false (bound one is) differ)
  block_way can bound loop (continues one) is =
      pure_seq (renamed (of_block label ∷ around) (continues one)) (after_block new) ∙ block_continues one (bytes_eq label one) (loop one is)
  block_way can bound loop (returned value) is = pure_seq (returned value) (after_block new) ∙ sym (pure_seq (returned value) (by_name around))

  -- what a turn comes to, by depth
  abbrev round_named : Round (Unit {0}) Flow → Run (Round (Unit {0}) Flow)
  round_named round = pure (round_by_name around round)

  loop_breaks : (one : List ℕ) (test : Bool) → (test ≡ false → is_bound around one ≡ true) →
      after_turn (Some new) (breaks (if test then new else numbered_label (names around) one)) ≡ seq (either test (pure (done normal)) (pure (done (breaks one)))) round_named
  loop_breaks one true bound = ap (λ (test : Bool). either test (pure (done normal)) (pure (done (breaks new)))) (same_label new) ∙ sym (pure_seq (done normal) round_named)
  loop_breaks one false bound =
      ap (λ (test : Bool). either test (pure (done normal)) (pure (done (breaks (numbered_label (names around) one))))) (apart_inside around one (bound refl))
      ∙ sym (pure_seq (done (breaks one)) round_named)

  loop_continues : (one : List ℕ) (test : Bool) → (test ≡ false → is_bound around one ≡ true) →
      after_turn (Some new) (continues (if test then new else numbered_label (names around) one)) ≡ seq (either test (pure (again tt)) (pure (done (continues one)))) round_named
  loop_continues one true bound = ap (λ (test : Bool). either test (pure (again tt)) (pure (done (continues new)))) (same_label new) ∙ sym (pure_seq (again tt) round_named)
  loop_continues one false bound =
      ap (λ (test : Bool). either test (pure (again tt)) (pure (done (continues (numbered_label (names around) one))))) (apart_inside around one (bound refl))
      ∙ sym (pure_seq (done (continues one)) round_named)

  loop_way : (can : Way → Bool) → ((one : List ℕ) → can (by_break one) ≡ true → is_bound (of_loop label ∷ around) one ≡ true) →
      ((one : List ℕ) → can (by_continue one) ≡ true → is_loop_label (of_loop label ∷ around) one ≡ true) → (flow : Flow) → can (way_of flow) ≡ true →
      seq (by_name (of_loop label ∷ around) flow) (after_turn (Some new)) ≡ seq (after_turn (Some label) flow) round_named
  loop_way can bound loop normal is = pure_seq normal (after_turn (Some new)) ∙ sym (pure_seq (again tt) round_named)
  loop_way can bound loop (breaks one) is =
      pure_seq (renamed (of_loop label ∷ around) (breaks one)) (after_turn (Some new)) ∙ loop_breaks one (bytes_eq label one) (λ differ. is_around one true (bound one is) differ)
  loop_way can bound loop (continues one) is =
      pure_seq (renamed (of_loop label ∷ around) (continues one)) (after_turn (Some new))
      ∙ loop_continues one (bytes_eq label one) (λ differ. is_around one true (loop_bound (of_loop label ∷ around) one (loop one is)) differ)
  loop_way can bound loop (returned value) is = pure_seq (returned value) (after_turn (Some new)) ∙ sym (pure_seq (done (returned value)) round_named)

-- of a loop without a label all go through
bare_way : (around : List LabelScope) (flow : Flow) → seq (by_name around flow) (after_turn None) ≡ seq (after_turn None flow) (λ round. pure (round_by_name around round))
bare_way around normal = pure_seq normal (after_turn None) ∙ sym (pure_seq (again tt) (λ round. pure (round_by_name around round)))
bare_way around (breaks label) = pure_seq (renamed around (breaks label)) (after_turn None) ∙ sym (pure_seq (done (breaks label)) (λ round. pure (round_by_name around round)))
bare_way around (continues label) = pure_seq (renamed around (continues label)) (after_turn None) ∙ sym (pure_seq (done (continues label)) (λ round. pure (round_by_name around round)))
bare_way around (returned value) = pure_seq (returned value) (after_turn None) ∙ sym (pure_seq (done (returned value)) (λ round. pure (round_by_name around round)))

-- ---- statements

module _ (frame : Frame) where
  simple_named : (around : List LabelScope) (s : Stmt) → ((way : Way) → stmt_ends s way ≡ true → is_goes way ≡ true) → run_stmt frame s ≡ seq (run_stmt frame s) (by_name around)
  simple_named around s goes_on =
      sym (seq_pure (run_stmt frame s)) ∙ seq_ways (stmt_ends s) (run_stmt frame s) (λ flow. pure flow) (by_name around) (λ flow is. goes_alone around flow (goes_on (way_of flow) is)) (stmt_comes frame s)

  -- one of two sides
  side_named : (around : List LabelScope) (test : Bool) (one other one_named other_named : Run Flow) → one_named ≡ seq one (by_name around) → other_named ≡ seq other (by_name around) →
      either test one_named other_named ≡ seq (either test one other) (by_name around)
  side_named around true one other one_named other_named is so = is
  side_named around false one other one_named other_named is so = so

  -- statements behind one
  then_named : (around : List LabelScope) (rest rest_named : Run Flow) → rest_named ≡ seq rest (by_name around) → (flow : Flow) → seq (by_name around flow) (then_on rest_named) ≡ seq (then_on rest flow) (by_name around)
  then_named around rest rest_named is normal = pure_seq normal (then_on rest_named) ∙ is
  then_named around rest rest_named is (breaks label) = pure_seq (renamed around (breaks label)) (then_on rest_named) ∙ sym (pure_seq (breaks label) (by_name around))
  then_named around rest rest_named is (continues label) = pure_seq (renamed around (continues label)) (then_on rest_named) ∙ sym (pure_seq (continues label) (by_name around))
  then_named around rest rest_named is (returned value) = pure_seq (returned value) (then_on rest_named) ∙ sym (pure_seq (returned value) (by_name around))

  -- a piece behind statements
  behind_named : {A : Type 0} (inner : List LabelScope) (body named : Run Flow) (next : Flow → Run A) → named ≡ seq body (by_name inner) → seq named next ≡ seq body (λ flow. seq (by_name inner flow) next)
  behind_named {A = A} inner body named next is = ap (λ (run : Run Flow). seq run next) is ∙ seq_seq body (by_name inner) next

  mutual
    stmt_named : (around : List LabelScope) (s : Stmt) → stmt_closed around s ≡ true → run_stmt frame (numbered_stmt (names around) s) ≡ seq (run_stmt frame s) (by_name around)
    stmt_named around (Assign p e) closed = simple_named around (Assign p e) (λ way is. is)
    stmt_named around (Eval e) closed = simple_named around (Eval e) (λ way is. is)
    stmt_named around (CopyBytes source target count) closed = simple_named around (CopyBytes source target count) (λ way is. is)
    stmt_named around (If condition if_true if_false) closed =
        let one = stmts_named around if_true (and_left (stmts_closed around if_true) (stmts_closed around if_false) closed) in
        let other = stmts_named around if_false (and_right (stmts_closed around if_true) (stmts_closed around if_false) closed) in
        seq_with (run_expr frame condition) _ _ (λ value. seq_with (tests value) _ _ (λ test. side_named around test (run_stmts frame if_true) (run_stmts frame if_false) _ _ one other)
        ∙ sym (seq_seq (tests value) _ _))
        ∙ sym (seq_seq (run_expr frame condition) _ _)
    stmt_named around (Loop None body) closed =
        rounds_named around (λ state. seq (run_stmts frame body) (after_turn None)) (λ state. seq (run_stmts frame (numbered (names around) body)) (after_turn None))
        (λ state. behind_named around (run_stmts frame body) _ (after_turn None) (stmts_named around body closed) ∙ seq_with (run_stmts frame body) _ _ (bare_way around)
        ∙ sym (seq_seq (run_stmts frame body) (after_turn None) _)) tt
    stmt_named around (Loop (Some label) body) closed =
        rounds_named around (λ state. seq (run_stmts frame body) (after_turn (Some label))) (λ state. seq (run_stmts frame (numbered (names (of_loop label ∷ around)) body)) (after_turn (Some (new around label))))
        (λ state. behind_named (of_loop label ∷ around) (run_stmts frame body) _ (after_turn (Some (new around label))) (stmts_named (of_loop label ∷ around) body closed)
        ∙ seq_ways (stmts_end body) (run_stmts frame body) _ _
        (loop_way around label (stmts_end body) (λ one is. stmts_break one (of_loop label ∷ around) body closed is) (λ one is. stmts_continue one (of_loop label ∷ around) body closed is)) (stmts_come frame body)
        ∙ sym (seq_seq (run_stmts frame body) (after_turn (Some label)) _)) tt
    stmt_named around (Block label body) closed =
        behind_named (of_block label ∷ around) (run_stmts frame body) _ (after_block (new around label)) (stmts_named (of_block label ∷ around) body closed)
        ∙ seq_ways (stmts_end body) (run_stmts frame body) _ _
        (block_way around label (stmts_end body) (λ one is. stmts_break one (of_block label ∷ around) body closed is) (λ one is. stmts_continue one (of_block label ∷ around) body closed is)) (stmts_come frame body)
        ∙ sym (seq_seq (run_stmts frame body) (after_block label) _)
    stmt_named around (Break label) closed = sym (pure_seq (breaks label) (by_name around))
    stmt_named around (Continue label) closed = sym (pure_seq (continues label) (by_name around))
    stmt_named around (Match e cases other) closed =
        let rest = stmts_named around other (and_right (arms_closed around cases) (stmts_closed around other) closed) in
        seq_with (run_expr frame e) _ _ (λ value. arms_named around cases (and_left (arms_closed around cases) (stmts_closed around other) closed) value (run_stmts frame other) _ rest)
        ∙ sym (seq_seq (run_expr frame e) _ _)
    stmt_named around (Return None) closed = sym (pure_seq (returned None) (by_name around))
    stmt_named around (Return (Some e)) closed =
        seq_with (run_expr frame e) _ _ (λ value. sym (pure_seq (returned (Some value)) (by_name around))) ∙ sym (seq_seq (run_expr frame e) _ _)

    pub stmts_named : (around : List LabelScope) (ss : Stmts) → stmts_closed around ss ≡ true → run_stmts frame (numbered (names around) ss) ≡ seq (run_stmts frame ss) (by_name around)
    stmts_named around no_stmts closed = sym (pure_seq normal (by_name around))
    stmts_named around (more_stmts s ss) closed =
        behind_named around (run_stmt frame s) _ _ (stmt_named around s (and_left (stmt_closed around s) (stmts_closed around ss) closed))
        ∙ seq_with (run_stmt frame s) _ _ (then_named around (run_stmts frame ss) _ (stmts_named around ss (and_right (stmt_closed around s) (stmts_closed around ss) closed)))
        ∙ sym (seq_seq (run_stmt frame s) _ _)

    arms_named : (around : List LabelScope) (cases : Arms) → arms_closed around cases ≡ true → (value : Typed) (rest rest_named : Run Flow) → rest_named ≡ seq rest (by_name around) →
        run_arms frame value (numbered_arms (names around) cases) rest_named ≡ seq (run_arms frame value cases rest) (by_name around)
    arms_named around no_arms closed value rest rest_named is = is
    arms_named around (more_arms (LiteralArm number ty body) others) closed value rest rest_named is =
        side_named around (is_arm number value) (run_stmts frame body) (run_arms frame value others rest) _ _
        (stmts_named around body (and_left (stmts_closed around body) (arms_closed around others) closed))
        (arms_named around others (and_right (stmts_closed around body) (arms_closed around others) closed) value rest rest_named is)
