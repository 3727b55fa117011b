-- Arguments, frames and calls, and what an engine does of them.
use Rattle.std.proofs.Common.{◌≡◌, ◌∙◌, refl, sym, ap, subst, arith, ℕ, Bool, true, false, List, [], ◌∷◌, ◌++◌, length, map, Option, Some, None, option_map, Ok, Bor}
use Rattle.std.proofs.lemmas.List.{map-append}
use Rattle.cr_runs.specs.Runs.{Ran, came, halted, bad, out, bind}
use Rattle.cr_world.specs.Held.{Held, without_block, with_blocks}
use Rattle.cr_world.specs.World.{World, Stop}
use Rattle.ext_calls.specs.Host.{HostState}
use Rattle.mem_bytes.specs.Counted.{Limit}
use Rattle.mem_bytes.specs.Memory.{Blocks}
use Rattle.rs_mean.specs.declared.cause.Cause.{Cause}
use Rattle.rs_mean.specs.Calls.{end_locals, accepts}
use Rattle.rs_mean.specs.Laws.{bodies_of}
use Rattle.rs_mean.specs.declared.cause.Cause.TheVariants.{WrongCall}
use Rattle.rs_mean.specs.Lookups.{LocalBlock, Callee, own, signature_of, own_signature}
use Rattle.rs_mean.specs.Run.{Bodies, Frame, Flow, run_expr, run_exprs, run_stmts, run_callee, call_found, call_pointed, called_as, retyped, in_frame}
use Rattle.rs_mean.specs.Values.{Typed}
use Rattle.rs_mean.specs.World.{Run, pure, seq, local, takes_unit}
use Rattle.rs_mean.proofs.Unfolded.{bodies_unfold}
use Rattle.rs_text.specs.Tree.{Tys, OptionTy, exprs, stmts, FunctionTree, ModuleTree}
use Rattle.rs_tree.specs.declared.item.Function.{Function}
use Rattle.rs_layout.specs.declared.lookup.HeldCallee.{HeldCallee}
use Rattle.rs_layout.specs.Found.{callee_view}
use Rattle.std.specs.Option.{option_copied}
use Rattle.rs_tree.specs.declared.stmt.RStmt.{RStmt}
use Rattle.rs_tree.specs.declared.expr.RExpr.{RExpr}
use Rattle.rs_tree.specs.Views.{expr_view, function_view, stmt_view}
use Rattle.rs_value.specs.declared.typed.TypedValue.{TypedValue}
use Rattle.rs_value.specs.Views.{typed_view}
use Rattle.rs_scene.specs.Frames.{frame_begins, without_blocks}
use Rattle.rs_scene.specs.Scenes.{held_local}
use Rattle.rs_scene.specs.declared.scene.HeldLocal.{HeldLocal}
use Rattle.rs_machine.specs.Does.{End, gives, stops, Stopped, no_memory, no_units, went_wrong, Does}
use Rattle.rs_machine.specs.States.{State, Kept, state}
use Rattle.rs_machine.specs.Moves.{TookUnit}
use Rattle.rs_machine.proofs.Pieces.{then_does, stops_first, same_does, Quiet}
use Rattle.rs_machine.proofs.Rules.{memory_here, pure_is, fails_does, true_does, false_does, local_does, TakesUnit, unit_does, no_unit_does}
use Rattle.rs_scene.proofs.Sequences.{behind_none, joined_does, no_more, one_more}

-- ---- arguments

module _ (frame : Frame) where
  pub no_args : (done : List Typed) (list : List RExpr) (at : State) → length list ≡ 0 →
      Does (seq (run_exprs frame (exprs (map expr_view list))) (λ others. pure (done ++ others))) (gives done) at at
  no_args done [] at is = no_more done at
  no_args done (one ∷ list) at is = absurd (omega (arith, is))

  pub arg_stops : (done : List Typed) (list others : List RExpr) (one : RExpr) {stop : Stopped} {first second : State} → list ≡ one ∷ others →
      Does (run_expr frame (expr_view one)) (stops stop) first second →
      Does (seq (run_exprs frame (exprs (map expr_view list))) (λ more. pure (done ++ more))) (stops stop) first second
  arg_stops done list others one {stop = stop} {first = first} {second = second} is does =
      subst (λ (items : List RExpr). Does (seq (run_exprs frame (exprs (map expr_view items))) (λ more. pure (done ++ more))) (stops stop) first second) (sym is)
      (stops_first _ (stops_first _ does))

  -- memory was wanting for the value of an argument
  pub arg_unheld : (before : List TypedValue) (value : TypedValue) (list others : List RExpr) (one : RExpr) {first second : State} → list ≡ one ∷ others →
      Does (run_expr frame (expr_view one)) (gives (typed_view value)) first second →
      Does (seq (run_exprs frame (exprs (map expr_view list))) (λ more. pure (map typed_view before ++ more))) (stops no_memory) first second
  arg_unheld before value list others one {first = first} {second = second} is does =
      subst (λ (items : List RExpr). Does (seq (run_exprs frame (exprs (map expr_view items))) (λ more. pure (map typed_view before ++ more))) (stops no_memory) first second) (sym is)
      (stops_first _ (then_does _ does memory_here))

  pub args_go : (before after : List TypedValue) (value : TypedValue) (list others : List RExpr) (one : RExpr) {end : End (List Typed)} {first second third : State} →
      list ≡ one ∷ others → after ≡ before ++ value ∷ [] → Does (run_expr frame (expr_view one)) (gives (typed_view value)) first second →
      Does (seq (run_exprs frame (exprs (map expr_view others))) (λ more. pure (map typed_view after ++ more))) end second third →
      Does (seq (run_exprs frame (exprs (map expr_view list))) (λ more. pure (map typed_view before ++ more))) end first third
  args_go before after value list others one {end = end} {first = first} {second = second} {third = third} is pushed does rest =
      subst (λ (items : List RExpr). Does (seq (run_exprs frame (exprs (map expr_view items))) (λ more. pure (map typed_view before ++ more))) end first third) (sym is)
      (joined_does _ _ _ (then_does _ does (one_more (map typed_view before) (typed_view value) (run_exprs frame (exprs (map expr_view others)))
      (subst (λ (done : List Typed). Does (seq (run_exprs frame (exprs (map expr_view others))) (λ more. pure (done ++ more))) end second third)
      (ap (map typed_view) pushed ∙ map-append typed_view before (value ∷ [])) rest))))

-- behind none
pub args_begin : (frame : Frame) (list items : List RExpr) (none : List TypedValue) {end : End (List Typed)} {first second : State} → items ≡ list → none ≡ [] →
    Does (seq (run_exprs frame (exprs (map expr_view items))) (λ others. pure (map typed_view none ++ others))) end first second →
    Does (run_exprs frame (exprs (map expr_view list))) end first second
args_begin frame list items none {end = end} {first = first} {second = second} is none_is does =
    subst (λ (which : List RExpr). Does (run_exprs frame (exprs (map expr_view which))) end first second) is
    (behind_none (run_exprs frame (exprs (map expr_view items)))
    (subst (λ (done : List TypedValue). Does (seq (run_exprs frame (exprs (map expr_view items))) (λ others. pure (map typed_view done ++ others))) end first second) none_is does))

-- ---- frames

module _ {A B C D : Type 0} (second : Run B) (join : A → B → C) (last : C → Run D) where
  behind_second : (value : A) (found : Ran (Stop Cause) World B) →
      bind (bind found (λ more. pure (join value more))) last ≡ bind found (λ more. last (join value more))
  unfolding pure
  behind_second value (came more world left) = refl
  behind_second value (halted status world) = refl
  behind_second value (bad why world) = refl
  behind_second value (out world) = refl

  behind_first : (found : Ran (Stop Cause) World A) →
      bind (bind found (λ value. seq second (λ more. pure (join value more)))) last ≡ bind found (λ value. seq second (λ more. last (join value more)))
  unfolding seq
  behind_first (came value world left) = behind_second value (second world left)
  behind_first (halted status world) = refl
  behind_first (bad why world) = refl
  behind_first (out world) = refl

  both_behind : (first : Run A) (world : World) (units : ℕ) →
      seq (seq first (λ value. seq second (λ more. pure (join value more)))) last world units ≡ seq first (λ value. seq second (λ more. last (join value more))) world units
  unfolding seq
  both_behind first world units = behind_first (first world units)

module _ (modules : List ModuleTree) (fun : FunctionTree) (args : List Typed) where
  whole_does : {end : End (Option Typed)} {first last : State} →
      Does (seq (frame_begins modules fun args) (in_frame modules (bodies_of modules) fun)) end first last → Does (bodies_of modules fun args) end first last
  whole_does does =
      same_does (seq (frame_begins modules fun args) (in_frame modules (bodies_of modules) fun)) (bodies_of modules fun args)
      (λ world units. both_behind _ _ (in_frame modules (bodies_of modules) fun) _ world units ∙ sym (bodies_unfold modules fun args world units)) does

  pub frame_stops : {stop : Stopped} {first second : State} → Does (frame_begins modules fun args) (stops stop) first second →
      Does (bodies_of modules fun args) (stops stop) first second
  frame_stops does = whole_does (stops_first _ does)

  pub frame_goes : (locals : List LocalBlock) {end : End (Option Typed)} {first second third : State} → Does (frame_begins modules fun args) (gives locals) first second →
      Does (in_frame modules (bodies_of modules) fun locals) end second third → Does (bodies_of modules fun args) end first third
  frame_goes locals begins does = whole_does (then_does _ begins does)

pub frame_runs : (modules : List ModuleTree) (fun : FunctionTree) (args : List Typed) (locals list : List HeldLocal) {end : End (Option Typed)} {first second third : State} →
    list ≡ locals → Does (frame_begins modules fun args) (gives (map held_local locals)) first second →
    Does (in_frame modules (bodies_of modules) fun (map held_local list)) end second third → Does (bodies_of modules fun args) end first third
frame_runs modules fun args locals list {end = end} {second = second} {third = third} is begins does =
    frame_goes modules fun args (map held_local locals) begins
    (subst (λ (which : List HeldLocal). Does (in_frame modules (bodies_of modules) fun (map held_local which)) end second third) is does)

-- ---- ends of locals

-- a state whose memory alone is another
without_state : (kept : Kept) (blocks new : Blocks) (limit later : Option Limit) (host : HostState) → later ≡ limit →
    Quiet (state kept blocks limit host) (state kept new later host)
without_state kept blocks new limit later host same =
    record { trail = refl; units = refl; limit = same; made = refl; left = refl; takes = refl; later = omega arith }

-- the blocks without those of locals, as the meaning has them, whose own name for it is private
record Ends : Type 0 where
  pub left : List LocalBlock → Held → Blocks
  pub same : (locals : List LocalBlock) → end_locals locals ≡ local (λ held. Ok (record { value = tt; held = with_blocks (left locals held) held }))

abbrev ends : Ends
ends = record { left = _; same = λ locals. refl }

ends_same : (locals : List LocalBlock) (held : Held) → ends.left locals held ≡ without_blocks locals held.blocks
ends_same [] held = refl
ends_same (one ∷ others) held = ends_same others (with_blocks (without_block one.block held.blocks) held)

pub locals_end : (locals : List LocalBlock) (kept : Kept) (blocks new : Blocks) (limit later : Option Limit) (host : HostState) → later ≡ limit → new ≡ without_blocks locals blocks →
    Does (end_locals locals) (gives tt) (state kept blocks limit host) (state kept new later host)
locals_end locals kept blocks new limit later host same is =
    local_does _ tt (without_state kept blocks new limit later host same)
    (ap (λ (left : Blocks). Ok (record { value = tt; held = record { blocks = left; heap = kept.heap } }))
    (ends_same locals (record { blocks = blocks; heap = kept.heap }) ∙ sym is))

-- ---- lists that are the same

pub body_runs : (frame : Frame) (body list : List RStmt) {end : End Flow} {before after : State} → list ≡ body →
    Does (run_stmts frame (stmts (map stmt_view list))) end before after → Does (run_stmts frame (stmts (map stmt_view body))) end before after
body_runs frame body list {end = end} {before = before} {after = after} is does =
    subst (λ (items : List RStmt). Does (run_stmts frame (stmts (map stmt_view items))) end before after) is does

-- ---- units

pub unit_taken : (before after : Kept) (blocks : Blocks) (limit : Option Limit) (host : HostState) → TookUnit true before after → TakesUnit (state before blocks limit host) (state after blocks limit host)
unit_taken before after blocks limit host took = record {
  units = took.0;
  held = ap (λ (heap : List ℕ). record { blocks = blocks; heap = heap }) took.2;
  trail = took.1;
  limit = refl;
  host = refl;
}

pub no_unit_taken : {B : Type 0} (next : Run B) (before after : Kept) (blocks : Blocks) (limit : Option Limit) (host : HostState) → TookUnit false before after →
    Does (takes_unit next) (stops no_units) (state before blocks limit host) (state after blocks limit host)
no_unit_taken next before after blocks limit host took =
    subst (λ (kept : Kept). Does (takes_unit next) (stops no_units) (state before blocks limit host) (state kept blocks limit host)) (sym took.1)
    (no_unit_does next (state before blocks limit host) took.0)

-- ---- calls of what was found

module _ (bodies : Bodies) (args : List Typed) where
  pub no_callee : (callee : Option HeldCallee) (at : State) → callee ≡ None →
      Does (call_found bodies args (option_map callee_view callee)) (stops (went_wrong WrongCall)) at at
  no_callee callee at is =
      subst (λ (which : Option HeldCallee). Does (call_found bodies args (option_map callee_view which)) (stops (went_wrong WrongCall)) at at) (sym is) (fails_does WrongCall at)

  module _ (callee : Option HeldCallee) (one : HeldCallee) (is : callee ≡ Some one) where
    by_callee : {end : End (Option Typed)} {before after : State} → Does (call_found bodies args (Some (callee_view one))) end before after →
        Does (call_found bodies args (option_map callee_view callee)) end before after
    by_callee {end = end} {before = before} {after = after} does =
        subst (λ (which : Option HeldCallee). Does (call_found bodies args (option_map callee_view which)) end before after) (sym is) does

    abbrev pub Fits : Bool
    Fits = accepts (signature_of (callee_view one)).params (signature_of (callee_view one)).variadic args

    pub callee_refused : (at : State) → Fits ≡ false → Does (call_found bodies args (option_map callee_view callee)) (stops (went_wrong WrongCall)) at at
    callee_refused at fits = by_callee (false_does _ _ _ fits (fails_does WrongCall at))

    pub callee_out : {at after : State} → Fits ≡ true → Does (takes_unit (run_callee bodies args (callee_view one))) (stops no_units) at after →
        Does (call_found bodies args (option_map callee_view callee)) (stops no_units) at after
    callee_out fits does = by_callee (true_does _ _ _ fits does)

    pub callee_runs : {end : End (Option Typed)} {before middle after : State} → Fits ≡ true → TakesUnit before middle →
        Does (run_callee bodies args (callee_view one)) end middle after → Does (call_found bodies args (option_map callee_view callee)) end before after
    callee_runs fits takes does = by_callee (true_does _ _ _ fits (unit_does _ takes does))

pub found_runs : (bodies : Bodies) (values list : List TypedValue) (callee : Option HeldCallee) (found : Option Callee) {end : End (Option Typed)} {first second : State} →
    list ≡ values → option_map callee_view callee ≡ found → Does (call_found bodies (map typed_view list) (option_map callee_view callee)) end first second →
    Does (call_found bodies (map typed_view values) found) end first second
found_runs bodies values list callee found {end = end} {first = first} {second = second} is found_is does =
    subst (λ (which : Option Callee). Does (call_found bodies (map typed_view values) which) end first second) found_is
    (subst (λ (which : List TypedValue). Does (call_found bodies (map typed_view which) (option_map callee_view callee)) end first second) is does)

-- ---- calls by pointer

module _ (bodies : Bodies) (params : Tys) (result : OptionTy) (args : List Typed) where
  pub no_target : (fun : Option (Bor Function)) (at : State) → fun ≡ None →
      Does (call_pointed bodies params result args (option_map function_view (option_copied fun))) (stops (went_wrong WrongCall)) at at
  no_target fun at is =
      subst (λ (which : Option (Bor Function)). Does (call_pointed bodies params result args (option_map function_view (option_copied which))) (stops (went_wrong WrongCall)) at at) (sym is) (fails_does WrongCall at)

  module _ (fun : Option (Bor Function)) (one : Bor Function) (is : fun ≡ Some one) where
    by_target : {end : End (Option Typed)} {before after : State} → Does (call_pointed bodies params result args (Some (function_view one.now))) end before after →
        Does (call_pointed bodies params result args (option_map function_view (option_copied fun))) end before after
    by_target {end = end} {before = before} {after = after} does =
        subst (λ (which : Option (Bor Function)). Does (call_pointed bodies params result args (option_map function_view (option_copied which))) end before after) (sym is) does

    abbrev pub Alike : Bool
    Alike = called_as params result (own_signature (function_view one.now))

    pub target_refused : (at : State) → Alike ≡ false →
        Does (call_pointed bodies params result args (option_map function_view (option_copied fun))) (stops (went_wrong WrongCall)) at at
    target_refused at alike = by_target (false_does _ _ _ alike (fails_does WrongCall at))

    pub target_stops : {stop : Stopped} {before after : State} → Alike ≡ true → Does (call_found bodies args (Some (own (function_view one.now)))) (stops stop) before after →
        Does (call_pointed bodies params result args (option_map function_view (option_copied fun))) (stops stop) before after
    target_stops alike does = by_target (true_does _ _ _ alike (stops_first _ does))

    pub target_gives : (value given : Option Typed) {before after : State} → Alike ≡ true → given ≡ retyped result value →
        Does (call_found bodies args (Some (own (function_view one.now)))) (gives value) before after →
        Does (call_pointed bodies params result args (option_map function_view (option_copied fun))) (gives given) before after
    target_gives value given {after = after} alike given_is does = by_target (true_does _ _ _ alike (then_does _ does (pure_is _ _ given_is after)))

pub target_runs : (bodies : Bodies) (params : Tys) (result : OptionTy) (fun : Option FunctionTree) (values list : List TypedValue) {end : End (Option Typed)} {first second : State} →
    list ≡ values → Does (call_pointed bodies params result (map typed_view list) fun) end first second →
    Does (call_pointed bodies params result (map typed_view values) fun) end first second
target_runs bodies params result fun values list {end = end} {first = first} {second = second} is does =
    subst (λ (which : List TypedValue). Does (call_pointed bodies params result (map typed_view which) fun) end first second) is does
