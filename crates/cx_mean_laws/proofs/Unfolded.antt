-- The bounds of pieces, and the depth to which moves are followed.
use Rattle.std.proofs.Common.{◌≡◌, ℕ, zero, suc, ◌+◌, ◌<◌, List, [], ◌∷◌, ◌++◌, Result, Ok, Err, refl, ap, subst, arith}
use Rattle.cr_runs.specs.Runs.{bind}
use Rattle.cr_world.specs.World.{Got, World, first_world}
use Rattle.cx_core.specs.Trees.{CExpr, CObject}
use Rattle.cx_mean.specs.Leftmost.{CPiece, CCalls, CGoes, or_stop, c_value, c_called, c_move, c_goes, c_ended, c_begins}
use Rattle.cx_mean.specs.Moves.{CMove, static_puts}
use Rattle.cx_mean.specs.Operands.{CStop, Frame}
use Rattle.cx_mean.specs.Settings.{CSetting, setting_of}
use Rattle.cx_mean.specs.State.{slot, static_begins, statics_in}
use Rattle.cx_mean.specs.Work.{is_finished, begun}
use Rattle.mem_bytes.specs.declared.value.Ptr.{Ptr}
use Rattle.cx_mean_laws.proofs.AlikeMoves.{GoesAlike, called_alike, move_alike}
use Rattle.cx_mean_laws.proofs.AlikePieces.{Alike, alike_any}
use Rattle.cx_mean_laws.proofs.AlikeValues.{CallsAlike, least_of, value_alike, values_alike}
use Rattle.cx_mean_laws.specs.Laws.{Takes, LeavesWithin, AreBounded, IsBounded, LeavesNoMore, UnfinishedTakes, CallsAgree, GoesAgree, AskedBehindSteps, goes_of, begins_of, GoesUnfold}

-- ---- what is bounded agrees with itself

calls_with : (calls other : CCalls) (most : ℕ) → AreBounded calls → CallsAgree most calls other → CallsAlike most calls other
calls_with calls other most bounded agree callee args world left less = record { same = agree callee args world left less; takes = bounded callee args world left }

goes_with : (goes other : CGoes) (most : ℕ) → IsBounded goes → GoesAgree most goes other → GoesAlike most goes other
goes_with goes other most bounded agree move world left less = record { same = agree move world left less; takes = bounded move world left }

calls_alone : (calls : CCalls) (most : ℕ) → AreBounded calls → CallsAlike most calls calls
calls_alone calls most bounded = calls_with calls calls most bounded (λ callee args world left less. refl)

goes_alone : (goes : CGoes) (most : ℕ) → IsBounded goes → GoesAlike most goes goes
goes_alone goes most bounded = goes_with goes goes most bounded (λ move world left less. refl)

value_with : (setting : CSetting) (calls other : CCalls) (frame : Frame) (e : CExpr) (world : World) (steps : ℕ) → CallsAlike steps calls other
    → Alike (least_of (is_finished (begun e))) steps (c_value setting calls frame e world steps) (c_value setting other frame e world steps)
value_with setting calls other frame e world steps agree = value_alike setting calls other frame steps agree e world steps (omega arith)

-- ---- bounds

move_bounded : (setting : CSetting) (statics : Frame) (goes : CGoes) (one : CMove) (world : World) (steps : ℕ) → IsBounded goes → LeavesWithin steps (c_move setting statics goes one world steps)
move_bounded setting statics goes one world steps bounded = (move_alike setting statics goes goes steps (goes_alone goes steps bounded) one world steps (omega arith)).takes

called_bounded : (setting : CSetting) (goes : CGoes) → IsBounded goes → AreBounded (c_called setting goes)
called_bounded setting goes bounded callee args world steps = (called_alike setting [] goes goes (suc steps) (goes_alone goes (suc steps) bounded) callee args world steps (omega arith)).takes

goes_bounded : (setting : CSetting) (statics : Frame) (fuel : ℕ) → IsBounded (c_goes setting statics fuel)
goes_bounded setting statics zero move world steps = tt
goes_bounded setting statics (suc fuel) move world steps = move_bounded setting statics (c_goes setting statics fuel) move world steps (goes_bounded setting statics fuel)

pub leaves_no_more : LeavesNoMore
leaves_no_more = record {
  value = λ setting calls frame e world steps bounded.
      (alike_any (least_of (is_finished (begun e))) steps _ _ (value_with setting calls calls frame e world steps (calls_alone calls steps bounded))).takes;
  values = λ setting calls frame all world steps bounded.
      (values_alike setting calls calls frame steps (calls_alone calls steps bounded) all world steps (omega arith)).takes;
  move = move_bounded;
  called = called_bounded;
  goes = goes_bounded;
}

pub unfinished_takes : UnfinishedTakes
unfinished_takes setting calls frame e world steps bounded not =
    subst (λ finished. Takes (least_of finished) steps (c_value setting calls frame e world steps)) not
    (value_with setting calls calls frame e world steps (calls_alone calls steps bounded)).takes

pub asked_behind_steps : AskedBehindSteps
asked_behind_steps = record {
  value = λ setting calls other frame e world steps bounded agree. (value_with setting calls other frame e world steps (calls_with calls other steps bounded agree)).same;
  move = λ setting statics goes other one world steps bounded agree.
      (move_alike setting statics goes other steps (goes_with goes other steps bounded agree) one world steps (omega arith)).same;
}

-- ---- the depth of moves

goes_agree : (setting : CSetting) (statics : Frame) (deep other : ℕ) (move : CMove) (world : World) (left : ℕ) → left < deep → left < other
    → c_goes setting statics deep move world left ≡ c_goes setting statics other move world left
goes_agree setting statics zero other move world left less more = absurd (omega (arith, less))
goes_agree setting statics (suc deep) zero move world left less more = absurd (omega (arith, more))
goes_agree setting statics (suc deep) (suc other) move world left less more =
    asked_behind_steps.move setting statics (c_goes setting statics deep) (c_goes setting statics other) move world left (goes_bounded setting statics deep)
    (λ one at rest below. goes_agree setting statics deep other one at rest (omega (arith, below, less)) (omega (arith, below, more)))

-- behind the beginning of an object
got_agree : {B : Type 0} (outcome : Result (Got Ptr) CStop) (go more : Got Ptr → CPiece B) {world : World} (left : ℕ) → ((got : Got Ptr) → go got world left ≡ more got world left)
    → or_stop outcome go world left ≡ or_stop outcome more world left
got_agree (Ok got) go more left all = all got
got_agree (Err stop) go more left all = refl

begins_agree : (setting : CSetting) (fuel : ℕ) (objects : List CObject) (statics : Frame) (world : World) (left : ℕ) → left < fuel
    → c_begins setting fuel objects statics world left ≡ begins_of setting objects statics world left
begins_agree setting fuel [] statics world left less =
    ap (λ piece. bind piece c_ended) (goes_agree setting statics fuel (suc left) (static_puts (statics_in setting.program.objects)) world left less (omega arith))
begins_agree setting fuel (one ∷ others) statics world zero less = refl
begins_agree setting fuel (one ∷ others) statics world (suc left) less =
    got_agree (static_begins setting one world) _ _ left (λ got. begins_agree setting fuel others (statics ++ slot one.object got.value ∷ []) got.world left (omega (arith, less)))

pub goes_unfold : GoesUnfold
goes_unfold = record {
  depth = λ setting statics fuel move world left less. goes_agree setting statics fuel (suc left) move world left less (omega arith);
  unfolds = λ setting statics move world left.
      asked_behind_steps.move setting statics (c_goes setting statics left) (goes_of setting statics) move world left (goes_bounded setting statics left)
      (λ one at rest below. goes_agree setting statics left (suc rest) one at rest below (omega arith));
  program = λ program terms outside steps. begins_agree (setting_of program) (suc steps) (statics_in program.objects) [] (first_world terms outside) steps (omega arith);
  bounded = λ setting statics move world left. goes_bounded setting statics (suc left) move world left;
  calls_bounded = λ setting statics. called_bounded setting (goes_of setting statics) (λ move world left. goes_bounded setting statics (suc left) move world left);
}
