-- What called functions come back to, nodes whose operands are finished, and outcomes of their steps.
use Rattle.std.proofs.Common.{◌≡◌, ℕ, ◌<◌, Bool, true, List, [], ◌∷◌, ◌++◌, Result, Ok, Err, refl, ap, ◌∙◌, arith}
use Rattle.cx_core.specs.Trees.{CFun, CExpr, CForm, whole, null, object, code}
use Rattle.cr_world.specs.World.{World}
use Rattle.cx_mean.specs.Leftmost.{CCalls}
use Rattle.cx_mean.specs.Moves.{calls_main}
use Rattle.cx_mean.specs.State.{CCaller, moves, CState, taking, returned_to}
use Rattle.cx_mean.proofs.Reached.{standing, Reaches}
use Rattle.cx_mean.specs.Operands.{CWhy, CValue, scalar, COperand, Frame}
use Rattle.cx_mean.specs.Settings.{CSetting}
use Rattle.cx_mean.specs.Steps.{CDid, outcome_of, step_at, needs_step}
use Rattle.cx_mean.specs.Work.{CWork, finished, needs, CWorks, no_works, more_works, begun, are_finished, operands_in, ready}
use Rattle.cx_mean.proofs.Around.{behind, AreQuiet, chosen_by}
use Rattle.cx_mean.proofs.Quiet.{begun_quiet}
use Rattle.mem_bytes.specs.Access.{and_then}
use Rattle.mem_bytes.specs.Memory.{Blocks}
use Rattle.mem_bytes.specs.declared.value.Value.TheVariants.{Whole as Number}
use Rattle.cx_numbers.specs.Numbers.{number_of_truth}

-- the state behind a function's return
abbrev pub back : Frame → List CCaller → CValue → World → CState
back statics callers value world = returned_to (standing statics callers (moves calls_main) world) world value callers

-- called functions run as it is said, within bounds less than this
abbrev pub CallsReach : CSetting → Frame → CCalls → ℕ → Type 0
CallsReach setting statics calls bound =
    (callers : List CCaller) (callee : CFun) (args : List CValue) (world : World) (left : ℕ) → left < bound →
    Reaches setting 0 left (standing statics callers (taking callee callee.params args []) world) (calls callee args world left) (back statics callers)

-- ---- operands

abbrev pub all_finished : List COperand → CWorks
all_finished [] = no_works
all_finished (one ∷ more) = more_works (finished one) (all_finished more)

pub finished_all : (done : List COperand) → are_finished (all_finished done) ≡ true
finished_all [] = refl
finished_all (one ∷ more) = finished_all more

pub finished_operands : (done : List COperand) → operands_in (all_finished done) ≡ done
finished_operands [] = refl
finished_operands (one ∷ more) = ap (λ (list : List COperand). one ∷ list) (finished_operands more)

pub behind_more : (done : List COperand) (one : COperand) (works : CWorks) → behind (done ++ one ∷ []) works ≡ behind done (more_works (finished one) works)
behind_more [] one works = refl
behind_more (first ∷ more) one works = ap (λ (rest : CWorks). more_works (finished first) rest) (behind_more more one works)

pub no_quiet : AreQuiet no_works
no_quiet value = refl

pub one_quiet_works : (e : CExpr) → AreQuiet (more_works (begun e) no_works)
one_quiet_works e value = ap (λ (work : CWork). more_works work no_works) (begun_quiet value e)

-- a step that an expression takes at least
abbrev pub least : CForm → ℕ
least (whole number) = 0
least null = 0
least (object number) = 0
least (code number) = 0
least form = 1

abbrev pub truth_value : Bool → CValue
truth_value truth = scalar (Number (number_of_truth truth))

pub ready_all : (node : CExpr) (operands : List COperand) → 0 < ready (needs node (all_finished operands))
ready_all node operands = rw (finished_all operands) (omega arith)

pub step_all : (setting : CSetting) (frame : Frame) (blocks : Blocks) (node : CExpr) (operands : List COperand) →
    step_at setting frame blocks 0 (needs node (all_finished operands)) ≡ needs_step setting frame blocks node operands
step_all setting frame blocks node operands =
    chosen_by (are_finished (all_finished operands)) _ _ (finished_all operands)
    ∙ ap (λ (list : List COperand). needs_step setting frame blocks node list) (finished_operands operands)

pub map_outcome : {A B : Type 0} (make : B → CDid) (by : A → B) (outcome : Result A CWhy) →
    outcome_of make (and_then outcome (λ one. Ok (by one))) ≡ outcome_of (λ one. make (by one)) outcome
map_outcome make by (Ok one) = refl
map_outcome make by (Err why) = refl
