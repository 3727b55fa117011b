-- Moves that are next.
use Rattle.std.proofs.Common.{◌≡◌, ◌∙◌, refl, sym, ap, subst, ℕ, Bool, true, false, Option, Some, None, List, [], ◌∷◌, ◌++◌, IfOk, Result, Ok, Err, append_assoc}
use Rattle.cx_work.specs.declared.work.Work.{Work}
use Rattle.cx_work.specs.Views.{view_work}
use Rattle.cx_mean.specs.Work.{CWork, finished, needs, chooses, tests, carries, updates, fills, waits, is_finished}
use Rattle.cr_base.specs.declared.memory.Memory.{Memory}
use Rattle.cx_mean.specs.Moves.{CPurpose, drops_it, turns_on, next_of, turning_on, CGoal, CMove, CStand, stand, without_objects, slots_in}
use Rattle.cx_mean.specs.Paths.{CLevel, CBottom, CSite, site_at}
use Rattle.cx_moves.specs.Sites.{begins_in}
use Rattle.cx_mean.specs.Operands.{COperand, Frame}
use Rattle.cx_mean.specs.State.{moves, uses, evaluating, control_of}
use Rattle.cr_world.specs.Held.{without_block}
use Rattle.mem_bytes.specs.Memory.{Blocks}
use Rattle.cx_machine.specs.declared.machine.Machine.{Machine}
use Rattle.cx_machine.specs.declared.machine.Caller.{Caller}
use Rattle.cx_machine.specs.Machines.{callers_of, IsAt, GoesTo, CNext, next_at, finished_next, going_next, work_next, values_in, is_over}

pub ok_then : {P Q : Type 0} (result : Result (Unit {0}) Memory) → (P → Q) → IfOk result (λ _. P) → IfOk result (λ _. Q)
ok_then (Ok _) step holds = step holds
ok_then (Err why) step holds = tt

-- a move was found, and it is next
pub goes_there : (old mid new : Machine) (one : CStand) (move : CMove) (blocks : Blocks) → mid.statics ≡ old.statics → mid.callers ≡ old.callers → mid.order.now ≡ old.order.now →
    stand move blocks ≡ one → IsAt mid new (control_of move) → GoesTo old new (next_at one) blocks
goes_there old mid new one move blocks statics callers order is at =
    subst (λ (other : CStand). GoesTo old new (next_at other) blocks) is
    (record {
      at = record {
        control = at.control;
        statics = at.statics ∙ statics;
        callers = at.callers ∙ ap (λ (list : List Caller). callers_of list) callers;
        order = at.order ∙ order;
      };
      memory = refl;
    })

-- a beginning stays what it is
begins_as : (object : ℕ) (others : List ℕ) (goal : CGoal) (levels : List CLevel) (bottom : CBottom) →
    moves (begins_in object others goal (site_at levels bottom)) ≡ control_of (begins_in object others goal (site_at levels bottom))
begins_as object others goal [] bottom = refl
begins_as object others goal (level ∷ outer) bottom = refl

pub begins_is : (object : ℕ) (others : List ℕ) (goal : CGoal) (site : CSite) → moves (begins_in object others goal site) ≡ control_of (begins_in object others goal site)
begins_is object others goal site = begins_as object others goal site.levels site.bottom

-- objects that die one after the other
pub die_both : (first second : Frame) (blocks : Blocks) → without_objects (first ++ second) blocks ≡ without_objects second (without_objects first blocks)
die_both [] second blocks = refl
die_both (slot ∷ others) second blocks = die_both others second (without_block slot.block blocks)

pub die_innermost : (level : CLevel) (outer : List CLevel) (params : Frame) (blocks : Blocks) →
    without_objects (slots_in outer ++ params) (without_objects level.slots blocks) ≡ without_objects (level.slots ++ slots_in outer ++ params) blocks
die_innermost level outer params blocks =
    sym (die_both level.slots (slots_in outer ++ params) blocks) ∙ ap (λ (slots : Frame). without_objects slots blocks) (sym (append_assoc level.slots (slots_in outer) params))

-- ---- full expressions that go on

unfinished_next : (work : CWork) (purpose : CPurpose) (blocks : Blocks) → false ≡ is_finished work → going_next work purpose blocks ≡ record { control = evaluating work purpose; blocks = blocks }
unfinished_next (finished operand) purpose blocks is = absurd cc
unfinished_next (needs node operands) purpose blocks is = refl
unfinished_next (chooses node first) purpose blocks is = refl
unfinished_next (tests node marks second) purpose blocks is = refl
unfinished_next (carries node marks part) purpose blocks is = refl
unfinished_next (updates node update stage marks) purpose blocks is = refl
unfinished_next (fills node marks one others value) purpose blocks is = refl
unfinished_next (waits node marks) purpose blocks is = refl

drops_next : (work : CWork) (site : CSite) (blocks : Blocks) → true ≡ is_finished work → going_next work (drops_it site) blocks ≡ next_at (next_of site blocks)
drops_next (finished operand) site blocks is = refl
drops_next (needs node operands) site blocks is = absurd cc
drops_next (chooses node first) site blocks is = absurd cc
drops_next (tests node marks second) site blocks is = absurd cc
drops_next (carries node marks part) site blocks is = absurd cc
drops_next (updates node update stage marks) site blocks is = absurd cc
drops_next (fills node marks one others value) site blocks is = absurd cc
drops_next (waits node marks) site blocks is = absurd cc

turns_next : (work : CWork) (site : CSite) (blocks : Blocks) → true ≡ is_finished work → going_next work (turns_on site) blocks ≡ next_at (turning_on site blocks)
turns_next (finished operand) site blocks is = refl
turns_next (needs node operands) site blocks is = absurd cc
turns_next (chooses node first) site blocks is = absurd cc
turns_next (tests node marks second) site blocks is = absurd cc
turns_next (carries node marks part) site blocks is = absurd cc
turns_next (updates node update stage marks) site blocks is = absurd cc
turns_next (fills node marks one others value) site blocks is = absurd cc
turns_next (waits node marks) site blocks is = absurd cc

some_is : (one other : Bool) → Some one ≡ Some other → one ≡ other
some_is one other is = cc

pub goes_unfinished : (work : Option Work) (purpose : CPurpose) (blocks : Blocks) → Some false ≡ is_over work → work_next work purpose blocks ≡ record { control = values_in work purpose; blocks = blocks }
goes_unfinished None purpose blocks is = absurd cc
goes_unfinished (Some work) purpose blocks is = unfinished_next (view_work work) purpose blocks (some_is _ _ is)

pub goes_dropped : (work : Option Work) (site : CSite) (blocks : Blocks) → Some true ≡ is_over work → work_next work (drops_it site) blocks ≡ next_at (next_of site blocks)
goes_dropped None site blocks is = absurd cc
goes_dropped (Some work) site blocks is = drops_next (view_work work) site blocks (some_is _ _ is)

pub goes_turning : (work : Option Work) (site : CSite) (blocks : Blocks) → Some true ≡ is_over work → work_next work (turns_on site) blocks ≡ next_at (turning_on site blocks)
goes_turning None site blocks is = absurd cc
goes_turning (Some work) site blocks is = turns_next (view_work work) site blocks (some_is _ _ is)

-- a finished value that is used is used in a step of its own
used_next : (work : CWork) (purpose : CPurpose) (blocks : Blocks) → ((operand : COperand) → finished_next operand purpose blocks ≡ record { control = uses operand purpose; blocks = blocks }) →
    going_next work purpose blocks ≡ record { control = evaluating work purpose; blocks = blocks }
used_next (finished operand) purpose blocks is = is operand
used_next (needs node operands) purpose blocks is = refl
used_next (chooses node first) purpose blocks is = refl
used_next (tests node marks second) purpose blocks is = refl
used_next (carries node marks part) purpose blocks is = refl
used_next (updates node update stage marks) purpose blocks is = refl
used_next (fills node marks one others value) purpose blocks is = refl
used_next (waits node marks) purpose blocks is = refl

pub goes_used : (work : Option Work) (purpose : CPurpose) (blocks : Blocks) → Some true ≡ is_over work →
    ((operand : COperand) → finished_next operand purpose blocks ≡ record { control = uses operand purpose; blocks = blocks }) →
    work_next work purpose blocks ≡ record { control = values_in work purpose; blocks = blocks }
goes_used None purpose blocks is uses_it = absurd cc
goes_used (Some work) purpose blocks is uses_it = used_next (view_work work) purpose blocks uses_it

-- the run stands there, by other words
pub stands_by : (old new : Machine) (next other : CNext) (blocks : Blocks) → next ≡ other → GoesTo old new other blocks → GoesTo old new next blocks
stands_by old new next other blocks is goes = subst (λ (one : CNext). GoesTo old new one blocks) (sym is) goes
