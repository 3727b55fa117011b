-- What of a run stands in some units: each place of a tree that may still be evaluated or reached, and where the run stopped.
use Rattle.std.proofs.Common.{ℕ, All, List, [], ◌∷◌, Result, Ok, Err}
use Rattle.cr_world.specs.World.{wrong, full, asks, astray}
use Rattle.cx_mean.specs.Calls.{CCallee, defined, external}
use Rattle.cx_mean.specs.Moves.{CBehind, in_body, of_statics, CPurpose, puts_it, drops_it, turns_on, gives_it, chooses_by, CGoal, does_form, follows, CMove, values, reaches, begins, leaves, calls_main, goes_nowhere}
use Rattle.cx_mean.specs.Operands.{CStop}
use Rattle.cx_mean.specs.Paths.{CRest, nothing_left, statements_left, firsts_left, turn_left, CLevel, CSite, CWay, arrives, opens}
use Rattle.cx_mean.specs.State.{CCaller, CControl, begins_static, moves, evaluates, uses, takes, has_ended, has_stopped, CState}
use Rattle.cx_mean.specs.Steps.{CDid, did, asks_call, CStepped}
use Rattle.cx_mean.specs.Work.{CWork, finished, needs, chooses, tests, carries, updates, fills, waits, CWorks, no_works, more_works}
use Rattle.cx_placed.specs.Places.{ExprStandsIn, PutStandsIn, PutsStandIn, StmtStandsIn, StmtFormStandsIn, StmtsStandIn, ObjectStandsIn, FunctionStandsIn}

-- ---- expressions under evaluation

abbrev mutual
  -- each node of a tree, and each part of it that isn't begun yet
  pub WorkStandsIn : (ℕ → Type 0) → CWork → Type 0
  WorkStandsIn Among (finished operand) = Unit {0}
  WorkStandsIn Among (needs node operands) = ExprStandsIn Among node × WorksStandIn Among operands
  WorkStandsIn Among (chooses node first) = ExprStandsIn Among node × WorkStandsIn Among first
  WorkStandsIn Among (tests node marks second) = ExprStandsIn Among node × WorkStandsIn Among second
  WorkStandsIn Among (carries node marks part) = ExprStandsIn Among node × WorkStandsIn Among part
  WorkStandsIn Among (updates node update stage marks) = ExprStandsIn Among node
  WorkStandsIn Among (fills node marks one others value) =
      ExprStandsIn Among node × PutStandsIn Among one × PutsStandIn Among others × WorkStandsIn Among value
  WorkStandsIn Among (waits node marks) = ExprStandsIn Among node

  pub WorksStandIn : (ℕ → Type 0) → CWorks → Type 0
  WorksStandIn Among no_works = Unit {0}
  WorksStandIn Among (more_works first others) = WorkStandsIn Among first × WorksStandIn Among others

-- the function that is called, where a unit defines it
abbrev pub CalleeStandsIn : (ℕ → Type 0) → CCallee → Type 0
CalleeStandsIn Among (defined one) = FunctionStandsIn Among one
CalleeStandsIn Among (external one) = Unit {0}

-- what a step of an expression leaves, or the call that it asks for
abbrev pub DidStandsIn : (ℕ → Type 0) → CDid → Type 0
DidStandsIn Among (did work blocks) = WorkStandsIn Among work
DidStandsIn Among (asks_call called work) = Among called.place.unit × CalleeStandsIn Among called.callee × WorkStandsIn Among work

-- a step of an expression, also one that has no meaning
abbrev pub StepStandsIn : (ℕ → Type 0) → CStepped → Type 0
StepStandsIn Among (Ok done) = DidStandsIn Among done
StepStandsIn Among (Err fault) = Among fault.place.unit

-- ---- bodies

-- what is left of an open statement
abbrev pub RestStandsIn : (ℕ → Type 0) → CRest → Type 0
RestStandsIn Among nothing_left = Unit {0}
RestStandsIn Among (statements_left stmts) = StmtsStandIn Among stmts
RestStandsIn Among (firsts_left stmts) = StmtsStandIn Among stmts
RestStandsIn Among turn_left = Unit {0}

-- the open statements, the innermost first
abbrev pub LevelsStandIn : (ℕ → Type 0) → List CLevel → Type 0
LevelsStandIn Among [] = Unit {0}
LevelsStandIn Among (level ∷ outer) = StmtFormStandsIn Among level.form × RestStandsIn Among level.rest × LevelsStandIn Among outer

abbrev pub SiteStandsIn : (ℕ → Type 0) → CSite → Type 0
SiteStandsIn Among site = LevelsStandIn Among site.levels

-- the statements on the way of a jump
abbrev pub WayStandsIn : (ℕ → Type 0) → CWay → Type 0
WayStandsIn Among (arrives target) = StmtStandsIn Among target
WayStandsIn Among (opens objects form rest way) = StmtFormStandsIn Among form × RestStandsIn Among rest × WayStandsIn Among way

-- what follows once the objects of a statement have begun, and what follows behind the last put of an object
abbrev pub GoalStandsIn : (ℕ → Type 0) → CGoal → Type 0
GoalStandsIn Among (does_form place) = Among place.unit
GoalStandsIn Among (follows way) = WayStandsIn Among way

abbrev pub BehindStandsIn : (ℕ → Type 0) → CBehind → Type 0
BehindStandsIn Among (in_body site) = SiteStandsIn Among site
BehindStandsIn Among (of_statics others) = All (ObjectStandsIn Among) others

abbrev pub PurposeStandsIn : (ℕ → Type 0) → CPurpose → Type 0
PurposeStandsIn Among (puts_it place one) = Among place.unit × PutsStandIn Among one.others × BehindStandsIn Among one.behind
PurposeStandsIn Among (drops_it site) = SiteStandsIn Among site
PurposeStandsIn Among (turns_on site) = SiteStandsIn Among site
PurposeStandsIn Among (gives_it place site) = Among place.unit × SiteStandsIn Among site
PurposeStandsIn Among (chooses_by place site) = Among place.unit × SiteStandsIn Among site

abbrev pub MoveStandsIn : (ℕ → Type 0) → CMove → Type 0
MoveStandsIn Among (values node purpose) = ExprStandsIn Among node × PurposeStandsIn Among purpose
MoveStandsIn Among (reaches one site) = StmtStandsIn Among one × SiteStandsIn Among site
MoveStandsIn Among (begins one) =
    StmtFormStandsIn Among one.level.form × RestStandsIn Among one.level.rest × SiteStandsIn Among one.outer × GoalStandsIn Among one.goal
MoveStandsIn Among (leaves value site) = SiteStandsIn Among site
MoveStandsIn Among calls_main = Unit {0}
MoveStandsIn Among (goes_nowhere place) = Among place.unit

-- ---- states

-- the place at which a run stopped whose next step has no meaning
abbrev pub StopStandsIn : (ℕ → Type 0) → CStop → Type 0
StopStandsIn Among (wrong fault) = Among fault.place.unit
StopStandsIn Among (full need left) = Unit {0}
StopStandsIn Among (asks one) = Unit {0}
StopStandsIn Among astray = Unit {0}

-- a part of a step, which stops the run at such a place if it does
abbrev pub EndStandsIn : (ℕ → Type 0) → {A : Type 0} → Result A CStop → Type 0
EndStandsIn Among (Ok value) = Unit {0}
EndStandsIn Among (Err stop) = StopStandsIn Among stop

abbrev pub ControlStandsIn : (ℕ → Type 0) → CControl → Type 0
ControlStandsIn Among (begins_static one others) = Unit {0}
ControlStandsIn Among (moves one) = MoveStandsIn Among one
ControlStandsIn Among (evaluates work purpose) = WorkStandsIn Among work × PurposeStandsIn Among purpose
ControlStandsIn Among (uses operand purpose) = PurposeStandsIn Among purpose
ControlStandsIn Among (takes one) = FunctionStandsIn Among one.callee
ControlStandsIn Among (has_ended status) = Unit {0}
ControlStandsIn Among (has_stopped stop) = StopStandsIn Among stop

-- the functions that wait for one that they called
abbrev pub CallersStandIn : (ℕ → Type 0) → List CCaller → Type 0
CallersStandIn Among [] = Unit {0}
CallersStandIn Among (first ∷ others) = WorkStandsIn Among first.work × PurposeStandsIn Among first.purpose × CallersStandIn Among others

pub record StateStandsIn (Among : ℕ → Type 0) (state : CState) : Type 0 where
  pub control : ControlStandsIn Among state.control
  pub callers : CallersStandIn Among state.callers
