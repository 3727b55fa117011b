-- The step that the empty order takes, at the leftmost ready node, and the contexts that keep it.
use Rattle.std.proofs.Common.{◌≡◌, ℕ, zero, suc, Bool, true, List, [], ◌∷◌, ◌++◌, Result, Ok, Err, refl, sym, ap, ◌∙◌, if◌then◌else◌}
use Rattle.cr_base.specs.declared.refusal.Place.{Place}
use Rattle.cr_base.specs.declared.rule.URule.{URule}
use Rattle.straight_core.specs.declared.expr.Op1.{Op1}
use Rattle.straight_core.specs.declared.expr.Op2.{Op2}
use Rattle.straight_core.specs.Trees.{CTy, CProgram}
use Rattle.straight_mean.specs.Leftmost.{c_node, from_done}
use Rattle.straight_mean.specs.Nodes.{Done}
use Rattle.straight_mean.specs.Operands.{COperand, Frame, CWorld}
use Rattle.straight_mean.specs.Run.{going}
use Rattle.straight_mean.specs.State.{is_undefined, CState, c_step}
use Rattle.straight_mean.specs.Work.{Work, finished, unfinished, WorkForm, loads, converts, applies, combines, assigns, calls, Works, no_works, more_works, Path, at_operand, are_finished, has_operands, ready, ready_below, ready_among, Stepped, stepped, faulted, inside, operands_of, node_step, became, step_at, step_among, choose}
use Rattle.straight_mean.proofs.Reached.{standing, shows, Reaches, reached, reaches_tick, reaches_from, reaches_bad}

-- ---- the leftmost ready node

-- a list begins with a path
pub record Begins (first : Path) (paths : List Path) : Type 0 where
  pub others : List Path
  pub are : paths ≡ first ∷ others

-- a list has a first path
pub record HasFirst (paths : List Path) : Type 0 where
  pub first : Path
  pub begins : Begins first paths

begins_append : (first : Path) (paths more : List Path) → Begins first paths → Begins first (paths ++ more)
begins_append first paths more begins =
    record { others = begins.others ++ more; are = ap (λ (list : List Path). list ++ more) begins.are }

begins_operand : (number : ℕ) (first : Path) (paths : List Path) → Begins first paths → Begins (number ∷ first) (at_operand number paths)
begins_operand number first paths begins =
    record { others = at_operand number begins.others; are = ap (λ (list : List Path). at_operand number list) begins.are }

first_append : (paths more : List Path) → HasFirst paths → HasFirst (paths ++ more)
first_append paths more has = record { first = has.first; begins = begins_append has.first paths more has.begins }

first_operand : (number : ℕ) (paths more : List Path) → HasFirst paths → HasFirst (at_operand number paths ++ more)
first_operand number paths more has =
    record {
      first = number ∷ has.first;
      begins = begins_append (number ∷ has.first) (at_operand number paths) more (begins_operand number has.first paths has.begins);
    }

itself_first : HasFirst ([] ∷ [])
itself_first = record { first = []; begins = record { others = []; are = refl } }

-- the node itself, where it is ready
abbrev itself : Bool → List Path
itself ready_now = if ready_now then [] ∷ [] else []

mutual
  form_first : (form : WorkForm) → HasFirst (ready_below form ++ itself (has_operands form))
  form_first (loads (finished one)) = itself_first
  form_first (loads (unfinished type place form)) =
      first_operand 0 (ready_below form ++ itself (has_operands form)) _ (form_first form)
  form_first (converts (finished one)) = itself_first
  form_first (converts (unfinished type place form)) =
      first_operand 0 (ready_below form ++ itself (has_operands form)) _ (form_first form)
  form_first (applies op (finished one)) = itself_first
  form_first (applies op (unfinished type place form)) =
      first_operand 0 (ready_below form ++ itself (has_operands form)) _ (form_first form)
  form_first (combines op (finished one) (finished other)) = itself_first
  form_first (combines op (finished one) (unfinished type place form)) =
      first_operand 1 (ready_below form ++ itself (has_operands form)) _ (form_first form)
  form_first (combines op (unfinished type place form) right) =
      first_append _ _ (first_operand 0 (ready_below form ++ itself (has_operands form)) _ (form_first form))
  form_first (assigns (finished one) (finished other)) = itself_first
  form_first (assigns (finished one) (unfinished type place form)) =
      first_operand 1 (ready_below form ++ itself (has_operands form)) _ (form_first form)
  form_first (assigns (unfinished type place form) right) =
      first_append _ _ (first_operand 0 (ready_below form ++ itself (has_operands form)) _ (form_first form))
  form_first (calls callee args) = among_first 0 args

  among_first : (number : ℕ) (args : Works) → HasFirst (ready_among number args ++ itself (are_finished args))
  among_first number no_works = itself_first
  among_first number (more_works (finished one) others) = among_first (suc number) others
  among_first number (more_works (unfinished type place form) others) =
      first_append _ _ (first_operand number (ready_below form ++ itself (has_operands form)) _ (form_first form))

-- ---- the step that the empty order takes

-- the step of an expression at the first of its ready nodes
abbrev pub taken : CProgram → Work → CWorld → Stepped
taken program work world = step_at program (choose [] (ready work)).path work world

choose_first : (first : Path) (others : List Path) → (choose [] (first ∷ others)).path ≡ first
choose_first first [] = refl
choose_first first (second ∷ others) = refl

pub choose_order : (paths : List Path) → (choose [] paths).order ≡ []
choose_order [] = refl
choose_order (only ∷ []) = refl
choose_order (first ∷ second ∷ others) = refl

choose_begins : (first : Path) (paths : List Path) → Begins first paths → (choose [] paths).path ≡ first
choose_begins first paths begins = rw begins.are (choose_first first begins.others)

taken_at : (program : CProgram) (first : Path) (work : Work) (world : CWorld) → Begins first (ready work) →
    taken program work world ≡ step_at program first work world
taken_at program first work world begins =
    ap (λ (path : Path). step_at program path work world) (choose_begins first (ready work) begins)

-- the step of a node in whose operand the first ready node stands is that of the operand
taken_below : (program : CProgram) (number : ℕ) (work whole : Work) (around : Work → Work) (world : CWorld) →
    HasFirst (ready work) →
    ((first : Path) → Begins first (ready work) → Begins (number ∷ first) (ready whole)) →
    ((first : Path) → step_at program (number ∷ first) whole world ≡ inside around (step_at program first work world)) →
    taken program whole world ≡ inside around (taken program work world)
taken_below program number work whole around world has begins steps =
    taken_at program (number ∷ has.first) whole world (begins has.first has.begins)
    ∙ (steps has.first ∙ ap (λ (step : Stepped). inside around step) (sym (taken_at program has.first work world has.begins)))

-- ---- contexts

-- the state after a step of an expression in a context
abbrev pub under : (Work → CWorld → CState) → Frame → CWorld → Stepped → CState
under context frame world (stepped work next) = context work next
under context frame world (faulted fault) = standing frame (is_undefined fault) world

-- a context of an expression: while the expression is unfinished, the run goes on, and its steps are those
-- of the expression
pub record IsHole (program : CProgram) (frame : Frame) (context : Work → CWorld → CState) : Type 0 where
  pub goes_on : (type : CTy) (place : Place) (form : WorkForm) (world : CWorld) →
      shows (context (unfinished type place form) world) world going
  pub steps : (type : CTy) (place : Place) (form : WorkForm) (world : CWorld) →
      c_step program (context (unfinished type place form) world)
      ≡ under context frame world (taken program (unfinished type place form) world)

under_inside : (context : Work → CWorld → CState) (frame : Frame) (world : CWorld) (around : Work → Work) (step : Stepped) →
    under context frame world (inside around step) ≡ under (λ work next. context (around work) next) frame world step
under_inside context frame world around (stepped work next) = refl
under_inside context frame world around (faulted fault) = refl

-- the place of an operand in a context is one, where the node's step is that of the operand
hole_below : (program : CProgram) (frame : Frame) (context : Work → CWorld → CState) (type : CTy) (place : Place) (shape : Work → WorkForm) →
    IsHole program frame context →
    ((t : CTy) (p : Place) (form : WorkForm) (world : CWorld) →
    taken program (unfinished type place (shape (unfinished t p form))) world
    ≡ inside (λ work. unfinished type place (shape work)) (taken program (unfinished t p form) world)) →
    IsHole program frame (λ work world. context (unfinished type place (shape work)) world)
hole_below program frame context type place shape hole same = record {
  goes_on = λ t p form world. hole.goes_on type place (shape (unfinished t p form)) world;
  steps = λ t p form world.
      hole.steps type place (shape (unfinished t p form)) world
      ∙ (ap (λ (step : Stepped). under context frame world step) (same t p form world)
      ∙ under_inside context frame world (λ work. unfinished type place (shape work)) (taken program (unfinished t p form) world));
}

-- ---- the operands of each form

begins_first : (number : ℕ) (first : Path) (paths more : List Path) → Begins first paths → Begins (number ∷ first) (at_operand number paths ++ more)
begins_first number first paths more begins =
    begins_append (number ∷ first) (at_operand number paths) more (begins_operand number first paths begins)

pub hole_loads : (program : CProgram) (frame : Frame) (context : Work → CWorld → CState) (type : CTy) (place : Place) →
    IsHole program frame context → IsHole program frame (λ work world. context (unfinished type place (loads work)) world)
hole_loads program frame context type place hole =
    hole_below program frame context type place loads hole (λ t p form world.
    taken_below program 0 (unfinished t p form) (unfinished type place (loads (unfinished t p form))) (λ work. unfinished type place (loads work)) world
    (form_first form)
    (λ first begins. begins_first 0 first (ready (unfinished t p form)) [] begins)
    (λ first. refl))

pub hole_converts : (program : CProgram) (frame : Frame) (context : Work → CWorld → CState) (type : CTy) (place : Place) →
    IsHole program frame context → IsHole program frame (λ work world. context (unfinished type place (converts work)) world)
hole_converts program frame context type place hole =
    hole_below program frame context type place converts hole (λ t p form world.
    taken_below program 0 (unfinished t p form) (unfinished type place (converts (unfinished t p form))) (λ work. unfinished type place (converts work)) world
    (form_first form)
    (λ first begins. begins_first 0 first (ready (unfinished t p form)) [] begins)
    (λ first. refl))

pub hole_applies : (program : CProgram) (frame : Frame) (context : Work → CWorld → CState) (type : CTy) (place : Place) (op : Op1) →
    IsHole program frame context → IsHole program frame (λ work world. context (unfinished type place (applies op work)) world)
hole_applies program frame context type place op hole =
    hole_below program frame context type place (applies op) hole (λ t p form world.
    taken_below program 0 (unfinished t p form) (unfinished type place (applies op (unfinished t p form))) (λ work. unfinished type place (applies op work)) world
    (form_first form)
    (λ first begins. begins_first 0 first (ready (unfinished t p form)) [] begins)
    (λ first. refl))

pub hole_combines_left : (program : CProgram) (frame : Frame) (context : Work → CWorld → CState) (type : CTy) (place : Place) (op : Op2) (right : Work) →
    IsHole program frame context → IsHole program frame (λ work world. context (unfinished type place (combines op work right)) world)
hole_combines_left program frame context type place op right hole =
    hole_below program frame context type place (λ work. combines op work right) hole (λ t p form world.
    taken_below program 0 (unfinished t p form) (unfinished type place (combines op (unfinished t p form) right)) (λ work. unfinished type place (combines op work right)) world
    (form_first form)
    (λ first begins. begins_append (0 ∷ first) _ [] (begins_first 0 first (ready (unfinished t p form)) (at_operand 1 (ready right)) begins))
    (λ first. refl))

pub hole_combines_right : (program : CProgram) (frame : Frame) (context : Work → CWorld → CState) (type : CTy) (place : Place) (op : Op2) (left : COperand) →
    IsHole program frame context → IsHole program frame (λ work world. context (unfinished type place (combines op (finished left) work)) world)
hole_combines_right program frame context type place op left hole =
    hole_below program frame context type place (λ work. combines op (finished left) work) hole (λ t p form world.
    taken_below program 1 (unfinished t p form) (unfinished type place (combines op (finished left) (unfinished t p form))) (λ work. unfinished type place (combines op (finished left) work)) world
    (form_first form)
    (λ first begins. begins_first 1 first (ready (unfinished t p form)) [] begins)
    (λ first. refl))

pub hole_assigns_target : (program : CProgram) (frame : Frame) (context : Work → CWorld → CState) (type : CTy) (place : Place) (value : Work) →
    IsHole program frame context → IsHole program frame (λ work world. context (unfinished type place (assigns work value)) world)
hole_assigns_target program frame context type place value hole =
    hole_below program frame context type place (λ work. assigns work value) hole (λ t p form world.
    taken_below program 0 (unfinished t p form) (unfinished type place (assigns (unfinished t p form) value)) (λ work. unfinished type place (assigns work value)) world
    (form_first form)
    (λ first begins. begins_append (0 ∷ first) _ [] (begins_first 0 first (ready (unfinished t p form)) (at_operand 1 (ready value)) begins))
    (λ first. refl))

pub hole_assigns_value : (program : CProgram) (frame : Frame) (context : Work → CWorld → CState) (type : CTy) (place : Place) (target : COperand) →
    IsHole program frame context → IsHole program frame (λ work world. context (unfinished type place (assigns (finished target) work)) world)
hole_assigns_value program frame context type place target hole =
    hole_below program frame context type place (λ work. assigns (finished target) work) hole (λ t p form world.
    taken_below program 1 (unfinished t p form) (unfinished type place (assigns (finished target) (unfinished t p form))) (λ work. unfinished type place (assigns (finished target) work)) world
    (form_first form)
    (λ first begins. begins_first 1 first (ready (unfinished t p form)) [] begins)
    (λ first. refl))

-- ---- arguments

-- arguments behind finished ones
abbrev pub behind : List COperand → Works → Works
behind [] works = works
behind (one ∷ more) works = more_works (finished one) (behind more works)

-- the number of the first argument behind finished ones, where they are numbered from a number on
abbrev number_behind : List COperand → ℕ → ℕ
number_behind [] number = number
number_behind (one ∷ more) number = suc (number_behind more number)

number_behind-suc : (done : List COperand) (number : ℕ) → number_behind done (suc number) ≡ suc (number_behind done number)
number_behind-suc [] number = refl
number_behind-suc (one ∷ more) number = ap suc (number_behind-suc more number)

among_behind : (done : List COperand) (number : ℕ) (work : Work) (others : Works) (first : Path) → Begins first (ready work) →
    Begins (number_behind done number ∷ first) (ready_among number (behind done (more_works work others)))
among_behind [] number work others first begins = begins_first number first (ready work) (ready_among (suc number) others) begins
among_behind (one ∷ more) number work others first begins =
    rw (← number_behind-suc more number) (among_behind more (suc number) work others first begins)

step_behind : (program : CProgram) (done : List COperand) (path : Path) (work : Work) (others : Works) (around : Works → Work) (world : CWorld) →
    step_among program (number_behind done zero) path (behind done (more_works work others)) around world
    ≡ inside (λ one. around (behind done (more_works one others))) (step_at program path work world)
step_behind program [] path work others around world = refl
step_behind program (one ∷ more) path work others around world =
    step_behind program more path work others (λ works. around (more_works (finished one) works)) world

-- a context of arguments: the place of each, behind finished ones, is one
abbrev pub AreHoles : CProgram → Frame → (Works → CWorld → CState) → Type 0
AreHoles program frame context =
    (done : List COperand) (others : Works) →
    IsHole program frame (λ work world. context (behind done (more_works work others)) world)

pub holes_calls : (program : CProgram) (frame : Frame) (context : Work → CWorld → CState) (type : CTy) (place : Place) (callee : ℕ) →
    IsHole program frame context → AreHoles program frame (λ works world. context (unfinished type place (calls callee works)) world)
holes_calls program frame context type place callee hole done others =
    hole_below program frame context type place (λ work. calls callee (behind done (more_works work others))) hole (λ t p form world.
    taken_below program (number_behind done zero) (unfinished t p form)
    (unfinished type place (calls callee (behind done (more_works (unfinished t p form) others))))
    (λ work. unfinished type place (calls callee (behind done (more_works work others)))) world
    (form_first form)
    (λ first begins. begins_append (number_behind done zero ∷ first) _ _ (among_behind done zero (unfinished t p form) others first begins))
    (λ first. step_behind program done first (unfinished t p form) others (λ works. unfinished type place (calls callee works)) world))

-- finished arguments
abbrev pub all_finished : List COperand → Works
all_finished [] = no_works
all_finished (one ∷ more) = more_works (finished one) (all_finished more)

finished_ready : (done : List COperand) (number : ℕ) → ready_among number (all_finished done) ≡ []
finished_ready [] number = refl
finished_ready (one ∷ more) number = finished_ready more (suc number)

finished_all : (done : List COperand) → are_finished (all_finished done) ≡ true
finished_all [] = refl
finished_all (one ∷ more) = finished_all more

pub finished_operands : (done : List COperand) → operands_of (all_finished done) ≡ done
finished_operands [] = refl
finished_operands (one ∷ more) = ap (λ (list : List COperand). one ∷ list) (finished_operands more)

pub ready_call : (callee : ℕ) (done : List COperand) (type : CTy) (place : Place) → ready (unfinished type place (calls callee (all_finished done))) ≡ [] ∷ []
ready_call callee done type place = rw (finished_ready done 0, finished_all done)

-- ---- nodes

taken_itself : (program : CProgram) (type : CTy) (place : Place) (form : WorkForm) (world : CWorld) → ready (unfinished type place form) ≡ [] ∷ [] →
    taken program (unfinished type place form) world ≡ became place (node_step program type form world)
taken_itself program type place form world alone =
    taken_at program [] (unfinished type place form) world (record { others = []; are = alone })

became_reaches : (program : CProgram) (frame : Frame) (context : Work → CWorld → CState) (place : Place) (world : CWorld) (outcome : Result Done URule) (left : ℕ) →
    Reaches program left (under context frame world (became place outcome)) (from_done place world left outcome) (λ one next. context (finished one) next)
became_reaches program frame context place world (Ok one) left =
    reached program left one.operand one.world (λ operand next. context (finished operand) next)
became_reaches program frame context place world (Err rule) left =
    reaches_bad program frame (record { rule = rule; place = place }) world left (λ operand next. context (finished operand) next)

-- a node whose operands are finished takes its step, and is finished
pub node_reaches : (program : CProgram) (frame : Frame) (context : Work → CWorld → CState) (type : CTy) (place : Place) (form : WorkForm) (outcome : Result Done URule) (world : CWorld) →
    IsHole program frame context → ready (unfinished type place form) ≡ [] ∷ [] → node_step program type form world ≡ outcome →
    (steps : ℕ) → Reaches program steps (context (unfinished type place form) world) (c_node place world outcome steps) (λ one next. context (finished one) next)
node_reaches program frame context type place form outcome world hole alone does =
    reaches_tick program (context (unfinished type place form) world) world (λ left. from_done place world left outcome) (λ one next. context (finished one) next)
    (hole.goes_on type place form world)
    (λ left. reaches_from program left (c_step program (context (unfinished type place form) world)) (under context frame world (became place outcome))
    (from_done place world left outcome) (λ one next. context (finished one) next)
    (hole.steps type place form world
    ∙ ap (λ (step : Stepped). under context frame world step)
    (taken_itself program type place form world alone ∙ ap (λ (found : Result Done URule). became place found) does))
    (became_reaches program frame context place world outcome left))
