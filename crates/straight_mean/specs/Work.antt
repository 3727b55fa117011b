-- Expressions under evaluation (ISO C99, 6.5 and 5.1.2.3): the nodes that may go next, and one step at one of
-- them.
use Rattle.std.specs.Prelude.{ℕ, zero, suc, ◌%◌, Bool, true, false, ◌&&◌, if◌then◌else◌, List, [], ◌∷◌, ◌++◌, map, length, slice_index_or, Result, Ok, Err}
use Rattle.cr_base.specs.declared.refusal.Place.{Place}
use Rattle.cr_base.specs.declared.rule.URule.{URule}
use Rattle.straight_core.specs.declared.expr.Op1.{Op1}
use Rattle.straight_core.specs.declared.expr.Op2.{Op2}
use Rattle.straight_core.specs.Trees.{CTy, CExpr, expr, CForm, whole, object, load, convert, unary, binary, assign, call, CExprs, no_exprs, more_exprs, CProgram}
use Rattle.straight_mean.specs.Marks.{no_marks}
use Rattle.straight_mean.specs.Nodes.{Done, load_step, assign_step, unary_step, binary_step, convert_step, call_step}
use Rattle.straight_mean.specs.Operands.{COperand, missing, Frame, constant, lvalue, CWorld, CFault}

-- ---- trees

mutual
  -- an expression under evaluation: what is left of it, with finished operands at its leaves
  pub data Work : Type 0 where
    finished : COperand → Work
    unfinished : (type : CTy) → (place : Place) → (form : WorkForm) → Work

  -- what an unfinished node does, over its operands
  pub data WorkForm : Type 0 where
    loads : Work → WorkForm
    converts : Work → WorkForm
    applies : Op1 → Work → WorkForm
    combines : Op2 → Work → Work → WorkForm
    assigns : (target : Work) → (value : Work) → WorkForm
    calls : (callee : ℕ) → Works → WorkForm

  pub data Works : Type 0 where
    no_works : Works
    more_works : Work → Works → Works

abbrev mutual
  -- an expression of which no step was taken. Constants and the places of objects are finished.
  pub begin : Frame → CExpr → Work
  begin frame (expr type place form) = begin_form frame type place form

  pub begin_form : Frame → CTy → Place → CForm → Work
  begin_form frame type place (whole value) = finished (constant type value)
  begin_form frame type place (object number) = finished (lvalue frame type number)
  begin_form frame type place (load from) = unfinished type place (loads (begin frame from))
  begin_form frame type place (convert value) = unfinished type place (converts (begin frame value))
  begin_form frame type place (unary op value) = unfinished type place (applies op (begin frame value))
  begin_form frame type place (binary op left right) =
      unfinished type place (combines op (begin frame left) (begin frame right))
  begin_form frame type place (assign target value) =
      unfinished type place (assigns (begin frame target) (begin frame value))
  begin_form frame type place (call callee args) = unfinished type place (calls callee (begin_all frame args))

  pub begin_all : Frame → CExprs → Works
  begin_all frame no_exprs = no_works
  begin_all frame (more_exprs first others) = more_works (begin frame first) (begin_all frame others)

abbrev pub is_finished : Work → Bool
is_finished (finished operand) = true
is_finished (unfinished type place form) = false

abbrev pub are_finished : Works → Bool
are_finished no_works = true
are_finished (more_works first others) = is_finished first && are_finished others

-- ---- places of nodes

-- a node of a tree: the way to it from the root, as the numbers of the operands from 0 on
abbrev pub Path : Type 0
Path = List ℕ

-- nodes of an operand, as nodes of the tree that has it
abbrev pub at_operand : ℕ → List Path → List Path
at_operand number paths = map (λ path. number ∷ path) paths

-- whether the operands that a node needs now are values
abbrev pub has_operands : WorkForm → Bool
has_operands (loads from) = is_finished from
has_operands (converts value) = is_finished value
has_operands (applies op value) = is_finished value
has_operands (combines op left right) = is_finished left && is_finished right
has_operands (assigns target value) = is_finished target && is_finished value
has_operands (calls callee args) = are_finished args

abbrev mutual
  -- the nodes that are ready, in post-order: those whose operands are values
  pub ready : Work → List Path
  ready (finished operand) = []
  ready (unfinished type place form) = ready_below form ++ (if has_operands form then [] ∷ [] else [])

  pub ready_below : WorkForm → List Path
  ready_below (loads from) = at_operand 0 (ready from)
  ready_below (converts value) = at_operand 0 (ready value)
  ready_below (applies op value) = at_operand 0 (ready value)
  ready_below (combines op left right) = at_operand 0 (ready left) ++ at_operand 1 (ready right)
  ready_below (assigns target value) = at_operand 0 (ready target) ++ at_operand 1 (ready value)
  ready_below (calls callee args) = ready_among 0 args

  -- those of operands, which are numbered from a number on
  pub ready_among : ℕ → Works → List Path
  ready_among number no_works = []
  ready_among number (more_works first others) =
      at_operand number (ready first) ++ ready_among (suc number) others

-- ---- one step at a node

-- what a step of an expression leaves
pub data Stepped : Type 0 where
  -- what is left of the expression, and the world
  stepped : Work → CWorld → Stepped
  -- the step is undefined
  faulted : CFault → Stepped

-- a step of an operand, as a step of the tree that has it
abbrev pub inside : (Work → Work) → Stepped → Stepped
inside around (stepped work world) = stepped (around work) world
inside around (faulted fault) = faulted fault

-- the finished operand that a ready node needs
abbrev pub operand_of : Work → COperand
operand_of (finished operand) = operand
operand_of (unfinished type place form) = record { type = type; value = missing; marks = no_marks }

abbrev pub operands_of : Works → List COperand
operands_of no_works = []
operands_of (more_works first others) = operand_of first ∷ operands_of others

-- the step of a ready node
abbrev pub node_step : CProgram → CTy → WorkForm → CWorld → Result Done URule
node_step program type (loads from) world = load_step type (operand_of from) world
node_step program type (converts value) world = convert_step type (operand_of value) world
node_step program type (applies op value) world = unary_step op type (operand_of value) world
node_step program type (combines op left right) world =
    binary_step op type (operand_of left) (operand_of right) world
node_step program type (assigns target value) world =
    assign_step type (operand_of target) (operand_of value) world
node_step program type (calls callee args) world = call_step program callee type (operands_of args) world

-- a ready node becomes what its step gave; a rule that is broken is broken at its place
abbrev pub became : Place → Result Done URule → Stepped
became place (Ok one) = stepped (finished one.operand) one.world
became place (Err rule) = faulted (record { rule = rule; place = place })

abbrev mutual
  -- one step at the node at the end of a path
  pub step_at : CProgram → Path → Work → CWorld → Stepped
  step_at program path (finished operand) world = stepped (finished operand) world
  step_at program [] (unfinished type place form) world = became place (node_step program type form world)
  step_at program (number ∷ path) (unfinished type place form) world =
      step_below program number path form (unfinished type place) world

  -- one step at a node of the operand with a number
  pub step_below : CProgram → ℕ → Path → WorkForm → (WorkForm → Work) → CWorld → Stepped
  step_below program number path (loads from) around world =
      inside (λ work. around (loads work)) (step_at program path from world)
  step_below program number path (converts value) around world =
      inside (λ work. around (converts work)) (step_at program path value world)
  step_below program number path (applies op value) around world =
      inside (λ work. around (applies op work)) (step_at program path value world)
  step_below program zero path (combines op left right) around world =
      inside (λ work. around (combines op work right)) (step_at program path left world)
  step_below program (suc number) path (combines op left right) around world =
      inside (λ work. around (combines op left work)) (step_at program path right world)
  step_below program zero path (assigns target value) around world =
      inside (λ work. around (assigns work value)) (step_at program path target world)
  step_below program (suc number) path (assigns target value) around world =
      inside (λ work. around (assigns target work)) (step_at program path value world)
  step_below program number path (calls callee args) around world =
      step_among program number path args (λ works. around (calls callee works)) world

  pub step_among : CProgram → ℕ → Path → Works → (Works → Work) → CWorld → Stepped
  step_among program number path no_works around world = stepped (around no_works) world
  step_among program zero path (more_works first others) around world =
      inside (λ work. around (more_works work others)) (step_at program path first world)
  step_among program (suc number) path (more_works first others) around world =
      step_among program number path others (λ works. around (more_works first works)) world

-- ---- which node goes next

-- the ready node that is taken, and the numbers of the order that are left
pub record Choice : Type 0 where
  pub path : Path
  pub order : List ℕ

-- Where two or more nodes are ready, the one with the next number of the order modulo their count is taken,
-- counted from 0; where no number is left, the first. Where one is ready it is taken, and no number.
abbrev pub choose : List ℕ → List Path → Choice
choose order [] = record { path = []; order = order }
choose order (only ∷ []) = record { path = only; order = order }
choose [] (first ∷ second ∷ more) = record { path = first; order = [] }
choose (next ∷ order) (first ∷ second ∷ more) = record {
  path = slice_index_or (first ∷ second ∷ more) (next % length (first ∷ second ∷ more)) [];
  order = order;
}
