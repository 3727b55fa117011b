-- Expressions under evaluation (ISO C99, 6.5 and 5.1.2.3): the tree of what is left of one, and how many of its nodes are
-- ready.
use Rattle.std.specs.Prelude.{ℕ, ◌+◌, Bool, true, false, ◌&&◌, ◌||◌, if◌then◌else◌, List, [], ◌∷◌}
use Rattle.cr_base.specs.declared.refusal.Place.{Place}
use Rattle.cx_core.specs.declared.expr.Op2.{Op2}
use Rattle.cx_core.specs.Trees.{CTy, CExpr, expr, CForm, whole, null, object, code, load, deref, member, address, convert, unary, binary, and, or, cond, assign, assign_by, step, call, call_by, comma, literal, CExprs, no_exprs, more_exprs, CPut, put, CPuts, no_puts, more_puts, type_of}
use Rattle.cx_mean.specs.Marks.{Marks, both}
use Rattle.cx_mean.specs.Operands.{CValue, scalar, names, COperand, at_once}
use Rattle.cx_mean.specs.Values.{CTyped}
use Rattle.mem_bytes.specs.declared.value.Value.{Value}
use Rattle.mem_bytes.specs.declared.value.Value.TheVariants.{Whole as Number, Null, Code as Function}

-- ---- trees

-- `op=`, `++` and `--` after their load: the operator and the type in which it computes, what it computes with, the type and
-- the place of the target, whether the operator stands behind it, and what was loaded
pub record CUpdate : Type 0 where
  pub op : Op2
  pub computes : CTy
  pub right : CTyped
  pub target_type : CTy
  pub target : CValue
  pub is_postfix : Bool
  pub old : Value

-- how far it has come: it was loaded, computed, or converted to the type of the target
pub data CStage : Type 0 where
  was_loaded : CStage
  was_computed : Value → CStage
  was_converted : Value → CStage

mutual
  -- an expression under evaluation: what is left of it, with finished operands at its leaves. Each node keeps its own
  -- expression; parts that aren't chosen yet are read there.
  pub data CWork : Type 0 where
    finished : COperand → CWork
    -- a node that needs all its operands
    needs : CExpr → CWorks → CWork
    -- `&&`, `||`, `?:` or a comma before its first operand is a value
    chooses : CExpr → CWork → CWork
    -- `&&` or `||` with its second operand, and the marks of its first
    tests : CExpr → Marks → CWork → CWork
    -- `?:` or a comma with its chosen part, which isn't finished, and the marks of what went before
    carries : CExpr → Marks → CWork → CWork
    -- `op=`, `++` or `--` after its load
    updates : CExpr → CUpdate → CStage → Marks → CWork
    -- a compound literal with the value of a put, the puts behind it, and the marks of what went before
    fills : CExpr → Marks → CPut → CPuts → CWork → CWork
    -- a call whose function runs
    waits : CExpr → Marks → CWork

  pub data CWorks : Type 0 where
    no_works : CWorks
    more_works : CWork → CWorks → CWorks

abbrev pub one_work : CWork → CWorks
one_work work = more_works work no_works

abbrev pub two_works : CWork → CWork → CWorks
two_works first second = more_works first (more_works second no_works)

abbrev mutual
  -- an expression of which no step was taken. Constants and the names of objects and functions are finished.
  pub begun : CExpr → CWork
  begun (expr type place form) = begun_form type place form

  pub begun_form : CTy → Place → CForm → CWork
  begun_form type place (whole value) = finished (at_once type (scalar (Number value)))
  begun_form type place null = finished (at_once type (scalar Null))
  begun_form type place (object number) = finished (at_once type (names number))
  begun_form type place (code number) = finished (at_once type (scalar (Function number)))
  begun_form type place (load from) = needs (expr type place (load from)) (one_work (begun from))
  begun_form type place (deref from) = needs (expr type place (deref from)) (one_work (begun from))
  begun_form type place (member of spot) = needs (expr type place (member of spot)) (one_work (begun of))
  begun_form type place (address of) = needs (expr type place (address of)) (one_work (begun of))
  begun_form type place (convert value) = needs (expr type place (convert value)) (one_work (begun value))
  begun_form type place (unary op value) = needs (expr type place (unary op value)) (one_work (begun value))
  begun_form type place (binary op left right) =
      needs (expr type place (binary op left right)) (two_works (begun left) (begun right))
  begun_form type place (and left right) = chooses (expr type place (and left right)) (begun left)
  begun_form type place (or left right) = chooses (expr type place (or left right)) (begun left)
  begun_form type place (cond test first second) = chooses (expr type place (cond test first second)) (begun test)
  begun_form type place (assign target value) =
      needs (expr type place (assign target value)) (two_works (begun target) (begun value))
  begun_form type place (assign_by op computes target value) =
      needs (expr type place (assign_by op computes target value)) (two_works (begun target) (begun value))
  begun_form type place (step up post on) = needs (expr type place (step up post on)) (one_work (begun on))
  begun_form type place (call callee args) = needs (expr type place (call callee args)) (all_begun args)
  begun_form type place (call_by callee args) =
      needs (expr type place (call_by callee args)) (more_works (begun callee) (all_begun args))
  begun_form type place (comma first second) = chooses (expr type place (comma first second)) (begun first)
  begun_form type place (literal number puts) = needs (expr type place (literal number puts)) no_works

  pub all_begun : CExprs → CWorks
  all_begun no_exprs = no_works
  all_begun (more_exprs first others) = more_works (begun first) (all_begun others)

-- ---- finished nodes

abbrev pub is_finished : CWork → Bool
is_finished (finished operand) = true
is_finished (needs node operands) = false
is_finished (chooses node first) = false
is_finished (tests node marks second) = false
is_finished (carries node marks part) = false
is_finished (updates node update stage marks) = false
is_finished (fills node marks one others value) = false
is_finished (waits node marks) = false

abbrev pub are_finished : CWorks → Bool
are_finished no_works = true
are_finished (more_works first others) = is_finished first && are_finished others

abbrev pub operand_before : CWork → List COperand → List COperand
operand_before (finished operand) others = operand ∷ others
operand_before work others = others

-- the finished operands of a node
abbrev pub operands_in : CWorks → List COperand
operands_in no_works = []
operands_in (more_works first others) = operand_before first (operands_in others)

-- an operand with what was accessed before it, without a test (6.5.13p4, 6.5.14p4, 6.5.15p4, 6.5.17p2)
abbrev pub after_marks : Marks → COperand → COperand
after_marks marks operand = record operand { marks = both marks operand.marks }

-- the chosen part of `?:` or a comma: where it is finished, so is the node
abbrev pub carried : CExpr → Marks → CWork → CWork
carried node marks (finished operand) = finished (after_marks marks operand)
carried node marks work = carries node marks work

-- a compound literal before its next put: where there is none it is finished, an lvalue of its object
abbrev pub filled : CExpr → ℕ → Marks → CPuts → CWork
filled node number marks no_puts = finished (record { type = type_of node; value = names number; marks = marks })
filled node number marks (more_puts (put spot type value) others) =
    fills node marks (put spot type value) others (begun value)

-- ---- ready nodes

abbrev pub one_or : Bool → ℕ → ℕ
one_or is_ready count = if is_ready then 1 else count

abbrev mutual
  -- how many nodes are ready. They are counted in post-order, from the left and operands before the node that has them; a
  -- node that needs operands is ready where all of them are finished.
  pub ready : CWork → ℕ
  ready (finished operand) = 0
  ready (needs node operands) = one_or (are_finished operands) (ready_among operands)
  ready (chooses node first) = one_or (is_finished first) (ready first)
  ready (tests node marks second) = one_or (is_finished second) (ready second)
  ready (carries node marks part) = ready part
  ready (updates node update stage marks) = 1
  ready (fills node marks one others value) = one_or (is_finished value) (ready value)
  ready (waits node marks) = 0

  pub ready_among : CWorks → ℕ
  ready_among no_works = 0
  ready_among (more_works first others) = ready first + ready_among others

abbrev mutual
  -- a call in a tree waits for its function to end
  pub is_waiting : CWork → Bool
  is_waiting (finished operand) = false
  is_waiting (needs node operands) = are_waiting operands
  is_waiting (chooses node first) = is_waiting first
  is_waiting (tests node marks second) = is_waiting second
  is_waiting (carries node marks part) = is_waiting part
  is_waiting (updates node update stage marks) = false
  is_waiting (fills node marks one others value) = is_waiting value
  is_waiting (waits node marks) = true

  pub are_waiting : CWorks → Bool
  are_waiting no_works = false
  are_waiting (more_works first others) = is_waiting first || are_waiting others

-- how many nodes may take the next step: none where the tree is finished, or waits for a call
abbrev pub ready_nodes : CWork → ℕ
ready_nodes work = if is_waiting work then 0 else ready work

-- ---- the end of a call for which a tree waits

abbrev mutual
  -- the value of the call takes its place
  pub resumed : CValue → CWork → CWork
  resumed value (finished operand) = finished operand
  resumed value (needs node operands) = needs node (all_resumed value operands)
  resumed value (chooses node first) = chooses node (resumed value first)
  resumed value (tests node marks second) = tests node marks (resumed value second)
  resumed value (carries node marks part) = carried node marks (resumed value part)
  resumed value (updates node update stage marks) = updates node update stage marks
  resumed value (fills node marks one others held) = fills node marks one others (resumed value held)
  resumed value (waits node marks) = finished (record { type = type_of node; value = value; marks = marks })

  pub all_resumed : CValue → CWorks → CWorks
  all_resumed value no_works = no_works
  all_resumed value (more_works first others) = more_works (resumed value first) (all_resumed value others)
