-- Typed expressions under evaluation: what is left of each is a tree whose finished operands are those of its typed parts (ISO C99,
-- 6.5 and 5.1.2.3).
use Rattle.std.specs.Prelude.{◌≡◌, ◌⊎◌, ℕ, ℤ, pos, Bool, true, false, Option, Some, None, List, [], ◌∷◌}
use Rattle.cx_core.specs.Conversions.{promoted}
use Rattle.cx_core.specs.declared.expr.Op2.{Op2}
use Rattle.cx_core.specs.declared.expr.Op2.TheVariants.{Add, Subtract}
use Rattle.cx_core.specs.Trees.{CTy, CProgram, unqualified, CExpr, expr, CForm, whole, null, object, code, load, deref, member, address, convert, unary, binary, and, or, cond, assign, assign_by, step, call, call_by, comma, literal, CExprs, no_exprs, more_exprs, CPut, put, CPuts, no_puts, more_puts, type_of}
use Rattle.cx_core.specs.Typing.{CHome, IsTyped, IsLvalue, types_of_home, width_of}
use Rattle.cx_mean.specs.Marks.{Marks}
use Rattle.cx_mean.specs.Operands.{CValue}
use Rattle.cx_mean.specs.Values.{CTyped}
use Rattle.cx_mean.specs.Work.{CUpdate, CStage, was_loaded, was_computed, was_converted, CWork, finished, needs, chooses, tests, carries, updates, fills, waits, CWorks, no_works, more_works, is_finished}
use Rattle.mem_bytes.specs.declared.value.Value.TheVariants.{Whole as Number}
use Rattle.cx_typed_work.specs.Operands.{IsScalarIn, IsPlaceOf, IsOperandOf}

-- ---- nodes and their operands

abbrev pub form_in : CExpr → CForm
form_in (expr type place form) = form

abbrev pub one_operand : CExpr → CExprs
one_operand one = more_exprs one no_exprs

-- the operands of a node that needs them all; none where it takes its parts one after the other, or is finished at once
abbrev operands_in_form : CForm → Option CExprs
operands_in_form (load from) = Some (one_operand from)
operands_in_form (deref from) = Some (one_operand from)
operands_in_form (member of spot) = Some (one_operand of)
operands_in_form (address of) = Some (one_operand of)
operands_in_form (convert value) = Some (one_operand value)
operands_in_form (unary op value) = Some (one_operand value)
operands_in_form (binary op left right) = Some (more_exprs left (one_operand right))
operands_in_form (assign target value) = Some (more_exprs target (one_operand value))
operands_in_form (assign_by op computes target value) = Some (more_exprs target (one_operand value))
operands_in_form (step up post on) = Some (one_operand on)
operands_in_form (call callee args) = Some args
operands_in_form (call_by callee args) = Some (more_exprs callee args)
operands_in_form (literal number puts) = Some no_exprs
operands_in_form (whole value) = None
operands_in_form null = None
operands_in_form (object number) = None
operands_in_form (code number) = None
operands_in_form (and left right) = None
operands_in_form (or left right) = None
operands_in_form (cond test first second) = None
operands_in_form (comma first second) = None

abbrev pub operands_of : CExpr → Option CExprs
operands_of (expr type place form) = operands_in_form form

-- the part that `&&`, `||`, `?:` or a comma evaluates first
abbrev first_part_in : CForm → Option CExpr
first_part_in (and left right) = Some left
first_part_in (or left right) = Some left
first_part_in (cond test first second) = Some test
first_part_in (comma first second) = Some first
first_part_in _ = None

abbrev pub first_part : CExpr → Option CExpr
first_part (expr type place form) = first_part_in form

-- the second operand of `&&` or `||`
abbrev second_part_in : CForm → Option CExpr
second_part_in (and left right) = Some right
second_part_in (or left right) = Some right
second_part_in _ = None

abbrev pub second_part : CExpr → Option CExpr
second_part (expr type place form) = second_part_in form

-- the parts one of which gives the value of `?:` or of a comma
abbrev chosen_parts_in : CForm → List CExpr
chosen_parts_in (cond test first second) = first ∷ second ∷ []
chosen_parts_in (comma first second) = second ∷ []
chosen_parts_in _ = []

abbrev pub chosen_parts : CExpr → List CExpr
chosen_parts (expr type place form) = chosen_parts_in form

abbrev is_call_in : CForm → Bool
is_call_in (call callee args) = true
is_call_in (call_by callee args) = true
is_call_in _ = false

abbrev pub is_call : CExpr → Bool
is_call (expr type place form) = is_call_in form

-- ---- `op=`, `++` and `--` after their load (6.5.2.4, 6.5.3.1, 6.5.16.2)

-- what such a node changes, and how: the lvalue, the operator, the type in which it computes, the type of the operand that it computes with,
-- where it isn't the 1 of `++` and `--`, and whether the operator stands behind
pub record CChanges : Type 0 where
  pub target : CExpr
  pub op : Op2
  pub computes : CTy
  pub right : Option CTy
  pub is_postfix : Bool

abbrev up_or_down : Bool → Op2
up_or_down true = Add
up_or_down false = Subtract

abbrev changes_in : CHome → CForm → Option CChanges
changes_in home (assign_by op computes target value) =
    Some (record { target = target; op = op; computes = computes; right = Some (type_of value); is_postfix = false })
changes_in home (step up post on) =
    let computes = promoted (types_of_home home) (type_of on) (width_of on) in
    Some (record { target = on; op = up_or_down up; computes = computes; right = None; is_postfix = post })
changes_in home _ = None

abbrev pub changes_of : CHome → CExpr → Option CChanges
changes_of home (expr type place form) = changes_in home form

-- the type of the value that is computed, or stored
abbrev pub IsStageOf : CHome → CChanges → CStage → Type 0
IsStageOf home change was_loaded = Unit {0}
IsStageOf home change (was_computed value) = IsScalarIn home.program change.computes value
IsStageOf home change (was_converted value) = IsScalarIn home.program (unqualified (type_of change.target)) value

-- what it computes with: a value of the operand's type, or 1
abbrev pub IsRightOf : CProgram → Option CTy → CTyped → Type 0
IsRightOf program None right = right.value ≡ Number (pos 1)
IsRightOf program (Some type) right = (right.type ≡ type) × IsScalarIn program type right.value

-- what the node keeps of its operands
pub record IsUpdateOf (home : CHome) (node : CExpr) (update : CUpdate) (stage : CStage) : Type 0 where
  pub change : CChanges
  pub change_is : changes_of home node ≡ Some change
  pub op_is : update.op ≡ change.op
  pub computes_is : update.computes ≡ change.computes
  pub right : IsRightOf home.program change.right update.right
  pub target_type_is : update.target_type ≡ unqualified (type_of change.target)
  pub target : IsPlaceOf change.target update.target
  pub postfix_is : update.is_postfix ≡ change.is_postfix
  pub old : IsScalarIn home.program (unqualified (type_of change.target)) update.old
  pub stage_is : IsStageOf home change stage

-- ---- puts of compound literals (6.5.2.5)

-- a put and those behind it are the last ones of a literal
abbrev AreLastPuts : CPuts → CPut → CPuts → Type 0
AreLastPuts no_puts one others = ⊥
AreLastPuts (more_puts first rest) one others = ((first ≡ one) × (rest ≡ others)) ⊎ AreLastPuts rest one others

abbrev IsFillingIn : CForm → CPut → CPuts → Type 0
IsFillingIn (literal number puts) one others = AreLastPuts puts one others
IsFillingIn _ one others = ⊥

abbrev pub IsFilling : CExpr → CPut → CPuts → Type 0
IsFilling (expr type place form) one others = IsFillingIn form one others

abbrev pub value_of_put : CPut → CExpr
value_of_put (put spot type value) = value

-- ---- trees

abbrev pub IfOperands : Option CExprs → (CExprs → Type 0) → Type 0
IfOperands None Holds = ⊥
IfOperands (Some operands) Holds = Holds operands

abbrev pub IfPart : Option CExpr → (CExpr → Type 0) → Type 0
IfPart None Holds = ⊥
IfPart (Some part) Holds = Holds part

abbrev pub AnyPart : List CExpr → (CExpr → Type 0) → Type 0
AnyPart [] Holds = ⊥
AnyPart (part ∷ parts) Holds = Holds part ⊎ AnyPart parts Holds

abbrev mutual
  -- a tree is what is left of a typed expression; each node keeps its own
  pub IsWorkOf : CHome → CExpr → CWork → Type 0
  IsWorkOf home node (finished operand) = IsOperandOf home node operand
  IsWorkOf home node (needs own operands) = (own ≡ node) × IfOperands (operands_of node) (λ parts. AreWorksOf home parts operands)
  IsWorkOf home node (chooses own first) = (own ≡ node) × IfPart (first_part node) (λ part. IsWorkOf home part first)
  IsWorkOf home node (tests own marks second) = (own ≡ node) × IfPart (second_part node) (λ part. IsWorkOf home part second)
  IsWorkOf home node (carries own marks chosen) = (own ≡ node) × (is_finished chosen ≡ false) × AnyPart (chosen_parts node) (λ part. IsWorkOf home part chosen)
  IsWorkOf home node (updates own update stage marks) = (own ≡ node) × IsUpdateOf home node update stage
  IsWorkOf home node (fills own marks one others value) = (own ≡ node) × IsFilling node one others × IsWorkOf home (value_of_put one) value
  IsWorkOf home node (waits own marks) = (own ≡ node) × (is_call node ≡ true)

  pub AreWorksOf : CHome → CExprs → CWorks → Type 0
  AreWorksOf home no_exprs no_works = Unit {0}
  AreWorksOf home no_exprs (more_works work works) = ⊥
  AreWorksOf home (more_exprs part parts) no_works = ⊥
  AreWorksOf home (more_exprs part parts) (more_works work works) = IsWorkOf home part work × AreWorksOf home parts works

-- an expression that is a value or an lvalue
abbrev pub IsTypedNode : CHome → CExpr → Type 0
IsTypedNode home node = IsTyped home node ⊎ IsLvalue home node

-- a typed expression under evaluation
pub record IsTypedWork (home : CHome) (node : CExpr) (work : CWork) : Type 0 where
  pub typed : IsTypedNode home node
  pub left : IsWorkOf home node work
