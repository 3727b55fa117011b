-- Statements as they are written by hand, made from others: an `if` without an empty side and without `else` behind what doesn't come to its end, and blocks and labels where they are
-- named alone (the Rust Reference, "if expressions" and "Loops and other breakable expressions").
use Rattle.std.specs.Prelude.{ℕ, pos, List, [], ◌∷◌, Option, Some, None, if◌then◌else◌}
use Rattle.reloop.specs.Graphs.{is_in}
use Rattle.rs_mean.specs.Laws.{behind}
use Rattle.rs_mean_ends.specs.Ways.{goes, stmts_end, stmts_name}
use Rattle.rs_text.specs.declared.integer.IntegerTy.{IntegerTy}
use Rattle.rs_text.specs.declared.integer.IntegerTy.TheVariants.{U32}
use Rattle.rs_text.specs.declared.operator.Operator.{Operator}
use Rattle.rs_text.specs.declared.operator.Operator.TheVariants.{Equal, NotEqual, Less, LessEqual, Greater, GreaterEqual}
use Rattle.rs_text.specs.Tree.{Expr, Read, Not, Binary, Stmt, If, Loop, Block, Match, Return, Stmts, no_stmts, more_stmts, LiteralArm, Arms, no_arms, more_arms}
use Rattle.flow.specs.Flows.{CaseTree, BranchTree, go, if_test, switch, gives}
use Rattle.emit_rules.specs.Jumps.{label_of, current_block}

abbrev pub one_stmt : Stmt → Stmts
one_stmt s = more_stmts s no_stmts

-- ---- conditions

-- the comparison that holds where another doesn't
abbrev pub opposite : Operator → Option Operator
opposite Equal = Some NotEqual
opposite NotEqual = Some Equal
opposite Less = Some GreaterEqual
opposite LessEqual = Some Greater
opposite Greater = Some LessEqual
opposite GreaterEqual = Some Less
opposite operator = None

abbrev pub compared_by : Expr → Expr → Operator → Option Operator → Expr
compared_by left right operator (Some other) = Binary left other right
compared_by left right operator None = Not (Binary left operator right)

-- the condition that holds where another doesn't
abbrev pub negated : Expr → Expr
negated (Not e) = e
negated (Binary left operator right) = compared_by left right operator (opposite operator)
negated e = Not e

-- ---- `if`

-- both sides have statements: what doesn't come to its end needs no `else` behind it
abbrev pub if_else : Expr → Stmts → Stmts → Stmts
if_else condition if_true if_false =
    if stmts_end if_true goes then
    (if stmts_end if_false goes then one_stmt (If condition if_true if_false) else more_stmts (If (negated condition) if_false no_stmts) if_true)
    else more_stmts (If condition if_true no_stmts) if_false

abbrev pub if_of : Expr → Stmts → Stmts → Stmts
if_of condition no_stmts no_stmts = one_stmt (If condition no_stmts no_stmts)
if_of condition no_stmts (more_stmts s ss) = one_stmt (If (negated condition) (more_stmts s ss) no_stmts)
if_of condition (more_stmts s ss) no_stmts = one_stmt (If condition (more_stmts s ss) no_stmts)
if_of condition (more_stmts s ss) (more_stmts other others) = if_else condition (more_stmts s ss) (more_stmts other others)

-- ---- `match`

-- the arms of cases, each with its statements
abbrev pub case_arms : IntegerTy → List CaseTree → List Stmts → Arms
case_arms by [] texts = no_arms
case_arms by (one ∷ others) [] = no_arms
case_arms by (one ∷ others) (text ∷ texts) = more_arms (LiteralArm one.value by text) (case_arms by others texts)

abbrev pub first_text : List Stmts → Stmts
first_text [] = no_stmts
first_text (text ∷ texts) = text

-- the statements behind those of the cases
abbrev pub other_text : List CaseTree → List Stmts → Stmts
other_text [] texts = first_text texts
other_text (one ∷ others) [] = no_stmts
other_text (one ∷ others) (text ∷ texts) = other_text others texts

-- an arm for each different head
abbrev pub head_arms : (earlier heads : List ℕ) → List Stmts → Arms
head_arms earlier [] texts = no_arms
head_arms earlier (head ∷ heads) [] = no_arms
head_arms earlier (head ∷ heads) (text ∷ texts) =
    if is_in head earlier then head_arms earlier heads texts
    else more_arms (LiteralArm (pos head) U32 text) (head_arms (head ∷ earlier) heads texts)

-- the head that `current_block` says
abbrev pub choice_stmts : List ℕ → List Stmts → Stmts
choice_stmts heads texts = one_stmt (Match (Read current_block) (head_arms [] heads texts) no_stmts)

-- ---- branches

-- a branch, with the statements that stand at each of its targets
abbrev pub branch_stmts : BranchTree → List Stmts → Stmts
branch_stmts (go to) texts = first_text texts
branch_stmts (if_test test if_true if_false) [] = no_stmts
branch_stmts (if_test test if_true if_false) (text ∷ texts) = if_of test text (first_text texts)
branch_stmts (switch choices) texts = one_stmt (Match choices.on (case_arms choices.by choices.cases texts) (other_text choices.cases texts))
branch_stmts (gives value) texts = one_stmt (Return value)

-- ---- blocks and loops

-- what stands behind the end of statements and where they leave a block of this label: the block is written where its label is named
abbrev pub block_then : (label : ℕ) → Stmts → Stmts → Stmts
block_then label body rest =
    if stmts_name (label_of label) body then more_stmts (Block (label_of label) body) rest else behind body rest

-- a loop of this label, which is written where it is named
abbrev pub loop_of : (label : ℕ) → Stmts → Stmt
loop_of label body = Loop (if stmts_name (label_of label) body then Some (label_of label) else None) body
