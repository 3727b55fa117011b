-- A chosen part is finished, ready and waiting as the node is that carries it.
use Rattle.std.proofs.Common.{◌≡◌, refl}
use Rattle.cx_core.specs.Trees.{CExpr}
use Rattle.cx_mean.specs.Marks.{Marks}
use Rattle.cx_mean.specs.Work.{CWork, finished, needs, chooses, tests, carries, updates, fills, waits, carried, is_finished, ready, is_waiting}
use Rattle.cx_work.specs.Values.{value_in}
use Rattle.cx_work.specs.Waiting.{waiting_calls}

pub carried_finishes : (node : CExpr) (marks : Marks) (part : CWork) → is_finished (carried node marks part) ≡ is_finished part
carried_finishes node marks (finished operand) = refl
carried_finishes node marks (needs one operands) = refl
carried_finishes node marks (chooses one first) = refl
carried_finishes node marks (tests one before second) = refl
carried_finishes node marks (carries one before inner) = refl
carried_finishes node marks (updates one update stage before) = refl
carried_finishes node marks (fills one before entry others value) = refl
carried_finishes node marks (waits one before) = refl

pub carried_counts : (node : CExpr) (marks : Marks) (part : CWork) → ready (carried node marks part) ≡ ready part
carried_counts node marks (finished operand) = refl
carried_counts node marks (needs one operands) = refl
carried_counts node marks (chooses one first) = refl
carried_counts node marks (tests one before second) = refl
carried_counts node marks (carries one before inner) = refl
carried_counts node marks (updates one update stage before) = refl
carried_counts node marks (fills one before entry others value) = refl
carried_counts node marks (waits one before) = refl

pub carried_waits : (node : CExpr) (marks : Marks) (part : CWork) → is_waiting (carried node marks part) ≡ is_waiting part
carried_waits node marks (finished operand) = refl
carried_waits node marks (needs one operands) = refl
carried_waits node marks (chooses one first) = refl
carried_waits node marks (tests one before second) = refl
carried_waits node marks (carries one before inner) = refl
carried_waits node marks (updates one update stage before) = refl
carried_waits node marks (fills one before entry others value) = refl
carried_waits node marks (waits one before) = refl

pub carried_calls : (node : CExpr) (marks : Marks) (part : CWork) → waiting_calls (carried node marks part) ≡ waiting_calls part
carried_calls node marks (finished operand) = refl
carried_calls node marks (needs one operands) = refl
carried_calls node marks (chooses one first) = refl
carried_calls node marks (tests one before second) = refl
carried_calls node marks (carries one before inner) = refl
carried_calls node marks (updates one update stage before) = refl
carried_calls node marks (fills one before entry others value) = refl
carried_calls node marks (waits one before) = refl

pub carried_value : (node : CExpr) (marks : Marks) (part : CWork) → value_in (carried node marks part) ≡ value_in part
carried_value node marks (finished operand) = refl
carried_value node marks (needs one operands) = refl
carried_value node marks (chooses one first) = refl
carried_value node marks (tests one before second) = refl
carried_value node marks (carries one before inner) = refl
carried_value node marks (updates one update stage before) = refl
carried_value node marks (fills one before entry others value) = refl
carried_value node marks (waits one before) = refl
