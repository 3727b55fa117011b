-- What a unit breaks, and what it means: the first broken node of all its nodes, and the typed unit where no node is broken.
use Rattle.std.specs.Prelude.{ℕ, List, Option, None, Some}
use Rattle.cr_base.specs.declared.refusal.Refusal.{Refusal}
use Rattle.cx_core.specs.Trees.{CTy, CUnit}
use Rattle.cx_rules.specs.Initial.{CStored}
use Rattle.cx_rules.specs.Operands.{COperand}
use Rattle.cx_rules.specs.Readings.{CSeen, Seen, seen_gives, seen_chain, seen_here, seen_becomes, seen_look, first_broken, Check, check_gives, check_chain, check_here, check_becomes, check_look}
use Rattle.cx_rules.specs.Scope.{new_scope}
use Rattle.cx_rules.specs.Walk as walk
use Rattle.cx_rules.specs.Pieces.{CTarget}
use Rattle.cx_rules.specs.UnitWalk as unit
use Rattle.cx_tree.specs.Trees.{ExprTree, TypeNameTree, InitialiserTree, UnitTree}

-- ---- every node

-- an expression, a type name, an initialiser, and a unit by itself under its number
abbrev pub seen_expr : ExprTree → Seen COperand
seen_expr = walk.expr_walk Seen seen_gives seen_chain seen_here seen_becomes seen_look

abbrev pub seen_type_name : TypeNameTree → Seen CTy
seen_type_name = walk.type_name_walk Seen seen_gives seen_chain seen_here seen_becomes seen_look

abbrev pub seen_initialiser : CTarget → InitialiserTree → Seen (List CStored)
seen_initialiser = walk.initialiser_walk Seen seen_gives seen_chain seen_here seen_becomes seen_look

unfoldable pub seen_unit : ℕ → UnitTree → CSeen CUnit
seen_unit number one = unit.unit_walk Seen seen_gives seen_chain seen_here seen_becomes seen_look one (new_scope number)

-- the first broken node of a unit
abbrev pub broken_unit : ℕ → UnitTree → Option Refusal
broken_unit number one = first_broken (seen_unit number one).nodes

-- the typed unit, where no node is broken
abbrev meant_where : CUnit → Option Refusal → Option CUnit
meant_where meaning None = Some meaning
meant_where meaning (Some refusal) = None

abbrev pub core_of_unit : ℕ → UnitTree → Option CUnit
core_of_unit number one = meant_where (seen_unit number one).meaning (broken_unit number one)

-- ---- up to the first broken node

abbrev pub check_expr : ExprTree → Check COperand
check_expr = walk.expr_walk Check check_gives check_chain check_here check_becomes check_look

abbrev pub check_type_name : TypeNameTree → Check CTy
check_type_name = walk.type_name_walk Check check_gives check_chain check_here check_becomes check_look

abbrev pub check_initialiser : CTarget → InitialiserTree → Check (List CStored)
check_initialiser = walk.initialiser_walk Check check_gives check_chain check_here check_becomes check_look

abbrev pub check_unit : UnitTree → Check CUnit
check_unit = unit.unit_walk Check check_gives check_chain check_here check_becomes check_look
