-- Statements break no rule and are typed, by induction over their forms (ISO C99, 6.8).
use Rattle.cx_tree.specs.Trees.{no_expr, some_expr, StmtTree, Label, Case, Default, Block, ExprStmt, If, Switch, While, Do, For, Goto, Continue, Break, Return, OptionStmtTree, no_stmt, some_stmt, Statement, Declared, ItemTrees, no_items, more_items}
use Rattle.cx_typed_units.proofs.Items.{statement_goes, declared_goes, no_items_go, more_items_go, block_goes}
use Rattle.cx_typed_units.proofs.Loops.{for_goes}
use Rattle.cx_typed_units.proofs.Selections.{no_else_goes, else_goes, if_goes, while_goes, do_goes}
use Rattle.cx_typed_units.proofs.Simple.{label_goes, case_goes, default_goes, null_goes, expression_goes, goto_goes, continue_goes, break_goes, return_goes, return_value_goes}
use Rattle.cx_typed_units.proofs.Switches.{switch_goes}
use Rattle.cx_typed_units.specs.Forms.{PartsGo, ElsePartsGo, ItemPartsGo, StatementsGo}
use Rattle.cx_typed_units.specs.Statements.{StmtGoes, ElseGoes, ItemsGo}

mutual
  stmt_is : (tree : StmtTree) → PartsGo tree → StmtGoes tree
  stmt_is (Label name inner lines) parts = label_goes name inner lines (stmt_is inner parts)
  stmt_is (Case value inner lines) parts = case_goes value inner lines parts.0 (stmt_is inner parts.1)
  stmt_is (Default inner lines) parts = default_goes inner lines (stmt_is inner parts)
  stmt_is (Block items lines) parts = block_goes items lines (items_are items parts)
  stmt_is (ExprStmt no_expr lines) parts = null_goes lines
  stmt_is (ExprStmt (some_expr value) lines) parts = expression_goes value lines parts
  stmt_is (If condition branch otherwise lines) parts = if_goes condition branch otherwise lines parts.0 (stmt_is branch parts.1) (else_is otherwise parts.2)
  stmt_is (Switch on body lines) parts = switch_goes on body lines parts.0 (stmt_is body parts.1)
  stmt_is (While condition body lines) parts = while_goes condition body lines parts.0 (stmt_is body parts.1)
  stmt_is (Do body condition lines) parts = do_goes body condition lines (stmt_is body parts.0) parts.1
  stmt_is (For first second third body lines) parts = for_goes first second third body lines parts.0 parts.1 parts.2 (stmt_is body parts.3)
  stmt_is (Goto name lines) parts = goto_goes name lines
  stmt_is (Continue lines) parts = continue_goes lines
  stmt_is (Break lines) parts = break_goes lines
  stmt_is (Return no_expr lines) parts = return_goes lines
  stmt_is (Return (some_expr value) lines) parts = return_value_goes value lines parts

  else_is : (tree : OptionStmtTree) → ElsePartsGo tree → ElseGoes tree
  else_is no_stmt parts = no_else_goes
  else_is (some_stmt inner) parts = else_goes inner (stmt_is inner parts)

  items_are : (trees : ItemTrees) → ItemPartsGo trees → ItemsGo trees
  items_are no_items parts = no_items_go
  items_are (more_items (Statement inner) others) parts = more_items_go (Statement inner) others (statement_goes inner (stmt_is inner parts.0)) (items_are others parts.1)
  items_are (more_items (Declared decl) others) parts = more_items_go (Declared decl) others (declared_goes decl parts.0) (items_are others parts.1)

pub statements : StatementsGo
statements = record { stmt = stmt_is; items = items_are }
