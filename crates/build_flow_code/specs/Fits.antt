-- Bodies whose bit-fields are those of the profile (ISO C99, 6.7.2.1p3, p9).
use Rattle.build_flow_code.specs.Parts.{OptionFits, ContentsFit}
use Rattle.cx_core.specs.Trees.{CStmt, stmt, CStmtForm, label, case, default, block, expression, if_then, switch, while, do_while, for_loop, goto, continue, break, returns, begin, COtherwise, no_else, else_do, CStmts, no_stmts, more_stmts}
use Rattle.lift.specs.Fits.{FieldsFit}

abbrev mutual
  -- each bit-field that the expressions of a statement name is one of the profile
  pub StmtFits : CStmt → Type 0
  StmtFits (stmt place objects form) = StmtFormFits form

  pub StmtFormFits : CStmtForm → Type 0
  StmtFormFits (label name body) = StmtFits body
  StmtFormFits (case value body) = StmtFits body
  StmtFormFits (default body) = StmtFits body
  StmtFormFits (block stmts) = StmtsFit stmts
  StmtFormFits (expression value) = OptionFits value
  StmtFormFits (if_then test body otherwise) = FieldsFit test × (StmtFits body × OtherwiseFits otherwise)
  StmtFormFits (switch value body) = FieldsFit value × StmtFits body
  StmtFormFits (while test body) = FieldsFit test × StmtFits body
  StmtFormFits (do_while body test) = StmtFits body × FieldsFit test
  StmtFormFits (for_loop first test next body) = StmtsFit first × (OptionFits test × (OptionFits next × StmtFits body))
  StmtFormFits (goto name) = Unit {0}
  StmtFormFits continue = Unit {0}
  StmtFormFits break = Unit {0}
  StmtFormFits (returns value) = OptionFits value
  StmtFormFits (begin number puts) = ContentsFit puts

  pub OtherwiseFits : COtherwise → Type 0
  OtherwiseFits no_else = Unit {0}
  OtherwiseFits (else_do body) = StmtFits body

  pub StmtsFit : CStmts → Type 0
  StmtsFit no_stmts = Unit {0}
  StmtsFit (more_stmts first others) = StmtFits first × StmtsFit others
