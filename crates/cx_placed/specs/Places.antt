-- Where the trees of a program stand: each expression and each statement has a place, which names a unit and a line of it (ISO C99, 5.1.1.1
-- and 6.10.4). Here it is said of every place in a tree that it is of some units.
use Rattle.std.specs.Prelude.{ℕ, List, All, IfSome, ⊤}
use Rattle.cx_core.specs.Trees.{CExpr, expr, CForm, whole, null, object, code, load, deref, member, address, convert, unary, binary, and, or, cond, assign, assign_by, step, call, call_by, comma, literal, CExprs, no_exprs, more_exprs, CPut, put, CPuts, no_puts, more_puts, CStmt, stmt, CStmtForm, label, case, default, block, expression, if_then, switch, while, do_while, for_loop, goto, continue, break, returns, begin, COtherwise, no_else, else_do, CStmts, no_stmts, more_stmts, CObject, CFun}

abbrev mutual
  -- every place in an expression is of one of these units
  pub ExprStandsIn : (ℕ → Type 0) → CExpr → Type 0
  ExprStandsIn Among (expr type place form) = Among place.unit × FormStandsIn Among form

  pub FormStandsIn : (ℕ → Type 0) → CForm → Type 0
  FormStandsIn Among (whole value) = ⊤
  FormStandsIn Among null = ⊤
  FormStandsIn Among (object number) = ⊤
  FormStandsIn Among (code number) = ⊤
  FormStandsIn Among (load from) = ExprStandsIn Among from
  FormStandsIn Among (deref from) = ExprStandsIn Among from
  FormStandsIn Among (member of spot) = ExprStandsIn Among of
  FormStandsIn Among (address of) = ExprStandsIn Among of
  FormStandsIn Among (convert value) = ExprStandsIn Among value
  FormStandsIn Among (unary op value) = ExprStandsIn Among value
  FormStandsIn Among (binary op left right) = ExprStandsIn Among left × ExprStandsIn Among right
  FormStandsIn Among (and left right) = ExprStandsIn Among left × ExprStandsIn Among right
  FormStandsIn Among (or left right) = ExprStandsIn Among left × ExprStandsIn Among right
  FormStandsIn Among (cond test first second) = ExprStandsIn Among test × ExprStandsIn Among first × ExprStandsIn Among second
  FormStandsIn Among (assign target value) = ExprStandsIn Among target × ExprStandsIn Among value
  FormStandsIn Among (assign_by op computes target value) = ExprStandsIn Among target × ExprStandsIn Among value
  FormStandsIn Among (step up post on) = ExprStandsIn Among on
  FormStandsIn Among (call callee args) = ExprsStandIn Among args
  FormStandsIn Among (call_by callee args) = ExprStandsIn Among callee × ExprsStandIn Among args
  FormStandsIn Among (comma first second) = ExprStandsIn Among first × ExprStandsIn Among second
  FormStandsIn Among (literal number puts) = PutsStandIn Among puts

  pub ExprsStandIn : (ℕ → Type 0) → CExprs → Type 0
  ExprsStandIn Among no_exprs = ⊤
  ExprsStandIn Among (more_exprs first others) = ExprStandsIn Among first × ExprsStandIn Among others

  pub PutStandsIn : (ℕ → Type 0) → CPut → Type 0
  PutStandsIn Among (put spot type value) = ExprStandsIn Among value

  pub PutsStandIn : (ℕ → Type 0) → CPuts → Type 0
  PutsStandIn Among no_puts = ⊤
  PutsStandIn Among (more_puts first others) = PutStandsIn Among first × PutsStandIn Among others

abbrev mutual
  -- and in a statement
  pub StmtStandsIn : (ℕ → Type 0) → CStmt → Type 0
  StmtStandsIn Among (stmt place objects form) = Among place.unit × StmtFormStandsIn Among form

  pub StmtFormStandsIn : (ℕ → Type 0) → CStmtForm → Type 0
  StmtFormStandsIn Among (label name inner) = StmtStandsIn Among inner
  StmtFormStandsIn Among (case value inner) = StmtStandsIn Among inner
  StmtFormStandsIn Among (default inner) = StmtStandsIn Among inner
  StmtFormStandsIn Among (block stmts) = StmtsStandIn Among stmts
  StmtFormStandsIn Among (expression value) = IfSome value (ExprStandsIn Among)
  StmtFormStandsIn Among (if_then test inner otherwise) = ExprStandsIn Among test × StmtStandsIn Among inner × OtherwiseStandsIn Among otherwise
  StmtFormStandsIn Among (switch value inner) = ExprStandsIn Among value × StmtStandsIn Among inner
  StmtFormStandsIn Among (while test inner) = ExprStandsIn Among test × StmtStandsIn Among inner
  StmtFormStandsIn Among (do_while inner test) = StmtStandsIn Among inner × ExprStandsIn Among test
  StmtFormStandsIn Among (for_loop first test next inner) =
      StmtsStandIn Among first × IfSome test (ExprStandsIn Among) × IfSome next (ExprStandsIn Among) × StmtStandsIn Among inner
  StmtFormStandsIn Among (goto name) = ⊤
  StmtFormStandsIn Among continue = ⊤
  StmtFormStandsIn Among break = ⊤
  StmtFormStandsIn Among (returns value) = IfSome value (ExprStandsIn Among)
  StmtFormStandsIn Among (begin number puts) = IfSome puts (PutsStandIn Among)

  pub OtherwiseStandsIn : (ℕ → Type 0) → COtherwise → Type 0
  OtherwiseStandsIn Among no_else = ⊤
  OtherwiseStandsIn Among (else_do inner) = StmtStandsIn Among inner

  pub StmtsStandIn : (ℕ → Type 0) → CStmts → Type 0
  StmtsStandIn Among no_stmts = ⊤
  StmtsStandIn Among (more_stmts first others) = StmtStandsIn Among first × StmtsStandIn Among others

-- what is stored in a static object before the program begins
abbrev pub ObjectStandsIn : (ℕ → Type 0) → CObject → Type 0
ObjectStandsIn Among one = IfSome one.puts (PutsStandIn Among)

abbrev pub FunctionStandsIn : (ℕ → Type 0) → CFun → Type 0
FunctionStandsIn Among one = StmtStandsIn Among one.body

-- every place in the objects and functions of a program, or of a unit by itself, is of one of these units
pub record StandIn (Among : ℕ → Type 0) (objects : List CObject) (functions : List CFun) : Type 0 where
  pub objects_stand : All (ObjectStandsIn Among) objects
  pub functions_stand : All (FunctionStandsIn Among) functions
