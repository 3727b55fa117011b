-- What is typed names bit-fields of the profile alone.
use Rattle.std.proofs.Common.{ℕ, List, [], Option, Some, None, IsSome, IfSome}
use Rattle.build_flow_code.specs.Fits.{StmtFits, StmtFormFits, OtherwiseFits, StmtsFit}
use Rattle.build_flow_code.specs.Parts.{OptionFits, ContentsFit}
use Rattle.cx_core.specs.Statements.{CBody, with_objects, within_loop, within_switch, IsCondition, IsVoidExpr, IsReturn, IsDeclared, IsTypedStmt, IsTypedStmtForm, IsTypedElse, AreTypedStmts}
use Rattle.cx_core.specs.Trees.{CTy, CExpr, expr, CForm, whole, null, object, code, load, deref, member, address, convert, unary, binary, and, or, cond, assign, assign_by, step, call, call_by, comma, literal, type_of, CExprs, no_exprs, more_exprs, CPut, put, CPuts, no_puts, more_puts, CStmt, stmt, CStmtForm, label, case, default, block, expression, if_then, switch, while, do_while, for_loop, goto, continue, break, returns, begin, COtherwise, no_else, else_do, CStmts, no_stmts, more_stmts, CObject}
use Rattle.cx_core.specs.Typing.{CHome, object_with, IsTyped, IsTypedForm, IsLvalue, IsLvalueForm, AreTyped, ArePuts, IsTypedPut}
use Rattle.cx_core.specs.ValidTypes.{AreTypes}
use Rattle.lift.specs.Fits.{FieldsFit, FormFits, ArgsFit, PutFits, PutsFit}
use Rattle.whole_fits.proofs.Parts.{member_fits, part_fits}

-- ---- expressions

module _ (home : CHome) (are : AreTypes home.program.types) where
  mutual
    pub typed_fits : (e : CExpr) → IsTyped home e → FieldsFit e
    typed_fits (expr type place form) is = form_fits type form is.1

    form_fits : (type : CTy) (form : CForm) → IsTypedForm home type form → FormFits form
    form_fits type (whole value) is = tt
    form_fits type null is = tt
    form_fits type (object number) is = absurd is
    form_fits type (code number) is = tt
    form_fits type (load from) is = lvalue_fits from is.0
    form_fits type (deref from) is = absurd is
    form_fits type (member of spot) is = (member_fits home.program.types (type_of of) spot is.1.declared are is.1.member, typed_fits of is.0)
    form_fits type (address of) is = lvalue_fits of is.0
    form_fits type (convert value) is = typed_fits value is.0
    form_fits type (unary op value) is = typed_fits value is.0
    form_fits type (binary op left right) is = (typed_fits left is.0, typed_fits right is.1)
    form_fits type (and left right) is = (typed_fits left is.0, typed_fits right is.1)
    form_fits type (or left right) is = (typed_fits left is.0, typed_fits right is.1)
    form_fits type (cond test first second) is = (typed_fits test is.0, (typed_fits first is.1, typed_fits second is.2))
    form_fits type (assign target value) is = (lvalue_fits target is.0, typed_fits value is.1)
    form_fits type (assign_by op computes target value) is = (lvalue_fits target is.0, typed_fits value is.1)
    form_fits type (step up post on) is = lvalue_fits on is.0
    form_fits type (call callee args) is = args_fit args is.0
    form_fits type (call_by callee args) is = (typed_fits callee is.0, args_fit args is.1)
    form_fits type (comma first second) is = (typed_fits first is.0, typed_fits second is.1)
    form_fits type (literal number puts) is = absurd is

    lvalue_fits : (e : CExpr) → IsLvalue home e → FieldsFit e
    lvalue_fits (expr type place form) is = place_fits type form is.2

    place_fits : (type : CTy) (form : CForm) → IsLvalueForm home type form → FormFits form
    place_fits type (object number) is = tt
    place_fits type (deref from) is = typed_fits from is.0
    place_fits type (member of spot) is = (member_fits home.program.types (type_of of) spot type are is.1, lvalue_fits of is.0)
    place_fits type (literal number puts) is = puts_fit type puts is.1
    place_fits type (whole value) is = absurd is
    place_fits type null is = absurd is
    place_fits type (code number) is = absurd is
    place_fits type (load from) is = absurd is
    place_fits type (address of) is = absurd is
    place_fits type (convert value) is = absurd is
    place_fits type (unary op value) is = absurd is
    place_fits type (binary op left right) is = absurd is
    place_fits type (and left right) is = absurd is
    place_fits type (or left right) is = absurd is
    place_fits type (cond test first second) is = absurd is
    place_fits type (assign target value) is = absurd is
    place_fits type (assign_by op computes target value) is = absurd is
    place_fits type (step up post on) is = absurd is
    place_fits type (call callee args) is = absurd is
    place_fits type (call_by callee args) is = absurd is
    place_fits type (comma first second) is = absurd is

    args_fit : (args : CExprs) → AreTyped home args → ArgsFit args
    args_fit no_exprs is = tt
    args_fit (more_exprs first others) is = (typed_fits first is.0, args_fit others is.1)

    pub puts_fit : (holder : CTy) (puts : CPuts) → ArePuts home holder puts → PutsFit puts
    puts_fit holder no_puts is = tt
    puts_fit holder (more_puts one others) is = (put_fits holder one is.0, puts_fit holder others is.1)

    put_fits : (holder : CTy) (one : CPut) → IsTypedPut home holder one → PutFits one
    put_fits holder (put spot type value) is = (part_fits home.program.types holder spot type are is.1.part, typed_fits value is.0)

  test_fits : (test : Option CExpr) → IfSome test (IsCondition home) → OptionFits test
  test_fits None is = tt
  test_fits (Some e) is = typed_fits e is.0

  effect_fits : (e : Option CExpr) → IfSome e (IsVoidExpr home) → OptionFits e
  effect_fits None is = tt
  effect_fits (Some e) is = typed_fits e is.0

  result_fits : (result : CTy) (e : Option CExpr) → IsReturn home result e → OptionFits e
  result_fits result None is = tt
  result_fits result (Some e) is = typed_fits e is.0

  contents_fit : (puts : Option CPuts) (found : Option CObject) → IsSome found → IfSome found (IsDeclared home puts) → ContentsFit puts
  contents_fit None found some is = tt
  contents_fit (Some puts) None some is = absurd cc
  contents_fit (Some puts) (Some one) some is = puts_fit one.type puts is.stored.0

-- ---- statements

mutual
  pub stmt_fits : (s : CStmt) (body : CBody) (declares : List ℕ) → AreTypes body.home.program.types → IsTypedStmt body declares s → StmtFits s
  stmt_fits (stmt place objects form) body declares are is = stmt_form_fits form (with_objects objects body) declares objects are is.1

  stmt_form_fits : (form : CStmtForm) (body : CBody) (declares objects : List ℕ) → AreTypes body.home.program.types → IsTypedStmtForm body declares objects form → StmtFormFits form
  stmt_form_fits (label name inner) body declares objects are is = stmt_fits inner body [] are is
  stmt_form_fits (case value inner) body declares objects are is = stmt_fits inner body [] are is.1
  stmt_form_fits (default inner) body declares objects are is = stmt_fits inner body [] are is.1
  stmt_form_fits (block ss) body declares objects are is = stmts_fit ss body objects are is
  stmt_form_fits (expression None) body declares objects are is = tt
  stmt_form_fits (expression (Some value)) body declares objects are is = typed_fits body.home are value is.0
  stmt_form_fits (if_then test inner otherwise) body declares objects are is = (typed_fits body.home are test is.0.0, (stmt_fits inner body [] are is.1, else_fits otherwise body are is.2))
  stmt_form_fits (switch value inner) body declares objects are is = (typed_fits body.home are value is.0, stmt_fits inner (within_switch (type_of value) body) [] are is.2)
  stmt_form_fits (while test inner) body declares objects are is = (typed_fits body.home are test is.0.0, stmt_fits inner (within_loop body) [] are is.1)
  stmt_form_fits (do_while inner test) body declares objects are is = (stmt_fits inner (within_loop body) [] are is.0, typed_fits body.home are test is.1.0)
  stmt_form_fits (for_loop first test next inner) body declares objects are is =
      (stmts_fit first body objects are is.1, (test_fits body.home are test is.2, (effect_fits body.home are next is.3, stmt_fits inner (within_loop body) [] are is.4)))
  stmt_form_fits (goto name) body declares objects are is = tt
  stmt_form_fits continue body declares objects are is = tt
  stmt_form_fits break body declares objects are is = tt
  stmt_form_fits (returns value) body declares objects are is = result_fits body.home are body.result value is
  stmt_form_fits (begin number puts) body declares objects are is = contents_fit body.home are puts (object_with number body.home.program.objects) is.1 is.2

  else_fits : (otherwise : COtherwise) (body : CBody) → AreTypes body.home.program.types → IsTypedElse body otherwise → OtherwiseFits otherwise
  else_fits no_else body are is = tt
  else_fits (else_do inner) body are is = stmt_fits inner body [] are is

  stmts_fit : (ss : CStmts) (body : CBody) (declares : List ℕ) → AreTypes body.home.program.types → AreTypedStmts body declares ss → StmtsFit ss
  stmts_fit no_stmts body declares are is = tt
  stmts_fit (more_stmts first others) body declares are is = (stmt_fits first body declares are is.0, stmts_fit others body declares are is.1)
