-- All parts of a body.
use Rattle.std.proofs.Common.{◌≡◌, inl, inr, ℕ, List, [], ◌∷◌, ◌++◌, map, Option, Some, None}
use Rattle.cx_core.specs.Trees.{CExpr, CPut, put, CPuts, no_puts, more_puts, CStmt, stmt, CStmtForm, label, case, default, block, expression, if_then, switch, while, do_while, for_loop, goto, continue, break, returns, begin, COtherwise, no_else, else_do, CStmts, no_stmts, more_stmts}
use Rattle.cx_mean.specs.Moves.{static_puts_of}
use Rattle.cx_mean.specs.Operands.{Slot}
use Rattle.build_flow_lives.specs.Standing.{Calling, stage_of}
use Rattle.build_flow_moves.specs.Parts.{Stage, BeginsDone, EffectsDone, TestsDone, ReturnDone, ClearDone, PutDone, PutsDone, StmtDone, FormDone, ElseDone, StmtsDone}
use Rattle.lift_stands.specs.Worlds.{WorldsStand}
use Rattle.build_flow_parts.specs.Bodies.{ObjectsMean, EffectsMean, TestsMean, ReturnMeans, ClearMeans, PutMeans, PutsMean, StmtMeans, FormMeans, ElseMeans, StmtsMean}
use Rattle.build_flow_parts.specs.Means.{PartsMean}
use Rattle.build_flow_parts.proofs.Clears.{nothing_cleared, zero_cleared}
use Rattle.build_flow_parts.proofs.Conditions.{test_done, choice_done}
use Rattle.build_flow_parts.proofs.Lives.{begin_done}
use Rattle.build_flow_parts.proofs.Puts.{value_put_done}
use Rattle.build_flow_parts.proofs.RecordReturns.{record_return_done}
use Rattle.build_flow_parts.proofs.Returns.{nothing_done, return_done}
use Rattle.build_flow_parts.proofs.Values.{effect_done}

module _ (a : Calling) (units steps : ℕ) (mean : PartsMean a.s a.names a.of units steps) (started : WorldsStand a.images a.c_before a.before)
    (params_are : map (λ (slot : Slot). slot.object) a.params ≡ a.one.params) where
  abbrev stage : Stage
  stage = stage_of a units steps

  begins_done : (inner objects scope : List ℕ) → ObjectsMean a units steps inner objects scope → BeginsDone stage inner objects scope
  begins_done inner [] scope all = tt
  begins_done inner (number ∷ objects) scope all =
      (begin_done a units steps mean started params_are number inner scope all.0 all.1 all.2, begins_done (inner ++ number ∷ []) objects scope all.3)

  effects_done : (scope : List ℕ) (value : Option CExpr) (number : ℕ) → EffectsMean a units steps scope value number → EffectsDone stage scope value number
  effects_done scope None number is = tt
  effects_done scope (Some e) number is = effect_done a units steps mean started params_are scope e number is

  tests_done : (scope : List ℕ) (value : Option CExpr) (number : ℕ) → TestsMean a units steps scope value number → TestsDone stage scope value number
  tests_done scope None number is = tt
  tests_done scope (Some e) number is = test_done a units steps mean started params_are scope e number is.value is.some

  returns_done : (scope : List ℕ) (e : CExpr) (number : ℕ) → ReturnMeans a units steps scope e number → ReturnDone stage scope e number
  returns_done scope e number (inl is) =
      return_done a units steps mean started params_are e number scope is.plain is.result_is is.no_place is.some is.value
  returns_done scope e number (inr is) = record_return_done a units steps mean started params_are e number scope is

  clear_done : (scope : List ℕ) (object : ℕ) (puts : Option CPuts) → ClearMeans a units steps scope object puts → ClearDone stage scope object puts
  clear_done scope object puts (inl is) = nothing_cleared a units steps mean started params_are scope object puts is.declared is
  clear_done scope object puts (inr is) = zero_cleared a units steps mean started params_are scope object puts is.declared is

  put_done : (scope : List ℕ) (object : ℕ) (one : CPut) (number : ℕ) → PutMeans a units steps scope object one number → PutDone stage scope object one number
  put_done scope object (put spot type value) number is = value_put_done a units steps mean started params_are scope object spot type value number is

  puts_done : (scope : List ℕ) (object : ℕ) (puts : CPuts) (number : ℕ) → PutsMean a units steps scope object puts number → PutsDone stage scope object puts number
  puts_done scope object no_puts number all = tt
  puts_done scope object (more_puts one others) number all = (put_done scope object one number all.0, puts_done scope object others _ all.1)

  mutual
    pub stmt_done : (s : CStmt) (scope : List ℕ) (number : ℕ) → StmtMeans a units steps scope number s → StmtDone stage scope number s
    stmt_done (stmt place objects form) scope number is = (begins_done [] objects scope is.0, form_done form (objects ++ scope) number is.1)

    form_done : (form : CStmtForm) (scope : List ℕ) (number : ℕ) → FormMeans a units steps scope number form → FormDone stage scope number form
    form_done (label name body) scope number is = stmt_done body scope number is
    form_done (case value body) scope number is = stmt_done body scope number is
    form_done (default body) scope number is = stmt_done body scope number is
    form_done (block ss) scope number is = stmts_done ss scope number is
    form_done (expression value) scope number is = effects_done scope value number is
    form_done (if_then test body otherwise) scope number is =
        (test_done a units steps mean started params_are scope test number is.0.value is.0.some, stmt_done body scope _ is.1, else_done otherwise scope _ is.2)
    form_done (switch value body) scope number is = (choice_done a units steps mean started params_are scope value number is.0.value is.0.some, stmt_done body scope _ is.1)
    form_done (while test body) scope number is = (test_done a units steps mean started params_are scope test number is.0.value is.0.some, stmt_done body scope _ is.1)
    form_done (do_while body test) scope number is = (stmt_done body scope number is.0, test_done a units steps mean started params_are scope test _ is.1.value is.1.some)
    form_done (for_loop first test next body) scope number is = (stmts_done first scope number is.0, tests_done scope test _ is.1, effects_done scope next _ is.2, stmt_done body scope _ is.3)
    form_done (goto name) scope number is = tt
    form_done continue scope number is = tt
    form_done break scope number is = tt
    form_done (returns None) scope number is = nothing_done a units steps started scope is
    form_done (returns (Some value)) scope number is = returns_done scope value number is
    form_done (begin object puts) scope number is = (clear_done scope object puts is.0, puts_done scope object (static_puts_of puts) number is.1)

    else_done : (otherwise : COtherwise) (scope : List ℕ) (number : ℕ) → ElseMeans a units steps scope number otherwise → ElseDone stage scope number otherwise
    else_done no_else scope number is = tt
    else_done (else_do body) scope number is = stmt_done body scope number is

    stmts_done : (ss : CStmts) (scope : List ℕ) (number : ℕ) → StmtsMean a units steps scope number ss → StmtsDone stage scope number ss
    stmts_done no_stmts scope number is = tt
    stmts_done (more_stmts first others) scope number is = (stmt_done first scope number is.0, stmts_done others scope _ is.1)
