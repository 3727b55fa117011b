-- What the body of a straight program's function is: it ends with a `return`, calls what it calls, and takes its
-- temporaries.
use Rattle.std.proofs.Common.{◌≡◌, ℕ, ◌≤◌, Bool, true, ◌==◌, List, [], ◌∷◌, ◌++◌, length, Option, Some, None, sym, subst, arith}
use Rattle.straight_core.specs.Trees.{CExpr, expr, CForm, whole, object, load, convert, unary, binary, assign, call, CExprs, no_exprs, more_exprs, CStmt, stmt, block, expression, returns, CStmts, no_stmts, more_stmts, CProgram}
use Rattle.straight_core.specs.Views.{stmts_of}
use Rattle.straight_lift.specs.Agrees.{FormCallsOnly, ArgsCallOnly, ReturnCallsOnly, StmtCallsOnly, StmtsCallOnly, EndsWithReturn, ListEndsWithReturn}
use Rattle.straight_lift.specs.Lifted.{lift_stmt}
use Rattle.straight_whole.specs.Calls.{calls_in_form, calls_in_args, calls_in_option, calls_in_stmt, calls_in_stmts}
use Rattle.straight_whole.specs.CrateOf.{names_of}
use Rattle.straight_whole.specs.Named.{AreFresh}
use Rattle.straight_whole.specs.Straight.{GivesValue, IsStraightBody, IsStraight}
use Rattle.straight_whole.proofs.TypedCount.{same_count}
use Rattle.straight_whole.proofs.TypedLift.{or_left, or_right, same_number}

-- ---- it calls only what it calls

module _ (declared : ℕ → Bool) where
  -- what calls a function calls only functions that are declared
  abbrev Declares : (ℕ → Bool) → Type 0
  Declares calls = (number : ℕ) → calls number ≡ true → declared number ≡ true

  mutual
    form_calls : (form : CForm) → Declares (λ n. calls_in_form n form) → FormCallsOnly declared form
    form_calls (whole value) all = tt
    form_calls (object number) all = tt
    form_calls (load (expr t p form)) all = form_calls form all
    form_calls (convert (expr t p form)) all = form_calls form all
    form_calls (unary op (expr t p form)) all = form_calls form all
    form_calls (binary op (expr t p left) (expr s q right)) all =
        (form_calls left (λ n e. all n (or_left (calls_in_form n left) (calls_in_form n right) e)), form_calls right (λ n e. all n (or_right (calls_in_form n left) (calls_in_form n right) e)))
    form_calls (assign (expr t p left) (expr s q right)) all =
        (form_calls left (λ n e. all n (or_left (calls_in_form n left) (calls_in_form n right) e)), form_calls right (λ n e. all n (or_right (calls_in_form n left) (calls_in_form n right) e)))
    form_calls (call callee args) all =
        (all callee (or_left (callee == callee) (calls_in_args callee args) (same_number callee)), args_call args (λ n e. all n (or_right (callee == n) (calls_in_args n args) e)))

    args_call : (args : CExprs) → Declares (λ n. calls_in_args n args) → ArgsCallOnly declared args
    args_call no_exprs all = tt
    args_call (more_exprs (expr t p form) others) all =
        (form_calls form (λ n e. all n (or_left (calls_in_form n form) (calls_in_args n others) e)), args_call others (λ n e. all n (or_right (calls_in_form n form) (calls_in_args n others) e)))

  return_calls : (value : Option CExpr) → Declares (λ n. calls_in_option n value) → ReturnCallsOnly declared value
  return_calls None all = tt
  return_calls (Some (expr t p form)) all = form_calls form all

  mutual
    pub stmt_calls : (body : CStmt) → Declares (λ n. calls_in_stmt n body) → StmtCallsOnly declared body
    stmt_calls (stmt place objects (block list)) all = stmts_call list all
    stmt_calls (stmt place objects (expression (expr t p form))) all = form_calls form all
    stmt_calls (stmt place objects (returns value)) all = return_calls value all

    stmts_call : (list : CStmts) → Declares (λ n. calls_in_stmts n list) → StmtsCallOnly declared list
    stmts_call no_stmts all = tt
    stmts_call (more_stmts first others) all =
        (stmt_calls first (λ n e. all n (or_left (calls_in_stmt n first) (calls_in_stmts n others) e)), stmts_call others (λ n e. all n (or_right (calls_in_stmt n first) (calls_in_stmts n others) e)))

pub calls_declared : (body : CStmt) → StmtCallsOnly (λ n. calls_in_stmt n body) body
calls_declared body = stmt_calls (λ n. calls_in_stmt n body) body (λ n e. e)

-- ---- it ends with a `return`

last_returns : (last : CStmt) → GivesValue last → EndsWithReturn last
last_returns (stmt place objects (returns (Some value))) gives = tt
last_returns (stmt place objects (returns None)) gives = absurd gives
last_returns (stmt place objects (expression value)) gives = absurd gives
last_returns (stmt place objects (block list)) gives = absurd gives

list_returns : (firsts : List CStmt) (last : CStmt) → GivesValue last → ListEndsWithReturn (stmts_of (firsts ++ last ∷ []))
list_returns [] last gives = last_returns last gives
list_returns (first ∷ []) last gives = last_returns last gives
list_returns (first ∷ second ∷ more) last gives = list_returns (second ∷ more) last gives

pub body_returns : (body : CStmt) → IsStraightBody body → EndsWithReturn body
body_returns body straight = subst EndsWithReturn (sym straight.is) (list_returns straight.firsts straight.last straight.gives)

-- ---- its temporaries

pub enough : (program : CProgram) (straight : IsStraight program) (home : List ℕ) (temporaries : List (List ℕ)) → AreFresh program straight.main.body temporaries →
    (lift_stmt (names_of program home temporaries) straight.main.body 0).next ≤ length temporaries
enough program straight home temporaries fresh =
    let count = same_count (names_of program home temporaries) (record { home = []; objects = λ n. []; functions = λ n. []; temporaries = λ n. [] }) straight.main.body in
    omega (arith, count, fresh.many)
