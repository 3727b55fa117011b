-- The statements that are written for a typed one call no function of the crate, so they run the same whatever the
-- bodies of those do.
use Rattle.std.proofs.Common.{◌≡◌, ℕ, Bool, true, List, [], ◌∷◌, ◌++◌, Option, Some, None, refl, ap, ◌∙◌, rules}
use Rattle.std.specs.Prelude.{IsSome}
use Rattle.cr_runs.specs.Runs.{Ran, came, halted, bad, out, bind}
use Rattle.straight_core.specs.declared.expr.Op1.TheVariants.{Minus}
use Rattle.straight_core.specs.Trees.{CTy, ty, CTyForm, void, int, function, form_of_type, expr, CForm, whole, object, load, convert, unary, binary, assign as stores, call as calls, CExprs, no_exprs, more_exprs, CStmt, stmt, CStmtForm, block, expression, returns, CStmts, no_stmts as no_more, more_stmts, COuter, CProgram}
use Rattle.straight_core.specs.Typing.{IsTypedForm, AreTyped, IsTypedStmt, IsTypedStmtForm, AreTypedStmts, outer_with}
use Rattle.straight_mean.specs.Operands.{Frame as CFrame}
use Rattle.straight_lift.specs.Agrees.{FramesAgree, FormCallsOnly, ArgsCallOnly, StmtCallsOnly, StmtFormCallsOnly, StmtsCallOnly}
use Rattle.straight_lift.specs.declared.atom.Atom.TheVariants.{Fixed, Temporary}
use Rattle.straight_lift.specs.declared.atom.Atom.{Atom}
use Rattle.straight_lift.specs.Lifted.{Names, Lifted, LiftedArgs, operand_expr, operand_exprs, held, held_atom, lifted_call, lift_form, lift_args, lift_stmt, lift_stmt_form, lift_stmts}
use Rattle.straight_lift.specs.StandsFor.{Images}
use Rattle.straight_rust_mean.specs.declared.cause.Cause.{Cause}
use Rattle.straight_rust_mean.specs.Functions.{Typed}
use Rattle.straight_rust_mean.specs.Items.{Callee, outer, own, callee_at, Spot}
use Rattle.straight_rust_mean.specs.Run.{Frame, Bodies, spot_of, load as loads, store, run_neg, run_operator, call_found, call_at, the_value, run_expr, run_exprs, run_dropped, run_stmt, run_stmts, then_on, Flow, normal, returned}
use Rattle.straight_rust_mean.specs.World.{World, Run, pure, seq}
use Rattle.straight_rust_tree.specs.Tree.{Place, named, static_at, Expr, Exprs, literal, read, call, neg, binary as operates, no_exprs as no_args, expr_and, exprs, Stmt, assign, eval, gives, stmts, CrateTree}

-- ---- statements that call no function of their crate

abbrev IsNoOwn : Option Callee → Type 0
IsNoOwn None = Unit {0}
IsNoOwn (Some (outer fun)) = Unit {0}
IsNoOwn (Some (own fun)) = ⊥

abbrev mutual
  NoOwn : CrateTree → Expr → Type 0
  NoOwn crate_tree (literal value kind) = Unit {0}
  NoOwn crate_tree (read place) = Unit {0}
  NoOwn crate_tree (call m x args) = IsNoOwn (callee_at crate_tree m x) × NoOwns crate_tree args
  NoOwn crate_tree (neg operand) = NoOwn crate_tree operand
  NoOwn crate_tree (operates operator l r) = NoOwn crate_tree l × NoOwn crate_tree r

  NoOwns : CrateTree → Exprs → Type 0
  NoOwns crate_tree no_args = Unit {0}
  NoOwns crate_tree (expr_and e es) = NoOwn crate_tree e × NoOwns crate_tree es

abbrev NoOwnStmt : CrateTree → Stmt → Type 0
NoOwnStmt crate_tree (assign place value) = NoOwn crate_tree value
NoOwnStmt crate_tree (eval value) = NoOwn crate_tree value
NoOwnStmt crate_tree (gives None) = Unit {0}
NoOwnStmt crate_tree (gives (Some value)) = NoOwn crate_tree value

abbrev NoOwnList : CrateTree → List Stmt → Type 0
NoOwnList crate_tree [] = Unit {0}
NoOwnList crate_tree (one ∷ more) = NoOwnStmt crate_tree one × NoOwnList crate_tree more

no_own_append : (crate_tree : CrateTree) (first second : List Stmt) → NoOwnList crate_tree first → NoOwnList crate_tree second → NoOwnList crate_tree (first ++ second)
no_own_append crate_tree [] second one other = other
no_own_append crate_tree (statement ∷ more) second one other = (one.0, no_own_append crate_tree more second one.1 other)

bind_same : {A B : Type 0} (r : Ran Cause World A) (go on : A → Run B) → ((a : A) (s : World) (k : ℕ) → go a s k ≡ on a s k) → bind r go ≡ bind r on
bind_same (came value state left) go on same = same value state left
bind_same (halted status state) go on same = refl
bind_same (bad fault state) go on same = refl
bind_same (out state) go on same = refl

module _ (frame : Frame) (bodies : Bodies) where
  abbrev other : Frame
  other = record frame { bodies = bodies }

  same_spot : (place : Place) → spot_of other place ≡ spot_of frame place
  same_spot (named x) = refl
  same_spot (static_at m x) = refl

  same_call : (args : List Typed) (found : Option Callee) (world : World) (units : ℕ) → IsNoOwn found → call_found bodies args found world units ≡ call_found frame.bodies args found world units
  same_call args None world units is = refl
  same_call args (Some (outer fun)) world units is = refl
  same_call args (Some (own fun)) world units is = absurd is

  mutual
    same_expr : (e : Expr) (world : World) (units : ℕ) → NoOwn frame.whole e → run_expr other e world units ≡ run_expr frame e world units
    same_expr (literal value kind) world units is = refl
    same_expr (read place) world units is = ap (λ (spot : Option Spot). loads spot world units) (same_spot place)
    same_expr (call m x args) world units is =
        ap (λ (r : Ran Cause World (List Typed)). bind r (λ values. seq (call_at frame.whole bodies m x values) the_value)) (same_exprs args world units is.1)
        ∙ bind_same (run_exprs frame args world units) (λ values. seq (call_at frame.whole bodies m x values) the_value) (λ values. seq (call_at frame.whole frame.bodies m x values) the_value)
        (λ values after left. ap (λ (r : Ran Cause World (Option Typed)). bind r the_value) (same_call values (callee_at frame.whole m x) after left is.0))
    same_expr (neg operand) world units is = ap (λ (r : Ran Cause World Typed). bind r run_neg) (same_expr operand world units is)
    same_expr (operates operator l r) world units is =
        ap (λ (found : Ran Cause World Typed). bind found (λ one. seq (run_expr other r) (λ second. run_operator operator one second))) (same_expr l world units is.0)
        ∙ bind_same (run_expr frame l world units) (λ one. seq (run_expr other r) (λ second. run_operator operator one second)) (λ one. seq (run_expr frame r) (λ second. run_operator operator one second))
        (λ one after left. ap (λ (found : Ran Cause World Typed). bind found (λ second. run_operator operator one second)) (same_expr r after left is.1))

    same_exprs : (es : Exprs) (world : World) (units : ℕ) → NoOwns frame.whole es → run_exprs other es world units ≡ run_exprs frame es world units
    same_exprs no_args world units is = refl
    same_exprs (expr_and e es) world units is =
        ap (λ (found : Ran Cause World Typed). bind found (λ value. seq (run_exprs other es) (λ values. pure (value ∷ values)))) (same_expr e world units is.0)
        ∙ bind_same (run_expr frame e world units) (λ value. seq (run_exprs other es) (λ values. pure (value ∷ values))) (λ value. seq (run_exprs frame es) (λ values. pure (value ∷ values)))
        (λ value after left. ap (λ (found : Ran Cause World (List Typed)). bind found (λ values. pure (value ∷ values))) (same_exprs es after left is.1))

  same_dropped : (e : Expr) (world : World) (units : ℕ) → NoOwn frame.whole e → run_dropped other e world units ≡ run_dropped frame e world units
  same_dropped (call m x args) world units is =
      ap (λ (r : Ran Cause World (List Typed)). bind r (λ values. seq (call_at frame.whole bodies m x values) (λ _. pure normal))) (same_exprs args world units is.1)
      ∙ bind_same (run_exprs frame args world units) (λ values. seq (call_at frame.whole bodies m x values) (λ _. pure normal)) (λ values. seq (call_at frame.whole frame.bodies m x values) (λ _. pure normal))
      (λ values after left. ap (λ (r : Ran Cause World (Option Typed)). bind r (λ _. pure normal)) (same_call values (callee_at frame.whole m x) after left is.0))
  same_dropped (literal value kind) world units is = refl
  same_dropped (read place) world units is = ap (λ (r : Ran Cause World Typed). bind r (λ _. pure normal)) (same_expr (read place) world units is)
  same_dropped (neg operand) world units is = ap (λ (r : Ran Cause World Typed). bind r (λ _. pure normal)) (same_expr (neg operand) world units is)
  same_dropped (operates operator l r) world units is = ap (λ (found : Ran Cause World Typed). bind found (λ _. pure normal)) (same_expr (operates operator l r) world units is)

  same_stmt : (s : Stmt) (world : World) (units : ℕ) → NoOwnStmt frame.whole s → run_stmt other s world units ≡ run_stmt frame s world units
  same_stmt (assign place value) world units is =
      ap (λ (found : Ran Cause World Typed). bind found (λ stored. seq (store (spot_of other place) stored) (λ _. pure normal))) (same_expr value world units is)
      ∙ ap (λ (spot : Option Spot). bind (run_expr frame value world units) (λ stored. seq (store spot stored) (λ _. pure normal))) (same_spot place)
  same_stmt (eval value) world units is = same_dropped value world units is
  same_stmt (gives None) world units is = refl
  same_stmt (gives (Some value)) world units is = ap (λ (found : Ran Cause World Typed). bind found (λ given. pure (returned (Some given)))) (same_expr value world units is)

  same_then : (rest : List Stmt) → ((world : World) (units : ℕ) → run_stmts other (stmts rest) world units ≡ run_stmts frame (stmts rest) world units) →
      (flow : Flow) (world : World) (units : ℕ) → then_on (run_stmts other (stmts rest)) flow world units ≡ then_on (run_stmts frame (stmts rest)) flow world units
  same_then rest same normal world units = same world units
  same_then rest same (returned value) world units = refl

  pub same_list : (list : List Stmt) (world : World) (units : ℕ) → NoOwnList frame.whole list → run_stmts other (stmts list) world units ≡ run_stmts frame (stmts list) world units
  same_list [] world units is = refl
  same_list (one ∷ more) world units is =
      ap (λ (found : Ran Cause World Flow). bind found (then_on (run_stmts other (stmts more)))) (same_stmt one world units is.0)
      ∙ bind_same (run_stmt frame one world units) (then_on (run_stmts other (stmts more))) (then_on (run_stmts frame (stmts more)))
      (same_then more (λ after left. same_list more after left is.1))

-- ---- what is written calls none

module _ (program : CProgram) (names : Names) (images : Images) (c_frame : CFrame) (frame : Frame) (limit : ℕ) (declared : ℕ → Bool)
    (agree : FramesAgree program names images c_frame frame limit declared) where
  no_own_operand : (atom : Option Atom) → NoOwn frame.whole (operand_expr names atom)
  no_own_operand None = tt
  no_own_operand (Some (Fixed value)) = tt
  no_own_operand (Some (Temporary number)) = tt

  no_own_operands : (atoms : List (Option Atom)) → NoOwns frame.whole (exprs (operand_exprs names atoms))
  no_own_operands [] = tt
  no_own_operands (atom ∷ atoms) = (no_own_operand atom, no_own_operands atoms)

  no_own_callee : (callee : ℕ) (found : Option COuter) → outer_with callee program.externals ≡ found → IsSome found → declared callee ≡ true → IsNoOwn (callee_at frame.whole names.home (names.functions callee))
  no_own_callee callee None same some here = absurd (search rules)
  no_own_callee callee (Some one) same some here = let it = agree.functions callee one here same in rw it.found tt

  no_own_held : (one : Lifted) (atom : Option Atom) → NoOwnList frame.whole one.stmts → NoOwnList frame.whole (held_atom names one atom).stmts
  no_own_held one (Some (Fixed value)) is = no_own_append frame.whole one.stmts _ is (tt, tt)
  no_own_held one (Some (Temporary number)) is = is
  no_own_held one None is = is

  no_own_call : (form : CTyForm) (callee : ℕ) (args : LiftedArgs) → NoOwnList frame.whole args.stmts → IsNoOwn (callee_at frame.whole names.home (names.functions callee)) → NoOwnList frame.whole (lifted_call names form callee args).stmts
  no_own_call void callee args is none = no_own_append frame.whole args.stmts _ is ((none, no_own_operands args.values), tt)
  no_own_call int callee args is none = no_own_append frame.whole args.stmts _ is ((none, no_own_operands args.values), tt)
  no_own_call (function result params variadic) callee args is none = is

  mutual
    no_own_form : (type : CTy) (form : CForm) (from : ℕ) → IsTypedForm program type form → FormCallsOnly declared form → NoOwnList frame.whole (lift_form names type form from).stmts
    no_own_form type (whole value) from is only = tt
    no_own_form type (object number) from is only = tt
    no_own_form type (load of) from is only = (tt, tt)
    no_own_form (ty void is_const) (convert (expr t p form)) from is only = no_own_form t form from is.0 only
    no_own_form (ty int is_const) (convert (expr t p form)) from is only = no_own_form t form from is.0 only
    no_own_form (ty (function result params variadic) is_const) (convert (expr t p form)) from is only = no_own_form t form from is.0 only
    no_own_form type (unary Minus (expr t p form)) from is only =
        let one = lift_form names t form from in
        no_own_append frame.whole (held names one).stmts _ (no_own_held one one.value (no_own_form t form from is.0 only)) (no_own_operand (held names one).value, tt)
    no_own_form type (binary op (expr t p left) (expr u q right)) from is only =
        let one = lift_form names t left from in
        let second = lift_form names u right one.next in
        no_own_append frame.whole (one.stmts ++ second.stmts) _
        (no_own_append frame.whole one.stmts second.stmts (no_own_form t left from is.0 only.0) (no_own_form u right one.next is.1 only.1))
        ((no_own_operand one.value, no_own_operand second.value), tt)
    no_own_form type (stores target (expr u q value)) from is only =
        let one = lift_form names u value from in
        no_own_append frame.whole one.stmts _ (no_own_form u value from is.1 only.1) (no_own_operand one.value, tt)
    no_own_form type (calls callee args) from is only =
        no_own_call (form_of_type type) callee (lift_args names args from) (no_own_args args from is.0 only.1) (no_own_callee callee (outer_with callee program.externals) refl is.1.0 only.0)

    no_own_args : (args : CExprs) (from : ℕ) → AreTyped program args → ArgsCallOnly declared args → NoOwnList frame.whole (lift_args names args from).stmts
    no_own_args no_exprs from are only = tt
    no_own_args (more_exprs (expr t p form) others) from are only =
        let one = lift_form names t form from in
        no_own_append frame.whole one.stmts (lift_args names others one.next).stmts (no_own_form t form from are.0 only.0) (no_own_args others one.next are.1 only.1)

  mutual
    no_own_stmt : (result : CTy) (form : CStmtForm) (from : ℕ) → IsTypedStmtForm program result form → StmtFormCallsOnly declared form → NoOwnList frame.whole (lift_stmt_form names form from).stmts
    no_own_stmt result (block list) from is only = no_own_stmts result list from is only
    no_own_stmt result (expression (expr t p form)) from is only = no_own_form t form from is.0 only
    no_own_stmt result (returns None) from is only = (tt, tt)
    no_own_stmt result (returns (Some (expr t p form))) from is only =
        let one = lift_form names t form from in
        no_own_append frame.whole one.stmts _ (no_own_form t form from is.0 only) (no_own_operand one.value, tt)

    no_own_stmts : (result : CTy) (list : CStmts) (from : ℕ) → AreTypedStmts program result list → StmtsCallOnly declared list → NoOwnList frame.whole (lift_stmts names list from).stmts
    no_own_stmts result no_more from is only = tt
    no_own_stmts result (more_stmts (stmt place objects form) others) from is only =
        let one = lift_stmt_form names form from in
        no_own_append frame.whole one.stmts (lift_stmts names others one.next).stmts (no_own_stmt result form from is.0.1 only.0) (no_own_stmts result others one.next is.1 only.1)

  pub bodies_dont_matter : (result : CTy) (body : CStmt) (from : ℕ) (bodies : Bodies) (world : World) (units : ℕ) → IsTypedStmt program result body → StmtCallsOnly declared body →
      run_stmts (record frame { bodies = bodies }) (stmts (lift_stmt names body from).stmts) world units ≡ run_stmts frame (stmts (lift_stmt names body from).stmts) world units
  bodies_dont_matter result (stmt place objects form) from bodies world units is only =
      same_list frame bodies (lift_stmt_form names form from).stmts world units (no_own_stmt result form from is.1 only)
