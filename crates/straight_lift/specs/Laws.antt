-- Laws of lifting: what the written statements owe the program. Each is the contract of a function with an empty
-- body, in src/laws.rt.
use Rattle.std.specs.Prelude.{◌≡◌, ℕ, Bool, ◌≤◌}
use Rattle.cr_runs.specs.Owes.{Owes, Rests}
use Rattle.straight_core.specs.Linked.{IsLinked}
use Rattle.straight_core.specs.Trees.{CTy, CExpr, type_of, CStmt, CStmts, CProgram}
use Rattle.straight_core.specs.Typing.{IsScalarType, IsTyped, IsTypedStmt, AreTypedStmts}
use Rattle.straight_mean.specs.Leftmost.{c_value, c_stmt, c_stmts}
use Rattle.straight_mean.specs.Operands.{Frame as CFrame, CWorld}
use Rattle.straight_lift.specs.Agrees.{WorldsAgree, HasTemporaries, FramesAgree, IsLifted, StmtsMeet, CallsOnly, StmtCallsOnly, StmtsCallOnly, EndsWithReturn, GivesBack}
use Rattle.straight_lift.specs.Lifted.{Names, lift_of, lift_stmt, lift_stmts}
use Rattle.straight_lift.specs.StandsFor.{Images}
use Rattle.straight_rust_mean.specs.Run.{Frame, Bodies, run_stmts}
use Rattle.straight_rust_mean.specs.World.{World}
use Rattle.straight_rust_tree.specs.Tree.{Stmts, stmts}

-- the statements that are written for a typed expression do what it does; behind them what is written for its value
-- stands for it, there and later, and what its marks don't say that it wrote is what it was
abbrev pub ExpressionIsLifted : Type 0
ExpressionIsLifted =
    (program : CProgram) (names : Names) (images : Images) (c_frame : CFrame) (frame : Frame) (limit : ℕ) (declared : ℕ → Bool)
    (e : CExpr) (from : ℕ) (c_world : CWorld) (world : World) (n m : ℕ) →
    IsLinked program → FramesAgree program names images c_frame frame limit declared → WorldsAgree images c_world world →
    HasTemporaries frame limit world → IsTyped program e → CallsOnly declared e → (lift_of names e from).next ≤ limit →
    Owes (λ before. before.events) (λ after. after.events)
    (IsLifted images frame limit from (lift_of names e from).next (lift_of names e from).value (type_of e) c_world world) n m
    (c_value program c_frame e c_world) (run_stmts frame (stmts (lift_of names e from).stmts) world)

-- those that are written for typed statements of a function with a result type do what they do
abbrev pub StatementsAreLifted : Type 0
StatementsAreLifted =
    (program : CProgram) (names : Names) (images : Images) (c_frame : CFrame) (frame : Frame) (limit : ℕ) (declared : ℕ → Bool)
    (result : CTy) (list : CStmts) (from : ℕ) (c_world : CWorld) (world : World) (n m : ℕ) →
    IsLinked program → FramesAgree program names images c_frame frame limit declared → WorldsAgree images c_world world →
    HasTemporaries frame limit world → AreTypedStmts program result list → StmtsCallOnly declared list → (lift_stmts names list from).next ≤ limit →
    Owes (λ before. before.events) (λ after. after.events) (StmtsMeet images frame limit from world) n m
    (c_stmts program c_frame list c_world) (run_stmts frame (stmts (lift_stmts names list from).stmts) world)

-- without a unit statements of a crate show nothing
abbrev pub StatementsAreSilent : Type 0
StatementsAreSilent =
    (frame : Frame) (list : Stmts) (world : World) → Rests (λ after. after.events) world.events (run_stmts frame list world 0)

-- the statements that are written for one typed statement do what it does
abbrev pub StatementIsLifted : Type 0
StatementIsLifted =
    (program : CProgram) (names : Names) (images : Images) (c_frame : CFrame) (frame : Frame) (limit : ℕ) (declared : ℕ → Bool)
    (result : CTy) (body : CStmt) (from : ℕ) (c_world : CWorld) (world : World) (n m : ℕ) →
    IsLinked program → FramesAgree program names images c_frame frame limit declared → WorldsAgree images c_world world →
    HasTemporaries frame limit world → IsTypedStmt program result body → StmtCallsOnly declared body → (lift_stmt names body from).next ≤ limit →
    Owes (λ before. before.events) (λ after. after.events) (StmtsMeet images frame limit from world) n m
    (c_stmt program c_frame body c_world) (run_stmts frame (stmts (lift_stmt names body from).stmts) world)

-- a typed body of a function with a scalar result that ends with a `return` comes to an end only by giving back a
-- value
abbrev pub BodiesGive : Type 0
BodiesGive =
    (program : CProgram) (c_frame : CFrame) (result : CTy) (body : CStmt) (c_world : CWorld) (steps : ℕ) →
    IsScalarType result → IsTypedStmt program result body → EndsWithReturn body →
    GivesBack (c_stmt program c_frame body c_world steps)

-- the statements that are written for a typed one call no function of the crate, so it doesn't matter how the bodies
-- of those run
abbrev pub BodiesDontMatter : Type 0
BodiesDontMatter =
    (program : CProgram) (names : Names) (images : Images) (c_frame : CFrame) (frame : Frame) (limit : ℕ) (declared : ℕ → Bool)
    (result : CTy) (body : CStmt) (from : ℕ) (bodies : Bodies) (world : World) (units : ℕ) →
    FramesAgree program names images c_frame frame limit declared → IsTypedStmt program result body → StmtCallsOnly declared body →
    run_stmts (record frame { bodies = bodies }) (stmts (lift_stmt names body from).stmts) world units
    ≡ run_stmts frame (stmts (lift_stmt names body from).stmts) world units

-- the numbers of temporaries that a statement takes don't depend on any name
abbrev pub NumbersStay : Type 0
NumbersStay =
    (names other : Names) (body : CStmt) (from : ℕ) → (lift_stmt names body from).next ≡ (lift_stmt other body from).next
