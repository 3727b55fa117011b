-- Bodies that end with a return give back a value.
use Rattle.std.proofs.Common.{ℕ, zero, suc, Some, None, rules}
use Rattle.cr_runs.specs.Runs.{came, halted, bad, out, bind, tick}
use Rattle.straight_core.specs.Trees.{CTy, ty, void, int, function, CStmt, stmt, CStmtForm, block, expression, returns, CStmts, no_stmts, more_stmts, CProgram}
use Rattle.straight_core.specs.Typing.{IsScalarType, IsVoid, IsTypedStmt, IsTypedStmtForm, AreTypedStmts}
use Rattle.straight_mean.specs.Leftmost.{CRan, c_value, CFlow, goes_on, goes_out, gave, c_then, c_stmt, c_stmt_form, c_stmts}
use Rattle.straight_mean.specs.Operands.{Frame, CWorld}
use Rattle.straight_lift.specs.Agrees.{EndsWithReturn, FormEndsWithReturn, ListEndsWithReturn, IsGave, GivesBack}

-- where a piece comes to an end, its result has a property
abbrev Every : {A : Type 0} → (A → Type 0) → CRan A → Type 0
Every P (came value world left) = P value
Every P (halted status world) = Unit {0}
Every P (bad fault world) = Unit {0}
Every P (out world) = Unit {0}

every_bind : {A B : Type 0} (P : A → Type 0) (Q : B → Type 0) (piece : CRan A) (go : A → CWorld → ℕ → CRan B) → Every P piece →
    ((value : A) (world : CWorld) (left : ℕ) → P value → Every Q (go value world left)) → Every Q (bind piece go)
every_bind P Q (came value world left) go one all = all value world left one
every_bind P Q (halted status world) go one all = tt
every_bind P Q (bad fault world) go one all = tt
every_bind P Q (out world) go one all = tt

every_tick : {A : Type 0} (P : A → Type 0) (world : CWorld) (go : ℕ → CRan A) → ((left : ℕ) → Every P (go left)) → (steps : ℕ) → Every P (tick world go steps)
every_tick P world go all zero = tt
every_tick P world go all (suc left) = all left

any_value : {A : Type 0} (piece : CRan A) → Every (λ value. Unit {0}) piece
any_value (came value world left) = tt
any_value (halted status world) = tt
any_value (bad fault world) = tt
any_value (out world) = tt

-- no function with a result goes out without one
abbrev IsNotOut : CFlow → Type 0
IsNotOut goes_on = Unit {0}
IsNotOut goes_out = ⊥
IsNotOut (gave operand) = Unit {0}

no_void : (result : CTy) → IsScalarType result → IsVoid result → ⊥
no_void (ty int is_const) scalar is = cc
no_void (ty void is_const) scalar is = search rules
no_void (ty (function result params variadic) is_const) scalar is = cc

module _ (program : CProgram) (c_frame : Frame) (result : CTy) (scalar : IsScalarType result) where
  then_not_out : (others : CWorld → ℕ → CRan CFlow) → ((world : CWorld) (steps : ℕ) → Every IsNotOut (others world steps)) → (flow : CFlow) (world : CWorld) (steps : ℕ) →
      IsNotOut flow → Every IsNotOut (c_then flow others world steps)
  then_not_out others all goes_on world steps is = all world steps
  then_not_out others all goes_out world steps is = absurd is
  then_not_out others all (gave operand) world steps is = tt

  mutual
    form_not_out : (form : CStmtForm) (world : CWorld) (steps : ℕ) → IsTypedStmtForm program result form → Every IsNotOut (c_stmt_form program c_frame form world steps)
    form_not_out (block list) world steps is = list_not_out list world steps is
    form_not_out (expression value) world steps is =
        every_bind (λ one. Unit {0}) IsNotOut (c_value program c_frame value world steps) _ (any_value (c_value program c_frame value world steps)) (λ one after left any. tt)
    form_not_out (returns None) world steps is = absurd (no_void result scalar is)
    form_not_out (returns (Some value)) world steps is =
        every_bind (λ one. Unit {0}) IsNotOut (c_value program c_frame value world steps) _ (any_value (c_value program c_frame value world steps))
        (λ one after left any. every_tick IsNotOut after (came (gave one) after) (λ rest. tt) left)

    list_not_out : (list : CStmts) (world : CWorld) (steps : ℕ) → AreTypedStmts program result list → Every IsNotOut (c_stmts program c_frame list world steps)
    list_not_out no_stmts world steps is = tt
    list_not_out (more_stmts (stmt place objects form) others) world steps is =
        every_bind IsNotOut IsNotOut (c_stmt program c_frame (stmt place objects form) world steps) _
        (every_tick IsNotOut world (λ left. c_stmt_form program c_frame form world left) (λ left. form_not_out form world left is.0.1) steps)
        (λ flow after left one. then_not_out (λ later rest. c_stmts program c_frame others later rest) (λ later rest. list_not_out others later rest is.1) flow after left one)

  then_gives : (others : CWorld → ℕ → CRan CFlow) → ((world : CWorld) (steps : ℕ) → Every IsGave (others world steps)) → (flow : CFlow) (world : CWorld) (steps : ℕ) →
      IsNotOut flow → Every IsGave (c_then flow others world steps)
  then_gives others all goes_on world steps is = all world steps
  then_gives others all goes_out world steps is = absurd is
  then_gives others all (gave operand) world steps is = tt

  then_gave : (others : CWorld → ℕ → CRan CFlow) (flow : CFlow) (world : CWorld) (steps : ℕ) → IsGave flow → Every IsGave (c_then flow others world steps)
  then_gave others goes_on world steps is = absurd is
  then_gave others goes_out world steps is = absurd is
  then_gave others (gave operand) world steps is = tt

  mutual
    form_gives : (form : CStmtForm) (world : CWorld) (steps : ℕ) → IsTypedStmtForm program result form → FormEndsWithReturn form → Every IsGave (c_stmt_form program c_frame form world steps)
    form_gives (block list) world steps is ends = list_gives list world steps is ends
    form_gives (expression value) world steps is ends = absurd ends
    form_gives (returns None) world steps is ends = absurd ends
    form_gives (returns (Some value)) world steps is ends =
        every_bind (λ one. Unit {0}) IsGave (c_value program c_frame value world steps) _ (any_value (c_value program c_frame value world steps))
        (λ one after left any. every_tick IsGave after (came (gave one) after) (λ rest. tt) left)

    list_gives : (list : CStmts) (world : CWorld) (steps : ℕ) → AreTypedStmts program result list → ListEndsWithReturn list → Every IsGave (c_stmts program c_frame list world steps)
    list_gives no_stmts world steps is ends = absurd ends
    list_gives (more_stmts (stmt place objects form) no_stmts) world steps is ends =
        every_bind IsGave IsGave (c_stmt program c_frame (stmt place objects form) world steps) _
        (every_tick IsGave world (λ left. c_stmt_form program c_frame form world left) (λ left. form_gives form world left is.0.1 ends) steps)
        (λ flow after left one. then_gave (λ later rest. c_stmts program c_frame no_stmts later rest) flow after left one)
    list_gives (more_stmts (stmt place objects form) (more_stmts second others)) world steps is ends =
        every_bind IsNotOut IsGave (c_stmt program c_frame (stmt place objects form) world steps) _
        (every_tick IsNotOut world (λ left. c_stmt_form program c_frame form world left) (λ left. form_not_out form world left is.0.1) steps)
        (λ flow after left one. then_gives (λ later rest. c_stmts program c_frame (more_stmts second others) later rest) (λ later rest. list_gives (more_stmts second others) later rest is.1 ends) flow after left one)

gives_back : (piece : CRan CFlow) → Every IsGave piece → GivesBack piece
gives_back (came flow world left) is = is
gives_back (halted status world) is = tt
gives_back (bad fault world) is = tt
gives_back (out world) is = tt

pub body_gives : (program : CProgram) (c_frame : Frame) (result : CTy) (body : CStmt) (c_world : CWorld) (steps : ℕ) →
    IsScalarType result → IsTypedStmt program result body → EndsWithReturn body → GivesBack (c_stmt program c_frame body c_world steps)
body_gives program c_frame result (stmt place objects form) c_world steps scalar is ends =
    gives_back (c_stmt program c_frame (stmt place objects form) c_world steps)
    (every_tick IsGave c_world (λ left. c_stmt_form program c_frame form c_world left) (λ left. form_gives program c_frame result scalar form c_world left is.1 ends) steps)
