-- What is told of numbers and truth values that were found at once, and what is done on the side of a test.
use Rattle.std.proofs.Common.{ℤ, ◌≡◌, subst, sym, Bool, true, false, List, map, Option, Some, None, IfSome, if◌then◌else◌}
use Rattle.mem_bytes.specs.declared.value.Value.TheVariants.{Whole}
use Rattle.mem_bytes.specs.Memory.{Blocks}
use Rattle.rs_forms.specs.declared.forms.Form.{Form}
use Rattle.rs_forms.specs.declared.forms.Pair.{Pair}
use Rattle.rs_forms.specs.Forms.{form_run, pair_run}
use Rattle.rs_forms.proofs.Formed.{by_form}
use Rattle.rs_mean.specs.Run.{Frame, Flow, run_expr, run_stmts, tests}
use Rattle.rs_mean.specs.Values.{Typed, truth, typed}
use Rattle.rs_mean.specs.World.{Run, either, pure, seq}
use Rattle.rs_machine.specs.Does.{End, gives, Does, Stays}
use Rattle.rs_machine.specs.States.{State, state}
use Rattle.rs_machine.specs.Steps.{LookDoes}
use Rattle.rs_machine.proofs.Pieces.{then_does}
use Rattle.rs_machine.proofs.Rules.{pure_does}
use Rattle.rs_text.specs.declared.integer.IntegerTy.{IntegerTy}
use Rattle.rs_text.specs.Tree.{Integer, ModuleTree, stmts}
use Rattle.rs_tree.specs.declared.expr.RExpr.{RExpr}
use Rattle.rs_tree.specs.declared.stmt.RStmt.{RStmt}
use Rattle.rs_tree.specs.Views.{expr_view, stmt_view}

-- the value of a number of a type
abbrev pub value_is : ℤ → IntegerTy → Typed
value_is number ty = typed (Integer ty) (Whole number)

-- a piece that gives a value gives the number that it is
pub number_held : (piece : Run Typed) (value : Typed) (number : ℤ) (found : Option IntegerTy) (blocks : Blocks) → IfSome found (λ (one : IntegerTy). value ≡ value_is number one) →
    LookDoes piece (gives value) blocks → IfSome found (λ (one : IntegerTy). LookDoes piece (gives (value_is number one)) blocks)
number_held piece value number None blocks is does = tt
number_held piece value number (Some one) blocks is does = subst (λ (given : Typed). LookDoes piece (gives given) blocks) is does

pub test_held : (piece : Run Typed) (value : Typed) (found : Option Bool) (blocks : Blocks) → IfSome found (λ (test : Bool). value ≡ truth test) →
    LookDoes piece (gives value) blocks → IfSome found (λ (test : Bool). LookDoes piece (gives (truth test)) blocks)
test_held piece value None blocks is does = tt
test_held piece value (Some test) blocks is does = subst (λ (given : Typed). LookDoes piece (gives given) blocks) is does

-- a place that is found at once, and then what it holds
pub place_held : {A : Type 0} (place : Run A) (at : A) (next : A → Run Typed) (number : ℤ) (found : Option IntegerTy) (blocks : Blocks) → Stays place (gives at) →
    IfSome found (λ (one : IntegerTy). LookDoes (next at) (gives (value_is number one)) blocks) → IfSome found (λ (one : IntegerTy). LookDoes (seq place next) (gives (value_is number one)) blocks)
place_held place at next number None blocks stays does = tt
place_held place at next number (Some one) blocks stays does = λ kept limit host. then_does _ (stays _) (does kept limit host)

-- a literal
pub literal_held : (piece : Run Typed) (number : ℤ) (found : Option IntegerTy) (blocks : Blocks) → IfSome found (λ (one : IntegerTy). piece ≡ pure (value_is number one)) →
    IfSome found (λ (one : IntegerTy). LookDoes piece (gives (value_is number one)) blocks)
literal_held piece number None blocks is = tt
literal_held piece number (Some one) blocks is = subst (λ (run : Run Typed). LookDoes run (gives (value_is number one)) blocks) (sym is)
    (λ kept limit host. pure_does (value_is number one) (state kept blocks limit host))

-- what is held of a form is held of the expression
pub number_formed : (frame : Frame) (which : RExpr) (form one : Form) (number : ℤ) (found : Option IntegerTy) (blocks : Blocks) →
    ((around : Frame) → form_run around form ≡ run_expr around (expr_view which)) → form ≡ one →
    IfSome found (λ (ty : IntegerTy). LookDoes (form_run frame one) (gives (value_is number ty)) blocks) →
    IfSome found (λ (ty : IntegerTy). LookDoes (run_expr frame (expr_view which)) (gives (value_is number ty)) blocks)
number_formed frame which form one number None blocks is form_is does = tt
number_formed frame which form one number (Some ty) blocks is form_is does = λ kept limit host. by_form frame which form one is form_is (does kept limit host)

-- what an operation gives of its operands, an expression with the form that has them gives
pub operands_formed : {A : Type 0} (piece : A → Run Typed) (frame : Frame) (which : RExpr) (form one : Form) (found : Option A) (blocks : Blocks) →
    ((around : Frame) → form_run around form ≡ run_expr around (expr_view which)) → form ≡ one →
    IfSome found (λ (all : A). (given : Typed) → LookDoes (piece all) (gives given) blocks → LookDoes (form_run frame one) (gives given) blocks) →
    IfSome found (λ (all : A). (given : Typed) → LookDoes (piece all) (gives given) blocks → LookDoes (run_expr frame (expr_view which)) (gives given) blocks)
operands_formed piece frame which form one None blocks is form_is does = tt
operands_formed piece frame which form one (Some all) blocks is form_is does = λ given looks kept limit host. by_form frame which form one is form_is (does given looks kept limit host)

-- two numbers, and what an operation gives of them
pub operands_held : (modules : List ModuleTree) (left right : Run Typed) (operation : Pair) (first second : Typed) (blocks : Blocks) →
    LookDoes left (gives first) blocks → LookDoes right (gives second) blocks → (given : Typed) →
    LookDoes (pair_run modules operation first second) (gives given) blocks →
    LookDoes (seq left (λ (a : Typed). seq right (λ (b : Typed). pair_run modules operation a b))) (gives given) blocks
operands_held modules left right operation first second blocks a b given does =
    λ kept limit host. then_does _ (a kept limit host) (then_does _ (b kept limit host) (does kept limit host))

-- the values of the numbers
pub values_given : (modules : List ModuleTree) (operation : Pair) (first second one other given : Typed) (blocks : Blocks) →
    one ≡ first → other ≡ second → LookDoes (pair_run modules operation one other) (gives given) blocks →
    LookDoes (pair_run modules operation first second) (gives given) blocks
values_given modules operation first second one other given blocks one_is other_is does =
    subst (λ (value : Typed). LookDoes (pair_run modules operation first value) (gives given) blocks) other_is
    (subst (λ (value : Typed). LookDoes (pair_run modules operation value other) (gives given) blocks) one_is does)

-- what an operation gives, the expression gives
pub operands_give : {A : Type 0} (view : A → Typed) (piece whole : Run Typed) (found : Option A) (blocks : Blocks) →
    ((given : Typed) → LookDoes piece (gives given) blocks → LookDoes whole (gives given) blocks) →
    IfSome found (λ (one : A). LookDoes piece (gives (view one)) blocks) → IfSome found (λ (one : A). LookDoes whole (gives (view one)) blocks)
operands_give view piece whole None blocks goes does = tt
operands_give view piece whole (Some one) blocks goes does = goes (view one) does

pub same_given : (piece : Run Typed) (value other : Typed) (blocks : Blocks) → other ≡ value → LookDoes piece (gives value) blocks → LookDoes piece (gives other) blocks
same_given piece value other blocks is does = subst (λ (given : Typed). LookDoes piece (gives given) blocks) (sym is) does

pub test_gives : (test : Bool) (at : State) → Does (tests (truth test)) (gives test) at at
test_gives true at = pure_does true at
test_gives false at = pure_does false at

pub side_runs : (frame : Frame) (test : Bool) (one other list : List RStmt) {end : End Flow} {before after : State} → list ≡ (if test then one else other) →
    Does (run_stmts frame (stmts (map stmt_view list))) end before after →
    Does (either test (run_stmts frame (stmts (map stmt_view one))) (run_stmts frame (stmts (map stmt_view other)))) end before after
side_runs frame true one other list {end = end} {before = before} {after = after} is does =
    subst (λ (found : List RStmt). Does (run_stmts frame (stmts (map stmt_view found))) end before after) is does
side_runs frame false one other list {end = end} {before = before} {after = after} is does =
    subst (λ (found : List RStmt). Does (run_stmts frame (stmts (map stmt_view found))) end before after) is does
