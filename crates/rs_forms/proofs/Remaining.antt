-- What is left of statements behind what was done of them at once.
use Rattle.std.proofs.Common.{◌≡◌, ◌==◌, subst, sym, arith, eqb-true, Bool, true, false, List, [], ◌∷◌, length, map, Option}
use Rattle.mem_bytes.specs.Counted.{Limit}
use Rattle.mem_bytes.specs.Memory.{Blocks}
use Rattle.ext_calls.specs.Host.{HostState}
use Rattle.rs_forms.specs.Forms.{stmt_run}
use Rattle.rs_forms.specs.Left.{IsLeft}
use Rattle.rs_forms.specs.declared.forms.StmtForm.{StmtForm}
use Rattle.rs_forms.specs.declared.left.Left.{Left}
use Rattle.rs_forms.specs.declared.left.Left.TheVariants as left
use Rattle.rs_machine.specs.Does.{End, gives, Does}
use Rattle.rs_machine.specs.States.{State, Kept, state}
use Rattle.rs_machine.specs.Steps.{LookDoes}
use Rattle.rs_machine.proofs.Pieces.{then_does}
use Rattle.rs_machine.proofs.Rules.{pure_does}
use Rattle.rs_mean.specs.Run.{Frame, Flow, normal, run_stmt, run_stmts}
use Rattle.rs_mean.specs.World.{Run, either, seq}
use Rattle.rs_text.specs.Tree.{stmts}
use Rattle.rs_tree.specs.declared.stmt.RStmt.{RStmt}
use Rattle.rs_tree.specs.Views.{stmt_view}

-- no statement is left
pub none_left : (frame : Frame) (list : List RStmt) (blocks : Blocks) (limit : Option Limit) → (length list == 0) ≡ true →
    IsLeft frame (run_stmts frame (stmts (map stmt_view list))) left.Nothing blocks blocks limit limit
none_left frame [] blocks limit is = λ kept host. pure_does normal _
none_left frame (one ∷ list) blocks limit is =
    let none : length (one ∷ list) ≡ 0 = eqb-true _ _ is in absurd (omega (arith, none))

-- the same statements are left
pub listed_left : (frame : Frame) (list items : List RStmt) (found : Left) (blocks : Blocks) (limit : Option Limit) → items ≡ list →
    IsLeft frame (run_stmts frame (stmts (map stmt_view items))) found blocks blocks limit limit →
    IsLeft frame (run_stmts frame (stmts (map stmt_view list))) found blocks blocks limit limit
listed_left frame list items found blocks limit is does =
    subst (λ (which : List RStmt). IsLeft frame (run_stmts frame (stmts (map stmt_view which))) found blocks blocks limit limit) is does

pub true_left : (frame : Frame) (test : Bool) (one other : Run Flow) (found : Left) (blocks : Blocks) (limit : Option Limit) → test ≡ true →
    IsLeft frame one found blocks blocks limit limit → IsLeft frame (either test one other) found blocks blocks limit limit
true_left frame true one other found blocks limit is does = does
true_left frame false one other found blocks limit is does = absurd cc

pub false_left : (frame : Frame) (test : Bool) (one other : Run Flow) (found : Left) (blocks : Blocks) (limit : Option Limit) → test ≡ false →
    IsLeft frame other found blocks blocks limit limit → IsLeft frame (either test one other) found blocks blocks limit limit
false_left frame true one other found blocks limit is does = absurd cc
false_left frame false one other found blocks limit is does = does

-- behind a piece that looks at the store alone
pub left_then : {A : Type 0} (frame : Frame) (first : Run A) (value : A) (next : A → Run Flow) (found : Left) (before after : Blocks) (limit later : Option Limit) →
    LookDoes first (gives value) before → IsLeft frame (next value) found before after limit later → IsLeft frame (seq first next) found before after limit later
left_then frame first value next left.Nothing before after limit later looks is = λ kept host. then_does _ (looks kept limit host) (is kept host)
left_then frame first value next (left.Inner list) before after limit later looks is =
    λ kept host end last does. then_does _ (looks kept limit host) (is kept host end last does)
left_then frame first value next (left.Halted halt) before after limit later looks is = λ kept host. then_does _ (looks kept limit host) (is kept host)
left_then frame first value next left.Everything before after limit later looks is = is

-- what is left of a form is left of the statement
pub formed_left : (frame : Frame) (which : RStmt) (form one : StmtForm) (found : Left) (before after : Blocks) (limit later : Option Limit) →
    ((around : Frame) → stmt_run around form ≡ run_stmt around (stmt_view which)) → form ≡ one →
    IsLeft frame (stmt_run frame one) found before after limit later → IsLeft frame (run_stmt frame (stmt_view which)) found before after limit later
formed_left frame which form one found before after limit later is form_is does =
    subst (λ (run : Run Flow). IsLeft frame run found before after limit later) (is frame)
    (subst (λ (which : StmtForm). IsLeft frame (stmt_run frame which) found before after limit later) (sym form_is) does)

-- all of a piece that is left is done from before
pub all_left : {B : Type 0} (piece : Run B) (before after : Blocks) (limit later : Option Limit) (kept : Kept) (host : HostState) {end : End B} {last : State} →
    (after ≡ before) × (later ≡ limit) → Does piece end (state kept after later host) last → Does piece end (state kept before limit host) last
all_left piece before after limit later kept host {end = end} {last = last} same does =
    subst (λ (bound : Option Limit). Does piece end (state kept before bound host) last) same.1
    (subst (λ (blocks : Blocks). Does piece end (state kept blocks later host) last) same.0 does)
