-- What is done of a form is done of what has it.
use Rattle.std.proofs.Common.{◌≡◌, sym, subst, Option}
use Rattle.rs_mean.specs.Run.{Frame, Flow, run_expr, run_stmt}
use Rattle.rs_mean.specs.Values.{Typed}
use Rattle.rs_mean.specs.World.{Run}
use Rattle.rs_machine.specs.Does.{End, Does}
use Rattle.rs_machine.specs.States.{State}
use Rattle.rs_tree.specs.declared.expr.RExpr.{RExpr}
use Rattle.rs_tree.specs.declared.stmt.RStmt.{RStmt}
use Rattle.rs_tree.specs.Views.{expr_view, stmt_view}
use Rattle.rs_forms.specs.Forms.{form_run, nested_run, side_run, stmt_run, call_run}
use Rattle.rs_forms.specs.declared.forms.CallForm.{CallForm}
use Rattle.rs_forms.specs.declared.forms.Form.{Form}
use Rattle.rs_forms.specs.declared.forms.Nested.{Nested}
use Rattle.rs_forms.specs.declared.forms.Side.{Side}
use Rattle.rs_forms.specs.declared.forms.StmtForm.{StmtForm}

pub by_form : (frame : Frame) (which : RExpr) (found one : Form) {end : End Typed} {before after : State} →
    ((around : Frame) → form_run around found ≡ run_expr around (expr_view which)) → found ≡ one →
    Does (form_run frame one) end before after → Does (run_expr frame (expr_view which)) end before after
by_form frame which found one {end = end} {before = before} {after = after} is found_is does =
    subst (λ (run : Run Typed). Does run end before after) (is frame)
    (subst (λ (form : Form). Does (form_run frame form) end before after) (sym found_is) does)

pub by_stmt_form : (frame : Frame) (which : RStmt) (found one : StmtForm) {end : End Flow} {before after : State} →
    ((around : Frame) → stmt_run around found ≡ run_stmt around (stmt_view which)) → found ≡ one →
    Does (stmt_run frame one) end before after → Does (run_stmt frame (stmt_view which)) end before after
by_stmt_form frame which found one {end = end} {before = before} {after = after} is found_is does =
    subst (λ (run : Run Flow). Does run end before after) (is frame)
    (subst (λ (form : StmtForm). Does (stmt_run frame form) end before after) (sym found_is) does)

pub by_call : (frame : Frame) (found one : CallForm) {end : End (Option Typed)} {before after : State} → found ≡ one →
    Does (call_run frame one) end before after → Does (call_run frame found) end before after
by_call frame found one {end = end} {before = before} {after = after} is does =
    subst (λ (form : CallForm). Does (call_run frame form) end before after) (sym is) does

pub by_side : (frame : Frame) (found one : Side) {end : End Typed} {before after : State} → found ≡ one →
    Does (side_run frame one) end before after → Does (side_run frame found) end before after
by_side frame found one {end = end} {before = before} {after = after} is does =
    subst (λ (form : Side). Does (side_run frame form) end before after) (sym is) does

pub by_nested : (frame : Frame) (found one : Nested) {end : End Flow} {before after : State} → found ≡ one →
    Does (nested_run frame one) end before after → Does (nested_run frame found) end before after
by_nested frame found one {end = end} {before = before} {after = after} is does =
    subst (λ (form : Nested). Does (nested_run frame form) end before after) (sym is) does
