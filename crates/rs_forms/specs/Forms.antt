-- How expressions and statements run, by their forms.
use Rattle.std.specs.Prelude.{List, map, Option, Some, option_map}
use Rattle.mem_bytes.specs.declared.value.Value.TheVariants.{Whole, Null}
use Rattle.rs_mean.specs.Calls.{Spot, load}
use Rattle.rs_mean.specs.Layout.{laid_of}
use Rattle.rs_mean.specs.Run.{Frame, Flow, goes_on, run_expr, run_exprs, run_place, run_stmt, run_call_by, call_at, the_value, tests}
use Rattle.rs_mean.specs.Values.{Typed, typed, truth, binary_of, wrapping_of, offset_of, offset_from_of}
use Rattle.rs_mean.specs.World.{Run, pure, seq, either, looks, or_fails}
use Rattle.rs_text.specs.Tree as tree
use Rattle.rs_text.specs.Tree.{ModuleTree, no_tys, no_ty, tys, option_ty, exprs, stmts, arms}
use Rattle.rs_tree.specs.Views.{arm_view, expr_view, place_view, stmt_view, ty_view}
use Rattle.rs_value.specs.Operators.{unary_of}
use Rattle.rs_scene.specs.Flows.{flow_view}
use Rattle.rs_forms.specs.declared.forms.PlaceUse.{PlaceUse}
use Rattle.rs_forms.specs.declared.forms.PlaceUse.TheVariants as place_use
use Rattle.rs_forms.specs.declared.forms.Plain.{Plain}
use Rattle.rs_forms.specs.declared.forms.Plain.TheVariants as plain
use Rattle.rs_forms.specs.declared.forms.CallForm.{CallForm}
use Rattle.rs_forms.specs.declared.forms.CallForm.TheVariants as call
use Rattle.rs_forms.specs.declared.forms.Pair.{Pair}
use Rattle.rs_forms.specs.declared.forms.Pair.TheVariants as pair
use Rattle.rs_forms.specs.declared.forms.Side.{Side}
use Rattle.rs_forms.specs.declared.forms.Side.TheVariants as side
use Rattle.rs_forms.specs.declared.forms.Form.{Form}
use Rattle.rs_forms.specs.declared.forms.Form.TheVariants as form
use Rattle.rs_forms.specs.declared.forms.Nested.{Nested}
use Rattle.rs_forms.specs.declared.forms.Nested.TheVariants as nested
use Rattle.rs_forms.specs.declared.forms.StmtForm.{StmtForm}
use Rattle.rs_forms.specs.declared.forms.StmtForm.TheVariants as stmt_form

-- ---- expressions

abbrev pub used_as : PlaceUse → Spot → Run Typed
used_as place_use.Value place = load place
used_as place_use.Address place = pure (typed (tree.Pointer place.ty) place.at)

abbrev pub plain_run : Frame → Plain → Run Typed
plain_run frame (plain.Literal value ty) = pure (typed (tree.Integer ty) (Whole value.now))
plain_run frame (plain.Truth value) = pure (truth value)
plain_run frame plain.NoFunction = pure (typed (tree.Code no_tys no_ty) Null)
plain_run frame (plain.NullPointer ty) = pure (typed (tree.Pointer (ty_view ty.now)) Null)
plain_run frame (plain.SomeFunction path params given) =
    run_expr frame (tree.SomeFunction path.now.home path.now.name (tys (map ty_view params.now)) (option_ty (option_map ty_view given.now)))

abbrev pub call_run : Frame → CallForm → Run (Option Typed)
call_run frame (call.Named path args) =
    seq (run_exprs frame (exprs (map expr_view args.now))) (λ values. call_at frame.modules frame.bodies path.now.home path.now.name values)
call_run frame (call.Pointed operand args) = run_call_by frame (expr_view operand.now) (exprs (map expr_view args.now))

abbrev pub pair_run : List ModuleTree → Pair → Typed → Typed → Run Typed
pair_run modules (pair.Wrapping operation) left right = or_fails (wrapping_of operation left right)
pair_run modules pair.Offset left right = looks (λ held. offset_of (laid_of modules) held.blocks left right)
pair_run modules pair.OffsetFrom left right = looks (λ held. offset_from_of (laid_of modules) held.blocks left right)
pair_run modules (pair.Binary operator) left right = looks (λ held. binary_of held.blocks operator left right)

abbrev pub side_run : Frame → Side → Run Typed
side_run frame (side.Known test) = pure (truth test)
side_run frame (side.Operand one) = run_expr frame (expr_view one.now)

abbrev pub form_run : Frame → Form → Run Typed
form_run frame (form.Alone one) = plain_run frame one
form_run frame (form.Place what of) = seq (run_place frame (place_view of.now)) (used_as what)
form_run frame (form.Call one) = seq (call_run frame one) the_value
form_run frame (form.One operator operand) = seq (run_expr frame (expr_view operand.now)) (λ value. or_fails (unary_of operator value))
form_run frame (form.Two operation left right) =
    seq (run_expr frame (expr_view left.now)) (λ first. seq (run_expr frame (expr_view right.now)) (λ second. pair_run frame.modules operation first second))
form_run frame (form.Test condition if_true if_false) =
    seq (run_expr frame (expr_view condition.now)) (λ value. seq (tests value) (λ test. either test (side_run frame if_true) (side_run frame if_false)))

-- ---- statements

abbrev pub nested_run : Frame → Nested → Run Flow
nested_run frame (nested.If condition if_true if_false) =
    run_stmt frame (tree.If (expr_view condition.now) (stmts (map stmt_view if_true.now)) (stmts (map stmt_view if_false.now)))
nested_run frame (nested.Loop label body) = run_stmt frame (tree.Loop label.now (stmts (map stmt_view body.now)))
nested_run frame (nested.Block label body) = run_stmt frame (tree.Block label.now (stmts (map stmt_view body.now)))
nested_run frame (nested.Match value cases other) =
    run_stmt frame (tree.Match (expr_view value.now) (arms (map arm_view cases.now)) (stmts (map stmt_view other.now)))

abbrev pub stmt_run : Frame → StmtForm → Run Flow
stmt_run frame (stmt_form.Leaves flow) = pure (flow_view flow)
stmt_run frame (stmt_form.Assign of value) = run_stmt frame (tree.Assign (place_view of.now) (expr_view value.now))
stmt_run frame (stmt_form.Call one) = seq (call_run frame one) goes_on
stmt_run frame (stmt_form.Value value) = seq (run_expr frame (expr_view value.now)) goes_on
stmt_run frame (stmt_form.Copy source target count) =
    run_stmt frame (tree.CopyBytes (expr_view source.now) (expr_view target.now) (expr_view count.now))
stmt_run frame (stmt_form.Return value) = run_stmt frame (tree.Return (Some (expr_view value.now)))
stmt_run frame (stmt_form.Within one) = nested_run frame one
