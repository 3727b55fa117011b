-- The value of an expression, as the steps give it under the empty order in any context.
use Rattle.std.proofs.Common.{ℕ, List, [], ◌∷◌, refl, ap}
use Rattle.cr_base.specs.declared.refusal.Place.{Place}
use Rattle.straight_core.specs.Trees.{CTy, expr, CForm, whole, object, load, convert, unary, binary, assign, call, CExprs, no_exprs, more_exprs, CProgram}
use Rattle.straight_mean.specs.Leftmost.{c_form, c_values}
use Rattle.straight_mean.specs.Nodes.{load_step, assign_step, unary_step, binary_step, convert_step, call_step}
use Rattle.straight_mean.specs.Operands.{COperand, Frame, CWorld, constant, lvalue}
use Rattle.straight_mean.specs.State.{CState}
use Rattle.straight_mean.specs.Work.{Work, finished, unfinished, loads, converts, applies, combines, assigns, calls, Works, more_works, begin_form, begin_all}
use Rattle.straight_mean.proofs.Holes.{IsHole, AreHoles, hole_loads, hole_converts, hole_applies, hole_combines_left, hole_combines_right, hole_assigns_target, hole_assigns_value, holes_calls, all_finished, finished_operands, ready_call, node_reaches}
use Rattle.straight_mean.proofs.Reached.{Reaches, reached, reaches_bind}

mutual
  pub value_reaches : (program : CProgram) (frame : Frame) (context : Work → CWorld → CState) → IsHole program frame context →
      (type : CTy) (place : Place) (form : CForm) (world : CWorld) (steps : ℕ) →
      Reaches program steps (context (begin_form frame type place form) world) (c_form program frame type place form world steps) (λ one next. context (finished one) next)
  value_reaches program frame context hole type place (whole value) world steps =
      reached program steps (constant type value) world (λ one next. context (finished one) next)
  value_reaches program frame context hole type place (object number) world steps =
      reached program steps (lvalue frame type number) world (λ one next. context (finished one) next)
  value_reaches program frame context hole type place (load (expr t p form)) world steps =
      reaches_bind program steps _ _ _ _ _
      (value_reaches program frame (λ work next. context (unfinished type place (loads work)) next) (hole_loads program frame context type place hole) t p form world steps)
      (λ one next. node_reaches program frame context type place (loads (finished one)) (load_step type one next) next hole refl refl)
  value_reaches program frame context hole type place (convert (expr t p form)) world steps =
      reaches_bind program steps _ _ _ _ _
      (value_reaches program frame (λ work next. context (unfinished type place (converts work)) next) (hole_converts program frame context type place hole) t p form world steps)
      (λ one next. node_reaches program frame context type place (converts (finished one)) (convert_step type one next) next hole refl refl)
  value_reaches program frame context hole type place (unary op (expr t p form)) world steps =
      reaches_bind program steps _ _ _ _ _
      (value_reaches program frame (λ work next. context (unfinished type place (applies op work)) next) (hole_applies program frame context type place op hole) t p form world steps)
      (λ one next. node_reaches program frame context type place (applies op (finished one)) (unary_step op type one next) next hole refl refl)
  value_reaches program frame context hole type place (binary op (expr t p left) (expr u q right)) world steps =
      reaches_bind program steps _ _ _ _ _
      (value_reaches program frame (λ work next. context (unfinished type place (combines op work (begin_form frame u q right))) next)
      (hole_combines_left program frame context type place op (begin_form frame u q right) hole) t p left world steps)
      (λ one next rest. reaches_bind program rest _ _ _ _ _
      (value_reaches program frame (λ work after. context (unfinished type place (combines op (finished one) work)) after)
      (hole_combines_right program frame context type place op one hole) u q right next rest)
      (λ other after. node_reaches program frame context type place (combines op (finished one) (finished other)) (binary_step op type one other after) after hole refl refl))
  value_reaches program frame context hole type place (assign (expr t p target) (expr u q value)) world steps =
      reaches_bind program steps _ _ _ _ _
      (value_reaches program frame (λ work next. context (unfinished type place (assigns work (begin_form frame u q value))) next)
      (hole_assigns_target program frame context type place (begin_form frame u q value) hole) t p target world steps)
      (λ one next rest. reaches_bind program rest _ _ _ _ _
      (value_reaches program frame (λ work after. context (unfinished type place (assigns (finished one) work)) after)
      (hole_assigns_value program frame context type place one hole) u q value next rest)
      (λ other after. node_reaches program frame context type place (assigns (finished one) (finished other)) (assign_step type one other after) after hole refl refl))
  value_reaches program frame context hole type place (call callee args) world steps =
      reaches_bind program steps _ _ _ _ _
      (values_reach program frame (λ works next. context (unfinished type place (calls callee works)) next) (holes_calls program frame context type place callee hole) args world steps)
      (λ operands next. node_reaches program frame context type place (calls callee (all_finished operands)) (call_step program callee type operands next) next hole
      (ready_call callee operands type place)
      (ap (λ (list : List COperand). call_step program callee type list next) (finished_operands operands)))

  values_reach : (program : CProgram) (frame : Frame) (context : Works → CWorld → CState) → AreHoles program frame context →
      (args : CExprs) (world : CWorld) (steps : ℕ) →
      Reaches program steps (context (begin_all frame args) world) (c_values program frame args world steps) (λ operands next. context (all_finished operands) next)
  values_reach program frame context holes no_exprs world steps =
      reached program steps [] world (λ operands next. context (all_finished operands) next)
  values_reach program frame context holes (more_exprs (expr t p form) others) world steps =
      reaches_bind program steps _ _ _ _ _
      (value_reaches program frame (λ work next. context (more_works work (begin_all frame others)) next) (holes [] (begin_all frame others)) t p form world steps)
      (λ one next rest. reaches_bind program rest _ _ _ _ _
      (values_reach program frame (λ works after. context (more_works (finished one) works) after) (λ done. holes (one ∷ done)) others next rest)
      (λ more after left. reached program left (one ∷ more) after (λ operands last. context (all_finished operands) last)))
