-- Calls by a pointer, as nodes of an expression: the pointer is evaluated in front of the arguments, and is what it was behind them (ISO C99, 6.5.2.2p10).
use Rattle.std.proofs.Common.{◌≡◌, inl, ℕ, ◌≤◌, Bool, true, ◌||◌, List, ◌∷◌, ◌++◌, map, Some, Result, Ok, Err, refl, sym, subst, append_assoc, arith}
use Rattle.cr_base.specs.declared.refusal.Place.{Place}
use Rattle.cr_runs.specs.Runs.{bind, tick}
use Rattle.cr_world.specs.World.{World}
use Rattle.cx_core.specs.Trees.{CTy, CExpr, expr, call_by, CExprs}
use Rattle.cx_core.specs.Typing.{IsTyped}
use Rattle.cx_mean.specs.Calls.{CCalling, node_calling}
use Rattle.cx_mean.specs.Leftmost.{CRan, c_callee, c_call, c_values}
use Rattle.cx_mean.specs.Operands.{CWhy, COperand, united_operands}
use Rattle.lift_calls.specs.Programs.{setting_in, c_calls}
use Rattle.lift_does.proofs.Arguments.{EachOwes, ArgsDid, args_owe}
use Rattle.lift_does.proofs.Around.{Around, scope, At, DidOf, OweAs, value_in}
use Rattle.lift_does.proofs.CallEnds.{NodeCame}
use Rattle.lift_does.proofs.CallNodes.{Serving, Reaches, node_did, call_owes}
use Rattle.lift_does.proofs.Lasting.{no_either, no_conflict}
use Rattle.lift_does.proofs.Nodes.{and_then_is, united_more, OneDid, one_owes}
use Rattle.lift_does.proofs.PointedServes.{pointed_serves, pointed_serves_at}
use Rattle.lift_does.proofs.Reaching.{reached_then, temporaries_stay}
use Rattle.lift_does.proofs.Runs.{step_owes, same_events}
use Rattle.lift_does.proofs.Unary.{ExprOwes}
use Rattle.lift_does.specs.Does.{is_fixed, IsAsked}
use Rattle.lift_exprs.specs.Calls.{Called, Arguments, called_by_pointer}
use Rattle.lift_exprs.specs.Lifted.{lifted, lifted_args, operand_of, joined_to}
use Rattle.lift_exprs.specs.Names.{type_in}
use Rattle.lift_exprs.specs.Written.{Written}
use Rattle.lift_held.specs.Held.{is_record, operand_before, some_holds_call}
use Rattle.lift_held.specs.declared.asked.Asked.{Asked}
use Rattle.lift_stands.specs.Stands.{Images}
use Rattle.rs_mean.specs.Run.{Flow}
use Rattle.rs_text.specs.Tree.{Stmt}

module _ (x : Around) (asked : Asked) (type : CTy) (at : Place) (callee : CExpr) (args : CExprs) (from : ℕ) (images : Images) (c w : World) (here : At x images c w) (typed : IsTyped x.home (expr type at (call_by callee args))) where
  abbrev node : CExpr
  node = expr type at (call_by callee args)

  abbrev before : Asked
  before = operand_before (some_holds_call args)

  abbrev pointer : Written
  pointer = lifted x.names before callee from

  abbrev others : Arguments
  others = lifted_args x.names args pointer.next

  abbrev both : Arguments
  both = joined_to pointer others

  abbrev called : Called
  called = called_by_pointer (operand_of x.names callee pointer.given)

  abbrev run_of : World → CCalling → ℕ → CRan COperand
  run_of c2 calling = tick c2 (λ left. c_callee (setting_in x.s) (c_calls x.s) type calling calling.called.callee c2 left)

  abbrev behind_pointer : COperand → List COperand → World → ℕ → CRan COperand
  behind_pointer one operands after = c_call (setting_in x.s) (c_calls x.s) at type after (node_calling (setting_in x.s) type at (call_by callee args) (one ∷ operands))

  module _ (more : Bool) (written : Written) (list : List Stmt) (p : from ≤ pointer.next) (q : pointer.next ≤ others.written.next) (r : others.written.next ≤ written.next)
      (behind : (last : Images) (c2 w2 : World) (source : ℕ → CRan COperand) → Serving x type called both.list source last c2 w2 → OweAs x (NodeCame x asked.used node written.given both.written.next written.next last c2 w2) source list w2) where
    abbrev Good : COperand → World → Flow → World → Type 0
    Good = DidOf x asked.used more node written from images c w

    node_owed : (one : COperand) (mid : Images) (c1 w1 : World) → OneDid x true (is_fixed before callee) callee pointer from images mid c w one c1 w1 → (operands : List COperand) (last : Images) (c2 w2 : World) →
        ArgsDid x args pointer.next mid c1 w1 operands last c2 w2 → (outcome : Result CCalling CWhy) → node_calling (setting_in x.s) type at (call_by callee args) (one ∷ operands) ≡ outcome →
        OweAs x Good (c_call (setting_in x.s) (c_calls x.s) at type c2 outcome) list w2
    node_owed one mid c1 w1 did operands last c2 w2 more_did (Err why) is =
        step_owes x Good at (Err why) (λ calling. c_callee (setting_in x.s) (c_calls x.s) type calling calling.called.callee) list c2 w2 (same_events last c2 w2 more_did.reached.at.worlds) (λ calling found. cc (found))
    node_owed one mid c1 w1 did operands last c2 w2 more_did (Ok calling) is =
        let united = and_then_is (united_operands (one ∷ operands)) _ calling is in
        let parts = united_more one.marks (map (λ (o : COperand). o.marks) operands) united.0 united.1 in
        let end = others.written.next in
        let reached = reached_then x from pointer.next end images mid last c w c1 w1 c2 w2 p q here did.reached more_did.reached in
        let given = more_did.gives parts.0 parts.1 in
        let gave = did.gives last c2 w2 (record {
          extends = more_did.reached.keeps.extends;
          here = more_did.reached.at;
          temporaries = temporaries_stay x pointer.next end mid last c1 w1 c2 w2 did.reached.at more_did.reached;
          lasts = more_did.over (is_fixed before callee) one.marks.reads parts.0 (λ loose. (no_either (some_holds_call args) _ loose).0) parts.1 (no_conflict one.marks parts.0 parts.2.apart);
        }) in
        let there = more_did.reached.at in
        node_did x asked.used more node written from end images last c w c2 w2 (run_of c2 calling) list here reached (omega (arith, p, q)) r
        (behind last c2 w2 (run_of c2 calling) (record {
          at = there;
          plain = λ plain. pointed_serves x type at callee args pointer.next typed one operands last c2 w2 there did.knows_is.0.operand_is given calling is pointer.given gave plain;
          placed = λ place address laid of_it laid_is ready gives.
              pointed_serves_at x type at callee args pointer.next typed one operands last c2 w2 there did.knows_is.0.operand_is given calling is pointer.given gave place address laid of_it laid_is ready gives;
        }))

    both_owed : ExprOwes x before callee from images c w → ((mid : Images) (c1 w1 : World) → At x mid c1 w1 → EachOwes x args pointer.next) → OweAs x Good (value_in x node c) (both.written.body ++ list) w
    both_owed first rest =
        subst (λ (body : List Stmt). OweAs x Good (value_in x node c) body w) (sym (append_assoc pointer.body others.written.body list))
        (one_owes x Good (λ one after left. bind (c_values (setting_in x.s) (c_calls x.s) (scope x) args after left) (λ operands later. behind_pointer one operands later)) (others.written.body ++ list) true (is_fixed before callee) callee pointer from images c w here
        (inl typed.1.0) first (λ one mid c1 w1 did.
        args_owe x Good (behind_pointer one) list args pointer.next mid c1 w1 did.reached.at typed.1.1 (rest mid c1 w1 did.reached.at) (λ operands last c2 w2 more_did.
        node_owed one mid c1 w1 did operands last c2 w2 more_did (node_calling (setting_in x.s) type at (call_by callee args) (one ∷ operands)) refl)))

  pointed_reaches : from ≤ pointer.next → pointer.next ≤ others.written.next → ExprOwes x before callee from images c w → EachOwes x args pointer.next → Reaches x asked node called both from images c w
  pointed_reaches p q first rest more written list body_is r behind =
      subst (λ (body : List Stmt). OweAs x (DidOf x asked.used more node written from images c w) (value_in x node c) body w) (sym body_is) (both_owed more written list p q r behind first (λ mid c1 w1 there. rest))

  pub pointed_owes : from ≤ pointer.next → pointer.next ≤ others.written.next → ExprOwes x before callee from images c w → EachOwes x args pointer.next → IsAsked asked node →
      ((is_record type || asked.used) ≡ true → x.kept.temporaries others.written.next ≡ Some (record { name = x.names.temporary others.written.next; ty = type_in x.names type })) → ExprOwes x asked node from images c w
  pointed_owes p q first rest asked_is kept_is = call_owes x asked node called both from images c w here typed (pointed_reaches p q first rest) asked_is refl kept_is
