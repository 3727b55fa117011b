use Rattle.std.proofs.Common.{◌∙◌, arith, sym}
use Rattle.std.proofs.lemmas.Bool.Decides.{nat_tests}
use Rattle.cx_breaks.proofs.CallRules.{unfit_next, unfit_found, unfit_short, unfit_ends}
use Rattle.cx_core.specs.Views.{view_type, view_types}
use Rattle.cx_operands.specs.Views.{view_operand}
use Rattle.cx_breaks.proofs.calls.some_unfit.Goals as goal

pub returns-in_default : goal.returns-in_default
returns-in_default c =
    unfit_short view_type view_operand (view_types c.args.types.now) c.args.params.now c.args.args.now c.loop-index.index _ c.index-params-index.result
    c.loop-index-test.true c.index-params-index.is (grind (arith, nat_tests)) c.loop-index.invariant

pub returns-then-not-may_be_given : goal.returns-then-not-may_be_given
returns-then-not-may_be_given c =
    unfit_found view_type view_operand (view_types c.args.types.now) c.args.params.now c.args.args.now c.loop-index.index _ c.index-params-index.result c.in-Some.arg.now
    c.loop-index-test.true c.index-params-index.is (grind (arith, nat_tests)) c.in-Some.ensures.lookup.1 (sym c.may_be_given.ensures ∙ c.if-not-may_be_given.true) c.loop-index.invariant

pub loop-index-preserved : goal.loop-index-preserved
loop-index-preserved c =
    unfit_next view_type view_operand (view_types c.args.types.now) c.args.params.now c.args.args.now c.loop-index.index _ c.index-params-index.result c.in-Some.arg.now
    c.loop-index-test.true c.index-params-index.is (grind (arith, nat_tests)) c.in-Some.ensures.lookup.1 (sym c.may_be_given.ensures ∙ c.if-not-may_be_given.false) c.loop-index.invariant

pub returns : goal.returns
returns c =
    unfit_ends view_type view_operand (view_types c.args.types.now) c.args.params.now c.args.args.now c.loop-index.index _ c.loop-index-test.false c.loop-index.invariant
