-- The laws of lifting, from the lemmas.
use Rattle.straight_core.specs.Trees.{expr}
use Rattle.straight_lift.specs.Laws.{ExpressionIsLifted, StatementsAreLifted, StatementIsLifted, BodiesGive, BodiesDontMatter, StatementsAreSilent}
use Rattle.straight_lift.proofs.Marked.{lifts_marked}
use Rattle.straight_lift.proofs.Silent.{silent_stmts}
use Rattle.straight_lift.proofs.Bodywise.{lifts_stmts, lifts_stmt}
use Rattle.straight_lift.proofs.Bodies.{bodies_dont_matter}
use Rattle.straight_lift.proofs.Returns.{body_gives}

pub expression_is_lifted : ExpressionIsLifted
expression_is_lifted program names images c_frame frame limit declared (expr type place form) from c_world world n m linked agree agrees has is only within =
    lifts_marked program linked names images c_frame frame limit declared agree type place form from c_world world agrees has is only within n m

pub statements_are_lifted : StatementsAreLifted
statements_are_lifted program names images c_frame frame limit declared result list from c_world world n m linked agree agrees has is only within =
    lifts_stmts program linked names images c_frame frame limit declared agree result list from c_world world agrees has is only within n m

pub statement_is_lifted : StatementIsLifted
statement_is_lifted program names images c_frame frame limit declared result body from c_world world n m linked agree agrees has is only within =
    lifts_stmt program linked names images c_frame frame limit declared agree result body from c_world world agrees has is only within n m

pub bodies_give : BodiesGive
bodies_give program c_frame result body c_world steps scalar is ends = body_gives program c_frame result body c_world steps scalar is ends

pub bodies_do_not_matter : BodiesDontMatter
bodies_do_not_matter program names images c_frame frame limit declared result body from bodies world units agree is only =
    bodies_dont_matter program names images c_frame frame limit declared agree result body from bodies world units is only

pub statements_are_silent : StatementsAreSilent
statements_are_silent frame list world = silent_stmts frame list world
