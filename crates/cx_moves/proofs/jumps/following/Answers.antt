use Rattle.std.proofs.Common.{◌∙◌}
use Rattle.cx_moves.specs.Sites.{view_move}
use Rattle.cx_moves.proofs.Reaching.{begins_there, goes_further, followed}
use Rattle.cx_moves.proofs.jumps.following.Goals as goal

pub returns-in-Some-2 : goal.returns-in-Some-2
returns-in-Some-2 c =
    begins_there _ _ (view_move c.opening.new.site) _ _ c.in-Some-2.is c.in_ok-begins.ensures.opens
    ∙ followed c.args.target.now _ _ c.in-Some.one _ c.in-Some.ensures ∙ c.loop-one.invariant

pub loop-one-preserved : goal.loop-one-preserved
loop-one-preserved c =
    goes_further _ (view_move c.opening.new.site) _ _ c.in-None.is c.in_ok-begins.ensures.opens
    ∙ followed c.args.target.now _ _ c.in-Some.one _ c.in-Some.ensures ∙ c.loop-one.invariant
