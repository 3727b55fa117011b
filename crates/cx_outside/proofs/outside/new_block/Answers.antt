use Rattle.cx_outside.proofs.Begun.{fill_new, zero_fresh}
use Rattle.cx_outside.proofs.outside.new_block.Goals as goal

pub returns-in-Ok-fill-clause-block : goal.returns-in-Ok-fill-clause-block
returns-in-Ok-fill-clause-block g c = (
  c.in-Ok.ensures.outcome.0,
  zero_fresh _ _ _ _ _ c.if-not-is_zero.false (fill_new _ _ _ _ _ _ _ c.in-Ok.ensures.outcome.1 c.in-Ok.ensures.outcome.0 c.in-Ok-fill.ensures.outcome),
  (_, c.in-Ok.ensures.outcome.1),
)
