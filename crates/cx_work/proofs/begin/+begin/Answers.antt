use Rattle.cx_work.proofs.Begun.{begun_at_end}
use Rattle.cx_work.proofs.begin.+begin.Goals as goal

pub begin_all-returns : goal.begin_all-returns
begin_all-returns t c = begun_at_end _ _ _ c.loop-one-test.false c.loop-one.invariant
