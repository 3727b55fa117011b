use Rattle.cx_breaks.proofs.Tests.{or_first, or_second}
use Rattle.cx_breaks.specs.Asked.{lacks_value}
use Rattle.cx_breaks.proofs.asked.lacks_value.Goals as goal

pub returns-then-gives_nothing : goal.returns-then-gives_nothing
unfolding lacks_value
returns-then-gives_nothing c = or_first _ _ _ c.gives_nothing.ensures c.if-gives_nothing.true

pub returns-else-gives_nothing : goal.returns-else-gives_nothing
unfolding lacks_value
returns-else-gives_nothing c = or_second _ _ _ _ c.gives_nothing.ensures c.if-gives_nothing.false c.holds_nothing.ensures
