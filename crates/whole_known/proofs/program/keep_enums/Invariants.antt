use Rattle.rs_items.specs.Known.{view_names}
use Rattle.whole_given.specs.Whole.{named}
use Rattle.whole_known.specs.Stages.{KnowsMore, enums_put}
use Rattle.whole_known.proofs.program.keep_enums.Given as goal

-- those below the number are known
abbrev pub invariant-loop-number : goal.invariant-loop-number
invariant-loop-number l = KnowsMore (view_names l.fn.names) (view_names l.names) (enums_put (named l.whole) l.number (view_names l.fn.names).known)
