use Rattle.std.proofs.Common.{sym, length}
use Rattle.std.proofs.lemmas.Bool.{eqb-true}
use Rattle.cx_work.proofs.Apart.{apart_where_none}
use Rattle.cx_work.proofs.marks.any_overlap.Goals as goal

pub returns-then-is_empty : goal.returns-then-is_empty
returns-then-is_empty c =
    apart_where_none c.args.ones.now c.args.others.now (eqb-true (length c.args.others.now) 0 (sym c.if-is_empty.ensures))
