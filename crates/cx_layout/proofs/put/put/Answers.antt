use Rattle.std.proofs.Common.{sym, ◌∙◌}
use Rattle.cx_layout.proofs.RowLemmas.{row_at-set, row_at-set_other}
use Rattle.cx_layout.proofs.put.put.Goals as goal

pub returns-clause-put : goal.returns-clause-put
returns-clause-put c = record {
  here = row_at-set c.reach.new.rows.items c.args.number c.args.row c.in_ok-reach.ensures.reached;
  others = λ other apart. row_at-set_other c.reach.new.rows.items c.args.number other c.args.row apart ∙ sym (c.reach.ensures.same other);
}
