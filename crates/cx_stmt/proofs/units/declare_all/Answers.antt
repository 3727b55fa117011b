use Rattle.std.proofs.Common.{rules, arith, sym, ap, ◌∙◌}
use Rattle.cx_cursor.specs.Reading.{State}
use Rattle.cx_stmt.proofs.Declared.{next_declared}
use Rattle.cx_stmt.proofs.units.declare_all.Goals as goal

pub loop-index-preserved : goal.loop-index-preserved
loop-index-preserved c = (
  ap (λ (s : State). s.tokens) c.in_ok-declare.ensures ∙ c.loop-index.invariant.0,
  next_declared c.args.declared.now c.loop-index.index _ c.index-declared-index.result c.loop-index.cursor.names c.declare.new.self.names _ (search rules)
      (sym c.index-declared-index.is) (omega arith) (ap (λ (s : State). s.names) c.in_ok-declare.ensures) c.loop-index.invariant.1,
)
