use Rattle.std.proofs.Common.{sym, subst}
use Rattle.rs_parse.proofs.CargoLaws.{IsLeft, left_wrong, left_next, none_behind, some_behind}
use Rattle.rs_parse.proofs.cargo.other_line.Goals as goal

pub returns-in_default : goal.returns-in_default
returns-in_default c =
    left_wrong c.args.text.now c.args.lines.now c.loop-rest.rest.now c.loop-rest.left.now c.line_size-size.result c.loop-rest.invariant c.line_size-size.ensures.value
    (none_behind c.in_ok-next.field-0 _ c.in_ok-next.ensures c.in_default.is)

pub loop-rest-preserved : goal.loop-rest-preserved
loop-rest-preserved c =
    subst (λ rest. IsLeft c.args.text.now c.args.lines.now rest c.in-Some.next.now) (sym c.behind-rest.ensures)
    (left_next c.args.text.now c.args.lines.now c.loop-rest.rest.now c.loop-rest.left.now c.line_size-size.result c.in-Some.next.now c.loop-rest.invariant c.line_size-size.ensures.value
    (some_behind c.in_ok-next.field-0 _ c.in-Some.next c.in_ok-next.ensures c.in-Some.is))
