use Rattle.std.proofs.Common.{◌∙◌, Bool, List, ap, sym, reverse, slice_get}
use Rattle.build_flow_reached.proofs.Walked.{left_put, seen_old, seen_put}
use Rattle.build_flow_reached.specs.Tables.{arms_of}
use Rattle.build_flow_reached.specs.Walks.{is_new}
use Rattle.build_flow_reached.proofs.walk.look.Goals as goal

pub returns-clause-seen : goal.returns-clause-seen
returns-clause-seen c =
    seen_old (arms_of c.args.table.now) c.args.place (reverse c.args.ahead.now) c.args.seen.now
    (sym (c.is_new.ensures ∙ ap (λ (seen : List Bool). is_new (slice_get seen c.args.place)) c.as_slice.ensures) ∙ c.if-is_new.false)

pub returns-then-is_new-clause-seen : goal.returns-then-is_new-clause-seen
returns-then-is_new-clause-seen c =
    seen_put (arms_of c.args.table.now) c.args.place (reverse c.args.ahead.now) (reverse c.look_at.new.ahead) c.arms.result.now c.args.seen.now c.set.new.self c.look_at.result
    (sym (c.is_new.ensures ∙ ap (λ (seen : List Bool). is_new (slice_get seen c.args.place)) c.as_slice.ensures) ∙ c.if-is_new.true) c.set.ensures c.arms.ensures c.look_at.ensures

pub returns-then-is_new-clause-left : goal.returns-then-is_new-clause-left
returns-then-is_new-clause-left c =
    left_put (arms_of c.args.table.now) c.args.place (reverse c.args.ahead.now) (reverse c.look_at.new.ahead) c.arms.result.now c.args.seen.now c.set.new.self c.look_at.result
    (sym (c.is_new.ensures ∙ ap (λ (seen : List Bool). is_new (slice_get seen c.args.place)) c.as_slice.ensures) ∙ c.if-is_new.true) c.set.ensures c.arms.ensures c.look_at.ensures
