use Rattle.std.proofs.Common.{ℕ, ◌≡◌, ◌<◌, ◌+◌, subst, drop, set}
use Rattle.cx_access.specs.Views.{view_setting}
use Rattle.cx_work.specs.Weights.{weight, weights}
use Rattle.cx_eval.proofs.Bridged.{first_walked, rest_reached, weight_behind, weight_below}
use Rattle.cx_eval.proofs.walk.+walk.Goals as goal

below : {index count other : ℕ} → index < count → count ≡ other → index < other
below {index = index} within is = subst (λ (most : ℕ). index < most) is within

pub walk_from-returns-in-None-clause-reaches : goal.walk_from-returns-in-None-clause-reaches
walk_from-returns-in-None-clause-reaches g t c =
    first_walked (view_setting c.args.setting.now) (g.O.Objects.frame c.args.objects.now) (g.S.Store.memory c.args.store.now) (g.S.Store.memory c.walk.new.store) c.args.pick c.args.index
    c.args.operands.now c.at_mut.result.now c.walk.new.work (below c.if-index-len.false c.len.ensures) c.at_mut.ensures.value c.walk.new.taken c.in-None.ensures.reaches

pub walk_from-returns-in-Some-clause-reaches : goal.walk_from-returns-in-Some-clause-reaches
walk_from-returns-in-Some-clause-reaches g t c =
    rest_reached (view_setting c.args.setting.now) (g.O.Objects.frame c.args.objects.now) (g.S.Store.memory c.args.store.now) (g.S.Store.memory c.walk_from-rest.new.store) c.args.pick c.args.index
    c.args.operands.now c.at_mut.result.now c.walk.new.work (below c.if-index-len.false c.len.ensures) c.at_mut.ensures.value c.in-Some.count
    (g.S.Store.memory c.walk.new.store) c.walk_from-rest.new.operands c.in-Some.ensures.reaches c.walk_from-rest.result c.behind.result c.walk_from-rest.new.taken c.behind.new.taken c.behind.ensures c.walk_from-rest.ensures.reaches

pub walk_from-walk_from-rest-requires : goal.walk_from-walk_from-rest-requires
walk_from-walk_from-rest-requires g t c = λ lifetimes lives. (
  subst (λ (most : ℕ). weights (drop (c.args.index + 1) (set c.args.operands.now c.args.index c.walk.new.work)) < most) c.decreases
      (weight_behind c.args.operands.now c.args.index c.at_mut.result.now c.walk.new.work (below c.if-index-len.false c.len.ensures) c.at_mut.ensures.value),
  lives,
)

pub walk_from-walk-requires : goal.walk_from-walk-requires
walk_from-walk-requires g t c = λ lifetimes lives. (
  subst (λ (most : ℕ). weight c.at_mut.result.now < most) c.decreases
      (weight_below c.args.operands.now c.args.index c.at_mut.result.now (below c.if-index-len.false c.len.ensures) c.at_mut.ensures.value),
  lives,
)
