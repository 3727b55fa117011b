use Rattle.std.proofs.Common.{ap, subst, ◌≡◌, ◌∙◌}
use Rattle.cx_core.specs.Views.{view_member}
use Rattle.rs_items.specs.Known.{Knows, known_in}
use Rattle.rs_items.specs.Records.{placed_member, union_step}
use Rattle.rs_items.specs.Walks.{view_walk, with_field_names}
use Rattle.rs_items.specs.declared.map.NameMap.{NameMap}
use Rattle.rs_items.proofs.Lefts.{union_left}
use Rattle.rs_items.proofs.records.walk_union.Goals as goal

pub loop-one-preserved : goal.loop-one-preserved
loop-one-preserved c =
    let names = c.loop-one.names in
    let taken = c.union_step.new.names.scopes.field_names in
    let walk = view_walk names.scopes.field_names c.loop-one.walk in
    let same = c.loop-one.invariant.0 in
    let step = subst (λ (known : Knows). view_walk taken c.union_step.new.self ≡ union_step walk (placed_member known (view_member c.one-item.result) c.in-Some.spot.now))
    (ap known_in same) c.in_ok-union_step.ensures.walk in (
      c.in_ok-union_step.ensures.rest ∙ ap (λ (before : NameMap). with_field_names before taken) same,
      union_left (known_in c.args.names.now) walk (view_walk taken c.union_step.new.self) c.args.members.now c.loop-one.one-index c.one-item.result c.loop-one.left.now c.in-Some.others.now c.in-Some.spot.now
          c.loop-one-test.true c.one-item.is c.in-Some.ensures.cases.0 step ∙ c.loop-one.invariant.1,
    )
