use Rattle.std.proofs.Common.{rules, ◌≡◌, ◌-◌, ◌≤◌, Some, slice_get, length, refl}
use Rattle.std.proofs.lemmas.Option.{slice_get_read}
use Rattle.cx_core.specs.Trees.{CObject}
use Rattle.cx_core.specs.Views.{view_object}
use Rattle.cx_links.specs.Program.{object_as}
use Rattle.cx_linked.specs.Named.{units_of}
use Rattle.cx_linked.proofs.Tables.{table_steps, within_table}
use Rattle.cx_linked.proofs.numbers.object_numbers.Goals as goal

pub put_object-requires-clause-within : goal.put_object-requires-clause-within
put_object-requires-clause-within c =
    let there : slice_get c.args.objects.now (c.loop-place.place - 1) ≡ Some c.index-objects-place.result =
    slice_get_read c.args.objects.now (length c.args.objects.now) (c.loop-place.place - 1) c.index-objects-place.result refl (search rules) c.index-objects-place.is in
    within_table view_object (λ (one : CObject). one.object) (object_as (units_of c.args.named.now)) c.args.before c.loop-place.table c.args.objects.now (c.loop-place.place - 1) c.args.count c.index-objects-place.result
    there c.loop-place.invariant.1 c.requires.within

pub loop-place-preserved : goal.loop-place-preserved
loop-place-preserved c =
    let there : slice_get c.args.objects.now (c.loop-place.place - 1) ≡ Some c.index-objects-place.result =
    slice_get_read c.args.objects.now (length c.args.objects.now) (c.loop-place.place - 1) c.index-objects-place.result refl (search rules) c.index-objects-place.is in
    let within =
    within_table view_object (λ (one : CObject). one.object) (object_as (units_of c.args.named.now)) c.args.before c.loop-place.table c.args.objects.now (c.loop-place.place - 1) c.args.count c.index-objects-place.result
    there c.loop-place.invariant.1 c.requires.within in
    let fits : c.loop-place.place - 1 ≤ length c.args.objects.now = search rules in
    let steps =
    table_steps view_object (λ (one : CObject). one.object) (object_as (units_of c.args.named.now)) c.args.before c.loop-place.table c.put_object.new.table c.args.objects.now c.loop-place.place c.args.count
    c.index-objects-place.result (search rules) there c.loop-place.invariant.1 within c.loop-place.invariant.2 c.in_ok-put_object.ensures in (fits, steps.0, steps.1)
