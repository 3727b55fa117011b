use Rattle.std.proofs.Common.{rules, ◌≡◌, ◌-◌, ◌≤◌, Some, slice_get, length, refl}
use Rattle.std.proofs.lemmas.Option.{slice_get_read}
use Rattle.cx_core.specs.Trees.{COuter}
use Rattle.cx_core.specs.Views.{view_outer}
use Rattle.cx_links.specs.Program.{function_as}
use Rattle.cx_linked.specs.Named.{units_of}
use Rattle.cx_linked.proofs.Tables.{table_steps, within_table}
use Rattle.cx_linked.proofs.numbers.function_numbers.Goals as goal

pub put_function-requires-clause-within : goal.put_function-requires-clause-within
put_function-requires-clause-within c =
    let there : slice_get c.args.externals.now (c.loop-place.place - 1) ≡ Some c.index-externals-place.result =
    slice_get_read c.args.externals.now (length c.args.externals.now) (c.loop-place.place - 1) c.index-externals-place.result refl (search rules) c.index-externals-place.is in
    within_table view_outer (λ (one : COuter). one.function) (function_as (units_of c.args.named.now)) c.args.before c.loop-place.table c.args.externals.now (c.loop-place.place - 1) c.args.count c.index-externals-place.result
    there c.loop-place.invariant.1 c.requires.within

pub loop-place-preserved : goal.loop-place-preserved
loop-place-preserved c =
    let there : slice_get c.args.externals.now (c.loop-place.place - 1) ≡ Some c.index-externals-place.result =
    slice_get_read c.args.externals.now (length c.args.externals.now) (c.loop-place.place - 1) c.index-externals-place.result refl (search rules) c.index-externals-place.is in
    let within =
    within_table view_outer (λ (one : COuter). one.function) (function_as (units_of c.args.named.now)) c.args.before c.loop-place.table c.args.externals.now (c.loop-place.place - 1) c.args.count c.index-externals-place.result
    there c.loop-place.invariant.1 c.requires.within in
    let fits : c.loop-place.place - 1 ≤ length c.args.externals.now = search rules in
    let steps =
    table_steps view_outer (λ (one : COuter). one.function) (function_as (units_of c.args.named.now)) c.args.before c.loop-place.table c.put_function.new.table c.args.externals.now c.loop-place.place c.args.count
    c.index-externals-place.result (search rules) there c.loop-place.invariant.1 within c.loop-place.invariant.2 c.in_ok-put_function.ensures in (fits, steps.0, steps.1)
