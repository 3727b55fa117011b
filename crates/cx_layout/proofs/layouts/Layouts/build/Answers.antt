use Rattle.std.proofs.Common.{◌∙◌, sym}
use Rattle.std.proofs.lemmas.List.{length-map}
use Rattle.cx_core.specs.Views.{view_types}
use Rattle.cx_layout.proofs.Builds.{built_none, all_laid, all_same, fits_whole, whole_all, whole_same}
use Rattle.cx_layout.proofs.layouts.Layouts.build.Goals as goal

pub loop-layouts-init : goal.loop-layouts-init
loop-layouts-init c = built_none (view_types c.args.types.now) c.new-layouts.result c.new-layouts.ensures

pub returns-in-Ok-false-clause-whole : goal.returns-in-Ok-false-clause-whole
returns-in-Ok-false-clause-whole c =
    let types = view_types c.args.types.now in
    fits_whole types c.sweep.new.self c.fitted.result c.len.result
    (all_same types c.sweep.new.self c.requires (c.in-Ok-false.ensures.ends c.in-Ok-false.field-0-test) c.in-Ok-false.ensures.built)
    (c.len.ensures ∙ sym (length-map c.args.types.now.records _)) c.fitted.ensures.long c.fitted.ensures.same

pub returns-in-Ok-false-clause-layouts : goal.returns-in-Ok-false-clause-layouts
returns-in-Ok-false-clause-layouts c = whole_same (view_types c.args.types.now) c.fitted.result (returns-in-Ok-false-clause-whole c)

pub returns-in-Ok-false-clause-all : goal.returns-in-Ok-false-clause-all
returns-in-Ok-false-clause-all c =
    let types = view_types c.args.types.now in
    whole_all types c.sweep.new.self c.fitted.result
    (all_same types c.sweep.new.self c.requires (c.in-Ok-false.ensures.ends c.in-Ok-false.field-0-test) c.in-Ok-false.ensures.built)
    (all_laid types c.sweep.new.self c.requires (c.in-Ok-false.ensures.ends c.in-Ok-false.field-0-test)) (returns-in-Ok-false-clause-whole c)
