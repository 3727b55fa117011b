use Rattle.std.proofs.Common.{sym, subst}
use Rattle.clap.specs.Walk.{texts}
use Rattle.cx_units.specs.declared.source.Source.{Source}
use Rattle.front.specs.Outcome.{ending_of}
use Rattle.front.specs.Sources.{AreGot}
use Rattle.front.proofs.JobLaws.{units_stop}
use Rattle.front.proofs.runs.run_c.Goals as goal

pub returns : goal.returns
returns g c =
    let names = texts c.args.names.now in
    units_stop c.args.steps c.args.order.now names c.as_slice.result.now c.in-Err.stop (ending_of c.stopped.result) _ _ _ _
    (subst (λ sources. AreGot names sources (g.F.Shelf.state c.args.shelf.now) (g.F.Shelf.state c.got_all.new.shelf)) (sym c.as_slice.ensures) c.in-Ok.ensures)
    c.in-Err.ensures.refused c.in-Err.ensures.uncalled c.in-Err.ensures.wanting c.stopped.ensures
