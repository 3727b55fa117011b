use Rattle.std.proofs.Common.{List, IfOk, IfErr, subst}
use Rattle.straight_core.specs.Views.{view_program}
use Rattle.cx_units.specs.declared.source.Source.{Source}
use Rattle.front.specs.Sources.{IsBuiltOf, StopsJob}
use Rattle.front.proofs.units.program_of_sources.Goals as goal

pub returns-clause-built : goal.returns-clause-built
returns-clause-built c =
    subst (λ (list : List Source). IfOk c.program_of_units.result (λ program. IsBuiltOf c.args.first.now list (view_program program))) c.as_slice.ensures c.program_of_units.ensures.built

pub returns-clause-stopped : goal.returns-clause-stopped
returns-clause-stopped c =
    subst (λ (list : List Source). IfErr c.program_of_units.result (StopsJob c.args.first.now list)) c.as_slice.ensures c.program_of_units.ensures.stopped
