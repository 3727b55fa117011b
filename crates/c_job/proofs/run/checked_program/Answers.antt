use Rattle.std.proofs.Common.{◌∙◌, List, ap, map, sym, subst}
use Rattle.cx_core.specs.declared.unit.CoreUnit.{CoreUnit}
use Rattle.cx_core.specs.Views.{view_unit}
use Rattle.cx_links.specs.Program.{linked}
use Rattle.cx_linked.specs.Program.{AreUnbroken}
use Rattle.c_job.proofs.Checked.{break_nothing}
use Rattle.c_job.proofs.run.checked_program.Goals as goal

pub program_of-requires : goal.program_of-requires
program_of-requires c = record {
  unbroken =
      subst (λ (units : List CoreUnit). AreUnbroken (map view_unit units)) (sym c.as_slice.ensures)
      (break_nothing c.args.sources.now (map view_unit c.in_ok-units.units) c.in_ok-units.ensures.got c.in_ok-units.ensures.unbroken);
}

pub returns-clause-program : goal.returns-clause-program
returns-clause-program c = λ units are. record {
  cores = map view_unit c.in_ok-units.units;
  unbroken = c.in_ok-units.ensures.unbroken units are;
  linked = c.in_ok-program_of.ensures.linked ∙ ap (λ (units : List CoreUnit). linked (map view_unit units)) c.as_slice.ensures;
}
