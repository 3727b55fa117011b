use Rattle.std.proofs.Common.{subst}
use Rattle.cx_decl.proofs.Told.{unit_told}
use Rattle.cx_decl.specs.Tells.{ChecksUnit}
use Rattle.cx_rules.specs.Units.{check_unit, seen_unit}
use Rattle.cx_tree.specs.Views.{unit_view}
use Rattle.cx_decl.proofs.calls.check_unit.Goals as goal

pub returns : goal.returns
returns c = record {
  tells =
      unit_told c.unit_walked-found.result (seen_unit c.args.unit (unit_view c.args.u.now))
      (subst (λ walked. ChecksUnit c.unit_walked-found.result walked) (c.units_stop.ensures (unit_view c.args.u.now) c.args.unit)
      (subst (λ scope. ChecksUnit c.unit_walked-found.result (check_unit (unit_view c.args.u.now) scope)) c.first_place-context.ensures c.unit_walked-found.ensures));
}
