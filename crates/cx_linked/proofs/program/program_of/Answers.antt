use Rattle.std.proofs.Common.{map, sym, subst}
use Rattle.cx_core.specs.Linked.{IsLinked}
use Rattle.cx_core.specs.Views.{view_unit}
use Rattle.cx_sound.proofs.Sound.{unbroken_units_are_linked}
use Rattle.cx_linked.proofs.program.program_of.Goals as goal

pub new-requires : goal.new-requires
new-requires c =
    let known = c.requires.unbroken in
    subst IsLinked (sym c.in_ok-parts.ensures.linked) (unbroken_units_are_linked known.0 (map view_unit c.args.units.now) known.1)
