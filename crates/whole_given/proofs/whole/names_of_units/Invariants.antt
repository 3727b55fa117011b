use Rattle.std.proofs.Common.{◌≡◌, length}
use Rattle.cx_core.specs.Views.{view_program}
use Rattle.whole_given.specs.Whole.{AreGiven}
use Rattle.whole_given.proofs.whole.names_of_units.Given as goal

abbrev pub invariant-loop-unit : goal.invariant-loop-unit
invariant-loop-unit l = record {
  given : AreGiven (view_program l.parts) l.given;
  count : length l.given ≡ l.unit;
}
