use Rattle.cx_core.specs.Views.{view_types}
use Rattle.cx_layout.specs.Building.{AreBuilt, unlaid}
use Rattle.cx_layout.proofs.layouts.Layouts.build.Given as goal

abbrev pub invariant-loop-layouts : goal.invariant-loop-layouts
invariant-loop-layouts l = AreBuilt (view_types l.types) l.layouts

abbrev pub decreases-loop-layouts : goal.decreases-loop-layouts
decreases-loop-layouts l = unlaid (view_types l.types) l.layouts
