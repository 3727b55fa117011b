-- Layouts are those of a unit's types so far.
use Rattle.cx_core.specs.Layouts.{CLayouts}
use Rattle.cx_core.specs.Trees.{CTypes}
use Rattle.cx_layout.specs.Calls.{AreLayoutsOf, AreAllLaidOut}

pub record IsLaid (types : CTypes) (layouts : CLayouts) : Type 0 where
  pub same : AreLayoutsOf types layouts
  pub all : AreAllLaidOut types layouts
