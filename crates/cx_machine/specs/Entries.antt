-- A function that was called, before its parameters begin.
use Rattle.std.specs.Prelude.{◌≡◌, [], ◌∷◌}
use Rattle.cx_core.specs.Trees.{CFun}
use Rattle.cx_machine.specs.declared.machine.Machine.{Machine}
use Rattle.cx_mean.specs.Paths.{site_at}
use Rattle.cx_mean.specs.State.{bottom_of}
use Rattle.cx_machine.specs.Answers.{held_work}
use Rattle.cx_machine.specs.Machines.{callers_of}
use Rattle.cx_moves.specs.declared.moves.Purpose.{Purpose}
use Rattle.cx_moves.specs.declared.sites.Site.{Site}
use Rattle.cx_moves.specs.Sites.{view_purpose, view_site}

-- no statement of it is open
abbrev pub IsAtEntry : Machine → CFun → Type 0
IsAtEntry machine callee = view_site machine.site ≡ site_at [] (bottom_of callee machine.site.params)

-- what calls waits, and another function stands in its place
pub record Waits (old new : Machine) (purpose : Purpose) (site : Site) : Type 0 where
  pub site_is : new.site ≡ site
  pub callers : callers_of new.callers ≡ record { work = held_work old.work; purpose = view_purpose (view_site old.site) purpose } ∷ callers_of old.callers
  pub statics : new.statics ≡ old.statics
  pub order : new.order.now ≡ old.order.now
