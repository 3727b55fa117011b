-- Values that wait in a body have cells of a machine: those that are given back, and what the end of a function gives.
use Rattle.cx_mean.proofs.KeptNodes.{IsHeldValue}
use Rattle.cx_mean.specs.Moves.{CBehind, in_body, of_statics, CPurpose, puts_it, drops_it, turns_on, gives_it, chooses_by, CMove, values, reaches, begins, leaves, calls_main, goes_nowhere}
use Rattle.cx_mean.specs.Paths.{CSite}

abbrev pub IsHeldSite : CSite → Type 0
IsHeldSite site = IsHeldValue site.bottom.at_end

abbrev pub IsHeldBehind : CBehind → Type 0
IsHeldBehind (in_body site) = IsHeldSite site
IsHeldBehind (of_statics others) = Unit {0}

abbrev pub IsHeldPurpose : CPurpose → Type 0
IsHeldPurpose (puts_it place one) = IsHeldBehind one.behind
IsHeldPurpose (drops_it site) = IsHeldSite site
IsHeldPurpose (turns_on site) = IsHeldSite site
IsHeldPurpose (gives_it place site) = IsHeldSite site
IsHeldPurpose (chooses_by place site) = IsHeldSite site

abbrev pub IsHeldMove : CMove → Type 0
IsHeldMove (values node purpose) = IsHeldPurpose purpose
IsHeldMove (reaches one site) = IsHeldSite site
IsHeldMove (begins one) = IsHeldSite one.outer
IsHeldMove (leaves value site) = IsHeldValue value
IsHeldMove calls_main = Unit {0}
IsHeldMove (goes_nowhere place) = Unit {0}
