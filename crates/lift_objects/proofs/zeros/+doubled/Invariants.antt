use Rattle.lift_objects.proofs.zeros.+doubled.Given as goal

abbrev pub decreases-doubled : goal.decreases-doubled
decreases-doubled l = l.left
