use Rattle.std.proofs.Common.{◌≡◌, drop}
use Rattle.std.specs.List.{list_all}
use Rattle.rs_mean.specs.Scalars.{fits_integer}
use Rattle.rs_text.specs.declared.integer.IntegerTy.TheVariants.{I8}
use Rattle.rs_types.proofs.items.are_bytes.Given as goal

-- what is left answers for all
abbrev pub invariant-loop-value : goal.invariant-loop-value
invariant-loop-value l = list_all (fits_integer I8) (drop l.value-index l.values) ≡ list_all (fits_integer I8) l.values
