use Rattle.std.proofs.Common.{◌≡◌, map, drop}
use Rattle.whole_keys.specs.Kept.{has_function}
use Rattle.whole_keys.specs.Views.{view_key}
use Rattle.whole_names.specs.Kept.{first_key}
use Rattle.whole_known.proofs.callocs.first_key.Given as goal

-- what is left answers for all
abbrev pub invariant-loop-one : goal.invariant-loop-one
invariant-loop-one l = first_key (has_function l.numbers) (map view_key l.keys) ≡ first_key (has_function l.numbers) (map view_key (drop l.one-index l.keys))
