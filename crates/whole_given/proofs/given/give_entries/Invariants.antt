use Rattle.std.proofs.Common.{◌≡◌, map, drop}
use Rattle.whole_given.specs.Told.{first_of, told}
use Rattle.whole_keys.specs.Views.{view_key}
use Rattle.whole_keys.specs.declared.key.NameKey.{NameKey}
use Rattle.whole_names.specs.ModuleNames.{entry_names, name_among}
use Rattle.whole_given.proofs.given.give_entries.Given as goal

-- what is told and what is left answer for all
abbrev pub invariant-loop-one : goal.invariant-loop-one
invariant-loop-one l =
    (other : NameKey) → first_of (told l.table other) (name_among (view_key other) (entry_names (map view_key (drop l.one-index l.keys))))
    ≡ first_of (told l.fn.table other) (name_among (view_key other) (entry_names (map view_key l.keys)))
