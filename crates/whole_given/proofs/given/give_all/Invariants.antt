use Rattle.std.proofs.Common.{◌≡◌, map, drop}
use Rattle.cx_core.specs.Views.{view_program}
use Rattle.whole_given.specs.Told.{first_of, told}
use Rattle.whole_keys.specs.Views.{view_key}
use Rattle.whole_keys.specs.declared.key.NameKey.{NameKey}
use Rattle.whole_names.specs.ModuleNames.{given_from, name_among}
use Rattle.whole_given.proofs.given.give_all.Given as goal

-- what is told and what is left answer for all
abbrev pub invariant-loop-one : goal.invariant-loop-one
invariant-loop-one l =
    (other : NameKey) → first_of (told l.table other) (name_among (view_key other) (given_from (view_program l.parts) l.scopes.module_names (map view_key (drop l.one-index l.keys))))
    ≡ first_of (told l.fn.table other) (name_among (view_key other) (given_from (view_program l.parts) l.fn.scopes.module_names (map view_key l.keys)))
