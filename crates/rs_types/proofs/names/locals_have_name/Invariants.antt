use Rattle.std.proofs.Common.{◌≡◌, map, drop}
use Rattle.rs_text.specs.Names.{is_among}
use Rattle.rs_tree.specs.Views.{local_view}
use Rattle.rs_types.specs.Names.{local_names}
use Rattle.rs_types.proofs.names.locals_have_name.Given as goal

-- what is left answers for all
abbrev pub invariant-loop-local : goal.invariant-loop-local
invariant-loop-local l = is_among (local_names (map local_view (drop l.local-index l.locals))) l.name ≡ is_among (local_names (map local_view l.locals)) l.name
