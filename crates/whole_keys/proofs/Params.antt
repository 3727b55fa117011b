-- A function type lists parameters where its list isn't empty.
use Rattle.std.proofs.Common.{◌≡◌, Bool, refl}
use Rattle.cx_core.specs.Trees.{CTy, function, CParams, unlisted, listed, CTys, no_types, more_types}
use Rattle.whole_keys.specs.Kinds.{lists_some}
use Rattle.whole_names.specs.Keys.{has_params}

pub lists : (result : CTy) (params : CParams) (variadic : Bool) → has_params (function result params variadic) ≡ lists_some params
lists result unlisted variadic = refl
lists result (listed no_types) variadic = refl
lists result (listed (more_types first others)) variadic = refl
