-- Parameters and locals behind others, as names are gone through.
use Rattle.std.specs.Prelude.{ℕ, Bool, false, List, [], ◌∷◌, ◌++◌}
use Rattle.cx_core.specs.Trees.{CFun}
use Rattle.rs_text.specs.Tree.{Ty, Stmts, no_stmts, LocalTree}
use Rattle.whole_items.specs.Items.{WrittenBody, local_of, param_of}
use Rattle.whole_names.specs.FunctionNames.{LocalName}
use Rattle.whole_names.specs.Kept.{NamedProgram}

-- a body with temporaries of these types
abbrev pub body_with : List Ty → WrittenBody
body_with temporaries = record { temporaries = temporaries; has_dispatch = false; statements = no_stmts }

abbrev pub local_with : NamedProgram → CFun → List Ty → LocalName → List LocalTree
local_with whole fun temporaries one = local_of whole fun (body_with temporaries) one

abbrev pub params_behind : NamedProgram → CFun → List LocalName → List LocalTree → List LocalTree
params_behind whole fun [] before = before
params_behind whole fun (one ∷ others) before = params_behind whole fun others (before ++ param_of whole fun one)

abbrev pub locals_behind : NamedProgram → CFun → List Ty → List LocalName → List LocalTree → List LocalTree
locals_behind whole fun temporaries [] before = before
locals_behind whole fun temporaries (one ∷ others) before = locals_behind whole fun temporaries others (before ++ local_with whole fun temporaries one)
