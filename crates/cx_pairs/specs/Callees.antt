-- The type of the function that a call names (ISO C99, 6.5.2.2p1).
use Rattle.std.specs.Prelude.{Option, None, Some}
use Rattle.cx_core.specs.Trees.{CTyForm, function}

-- a function type, or none
abbrev pub function_form : CTyForm → Option CTyForm
function_form (function result params variadic) = Some (function result params variadic)
function_form _ = None

-- the form of what a pointer points to, where that is a function
abbrev pub callee_form : Option CTyForm → Option CTyForm
callee_form None = None
callee_form (Some form) = function_form form
