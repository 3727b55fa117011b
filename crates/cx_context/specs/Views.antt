-- The scope at a place.
use Rattle.cx_context.specs.declared.context.Context.{Context}
use Rattle.cx_rules.specs.Scope.{CScope}
use Rattle.cx_scope.specs.Views.{view_scope}

abbrev pub scope_of : Context → CScope
scope_of context = view_scope context.scope
