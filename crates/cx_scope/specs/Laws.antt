-- Scopes begin and end by the calls that mark them.
use Rattle.std.specs.Prelude.{◌≡◌, ℕ, length}
use Rattle.cx_rules.specs.Scope.{CScope, entered, left}
use Rattle.cx_scope.specs.Changes.{begun_at, dropped_to}

-- a scope begins where it is entered behind all declarations so far
abbrev pub ScopesBegin : Type 0
ScopesBegin = (scope : CScope) → begun_at (length scope.declared) scope ≡ entered scope

-- it ends where the declarations behind those are dropped, and the scope around it begins again where it began
abbrev pub ScopesEnd : Type 0
ScopesEnd = (count begins : ℕ) (scope : CScope) → begun_at begins (dropped_to count scope) ≡ left count begins scope
