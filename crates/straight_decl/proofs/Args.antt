-- The one argument of a call.
use Rattle.std.proofs.Common.{◌≡◌, ℕ, ◌≤◌, List, [], ◌∷◌, length, map, None, refl, sym, subst, arith}
use Rattle.cr_base.specs.declared.refusal.Stop.{Stop}
use Rattle.cr_base.specs.declared.refusal.Stop.TheVariants as stop
use Rattle.straight_tree.specs.declared.expr.Expr.{Expr}
use Rattle.straight_tree.specs.Views.{expr_view, exprs}
use Rattle.straight_decl.specs.CoreOf.{Scope, core_only}
use Rattle.straight_decl.specs.Given.{not_built, Stops}

-- there is none of two or more
none_of_many : (unit : ℕ) (scope : Scope) (args : List Expr) → 2 ≤ length args → core_only unit scope (exprs (map expr_view args)) ≡ None
none_of_many unit scope [] many = absurd (omega (arith, many))
none_of_many unit scope (arg ∷ []) many = absurd (omega (arith, many))
none_of_many unit scope (arg ∷ other ∷ others) many = refl

pub stops_at_many : (unit : ℕ) (scope : Scope) (args : List Expr) (why : Stop) → 2 ≤ length args → why ≡ stop.Refused (not_built unit) → Stops unit why (core_only unit scope (exprs (map expr_view args)))
stops_at_many unit scope args why many e = subst (λ one. Stops unit one (core_only unit scope (exprs (map expr_view args)))) (sym e) (none_of_many unit scope args many, refl)
