-- Calls without arguments, and calls of either kind.
use Rattle.std.proofs.Common.{rules, ◌≡◌, ℕ, ◌==◌, ◌&&◌, ◌||◌, not, Bool, true, false, List, [], ◌∷◌, length, map, refl, sym, ap, ◌∙◌}
use Rattle.cx_core.specs.Views.{exprs_of, view_expr}
use Rattle.cx_core.specs.declared.expr.CoreExpr.{CoreExpr}
use Rattle.whole_names.specs.Calls.{NamedCall, is_bare}
use Rattle.whole_names.specs.Keys.{is_called, is_called_bare, is_called_with}

pub no_args : (args : List CoreExpr) → (length args == 0) ≡ is_bare (exprs_of (map view_expr args))
no_args [] = refl
no_args (one ∷ args) = search rules

-- a call of a function, with arguments or without, and the others
split : (same bare with_others bare_others : Bool) → (same && not bare || with_others || (same && bare || bare_others)) ≡ (same || (with_others || bare_others))
split true true true b = refl
split true true false b = refl
split true false w b = refl
split false bare w b = refl

called_either : (calls : List NamedCall) (number : ℕ) → (is_called_with calls number || is_called_bare calls number) ≡ is_called calls number
called_either [] number = refl
called_either (one ∷ calls) number =
    split (one.callee == number) one.is_bare (is_called_with calls number) (is_called_bare calls number)
    ∙ ap (λ t. (one.callee == number) || t) (called_either calls number)

pub first_called : (calls : List NamedCall) (number : ℕ) (test : Bool) → test ≡ is_called_with calls number → test ≡ true → test ≡ is_called calls number
first_called calls number test e is = is ∙ ap (λ t. t || is_called_bare calls number) (sym is ∙ e) ∙ called_either calls number

pub second_called : (calls : List NamedCall) (number : ℕ) (test other : Bool) → test ≡ is_called_with calls number → test ≡ false → other ≡ is_called_bare calls number → other ≡ is_called calls number
second_called calls number test other e is f = f ∙ ap (λ t. t || is_called_bare calls number) (sym is ∙ e) ∙ called_either calls number
