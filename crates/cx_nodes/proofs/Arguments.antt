-- Arguments of calls, one by one.
use Rattle.std.proofs.Common.{◌≡◌, ℕ, suc, List, [], ◌∷◌, ◌++◌, map, drop, length, refl, sym, ap, ◌∙◌}
use Rattle.std.specs.Prelude.{slice_get}
use Rattle.std.proofs.lemmas.List.{append-nil}
use Rattle.cx_core.specs.Trees.{CTy, CTypes, CExpr, more_exprs, type_of}
use Rattle.cx_core.specs.Views.{exprs_of, types_of}
use Rattle.cx_nodes.specs.Calls.{arg_for, values_for}
use Rattle.cx_rules.specs.Meanings.{args_for, trailing_value, trailing_from}
use Rattle.cx_rules.specs.Operands.{COperand, fitted, value_of}

pub args_by_list : (types : CTypes) (params : List CTy) (args : List COperand) → exprs_of (values_for types params args) ≡ args_for types (types_of params) args
args_by_list types params [] = refl
args_by_list types [] (arg ∷ args) = ap (more_exprs (trailing_value types arg)) (args_by_list types [] args)
args_by_list types (param ∷ params) (arg ∷ args) = ap (more_exprs (fitted types param (value_of arg))) (args_by_list types params args)

-- one argument more
pub values_more : (types : CTypes) (params : List CTy) (args : List COperand) (arg : COperand)
    → values_for types params (args ++ arg ∷ []) ≡ values_for types params args ++ arg_for types (slice_get params (length args)) arg ∷ []
values_more types [] [] arg = refl
values_more types (param ∷ params) [] arg = refl
values_more types [] (first ∷ args) arg = ap (λ others. trailing_value types first ∷ others) (values_more types [] args arg)
values_more types (param ∷ params) (first ∷ args) arg = ap (λ others. fitted types param (value_of first) ∷ others) (values_more types params args arg)

pub values_count : (types : CTypes) (params : List CTy) (args : List COperand) → length (values_for types params args) ≡ length args
values_count types params [] = refl
values_count types [] (arg ∷ args) = ap suc (values_count types [] args)
values_count types (param ∷ params) (arg ∷ args) = ap suc (values_count types params args)

-- the values so far, and that of the next argument
pub next_value : (types : CTypes) (params : List CTy) (args : List COperand) (made : List CExpr) (value : CExpr) (arg : COperand) (count : ℕ)
    → made ≡ values_for types params args → count ≡ length made → value ≡ arg_for types (slice_get params count) arg
    → made ++ value ∷ [] ≡ values_for types params (args ++ arg ∷ [])
next_value types params args made value arg count made_is count_is value_is =
    let n : count ≡ length args = count_is ∙ (ap length made_is ∙ values_count types params args) in
    ap (λ others. others ++ value ∷ []) made_is
    ∙ (ap (λ one. values_for types params args ++ one ∷ []) (value_is ∙ ap (λ k. arg_for types (slice_get params k) arg) n)
    ∙ sym (values_more types params args arg))

pub nothing_behind : {A : Type 0} (all others whole : List A) → others ≡ [] → all ++ others ≡ whole → all ≡ whole
nothing_behind all others whole none left = sym (append-nil all) ∙ (ap (λ q. all ++ q) (sym none) ∙ left)

module _ {X : Type 0} (view : X → COperand) (types : CTypes) where
  -- the types of arguments that no parameter takes
  abbrev pub promoted_types : List X → List CTy
  promoted_types args = map (λ arg. type_of (trailing_value types (view arg))) args

  pub trailing_by_count : (params : List CTy) (args : List X) → trailing_from types (types_of params) (map view args) ≡ promoted_types (drop (length params) args)
  trailing_by_count params [] = trailing_none params
    where
      trailing_none : (params : List CTy) → [] ≡ promoted_types (drop (length params) [])
      trailing_none [] = refl
      trailing_none (param ∷ params) = refl
  trailing_by_count [] (arg ∷ args) = ap (λ others. type_of (trailing_value types (view arg)) ∷ others) (trailing_by_count [] args)
  trailing_by_count (param ∷ params) (arg ∷ args) = trailing_by_count params args
