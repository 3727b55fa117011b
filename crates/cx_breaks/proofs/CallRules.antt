-- The rule of a call as a chain of tests, and its arguments one by one.
use Rattle.std.proofs.Common.{◌≡◌, ℕ, suc, ◌+◌, ◌<◌, ◌≤◌, refl, ap, sym, ◌∙◌, arith, map, drop, get_or, length, add-one, drop-cons}
use Rattle.std.specs.Prelude.{◌==◌, nat_lt, Bool, true, false, not, ◌&&◌, ◌||◌, if◌then◌else◌, List, [], ◌∷◌, Option, None, Some, option_map}
use Rattle.std.specs.List.{list_any}
use Rattle.std.proofs.lemmas.List.{append-nil}
use Rattle.std.proofs.Math.ListN.{drop_of_length-le}
use Rattle.cr_base.specs.declared.rule.Rule.TheVariants.{O4, K9, K10, K12, K15}
use Rattle.cx_breaks.specs.Asked.{lacks_value, is_fixed, called_as, may_be_given, some_unfit, lacks_list, cannot_be_called, takes_no_such}
use Rattle.cx_breaks.specs.Placed.{placed}
use Rattle.cx_core.specs.Trees.{CTy, CTypes, CTys, CTyForm, void, basic, enum_type, pointer, array, record_type, function, unlisted, listed, form_of_type}
use Rattle.cx_core.specs.Views.{types_of}
use Rattle.cx_pairs.specs.Callees.{callee_form}
use Rattle.cx_rules.specs.Meanings.{callee_type}
use Rattle.cx_rules.specs.Nodes.{call_node}
use Rattle.cx_rules.specs.Operands.{COperand, gives_nothing, holds_nothing, is_register_array}
use Rattle.cx_rules.specs.Rules.{rule_at, breaks, node_rules, args_unassignable, is_empty, not_callable, not_listed, some_unassignable, types_count, count_is_wrong}
use Rattle.cx_rules.specs.Scope.{CScope}

-- ---- what is called

listed_by : (form : Option CTyForm) → not_listed form ≡ not_listed (callee_form form)
listed_by None = refl
listed_by (Some void) = refl
listed_by (Some (basic which)) = refl
listed_by (Some (enum_type number)) = refl
listed_by (Some (pointer to)) = refl
listed_by (Some (array element length)) = refl
listed_by (Some (record_type number)) = refl
listed_by (Some (function result unlisted variadic)) = refl
listed_by (Some (function result (listed params) variadic)) = refl

callable_by : (types : CTypes) (count : ℕ) (form : Option CTyForm) → not_callable types count form ≡ not_callable types count (callee_form form)
callable_by types count None = refl
callable_by types count (Some void) = refl
callable_by types count (Some (basic which)) = refl
callable_by types count (Some (enum_type number)) = refl
callable_by types count (Some (pointer to)) = refl
callable_by types count (Some (array element length)) = refl
callable_by types count (Some (record_type number)) = refl
callable_by types count (Some (function result params variadic)) = refl

assignable_by : (types : CTypes) (args : List COperand) (form : Option CTyForm) → args_unassignable types args form ≡ args_unassignable types args (callee_form form)
assignable_by types args None = refl
assignable_by types args (Some void) = refl
assignable_by types args (Some (basic which)) = refl
assignable_by types args (Some (enum_type number)) = refl
assignable_by types args (Some (pointer to)) = refl
assignable_by types args (Some (array element length)) = refl
assignable_by types args (Some (record_type number)) = refl
assignable_by types args (Some (function result params variadic)) = refl

-- ---- tests of lists

shuffled : (a b c d : Bool) → ((a || b) || (c || d)) ≡ ((a || c) || (b || d))
shuffled true b c d = refl
shuffled false true true d = refl
shuffled false true false d = refl
shuffled false false true d = refl
shuffled false false false d = refl

any_both : {A : Type 0} (p q : A → Bool) (xs : List A) → (list_any p xs || list_any q xs) ≡ list_any (λ x. p x || q x) xs
any_both p q [] = refl
any_both p q (x ∷ xs) = shuffled (p x) (list_any p xs) (q x) (list_any q xs) ∙ ap (λ b. (p x || q x) || b) (any_both p q xs)

-- the callee, and then the arguments
first_then : (g xs h ys n f fs both : Bool) → (xs || ys) ≡ both →
    (if (((g || xs) || (h || ys)) || false) then Some K10 else if n then Some K12 else if ((f || fs) || false) then Some K15 else None)
    ≡ (if (g || h) then Some K10 else if both then Some K10 else if n then Some K12 else if f then Some K15 else if fs then Some K15 else None)
first_then g xs h ys n f fs both is = rw (← is) (by_values g xs h ys n f fs)
  where
    by_values : (g xs h ys n f fs : Bool) →
        (if (((g || xs) || (h || ys)) || false) then Some K10 else if n then Some K12 else if ((f || fs) || false) then Some K15 else None)
        ≡ (if (g || h) then Some K10 else if (xs || ys) then Some K10 else if n then Some K12 else if f then Some K15 else if fs then Some K15 else None)
    by_values true xs h ys n f fs = refl
    by_values false true true ys n f fs = refl
    by_values false true false ys n f fs = refl
    by_values false false true ys n f fs = refl
    by_values false false false true n f fs = refl
    by_values false false false false true f fs = refl
    by_values false false false false false true fs = refl
    by_values false false false false false false true = refl
    by_values false false false false false false false = refl

pub called : (types : CTypes) (scope : CScope) (line : ℕ) (callee : COperand) (args : List COperand) → rule_at (placed types scope line (call_node callee args))
    ≡ (if not (is_empty args) && lacks_list (called_as callee) then Some O4
    else if cannot_be_called types (length args) (called_as callee) then Some K9
    else if lacks_value types callee then Some K10
    else if list_any (lacks_value types) args then Some K10
    else if takes_no_such types args (called_as callee) then Some K12
    else if is_fixed callee then Some K15
    else if list_any is_fixed args then Some K15
    else None)
unfolding rule_at breaks node_rules lacks_value is_fixed called_as lacks_list cannot_be_called takes_no_such
called types scope line callee args =
    rw (← listed_by (option_map form_of_type (callee_type callee)), ← callable_by types (length args) (option_map form_of_type (callee_type callee)), ← assignable_by types args (option_map form_of_type (callee_type callee)), append-nil args)
    (ap (λ rule. if not (is_empty args) && not_listed (option_map form_of_type (callee_type callee)) then Some O4
    else if not_callable types (length args) (option_map form_of_type (callee_type callee)) then Some K9 else rule)
    (first_then (gives_nothing callee) (list_any gives_nothing args) (holds_nothing types callee) (list_any (holds_nothing types) args)
    (args_unassignable types args (option_map form_of_type (callee_type callee))) (is_register_array callee) (list_any is_register_array args) _
    (any_both gives_nothing (holds_nothing types) args)))

-- ---- parameters

pub counted : {X : Type 0} (view : X → CTy) (params : List X) → length params ≡ types_count (types_of (map view params))
counted view [] = refl
counted view (param ∷ params) = counts_more (length params) _ (counted view params)
  where
    counts_more : (n m : ℕ) → n ≡ m → suc n ≡ 1 + m
    counts_more n m is = omega (arith, is)

wrong_by : (is_variadic : Bool) (wanted count : ℕ) (params : CTys) → wanted ≡ types_count params
    → (if is_variadic then nat_lt count wanted else not (wanted == count)) ≡ count_is_wrong (listed params) is_variadic count
wrong_by true wanted count params is = ap (λ n. nat_lt count n) is
wrong_by false wanted count params is = ap (λ n. not (n == count)) is

pub wrong_by_list : {X : Type 0} (view : X → CTy) (params : List X) (is_variadic : Bool) (wanted count : ℕ) → wanted ≡ length params
    → (if is_variadic then nat_lt count wanted else not (wanted == count)) ≡ count_is_wrong (listed (types_of (map view params))) is_variadic count
wrong_by_list view params is_variadic wanted count is = wrong_by is_variadic wanted count (types_of (map view params)) (is ∙ counted view params)

pub unassignable_by_list : (types : CTypes) (params : List CTy) (args : List COperand) → some_unassignable types (types_of params) args ≡ some_unfit types params args
unfolding may_be_given
unassignable_by_list types [] args = refl
unassignable_by_list types (param ∷ params) [] = refl
unassignable_by_list types (param ∷ params) (arg ∷ args) = ap (λ b. not (may_be_given types param arg) || b) (unassignable_by_list types params args)

drop_at : {X : Type 0} (xs : List X) (i : ℕ) (x : X) → i < length xs → x ≡ get_or xs i x → drop i xs ≡ x ∷ drop (i + 1) xs
drop_at xs i x within is = rw (add-one, drop-cons xs i x within) (ap (λ y. y ∷ drop (suc i) xs) (sym is))

module _ {X Y : Type 0} (view : X → CTy) (look : Y → COperand) (types : CTypes) (params : List X) (args : List Y) (i : ℕ) (total : Bool) where
  -- what is left from an index on
  abbrev pub left_from : ℕ → Bool
  left_from k = some_unfit types (map view (drop k params)) (map look (drop k args))

  at_pair : (x : X) (y : Y) → i < length params → x ≡ get_or params i x → i < length args → y ≡ get_or args i y
      → left_from i ≡ not (may_be_given types (view x) (look y)) || left_from (i + 1)
  at_pair x y first x_is second y_is = rw (drop_at params i x first x_is, drop_at args i y second y_is) refl

  pub unfit_next : (x : X) (y : Y) → i < length params → x ≡ get_or params i x → i < length args → y ≡ get_or args i y → may_be_given types (view x) (look y) ≡ true
      → left_from i ≡ total → left_from (i + 1) ≡ total
  unfit_next x y first x_is second y_is given left =
      sym (ap (λ b. not b || left_from (i + 1)) given) ∙ (sym (at_pair x y first x_is second y_is) ∙ left)

  pub unfit_found : (x : X) (y : Y) → i < length params → x ≡ get_or params i x → i < length args → y ≡ get_or args i y → may_be_given types (view x) (look y) ≡ false
      → left_from i ≡ total → true ≡ total
  unfit_found x y first x_is second y_is given left =
      sym (ap (λ b. not b || left_from (i + 1)) given) ∙ (sym (at_pair x y first x_is second y_is) ∙ left)

  short_at : (x : X) → i < length params → x ≡ get_or params i x → drop i args ≡ [] → left_from i ≡ false
  short_at x first x_is nothing = rw (drop_at params i x first x_is, nothing) refl

  pub unfit_short : (x : X) → i < length params → x ≡ get_or params i x → length args ≤ i → left_from i ≡ total → false ≡ total
  unfit_short x first x_is second left = sym (short_at x first x_is (drop_of_length-le args second)) ∙ left

  pub unfit_ends : length params ≤ i → left_from i ≡ total → false ≡ total
  unfit_ends ends left = (let e : left_from i ≡ false = rw (drop_of_length-le params ends) refl in sym e) ∙ left
