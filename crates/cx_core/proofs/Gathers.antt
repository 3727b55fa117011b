-- Pairs are gathered one need behind the other.
use Rattle.std.proofs.Common.{◌≡◌, nat_eq, ◌-◌, ℕ, suc, ◌+◌, ◌<◌, ◌≤◌, Bool, true, false, List, [], ◌∷◌, ◌++◌, map, drop, length, get_or, Some, None, Result, Ok, Err, IfOk, refl, sym, ap, ◌∙◌, arith, add-one, drop-cons}
use Rattle.std.proofs.lemmas.Bool.Decides.{nat_tests}
use Rattle.std.proofs.lemmas.List.{length-drop}
use Rattle.std.proofs.Math.ListN.{drop_of_length-le}
use Rattle.cx_core.specs.declared.compatibility.RecordPair.{RecordPair}
use Rattle.cx_core.specs.Needed.{Need, both, with_both, with_pair, with_pairs, gathered, answer, each, pairwise, needed, needed_forms, needed_params, needed_lists, needed_unqualified}
use Rattle.cx_core.specs.Trees.{CTy, ty, function, CTypes}
use Rattle.cx_core.specs.Views.{types_of, view_type, view_function_type, view_params}
use Rattle.cx_core.specs.declared.ty.FunctionTy.{FunctionTy}
use Rattle.cx_core.specs.declared.ty.Params.TheFolds.{fold_out-FunctionTy}

pub with_pairs-append : (old first second : List RecordPair) → with_pairs old (first ++ second) ≡ with_pairs (with_pairs old first) second
with_pairs-append old [] second = refl
with_pairs-append old (one ∷ others) second = with_pairs-append (with_pair old one) others second

gathered_with : (old mid first : List RecordPair) (second : Need) → Some mid ≡ Some (with_pairs old first) → gathered mid second ≡ gathered old (with_both first second)
gathered_with old mid first None same = refl
gathered_with old mid first (Some pairs) same =
    let e : mid ≡ with_pairs old first = cc in
    ap (λ p. Some (with_pairs p pairs)) e ∙ sym (ap (λ p. Some p) (with_pairs-append old first pairs))

-- what is needed first is there: what is needed then is gathered behind it
pub gathered_both : (old mid : List RecordPair) (first second : Need) → Some mid ≡ gathered old first → gathered mid second ≡ gathered old (both first second)
gathered_both old mid None second same = cc
gathered_both old mid (Some pairs) second same = gathered_with old mid pairs second same

-- where nothing is enough for the first, nothing is enough for both
pub gathered_none : (old : List RecordPair) (first second : Need) → None ≡ gathered old first → None ≡ gathered old (both first second)
gathered_none old None second same = refl
gathered_none old (Some pairs) second same = cc

-- the same of what is gathered then
pub gathered_then : (old mid : List RecordPair) (first second result : Need) → Some mid ≡ gathered old first → result ≡ gathered mid second → result ≡ gathered old (both first second)
gathered_then old mid first second result same then_same = then_same ∙ gathered_both old mid first second same

-- what a found answer says, and one that isn't found
pub answered : (found : Bool) (new : List RecordPair) (need : Need) → found ≡ true → answer found new ≡ need → Some new ≡ need
answered found new need yes_found says = sym (ap (λ b. answer b new) yes_found) ∙ says

pub refused : (found : Bool) (new : List RecordPair) (need : Need) → found ≡ false → answer found new ≡ need → None ≡ need
refused found new need not_found says = sym (ap (λ b. answer b new) not_found) ∙ says

-- the same of an answer
pub gathered_met : (old mid : List RecordPair) (first second result : Need) (met : Bool) → met ≡ true → answer met mid ≡ gathered old first → result ≡ gathered mid second → result ≡ gathered old (both first second)
gathered_met old mid first second result met is_met same then_same =
    gathered_then old mid first second result (answered met mid (gathered old first) is_met same) then_same

-- the same of a call that answers
pub answer_both : {E : Type 0} (r : Result Bool E) (old mid new : List RecordPair) (first second : Need) (met : Bool) → met ≡ true → answer met mid ≡ gathered old first → IfOk r (λ found. answer found new ≡ gathered mid second) → IfOk r (λ found. answer found new ≡ gathered old (both first second))
answer_both (Ok found) old mid new first second met is_met same says = gathered_met old mid first second (answer found new) met is_met same says
answer_both (Err fault) old mid new first second met is_met same says = tt

-- ---- loops over two lists

drop_at : {X : Type 0} (xs : List X) (i : ℕ) (x : X) → i < length xs → x ≡ get_or xs i x → drop i xs ≡ x ∷ drop (i + 1) xs
drop_at xs i x within is = rw (add-one, drop-cons xs i x within) (ap (λ y. y ∷ drop (suc i) xs) (sym is))

module _ {X C : Type 0} (view : X → C) (f : C → C → Need) (xs ys : List X) (i : ℕ) (total : Need) where
  -- what is left from the element i on
  abbrev left_of : ℕ → Need
  left_of k = pairwise f (map view (drop k xs)) (map view (drop k ys))

  at_pair : (x y : X) → i < length xs → x ≡ get_or xs i x → i < length ys → y ≡ get_or ys i y → left_of i ≡ both (f (view x) (view y)) (left_of (i + 1))
  at_pair x y first x_is second y_is = rw (drop_at xs i x first x_is, drop_at ys i y second y_is) refl

  pub pairwise_next : (mid new : List RecordPair) (x y : X) → i < length xs → x ≡ get_or xs i x → i < length ys → y ≡ get_or ys i y → Some new ≡ gathered mid (f (view x) (view y)) → gathered mid (left_of i) ≡ total → gathered new (left_of (i + 1)) ≡ total
  pairwise_next mid new x y first x_is second y_is same left =
      gathered_both mid new (f (view x) (view y)) (left_of (i + 1)) same ∙ sym (ap (gathered mid) (at_pair x y first x_is second y_is)) ∙ left

  pub pairwise_fails : (mid : List RecordPair) (x y : X) → i < length xs → x ≡ get_or xs i x → i < length ys → y ≡ get_or ys i y → None ≡ gathered mid (f (view x) (view y)) → gathered mid (left_of i) ≡ total → None ≡ total
  pairwise_fails mid x y first x_is second y_is same left =
      gathered_none mid (f (view x) (view y)) (left_of (i + 1)) same ∙ sym (ap (gathered mid) (at_pair x y first x_is second y_is)) ∙ left

  short_at : (mid : List RecordPair) (x : X) → i < length xs → x ≡ get_or xs i x → drop i ys ≡ [] → gathered mid (left_of i) ≡ None
  short_at mid x first x_is nothing = rw (drop_at xs i x first x_is, nothing) refl

  pub pairwise_short : (mid : List RecordPair) (x : X) → i < length xs → x ≡ get_or xs i x → length ys ≤ i → gathered mid (left_of i) ≡ total → None ≡ total
  pairwise_short mid x first x_is second left = sym (short_at mid x first x_is (drop_of_length-le ys second)) ∙ left

  ends_with : (mid : List RecordPair) (rest : List X) → drop i ys ≡ rest → length xs ≤ i → i ≤ length xs → i ≤ length ys → gathered mid (left_of i) ≡ answer (nat_eq (length xs) (length ys)) mid
  ends_with mid [] same first_end within second_within =
      let e : length ys - i ≡ 0 = sym (length-drop i ys) ∙ ap length same in
      let b : nat_eq (length xs) (length ys) ≡ true = grind (arith, nat_tests) in
      rw (drop_of_length-le xs first_end, same, b) refl
  ends_with mid (y ∷ rest) same first_end within second_within =
      let e : length ys - i ≡ suc (length rest) = sym (length-drop i ys) ∙ ap length same in
      let b : nat_eq (length xs) (length ys) ≡ false = grind (arith, nat_tests) in
      rw (drop_of_length-le xs first_end, same, b) refl

  pub pairwise_ends : (mid : List RecordPair) → length xs ≤ i → i ≤ length xs → i ≤ length ys → gathered mid (left_of i) ≡ total → answer (nat_eq (length xs) (length ys)) mid ≡ total
  pairwise_ends mid first_end within second_within left = sym (ends_with mid (drop i ys) refl first_end within second_within) ∙ left

-- ---- loops over one list

module _ {X C : Type 0} (view : X → C) (f : C → Need) (xs : List X) (i : ℕ) (total : Need) where
  abbrev left_by : ℕ → Need
  left_by k = each f (map view (drop k xs))

  at_one : (x : X) → i < length xs → x ≡ get_or xs i x → left_by i ≡ both (f (view x)) (left_by (i + 1))
  at_one x within x_is = rw (drop_at xs i x within x_is) refl

  pub each_next : (mid new : List RecordPair) (x : X) → i < length xs → x ≡ get_or xs i x → Some new ≡ gathered mid (f (view x)) → gathered mid (left_by i) ≡ total → gathered new (left_by (i + 1)) ≡ total
  each_next mid new x within x_is same left =
      gathered_both mid new (f (view x)) (left_by (i + 1)) same ∙ sym (ap (gathered mid) (at_one x within x_is)) ∙ left

  pub each_fails : (mid : List RecordPair) (x : X) → i < length xs → x ≡ get_or xs i x → None ≡ gathered mid (f (view x)) → gathered mid (left_by i) ≡ total → None ≡ total
  each_fails mid x within x_is same left =
      gathered_none mid (f (view x)) (left_by (i + 1)) same ∙ sym (ap (gathered mid) (at_one x within x_is)) ∙ left

-- ---- parameters

pub lists_pairwise : (types : CTypes) (firsts seconds : List CTy) → needed_lists types (types_of firsts) (types_of seconds) ≡ pairwise (needed_unqualified types) firsts seconds
lists_pairwise types [] [] = refl
lists_pairwise types [] (second ∷ seconds) = refl
lists_pairwise types (ty first first_const ∷ firsts) [] = refl
lists_pairwise types (ty first first_const ∷ firsts) (ty second second_const ∷ seconds) =
    ap (both (needed_forms types first second)) (lists_pairwise types firsts seconds)

-- ---- function types

pub function_view : (a : FunctionTy) → view_function_type a ≡ function (view_type a.result_ty) (view_params a.params) a.is_variadic
function_view a = simp fold_out-FunctionTy

-- what two function types need, by their parts
pub functions_need : (types : CTypes) (a b : FunctionTy) → both (needed types (view_type a.result_ty) (view_type b.result_ty)) (needed_params types (view_params a.params) a.is_variadic (view_params b.params) b.is_variadic) ≡ needed_forms types (view_function_type a) (view_function_type b)
functions_need types a b = rw (function_view a, function_view b) refl
