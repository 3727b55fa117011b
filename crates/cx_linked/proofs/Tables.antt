-- Tables of numbers.
use Rattle.std.proofs.Common.{arith, ◌≡◌, ℕ, zero, suc, ◌+◌, ◌-◌, ◌<◌, ◌≤◌, ◌==◌, cond, List, [], ◌∷◌, ◌++◌, map, drop, length, Option, Some, option_map, refl, sym, ap, ◌∙◌, subst, ⊎_elim, slice_get, slice_set, unwrap_or, length-append}
use Rattle.std.proofs.Math.Path.{fun_ext}
use Rattle.std.proofs.lemmas.Bool.{cases_eq, eq-eqb, ne_eqb}
use Rattle.std.proofs.lemmas.Option.{slice_get-map}
use Rattle.std.specs.List.{find}
use Rattle.cx_core.specs.Trees.{CUnit}
use Rattle.cx_links.specs.Program.{counts_before, numbers_of}
use Rattle.cx_renumber.specs.Numbers.{CCounts, CNumbers, above}
use Rattle.cx_renumber.specs.Views.{number_in}
use Rattle.cx_link.proofs.Chains.{split_at}
use Rattle.cx_linked.specs.Named.{function_number_among, object_number_among}

abbrev numbers_with : CCounts → List ℕ → List ℕ → CNumbers
numbers_with before objects functions = record { before = before; object_for = number_in objects before.objects; function_for = number_in functions before.functions }

-- ---- the least number above all

pub above_each : (numbers : List ℕ) (place number : ℕ) → slice_get numbers place ≡ Some number → number < above numbers
above_each [] place number is = cc
above_each (first ∷ others) zero number is =
    let same : first ≡ number = ap (λ o. unwrap_or o number) is in
    omega (arith, same)
above_each (first ∷ others) (suc place) number is =
    let below : number < above others = above_each others place number is in
    omega (arith, below)

pub above_at : {A : Type 0} (key : A → ℕ) (xs : List A) (place : ℕ) (one : A) → slice_get xs place ≡ Some one → key one < above (map key xs)
above_at key xs place one is = above_each (map key xs) place (key one) (slice_get-map key xs place ∙ ap (option_map key) is)

-- ---- numbers behind others

-- a table that says of each number what a function gives, with one more
says_more : (f : ℕ → ℕ) (table : List ℕ) → ((n : ℕ) → unwrap_or (slice_get table n) (f n) ≡ f n)
    → (n : ℕ) → unwrap_or (slice_get (table ++ f (length table) ∷ []) n) (f n) ≡ f n
says_more f [] says zero = refl
says_more f [] says (suc n) = refl
says_more f (x ∷ xs) says zero = says 0
says_more f (x ∷ xs) says (suc n) = says_more (λ m. f (suc m)) xs (λ m. says (suc m)) n

-- one more number behind others
pub own_more : (table : List ℕ) (before count : ℕ) → length table ≡ count → ((n : ℕ) → number_in table before n ≡ before + n)
    → (n : ℕ) → number_in (table ++ (before + count) ∷ []) before n ≡ before + n
own_more table before count long own = subst (λ m. (n : ℕ) → number_in (table ++ (before + m) ∷ []) before n ≡ before + n) long (says_more (λ n. before + n) table own)

pub long_more : (table : List ℕ) (one count : ℕ) → length table ≡ count → length (table ++ one ∷ []) ≡ count + 1
long_more table one count long = length-append table (one ∷ []) ∙ ap (λ n. n + 1) long

-- ---- a number that is put

set_same : (table : List ℕ) (at there default : ℕ) → at < length table → unwrap_or (slice_get (slice_set table at there) at) default ≡ there
set_same [] at there default within = absurd (omega (arith, within))
set_same (x ∷ xs) zero there default within = refl
set_same (x ∷ xs) (suc at) there default within = set_same xs at there default (omega (arith, within))

set_other : (table : List ℕ) (at there n : ℕ) → (at ≡ n → ⊥) → slice_get (slice_set table at there) n ≡ slice_get table n
set_other [] at there n apart = refl
set_other (x ∷ xs) zero there zero apart = absurd (apart refl)
set_other (x ∷ xs) zero there (suc n) apart = refl
set_other (x ∷ xs) (suc at) there zero apart = refl
set_other (x ∷ xs) (suc at) there (suc n) apart = set_other xs at there n (λ same. apart (ap suc same))

module _ {A : Type 0} (key : A → ℕ) (gives : ℕ → Option A → ℕ) (before : ℕ) where
  -- what the first of a list that has a number says of it
  abbrev pub among : List A → ℕ → ℕ
  among xs n = gives (before + n) (find (λ known. key known == n) xs)

  -- one more in front of a list whose numbers a table has
  pub table_goes : (table : List ℕ) (one : A) (xs : List A) → key one < length table → ((n : ℕ) → number_in table before n ≡ among xs n)
      → (n : ℕ) → number_in (slice_set table (key one) (gives (before + key one) (Some one))) before n ≡ among (one ∷ xs) n
  table_goes table one xs within says n = ⊎_elim
      (λ (same : key one ≡ n).
      subst (λ m. number_in (slice_set table (key one) (gives (before + key one) (Some one))) before m ≡ gives (before + m) (Some one)) same
      (set_same table (key one) (gives (before + key one) (Some one)) (before + key one) within)
      ∙ ap (λ b. gives (before + n) (cond b (Some one) (find (λ known. key known == n) xs))) (sym (eq-eqb (key one) n same)))
      (λ (apart : key one ≡ n → ⊥).
      ap (λ found. unwrap_or found (before + n)) (set_other table (key one) (gives (before + key one) (Some one)) n apart)
      ∙ says n
      ∙ ap (λ b. gives (before + n) (cond b (Some one) (find (λ known. key known == n) xs))) (sym (ne_eqb (key one) n apart)))
      (cases_eq (key one) n)

length_put : (table : List ℕ) (at there : ℕ) → length (slice_set table at there) ≡ length table
length_put [] at there = refl
length_put (x ∷ xs) zero there = refl
length_put (x ∷ xs) (suc at) there = ap suc (length_put xs at there)

module _ {X A : Type 0} (view : X → A) (key : A → ℕ) (gives : ℕ → Option A → ℕ) (before : ℕ) where
  -- one step further in front
  pub table_steps : (table after : List ℕ) (xs : List X) (place count : ℕ) (one : X) → 0 < place → slice_get xs (place - 1) ≡ Some one → length table ≡ count
      → key (view one) < length table → ((n : ℕ) → number_in table before n ≡ among key gives before (map view (drop place xs)) n)
      → after ≡ slice_set table (key (view one)) (gives (before + key (view one)) (Some (view one)))
      → (length after ≡ count) × ((n : ℕ) → number_in after before n ≡ among key gives before (map view (drop (place - 1) xs)) n)
  table_steps table after xs place count one some is long within says after_is =
      let next : suc (place - 1) ≡ place = omega (arith, some) in
      let rest : map view (drop (place - 1) xs) ≡ view one ∷ map view (drop place xs) =
      ap (map view) (split_at xs (place - 1) one is).1 ∙ ap (λ m. view one ∷ map view (drop m xs)) next in (
        ap length after_is ∙ length_put table (key (view one)) (gives (before + key (view one)) (Some (view one))) ∙ long,
        λ n. ap (λ t. number_in t before n) after_is
            ∙ table_goes key gives before table (view one) (map view (drop place xs)) within says n
            ∙ ap (λ ys. among key gives before ys n) (sym rest),
      )

  -- a number of the list stands in a table that is long enough
  pub within_table : (table : List ℕ) (xs : List X) (place count : ℕ) (one : X) → slice_get xs place ≡ Some one → length table ≡ count → above (map key (map view xs)) ≤ count
      → key (view one) < length table
  within_table table xs place count one is long enough =
      let below : key (view one) < above (map key (map view xs)) = above_at key (map view xs) place (view one) (slice_get-map view xs place ∙ ap (option_map view) is) in
      omega (arith, below, enough, long)

-- ---- all numbers of a unit

pub numbers_are : (units : List CUnit) (one : CUnit) (unit : ℕ) (before : CCounts) (objects functions : List ℕ) → before ≡ counts_before unit units
    → ((n : ℕ) → number_in objects before.objects n ≡ object_number_among units before.objects one.objects n)
    → ((n : ℕ) → number_in functions before.functions n ≡ function_number_among units before.functions one.externals n)
    → numbers_with before objects functions ≡ numbers_of units one unit
numbers_are units one unit before objects functions is objects_say functions_say =
    ap (λ f. record { before = before; object_for = f; function_for = number_in functions before.functions }) (fun_ext objects_say)
    ∙ ap (λ f. record { before = before; object_for = object_number_among units before.objects one.objects; function_for = f }) (fun_ext functions_say)
    ∙ ap (λ (counts : CCounts). record {
      before = counts;
      object_for = object_number_among units counts.objects one.objects;
      function_for = function_number_among units counts.functions one.externals;
    }) is
