-- The last nest of a list that is entered at a node.
use Rattle.std.proofs.Common.{◌≡◌, ◌∙◌, ◌⊎◌, inl, inr, ℕ, ◌+◌, ◌≤◌, ◌<◌, nat_lt, Bool, true, false, ◌||◌, List, [], ◌∷◌, ◌++◌, length, get_or, drop, take, map, refl, ap, sym, arith, if◌then◌else◌}
use Rattle.std.proofs.Math.Nat.{eq-or-lt_of_le}
use Rattle.std.proofs.lemmas.Bool.Decides.{nat_tests}
use Rattle.std.proofs.lemmas.List.{drop-append-le, drop_more, length-take, drop_all, take_all, take_more}
use Rattle.emit_nests.specs.Views.{nest_view}
use Rattle.emit_nests.specs.declared.nests.Nest.{Nest}
use Rattle.emit_rules.specs.Nests.{nest_entries}
use Rattle.emit_rules.specs.Sorting.{all_entries}
use Rattle.reloop.proofs.Sets.{in_append}
use Rattle.reloop.specs.Graphs.{is_in}

-- what is left of a list begins with the next one
pub next_of : {A : Type 0} (xs : List A) (k : ℕ) (other x : A) → x ≡ get_or xs k other → k < length xs → drop k xs ≡ x ∷ drop (k + 1) xs
next_of xs k other x is within = drop_more xs k other within ∙ ap (λ y. y ∷ drop (k + 1) xs) (sym is)

-- of the first so many nests of a list, each node has the number of the last that is entered there, counted from 1 on
pub record AreLast (nests : List Nest) (count : ℕ) (place : ℕ → ℕ) : Type 0 where
  pub within : (node : ℕ) → place node ≤ count
  pub later : (node number : ℕ) → number ≤ count → nat_lt number (place node) ≡ is_in node (all_entries (map nest_view (drop number (take count nests))))

or_or : (a b c : Bool) → (a || (b || c)) ≡ ((a || b) || c)
or_or true b c = refl
or_or false b c = refl

or_none : (a : Bool) → (a || false) ≡ a
or_none true = refl
or_none false = refl

or_true : (a : Bool) → (a || true) ≡ true
or_true true = refl
or_true false = refl

entries_more : (node : ℕ) (front : List Nest) (nest : Nest) → is_in node (all_entries (map nest_view (front ++ nest ∷ []))) ≡ (is_in node (all_entries (map nest_view front)) || is_in node (nest_entries (nest_view nest)))
entries_more node [] nest = in_append node (nest_entries (nest_view nest)) [] ∙ or_none (is_in node (nest_entries (nest_view nest)))
entries_more node (one ∷ front) nest =
    in_append node (nest_entries (nest_view one)) (all_entries (map nest_view (front ++ nest ∷ [])))
    ∙ ap (λ test. is_in node (nest_entries (nest_view one)) || test) (entries_more node front nest)
    ∙ or_or (is_in node (nest_entries (nest_view one))) (is_in node (all_entries (map nest_view front))) (is_in node (nest_entries (nest_view nest)))
    ∙ ap (λ test. test || is_in node (nest_entries (nest_view nest))) (sym (in_append node (nest_entries (nest_view one)) (all_entries (map nest_view front))))

no_number : (number : ℕ) → nat_lt number 0 ≡ false
no_number number = grind (arith, nat_tests)

below_it : (number other : ℕ) → number < other → nat_lt number other ≡ true
below_it number other below = grind (arith, nat_tests)

not_below : (number other : ℕ) → other ≤ number → nat_lt number other ≡ false
not_below number other past = grind (arith, nat_tests)

nothing_of : (number : ℕ) → drop {A = Nest} number [] ≡ []
nothing_of number = drop_all number [] (omega arith)

pub none_last : (nests : List Nest) (place : ℕ → ℕ) → ((node : ℕ) → place node ≡ 0) → AreLast nests 0 place
none_last nests place none = record {
  within = λ node. let e = none node in omega (arith, e);
  later = λ node number few. ap (nat_lt number) (none node) ∙ no_number number ∙ sym (ap (λ list. is_in node (all_entries (map nest_view list))) (nothing_of number));
}

module _ (nests items : List Nest) (k : ℕ) (nest : Nest) (entries : List ℕ) (place grown : ℕ → ℕ) (same : items ≡ nests) (is : nest ≡ get_or items k nest) (within : k < length items) (enters : entries ≡ nest_entries (nest_view nest))
    (noted : (node : ℕ) → grown node ≡ (if is_in node entries then k + 1 else place node)) (was : AreLast nests k place) where
  inside : k < length nests
  inside = let e = ap length same in omega (arith, e, within)

  split : take (k + 1) nests ≡ take k nests ++ nest ∷ []
  split = take_more nests k nest inside ∙ ap (λ one. take k nests ++ one ∷ []) (sym (is ∙ ap (λ list. get_or list k nest) same))

  grown_within : (node : ℕ) (test : Bool) → is_in node entries ≡ test → grown node ≤ k + 1
  grown_within node true there = let e : grown node ≡ k + 1 = noted node ∙ ap (λ test. if test then k + 1 else place node) there in omega (arith, e)
  grown_within node false there = let e : grown node ≡ place node = noted node ∙ ap (λ test. if test then k + 1 else place node) there in let few = was.within node in omega (arith, e, few)

  dropped : (number : ℕ) → number ≤ k → drop number (take (k + 1) nests) ≡ drop number (take k nests) ++ nest ∷ []
  dropped number few = ap (drop number) split ∙ drop-append-le number (take k nests) (nest ∷ []) (let e = length-take k nests in let i = inside in omega (arith, e, few, i))

  in_all : (node number : ℕ) → number ≤ k → is_in node (all_entries (map nest_view (drop number (take (k + 1) nests)))) ≡ (is_in node (all_entries (map nest_view (drop number (take k nests)))) || is_in node entries)
  in_all node number few = ap (λ list. is_in node (all_entries (map nest_view list))) (dropped number few) ∙ entries_more node (drop number (take k nests)) nest
      ∙ ap (λ list. is_in node (all_entries (map nest_view (drop number (take k nests)))) || is_in node list) (sym enters)

  earlier : (node number : ℕ) (test : Bool) → is_in node entries ≡ test → number ≤ k → nat_lt number (grown node) ≡ is_in node (all_entries (map nest_view (drop number (take (k + 1) nests))))
  earlier node number true there few =
      ap (nat_lt number) (noted node ∙ ap (λ test. if test then k + 1 else place node) there) ∙ below_it number (k + 1) (omega (arith, few))
      ∙ sym (in_all node number few ∙ ap (λ test. is_in node (all_entries (map nest_view (drop number (take k nests)))) || test) there ∙ or_true (is_in node (all_entries (map nest_view (drop number (take k nests))))))
  earlier node number false there few =
      ap (nat_lt number) (noted node ∙ ap (λ test. if test then k + 1 else place node) there) ∙ was.later node number few
      ∙ sym (in_all node number few ∙ ap (λ test. is_in node (all_entries (map nest_view (drop number (take k nests)))) || test) there ∙ or_none (is_in node (all_entries (map nest_view (drop number (take k nests))))))

  last_one : (node number : ℕ) → number ≡ k + 1 → nat_lt number (grown node) ≡ is_in node (all_entries (map nest_view (drop number (take (k + 1) nests))))
  last_one node number past = not_below number (grown node) (let few = grown_within node (is_in node entries) refl in omega (arith, past, few))
      ∙ sym (ap (λ list. is_in node (all_entries (map nest_view list))) (drop_all number (take (k + 1) nests) (let e = length-take (k + 1) nests in omega (arith, e, past))))

  pub more_last : AreLast nests (k + 1) grown
  more_last = record {
    within = λ node. grown_within node (is_in node entries) refl;
    later = λ node number few. by_number node number (less_or_last number few);
  }
    where
      by_case : (number : ℕ) → number ≤ k + 1 → (number ≡ k + 1) ⊎ (number < k + 1) → (number ≤ k) ⊎ (number ≡ k + 1)
      by_case number few (inl last) = inr last
      by_case number few (inr before) = inl (omega (arith, before))

      less_or_last : (number : ℕ) → number ≤ k + 1 → (number ≤ k) ⊎ (number ≡ k + 1)
      less_or_last number few = by_case number few (eq-or-lt_of_le few)

      by_number : (node number : ℕ) → (number ≤ k) ⊎ (number ≡ k + 1) → nat_lt number (grown node) ≡ is_in node (all_entries (map nest_view (drop number (take (k + 1) nests))))
      by_number node number (inl few) = earlier node number (is_in node entries) refl few
      by_number node number (inr past) = last_one node number past

-- and behind all of them what comes behind the list
pub all_last : (nests : List Nest) (after : List ℕ) (place grown : ℕ → ℕ) (count : ℕ) → count ≡ length nests → ((node : ℕ) → grown node ≡ (if is_in node after then count + 1 else place node)) → AreLast nests count place →
    (node number : ℕ) → number ≤ length nests → nat_lt number (grown node) ≡ is_in node (all_entries (map nest_view (drop number nests)) ++ after)
all_last nests after place grown count all noted was node number few = by_test (is_in node after) refl
  where
    whole : take count nests ≡ nests
    whole = take_all count nests (omega (arith, all))

    by_test : (test : Bool) → is_in node after ≡ test → nat_lt number (grown node) ≡ is_in node (all_entries (map nest_view (drop number nests)) ++ after)
    by_test true there =
        ap (nat_lt number) (noted node ∙ ap (λ test. if test then count + 1 else place node) there) ∙ below_it number (count + 1) (omega (arith, few, all))
        ∙ sym (in_append node (all_entries (map nest_view (drop number nests))) after ∙ ap (λ test. is_in node (all_entries (map nest_view (drop number nests))) || test) there ∙ or_true (is_in node (all_entries (map nest_view (drop number nests)))))
    by_test false there =
        ap (nat_lt number) (noted node ∙ ap (λ test. if test then count + 1 else place node) there) ∙ was.later node number (omega (arith, few, all))
        ∙ ap (λ list. is_in node (all_entries (map nest_view (drop number list)))) whole
        ∙ sym (in_append node (all_entries (map nest_view (drop number nests))) after ∙ ap (λ test. is_in node (all_entries (map nest_view (drop number nests))) || test) there ∙ or_none (is_in node (all_entries (map nest_view (drop number nests)))))
