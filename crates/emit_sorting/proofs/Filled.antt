-- Arms that are made one behind the other.
use Rattle.std.proofs.Common.{◌≡◌, ◌∙◌, ℕ, suc, ◌+◌, ◌<◌, List, [], ◌∷◌, ◌++◌, length, map, drop, get_or, refl, ap, sym, arith, append_assoc}
use Rattle.emit_nests.specs.Views.{chains, nest_view}
use Rattle.emit_rules.specs.Chains as ranking
use Rattle.emit_rules.specs.Nests.{Nest, Chain, more_chains, chain, listed}
use Rattle.emit_rules.specs.Sorting.{Inner, Sort, at_arm, arms_from, filled, all_filled, all_level, entries_behind, level}
use Rattle.emit_places.proofs.Later.{next_of}
use Rattle.emit_places.specs.Sorted.{inner_view, sibling_view}
use Rattle.emit_sorting.specs.Chained.{ranked_view}
use Rattle.emit_sorting.specs.declared.chaining.Ranked.{Ranked}
use Rattle.emit_places.specs.declared.placing.Sibling.{Sibling}
use Rattle.flow.specs.Flows.{FlowTree}

-- the first so many of arms are made
pub record ArmsMade (sort : Sort) (after : List ℕ) (inside : List Inner) (count arm : ℕ) (done : List Chain) : Type 0 where
  pub made : (left : ℕ) → arm + left ≡ count → (rest : List Chain) → chains rest ≡ arms_from sort after inside arm left → chains (done ++ rest) ≡ arms_from sort after inside 0 count

module _ (sort : Sort) (after : List ℕ) (inside : List Inner) (count : ℕ) where
  same_count : (left : ℕ) → 0 + left ≡ count → (rest : List Chain) → chains rest ≡ arms_from sort after inside 0 left → chains rest ≡ arms_from sort after inside 0 count
  same_count left is rest so = so ∙ ap (arms_from sort after inside 0) (let e : left ≡ count = omega (arith, is) in e)

  pub none_made : ArmsMade sort after inside count 0 []
  none_made = record { made = same_count }

  pub one_more : (arm : ℕ) (done grown : List Chain) (one : Chain) → grown ≡ done ++ one ∷ [] → one ≡ sort after (at_arm arm inside) → ArmsMade sort after inside count arm done → ArmsMade sort after inside count (arm + 1) grown
  one_more arm done grown one more is was = record {
    made = λ left so rest made.
        ap (λ list. chains (list ++ rest)) more ∙ ap chains (append_assoc done (one ∷ []) rest)
        ∙ was.made (suc left) (omega (arith, so)) (one ∷ rest) (step left rest made);
  }
    where
      step : (left : ℕ) (rest : List Chain) → chains rest ≡ arms_from sort after inside (arm + 1) left → more_chains one (chains rest) ≡ arms_from sort after inside arm (suc left)
      step left rest made = ap (λ first. more_chains first (chains rest)) is ∙ ap (more_chains (sort after (at_arm arm inside))) (made ∙ ap (λ number. arms_from sort after inside number left) (let e : arm + 1 ≡ suc arm = omega arith in e))

  pub all_made : (done : List Chain) → ArmsMade sort after inside count count done → chains done ≡ arms_from sort after inside 0 count
  all_made done was = ap chains (sym (append_none done)) ∙ was.made 0 (omega arith) [] refl
    where
      append_none : (list : List Chain) → list ++ [] ≡ list
      append_none [] = refl
      append_none (x ∷ list) = ap (λ rest. x ∷ rest) (append_none list)

pub listed_chain : (nests : List Nest) → listed (chain nests) ≡ nests
listed_chain [] = refl
listed_chain (nest ∷ nests) = ap (λ rest. nest ∷ rest) (listed_chain nests)

pub each_level : (flow : FlowTree) (nests : List Nest) → all_level flow (chain nests) ≡ map (level flow) nests
each_level flow [] = refl
each_level flow (nest ∷ nests) = ap (λ rest. level flow nest ∷ rest) (each_level flow nests)

pub map_append : {A B : Type 0} (f : A → B) (a b : List A) → map f (a ++ b) ≡ map f a ++ map f b
map_append f [] b = refl
map_append f (x ∷ a) b = ap (λ rest. f x ∷ rest) (map_append f a b)

-- ---- one sibling more

module _ (flow : FlowTree) (sort : Sort) (after : List ℕ) (siblings items : List Sibling) (k : ℕ) (sibling other : Sibling) (entries : List ℕ) (made grown : List Ranked) (one : Ranked) (whole : List ranking.Ranked) where
  pub filled_more : items ≡ siblings → sibling ≡ get_or items k other → k < length items → entries ≡ entries_behind after (map sibling_view (drop (k + 1) siblings)) → grown ≡ made ++ one ∷ [] →
      ranked_view one ≡ record { nest = filled flow sort entries (nest_view sibling.nest) (map inner_view sibling.inside); from = sibling.from } →
      map ranked_view made ++ all_filled flow sort after (map sibling_view (drop k siblings)) ≡ whole → map ranked_view grown ++ all_filled flow sort after (map sibling_view (drop (k + 1) siblings)) ≡ whole
  filled_more same is within behind more so was =
      ap (λ list. map ranked_view list ++ rest) more ∙ ap (λ list. list ++ rest) (map_append ranked_view made (one ∷ [])) ∙ append_assoc (map ranked_view made) (ranked_view one ∷ []) rest
      ∙ ap (λ first. map ranked_view made ++ first ∷ rest) (so ∙ ap (λ list. record { nest = filled flow sort list (nest_view sibling.nest) (map inner_view sibling.inside); from = sibling.from }) behind)
      ∙ ap (λ list. map ranked_view made ++ all_filled flow sort after (map sibling_view list)) (sym left) ∙ was
    where
      rest : List ranking.Ranked
      rest = all_filled flow sort after (map sibling_view (drop (k + 1) siblings))

      left : drop k siblings ≡ sibling ∷ drop (k + 1) siblings
      left = ap (drop k) (sym same) ∙ next_of items k other sibling is within ∙ ap (λ list. sibling ∷ drop (k + 1) list) same
