-- One nest more of a list that is gone through.
use Rattle.std.proofs.Common.{◌≡◌, ◌∙◌, ℕ, zero, suc, ◌+◌, ◌<◌, Bool, true, false, List, [], ◌∷◌, ◌++◌, length, get_or, drop, map, refl, ap, sym, arith, if◌then◌else◌}
use Rattle.std.specs.Prelude.{Some, Result, Ok, Err, OnOk, slice_get, slice_set}
use Rattle.emit_nests.specs.Views.{nest_view}
use Rattle.emit_nests.specs.declared.nests.Nest as made
use Rattle.emit_rules.specs.Nests.{Nest}
use Rattle.emit_rules.specs.Places.{Leaving, leavings}
use Rattle.emit_rules.specs.Sorting.{Inner, Sorted, Sibling, all_entries, count_to, put, put_all, with_inner}
use Rattle.emit_places.proofs.Later.{next_of}
use Rattle.emit_places.specs.Ahead.{count_if}
use Rattle.emit_places.specs.Sorted.{inner_view, put_with, sibling_view}
use Rattle.emit_places.specs.declared.placing.Sibling as made_placing
use Rattle.flow.specs.Flows.{FlowTree}
use Rattle.reloop.specs.Graphs.{is_in}

pub same_count : (test : ℕ → Bool) (left : List ℕ) (ways : List Leaving) → ((node : ℕ) → test node ≡ is_in node left) → count_if test ways ≡ count_to left ways
same_count test left [] same = refl
same_count test left (way ∷ ways) same = ap (λ one. if one then suc (count_if test ways) else count_if test ways) (same way.to) ∙ ap (λ count. if is_in way.to left then suc count else count) (same_count test left ways same)

put_is : (flow : FlowTree) (may : Bool) (left : List ℕ) (sorted : Sorted) (nest : Nest) → put flow may left sorted nest ≡ put_with flow may (count_to left (leavings flow nest)) sorted nest
put_is flow may left sorted nest = refl

module _ (flow : FlowTree) (may : Bool) (after : List ℕ) (sorted grown : Sorted) (nests items : List made.Nest) (k : ℕ) (nest : made.Nest) (test : ℕ → Bool) (ways : List Leaving) (more : ℕ) (whole : List Sibling) where
  pub put_more : items ≡ nests → nest ≡ get_or items k nest → k < length items → ((node : ℕ) → test node ≡ is_in node (all_entries (map nest_view (drop (k + 1) nests)) ++ after)) → ways ≡ leavings flow (nest_view nest) →
      more ≡ count_if test ways → grown ≡ put_with flow may more sorted (nest_view nest) → put_all flow may after sorted (map nest_view (drop k nests)) ≡ whole → put_all flow may after grown (map nest_view (drop (k + 1) nests)) ≡ whole
  put_more same is within tests out counted so was =
      ap (λ state. put_all flow may after state others) (so ∙ ap (λ count. put_with flow may count sorted (nest_view nest)) (counted ∙ same_count test left_nodes ways tests ∙ ap (count_to left_nodes) out) ∙ sym (put_is flow may left_nodes sorted (nest_view nest)))
      ∙ ap (λ list. put_all flow may after sorted (map nest_view list)) (sym left) ∙ was
    where
      others : List Nest
      others = map nest_view (drop (k + 1) nests)

      left_nodes : List ℕ
      left_nodes = all_entries (map nest_view (drop (k + 1) nests)) ++ after

      left : drop k nests ≡ nest ∷ drop (k + 1) nests
      left = ap (drop k) (sym same) ∙ next_of items k nest nest is within ∙ ap (λ list. nest ∷ drop (k + 1) list) same

-- ---- what goes into an arm of a sibling

inner_set_at : (siblings : List made_placing.Sibling) (number : ℕ) (old new : made_placing.Sibling) (inner : Inner) → slice_get siblings number ≡ Some old → sibling_view new ≡ record (sibling_view old) { inside = map inner_view old.inside ++ inner ∷ [] } →
    map sibling_view (slice_set siblings number new) ≡ with_inner number inner (map sibling_view siblings)
inner_set_at [] number old new inner found is = absurd cc
inner_set_at (sibling ∷ siblings) zero old new inner found is =
    ap (λ first. first ∷ map sibling_view siblings) (is ∙ ap (λ (one : made_placing.Sibling). record (sibling_view one) { inside = map inner_view one.inside ++ inner ∷ [] }) (let same : sibling ≡ old = cc in sym same))
inner_set_at (sibling ∷ siblings) (suc number) old new inner found is = ap (λ others. sibling_view sibling ∷ others) (inner_set_at siblings number old new inner found is)

pub inner_set : {T E : Type 0} (result : Result T E) (siblings : List made_placing.Sibling) (number : ℕ) (old new : made_placing.Sibling) (inner : Inner) → slice_get siblings number ≡ Some old →
    OnOk result (sibling_view new ≡ record (sibling_view old) { inside = map inner_view old.inside ++ inner ∷ [] }) → OnOk result (map sibling_view (slice_set siblings number new) ≡ with_inner number inner (map sibling_view siblings))
inner_set (Ok x) siblings number old new inner found is = inner_set_at siblings number old new inner found is
inner_set (Err x) siblings number old new inner found is = tt

pub inner_out : (siblings : List made_placing.Sibling) (number : ℕ) (inner : Inner) → (number < length siblings → false ≡ true) → map sibling_view siblings ≡ with_inner number inner (map sibling_view siblings)
inner_out [] number inner out = refl
inner_out (sibling ∷ siblings) zero inner out = absurd (let no : false ≡ true = out (omega arith) in cc)
inner_out (sibling ∷ siblings) (suc number) inner out = ap (λ others. sibling_view sibling ∷ others) (inner_out siblings number inner (λ below. out (omega (arith, below))))
