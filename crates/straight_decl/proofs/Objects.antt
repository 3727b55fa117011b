-- One more object of a list of parts.
use Rattle.std.proofs.Common.{◌≡◌, ℕ, ◌+◌, ◌<◌, List, [], ◌∷◌, ◌++◌, length, map, drop, get_or, Option, Some, None, option_map, refl, sym, ap, ◌∙◌}
use Rattle.std.proofs.lemmas.List.{append_assoc, at_drop_more}
use Rattle.straight_core.specs.Trees.{CObject}
use Rattle.straight_tree.specs.declared.unit.External.{External}
use Rattle.straight_tree.specs.Views.{external_view}
use Rattle.straight_decl.specs.CoreOf.{Scope, core_object, core_objects, with_object, scope_behind, behind}
use Rattle.straight_decl.specs.Given.{Declares}

-- the scope behind one more object
pub scope_behind_snoc : (scope : Scope) (objects : List CObject) (one : CObject) → scope_behind scope (objects ++ one ∷ []) ≡ with_object (scope_behind scope objects) one
scope_behind_snoc scope [] one = refl
scope_behind_snoc scope (first ∷ others) one = scope_behind_snoc (with_object scope first) others one

-- what follows, behind objects and one more
behind_one : (done : List CObject) (one : CObject) (rest : Option (List CObject)) → option_map (λ more. (done ++ one ∷ []) ++ more) rest ≡ option_map (λ more. done ++ more) (option_map (λ more. one ∷ more) rest)
behind_one done one None = refl
behind_one done one (Some more) = ap Some (append_assoc done (one ∷ []) more)

-- the objects of what is left, one step on
pub objects_step : (unit : ℕ) (scope after : Scope) (parts : List External) (index : ℕ) (part : External) (done more : List CObject) →
    index < length parts → part ≡ get_or parts index part → Declares (core_object unit scope (external_view part)) scope after done more →
    option_map (λ rest. more ++ rest) (core_objects unit after (map external_view (drop (index + 1) parts))) ≡ option_map (λ rest. done ++ rest) (core_objects unit scope (map external_view (drop index parts)))
objects_step unit scope after parts index part done more within e declares =
    let rest = core_objects unit after (map external_view (drop (index + 1) parts)) in
    let here : core_objects unit scope (map external_view (drop index parts)) ≡ option_map (λ tail. declares.one ∷ tail) rest =
    at_drop_more (λ list. core_objects unit scope (map external_view list)) parts index part within
    ∙ ap (λ one. core_objects unit scope (external_view one ∷ map external_view (drop (index + 1) parts))) (sym e)
    ∙ ap (λ object. behind object (λ one. core_objects unit (with_object scope one) (map external_view (drop (index + 1) parts)))) declares.is
    ∙ ap (λ s. option_map (λ tail. declares.one ∷ tail) (core_objects unit s (map external_view (drop (index + 1) parts)))) (sym declares.scope) in
    ap (λ list. option_map (λ tail. list ++ tail) rest) declares.objects_are ∙ behind_one done declares.one rest ∙ ap (option_map (λ tail. done ++ tail)) (sym here)
