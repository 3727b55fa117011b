-- A mention that becomes that of a call.
use Rattle.std.proofs.Common.{◌≡◌, refl, ap, sym, ◌∙◌, ℕ, List, map, Some, option_map, slice_get, slice_set}
use Rattle.std.proofs.lemmas.List.{map-set}
use Rattle.std.proofs.lemmas.Option.{slice_get-map}
use Rattle.cx_core.specs.Trees.{CTy, CMention, calls}
use Rattle.cx_core.specs.Views.{view_type, view_mention}
use Rattle.cx_core.specs.declared.ty.Ty.{Ty}
use Rattle.cx_core.specs.declared.unit.Mention.{Mention}
use Rattle.cx_core.specs.declared.unit.Does.TheVariants as does
use Rattle.cx_rules.specs.Scope.{CScope, with_call}

called_at : (scope : CScope) (index : ℕ) (types : List CTy) (one : CMention) → slice_get scope.mentions index ≡ Some one
    → with_call index types scope ≡ record scope { mentions = slice_set scope.mentions index (record one { does = calls types }) }
called_at scope index types one found = rw found refl

pub called : (scope : CScope) (mentions : List Mention) (index : ℕ) (types : List Ty) (one : Mention)
    → scope.mentions ≡ map view_mention mentions → slice_get mentions index ≡ Some one
    → record scope { mentions = map view_mention (slice_set mentions index (record one { does = does.Calls types })) } ≡ with_call index (map view_type types) scope
called scope mentions index types one held found =
    sym (called_at scope index (map view_type types) (view_mention one)
    (ap (λ all. slice_get all index) held ∙ slice_get-map view_mention mentions index ∙ ap (option_map view_mention) found)
    ∙ ap (λ all. record scope { mentions = all })
    (ap (λ all. slice_set all index (record (view_mention one) { does = calls (map view_type types) })) held
    ∙ sym (map-set view_mention mentions index (record one { does = does.Calls types }))))
