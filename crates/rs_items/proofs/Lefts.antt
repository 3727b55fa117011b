-- What is left of a walk over the members of a union.
use Rattle.std.proofs.Common.{◌≡◌, ℕ, ◌+◌, ◌<◌, List, ◌∷◌, drop, get_or, length, map, sym, ap, ◌∙◌}
use Rattle.std.proofs.lemmas.List.{at_drop_more}
use Rattle.cr_base.specs.declared.layout.Spot.{Spot}
use Rattle.cx_core.specs.Views.{view_member}
use Rattle.cx_core.specs.declared.ty.Member.{Member}
use Rattle.rs_items.specs.Known.{Knows}
use Rattle.rs_items.specs.Records.{FieldsWalk, placed_member, placed_members, union_step, union_walk}

-- one member more is walked, and one less is left
pub union_left : (known : Knows) (walk new : FieldsWalk) (members : List Member) (index : ℕ) (one : Member) (spots others : List Spot) (spot : Spot) → index < length members → one ≡ get_or members index one
    → spots ≡ spot ∷ others → new ≡ union_step walk (placed_member known (view_member one) spot)
    → union_walk new (placed_members known (map view_member (drop (index + 1) members)) others) ≡ union_walk walk (placed_members known (map view_member (drop index members)) spots)
union_left known walk new members index one spots others spot low at split is =
    ap (λ (step : FieldsWalk). union_walk step (placed_members known (map view_member (drop (index + 1) members)) others))
    (is ∙ ap (λ (member : Member). union_step walk (placed_member known (view_member member) spot)) at)
    ∙ sym (at_drop_more (λ (left : List Member). union_walk walk (placed_members known (map view_member left) (spot ∷ others))) members index one low)
    ∙ ap (λ (places : List Spot). union_walk walk (placed_members known (map view_member (drop index members)) places)) (sym split)
