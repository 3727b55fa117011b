-- One element of a list that changes, as the scope sees it.
use Rattle.std.proofs.Common.{◌≡◌, refl, sym, ap, ◌∙◌, ℕ, ◌==◌, Bool, true, false, if◌then◌else◌, List, [], ◌∷◌, map, Option, Some, option_map, slice_get, slice_set}
use Rattle.std.proofs.lemmas.List.{map-set}
use Rattle.std.proofs.lemmas.Option.{slice_get-map}
use Rattle.cx_contents.specs.Contents as contents
use Rattle.cx_contents.specs.Contents.{same_thing, thing_completed}
use Rattle.cx_core.specs.Trees.{CTy, CPuts, CMention, CObject}
use Rattle.cx_core.specs.Views.{view_mention}
use Rattle.cx_core.specs.declared.unit.Mention.{Mention}
use Rattle.cx_rules.specs.Declare.{thing_named}
use Rattle.cx_rules.specs.Scope.{CScope, CThing, with_told_type}
use Rattle.cx_scope.specs.Objects.{with_content}
use Rattle.cx_scope.specs.Places.{named, changed_by}

told_at : (scope : CScope) (index : ℕ) (type : CTy) (one : CMention) → slice_get scope.mentions index ≡ Some one
    → with_told_type index type scope ≡ record scope { mentions = slice_set scope.mentions index (record one { type = type }) }
told_at scope index type one found = rw found refl

pub retold : (scope : CScope) (mentions : List Mention) (index : ℕ) (type : CTy) (one now : Mention)
    → scope.mentions ≡ map view_mention mentions → slice_get mentions index ≡ Some one → view_mention now ≡ record (view_mention one) { type = type }
    → record scope { mentions = map view_mention (slice_set mentions index now) } ≡ with_told_type index type scope
retold scope mentions index type one now held found is =
    sym (told_at scope index type (view_mention one)
    (ap (λ all. slice_get all index) held ∙ slice_get-map view_mention mentions index ∙ ap (option_map view_mention) found)
    ∙ ap (λ all. record scope { mentions = all })
    (ap (λ all. slice_set all index (record (view_mention one) { type = type })) held
    ∙ ap (slice_set (map view_mention mentions) index) (sym is)
    ∙ sym (map-set view_mention mentions index now)))

pub thing_done : (scope : CScope) (name : List ℕ) (type : CTy) (before made : CThing) (things : List CThing)
    → thing_named name scope.things ≡ Some before → made ≡ thing_completed type before → things ≡ changed_by (named name) (λ _. made) scope.things
    → record scope { things = things } ≡ contents.completed_thing name type (thing_named name scope.things) scope
thing_done scope name type before made things there is set =
    ap (λ all. record scope { things = all }) (set ∙ ap (λ new. map (same_thing name new) scope.things) is)
    ∙ ap (λ found. contents.completed_thing name type found scope) (sym there)

told_stored : (is_static : Bool) (type : CTy) (puts : CPuts) (one : CObject) → with_content type (contents.told_puts is_static puts) one ≡ contents.stored_in is_static type puts one
told_stored true type puts one = refl
told_stored false type puts one = refl

all_stored : (number : ℕ) (is_static : Bool) (type : CTy) (puts : CPuts) (objects : List CObject)
    → map (λ one. if one.object == number then with_content type (contents.told_puts is_static puts) one else one) objects ≡ contents.stored_at (Some number) is_static type puts objects
all_stored number is_static type puts [] = refl
all_stored number is_static type puts (one ∷ others) =
    ap (λ new. (if one.object == number then new else one) ∷ map (λ one. if one.object == number then with_content type (contents.told_puts is_static puts) one else one) others)
    (told_stored is_static type puts one)
    ∙ ap (λ rest. (if one.object == number then contents.stored_in is_static type puts one else one) ∷ rest) (all_stored number is_static type puts others)

pub stored_done : (scope : CScope) (number : Option ℕ) (n : ℕ) (is_static : Bool) (own type : CTy) (told : Option CPuts) (puts : CPuts) (objects : List CObject) → number ≡ Some n
    → own ≡ type → told ≡ contents.told_puts is_static puts → objects ≡ map (λ one. if one.object == n then with_content own told one else one) scope.objects
    → record scope { objects = objects } ≡ contents.with_stored is_static type puts number scope
stored_done scope number n is_static own type told puts objects e same are set =
    ap (λ all. record scope { objects = all })
    (set ∙ ap (λ t. map (λ one. if one.object == n then with_content t told one else one) scope.objects) same
    ∙ ap (λ p. map (λ one. if one.object == n then with_content type p one else one) scope.objects) are
    ∙ all_stored n is_static type puts scope.objects)
    ∙ ap (λ found. contents.with_stored is_static type puts found scope) (sym e)
