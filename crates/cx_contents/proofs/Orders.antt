-- What is done one after another is the whole.
use Rattle.std.proofs.Common.{◌≡◌, refl, ap, ◌∙◌, ℕ, Bool, true, Option, None, Some}
use Rattle.cx_contents.specs.Contents as contents
use Rattle.cx_contents.specs.Contents.{CContent}
use Rattle.cx_core.specs.Trees.{CTy, CPuts, CMention}
use Rattle.cx_entities.specs.Entities as entities
use Rattle.cx_rules.specs.Declare.{CDeclaring, linked_thing}
use Rattle.cx_rules.specs.Scope.{CMeant, a_function, CScope, with_declared, with_mention}

things_stay : (number : Option ℕ) (is_static : Bool) (type : CTy) (puts : CPuts) (scope : CScope) → (contents.with_stored is_static type puts number scope).things ≡ scope.things
things_stay None is_static type puts scope = refl
things_stay (Some number) is_static type puts scope = refl

pub completed_is : (one : CContent) (type whole : CTy) (puts : CPuts) (old first second third : CScope)
    → first ≡ contents.with_redeclared one.name type old → second ≡ contents.with_stored one.is_static type puts one.object first
    → third ≡ contents.with_thing_completed one.linkage one.name whole second
    → contents.completed_mention one.mention type third ≡ contents.with_content_as one type whole puts old
completed_is one type whole puts old first second third a b c =
    let before : second.things ≡ old.things = ap (λ scope. scope.things) b ∙ things_stay one.object one.is_static type puts first ∙ ap (λ scope. scope.things) a in
    ap (contents.completed_mention one.mention type)
    (c ∙ ap (λ things. contents.completed_thing one.name whole (linked_thing one.linkage one.name things) second) before
    ∙ ap (contents.completed_thing one.name whole (linked_thing one.linkage one.name old.things)) (b ∙ ap (contents.with_stored one.is_static type puts one.object) a))
