-- What is declared once more, and what a declaration does in its order.
use Rattle.std.proofs.Common.{◌≡◌, sym, ap, ◌∙◌, ℕ, Bool, true, false, if◌then◌else◌, List, None, Some}
use Rattle.cx_core.specs.Trees.{CObject}
use Rattle.cx_entities.specs.Entities as entities
use Rattle.cx_entities.specs.Entities.{numbered}
use Rattle.cx_rules.specs.Declare.{CDeclaring, declared_again, thing_named, with_declaration, with_linked_function, with_linked_object}
use Rattle.cx_rules.specs.Scope.{CMeant, CScope, CThing, with_declared}
use Rattle.cx_rules.specs.Types.{composite}
use Rattle.cx_scope.specs.Places.{named, changed_by}

pub function_again : (scope : CScope) (one : CDeclaring) (has_body : Bool) (before again : CThing) (things : List CThing)
    → thing_named one.name scope.things ≡ Some before → again ≡ declared_again one.type has_body None before
    → things ≡ changed_by (named one.name) (λ _. again) scope.things
    → record scope { things = things } ≡ entities.with_function_declared one has_body scope
function_again scope one has_body before again things there made set =
    ap (λ all. record scope { things = all }) (set ∙ ap (λ new. changed_by (named one.name) (λ _. new) scope.things) made)
    ∙ ap (λ found. with_linked_function one.name one.type one.linkage has_body found scope) (sym there)

abbrev again_in : CScope → CDeclaring → CThing → List CThing
again_in scope one before = changed_by (named one.name) (λ _. declared_again one.type one.has_init (entities.tentative_of one) before) scope.things

abbrev retyped_in : CScope → CDeclaring → CThing → CScope
retyped_in scope one before = record scope {
  things = again_in scope one before;
  objects = changed_by (numbered before.number) (entities.retyped (composite one.type before.type)) scope.objects;
}

-- an object that an initialiser defines keeps its type
pub object_kept : (scope : CScope) (one : CDeclaring) (before again : CThing) (things : List CThing)
    → thing_named one.name scope.things ≡ Some before → again ≡ declared_again one.type one.has_init (entities.tentative_of one) before
    → things ≡ changed_by (named one.name) (λ _. again) scope.things → before.is_defined ≡ true
    → record scope { things = things } ≡ entities.with_object_declared one scope
object_kept scope one before again things there made set defined =
    ap (λ all. record scope { things = all }) (set ∙ ap (λ new. changed_by (named one.name) (λ _. new) scope.things) made)
    ∙ ap (λ is_defined. if is_defined then record scope { things = again_in scope one before } else retyped_in scope one before) (sym defined)
    ∙ ap (λ found. with_linked_object one.name one.type one.linkage one.has_init (entities.tentative_of one) found scope) (sym there)

pub object_again : (scope : CScope) (one : CDeclaring) (before again : CThing) (things : List CThing) (objects : List CObject)
    → thing_named one.name scope.things ≡ Some before → again ≡ declared_again one.type one.has_init (entities.tentative_of one) before
    → things ≡ changed_by (named one.name) (λ _. again) scope.things
    → objects ≡ changed_by (numbered before.number) (entities.retyped again.type) scope.objects → before.is_defined ≡ false
    → record scope { things = things; objects = objects } ≡ entities.with_object_declared one scope
object_again scope one before again things objects there made set retyped undefined =
    ap (λ all. record scope { things = all; objects = objects }) (set ∙ ap (λ new. changed_by (named one.name) (λ _. new) scope.things) made)
    ∙ ap (λ all. record scope { things = again_in scope one before; objects = all })
    (retyped ∙ ap (λ new. changed_by (numbered before.number) (entities.retyped new.type) scope.objects) made)
    ∙ ap (λ is_defined. if is_defined then record scope { things = again_in scope one before } else retyped_in scope one before) (sym undefined)
    ∙ ap (λ found. with_linked_object one.name one.type one.linkage one.has_init (entities.tentative_of one) found scope) (sym there)

-- the entity, then the mention, then the name
pub declared_is : (one : CDeclaring) (old mid later : CScope) (object function : ℕ) (meant : CMeant)
    → object ≡ entities.object_number old one → function ≡ entities.function_number old one
    → mid ≡ entities.with_entity one old → later ≡ entities.with_told one mid → meant ≡ entities.meant_as one object function
    → with_declared one.name meant later ≡ with_declaration one old
unfolding with_declaration
declared_is one old mid later object function meant o f m l made =
    ap (λ all. with_declared one.name all later) (made ∙ ap (λ n. entities.meant_as one n function) o ∙ ap (λ n. entities.meant_as one (entities.object_number old one) n) f)
    ∙ ap (with_declared one.name (entities.meant_as one (entities.object_number old one) (entities.function_number old one)))
    (l ∙ ap (entities.with_told one) m)
