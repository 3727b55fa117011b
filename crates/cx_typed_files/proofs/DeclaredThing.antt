-- The name with linkage that a declarator declares, and its mention (ISO C99, 6.2.2).
use Rattle.std.proofs.Common.{◌≡◌, ℕ, Bool, true, false, not, ◌&&◌, ◌||◌, if◌then◌else◌, [], ◌∷◌, ◌++◌, Option, None, Some, bytes_eq, refl, sym, ap, ◌∙◌}
use Rattle.std.proofs.lemmas.Slice.Eq.{bytes_eq-Decides}
use Rattle.cx_core.specs.declared.program.Linkage.TheVariants.{External}
use Rattle.cx_core.specs.Trees.{CMention, CDoes}
use Rattle.cx_lex.specs.declared.token.Keyword.TheVariants as keyword
use Rattle.cx_rules.specs.Declare.{is_linked, is_outside, is_typedef, thing_named, CDeclaring, with_declaration}
use Rattle.cx_rules.specs.Scope.{CThing, CScope}
use Rattle.cx_rules.specs.Shapes.{has_storage}
use Rattle.cx_rules.specs.Types.{is_function}
use Rattle.cx_typed_units.proofs.Entities.{declared_again, new_thing, linked_object}
use Rattle.cx_typed_units.proofs.Fine.{tentative_at, does_by, is_external, mention_by, entity_by, told_by, declared_by, declaration_is}
use Rattle.cx_typed_units.proofs.Named.{found_last, found_set, has_name}

module _ (scope : CScope) (one : CDeclaring) (typedef : is_typedef one.specs ≡ false) (object : is_function one.type ≡ false) (linked : is_linked one.linkage ≡ true) where
  abbrev line_is : Option ℕ
  line_is = tentative_at (is_outside one.where_stands && not (one.has_init || has_storage keyword.Extern one.specs)) one.line

  abbrev entity : CScope
  entity = linked_object one.name one.type one.linkage one.has_init line_is (thing_named one.name scope.things) scope

  entity_is : entity_by (is_typedef one.specs) (is_function one.type) (is_linked one.linkage) one scope ≡ entity
  entity_is =
      ap (λ b. entity_by b (is_function one.type) (is_linked one.linkage) one scope) typedef
      ∙ (ap (λ b. entity_by false b (is_linked one.linkage) one scope) object ∙ ap (λ b. entity_by false false b one scope) linked)

  same_things : (typedef is_fun linked told : Bool) → (declared_by typedef is_fun linked told one scope).things ≡ (entity_by typedef is_fun linked one scope).things
  same_things typedef is_fun linked true = refl
  same_things typedef is_fun linked false = refl

  things_are : (with_declaration one scope).things ≡ entity.things
  things_are =
      ap (λ (later : CScope). later.things) (declaration_is one scope)
      ∙ (same_things (is_typedef one.specs) (is_function one.type) (is_linked one.linkage) (told_by one) ∙ ap (λ (later : CScope). later.things) entity_is)

  -- ---- the thing

  itself : bytes_eq one.name one.name ≡ true
  itself = (bytes_eq-Decides one.name one.name).1 refl

  or_first : (a b : Bool) → a ≡ true → (a || b) ≡ true
  or_first true b is = refl
  or_first false b is = absurd cc

  thing_by : one.has_init ≡ true → (found : Option CThing) → thing_named one.name scope.things ≡ found
      → (thing : CThing) × (thing_named one.name (linked_object one.name one.type one.linkage one.has_init line_is found scope).things ≡ Some thing) × (thing.is_defined ≡ true)
  thing_by has_init None there = (
    new_thing one.name one.linkage false scope.next_object one.type one.has_init line_is,
    found_last one.name scope.things (new_thing one.name one.linkage false scope.next_object one.type one.has_init line_is) there itself,
    has_init,
  )
  thing_by has_init (Some old) there =
      let again = declared_again one.type one.has_init line_is old in
      let old_name = has_name one.name scope.things old there in (
        again,
        found_set one.name one.name again scope.things old (ap (λ n. bytes_eq n one.name) old_name) there ∙ ap (λ b. Some (if b then again else old)) (ap (λ n. bytes_eq n one.name) old_name ∙ itself),
        or_first one.has_init old.is_defined has_init,
      )

  pub thing_defined : one.has_init ≡ true → (thing : CThing) → thing_named one.name (with_declaration one scope).things ≡ Some thing → thing.is_defined ≡ true
  thing_defined has_init thing there =
      let found = thing_by has_init (thing_named one.name scope.things) refl in
      let same : Some found.0 ≡ Some thing = sym found.1 ∙ (ap (thing_named one.name) (sym things_are) ∙ there) in
      let is : found.0 ≡ thing = cc in
      ap (λ (x : CThing). x.is_defined) (sym is) ∙ found.2

  -- ---- its mention

  entity_mentions : (found : Option CThing) → (linked_object one.name one.type one.linkage one.has_init line_is found scope).mentions ≡ scope.mentions
  entity_mentions None = refl
  entity_mentions (Some old) = refl

  abbrev told_does : CDoes
  told_does = does_by (not (is_function one.type) && (is_outside one.where_stands && (one.has_init || not (has_storage keyword.Extern one.specs))))

  pub record IsTold : Type 0 where
    pub mention : CMention
    pub mentions_are : (with_declaration one scope).mentions ≡ scope.mentions ++ mention ∷ []
    pub name_is : mention.name ≡ one.name
    pub linkage_is : mention.linkage ≡ one.linkage
    pub does_is : mention.does ≡ told_does

  told_mentions : (typedef is_fun linked : Bool) → (declared_by typedef is_fun linked true one scope).mentions
      ≡ (entity_by typedef is_fun linked one scope).mentions ++ mention_by one (entity_by typedef is_fun linked one scope) ∷ []
  told_mentions typedef is_fun linked = refl

  external_told : one.linkage ≡ External → told_by one ≡ true
  external_told external =
      ap (λ b. not b && (is_external one.linkage || (is_function one.type && is_linked one.linkage))) typedef
      ∙ ap (λ l. is_external l || (is_function one.type && is_linked l)) external

  pub is_told : one.linkage ≡ External → IsTold
  is_told external = record {
    mention = mention_by one (entity_by (is_typedef one.specs) (is_function one.type) (is_linked one.linkage) one scope);
    mentions_are =
        ap (λ (later : CScope). later.mentions) (declaration_is one scope)
        ∙ (ap (λ b. (declared_by (is_typedef one.specs) (is_function one.type) (is_linked one.linkage) b one scope).mentions) (external_told external)
        ∙ (told_mentions (is_typedef one.specs) (is_function one.type) (is_linked one.linkage)
        ∙ ap (λ mentions. mentions ++ mention_by one (entity_by (is_typedef one.specs) (is_function one.type) (is_linked one.linkage) one scope) ∷ [])
        (ap (λ (later : CScope). later.mentions) entity_is ∙ entity_mentions (thing_named one.name scope.things))));
    name_is = refl;
    linkage_is = refl;
    does_is = refl;
  }
