-- What is stored in the objects of a unit, where one more is declared (ISO C99, 6.7).
use Rattle.std.proofs.Common.{◌≡◌, ◌⊎◌, inl, inr, ℕ, ◌==◌, Bool, true, false, not, ◌&&◌, ◌||◌, if◌then◌else◌, List, [], ◌∷◌, ◌++◌, map, Option, None, Some, is_some, slice_get, refl, sym, ap, ◌∙◌, subst}
use Rattle.std.specs.Prelude.{IfSome}
use Rattle.cx_core.specs.declared.program.Linkage.TheVariants.{Nothing}
use Rattle.cx_core.specs.Linked.{home_of, IsStatic}
use Rattle.cx_core.specs.Trees.{CTy, CPuts, no_puts, CObject}
use Rattle.cx_core.specs.Typing.{CHome}
use Rattle.cx_lex.specs.declared.token.Keyword.TheVariants as keyword
use Rattle.cx_rules.specs.Declare.{is_linked, is_outside, is_typedef, thing_named, CDeclaring, with_declaration}
use Rattle.cx_rules.specs.Scope.{CThing, CScope}
use Rattle.cx_rules.specs.Shapes.{has_storage}
use Rattle.cx_rules.specs.Types.{is_function, composite}
use Rattle.cx_typed.proofs.Same.{number_is}
use Rattle.cx_typed_units.proofs.Entities.{new_object, retyped, linked_object, linked_function}
use Rattle.cx_typed_units.proofs.Fine.{tentative_at, static_puts, entity_by, told_by, declared_by, declaration_is}
use Rattle.cx_typed_units.proofs.Steps.{got_behind, got_mapped}
use Rattle.cx_typed_units.specs.Account.{account_of, IsAccounted}
use Rattle.cx_typed_units.specs.Stretches.{IsFilled}

same_value : {X : Type 0} {x y : X} → Some x ≡ Some y → x ≡ y
same_value is = cc

-- ---- what is stored in objects

abbrev pub AreFilled : CHome → List CObject → Type 0
AreFilled home objects = (index : ℕ) (x : CObject) → slice_get objects index ≡ Some x → IfSome x.puts (IsFilled home x)

-- as a declaration changes an object
abbrev retyped_at : Bool → CTy → ℕ → CObject → CObject
retyped_at is_defined type number one = if one.object == number then retyped is_defined type one else one

new_filled : (home : CHome) (objects : List CObject) (new : CObject) → IfSome new.puts (IsFilled home new) → AreFilled home objects → AreFilled home (objects ++ new ∷ [])
new_filled home objects new filled held index x is = by_case (got_behind objects new index x is)
  where
    by_case : (slice_get objects index ≡ Some x) ⊎ (new ≡ x) → IfSome x.puts (IsFilled home x)
    by_case (inl at) = held index x at
    by_case (inr same) = subst (λ (y : CObject). IfSome y.puts (IsFilled home y)) same filled

-- an object with linkage is filled as it was: nothing is stored in one that nothing defines
refilled : (home : CHome) (is_defined : Bool) (type : CTy) (x : CObject) (same : Bool) → (same ≡ true → is_some x.puts ≡ true → is_defined ≡ true) → IfSome x.puts (IsFilled home x)
    → IfSome (if same then retyped is_defined type x else x).puts (IsFilled home (if same then retyped is_defined type x else x))
refilled home is_defined type x false defined held = held
refilled home true type x true defined held = held
refilled home false type x true defined held = none_stored (IsFilled home x) (IsFilled home (retyped false type x)) x.puts (λ is. let h : false ≡ true = defined refl is in cc) held
  where
    none_stored : (P Q : CPuts → Type 0) (puts : Option CPuts) → (is_some puts ≡ true → ⊥) → IfSome puts P → IfSome puts Q
    none_stored P Q None none held = tt
    none_stored P Q (Some one) none held = absurd (none refl)

module _ (home : CHome) (opens : List ℕ) (pending : Option (List ℕ)) (scope : CScope) (account : IsAccounted opens pending (account_of scope)) (one : CDeclaring)
    (own_static : is_typedef one.specs ≡ false → is_function one.type ≡ false → is_linked one.linkage ≡ false → IsStatic (home_of home.program home.mentions home.unit) one.type no_puts)
    (held : AreFilled home scope.objects) where
  function_filled : (found : Option CThing) → AreFilled home (linked_function one.name one.type one.linkage false found scope).objects
  function_filled None = held
  function_filled (Some old) = held

  -- what is declared once more is the object of the name, since another object has another number
  again_filled : (old : CThing) → thing_named one.name scope.things ≡ Some old → old.is_function ≡ false → (type : CTy) → AreFilled home (map (retyped_at old.is_defined type old.number) scope.objects)
  again_filled old there object type index x is =
      let before = got_mapped (retyped_at old.is_defined type old.number) scope.objects index x is in
      subst (λ (y : CObject). IfSome y.puts (IsFilled home y)) before.2
      (refilled home old.is_defined type before.0 (before.0.object == old.number) (λ same stored. defined_there before.0 before.1 same stored) (held index before.0 before.1))
    where
      defined_there : (x : CObject) → slice_get scope.objects index ≡ Some x → (x.object == old.number) ≡ true → is_some x.puts ≡ true → old.is_defined ≡ true
      defined_there x at same stored =
          let was = account.object_things one.name old there object in
          let here : was.index ≡ index = account.objects_differ was.index index was.one x was.at at (was.number_is ∙ sym (number_is x.object old.number same)) in
          was.defined (ap (λ (y : CObject). is_some y.puts) (same_value (sym was.at ∙ (ap (slice_get scope.objects) here ∙ at))) ∙ stored)

  object_filled : (has_init : Bool) (line : Option ℕ) (found : Option CThing) → thing_named one.name scope.things ≡ found → ((old : CThing) → found ≡ Some old → old.is_function ≡ false)
      → AreFilled home (linked_object one.name one.type one.linkage has_init line found scope).objects
  object_filled has_init line None there object = new_filled home scope.objects (new_object scope one.name one.type one.linkage None) tt held
  object_filled has_init line (Some old) there object = again_filled old there (object old refl) (composite one.type old.type)

  own_filled : (static : Bool) → IsStatic (home_of home.program home.mentions home.unit) one.type no_puts → AreFilled home (scope.objects ++ new_object scope one.name one.type Nothing (static_puts static) ∷ [])
  own_filled true typed = new_filled home scope.objects (new_object scope one.name one.type Nothing (static_puts true)) typed held
  own_filled false typed = new_filled home scope.objects (new_object scope one.name one.type Nothing (static_puts false)) tt held

  entity_filled : (typedef is_fun linked : Bool) → is_typedef one.specs ≡ typedef → is_function one.type ≡ is_fun → is_linked one.linkage ≡ linked
      → (typedef ≡ false → is_fun ≡ false → linked ≡ true → (old : CThing) → thing_named one.name scope.things ≡ Some old → old.is_function ≡ false) → AreFilled home (entity_by typedef is_fun linked one scope).objects
  entity_filled true is_fun linked t f l object = held
  entity_filled false true linked t f l object = function_filled (thing_named one.name scope.things)
  entity_filled false false true t f l object =
      object_filled one.has_init (tentative_at (is_outside one.where_stands && not (one.has_init || has_storage keyword.Extern one.specs)) one.line) (thing_named one.name scope.things) refl
      (object refl refl refl)
  entity_filled false false false t f l object = own_filled (has_storage keyword.Static one.specs) (own_static t f l)

  told_same : (typedef is_fun linked told : Bool) → (declared_by typedef is_fun linked told one scope).objects ≡ (entity_by typedef is_fun linked one scope).objects
  told_same typedef is_fun linked true = refl
  told_same typedef is_fun linked false = refl

  module _ (objects_go : is_typedef one.specs ≡ false → is_function one.type ≡ false → is_linked one.linkage ≡ true → (old : CThing) → thing_named one.name scope.things ≡ Some old → old.is_function ≡ false) where
    pub declared_filled : AreFilled home (with_declaration one scope).objects
    declared_filled =
        subst (λ (later : CScope). AreFilled home later.objects) (sym (declaration_is one scope))
        (subst (AreFilled home) (sym (told_same (is_typedef one.specs) (is_function one.type) (is_linked one.linkage) (told_by one)))
        (entity_filled (is_typedef one.specs) (is_function one.type) (is_linked one.linkage) refl refl refl objects_go))
