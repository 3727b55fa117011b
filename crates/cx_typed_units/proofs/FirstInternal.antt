-- The first declaration of an object with internal linkage defines it (ISO C99, 6.2.2p3 to p5, 6.9.2p2).
use Rattle.std.proofs.Common.{◌≡◌, ℕ, suc, nat_lt, Bool, true, false, ◌&&◌, ◌||◌, if◌then◌else◌, List, [], ◌∷◌, length, Option, None, Some, refl, sym, ap, ◌∙◌, arith}
use Rattle.std.proofs.lemmas.Bool.Decides.{nat_tests}
use Rattle.std.specs.Prelude.{IsSome, IfSome}
use Rattle.std.specs.List.{list_any}
use denote.Enum.Bare.{same_true}
use Rattle.cx_core.specs.declared.program.Linkage.{Linkage}
use Rattle.cx_core.specs.declared.program.Linkage.TheVariants.{External, Internal, Nothing}
use Rattle.cx_core.specs.Trees.{CTy}
use Rattle.cx_lex.specs.contracts.token.Keyword.{the_type}
use Rattle.cx_lex.specs.declared.token.Keyword.{Keyword}
use Rattle.cx_lex.specs.declared.token.Keyword.TheVariants as keyword
use Rattle.cx_rules.specs.declared.kinds.SpecsPlace.{SpecsPlace}
use Rattle.cx_rules.specs.Declare.{is_outside, is_typedef, linkage_of, thing_named}
use Rattle.cx_rules.specs.Scope.{CMeant, an_object, a_function, a_type_name, an_enumerator, a_tag, CThing, CScope, ordinary}
use Rattle.cx_rules.specs.Shapes.{same_key, CSpecs, has_storage}
use Rattle.cx_rules.specs.Types.{is_function}
use Rattle.cx_typed_units.specs.Stretches.{IsOrderly}

-- ---- one storage class at most

key_is : (one other : Keyword) → same_key one other ≡ true → one ≡ other
unfolding same_key
key_is one other is = same_true the_type tt one other is

keys_differ : (found : Bool) → same_key keyword.Extern keyword.Static ≡ found → found ≡ false
keys_differ true e = absurd (let h : keyword.Extern ≡ keyword.Static = key_is keyword.Extern keyword.Static e in cc)
keys_differ false e = refl

one_of : (a : Bool) → (a || false) ≡ true → a ≡ true
one_of true is = refl
one_of false is = absurd cc

no_other : (storage : List Keyword) → nat_lt 1 (length storage) ≡ false → list_any (same_key keyword.Static) storage ≡ true → list_any (same_key keyword.Extern) storage ≡ false
no_other [] few held = refl
no_other (one ∷ []) few held =
    let is : keyword.Static ≡ one = key_is keyword.Static one (one_of (same_key keyword.Static one) held) in
    ap (λ b. b || false) (ap (same_key keyword.Extern) (sym is) ∙ keys_differ (same_key keyword.Extern keyword.Static) refl)
no_other (one ∷ other ∷ others) few held = absurd (let h : nat_lt 1 (length (one ∷ other ∷ others)) ≡ true = more_than_one (length others) in let k : true ≡ false = sym h ∙ few in cc)
  where
    more_than_one : (count : ℕ) → nat_lt 1 (suc (suc count)) ≡ true
    more_than_one count = grind (arith, nat_tests)

-- ---- what is visible with internal linkage is there

-- as `Declare` says it
abbrev linkage_before : Option CMeant → Linkage
linkage_before (Some (an_object number type is_register linkage)) = linkage
linkage_before (Some (a_function number type linkage)) = linkage
linkage_before _ = Nothing

abbrev or_external : Linkage → Linkage
or_external External = External
or_external Internal = Internal
or_external Nothing = External

internal_before : (linkage : Linkage) → or_external linkage ≡ Internal → linkage ≡ Internal
internal_before External is = absurd cc
internal_before Internal is = refl
internal_before Nothing is = absurd cc

not_none : (P : CThing → Type 0) (found : Option CThing) → found ≡ None → IsSome found × IfSome found P → ⊥
not_none P None is held = let h : false ≡ true = held.0 in cc
not_none P (Some one) is held = cc

module _ (opens : List ℕ) (scope : CScope) (orderly : IsOrderly opens scope) (name : List ℕ) (none : thing_named name scope.things ≡ None) where
  none_before : (before : Option CMeant) → ordinary name scope.declared ≡ before → linkage_before before ≡ Internal → ⊥
  none_before (Some (an_object number type is_register Internal)) e is = not_none _ (thing_named name scope.things) none (orderly.objects name number type is_register Internal e refl)
  none_before (Some (an_object number type is_register External)) e is = cc
  none_before (Some (an_object number type is_register Nothing)) e is = cc
  none_before (Some (a_function number type linkage)) e is = not_none _ (thing_named name scope.things) none (orderly.functions name number type linkage e).1
  none_before (Some (a_type_name type)) e is = cc
  none_before (Some (an_enumerator value)) e is = cc
  none_before (Some (a_tag is_record goes_on number)) e is = cc
  none_before None e is = cc

  internal_by : (storage : List Keyword) → nat_lt 1 (length storage) ≡ false → (typedef outside : Bool) (static : Bool) → list_any (same_key keyword.Static) storage ≡ static → (asked : Bool)
      → (if typedef then Nothing else if outside && static then Internal else if asked then or_external (linkage_before (ordinary name scope.declared)) else if outside then External else Nothing) ≡ Internal
      → (outside ≡ true) × (list_any (same_key keyword.Extern) storage ≡ false)
  internal_by storage few true outside static e asked is = absurd cc
  internal_by storage few false true true e asked is = (refl, no_other storage few e)
  internal_by storage few false true false e true is = absurd (none_before (ordinary name scope.declared) refl (internal_before _ is))
  internal_by storage few false true false e false is = absurd cc
  internal_by storage few false false static e true is = absurd (none_before (ordinary name scope.declared) refl (internal_before _ is))
  internal_by storage few false false static e false is = absurd cc

  pub first_internal : (place : SpecsPlace) (specs : CSpecs) (type : CTy) → nat_lt 1 (length specs.storage) ≡ false → linkage_of place specs type (ordinary name scope.declared) ≡ Internal
      → (is_outside place ≡ true) × (has_storage keyword.Extern specs ≡ false)
  unfolding linkage_of
  first_internal place specs type few is =
      internal_by specs.storage few (is_typedef specs) (is_outside place) (has_storage keyword.Static specs) refl (has_storage keyword.Extern specs || is_function type) is
