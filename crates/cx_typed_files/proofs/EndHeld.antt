-- A unit at its end has all that was declared, named and made in it (ISO C99, 6.2.2, 6.5.2.5, 6.9.2).
use Rattle.std.proofs.Common.{◌≡◌, ◌⊎◌, inl, inr, ℕ, Bool, true, false, ◌||◌, if◌then◌else◌, List, [], ◌++◌, map, Option, None, Some, is_some, slice_get, refl, sym, ap, ◌∙◌, subst}
use Rattle.std.specs.Prelude.{IsSome, IfSome}
use Rattle.std.specs.List.{Contains, list_any}
use Rattle.cx_core.proofs.Relation.{compatible_reflexive}
use Rattle.cx_core.specs.declared.program.Linkage.{Linkage}
use Rattle.cx_core.specs.declared.program.Linkage.TheVariants.{External, Internal, Nothing}
use Rattle.cx_core.specs.Linked.{program_of}
use Rattle.cx_core.specs.Trees.{CPuts, CObject, CMention}
use Rattle.cx_core.specs.Typing.{CHome, object_with, IsStaticObject}
use Rattle.cx_rules.specs.Declare.{thing_named}
use Rattle.cx_rules.specs.Pieces.{made_static, object_static, has_linkage, is_static_object}
use Rattle.cx_rules.specs.Scope.{CMade, CThing, CScope}
use Rattle.cx_typed.proofs.Same.{number_is}
use Rattle.cx_typed.proofs.Scopes.{grows_not}
use Rattle.cx_typed.proofs.Stays.{both}
use Rattle.cx_typed.specs.Scopes.{object_made, IsWellMade}
use Rattle.cx_typed_files.proofs.EndFunctions.{function_linked}
use Rattle.cx_typed_files.proofs.EndLists.{IsAmong, got_among, among_got, among_first, among_second, among_mapped, among_contains, any_among}
use Rattle.cx_typed_files.proofs.EndObjects.{final, final_keeps, final_with, object_found, literal_found, final_none, was, object_there, final_goes, final_filled}
use Rattle.cx_typed_files.proofs.UnitEnd.{final_mention, final_mention_by, in_number_order, all_objects, unit_at}
use Rattle.cx_typed_files.specs.FileScope.{IsAtFileScope}
use Rattle.cx_typed_units.specs.Account.{account_of, IsAccounted}
use Rattle.cx_typed_units.specs.Rest.{is_defining}
use Rattle.cx_typed_units.specs.Stretches.{IsLinkedObject, IsLinkedBy, IsMadeBy, IsMadeThere, HoldsAll}

-- the unit by itself, and a block that holds all of its objects
abbrev pub end_home : CScope → CHome
end_home scope = record {
  program = program_of (unit_at scope);
  mentions = Some (map (final_mention scope.things) scope.mentions);
  unit = scope.unit;
  scope = map (λ (one : CObject). one.object) scope.objects ++ map (λ (one : CMade). one.object) scope.literals;
}

either_true : (a b : Bool) → (a || b) ≡ true → (a ≡ true) ⊎ (b ≡ true)
either_true true b is = inl refl
either_true false b is = inr is

module _ (scope : CScope) (at : IsAtFileScope [] scope) where
  held : IsAccounted [] None (account_of scope)
  held = at.accounted

  abbrev objects : List CObject
  objects = in_number_order (all_objects scope)

  -- ---- mentions

  kept_by : (one : CMention) (defines : Bool) → defines ≡ false → (if defines then final_mention_by one (thing_named one.name scope.things) else one) ≡ one
  kept_by one true e = absurd cc
  kept_by one false e = refl

  mention_there : (place : ℕ) (one : CMention) → slice_get scope.mentions place ≡ Some one → is_defining one.does ≡ false → Contains (map (final_mention scope.things) scope.mentions) one
  mention_there place one here none =
      among_contains one (map (final_mention scope.things) scope.mentions)
      (subst (λ x. IsAmong x (map (final_mention scope.things) scope.mentions)) (kept_by one (is_defining one.does) none)
      (among_mapped (final_mention scope.things) one scope.mentions (got_among scope.mentions place one here)))

  -- ---- literals

  made_by : (one : CMade) (fixed : Option CPuts) → one.fixed ≡ fixed → IsWellMade scope.types one → IsMadeBy fixed scope.types scope.unit one (object_made scope.unit one)
  made_by one None e well = record {
    number_is = refl;
    type_is = refl;
    unnamed = refl;
    no_text = well.no_text e;
    in_block = record { no_linkage = refl; not_static = e; here = refl; complete = well.complete e };
  }
  made_by one (Some puts) e well = record { compatible = compatible_reflexive scope.types one.type; static = ap is_some e }

  made_there : (place : ℕ) (one : CMade) → slice_get scope.literals place ≡ Some one → IsMadeThere (program_of (unit_at scope)) scope.unit one
  made_there place one here =
      subst (λ found. IsSome found × IfSome found (IsMadeBy one.fixed scope.types scope.unit one)) (sym (literal_found scope at place one here)) (refl, made_by one one.fixed refl (held.literals place one here))

  -- ---- objects

  own_there : (place : ℕ) (one : CObject) → one.linkage ≡ Nothing → slice_get scope.objects place ≡ Some one → object_with one.object objects ≡ Some one
  own_there place one nothing here = object_found scope at place one here ∙ ap (λ x. Some x) (final_none scope at place one here nothing)

  linked_object : (name : List ℕ) (thing : CThing) → thing_named name scope.things ≡ Some thing → thing.is_function ≡ false → IsLinkedBy false (program_of (unit_at scope)) [] name thing
  linked_object name thing there object =
      let own = was scope at name thing there object in
      let keeps = keeps_by thing own.one thing.is_defined in
      subst (λ found. IsSome found × IfSome found (IsLinkedObject scope.types [] name thing)) (sym (object_there scope at name thing there object)) (
        refl,
        record {
          linkage_is = keeps.0 ∙ own.linkage_is;
          named = keeps.1 ∙ own.named;
          defined = λ internal. final_filled scope at name thing there object (own.internal internal);
          compatible = λ earlier fills. final_goes scope at name thing there object earlier fills;
        },
      )
    where
      keeps_by : (thing : CThing) (one : CObject) (is_defined : Bool) → ((final_with is_defined thing one).linkage ≡ one.linkage) × ((final_with is_defined thing one).name ≡ one.name)
      keeps_by thing one true = (refl, refl)
      keeps_by thing one false = (refl, refl)

  thing_there : (name : List ℕ) (thing : CThing) → thing_named name scope.things ≡ Some thing → (is_function : Bool) → thing.is_function ≡ is_function → IsLinkedBy is_function (program_of (unit_at scope)) [] name thing
  thing_there name thing there true e = function_linked scope at name thing there e
  thing_there name thing there false e = linked_object name thing there e

  -- ---- what lives as long as the program

  abbrev StaysStored : CObject → Type 0
  StaysStored one = one.linkage ≡ Nothing → IsSome one.puts

  static_own : (place : ℕ) (one : CObject) → slice_get scope.objects place ≡ Some one → (has_linkage one.linkage || is_some one.puts) ≡ true → StaysStored (final scope at one)
  static_own place one here static nothing =
      let keeps = final_keeps one _ in
      let none : one.linkage ≡ Nothing = sym keeps.linkage_is ∙ nothing in
      let stored : is_some one.puts ≡ true = by_linkage one.linkage none (is_some one.puts) static in
      ap (λ (x : CObject). is_some x.puts) (final_none scope at place one here none) ∙ stored
    where
      by_linkage : (linkage : Linkage) → linkage ≡ Nothing → (stored : Bool) → (has_linkage linkage || stored) ≡ true → stored ≡ true
      by_linkage Nothing e stored is = is
      by_linkage External e stored is = absurd cc
      by_linkage Internal e stored is = absurd cc

  static_there : (number : ℕ) → is_static_object scope number ≡ true → IsStaticObject (program_of (unit_at scope)) number
  static_there number is = by_case (either_true (list_any (made_static number) scope.literals) (list_any (object_static number) scope.objects) is)
    where
      by_case : (list_any (made_static number) scope.literals ≡ true) ⊎ (list_any (object_static number) scope.objects ≡ true) → IfSome (object_with number objects) StaysStored
      by_case (inl made) =
          let found = any_among (made_static number) scope.literals made in
          let parts = both found.2 in
          let here = among_got found.0 scope.literals found.1 in
          subst (λ n. IfSome (object_with n objects) StaysStored) (number_is found.0.object number parts.0)
          (subst (λ x. IfSome x StaysStored) (sym (literal_found scope at here.0 found.0 here.1)) (λ nothing. parts.1))
      by_case (inr own) =
          let found = any_among (object_static number) scope.objects own in
          let parts = both found.2 in
          let here = among_got found.0 scope.objects found.1 in
          subst (λ n. IfSome (object_with n objects) StaysStored) (number_is found.0.object number parts.0)
          (subst (λ x. IfSome x StaysStored) (sym (object_found scope at here.0 found.0 here.1)) (static_own here.0 found.0 here.1 parts.1))

  -- ---- all of it

  pub end_holds : HoldsAll (end_home scope) [] scope
  end_holds = record {
    backs = record {
      unit_is = refl;
      grows = grows_not [] scope.types;
      told = map (final_mention scope.things) scope.mentions;
      told_is = refl;
      mentions = λ place one from here none. mention_there place one here none;
      literals = λ place one from here. made_there place one here;
      objects = λ place one nothing from here. own_there place one nothing here;
      things = λ name one there. thing_there name one there one.is_function refl;
      statics = static_there;
    };
    objects_inside = λ place one here nothing.
        among_contains one.object (end_home scope).scope
        (among_first one.object (map (λ (x : CObject). x.object) scope.objects) (map (λ (x : CMade). x.object) scope.literals)
        (among_mapped (λ (x : CObject). x.object) one scope.objects (got_among scope.objects place one here)));
    literals_inside = λ place one here.
        among_contains one.object (end_home scope).scope
        (among_second one.object (map (λ (x : CObject). x.object) scope.objects) (map (λ (x : CMade). x.object) scope.literals)
        (among_mapped (λ (x : CMade). x.object) one scope.literals (got_among scope.literals place one here)));
  }
