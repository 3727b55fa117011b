-- All that a typed unit is, of a unit at its end (ISO C99, 6.9).
use Rattle.std.proofs.Common.{◌≡◌, ℕ, Bool, true, false, not, ◌&&◌, List, [], ◌++◌, map, Option, None, Some, is_some, find, eqb, slice_get, refl, sym, ap, ◌∙◌, subst}
use Rattle.std.specs.List.{IsDistinct}
use Rattle.cx_core.specs.declared.program.Linkage.TheVariants.{External, Nothing}
use Rattle.cx_core.specs.Linked.{IsTypedObject, IsTypedFunction, has_linkage, is_external, block_objects, AreNumbered, program_of, IsDeclaredOuter, IsToldIn, IsTypedUnit}
use Rattle.cx_core.specs.Trees.{form_of_type, CObject, CFun, COuter, defines, declares, CMention}
use Rattle.cx_core.specs.Typing.{IsMentionedIn}
use Rattle.cx_rules.specs.Declare.{is_linked, thing_named, unit_of}
use Rattle.cx_rules.specs.Scope.{CMade, CThing, CScope}
use Rattle.cx_rules.specs.UnitWalk.{tentative_things}
use Rattle.cx_typed.proofs.Promoted.{is_not}
use Rattle.cx_typed.proofs.Same.{number_is}
use Rattle.cx_typed.proofs.Stays.{both}
use Rattle.cx_typed.specs.Scopes.{object_made}
use Rattle.cx_typed_files.proofs.EndComplete.{IsLookedAt}
use Rattle.cx_typed_files.proofs.EndFunctions.{is_outer, outer_of, each_outer, functions_apart, outers_apart}
use Rattle.cx_typed_files.proofs.EndLists.{Each, AreApart, each_all, each_got, each_both, each_mapped, apart_distinct, apart_both, apart_mapped}
use Rattle.cx_typed_files.proofs.EndMentions.{mentioned, mention_unless, mention_stays, object_told}
use Rattle.cx_typed_files.proofs.EndNames.{IsNamed, names_apart}
use Rattle.cx_typed_files.proofs.EndObjects.{final, final_keeps, final_with, all_apart, final_none, was, final_is}
use Rattle.cx_typed_files.proofs.EndTyped.{has_or_not, no_linkage, external_is, typed, same_typed, final_typed}
use Rattle.cx_typed_files.proofs.UnitEnd.{final_mention, names_object, in_number_order, all_objects, outers_of, unit_at, unit_is, same_object, apart_ordered, each_ordered, has_no_length, ends_with_one_element}
use Rattle.cx_typed_files.specs.FileScope.{IsAtFileScope}
use Rattle.cx_typed_units.proofs.Begun.{function_form}
use Rattle.cx_typed_units.specs.Account.{account_of, IsAccounted}
use Rattle.cx_typed_units.specs.Rest.{is_defining}

same_value : {X : Type 0} {x y : X} → Some x ≡ Some y → x ≡ y
same_value is = cc

and_none : (a b : Bool) → (a && (false && b)) ≡ false
and_none true b = refl
and_none false b = refl

-- as `Linked` says it
abbrev IsToldOf : List CMention → CObject → Option (List ℕ) → Type 0
IsToldOf mentions one None = ⊥
IsToldOf mentions one (Some name) = IsToldIn mentions name one

module _ (scope : CScope) (at : IsAtFileScope [] scope) (looked : Each (IsLookedAt scope) (tentative_things scope.things)) where
  held : IsAccounted [] None (account_of scope)
  held = at.accounted

  abbrev objects : List CObject
  objects = in_number_order (all_objects scope)

  abbrev mentions : List CMention
  mentions = map (final_mention scope.things) scope.mentions

  -- ---- each object is one that was declared, or that of a literal

  pub each_final : (P : CObject → Type 0) → ((place : ℕ) (one : CObject) → slice_get scope.objects place ≡ Some one → P (final scope at one))
      → ((place : ℕ) (one : CMade) → slice_get scope.literals place ≡ Some one → P (object_made scope.unit one)) → Each P objects
  each_final P declared made =
      each_ordered P (all_objects scope)
      (each_both P (map (final scope at) scope.objects) (map (object_made scope.unit) scope.literals)
      (each_mapped P (final scope at) scope.objects (each_got (λ one. P (final scope at one)) scope.objects declared))
      (each_mapped P (object_made scope.unit) scope.literals (each_got (λ one. P (object_made scope.unit one)) scope.literals made)))

  pub final_case : (P : CObject → Type 0) (place : ℕ) (one : CObject) → slice_get scope.objects place ≡ Some one → (one.linkage ≡ Nothing → P one)
      → ((name : List ℕ) (thing : CThing) (there : thing_named name scope.things ≡ Some thing) (object : thing.is_function ≡ false) → P (final_with thing.is_defined thing (was scope at name thing there object).one))
      → P (final scope at one)
  final_case P place one here first second = by_linkage (is_linked one.linkage) refl
    where
      by_linkage : (linked : Bool) → is_linked one.linkage ≡ linked → P (final scope at one)
      by_linkage true e =
          let n = (held.objects place one here).named e in
          let own = was scope at n.name n.thing n.there n.object_is in
          let places : own.index ≡ place = held.objects_differ own.index place own.one one own.at here (own.number_is ∙ n.number_is) in
          let same : own.one ≡ one = same_value (sym own.at ∙ (ap (slice_get scope.objects) places ∙ here)) in
          subst (λ x. P (final scope at x)) same (subst P (sym (final_is scope at n.name n.thing n.there n.object_is)) (second n.name n.thing n.there n.object_is))
      by_linkage false e = subst P (sym (final_none scope at place one here (no_linkage one.linkage e))) (first (no_linkage one.linkage e))

  objects_typed : Each (IsTypedObject (program_of (unit_at scope)) (Some mentions)) objects
  objects_typed =
      each_final (IsTypedObject (program_of (unit_at scope)) (Some mentions))
      (λ place one here. final_case (IsTypedObject (program_of (unit_at scope)) (Some mentions)) place one here (λ nothing. same_typed scope at looked place one here)
      (λ name thing there object. final_typed scope at looked name thing there object thing.is_defined refl))
      (λ place one here. (typed scope at looked).literals place one here)

  objects_here : Each (λ (one : CObject). one.unit ≡ scope.unit) objects
  objects_here =
      each_final (λ one. one.unit ≡ scope.unit) (λ place one here. (final_keeps one (find (names_object one.object) scope.things)).unit_is ∙ (held.objects place one here).here) (λ place one here. refl)

  objects_named : Each (IsNamed scope.things) objects
  objects_named =
      each_final (IsNamed scope.things)
      (λ place one here linked.
      let keeps = final_keeps one (find (names_object one.object) scope.things) in
      let n = (held.objects place one here).named (sym (has_or_not one.linkage) ∙ (ap has_linkage (sym keeps.linkage_is) ∙ linked)) in
      record { name = n.name; named = keeps.name_is ∙ n.named; thing = n.thing; there = n.there; number_is = n.number_is ∙ sym keeps.number_is; object_is = n.object_is })
      (λ place one here linked. absurd cc)

  objects_apart : AreApart same_object objects
  objects_apart = apart_ordered (all_objects scope) (all_apart scope at)

  -- ---- functions

  outers_declared : Each (IsDeclaredOuter scope.types scope.unit) (outers_of scope.things)
  outers_declared = each_outer (IsDeclaredOuter scope.types scope.unit) scope.things (each_got (λ one. is_outer one ≡ true → IsDeclaredOuter scope.types scope.unit (outer_of one)) scope.things (λ place one here outer.
      let known = at.orderly.things one.name one (held.listed place one here) in
      record { type_in = known.known.type_in; is_function = function_form one.type (known.function_is ∙ (both outer).0); linked = has_or_not one.linkage ∙ known.linked }))

  abbrev number_of : CFun → ℕ
  number_of one = one.function

  abbrev outer_number : COuter → ℕ
  outer_number one = one.function

  never_same : (fun : CFun) (place : ℕ) → slice_get scope.functions place ≡ Some fun → (one : CThing) (other : ℕ) → slice_get scope.things other ≡ Some one → is_outer one ≡ true → (b : Bool) → eqb fun.function one.number ≡ b
      → eqb fun.function one.number ≡ false
  never_same fun place here one other there outer true e =
      let known = held.functions place fun here in
      let found = held.listed other one there in
      let names : fun.name ≡ one.name =
      held.functions_differ fun.name one.name known.thing one known.there found known.function_is (both outer).0 (known.number_is ∙ number_is fun.function one.number e) in
      let same : known.thing ≡ one = same_value (sym known.there ∙ (ap (λ name. thing_named name scope.things) names ∙ found)) in
      absurd (let h : true ≡ false = sym known.defined ∙ (ap (λ (x : CThing). x.is_defined) same ∙ is_not (both outer).1) in cc)
  never_same fun place here one other there outer false e = e

  numbers_apart : AreApart eqb (map number_of scope.functions ++ map outer_number (outers_of scope.things))
  numbers_apart =
      apart_both eqb (map number_of scope.functions) (map outer_number (outers_of scope.things)) (apart_mapped eqb number_of scope.functions (functions_apart scope at))
      (apart_mapped eqb outer_number (outers_of scope.things) (outers_apart scope at))
      (each_mapped (λ n. Each (λ m. eqb n m ≡ false) (map outer_number (outers_of scope.things))) number_of scope.functions
      (each_got (λ (fun : CFun). Each (λ m. eqb fun.function m ≡ false) (map outer_number (outers_of scope.things))) scope.functions (λ place fun here.
      each_mapped (λ m. eqb fun.function m ≡ false) outer_number (outers_of scope.things)
      (each_outer (λ (outer : COuter). eqb fun.function outer.function ≡ false) scope.things
      (each_got (λ (one : CThing). is_outer one ≡ true → eqb fun.function one.number ≡ false) scope.things (λ other one there outer.
      never_same fun place here one other there outer (eqb fun.function one.number) refl))))))

  -- ---- mentions

  objects_told : Each (λ (one : CObject). is_external one.linkage ≡ true → IsToldOf mentions one one.name) objects
  objects_told =
      each_final (λ one. is_external one.linkage ≡ true → IsToldOf mentions one one.name)
      (λ place one here.
      final_case (λ x. is_external x.linkage ≡ true → IsToldOf mentions x x.name) place one here
      (λ nothing external. absurd (let h : false ≡ true = ap is_external (sym nothing) ∙ external in cc))
      (λ name thing there object external.
      let own = was scope at name thing there object in
      let keeps = keeps_by thing own.one thing.is_defined in
      subst (λ found. IsToldOf mentions (final_with thing.is_defined thing own.one) found) (sym (keeps.1 ∙ own.named))
      (object_told scope at name thing there object (sym own.linkage_is ∙ external_is own.one.linkage (ap is_external (sym keeps.0) ∙ external)))))
      (λ place one here external. absurd cc)
    where
      keeps_by : (thing : CThing) (one : CObject) (is_defined : Bool) → ((final_with is_defined thing one).linkage ≡ one.linkage) × ((final_with is_defined thing one).name ≡ one.name)
      keeps_by thing one true = (refl, refl)
      keeps_by thing one false = (refl, refl)

  functions_told : Each (λ (fun : CFun). is_external fun.linkage ≡ true → IsMentionedIn mentions fun.name External fun.type defines) scope.functions
  functions_told = each_got (λ (fun : CFun). is_external fun.linkage ≡ true → IsMentionedIn mentions fun.name External fun.type defines) scope.functions (λ place fun here external.
      let known = held.functions place fun here in
      let told = known.told (external_is fun.linkage external) in
      let none : ends_with_one_element known.thing ≡ false =
      ap (λ b. is_some known.thing.tentative && (not b && has_no_length (form_of_type known.thing.type))) known.defined ∙ and_none (is_some known.thing.tentative) (has_no_length (form_of_type known.thing.type)) in
      mentioned scope.things scope.mentions fun.name External fun.type defines told.index told.one told.at told.name_is told.linkage_is
      (ap (λ (x : CMention). x.type) (mention_stays scope.things told.one known.thing (ap (λ n. thing_named n scope.things) told.name_is ∙ known.there) none) ∙ told.says.0) told.says.1)

  outers_told : Each (λ (outer : COuter). IsMentionedIn mentions outer.name outer.linkage outer.type declares) (outers_of scope.things)
  outers_told = each_outer (λ (outer : COuter). IsMentionedIn mentions outer.name outer.linkage outer.type declares) scope.things
      (each_got (λ (one : CThing). is_outer one ≡ true → IsMentionedIn mentions one.name one.linkage one.type declares) scope.things (λ place one here outer.
      let told = (held.function_things one.name one (held.listed place one here) (both outer).0).undefined (is_not (both outer).1) in
      mentioned scope.things scope.mentions one.name one.linkage one.type declares told.index told.one told.at told.name_is told.linkage_is
      (ap (λ (x : CMention). x.type) (mention_unless scope.things told.one (ap is_defining told.says.1)) ∙ told.says.0) told.says.1))

  -- ---- the unit

  module _ (blocks : IsDistinct eqb (block_objects scope.functions)) where
    numbered : AreNumbered (program_of (unit_at scope))
    numbered = record {
      objects_differ = apart_distinct eqb (map (λ (one : CObject). one.object) objects) (apart_mapped eqb (λ (one : CObject). one.object) objects objects_apart);
      functions_differ = apart_distinct eqb (map number_of scope.functions ++ map outer_number (outers_of scope.things)) numbers_apart;
      blocks_differ = blocks;
    }

    typed_at : IsTypedUnit scope.unit (unit_at scope)
    typed_at = record {
      types = at.good.sound.types_are;
      records_here = each_all (λ number. number ≡ scope.unit) scope.types.record_units (each_got (λ number. number ≡ scope.unit) scope.types.record_units at.good.sound.records_here);
      enums_here = each_all (λ number. number ≡ scope.unit) scope.types.enum_units (each_got (λ number. number ≡ scope.unit) scope.types.enum_units at.good.sound.enums_here);
      objects_here = each_all (λ (one : CObject). one.unit ≡ scope.unit) objects objects_here;
      functions_here = each_all (λ (one : CFun). one.unit ≡ scope.unit) scope.functions (each_got (λ (one : CFun). one.unit ≡ scope.unit) scope.functions (λ place one here. (held.functions place one here).here));
      numbers = numbered;
      names_differ = names_apart scope at objects_named objects_apart;
      objects = each_all (IsTypedObject (program_of (unit_at scope)) (Some mentions)) objects objects_typed;
      functions = each_all (IsTypedFunction (program_of (unit_at scope)) (Some mentions)) scope.functions (each_got (IsTypedFunction (program_of (unit_at scope)) (Some mentions)) scope.functions (typed scope at looked).functions);
      externals = each_all (IsDeclaredOuter scope.types scope.unit) (outers_of scope.things) outers_declared;
      mentions = record {
        objects = each_all (λ (one : CObject). is_external one.linkage ≡ true → IsToldOf mentions one one.name) objects objects_told;
        functions = each_all (λ (fun : CFun). is_external fun.linkage ≡ true → IsMentionedIn mentions fun.name External fun.type defines) scope.functions functions_told;
        externals = each_all (λ (outer : COuter). IsMentionedIn mentions outer.name outer.linkage outer.type declares) (outers_of scope.things) outers_told;
      };
    }

    pub unit_typed : IsTypedUnit scope.unit (unit_of scope)
    unit_typed = subst (IsTypedUnit scope.unit) (sym (unit_is scope)) typed_at
