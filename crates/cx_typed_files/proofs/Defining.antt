-- What a mention says that a unit defines, the unit defines (ISO C99, 6.9p3, p5, 6.9.2p2).
use Rattle.std.proofs.Common.{◌≡◌, ◌⊎◌, inl, inr, ℕ, Bool, true, false, not, ◌&&◌, ◌||◌, List, [], map, Some, is_some, slice_get, refl, sym, ap, ◌∙◌, subst}
use Rattle.std.specs.Prelude.{All}
use Rattle.cx_core.specs.declared.program.Linkage.{Linkage}
use Rattle.cx_core.specs.declared.program.Linkage.TheVariants.{External, Internal, Nothing}
use Rattle.cx_core.specs.Linked.{has_linkage}
use Rattle.cx_core.specs.Trees.{CObject, CMention}
use Rattle.cx_rules.specs.Declare.{is_linked, thing_named, unit_of}
use Rattle.cx_rules.specs.Scope.{CThing, CScope, new_scope}
use Rattle.cx_rules.specs.Units.{seen_unit}
use Rattle.cx_rules.specs.UnitWalk.{tentative_things}
use Rattle.cx_rules.proofs.UnitNodesAgree.{s_unit_walk}
use Rattle.cx_tree.specs.Trees.{UnitTree}
use Rattle.cx_typed.proofs.Goes.{go_gives, go_here_then, go_chain}
use Rattle.cx_typed.specs.Scopes.{object_made}
use Rattle.cx_typed.specs.Walked.{Ends}
use Rattle.cx_typed_files.proofs.EndComplete.{IsLookedAt, tentatives_go}
use Rattle.cx_typed_files.proofs.EndLists.{Each, each_all, each_got, each_mapped, got_among, among_first, among_mapped, among_contains}
use Rattle.cx_typed_files.proofs.EndMentions.{mention_keeps}
use Rattle.cx_typed_files.proofs.EndObjects.{final, final_keeps, final_is, final_filled, was}
use Rattle.cx_typed_files.proofs.Externals.{externals_go}
use Rattle.cx_typed_files.proofs.FileDeclarations.{units_begin}
use Rattle.cx_typed_files.proofs.UnitEnd.{final_mention, in_number_order, all_objects, unit_at, unit_is, among_ordered}
use Rattle.cx_typed_files.specs.Defining.{IsDefinedObject, IsDefinedFunction, IsDefinitionThere, MentionsDefine}
use Rattle.cx_typed_files.specs.FileScope.{IsAtFileScope}
use Rattle.cx_typed_files.specs.FileUnits.{AreSpelledExternals}
use Rattle.cx_typed_units.specs.Rest.{is_defining}
use Rattle.cx_typed_units.specs.Stretches.{IsDefinedAs}

linked_so : (linkage : Linkage) → is_linked linkage ≡ true → has_linkage linkage ≡ true
linked_so External is = refl
linked_so Internal is = refl
linked_so Nothing is = absurd cc

has_body : (is_defined is_function tentative : Bool) → is_function ≡ true → (is_defined || (not is_function && tentative)) ≡ true → is_defined ≡ true
has_body true is_function tentative code is = refl
has_body false true tentative code is = absurd cc
has_body false false tentative code is = absurd cc

has_value : (is_defined is_function tentative : Bool) → is_function ≡ false → (is_defined || (not is_function && tentative)) ≡ true → (is_defined || tentative) ≡ true
has_value is_defined true tentative object is = absurd cc
has_value is_defined false tentative object is = is

module _ (scope : CScope) (at : IsAtFileScope [] scope) where
  abbrev last : CMention → CMention
  last = final_mention scope.things

  module _ (one : CMention) (name : List ℕ) (name_is : (last one).name ≡ name) (thing : CThing) (there : thing_named name scope.things ≡ Some thing) (by : IsDefinedAs thing one) where
    linkage_is : thing.linkage ≡ (last one).linkage
    linkage_is = by.linkage_is ∙ sym (mention_keeps scope.things one).linkage_is

    defined_object : thing.is_function ≡ false → IsDefinedObject (unit_at scope) (last one)
    defined_object object =
        let own = was scope at name thing there object in
        let keeps = final_keeps own.one _ in
        let same : (final scope at own.one).linkage ≡ thing.linkage = keeps.linkage_is ∙ own.linkage_is in
        record {
          known = final scope at own.one;
          among = among_contains (final scope at own.one) (in_number_order (all_objects scope))
              (among_ordered (final scope at own.one) (all_objects scope)
              (among_first (final scope at own.one) (map (final scope at) scope.objects) (map (object_made scope.unit) scope.literals)
              (among_mapped (final scope at) own.one scope.objects (got_among scope.objects own.index own.one own.at))));
          linkage_is = same ∙ linkage_is;
          linked = subst (λ l. has_linkage l ≡ true) (sym same) (linked_so thing.linkage (at.orderly.things name thing there).linked);
          name_is = keeps.name_is ∙ (own.named ∙ ap (λ n. Some n) (sym name_is));
          defined =
              ap (λ (x : CObject). is_some x.puts) (final_is scope at name thing there object)
              ∙ final_filled scope at name thing there object (has_value thing.is_defined thing.is_function (is_some thing.tentative) object by.defined);
        }

    defined_function : thing.is_function ≡ true → IsDefinedFunction (unit_at scope) (last one)
    defined_function code =
        let body = (at.accounted.function_things name thing there code).defined (λ waits. cc) (has_body thing.is_defined thing.is_function (is_some thing.tentative) code by.defined) in
        record {
          known = body.one;
          among = among_contains body.one scope.functions (got_among scope.functions body.index body.one body.at);
          linkage_is = body.linkage_is ∙ linkage_is;
          name_is = body.named ∙ sym name_is;
        }

    by_kind : (is_function : Bool) → thing.is_function ≡ is_function → IsDefinedObject (unit_at scope) (last one) ⊎ IsDefinedFunction (unit_at scope) (last one)
    by_kind true e = inr (defined_function e)
    by_kind false e = inl (defined_object e)

  mention_defines : (place : ℕ) (one : CMention) → slice_get scope.mentions place ≡ Some one → IsDefinitionThere (unit_at scope) (last one)
  mention_defines place one here does =
      let covered = at.covered place one here in
      let keeps = mention_keeps scope.things one in
      by_kind one one.name keeps.name_is covered.thing covered.there (covered.defined (ap is_defining (sym keeps.does_is ∙ does))) covered.thing.is_function refl

  unit_defines : All (IsDefinitionThere (unit_of scope)) (unit_of scope).mentions
  unit_defines =
      subst (λ unit. All (IsDefinitionThere unit) unit.mentions) (sym (unit_is scope))
      (each_all (IsDefinitionThere (unit_at scope)) (map last scope.mentions)
      (each_mapped (IsDefinitionThere (unit_at scope)) last scope.mentions (each_got (λ one. IsDefinitionThere (unit_at scope) (last one)) scope.mentions mention_defines)))

-- ---- the walk

defining_goes : (number : ℕ) (tree : UnitTree) → AreSpelledExternals tree.parts → Ends (s_unit_walk tree) (new_scope number) (λ unit after. All (IsDefinitionThere unit) unit.mentions)
defining_goes number tree spelled =
    go_chain _ _ _ _ (new_scope number) (λ done end. IsAtFileScope [] end × (end.unit ≡ number)) _ (externals_go tree.parts spelled [] (new_scope number) (units_begin number)) (λ done end at.
    go_here_then _ _ end _ (go_chain _ _ _ _ end (λ done after. (after ≡ end) × Each (IsLookedAt end) (tentative_things end.things)) _ (tentatives_go end (tentative_things end.things)) (λ done after looked.
    go_gives (unit_of end) after _ (unit_defines end at.0))))

pub defining_mentions : MentionsDefine
unfolding seen_unit
defining_mentions number tree spelled fine = (defining_goes number tree spelled).ends fine
