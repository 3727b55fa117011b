-- What a unit declares and doesn't define says all that each mention of its name says (ISO C99, 6.2.7p3, p4).
use Rattle.std.proofs.Common.{◌≡◌, ℕ, zero, suc, ◌<◌, Bool, true, false, not, ◌&&◌, ◌||◌, if◌then◌else◌, List, [], ◌∷◌, map, length, Option, None, Some, is_some, slice_get, refl, sym, ap, ◌∙◌, subst, arith}
use Rattle.std.specs.Prelude.{All, slice_index_or}
use Rattle.cx_core.specs.Linked.{has_linkage}
use Rattle.cx_core.specs.Trees.{CTy, ty, void, basic, enum_type, pointer, array, record_type, function, form_of_type, CPuts, CObject, COuter, CMention}
use Rattle.cx_rules.proofs.UnitNodesAgree.{s_unit_walk}
use Rattle.cx_rules.specs.Declare.{thing_named, unit_of}
use Rattle.cx_rules.specs.Scope.{CThing, CScope, new_scope}
use Rattle.cx_rules.specs.Types.{is_function}
use Rattle.cx_rules.specs.Units.{seen_unit}
use Rattle.cx_rules.specs.UnitWalk.{tentative_things}
use Rattle.cx_tree.specs.Trees.{UnitTree}
use Rattle.cx_typed.proofs.Goes.{go_gives, go_here_then, go_chain}
use Rattle.cx_typed.proofs.Scopes.{grows_not}
use Rattle.cx_typed.proofs.Stays.{both}
use Rattle.cx_typed.specs.Walked.{Ends}
use Rattle.cx_typed_files.proofs.EndComplete.{IsLookedAt, tentatives_go}
use Rattle.cx_typed_files.proofs.EndFunctions.{is_outer, each_outer}
use Rattle.cx_typed_files.proofs.EndLists.{Each, each_all, each_got, each_mapped}
use Rattle.cx_typed_files.proofs.EndMentions.{mention_keeps, mention_stays}
use Rattle.cx_typed_files.proofs.EndObjects.{one_element, final_with, was, final_filled}
use Rattle.cx_typed_files.proofs.Externals.{externals_go}
use Rattle.cx_typed_files.proofs.FileDeclarations.{units_begin}
use Rattle.cx_typed_files.proofs.UnitEnd.{final_mention, in_number_order, all_objects, outers_of, unit_at, unit_is, has_no_length, ends_with_one_element}
use Rattle.cx_typed_files.proofs.UnitTyped.{each_final, final_case}
use Rattle.cx_typed_files.specs.Covered.{IsMentionCovered, MentionsAreCovered}
use Rattle.cx_typed_files.specs.FileScope.{IsAtFileScope}
use Rattle.cx_typed_files.specs.FileUnits.{AreSpelledExternals}
use Rattle.cx_typed_units.specs.Covers.{Covers}

same_value : {X : Type 0} {x y : X} → Some x ≡ Some y → x ≡ y
same_value is = cc

contained : {X : Type 0} (P : X → Type 0) (xs : List X) (x : X) → Each P xs → (place : ℕ) → place < length xs → slice_index_or xs place x ≡ x → P x
contained P [] x held place less same = absurd (omega (arith, less))
contained P (first ∷ xs) x held zero less same = subst P same held.0
contained P (first ∷ xs) x held (suc place) less same = contained P xs x held.1 place (omega (arith, less)) same

-- ---- what has no definition

code_no_array : (type : CTy) → is_function type ≡ true → has_no_length (form_of_type type) ≡ false
code_no_array (ty (function result params variadic) is_const) is = refl
code_no_array (ty void is_const) is = absurd cc
code_no_array (ty (basic which) is_const) is = absurd cc
code_no_array (ty (enum_type number) is_const) is = absurd cc
code_no_array (ty (pointer to) is_const) is = absurd cc
code_no_array (ty (array element count) is_const) is = absurd cc
code_no_array (ty (record_type number) is_const) is = absurd cc

ends_false : (tentative defined unlengthed : Bool) → unlengthed ≡ false → (tentative && (not defined && unlengthed)) ≡ false
ends_false true true unlengthed is = refl
ends_false true false unlengthed is = is
ends_false false defined unlengthed is = refl

not_filled : (found : Bool) (puts : Option CPuts) → puts ≡ None → (found ≡ true → is_some puts ≡ true) → found ≡ false
not_filled true puts empty filled = absurd (let h : false ≡ true = ap is_some (sym empty) ∙ filled refl in cc)
not_filled false puts empty filled = refl

neither_of : (a b : Bool) → (a || b) ≡ false → (a ≡ false) × (b ≡ false)
neither_of true b is = absurd cc
neither_of false b is = (refl, is)

module _ (scope : CScope) (at : IsAtFileScope [] scope) (looked : Each (IsLookedAt scope) (tentative_things scope.things)) where
  abbrev final : CMention → CMention
  final = final_mention scope.things

  module _ (place : ℕ) (one : CMention) (here : slice_get scope.mentions place ≡ Some one) where
    final_name : (final one).name ≡ one.name
    final_name = (mention_keeps scope.things one).name_is

    -- a thing that doesn't end with one element says what the mention says in the end
    thing_covers : (thing : CThing) → thing_named (final one).name scope.things ≡ Some thing → ends_with_one_element thing ≡ false → Covers scope.types thing.type (final one).type
    thing_covers thing there none =
        let covered = at.covered place one here in
        let named : thing_named one.name scope.things ≡ Some thing = ap (λ name. thing_named name scope.things) (sym final_name) ∙ there in
        let same : covered.thing ≡ thing = same_value (sym covered.there ∙ named) in
        subst (λ (x : CMention). Covers scope.types thing.type x.type) (sym (mention_stays scope.things one thing named none))
        (subst (λ (x : CThing). Covers scope.types x.type one.type) same (covered.fills scope.types (grows_not [] scope.types)))

    abbrev IsCoveredBy : CObject → Type 0
    IsCoveredBy known = known.puts ≡ None → has_linkage known.linkage ≡ true → known.name ≡ Some (final one).name → Covers scope.types known.type (final one).type

    record HasNone (thing : CThing) : Type 0 where
      undefined : thing.is_defined ≡ false
      no_line : is_some thing.tentative ≡ false

    thing_by : (name : List ℕ) (thing : CThing) → thing_named name scope.things ≡ Some thing → name ≡ (final one).name → HasNone thing → (known : CObject) (is_defined : Bool) → thing.is_defined ≡ is_defined
        → Covers scope.types (final_with is_defined thing known).type (final one).type
    thing_by name thing there named none known true d = absurd (let h : false ≡ true = sym none.undefined ∙ d in cc)
    thing_by name thing there named none known false d =
        subst (λ type. Covers scope.types type (final one).type) (sym (ap (λ b. if b && not thing.is_defined then one_element thing.type else thing.type) none.no_line))
        (thing_covers thing (ap (λ n. thing_named n scope.things) (sym named) ∙ there) (ap (λ b. b && (not thing.is_defined && has_no_length (form_of_type thing.type))) none.no_line))

    named_covers : (name : List ℕ) (thing : CThing) (there : thing_named name scope.things ≡ Some thing) (object : thing.is_function ≡ false)
        → IsCoveredBy (final_with thing.is_defined thing (was scope at name thing there object).one)
    named_covers name thing there object empty linked named =
        let own = was scope at name thing there object in
        let none = neither_of thing.is_defined (is_some thing.tentative) (not_filled (thing.is_defined || is_some thing.tentative) _ empty (final_filled scope at name thing there object)) in
        let keeps : (final_with thing.is_defined thing own.one).name ≡ Some name = name_by thing own.one thing.is_defined ∙ own.named in
        thing_by name thing there (same_value (sym keeps ∙ named)) (record { undefined = none.0; no_line = none.1 }) own.one thing.is_defined refl
      where
        name_by : (thing : CThing) (known : CObject) (is_defined : Bool) → (final_with is_defined thing known).name ≡ known.name
        name_by thing known true = refl
        name_by thing known false = refl

    objects_cover : Each IsCoveredBy (in_number_order (all_objects scope))
    objects_cover =
        each_final scope at looked IsCoveredBy
        (λ other known there. final_case scope at looked IsCoveredBy other known there
        (λ nothing empty linked named. absurd (let h : false ≡ true = ap has_linkage (sym nothing) ∙ linked in cc)) named_covers)
        (λ other made there empty linked named. absurd cc)

    outers_cover : Each (λ (known : COuter). known.name ≡ (final one).name → Covers scope.types known.type (final one).type) (outers_of scope.things)
    outers_cover =
        each_outer (λ known. known.name ≡ (final one).name → Covers scope.types known.type (final one).type) scope.things
        (each_got (λ thing. is_outer thing ≡ true → thing.name ≡ (final one).name → Covers scope.types thing.type (final one).type) scope.things (λ other thing there outer named.
        let found = at.accounted.listed other thing there in
        let code : is_function thing.type ≡ true = (at.orderly.things thing.name thing found).function_is ∙ (both outer).0 in
        thing_covers thing (ap (λ n. thing_named n scope.things) (sym named) ∙ found)
        (ends_false (is_some thing.tentative) thing.is_defined (has_no_length (form_of_type thing.type)) (code_no_array thing.type code))))

    mention_covered : IsMentionCovered (unit_at scope) (final one)
    mention_covered = record {
      object = λ known there. contained IsCoveredBy (in_number_order (all_objects scope)) known objects_cover there.0 there.1 there.2;
      outer = λ known there. contained (λ (x : COuter). x.name ≡ (final one).name → Covers scope.types x.type (final one).type) (outers_of scope.things) known outers_cover there.0 there.1 there.2;
    }

  unit_covered : All (IsMentionCovered (unit_of scope)) (unit_of scope).mentions
  unit_covered =
      subst (λ unit. All (IsMentionCovered unit) unit.mentions) (sym (unit_is scope))
      (each_all (IsMentionCovered (unit_at scope)) (map final scope.mentions)
      (each_mapped (IsMentionCovered (unit_at scope)) final scope.mentions (each_got (λ one. IsMentionCovered (unit_at scope) (final one)) scope.mentions mention_covered)))

-- ---- the walk

covered_goes : (number : ℕ) (tree : UnitTree) → AreSpelledExternals tree.parts → Ends (s_unit_walk tree) (new_scope number) (λ unit after. All (IsMentionCovered unit) unit.mentions)
covered_goes number tree spelled =
    go_chain _ _ _ _ (new_scope number) (λ done end. IsAtFileScope [] end × (end.unit ≡ number)) _ (externals_go tree.parts spelled [] (new_scope number) (units_begin number)) (λ done end at.
    go_here_then _ _ end _ (go_chain _ _ _ _ end (λ done after. (after ≡ end) × Each (IsLookedAt end) (tentative_things end.things)) _ (tentatives_go end (tentative_things end.things)) (λ done after looked.
    go_gives (unit_of end) after _ (unit_covered end at.0 looked.1))))

pub covered_mentions : MentionsAreCovered
unfolding seen_unit
covered_mentions number tree spelled fine = (covered_goes number tree spelled).ends fine
