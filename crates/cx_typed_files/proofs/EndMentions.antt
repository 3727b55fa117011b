-- What a unit's mentions say at its end: the type of each object and function with external linkage, and whether the unit defines it (ISO C99, 6.2.7p4, 6.9.2).
use Rattle.std.proofs.Common.{◌≡◌, ℕ, Bool, true, false, not, ◌&&◌, ◌||◌, if◌then◌else◌, List, [], map, Option, None, Some, is_some, is_none, slice_get, refl, sym, ap, ◌∙◌}
use Rattle.cx_core.specs.declared.program.Linkage.{Linkage}
use Rattle.cx_core.specs.declared.program.Linkage.TheVariants.{External}
use Rattle.cx_core.specs.Linked.{IsToldIn}
use Rattle.cx_core.specs.Trees.{CTy, ty, void, basic, enum_type, pointer, array, record_type, function, form_of_type, CPuts, no_puts, CObject, CDoes, declares, defines, CMention}
use Rattle.cx_core.specs.Typing.{IsMentionedIn}
use Rattle.cx_rules.specs.Declare.{thing_named, final_type}
use Rattle.cx_rules.specs.Scope.{CThing, CScope}
use Rattle.cx_typed.proofs.Stays.{both}
use Rattle.cx_typed_files.proofs.EndLists.{got_among, among_mapped, among_contains}
use Rattle.cx_typed_files.proofs.EndObjects.{one_element, final_with, was, final_filled}
use Rattle.cx_typed_files.proofs.UnitEnd.{final_mention, final_mention_by, has_no_length, ends_with_one_element}
use Rattle.cx_typed_files.specs.FileScope.{IsAtFileScope}
use Rattle.cx_typed_units.specs.Account.{is_declaring, does_by}
use Rattle.cx_typed_units.specs.Rest.{is_defining}

-- ---- what a mention keeps

pub record IsFinalMention (one final : CMention) : Type 0 where
  pub name_is : final.name ≡ one.name
  pub linkage_is : final.linkage ≡ one.linkage
  pub does_is : final.does ≡ one.does

module _ (things : List CThing) where
  pub mention_keeps : (one : CMention) → IsFinalMention one (final_mention things one)
  mention_keeps one = by_defines (is_defining one.does)
    where
      by_ends : (ends : Bool) (type : CTy) → IsFinalMention one (if ends then record one { type = type } else one)
      by_ends true type = record { name_is = refl; linkage_is = refl; does_is = refl }
      by_ends false type = record { name_is = refl; linkage_is = refl; does_is = refl }

      by_thing : (found : Option CThing) → IsFinalMention one (final_mention_by one found)
      by_thing None = record { name_is = refl; linkage_is = refl; does_is = refl }
      by_thing (Some thing) = by_ends (ends_with_one_element thing) (final_type thing)

      by_defines : (b : Bool) → IsFinalMention one (if b then final_mention_by one (thing_named one.name things) else one)
      by_defines true = by_thing (thing_named one.name things)
      by_defines false = record { name_is = refl; linkage_is = refl; does_is = refl }

  pub mention_unless : (one : CMention) → is_defining one.does ≡ false → final_mention things one ≡ one
  mention_unless one none = ap (λ b. if b then final_mention_by one (thing_named one.name things) else one) none

  -- one of a thing that doesn't end with one element stays
  pub mention_stays : (one : CMention) (thing : CThing) → thing_named one.name things ≡ Some thing → ends_with_one_element thing ≡ false → final_mention things one ≡ one
  mention_stays one thing there none = by_defines (is_defining one.does)
    where
      by_defines : (b : Bool) → (if b then final_mention_by one (thing_named one.name things) else one) ≡ one
      by_defines true = ap (final_mention_by one) there ∙ ap (λ b. if b then record one { type = final_type thing } else one) none
      by_defines false = refl

  pub mention_ends : (one : CMention) (thing : CThing) → thing_named one.name things ≡ Some thing → is_defining one.does ≡ true → ends_with_one_element thing ≡ true → final_mention things one ≡ record one { type = final_type thing }
  mention_ends one thing there defines_it ends =
      ap (λ b. if b then final_mention_by one (thing_named one.name things) else one) defines_it
      ∙ (ap (final_mention_by one) there ∙ ap (λ b. if b then record one { type = final_type thing } else one) ends)

  -- it is among those of the unit
  pub mentioned : (mentions : List CMention) (name : List ℕ) (linkage : Linkage) (type : CTy) (does : CDoes) (place : ℕ) (one : CMention) → slice_get mentions place ≡ Some one → one.name ≡ name → one.linkage ≡ linkage
      → (final_mention things one).type ≡ type → one.does ≡ does → IsMentionedIn (map (final_mention things) mentions) name linkage type does
  mentioned mentions name linkage type does place one here named linked typed doing =
      let keeps = mention_keeps one in
      record {
        one = final_mention things one;
        among = among_contains (final_mention things one) (map (final_mention things) mentions) (among_mapped (final_mention things) one mentions (got_among mentions place one here));
        mention = record { name_is = keeps.name_is ∙ named; linkage_is = keeps.linkage_is ∙ linked; type_is = typed; does_is = keeps.does_is ∙ doing };
      }

-- ---- types

plain_element : (type : CTy) → has_no_length (form_of_type type) ≡ false → one_element type ≡ type
plain_element (ty (array element None) is_const) is = absurd cc
plain_element (ty (array element (Some count)) is_const) is = refl
plain_element (ty void is_const) is = refl
plain_element (ty (basic which) is_const) is = refl
plain_element (ty (enum_type number) is_const) is = refl
plain_element (ty (pointer to) is_const) is = refl
plain_element (ty (record_type number) is_const) is = refl
plain_element (ty (function result params variadic) is_const) is = refl

plain_type : (tentative defined : Bool) (type : CTy) → (tentative && (not defined && has_no_length (form_of_type type))) ≡ false → (if tentative && not defined then one_element type else type) ≡ type
plain_type true true type is = refl
plain_type true false type is = plain_element type is
plain_type false defined type is = refl

and_false : (a b : Bool) → (a && (false && b)) ≡ false
and_false true b = refl
and_false false b = refl

-- as `Linked` says it
abbrev does_of : Option CPuts → CDoes
does_of None = declares
does_of (Some puts) = defines

does_same : (puts : Option CPuts) → does_of puts ≡ does_by (is_some puts)
does_same None = refl
does_same (Some puts) = refl

module _ (scope : CScope) (at : IsAtFileScope [] scope) where
  abbrev mentions : List CMention
  mentions = map (final_mention scope.things) scope.mentions

  module _ (name : List ℕ) (thing : CThing) (there : thing_named name scope.things ≡ Some thing) (object : thing.is_function ≡ false) (external : thing.linkage ≡ External) where
    abbrev one : CObject
    one = (was scope at name thing there object).one

    named_there : (mention : CMention) → mention.name ≡ name → thing_named mention.name scope.things ≡ Some thing
    named_there mention named = ap (λ n. thing_named n scope.things) named ∙ there

    filled_is : (is_defined : Bool) → thing.is_defined ≡ is_defined → (tentative : Bool) → is_some thing.tentative ≡ tentative → is_some (final_with thing.is_defined thing one).puts ≡ (is_defined || tentative)
    filled_is true d tentative t = final_filled scope at name thing there object (ap (λ b. b || is_some thing.tentative) d)
    filled_is false d true t = final_filled scope at name thing there object (ap (λ b. b || is_some thing.tentative) d ∙ t)
    filled_is false d false t =
        ap (λ b. is_some (final_with b thing one).puts) d
        ∙ (ap (λ b. is_some (if b && is_none one.puts then Some no_puts else one.puts)) t ∙ not_stored (is_some one.puts) refl)
      where
        not_stored : (stored : Bool) → is_some one.puts ≡ stored → is_some one.puts ≡ false
        not_stored true e = absurd (let h : false ≡ true = sym d ∙ (was scope at name thing there object).defined e in cc)
        not_stored false e = e

    does_there : (type : CTy) × IsMentionedIn mentions name External type (does_of (final_with thing.is_defined thing one).puts)
    does_there =
        let told = (was scope at name thing there object).does_told external in (
          (final_mention scope.things told.one).type,
          mentioned scope.things scope.mentions name External _ _ told.index told.one told.at told.name_is told.linkage_is refl
              (told.says ∙ (ap does_by (sym (filled_is thing.is_defined refl (is_some thing.tentative) refl)) ∙ sym (does_same (final_with thing.is_defined thing one).puts))),
        )

    record IsTypeTold (type : CTy) : Type 0 where
      does : CDoes
      told : IsMentionedIn mentions name External type does
      declaring : is_declaring does ≡ true

    type_of : (type : CTy) → one.type ≡ type → ends_with_one_element thing ≡ false → IsTypeTold type
    type_of type same none =
        let told = (was scope at name thing there object).type_told external in
        record {
          does = told.one.does;
          told = mentioned scope.things scope.mentions name External type told.one.does told.index told.one told.at told.name_is told.linkage_is
              (ap (λ (x : CMention). x.type) (mention_stays scope.things told.one thing (named_there told.one told.name_is) none) ∙ (told.says.0 ∙ same)) refl;
          declaring = told.says.1;
        }

    type_by : (is_defined : Bool) → thing.is_defined ≡ is_defined → (ends : Bool) → ends_with_one_element thing ≡ ends → IsTypeTold (final_with is_defined thing one).type
    type_by true d ends e = type_of one.type refl (ap (λ b. is_some thing.tentative && (not b && has_no_length (form_of_type thing.type))) d ∙ and_false (is_some thing.tentative) (has_no_length (form_of_type thing.type)))
    type_by false d true e =
        let told = (was scope at name thing there object).does_told external in
        let defining : told.one.does ≡ defines = told.says ∙ (ap (λ b. does_by (b || is_some thing.tentative)) d ∙ ap does_by (both e).0) in
        record {
          does = defines;
          told = mentioned scope.things scope.mentions name External (final_type thing) defines told.index told.one told.at told.name_is told.linkage_is
              (ap (λ (x : CMention). x.type) (mention_ends scope.things told.one thing (named_there told.one told.name_is) (ap is_defining defining) e)) defining;
          declaring = refl;
        }
    type_by false d false e =
        type_of (final_type thing) ((was scope at name thing there object).type_is d ∙ sym (plain_type (is_some thing.tentative) thing.is_defined thing.type e)) e

    -- some declaration says whether the unit defines it, and some its type
    pub object_told : IsToldIn mentions name (final_with thing.is_defined thing one)
    object_told =
        let typed = type_by thing.is_defined refl (ends_with_one_element thing) refl in
        record { type_there = does_there.0; does_is = does_there.1; does_there = typed.does; type_is = typed.told; declaring = typed.declaring }
