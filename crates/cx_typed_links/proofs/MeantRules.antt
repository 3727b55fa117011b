-- What is used in a unit is defined, where units break no rule together (ISO C99, 6.9p5).
use Rattle.std.proofs.Common.{◌≡◌, ℕ, Bool, true, false, not, ◌&&◌, ◌||◌, if◌then◌else◌, List, Option, None, Some, slice_get, refl, sym, ap, ◌∙◌, subst, ◌⊎◌, inl, inr}
use Rattle.std.specs.Prelude.{IsSome}
use Rattle.std.specs.List.{Contains, list_any}
use Rattle.std.proofs.lemmas.List.Elements.{All-contains}
use Rattle.cx_core.specs.Linked.{is_external, has_linkage}
use Rattle.cx_core.specs.Trees.{form_of_type, CPuts, CTypes, CObject, COuter, defines, uses, CMention, CUnit}
use Rattle.cx_externals.specs.Functions.{is_external_type, is_opaque_trailing}
use Rattle.cx_links.specs.Program.{counts_before, types_of_all, all_mentions, function_of_name, linked}
use Rattle.cx_links.specs.Rules.{is_use, is_other_use, trailing_in, is_defined, is_defined_there, broken_links}
use Rattle.cx_renumber.specs.Numbers.{type_there, does_there, mention_there}
use Rattle.cx_rules.specs.Types.{is_function, is_function_form}
use Rattle.cx_typed_links.proofs.Mentions.{mention_passes}
use Rattle.cx_typed_links.proofs.MeantMentions.{IsDefinedIn, IsDefinedHere, definition, definition_here}
use Rattle.cx_typed_links.proofs.MeantNames.{same_object, no_object_and_function, no_object_and_outer, no_function_and_outer}
use Rattle.cx_typed_links.proofs.MeantThings.{fun_typed, function_where_defined, function_there}
use Rattle.cx_typed_links.specs.Laws.{AreTypedUnits}
use Rattle.cx_typed_files.specs.Defining.{IsDefinitionThere, IsDefinedObject, IsDefinedFunction}
use Rattle.cx_typed_links.specs.Links.{AreDefiningUnits}

-- ---- tests

used_defined : (external function defined other rest used here : Bool) → external ≡ true → other ≡ true → used ≡ true
    → (external && (function && (not defined && (other || rest)))) ≡ false → (used && (if external then not function && not defined else here)) ≡ false → defined ≡ true
used_defined external function true other rest used here a b c profile fine = refl
used_defined true true false true rest used here a b c profile fine = absurd cc
used_defined true false false other rest true here a b c profile fine = absurd cc
used_defined false function false other rest used here a b c profile fine = absurd cc
used_defined true true false false rest used here a b c profile fine = absurd cc
used_defined true false false other rest false here a b c profile fine = absurd cc

used_here : (external used here rest : Bool) → external ≡ false → used ≡ true → (used && (if external then rest else not here)) ≡ false → here ≡ true
used_here external used true rest a b fine = refl
used_here false true false rest a b fine = absurd cc
used_here true used false rest a b fine = absurd cc
used_here false false false rest a b fine = absurd cc

profile_holds : (external function defined other type trails : Bool) → external ≡ true → function ≡ true → defined ≡ false
    → (external && (function && (not defined && (other || (not type || trails))))) ≡ false → (type ≡ true) × (trails ≡ false)
profile_holds true true false false true trails a b c fine = (refl, fine)
profile_holds true true false false false trails a b c fine = absurd cc
profile_holds true true false true type trails a b c fine = absurd cc
profile_holds true true true other type trails a b c fine = absurd cc
profile_holds true false defined other type trails a b c fine = absurd cc
profile_holds false function defined other type trails a b c fine = absurd cc

none_some : {X : Type 0} (found : Option X) → found ≡ None → IsSome found → ⊥
none_some None none some = cc
none_some (Some found) none some = cc

no_puts_there : (puts : Option CPuts) → puts ≡ None → IsSome puts → ⊥
no_puts_there None is some = cc
no_puts_there (Some puts) is some = cc

module _ (units : List CUnit) (typed : AreTypedUnits units) (defining : AreDefiningUnits units) (unbroken : broken_links units ≡ None)
    (unit : ℕ) (one : CUnit) (is : slice_get units unit ≡ Some one) where
  abbrev whole : CTypes
  whole = types_of_all units

  abbrev all : List CMention
  all = all_mentions units

  abbrev there : CMention → CMention
  there mention = mention_there (counts_before unit units) unit mention

  -- ---- external names

  -- a name that is used otherwise than in a call is defined
  pub uses_defined : (mention : CMention) → Contains one.mentions mention → is_external mention.linkage ≡ true → mention.does ≡ uses → (other : ℕ) × IsDefinedIn units other mention.name
  uses_defined mention at external does_is =
      let held = mention_passes units unbroken unit one is mention at in
      definition units unit mention
      (used_defined (is_external mention.linkage) (is_function (there mention).type) (is_defined all (there mention)) (is_other_use (there mention).does) _
      (is_use (there mention).does) _ external (ap (λ does. is_other_use (does_there (counts_before unit units) does)) does_is)
      (ap (λ does. is_use (does_there (counts_before unit units) does)) does_is) held.in_profile held.defined)

  -- what a unit says of a function that no unit defines
  pub record IsInProfile (mention : CMention) : Type 0 where
    pub type_is : is_external_type whole mention.name (form_of_type (type_there (counts_before unit units) mention.type)) ≡ true
    pub trailing : list_any (λ type. not (is_opaque_trailing whole type)) (trailing_in (does_there (counts_before unit units) mention.does)) ≡ false

  pub outside_profile : (known : COuter) → Contains one.externals known → is_external known.linkage ≡ true → function_of_name units known.name ≡ None
      → (mention : CMention) → Contains one.mentions mention → mention.name ≡ known.name → is_external mention.linkage ≡ true → is_function_form (form_of_type mention.type) ≡ true
      → IsInProfile mention
  outside_profile known at external none mention among name_is outside function = by (is_defined all (there mention)) refl where
    by : (defined : Bool) → is_defined all (there mention) ≡ defined → IsInProfile mention
    by true defined =
        let made = definition units unit mention defined in
        absurd (none_some (function_of_name units known.name) none
        (function_where_defined units typed unbroken unit one is known at external defining made.0 (subst (λ n. IsDefinedIn units made.0 n) name_is made.1)))
    by false defined =
        let held = mention_passes units unbroken unit one is mention among in
        let parts = profile_holds (is_external mention.linkage) (is_function (there mention).type) (is_defined all (there mention)) (is_other_use (there mention).does)
        (is_external_type whole mention.name (form_of_type (there mention).type))
        (list_any (λ type. not (is_opaque_trailing whole type)) (trailing_in (there mention).does))
        outside (function_there (counts_before unit units) mention.type function) defined held.in_profile in
        record { type_is = parts.0; trailing = parts.1 }

  -- ---- names without external linkage

  defined_here : (mention : CMention) → Contains one.mentions mention → is_external mention.linkage ≡ false → is_use (there mention).does ≡ true → IsDefinedHere one mention.name
  defined_here mention at internal used =
      let held = mention_passes units unbroken unit one is mention at in
      definition_here units unit one is mention
      (used_here (is_external mention.linkage) (is_use (there mention).does) (is_defined_there all (there mention)) _ internal used held.defined)

  -- a unit uses no object of its own that it doesn't define
  pub own_object_defined : (known : CObject) → Contains one.objects known → has_linkage known.linkage ≡ true → known.puts ≡ None
      → (mention : CMention) → Contains one.mentions mention → known.name ≡ Some mention.name → is_external mention.linkage ≡ false → is_use (there mention).does ≡ true → ⊥
  own_object_defined known at linked none mention among named internal used =
      let here = defined_here mention among internal used in
      let name_is : known.name ≡ Some here.mention.name = named ∙ ap (λ n. Some n) (sym here.name_is) in
      by here.mention name_is (All-contains (IsDefinitionThere one) one.mentions here.mention (defining unit one is) here.among here.does_is)
    where
      by : (other : CMention) → known.name ≡ Some other.name → IsDefinedObject one other ⊎ IsDefinedFunction one other → ⊥
      by other name_is (inl found) =
          let same : known ≡ found.known = same_object one (typed unit one is).names_differ known found.known at found.among linked found.linked other.name name_is found.name_is in
          no_puts_there found.known.puts (ap (λ (object : CObject). object.puts) (sym same) ∙ none) found.defined
      by other name_is (inr found) =
          no_object_and_function one (typed unit one is).names_differ known found.known at found.among linked
          (fun_typed units typed unit one is found.known found.among).linked (name_is ∙ ap (λ n. Some n) (sym found.name_is))

  -- nor a function
  pub own_function_defined : (known : COuter) → Contains one.externals known → has_linkage known.linkage ≡ true
      → (mention : CMention) → Contains one.mentions mention → known.name ≡ mention.name → is_external mention.linkage ≡ false → is_use (there mention).does ≡ true → ⊥
  own_function_defined known at linked mention among named internal used =
      let here = defined_here mention among internal used in
      let name_is : known.name ≡ here.mention.name = named ∙ sym here.name_is in
      by here.mention name_is (All-contains (IsDefinitionThere one) one.mentions here.mention (defining unit one is) here.among here.does_is)
    where
      by : (other : CMention) → known.name ≡ other.name → IsDefinedObject one other ⊎ IsDefinedFunction one other → ⊥
      by other name_is (inl found) =
          no_object_and_outer one (typed unit one is).names_differ found.known known found.among at found.linked linked (found.name_is ∙ ap (λ n. Some n) (sym name_is))
      by other name_is (inr found) =
          no_function_and_outer one (typed unit one is).names_differ found.known known found.among at
          (fun_typed units typed unit one is found.known found.among).linked linked (found.name_is ∙ sym name_is)
