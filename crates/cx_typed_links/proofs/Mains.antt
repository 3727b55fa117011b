-- The `main` of a program of typed units that break no rule together has its type (ISO C99, 5.1.2.2.1).
use Rattle.std.proofs.Common.{◌≡◌, ◌==◌, not, Bool, true, false, ◌&&◌, List, Option, None, Some, codes, bytes_eq, refl, sym, ap, ◌∙◌, subst}
use Rattle.std.specs.Prelude.{IfSome}
use denote.Enum.Bare.{same_true}
use Rattle.cx_core.specs.contracts.ty.Basic.{the_type}
use Rattle.cx_core.specs.declared.program.Linkage.TheVariants.{External}
use Rattle.cx_core.specs.declared.ty.Basic.{Basic}
use Rattle.cx_core.specs.declared.ty.Basic.TheVariants.{Int}
use Rattle.cx_core.specs.Conversions.{same_basic}
use Rattle.cx_core.specs.Linked.{is_external, is_main, main_of, HasNoParams, IsMainType}
use Rattle.cx_core.specs.Trees.{CTyForm, void, basic, enum_type, pointer, array, record_type, function, CParams, unlisted, listed, no_types, more_types, form_of_type, CFun, defines, CUnit}
use Rattle.cx_core.specs.Typing.{IsMentionedIn}
use Rattle.cx_externals.specs.Functions.{takes_nothing, is_main_form}
use Rattle.cx_links.specs.Program.{counts_before, linked}
use Rattle.cx_links.specs.Rules.{is_declaration, broken_links}
use Rattle.cx_renumber.specs.Numbers.{type_there, does_there}
use Rattle.cx_rules.specs.Types.{same_form}
use Rattle.cx_typed_links.proofs.Compatible.{both, together_true}
use Rattle.cx_typed_links.proofs.Functions.{IsFunctionOf, program_functions}
use Rattle.cx_typed_links.proofs.Mentions.{mention_passes}
use Rattle.cx_typed_links.proofs.Places.{found_holds}
use Rattle.cx_typed_links.specs.Laws.{AreTypedUnits}

-- ---- the type of `main`

basic_is : (one other : Basic) → same_basic one other ≡ true → one ≡ other
unfolding same_basic
basic_is one other is = same_true the_type tt one other is

int_is : (form : CTyForm) → same_form form (basic Int) ≡ true → form ≡ basic Int
int_is (basic which) is = ap (λ found. basic found) (basic_is which Int is)
int_is void is = absurd cc
int_is (enum_type number) is = absurd cc
int_is (pointer to) is = absurd cc
int_is (array element length) is = absurd cc
int_is (record_type number) is = absurd cc
int_is (function result params variadic) is = absurd cc

nothing_taken : (params : CParams) → takes_nothing params ≡ true → HasNoParams params
nothing_taken unlisted is = tt
nothing_taken (listed no_types) is = refl
nothing_taken (listed (more_types first others)) is = absurd cc

main_type_is : (form : CTyForm) → is_main_form form ≡ true → IsMainType form
main_type_is (function result params variadic) is = (int_is (form_of_type result) (both is).0, nothing_taken params (both is).1)
main_type_is void is = absurd cc
main_type_is (basic which) is = absurd cc
main_type_is (enum_type number) is = absurd cc
main_type_is (pointer to) is = absurd cc
main_type_is (array element length) is = absurd cc
main_type_is (record_type number) is = absurd cc

holds_by : (first second test : Bool) → first ≡ true → second ≡ true → (first && (second && not test)) ≡ false → test ≡ true
holds_by true true true a b is = refl
holds_by true true false a b is = absurd cc
holds_by true false test a b is = absurd cc
holds_by false second test a b is = absurd cc

module _ (units : List CUnit) (typed : AreTypedUnits units) (none : broken_links units ≡ None) where
  main_by : (one : CFun) → IsFunctionOf units one → is_main one ≡ true → IsMainType (form_of_type one.type)
  main_by one of is =
      let unit_is = of.in_unit.unit_is in
      let main : is_main of.thing ≡ true = ap is_main (sym of.is) ∙ is in
      let told = found_holds (λ fun. is_external fun.linkage ≡ true → IsMentionedIn of.home.mentions fun.name External fun.type defines)
      (λ fun. fun.function == of.thing.function) of.home.functions of.thing (typed of.unit of.home unit_is).mentions.functions of.in_unit.own.0 in
      let mention = told.0 (both main).1 in
      let right = (mention_passes units none of.unit of.home unit_is mention.one mention.among).right_main in
      let declares : (is_external mention.one.linkage && is_declaration (does_there (counts_before of.unit units) mention.one.does)) ≡ true =
      together_true (ap is_external mention.mention.linkage_is)
      (ap (λ does. is_declaration (does_there (counts_before of.unit units) does)) mention.mention.does_is) in
      let named : bytes_eq mention.one.name (codes "main") ≡ true = ap (λ name. bytes_eq name (codes "main")) mention.mention.name_is ∙ (both main).0 in
      let form : is_main_form (form_of_type (type_there (counts_before of.unit units) mention.one.type)) ≡ true =
      holds_by (is_external mention.one.linkage && is_declaration (does_there (counts_before of.unit units) mention.one.does))
      (bytes_eq mention.one.name (codes "main")) (is_main_form (form_of_type (type_there (counts_before of.unit units) mention.one.type))) declares named right in
      subst (λ (known : CFun). IsMainType (form_of_type known.type)) (sym of.is)
      (subst (λ type. IsMainType (form_of_type (type_there (counts_before of.unit units) type))) mention.mention.type_is
      (main_type_is (form_of_type (type_there (counts_before of.unit units) mention.one.type)) form))

  main_if : (found : Option CFun) → main_of (linked units) ≡ found → IfSome found (λ one. IsMainType (form_of_type one.type))
  main_if None is = tt
  main_if (Some one) is =
      let held = found_holds (IsFunctionOf units) is_main (linked units).functions one (program_functions units typed) is in
      main_by one held.0 held.1

  pub main_typed : IfSome (main_of (linked units)) (λ one. IsMainType (form_of_type one.type))
  main_typed = main_if (main_of (linked units)) refl
