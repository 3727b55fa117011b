-- A use of a name in a unit is one in the program, and what no unit defines is a function of the profile, where typed units break no rule together (ISO
-- C99, 6.2.2p2, 6.2.7p2, 6.9p5).
use Rattle.std.proofs.Common.{◌≡◌, ◌==◌, true, List, None, Some, refl, sym, ap, ◌∙◌, subst}
use Rattle.std.proofs.lemmas.List.Elements.{All-weaker}
use Rattle.cx_core.specs.declared.program.Linkage.{Linkage}
use Rattle.cx_core.specs.declared.program.Linkage.TheVariants.{External, Internal, Nothing}
use Rattle.cx_core.specs.Externals.{IsExternalType}
use Rattle.cx_core.specs.Linked.{program_of, is_external, IsTypedOuter}
use Rattle.cx_core.specs.Trees.{form_of_type, CExpr, expr, CExprs, no_exprs, more_exprs, type_of, COuter, CUnit}
use Rattle.cx_core.specs.Typing.{CHome, IsTyped, AreTyped}
use Rattle.cx_core.specs.ValidTypes.{IsTypeIn}
use Rattle.cx_externals.specs.Functions.{is_external_type}
use Rattle.cx_links.specs.Program.{counts_before, types_of_all, numbers_of, linked}
use Rattle.cx_links.specs.Rules.{broken_links}
use Rattle.cx_renumber.specs.Numbers.{type_there}
use Rattle.cx_rules.specs.Types.{is_function_form}
use Rattle.cx_typed_links.proofs.Calls.{HaveTypesIn}
use Rattle.cx_typed_links.proofs.MeantExternals.{external_type}
use Rattle.cx_typed_links.proofs.MeantFunctions.{codes_hold, callees_hold}
use Rattle.cx_typed_links.proofs.MeantObjects.{objects_hold}
use Rattle.cx_typed_links.proofs.MeantRules.{outside_profile}
use Rattle.cx_typed_links.proofs.MeantThings.{among, outer_told, outer_form}
use Rattle.cx_typed_links.proofs.Outers.{IsLeftOf, first_declared, program_externals}
use Rattle.cx_typed_links.proofs.Stays.{units_make_programs}
use Rattle.cx_typed_links.specs.Homes.{home_here}
use Rattle.cx_typed_links.specs.Laws.{AreTypedUnits}
use Rattle.cx_typed_links.specs.Links.{AreDefiningUnits, UsesHoldWhereLinked, ExternalsAreTyped, LinkedUnitsMakePrograms}

-- ---- arguments have types of their unit

typed_known : (home : CHome) (of : CExpr) → IsTyped home of → IsTypeIn home.program.types home.unit (type_of of)
typed_known home (expr type place form) held = held.0

args_known : (home : CHome) (args : CExprs) → AreTyped home args → HaveTypesIn home.program.types home.unit args
args_known home no_exprs held = tt
args_known home (more_exprs first others) held = (typed_known home first held.0, args_known home others held.1)

pub uses_hold_where_linked : UsesHoldWhereLinked
uses_hold_where_linked units typed covered defining unbroken unit one is = record {
  objects = λ scope type number known held. objects_hold units typed covered defining unbroken unit one is scope type number held;
  codes = λ scope number type known held. codes_hold units typed covered defining unbroken unit one is scope number type held;
  callees = λ scope number type args known typed_args held.
      callees_hold units typed covered defining unbroken unit one is scope number type args
      (args_known (home_here unit (numbers_of units one unit) (Some one.mentions) (program_of one) (linked units) scope) args typed_args) held;
}

-- ---- what no unit defines

external_only : (linkage : Linkage) → is_external linkage ≡ true → linkage ≡ External
external_only External is = refl
external_only Internal is = absurd cc
external_only Nothing is = absurd cc

module _ (units : List CUnit) (typed : AreTypedUnits units) (defining : AreDefiningUnits units) (unbroken : broken_links units ≡ None) where
  left_type : (one : COuter) → IsLeftOf units one → IsExternalType (types_of_all units) one.name (form_of_type one.type)
  left_type one of =
      let found = of.found in
      let first = first_declared units typed found.thing.name found of.found_is in
      let at = (among (λ outer. outer.function == found.thing.function) found.home.externals found.thing first.own.0).0 in
      let said = outer_told units typed found.unit found.home first.unit_is found.thing at in
      let profile = outside_profile units typed defining unbroken found.unit found.home first.unit_is found.thing at of.external of.undefined said.one said.among
      said.mention.name_is (ap is_external said.mention.linkage_is ∙ of.external)
      (subst (λ type. is_function_form (form_of_type type) ≡ true) (sym said.mention.type_is) (outer_form units typed found.unit found.home first.unit_is found.thing at)) in
      let moved = type_there (counts_before found.unit units) in
      let passes : is_external_type (types_of_all units) found.thing.name (form_of_type (moved found.thing.type)) ≡ true =
      ap (λ name. is_external_type (types_of_all units) name (form_of_type (moved found.thing.type))) (sym said.mention.name_is)
      ∙ ap (λ type. is_external_type (types_of_all units) said.one.name (form_of_type (moved type))) (sym said.mention.type_is)
      ∙ profile.type_is in
      subst (λ (outer : COuter). IsExternalType (types_of_all units) outer.name (form_of_type outer.type)) (sym of.is)
      (external_type (types_of_all units) found.thing.name (form_of_type (moved found.thing.type)) passes)

  left_typed : (one : COuter) → IsLeftOf units one → IsTypedOuter (linked units).types one
  unfolding linked
  left_typed one of = record {
    linkage_is = external_only one.linkage (ap (λ (outer : COuter). is_external outer.linkage) of.is ∙ of.external);
    external = left_type one of;
  }

pub externals_are_typed : ExternalsAreTyped
externals_are_typed units typed defining unbroken =
    All-weaker (IsLeftOf units) (IsTypedOuter (linked units).types) (left_typed units typed defining unbroken) (linked units).externals (program_externals units typed)

pub linked_units_make_programs : LinkedUnitsMakePrograms
linked_units_make_programs units typed covered defining unbroken =
    units_make_programs units typed unbroken (uses_hold_where_linked units typed covered defining unbroken) (externals_are_typed units typed defining unbroken)
