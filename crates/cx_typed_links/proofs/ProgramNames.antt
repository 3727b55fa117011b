-- In a program of typed units that break no rule together each name with external linkage is that of one thing (ISO C99, 6.2.2p2).
use Rattle.std.proofs.Common.{◌≡◌, ◌⊎◌, inl, inr, ℕ, ◌==◌, Bool, true, false, List, [], All, Option, None, Some, slice_get, is_some, refl, sym, ap, ◌∙◌, subst}
use Rattle.std.specs.Prelude.{IsSome}
use Rattle.std.specs.List.{find}
use Rattle.std.proofs.lemmas.Bool.{cases_eq}
use Rattle.std.proofs.lemmas.Slice.Eq.{bytes_eq-Decides}
use Rattle.cx_core.specs.declared.program.Linkage.{Linkage}
use Rattle.cx_core.specs.declared.program.Linkage.TheVariants.{External, Internal, Nothing}
use Rattle.cx_core.specs.Linked.{program_of, is_external, has_linkage, names_with, IsTypedObject, IsTypedFunction, IsToldIn, IsDeclaredOuter, IsDeclaredForm}
use Rattle.cx_core.specs.Statements.{IsDefinitionOf}
use Rattle.cx_core.specs.Trees.{CTyForm, function, form_of_type, CObject, CFun, COuter, CDoes, declares, defines, calls, uses, CMention, CUnit}
use Rattle.cx_core.specs.Typing.{CHome, IsMentionedIn, object_with}
use Rattle.cx_links.specs.Program.{CFound, defined_function, function_of_name, outer_of_name, object_of_name, numbers_of, linked}
use Rattle.cx_links.specs.Rules.{is_declaration, broken_links}
use Rattle.cx_renumber.specs.Numbers.{object_there, function_there, outer_there}
use Rattle.cx_typed_links.proofs.Clashes.{IsFunctionType, IsDeclaredAs, one_kind, IsDefinedIn, one_definition}
use Rattle.cx_typed_links.proofs.ExternalObjects.{some_first, external_object_found}
use Rattle.cx_typed_links.proofs.Functions.{IsFunctionOf}
use Rattle.cx_typed_links.proofs.ObjectNumbers.{same_of}
use Rattle.cx_typed_links.proofs.Objects.{number_of, IsOfUnit, program_objects}
use Rattle.cx_typed_links.proofs.Outers.{AreOtherNames, things_of, IsLeftOf, first_declared}
use Rattle.cx_typed_links.proofs.Places.{found_holds, same_found, same_number}
use Rattle.cx_typed_links.proofs.UnitNames.{IsNoFunction, IsOtherFunction, IsOtherOuter, IsFunctionAlone, has_function_name, no_functions, functions_differ as unit_functions_differ, function_alone, others_are}
use Rattle.cx_typed_links.specs.Laws.{AreTypedUnits}

external_is : (linkage : Linkage) → is_external linkage ≡ true → linkage ≡ External
external_is External is = refl
external_is Internal is = absurd cc
external_is Nothing is = absurd cc

function_form : (home : CHome) (one : CFun) (form : CTyForm) → IsDefinitionOf home one form → IsFunctionType form
function_form home one (function result params variadic) held = tt
function_form home one form held = absurd held

abbrev is_declaring : CDoes → Bool
is_declaring declares = true
is_declaring defines = true
is_declaring (calls trailing) = false
is_declaring uses = false

declaration_of : (does : CDoes) → is_declaring does ≡ true → is_declaration does ≡ true
declaration_of declares is = refl
declaration_of defines is = refl
declaration_of (calls trailing) is = absurd cc
declaration_of uses is = absurd cc

abbrev IsToldOf : List CMention → CObject → Option (List ℕ) → Type 0
IsToldOf mentions one None = ⊥
IsToldOf mentions one (Some name) = IsToldIn mentions name one

module _ (units : List CUnit) (typed : AreTypedUnits units) (none : broken_links units ≡ None) where
  -- ---- objects

  pub object_named : (x y : CObject) → IsOfUnit units x → IsOfUnit units y → (name : List ℕ) → is_external x.linkage ≡ true → x.name ≡ Some name
      → is_external y.linkage ≡ true → y.name ≡ Some name → x ≡ y
  object_named x y of also name x_external x_is y_external y_is =
      let first = standing x of x_external x_is in
      let second = standing y also y_external y_is in
      let same : first.0 ≡ second.0 = same_found (object_of_name units name) first.0 second.0 first.1 second.1 in
      first.2 ∙ ap (λ (found : CFound CObject). object_there (numbers_of units found.home found.unit) found.thing) same ∙ sym second.2
    where
      standing : (x : CObject) → IsOfUnit units x → is_external x.linkage ≡ true → x.name ≡ Some name
          → (found : CFound CObject) × (object_of_name units name ≡ Some found) × (x ≡ object_there (numbers_of units found.home found.unit) found.thing)
      standing x of external is =
          let thing_external : is_external of.thing.linkage ≡ true = ap (λ (one : CObject). is_external one.linkage) (sym of.is) ∙ external in
          let thing_named : of.thing.name ≡ Some name = ap (λ (one : CObject). one.name) (sym of.is) ∙ is in
          let held = external_object_found units typed of.unit of.home of.in_unit.unit_is of.thing.object of.thing of.in_unit.own thing_external name thing_named in
          let there : object_with x.object (linked units).objects ≡ Some (object_there (numbers_of units held.found.home held.found.unit) held.found.thing) =
          ap (λ n. object_with n (linked units).objects) (ap number_of of.is) ∙ held.there in
          let found = found_holds (IsOfUnit units) (λ one. one.object == x.object) (linked units).objects
          (object_there (numbers_of units held.found.home held.found.unit) held.found.thing) (program_objects units typed) there in
          (held.found, held.found_is, same_of units typed x _ of found.0 (sym (same_number _ x.object found.1)))

  object_declared : (x : CObject) (of : IsOfUnit units x) (name : List ℕ) → is_external x.linkage ≡ true → x.name ≡ Some name
      → IsDeclaredAs units name (IsDeclaredForm External) of.unit
  object_declared x of name external is =
      let thing_external : is_external of.thing.linkage ≡ true = ap (λ (one : CObject). is_external one.linkage) (sym of.is) ∙ external in
      let thing_named : of.thing.name ≡ Some name = ap (λ (one : CObject). one.name) (sym of.is) ∙ is in
      let unit = typed of.unit of.home of.in_unit.unit_is in
      let object = found_holds (IsTypedObject (program_of of.home) (Some of.home.mentions)) (λ one. one.object == of.thing.object) of.home.objects of.thing
      unit.objects of.in_unit.own in
      let said = found_holds (λ one. is_external one.linkage ≡ true → IsToldOf of.home.mentions one one.name) (λ one. one.object == of.thing.object) of.home.objects
      of.thing unit.mentions.objects of.in_unit.own in
      let told : IsToldIn of.home.mentions name of.thing = subst (IsToldOf of.home.mentions of.thing) thing_named (said.0 thing_external) in
      record {
        one = of.home;
        unit_is = of.in_unit.unit_is;
        mention = told.type_is.one;
        among = told.type_is.among;
        name_is = told.type_is.mention.name_is;
        linkage_is = told.type_is.mention.linkage_is;
        declaring = ap is_declaration told.type_is.mention.does_is ∙ declaration_of told.does_there told.declaring;
        form = subst (λ type. IsDeclaredForm External (form_of_type type)) (sym told.type_is.mention.type_is)
            (subst (λ linkage. IsDeclaredForm linkage (form_of_type of.thing.type)) (external_is of.thing.linkage thing_external) object.0.object);
      }

  -- ---- functions

  function_mention : (x : CFun) (of : IsFunctionOf units x) → is_external x.linkage ≡ true → IsMentionedIn of.home.mentions x.name External of.thing.type defines
  function_mention x of external =
      let said = found_holds (λ one. is_external one.linkage ≡ true → IsMentionedIn of.home.mentions one.name External one.type defines)
      (λ one. one.function == of.thing.function) of.home.functions of.thing (typed of.unit of.home of.in_unit.unit_is).mentions.functions of.in_unit.own.0 in
      subst (λ name. IsMentionedIn of.home.mentions name External of.thing.type defines) (ap (λ (one : CFun). one.name) (sym of.is))
      (said.0 (ap (λ (one : CFun). is_external one.linkage) (sym of.is) ∙ external))

  function_defined : (x : CFun) (of : IsFunctionOf units x) → is_external x.linkage ≡ true → IsDefinedIn units x.name of.unit
  function_defined x of external =
      let told = function_mention x of external in
      record {
        one = of.home;
        unit_is = of.in_unit.unit_is;
        mention = told.one;
        among = told.among;
        name_is = told.mention.name_is;
        linkage_is = told.mention.linkage_is;
        does_is = told.mention.does_is;
      }

  function_declared : (x : CFun) (of : IsFunctionOf units x) → is_external x.linkage ≡ true → IsDeclaredAs units x.name IsFunctionType of.unit
  function_declared x of external =
      let told = function_mention x of external in
      let held = found_holds (IsTypedFunction (program_of of.home) (Some of.home.mentions)) (λ one. one.function == of.thing.function) of.home.functions of.thing
      (typed of.unit of.home of.in_unit.unit_is).functions of.in_unit.own.0 in
      record {
        one = of.home;
        unit_is = of.in_unit.unit_is;
        mention = told.one;
        among = told.among;
        name_is = told.mention.name_is;
        linkage_is = told.mention.linkage_is;
        declaring = ap is_declaration told.mention.does_is;
        form = subst (λ type. IsFunctionType (form_of_type type)) (sym told.mention.type_is) (function_form _ of.thing (form_of_type of.thing.type) held.0.definition);
      }

  alone_in : (unit : ℕ) (home : CUnit) → slice_get units unit ≡ Some home → All (IsFunctionAlone home.types home.functions) home.functions
  alone_in unit home is =
      function_alone home.types home.functions home.externals
      (unit_functions_differ home.types home.functions home.externals home.objects (typed unit home is).names_differ)

  thing_alone : (x : CFun) (of : IsFunctionOf units x) → is_external x.linkage ≡ true
      → find (has_function_name of.home.types x.name) of.home.functions ≡ Some of.thing
  thing_alone x of external =
      let held = found_holds (IsFunctionAlone of.home.types of.home.functions) (λ one. one.function == of.thing.function) of.home.functions of.thing
      (alone_in of.unit of.home of.in_unit.unit_is) of.in_unit.own.0 in
      subst (λ name. find (has_function_name of.home.types name) of.home.functions ≡ Some of.thing) (ap (λ (one : CFun). one.name) (sym of.is))
      (held.0 (ap (λ (one : CFun). is_external one.linkage) (sym of.is) ∙ external))

  pub function_named : (x y : CFun) → IsFunctionOf units x → IsFunctionOf units y → is_external x.linkage ≡ true → is_external y.linkage ≡ true → x.name ≡ y.name → x ≡ y
  function_named x y of also x_external y_external same = by (cases_eq of.unit also.unit)
    where
      by : ((of.unit ≡ also.unit) ⊎ (of.unit ≡ also.unit → ⊥)) → x ≡ y
      by (inl unit) =
          let home : of.home ≡ also.home =
          same_found (slice_get units also.unit) of.home also.home (subst (λ n. slice_get units n ≡ Some of.home) unit of.in_unit.unit_is) also.in_unit.unit_is in
          let thing : of.thing ≡ also.thing =
          same_found (find (has_function_name also.home.types y.name) also.home.functions) of.thing also.thing
          (subst (λ name. find (has_function_name also.home.types name) also.home.functions ≡ Some of.thing) same
          (subst (λ (one : CUnit). find (has_function_name one.types x.name) one.functions ≡ Some of.thing) home (thing_alone x of x_external)))
          (thing_alone y also y_external) in
          of.is
          ∙ ap (λ n. function_there (numbers_of units of.home n) of.thing) unit
          ∙ ap (λ one. function_there (numbers_of units one also.unit) of.thing) home
          ∙ ap (λ one. function_there (numbers_of units also.home also.unit) one) thing
          ∙ sym also.is
      by (inr apart) =
          absurd (one_definition units none y.name of.unit also.unit apart
          (subst (λ name. IsDefinedIn units name of.unit) same (function_defined x of x_external)) (function_defined y also y_external))

  -- ---- functions that no unit defines

  pub outer_named : (x y : COuter) → IsLeftOf units x → IsLeftOf units y → x.name ≡ y.name → x ≡ y
  outer_named x y of also same =
      let names : of.found.thing.name ≡ also.found.thing.name =
      ap (λ (one : COuter). one.name) (sym of.is) ∙ same ∙ ap (λ (one : COuter). one.name) also.is in
      let found : of.found ≡ also.found =
      same_found (outer_of_name units also.found.thing.name) of.found also.found (ap (outer_of_name units) (sym names) ∙ of.found_is) also.found_is in
      of.is ∙ ap (λ (one : CFound COuter). outer_there (numbers_of units one.home one.unit) one.thing) found ∙ sym also.is

  pub no_function_left : (x : CFun) (y : COuter) → IsFunctionOf units x → IsLeftOf units y → is_external x.linkage ≡ true → x.name ≡ y.name → ⊥
  no_function_left x y of left external same =
      let names : x.name ≡ left.found.thing.name = same ∙ ap (λ (one : COuter). one.name) left.is in
      let some : IsSome (function_of_name units x.name) =
      some_first (defined_function x.name) 0 units of.unit of.home of.in_unit.unit_is (ap is_some (thing_alone x of external)) in
      (let h : IsSome {T = CFound CFun} None =
      subst (λ (found : Option (CFound CFun)). IsSome found) (ap (function_of_name units) names ∙ left.undefined) some in cc)

  -- ---- an object and a function

  object_alone : (x : CObject) (of : IsOfUnit units x) (name : List ℕ) → is_external x.linkage ≡ true → x.name ≡ Some name
      → AreOtherNames name (names_with has_linkage (things_of of.home.types [] of.home.functions of.home.externals))
  object_alone x of name external is =
      let held = found_holds (IsNoFunction of.home.types of.home.functions of.home.externals) (λ one. one.object == of.thing.object) of.home.objects of.thing
      (no_functions of.home.types of.home.functions of.home.externals of.home.objects (typed of.unit of.home of.in_unit.unit_is).names_differ) of.in_unit.own in
      held.0 name (ap (λ (one : CObject). is_external one.linkage) (sym of.is) ∙ external) (ap (λ (one : CObject). one.name) (sym of.is) ∙ is)

  pub no_object_function : (x : CObject) (y : CFun) → IsOfUnit units x → IsFunctionOf units y → is_external x.linkage ≡ true → x.name ≡ Some y.name
      → is_external y.linkage ≡ true → ⊥
  no_object_function x y of also x_external x_is y_external = by (cases_eq of.unit also.unit)
    where
      by : ((of.unit ≡ also.unit) ⊎ (of.unit ≡ also.unit → ⊥)) → ⊥
      by (inl unit) =
          let home : also.home ≡ of.home =
          same_found (slice_get units of.unit) also.home of.home (subst (λ n. slice_get units n ≡ Some also.home) (sym unit) also.in_unit.unit_is) of.in_unit.unit_is in
          let others = (others_are of.home.types y.name of.home.functions of.home.externals (object_alone x of y.name x_external x_is)).0 in
          let own : find (λ one. one.function == also.thing.function) of.home.functions ≡ Some also.thing =
          subst (λ (one : CUnit). find (λ other. other.function == also.thing.function) one.functions ≡ Some also.thing) home also.in_unit.own.0 in
          let held = found_holds (IsOtherFunction of.home.types y.name) (λ one. one.function == also.thing.function) of.home.functions also.thing others own in
          let external : is_external also.thing.linkage ≡ true = ap (λ (one : CFun). is_external one.linkage) (sym also.is) ∙ y_external in
          (let h : true ≡ false = sym ((bytes_eq-Decides y.name also.thing.name).1 (ap (λ (one : CFun). one.name) also.is)) ∙ held.0 external in cc)
      by (inr apart) =
          one_kind units none y.name of.unit also.unit apart (object_declared x of y.name x_external x_is) (function_declared y also y_external)

  outer_declared : (y : COuter) (left : IsLeftOf units y) → IsDeclaredAs units y.name IsFunctionType left.found.unit
  outer_declared y left =
      let first = first_declared units typed left.found.thing.name left.found left.found_is in
      let unit = typed left.found.unit left.found.home first.unit_is in
      let said = found_holds (λ one. IsMentionedIn left.found.home.mentions one.name one.linkage one.type declares) (λ one. one.function == left.found.thing.function)
      left.found.home.externals left.found.thing unit.mentions.externals first.own.0 in
      let held = found_holds (IsDeclaredOuter left.found.home.types left.found.unit) (λ one. one.function == left.found.thing.function)
      left.found.home.externals left.found.thing unit.externals first.own.0 in
      record {
        one = left.found.home;
        unit_is = first.unit_is;
        mention = said.0.one;
        among = said.0.among;
        name_is = said.0.mention.name_is ∙ ap (λ (one : COuter). one.name) (sym left.is);
        linkage_is = said.0.mention.linkage_is ∙ external_is left.found.thing.linkage left.external;
        declaring = ap is_declaration said.0.mention.does_is;
        form = subst (λ type. IsFunctionType (form_of_type type)) (sym said.0.mention.type_is) held.0.is_function;
      }

  pub no_object_outer : (x : CObject) (y : COuter) → IsOfUnit units x → IsLeftOf units y → is_external x.linkage ≡ true → x.name ≡ Some y.name → ⊥
  no_object_outer x y of left x_external x_is = by (cases_eq of.unit left.found.unit)
    where
      by : ((of.unit ≡ left.found.unit) ⊎ (of.unit ≡ left.found.unit → ⊥)) → ⊥
      by (inl unit) =
          let first = first_declared units typed left.found.thing.name left.found left.found_is in
          let home : left.found.home ≡ of.home =
          same_found (slice_get units of.unit) left.found.home of.home (subst (λ n. slice_get units n ≡ Some left.found.home) (sym unit) first.unit_is) of.in_unit.unit_is in
          let others = (others_are of.home.types y.name of.home.functions of.home.externals (object_alone x of y.name x_external x_is)).1 in
          let own : find (λ one. one.function == left.found.thing.function) of.home.externals ≡ Some left.found.thing =
          subst (λ (one : CUnit). find (λ other. other.function == left.found.thing.function) one.externals ≡ Some left.found.thing) home first.own.0 in
          let held = found_holds (IsOtherOuter of.home.types y.name) (λ one. one.function == left.found.thing.function) of.home.externals left.found.thing others own in
          (let h : true ≡ false = sym ((bytes_eq-Decides y.name left.found.thing.name).1 (ap (λ (one : COuter). one.name) left.is)) ∙ held.0 left.external in cc)
      by (inr apart) =
          one_kind units none y.name of.unit left.found.unit apart (object_declared x of y.name x_external x_is) (outer_declared y left)
