-- What several units declare and define under one external name, where they break no rule together (ISO C99, 6.2.2p2, 6.2.7p2, 6.9p5).
use Rattle.std.proofs.Common.{◌≡◌, ℕ, ◌==◌, Bool, true, false, ◌&&◌, List, Option, None, Some, slice_get, is_some, bytes_eq, refl, sym, ap, ◌∙◌, arith, subst, ◌⊎◌, inl, inr}
use Rattle.std.specs.Prelude.{IsSome}
use Rattle.std.specs.List.{Contains, find}
use Rattle.std.proofs.lemmas.Bool.Decides.{nat_tests}
use Rattle.std.proofs.lemmas.List.Elements.{All-contains, All-contains_itself}
use Rattle.std.proofs.lemmas.List.Folds.{list_any_at}
use Rattle.std.proofs.lemmas.Slice.Eq.{bytes_eq-Decides}
use Rattle.cx_core.proofs.Relation.{compatible_reflexive}
use Rattle.cx_core.specs.declared.program.Linkage.{Linkage}
use Rattle.cx_core.specs.declared.program.Linkage.TheVariants.{External, Internal, Nothing}
use Rattle.cx_core.specs.Compatible.{forms_agree, in_pairs, AreCompatible}
use Rattle.cx_core.specs.Linked.{program_of, is_external, has_linkage, IsToldIn, IsTypedObject, IsTypedFunction, IsDeclaredOuter, IsDeclaredForm}
use Rattle.cx_core.specs.Statements.{IsDefinitionOf}
use Rattle.cx_core.specs.Trees.{CTy, ty, CTyForm, void, basic, enum_type, pointer, array, record_type, function, form_of_type, CPuts, CTypes, CObject, CFun, COuter, CDoes, declares, defines, CMention, CUnit}
use Rattle.cx_core.specs.Typing.{CHome, IsMentionedIn}
use Rattle.cx_links.specs.Program.{CFound, first_unit, has_name, is_object_named, defined_object, defined_function, object_of_name, function_of_name, outer_of_name, counts_before, types_of_all}
use Rattle.cx_links.specs.Rules.{is_declaration, broken_links}
use Rattle.cx_renumber.specs.Numbers.{CCounts, type_there}
use Rattle.cx_rules.specs.Types.{is_function_form}
use Rattle.cx_typed_links.proofs.Compatible.{both, together_true}
use Rattle.cx_typed_links.proofs.ExternalObjects.{some_first}
use Rattle.cx_typed_links.proofs.Joined.{none_on}
use Rattle.cx_typed_links.proofs.MeantMentions.{IsDeclaredIn, IsDefinedIn, declared_alike, defined_once}
use Rattle.cx_typed_links.proofs.MeantNames.{same_object, same_outer, no_object_and_function, no_object_and_outer, no_function_and_outer}
use Rattle.cx_typed_links.proofs.Objects.{named_thing}
use Rattle.cx_typed_links.proofs.Outers.{first_declared}
use Rattle.cx_typed_links.proofs.Places.{first_is, found_holds, any_found, same_found, same_number}
use Rattle.cx_typed_links.proofs.Types.{declared_there}
use Rattle.cx_typed_links.specs.Laws.{AreTypedUnits}
use Rattle.cx_typed_files.specs.Defining.{IsDefinitionThere, IsDefinedObject, IsDefinedFunction}
use Rattle.cx_typed_links.specs.Links.{AreDefiningUnits}

-- ---- elements

pub among : {X : Type 0} (test : X → Bool) (xs : List X) (x : X) → find test xs ≡ Some x → Contains xs x × (test x ≡ true)
among test xs x is = found_holds (Contains xs) test xs x (All-contains_itself xs) is

found_some : {X : Type 0} (test : X → Bool) (xs : List X) (x : X) → Contains xs x → test x ≡ true → IsSome (find test xs)
found_some test xs x at passes = any_found test xs (list_any_at test xs at.0 x at.1 (ap test at.2 ∙ passes))

pub external_has : (linkage : Linkage) → is_external linkage ≡ true → has_linkage linkage ≡ true
external_has External is = refl
external_has Internal is = absurd cc
external_has Nothing is = absurd cc

-- two units are the same, or not
pub same_or_not : (first second : ℕ) → (first ≡ second) ⊎ (first ≡ second → ⊥)
same_or_not first second = by (first == second) refl where
  by : (same : Bool) → (first == second) ≡ same → (first ≡ second) ⊎ (first ≡ second → ⊥)
  by true is = inl (same_number first second is)
  by false is = inr (λ same. grind (arith, nat_tests, is, same))

-- ---- forms of types

pub function_is : (home : CHome) (one : CFun) (form : CTyForm) → IsDefinitionOf home one form → is_function_form form ≡ true
function_is home one (function result params variadic) held = refl
function_is home one form held = absurd held

abbrev IsFunctionAs : CTyForm → Type 0
IsFunctionAs (function result params variadic) = Unit {0}
IsFunctionAs _ = ⊥

function_as : (form : CTyForm) → IsFunctionAs form → is_function_form form ≡ true
function_as (function result params variadic) held = refl
function_as form held = absurd held

module _ (before : CCounts) where
  pub function_there : (type : CTy) → is_function_form (form_of_type type) ≡ true → is_function_form (form_of_type (type_there before type)) ≡ true
  function_there (ty (function result params variadic) is_const) is = refl
  function_there (ty void is_const) is = absurd cc
  function_there (ty (basic which) is_const) is = absurd cc
  function_there (ty (enum_type number) is_const) is = absurd cc
  function_there (ty (pointer to) is_const) is = absurd cc
  function_there (ty (array element length) is_const) is = absurd cc
  function_there (ty (record_type number) is_const) is = absurd cc

-- no type with which an object may be declared is compatible with a function type
object_or_function : (types : CTypes) (counts : ℕ → ℕ → Bool) (linkage : Linkage) (first second : CTyForm) → IsDeclaredForm linkage first → is_function_form second ≡ true
    → forms_agree types counts first second ≡ true → ⊥
object_or_function types counts linkage (basic which) (function result params variadic) object is same = absurd cc
object_or_function types counts linkage (enum_type number) (function result params variadic) object is same = absurd cc
object_or_function types counts linkage (pointer to) (function result params variadic) object is same = absurd cc
object_or_function types counts linkage (array element length) (function result params variadic) object is same = absurd cc
object_or_function types counts linkage (record_type number) (function result params variadic) object is same = absurd cc
object_or_function types counts linkage void (function result params variadic) object is same = absurd cc
object_or_function types counts linkage (function result params variadic) second object is same = absurd object
object_or_function types counts linkage first void object is same = absurd cc
object_or_function types counts linkage first (basic which) object is same = absurd cc
object_or_function types counts linkage first (enum_type number) object is same = absurd cc
object_or_function types counts linkage first (pointer to) object is same = absurd cc
object_or_function types counts linkage first (array element length) object is same = absurd cc
object_or_function types counts linkage first (record_type number) object is same = absurd cc

kinds_apart : (types : CTypes) (linkage : Linkage) (first second : CTy) → IsDeclaredForm linkage (form_of_type first) → is_function_form (form_of_type second) ≡ true → AreCompatible types first second → ⊥
kinds_apart types linkage (ty first first_const) (ty second second_const) object is same =
    object_or_function types (in_pairs same.pairs) linkage first second object is (both same.meet).1

-- ---- what a unit tells of its things

abbrev IsToldAs : List CMention → CObject → Option (List ℕ) → Type 0
IsToldAs mentions one None = ⊥
IsToldAs mentions one (Some name) = IsToldIn mentions name one

told_as : (mentions : List CMention) (one : CObject) (name : List ℕ) (found : Option (List ℕ)) → found ≡ Some name → IsToldAs mentions one found → IsToldIn mentions name one
told_as mentions one name None is told = absurd cc
told_as mentions one name (Some other) is told = (let same : other ≡ name = cc (is) in subst (λ n. IsToldIn mentions n one) same told)

abbrev does_as : Option CPuts → CDoes
does_as None = declares
does_as (Some puts) = defines

does_defines : (puts : Option CPuts) → IsSome puts → does_as puts ≡ defines
does_defines None some = absurd cc
does_defines (Some puts) some = refl

module _ (units : List CUnit) (typed : AreTypedUnits units) (unit : ℕ) (one : CUnit) (is : slice_get units unit ≡ Some one) where
  told : (known : CObject) → Contains one.objects known → is_external known.linkage ≡ true → (name : List ℕ) → known.name ≡ Some name → IsToldIn one.mentions name known
  told known at external name named =
      told_as one.mentions known name known.name named
      (All-contains (λ object. is_external object.linkage ≡ true → IsToldAs one.mentions object object.name) one.objects known (typed unit one is).mentions.objects at external)

  pub object_declared : (known : CObject) → Contains one.objects known → is_external known.linkage ≡ true → (name : List ℕ) → known.name ≡ Some name
      → IsDeclaredIn units unit name known.type
  object_declared known at external name named =
      let said = told known at external name named in
      record {
        home = one;
        unit_is = is;
        mention = said.type_is.one;
        among = said.type_is.among;
        name_is = said.type_is.mention.name_is;
        external = ap is_external said.type_is.mention.linkage_is;
        type_is = said.type_is.mention.type_is;
        declares = ap is_declaration said.type_is.mention.does_is ∙ said.declaring;
      }

  pub object_defined : (known : CObject) → Contains one.objects known → is_external known.linkage ≡ true → (name : List ℕ) → known.name ≡ Some name → IsSome known.puts
      → IsDefinedIn units unit name
  object_defined known at external name named some =
      let said = told known at external name named in
      record {
        home = one;
        unit_is = is;
        mention = said.does_is.one;
        among = said.does_is.among;
        name_is = said.does_is.mention.name_is;
        external = ap is_external said.does_is.mention.linkage_is;
        does_is = said.does_is.mention.does_is ∙ does_defines known.puts some;
      }

  pub function_declared : (known : CFun) → Contains one.functions known → is_external known.linkage ≡ true → IsDeclaredIn units unit known.name known.type
  function_declared known at external =
      let said = All-contains (λ fun. is_external fun.linkage ≡ true → IsMentionedIn one.mentions fun.name External fun.type defines) one.functions known
      (typed unit one is).mentions.functions at external in
      record {
        home = one;
        unit_is = is;
        mention = said.one;
        among = said.among;
        name_is = said.mention.name_is;
        external = ap is_external said.mention.linkage_is;
        type_is = said.mention.type_is;
        declares = ap is_declaration said.mention.does_is;
      }

  pub outer_told : (known : COuter) → Contains one.externals known → IsMentionedIn one.mentions known.name known.linkage known.type declares
  outer_told known at =
      All-contains (λ outer. IsMentionedIn one.mentions outer.name outer.linkage outer.type declares) one.externals known (typed unit one is).mentions.externals at

  pub outer_declared : (known : COuter) → Contains one.externals known → is_external known.linkage ≡ true → IsDeclaredIn units unit known.name known.type
  outer_declared known at external =
      let said = outer_told known at in
      record {
        home = one;
        unit_is = is;
        mention = said.one;
        among = said.among;
        name_is = said.mention.name_is;
        external = ap is_external said.mention.linkage_is ∙ external;
        type_is = said.mention.type_is;
        declares = ap is_declaration said.mention.does_is;
      }

  pub object_form : (known : CObject) → Contains one.objects known → IsDeclaredForm known.linkage (form_of_type known.type)
  object_form known at = (All-contains (IsTypedObject (program_of one) (Some one.mentions)) one.objects known (typed unit one is).objects at).object

  pub fun_typed : (known : CFun) → Contains one.functions known → IsTypedFunction (program_of one) (Some one.mentions) known
  fun_typed known at = All-contains (IsTypedFunction (program_of one) (Some one.mentions)) one.functions known (typed unit one is).functions at

  pub fun_form : (known : CFun) → Contains one.functions known → is_function_form (form_of_type known.type) ≡ true
  fun_form known at = function_is _ known (form_of_type known.type) (fun_typed known at).definition

  pub outer_typed : (known : COuter) → Contains one.externals known → IsDeclaredOuter one.types unit known
  outer_typed known at = All-contains (IsDeclaredOuter one.types unit) one.externals known (typed unit one is).externals at

  pub outer_form : (known : COuter) → Contains one.externals known → is_function_form (form_of_type known.type) ≡ true
  outer_form known at = function_as (form_of_type known.type) (outer_typed known at).is_function

-- ---- a name of several units

module _ (units : List CUnit) (typed : AreTypedUnits units) (unbroken : broken_links units ≡ None) where
  abbrev whole : CTypes
  whole = types_of_all units

  abbrev type_of_unit : ℕ → CTy → CTy
  type_of_unit unit type = type_there (counts_before unit units) type

  pub same_home : (unit other : ℕ) (one home : CUnit) → slice_get units unit ≡ Some one → slice_get units other ≡ Some home → unit ≡ other → home ≡ one
  same_home unit other one home is also same =
      same_found (slice_get units unit) home one (subst (λ n. slice_get units n ≡ Some home) (sym same) also) is

  -- an object of one and a function of another have no external name in common
  object_and_function : (name : List ℕ) (unit other : ℕ) → (unit ≡ other → ⊥) → (linkage : Linkage) (first second : CTy) → IsDeclaredIn units unit name first → IsDeclaredIn units other name second
      → IsDeclaredForm linkage (form_of_type first) → is_function_form (form_of_type second) ≡ true → ⊥
  object_and_function name unit other differ linkage first second one two object is =
      kinds_apart whole linkage (type_of_unit unit first) (type_of_unit other second)
      (declared_there (counts_before unit units) linkage first object) (function_there (counts_before other units) second is)
      (declared_alike units unbroken name unit other differ first second one two)

  module _ (unit : ℕ) (one : CUnit) (is : slice_get units unit ≡ Some one) where
    -- ---- objects

    module _ (known : CObject) (at : Contains one.objects known) (external : is_external known.linkage ≡ true) (name : List ℕ) (named : known.name ≡ Some name) where
      -- what a unit defines under the name is an object
      pub object_where_defined : AreDefiningUnits units → (other : ℕ) → IsDefinedIn units other name → IsSome (first_unit (defined_object name) 0 units)
      object_where_defined defining other definition =
          by (All-contains (IsDefinitionThere definition.home) definition.home.mentions definition.mention (defining other definition.home definition.unit_is) definition.among definition.does_is)
        where
          by : IsDefinedObject definition.home definition.mention ⊎ IsDefinedFunction definition.home definition.mention → IsSome (first_unit (defined_object name) 0 units)
          by (inl found) =
              let name_is : found.known.name ≡ Some name = found.name_is ∙ ap (λ n. Some n) definition.name_is in
              some_first (defined_object name) 0 units other definition.home definition.unit_is
              (found_some (λ object. is_object_named name object && is_some object.puts) definition.home.objects found.known found.among
              (together_true (together_true (ap is_external found.linkage_is ∙ definition.external)
              (ap (has_name name) name_is ∙ (bytes_eq-Decides name name).1 refl)) found.defined))
          by (inr found) =
              let name_is : found.known.name ≡ name = found.name_is ∙ definition.name_is in
              let outside : is_external found.known.linkage ≡ true = ap is_external found.linkage_is ∙ definition.external in
              absurd (apart (same_or_not unit other) found.known found.among outside name_is)
            where
              apart : (unit ≡ other) ⊎ (unit ≡ other → ⊥) → (fun : CFun) → Contains definition.home.functions fun → is_external fun.linkage ≡ true → fun.name ≡ name → ⊥
              apart (inl same) fun there outside name_is =
                  let home : definition.home ≡ one = same_home unit other one definition.home is definition.unit_is same in
                  no_object_and_function one (typed unit one is).names_differ known fun at (subst (λ (home : CUnit). Contains home.functions fun) home there)
                  (external_has known.linkage external) (external_has fun.linkage outside) (named ∙ ap (λ n. Some n) (sym name_is))
              apart (inr differ) fun there outside name_is =
                  object_and_function name unit other differ known.linkage known.type fun.type (object_declared units typed unit one is known at external name named)
                  (subst (λ n. IsDeclaredIn units other n fun.type) name_is (function_declared units typed other definition.home definition.unit_is fun there outside))
                  (object_form units typed unit one is known at) (fun_form units typed other definition.home definition.unit_is fun there)

      -- what stands for the name has a compatible type
      pub object_alike : (found : CFound CObject) → object_of_name units name ≡ Some found
          → AreCompatible whole (type_of_unit unit known.type) (type_of_unit found.unit found.thing.type)
      object_alike found found_is = by (same_or_not unit found.unit) where
        by : (unit ≡ found.unit) ⊎ (unit ≡ found.unit → ⊥) → AreCompatible whole (type_of_unit unit known.type) (type_of_unit found.unit found.thing.type)
        by (inl same) =
            let thing = named_thing units typed name found found_is in
            let home : found.home ≡ one = same_home unit found.unit one found.home is thing.own.unit_is same in
            let there = subst (λ (home : CUnit). Contains home.objects found.thing) home (among (λ object. object.object == found.thing.object) found.home.objects found.thing thing.own.own).0 in
            let one_thing : known ≡ found.thing =
            same_object one (typed unit one is).names_differ known found.thing at there (external_has known.linkage external)
            (external_has found.thing.linkage thing.external) name named thing.name_is in
            subst (λ (object : CObject). AreCompatible whole (type_of_unit unit known.type) (type_of_unit found.unit object.type)) one_thing
            (subst (λ n. AreCompatible whole (type_of_unit unit known.type) (type_of_unit n known.type)) same (compatible_reflexive whole (type_of_unit unit known.type)))
        by (inr differ) =
            let thing = named_thing units typed name found found_is in
            declared_alike units unbroken name unit found.unit differ known.type found.thing.type (object_declared units typed unit one is known at external name named)
            (object_declared units typed found.unit found.home thing.own.unit_is found.thing
            (among (λ object. object.object == found.thing.object) found.home.objects found.thing thing.own.own).0 thing.external name thing.name_is)

      -- where the unit defines it, that is what stands for the name
      pub own_stands : IsSome known.puts → (found : CFound CObject) → object_of_name units name ≡ Some found → IsSome found.thing.puts → (unit ≡ found.unit) × (known ≡ found.thing)
      own_stands some found found_is defined = by (same_or_not unit found.unit) where
        by : (unit ≡ found.unit) ⊎ (unit ≡ found.unit → ⊥) → (unit ≡ found.unit) × (known ≡ found.thing)
        by (inl same) =
            let thing = named_thing units typed name found found_is in
            let home : found.home ≡ one = same_home unit found.unit one found.home is thing.own.unit_is same in
            let there = subst (λ (home : CUnit). Contains home.objects found.thing) home (among (λ object. object.object == found.thing.object) found.home.objects found.thing thing.own.own).0 in (
              same,
              same_object one (typed unit one is).names_differ known found.thing at there (external_has known.linkage external)
                  (external_has found.thing.linkage thing.external) name named thing.name_is,
            )
        by (inr differ) =
            let thing = named_thing units typed name found found_is in
            absurd (defined_once units unbroken name unit found.unit differ (object_defined units typed unit one is known at external name named some)
            (object_defined units typed found.unit found.home thing.own.unit_is found.thing
            (among (λ object. object.object == found.thing.object) found.home.objects found.thing thing.own.own).0 thing.external name thing.name_is defined))

    -- ---- functions

    module _ (known : COuter) (at : Contains one.externals known) (external : is_external known.linkage ≡ true) where
      -- what a unit defines under the name is a function
      pub function_where_defined : AreDefiningUnits units → (other : ℕ) → IsDefinedIn units other known.name → IsSome (function_of_name units known.name)
      function_where_defined defining other definition =
          by (All-contains (IsDefinitionThere definition.home) definition.home.mentions definition.mention (defining other definition.home definition.unit_is) definition.among definition.does_is)
        where
          by : IsDefinedObject definition.home definition.mention ⊎ IsDefinedFunction definition.home definition.mention → IsSome (function_of_name units known.name)
          by (inr found) =
              some_first (defined_function known.name) 0 units other definition.home definition.unit_is
              (found_some (λ fun. is_external fun.linkage && bytes_eq known.name fun.name) definition.home.functions found.known found.among
              (together_true (ap is_external found.linkage_is ∙ definition.external)
              ((bytes_eq-Decides known.name found.known.name).1 (sym (found.name_is ∙ definition.name_is)))))
          by (inl found) =
              let name_is : found.known.name ≡ Some known.name = found.name_is ∙ ap (λ n. Some n) definition.name_is in
              let outside : is_external found.known.linkage ≡ true = ap is_external found.linkage_is ∙ definition.external in
              absurd (apart (same_or_not unit other) found.known found.among outside name_is)
            where
              apart : (unit ≡ other) ⊎ (unit ≡ other → ⊥) → (object : CObject) → Contains definition.home.objects object → is_external object.linkage ≡ true → object.name ≡ Some known.name → ⊥
              apart (inl same) object there outside name_is =
                  let home : definition.home ≡ one = same_home unit other one definition.home is definition.unit_is same in
                  no_object_and_outer one (typed unit one is).names_differ object known (subst (λ (home : CUnit). Contains home.objects object) home there) at
                  (external_has object.linkage outside) (external_has known.linkage external) name_is
              apart (inr differ) object there outside name_is =
                  object_and_function known.name other unit (λ same. differ (sym same)) object.linkage object.type known.type
                  (object_declared units typed other definition.home definition.unit_is object there outside known.name name_is)
                  (outer_declared units typed unit one is known at external)
                  (object_form units typed other definition.home definition.unit_is object there) (outer_form units typed unit one is known at)

      -- what defines it has a compatible type
      pub function_alike : (found : CFound CFun) → function_of_name units known.name ≡ Some found
          → AreCompatible whole (type_of_unit unit known.type) (type_of_unit found.unit found.thing.type)
      function_alike found found_is =
          let first = first_is (defined_function known.name) 0 units found found_is in
          let unit_is : slice_get units found.unit ≡ Some found.home = subst (λ n. slice_get units n ≡ Some found.home) (sym (first.unit_is ∙ none_on first.at)) first.home_is in
          let there = among (λ fun. is_external fun.linkage && bytes_eq known.name fun.name) found.home.functions found.thing first.thing_is in
          let name_is : known.name ≡ found.thing.name = (bytes_eq-Decides known.name found.thing.name).0 (both there.1).1 in
          by (same_or_not unit found.unit) unit_is there.0 (both there.1).0 name_is
        where
          by : (unit ≡ found.unit) ⊎ (unit ≡ found.unit → ⊥) → slice_get units found.unit ≡ Some found.home → Contains found.home.functions found.thing
              → is_external found.thing.linkage ≡ true → known.name ≡ found.thing.name
              → AreCompatible whole (type_of_unit unit known.type) (type_of_unit found.unit found.thing.type)
          by (inl same) unit_is there outside name_is =
              let home : found.home ≡ one = same_home unit found.unit one found.home is unit_is same in
              absurd (no_function_and_outer one (typed unit one is).names_differ found.thing known (subst (λ (home : CUnit). Contains home.functions found.thing) home there) at
              (external_has found.thing.linkage outside) (external_has known.linkage external) (sym name_is))
          by (inr differ) unit_is there outside name_is =
              declared_alike units unbroken known.name unit found.unit differ known.type found.thing.type (outer_declared units typed unit one is known at external)
              (subst (λ n. IsDeclaredIn units found.unit n found.thing.type) (sym name_is)
              (function_declared units typed found.unit found.home unit_is found.thing there outside))

      -- so has what declares it first, where no unit defines it
      pub outer_alike : (found : CFound COuter) → outer_of_name units known.name ≡ Some found
          → AreCompatible whole (type_of_unit unit known.type) (type_of_unit found.unit found.thing.type)
      outer_alike found found_is = by (same_or_not unit found.unit) where
        by : (unit ≡ found.unit) ⊎ (unit ≡ found.unit → ⊥) → AreCompatible whole (type_of_unit unit known.type) (type_of_unit found.unit found.thing.type)
        by (inl same) =
            let first = first_declared units typed known.name found found_is in
            let home : found.home ≡ one = same_home unit found.unit one found.home is first.unit_is same in
            let there = subst (λ (home : CUnit). Contains home.externals found.thing) home (among (λ outer. outer.function == found.thing.function) found.home.externals found.thing first.own.0).0 in
            let one_thing : known ≡ found.thing =
            same_outer one (typed unit one is).names_differ known found.thing at there (external_has known.linkage external)
            (external_has found.thing.linkage first.external) (sym first.name_is) in
            subst (λ (outer : COuter). AreCompatible whole (type_of_unit unit known.type) (type_of_unit found.unit outer.type)) one_thing
            (subst (λ n. AreCompatible whole (type_of_unit unit known.type) (type_of_unit n known.type)) same (compatible_reflexive whole (type_of_unit unit known.type)))
        by (inr differ) =
            let first = first_declared units typed known.name found found_is in
            declared_alike units unbroken known.name unit found.unit differ known.type found.thing.type (outer_declared units typed unit one is known at external)
            (subst (λ n. IsDeclaredIn units found.unit n found.thing.type) first.name_is
            (outer_declared units typed found.unit found.home first.unit_is found.thing
            (among (λ outer. outer.function == found.thing.function) found.home.externals found.thing first.own.0).0 first.external))
