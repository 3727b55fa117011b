-- A function that a unit names or calls is one of the program, where units break no rule together (ISO C99, 6.2.2p2, 6.3.2.1p4, 6.5.2.2, 6.9p5).
use Rattle.std.proofs.Common.{◌≡◌, ℕ, ◌==◌, Bool, true, false, not, List, map, Option, None, Some, slice_get, refl, sym, ap, ◌∙◌, subst}
use Rattle.std.specs.Prelude.{IfSome, IsSome}
use Rattle.std.specs.List.{Contains, list_any}
use Rattle.std.proofs.lemmas.List.Elements.{All-contains}
use Rattle.cx_core.specs.Compatible.{AreCompatible}
use Rattle.cx_core.specs.Linked.{program_of, is_external}
use Rattle.cx_core.specs.Trees.{CTy, ty, CTyForm, pointer, function, form_of_type, CExprs, CTypes, CFun, COuter, calls, uses, CDoes, CUnit}
use Rattle.cx_core.specs.Typing.{CHome, CCallee, function_with, outer_with, callee_with, IsMentionedIn, IsCodeOf, IsPointerToCode, IsCallOf, IsCalleeOf, IsCallee, IsExternalCall, trailing_of}
use Rattle.cx_externals.specs.Functions.{is_external_type, is_opaque_trailing}
use Rattle.cx_links.specs.Program.{CFound, function_of_name, counts_before, types_of_all, numbers_of, function_number, linked}
use Rattle.cx_links.specs.Rules.{is_use, trailing_in, broken_links}
use Rattle.cx_renumber.specs.Numbers.{CNumbers, type_there, does_there, exprs_there, outer_there}
use Rattle.cx_rules.specs.Types.{is_function_form}
use Rattle.cx_typed_files.specs.Covered.{IsMentionCovered}
use Rattle.cx_typed_links.proofs.Callees.{callee_defined, callee_named, callee_left}
use Rattle.cx_typed_links.proofs.Calls.{HaveTypesIn, call_as_there}
use Rattle.cx_typed_links.proofs.ExternalObjects.{some_of}
use Rattle.cx_typed_links.proofs.MeantExternals.{external_type, call_trails, trail_there}
use Rattle.cx_typed_links.proofs.MeantMentions.{IsDefinedIn}
use Rattle.cx_typed_links.proofs.MeantObjects.{same_in_program, held_in, with_some, inside, compatible_goes, covered_goes}
use Rattle.cx_typed_links.proofs.MeantRules.{IsInProfile, uses_defined, outside_profile, own_function_defined}
use Rattle.cx_typed_links.proofs.MeantThings.{among, function_where_defined, function_alike, outer_alike, outer_typed}
use Rattle.cx_typed_links.proofs.Outers.{first_declared}
use Rattle.cx_typed_links.proofs.Types.{form_of_there}
use Rattle.cx_typed_links.specs.Homes.{home_here, home_there}
use Rattle.cx_typed_links.specs.Laws.{AreTypedUnits}
use Rattle.cx_typed_links.specs.Links.{AreCoveredUnits, AreDefiningUnits}
use Rattle.cx_typed_units.specs.Covers.{Covers}

-- ---- what is called

abbrev callee_by : Option CFun → Option COuter → Option CCallee
callee_by (Some one) outer = Some (record { type = one.type; outer = None })
callee_by None (Some one) = Some (record { type = one.type; outer = Some one })
callee_by None None = None

-- a function of a unit: defined there, or only declared
data IsEitherFunction (one : CUnit) (number : ℕ) : Type 0 where
  own : (known : CFun) → function_with number one.functions ≡ Some known
      → callee_with number (program_of one) ≡ Some (record { type = known.type; outer = None }) → IsEitherFunction one number
  only_declared : (known : COuter) → outer_with number one.externals ≡ Some known
      → callee_with number (program_of one) ≡ Some (record { type = known.type; outer = Some known }) → IsEitherFunction one number

either_by : (one : CUnit) (number : ℕ) (first : Option CFun) (second : Option COuter) → function_with number one.functions ≡ first → outer_with number one.externals ≡ second
    → IsSome (callee_by first second) → IsEitherFunction one number
either_by one number (Some known) second is also some = own known is (ap (λ found. callee_by found (outer_with number one.externals)) is)
either_by one number None (Some known) is also some =
    only_declared known also (ap (λ found. callee_by found (outer_with number one.externals)) is ∙ ap (callee_by None) also)
either_by one number None None is also some = absurd cc

some_as : {X : Type 0} (o p : Option X) → o ≡ p → IsSome o → IsSome p
some_as o p is some = subst (λ found. IsSome found) is some

either_function : (one : CUnit) (number : ℕ) → IsSome (callee_with number (program_of one)) → IsEitherFunction one number
either_function one number some =
    either_by one number (function_with number one.functions) (outer_with number one.externals) refl refl some

-- ---- forms

abbrev IsFunctionForm : CTyForm → Type 0
IsFunctionForm (function result params variadic) = Unit {0}
IsFunctionForm _ = ⊥

function_form : (form : CTyForm) → IsFunctionForm form → is_function_form form ≡ true
function_form (function result params variadic) held = refl
function_form form held = absurd held

form_goes : (before : _) (type : CTy) → IsFunctionForm (form_of_type type) → IsFunctionForm (form_of_type (type_there before type))
form_goes before (ty (function result params variadic) is_const) held = tt
form_goes before (ty form is_const) held = absurd held

called_form : (types : CTypes) (type : CTy) (args : CExprs) (form : CTyForm) → IsCallOf types type args form → is_function_form form ≡ true
called_form types type args (function result params variadic) held = refl
called_form types type args form held = absurd held

module _ (units : List CUnit) (typed : AreTypedUnits units) (covered : AreCoveredUnits units) (defining : AreDefiningUnits units) (unbroken : broken_links units ≡ None)
    (unit : ℕ) (one : CUnit) (is : slice_get units unit ≡ Some one) where
  abbrev whole : CTypes
  whole = types_of_all units

  abbrev numbers : CNumbers
  numbers = numbers_of units one unit

  abbrev moved : CTy → CTy
  moved type = type_there numbers.before type

  abbrev here : List ℕ → CHome
  here scope = home_here unit numbers (Some one.mentions) (program_of one) (linked units) scope

  abbrev there : List ℕ → CHome
  there scope = home_there unit numbers (Some one.mentions) (program_of one) (linked units) scope

  goes : (first second : CTy) → AreCompatible one.types first second → AreCompatible (linked units).types (moved first) (moved second)
  goes first second held =
      same_in_program units (moved first) (moved second) (compatible_goes units typed covered defining unbroken unit one is first second held)

  module _ (known : COuter) (number : ℕ) (found_here : outer_with number one.externals ≡ Some known) where
    at : Contains one.externals known
    at = (among (λ outer. outer.function == number) one.externals known found_here).0

    -- a mention of the function says no more than its declaration
    mention_goes : (visible : CTy) (does : CDoes) → IsMentionedIn one.mentions known.name known.linkage visible does → (other : CTy) → AreCompatible whole (moved known.type) other
        → AreCompatible (linked units).types (moved visible) other
    mention_goes visible does mention other same =
        let covers = (All-contains (IsMentionCovered one) one.mentions mention.one (covered unit one is) mention.among).outer known at (sym mention.mention.name_is) in
        same_in_program units (moved visible) other
        (covered_goes units typed covered defining unbroken unit one is known.type visible
        (subst (λ part. Covers one.types known.type part) mention.mention.type_is covers) other same)

    unused : is_external known.linkage ≡ false → (visible : CTy) (does : CDoes) → IsMentionedIn one.mentions known.name known.linkage visible does
        → is_use (does_there (counts_before unit units) does) ≡ true → ⊥
    unused internal visible does mention used =
        own_function_defined units typed defining unbroken unit one is known at (outer_typed units typed unit one is known at).linked mention.one mention.among
        (sym mention.mention.name_is) (ap is_external mention.mention.linkage_is ∙ internal)
        (ap (λ found. is_use (does_there (counts_before unit units) found)) mention.mention.does_is ∙ used)

    -- what is used otherwise than in a call is defined
    used_function : (external : is_external known.linkage ≡ true) (visible : CTy) → IsMentionedIn one.mentions known.name known.linkage visible uses → (found : CFound CFun) × (function_of_name units known.name ≡ Some found)
    used_function external visible mention =
        let made = uses_defined units typed defining unbroken unit one is mention.one mention.among (ap is_external mention.mention.linkage_is ∙ external) mention.mention.does_is in
        some_of (function_of_name units known.name)
        (function_where_defined units typed unbroken unit one is known at external defining made.0 (subst (λ n. IsDefinedIn units made.0 n) mention.mention.name_is made.1))

    -- ---- a call of a function from outside

    module _ (external : is_external known.linkage ≡ true) (none : function_of_name units known.name ≡ None) (scope : List ℕ) (type : CTy) (args : CExprs)
        (args_known : HaveTypesIn one.types unit args) (visible : CTy) (call : IsCallOf one.types type args (form_of_type visible))
        (mention : IsMentionedIn one.mentions known.name known.linkage visible (calls (trailing_of (form_of_type visible) args))) where
      profile : IsInProfile units typed defining unbroken unit one is mention.one
      profile =
          outside_profile units typed defining unbroken unit one is known at external none mention.one mention.among mention.mention.name_is
          (ap is_external mention.mention.linkage_is ∙ external)
          (subst (λ found. is_function_form (form_of_type found) ≡ true) (sym mention.mention.type_is) (called_form one.types type args (form_of_type visible) call))

      call_there : IsCallOf whole (moved type) (exprs_there numbers args) (form_of_type (moved visible))
      call_there = call_as_there unit numbers one.types whole (inside units typed covered defining unbroken unit one is) type args visible args_known call

      trails : trailing_of (form_of_type (moved visible)) (exprs_there numbers args) ≡ map moved (trailing_of (form_of_type visible) args)
      trails = ap (λ form. trailing_of form (exprs_there numbers args)) (form_of_there numbers.before visible) ∙ trail_there numbers (form_of_type visible) args

      none_clear : list_any (λ other. not (is_opaque_trailing whole other)) (trailing_of (form_of_type (moved visible)) (exprs_there numbers args)) ≡ false
      none_clear =
          ap (list_any (λ other. not (is_opaque_trailing whole other))) trails
          ∙ ap (λ does. list_any (λ other. not (is_opaque_trailing whole other)) (trailing_in (does_there (counts_before unit units) does))) (sym mention.mention.does_is)
          ∙ profile.trailing

      named_as : is_external_type whole known.name (form_of_type (moved visible)) ≡ true
      named_as =
          ap (λ name. is_external_type whole name (form_of_type (moved visible))) (sym mention.mention.name_is)
          ∙ ap (λ found. is_external_type whole mention.one.name (form_of_type (moved found))) (sym mention.mention.type_is)
          ∙ profile.type_is

      outside : IsExternalCall whole known.name (moved visible) (exprs_there numbers args)
      outside = record {
        external = external_type whole known.name (form_of_type (moved visible)) named_as;
        trailing = call_trails whole (moved type) (exprs_there numbers args) (form_of_type (moved visible)) call_there none_clear;
      }

    -- ---- pointers

    code_by : (scope : List ℕ) (visible : CTy) (external : Bool) → is_external known.linkage ≡ external
        → IsPointerToCode (here scope) visible (record { type = known.type; outer = Some known })
        → IsSome (callee_with (function_number units one unit number) (linked units)) × IfSome (callee_with (function_number units one unit number) (linked units)) (IsPointerToCode (there scope) (moved visible))
    code_by scope visible false external held = absurd (unused external visible uses held.usable refl)
    code_by scope visible true external held =
        let found = used_function external visible held.usable in
        with_some (IsPointerToCode (there scope) (moved visible)) (callee_with (function_number units one unit number) (linked units))
        (record { type = type_there (counts_before found.0.unit units) found.0.thing.type; outer = None })
        (callee_named units typed unit one is number known found_here external found.0 found.1)
        (record {
          is_function = form_goes numbers.before visible held.is_function;
          compatible = mention_goes visible uses held.usable (type_there (counts_before found.0.unit units) found.0.thing.type)
              (function_alike units typed unbroken unit one is known at external found.0 found.1);
          usable = tt;
        })

    -- ---- calls

    module _ (scope : List ℕ) (type : CTy) (args : CExprs) (args_known : HaveTypesIn one.types unit args)
        (held : IsCalleeOf (here scope) type args (record { type = known.type; outer = Some known })) where
      abbrev IsCalleeThere : Type 0
      IsCalleeThere = IsCallee (there scope) (function_number units one unit number) (moved type) (exprs_there numbers args)

      call_goes : IsCallOf (linked units).types (moved type) (exprs_there numbers args) (form_of_type (moved held.visible))
      unfolding linked
      call_goes = call_as_there unit numbers one.types whole (inside units typed covered defining unbroken unit one is) type args held.visible args_known held.call

      outside_goes : (external : is_external known.linkage ≡ true) → function_of_name units known.name ≡ None → IsExternalCall (linked units).types known.name (moved held.visible) (exprs_there numbers args)
      unfolding linked
      outside_goes external none = outside external none scope type args args_known held.visible held.call held.outside

      callee_by_name : (external : is_external known.linkage ≡ true) → (found : Option (CFound CFun)) → function_of_name units known.name ≡ found → IsCalleeThere
      callee_by_name external (Some found) found_is =
          with_some (IsCalleeOf (there scope) (moved type) (exprs_there numbers args)) (callee_with (function_number units one unit number) (linked units))
          (record { type = type_there (counts_before found.unit units) found.thing.type; outer = None })
          (callee_named units typed unit one is number known found_here external found found_is)
          (record {
            visible = moved held.visible;
            compatible = mention_goes held.visible (calls (trailing_of (form_of_type held.visible) args)) held.outside (type_there (counts_before found.unit units) found.thing.type)
                (function_alike units typed unbroken unit one is known at external found found_is);
            call = call_goes;
            outside = tt;
          })
      callee_by_name external None none =
          let left = callee_left units typed unit one is number known found_here external none in
          let found = left.found in
          with_some (IsCalleeOf (there scope) (moved type) (exprs_there numbers args)) (callee_with (function_number units one unit number) (linked units))
          (record { type = type_there (counts_before found.unit units) found.thing.type; outer = Some (outer_there (numbers_of units found.home found.unit) found.thing) })
          left.callee
          (record {
            visible = moved held.visible;
            compatible = mention_goes held.visible (calls (trailing_of (form_of_type held.visible) args)) held.outside (type_there (counts_before found.unit units) found.thing.type)
                (outer_alike units typed unbroken unit one is known at external found left.found_is);
            call = call_goes;
            outside = subst (λ name. IsExternalCall (linked units).types name (moved held.visible) (exprs_there numbers args))
                (sym (first_declared units typed known.name found left.found_is).name_is) (outside_goes external none);
          })

      callee_by_linkage : (external : Bool) → is_external known.linkage ≡ external → IsCalleeThere
      callee_by_linkage false external =
          absurd (unused external held.visible (calls (trailing_of (form_of_type held.visible) args)) held.outside refl)
      callee_by_linkage true external = callee_by_name external (function_of_name units known.name) refl

  -- ---- functions of the unit

  code_of : (scope : List ℕ) (number : ℕ) (visible : CTy) → IsEitherFunction one number → IfSome (callee_with number (program_of one)) (IsPointerToCode (here scope) visible)
      → IsSome (callee_with (function_number units one unit number) (linked units)) × IfSome (callee_with (function_number units one unit number) (linked units)) (IsPointerToCode (there scope) (moved visible))
  code_of scope number visible (own known found_here callee) held =
      let held_here = held_in (IsPointerToCode (here scope) visible) (callee_with number (program_of one)) (record { type = known.type; outer = None }) callee held in
      with_some (IsPointerToCode (there scope) (moved visible)) (callee_with (function_number units one unit number) (linked units))
      (record { type = moved known.type; outer = None })
      (callee_defined units typed unit one is number known found_here)
      (record {
        is_function = form_goes numbers.before visible held_here.is_function;
        compatible = goes visible known.type held_here.compatible;
        usable = tt;
      })
  code_of scope number visible (only_declared known found_here callee) held =
      code_by known number found_here scope visible (is_external known.linkage) refl
      (held_in (IsPointerToCode (here scope) visible) (callee_with number (program_of one)) (record { type = known.type; outer = Some known }) callee held)

  -- a function's name in the unit is one in the program
  pub codes_hold : (scope : List ℕ) (number : ℕ) (type : CTy) → IsCodeOf (here scope) number type → IsCodeOf (there scope) (numbers.function_for number) (moved type)
  codes_hold scope number (ty (pointer visible) is_const) (plain, (some, held)) = (plain, code_of scope number visible (either_function one number some) held)
  codes_hold scope number (ty form is_const) held = absurd held

  own_call_goes : (type visible : CTy) (args : CExprs) → HaveTypesIn one.types unit args → IsCallOf one.types type args (form_of_type visible)
      → IsCallOf (linked units).types (moved type) (exprs_there numbers args) (form_of_type (moved visible))
  unfolding linked
  own_call_goes type visible args args_known call =
      call_as_there unit numbers one.types whole (inside units typed covered defining unbroken unit one is) type args visible args_known call

  callee_of : (scope : List ℕ) (number : ℕ) (type : CTy) (args : CExprs) → HaveTypesIn one.types unit args → IsEitherFunction one number
      → IfSome (callee_with number (program_of one)) (IsCalleeOf (here scope) type args)
      → IsCallee (there scope) (function_number units one unit number) (moved type) (exprs_there numbers args)
  callee_of scope number type args args_known (own known found_here callee) held =
      let held_here = held_in (IsCalleeOf (here scope) type args) (callee_with number (program_of one)) (record { type = known.type; outer = None }) callee held in
      with_some (IsCalleeOf (there scope) (moved type) (exprs_there numbers args)) (callee_with (function_number units one unit number) (linked units))
      (record { type = moved known.type; outer = None })
      (callee_defined units typed unit one is number known found_here)
      (record {
        visible = moved held_here.visible;
        compatible = goes held_here.visible known.type held_here.compatible;
        call = own_call_goes type held_here.visible args args_known held_here.call;
        outside = tt;
      })
  callee_of scope number type args args_known (only_declared known found_here callee) held =
      callee_by_linkage known number found_here scope type args args_known
      (held_in (IsCalleeOf (here scope) type args) (callee_with number (program_of one)) (record { type = known.type; outer = Some known }) callee held)
      (is_external known.linkage) refl

  -- and a call in the unit is one in the program
  pub callees_hold : (scope : List ℕ) (number : ℕ) (type : CTy) (args : CExprs) → HaveTypesIn one.types unit args → IsCallee (here scope) number type args
      → IsCallee (there scope) (numbers.function_for number) (moved type) (exprs_there numbers args)
  callees_hold scope number type args args_known held = callee_of scope number type args args_known (either_function one number held.0) held.1
