-- An object that a unit names is named in the program, where units break no rule together (ISO C99, 6.2.2p2, 6.5.1p2, 6.9p5).
use Rattle.std.proofs.Common.{◌≡◌, ℕ, ◌==◌, Bool, true, false, ◌&&◌, List, Option, None, Some, option_map, slice_get, is_some, refl, sym, ap, ◌∙◌, subst}
use Rattle.std.specs.Prelude.{IfSome, IsSome}
use Rattle.std.specs.List.{Contains}
use Rattle.std.proofs.lemmas.List.Elements.{All-contains}
use Rattle.cx_core.specs.declared.program.Linkage.{Linkage}
use Rattle.cx_core.specs.declared.program.Linkage.TheVariants.{External, Internal, Nothing}
use Rattle.cx_core.specs.Compatible.{AreCompatible}
use Rattle.cx_core.specs.Linked.{program_of, is_external, has_linkage, IsTypedObject}
use Rattle.cx_core.specs.Trees.{CTy, CPuts, CTypes, CObject, uses, CUnit}
use Rattle.cx_core.specs.Typing.{CHome, object_with, IsMentioned, IsMentionedIn, IsObjectOf, IsNamed}
use Rattle.cx_links.specs.Program.{CFound, first_unit, or_other, is_object_named, declared_object, defined_object, object_of_name, counts_before, types_of_all, numbers_of, object_number, linked}
use Rattle.cx_links.specs.Rules.{is_use, broken_links}
use Rattle.cx_renumber.specs.Numbers.{CNumbers, type_there, does_there, puts_there, object_there}
use Rattle.cx_typed_files.specs.Covered.{IsMentionCovered}
use Rattle.cx_typed_links.proofs.Compatible.{both, compatible_there}
use Rattle.cx_typed_links.proofs.CoversThere.{covers_there}
use Rattle.cx_typed_links.proofs.ExternalObjects.{some_of, external_object_found}
use Rattle.cx_typed_links.proofs.Listed.{contains_there}
use Rattle.cx_typed_links.proofs.MeantMentions.{IsDefinedIn}
use Rattle.cx_typed_links.proofs.MeantRules.{uses_defined, own_object_defined}
use Rattle.cx_typed_links.proofs.MeantThings.{among, external_has, object_defined, object_where_defined, object_alike, own_stands}
use Rattle.cx_typed_links.proofs.OwnObjects.{own_object}
use Rattle.cx_typed_links.proofs.Places.{first_is}
use Rattle.cx_typed_links.proofs.Programs.{all_types}
use Rattle.cx_typed_links.proofs.Units.{unit_types_inside}
use Rattle.cx_typed_links.specs.Embedding.{AreUnitTypes}
use Rattle.cx_typed_links.specs.Homes.{home_here, home_there}
use Rattle.cx_typed_links.specs.Laws.{AreTypedUnits}
use Rattle.cx_typed_links.specs.Links.{AreCoveredUnits, AreDefiningUnits}
use Rattle.cx_typed_units.proofs.Covering.{covered_compatible}
use Rattle.cx_typed_units.specs.Covers.{Covers}

-- the types of the program
pub same_in_program : (units : List CUnit) (first second : CTy) → AreCompatible (types_of_all units) first second → AreCompatible (linked units).types first second
unfolding linked
same_in_program units first second held = held

pub held_in : {X : Type 0} (P : X → Type 0) (o : Option X) (x : X) → o ≡ Some x → IfSome o P → P x
held_in P None x is held = absurd cc
held_in P (Some other) x is held = (let same : other ≡ x = cc (is) in subst P same held)

pub with_some : {X : Type 0} (P : X → Type 0) (o : Option X) (x : X) → o ≡ Some x → P x → IsSome o × IfSome o P
with_some P o x is held = (subst (λ found. IsSome found) (sym is) refl, subst (λ found. IfSome found P) (sym is) held)

-- ---- an object is there

abbrev IsUsedAs : CHome → CTy → CObject → Option (List ℕ) → Type 0
IsUsedAs home type one None = ⊥
IsUsedAs home type one (Some name) = IsMentioned home.mentions name one.linkage type uses

abbrev IsThereAs : CHome → CTy → CObject → Linkage → Option CPuts → Type 0
IsThereAs home type one linkage (Some puts) = Unit {0}
IsThereAs home type one Nothing None = Contains home.scope one.object
IsThereAs home type one linkage None = IsUsedAs home type one one.name

defined_there : (home : CHome) (type : CTy) (known : CObject) (numbers : CNumbers) (linkage : Linkage) (puts : Option CPuts) → IsSome puts
    → IsThereAs home type known linkage (option_map (puts_there numbers) puts)
defined_there home type known numbers External (Some puts) some = tt
defined_there home type known numbers Internal (Some puts) some = tt
defined_there home type known numbers Nothing (Some puts) some = tt
defined_there home type known numbers linkage None some = absurd cc

module _ (units : List CUnit) (typed : AreTypedUnits units) (covered : AreCoveredUnits units) (defining : AreDefiningUnits units) (unbroken : broken_links units ≡ None)
    (unit : ℕ) (one : CUnit) (is : slice_get units unit ≡ Some one) where
  abbrev whole : CTypes
  whole = types_of_all units

  abbrev numbers : CNumbers
  numbers = numbers_of units one unit

  abbrev moved : CTy → CTy
  moved type = type_there numbers.before type

  pub inside : AreUnitTypes unit numbers.before one.types whole
  inside = unit_types_inside units (all_types units typed) unit one is (typed unit one is)

  pub compatible_goes : (first second : CTy) → AreCompatible one.types first second → AreCompatible whole (moved first) (moved second)
  compatible_goes first second held = compatible_there unit numbers.before one.types whole inside first second held

  -- a type that says no more than one that is compatible with another is compatible with it
  pub covered_goes : (type part : CTy) → Covers one.types type part → (other : CTy) → AreCompatible whole (moved type) other → AreCompatible whole (moved part) other
  covered_goes type part covers other same =
      covered_compatible whole (moved type) (moved part) other (covers_there one.types whole numbers.before inside.inside.enums type part covers) same

  abbrev here : List ℕ → CHome
  here scope = home_here unit numbers (Some one.mentions) (program_of one) (linked units) scope

  abbrev there : List ℕ → CHome
  there scope = home_there unit numbers (Some one.mentions) (program_of one) (linked units) scope

  module _ (scope : List ℕ) (type : CTy) (number : ℕ) (known : CObject) (found_here : object_with number one.objects ≡ Some known) (held : IsObjectOf (here scope) type known) where
    at : Contains one.objects known
    at = (among (λ object. object.object == number) one.objects known found_here).0

    -- ---- without external linkage

    unused : known.linkage ≡ Internal → known.puts ≡ None → (name : Option (List ℕ)) → known.name ≡ name → IsUsedAs (here scope) type known name → ⊥
    unused internal none None named used = absurd used
    unused internal none (Some name) named used =
        own_object_defined units typed defining unbroken unit one is known at (ap has_linkage internal) none used.one used.among
        (named ∙ ap (λ n. Some n) (sym used.mention.name_is)) (ap is_external (used.mention.linkage_is ∙ internal))
        (ap (λ does. is_use (does_there (counts_before unit units) does)) used.mention.does_is)

    there_goes : (linkage : Linkage) → known.linkage ≡ linkage → is_external linkage ≡ false → (puts : Option CPuts) → known.puts ≡ puts → IsThereAs (here scope) type known linkage puts
        → IsThereAs (there scope) (moved type) (object_there numbers known) linkage (option_map (puts_there numbers) puts)
    there_goes External linkage external puts defined known_there = absurd cc
    there_goes Internal linkage external (Some puts) defined known_there = tt
    there_goes Nothing linkage external (Some puts) defined known_there = tt
    there_goes Nothing linkage external None defined known_there = contains_there numbers.object_for scope known.object known_there
    there_goes Internal linkage external None defined known_there = absurd (unused linkage defined known.name refl known_there)

    own_named : is_external known.linkage ≡ false → IsNamed (there scope) (moved type) (object_number units one unit number)
    own_named external =
        with_some (IsObjectOf (there scope) (moved type)) (object_with (object_number units one unit number) (linked units).objects) (object_there numbers known)
        (own_object units typed unit one is number known found_here external)
        (record {
          compatible = same_in_program units (moved type) (moved known.type) (compatible_goes type known.type held.compatible);
          there = there_goes known.linkage refl external known.puts refl held.there;
        })

    -- ---- with it

    module _ (external : is_external known.linkage ≡ true) (name : List ℕ) (named : known.name ≡ Some name) where
      used_by : (linkage : Linkage) → known.linkage ≡ linkage → is_external linkage ≡ true → (text : Option (List ℕ)) → text ≡ Some name → IsThereAs (here scope) type known linkage None → IsUsedAs (here scope) type known text
          → IsMentionedIn one.mentions name known.linkage type uses
      used_by linkage linkage_is outside None named_so known_there used = absurd cc
      used_by linkage linkage_is outside (Some text) named_so known_there used = (let same : text ≡ name = cc (named_so) in subst (λ n. IsMentionedIn one.mentions n known.linkage type uses) same used)

      as_used : (linkage : Linkage) → is_external linkage ≡ true → IsThereAs (here scope) type known linkage None → IsUsedAs (here scope) type known known.name
      as_used External outside known_there = known_there
      as_used Internal outside known_there = absurd cc
      as_used Nothing outside known_there = absurd cc

      -- what isn't defined in the unit is mentioned
      use_of : known.puts ≡ None → IsMentionedIn one.mentions name known.linkage type uses
      use_of none =
          let known_there : IsThereAs (here scope) type known known.linkage None = subst (λ puts. IsThereAs (here scope) type known known.linkage puts) none held.there in
          used_by known.linkage refl external known.name named known_there (as_used known.linkage external known_there)

      some_definition : (puts : Option CPuts) → known.puts ≡ puts → (other : ℕ) × IsDefinedIn units other name
      some_definition None is_none =
          let said = use_of is_none in
          let made = uses_defined units typed defining unbroken unit one is said.one said.among (ap is_external said.mention.linkage_is ∙ external) said.mention.does_is in
          (made.0, subst (λ n. IsDefinedIn units made.0 n) said.mention.name_is made.1)
      some_definition (Some puts) is_some = (unit, object_defined units typed unit one is known at external name named (subst (λ found. IsSome found) (sym is_some) refl))

      -- the program has it defined
      stands_by : (found : CFound CObject) (first : Option (CFound CObject)) → first_unit (defined_object name) 0 units ≡ first → IsSome first
          → or_other first (first_unit (declared_object name) 0 units) ≡ Some found → IsSome found.thing.puts
      stands_by found None first_found some same = absurd cc
      stands_by found (Some first) first_found some same =
          let one_found : first ≡ found = cc (same) in
          let held = first_is (defined_object name) 0 units first first_found in
          let thing = among (λ object. is_object_named name object && is_some object.puts) first.home.objects first.thing held.thing_is in
          subst (λ (found : CFound CObject). IsSome found.thing.puts) one_found (both thing.1).1

      stands : (found : CFound CObject) → object_of_name units name ≡ Some found → IsSome found.thing.puts
      stands found found_is =
          let made = some_definition known.puts refl in
          stands_by found (first_unit (defined_object name) 0 units) refl (object_where_defined units typed unbroken unit one is known at external name named defining made.0 made.1) found_is

      alike : (found : CFound CObject) → object_of_name units name ≡ Some found → (puts : Option CPuts) → known.puts ≡ puts
          → AreCompatible whole (moved type) (type_there (counts_before found.unit units) found.thing.type)
      alike found found_is None none =
          let said = use_of none in
          let covers = (All-contains (IsMentionCovered one) one.mentions said.one (covered unit one is) said.among).object known at none (external_has known.linkage external)
          (named ∙ ap (λ n. Some n) (sym said.mention.name_is)) in
          covered_goes known.type type (subst (λ part. Covers one.types known.type part) said.mention.type_is covers) (type_there (counts_before found.unit units) found.thing.type)
          (object_alike units typed unbroken unit one is known at external name named found found_is)
      alike found found_is (Some puts) some =
          let own = own_stands units typed unbroken unit one is known at external name named (subst (λ found. IsSome found) (sym some) refl) found found_is (stands found found_is) in
          subst (λ (object : CObject). AreCompatible whole (moved type) (type_there (counts_before found.unit units) object.type)) own.1
          (subst (λ n. AreCompatible whole (moved type) (type_there (counts_before n units) known.type)) own.0
          (compatible_goes type known.type held.compatible))

      external_named : IsNamed (there scope) (moved type) (object_number units one unit number)
      external_named =
          let stand = external_object_found units typed unit one is number known found_here external name named in
          let found = stand.found in
          with_some (IsObjectOf (there scope) (moved type)) (object_with (object_number units one unit number) (linked units).objects)
          (object_there (numbers_of units found.home found.unit) found.thing) stand.there
          (record {
            compatible = same_in_program units (moved type) (type_there (counts_before found.unit units) found.thing.type) (alike found stand.found_is known.puts refl);
            there = defined_there (there scope) (moved type) (object_there (numbers_of units found.home found.unit) found.thing) (numbers_of units found.home found.unit)
                found.thing.linkage found.thing.puts (stands found stand.found_is);
          })

    named_by : (external : Bool) → is_external known.linkage ≡ external → IsNamed (there scope) (moved type) (object_number units one unit number)
    named_by false external = own_named external
    named_by true external =
        let name = some_of known.name ((All-contains (IsTypedObject (program_of one) (Some one.mentions)) one.objects known (typed unit one is).objects at).named (external_has known.linkage external)) in
        external_named external name.0 name.1

  objects_by : (scope : List ℕ) (type : CTy) (number : ℕ) (found : Option CObject) → object_with number one.objects ≡ found → IsSome found → IfSome found (IsObjectOf (here scope) type)
      → IsNamed (there scope) (moved type) (object_number units one unit number)
  objects_by scope type number None found_is some held = absurd cc
  objects_by scope type number (Some known) found_is some held = named_by scope type number known found_is held (is_external known.linkage) refl

  -- what is an object's name in the unit is one in the program
  pub objects_hold : (scope : List ℕ) (type : CTy) (number : ℕ) → IsNamed (here scope) type number → IsNamed (there scope) (moved type) (numbers.object_for number)
  objects_hold scope type number named = objects_by scope type number (object_with number one.objects) refl named.0 named.1
