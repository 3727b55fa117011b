-- The objects of blocks, and what a place in a block may name (ISO C99, 6.2.1, 6.2.4, 6.5.2.5p6).
use Rattle.std.proofs.Common.{◌≡◌, ℕ, zero, suc, ◌<◌, ◌≤◌, Bool, true, false, if◌then◌else◌, List, [], ◌∷◌, ◌++◌, length, drop, Option, None, Some, is_none, slice_get, refl, sym, ap, ◌∙◌, subst, arith}
use Rattle.std.specs.Prelude.{IsSome, IfSome}
use Rattle.std.specs.List.{Contains}
use Rattle.cx_core.specs.declared.program.Linkage.{Linkage}
use Rattle.cx_core.specs.declared.program.Linkage.TheVariants.{External, Internal, Nothing}
use Rattle.cx_core.specs.Statements.{AreBlockObjects, IsBlockObject}
use Rattle.cx_core.specs.Trees.{CTy, CPuts, CObject, CMention, uses}
use Rattle.cx_core.specs.Typing.{CHome, object_with, callee_with, IsLiteralOf, IsObjectOf, IsMentioned}
use Rattle.cx_rules.specs.Scope.{CMeant, an_object, a_function, a_type_name, an_enumerator, a_tag, CDeclared, CMade, CScope, ordinary}
use Rattle.cx_rules.specs.UnitWalk.{literals_since}
use Rattle.cx_typed.proofs.Numbered.{not_there}
use Rattle.cx_typed.specs.Scopes.{IsHeld, IsHeldBy, IsHeldObject, IsHeldFunction, IsMade, Serves}
use Rattle.cx_typed_units.proofs.Stretches.{if_some, home_in}
use Rattle.cx_typed_units.specs.Rest.{is_defining, DefinesNone}
use Rattle.cx_typed_units.specs.Stretches.{DeclaresNone, IsInBlock, IsMadeBy, IsMadeThere, Backs, IsHeldAt, AreIn}

-- ---- lists

pub contains_first : (scope : List ℕ) (one : ℕ) → Contains (one ∷ scope) one
contains_first scope one = (zero, omega arith, refl)

pub contains_later : (scope : List ℕ) (first one : ℕ) → Contains scope one → Contains (first ∷ scope) one
contains_later scope first one held = let h : held.0 < length scope = held.1 in (suc held.0, omega (arith, h), held.2)

pub contains_behind : (front scope : List ℕ) (one : ℕ) → Contains scope one → Contains (front ++ scope) one
contains_behind [] scope one held = held
contains_behind (first ∷ front) scope one held = contains_later (front ++ scope) first one (contains_behind front scope one held)

pub are_behind : (front scope all : List ℕ) → AreIn scope all → AreIn (front ++ scope) all
are_behind front scope [] held = tt
are_behind front scope (one ∷ others) held = (contains_behind front scope one held.0, are_behind front scope others held.1)

are_later : (scope : List ℕ) (first : ℕ) (all : List ℕ) → AreIn scope all → AreIn (first ∷ scope) all
are_later scope first [] held = tt
are_later scope first (one ∷ others) held = (contains_later scope first one held.0, are_later scope first others held.1)

pub are_front : (front scope : List ℕ) → AreIn (front ++ scope) front
are_front [] scope = tt
are_front (first ∷ front) scope = (contains_first (front ++ scope) first, are_later (front ++ scope) first front (are_front front scope))

pub are_itself : (all : List ℕ) → AreIn all all
are_itself [] = tt
are_itself (first ∷ others) = (contains_first others first, are_later others first others (are_itself others))

pub are_both : (scope some more : List ℕ) → AreIn scope (some ++ more) → AreIn scope some × AreIn scope more
are_both scope [] more held = (tt, held)
are_both scope (one ∷ others) more held = let both = are_both scope others more held.1 in ((held.0, both.0), both.1)

pub are_joined : (scope some more : List ℕ) → AreIn scope some → AreIn scope more → AreIn scope (some ++ more)
are_joined scope [] more first second = second
are_joined scope (one ∷ others) more first second = (first.0, are_joined scope others more first.1 second)

pub blocks_joined : (home : CHome) (some more : List ℕ) → AreBlockObjects home some → AreBlockObjects home more → AreBlockObjects home (some ++ more)
blocks_joined home [] more first second = second
blocks_joined home (one ∷ others) more first second = (first.0, first.1, blocks_joined home others more first.2 second)

-- ---- the objects of literals

-- as `UnitWalk` says it
abbrev blocks_of : List CMade → List ℕ
blocks_of [] = []
blocks_of (made ∷ others) = if is_none made.fixed then made.object ∷ blocks_of others else blocks_of others

in_first : (scope others : List ℕ) (number : ℕ) (found : Option CPuts) → AreIn scope (if is_none found then number ∷ others else others) → (found ≡ None → Contains scope number) × AreIn scope others
in_first scope others number None held = (λ is. held.0, held.1)
in_first scope others number (Some puts) held = (λ is. absurd cc, held)

in_all : (scope : List ℕ) (all : List CMade) (number : ℕ) (one : CMade) → slice_get all number ≡ Some one → one.fixed ≡ None → AreIn scope (blocks_of all) → Contains scope one.object
in_all scope [] number one is fixed held = absurd cc
in_all scope (first ∷ all) zero one is fixed held =
    let e : first ≡ one = cc in
    subst (λ (made : CMade). Contains scope made.object) e ((in_first scope (blocks_of all) first.object first.fixed held).0 (ap (λ (made : CMade). made.fixed) e ∙ fixed))
in_all scope (first ∷ all) (suc number) one is fixed held = in_all scope all number one is fixed (in_first scope (blocks_of all) first.object first.fixed held).1

in_since : (scope : List ℕ) (count : ℕ) (all : List CMade) (number : ℕ) (one : CMade) → count ≤ number → slice_get all number ≡ Some one → one.fixed ≡ None → AreIn scope (blocks_of (drop count all))
    → Contains scope one.object
in_since scope zero all number one from is fixed held = in_all scope all number one is fixed held
in_since scope (suc count) [] number one from is fixed held = absurd cc
in_since scope (suc count) (first ∷ all) zero one from is fixed held = absurd (omega (arith, from))
in_since scope (suc count) (first ∷ all) (suc number) one from is fixed held = in_since scope count all number one (omega (arith, from)) is fixed held

module _ (home : CHome) where
  block_object : (one : CObject) → IsInBlock home.program.types home.unit one → IsBlockObject home one
  block_object one held = record { no_linkage = held.no_linkage; not_static = held.not_static; here = held.here; complete = held.complete }

  block_first : (others : List ℕ) (made : CMade) (found : Option CPuts) → IsSome (object_with made.object home.program.objects)
      → IfSome (object_with made.object home.program.objects) (IsMadeBy found home.program.types home.unit made) → AreBlockObjects home others
      → AreBlockObjects home (if is_none found then made.object ∷ others else others)
  block_first others made None there held more = (there, if_some _ _ (object_with made.object home.program.objects) (λ one is. block_object one is.in_block) held, more)
  block_first others made (Some puts) there held more = more

  block_all : (all : List CMade) → ((number : ℕ) (one : CMade) → slice_get all number ≡ Some one → IsMadeThere home.program home.unit one) → AreBlockObjects home (blocks_of all)
  block_all [] each = tt
  block_all (first ∷ all) each =
      let here = each zero first refl in
      block_first (blocks_of all) first first.fixed here.0 here.1 (block_all all (λ number one is. each (suc number) one is))

  block_since : (count : ℕ) (all : List CMade) → ((number : ℕ) (one : CMade) → count ≤ number → slice_get all number ≡ Some one → IsMadeThere home.program home.unit one)
      → AreBlockObjects home (blocks_of (drop count all))
  block_since zero all each = block_all all (λ number one is. each number one (omega arith) is)
  block_since (suc count) [] each = tt
  block_since (suc count) (first ∷ all) each = block_since count all (λ number one from is. each (suc number) one (omega (arith, from)) is)

  -- the objects of the literals of a stretch are those of a block
  pub literal_blocks : (opens : List ℕ) (before after : CScope) → Backs home opens before after → AreBlockObjects home (literals_since before after)
  literal_blocks opens before after backs = block_since (length before.literals) after.literals backs.literals

  -- ---- what an expression may name

  module _ (type : CTy) where
    -- as `Typing` says it
    abbrev IsUsedHere : CObject → Option (List ℕ) → Type 0
    IsUsedHere one None = ⊥
    IsUsedHere one (Some name) = IsMentioned home.mentions name one.linkage type uses

    abbrev IsThereHere : CObject → Linkage → Option CPuts → Type 0
    IsThereHere one linkage (Some puts) = Unit {0}
    IsThereHere one Nothing None = Contains home.scope one.object
    IsThereHere one linkage None = IsUsedHere one one.name

    there_static : (one : CObject) (linkage : Linkage) (found : Option CPuts) → IsSome found → IsThereHere one linkage found
    there_static one linkage None is = absurd cc
    there_static one linkage (Some puts) is = tt

  made_by : (made : CMade) (found : Option CPuts) → IsSome (object_with made.object home.program.objects)
      → IfSome (object_with made.object home.program.objects) (IsMadeBy found home.program.types home.unit made) → (found ≡ None → Contains home.scope made.object)
      → IsMade home (record made { fixed = found })
  made_by made None there held inside = (
    there,
    if_some _ (IsLiteralOf home made.type) (object_with made.object home.program.objects) (λ one is. record {
      type_is = is.type_is;
      unnamed = is.unnamed;
      no_text = is.no_text;
      block_object = (is.in_block.no_linkage, is.in_block.not_static);
      there = subst (Contains home.scope) (sym is.number_is) (inside refl);
    }) held,
  )
  made_by made (Some puts) there held inside = (
    there,
    if_some _ (IsObjectOf home made.type) (object_with made.object home.program.objects) (λ one is. record {
      compatible = is.compatible;
      there = there_static made.type one one.linkage one.puts is.static;
    }) held,
  )

  -- a program that backs a stretch of an expression serves it, where a block holds the objects of its literals
  pub serves_of : (opens : List ℕ) (before after : CScope) → Backs home opens before after → DefinesNone before.mentions after.mentions → IsHeldAt home before.declared
      → AreIn home.scope (literals_since before after) → Serves home opens before after
  serves_of opens before after backs none held inside = record {
    unit_is = backs.unit_is;
    grows = backs.grows;
    told = backs.told;
    told_is = backs.told_is;
    declared = held;
    mentions = λ number one from is. told_by number one from is (is_defining one.does) refl;
    literals = λ number one from is.
        let there = backs.literals number one from is in
        made_by one one.fixed there.0 there.1 (λ fixed. in_since home.scope (length before.literals) after.literals number one from is fixed inside);
    statics = backs.statics;
  }
    where
      told_by : (number : ℕ) (one : CMention) → length before.mentions ≤ number → slice_get after.mentions number ≡ Some one → (defining : Bool) → is_defining one.does ≡ defining → Contains backs.told one
      told_by number one from is true e = absurd (not_there before.mentions number one from (none number one is e))
      told_by number one from is false e = backs.mentions number one from is e

-- ---- what is held stays so in a block inside

module _ (home : CHome) (objects : List ℕ) where
  there_inside : (type : CTy) (one : CObject) (linkage : Linkage) (found : Option CPuts) → IsThereHere home type one linkage found
      → IsThereHere (home_in objects home) type one linkage found
  there_inside type one linkage (Some puts) held = tt
  there_inside type one Nothing None held = contains_behind objects home.scope one.object held
  there_inside type one External None held = used_inside type one one.name held
    where
      used_inside : (type : CTy) (one : CObject) (name : Option (List ℕ)) → IsUsedHere home type one name → IsUsedHere (home_in objects home) type one name
      used_inside type one None held = absurd held
      used_inside type one (Some name) held = held
  there_inside type one Internal None held = used_inside type one one.name held
    where
      used_inside : (type : CTy) (one : CObject) (name : Option (List ℕ)) → IsUsedHere home type one name → IsUsedHere (home_in objects home) type one name
      used_inside type one None held = absurd held
      used_inside type one (Some name) held = held

  held_by_inside : (linkage : Linkage) (name : List ℕ) (type : CTy) (one : CObject) → IsHeldBy linkage home name type one → IsHeldBy linkage (home_in objects home) name type one
  held_by_inside Nothing name type one held = there_inside type one one.linkage one.puts held
  held_by_inside Internal name type one held = held
  held_by_inside External name type one held = held

  held_inside : (name : List ℕ) (meant : CMeant) → IsHeld home name meant → IsHeld (home_in objects home) name meant
  held_inside name (an_object number type is_register linkage) held = (
    held.0,
    if_some _ (IsHeldObject (home_in objects home) name type linkage) (object_with number home.program.objects)
        (λ one is. record { compatible = is.compatible; linkage_is = is.linkage_is; held = held_by_inside linkage name type one is.held }) held.1,
  )
  held_inside name (a_function number type linkage) held = (
    held.0,
    held.1,
    if_some _ (IsHeldFunction (home_in objects home) name type linkage) (callee_with number home.program) (λ one is. record { compatible = is.compatible; outer = is.outer }) held.2,
  )
  held_inside name (a_type_name type) held = tt
  held_inside name (an_enumerator value) held = tt
  held_inside name (a_tag is_record goes_on number) held = tt

  pub all_inside : (declared : List CDeclared) → IsHeldAt home declared → IsHeldAt (home_in objects home) declared
  all_inside declared held name meant is = held_inside name meant (held name meant is)

-- where nothing is declared, what is held is held behind it
module _ (home : CHome) (before after : CScope) (none : DeclaresNone before after) where
  held_on : IsHeldAt home before.declared → (name : List ℕ) (meant : CMeant) → ordinary name after.declared ≡ Some meant → IsHeld home name meant
  held_on held name (an_object number type is_register linkage) is = held name _ (none name _ refl is)
  held_on held name (a_function number type linkage) is = held name _ (none name _ refl is)
  held_on held name (a_type_name type) is = tt
  held_on held name (an_enumerator value) is = tt
  held_on held name (a_tag is_record goes_on number) is = tt

  pub all_on : IsHeldAt home before.declared → IsHeldAt home after.declared
  all_on held name meant is = held_on held name meant is
