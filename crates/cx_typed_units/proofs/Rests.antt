-- Stretches of expressions, types and initialisers (ISO C99, 6.5, 6.7.5, 6.7.8).
use Rattle.std.proofs.Common.{◌≡◌, ◌⊎◌, inl, inr, ℕ, ◌≤◌, if◌then◌else◌, List, [], ◌∷◌, length, drop, zero, suc, Option, None, Some, is_none, slice_get, refl, ap, subst}
use Rattle.std.specs.List.{Contains}
use Rattle.cx_core.specs.Linked.{IsTypedObject}
use Rattle.cx_core.specs.Trees.{CPuts}
use Rattle.cx_core.specs.Typing.{CHome}
use Rattle.cx_rules.specs.Scope.{CMade, CScope}
use Rattle.cx_rules.specs.UnitWalk.{literals_since}
use Rattle.cx_typed.proofs.Numbered.{was_or_new}
use Rattle.cx_typed.specs.Scopes.{TakesNumbers, AreTypedLiterals, object_made}
use Rattle.cx_typed_units.proofs.Accounted.{rest_accounted}
use Rattle.cx_typed_units.proofs.Blocks.{serves_of, all_on}
use Rattle.cx_typed_units.proofs.RestNodes.{StaysTo}
use Rattle.cx_typed_units.proofs.Stretches.{rest_steps, leads_by, backs_from, holds_earlier}
use Rattle.cx_typed_units.specs.Rest.{CRest}
use Rattle.cx_typed_units.specs.Stretches.{Continues, DeclaresNone, AreIn, HoldsAll, AreTypedUpTo, Leads}

-- ---- the objects of literals

-- as `UnitWalk` says it
abbrev blocks_of : List CMade → List ℕ
blocks_of [] = []
blocks_of (made ∷ others) = if is_none made.fixed then made.object ∷ blocks_of others else blocks_of others

first_in : (scope others : List ℕ) (number : ℕ) (found : Option CPuts) → Contains scope number → AreIn scope others → AreIn scope (if is_none found then number ∷ others else others)
first_in scope others number None held more = (held, more)
first_in scope others number (Some puts) held more = more

all_in : (scope : List ℕ) (all : List CMade) → ((index : ℕ) (one : CMade) → slice_get all index ≡ Some one → Contains scope one.object) → AreIn scope (blocks_of all)
all_in scope [] each = tt
all_in scope (first ∷ all) each = first_in scope (blocks_of all) first.object first.fixed (each zero first refl) (all_in scope all (λ index one is. each (suc index) one is))

pub since_in : (scope : List ℕ) (count : ℕ) (all : List CMade) → ((index : ℕ) (one : CMade) → slice_get all index ≡ Some one → Contains scope one.object) → AreIn scope (blocks_of (drop count all))
since_in scope zero all each = all_in scope all each
since_in scope (suc count) [] each = tt
since_in scope (suc count) (first ∷ all) each = since_in scope count all (λ index one is. each (suc index) one is)

pub literals_in : (home : CHome) (opens : List ℕ) (before after : CScope) → HoldsAll home opens after → AreIn home.scope (literals_since before after)
literals_in home opens before after all = since_in home.scope (length before.literals) after.literals all.literals_inside

-- ---- what is typed

-- literals that were there, or were made since
pub literals_typed : (home : CHome) (before after : CScope) → ((index : ℕ) (one : CMade) → slice_get before.literals index ≡ Some one → slice_get after.literals index ≡ Some one)
    → ((index : ℕ) (one : CMade) → slice_get before.literals index ≡ Some one → IsTypedObject home.program home.mentions (object_made home.unit one))
    → ((index : ℕ) (one : CMade) → length before.literals ≤ index → slice_get after.literals index ≡ Some one → IsTypedObject home.program home.mentions (object_made home.unit one))
    → (index : ℕ) (one : CMade) → slice_get after.literals index ≡ Some one → IsTypedObject home.program home.mentions (object_made home.unit one)
literals_typed home before after kept old new index one is = by_case (was_or_new before.literals after.literals kept index one is)
  where
    by_case : (slice_get before.literals index ≡ Some one) ⊎ (length before.literals ≤ index) → IsTypedObject home.program home.mentions (object_made home.unit one)
    by_case (inl was) = old index one was
    by_case (inr from) = new index one from is

module _ (opens : List ℕ) (before after : CScope) (declares : Continues opens before after) (none : DeclaresNone before after) (stays : StaysTo before after) (numbers : TakesNumbers before after)
    (made : AreTypedLiterals opens before after) where
  rest_typed : AreTypedUpTo opens before → AreTypedUpTo opens after
  rest_typed held home all =
      let steps = rest_steps opens before after declares none stays in
      let was = held home (holds_earlier opens home before after all steps) in
      let serves = serves_of home opens before after (backs_from opens home before after all steps) stays.defined was.held (literals_in home opens before after all) in
      record {
        held = all_on home before after none was.held;
        literals = literals_typed home before after declares.literals was.literals (λ index one from is. made.typed home serves index one from is);
        objects = λ index one is. was.objects index one (subst (λ objects. slice_get objects index ≡ Some one) (ap {A = CRest} (λ rest. rest.objects) stays.rest_is) is);
        functions = λ index one is. was.functions index one (subst (λ functions. slice_get functions index ≡ Some one) steps.functions_are is);
      }

  pub rest_leads : Leads opens before after
  rest_leads =
      leads_by opens before after (rest_steps opens before after declares none stays) (λ pending held. rest_accounted opens pending before after declares stays numbers made held)
      (λ pending account. rest_typed)
