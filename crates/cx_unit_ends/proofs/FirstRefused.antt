-- The walk over the tentative definitions that are left stops at the first in the text (ISO C99, 6.9.2p2, p3).
use Rattle.std.proofs.Common.{◌≡◌, ℕ, nat_le, Bool, true, false, if◌then◌else◌, List, [], ◌∷◌, Option, None, Some, option_map, Err, refl, sym, ap, ◌∙◌, arith}
use Rattle.std.proofs.lemmas.Bool.Decides.{nat_tests}
use Rattle.cr_base.specs.declared.refusal.Refusal.{Refusal}
use Rattle.cr_base.specs.declared.refusal.Stop.TheVariants as stop
use Rattle.cr_base.specs.declared.rule.Rule.{Rule}
use Rattle.cx_context.proofs.Settling.{refused_step}
use Rattle.cx_context.specs.Checks.{Checks, refusal_of}
use Rattle.cx_core.specs.Trees.{CTypes}
use Rattle.cx_decl_steps.specs.Steps as steps
use Rattle.cx_rules.specs.Nodes.{CNode, tentative_node}
use Rattle.cx_rules.specs.Pieces.{Done}
use Rattle.cx_rules.specs.Readings.{fine, or_else, check_by, check_behind, check_gives, check_chain, check_here, check_look}
use Rattle.cx_rules.specs.Rules.{rule_at}
use Rattle.cx_rules.specs.Scope.{CScope, CThing}
use Rattle.cx_rules.specs.UnitWalk.{tentative_line, put_by_line, tentative_things}
use Rattle.cx_unit_ends.specs.Ends.{is_left}
use Rattle.cx_unit_ends.specs.Refused.{refused, earlier, first_refused}

-- ---- the order of lines

le_trans : (a b c : ℕ) → nat_le a b ≡ true → nat_le b c ≡ true → nat_le a c ≡ true
le_trans a b c first second = grind (arith, nat_tests, first, second)

not_trans : (a b c : ℕ) → nat_le a b ≡ false → nat_le b c ≡ false → nat_le a c ≡ false
not_trans a b c first second = grind (arith, nat_tests, first, second)

le_other : (a b : ℕ) → nat_le a b ≡ false → nat_le b a ≡ true
le_other a b e = grind (arith, nat_tests, e)

le_zero : (a : ℕ) → nat_le 0 a ≡ true
le_zero a = grind (arith, nat_tests)

-- none stands on a line before this one, nor before the one in front of it
abbrev AreFrom : ℕ → List CThing → Type 0
AreFrom line [] = Unit {0}
AreFrom line (one ∷ others) = (nat_le line (tentative_line one) ≡ true) × AreFrom (tentative_line one) others

from_less : (least line : ℕ) (things : List CThing) → nat_le least line ≡ true → AreFrom line things → AreFrom least things
from_less least line [] le held = tt
from_less least line (one ∷ others) le held = (le_trans least line (tentative_line one) le held.0, held.1)

put_from : (line : ℕ) (one : CThing) (things : List CThing) → nat_le line (tentative_line one) ≡ true → AreFrom line things → AreFrom line (put_by_line one things)
put_from line one [] le held = (le, tt)
put_from line one (first ∷ others) le held = by_test (nat_le (tentative_line one) (tentative_line first)) refl (λ from. put_from (tentative_line first) one others from held.1)
  where
    by_test : (b : Bool) → nat_le (tentative_line one) (tentative_line first) ≡ b
        → (nat_le (tentative_line first) (tentative_line one) ≡ true → AreFrom (tentative_line first) (put_by_line one others))
        → AreFrom line (if b then one ∷ first ∷ others else first ∷ put_by_line one others)
    by_test true e rest = (le, (e, held.1))
    by_test false e rest = (held.0, rest (le_other (tentative_line one) (tentative_line first) e))

ordered : (things : List CThing) → AreFrom 0 (tentative_things things)
ordered [] = tt
ordered (one ∷ others) = by_test (is_left one) (ordered others)
  where
    by_test : (b : Bool) → AreFrom 0 (tentative_things others) → AreFrom 0 (if b then put_by_line one (tentative_things others) else tentative_things others)
    by_test true held = put_from 0 one (tentative_things others) (le_zero (tentative_line one)) held
    by_test false held = held

-- ---- the walk stops at the first of its list

abbrev first_in : CScope → List CThing → Option Refusal
first_in scope [] = None
first_in scope (one ∷ others) = or_else (refused scope one) (first_in scope others)

seen_by_first : (scope : CScope) (things : List CThing) → steps.tentatives_seen things scope ≡ check_by (first_in scope things) scope
unfolding check_gives check_chain check_here check_look
seen_by_first scope [] = refl
seen_by_first scope (one ∷ others) = by_found (refused scope one) (seen_by_first scope others)
  where
    by_found : (found : Option Refusal) → steps.tentatives_seen others scope ≡ check_by (first_in scope others) scope
        → check_behind (check_behind (check_by found scope) (λ _. check_gives Done tt)) (λ _. steps.tentatives_seen others) ≡ check_by (or_else found (first_in scope others)) scope
    by_found None rest = rest
    by_found (Some refusal) rest = refl

-- ---- and that is the first in the text

abbrev at_line : CScope → CThing → Option Rule → Option Refusal
at_line scope one found = option_map (λ rule. record { rule = rule; unit = scope.unit; line = tentative_line one }) found

abbrev rule_of : CScope → CThing → Option Rule
rule_of scope one = rule_at (record { scope = scope; line = tentative_line one; node = tentative_node one.type })

abbrev IsFrom : ℕ → Option Refusal → Type 0
IsFrom line None = Unit {0}
IsFrom line (Some refusal) = nat_le line refusal.line ≡ true

first_from : (scope : CScope) (line : ℕ) (things : List CThing) → AreFrom line things → IsFrom line (first_in scope things)
first_from scope line [] held = tt
first_from scope line (one ∷ others) held = by_found (rule_of scope one) (first_from scope line others (from_less line (tentative_line one) others held.0 held.1))
  where
    by_found : (found : Option Rule) → IsFrom line (first_in scope others) → IsFrom line (or_else (at_line scope one found) (first_in scope others))
    by_found None rest = rest
    by_found (Some rule) rest = held.0

put_here : (scope : CScope) (one : CThing) (found : Option Rule) (rest : Option Refusal) → IsFrom (tentative_line one) rest → or_else (at_line scope one found) rest ≡ earlier (at_line scope one found) rest
put_here scope one None rest from = refl
put_here scope one (Some rule) None from = refl
put_here scope one (Some rule) (Some other) from = ap (λ b. if b then Some (refusal_of scope.unit (tentative_line one) rule) else Some other) (sym from)

put_behind : (scope : CScope) (one first : CThing) (found other : Option Rule) (rest : Option Refusal) → nat_le (tentative_line one) (tentative_line first) ≡ false
    → or_else (at_line scope first other) (earlier (at_line scope one found) rest) ≡ earlier (at_line scope one found) (or_else (at_line scope first other) rest)
put_behind scope one first found None rest e = refl
put_behind scope one first None (Some rule) rest e = refl
put_behind scope one first (Some own) (Some rule) rest e =
    ap (λ b. if b then Some (refusal_of scope.unit (tentative_line one) own) else Some (refusal_of scope.unit (tentative_line first) rule)) (sym e)

put_first : (scope : CScope) (line : ℕ) (one : CThing) (things : List CThing) → AreFrom line things → first_in scope (put_by_line one things) ≡ earlier (refused scope one) (first_in scope things)
put_first scope line one [] held = put_here scope one (rule_of scope one) None tt
put_first scope line one (first ∷ others) held =
    by_test (nat_le (tentative_line one) (tentative_line first)) refl (put_first scope (tentative_line first) one others held.1)
  where
    by_test : (b : Bool) → nat_le (tentative_line one) (tentative_line first) ≡ b
        → first_in scope (put_by_line one others) ≡ earlier (refused scope one) (first_in scope others)
        → first_in scope (if b then one ∷ first ∷ others else first ∷ put_by_line one others) ≡ earlier (refused scope one) (first_in scope (first ∷ others))
    by_test true e rest = put_here scope one (rule_of scope one) (first_in scope (first ∷ others)) (first_from scope (tentative_line one) (first ∷ others) (e, held.1))
    by_test false e rest =
        ap (λ found. or_else (refused scope first) found) rest ∙ put_behind scope one first (rule_of scope one) (rule_of scope first) (first_in scope others) e

first_is : (scope : CScope) (things : List CThing) → first_in scope (tentative_things things) ≡ first_refused scope things
first_is scope [] = refl
first_is scope (one ∷ others) = by_test (is_left one) (first_is scope others)
  where
    by_test : (b : Bool) → first_in scope (tentative_things others) ≡ first_refused scope others
        → first_in scope (if b then put_by_line one (tentative_things others) else tentative_things others) ≡ earlier (if b then refused scope one else None) (first_refused scope others)
    by_test true rest = put_first scope 0 one (tentative_things others) (ordered others) ∙ ap (λ found. earlier (refused scope one) found) rest
    by_test false rest = rest

-- the walk over all that are left
tentatives_stop : (scope : CScope) (things : List CThing) → steps.tentatives_seen (tentative_things things) scope ≡ check_by (first_refused scope things) scope
tentatives_stop scope things = seen_by_first scope (tentative_things things) ∙ ap (λ found. check_by found scope) (first_is scope things)

pub tentatives_fine : (scope : CScope) (things : List CThing) (found : Option Refusal) → found ≡ first_refused scope things → found ≡ None
    → steps.tentatives_seen (tentative_things things) scope ≡ fine tt scope
tentatives_fine scope things found e none = tentatives_stop scope things ∙ ap (λ one. check_by one scope) (sym e ∙ none)

pub tentatives_refused : (scope : CScope) (things : List CThing) (found : Option Refusal) (refusal : Refusal) → found ≡ first_refused scope things → found ≡ Some refusal
    → Checks (λ (_ : Unit {0}). tt) (Err (stop.Refused refusal)) scope (steps.tentatives_seen (tentative_things things) scope)
tentatives_refused scope things found refusal e some =
    refused_step (λ (_ : Unit {0}). tt) (stop.Refused refusal) scope (steps.tentatives_seen (tentative_things things) scope) refusal refl
    (tentatives_stop scope things ∙ ap (λ one. check_by one scope) (sym e ∙ some))

-- ---- the first of three

pub earlier_none : (one : Option Refusal) → earlier one None ≡ one
earlier_none None = refl
earlier_none (Some one) = refl

pub earlier_three : (one other third : Option Refusal) → earlier (earlier one other) third ≡ earlier one (earlier other third)
earlier_three None other third = refl
earlier_three (Some one) None third = refl
earlier_three (Some one) (Some other) None = earlier_none (earlier (Some one) (Some other))
earlier_three (Some one) (Some other) (Some third) = by_tests (nat_le one.line other.line) refl (nat_le other.line third.line) refl
  where
    by_tests : (b : Bool) → nat_le one.line other.line ≡ b → (d : Bool) → nat_le other.line third.line ≡ d
        → earlier (if b then Some one else Some other) (Some third) ≡ earlier (Some one) (if d then Some other else Some third)
    by_tests true e true f =
        ap (λ b. if b then Some one else Some third) (le_trans one.line other.line third.line e f) ∙ ap (λ b. if b then Some one else Some other) (sym e)
    by_tests true e false f = refl
    by_tests false e true f =
        ap (λ b. if b then Some other else Some third) f ∙ ap (λ b. if b then Some one else Some other) (sym e)
    by_tests false e false f =
        ap (λ b. if b then Some other else Some third) f ∙ ap (λ b. if b then Some one else Some third) (sym (not_trans one.line other.line third.line e f))

-- ---- one of them

-- what its rule says, by the types of the scope
pub refused_is : (types : CTypes) (scope : CScope) (line : ℕ) (node : CNode) (found other : Option Rule) → types ≡ scope.types
    → found ≡ rule_at (record { scope = record scope { types = types }; line = line; node = node }) → found ≡ other
    → option_map (refusal_of scope.unit line) other ≡ option_map (λ rule. record { rule = rule; unit = scope.unit; line = line }) (rule_at (record { scope = scope; line = line; node = node }))
refused_is types scope line node found other t e f =
    ap (option_map (refusal_of scope.unit line)) (sym f ∙ e ∙ ap (λ these. rule_at (record { scope = record scope { types = these }; line = line; node = node })) t)
