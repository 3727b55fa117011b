-- Units that break no rule are typed (ISO C99, 6.9).
use Rattle.std.proofs.Common.{◌≡◌, ℕ, suc, ◌==◌, ◌≤◌, Bool, true, false, if◌then◌else◌, List, [], ◌∷◌, eqb, refl, subst, arith}
use Rattle.std.specs.List.{IsDistinct}
use Rattle.cx_core.specs.Linked.{block_objects, IsTypedUnit}
use Rattle.cx_rules.proofs.UnitNodesAgree.{s_unit_walk}
use Rattle.cx_rules.specs.Declare.{unit_of}
use Rattle.cx_rules.specs.Scope.{CScope, new_scope}
use Rattle.cx_rules.specs.Units.{seen_unit}
use Rattle.cx_rules.specs.UnitWalk.{tentative_things}
use Rattle.cx_tree.specs.Trees.{UnitTree}
use Rattle.cx_typed.proofs.Goes.{go_gives, go_here_then, go_chain}
use Rattle.cx_typed.specs.Walked.{Ends}
use Rattle.cx_typed_files.proofs.EndComplete.{IsLookedAt, tentatives_go}
use Rattle.cx_typed_files.proofs.EndLists.{Each, AreApart, apart_distinct}
use Rattle.cx_typed_files.proofs.Externals.{externals_go}
use Rattle.cx_typed_files.proofs.FileDeclarations.{units_begin}
use Rattle.cx_typed_files.proofs.UnitEnd.{itself}
use Rattle.cx_typed_files.proofs.UnitTyped.{unit_typed}
use Rattle.cx_typed_files.specs.FileScope.{IsAtFileScope}
use Rattle.cx_typed_files.specs.FileUnits.{AreSpelledExternals}
use Rattle.cx_typed_files.specs.UnbrokenUnits.{UnbrokenUnitsAreTyped}
use Rattle.cx_typed_units.specs.Once.{times}

-- ---- no two numbers of a list are the same

none_among : (one : ℕ) (others : List ℕ) → times one others ≡ 0 → Each (λ other. eqb one other ≡ false) others
none_among one [] is = tt
none_among one (other ∷ others) is = by_test (one == other) refl is (λ rest. none_among one others rest)
  where
    by_test : (b : Bool) → (one == other) ≡ b → (if b then suc (times one others) else times one others) ≡ 0 → (times one others ≡ 0 → Each (λ x. eqb one x ≡ false) others)
        → (eqb one other ≡ false) × Each (λ x. eqb one x ≡ false) others
    by_test true e is rest = absurd (omega (arith, is))
    by_test false e is rest = (e, rest is)

apart_once : (numbers : List ℕ) → ((one : ℕ) → times one numbers ≤ 1) → AreApart eqb numbers
apart_once [] once = tt
apart_once (one ∷ others) once = (none_among one others (first_only (one == one) (itself one one refl) (once one)), apart_once others (λ other. fewer other (other == one) (once other)))
  where
    first_only : (b : Bool) → b ≡ true → (if b then suc (times one others) else times one others) ≤ 1 → times one others ≡ 0
    first_only true e most = omega (arith, most)
    first_only false e most = absurd cc

    fewer : (other : ℕ) (b : Bool) → (if b then suc (times other others) else times other others) ≤ 1 → times other others ≤ 1
    fewer other true most = omega (arith, most)
    fewer other false most = most

blocks_differ : (scope : CScope) → IsAtFileScope [] scope → IsDistinct eqb (block_objects scope.functions)
blocks_differ scope at = apart_distinct eqb (block_objects scope.functions) (apart_once (block_objects scope.functions) at.blocks.once)

-- ---- the walk

unit_goes : (number : ℕ) (tree : UnitTree) → AreSpelledExternals tree.parts → Ends (s_unit_walk tree) (new_scope number) (λ unit after. IsTypedUnit number unit)
unit_goes number tree spelled =
    go_chain _ _ _ _ (new_scope number) (λ done end. IsAtFileScope [] end × (end.unit ≡ number)) _ (externals_go tree.parts spelled [] (new_scope number) (units_begin number)) (λ done end at.
    go_here_then _ _ end _ (go_chain _ _ _ _ end (λ done after. (after ≡ end) × Each (IsLookedAt end) (tentative_things end.things)) _ (tentatives_go end (tentative_things end.things)) (λ done after looked.
    go_gives (unit_of end) after _ (subst (λ n. IsTypedUnit n (unit_of end)) at.1 (unit_typed end at.0 looked.1 (blocks_differ end at.0))))))

pub units_are_typed : UnbrokenUnitsAreTyped
unfolding seen_unit
units_are_typed number tree spelled fine = (unit_goes number tree spelled).ends fine
