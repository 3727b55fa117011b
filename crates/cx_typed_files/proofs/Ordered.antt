-- What a unit orders by its first declarations is there (ISO C99, 6.2.2).
use Rattle.std.proofs.Common.{◌≡◌, ℕ, Bool, true, false, if◌then◌else◌, [], map, None, Some, is_some, slice_get, All, refl, sym, ap, ◌∙◌, subst}
use Rattle.std.specs.Prelude.{IsSome}
use Rattle.cx_core.specs.Linked.{program_of}
use Rattle.cx_core.specs.Trees.{CKey, a_function, an_object}
use Rattle.cx_core.specs.Typing.{object_with}
use Rattle.cx_rules.proofs.UnitNodesAgree.{s_unit_walk}
use Rattle.cx_rules.specs.Declare.{key_of, thing_named, unit_of}
use Rattle.cx_rules.specs.Scope.{CThing, CScope, new_scope}
use Rattle.cx_rules.specs.Units.{seen_unit}
use Rattle.cx_rules.specs.UnitWalk.{tentative_things}
use Rattle.cx_tree.specs.Trees.{UnitTree}
use Rattle.cx_typed.proofs.Goes.{go_gives, go_here_then, go_chain}
use Rattle.cx_typed.specs.Walked.{Ends}
use Rattle.cx_typed_files.proofs.EndComplete.{IsLookedAt, tentatives_go}
use Rattle.cx_typed_files.proofs.EndFunctions.{function_linked}
use Rattle.cx_typed_files.proofs.EndLists.{Each, each_all, each_got, each_mapped}
use Rattle.cx_typed_files.proofs.EndObjects.{object_found}
use Rattle.cx_typed_files.proofs.Externals.{externals_go}
use Rattle.cx_typed_files.proofs.FileDeclarations.{units_begin}
use Rattle.cx_typed_files.proofs.UnitEnd.{all_objects, in_number_order, unit_at, unit_is}
use Rattle.cx_typed_files.specs.FileScope.{IsAtFileScope}
use Rattle.cx_typed_files.specs.FileUnits.{AreSpelledExternals}
use Rattle.cx_typed_files.specs.Ordered.{IsKeyOf, OrderedThingsAreThere}
use Rattle.cx_typed_units.specs.Account.{account_of, IsAccounted}

module _ (scope : CScope) (at : IsAtFileScope [] scope) where
  held : IsAccounted [] None (account_of scope)
  held = at.accounted

  abbrev IsThere : CKey → Type 0
  IsThere = IsKeyOf (program_of (unit_at scope))

  object_there : (one : CThing) → thing_named one.name scope.things ≡ Some one → one.is_function ≡ false → IsThere (an_object one.number)
  object_there one there object =
      let own = held.object_things one.name one there object in
      subst (λ n. IsSome (object_with n (in_number_order (all_objects scope)))) own.number_is
      (ap is_some (object_found scope at own.index own.one own.at))

  by_kind : (one : CThing) → thing_named one.name scope.things ≡ Some one → (is_function : Bool) → one.is_function ≡ is_function
      → IsThere (if is_function then a_function one.number else an_object one.number)
  by_kind one there true e = (function_linked scope at one.name one there e).0
  by_kind one there false e = object_there one there e

  things_there : All IsThere (map key_of scope.things)
  things_there =
      each_all IsThere (map key_of scope.things)
      (each_mapped IsThere key_of scope.things
      (each_got (λ one. IsThere (key_of one)) scope.things (λ place one here. by_kind one (held.listed place one here) one.is_function refl)))

  unit_orders : All (IsKeyOf (program_of (unit_of scope))) (unit_of scope).order.things
  unit_orders = subst (λ unit. All (IsKeyOf (program_of unit)) unit.order.things) (sym (unit_is scope)) things_there

-- ---- the walk

ordered_goes : (number : ℕ) (tree : UnitTree) → AreSpelledExternals tree.parts
    → Ends (s_unit_walk tree) (new_scope number) (λ unit after. All (IsKeyOf (program_of unit)) unit.order.things)
ordered_goes number tree spelled =
    go_chain _ _ _ _ (new_scope number) (λ done end. IsAtFileScope [] end × (end.unit ≡ number)) _ (externals_go tree.parts spelled [] (new_scope number) (units_begin number)) (λ done end at.
    go_here_then _ _ end _ (go_chain _ _ _ _ end (λ done after. (after ≡ end) × Each (IsLookedAt end) (tentative_things end.things)) _ (tentatives_go end (tentative_things end.things)) (λ done after looked.
    go_gives (unit_of end) after _ (unit_orders end at.0))))

pub ordered_things : OrderedThingsAreThere
unfolding seen_unit
ordered_things number tree spelled fine = (ordered_goes number tree spelled).ends fine
