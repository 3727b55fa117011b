-- An object with a tentative definition is complete at the end of its unit (ISO C99, 6.9.2p2, p3).
use Rattle.std.proofs.Common.{◌≡◌, ℕ, ◌*◌, Bool, true, false, not, ◌&&◌, if◌then◌else◌, List, [], ◌∷◌, Option, None, Some, option_map, is_some, refl, sym, ap, ◌∙◌, subst, arith}
use Rattle.std.specs.Prelude.{IsSome, nat_le}
use Rattle.std.specs.Option.{option_and_then}
use Rattle.cr_base.specs.declared.layout.Laid.{Laid}
use Rattle.cr_base.specs.Layout.{most_bytes}
use Rattle.cx_core.specs.Layouts.{CRow, row_at, elements, whole_extent, within_most, layouts_of}
use Rattle.cx_core.specs.Trees.{CTy, ty, void, basic, enum_type, pointer, array, record_type, function, CTypes}
use Rattle.cx_core.specs.ValidTypes.{IsTypeIn, IsComplete}
use Rattle.cx_rules.proofs.UnitNodesAgree.{s_tentatives_seen}
use Rattle.cx_rules.specs.Nodes.{tentative_node}
use Rattle.cx_rules.specs.Scope.{CThing, CScope}
use Rattle.cx_rules.specs.Types.{is_function, is_array, is_incomplete}
use Rattle.cx_typed.proofs.Compounds.{row_complete, within_some}
use Rattle.cx_typed.proofs.Listed.{basic_complete}
use Rattle.cx_typed.proofs.Goes.{go_gives, go_here_then, go_chain, go_settled}
use Rattle.cx_typed.specs.Unbroken.{IsUnbroken}
use Rattle.cx_typed.specs.Walked.{Ends}
use Rattle.cx_typed_files.proofs.EndLists.{Each}
use Rattle.cx_typed_files.proofs.EndObjects.{one_element}

-- ---- what the end of the unit looks at

abbrev pub IsLookedAt : CScope → CThing → Type 0
IsLookedAt scope one = IsUnbroken scope scope.types (tentative_node one.type)

pub tentatives_go : (scope : CScope) (things : List CThing) → Ends (s_tentatives_seen things) scope (λ done after. (after ≡ scope) × Each (IsLookedAt scope) things)
tentatives_go scope [] = go_gives _ scope _ (refl, tt)
tentatives_go scope (one ∷ others) =
    go_chain _ _ _ _ scope (λ done middle. (middle ≡ scope) × IsLookedAt scope one) _ (go_here_then _ _ scope _ (go_settled _ scope _ _ _ scope _ (λ unbroken. (refl, unbroken)))) (λ done middle first.
    subst (λ from. Ends (s_tentatives_seen others) from (λ done after. (after ≡ scope) × Each (IsLookedAt scope) (one ∷ others))) (sym first.0) (record {
      ends = λ fine. let rest = (tentatives_go scope others).ends fine in (rest.0, (first.1, rest.1));
    }))

-- ---- one element is no larger than its array

within_test : (laid : Laid) (test : Bool) → nat_le laid.size most_bytes ≡ test → IsSome (if test then Some laid else None) → nat_le laid.size most_bytes ≡ true
within_test laid true e is = e
within_test laid false e is = absurd cc

one_fits : (found : Option Laid) → IsSome (option_and_then within_most found) → IsSome (option_and_then within_most (elements 1 found))
one_fits None is = absurd cc
one_fits (Some laid) is =
    let same : 1 * laid.size ≡ laid.size = omega arith in
    within_some (record { size = 1 * laid.size; align = laid.align }) (ap (λ n. nat_le n most_bytes) same ∙ within_test laid (nat_le laid.size most_bytes) refl is)

row_there : (found : Option CRow) → not (is_some (option_map (λ row. row.laid) found)) ≡ false → IsSome found
row_there None is = absurd cc
row_there (Some row) is = refl

pub final_complete : (types : CTypes) (unit : ℕ) (type : CTy) → IsTypeIn types unit type → is_function type ≡ false → (not (is_array type) && is_incomplete types type) ≡ false → IsComplete types (one_element type)
final_complete types unit (ty (array element None) is_const) known object sized = one_fits (whole_extent (layouts_of types) element) known.1.complete
final_complete types unit (ty (array element (Some count)) is_const) known object sized = known.1.length.1
final_complete types unit (ty (record_type number) is_const) known object sized = row_complete types number is_const (row_at (layouts_of types) number) refl (row_there (row_at (layouts_of types) number) sized)
final_complete types unit (ty (basic which) is_const) known object sized = basic_complete types which is_const
final_complete types unit (ty (enum_type number) is_const) known object sized = refl
final_complete types unit (ty (pointer to) is_const) known object sized = refl
final_complete types unit (ty void is_const) known object sized = absurd cc
final_complete types unit (ty (function result params variadic) is_const) known object sized = absurd cc

-- and has a type of the unit
pub final_in : (types : CTypes) (unit : ℕ) (type : CTy) → IsTypeIn types unit type → IsComplete types (one_element type) → IsTypeIn types unit (one_element type)
final_in types unit (ty (array element None) is_const) known complete = (known.0, record { plain = known.1.plain; complete = known.1.complete; length = (omega arith, complete) })
final_in types unit (ty (array element (Some count)) is_const) known complete = known
final_in types unit (ty (record_type number) is_const) known complete = known
final_in types unit (ty (basic which) is_const) known complete = known
final_in types unit (ty (enum_type number) is_const) known complete = known
final_in types unit (ty (pointer to) is_const) known complete = known
final_in types unit (ty void is_const) known complete = known
final_in types unit (ty (function result params variadic) is_const) known complete = known
