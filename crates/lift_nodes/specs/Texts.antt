-- What is written for nodes, by itself: the types of its temporaries are kept with their names.
use Rattle.std.specs.Prelude.{ℕ, suc, ◌&&◌, ◌||◌, Bool, true, false, if◌then◌else◌, List, [], ◌∷◌, ◌++◌}
use Rattle.cx_core.specs.Trees.{CTy, CExpr, CPuts, type_of}
use Rattle.cx_core.specs.Typing.{width_of}
use Rattle.cx_core.specs.declared.expr.Op2.{Op2}
use Rattle.lift_exprs.specs.Lifted.{operand_of, branch, Deciding, decided, decides, decided_form}
use Rattle.lift_exprs.specs.Names.{Names, type_in}
use Rattle.lift_exprs.specs.Objects.{object_at, is_zeroed, zeroed_where}
use Rattle.lift_exprs.specs.Stores.{Target, Change, target_of, target_type, stored_value, old_value, changed, step_by_one, promoted_type}
use Rattle.lift_exprs.specs.Written.{temporary_place, address_of_given, copied}
use Rattle.lift_forms.specs.Given.{Given, nothing, value, number_of}
use Rattle.lift_forms.specs.Operators.{Operand, given_value, test_of, binary_form, choice_form, converted}
use Rattle.lift_held.specs.Held.{is_void, is_record, acts}
use Rattle.lift_stores.specs.Texts.{stored, changed_behind}
use Rattle.lift_stores.specs.Views.{Text}
use Rattle.rs_text.specs.Tree.{Place, Read, AddressOf, Stmt, Assign}

-- one part behind another
abbrev pub in_turn : Text → Text → Given → Text
in_turn first second given = record { body = first.body ++ second.body; given = given; next = second.next }

abbrev pub then_gives : Given → Text → Text
then_gives given one = record { body = one.body; given = given; next = one.next }

-- ---- two operands

abbrev pub binary_node : Names → Op2 → CExpr → CExpr → Text → Text → Text
binary_node names op left right first second =
    in_turn first second (binary_form op (operand_of names left first.given) (operand_of names right second.given))

abbrev pub converted_node : Names → CTy → CExpr → Text → Text
converted_node names type from one =
    then_gives (if is_void type then nothing else converted (type_in names type) (operand_of names from one.given)) one

-- ---- `&&` and `||`

-- its value is held, or isn't used
abbrev pub decided_by_branch : Names → (used : Bool) → Deciding → (test other : Operand) → Text → Text → Text
decided_by_branch names true which test other first second =
    let temporary = temporary_place names second.next in
    record {
      body = first.body ++ decides which test (second.body ++ (Assign temporary (number_of (test_of other)) ∷ [])) (Assign temporary (decided which) ∷ []);
      given = value (Read temporary);
      next = suc second.next;
    }
decided_by_branch names false which test other first second =
    record { body = first.body ++ decides which test second.body []; given = nothing; next = second.next }

abbrev pub decided_written : Names → (used acting : Bool) → Deciding → (test other : Operand) → Text → Text → Text
decided_written names used true which test other first second = decided_by_branch names used which test other first second
decided_written names used false which test other first second = in_turn first second (decided_form which test other)

abbrev pub decided_node : Names → (used : Bool) → Deciding → CExpr → CExpr → Text → Text → Text
decided_node names used which left right first second =
    decided_written names used (acts true right) which (operand_of names left first.given) (operand_of names right second.given) first second

-- ---- `?:`

-- the parts: the condition, and what is evaluated where it holds and where it doesn't
pub record ChoiceText : Type 0 where
  pub test : Text
  pub first : Text
  pub second : Text

-- the value of a part goes to a temporary
abbrev pub taken_where : Names → CTy → Place → Given → Stmt
taken_where names type temporary given =
    if is_record type then copied (address_of_given given) (AddressOf temporary) (names.size_of type) else Assign temporary (given_value given)

abbrev pub part_taken : Names → CTy → Place → Text → List Stmt
part_taken names type temporary part = part.body ++ (taken_where names type temporary part.given ∷ [])

abbrev pub temporary_given : CTy → Place → Given
temporary_given type temporary = if is_record type then value (AddressOf temporary) else value (Read temporary)

abbrev pub chosen_by_branch : Names → (used : Bool) → CTy → (test : Operand) → ChoiceText → Text
chosen_by_branch names true type test three =
    let temporary = temporary_place names three.second.next in
    record {
      body = three.test.body ++ branch test (part_taken names type temporary three.first) (part_taken names type temporary three.second);
      given = temporary_given type temporary;
      next = suc three.second.next;
    }
chosen_by_branch names false type test three =
    record { body = three.test.body ++ branch test three.first.body three.second.body; given = nothing; next = three.second.next }

-- its parts do nothing
abbrev pub chosen_plainly : (used : Bool) → (test first second : Operand) → ChoiceText → Text
chosen_plainly used test first second three =
    record { body = three.test.body; given = if used then choice_form test first second else nothing; next = three.second.next }

abbrev pub chosen_written : Names → (used acting : Bool) → CTy → (test first second : Operand) → ChoiceText → Text
chosen_written names used true type test first second three = chosen_by_branch names used type test three
chosen_written names used false type test first second three = chosen_plainly used test first second three

abbrev pub chosen_node : Names → (used : Bool) → CTy → CExpr → CExpr → CExpr → ChoiceText → Text
chosen_node names used type test first second three =
    chosen_written names used ((used && is_record type) || (acts used first || acts used second)) type
    (operand_of names test three.test.given) (operand_of names first three.first.given) (operand_of names second three.second.given) three

-- ---- compound literals

-- the object becomes zero where that has to be, before its first value is reached
abbrev pub literal_begun : Names → CTy → ℕ → CPuts → ℕ → Text
literal_begun names type number puts next =
    record { body = zeroed_where (is_zeroed names type puts) names type (object_at names type number); given = nothing; next = next }

-- ---- stores

-- a simple assignment
abbrev pub assigned : Names → (used : Bool) → CTy → CExpr → Text → Text → Text
assigned names used type to first second =
    let target = target_of names type to first.given in
    stored names used target (stored_value target second.given) (in_turn first second nothing)

abbrev pub changed_first : Names → (used : Bool) → Target → Change → Text → Text
changed_first names used target change one = stored names used target (changed change (target_type target) (old_value target)) one

-- a compound assignment
abbrev pub assigned_by : Names → (used : Bool) → CTy → Op2 → (computes : CTy) → CExpr → CExpr → Text → Text → Text
assigned_by names used type op computes to from first second =
    changed_first names used (target_of names type to first.given)
    (record { op = op; computes = type_in names computes; right = record { ty = type_in names (type_of from); given = second.given } })
    (in_turn first second nothing)

abbrev pub stepped : Names → (used post : Bool) → Target → Change → Text → Text
stepped names true true target change one = changed_behind names target change one
stepped names used post target change one = changed_first names used target change one

-- one more, or one less
abbrev pub stepped_by_one : Names → CTy → (used up post : Bool) → CExpr → Text → Text
stepped_by_one names type used up post on one =
    let target = target_of names type on one.given in
    stepped names used post target (step_by_one up (promoted_type (target_type target) (width_of on))) one
