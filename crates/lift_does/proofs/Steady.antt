-- What is the same whatever is stored points to objects in scope.
use Rattle.std.proofs.Common.{◌≡◌, ℕ, zero, suc, ℤ, Bool, true, false, ◌&&◌, ◌==◌, if◌then◌else◌, nat_le, List, [], ◌∷◌, Option, Some, None, Result, Ok, Err, refl, sym, ap, subst, arith}
use Rattle.std.proofs.lemmas.Bool.{and_parts}
use Rattle.std.specs.List.{Contains}
use Rattle.std.specs.Prelude.{pos, negsuc}
use Rattle.cr_base.specs.declared.layout.Laid.{Laid}
use Rattle.cr_base.specs.declared.layout.Spot.{Spot}
use Rattle.cr_base.specs.declared.refusal.Place.{Place}
use Rattle.cr_base.specs.declared.rule.URule.{URule}
use Rattle.cr_base.specs.declared.scalar.Scalar.{Scalar}
use Rattle.cr_base.specs.declared.scalar.Scalar.TheVariants as scalars
use Rattle.cr_runs.specs.Owes.{AtEnd}
use Rattle.cr_runs.specs.Runs.{came, halted, bad, out, bind}
use Rattle.cr_world.specs.Held.{Held}
use Rattle.cr_world.specs.World.{World, blocks_of}
use Rattle.cx_core.specs.declared.expr.Op2.{Op2}
use Rattle.cx_core.specs.declared.expr.Op2.TheVariants as op2
use Rattle.cx_core.specs.Trees.{CTy, ty, CTyForm, void, basic, enum_type, pointer, array, record_type, function, CExpr, expr, CForm, whole, null, object, code, load, deref, member, address, convert, unary, binary, and, or, cond, assign, assign_by, step, call, call_by, comma, literal, CProgram, type_of}
use Rattle.cx_mean.proofs.KeptNodes.{IfGiven, given_and, given_then}
use Rattle.cx_mean.specs.Accesses.{object_at}
use Rattle.cx_mean.specs.Initialisers.{part_with}
use Rattle.cx_mean.specs.Leftmost.{CRan, CCalls, c_done, c_value, c_form, c_and, c_or, c_part, c_carried, c_tested}
use Rattle.cx_mean.specs.Marks.{Range, Marks, at_sequence_point}
use Rattle.cx_mean.specs.Nodes.{CDone, gives_value, pointed_to, deref_value, aligned_place, member_of_place, member_value, address_value, node_done, unary_done, typed_value, truth_of_value, tested}
use Rattle.cx_mean.specs.Operands.{CWhy, stuck, needed, accessed, by_pointers, object_value, CValue, scalar, cells, names, designates, designates_bits, missing, COperand, Slot, Frame, slot_of, place_in, scalar_value, united_operands}
use Rattle.cx_mean.specs.Settings.{CSetting, scalar_in_type, extent_in}
use Rattle.cr_base.specs.Scalar.{converted}
use Rattle.cr_base.specs.declared.rule.URule.TheVariants.{U11}
use Rattle.cx_numbers.specs.Numbers.{number_of_truth, number_of_binary}
use Rattle.cx_mean.specs.Values.{is_true, number_in, CTyped, is_of_kind, to_pointer, to_scalar, converted_scalar, converted_value, unary_of, unary_value, bytes_of_elements, moved_by, pointer_and_number, number_and_pointer, two_numbers, number_of_pointers, binary_of, binary_value}
use Rattle.cx_mean_lives.proofs.ValueLives.{end_bind, end_step, end_tick, Anything, given_anything}
use Rattle.cx_typed_runs.specs.Sites.{AreOwned}
use Rattle.cx_typed_work.specs.ExternalCalls.{KeepsObjects}
use Rattle.cx_typed_work.specs.Scenes.{IsSameShape}
use Rattle.lift_does.specs.Later.{Lasts}
use Rattle.lift_held.specs.Held.{is_steady, is_steady_form}
use Rattle.mem_bytes.proofs.Slots.{live_within}
use Rattle.mem_bytes.specs.Memory.{Block, Blocks, live_block}
use Rattle.mem_bytes.specs.Pointers.{live_size, object_size, usable, place_inside, place_moved, moved}
use Rattle.mem_bytes.specs.declared.pointer.PointerFault.{PointerFault}
use Rattle.mem_bytes.specs.declared.pointer.PointerFault.TheVariants.{LeavesObject}
use Rattle.mem_bytes.specs.declared.value.Ptr.{Ptr}
use Rattle.mem_bytes.specs.declared.value.Value.{Value}
use Rattle.mem_bytes.specs.declared.value.Value.TheVariants.{Whole as Number, Null, Object, Code as Function}

-- ---- pointers to objects in scope

abbrev pub Scoped : Frame → Value → Type 0
Scoped frame (Object at) = (slot : Slot) × Contains frame slot × (slot.block ≡ at.block)
Scoped frame Null = Unit {0}
Scoped frame (Number number) = Unit {0}
Scoped frame (Function number) = Unit {0}

abbrev pub IsScoped : Frame → CValue → Type 0
IsScoped frame (scalar value) = Scoped frame value
IsScoped frame (designates value) = Scoped frame value
IsScoped frame (designates_bits at bit width) = Scoped frame (Object at)
IsScoped frame (names number) = Unit {0}
IsScoped frame missing = Unit {0}
IsScoped frame (cells held from) = ⊥

behind_scoped : (first : Slot) (others : Frame) (at : Ptr) → Scoped others (Object at) → Scoped (first ∷ others) (Object at)
behind_scoped first others at (slot, there, same) = (slot, (suc there.0, omega (arith, there.1), there.2), same)

slot_scoped : (frame : Frame) (number : ℕ) (at : Ptr) → slot_of frame number ≡ Some at → Scoped frame (Object at)
slot_scoped [] number at e = cc (e)
slot_scoped (slot ∷ others) number at e = by (slot.object == number) e (slot_scoped others number at)
  where
    by : (test : Bool) → (if test then Some (record { block = slot.block; offset = 0 }) else slot_of others number) ≡ Some at → (slot_of others number ≡ Some at → Scoped others (Object at)) → Scoped (slot ∷ others) (Object at)
    by true found rest = let same : record { block = slot.block; offset = 0 } ≡ at = cc (found) in (slot, (0, omega arith, refl), ap (λ (p : Ptr). p.block) same)
    by false found rest = behind_scoped slot others at (rest found)

object_scoped : (frame : Frame) (found : Option Ptr) → ((at : Ptr) → found ≡ Some at → Scoped frame (Object at)) → IfGiven (Scoped frame) (object_value found)
object_scoped frame None all = tt
object_scoped frame (Some at) all = all at refl

pub place_scoped : (frame : Frame) (value : CValue) → IsScoped frame value → IfGiven (Scoped frame) (place_in frame value)
place_scoped frame (names number) is = object_scoped frame (slot_of frame number) (λ at e. slot_scoped frame number at e)
place_scoped frame (designates to) is = is
place_scoped frame (designates_bits at bit width) is = tt
place_scoped frame (scalar value) is = tt
place_scoped frame (cells held from) is = tt
place_scoped frame missing is = tt

scalar_scoped : (frame : Frame) (value : CValue) → IsScoped frame value → IfGiven (Scoped frame) (scalar_value value)
scalar_scoped frame (scalar value) is = is
scalar_scoped frame missing is = tt
scalar_scoped frame (cells held from) is = tt
scalar_scoped frame (names number) is = tt
scalar_scoped frame (designates to) is = tt
scalar_scoped frame (designates_bits at bit width) is = tt

pointed_scoped : (frame : Frame) (value : Value) → Scoped frame value → IfGiven (IsScoped frame) (pointed_to value)
pointed_scoped frame (Object at) is = is
pointed_scoped frame Null is = tt
pointed_scoped frame (Number number) is = tt
pointed_scoped frame (Function number) is = tt

at_scoped : (frame : Frame) (value : Value) → Scoped frame value → IfGiven (λ (at : Ptr). Scoped frame (Object at)) (object_at value)
at_scoped frame (Object at) is = is
at_scoped frame Null is = tt
at_scoped frame (Number number) is = tt
at_scoped frame (Function number) is = tt

inside_scoped : (frame : Frame) (at : Ptr) (size : ℕ) (offset : ℤ) → Scoped frame (Object at) → IfGiven (λ (new : Ptr). Scoped frame (Object new)) (place_inside at.block size offset)
inside_scoped frame at size (pos offset) is = by (nat_le offset size)
  where
    by : (test : Bool) → IfGiven (λ (new : Ptr). Scoped frame (Object new)) (if test then Ok (record { block = at.block; offset = offset }) else Err LeavesObject)
    by true = is
    by false = tt
inside_scoped frame at size (negsuc n) is = tt

moved_scoped : (frame : Frame) (blocks : Blocks) (at : Ptr) (bytes : ℤ) → Scoped frame (Object at) → IfGiven (λ (new : Ptr). Scoped frame (Object new)) (place_moved blocks at bytes)
moved_scoped frame blocks at bytes is = given_then (λ (new : Ptr). Scoped frame (Object new)) (object_size blocks at) _ (λ size. inside_scoped frame at size _ is)

pointers_given : {A : Type 0} (P : A → Type 0) (rule : URule) (outcome : Result A PointerFault) → IfGiven P outcome → IfGiven P (by_pointers rule outcome)
pointers_given P rule (Ok value) is = is
pointers_given P rule (Err fault) is = tt

part_scoped : (frame : Frame) (at : Ptr) (bit width : ℕ) → Scoped frame (Object at) → IsScoped frame (part_with at bit width)
part_scoped frame at bit zero is = is
part_scoped frame at bit (suc n) is = is

member_scoped : (frame : Frame) (blocks : Blocks) (spot : Spot) (laid : Option Laid) (value : CValue) → IsScoped frame value → IfGiven (IsScoped frame) (member_of_place blocks spot laid (place_in frame value))
member_scoped frame blocks spot laid value is =
    given_then (IsScoped frame) (needed laid) _ (λ one.
    given_and (Scoped frame) (IsScoped frame) (place_in frame value) _ (place_scoped frame value is) (λ to scoped.
    given_and (λ (at : Ptr). Scoped frame (Object at)) (IsScoped frame) (object_at to) _ (at_scoped frame to scoped) (λ at at_is.
    given_and (λ (new : Ptr). Scoped frame (Object new)) (IsScoped frame) (by_pointers U11 (place_moved blocks at (pos spot.byte))) _
    (pointers_given (λ (new : Ptr). Scoped frame (Object new)) U11 (place_moved blocks at (pos spot.byte)) (moved_scoped frame blocks at (pos spot.byte) at_is)) (λ new new_is.
    given_then (IsScoped frame) (accessed (aligned_place blocks one.align at)) _ (λ _. part_scoped frame new spot.bit spot.width new_is)))))

member_value_scoped : (setting : CSetting) (frame : Frame) (blocks : Blocks) (type holder : CTy) (spot : Spot) (value : CValue) → IsScoped frame value → IfGiven (IsScoped frame) (member_value setting frame blocks type holder spot value)
member_value_scoped setting frame blocks type holder spot (cells held from) is = absurd is
member_value_scoped setting frame blocks type holder spot missing is = tt
member_value_scoped setting frame blocks type holder spot (names number) is = member_scoped frame blocks spot (extent_in setting holder) (names number) is
member_value_scoped setting frame blocks type holder spot (designates to) is = member_scoped frame blocks spot (extent_in setting holder) (designates to) is
member_value_scoped setting frame blocks type holder spot (designates_bits at bit width) is = member_scoped frame blocks spot (extent_in setting holder) (designates_bits at bit width) is
member_value_scoped setting frame blocks type holder spot (scalar value) is = member_scoped frame blocks spot (extent_in setting holder) (scalar value) is

-- ---- operators

usable_scoped : (frame : Frame) (blocks : Blocks) (value : Value) → Scoped frame value → IfGiven (Scoped frame) (usable blocks value)
usable_scoped frame blocks (Object at) is = given_then (Scoped frame) (object_size blocks at) _ (λ _. is)
usable_scoped frame blocks Null is = tt
usable_scoped frame blocks (Function number) is = tt
usable_scoped frame blocks (Number number) is = tt

pointer_scoped : (frame : Frame) (kind : Scalar) (blocks : Blocks) (value : Value) → Scoped frame value → IfGiven (Scoped frame) (to_pointer kind blocks value)
pointer_scoped frame kind blocks value is = by (is_of_kind kind value)
  where
    by : (test : Bool) → IfGiven (Scoped frame) (if test then by_pointers U11 (usable blocks value) else Err stuck)
    by true = pointers_given (Scoped frame) U11 (usable blocks value) (usable_scoped frame blocks value is)
    by false = tt

to_scoped : (frame : Frame) (kind : Scalar) (blocks : Blocks) (value : Value) → Scoped frame value → IfGiven (Scoped frame) (to_scalar kind blocks value)
to_scoped frame scalars.Truth blocks value is = given_then (Scoped frame) (is_true blocks value) (λ truth. Ok (Number (number_of_truth truth))) (λ truth. tt)
to_scoped frame (scalars.Whole width signed) blocks value is = given_then (Scoped frame) (number_in value) (λ number. Ok (Number (converted (scalars.Whole width signed) number))) (λ number. tt)
to_scoped frame scalars.Object blocks value is = pointer_scoped frame scalars.Object blocks value is
to_scoped frame scalars.Code blocks value is = pointer_scoped frame scalars.Code blocks value is

converted_scoped : (frame : Frame) (kind : Option Scalar) (blocks : Blocks) (value : CValue) → IsScoped frame value → IfGiven (IsScoped frame) (converted_scalar kind blocks value)
converted_scoped frame None blocks value is = tt
converted_scoped frame (Some kind) blocks value is =
    given_and (Scoped frame) (IsScoped frame) (scalar_value value) _ (scalar_scoped frame value is) (λ one one_is.
    given_and (Scoped frame) (IsScoped frame) (to_scalar kind blocks one) _ (to_scoped frame kind blocks one one_is) (λ new new_is. new_is))

conversion_scoped : (setting : CSetting) (frame : Frame) (form : CTyForm) (is_const : Bool) (blocks : Blocks) (value : CValue) → IsScoped frame value → IfGiven (IsScoped frame) (converted_value setting (ty form is_const) blocks value)
conversion_scoped setting frame void is_const blocks value is = tt
conversion_scoped setting frame (basic which) is_const blocks value is = converted_scoped frame (scalar_in_type setting (ty (basic which) is_const)) blocks value is
conversion_scoped setting frame (enum_type number) is_const blocks value is = converted_scoped frame (scalar_in_type setting (ty (enum_type number) is_const)) blocks value is
conversion_scoped setting frame (pointer to) is_const blocks value is = converted_scoped frame (scalar_in_type setting (ty (pointer to) is_const)) blocks value is
conversion_scoped setting frame (array element length) is_const blocks value is = tt
conversion_scoped setting frame (record_type number) is_const blocks value is = tt
conversion_scoped setting frame (function result params variadic) is_const blocks value is = tt

value_moved_scoped : (frame : Frame) (blocks : Blocks) (value : Value) (bytes : ℤ) → Scoped frame value → IfGiven (Scoped frame) (moved blocks value bytes)
value_moved_scoped frame blocks (Object at) bytes is =
    given_and (λ (new : Ptr). Scoped frame (Object new)) (Scoped frame) (place_moved blocks at bytes) _ (moved_scoped frame blocks at bytes is) (λ new new_is. new_is)
value_moved_scoped frame blocks Null bytes is = tt
value_moved_scoped frame blocks (Function number) bytes is = tt
value_moved_scoped frame blocks (Number number) bytes is = tt

elements_scoped : (setting : CSetting) (frame : Frame) (blocks : Blocks) (type : CTy) (value : Value) (count : ℤ) → Scoped frame value → IfGiven (Scoped frame) (moved_by setting blocks type value count)
elements_scoped setting frame blocks type value count is =
    given_then (Scoped frame) (bytes_of_elements setting type count) _ (λ bytes. pointers_given (Scoped frame) U11 (moved blocks value bytes) (value_moved_scoped frame blocks value bytes is))

after_scoped : (setting : CSetting) (frame : Frame) (op : Op2) (blocks : Blocks) (type : CTy) (value : Value) (count : ℤ) → Scoped frame value → IfGiven (Scoped frame) (pointer_and_number setting op blocks type value count)
after_scoped setting frame op2.Add blocks type value count is = elements_scoped setting frame blocks type value count is
after_scoped setting frame op2.Subtract blocks type value count is = elements_scoped setting frame blocks type value _ is
after_scoped setting frame _ blocks type value count is = tt

before_scoped : (setting : CSetting) (frame : Frame) (op : Op2) (blocks : Blocks) (type : CTy) (value : Value) (count : ℤ) → Scoped frame value → IfGiven (Scoped frame) (number_and_pointer setting op blocks type value count)
before_scoped setting frame op2.Add blocks type value count is = elements_scoped setting frame blocks type value count is
before_scoped setting frame _ blocks type value count is = tt

numbers_scoped : (setting : CSetting) (frame : Frame) (op : Op2) (type : CTy) (one other : ℤ) → IfGiven (Scoped frame) (two_numbers setting op type one other)
numbers_scoped setting frame op type one other = given_then (Scoped frame) (needed (scalar_in_type setting type)) _ (λ kind. given_then (Scoped frame) (number_of_binary op kind one other) (λ number. Ok (Number number)) (λ number. tt))

pointers_scoped : (frame : Frame) (outcome : Result ℤ CWhy) → IfGiven (Scoped frame) (number_of_pointers outcome)
pointers_scoped frame outcome = given_then (Scoped frame) outcome _ (λ number. tt)

binary_scoped : (setting : CSetting) (frame : Frame) (op : Op2) (type : CTy) (blocks : Blocks) (left right : CTy) (one other : Value) → Scoped frame one → Scoped frame other → IfGiven (Scoped frame) (binary_of setting op type blocks left right one other)
binary_scoped setting frame op type blocks left right (Number one) (Number other) is too = numbers_scoped setting frame op type one other
binary_scoped setting frame op type blocks left right (Number one) Null is too = before_scoped setting frame op blocks right Null one too
binary_scoped setting frame op type blocks left right (Number one) (Object at) is too = before_scoped setting frame op blocks right (Object at) one too
binary_scoped setting frame op type blocks left right (Number one) (Function number) is too = before_scoped setting frame op blocks right (Function number) one too
binary_scoped setting frame op type blocks left right Null (Number other) is too = after_scoped setting frame op blocks left Null other is
binary_scoped setting frame op type blocks left right (Object at) (Number other) is too = after_scoped setting frame op blocks left (Object at) other is
binary_scoped setting frame op type blocks left right (Function number) (Number other) is too = after_scoped setting frame op blocks left (Function number) other is
binary_scoped setting frame op type blocks left right Null Null is too = pointers_scoped frame _
binary_scoped setting frame op type blocks left right Null (Object to) is too = pointers_scoped frame _
binary_scoped setting frame op type blocks left right Null (Function number) is too = pointers_scoped frame _
binary_scoped setting frame op type blocks left right (Object at) Null is too = pointers_scoped frame _
binary_scoped setting frame op type blocks left right (Object at) (Object to) is too = pointers_scoped frame _
binary_scoped setting frame op type blocks left right (Object at) (Function number) is too = pointers_scoped frame _
binary_scoped setting frame op type blocks left right (Function one) Null is too = pointers_scoped frame _
binary_scoped setting frame op type blocks left right (Function one) (Object to) is too = pointers_scoped frame _
binary_scoped setting frame op type blocks left right (Function one) (Function number) is too = pointers_scoped frame _

-- ---- nodes

abbrev DoneScoped : Frame → CDone → Type 0
DoneScoped frame one = IsScoped frame one.value

gives_scoped : (frame : Frame) (marks : Marks) (blocks : Blocks) (outcome : Result CValue CWhy) → IfGiven (IsScoped frame) outcome → IfGiven (DoneScoped frame) (gives_value marks blocks outcome)
gives_scoped frame marks blocks (Ok value) is = is
gives_scoped frame marks blocks (Err why) is = tt

module _ (setting : CSetting) (calls : CCalls) (frame : Frame) where
  abbrev Ended : COperand → World → Type 0
  Ended operand world = IsScoped frame operand.value

  done_ends : (type : CTy) (place : Place) (world : World) (outcome : Result CDone CWhy) (steps : ℕ) → IfGiven (DoneScoped frame) outcome → AtEnd Ended (c_done place type world outcome steps)
  done_ends type place world outcome steps is = end_step (DoneScoped frame) Ended place outcome _ world steps is (λ one left scoped. scoped)

  one_ends : (part : CExpr) (type : CTy) (place : Place) (form : CForm) (world : World) (steps : ℕ) → AtEnd Ended (c_value setting calls frame part world steps) →
      ((blocks : Blocks) (marks : Marks) (one : COperand) → IsScoped frame one.value → IfGiven (DoneScoped frame) (unary_done setting type form frame marks blocks one)) →
      AtEnd Ended (bind (c_value setting calls frame part world steps) (λ one after. c_done place type after (node_done setting type form frame (blocks_of after) (one ∷ []))))
  one_ends part type place form world steps is all =
      end_bind Ended Ended (c_value setting calls frame part world steps) _ is (λ one now left scoped.
      done_ends type place now _ left (given_then (DoneScoped frame) (united_operands (one ∷ [])) _ (λ marks. all (blocks_of now) marks one scoped)))

  abbrev Steady : CExpr → Type 0
  Steady e = (world : World) (steps : ℕ) → AtEnd Ended (c_value setting calls frame e world steps)

  carried_ends : (part : CExpr) (marks : Marks) (world : World) (left : ℕ) → Steady part → AtEnd Ended (c_carried marks (λ after more. c_value setting calls frame part after more) world left)
  carried_ends part marks world left is = end_bind Ended Ended (c_value setting calls frame part world left) _ (is world left) (λ one later rest scoped. scoped)

  tested_ends : (place : Place) (type : CTy) (marks : Marks) (second : CExpr) (world : World) (left : ℕ) → AtEnd Ended (c_tested place type marks (λ after more. c_value setting calls frame second after more) world left)
  tested_ends place type marks second world left =
      end_bind (λ (a : COperand) (w : World). Unit {0}) Ended (c_value setting calls frame second world left) _ (anything (c_value setting calls frame second world left)) (λ other later rest _.
      end_step (IsScoped frame) Ended place (tested (blocks_of later) other.value) _ later rest (given_then (IsScoped frame) (truth_of_value (blocks_of later) other.value) _ (λ holds. tt)) (λ value more scoped. scoped))
    where
      anything : (piece : CRan COperand) → AtEnd (λ (operand : COperand) (after : World). Unit {0}) piece
      anything (came operand after more) = tt
      anything (halted status after) = tt
      anything (bad fault after) = tt
      anything (out after) = tt

  part_ends : (first second : CExpr) (holds : Bool) (marks : Marks) (now : World) (more : ℕ) → Steady first → Steady second →
      AtEnd Ended (c_part (at_sequence_point marks) (λ after rest. c_value setting calls frame first after rest) (λ after rest. c_value setting calls frame second after rest) holds now more)
  part_ends first second true marks now more is too = carried_ends first (at_sequence_point marks) now more is
  part_ends first second false marks now more is too = carried_ends second (at_sequence_point marks) now more too

  mutual
    pub steady_ends : (e : CExpr) → is_steady e ≡ true → Steady e
    steady_ends (expr type place form) is world steps = form_ends type place form is world steps

    form_ends : (type : CTy) (place : Place) (form : CForm) → is_steady_form form ≡ true → (world : World) (steps : ℕ) → AtEnd Ended (c_form setting calls frame type place form world steps)
    form_ends type place (whole value) is world steps = tt
    form_ends type place null is world steps = tt
    form_ends type place (object number) is world steps = tt
    form_ends type place (code number) is world steps = tt
    form_ends type place (load from) is world steps = cc (is)
    form_ends type place (deref from) is world steps =
        one_ends from type place (deref from) world steps (steady_ends from is world steps) (λ blocks marks one scoped.
        gives_scoped frame marks blocks (deref_value one.value) (given_and (Scoped frame) (IsScoped frame) (scalar_value one.value) pointed_to (scalar_scoped frame one.value scoped) (λ value value_is. pointed_scoped frame value value_is)))
    form_ends type place (member of spot) is world steps =
        one_ends of type place (member of spot) world steps (steady_ends of is world steps) (λ blocks marks one scoped.
        gives_scoped frame marks blocks (member_value setting frame blocks type (type_of of) spot one.value) (member_value_scoped setting frame blocks type (type_of of) spot one.value scoped))
    form_ends type place (address of) is world steps =
        one_ends of type place (address of) world steps (steady_ends of is world steps) (λ blocks marks one scoped.
        gives_scoped frame marks blocks (address_value frame one.value) (given_and (Scoped frame) (IsScoped frame) (place_in frame one.value) _ (place_scoped frame one.value scoped) (λ to to_is. to_is)))
    form_ends (ty form is_const) place (convert value) is world steps =
        one_ends value (ty form is_const) place (convert value) world steps (steady_ends value is world steps) (λ blocks marks one scoped.
        gives_scoped frame marks blocks (converted_value setting (ty form is_const) blocks one.value) (conversion_scoped setting frame form is_const blocks one.value scoped))
    form_ends type place (unary op value) is world steps =
        one_ends value type place (unary op value) world steps (steady_ends value is world steps) (λ blocks marks one scoped.
        gives_scoped frame marks blocks _ (given_then (IsScoped frame) (scalar_value one.value) _ (λ given.
        given_and (Scoped frame) (IsScoped frame) (unary_value setting op type blocks given) _ (given_then (Scoped frame) (unary_of op (scalar_in_type setting type) blocks given) _ (λ number. tt)) (λ new new_is. new_is))))
    form_ends type place (binary op first second) is world steps =
        let both = and_parts (is_steady first) (is_steady second) is in
        end_bind Ended Ended (c_value setting calls frame first world steps) _ (steady_ends first both.0 world steps) (λ one now left scoped.
        end_bind Ended Ended (c_value setting calls frame second now left) _ (steady_ends second both.1 now left) (λ other later more also.
        done_ends type place later _ more (given_then (DoneScoped frame) (united_operands (one ∷ other ∷ [])) _ (λ marks.
        gives_scoped frame marks (blocks_of later) _
        (given_and (λ (t : CTyped). Scoped frame t.value) (IsScoped frame) (typed_value one) _ (given_and (Scoped frame) (λ (t : CTyped). Scoped frame t.value) (scalar_value one.value) _ (scalar_scoped frame one.value scoped) (λ value value_is. value_is)) (λ left_value left_is.
        given_and (λ (t : CTyped). Scoped frame t.value) (IsScoped frame) (typed_value other) _ (given_and (Scoped frame) (λ (t : CTyped). Scoped frame t.value) (scalar_value other.value) _ (scalar_scoped frame other.value also) (λ value value_is. value_is)) (λ right_value right_is.
        given_and (Scoped frame) (IsScoped frame) (binary_value setting op type (blocks_of later) left_value right_value) _
        (binary_scoped setting frame op type (blocks_of later) left_value.type right_value.type left_value.value right_value.value left_is right_is) (λ new new_is. new_is))))))))
    form_ends type place (and first second) is world steps =
        end_bind Ended Ended (c_value setting calls frame first world steps) _ (steady_ends first (and_parts (is_steady first) (is_steady second) is).0 world steps) (λ one now left scoped.
        end_step Anything Ended place (truth_of_value (blocks_of now) one.value) _ now left (given_anything (truth_of_value (blocks_of now) one.value)) (λ holds more _. by holds one.marks now more))
      where
        by : (holds : Bool) (marks : Marks) (now : World) (more : ℕ) → AtEnd Ended (c_and place type (at_sequence_point marks) (λ after rest. c_value setting calls frame second after rest) holds now more)
        by true marks now more = tested_ends place type (at_sequence_point marks) second now more
        by false marks now more = tt
    form_ends type place (or first second) is world steps =
        end_bind Ended Ended (c_value setting calls frame first world steps) _ (steady_ends first (and_parts (is_steady first) (is_steady second) is).0 world steps) (λ one now left scoped.
        end_step Anything Ended place (truth_of_value (blocks_of now) one.value) _ now left (given_anything (truth_of_value (blocks_of now) one.value)) (λ holds more _. by holds one.marks now more))
      where
        by : (holds : Bool) (marks : Marks) (now : World) (more : ℕ) → AtEnd Ended (c_or place type (at_sequence_point marks) (λ after rest. c_value setting calls frame second after rest) holds now more)
        by false marks now more = tested_ends place type (at_sequence_point marks) second now more
        by true marks now more = tt
    form_ends type place (cond test first second) is world steps =
        let outer = and_parts (is_steady test) (is_steady first && is_steady second) is in
        let inner = and_parts (is_steady first) (is_steady second) outer.1 in
        end_bind Ended Ended (c_value setting calls frame test world steps) _ (steady_ends test outer.0 world steps) (λ one now left scoped.
        end_step Anything Ended place (truth_of_value (blocks_of now) one.value) _ now left (given_anything (truth_of_value (blocks_of now) one.value)) (λ holds more _.
        part_ends first second holds one.marks now more (steady_ends first inner.0) (steady_ends second inner.1)))
    form_ends type place (comma first second) is world steps =
        let both = and_parts (is_steady first) (is_steady second) is in
        end_bind Ended Ended (c_value setting calls frame first world steps) _ (steady_ends first both.0 world steps) (λ one now left scoped.
        end_tick Ended now _ left (λ more. carried_ends second (at_sequence_point one.marks) now more (steady_ends second both.1)))
    form_ends type place (assign target value) is world steps = cc (is)
    form_ends type place (assign_by op computes target value) is world steps = cc (is)
    form_ends type place (step up post on) is world steps = cc (is)
    form_ends type place (call number args) is world steps = cc (is)
    form_ends type place (call_by callee args) is world steps = cc (is)
    form_ends type place (literal number puts) is world steps = cc (is)

-- ---- what is asked of pointers is the same later

abbrev pub SameSize : (before later : World) → Value → Type 0
SameSize before later value = (at : Ptr) → value ≡ Object at → object_size (blocks_of later) at ≡ object_size (blocks_of before) at

pub shape_size : (one other : Option Block) → IsSameShape one other → live_size other ≡ live_size one
shape_size None None same = refl
shape_size None (Some other) same = cc (same.lived refl)
shape_size (Some one) None same = cc (same.lives refl)
shape_size (Some one) (Some other) same = ap Ok (sym same.size)

slot_lasts : (program : CProgram) (before after : Held) (frame : Frame) (slot : Slot) → AreOwned program before frame → KeepsObjects before after → Contains frame slot → IsSameShape (live_block before.blocks slot.block) (live_block after.blocks slot.block)
slot_lasts program before after [] slot owned keeps there = absurd (omega (arith, there.1))
slot_lasts program before after (first ∷ others) slot owned keeps (zero, within, e) =
    let same : first ≡ slot = cc (e) in
    subst (λ (one : Slot). IsSameShape (live_block before.blocks one.block) (live_block after.blocks one.block)) same (keeps.lives first.block (live_within before.blocks first.block owned.0.held owned.0.live) owned.1)
slot_lasts program before after (first ∷ others) slot owned keeps (suc k, within, e) = slot_lasts program before after others slot owned.3 keeps (k, omega (arith, within), e)

scoped_same : (program : CProgram) (before after : World) (frame : Frame) (value : Value) → AreOwned program before.held frame → KeepsObjects before.held after.held → Scoped frame value → SameSize before after value
scoped_same program before after frame (Object at) owned keeps (slot, there, block) = λ to e.
    let shape = slot_lasts program before.held after.held frame slot owned keeps there in
    let same : at ≡ to = cc (e) in
    subst (λ (p : Ptr). object_size (blocks_of after) p ≡ object_size (blocks_of before) p) same
    (subst (λ (n : ℕ). live_size (live_block (blocks_of after) n) ≡ live_size (live_block (blocks_of before) n)) block
    (shape_size (live_block (blocks_of before) slot.block) (live_block (blocks_of after) slot.block) shape))
scoped_same program before after frame Null owned keeps is = λ to e. cc (e)
scoped_same program before after frame (Number number) owned keeps is = λ to e. cc (e)
scoped_same program before after frame (Function number) owned keeps is = λ to e. cc (e)

pub sizes_last : (program : CProgram) (fixed : Bool) (reads : List Range) (before after : World) (frame : Frame) (value : Value) → AreOwned program before.held frame → Lasts fixed reads before after → (fixed ≡ true → Scoped frame value) → SameSize before after value
sizes_last program true reads before after frame value owned lasts scoped = scoped_same program before after frame value owned lasts (scoped refl)
sizes_last program false reads before after frame value owned lasts scoped = λ at e. shape_size (live_block (blocks_of before) at.block) (live_block (blocks_of after) at.block) (lasts.1.shapes.each at.block)

-- an object has the same shape later
abbrev pub SameShapeOf : (before later : World) → Value → Type 0
SameShapeOf before later value = (at : Ptr) → value ≡ Object at → IsSameShape (live_block (blocks_of before) at.block) (live_block (blocks_of later) at.block)

scoped_shape : (program : CProgram) (before after : World) (frame : Frame) (value : Value) → AreOwned program before.held frame → KeepsObjects before.held after.held → Scoped frame value → SameShapeOf before after value
scoped_shape program before after frame (Object at) owned keeps (slot, there, block) = λ to e.
    let same : at ≡ to = cc (e) in
    subst (λ (p : Ptr). IsSameShape (live_block (blocks_of before) p.block) (live_block (blocks_of after) p.block)) same
    (subst (λ (n : ℕ). IsSameShape (live_block (blocks_of before) n) (live_block (blocks_of after) n)) block (slot_lasts program before.held after.held frame slot owned keeps there))
scoped_shape program before after frame Null owned keeps is = λ to e. cc (e)
scoped_shape program before after frame (Number number) owned keeps is = λ to e. cc (e)
scoped_shape program before after frame (Function number) owned keeps is = λ to e. cc (e)

pub shapes_last : (program : CProgram) (fixed : Bool) (reads : List Range) (before after : World) (frame : Frame) (value : Value) → AreOwned program before.held frame → Lasts fixed reads before after → (fixed ≡ true → Scoped frame value) → SameShapeOf before after value
shapes_last program true reads before after frame value owned lasts scoped = scoped_shape program before after frame value owned lasts (scoped refl)
shapes_last program false reads before after frame value owned lasts scoped = λ at e. lasts.1.shapes.each at.block
