-- What the step of a node gives whose operands are finished (ISO C99, 6.5), where it touches memory alone. The conflicts of its
-- operands come first, then what its own access or its operator finds.
use Rattle.std.specs.Prelude.{ℕ, zero, suc, ◌+◌, nat_le, Bool, true, false, if◌then◌else◌, pos, List, [], ◌∷◌, length, take, drop, Option, Some, option_map, Result, Ok, Err}
use Rattle.cr_base.specs.declared.layout.Laid.{Laid}
use Rattle.cr_base.specs.declared.layout.Spot.{Spot}
use Rattle.cr_base.specs.declared.rule.URule.TheVariants.{U11, U14}
use Rattle.cr_base.specs.declared.scalar.Scalar.{Scalar}
use Rattle.cx_core.specs.Conversions.{promoted}
use Rattle.cx_core.specs.declared.expr.Op2.{Op2}
use Rattle.cx_core.specs.declared.expr.Op2.TheVariants.{Add, Subtract}
use Rattle.cx_core.specs.Trees.{CTy, unqualified, CExpr, CForm, load, deref, member, address, convert, unary, binary, and, or, cond, assign, assign_by, step, comma, CPuts, type_of}
use Rattle.cx_core.specs.Typing.{width_of}
use Rattle.mem_bytes.specs.Pointers.{place_moved}
use Rattle.cx_mean.specs.Accesses.{CKind, of_scalar, of_record, kind_of, object_at, at_field_place, field_value, CLoaded, loaded, CStored, stored}
use Rattle.cx_mean.specs.Initialisers.{part_with, object_cleared}
use Rattle.cx_mean.specs.Marks.{Marks, no_marks, bits_of_bytes, with_write, at_sequence_point, both}
use Rattle.cx_numbers.specs.Numbers.{number_of_truth}
use Rattle.cx_mean.specs.Operands.{CWhy, breaks, stuck, needed, accessed, by_pointers, CValue, scalar, cells, names, designates, missing, COperand, Frame, place_in, scalar_value, united_operands}
use Rattle.cx_mean.specs.Settings.{CSetting, types_in_setting, scalar_in_type, extent_in}
use Rattle.cx_mean.specs.Values.{CTyped, is_true, unary_value, binary_value, converted_value}
use Rattle.cx_mean.specs.Work.{CUpdate}
use Rattle.mem_bytes.specs.Access.{and_then, is_record_aligned, live_read}
use Rattle.mem_bytes.specs.Bits.{bytes_touched, field_in}
use Rattle.mem_bytes.specs.Coding.{scalar_size, value_of}
use Rattle.mem_bytes.specs.declared.cell.Cell.{Cell}
use Rattle.mem_bytes.specs.declared.fault.Fault.{Fault}
use Rattle.mem_bytes.specs.declared.fault.Fault.TheVariants.{Misaligned}
use Rattle.mem_bytes.specs.declared.value.Ptr.{Ptr}
use Rattle.mem_bytes.specs.declared.value.Value.{Value}
use Rattle.mem_bytes.specs.declared.value.Value.TheVariants.{Whole as Number, Null, Object as Pointer, Code as Function}
use Rattle.mem_bytes.specs.Memory.{Blocks, live_block}

-- what a step of a node gives, the accesses up to there, and the memory after it
pub record CDone : Type 0 where
  pub value : CValue
  pub marks : Marks
  pub blocks : Blocks

abbrev pub done : CValue → Marks → Blocks → CDone
done value marks blocks = record { value = value; marks = marks; blocks = blocks }

-- a step that leaves memory as it is
abbrev pub gives_value : Marks → Blocks → Result CValue CWhy → Result CDone CWhy
gives_value marks blocks outcome = and_then outcome (λ value. Ok (done value marks blocks))

-- ---- lvalues (6.5.2.3, 6.5.3.2)

-- what a pointer points to; by itself that is never wrong
abbrev pub pointed_to : Value → Result CValue CWhy
pointed_to (Pointer at) = Ok (designates (Pointer at))
pointed_to Null = Ok (designates Null)
pointed_to (Number number) = Err stuck
pointed_to (Function number) = Err stuck

abbrev pub deref_value : CValue → Result CValue CWhy
deref_value value = and_then (scalar_value value) pointed_to

-- a place at which a structure or union of an alignment may stand (6.3.2.3p7)
abbrev pub aligned_place : Blocks → (align : ℕ) → Ptr → Result Ptr Fault
aligned_place blocks align at =
    live_read (live_block blocks at.block) (λ block.
    if is_record_aligned align block at.offset then Ok at else Err Misaligned)

-- a member of the structure or union of an alignment at a place: the object lives, the member begins in it or at its end, and
-- the structure or union may stand there
abbrev pub member_at : Blocks → Spot → (align : ℕ) → Ptr → Result CValue CWhy
member_at blocks spot align at =
    and_then (by_pointers U11 (place_moved blocks at (pos spot.byte))) (λ new.
    and_then (accessed (aligned_place blocks align at)) (λ _. Ok (part_with new spot.bit spot.width)))

abbrev pub member_of_place : Blocks → Spot → Option Laid → Result Value CWhy → Result CValue CWhy
member_of_place blocks spot laid place =
    and_then (needed laid) (λ one.
    and_then place (λ to. and_then (object_at to) (member_at blocks spot one.align)))

-- so many cells of a value
abbrev pub value_part : List Cell → (offset count : ℕ) → Result (List Cell) CWhy
value_part held offset count =
    if nat_le (offset + count) (length held) then Ok (take count (drop offset held)) else Err stuck

abbrev pub moved_by : ℕ → Ptr → Ptr
moved_by bytes at = record { block = at.block; offset = at.offset + bytes }

abbrev pub member_of_kind : ℕ → List Cell → Option Ptr → CKind → Result CValue CWhy
member_of_kind byte held from (of_scalar kind) =
    and_then (value_part held byte (scalar_size kind)) (λ part.
    and_then (accessed (value_of kind part)) (λ value. Ok (scalar value)))
member_of_kind byte held from (of_record laid) =
    and_then (value_part held byte laid.size) (λ part. Ok (cells part (option_map (moved_by byte) from)))

abbrev pub member_bits : Spot → ℕ → List Cell → Scalar → Result CValue CWhy
member_bits spot width held kind =
    at_field_place spot.bit width
    (and_then (value_part held spot.byte (bytes_touched spot.bit width)) (λ part.
    and_then (accessed (field_in spot.bit width part)) (λ bits.
    and_then (field_value kind width bits) (λ value. Ok (scalar value)))))

abbrev pub member_with : CSetting → CTy → Spot → (width : ℕ) → List Cell → Option Ptr → Result CValue CWhy
member_with setting type spot zero held from = and_then (kind_of setting type) (member_of_kind spot.byte held from)
member_with setting type spot (suc n) held from =
    and_then (needed (scalar_in_type setting type)) (member_bits spot (suc n) held)

-- a member of an lvalue is an lvalue, and one of a value is a value (6.5.2.3p3), in a structure or union of the type `holder`
abbrev pub member_value : CSetting → Frame → Blocks → (type holder : CTy) → Spot → CValue → Result CValue CWhy
member_value setting frame blocks type holder spot (cells held from) = member_with setting type spot spot.width held from
member_value setting frame blocks type holder spot missing = Err (breaks U14)
member_value setting frame blocks type holder spot place =
    member_of_place blocks spot (extent_in setting holder) (place_in frame place)

-- the address of an lvalue, or of the first element of an array
abbrev pub address_value : Frame → CValue → Result CValue CWhy
address_value frame place = and_then (place_in frame place) (λ to. Ok (scalar to))

-- ---- nodes that need all their operands

abbrev pub done_by_load : Blocks → Result CLoaded CWhy → Result CDone CWhy
done_by_load blocks outcome = and_then outcome (λ one. Ok (done one.value one.marks blocks))

abbrev pub done_by_store : Result CStored CWhy → Result CDone CWhy
done_by_store outcome = and_then outcome (λ one. Ok (done one.value one.marks one.blocks))

abbrev pub unary_done : CSetting → CTy → CForm → Frame → Marks → Blocks → COperand → Result CDone CWhy
unary_done setting type (load from) frame marks blocks one =
    done_by_load blocks (loaded setting frame blocks type one.value marks)
unary_done setting type (deref from) frame marks blocks one = gives_value marks blocks (deref_value one.value)
unary_done setting type (member of spot) frame marks blocks one =
    gives_value marks blocks (member_value setting frame blocks type (type_of of) spot one.value)
unary_done setting type (address of) frame marks blocks one = gives_value marks blocks (address_value frame one.value)
unary_done setting type (convert value) frame marks blocks one =
    gives_value marks blocks (converted_value setting type blocks one.value)
unary_done setting type (unary op value) frame marks blocks one =
    gives_value marks blocks
    (and_then (scalar_value one.value) (λ given.
    and_then (unary_value setting op type blocks given) (λ new. Ok (scalar new))))
unary_done setting type form frame marks blocks one = Err stuck

abbrev pub typed_value : COperand → Result CTyped CWhy
typed_value one = and_then (scalar_value one.value) (λ given. Ok (record { type = one.type; value = given }))

abbrev pub binary_done : CSetting → CTy → CForm → Frame → Marks → Blocks → COperand → COperand → Result CDone CWhy
binary_done setting type (binary op left right) frame marks blocks one other =
    gives_value marks blocks
    (and_then (typed_value one) (λ first.
    and_then (typed_value other) (λ second.
    and_then (binary_value setting op type blocks first second) (λ new. Ok (scalar new)))))
binary_done setting type (assign target value) frame marks blocks one other =
    done_by_store (stored setting frame blocks type one.value other.value marks)
binary_done setting type form frame marks blocks one other = Err stuck

abbrev pub done_by_count : CSetting → CTy → CForm → Frame → Marks → Blocks → List COperand → Result CDone CWhy
done_by_count setting type form frame marks blocks (one ∷ []) = unary_done setting type form frame marks blocks one
done_by_count setting type form frame marks blocks (one ∷ other ∷ []) =
    binary_done setting type form frame marks blocks one other
done_by_count setting type form frame marks blocks operands = Err stuck

-- a load, a member, an address, an operator, a conversion or an assignment
abbrev pub node_done : CSetting → CTy → CForm → Frame → Blocks → List COperand → Result CDone CWhy
node_done setting type form frame blocks operands =
    and_then (united_operands operands) (λ marks. done_by_count setting type form frame marks blocks operands)

-- ---- `op=`, `++` and `--` (6.5.2.4, 6.5.3.1, 6.5.16.2)

-- after the load
pub record CUpdating : Type 0 where
  pub update : CUpdate
  pub marks : Marks

-- what `op=`, `++` or `--` computes, with what, and where
pub record CChange : Type 0 where
  pub op : Op2
  pub computes : CTy
  pub right : CTyped
  pub target : COperand
  pub is_postfix : Bool

abbrev pub updating : CChange → CLoaded → Result CUpdating CWhy
updating change one =
    and_then (scalar_value one.value) (λ old.
    Ok (record {
      update = record {
        op = change.op;
        computes = change.computes;
        right = change.right;
        target_type = unqualified change.target.type;
        target = change.target.value;
        is_postfix = change.is_postfix;
        old = old;
      };
      marks = one.marks;
    }))

-- the first step: the load
abbrev pub update_loaded : CSetting → Frame → Blocks → Marks → CChange → Result CUpdating CWhy
update_loaded setting frame blocks marks change =
    and_then (loaded setting frame blocks (unqualified change.target.type) change.target.value marks) (updating change)

abbrev pub up_or_down : Bool → Op2
up_or_down true = Add
up_or_down false = Subtract

-- `++` and `--` compute with 1, an integer in its promoted type
abbrev pub change_by_one : CSetting → Bool → Bool → CExpr → COperand → CChange
change_by_one setting up post on target =
    let computes = promoted (types_in_setting setting) (type_of on) (width_of on) in
    record {
      op = up_or_down up;
      computes = computes;
      right = record { type = computes; value = Number (pos 1) };
      target = target;
      is_postfix = post;
    }

abbrev pub changes : CSetting → CForm → List COperand → Result CChange CWhy
changes setting (assign_by op computes target value) (one ∷ other ∷ []) =
    and_then (typed_value other) (λ right.
    Ok (record { op = op; computes = computes; right = right; target = one; is_postfix = false }))
changes setting (step up post on) (one ∷ []) = Ok (change_by_one setting up post on one)
changes setting form operands = Err stuck

abbrev pub node_updating : CSetting → CForm → Frame → Blocks → List COperand → Result CUpdating CWhy
node_updating setting form frame blocks operands =
    and_then (united_operands operands) (λ marks.
    and_then (changes setting form operands) (update_loaded setting frame blocks marks))

-- the second: what was loaded is converted to the type in which the operator computes, and the operator is applied
abbrev pub update_computed : CSetting → Blocks → CUpdate → Result Value CWhy
update_computed setting blocks update =
    and_then (converted_value setting update.computes blocks (scalar update.old)) (λ value.
    and_then (scalar_value value) (λ left.
    binary_value setting update.op update.computes blocks (record { type = update.computes; value = left }) update.right))

-- the third: the conversion to the type of the target
abbrev pub update_converted : CSetting → Blocks → CUpdate → Value → Result Value CWhy
update_converted setting blocks update new =
    and_then (converted_value setting update.target_type blocks (scalar new)) scalar_value

abbrev pub update_value : Bool → Value → CValue → CValue
update_value true old new = scalar old
update_value false old new = new

-- the fourth: the store; a postfix form gives what was loaded
abbrev pub update_stored : CSetting → Frame → Blocks → CUpdate → Marks → Value → Result CDone CWhy
update_stored setting frame blocks update marks new =
    and_then (stored setting frame blocks update.target_type update.target (scalar new) marks) (λ one.
    Ok (done (update_value update.is_postfix update.old one.value) one.marks one.blocks))

-- ---- `&&`, `||`, `?:` and the comma (6.5.13 to 6.5.15, 6.5.17)

-- what comes after the first operand: the node is finished, or has another part, which is tested or carried on
pub data CChoice : Type 0 where
  decided : CValue → CChoice
  tests_next : CExpr → CChoice
  carries_next : CExpr → CChoice

abbrev pub truth : Bool → CValue
truth holds = scalar (Number (number_of_truth holds))

abbrev pub chosen_and : CExpr → Bool → CChoice
chosen_and second true = tests_next second
chosen_and second false = decided (truth false)

abbrev pub chosen_or : CExpr → Bool → CChoice
chosen_or second true = decided (truth true)
chosen_or second false = tests_next second

abbrev pub chosen_part : CExpr → CExpr → Bool → CChoice
chosen_part first second true = carries_next first
chosen_part first second false = carries_next second

-- an operand compares unequal to 0; U14 where it gives no value
abbrev pub truth_of_value : Blocks → CValue → Result Bool CWhy
truth_of_value blocks value = and_then (scalar_value value) (is_true blocks)

-- the step of the node once its first operand is finished
abbrev pub chosen : CForm → Blocks → CValue → Result CChoice CWhy
chosen (and first second) blocks value = and_then (truth_of_value blocks value) (λ holds. Ok (chosen_and second holds))
chosen (or first second) blocks value = and_then (truth_of_value blocks value) (λ holds. Ok (chosen_or second holds))
chosen (cond test first second) blocks value =
    and_then (truth_of_value blocks value) (λ holds. Ok (chosen_part first second holds))
chosen (comma first second) blocks value = Ok (carries_next second)
chosen form blocks value = Err stuck

-- the step of `&&` or `||` once its second operand is finished
abbrev pub tested : Blocks → CValue → Result CValue CWhy
tested blocks value = and_then (truth_of_value blocks value) (λ holds. Ok (truth holds))

-- ---- compound literals (6.5.2.5)

-- the first write, to the whole object
abbrev pub literal_cleared : CSetting → Frame → Blocks → (object : ℕ) → CPuts → Result CDone CWhy
literal_cleared setting frame blocks number puts =
    and_then (object_cleared setting frame number (Some puts) blocks) (λ one.
    Ok (done (names number) (at_sequence_point (with_write (bits_of_bytes one.at one.size) no_marks)) one.blocks))

-- after the store of a put: there is a sequence point, and what went before is united without a test
abbrev pub marks_after_put : Marks → Marks → Marks
marks_after_put before after = at_sequence_point (both before after)
