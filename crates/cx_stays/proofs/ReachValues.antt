-- Values under a set of blocks: what is loaded, computed or stored through pointers into the set leads into it.
use Rattle.std.proofs.Common.{◌≡◌, ℕ, zero, suc, ◌+◌, Bool, true, nat_lt, nat_le, ℤ, pos, negsuc, All, List, [], ◌∷◌, length, take, drop, option_map, Option, Some, None, Result, Ok, Err}
use Rattle.std.proofs.lemmas.List.Elements.{All-head, All-take, All-drop}
use Rattle.std.specs.List.{list_all}
use Rattle.cr_base.specs.declared.layout.Laid.{Laid}
use Rattle.cr_base.specs.declared.layout.Spot.{Spot}
use Rattle.cr_base.specs.declared.rule.URule.{URule}
use Rattle.cr_base.specs.declared.rule.URule.TheVariants.{U11}
use Rattle.cr_base.specs.declared.scalar.Scalar.{Scalar}
use Rattle.cr_base.specs.declared.scalar.Scalar.TheVariants.{Truth, Whole, Object, Code}
use Rattle.cx_core.specs.declared.expr.Op1.{Op1}
use Rattle.cx_core.specs.declared.expr.Op2.{Op2}
use Rattle.cx_core.specs.declared.expr.Op2.TheVariants.{Add, Subtract}
use Rattle.cx_core.specs.Trees.{CTy, ty, void, basic, enum_type, pointer, array, record_type, function}
use Rattle.cx_mean.proofs.KeptNodes.{IfGiven, given_and, given_then, given_where}
use Rattle.cx_mean.specs.Accesses.{CKind, of_scalar, of_record, kind_of, object_at, is_field_place, field_value, CLoaded, loaded_scalar, loaded_record, loaded_kind, loaded_bits, loaded_from, loaded}
use Rattle.cx_mean.specs.Initialisers.{part_with}
use Rattle.cx_mean.specs.Marks.{Marks, bits_of_bytes, bits_of_field}
use Rattle.cx_mean.specs.Nodes.{moved_by, pointed_to, deref_value, aligned_place, member_of_place, value_part, member_of_kind, member_bits, member_with, member_value, address_value}
use Rattle.cx_mean.specs.Operands.{CWhy, stuck, needed, accessed, by_pointers, CValue, scalar, cells, names, designates, designates_bits, missing, Frame, slot_of, place_in, scalar_value, sequenced_after}
use Rattle.cx_mean.specs.Settings.{CSetting, scalar_in_type, extent_in}
use Rattle.cx_mean.specs.Values.{is_true, is_of_kind, value_of_kind, number_in, unary_value, CTyped, binary_value, to_scalar, converted_scalar, converted_value}
use Rattle.cx_numbers.specs.Numbers.{number_of_binary}
use Rattle.mem_bytes.specs.Access.{and_then, scalar_part_of, block_value, record_part_of, part_at, value_at, field_at, record_at}
use Rattle.mem_bytes.specs.Bits.{bytes_touched, field_in}
use Rattle.mem_bytes.specs.Coding.{scalar_size, is_set, is_bits, is_zero, bits_of, stored_pointer, pointer_value, number_value, whole_value, meaning_of, value_of}
use Rattle.mem_bytes.specs.declared.cell.Cell.{Cell}
use Rattle.mem_bytes.specs.declared.cell.Cell.TheVariants.{Bits, PtrByte}
use Rattle.mem_bytes.specs.declared.fault.Fault.{Fault}
use Rattle.mem_bytes.specs.declared.fault.Fault.TheVariants.{Unset, BadBool, MixedPointer}
use Rattle.mem_bytes.specs.declared.pointer.PointerFault.{PointerFault}
use Rattle.mem_bytes.specs.declared.pointer.PointerFault.TheVariants.{LeavesObject}
use Rattle.mem_bytes.specs.declared.value.Ptr.{Ptr}
use Rattle.mem_bytes.specs.declared.value.Value.{Value}
use Rattle.mem_bytes.specs.declared.value.Value.TheVariants.{Whole as Number, Null, Object as Pointer, Code as Function}
use Rattle.mem_bytes.specs.Memory.{Blocks}
use Rattle.mem_bytes.specs.Pointers.{object_size, usable, place_inside, place_moved, moved}
use Rattle.cx_stays.proofs.ReachMemory.{given_either, scalar_part_leads, record_part_leads, live_leads}
use Rattle.cx_stays.specs.Reach.{LeadsWithin, CellLeadsWithin, IsPlaceWithin, GivesWithin, IsClosedIn}

-- ---- outcomes

pub given_accessed : {A : Type 0} (P : A → Type 0) (outcome : Result A Fault) → IfGiven P outcome → IfGiven P (accessed outcome)
given_accessed P (Ok value) is = is
given_accessed P (Err fault) is = tt

pub given_pointers : {A : Type 0} (P : A → Type 0) (rule : URule) (outcome : Result A PointerFault) → IfGiven P outcome → IfGiven P (by_pointers rule outcome)
given_pointers P rule (Ok value) is = is
given_pointers P rule (Err fault) is = tt

-- the place of an object, as `place_in` says it
abbrev object_value : Option Ptr → Result Value CWhy
object_value None = Err stuck
object_value (Some at) = Ok (Pointer at)

module _ (reached : ℕ → Bool) where
  -- ---- what cells mean

  number_leads : {E : Type 0} (outcome : Result ℤ E) → IfGiven (LeadsWithin reached) (and_then outcome (λ number. Ok (Number number)))
  number_leads (Ok number) = tt
  number_leads (Err why) = tt

  whole_leads : (kind : Scalar) (n : ℕ) → IfGiven (LeadsWithin reached) (number_value kind n)
  whole_leads Truth n = given_where (LeadsWithin reached) (nat_lt n 2) (Ok (Number (pos n))) BadBool (λ _. tt)
  whole_leads (Whole width signed) n = tt
  whole_leads Object n = tt
  whole_leads Code n = tt

  stored_leads : (kind : Scalar) (held : List Cell) → All (CellLeadsWithin reached) held → IfGiven (LeadsWithin reached) (stored_pointer kind held)
  stored_leads kind [] are = tt
  stored_leads kind (Bits value set ∷ others) are = tt
  stored_leads kind (PtrByte of index ∷ others) are =
      given_where (LeadsWithin reached) _ (Ok of) MixedPointer (λ _. All-head (CellLeadsWithin reached) (PtrByte of index) others are)

  pointer_leads : (kind : Scalar) (held : List Cell) → All (CellLeadsWithin reached) held → IfGiven (LeadsWithin reached) (pointer_value kind held)
  pointer_leads kind held are = given_either (LeadsWithin reached) (list_all is_zero held) (Ok Null) (stored_pointer kind held) tt (stored_leads kind held are)

  bits_mean : (kind : Scalar) (held : List Cell) → IfGiven (LeadsWithin reached) (whole_value kind held)
  bits_mean kind held = given_where (LeadsWithin reached) (list_all is_bits held) (number_value kind (bits_of held)) MixedPointer (λ _. whole_leads kind (bits_of held))

  meaning_leads : (kind : Scalar) (held : List Cell) → All (CellLeadsWithin reached) held → IfGiven (LeadsWithin reached) (meaning_of kind held)
  meaning_leads Truth held are = bits_mean Truth held
  meaning_leads (Whole width signed) held are = bits_mean (Whole width signed) held
  meaning_leads Object held are = pointer_leads Object held are
  meaning_leads Code held are = pointer_leads Code held are

  value_leads : (kind : Scalar) (held : List Cell) → All (CellLeadsWithin reached) held → IfGiven (LeadsWithin reached) (value_of kind held)
  value_leads kind held are = given_where (LeadsWithin reached) (list_all is_set held) (meaning_of kind held) Unset (λ _. meaning_leads kind held are)

  loaded_leads : (blocks : Blocks) (at : Ptr) (kind : Scalar) → reached at.block ≡ true → IsClosedIn reached blocks → IfGiven (LeadsWithin reached) (value_at blocks at kind)
  loaded_leads blocks at kind within closed =
      live_leads reached (LeadsWithin reached) blocks at.block (λ block. block_value block at.offset kind) within closed
      (λ block are. given_and (All (CellLeadsWithin reached)) (LeadsWithin reached) (scalar_part_of block at.offset kind) _ (scalar_part_leads reached block at.offset kind are) (λ held held_are. value_leads kind held held_are))

  record_leads : (blocks : Blocks) (at : Ptr) (size align : ℕ) → reached at.block ≡ true → IsClosedIn reached blocks → IfGiven (All (CellLeadsWithin reached)) (record_at blocks at size align)
  record_leads blocks at size align within closed =
      live_leads reached (All (CellLeadsWithin reached)) blocks at.block (λ block. record_part_of block at.offset size align) within closed
      (λ block are. record_part_leads reached block at.offset size align are)

  pub field_value_leads : (kind : Scalar) (width bits : ℕ) → IfGiven (LeadsWithin reached) (field_value kind width bits)
  field_value_leads Truth width bits = tt
  field_value_leads (Whole size signed) width bits = tt
  field_value_leads Object width bits = tt
  field_value_leads Code width bits = tt

  -- ---- pointers that are moved

  inside_leads : (block size : ℕ) (to : ℤ) → reached block ≡ true → IfGiven (λ (new : Ptr). reached new.block ≡ true) (place_inside block size to)
  inside_leads block size (pos offset) within =
      given_where (λ (new : Ptr). reached new.block ≡ true) (nat_le offset size) (Ok (record { block = block; offset = offset })) LeavesObject (λ _. within)
  inside_leads block size (negsuc n) within = tt

  place_moved_leads : (blocks : Blocks) (at : Ptr) (bytes : ℤ) → reached at.block ≡ true → IfGiven (λ (new : Ptr). reached new.block ≡ true) (place_moved blocks at bytes)
  place_moved_leads blocks at bytes within =
      given_then (λ (new : Ptr). reached new.block ≡ true) (object_size blocks at) _ (λ size. inside_leads at.block size _ within)

  moved_leads : (blocks : Blocks) (value : Value) (bytes : ℤ) → LeadsWithin reached value → IfGiven (LeadsWithin reached) (moved blocks value bytes)
  moved_leads blocks (Pointer at) bytes leads =
      given_and (λ (new : Ptr). reached new.block ≡ true) (LeadsWithin reached) (place_moved blocks at bytes) _ (place_moved_leads blocks at bytes leads) (λ new within. within)
  moved_leads blocks Null bytes leads = tt
  moved_leads blocks (Function number) bytes leads = tt
  moved_leads blocks (Number number) bytes leads = tt

  usable_leads : (blocks : Blocks) (value : Value) → LeadsWithin reached value → IfGiven (LeadsWithin reached) (usable blocks value)
  usable_leads blocks (Pointer at) leads = given_then (LeadsWithin reached) (object_size blocks at) _ (λ size. leads)
  usable_leads blocks Null leads = tt
  usable_leads blocks (Function number) leads = tt
  usable_leads blocks (Number number) leads = tt

  -- ---- operators

  pub unary_leads : (setting : CSetting) (op : Op1) (type : CTy) (blocks : Blocks) (value : Value) → IfGiven (LeadsWithin reached) (unary_value setting op type blocks value)
  unary_leads setting op type blocks value = number_leads _

  elements_leads : (blocks : Blocks) (value : Value) (bytes : Result ℤ CWhy) → LeadsWithin reached value → IfGiven (LeadsWithin reached) (and_then bytes (λ many. by_pointers U11 (moved blocks value many)))
  elements_leads blocks value (Ok bytes) leads = given_pointers (LeadsWithin reached) U11 (moved blocks value bytes) (moved_leads blocks value bytes leads)
  elements_leads blocks value (Err why) leads = tt

  -- a pointer and a number
  pointer_first_leads : (setting : CSetting) (op : Op2) (type : CTy) (blocks : Blocks) (left right : CTy) (value : Value) (number : ℤ) → LeadsWithin reached value
      → IfGiven (LeadsWithin reached) (binary_value setting op type blocks (record { type = left; value = value }) (record { type = right; value = Number number }))
  pointer_first_leads setting Add type blocks left right (Pointer at) number leads = elements_leads blocks (Pointer at) _ leads
  pointer_first_leads setting Subtract type blocks left right (Pointer at) number leads = elements_leads blocks (Pointer at) _ leads
  pointer_first_leads setting op type blocks left right (Pointer at) number leads = tt
  pointer_first_leads setting Add type blocks left right Null number leads = elements_leads blocks Null _ tt
  pointer_first_leads setting Subtract type blocks left right Null number leads = elements_leads blocks Null _ tt
  pointer_first_leads setting op type blocks left right Null number leads = tt
  pointer_first_leads setting Add type blocks left right (Function f) number leads = elements_leads blocks (Function f) _ tt
  pointer_first_leads setting Subtract type blocks left right (Function f) number leads = elements_leads blocks (Function f) _ tt
  pointer_first_leads setting op type blocks left right (Function f) number leads = tt
  pointer_first_leads setting op type blocks left right (Number one) number leads = given_then (LeadsWithin reached) (needed (scalar_in_type setting type)) _ (λ kind. number_leads (number_of_binary op kind one number))

  pointer_second_leads : (setting : CSetting) (op : Op2) (type : CTy) (blocks : Blocks) (left right : CTy) (number : ℤ) (value : Value) → LeadsWithin reached value
      → IfGiven (LeadsWithin reached) (binary_value setting op type blocks (record { type = left; value = Number number }) (record { type = right; value = value }))
  pointer_second_leads setting Add type blocks left right number (Pointer at) leads = elements_leads blocks (Pointer at) _ leads
  pointer_second_leads setting op type blocks left right number (Pointer at) leads = tt
  pointer_second_leads setting Add type blocks left right number Null leads = elements_leads blocks Null _ tt
  pointer_second_leads setting op type blocks left right number Null leads = tt
  pointer_second_leads setting Add type blocks left right number (Function f) leads = elements_leads blocks (Function f) _ tt
  pointer_second_leads setting op type blocks left right number (Function f) leads = tt
  pointer_second_leads setting op type blocks left right number (Number other) leads = given_then (LeadsWithin reached) (needed (scalar_in_type setting type)) _ (λ kind. number_leads (number_of_binary op kind number other))

  values_lead : (setting : CSetting) (op : Op2) (type : CTy) (blocks : Blocks) (left right : CTy) (first second : Value) → LeadsWithin reached first → LeadsWithin reached second
      → IfGiven (LeadsWithin reached) (binary_value setting op type blocks (record { type = left; value = first }) (record { type = right; value = second }))
  values_lead setting op type blocks left right (Number one) second leads other = pointer_second_leads setting op type blocks left right one second other
  values_lead setting op type blocks left right (Pointer at) (Number n) leads other = pointer_first_leads setting op type blocks left right (Pointer at) n leads
  values_lead setting op type blocks left right (Pointer at) Null leads other = number_leads _
  values_lead setting op type blocks left right (Pointer at) (Pointer to) leads other = number_leads _
  values_lead setting op type blocks left right (Pointer at) (Function g) leads other = number_leads _
  values_lead setting op type blocks left right Null (Number n) leads other = pointer_first_leads setting op type blocks left right Null n tt
  values_lead setting op type blocks left right Null Null leads other = number_leads _
  values_lead setting op type blocks left right Null (Pointer to) leads other = number_leads _
  values_lead setting op type blocks left right Null (Function g) leads other = number_leads _
  values_lead setting op type blocks left right (Function f) (Number n) leads other = pointer_first_leads setting op type blocks left right (Function f) n tt
  values_lead setting op type blocks left right (Function f) Null leads other = number_leads _
  values_lead setting op type blocks left right (Function f) (Pointer to) leads other = number_leads _
  values_lead setting op type blocks left right (Function f) (Function g) leads other = number_leads _

  pub binary_leads : (setting : CSetting) (op : Op2) (type : CTy) (blocks : Blocks) (left right : CTyped) → LeadsWithin reached left.value → LeadsWithin reached right.value
      → IfGiven (LeadsWithin reached) (binary_value setting op type blocks left right)
  binary_leads setting op type blocks left right leads other = values_lead setting op type blocks left.type right.type left.value right.value leads other

  -- ---- conversions

  converts_leads : (kind : Scalar) (blocks : Blocks) (value : Value) → LeadsWithin reached value → IfGiven (LeadsWithin reached) (to_scalar kind blocks value)
  converts_leads Truth blocks value leads = given_then (LeadsWithin reached) (is_true blocks value) _ (λ truth. tt)
  converts_leads (Whole width signed) blocks value leads = given_then (LeadsWithin reached) (number_in value) _ (λ number. tt)
  converts_leads Object blocks value leads =
      given_where (LeadsWithin reached) (is_of_kind Object value) (by_pointers U11 (usable blocks value)) stuck (λ _. given_pointers (LeadsWithin reached) U11 (usable blocks value) (usable_leads blocks value leads))
  converts_leads Code blocks value leads =
      given_where (LeadsWithin reached) (is_of_kind Code value) (by_pointers U11 (usable blocks value)) stuck (λ _. given_pointers (LeadsWithin reached) U11 (usable blocks value) (usable_leads blocks value leads))

  module _ (Named : ℕ → Type 0) where
    -- ---- operands

    pub scalar_gives : {E : Type 0} (outcome : Result Value E) → IfGiven (LeadsWithin reached) outcome → IfGiven (GivesWithin reached Named) (and_then outcome (λ value. Ok (scalar value)))
    scalar_gives (Ok value) leads = leads
    scalar_gives (Err why) leads = tt

    pub scalar_leads : (value : CValue) → GivesWithin reached Named value → IfGiven (LeadsWithin reached) (scalar_value value)
    scalar_leads (scalar value) gives = gives
    scalar_leads missing gives = tt
    scalar_leads (cells held from) gives = tt
    scalar_leads (names number) gives = tt
    scalar_leads (designates to) gives = tt
    scalar_leads (designates_bits at bit width) gives = tt

    pub kind_leads : (kind : Scalar) (value : CValue) → GivesWithin reached Named value → IfGiven (LeadsWithin reached) (value_of_kind kind value)
    kind_leads kind value gives =
        given_and (LeadsWithin reached) (LeadsWithin reached) (scalar_value value) _ (scalar_leads value gives) (λ one leads. given_where (LeadsWithin reached) (is_of_kind kind one) (Ok one) stuck (λ _. leads))

    convert_scalar_gives : (found : Option Scalar) (blocks : Blocks) (value : CValue) → GivesWithin reached Named value → IfGiven (GivesWithin reached Named) (converted_scalar found blocks value)
    convert_scalar_gives None blocks value gives = tt
    convert_scalar_gives (Some kind) blocks value gives =
        given_and (LeadsWithin reached) (GivesWithin reached Named) (scalar_value value) _ (scalar_leads value gives) (λ one leads. scalar_gives (to_scalar kind blocks one) (converts_leads kind blocks one leads))

    pub converted_gives : (setting : CSetting) (type : CTy) (blocks : Blocks) (value : CValue) → GivesWithin reached Named value → IfGiven (GivesWithin reached Named) (converted_value setting type blocks value)
    converted_gives setting (ty void is_const) blocks value gives = tt
    converted_gives setting (ty (basic which) is_const) blocks value gives = convert_scalar_gives (scalar_in_type setting (ty (basic which) is_const)) blocks value gives
    converted_gives setting (ty (enum_type number) is_const) blocks value gives = convert_scalar_gives (scalar_in_type setting (ty (enum_type number) is_const)) blocks value gives
    converted_gives setting (ty (pointer to) is_const) blocks value gives = convert_scalar_gives (scalar_in_type setting (ty (pointer to) is_const)) blocks value gives
    converted_gives setting (ty (array element length) is_const) blocks value gives = tt
    converted_gives setting (ty (record_type number) is_const) blocks value gives = tt
    converted_gives setting (ty (function result params variadic) is_const) blocks value gives = tt

    -- ---- members of values

    part_gives : (held : List Cell) (offset count : ℕ) → All (CellLeadsWithin reached) held → IfGiven (All (CellLeadsWithin reached)) (value_part held offset count)
    part_gives held offset count are =
        given_where (All (CellLeadsWithin reached)) (nat_le (offset + count) (length held)) (Ok (take count (drop offset held))) stuck
        (λ _. All-take (CellLeadsWithin reached) count (drop offset held) (All-drop (CellLeadsWithin reached) offset held are))

    -- the place behind another in its block
    behind_within : (bytes : ℕ) (from : Option Ptr) → IsPlaceWithin reached from → IsPlaceWithin reached (option_map (moved_by bytes) from)
    behind_within bytes None within = tt
    behind_within bytes (Some at) within = within

    member_kind_gives : (byte : ℕ) (held : List Cell) (from : Option Ptr) (kind : CKind) → All (CellLeadsWithin reached) held → IsPlaceWithin reached from → IfGiven (GivesWithin reached Named) (member_of_kind byte held from kind)
    member_kind_gives byte held from (of_scalar kind) are within =
        given_and (All (CellLeadsWithin reached)) (GivesWithin reached Named) (value_part held byte (scalar_size kind)) _ (part_gives held byte (scalar_size kind) are)
        (λ part part_are. scalar_gives (accessed (value_of kind part)) (given_accessed (LeadsWithin reached) (value_of kind part) (value_leads kind part part_are)))
    member_kind_gives byte held from (of_record laid) are within =
        given_and (All (CellLeadsWithin reached)) (GivesWithin reached Named) (value_part held byte laid.size) _ (part_gives held byte laid.size are) (λ part part_are. (part_are, behind_within byte from within))

    member_bits_gives : (spot : Spot) (width : ℕ) (held : List Cell) (kind : Scalar) → IfGiven (GivesWithin reached Named) (member_bits spot width held kind)
    member_bits_gives spot width held kind =
        given_where (GivesWithin reached Named) (is_field_place spot.bit width) _ stuck (λ _.
        given_then (GivesWithin reached Named) (value_part held spot.byte (bytes_touched spot.bit width)) _ (λ part.
        given_then (GivesWithin reached Named) (accessed (field_in spot.bit width part)) _ (λ bits. scalar_gives (field_value kind width bits) (field_value_leads kind width bits))))

    member_with_gives : (setting : CSetting) (type : CTy) (spot : Spot) (width : ℕ) (held : List Cell) (from : Option Ptr) → All (CellLeadsWithin reached) held → IsPlaceWithin reached from
        → IfGiven (GivesWithin reached Named) (member_with setting type spot width held from)
    member_with_gives setting type spot zero held from are within =
        given_then (GivesWithin reached Named) (kind_of setting type) _ (λ kind. member_kind_gives spot.byte held from kind are within)
    member_with_gives setting type spot (suc n) held from are within =
        given_then (GivesWithin reached Named) (needed (scalar_in_type setting type)) _ (λ kind. member_bits_gives spot (suc n) held kind)

    pub pointed_gives : (value : Value) → LeadsWithin reached value → IfGiven (GivesWithin reached Named) (pointed_to value)
    pointed_gives (Pointer at) leads = leads
    pointed_gives Null leads = tt
    pointed_gives (Number number) leads = tt
    pointed_gives (Function number) leads = tt

    pub deref_gives : (value : CValue) → GivesWithin reached Named value → IfGiven (GivesWithin reached Named) (deref_value value)
    deref_gives value gives = given_and (LeadsWithin reached) (GivesWithin reached Named) (scalar_value value) _ (scalar_leads value gives) pointed_gives

    pub part_is_place : (at : Ptr) (bit width : ℕ) → reached at.block ≡ true → GivesWithin reached Named (part_with at bit width)
    part_is_place at bit zero within = within
    part_is_place at bit (suc n) within = within

    pub object_leads : (value : Value) → LeadsWithin reached value → IfGiven (λ (at : Ptr). reached at.block ≡ true) (object_at value)
    object_leads (Pointer at) leads = leads
    object_leads Null leads = tt
    object_leads (Number number) leads = tt
    object_leads (Function number) leads = tt

    member_place_gives : (blocks : Blocks) (spot : Spot) (laid : Option Laid) (place : Result Value CWhy) → IfGiven (LeadsWithin reached) place → IfGiven (GivesWithin reached Named) (member_of_place blocks spot laid place)
    member_place_gives blocks spot laid place leads =
        given_then (GivesWithin reached Named) (needed laid) _ (λ one.
        given_and (LeadsWithin reached) (GivesWithin reached Named) place _ leads (λ to to_leads.
        given_and (λ (at : Ptr). reached at.block ≡ true) (GivesWithin reached Named) (object_at to) _ (object_leads to to_leads) (λ at within.
        given_and (λ (new : Ptr). reached new.block ≡ true) (GivesWithin reached Named) (by_pointers U11 (place_moved blocks at (pos spot.byte))) _
        (given_pointers (λ (new : Ptr). reached new.block ≡ true) U11 (place_moved blocks at (pos spot.byte)) (place_moved_leads blocks at (pos spot.byte) within))
        (λ new new_within. given_then (GivesWithin reached Named) (accessed (aligned_place blocks one.align at)) _ (λ _. part_is_place new spot.bit spot.width new_within)))))

    -- ---- objects in scope

    module _ (frame : Frame) (live : (number : ℕ) → Named number → IsPlaceWithin reached (slot_of frame number)) where
      slot_leads : (found : Option Ptr) → IsPlaceWithin reached found → IfGiven (LeadsWithin reached) (object_value found)
      slot_leads None within = tt
      slot_leads (Some at) within = within

      pub place_leads : (value : CValue) → GivesWithin reached Named value → IfGiven (LeadsWithin reached) (place_in frame value)
      place_leads (names number) gives = slot_leads (slot_of frame number) (live number gives)
      place_leads (designates to) gives = gives
      place_leads (designates_bits at bit width) gives = tt
      place_leads (scalar value) gives = tt
      place_leads (cells held from) gives = tt
      place_leads missing gives = tt

      pub address_gives : (value : CValue) → GivesWithin reached Named value → IfGiven (GivesWithin reached Named) (address_value frame value)
      address_gives value gives = scalar_gives (place_in frame value) (place_leads value gives)

      pub member_gives : (setting : CSetting) (blocks : Blocks) (type holder : CTy) (spot : Spot) (value : CValue) → GivesWithin reached Named value → IfGiven (GivesWithin reached Named) (member_value setting frame blocks type holder spot value)
      member_gives setting blocks type holder spot (cells held from) gives = member_with_gives setting type spot spot.width held from gives.0 gives.1
      member_gives setting blocks type holder spot missing gives = tt
      member_gives setting blocks type holder spot (scalar value) gives = member_place_gives blocks spot (extent_in setting holder) (place_in frame (scalar value)) (place_leads (scalar value) gives)
      member_gives setting blocks type holder spot (names number) gives = member_place_gives blocks spot (extent_in setting holder) (place_in frame (names number)) (place_leads (names number) gives)
      member_gives setting blocks type holder spot (designates to) gives = member_place_gives blocks spot (extent_in setting holder) (place_in frame (designates to)) (place_leads (designates to) gives)
      member_gives setting blocks type holder spot (designates_bits at bit width) gives = member_place_gives blocks spot (extent_in setting holder) (place_in frame (designates_bits at bit width)) (place_leads (designates_bits at bit width) gives)

      -- ---- loads

      load_scalar_gives : (blocks : Blocks) (at : Ptr) (marks : Marks) (kind : Scalar) → reached at.block ≡ true → IsClosedIn reached blocks → IfGiven (λ (one : CLoaded). GivesWithin reached Named one.value) (loaded_scalar blocks at marks kind)
      load_scalar_gives blocks at marks kind within closed =
          given_then (λ (one : CLoaded). GivesWithin reached Named one.value) (accessed (part_at blocks at (scalar_size kind))) _ (λ _.
          given_then (λ (one : CLoaded). GivesWithin reached Named one.value) (sequenced_after marks (bits_of_bytes at (scalar_size kind))) _ (λ range.
          given_and (LeadsWithin reached) (λ (one : CLoaded). GivesWithin reached Named one.value) (accessed (value_at blocks at kind)) _ (given_accessed (LeadsWithin reached) (value_at blocks at kind) (loaded_leads blocks at kind within closed)) (λ value leads. leads)))

      load_record_gives : (blocks : Blocks) (at : Ptr) (marks : Marks) (laid : Laid) → reached at.block ≡ true → IsClosedIn reached blocks → IfGiven (λ (one : CLoaded). GivesWithin reached Named one.value) (loaded_record blocks at marks laid)
      load_record_gives blocks at marks laid within closed =
          given_then (λ (one : CLoaded). GivesWithin reached Named one.value) (accessed (part_at blocks at laid.size)) _ (λ _.
          given_then (λ (one : CLoaded). GivesWithin reached Named one.value) (sequenced_after marks (bits_of_bytes at laid.size)) _ (λ range.
          given_and (All (CellLeadsWithin reached)) (λ (one : CLoaded). GivesWithin reached Named one.value) (accessed (record_at blocks at laid.size laid.align)) _
          (given_accessed (All (CellLeadsWithin reached)) (record_at blocks at laid.size laid.align) (record_leads blocks at laid.size laid.align within closed)) (λ held are. (are, within))))

      load_kind_gives : (blocks : Blocks) (at : Ptr) (marks : Marks) (kind : CKind) → reached at.block ≡ true → IsClosedIn reached blocks → IfGiven (λ (one : CLoaded). GivesWithin reached Named one.value) (loaded_kind blocks at marks kind)
      load_kind_gives blocks at marks (of_scalar kind) within closed = load_scalar_gives blocks at marks kind within closed
      load_kind_gives blocks at marks (of_record laid) within closed = load_record_gives blocks at marks laid within closed

      load_bits_gives : (blocks : Blocks) (at : Ptr) (bit width : ℕ) (marks : Marks) (kind : Scalar) → IfGiven (λ (one : CLoaded). GivesWithin reached Named one.value) (loaded_bits blocks at bit width marks kind)
      load_bits_gives blocks at bit width marks kind =
          given_where (λ (one : CLoaded). GivesWithin reached Named one.value) (is_field_place bit width) _ stuck (λ _.
          given_then (λ (one : CLoaded). GivesWithin reached Named one.value) (accessed (part_at blocks at (bytes_touched bit width))) _ (λ _.
          given_then (λ (one : CLoaded). GivesWithin reached Named one.value) (sequenced_after marks (bits_of_field at bit width)) _ (λ range.
          given_then (λ (one : CLoaded). GivesWithin reached Named one.value) (accessed (field_at blocks at bit width)) _ (λ bits.
          given_and (LeadsWithin reached) (λ (one : CLoaded). GivesWithin reached Named one.value) (field_value kind width bits) _ (field_value_leads kind width bits) (λ value leads. leads)))))

      load_from_gives : (setting : CSetting) (blocks : Blocks) (type : CTy) (marks : Marks) (place : Result Value CWhy) → IfGiven (LeadsWithin reached) place → IsClosedIn reached blocks
          → IfGiven (λ (one : CLoaded). GivesWithin reached Named one.value) (loaded_from setting blocks type marks place)
      load_from_gives setting blocks type marks place leads closed =
          given_then (λ (one : CLoaded). GivesWithin reached Named one.value) (kind_of setting type) _ (λ kind.
          given_and (LeadsWithin reached) (λ (one : CLoaded). GivesWithin reached Named one.value) place _ leads (λ to to_leads.
          given_and (λ (at : Ptr). reached at.block ≡ true) (λ (one : CLoaded). GivesWithin reached Named one.value) (object_at to) _ (object_leads to to_leads) (λ at within. load_kind_gives blocks at marks kind within closed)))

      pub load_gives : (setting : CSetting) (blocks : Blocks) (type : CTy) (place : CValue) (marks : Marks) → GivesWithin reached Named place → IsClosedIn reached blocks
          → IfGiven (λ (one : CLoaded). GivesWithin reached Named one.value) (loaded setting frame blocks type place marks)
      load_gives setting blocks type (designates_bits at bit width) marks gives closed =
          given_then (λ (one : CLoaded). GivesWithin reached Named one.value) (needed (scalar_in_type setting type)) _ (λ kind. load_bits_gives blocks at bit width marks kind)
      load_gives setting blocks type (scalar value) marks gives closed = load_from_gives setting blocks type marks (place_in frame (scalar value)) (place_leads (scalar value) gives) closed
      load_gives setting blocks type (cells held from) marks gives closed = load_from_gives setting blocks type marks (place_in frame (cells held from)) (place_leads (cells held from) gives) closed
      load_gives setting blocks type (names number) marks gives closed = load_from_gives setting blocks type marks (place_in frame (names number)) (place_leads (names number) gives) closed
      load_gives setting blocks type (designates to) marks gives closed = load_from_gives setting blocks type marks (place_in frame (designates to)) (place_leads (designates to) gives) closed
      load_gives setting blocks type missing marks gives closed = load_from_gives setting blocks type marks (place_in frame missing) (place_leads missing gives) closed
