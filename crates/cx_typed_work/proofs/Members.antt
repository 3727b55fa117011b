-- Members of lvalues as nodes: the place of a member, and of a bit-field (ISO C99, 6.5.2.3p3, p4).
use Rattle.std.proofs.Common.{◌≡◌, inl, ℕ, zero, suc, ◌≤◌, ◌<◌, ◌==◌, not, true, Bool, IsTrue, pos, List, [], ◌∷◌, Option, Some, None, slice_get, Result, Ok, Err, refl, sym, ap, subst, arith}
use Rattle.std.proofs.lemmas.Bool.Decides.{nat_tests}
use Rattle.cr_base.specs.declared.layout.Laid.{Laid}
use Rattle.cr_base.specs.declared.layout.Spot.{Spot}
use Rattle.cr_base.specs.declared.refusal.Place.{Place}
use Rattle.cr_base.specs.declared.rule.URule.TheVariants.{U11}
use Rattle.cx_core.specs.Layouts.{CRow, row_at, extent, layouts_of}
use Rattle.cx_core.specs.Trees.{CTy, ty, void, basic, enum_type, pointer, array, record_type, function, form_of_type, CTypes, CExpr, expr, member, type_of}
use Rattle.cx_core.specs.Typing.{CHome, IsLvalue}
use Rattle.cx_core.specs.ValidTypes.{AreTypes, spot_of, IsMemberOf}
use Rattle.cx_mean.specs.Accesses.{is_field_place, object_at}
use Rattle.cx_mean.specs.Initialisers.{part_with}
use Rattle.cx_mean.specs.Marks.{Marks}
use Rattle.cx_mean.specs.Nodes.{aligned_place, member_at, member_of_place, member_value, node_done}
use Rattle.cx_mean.specs.Operands.{accessed, needed, by_pointers, CValue, scalar, cells, names, designates, designates_bits, missing, COperand, Frame, place_in, united_operands}
use Rattle.cx_mean.specs.Settings.{extent_in, setting_of}
use Rattle.mem_bytes.specs.Access.{and_then}
use Rattle.mem_bytes.specs.declared.pointer.PointerFault.{PointerFault}
use Rattle.mem_bytes.specs.declared.pointer.PointerFault.TheVariants.{ToDead, LeavesObject, NotWithinOne, NoPointer}
use Rattle.mem_bytes.specs.declared.value.Ptr.{Ptr}
use Rattle.mem_bytes.specs.declared.value.Value.{Value}
use Rattle.mem_bytes.specs.declared.value.Value.TheVariants.{Whole as Number, Null, Object as Pointer, Code as Function}
use Rattle.mem_bytes.specs.Memory.{Blocks}
use Rattle.mem_bytes.specs.Pointers.{place_moved}
use Rattle.cx_typed_values.proofs.PointerValues as pointers
use Rattle.cx_typed_values.specs.Outcomes.{Comes}
use Rattle.cx_typed_values.specs.Values.{most_bytes, AreObjects}
use Rattle.cx_typed_work.proofs.Fields.{field_at, holder_is_record}
use Rattle.cx_typed_work.proofs.Given.{place_given, place_comes, IsBits}
use Rattle.cx_typed_work.proofs.Lvalues.{field_of_place}
use Rattle.cx_typed_work.proofs.Nodes.{IsDoneOf, gives_comes, operands_united}
use Rattle.cx_typed_work.proofs.Outcomes.{comes_and, comes_accessed, comes_needed}
use Rattle.cx_typed_work.proofs.Rows.{row_sized}
use Rattle.cx_typed_work.specs.Operands.{IsObjectPointer, IsPlaceOf, IsGivenBy, IsOperandOf}
use Rattle.cx_typed_work.specs.Scenes.{IsScene}

-- ---- where a member begins

-- a place inside an object of the profile, or at its end
abbrev IsNearPlace : Ptr → Type 0
IsNearPlace at = at.offset ≤ most_bytes

near_place : (outcome : Result Ptr PointerFault) → Comes pointers.IsObjectPointer (by_pointers U11 (and_then outcome (λ new. Ok (Pointer new)))) → Comes IsNearPlace (by_pointers U11 outcome)
near_place (Ok new) is = is.near
near_place (Err ToDead) is = is
near_place (Err LeavesObject) is = is
near_place (Err NotWithinOne) is = is
near_place (Err NoPointer) is = is

place_moves : (blocks : Blocks) (at : Ptr) (bytes : ℕ) → AreObjects blocks → Comes IsNearPlace (by_pointers U11 (place_moved blocks at (pos bytes)))
place_moves blocks at bytes objects = near_place (place_moved blocks at (pos bytes)) (pointers.moved_comes blocks (Pointer at) (pos bytes) U11 objects tt)

-- ---- what is there

field_place_true : (bit width : ℕ) → bit < 8 → 0 < width → width ≤ 32 → IsTrue (is_field_place bit width)
field_place_true bit width low some narrow = grind (arith, nat_tests)

some_width : (width n : ℕ) → width ≡ suc n → width ≡ 0 → ⊥
some_width width n is zero_is = cc (is, zero_is)

has_width : (width n : ℕ) → width ≡ suc n → not (width == 0) ≡ true
has_width width n is = grind (arith, nat_tests, is)

-- the place of a member of an lvalue, or of a bit-field in it
part_given : (home : CHome) (type : CTy) (place : Place) (of : CExpr) (spot : Spot) (new : Ptr) (width : ℕ) → spot.width ≡ width → AreTypes home.program.types → IsLvalue home (expr type place (member of spot)) → IsNearPlace new
    → IsPlaceOf (expr type place (member of spot)) (part_with new spot.bit width)
part_given home type place of spot new zero same types is near = (ap (λ n. not (n == 0)) same, near)
part_given home type place of spot new (suc n) same types is near =
    let found = field_at home.program.types (type_of of) spot type types is.2.1 (some_width spot.width n same) in
    record {
      is_field = has_width spot.width n same;
      spot = spot;
      spot_is = refl;
      bit_is = refl;
      width_is = sym same;
      of_profile = field_place_true spot.bit (suc n) found.bit (omega (arith)) (subst (λ w. w ≤ 32) same found.field.narrow);
      near = near;
    }

member_there : (home : CHome) (type : CTy) (place : Place) (of : CExpr) (spot : Spot) (blocks : Blocks) (at : Ptr) → AreTypes home.program.types → AreObjects blocks → (align : ℕ) → IsLvalue home (expr type place (member of spot))
    → Comes (IsGivenBy home (expr type place (member of spot))) (member_at blocks spot align at)
member_there home type place of spot blocks at types objects align is =
    let node = expr type place (member of spot) in
    comes_and IsNearPlace (IsGivenBy home node) (by_pointers U11 (place_moved blocks at (pos spot.byte))) _ (place_moves blocks at spot.byte objects) (λ new near.
    comes_and (λ (_ : Ptr). Unit {0}) (IsGivenBy home node) (accessed (aligned_place blocks align at)) _ (comes_accessed (λ (_ : Ptr). Unit {0}) (aligned_place blocks align at) (λ _ _. tt)) (λ _ _.
    inl (is, part_given home type place of spot new spot.width refl types is near)))

-- ---- what has members

abbrev spots_in_row : Option CRow → List Spot
spots_in_row None = []
spots_in_row (Some row) = row.spots

holder_row : (types : CTypes) (number index : ℕ) (is_const : Bool) (at : Spot) (row : Option CRow) → row_at (layouts_of types) number ≡ row → slice_get (spots_in_row row) index ≡ Some at
    → (laid : Laid) × (extent (layouts_of types) (ty (record_type number) is_const) ≡ Some laid)
holder_row types number index is_const at None e there = cc
holder_row types number index is_const at (Some row) e there = (row.laid, row_sized types number is_const row e)

-- it has a size and an alignment
holder_sized : (types : CTypes) (holder : CTy) (index : ℕ) (at : Spot) → spot_of types (form_of_type holder) index ≡ Some at → (laid : Laid) × (extent (layouts_of types) holder ≡ Some laid)
holder_sized types (ty (record_type number) is_const) index at there = holder_row types number index is_const at (row_at (layouts_of types) number) refl there
holder_sized types (ty void is_const) index at there = cc
holder_sized types (ty (basic which) is_const) index at there = cc
holder_sized types (ty (enum_type number) is_const) index at there = cc
holder_sized types (ty (pointer to) is_const) index at there = cc
holder_sized types (ty (array element length) is_const) index at there = cc
holder_sized types (ty (function result params variadic) is_const) index at there = cc

-- it is no bit-field
no_bits : (home : CHome) (of : CExpr) (spot : Spot) (type : CTy) (value : CValue) → AreTypes home.program.types → IsLvalue home of → IsMemberOf home.program.types (type_of of) spot type → IsPlaceOf of value → IsBits value → ⊥
no_bits home of spot type (designates_bits at bit width) types is one there bits =
    let field = field_of_place home of at bit width types is there in
    holder_is_record home.program.types (form_of_type (type_of of)) one.index one.one field.kind one.member_is field.kind_is
no_bits home of spot type (names number) types is one there bits = bits
no_bits home of spot type (designates to) types is one there bits = bits
no_bits home of spot type (scalar value) types is one there bits = bits
no_bits home of spot type (cells held from) types is one there bits = bits
no_bits home of spot type missing types is one there bits = bits

at_object : (home : CHome) (type : CTy) (place : Place) (of : CExpr) (spot : Spot) (blocks : Blocks) (to : Value) (align : ℕ) → AreTypes home.program.types → AreObjects blocks → IsLvalue home (expr type place (member of spot)) → IsObjectPointer to
    → Comes (IsGivenBy home (expr type place (member of spot))) (and_then (object_at to) (member_at blocks spot align))
at_object home type place of spot blocks (Pointer at) align types objects is near = member_there home type place of spot blocks at types objects align is
at_object home type place of spot blocks Null align types objects is near = tt
at_object home type place of spot blocks (Number number) align types objects is near = absurd near
at_object home type place of spot blocks (Function number) align types objects is near = absurd near

from_place : (home : CHome) (frame : Frame) (blocks : Blocks) (type : CTy) (place : Place) (of : CExpr) (spot : Spot) (value : CValue) → IsScene home frame blocks → IsLvalue home (expr type place (member of spot)) → IsPlaceOf of value
    → Comes (IsGivenBy home (expr type place (member of spot))) (member_of_place blocks spot (extent_in (setting_of home.program) (type_of of)) (place_in frame value))
from_place home frame blocks type place of spot value scene is there =
    let sized = holder_sized home.program.types (type_of of) is.2.1.index spot is.2.1.spot_is in
    comes_and (λ (_ : Laid). Unit {0}) (IsGivenBy home (expr type place (member of spot))) (needed (extent_in (setting_of home.program) (type_of of))) _
    (comes_needed (λ (_ : Laid). Unit {0}) (extent_in (setting_of home.program) (type_of of)) sized.0 sized.1 tt) (λ laid _.
    comes_and IsObjectPointer (IsGivenBy home (expr type place (member of spot))) (place_in frame value) _
    (place_comes home frame blocks of value scene is.2.0 there (no_bits home of spot type value scene.linked.types is.2.0 is.2.1 there)) (λ to near.
    at_object home type place of spot blocks to laid.align scene.linked.types scene.memory.objects is near))

lvalue_member : (home : CHome) (frame : Frame) (blocks : Blocks) (type : CTy) (place : Place) (of : CExpr) (spot : Spot) (value : CValue) → IsScene home frame blocks → IsLvalue home (expr type place (member of spot)) → IsPlaceOf of value
    → Comes (IsGivenBy home (expr type place (member of spot))) (member_value (setting_of home.program) frame blocks type (type_of of) spot value)
lvalue_member home frame blocks type place of spot (names number) scene is there = from_place home frame blocks type place of spot (names number) scene is there
lvalue_member home frame blocks type place of spot (designates to) scene is there = from_place home frame blocks type place of spot (designates to) scene is there
lvalue_member home frame blocks type place of spot (designates_bits at bit width) scene is there = from_place home frame blocks type place of spot (designates_bits at bit width) scene is there
lvalue_member home frame blocks type place of spot (scalar value) scene is there = absurd there
lvalue_member home frame blocks type place of spot (cells held from) scene is there = absurd there
lvalue_member home frame blocks type place of spot missing scene is there = absurd there

-- ---- the node

pub member_done : (home : CHome) (frame : Frame) (blocks : Blocks) (type : CTy) (place : Place) (of : CExpr) (spot : Spot) (one : COperand) → IsScene home frame blocks → IsLvalue home (expr type place (member of spot)) → IsOperandOf home of one
    → Comes (IsDoneOf home (expr type place (member of spot)) blocks) (node_done (setting_of home.program) type (member of spot) frame blocks (one ∷ []))
member_done home frame blocks type place of spot one scene is given =
    let node = expr type place (member of spot) in
    comes_and (λ (_ : Marks). Unit {0}) (IsDoneOf home node blocks) (united_operands (one ∷ [])) _ (operands_united (one ∷ [])) (λ marks _.
    gives_comes home node marks blocks (member_value (setting_of home.program) frame blocks type (type_of of) spot one.value) scene.memory
    (lvalue_member home frame blocks type place of spot one.value scene is (place_given home of one.value is.2.0 given.given)))
