-- Puts of compound literals (ISO C99, 6.5.2.5, 6.7.8): each stores a typed value in a part of the literal's object.
use Rattle.std.proofs.Common.{◌≡◌, inl, inr, ℕ, zero, suc, ◌+◌, ◌≤◌, ◌==◌, Bool, true, false, cond as chosen_by, [], ◌∷◌, Option, Some, None, IfSome, IsSome, Ok, refl, sym, ap, subst, ◌∙◌, arith}
use Rattle.cr_base.specs.declared.layout.Laid.{Laid}
use Rattle.cr_base.specs.declared.layout.Spot.{Spot}
use Rattle.cr_base.specs.declared.refusal.Place.{Place}
use Rattle.cx_core.specs.Layouts.{whole_extent, extent, layouts_of}
use Rattle.cx_core.specs.Trees.{CTy, ty, void, basic, enum_type, pointer, array, record_type, function, form_of_type, unqualified, CTypes, CProgram, CExpr, expr, whole, null, object, code, load, deref, member, address, convert, unary, binary, and, or, cond, assign, assign_by, step, call, call_by, comma, literal, CPut, put, CPuts, no_puts, more_puts, CObject, type_of}
use Rattle.cx_core.specs.Typing.{CHome, IsTyped, IsLvalue, IsLiteralOf, ArePuts, IsTypedPut}
use Rattle.cx_core.specs.ValidTypes.{IsTypeIn, IsResultForm, AreTypes}
use Rattle.cx_mean.specs.Accesses.{stored, stored_bits}
use Rattle.cx_mean.specs.Initialisers.{part_with, put_stored}
use Rattle.cx_mean.specs.Marks.{Marks}
use Rattle.cx_mean.specs.Nodes.{marks_after_put}
use Rattle.cx_mean.specs.Operands.{needed, CValue, scalar, cells, names, designates, designates_bits, missing, COperand, Slot, Frame, slot_of}
use Rattle.cx_mean.specs.Settings.{setting_of, extent_in}
use Rattle.cx_mean.specs.Steps.{at_node, put_step, place_of_put}
use Rattle.cx_mean.specs.Work.{filled}
use Rattle.mem_bytes.specs.Access.{and_then}
use Rattle.mem_bytes.specs.declared.value.Ptr.{Ptr}
use Rattle.mem_bytes.specs.declared.value.Value.TheVariants.{Object as Pointer}
use Rattle.mem_bytes.specs.Memory.{Blocks}
use Rattle.cx_typed_values.specs.Outcomes.{Comes}
use Rattle.cx_typed_values.specs.Values.{most_bytes}
use Rattle.cx_typed_work.proofs.Accesses.{IsAccess}
use Rattle.cx_typed_work.proofs.Begun.{begun_typed}
use Rattle.cx_typed_work.proofs.BitStores.{bits_stored}
use Rattle.cx_typed_work.proofs.Choices.{DidLeaves, at_node_leaves}
use Rattle.cx_typed_work.proofs.Given.{value_given}
use Rattle.cx_typed_work.proofs.Inside.{IsInside}
use Rattle.cx_typed_work.proofs.MemberValues.{access_by, field_place_is}
use Rattle.cx_typed_work.proofs.Outcomes.{comes_and, comes_needed}
use Rattle.cx_typed_work.proofs.Parts.{IsPlaced, placed_inside}
use Rattle.cx_typed_work.proofs.Places.{names_alive}
use Rattle.cx_typed_work.proofs.Rows.{extent_whole}
use Rattle.cx_typed_work.proofs.Stores.{IsStoredOf, IsStorable, store_comes}
use Rattle.cx_typed_work.specs.Operands.{IsValueOfType, IsGiven, IsOperandOf}
use Rattle.cx_typed_work.specs.Scenes.{IsAlive, IsScene}
use Rattle.cx_typed_work.specs.Steps.{StepLeaves}
use Rattle.cx_typed_work.specs.Works.{IsFilling, value_of_put, IsTypedNode, IsTypedWork}

-- ---- the puts of a literal

-- a put among those of a literal
among : (home : CHome) (holder type : CTy) (place : Place) (number : ℕ) (puts : CPuts) (one : CPut) (others : CPuts) → ArePuts home holder puts → IsFilling (expr type place (literal number puts)) one others → IsTypedPut home holder one
among home holder type place number no_puts one others are filling = absurd filling
among home holder type place number (more_puts first rest) one others are (inl same) = subst (IsTypedPut home holder) same.0 are.0
among home holder type place number (more_puts first rest) one others are (inr behind) = among home holder type place number rest one others are.1 behind

-- the put behind it is the next one
next_filling : (type : CTy) (place : Place) (number : ℕ) (puts : CPuts) (one next : CPut) (others : CPuts) → IsFilling (expr type place (literal number puts)) one (more_puts next others) → IsFilling (expr type place (literal number puts)) next others
next_filling type place number no_puts one next others filling = absurd filling
next_filling type place number (more_puts first rest) one next others (inl same) =
    inr (subst (λ (all : CPuts). IsFilling (expr type place (literal number all)) next others) (sym same.1) (inl (refl, refl)))
next_filling type place number (more_puts first rest) one next others (inr behind) = inr (next_filling type place number rest one next others behind)

value_typed : (home : CHome) (holder : CTy) (one : CPut) → IsTypedPut home holder one → IsTyped home (value_of_put one)
value_typed home holder (put spot type value) is = is.0

-- the value of a put is a typed expression
pub put_typed : (home : CHome) (node : CExpr) (one : CPut) (others : CPuts) → IsTypedNode home node → IsFilling node one others → IsTypedNode home (value_of_put one)
put_typed home (expr type place (literal number puts)) one others (inr is) filling = inl (value_typed home type one (among home type type place number puts one others is.2.1 filling))
put_typed home (expr type place (literal number puts)) one others (inl is) filling = absurd is.1
put_typed home (expr type place (whole value)) one others is filling = absurd filling
put_typed home (expr type place null) one others is filling = absurd filling
put_typed home (expr type place (object number)) one others is filling = absurd filling
put_typed home (expr type place (code number)) one others is filling = absurd filling
put_typed home (expr type place (load from)) one others is filling = absurd filling
put_typed home (expr type place (deref from)) one others is filling = absurd filling
put_typed home (expr type place (member of spot)) one others is filling = absurd filling
put_typed home (expr type place (address of)) one others is filling = absurd filling
put_typed home (expr type place (convert value)) one others is filling = absurd filling
put_typed home (expr type place (unary op value)) one others is filling = absurd filling
put_typed home (expr type place (binary op left right)) one others is filling = absurd filling
put_typed home (expr type place (and left right)) one others is filling = absurd filling
put_typed home (expr type place (or left right)) one others is filling = absurd filling
put_typed home (expr type place (cond test first second)) one others is filling = absurd filling
put_typed home (expr type place (assign target value)) one others is filling = absurd filling
put_typed home (expr type place (assign_by op computes target value)) one others is filling = absurd filling
put_typed home (expr type place (step up post on)) one others is filling = absurd filling
put_typed home (expr type place (call callee args)) one others is filling = absurd filling
put_typed home (expr type place (call_by callee args)) one others is filling = absurd filling
put_typed home (expr type place (comma first second)) one others is filling = absurd filling

-- ---- before the next put

-- what is left of the puts of a literal
abbrev pub AreLeft : CExpr → CPuts → Type 0
AreLeft node no_puts = Unit {0}
AreLeft node (more_puts first rest) = IsFilling node first rest

left_behind : (type : CTy) (place : Place) (number : ℕ) (puts : CPuts) (one : CPut) (others : CPuts) → IsFilling (expr type place (literal number puts)) one others → AreLeft (expr type place (literal number puts)) others
left_behind type place number puts one no_puts filling = tt
left_behind type place number puts one (more_puts next rest) filling = next_filling type place number puts one next rest filling

-- a literal begins its next put, or names its object
pub filled_typed : (home : CHome) (type : CTy) (place : Place) (number : ℕ) (puts : CPuts) (marks : Marks) (others : CPuts) → home.mentions ≡ None → IsLvalue home (expr type place (literal number puts))
    → AreLeft (expr type place (literal number puts)) others → IsTypedWork home (expr type place (literal number puts)) (filled (expr type place (literal number puts)) number marks others)
filled_typed home type place number puts marks no_puts whole_is is left = record { typed = inr is; left = record { type_is = refl; given = inl (is, refl) } }
filled_typed home type place number puts marks (more_puts (put spot part value) rest) whole_is is left =
    let node = expr type place (literal number puts) in
    record { typed = inr is; left = (refl, left, begun_typed home value whole_is (put_typed home node (put spot part value) rest (inr is) left)) }

-- ---- the object of a literal

-- an object begins at its first byte
pub slot_begins : (frame : Frame) (number : ℕ) (at : Ptr) → slot_of frame number ≡ Some at → at.offset ≡ 0
slot_begins [] number at e = absurd cc
slot_begins (slot ∷ others) number at e = by slot (slot_of others number) (slot.object == number) at e (slot_begins others number at)
  where
    by : (one : Slot) (rest : Option Ptr) (test : Bool) (to : Ptr) → chosen_by test (Some (record { block = one.block; offset = 0 })) rest ≡ Some to → (rest ≡ Some to → to.offset ≡ 0) → to.offset ≡ 0
    by one rest true to same behind = let is : record { block = one.block; offset = 0 } ≡ to = cc (same) in sym (ap (λ (p : Ptr). p.offset) is)
    by one rest false to same behind = behind same

-- the object of a literal lives, and has its type
pub record IsLiteralAlive (home : CHome) (frame : Frame) (blocks : Blocks) (type : CTy) (number : ℕ) : Type 0 where
  pub one : CObject
  pub alive : IsAlive home.program frame blocks one
  pub at_is : slot_of frame number ≡ Some alive.at
  pub begins : alive.at.offset ≡ 0
  pub laid_is : extent_in (setting_of home.program) type ≡ Some alive.laid

pub literal_lives : (home : CHome) (frame : Frame) (blocks : Blocks) (type : CTy) (place : Place) (number : ℕ) (puts : CPuts) → IsScene home frame blocks → IsLvalue home (expr type place (literal number puts))
    → IsLiteralAlive home frame blocks type number
literal_lives home frame blocks type place number puts scene is =
    let found = names_alive home frame blocks (expr type place (literal number puts)) number scene is refl in
    let own : IsLiteralOf home type found.one = subst (λ o. IfSome o (IsLiteralOf home type)) found.one_is is.2.0.1 in
    let there : slot_of frame number ≡ Some found.alive.at = ap (slot_of frame) (sym found.number_is) ∙ found.alive.at_is in
    record {
      one = found.one;
      alive = found.alive;
      at_is = there;
      begins = slot_begins frame number found.alive.at there;
      laid_is = ap (extent_in (setting_of home.program)) (sym own.type_is) ∙ found.alive.laid_is;
    }

-- ---- the type of a put

-- a value of the unqualified type is one of the type
with_qualifier : (program : CProgram) (type : CTy) (value : CValue) → IsValueOfType program (unqualified type) value → IsValueOfType program type value
with_qualifier program (ty form is_const) (scalar value) is = record { kind = is.kind; kind_is = is.kind_is; of_kind = is.of_kind; leads = is.leads }
with_qualifier program (ty form is_const) (cells held from) is = record { is_record = is.is_record; laid = is.laid; laid_is = is.laid_is; all = is.all; typed = is.typed }
with_qualifier program (ty form is_const) (names number) is = absurd is
with_qualifier program (ty form is_const) (designates to) is = absurd is
with_qualifier program (ty form is_const) (designates_bits at bit width) is = absurd is
with_qualifier program (ty form is_const) missing is = absurd is

storable : (home : CHome) (value_node : CExpr) (type : CTy) (value : CValue) → type_of value_node ≡ unqualified type → IsGiven home.program value_node value → IsStorable home.program type value
storable home value_node type value e (inl good) = inl (with_qualifier home.program type value (subst (λ t. IsValueOfType home.program t value) e good))
storable home value_node type value e (inr lacks) = inr lacks.1

qualified_in : (types : CTypes) (unit : ℕ) (type : CTy) → IsTypeIn types unit (unqualified type) → IsResultForm (form_of_type type) → IsTypeIn types unit type
qualified_in types unit (ty void is_const) is result = tt
qualified_in types unit (ty (basic which) is_const) is result = tt
qualified_in types unit (ty (enum_type number) is_const) is result = is
qualified_in types unit (ty (pointer to) is_const) is result = is
qualified_in types unit (ty (array element length) is_const) is result = absurd result
qualified_in types unit (ty (record_type number) is_const) is result = is
qualified_in types unit (ty (function result_type params variadic) is_const) is result = absurd result

type_there : (home : CHome) (node : CExpr) → IsTyped home node → IsTypeIn home.program.types home.unit (type_of node)
type_there home (expr type place form) is = is.0

-- ---- the store of a put

some_extent : {X : Type 0} (found : Option X) (one : X) → found ≡ Some one → IsSome found
some_extent found one e = subst IsSome (sym e) refl

put_access : (home : CHome) (size : ℕ) (spot : Spot) (type : CTy) (value : CExpr) → AreTypes home.program.types → IsTyped home value → IsResultForm (form_of_type type) → type_of value ≡ unqualified type
    → IsPlaced home.program.types size (record { spot = spot; type = type }) → IsAccess home.program type
put_access home size spot type value types typed result e placed =
    access_by home.program home.unit type types
    (qualified_in home.program.types home.unit type (subst (IsTypeIn home.program.types home.unit) e (type_there home value typed)) result)
    (some_extent (extent (layouts_of home.program.types) type) placed.laid placed.sized) result

-- a put in a part that begins at a byte, or in a bit-field
put_by : (home : CHome) (frame : Frame) (blocks : Blocks) (at : Ptr) (byte bit width size : ℕ) (type : CTy) (new : CValue) (marks : Marks) → IsScene home frame blocks → IsInside home.program.types size type byte bit width → IsAccess home.program type
    → at.offset + byte ≤ most_bytes → IsStorable home.program type new
    → Comes (IsStoredOf home.program type blocks) (stored (setting_of home.program) frame blocks type (part_with (record { block = at.block; offset = at.offset + byte }) bit width) new marks)
put_by home frame blocks at byte bit zero size type new marks scene inside access near fits =
    store_comes home.program type blocks new marks (Ok (Pointer (record { block = at.block; offset = at.offset + byte }))) access scene.memory fits near
put_by home frame blocks at byte bit (suc n) size type new marks scene inside access near fits =
    let held = inside.of_bits (λ none. cc (none)) in
    subst (λ found. Comes (IsStoredOf home.program type blocks) (and_then (needed found) (stored_bits blocks (record { block = at.block; offset = at.offset + byte }) bit (suc n) marks new))) (sym held.field.kind_is)
    (bits_stored home.program type blocks (record { block = at.block; offset = at.offset + byte }) bit (suc n) marks new held.field (field_place_is bit (suc n) held.low (omega arith) held.field.narrow) scene.memory fits)

-- a part of an object begins in it
begins_near : (types : CTypes) (size : ℕ) (type : CTy) (byte bit width : ℕ) (laid : Laid) → whole_extent (layouts_of types) type ≡ Some laid → IsInside types size type byte bit width → byte ≤ size
begins_near types size type byte bit zero laid sized is = let last : byte + laid.size ≤ size = is.ends refl laid sized in omega (arith, last)
begins_near types size type byte bit (suc n) laid sized is = let held = is.of_bits (λ none. cc (none)) in omega (arith, held.ends)

pub put_comes : (home : CHome) (frame : Frame) (blocks : Blocks) (node_type : CTy) (number : ℕ) (spot : Spot) (type : CTy) (value : CExpr) (operand : COperand) → IsScene home frame blocks → IsLiteralAlive home frame blocks node_type number
    → IsTypedPut home node_type (put spot type value) → IsOperandOf home value operand → Comes (IsStoredOf home.program type blocks) (put_stored (setting_of home.program) frame blocks number spot type operand)
put_comes home frame blocks node_type number spot type value operand scene lives is given =
    let placed = placed_inside home.program.types node_type type spot lives.alive.laid scene.linked.types is.1.part lives.laid_is in
    let first = begins_near home.program.types lives.alive.laid.size type spot.byte spot.bit spot.width placed.laid (extent_whole (layouts_of home.program.types) type placed.laid placed.sized) placed.inside in
    let most = scene.memory.objects.sizes lives.alive.at.block lives.alive.block lives.alive.live in
    let near : lives.alive.at.offset + spot.byte ≤ most_bytes = omega (arith, first, most, lives.alive.size, lives.begins) in
    comes_and (λ (at : Ptr). at ≡ lives.alive.at) (IsStoredOf home.program type blocks) (needed (slot_of frame number)) _ (comes_needed (λ (at : Ptr). at ≡ lives.alive.at) (slot_of frame number) lives.alive.at lives.at_is refl) (λ at same.
    put_by home frame blocks at spot.byte spot.bit spot.width lives.alive.laid.size type operand.value operand.marks scene placed.inside
    (put_access home lives.alive.laid.size spot type value scene.linked.types is.0 is.1.no_array is.1.value_is placed)
    (subst (λ (p : Ptr). p.offset + spot.byte ≤ most_bytes) (sym same) near)
    (storable home value type operand.value is.1.value_is (value_given home value operand.value is.0 given.given)))

-- ---- the step of a put

put_did : (home : CHome) (frame : Frame) (blocks : Blocks) (type : CTy) (place : Place) (number : ℕ) (puts : CPuts) (marks : Marks) (one : CPut) (others : CPuts) (operand : COperand) → IsScene home frame blocks
    → IsLvalue home (expr type place (literal number puts)) → IsFilling (expr type place (literal number puts)) one others → IsTypedPut home type one → IsOperandOf home (value_of_put one) operand
    → Comes (DidLeaves home (expr type place (literal number puts)) blocks) (put_step (setting_of home.program) frame blocks (expr type place (literal number puts)) marks one others operand)
put_did home frame blocks type place number puts marks (put spot part value) others operand scene is filling typed given =
    comes_and (IsStoredOf home.program part blocks) (DidLeaves home (expr type place (literal number puts)) blocks) (put_stored (setting_of home.program) frame blocks number spot part operand) _
    (put_comes home frame blocks type number spot part value operand scene (literal_lives home frame blocks type place number puts scene is) typed given) (λ one good. (
      filled_typed home type place number puts (marks_after_put marks one.marks) others scene.whole is (left_behind type place number puts (put spot part value) others filling),
      good.shapes,
      good.memory,
    ))

-- the step of a put leaves a typed tree, or breaks a rule
pub put_leaves : (home : CHome) (frame : Frame) (blocks : Blocks) (node : CExpr) (marks : Marks) (one : CPut) (others : CPuts) (operand : COperand) → IsScene home frame blocks → IsTypedNode home node → IsFilling node one others
    → IsOperandOf home (value_of_put one) operand → StepLeaves home node blocks (at_node (place_of_put one) (put_step (setting_of home.program) frame blocks node marks one others operand))
put_leaves home frame blocks (expr type place (literal number puts)) marks one others operand scene (inr is) filling given =
    at_node_leaves home (expr type place (literal number puts)) blocks (place_of_put one) _
    (put_did home frame blocks type place number puts marks one others operand scene is filling (among home type type place number puts one others is.2.1 filling) given)
put_leaves home frame blocks (expr type place (literal number puts)) marks one others operand scene (inl is) filling given = absurd is.1
put_leaves home frame blocks (expr type place (whole value)) marks one others operand scene is filling given = absurd filling
put_leaves home frame blocks (expr type place null) marks one others operand scene is filling given = absurd filling
put_leaves home frame blocks (expr type place (object number)) marks one others operand scene is filling given = absurd filling
put_leaves home frame blocks (expr type place (code number)) marks one others operand scene is filling given = absurd filling
put_leaves home frame blocks (expr type place (load from)) marks one others operand scene is filling given = absurd filling
put_leaves home frame blocks (expr type place (deref from)) marks one others operand scene is filling given = absurd filling
put_leaves home frame blocks (expr type place (member of spot)) marks one others operand scene is filling given = absurd filling
put_leaves home frame blocks (expr type place (address of)) marks one others operand scene is filling given = absurd filling
put_leaves home frame blocks (expr type place (convert value)) marks one others operand scene is filling given = absurd filling
put_leaves home frame blocks (expr type place (unary op value)) marks one others operand scene is filling given = absurd filling
put_leaves home frame blocks (expr type place (binary op left right)) marks one others operand scene is filling given = absurd filling
put_leaves home frame blocks (expr type place (and left right)) marks one others operand scene is filling given = absurd filling
put_leaves home frame blocks (expr type place (or left right)) marks one others operand scene is filling given = absurd filling
put_leaves home frame blocks (expr type place (cond test first second)) marks one others operand scene is filling given = absurd filling
put_leaves home frame blocks (expr type place (assign target value)) marks one others operand scene is filling given = absurd filling
put_leaves home frame blocks (expr type place (assign_by op computes target value)) marks one others operand scene is filling given = absurd filling
put_leaves home frame blocks (expr type place (step up post on)) marks one others operand scene is filling given = absurd filling
put_leaves home frame blocks (expr type place (call callee args)) marks one others operand scene is filling given = absurd filling
put_leaves home frame blocks (expr type place (call_by callee args)) marks one others operand scene is filling given = absurd filling
put_leaves home frame blocks (expr type place (comma first second)) marks one others operand scene is filling given = absurd filling
