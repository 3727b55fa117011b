-- What finished operands give: a place where they are lvalues, and a value where they aren't.
use Rattle.std.proofs.Common.{◌≡◌, ◌⊎◌, inl, inr, ℕ, zero, suc, ◌≤◌, ◌==◌, Bool, true, false, cond as chosen_by, IsTrue, List, [], ◌∷◌, Option, Some, None, Result, Ok, Err, refl, sym, ap, subst, ◌∙◌, arith}
use Rattle.cx_core.specs.Trees.{CTy, CExpr, expr, CForm, whole, null, object, code, load, deref, member, address, convert, unary, binary, and, or, cond, assign, assign_by, step, call, call_by, comma, literal, CProgram}
use Rattle.cx_core.specs.Typing.{CHome, IsTyped, IsLvalue}
use Rattle.cx_mean.specs.Operands.{CWhy, stuck, CValue, scalar, cells, names, designates, designates_bits, missing, Slot, Frame, slot_of, place_in}
use Rattle.mem_bytes.specs.declared.value.Ptr.{Ptr}
use Rattle.mem_bytes.specs.declared.value.Value.{Value}
use Rattle.mem_bytes.specs.declared.value.Value.TheVariants.{Object as Pointer}
use Rattle.mem_bytes.specs.Memory.{Blocks}
use Rattle.cx_typed_values.specs.Outcomes.{Comes}
use Rattle.cx_typed_values.specs.Values.{most_bytes}
use Rattle.cx_typed_work.proofs.Places.{IsNamedAlive, names_alive}
use Rattle.cx_typed_work.specs.Operands.{IsGiven, IsObjectPointer, IsPlaceOf, IsGivenBy}
use Rattle.cx_typed_work.specs.Scenes.{IsScene}

-- no expression is both
pub not_both : (home : CHome) (node : CExpr) → IsTyped home node → IsLvalue home node → ⊥
not_both home (expr type place (whole value)) is or_is = or_is.2
not_both home (expr type place null) is or_is = or_is.2
not_both home (expr type place (object number)) is or_is = is.1
not_both home (expr type place (code number)) is or_is = or_is.2
not_both home (expr type place (load from)) is or_is = or_is.2
not_both home (expr type place (deref from)) is or_is = is.1
not_both home (expr type place (member of spot)) is or_is = not_both home of is.1.0 or_is.2.0
not_both home (expr type place (address of)) is or_is = or_is.2
not_both home (expr type place (convert value)) is or_is = or_is.2
not_both home (expr type place (unary op value)) is or_is = or_is.2
not_both home (expr type place (binary op left right)) is or_is = or_is.2
not_both home (expr type place (and left right)) is or_is = or_is.2
not_both home (expr type place (or left right)) is or_is = or_is.2
not_both home (expr type place (cond test first second)) is or_is = or_is.2
not_both home (expr type place (assign target value)) is or_is = or_is.2
not_both home (expr type place (assign_by op computes target value)) is or_is = or_is.2
not_both home (expr type place (step up post on)) is or_is = or_is.2
not_both home (expr type place (call callee args)) is or_is = or_is.2
not_both home (expr type place (call_by callee args)) is or_is = or_is.2
not_both home (expr type place (comma first second)) is or_is = or_is.2
not_both home (expr type place (literal number puts)) is or_is = is.1

-- a value is given for what isn't an lvalue
pub value_given : (home : CHome) (node : CExpr) (value : CValue) → IsTyped home node → IsGivenBy home node value → IsGiven home.program node value
value_given home node value is (inl given) = absurd (not_both home node is given.0)
value_given home node value is (inr given) = given.1

-- and a place for an lvalue
pub place_given : (home : CHome) (node : CExpr) (value : CValue) → IsLvalue home node → IsGivenBy home node value → IsPlaceOf node value
place_given home node value is (inl given) = given.1
place_given home node value is (inr given) = absurd (not_both home node given.0 is)

-- ---- places

-- an object begins at its first byte
slot_begins : (frame : Frame) (number : ℕ) (at : Ptr) → slot_of frame number ≡ Some at → at.offset ≡ 0
slot_begins [] number at e = cc
slot_begins (slot ∷ others) number at e = by slot (slot_of others number) (slot.object == number) at e (slot_begins others number at)
  where
    by : (one : Slot) (rest : Option Ptr) (test : Bool) (to : Ptr) → chosen_by test (Some (record { block = one.block; offset = 0 })) rest ≡ Some to → (rest ≡ Some to → to.offset ≡ 0) → to.offset ≡ 0
    by one rest true to same behind = let is : record { block = one.block; offset = 0 } ≡ to = cc (same) in sym (ap (λ (p : Ptr). p.offset) is)
    by one rest false to same behind = behind same

named_place : (frame : Frame) (number : ℕ) (at : Ptr) → slot_of frame number ≡ Some at → Comes IsObjectPointer (place_in frame (names number))
named_place frame number at e =
    subst (λ one. Comes IsObjectPointer (elim one as (λ _. Result Value CWhy) [ None ↦ Err stuck | Some p ↦ Ok (Pointer p) ])) (sym e)
    (subst (λ n. n ≤ most_bytes) (sym (slot_begins frame number at e)) (omega arith))

abbrev pub IsBits : CValue → Type 0
IsBits (designates_bits at bit width) = Unit {0}
IsBits (scalar value) = ⊥
IsBits (cells held from) = ⊥
IsBits (names number) = ⊥
IsBits (designates to) = ⊥
IsBits missing = ⊥

-- the place of an lvalue that isn't a bit-field
pub place_comes : (home : CHome) (frame : Frame) (blocks : Blocks) (node : CExpr) (place : CValue) → IsScene home frame blocks → IsLvalue home node → IsPlaceOf node place → (IsBits place → ⊥)
    → Comes IsObjectPointer (place_in frame place)
place_comes home frame blocks node (names number) scene is named plain =
    let one = names_alive home frame blocks node number scene is named in
    named_place frame number one.alive.at (ap (slot_of frame) (sym one.number_is) ∙ one.alive.at_is)
place_comes home frame blocks node (designates to) scene is there plain = there.1
place_comes home frame blocks node (designates_bits at bit width) scene is there plain = absurd (plain tt)
place_comes home frame blocks node (scalar value) scene is there plain = absurd there
place_comes home frame blocks node (cells held from) scene is there plain = absurd there
place_comes home frame blocks node missing scene is there plain = absurd there
