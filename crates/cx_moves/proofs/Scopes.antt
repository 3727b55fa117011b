-- Objects among some and others.
use Rattle.std.proofs.Common.{◌≡◌, ◌∙◌, refl, sym, ap, ℕ, ◌==◌, Bool, true, false, List, [], ◌∷◌, ◌++◌, Option, Some, None, if◌then◌else◌}
use Rattle.cx_mean.specs.Moves.{slots_in}
use Rattle.cx_mean.specs.Operands.{Slot, Frame, slot_of}
use Rattle.cx_mean.specs.Paths.{CLevel}
use Rattle.cx_moves.specs.declared.sites.Level.{Level}
use Rattle.cx_moves.specs.Sites.{view_level, levels_of}
use Rattle.cx_moves.proofs.Newest.{newest_of}
use Rattle.mem_bytes.specs.declared.value.Ptr.{Ptr}

abbrev or_in : Option Ptr → Option Ptr → Option Ptr
or_in (Some at) other = Some at
or_in None other = other

or_further : (is_here : Bool) (at : Ptr) (rest other : Option Ptr) → (if is_here then Some at else or_in rest other) ≡ or_in (if is_here then Some at else rest) other
or_further true at rest other = refl
or_further false at rest other = refl

slot_in_both : (first second : Frame) (object : ℕ) → slot_of (first ++ second) object ≡ or_in (slot_of first object) (slot_of second object)
slot_in_both [] second object = refl
slot_in_both (slot ∷ others) second object =
    ap (λ (rest : Option Ptr). if slot.object == object then Some (record { block = slot.block; offset = 0 }) else rest) (slot_in_both others second object)
    ∙ or_further (slot.object == object) (record { block = slot.block; offset = 0 }) (slot_of others object) (slot_of second object)

pub slot_in_first : (first second : Frame) (object : ℕ) (at : Ptr) → Some at ≡ slot_of first object → Some at ≡ slot_of (first ++ second) object
slot_in_first first second object at is = rw slot_in_both (rw (← is) refl)

pub slot_in_second : (first second : Frame) (object : ℕ) → None ≡ slot_of first object → slot_of second object ≡ slot_of (first ++ second) object
slot_in_second first second object is = rw slot_in_both (rw (← is) refl)

-- the innermost open statement has it, or those around it have it
pub slot_innermost : (all outer : List Level) (level : Level) (object : ℕ) (at : Ptr) → all ≡ outer ++ level ∷ [] → Some at ≡ slot_of level.slots object →
    Some at ≡ slot_of (slots_in (levels_of all)) object
slot_innermost all outer level object at is found =
    slot_in_first level.slots (slots_in (levels_of outer)) object at found ∙ ap (λ (levels : List CLevel). slot_of (slots_in levels) object) (sym (newest_of all outer level is))

pub slot_around : (all outer : List Level) (level : Level) (object : ℕ) → all ≡ outer ++ level ∷ [] → None ≡ slot_of level.slots object →
    slot_of (slots_in (levels_of outer)) object ≡ slot_of (slots_in (levels_of all)) object
slot_around all outer level object is none =
    slot_in_second level.slots (slots_in (levels_of outer)) object none ∙ ap (λ (levels : List CLevel). slot_of (slots_in levels) object) (sym (newest_of all outer level is))
