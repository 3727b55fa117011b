-- What is asked of a block where a pointer points to, and what a pointer points to.
use Rattle.std.specs.Prelude.{◌≡◌, ℕ, ◌%◌, ◌==◌, nat_le, Bool, true, ◌&&◌, if◌then◌else◌, Option, Some, None}
use Rattle.mem_bytes.specs.declared.store.BlockState.{BlockState}
use Rattle.rs_text.specs.Tree.{Ty, Pointer}

-- what stands in a block, of which this is told, at an offset is aligned; a block that isn't live asks for nothing
abbrev pub in_state : (align offset : ℕ) → Option BlockState → Bool
in_state align offset None = true
in_state align offset (Some state) = if state.live then (offset % align == 0 && nat_le align state.align) else true

-- the target of a pointer type; other types have none
abbrev pub IsTargetOf : Option Ty → Ty → Type 0
IsTargetOf (Some target) ty = ty ≡ Pointer target
IsTargetOf None (Pointer target) = ⊥
IsTargetOf None _ = Unit {0}
