-- The functions of the library whose meaning is known (ISO C99, 7.20.3, 7.20.4 and 7.21): their types, and what each does to
-- what a running program holds. Sizes are numbers of any size here, not taken modulo 2^64.
use Rattle.std.specs.Prelude.{ℕ, zero, suc, ◌+◌, ◌*◌, Bool, true, false, ◌&&◌, ◌==◌, nat_lt, nat_le, if◌then◌else◌, ℤ, pos, List, [], ◌∷◌, Option, Some, None, Result, Ok, Err, codes, bytes_eq, find}
use Rattle.cr_base.specs.Layout.{most_bytes}
use Rattle.cr_base.specs.Scalar.{residue}
use Rattle.mem_bytes.specs.declared.fault.Fault.{Fault}
use Rattle.mem_bytes.specs.declared.fault.Fault.TheVariants.{Dead}
use Rattle.mem_bytes.specs.declared.value.Ptr.{Ptr}
use Rattle.mem_bytes.specs.declared.value.Value.{Value}
use Rattle.mem_bytes.specs.declared.value.Value.TheVariants.{Whole, Null, Object, Code}
use Rattle.mem_bytes.specs.Access.{after_copy, after_fill}
use Rattle.mem_bytes.specs.Memory.{Block, Blocks, live_block}
use Rattle.cr_world.specs.Held.{Held, with_blocks, next_place, with_allocated, is_listed, without_allocated, HeldFault, access, through_null, not_allocated, overlapping, wrong_kind}

-- ---- the table

-- what a known function does
pub data Known : Type 0 where
  allocates : (is_zero : Bool) → Known
  frees : Known
  copies : (may_overlap : Bool) → Known
  fills : Known
  exits : Known
  aborts : Known

-- the types that it has: `void`, `int`, `unsigned long`, and `void *` or `const void *`
pub data KnownType : Type 0 where
  no_value : KnownType
  int_value : KnownType
  size_value : KnownType
  to_bytes : KnownType
  to_const_bytes : KnownType

pub record KnownFunction : Type 0 where
  pub name : List ℕ
  pub does : Known
  pub result : KnownType
  pub params : List KnownType

abbrev pub known : List ℕ → Known → KnownType → List KnownType → KnownFunction
known name does result params = record { name = name; does = does; result = result; params = params }

unfoldable pub known_table : List KnownFunction
known_table =
    known (codes "malloc") (allocates false) to_bytes (size_value ∷ [])
    ∷ known (codes "calloc") (allocates true) to_bytes (size_value ∷ size_value ∷ [])
    ∷ known (codes "free") frees no_value (to_bytes ∷ [])
    ∷ known (codes "memcpy") (copies false) to_bytes (to_bytes ∷ to_const_bytes ∷ size_value ∷ [])
    ∷ known (codes "memmove") (copies true) to_bytes (to_bytes ∷ to_const_bytes ∷ size_value ∷ [])
    ∷ known (codes "memset") fills to_bytes (to_bytes ∷ int_value ∷ size_value ∷ [])
    ∷ known (codes "exit") exits no_value (int_value ∷ [])
    ∷ known (codes "abort") aborts no_value []
    ∷ []

-- the known function with a name
abbrev pub known_named : List ℕ → Option KnownFunction
known_named name = find (λ one. bytes_eq name one.name) known_table

-- ---- what a call does

pub data Effect : Type 0 where
  -- it gives a value, or nothing, and leaves this
  gives : Value → Held → Effect
  gives_nothing : Held → Effect
  -- the program ends with this status
  ends_program : ℤ → Effect
  -- one answer is taken: null, or a new block of so many bytes, which are 0 or unset
  wants_block : (is_zero : Bool) → (size : ℕ) → Effect
  -- what is wrong
  fails : HeldFault → Effect

-- a block larger than any object of the profile isn't given, and no answer is taken (7.20.3p1)
abbrev pub allocation : Bool → ℕ → Held → Effect
allocation is_zero size held = if nat_le size most_bytes then wants_block is_zero size else gives Null held

-- the start of an allocated block that lives (7.20.3.2p2)
abbrev pub is_allocated : Ptr → Held → Bool
is_allocated at held = at.offset == 0 && is_listed at.block held.heap

abbrev pub freed : Ptr → Held → Effect
freed at held = if is_allocated at held then gives_nothing (without_allocated at.block held) else fails not_allocated

abbrev pub accessed_as : Value → Held → Result Blocks Fault → Effect
accessed_as value held (Ok blocks) = gives value (with_blocks blocks held)
accessed_as value held (Err fault) = fails (access fault)

-- so many bytes from two places on have one in common
abbrev pub bytes_overlap : Ptr → Ptr → ℕ → Bool
bytes_overlap first second count =
    first.block == second.block && nat_lt first.offset (second.offset + count) && nat_lt second.offset (first.offset + count)

abbrev pub unless_overlapping : Bool → Ptr → Ptr → ℕ → Effect → Effect
unless_overlapping true to from count effect = effect
unless_overlapping false to from count (gives value held) =
    if bytes_overlap to from count then fails overlapping else gives value held
unless_overlapping false to from count effect = effect

-- an access through null beside one to a place, which may be dead
abbrev pub null_beside : Option Block → Effect
null_beside None = fails (access Dead)
null_beside (Some block) = fails through_null

-- one byte or more are copied (7.21.2.1, 7.21.2.2)
abbrev pub copied : Bool → Value → Value → ℕ → Held → Effect
copied may_overlap (Object to) (Object from) count held =
    unless_overlapping may_overlap to from count (accessed_as (Object to) held (after_copy held.blocks from to count))
copied may_overlap (Object to) Null count held = null_beside (live_block held.blocks to.block)
copied may_overlap Null (Object from) count held = null_beside (live_block held.blocks from.block)
copied may_overlap Null Null count held = fails through_null
copied may_overlap to from count held = fails wrong_kind

-- a copy of no bytes does nothing else than to give its first argument
abbrev pub copying : Bool → Value → Value → ℕ → Held → Effect
copying may_overlap to from zero held = gives to held
copying may_overlap to from (suc n) held = copied may_overlap to from (suc n) held

-- bytes are set (7.21.6.1); the place has to live for no bytes, too
abbrev pub filling : Value → ℤ → ℕ → Held → Effect
filling (Object at) byte count held =
    accessed_as (Object at) held (after_fill held.blocks at (residue byte 256) count)
filling Null byte count held = fails through_null
filling (Whole number) byte count held = fails wrong_kind
filling (Code number) byte count held = fails wrong_kind

abbrev pub freeing : Value → Held → Effect
freeing (Object at) held = freed at held
freeing Null held = gives_nothing held
freeing (Whole number) held = fails wrong_kind
freeing (Code number) held = fails wrong_kind

-- the status of a program that is aborted (7.20.4.1; the choice of the profile)
abbrev pub abort_status : ℤ
abort_status = pos 134

-- what a call of a known function with these arguments does
abbrev pub effect : Known → List Value → Held → Effect
effect (allocates is_zero) (Whole (pos size) ∷ []) held = allocation is_zero size held
effect (allocates is_zero) (Whole (pos count) ∷ Whole (pos size) ∷ []) held = allocation is_zero (count * size) held
effect frees (value ∷ []) held = freeing value held
effect (copies may_overlap) (to ∷ from ∷ Whole (pos count) ∷ []) held = copying may_overlap to from count held
effect fills (to ∷ Whole byte ∷ Whole (pos count) ∷ []) held = filling to byte count held
effect exits (Whole status ∷ []) held = ends_program status
effect aborts [] held = ends_program abort_status
effect does args held = fails wrong_kind

-- ---- the answer to an allocation

-- null, or a pointer to a new block
pub record Allocated : Type 0 where
  pub value : Value
  pub held : Held

abbrev pub allocated : (is_given : Bool) → (is_zero : Bool) → (size : ℕ) → Held → Allocated
allocated false is_zero size held = record { value = Null; held = held }
allocated true is_zero size held = record {
  value = Object (next_place held.blocks);
  held = with_allocated is_zero size held;
}
