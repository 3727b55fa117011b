-- What the operands of an expression have read and written (ISO C99, 6.5p2, in the words of C11, 6.5p2 and
-- 6.5.16p3): by it two unsequenced accesses conflict.
use Rattle.std.specs.Prelude.{ℕ, ◌+◌, ◌*◌, Bool, ◌&&◌, ◌||◌, ◌==◌, nat_lt, List, [], ◌∷◌, ◌++◌}
use Rattle.std.specs.List.{list_any}
use Rattle.mem_bytes.specs.declared.value.Ptr.{Ptr}

-- bits of a block: those from one number on and below another, counted from the lowest bit of the block's
-- first byte
pub record Range : Type 0 where
  pub block : ℕ
  pub from : ℕ
  pub to : ℕ

-- the accesses of a finished operand: what it read, what it wrote, and what it wrote since its last
-- sequence point inside
pub record Marks : Type 0 where
  pub reads : List Range
  pub writes : List Range
  pub still : List Range

abbrev pub no_marks : Marks
no_marks = record { reads = []; writes = []; still = [] }

-- the bits of so many bytes at a place
abbrev pub bits_of_bytes : Ptr → ℕ → Range
bits_of_bytes at count = record {
  block = at.block;
  from = 8 * at.offset;
  to = 8 * at.offset + 8 * count;
}

-- the bits of a bit-field: its own alone
abbrev pub bits_of_field : Ptr → (bit width : ℕ) → Range
bits_of_field at bit width = record {
  block = at.block;
  from = 8 * at.offset + bit;
  to = 8 * at.offset + bit + width;
}

-- two ranges have a bit in common
abbrev pub overlap : Range → Range → Bool
overlap one other = one.block == other.block && nat_lt one.from other.to && nat_lt other.from one.to

-- some range of one list has a bit in common with one of another
abbrev pub any_overlap : List Range → List Range → Bool
any_overlap ones others = list_any (λ one. list_any (overlap one) others) ones

-- a write of one operand overlaps a read or a write of the other
abbrev pub conflict : Marks → Marks → Bool
conflict one other =
    any_overlap one.writes other.writes
    || any_overlap one.writes other.reads
    || any_overlap one.reads other.writes

-- the accesses of two operands together
abbrev pub both : Marks → Marks → Marks
both one other = record {
  reads = one.reads ++ other.reads;
  writes = one.writes ++ other.writes;
  still = one.still ++ other.still;
}

-- a load adds what it reads
abbrev pub with_read : Range → Marks → Marks
with_read range marks = record marks { reads = marks.reads ++ range ∷ [] }

-- a store adds what it writes
abbrev pub with_write : Range → Marks → Marks
with_write range marks = record marks {
  writes = marks.writes ++ range ∷ [];
  still = marks.still ++ range ∷ [];
}

-- there is a sequence point after all that was done so far, as before a call (6.5.2.2p10)
abbrev pub at_sequence_point : Marks → Marks
at_sequence_point marks = record marks { still = [] }
