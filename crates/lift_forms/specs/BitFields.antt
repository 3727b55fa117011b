-- Bit-fields through bytes, as Rust writes them (ISO C99, 6.7.2.1p9): the bytes that a bit-field touches are read one by one as a number, and written one by one, each with the bits of its neighbours.
use Rattle.std.specs.Prelude.{ℕ, zero, suc, ◌+◌, ◌-◌, ◌/◌, ◌^◌, min, Bool, if◌then◌else◌, pos, List, [], ◌∷◌}
use Rattle.cr_base.specs.declared.layout.Spot.{Spot}
use Rattle.rs_text.specs.declared.integer.IntegerTy.{IntegerTy}
use Rattle.rs_text.specs.declared.integer.IntegerTy.TheVariants.{I64, U8, U32, U64, Isize}
use Rattle.rs_text.specs.declared.operator.Operator.TheVariants as rust
use Rattle.rs_text.specs.Tree.{Integer, Pointer, Place, Deref, Expr, Literal, Read, Offset, Cast, Binary, Stmt, Assign}

-- a number of the type in which bytes are put together
abbrev pub word : ℕ → Expr
word number = Literal (pos number) U64

-- a byte behind an address
abbrev pub byte_place : (base : Expr) → ℕ → Place
byte_place base k = Deref (Offset (Cast base (Pointer (Integer U8))) (Literal (pos k) Isize))

abbrev pub byte_word : (base : Expr) → ℕ → Expr
byte_word base k = Cast (Read (byte_place base k)) (Integer U64)

-- the number of so many bytes from one on, the lowest first
abbrev pub bytes_word : (base : Expr) → (from : ℕ) → (more : ℕ) → Expr
bytes_word base from zero = byte_word base from
bytes_word base from (suc more) = Binary (byte_word base from) rust.Add (Binary (bytes_word base (suc from) more) rust.Mul (word 256))

-- how many bytes a bit-field touches behind the first one
abbrev pub more_bytes : Spot → ℕ
more_bytes spot = (spot.bit + spot.width - 1) / 8

-- the bits of the field and those above them
abbrev pub shifted_word : (base : Expr) → Spot → Expr
shifted_word base spot = Binary (bytes_word base spot.byte (more_bytes spot)) rust.Shr (Literal (pos spot.bit) U32)

-- the value of an unsigned bit-field, a `u64`
abbrev pub unsigned_read : (base : Expr) → Spot → Expr
unsigned_read base spot = Binary (shifted_word base spot) rust.Rem (word (2 ^ spot.width))

-- half of the numbers that fit in it
abbrev pub half : Spot → ℕ
half spot = 2 ^ (spot.width - 1)

-- the value of a signed bit-field, an `i64`
abbrev pub signed_read : (base : Expr) → Spot → Expr
signed_read base spot =
    Binary (Cast (Binary (Binary (shifted_word base spot) rust.Add (word (half spot))) rust.Rem (word (2 ^ spot.width))) (Integer I64)) rust.Sub (Literal (pos (half spot)) I64)

abbrev pub bit_read : (base : Expr) → Spot → (signed : Bool) → Expr
bit_read base spot signed = if signed then signed_read base spot else unsigned_read base spot

abbrev pub read_type : (signed : Bool) → IntegerTy
read_type signed = if signed then I64 else U64

-- ---- stores

-- the bits of a byte from one on, where they stand
abbrev pub bits_above : Expr → ℕ → Expr
bits_above old bit = Binary (Binary old rust.Shr (Literal (pos bit) U32)) rust.Shl (Literal (pos bit) U32)

-- `count` bits of a value from one on, to stand in a byte from bit `bit` on
abbrev pub bits_placed : (value : Expr) → (from count bit : ℕ) → Expr
bits_placed value from count bit =
    Binary (Binary (Binary value rust.Shr (Literal (pos from) U32)) rust.Rem (word (2 ^ count))) rust.Shl (Literal (pos bit) U32)

-- the bits of a byte below one
abbrev pub bits_below : Expr → ℕ → Expr
bits_below old bit = Binary old rust.Rem (word (2 ^ bit))

-- one byte with `count` bits of a value from `from` on in it, from bit `bit` on
abbrev pub byte_with : (base value : Expr) → (k from count bit : ℕ) → Expr
byte_with base value k from count bit =
    Cast (Binary (Binary (bits_above (byte_word base k) (bit + count)) rust.Add (bits_placed value from count bit)) rust.Add (bits_below (byte_word base k) bit)) (Integer U8)

abbrev pub byte_write : (base value : Expr) → (k from count bit : ℕ) → Stmt
byte_write base value k from count bit = Assign (byte_place base k) (byte_with base value k from count bit)

-- the bytes behind the first, each from its lowest bit on; `width` bits are left
abbrev pub more_writes : (base value : Expr) → (k from width more : ℕ) → List Stmt
more_writes base value k from width zero = []
more_writes base value k from width (suc more) =
    byte_write base value k from (min 8 width) 0 ∷ more_writes base value (suc k) (from + min 8 width) (width - min 8 width) more

-- the value is stored modulo 2 to the width
abbrev pub bit_write : (base : Expr) → Spot → (value : Expr) → List Stmt
bit_write base spot value =
    byte_write base (Cast value (Integer U64)) spot.byte 0 (min (8 - spot.bit) spot.width) spot.bit
    ∷ more_writes base (Cast value (Integer U64)) (suc spot.byte) (min (8 - spot.bit) spot.width) (spot.width - min (8 - spot.bit) spot.width) (more_bytes spot)
