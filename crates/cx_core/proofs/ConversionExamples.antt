-- Worked examples of the arithmetic conversions.
use Rattle.std.proofs.Common.{◌≡◌, true, false, [], ◌∷◌, Some, None, refl}
use Rattle.cx_core.specs.declared.ty.Basic.TheVariants.{Truth, Char, UnsignedShort, Int, Unsigned, Long, UnsignedLong, LongLong, UnsignedLongLong}
use Rattle.cx_core.specs.Conversions.{promoted_basic, common_basic, promoted}
use Rattle.cx_core.specs.Trees.{ty, basic, enum_type, pointer, void, CTypes}

-- `char`, `unsigned short` and `_Bool` are promoted to `int`, and `unsigned` stays
char_promoted : promoted_basic Char None ≡ Int
char_promoted = refl

short_promoted : promoted_basic UnsignedShort None ≡ Int
short_promoted = refl

truth_promoted : promoted_basic Truth None ≡ Int
truth_promoted = refl

unsigned_promoted : promoted_basic Unsigned None ≡ Unsigned
unsigned_promoted = refl

long_promoted : promoted_basic UnsignedLong None ≡ UnsignedLong
long_promoted = refl

-- `unsigned x : 31` is promoted to `int`, `unsigned x : 32` isn't; `int x : 32` is
bits_promoted : promoted_basic Unsigned (Some 31) ≡ Int
bits_promoted = refl

all_bits_promoted : promoted_basic Unsigned (Some 32) ≡ Unsigned
all_bits_promoted = refl

int_bits_promoted : promoted_basic Int (Some 32) ≡ Int
int_bits_promoted = refl

-- `-1 < 0` in `int`, `1 ? -1 : 0u` in `unsigned`, `1L + 1u` in `long`, `1LL + 1uL` in `unsigned long long`
ints_common : common_basic Int Int ≡ Int
ints_common = refl

unsigned_common : common_basic Int Unsigned ≡ Unsigned
unsigned_common = refl

long_common : common_basic Long Unsigned ≡ Long
long_common = refl

mixed_common : common_basic LongLong UnsignedLong ≡ UnsignedLongLong
mixed_common = refl

same_width_common : common_basic Long UnsignedLongLong ≡ UnsignedLongLong
same_width_common = refl

longs_common : common_basic Long LongLong ≡ LongLong
longs_common = refl

-- an enumerated type that is `int`, and one that is `unsigned int`
abbrev two_enums : CTypes
two_enums = record { records = []; record_tags = []; record_units = []; enums = true ∷ false ∷ []; enum_units = 0 ∷ 0 ∷ [] }

enum_promoted : promoted two_enums (ty (enum_type 0) true) None ≡ ty (basic Int) false
enum_promoted = refl

unsigned_enum_promoted : promoted two_enums (ty (enum_type 1) false) None ≡ ty (basic Unsigned) false
unsigned_enum_promoted = refl

-- another type than an integer type stays
pointer_kept : promoted two_enums (ty (pointer (ty void false)) true) None ≡ ty (pointer (ty void false)) false
pointer_kept = refl
