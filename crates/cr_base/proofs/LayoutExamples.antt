-- Worked examples of the layout. The values are those of gcc on x86-64.
use Rattle.std.specs.Prelude.{ℕ, ◌≡◌, refl, true, false, List, [], ◌∷◌, Some, None}
use Rattle.cr_base.specs.declared.layout.Piece.{Piece}
use Rattle.cr_base.specs.declared.layout.Piece.TheVariants.{Plain, Bits}
use Rattle.cr_base.specs.declared.layout.Laid.{Laid}
use Rattle.cr_base.specs.declared.layout.Spot.{Spot}
use Rattle.cr_base.specs.Layout.{laid_record, spots_of, laid, raised, after_all, no_front}

abbrev char_ : Piece
char_ = Plain 1 1

abbrev short_ : Piece
short_ = Plain 2 2

abbrev int_ : Piece
int_ = Plain 4 4

abbrev long_ : Piece
long_ = Plain 8 8

abbrev at : ℕ → ℕ → ℕ → Spot
at byte bit width = record { byte = byte; bit = bit; width = width }

abbrev of : ℕ → ℕ → Laid
of size align = record { size = size; align = align }

-- `struct s { char a; int b:3; int c:30; unsigned :0; char d; }`
abbrev mixed : List Piece
mixed = char_ ∷ Bits 4 3 true ∷ Bits 4 30 true ∷ Bits 4 0 false ∷ char_ ∷ []

mixed_laid : laid_record false mixed ≡ Some (of 12 4)
mixed_laid = refl

mixed_spots : spots_of false mixed ≡ at 0 0 0 ∷ at 1 0 3 ∷ at 4 0 30 ∷ at 8 0 0 ∷ at 8 0 0 ∷ []
mixed_spots = refl

-- `union { char a[9]; int b; }`
union_laid : laid_record true (Plain 9 1 ∷ int_ ∷ []) ≡ Some (of 12 4)
union_laid = refl

union_spots : spots_of true (Plain 9 1 ∷ int_ ∷ []) ≡ at 0 0 0 ∷ at 0 0 0 ∷ []
union_spots = refl

-- `struct { short a:9; short b:9; }`
shorts_laid : laid_record false (Bits 2 9 true ∷ Bits 2 9 true ∷ []) ≡ Some (of 4 2)
shorts_laid = refl

shorts_spots : spots_of false (Bits 2 9 true ∷ Bits 2 9 true ∷ []) ≡ at 0 0 9 ∷ at 2 0 9 ∷ []
shorts_spots = refl

-- `struct { char c; int f:31; }`: the bit-field would cross a multiple of 32 bits
crossing_laid : laid_record false (char_ ∷ Bits 4 31 true ∷ []) ≡ Some (of 8 4)
crossing_laid = refl

crossing_spots : spots_of false (char_ ∷ Bits 4 31 true ∷ []) ≡ at 0 0 0 ∷ at 4 0 31 ∷ []
crossing_spots = refl

-- `struct { char c; int f:24; }`: it just fits
fitting_laid : laid_record false (char_ ∷ Bits 4 24 true ∷ []) ≡ Some (of 4 4)
fitting_laid = refl

fitting_spots : spots_of false (char_ ∷ Bits 4 24 true ∷ []) ≡ at 0 0 0 ∷ at 1 0 24 ∷ []
fitting_spots = refl

-- `struct { int a:5; int b:7; }`: bits within a byte
within_spots : spots_of false (Bits 4 5 true ∷ Bits 4 7 true ∷ []) ≡ at 0 0 5 ∷ at 0 5 7 ∷ []
within_spots = refl

-- `struct { char a; int :5; char b; }`: an unnamed bit-field raises no alignment
unnamed_laid : laid_record false (char_ ∷ Bits 4 5 false ∷ char_ ∷ []) ≡ Some (of 3 1)
unnamed_laid = refl

-- `struct { char a; int :0; char b; }`, and with nothing behind it
moving_laid : laid_record false (char_ ∷ Bits 4 0 false ∷ char_ ∷ []) ≡ Some (of 5 1)
moving_laid = refl

last_laid : laid_record false (char_ ∷ Bits 4 0 false ∷ []) ≡ Some (of 4 1)
last_laid = refl

-- `union { char a; int b:17; }`, and with the bit-field unnamed
union_bits_laid : laid_record true (char_ ∷ Bits 4 17 true ∷ []) ≡ Some (of 4 4)
union_bits_laid = refl

union_unnamed_laid : laid_record true (char_ ∷ Bits 4 17 false ∷ []) ≡ Some (of 3 1)
union_unnamed_laid = refl

-- `struct { char a; long b; short c; }`, and with the alignment raised to 16 bytes
padded_laid : laid_record false (char_ ∷ long_ ∷ short_ ∷ []) ≡ Some (of 24 8)
padded_laid = refl

padded_spots : spots_of false (char_ ∷ long_ ∷ short_ ∷ []) ≡ at 0 0 0 ∷ at 8 0 0 ∷ at 16 0 0 ∷ []
padded_spots = refl

raised_laid : laid (raised 16 (after_all (no_front false) (char_ ∷ long_ ∷ short_ ∷ []))) ≡ of 32 16
raised_laid = refl

-- the most bytes, and one more
most_laid : laid_record false (Plain 16777215 1 ∷ char_ ∷ []) ≡ Some (of 16777216 1)
most_laid = refl

too_large : laid_record false (Plain 16777216 1 ∷ char_ ∷ []) ≡ None
too_large = refl
