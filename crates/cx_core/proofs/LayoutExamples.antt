-- Worked examples of the layouts of records that hold each other. The values are those of gcc on x86-64.
use Rattle.std.proofs.Common.{◌≡◌, ℕ, true, false, List, [], ◌∷◌, Option, Some, None, refl, codes}
use Rattle.cr_base.specs.declared.layout.Spot.{Spot}
use Rattle.cx_core.specs.declared.ty.Basic.TheVariants.{Char, Short, Int}
use Rattle.cx_core.specs.Layouts.{CRow, extent, layouts_of}
use Rattle.cx_core.specs.Trees.{CTy, ty, basic, pointer, array, record_type, CMember, CRecord, CTypes}
use Rattle.cx_core.specs.ValidTypes.{part_at, holds_const}

abbrev named : List ℕ → CTy → CMember
named name type = record { name = Some name; type = type; bits = None }

abbrev in_bits : Option (List ℕ) → CTy → ℕ → CMember
in_bits name type width = record { name = name; type = type; bits = Some width }

abbrev completed : ℕ → (List ℕ) → List CMember → Option CRecord
completed number tag members = Some (record { number = number; tag = Some tag; is_union = false; members = members })

abbrev char_type : CTy
char_type = ty (basic Char) false

abbrev int_type : CTy
int_type = ty (basic Int) false

abbrev holds : ℕ → CTy
holds number = ty (record_type number) false

-- struct a;
-- struct b { char c; struct a *to; };
-- struct a { struct c { int i; short s; } c; char d; int e : 3; struct b b[2]; };
-- struct d;
abbrev b_members : List CMember
b_members = named (codes "c") char_type ∷ named (codes "to") (ty (pointer (holds 0)) false) ∷ []

abbrev a_members : List CMember
a_members =
    named (codes "c") (holds 2) ∷ named (codes "d") char_type ∷ in_bits (Some (codes "e")) int_type 3
    ∷ named (codes "b") (ty (array (holds 1) (Some 2)) false) ∷ []

abbrev c_members : List CMember
c_members = named (codes "i") int_type ∷ named (codes "s") (ty (basic Short) true) ∷ []

abbrev four : CTypes
four = record {
  records = completed 0 (codes "a") a_members ∷ completed 1 (codes "b") b_members ∷ completed 2 (codes "c") c_members ∷ None ∷ [];
  record_tags = record { tag = Some (codes "a"); is_union = false } ∷ record { tag = Some (codes "b"); is_union = false }
      ∷ record { tag = Some (codes "c"); is_union = false } ∷ record { tag = Some (codes "d"); is_union = false } ∷ [];
  record_units = 0 ∷ 0 ∷ 0 ∷ 0 ∷ [];
  enums = [];
  enum_units = [];
}

abbrev at : ℕ → ℕ → ℕ → Spot
at byte bit width = record { byte = byte; bit = bit; width = width }

abbrev row : ℕ → ℕ → List Spot → Option CRow
row size align spots = Some (record { laid = record { size = size; align = align }; spots = spots })

four_laid : layouts_of four
    ≡ row 48 8 (at 0 0 0 ∷ at 8 0 0 ∷ at 9 0 3 ∷ at 16 0 0 ∷ []) ∷ row 16 8 (at 0 0 0 ∷ at 8 0 0 ∷ [])
    ∷ row 8 4 (at 0 0 0 ∷ at 4 0 0 ∷ []) ∷ None ∷ []
unfolding layouts_of
four_laid = refl

-- `struct a[3]`, a pointer to the incomplete `struct d`, and `struct d`
array_extent : extent (layouts_of four) (ty (array (holds 0) (Some 3)) false) ≡ Some (record { size = 144; align = 8 })
unfolding layouts_of
array_extent = refl

pointer_extent : extent (layouts_of four) (ty (pointer (holds 3)) false) ≡ Some (record { size = 8; align = 8 })
unfolding layouts_of
pointer_extent = refl

incomplete_extent : extent (layouts_of four) (holds 3) ≡ None
unfolding layouts_of
incomplete_extent = refl

-- arrays of the most bytes, and of one more
most_extent : extent (layouts_of four) (ty (array char_type (Some 16777216)) false) ≡ Some (record { size = 16777216; align = 1 })
unfolding layouts_of
most_extent = refl

too_large_extent : extent (layouts_of four) (ty (array char_type (Some 16777217)) false) ≡ None
unfolding layouts_of
too_large_extent = refl

-- a record that holds itself is none
abbrev endless : CTypes
endless = record {
  records = completed 0 (codes "a") (named (codes "a") (holds 0) ∷ []) ∷ [];
  record_tags = record { tag = Some (codes "a"); is_union = false } ∷ [];
  record_units = 0 ∷ [];
  enums = [];
  enum_units = [];
}

endless_laid : layouts_of endless ≡ None ∷ []
unfolding layouts_of
endless_laid = refl

-- `x.b[1].to` of a `struct a x`, and its bit-field `x.e`
part : part_at four (3 ∷ 1 ∷ 1 ∷ []) (holds 0) ≡ Some (record { spot = at 40 0 0; type = ty (pointer (holds 0)) false })
unfolding layouts_of
part = refl

bits_part : part_at four (2 ∷ []) (holds 0) ≡ Some (record { spot = at 9 0 3; type = int_type })
unfolding layouts_of
bits_part = refl

no_part : part_at four (3 ∷ 2 ∷ []) (holds 0) ≡ None
unfolding layouts_of
no_part = refl

-- `struct a` has a `const` part in `c.s`, and `struct b` has none
a_const : holds_const four (holds 0) ≡ true
unfolding holds_const
a_const = refl

b_plain : holds_const four (holds 1) ≡ false
unfolding holds_const
b_plain = refl
