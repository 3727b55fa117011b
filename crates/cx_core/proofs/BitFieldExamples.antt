-- Worked examples of programs with and without bit-fields.
use Rattle.std.proofs.Common.{◌≡◌, true, false, List, [], ◌∷◌, ℕ, Option, Some, None, refl, codes}
use Rattle.cx_core.specs.BitFields.{has_bit_fields}
use Rattle.cx_core.specs.declared.ty.Basic.TheVariants.{Int}
use Rattle.cx_core.specs.Examples.{s_types}
use Rattle.cx_core.specs.Trees.{ty, basic, CMember, CRecord, CTypes, no_types_yet}

abbrev a_member : Option (List ℕ) → Option ℕ → CMember
a_member name bits = record { name = name; type = ty (basic Int) false; bits = bits }

abbrev types_with : List (Option CRecord) → CTypes
types_with records = record no_types_yet { records = records }

abbrev with_members : List CMember → Option CRecord
with_members members = Some (record { number = 0; tag = None; is_union = false; members = members })

-- struct s { int b : 3; int a[2]; };
named_bit_field : has_bit_fields s_types ≡ true
named_bit_field = refl

-- struct { int a; int : 0; };
unnamed_bit_field : has_bit_fields (types_with (with_members (a_member (Some (codes "a")) None ∷ a_member None (Some 0) ∷ []) ∷ [])) ≡ true
unnamed_bit_field = refl

-- struct t; struct { int a; }; where struct t isn't completed
no_bit_field : has_bit_fields (types_with (None ∷ with_members (a_member (Some (codes "a")) None ∷ []) ∷ [])) ≡ false
no_bit_field = refl

no_records : has_bit_fields no_types_yet ≡ false
no_records = refl
