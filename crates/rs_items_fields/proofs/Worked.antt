-- Fields that are found.
use Rattle.std.proofs.Common.{◌≡◌, List, [], ◌∷◌, Some, None, codes, refl}
use Rattle.rs_items.specs.Known.{MemberField}
use Rattle.rs_items_fields.specs.Fields.{name_at}
use Rattle.rs_text.specs.Tree.{Array, Integer}
use Rattle.rs_text.specs.declared.integer.IntegerTy.TheVariants.{I32, I64, U8}

-- union { long n; long long m; int fn; unsigned char b[8]; }
abbrev union_fields : List MemberField
union_fields =
    record { byte = 0; ty = Integer I64; name = codes "n" } ∷ record { byte = 0; ty = Integer I64; name = codes "m" } ∷ record { byte = 0; ty = Integer I32; name = codes "r#fn" }
    ∷ record { byte = 0; ty = Array (Integer U8) 8; name = codes "b" } ∷ []

-- `long` and `long long` are one type of Rust, so the first is found for both
first_of_two : name_at 0 (Integer I64) union_fields ≡ Some (codes "n")
first_of_two = refl

by_type : name_at 0 (Integer I32) union_fields ≡ Some (codes "r#fn")
by_type = refl

array_found : name_at 0 (Array (Integer U8) 8) union_fields ≡ Some (codes "b")
array_found = refl

-- another length, and another byte
no_such_type : name_at 0 (Array (Integer U8) 7) union_fields ≡ None
no_such_type = refl

no_such_byte : name_at 4 (Integer I32) union_fields ≡ None
no_such_byte = refl
