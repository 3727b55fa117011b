-- Worked layouts: `pub struct p { pub a: i8, pub b: i32 }`, and `#[repr(C, align(16))] pub struct q { pub c: [p; 3], pub d: *mut p }`
-- behind it.
use Rattle.std.proofs.Common.{◌≡◌, refl, false, List, [], ◌∷◌, codes, Some, None}
use Rattle.rs_text.specs.declared.integer.IntegerTy.TheVariants.{I8, I32}
use Rattle.rs_text.specs.Tree.{Integer, Pointer, Array, Record, RecordTree, RecordItem, ModuleTree}
use Rattle.rs_mean.specs.Layout.{laid_of, record_laid}
use Rattle.rs_layout.specs.Layouts.{by_front}
use Rattle.rs_layout.specs.LayoutsNumbered.{field_byte, named_byte}

abbrev first : RecordTree
first = record {
  align = None;
  is_union = false;
  name = codes "p";
  fields = record { name = codes "a"; ty = Integer I8 } ∷ record { name = codes "b"; ty = Integer I32 } ∷ [];
}

abbrev second : RecordTree
second = record {
  align = Some 16;
  is_union = false;
  name = codes "q";
  fields = record { name = codes "c"; ty = Array (Record (codes "m") (codes "p")) 3 } ∷ record { name = codes "d"; ty = Pointer (Record (codes "m") (codes "p")) } ∷ [];
}

abbrev modules : List ModuleTree
modules = record { name = codes "m"; items = RecordItem first ∷ RecordItem second ∷ [] } ∷ []

first_laid : laid_of modules (Record (codes "m") (codes "p")) ≡ Some (record { size = 8; align = 4 })
first_laid = refl

second_laid : laid_of modules (Record (codes "m") (codes "q")) ≡ Some (record { size = 32; align = 16 })
second_laid = refl

-- as behind the first one
behind_first : record_laid (by_front (codes "m") (RecordItem first ∷ [])) second ≡ Some (record { size = 32; align = 16 })
behind_first = refl

-- a record isn't laid out where the ones that it holds don't stand in front
behind_none : record_laid (by_front (codes "m") []) second ≡ None
behind_none = refl

second_byte : field_byte modules 0 0 1 ≡ Some 4
second_byte = refl

pointer_byte : field_byte modules 0 1 1 ≡ Some 24
pointer_byte = refl

pointer_named : named_byte modules 0 1 1 ≡ Some 24
pointer_named = refl

no_byte : field_byte modules 0 1 2 ≡ None
no_byte = refl
