-- A structure with bit-fields, as gcc lays it out:
--   struct s { char a; int b : 3; int c : 30; unsigned : 0; char d; };
use Rattle.std.proofs.Common.{◌≡◌, ℕ, false, List, [], ◌∷◌, Some, None, codes, refl}
use Rattle.std.specs.Fmt.{digits}
use Rattle.cr_base.specs.declared.layout.Spot.{Spot}
use Rattle.cx_core.specs.Trees.{CMember, CRecord, ty, basic}
use Rattle.cx_core.specs.declared.ty.Basic.{Basic}
use Rattle.cx_core.specs.declared.ty.Basic.TheVariants.{Char, Int, Unsigned}
use Rattle.rs_items.specs.Known.{KnownThing, Knows}
use Rattle.rs_items.specs.Laid.{IsLaidOut}
use Rattle.rs_items.specs.Records.{fields_walk, record_tree, struct_end, struct_step}
use Rattle.rs_items.specs.declared.known.Named.TheVariants.{Object, Function, BareFunction, Record as RecordNamed, Enum, Temporary, Result}
use Rattle.rs_items_sets.specs.Names.{reserved}
use Rattle.rs_text.specs.Names.{keywords, path_words}
use Rattle.rs_text.specs.Tree.{Array, Integer, Record}
use Rattle.rs_text.specs.declared.integer.IntegerTy.TheVariants.{I8, U8}

abbrev plain : List ℕ → Basic → CMember
plain name which = record { name = Some name; type = ty (basic which) false; bits = None }

abbrev bits : List ℕ → ℕ → CMember
bits name width = record { name = Some name; type = ty (basic Int) false; bits = Some width }

abbrev unnamed : ℕ → CMember
unnamed width = record { name = None; type = ty (basic Unsigned) false; bits = Some width }

abbrev s_record : CRecord
s_record = record {
  number = 0;
  tag = Some (codes "s");
  is_union = false;
  members = plain (codes "a") Char ∷ bits (codes "b") 3 ∷ bits (codes "c") 30 ∷ unnamed 0 ∷ plain (codes "d") Char ∷ [];
}

abbrev spot : ℕ → ℕ → Spot
spot byte width = record { byte = byte; bit = 0; width = width }

abbrev s_spots : List Spot
s_spots = spot 0 0 ∷ spot 1 3 ∷ spot 4 30 ∷ spot 8 0 ∷ spot 8 0 ∷ []

s_laid_out : IsLaidOut s_record s_spots 12 4
s_laid_out = record { layouts = []; row = refl }

-- the structure is kept with its path
abbrev s_thing : KnownThing
s_thing = record { named = RecordNamed 0; unit = 0; module_name = Some (codes "a"); name = codes "s"; symbol = None; ty = Record (codes "a") (codes "s"); size = 12 }

abbrev s_known : Knows
s_known (Object number) = None
s_known (Function number) = None
s_known (BareFunction number) = None
s_known (RecordNamed number) = Some s_thing
s_known (Enum number) = None
s_known (Temporary number) = None
s_known Result = None

-- the bytes from 1 to 7 hold both bit-fields, and no field has their alignment
s_item : record_tree s_known s_record s_spots 4 ≡ record {
  align = Some 4;
  is_union = false;
  name = codes "s";
  fields = record { name = codes "a"; ty = Integer I8 } ∷ record { name = codes "bits"; ty = Array (Integer U8) 7 } ∷ record { name = codes "d"; ty = Integer I8 } ∷ [];
}
unfolding digits reserved keywords path_words struct_end struct_step
s_item = refl

-- the fields of the members that are no bit-fields
s_fields : (fields_walk s_known s_record s_spots).members ≡ record { byte = 0; ty = Integer I8; name = codes "a" } ∷ record { byte = 8; ty = Integer I8; name = codes "d" } ∷ []
unfolding digits reserved keywords path_words struct_end struct_step
s_fields = refl
