-- Operations on pointers, and on what stands for them.
use Rattle.std.proofs.Common.{◌≡◌, ◌≢◌, ℕ, Bool, true, false, ◌&&◌, ◌||◌, not, ◌==◌, nat_le, if◌then◌else◌, ℤ, pos, negsuc, ◌+ℤ◌, ◌-ℤ◌, Option, Some, None, Ok, Err, refl, sym, ap, ◌∙◌, subst, ⊎_elim}
use Rattle.std.proofs.lemmas.Bool.{cases_eq, eq-eqb, ne_eqb}
use Rattle.mem_bytes.specs.declared.pointer.PointerFault.TheVariants.{LeavesObject, NotWithinOne}
use Rattle.mem_bytes.specs.declared.value.Ptr.{Ptr}
use Rattle.mem_bytes.specs.declared.value.Value.{Value}
use Rattle.mem_bytes.specs.declared.value.Value.TheVariants.{Whole, Null, Object, Code}
use Rattle.mem_bytes.specs.Access.{and_then}
use Rattle.mem_bytes.specs.Memory.{Block, Blocks, live_block, size_of}
use Rattle.mem_bytes.specs.Pointers.{live_size, object_size, usable, place_inside, place_moved, moved, distance_in, distance, in_elements, difference, is_same_place, are_equal, same_places, equality}
use Rattle.mem_bytes.proofs.Reached.{and_then_ok}
use Rattle.lift_stands.specs.Stands.{Images, image_of, PlaceBelow, ValueBelow, Lives, StandsFor}
use Rattle.lift_stands.proofs.Cells.{length_below}
use Rattle.lift_stands.proofs.Forms.{null_below, object_below, function_below}
use Rattle.lift_stands.proofs.Images.{same_images}
use Rattle.lift_stands.proofs.Loads.{block_there}
use Rattle.lift_stands_pointers.specs.LawsPointers.{PointsBelow}

-- ---- sizes

sized : (slot : Option Block) (size : ℕ) → live_size slot ≡ Ok size → (block : Block) × (slot ≡ Some block) × (size_of block ≡ size)
sized None size e = cc
sized (Some block) size e = (block, refl, cc)

-- a pointer to an object is to a live one where its size is told
pub lives_there : (memory : Blocks) (at : Ptr) (size : ℕ) → object_size memory at ≡ Ok size → Lives memory at.block
lives_there memory at size e = let one = sized (live_block memory at.block) size e in (one.0, one.1)

pub size_stands : (images : Images) (memory others : Blocks) (at to : Ptr) (size : ℕ) → StandsFor images memory others → PlaceBelow images at to → object_size memory at ≡ Ok size → object_size others to ≡ Ok size
size_stands images memory others at to size stands place e =
    let one = sized (live_block memory at.block) size e in
    let there = block_there images memory others at to one.0 stands place one.1 in
    ap live_size there.live ∙ ap Ok (length_below images one.0.cells there.other.cells there.below.cells ∙ one.2)

-- ---- pointers that aren't to dead objects

pub usable_stands : (images : Images) (memory others : Blocks) (value other one : Value) → StandsFor images memory others → ValueBelow images value other → usable memory value ≡ Ok one → PointsBelow images one (usable others other)
usable_stands images memory others (Object at) other one stands below e =
    let to = object_below images at other below in
    let parts = and_then_ok (object_size memory at) (λ _. Ok (Object at)) one e in
    let same : Object at ≡ one = cc (parts.2) in
    record {
      other = Object to.0;
      is = ap (usable others) to.1 ∙ ap (λ r. and_then r (λ _. Ok (Object to.0))) (size_stands images memory others at to.0 parts.0 stands to.2 parts.1);
      below = subst (λ v. ValueBelow images v (Object to.0)) same (ValueBelow.to_image at to.0 to.2);
    }
usable_stands images memory others Null other one stands below e =
    let same : Null ≡ one = cc in
    record {
      other = Null;
      is = ap (usable others) (null_below images other below);
      below = subst (λ v. ValueBelow images v Null) same ValueBelow.both_null;
    }
usable_stands images memory others (Code number) other one stands below e =
    let to = function_below images number other below in
    let same : Code number ≡ one = cc in
    record {
      other = Code to.0;
      is = ap (usable others) to.1;
      below = subst (λ v. ValueBelow images v (Code to.0)) same (ValueBelow.to_function number to.0 to.2);
    }
usable_stands images memory others (Whole number) other one stands below e = cc

-- ---- moving

abbrev place : ℕ → ℕ → Ptr
place block offset = record { block = block; offset = offset }

-- an offset that is inside of an object is so whatever the number of its block
inside_alike : (block image size : ℕ) (offset : ℤ) (new : Ptr) → place_inside block size offset ≡ Ok new → (new.block ≡ block) × (place_inside image size offset ≡ Ok (record { block = image; offset = new.offset }))
inside_alike block image size (negsuc n) new e = cc
inside_alike block image size (pos offset) new e = from_test (nat_le offset size) e
  where
    from_test : (fits : Bool) → (if fits then Ok (place block offset) else Err LeavesObject) ≡ Ok new → (new.block ≡ block) × ((if fits then Ok (place image offset) else Err LeavesObject) ≡ Ok (place image new.offset))
    from_test true e =
        let same : place block offset ≡ new = cc in
        (sym (ap (λ p. p.block) same), ap (λ p. Ok (place image p.offset)) same)
    from_test false e = cc

place_moves : (images : Images) (memory others : Blocks) (at to new : Ptr) (bytes : ℤ) → StandsFor images memory others → PlaceBelow images at to → place_moved memory at bytes ≡ Ok new → (there : Ptr) × (place_moved others to bytes ≡ Ok there) × PlaceBelow images new there
place_moves images memory others at to new bytes stands place e =
    let parts = and_then_ok (object_size memory at) (λ size. place_inside at.block size (pos at.offset +ℤ bytes)) new e in
    let size = size_stands images memory others at to parts.0 stands place parts.1 in
    let inside = inside_alike at.block to.block parts.0 (pos at.offset +ℤ bytes) new parts.2 in (
      record { block = to.block; offset = new.offset },
      ap (λ r. and_then r (λ n. place_inside to.block n (pos to.offset +ℤ bytes))) size
          ∙ ap (λ n. place_inside to.block parts.0 (pos n +ℤ bytes)) place.offset
          ∙ inside.1,
      record { block = ap (image_of images) inside.0 ∙ place.block; offset = refl },
    )

pub moved_stands : (images : Images) (memory others : Blocks) (value other new : Value) (bytes : ℤ) → StandsFor images memory others → ValueBelow images value other → moved memory value bytes ≡ Ok new → PointsBelow images new (moved others other bytes)
moved_stands images memory others (Object at) other new bytes stands below e =
    let to = object_below images at other below in
    let parts = and_then_ok (place_moved memory at bytes) (λ p. Ok (Object p)) new e in
    let same : Object parts.0 ≡ new = cc (parts.2) in
    let there = place_moves images memory others at to.0 parts.0 bytes stands to.2 parts.1 in
    record {
      other = Object there.0;
      is = ap (λ v. moved others v bytes) to.1 ∙ ap (λ r. and_then r (λ p. Ok (Object p))) there.1;
      below = subst (λ v. ValueBelow images v (Object there.0)) same (ValueBelow.to_image parts.0 there.0 there.2);
    }
moved_stands images memory others Null other new bytes stands below e = cc
moved_stands images memory others (Code number) other new bytes stands below e = cc
moved_stands images memory others (Whole number) other new bytes stands below e = cc

-- ---- two pointers to live objects

module _ (images : Images) (memory others : Blocks) (stands : StandsFor images memory others) where
  -- they are to one object where their images are to one
  blocks_alike : (first second one two : Ptr) → Lives memory first.block → Lives memory second.block → PlaceBelow images first one → PlaceBelow images second two → (one.block == two.block) ≡ (first.block == second.block)
  blocks_alike first second one two living lives below behind =
      ⊎_elim
      (λ (same : first.block ≡ second.block).
      eq-eqb one.block two.block (same_images images.blocks first.block second.block one.block two.block same below.block behind.block)
      ∙ sym (eq-eqb first.block second.block same))
      (λ (apart : first.block ≢ second.block).
      ne_eqb one.block two.block (λ (one_image : one.block ≡ two.block). apart (stands.apart first.block second.block two.block living lives (below.block ∙ ap Some one_image) behind.block))
      ∙ sym (ne_eqb first.block second.block apart))
      (cases_eq first.block second.block)

  distance_alike : (first second one two : Ptr) → Lives memory first.block → Lives memory second.block → PlaceBelow images first one → PlaceBelow images second two → distance_in one two ≡ distance_in first second
  distance_alike first second one two living lives below behind =
      ap (λ is. if is then Ok (pos one.offset -ℤ pos two.offset) else Err NotWithinOne) (blocks_alike first second one two living lives below behind)
      ∙ ap (λ n. if first.block == second.block then Ok (pos n -ℤ pos two.offset) else Err NotWithinOne) below.offset
      ∙ ap (λ n. if first.block == second.block then Ok (pos first.offset -ℤ pos n) else Err NotWithinOne) behind.offset

  pub distance_stands : (first second one two : Value) (bytes : ℤ) → ValueBelow images first one → ValueBelow images second two → distance memory first second ≡ Ok bytes → distance others one two ≡ Ok bytes
  distance_stands (Object first) (Object second) one two bytes below behind e =
      let to = object_below images first one below in
      let there = object_below images second two behind in
      let outer = and_then_ok (object_size memory first) (λ _. and_then (object_size memory second) (λ _. distance_in first second)) bytes e in
      let inner = and_then_ok (object_size memory second) (λ _. distance_in first second) bytes outer.2 in
      ap (λ v. distance others v two) to.1
      ∙ ap (λ v. distance others (Object to.0) v) there.1
      ∙ ap (λ r. and_then r (λ _. and_then (object_size others there.0) (λ _. distance_in to.0 there.0))) (size_stands images memory others first to.0 outer.0 stands to.2 outer.1)
      ∙ ap (λ r. and_then r (λ _. distance_in to.0 there.0)) (size_stands images memory others second there.0 inner.0 stands there.2 inner.1)
      ∙ distance_alike first second to.0 there.0 (lives_there memory first outer.0 outer.1) (lives_there memory second inner.0 inner.1) to.2 there.2
      ∙ inner.2
  distance_stands (Object first) Null one two bytes below behind e =
      let parts = and_then_ok (object_size memory first) (λ _. Err NotWithinOne) bytes e in
      let no : Err NotWithinOne ≡ Ok bytes = parts.2 in
      cc
  distance_stands Null (Object second) one two bytes below behind e =
      let parts = and_then_ok (object_size memory second) (λ _. Err NotWithinOne) bytes e in
      let no : Err NotWithinOne ≡ Ok bytes = parts.2 in
      cc
  distance_stands first second one two bytes below behind e = cc

  pub difference_stands : (size : ℕ) (first second one two : Value) (count : ℤ) → ValueBelow images first one → ValueBelow images second two → difference memory size first second ≡ Ok count → difference others size one two ≡ Ok count
  difference_stands size first second one two count below behind e =
      let parts = and_then_ok (distance memory first second) (in_elements size) count e in
      ap (λ r. and_then r (in_elements size)) (distance_stands first second one two parts.0 below behind parts.1) ∙ parts.2

  -- ---- equality

  -- two places in live objects
  places_equal : (first second one two : Ptr) (same : Bool) → PlaceBelow images first one → PlaceBelow images second two → (equality memory (Object first) (Object second)) ≡ Ok same → are_equal (Object one) (Object two) ≡ same
  places_equal first second one two same below behind e =
      let outer = and_then_ok (object_size memory first) (λ size. and_then (object_size memory second) (λ other. same_places first size second other)) same e in
      let inner = and_then_ok (object_size memory second) (λ other. same_places first outer.0 second other) same outer.2 in
      let told = told_same (not (first.block == second.block) && (first.offset == outer.0 || second.offset == inner.0)) inner.2 in
      ap (λ is. is && one.offset == two.offset) (blocks_alike first second one two (lives_there memory first outer.0 outer.1) (lives_there memory second inner.0 inner.1) below behind)
      ∙ ap (λ n. first.block == second.block && n == two.offset) below.offset
      ∙ ap (λ n. first.block == second.block && first.offset == n) behind.offset
      ∙ told
    where
      told_same : (untold : Bool) → (if untold then Err NotWithinOne else Ok (is_same_place first second)) ≡ Ok same → is_same_place first second ≡ same
      told_same true e = cc
      told_same false e = cc

  -- both aren't pointers to objects
  abbrev AreObjects : Value → Value → Type 0
  AreObjects (Object first) (Object second) = Unit {0}
  AreObjects first second = ⊥

  functions_alike : (first second one two : ℕ) → images.functions first ≡ Some one → images.functions second ≡ Some two → (one == two) ≡ (first == second)
  functions_alike first second one two e f =
      ⊎_elim
      (λ (same : first ≡ second).
      let again : images.functions second ≡ Some one = subst (λ n. images.functions n ≡ Some one) same e in
      let alike : one ≡ two = cc in
      eq-eqb one two alike ∙ sym (eq-eqb first second same))
      (λ (apart : first ≢ second).
      ne_eqb one two (λ (same : one ≡ two). apart (stands.functions first second two (e ∙ ap Some same) f)) ∙ sym (ne_eqb first second apart))
      (cases_eq first second)

  pub others_equal : (first second one two : Value) → ValueBelow images first one → ValueBelow images second two → (AreObjects first second → ⊥) → are_equal one two ≡ are_equal first second
  others_equal first second one two (ValueBelow.to_image at to below) (ValueBelow.to_image here there behind) apart = absurd (apart tt)
  others_equal first second one two (ValueBelow.to_image at to below) (ValueBelow.same_number number) apart = refl
  others_equal first second one two (ValueBelow.to_image at to below) ValueBelow.both_null apart = refl
  others_equal first second one two (ValueBelow.to_image at to below) (ValueBelow.to_function number image f) apart = refl
  others_equal first second one two (ValueBelow.same_number number) (ValueBelow.to_image here there behind) apart = refl
  others_equal first second one two (ValueBelow.same_number number) (ValueBelow.same_number other) apart = refl
  others_equal first second one two (ValueBelow.same_number number) ValueBelow.both_null apart = refl
  others_equal first second one two (ValueBelow.same_number number) (ValueBelow.to_function other image f) apart = refl
  others_equal first second one two ValueBelow.both_null (ValueBelow.to_image here there behind) apart = refl
  others_equal first second one two ValueBelow.both_null (ValueBelow.same_number number) apart = refl
  others_equal first second one two ValueBelow.both_null ValueBelow.both_null apart = refl
  others_equal first second one two ValueBelow.both_null (ValueBelow.to_function number image f) apart = refl
  others_equal first second one two (ValueBelow.to_function number image e) (ValueBelow.to_image here there behind) apart = refl
  others_equal first second one two (ValueBelow.to_function number image e) (ValueBelow.same_number other) apart = refl
  others_equal first second one two (ValueBelow.to_function number image e) ValueBelow.both_null apart = refl
  others_equal first second one two (ValueBelow.to_function number image e) (ValueBelow.to_function other there f) apart = functions_alike number other image there e f

  usable_is : (value one : Value) → usable memory value ≡ Ok one → one ≡ value
  usable_is (Object at) one e =
      let parts = and_then_ok (object_size memory at) (λ _. Ok (Object at)) one e in
      let same : Object at ≡ one = cc (parts.2) in
      sym same
  usable_is Null one e = cc
  usable_is (Code number) one e = cc
  usable_is (Whole number) one e = cc

  told : (first second : Value) (same : Bool) → and_then (usable memory first) (λ one. and_then (usable memory second) (λ other. Ok (are_equal one other))) ≡ Ok same → are_equal first second ≡ same
  told first second same e =
      let outer = and_then_ok (usable memory first) (λ one. and_then (usable memory second) (λ other. Ok (are_equal one other))) same e in
      let inner = and_then_ok (usable memory second) (λ other. Ok (are_equal outer.0 other)) same outer.2 in
      let is : are_equal outer.0 inner.0 ≡ same = cc (inner.2) in
      ap (λ v. are_equal v second) (sym (usable_is first outer.0 outer.1)) ∙ ap (λ v. are_equal outer.0 v) (sym (usable_is second inner.0 inner.1)) ∙ is

  pub equality_stands : (first second one two : Value) (same : Bool) → ValueBelow images first one → ValueBelow images second two → equality memory first second ≡ Ok same → are_equal one two ≡ same
  equality_stands (Object first) (Object second) one two same below behind e =
      let to = object_below images first one below in
      let there = object_below images second two behind in
      ap (λ v. are_equal v two) to.1 ∙ ap (λ v. are_equal (Object to.0) v) there.1 ∙ places_equal first second to.0 there.0 same to.2 there.2 e
  equality_stands (Object first) Null one two same below behind e = others_equal (Object first) Null one two below behind (λ are. are) ∙ told (Object first) Null same e
  equality_stands (Object first) (Code number) one two same below behind e = others_equal (Object first) (Code number) one two below behind (λ are. are) ∙ told (Object first) (Code number) same e
  equality_stands (Object first) (Whole number) one two same below behind e = others_equal (Object first) (Whole number) one two below behind (λ are. are) ∙ told (Object first) (Whole number) same e
  equality_stands Null second one two same below behind e = others_equal Null second one two below behind (λ are. are) ∙ told Null second same e
  equality_stands (Code number) second one two same below behind e = others_equal (Code number) second one two below behind (λ are. are) ∙ told (Code number) second same e
  equality_stands (Whole number) second one two same below behind e = others_equal (Whole number) second one two below behind (λ are. are) ∙ told (Whole number) second same e
