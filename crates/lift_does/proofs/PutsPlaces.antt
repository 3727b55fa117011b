-- The place of a part of an object: the object itself, a member, an element of an array or a part of one, or what lies so many bytes behind its begin (ISO C99, 6.2.5p20 and 6.7.8; the Rust
-- Reference, "Type layout" and "Place expressions and value expressions").
use Rattle.std.proofs.Common.{◌≡◌, ◌⊎◌, inl, inr, ℕ, zero, suc, ◌+◌, ◌*◌, ◌/◌, ◌%◌, ◌==◌, ◌<◌, ◌≤◌, nat_le, Bool, true, false, ◌&&◌, if◌then◌else◌, ℤ, pos, List, Option, Some, None, Result, Ok, Err, refl, sym, ap, subst, ◌∙◌, arith}
use Rattle.std.proofs.Math.IntN.{pos-*ℤ-pos}
use Rattle.std.proofs.Math.Nat.{mod-lt}
use Rattle.std.proofs.lemmas.Bool.{and_parts, and_from, eqb-true, le-leb}
use Rattle.std.proofs.lemmas.Bool.Decides.{nat_tests}
use Rattle.cr_base.specs.declared.layout.Laid.{Laid}
use Rattle.cr_world.specs.World.{World, blocks_of}
use Rattle.cx_core.specs.Trees.{CTy, ty, void, basic, enum_type, pointer, array, record_type, function}
use Rattle.cx_mean.specs.Settings.{extent_in}
use Rattle.lift_calls.specs.Programs.{setting_in}
use Rattle.lift_does.proofs.Around.{Around}
use Rattle.lift_does.proofs.Operands.{one_spot, points_at, other_based}
use Rattle.lift_does.proofs.PutsSizes.{aligned_behind, byte_of_element, index_below, elements_fit, IsElement, element_laid}
use Rattle.lift_does.specs.Agree.{FieldMeans}
use Rattle.lift_does.specs.Gives.{IsNoDeref, AddressesBased}
use Rattle.lift_exprs.specs.Names.{type_in, field_in}
use Rattle.lift_exprs.specs.Objects.{behind as behind_place, part_by_bytes, element_place, member_or_bytes, part_place, part_of_element}
use Rattle.lift_exprs.specs.Written.{as_bytes, place_at}
use Rattle.lift_forms.proofs.SameTypes.{type_is}
use Rattle.lift_forms.specs.Given.{address_of}
use Rattle.lift_forms.specs.Given as given_form
use Rattle.lift_forms_laws.proofs.Constants.{addresses}
use Rattle.lift_forms_laws.proofs.Runs.{seq_is, looks_is, literal_gives, cast_gives, offset_gives}
use Rattle.lift_forms_laws.specs.Gives.{GivesAt, GivesPlace}
use Rattle.lift_stands.specs.Stands.{Images}
use Rattle.mem_bytes.specs.Access.{and_then, is_record_aligned}
use Rattle.mem_bytes.specs.Laws.{behind}
use Rattle.mem_bytes.specs.Memory.{Block, Blocks, live_block, size_of}
use Rattle.mem_bytes.specs.Pointers.{live_size, place_inside, moved}
use Rattle.mem_bytes.specs.declared.pointer.PointerFault.{PointerFault}
use Rattle.mem_bytes.specs.declared.pointer.PointerFault.TheVariants.{LeavesObject}
use Rattle.mem_bytes.specs.declared.value.Ptr.{Ptr}
use Rattle.mem_bytes.specs.declared.value.Value.{Value}
use Rattle.mem_bytes.specs.declared.value.Value.TheVariants.{Whole, Object}
use Rattle.rs_mean.specs.Calls.{Spot, based, in_block, may_stand}
use Rattle.rs_mean.specs.Layout.{laid_of, laid_at, field_at}
use Rattle.rs_mean.specs.Run.{is_base, run_place, spot_of_field, field_by_type, field_spot, moved_to}
use Rattle.rs_mean.specs.Scalars.{same_type}
use Rattle.rs_mean.specs.Values.{pointing, offset_by}
use Rattle.rs_mean.specs.World.{or_cause, cause_of_pointer}
use Rattle.rs_text.specs.Tree.{Ty, Integer, Pointer, Record, Place as RustPlace, Deref, Field, Expr, Literal, Offset, Cast}
use Rattle.rs_text.specs.declared.integer.IntegerTy.TheVariants.{U8, Isize}

-- ---- where places are

-- a place of a type, where a pointer points to: the base of a member is aligned, and that of any other place is itself
pub record PlacedAt (x : Around) (world : World) (one : Ty) (p : RustPlace) (to : Ptr) : Type 0 where
  pub spot : Spot
  pub gives : GivesPlace x.frame world p spot
  pub ty_is : spot.ty ≡ one
  pub at_is : spot.at ≡ Object to
  pub based : (spot.is_based ≡ true) ⊎ (spot.is_based ≡ is_base x.frame.modules (blocks_of world) one spot.at)
  pub address : AddressesBased x.frame world (given_form.value (address_of p))

-- so many bytes from there on are those of a live block, and what has an alignment may stand there
pub record RoomAt (world : World) (size align : ℕ) (to : Ptr) : Type 0 where
  pub block : Block
  pub live : live_block (blocks_of world) to.block ≡ Some block
  pub inside : to.offset + size ≤ size_of block
  pub aligned : is_record_aligned align block to.offset ≡ true

behind_nothing : (to : Ptr) (byte : ℕ) → byte ≡ 0 → to ≡ behind to byte
behind_nothing to byte none =
    let same : to.offset ≡ to.offset + byte = omega (arith, none) in ap (λ (offset : ℕ). record { block = to.block; offset = offset }) same

behind_twice : (to : Ptr) (first second both : ℕ) → first + second ≡ both → behind (behind to first) second ≡ behind to both
behind_twice to first second both is =
    let same : to.offset + first + second ≡ to.offset + both = omega (arith, is) in ap (λ (offset : ℕ). record { block = to.block; offset = offset }) same

moves_inside : (blocks : Blocks) (to : Ptr) (block : Block) (n : ℕ) → live_block blocks to.block ≡ Some block → to.offset + n ≤ size_of block → moved blocks (Object to) (pos n) ≡ Ok (Object (behind to n))
moves_inside blocks to block n live inside =
    ap (λ (found : Option Block). and_then (and_then (live_size found) (λ size. place_inside to.block size (pos (to.offset + n)))) (λ new. Ok (Object new))) live
    ∙ ap (λ (test : Bool). and_then (if test then Ok (behind to n) else Err LeavesObject) (λ new. Ok (Object new))) (le-leb (to.offset + n) (size_of block) inside)

module _ (x : Around) (world : World) where
  -- a pointer moves by elements
  pub moves_by : (e : Expr) (target : Ty) (laid : Laid) (to : Ptr) (block : Block) (index : ℕ) → live_block (blocks_of world) to.block ≡ Some block → laid_of x.frame.modules target ≡ Some laid → GivesAt x.frame world e (Pointer target) (Object to) →
      to.offset + index * laid.size ≤ size_of block → GivesAt x.frame world (Offset e (Literal (pos index) Isize)) (Pointer target) (Object (behind to (index * laid.size)))
  moves_by e target laid to block index live laid_is gives inside =
      offset_gives x.frame world e (Literal (pos index) Isize) (Pointer target) (Integer Isize) (Pointer target) (Object to) (Whole (pos index)) (Object (behind to (index * laid.size))) gives (literal_gives x.frame world (pos index) Isize)
      (ap (λ (found : Option Laid). offset_by (blocks_of world) target found (Object to) (Whole (pos index))) laid_is
      ∙ ap (λ (n : ℤ). pointing target (or_cause cause_of_pointer (moved (blocks_of world) (Object to) n))) (pos-*ℤ-pos index laid.size)
      ∙ ap (λ (r : Result Value PointerFault). pointing target (or_cause cause_of_pointer r)) (moves_inside (blocks_of world) to block (index * laid.size) live inside))

module _ (x : Around) (images : Images) (world : World) where
  -- ---- addresses

  pub address_placed : (one : Ty) (p : RustPlace) (to : Ptr) → PlacedAt x world one p to → GivesAt x.frame world (address_of p) (Pointer one) (Object to)
  address_placed one p to placed = subst (GivesAt x.frame world (address_of p) (Pointer one)) placed.at_is (addresses x.frame world one p placed.spot placed.gives placed.ty_is)

  -- what a pointer points to that is no address
  points_placed : (e : Expr) (one : Ty) (to : Ptr) → GivesAt x.frame world e (Pointer one) (Object to) → AddressesBased x.frame world (given_form.value e) → PlacedAt x world one (place_at e) to
  points_placed e one to gives based_at =
      let points = points_at x images world e one (Object to) gives based_at in
      record { spot = points.spot; gives = points.gives; ty_is = points.ty_is; at_is = points.at_is; based = points.based_is; address = points.address }

  -- ---- by bytes

  pub record BehindPlace (p : RustPlace) (to : Ptr) (byte : ℕ) : Type 0 where
    pub target : Ty
    pub gives : GivesAt x.frame world (behind_place byte p) (Pointer target) (Object (behind to byte))

  bytes_behind : (one : Ty) (p : RustPlace) (to : Ptr) (size align byte : ℕ) → PlacedAt x world one p to → RoomAt world size align to → byte ≤ size → BehindPlace p to byte
  bytes_behind one p to size align byte placed room less = by (byte == 0) refl
    where
      by : (test : Bool) → (byte == 0) ≡ test → BehindPlace p to byte
      by true is =
          let none : byte ≡ 0 = eqb-true byte 0 is in
          record {
            target = one;
            gives = subst (λ (test : Bool). GivesAt x.frame world (if test then address_of p else Offset (as_bytes (address_of p)) (Literal (pos byte) Isize)) (Pointer one) (Object (behind to byte))) (sym is)
                (subst (λ (at : Ptr). GivesAt x.frame world (address_of p) (Pointer one) (Object at)) (behind_nothing to byte none) (address_placed one p to placed));
          }
      by false is =
          let bytes = cast_gives x.frame world (address_of p) (Pointer one) (Pointer (Integer U8)) (Object to) (Object to) (address_placed one p to placed) refl in
          let single : byte * 1 ≡ byte = omega arith in
          let moves = moves_by x world (as_bytes (address_of p)) (Integer U8) (record { size = 1; align = 1 }) to room.block byte room.live refl bytes (let inside = room.inside in omega (arith, inside, less)) in
          record {
            target = Integer U8;
            gives = subst (λ (test : Bool). GivesAt x.frame world (if test then address_of p else Offset (as_bytes (address_of p)) (Literal (pos byte) Isize)) (Pointer (Integer U8)) (Object (behind to byte))) (sym is)
                (subst (λ (n : ℕ). GivesAt x.frame world (Offset (as_bytes (address_of p)) (Literal (pos byte) Isize)) (Pointer (Integer U8)) (Object (behind to n))) single moves);
          }

  by_bytes_placed : (one part : Ty) (p : RustPlace) (to : Ptr) (size align byte : ℕ) → PlacedAt x world one p to → RoomAt world size align to → byte ≤ size → PlacedAt x world part (part_by_bytes byte p part) (behind to byte)
  by_bytes_placed one part p to size align byte placed room less =
      let first = bytes_behind one p to size align byte placed room less in
      points_placed (Cast (behind_place byte p) (Pointer part)) part (behind to byte)
      (cast_gives x.frame world (behind_place byte p) (Pointer first.target) (Pointer part) (Object (behind to byte)) (Object (behind to byte)) first.gives refl) (other_based x world _ (λ q same. cc (same)))

  -- ---- the whole

  whole_placed : (one part : Ty) (p : RustPlace) (to : Ptr) (byte : ℕ) → (byte == 0 && same_type one part) ≡ true → PlacedAt x world one p to → PlacedAt x world part p (behind to byte)
  whole_placed one part p to byte is placed =
      let both = and_parts (byte == 0) (same_type one part) is in
      subst (λ (t : Ty). PlacedAt x world t p (behind to byte)) (type_is one part both.1) (subst (PlacedAt x world one p) (behind_nothing to byte (eqb-true byte 0 both.0)) placed)

  either_placed : (test : Bool) (part : Ty) (p q : RustPlace) (to : Ptr) → (test ≡ true → PlacedAt x world part p to) → PlacedAt x world part q to → PlacedAt x world part (if test then p else q) to
  either_placed true part p q to first second = first refl
  either_placed false part p q to first second = second

  -- ---- members

  either_base : (b c : Bool) → (b ≡ true) ⊎ (b ≡ c) → c ≡ true → b ≡ true
  either_base b c (inl is) other = is
  either_base b c (inr is) other = is ∙ other

  base_aligned : (m y : List ℕ) (laid : Laid) (to : Ptr) → laid_at x.frame.modules m y ≡ Some laid → RoomAt world laid.size laid.align to → is_base x.frame.modules (blocks_of world) (Record m y) (Object to) ≡ true
  base_aligned m y laid to laid_is room =
      ap (λ (found : Option Laid). may_stand (blocks_of world) found (Object to)) laid_is ∙ ap (in_block laid.align to.offset) room.live ∙ room.aligned

  field_placed : (one part : Ty) (p : RustPlace) (to : Ptr) (m y name : List ℕ) (laid : Laid) (byte : ℕ) → PlacedAt x world one p to → one ≡ Record m y → laid_at x.frame.modules m y ≡ Some laid → RoomAt world laid.size laid.align to → byte ≤ laid.size →
      field_at x.frame.modules m y name ≡ Some (record { ty = part; byte = byte }) → PlacedAt x world part (Field p name) (behind to byte)
  field_placed one part p to m y name laid byte placed path_is laid_is room less found =
      let is_based = placed.spot.is_based in
      let new = based is_based part (Object (behind to byte)) in
      let base_is : is_base x.frame.modules (blocks_of world) one placed.spot.at ≡ true =
      ap (λ (t : Ty). is_base x.frame.modules (blocks_of world) t placed.spot.at) path_is ∙ ap (is_base x.frame.modules (blocks_of world) (Record m y)) placed.at_is ∙ base_aligned m y laid to laid_is room in
      let based_is : is_based ≡ true = either_base is_based _ placed.based base_is in
      let moves : moved_to is_based part (or_cause cause_of_pointer (moved (blocks_of world) placed.spot.at (pos byte))) ≡ Ok new =
      ap (λ (at : Value). moved_to is_based part (or_cause cause_of_pointer (moved (blocks_of world) at (pos byte)))) placed.at_is
      ∙ ap (λ (r : Result Value PointerFault). moved_to is_based part (or_cause cause_of_pointer r)) (moves_inside (blocks_of world) to room.block byte room.live (let inside = room.inside in omega (arith, inside, less))) in
      let gives_it : GivesPlace x.frame world (Field p name) new = record {
        runs = λ units. seq_is (run_place x.frame p) (spot_of_field x.frame.modules name) world units placed.spot (placed.gives.runs units)
            ∙ ap (λ (t : Ty). field_by_type x.frame.modules name is_based placed.spot.at t world units) (placed.ty_is ∙ path_is)
            ∙ ap (λ (field : _). field_spot is_based placed.spot.at field world units) found
            ∙ looks_is (λ held. moved_to is_based part (or_cause cause_of_pointer (moved held.blocks placed.spot.at (pos byte)))) world units new moves;
      } in
      record {
        spot = new;
        gives = gives_it;
        ty_is = refl;
        at_is = refl;
        based = inl based_is;
        address = record {
          based = λ q other same other_gives.
              let place_is : Field p name ≡ q = cc (same) in
              ap (λ (s : Spot). s.is_based) (one_spot x world (Field p name) other new (subst (λ (r : RustPlace). GivesPlace x.frame world r other) (sym place_is) other_gives) gives_it) ∙ based_is;
          plain = λ q same. let place_is : Field p name ≡ q = cc (same) in subst IsNoDeref place_is tt;
        };
      }

  -- ---- elements

  element_placed : (one element : Ty) (p : RustPlace) (to : Ptr) (inner : Laid) (size align index : ℕ) → PlacedAt x world one p to → RoomAt world size align to → laid_of x.frame.modules element ≡ Some inner → index * inner.size ≤ size →
      PlacedAt x world element (element_place index p element) (behind to (index * inner.size))
  element_placed one element p to inner size align index placed room laid_is less = by (index == 0) refl
    where
      first : GivesAt x.frame world (Cast (address_of p) (Pointer element)) (Pointer element) (Object to)
      first = cast_gives x.frame world (address_of p) (Pointer one) (Pointer element) (Object to) (Object to) (address_placed one p to placed) refl

      by : (test : Bool) → (index == 0) ≡ test → PlacedAt x world element (element_place index p element) (behind to (index * inner.size))
      by true is =
          let none : index ≡ 0 = eqb-true index 0 is in
          let bytes : index * inner.size ≡ 0 = let same : index * inner.size ≡ 0 * inner.size = ap (λ (n : ℕ). n * inner.size) none in omega (arith, same) in
          subst (λ (test : Bool). PlacedAt x world element (Deref (if test then Cast (address_of p) (Pointer element) else Offset (Cast (address_of p) (Pointer element)) (Literal (pos index) Isize))) (behind to (index * inner.size))) (sym is)
          (subst (PlacedAt x world element (Deref (Cast (address_of p) (Pointer element)))) (behind_nothing to (index * inner.size) bytes)
          (points_placed (Cast (address_of p) (Pointer element)) element to first (other_based x world _ (λ q same. cc (same)))))
      by false is =
          subst (λ (test : Bool). PlacedAt x world element (Deref (if test then Cast (address_of p) (Pointer element) else Offset (Cast (address_of p) (Pointer element)) (Literal (pos index) Isize))) (behind to (index * inner.size))) (sym is)
          (points_placed (Offset (Cast (address_of p) (Pointer element)) (Literal (pos index) Isize)) element (behind to (index * inner.size))
          (moves_by x world (Cast (address_of p) (Pointer element)) element inner to room.block index room.live laid_is first (let inside = room.inside in omega (arith, inside, less))) (other_based x world _ (λ q same. cc (same))))

  room_element : (laid inner : Laid) (count index : ℕ) (to : Ptr) → RoomAt world laid.size laid.align to → laid.size ≡ count * inner.size → laid.align ≡ inner.align → inner.size % inner.align ≡ 0 → index < count → RoomAt world inner.size inner.align (behind to (index * inner.size))
  room_element laid inner count index to room size align whole less =
      let fits = elements_fit index count inner.size less in
      let aligned : is_record_aligned inner.align room.block to.offset ≡ true = subst (λ (n : ℕ). is_record_aligned n room.block to.offset ≡ true) align room.aligned in
      let both = and_parts (to.offset % inner.align == 0) (nat_le inner.align room.block.align) aligned in
      let first : to.offset % inner.align ≡ 0 = eqb-true (to.offset % inner.align) 0 both.0 in
      record {
        block = room.block;
        live = room.live;
        inside = let inside = room.inside in omega (arith, inside, size, fits);
        aligned = and_from ((to.offset + index * inner.size) % inner.align == 0) (nat_le inner.align room.block.align)
            (ap (λ (n : ℕ). n == 0) (aligned_behind to.offset index inner.size inner.align first whole)) both.1;
      }

  -- ---- parts

  module _ (modules_are : x.frame.modules ≡ x.s.modules) where
    laid_there : (type : CTy) (laid : Laid) → extent_in (setting_in x.s) type ≡ Some laid → laid_of x.frame.modules (type_in x.names type) ≡ Some laid
    laid_there type laid is = ap (λ (modules : _). laid_of modules (type_in x.names type)) modules_are ∙ x.means.laid type laid is

    named_member : (number : ℕ) (is_const : Bool) (laid : Laid) (p : RustPlace) (to : Ptr) (byte : ℕ) (part : Ty) (found : Option (List ℕ)) → field_in x.names (ty (record_type number) is_const) byte part ≡ found →
        extent_in (setting_in x.s) (ty (record_type number) is_const) ≡ Some laid → PlacedAt x world (type_in x.names (ty (record_type number) is_const)) p to → RoomAt world laid.size laid.align to → byte < laid.size →
        PlacedAt x world part (member_or_bytes found byte p part) (behind to byte)
    named_member number is_const laid p to byte part None found_is laid_is placed room less =
        by_bytes_placed (type_in x.names (ty (record_type number) is_const)) part p to laid.size laid.align byte placed room (omega (arith, less))
    named_member number is_const laid p to byte part (Some name) found_is laid_is placed room less =
        let holder = ty (record_type number) is_const in
        let means : FieldMeans x.s x.names holder byte part = x.means.part_fields number is_const byte part name found_is in
        let names_are : Some means.name ≡ Some name = sym means.name_is ∙ found_is in
        let name_is : means.name ≡ name = cc (names_are) in
        let laid_is_there : laid_at x.frame.modules means.m means.x ≡ Some laid = subst (λ (t : Ty). laid_of x.frame.modules t ≡ Some laid) means.path_is (laid_there holder laid laid_is) in
        let stands : field_at x.frame.modules means.m means.x name ≡ Some (record { ty = part; byte = byte }) =
        ap (λ (modules : _). field_at modules means.m means.x name) modules_are ∙ ap (field_at x.s.modules means.m means.x) (sym name_is) ∙ means.stands in
        field_placed (type_in x.names holder) part p to means.m means.x name laid byte placed means.path_is laid_is_there room (omega (arith, less)) stands

    array_placed : (element : CTy) (one : Ty) (laid : Laid) (p : RustPlace) (to : Ptr) (byte : ℕ) (part : Ty) →
        ((inner : Laid) (q : RustPlace) (at : Ptr) (inside : ℕ) → extent_in (setting_in x.s) element ≡ Some inner → PlacedAt x world (type_in x.names element) q at → RoomAt world inner.size inner.align at → inside < inner.size →
        PlacedAt x world part (part_place x.names element q inside part) (behind at inside)) →
        IsElement x.s.program.types element laid → PlacedAt x world one p to → RoomAt world laid.size laid.align to → byte < laid.size → PlacedAt x world part (part_of_element x.names element p byte part) (behind to byte)
    array_placed element one laid p to byte part parts held placed room less =
        let size = held.inner.size in
        let size_is : x.names.size_of element ≡ size = x.means.sizes element held.inner held.inner_is in
        let below : byte < held.count * size = let whole = held.size in omega (arith, less, whole) in
        let some : 0 < size = some_bytes held.count size byte below in
        let index = byte / size in
        let index_less : index < held.count = index_below byte held.count size some below in
        let reach : index * size ≤ laid.size = let fits = elements_fit index held.count size index_less in let whole = held.size in omega (arith, fits, whole) in
        let first = element_placed one (type_in x.names element) p to held.inner laid.size laid.align index placed room (laid_there element held.inner held.inner_is) reach in
        let inner = parts held.inner (element_place index p (type_in x.names element)) (behind to (index * size)) (byte % size) held.inner_is first
        (room_element laid held.inner held.count index to room held.size held.align held.whole index_less) (mod-lt byte some) in
        let there = subst (PlacedAt x world part (part_place x.names element (element_place index p (type_in x.names element)) (byte % size) part)) (behind_twice to (index * size) (byte % size) byte (byte_of_element byte size)) inner in
        let not_none : (size == 0) ≡ false = grind (arith, nat_tests, some) in
        subst (λ (n : ℕ). PlacedAt x world part (if n == 0 then part_by_bytes byte p part else part_place x.names element (element_place (byte / n) p (type_in x.names element)) (byte % n) part) (behind to byte)) (sym size_is)
        (subst (λ (test : Bool). PlacedAt x world part (if test then part_by_bytes byte p part else part_place x.names element (element_place index p (type_in x.names element)) (byte % size) part) (behind to byte)) (sym not_none) there)
      where
        some_bytes : (count size byte : ℕ) → byte < count * size → 0 < size
        some_bytes count zero byte less = let none : count * 0 ≡ 0 = omega arith in absurd (omega (arith, less, none))
        some_bytes count (suc n) byte less = omega arith

    -- the place of a part leads where it stands, with its type
    pub part_placed : (type : CTy) (laid : Laid) (p : RustPlace) (to : Ptr) (byte : ℕ) (part : Ty) → extent_in (setting_in x.s) type ≡ Some laid → PlacedAt x world (type_in x.names type) p to → RoomAt world laid.size laid.align to → byte < laid.size →
        PlacedAt x world part (part_place x.names type p byte part) (behind to byte)
    part_placed (ty (array element length) is_const) laid p to byte part laid_is placed room less =
        let type = ty (array element length) is_const in
        either_placed (byte == 0 && same_type (type_in x.names type) part) part p (part_of_element x.names element p byte part) (behind to byte) (λ is. whole_placed (type_in x.names type) part p to byte is placed)
        (array_placed element (type_in x.names type) laid p to byte part (λ inner q at inside inner_is there room_there less_there. part_placed element inner q at inside part inner_is there room_there less_there)
        (element_laid x.s.program.types element length is_const laid byte less laid_is) placed room less)
    part_placed (ty (record_type number) is_const) laid p to byte part laid_is placed room less =
        let type = ty (record_type number) is_const in
        either_placed (byte == 0 && same_type (type_in x.names type) part) part p _ (behind to byte) (λ is. whole_placed (type_in x.names type) part p to byte is placed)
        (named_member number is_const laid p to byte part (field_in x.names type byte part) refl laid_is placed room less)
    part_placed (ty void is_const) laid p to byte part laid_is placed room less = absurd cc
    part_placed (ty (basic which) is_const) laid p to byte part laid_is placed room less =
        let type = ty (basic which) is_const in
        either_placed (byte == 0 && same_type (type_in x.names type) part) part p _ (behind to byte) (λ is. whole_placed (type_in x.names type) part p to byte is placed)
        (by_bytes_placed (type_in x.names type) part p to laid.size laid.align byte placed room (omega (arith, less)))
    part_placed (ty (enum_type number) is_const) laid p to byte part laid_is placed room less =
        let type = ty (enum_type number) is_const in
        either_placed (byte == 0 && same_type (type_in x.names type) part) part p _ (behind to byte) (λ is. whole_placed (type_in x.names type) part p to byte is placed)
        (by_bytes_placed (type_in x.names type) part p to laid.size laid.align byte placed room (omega (arith, less)))
    part_placed (ty (pointer target) is_const) laid p to byte part laid_is placed room less =
        let type = ty (pointer target) is_const in
        either_placed (byte == 0 && same_type (type_in x.names type) part) part p _ (behind to byte) (λ is. whole_placed (type_in x.names type) part p to byte is placed)
        (by_bytes_placed (type_in x.names type) part p to laid.size laid.align byte placed room (omega (arith, less)))
    part_placed (ty (function result params variadic) is_const) laid p to byte part laid_is placed room less = absurd cc
