-- A value is stored in a part of an object: a scalar, a structure or union, or a number in a bit-field (ISO C99, 6.5.16.1 and 6.7.8).
use Rattle.std.proofs.Common.{◌≡◌, ℕ, zero, suc, ◌+◌, ◌*◌, ◌%◌, ◌==◌, ◌<◌, ◌≤◌, nat_le, nat_lt, ℤ, Bool, true, false, if◌then◌else◌, List, [], ◌∷◌, Option, Some, None, option_map, Ok, refl, sym, ap, subst, ◌∙◌, arith}
use Rattle.std.proofs.lemmas.Bool.{and_parts, and_from, le-leb}
use Rattle.std.proofs.lemmas.Bool.Decides.{nat_tests}
use Rattle.cr_base.specs.declared.layout.Laid.{Laid}
use Rattle.cr_base.specs.declared.layout.Spot.{Spot as CSpot}
use Rattle.cr_runs.specs.Runs.{came}
use Rattle.cr_world.specs.Held.{with_blocks}
use Rattle.cr_world.specs.World.{World, blocks_of, with_held, with_memory}
use Rattle.cx_core.specs.BitFields.{has_bit_fields}
use Rattle.cx_core.specs.Trees.{CTy, ty, CTyForm, void, basic, enum_type, pointer, array, record_type, function, unqualified, CExpr, type_of, CTypes, CProgram, CMember}
use Rattle.cx_core.specs.Layouts.{extent, layouts_of}
use Rattle.cx_core.specs.Typing.{IsPutOf}
use Rattle.cx_core.specs.ValidTypes.{CPart, direct_part, part_at, within, member_of, spot_of, has_name, is_named_path, with_const}
use Rattle.cx_mean.specs.Accesses.{CKind, of_scalar, of_record, kind_of, CStored, stored, stored_kind, stored_record, stored_bits, cells_in}
use Rattle.cx_mean.specs.Initialisers.{part_with, part_place as c_part_place, put_stored}
use Rattle.cx_mean.specs.Marks.{Marks}
use Rattle.cx_mean.specs.Operands.{needed, CValue, scalar, cells, names, designates, designates_bits, missing, COperand, place_in, slot_of}
use Rattle.cx_mean.specs.Settings.{setting_of, extent_in, scalar_in_type}
use Rattle.cx_mean.specs.Values.{value_of_kind}
use Rattle.cx_mean.specs.Operands.{scalar_value}
use Rattle.cx_typed_sizes.proofs.Bytes.{complete_has_byte}
use Rattle.cx_typed_values.specs.Values.{most_bytes}
use Rattle.cx_typed_work.proofs.Parts.{IsPlaced, placed_inside}
use Rattle.cx_typed_work.proofs.Puts.{IsLiteralAlive}
use Rattle.cx_typed_work.proofs.Rows.{then_found, map_found, some_same, extent_whole}
use Rattle.lift_calls.specs.Programs.{setting_in}
use Rattle.lift_does.proofs.Around.{Around, scope, At, runs}
use Rattle.lift_does.proofs.Assignments.{stored_is, stores_both}
use Rattle.lift_does.proofs.BitEnds.{number_casts, bits_written}
use Rattle.lift_does.proofs.BitStores.{bits_stored_is, Midst}
use Rattle.lift_does.proofs.BitLoads.{profile_is, bit_fields_there}
use Rattle.lift_does.proofs.Leaves.{object_there}
use Rattle.lift_does.proofs.Loads.{of_scalar_kind, of_record_kind, same_unqualified}
use Rattle.lift_does.proofs.Nodes.{and_then_is}
use Rattle.lift_does.proofs.Operands.{scalar_is, scalar_given}
use Rattle.lift_does.proofs.Places.{pointer_below}
use Rattle.lift_does.proofs.PutsPlaces.{PlacedAt, RoomAt, address_placed, part_placed}
use Rattle.lift_does.proofs.RecordAssignments.{copies_both}
use Rattle.lift_does.proofs.Runs.{run_one}
use Rattle.lift_does.specs.Gives.{GivesLvalue, GivesBase, GivesRecord, GivesOperand}
use Rattle.lift_exprs.specs.Names.{type_in}
use Rattle.lift_exprs.specs.Objects.{object_at, part_place, part_target}
use Rattle.lift_exprs.specs.Stores.{Target, a_scalar, a_structure, a_field, whole_target, stored_value, stores}
use Rattle.lift_exprs.specs.Written.{address_of_given, copied}
use Rattle.lift_forms.specs.BitFields.{bit_write}
use Rattle.lift_forms.specs.Given.{Given, address_of}
use Rattle.lift_forms.specs.Given as given_form
use Rattle.lift_forms.specs.Operators.{given_value}
use Rattle.lift_forms_laws.proofs.Operands.{value_gives}
use Rattle.lift_forms_laws.specs.Gives.{GivesAt}
use Rattle.lift_held.specs.Held.{is_record}
use Rattle.lift_stands.proofs.Cells.{length_below}
use Rattle.lift_stands.proofs.Forms.{number_below}
use Rattle.lift_stands.proofs.Loads.{block_there}
use Rattle.lift_stands.specs.Stands.{Images, PlaceBelow, ValueBelow}
use Rattle.lift_stands_accesses.specs.Objects.{LeftStanding}
use Rattle.lift_stands_values.specs.Given.{align_in}
use Rattle.mem_bytes.specs.Laws.{behind}
use Rattle.mem_bytes.specs.Memory.{Blocks, size_of}
use Rattle.mem_bytes.specs.declared.cell.Cell.{Cell}
use Rattle.mem_bytes.specs.declared.value.Ptr.{Ptr}
use Rattle.mem_bytes.specs.declared.value.Value.TheVariants.{Whole, Object}
use Rattle.rs_mean.specs.Run.{normal, run_stmt}
use Rattle.rs_text.specs.Tree.{Ty, Place as RustPlace, Expr, Stmt, Assign}

-- ---- the object

-- an object that lives in C is where its name says, aligned and with all of its bytes
pub record ObjectPlaced (x : Around) (images : Images) (world : World) (type : CTy) (number : ℕ) (laid : Laid) (at : Ptr) : Type 0 where
  pub to : Ptr
  pub placed : PlacedAt x world (type_in x.names type) (object_at x.names type number) to
  pub room : RoomAt world laid.size laid.align to
  pub below : PlaceBelow images at to

none_left : (n : ℕ) → 0 % n ≡ 0
none_left zero = refl
none_left (suc n) = omega arith

pub needed_is : {A : Type 0} (found : Option A) (at : A) → needed found ≡ Ok at → found ≡ Some at
needed_is (Some one) at is = let same : one ≡ at = cc (is) in ap Some same
needed_is None at is = cc (is)

module _ (x : Around) where
  pub object_placed : (images : Images) (c_world world : World) (type : CTy) (number : ℕ) → At x images c_world world → (lives : IsLiteralAlive x.home (scope x) (blocks_of c_world) type number) →
      ObjectPlaced x images world type number lives.alive.laid lives.alive.at
  object_placed images c_world world type number here lives =
      let at = lives.alive.at in
      let laid = lives.alive.laid in
      let lvalue = object_there x images c_world world type number at here lives.at_is in
      let pointer_is = pointer_below images at lvalue.spot.at lvalue.below in
      let beside = block_there images (blocks_of c_world) (blocks_of world) at pointer_is.to lives.alive.block here.worlds.held.memories pointer_is.below lives.alive.live in
      let first : pointer_is.to.offset ≡ 0 = pointer_is.below.offset ∙ lives.begins in
      let size : size_of beside.other ≡ laid.size = length_below images lives.alive.block.cells beside.other.cells beside.below.cells ∙ lives.alive.size in
      let enough : laid.align ≤ beside.other.align = let less = beside.below.align in let same = lives.alive.align in omega (arith, less, same) in
      record {
        to = pointer_is.to;
        placed = record { spot = lvalue.spot; gives = lvalue.gives; ty_is = lvalue.ty_is; at_is = pointer_is.is; based = lvalue.based; address = lvalue.address };
        room = record {
          block = beside.other;
          live = beside.live;
          inside = omega (arith, first, size);
          aligned = and_from (pointer_is.to.offset % laid.align == 0) (nat_le laid.align beside.other.align) (ap (λ (n : ℕ). n % laid.align == 0) first ∙ ap (λ (n : ℕ). n == 0) (none_left laid.align)) (le-leb laid.align beside.other.align enough);
        };
        below = pointer_is.below;
      }

  -- the types of the program
  extent_here : (type : CTy) (laid : Laid) → extent_in (setting_of x.home.program) type ≡ Some laid → extent_in (setting_in x.s) type ≡ Some laid
  extent_here type laid is = ap (λ (program : CProgram). extent_in (setting_of program) type) (sym x.means.program) ∙ is

  -- the place of a part of it is an lvalue of the part's type
  pub part_lvalue : (images : Images) (c_world world : World) (type : CTy) (number : ℕ) (spot : CSpot) (part : CTy) → At x images c_world world → (lives : IsLiteralAlive x.home (scope x) (blocks_of c_world) type number) → spot.byte < lives.alive.laid.size →
      GivesLvalue images x.frame world (type_in x.names part) (given_form.place (part_place x.names type (object_at x.names type number) spot.byte (type_in x.names part))) (Object (behind lives.alive.at spot.byte))
  part_lvalue images c_world world type number spot part here lives less =
      let object = object_placed images c_world world type number here lives in
      let there = part_placed x images world here.frames.modules type lives.alive.laid (object_at x.names type number) object.to spot.byte (type_in x.names part) (extent_here type lives.alive.laid lives.laid_is) object.placed object.room less in
      record {
        spot = there.spot;
        gives = there.gives;
        ty_is = there.ty_is;
        below = subst (ValueBelow images (Object (behind lives.alive.at spot.byte))) (sym there.at_is)
            (ValueBelow.to_image (behind lives.alive.at spot.byte) (behind object.to spot.byte) (record { block = object.below.block; offset = ap (λ (n : ℕ). n + spot.byte) object.below.offset }));
        based = there.based;
        address = there.address;
      }

  -- ---- what C stores

  -- a put in a part of an object that lives
  pub stored_there : (blocks : Blocks) (type : CTy) (number : ℕ) (spot : CSpot) (part : CTy) (operand : COperand) (made : CStored) → (lives : IsLiteralAlive x.home (scope x) blocks type number) →
      put_stored (setting_in x.s) (scope x) blocks number spot part operand ≡ Ok made → stored (setting_in x.s) (scope x) blocks part (c_part_place lives.alive.at spot) operand.value operand.marks ≡ Ok made
  stored_there blocks type number spot part operand made lives e =
      let slot = and_then_is (needed (slot_of (scope x) number)) _ made e in
      let slots : Some slot.0 ≡ Some lives.alive.at = sym (needed_is (slot_of (scope x) number) slot.0 slot.1) ∙ lives.at_is in
      let same : slot.0 ≡ lives.alive.at = cc (slots) in
      subst (λ (at : Ptr). stored (setting_in x.s) (scope x) blocks part (c_part_place at spot) operand.value operand.marks ≡ Ok made) same slot.2

  part_is : (at : Ptr) (bit width : ℕ) → width ≡ 0 → part_with at bit width ≡ designates (Object at)
  part_is at bit zero is = refl
  part_is at bit (suc n) is = cc (is)

  bits_are : (at : Ptr) (bit width : ℕ) → 0 < width → part_with at bit width ≡ designates_bits at bit width
  bits_are at bit zero some = absurd (omega (arith, some))
  bits_are at bit (suc n) some = refl

  designated : (at to : Ptr) → place_in (scope x) (designates (Object at)) ≡ Ok (Object to) → at ≡ to
  designated at to is = cc (is)

  -- ---- what both have behind a put

  pub record PutBoth (images : Images) (c_world world : World) (list : List Stmt) (made : Blocks) : Type 0 where
    pub beyond : Blocks
    pub comes : (units : ℕ) → runs x list world units ≡ came normal (with_held (with_blocks beyond world.held) world) units
    pub left : LeftStanding images c_world.held world.held made beyond

  -- ---- scalars, and structures and unions

  -- the cells of a structure or union
  cells_are : (size : ℕ) (value : CValue) (list : List Cell) → cells_in size value ≡ Ok list → (held : List Cell) × (from : Option Ptr) × (value ≡ cells held from)
  cells_are size (cells held from) list e = (held, from, refl)
  cells_are size missing list e = cc (e)
  cells_are size (scalar value) list e = cc (e)
  cells_are size (names number) list e = cc (e)
  cells_are size (designates to) list e = cc (e)
  cells_are size (designates_bits at bit width) list e = cc (e)

  scalar_put : (images : Images) (c_world world : World) (form : CTyForm) (is_const : Bool) (p : RustPlace) (at : Ptr) (value : CExpr) (given : Given) (new : CValue) (marks : Marks) (made : CStored) → At x images c_world world → is_record (ty form is_const) ≡ false →
      GivesLvalue images x.frame world (type_in x.names (ty form is_const)) (given_form.place p) (Object at) → GivesOperand x.s x.names images x.c_frame x.frame world value given new →
      stored (setting_in x.s) (scope x) (blocks_of c_world) (ty form is_const) (designates (Object at)) new marks ≡ Ok made → PutBoth images c_world world (Assign p (given_value given) ∷ []) made.blocks
  scalar_put images c_world world form is_const p at value given new marks made here plain place_gave gave e =
      let is = stored_is (setting_in x.s) (scope x) (blocks_of c_world) (ty form is_const) (designates (Object at)) new marks made tt e in
      by is.kind is.kind_is (subst (λ (to : Ptr). stored_kind (blocks_of c_world) to marks new is.kind ≡ Ok made) (sym (designated at is.at is.place_is)) is.stores)
    where
      by : (kind : CKind) → kind_of (setting_in x.s) (ty form is_const) ≡ Ok kind → stored_kind (blocks_of c_world) at marks new kind ≡ Ok made → PutBoth images c_world world (Assign p (given_value given) ∷ []) made.blocks
      by (of_record laid) kind_is stores_it = let clash : true ≡ false = sym (of_record_kind (setting_in x.s) form is_const laid kind_is).of_record_type ∙ plain in cc (clash)
      by (of_scalar kind) kind_is stores_it =
          let found = and_then_is (value_of_kind kind new) _ made stores_it in
          let one = and_then_is (scalar_value new) _ found.0 found.1 in
          let new_is = scalar_is new one.0 one.1 in
          let below = value_gives images x.frame world (record { ty = type_in x.names (type_of value); given = given }) one.0 (scalar_given x images world value given new one.0 new_is gave).stands in
          let both = stores_both x images c_world world (type_in x.names (ty form is_const)) (given_form.place p) (given_value given) (type_in x.names (type_of value)) kind at one.0 below.other marks made here
          (x.means.scalars (ty form is_const) kind (of_scalar_kind (setting_in x.s) form is_const kind kind_is).kind_is) place_gave below.gives below.below
          (subst (λ (v : CValue). stored_kind (blocks_of c_world) at marks v (of_scalar kind) ≡ Ok made) new_is stores_it) in
          record {
            beyond = both.0.beyond;
            comes = λ units. run_one x.frame (Assign p (given_value given)) world (with_held (with_blocks both.0.beyond world.held) world) units (both.0.comes units);
            left = both.0.left;
          }

  record_put : (images : Images) (c_world world : World) (form : CTyForm) (is_const : Bool) (p : RustPlace) (at : Ptr) (value : CExpr) (given : Given) (new : CValue) (marks : Marks) (made : CStored) → At x images c_world world → is_record (ty form is_const) ≡ true →
      GivesLvalue images x.frame world (type_in x.names (ty form is_const)) (given_form.place p) (Object at) → GivesOperand x.s x.names images x.c_frame x.frame world value given new →
      stored (setting_in x.s) (scope x) (blocks_of c_world) (ty form is_const) (designates (Object at)) new marks ≡ Ok made →
      PutBoth images c_world world (copied (address_of_given given) (address_of p) (x.names.size_of (ty form is_const)) ∷ []) made.blocks
  record_put images c_world world form is_const p at value given new marks made here of_record_type place_gave gave e =
      let is = stored_is (setting_in x.s) (scope x) (blocks_of c_world) (ty form is_const) (designates (Object at)) new marks made tt e in
      by is.kind is.kind_is (subst (λ (to : Ptr). stored_kind (blocks_of c_world) to marks new is.kind ≡ Ok made) (sym (designated at is.at is.place_is)) is.stores)
    where
      source : Expr
      source = address_of_given given

      by : (kind : CKind) → kind_of (setting_in x.s) (ty form is_const) ≡ Ok kind → stored_kind (blocks_of c_world) at marks new kind ≡ Ok made →
          PutBoth images c_world world (copied source (address_of p) (x.names.size_of (ty form is_const)) ∷ []) made.blocks
      by (of_scalar kind) kind_is stores_it = let clash : true ≡ false = sym of_record_type ∙ (of_scalar_kind (setting_in x.s) form is_const kind kind_is).no_record in cc (clash)
      by (of_record laid) kind_is stores_it =
          let found = and_then_is (cells_in laid.size new) _ made stores_it in
          let list = cells_are laid.size new found.0 found.1 in
          let held : GivesRecord images x.frame world (type_in x.names (type_of value)) (align_in (setting_in x.s) (type_of value)) given list.0 =
          subst (λ (v : CValue). GivesOperand x.s x.names images x.c_frame x.frame world value given v) list.2 gave in
          let both = copies_both x images c_world world (type_in x.names (ty form is_const)) (given_form.place p) source (type_in x.names (type_of value)) held.at (align_in (setting_in x.s) (type_of value)) laid at list.0 list.1 marks made here place_gave held.gives
          held.holds (subst (λ (v : CValue). stored_record (blocks_of c_world) at marks v laid ≡ Ok made) list.2 stores_it) in
          let after = with_held (with_blocks both.0.beyond world.held) world in
          let size_is : x.names.size_of (ty form is_const) ≡ laid.size = x.means.sizes (ty form is_const) laid (of_record_kind (setting_in x.s) form is_const laid kind_is).laid_is in
          record {
            beyond = both.0.beyond;
            comes = λ units. run_one x.frame (copied source (address_of p) (x.names.size_of (ty form is_const))) world after units
                (subst (λ (n : ℕ). run_stmt x.frame (copied source (address_of p) n) world units ≡ came normal after units) (sym size_is) (both.0.comes units));
            left = both.0.left;
          }

  -- ---- bit-fields

  -- a value that is given is the same while a number is stored in a bit-field
  abbrev pub IsGivenMeanwhile : (images : Images) (c_world world : World) → CExpr → Given → CValue → Type 0
  IsGivenMeanwhile images c_world world value given new =
      (part beyond : Blocks) → Midst x images c_world world part beyond → LeftStanding images c_world.held world.held part beyond →
      GivesOperand x.s x.names images x.c_frame x.frame (with_held (with_blocks beyond world.held) world) value given new

  -- the address of an object is that of what holds its bit-fields
  base_there : (images : Images) (c_world world : World) (type : CTy) (number : ℕ) (spot : CSpot) (at : Ptr) → At x images c_world world → (lives : IsLiteralAlive x.home (scope x) (blocks_of c_world) type number) → lives.alive.at ≡ at →
      GivesBase images x.frame world (type_in x.names type) (given_form.value (address_of (object_at x.names type number))) spot (behind at spot.byte)
  base_there images c_world world type number spot at here lives same =
      let object = object_placed images c_world world type number here lives in
      record {
        base = object.to;
        gives = address_placed x images world (type_in x.names type) (object_at x.names type number) object.to object.placed;
        below = subst (λ (p : Ptr). PlaceBelow images (behind p spot.byte) (behind object.to spot.byte)) same
            (record { block = object.below.block; offset = ap (λ (n : ℕ). n + spot.byte) object.below.offset });
      }

  number_given : (images : Images) (world : World) (value : CExpr) (part : CTy) (given : Given) (new : CValue) (number : ℤ) → new ≡ scalar (Whole number) → type_of value ≡ unqualified part → GivesOperand x.s x.names images x.c_frame x.frame world value given new →
      GivesAt x.frame world (given_value given) (type_in x.names part) (Whole number)
  number_given images world value part given new number new_is type_is gave =
      let below = value_gives images x.frame world (record { ty = type_in x.names (type_of value); given = given }) (Whole number) (scalar_given x images world value given new (Whole number) new_is gave).stands in
      subst (λ (t : Ty). GivesAt x.frame world (given_value given) t (Whole number)) (ap (type_in x.names) type_is ∙ same_unqualified x.names part)
      (subst (GivesAt x.frame world (given_value given) (type_in x.names (type_of value))) (number_below images number below.other below.below) below.gives)

  bits_put : (images : Images) (c_world world : World) (type : CTy) (number : ℕ) (spot : CSpot) (part : CTy) (at : Ptr) (value : CExpr) (given : Given) (new : CValue) (marks : Marks) (made : CStored) → At x images c_world world →
      ((c_later later : World) → At x images c_later later → (lives : IsLiteralAlive x.home (scope x) (blocks_of c_later) type number) × (lives.alive.at ≡ at)) → images.in_bytes ≡ true → at.offset + spot.byte ≤ most_bytes → type_of value ≡ unqualified part →
      GivesOperand x.s x.names images x.c_frame x.frame world value given new → IsGivenMeanwhile images c_world world value given new →
      stored (setting_in x.s) (scope x) (blocks_of c_world) part (designates_bits (behind at spot.byte) spot.bit spot.width) new marks ≡ Ok made →
      PutBoth images c_world world (bit_write (address_of (object_at x.names type number)) spot (given_value given)) made.blocks
  bits_put images c_world world type number spot part at value given new marks made here lives in_bytes near type_is gave meanwhile e =
      let kind = and_then_is (needed (scalar_in_type (setting_in x.s) part)) _ made e in
      let kind_is = x.means.scalars part kind.0 (needed_is (scalar_in_type (setting_in x.s) part) kind.0 kind.1) in
      let what = bits_stored_is (blocks_of c_world) (behind at spot.byte) spot.bit spot.width marks new kind.0 made kind.2 in
      let there = lives c_world world here in
      let base = base_there images c_world world type number spot at here there.0 there.1 in
      let writes = bits_written x images c_world world (type_in x.names type) (type_in x.names part) (given_form.value (address_of (object_at x.names type number))) spot (behind at spot.byte) marks kind.0 what.number (given_value given) made here in_bytes
      (profile_is x spot images (behind at spot.byte) base.base what.profile near base.below) base
      (λ one beyond midst left.
      let again = lives (with_memory one c_world) (with_held (with_blocks beyond world.held) world) midst.at in
      base_there images (with_memory one c_world) (with_held (with_blocks beyond world.held) world) type number spot at midst.at again.0 again.1)
      (λ one beyond midst left. number_given images (with_held (with_blocks beyond world.held) world) value part given new what.number what.new_is type_is (meanwhile one beyond midst left))
      (number_casts x (type_in x.names part) kind.0 what.number kind_is what.of_kind)
      (subst (λ (v : CValue). stored_bits (blocks_of c_world) (behind at spot.byte) spot.bit spot.width marks v kind.0 ≡ Ok made) what.new_is kind.2) in
      record { beyond = writes.beyond; comes = writes.runs; left = writes.left }

-- ---- parts that are bit-fields

abbrev part_as : Option CMember → Option CSpot → Option CPart
part_as (Some one) (Some spot) = Some (record { spot = spot; type = one.type })
part_as (Some one) None = None
part_as None spot = None

member_bits : (types : CTypes) (number index : ℕ) (is_const : Bool) (found : Option CMember) (place : Option CSpot) (outer : CPart) → member_of types (record_type number) index ≡ found → spot_of types (record_type number) index ≡ place →
    part_as found place ≡ Some outer → has_name found ≡ true → (outer.spot.width ≡ 0 → ⊥) → has_bit_fields types ≡ true
member_bits types number index is_const None place outer a b is has some = cc (is)
member_bits types number index is_const (Some one) None outer a b is has some = cc (is)
member_bits types number index is_const (Some one) (Some spot) outer a b is has some =
    let same : record { spot = spot; type = one.type } ≡ outer = some_same _ outer is in
    let spot_is : spot ≡ outer.spot = ap (λ (p : CPart). p.spot) same in
    bit_fields_there types (ty (record_type number) is_const) outer.spot (with_const is_const one.type)
    (record { index = index; one = one; member_is = a; named = has; spot_is = b ∙ ap Some spot_is; type_is = refl }) some

element_bits : (element : CTy) (index : ℕ) (test : Bool) (found : Option Laid) (outer : CPart) → (if test then option_map (λ (laid : Laid). record { spot = record { byte = index * laid.size; bit = 0; width = 0 }; type = element }) found else None) ≡ Some outer →
    outer.spot.width ≡ 0
element_bits element index false found outer is = cc (is)
element_bits element index true found outer is = let inner = map_found _ found outer is in ap (λ (p : CPart). p.spot.width) (sym inner.2)

direct_bits : (types : CTypes) (form : CTyForm) (index : ℕ) (is_const : Bool) (outer : CPart) → direct_part types index form ≡ Some outer → has_name (member_of types form index) ≡ true → (outer.spot.width ≡ 0 → ⊥) → has_bit_fields types ≡ true
direct_bits types (array element length) index is_const outer direct has some = absurd (some (element_bits element index _ (extent (layouts_of types) element) outer direct))
direct_bits types (record_type number) index is_const outer direct has some =
    member_bits types number index is_const (member_of types (record_type number) index) (spot_of types (record_type number) index) outer refl refl direct has some
direct_bits types void index is_const outer direct has some = cc (direct)
direct_bits types (basic which) index is_const outer direct has some = cc (direct)
direct_bits types (enum_type number) index is_const outer direct has some = cc (direct)
direct_bits types (pointer to) index is_const outer direct has some = cc (direct)
direct_bits types (function result params variadic) index is_const outer direct has some = cc (direct)

-- where a part of an object is a bit-field the program has one
pub part_bits : (types : CTypes) (path : List ℕ) (holder : CTy) (part : CPart) → part_at types path holder ≡ Some part → is_named_path types path holder ≡ true → (part.spot.width ≡ 0 → ⊥) → has_bit_fields types ≡ true
part_bits types [] holder part leads named some =
    let whole : record { spot = record { byte = 0; bit = 0; width = 0 }; type = holder } ≡ part = some_same _ part leads in absurd (some (ap (λ (p : CPart). p.spot.width) (sym whole)))
part_bits types (index ∷ path) (ty form is_const) part leads named some =
    let outer = then_found (λ outer. option_map (within outer) (part_at types path outer.type)) (direct_part types index form) part leads in
    let inner = map_found (within outer.0) (part_at types path outer.0.type) part outer.2 in
    let names_are = and_parts (has_name (member_of types form index)) (path_behind (direct_part types index form)) named in
    let rest : is_named_path types path outer.0.type ≡ true = sym (ap path_behind outer.1) ∙ names_are.1 in
    by outer.0.spot.width outer.0 inner.0 refl outer.1 names_are.0 (λ none. some (ap (λ (p : CPart). p.spot.width) (sym inner.2) ∙ none)) (λ wide. part_bits types path outer.0.type inner.0 inner.1 rest wide)
  where
    path_behind : Option CPart → Bool
    path_behind None = true
    path_behind (Some one) = is_named_path types path one.type

    by : (width : ℕ) (outer inner : CPart) → outer.spot.width ≡ width → direct_part types index form ≡ Some outer → has_name (member_of types form index) ≡ true → (outer.spot.width + inner.spot.width ≡ 0 → ⊥) →
        ((inner.spot.width ≡ 0 → ⊥) → has_bit_fields types ≡ true) → has_bit_fields types ≡ true
    by zero outer inner e direct has wide deeper = deeper (λ none. wide (omega (arith, e, none)))
    by (suc n) outer inner e direct has wide deeper = direct_bits types form index is_const outer direct has (λ none. omega (arith, e, none))

-- ---- all puts

whole_width : (width : ℕ) → width ≡ 0 → nat_lt 0 width ≡ false
whole_width width none = grind (arith, nat_tests, none)

some_width : (width : ℕ) → 0 < width → nat_lt 0 width ≡ true
some_width width some = grind (arith, nat_tests, some)

module _ (x : Around) where
  -- a value that is given is stored in a part of an object in both
  pub put_both : (images : Images) (c_world world : World) (type : CTy) (number : ℕ) (spot : CSpot) (part : CTy) (value : CExpr) (given : Given) (operand : COperand) (made : CStored) → At x images c_world world →
      ((c_later later : World) → At x images c_later later → IsLiteralAlive x.home (scope x) (blocks_of c_later) type number) → IsPutOf x.home.program.types type spot part (type_of value) →
      GivesOperand x.s x.names images x.c_frame x.frame world value given operand.value → (0 < spot.width → IsGivenMeanwhile x images c_world world value given operand.value) →
      put_stored (setting_in x.s) (scope x) (blocks_of c_world) number spot part operand ≡ Ok made →
      PutBoth x images c_world world (stores (part_target x.names type (object_at x.names type number) spot part) (stored_value (part_target x.names type (object_at x.names type number) spot part) given)) made.blocks
  put_both images c_world world type number spot part value given operand made here lives is gave meanwhile e = by spot.width refl
    where
      there : IsLiteralAlive x.home (scope x) (blocks_of c_world) type number
      there = lives c_world world here

      at : Ptr
      at = there.alive.at

      p : RustPlace
      p = object_at x.names type number

      stored_it : stored (setting_in x.s) (scope x) (blocks_of c_world) part (c_part_place at spot) operand.value operand.marks ≡ Ok made
      stored_it = stored_there x (blocks_of c_world) type number spot part operand made there e

      placed : IsPlaced x.home.program.types there.alive.laid.size (record { spot = spot; type = part })
      placed = placed_inside x.home.program.types type part spot there.alive.laid here.typed.scene.linked.types is.part there.laid_is

      most : there.alive.laid.size ≤ most_bytes
      most = let sizes = here.typed.scene.memory.objects.sizes at.block there.alive.block there.alive.live in let size = there.alive.size in omega (arith, sizes, size)

      Put : Target → Type 0
      Put to = PutBoth x images c_world world (stores to (stored_value to given)) made.blocks

      whole_by : (one : CTy) → one ≡ part → (is_it : Bool) → is_record one ≡ is_it → spot.byte < there.alive.laid.size → stored (setting_in x.s) (scope x) (blocks_of c_world) one (designates (Object (behind at spot.byte))) operand.value operand.marks ≡ Ok made →
          Put (whole_target x.names one (part_place x.names type p spot.byte (type_in x.names one)))
      whole_by (ty form is_const) same true record_is less stores_it =
          subst (λ (test : Bool). Put (if test then a_structure (part_place x.names type p spot.byte (type_in x.names (ty form is_const))) (type_in x.names (ty form is_const)) (x.names.size_of (ty form is_const)) else a_scalar (part_place x.names type p spot.byte (type_in x.names (ty form is_const))) (type_in x.names (ty form is_const)))) (sym record_is)
          (record_put x images c_world world form is_const (part_place x.names type p spot.byte (type_in x.names (ty form is_const))) (behind at spot.byte) value given operand.value operand.marks made here record_is
          (part_lvalue x images c_world world type number spot (ty form is_const) here there less) gave stores_it)
      whole_by (ty form is_const) same false record_is less stores_it =
          subst (λ (test : Bool). Put (if test then a_structure (part_place x.names type p spot.byte (type_in x.names (ty form is_const))) (type_in x.names (ty form is_const)) (x.names.size_of (ty form is_const)) else a_scalar (part_place x.names type p spot.byte (type_in x.names (ty form is_const))) (type_in x.names (ty form is_const)))) (sym record_is)
          (scalar_put x images c_world world form is_const (part_place x.names type p spot.byte (type_in x.names (ty form is_const))) (behind at spot.byte) value given operand.value operand.marks made here record_is
          (part_lvalue x images c_world world type number spot (ty form is_const) here there less) gave stores_it)

      by : (width : ℕ) → spot.width ≡ width → Put (part_target x.names type p spot part)
      by zero none =
          let own = placed.laid in
          let ends : spot.byte + own.size ≤ there.alive.laid.size = placed.inside.ends none own (extent_whole (layouts_of x.home.program.types) part own placed.sized) in
          let some = complete_has_byte x.home.program.types part own here.typed.scene.linked.types placed.sized in
          let stores_it = subst (λ (to : CValue). stored (setting_in x.s) (scope x) (blocks_of c_world) part to operand.value operand.marks ≡ Ok made) (part_is x (behind at spot.byte) spot.bit spot.width none) stored_it in
          subst (λ (test : Bool). Put (if test then a_field (address_of p) spot (type_in x.names part) else whole_target x.names part (part_place x.names type p spot.byte (type_in x.names part)))) (sym (whole_width spot.width none))
          (whole_by part refl (is_record part) refl (omega (arith, ends, some)) stores_it)
      by (suc n) wide =
          let some : 0 < spot.width = omega (arith, wide) in
          let not_none : spot.width ≡ 0 → ⊥ = λ none. omega (arith, some, none) in
          let field = placed.inside.of_bits not_none in
          let stores_it = subst (λ (to : CValue). stored (setting_in x.s) (scope x) (blocks_of c_world) part to operand.value operand.marks ≡ Ok made) (bits_are x (behind at spot.byte) spot.bit spot.width some) stored_it in
          let in_bytes : images.in_bytes ≡ true =
          here.program.bytes ∙ subst (λ (program : CProgram). has_bit_fields program.types ≡ true) x.means.program (part_bits x.home.program.types is.part.path type (record { spot = spot; type = part }) is.part.leads is.part.named not_none) in
          let near : at.offset + spot.byte ≤ most_bytes = let ends = field.ends in let first = there.begins in let whole = most in omega (arith, ends, first, whole) in
          subst (λ (test : Bool). Put (if test then a_field (address_of p) spot (type_in x.names part) else whole_target x.names part (part_place x.names type p spot.byte (type_in x.names part)))) (sym (some_width spot.width some))
          (bits_put x images c_world world type number spot part at value given operand.value operand.marks made here (λ c_later later at_later. (lives c_later later at_later, same_place (lives c_later later at_later))) in_bytes near is.value_is gave (meanwhile some) stores_it)
        where
          same_place : {blocks : Blocks} → (one : IsLiteralAlive x.home (scope x) blocks type number) → one.alive.at ≡ at
          same_place one = let slots : Some one.alive.at ≡ Some at = sym one.at_is ∙ there.at_is in cc (slots)
