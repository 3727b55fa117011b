-- Members of places.
use Rattle.std.proofs.Common.{◌≡◌, ℕ, ◌≤◌, ◌%◌, ◌==◌, nat_le, Bool, true, pos, List, Some, Ok, Err, sym, ap, ◌∙◌, arith, if◌then◌else◌}
use Rattle.std.proofs.lemmas.Bool.{and_parts, and_from, leb-true, le-leb}
use Rattle.cr_base.specs.declared.layout.Laid.{Laid}
use Rattle.cr_base.specs.declared.layout.Spot.{Spot}
use Rattle.cr_base.specs.declared.rule.URule.TheVariants.{U11}
use Rattle.cr_runs.specs.Runs.{came}
use Rattle.cr_world.specs.World.{World}
use Rattle.cx_mean.specs.Accesses.{object_at}
use Rattle.cx_mean.specs.Initialisers.{part_with}
use Rattle.cx_mean.specs.Nodes.{aligned_place, member_at, member_of_place}
use Rattle.cx_mean.specs.Operands.{accessed, by_pointers, CValue}
use Rattle.lift_stands.specs.Stands.{Images, ValueBelow, BlockBelow, StandsFor}
use Rattle.lift_stands.proofs.Forms.{object_below}
use Rattle.lift_stands.proofs.Loads.{block_there, read_live}
use Rattle.lift_stands_accesses.proofs.Results.{accessed_ok}
use Rattle.lift_stands_pointers.proofs.Pointers.{moved_stands}
use Rattle.lift_stands_values.specs.Members.{MemberBelow}
use Rattle.lift_stands_values.proofs.Results.{pointers_ok, if_ok}
use Rattle.mem_bytes.specs.Access.{and_then, is_record_aligned}
use Rattle.mem_bytes.specs.Memory.{Block, Blocks, live_block}
use Rattle.mem_bytes.specs.Pointers.{place_moved, moved}
use Rattle.mem_bytes.specs.declared.fault.Fault.TheVariants.{Misaligned}
use Rattle.mem_bytes.specs.declared.value.Ptr.{Ptr}
use Rattle.mem_bytes.specs.declared.value.Value.{Value}
use Rattle.mem_bytes.specs.declared.value.Value.TheVariants.{Whole as Number, Null, Object, Code}
use Rattle.mem_bytes.proofs.Reached.{and_then_ok}
use Rattle.rs_mean.specs.Calls.{based, in_block, may_stand}
use Rattle.rs_mean.specs.Layout.{FieldPlace, laid_at}
use Rattle.rs_mean.specs.Run.{is_base, moved_to, field_spot}
use Rattle.rs_mean.specs.World.{local, or_cause, cause_of_pointer, kept, after_step}
use Rattle.rs_text.specs.Tree.{Record, ModuleTree}

-- what may stand at an offset of a block may stand there in one that it is below
aligned_there : (images : Images) (block other : Block) (below : BlockBelow images block other) (offset there align : ℕ) → there ≡ offset → is_record_aligned align block offset ≡ true → is_record_aligned align other there ≡ true
aligned_there images block other below offset there align same e =
    let parts = and_parts (offset % align == 0) (nat_le align block.align) e in
    let wide : align ≤ block.align = leb-true align block.align parts.1 in
    and_from (there % align == 0) (nat_le align other.align) (ap (λ n. n % align == 0) same ∙ parts.0) (le-leb align other.align (omega (arith, wide, below.align)))

module _ (images : Images) (memory others : Blocks) (spot : Spot) (align : ℕ) (value : CValue) (stands : StandsFor images memory others) where
  member_of_object : (at : Ptr) (there : Value) → ValueBelow images (Object at) there → member_at memory spot align at ≡ Ok value → MemberBelow images others align there spot value
  member_of_object at there below e =
      let to = object_below images at there below in
      let first = and_then_ok (by_pointers U11 (place_moved memory at (pos spot.byte))) (λ new. and_then (accessed (aligned_place memory align at)) (λ _. Ok (part_with new spot.bit spot.width))) value e in
      let second = and_then_ok (accessed (aligned_place memory align at)) (λ _. Ok (part_with first.0 spot.bit spot.width)) value first.2 in
      let found = pointers_ok U11 (place_moved memory at (pos spot.byte)) first.0 first.1 in
      let moves = moved_stands images memory others (Object at) there (Object first.0) (pos spot.byte) stands below (ap (λ r. and_then r (λ new. Ok (Object new))) found) in
      let new = object_below images first.0 moves.other moves.below in
      let read = read_live (live_block memory at.block) (λ block. if is_record_aligned align block at.offset then Ok at else Err Misaligned) second.0 (accessed_ok (aligned_place memory align at) second.0 second.1) in
      let fits = if_ok (is_record_aligned align read.0 at.offset) (Ok at) Misaligned second.0 read.2 in
      let beside = block_there images memory others at to.0 read.0 stands to.2 read.1 in
      let same : part_with first.0 spot.bit spot.width ≡ value = cc (second.2) in
      record {
        at = first.0;
        is = sym same;
        to = new.0;
        moves = moves.is ∙ ap Ok new.1;
        below = new.2;
        based = λ size.
            ap (may_stand others (Some (record { size = size; align = align }))) to.1
            ∙ ap (in_block align to.0.offset) beside.live
            ∙ aligned_there images read.0 beside.other beside.below at.offset to.0.offset align to.2.offset fits.0;
      }

  member_by : (here there : Value) → ValueBelow images here there → and_then (object_at here) (member_at memory spot align) ≡ Ok value → MemberBelow images others align there spot value
  member_by (Object at) there below e = member_of_object at there below e
  member_by Null there below e = cc
  member_by (Number number) there below e = cc
  member_by (Code number) there below e = cc

pub member_below : (images : Images) (memory others : Blocks) (here there : Value) (spot : Spot) (laid : Laid) (value : CValue) → StandsFor images memory others → ValueBelow images here there → member_of_place memory spot (Some laid) (Ok here) ≡ Ok value → MemberBelow images others laid.align there spot value
member_below images memory others here there spot laid value stands below e = member_by images memory others spot laid.align value stands here there below e

pub field_found : (images : Images) (align : ℕ) (there : Value) (spot : Spot) (value : CValue) (field : FieldPlace) (is_based : Bool) (world : World) (units : ℕ) (member : MemberBelow images world.held.blocks align there spot value) → field.byte ≡ spot.byte → field_spot is_based there (Some field) world units ≡ came (based is_based field.ty (Object member.to)) world units
unfolding local
field_found images align there spot value field is_based world units member same =
    let found : moved world.held.blocks there (pos field.byte) ≡ Ok (Object member.to) = ap (λ n. moved world.held.blocks there (pos n)) same ∙ member.moves in
    ap (λ r. after_step world units (kept world.held (moved_to is_based field.ty (or_cause cause_of_pointer r)))) found

pub base_found : (images : Images) (others : Blocks) (there : Value) (spot : Spot) (value : CValue) (modules : List ModuleTree) (m x : List ℕ) (laid : Laid) → laid_at modules m x ≡ Some laid → MemberBelow images others laid.align there spot value → is_base modules others (Record m x) there ≡ true
base_found images others there spot value modules m x laid found member = ap (λ l. may_stand others l there) found ∙ member.based laid.size
