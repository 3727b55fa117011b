-- Values of structures and unions go to temporaries (the Rust Reference, "Type layout").
use Rattle.std.proofs.Common.{◌≡◌, inl, inr, ℕ, suc, Bool, true, false, List, [], ◌∷◌, length, Option, Some, Ok, refl, sym, ap, subst, ◌∙◌, arith}
use Rattle.cr_base.specs.declared.layout.Laid.{Laid}
use Rattle.cr_runs.specs.Runs.{came}
use Rattle.cr_world.specs.World.{World, blocks_of}
use Rattle.cx_core.specs.Trees.{CTy, ty, void, basic, enum_type, pointer, array, record_type, function, CExpr, type_of, CProgram}
use Rattle.cx_core.specs.Typing.{IsTyped}
use Rattle.cx_mean.specs.Operands.{CValue, scalar, cells, names, designates, designates_bits, missing}
use Rattle.cx_mean.specs.Settings.{setting_of, extent_in}
use Rattle.cx_typed_work.specs.Operands.{IsGiven}
use Rattle.lift_calls.specs.Programs.{setting_in}
use Rattle.lift_does.proofs.Around.{Around, At, runs}
use Rattle.lift_does.proofs.Copies.{copies_temporary, keeps_staying, kept_place, keeps_address, keeps_part, keeps_record, keeps_based}
use Rattle.lift_does.proofs.RecordTypes.{scalar_no_record, lack_complete, extent_there}
use Rattle.lift_does.proofs.Taken.{IsTaken}
use Rattle.lift_does.specs.Gives.{GivesMissing, GivesRoom, MissingAs, GivesOperand}
use Rattle.lift_exprs.specs.Names.{type_in}
use Rattle.lift_exprs.specs.Written.{temporary_place, address_of_given, copied}
use Rattle.lift_forms.specs.Given.{Given}
use Rattle.lift_forms.specs.Given as given_form
use Rattle.lift_forms_laws.specs.Gives.{GivesAt}
use Rattle.lift_held.specs.Held.{is_void, is_record}
use Rattle.lift_stands.proofs.Images.{cells_stay}
use Rattle.lift_stands.proofs.Loads.{read_live}
use Rattle.lift_stands.specs.Stands.{Images}
use Rattle.lift_stands_lives.proofs.Copied.{part_found}
use Rattle.lift_stands_values.specs.Given.{align_or, align_in}
use Rattle.mem_bytes.specs.Access.{part_of, record_part_of, live_read, part_at, record_at}
use Rattle.mem_bytes.specs.Memory.{Block, Blocks, live_block}
use Rattle.mem_bytes.specs.declared.cell.Cell.{Cell}
use Rattle.mem_bytes.specs.declared.value.Ptr.{Ptr}
use Rattle.mem_bytes.specs.declared.value.Value.TheVariants.{Object}
use Rattle.rs_mean.specs.Run.{normal}
use Rattle.rs_text.specs.Tree.{Pointer, AddressOf}

-- what a place holds is a part
pub part_held : (blocks : Blocks) (at : Ptr) (size align : ℕ) (list : List Cell) → record_at blocks at size align ≡ Ok list → part_at blocks at size ≡ Ok list
part_held blocks at size align list e =
    let read = read_live (live_block blocks at.block) (λ block. record_part_of block at.offset size align) list e in
    ap (λ (slot : Option Block). live_read slot (λ block. part_of block at.offset size)) read.1 ∙ part_found read.0 at.offset size align list read.2

pub void_record : (type : CTy) → is_record type ≡ true → is_void type ≡ false
void_record (ty (record_type number) is_const) e = refl
void_record (ty void is_const) e = cc (e)
void_record (ty (basic which) is_const) e = refl
void_record (ty (enum_type number) is_const) e = refl
void_record (ty (pointer to) is_const) e = refl
void_record (ty (array element length) is_const) e = refl
void_record (ty (function result params variadic) is_const) e = refl

clash : (b : Bool) → b ≡ true → b ≡ false → ⊥
clash b one other = let both : true ≡ false = sym one ∙ other in cc (both)

module _ (x : Around) where
  pub record_there : (type : CTy) (laid : Laid) → extent_in (setting_of x.home.program) type ≡ Some laid → extent_in (setting_in x.s) type ≡ Some laid
  record_there type laid e = subst (λ (program : CProgram). extent_in (setting_of program) type ≡ Some laid) x.means.program e

  pub to_room : (world : World) (type : CTy) (given : Given) → is_record type ≡ true → GivesRoom x.frame world (type_in x.names type) (x.names.size_of type) given → GivesMissing x.names x.frame world type given
  to_room world type given is gives =
      subst (λ (v : Bool). MissingAs v (is_record type) x.frame world (type_in x.names type) (x.names.size_of type) given) (sym (void_record type is))
      (subst (λ (r : Bool). MissingAs false r x.frame world (type_in x.names type) (x.names.size_of type) given) (sym is) gives)

  of_room : (world : World) (type : CTy) (given : Given) → is_record type ≡ true → GivesMissing x.names x.frame world type given → GivesRoom x.frame world (type_in x.names type) (x.names.size_of type) given
  of_room world type given is gives =
      subst (λ (r : Bool). MissingAs false r x.frame world (type_in x.names type) (x.names.size_of type) given) is
      (subst (λ (v : Bool). MissingAs v (is_record type) x.frame world (type_in x.names type) (x.names.size_of type) given) (void_record type is) gives)

  -- a structure or union is copied to a temporary
  pub record_taken : (part : CExpr) (of_c : CValue) (given : Given) (number : ℕ) (images : Images) (c_world world : World) → At x images c_world world → IsTyped x.home part → is_record (type_of part) ≡ true → IsGiven x.home.program part of_c →
      x.kept.temporaries number ≡ Some (record { name = x.names.temporary number; ty = type_in x.names (type_of part) }) → GivesOperand x.s x.names images x.c_frame x.frame world part given of_c →
      IsTaken x part of_c (copied (address_of_given given) (AddressOf (temporary_place x.names number)) (x.names.size_of (type_of part))) (given_form.value (AddressOf (temporary_place x.names number))) number images c_world world
  record_taken part (scalar one) given number images c_world world at typed of_record (inl is) kept_is gave = absurd (clash (is_record (type_of part)) of_record (scalar_no_record x.home.program.types (type_of part) is.kind is.kind_is))
  record_taken part (scalar one) given number images c_world world at typed of_record (inr is) kept_is gave = absurd is.1
  record_taken part (names other) given number images c_world world at typed of_record (inl is) kept_is gave = absurd is
  record_taken part (names other) given number images c_world world at typed of_record (inr is) kept_is gave = absurd is.1
  record_taken part (designates to) given number images c_world world at typed of_record (inl is) kept_is gave = absurd is
  record_taken part (designates to) given number images c_world world at typed of_record (inr is) kept_is gave = absurd is.1
  record_taken part (designates_bits to bit width) given number images c_world world at typed of_record (inl is) kept_is gave = absurd is
  record_taken part (designates_bits to bit width) given number images c_world world at typed of_record (inr is) kept_is gave = absurd is.1
  record_taken part (cells list from) given number images c_world world at typed of_record (inr is) kept_is gave = absurd is.1
  record_taken part missing given number images c_world world at typed of_record (inl is) kept_is gave = absurd is
  record_taken part (cells list from) given number images c_world world at typed of_record (inl is) kept_is gave =
      let type = type_of part in
      let laid_is = record_there type is.laid is.laid_is in
      let holds = gave.holds in
      let source : GivesAt x.frame world (address_of_given given) (Pointer (type_in x.names type)) (Object holds.at) = subst (GivesAt x.frame world (address_of_given given) (Pointer (type_in x.names type))) holds.value_is gave.gives in
      let part_is : part_at (blocks_of world) holds.at is.laid.size ≡ Ok holds.cells =
      subst (λ (n : ℕ). part_at (blocks_of world) holds.at n ≡ Ok holds.cells) is.all (part_held (blocks_of world) holds.at (length list) (align_in (setting_in x.s) type) holds.cells holds.found) in
      let copies = copies_temporary x number (type_in x.names type) is.laid (address_of_given given) (type_in x.names type) holds.at holds.cells images c_world world at kept_is (x.means.laid type is.laid laid_is) source part_is in
      let size_is : x.names.size_of type ≡ is.laid.size = x.means.sizes type is.laid laid_is in
      record {
        after = copies.after;
        comes = λ units. subst (λ (n : ℕ). runs x (copied (address_of_given given) (AddressOf (temporary_place x.names number)) n ∷ []) world units ≡ came normal copies.after units) (sym size_is) (copies.comes units);
        reached = copies.reached;
        gives = λ last later extends stay.
            let kept_it = keeps_staying x number (suc number) (type_in x.names type) is.laid.size is.laid.align holds.cells copies.after later (omega arith) copies.holds stay in
            record {
              at = Object (kept_place x kept_it);
              gives = keeps_address x number (type_in x.names type) is.laid.size is.laid.align holds.cells later kept_it;
              holds = record {
                at = kept_place x kept_it;
                value_is = refl;
                cells = holds.cells;
                found = subst (λ (n : ℕ). record_at (blocks_of later) (kept_place x kept_it) n (align_in (setting_in x.s) type) ≡ Ok holds.cells) (sym is.all)
                    (subst (λ (a : ℕ). record_at (blocks_of later) (kept_place x kept_it) is.laid.size a ≡ Ok holds.cells) (sym (ap align_or laid_is))
                    (keeps_record x number (type_in x.names type) is.laid.size is.laid.align holds.cells later kept_it));
                held = holds.held;
                below = cells_stay images last list holds.cells extends holds.below;
              };
              based = keeps_based x number (type_in x.names type) is.laid.size is.laid.align holds.cells later kept_it;
              form = (_, refl);
            };
      }
  record_taken part missing given number images c_world world at typed of_record (inr is) kept_is gave =
      let type = type_of part in
      let laid = extent_there x type (lack_complete x.home part typed is.0 of_record) in
      let room = of_room world type given of_record gave in
      let size_is : x.names.size_of type ≡ laid.0.size = x.means.sizes type laid.0 laid.1 in
      let copies = copies_temporary x number (type_in x.names type) laid.0 (address_of_given given) (type_in x.names type) room.at room.list images c_world world at kept_is (x.means.laid type laid.0 laid.1) room.gives
      (subst (λ (n : ℕ). part_at (blocks_of world) room.at n ≡ Ok room.list) size_is room.there) in
      record {
        after = copies.after;
        comes = λ units. subst (λ (n : ℕ). runs x (copied (address_of_given given) (AddressOf (temporary_place x.names number)) n ∷ []) world units ≡ came normal copies.after units) (sym size_is) (copies.comes units);
        reached = copies.reached;
        gives = λ last later extends stay.
            let kept_it = keeps_staying x number (suc number) (type_in x.names type) laid.0.size laid.0.align room.list copies.after later (omega arith) copies.holds stay in
            to_room later type (given_form.value (AddressOf (temporary_place x.names number))) of_record (record {
              at = kept_place x kept_it;
              gives = keeps_address x number (type_in x.names type) laid.0.size laid.0.align room.list later kept_it;
              list = room.list;
              there = subst (λ (n : ℕ). part_at (blocks_of later) (kept_place x kept_it) n ≡ Ok room.list) (sym size_is) (keeps_part x number (type_in x.names type) laid.0.size laid.0.align room.list later kept_it);
            });
      }
