-- Assignments of structures and unions (ISO C99, 6.5.16.1; `core::ptr::copy`).
use Rattle.std.proofs.Common.{◌≡◌, inl, inr, ℕ, suc, ◌≤◌, Bool, true, false, List, [], ◌∷◌, length, Option, Some, None, Ok, refl, sym, ap, subst, ◌∙◌, arith}
use Rattle.cr_base.specs.declared.layout.Laid.{Laid}
use Rattle.cr_base.specs.declared.refusal.Place.{Place}
use Rattle.cr_runs.specs.Runs.{came}
use Rattle.cr_world.specs.Held.{with_blocks}
use Rattle.cr_world.specs.World.{World, blocks_of, with_memory, with_held}
use Rattle.cx_core.specs.Trees.{CTy, ty, CTyForm, CExpr, expr, member, assign, type_of}
use Rattle.cx_core.specs.Typing.{IsTyped, is_bit_field}
use Rattle.cx_mean.specs.Accesses.{CKind, of_scalar, of_record, kind_of, CStored, stored, stored_kind, stored_record, cells_in}
use Rattle.cx_mean.specs.Leftmost.{gives_operand, c_done}
use Rattle.cx_mean.specs.Marks.{Marks, any_overlap}
use Rattle.cx_mean.specs.Nodes.{CDone, done, node_done}
use Rattle.cx_mean.specs.Operands.{CValue, scalar, cells, names, designates, designates_bits, missing, COperand, place_in}
use Rattle.cx_typed_work.proofs.Given.{value_given, place_given}
use Rattle.lift_calls.specs.Programs.{setting_in}
use Rattle.lift_does.proofs.Around.{Around, scope, At, DidOf, OweAs}
use Rattle.lift_does.proofs.Assignments.{stored_is, target_lvalue, pair_of, both_give, later_of_temporary}
use Rattle.lift_does.proofs.Binary.{before_fixed}
use Rattle.lift_does.proofs.Copies.{copy_comes}
use Rattle.lift_does.proofs.Loads.{IsNoField, no_field, IsRecordKind, of_record_kind, of_scalar_kind, field_test}
use Rattle.lift_does.proofs.Nodes.{and_then_is, PartOwes, two_owes}
use Rattle.lift_does.proofs.Operands.{node_two, lvalue_given}
use Rattle.lift_does.proofs.Places.{pointer_below}
use Rattle.lift_does.proofs.Reaching.{same_local, reached_then, later_itself}
use Rattle.lift_does.proofs.Records.{record_taken}
use Rattle.lift_does.proofs.Runs.{run_one, run_behind, step_owes, end_owes, same_events}
use Rattle.lift_does.proofs.Unary.{form_fixed, ExprOwes, FormOwes}
use Rattle.lift_does.specs.Does.{is_fixed}
use Rattle.lift_does.specs.Gives.{GivesLvalue, GivesRecord, GivesOperand}
use Rattle.lift_does.specs.Later.{TemporariesStay}
use Rattle.lift_exprs.specs.Names.{Names, type_in}
use Rattle.lift_exprs.specs.Stores.{Target, a_structure, target_of, stored as stored_as_written, held_store, plain_store, stored_value}
use Rattle.lift_exprs.specs.Written.{in_turn, temporary_place, place_of_given, address_of_given, copied}
use Rattle.lift_forms.specs.Given.{Given, address_of}
use Rattle.lift_forms.specs.Given as given_form
use Rattle.lift_forms_laws.proofs.Constants.{addresses}
use Rattle.lift_forms_laws.specs.Gives.{GivesAt}
use Rattle.lift_held.specs.Held.{operand, operand_before, holds_call, is_record}
use Rattle.lift_held.specs.declared.asked.Asked.{Asked}
use Rattle.lift_stands.proofs.Kept.{both_keep}
use Rattle.lift_stands.specs.Stands.{Images, PlaceHolds}
use Rattle.lift_stands_accesses.proofs.Stores.{record_stored}
use Rattle.lift_stands_accesses.specs.Objects.{LeftStanding}
use Rattle.lift_stands_lives.proofs.Begun.{worlds_held}
use Rattle.lift_stands_values.specs.Given.{align_in}
use Rattle.mem_bytes.proofs.Slots.{live_within}
use Rattle.mem_bytes.specs.Memory.{Blocks}
use Rattle.mem_bytes.specs.declared.cell.Cell.{Cell}
use Rattle.mem_bytes.specs.declared.value.Ptr.{Ptr}
use Rattle.mem_bytes.specs.declared.value.Value.{Value}
use Rattle.mem_bytes.specs.declared.value.Value.TheVariants.{Object}
use Rattle.rs_mean.specs.Run.{normal, run_stmt, run_stmts}
use Rattle.rs_text.specs.Tree.{Ty, Pointer, Expr, AddressOf, stmts}

-- ---- what C stored

cells_are : (size : ℕ) (value : CValue) (list : List Cell) → cells_in size value ≡ Ok list → (held : List Cell) × (from : Option Ptr) × (value ≡ cells held from)
cells_are size (cells held from) list e = (held, from, refl)
cells_are size missing list e = cc (e)
cells_are size (scalar value) list e = cc (e)
cells_are size (names number) list e = cc (e)
cells_are size (designates to) list e = cc (e)
cells_are size (designates_bits at bit width) list e = cc (e)

-- ---- what is written

pub target_record : (names_of : Names) (type : CTy) (to : CExpr) (given : Given) → is_bit_field to ≡ false → is_record type ≡ true → target_of names_of type to given ≡ a_structure (place_of_given given) (type_in names_of type) (names_of.size_of type)
target_record names_of type (expr own at (member of spot)) given plainly is = rw (field_test spot.width plainly, is) refl
target_record names_of type (expr own at form) given plainly is = rw is refl

-- a copy of a structure or union in both: what the crate has behind it
pub record CopiedBoth (x : Around) (images : Images) (c_world world : World) (source target : Expr) (size : ℕ) (made : Blocks) : Type 0 where
  pub beyond : Blocks
  pub comes : (units : ℕ) → run_stmt x.frame (copied source target size) world units ≡ came normal (with_held (with_blocks beyond world.held) world) units
  pub left : LeftStanding images c_world.held world.held made beyond

module _ (x : Around) where
  -- a store leaves temporaries as they are
  pub temporaries_beside : (below : ℕ) (images : Images) (c_world world : World) (made beyond : Blocks) → At x images c_world world → LeftStanding images c_world.held world.held made beyond →
      TemporariesStay x.kept x.frame below world (with_held (with_blocks beyond world.held) world)
  temporaries_beside below images c_world world made beyond at left = λ number one local p kept_is is_local.
      let agrees = at.frames.temporaries number one kept_is in
      let lives = at.frames.lives local is_local.among in
      let same : agrees.local.block ≡ local.block = same_local x.frame one.name agrees.local local agrees.is_local is_local in
      (left.keeps (length (blocks_of world)) (λ _. false)).vacant local.block (live_within (blocks_of world) local.block lives.block lives.live)
      (λ block living e. agrees.no_image block (e ∙ ap Some (sym same))) refl

  -- what a place holds is copied where C stores it
  pub copies_both : (images : Images) (c_world world : World) (one : Ty) (given : Given) (source : Expr) (from : Ty) (of : Value) (room : ℕ) (laid : Laid) (at : Ptr) (list : List Cell) (where_from : Option Ptr) (marks : Marks) (made : CStored) →
      At x images c_world world → GivesLvalue images x.frame world one given (Object at) → GivesAt x.frame world source (Pointer from) of → PlaceHolds images (blocks_of world) room of list →
      stored_record (blocks_of c_world) at marks (cells list where_from) laid ≡ Ok made →
      CopiedBoth x images c_world world source (address_of (place_of_given given)) laid.size made.blocks × (made.value ≡ cells list None)
  copies_both images c_world world one given source from of room laid at list where_from marks made here place_gave gives holds stores =
      let pointer_is = pointer_below images at place_gave.spot.at place_gave.below in
      let is = record_stored images c_world.held world.held at pointer_is.to marks made here.worlds.held pointer_is.below holds.at laid room list where_from
      (subst (λ (v : Value). PlaceHolds images (blocks_of world) room v list) holds.value_is holds) stores in
      let target = subst (GivesAt x.frame world (address_of (place_of_given given)) (Pointer one)) pointer_is.is (addresses x.frame world one (place_of_given given) place_gave.spot place_gave.gives place_gave.ty_is) in (
        record {
          beyond = is.beyond;
          comes = λ units. copy_comes x source (address_of (place_of_given given)) from one holds.at pointer_is.to laid.size world is.beyond units (subst (GivesAt x.frame world source (Pointer from)) holds.value_is gives) target is.done;
          left = is.left;
        },
        is.is,
      )

  record StoredRecordIs (type : CTy) (one other : COperand) (c2 : World) (made : CDone) : Type 0 where
    laid : Laid
    kind_is : IsRecordKind (setting_in x.s) type laid
    at : Ptr
    place_is : place_in (scope x) one.value ≡ Ok (Object at)
    list : List Cell
    from : Option Ptr
    value_is : other.value ≡ cells list from
    marks : Marks
    found : CStored
    stores : stored_record (blocks_of c2) at marks (cells list from) laid ≡ Ok found
    apart : any_overlap one.marks.reads other.marks.writes ≡ false
    made_value : made.value ≡ found.value
    made_blocks : made.blocks ≡ found.blocks

  stored_record_is : (form : CTyForm) (is_const : Bool) (target value : CExpr) (one other : COperand) (c2 : World) (made : CDone) → IsNoField one.value → is_record (ty form is_const) ≡ true →
      node_done (setting_in x.s) (ty form is_const) (assign target value) (scope x) (blocks_of c2) (one ∷ other ∷ []) ≡ Ok made → StoredRecordIs (ty form is_const) one other c2 made
  stored_record_is form is_const target value one other c2 made plainly of_record_type e =
      let node = node_two (setting_in x.s) (ty form is_const) (assign target value) (scope x) (blocks_of c2) one other made e in
      let found = and_then_is (stored (setting_in x.s) (scope x) (blocks_of c2) (ty form is_const) one.value other.value node.0) _ made node.2 in
      let same : done found.0.value found.0.marks found.0.blocks ≡ made = cc (found.2) in
      let is = stored_is (setting_in x.s) (scope x) (blocks_of c2) (ty form is_const) one.value other.value node.0 found.0 plainly found.1 in
      by is.kind is.kind_is is.at is.place_is node.0 found.0 node.1.apart is.stores (ap (λ (d : CDone). d.value) (sym same)) (ap (λ (d : CDone). d.blocks) (sym same))
    where
      by : (kind : CKind) → kind_of (setting_in x.s) (ty form is_const) ≡ Ok kind → (at : Ptr) → place_in (scope x) one.value ≡ Ok (Object at) → (marks : Marks) (found : CStored) → any_overlap one.marks.reads other.marks.writes ≡ false →
          stored_kind (blocks_of c2) at marks other.value kind ≡ Ok found → made.value ≡ found.value → made.blocks ≡ found.blocks → StoredRecordIs (ty form is_const) one other c2 made
      by (of_scalar kind) kind_is at place_is marks found apart stores value_is blocks_are =
          let clash : true ≡ false = sym of_record_type ∙ (of_scalar_kind (setting_in x.s) form is_const kind kind_is).no_record in cc (clash)
      by (of_record laid) kind_is at place_is marks found apart stores value_is blocks_are =
          let first = and_then_is (cells_in laid.size other.value) _ found stores in
          let list = cells_are laid.size other.value first.0 first.1 in
          record {
            laid = laid;
            kind_is = of_record_kind (setting_in x.s) form is_const laid kind_is;
            at = at;
            place_is = place_is;
            list = list.0;
            from = list.1;
            value_is = list.2;
            marks = marks;
            found = found;
            stores = subst (λ (v : CValue). stored_record (blocks_of c2) at marks v laid ≡ Ok found) list.2 stores;
            apart = apart;
            made_value = value_is;
            made_blocks = blocks_are;
          }

  record_given : (images : Images) (world : World) (part : CExpr) (given : Given) (of_c : CValue) (list : List Cell) (from : Option Ptr) → of_c ≡ cells list from → GivesOperand x.s x.names images x.c_frame x.frame world part given of_c →
      GivesRecord images x.frame world (type_in x.names (type_of part)) (align_in (setting_in x.s) (type_of part)) given list
  record_given images world part given of_c list from same gives = subst (λ (v : CValue). GivesOperand x.s x.names images x.c_frame x.frame world part given v) same gives

  -- ---- its value isn't used

  copy_plain : (fixed : Bool) (form : CTyForm) (is_const : Bool) (at : Place) (target value : CExpr) (from : ℕ) (images : Images) (c0 w0 : World) → At x images c0 w0 → IsTyped x.home (expr (ty form is_const) at (assign target value)) →
      is_bit_field target ≡ false → is_record (ty form is_const) ≡ true → from ≤ (pair_of x target value from).first.next → (pair_of x target value from).first.next ≤ (pair_of x target value from).second.next →
      ExprOwes x (operand_before (holds_call value)) target from images c0 w0 →
      ((later : Images) (c1 w1 : World) → At x later c1 w1 → ExprOwes x operand value (pair_of x target value from).first.next later c1 w1) →
      PartOwes x false fixed (expr (ty form is_const) at (assign target value))
      (plain_store (a_structure (place_of_given (pair_of x target value from).first.given) (type_in x.names (ty form is_const)) (x.names.size_of (ty form is_const))) (address_of_given (pair_of x target value from).second.given)
      (in_turn (pair_of x target value from) given_form.nothing)) from images c0 w0
  copy_plain fixed form is_const at target value from images c0 w0 here typed plainly of_record_type rises more owes others =
      let type = ty form is_const in
      let two = pair_of x target value from in
      let p = place_of_given two.first.given in
      let e = address_of_given two.second.given in
      let size = x.names.size_of type in
      let rest = copied e (address_of p) size ∷ [] in
      let Good = DidOf x false fixed (expr type at (assign target value)) (plain_store (a_structure p (type_in x.names type) size) e (in_turn two given_form.nothing)) from images c0 w0 in
      two_owes x Good (λ one other later. c_done at type later (node_done (setting_in x.s) type (assign target value) (scope x) (blocks_of later) (one ∷ other ∷ []))) rest true (before_fixed target value) target two.first
      true (is_fixed operand value) value two.second from images c0 w0 here (inr typed.1.0) (inl typed.1.1) owes others (λ one other mid last c1 w1 c2 w2 did.
      step_owes x Good at (node_done (setting_in x.s) type (assign target value) (scope x) (blocks_of c2) (one ∷ other ∷ [])) (λ made after. gives_operand type made.value made.marks (with_memory made.blocks after)) rest c2 w2
      (same_events last c2 w2 did.second_did.reached.at.worlds) (λ made is.
      let there = place_given x.home target one.value typed.1.0 did.first_did.knows_is.0.operand_is.given in
      let what = stored_record_is form is_const target value one other c2 made (no_field target one.value plainly there) of_record_type is in
      let reached = reached_then x from two.first.next two.second.next images mid last c0 w0 c1 w1 c2 w2 rises more here did.first_did.reached did.second_did.reached in
      let gave = both_give x target value from images mid last c0 w0 c1 w1 c2 w2 one other last c2 w2 did what.apart more (λ fixed_at reads. later_itself x last two.second.next fixed_at reads c2 w2 did.second_did.reached.at) in
      let place_gave = target_lvalue x last w2 type target two.first.given (Object what.at) typed.1.2.type_is (lvalue_given x last w2 target two.first.given one.value (Object what.at) what.place_is gave.0) in
      let value_gave = record_given last w2 value two.second.given other.value what.list what.from what.value_is gave.1 in
      let both = copies_both last c2 w2 (type_in x.names type) two.first.given e (type_in x.names (type_of value)) value_gave.at (align_in (setting_in x.s) (type_of value)) what.laid what.at what.list what.from what.marks what.found
      did.second_did.reached.at place_gave value_gave.gives value_gave.holds what.stores in
      let size_is : size ≡ what.laid.size = x.means.sizes type what.laid what.kind_is.laid_is in
      let after = with_held (with_blocks both.0.beyond w2.held) w2 in
      subst (λ (blocks : Blocks). OweAs x Good (came (record { type = type; value = made.value; marks = made.marks }) (with_memory blocks c2)) rest w2) (sym what.made_blocks)
      (end_owes x Good (record { type = type; value = made.value; marks = made.marks }) rest (with_memory what.found.blocks c2) w2 after
      (λ units. run_one x.frame (copied e (address_of p) size) w2 after units (subst (λ (n : ℕ). run_stmt x.frame (copied e (address_of p) n) w2 units ≡ came normal after units) (sym size_is) (both.0.comes units))) (record {
        flow_is = refl;
        later = last;
        own = reached.own;
        are_own = reached.are_own;
        keeps = both_keep (length (blocks_of w0)) reached.own images last last c0.held c2.held (with_blocks what.found.blocks c2.held) w0.held w2.held (with_blocks both.0.beyond w2.held) here.worlds.held.memories.mapped
            reached.at.worlds.held.memories.mapped reached.keeps (both.0.left.keeps (length (blocks_of w0)) reached.own);
        worlds = worlds_held last last c2 w2 (with_blocks what.found.blocks c2.held) (with_blocks both.0.beyond w2.held) did.second_did.reached.at.worlds both.0.left.stands;
        gives = λ end c_later later is_later. tt;
      }))))

  -- ---- and one whose value is used: it is held

  copy_held : (fixed : Bool) (form : CTyForm) (is_const : Bool) (at : Place) (target value : CExpr) (from : ℕ) (images : Images) (c0 w0 : World) → At x images c0 w0 → IsTyped x.home (expr (ty form is_const) at (assign target value)) →
      is_bit_field target ≡ false → is_record (ty form is_const) ≡ true → from ≤ (pair_of x target value from).first.next → (pair_of x target value from).first.next ≤ (pair_of x target value from).second.next →
      x.kept.temporaries (pair_of x target value from).second.next ≡ Some (record { name = x.names.temporary (pair_of x target value from).second.next; ty = type_in x.names (ty form is_const) }) →
      ExprOwes x (operand_before (holds_call value)) target from images c0 w0 →
      ((later : Images) (c1 w1 : World) → At x later c1 w1 → ExprOwes x operand value (pair_of x target value from).first.next later c1 w1) →
      PartOwes x true fixed (expr (ty form is_const) at (assign target value))
      (held_store x.names true (a_structure (place_of_given (pair_of x target value from).first.given) (type_in x.names (ty form is_const)) (x.names.size_of (ty form is_const))) (address_of_given (pair_of x target value from).second.given)
      (in_turn (pair_of x target value from) given_form.nothing)) from images c0 w0
  copy_held fixed form is_const at target value from images c0 w0 here typed plainly of_record_type rises more kept_is owes others =
      let type = ty form is_const in
      let two = pair_of x target value from in
      let p = place_of_given two.first.given in
      let e = address_of_given two.second.given in
      let size = x.names.size_of type in
      let temporary = temporary_place x.names two.second.next in
      let takes = copied e (AddressOf temporary) size in
      let stores_it = copied (AddressOf temporary) (address_of p) size in
      let rest = takes ∷ stores_it ∷ [] in
      let Good = DidOf x true fixed (expr type at (assign target value)) (held_store x.names true (a_structure p (type_in x.names type) size) e (in_turn two given_form.nothing)) from images c0 w0 in
      two_owes x Good (λ one other later. c_done at type later (node_done (setting_in x.s) type (assign target value) (scope x) (blocks_of later) (one ∷ other ∷ []))) rest true (before_fixed target value) target two.first
      true (is_fixed operand value) value two.second from images c0 w0 here (inr typed.1.0) (inl typed.1.1) owes others (λ one other mid last c1 w1 c2 w2 did.
      step_owes x Good at (node_done (setting_in x.s) type (assign target value) (scope x) (blocks_of c2) (one ∷ other ∷ [])) (λ made after. gives_operand type made.value made.marks (with_memory made.blocks after)) rest c2 w2
      (same_events last c2 w2 did.second_did.reached.at.worlds) (λ made is.
      let there = place_given x.home target one.value typed.1.0 did.first_did.knows_is.0.operand_is.given in
      let what = stored_record_is form is_const target value one other c2 made (no_field target one.value plainly there) of_record_type is in
      let reached = reached_then x from two.first.next two.second.next images mid last c0 w0 c1 w1 c2 w2 rises more here did.first_did.reached did.second_did.reached in
      let gave = both_give x target value from images mid last c0 w0 c1 w1 c2 w2 one other last c2 w2 did what.apart more (λ fixed_at reads. later_itself x last two.second.next fixed_at reads c2 w2 did.second_did.reached.at) in
      let value_is = value_given x.home value other.value typed.1.1 did.second_did.knows_is.0.operand_is.given in
      let same_type = typed.1.2.value_is in
      let taken = record_taken x value other.value two.second.given two.second.next last c2 w2 did.second_did.reached.at typed.1.1 (ap is_record same_type ∙ of_record_type) value_is
      (kept_is ∙ ap (λ (t : CTy). Some (record { name = x.names.temporary two.second.next; ty = type_in x.names t })) (sym same_type)) gave.1 in
      let w3 = taken.after in
      let again = both_give x target value from images mid last c0 w0 c1 w1 c2 w2 one other last c2 w3 did what.apart more (λ fixed_at reads. later_of_temporary x last two.second.next fixed_at reads c2 w2 w3 did.second_did.reached.at taken.reached) in
      let place_gave = target_lvalue x last w3 type target two.first.given (Object what.at) typed.1.2.type_is (lvalue_given x last w3 target two.first.given one.value (Object what.at) what.place_is again.0) in
      let held_gave = record_given last w3 value (given_form.value (AddressOf temporary)) other.value what.list what.from what.value_is
      (taken.gives last w3 (record { blocks = λ number image f. f; functions = refl; in_bytes = refl }) (λ number kept_one local q is_kept is_local. refl)) in
      let both = copies_both last c2 w3 (type_in x.names type) two.first.given (AddressOf temporary) (type_in x.names (type_of value)) held_gave.at (align_in (setting_in x.s) (type_of value)) what.laid what.at what.list what.from what.marks what.found
      taken.reached.at place_gave held_gave.gives held_gave.holds what.stores in
      let size_is : size ≡ what.laid.size = x.means.sizes type what.laid what.kind_is.laid_is in
      let after = with_held (with_blocks both.0.beyond w3.held) w3 in
      let reached3 = reached_then x from two.second.next (suc two.second.next) images last last c0 w0 c2 w2 c2 w3 (omega (arith, rises, more)) (omega arith) here reached taken.reached in
      let stay = temporaries_beside (suc two.second.next) last c2 w3 what.found.blocks both.0.beyond taken.reached.at both.0.left in
      subst (λ (blocks : Blocks). OweAs x Good (came (record { type = type; value = made.value; marks = made.marks }) (with_memory blocks c2)) rest w2) (sym what.made_blocks)
      (end_owes x Good (record { type = type; value = made.value; marks = made.marks }) rest (with_memory what.found.blocks c2) w2 after
      (λ units. run_behind x.frame (takes ∷ []) (stores_it ∷ []) w2 w3 units
      (subst (λ (n : ℕ). run_stmts x.frame (stmts (copied e (AddressOf temporary) n ∷ [])) w2 units ≡ came normal w3 units) (ap x.names.size_of same_type) (taken.comes units))
      ∙ run_one x.frame stores_it w3 after units (subst (λ (n : ℕ). run_stmt x.frame (copied (AddressOf temporary) (address_of p) n) w3 units ≡ came normal after units) (sym size_is) (both.0.comes units))) (record {
        flow_is = refl;
        later = last;
        own = reached3.own;
        are_own = reached3.are_own;
        keeps = both_keep (length (blocks_of w0)) reached3.own images last last c0.held c2.held (with_blocks what.found.blocks c2.held) w0.held w3.held (with_blocks both.0.beyond w3.held) here.worlds.held.memories.mapped
            reached3.at.worlds.held.memories.mapped reached3.keeps (both.0.left.keeps (length (blocks_of w0)) reached3.own);
        worlds = worlds_held last last c2 w3 (with_blocks what.found.blocks c2.held) (with_blocks both.0.beyond w3.held) reached3.at.worlds both.0.left.stands;
        gives = λ end c_later later is_later.
            let later_gave = record_given end later value (given_form.value (AddressOf temporary)) other.value what.list what.from what.value_is
            (taken.gives end later is_later.extends (λ number kept_one local q is_kept is_local. is_later.temporaries number kept_one local q is_kept is_local ∙ stay number kept_one local q is_kept is_local)) in
            subst (λ (v : CValue). GivesOperand x.s x.names end x.c_frame x.frame later (expr type at (assign target value)) (given_form.value (AddressOf temporary)) v) (sym (what.made_value ∙ both.1))
            (subst (λ (t : CTy). GivesRecord end x.frame later (type_in x.names t) (align_in (setting_in x.s) t) (given_form.value (AddressOf temporary)) what.list) same_type later_gave);
      }))))

  -- ---- an assignment of a structure or union

  stored_owes : (used fixed : Bool) (form : CTyForm) (is_const : Bool) (at : Place) (target value : CExpr) (from : ℕ) (images : Images) (c0 w0 : World) → At x images c0 w0 → IsTyped x.home (expr (ty form is_const) at (assign target value)) →
      is_bit_field target ≡ false → is_record (ty form is_const) ≡ true → from ≤ (pair_of x target value from).first.next → (pair_of x target value from).first.next ≤ (pair_of x target value from).second.next →
      (used ≡ true → x.kept.temporaries (pair_of x target value from).second.next ≡ Some (record { name = x.names.temporary (pair_of x target value from).second.next; ty = type_in x.names (ty form is_const) })) →
      ExprOwes x (operand_before (holds_call value)) target from images c0 w0 →
      ((later : Images) (c1 w1 : World) → At x later c1 w1 → ExprOwes x operand value (pair_of x target value from).first.next later c1 w1) →
      PartOwes x used fixed (expr (ty form is_const) at (assign target value))
      (stored_as_written x.names used (a_structure (place_of_given (pair_of x target value from).first.given) (type_in x.names (ty form is_const)) (x.names.size_of (ty form is_const)))
      (address_of_given (pair_of x target value from).second.given) (in_turn (pair_of x target value from) given_form.nothing)) from images c0 w0
  stored_owes true fixed form is_const at target value from images c0 w0 here typed plainly of_record_type rises more kept_is owes others =
      copy_held fixed form is_const at target value from images c0 w0 here typed plainly of_record_type rises more (kept_is refl) owes others
  stored_owes false fixed form is_const at target value from images c0 w0 here typed plainly of_record_type rises more kept_is owes others =
      copy_plain fixed form is_const at target value from images c0 w0 here typed plainly of_record_type rises more owes others

  pub assign_record_owes : (asked : Asked) (form : CTyForm) (is_const : Bool) (at : Place) (target value : CExpr) (from : ℕ) (images : Images) (c0 w0 : World) → At x images c0 w0 → IsTyped x.home (expr (ty form is_const) at (assign target value)) →
      is_bit_field target ≡ false → is_record (ty form is_const) ≡ true → from ≤ (pair_of x target value from).first.next → (pair_of x target value from).first.next ≤ (pair_of x target value from).second.next →
      (asked.used ≡ true → x.kept.temporaries (pair_of x target value from).second.next ≡ Some (record { name = x.names.temporary (pair_of x target value from).second.next; ty = type_in x.names (ty form is_const) })) →
      ExprOwes x (operand_before (holds_call value)) target from images c0 w0 →
      ((later : Images) (c1 w1 : World) → At x later c1 w1 → ExprOwes x operand value (pair_of x target value from).first.next later c1 w1) →
      FormOwes x asked (ty form is_const) at (assign target value) from images c0 w0
  assign_record_owes asked form is_const at target value from images c0 w0 here typed plainly of_record_type rises more kept_is owes others =
      subst (λ (to : Target). PartOwes x asked.used (form_fixed (ty form is_const) (assign target value)) (expr (ty form is_const) at (assign target value))
      (stored_as_written x.names asked.used to (stored_value to (pair_of x target value from).second.given) (in_turn (pair_of x target value from) given_form.nothing)) from images c0 w0)
      (sym (target_record x.names (ty form is_const) target (pair_of x target value from).first.given plainly of_record_type))
      (stored_owes asked.used (form_fixed (ty form is_const) (assign target value)) form is_const at target value from images c0 w0 here typed plainly of_record_type rises more kept_is owes others)
