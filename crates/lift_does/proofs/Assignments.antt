-- Assignments of scalar values (ISO C99, 6.5.16.1).
use Rattle.std.proofs.Common.{◌≡◌, ◌⊎◌, inl, inr, ℕ, suc, ◌≤◌, Bool, true, false, List, [], ◌∷◌, length, Option, Some, Result, Ok, refl, sym, ap, subst, ◌∙◌, arith}
use Rattle.cr_base.specs.declared.refusal.Place.{Place}
use Rattle.cr_base.specs.declared.scalar.Scalar.{Scalar}
use Rattle.cr_base.specs.declared.scalar.Scalar.TheVariants as scalars
use Rattle.cr_runs.specs.Runs.{came}
use Rattle.cr_world.specs.Held.{with_blocks}
use Rattle.cr_world.specs.World.{World, blocks_of, with_held, with_memory}
use Rattle.cx_core.specs.Trees.{CTy, ty, CTyForm, unqualified, CExpr, expr, member, assign, type_of}
use Rattle.cx_core.specs.Typing.{IsTyped, is_bit_field}
use Rattle.cx_mean.specs.Accesses.{CKind, of_scalar, of_record, kind_of, object_at, CStored, stored_kind, stored_to, stored}
use Rattle.cx_mean.specs.Leftmost.{c_done, gives_operand}
use Rattle.cx_mean.specs.Marks.{Marks, Range, any_overlap}
use Rattle.cx_mean.specs.Nodes.{CDone, done, node_done}
use Rattle.cx_mean.specs.Operands.{CWhy, CValue, scalar, cells, names, designates, designates_bits, missing, COperand, Frame as CFrame, place_in, scalar_value}
use Rattle.cx_mean.specs.Settings.{CSetting}
use Rattle.cx_typed_work.proofs.Given.{place_given}
use Rattle.lift_calls.specs.Programs.{setting_in}
use Rattle.lift_does.proofs.Around.{Around, scope, At, LaterAt, DidOf, OweAs, Reached}
use Rattle.lift_does.proofs.Binary.{before_fixed, quiet_before}
use Rattle.lift_does.proofs.Lasting.{lasts_once}
use Rattle.lift_does.proofs.Loads.{IsNoField, no_field, place_at_object, IsScalarKind, of_scalar_kind, of_record_kind, field_test, same_unqualified}
use Rattle.lift_does.proofs.Nodes.{and_then_is, PartOwes, TwoDid, two_owes, two_last}
use Rattle.lift_does.proofs.Operands.{node_two, scalar_is, scalar_given, lvalue_given, other_based}
use Rattle.lift_does.proofs.Places.{pointer_below}
use Rattle.lift_does.proofs.Reaching.{same_local, reached_then, later_itself, later_then, temporaries_stay}
use Rattle.lift_does.proofs.Runs.{run_one, run_behind, step_owes, end_owes, same_events}
use Rattle.lift_does.proofs.Temporaries.{seq_comes, TemporaryHolds, stores_temporary, reads_temporary}
use Rattle.lift_does.proofs.Unary.{form_fixed, ExprOwes, FormOwes}
use Rattle.lift_does.specs.Does.{is_fixed}
use Rattle.lift_does.specs.Gives.{GivesLvalue, GivesOperand}
use Rattle.lift_exprs.specs.Lifted.{lifted}
use Rattle.lift_exprs.specs.Names.{Names, type_in}
use Rattle.lift_exprs.specs.Stores.{Target, a_scalar, target_of, stored_value, held_store, plain_store, stored as stored_as_written}
use Rattle.lift_exprs.specs.Written.{Both, in_turn, place_of_given, temporary_place}
use Rattle.lift_forms.specs.Given.{Given}
use Rattle.lift_forms.specs.Given as given_form
use Rattle.lift_forms.specs.Operators.{given_value}
use Rattle.lift_forms_laws.proofs.Operands.{value_gives}
use Rattle.lift_forms_laws.proofs.Runs.{seq_is}
use Rattle.lift_forms_laws.specs.Gives.{GivesAt, GivesPlace}
use Rattle.lift_held.specs.Held.{operand, operand_before, holds_call, is_record}
use Rattle.lift_held.specs.declared.asked.Asked.{Asked}
use Rattle.lift_stands.proofs.Images.{value_stays}
use Rattle.lift_stands.proofs.Kept.{both_keep}
use Rattle.lift_stands.specs.Stands.{Images, ValueBelow}
use Rattle.lift_stands_accesses.proofs.Stores.{scalar_stored}
use Rattle.lift_stands_accesses.proofs.Results.{where_true, kind_value}
use Rattle.lift_stands_values.proofs.Ranges.{given_in_range}
use Rattle.cx_mean.specs.Values.{is_of_kind, value_of_kind}
use Rattle.lift_stands_accesses.specs.Objects.{LeftStanding}
use Rattle.lift_stands_lives.proofs.Begun.{worlds_held}
use Rattle.mem_bytes.proofs.Slots.{live_within}
use Rattle.mem_bytes.specs.Access.{live_read, block_value}
use Rattle.mem_bytes.specs.Coding.{IsScalar, IsValueOf}
use Rattle.mem_bytes.specs.Memory.{Block, Blocks, live_block}
use Rattle.mem_bytes.specs.declared.value.Ptr.{Ptr}
use Rattle.mem_bytes.specs.declared.value.Value.{Value}
use Rattle.mem_bytes.specs.declared.value.Value.TheVariants.{Object}
use Rattle.rs_mean.specs.Calls.{Spot, store, in_memory, stored_as}
use Rattle.rs_mean.specs.Run.{Flow, normal, is_base, run_expr, run_place, run_stmt, goes_on}
use Rattle.rs_mean.specs.Scalars.{scalar_of}
use Rattle.rs_mean.specs.Values.{typed}
use Rattle.rs_mean.specs.World.{Run, pure, seq, local, after_step}
use Rattle.rs_mean.specs.declared.cause.Cause.{Cause}
use Rattle.rs_text.specs.declared.integer.IntegerTy.TheVariants.{I8, I16, I32, I64, U8, U16, U32, U64, Isize, Usize}
use Rattle.rs_text.specs.Tree.{Ty, Integer, Boolean, Void, Pointer, Array, Code, Record, Place as RustPlace, Expr, Read, Assign}

-- ---- where C stores

abbrev ok_stored : CStored → Result CStored CWhy
ok_stored one = Ok one

pub stored_plain : (setting : CSetting) (frame : CFrame) (blocks : Blocks) (type : CTy) (of_c new : CValue) (marks : Marks) → IsNoField of_c → stored setting frame blocks type of_c new marks ≡ stored_to setting blocks type new marks (place_in frame of_c)
stored_plain setting frame blocks type (designates_bits at bit width) new marks is = absurd is
stored_plain setting frame blocks type (scalar value) new marks is = refl
stored_plain setting frame blocks type (cells list from) new marks is = refl
stored_plain setting frame blocks type (names number) new marks is = refl
stored_plain setting frame blocks type (designates to) new marks is = refl
stored_plain setting frame blocks type missing new marks is = refl

pub record StoredAt (setting : CSetting) (frame : CFrame) (blocks : Blocks) (type : CTy) (of_c new : CValue) (marks : Marks) (one : CStored) : Type 0 where
  pub kind : CKind
  pub kind_is : kind_of setting type ≡ Ok kind
  pub at : Ptr
  pub place_is : place_in frame of_c ≡ Ok (Object at)
  pub stores : stored_kind blocks at marks new kind ≡ Ok one

pub stored_is : (setting : CSetting) (frame : CFrame) (blocks : Blocks) (type : CTy) (of_c new : CValue) (marks : Marks) (one : CStored) → IsNoField of_c → stored setting frame blocks type of_c new marks ≡ Ok one →
    StoredAt setting frame blocks type of_c new marks one
stored_is setting frame blocks type of_c new marks one plainly e =
    let kind = and_then_is (kind_of setting type) _ one (sym (stored_plain setting frame blocks type of_c new marks plainly) ∙ e) in
    let to = and_then_is (place_in frame of_c) _ one kind.2 in
    let at = and_then_is (object_at to.0) _ one to.2 in
    record {
      kind = kind.0;
      kind_is = kind.1;
      at = at.0;
      place_is = to.1 ∙ ap Ok (place_at_object to.0 at.0 at.1);
      stores = at.2;
    }

-- ---- kinds

pub is_scalar_kind : (one : Ty) (kind : Scalar) → scalar_of one ≡ Some kind → IsScalar kind
is_scalar_kind (Integer I8) kind e = let k : scalars.Whole 8 true ≡ kind = cc (e) in subst IsScalar k refl
is_scalar_kind (Integer I16) kind e = let k : scalars.Whole 16 true ≡ kind = cc (e) in subst IsScalar k refl
is_scalar_kind (Integer I32) kind e = let k : scalars.Whole 32 true ≡ kind = cc (e) in subst IsScalar k refl
is_scalar_kind (Integer I64) kind e = let k : scalars.Whole 64 true ≡ kind = cc (e) in subst IsScalar k refl
is_scalar_kind (Integer U8) kind e = let k : scalars.Whole 8 false ≡ kind = cc (e) in subst IsScalar k refl
is_scalar_kind (Integer U16) kind e = let k : scalars.Whole 16 false ≡ kind = cc (e) in subst IsScalar k refl
is_scalar_kind (Integer U32) kind e = let k : scalars.Whole 32 false ≡ kind = cc (e) in subst IsScalar k refl
is_scalar_kind (Integer U64) kind e = let k : scalars.Whole 64 false ≡ kind = cc (e) in subst IsScalar k refl
is_scalar_kind (Integer Isize) kind e = let k : scalars.Whole 64 true ≡ kind = cc (e) in subst IsScalar k refl
is_scalar_kind (Integer Usize) kind e = let k : scalars.Whole 64 false ≡ kind = cc (e) in subst IsScalar k refl
is_scalar_kind Boolean kind e = let k : scalars.Truth ≡ kind = cc (e) in subst IsScalar k tt
is_scalar_kind (Pointer target) kind e = let k : scalars.Object ≡ kind = cc (e) in subst IsScalar k tt
is_scalar_kind (Code params result) kind e = let k : scalars.Code ≡ kind = cc (e) in subst IsScalar k tt
is_scalar_kind Void kind e = cc (e)
is_scalar_kind (Array element size) kind e = cc (e)
is_scalar_kind (Record m y) kind e = cc (e)

-- ---- what is written

pub target_plain : (names_of : Names) (type : CTy) (to : CExpr) (given : Given) → is_bit_field to ≡ false → is_record type ≡ false → target_of names_of type to given ≡ a_scalar (place_of_given given) (type_in names_of type)
target_plain names_of type (expr own at (member of spot)) given plainly no_record = rw (field_test spot.width plainly, no_record) refl
target_plain names_of type (expr own at form) given plainly no_record = rw no_record refl

-- a store of a scalar in both: what the crate has behind it
pub record StoredBoth (x : Around) (images : Images) (c_world world : World) (p : RustPlace) (e : Expr) (made : Blocks) : Type 0 where
  pub beyond : Blocks
  pub comes : (units : ℕ) → run_stmt x.frame (Assign p e) world units ≡ came normal (with_held (with_blocks beyond world.held) world) units
  pub left : LeftStanding images c_world.held world.held made beyond

module _ (x : Around) where
  store_runs : (world : World) (spot : Spot) (one : Ty) (kind : Scalar) (to : Ptr) (other : Value) (beyond : Blocks) (units : ℕ) → spot.ty ≡ one → spot.at ≡ Object to → spot.is_based ≡ true → scalar_of one ≡ Some kind →
      stored_as (blocks_of world) true (Some kind) (Object to) other ≡ Ok beyond → store spot other world units ≡ came tt (with_held (with_blocks beyond world.held) world) units
  unfolding local
  store_runs world spot one kind to other beyond units ty_is at_is based_is kind_is done_is = ap (λ (r : Result Blocks Cause). after_step world units (in_memory tt world.held r)) (stores spot.ty spot.at spot.is_based ty_is at_is based_is)
    where
      stores : (t : Ty) (v : Value) (b : Bool) → t ≡ one → v ≡ Object to → b ≡ true → stored_as (blocks_of world) b (scalar_of t) v other ≡ Ok beyond
      stores t v b same there based = rw (same, there, based, kind_is) done_is

  assign_runs : (world : World) (p : RustPlace) (e : Expr) (from : Ty) (other : Value) (spot : Spot) (after : World) (units : ℕ) → GivesAt x.frame world e from other → GivesPlace x.frame world p spot → store spot other world units ≡ came tt after units →
      run_stmt x.frame (Assign p e) world units ≡ came normal after units
  unfolding pure
  assign_runs world p e from other spot after units gives place_gives stores =
      seq_is (run_expr x.frame e) _ world units (typed from other) (gives.runs units)
      ∙ seq_is (run_place x.frame p) _ world units spot (place_gives.runs units)
      ∙ behind_store (store spot other) goes_on world after units stores
    where
      behind_store : (first : Run (Unit {0})) (next : Unit {0} → Run Flow) (before later : World) (k : ℕ) → first before k ≡ came tt later k → seq first next before k ≡ next tt later k
      behind_store first next before later k same = seq_comes first next before later k tt same

  scalar_base : (blocks : Blocks) (one : Ty) (kind : Scalar) (at : Value) → scalar_of one ≡ Some kind → is_base x.frame.modules blocks one at ≡ true
  scalar_base blocks (Integer which) kind at e = refl
  scalar_base blocks Boolean kind at e = refl
  scalar_base blocks (Pointer target) kind at e = refl
  scalar_base blocks (Code params result) kind at e = refl
  scalar_base blocks Void kind at e = cc
  scalar_base blocks (Array element size) kind at e = cc
  scalar_base blocks (Record m y) kind at e = cc (e)

  either_true : (b c : Bool) → (b ≡ true) ⊎ (b ≡ c) → c ≡ true → b ≡ true
  either_true b c (inl is) other = is
  either_true b c (inr is) other = is ∙ other

  -- a value that stands for C's is stored where C stores
  pub stores_both : (images : Images) (c_world world : World) (one : Ty) (given : Given) (e : Expr) (from : Ty) (kind : Scalar) (at : Ptr) (of_c other : Value) (marks : Marks) (made : CStored) → At x images c_world world → scalar_of one ≡ Some kind →
      GivesLvalue images x.frame world one given (Object at) → GivesAt x.frame world e from other → ValueBelow images of_c other → stored_kind (blocks_of c_world) at marks (scalar of_c) (of_scalar kind) ≡ Ok made →
      StoredBoth x images c_world world (place_of_given given) e made.blocks × (made.value ≡ scalar of_c)
  stores_both images c_world world one given e from kind at of_c other marks made here kind_is place_gave gives below stores =
      let pointer_is = pointer_below images at place_gave.spot.at place_gave.below in
      let is = scalar_stored images c_world.held world.held at pointer_is.to marks made here.worlds.held pointer_is.below kind of_c other (is_scalar_kind one kind kind_is) below stores in
      let based_is = either_true place_gave.spot.is_based (is_base x.frame.modules (blocks_of world) one place_gave.spot.at) place_gave.based (scalar_base (blocks_of world) one kind place_gave.spot.at kind_is) in (
        record {
          beyond = is.beyond;
          comes = λ units. assign_runs world (place_of_given given) e from other place_gave.spot (with_held (with_blocks is.beyond world.held) world) units gives place_gave.gives
              (store_runs world place_gave.spot one kind pointer_is.to other is.beyond units place_gave.ty_is pointer_is.is based_is kind_is is.done);
          left = is.left;
        },
        is.is,
      )

  -- ---- an assignment whose value isn't used

  abbrev pub pair_of : CExpr → CExpr → ℕ → Both
  pair_of target value from =
      record { first = lifted x.names (operand_before (holds_call value)) target from; second = lifted x.names operand value (lifted x.names (operand_before (holds_call value)) target from).next }

  -- where both operands have come to their ends, they give at a pair of worlds that is no later
  pub both_give : (target value : CExpr) (from : ℕ) (images mid last : Images) (c0 w0 c1 w1 c2 w2 : World) (one other : COperand) (end : Images) (c_later later : World) →
      (did : TwoDid x true (before_fixed target value) target (pair_of target value from).first true (is_fixed operand value) value (pair_of target value from).second from images c0 w0 one other mid last c1 w1 c2 w2) →
      any_overlap one.marks.reads other.marks.writes ≡ false → (pair_of target value from).first.next ≤ (pair_of target value from).second.next →
      ((fixed : Bool) (reads : List Range) → LaterAt x last end (pair_of target value from).second.next fixed reads c2 w2 c_later later) →
      GivesOperand x.s x.names end x.c_frame x.frame later target (pair_of target value from).first.given one.value × GivesOperand x.s x.names end x.c_frame x.frame later value (pair_of target value from).second.given other.value
  both_give target value from images mid last c0 w0 c1 w1 c2 w2 one other end c_later later did apart more all = (
    did.first_did.gives end c_later later
        (later_then x (pair_of target value from).first.next (pair_of target value from).second.next (pair_of target value from).second.next mid last end (before_fixed target value) (before_fixed target value) one.marks.reads one.marks.reads c1 w1 c2 w2 c_later later
        did.first_did.reached.at did.second_did.reached (two_last x (before_fixed target value) value one.marks.reads c1 c2 other did.second_did.knows_is (quiet_before target value) apart) more (λ f. f) (λ r. r)
        (all (before_fixed target value) one.marks.reads)),
    did.second_did.gives end c_later later (all (is_fixed operand value) other.marks.reads),
  )

  -- what C stored
  record StoredScalarIs (type : CTy) (one other : COperand) (c2 : World) (made : CDone) : Type 0 where
    kind : Scalar
    kind_is : IsScalarKind (setting_in x.s) type kind
    at : Ptr
    place_is : place_in (scope x) one.value ≡ Ok (Object at)
    of_c : Value
    value_is : other.value ≡ scalar of_c
    of_kind : IsValueOf kind of_c
    marks : Marks
    found : CStored
    stores : stored_kind (blocks_of c2) at marks (scalar of_c) (of_scalar kind) ≡ Ok found
    apart : any_overlap one.marks.reads other.marks.writes ≡ false
    made_value : made.value ≡ found.value
    made_blocks : made.blocks ≡ found.blocks

  stored_scalar_is : (form : CTyForm) (is_const : Bool) (target value : CExpr) (one other : COperand) (c2 : World) (made : CDone) → IsNoField one.value → is_record (ty form is_const) ≡ false →
      node_done (setting_in x.s) (ty form is_const) (assign target value) (scope x) (blocks_of c2) (one ∷ other ∷ []) ≡ Ok made → StoredScalarIs (ty form is_const) one other c2 made
  stored_scalar_is form is_const target value one other c2 made plainly no_record e =
      let node = node_two (setting_in x.s) (ty form is_const) (assign target value) (scope x) (blocks_of c2) one other made e in
      let found = and_then_is (stored (setting_in x.s) (scope x) (blocks_of c2) (ty form is_const) one.value other.value node.0) _ made node.2 in
      let same : done found.0.value found.0.marks found.0.blocks ≡ made = cc (found.2) in
      let is = stored_is (setting_in x.s) (scope x) (blocks_of c2) (ty form is_const) one.value other.value node.0 found.0 plainly found.1 in
      by is.kind is.kind_is is.at is.place_is node.0 found.0 node.1.apart is.stores (ap (λ (d : CDone). d.value) (sym same)) (ap (λ (d : CDone). d.blocks) (sym same))
    where
      by : (kind : CKind) → kind_of (setting_in x.s) (ty form is_const) ≡ Ok kind → (at : Ptr) → place_in (scope x) one.value ≡ Ok (Object at) → (marks : Marks) (found : CStored) → any_overlap one.marks.reads other.marks.writes ≡ false →
          stored_kind (blocks_of c2) at marks other.value kind ≡ Ok found → made.value ≡ found.value → made.blocks ≡ found.blocks → StoredScalarIs (ty form is_const) one other c2 made
      by (of_record laid) kind_is at place_is marks found apart stores value_is blocks_are =
          let clash : true ≡ false = sym (of_record_kind (setting_in x.s) form is_const laid kind_is).of_record_type ∙ no_record in cc (clash)
      by (of_scalar kind) kind_is at place_is marks found apart stores value_is blocks_are =
          let value = and_then_is (value_of_kind kind other.value) _ found stores in
          let one_is = and_then_is (scalar_value other.value) _ value.0 value.1 in
          let tests = where_true (is_of_kind kind one_is.0) (Ok one_is.0) value.0 one_is.2 in
          record {
            kind = kind;
            kind_is = of_scalar_kind (setting_in x.s) form is_const kind kind_is;
            at = at;
            place_is = place_is;
            of_c = one_is.0;
            value_is = scalar_is other.value one_is.0 one_is.1;
            of_kind = kind_value kind one_is.0 tests.0;
            marks = marks;
            found = found;
            stores = subst (λ (v : CValue). stored_kind (blocks_of c2) at marks v (of_scalar kind) ≡ Ok found) (scalar_is other.value one_is.0 one_is.1) stores;
            apart = apart;
            made_value = value_is;
            made_blocks = blocks_are;
          }

  pub target_lvalue : (images : Images) (world : World) (type : CTy) (target : CExpr) (given : Given) (to : Value) → type ≡ unqualified (type_of target) → GivesLvalue images x.frame world (type_in x.names (type_of target)) given to →
      GivesLvalue images x.frame world (type_in x.names type) given to
  target_lvalue images world type target given to same gave = subst (λ (t : Ty). GivesLvalue images x.frame world t given to) (sym (ap (type_in x.names) same ∙ same_unqualified x.names (type_of target))) gave

  assign_plain : (fixed : Bool) (form : CTyForm) (is_const : Bool) (at : Place) (target value : CExpr) (from : ℕ) (images : Images) (c0 w0 : World) → At x images c0 w0 → IsTyped x.home (expr (ty form is_const) at (assign target value)) →
      is_bit_field target ≡ false → is_record (ty form is_const) ≡ false → from ≤ (pair_of target value from).first.next → (pair_of target value from).first.next ≤ (pair_of target value from).second.next →
      ExprOwes x (operand_before (holds_call value)) target from images c0 w0 →
      ((later : Images) (c1 w1 : World) → At x later c1 w1 → ExprOwes x operand value (pair_of target value from).first.next later c1 w1) →
      PartOwes x false fixed (expr (ty form is_const) at (assign target value))
      (plain_store (a_scalar (place_of_given (pair_of target value from).first.given) (type_in x.names (ty form is_const))) (given_value (pair_of target value from).second.given) (in_turn (pair_of target value from) given_form.nothing)) from images c0 w0
  assign_plain fixed form is_const at target value from images c0 w0 here typed plainly no_record rises more owes others =
      let type = ty form is_const in
      let two = pair_of target value from in
      let p = place_of_given two.first.given in
      let e = given_value two.second.given in
      let Good = DidOf x false fixed (expr type at (assign target value)) (plain_store (a_scalar p (type_in x.names type)) e (in_turn two given_form.nothing)) from images c0 w0 in
      two_owes x Good (λ one other later. c_done at type later (node_done (setting_in x.s) type (assign target value) (scope x) (blocks_of later) (one ∷ other ∷ []))) (Assign p e ∷ []) true (before_fixed target value) target two.first
      true (is_fixed operand value) value two.second from images c0 w0 here (inr typed.1.0) (inl typed.1.1) owes others (λ one other mid last c1 w1 c2 w2 did.
      step_owes x Good at (node_done (setting_in x.s) type (assign target value) (scope x) (blocks_of c2) (one ∷ other ∷ [])) (λ made after. gives_operand type made.value made.marks (with_memory made.blocks after)) (Assign p e ∷ []) c2 w2
      (same_events last c2 w2 did.second_did.reached.at.worlds) (λ made is.
      let there = place_given x.home target one.value typed.1.0 did.first_did.knows_is.0.operand_is.given in
      let what = stored_scalar_is form is_const target value one other c2 made (no_field target one.value plainly there) no_record is in
      let reached = reached_then x from two.first.next two.second.next images mid last c0 w0 c1 w1 c2 w2 rises more here did.first_did.reached did.second_did.reached in
      let gave = both_give target value from images mid last c0 w0 c1 w1 c2 w2 one other last c2 w2 did what.apart more (λ fixed_at reads. later_itself x last two.second.next fixed_at reads c2 w2 did.second_did.reached.at) in
      let place_gave = target_lvalue last w2 type target two.first.given (Object what.at) typed.1.2.type_is (lvalue_given x last w2 target two.first.given one.value (Object what.at) what.place_is gave.0) in
      let value_gave = value_gives last x.frame w2 (record { ty = type_in x.names (type_of value); given = two.second.given }) what.of_c (scalar_given x last w2 value two.second.given other.value what.of_c what.value_is gave.1).stands in
      let both = stores_both last c2 w2 (type_in x.names type) two.first.given e (type_in x.names (type_of value)) what.kind what.at what.of_c value_gave.other what.marks what.found did.second_did.reached.at (x.means.scalars type what.kind what.kind_is.kind_is)
      place_gave value_gave.gives value_gave.below what.stores in
      let after = with_held (with_blocks both.0.beyond w2.held) w2 in
      subst (λ (blocks : Blocks). OweAs x Good (came (record { type = type; value = made.value; marks = made.marks }) (with_memory blocks c2)) (Assign p e ∷ []) w2) (sym what.made_blocks)
      (end_owes x Good (record { type = type; value = made.value; marks = made.marks }) (Assign p e ∷ []) (with_memory what.found.blocks c2) w2 after (λ units. run_one x.frame (Assign p e) w2 after units (both.0.comes units)) (record {
        flow_is = refl;
        later = last;
        own = reached.own;
        are_own = reached.are_own;
        keeps = both_keep (length (blocks_of w0)) reached.own images last last c0.held c2.held (with_blocks what.found.blocks c2.held) w0.held w2.held (with_blocks both.0.beyond w2.held) here.worlds.held.memories.mapped reached.at.worlds.held.memories.mapped
            reached.keeps (both.0.left.keeps (length (blocks_of w0)) reached.own);
        worlds = worlds_held last last c2 w2 (with_blocks what.found.blocks c2.held) (with_blocks both.0.beyond w2.held) did.second_did.reached.at.worlds both.0.left.stands;
        gives = λ end c_later later is_later. tt;
      }))))

  -- ---- and one whose value is used: it is held

  -- a store leaves what a temporary holds
  pub holds_still : (number : ℕ) (one : Ty) (kind : Scalar) (of : Value) (images : Images) (c_world world : World) (made beyond : Blocks) → At x images c_world world → LeftStanding images c_world.held world.held made beyond →
      TemporaryHolds x number one kind of world → TemporaryHolds x number one kind of (with_held (with_blocks beyond world.held) world)
  holds_still number one kind of images c_world world made beyond at left holds =
      let agrees = at.frames.temporaries number holds.one holds.kept_is in
      let lives = at.frames.lives holds.local holds.is_local.among in
      let same : agrees.local.block ≡ holds.local.block = same_local x.frame holds.one.name agrees.local holds.local agrees.is_local holds.is_local in
      let stays : live_block beyond holds.local.block ≡ live_block (blocks_of world) holds.local.block =
      (left.keeps (length (blocks_of world)) (λ _. false)).vacant holds.local.block (live_within (blocks_of world) holds.local.block lives.block lives.live)
      (λ block living e. agrees.no_image block (e ∙ ap Some (sym same))) refl in
      record {
        one = holds.one;
        kept_is = holds.kept_is;
        name_is = holds.name_is;
        local = holds.local;
        is_local = holds.is_local;
        ty_is = holds.ty_is;
        kind_is = holds.kind_is;
        found = ap (λ (slot : Option Block). live_read slot (λ block. block_value block 0 kind)) stays ∙ holds.found;
      }

  pub later_of_temporary : (images : Images) (number : ℕ) (fixed : Bool) (reads : List Range) (c_world world after : World) → At x images c_world world → Reached x number (suc number) images images c_world world c_world after →
      LaterAt x images images number fixed reads c_world world c_world after
  later_of_temporary images number fixed reads c_world world after at reached = record {
    extends = reached.keeps.extends;
    here = reached.at;
    temporaries = temporaries_stay x number (suc number) images images c_world world c_world after at reached;
    lasts = lasts_once fixed reads c_world;
  }

  assign_held : (fixed : Bool) (form : CTyForm) (is_const : Bool) (at : Place) (target value : CExpr) (from : ℕ) (images : Images) (c0 w0 : World) → At x images c0 w0 → IsTyped x.home (expr (ty form is_const) at (assign target value)) →
      is_bit_field target ≡ false → is_record (ty form is_const) ≡ false → from ≤ (pair_of target value from).first.next → (pair_of target value from).first.next ≤ (pair_of target value from).second.next →
      x.kept.temporaries (pair_of target value from).second.next ≡ Some (record { name = x.names.temporary (pair_of target value from).second.next; ty = type_in x.names (ty form is_const) }) →
      ExprOwes x (operand_before (holds_call value)) target from images c0 w0 →
      ((later : Images) (c1 w1 : World) → At x later c1 w1 → ExprOwes x operand value (pair_of target value from).first.next later c1 w1) →
      PartOwes x true fixed (expr (ty form is_const) at (assign target value))
      (held_store x.names true (a_scalar (place_of_given (pair_of target value from).first.given) (type_in x.names (ty form is_const))) (given_value (pair_of target value from).second.given) (in_turn (pair_of target value from) given_form.nothing)) from images c0 w0
  assign_held fixed form is_const at target value from images c0 w0 here typed plainly no_record rises more kept_is owes others =
      let type = ty form is_const in
      let two = pair_of target value from in
      let p = place_of_given two.first.given in
      let e = given_value two.second.given in
      let temporary = temporary_place x.names two.second.next in
      let rest = Assign temporary e ∷ Assign p (Read temporary) ∷ [] in
      let Good = DidOf x true fixed (expr type at (assign target value)) (held_store x.names true (a_scalar p (type_in x.names type)) e (in_turn two given_form.nothing)) from images c0 w0 in
      two_owes x Good (λ one other later. c_done at type later (node_done (setting_in x.s) type (assign target value) (scope x) (blocks_of later) (one ∷ other ∷ []))) rest true (before_fixed target value) target two.first
      true (is_fixed operand value) value two.second from images c0 w0 here (inr typed.1.0) (inl typed.1.1) owes others (λ one other mid last c1 w1 c2 w2 did.
      step_owes x Good at (node_done (setting_in x.s) type (assign target value) (scope x) (blocks_of c2) (one ∷ other ∷ [])) (λ made after. gives_operand type made.value made.marks (with_memory made.blocks after)) rest c2 w2
      (same_events last c2 w2 did.second_did.reached.at.worlds) (λ made is.
      let there = place_given x.home target one.value typed.1.0 did.first_did.knows_is.0.operand_is.given in
      let what = stored_scalar_is form is_const target value one other c2 made (no_field target one.value plainly there) no_record is in
      let kind_there_is = x.means.scalars type what.kind what.kind_is.kind_is in
      let reached = reached_then x from two.first.next two.second.next images mid last c0 w0 c1 w1 c2 w2 rises more here did.first_did.reached did.second_did.reached in
      let gave = both_give target value from images mid last c0 w0 c1 w1 c2 w2 one other last c2 w2 did what.apart more (λ fixed_at reads. later_itself x last two.second.next fixed_at reads c2 w2 did.second_did.reached.at) in
      let value_gave = value_gives last x.frame w2 (record { ty = type_in x.names (type_of value); given = two.second.given }) what.of_c (scalar_given x last w2 value two.second.given other.value what.of_c what.value_is gave.1).stands in
      let stored_it = stores_temporary x two.second.next (type_in x.names type) what.kind e (type_in x.names (type_of value)) value_gave.other last c2 w2 did.second_did.reached.at kept_is kind_there_is
      (given_in_range last what.kind what.of_c value_gave.other value_gave.below what.of_kind) value_gave.gives in
      let w3 = stored_it.after in
      let again = both_give target value from images mid last c0 w0 c1 w1 c2 w2 one other last c2 w3 did what.apart more (λ fixed_at reads. later_of_temporary last two.second.next fixed_at reads c2 w2 w3 did.second_did.reached.at stored_it.reached) in
      let place_gave = target_lvalue last w3 type target two.first.given (Object what.at) typed.1.2.type_is (lvalue_given x last w3 target two.first.given one.value (Object what.at) what.place_is again.0) in
      let reads_it = reads_temporary x two.second.next (suc two.second.next) (type_in x.names type) what.kind value_gave.other last last fixed [] c2 w3 c2 w3 (omega arith) stored_it.holds
      (later_itself x last (suc two.second.next) fixed [] c2 w3 stored_it.reached.at) in
      let both = stores_both last c2 w3 (type_in x.names type) two.first.given (Read temporary) (type_in x.names type) what.kind what.at what.of_c value_gave.other what.marks what.found stored_it.reached.at kind_there_is
      place_gave reads_it value_gave.below what.stores in
      let after = with_held (with_blocks both.0.beyond w3.held) w3 in
      let reached3 = reached_then x from two.second.next (suc two.second.next) images last last c0 w0 c2 w2 c2 w3 (omega (arith, rises, more)) (omega arith) here reached stored_it.reached in
      let holds = holds_still two.second.next (type_in x.names type) what.kind value_gave.other last c2 w3 what.found.blocks both.0.beyond stored_it.reached.at both.0.left stored_it.holds in
      subst (λ (blocks : Blocks). OweAs x Good (came (record { type = type; value = made.value; marks = made.marks }) (with_memory blocks c2)) rest w2) (sym what.made_blocks)
      (end_owes x Good (record { type = type; value = made.value; marks = made.marks }) rest (with_memory what.found.blocks c2) w2 after
      (λ units. run_behind x.frame (Assign temporary e ∷ []) (Assign p (Read temporary) ∷ []) w2 w3 units (stored_it.comes units) ∙ run_one x.frame (Assign p (Read temporary)) w3 after units (both.0.comes units)) (record {
        flow_is = refl;
        later = last;
        own = reached3.own;
        are_own = reached3.are_own;
        keeps = both_keep (length (blocks_of w0)) reached3.own images last last c0.held c2.held (with_blocks what.found.blocks c2.held) w0.held w3.held (with_blocks both.0.beyond w3.held) here.worlds.held.memories.mapped reached3.at.worlds.held.memories.mapped
            reached3.keeps (both.0.left.keeps (length (blocks_of w0)) reached3.own);
        worlds = worlds_held last last c2 w3 (with_blocks what.found.blocks c2.held) (with_blocks both.0.beyond w3.held) reached3.at.worlds both.0.left.stands;
        gives = λ end c_later later is_later.
            subst (λ (v : CValue). GivesOperand x.s x.names end x.c_frame x.frame later (expr type at (assign target value)) (given_form.value (Read temporary)) v) (sym (what.made_value ∙ both.1))
            (record {
              stands = record {
                other = value_gave.other;
                gives = reads_temporary x two.second.next (suc two.second.next) (type_in x.names type) what.kind value_gave.other last end fixed made.marks.reads (with_memory what.found.blocks c2) after c_later later (omega arith) holds is_later;
                below = value_stays last end what.of_c value_gave.other is_later.extends value_gave.below;
              };
              based = other_based x later (given_form.value (Read temporary)) (λ q same. cc (same));
            });
      }))))

  -- ---- an assignment of a scalar that is no bit-field

  stored_owes : (used fixed : Bool) (form : CTyForm) (is_const : Bool) (at : Place) (target value : CExpr) (from : ℕ) (images : Images) (c0 w0 : World) → At x images c0 w0 → IsTyped x.home (expr (ty form is_const) at (assign target value)) →
      is_bit_field target ≡ false → is_record (ty form is_const) ≡ false → from ≤ (pair_of target value from).first.next → (pair_of target value from).first.next ≤ (pair_of target value from).second.next →
      (used ≡ true → x.kept.temporaries (pair_of target value from).second.next ≡ Some (record { name = x.names.temporary (pair_of target value from).second.next; ty = type_in x.names (ty form is_const) })) →
      ExprOwes x (operand_before (holds_call value)) target from images c0 w0 →
      ((later : Images) (c1 w1 : World) → At x later c1 w1 → ExprOwes x operand value (pair_of target value from).first.next later c1 w1) →
      PartOwes x used fixed (expr (ty form is_const) at (assign target value))
      (stored_as_written x.names used (a_scalar (place_of_given (pair_of target value from).first.given) (type_in x.names (ty form is_const))) (given_value (pair_of target value from).second.given) (in_turn (pair_of target value from) given_form.nothing)) from images c0 w0
  stored_owes true fixed form is_const at target value from images c0 w0 here typed plainly no_record rises more kept_is owes others =
      assign_held fixed form is_const at target value from images c0 w0 here typed plainly no_record rises more (kept_is refl) owes others
  stored_owes false fixed form is_const at target value from images c0 w0 here typed plainly no_record rises more kept_is owes others =
      assign_plain fixed form is_const at target value from images c0 w0 here typed plainly no_record rises more owes others

  pub assign_owes : (asked : Asked) (form : CTyForm) (is_const : Bool) (at : Place) (target value : CExpr) (from : ℕ) (images : Images) (c0 w0 : World) → At x images c0 w0 → IsTyped x.home (expr (ty form is_const) at (assign target value)) →
      is_bit_field target ≡ false → is_record (ty form is_const) ≡ false → from ≤ (pair_of target value from).first.next → (pair_of target value from).first.next ≤ (pair_of target value from).second.next →
      (asked.used ≡ true → x.kept.temporaries (pair_of target value from).second.next ≡ Some (record { name = x.names.temporary (pair_of target value from).second.next; ty = type_in x.names (ty form is_const) })) →
      ExprOwes x (operand_before (holds_call value)) target from images c0 w0 →
      ((later : Images) (c1 w1 : World) → At x later c1 w1 → ExprOwes x operand value (pair_of target value from).first.next later c1 w1) →
      FormOwes x asked (ty form is_const) at (assign target value) from images c0 w0
  assign_owes asked form is_const at target value from images c0 w0 here typed plainly no_record rises more kept_is owes others =
      subst (λ (to : Target). PartOwes x asked.used (form_fixed (ty form is_const) (assign target value)) (expr (ty form is_const) at (assign target value))
      (stored_as_written x.names asked.used to (stored_value to (pair_of target value from).second.given) (in_turn (pair_of target value from) given_form.nothing)) from images c0 w0)
      (sym (target_plain x.names (ty form is_const) target (pair_of target value from).first.given plainly no_record))
      (stored_owes asked.used (form_fixed (ty form is_const) (assign target value)) form is_const at target value from images c0 w0 here typed plainly no_record rises more kept_is owes others)
