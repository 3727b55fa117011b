-- `op=`, `++` and `--` of bit-fields (ISO C99, 6.5.2.4, 6.5.3.1, 6.5.16.2 and 6.7.2.1p9).
use Rattle.std.proofs.Common.{◌≡◌, ℕ, suc, ◌^◌, ◌≤◌, ℤ, Bool, true, false, List, [], ◌∷◌, length, Option, Some, Ok, refl, sym, ap, subst, ◌∙◌, arith}
use Rattle.cr_base.specs.Scalar.{residue}
use Rattle.cr_base.specs.declared.layout.Spot.{Spot}
use Rattle.cr_base.specs.declared.refusal.Place.{Place}
use Rattle.cr_base.specs.declared.scalar.Scalar.{Scalar}
use Rattle.cr_base.specs.declared.scalar.Scalar.TheVariants as scalars
use Rattle.cr_runs.specs.Runs.{came}
use Rattle.cr_world.specs.Held.{with_blocks}
use Rattle.cr_world.specs.World.{World, blocks_of, with_held, with_memory}
use Rattle.cx_core.specs.Trees.{CTy, expr, CForm}
use Rattle.cx_core.specs.declared.expr.Op2.{Op2}
use Rattle.cx_mean.specs.Accesses.{CStored, stored, stored_bits, field_value, is_field_place}
use Rattle.cx_mean.specs.Leftmost.{gives_operand, c_done, c_update, one_step}
use Rattle.cx_mean.specs.Marks.{Marks}
use Rattle.cx_mean.specs.Nodes.{CDone, done, CUpdating, update_computed, update_converted, update_stored, update_value}
use Rattle.cx_mean.specs.Operands.{needed, CValue, scalar, designates_bits, COperand}
use Rattle.cx_mean.specs.Settings.{scalar_in_type}
use Rattle.cx_mean.specs.Values.{CTyped, converted_value}
use Rattle.cx_mean.specs.Work.{CUpdate}
use Rattle.cx_typed_values.specs.Values.{most_bytes}
use Rattle.cx_typed_work.specs.ExternalCalls.{KeepsObjects}
use Rattle.cx_typed_work.specs.Operands.{IsScalarIn}
use Rattle.lift_calls.specs.Programs.{setting_in}
use Rattle.lift_does.proofs.Around.{Around, scope, At, DidOf, OweAs, Reached}
use Rattle.lift_does.proofs.BitAssignments.{needed_is}
use Rattle.lift_does.proofs.BitEnds.{bits_written, bits_end, number_casts}
use Rattle.lift_does.proofs.BitLoads.{profile_is, bits_read}
use Rattle.lift_does.proofs.BitStores.{bits_stored_is}
use Rattle.lift_does.proofs.Lasting.{objects_stay}
use Rattle.lift_does.proofs.Nodes.{and_then_is}
use Rattle.lift_does.proofs.Operands.{other_based}
use Rattle.lift_does.proofs.Reaching.{reached_then, temporaries_stay}
use Rattle.lift_does.proofs.RecordAssignments.{temporaries_beside}
use Rattle.lift_does.proofs.Runs.{run_behind, step_owes, end_owes, same_events}
use Rattle.lift_does.proofs.Sameness.{scalar_same, binary_same}
use Rattle.lift_does.proofs.Steady.{SameSize, sizes_last}
use Rattle.lift_does.proofs.Temporaries.{stores_temporary, reads_staying}
use Rattle.lift_does.proofs.Updates.{ScalarConverted, scalar_conversion, scalar_void, IsOperator, IsComputed, computed_is, change_of, changed_gives, kept_type}
use Rattle.lift_does.specs.Gives.{GivesBase, GivesScalar, GivesOperand}
use Rattle.lift_does.specs.Later.{TemporariesStay}
use Rattle.lift_exprs.specs.Names.{type_in}
use Rattle.lift_exprs.specs.Stores.{a_field, changed, field_form, held_store, settled}
use Rattle.lift_exprs.specs.Written.{Written, then_takes, temporary_place, address_of_given}
use Rattle.lift_forms.specs.BitFields.{bit_write}
use Rattle.lift_forms.specs.Given.{Given}
use Rattle.lift_forms.specs.Given as given_form
use Rattle.lift_forms.specs.Operators.{Operand, given_value}
use Rattle.lift_forms_laws.proofs.Operands.{value_gives}
use Rattle.lift_forms_laws.specs.Gives.{GivesAt, OperandStands}
use Rattle.lift_stands.proofs.Forms.{number_below}
use Rattle.lift_stands.proofs.Images.{value_stays}
use Rattle.lift_stands.proofs.Kept.{both_keep}
use Rattle.lift_stands.specs.Stands.{Images, ValueBelow}
use Rattle.lift_stands_lives.proofs.Begun.{worlds_held}
use Rattle.lift_stands_values.proofs.Ranges.{given_in_range}
use Rattle.mem_bytes.specs.Access.{field_at}
use Rattle.mem_bytes.specs.Coding.{IsValueOf}
use Rattle.mem_bytes.specs.Memory.{Blocks}
use Rattle.mem_bytes.specs.declared.value.Ptr.{Ptr}
use Rattle.mem_bytes.specs.declared.value.Value.{Value}
use Rattle.mem_bytes.specs.declared.value.Value.TheVariants.{Whole}
use Rattle.rs_mean.specs.Run.{Flow}
use Rattle.rs_text.specs.Tree.{Ty, Expr, Read, Stmt, Assign}

abbrev c_scalar : Value → CValue
c_scalar value = scalar value

same_scalar : (one other : Value) → c_scalar one ≡ c_scalar other → one ≡ other
same_scalar one other e = cc (e)

module _ (x : Around) where
  -- where C has loaded: the base and the other operand are given
  pub record BitsUpdating (type : CTy) (update : CUpdate) (holder : Ty) (given : Given) (spot : Spot) (right : Operand) (next : ℕ) (last : Images) (c2 w2 : World) : Type 0 where
    pub kind : Scalar
    pub kind_is : scalar_in_type (setting_in x.s) type ≡ Some kind
    pub type_is : update.target_type ≡ type
    pub place : Ptr
    pub target_is : update.target ≡ designates_bits place spot.bit spot.width
    pub old_in : IsScalarIn x.home.program type update.old
    pub old_of_kind : IsValueOf kind update.old
    pub operator : IsOperator x type update.computes update.op update.right right
    pub profile : is_field_place spot.bit spot.width ≡ true
    pub near : place.offset ≤ most_bytes
    pub bits : ℕ
    pub found : field_at (blocks_of c2) place spot.bit spot.width ≡ Ok bits
    pub means : field_value kind spot.width bits ≡ Ok update.old
    pub few : kind ≡ scalars.Truth → spot.width ≤ 1
    pub values : (number : ℤ) (of_c : Value) → field_value kind spot.width (residue number (2 ^ spot.width)) ≡ Ok of_c → IsValueOf kind of_c
    pub in_bytes : last.in_bytes ≡ true
    pub base : (c_later later : World) → At x last c_later later → TemporariesStay x.kept x.frame next w2 later → KeepsObjects c2.held c_later.held → GivesBase last x.frame later holder given spot place
    pub right_gave : OperandStands last x.frame w2 right update.right.value

  -- what C stored behind that
  pub record BitsUpdated (type : CTy) (update : CUpdate) (kind : Scalar) (place : Ptr) (spot : Spot) (c2 : World) (result : CValue) (made : Blocks) : Type 0 where
    pub new : Value
    pub computed : IsComputed x update.computes update.op update.right (blocks_of c2) update.old new
    pub value : Value
    pub converted : ScalarConverted (setting_in x.s) type (blocks_of c2) new value
    pub marks : Marks
    pub one : CStored
    pub stores : stored_bits (blocks_of c2) place spot.bit spot.width marks (scalar value) kind ≡ Ok one
    pub result_is : result ≡ update_value update.is_postfix update.old one.value
    pub blocks_are : made ≡ one.blocks

  kinds_same : (found : Option Scalar) (one other : Scalar) → found ≡ Some one → found ≡ Some other → one ≡ other
  kinds_same found one other e f = let same : Some one ≡ Some other = sym e ∙ f in cc (same)

  bits_updated_is : (at : Place) (type : CTy) (update : CUpdate) (holder : Ty) (given : Given) (spot : Spot) (right : Operand) (next : ℕ) (last : Images) (c2 w2 : World) (marks : Marks) (new value : Value) (made : CDone) → At x last c2 w2 →
      (is : BitsUpdating type update holder given spot right next last c2 w2) → update_computed (setting_in x.s) (blocks_of c2) update ≡ Ok new → update_converted (setting_in x.s) (blocks_of c2) update new ≡ Ok value →
      update_stored (setting_in x.s) (scope x) (blocks_of c2) update marks value ≡ Ok made → BitsUpdated type update is.kind is.place spot c2 made.value made.blocks
  bits_updated_is at type update holder given spot right next last c2 w2 marks new value made here is e f g =
      let middle = and_then_is (converted_value (setting_in x.s) update.target_type (blocks_of c2) (scalar new)) _ value f in
      let one = and_then_is (stored (setting_in x.s) (scope x) (blocks_of c2) update.target_type update.target (scalar value) marks) _ made g in
      let same : done (update_value update.is_postfix update.old one.0.value) one.0.marks one.0.blocks ≡ made = let is_made = one.2 in cc (is_made) in
      let there = subst (λ (v : CValue). stored (setting_in x.s) (scope x) (blocks_of c2) type v (scalar value) marks ≡ Ok one.0) is.target_is
      (subst (λ (t : CTy). stored (setting_in x.s) (scope x) (blocks_of c2) t update.target (scalar value) marks ≡ Ok one.0) is.type_is one.1) in
      let kind = and_then_is (needed (scalar_in_type (setting_in x.s) type)) _ one.0 there in
      let kind_same = kinds_same (scalar_in_type (setting_in x.s) type) kind.0 is.kind (needed_is (scalar_in_type (setting_in x.s) type) kind.0 kind.1) is.kind_is in
      record {
        new = new;
        computed = computed_is x at last c2 w2 type update right new here is.operator is.old_in e;
        value = value;
        converted = scalar_conversion (setting_in x.s) type (blocks_of c2) new middle.0 value (scalar_void (setting_in x.s) type is.kind is.kind_is)
            (subst (λ (t : CTy). converted_value (setting_in x.s) t (blocks_of c2) (scalar new) ≡ Ok middle.0) is.type_is middle.1) middle.2;
        marks = marks;
        one = one.0;
        stores = subst (λ (k : Scalar). stored_bits (blocks_of c2) is.place spot.bit spot.width marks (scalar value) k ≡ Ok one.0) kind_same kind.2;
        result_is = ap (λ (d : CDone). d.value) (sym same);
        blocks_are = ap (λ (d : CDone). d.blocks) (sym same);
      }

  bits_stages : (Good : COperand → World → Flow → World → Type 0) (at : Place) (type : CTy) (updating : CUpdating) (rest : List Stmt) (holder : Ty) (given : Given) (spot : Spot) (right : Operand) (next : ℕ) (last : Images) (c2 w2 : World) → At x last c2 w2 →
      (is : BitsUpdating type updating.update holder given spot right next last c2 w2) →
      ((result : CValue) (marks : Marks) (made : Blocks) → BitsUpdated type updating.update is.kind is.place spot c2 result made → OweAs x Good (came (record { type = type; value = result; marks = marks }) (with_memory made c2)) rest w2) →
      OweAs x Good (c_update (setting_in x.s) (scope x) at type updating c2) rest w2
  bits_stages Good at type updating rest holder given spot right next last c2 w2 here is all =
      let same = same_events last c2 w2 here.worlds in
      let C = setting_in x.s in
      step_owes x Good at (update_computed C (blocks_of c2) updating.update) (λ new after. one_step at (update_converted C (blocks_of after) updating.update new) (λ value later.
      c_done at type later (update_stored C (scope x) (blocks_of later) updating.update updating.marks value)) after) rest c2 w2 same (λ new e.
      step_owes x Good at (update_converted C (blocks_of c2) updating.update new) (λ value later. c_done at type later (update_stored C (scope x) (blocks_of later) updating.update updating.marks value)) rest c2 w2 same (λ value f.
      step_owes x Good at (update_stored C (scope x) (blocks_of c2) updating.update updating.marks value) (λ made after. gives_operand type made.value made.marks (with_memory made.blocks after)) rest c2 w2 same (λ made g.
      all made.value made.marks made.blocks (bits_updated_is at type updating.update holder given spot right next last c2 w2 updating.marks new value made here is e f g))))

  -- what the bit-field held
  old_bits : (type : CTy) (update : CUpdate) (holder : Ty) (given : Given) (spot : Spot) (right : Operand) (next : ℕ) (last : Images) (c2 w2 : World) → At x last c2 w2 → (is : BitsUpdating type update holder given spot right next last c2 w2) →
      GivesScalar last x.frame w2 (type_in x.names type) (field_form (address_of_given given) spot (type_in x.names type)) update.old
  old_bits type update holder given spot right next last c2 w2 here is =
      bits_read x last c2 w2 holder (type_in x.names type) given spot is.place is.kind is.bits update.old here is.in_bytes (x.means.scalars type is.kind is.kind_is)
      (is.base c2 w2 here (λ number one local p kept_is is_local. refl) (objects_stay c2)) is.profile is.near is.found is.means is.old_of_kind

  abbrev pub bits_changed : CTy → CUpdate → Operand → Given → Expr
  bits_changed type update right old = changed (change_of x update.op update.computes right) (type_in x.names type) old

  stored_number : (last : Images) (world : World) (e : Expr) (one : Ty) (value other : Value) (number : ℤ) → scalar value ≡ scalar (Whole number) → ValueBelow last value other → GivesAt x.frame world e one other → GivesAt x.frame world e one (Whole number)
  stored_number last world e one value other number same below gives =
      let value_is = same_scalar value (Whole number) same in
      subst (GivesAt x.frame world e one) (number_below last number other (subst (λ (v : Value). ValueBelow last v other) value_is below)) gives

  -- the new value is stored, and given where it is used
  pub bits_first : (used fixed : Bool) (type : CTy) (at : Place) (form : CForm) (one : Written) (from : ℕ) (images last : Images) (c0 w0 c2 w2 : World) (holder : Ty) (given : Given) (spot : Spot) (right : Operand) (now : CUpdating) → At x images c0 w0 →
      Reached x from one.next images last c0 w0 c2 w2 → from ≤ one.next → kept_type x one.next type → (used ≡ true → now.update.is_postfix ≡ false) → BitsUpdating type now.update holder given spot right one.next last c2 w2 →
      OweAs x (DidOf x used fixed (expr type at form)
      (held_store x.names used (a_field (address_of_given given) spot (type_in x.names type)) (bits_changed type now.update right (field_form (address_of_given given) spot (type_in x.names type))) one) from images c0 w0)
      (c_update (setting_in x.s) (scope x) at type now c2)
      (Assign (temporary_place x.names one.next) (settled used (a_field (address_of_given given) spot (type_in x.names type)) (bits_changed type now.update right (field_form (address_of_given given) spot (type_in x.names type))))
      ∷ bit_write (address_of_given given) spot (Read (temporary_place x.names one.next))) w2
  bits_first used fixed type at form one from images last c0 w0 c2 w2 holder given spot right now here reached rises kept_is front is =
      let target = a_field (address_of_given given) spot (type_in x.names type) in
      let old_form = field_form (address_of_given given) spot (type_in x.names type) in
      let new_e = bits_changed type now.update right old_form in
      let rest = Assign (temporary_place x.names one.next) (settled used target new_e) ∷ bit_write (address_of_given given) spot (Read (temporary_place x.names one.next)) in
      let Good = DidOf x used fixed (expr type at form) (held_store x.names used target new_e one) from images c0 w0 in
      let old = old_bits type now.update holder given spot right one.next last c2 w2 reached.at is in
      bits_stages Good at type now rest holder given spot right one.next last c2 w2 reached.at is (λ result marks made what.
      let st = bits_stored_is (blocks_of c2) is.place spot.bit spot.width what.marks (scalar what.value) is.kind what.one what.stores in
      let new_gave = changed_gives x last c2 w2 type now.update.computes now.update.op now.update.right right old_form now.update.old what.new what.value reached.at is.operator is.old_in old is.right_gave what.computed what.converted in
      let gives = stored_number last w2 new_e (type_in x.names type) what.value new_gave.other st.number st.new_is new_gave.below new_gave.gives in
      let base = is.base c2 w2 reached.at (λ number kept_one local p kept_it is_local. refl) (objects_stay c2) in
      let ends = bits_end x used fixed type at form one from images last c0 w0 c2 w2 holder given spot is.place what.marks (scalar what.value) is.kind new_e what.one result marks (λ is_used. what.result_is ∙ ap (λ (b : Bool). update_value b now.update.old what.one.value) (front is_used)) st (is.values st.number st.of_c st.means) here reached rises is.in_bytes
      (profile_is x spot last is.place base.base is.profile is.near base.below) (x.means.scalars type is.kind is.kind_is) is.few kept_is is.base gives in
      subst (λ (blocks : Blocks). OweAs x Good (came (record { type = type; value = result; marks = marks }) (with_memory blocks c2)) rest w2) (sym what.blocks_are) ends)

  -- ---- behind its operand: the old value is given

  -- what C computed it computes in the midst of the store
  computed_again : (computes : CTy) (op : Op2) (of_right : CTyped) (c2 later : World) (old new : Value) → ((value : Value) → SameSize c2 later value) → IsComputed x computes op of_right (blocks_of c2) old new → IsComputed x computes op of_right (blocks_of later) old new
  computed_again computes op of_right c2 later old new same is = record {
    left = is.left;
    left_is = record { kind = is.left_is.kind; kind_is = is.left_is.kind_is; found = scalar_same c2 later is.left_is.kind old (same old) ∙ is.left_is.found };
    left_in = is.left_in;
    found = binary_same c2 later (setting_in x.s) op computes computes of_right.type is.left of_right.value (same is.left) (same of_right.value) ∙ is.found;
    new_in = is.new_in;
  }

  converted_again : (type : CTy) (c2 later : World) (old new : Value) → ((value : Value) → SameSize c2 later value) → ScalarConverted (setting_in x.s) type (blocks_of c2) old new → ScalarConverted (setting_in x.s) type (blocks_of later) old new
  converted_again type c2 later old new same is = record { kind = is.kind; kind_is = is.kind_is; found = scalar_same c2 later is.kind old (same old) ∙ is.found }

  pub bits_behind : (fixed : Bool) (type : CTy) (at : Place) (form : CForm) (one : Written) (list : List Stmt) (from : ℕ) (images last : Images) (c0 w0 c2 w2 : World) (holder : Ty) (given : Given) (spot : Spot) (right : Operand) (now : CUpdating) → At x images c0 w0 →
      Reached x from one.next images last c0 w0 c2 w2 → from ≤ one.next → kept_type x one.next type → now.update.is_postfix ≡ true → BitsUpdating type now.update holder given spot right one.next last c2 w2 →
      ((w : World) → OperandStands last x.frame w right now.update.right.value) →
      OweAs x (DidOf x true fixed (expr type at form) (then_takes (type_in x.names type) list (given_form.value (Read (temporary_place x.names one.next))) one) from images c0 w0) (c_update (setting_in x.s) (scope x) at type now c2)
      (Assign (temporary_place x.names one.next) (given_value (field_form (address_of_given given) spot (type_in x.names type)))
      ∷ bit_write (address_of_given given) spot (bits_changed type now.update right (given_form.value (Read (temporary_place x.names one.next))))) w2
  bits_behind fixed type at form one list from images last c0 w0 c2 w2 holder given spot right now here reached rises kept_is behind is rights =
      let T = type_in x.names type in
      let temporary = temporary_place x.names one.next in
      let base_is = address_of_given given in
      let old_form = field_form base_is spot T in
      let first = given_value old_form in
      let new_e = bits_changed type now.update right (given_form.value (Read temporary)) in
      let rest = Assign temporary first ∷ bit_write base_is spot new_e in
      let Good = DidOf x true fixed (expr type at form) (then_takes T list (given_form.value (Read temporary)) one) from images c0 w0 in
      let kind_there_is = x.means.scalars type is.kind is.kind_is in
      let old = old_bits type now.update holder given spot right one.next last c2 w2 reached.at is in
      let old_v = value_gives last x.frame w2 (record { ty = T; given = old_form }) now.update.old old.stands in
      let stored_it = stores_temporary x one.next T is.kind first T old_v.other last c2 w2 reached.at kept_is kind_there_is (given_in_range last is.kind now.update.old old_v.other old_v.below is.old_of_kind) old_v.gives in
      let w3 = stored_it.after in
      let stay = temporaries_stay x one.next (suc one.next) last last c2 w2 c2 w3 reached.at stored_it.reached in
      bits_stages Good at type now rest holder given spot right one.next last c2 w2 reached.at is (λ result marks made what.
      let st = bits_stored_is (blocks_of c2) is.place spot.bit spot.width what.marks (scalar what.value) is.kind what.one what.stores in
      let base3 = is.base c2 w3 stored_it.reached.at stay (objects_stay c2) in
      let writes = bits_written x last c2 w3 holder T given spot is.place what.marks is.kind st.number new_e what.one stored_it.reached.at is.in_bytes (profile_is x spot last is.place base3.base is.profile is.near base3.below) base3
      (λ part beyond midst left.
      let beside = temporaries_beside x one.next last c2 w3 part beyond stored_it.reached.at left in
      is.base (with_memory part c2) (with_held (with_blocks beyond w3.held) w3) midst.at (λ k kept_one local p kept_it is_local. beside k kept_one local p kept_it is_local ∙ stay k kept_one local p kept_it is_local) midst.keeps)
      (λ part beyond midst left.
      let w4 = with_held (with_blocks beyond w3.held) w3 in
      let same : (value : Value) → SameSize c2 (with_memory part c2) value = λ value.
      sizes_last x.home.program false [] c2 (with_memory part c2) (scope x) value reached.at.typed.owned (midst.keeps, record { each = tt; shapes = midst.shapes }) (λ f. cc (f)) in
      let reads_it = reads_staying x one.next (suc one.next) T is.kind old_v.other w3 w4 (omega arith) stored_it.holds (temporaries_beside x (suc one.next) last c2 w3 part beyond stored_it.reached.at left) in
      let new_gave = changed_gives x last (with_memory part c2) w4 type now.update.computes now.update.op now.update.right right (given_form.value (Read temporary)) now.update.old what.new what.value midst.at is.operator is.old_in
      (record { stands = record { other = old_v.other; gives = reads_it; below = old_v.below }; based = other_based x w4 (given_form.value (Read temporary)) (λ q e. cc (e)) }) (rights w4)
      (computed_again now.update.computes now.update.op now.update.right c2 (with_memory part c2) now.update.old what.new same what.computed) (converted_again type c2 (with_memory part c2) what.new what.value same what.converted) in
      stored_number last w4 new_e T what.value new_gave.other st.number st.new_is new_gave.below new_gave.gives)
      (number_casts x T is.kind st.number kind_there_is st.of_kind)
      (subst (λ (v : CValue). stored_bits (blocks_of c2) is.place spot.bit spot.width what.marks v is.kind ≡ Ok what.one) st.new_is what.stores) in
      let after = with_held (with_blocks writes.beyond w3.held) w3 in
      let reached3 = reached_then x from one.next (suc one.next) images last last c0 w0 c2 w2 c2 w3 rises (omega arith) here reached stored_it.reached in
      let after_stay = temporaries_beside x (suc one.next) last c2 w3 what.one.blocks writes.beyond stored_it.reached.at writes.left in
      let result_is : result ≡ scalar now.update.old = what.result_is ∙ ap (λ (b : Bool). update_value b now.update.old what.one.value) behind in
      subst (λ (blocks : Blocks). OweAs x Good (came (record { type = type; value = result; marks = marks }) (with_memory blocks c2)) rest w2) (sym what.blocks_are)
      (end_owes x Good (record { type = type; value = result; marks = marks }) rest (with_memory what.one.blocks c2) w2 after
      (λ units. run_behind x.frame (Assign temporary first ∷ []) (bit_write base_is spot new_e) w2 w3 units (stored_it.comes units) ∙ writes.runs units) (record {
        flow_is = refl;
        later = last;
        own = reached3.own;
        are_own = reached3.are_own;
        keeps = both_keep (length (blocks_of w0)) reached3.own images last last c0.held c2.held (with_blocks what.one.blocks c2.held) w0.held w3.held (with_blocks writes.beyond w3.held) here.worlds.held.memories.mapped
            reached3.at.worlds.held.memories.mapped reached3.keeps (writes.left.keeps (length (blocks_of w0)) reached3.own);
        worlds = worlds_held last last c2 w3 (with_blocks what.one.blocks c2.held) (with_blocks writes.beyond w3.held) reached3.at.worlds writes.left.stands;
        gives = λ end c_later later is_later.
            let reads_it = reads_staying x one.next (suc one.next) T is.kind old_v.other w3 later (omega arith) stored_it.holds
            (λ k kept_one local p kept_it is_local. is_later.temporaries k kept_one local p kept_it is_local ∙ after_stay k kept_one local p kept_it is_local) in
            subst (λ (v : CValue). GivesOperand x.s x.names end x.c_frame x.frame later (expr type at form) (given_form.value (Read temporary)) v) (sym result_is) (record {
              stands = record { other = old_v.other; gives = reads_it; below = value_stays last end now.update.old old_v.other is_later.extends old_v.below };
              based = other_based x later (given_form.value (Read temporary)) (λ q e. cc (e));
            });
      })))
