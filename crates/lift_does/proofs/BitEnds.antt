-- A number is stored in a bit-field in both, behind a temporary that holds it (ISO C99, 6.5.16p3 and 6.7.2.1p9).
use Rattle.std.proofs.Common.{◌≡◌, ℕ, zero, suc, ◌+◌, ◌-◌, ◌^◌, ◌≤◌, ◌<◌, int_le, int_lt, ℤ, pos, negsuc, Bool, true, false, ◌&&◌, if◌then◌else◌, [], ◌∷◌, length, Some, Result, Ok, refl, sym, ap, subst, ◌∙◌, arith, tests}
use Rattle.std.proofs.Math.Nat.{mod-eq_of_lt}
use Rattle.std.proofs.lemmas.Int.{ints}
use Rattle.std.proofs.lemmas.Nat.{pow_pos}
use Rattle.cr_base.proofs.Residues.{residue_below, residue_from_half}
use Rattle.cr_base.specs.Scalar.{IsInRange, least, above, residue, wrapped, from_half}
use Rattle.cr_base.specs.declared.layout.Spot.{Spot}
use Rattle.cr_base.specs.declared.refusal.Place.{Place}
use Rattle.cr_base.specs.declared.scalar.Scalar.{Scalar}
use Rattle.cr_base.specs.declared.scalar.Scalar.TheVariants as scalars
use Rattle.cr_runs.specs.Runs.{came}
use Rattle.cr_world.specs.Held.{with_blocks}
use Rattle.cr_world.specs.World.{World, blocks_of, with_held, with_memory}
use Rattle.cx_core.specs.Trees.{CTy, expr, CForm}
use Rattle.cx_mean.specs.Accesses.{field_value, CStored, stored_bits}
use Rattle.cx_mean.specs.Marks.{Marks}
use Rattle.cx_mean.specs.Operands.{CWhy, CValue, scalar}
use Rattle.cx_mean.specs.Values.{is_of_kind}
use Rattle.cx_numbers.specs.Numbers.{represents}
use Rattle.cx_typed_work.specs.ExternalCalls.{KeepsObjects}
use Rattle.lift_does.proofs.Around.{Around, At, DidOf, OweAs, Reached}
use Rattle.lift_does.proofs.BitLoads.{whole_range}
use Rattle.lift_does.proofs.BitStores.{StoredBits, Midst, in_the_midst}
use Rattle.lift_does.proofs.Narrowed.{two_halves, unsigned_gives, signed_gives}
use Rattle.lift_does.proofs.Lasting.{objects_stay}
use Rattle.lift_does.proofs.Operands.{where_used, other_based}
use Rattle.lift_does.proofs.Reaching.{reached_then, temporaries_stay}
use Rattle.lift_does.proofs.RecordAssignments.{temporaries_beside}
use Rattle.lift_does.proofs.Runs.{run_behind, end_owes}
use Rattle.lift_does.proofs.Temporaries.{stores_temporary, reads_staying}
use Rattle.lift_does.specs.Gives.{GivesBase, GivesOperand}
use Rattle.lift_does.specs.Later.{TemporariesStay}
use Rattle.lift_exprs.specs.Names.{type_in}
use Rattle.lift_exprs.specs.Stores.{a_field, settled, held_store, given_where}
use Rattle.lift_exprs.specs.Written.{Written, temporary_place, address_of_given}
use Rattle.lift_forms.specs.BitFields.{bit_write}
use Rattle.lift_forms.specs.Given.{Given}
use Rattle.lift_forms.specs.Given as given_form
use Rattle.lift_forms.specs.LawsTyping.{IsBitField}
use Rattle.lift_forms_laws.proofs.BothMemories.{stores}
use Rattle.lift_forms_laws.specs.Gives.{GivesAt}
use Rattle.lift_forms_laws.specs.LawsBits.{low_bits}
use Rattle.lift_forms_laws.specs.LawsBoth.{BitFieldStored}
use Rattle.lift_stands.proofs.Kept.{both_keep}
use Rattle.lift_stands.specs.Stands.{Images, PlaceBelow, ValueBelow}
use Rattle.lift_stands_accesses.specs.Objects.{LeftStanding}
use Rattle.lift_stands_lives.proofs.Begun.{worlds_held}
use Rattle.mem_bytes.specs.Coding.{IsValueOf}
use Rattle.mem_bytes.specs.Laws.{behind}
use Rattle.mem_bytes.specs.Memory.{Blocks}
use Rattle.mem_bytes.specs.declared.value.Ptr.{Ptr}
use Rattle.mem_bytes.specs.declared.value.Value.{Value}
use Rattle.mem_bytes.specs.declared.value.Value.TheVariants.{Whole, Object}
use Rattle.rs_mean.specs.Scalars.{scalar_of, integer_scalar, is_signed_integer}
use Rattle.rs_mean.specs.Typing.{casts}
use Rattle.rs_text.specs.declared.integer.IntegerTy.{IntegerTy}
use Rattle.rs_text.specs.declared.integer.IntegerTy.TheVariants.{I8, I16, I32, I64, U8, U16, U32, U64, Isize, Usize}
use Rattle.rs_text.specs.Tree.{Ty, Integer, Boolean, Void, Pointer, Array, Code, Record, Expr, Read, Assign}

-- ---- one base

same_base : (images : Images) (at one other : Ptr) (byte : ℕ) → PlaceBelow images at (behind one byte) → PlaceBelow images at (behind other byte) → one ≡ other
same_base images at one other byte first second =
    let blocks : Some one.block ≡ Some other.block = sym first.block ∙ second.block in
    let block : one.block ≡ other.block = cc (blocks) in
    let offsets : one.offset + byte ≡ other.offset + byte = first.offset ∙ sym second.offset in
    let offset : one.offset ≡ other.offset = omega (arith, offsets) in
    ap (λ (b : ℕ). record { block = b; offset = one.offset }) block ∙ ap (λ (o : ℕ). record { block = other.block; offset = o }) offset

-- ---- the number that is stored

kind_tests : (kind : Scalar) (n : ℤ) → IsInRange kind n → represents kind n ≡ true
kind_tests kind n is = let low = is.0 in let high = is.1 in by (int_le (least kind) n) (int_lt n (above kind)) refl refl
  where
    by : (one other : Bool) → int_le (least kind) n ≡ one → int_lt n (above kind) ≡ other → (one && other) ≡ true
    by true true e f = refl
    by false other e f = absurd (grind (arith, ints, tests, e, is.0))
    by true false e f = absurd (grind (arith, ints, tests, f, is.1))

kind_of_number : (kind : Scalar) (n : ℤ) → IsValueOf kind (Whole n) → is_of_kind kind (Whole n) ≡ true
kind_of_number scalars.Truth n is = kind_tests scalars.Truth n is
kind_of_number (scalars.Whole width signed) n is = kind_tests (scalars.Whole width signed) n is
kind_of_number scalars.Object n is = absurd is
kind_of_number scalars.Code n is = absurd is

abbrev value_ok : Value → Result Value CWhy
value_ok value = Ok value

ok_is : (one other : Value) → value_ok one ≡ value_ok other → one ≡ other
ok_is one other e = cc (e)

-- the number of a field
field_number : (width : ℕ) (signed : Bool) (n : ℕ) → 0 < width → n < 2 ^ width → wrapped (scalars.Whole width signed) (pos n) ≡ (if signed then from_half (2 ^ (width - 1)) n else pos n)
field_number width true n some below =
    let twice = two_halves width some in
    ap (λ (k : ℕ). from_half (2 ^ (width - 1)) k) (mod-eq_of_lt (subst (λ (m : ℕ). n < m) twice below))
field_number width false n some below = ap pos (mod-eq_of_lt below)

field_residue : (width : ℕ) (signed : Bool) (n : ℕ) → 0 < width → n < 2 ^ width → residue (if signed then from_half (2 ^ (width - 1)) n else pos n) (2 ^ width) ≡ n
field_residue width true n some below =
    let twice = two_halves width some in
    subst (λ (m : ℕ). residue (from_half (2 ^ (width - 1)) n) m ≡ n) (sym twice) (residue_from_half (2 ^ (width - 1)) n (subst (λ (m : ℕ). n < m) twice below))
field_residue width false n some below = mod-eq_of_lt below

integer_field : (which : IntegerTy) (width bits : ℕ) (of_c : Value) → field_value (integer_scalar which) width bits ≡ Ok of_c → of_c ≡ Whole (wrapped (scalars.Whole width (is_signed_integer which)) (pos bits))
integer_field I8 width bits of_c e = sym (ok_is (Whole (wrapped (scalars.Whole width true) (pos bits))) of_c e)
integer_field I16 width bits of_c e = sym (ok_is (Whole (wrapped (scalars.Whole width true) (pos bits))) of_c e)
integer_field I32 width bits of_c e = sym (ok_is (Whole (wrapped (scalars.Whole width true) (pos bits))) of_c e)
integer_field I64 width bits of_c e = sym (ok_is (Whole (wrapped (scalars.Whole width true) (pos bits))) of_c e)
integer_field U8 width bits of_c e = sym (ok_is (Whole (wrapped (scalars.Whole width false) (pos bits))) of_c e)
integer_field U16 width bits of_c e = sym (ok_is (Whole (wrapped (scalars.Whole width false) (pos bits))) of_c e)
integer_field U32 width bits of_c e = sym (ok_is (Whole (wrapped (scalars.Whole width false) (pos bits))) of_c e)
integer_field U64 width bits of_c e = sym (ok_is (Whole (wrapped (scalars.Whole width false) (pos bits))) of_c e)
integer_field Isize width bits of_c e = sym (ok_is (Whole (wrapped (scalars.Whole width true) (pos bits))) of_c e)
integer_field Usize width bits of_c e = sym (ok_is (Whole (wrapped (scalars.Whole width false) (pos bits))) of_c e)

truth_field : (width : ℕ) (n : ℤ) → 0 < width → width ≤ 1 → IsInRange scalars.Truth n → pos (residue n (2 ^ width)) ≡ n
truth_field width n some few is = by n is (subst (λ (w : ℕ). residue n (2 ^ w) ≡ residue n 2) (let one : 1 ≡ width = omega (arith, some, few) in one) refl)
  where
    by : (m : ℤ) → IsInRange scalars.Truth m → residue n (2 ^ width) ≡ residue n 2 → pos (residue n (2 ^ width)) ≡ n
    by m range same = ap pos same ∙ low n is
      where
        low : (k : ℤ) → IsInRange scalars.Truth k → pos (residue k 2) ≡ k
        low (pos zero) r = refl
        low (pos (suc zero)) r = refl
        low (pos (suc (suc k))) r = let high = r.1 in absurd (omega (arith, ints, high))
        low (negsuc k) r = let down = r.0 in absurd (omega (arith, ints, down))

module _ (x : Around) where
  -- what goes to the temporary has the bits that C stores, and is the value of the assignment where that is used
  pub record Settles (used : Bool) (world : World) (target : Ty) (e : Expr) (base : Expr) (spot : Spot) (kind : Scalar) (number : ℤ) (of_c : Value) : Type 0 where
    pub settles : ℤ
    pub gives : GivesAt x.frame world (settled used (a_field base spot target) e) target (Whole settles)
    pub of_kind : IsValueOf kind (Whole settles)
    pub low : residue settles (2 ^ spot.width) ≡ residue number (2 ^ spot.width)
    pub value_is : used ≡ true → of_c ≡ Whole settles

  settle_number : (used : Bool) (world : World) (target : Ty) (e base : Expr) (spot : Spot) (kind : Scalar) (number : ℤ) (of_c : Value) → IsBitField spot → scalar_of target ≡ Some kind → (kind ≡ scalars.Truth → spot.width ≤ 1) →
      GivesAt x.frame world e target (Whole number) → IsValueOf kind (Whole number) → field_value kind spot.width (residue number (2 ^ spot.width)) ≡ Ok of_c → IsValueOf kind of_c → Settles used world target e base spot kind number of_c
  settle_number false world target e base spot kind number of_c is kind_is truth_width gives of_kind means of_value = record { settles = number; gives = gives; of_kind = of_kind; low = refl; value_is = λ same. cc (same) }
  settle_number true world (Integer which) e base spot kind number of_c is kind_is truth_width gives of_kind means of_value =
      let r = residue number (2 ^ spot.width) in
      let below : r < 2 ^ spot.width = residue_below number (2 ^ spot.width) (pow_pos spot.width) in
      let same : integer_scalar which ≡ kind = cc (kind_is) in
      let value_of = integer_field which spot.width r of_c (subst (λ (k : Scalar). field_value k spot.width r ≡ Ok of_c) (sym same) means) ∙ ap Whole (field_number spot.width (is_signed_integer which) r is.some below) in
      by (is_signed_integer which) refl value_of
    where
      r : ℕ
      r = residue number (2 ^ spot.width)

      by : (signed : Bool) → is_signed_integer which ≡ signed → of_c ≡ Whole (if is_signed_integer which then from_half (2 ^ (spot.width - 1)) (residue number (2 ^ spot.width)) else pos (residue number (2 ^ spot.width))) →
          Settles true world (Integer which) e base spot kind number of_c
      by true sign value_of =
          let below : residue number (2 ^ spot.width) < 2 ^ spot.width = residue_below number (2 ^ spot.width) (pow_pos spot.width) in
          let same : integer_scalar which ≡ kind = cc (kind_is) in
          let v : of_c ≡ Whole (from_half (2 ^ (spot.width - 1)) (residue number (2 ^ spot.width))) = value_of ∙ ap (λ (s : Bool). Whole (if s then from_half (2 ^ (spot.width - 1)) (residue number (2 ^ spot.width)) else pos (residue number (2 ^ spot.width)))) sign in
          let range = whole_range which (from_half (2 ^ (spot.width - 1)) (residue number (2 ^ spot.width))) (subst (λ (k : Scalar). IsValueOf k (Whole (from_half (2 ^ (spot.width - 1)) (residue number (2 ^ spot.width))))) (sym same) (subst (IsValueOf kind) v of_value)) in
          record {
            settles = from_half (2 ^ (spot.width - 1)) (residue number (2 ^ spot.width));
            gives = rw (sign) (signed_gives x.frame world spot is which e number gives range);
            of_kind = subst (IsValueOf kind) v of_value;
            low = field_residue spot.width true (residue number (2 ^ spot.width)) is.some below;
            value_is = λ _. v;
          }
      by false sign value_of =
          let below : residue number (2 ^ spot.width) < 2 ^ spot.width = residue_below number (2 ^ spot.width) (pow_pos spot.width) in
          let same : integer_scalar which ≡ kind = cc (kind_is) in
          let v : of_c ≡ Whole (pos (residue number (2 ^ spot.width))) = value_of ∙ ap (λ (s : Bool). Whole (if s then from_half (2 ^ (spot.width - 1)) (residue number (2 ^ spot.width)) else pos (residue number (2 ^ spot.width)))) sign in
          let range = whole_range which (pos (residue number (2 ^ spot.width))) (subst (λ (k : Scalar). IsValueOf k (Whole (pos (residue number (2 ^ spot.width))))) (sym same) (subst (IsValueOf kind) v of_value)) in
          record {
            settles = pos (residue number (2 ^ spot.width));
            gives = rw (sign) (unsigned_gives x.frame world spot is which e number gives range);
            of_kind = subst (IsValueOf kind) v of_value;
            low = field_residue spot.width false (residue number (2 ^ spot.width)) is.some below;
            value_is = λ _. v;
          }
  settle_number true world Boolean e base spot kind number of_c is kind_is truth_width gives of_kind means of_value =
      let same : scalars.Truth ≡ kind = cc (kind_is) in
      let found = subst (λ (k : Scalar). field_value k spot.width (residue number (2 ^ spot.width)) ≡ Ok of_c) (sym same) means in
      let range : IsInRange scalars.Truth number = subst (λ (k : Scalar). IsValueOf k (Whole number)) (sym same) of_kind in
      let few = truth_width (sym same) in
      record {
        settles = number;
        gives = gives;
        of_kind = of_kind;
        low = refl;
        value_is = λ _. sym (ok_is (Whole (pos (residue number (2 ^ spot.width)))) of_c found) ∙ ap Whole (truth_field spot.width number is.some few range);
      }
  settle_number true world (Pointer to) e base spot kind number of_c is kind_is truth_width gives of_kind means of_value = let same : scalars.Object ≡ kind = cc (kind_is) in absurd (subst (λ (k : Scalar). IsValueOf k (Whole number)) (sym same) of_kind)
  settle_number true world (Code params result) e base spot kind number of_c is kind_is truth_width gives of_kind means of_value = let same : scalars.Code ≡ kind = cc (kind_is) in absurd (subst (λ (k : Scalar). IsValueOf k (Whole number)) (sym same) of_kind)
  settle_number true world Void e base spot kind number of_c is kind_is truth_width gives of_kind means of_value = cc (kind_is)
  settle_number true world (Array element size) e base spot kind number of_c is kind_is truth_width gives of_kind means of_value = cc (kind_is)
  settle_number true world (Record m y) e base spot kind number of_c is kind_is truth_width gives of_kind means of_value = cc (kind_is)

  pub number_casts : (target : Ty) (kind : Scalar) (n : ℤ) → scalar_of target ≡ Some kind → IsValueOf kind (Whole n) → casts target (Integer U64) ≡ true
  number_casts (Integer which) kind n e is = refl
  number_casts Boolean kind n e is = refl
  number_casts (Pointer to) kind n e is = let same : scalars.Object ≡ kind = cc (e) in absurd (subst (λ (k : Scalar). IsValueOf k (Whole n)) (sym same) is)
  number_casts (Code params result) kind n e is = let same : scalars.Code ≡ kind = cc (e) in absurd (subst (λ (k : Scalar). IsValueOf k (Whole n)) (sym same) is)
  number_casts Void kind n e is = cc (e)
  number_casts (Array element size) kind n e is = cc (e)
  number_casts (Record m y) kind n e is = cc (e)

  -- ---- the bytes

  -- what both have behind it
  pub bits_written : (last : Images) (c_world world : World) (holder target : Ty) (given : Given) (spot : Spot) (place : Ptr) (marks : Marks) (kind : Scalar) (number : ℤ) (s : Expr) (found : CStored) → At x last c_world world → last.in_bytes ≡ true → IsBitField spot →
      (base : GivesBase last x.frame world holder given spot place) → ((part beyond : Blocks) → Midst x last c_world world part beyond → LeftStanding last c_world.held world.held part beyond → GivesBase last x.frame (with_held (with_blocks beyond world.held) world) holder given spot place) →
      ((part beyond : Blocks) → Midst x last c_world world part beyond → LeftStanding last c_world.held world.held part beyond → GivesAt x.frame (with_held (with_blocks beyond world.held) world) s target (Whole number)) →
      casts target (Integer U64) ≡ true → stored_bits (blocks_of c_world) place spot.bit spot.width marks (scalar (Whole number)) kind ≡ Ok found →
      BitFieldStored last c_world.held x.frame world (bit_write (address_of_given given) spot s) found
  bits_written last c_world world holder target given spot place marks kind number s found here in_bytes is base bases gives number_is e =
      stores last x.frame world place base.base spot marks kind in_bytes base.below is c_world.held number found (address_of_given given) s holder target here.worlds.held number_is
      (record {
        gives = λ many part beyond less put left.
            let midst = in_the_midst x last c_world world place spot.bit many (low_bits many number) part beyond here put left in
            let again = bases part beyond midst left in
            subst (λ (p : Ptr). GivesAt x.frame (with_held (with_blocks beyond world.held) world) (address_of_given given) (Pointer holder) (Object p)) (same_base last place again.base base.base spot.byte again.below base.below) again.gives;
      })
      (record {
        gives = λ many part beyond less put left. gives part beyond (in_the_midst x last c_world world place spot.bit many (low_bits many number) part beyond here put left) left;
      }) e

  -- ---- a temporary, and then the bytes

  pub bits_end : (used fixed : Bool) (type : CTy) (at : Place) (form : CForm) (one : Written) (from : ℕ) (images last : Images) (c0 w0 c2 w2 : World) (holder : Ty) (given : Given) (spot : Spot) (place : Ptr) (marks : Marks) (new : CValue) (kind : Scalar) (e : Expr)
      (found : CStored) (result : CValue) (result_marks : Marks) → (used ≡ true → result ≡ found.value) → (st : StoredBits (blocks_of c2) place spot.bit spot.width marks new kind found) → IsValueOf kind st.of_c → At x images c0 w0 → Reached x from one.next images last c0 w0 c2 w2 → from ≤ one.next → last.in_bytes ≡ true → IsBitField spot → scalar_of (type_in x.names type) ≡ Some kind → (kind ≡ scalars.Truth → spot.width ≤ 1) →
      x.kept.temporaries one.next ≡ Some (record { name = x.names.temporary one.next; ty = type_in x.names type }) →
      ((c_later later : World) → At x last c_later later → TemporariesStay x.kept x.frame one.next w2 later → KeepsObjects c2.held c_later.held → GivesBase last x.frame later holder given spot place) →
      GivesAt x.frame w2 e (type_in x.names type) (Whole st.number) →
      OweAs x (DidOf x used fixed (expr type at form) (held_store x.names used (a_field (address_of_given given) spot (type_in x.names type)) e one) from images c0 w0)
      (came (record { type = type; value = result; marks = result_marks }) (with_memory found.blocks c2))
      (Assign (temporary_place x.names one.next) (settled used (a_field (address_of_given given) spot (type_in x.names type)) e) ∷ bit_write (address_of_given given) spot (Read (temporary_place x.names one.next))) w2
  bits_end used fixed type at form one from images last c0 w0 c2 w2 holder given spot place marks new kind e found result result_marks result_is st of_value here reached rises in_bytes is kind_is truth_width kept_is bases gives =
      let target = type_in x.names type in
      let base_is = address_of_given given in
      let temporary = temporary_place x.names one.next in
      let settle = settle_number used w2 target e base_is spot kind st.number st.of_c is kind_is truth_width gives st.of_kind st.means of_value in
      let first = settled used (a_field base_is spot target) e in
      let stored_it = stores_temporary x one.next target kind first target (Whole settle.settles) last c2 w2 reached.at kept_is kind_is settle.of_kind settle.gives in
      let w3 = stored_it.after in
      let stay = temporaries_stay x one.next (suc one.next) last last c2 w2 c2 w3 reached.at stored_it.reached in
      let writes = bits_written last c2 w3 holder target given spot place marks kind settle.settles (Read temporary) found stored_it.reached.at in_bytes is (bases c2 w3 stored_it.reached.at stay (objects_stay c2))
      (λ part beyond midst left.
      let beside = temporaries_beside x one.next last c2 w3 part beyond stored_it.reached.at left in
      bases (with_memory part c2) (with_held (with_blocks beyond w3.held) w3) midst.at (λ k kept_one local p kept_it is_local. beside k kept_one local p kept_it is_local ∙ stay k kept_one local p kept_it is_local) midst.keeps)
      (λ part beyond midst left.
      reads_staying x one.next (suc one.next) target kind (Whole settle.settles) w3 (with_held (with_blocks beyond w3.held) w3) (omega arith) stored_it.holds (temporaries_beside x (suc one.next) last c2 w3 part beyond stored_it.reached.at left))
      (number_casts target kind settle.settles kind_is settle.of_kind) (st.again settle.settles (kind_of_number kind settle.settles settle.of_kind) settle.low) in
      let after = with_held (with_blocks writes.beyond w3.held) w3 in
      let reached3 = reached_then x from one.next (suc one.next) images last last c0 w0 c2 w2 c2 w3 rises (omega arith) here reached stored_it.reached in
      let after_stay = temporaries_beside x (suc one.next) last c2 w3 found.blocks writes.beyond stored_it.reached.at writes.left in
      end_owes x (DidOf x used fixed (expr type at form) (held_store x.names used (a_field base_is spot target) e one) from images c0 w0) (record { type = type; value = result; marks = result_marks })
      (Assign temporary first ∷ bit_write base_is spot (Read temporary)) (with_memory found.blocks c2) w2 after
      (λ units. run_behind x.frame (Assign temporary first ∷ []) (bit_write base_is spot (Read temporary)) w2 w3 units (stored_it.comes units) ∙ writes.runs units) (record {
        flow_is = refl;
        later = last;
        own = reached3.own;
        are_own = reached3.are_own;
        keeps = both_keep (length (blocks_of w0)) reached3.own images last last c0.held c2.held (with_blocks found.blocks c2.held) w0.held w3.held (with_blocks writes.beyond w3.held) here.worlds.held.memories.mapped reached3.at.worlds.held.memories.mapped
            reached3.keeps (writes.left.keeps (length (blocks_of w0)) reached3.own);
        worlds = worlds_held last last c2 w3 (with_blocks found.blocks c2.held) (with_blocks writes.beyond w3.held) reached3.at.worlds writes.left.stands;
        gives = λ end c_later later is_later. where_used used x end later (expr type at form) (given_where used (Read temporary)) result (λ is_used.
            let reads_it = reads_staying x one.next (suc one.next) target kind (Whole settle.settles) w3 later (omega arith) stored_it.holds
            (λ k kept_one local p kept_it is_local. is_later.temporaries k kept_one local p kept_it is_local ∙ after_stay k kept_one local p kept_it is_local) in
            subst (λ (v : CValue). GivesOperand x.s x.names end x.c_frame x.frame later (expr type at form) (given_where used (Read temporary)) v) (sym (result_is is_used ∙ (st.value_is ∙ ap scalar (settle.value_is is_used))))
            (subst (λ (u : Bool). GivesOperand x.s x.names end x.c_frame x.frame later (expr type at form) (given_where u (Read temporary)) (scalar (Whole settle.settles))) (sym is_used) (record {
              stands = record { other = Whole settle.settles; gives = reads_it; below = ValueBelow.same_number settle.settles };
              based = other_based x later (given_form.value (Read temporary)) (λ q same. cc (same));
            })));
      })
