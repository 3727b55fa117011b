-- Where a bit-field stands: the address of the structure or union that holds it (ISO C99, 6.5.2.3 and 6.7.2.1p9).
use Rattle.std.proofs.Common.{◌≡◌, inr, ℕ, zero, suc, ◌+◌, ◌≤◌, ◌==◌, nat_le, nat_lt, pos, Bool, true, false, not, if◌then◌else◌, [], ◌∷◌, Some, Result, Ok, Err, refl, sym, ap, subst, ◌∙◌, arith}
use Rattle.std.proofs.lemmas.Bool.Decides.{nat_tests}
use Rattle.cr_base.specs.declared.layout.Spot.{Spot}
use Rattle.cr_base.specs.declared.refusal.Place.{Place}
use Rattle.cr_base.specs.declared.rule.URule.TheVariants.{U11}
use Rattle.cr_base.specs.declared.scalar.Scalar.TheVariants as scalars
use Rattle.cr_world.specs.World.{World, blocks_of}
use Rattle.cx_core.specs.Trees.{CTy, CExpr, expr, member, type_of}
use Rattle.cx_core.specs.Typing.{IsLvalue}
use Rattle.cx_mean.specs.Accesses.{object_at}
use Rattle.cx_mean.specs.Initialisers.{part_with}
use Rattle.cx_mean.specs.Marks.{Marks}
use Rattle.cx_mean.specs.Nodes.{member_of_place, aligned_place}
use Rattle.cx_mean.specs.Operands.{CWhy, accessed, by_pointers, needed, CValue, scalar, cells, names, designates, designates_bits, missing, place_in}
use Rattle.cx_mean.specs.Settings.{extent_in}
use Rattle.cx_typed_work.proofs.Given.{place_given}
use Rattle.cx_typed_work.specs.Operands.{IsPlaceOf}
use Rattle.lift_calls.specs.Programs.{setting_in}
use Rattle.lift_does.proofs.Around.{Around, scope, At, DidOf, value_in}
use Rattle.lift_does.proofs.Lasting.{all_front}
use Rattle.lift_does.proofs.Loads.{place_at_object}
use Rattle.lift_does.proofs.Lvalues.{some_width, holder_plain, node_place}
use Rattle.lift_does.proofs.Members.{lvalue_is, member_plain}
use Rattle.lift_does.proofs.Nodes.{and_then_is, PartOwes, pure_one}
use Rattle.lift_does.proofs.Operands.{node_one, pure_step, where_used, lvalue_given}
use Rattle.lift_does.proofs.Places.{pointer_below}
use Rattle.lift_does.proofs.Reaching.{Knows, knows, reached_by, reached_then, later_itself}
use Rattle.lift_does.proofs.Runs.{behind_owes, end_owes, known_owes}
use Rattle.lift_does.proofs.Temporaries.{stores_temporary, reads_staying}
use Rattle.lift_does.specs.Gives.{GivesLvalue, GivesBase, GivesOperand, GivesWhere}
use Rattle.lift_does.specs.Later.{AllOf, IsSameAt}
use Rattle.lift_exprs.specs.Lifted.{lifted, lifted_form, member_given}
use Rattle.lift_exprs.specs.Names.{type_in}
use Rattle.lift_exprs.specs.Written.{Written, a_bit_field, then_held, temporary_place, address_of_given}
use Rattle.lift_forms.specs.Given.{Given, address_of}
use Rattle.lift_forms.specs.Given as given_form
use Rattle.lift_forms_laws.proofs.Constants.{addresses}
use Rattle.lift_forms_laws.specs.Gives.{GivesAt}
use Rattle.lift_held.specs.Held.{is_lvalue, whole_of}
use Rattle.lift_held.specs.declared.asked.Asked.{Asked}
use Rattle.lift_stands.proofs.Images.{place_stays}
use Rattle.lift_stands.specs.Stands.{Images}
use Rattle.mem_bytes.specs.Laws.{behind}
use Rattle.mem_bytes.specs.Memory.{Blocks}
use Rattle.mem_bytes.specs.Pointers.{object_size, place_inside, place_moved}
use Rattle.mem_bytes.specs.declared.pointer.PointerFault.{PointerFault}
use Rattle.mem_bytes.specs.declared.pointer.PointerFault.TheVariants.{LeavesObject}
use Rattle.mem_bytes.specs.declared.value.Ptr.{Ptr}
use Rattle.mem_bytes.specs.declared.value.Value.TheVariants.{Object}
use Rattle.rs_mean.specs.Run.{normal}
use Rattle.rs_text.specs.Tree.{Pointer, Read, Assign}

-- ---- where C finds the member

inside_is : (block size offset : ℕ) (new : Ptr) → place_inside block size (pos offset) ≡ Ok new → new ≡ record { block = block; offset = offset }
inside_is block size offset new e = by (nat_le offset size) e
  where
    by : (test : Bool) → (if test then Ok (record { block = block; offset = offset }) else Err LeavesObject) ≡ Ok new → new ≡ record { block = block; offset = offset }
    by true same = cc (same)
    by false same = cc (same)

pointers_ok : {A : Type 0} (found : Result A PointerFault) (one : A) → by_pointers U11 found ≡ Ok one → found ≡ Ok one
pointers_ok (Ok other) one e = cc (e)
pointers_ok (Err fault) one e = cc (e)

pub moved_is : (blocks : Blocks) (at new : Ptr) (n : ℕ) → by_pointers U11 (place_moved blocks at (pos n)) ≡ Ok new → new ≡ behind at n
moved_is blocks at new n e =
    let size = and_then_is (object_size blocks at) _ new (pointers_ok (place_moved blocks at (pos n)) new e) in
    inside_is at.block size.0 (at.offset + n) new size.2

pub bits_part : (at : Ptr) (bit width : ℕ) → (width ≡ 0 → ⊥) → part_with at bit width ≡ designates_bits at bit width
bits_part at bit zero some = absurd (some refl)
bits_part at bit (suc n) some = refl

abbrev value_ok : CValue → Result CValue CWhy
value_ok value = Ok value

ok_is : (one other : CValue) → value_ok one ≡ value_ok other → one ≡ other
ok_is one other e = cc (e)

-- of a structure or union that begins at a place
pub record FieldFound (frame : _) (value : CValue) (spot : Spot) (of_c : CValue) : Type 0 where
  pub at : Ptr
  pub place_is : place_in frame value ≡ Ok (Object at)
  pub is : of_c ≡ designates_bits (behind at spot.byte) spot.bit spot.width

pub field_found : (frame : _) (blocks : Blocks) (spot : Spot) (laid : _) (value of_c : CValue) → (spot.width ≡ 0 → ⊥) → member_of_place blocks spot laid (place_in frame value) ≡ Ok of_c → FieldFound frame value spot of_c
field_found frame blocks spot laid value of_c some e =
    let one = and_then_is (needed laid) _ of_c e in
    let to = and_then_is (place_in frame value) _ of_c one.2 in
    let at = and_then_is (object_at to.0) _ of_c to.2 in
    let new = and_then_is (by_pointers U11 (place_moved blocks at.0 (pos spot.byte))) _ of_c at.2 in
    let there = and_then_is (accessed (aligned_place blocks one.0.align at.0)) _ of_c new.2 in
    let moved = moved_is blocks at.0 new.0 spot.byte new.1 in
    record {
      at = at.0;
      place_is = to.1 ∙ ap Ok (place_at_object to.0 at.0 at.1);
      is = sym (ok_is (part_with new.0 spot.bit spot.width) of_c there.2) ∙ (bits_part new.0 spot.bit spot.width some ∙ ap (λ (p : Ptr). designates_bits p spot.bit spot.width) moved);
    }

-- what the lvalue of a bit-field gives
pub bits_there : (type : CTy) (at : Place) (of : CExpr) (spot : Spot) (of_c : CValue) → not (spot.width == 0) ≡ true → IsPlaceOf (expr type at (member of spot)) of_c → (there : Ptr) × (of_c ≡ designates_bits there spot.bit spot.width)
bits_there type at of spot (designates_bits there bit width) bits is =
    let same : spot ≡ is.spot = cc (is.spot_is) in
    (there, ap (λ (b : ℕ). designates_bits there b width) (is.bit_is ∙ ap (λ (s : Spot). s.bit) (sym same)) ∙ ap (designates_bits there spot.bit) (is.width_is ∙ ap (λ (s : Spot). s.width) (sym same)))
bits_there type at of spot (designates to) bits is = let clash : true ≡ false = sym bits ∙ is.0 in cc (clash)
bits_there type at of spot (names number) bits is = absurd is
bits_there type at of spot (scalar one) bits is = absurd is
bits_there type at of spot (cells list from) bits is = absurd is
bits_there type at of spot missing bits is = absurd is

pub width_test : (width : ℕ) → not (width == 0) ≡ true → nat_lt 0 width ≡ true
width_test width e = grind (arith, nat_tests)

module _ (x : Around) where
  pub bits_given_is : (type : CTy) (of : CExpr) (spot : Spot) (given : Given) → not (spot.width == 0) ≡ true → is_lvalue of ≡ true → member_given x.names type of spot given ≡ given_form.value (address_of_given given)
  bits_given_is type of spot given bits is = rw (width_test spot.width bits, is) refl

  -- the address of what holds it is given, whatever may have been stored since where that is held or named
  pub member_bits_owes : (asked : Asked) (fixed fixed_of : Bool) (type : CTy) (at : Place) (of : CExpr) (spot : Spot) (number : ℕ) (images : Images) (c_world world : World) → At x images c_world world →
      IsLvalue x.home (expr type at (member of spot)) → not (spot.width == 0) ≡ true → (fixed ≡ true → fixed_of ≡ true) → number ≤ (lifted x.names (whole_of spot) of number).next →
      PartOwes x true fixed_of of (lifted x.names (whole_of spot) of number) number images c_world world →
      PartOwes x asked.used fixed (expr type at (member of spot)) (lifted_form x.names asked type (member of spot) number) number images c_world world
  member_bits_owes asked fixed fixed_of type at of spot number images c_world world here typed bits less rises owes =
      let written = lifted x.names (whole_of spot) of number in
      let e = expr type at (member of spot) in
      let some = some_width spot.width bits in
      let plain_of = holder_plain x.home type of spot here.typed.scene.linked.types typed.2.0 typed.2.1 in
      let p = node_place x (whole_of spot) of number typed.2.0 plain_of in
      pure_one x asked.used fixed e (member_given x.names type of spot written.given) type at (member of spot) true fixed_of of written number images c_world world here (inr typed.2.0) less rises owes (λ one c1 made knows_it done_is.
      let node = node_one (setting_in x.s) type (member of spot) (scope x) (blocks_of c1) one made done_is in
      let step = pure_step node.0 (blocks_of c1) _ made node.2 in
      let is_place = place_given x.home of one.value typed.2.0 knows_it.0.operand_is.given in
      let member_is = sym (member_plain (setting_in x.s) (scope x) (blocks_of c1) type (type_of of) spot of one.value is_place) ∙ step.is in
      let found = field_found (scope x) (blocks_of c1) spot (extent_in (setting_in x.s) (type_of of)) one.value step.of_c some member_is in
      record {
        blocks_are = step.blocks_are;
        reads = λ before after all. all_front (IsSameAt before after) one.marks.reads [] (subst (λ (marks : Marks). AllOf (IsSameAt before after) marks.reads) (step.marks_are ∙ node.1) all);
        gives = λ last c_later later there lasts gave. where_used asked.used x last later e (member_given x.names type of spot written.given) made.value (λ _.
            let lvalue = lvalue_given x last later of written.given one.value (Object found.at) found.place_is gave in
            let place_is = subst (λ (g : Given). GivesLvalue last x.frame later (type_in x.names (type_of of)) g (Object found.at)) p.1 lvalue in
            let pointer_is = pointer_below last found.at place_is.spot.at place_is.below in
            let address = subst (GivesAt x.frame later (address_of p.0) (Pointer (type_in x.names (type_of of)))) pointer_is.is (addresses x.frame later (type_in x.names (type_of of)) p.0 place_is.spot place_is.gives place_is.ty_is) in
            subst (λ (v : CValue). GivesOperand x.s x.names last x.c_frame x.frame later e (member_given x.names type of spot written.given) v) (sym (step.value_is ∙ found.is))
            (subst (λ (g : Given). GivesBase last x.frame later (type_in x.names (type_of of)) g spot (behind found.at spot.byte)) (sym (bits_given_is type of spot written.given bits (lvalue_is x.home of typed.2.0)))
            (subst (λ (g : Given). GivesBase last x.frame later (type_in x.names (type_of of)) (given_form.value (address_of_given g)) spot (behind found.at spot.byte)) (sym p.1) (record {
              base = pointer_is.to;
              gives = address;
              below = record { block = pointer_is.below.block; offset = ap (λ (n : ℕ). n + spot.byte) pointer_is.below.offset };
            }))));
      })

  -- it is held
  pub bits_held : (used fixed more : Bool) (type : CTy) (at : Place) (of : CExpr) (spot : Spot) (written : Written) (from : ℕ) (images : Images) (c0 w0 : World) → At x images c0 w0 → IsLvalue x.home (expr type at (member of spot)) → not (spot.width == 0) ≡ true →
      used ≡ true → from ≤ written.next → x.kept.temporaries written.next ≡ Some (record { name = x.names.temporary written.next; ty = Pointer (type_in x.names (type_of of)) }) →
      PartOwes x used fixed (expr type at (member of spot)) written from images c0 w0 →
      PartOwes x used more (expr type at (member of spot)) (then_held x.names (a_bit_field (type_in x.names (type_of of))) written) from images c0 w0
  bits_held used fixed more type at of spot written from images c0 w0 here typed bits is_used rises kept_is owes =
      let e = expr type at (member of spot) in
      let target = type_in x.names (type_of of) in
      let Good = DidOf x used more e (then_held x.names (a_bit_field target) written) from images c0 w0 in
      behind_owes x (λ operand c1 flow w1. DidOf x used fixed e written from images c0 w0 operand c1 flow w1 × Knows x e c0 operand c1) Good (value_in x e c0) written.body (Assign (temporary_place x.names written.next) (address_of_given written.given) ∷ []) w0
      (λ operand c1 flow w1 good. good.0.flow_is)
      (known_owes x (DidOf x used fixed e written from images c0 w0) (Knows x e c0) (value_in x e c0) written.body w0 (knows x e images c0 w0 (inr typed) here) owes)
      (λ operand c1 w1 good.
      let did = good.0 in
      let reached = reached_by x used fixed e written from images c0 w0 operand c1 normal w1 here did good.1.0.at in
      let gave = subst (λ (u : Bool). GivesWhere u x.s x.names did.later x.c_frame x.frame w1 e written.given operand.value) is_used
      (did.gives did.later c1 w1 (later_itself x did.later written.next fixed operand.marks.reads c1 w1 reached.at)) in
      let there = bits_there type at of spot operand.value bits (place_given x.home e operand.value typed good.1.0.operand_is.given) in
      let base_is = subst (λ (v : CValue). GivesOperand x.s x.names did.later x.c_frame x.frame w1 e written.given v) there.1 gave in
      let stored = stores_temporary x written.next (Pointer target) scalars.Object (address_of_given written.given) (Pointer target) (Object base_is.base) did.later c1 w1 reached.at kept_is refl tt base_is.gives in
      let both = reached_then x from written.next (suc written.next) images did.later did.later c0 w0 c1 w1 c1 stored.after rises (omega arith) here reached stored.reached in
      end_owes x Good operand (Assign (temporary_place x.names written.next) (address_of_given written.given) ∷ []) c1 w1 stored.after stored.comes (record {
        flow_is = refl;
        later = did.later;
        own = both.own;
        are_own = both.are_own;
        keeps = both.keeps;
        worlds = both.at.worlds;
        gives = λ last c_later after later. where_used used x last after e (given_form.value (Read (temporary_place x.names written.next))) operand.value (λ _.
            subst (λ (v : CValue). GivesOperand x.s x.names last x.c_frame x.frame after e (given_form.value (Read (temporary_place x.names written.next))) v) (sym there.1) (record {
              base = base_is.base;
              gives = reads_staying x written.next (suc written.next) (Pointer target) scalars.Object (Object base_is.base) stored.after after (omega arith) stored.holds later.temporaries;
              below = place_stays did.later last there.0 (behind base_is.base spot.byte) later.extends base_is.below;
            }));
      }))
