-- Members of lvalues (ISO C99, 6.5.2.3).
use Rattle.std.proofs.Common.{◌≡◌, ◌⊎◌, inl, inr, ℕ, ◌≤◌, Bool, true, ◌&&◌, nat_le, ◌==◌, ◌%◌, ℤ, pos, ◌+ℤ◌, if◌then◌else◌, List, [], Option, Some, None, Result, Ok, Err, refl, sym, ap, subst, ◌∙◌}
use Rattle.cr_base.specs.declared.layout.Laid.{Laid}
use Rattle.cr_base.specs.declared.layout.Spot.{Spot as CSpot}
use Rattle.cr_base.specs.declared.refusal.Place.{Place}
use Rattle.cr_base.specs.declared.rule.URule.TheVariants.{U11}
use Rattle.cr_world.specs.World.{World, blocks_of}
use Rattle.cx_core.specs.Trees.{CTy, CExpr, expr, whole, null, object, code, load, deref, member, address, convert, unary, binary, and, or, cond, assign, assign_by, step, call, call_by, comma, literal, type_of, CProgram}
use Rattle.cx_core.specs.Typing.{CHome, IsLvalue}
use Rattle.cx_core.specs.ValidTypes.{IsMemberOf}
use Rattle.cx_mean.proofs.KeptNodes.{IfGiven}
use Rattle.cx_mean.specs.Initialisers.{part_with}
use Rattle.cx_mean.specs.Marks.{Marks}
use Rattle.cx_mean.specs.Nodes.{aligned_place, member_of_place, member_value}
use Rattle.cx_mean.specs.Operands.{CWhy, needed, accessed, by_pointers, CValue, scalar, cells, names, designates, designates_bits, missing, Frame as CFrame, place_in}
use Rattle.cx_mean.specs.Settings.{CSetting, extent_in}
use Rattle.cx_typed_work.proofs.Given.{place_given}
use Rattle.cx_typed_work.specs.Operands.{IsPlaceOf}
use Rattle.cx_typed_work.specs.Scenes.{IsSameShape}
use Rattle.lift_calls.specs.Programs.{setting_in}
use Rattle.lift_does.proofs.Around.{Around, scope, At}
use Rattle.lift_does.proofs.Lasting.{all_front}
use Rattle.lift_does.proofs.Nodes.{and_then_is, pure_one}
use Rattle.lift_does.proofs.Operands.{node_one, pure_step, or_false, where_used, lvalue_given, one_spot}
use Rattle.lift_does.proofs.Steady.{Scoped, IsScoped, place_scoped, shape_size, SameShapeOf, shapes_last}
use Rattle.lift_does.proofs.Unary.{form_fixed, ExprOwes, FormOwes}
use Rattle.lift_does.specs.Does.{is_fixed}
use Rattle.lift_does.specs.Gives.{IsNoDeref, GivesLvalue, GivesOperand}
use Rattle.lift_does.specs.Later.{AllOf, IsSameAt}
use Rattle.lift_exprs.specs.Lifted.{lifted, field_of, field_name, member_given}
use Rattle.lift_exprs.specs.Names.{type_in, field_in}
use Rattle.lift_exprs.specs.Written.{place_of_given}
use Rattle.lift_forms.specs.Given.{Given}
use Rattle.lift_forms.specs.Given as given_form
use Rattle.lift_forms_laws.proofs.Runs.{seq_is}
use Rattle.lift_forms_laws.specs.Gives.{GivesPlace}
use Rattle.lift_held.specs.Held.{is_lvalue, is_steady, whole_of}
use Rattle.lift_held.specs.declared.asked.Asked.{Asked}
use Rattle.lift_stands.specs.Stands.{Images, ValueBelow}
use Rattle.lift_stands_values.proofs.Members.{member_below, field_found, base_found}
use Rattle.lift_stands_values.specs.Members.{MemberBelow}
use Rattle.mem_bytes.specs.Access.{and_then, is_record_aligned, live_read}
use Rattle.mem_bytes.specs.Memory.{Block, Blocks, live_block}
use Rattle.mem_bytes.specs.Pointers.{place_inside, place_moved}
use Rattle.mem_bytes.specs.declared.fault.Fault.{Fault}
use Rattle.mem_bytes.specs.declared.fault.Fault.TheVariants.{Misaligned}
use Rattle.mem_bytes.specs.declared.pointer.PointerFault.{PointerFault}
use Rattle.mem_bytes.specs.declared.value.Ptr.{Ptr}
use Rattle.mem_bytes.specs.declared.value.Value.{Value}
use Rattle.mem_bytes.specs.declared.value.Value.TheVariants.{Whole as Number, Null, Object, Code as Function}
use Rattle.rs_mean.specs.Calls.{Spot, based}
use Rattle.rs_mean.specs.Layout.{laid_of, laid_at, field_at}
use Rattle.rs_mean.specs.Run.{is_base, run_place, spot_of_field, field_by_type, field_spot}
use Rattle.rs_text.specs.Tree.{Ty, Record, Place as RustPlace, Field}

-- ---- C finds the same member later

abbrev ok_ptr : Ptr → Result Ptr Fault
ok_ptr at = Ok at

abbrev part_of : CSpot → Ptr → Result CValue CWhy
part_of spot new = Ok (part_with new spot.bit spot.width)

shape_read : (one other : Option Block) (at : Ptr) (align : ℕ) → IsSameShape one other → live_read other (λ block. if is_record_aligned align block at.offset then ok_ptr at else Err Misaligned) ≡ live_read one (λ block. if is_record_aligned align block at.offset then ok_ptr at else Err Misaligned)
shape_read None None at align same = refl
shape_read None (Some other) at align same = cc (same.lived refl)
shape_read (Some one) None at align same = cc (same.lives refl)
shape_read (Some one) (Some other) at align same = ap (λ (n : ℕ). if (at.offset % align == 0 && nat_le align n) then ok_ptr at else Err Misaligned) (sym same.align)

same_place : (before later : Blocks) (at : Ptr) (bytes : ℤ) → IsSameShape (live_block before at.block) (live_block later at.block) → place_moved later at bytes ≡ place_moved before at bytes
same_place before later at bytes same = ap (λ (size : Result ℕ PointerFault). and_then size (λ n. place_inside at.block n (pos at.offset +ℤ bytes))) (shape_size (live_block before at.block) (live_block later at.block) same)

pub member_same : (before later : World) (spot : CSpot) (laid : Laid) (to : Value) → SameShapeOf before later to → member_of_place (blocks_of later) spot (Some laid) (Ok to) ≡ member_of_place (blocks_of before) spot (Some laid) (Ok to)
member_same before later spot laid (Object at) same =
    ap (λ (moved : Result Ptr PointerFault). and_then (by_pointers U11 moved) (λ new. and_then (accessed (aligned_place (blocks_of later) laid.align at)) (λ _. part_of spot new))) (same_place (blocks_of before) (blocks_of later) at (pos spot.byte) (same at refl))
    ∙ ap (λ (place : Result Ptr Fault). and_then (by_pointers U11 (place_moved (blocks_of before) at (pos spot.byte))) (λ new. and_then (accessed place) (λ _. part_of spot new)))
    (shape_read (live_block (blocks_of before) at.block) (live_block (blocks_of later) at.block) at laid.align (same at refl))
member_same before later spot laid Null same = refl
member_same before later spot laid (Number number) same = refl
member_same before later spot laid (Function number) same = refl

-- ---- what is asked of a member

pub member_plain : (setting : CSetting) (frame : CFrame) (blocks : Blocks) (type holder : CTy) (spot : CSpot) (node : CExpr) (of_c : CValue) → IsPlaceOf node of_c →
    member_value setting frame blocks type holder spot of_c ≡ member_of_place blocks spot (extent_in setting holder) (place_in frame of_c)
member_plain setting frame blocks type holder spot node (names number) is = refl
member_plain setting frame blocks type holder spot node (designates to) is = refl
member_plain setting frame blocks type holder spot node (designates_bits at bit width) is = refl
member_plain setting frame blocks type holder spot node (scalar one) is = absurd is
member_plain setting frame blocks type holder spot node (cells list from) is = absurd is
member_plain setting frame blocks type holder spot node missing is = absurd is

pub lvalue_is : (home : CHome) (e : CExpr) → IsLvalue home e → is_lvalue e ≡ true
lvalue_is home (expr type place (object own)) is = refl
lvalue_is home (expr type place (literal own puts)) is = refl
lvalue_is home (expr type place (deref from)) is = refl
lvalue_is home (expr type place (member of spot)) is = lvalue_is home of is.2.0
lvalue_is home (expr type place (whole value)) is = absurd is.2
lvalue_is home (expr type place null) is = absurd is.2
lvalue_is home (expr type place (code function)) is = absurd is.2
lvalue_is home (expr type place (load from)) is = absurd is.2
lvalue_is home (expr type place (address of)) is = absurd is.2
lvalue_is home (expr type place (convert value)) is = absurd is.2
lvalue_is home (expr type place (unary op value)) is = absurd is.2
lvalue_is home (expr type place (binary op left right)) is = absurd is.2
lvalue_is home (expr type place (and left right)) is = absurd is.2
lvalue_is home (expr type place (or left right)) is = absurd is.2
lvalue_is home (expr type place (cond test first second)) is = absurd is.2
lvalue_is home (expr type place (assign target value)) is = absurd is.2
lvalue_is home (expr type place (assign_by op computes target value)) is = absurd is.2
lvalue_is home (expr type place (step up post on)) is = absurd is.2
lvalue_is home (expr type place (call callee args)) is = absurd is.2
lvalue_is home (expr type place (call_by callee args)) is = absurd is.2
lvalue_is home (expr type place (comma first second)) is = absurd is.2

module _ (x : Around) where
  -- the field of a place
  field_gives : (images : Images) (world : World) (p : RustPlace) (f m y : List ℕ) (one : Ty) (align : ℕ) (spot : CSpot) (value : CValue) (whole_spot : Spot) → GivesPlace x.frame world p whole_spot → whole_spot.ty ≡ Record m y →
      field_at x.frame.modules m y f ≡ Some (record { ty = one; byte = spot.byte }) → (there : MemberBelow images (blocks_of world) align whole_spot.at spot value) → GivesPlace x.frame world (Field p f) (based whole_spot.is_based one (Object there.to))
  field_gives images world p f m y one align spot value whole_spot gives ty_is found there = record {
    runs = λ units. seq_is (run_place x.frame p) (spot_of_field x.frame.modules f) world units whole_spot (gives.runs units)
        ∙ (ap (λ (t : Ty). field_by_type x.frame.modules f whole_spot.is_based whole_spot.at t world units) ty_is
        ∙ (ap (λ (field : _). field_spot whole_spot.is_based whole_spot.at field world units) found
        ∙ field_found images align whole_spot.at spot value (record { ty = one; byte = spot.byte }) whole_spot.is_based world units there refl));
  }

  either_base : (b c : Bool) → (b ≡ true) ⊎ (b ≡ c) → c ≡ true → b ≡ true
  either_base b c (inl is) other = is
  either_base b c (inr is) other = is ∙ other

  field_lvalue : (last : Images) (c_later later : World) (holder type : CTy) (spot : CSpot) (given : Given) (laid : Laid) (to : Value) (of_c : CValue) → At x last c_later later → IsMemberOf x.home.program.types holder spot type → spot.width ≡ 0 →
      extent_in (setting_in x.s) holder ≡ Some laid → GivesLvalue last x.frame later (type_in x.names holder) given to → (there : (s : Value) → ValueBelow last to s → MemberBelow last (blocks_of later) laid.align s spot of_c) →
      (at : Ptr) × (of_c ≡ designates (Object at)) × GivesLvalue last x.frame later (type_in x.names type) (given_form.place (Field (place_of_given given) (field_name (field_in x.names holder spot.byte (type_in x.names type))))) (Object at)
  field_lvalue last c_later later holder type spot given laid to of_c here is plainly laid_is gave there =
      let means = x.means.fields holder type spot (subst (λ (program : CProgram). IsMemberOf program.types holder spot type) x.means.program is) plainly in
      let below = there gave.spot.at gave.below in
      let record_is : gave.spot.ty ≡ Record means.m means.x = gave.ty_is ∙ means.path_is in
      let laid_there : laid_at x.frame.modules means.m means.x ≡ Some laid =
      subst (λ (t : Ty). laid_of x.frame.modules t ≡ Some laid) means.path_is (rw (here.frames.modules) (x.means.laid holder laid laid_is)) in
      let base_is : is_base x.frame.modules (blocks_of later) (type_in x.names holder) gave.spot.at ≡ true =
      subst (λ (t : Ty). is_base x.frame.modules (blocks_of later) t gave.spot.at ≡ true) (sym means.path_is) (base_found last (blocks_of later) gave.spot.at spot of_c x.frame.modules means.m means.x laid laid_there below) in
      let based_is = either_base gave.spot.is_based _ gave.based base_is in
      let found : field_at x.frame.modules means.m means.x means.name ≡ Some (record { ty = type_in x.names type; byte = spot.byte }) = rw (here.frames.modules) means.stands in
      let p = place_of_given given in
      let gives_it = field_gives last later p means.name means.m means.x (type_in x.names type) laid.align spot of_c gave.spot gave.gives record_is found below in
      let new = based gave.spot.is_based (type_in x.names type) (Object below.to) in (
        below.at,
        below.is ∙ ap (part_with below.at spot.bit) plainly,
        subst (λ (name : Option (List ℕ)). GivesLvalue last x.frame later (type_in x.names type) (given_form.place (Field p (field_name name))) (Object below.at)) (sym means.name_is) (record {
          spot = new;
          gives = gives_it;
          ty_is = refl;
          below = ValueBelow.to_image below.at below.to below.below;
          based = inl based_is;
          address = record {
            based = λ q other same other_gives.
                let place_is : Field p means.name ≡ q = cc (same) in
                ap (λ (s : Spot). s.is_based) (one_spot x later (Field p means.name) other new (subst (λ (r : RustPlace). GivesPlace x.frame later r other) (sym place_is) other_gives) gives_it) ∙ based_is;
            plain = λ q same. let place_is : Field p means.name ≡ q = cc (same) in subst IsNoDeref place_is tt;
          };
        }),
      )

  pub given_is : (type : CTy) (of : CExpr) (spot : CSpot) (given : Given) → spot.width ≡ 0 → is_lvalue of ≡ true → member_given x.names type of spot given ≡ given_form.place (field_of x.names type of spot given)
  given_is type of spot given plainly is = rw (plainly, is) refl

  scoped_to : (of_c : CValue) (to : Value) → IsScoped (scope x) of_c → place_in (scope x) of_c ≡ Ok to → Scoped (scope x) to
  scoped_to of_c to is e = subst (IfGiven (Scoped (scope x))) e (place_scoped (scope x) of_c is)

  pub member_owes : (asked : Asked) (type : CTy) (at : Place) (of : CExpr) (spot : CSpot) (number : ℕ) (images : Images) (c_world world : World) → At x images c_world world → IsLvalue x.home (expr type at (member of spot)) → spot.width ≡ 0 →
      number ≤ (lifted x.names (whole_of spot) of number).next → ExprOwes x (whole_of spot) of number images c_world world → FormOwes x asked type at (member of spot) number images c_world world
  member_owes asked type at of spot number images c_world world here typed plainly rises owes =
      let written = lifted x.names (whole_of spot) of number in
      let e = expr type at (member of spot) in
      pure_one x asked.used (form_fixed type (member of spot)) e (member_given x.names type of spot written.given) type at (member of spot)
      true (is_fixed (whole_of spot) of) of written number images c_world world here (inr typed.2.0) (or_false (is_steady of)) rises owes (λ one c1 made knows done_is.
      let node = node_one (setting_in x.s) type (member of spot) (scope x) (blocks_of c1) one made done_is in
      let step = pure_step node.0 (blocks_of c1) _ made node.2 in
      let is_place = place_given x.home of one.value typed.2.0 knows.0.operand_is.given in
      let member_is = sym (member_plain (setting_in x.s) (scope x) (blocks_of c1) type (type_of of) spot of one.value is_place) ∙ step.is in
      let laid = and_then_is (needed (extent_in (setting_in x.s) (type_of of))) _ step.of_c member_is in
      let to = and_then_is (place_in (scope x) one.value) _ step.of_c laid.2 in
      record {
        blocks_are = step.blocks_are;
        reads = λ before after all. all_front (IsSameAt before after) one.marks.reads [] (subst (λ (marks : Marks). AllOf (IsSameAt before after) marks.reads) (step.marks_are ∙ node.1) all);
        gives = λ last c_later later there lasts gave. where_used asked.used x last later e (member_given x.names type of spot written.given) made.value (λ _.
            let shape = shapes_last x.home.program (form_fixed type (member of spot)) made.marks.reads c1 c_later (scope x) to.0 knows.0.at.owned lasts
            (λ fixed. scoped_to one.value to.0 (knows.2 (or_false (is_steady of) fixed)) to.1) in
            let found : member_of_place (blocks_of c_later) spot (Some laid.0) (Ok to.0) ≡ Ok step.of_c = member_same c1 c_later spot laid.0 to.0 shape ∙ to.2 in
            let field = field_lvalue last c_later later (type_of of) type spot written.given laid.0 to.0 step.of_c there typed.2.1 plainly (needed_is (extent_in (setting_in x.s) (type_of of)) laid.0 laid.1)
            (lvalue_given x last later of written.given one.value to.0 to.1 gave)
            (λ s below. member_below last (blocks_of c_later) (blocks_of later) to.0 s spot laid.0 step.of_c there.worlds.held.memories below found) in
            subst (λ (v : CValue). GivesOperand x.s x.names last x.c_frame x.frame later e (member_given x.names type of spot written.given) v) (sym (step.value_is ∙ field.1))
            (subst (λ (g : Given). GivesLvalue last x.frame later (type_in x.names type) g (Object field.0)) (sym (given_is type of spot written.given plainly (lvalue_is x.home of typed.2.0))) field.2));
      })
    where
      needed_is : (found : Option Laid) (one : Laid) → needed found ≡ Ok one → found ≡ Some one
      needed_is (Some other) one e = let same : other ≡ one = cc (e) in ap Some same
      needed_is None one e = cc (e)
