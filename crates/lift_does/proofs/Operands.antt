-- What operands give: scalar values and places.
use Rattle.std.proofs.Common.{◌≡◌, ◌⊎◌, inl, inr, ℕ, ◌+◌, Bool, true, false, ◌||◌, [], ◌∷◌, Option, Some, None, Result, Ok, refl, sym, ap, subst, ◌∙◌, arith}
use Rattle.cr_runs.specs.Runs.{Ran, came, halted, bad, out, bind}
use Rattle.cr_world.specs.World.{World, Stop, blocks_of}
use Rattle.cx_core.specs.Trees.{CTy, CExpr, CForm, type_of}
use Rattle.cx_core.specs.Typing.{IsTyped}
use Rattle.cx_mean.specs.Marks.{Marks, no_marks, both}
use Rattle.cx_mean.specs.Nodes.{CDone, done, gives_value, node_done, unary_done, binary_done}
use Rattle.cx_mean.specs.Operands.{CWhy, CValue, scalar, cells, names, designates, designates_bits, missing, COperand, Frame as CFrame, slot_of, object_value, place_in, scalar_value, united_operands}
use Rattle.cx_mean.specs.Settings.{CSetting}
use Rattle.cx_typed_work.proofs.Given.{value_given}
use Rattle.cx_typed_work.specs.Operands.{IsScalarIn, IsOperandOf, IsGiven}
use Rattle.lift_does.proofs.Around.{Around, scope, At}
use Rattle.lift_does.proofs.Nodes.{and_then_is, AreUnited, united_one, united_two}
use Rattle.lift_does.specs.Gives.{IsNoDeref, AddressesBased, GivesLvalue, GivesObject, GivesScalar, GivesOperand, GivesWhere}
use Rattle.lift_exprs.specs.Names.{type_in}
use Rattle.lift_exprs.specs.Written.{place_at}
use Rattle.lift_forms.specs.Given.{Given, nothing, truth, value, place, address_of}
use Rattle.lift_forms_laws.proofs.Runs.{seq_is, looks_is}
use Rattle.lift_forms_laws.specs.Gives.{GivesAt, GivesPlace, GivenStands}
use Rattle.lift_forms_laws.specs.LawsMeaning.{Standing}
use Rattle.lift_stands.specs.Stands.{Images}
use Rattle.mem_bytes.specs.Memory.{Blocks}
use Rattle.mem_bytes.specs.declared.value.Ptr.{Ptr}
use Rattle.mem_bytes.specs.declared.value.Value.{Value}
use Rattle.mem_bytes.specs.declared.value.Value.TheVariants.{Object}
use Rattle.rs_mean.specs.Calls.{Spot, based}
use Rattle.rs_mean.specs.Run.{is_base, run_expr, run_place, spot_of_pointer}
use Rattle.rs_mean.specs.Typing.{is_pointer}
use Rattle.rs_mean.specs.Values.{Typed, typed}
use Rattle.rs_mean.specs.World.{pure, seq}
use Rattle.rs_mean.specs.declared.cause.Cause.{Cause}
use Rattle.rs_mean_frames.specs.Behave.{TakesJust}
use Rattle.rs_mean_frames.proofs.Framed.{pieces_behave}
use Rattle.rs_text.specs.Tree.{Ty, Pointer, Place, Local, Static, Deref, Field, Expr, AddressOf}

-- ---- steps of nodes, turned round

pub node_one : (setting : CSetting) (type : CTy) (form : CForm) (frame : CFrame) (blocks : Blocks) (one : COperand) (made : CDone) → node_done setting type form frame blocks (one ∷ []) ≡ Ok made →
    (marks : Marks) × (marks ≡ both one.marks no_marks) × (unary_done setting type form frame marks blocks one ≡ Ok made)
node_one setting type form frame blocks one made e =
    let parts = and_then_is (united_operands (one ∷ [])) _ made e in
    (parts.0, united_one one parts.0 parts.1, parts.2)

pub node_two : (setting : CSetting) (type : CTy) (form : CForm) (frame : CFrame) (blocks : Blocks) (one other : COperand) (made : CDone) → node_done setting type form frame blocks (one ∷ other ∷ []) ≡ Ok made →
    (marks : Marks) × AreUnited one other marks × (binary_done setting type form frame marks blocks one other ≡ Ok made)
node_two setting type form frame blocks one other made e =
    let parts = and_then_is (united_operands (one ∷ other ∷ [])) _ made e in
    (parts.0, united_two one other parts.0 parts.1, parts.2)

-- a step that leaves memory as it is
pub record IsPure (marks : Marks) (blocks : Blocks) (outcome : Result CValue CWhy) (made : CDone) : Type 0 where
  pub of_c : CValue
  pub is : outcome ≡ Ok of_c
  pub value_is : made.value ≡ of_c
  pub marks_are : made.marks ≡ marks
  pub blocks_are : made.blocks ≡ blocks

pub pure_step : (marks : Marks) (blocks : Blocks) (outcome : Result CValue CWhy) (made : CDone) → gives_value marks blocks outcome ≡ Ok made → IsPure marks blocks outcome made
pure_step marks blocks outcome made e =
    let parts = and_then_is outcome _ made e in
    let same : done parts.0 marks blocks ≡ made = cc (parts.2) in
    record {
      of_c = parts.0;
      is = parts.1;
      value_is = ap (λ (one : CDone). one.value) (sym same);
      marks_are = ap (λ (one : CDone). one.marks) (sym same);
      blocks_are = ap (λ (one : CDone). one.blocks) (sym same);
    }

pub scalar_is : (given : CValue) (one : Value) → scalar_value given ≡ Ok one → given ≡ scalar one
scalar_is (scalar other) one e = let same : other ≡ one = cc (e) in ap scalar same
scalar_is missing one e = cc (e)
scalar_is (cells held from) one e = cc (e)
scalar_is (names number) one e = cc (e)
scalar_is (designates to) one e = cc (e)
scalar_is (designates_bits at bit width) one e = cc (e)

pub or_false : (b : Bool) → (b || false) ≡ true → b ≡ true
or_false true e = refl
or_false false e = e

-- what is said where a value is used
pub where_used : (used : Bool) (x : Around) (images : Images) (world : World) (e : CExpr) (given : Given) (of_c : CValue) → (used ≡ true → GivesOperand x.s x.names images x.c_frame x.frame world e given of_c) →
    GivesWhere used x.s x.names images x.c_frame x.frame world e given of_c
where_used true x images world e given of_c all = all refl
where_used false x images world e given of_c all = tt

module _ (x : Around) where
  -- the scalar value of an operand is one of its type
  pub scalar_in : (part : CExpr) (operand : COperand) (one : Value) → IsTyped x.home part → IsOperandOf x.home part operand → operand.value ≡ scalar one → IsScalarIn x.home.program (type_of part) one
  scalar_in part operand one typed is same = by (subst (λ (v : CValue). IsGiven x.home.program part v) same (value_given x.home part operand.value typed is.given))
    where
      by : IsGiven x.home.program part (scalar one) → IsScalarIn x.home.program (type_of part) one
      by (inl given) = given
      by (inr (lacks, none)) = absurd none

  pub standing : (images : Images) (c_world world : World) → At x images c_world world → Standing images (blocks_of c_world) world
  standing images c_world world at = record { stands = at.worlds.held.memories; objects = at.typed.scene.memory.objects }

  pub scalar_given : (images : Images) (world : World) (part : CExpr) (given : Given) (of_c : CValue) (one : Value) → of_c ≡ scalar one → GivesOperand x.s x.names images x.c_frame x.frame world part given of_c →
      GivesScalar images x.frame world (type_in x.names (type_of part)) given one
  scalar_given images world part given of_c one same gives = subst (λ (v : CValue). GivesOperand x.s x.names images x.c_frame x.frame world part given v) same gives

  -- ---- places

  found_place : (images : Images) (world : World) (ty : Ty) (given : Given) (found : Option Ptr) (to : Value) → object_value found ≡ Ok to → GivesObject images x.frame world ty given found → GivesLvalue images x.frame world ty given to
  found_place images world ty given None to e gives = absurd gives
  found_place images world ty given (Some at) to e gives = let same : Object at ≡ to = cc (e) in subst (GivesLvalue images x.frame world ty given) same gives

  -- what is given for an lvalue is its place
  pub lvalue_given : (images : Images) (world : World) (part : CExpr) (given : Given) (of_c : CValue) (to : Value) → place_in (scope x) of_c ≡ Ok to → GivesOperand x.s x.names images x.c_frame x.frame world part given of_c →
      GivesLvalue images x.frame world (type_in x.names (type_of part)) given to
  lvalue_given images world part given (names number) to e gives = found_place images world (type_in x.names (type_of part)) given (slot_of (scope x) number) to e gives
  lvalue_given images world part given (designates other) to e gives = let same : other ≡ to = cc (e) in subst (GivesLvalue images x.frame world (type_in x.names (type_of part)) given) same gives
  lvalue_given images world part given (designates_bits at bit width) to e gives = cc (e)
  lvalue_given images world part given (scalar one) to e gives = cc (e)
  lvalue_given images world part given (cells list from) to e gives = cc (e)
  lvalue_given images world part given missing to e gives = cc (e)

none_more : (k : ℕ) → 0 + k ≡ k
none_more k = omega arith

abbrev expr_of : Given → Expr → Expr
expr_of (value e) other = e
expr_of given other = other

-- ---- runs of the crate are the same at every number of units

module _ (x : Around) where
  abbrev spot_ran : World → Spot → Ran (Stop Cause) World Spot
  spot_ran world spot = came spot world 0

  pub one_spot : (world : World) (p : Place) (one other : Spot) → GivesPlace x.frame world p one → GivesPlace x.frame world p other → one ≡ other
  one_spot world p one other gives too =
      let same : spot_ran world one ≡ spot_ran world other = sym (gives.runs 0) ∙ too.runs 0 in cc (same)

  -- the place of which an address is given
  pub record IsPlaceOf (world : World) (p : Place) (ty : Ty) (of : Value) : Type 0 where
    pub spot : Spot
    pub gives : GivesPlace x.frame world p spot
    pub ty_is : spot.ty ≡ ty
    pub at_is : spot.at ≡ of

  place_from : (world : World) (p : Place) (ty : Ty) (of : Value) (ran : Ran (Stop Cause) World Spot) → run_place x.frame p world 0 ≡ ran → bind ran (λ (spot : Spot) (w : World) (k : ℕ). came (typed (Pointer spot.ty) spot.at) w k) ≡ came (typed (Pointer ty) of) world 0 →
      ((more : ℕ) → TakesJust ran (run_place x.frame p world more) more) → IsPlaceOf world p ty of
  place_from world p ty of (came spot w left) e same takes =
      let value_is : typed (Pointer spot.ty) spot.at ≡ typed (Pointer ty) of = cc (same) in
      let world_is : w ≡ world = cc (same) in
      let left_is : left ≡ 0 = cc (same) in
      let pointer_is : Pointer spot.ty ≡ Pointer ty = ap (λ (t : Typed). t.ty) value_is in
      let ty_is : spot.ty ≡ ty = cc (pointer_is) in
      record {
        spot = spot;
        gives = record { runs = λ units. takes units ∙ (ap (λ (v : World). came spot v (left + units)) world_is ∙ (ap (λ (k : ℕ). came spot world (k + units)) left_is ∙ ap (λ (k : ℕ). came spot world k) (none_more units))) };
        ty_is = ty_is;
        at_is = ap (λ (t : Typed). t.value) value_is;
      }
  place_from world p ty of (halted status w) e same takes = cc (same)
  place_from world p ty of (bad why w) e same takes = cc (same)
  place_from world p ty of (out w) e same takes = cc (same)

  pub place_of_address : (world : World) (p : Place) (ty : Ty) (of : Value) → GivesAt x.frame world (AddressOf p) (Pointer ty) of → IsPlaceOf world p ty of
  unfolding seq pure
  place_of_address world p ty of gives =
      place_from world p ty of (run_place x.frame p world 0) refl (gives.runs 0) (λ more. subst (λ (k : ℕ). TakesJust (run_place x.frame p world 0) (run_place x.frame p world k) more) (none_more more) ((pieces_behave.place x.frame x.bodies p).takes world 0 more))

  -- what a pointer points to
  deref_gives : (world : World) (e : Expr) (ty : Ty) (of : Value) → GivesAt x.frame world e (Pointer ty) of → GivesPlace x.frame world (Deref e) (based (is_base x.frame.modules (blocks_of world) ty of) ty of)
  deref_gives world e ty of gives = record {
    runs = λ units. seq_is (run_expr x.frame e) (spot_of_pointer x.frame.modules) world units (typed (Pointer ty) of) (gives.runs units)
        ∙ looks_is (λ held. Ok (based (is_base x.frame.modules held.blocks ty of) ty of)) world units (based (is_base x.frame.modules (blocks_of world) ty of) ty of) refl;
  }

  pub record Points (images : Images) (world : World) (ty : Ty) (p : Place) (of : Value) : Type 0 where
    pub spot : Spot
    pub gives : GivesPlace x.frame world p spot
    pub ty_is : spot.ty ≡ ty
    pub at_is : spot.at ≡ of
    pub based_is : (spot.is_based ≡ true) ⊎ (spot.is_based ≡ is_base x.frame.modules (blocks_of world) ty spot.at)
    pub address : AddressesBased x.frame world (value (address_of p))

  by_deref : (images : Images) (world : World) (e : Expr) (ty : Ty) (of : Value) → GivesAt x.frame world e (Pointer ty) of → AddressesBased x.frame world (value e) → Points images world ty (Deref e) of
  by_deref images world e ty of gives based_at = record {
    spot = based (is_base x.frame.modules (blocks_of world) ty of) ty of;
    gives = deref_gives world e ty of gives;
    ty_is = refl;
    at_is = refl;
    based_is = inr refl;
    address = based_at;
  }

  address_back : (p : Place) → IsNoDeref p → address_of p ≡ AddressOf p
  address_back (Local name) is = refl
  address_back (Static m name) is = refl
  address_back (Field whole f) is = refl
  address_back (Deref e) is = absurd is

  pub points_at : (images : Images) (world : World) (e : Expr) (ty : Ty) (of : Value) → GivesAt x.frame world e (Pointer ty) of → AddressesBased x.frame world (value e) → Points images world ty (place_at e) of
  points_at images world (AddressOf p) ty of gives based_at =
      let found = place_of_address world p ty of gives in
      record {
        spot = found.spot;
        gives = found.gives;
        ty_is = found.ty_is;
        at_is = found.at_is;
        based_is = inl (based_at.based p found.spot refl found.gives);
        address = subst (λ (e : Expr). AddressesBased x.frame world (value e)) (sym (address_back p (based_at.plain p refl))) based_at;
      }
  points_at images world e ty of gives based_at = by_deref images world e ty of gives based_at

  -- a value that is no pointer is no address
  number_from : (world : World) (ty : Ty) (of : Value) (ran : Ran (Stop Cause) World Spot) → bind ran (λ (spot : Spot) (w : World) (k : ℕ). came (typed (Pointer spot.ty) spot.at) w k) ≡ came (typed ty of) world 0 → is_pointer ty ≡ false → ⊥
  number_from world ty of (came spot w left) same odd =
      let value_is : typed (Pointer spot.ty) spot.at ≡ typed ty of = cc (same) in
      let pointer_is : Pointer spot.ty ≡ ty = ap (λ (t : Typed). t.ty) value_is in
      let yes : true ≡ false = subst (λ (t : Ty). is_pointer t ≡ false) (sym pointer_is) odd in
      cc (yes)
  number_from world ty of (halted status w) same odd = cc (same)
  number_from world ty of (bad why w) same odd = cc (same)
  number_from world ty of (out w) same odd = cc (same)

  number_clash : (world : World) (p : Place) (ty : Ty) (of : Value) → GivesAt x.frame world (AddressOf p) ty of → is_pointer ty ≡ false → ⊥
  unfolding seq pure
  number_clash world p ty of gives odd = number_from world ty of (run_place x.frame p world 0) (gives.runs 0) odd

  pub number_based : (world : World) (ty : Ty) (e : Expr) (of : Value) → is_pointer ty ≡ false → GivesAt x.frame world e ty of → AddressesBased x.frame world (value e)
  number_based world ty e of odd gives = record {
    based = λ p spot same found. absurd (number_clash world p ty of (subst (λ (g : Given). GivesAt x.frame world (expr_of g e) ty of) same gives) odd);
    plain = λ p same. absurd (number_clash world p ty of (subst (λ (g : Given). GivesAt x.frame world (expr_of g e) ty of) same gives) odd);
  }

  -- what isn't an address
  pub other_based : (world : World) (given : Given) → ((p : Place) → given ≡ value (AddressOf p) → ⊥) → AddressesBased x.frame world given
  other_based world given odd = record { based = λ p spot same found. absurd (odd p same); plain = λ p same. absurd (odd p same) }

  -- so it is with each value that stands for one of C which is no pointer
  pub stands_based : (images : Images) (world : World) (ty : Ty) (given : Given) (of_c : Value) → is_pointer ty ≡ false → GivenStands images x.frame world ty given of_c → AddressesBased x.frame world given
  stands_based images world ty nothing of_c odd stands = absurd stands
  stands_based images world ty (truth e) of_c odd stands = other_based world (truth e) (λ p same. cc (same))
  stands_based images world ty (value e) of_c odd stands = number_based world ty e stands.other odd stands.gives
  stands_based images world ty (place p) of_c odd stands = other_based world (place p) (λ q same. cc (same))
