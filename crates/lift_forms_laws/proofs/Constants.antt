-- Constants, functions and places.
use Rattle.std.proofs.Common.{◌≡◌, ℕ, pos, Bool, true, false, ◌||◌, if◌then◌else◌, List, Some, None, Ok, refl, ap, subst, ◌∙◌}
use Rattle.cr_base.specs.declared.scalar.Scalar.{Scalar}
use Rattle.cr_base.specs.declared.scalar.Scalar.TheVariants as scalar
use Rattle.cr_runs.specs.Runs.{Ran, came, halted, bad, out, bind}
use Rattle.cr_world.specs.World.{World, Stop}
use Rattle.mem_bytes.specs.Coding.{IsValueOf}
use Rattle.mem_bytes.specs.declared.value.Value.{Value}
use Rattle.mem_bytes.specs.declared.value.Value.TheVariants.{Whole, Null, Object, Code as Function}
use Rattle.rs_mean.specs.declared.cause.Cause.{Cause}
use Rattle.rs_mean.specs.Calls.{Spot, spot, based}
use Rattle.rs_mean.specs.Lookups.{function_number}
use Rattle.rs_mean.specs.Numbers.{number_of_truth}
use Rattle.rs_mean.specs.Run.{Frame, run_expr, run_place, is_base, spot_by_type, spot_of_pointer, function_value}
use Rattle.rs_mean.specs.Scalars.{is_scalar, scalar_of, integer_scalar, same_type}
use Rattle.rs_mean.specs.Typing.{is_bits, is_pointer, is_code}
use Rattle.rs_mean.specs.Values.{Typed, typed}
use Rattle.rs_mean.specs.World.{pure, fails, seq, local}
use Rattle.rs_text.specs.declared.integer.IntegerTy.{IntegerTy}
use Rattle.rs_text.specs.declared.integer.IntegerTy.TheVariants.{I8, I16, I32, I64, U8, U16, U32, U64, Isize, Usize}
use Rattle.rs_text.specs.Tree.{Ty, Integer, Boolean, Pointer, Code, Tys, no_tys, OptionTy, no_ty, Place, Local, Static, Deref, Field, Expr, NoFunction, SomeFunction, Cast}
use Rattle.lift_forms.specs.Given.{address_of, pointed}
use Rattle.lift_forms.specs.Operators.{constant, null_of, zero_of, function_form}
use Rattle.lift_forms.specs.Places.{Kept, object_place, address_form}
use Rattle.lift_forms.proofs.SameTypes.{type_is}
use Rattle.lift_forms.proofs.Typed.{by_test}
use Rattle.lift_stands.specs.Stands.{Images, ValueBelow}
use Rattle.lift_forms_laws.specs.Gives.{GivesAt, GivesPlace, truth_number, GivenStands, IsOf}
use Rattle.lift_forms_laws.proofs.Operands.{as_type_gives}
use Rattle.lift_forms_laws.proofs.Runs.{seq_is, looks_is, pure_is, literal_gives, constant_gives, null_gives, cast_gives, transmute_gives}

-- ---- kinds

whole_kind : (which : IntegerTy) (of_c : Value) → IsValueOf (integer_scalar which) of_c → IsOf (Integer which) of_c
whole_kind I8 (Whole number) is = is
whole_kind I16 (Whole number) is = is
whole_kind I32 (Whole number) is = is
whole_kind I64 (Whole number) is = is
whole_kind U8 (Whole number) is = is
whole_kind U16 (Whole number) is = is
whole_kind U32 (Whole number) is = is
whole_kind U64 (Whole number) is = is
whole_kind Isize (Whole number) is = is
whole_kind Usize (Whole number) is = is
whole_kind I8 of_c is = absurd is
whole_kind I16 of_c is = absurd is
whole_kind I32 of_c is = absurd is
whole_kind I64 of_c is = absurd is
whole_kind U8 of_c is = absurd is
whole_kind U16 of_c is = absurd is
whole_kind U32 of_c is = absurd is
whole_kind U64 of_c is = absurd is
whole_kind Isize of_c is = absurd is
whole_kind Usize of_c is = absurd is

pub kinds : (ty : Ty) (kind : Scalar) (of_c : Value) → scalar_of ty ≡ Some kind → IsValueOf kind of_c → IsOf ty of_c
kinds (Integer which) kind of_c k is = let same : kind ≡ integer_scalar which = cc (k) in whole_kind which of_c (subst (λ x. IsValueOf x of_c) same is)
kinds Boolean kind of_c k is = let same : kind ≡ scalar.Truth = cc (k) in truth_kind of_c (subst (λ x. IsValueOf x of_c) same is)
  where
    truth_kind : (of_c : Value) → IsValueOf scalar.Truth of_c → IsOf Boolean of_c
    truth_kind (Whole number) is = is
    truth_kind of_c is = absurd is
kinds (Pointer target) kind of_c k is = let same : kind ≡ scalar.Object = cc (k) in object_kind of_c (subst (λ x. IsValueOf x of_c) same is)
  where
    object_kind : (of_c : Value) → IsValueOf scalar.Object of_c → IsOf (Pointer target) of_c
    object_kind Null is = tt
    object_kind (Object at) is = tt
    object_kind of_c is = absurd is
kinds (Code params result) kind of_c k is = let same : kind ≡ scalar.Code = cc (k) in code_kind of_c (subst (λ x. IsValueOf x of_c) same is)
  where
    code_kind : (of_c : Value) → IsValueOf scalar.Code of_c → IsOf (Code params result) of_c
    code_kind Null is = tt
    code_kind (Function number) is = tt
    code_kind of_c is = absurd is
kinds ty kind of_c k is = absurd (let clash : None ≡ Some kind = k in cc)

abbrev came_to : Typed → World → ℕ → Ran (Stop Cause) World Typed
came_to given world units = came given world units

-- what a run that came to its end has, where it did
abbrev spot_come : Spot → Ran (Stop Cause) World Spot → Spot
spot_come other (came found now left) = found
spot_come other (halted status now) = other
spot_come other (bad why now) = other
spot_come other (out now) = other

abbrev world_come : World → Ran (Stop Cause) World Spot → World
world_come other (came found now left) = now
world_come other (halted status now) = other
world_come other (bad why now) = other
world_come other (out now) = other

abbrev units_come : ℕ → Ran (Stop Cause) World Spot → ℕ
units_come other (came found now left) = left
units_come other (halted status now) = other
units_come other (bad why now) = other
units_come other (out now) = other

module _ (frame : Frame) (world : World) where
  -- ---- constants

  pub truth_gives : (test : Bool) → GivesAt frame world (constant Boolean (number_of_truth test)) Boolean (truth_number test)
  truth_gives true = constant_gives frame world true
  truth_gives false = constant_gives frame world false

  none_gives : GivesAt frame world NoFunction (Code no_tys no_ty) Null
  none_gives = record { runs = pure_is (typed (Code no_tys no_ty) Null) world }

  null_function : (params : Tys) (result : OptionTy) → GivesAt frame world (null_of (Code params result)) (Code params result) Null
  null_function params result = transmute_gives frame world NoFunction (Code params result) (Code params result) (Code no_tys no_ty) Null Null none_gives refl

  pub nulls : (ty : Ty) → (is_pointer ty || is_code ty) ≡ true → GivesAt frame world (null_of ty) ty Null
  nulls (Pointer target) is = null_gives frame world target
  nulls (Code params result) is = null_function params result
  nulls ty is = absurd (let clash : false ≡ true = is in cc)

  pub zeros : (ty : Ty) → is_scalar ty ≡ true → GivesAt frame world (zero_of ty) ty (if is_bits ty then Whole (pos 0) else Null)
  zeros (Integer which) is = literal_gives frame world (pos 0) which
  zeros Boolean is = constant_gives frame world false
  zeros (Pointer target) is = null_gives frame world target
  zeros (Code params result) is = null_function params result
  zeros ty is = absurd (let clash : false ≡ true = is in cc)

  some_gives : (m x : List ℕ) (params : Tys) (result : OptionTy) (image : ℕ) → function_number frame.modules m x ≡ Some image →
      GivesAt frame world (SomeFunction m x params result) (Code params result) (Function image)
  some_gives m x params result image is = record {
    runs = λ units. ap (λ found. function_value params result found world units) is ∙ pure_is (typed (Code params result) (Function image)) world units;
  }

  pub functions : (images : Images) (m x : List ℕ) (params : Tys) (result : OptionTy) (ty : Ty) (number image : ℕ) → is_code ty ≡ true →
      function_number frame.modules m x ≡ Some image → images.functions number ≡ Some image → GivenStands images frame world ty (function_form m x (Code params result) ty) (Function number)
  functions images m x params result (Code others gives) number image c is e = record {
    other = Function image;
    gives = as_type_gives images frame world (Code params result) (Code others gives) (SomeFunction m x params result) (Function image) (some_gives m x params result image is) refl;
    below = ValueBelow.to_function number image e;
  }
  functions images m x params result ty number image c is e = absurd (let clash : false ≡ true = c in cc)

  -- ---- places

  address_at : (p : Place) (ty : Ty) (where_it_is : Spot) → GivesPlace frame world p where_it_is → where_it_is.ty ≡ ty →
      ((units : ℕ) → run_expr frame (address_of p) world units ≡ seq (run_place frame p) (λ place. pure (typed (Pointer place.ty) place.at)) world units) →
      GivesAt frame world (address_of p) (Pointer ty) where_it_is.at
  address_at p ty where_it_is h same is = record {
    runs = λ units. is units ∙ seq_is (run_place frame p) (λ place. pure (typed (Pointer place.ty) place.at)) world units where_it_is (h.runs units)
        ∙ pure_is (typed (Pointer where_it_is.ty) where_it_is.at) world units ∙ ap (λ t. came (typed (Pointer t) where_it_is.at) world units) same;
  }

  -- what a pointer is whose target is at a place
  pointer_by : (ty : Ty) (at : Value) (found : Spot) (now : World) (left units : ℕ) → spot_by_type frame.modules ty at now left ≡ came found world units →
      came_to (typed ty at) now left ≡ came_to (typed (Pointer found.ty) found.at) world units
  unfolding local fails
  pointer_by (Pointer target) at found now left units e =
      let place : based (is_base frame.modules now.held.blocks target at) target at ≡ found = ap (spot_come found) e in
      let where_now : now ≡ world = ap (world_come now) e in
      let how_many : left ≡ units = ap (units_come left) e in
      ap (λ s. came_to (typed (Pointer s.ty) s.at) now left) place ∙ ap (λ w. came_to (typed (Pointer found.ty) found.at) w left) where_now
      ∙ ap (λ (n : ℕ). came_to (typed (Pointer found.ty) found.at) world n) how_many
  pointer_by ty at found now left units e = absurd cc

  pointer_is : (e : Expr) (found : Spot) (units : ℕ) (ran : Ran (Stop Cause) World Typed) → bind ran (spot_of_pointer frame.modules) ≡ came found world units →
      ran ≡ came (typed (Pointer found.ty) found.at) world units
  pointer_is e found units (came pointer now left) is = pointer_by pointer.ty pointer.value found now left units is
  pointer_is e found units (halted status now) is = absurd cc
  pointer_is e found units (bad why now) is = absurd cc
  pointer_is e found units (out now) is = absurd cc

  pointer_gives : (e : Expr) (found : Spot) → GivesPlace frame world (Deref e) found → GivesAt frame world e (Pointer found.ty) found.at
  unfolding seq
  pointer_gives e found h = record { runs = λ units. pointer_is e found units (run_expr frame e world units) (h.runs units) }

  pub addresses : (ty : Ty) (p : Place) (where_it_is : Spot) → GivesPlace frame world p where_it_is → where_it_is.ty ≡ ty → GivesAt frame world (address_of p) (Pointer ty) where_it_is.at
  addresses ty (Local x) found h same = address_at (Local x) ty found h same (λ units. refl)
  addresses ty (Static m x) found h same = address_at (Static m x) ty found h same (λ units. refl)
  addresses ty (Field p f) found h same = address_at (Field p f) ty found h same (λ units. refl)
  addresses ty (Deref e) found h same = subst (λ t. GivesAt frame world e (Pointer t) found.at) same (pointer_gives e found h)

  pub target_gives : (e : Expr) (ty : Ty) (at : Value) → GivesAt frame world e (Pointer ty) at → is_base frame.modules world.held.blocks ty at ≡ true → GivesPlace frame world (Deref e) (spot ty at)
  target_gives e ty at h is = record {
    runs = λ units. seq_is (run_expr frame e) (spot_of_pointer frame.modules) world units (typed (Pointer ty) at) (h.runs units)
        ∙ looks_is (λ held. Ok (based (is_base frame.modules held.blocks ty at) ty at)) world units (spot ty at) (ap (λ b. Ok (based b ty at)) is);
  }

  pub objects : (kept : Kept) (ty : Ty) (at : Value) → GivesPlace frame world kept.place (spot kept.ty at) → is_base frame.modules world.held.blocks ty at ≡ true →
      GivesPlace frame world (object_place kept ty) (spot ty at)
  objects kept ty at h is =
      by_test (λ p. GivesPlace frame world p (spot ty at)) (same_type kept.ty ty) kept.place (pointed (Cast (address_of kept.place) (Pointer ty)))
      (λ same. subst (λ t. GivesPlace frame world kept.place (spot t at)) (type_is kept.ty ty same) h)
      (λ _. target_gives (Cast (address_of kept.place) (Pointer ty)) ty at
      (cast_gives frame world (address_of kept.place) (Pointer kept.ty) (Pointer ty) at at (addresses kept.ty kept.place (spot kept.ty at) h refl) refl) is)

  pub address_forms : (images : Images) (ty target : Ty) (p : Place) (where_it_is : Spot) (of_c : Value) → GivesPlace frame world p where_it_is →
      where_it_is.ty ≡ ty → ValueBelow images of_c where_it_is.at → GivenStands images frame world (Pointer target) (address_form ty target p) of_c
  address_forms images ty target p where_it_is of_c h same below = record {
    other = where_it_is.at;
    gives = as_type_gives images frame world (Pointer ty) (Pointer target) (address_of p) where_it_is.at (addresses ty p where_it_is h same) refl;
    below = below;
  }
