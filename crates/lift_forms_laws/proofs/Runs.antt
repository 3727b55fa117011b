-- What an expression comes to, by what its operands come to.
use Rattle.std.proofs.Common.{◌≡◌, ℕ, ℤ, Bool, Result, Ok, refl, ap, ◌∙◌}
use Rattle.cr_runs.specs.Runs.{came, bind}
use Rattle.cr_world.specs.Held.{Held}
use Rattle.cr_world.specs.World.{World}
use Rattle.mem_bytes.specs.declared.value.Value.{Value}
use Rattle.mem_bytes.specs.declared.value.Value.TheVariants.{Whole, Null}
use Rattle.rs_mean.specs.declared.cause.Cause.{Cause}
use Rattle.rs_mean.specs.Layout.{laid_of}
use Rattle.rs_mean.specs.Run.{Frame, run_expr}
use Rattle.rs_mean.specs.Values.{Typed, typed, truth, by_type, wrapped_by_type, neg_by_type, wrapping_neg_by_type, not_by_type, cast_by_type, transmuted_to, null_by_type, none_by_type, offset_by_type, apart_by_type}
use Rattle.rs_mean.specs.World.{Run, pure, seq, local, looks, kept, after_step, or_fails}
use Rattle.rs_text.specs.declared.integer.IntegerTy.{IntegerTy}
use Rattle.rs_text.specs.declared.operator.Operator.{Operator}
use Rattle.rs_text.specs.declared.operator.Wrapping.{Wrapping}
use Rattle.rs_text.specs.Tree.{Ty, Integer, Boolean, Pointer, Expr, Literal, Truth, Wrapped, WrappingNeg, Offset, OffsetFrom, IsNull, IsNone, NullPointer, Transmute, Neg, Not, Cast, Binary}
use Rattle.lift_forms_laws.specs.Gives.{GivesAt, truth_number}

-- ---- pieces

pub seq_is : {A B : Type 0} (first : Run A) (next : A → Run B) (world : World) (units : ℕ) (given : A) → first world units ≡ came given world units →
    seq first next world units ≡ next given world units
unfolding seq
seq_is first next world units given e = ap (λ r. bind r next) e

pub looks_is : {A : Type 0} (step : Held → Result A Cause) (world : World) (units : ℕ) (given : A) → step world.held ≡ Ok given → looks step world units ≡ came given world units
unfolding local
looks_is step world units given e = ap (λ r. after_step world units (kept world.held r)) e

pub fails_is : {A : Type 0} (found : Result A Cause) (world : World) (units : ℕ) (given : A) → found ≡ Ok given → or_fails found world units ≡ came given world units
unfolding pure
fails_is found world units given e = ap (λ r. or_fails r world units) e

pub pure_is : {A : Type 0} (given : A) (world : World) (units : ℕ) → pure given world units ≡ came given world units
unfolding pure
pure_is given world units = refl

module _ (frame : Frame) (world : World) where
  -- ---- leaves

  pub literal_gives : (number : ℤ) (which : IntegerTy) → GivesAt frame world (Literal number which) (Integer which) (Whole number)
  literal_gives number which = record { runs = pure_is (typed (Integer which) (Whole number)) world }

  pub constant_gives : (test : Bool) → GivesAt frame world (Truth test) Boolean (truth_number test)
  constant_gives test = record { runs = pure_is (truth test) world }

  pub null_gives : (target : Ty) → GivesAt frame world (NullPointer target) (Pointer target) Null
  null_gives target = record { runs = pure_is (typed (Pointer target) Null) world }

  -- ---- one operand

  one_gives : (e whole : Expr) (ty gives : Ty) (of value : Value) (step : Typed → Run Typed) →
      ((units : ℕ) → run_expr frame whole world units ≡ seq (run_expr frame e) step world units) →
      ((units : ℕ) → step (typed ty of) world units ≡ came (typed gives value) world units) →
      GivesAt frame world e ty of → GivesAt frame world whole gives value
  one_gives e whole ty gives of value step is does h = record {
    runs = λ units. is units ∙ seq_is (run_expr frame e) step world units (typed ty of) (h.runs units) ∙ does units;
  }

  pub cast_gives : (e : Expr) (from to : Ty) (of value : Value) → GivesAt frame world e from of → cast_by_type from to of ≡ Ok (typed to value) →
      GivesAt frame world (Cast e to) to value
  cast_gives e from to of value h s = one_gives e (Cast e to) from to of value _ (λ units. refl) (λ units. fails_is _ world units (typed to value) s) h

  pub neg_gives : (e : Expr) (ty : Ty) (of value : Value) → GivesAt frame world e ty of → neg_by_type ty of ≡ Ok (typed ty value) → GivesAt frame world (Neg e) ty value
  neg_gives e ty of value h s = one_gives e (Neg e) ty ty of value _ (λ units. refl) (λ units. fails_is _ world units (typed ty value) s) h

  pub wrapping_neg_gives : (e : Expr) (ty : Ty) (of value : Value) → GivesAt frame world e ty of → wrapping_neg_by_type ty of ≡ Ok (typed ty value) →
      GivesAt frame world (WrappingNeg e) ty value
  wrapping_neg_gives e ty of value h s = one_gives e (WrappingNeg e) ty ty of value _ (λ units. refl) (λ units. fails_is _ world units (typed ty value) s) h

  pub not_gives : (e : Expr) (ty : Ty) (of value : Value) → GivesAt frame world e ty of → not_by_type ty of ≡ Ok (typed ty value) → GivesAt frame world (Not e) ty value
  not_gives e ty of value h s = one_gives e (Not e) ty ty of value _ (λ units. refl) (λ units. fails_is _ world units (typed ty value) s) h

  pub is_null_gives : (e : Expr) (ty : Ty) (of : Value) (test : Bool) → GivesAt frame world e ty of → null_by_type ty of ≡ Ok (truth test) →
      GivesAt frame world (IsNull e) Boolean (truth_number test)
  is_null_gives e ty of test h s = one_gives e (IsNull e) ty Boolean of (truth_number test) _ (λ units. refl) (λ units. fails_is _ world units (truth test) s) h

  pub is_none_gives : (e : Expr) (ty : Ty) (of : Value) (test : Bool) → GivesAt frame world e ty of → none_by_type ty of ≡ Ok (truth test) →
      GivesAt frame world (IsNone e) Boolean (truth_number test)
  is_none_gives e ty of test h s = one_gives e (IsNone e) ty Boolean of (truth_number test) _ (λ units. refl) (λ units. fails_is _ world units (truth test) s) h

  pub transmute_gives : (e : Expr) (from to other : Ty) (of value : Value) → GivesAt frame world e other of → transmuted_to other to of ≡ Ok (typed to value) →
      GivesAt frame world (Transmute from to e) to value
  transmute_gives e from to other of value h s = one_gives e (Transmute from to e) other to of value _ (λ units. refl) (λ units. fails_is _ world units (typed to value) s) h

  -- ---- two operands

  two_give : (left right whole : Expr) (lt rt gives : Ty) (lv rv value : Value) (step : Typed → Typed → Run Typed) →
      ((units : ℕ) → run_expr frame whole world units ≡ seq (run_expr frame left) (λ one. seq (run_expr frame right) (λ other. step one other)) world units) →
      ((units : ℕ) → step (typed lt lv) (typed rt rv) world units ≡ came (typed gives value) world units) →
      GivesAt frame world left lt lv → GivesAt frame world right rt rv → GivesAt frame world whole gives value
  two_give left right whole lt rt gives lv rv value step is does h k = record {
    runs = λ units. is units ∙ seq_is (run_expr frame left) (λ one. seq (run_expr frame right) (λ other. step one other)) world units (typed lt lv) (h.runs units)
        ∙ seq_is (run_expr frame right) (λ other. step (typed lt lv) other) world units (typed rt rv) (k.runs units) ∙ does units;
  }

  pub binary_gives : (left right : Expr) (operator : Operator) (lt rt gives : Ty) (lv rv value : Value) → GivesAt frame world left lt lv → GivesAt frame world right rt rv →
      by_type world.held.blocks operator lt lv rv ≡ Ok (typed gives value) → GivesAt frame world (Binary left operator right) gives value
  binary_gives left right operator lt rt gives lv rv value h k s =
      two_give left right (Binary left operator right) lt rt gives lv rv value _ (λ units. refl) (λ units. looks_is _ world units (typed gives value) s) h k

  pub wrapped_gives : (left right : Expr) (operation : Wrapping) (lt rt gives : Ty) (lv rv value : Value) → GivesAt frame world left lt lv → GivesAt frame world right rt rv →
      wrapped_by_type operation lt lv rv ≡ Ok (typed gives value) → GivesAt frame world (Wrapped left operation right) gives value
  wrapped_gives left right operation lt rt gives lv rv value h k s =
      two_give left right (Wrapped left operation right) lt rt gives lv rv value _ (λ units. refl) (λ units. fails_is _ world units (typed gives value) s) h k

  pub offset_gives : (left right : Expr) (lt rt gives : Ty) (lv rv value : Value) → GivesAt frame world left lt lv → GivesAt frame world right rt rv →
      offset_by_type (laid_of frame.modules) world.held.blocks lt lv rv ≡ Ok (typed gives value) → GivesAt frame world (Offset left right) gives value
  offset_gives left right lt rt gives lv rv value h k s =
      two_give left right (Offset left right) lt rt gives lv rv value _ (λ units. refl) (λ units. looks_is _ world units (typed gives value) s) h k

  pub apart_gives : (left right : Expr) (lt rt gives : Ty) (lv rv value : Value) → GivesAt frame world left lt lv → GivesAt frame world right rt rv →
      apart_by_type (laid_of frame.modules) world.held.blocks lt lv rv ≡ Ok (typed gives value) → GivesAt frame world (OffsetFrom left right) gives value
  apart_gives left right lt rt gives lv rv value h k s =
      two_give left right (OffsetFrom left right) lt rt gives lv rv value _ (λ units. refl) (λ units. looks_is _ world units (typed gives value) s) h k
