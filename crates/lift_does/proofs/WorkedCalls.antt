-- Worked examples of calls: `printf` with further arguments, and a call by a pointer of a compatible type.
use Rattle.std.proofs.Common.{◌≡◌, true, false, [], ◌∷◌, Some, None, refl}
use Rattle.cx_core.specs.Trees.{CExpr, no_exprs, more_exprs}
use Rattle.lift_does.proofs.PointedServes.{option_of}
use Rattle.lift_does.proofs.PointedTypes.{tys_alike}
use Rattle.lift_does.specs.Outers.{TakesAll}
use Rattle.mem_bytes.specs.declared.value.Value.TheVariants.{Whole}
use Rattle.rs_mean.specs.Calls.{accepts}
use Rattle.rs_mean.specs.Run.{retyped}
use Rattle.rs_mean.specs.Values.{typed}
use Rattle.rs_text.specs.Tree.{Integer, Void, Pointer, Record, no_tys, more_tys, no_ty, some_ty}
use Rattle.rs_text.specs.declared.integer.IntegerTy.TheVariants.{I8, I32, I64}
use Rattle.std.specs.Prelude.{codes, pos}

module _ (one two : CExpr) where
  -- `printf(text, number)` and `printf(text)`, by an item with one parameter and `...`
  more_taken : TakesAll (more_tys (Pointer (Integer I8)) no_tys) true (more_exprs one (more_exprs two no_exprs))
  more_taken = refl

  none_taken : TakesAll (more_tys (Pointer (Integer I8)) no_tys) true (more_exprs one no_exprs)
  none_taken = tt

  -- but not `printf()`
  lacks : TakesAll (more_tys (Pointer (Integer I8)) no_tys) true no_exprs → ⊥
  lacks is = is

-- what is passed so is accepted
printf_accepts : accepts (Pointer (Integer I8) ∷ []) true (typed (Pointer (Integer I8)) (Whole (pos 0)) ∷ typed (Integer I32) (Whole (pos 7)) ∷ []) ≡ true
printf_accepts = refl

-- a structure is passed by a pointer to it, and given back where a first parameter points: pointers to the records of two modules are alike
records_passed : tys_alike (more_tys (Pointer (Record (codes "a") (codes "pair"))) (more_tys (Pointer (Record (codes "a") (codes "pair"))) no_tys)) (more_tys (Pointer (Record (codes "b") (codes "pair"))) (more_tys (Pointer (Record (codes "b") (codes "pair"))) no_tys)) ≡ true
records_passed = refl

-- `int` is no `long`
numbers_differ : tys_alike (more_tys (Integer I32) no_tys) (more_tys (Integer I64) no_tys) ≡ false
numbers_differ = refl

-- the result of a call by a pointer has the type of the pointer
result_retyped : retyped (some_ty (Pointer Void)) (Some (typed (Pointer (Integer I32)) (Whole (pos 0)))) ≡ Some (typed (Pointer Void) (Whole (pos 0)))
result_retyped = refl

no_result : option_of no_ty ≡ None
no_result = refl
