-- The condition that holds where another doesn't.
use Rattle.std.proofs.Common.{◌≡◌, ◌∙◌, ℕ, zero, suc, Bool, true, false, not, ℤ, pos, negsuc, int_le, int_lt, arith, tests as of_tests, Option, Some, None, Result, Ok, Err, refl, sym, ap}
use Rattle.cr_world.specs.Held.{Held}
use Rattle.cr_runs.specs.Runs.{bad, bind}
use Rattle.cr_world.specs.World.{World, wrong, with_held}
use Rattle.std.specs.Ordering.{int_eq}
use Rattle.mem_bytes.specs.Memory.{Blocks}
use Rattle.mem_bytes.specs.Pointers.{distance, are_equal}
use Rattle.mem_bytes.specs.declared.value.Value.{Value}
use Rattle.mem_bytes.specs.declared.value.Value.TheVariants.{Whole, Null, Object, Code as Function}
use Rattle.rs_text.specs.declared.operator.Operator.{Operator}
use Rattle.rs_text.specs.declared.operator.Operator.TheVariants.{Equal, NotEqual, Less, LessEqual, Greater, GreaterEqual}
use Rattle.rs_text.specs.Tree.{Ty, Integer, Boolean, Void, Pointer, Array, Code, Record, Expr, Not, Binary}
use Rattle.rs_mean.specs.declared.cause.Cause.{Cause}
use Rattle.rs_mean.specs.Run.{Frame, run_expr, tests}
use Rattle.rs_mean.specs.Numbers.{compared}
use Rattle.rs_mean.specs.Values.{Typed, typed, truth, not_of, ordered, by_type, binary_of}
use Rattle.rs_mean.specs.World.{Run, pure, fails, seq, either, local, looks, kept, after_step, or_fails, cause_of_pointer, or_cause}
use Rattle.emit_rules.specs.Texts.{opposite, compared_by, negated}
use Rattle.emit_laws.proofs.Runs.{same_runs, seq_seq, seq_with}

-- one of two runs by what a value says
abbrev pub by_test : {A : Type 0} → Run A → Run A → Typed → Run A
by_test if_true if_false value = seq (tests value) (λ test. either test if_true if_false)

-- two results of which one is a truth value and the other its opposite, or both are the same fault
abbrev AreOpposite : Result Typed Cause → Result Typed Cause → Type 0
AreOpposite (Ok one) (Ok other) = (test : Bool) × (one ≡ truth test) × (other ≡ truth (not test))
AreOpposite (Err why) (Err because) = why ≡ because
AreOpposite (Ok one) (Err because) = ⊥
AreOpposite (Err why) (Ok other) = ⊥

module _ {A : Type 0} (if_true if_false : Run A) where
  -- what a number says, and its opposite
  by_number : (number : ℤ) → seq (or_fails (not_of (typed Boolean (Whole number)))) (by_test if_true if_false) ≡ by_test if_false if_true (typed Boolean (Whole number))
  unfolding seq pure fails
  by_number (pos zero) = refl
  by_number (pos (suc n)) = refl
  by_number (negsuc n) = refl

  -- and a value of any type
  by_value : (ty : Ty) (value : Value) → seq (or_fails (not_of (typed ty value))) (by_test if_true if_false) ≡ by_test if_false if_true (typed ty value)
  unfolding seq pure fails
  by_value Boolean (Whole number) = by_number number
  by_value Boolean Null = refl
  by_value Boolean (Object at) = refl
  by_value Boolean (Function number) = refl
  by_value (Integer which) (Whole number) = refl
  by_value (Integer which) Null = refl
  by_value (Integer which) (Object at) = refl
  by_value (Integer which) (Function number) = refl
  by_value Void value = refl
  by_value (Pointer target) value = refl
  by_value (Array element size) value = refl
  by_value (Code params result) value = refl
  by_value (Record m x) value = refl

  -- a truth value and its opposite
  by_truth : (test : Bool) → by_test if_true if_false (truth (not test)) ≡ by_test if_false if_true (truth test)
  unfolding seq pure
  by_truth true = refl
  by_truth false = refl

  -- results of a look at memory
  by_looks : (one other : Held → Result Typed Cause) → ((held : Held) → AreOpposite (one held) (other held)) →
      seq (looks other) (by_test if_true if_false) ≡ seq (looks one) (by_test if_false if_true)
  unfolding seq local
  by_looks one other opposite = same_runs _ _ (λ world units. found world units (one world.held) (other world.held) (opposite world.held))
    where
      found : (world : World) (units : ℕ) (first second : Result Typed Cause) → AreOpposite first second →
          bind (after_step world units (kept world.held second)) (by_test if_true if_false) ≡ bind (after_step world units (kept world.held first)) (by_test if_false if_true)
      found world units (Ok first) (Ok second) (test, one_is, other_is) =
          ap (λ (value : Typed). by_test if_true if_false value (with_held world.held world) units) other_is ∙ ap (λ (run : Run A). run (with_held world.held world) units) (by_truth test)
          ∙ ap (λ (value : Typed). by_test if_false if_true value (with_held world.held world) units) (sym one_is)
      found world units (Err first) (Err second) same = ap (λ (why : Cause). bad (wrong why) world) (sym same)
      found world units (Ok first) (Err second) no_way = elim no_way [ ]
      found world units (Err first) (Ok second) no_way = elim no_way [ ]

-- ---- comparisons

-- of two results of which the second is opposite to the first the first is to the second
opposite_back : (one other : Result Typed Cause) → AreOpposite one other → AreOpposite other one
opposite_back (Ok one) (Ok other) (true, one_is, other_is) = (false, other_is, one_is)
opposite_back (Ok one) (Ok other) (false, one_is, other_is) = (true, other_is, one_is)
opposite_back (Err why) (Err because) same = sym same
opposite_back (Ok one) (Err because) no_way = elim no_way [ ]
opposite_back (Err why) (Ok other) no_way = elim no_way [ ]

less_or_not : (left right : ℤ) → int_le right left ≡ not (int_lt left right)
less_or_not left right = grind (arith, of_tests)

ordered_opposite : (one other : Operator) → ((left right : ℤ) → compared other left right ≡ not (compared one left right)) → (bytes : Result ℤ Cause) → AreOpposite (ordered one bytes) (ordered other bytes)
ordered_opposite one other same (Ok bytes) = (compared one bytes (pos 0), refl, ap truth (same bytes (pos 0)))
ordered_opposite one other same (Err why) = refl

module _ (blocks : Blocks) where
  equality : (ty : Ty) (left right : Value) → AreOpposite (by_type blocks Equal ty left right) (by_type blocks NotEqual ty left right)
  equality (Integer which) (Whole left) (Whole right) = (int_eq left right, refl, refl)
  equality Boolean (Whole left) (Whole right) = (int_eq left right, refl, refl)
  equality (Pointer target) left right = (are_equal left right, refl, refl)
  equality (Code params result) left right = (are_equal left right, refl, refl)
  equality ty left right = refl

  less : (ty : Ty) (left right : Value) → AreOpposite (by_type blocks Less ty left right) (by_type blocks GreaterEqual ty left right)
  less (Integer which) (Whole left) (Whole right) = (int_lt left right, refl, ap truth (less_or_not left right))
  less Boolean (Whole left) (Whole right) = (int_lt left right, refl, ap truth (less_or_not left right))
  less (Pointer target) left right = ordered_opposite Less GreaterEqual less_or_not (or_cause cause_of_pointer (distance blocks left right))
  less ty left right = refl

  greater : (ty : Ty) (left right : Value) → AreOpposite (by_type blocks Greater ty left right) (by_type blocks LessEqual ty left right)
  greater (Integer which) (Whole left) (Whole right) = (int_lt right left, refl, ap truth (less_or_not right left))
  greater Boolean (Whole left) (Whole right) = (int_lt right left, refl, ap truth (less_or_not right left))
  greater (Pointer target) left right = ordered_opposite Greater LessEqual (λ one other. less_or_not other one) (or_cause cause_of_pointer (distance blocks left right))
  greater ty left right = refl

  -- each comparison and its opposite
  comparison_opposite : (operator other : Operator) → opposite operator ≡ Some other → (left right : Typed) → AreOpposite (binary_of blocks operator left right) (binary_of blocks other left right)
  comparison_opposite Equal NotEqual is left right = equality left.ty left.value right.value
  comparison_opposite NotEqual Equal is left right = opposite_back _ _ (equality left.ty left.value right.value)
  comparison_opposite Less GreaterEqual is left right = less left.ty left.value right.value
  comparison_opposite GreaterEqual Less is left right = opposite_back _ _ (less left.ty left.value right.value)
  comparison_opposite Greater LessEqual is left right = greater left.ty left.value right.value
  comparison_opposite LessEqual Greater is left right = opposite_back _ _ (greater left.ty left.value right.value)
  comparison_opposite operator other is left right = absurd cc

-- ---- conditions

module _ (frame : Frame) {A : Type 0} (if_true if_false : Run A) where
  -- an expression and `!` in front of it
  by_not : (e : Expr) → seq (run_expr frame (Not e)) (by_test if_true if_false) ≡ seq (run_expr frame e) (by_test if_false if_true)
  by_not e = seq_seq (run_expr frame e) (λ value. or_fails (not_of value)) (by_test if_true if_false)
      ∙ seq_with (run_expr frame e) _ _ (λ value. by_value if_true if_false value.ty value.value)

  by_comparison : (left right : Expr) (operator : Operator) (other : Option Operator) → opposite operator ≡ other →
      seq (run_expr frame (compared_by left right operator other)) (by_test if_true if_false) ≡ seq (run_expr frame (Binary left operator right)) (by_test if_false if_true)
  by_comparison left right operator None is = by_not (Binary left operator right)
  by_comparison left right operator (Some other) is =
      seq_seq (run_expr frame left) _ _
      ∙ seq_with (run_expr frame left) _ _ (λ one. seq_seq (run_expr frame right) _ _
      ∙ seq_with (run_expr frame right) _ _ (λ two. by_looks if_true if_false (λ held. binary_of held.blocks operator one two) (λ held. binary_of held.blocks other one two)
      (λ held. comparison_opposite held.blocks operator other is one two))
      ∙ sym (seq_seq (run_expr frame right) _ _))
      ∙ sym (seq_seq (run_expr frame left) _ _)

-- a condition and the one that holds where it doesn't
pub by_negated : (frame : Frame) {A : Type 0} (if_true if_false : Run A) (e : Expr) →
    seq (run_expr frame (negated e)) (by_test if_true if_false) ≡ seq (run_expr frame e) (by_test if_false if_true)
by_negated frame if_true if_false (Not e) = sym (by_not frame if_false if_true e)
by_negated frame if_true if_false (Binary left operator right) = by_comparison frame if_true if_false left right operator (opposite operator) refl
by_negated frame if_true if_false e = by_not frame if_true if_false e
