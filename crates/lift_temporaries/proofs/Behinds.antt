-- The temporaries behind others are those of the expression, behind them.
use Rattle.std.proofs.Common.{◌≡◌, Bool, true, false, not, List, ◌++◌, append_assoc, refl, sym, ap, ◌∙◌}
use Rattle.std.proofs.lemmas.List.{append-nil}
use Rattle.cx_core.specs.Trees.{CTy, CExpr, expr, CForm, whole, null, object, code, load, deref, member, address, convert, unary, binary, and, or, cond, assign, assign_by, step, call, call_by, comma, literal, CExprs, no_exprs, more_exprs, CPut, put, CPuts, no_puts, more_puts}
use Rattle.lift_exprs.specs.Names.{Names}
use Rattle.lift_exprs.specs.Temporaries.{own_type, held_types, held_types_in, held_types_in_args, held_types_in_put, held_types_in_puts}
use Rattle.lift_held.specs.Held.{is_void, holds_call, some_holds_call, operand, operand_before, part_of, whole_of, is_held_form, value_for}
use Rattle.lift_held.specs.declared.asked.Asked.{Asked}
use Rattle.lift_temporaries.specs.Behind.{own_behind, types_behind, types_behind_form, types_behind_args, types_behind_put, types_behind_puts}
use Rattle.rs_text.specs.Tree.{Ty}

own : (is_it : Bool) (names : Names) (type : CTy) (form : CForm) (before : List Ty) → own_behind is_it names type form before ≡ before ++ own_type is_it names type form
own true names type form before = refl
own false names type form before = sym (append-nil before)

-- one list behind another
then_behind : {first second : List Ty} (before one other : List Ty) → first ≡ before ++ one → second ≡ first ++ other → second ≡ before ++ (one ++ other)
then_behind before one other e f = f ∙ ap (λ list. list ++ other) e ∙ append_assoc before one other

mutual
  pub behind : (names : Names) (asked : Asked) (e : CExpr) (before : List Ty) → types_behind names asked e before ≡ before ++ held_types names asked e
  behind names asked (expr type place form) before =
      then_behind before _ _ (behind_form names asked type form before) (own (is_held_form asked type form) names type form (types_behind_form names asked type form before))

  behind_form : (names : Names) (asked : Asked) (type : CTy) (form : CForm) (before : List Ty) →
      types_behind_form names asked type form before ≡ before ++ held_types_in names asked type form
  behind_form names asked type (whole value) before = sym (append-nil before)
  behind_form names asked type null before = sym (append-nil before)
  behind_form names asked type (object number) before = sym (append-nil before)
  behind_form names asked type (code number) before = sym (append-nil before)
  behind_form names asked type (load from) before = behind names operand from before
  behind_form names asked type (deref from) before = behind names operand from before
  behind_form names asked type (member of spot) before = behind names (whole_of spot) of before
  behind_form names asked type (address of) before = behind names operand of before
  behind_form names asked type (convert value) before = behind names (part_of (not (is_void type))) value before
  behind_form names asked type (unary op value) before = behind names operand value before
  behind_form names asked type (binary op left right) before = then_behind before _ _ (behind names (operand_before (holds_call right)) left before) (behind names operand right (types_behind names (operand_before (holds_call right)) left before))
  behind_form names asked type (and left right) before = then_behind before _ _ (behind names operand left before) (behind names operand right (types_behind names operand left before))
  behind_form names asked type (or left right) before = then_behind before _ _ (behind names operand left before) (behind names operand right (types_behind names operand left before))
  behind_form names asked type (cond test first second) before = then_behind before _ _ (behind names operand test before) (then_behind (types_behind names operand test before) _ _ (behind names (part_of asked.used) first (types_behind names operand test before)) (behind names (part_of asked.used) second (types_behind names (part_of asked.used) first (types_behind names operand test before))))
  behind_form names asked type (assign target value) before = then_behind before _ _ (behind names (operand_before (holds_call value)) target before) (behind names operand value (types_behind names (operand_before (holds_call value)) target before))
  behind_form names asked type (assign_by op computes target value) before = then_behind before _ _ (behind names (operand_before (holds_call value)) target before) (behind names operand value (types_behind names (operand_before (holds_call value)) target before))
  behind_form names asked type (step up post on) before = behind names operand on before
  behind_form names asked type (call callee args) before = behind_args names args before
  behind_form names asked type (call_by callee args) before = then_behind before _ _ (behind names (operand_before (some_holds_call args)) callee before) (behind_args names args (types_behind names (operand_before (some_holds_call args)) callee before))
  behind_form names asked type (comma first second) before = then_behind before _ _ (behind names (part_of false) first before) (behind names (part_of asked.used) second (types_behind names (part_of false) first before))
  behind_form names asked type (literal number puts) before = behind_puts names puts before

  behind_args : (names : Names) (args : CExprs) (before : List Ty) → types_behind_args names args before ≡ before ++ held_types_in_args names args
  behind_args names no_exprs before = sym (append-nil before)
  behind_args names (more_exprs first others) before =
      then_behind before _ _ (behind names (operand_before (some_holds_call others)) first before)
      (behind_args names others (types_behind names (operand_before (some_holds_call others)) first before))

  pub behind_puts : (names : Names) (puts : CPuts) (before : List Ty) → types_behind_puts names puts before ≡ before ++ held_types_in_puts names puts
  behind_puts names no_puts before = sym (append-nil before)
  behind_puts names (more_puts first others) before =
      then_behind before _ _ (behind_put names first before) (behind_puts names others (types_behind_put names first before))

  behind_put : (names : Names) (one : CPut) (before : List Ty) → types_behind_put names one before ≡ before ++ held_types_in_put names one
  behind_put names (put spot type value) before = behind names (value_for spot) value before
