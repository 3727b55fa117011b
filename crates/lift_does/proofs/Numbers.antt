-- Temporaries are numbered one behind the other.
use Rattle.std.proofs.Common.{◌≡◌, ℕ, suc, ◌+◌, ◌≤◌, Bool, true, false, ◌&&◌, ◌||◌, not, if◌then◌else◌, List, [], ◌∷◌, ◌++◌, length, arith, length-append}
use Rattle.cx_core.specs.Trees.{CTy, CExpr, expr, CForm, whole, null, object, code, load, deref, member, address, convert, unary, binary, and, or, cond, assign, assign_by, step, call, call_by, comma, literal, CExprs, no_exprs, more_exprs, CPut, put, CPuts, no_puts, more_puts}
use Rattle.cx_core.specs.Typing.{width_of}
use Rattle.cx_core.specs.declared.expr.Op2.{Op2}
use Rattle.lift_does.proofs.Asking.{held_test}
use Rattle.lift_exprs.specs.Calls.{Called, Arguments, called_with, called_for_record, called_for_value, called_alone, called_by_name, called_by_pointer}
use Rattle.lift_exprs.specs.Lifted.{lifted, lifted_form, lifted_args, lifted_puts, lifted_put, operand_of, Deciding, where_true, where_false, decided_written, Choice, choice_behind, chosen_written, joined_to, literal_begun}
use Rattle.lift_exprs.specs.Names.{Names, type_in}
use Rattle.lift_exprs.specs.Objects.{object_at}
use Rattle.lift_exprs.specs.Stores.{Target, is_field, target_of, target_type, stored, held_store, plain_store, Change, changed, old_value, stepped, step_by_one, promoted_type}
use Rattle.lift_exprs.specs.Written.{Written, Both, both, both_behind, in_turn, NodeKind, kind_in, held_type, held_where}
use Rattle.lift_forms.specs.Given.{Given}
use Rattle.lift_forms.specs.Given as given_form
use Rattle.lift_forms.specs.Operators.{Operand}
use Rattle.lift_held.specs.Held.{is_void, is_record, acts, operand, operand_before, part_of, whole_of, holds_call, some_holds_call, value_for}
use Rattle.lift_held.specs.declared.asked.Asked.{Asked}
use Rattle.rs_text.specs.Tree.{Ty, Place as RustPlace, Expr}

abbrev pub IsNumbered : Written → ℕ → Type 0
IsNumbered one from = one.next ≡ from + length one.temporaries

pub turn_numbered : (two : Both) (given : Given) (from : ℕ) → IsNumbered two.first from → IsNumbered two.second two.first.next → IsNumbered (in_turn two given) from
turn_numbered two given from one other = let long = length-append two.first.temporaries two.second.temporaries in omega (arith, one, other, long)

pub one_longer : (one : Ty) (temporaries : List Ty) (next from : ℕ) → next ≡ from + length temporaries → suc next ≡ from + length (temporaries ++ (one ∷ []))
one_longer one temporaries next from is = let long = length-append temporaries (one ∷ []) in omega (arith, is, long)

if_numbered : (test : Bool) (one other : Written) (from : ℕ) → IsNumbered one from → IsNumbered other from → IsNumbered (if test then one else other) from
if_numbered true one other from is also = is
if_numbered false one other from is also = also

pub where_numbered : (test : Bool) (names_of : Names) (kind : NodeKind) (written : Written) (from : ℕ) → IsNumbered written from → IsNumbered (held_where test names_of kind written) from
where_numbered true names_of kind written from is = one_longer (held_type kind) written.temporaries written.next from is
where_numbered false names_of kind written from is = is

pub stored_numbered : (names_of : Names) (used : Bool) (target : Target) (e : Expr) (written : Written) (from : ℕ) → IsNumbered written from → IsNumbered (stored names_of used target e written) from
stored_numbered names_of used target e written from is =
    if_numbered (used || is_field target) (held_store names_of used target e written) (plain_store target e written) from (one_longer (target_type target) written.temporaries written.next from is) is

pub step_numbered : (names_of : Names) (used post : Bool) (target : Target) (change : Change) (written : Written) (from : ℕ) → IsNumbered written from → IsNumbered (stepped names_of used post target change written) from
step_numbered names_of true true target change written from is = one_longer (target_type target) written.temporaries written.next from is
step_numbered names_of true false target change written from is = stored_numbered names_of true target (changed change (target_type target) (old_value target)) written from is
step_numbered names_of false post target change written from is = stored_numbered names_of false target (changed change (target_type target) (old_value target)) written from is

pub decided_numbered : (names_of : Names) (used acting : Bool) (type : CTy) (which : Deciding) (test other : Operand) (two : Both) (from : ℕ) → IsNumbered two.first from → IsNumbered two.second two.first.next →
    IsNumbered (decided_written names_of used acting type which test other two) from
decided_numbered names_of true true type which test other two from one more =
    one_longer (type_in names_of type) (two.first.temporaries ++ two.second.temporaries) two.second.next from (turn_numbered two given_form.nothing from one more)
decided_numbered names_of false true type which test other two from one more = turn_numbered two given_form.nothing from one more
decided_numbered names_of used false type which test other two from one more = turn_numbered two given_form.nothing from one more

pub three_numbered : (three : Choice) (from : ℕ) → IsNumbered three.test from → IsNumbered three.first three.test.next → IsNumbered three.second three.first.next →
    three.second.next ≡ from + length (three.test.temporaries ++ (three.first.temporaries ++ three.second.temporaries))
three_numbered three from one two more =
    let inner = length-append three.first.temporaries three.second.temporaries in
    let outer = length-append three.test.temporaries (three.first.temporaries ++ three.second.temporaries) in
    omega (arith, one, two, more, inner, outer)

pub chosen_numbered : (names_of : Names) (used acting : Bool) (type : CTy) (test first second : Operand) (three : Choice) (from : ℕ) → IsNumbered three.test from → IsNumbered three.first three.test.next → IsNumbered three.second three.first.next →
    IsNumbered (chosen_written names_of used acting type test first second three) from
chosen_numbered names_of true true type test first second three from one two more =
    one_longer (type_in names_of type) (three.test.temporaries ++ (three.first.temporaries ++ three.second.temporaries)) three.second.next from (three_numbered three from one two more)
chosen_numbered names_of false true type test first second three from one two more = three_numbered three from one two more
chosen_numbered names_of true false type test first second three from one two more = three_numbered three from one two more
chosen_numbered names_of false false type test first second three from one two more = three_numbered three from one two more

called_numbered : (names_of : Names) (used : Bool) (type : CTy) (called : Called) (args : Arguments) (from : ℕ) → IsNumbered args.written from → IsNumbered (called_with names_of used type called args) from
called_numbered names_of used type called args from is =
    if_numbered (is_record type) (called_for_record names_of type called args) (if used && not (is_void type) then called_for_value names_of type called args else called_alone called args) from
    (one_longer (type_in names_of type) args.written.temporaries args.written.next from is)
    (if_numbered (used && not (is_void type)) (called_for_value names_of type called args) (called_alone called args) from is is)

pub rises : (written : Written) (from : ℕ) → IsNumbered written from → from ≤ written.next
rises written from is = omega (arith, is)

-- ---- the operands of a form

abbrev pub pair_for : Names → CExpr → CExpr → ℕ → Both
pair_for names_of target value from = both (λ number. lifted names_of (operand_before (holds_call value)) target number) (λ number. lifted names_of operand value number) from

abbrev pub operands_of : Names → CExpr → CExpr → ℕ → Both
operands_of names_of left right from = both (λ number. lifted names_of operand left number) (λ number. lifted names_of operand right number) from

abbrev pub parts_of : Names → Bool → CExpr → CExpr → CExpr → ℕ → Choice
parts_of names_of used test first second from = choice_behind (lifted names_of operand test from) (λ number. lifted names_of (part_of used) first number) (λ number. lifted names_of (part_of used) second number)

abbrev pub change_for : Names → Op2 → CTy → CExpr → Given → Change
change_for names_of op computes value given = record { op = op; computes = type_in names_of computes; right = operand_of names_of value given }

mutual
  pub numbered : (names_of : Names) (asked : Asked) (e : CExpr) (from : ℕ) → IsNumbered (lifted names_of asked e from) from
  numbered names_of asked (expr type at form) from =
      where_numbered (held_test asked type form) names_of (kind_in names_of type form) (lifted_form names_of asked type form from) from (form_numbered names_of asked type form from)

  pub form_numbered : (names_of : Names) (asked : Asked) (type : CTy) (form : CForm) (from : ℕ) → IsNumbered (lifted_form names_of asked type form from) from
  form_numbered names_of asked type (whole value) from = omega arith
  form_numbered names_of asked type null from = omega arith
  form_numbered names_of asked type (object number) from = omega arith
  form_numbered names_of asked type (code number) from = omega arith
  form_numbered names_of asked type (load of) from = numbered names_of operand of from
  form_numbered names_of asked type (deref of) from = numbered names_of operand of from
  form_numbered names_of asked type (member of spot) from = numbered names_of (whole_of spot) of from
  form_numbered names_of asked type (address of) from = numbered names_of operand of from
  form_numbered names_of asked type (convert of) from = numbered names_of (part_of (not (is_void type))) of from
  form_numbered names_of asked type (unary op of) from = numbered names_of operand of from
  form_numbered names_of asked type (binary op left right) from =
      turn_numbered (pair_for names_of left right from) given_form.nothing from (numbered names_of (operand_before (holds_call right)) left from) (numbered names_of operand right (pair_for names_of left right from).first.next)
  form_numbered names_of asked type (and left right) from =
      let two = operands_of names_of left right from in
      decided_numbered names_of asked.used (acts true right) type where_true (operand_of names_of left two.first.given) (operand_of names_of right two.second.given) two from
      (numbered names_of operand left from) (numbered names_of operand right two.first.next)
  form_numbered names_of asked type (or left right) from =
      let two = operands_of names_of left right from in
      decided_numbered names_of asked.used (acts true right) type where_false (operand_of names_of left two.first.given) (operand_of names_of right two.second.given) two from
      (numbered names_of operand left from) (numbered names_of operand right two.first.next)
  form_numbered names_of asked type (cond test first second) from =
      let three = parts_of names_of asked.used test first second from in
      chosen_numbered names_of asked.used ((asked.used && is_record type) || (acts asked.used first || acts asked.used second)) type (operand_of names_of test three.test.given) (operand_of names_of first three.first.given)
      (operand_of names_of second three.second.given) three from (numbered names_of operand test from) (numbered names_of (part_of asked.used) first three.test.next) (numbered names_of (part_of asked.used) second three.first.next)
  form_numbered names_of asked type (assign target value) from =
      let two = pair_for names_of target value from in
      stored_numbered names_of asked.used (target_of names_of type target two.first.given) _ (in_turn two given_form.nothing) from
      (turn_numbered two given_form.nothing from (numbered names_of (operand_before (holds_call value)) target from) (numbered names_of operand value two.first.next))
  form_numbered names_of asked type (assign_by op computes target value) from =
      let two = pair_for names_of target value from in
      stored_numbered names_of asked.used (target_of names_of type target two.first.given) _ (in_turn two given_form.nothing) from
      (turn_numbered two given_form.nothing from (numbered names_of (operand_before (holds_call value)) target from) (numbered names_of operand value two.first.next))
  form_numbered names_of asked type (step up post on) from =
      let one = lifted names_of operand on from in
      step_numbered names_of asked.used post (target_of names_of type on one.given) (step_by_one up (promoted_type (target_type (target_of names_of type on one.given)) (width_of on))) one from (numbered names_of operand on from)
  form_numbered names_of asked type (call callee args) from =
      called_numbered names_of asked.used type (called_by_name names_of callee) (lifted_args names_of args from) from (args_numbered names_of args from)
  form_numbered names_of asked type (call_by callee args) from =
      let pointer = lifted names_of (operand_before (some_holds_call args)) callee from in
      called_numbered names_of asked.used type (called_by_pointer (operand_of names_of callee pointer.given)) (joined_to pointer (lifted_args names_of args pointer.next)) from
      (turn_numbered (record { first = pointer; second = (lifted_args names_of args pointer.next).written }) given_form.nothing from
      (numbered names_of (operand_before (some_holds_call args)) callee from) (args_numbered names_of args pointer.next))
  form_numbered names_of asked type (comma first second) from =
      turn_numbered (both (λ number. lifted names_of (part_of false) first number) (λ number. lifted names_of (part_of asked.used) second number) from) given_form.nothing from
      (numbered names_of (part_of false) first from) (numbered names_of (part_of asked.used) second (lifted names_of (part_of false) first from).next)
  form_numbered names_of asked type (literal number puts) from =
      turn_numbered (both_behind (literal_begun names_of type number puts from) (λ next. lifted_puts names_of type (object_at names_of type number) puts next)) given_form.nothing from
      (omega arith) (puts_numbered names_of type (object_at names_of type number) puts from)

  pub args_numbered : (names_of : Names) (args : CExprs) (from : ℕ) → IsNumbered (lifted_args names_of args from).written from
  args_numbered names_of no_exprs from = omega arith
  args_numbered names_of (more_exprs first others) from =
      let one = lifted names_of (operand_before (some_holds_call others)) first from in
      turn_numbered (record { first = one; second = (lifted_args names_of others one.next).written }) given_form.nothing from
      (numbered names_of (operand_before (some_holds_call others)) first from) (args_numbered names_of others one.next)

  pub puts_numbered : (names_of : Names) (filled : CTy) (p : RustPlace) (puts : CPuts) (from : ℕ) → IsNumbered (lifted_puts names_of filled p puts from) from
  puts_numbered names_of filled p no_puts from = omega arith
  puts_numbered names_of filled p (more_puts first others) from =
      let one = lifted_put names_of filled p first from in
      turn_numbered (record { first = one; second = lifted_puts names_of filled p others one.next }) given_form.nothing from
      (put_numbered names_of filled p first from) (puts_numbered names_of filled p others one.next)

  pub put_numbered : (names_of : Names) (filled : CTy) (p : RustPlace) (one : CPut) (from : ℕ) → IsNumbered (lifted_put names_of filled p one from) from
  put_numbered names_of filled p (put spot type value) from = numbered names_of (value_for spot) value from
