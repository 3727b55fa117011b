-- Compound literals: each value is stored before the next one is reached, and then the object is given (ISO C99, 6.5.2.5).
use Rattle.std.proofs.Common.{◌≡◌, ℕ, ◌<◌, nat_lt, true, [], ◌++◌, Some, Ok, refl, sym, subst, arith}
use Rattle.std.proofs.lemmas.Bool.Decides.{nat_tests}
use Rattle.cr_base.specs.declared.layout.Spot.{Spot}
use Rattle.cr_base.specs.declared.refusal.Place.{Place}
use Rattle.cr_world.specs.World.{World, blocks_of, with_memory}
use Rattle.cx_core.specs.Trees.{CTy, CExpr, expr, literal, put, CPuts, no_puts, more_puts}
use Rattle.cx_core.specs.Typing.{IsLvalue, ArePuts}
use Rattle.cx_mean.specs.Initialisers.{CCleared, object_cleared}
use Rattle.cx_mean.specs.Leftmost.{c_fill}
use Rattle.cx_mean.specs.Marks.{Marks, no_marks, bits_of_bytes, with_write, at_sequence_point}
use Rattle.cx_mean.specs.Nodes.{CDone, done, literal_cleared, marks_after_put}
use Rattle.cx_mean.specs.Operands.{CValue, names, COperand}
use Rattle.cx_typed_work.proofs.Puts.{IsLiteralAlive, literal_lives}
use Rattle.lift_calls.specs.Programs.{setting_in, c_calls}
use Rattle.lift_does.proofs.Around.{Around, scope, At, DidOf, OweAs, Reached}
use Rattle.lift_does.proofs.Leaves.{object_given}
use Rattle.lift_does.proofs.LiteralClears.{literal_clears, cleared_reached}
use Rattle.lift_does.proofs.Nodes.{and_then_is}
use Rattle.lift_does.proofs.Numbers.{rises, numbered, puts_numbered}
use Rattle.lift_does.proofs.Operands.{where_used}
use Rattle.lift_does.proofs.PutsOwed.{front_owes, put_owes}
use Rattle.lift_does.proofs.Reaching.{reached_none, reached_then}
use Rattle.lift_does.proofs.Runs.{step_owes, end_owes, weaker_owes, same_events}
use Rattle.lift_does.proofs.Unary.{form_fixed, ExprOwes, FormOwes}
use Rattle.lift_does.specs.Does.{is_fixed}
use Rattle.lift_does.specs.Gives.{GivesOperand}
use Rattle.lift_exprs.specs.Lifted.{lifted, lifted_puts}
use Rattle.lift_exprs.specs.Objects.{object_at, is_zeroed, zeroed_where}
use Rattle.lift_forms.specs.Given as given_form
use Rattle.lift_forms_laws.proofs.Runs.{pure_is}
use Rattle.lift_held.specs.Held.{value_for}
use Rattle.lift_held.specs.declared.asked.Asked.{Asked}
use Rattle.lift_stands.specs.Stands.{Images}
use Rattle.rs_mean.specs.Run.{Flow, normal}

-- C's first write is to the whole object
abbrev marks_of : CCleared → Marks
marks_of made = at_sequence_point (with_write (bits_of_bytes made.at made.size) no_marks)

-- what is stored in a bit-field is the same whatever is stored
pub stored_fixed : (spot : Spot) (value : CExpr) → 0 < spot.width → is_fixed (value_for spot) value ≡ true
stored_fixed spot value some = let wide : nat_lt 0 spot.width ≡ true = grind (arith, nat_tests, some) in rw wide refl

module _ (x : Around) where
  -- what each value owes
  abbrev pub EachPutOwes : CPuts → ℕ → Type 0
  EachPutOwes no_puts next = Unit {0}
  EachPutOwes (more_puts (put spot part value) others) next =
      ((images : Images) (c w : World) → At x images c w → ExprOwes x (value_for spot) value next images c w) × EachPutOwes others (lifted x.names (value_for spot) value next).next

  -- all values have been stored
  pub record Filled (number from to : ℕ) (images : Images) (c0 w0 : World) (one : COperand) (c1 : World) (flow : Flow) (w1 : World) : Type 0 where
    pub flow_is : flow ≡ normal
    pub value_is : one.value ≡ names number
    pub later : Images
    pub reached : Reached x from to images later c0 w0 c1 w1

  pub fill_owes : (type : CTy) (number : ℕ) (lives : (images : Images) (c_world world : World) → At x images c_world world → IsLiteralAlive x.home (scope x) (blocks_of c_world) type number) (puts : CPuts) (marks : Marks) (from : ℕ) (images : Images) (c0 w0 : World) →
      At x images c0 w0 → ArePuts x.home type puts → EachPutOwes puts from →
      OweAs x (Filled number from (lifted_puts x.names type (object_at x.names type number) puts from).next images c0 w0) (λ k. c_fill (setting_in x.s) (c_calls x.s) (scope x) type number puts marks c0 k)
      (lifted_puts x.names type (object_at x.names type number) puts from).body w0
  fill_owes type number lives no_puts marks from images c0 w0 here are owes =
      end_owes x (Filled number from from images c0 w0) (record { type = type; value = names number; marks = marks }) [] c0 w0 w0 (λ units. pure_is normal w0 units)
      (record { flow_is = refl; value_is = refl; later = images; reached = reached_none x from images c0 w0 here })
  fill_owes type number lives (more_puts (put spot part value) others) marks from images c0 w0 here are owes =
      let asked = value_for spot in
      let written = lifted x.names asked value from in
      let rest = lifted_puts x.names type (object_at x.names type number) others written.next in
      put_owes x type number lives spot part value are.0.0 are.0.1 (Filled number from rest.next images c0 w0) (λ one. one) (λ made after. c_fill (setting_in x.s) (c_calls x.s) (scope x) type number others (marks_after_put marks made.marks) after) rest.body
      (is_fixed asked value) written from images c0 w0 (λ one. refl) (λ one. refl) here (rises written from (numbered x.names asked value from)) (stored_fixed spot value) (owes.0 images c0 w0 here) (λ made later c1 w1 reached.
      weaker_owes x (Filled number written.next rest.next later c1 w1) (Filled number from rest.next images c0 w0) (λ k. c_fill (setting_in x.s) (c_calls x.s) (scope x) type number others (marks_after_put marks made.marks) c1 k) rest.body w1
      (λ one c2 flow w2 filled. record {
        flow_is = filled.flow_is;
        value_is = filled.value_is;
        later = filled.later;
        reached = reached_then x from written.next rest.next images later filled.later c0 w0 c1 w1 c2 w2 (rises written from (numbered x.names asked value from))
            (rises rest written.next (puts_numbered x.names type (object_at x.names type number) others written.next)) here reached filled.reached;
      })
      (fill_owes type number lives others (marks_after_put marks made.marks) written.next later c1 w1 reached.at are.1 owes.1))

  -- a compound literal: its object is made anew and filled, and then given
  pub literal_owes : (asked : Asked) (type : CTy) (place : Place) (number : ℕ) (puts : CPuts) (from : ℕ) (images : Images) (c0 w0 : World) → At x images c0 w0 → IsLvalue x.home (expr type place (literal number puts)) → EachPutOwes puts from →
      FormOwes x asked type place (literal number puts) from images c0 w0
  literal_owes asked type place number puts from images c0 w0 here typed owes =
      let node = expr type place (literal number puts) in
      let p = object_at x.names type number in
      let rest = lifted_puts x.names type p puts from in
      let list = zeroed_where (is_zeroed x.names type puts) x.names type p in
      let lives = λ (later : Images) (c_world world : World) (at : At x later c_world world). literal_lives x.home (scope x) (blocks_of c_world) type place number puts at.typed.scene typed in
      let Good = DidOf x asked.used (form_fixed type (literal number puts)) node (record { body = list ++ rest.body; given = given_form.place p; temporaries = [] ++ rest.temporaries; next = rest.next }) from images c0 w0 in
      step_owes x Good place (literal_cleared (setting_in x.s) (scope x) (blocks_of c0) number puts) (λ one after more. c_fill (setting_in x.s) (c_calls x.s) (scope x) type number puts one.marks (with_memory one.blocks after) more) (list ++ rest.body) c0 w0
      (same_events images c0 w0 here.worlds) (λ one e.
      let cleared = and_then_is (object_cleared (setting_in x.s) (scope x) number (Some puts) (blocks_of c0)) (λ made. Ok (done (names number) (marks_of made) made.blocks)) one e in
      let same : done (names number) (marks_of cleared.0) cleared.0.blocks ≡ one = cc (cleared.2) in
      let is = literal_clears x images c0 w0 type number puts cleared.0 here (lives images c0 w0 here) cleared.1 typed.2.1 in
      let reached = cleared_reached x images c0 w0 type number puts cleared.0 here (lives images c0 w0 here) cleared.1 from typed.2.1 in
      let c1 = with_memory cleared.0.blocks c0 in
      subst (λ (d : CDone). OweAs x Good (λ k. c_fill (setting_in x.s) (c_calls x.s) (scope x) type number puts d.marks (with_memory d.blocks c0) k) (list ++ rest.body) w0) same
      (front_owes x Good (λ k. c_fill (setting_in x.s) (c_calls x.s) (scope x) type number puts (marks_of cleared.0) c1 k) list rest.body w0 is.after is.comes
      (weaker_owes x (Filled number from rest.next images c1 is.after) Good (λ k. c_fill (setting_in x.s) (c_calls x.s) (scope x) type number puts (marks_of cleared.0) c1 k) rest.body is.after
      (λ operand_is c2 flow w2 filled.
      let all = reached_then x from from rest.next images images filled.later c0 w0 c1 is.after c2 w2 (omega arith) (rises rest from (puts_numbered x.names type p puts from)) here reached filled.reached in
      record {
        flow_is = filled.flow_is;
        later = filled.later;
        own = all.own;
        are_own = all.are_own;
        keeps = all.keeps;
        worlds = all.at.worlds;
        gives = λ last c_later later is_later. where_used asked.used x last later node (given_form.place p) operand_is.value (λ _.
            subst (λ (v : CValue). GivesOperand x.s x.names last x.c_frame x.frame later node (given_form.place p) v) (sym filled.value_is) (object_given x last c_later later node number is_later.here typed refl));
      })
      (fill_owes type number lives puts (marks_of cleared.0) from images c1 is.after reached.at typed.2.1 owes))))
