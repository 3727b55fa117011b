-- What is evaluated behind another expression (ISO C99, 6.5.17).
use Rattle.std.proofs.Common.{◌≡◌, inl, inr, ℕ, ◌≤◌, Bool, true, false, ◌&&◌, [], refl, sym, subst}
use Rattle.cr_base.specs.declared.refusal.Place.{Place}
use Rattle.cr_runs.specs.Runs.{came, tick}
use Rattle.cr_world.specs.World.{World, blocks_of}
use Rattle.cx_core.specs.Trees.{CTy, CExpr, expr, comma, type_of}
use Rattle.cx_core.specs.Typing.{IsTyped}
use Rattle.cx_mean.specs.Leftmost.{c_carried}
use Rattle.cx_mean.specs.Marks.{at_sequence_point, both}
use Rattle.cx_mean.specs.Operands.{CValue, scalar, cells, names, designates, designates_bits, missing}
use Rattle.cx_mean.specs.Work.{after_marks}
use Rattle.cx_typed_work.proofs.Given.{value_given}
use Rattle.cx_typed_work.specs.Operands.{IsGiven}
use Rattle.lift_calls.specs.Programs.{setting_in}
use Rattle.lift_does.proofs.Around.{Around, At, DidOf, value_in}
use Rattle.lift_does.proofs.Lasting.{all_back, lasts_less}
use Rattle.lift_does.proofs.Nodes.{one_owes, one_owes_alone}
use Rattle.lift_does.proofs.Operands.{or_false}
use Rattle.lift_does.proofs.Reaching.{reached_then}
use Rattle.lift_does.proofs.Runs.{tick_owes, end_owes, same_events}
use Rattle.lift_does.proofs.Unary.{form_fixed, ExprOwes, FormOwes}
use Rattle.lift_does.specs.Does.{is_fixed}
use Rattle.lift_does.specs.Gives.{GivesRecord, GivesScalar, GivesMissing, GivesWhere}
use Rattle.lift_does.specs.Later.{IsSameAt}
use Rattle.lift_exprs.specs.Lifted.{lifted, lifted_form}
use Rattle.lift_exprs.specs.Names.{type_in}
use Rattle.lift_exprs.specs.Written.{Both, both as both_written}
use Rattle.lift_forms.specs.Given.{Given}
use Rattle.lift_forms_laws.proofs.Runs.{pure_is}
use Rattle.lift_held.specs.Held.{part_of, is_steady}
use Rattle.lift_held.specs.declared.asked.Asked.{Asked}
use Rattle.lift_stands.specs.Stands.{Images}
use Rattle.lift_stands_values.specs.Given.{align_in}
use Rattle.rs_mean.specs.Run.{normal}

both_true : (one other : Bool) → (one && other) ≡ true → (one ≡ true) × (other ≡ true)
both_true true true e = (refl, refl)
both_true true false e = cc (e)
both_true false other e = cc (e)

module _ (x : Around) where
  -- what is given for a value is given for each expression of its type that has this value
  pub carried_given : (used : Bool) (e part : CExpr) (last : Images) (later : World) (given : Given) (of_c : CValue) → type_of e ≡ type_of part → IsGiven x.home.program part of_c →
      GivesWhere used x.s x.names last x.c_frame x.frame later part given of_c → GivesWhere used x.s x.names last x.c_frame x.frame later e given of_c
  carried_given false e part last later given of_c same is gives = tt
  carried_given true e part last later given (scalar one) same is gives = subst (λ (t : CTy). GivesScalar last x.frame later (type_in x.names t) given one) (sym same) gives
  carried_given true e part last later given (cells list from) same is gives =
      subst (λ (t : CTy). GivesRecord last x.frame later (type_in x.names t) (align_in (setting_in x.s) t) given list) (sym same) gives
  carried_given true e part last later given missing same is gives = subst (λ (t : CTy). GivesMissing x.names x.frame later t given) (sym same) gives
  carried_given true e part last later given (names number) same (inl is) gives = absurd is
  carried_given true e part last later given (names number) same (inr is) gives = absurd is.1
  carried_given true e part last later given (designates to) same (inl is) gives = absurd is
  carried_given true e part last later given (designates to) same (inr is) gives = absurd is.1
  carried_given true e part last later given (designates_bits at bit width) same (inl is) gives = absurd is
  carried_given true e part last later given (designates_bits at bit width) same (inr is) gives = absurd is.1

  abbrev comma_parts : (used : Bool) (first second : CExpr) → ℕ → Both
  comma_parts used first second from = both_written (λ number. lifted x.names (part_of false) first number) (λ number. lifted x.names (part_of used) second number) from

  pub comma_owes : (asked : Asked) (type : CTy) (at : Place) (first second : CExpr) (from : ℕ) (images : Images) (c0 w0 : World) → At x images c0 w0 → IsTyped x.home (expr type at (comma first second)) →
      from ≤ (comma_parts asked.used first second from).first.next → (comma_parts asked.used first second from).first.next ≤ (comma_parts asked.used first second from).second.next →
      ExprOwes x (part_of false) first from images c0 w0 →
      ((later : Images) (c1 w1 : World) → At x later c1 w1 → ExprOwes x (part_of asked.used) second (comma_parts asked.used first second from).first.next later c1 w1) →
      FormOwes x asked type at (comma first second) from images c0 w0
  comma_owes asked type at first second from images c0 w0 here typed rises more owes others =
      let two = comma_parts asked.used first second from in
      let fixed = form_fixed type (comma first second) in
      let Good = DidOf x asked.used fixed (expr type at (comma first second)) (lifted_form x.names asked type (comma first second) from) from images c0 w0 in
      one_owes x Good (λ one after. tick after (c_carried (at_sequence_point one.marks) (λ later left. value_in x second later left) after)) two.second.body
      false (is_fixed (part_of false) first) first two.first from images c0 w0 here (inl typed.1.0) owes (λ one middle c1 w1 did.
      tick_owes x Good (c_carried (at_sequence_point one.marks) (λ later left. value_in x second later left) c1) two.second.body c1 w1 (same_events middle c1 w1 did.reached.at.worlds)
      (one_owes_alone x Good (λ other after. came (after_marks (at_sequence_point one.marks) other) after) asked.used (is_fixed (part_of asked.used) second) second two.second two.first.next middle c1 w1 did.reached.at (inl typed.1.1)
      (others middle c1 w1 did.reached.at) (λ other last c2 w2 too.
      let reached = reached_then x from two.first.next two.second.next images middle last c0 w0 c1 w1 c2 w2 rises more here did.reached too.reached in
      end_owes x Good (after_marks (at_sequence_point one.marks) other) [] c2 w2 w2 (λ units. pure_is normal w2 units) (record {
        flow_is = refl;
        later = last;
        own = reached.own;
        are_own = reached.are_own;
        keeps = reached.keeps;
        worlds = reached.at.worlds;
        gives = λ end c_later later is_later.
            carried_given asked.used (expr type at (comma first second)) second end later two.second.given other.value typed.1.2 (value_given x.home second other.value typed.1.1 too.knows_is.0.operand_is.given)
            (too.gives end c_later later
            (record {
              extends = is_later.extends;
              here = is_later.here;
              temporaries = is_later.temporaries;
              lasts = lasts_less fixed (is_fixed (part_of asked.used) second) (both (at_sequence_point one.marks) other.marks).reads other.marks.reads c2 c_later
                  (λ is. (both_true (is_steady first) (is_steady second) (or_false (is_steady first && is_steady second) is)).1)
                  (λ all. all_back (IsSameAt (blocks_of c2) (blocks_of c_later)) one.marks.reads other.marks.reads all) is_later.lasts;
            }));
      }))))
