-- `?:` (ISO C99, 6.5.15).
use Rattle.std.proofs.Common.{◌≡◌, inl, ℕ, suc, ◌≤◌, Bool, true, false, ◌&&◌, ◌||◌, not, if◌then◌else◌, List, [], ◌∷◌, ◌++◌, Some, refl, sym, ap, subst, ◌∙◌, arith}
use Rattle.std.proofs.lemmas.Bool.{and_parts}
use Rattle.std.proofs.lemmas.List.{append-nil}
use Rattle.cr_base.specs.declared.refusal.Place.{Place}
use Rattle.cr_runs.specs.Runs.{came, bind}
use Rattle.cr_world.specs.World.{World, blocks_of}
use Rattle.cx_core.specs.Trees.{CTy, CExpr, expr, CForm, cond, type_of}
use Rattle.cx_core.specs.Typing.{IsTyped}
use Rattle.cx_mean.specs.Leftmost.{CRan, c_truth, c_part, c_carried}
use Rattle.cx_mean.specs.Marks.{at_sequence_point, both}
use Rattle.cx_mean.specs.Nodes.{truth_of_value}
use Rattle.cx_mean.specs.Operands.{CValue, COperand}
use Rattle.cx_mean.specs.Work.{after_marks}
use Rattle.cx_typed_work.proofs.Given.{value_given}
use Rattle.cx_typed_work.specs.Operands.{IsGiven}
use Rattle.lift_does.proofs.Around.{Around, scope, At, LaterAt, DidOf, OweAs, value_in, Reached}
use Rattle.lift_does.proofs.Branches.{IsTested, tested_is, branch_owes, test_at, opposite_at, still_owes, lasts_still}
use Rattle.lift_does.proofs.Commas.{carried_given}
use Rattle.lift_does.proofs.Held.{storable}
use Rattle.lift_does.proofs.Lasting.{all_front, all_back, lasts_less}
use Rattle.lift_does.proofs.Nodes.{PartOwes, OneDid, one_owes, one_owes_alone}
use Rattle.lift_does.proofs.Operands.{or_false, where_used}
use Rattle.lift_does.proofs.Quiet.{bare, neither_acts}
use Rattle.lift_does.proofs.Reaching.{reached_then, reached_wider, later_itself, later_then}
use Rattle.lift_does.proofs.Records.{record_taken}
use Rattle.lift_does.proofs.Runs.{step_owes, end_owes, same_events}
use Rattle.lift_does.proofs.Steady.{IsScoped, sizes_last}
use Rattle.lift_does.proofs.Taken.{IsTaken, scalar_taken}
use Rattle.lift_does.proofs.Unary.{form_fixed, ExprOwes, FormOwes}
use Rattle.lift_does.specs.Gives.{GivesOperand, GivesWhere}
use Rattle.lift_does.specs.Later.{IsSameAt, TemporariesStay}
use Rattle.lift_exprs.specs.Lifted.{lifted, branch, operand_of, Choice, choice_behind, part_taken, chosen_written}
use Rattle.lift_exprs.specs.Names.{Names, type_in}
use Rattle.lift_exprs.specs.Written.{Written, temporary_place, copied, address_of_given}
use Rattle.lift_forms.specs.Given.{Given}
use Rattle.lift_forms.specs.Given as given_form
use Rattle.lift_forms.specs.Operators.{Operand, given_value, test_of, opposite_of, choice_form}
use Rattle.lift_forms_laws.proofs.Conversions.{choice_stands}
use Rattle.lift_forms_laws.proofs.Runs.{pure_is}
use Rattle.lift_forms_laws.specs.Gives.{GivesAt, truth_number}
use Rattle.lift_held.specs.Held.{is_void, is_record, acts, operand, part_of, is_steady}
use Rattle.lift_held.specs.declared.asked.Asked.{Asked}
use Rattle.lift_stands.specs.Stands.{Images}
use Rattle.mem_bytes.specs.declared.value.Value.{Value}
use Rattle.rs_mean.specs.Run.{Flow, normal}
use Rattle.rs_text.specs.Tree.{Ty, Boolean, Place as RustPlace, Expr, Read, AddressOf, Choose, Stmt, Assign}

-- ---- how a part goes to the temporary

abbrev pub taken_as : Names → CTy → RustPlace → Given → Stmt
taken_as names_of type temporary given = if is_record type then copied (address_of_given given) (AddressOf temporary) (names_of.size_of type) else Assign temporary (given_value given)

abbrev pub taken_gives : CTy → RustPlace → Given
taken_gives type temporary = if is_record type then given_form.value (AddressOf temporary) else given_form.value (Read temporary)

-- ---- `?:`

module _ (x : Around) (used : Bool) (type : CTy) (at : Place) (test first second : CExpr) (from : ℕ) (images : Images) (c0 w0 : World) (here : At x images c0 w0)
    (typed_test : IsTyped x.home test) (typed_first : IsTyped x.home first) (typed_second : IsTyped x.home second) (first_is : type_of first ≡ type) (second_is : type_of second ≡ type) where
  abbrev three : Choice
  three = choice_behind (lifted x.names operand test from) (λ number. lifted x.names (part_of used) first number) (λ number. lifted x.names (part_of used) second number)

  abbrev C : Operand
  C = operand_of x.names test three.test.given

  abbrev TestDid : COperand → Images → World → World → Type 0
  TestDid one later c1 w1 = OneDid x true (is_steady test) test three.test from images later c0 w0 one c1 w1

  -- a part, and where it stands
  record IsPart (part : CExpr) (written : Written) (start : ℕ) : Type 0 where
    typed_part : IsTyped x.home part
    type_is : type_of part ≡ type
    behind_test : three.test.next ≤ start
    rises : start ≤ written.next
    below : written.next ≤ three.second.next
    owes : (later : Images) (c1 w1 : World) → At x later c1 w1 → PartOwes x used (is_steady part) part written start later c1 w1

  module _ (fixed : Bool) (form : CForm) (written : Written) (part : CExpr) (p : Written) (start : ℕ) (is : IsPart part p start) (rises : from ≤ three.test.next) where
    abbrev Good : COperand → World → Flow → World → Type 0
    Good = DidOf x used fixed (expr type at form) written from images c0 w0

    -- where both have come
    reached_both : (later last : Images) (c1 w1 c2 w2 : World) → Reached x from three.test.next images later c0 w0 c1 w1 → Reached x start p.next later last c1 w1 c2 w2 → Reached x from three.second.next images last c0 w0 c2 w2
    reached_both later last c1 w1 c2 w2 one other =
        reached_wider x from p.next from three.second.next images last c0 w0 c2 w2 (omega arith) is.below
        (reached_then x from start p.next images later last c0 w0 c1 w1 c2 w2 (let a = is.behind_test in omega (arith, rises, a)) is.rises here
        (reached_wider x from three.test.next from start images later c0 w0 c1 w1 (omega arith) is.behind_test one) other)

    -- its value isn't used
    dropped_part : used ≡ false → written.next ≡ three.second.next → (one : COperand) (later : Images) (c1 w1 : World) → TestDid one later c1 w1 →
        OweAs x Good (c_carried (at_sequence_point one.marks) (λ after rest. value_in x part after rest) c1) p.body w1
    dropped_part unused next_is one later c1 w1 did =
        one_owes_alone x Good (λ other after. came (after_marks (at_sequence_point one.marks) other) after) used (is_steady part) part p start later c1 w1 did.reached.at (inl is.typed_part) (is.owes later c1 w1 did.reached.at) (λ other last c2 w2 too.
        let reached = subst (λ (n : ℕ). Reached x from n images last c0 w0 c2 w2) (sym next_is) (reached_both later last c1 w1 c2 w2 did.reached too.reached) in
        end_owes x Good (after_marks (at_sequence_point one.marks) other) [] c2 w2 w2 (λ units. pure_is normal w2 units) (record {
          flow_is = refl;
          later = last;
          own = reached.own;
          are_own = reached.are_own;
          keeps = reached.keeps;
          worlds = reached.at.worlds;
          gives = λ end c_later after is_later. subst (λ (u : Bool). GivesWhere u x.s x.names end x.c_frame x.frame after (expr type at form) written.given other.value) (sym unused) tt;
        }))

    -- it goes to a temporary
    taken_part : used ≡ true → (statement : Stmt) → written.next ≡ suc three.second.next →
        ((of_c : CValue) (last : Images) (c2 w2 : World) → At x last c2 w2 → IsGiven x.home.program part of_c → GivesOperand x.s x.names last x.c_frame x.frame w2 part p.given of_c →
        IsTaken x part of_c statement written.given three.second.next last c2 w2) →
        (one : COperand) (later : Images) (c1 w1 : World) → TestDid one later c1 w1 →
        OweAs x Good (c_carried (at_sequence_point one.marks) (λ after rest. value_in x part after rest) c1) (p.body ++ (statement ∷ [])) w1
    taken_part is_used statement next_is takes one later c1 w1 did =
        one_owes x Good (λ other after. came (after_marks (at_sequence_point one.marks) other) after) (statement ∷ []) used (is_steady part) part p start later c1 w1 did.reached.at (inl is.typed_part) (is.owes later c1 w1 did.reached.at) (λ other last c2 w2 too.
        let given_is = value_given x.home part other.value is.typed_part too.knows_is.0.operand_is.given in
        let gave = subst (λ (u : Bool). GivesWhere u x.s x.names last x.c_frame x.frame w2 part p.given other.value) is_used
        (too.gives last c2 w2 (later_itself x last p.next (is_steady part) other.marks.reads c2 w2 too.reached.at)) in
        let taken = takes other.value last c2 w2 too.reached.at given_is gave in
        let before = reached_both later last c1 w1 c2 w2 did.reached too.reached in
        let reached = subst (λ (n : ℕ). Reached x from n images last c0 w0 c2 taken.after) (sym next_is)
        (reached_then x from three.second.next (suc three.second.next) images last last c0 w0 c2 w2 c2 taken.after (let a = is.behind_test in let b = is.rises in let c = is.below in omega (arith, rises, a, b, c)) (omega arith) here before taken.reached) in
        end_owes x Good (after_marks (at_sequence_point one.marks) other) (statement ∷ []) c2 w2 taken.after taken.comes (record {
          flow_is = refl;
          later = last;
          own = reached.own;
          are_own = reached.are_own;
          keeps = reached.keeps;
          worlds = reached.at.worlds;
          gives = λ end c_later after is_later. where_used used x end after (expr type at form) written.given other.value (λ _.
              carried_given x true (expr type at form) part end after written.given other.value (sym is.type_is) given_is
              (taken.gives end after is_later.extends (subst (λ (n : ℕ). TemporariesStay x.kept x.frame n taken.after after) next_is is_later.temporaries)));
        }))

    -- it does nothing beside giving a value, which is read where the whole is
    plain_part : (chosen : Expr) → ((q : RustPlace) → given_form.value chosen ≡ given_form.value (AddressOf q) → ⊥) → acts used part ≡ false → p.body ≡ [] → written.next ≡ three.second.next → written.given ≡ given_form.value chosen →
        (fixed ≡ true → (is_steady test ≡ true) × (is_steady part ≡ true)) → is_void type ≡ false → is_record type ≡ false → (holds : Bool) →
        ((world : World) (ty : Ty) (of : Value) → GivesAt x.frame world (test_of C) Boolean (truth_number holds) → GivesAt x.frame world (given_value p.given) ty of → GivesAt x.frame world chosen ty of) →
        used ≡ true → (one : COperand) (later : Images) (c1 w1 : World) → TestDid one later c1 w1 → IsTested one c1 holds →
        OweAs x Good (c_carried (at_sequence_point one.marks) (λ after rest. value_in x part after rest) c1) [] w1
    plain_part chosen plain quiet none next_is given_of steady not_void not_record holds choose is_used one later c1 w1 did tested =
        subst (λ (list : List Stmt). OweAs x Good (c_carried (at_sequence_point one.marks) (λ after rest. value_in x part after rest) c1) list w1) none
        (still_owes x Good (λ other after. came (after_marks (at_sequence_point one.marks) other) after) used (is_steady part) part p start later c1 w1 did.reached.at is.typed_part quiet (is.owes later c1 w1 did.reached.at) (λ other last c2 w2 too same.
        let given_is = value_given x.home part other.value is.typed_part too.knows_is.0.operand_is.given in
        let reads = (both (at_sequence_point one.marks) other.marks).reads in
        let reached = subst (λ (n : ℕ). Reached x from n images last c0 w0 c2 w2) (sym next_is) (reached_both later last c1 w1 c2 w2 did.reached too.reached) in
        end_owes x Good (after_marks (at_sequence_point one.marks) other) [] c2 w2 w2 (λ units. pure_is normal w2 units) (record {
          flow_is = refl;
          later = last;
          own = reached.own;
          are_own = reached.are_own;
          keeps = reached.keeps;
          worlds = reached.at.worlds;
          gives = λ end c_later after is_later. where_used used x end after (expr type at form) written.given other.value (λ _.
              let later_is = subst (λ (n : ℕ). LaterAt x last end n fixed reads c2 w2 c_later after) next_is is_later in
              let to_test = later_then x three.test.next three.second.next three.second.next later last end (is_steady test) fixed one.marks.reads reads c1 w1 c2 w2 c_later after did.reached.at
              (reached_wider x start p.next three.test.next three.second.next later last c1 w1 c2 w2 is.behind_test is.below too.reached)
              (lasts_still x (is_steady test) one.marks.reads c1 c2 same) (let a = is.behind_test in let b = is.rises in let c = is.below in omega (arith, a, b, c)) (λ f. (steady f).0)
              (λ all. all_front (IsSameAt (blocks_of c2) (blocks_of c_later)) one.marks.reads other.marks.reads all) later_is in
              let to_part : LaterAt x last end p.next (is_steady part) other.marks.reads c2 w2 c_later after = record {
                extends = is_later.extends;
                here = is_later.here;
                temporaries = λ number kept_one local q kept_is is_local. later_is.temporaries number kept_one local (let c = is.below in omega (arith, q, c)) kept_is is_local;
                lasts = lasts_less fixed (is_steady part) reads other.marks.reads c2 c_later (λ f. (steady f).1) (λ all. all_back (IsSameAt (blocks_of c2) (blocks_of c_later)) one.marks.reads other.marks.reads all) is_later.lasts;
              } in
              let test_gave = test_at x test three.test.given one c0 c1 holds tested typed_test did.knows_is end c_later after is_later.here
              (sizes_last x.home.program (is_steady test) one.marks.reads c1 c_later (scope x) tested.of_c did.knows_is.0.at.owned to_test.lasts (λ f. subst (IsScoped (scope x)) tested.value_is (did.knows_is.2 f)))
              (did.gives end c_later after to_test) in
              let part_gave = subst (λ (u : Bool). GivesWhere u x.s x.names end x.c_frame x.frame after part p.given other.value) is_used (too.gives end c_later after to_part) in
              let may = storable x part other.value p.given end after is.typed_part (ap is_void is.type_is ∙ not_void) (ap is_record is.type_is ∙ not_record) given_is part_gave in
              subst (λ (g : Given). GivesOperand x.s x.names end x.c_frame x.frame after (expr type at form) g other.value) (sym given_of)
              (carried_given x true (expr type at form) part end after (given_form.value chosen) other.value (sym is.type_is) given_is
              (may.back end after chosen plain (record { blocks = λ number image e. e; functions = refl; in_bytes = refl }) (choose after (type_in x.names (type_of part)) may.other test_gave may.gives))));
        })))

  -- ---- both parts

  module _ (form : CForm) (fixed : Bool) (rises : from ≤ three.test.next) (first_part : IsPart first three.first three.test.next) (second_part : IsPart second three.second three.first.next) (owes : ExprOwes x operand test from images c0 w0) where
    abbrev source : ℕ → CRan COperand
    source k = bind (value_in x test c0 k) (λ one after. c_truth at one (c_part (at_sequence_point one.marks) (λ later rest. value_in x first later rest) (λ later rest. value_in x second later rest)) after)

    outer_owes : (written : Written) (rest : List Stmt) →
        ((holds : Bool) (one : COperand) (later : Images) (c1 w1 : World) → TestDid one later c1 w1 → IsTested one c1 holds →
        OweAs x (DidOf x used fixed (expr type at form) written from images c0 w0) (c_part (at_sequence_point one.marks) (λ after more. value_in x first after more) (λ after more. value_in x second after more) holds c1) rest w1) →
        OweAs x (DidOf x used fixed (expr type at form) written from images c0 w0) source (three.test.body ++ rest) w0
    outer_owes written rest all =
        let Ends = DidOf x used fixed (expr type at form) written from images c0 w0 in
        one_owes x Ends (λ one after. c_truth at one (c_part (at_sequence_point one.marks) (λ later more. value_in x first later more) (λ later more. value_in x second later more)) after) rest
        true (is_steady test) test three.test from images c0 w0 here (inl typed_test) owes (λ one later c1 w1 did.
        step_owes x Ends at (truth_of_value (blocks_of c1) one.value) (c_part (at_sequence_point one.marks) (λ after more. value_in x first after more) (λ after more. value_in x second after more)) rest c1 w1
        (same_events later c1 w1 did.reached.at.worlds) (λ holds e. all holds one later c1 w1 did (tested_is one c1 holds e)))

    -- in a branch
    branched : (written : Written) (one_list other_list : List Stmt) (holds : Bool) (one : COperand) (later : Images) (c1 w1 : World) → TestDid one later c1 w1 → IsTested one c1 holds →
        OweAs x (DidOf x used fixed (expr type at form) written from images c0 w0) (c_carried (at_sequence_point one.marks) (λ after rest. value_in x first after rest) c1) one_list w1 →
        OweAs x (DidOf x used fixed (expr type at form) written from images c0 w0) (c_carried (at_sequence_point one.marks) (λ after rest. value_in x second after rest) c1) other_list w1 →
        OweAs x (DidOf x used fixed (expr type at form) written from images c0 w0) (c_part (at_sequence_point one.marks) (λ after rest. value_in x first after rest) (λ after rest. value_in x second after rest) holds c1)
        (branch C one_list other_list) w1
    branched written one_list other_list holds one later c1 w1 did is one_owes_it other_owes =
        let gave = did.gives later c1 w1 (later_itself x later three.test.next (is_steady test) one.marks.reads c1 w1 did.reached.at) in
        by holds (test_at x test three.test.given one c0 c1 holds is typed_test did.knows_is later c1 w1 did.reached.at (λ to e. refl) gave)
        (opposite_at x test three.test.given one c0 c1 holds is typed_test did.knows_is later c1 w1 did.reached.at (λ to e. refl) gave)
      where
        by : (holds : Bool) → GivesAt x.frame w1 (test_of C) Boolean (truth_number holds) → GivesAt x.frame w1 (opposite_of C) Boolean (truth_number (not holds)) →
            OweAs x (DidOf x used fixed (expr type at form) written from images c0 w0) (c_part (at_sequence_point one.marks) (λ after rest. value_in x first after rest) (λ after rest. value_in x second after rest) holds c1)
            (branch C one_list other_list) w1
        by true gives opposite =
            branch_owes x (DidOf x used fixed (expr type at form) written from images c0 w0) (c_carried (at_sequence_point one.marks) (λ after rest. value_in x first after rest) c1) C one_list other_list true w1 gives opposite one_owes_it
        by false gives opposite =
            branch_owes x (DidOf x used fixed (expr type at form) written from images c0 w0) (c_carried (at_sequence_point one.marks) (λ after rest. value_in x second after rest) c1) C one_list other_list false w1 gives opposite other_owes

    -- without one, where both do nothing
    both_dropped : used ≡ false → (written : Written) → written.next ≡ three.second.next → acts used first ≡ false → acts used second ≡ false → (holds : Bool) (one : COperand) (later : Images) (c1 w1 : World) → TestDid one later c1 w1 →
        OweAs x (DidOf x used fixed (expr type at form) written from images c0 w0) (c_part (at_sequence_point one.marks) (λ after rest. value_in x first after rest) (λ after rest. value_in x second after rest) holds c1) [] w1
    both_dropped unused written next_is quiet other true one later c1 w1 did =
        subst (λ (list : List Stmt). OweAs x (DidOf x used fixed (expr type at form) written from images c0 w0) (c_carried (at_sequence_point one.marks) (λ after rest. value_in x first after rest) c1) list w1)
        (bare x.names (part_of used) first three.test.next refl refl quiet).body
        (dropped_part fixed form written first three.first three.test.next first_part rises unused next_is one later c1 w1 did)
    both_dropped unused written next_is quiet other false one later c1 w1 did =
        subst (λ (list : List Stmt). OweAs x (DidOf x used fixed (expr type at form) written from images c0 w0) (c_carried (at_sequence_point one.marks) (λ after rest. value_in x second after rest) c1) list w1)
        (bare x.names (part_of used) second three.first.next refl refl other).body
        (dropped_part fixed form written second three.second three.first.next second_part rises unused next_is one later c1 w1 did)

    both_plain : used ≡ true → (written : Written) → written.next ≡ three.second.next → written.given ≡ choice_form C (operand_of x.names first three.first.given) (operand_of x.names second three.second.given) →
        (fixed ≡ true → (is_steady test ≡ true) × (is_steady first ≡ true) × (is_steady second ≡ true)) → is_void type ≡ false → is_record type ≡ false → acts used first ≡ false → acts used second ≡ false →
        (holds : Bool) (one : COperand) (later : Images) (c1 w1 : World) → TestDid one later c1 w1 → IsTested one c1 holds →
        OweAs x (DidOf x used fixed (expr type at form) written from images c0 w0) (c_part (at_sequence_point one.marks) (λ after rest. value_in x first after rest) (λ after rest. value_in x second after rest) holds c1) [] w1
    both_plain is_used written next_is given_of steady not_void not_record quiet other true one later c1 w1 did is =
        plain_part fixed form written first three.first three.test.next first_part rises (Choose (test_of C) (given_value three.first.given) (given_value three.second.given)) (λ q same. cc (same)) quiet
        (bare x.names (part_of used) first three.test.next refl refl quiet).body next_is given_of (λ f. let all = steady f in (all.0, all.1)) not_void not_record true
        (λ world ty of h k. choice_stands x.frame world (test_of C) (given_value three.first.given) (given_value three.second.given) true ty of h (λ _. k) (λ e. cc (e))) is_used one later c1 w1 did is
    both_plain is_used written next_is given_of steady not_void not_record quiet other false one later c1 w1 did is =
        plain_part fixed form written second three.second three.first.next second_part rises (Choose (test_of C) (given_value three.first.given) (given_value three.second.given)) (λ q same. cc (same)) other
        (bare x.names (part_of used) second three.first.next refl refl other).body next_is given_of (λ f. let all = steady f in (all.0, all.2)) not_void not_record false
        (λ world ty of h k. choice_stands x.frame world (test_of C) (given_value three.first.given) (given_value three.second.given) false ty of h (λ e. cc (e)) (λ _. k)) is_used one later c1 w1 did is

-- how a part of `?:` goes to its temporary
abbrev pub PartTakes : Around → CTy → CExpr → Given → (number : ℕ) → Type 0
PartTakes x type part given number =
    (of_c : CValue) (images : Images) (c_world world : World) → At x images c_world world → IsGiven x.home.program part of_c → GivesOperand x.s x.names images x.c_frame x.frame world part given of_c →
    IsTaken x part of_c (taken_as x.names type (temporary_place x.names number) given) (taken_gives type (temporary_place x.names number)) number images c_world world

module _ (x : Around) where
  abbrev pub three_parts : Bool → CExpr → CExpr → CExpr → ℕ → Choice
  three_parts used test first second from = choice_behind (lifted x.names operand test from) (λ number. lifted x.names (part_of used) first number) (λ number. lifted x.names (part_of used) second number)

  steady_three : (one two three record_type acting other : Bool) → record_type ≡ false → acting ≡ false → other ≡ false → ((one && (two && three)) || (record_type || (acting || other))) ≡ true → (one ≡ true) × (two ≡ true) × (three ≡ true)
  steady_three one two three false false false none quiet still e =
      let outer = and_parts one (two && three) (or_false (one && (two && three)) e) in
      let inner = and_parts two three outer.1 in
      (outer.0, inner.0, inner.1)
  steady_three one two three true acting other none quiet still e = cc (none)
  steady_three one two three false true other none quiet still e = cc (quiet)
  steady_three one two three false false true none quiet still e = cc (still)

  pub choice_owes : (asked : Asked) (type : CTy) (at : Place) (test first second : CExpr) (from : ℕ) (images : Images) (c0 w0 : World) → At x images c0 w0 → IsTyped x.home (expr type at (cond test first second)) →
      (asked.used ≡ true → is_void type ≡ false) → from ≤ (three_parts asked.used test first second from).test.next → (three_parts asked.used test first second from).test.next ≤ (three_parts asked.used test first second from).first.next →
      (three_parts asked.used test first second from).first.next ≤ (three_parts asked.used test first second from).second.next →
      (asked.used ≡ true → ((asked.used && is_record type) || (acts asked.used first || acts asked.used second)) ≡ true →
      PartTakes x type first (three_parts asked.used test first second from).first.given (three_parts asked.used test first second from).second.next
      × PartTakes x type second (three_parts asked.used test first second from).second.given (three_parts asked.used test first second from).second.next) →
      ExprOwes x operand test from images c0 w0 →
      ((later : Images) (c1 w1 : World) → At x later c1 w1 → ExprOwes x (part_of asked.used) first (three_parts asked.used test first second from).test.next later c1 w1) →
      ((later : Images) (c1 w1 : World) → At x later c1 w1 → ExprOwes x (part_of asked.used) second (three_parts asked.used test first second from).first.next later c1 w1) →
      FormOwes x asked type at (cond test first second) from images c0 w0
  choice_owes asked type at test first second from images c0 w0 here typed has rises more most takes owes firsts seconds =
      by asked.used ((asked.used && is_record type) || (acts asked.used first || acts asked.used second)) refl has rises more most takes firsts seconds
    where
      by : (used acting : Bool) → ((used && is_record type) || (acts used first || acts used second)) ≡ acting → (used ≡ true → is_void type ≡ false) →
          from ≤ (three_parts used test first second from).test.next → (three_parts used test first second from).test.next ≤ (three_parts used test first second from).first.next →
          (three_parts used test first second from).first.next ≤ (three_parts used test first second from).second.next →
          (used ≡ true → acting ≡ true →
          PartTakes x type first (three_parts used test first second from).first.given (three_parts used test first second from).second.next
          × PartTakes x type second (three_parts used test first second from).second.given (three_parts used test first second from).second.next) →
          ((later : Images) (c1 w1 : World) → At x later c1 w1 → ExprOwes x (part_of used) first (three_parts used test first second from).test.next later c1 w1) →
          ((later : Images) (c1 w1 : World) → At x later c1 w1 → ExprOwes x (part_of used) second (three_parts used test first second from).first.next later c1 w1) →
          PartOwes x used (form_fixed type (cond test first second)) (expr type at (cond test first second))
          (chosen_written x.names used acting type (operand_of x.names test (three_parts used test first second from).test.given) (operand_of x.names first (three_parts used test first second from).first.given)
          (operand_of x.names second (three_parts used test first second from).second.given) (three_parts used test first second from)) from images c0 w0
      by true true acting_is has_value up over top taking one_owes_it other_owes =
          let three = three_parts true test first second from in
          let written = chosen_written x.names true true type (operand_of x.names test three.test.given) (operand_of x.names first three.first.given) (operand_of x.names second three.second.given) three in
          let form = cond test first second in
          let fixed = form_fixed type form in
          let temporary = temporary_place x.names three.second.next in
          let may = taking refl refl in
          outer_owes x true type at test first second from images c0 w0 here typed.1.0 typed.1.1 typed.1.2 typed.1.3.first_is typed.1.3.second_is form fixed up
          (record { typed_part = typed.1.1; type_is = typed.1.3.first_is; behind_test = omega arith; rises = over; below = top; owes = one_owes_it })
          (record { typed_part = typed.1.2; type_is = typed.1.3.second_is; behind_test = over; rises = top; below = omega arith; owes = other_owes }) owes written
          (branch (operand_of x.names test three.test.given) (part_taken x.names type temporary three.first) (part_taken x.names type temporary three.second)) (λ holds one later c1 w1 did is.
          branched x true type at test first second from images c0 w0 here typed.1.0 typed.1.1 typed.1.2 typed.1.3.first_is typed.1.3.second_is form fixed up
          (record { typed_part = typed.1.1; type_is = typed.1.3.first_is; behind_test = omega arith; rises = over; below = top; owes = one_owes_it })
          (record { typed_part = typed.1.2; type_is = typed.1.3.second_is; behind_test = over; rises = top; below = omega arith; owes = other_owes }) owes written
          (part_taken x.names type temporary three.first) (part_taken x.names type temporary three.second) holds one later c1 w1 did is
          (taken_part x true type at test first second from images c0 w0 here typed.1.0 typed.1.1 typed.1.2 typed.1.3.first_is typed.1.3.second_is fixed form written first three.first three.test.next
          (record { typed_part = typed.1.1; type_is = typed.1.3.first_is; behind_test = omega arith; rises = over; below = top; owes = one_owes_it }) up refl (taken_as x.names type temporary three.first.given) refl may.0 one later c1 w1 did)
          (taken_part x true type at test first second from images c0 w0 here typed.1.0 typed.1.1 typed.1.2 typed.1.3.first_is typed.1.3.second_is fixed form written second three.second three.first.next
          (record { typed_part = typed.1.2; type_is = typed.1.3.second_is; behind_test = over; rises = top; below = omega arith; owes = other_owes }) up refl (taken_as x.names type temporary three.second.given) refl may.1 one later c1 w1 did))
      by false true acting_is has_value up over top taking one_owes_it other_owes =
          let three = three_parts false test first second from in
          let written = chosen_written x.names false true type (operand_of x.names test three.test.given) (operand_of x.names first three.first.given) (operand_of x.names second three.second.given) three in
          let form = cond test first second in
          let fixed = form_fixed type form in
          outer_owes x false type at test first second from images c0 w0 here typed.1.0 typed.1.1 typed.1.2 typed.1.3.first_is typed.1.3.second_is form fixed up
          (record { typed_part = typed.1.1; type_is = typed.1.3.first_is; behind_test = omega arith; rises = over; below = top; owes = one_owes_it })
          (record { typed_part = typed.1.2; type_is = typed.1.3.second_is; behind_test = over; rises = top; below = omega arith; owes = other_owes }) owes written
          (branch (operand_of x.names test three.test.given) three.first.body three.second.body) (λ holds one later c1 w1 did is.
          branched x false type at test first second from images c0 w0 here typed.1.0 typed.1.1 typed.1.2 typed.1.3.first_is typed.1.3.second_is form fixed up
          (record { typed_part = typed.1.1; type_is = typed.1.3.first_is; behind_test = omega arith; rises = over; below = top; owes = one_owes_it })
          (record { typed_part = typed.1.2; type_is = typed.1.3.second_is; behind_test = over; rises = top; below = omega arith; owes = other_owes }) owes written
          three.first.body three.second.body holds one later c1 w1 did is
          (dropped_part x false type at test first second from images c0 w0 here typed.1.0 typed.1.1 typed.1.2 typed.1.3.first_is typed.1.3.second_is fixed form written first three.first three.test.next
          (record { typed_part = typed.1.1; type_is = typed.1.3.first_is; behind_test = omega arith; rises = over; below = top; owes = one_owes_it }) up refl refl one later c1 w1 did)
          (dropped_part x false type at test first second from images c0 w0 here typed.1.0 typed.1.1 typed.1.2 typed.1.3.first_is typed.1.3.second_is fixed form written second three.second three.first.next
          (record { typed_part = typed.1.2; type_is = typed.1.3.second_is; behind_test = over; rises = top; below = omega arith; owes = other_owes }) up refl refl one later c1 w1 did))
      by true false acting_is has_value up over top taking one_owes_it other_owes =
          let three = three_parts true test first second from in
          let written = chosen_written x.names true false type (operand_of x.names test three.test.given) (operand_of x.names first three.first.given) (operand_of x.names second three.second.given) three in
          let form = cond test first second in
          let fixed = form_fixed type form in
          let outer = neither_acts (is_record type) (acts true first || acts true second) acting_is in
          let inner = neither_acts (acts true first) (acts true second) outer.1 in
          subst (λ (list : List Stmt). OweAs x (DidOf x true fixed (expr type at form) written from images c0 w0) (value_in x (expr type at form) c0) list w0) (append-nil three.test.body)
          (outer_owes x true type at test first second from images c0 w0 here typed.1.0 typed.1.1 typed.1.2 typed.1.3.first_is typed.1.3.second_is form fixed up
          (record { typed_part = typed.1.1; type_is = typed.1.3.first_is; behind_test = omega arith; rises = over; below = top; owes = one_owes_it })
          (record { typed_part = typed.1.2; type_is = typed.1.3.second_is; behind_test = over; rises = top; below = omega arith; owes = other_owes }) owes written [] (λ holds one later c1 w1 did is.
          both_plain x true type at test first second from images c0 w0 here typed.1.0 typed.1.1 typed.1.2 typed.1.3.first_is typed.1.3.second_is form fixed up
          (record { typed_part = typed.1.1; type_is = typed.1.3.first_is; behind_test = omega arith; rises = over; below = top; owes = one_owes_it })
          (record { typed_part = typed.1.2; type_is = typed.1.3.second_is; behind_test = over; rises = top; below = omega arith; owes = other_owes }) owes refl written refl refl
          (λ f. steady_three (is_steady test) (is_steady first) (is_steady second) (is_record type) (acts true first) (acts true second) outer.0 inner.0 inner.1 f) (has_value refl) outer.0 inner.0 inner.1 holds one later c1 w1 did is))
      by false false acting_is has_value up over top taking one_owes_it other_owes =
          let three = three_parts false test first second from in
          let written = chosen_written x.names false false type (operand_of x.names test three.test.given) (operand_of x.names first three.first.given) (operand_of x.names second three.second.given) three in
          let form = cond test first second in
          let fixed = form_fixed type form in
          let inner = neither_acts (acts false first) (acts false second) acting_is in
          subst (λ (list : List Stmt). OweAs x (DidOf x false fixed (expr type at form) written from images c0 w0) (value_in x (expr type at form) c0) list w0) (append-nil three.test.body)
          (outer_owes x false type at test first second from images c0 w0 here typed.1.0 typed.1.1 typed.1.2 typed.1.3.first_is typed.1.3.second_is form fixed up
          (record { typed_part = typed.1.1; type_is = typed.1.3.first_is; behind_test = omega arith; rises = over; below = top; owes = one_owes_it })
          (record { typed_part = typed.1.2; type_is = typed.1.3.second_is; behind_test = over; rises = top; below = omega arith; owes = other_owes }) owes written [] (λ holds one later c1 w1 did is.
          both_dropped x false type at test first second from images c0 w0 here typed.1.0 typed.1.1 typed.1.2 typed.1.3.first_is typed.1.3.second_is form fixed up
          (record { typed_part = typed.1.1; type_is = typed.1.3.first_is; behind_test = omega arith; rises = over; below = top; owes = one_owes_it })
          (record { typed_part = typed.1.2; type_is = typed.1.3.second_is; behind_test = over; rises = top; below = omega arith; owes = other_owes }) owes refl written refl inner.0 inner.1 holds one later c1 w1 did))

  -- a scalar part
  scalar_part_taken : (type : CTy) (part : CExpr) (given : Given) (number : ℕ) → IsTyped x.home part → type_of part ≡ type → is_record type ≡ false → is_void type ≡ false →
      x.kept.temporaries number ≡ Some (record { name = x.names.temporary number; ty = type_in x.names type }) → PartTakes x type part given number
  scalar_part_taken type part given number typed same no_record not_void kept_is of_c images c_world world at is gave =
      let taken = scalar_taken x part of_c given number images c_world world at typed (ap is_void same ∙ not_void) (ap is_record same ∙ no_record) is
      (kept_is ∙ ap (λ (t : CTy). Some (record { name = x.names.temporary number; ty = type_in x.names t })) (sym same)) gave in
      rw (no_record) taken

  pub part_is_taken : (type : CTy) (part : CExpr) (given : Given) (number : ℕ) → IsTyped x.home part → type_of part ≡ type → is_void type ≡ false →
      x.kept.temporaries number ≡ Some (record { name = x.names.temporary number; ty = type_in x.names type }) → PartTakes x type part given number
  part_is_taken type part given number typed same not_void kept_is = by (is_record type) refl
    where
      by : (record_type : Bool) → is_record type ≡ record_type → PartTakes x type part given number
      by false e of_c images c_world world at is gave = scalar_part_taken type part given number typed same e not_void kept_is of_c images c_world world at is gave
      by true e of_c images c_world world at is gave =
          let taken = record_taken x part of_c given number images c_world world at typed (ap is_record same ∙ e) is (kept_is ∙ ap (λ (t : CTy). Some (record { name = x.names.temporary number; ty = type_in x.names t })) (sym same)) gave in
          let sized = subst (λ (n : ℕ). IsTaken x part of_c (copied (address_of_given given) (AddressOf (temporary_place x.names number)) n) (given_form.value (AddressOf (temporary_place x.names number))) number images c_world world)
          (ap x.names.size_of same) taken in
          rw (e) sized
