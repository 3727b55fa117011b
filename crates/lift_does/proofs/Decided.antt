-- `&&` and `||` (ISO C99, 6.5.13 and 6.5.14).
use Rattle.std.proofs.Common.{◌≡◌, inl, ℕ, suc, ◌≤◌, ℤ, pos, Bool, true, false, ◌&&◌, ◌||◌, not, List, [], ◌∷◌, ◌++◌, Some, Result, Ok, refl, sym, ap, subst, ◌∙◌, arith, rules}
use Rattle.std.proofs.lemmas.Bool.{and_parts}
use Rattle.std.proofs.lemmas.Int.{ints}
use Rattle.cr_base.specs.declared.refusal.Place.{Place}
use Rattle.cr_base.specs.declared.scalar.Scalar.TheVariants as scalars
use Rattle.cr_runs.specs.Runs.{bind}
use Rattle.cr_world.specs.World.{World, blocks_of}
use Rattle.cx_core.specs.Conversions.{scalar_of as c_scalar_of}
use Rattle.cx_core.specs.Trees.{CTy, form_of_type, CExpr, expr, CForm, and, or, type_of}
use Rattle.cx_core.specs.Typing.{IsTyped, int_type}
use Rattle.cx_mean.specs.Leftmost.{CPiece, gives_operand, c_truth, c_tested, c_and, c_or, decided_as, one_step}
use Rattle.cx_mean.specs.Marks.{Marks, at_sequence_point, both}
use Rattle.cx_mean.specs.Nodes.{truth, truth_of_value, tested}
use Rattle.cx_mean.specs.Operands.{CWhy, CValue, COperand}
use Rattle.cx_mean.specs.Work.{after_marks}
use Rattle.cx_numbers.specs.Numbers.{number_of_truth}
use Rattle.cx_typed_work.specs.Operands.{IsGiven}
use Rattle.lift_does.proofs.Around.{Around, scope, At, LaterAt, DidOf, OweAs, value_in, Reached}
use Rattle.lift_does.proofs.Branches.{IsTested, tested_is, branch_owes, test_at, opposite_at, still_owes, lasts_still}
use Rattle.lift_does.proofs.Lasting.{all_front, all_back, lasts_less}
use Rattle.lift_does.proofs.Nodes.{and_then_is, OneDid, one_owes, one_owes_alone}
use Rattle.lift_does.proofs.Operands.{or_false, where_used, other_based}
use Rattle.lift_does.proofs.Quiet.{bare}
use Rattle.lift_does.proofs.Reaching.{reached_then, reached_wider, later_itself, later_then}
use Rattle.lift_does.proofs.Runs.{step_owes, end_owes, same_events}
use Rattle.lift_does.proofs.Steady.{IsScoped, sizes_last}
use Rattle.lift_does.proofs.Taken.{scalar_taken}
use Rattle.lift_does.proofs.Unary.{form_fixed, ExprOwes, FormOwes}
use Rattle.lift_does.specs.Gives.{GivesOperand}
use Rattle.lift_does.specs.Later.{IsSameAt, TemporariesStay}
use Rattle.lift_exprs.specs.Lifted.{lifted, operand_of, Deciding, where_true, where_false, decided, decides, decided_form, decided_written}
use Rattle.lift_exprs.specs.Names.{type_in}
use Rattle.lift_exprs.specs.Written.{Written, Both, both as both_written, in_turn, temporary_place}
use Rattle.lift_forms.specs.Given.{Given, number_of}
use Rattle.lift_forms.specs.Given as given_form
use Rattle.lift_forms.specs.Operators.{Operand, given_value, test_of, opposite_of}
use Rattle.lift_forms_laws.proofs.Conversions.{both_stand, either_stands}
use Rattle.lift_forms_laws.proofs.Runs.{pure_is, literal_gives}
use Rattle.lift_forms_laws.proofs.Unary.{number_stands}
use Rattle.lift_forms_laws.specs.Gives.{GivesAt, truth_number, GivenStands}
use Rattle.lift_held.specs.Held.{is_void, is_record, acts, operand, is_steady}
use Rattle.lift_held.specs.declared.asked.Asked.{Asked}
use Rattle.lift_stands.specs.Stands.{Images}
use Rattle.mem_bytes.specs.declared.value.Value.TheVariants.{Whole as Number}
use Rattle.rs_mean.specs.Run.{Flow, normal}
use Rattle.rs_mean.specs.Numbers.{number_of_truth as rust_number_of_truth}
use Rattle.rs_text.specs.declared.integer.IntegerTy.TheVariants.{I32}
use Rattle.rs_text.specs.Tree.{Integer, Boolean, Expr, Literal, Read, And, Or, Stmt, Assign}

-- ---- truths

abbrev value_ok : CValue → Result CValue CWhy
value_ok value = Ok value

ok_is : (one other : CValue) → value_ok one ≡ value_ok other → one ≡ other
ok_is one other e = cc (e)

same_number : (test : Bool) → number_of_truth test ≡ rust_number_of_truth test
same_number true = refl
same_number false = refl

module _ (x : Around) where
  -- a truth of the crate is C's
  pub truth_gives : (e : CExpr) (images : Images) (world : World) (test : Expr) (holds : Bool) → type_of e ≡ int_type → GivesAt x.frame world test Boolean (truth_number holds) →
      GivesOperand x.s x.names images x.c_frame x.frame world e (given_form.truth test) (truth holds)
  truth_gives e images world test holds type_is gives = record {
    stands = record { test = holds; gives = gives; is_number = ap Number (same_number holds); is_int = ap (type_in x.names) type_is };
    based = other_based x world (given_form.truth test) (λ p same. cc (same));
  }

  pub number_gives : (e : CExpr) (images : Images) (world : World) (holds : Bool) (number : ℤ) → type_of e ≡ int_type → number ≡ rust_number_of_truth holds →
      GivesOperand x.s x.names images x.c_frame x.frame world e (given_form.value (Literal number I32)) (truth holds)
  number_gives e images world holds number type_is same = record {
    stands = subst (λ (n : ℤ). GivenStands images x.frame world (type_in x.names (type_of e)) (given_form.value (Literal number I32)) (Number n)) (same ∙ sym (same_number holds))
        (subst (λ (t : CTy). GivenStands images x.frame world (type_in x.names t) (given_form.value (Literal number I32)) (Number number)) (sym type_is)
        (number_stands images x.frame world (Literal number I32) (Integer I32) number (literal_gives x.frame world number I32)));
    based = other_based x world (given_form.value (Literal number I32)) (λ p same. cc (same));
  }

  truth_is_given : (e : CExpr) (holds : Bool) → type_of e ≡ int_type → IsGiven x.home.program e (truth holds)
  truth_is_given e true same = inl (record { kind = scalars.Whole 32 true; kind_is = ap (λ (t : CTy). c_scalar_of x.home.program.types (form_of_type t)) same; of_kind = search (rules, ints); leads = tt })
  truth_is_given e false same = inl (record { kind = scalars.Whole 32 true; kind_is = ap (λ (t : CTy). c_scalar_of x.home.program.types (form_of_type t)) same; of_kind = search (rules, ints); leads = tt })

-- ---- `&&` and `||`

abbrev form_by : Deciding → CExpr → CExpr → CForm
form_by where_true left right = and left right
form_by where_false left right = or left right

abbrev c_decided : Deciding → Place → CTy → Marks → CPiece COperand → Bool → CPiece COperand
c_decided where_true place type marks second holds = c_and place type marks second holds
c_decided where_false place type marks second holds = c_or place type marks second holds

abbrev expr_by : Deciding → (left right : Operand) → Expr
expr_by where_true left right = And (test_of left) (test_of right)
expr_by where_false left right = Or (test_of left) (test_of right)

form_is : (which : Deciding) (left right : Operand) → decided_form which left right ≡ given_form.truth (expr_by which left right)
form_is where_true left right = refl
form_is where_false left right = refl

module _ (x : Around) (asked : Asked) (type : CTy) (at : Place) (left right : CExpr) (from : ℕ) (images : Images) (c0 w0 : World) (here : At x images c0 w0) (typed_left : IsTyped x.home left) (typed_right : IsTyped x.home right) (type_is : type ≡ int_type) where
  abbrev two : Both
  two = both_written (λ number. lifted x.names operand left number) (λ number. lifted x.names operand right number) from

  abbrev L : Operand
  L = operand_of x.names left two.first.given

  abbrev R : Operand
  R = operand_of x.names right two.second.given

  abbrev LeftDid : COperand → Images → World → World → Type 0
  LeftDid one later c1 w1 = OneDid x true (is_steady left) left two.first from images later c0 w0 one c1 w1

  abbrev RightOwes : Type 0
  RightOwes = (later : Images) (c1 w1 : World) → At x later c1 w1 → ExprOwes x operand right two.first.next later c1 w1

  -- ---- without a branch

  module _ (used fixed : Bool) (form : CForm) (test : Expr) (rises : from ≤ two.first.next) (more : two.first.next ≤ two.second.next) (quiet : acts true right ≡ false)
      (steady : fixed ≡ true → (is_steady left ≡ true) × (is_steady right ≡ true)) where
    abbrev plain_written : Written
    plain_written = in_turn two (given_form.truth test)

    abbrev PlainGood : COperand → World → Flow → World → Type 0
    PlainGood = DidOf x used fixed (expr type at form) plain_written from images c0 w0

    plain_tested : (holds : Bool) (one : COperand) (later : Images) (c1 w1 : World) → LeftDid one later c1 w1 → IsTested one c1 holds → RightOwes →
        ((world : World) (other : Bool) → GivesAt x.frame world (test_of L) Boolean (truth_number holds) → GivesAt x.frame world (test_of R) Boolean (truth_number other) → GivesAt x.frame world test Boolean (truth_number other)) →
        OweAs x PlainGood (c_tested at type (at_sequence_point one.marks) (λ after rest. value_in x right after rest) c1) two.second.body w1
    plain_tested holds one later c1 w1 did is others together =
        still_owes x PlainGood (λ other after rest. one_step at (tested (blocks_of after) other.value) (λ value. gives_operand type value (after_marks (at_sequence_point one.marks) other).marks) after rest)
        true (is_steady right) right two.second two.first.next later c1 w1 did.reached.at typed_right quiet (others later c1 w1 did.reached.at) (λ other last c2 w2 too same.
        step_owes x PlainGood at (tested (blocks_of c2) other.value) (λ value. gives_operand type value (after_marks (at_sequence_point one.marks) other).marks) [] c2 w2 (same_events last c2 w2 too.reached.at.worlds) (λ value e.
        let second = and_then_is (truth_of_value (blocks_of c2) other.value) (λ holds. Ok (truth holds)) value e in
        let also = tested_is other c2 second.0 second.1 in
        let reads = (both (at_sequence_point one.marks) other.marks).reads in
        let reached = reached_then x from two.first.next two.second.next images later last c0 w0 c1 w1 c2 w2 rises more here did.reached too.reached in
        end_owes x PlainGood (record { type = type; value = value; marks = both (at_sequence_point one.marks) other.marks }) [] c2 w2 w2 (λ units. pure_is normal w2 units) (record {
          flow_is = refl;
          later = last;
          own = reached.own;
          are_own = reached.are_own;
          keeps = reached.keeps;
          worlds = reached.at.worlds;
          gives = λ end c_later after is_later. where_used used x end after (expr type at form) (given_form.truth test) value (λ _.
              let to_left = later_then x two.first.next two.second.next two.second.next later last end (is_steady left) fixed one.marks.reads reads c1 w1 c2 w2 c_later after did.reached.at too.reached
              (lasts_still x (is_steady left) one.marks.reads c1 c2 same) more (λ f. (steady f).0) (λ all. all_front (IsSameAt (blocks_of c2) (blocks_of c_later)) one.marks.reads other.marks.reads all) is_later in
              let to_right : LaterAt x last end two.second.next (is_steady right) other.marks.reads c2 w2 c_later after = record {
                extends = is_later.extends;
                here = is_later.here;
                temporaries = is_later.temporaries;
                lasts = lasts_less fixed (is_steady right) reads other.marks.reads c2 c_later (λ f. (steady f).1) (λ all. all_back (IsSameAt (blocks_of c2) (blocks_of c_later)) one.marks.reads other.marks.reads all) is_later.lasts;
              } in
              let first_test = test_at x left two.first.given one c0 c1 holds is typed_left did.knows_is end c_later after is_later.here
              (sizes_last x.home.program (is_steady left) one.marks.reads c1 c_later (scope x) is.of_c did.knows_is.0.at.owned to_left.lasts (λ f. subst (IsScoped (scope x)) is.value_is (did.knows_is.2 f)))
              (did.gives end c_later after to_left) in
              let second_test = test_at x right two.second.given other c1 c2 second.0 also typed_right too.knows_is end c_later after is_later.here
              (sizes_last x.home.program (is_steady right) other.marks.reads c2 c_later (scope x) also.of_c too.knows_is.0.at.owned to_right.lasts (λ f. subst (IsScoped (scope x)) also.value_is (too.knows_is.2 f)))
              (too.gives end c_later after to_right) in
              subst (λ (v : CValue). GivesOperand x.s x.names end x.c_frame x.frame after (expr type at form) (given_form.truth test) v) (ok_is (truth second.0) value second.2)
              (truth_gives x (expr type at form) end after test second.0 type_is (together after second.0 first_test second_test)));
        })))

    plain_decided : (holds : Bool) (one : COperand) (later : Images) (c1 w1 : World) → LeftDid one later c1 w1 → IsTested one c1 holds →
        ((world : World) → GivesAt x.frame world (test_of L) Boolean (truth_number holds) → GivesAt x.frame world test Boolean (truth_number holds)) →
        OweAs x PlainGood (decided_as type holds (at_sequence_point one.marks) c1) two.second.body w1
    plain_decided holds one later c1 w1 did is alone_gives =
        let wide = reached_wider x from two.first.next from two.second.next images later c0 w0 c1 w1 (omega arith) more did.reached in
        subst (λ (list : List Stmt). OweAs x PlainGood (decided_as type holds (at_sequence_point one.marks) c1) list w1) (sym (bare x.names operand right two.first.next refl refl quiet).body)
        (end_owes x PlainGood (record { type = type; value = truth holds; marks = at_sequence_point one.marks }) [] c1 w1 w1 (λ units. pure_is normal w1 units) (record {
          flow_is = refl;
          later = later;
          own = wide.own;
          are_own = wide.are_own;
          keeps = wide.keeps;
          worlds = wide.at.worlds;
          gives = λ end c_later after is_later. where_used used x end after (expr type at form) (given_form.truth test) (truth holds) (λ _.
              let to_left : LaterAt x later end two.first.next (is_steady left) one.marks.reads c1 w1 c_later after = record {
                extends = is_later.extends;
                here = is_later.here;
                temporaries = λ number kept_one local p kept_is is_local. is_later.temporaries number kept_one local (omega (arith, p, more)) kept_is is_local;
                lasts = lasts_less fixed (is_steady left) one.marks.reads one.marks.reads c1 c_later (λ f. (steady f).0) (λ all. all) is_later.lasts;
              } in
              truth_gives x (expr type at form) end after test holds type_is (alone_gives after
              (test_at x left two.first.given one c0 c1 holds is typed_left did.knows_is end c_later after is_later.here
              (sizes_last x.home.program (is_steady left) one.marks.reads c1 c_later (scope x) is.of_c did.knows_is.0.at.owned to_left.lasts (λ f. subst (IsScoped (scope x)) is.value_is (did.knows_is.2 f)))
              (did.gives end c_later after to_left))));
        }))

    plain_by : (which : Deciding) → test ≡ expr_by which L R → (holds : Bool) (one : COperand) (later : Images) (c1 w1 : World) → LeftDid one later c1 w1 → IsTested one c1 holds → RightOwes →
        OweAs x PlainGood (c_decided which at type (at_sequence_point one.marks) (λ after rest. value_in x right after rest) holds c1) two.second.body w1
    plain_by where_true same true one later c1 w1 did is others =
        plain_tested true one later c1 w1 did is others (λ world other h k. subst (λ (e : Expr). GivesAt x.frame world e Boolean (truth_number other)) (sym same) (both_stand x.frame world (test_of L) (test_of R) true other h (λ _. k)))
    plain_by where_true same false one later c1 w1 did is others =
        plain_decided false one later c1 w1 did is (λ world h. subst (λ (e : Expr). GivesAt x.frame world e Boolean (truth_number false)) (sym same) (both_stand x.frame world (test_of L) (test_of R) false false h (λ e. cc (e))))
    plain_by where_false same true one later c1 w1 did is others =
        plain_decided true one later c1 w1 did is (λ world h. subst (λ (e : Expr). GivesAt x.frame world e Boolean (truth_number true)) (sym same) (either_stands x.frame world (test_of L) (test_of R) true true h (λ e. cc (e))))
    plain_by where_false same false one later c1 w1 did is others =
        plain_tested false one later c1 w1 did is others (λ world other h k. subst (λ (e : Expr). GivesAt x.frame world e Boolean (truth_number other)) (sym same) (either_stands x.frame world (test_of L) (test_of R) false other h (λ _. k)))

  -- ---- with a branch

  -- the value that the first operand decides
  abbrev other_truth : Deciding → Bool
  other_truth where_true = false
  other_truth where_false = true

  branched : (which : Deciding) (Good : COperand → World → Flow → World → Type 0) (evaluated otherwise : List Stmt) (holds : Bool) (one : COperand) (later : Images) (c1 w1 : World) → LeftDid one later c1 w1 → IsTested one c1 holds →
      OweAs x Good (c_tested at type (at_sequence_point one.marks) (λ after rest. value_in x right after rest) c1) evaluated w1 →
      (holds ≡ other_truth which → OweAs x Good (decided_as type holds (at_sequence_point one.marks) c1) otherwise w1) →
      OweAs x Good (c_decided which at type (at_sequence_point one.marks) (λ after rest. value_in x right after rest) holds c1) (decides which L evaluated otherwise) w1
  branched which Good evaluated otherwise holds one later c1 w1 did is second owes =
      let gave = did.gives later c1 w1 (later_itself x later two.first.next (is_steady left) one.marks.reads c1 w1 did.reached.at) in
      by which holds is second owes
      (test_at x left two.first.given one c0 c1 holds is typed_left did.knows_is later c1 w1 did.reached.at (λ to e. refl) gave)
      (opposite_at x left two.first.given one c0 c1 holds is typed_left did.knows_is later c1 w1 did.reached.at (λ to e. refl) gave)
    where
      by : (which : Deciding) (holds : Bool) → IsTested one c1 holds →
          OweAs x Good (c_tested at type (at_sequence_point one.marks) (λ after rest. value_in x right after rest) c1) evaluated w1 →
          (holds ≡ other_truth which → OweAs x Good (decided_as type holds (at_sequence_point one.marks) c1) otherwise w1) →
          GivesAt x.frame w1 (test_of L) Boolean (truth_number holds) → GivesAt x.frame w1 (opposite_of L) Boolean (truth_number (not holds)) →
          OweAs x Good (c_decided which at type (at_sequence_point one.marks) (λ after rest. value_in x right after rest) holds c1) (decides which L evaluated otherwise) w1
      by where_true true is second owes test opposite =
          branch_owes x Good (c_tested at type (at_sequence_point one.marks) (λ after rest. value_in x right after rest) c1) L evaluated otherwise true w1 test opposite second
      by where_true false is second owes test opposite =
          branch_owes x Good (decided_as type false (at_sequence_point one.marks) c1) L evaluated otherwise false w1 test opposite (owes refl)
      by where_false true is second owes test opposite =
          branch_owes x Good (decided_as type true (at_sequence_point one.marks) c1) L otherwise evaluated true w1 test opposite (owes refl)
      by where_false false is second owes test opposite =
          branch_owes x Good (c_tested at type (at_sequence_point one.marks) (λ after rest. value_in x right after rest) c1) L otherwise evaluated false w1 test opposite second

  -- ---- its value goes to a temporary

  module _ (fixed : Bool) (form : CForm) (written : Written) (next_is : written.next ≡ suc two.second.next) (given_is : written.given ≡ given_form.value (Read (temporary_place x.names two.second.next)))
      (typed : IsTyped x.home (expr type at form)) (rises : from ≤ two.first.next) (more : two.first.next ≤ two.second.next)
      (kept_is : x.kept.temporaries two.second.next ≡ Some (record { name = x.names.temporary two.second.next; ty = type_in x.names type })) where
    abbrev TakenGood : COperand → World → Flow → World → Type 0
    TakenGood = DidOf x true fixed (expr type at form) written from images c0 w0

    taken_end : (holds : Bool) (value : CValue) (given : Given) (marks : Marks) (last : Images) (c2 w2 : World) → value ≡ truth holds → Reached x from two.second.next images last c0 w0 c2 w2 →
        GivesOperand x.s x.names last x.c_frame x.frame w2 (expr type at form) given (truth holds) →
        OweAs x TakenGood (gives_operand type value marks c2) (Assign (temporary_place x.names two.second.next) (given_value given) ∷ []) w2
    taken_end holds value given marks last c2 w2 same reached gave =
        let taken = scalar_taken x (expr type at form) (truth holds) given two.second.next last c2 w2 reached.at typed (ap is_void type_is) (ap is_record type_is) (truth_is_given x (expr type at form) holds type_is) kept_is gave in
        let all = subst (λ (n : ℕ). Reached x from n images last c0 w0 c2 taken.after) (sym next_is)
        (reached_then x from two.second.next (suc two.second.next) images last last c0 w0 c2 w2 c2 taken.after (omega (arith, rises, more)) (omega arith) here reached taken.reached) in
        end_owes x TakenGood (record { type = type; value = value; marks = marks }) (Assign (temporary_place x.names two.second.next) (given_value given) ∷ []) c2 w2 taken.after taken.comes (record {
          flow_is = refl;
          later = last;
          own = all.own;
          are_own = all.are_own;
          keeps = all.keeps;
          worlds = all.at.worlds;
          gives = λ end c_later after is_later.
              subst (λ (g : Given). GivesOperand x.s x.names end x.c_frame x.frame after (expr type at form) g value) (sym given_is)
              (subst (λ (v : CValue). GivesOperand x.s x.names end x.c_frame x.frame after (expr type at form) (given_form.value (Read (temporary_place x.names two.second.next))) v) (sym same)
              (taken.gives end after is_later.extends (subst (λ (n : ℕ). TemporariesStay x.kept x.frame n taken.after after) next_is is_later.temporaries)));
        })

    taken_tested : (holds : Bool) (one : COperand) (later : Images) (c1 w1 : World) → LeftDid one later c1 w1 → RightOwes →
        OweAs x TakenGood (c_tested at type (at_sequence_point one.marks) (λ after rest. value_in x right after rest) c1)
        (two.second.body ++ (Assign (temporary_place x.names two.second.next) (number_of (test_of R)) ∷ [])) w1
    taken_tested holds one later c1 w1 did others =
        let rest = Assign (temporary_place x.names two.second.next) (number_of (test_of R)) ∷ [] in
        one_owes x TakenGood (λ other after left. one_step at (tested (blocks_of after) other.value) (λ value. gives_operand type value (after_marks (at_sequence_point one.marks) other).marks) after left) rest
        true (is_steady right) right two.second two.first.next later c1 w1 did.reached.at (inl typed_right) (others later c1 w1 did.reached.at) (λ other last c2 w2 too.
        step_owes x TakenGood at (tested (blocks_of c2) other.value) (λ value. gives_operand type value (after_marks (at_sequence_point one.marks) other).marks) rest c2 w2 (same_events last c2 w2 too.reached.at.worlds) (λ value e.
        let second = and_then_is (truth_of_value (blocks_of c2) other.value) (λ holds. Ok (truth holds)) value e in
        let also = tested_is other c2 second.0 second.1 in
        let reached = reached_then x from two.first.next two.second.next images later last c0 w0 c1 w1 c2 w2 rises more here did.reached too.reached in
        taken_end second.0 value (given_form.truth (test_of R)) (both (at_sequence_point one.marks) other.marks) last c2 w2 (sym (ok_is (truth second.0) value second.2)) reached
        (truth_gives x (expr type at form) last w2 (test_of R) second.0 type_is
        (test_at x right two.second.given other c1 c2 second.0 also typed_right too.knows_is last c2 w2 too.reached.at (λ to e. refl)
        (too.gives last c2 w2 (later_itself x last two.second.next (is_steady right) other.marks.reads c2 w2 too.reached.at))))))

    taken_decided : (which : Deciding) (holds : Bool) (one : COperand) (later : Images) (c1 w1 : World) → LeftDid one later c1 w1 → holds ≡ other_truth which →
        OweAs x TakenGood (decided_as type holds (at_sequence_point one.marks) c1) (Assign (temporary_place x.names two.second.next) (decided which) ∷ []) w1
    taken_decided where_true holds one later c1 w1 did same =
        taken_end holds (truth holds) (given_form.value (Literal (pos 0) I32)) (at_sequence_point one.marks) later c1 w1 refl (reached_wider x from two.first.next from two.second.next images later c0 w0 c1 w1 (omega arith) more did.reached)
        (number_gives x (expr type at form) later w1 holds (pos 0) type_is (ap rust_number_of_truth (sym same)))
    taken_decided where_false holds one later c1 w1 did same =
        taken_end holds (truth holds) (given_form.value (Literal (pos 1) I32)) (at_sequence_point one.marks) later c1 w1 refl (reached_wider x from two.first.next from two.second.next images later c0 w0 c1 w1 (omega arith) more did.reached)
        (number_gives x (expr type at form) later w1 holds (pos 1) type_is (ap rust_number_of_truth (sym same)))

    taken_by : (which : Deciding) (holds : Bool) (one : COperand) (later : Images) (c1 w1 : World) → LeftDid one later c1 w1 → IsTested one c1 holds → RightOwes →
        OweAs x TakenGood (c_decided which at type (at_sequence_point one.marks) (λ after rest. value_in x right after rest) holds c1)
        (decides which L (two.second.body ++ (Assign (temporary_place x.names two.second.next) (number_of (test_of R)) ∷ [])) (Assign (temporary_place x.names two.second.next) (decided which) ∷ [])) w1
    taken_by which holds one later c1 w1 did is others =
        branched which TakenGood (two.second.body ++ (Assign (temporary_place x.names two.second.next) (number_of (test_of R)) ∷ [])) (Assign (temporary_place x.names two.second.next) (decided which) ∷ []) holds one later c1 w1 did is
        (taken_tested holds one later c1 w1 did others) (taken_decided which holds one later c1 w1 did)

  -- ---- its value isn't used

  module _ (fixed : Bool) (form : CForm) (written : Written) (next_is : written.next ≡ two.second.next) (rises : from ≤ two.first.next) (more : two.first.next ≤ two.second.next) where
    abbrev DroppedGood : COperand → World → Flow → World → Type 0
    DroppedGood = DidOf x false fixed (expr type at form) written from images c0 w0

    dropped_end : (value : CValue) (marks : Marks) (last : Images) (c2 w2 : World) → Reached x from two.second.next images last c0 w0 c2 w2 → OweAs x DroppedGood (gives_operand type value marks c2) [] w2
    dropped_end value marks last c2 w2 reached =
        let all = subst (λ (n : ℕ). Reached x from n images last c0 w0 c2 w2) (sym next_is) reached in
        end_owes x DroppedGood (record { type = type; value = value; marks = marks }) [] c2 w2 w2 (λ units. pure_is normal w2 units) (record {
          flow_is = refl;
          later = last;
          own = all.own;
          are_own = all.are_own;
          keeps = all.keeps;
          worlds = all.at.worlds;
          gives = λ end c_later after is_later. tt;
        })

    dropped_by : (which : Deciding) (holds : Bool) (one : COperand) (later : Images) (c1 w1 : World) → LeftDid one later c1 w1 → IsTested one c1 holds → RightOwes →
        OweAs x DroppedGood (c_decided which at type (at_sequence_point one.marks) (λ after rest. value_in x right after rest) holds c1) (decides which L two.second.body []) w1
    dropped_by which holds one later c1 w1 did is others =
        branched which DroppedGood two.second.body [] holds one later c1 w1 did is
        (one_owes_alone x DroppedGood (λ other after left. one_step at (tested (blocks_of after) other.value) (λ value. gives_operand type value (after_marks (at_sequence_point one.marks) other).marks) after left)
        true (is_steady right) right two.second two.first.next later c1 w1 did.reached.at (inl typed_right) (others later c1 w1 did.reached.at) (λ other last c2 w2 too.
        step_owes x DroppedGood at (tested (blocks_of c2) other.value) (λ value. gives_operand type value (after_marks (at_sequence_point one.marks) other).marks) [] c2 w2 (same_events last c2 w2 too.reached.at.worlds) (λ value e.
        dropped_end value (both (at_sequence_point one.marks) other.marks) last c2 w2 (reached_then x from two.first.next two.second.next images later last c0 w0 c1 w1 c2 w2 rises more here did.reached too.reached))))
        (λ same. dropped_end (truth holds) (at_sequence_point one.marks) later c1 w1 (reached_wider x from two.first.next from two.second.next images later c0 w0 c1 w1 (omega arith) more did.reached))

  -- ---- all of them

  outer_owes : (which : Deciding) (Good : COperand → World → Flow → World → Type 0) (rest : List Stmt) → ExprOwes x operand left from images c0 w0 →
      ((holds : Bool) (one : COperand) (later : Images) (c1 w1 : World) → LeftDid one later c1 w1 → IsTested one c1 holds →
      OweAs x Good (c_decided which at type (at_sequence_point one.marks) (λ after left. value_in x right after left) holds c1) rest w1) →
      OweAs x Good (λ k. bind (value_in x left c0 k) (λ one after. c_truth at one (c_decided which at type (at_sequence_point one.marks) (λ later more. value_in x right later more)) after)) (two.first.body ++ rest) w0
  outer_owes which Good rest owes all =
      one_owes x Good (λ one after. c_truth at one (c_decided which at type (at_sequence_point one.marks) (λ later more. value_in x right later more)) after) rest
      true (is_steady left) left two.first from images c0 w0 here (inl typed_left) owes (λ one later c1 w1 did.
      step_owes x Good at (truth_of_value (blocks_of c1) one.value) (c_decided which at type (at_sequence_point one.marks) (λ after more. value_in x right after more)) rest c1 w1 (same_events later c1 w1 did.reached.at.worlds)
      (λ holds e. all holds one later c1 w1 did (tested_is one c1 holds e)))

  abbrev DecidedOwes : (which : Deciding) (used acting fixed : Bool) → CForm → Type 0
  DecidedOwes which used acting fixed form =
      OweAs x (DidOf x used fixed (expr type at form) (decided_written x.names used acting type which L R two) from images c0 w0)
      (λ k. bind (value_in x left c0 k) (λ one after. c_truth at one (c_decided which at type (at_sequence_point one.marks) (λ later more. value_in x right later more)) after)) (decided_written x.names used acting type which L R two).body w0

  decided_all : (which : Deciding) (used acting fixed : Bool) (form : CForm) → acts true right ≡ acting → IsTyped x.home (expr type at form) → (acting ≡ false → fixed ≡ true → (is_steady left ≡ true) × (is_steady right ≡ true)) →
      from ≤ two.first.next → two.first.next ≤ two.second.next →
      (used ≡ true → acting ≡ true → x.kept.temporaries two.second.next ≡ Some (record { name = x.names.temporary two.second.next; ty = type_in x.names type })) →
      ExprOwes x operand left from images c0 w0 → RightOwes → DecidedOwes which used acting fixed form
  decided_all which true true fixed form acting_is typed steady rises more kept_is owes others =
      let written = decided_written x.names true true type which L R two in
      outer_owes which (DidOf x true fixed (expr type at form) written from images c0 w0) _ owes
      (λ holds one later c1 w1 did is. taken_by fixed form written refl refl typed rises more (kept_is refl refl) which holds one later c1 w1 did is others)
  decided_all which false true fixed form acting_is typed steady rises more kept_is owes others =
      let written = decided_written x.names false true type which L R two in
      outer_owes which (DidOf x false fixed (expr type at form) written from images c0 w0) _ owes
      (λ holds one later c1 w1 did is. dropped_by fixed form written refl rises more which holds one later c1 w1 did is others)
  decided_all which used false fixed form acting_is typed steady rises more kept_is owes others =
      subst (λ (given : Given). OweAs x (DidOf x used fixed (expr type at form) (in_turn two given) from images c0 w0)
      (λ k. bind (value_in x left c0 k) (λ one after. c_truth at one (c_decided which at type (at_sequence_point one.marks) (λ later rest. value_in x right later rest)) after)) (two.first.body ++ two.second.body) w0) (sym (form_is which L R))
      (outer_owes which (DidOf x used fixed (expr type at form) (in_turn two (given_form.truth (expr_by which L R))) from images c0 w0) two.second.body owes
      (λ holds one later c1 w1 did is. plain_by used fixed form (expr_by which L R) rises more acting_is (steady refl) which refl holds one later c1 w1 did is others))

module _ (x : Around) where
  abbrev pub two_operands : CExpr → CExpr → ℕ → Both
  two_operands left right from = both_written (λ number. lifted x.names operand left number) (λ number. lifted x.names operand right number) from

  steady_both : (one other acting : Bool) → acting ≡ false → ((one && other) || acting) ≡ true → (one ≡ true) × (other ≡ true)
  steady_both one other false none e = and_parts one other (or_false (one && other) e)
  steady_both one other true none e = cc (none)

  pub and_owes : (asked : Asked) (type : CTy) (at : Place) (left right : CExpr) (from : ℕ) (images : Images) (c0 w0 : World) → At x images c0 w0 → IsTyped x.home (expr type at (and left right)) →
      from ≤ (two_operands left right from).first.next → (two_operands left right from).first.next ≤ (two_operands left right from).second.next →
      (asked.used ≡ true → acts true right ≡ true →
      x.kept.temporaries (two_operands left right from).second.next ≡ Some (record { name = x.names.temporary (two_operands left right from).second.next; ty = type_in x.names type })) →
      ExprOwes x operand left from images c0 w0 → ((later : Images) (c1 w1 : World) → At x later c1 w1 → ExprOwes x operand right (two_operands left right from).first.next later c1 w1) →
      FormOwes x asked type at (and left right) from images c0 w0
  and_owes asked type at left right from images c0 w0 here typed rises more kept_is owes others =
      decided_all x asked type at left right from images c0 w0 here typed.1.0 typed.1.1 typed.1.2.type_is where_true asked.used (acts true right) (form_fixed type (and left right)) (and left right) refl typed
      (λ quiet. steady_both (is_steady left) (is_steady right) (acts true right) quiet) rises more kept_is owes others

  pub or_owes : (asked : Asked) (type : CTy) (at : Place) (left right : CExpr) (from : ℕ) (images : Images) (c0 w0 : World) → At x images c0 w0 → IsTyped x.home (expr type at (or left right)) →
      from ≤ (two_operands left right from).first.next → (two_operands left right from).first.next ≤ (two_operands left right from).second.next →
      (asked.used ≡ true → acts true right ≡ true →
      x.kept.temporaries (two_operands left right from).second.next ≡ Some (record { name = x.names.temporary (two_operands left right from).second.next; ty = type_in x.names type })) →
      ExprOwes x operand left from images c0 w0 → ((later : Images) (c1 w1 : World) → At x later c1 w1 → ExprOwes x operand right (two_operands left right from).first.next later c1 w1) →
      FormOwes x asked type at (or left right) from images c0 w0
  or_owes asked type at left right from images c0 w0 here typed rises more kept_is owes others =
      decided_all x asked type at left right from images c0 w0 here typed.1.0 typed.1.1 typed.1.2.type_is where_false asked.used (acts true right) (form_fixed type (or left right)) (or left right) refl typed
      (λ quiet. steady_both (is_steady left) (is_steady right) (acts true right) quiet) rises more kept_is owes others
