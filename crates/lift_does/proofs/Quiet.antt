-- What stores nothing and calls nothing is written without a statement, and leaves C's world as it is (ISO C99, 5.1.2.3p2).
use Rattle.std.proofs.Common.{◌≡◌, ℕ, Bool, true, false, ◌&&◌, ◌||◌, not, [], ◌∷◌, Result, Ok, Err, refl, sym, subst, ◌∙◌}
use Rattle.cr_base.specs.declared.refusal.Place.{Place}
use Rattle.cr_runs.specs.Owes.{AtEnd}
use Rattle.cr_runs.specs.Runs.{bind}
use Rattle.cr_world.specs.World.{World, blocks_of, with_memory}
use Rattle.cx_core.specs.Trees.{CTy, CExpr, expr, CForm, whole, null, object, code, load, deref, member, address, convert, unary, binary, and, or, cond, assign, assign_by, step, call, call_by, comma, literal}
use Rattle.cx_mean.proofs.KeptNodes.{IfGiven, given_then}
use Rattle.cx_mean.specs.Accesses.{CLoaded}
use Rattle.cx_mean.specs.Leftmost.{CCalls, c_done, c_value, c_form, c_and, c_or, c_part, c_carried, c_tested}
use Rattle.cx_mean.specs.Marks.{Marks, at_sequence_point}
use Rattle.cx_mean.specs.Nodes.{CDone, gives_value, done_by_load, node_done, unary_done, truth_of_value, tested}
use Rattle.cx_mean.specs.Operands.{CWhy, CValue, COperand, Frame, united_operands}
use Rattle.cx_mean.specs.Quiet.{calls_nothing, form_calls_nothing}
use Rattle.cx_mean.specs.Settings.{CSetting}
use Rattle.cx_mean_lives.proofs.ValueLives.{end_bind, end_step, end_tick, Anything, given_anything}
use Rattle.lift_does.proofs.Asking.{held_test}
use Rattle.lift_does.proofs.Lasting.{no_either}
use Rattle.lift_exprs.specs.Lifted.{lifted, lifted_form, holds_itself, Deciding, where_true, where_false, decided_written, Choice, choice_joined, chosen_written}
use Rattle.lift_exprs.specs.Names.{Names}
use Rattle.lift_exprs.specs.Written.{Written, then_gives, Both, in_turn, NodeKind, kind_in, held_where}
use Rattle.lift_forms.specs.Given.{Given}
use Rattle.lift_forms.specs.Operators.{Operand}
use Rattle.lift_held.specs.Held.{is_void, is_record, is_lvalue, is_lvalue_form, is_named, is_named_form, acts, acts_form, is_taken, is_always_held, is_steady_form, holds_call, operand, operand_before, part_of, whole_of}
use Rattle.lift_held.specs.declared.asked.Asked.{Asked}
use Rattle.mem_bytes.specs.Memory.{Blocks}

-- ---- what is written

-- no statement, and no temporary
pub record IsBare (written : Written) (from : ℕ) : Type 0 where
  pub body : written.body ≡ []
  pub temporaries : written.temporaries ≡ []
  pub next : written.next ≡ from

bare_then : (given : Given) (one : Written) (from : ℕ) → IsBare one from → IsBare (then_gives given one) from
bare_then given one from is = record { body = is.body; temporaries = is.temporaries; next = is.next }

bare_turn : (two : Both) (given : Given) (from : ℕ) → IsBare two.first from → IsBare two.second two.first.next → IsBare (in_turn two given) from
bare_turn two given from one other = record { body = rw (one.body, other.body) refl; temporaries = rw (one.temporaries, other.temporaries) refl; next = other.next ∙ one.next }

bare_where : (test : Bool) (names_of : Names) (kind : NodeKind) (written : Written) (from : ℕ) → test ≡ false → IsBare written from → IsBare (held_where test names_of kind written) from
bare_where true names_of kind written from e is = cc (e)
bare_where false names_of kind written from e is = is

bare_decided : (names_of : Names) (used acting : Bool) (type : CTy) (which : Deciding) (test other : Operand) (two : Both) (from : ℕ) → acting ≡ false → IsBare two.first from → IsBare two.second two.first.next →
    IsBare (decided_written names_of used acting type which test other two) from
bare_decided names_of used true type which test other two from e one more = cc (e)
bare_decided names_of used false type which test other two from e one more = bare_turn two _ from one more

bare_joined : (three : Choice) (given : Given) (from : ℕ) → IsBare three.test from → IsBare three.first three.test.next → IsBare three.second three.first.next → IsBare (choice_joined three three.test.body given) from
bare_joined three given from one two more = record { body = one.body; temporaries = rw (one.temporaries, two.temporaries, more.temporaries) refl; next = more.next ∙ (two.next ∙ one.next) }

bare_chosen : (names_of : Names) (used acting : Bool) (type : CTy) (test first second : Operand) (three : Choice) (from : ℕ) → acting ≡ false → IsBare three.test from → IsBare three.first three.test.next → IsBare three.second three.first.next →
    IsBare (chosen_written names_of used acting type test first second three) from
bare_chosen names_of used true type test first second three from e one two more = cc (e)
bare_chosen names_of true false type test first second three from e one two more = bare_joined three _ from one two more
bare_chosen names_of false false type test first second three from e one two more = bare_joined three _ from one two more

-- ---- tests

both_are : (one other : Bool) → one ≡ true → other ≡ true → (one && other) ≡ true
both_are one other e f = rw (e, f) refl

pub not_true : (test : Bool) → test ≡ true → not test ≡ false
not_true test e = rw e refl

-- the parts of an `&&` or `||`, or of another form, do nothing where the whole does nothing
pub neither_acts : (one other : Bool) → (one || other) ≡ false → (one ≡ false) × (other ≡ false)
neither_acts one other e = no_either one other e

-- a form that does nothing is held by what surrounds it alone
quiet_form : (used : Bool) (type : CTy) (form : CForm) → acts_form used type form ≡ false → (is_always_held type form ≡ false) × (is_taken type form ≡ holds_itself type form)
quiet_form used type (whole value) e = (refl, refl)
quiet_form used type null e = (refl, refl)
quiet_form used type (object number) e = (refl, refl)
quiet_form used type (code number) e = (refl, refl)
quiet_form used type (load from) e = (refl, refl)
quiet_form used type (deref from) e = (refl, refl)
quiet_form used type (member of spot) e = (refl, refl)
quiet_form used type (address of) e = (refl, refl)
quiet_form used type (convert value) e = (refl, refl)
quiet_form used type (unary op value) e = (refl, refl)
quiet_form used type (binary op left right) e = (refl, refl)
quiet_form used type (and left right) e = (refl, refl)
quiet_form used type (or left right) e = (refl, refl)
quiet_form used type (cond test first second) e = (refl, refl)
quiet_form used type (assign target value) e = cc (e)
quiet_form used type (assign_by op computes target value) e = cc (e)
quiet_form used type (step up post on) e = cc (e)
quiet_form used type (call callee args) e = cc (e)
quiet_form used type (call_by callee args) e = cc (e)
quiet_form used type (comma first second) e = (refl, refl)
quiet_form used type (literal number puts) e = cc (e)

not_held_by : (used pinned steady taken always held itself : Bool) → pinned ≡ false → held ≡ false → always ≡ false → taken ≡ itself → ((always || ((used && (taken || (pinned && not steady))) || held)) && not itself) ≡ false
not_held_by true false steady true false false true p h a same = refl
not_held_by true false steady false false false false p h a same = refl
not_held_by false false steady taken false false itself p h a same = refl
not_held_by used true steady taken always held itself p h a same = cc (p)
not_held_by used pinned steady taken always true itself p h a same = cc (h)
not_held_by used pinned steady taken true held itself p h a same = cc (a)
not_held_by used pinned steady true always held false p h a same = cc (same)
not_held_by used pinned steady false always held true p h a same = cc (same)

quiet_held : (asked : Asked) (type : CTy) (form : CForm) → asked.pinned ≡ false → (asked.is_base && (is_lvalue_form form && not (is_named_form form))) ≡ false → acts_form asked.used type form ≡ false → held_test asked type form ≡ false
quiet_held asked type form pinned base e =
    let is = quiet_form asked.used type form e in
    not_held_by asked.used asked.pinned (is_steady_form form) (is_taken type form) (is_always_held type form) (asked.is_base && (is_lvalue_form form && not (is_named_form form))) (holds_itself type form) pinned base is.0 is.1

mutual
  pub quiet_calls : (used : Bool) (e : CExpr) → acts used e ≡ false → calls_nothing e ≡ true
  quiet_calls used (expr type at form) e = quiet_form_calls used type form e

  quiet_form_calls : (used : Bool) (type : CTy) (form : CForm) → acts_form used type form ≡ false → form_calls_nothing form ≡ true
  quiet_form_calls used type (whole value) e = refl
  quiet_form_calls used type null e = refl
  quiet_form_calls used type (object number) e = refl
  quiet_form_calls used type (code number) e = refl
  quiet_form_calls used type (load from) e = quiet_calls true from e
  quiet_form_calls used type (deref from) e = quiet_calls true from e
  quiet_form_calls used type (member of spot) e = quiet_calls true of (neither_acts _ (acts true of) e).1
  quiet_form_calls used type (address of) e = quiet_calls true of e
  quiet_form_calls used type (convert value) e = quiet_calls (not (is_void type)) value e
  quiet_form_calls used type (unary op value) e = quiet_calls true value e
  quiet_form_calls used type (binary op left right) e =
      let both = neither_acts (acts true left) (acts true right) e in
      both_are (calls_nothing left) (calls_nothing right) (quiet_calls true left both.0) (quiet_calls true right both.1)
  quiet_form_calls used type (and left right) e =
      let both = neither_acts (acts true left) (acts true right) e in
      both_are (calls_nothing left) (calls_nothing right) (quiet_calls true left both.0) (quiet_calls true right both.1)
  quiet_form_calls used type (or left right) e =
      let both = neither_acts (acts true left) (acts true right) e in
      both_are (calls_nothing left) (calls_nothing right) (quiet_calls true left both.0) (quiet_calls true right both.1)
  quiet_form_calls used type (cond test first second) e =
      let outer = neither_acts (acts true test) (acts used first || acts used second) (neither_acts (used && is_record type) _ e).1 in
      let inner = neither_acts (acts used first) (acts used second) outer.1 in
      let one = quiet_calls true test outer.0 in
      let two = quiet_calls used first inner.0 in
      let three = quiet_calls used second inner.1 in
      rw (one, two, three) refl
  quiet_form_calls used type (comma first second) e =
      let both = neither_acts (acts false first) (acts used second) e in
      both_are (calls_nothing first) (calls_nothing second) (quiet_calls false first both.0) (quiet_calls used second both.1)
  quiet_form_calls used type (assign target value) e = cc (e)
  quiet_form_calls used type (assign_by op computes target value) e = cc (e)
  quiet_form_calls used type (step up post on) e = cc (e)
  quiet_form_calls used type (call callee args) e = cc (e)
  quiet_form_calls used type (call_by callee args) e = cc (e)
  quiet_form_calls used type (literal number puts) e = cc (e)

mutual
  pub bare : (names_of : Names) (asked : Asked) (e : CExpr) (from : ℕ) → asked.pinned ≡ false → (asked.is_base && (is_lvalue e && not (is_named e))) ≡ false → acts asked.used e ≡ false → IsBare (lifted names_of asked e from) from
  bare names_of asked (expr type at form) from pinned base e =
      bare_where (held_test asked type form) names_of (kind_in names_of type form) (lifted_form names_of asked type form from) from (quiet_held asked type form pinned base e) (bare_form names_of asked type form from e)

  bare_form : (names_of : Names) (asked : Asked) (type : CTy) (form : CForm) (from : ℕ) → acts_form asked.used type form ≡ false → IsBare (lifted_form names_of asked type form from) from
  bare_form names_of asked type (whole value) from e = record { body = refl; temporaries = refl; next = refl }
  bare_form names_of asked type null from e = record { body = refl; temporaries = refl; next = refl }
  bare_form names_of asked type (object number) from e = record { body = refl; temporaries = refl; next = refl }
  bare_form names_of asked type (code number) from e = record { body = refl; temporaries = refl; next = refl }
  bare_form names_of asked type (load of) from e = bare_then _ (lifted names_of operand of from) from (bare names_of operand of from refl refl e)
  bare_form names_of asked type (deref of) from e = bare_then _ (lifted names_of operand of from) from (bare names_of operand of from refl refl e)
  bare_form names_of asked type (member of spot) from e =
      let both = neither_acts _ (acts true of) e in
      bare_then _ (lifted names_of (whole_of spot) of from) from (bare names_of (whole_of spot) of from refl both.0 both.1)
  bare_form names_of asked type (address of) from e = bare_then _ (lifted names_of operand of from) from (bare names_of operand of from refl refl e)
  bare_form names_of asked type (convert of) from e =
      bare_then _ (lifted names_of (part_of (not (is_void type))) of from) from (bare names_of (part_of (not (is_void type))) of from refl refl e)
  bare_form names_of asked type (unary op of) from e = bare_then _ (lifted names_of operand of from) from (bare names_of operand of from refl refl e)
  bare_form names_of asked type (binary op left right) from e =
      let both = neither_acts (acts true left) (acts true right) e in
      let one = lifted names_of (operand_before (holds_call right)) left from in
      bare_turn (record { first = one; second = lifted names_of operand right one.next }) _ from
      (bare names_of (operand_before (holds_call right)) left from (not_true (calls_nothing right) (quiet_calls true right both.1)) refl both.0) (bare names_of operand right one.next refl refl both.1)
  bare_form names_of asked type (and left right) from e =
      let both = neither_acts (acts true left) (acts true right) e in
      let one = lifted names_of operand left from in
      bare_decided names_of asked.used (acts true right) type where_true _ _ (record { first = one; second = lifted names_of operand right one.next }) from both.1
      (bare names_of operand left from refl refl both.0) (bare names_of operand right one.next refl refl both.1)
  bare_form names_of asked type (or left right) from e =
      let both = neither_acts (acts true left) (acts true right) e in
      let one = lifted names_of operand left from in
      bare_decided names_of asked.used (acts true right) type where_false _ _ (record { first = one; second = lifted names_of operand right one.next }) from both.1
      (bare names_of operand left from refl refl both.0) (bare names_of operand right one.next refl refl both.1)
  bare_form names_of asked type (cond test first second) from e =
      let whole_is = neither_acts (asked.used && is_record type) (acts true test || (acts asked.used first || acts asked.used second)) e in
      let outer = neither_acts (acts true test) (acts asked.used first || acts asked.used second) whole_is.1 in
      let inner = neither_acts (acts asked.used first) (acts asked.used second) outer.1 in
      let one = lifted names_of operand test from in
      let two = lifted names_of (part_of asked.used) first one.next in
      let three = lifted names_of (part_of asked.used) second two.next in
      bare_chosen names_of asked.used ((asked.used && is_record type) || (acts asked.used first || acts asked.used second)) type _ _ _ (record { test = one; first = two; second = three }) from
      (rw (whole_is.0, outer.1) refl)
      (bare names_of operand test from refl refl outer.0) (bare names_of (part_of asked.used) first one.next refl refl inner.0) (bare names_of (part_of asked.used) second two.next refl refl inner.1)
  bare_form names_of asked type (comma first second) from e =
      let both = neither_acts (acts false first) (acts asked.used second) e in
      let one = lifted names_of (part_of false) first from in
      bare_turn (record { first = one; second = lifted names_of (part_of asked.used) second one.next }) _ from
      (bare names_of (part_of false) first from refl refl both.0) (bare names_of (part_of asked.used) second one.next refl refl both.1)
  bare_form names_of asked type (assign target value) from e = cc (e)
  bare_form names_of asked type (assign_by op computes target value) from e = cc (e)
  bare_form names_of asked type (step up post on) from e = cc (e)
  bare_form names_of asked type (call callee args) from e = cc (e)
  bare_form names_of asked type (call_by callee args) from e = cc (e)
  bare_form names_of asked type (literal number puts) from e = cc (e)

-- ---- C's world

abbrev pub StaysAt : World → COperand → World → Type 0
StaysAt before one after = after ≡ before

abbrev StoresNothing : Blocks → CDone → Type 0
StoresNothing blocks one = one.blocks ≡ blocks

value_stores : (marks : Marks) (blocks : Blocks) (outcome : Result CValue CWhy) → IfGiven (StoresNothing blocks) (gives_value marks blocks outcome)
value_stores marks blocks (Ok value) = refl
value_stores marks blocks (Err why) = tt

load_stores : (blocks : Blocks) (outcome : Result CLoaded CWhy) → IfGiven (StoresNothing blocks) (done_by_load blocks outcome)
load_stores blocks (Ok one) = refl
load_stores blocks (Err why) = tt

module _ (setting : CSetting) (calls : CCalls) (frame : Frame) where
  done_stays : (before now : World) (type : CTy) (place : Place) (outcome : Result CDone CWhy) (steps : ℕ) → now ≡ before → IfGiven (StoresNothing (blocks_of now)) outcome → AtEnd (StaysAt before) (c_done place type now outcome steps)
  done_stays before now type place outcome steps was is =
      end_step (StoresNothing (blocks_of now)) (StaysAt before) place outcome _ now steps is (λ one left same. subst (λ (blocks : Blocks). with_memory blocks now ≡ before) (sym same) was)

  one_stays : (before now : World) (part : CExpr) (type : CTy) (place : Place) (form : CForm) (steps : ℕ) → AtEnd (StaysAt before) (c_value setting calls frame part now steps) →
      ((blocks : Blocks) (marks : Marks) (one : COperand) → IfGiven (StoresNothing blocks) (unary_done setting type form frame marks blocks one)) →
      AtEnd (StaysAt before) (bind (c_value setting calls frame part now steps) (λ one after. c_done place type after (node_done setting type form frame (blocks_of after) (one ∷ []))))
  one_stays before now part type place form steps is all =
      end_bind (StaysAt before) (StaysAt before) (c_value setting calls frame part now steps) _ is (λ one later left same.
      done_stays before later type place _ left same (given_then (StoresNothing (blocks_of later)) (united_operands (one ∷ [])) _ (λ marks. all (blocks_of later) marks one)))

  abbrev Stays : CExpr → Type 0
  Stays e = (before now : World) → now ≡ before → (steps : ℕ) → AtEnd (StaysAt before) (c_value setting calls frame e now steps)

  tested_stays : (place : Place) (type : CTy) (marks : Marks) (second : CExpr) (before now : World) (left : ℕ) → now ≡ before → Stays second →
      AtEnd (StaysAt before) (c_tested place type marks (λ after more. c_value setting calls frame second after more) now left)
  tested_stays place type marks second before now left was is =
      end_bind (StaysAt before) (StaysAt before) (c_value setting calls frame second now left) _ (is before now was left) (λ other later rest same.
      end_step Anything (StaysAt before) place (tested (blocks_of later) other.value) _ later rest (given_anything (tested (blocks_of later) other.value)) (λ value more _. same))

  carried_stays : (part : CExpr) (marks : Marks) (before now : World) (left : ℕ) → now ≡ before → Stays part → AtEnd (StaysAt before) (c_carried marks (λ after more. c_value setting calls frame part after more) now left)
  carried_stays part marks before now left was is = end_bind (StaysAt before) (StaysAt before) (c_value setting calls frame part now left) _ (is before now was left) (λ one later rest same. same)

  mutual
    pub quiet_stays : (used : Bool) (e : CExpr) → acts used e ≡ false → Stays e
    quiet_stays used (expr type place form) e before now was steps = form_stays used type place form e before now was steps

    form_stays : (used : Bool) (type : CTy) (place : Place) (form : CForm) → acts_form used type form ≡ false → (before now : World) → now ≡ before → (steps : ℕ) → AtEnd (StaysAt before) (c_form setting calls frame type place form now steps)
    form_stays used type place (whole value) e before now was steps = was
    form_stays used type place null e before now was steps = was
    form_stays used type place (object number) e before now was steps = was
    form_stays used type place (code number) e before now was steps = was
    form_stays used type place (load from) e before now was steps =
        one_stays before now from type place (load from) steps (quiet_stays true from e before now was steps) (λ blocks marks one. load_stores blocks _)
    form_stays used type place (deref from) e before now was steps =
        one_stays before now from type place (deref from) steps (quiet_stays true from e before now was steps) (λ blocks marks one. value_stores marks blocks _)
    form_stays used type place (member of spot) e before now was steps =
        one_stays before now of type place (member of spot) steps (quiet_stays true of (neither_acts _ (acts true of) e).1 before now was steps) (λ blocks marks one. value_stores marks blocks _)
    form_stays used type place (address of) e before now was steps =
        one_stays before now of type place (address of) steps (quiet_stays true of e before now was steps) (λ blocks marks one. value_stores marks blocks _)
    form_stays used type place (convert value) e before now was steps =
        one_stays before now value type place (convert value) steps (quiet_stays (not (is_void type)) value e before now was steps) (λ blocks marks one. value_stores marks blocks _)
    form_stays used type place (unary op value) e before now was steps =
        one_stays before now value type place (unary op value) steps (quiet_stays true value e before now was steps) (λ blocks marks one. value_stores marks blocks _)
    form_stays used type place (binary op first second) e before now was steps =
        let both = neither_acts (acts true first) (acts true second) e in
        end_bind (StaysAt before) (StaysAt before) (c_value setting calls frame first now steps) _ (quiet_stays true first both.0 before now was steps) (λ one then left same.
        end_bind (StaysAt before) (StaysAt before) (c_value setting calls frame second then left) _ (quiet_stays true second both.1 before then same left) (λ other later more still.
        done_stays before later type place _ more still (given_then (StoresNothing (blocks_of later)) (united_operands (one ∷ other ∷ [])) _ (λ marks. value_stores marks (blocks_of later) _))))
    form_stays used type place (and first second) e before now was steps =
        let both = neither_acts (acts true first) (acts true second) e in
        end_bind (StaysAt before) (StaysAt before) (c_value setting calls frame first now steps) _ (quiet_stays true first both.0 before now was steps) (λ one then left same.
        end_step Anything (StaysAt before) place (truth_of_value (blocks_of then) one.value) _ then left (given_anything (truth_of_value (blocks_of then) one.value)) (λ holds more _.
        by holds one.marks then more same (quiet_stays true second both.1)))
      where
        by : (holds : Bool) (marks : Marks) (then : World) (more : ℕ) → then ≡ before → Stays second →
            AtEnd (StaysAt before) (c_and place type (at_sequence_point marks) (λ after rest. c_value setting calls frame second after rest) holds then more)
        by true marks then more same is = tested_stays place type (at_sequence_point marks) second before then more same is
        by false marks then more same is = same
    form_stays used type place (or first second) e before now was steps =
        let both = neither_acts (acts true first) (acts true second) e in
        end_bind (StaysAt before) (StaysAt before) (c_value setting calls frame first now steps) _ (quiet_stays true first both.0 before now was steps) (λ one then left same.
        end_step Anything (StaysAt before) place (truth_of_value (blocks_of then) one.value) _ then left (given_anything (truth_of_value (blocks_of then) one.value)) (λ holds more _.
        by holds one.marks then more same (quiet_stays true second both.1)))
      where
        by : (holds : Bool) (marks : Marks) (then : World) (more : ℕ) → then ≡ before → Stays second →
            AtEnd (StaysAt before) (c_or place type (at_sequence_point marks) (λ after rest. c_value setting calls frame second after rest) holds then more)
        by false marks then more same is = tested_stays place type (at_sequence_point marks) second before then more same is
        by true marks then more same is = same
    form_stays used type place (cond test first second) e before now was steps =
        let outer = neither_acts (acts true test) (acts used first || acts used second) (neither_acts (used && is_record type) _ e).1 in
        let inner = neither_acts (acts used first) (acts used second) outer.1 in
        end_bind (StaysAt before) (StaysAt before) (c_value setting calls frame test now steps) _ (quiet_stays true test outer.0 before now was steps) (λ one then left same.
        end_step Anything (StaysAt before) place (truth_of_value (blocks_of then) one.value) _ then left (given_anything (truth_of_value (blocks_of then) one.value)) (λ holds more _.
        by holds one.marks then more same (quiet_stays used first inner.0) (quiet_stays used second inner.1)))
      where
        by : (holds : Bool) (marks : Marks) (then : World) (more : ℕ) → then ≡ before → Stays first → Stays second →
            AtEnd (StaysAt before)
            (c_part (at_sequence_point marks) (λ after rest. c_value setting calls frame first after rest) (λ after rest. c_value setting calls frame second after rest) holds then more)
        by true marks then more same is too = carried_stays first (at_sequence_point marks) before then more same is
        by false marks then more same is too = carried_stays second (at_sequence_point marks) before then more same too
    form_stays used type place (comma first second) e before now was steps =
        let both = neither_acts (acts false first) (acts used second) e in
        end_bind (StaysAt before) (StaysAt before) (c_value setting calls frame first now steps) _ (quiet_stays false first both.0 before now was steps) (λ one then left same.
        end_tick (StaysAt before) then _ left (λ more. carried_stays second (at_sequence_point one.marks) before then more same (quiet_stays used second both.1)))
    form_stays used type place (assign target value) e before now was steps = cc (e)
    form_stays used type place (assign_by op computes target value) e before now was steps = cc (e)
    form_stays used type place (step up post on) e before now was steps = cc (e)
    form_stays used type place (call number args) e before now was steps = cc (e)
    form_stays used type place (call_by callee args) e before now was steps = cc (e)
    form_stays used type place (literal number puts) e before now was steps = cc (e)
