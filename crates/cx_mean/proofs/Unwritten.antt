-- What the marks of an expression without calls don't say that it wrote is what it was, by induction on the expression.
use Rattle.std.proofs.Common.{◌≡◌, ℕ, zero, suc, Bool, true, false, ◌&&◌, List, [], ◌∷◌, ◌++◌, Result, Ok, Err, refl, sym, ap, subst, ◌∙◌}
use Rattle.std.proofs.lemmas.Bool.{and_parts}
use Rattle.std.proofs.lemmas.List.{append-nil}
use Rattle.cr_base.specs.declared.refusal.Place.{Place}
use Rattle.cr_runs.specs.Owes.{AtEnd}
use Rattle.cr_runs.specs.Runs.{came, halted, bad, out, bind, tick}
use Rattle.cr_world.specs.World.{World, blocks_of, with_memory}
use Rattle.cx_core.specs.Trees.{CTy, CExpr, expr, CForm, whole, null, object, code, load, deref, member, address, convert, unary, binary, and, or, cond, assign, assign_by, step, call, call_by, comma, literal, put, CPuts, no_puts, more_puts, place_of}
use Rattle.cx_mean.specs.Accesses.{CStored}
use Rattle.cx_mean.specs.Initialisers.{put_stored}
use Rattle.cx_mean.specs.Leftmost.{CRan, CPiece, CCalls, or_bad, c_done, c_updates, c_truth, c_tested, c_carried, c_and, c_or, c_part, decided_as, c_value, c_form, c_fill}
use Rattle.cx_mean.specs.Marks.{Marks, Range, at_sequence_point}
use Rattle.cx_mean.specs.Nodes.{CDone, node_done, CUpdating, node_updating, update_computed, update_converted, update_stored, truth_of_value, tested, literal_cleared, marks_after_put}
use Rattle.cx_mean.specs.Operands.{CWhy, CValue, COperand, Frame}
use Rattle.cx_mean.specs.Quiet.{calls_nothing, form_calls_nothing, puts_call_nothing}
use Rattle.cx_mean.specs.Settings.{CSetting}
use Rattle.cx_mean.specs.Unwritten.{KeepsBeside, UnwrittenStays}
use Rattle.cx_mean.specs.Work.{after_marks}
use Rattle.cx_mean.proofs.Kept.{keeps_same, keeps_after}
use Rattle.cx_mean.proofs.KeptNodes.{IfGiven, given_then, IsHeldValue, KeptSince, Kept}
use Rattle.cx_mean.proofs.KeptSteps.{Operands, Done, one_keeps, operator_keeps, assign_keeps, Updating, updating_keeps, update_keeps, literal_keeps, put_keeps}
use Rattle.mem_bytes.specs.Laws.{HoldsCells}
use Rattle.mem_bytes.specs.Memory.{Blocks}

-- ---- pieces

end_bind : {A B : Type 0} (P : A → World → Type 0) (Q : B → World → Type 0) (piece : CRan A) (go : A → World → ℕ → CRan B) → AtEnd P piece →
    ((value : A) (world : World) (left : ℕ) → P value world → AtEnd Q (go value world left)) → AtEnd Q (bind piece go)
end_bind P Q (came value world left) go one all = all value world left one
end_bind P Q (halted status world) go one all = tt
end_bind P Q (bad fault world) go one all = tt
end_bind P Q (out world) go one all = tt

-- what holds behind an expression that began in a world
pub record Since (before : World) (operand : COperand) (after : World) : Type 0 where
  pub kept : KeptSince [] (blocks_of before) operand.value operand.marks (blocks_of after)
  pub alone : after ≡ with_memory (blocks_of after) before

-- a memory put in a world that differs in memory alone
alone_with : (before now : World) (blocks : Blocks) → now ≡ with_memory (blocks_of now) before → with_memory blocks now ≡ with_memory blocks before
alone_with before now blocks is = ap (λ (world : World). with_memory blocks world) is

-- ---- steps

-- one step, of which it is known what it gives
end_step : {A B : Type 0} (P : A → Type 0) (Q : B → World → Type 0) (place : Place) (outcome : Result A CWhy) (on : A → CPiece B) (world : World) (steps : ℕ) →
    IfGiven P outcome → ((one : A) (left : ℕ) → P one → AtEnd Q (on one world left)) → AtEnd Q (tick world (λ left. or_bad place outcome on world left) steps)
end_step P Q place outcome on world zero is all = tt
end_step P Q place (Ok one) on world (suc left) is all = all one left is
end_step P Q place (Err why) on world (suc left) is all = tt

-- of which nothing has to be known
abbrev Anything : {A : Type 0} → A → Type 0
Anything value = Unit {0}

given_anything : {A E : Type 0} (outcome : Result A E) → IfGiven Anything outcome
given_anything (Ok value) = tt
given_anything (Err why) = tt

done_since : (before now : World) (type : CTy) (place : Place) (outcome : Result CDone CWhy) → now ≡ with_memory (blocks_of now) before → IfGiven (Done [] (blocks_of before)) outcome → (steps : ℕ) →
    AtEnd (Since before) (c_done place type now outcome steps)
done_since before now type place outcome alone is steps =
    end_step (Done [] (blocks_of before)) (Since before) place outcome _ now steps is (λ one left kept.
    record { kept = kept; alone = alone_with before now one.blocks alone })

updates_since : (setting : CSetting) (frame : Frame) (before now : World) (type : CTy) (place : Place) (outcome : Result CUpdating CWhy) → now ≡ with_memory (blocks_of now) before →
    IfGiven (Updating [] (blocks_of before) (blocks_of now)) outcome → (steps : ℕ) → AtEnd (Since before) (c_updates setting frame place type now outcome steps)
updates_since setting frame before now type place outcome alone is steps =
    end_step (Updating [] (blocks_of before) (blocks_of now)) (Since before) place outcome _ now steps is (λ one left kept.
    end_step Anything (Since before) place (update_computed setting (blocks_of now) one.update) _ now left (given_anything (update_computed setting (blocks_of now) one.update)) (λ new more _.
    end_step Anything (Since before) place (update_converted setting (blocks_of now) one.update new) _ now more (given_anything (update_converted setting (blocks_of now) one.update new)) (λ value rest _.
    done_since before now type place (update_stored setting frame (blocks_of now) one.update one.marks value) alone
    (update_keeps setting frame [] (blocks_of before) (blocks_of now) one.update one.marks value kept) rest)))

-- ---- one part behind another

-- the second operand of `&&` or `||` gives a number
pub tested_gives : (blocks : Blocks) (value : CValue) → IfGiven IsHeldValue (tested blocks value)
tested_gives blocks value = given_then IsHeldValue (truth_of_value blocks value) _ (λ truth. tt)

one_operand : (before now : World) (one : COperand) → Since before one now → Operands [] (blocks_of before) (one ∷ []) (blocks_of now)
one_operand before now one is = record {
  stays = subst (λ (ranges : List Range). KeepsBeside ranges (blocks_of before) (blocks_of now)) (sym (append-nil one.marks.writes)) is.kept.stays;
  covers = λ range avoids. refl;
  held = is.kept.held;
}

two_operands : (before now after : World) (one other : COperand) → Since before one now → Since now other after → Operands [] (blocks_of before) (one ∷ other ∷ []) (blocks_of after)
two_operands before now after one other is too = record {
  stays = keeps_after one.marks.writes (other.marks.writes ++ []) (blocks_of before) (blocks_of now) (blocks_of after) is.kept.stays
      (subst (λ (ranges : List Range). KeepsBeside ranges (blocks_of now) (blocks_of after)) (sym (append-nil other.marks.writes)) too.kept.stays);
  covers = λ range avoids. refl;
  held = too.kept.held;
}

two_alone : (before now after : World) (one other : COperand) → Since before one now → Since now other after → after ≡ with_memory (blocks_of after) before
two_alone before now after one other is too = too.alone ∙ alone_with before now (blocks_of after) is.alone

-- the marks of a part behind those of another, without a test
then_marks : (before now after : World) (marks : Marks) (other : COperand) → KeepsBeside marks.writes (blocks_of before) (blocks_of now) → now ≡ with_memory (blocks_of now) before → Since now other after →
    Since before (after_marks marks other) after
then_marks before now after marks other stays alone too = record {
  kept = record {
    stays = keeps_after marks.writes other.marks.writes (blocks_of before) (blocks_of now) (blocks_of after) stays too.kept.stays;
    covers = λ range avoids. refl;
    held = too.kept.held;
    value_held = too.kept.value_held;
  };
  alone = too.alone ∙ alone_with before now (blocks_of after) alone;
}

-- the piece of a part
abbrev Part : World → CPiece COperand → Type 0
Part now part = (left : ℕ) → AtEnd (Since now) (part now left)

tested_since : (before now : World) (type : CTy) (place : Place) (marks : Marks) (second : CPiece COperand) → KeepsBeside marks.writes (blocks_of before) (blocks_of now) → now ≡ with_memory (blocks_of now) before → Part now second → (steps : ℕ) →
    AtEnd (Since before) (c_tested place type marks second now steps)
tested_since before now type place marks second stays alone part steps =
    end_bind (Since now) (Since before) (second now steps) _ (part steps) (λ other after left too.
    let both_since = then_marks before now after marks other stays alone too in
    end_step IsHeldValue (Since before) place (tested (blocks_of after) other.value) _ after left (tested_gives (blocks_of after) other.value) (λ value rest is.
    record { kept = record { stays = both_since.kept.stays; covers = λ range avoids. refl; held = both_since.kept.held; value_held = is }; alone = both_since.alone }))

carried_since : (before now : World) (marks : Marks) (second : CPiece COperand) → KeepsBeside marks.writes (blocks_of before) (blocks_of now) → now ≡ with_memory (blocks_of now) before → Part now second → (steps : ℕ) →
    AtEnd (Since before) (c_carried marks second now steps)
carried_since before now marks second stays alone part steps =
    end_bind (Since now) (Since before) (second now steps) _ (part steps) (λ other after left too. then_marks before now after marks other stays alone too)

decided_since : (before now : World) (type : CTy) (truth : Bool) (one : COperand) → Since before one now → (left : ℕ) → AtEnd (Since before) (decided_as type truth (at_sequence_point one.marks) now left)
decided_since before now type truth one is left = record { kept = record { stays = is.kept.stays; covers = λ range avoids. refl; held = is.kept.held; value_held = tt }; alone = is.alone }

and_since : (before now : World) (type : CTy) (place : Place) (one : COperand) (second : CPiece COperand) → Since before one now → Part now second → (truth : Bool) (left : ℕ) →
    AtEnd (Since before) (c_and place type (at_sequence_point one.marks) second truth now left)
and_since before now type place one second is part true left = tested_since before now type place (at_sequence_point one.marks) second is.kept.stays is.alone part left
and_since before now type place one second is part false left = decided_since before now type false one is left

or_since : (before now : World) (type : CTy) (place : Place) (one : COperand) (second : CPiece COperand) → Since before one now → Part now second → (truth : Bool) (left : ℕ) →
    AtEnd (Since before) (c_or place type (at_sequence_point one.marks) second truth now left)
or_since before now type place one second is part true left = decided_since before now type true one is left
or_since before now type place one second is part false left = tested_since before now type place (at_sequence_point one.marks) second is.kept.stays is.alone part left

part_since : (before now : World) (one : COperand) (first second : CPiece COperand) → Since before one now → Part now first → Part now second → (truth : Bool) (left : ℕ) →
    AtEnd (Since before) (c_part (at_sequence_point one.marks) first second truth now left)
part_since before now one first second is part other true left = carried_since before now (at_sequence_point one.marks) first is.kept.stays is.alone part left
part_since before now one first second is part other false left = carried_since before now (at_sequence_point one.marks) second is.kept.stays is.alone other left

-- behind the first operand of `&&`, `||` or `?:`
truth_since : (before now : World) (place : Place) (one : COperand) (on : Bool → CPiece COperand) → ((truth : Bool) (left : ℕ) → AtEnd (Since before) (on truth now left)) → (steps : ℕ) →
    AtEnd (Since before) (c_truth place one on now steps)
truth_since before now place one on all steps =
    end_step Anything (Since before) place (truth_of_value (blocks_of now) one.value) on now steps (given_anything (truth_of_value (blocks_of now) one.value)) (λ truth left _. all truth left)

tick_since : {A : Type 0} (Q : A → World → Type 0) (world : World) (go : ℕ → CRan A) (steps : ℕ) → ((left : ℕ) → AtEnd Q (go left)) → AtEnd Q (tick world go steps)
tick_since Q world go zero all = tt
tick_since Q world go (suc left) all = all left

-- ---- expressions

module _ (setting : CSetting) (calls : CCalls) (frame : Frame) where
  -- what is known of an expression in every world
  abbrev Evaluated : CExpr → Type 0
  Evaluated e = (world : World) (steps : ℕ) → HoldsCells (blocks_of world) → AtEnd (Since world) (c_value setting calls frame e world steps)

  one_since : (type : CTy) (place : Place) (form : CForm) (part : CExpr) (world : World) (steps : ℕ) → HoldsCells (blocks_of world) → Evaluated part →
      AtEnd (Since world) (bind (c_value setting calls frame part world steps) (λ one after. c_done place type after (node_done setting type form frame (blocks_of after) (one ∷ []))))
  one_since type place form part world steps held is =
      end_bind (Since world) (Since world) (c_value setting calls frame part world steps) _ (is world steps held) (λ one now left since.
      done_since world now type place (node_done setting type form frame (blocks_of now) (one ∷ [])) since.alone
      (one_keeps setting type form frame [] (blocks_of world) (blocks_of now) one (one_operand world now one since) since.kept.value_held) left)

  two_since : {A : Type 0} (Q : A → World → Type 0) (first second : CExpr) (world : World) (steps : ℕ) → HoldsCells (blocks_of world) → Evaluated first → Evaluated second → (go : COperand → COperand → World → ℕ → CRan A) →
      ((one other : COperand) (now after : World) (left : ℕ) → Since world one now → Since now other after → AtEnd Q (go one other after left)) →
      AtEnd Q (bind (c_value setting calls frame first world steps) (λ one after more. bind (c_value setting calls frame second after more) (λ other later. go one other later)))
  two_since Q first second world steps held is too go all =
      end_bind (Since world) Q (c_value setting calls frame first world steps) _ (is world steps held) (λ one now more since.
      end_bind (Since now) Q (c_value setting calls frame second now more) _ (too now more since.kept.held) (λ other after left later. all one other now after left since later))

  mutual
    pub value_since : (e : CExpr) → calls_nothing e ≡ true → Evaluated e
    value_since (expr type place form) quiet world steps held = form_since type place form quiet world steps held

    form_since : (type : CTy) (place : Place) (form : CForm) → form_calls_nothing form ≡ true → (world : World) (steps : ℕ) → HoldsCells (blocks_of world) → AtEnd (Since world) (c_form setting calls frame type place form world steps)
    form_since type place (whole value) quiet world steps held = record { kept = record { stays = keeps_same (blocks_of world); covers = λ range avoids. refl; held = held; value_held = tt }; alone = refl }
    form_since type place null quiet world steps held = record { kept = record { stays = keeps_same (blocks_of world); covers = λ range avoids. refl; held = held; value_held = tt }; alone = refl }
    form_since type place (object number) quiet world steps held = record { kept = record { stays = keeps_same (blocks_of world); covers = λ range avoids. refl; held = held; value_held = tt }; alone = refl }
    form_since type place (code number) quiet world steps held = record { kept = record { stays = keeps_same (blocks_of world); covers = λ range avoids. refl; held = held; value_held = tt }; alone = refl }
    form_since type place (load from) quiet world steps held = one_since type place (load from) from world steps held (value_since from quiet)
    form_since type place (deref from) quiet world steps held = one_since type place (deref from) from world steps held (value_since from quiet)
    form_since type place (member of spot) quiet world steps held = one_since type place (member of spot) of world steps held (value_since of quiet)
    form_since type place (address of) quiet world steps held = one_since type place (address of) of world steps held (value_since of quiet)
    form_since type place (convert value) quiet world steps held = one_since type place (convert value) value world steps held (value_since value quiet)
    form_since type place (unary op value) quiet world steps held = one_since type place (unary op value) value world steps held (value_since value quiet)
    form_since type place (binary op first second) quiet world steps held =
        let both_quiet = and_parts (calls_nothing first) (calls_nothing second) quiet in
        two_since (Since world) first second world steps held (value_since first both_quiet.0) (value_since second both_quiet.1) _ (λ one other now after left is too.
        done_since world after type place (node_done setting type (binary op first second) frame (blocks_of after) (one ∷ other ∷ [])) (two_alone world now after one other is too)
        (operator_keeps setting type op first second frame [] (blocks_of world) (blocks_of after) one other (two_operands world now after one other is too)) left)
    form_since type place (assign target value) quiet world steps held =
        let both_quiet = and_parts (calls_nothing target) (calls_nothing value) quiet in
        two_since (Since world) target value world steps held (value_since target both_quiet.0) (value_since value both_quiet.1) _ (λ one other now after left is too.
        done_since world after type place (node_done setting type (assign target value) frame (blocks_of after) (one ∷ other ∷ [])) (two_alone world now after one other is too)
        (assign_keeps setting type target value frame [] (blocks_of world) (blocks_of after) one other (two_operands world now after one other is too) too.kept.value_held) left)
    form_since type place (assign_by op computes target value) quiet world steps held =
        let both_quiet = and_parts (calls_nothing target) (calls_nothing value) quiet in
        two_since (Since world) target value world steps held (value_since target both_quiet.0) (value_since value both_quiet.1) _ (λ one other now after left is too.
        updates_since setting frame world after type place (node_updating setting (assign_by op computes target value) frame (blocks_of after) (one ∷ other ∷ [])) (two_alone world now after one other is too)
        (updating_keeps setting (assign_by op computes target value) frame [] (blocks_of world) (blocks_of after) (one ∷ other ∷ []) (two_operands world now after one other is too)) left)
    form_since type place (step up post on) quiet world steps held =
        end_bind (Since world) (Since world) (c_value setting calls frame on world steps) _ (value_since on quiet world steps held) (λ one now left since.
        updates_since setting frame world now type place (node_updating setting (step up post on) frame (blocks_of now) (one ∷ [])) since.alone
        (updating_keeps setting (step up post on) frame [] (blocks_of world) (blocks_of now) (one ∷ []) (one_operand world now one since)) left)
    form_since type place (and first second) quiet world steps held =
        let both_quiet = and_parts (calls_nothing first) (calls_nothing second) quiet in
        end_bind (Since world) (Since world) (c_value setting calls frame first world steps) _ (value_since first both_quiet.0 world steps held) (λ one now left since.
        truth_since world now place one _ (λ truth more. and_since world now type place one (λ later rest. c_value setting calls frame second later rest) since (λ rest. value_since second both_quiet.1 now rest since.kept.held) truth more) left)
    form_since type place (or first second) quiet world steps held =
        let both_quiet = and_parts (calls_nothing first) (calls_nothing second) quiet in
        end_bind (Since world) (Since world) (c_value setting calls frame first world steps) _ (value_since first both_quiet.0 world steps held) (λ one now left since.
        truth_since world now place one _ (λ truth more. or_since world now type place one (λ later rest. c_value setting calls frame second later rest) since (λ rest. value_since second both_quiet.1 now rest since.kept.held) truth more) left)
    form_since type place (cond test first second) quiet world steps held =
        let outer = and_parts (calls_nothing test && calls_nothing first) (calls_nothing second) quiet in
        let inner = and_parts (calls_nothing test) (calls_nothing first) outer.0 in
        end_bind (Since world) (Since world) (c_value setting calls frame test world steps) _ (value_since test inner.0 world steps held) (λ one now left since.
        truth_since world now place one _ (λ truth more.
        part_since world now one (λ later rest. c_value setting calls frame first later rest) (λ later rest. c_value setting calls frame second later rest) since (λ rest. value_since first inner.1 now rest since.kept.held) (λ rest. value_since second outer.1 now rest since.kept.held) truth more) left)
    form_since type place (comma first second) quiet world steps held =
        let both_quiet = and_parts (calls_nothing first) (calls_nothing second) quiet in
        end_bind (Since world) (Since world) (c_value setting calls frame first world steps) _ (value_since first both_quiet.0 world steps held) (λ one now left since.
        tick_since (Since world) now _ left (λ more. carried_since world now (at_sequence_point one.marks) (λ later rest. c_value setting calls frame second later rest) since.kept.stays since.alone (λ rest. value_since second both_quiet.1 now rest since.kept.held) more))
    form_since type place (call callee args) quiet world steps held = absurd (cc (quiet))
    form_since type place (call_by callee args) quiet world steps held = absurd (cc (quiet))
    form_since type place (literal number puts) quiet world steps held =
        end_step (λ (one : CDone). Kept [] (blocks_of world) one.marks one.blocks) (Since world) place (literal_cleared setting frame (blocks_of world) number puts) _ world steps
        (literal_keeps setting frame (blocks_of world) number puts held) (λ one left kept.
        fill_since type number puts quiet world (with_memory one.blocks world) one.marks kept refl left)

    -- the puts of a compound literal that began in a world
    fill_since : (type : CTy) (number : ℕ) (puts : CPuts) → puts_call_nothing puts ≡ true → (before now : World) (marks : Marks) → Kept [] (blocks_of before) marks (blocks_of now) → now ≡ with_memory (blocks_of now) before → (steps : ℕ) →
        AtEnd (Since before) (c_fill setting calls frame type number puts marks now steps)
    fill_since type number no_puts quiet before now marks kept alone steps = record { kept = record { stays = kept.stays; covers = λ range avoids. refl; held = kept.held; value_held = tt }; alone = alone }
    fill_since type number (more_puts (put spot part value) others) quiet before now marks kept alone steps =
        let both_quiet = and_parts (calls_nothing value) (puts_call_nothing others) quiet in
        end_bind (Since now) (Since before) (c_value setting calls frame value now steps) _ (value_since value both_quiet.0 now steps kept.held) (λ operand later left since.
        end_step (λ (one : CStored). KeptSince [] (blocks_of now) one.value one.marks one.blocks) (Since before) (place_of value) (put_stored setting frame (blocks_of later) number spot part operand) _ later left
        (put_keeps setting frame [] (blocks_of now) (blocks_of later) number spot part operand (record { stays = since.kept.stays; covers = λ range avoids. refl; held = since.kept.held }) since.kept.value_held) (λ one more is.
        fill_since type number others both_quiet.1 before (with_memory one.blocks later) (marks_after_put marks one.marks)
        (record { stays = keeps_after marks.writes one.marks.writes (blocks_of before) (blocks_of now) one.blocks kept.stays is.stays; covers = λ range avoids. refl; held = is.held })
        (alone_with now later one.blocks since.alone ∙ alone_with before now one.blocks alone) more))

pub unwritten_stays : UnwrittenStays
unwritten_stays setting calls frame e before after operand steps left quiet held same =
    let since = subst (λ (piece : CRan COperand). AtEnd (Since before) piece) same (value_since setting calls frame e quiet before steps held) in
    record { stays = since.kept.stays; held = since.kept.held; memory_alone = since.alone }
