-- `switch` (ISO C99, 6.8.4.2).
use Rattle.std.proofs.Common.{◌≡◌, ℕ, ℤ, zero, suc, ◌<◌, ◌≤◌, ◌+◌, Bool, true, false, ◌||◌, List, [], ◌∷◌, length, Option, Some, option_map, slice_get, refl, sym, ap, ◌∙◌, subst, arith}
use Rattle.std.proofs.lemmas.Bool.Decides.{Decides-int_eq}
use Rattle.std.specs.Ordering.{int_eq}
use Rattle.cx_core.specs.Conversions.{basic_of, basic_of_enum, IsPromoted}
use Rattle.cx_core.specs.Statements.{CBody, IsSwitch, IsTypedStmtForm, within_switch, labels_in, defaults_in, objects_in}
use Rattle.cx_core.specs.Trees.{CTy, ty, CTyForm, void, basic, enum_type, pointer, array, record_type, function, form_of_type, CTypes, CStmt, switch, type_of}
use Rattle.cx_core.specs.ValidTypes.{IsTypeIn, AreTypes}
use Rattle.cx_rules.proofs.UnitNodesAgree.{s_switch_begins, s_whole_ends}
use Rattle.cx_rules.specs.Lines.{own_line}
use Rattle.cx_rules.specs.Nodes.{switch_node}
use Rattle.cx_rules.specs.Operands.{COperand, value_type, width_of_operand, gives_nothing, holds_nothing, promoted_type, promoted_value}
use Rattle.cx_rules.specs.Pieces.{at_line}
use Rattle.cx_rules.specs.Readings.{Seen, seen_gives, seen_chain, seen_here, seen_becomes}
use Rattle.cx_rules.specs.Scope.{CLabels, CScope, entered}
use Rattle.cx_rules.specs.Types.{is_integer}
use Rattle.cx_rules.specs.UnitWalk.{CWhere, CWithin, in_switch, labels_of, literals_since}
use Rattle.cx_tree.specs.Trees.{ExprTree, StmtTree, Switch}
use Rattle.cx_typed.proofs.Conversions.{promoted_found, promotes, IsConverted}
use Rattle.cx_typed.proofs.Goes.{go_here_then, go_chain, go_changed}
use Rattle.cx_typed.proofs.Promoted.{neither, not_not, promoted_there}
use Rattle.cx_typed.proofs.Scopes.{within}
use Rattle.cx_typed.proofs.Single.{no_less}
use Rattle.cx_typed.proofs.Values.{value_type_is}
use Rattle.cx_typed.specs.Growth.{Grows, IsSettledForm}
use Rattle.cx_typed.specs.Operands.{IsValueType}
use Rattle.cx_typed.specs.Scopes.{Serves}
use Rattle.cx_typed.specs.Unbroken.{IsUnbroken}
use Rattle.cx_typed.specs.Walked.{Ends, ExprGoes}
use Rattle.cx_typed_units.proofs.Around.{orderly_labels, with_labels, good_labels, leads_labels, leads_from_labels, backs_labels, backs_from_labels, place_on, place_entered}
use Rattle.cx_typed_units.proofs.Blocks.{literal_blocks, serves_of, all_on}
use Rattle.cx_typed_units.proofs.Conditions.{operand_later, go_tested}
use Rattle.cx_typed_units.proofs.Labels.{adds_none, labels_from}
use Rattle.cx_typed_units.proofs.Once.{once_both, literals_once}
use Rattle.cx_typed_units.proofs.Stretches.{leads_on, backs_first, backs_second}
use Rattle.cx_typed_units.proofs.Valued.{IsValued}
use Rattle.cx_typed_units.proofs.Whole.{go_whole, scoped_goes, IsWhole, whole_is}
use Rattle.cx_typed_units.specs.Labels.{count_of, AddsLabels}
use Rattle.cx_typed_units.specs.Statements.{StandsIn, IsPlace, IsStated, StmtGoes, IsScoped}
use Rattle.cx_typed_units.specs.Stretches.{Leads, Backs, IsHeldAt, AreIn}

-- ---- the promoted type doesn't change (6.3.1.1)

there_is : {X : Type 0} (xs : List X) (number : ℕ) → number < length xs → (x : X) × (slice_get xs number ≡ Some x)
there_is [] number more = absurd (omega (arith, more))
there_is (first ∷ xs) zero more = (first, refl)
there_is (first ∷ xs) (suc number) more = there_is xs number (omega (arith, more))

module _ (opens : List ℕ) (before after : CTypes) (grows : Grows opens before after) (are : AreTypes before) (unit : ℕ) where
  basic_same : (form : CTyForm) (is_const : Bool) → IsTypeIn before unit (ty form is_const) → IsSettledForm opens form → basic_of before form ≡ basic_of after form
  basic_same (enum_type number) is_const type_in settled =
      let inside : number < length before.enum_units = within before.enum_units number unit type_in in
      let same : length before.enum_units ≡ length before.enums = are.enum_units in
      let found = there_is before.enums number (omega (arith, inside, same)) in
      ap (option_map basic_of_enum) (found.1 ∙ sym (grows.enums number settled found.0 found.1))
  basic_same void is_const type_in settled = refl
  basic_same (basic which) is_const type_in settled = refl
  basic_same (pointer to) is_const type_in settled = refl
  basic_same (array element length) is_const type_in settled = refl
  basic_same (record_type number) is_const type_in settled = refl
  basic_same (function result params variadic) is_const type_in settled = refl

  promoted_by : (type : CTy) (bits : Option ℕ) → IsValueType opens before unit type → promoted_found type bits (basic_of before (form_of_type type)) ≡ promoted_found type bits (basic_of after (form_of_type type))
  promoted_by (ty form is_const) bits held = ap (promoted_found (ty form is_const) bits) (basic_same form is_const held.known.type_in held.known.settled)

-- ---- the walk

abbrev no_cases : CLabels → CLabels
no_cases labels = record labels { cases = []; has_default = false }

abbrev with_cases : CLabels → CLabels → CLabels
with_cases before labels = record labels { cases = before.cases; has_default = before.has_default }

go_switch : (where_is : CWhere) (test : COperand) (A : Type 0) (next : CWithin → Seen A) (scope : CScope) (Post : A → CScope → Type 0)
    → Ends (next (record { where_is = in_switch (promoted_type scope.types test) where_is; labels = scope.body })) (with_labels (no_cases scope.body) scope) Post
    → Ends (seen_chain CWithin A (s_switch_begins where_is test) next) scope Post
unfolding seen_chain seen_here seen_becomes seen_gives
go_switch where_is test A next scope Post held = record { ends = λ fine. held.ends fine }

pub place_switch : (opens : List ℕ) (where_is : CWhere) (type : CTy) (labels : CLabels) (scope : CScope) → IsPlace opens scope where_is → IsPlace opens (with_labels labels scope) (in_switch type where_is)
place_switch opens where_is type labels scope place = record {
  good = good_labels opens labels scope place.good;
  orderly = orderly_labels opens labels scope place.orderly;
  in_function = place.in_function;
  result = place.result;
  gives = place.gives;
}

none_defaults : (count : ℕ) → count ≡ count + 0
none_defaults count = omega arith

one_at_most : (defaults : ℕ) (found : Bool) → 0 + defaults ≡ count_of found → defaults ≤ 1
one_at_most defaults true is = let h : 0 + defaults ≡ 1 = is in omega (arith, h)
one_at_most defaults false is = let h : 0 + defaults ≡ 0 = is in omega (arith, h)

module _ (opens : List ℕ) (where_is : CWhere) (on : ExprTree) (inner : StmtTree) (lines : List ℕ) (scope : CScope) (place : IsPlace opens scope where_is)
    (test : COperand) (middle : CScope) (tested : IsValued opens on (entered scope) test middle) (one : CStmt) (last : CScope)
    (first : IsScoped opens (in_switch (promoted_type middle.types test) where_is) (labels_of inner) (with_labels (no_cases middle.body) middle) one last)
    (unbroken : IsUnbroken last last.types (switch_node test)) where
  first_leads : Leads opens middle last
  first_leads = leads_from_labels opens (no_cases middle.body) middle last first.leads

  switched : is_integer last.types (value_type test) ≡ true
  switched = not_not unbroken.k18

  holds : holds_nothing last.types test ≡ false
  holds = no_less (holds_nothing last.types test) (neither {a = gives_nothing test || false} {b = holds_nothing last.types test || false} (no_less _ unbroken.k10)).1

  same_promoted : promoted_type middle.types test ≡ promoted_type last.types test
  same_promoted =
      promoted_by opens middle.types last.types first_leads.declares.grows tested.is_expr.good.sound.types_are middle.unit (value_type test) (width_of_operand test)
      (value_type_is opens middle.types middle.unit test tested.is_expr.known)

  promoted_there_is : IsPromoted (promoted_type middle.types test)
  promoted_there_is =
      let made = promotes last.types (value_type test) (width_of_operand test) switched in
      subst IsPromoted (sym (same_promoted ∙ made.promoted_to)) (made.is_promoted, refl)

  own_adds : AddsLabels middle.body (with_cases middle.body last.body) (labels_in one) [] 0
  own_adds = record {
    labels_added = (first.adds promoted_there_is).labels_added;
    cases_added = adds_none ℤ int_eq Decides-int_eq middle.body.cases;
    defaults_added = sym (none_defaults (count_of middle.body.has_default));
  }

  module _ (body : CBody) (stands : StandsIn where_is body) (backs : Backs body.home opens (entered scope) last) (known : IsHeldAt body.home scope.declared)
      (inside : AreIn body.home.scope (literals_since scope middle)) where
    serves : Serves body.home opens (entered scope) middle
    serves = serves_of body.home opens (entered scope) middle (backs_first opens body.home (entered scope) middle last backs first_leads) tested.defined known inside

    made : IsConverted body.home (promoted_type last.types test) (promoted_value last.types test) × IsPromoted (promoted_type last.types test)
    made =
        promoted_there opens last.types body.home backs.grows test (operand_later opens on (entered scope) middle test tested last first_leads first.none body.home serves backs.grows) holds switched
        (tested.is_expr.typed body.home serves)

    switch_is : IsSwitch (type_of (promoted_value last.types test)) one
    switch_is = record {
      promoted = subst IsPromoted (sym made.0.type_is) made.1;
      cases_differ = (first.adds promoted_there_is).cases_added.differ;
      one_default = one_at_most (defaults_in one) last.body.has_default (first.adds promoted_there_is).defaults_added;
    }

    stands_switch : StandsIn (in_switch (promoted_type middle.types test) where_is) (within_switch (type_of (promoted_value last.types test)) body)
    stands_switch = record {
      result_is = stands.result_is;
      labels_are = stands.labels_are;
      in_loop_is = stands.in_loop_is;
      in_switch_is = ap {A = CTy} Some (made.0.type_is ∙ sym same_promoted);
      switchable = promoted_there_is;
    }

    switch_form : IsTypedStmtForm body [] (literals_since scope middle) (switch (promoted_value last.types test) one)
    switch_form = (
      made.0.typed,
      switch_is,
      first.typed (within_switch (type_of (promoted_value last.types test)) body) stands_switch
          (backs_from_labels opens (no_cases middle.body) body.home middle last (backs_second opens body.home (entered scope) middle last backs tested.leads))
          (all_on body.home (entered scope) middle tested.none known),
    )

  switched_is : IsWhole opens where_is (Switch on inner lines) scope (with_labels (with_cases middle.body last.body) last) (own_line lines) (literals_since scope middle)
      (switch (promoted_value last.types test) one)
  switched_is =
      whole_is opens where_is (Switch on inner lines) scope place (with_labels (with_cases middle.body last.body) last)
      (leads_labels opens (with_cases middle.body last.body) (entered scope) last (leads_on opens (entered scope) middle last tested.leads first_leads))
      (good_labels opens (with_cases middle.body last.body) last first.good) (at_line last (own_line lines)) (literals_since scope middle) (switch (promoted_value last.types test) one)
      (λ switchable. labels_from middle.body scope.body (with_cases middle.body last.body) _ _ _ tested.body_is own_adds) first.labels_are
      (once_both scope.next_object middle.next_object last.next_object (literals_since scope middle) (objects_in one) (literals_once (entered scope) middle tested.is_expr.passes.numbers) first.numbers)
      (λ home backs.
      literal_blocks home opens (entered scope) middle (backs_first opens home (entered scope) middle last (backs_labels opens (with_cases middle.body last.body) home (entered scope) last backs) first_leads))
      (λ body stands backs known inside. switch_form body stands (backs_labels opens (with_cases middle.body last.body) body.home (entered scope) last backs) known inside)

pub switch_goes : (on : ExprTree) (inner : StmtTree) (lines : List ℕ) → ExprGoes on → StmtGoes inner → StmtGoes (Switch on inner lines)
switch_goes on inner lines h1 h2 opens where_is scope place =
    go_tested opens on _ _ scope _ h1 place.good (λ test middle tested.
    let inside = place_on opens where_is (entered scope) middle (place_entered opens where_is scope place) tested.leads tested.is_expr.good in
    let type = promoted_type middle.types test in
    go_switch where_is test _ _ middle _ (go_chain _ _ _ _ (with_labels (no_cases middle.body) middle)
    (IsScoped opens (in_switch (promoted_type middle.types test) where_is) (labels_of inner) (with_labels (no_cases middle.body) middle)) _
    (scoped_goes opens (in_switch (promoted_type middle.types test) where_is) inner (with_labels (no_cases middle.body) middle) h2
    (place_switch opens where_is (promoted_type middle.types test) (no_cases middle.body) middle inside)) (λ one last first.
    go_chain _ _ _ _ last (λ value after.
    (IsUnbroken last last.types (switch_node test)) × (value ≡ promoted_value last.types test) × (after ≡ with_labels (with_cases middle.body last.body) last)) _
    (go_here_then _ _ last _ (go_changed _ last _ _ _ _ last _ (λ unbroken. (unbroken, refl, refl)))) (λ value after at.
    subst (λ later. Ends (s_whole_ends scope (own_line lines) (switch value one) (literals_since scope middle)) later (IsStated opens where_is (Switch on inner lines) scope)) (sym at.2)
    (subst (λ found. Ends (s_whole_ends scope (own_line lines) (switch found one) (literals_since scope middle)) (with_labels (with_cases middle.body last.body) last)
    (IsStated opens where_is (Switch on inner lines) scope)) (sym at.1)
    (go_whole scope (own_line lines) (switch (promoted_value last.types test) one) (literals_since scope middle) (with_labels (with_cases middle.body last.body) last) _
    (switched_is opens where_is on inner lines scope place test middle tested one last first at.0)))))))
