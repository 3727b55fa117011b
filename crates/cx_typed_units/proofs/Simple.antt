-- Labelled statements, expression statements and jumps (ISO C99, 6.8.1, 6.8.3, 6.8.6).
use Rattle.std.proofs.Common.{◌≡◌, ◌⊎◌, inl, inr, ℕ, zero, suc, ◌<◌, Bool, true, false, not, ◌&&◌, ◌||◌, if◌then◌else◌, List, [], ◌∷◌, ◌++◌, length, Option, None, Some, is_some, is_none, bytes_eq, refl, sym, ap, ◌∙◌, subst, arith}
use Rattle.std.proofs.lemmas.Slice.Eq.{bytes_eq-Decides}
use Rattle.std.specs.Prelude.{IsSome, IfSome}
use Rattle.std.specs.List.{Contains, list_any}
use Rattle.cr_base.specs.Scalar.{IsInRange}
use Rattle.cr_base.specs.declared.refusal.Place.{Place as TextPlace}
use Rattle.cx_core.specs.Conversions.{scalar_of, IsPromoted}
use Rattle.cx_core.specs.Statements.{CBody, IsReturn, IsTypedStmtForm, IsVoid, with_objects, labels_in_form, cases_in_form, defaults_in_form, objects_in, objects_in_form}
use Rattle.cx_core.specs.Trees.{CTy, CTypes, form_of_type, CExpr, CStmtForm, case, expression, goto, continue, break, returns}
use Rattle.cx_core.specs.Typing.{CHome}
use Rattle.cx_rules.proofs.UnitNodesAgree.{s_case_by, s_return_seen}
use Rattle.cx_rules.specs.Lines.{own_line, expr_line}
use Rattle.cx_rules.specs.Operands.{COperand, value_of, holds_nothing, gives_nothing, fitted}
use Rattle.cx_rules.specs.Pairs.{is_assignable}
use Rattle.cx_rules.specs.Pieces.{at_line}
use Rattle.cx_rules.specs.Nodes.{return_node}
use Rattle.cx_rules.specs.Rules.{case_value, not_case, not_constant}
use Rattle.cx_rules.specs.Scope.{CScope}
use Rattle.cx_rules.specs.Types.{is_void}
use Rattle.cx_rules.specs.UnitWalk.{CWhere, CStated, stated, labelled, case_number, labels_of, literals_since}
use Rattle.cx_tree.specs.Trees.{ExprTree, no_expr, some_expr, StmtTree, Label, Case, Default, ExprStmt, Goto, Continue, Break, Return}
use Rattle.cx_typed.proofs.Fitting.{fitted_is}
use Rattle.cx_typed.proofs.Goes.{go_gives, go_here_then, go_chain, go_settled, go_changed}
use Rattle.cx_typed.proofs.Growing.{complete_stays}
use Rattle.cx_typed.proofs.Promoted.{neither, not_not}
use Rattle.cx_typed.proofs.Single.{no_less}
use Rattle.cx_typed.proofs.Values.{value_type_is}
use Rattle.cx_typed.specs.Operands.{IsKnownType, IsOperandType}
use Rattle.cx_typed.specs.Scopes.{Serves}
use Rattle.cx_typed.specs.Unbroken.{IsUnbroken}
use Rattle.cx_typed.specs.Walked.{Ends, ExprGoes}
use Rattle.cx_typed_units.proofs.Around.{good_labels, leads_labels, backs_labels, place_on, stands_inside}
use Rattle.cx_typed_units.proofs.Blocks.{literal_blocks, serves_of, all_inside, all_on}
use Rattle.cx_typed_units.proofs.Once.{once_none, once_later, plain_once, literals_once}
use Rattle.cx_typed_units.proofs.Labels.{labels_none, label_more, case_more, default_more}
use Rattle.cx_typed_units.proofs.Ranges.{case_is}
use Rattle.cx_typed_units.proofs.Stretches.{home_in, leads_itself, leads_on, backs_second, backs_in}
use Rattle.cx_typed_units.proofs.Valued.{IsValued, valued, value_served, IsDropped, dropped_goes, void_form}
use Rattle.cx_typed_units.specs.Labels.{AddsLabels, AddsOf}
use Rattle.cx_typed_units.specs.Once.{AreOnce}
use Rattle.cx_typed_units.specs.Statements.{IsSwitchable, StandsIn, IsPlace, IsStated, StmtGoes}
use Rattle.cx_typed_units.specs.Stretches.{DeclaresNone}

none_on : (before middle after : CScope) → DeclaresNone before middle → DeclaresNone middle after → DeclaresNone before after
none_on before middle after first second name meant thing is = first name meant thing (second name meant thing is)

-- ---- labels (6.8.1)

pub label_goes : (name : List ℕ) (inner : StmtTree) (lines : List ℕ) → StmtGoes inner → StmtGoes (Label name inner lines)
label_goes name inner lines first opens where_is scope place =
    go_chain _ _ _ _ scope (IsStated opens where_is inner scope) _ (first opens where_is scope place) (λ one after held.
    go_here_then _ _ after _ (go_changed _ after _ _ _ _ after _ (λ unbroken. record {
      good = good_labels opens _ after held.good;
      leads = leads_labels opens _ scope after held.leads;
      none = held.none;
      adds = λ switchable. label_more scope.body after.body name _ _ _ (held.adds switchable) unbroken.k19;
      labels_are = ap (λ labels. name ∷ labels) held.labels_are;
      apart = inr refl;
      numbers = held.numbers;
      blocks = λ home backs. held.blocks home (backs_labels opens _ home scope after backs);
      typed = λ body stands backs known inside. (
        tt,
        held.typed (with_objects [] body) (stands_inside where_is body [] stands) (backs_in opens body.home [] scope after (backs_labels opens _ body.home scope after backs))
            (all_inside body.home [] scope.declared known) inside,
      );
    })))

default_of : (found : Option CTy) (before : Bool) → (is_none found || before) ≡ false → IsSome found × (before ≡ false)
default_of None before is = absurd cc
default_of (Some type) before is = (refl, is)

pub default_goes : (inner : StmtTree) (lines : List ℕ) → StmtGoes inner → StmtGoes (Default inner lines)
default_goes inner lines first opens where_is scope place =
    go_chain _ _ _ _ scope (IsStated opens where_is inner scope) _ (first opens where_is scope place) (λ one after held.
    go_here_then _ _ after _ (go_changed _ after _ _ _ _ after _ (λ unbroken.
    let found = default_of where_is.in_switch after.body.has_default unbroken.k18 in
    record {
      good = good_labels opens _ after held.good;
      leads = leads_labels opens _ scope after held.leads;
      none = held.none;
      adds = λ switchable. default_more scope.body after.body _ _ _ (held.adds switchable) found.1;
      labels_are = held.labels_are;
      apart = inr refl;
      numbers = held.numbers;
      blocks = λ home backs. held.blocks home (backs_labels opens _ home scope after backs);
      typed = λ body stands backs known inside. (
        tt,
        (
          subst IsSome (sym stands.in_switch_is) found.0,
          held.typed (with_objects [] body) (stands_inside where_is body [] stands) (backs_in opens body.home [] scope after (backs_labels opens _ body.home scope after backs))
              (all_inside body.home [] scope.declared known) inside,
        ),
      );
    })))

module _ (opens : List ℕ) (where_is : CWhere) (value : ExprTree) (inner : StmtTree) (lines : List ℕ) (scope middle after : CScope) (number : COperand)
    (tested : IsValued opens value scope number middle) (one : CStated) (held : IsStated opens where_is inner middle one after) where
  promoted_by : (type : CTy) → where_is.in_switch ≡ Some type → IsSwitchable where_is → IsPromoted type
  promoted_by type is switchable = subst (λ found. IfSome found IsPromoted) is switchable

  case_with : (type : CTy) → where_is.in_switch ≡ Some type → not_constant after.types number ≡ false → not_case after.types (Some type) number after.body.cases ≡ false
      → IsStated opens where_is (Case value inner lines) scope (labelled (at_line after (own_line lines)) (case (case_number (case_value after.types type number))) one)
      (record after { body = record after.body { cases = case_number (case_value after.types type number) ∷ after.body.cases } })
  case_with type is some fresh = record {
    good = good_labels opens _ after held.good;
    leads = leads_labels opens _ scope after (leads_on opens scope middle after tested.leads held.leads);
    none = none_on scope middle after tested.none held.none;
    adds = λ switchable.
        case_more scope.body after.body _ _ _ _ (subst (λ labels. AddsOf labels after.body one.stmt) tested.body_is (held.adds switchable))
        (case_is after.types after.types type number after.body.cases (promoted_by type is switchable) some fresh).fresh;
    labels_are = held.labels_are;
    apart = inr refl;
    numbers = once_later scope.next_object middle.next_object after.next_object (one.objects ++ objects_in one.stmt) tested.is_expr.passes.numbers.grows held.numbers;
    blocks = λ home backs. held.blocks home (backs_second opens home scope middle after (backs_labels opens _ home scope after backs) tested.leads);
    typed = λ body stands backs known inside.
        let made = case_is after.types body.home.program.types type number after.body.cases (promoted_by type is stands.switchable) some fresh in
        let here = backs_second opens body.home scope middle after (backs_labels opens _ body.home scope after backs) tested.leads in (
          tt,
          (
            subst (λ found. IsSome found × IfSome found (λ t. IfSome (scalar_of body.home.program.types (form_of_type t)) (λ scalar. IsInRange scalar (case_number (case_value after.types type number)))))
                (sym (stands.in_switch_is ∙ is)) (refl, made.in_range),
            held.typed (with_objects [] body) (stands_inside where_is body [] stands) (backs_in opens body.home [] middle after here)
                (all_inside body.home [] middle.declared (all_on body.home scope middle tested.none known)) inside,
          ),
        );
  }

  case_as : (found : Option CTy) → where_is.in_switch ≡ found
      → Ends (s_case_by where_is (own_line lines) number one after found) after (IsStated opens where_is (Case value inner lines) scope)
  case_as None is = go_changed _ after _ _ _ _ after _ (λ unbroken.
      absurd (let h : true ≡ false = subst (λ found. not_case after.types found number after.body.cases ≡ false) is unbroken.k18 in cc))
  case_as (Some type) is = go_changed _ after _ _ _ _ after _ (λ unbroken.
      case_with type is unbroken.k17 (subst (λ found. not_case after.types found number after.body.cases ≡ false) is unbroken.k18))

pub case_goes : (value : ExprTree) (inner : StmtTree) (lines : List ℕ) → ExprGoes value → StmtGoes inner → StmtGoes (Case value inner lines)
case_goes value inner lines first second opens where_is scope place =
    go_chain _ _ _ _ scope (IsValued opens value scope) _ (valued opens value scope first place.good) (λ number middle tested.
    go_chain _ _ _ _ middle (IsStated opens where_is inner middle) _ (second opens where_is middle (place_on opens where_is scope middle place tested.leads tested.is_expr.good)) (λ one after held.
    go_here_then _ _ after _ (case_as opens where_is value inner lines scope middle after number tested one held where_is.in_switch refl)))

-- ---- expression statements (6.8.3)

pub null_goes : (lines : List ℕ) → StmtGoes (ExprStmt no_expr lines)
null_goes lines opens where_is scope place = go_here_then _ _ scope _ (go_gives _ scope _ (record {
  good = place.good;
  leads = leads_itself opens scope;
  none = λ name meant thing is. is;
  adds = λ switchable. labels_none scope.body;
  labels_are = refl;
  apart = inr refl;
  numbers = once_none scope.next_object scope.next_object (omega arith);
  blocks = λ home backs. tt;
  typed = λ body stands backs known inside. (tt, tt);
}))

module _ (opens : List ℕ) (where_is : CWhere) (value : ExprTree) (lines : List ℕ) (scope : CScope) (one : CExpr) (after : CScope) (held : IsDropped opens scope one after) where
  pub expression_is : IsStated opens where_is (ExprStmt (some_expr value) lines) scope (stated (at_line after (expr_line value)) (expression (Some one)) (literals_since scope after)) after
  expression_is = record {
    good = held.good;
    leads = held.leads;
    none = held.none;
    adds = λ switchable. subst (λ labels. AddsLabels scope.body labels [] [] 0) (sym held.body_is) (labels_none scope.body);
    labels_are = refl;
    apart = inr refl;
    numbers = plain_once scope.next_object after.next_object (literals_since scope after) (literals_once scope after held.passes.numbers);
    blocks = λ home backs. literal_blocks home opens scope after backs;
    typed = λ body stands backs known inside. (
      tt,
      held.typed (home_in [] body.home)
          (serves_of (home_in [] body.home) opens scope after (backs_in opens body.home [] scope after backs) held.defined (all_inside body.home [] scope.declared known) inside),
    );
  }

pub expression_goes : (value : ExprTree) (lines : List ℕ) → ExprGoes value → StmtGoes (ExprStmt (some_expr value) lines)
expression_goes value lines first opens where_is scope place =
    go_here_then _ _ scope _ (go_chain _ _ _ _ scope (IsDropped opens scope) _ (dropped_goes opens value scope first place.good) (λ one after held.
    go_here_then _ _ after _ (go_gives _ after _ (expression_is opens where_is value lines scope one after held))))

-- ---- jumps (6.8.6)

found_first : (name first : List ℕ) (others : List (List ℕ)) (same : Bool) → bytes_eq name first ≡ same → (same || list_any (bytes_eq name) others) ≡ true
    → (list_any (bytes_eq name) others ≡ true → Contains others name) → Contains (first ∷ others) name
found_first name first others true e is more = (zero, omega arith, sym ((bytes_eq-Decides name first).0 e))
found_first name first others false e is more = let later = more is in let h : later.0 < length others = later.1 in (suc later.0, omega (arith, h), later.2)

named_in : (name : List ℕ) (labels : List (List ℕ)) → list_any (bytes_eq name) labels ≡ true → Contains labels name
named_in name [] is = absurd cc
named_in name (first ∷ others) is = found_first name first others (bytes_eq name first) refl is (named_in name others)

-- a statement that has no parts
module _ (opens : List ℕ) (where_is : CWhere) (tree : StmtTree) (scope : CScope) (place : IsPlace opens scope where_is) (at : TextPlace) (form : CStmtForm) where
  pub alone_is : labels_of tree ≡ [] → labels_in_form form ≡ [] → cases_in_form form ≡ [] → defaults_in_form form ≡ 0 → objects_in_form form ≡ []
      → ((body : CBody) → StandsIn where_is body → IsTypedStmtForm (with_objects [] body) [] [] form) → IsStated opens where_is tree scope (stated at form []) scope
  alone_is tree_is labels cases defaults objects typed = record {
    good = place.good;
    leads = leads_itself opens scope;
    none = λ name meant thing is. is;
    adds = λ switchable.
        subst (λ l. AddsLabels scope.body scope.body l (cases_in_form form) (defaults_in_form form)) (sym labels)
        (subst (λ c. AddsLabels scope.body scope.body [] c (defaults_in_form form)) (sym cases) (subst (λ d. AddsLabels scope.body scope.body [] [] d) (sym defaults) (labels_none scope.body)));
    labels_are = labels ∙ sym tree_is;
    apart = inr refl;
    numbers = subst (AreOnce scope.next_object scope.next_object) (sym objects) (once_none scope.next_object scope.next_object (omega arith));
    blocks = λ home backs. tt;
    typed = λ body stands backs known inside. (tt, typed body stands);
  }

pub goto_goes : (name lines : List ℕ) → StmtGoes (Goto name lines)
goto_goes name lines opens where_is scope place =
    go_here_then _ _ scope _ (go_settled _ scope _ _ _ scope _ (λ unbroken.
    alone_is opens where_is (Goto name lines) scope place _ (goto name) refl refl refl refl refl
    (λ body stands. subst (λ labels. Contains labels name) (sym stands.labels_are) (named_in name where_is.labels (not_not unbroken.k19)))))

pub continue_goes : (lines : List ℕ) → StmtGoes (Continue lines)
continue_goes lines opens where_is scope place =
    go_here_then _ _ scope _ (go_settled _ scope _ _ _ scope _ (λ unbroken.
    alone_is opens where_is (Continue lines) scope place _ continue refl refl refl refl refl (λ body stands. stands.in_loop_is ∙ not_not unbroken.k18)))

inside_of : (in_loop : Bool) (in_switch : Option CTy) → (in_loop || is_some in_switch) ≡ true → (in_loop ≡ true) ⊎ IsSome in_switch
inside_of true in_switch is = inl refl
inside_of false in_switch is = inr is

pub break_goes : (lines : List ℕ) → StmtGoes (Break lines)
break_goes lines opens where_is scope place =
    go_here_then _ _ scope _ (go_settled _ scope _ _ _ scope _ (λ unbroken.
    alone_is opens where_is (Break lines) scope place _ break refl refl refl refl refl
    (λ body stands.
    subst (λ in_loop. (in_loop ≡ true) ⊎ IsSome body.in_switch) (sym stands.in_loop_is)
    (subst (λ in_switch. (where_is.in_loop ≡ true) ⊎ IsSome in_switch) (sym stands.in_switch_is) (inside_of where_is.in_loop where_is.in_switch (not_not unbroken.k18))))))

-- ---- `return` (6.8.6.4)

returned_holds : (types : CTypes) (value : COperand) (nothing : Bool) → nothing ≡ false
    → ((list_any gives_nothing (if nothing then [] else value ∷ []) || list_any (holds_nothing types) ((if nothing then [] else value ∷ []) ++ (if nothing then value ∷ [] else []))) || false) ≡ false
    → holds_nothing types value ≡ false
returned_holds types value true some is = absurd cc
returned_holds types value false some is = no_less (holds_nothing types value) (neither {a = gives_nothing value || false} {b = holds_nothing types value || false} (no_less _ is)).1

assignable_by : (nothing refused : Bool) → nothing ≡ false → (not nothing && not refused) ≡ false → refused ≡ true
assignable_by true refused some is = absurd cc
assignable_by false refused some is = not_not is

module _ (opens : List ℕ) (where_is : CWhere) (tree : ExprTree) (lines : List ℕ) (scope : CScope) (place : IsPlace opens scope where_is) (value : COperand) (after : CScope)
    (held : IsValued opens tree scope value after) (unbroken : IsUnbroken after after.types (return_node where_is.result (Some value))) where
  returns_in : (home : CHome) → Serves home opens scope after → IsReturn home where_is.result (Some (fitted after.types where_is.result (value_of value)))
  returns_in home serves =
      let unit_is : after.unit ≡ home.unit = held.leads.declares.unit_is ∙ sym serves.unit_is in
      let later = place_on opens where_is scope after place held.leads held.is_expr.good in
      let known = subst (λ unit. IsKnownType opens after.types unit where_is.result) unit_is later.result in
      let operand = subst (λ unit. IsOperandType opens after.types unit value) unit_is held.is_expr.known in
      let made = fitted_is opens after.types home serves.grows where_is.result (value_of value) known (value_type_is opens after.types home.unit value operand)
      (assignable_by (is_void where_is.result) (is_assignable after.types where_is.result (value_of value)) unbroken.k20 unbroken.k12)
      (value_served opens tree scope after value held.is_expr (returned_holds after.types value (is_void where_is.result) unbroken.k20 unbroken.k10) home serves) in
      (made.typed, complete_stays opens after.types home.program.types serves.grows where_is.result (later.gives unbroken.k20), made.type_is)

  value_returned : IsStated opens where_is (Return (some_expr tree) lines) scope
      (stated (at_line after (own_line lines)) (returns (Some (fitted after.types where_is.result (value_of value)))) (literals_since scope after)) after
  value_returned = record {
    good = held.is_expr.good;
    leads = held.leads;
    none = held.none;
    adds = λ switchable. subst (λ labels. AddsLabels scope.body labels [] [] 0) (sym held.body_is) (labels_none scope.body);
    labels_are = refl;
    apart = inr refl;
    numbers = plain_once scope.next_object after.next_object (literals_since scope after) (literals_once scope after held.is_expr.passes.numbers);
    blocks = λ home backs. literal_blocks home opens scope after backs;
    typed = λ body stands backs known inside. (
      tt,
      subst (λ result. IsReturn (home_in [] body.home) result (Some (fitted after.types where_is.result (value_of value)))) (sym stands.result_is)
          (returns_in (home_in [] body.home)
          (serves_of (home_in [] body.home) opens scope after (backs_in opens body.home [] scope after backs) held.defined (all_inside body.home [] scope.declared known) inside)),
    );
  }

pub return_goes : (lines : List ℕ) → StmtGoes (Return no_expr lines)
return_goes lines opens where_is scope place =
    go_here_then _ _ scope _ (go_chain _ _ _ _ scope (λ value after. (value ≡ None) × (after ≡ scope)) _ (go_gives _ scope _ (refl, refl)) (λ value after is.
    subst (λ other. Ends (s_return_seen where_is scope (own_line lines) value) other (IsStated opens where_is (Return no_expr lines) scope)) (sym is.1)
    (subst (λ found. Ends (s_return_seen where_is scope (own_line lines) found) scope (IsStated opens where_is (Return no_expr lines) scope)) (sym is.0)
    (go_here_then _ _ scope _ (go_settled _ scope _ _ _ scope _ (λ unbroken.
    alone_is opens where_is (Return no_expr lines) scope place _ (returns None) refl refl refl refl refl
    (λ body stands. subst IsVoid (sym stands.result_is) (void_form where_is.result (not_not unbroken.k20)))))))))

record IsGivenBack (opens : List ℕ) (tree : ExprTree) (before : CScope) (found : Option COperand) (after : CScope) : Type 0 where
  value : COperand
  found_is : found ≡ Some value
  held : IsValued opens tree before value after

pub return_value_goes : (tree : ExprTree) (lines : List ℕ) → ExprGoes tree → StmtGoes (Return (some_expr tree) lines)
return_value_goes tree lines first opens where_is scope place =
    go_here_then _ _ scope _ (go_chain _ _ _ _ scope (IsGivenBack opens tree scope) _
    (go_chain _ _ _ _ scope (IsValued opens tree scope) _ (valued opens tree scope first place.good) (λ value after held. go_gives _ after _ (record { value = value; found_is = refl; held = held })))
    (λ found after back.
    subst (λ one. Ends (s_return_seen where_is scope (own_line lines) one) after (IsStated opens where_is (Return (some_expr tree) lines) scope)) (sym back.found_is)
    (go_here_then _ _ after _ (go_settled _ after _ _ _ after _ (λ unbroken. value_returned opens where_is tree lines scope place back.value after back.held unbroken)))))
