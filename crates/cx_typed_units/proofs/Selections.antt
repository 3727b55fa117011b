-- Statements that a condition controls: `if`, `while` and `do` (ISO C99, 6.8.4.1, 6.8.5.1, 6.8.5.2).
use Rattle.std.proofs.Common.{ℕ, List, [], ◌++◌, refl, sym, ap, ◌∙◌, arith}
use Rattle.cx_core.specs.Statements.{CBody, IsTypedStmtForm, within_loop, labels_in_else, objects_in, objects_in_else}
use Rattle.cx_core.specs.Trees.{CStmt, if_then, while, do_while, COtherwise}
use Rattle.cx_rules.specs.Lines.{own_line}
use Rattle.cx_rules.specs.Nodes.{controls_node}
use Rattle.cx_rules.specs.Operands.{COperand, value_of}
use Rattle.cx_rules.specs.Pieces.{at_line}
use Rattle.cx_rules.specs.Scope.{CScope, entered}
use Rattle.cx_rules.specs.UnitWalk.{CWhere, in_loop, labels_of, labels_of_else, literals_since}
use Rattle.cx_tree.specs.Trees.{ExprTree, StmtTree, If, While, Do, OptionStmtTree, no_stmt, some_stmt}
use Rattle.cx_typed.proofs.Goes.{go_gives, go_here_then, go_chain}
use Rattle.cx_typed.specs.Unbroken.{IsUnbroken}
use Rattle.cx_typed.specs.Walked.{ExprGoes}
use Rattle.cx_typed_units.proofs.Around.{place_on, place_entered}
use Rattle.cx_typed_units.proofs.Blocks.{literal_blocks, serves_of, all_on}
use Rattle.cx_typed_units.proofs.Conditions.{condition_is, go_begun, go_controls, go_tested}
use Rattle.cx_typed_units.proofs.Labels.{labels_none, labels_both, labels_from, labels_to}
use Rattle.cx_typed_units.proofs.Once.{once_none, once_both, once_turned, literals_once}
use Rattle.cx_typed_units.proofs.Stretches.{leads_itself, leads_on, backs_first, backs_second}
use Rattle.cx_typed_units.proofs.Valued.{IsValued, valued}
use Rattle.cx_typed_units.proofs.Whole.{go_scope, go_whole, scoped_goes, IsWhole, whole_is}
use Rattle.cx_typed_units.specs.Statements.{StandsIn, IsPlace, StmtGoes, IsScoped, IsElse, ElseGoes}
use Rattle.cx_typed_units.specs.Stretches.{Leads, DeclaresNone, Backs, IsHeldAt, AreIn}

pub none_on : (before middle after : CScope) → DeclaresNone before middle → DeclaresNone middle after → DeclaresNone before after
none_on before middle after first second name meant thing is = first name meant thing (second name meant thing is)

-- ---- `if` (6.8.4.1)

pub no_else_goes : ElseGoes no_stmt
no_else_goes opens where_is scope place = go_gives _ scope _ (record {
  good = place.good;
  leads = leads_itself opens scope;
  none = λ name meant thing is. is;
  adds = λ switchable. labels_none scope.body;
  labels_are = refl;
  numbers = once_none scope.next_object scope.next_object (omega arith);
  typed = λ body stands backs known. tt;
})

pub else_goes : (inner : StmtTree) → StmtGoes inner → ElseGoes (some_stmt inner)
else_goes inner first opens where_is scope place =
    go_chain _ _ _ _ scope (IsScoped opens where_is (labels_of inner) scope) _ (scoped_goes opens where_is inner scope first place) (λ one after held.
    go_gives _ after _ (record {
      good = held.good;
      leads = held.leads;
      none = held.none;
      adds = held.adds;
      labels_are = held.labels_are;
      numbers = held.numbers;
      typed = held.typed;
    }))

module _ (opens : List ℕ) (where_is : CWhere) (condition : ExprTree) (branch : StmtTree) (otherwise : OptionStmtTree) (lines : List ℕ) (scope : CScope) (place : IsPlace opens scope where_is)
    (test : COperand) (middle : CScope) (tested : IsValued opens condition (entered scope) test middle) (one : CStmt) (later : CScope) (first : IsScoped opens where_is (labels_of branch) middle one later)
    (other : COtherwise) (last : CScope) (second : IsElse opens where_is (labels_of_else otherwise) later other last) (unbroken : IsUnbroken last last.types (controls_node test)) where
  behind_leads : Leads opens middle last
  behind_leads = leads_on opens middle later last first.leads second.leads

  if_form : (body : CBody) → StandsIn where_is body → Backs body.home opens (entered scope) last → IsHeldAt body.home scope.declared
      → AreIn body.home.scope (literals_since scope middle) → IsTypedStmtForm body [] (literals_since scope middle) (if_then (value_of test) one other)
  if_form body stands backs known inside =
      let here = backs_first opens body.home (entered scope) middle last backs behind_leads in
      let behind = backs_second opens body.home (entered scope) middle last backs tested.leads in
      let held = all_on body.home (entered scope) middle tested.none known in (
        condition_is opens condition (entered scope) middle test tested last behind_leads (none_on middle later last first.none second.none) body.home (serves_of body.home opens (entered scope) middle here tested.defined known inside)
            backs.grows unbroken,
        first.typed body stands (backs_first opens body.home middle later last behind second.leads) held,
        second.typed body stands (backs_second opens body.home middle later last behind first.leads) (all_on body.home middle later first.none held),
      )

  if_is : IsWhole opens where_is (If condition branch otherwise lines) scope last (own_line lines) (literals_since scope middle) (if_then (value_of test) one other)
  if_is =
      whole_is opens where_is (If condition branch otherwise lines) scope place last (leads_on opens (entered scope) middle last tested.leads behind_leads) second.good (at_line last (own_line lines))
      (literals_since scope middle) (if_then (value_of test) one other)
      (λ switchable. labels_from middle.body scope.body last.body _ _ _ tested.body_is (labels_both middle.body later.body last.body _ _ _ _ _ _ (first.adds switchable) (second.adds switchable)))
      (ap (λ labels. labels ++ labels_in_else other) first.labels_are ∙ ap (λ labels. labels_of branch ++ labels) second.labels_are)
      (once_both scope.next_object middle.next_object last.next_object (literals_since scope middle) (objects_in one ++ objects_in_else other) (literals_once (entered scope) middle tested.is_expr.passes.numbers)
      (once_both middle.next_object later.next_object last.next_object (objects_in one) (objects_in_else other) first.numbers second.numbers))
      (λ home backs. literal_blocks home opens (entered scope) middle (backs_first opens home (entered scope) middle last backs behind_leads))
      if_form

pub if_goes : (condition : ExprTree) (branch : StmtTree) (otherwise : OptionStmtTree) (lines : List ℕ) → ExprGoes condition → StmtGoes branch → ElseGoes otherwise
    → StmtGoes (If condition branch otherwise lines)
if_goes condition branch otherwise lines h1 h2 h3 opens where_is scope place =
    go_tested opens condition _ _ scope _ h1 place.good (λ test middle tested.
    let inside = place_on opens where_is (entered scope) middle (place_entered opens where_is scope place) tested.leads tested.is_expr.good in
    go_chain _ _ _ _ middle (IsScoped opens where_is (labels_of branch) middle) _ (scoped_goes opens where_is branch middle h2 inside) (λ one later first.
    go_chain _ _ _ _ later (IsElse opens where_is (labels_of_else otherwise) later) _ (h3 opens where_is later (place_on opens where_is middle later inside first.leads first.good)) (λ other last second.
    go_controls _ test _ _ last _ (λ unbroken.
    go_whole scope (own_line lines) (if_then (value_of test) one other) (literals_since scope middle) last _
    (if_is opens where_is condition branch otherwise lines scope place test middle tested one later first other last second unbroken)))))

-- ---- `while` (6.8.5.1)

-- in a loop
pub place_loop : (opens : List ℕ) (where_is : CWhere) (scope : CScope) → IsPlace opens scope where_is → IsPlace opens scope (in_loop where_is)
place_loop opens where_is scope place = record {
  good = place.good;
  orderly = place.orderly;
  in_function = place.in_function;
  result = place.result;
  gives = place.gives;
}

pub stands_loop : (where_is : CWhere) (body : CBody) → StandsIn where_is body → StandsIn (in_loop where_is) (within_loop body)
stands_loop where_is body stands = record {
  result_is = stands.result_is;
  labels_are = stands.labels_are;
  in_loop_is = refl;
  in_switch_is = stands.in_switch_is;
  switchable = stands.switchable;
}

module _ (opens : List ℕ) (where_is : CWhere) (condition : ExprTree) (inner : StmtTree) (lines : List ℕ) (scope : CScope) (place : IsPlace opens scope where_is)
    (test : COperand) (middle : CScope) (tested : IsValued opens condition (entered scope) test middle) (one : CStmt) (last : CScope) (first : IsScoped opens (in_loop where_is) (labels_of inner) middle one last)
    (unbroken : IsUnbroken last last.types (controls_node test)) where
  while_form : (body : CBody) → StandsIn where_is body → Backs body.home opens (entered scope) last → IsHeldAt body.home scope.declared
      → AreIn body.home.scope (literals_since scope middle) → IsTypedStmtForm body [] (literals_since scope middle) (while (value_of test) one)
  while_form body stands backs known inside = (
    condition_is opens condition (entered scope) middle test tested last first.leads first.none body.home
        (serves_of body.home opens (entered scope) middle (backs_first opens body.home (entered scope) middle last backs first.leads) tested.defined known inside) backs.grows unbroken,
    first.typed (within_loop body) (stands_loop where_is body stands) (backs_second opens body.home (entered scope) middle last backs tested.leads) (all_on body.home (entered scope) middle tested.none known),
  )

  while_is : IsWhole opens where_is (While condition inner lines) scope last (own_line lines) (literals_since scope middle) (while (value_of test) one)
  while_is =
      whole_is opens where_is (While condition inner lines) scope place last (leads_on opens (entered scope) middle last tested.leads first.leads) first.good (at_line last (own_line lines))
      (literals_since scope middle) (while (value_of test) one)
      (λ switchable. labels_from middle.body scope.body last.body _ _ _ tested.body_is (first.adds switchable)) first.labels_are
      (once_both scope.next_object middle.next_object last.next_object (literals_since scope middle) (objects_in one) (literals_once (entered scope) middle tested.is_expr.passes.numbers) first.numbers)
      (λ home backs. literal_blocks home opens (entered scope) middle (backs_first opens home (entered scope) middle last backs first.leads))
      while_form

pub while_goes : (condition : ExprTree) (inner : StmtTree) (lines : List ℕ) → ExprGoes condition → StmtGoes inner → StmtGoes (While condition inner lines)
while_goes condition inner lines h1 h2 opens where_is scope place =
    go_tested opens condition _ _ scope _ h1 place.good (λ test middle tested.
    let inside = place_on opens where_is (entered scope) middle (place_entered opens where_is scope place) tested.leads tested.is_expr.good in
    go_chain _ _ _ _ middle (IsScoped opens (in_loop where_is) (labels_of inner) middle) _ (scoped_goes opens (in_loop where_is) inner middle h2 (place_loop opens where_is middle inside)) (λ one last first.
    go_controls _ test _ _ last _ (λ unbroken.
    go_whole scope (own_line lines) (while (value_of test) one) (literals_since scope middle) last _
    (while_is opens where_is condition inner lines scope place test middle tested one last first unbroken))))

-- ---- `do` (6.8.5.2)

module _ (opens : List ℕ) (where_is : CWhere) (inner : StmtTree) (condition : ExprTree) (lines : List ℕ) (scope : CScope) (place : IsPlace opens scope where_is)
    (one : CStmt) (middle : CScope) (first : IsScoped opens (in_loop where_is) (labels_of inner) (entered scope) one middle) (test : COperand) (last : CScope)
    (tested : IsValued opens condition middle test last) (unbroken : IsUnbroken last last.types (controls_node test)) where
  do_form : (body : CBody) → StandsIn where_is body → Backs body.home opens (entered scope) last → IsHeldAt body.home scope.declared
      → AreIn body.home.scope (literals_since middle last) → IsTypedStmtForm body [] (literals_since middle last) (do_while one (value_of test))
  do_form body stands backs known inside = (
    first.typed (within_loop body) (stands_loop where_is body stands) (backs_first opens body.home (entered scope) middle last backs tested.leads) known,
    condition_is opens condition middle last test tested last (leads_itself opens last) (λ name meant thing is. is) body.home
        (serves_of body.home opens middle last (backs_second opens body.home (entered scope) middle last backs first.leads) tested.defined (all_on body.home (entered scope) middle first.none known) inside)
        backs.grows unbroken,
  )

  do_is : IsWhole opens where_is (Do inner condition lines) scope last (own_line lines) (literals_since middle last) (do_while one (value_of test))
  do_is =
      whole_is opens where_is (Do inner condition lines) scope place last (leads_on opens (entered scope) middle last first.leads tested.leads) tested.is_expr.good (at_line last (own_line lines))
      (literals_since middle last) (do_while one (value_of test))
      (λ switchable. labels_to scope.body middle.body last.body _ _ _ (sym tested.body_is) (first.adds switchable)) first.labels_are
      (once_turned scope.next_object middle.next_object last.next_object (objects_in one) (literals_since middle last) first.numbers (literals_once middle last tested.is_expr.passes.numbers))
      (λ home backs. literal_blocks home opens middle last (backs_second opens home (entered scope) middle last backs first.leads))
      do_form

pub do_goes : (inner : StmtTree) (condition : ExprTree) (lines : List ℕ) → StmtGoes inner → ExprGoes condition → StmtGoes (Do inner condition lines)
do_goes inner condition lines h1 h2 opens where_is scope place =
    go_scope _ _ scope _ (go_chain _ _ _ _ (entered scope) (IsScoped opens (in_loop where_is) (labels_of inner) (entered scope)) _
    (scoped_goes opens (in_loop where_is) inner (entered scope) h1 (place_loop opens where_is (entered scope) (place_entered opens where_is scope place))) (λ one middle first.
    go_here_then _ _ middle _ (go_chain _ _ _ _ middle (IsValued opens condition middle) _ (valued opens condition middle h2 first.good) (λ test last tested.
    go_begun middle test _ _ last _
    (go_controls _ test _ _ last _ (λ unbroken.
    go_whole scope (own_line lines) (do_while one (value_of test)) (literals_since middle last) last _
    (do_is opens where_is inner condition lines scope place one middle first test last tested unbroken)))))))
