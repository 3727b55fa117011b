-- What stands in blocks, and blocks (ISO C99, 6.8.2).
use Rattle.std.proofs.Common.{◌≡◌, ℕ, ◌+◌, List, [], ◌∷◌, ◌++◌, refl, sym, ap, ◌∙◌, subst, append_assoc, append-nil, arith}
use Rattle.cx_core.specs.Statements.{CBody, AreTypedStmts, labels_in, labels_in_list, cases_in, cases_in_list, defaults_in, defaults_in_list, objects_in}
use Rattle.cx_core.specs.Trees.{CStmt, stmt, label, case, default, block, expression, if_then, switch, while, do_while, for_loop, goto, continue, break, returns, begin, no_stmts, more_stmts}
use Rattle.cx_rules.specs.declared.kinds.SpecsPlace.TheVariants.{Block as InBlock}
use Rattle.cx_rules.specs.Lines.{own_line}
use Rattle.cx_rules.specs.Pieces.{at_line}
use Rattle.cx_rules.specs.Scope.{CLabels, CScope, entered}
use Rattle.cx_rules.specs.UnitWalk.{CWhere, CMeant, CStated, stmts_of, as_meant, nothing_meant, meant_behind, labels_of, labels_of_item, labels_of_items}
use Rattle.cx_tree.specs.Trees.{DeclTree, StmtTree, Block, ItemTree, Statement, Declared, ItemTrees, no_items, more_items}
use Rattle.cx_typed.proofs.Goes.{go_gives, go_chain}
use Rattle.cx_typed_units.proofs.Around.{place_on, place_entered}
use Rattle.cx_typed_units.proofs.Blocks.{are_both, are_itself, blocks_joined, all_on}
use Rattle.cx_typed_units.proofs.Labels.{labels_none, labels_both}
use Rattle.cx_typed_units.proofs.Once.{once_none, plain_once, items_once, begun_none}
use Rattle.cx_typed_units.proofs.Stretches.{leads_itself, leads_on, backs_first, backs_second}
use Rattle.cx_typed_units.proofs.Whole.{go_scope, go_whole, whole_is, none_also, stmt_also}
use Rattle.cx_typed_units.specs.Labels.{AddsLabels, AddsOfList}
use Rattle.cx_typed_units.specs.Once.{AreOnce}
use Rattle.cx_typed_units.specs.Statements.{IsPlace, IsStated, StmtGoes, AreItems, ItemGoes, ItemsGo, AreBegun, IsDeclaration, DeclGoes}

-- ---- statements one behind another

labels_joined : (some more : List CStmt) → labels_in_list (stmts_of (some ++ more)) ≡ labels_in_list (stmts_of some) ++ labels_in_list (stmts_of more)
labels_joined [] more = refl
labels_joined (one ∷ some) more =
    ap (λ labels. labels_in one ++ labels) (labels_joined some more) ∙ sym (append_assoc (labels_in one) (labels_in_list (stmts_of some)) (labels_in_list (stmts_of more)))

cases_joined : (some more : List CStmt) → cases_in_list (stmts_of (some ++ more)) ≡ cases_in_list (stmts_of some) ++ cases_in_list (stmts_of more)
cases_joined [] more = refl
cases_joined (one ∷ some) more =
    ap (λ cases. cases_in one ++ cases) (cases_joined some more) ∙ sym (append_assoc (cases_in one) (cases_in_list (stmts_of some)) (cases_in_list (stmts_of more)))

defaults_joined : (some more : List CStmt) → defaults_in_list (stmts_of (some ++ more)) ≡ defaults_in_list (stmts_of some) + defaults_in_list (stmts_of more)
defaults_joined [] more = omega arith
defaults_joined (one ∷ some) more = let h : defaults_in_list (stmts_of (some ++ more)) ≡ defaults_in_list (stmts_of some) + defaults_in_list (stmts_of more) = defaults_joined some more in omega (arith, h)

pub typed_joined : (body : CBody) (declares : List ℕ) (some more : List CStmt) → AreTypedStmts body declares (stmts_of some) → AreTypedStmts body declares (stmts_of more)
    → AreTypedStmts body declares (stmts_of (some ++ more))
typed_joined body declares [] more first second = second
typed_joined body declares (one ∷ some) more first second = (first.0, typed_joined body declares some more first.1 second)

adds_joined : (before after : CLabels) (some more : List CStmt)
    → AddsLabels before after (labels_in_list (stmts_of some) ++ labels_in_list (stmts_of more)) (cases_in_list (stmts_of some) ++ cases_in_list (stmts_of more))
    (defaults_in_list (stmts_of some) + defaults_in_list (stmts_of more)) → AddsOfList before after (stmts_of (some ++ more))
adds_joined before after some more held =
    subst (λ l. AddsLabels before after l (cases_in_list (stmts_of (some ++ more))) (defaults_in_list (stmts_of (some ++ more)))) (sym (labels_joined some more))
    (subst (λ c. AddsLabels before after (labels_in_list (stmts_of some) ++ labels_in_list (stmts_of more)) c (defaults_in_list (stmts_of (some ++ more)))) (sym (cases_joined some more))
    (subst (λ d. AddsLabels before after (labels_in_list (stmts_of some) ++ labels_in_list (stmts_of more)) (cases_in_list (stmts_of some) ++ cases_in_list (stmts_of more)) d)
    (sym (defaults_joined some more)) held))

-- one statement
adds_alone : (before after : CLabels) (one : CStmt) → AddsLabels before after (labels_in one) (cases_in one) (defaults_in one) → AddsOfList before after (more_stmts one no_stmts)
adds_alone before after one held =
    let e : defaults_in one ≡ defaults_in one + 0 = omega arith in
    subst (λ l. AddsLabels before after l (cases_in one ++ []) (defaults_in one + 0)) (sym (append-nil (labels_in one)))
    (subst (λ c. AddsLabels before after (labels_in one) c (defaults_in one + 0)) (sym (append-nil (cases_in one))) (subst (λ d. AddsLabels before after (labels_in one) (cases_in one) d) e held))

module _ (opens : List ℕ) (where_is : CWhere) where
  pub stated_items : (tree : StmtTree) (before : CScope) (one : CStated) (after : CScope) → IsStated opens where_is tree before one after
      → AreItems opens where_is (labels_of tree) before (as_meant one) after
  stated_items tree before one after held = record {
    good = held.good;
    leads = held.leads;
    adds = λ switchable. adds_alone before.body after.body one.stmt (held.adds switchable);
    labels_are = append-nil (labels_in one.stmt) ∙ held.labels_are;
    numbers = subst (λ rest. AreOnce before.next_object after.next_object (one.objects ++ rest)) (sym (append-nil (objects_in one.stmt))) held.numbers;
    blocks = held.blocks;
    held = λ home backs known inside. all_on home before after held.none known;
    typed = λ body declares stands backs known inside among. (stmt_also body [] declares (none_also declares) one.stmt (held.typed body stands backs known inside), tt);
  }

  -- ---- declarations

  begun_adds : (labels : CLabels) (all : List CStmt) → AreBegun all → AddsOfList labels labels (stmts_of all) × (labels_in_list (stmts_of all) ≡ [])
  begun_adds labels [] begun = (labels_none labels, refl)
  begun_adds labels (stmt place objects (begin number puts) ∷ all) begun =
      let made = begun_adds labels all begun.1 in
      let e : defaults_in_list (stmts_of all) ≡ 0 + defaults_in_list (stmts_of all) = omega arith in
      (subst (λ d. AddsLabels labels labels (labels_in_list (stmts_of all)) (cases_in_list (stmts_of all)) d) e made.0, made.1)
  begun_adds labels (stmt place objects (label name inner) ∷ all) begun = absurd begun.0
  begun_adds labels (stmt place objects (case value inner) ∷ all) begun = absurd begun.0
  begun_adds labels (stmt place objects (default inner) ∷ all) begun = absurd begun.0
  begun_adds labels (stmt place objects (block stmts) ∷ all) begun = absurd begun.0
  begun_adds labels (stmt place objects (expression value) ∷ all) begun = absurd begun.0
  begun_adds labels (stmt place objects (if_then test inner otherwise) ∷ all) begun = absurd begun.0
  begun_adds labels (stmt place objects (switch value inner) ∷ all) begun = absurd begun.0
  begun_adds labels (stmt place objects (while test inner) ∷ all) begun = absurd begun.0
  begun_adds labels (stmt place objects (do_while inner test) ∷ all) begun = absurd begun.0
  begun_adds labels (stmt place objects (for_loop first test next inner) ∷ all) begun = absurd begun.0
  begun_adds labels (stmt place objects (goto name) ∷ all) begun = absurd begun.0
  begun_adds labels (stmt place objects continue ∷ all) begun = absurd begun.0
  begun_adds labels (stmt place objects break ∷ all) begun = absurd begun.0
  begun_adds labels (stmt place objects (returns value) ∷ all) begun = absurd begun.0

  pub declared_items : (before : CScope) (all : CMeant) (after : CScope) → IsDeclaration opens before all after → AreItems opens where_is [] before all after
  declared_items before all after held =
      let made = begun_adds before.body all.stmts held.begun in
      record {
        good = held.good;
        leads = held.leads;
        adds = λ switchable. subst (λ labels. AddsOfList before.body labels (stmts_of all.stmts)) (sym held.body_is) made.0;
        labels_are = made.1;
        numbers = subst (λ rest. AreOnce before.next_object after.next_object (all.objects ++ rest)) (sym (begun_none all.stmts held.begun)) (plain_once before.next_object after.next_object all.objects held.numbers);
        blocks = held.blocks;
        held = held.held;
        typed = λ body declares stands backs known inside among. held.typed body declares backs known inside among;
      }

  pub none_items : (scope : CScope) → IsPlace opens scope where_is → AreItems opens where_is [] scope nothing_meant scope
  none_items scope place = record {
    good = place.good;
    leads = leads_itself opens scope;
    adds = λ switchable. labels_none scope.body;
    labels_are = refl;
    numbers = once_none scope.next_object scope.next_object (omega arith);
    blocks = λ home backs. tt;
    held = λ home backs known inside. known;
    typed = λ body declares stands backs known inside among. tt;
  }

  pub both_items : (some more : List (List ℕ)) (before middle after : CScope) (one other : CMeant) → AreItems opens where_is some before one middle → AreItems opens where_is more middle other after
      → AreItems opens where_is (some ++ more) before (meant_behind one other) after
  both_items some more before middle after one other first second = record {
    good = second.good;
    leads = leads_on opens before middle after first.leads second.leads;
    adds = λ switchable.
        adds_joined before.body after.body one.stmts other.stmts (labels_both before.body middle.body after.body _ _ _ _ _ _ (first.adds switchable) (second.adds switchable));
    labels_are = labels_joined one.stmts other.stmts ∙ (ap (λ labels. labels ++ labels_in_list (stmts_of other.stmts)) first.labels_are ∙ ap (λ labels. some ++ labels) second.labels_are);
    numbers = items_once before.next_object middle.next_object after.next_object one.objects other.objects one.stmts other.stmts first.numbers second.numbers;
    blocks = λ home backs.
        blocks_joined home one.objects other.objects (first.blocks home (backs_first opens home before middle after backs second.leads))
        (second.blocks home (backs_second opens home before middle after backs first.leads));
    held = λ home backs known inside.
        let both = are_both home.scope one.objects other.objects inside in
        second.held home (backs_second opens home before middle after backs first.leads) (first.held home (backs_first opens home before middle after backs second.leads) known both.0) both.1;
    typed = λ body declares stands backs known inside among.
        let both = are_both body.home.scope one.objects other.objects inside in
        let each = are_both declares one.objects other.objects among in
        let early = backs_first opens body.home before middle after backs second.leads in
        let late = backs_second opens body.home before middle after backs first.leads in
        typed_joined body declares one.stmts other.stmts (first.typed body declares stands early known both.0 each.0)
        (second.typed body declares stands late (first.held body.home early known both.0) both.1 each.1);
  }

-- ---- the walk

pub statement_goes : (inner : StmtTree) → StmtGoes inner → ItemGoes (Statement inner)
statement_goes inner first opens where_is scope place =
    go_chain _ _ _ _ scope (IsStated opens where_is inner scope) _ (first opens where_is scope place) (λ one after held.
    go_gives _ after _ (stated_items opens where_is inner scope one after held))

pub declared_goes : (decl : DeclTree) → DeclGoes InBlock decl → ItemGoes (Declared decl)
declared_goes decl first opens where_is scope place = record {
  ends = λ fine. declared_items opens where_is scope _ _ ((first opens scope place.good place.orderly place.in_function).ends fine);
}

pub no_items_go : ItemsGo no_items
no_items_go opens where_is scope place = go_gives _ scope _ (none_items opens where_is scope place)

pub more_items_go : (first : ItemTree) (others : ItemTrees) → ItemGoes first → ItemsGo others → ItemsGo (more_items first others)
more_items_go first others one more opens where_is scope place =
    go_chain _ _ _ _ scope (AreItems opens where_is (labels_of_item first) scope) _ (one opens where_is scope place) (λ here middle held.
    go_chain _ _ _ _ middle (AreItems opens where_is (labels_of_items others) middle) _ (more opens where_is middle (place_on opens where_is scope middle place held.leads held.good)) (λ rest after behind.
    go_gives _ after _ (both_items opens where_is (labels_of_item first) (labels_of_items others) scope middle after here rest held behind)))

pub block_goes : (items : ItemTrees) (lines : List ℕ) → ItemsGo items → StmtGoes (Block items lines)
block_goes items lines first opens where_is scope place =
    go_scope _ _ scope _ (go_chain _ _ _ _ (entered scope) (AreItems opens where_is (labels_of_items items) (entered scope)) _
    (first opens where_is (entered scope) (place_entered opens where_is scope place)) (λ all inner held.
    go_whole scope (own_line lines) (block (stmts_of all.stmts)) all.objects inner _
    (whole_is opens where_is (Block items lines) scope place inner held.leads held.good (at_line inner (own_line lines)) all.objects (block (stmts_of all.stmts)) held.adds held.labels_are held.numbers
    held.blocks
    (λ body stands backs known inside. held.typed body all.objects stands backs known inside (are_itself all.objects)))))
