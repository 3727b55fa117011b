-- Statements that are blocks, and branches and bodies that are made so (ISO C99, 6.8.2, 6.8.4p3, 6.8.5p5).
use Rattle.std.proofs.Common.{◌≡◌, ◌⊎◌, inl, inr, ℕ, ◌<◌, List, [], ◌++◌, length, None, Some, refl, sym, ◌∙◌, subst, append-nil, arith}
use Rattle.std.specs.List.{Contains}
use Rattle.cr_base.specs.declared.refusal.Place.{Place as TextPlace}
use Rattle.cx_core.specs.Statements.{CBody, AreBlockObjects, IsTypedStmt, IsTypedStmtForm, AreTypedStmts, with_objects, labels_in, labels_in_form, cases_in_form, defaults_in_form, objects_in_form}
use Rattle.cx_core.specs.Trees.{CStmt, stmt, CStmtForm, label, case, default, block, expression, if_then, switch, while, do_while, for_loop, goto, continue, break, returns, begin, CStmts, no_stmts, more_stmts}
use Rattle.cx_core.specs.Typing.{CHome}
use Rattle.cx_rules.proofs.UnitNodesAgree.{s_scope_begins, s_whole_ends, s_stmt_walk}
use Rattle.cx_rules.specs.Pieces.{at_line}
use Rattle.cx_rules.specs.Readings.{Seen, seen_gives, seen_chain, seen_here, seen_becomes, seen_look}
use Rattle.cx_rules.specs.Scope.{CScope, entered, left}
use Rattle.cx_rules.specs.UnitWalk as unit
use Rattle.cx_rules.specs.UnitWalk.{CWhere, CStated, as_block, labels_of}
use Rattle.cx_tree.specs.Trees.{StmtTree}
use Rattle.cx_typed.proofs.Goes.{go_chain}
use Rattle.cx_typed.specs.Walked.{IsGood, Ends}
use Rattle.cx_typed_units.proofs.Around.{back_leads, back_none, back_good, back_backs, place_entered, stands_inside}
use Rattle.cx_typed_units.proofs.Blocks.{are_front, all_inside}
use Rattle.cx_typed_units.proofs.Stretches.{backs_in}
use Rattle.cx_typed_units.specs.Labels.{AddsLabels, AddsOf}
use Rattle.cx_typed_units.proofs.Once.{block_once}
use Rattle.cx_typed_units.specs.Once.{AreOnce}
use Rattle.cx_typed_units.specs.Statements.{IsSwitchable, StandsIn, IsPlace, own_objects, IsStated, StmtGoes, IsScoped}
use Rattle.cx_typed_units.specs.Stretches.{Leads, Backs, IsHeldAt, AreIn}

-- ---- the rules of the walk

pub go_scope : (A : Type 0) (next : CScope → Seen A) (scope : CScope) (Post : A → CScope → Type 0) → Ends (next scope) (entered scope) Post → Ends (seen_chain CScope A s_scope_begins next) scope Post
unfolding seen_chain seen_here seen_becomes seen_gives
go_scope A next scope Post held = record { ends = λ fine. held.ends fine }

pub go_whole : (before : CScope) (line : ℕ) (form : CStmtForm) (objects : List ℕ) (scope : CScope) (Post : CStated → CScope → Type 0)
    → Post (record { stmt = stmt (at_line scope line) objects form; objects = [] }) (left (length before.declared) before.begins scope)
    → Ends (s_whole_ends before line form objects) scope Post
unfolding seen_chain seen_here seen_becomes seen_gives
go_whole before line form objects scope Post held = record { ends = λ fine. held }

pub go_scope_ends : (A : Type 0) (before : CScope) (value : A) (scope : CScope) (Post : A → CScope → Type 0) → Post value (left (length before.declared) before.begins scope)
    → Ends (unit.scope_ends Seen seen_gives seen_chain seen_here seen_becomes seen_look before value) scope Post
unfolding seen_chain seen_here seen_becomes seen_gives
go_scope_ends A before value scope Post held = record { ends = λ fine. held }

-- ---- which objects may be declared right there

abbrev pub AreAlso : List ℕ → List ℕ → Type 0
AreAlso few many = (number : ℕ) → Contains few number → Contains many number

pub none_also : (many : List ℕ) → AreAlso [] many
none_also many number held = absurd (let h : held.0 < 0 = held.1 in omega (arith, h))

module _ (body : CBody) (few many : List ℕ) (also : AreAlso few many) where
  pub stmt_also : (one : CStmt) → IsTypedStmt body few one → IsTypedStmt body many one
  stmt_also (stmt place objects (begin number puts)) held = (held.0, (also number held.1.0, held.1.1, held.1.2))
  stmt_also (stmt place objects (label name inner)) held = held
  stmt_also (stmt place objects (case value inner)) held = held
  stmt_also (stmt place objects (default inner)) held = held
  stmt_also (stmt place objects (block stmts)) held = held
  stmt_also (stmt place objects (expression None)) held = held
  stmt_also (stmt place objects (expression (Some value))) held = held
  stmt_also (stmt place objects (if_then test inner otherwise)) held = held
  stmt_also (stmt place objects (switch value inner)) held = held
  stmt_also (stmt place objects (while test inner)) held = held
  stmt_also (stmt place objects (do_while inner test)) held = held
  stmt_also (stmt place objects (for_loop first test next inner)) held = held
  stmt_also (stmt place objects (goto name)) held = held
  stmt_also (stmt place objects continue) held = held
  stmt_also (stmt place objects break) held = held
  stmt_also (stmt place objects (returns value)) held = held

  pub stmts_also : (all : CStmts) → AreTypedStmts body few all → AreTypedStmts body many all
  stmts_also no_stmts held = tt
  stmts_also (more_stmts first others) held = (stmt_also first held.0, stmts_also others held.1)

-- the objects of the block around a statement that is no block become its own
form_also : (body : CBody) (objects : List ℕ) (form : CStmtForm) → IsTypedStmtForm body [] [] form → IsTypedStmtForm body [] objects form
form_also body objects (begin number puts) held = held
form_also body objects (label name inner) held = held
form_also body objects (case value inner) held = held
form_also body objects (default inner) held = held
form_also body objects (block stmts) held = stmts_also body [] objects (none_also objects) stmts held
form_also body objects (expression None) held = held
form_also body objects (expression (Some value)) held = held
form_also body objects (if_then test inner otherwise) held = held
form_also body objects (switch value inner) held = held
form_also body objects (while test inner) held = held
form_also body objects (do_while inner test) held = held
form_also body objects (for_loop first test next inner) held = (held.0, stmts_also body [] objects (none_also objects) first held.1, held.2, held.3, held.4)
form_also body objects (goto name) held = held
form_also body objects continue held = held
form_also body objects break held = held
form_also body objects (returns value) held = held

module _ (body : CBody) where
  -- as `IsTypedStmt` of what a statement becomes
  block_by : (objects : List ℕ) (one : CStmt) → (objects ≡ []) ⊎ (own_objects one ≡ []) → AreBlockObjects body.home objects → IsTypedStmt (with_objects objects body) [] one
      → IsTypedStmt body [] (as_block (record { stmt = one; objects = objects }))
  block_by objects (stmt place own form) (inl none) there typed =
      subst (λ some. IsTypedStmt (with_objects some body) [] (stmt place own form) → IsTypedStmt body [] (as_block (record { stmt = stmt place own form; objects = some }))) (sym none) (λ held. held) typed
  block_by objects (stmt place own form) (inr none) there typed =
      let alone : IsTypedStmt (with_objects objects body) [] (stmt place [] form) = subst (λ some. IsTypedStmt (with_objects objects body) [] (stmt place some form)) none typed in
      subst (λ some. IsTypedStmt body [] (as_block (record { stmt = stmt place some form; objects = objects }))) (sym none)
      (subst (λ all. IsTypedStmt body [] (stmt place all form)) (sym (append-nil objects)) (there, form_also (with_objects objects body) objects form alone.1))

block_adds : (objects : List ℕ) (one : CStmt) (before after : CScope) → AddsOf before.body after.body one → AddsOf before.body after.body (as_block (record { stmt = one; objects = objects }))
block_adds objects (stmt place own form) before after held = held

block_labels : (objects : List ℕ) (one : CStmt) → labels_in (as_block (record { stmt = one; objects = objects })) ≡ labels_in one
block_labels objects (stmt place own form) = refl

-- ---- branches and bodies

pub scoped_goes : (opens : List ℕ) (where_is : CWhere) (tree : StmtTree) (scope : CScope) → StmtGoes tree → IsPlace opens scope where_is
    → Ends (unit.scoped Seen seen_gives seen_chain seen_here seen_becomes seen_look (s_stmt_walk where_is tree)) scope (IsScoped opens where_is (labels_of tree) scope)
scoped_goes opens where_is tree scope goes place =
    go_scope _ _ scope _ (go_chain _ _ _ _ (entered scope) (IsStated opens where_is tree (entered scope)) _ (goes opens where_is (entered scope) (place_entered opens where_is scope place)) (λ one inner held.
    go_scope_ends _ scope _ inner _ (record {
      good = back_good opens scope place.good inner held.leads held.good;
      leads = back_leads opens scope place.good inner held.leads held.good;
      none = back_none opens scope place.good inner held.leads held.good;
      adds = λ switchable. block_adds one.objects one.stmt scope inner (held.adds switchable);
      labels_are = block_labels one.objects one.stmt ∙ held.labels_are;
      numbers = block_once scope.next_object inner.next_object one.objects one.stmt held.numbers;
      typed = λ body stands backs known.
          let here = back_backs opens scope place.good inner held.leads held.good body.home backs in
          block_by body one.objects one.stmt held.apart (held.blocks body.home here)
          (held.typed (with_objects one.objects body) (stands_inside where_is body one.objects stands) (backs_in opens body.home one.objects (entered scope) inner here)
          (all_inside body.home one.objects scope.declared known) (are_front one.objects body.home.scope));
    })))

-- ---- a statement that is a block itself

abbrev pub IsWhole : List ℕ → CWhere → StmtTree → CScope → CScope → ℕ → List ℕ → CStmtForm → Type 0
IsWhole opens where_is tree scope inner line objects form =
    IsStated opens where_is tree scope (record { stmt = stmt (at_line inner line) objects form; objects = [] }) (left (length scope.declared) scope.begins inner)

module _ (opens : List ℕ) (where_is : CWhere) (tree : StmtTree) (scope : CScope) (place : IsPlace opens scope where_is) (inner : CScope)
    (leads : Leads opens (entered scope) inner) (good : IsGood opens inner) (at : TextPlace) (objects : List ℕ) (form : CStmtForm) where
  pub whole_is : (IsSwitchable where_is → AddsLabels scope.body inner.body (labels_in_form form) (cases_in_form form) (defaults_in_form form)) → labels_in_form form ≡ labels_of tree
      → AreOnce scope.next_object inner.next_object (objects ++ objects_in_form form)
      → ((home : CHome) → Backs home opens (entered scope) inner → AreBlockObjects home objects)
      → ((body : CBody) → StandsIn where_is body → Backs body.home opens (entered scope) inner → IsHeldAt body.home scope.declared → AreIn body.home.scope objects → IsTypedStmtForm body [] objects form)
      → IsStated opens where_is tree scope (record { stmt = stmt at objects form; objects = [] }) (left (length scope.declared) scope.begins inner)
  whole_is adds labels numbers blocks typed = record {
    good = back_good opens scope place.good inner leads good;
    leads = back_leads opens scope place.good inner leads good;
    none = back_none opens scope place.good inner leads good;
    adds = adds;
    labels_are = labels;
    apart = inl refl;
    numbers = numbers;
    blocks = λ home backs. tt;
    typed = λ body stands backs known inside.
        let here = back_backs opens scope place.good inner leads good body.home backs in (
          blocks body.home here,
          typed (with_objects objects body) (stands_inside where_is body objects stands) (backs_in opens body.home objects (entered scope) inner here) (all_inside body.home objects scope.declared known)
              (are_front objects body.home.scope),
        );
  }
