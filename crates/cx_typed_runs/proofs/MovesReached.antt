-- A statement is reached: its objects begin, and it does what it does (ISO C99, 6.2.4p5, 6.8).
use Rattle.std.proofs.Common.{◌≡◌, inr, refl, sym, ap, ◌∙◌, subst, ℕ, List, [], ◌∷◌, ◌++◌, Some, None, append-nil, append_assoc}
use Rattle.std.specs.List.{Contains}
use Rattle.cr_base.specs.declared.refusal.Place.{Place}
use Rattle.cr_world.specs.Held.{Held}
use Rattle.cr_world.specs.Laws.{AreAllocated}
use Rattle.cx_core.specs.Linked.{IsLinked}
use Rattle.cx_core.specs.Statements.{CBody, with_objects, AreBlockObjects, IsReturn, IsTypedStmtForm}
use Rattle.cx_core.specs.Trees.{CTy, unqualified, CExpr, CStmt, stmt, CStmtForm, label, case, default, block, expression, if_then, switch, while, do_while, for_loop, goto, continue, break, returns, begin, CFun, CProgram}
use Rattle.cx_core.specs.ValidTypes.{IsComplete}
use Rattle.cx_mean.specs.Moves.{drops_it, gives_it, CGoal, does_form, follows, CBeginning, values, leaves, stand, slots_in, slots_of_site, doing, opened_to, beginning, reached}
use Rattle.cx_mean.specs.Operands.{missing, Slot, Frame}
use Rattle.cx_mean.specs.Paths.{CRest, nothing_left, statements_left, firsts_left, turn_left, CLevel, CSite, with_level}
use Rattle.cx_mean.specs.Settings.{setting_of}
use Rattle.cx_mean.specs.State.{with_slot}
use Rattle.cx_typed_work.specs.Scenes.{IsTypedMemory}
use Rattle.cx_typed_runs.proofs.MovesHere.{inner_site, here_with, stands}
use Rattle.cx_typed_runs.proofs.MovesJumps.{following_stands, jumping_stands, breaking_stands, continuing_stands}
use Rattle.cx_typed_runs.proofs.MovesNext.{home_program, block_of, level_of, scalar_there, expression_next, choice_next, part_next, turning_stands, next_stands}
use Rattle.cx_typed_runs.proofs.MovesPuts.{begin_stands}
use Rattle.cx_typed_runs.proofs.Scenes.{objects_append}
use Rattle.cx_typed_runs.proofs.Standing.{IsHere, IsStandOf}
use Rattle.cx_typed_runs.specs.Sites.{objects_of, inside_form, inside_by, body_at, IsLeftOf, form_of_stmt, IsReached, whole_body, IsSite, AreOwned}
use Rattle.cx_typed_runs.specs.States.{objects_begun, IsGoalOf, IsBeginning}

-- ---- what parts of a body have of it

inside_labels : (form : CStmtForm) (body : CBody) → (inside_form form body).labels ≡ body.labels
inside_labels (switch value inner) body = refl
inside_labels _ body = refl

inside_result : (form : CStmtForm) (body : CBody) → (inside_form form body).result ≡ body.result
inside_result (switch value inner) body = refl
inside_result _ body = refl

labels_by : (left : CRest) (form : CStmtForm) (body : CBody) → (inside_by left form body).labels ≡ body.labels
labels_by nothing_left form body = inside_labels form body
labels_by (statements_left stmts) form body = inside_labels form body
labels_by (firsts_left stmts) form body = refl
labels_by turn_left form body = inside_labels form body

result_by : (left : CRest) (form : CStmtForm) (body : CBody) → (inside_by left form body).result ≡ body.result
result_by nothing_left form body = inside_result form body
result_by (statements_left stmts) form body = inside_result form body
result_by (firsts_left stmts) form body = refl
result_by turn_left form body = inside_result form body

-- the labels of the function
labels_at : (whole : CBody) (levels : List CLevel) → (body_at whole levels).labels ≡ whole.labels
labels_at whole [] = refl
labels_at whole (level ∷ outer) = labels_by level.rest level.form (with_objects (objects_of level.slots) (body_at whole outer)) ∙ labels_at whole outer

-- its result type
result_at : (whole : CBody) (levels : List CLevel) → (body_at whole levels).result ≡ whole.result
result_at whole [] = refl
result_at whole (level ∷ outer) = result_by level.rest level.form (with_objects (objects_of level.slots) (body_at whole outer)) ∙ result_at whole outer

module _ (program : CProgram) (one : CFun) (result : CTy) where
  -- ---- what a statement does

  -- a value of the result type is given back
  returned_next : (held : Held) (rest : Frame) (place : Place) (level : CLevel) (outer : CSite) (value : CExpr) → IsHere program one result held rest (with_level level outer)
      → IsReturn (block_of program one result level outer.levels).home (block_of program one result level outer.levels).result (Some value)
      → IsStandOf program one result held rest (stand (values value (gives_it place (with_level level outer))) held.blocks)
  returned_next held rest place level outer value here is =
      let same = result_at (whole_body program one result) outer.levels in
      let complete = subst (λ (p : CProgram). IsComplete p.types (block_of program one result level outer.levels).result) (home_program program one result outer.levels) is.1 in
      expression_next program one result held rest level outer.levels outer.bottom value (gives_it place (with_level level outer)) here refl refl is.0
      (here.at, is.2 ∙ ap unqualified same, subst (IsComplete program.types) same complete)

  doing_stands : (held : Held) (rest : Frame) (place : Place) (slots : Frame) (form : CStmtForm) (outer : CSite) → IsHere program one result held rest (with_level (level_of slots form nothing_left) outer)
      → IsStandOf program one result held rest (doing (setting_of program) place form (level_of slots form nothing_left) outer held.blocks)
  doing_stands held rest place slots (label name inner) outer here = part_next program one result held rest (level_of slots (label name inner) nothing_left) outer.levels outer.bottom inner here here.at.levels.0.form
  doing_stands held rest place slots (case value inner) outer here = part_next program one result held rest (level_of slots (case value inner) nothing_left) outer.levels outer.bottom inner here here.at.levels.0.form.1
  doing_stands held rest place slots (default inner) outer here = part_next program one result held rest (level_of slots (default inner) nothing_left) outer.levels outer.bottom inner here here.at.levels.0.form.1
  doing_stands held rest place slots (block stmts) outer here =
      next_stands program one result held rest (level_of slots (block stmts) (statements_left stmts) ∷ outer.levels) outer.bottom
      (here_with program one result held rest (level_of slots (block stmts) nothing_left) outer.levels outer.bottom (statements_left stmts) here (refl, here.at.levels.0.form))
  doing_stands held rest place slots (expression None) outer here = next_stands program one result held rest (level_of slots (expression None) nothing_left ∷ outer.levels) outer.bottom here
  doing_stands held rest place slots (expression (Some value)) outer here =
      let level = level_of slots (expression (Some value)) nothing_left in
      expression_next program one result held rest level outer.levels outer.bottom value (drops_it (with_level level outer)) here refl refl here.at.levels.0.form.0 here.at
  doing_stands held rest place slots (if_then test inner otherwise) outer here =
      let level = level_of slots (if_then test inner otherwise) nothing_left in
      let typed = here.at.levels.0.form.0 in
      choice_next program one result held rest level outer.levels outer.bottom test here typed.0 (scalar_there program one result level outer.levels test typed)
  doing_stands held rest place slots (switch value inner) outer here =
      let typed = here.at.levels.0.form in
      choice_next program one result held rest (level_of slots (switch value inner) nothing_left) outer.levels outer.bottom value here typed.0 typed.1.promoted
  doing_stands held rest place slots (while test inner) outer here = turning_stands program one result held rest slots (while test inner) nothing_left outer.levels outer.bottom here refl
  doing_stands held rest place slots (do_while inner test) outer here =
      part_next program one result held rest (level_of slots (do_while inner test) turn_left) outer.levels outer.bottom inner
      (here_with program one result held rest (level_of slots (do_while inner test) nothing_left) outer.levels outer.bottom turn_left here refl) here.at.levels.0.form.0
  doing_stands held rest place slots (for_loop first test next inner) outer here =
      next_stands program one result held rest (level_of slots (for_loop first test next inner) (firsts_left first) ∷ outer.levels) outer.bottom
      (here_with program one result held rest (level_of slots (for_loop first test next inner) nothing_left) outer.levels outer.bottom (firsts_left first) here (refl, here.at.levels.0.form.1))
  doing_stands held rest place slots (goto name) outer here =
      jumping_stands program one result held rest place name (level_of slots (goto name) nothing_left) outer.levels outer.bottom here
      (subst (λ labels. Contains labels name) (labels_at (whole_body program one result) outer.levels) here.at.levels.0.form)
  doing_stands held rest place slots continue outer here = continuing_stands program one result held rest place (level_of slots continue nothing_left ∷ outer.levels) outer.bottom here here.at.levels.0.form
  doing_stands held rest place slots break outer here = breaking_stands program one result held rest place (level_of slots break nothing_left ∷ outer.levels) outer.bottom here here.at.levels.0.form
  doing_stands held rest place slots (returns None) outer here =
      let site = with_level (level_of slots (returns None) nothing_left) outer in
      stands program one result held rest site (leaves missing site) here (here.at, inr tt) refl
  doing_stands held rest place slots (returns (Some value)) outer here = returned_next held rest place (level_of slots (returns (Some value)) nothing_left) outer value here here.at.levels.0.form
  doing_stands held rest place slots (begin number puts) outer here =
      let level = level_of slots (begin number puts) nothing_left in
      let first = here.at.levels.0 in
      begin_stands program one result held rest place level outer.levels outer.bottom first.declares number puts here first.in_scope first.form

  -- ---- its objects begin

  -- a statement that is opened with these objects
  record IsOpening (objects : List ℕ) (level : CLevel) (outer : CSite) (goal : CGoal) : Type 0 where
    around : IsSite program one result outer
    first : outer.levels ≡ [] → level.form ≡ form_of_stmt one.body
    declares : List ℕ
    in_scope : (number : ℕ) → Contains declares number → Contains (objects_of (slots_in outer.levels)) number
    are : AreBlockObjects (body_at (whole_body program one result) outer.levels).home objects
    form : IsTypedStmtForm (with_objects objects (body_at (whole_body program one result) outer.levels)) declares objects level.form
    left : IsLeftOf (with_objects objects (body_at (whole_body program one result) outer.levels)) objects level.form level.rest
    goal_is : IsGoalOf (with_objects objects (body_at (whole_body program one result) outer.levels)) level.form level.rest goal

  -- all of them have begun
  opened_stands : (held : Held) (rest : Frame) (slots : Frame) (form : CStmtForm) (left : CRest) (outer : CSite) (goal : CGoal) → IsHere program one result held rest (with_level (level_of slots form left) outer)
      → IsGoalOf (block_of program one result (level_of slots form left) outer.levels) form left goal
      → IsStandOf program one result held rest (opened_to (setting_of program) goal (level_of slots form left) outer held.blocks)
  opened_stands held rest slots form nothing_left outer (does_form place) here is = doing_stands held rest place slots form outer here
  opened_stands held rest slots form (statements_left stmts) outer (does_form place) here is = cc (is)
  opened_stands held rest slots form (firsts_left stmts) outer (does_form place) here is = cc (is)
  opened_stands held rest slots form turn_left outer (does_form place) here is = cc (is)
  opened_stands held rest slots form left outer (follows way) here is = following_stands program one result held rest way (level_of slots form left) outer.levels outer.bottom here is

  beginning_stands : (held : Held) (rest : Frame) (objects : List ℕ) (level : CLevel) (outer : CSite) (others : List ℕ) (goal : CGoal) → IsOpening objects level outer goal → objects ≡ objects_of level.slots ++ others
      → IsLinked program → IsTypedMemory program held.blocks → AreAllocated held.blocks held.heap → AreOwned program held (level.slots ++ slots_of_site outer ++ rest)
      → IsStandOf program one result held rest (beginning (setting_of program) others goal level outer held.blocks)
  beginning_stands held rest objects level outer [] goal opening e linked memory allocated owned =
      opened_stands held rest level.slots level.form level.rest outer goal (record {
        linked = linked;
        at = inner_site program one result level outer own.around (record { declares = own.declares; in_scope = own.in_scope; objects = own.are; form = own.form; rest = own.left }) own.first;
        memory = memory;
        allocated = allocated;
        owned = subst (AreOwned program held) (ap (λ slots. slots ++ rest) (sym (append_assoc level.slots (slots_in outer.levels) outer.bottom.params))) owned;
      }) own.goal_is
    where
      own : IsOpening (objects_of level.slots) level outer goal
      own = subst (λ list. IsOpening list level outer goal) (e ∙ append-nil (objects_of level.slots)) opening
  beginning_stands held rest objects level outer (first ∷ others) goal opening e linked memory allocated owned = record {
    memory = memory;
    allocated = allocated;
    owned = owned;
    move = record {
      outer = own.around;
      first = own.first;
      declares = own.declares;
      in_scope = own.in_scope;
      objects = own.are;
      form = own.form;
      rest = own.left;
      goal = own.goal_is;
    };
  }
    where
      own : IsOpening (objects_of level.slots ++ first ∷ others) level outer goal
      own = subst (λ list. IsOpening list level outer goal) e opening

  -- an object has begun; its slot is the last of the level's
  pub begun_stands : (held : Held) (rest : Frame) (it : CBeginning) (new : Slot) → IsLinked program → IsBeginning program one result it → new.object ≡ it.object → IsTypedMemory program held.blocks → AreAllocated held.blocks held.heap
      → AreOwned program held ((it.level.slots ++ new ∷ []) ++ slots_of_site it.outer ++ rest) → IsStandOf program one result held rest (beginning (setting_of program) it.others it.goal (with_slot new it.level) it.outer held.blocks)
  begun_stands held rest it new linked is e memory allocated owned =
      beginning_stands held rest (objects_begun it) (with_slot new it.level) it.outer it.others it.goal (record {
        around = is.outer;
        first = is.first;
        declares = is.declares;
        in_scope = is.in_scope;
        are = is.objects;
        form = is.form;
        left = is.rest;
        goal_is = is.goal;
      }) (ap (λ number. objects_of it.level.slots ++ number ∷ it.others) (sym e)
      ∙ sym (append_assoc (objects_of it.level.slots) (new.object ∷ []) it.others) ∙ ap (λ front. front ++ it.others) (sym (objects_append it.level.slots (new ∷ [])))) linked memory allocated owned

  -- a statement is reached
  pub reached_stands : (held : Held) (rest : Frame) (site : CSite) (one_stmt : CStmt) → IsHere program one result held rest site → IsReached (whole_body program one result) one site.levels one_stmt
      → IsStandOf program one result held rest (reached (setting_of program) one_stmt site held.blocks)
  reached_stands held rest site (stmt place objects form) here is =
      beginning_stands held rest objects (level_of [] form nothing_left) site objects (does_form place) (record {
        around = here.at;
        first = λ none. ap form_of_stmt (is.first none);
        declares = is.declares;
        in_scope = is.in_scope;
        are = is.typed.0;
        form = is.typed.1;
        left = tt;
        goal_is = refl;
      }) refl here.linked here.memory here.allocated here.owned
