-- Statements, from where they are reached on: in every form, and in lists.
use Rattle.std.proofs.Common.{◌≡◌, ◌∙◌, ℕ, suc, pred, ◌+◌, ◌≤◌, ℤ, Bool, true, false, ◌||◌, List, [], ◌∷◌, ◌++◌, flat_map, map, Option, Some, None, Result, Ok, Err, if◌then◌else◌, refl, sym, ap, subst}
use Rattle.build_flow_nodes.specs.Builder.{Context, inside, apart, before, in_firsts, case_in, default_or, statement_at, first_place, else_place, head_of, goto_point, list_point, point, form_point, own_point}
use Rattle.build_flow_nodes.specs.Labels.{Label, is_labelled, label_where, labels_of_switch}
use Rattle.build_flow_nodes.specs.Parts.{count_in_test, count_in_stmt, begun, cleared_where, leaves_bits, contents, declared as declared_text}
use Rattle.build_flow_nodes.specs.Points.{FlowPlace, at_part, PlacedCase, Point, jump, behind}
use Rattle.build_flow_moves.specs.Runs.{place_chosen}
use Rattle.rs_mean.specs.Run.{is_arm}
use Rattle.rs_mean.specs.Values.{Typed}
use Rattle.cr_base.specs.declared.refusal.Place.{Place}
use Rattle.cr_world.specs.World.{World, blocks_of}
use Rattle.cx_core.specs.Trees.{CExpr, place_of, CPuts, CStmt, stmt, CStmtForm, label, case, default, block, expression, if_then, switch, while, do_while, for_loop, goto, continue, break, returns, begin, COtherwise, no_else, else_do, CStmts, no_stmts, more_stmts}
use Rattle.cx_mean.specs.BodyGraph.{CPath, at_test, is_named, is_default}
use Rattle.cx_mean.specs.Initialisers.{CCleared, object_cleared}
use Rattle.cx_mean.specs.Leftmost.{c_stand}
use Rattle.cx_mean.specs.Moves.{drops_it, does_form, CStand, values, goes_nowhere, reaches, without_objects, slots_in, next_in, jumping, choosing, static_puts_of, declared, doing, beginning}
use Rattle.cx_mean.specs.Operands.{CWhy, missing, stuck, stops, Frame as CFrame}
use Rattle.cx_mean.specs.Paths.{nothing_left, statements_left, firsts_left, turn_left, CLevel, site_at, CTarget, named, case_of, default_case}
use Rattle.rs_text.specs.Tree.{Stmt}
use Rattle.build_flow_moves.specs.Coded.{StmtThere, FormThere, StmtsThere, reaches_it}
use Rattle.build_flow_moves.specs.Parts.{Stage, objects_in, ClearDone, PutsDone, StmtDone, FormDone}
use Rattle.build_flow_moves.proofs.Course.{Course, OwedTo, IsAimed, AllAimed, point_run, point_silent, jump_runs, owed_by, nothing_owed, stepped, ran_owed}
use Rattle.build_flow_moves.proofs.Doing.{OpenOwed, behind_behind, begin_owed, choice_owed, return_owed, leave_owed, puts_written, puts_owed}
use Rattle.build_flow_moves.proofs.Going.{Coded, StandOwed, level_of, left_behind, dies, while_turns, for_turns, place_owed, break_owed, continue_owed}
use Rattle.build_flow_moves.proofs.Jumping.{goto_owed}
use Rattle.build_flow_moves.proofs.Steps.{Within, within, NextOwed, dropped_owed, test_owed}
use Rattle.build_flow_moves.proofs.Switching.{switch_owed}
use Rattle.build_flow_moves.proofs.There.{own_there, form_there, begins_done, stmts_first, stmts_others, label_body, case_body, default_body, block_stmts, if_body, else_body, do_body, in_do, for_firsts}
use Rattle.build_flow_moves.proofs.Ways.{hits, where_same}

named_hits : (name : List ℕ) (target : CTarget) → is_named name target ≡ hits (named name) target
named_hits name (named own) = refl
named_hits name (case_of value) = refl
named_hits name default_case = refl

module _ (a : Stage) (c : Course a) where
  -- behind a statement that has nothing left
  pub ended : (slots : CFrame) (form : CStmtForm) (levels : List CLevel) (next : Point) → NextOwed a c levels next → NextOwed a c (level_of slots form nothing_left ∷ levels) next
  ended slots form levels next owed less few c_world world here = owed less few (left_behind a c slots c_world) world (dies a c slots levels c_world world here)

  -- by the name of what follows
  pub next_named : (levels : List CLevel) (ctx : Context) → Coded a c levels ctx → NextOwed a c levels (jump ctx.place)
  next_named levels ctx coded less few c_world world here ok =
      owed_by a c less _ (point_run a c (jump ctx.place)) (c.next ctx.place) world world (jump_runs a c ctx.place world) (place_owed a c less few levels ctx c_world world coded here ok.0)

  jumps_to : (m : ℕ) (one : CStand) (place : FlowPlace) (c_world world : World) → StandOwed a c m one place c_world world → IsAimed a c (jump place) → OwedTo a c m (c_stand a.goes one c_world) (point_run a c (jump place)) world
  jumps_to m one place c_world world owed ok = owed_by a c m _ (point_run a c (jump place)) (c.next place) world world (jump_runs a c place world) (owed ok.0)

  -- ---- what is to be shown

  abbrev pub StmtOwed : CStmt → Type 0
  StmtOwed s =
      (ctx : Context) (path : CPath) (number : ℕ) (levels : List CLevel) → Coded a c levels ctx → StmtThere a c.at ctx path number (objects_in (slots_in levels)) s → NextOwed a c levels ctx.next →
      (m : ℕ) → m ≤ c.most → (c_world world : World) → a.Here (slots_in levels) c_world world →
      IsAimed a c (point a.of ctx path number s) → OwedTo a c m (a.goes (reaches s (site_at levels a.bottom)) c_world) (point_run a c (point a.of ctx path number s)) world

  abbrev pub FormOwed : CStmtForm → Type 0
  FormOwed form =
      (place : Place) (slots : CFrame) (ctx : Context) (path : CPath) (number : ℕ) (levels : List CLevel) → Coded a c levels ctx →
      FormThere a c.at (inside form path ctx) path number (objects_in (slots ++ slots_in levels)) form → NextOwed a c levels ctx.next →
      (m : ℕ) → m ≤ c.most → (c_world world : World) → a.Here (slots ++ slots_in levels) c_world world →
      IsAimed a c (form_point a.of (inside form path ctx) path number form) → OwedTo a c m (c_stand a.goes (doing a.setting place form (level_of slots form nothing_left) (site_at levels a.bottom) (blocks_of c_world)) c_world)
      (point_run a c (form_point a.of (inside form path ctx) path number form)) world

  -- ---- objects of a statement begin

  objects_both : (first others : CFrame) → objects_in (first ++ others) ≡ objects_in first ++ objects_in others
  objects_both [] others = refl
  objects_both (one ∷ first) others = ap (λ (xs : List ℕ). one.object ∷ xs) (objects_both first others)

  pub open_owed : (place : Place) (objects : List ℕ) (form : CStmtForm) → FormOwed form → (ctx : Context) (path : CPath) (number : ℕ) (levels : List CLevel) → Coded a c levels ctx →
      StmtThere a c.at ctx path number (objects_in (slots_in levels)) (stmt place objects form) → NextOwed a c levels ctx.next →
      (m : ℕ) → Within a c m → (c_world world : World) → a.Here (slots_in levels) c_world world →
      IsAimed a c (own_point a.of ctx path number (stmt place objects form)) → OwedTo a c m (a.goes (reaches (stmt place objects form) (site_at levels a.bottom)) c_world) (point_run a c (own_point a.of ctx path number (stmt place objects form))) world
  open_owed place objects form form_owed ctx path number levels coded there owed m near c_world world here ok =
      stepped a c m (slots_in levels) c_world world (a.goes (reaches (stmt place objects form) (site_at levels a.bottom)) c_world)
      (c_stand a.goes (beginning a.setting objects (does_form place) (level_of [] form nothing_left) (site_at levels a.bottom) (blocks_of c_world)) c_world)
      (point_run a c (own_point a.of ctx path number (stmt place objects form))) here (point_silent a c (own_point a.of ctx path number (stmt place objects form)))
      (λ k. a.unfolds (reaches (stmt place objects form) (site_at levels a.bottom)) c_world k)
      (begin_owed a c (does_form place) form nothing_left levels (form_point a.of (inside form path ctx) path number form) objects (pred m) near.behind []
      (begins_done a c.at ctx path number (objects_in (slots_in levels)) place objects form there) opened c_world world here)
    where
      opened : OpenOwed a c (does_form place) form nothing_left levels (form_point a.of (inside form path ctx) path number form) objects
      opened slots are less few c_end end there_now =
          form_owed place slots ctx path number levels coded
          (subst (λ (scope : List ℕ). FormThere a c.at (inside form path ctx) path number scope form)
          (ap (λ (xs : List ℕ). xs ++ objects_in (slots_in levels)) (sym are) ∙ sym (objects_both slots (slots_in levels)))
          (form_there a c.at ctx path number (objects_in (slots_in levels)) place objects form there)) owed less few c_end end there_now ok

  stmt_by : (place : Place) (objects : List ℕ) (form : CStmtForm) → FormOwed form → StmtOwed (stmt place objects form)
  stmt_by place objects form form_owed ctx path number levels coded there owed m few c_world world here = by_label (is_labelled form)
    where
      by_label : (labelled : Bool) → IsAimed a c (if labelled then jump (statement_at path) else behind (begun a.of objects) (form_point a.of (inside form path ctx) path number form)) →
          OwedTo a c m (a.goes (reaches (stmt place objects form) (site_at levels a.bottom)) c_world)
          (point_run a c (if labelled then jump (statement_at path) else behind (begun a.of objects) (form_point a.of (inside form path ctx) path number form))) world
      by_label true ok =
          owed_by a c m _ (point_run a c (jump (statement_at path))) (c.next (statement_at path)) world world (jump_runs a c (statement_at path) world)
          (c.go m (statement_at path) _ _ c_world world few (reaches_it path ctx number levels (stmt place objects form) coded there) here ok.0)
      by_label false ok = open_owed place objects form form_owed ctx path number levels coded there owed m (within a c m few) c_world world here ok

  -- ---- declarations

  puts_of : (puts : Option CPuts) (object number : ℕ) → contents a.of object puts number ≡ puts_written a c object (static_puts_of puts) number
  puts_of None object number = refl
  puts_of (Some puts) object number = refl

  module _ (place : Place) (object : ℕ) (puts : Option CPuts) (number : ℕ) (levels : List CLevel) (next : Point) (owed : NextOwed a c levels next) (ok : IsAimed a c next)
      (clears : ClearDone a (objects_in (slots_in levels)) object puts) (stores : PutsDone a (objects_in (slots_in levels)) object (static_puts_of puts) number)
      (m : ℕ) (few : m ≤ c.most) (c_world world : World) (here : a.Here (slots_in levels) c_world world) where
    abbrev clear_text : List Stmt
    clear_text = cleared_where (a.of.names.has_bits || leaves_bits a.of object puts) a.of object

    by_clear : (made : Result CCleared CWhy) → object_cleared a.setting (slots_in levels) object puts (blocks_of c_world) ≡ made →
        OwedTo a c m (c_stand a.goes (declared place object puts (site_at levels a.bottom) made (blocks_of c_world)) c_world) (point_run a c (behind (declared_text a.of object puts number) next)) world
    by_clear (Ok made) is =
        let there = clears (slots_in levels) c_world world made refl here is in
        owed_by a c m _ (point_run a c (behind (declared_text a.of object puts number) next)) (point_run a c (behind clear_text (behind (puts_written a c object (static_puts_of puts) number) next))) world world
        (λ k. ap (λ (it : Point). point_run a c it world k)
        (behind_behind clear_text (contents a.of object puts number) next ∙ ap (λ (ss : List Stmt). behind clear_text (behind ss next)) (puts_of puts object number)))
        (ran_owed a c m _ clear_text (behind (puts_written a c object (static_puts_of puts) number) next) world there.after there.runs
        (puts_owed a c object levels next owed ok (static_puts_of puts) number stores m few _ there.after there.here))
    by_clear (Err why) is = nothing_owed a c m (stops stuck place) c_world _ (point_run a c (behind (declared_text a.of object puts number) next)) world (λ k. a.unfolds (goes_nowhere place) c_world k)

    pub declared_owed :
        OwedTo a c m (c_stand a.goes (declared place object puts (site_at levels a.bottom) (object_cleared a.setting (slots_in levels) object puts (blocks_of c_world)) (blocks_of c_world)) c_world)
        (point_run a c (behind (declared_text a.of object puts number) next)) world
    declared_owed = by_clear (object_cleared a.setting (slots_in levels) object puts (blocks_of c_world)) refl

  -- ---- choices of an `if`

  if_chosen : (slots : CFrame) (test : CExpr) (body : CStmt) (otherwise : COtherwise) (ctx : Context) (path : CPath) (number : ℕ) (levels : List CLevel) → Coded a c levels ctx →
      FormThere a c.at (inside (if_then test body otherwise) path ctx) path number (objects_in (slots ++ slots_in levels)) (if_then test body otherwise) →
      (holds : Bool) (less : ℕ) → less ≤ c.most → (c_world world : World) → a.Here (slots ++ slots_in levels) c_world world →
      c.Allowed (if holds then statement_at (0 ∷ path) else else_place otherwise path ctx.place) → OwedTo a c less
      (c_stand a.goes (choosing (if_then test body otherwise) holds (level_of slots (if_then test body otherwise) nothing_left) levels a.bottom (blocks_of c_world)) c_world)
      (c.next (if holds then statement_at (0 ∷ path) else else_place otherwise path ctx.place)) world
  if_chosen slots test body otherwise ctx path number levels coded there true less few c_world world here =
      c.go less (statement_at (0 ∷ path)) _ _ c_world world few
      (reaches_it (0 ∷ path) (apart (inside (if_then test body otherwise) path ctx)) (number + count_in_test a.of.names test) (level_of slots (if_then test body otherwise) nothing_left ∷ levels) body
      (ctx, path, number, coded, there, refl) (if_body a c.at (inside (if_then test body otherwise) path ctx) path number (objects_in (slots ++ slots_in levels)) test body otherwise there)) here
  if_chosen slots test body no_else ctx path number levels coded there false less few c_world world here =
      place_owed a c less few levels ctx (left_behind a c slots c_world) world coded (dies a c slots levels c_world world here)
  if_chosen slots test body (else_do other) ctx path number levels coded there false less few c_world world here =
      c.go less (statement_at (1 ∷ path)) _ _ c_world world few
      (reaches_it (1 ∷ path) (apart (inside (if_then test body (else_do other)) path ctx)) (number + count_in_test a.of.names test + count_in_stmt a.of.names body)
      (level_of slots (if_then test body (else_do other)) nothing_left ∷ levels) other
      (ctx, path, number, coded, there, refl) (else_body a c.at (inside (if_then test body (else_do other)) path ctx) path number (objects_in (slots ++ slots_in levels)) test body other there)) here

  pub by_test : (holds : Bool) (if_true if_false : FlowPlace) → AllAimed a c (if_true ∷ if_false ∷ []) → c.Allowed (if holds then if_true else if_false)
  by_test true if_true if_false ok = ok.0
  by_test false if_true if_false ok = ok.1.0

  chosen_aimed : (typed : Typed) (cases : List PlacedCase) (other : FlowPlace) → AllAimed a c (map (λ (it : PlacedCase). it.to) cases ++ (other ∷ [])) → c.Allowed (place_chosen typed cases other)
  chosen_aimed typed [] other ok = ok.0
  chosen_aimed typed (one ∷ cases) other ok = by_arm (is_arm one.value typed) (chosen_aimed typed cases other ok.1)
    where
      by_arm : (is : Bool) → c.Allowed (place_chosen typed cases other) → c.Allowed (if is then one.to else place_chosen typed cases other)
      by_arm true more = ok.0
      by_arm false more = more

  -- ---- all forms

  abbrev pub ListOwed : CStmts → Type 0
  ListOwed ss =
      (all : CStmts) (slots : CFrame) (ctx : Context) (path : CPath) (from index number : ℕ) (levels : List CLevel) → Coded a c levels ctx →
      FormThere a c.at (inside (block all) path ctx) path from (objects_in (slots ++ slots_in levels)) (block all) →
      StmtsThere a c.at (inside (block all) path ctx) path index number (objects_in (slots ++ slots_in levels)) ss → NextOwed a c levels ctx.next →
      NextOwed a c (level_of slots (block all) (statements_left ss) ∷ levels) (list_point a.of (inside (block all) path ctx) path index number ss)

  abbrev pub FirstsOwed : CStmts → Type 0
  FirstsOwed ss =
      (first : CStmts) (test next : Option CExpr) (body : CStmt) (slots : CFrame) (ctx : Context) (path : CPath) (from index number : ℕ) (levels : List CLevel) → Coded a c levels ctx →
      FormThere a c.at (inside (for_loop first test next body) path ctx) path from (objects_in (slots ++ slots_in levels)) (for_loop first test next body) →
      StmtsThere a c.at (in_firsts first test next path (inside (for_loop first test next body) path ctx)) path index number (objects_in (slots ++ slots_in levels)) ss →
      NextOwed a c (level_of slots (for_loop first test next body) (firsts_left ss) ∷ levels)
      (list_point a.of (in_firsts first test next path (inside (for_loop first test next body) path ctx)) path index number ss)

  mutual
    pub stmt_owed : (s : CStmt) → StmtOwed s
    stmt_owed (stmt place objects form) = stmt_by place objects form (form_owed form)

    pub form_owed : (form : CStmtForm) → FormOwed form
    form_owed (label name body) place slots ctx path number levels coded there owed m few c_world world here ok =
        stmt_owed body (inside (label name body) path ctx) (0 ∷ path) number (level_of slots (label name body) nothing_left ∷ levels) (ctx, path, number, coded, there, refl)
        (label_body a c.at (inside (label name body) path ctx) path number (objects_in (slots ++ slots_in levels)) name body there) (ended slots (label name body) levels ctx.next owed) m few c_world world here ok
    form_owed (case value body) place slots ctx path number levels coded there owed m few c_world world here ok =
        stmt_owed body (inside (case value body) path ctx) (0 ∷ path) number (level_of slots (case value body) nothing_left ∷ levels) (ctx, path, number, coded, there, refl)
        (case_body a c.at (inside (case value body) path ctx) path number (objects_in (slots ++ slots_in levels)) value body there) (ended slots (case value body) levels ctx.next owed) m few c_world world here ok
    form_owed (default body) place slots ctx path number levels coded there owed m few c_world world here ok =
        stmt_owed body (inside (default body) path ctx) (0 ∷ path) number (level_of slots (default body) nothing_left ∷ levels) (ctx, path, number, coded, there, refl)
        (default_body a c.at (inside (default body) path ctx) path number (objects_in (slots ++ slots_in levels)) body there) (ended slots (default body) levels ctx.next owed) m few c_world world here ok
    form_owed (block ss) place slots ctx path number levels coded there owed m few c_world world here ok =
        list_owed ss ss slots ctx path number 0 number levels coded there (block_stmts a c.at (inside (block ss) path ctx) path number (objects_in (slots ++ slots_in levels)) ss there) owed m few c_world world here ok
    form_owed (expression None) place slots ctx path number levels coded there owed m few c_world world here ok =
        owed m few (left_behind a c slots c_world) world (dies a c slots levels c_world world here) ok
    form_owed (expression (Some e)) place slots ctx path number levels coded there owed m few c_world world here ok =
        dropped_owed a c e number (slots ++ slots_in levels) there.done m (within a c m few) c_world world here
        (drops_it (site_at (level_of slots (expression (Some e)) nothing_left ∷ levels) a.bottom))
        (λ blocks. next_in (level_of slots (expression (Some e)) nothing_left ∷ levels) a.bottom blocks) ctx.next
        (λ k. a.unfolds (values e (drops_it (site_at (level_of slots (expression (Some e)) nothing_left ∷ levels) a.bottom))) c_world k)
        (λ less fewer c_end end there_now. ended slots (expression (Some e)) levels ctx.next owed less fewer c_end end there_now ok)
    form_owed (if_then test body otherwise) place slots ctx path number levels coded there owed m few c_world world here ok =
        test_owed a c test number (level_of slots (if_then test body otherwise) nothing_left) levels refl there.done.0 (statement_at (0 ∷ path)) (else_place otherwise path ctx.place) m (within a c m few) c_world world here
        (λ holds less fewer c_end end there_now. if_chosen slots test body otherwise ctx path number levels coded there holds less fewer c_end end there_now
        (by_test holds (statement_at (0 ∷ path)) (else_place otherwise path ctx.place) ok))
    form_owed (switch value body) place slots ctx path number levels coded there owed m few c_world world here ok =
        choice_owed a c value number (level_of slots (switch value body) nothing_left) levels refl there.done.0
        (flat_map (λ (it : Label). case_in a.of path it.target it) (labels_of_switch body path)) (default_or a.of path (label_where is_default (labels_of_switch body path)) ctx.place)
        m (within a c m few) c_world world here
        (λ chosen typed is less fewer c_end end there_now. switch_owed a c slots levels ctx path number value body coded there less fewer c_end end there_now chosen typed is
        (chosen_aimed typed (flat_map (λ (it : Label). case_in a.of path it.target it) (labels_of_switch body path)) (default_or a.of path (label_where is_default (labels_of_switch body path)) ctx.place) ok))
    form_owed (while test body) place slots ctx path number levels coded there owed m few c_world world here ok =
        jumps_to m _ (at_part (at_test path)) c_world world (while_turns a c m few slots nothing_left levels ctx path number c_world world coded here test body there) ok
    form_owed (do_while body test) place slots ctx path number levels coded there owed m few c_world world here ok =
        jumps_to m _ (statement_at (0 ∷ path)) c_world world
        (c.go m (statement_at (0 ∷ path)) _ _ c_world world few
        (reaches_it (0 ∷ path) (in_do a c.at (inside (do_while body test) path ctx) path number (objects_in (slots ++ slots_in levels)) body test) number
        (level_of slots (do_while body test) turn_left ∷ levels) body (ctx, path, number, coded, there, refl)
        (do_body a c.at (inside (do_while body test) path ctx) path number (objects_in (slots ++ slots_in levels)) body test there)) here) ok
    form_owed (for_loop first test next body) place slots ctx path number levels coded there owed m few c_world world here ok =
        firsts_owed first first test next body slots ctx path number 0 number levels coded there
        (for_firsts a c.at (inside (for_loop first test next body) path ctx) path number (objects_in (slots ++ slots_in levels)) first test next body there) m few c_world world here ok
    form_owed (goto name) place slots ctx path number levels coded there owed m few c_world world here ok =
        subst (λ (found : Option Label). IsAimed a c (goto_point a.of found ctx.place) →
        OwedTo a c m (c_stand a.goes (jumping place name levels a.bottom (without_objects slots (blocks_of c_world))) c_world) (point_run a c (goto_point a.of found ctx.place)) world)
        (sym (where_same (is_named name) (hits (named name)) (named_hits name) ctx.labels))
        (goto_owed a c m few place name ctx.place levels ctx (left_behind a c slots c_world) world coded (dies a c slots levels c_world world here))
        ok
    form_owed continue place slots ctx path number levels coded there owed m few c_world world here ok =
        jumps_to m _ ctx.continues (left_behind a c slots c_world) world (continue_owed a c m few place levels ctx (left_behind a c slots c_world) world coded (dies a c slots levels c_world world here)) ok
    form_owed break place slots ctx path number levels coded there owed m few c_world world here ok =
        jumps_to m _ ctx.breaks (left_behind a c slots c_world) world (break_owed a c m few place levels ctx (left_behind a c slots c_world) world coded (dies a c slots levels c_world world here)) ok
    form_owed (returns None) place slots ctx path number levels coded there owed m few c_world world here ok =
        leave_owed a c missing None (level_of slots (returns None) nothing_left ∷ levels) m (within a c m few) c_world world here (there.done (slots ++ slots_in levels) c_world world refl here)
    form_owed (returns (Some e)) place slots ctx path number levels coded there owed m few c_world world here ok =
        return_owed a c place e number (level_of slots (returns (Some e)) nothing_left ∷ levels) there.done m (within a c m few) c_world world here
    form_owed (begin object puts) place slots ctx path number levels coded there owed m few c_world world here ok =
        declared_owed place object puts number (level_of slots (begin object puts) nothing_left ∷ levels) ctx.next (ended slots (begin object puts) levels ctx.next owed) ok there.done.0 there.done.1
        m few c_world world here

    pub list_owed : (ss : CStmts) → ListOwed ss
    list_owed no_stmts all slots ctx path from index number levels coded form there owed less few c_world world here ok =
        owed less few (left_behind a c slots c_world) world (dies a c slots levels c_world world here) ok
    list_owed (more_stmts first others) all slots ctx path from index number levels coded form there owed less few c_world world here ok =
        let around = inside (block all) path ctx in
        let scope = objects_in (slots ++ slots_in levels) in
        stmt_owed first
        (before (list_point a.of around path (suc index) (number + count_in_stmt a.of.names first) others) (first_place others (suc index) path ctx.place) around) (index ∷ path) number
        (level_of slots (block all) (statements_left others) ∷ levels) (
          ctx,
          path,
          from,
          coded,
          form,
          record { index = suc index; number = number + count_in_stmt a.of.names first; there = stmts_others a c.at around path number scope index first others there; is = refl },
        )
        (stmts_first a c.at around path number scope index first others there)
        (list_owed others all slots ctx path from (suc index) (number + count_in_stmt a.of.names first) levels coded form (stmts_others a c.at around path number scope index first others there) owed)
        less few c_world world here ok

    pub firsts_owed : (ss : CStmts) → FirstsOwed ss
    firsts_owed no_stmts first test next body slots ctx path from index number levels coded form there less few c_world world here ok =
        jumps_to less _ (head_of test first path) c_world world (for_turns a c less few slots (firsts_left no_stmts) levels ctx path from c_world world coded here first test next body form) ok
    firsts_owed (more_stmts one others) first test next body slots ctx path from index number levels coded form there less few c_world world here ok =
        let around = in_firsts first test next path (inside (for_loop first test next body) path ctx) in
        let scope = objects_in (slots ++ slots_in levels) in
        stmt_owed one
        (before (list_point a.of around path (suc index) (number + count_in_stmt a.of.names one) others) (first_place others (suc index) path around.place) around) (index ∷ path) number
        (level_of slots (for_loop first test next body) (firsts_left others) ∷ levels) (
          ctx,
          path,
          from,
          coded,
          form,
          record { index = suc index; number = number + count_in_stmt a.of.names one; there = stmts_others a c.at around path number scope index one others there; is = refl },
        )
        (stmts_first a c.at around path number scope index one others there)
        (firsts_owed others first test next body slots ctx path from (suc index) (number + count_in_stmt a.of.names one) levels coded form (stmts_others a c.at around path number scope index one others there))
        less few c_world world here ok
