-- Ways of jumps: the objects on them begin, and then the labelled statement is reached.
use Rattle.std.proofs.Common.{◌≡◌, ◌∙◌, ℕ, suc, ◌+◌, ◌≤◌, Bool, true, false, List, [], ◌∷◌, ◌++◌, map, Option, Some, None, if◌then◌else◌, refl, sym, ap, subst, append_assoc}
use Rattle.std.proofs.lemmas.List.{append-nil}
use Rattle.build_flow_nodes.specs.Builder.{Context, inside, statement_at, goto_point, top}
use Rattle.build_flow_nodes.specs.Labels.{Label, labels_in, label_where}
use Rattle.build_flow_nodes.specs.Parts.{BodyNames, cleared, all_cleared, begun}
use Rattle.build_flow_nodes.specs.Points.{FlowPlace, Point, jump, behind}
use Rattle.cr_base.specs.declared.refusal.Place.{Place}
use Rattle.cr_world.specs.World.{World, blocks_of}
use Rattle.cx_core.specs.Trees.{CStmt, CStmtForm, label, case, default, block, if_then, switch, while, do_while, for_loop, CStmts}
use Rattle.cx_mean.specs.BodyGraph.{CPath, is_named}
use Rattle.cx_mean.specs.Leftmost.{c_stand}
use Rattle.cx_mean.specs.Moves.{follows, goes_nowhere, CStand, stand, without_objects, slots_in, following, entered, beginning, jumping}
use Rattle.cx_mean.specs.Operands.{Slot, stuck, stops, Frame as CFrame}
use Rattle.cx_mean.specs.Paths.{CRest, nothing_left, statements_left, firsts_left, turn_left, CLevel, CSite, site_at, CTarget, named, case_of, default_case, CWay, arrives, opens, CInside, way_in}
use Rattle.rs_text.specs.Tree.{Stmt}
use Rattle.build_flow_moves.specs.Coded.{SiteCoded, FormThere, RestCoded, WayCoded, reaches_it}
use Rattle.build_flow_moves.specs.Parts.{Stage, objects_in}
use Rattle.build_flow_moves.proofs.Course.{Course, Goes, OwedTo, IsAimed, point_run, jump_runs, nothing_owed, owed_by, owed_as}
use Rattle.build_flow_moves.proofs.Doing.{OpenOwed, behind_behind, begun_none, begin_owed, begins_owed}
use Rattle.build_flow_moves.proofs.Going.{Coded, level_of, left_behind, dies}
use Rattle.build_flow_moves.proofs.Steps.{Within, within}
use Rattle.build_flow_moves.proofs.Ways.{hits, either_label, where_both, where_same, FoundAt, FoundIn, SameIn, form_way}

cleared_both : (of : BodyNames) (first others : List ℕ) → all_cleared of (first ++ others) ≡ all_cleared of first ++ all_cleared of others
cleared_both of [] others = refl
cleared_both of (one ∷ first) others =
    ap (λ (ss : List Stmt). cleared of one ++ ss) (cleared_both of first others) ∙ sym (append_assoc (cleared of one) (all_cleared of first) (all_cleared of others))

begun_both : (of : BodyNames) (first others : List ℕ) → begun of (first ++ others) ≡ begun of first ++ begun of others
begun_both of first others = by_bits of.names.has_bits
  where
    by_bits : (bits : Bool) → (if bits then all_cleared of (first ++ others) else []) ≡ (if bits then all_cleared of first else []) ++ (if bits then all_cleared of others else [])
    by_bits true = cleared_both of first others
    by_bits false = refl

objects_both : (first others : CFrame) → objects_in (first ++ others) ≡ objects_in first ++ objects_in others
objects_both [] others = refl
objects_both (one ∷ first) others = ap (λ (xs : List ℕ). one.object ∷ xs) (objects_both first others)

module _ (a : Stage) (c : Course a) where
  -- ---- ways

  abbrev pub way_point : List ℕ → CPath → Point
  way_point objects target = behind (begun a.of objects) (jump (statement_at target))

  abbrev pub WayOwed : ℕ → CWay → List CLevel → List ℕ → CPath → Type 0
  WayOwed m way levels objects target =
      (c_world world : World) → a.Here (slots_in levels) c_world world → c.Allowed (statement_at target) → OwedTo a c m (a.goes (following way (site_at levels a.bottom)) c_world) (point_run a c (way_point objects target)) world

  opens_so : (own : List ℕ) (form : CStmtForm) (rest : CRest) (way : CWay) (levels : List CLevel) (c_world : World) (k : ℕ) →
      a.goes (following (opens own form rest way) (site_at levels a.bottom)) c_world k
      ≡ c_stand a.goes (beginning a.setting own (follows way) (level_of [] form rest) (site_at levels a.bottom) (blocks_of c_world)) c_world k
  opens_so [] form rest way levels c_world k = refl
  opens_so (first ∷ others) form rest way levels c_world k = refl

  way_split : (own others objects : List ℕ) (target : CPath) → objects ≡ own ++ others → way_point objects target ≡ behind (begun a.of own) (way_point others target)
  way_split own others objects target is =
      ap (λ (xs : List ℕ). way_point xs target) is ∙ ap (λ (ss : List Stmt). behind ss (jump (statement_at target))) (begun_both a.of own others)
      ∙ behind_behind (begun a.of own) (begun a.of others) (jump (statement_at target))

  -- the statement is opened, and the way goes on inside
  opened_owed : (own : List ℕ) (form : CStmtForm) (rest : CRest) (way : CWay) (levels : List CLevel) (ctx inner : Context) (path : CPath) (number : ℕ) (target : CPath) (others : List ℕ) → Coded a c levels ctx →
      (there : FormThere a c.at (inside form path ctx) path number (own ++ objects_in (slots_in levels)) form) →
      RestCoded a c.at (inside form path ctx) path number (own ++ objects_in (slots_in levels)) form rest inner → WayCoded a c.at way inner (own ++ objects_in (slots_in levels)) target others →
      c.Allowed (statement_at target) → ((m : ℕ) → m ≤ c.most → (more : List CLevel) (around : Context) → Coded a c more around → WayCoded a c.at way around (objects_in (slots_in more)) target others → WayOwed m way more others target) →
      OpenOwed a c (follows way) form rest levels (way_point others target) own
  opened_owed own form rest way levels ctx inner path number target others coded there rests ways ok owed slots are less few c_world world here =
      let same = ap (λ (xs : List ℕ). xs ++ objects_in (slots_in levels)) (sym are) ∙ sym (objects_both slots (slots_in levels)) in
      owed less few (level_of slots form rest ∷ levels) inner (
        ctx,
        path,
        number,
        coded,
        subst (λ (scope : List ℕ). FormThere a c.at (inside form path ctx) path number scope form) same there,
        subst (λ (scope : List ℕ). RestCoded a c.at (inside form path ctx) path number scope form rest inner) same rests,
      )
      (subst (λ (scope : List ℕ). WayCoded a c.at way inner scope target others) same ways) c_world world here ok

  pub way_owed : (way : CWay) (m : ℕ) → m ≤ c.most → (levels : List CLevel) (ctx : Context) (objects : List ℕ) (target : CPath) → Coded a c levels ctx →
      WayCoded a c.at way ctx (objects_in (slots_in levels)) target objects → WayOwed m way levels objects target
  way_owed (arrives s) m few levels ctx objects target coded way c_world world here ok =
      owed_by a c m _ (point_run a c (way_point objects target)) (c.next (statement_at target)) world world
      (λ k. ap (λ (xs : List ℕ). point_run a c (way_point xs target) world k) way.2 ∙ ap (λ (ss : List Stmt). point_run a c (behind ss (jump (statement_at target))) world k) (begun_none a.of)
      ∙ jump_runs a c (statement_at target) world k)
      (c.go m (statement_at target) _ _ c_world world few (reaches_it target ctx way.0 levels s coded way.1) here ok)
  way_owed (opens own form rest way) m few levels ctx objects target coded ways c_world world here ok =
      owed_as a c m _ (c_stand a.goes (beginning a.setting own (follows way) (level_of [] form rest) (site_at levels a.bottom) (blocks_of c_world)) c_world)
      (point_run a c (way_point objects target)) (point_run a c (behind (begun a.of own) (way_point ways.3 target))) world world
      (opens_so own form rest way levels c_world) (λ k. ap (λ (it : Point). point_run a c it world k) (way_split own ways.3 objects target ways.8))
      (begin_owed a c (follows way) form rest levels (way_point ways.3 target) own m few [] ways.4
      (opened_owed own form rest way levels ctx ways.2 ways.0 ways.1 target ways.3 coded ways.5 ways.6 ways.7 ok
      (λ less fewer more around more_coded there. way_owed way less fewer more around ways.3 target more_coded there)) c_world world here)

  none_begun : (first : Stmt) (others : List Stmt) (objects : List ℕ) → objects ≡ [] → begun a.of objects ≡ first ∷ others → ⊥
  none_begun first others objects is some = let none = sym (begun_none a.of) ∙ ap (λ (xs : List ℕ). begun a.of xs) (sym is) ∙ some in absurd cc

  -- of objects that begin, one at least: the first takes a step
  pub edge_owed : (way : CWay) (m : ℕ) → Within a c m → (levels : List CLevel) (ctx : Context) (objects : List ℕ) (target : CPath) (first : Stmt) (rest : List Stmt) → Coded a c levels ctx →
      WayCoded a c.at way ctx (objects_in (slots_in levels)) target objects → begun a.of objects ≡ first ∷ rest → WayOwed m way levels objects target
  edge_owed (arrives s) m near levels ctx objects target first rest coded way some c_world world here ok = absurd (none_begun first rest objects way.2 some)
  edge_owed (opens [] form left way) m near levels ctx objects target first rest coded ways some c_world world here ok =
      let same = ways.8 in
      owed_by a c m _ (point_run a c (way_point objects target)) (point_run a c (way_point ways.3 target)) world world (λ k. ap (λ (xs : List ℕ). point_run a c (way_point xs target) world k) same)
      (edge_owed way m near (level_of [] form left ∷ levels) ways.2 ways.3 target first rest (ctx, ways.0, ways.1, coded, ways.5, ways.6) ways.7
      (ap (λ (xs : List ℕ). begun a.of xs) (sym same) ∙ some) c_world world here ok)
  edge_owed (opens (one ∷ own) form left way) m near levels ctx objects target first rest coded ways some c_world world here ok =
      owed_by a c m _ (point_run a c (way_point objects target)) (point_run a c (behind (begun a.of (one ∷ own)) (way_point ways.3 target))) world world
      (λ k. ap (λ (it : Point). point_run a c it world k) (way_split (one ∷ own) ways.3 objects target ways.8))
      (begins_owed a c (follows way) form left levels (way_point ways.3 target) one own m near ways.4
      (opened_owed (one ∷ own) form left way levels ctx ways.2 ways.0 ways.1 target ways.3 coded ways.5 ways.6 ways.7 ok
      (λ less fewer more around more_coded there. way_owed way less fewer more around ways.3 target more_coded there)) c_world world here)

  -- ---- `goto`

  labels_behind : (around : Context) (path : CPath) (number : ℕ) (scope : List ℕ) (form : CStmtForm) (rest : CRest) (inner : Context) → RestCoded a c.at around path number scope form rest inner → inner.labels ≡ around.labels
  labels_behind around path number scope (label name body) nothing_left inner coded = ap (λ (x : Context). x.labels) coded
  labels_behind around path number scope (case value body) nothing_left inner coded = ap (λ (x : Context). x.labels) coded
  labels_behind around path number scope (default body) nothing_left inner coded = ap (λ (x : Context). x.labels) coded
  labels_behind around path number scope (if_then test body otherwise) nothing_left inner coded = ap (λ (x : Context). x.labels) coded
  labels_behind around path number scope (switch value body) nothing_left inner coded = ap (λ (x : Context). x.labels) coded
  labels_behind around path number scope form nothing_left inner coded = elim coded [ ]
  labels_behind around path number scope (block all) (statements_left others) inner coded = ap (λ (x : Context). x.labels) coded.is
  labels_behind around path number scope form (statements_left others) inner coded = elim coded [ ]
  labels_behind around path number scope (for_loop first test next body) (firsts_left others) inner coded = ap (λ (x : Context). x.labels) coded.is
  labels_behind around path number scope form (firsts_left others) inner coded = elim coded [ ]
  labels_behind around path number scope (while test body) turn_left inner coded = ap (λ (x : Context). x.labels) coded
  labels_behind around path number scope (do_while body test) turn_left inner coded = ap (λ (x : Context). x.labels) coded
  labels_behind around path number scope (for_loop first test next body) turn_left inner coded = ap (λ (x : Context). x.labels) coded
  labels_behind around path number scope form turn_left inner coded = elim coded [ ]

  abbrev JumpOwed : ℕ → CStand → Option Label → FlowPlace → World → World → Type 0
  JumpOwed m one found place c_world world = IsAimed a c (goto_point a.of found place) → OwedTo a c m (c_stand a.goes one c_world) (point_run a c (goto_point a.of found place)) world

  jump_by : (m : ℕ) → m ≤ c.most → (where_it_is : Place) (name : List ℕ) (place : FlowPlace) (level : CLevel) (outer : List CLevel) (around : Context) (path : CPath) (number : ℕ) (c_world world : World) →
      Coded a c outer around → (there : FormThere a c.at (inside level.form path around) path number (objects_in (slots_in (level ∷ outer))) level.form) → a.Here (slots_in (level ∷ outer)) c_world world →
      (other : Option Label) → JumpOwed m (jumping where_it_is name outer a.bottom (blocks_of (left_behind a c level.slots c_world))) other place (left_behind a c level.slots c_world) world →
      (found : Option CInside) (one : Option Label) → SameIn a c.at (inside level.form path around) path number (objects_in (slots_in (level ∷ outer))) level.form [] found one →
      JumpOwed m (elim found as (λ _. CStand) [
        | Some it ↦ stand (entered it level outer a.bottom) (blocks_of c_world)
        | None ↦ jumping where_it_is name outer a.bottom (without_objects level.slots (blocks_of c_world))
      ])
      (either_label one other) place c_world world
  jump_by m few where_it_is name place level outer around path number c_world world site there here other owed None None same ok = owed ok
  jump_by m few where_it_is name place level outer around path number c_world world site there here other owed (Some it) (Some one) same ok =
      way_owed it.way m few (level_of level.slots level.form it.rest ∷ outer) same.inner one.objects one.path (around, path, number, site, there, same.rest)
      (subst (λ (objects : List ℕ). WayCoded a c.at it.way same.inner (objects_in (slots_in (level ∷ outer))) one.path objects) (sym same.found.are) same.found.coded) c_world world here ok.0
  jump_by m few where_it_is name place level outer around path number c_world world site there here other owed None (Some one) same ok = elim same [ ]
  jump_by m few where_it_is name place level outer around path number c_world world site there here other owed (Some it) None same ok = elim same [ ]

  pub goto_owed : (m : ℕ) → m ≤ c.most → (where_it_is : Place) (name : List ℕ) (place : FlowPlace) (levels : List CLevel) (ctx : Context) (c_world world : World) → Coded a c levels ctx →
      a.Here (slots_in levels) c_world world →
      JumpOwed m (jumping where_it_is name levels a.bottom (blocks_of c_world)) (label_where (hits (named name)) ctx.labels) place c_world world
  goto_owed m few where_it_is name place [] ctx c_world world coded here ok =
      nothing_owed a c m (stops stuck where_it_is) c_world _ (point_run a c (goto_point a.of (label_where (hits (named name)) ctx.labels) place)) world (λ k. a.unfolds (goes_nowhere where_it_is) c_world k)
  goto_owed m few where_it_is name place (level ∷ outer) ctx c_world world coded here ok =
      subst (λ (found : Option Label). JumpOwed m (jumping where_it_is name (level ∷ outer) a.bottom (blocks_of c_world)) found place c_world world)
      (sym (ap (λ (labels : List Label). label_where (hits (named name)) labels)
      (labels_behind (inside level.form coded.1 coded.0) coded.1 coded.2 (objects_in (slots_in (level ∷ outer))) level.form level.rest ctx coded.5)
      ∙ where_both (hits (named name)) (labels_in false level.form coded.1 []) coded.0.labels))
      (jump_by m few where_it_is name place level outer coded.0 coded.1 coded.2 c_world world coded.3 coded.4 here (label_where (hits (named name)) coded.0.labels)
      (goto_owed m few where_it_is name place outer coded.0 (left_behind a c level.slots c_world) world coded.3 (dies a c level.slots outer c_world world here))
      (way_in (named name) level.form) (label_where (hits (named name)) (labels_in false level.form coded.1 []))
      (form_way a c.at (named name) false refl level.form (inside level.form coded.1 coded.0) coded.1 coded.2 (objects_in (slots_in (level ∷ outer))) [] coded.4)) ok
