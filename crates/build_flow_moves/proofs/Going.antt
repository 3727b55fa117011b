-- Where control goes behind a statement, and by `break` and `continue`: to the place of what follows, of the end of a turn, or of what follows the statement that is left.
use Rattle.std.proofs.Common.{◌≡◌, ◌∙◌, ◌⊎◌, ℕ, suc, ◌+◌, ◌≤◌, Bool, true, false, List, [], ◌∷◌, ◌++◌, Option, Some, None, if◌then◌else◌, refl, sym, ap, subst}
use Rattle.build_flow_nodes.specs.Builder.{Context, inside, apart, before, in_firsts, in_switch, in_loop, statement_at, first_place, head_of, turn_place, list_point, top}
use Rattle.build_flow_nodes.specs.Parts.{count_in_stmt, count_in_stmts, count_in_condition}
use Rattle.build_flow_nodes.specs.Points.{FlowPlace, at_part}
use Rattle.cr_base.specs.declared.refusal.Place.{Place}
use Rattle.cr_runs.specs.Runs.{bad}
use Rattle.cr_world.specs.World.{World, blocks_of, with_memory}
use Rattle.cx_core.specs.Trees.{CExpr, CStmt, CStmtForm, label, case, default, block, if_then, switch, while, do_while, for_loop, CStmts, no_stmts, more_stmts}
use Rattle.cx_mean.specs.BodyGraph.{CPath, at_test, at_third, at_end, body_path}
use Rattle.cx_mean.specs.Leftmost.{c_stand}
use Rattle.cx_mean.specs.Moves.{CStand, stand, goes_nowhere, without_objects, slots_in, turning, turn_ended, next_in, level_ended, is_loop, is_left_by_break, breaking, continuing}
use Rattle.cx_mean.specs.Operands.{stuck, stops, Frame as CFrame}
use Rattle.cx_mean.specs.Paths.{CRest, nothing_left, statements_left, firsts_left, turn_left, CLevel}
use Rattle.cx_mean_laws.proofs.Unfolded.{goes_unfold}
use Rattle.build_flow_moves.specs.Coded.{LeavesNothing, SiteCoded, OpenCoded, RestCoded, FormThere, AtPlace, reaches_it, tests_it, turns_it, ends_it}
use Rattle.build_flow_moves.specs.Parts.{Stage, objects_in}
use Rattle.build_flow_moves.proofs.Course.{Course, Goes, OwedTo, nothing_owed}
use Rattle.build_flow_moves.proofs.There.{stmts_first, stmts_others, for_body, in_for, body_number}

abbrev pub level_of : CFrame → CStmtForm → CRest → CLevel
level_of slots form rest = record { slots = slots; form = form; rest = rest }

module _ (a : Stage) (c : Course a) where
  abbrev pub Coded : List CLevel → Context → Type 0
  Coded levels ctx = SiteCoded a c.at levels ctx

  -- behind a move, in the memory in which it is made
  abbrev pub StandOwed : ℕ → CStand → FlowPlace → World → World → Type 0
  StandOwed m one place c_world world = c.Allowed place → OwedTo a c m (c_stand (Goes a c) one c_world) (c.next place) world

  -- the objects of the innermost open statement have died
  abbrev pub left_behind : CFrame → World → World
  left_behind slots world = with_memory (without_objects slots (blocks_of world)) world

  pub dies : (slots : CFrame) (outer : List CLevel) (c_world world : World) → a.Here (slots ++ slots_in outer) c_world world → a.Here (slots_in outer) (left_behind slots c_world) world
  dies slots outer c_world world here = c.always.dies slots (slots_in outer) c_world world here

  nothing_place : (around : Context) (form : CStmtForm) (inner : Context) → LeavesNothing a c.at around form inner → inner.place ≡ around.place
  nothing_place around (label name body) inner is = ap (λ (x : Context). x.place) is
  nothing_place around (case value body) inner is = ap (λ (x : Context). x.place) is
  nothing_place around (default body) inner is = ap (λ (x : Context). x.place) is
  nothing_place around (if_then test body otherwise) inner is = ap (λ (x : Context). x.place) is
  nothing_place around (switch value body) inner is = ap (λ (x : Context). x.place) is
  nothing_place around form inner is = elim is [ ]

  module _ (m : ℕ) (few : m ≤ c.most) where
    place_as : (one : CStand) (place other : FlowPlace) (c_world world : World) → place ≡ other → StandOwed m one other c_world world → StandOwed m one place c_world world
    place_as one place other c_world world is owed = subst (λ (x : FlowPlace). StandOwed m one x c_world world) (sym is) owed

    -- ---- turns of loops

    module _ (slots : CFrame) (rest : CRest) (outer : List CLevel) (around : Context) (path : CPath) (number : ℕ) (c_world world : World) (site : Coded outer around)
        (here : a.Here (slots ++ slots_in outer) c_world world) where
      abbrev Open : CStmtForm → Type 0
      Open form = FormThere a c.at (inside form path around) path number (objects_in (slots ++ slots_in outer)) form

      abbrev opened : (form : CStmtForm) → Open form → OpenCoded a c.at (level_of slots form rest) outer path around number
      opened form there = record { site = site; there = there }

      abbrev turning_of : CStmtForm → CStand
      turning_of form = turning (level_of slots form rest) outer a.bottom (blocks_of c_world)

      pub while_turns : (test : CExpr) (body : CStmt) → Open (while test body) → StandOwed m (turning_of (while test body)) (at_part (at_test path)) c_world world
      while_turns test body there =
          c.go m (at_part (at_test path)) _ _ c_world world few (tests_it path around number (level_of slots (while test body) rest) outer test (opened (while test body) there) refl) here

      pub do_turns : (body : CStmt) (test : CExpr) → Open (do_while body test) → StandOwed m (turning_of (do_while body test)) (at_part (at_test path)) c_world world
      do_turns body test there =
          c.go m (at_part (at_test path)) _ _ c_world world few (tests_it path around number (level_of slots (do_while body test) rest) outer test (opened (do_while body test) there) refl) here

      pub for_turns : (first : CStmts) (test next : Option CExpr) (body : CStmt) → Open (for_loop first test next body) →
          StandOwed m (turning_of (for_loop first test next body)) (head_of test first path) c_world world
      for_turns first (Some test) next body there =
          c.go m (at_part (at_test path)) _ _ c_world world few
          (tests_it path around number (level_of slots (for_loop first (Some test) next body) rest) outer test (opened (for_loop first (Some test) next body) there) refl) here
      for_turns first None next body there =
          c.go m (statement_at (body_path first path)) _ _ c_world world few
          (reaches_it (body_path first path) (in_for a c.at (inside (for_loop first None next body) path around) path number (objects_in (slots ++ slots_in outer)) first None next body)
          (body_number a c.at (inside (for_loop first None next body) path around) path number (objects_in (slots ++ slots_in outer)) first None next)
          (level_of slots (for_loop first None next body) turn_left ∷ outer) body (around, path, number, site, there, refl)
          (for_body a c.at (inside (for_loop first None next body) path around) path number (objects_in (slots ++ slots_in outer)) first None next body there)) here

      -- the end of a turn
      pub for_turn_ends : (first : CStmts) (test next : Option CExpr) (body : CStmt) → Open (for_loop first test next body) →
          StandOwed m (turn_ended (level_of slots (for_loop first test next body) rest) outer a.bottom (blocks_of c_world)) (turn_place next (head_of test first path) path) c_world world
      for_turn_ends first test None body there = for_turns first test None body there
      for_turn_ends first test (Some next) body there =
          c.go m (at_part (at_third path)) _ _ c_world world few
          (turns_it path around number (level_of slots (for_loop first test (Some next) body) rest) outer next (opened (for_loop first test (Some next) body) there) refl) here

    -- ---- what follows

    pub place_by : (slots : CFrame) (form : CStmtForm) (rest : CRest) (outer : List CLevel) (around : Context) (path : CPath) (number : ℕ) (ctx : Context) (c_world world : World) →
        Coded outer around → ((c_end end : World) → a.Here (slots_in outer) c_end end → StandOwed m (next_in outer a.bottom (blocks_of c_end)) around.place c_end end) →
        FormThere a c.at (inside form path around) path number (objects_in (slots ++ slots_in outer)) form →
        RestCoded a c.at (inside form path around) path number (objects_in (slots ++ slots_in outer)) form rest ctx → a.Here (slots ++ slots_in outer) c_world world →
        StandOwed m (next_in (level_of slots form rest ∷ outer) a.bottom (blocks_of c_world)) ctx.place c_world world
    place_by slots form nothing_left outer around path number ctx c_world world site behind there rest here =
        place_as _ ctx.place around.place c_world world (nothing_place (inside form path around) form ctx rest)
        (behind (left_behind slots c_world) world (dies slots outer c_world world here))
    place_by slots (block all) (statements_left no_stmts) outer around path number ctx c_world world site behind there rest here =
        place_as _ ctx.place around.place c_world world (ap (λ (x : Context). x.place) rest.is)
        (behind (left_behind slots c_world) world (dies slots outer c_world world here))
    place_by slots (block all) (statements_left (more_stmts first others)) outer around path number ctx c_world world site behind there rest here =
        let within = inside (block all) path around in
        let scope = objects_in (slots ++ slots_in outer) in
        place_as _ ctx.place (statement_at (rest.index ∷ path)) c_world world (ap (λ (x : Context). x.place) rest.is)
        (c.go m (statement_at (rest.index ∷ path)) _ _ c_world world few
        (reaches_it (rest.index ∷ path)
        (before (list_point a.of within path (suc rest.index) (rest.number + count_in_stmt a.of.names first) others) (first_place others (suc rest.index) path around.place) within)
        rest.number (level_of slots (block all) (statements_left others) ∷ outer) first (
          around,
          path,
          number,
          site,
          there,
          record { index = suc rest.index; number = rest.number + count_in_stmt a.of.names first; there = stmts_others a c.at within path rest.number scope rest.index first others rest.there; is = refl },
        )
        (stmts_first a c.at within path rest.number scope rest.index first others rest.there)) here)
    place_by slots form (statements_left all) outer around path number ctx c_world world site behind there rest here = elim rest [ ]
    place_by slots (for_loop first test next body) (firsts_left no_stmts) outer around path number ctx c_world world site behind there rest here =
        place_as _ ctx.place (head_of test first path) c_world world (ap (λ (x : Context). x.place) rest.is)
        (for_turns slots (firsts_left no_stmts) outer around path number c_world world site here first test next body there)
    place_by slots (for_loop first test next body) (firsts_left (more_stmts one others)) outer around path number ctx c_world world site behind there rest here =
        let within = in_firsts first test next path (inside (for_loop first test next body) path around) in
        let scope = objects_in (slots ++ slots_in outer) in
        place_as _ ctx.place (statement_at (rest.index ∷ path)) c_world world (ap (λ (x : Context). x.place) rest.is)
        (c.go m (statement_at (rest.index ∷ path)) _ _ c_world world few
        (reaches_it (rest.index ∷ path)
        (before (list_point a.of within path (suc rest.index) (rest.number + count_in_stmt a.of.names one) others) (first_place others (suc rest.index) path within.place) within)
        rest.number (level_of slots (for_loop first test next body) (firsts_left others) ∷ outer) one (
          around,
          path,
          number,
          site,
          there,
          record { index = suc rest.index; number = rest.number + count_in_stmt a.of.names one; there = stmts_others a c.at within path rest.number scope rest.index one others rest.there; is = refl },
        )
        (stmts_first a c.at within path rest.number scope rest.index one others rest.there)) here)
    place_by slots form (firsts_left all) outer around path number ctx c_world world site behind there rest here = elim rest [ ]
    place_by slots (while test body) turn_left outer around path number ctx c_world world site behind there rest here =
        place_as _ ctx.place (at_part (at_test path)) c_world world (ap (λ (x : Context). x.place) rest)
        (while_turns slots turn_left outer around path number c_world world site here test body there)
    place_by slots (do_while body test) turn_left outer around path number ctx c_world world site behind there rest here =
        place_as _ ctx.place (at_part (at_test path)) c_world world (ap (λ (x : Context). x.place) rest)
        (do_turns slots turn_left outer around path number c_world world site here body test there)
    place_by slots (for_loop first test next body) turn_left outer around path number ctx c_world world site behind there rest here =
        place_as _ ctx.place (turn_place next (head_of test first path) path) c_world world (ap (λ (x : Context). x.place) rest)
        (for_turn_ends slots turn_left outer around path number c_world world site here first test next body there)
    place_by slots form turn_left outer around path number ctx c_world world site behind there rest here = elim rest [ ]

    pub place_owed : (levels : List CLevel) (ctx : Context) (c_world world : World) → Coded levels ctx → a.Here (slots_in levels) c_world world →
        StandOwed m (next_in levels a.bottom (blocks_of c_world)) ctx.place c_world world
    place_owed [] ctx c_world world coded here =
        place_as _ ctx.place (at_part at_end) c_world world (ap (λ (x : Context). x.place) coded) (c.go m (at_part at_end) _ [] c_world world few ends_it here)
    place_owed (level ∷ outer) ctx c_world world coded here =
        place_by level.slots level.form level.rest outer coded.0 coded.1 coded.2 ctx c_world world coded.3
        (λ c_end end there. place_owed outer coded.0 c_end end coded.3 there) coded.4 coded.5 here

  -- ---- `break` and `continue`

  -- where `break` goes from a part of a statement, and where `continue` does
  abbrev left_to : Bool → FlowPlace → FlowPlace → FlowPlace
  left_to is_left here outer = if is_left then here else outer

  breaks_to : (around : Context) (path : CPath) (number : ℕ) (scope : List ℕ) (form : CStmtForm) (rest : CRest) (inner : Context) → RestCoded a c.at around path number scope form rest inner →
      inner.breaks ≡ left_to (is_left_by_break form) around.place around.breaks
  breaks_to around path number scope (label name body) nothing_left inner coded = ap (λ (x : Context). x.breaks) coded
  breaks_to around path number scope (case value body) nothing_left inner coded = ap (λ (x : Context). x.breaks) coded
  breaks_to around path number scope (default body) nothing_left inner coded = ap (λ (x : Context). x.breaks) coded
  breaks_to around path number scope (if_then test body otherwise) nothing_left inner coded = ap (λ (x : Context). x.breaks) coded
  breaks_to around path number scope (switch value body) nothing_left inner coded = ap (λ (x : Context). x.breaks) coded
  breaks_to around path number scope form nothing_left inner coded = elim coded [ ]
  breaks_to around path number scope (block all) (statements_left others) inner coded = ap (λ (x : Context). x.breaks) coded.is
  breaks_to around path number scope form (statements_left others) inner coded = elim coded [ ]
  breaks_to around path number scope (for_loop first test next body) (firsts_left others) inner coded = ap (λ (x : Context). x.breaks) coded.is
  breaks_to around path number scope form (firsts_left others) inner coded = elim coded [ ]
  breaks_to around path number scope (while test body) turn_left inner coded = ap (λ (x : Context). x.breaks) coded
  breaks_to around path number scope (do_while body test) turn_left inner coded = ap (λ (x : Context). x.breaks) coded
  breaks_to around path number scope (for_loop first test next body) turn_left inner coded = ap (λ (x : Context). x.breaks) coded
  breaks_to around path number scope form turn_left inner coded = elim coded [ ]

  -- the end of a turn
  abbrev turn_end : CStmtForm → CPath → FlowPlace → FlowPlace
  turn_end (while test body) path outer = at_part (at_test path)
  turn_end (do_while body test) path outer = at_part (at_test path)
  turn_end (for_loop first test next body) path outer = turn_place next (head_of test first path) path
  turn_end form path outer = outer

  continues_to : (around : Context) (path : CPath) (number : ℕ) (scope : List ℕ) (form : CStmtForm) (rest : CRest) (inner : Context) → RestCoded a c.at around path number scope form rest inner →
      inner.continues ≡ turn_end form path around.continues
  continues_to around path number scope (label name body) nothing_left inner coded = ap (λ (x : Context). x.continues) coded
  continues_to around path number scope (case value body) nothing_left inner coded = ap (λ (x : Context). x.continues) coded
  continues_to around path number scope (default body) nothing_left inner coded = ap (λ (x : Context). x.continues) coded
  continues_to around path number scope (if_then test body otherwise) nothing_left inner coded = ap (λ (x : Context). x.continues) coded
  continues_to around path number scope (switch value body) nothing_left inner coded = ap (λ (x : Context). x.continues) coded
  continues_to around path number scope form nothing_left inner coded = elim coded [ ]
  continues_to around path number scope (block all) (statements_left others) inner coded = ap (λ (x : Context). x.continues) coded.is
  continues_to around path number scope form (statements_left others) inner coded = elim coded [ ]
  continues_to around path number scope (for_loop first test next body) (firsts_left others) inner coded = ap (λ (x : Context). x.continues) coded.is
  continues_to around path number scope form (firsts_left others) inner coded = elim coded [ ]
  continues_to around path number scope (while test body) turn_left inner coded = ap (λ (x : Context). x.continues) coded
  continues_to around path number scope (do_while body test) turn_left inner coded = ap (λ (x : Context). x.continues) coded
  continues_to around path number scope (for_loop first test next body) turn_left inner coded = ap (λ (x : Context). x.continues) coded
  continues_to around path number scope form turn_left inner coded = elim coded [ ]

  module _ (m : ℕ) (few : m ≤ c.most) where
    stuck_owed : (where_it_is : Place) (place : FlowPlace) (c_world world : World) → StandOwed m (stand (goes_nowhere where_it_is) (blocks_of c_world)) place c_world world
    stuck_owed where_it_is place c_world world ok =
        nothing_owed a c m (stops stuck where_it_is) c_world (Goes a c (goes_nowhere where_it_is) c_world) (c.next place) world (λ k. a.unfolds (goes_nowhere where_it_is) c_world k)

    break_by : (where_it_is : Place) (level : CLevel) (outer : List CLevel) (around : Context) (c_world world : World) (is_left : Bool) →
        StandOwed m (next_in outer a.bottom (without_objects level.slots (blocks_of c_world))) around.place c_world world →
        StandOwed m (breaking where_it_is outer a.bottom (without_objects level.slots (blocks_of c_world))) around.breaks c_world world →
        StandOwed m (elim is_left as (λ _. CStand) [
          | true ↦ level_ended level outer a.bottom (blocks_of c_world)
          | false ↦ breaking where_it_is outer a.bottom (without_objects level.slots (blocks_of c_world))
        ])
        (left_to is_left around.place around.breaks) c_world world
    break_by where_it_is level outer around c_world world true here behind = here
    break_by where_it_is level outer around c_world world false here behind = behind

    pub break_owed : (where_it_is : Place) (levels : List CLevel) (ctx : Context) (c_world world : World) → Coded levels ctx → a.Here (slots_in levels) c_world world →
        StandOwed m (breaking where_it_is levels a.bottom (blocks_of c_world)) ctx.breaks c_world world
    break_owed where_it_is [] ctx c_world world coded here = stuck_owed where_it_is ctx.breaks c_world world
    break_owed where_it_is (level ∷ outer) ctx c_world world coded here =
        place_as m few _ ctx.breaks (left_to (is_left_by_break level.form) coded.0.place coded.0.breaks) c_world world
        (breaks_to (inside level.form coded.1 coded.0) coded.1 coded.2 (objects_in (slots_in (level ∷ outer))) level.form level.rest ctx coded.5)
        (break_by where_it_is level outer coded.0 c_world world (is_left_by_break level.form)
        (place_owed m few outer coded.0 (left_behind level.slots c_world) world coded.3 (dies level.slots outer c_world world here))
        (break_owed where_it_is outer coded.0 (left_behind level.slots c_world) world coded.3 (dies level.slots outer c_world world here)))

    -- by the form of the innermost statement
    continue_by : (where_it_is : Place) (slots : CFrame) (form : CStmtForm) (rest : CRest) (outer : List CLevel) (around : Context) (path : CPath) (number : ℕ) (c_world world : World) →
        Coded outer around →
        ((c_end end : World) → a.Here (slots_in outer) c_end end → StandOwed m (continuing where_it_is outer a.bottom (blocks_of c_end)) around.continues c_end end) →
        FormThere a c.at (inside form path around) path number (objects_in (slots ++ slots_in outer)) form → a.Here (slots ++ slots_in outer) c_world world →
        StandOwed m (continuing where_it_is (level_of slots form rest ∷ outer) a.bottom (blocks_of c_world)) (turn_end form path around.continues) c_world world
    continue_by where_it_is slots (while test body) rest outer around path number c_world world site behind there here =
        while_turns m few slots rest outer around path number c_world world site here test body there
    continue_by where_it_is slots (do_while body test) rest outer around path number c_world world site behind there here =
        do_turns m few slots rest outer around path number c_world world site here body test there
    continue_by where_it_is slots (for_loop first test next body) rest outer around path number c_world world site behind there here =
        for_turn_ends m few slots rest outer around path number c_world world site here first test next body there
    continue_by where_it_is slots form rest outer around path number c_world world site behind there here =
        behind (left_behind slots c_world) world (dies slots outer c_world world here)

    pub continue_owed : (where_it_is : Place) (levels : List CLevel) (ctx : Context) (c_world world : World) → Coded levels ctx → a.Here (slots_in levels) c_world world →
        StandOwed m (continuing where_it_is levels a.bottom (blocks_of c_world)) ctx.continues c_world world
    continue_owed where_it_is [] ctx c_world world coded here = stuck_owed where_it_is ctx.continues c_world world
    continue_owed where_it_is (level ∷ outer) ctx c_world world coded here =
        place_as m few _ ctx.continues (turn_end level.form coded.1 coded.0.continues) c_world world
        (continues_to (inside level.form coded.1 coded.0) coded.1 coded.2 (objects_in (slots_in (level ∷ outer))) level.form level.rest ctx coded.5)
        (continue_by where_it_is level.slots level.form level.rest outer coded.0 coded.1 coded.2 c_world world coded.3
        (λ c_end end there. continue_owed where_it_is outer coded.0 c_end end coded.3 there) coded.4 here)
