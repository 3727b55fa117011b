-- What comes next in a body that stands in some units (ISO C99, 6.8): it stands there, too.
use Rattle.std.proofs.Common.{ℕ, ℤ, Bool, true, false, All, List, [], ◌∷◌, Option, Some, None, IfSome, Result, Ok, Err}
use Rattle.std.proofs.lemmas.List.Elements.{All-head, All-tail}
use Rattle.cr_base.specs.declared.refusal.Place.{Place}
use Rattle.cx_core.specs.Trees.{place_of, CPuts, put, no_puts, more_puts, CStmt, stmt, CStmtForm, label, case, default, block, expression, if_then, switch, while, do_while, for_loop, goto, continue, break, returns, begin, no_else, else_do, no_stmts, more_stmts, CObject}
use Rattle.cx_mean.specs.Initialisers.{CCleared, object_cleared}
use Rattle.cx_mean.specs.Moves.{CBehind, in_body, of_statics, puts_it, CGoal, does_form, follows, CMove, values, goes_nowhere, CStand, stand, without_objects, slots_in, turning, turn_ended, next_in, breaking, following, jumping, static_puts, putting, doing, opened_to, beginning, reached, choosing, switching, turning_on}
use Rattle.cx_mean.specs.Operands.{CWhy, Frame}
use Rattle.cx_mean.specs.Paths.{CRest, nothing_left, statements_left, firsts_left, turn_left, CLevel, CBottom, CSite, site_at, with_level, with_rest, named, case_of, default_case, CWay, arrives, opens, CInside, way_in, way_to}
use Rattle.cx_mean.specs.Settings.{CSetting}
use Rattle.mem_bytes.specs.Memory.{Blocks}
use Rattle.cx_placed.specs.Places.{PutsStandIn, StmtStandsIn, StmtFormStandsIn, ObjectStandsIn}
use Rattle.cx_stops.proofs.Nodes.{expr_place}
use Rattle.cx_stops.proofs.Standing.{RestStandsIn, LevelsStandIn, SiteStandsIn, WayStandsIn, GoalStandsIn, BehindStandsIn, MoveStandsIn}
use Rattle.cx_stops.proofs.Ways.{InsideStandsIn, way_stands, inside_stands}

-- ---- the words in which bodies go on

abbrev is_loop : CStmtForm → Bool
is_loop (while test body) = true
is_loop (do_while body test) = true
is_loop (for_loop first test next body) = true
is_loop form = false

-- `continue`, as `doing` says it
abbrev continuing : Place → List CLevel → CBottom → Blocks → CStand
continuing place [] bottom blocks = stand (goes_nowhere place) blocks
continuing place (level ∷ outer) bottom blocks = elim (is_loop level.form) as (λ _. CStand) [
  | true ↦ turn_ended level outer bottom blocks
  | false ↦ continuing place outer bottom (without_objects level.slots blocks)
]

abbrev puts_in : Option CPuts → CPuts
puts_in None = no_puts
puts_in (Some puts) = puts

-- a put's value is evaluated, or what is behind the puts follows
abbrev first_put : ℕ → CPuts → CBehind → CMove → CMove
first_put number no_puts behind after = after
first_put number (more_puts (put spot type value) others) behind after =
    values value (puts_it (place_of value) (record { object = number; spot = spot; type = type; others = others; behind = behind }))

-- an object is reached whose initialiser is stored
abbrev reached_object : Place → ℕ → Option CPuts → CSite → Result CCleared CWhy → Blocks → CStand
reached_object place number puts site (Ok one) blocks = putting number (puts_in puts) (in_body site) one.blocks
reached_object place number puts site (Err why) blocks = stand (goes_nowhere place) blocks

abbrev way_of_switch : ℤ → CStmt → Option CWay → Option CWay
way_of_switch value body (Some way) = Some way
way_of_switch value body None = way_to default_case body

-- where the way of a `switch` leads, or what follows behind it
abbrev switched_by : Option CWay → CLevel → List CLevel → CBottom → Blocks → CStand
switched_by None level outer bottom blocks = next_in (with_rest nothing_left level ∷ outer) bottom blocks
switched_by (Some way) level outer bottom blocks = stand (following way (site_at (with_rest nothing_left level ∷ outer) bottom)) blocks

module _ (Among : ℕ → Type 0) where
  -- what comes next stands where its move does, whatever memory it is made in
  abbrev pub NextStandsIn : CStand → Type 0
  NextStandsIn one = MoveStandsIn Among one.move

  -- ---- moves

  following_stands : (way : CWay) (site : CSite) → WayStandsIn Among way → SiteStandsIn Among site → MoveStandsIn Among (following way site)
  following_stands (arrives target) site is around = (is, around)
  following_stands (opens [] form rest way) site is around = following_stands way (with_level (record { slots = []; form = form; rest = rest }) site) is.2 (is.0, is.1, around)
  following_stands (opens (first ∷ others) form rest way) site is around = (is.0, is.1, around, is.2)

  first_stands : (number : ℕ) (puts : CPuts) (behind : CBehind) (after : CMove) → PutsStandIn Among puts → BehindStandsIn Among behind → MoveStandsIn Among after → MoveStandsIn Among (first_put number puts behind after)
  first_stands number no_puts behind after stand around then = then
  first_stands number (more_puts (put spot type value) others) behind after stand around then = (stand.0, (expr_place Among value stand.0, stand.1, around))

  puts_stand : (puts : Option CPuts) → IfSome puts (PutsStandIn Among) → PutsStandIn Among (puts_in puts)
  puts_stand None stand = tt
  puts_stand (Some puts) stand = stand

  pub statics_stand : (all : List CObject) → All (ObjectStandsIn Among) all → MoveStandsIn Among (static_puts all)
  statics_stand [] are = tt
  statics_stand (one ∷ others) are =
      let rest = All-tail (ObjectStandsIn Among) one others are in
      first_stands one.object (puts_in one.puts) (of_statics others) (static_puts others) (puts_stand one.puts (All-head (ObjectStandsIn Among) one others are)) rest (statics_stand others rest)

  -- ---- what follows

  turning_stands : (slots : Frame) (form : CStmtForm) (rest : CRest) (outer : List CLevel) (bottom : CBottom) (blocks : Blocks) → StmtFormStandsIn Among form → RestStandsIn Among rest → LevelsStandIn Among outer
      → NextStandsIn (turning (record { slots = slots; form = form; rest = rest }) outer bottom blocks)
  turning_stands slots (while test body) rest outer bottom blocks is left around = (is.0, (expr_place Among test is.0, (is, left, around)))
  turning_stands slots (do_while body test) rest outer bottom blocks is left around = (is.1, (expr_place Among test is.1, (is, left, around)))
  turning_stands slots (for_loop first (Some test) next body) rest outer bottom blocks is left around = (is.1, (expr_place Among test is.1, (is, left, around)))
  turning_stands slots (for_loop first None next body) rest outer bottom blocks is left around = (is.3, (is, tt, around))
  turning_stands slots form rest outer bottom blocks is left around = (is, left, around)

  turn_stands : (slots : Frame) (form : CStmtForm) (rest : CRest) (outer : List CLevel) (bottom : CBottom) (blocks : Blocks) → StmtFormStandsIn Among form → RestStandsIn Among rest → LevelsStandIn Among outer
      → NextStandsIn (turn_ended (record { slots = slots; form = form; rest = rest }) outer bottom blocks)
  turn_stands slots (for_loop first test (Some next) body) rest outer bottom blocks is left around = (is.2, (is, left, around))
  turn_stands slots (for_loop first test None body) rest outer bottom blocks is left around = turning_stands slots (for_loop first test None body) rest outer bottom blocks is left around
  turn_stands slots form rest outer bottom blocks is left around = turning_stands slots form rest outer bottom blocks is left around

  level_stands : (slots : Frame) (form : CStmtForm) (rest : CRest) (outer : List CLevel) (bottom : CBottom) (blocks : Blocks) → StmtFormStandsIn Among form → RestStandsIn Among rest → LevelsStandIn Among outer
      → NextStandsIn (next_in outer bottom (without_objects slots blocks)) → NextStandsIn (next_in (record { slots = slots; form = form; rest = rest } ∷ outer) bottom blocks)
  level_stands slots form nothing_left outer bottom blocks is left around next = next
  level_stands slots form (statements_left no_stmts) outer bottom blocks is left around next = next
  level_stands slots form (statements_left (more_stmts first others)) outer bottom blocks is left around next = (left.0, (is, left.1, around))
  level_stands slots form (firsts_left no_stmts) outer bottom blocks is left around next = turning_stands slots form (firsts_left no_stmts) outer bottom blocks is left around
  level_stands slots form (firsts_left (more_stmts first others)) outer bottom blocks is left around next = (left.0, (is, left.1, around))
  level_stands slots form turn_left outer bottom blocks is left around next = turn_stands slots form turn_left outer bottom blocks is left around

  pub next_stands : (levels : List CLevel) (bottom : CBottom) (blocks : Blocks) → LevelsStandIn Among levels → NextStandsIn (next_in levels bottom blocks)
  next_stands [] bottom blocks are = tt
  next_stands (level ∷ outer) bottom blocks are =
      level_stands level.slots level.form level.rest outer bottom blocks are.0 are.1 are.2 (next_stands outer bottom (without_objects level.slots blocks) are.2)

  ended_stands : (level : CLevel) (outer : List CLevel) (bottom : CBottom) (blocks : Blocks) → StmtFormStandsIn Among level.form → LevelsStandIn Among outer → NextStandsIn (next_in (with_rest nothing_left level ∷ outer) bottom blocks)
  ended_stands level outer bottom blocks is around = next_stands (with_rest nothing_left level ∷ outer) bottom blocks (is, tt, around)

  -- ---- jumps

  break_stands : (place : Place) (slots : Frame) (form : CStmtForm) (rest : CRest) (outer : List CLevel) (bottom : CBottom) (blocks : Blocks) → StmtFormStandsIn Among form → LevelsStandIn Among outer
      → NextStandsIn (breaking place outer bottom (without_objects slots blocks)) → NextStandsIn (breaking place (record { slots = slots; form = form; rest = rest } ∷ outer) bottom blocks)
  break_stands place slots (switch value body) rest outer bottom blocks is around next = ended_stands (record { slots = slots; form = switch value body; rest = rest }) outer bottom blocks is around
  break_stands place slots (while test body) rest outer bottom blocks is around next = ended_stands (record { slots = slots; form = while test body; rest = rest }) outer bottom blocks is around
  break_stands place slots (do_while body test) rest outer bottom blocks is around next = ended_stands (record { slots = slots; form = do_while body test; rest = rest }) outer bottom blocks is around
  break_stands place slots (for_loop first test after body) rest outer bottom blocks is around next = ended_stands (record { slots = slots; form = for_loop first test after body; rest = rest }) outer bottom blocks is around
  break_stands place slots form rest outer bottom blocks is around next = next

  continue_stands : (place : Place) (slots : Frame) (form : CStmtForm) (rest : CRest) (outer : List CLevel) (bottom : CBottom) (blocks : Blocks) → StmtFormStandsIn Among form → RestStandsIn Among rest → LevelsStandIn Among outer
      → NextStandsIn (continuing place outer bottom (without_objects slots blocks)) → NextStandsIn (continuing place (record { slots = slots; form = form; rest = rest } ∷ outer) bottom blocks)
  continue_stands place slots (while test body) rest outer bottom blocks is left around next = turn_stands slots (while test body) rest outer bottom blocks is left around
  continue_stands place slots (do_while body test) rest outer bottom blocks is left around next = turn_stands slots (do_while body test) rest outer bottom blocks is left around
  continue_stands place slots (for_loop first test after body) rest outer bottom blocks is left around next = turn_stands slots (for_loop first test after body) rest outer bottom blocks is left around
  continue_stands place slots form rest outer bottom blocks is left around next = next

  breaking_stands : (place : Place) (levels : List CLevel) (bottom : CBottom) (blocks : Blocks) → Among place.unit → LevelsStandIn Among levels → NextStandsIn (breaking place levels bottom blocks)
  breaking_stands place [] bottom blocks here are = here
  breaking_stands place (level ∷ outer) bottom blocks here are =
      break_stands place level.slots level.form level.rest outer bottom blocks are.0 are.2 (breaking_stands place outer bottom (without_objects level.slots blocks) here are.2)

  continuing_stands : (place : Place) (levels : List CLevel) (bottom : CBottom) (blocks : Blocks) → Among place.unit → LevelsStandIn Among levels → NextStandsIn (continuing place levels bottom blocks)
  continuing_stands place [] bottom blocks here are = here
  continuing_stands place (level ∷ outer) bottom blocks here are =
      continue_stands place level.slots level.form level.rest outer bottom blocks are.0 are.1 are.2 (continuing_stands place outer bottom (without_objects level.slots blocks) here are.2)

  jump_stands : (level : CLevel) (outer : List CLevel) (bottom : CBottom) (blocks : Blocks) (around : CStand) (found : Option CInside) → StmtFormStandsIn Among level.form → LevelsStandIn Among outer
      → IfSome found (InsideStandsIn Among) → NextStandsIn around
      → NextStandsIn (elim found as (λ _. CStand) [ Some one ↦ stand (following one.way (site_at (with_rest one.rest level ∷ outer) bottom)) blocks | None ↦ around ])
  jump_stands level outer bottom blocks around (Some one) is are found rest = following_stands one.way (site_at (with_rest one.rest level ∷ outer) bottom) found.1 (is, found.0, are)
  jump_stands level outer bottom blocks around None is are found rest = rest

  jumping_stands : (place : Place) (name : List ℕ) (levels : List CLevel) (bottom : CBottom) (blocks : Blocks) → Among place.unit → LevelsStandIn Among levels → NextStandsIn (jumping place name levels bottom blocks)
  jumping_stands place name [] bottom blocks here are = here
  jumping_stands place name (level ∷ outer) bottom blocks here are =
      jump_stands level outer bottom blocks (jumping place name outer bottom (without_objects level.slots blocks)) (way_in (named name) level.form) are.0 are.2
      (inside_stands Among (named name) level.form are.0) (jumping_stands place name outer bottom (without_objects level.slots blocks) here are.2)

  -- ---- puts

  pub putting_stands : (number : ℕ) (puts : CPuts) (behind : CBehind) (blocks : Blocks) → PutsStandIn Among puts → BehindStandsIn Among behind → NextStandsIn (putting number puts behind blocks)
  putting_stands number no_puts (in_body site) blocks stand around = next_stands site.levels site.bottom blocks around
  putting_stands number no_puts (of_statics others) blocks stand around = statics_stand others around
  putting_stands number (more_puts (put spot type value) others) behind blocks stand around = (stand.0, (expr_place Among value stand.0, stand.1, around))

  object_stands : (place : Place) (number : ℕ) (puts : Option CPuts) (site : CSite) (outcome : Result CCleared CWhy) (blocks : Blocks) → Among place.unit → IfSome puts (PutsStandIn Among) → SiteStandsIn Among site
      → NextStandsIn (reached_object place number puts site outcome blocks)
  object_stands place number puts site (Ok one) blocks here stand around = putting_stands number (puts_in puts) (in_body site) one.blocks (puts_stand puts stand) around
  object_stands place number puts site (Err why) blocks here stand around = here

  -- ---- what a statement does

  doing_stands : (setting : CSetting) (place : Place) (slots : Frame) (form : CStmtForm) (rest : CRest) (outer : CSite) (blocks : Blocks) → Among place.unit → StmtFormStandsIn Among form → RestStandsIn Among rest → SiteStandsIn Among outer
      → NextStandsIn (doing setting place form (record { slots = slots; form = form; rest = rest }) outer blocks)
  doing_stands setting place slots (label name body) rest outer blocks here is left around = (is, (is, left, around))
  doing_stands setting place slots (case value body) rest outer blocks here is left around = (is, (is, left, around))
  doing_stands setting place slots (default body) rest outer blocks here is left around = (is, (is, left, around))
  doing_stands setting place slots (block stmts) rest outer blocks here is left around =
      next_stands (record { slots = slots; form = block stmts; rest = statements_left stmts } ∷ outer.levels) outer.bottom blocks (is, is, around)
  doing_stands setting place slots (expression None) rest outer blocks here is left around =
      next_stands (record { slots = slots; form = expression None; rest = rest } ∷ outer.levels) outer.bottom blocks (is, left, around)
  doing_stands setting place slots (expression (Some value)) rest outer blocks here is left around = (is, (is, left, around))
  doing_stands setting place slots (if_then test body otherwise) rest outer blocks here is left around = (is.0, (expr_place Among test is.0, (is, left, around)))
  doing_stands setting place slots (switch value body) rest outer blocks here is left around = (is.0, (expr_place Among value is.0, (is, left, around)))
  doing_stands setting place slots (while test body) rest outer blocks here is left around = turning_stands slots (while test body) rest outer.levels outer.bottom blocks is left around
  doing_stands setting place slots (do_while body test) rest outer blocks here is left around = (is.0, (is, tt, around))
  doing_stands setting place slots (for_loop first test next body) rest outer blocks here is left around =
      next_stands (record { slots = slots; form = for_loop first test next body; rest = firsts_left first } ∷ outer.levels) outer.bottom blocks (is, is.0, around)
  doing_stands setting place slots (goto name) rest outer blocks here is left around =
      jumping_stands place name (record { slots = slots; form = goto name; rest = rest } ∷ outer.levels) outer.bottom blocks here (is, left, around)
  doing_stands setting place slots continue rest outer blocks here is left around =
      continuing_stands place (record { slots = slots; form = continue; rest = rest } ∷ outer.levels) outer.bottom blocks here (is, left, around)
  doing_stands setting place slots break rest outer blocks here is left around =
      breaking_stands place (record { slots = slots; form = break; rest = rest } ∷ outer.levels) outer.bottom blocks here (is, left, around)
  doing_stands setting place slots (returns None) rest outer blocks here is left around = (is, left, around)
  doing_stands setting place slots (returns (Some value)) rest outer blocks here is left around = (is, (here, (is, left, around)))
  doing_stands setting place slots (begin number puts) rest outer blocks here is left around =
      let level : CLevel = record { slots = slots; form = begin number puts; rest = rest } in
      object_stands place number puts (with_level level outer) (object_cleared setting (slots_in (level ∷ outer.levels)) number puts blocks) blocks here is (is, left, around)

  opened_stands : (setting : CSetting) (goal : CGoal) (level : CLevel) (outer : CSite) (blocks : Blocks) → GoalStandsIn Among goal → StmtFormStandsIn Among level.form → RestStandsIn Among level.rest → SiteStandsIn Among outer
      → NextStandsIn (opened_to setting goal level outer blocks)
  opened_stands setting (does_form place) level outer blocks here is left around = doing_stands setting place level.slots level.form level.rest outer blocks here is left around
  opened_stands setting (follows way) level outer blocks here is left around = following_stands way (with_level level outer) here (is, left, around)

  pub beginning_stands : (setting : CSetting) (objects : List ℕ) (goal : CGoal) (level : CLevel) (outer : CSite) (blocks : Blocks) → GoalStandsIn Among goal → StmtFormStandsIn Among level.form → RestStandsIn Among level.rest → SiteStandsIn Among outer
      → NextStandsIn (beginning setting objects goal level outer blocks)
  beginning_stands setting [] goal level outer blocks here is left around = opened_stands setting goal level outer blocks here is left around
  beginning_stands setting (first ∷ others) goal level outer blocks here is left around = (is, left, around, here)

  pub reached_stands : (setting : CSetting) (one : CStmt) (site : CSite) (blocks : Blocks) → StmtStandsIn Among one → SiteStandsIn Among site → NextStandsIn (reached setting one site blocks)
  reached_stands setting (stmt place objects form) site blocks stands around =
      beginning_stands setting objects (does_form place) (record { slots = []; form = form; rest = nothing_left }) site blocks stands.0 stands.1 tt around

  -- ---- choices

  pub choosing_stands : (form : CStmtForm) (holds : Bool) (level : CLevel) (outer : List CLevel) (bottom : CBottom) (blocks : Blocks) → StmtFormStandsIn Among form → StmtFormStandsIn Among level.form → LevelsStandIn Among outer
      → NextStandsIn (choosing form holds level outer bottom blocks)
  choosing_stands (if_then test body otherwise) true level outer bottom blocks is own around = (is.1, (own, tt, around))
  choosing_stands (if_then test body no_else) false level outer bottom blocks is own around = ended_stands level outer bottom blocks own around
  choosing_stands (if_then test body (else_do other)) false level outer bottom blocks is own around = (is.2, (own, tt, around))
  choosing_stands (while test body) true level outer bottom blocks is own around = (is.1, (own, tt, around))
  choosing_stands (do_while body test) true level outer bottom blocks is own around = (is.0, (own, tt, around))
  choosing_stands (for_loop first test next body) true level outer bottom blocks is own around = (is.3, (own, tt, around))
  choosing_stands form holds level outer bottom blocks is own around = ended_stands level outer bottom blocks own around

  switch_stands : (value : ℤ) (body : CStmt) (found : Option CWay) → StmtStandsIn Among body → IfSome found (WayStandsIn Among) → IfSome (way_of_switch value body found) (WayStandsIn Among)
  switch_stands value body (Some way) stands is = is
  switch_stands value body None stands is = way_stands Among default_case body stands

  switched_stands : (found : Option CWay) (level : CLevel) (outer : List CLevel) (bottom : CBottom) (blocks : Blocks) → IfSome found (WayStandsIn Among) → StmtFormStandsIn Among level.form → LevelsStandIn Among outer
      → NextStandsIn (switched_by found level outer bottom blocks)
  switched_stands None level outer bottom blocks found own around = ended_stands level outer bottom blocks own around
  switched_stands (Some way) level outer bottom blocks found own around = following_stands way (site_at (with_rest nothing_left level ∷ outer) bottom) found (own, tt, around)

  pub switching_stands : (form : CStmtForm) (value : ℤ) (level : CLevel) (outer : List CLevel) (bottom : CBottom) (blocks : Blocks) → StmtFormStandsIn Among form → StmtFormStandsIn Among level.form → LevelsStandIn Among outer
      → NextStandsIn (switching form value level outer bottom blocks)
  switching_stands (switch test body) value level outer bottom blocks is own around =
      switched_stands (way_of_switch value body (way_to (case_of value) body)) level outer bottom blocks
      (switch_stands value body (way_to (case_of value) body) is.1 (way_stands Among (case_of value) body is.1)) own around
  switching_stands form value level outer bottom blocks is own around = ended_stands level outer bottom blocks own around

  on_stands : (levels : List CLevel) (bottom : CBottom) (blocks : Blocks) → LevelsStandIn Among levels → NextStandsIn (turning_on (site_at levels bottom) blocks)
  on_stands [] bottom blocks are = next_stands [] bottom blocks are
  on_stands (level ∷ outer) bottom blocks are = turning_stands level.slots level.form level.rest outer bottom blocks are.0 are.1 are.2

  pub turning_on_stands : (site : CSite) (blocks : Blocks) → SiteStandsIn Among site → NextStandsIn (turning_on site blocks)
  turning_on_stands site blocks is = on_stands site.levels site.bottom blocks is
