-- What comes next in a body (ISO C99, 6.2.4p5 and 6.8) changes memory in two ways alone: objects that are left die, and an object that
-- is reached is made anew. What both of them keep of a memory is kept, and values that wait stay ones with cells of a machine.
use Rattle.std.proofs.Common.{ℕ, ℤ, Bool, true, false, List, [], ◌∷◌, Option, Some, None, Result, Ok, Err}
use Rattle.cr_base.specs.declared.refusal.Place.{Place}
use Rattle.cr_world.specs.Held.{without_block}
use Rattle.cx_core.specs.Trees.{CPuts, put, no_puts, more_puts, place_of, CStmt, stmt, CStmtForm, label, case, default, block, expression, if_then, switch, while, do_while, for_loop, goto, continue, break, returns, begin, no_else, else_do, no_stmts, more_stmts, CObject}
use Rattle.cx_mean.proofs.KeptNodes.{IfGiven, IsHeldValue}
use Rattle.cx_mean.specs.Initialisers.{CCleared, object_cleared}
use Rattle.cx_mean.specs.Moves.{CBehind, in_body, of_statics, puts_it, CGoal, does_form, follows, CMove, values, CStand, stand, goes_nowhere, without_objects, slots_in, turning, turn_ended, next_in, breaking, following, jumping, static_puts, putting, doing, opened_to, beginning, reached, choosing, switching, turning_on}
use Rattle.cx_mean.specs.Operands.{CWhy, CValue, Frame}
use Rattle.cx_mean.specs.Paths.{CRest, nothing_left, statements_left, firsts_left, turn_left, CLevel, CBottom, CSite, site_at, with_level, with_rest, named, case_of, default_case, CWay, arrives, opens, CInside, way_in, way_to}
use Rattle.cx_mean.specs.Settings.{CSetting}
use Rattle.mem_bytes.specs.Memory.{Blocks}
use Rattle.cx_stays.proofs.HeldMoves.{IsHeldSite, IsHeldBehind, IsHeldMove}

-- ---- the words in which bodies go on

abbrev is_loop : CStmtForm → Bool
is_loop (while test body) = true
is_loop (do_while body test) = true
is_loop (for_loop first test next body) = true
is_loop form = false

-- `continue`, as `doing` says it
abbrev pub continuing : Place → List CLevel → CBottom → Blocks → CStand
continuing place [] bottom blocks = stand (goes_nowhere place) blocks
continuing place (level ∷ outer) bottom blocks = elim (is_loop level.form) as (λ _. CStand) [
  | true ↦ turn_ended level outer bottom blocks
  | false ↦ continuing place outer bottom (without_objects level.slots blocks)
]

abbrev pub puts_in : Option CPuts → CPuts
puts_in None = no_puts
puts_in (Some puts) = puts

-- a put's value is evaluated, or what is behind the puts follows
abbrev pub first_put : ℕ → CPuts → CBehind → CMove → CMove
first_put number no_puts behind after = after
first_put number (more_puts (put spot type value) others) behind after =
    values value (puts_it (place_of value) (record { object = number; spot = spot; type = type; others = others; behind = behind }))

-- an object is reached whose initialiser is stored
abbrev pub reached_object : Place → ℕ → Option CPuts → CSite → Result CCleared CWhy → Blocks → CStand
reached_object place number puts site (Ok one) blocks = putting number (puts_in puts) (in_body site) one.blocks
reached_object place number puts site (Err why) blocks = stand (goes_nowhere place) blocks

abbrev pub way_of_switch : ℤ → CStmt → Option CWay → Option CWay
way_of_switch value body (Some way) = Some way
way_of_switch value body None = way_to default_case body

-- where the way of a `switch` leads, or what follows behind it
abbrev pub switched_by : Option CWay → CLevel → List CLevel → CBottom → Blocks → CStand
switched_by None level outer bottom blocks = next_in (with_rest nothing_left level ∷ outer) bottom blocks
switched_by (Some way) level outer bottom blocks = stand (following way (site_at (with_rest nothing_left level ∷ outer) bottom)) blocks

-- ---- moves

following_held : (way : CWay) (site : CSite) → IsHeldSite site → IsHeldMove (following way site)
following_held (arrives target) site is = is
following_held (opens [] form rest way) site is = following_held way (with_level (record { slots = []; form = form; rest = rest }) site) is
following_held (opens (first ∷ others) form rest way) site is = is

first_held : (number : ℕ) (puts : CPuts) (others : List CObject) → IsHeldMove (static_puts others) → IsHeldMove (first_put number puts (of_statics others) (static_puts others))
first_held number no_puts others rest = rest
first_held number (more_puts (put spot type value) more) others rest = tt

pub statics_held : (all : List CObject) → IsHeldMove (static_puts all)
statics_held [] = tt
statics_held (one ∷ others) = first_held one.object (puts_in one.puts) others (statics_held others)

-- what is kept, and the move where what the end of the function gives has cells of a machine
abbrev pub Stands : (Blocks → Type 0) → CValue → CStand → Type 0
Stands P at_end one = P one.blocks × (IsHeldValue at_end → IsHeldMove one.move)

abbrev pub StandsBehind : (Blocks → Type 0) → CBehind → CStand → Type 0
StandsBehind P behind one = P one.blocks × (IsHeldBehind behind → IsHeldMove one.move)

-- a memory in which an object was made anew
abbrev pub Cleared : (Blocks → Type 0) → CCleared → Type 0
Cleared P one = P one.blocks

module _ (P : Blocks → Type 0) (dies : (blocks : Blocks) (number : ℕ) → P blocks → P (without_block number blocks))
    (clears : (setting : CSetting) (frame : Frame) (number : ℕ) (puts : Option CPuts) (blocks : Blocks) → P blocks → IfGiven (Cleared P) (object_cleared setting frame number puts blocks)) where
  pub without_stands : (slots : Frame) (blocks : Blocks) → P blocks → P (without_objects slots blocks)
  without_stands [] blocks p = p
  without_stands (slot ∷ others) blocks p = without_stands others (without_block slot.block blocks) (dies blocks slot.block p)

  -- ---- what follows

  turning_stands : (slots : Frame) (form : CStmtForm) (rest : CRest) (outer : List CLevel) (bottom : CBottom) (blocks : Blocks) → P blocks
      → Stands P bottom.at_end (turning (record { slots = slots; form = form; rest = rest }) outer bottom blocks)
  turning_stands slots (while test body) rest outer bottom blocks p = (p, λ is. is)
  turning_stands slots (do_while body test) rest outer bottom blocks p = (p, λ is. is)
  turning_stands slots (for_loop first (Some test) next body) rest outer bottom blocks p = (p, λ is. is)
  turning_stands slots (for_loop first None next body) rest outer bottom blocks p = (p, λ is. is)
  turning_stands slots form rest outer bottom blocks p = (p, λ is. tt)

  turn_stands : (slots : Frame) (form : CStmtForm) (rest : CRest) (outer : List CLevel) (bottom : CBottom) (blocks : Blocks) → P blocks
      → Stands P bottom.at_end (turn_ended (record { slots = slots; form = form; rest = rest }) outer bottom blocks)
  turn_stands slots (for_loop first test (Some next) body) rest outer bottom blocks p = (p, λ is. is)
  turn_stands slots (for_loop first test None body) rest outer bottom blocks p = turning_stands slots (for_loop first test None body) rest outer bottom blocks p
  turn_stands slots form rest outer bottom blocks p = turning_stands slots form rest outer bottom blocks p

  level_stands : (slots : Frame) (form : CStmtForm) (rest : CRest) (outer : List CLevel) (bottom : CBottom) (blocks : Blocks) → P blocks
      → Stands P bottom.at_end (next_in outer bottom (without_objects slots blocks)) → Stands P bottom.at_end (next_in (record { slots = slots; form = form; rest = rest } ∷ outer) bottom blocks)
  level_stands slots form nothing_left outer bottom blocks p around = around
  level_stands slots form (statements_left no_stmts) outer bottom blocks p around = around
  level_stands slots form (statements_left (more_stmts first others)) outer bottom blocks p around = (p, λ is. is)
  level_stands slots form (firsts_left no_stmts) outer bottom blocks p around = turning_stands slots form (firsts_left no_stmts) outer bottom blocks p
  level_stands slots form (firsts_left (more_stmts first others)) outer bottom blocks p around = (p, λ is. is)
  level_stands slots form turn_left outer bottom blocks p around = turn_stands slots form turn_left outer bottom blocks p

  pub next_stands : (levels : List CLevel) (bottom : CBottom) (blocks : Blocks) → P blocks → Stands P bottom.at_end (next_in levels bottom blocks)
  next_stands [] bottom blocks p = (p, λ is. is)
  next_stands (level ∷ outer) bottom blocks p =
      level_stands level.slots level.form level.rest outer bottom blocks p (next_stands outer bottom (without_objects level.slots blocks) (without_stands level.slots blocks p))

  ended_stands : (level : CLevel) (outer : List CLevel) (bottom : CBottom) (blocks : Blocks) → P blocks → Stands P bottom.at_end (next_in (with_rest nothing_left level ∷ outer) bottom blocks)
  ended_stands level outer bottom blocks p = next_stands (with_rest nothing_left level ∷ outer) bottom blocks p

  -- ---- jumps

  break_stands : (place : Place) (slots : Frame) (form : CStmtForm) (rest : CRest) (outer : List CLevel) (bottom : CBottom) (blocks : Blocks) → P blocks
      → Stands P bottom.at_end (breaking place outer bottom (without_objects slots blocks)) → Stands P bottom.at_end (breaking place (record { slots = slots; form = form; rest = rest } ∷ outer) bottom blocks)
  break_stands place slots (switch value body) rest outer bottom blocks p around = ended_stands (record { slots = slots; form = switch value body; rest = rest }) outer bottom blocks p
  break_stands place slots (while test body) rest outer bottom blocks p around = ended_stands (record { slots = slots; form = while test body; rest = rest }) outer bottom blocks p
  break_stands place slots (do_while body test) rest outer bottom blocks p around = ended_stands (record { slots = slots; form = do_while body test; rest = rest }) outer bottom blocks p
  break_stands place slots (for_loop first test next body) rest outer bottom blocks p around = ended_stands (record { slots = slots; form = for_loop first test next body; rest = rest }) outer bottom blocks p
  break_stands place slots form rest outer bottom blocks p around = around

  continue_stands : (place : Place) (slots : Frame) (form : CStmtForm) (rest : CRest) (outer : List CLevel) (bottom : CBottom) (blocks : Blocks) → P blocks
      → Stands P bottom.at_end (continuing place outer bottom (without_objects slots blocks)) → Stands P bottom.at_end (continuing place (record { slots = slots; form = form; rest = rest } ∷ outer) bottom blocks)
  continue_stands place slots (while test body) rest outer bottom blocks p around = turn_stands slots (while test body) rest outer bottom blocks p
  continue_stands place slots (do_while body test) rest outer bottom blocks p around = turn_stands slots (do_while body test) rest outer bottom blocks p
  continue_stands place slots (for_loop first test next body) rest outer bottom blocks p around = turn_stands slots (for_loop first test next body) rest outer bottom blocks p
  continue_stands place slots form rest outer bottom blocks p around = around

  breaking_stands : (place : Place) (levels : List CLevel) (bottom : CBottom) (blocks : Blocks) → P blocks → Stands P bottom.at_end (breaking place levels bottom blocks)
  breaking_stands place [] bottom blocks p = (p, λ is. tt)
  breaking_stands place (level ∷ outer) bottom blocks p =
      break_stands place level.slots level.form level.rest outer bottom blocks p (breaking_stands place outer bottom (without_objects level.slots blocks) (without_stands level.slots blocks p))

  continuing_stands : (place : Place) (levels : List CLevel) (bottom : CBottom) (blocks : Blocks) → P blocks → Stands P bottom.at_end (continuing place levels bottom blocks)
  continuing_stands place [] bottom blocks p = (p, λ is. tt)
  continuing_stands place (level ∷ outer) bottom blocks p =
      continue_stands place level.slots level.form level.rest outer bottom blocks p (continuing_stands place outer bottom (without_objects level.slots blocks) (without_stands level.slots blocks p))

  jump_stands : (level : CLevel) (outer : List CLevel) (bottom : CBottom) (blocks : Blocks) (around : CStand) (found : Option CInside) → P blocks → Stands P bottom.at_end around
      → Stands P bottom.at_end (elim found as (λ _. CStand) [ Some one ↦ stand (following one.way (site_at (with_rest one.rest level ∷ outer) bottom)) blocks | None ↦ around ])
  jump_stands level outer bottom blocks around (Some one) p rest = (p, λ is. following_held one.way (site_at (with_rest one.rest level ∷ outer) bottom) is)
  jump_stands level outer bottom blocks around None p rest = rest

  jumping_stands : (place : Place) (name : List ℕ) (levels : List CLevel) (bottom : CBottom) (blocks : Blocks) → P blocks → Stands P bottom.at_end (jumping place name levels bottom blocks)
  jumping_stands place name [] bottom blocks p = (p, λ is. tt)
  jumping_stands place name (level ∷ outer) bottom blocks p =
      jump_stands level outer bottom blocks (jumping place name outer bottom (without_objects level.slots blocks)) (way_in (named name) level.form) p
      (jumping_stands place name outer bottom (without_objects level.slots blocks) (without_stands level.slots blocks p))

  -- ---- puts

  pub putting_stands : (number : ℕ) (puts : CPuts) (behind : CBehind) (blocks : Blocks) → P blocks → StandsBehind P behind (putting number puts behind blocks)
  putting_stands number no_puts (in_body site) blocks p = next_stands site.levels site.bottom blocks p
  putting_stands number no_puts (of_statics others) blocks p = (p, λ is. statics_held others)
  putting_stands number (more_puts (put spot type value) others) behind blocks p = (p, λ is. is)

  object_stands : (place : Place) (number : ℕ) (puts : Option CPuts) (site : CSite) (outcome : Result CCleared CWhy) (blocks : Blocks) → P blocks → IfGiven (Cleared P) outcome
      → Stands P site.bottom.at_end (reached_object place number puts site outcome blocks)
  object_stands place number puts site (Ok one) blocks p cleared = putting_stands number (puts_in puts) (in_body site) one.blocks cleared
  object_stands place number puts site (Err why) blocks p cleared = (p, λ is. tt)

  -- ---- what a statement does

  doing_stands : (setting : CSetting) (place : Place) (form : CStmtForm) (level : CLevel) (outer : CSite) (blocks : Blocks) → P blocks → Stands P outer.bottom.at_end (doing setting place form level outer blocks)
  doing_stands setting place (label name body) level outer blocks p = (p, λ is. is)
  doing_stands setting place (case value body) level outer blocks p = (p, λ is. is)
  doing_stands setting place (default body) level outer blocks p = (p, λ is. is)
  doing_stands setting place (block stmts) level outer blocks p = next_stands (with_rest (statements_left stmts) level ∷ outer.levels) outer.bottom blocks p
  doing_stands setting place (expression None) level outer blocks p = next_stands (level ∷ outer.levels) outer.bottom blocks p
  doing_stands setting place (expression (Some value)) level outer blocks p = (p, λ is. is)
  doing_stands setting place (if_then test body otherwise) level outer blocks p = (p, λ is. is)
  doing_stands setting place (switch value body) level outer blocks p = (p, λ is. is)
  doing_stands setting place (while test body) level outer blocks p = turning_stands level.slots level.form level.rest outer.levels outer.bottom blocks p
  doing_stands setting place (do_while body test) level outer blocks p = (p, λ is. is)
  doing_stands setting place (for_loop first test next body) level outer blocks p = next_stands (with_rest (firsts_left first) level ∷ outer.levels) outer.bottom blocks p
  doing_stands setting place (goto name) level outer blocks p = jumping_stands place name (level ∷ outer.levels) outer.bottom blocks p
  doing_stands setting place continue level outer blocks p = continuing_stands place (level ∷ outer.levels) outer.bottom blocks p
  doing_stands setting place break level outer blocks p = breaking_stands place (level ∷ outer.levels) outer.bottom blocks p
  doing_stands setting place (returns None) level outer blocks p = (p, λ is. tt)
  doing_stands setting place (returns (Some value)) level outer blocks p = (p, λ is. is)
  doing_stands setting place (begin number puts) level outer blocks p =
      object_stands place number puts (with_level level outer) (object_cleared setting (slots_in (level ∷ outer.levels)) number puts blocks) blocks p
      (clears setting (slots_in (level ∷ outer.levels)) number puts blocks p)

  opened_stands : (setting : CSetting) (goal : CGoal) (level : CLevel) (outer : CSite) (blocks : Blocks) → P blocks → Stands P outer.bottom.at_end (opened_to setting goal level outer blocks)
  opened_stands setting (does_form place) level outer blocks p = doing_stands setting place level.form level outer blocks p
  opened_stands setting (follows way) level outer blocks p = (p, λ is. following_held way (with_level level outer) is)

  pub beginning_stands : (setting : CSetting) (objects : List ℕ) (goal : CGoal) (level : CLevel) (outer : CSite) (blocks : Blocks) → P blocks → Stands P outer.bottom.at_end (beginning setting objects goal level outer blocks)
  beginning_stands setting [] goal level outer blocks p = opened_stands setting goal level outer blocks p
  beginning_stands setting (first ∷ others) goal level outer blocks p = (p, λ is. is)

  pub reached_stands : (setting : CSetting) (one : CStmt) (site : CSite) (blocks : Blocks) → P blocks → Stands P site.bottom.at_end (reached setting one site blocks)
  reached_stands setting (stmt place objects form) site blocks p = beginning_stands setting objects (does_form place) (record { slots = []; form = form; rest = nothing_left }) site blocks p

  -- ---- choices

  pub choosing_stands : (form : CStmtForm) (holds : Bool) (level : CLevel) (outer : List CLevel) (bottom : CBottom) (blocks : Blocks) → P blocks → Stands P bottom.at_end (choosing form holds level outer bottom blocks)
  choosing_stands (if_then test body otherwise) true level outer bottom blocks p = (p, λ is. is)
  choosing_stands (if_then test body no_else) false level outer bottom blocks p = ended_stands level outer bottom blocks p
  choosing_stands (if_then test body (else_do other)) false level outer bottom blocks p = (p, λ is. is)
  choosing_stands (while test body) true level outer bottom blocks p = (p, λ is. is)
  choosing_stands (do_while body test) true level outer bottom blocks p = (p, λ is. is)
  choosing_stands (for_loop first test next body) true level outer bottom blocks p = (p, λ is. is)
  choosing_stands form holds level outer bottom blocks p = ended_stands level outer bottom blocks p

  switched_stands : (found : Option CWay) (level : CLevel) (outer : List CLevel) (bottom : CBottom) (blocks : Blocks) → P blocks → Stands P bottom.at_end (switched_by found level outer bottom blocks)
  switched_stands None level outer bottom blocks p = ended_stands level outer bottom blocks p
  switched_stands (Some way) level outer bottom blocks p = (p, λ is. following_held way (site_at (with_rest nothing_left level ∷ outer) bottom) is)

  pub switching_stands : (form : CStmtForm) (value : ℤ) (level : CLevel) (outer : List CLevel) (bottom : CBottom) (blocks : Blocks) → P blocks → Stands P bottom.at_end (switching form value level outer bottom blocks)
  switching_stands (switch test body) value level outer bottom blocks p = switched_stands (way_of_switch value body (way_to (case_of value) body)) level outer bottom blocks p
  switching_stands form value level outer bottom blocks p = ended_stands level outer bottom blocks p

  on_stands : (levels : List CLevel) (bottom : CBottom) (blocks : Blocks) → P blocks → Stands P bottom.at_end (turning_on (site_at levels bottom) blocks)
  on_stands [] bottom blocks p = next_stands [] bottom blocks p
  on_stands (level ∷ outer) bottom blocks p = turning_stands level.slots level.form level.rest outer bottom blocks p

  pub turning_on_stands : (site : CSite) (blocks : Blocks) → P blocks → Stands P site.bottom.at_end (turning_on site blocks)
  turning_on_stands site blocks p = on_stands site.levels site.bottom blocks p
