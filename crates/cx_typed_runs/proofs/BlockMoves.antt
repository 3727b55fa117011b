-- What comes next in a body (ISO C99, 6.2.4p5 and 6.8) makes no block: objects that are left die, and one that is reached is made anew.
use Rattle.std.proofs.Common.{ℕ, ℤ, Bool, true, false, List, [], ◌∷◌, Option, Some, None, Result, Ok, Err}
use Rattle.cr_base.specs.declared.refusal.Place.{Place}
use Rattle.cr_world.specs.Held.{without_block}
use Rattle.cx_core.specs.Trees.{CPuts, put, no_puts, more_puts, CStmt, stmt, CStmtForm, label, case, default, block, expression, if_then, switch, while, do_while, for_loop, goto, continue, break, returns, begin, no_else, else_do, no_stmts, more_stmts}
use Rattle.cx_mean.proofs.KeptNodes.{IfGiven}
use Rattle.cx_mean.specs.Initialisers.{CCleared, object_cleared}
use Rattle.cx_mean.specs.Moves.{CBehind, in_body, of_statics, CGoal, does_form, follows, CStand, stand, goes_nowhere, without_objects, slots_in, turn_ended, next_in, breaking, following, jumping, putting, doing, opened_to, beginning, reached, choosing, switching, turning_on}
use Rattle.cx_mean.specs.Operands.{CWhy, Frame}
use Rattle.cx_mean.specs.Paths.{CRest, nothing_left, statements_left, firsts_left, turn_left, CLevel, CBottom, CSite, site_at, with_level, with_rest, named, case_of, default_case, CWay, CInside, way_in, way_to}
use Rattle.cx_mean.specs.Settings.{CSetting}
use Rattle.mem_bytes.specs.Memory.{Blocks}
use Rattle.cx_typed_runs.proofs.BlockChanges.{IsKept}
use Rattle.cx_typed_runs.proofs.BlockStores.{ClearKept, clear_kept}

-- ---- the words in which bodies go on

abbrev is_loop : CStmtForm → Bool
is_loop (while test body) = true
is_loop (do_while body test) = true
is_loop (for_loop first test next body) = true
is_loop form = false

-- `continue`, as `doing` says it
abbrev continuing : Place → List CLevel → CBottom → Blocks → CStand
continuing place [] bottom blocks = stand (goes_nowhere place) blocks
continuing place (level ∷ outer) bottom blocks = elim (is_loop level.form) as (λ _. CStand) [
  | true ↦ turn_ended level outer bottom blocks
  | false ↦ continuing place outer bottom (without_objects level.slots blocks)
]

abbrev puts_in : Option CPuts → CPuts
puts_in None = no_puts
puts_in (Some puts) = puts

-- an object is reached whose initialiser is stored
abbrev reached_object : Place → ℕ → Option CPuts → CSite → Result CCleared CWhy → Blocks → CStand
reached_object place number puts site (Ok one) blocks = putting number (puts_in puts) (in_body site) one.blocks
reached_object place number puts site (Err why) blocks = stand (goes_nowhere place) blocks

abbrev way_of_switch : ℤ → CStmt → Option CWay → Option CWay
way_of_switch value body (Some way) = Some way
way_of_switch value body None = way_to default_case body

-- where the way of a `switch` leads, or what follows behind it
abbrev switched_by : Option CWay → CLevel → List CLevel → CBottom → Blocks → CStand
switched_by None level outer bottom blocks = next_in (with_rest nothing_left level ∷ outer) bottom blocks
switched_by (Some way) level outer bottom blocks = stand (following way (site_at (with_rest nothing_left level ∷ outer) bottom)) blocks

-- ---- moves

-- the memory in which a move is made
abbrev pub StandKept : (Blocks → Type 0) → CStand → Type 0
StandKept P one = P one.blocks

module _ (P : Blocks → Type 0) (kept : IsKept P) where
  pub without_kept : (slots : Frame) (blocks : Blocks) → P blocks → P (without_objects slots blocks)
  without_kept [] blocks p = p
  without_kept (slot ∷ others) blocks p = without_kept others (without_block slot.block blocks) (kept.dies blocks slot.block p)

  -- ---- what follows

  turn_kept : (slots : Frame) (form : CStmtForm) (rest : CRest) (outer : List CLevel) (bottom : CBottom) (blocks : Blocks) → P blocks
      → StandKept P (turn_ended (record { slots = slots; form = form; rest = rest }) outer bottom blocks)
  turn_kept slots (for_loop first test (Some next) body) rest outer bottom blocks p = p
  turn_kept slots (for_loop first test None body) rest outer bottom blocks p = p
  turn_kept slots form rest outer bottom blocks p = p

  level_kept : (slots : Frame) (form : CStmtForm) (rest : CRest) (outer : List CLevel) (bottom : CBottom) (blocks : Blocks) → P blocks
      → StandKept P (next_in outer bottom (without_objects slots blocks)) → StandKept P (next_in (record { slots = slots; form = form; rest = rest } ∷ outer) bottom blocks)
  level_kept slots form nothing_left outer bottom blocks p around = around
  level_kept slots form (statements_left no_stmts) outer bottom blocks p around = around
  level_kept slots form (statements_left (more_stmts first others)) outer bottom blocks p around = p
  level_kept slots form (firsts_left no_stmts) outer bottom blocks p around = p
  level_kept slots form (firsts_left (more_stmts first others)) outer bottom blocks p around = p
  level_kept slots form turn_left outer bottom blocks p around = turn_kept slots form turn_left outer bottom blocks p

  pub next_kept : (levels : List CLevel) (bottom : CBottom) (blocks : Blocks) → P blocks → StandKept P (next_in levels bottom blocks)
  next_kept [] bottom blocks p = p
  next_kept (level ∷ outer) bottom blocks p =
      level_kept level.slots level.form level.rest outer bottom blocks p (next_kept outer bottom (without_objects level.slots blocks) (without_kept level.slots blocks p))

  ended_kept : (level : CLevel) (outer : List CLevel) (bottom : CBottom) (blocks : Blocks) → P blocks → StandKept P (next_in (with_rest nothing_left level ∷ outer) bottom blocks)
  ended_kept level outer bottom blocks p = next_kept (with_rest nothing_left level ∷ outer) bottom blocks p

  -- ---- jumps

  break_kept : (place : Place) (slots : Frame) (form : CStmtForm) (rest : CRest) (outer : List CLevel) (bottom : CBottom) (blocks : Blocks) → P blocks
      → StandKept P (breaking place outer bottom (without_objects slots blocks)) → StandKept P (breaking place (record { slots = slots; form = form; rest = rest } ∷ outer) bottom blocks)
  break_kept place slots (switch value body) rest outer bottom blocks p around = ended_kept (record { slots = slots; form = switch value body; rest = rest }) outer bottom blocks p
  break_kept place slots (while test body) rest outer bottom blocks p around = ended_kept (record { slots = slots; form = while test body; rest = rest }) outer bottom blocks p
  break_kept place slots (do_while body test) rest outer bottom blocks p around = ended_kept (record { slots = slots; form = do_while body test; rest = rest }) outer bottom blocks p
  break_kept place slots (for_loop first test next body) rest outer bottom blocks p around = ended_kept (record { slots = slots; form = for_loop first test next body; rest = rest }) outer bottom blocks p
  break_kept place slots form rest outer bottom blocks p around = around

  continue_kept : (place : Place) (slots : Frame) (form : CStmtForm) (rest : CRest) (outer : List CLevel) (bottom : CBottom) (blocks : Blocks) → P blocks
      → StandKept P (continuing place outer bottom (without_objects slots blocks)) → StandKept P (continuing place (record { slots = slots; form = form; rest = rest } ∷ outer) bottom blocks)
  continue_kept place slots (while test body) rest outer bottom blocks p around = turn_kept slots (while test body) rest outer bottom blocks p
  continue_kept place slots (do_while body test) rest outer bottom blocks p around = turn_kept slots (do_while body test) rest outer bottom blocks p
  continue_kept place slots (for_loop first test next body) rest outer bottom blocks p around = turn_kept slots (for_loop first test next body) rest outer bottom blocks p
  continue_kept place slots form rest outer bottom blocks p around = around

  breaking_kept : (place : Place) (levels : List CLevel) (bottom : CBottom) (blocks : Blocks) → P blocks → StandKept P (breaking place levels bottom blocks)
  breaking_kept place [] bottom blocks p = p
  breaking_kept place (level ∷ outer) bottom blocks p =
      break_kept place level.slots level.form level.rest outer bottom blocks p (breaking_kept place outer bottom (without_objects level.slots blocks) (without_kept level.slots blocks p))

  continuing_kept : (place : Place) (levels : List CLevel) (bottom : CBottom) (blocks : Blocks) → P blocks → StandKept P (continuing place levels bottom blocks)
  continuing_kept place [] bottom blocks p = p
  continuing_kept place (level ∷ outer) bottom blocks p =
      continue_kept place level.slots level.form level.rest outer bottom blocks p (continuing_kept place outer bottom (without_objects level.slots blocks) (without_kept level.slots blocks p))

  jump_kept : (level : CLevel) (outer : List CLevel) (bottom : CBottom) (blocks : Blocks) (around : CStand) (found : Option CInside) → P blocks → StandKept P around
      → StandKept P (elim found as (λ _. CStand) [ Some one ↦ stand (following one.way (site_at (with_rest one.rest level ∷ outer) bottom)) blocks | None ↦ around ])
  jump_kept level outer bottom blocks around (Some one) p rest = p
  jump_kept level outer bottom blocks around None p rest = rest

  jumping_kept : (place : Place) (name : List ℕ) (levels : List CLevel) (bottom : CBottom) (blocks : Blocks) → P blocks → StandKept P (jumping place name levels bottom blocks)
  jumping_kept place name [] bottom blocks p = p
  jumping_kept place name (level ∷ outer) bottom blocks p =
      jump_kept level outer bottom blocks (jumping place name outer bottom (without_objects level.slots blocks)) (way_in (named name) level.form) p
      (jumping_kept place name outer bottom (without_objects level.slots blocks) (without_kept level.slots blocks p))

  -- ---- puts

  pub putting_kept : (number : ℕ) (puts : CPuts) (behind : CBehind) (blocks : Blocks) → P blocks → StandKept P (putting number puts behind blocks)
  putting_kept number no_puts (in_body site) blocks p = next_kept site.levels site.bottom blocks p
  putting_kept number no_puts (of_statics others) blocks p = p
  putting_kept number (more_puts (put spot type value) others) behind blocks p = p

  object_kept : (place : Place) (number : ℕ) (puts : Option CPuts) (site : CSite) (outcome : Result CCleared CWhy) (blocks : Blocks) → P blocks → IfGiven (ClearKept P) outcome
      → StandKept P (reached_object place number puts site outcome blocks)
  object_kept place number puts site (Ok one) blocks p cleared = putting_kept number (puts_in puts) (in_body site) one.blocks cleared
  object_kept place number puts site (Err why) blocks p cleared = p

  -- ---- what a statement does

  doing_kept : (setting : CSetting) (place : Place) (form : CStmtForm) (level : CLevel) (outer : CSite) (blocks : Blocks) → P blocks → StandKept P (doing setting place form level outer blocks)
  doing_kept setting place (label name body) level outer blocks p = p
  doing_kept setting place (case value body) level outer blocks p = p
  doing_kept setting place (default body) level outer blocks p = p
  doing_kept setting place (block stmts) level outer blocks p = next_kept (with_rest (statements_left stmts) level ∷ outer.levels) outer.bottom blocks p
  doing_kept setting place (expression None) level outer blocks p = next_kept (level ∷ outer.levels) outer.bottom blocks p
  doing_kept setting place (expression (Some value)) level outer blocks p = p
  doing_kept setting place (if_then test body otherwise) level outer blocks p = p
  doing_kept setting place (switch value body) level outer blocks p = p
  doing_kept setting place (while test body) level outer blocks p = p
  doing_kept setting place (do_while body test) level outer blocks p = p
  doing_kept setting place (for_loop first test next body) level outer blocks p = next_kept (with_rest (firsts_left first) level ∷ outer.levels) outer.bottom blocks p
  doing_kept setting place (goto name) level outer blocks p = jumping_kept place name (level ∷ outer.levels) outer.bottom blocks p
  doing_kept setting place continue level outer blocks p = continuing_kept place (level ∷ outer.levels) outer.bottom blocks p
  doing_kept setting place break level outer blocks p = breaking_kept place (level ∷ outer.levels) outer.bottom blocks p
  doing_kept setting place (returns None) level outer blocks p = p
  doing_kept setting place (returns (Some value)) level outer blocks p = p
  doing_kept setting place (begin number puts) level outer blocks p =
      object_kept place number puts (with_level level outer) (object_cleared setting (slots_in (level ∷ outer.levels)) number puts blocks) blocks p
      (clear_kept P kept blocks p setting (slots_in (level ∷ outer.levels)) number puts)

  opened_kept : (setting : CSetting) (goal : CGoal) (level : CLevel) (outer : CSite) (blocks : Blocks) → P blocks → StandKept P (opened_to setting goal level outer blocks)
  opened_kept setting (does_form place) level outer blocks p = doing_kept setting place level.form level outer blocks p
  opened_kept setting (follows way) level outer blocks p = p

  pub beginning_kept : (setting : CSetting) (objects : List ℕ) (goal : CGoal) (level : CLevel) (outer : CSite) (blocks : Blocks) → P blocks → StandKept P (beginning setting objects goal level outer blocks)
  beginning_kept setting [] goal level outer blocks p = opened_kept setting goal level outer blocks p
  beginning_kept setting (first ∷ others) goal level outer blocks p = p

  pub reached_kept : (setting : CSetting) (one : CStmt) (site : CSite) (blocks : Blocks) → P blocks → StandKept P (reached setting one site blocks)
  reached_kept setting (stmt place objects form) site blocks p = beginning_kept setting objects (does_form place) (record { slots = []; form = form; rest = nothing_left }) site blocks p

  -- ---- choices

  pub choosing_kept : (form : CStmtForm) (holds : Bool) (level : CLevel) (outer : List CLevel) (bottom : CBottom) (blocks : Blocks) → P blocks → StandKept P (choosing form holds level outer bottom blocks)
  choosing_kept (if_then test body otherwise) true level outer bottom blocks p = p
  choosing_kept (if_then test body no_else) false level outer bottom blocks p = ended_kept level outer bottom blocks p
  choosing_kept (if_then test body (else_do other)) false level outer bottom blocks p = p
  choosing_kept (while test body) true level outer bottom blocks p = p
  choosing_kept (do_while body test) true level outer bottom blocks p = p
  choosing_kept (for_loop first test next body) true level outer bottom blocks p = p
  choosing_kept form holds level outer bottom blocks p = ended_kept level outer bottom blocks p

  switched_kept : (found : Option CWay) (level : CLevel) (outer : List CLevel) (bottom : CBottom) (blocks : Blocks) → P blocks → StandKept P (switched_by found level outer bottom blocks)
  switched_kept None level outer bottom blocks p = ended_kept level outer bottom blocks p
  switched_kept (Some way) level outer bottom blocks p = p

  pub switching_kept : (form : CStmtForm) (value : ℤ) (level : CLevel) (outer : List CLevel) (bottom : CBottom) (blocks : Blocks) → P blocks → StandKept P (switching form value level outer bottom blocks)
  switching_kept (switch test body) value level outer bottom blocks p = switched_kept (way_of_switch value body (way_to (case_of value) body)) level outer bottom blocks p
  switching_kept form value level outer bottom blocks p = ended_kept level outer bottom blocks p

  on_kept : (levels : List CLevel) (bottom : CBottom) (blocks : Blocks) → P blocks → StandKept P (turning_on (site_at levels bottom) blocks)
  on_kept [] bottom blocks p = p
  on_kept (level ∷ outer) bottom blocks p = p

  pub turning_on_kept : (site : CSite) (blocks : Blocks) → P blocks → StandKept P (turning_on site blocks)
  turning_on_kept site blocks p = on_kept site.levels site.bottom blocks p
