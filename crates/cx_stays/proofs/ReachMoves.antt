-- What comes next in a body under a set of blocks (ISO C99, 6.2.4p5 and 6.8): the objects that die, and those that are made anew, are in
-- blocks of the set, and so are those that stay in scope.
use Rattle.std.proofs.Common.{ℕ, ℤ, ◌==◌, Bool, true, false, if◌then◌else◌, List, [], ◌∷◌, ◌++◌, Option, Some, None, Result, Ok, Err}
use Rattle.cr_base.specs.declared.refusal.Place.{Place}
use Rattle.cr_world.specs.Held.{without_block}
use Rattle.cx_core.specs.Trees.{CExpr, expr, CForm, whole, null, object, code, load, deref, member, address, convert, unary, binary, and, or, cond, assign, assign_by, step, call, call_by, comma, literal, CExprs, no_exprs, more_exprs, CPut, CPuts, put, no_puts, more_puts, CStmt, stmt, CStmtForm, label, case, default, block, expression, if_then, switch, while, do_while, for_loop, goto, continue, break, returns, begin, no_else, else_do, no_stmts, more_stmts, CObject}
use Rattle.cx_mean.proofs.KeptNodes.{IfGiven}
use Rattle.cx_mean.specs.Initialisers.{CCleared, object_cleared}
use Rattle.cx_mean.specs.Moves.{CBehind, in_body, of_statics, CGoal, does_form, follows, CStand, stand, without_objects, slots_in, slots_of_site, turning, turn_ended, next_in, breaking, following, jumping, static_puts, putting, doing, opened_to, beginning, reached as reached_next, choosing, switching, turning_on}
use Rattle.cx_mean.specs.Operands.{CWhy, Frame, slot_of}
use Rattle.cx_mean.specs.Paths.{CRest, nothing_left, statements_left, firsts_left, turn_left, CLevel, CBottom, CSite, site_at, with_level, with_rest, named, case_of, CWay, arrives, opens, CInside, way_in, way_to}
use Rattle.cx_mean.specs.Settings.{CSetting}
use Rattle.mem_bytes.specs.declared.value.Ptr.{Ptr}
use Rattle.mem_bytes.specs.Memory.{Blocks}
use Rattle.cx_stays.proofs.ReachMemory.{Left, left_then, left_killed}
use Rattle.cx_stays.proofs.ReachStores.{ClearLeft, clear_left}
use Rattle.cx_stays.proofs.Stands.{continuing, puts_in, first_put, reached_object, way_of_switch, switched_by}
use Rattle.cx_stays.specs.Reach.{IsPlaceWithin, NamesOnly, FormNamesOnly, AllNameOnly, PutsNameOnly, PutNamesOnly, AnyObject, AreSlotsWithin, AreLevelsWithin, IsBottomWithin, IsSiteWithin, IsBehindWithin, IsMoveWithin}

-- ---- any object may be named

mutual
  pub names_any : (e : CExpr) → NamesOnly AnyObject e
  names_any (expr type place form) = form_names_any form

  form_names_any : (form : CForm) → FormNamesOnly AnyObject form
  form_names_any (whole value) = tt
  form_names_any null = tt
  form_names_any (object number) = tt
  form_names_any (code number) = tt
  form_names_any (load from) = names_any from
  form_names_any (deref from) = names_any from
  form_names_any (member of spot) = names_any of
  form_names_any (address of) = names_any of
  form_names_any (convert value) = names_any value
  form_names_any (unary op value) = names_any value
  form_names_any (binary op left right) = (names_any left, names_any right)
  form_names_any (and left right) = (names_any left, names_any right)
  form_names_any (or left right) = (names_any left, names_any right)
  form_names_any (cond test first second) = (names_any test, names_any first, names_any second)
  form_names_any (assign target value) = (names_any target, names_any value)
  form_names_any (assign_by op computes target value) = (names_any target, names_any value)
  form_names_any (step up post on) = names_any on
  form_names_any (call callee args) = all_name_any args
  form_names_any (call_by callee args) = (names_any callee, all_name_any args)
  form_names_any (comma first second) = (names_any first, names_any second)
  form_names_any (literal number puts) = (tt, puts_name_any puts)

  all_name_any : (args : CExprs) → AllNameOnly AnyObject args
  all_name_any no_exprs = tt
  all_name_any (more_exprs first others) = (names_any first, all_name_any others)

  puts_name_any : (puts : CPuts) → PutsNameOnly AnyObject puts
  puts_name_any no_puts = tt
  puts_name_any (more_puts first others) = (put_names_any first, puts_name_any others)

  put_names_any : (one : CPut) → PutNamesOnly AnyObject one
  put_names_any (put spot type value) = names_any value

-- a move, and the memory in which it is made, since an earlier one
abbrev pub StandWithin : (ℕ → Bool) → Blocks → CStand → Type 0
StandWithin reached before one = Left reached before one.blocks × IsMoveWithin reached one.move

module _ (reached : ℕ → Bool) where
  -- ---- frames

  pub slots_append : (first second : Frame) → AreSlotsWithin reached first → AreSlotsWithin reached second → AreSlotsWithin reached (first ++ second)
  slots_append [] second are more = more
  slots_append (slot ∷ others) second are more = (are.0, slots_append others second are.1 more)

  either_within : (test : Bool) (one other : Option Ptr) → IsPlaceWithin reached one → IsPlaceWithin reached other → IsPlaceWithin reached (if test then one else other)
  either_within true one other is too = is
  either_within false one other is too = too

  pub slots_live : (frame : Frame) → AreSlotsWithin reached frame → (number : ℕ) → AnyObject number → IsPlaceWithin reached (slot_of frame number)
  slots_live [] are number any = tt
  slots_live (slot ∷ others) are number any = either_within (slot.object == number) (Some (record { block = slot.block; offset = 0 })) (slot_of others number) are.0 (slots_live others are.1 number any)

  levels_slots : (levels : List CLevel) → AreLevelsWithin reached levels → AreSlotsWithin reached (slots_in levels)
  levels_slots [] are = tt
  levels_slots (level ∷ outer) are = slots_append level.slots (slots_in outer) are.0 (levels_slots outer are.1)

  pub site_slots : (site : CSite) → IsSiteWithin reached site → AreSlotsWithin reached (slots_of_site site)
  site_slots site is = slots_append (slots_in site.levels) site.bottom.params (levels_slots site.levels is.0) is.1.0

  -- ---- moves

  following_within : (way : CWay) (site : CSite) → IsSiteWithin reached site → IsMoveWithin reached (following way site)
  following_within (arrives target) site is = is
  following_within (opens [] form rest way) site is = following_within way (with_level (record { slots = []; form = form; rest = rest }) site) ((tt, is.0), is.1)
  following_within (opens (first ∷ others) form rest way) site is = (tt, is)

  first_within : (number : ℕ) (puts : CPuts) (others : List CObject) → IsMoveWithin reached (static_puts others) → IsMoveWithin reached (first_put number puts (of_statics others) (static_puts others))
  first_within number no_puts others rest = rest
  first_within number (more_puts (put spot type value) more) others rest = tt

  pub statics_within : (all : List CObject) → IsMoveWithin reached (static_puts all)
  statics_within [] = tt
  statics_within (one ∷ others) = first_within one.object (puts_in one.puts) others (statics_within others)

  module _ (before : Blocks) where
    pub without_within : (slots : Frame) (blocks : Blocks) → AreSlotsWithin reached slots → Left reached before blocks → Left reached before (without_objects slots blocks)
    without_within [] blocks are left = left
    without_within (slot ∷ others) blocks are left =
        without_within others (without_block slot.block blocks) are.1 (left_then reached before blocks (without_block slot.block blocks) left (left_killed reached blocks slot.block are.0 left.closed))

    -- ---- what follows

    turning_within : (slots : Frame) (form : CStmtForm) (rest : CRest) (outer : List CLevel) (bottom : CBottom) (blocks : Blocks) → AreSlotsWithin reached slots → AreLevelsWithin reached outer → IsBottomWithin reached bottom
        → Left reached before blocks → StandWithin reached before (turning (record { slots = slots; form = form; rest = rest }) outer bottom blocks)
    turning_within slots (while test body) rest outer bottom blocks are levels ends left = (left, ((are, levels), ends))
    turning_within slots (do_while body test) rest outer bottom blocks are levels ends left = (left, ((are, levels), ends))
    turning_within slots (for_loop first (Some test) next body) rest outer bottom blocks are levels ends left = (left, ((are, levels), ends))
    turning_within slots (for_loop first None next body) rest outer bottom blocks are levels ends left = (left, ((are, levels), ends))
    turning_within slots form rest outer bottom blocks are levels ends left = (left, (tt, ((are, levels), ends)))

    turn_within : (slots : Frame) (form : CStmtForm) (rest : CRest) (outer : List CLevel) (bottom : CBottom) (blocks : Blocks) → AreSlotsWithin reached slots → AreLevelsWithin reached outer → IsBottomWithin reached bottom
        → Left reached before blocks → StandWithin reached before (turn_ended (record { slots = slots; form = form; rest = rest }) outer bottom blocks)
    turn_within slots (for_loop first test (Some next) body) rest outer bottom blocks are levels ends left = (left, ((are, levels), ends))
    turn_within slots (for_loop first test None body) rest outer bottom blocks are levels ends left = turning_within slots (for_loop first test None body) rest outer bottom blocks are levels ends left
    turn_within slots form rest outer bottom blocks are levels ends left = turning_within slots form rest outer bottom blocks are levels ends left

    level_within : (slots : Frame) (form : CStmtForm) (rest : CRest) (outer : List CLevel) (bottom : CBottom) (blocks : Blocks) → AreSlotsWithin reached slots → AreLevelsWithin reached outer → IsBottomWithin reached bottom
        → Left reached before blocks → StandWithin reached before (next_in outer bottom (without_objects slots blocks))
        → StandWithin reached before (next_in (record { slots = slots; form = form; rest = rest } ∷ outer) bottom blocks)
    level_within slots form nothing_left outer bottom blocks are levels ends left around = around
    level_within slots form (statements_left no_stmts) outer bottom blocks are levels ends left around = around
    level_within slots form (statements_left (more_stmts first others)) outer bottom blocks are levels ends left around = (left, ((are, levels), ends))
    level_within slots form (firsts_left no_stmts) outer bottom blocks are levels ends left around = turning_within slots form (firsts_left no_stmts) outer bottom blocks are levels ends left
    level_within slots form (firsts_left (more_stmts first others)) outer bottom blocks are levels ends left around = (left, ((are, levels), ends))
    level_within slots form turn_left outer bottom blocks are levels ends left around = turn_within slots form turn_left outer bottom blocks are levels ends left

    pub next_within : (levels : List CLevel) (bottom : CBottom) (blocks : Blocks) → AreLevelsWithin reached levels → IsBottomWithin reached bottom → Left reached before blocks → StandWithin reached before (next_in levels bottom blocks)
    next_within [] bottom blocks levels ends left = (left, (ends.1, (tt, ends)))
    next_within (level ∷ outer) bottom blocks levels ends left =
        level_within level.slots level.form level.rest outer bottom blocks levels.0 levels.1 ends left
        (next_within outer bottom (without_objects level.slots blocks) levels.1 ends (without_within level.slots blocks levels.0 left))

    ended_within : (level : CLevel) (outer : List CLevel) (bottom : CBottom) (blocks : Blocks) → AreSlotsWithin reached level.slots → AreLevelsWithin reached outer → IsBottomWithin reached bottom → Left reached before blocks
        → StandWithin reached before (next_in (with_rest nothing_left level ∷ outer) bottom blocks)
    ended_within level outer bottom blocks are levels ends left = next_within (with_rest nothing_left level ∷ outer) bottom blocks (are, levels) ends left

    -- ---- jumps

    break_within : (place : Place) (slots : Frame) (form : CStmtForm) (rest : CRest) (outer : List CLevel) (bottom : CBottom) (blocks : Blocks) → AreSlotsWithin reached slots → AreLevelsWithin reached outer → IsBottomWithin reached bottom
        → Left reached before blocks → StandWithin reached before (breaking place outer bottom (without_objects slots blocks))
        → StandWithin reached before (breaking place (record { slots = slots; form = form; rest = rest } ∷ outer) bottom blocks)
    break_within place slots (switch value body) rest outer bottom blocks are levels ends left around = ended_within (record { slots = slots; form = switch value body; rest = rest }) outer bottom blocks are levels ends left
    break_within place slots (while test body) rest outer bottom blocks are levels ends left around = ended_within (record { slots = slots; form = while test body; rest = rest }) outer bottom blocks are levels ends left
    break_within place slots (do_while body test) rest outer bottom blocks are levels ends left around = ended_within (record { slots = slots; form = do_while body test; rest = rest }) outer bottom blocks are levels ends left
    break_within place slots (for_loop first test next body) rest outer bottom blocks are levels ends left around = ended_within (record { slots = slots; form = for_loop first test next body; rest = rest }) outer bottom blocks are levels ends left
    break_within place slots form rest outer bottom blocks are levels ends left around = around

    continue_within : (place : Place) (slots : Frame) (form : CStmtForm) (rest : CRest) (outer : List CLevel) (bottom : CBottom) (blocks : Blocks) → AreSlotsWithin reached slots → AreLevelsWithin reached outer → IsBottomWithin reached bottom
        → Left reached before blocks → StandWithin reached before (continuing place outer bottom (without_objects slots blocks))
        → StandWithin reached before (continuing place (record { slots = slots; form = form; rest = rest } ∷ outer) bottom blocks)
    continue_within place slots (while test body) rest outer bottom blocks are levels ends left around = turn_within slots (while test body) rest outer bottom blocks are levels ends left
    continue_within place slots (do_while body test) rest outer bottom blocks are levels ends left around = turn_within slots (do_while body test) rest outer bottom blocks are levels ends left
    continue_within place slots (for_loop first test next body) rest outer bottom blocks are levels ends left around = turn_within slots (for_loop first test next body) rest outer bottom blocks are levels ends left
    continue_within place slots form rest outer bottom blocks are levels ends left around = around

    breaking_within : (place : Place) (levels : List CLevel) (bottom : CBottom) (blocks : Blocks) → AreLevelsWithin reached levels → IsBottomWithin reached bottom → Left reached before blocks → StandWithin reached before (breaking place levels bottom blocks)
    breaking_within place [] bottom blocks levels ends left = (left, tt)
    breaking_within place (level ∷ outer) bottom blocks levels ends left =
        break_within place level.slots level.form level.rest outer bottom blocks levels.0 levels.1 ends left
        (breaking_within place outer bottom (without_objects level.slots blocks) levels.1 ends (without_within level.slots blocks levels.0 left))

    continuing_within : (place : Place) (levels : List CLevel) (bottom : CBottom) (blocks : Blocks) → AreLevelsWithin reached levels → IsBottomWithin reached bottom → Left reached before blocks → StandWithin reached before (continuing place levels bottom blocks)
    continuing_within place [] bottom blocks levels ends left = (left, tt)
    continuing_within place (level ∷ outer) bottom blocks levels ends left =
        continue_within place level.slots level.form level.rest outer bottom blocks levels.0 levels.1 ends left
        (continuing_within place outer bottom (without_objects level.slots blocks) levels.1 ends (without_within level.slots blocks levels.0 left))

    jump_within : (level : CLevel) (outer : List CLevel) (bottom : CBottom) (blocks : Blocks) (around : CStand) (found : Option CInside) → AreSlotsWithin reached level.slots → AreLevelsWithin reached outer → IsBottomWithin reached bottom
        → Left reached before blocks → StandWithin reached before around
        → StandWithin reached before (elim found as (λ _. CStand) [ Some one ↦ stand (following one.way (site_at (with_rest one.rest level ∷ outer) bottom)) blocks | None ↦ around ])
    jump_within level outer bottom blocks around (Some one) are levels ends left rest = (left, following_within one.way (site_at (with_rest one.rest level ∷ outer) bottom) ((are, levels), ends))
    jump_within level outer bottom blocks around None are levels ends left rest = rest

    jumping_within : (place : Place) (name : List ℕ) (levels : List CLevel) (bottom : CBottom) (blocks : Blocks) → AreLevelsWithin reached levels → IsBottomWithin reached bottom → Left reached before blocks
        → StandWithin reached before (jumping place name levels bottom blocks)
    jumping_within place name [] bottom blocks levels ends left = (left, tt)
    jumping_within place name (level ∷ outer) bottom blocks levels ends left =
        jump_within level outer bottom blocks (jumping place name outer bottom (without_objects level.slots blocks)) (way_in (named name) level.form) levels.0 levels.1 ends left
        (jumping_within place name outer bottom (without_objects level.slots blocks) levels.1 ends (without_within level.slots blocks levels.0 left))

    -- ---- puts

    pub putting_within : (number : ℕ) (puts : CPuts) (behind : CBehind) (blocks : Blocks) → IsBehindWithin reached behind → Left reached before blocks → StandWithin reached before (putting number puts behind blocks)
    putting_within number no_puts (in_body site) blocks is left = next_within site.levels site.bottom blocks is.0 is.1 left
    putting_within number no_puts (of_statics others) blocks is left = (left, statics_within others)
    putting_within number (more_puts (put spot type value) others) behind blocks is left = (left, is)

    object_within : (place : Place) (number : ℕ) (puts : Option CPuts) (site : CSite) (outcome : Result CCleared CWhy) (blocks : Blocks) → IsSiteWithin reached site → Left reached before blocks → IfGiven (ClearLeft reached blocks) outcome
        → StandWithin reached before (reached_object place number puts site outcome blocks)
    object_within place number puts site (Ok one) blocks is left cleared = putting_within number (puts_in puts) (in_body site) one.blocks is (left_then reached before blocks one.blocks left cleared.1)
    object_within place number puts site (Err why) blocks is left cleared = (left, tt)

    -- ---- what a statement does

    doing_within : (setting : CSetting) (place : Place) (form : CStmtForm) (level : CLevel) (outer : CSite) (blocks : Blocks) → AreSlotsWithin reached level.slots → IsSiteWithin reached outer → Left reached before blocks
        → StandWithin reached before (doing setting place form level outer blocks)
    doing_within setting place (label name body) level outer blocks are is left = (left, ((are, is.0), is.1))
    doing_within setting place (case value body) level outer blocks are is left = (left, ((are, is.0), is.1))
    doing_within setting place (default body) level outer blocks are is left = (left, ((are, is.0), is.1))
    doing_within setting place (block stmts) level outer blocks are is left = next_within (with_rest (statements_left stmts) level ∷ outer.levels) outer.bottom blocks (are, is.0) is.1 left
    doing_within setting place (expression None) level outer blocks are is left = next_within (level ∷ outer.levels) outer.bottom blocks (are, is.0) is.1 left
    doing_within setting place (expression (Some value)) level outer blocks are is left = (left, ((are, is.0), is.1))
    doing_within setting place (if_then test body otherwise) level outer blocks are is left = (left, ((are, is.0), is.1))
    doing_within setting place (switch value body) level outer blocks are is left = (left, ((are, is.0), is.1))
    doing_within setting place (while test body) level outer blocks are is left = turning_within level.slots level.form level.rest outer.levels outer.bottom blocks are is.0 is.1 left
    doing_within setting place (do_while body test) level outer blocks are is left = (left, ((are, is.0), is.1))
    doing_within setting place (for_loop first test next body) level outer blocks are is left = next_within (with_rest (firsts_left first) level ∷ outer.levels) outer.bottom blocks (are, is.0) is.1 left
    doing_within setting place (goto name) level outer blocks are is left = jumping_within place name (level ∷ outer.levels) outer.bottom blocks (are, is.0) is.1 left
    doing_within setting place continue level outer blocks are is left = continuing_within place (level ∷ outer.levels) outer.bottom blocks (are, is.0) is.1 left
    doing_within setting place break level outer blocks are is left = breaking_within place (level ∷ outer.levels) outer.bottom blocks (are, is.0) is.1 left
    doing_within setting place (returns None) level outer blocks are is left = (left, (tt, ((are, is.0), is.1)))
    doing_within setting place (returns (Some value)) level outer blocks are is left = (left, ((are, is.0), is.1))
    doing_within setting place (begin number puts) level outer blocks are is left =
        object_within place number puts (with_level level outer) (object_cleared setting (slots_in (level ∷ outer.levels)) number puts blocks) blocks ((are, is.0), is.1) left
        (clear_left reached AnyObject (slots_in (level ∷ outer.levels)) (slots_live (slots_in (level ∷ outer.levels)) (levels_slots (level ∷ outer.levels) (are, is.0))) setting number puts blocks tt left.closed)

    opened_within : (setting : CSetting) (goal : CGoal) (level : CLevel) (outer : CSite) (blocks : Blocks) → AreSlotsWithin reached level.slots → IsSiteWithin reached outer → Left reached before blocks
        → StandWithin reached before (opened_to setting goal level outer blocks)
    opened_within setting (does_form place) level outer blocks are is left = doing_within setting place level.form level outer blocks are is left
    opened_within setting (follows way) level outer blocks are is left = (left, following_within way (with_level level outer) ((are, is.0), is.1))

    pub beginning_within : (setting : CSetting) (objects : List ℕ) (goal : CGoal) (level : CLevel) (outer : CSite) (blocks : Blocks) → AreSlotsWithin reached level.slots → IsSiteWithin reached outer → Left reached before blocks
        → StandWithin reached before (beginning setting objects goal level outer blocks)
    beginning_within setting [] goal level outer blocks are is left = opened_within setting goal level outer blocks are is left
    beginning_within setting (first ∷ others) goal level outer blocks are is left = (left, (are, is))

    pub reached_within : (setting : CSetting) (one : CStmt) (site : CSite) (blocks : Blocks) → IsSiteWithin reached site → Left reached before blocks → StandWithin reached before (reached_next setting one site blocks)
    reached_within setting (stmt place objects form) site blocks is left =
        beginning_within setting objects (does_form place) (record { slots = []; form = form; rest = nothing_left }) site blocks tt is left

    -- ---- choices

    pub choosing_within : (form : CStmtForm) (holds : Bool) (level : CLevel) (outer : List CLevel) (bottom : CBottom) (blocks : Blocks) → AreSlotsWithin reached level.slots → AreLevelsWithin reached outer → IsBottomWithin reached bottom
        → Left reached before blocks → StandWithin reached before (choosing form holds level outer bottom blocks)
    choosing_within (if_then test body otherwise) true level outer bottom blocks are levels ends left = (left, ((are, levels), ends))
    choosing_within (if_then test body no_else) false level outer bottom blocks are levels ends left = ended_within level outer bottom blocks are levels ends left
    choosing_within (if_then test body (else_do other)) false level outer bottom blocks are levels ends left = (left, ((are, levels), ends))
    choosing_within (while test body) true level outer bottom blocks are levels ends left = (left, ((are, levels), ends))
    choosing_within (do_while body test) true level outer bottom blocks are levels ends left = (left, ((are, levels), ends))
    choosing_within (for_loop first test next body) true level outer bottom blocks are levels ends left = (left, ((are, levels), ends))
    choosing_within form holds level outer bottom blocks are levels ends left = ended_within level outer bottom blocks are levels ends left

    switched_within : (found : Option CWay) (level : CLevel) (outer : List CLevel) (bottom : CBottom) (blocks : Blocks) → AreSlotsWithin reached level.slots → AreLevelsWithin reached outer → IsBottomWithin reached bottom
        → Left reached before blocks → StandWithin reached before (switched_by found level outer bottom blocks)
    switched_within None level outer bottom blocks are levels ends left = ended_within level outer bottom blocks are levels ends left
    switched_within (Some way) level outer bottom blocks are levels ends left = (left, following_within way (site_at (with_rest nothing_left level ∷ outer) bottom) ((are, levels), ends))

    pub switching_within : (form : CStmtForm) (value : ℤ) (level : CLevel) (outer : List CLevel) (bottom : CBottom) (blocks : Blocks) → AreSlotsWithin reached level.slots → AreLevelsWithin reached outer → IsBottomWithin reached bottom
        → Left reached before blocks → StandWithin reached before (switching form value level outer bottom blocks)
    switching_within (switch test body) value level outer bottom blocks are levels ends left = switched_within (way_of_switch value body (way_to (case_of value) body)) level outer bottom blocks are levels ends left
    switching_within form value level outer bottom blocks are levels ends left = ended_within level outer bottom blocks are levels ends left

    on_within : (levels : List CLevel) (bottom : CBottom) (blocks : Blocks) → AreLevelsWithin reached levels → IsBottomWithin reached bottom → Left reached before blocks → StandWithin reached before (turning_on (site_at levels bottom) blocks)
    on_within [] bottom blocks levels ends left = next_within [] bottom blocks levels ends left
    on_within (level ∷ outer) bottom blocks levels ends left = turning_within level.slots level.form level.rest outer bottom blocks levels.0 levels.1 ends left

    pub turning_on_within : (site : CSite) (blocks : Blocks) → IsSiteWithin reached site → Left reached before blocks → StandWithin reached before (turning_on site blocks)
    turning_on_within site blocks is left = on_within site.levels site.bottom blocks is.0 is.1 left
