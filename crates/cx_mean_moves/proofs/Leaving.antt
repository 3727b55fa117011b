-- What each move of a body leaves: by recursion over the open statements, from the innermost on.
use Rattle.std.proofs.Common.{◌≡◌, ℕ, ℤ, Bool, true, false, List, [], ◌∷◌, ◌++◌, Option, Some, None, Result, Ok, Err, refl, sym, ap, subst, ◌∙◌, append_assoc}
use Rattle.cr_base.specs.declared.refusal.Place.{Place}
use Rattle.cr_world.specs.Held.{without_block}
use Rattle.cx_core.specs.Trees.{CPuts, put, no_puts, more_puts, CStmtForm, label, case, default, block, expression, if_then, switch, while, do_while, for_loop, goto, continue, break, returns, begin, no_else, else_do, no_stmts, more_stmts}
use Rattle.cx_mean.specs.Initialisers.{CCleared, object_cleared}
use Rattle.cx_mean.specs.Moves.{in_body, CGoal, does_form, follows, CMove, CStand, stand, without_objects, slots_in, turning, turn_ended, next_in, level_ended, is_loop, is_left_by_break, breaking, continuing, jumping, following, entered, static_puts_of, putting, declared, doing, opened_to, beginning, is_switch, way_of_switch, switched, choosing, switching, turning_on}
use Rattle.cx_mean.specs.Nodes.{truth_of_value}
use Rattle.cx_mean.specs.Operands.{CWhy, CValue, Frame, scalar_value}
use Rattle.cx_mean.specs.Paths.{CRest, nothing_left, statements_left, firsts_left, turn_left, CLevel, CBottom, CSite, site_at, with_level, with_rest, named, case_of, CWay, arrives, opens, CInside, way_in, way_to}
use Rattle.cx_mean.specs.Settings.{CSetting}
use Rattle.cx_mean.specs.State.{choice_made, choice_at}
use Rattle.cx_mean.specs.Values.{number_in}
use Rattle.mem_bytes.specs.Access.{and_then}
use Rattle.mem_bytes.specs.declared.value.Value.{Value}
use Rattle.mem_bytes.specs.Memory.{Blocks}
use Rattle.cx_mean_moves.specs.Laws.{StandsIn, IsMoveIn, LeavesObjects, cleared_or, made_anew, goal_anew, begun_anew, MovesLeave}

-- ---- objects that die

pub without_both : (first second : Frame) (blocks : Blocks) → without_objects (first ++ second) blocks ≡ without_objects second (without_objects first blocks)
without_both [] second blocks = refl
without_both (slot ∷ others) second blocks = without_both others second (without_block slot.block blocks)

-- nothing dies
stays : (slots : Frame) (bottom : CBottom) (blocks : Blocks) (move : CMove) → IsMoveIn slots bottom move → LeavesObjects slots bottom blocks (stand move blocks)
stays slots bottom blocks move is = record { gone = []; kept = slots; parts = refl; dies = refl; stands = is }

-- what is left in the statements around is left behind the objects of the innermost one
around : (slots outer : Frame) (bottom : CBottom) (blocks : Blocks) (one : CStand) → LeavesObjects outer bottom (without_objects slots blocks) one → LeavesObjects (slots ++ outer) bottom blocks one
around slots outer bottom blocks one is = record {
  gone = slots ++ is.gone;
  kept = is.kept;
  parts = ap (λ (rest : Frame). slots ++ rest) is.parts ∙ sym (append_assoc slots is.gone is.kept);
  dies = is.dies ∙ sym (without_both slots is.gone blocks);
  stands = is.stands;
}

here : (levels : List CLevel) (bottom : CBottom) → StandsIn (slots_in levels) bottom (site_at levels bottom)
here levels bottom = record { slots = refl; in_function = refl }

-- ---- what follows

turning_leaves : (slots : Frame) (form : CStmtForm) (rest : CRest) (outer : List CLevel) (bottom : CBottom) (blocks : Blocks)
    → LeavesObjects (slots ++ slots_in outer) bottom blocks (turning (record { slots = slots; form = form; rest = rest }) outer bottom blocks)
turning_leaves slots (while test body) rest outer bottom blocks = stays (slots ++ slots_in outer) bottom blocks _ (record { slots = refl; in_function = refl })
turning_leaves slots (do_while body test) rest outer bottom blocks = stays (slots ++ slots_in outer) bottom blocks _ (record { slots = refl; in_function = refl })
turning_leaves slots (for_loop first (Some test) next body) rest outer bottom blocks = stays (slots ++ slots_in outer) bottom blocks _ (record { slots = refl; in_function = refl })
turning_leaves slots (for_loop first None next body) rest outer bottom blocks = stays (slots ++ slots_in outer) bottom blocks _ (record { slots = refl; in_function = refl })
turning_leaves slots form rest outer bottom blocks = stays (slots ++ slots_in outer) bottom blocks _ (record { slots = refl; in_function = refl })

turn_leaves : (slots : Frame) (form : CStmtForm) (rest : CRest) (outer : List CLevel) (bottom : CBottom) (blocks : Blocks)
    → LeavesObjects (slots ++ slots_in outer) bottom blocks (turn_ended (record { slots = slots; form = form; rest = rest }) outer bottom blocks)
turn_leaves slots (for_loop first test (Some next) body) rest outer bottom blocks = stays (slots ++ slots_in outer) bottom blocks _ (record { slots = refl; in_function = refl })
turn_leaves slots (for_loop first test None body) rest outer bottom blocks = turning_leaves slots (for_loop first test None body) rest outer bottom blocks
turn_leaves slots form rest outer bottom blocks = turning_leaves slots form rest outer bottom blocks

level_leaves : (slots : Frame) (form : CStmtForm) (rest : CRest) (outer : List CLevel) (bottom : CBottom) (blocks : Blocks) → LeavesObjects (slots_in outer) bottom (without_objects slots blocks) (next_in outer bottom (without_objects slots blocks))
    → LeavesObjects (slots ++ slots_in outer) bottom blocks (next_in (record { slots = slots; form = form; rest = rest } ∷ outer) bottom blocks)
level_leaves slots form nothing_left outer bottom blocks behind = around slots (slots_in outer) bottom blocks _ behind
level_leaves slots form (statements_left no_stmts) outer bottom blocks behind = around slots (slots_in outer) bottom blocks _ behind
level_leaves slots form (statements_left (more_stmts first others)) outer bottom blocks behind = stays (slots ++ slots_in outer) bottom blocks _ (record { slots = refl; in_function = refl })
level_leaves slots form (firsts_left no_stmts) outer bottom blocks behind = turning_leaves slots form (firsts_left no_stmts) outer bottom blocks
level_leaves slots form (firsts_left (more_stmts first others)) outer bottom blocks behind = stays (slots ++ slots_in outer) bottom blocks _ (record { slots = refl; in_function = refl })
level_leaves slots form turn_left outer bottom blocks behind = turn_leaves slots form turn_left outer bottom blocks

pub next_leaves : (levels : List CLevel) (bottom : CBottom) (blocks : Blocks) → LeavesObjects (slots_in levels) bottom blocks (next_in levels bottom blocks)
next_leaves [] bottom blocks = stays [] bottom blocks _ (record { slots = refl; in_function = refl })
next_leaves (level ∷ outer) bottom blocks = level_leaves level.slots level.form level.rest outer bottom blocks (next_leaves outer bottom (without_objects level.slots blocks))

ended_leaves : (level : CLevel) (outer : List CLevel) (bottom : CBottom) (blocks : Blocks) → LeavesObjects (slots_in (level ∷ outer)) bottom blocks (level_ended level outer bottom blocks)
ended_leaves level outer bottom blocks = next_leaves (with_rest nothing_left level ∷ outer) bottom blocks

-- ---- jumps

break_leaves : (place : Place) (level : CLevel) (outer : List CLevel) (bottom : CBottom) (blocks : Blocks) (test : Bool) → LeavesObjects (slots_in outer) bottom (without_objects level.slots blocks) (breaking place outer bottom (without_objects level.slots blocks))
    → LeavesObjects (slots_in (level ∷ outer)) bottom blocks (elim test as (λ _. CStand) [ true ↦ level_ended level outer bottom blocks | false ↦ breaking place outer bottom (without_objects level.slots blocks) ])
break_leaves place level outer bottom blocks true behind = ended_leaves level outer bottom blocks
break_leaves place level outer bottom blocks false behind = around level.slots (slots_in outer) bottom blocks _ behind

breaking_leaves : (place : Place) (levels : List CLevel) (bottom : CBottom) (blocks : Blocks) → LeavesObjects (slots_in levels) bottom blocks (breaking place levels bottom blocks)
breaking_leaves place [] bottom blocks = stays [] bottom blocks _ tt
breaking_leaves place (level ∷ outer) bottom blocks =
    break_leaves place level outer bottom blocks (is_left_by_break level.form) (breaking_leaves place outer bottom (without_objects level.slots blocks))

continue_leaves : (place : Place) (level : CLevel) (outer : List CLevel) (bottom : CBottom) (blocks : Blocks) (test : Bool) → LeavesObjects (slots_in outer) bottom (without_objects level.slots blocks) (continuing place outer bottom (without_objects level.slots blocks))
    → LeavesObjects (slots_in (level ∷ outer)) bottom blocks (elim test as (λ _. CStand) [ true ↦ turn_ended level outer bottom blocks | false ↦ continuing place outer bottom (without_objects level.slots blocks) ])
continue_leaves place level outer bottom blocks true behind = turn_leaves level.slots level.form level.rest outer bottom blocks
continue_leaves place level outer bottom blocks false behind = around level.slots (slots_in outer) bottom blocks _ behind

continuing_leaves : (place : Place) (levels : List CLevel) (bottom : CBottom) (blocks : Blocks) → LeavesObjects (slots_in levels) bottom blocks (continuing place levels bottom blocks)
continuing_leaves place [] bottom blocks = stays [] bottom blocks _ tt
continuing_leaves place (level ∷ outer) bottom blocks =
    continue_leaves place level outer bottom blocks (is_loop level.form) (continuing_leaves place outer bottom (without_objects level.slots blocks))

following_in : (kept : Frame) (bottom : CBottom) (way : CWay) (site : CSite) → StandsIn kept bottom site → IsMoveIn kept bottom (following way site)
following_in kept bottom (arrives target) site is = is
following_in kept bottom (opens [] form rest way) site is =
    following_in kept bottom way (with_level (record { slots = []; form = form; rest = rest }) site) (record { slots = is.slots; in_function = is.in_function })
following_in kept bottom (opens (first ∷ others) form rest way) site is = (is.slots, is.in_function)

jump_leaves : (place : Place) (name : List ℕ) (level : CLevel) (outer : List CLevel) (bottom : CBottom) (blocks : Blocks) (found : Option CInside)
    → LeavesObjects (slots_in outer) bottom (without_objects level.slots blocks) (jumping place name outer bottom (without_objects level.slots blocks))
    → LeavesObjects (slots_in (level ∷ outer)) bottom blocks (elim found as (λ _. CStand) [ Some one ↦ stand (entered one level outer bottom) blocks | None ↦ jumping place name outer bottom (without_objects level.slots blocks) ])
jump_leaves place name level outer bottom blocks (Some one) behind =
    stays (slots_in (level ∷ outer)) bottom blocks _ (following_in (slots_in (level ∷ outer)) bottom one.way (site_at (with_rest one.rest level ∷ outer) bottom) (record { slots = refl; in_function = refl }))
jump_leaves place name level outer bottom blocks None behind = around level.slots (slots_in outer) bottom blocks _ behind

jumping_leaves : (place : Place) (name : List ℕ) (levels : List CLevel) (bottom : CBottom) (blocks : Blocks) → LeavesObjects (slots_in levels) bottom blocks (jumping place name levels bottom blocks)
jumping_leaves place name [] bottom blocks = stays [] bottom blocks _ tt
jumping_leaves place name (level ∷ outer) bottom blocks =
    jump_leaves place name level outer bottom blocks (way_in (named name) level.form) (jumping_leaves place name outer bottom (without_objects level.slots blocks))

-- ---- puts, and what a statement does

putting_leaves : (number : ℕ) (all : CPuts) (site : CSite) (blocks : Blocks) → LeavesObjects (slots_in site.levels) site.bottom blocks (putting number all (in_body site) blocks)
putting_leaves number no_puts site blocks = next_leaves site.levels site.bottom blocks
putting_leaves number (more_puts (put spot type value) others) site blocks = stays (slots_in site.levels) site.bottom blocks _ (record { slots = refl; in_function = refl })

declared_leaves : (place : Place) (number : ℕ) (puts : Option CPuts) (site : CSite) (outcome : Result CCleared CWhy) (blocks : Blocks)
    → LeavesObjects (slots_in site.levels) site.bottom (cleared_or blocks outcome) (declared place number puts site outcome blocks)
declared_leaves place number puts site (Ok one) blocks = putting_leaves number (static_puts_of puts) site one.blocks
declared_leaves place number puts site (Err why) blocks = stays (slots_in site.levels) site.bottom blocks _ tt

module _ (setting : CSetting) where
  doing_leaves : (place : Place) (form : CStmtForm) (level : CLevel) (outer : CSite) (blocks : Blocks)
      → LeavesObjects (slots_in (level ∷ outer.levels)) outer.bottom (made_anew setting (slots_in (level ∷ outer.levels)) form blocks) (doing setting place form level outer blocks)
  doing_leaves place (label name body) level outer blocks = stays (slots_in (level ∷ outer.levels)) outer.bottom blocks _ (record { slots = refl; in_function = refl })
  doing_leaves place (case value body) level outer blocks = stays (slots_in (level ∷ outer.levels)) outer.bottom blocks _ (record { slots = refl; in_function = refl })
  doing_leaves place (default body) level outer blocks = stays (slots_in (level ∷ outer.levels)) outer.bottom blocks _ (record { slots = refl; in_function = refl })
  doing_leaves place (block stmts) level outer blocks = next_leaves (with_rest (statements_left stmts) level ∷ outer.levels) outer.bottom blocks
  doing_leaves place (expression None) level outer blocks = next_leaves (level ∷ outer.levels) outer.bottom blocks
  doing_leaves place (expression (Some value)) level outer blocks = stays (slots_in (level ∷ outer.levels)) outer.bottom blocks _ (record { slots = refl; in_function = refl })
  doing_leaves place (if_then test body otherwise) level outer blocks = stays (slots_in (level ∷ outer.levels)) outer.bottom blocks _ (record { slots = refl; in_function = refl })
  doing_leaves place (switch value body) level outer blocks = stays (slots_in (level ∷ outer.levels)) outer.bottom blocks _ (record { slots = refl; in_function = refl })
  doing_leaves place (while test body) level outer blocks = turning_leaves level.slots level.form level.rest outer.levels outer.bottom blocks
  doing_leaves place (do_while body test) level outer blocks = stays (slots_in (level ∷ outer.levels)) outer.bottom blocks _ (record { slots = refl; in_function = refl })
  doing_leaves place (for_loop first test next body) level outer blocks = next_leaves (with_rest (firsts_left first) level ∷ outer.levels) outer.bottom blocks
  doing_leaves place (goto name) level outer blocks = jumping_leaves place name (level ∷ outer.levels) outer.bottom blocks
  doing_leaves place continue level outer blocks = continuing_leaves place (level ∷ outer.levels) outer.bottom blocks
  doing_leaves place break level outer blocks = breaking_leaves place (level ∷ outer.levels) outer.bottom blocks
  doing_leaves place (returns None) level outer blocks = stays (slots_in (level ∷ outer.levels)) outer.bottom blocks _ (record { slots = refl; in_function = refl })
  doing_leaves place (returns (Some value)) level outer blocks = stays (slots_in (level ∷ outer.levels)) outer.bottom blocks _ (record { slots = refl; in_function = refl })
  doing_leaves place (begin number puts) level outer blocks =
      declared_leaves place number puts (with_level level outer) (object_cleared setting (slots_in (level ∷ outer.levels)) number puts blocks) blocks

  opened_leaves : (goal : CGoal) (level : CLevel) (outer : CSite) (blocks : Blocks)
      → LeavesObjects (slots_in (level ∷ outer.levels)) outer.bottom (goal_anew setting (slots_in (level ∷ outer.levels)) goal level.form blocks) (opened_to setting goal level outer blocks)
  opened_leaves (does_form place) level outer blocks = doing_leaves place level.form level outer blocks
  opened_leaves (follows way) level outer blocks =
      stays (slots_in (level ∷ outer.levels)) outer.bottom blocks _ (following_in (slots_in (level ∷ outer.levels)) outer.bottom way (with_level level outer) (record { slots = refl; in_function = refl }))

  beginning_leaves : (objects : List ℕ) (goal : CGoal) (level : CLevel) (outer : CSite) (blocks : Blocks)
      → LeavesObjects (slots_in (level ∷ outer.levels)) outer.bottom (begun_anew setting (slots_in (level ∷ outer.levels)) objects goal level.form blocks) (beginning setting objects goal level outer blocks)
  beginning_leaves [] goal level outer blocks = opened_leaves goal level outer blocks
  beginning_leaves (first ∷ others) goal level outer blocks = stays (slots_in (level ∷ outer.levels)) outer.bottom blocks _ (refl, refl)

-- ---- choices

pub choosing_leaves : (form : CStmtForm) (holds : Bool) (level : CLevel) (outer : List CLevel) (bottom : CBottom) (blocks : Blocks) → LeavesObjects (slots_in (level ∷ outer)) bottom blocks (choosing form holds level outer bottom blocks)
choosing_leaves (if_then test body otherwise) true level outer bottom blocks = stays (slots_in (level ∷ outer)) bottom blocks _ (record { slots = refl; in_function = refl })
choosing_leaves (if_then test body no_else) false level outer bottom blocks = ended_leaves level outer bottom blocks
choosing_leaves (if_then test body (else_do other)) false level outer bottom blocks = stays (slots_in (level ∷ outer)) bottom blocks _ (record { slots = refl; in_function = refl })
choosing_leaves (while test body) true level outer bottom blocks = stays (slots_in (level ∷ outer)) bottom blocks _ (record { slots = refl; in_function = refl })
choosing_leaves (do_while body test) true level outer bottom blocks = stays (slots_in (level ∷ outer)) bottom blocks _ (record { slots = refl; in_function = refl })
choosing_leaves (for_loop first test next body) true level outer bottom blocks = stays (slots_in (level ∷ outer)) bottom blocks _ (record { slots = refl; in_function = refl })
choosing_leaves form holds level outer bottom blocks = ended_leaves level outer bottom blocks

switched_leaves : (found : Option CWay) (level : CLevel) (outer : List CLevel) (bottom : CBottom) (blocks : Blocks) → LeavesObjects (slots_in (level ∷ outer)) bottom blocks (switched found level outer bottom blocks)
switched_leaves None level outer bottom blocks = ended_leaves level outer bottom blocks
switched_leaves (Some way) level outer bottom blocks =
    stays (slots_in (level ∷ outer)) bottom blocks _ (following_in (slots_in (level ∷ outer)) bottom way (site_at (with_rest nothing_left level ∷ outer) bottom) (record { slots = refl; in_function = refl }))

pub switching_leaves : (form : CStmtForm) (value : ℤ) (level : CLevel) (outer : List CLevel) (bottom : CBottom) (blocks : Blocks) → LeavesObjects (slots_in (level ∷ outer)) bottom blocks (switching form value level outer bottom blocks)
switching_leaves (switch test body) value level outer bottom blocks = switched_leaves (way_of_switch value body (way_to (case_of value) body)) level outer bottom blocks
switching_leaves form value level outer bottom blocks = ended_leaves level outer bottom blocks

truth_leaves : (outcome : Result Bool CWhy) (level : CLevel) (outer : List CLevel) (bottom : CBottom) (blocks : Blocks) (one : CStand) → and_then outcome (λ holds. Ok (choosing level.form holds level outer bottom blocks)) ≡ Ok one
    → LeavesObjects (slots_in (level ∷ outer)) bottom blocks one
truth_leaves (Ok holds) level outer bottom blocks one e =
    let same : choosing level.form holds level outer bottom blocks ≡ one = cc (e) in
    subst (λ (s : CStand). LeavesObjects (slots_in (level ∷ outer)) bottom blocks s) same (choosing_leaves level.form holds level outer bottom blocks)
truth_leaves (Err why) level outer bottom blocks one e = cc (e)

number_leaves : (outcome : Result ℤ CWhy) (level : CLevel) (outer : List CLevel) (bottom : CBottom) (blocks : Blocks) (one : CStand) → and_then outcome (λ number. Ok (switching level.form number level outer bottom blocks)) ≡ Ok one
    → LeavesObjects (slots_in (level ∷ outer)) bottom blocks one
number_leaves (Ok number) level outer bottom blocks one e =
    let same : switching level.form number level outer bottom blocks ≡ one = cc (e) in
    subst (λ (s : CStand). LeavesObjects (slots_in (level ∷ outer)) bottom blocks s) same (switching_leaves level.form number level outer bottom blocks)
number_leaves (Err why) level outer bottom blocks one e = cc (e)

scalar_leaves : (outcome : Result Value CWhy) (level : CLevel) (outer : List CLevel) (bottom : CBottom) (blocks : Blocks) (one : CStand)
    → and_then outcome (λ value. and_then (number_in value) (λ number. Ok (switching level.form number level outer bottom blocks))) ≡ Ok one → LeavesObjects (slots_in (level ∷ outer)) bottom blocks one
scalar_leaves (Ok value) level outer bottom blocks one e = number_leaves (number_in value) level outer bottom blocks one e
scalar_leaves (Err why) level outer bottom blocks one e = cc (e)

made_leaves : (test : Bool) (blocks : Blocks) (value : CValue) (level : CLevel) (outer : List CLevel) (bottom : CBottom) (one : CStand) → choice_made test blocks value level outer bottom ≡ Ok one
    → LeavesObjects (slots_in (level ∷ outer)) bottom blocks one
made_leaves true blocks value level outer bottom one e = scalar_leaves (scalar_value value) level outer bottom blocks one e
made_leaves false blocks value level outer bottom one e = truth_leaves (truth_of_value blocks value) level outer bottom blocks one e

choice_leaves : (blocks : Blocks) (value : CValue) (levels : List CLevel) (bottom : CBottom) (one : CStand) → choice_at blocks value levels bottom ≡ Ok one → LeavesObjects (slots_in levels) bottom blocks one
choice_leaves blocks value [] bottom one e = cc (e)
choice_leaves blocks value (level ∷ outer) bottom one e = made_leaves (is_switch level.form) blocks value level outer bottom one e

on_leaves : (levels : List CLevel) (bottom : CBottom) (blocks : Blocks) → LeavesObjects (slots_in levels) bottom blocks (turning_on (site_at levels bottom) blocks)
on_leaves [] bottom blocks = next_leaves [] bottom blocks
on_leaves (level ∷ outer) bottom blocks = turning_leaves level.slots level.form level.rest outer bottom blocks

pub moves_leave : MovesLeave
moves_leave = record {
  next = next_leaves;
  ends = ended_leaves;
  turns = λ level outer bottom blocks. turning_leaves level.slots level.form level.rest outer bottom blocks;
  turn_ends = λ level outer bottom blocks. turn_leaves level.slots level.form level.rest outer bottom blocks;
  turns_on = λ site blocks. on_leaves site.levels site.bottom blocks;
  breaks = breaking_leaves;
  continues = continuing_leaves;
  jumps = jumping_leaves;
  follows = λ way site. following_in (slots_in site.levels) site.bottom way site (record { slots = refl; in_function = refl });
  puts = putting_leaves;
  does = doing_leaves;
  begins = beginning_leaves;
  chooses = choosing_leaves;
  switches = switching_leaves;
  choice = choice_leaves;
}
