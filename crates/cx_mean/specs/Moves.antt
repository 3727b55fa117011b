-- What comes next in a body (ISO C99, 6.8): what a statement does, what follows one, and where jumps lead. The objects of each
-- statement that is left die, and those of each that is entered begin, one a step (6.2.4p5). All steps of statements, of a run
-- under any order and of the leftmost run, are these.
use Rattle.std.specs.Prelude.{ℕ, ℤ, Bool, true, false, List, [], ◌∷◌, ◌++◌, Option, Some, None, Result, Ok, Err}
use Rattle.cr_base.specs.declared.layout.Spot.{Spot}
use Rattle.cr_base.specs.declared.refusal.Place.{Place}
use Rattle.cx_core.specs.Trees.{CTy, CExpr, place_of, put, CPuts, no_puts, more_puts, CStmt, stmt, CStmtForm, label, case, default, block, expression, if_then, switch, while, do_while, for_loop, goto, continue, break, returns, begin, COtherwise, no_else, else_do, CStmts, no_stmts, more_stmts, CObject}
use Rattle.cr_world.specs.Held.{without_block}
use Rattle.cx_mean.specs.Initialisers.{CCleared, object_cleared}
use Rattle.cx_mean.specs.Operands.{CWhy, CValue, missing, Frame}
use Rattle.cx_mean.specs.Paths.{CRest, nothing_left, statements_left, firsts_left, turn_left, CLevel, CBottom, CSite, site_at, with_level, with_rest, named, case_of, default_case, CWay, arrives, opens, CInside, way_to, way_in}
use Rattle.cx_mean.specs.Settings.{CSetting}
use Rattle.mem_bytes.specs.Memory.{Blocks}

-- ---- what is next

-- what is done behind the last put of an object: a body goes on, or other static objects have puts
pub data CBehind : Type 0 where
  in_body : CSite → CBehind
  of_statics : List CObject → CBehind

-- a put that is stored once its value is there: the object, the part and its type, the puts behind it, and what follows
pub record CPutting : Type 0 where
  pub object : ℕ
  pub spot : Spot
  pub type : CTy
  pub others : CPuts
  pub behind : CBehind

-- what is done with the value of a full expression
pub data CPurpose : Type 0 where
  -- it is stored (6.7.8)
  puts_it : Place → CPutting → CPurpose
  -- it is dropped, and what follows in the site is next (6.8.3)
  drops_it : CSite → CPurpose
  -- it is dropped, and the loop goes on to its next turn (6.8.5.3)
  turns_on : CSite → CPurpose
  -- the function gives it back (6.8.6.4)
  gives_it : Place → CSite → CPurpose
  -- the innermost open statement chooses by it (6.8.4, 6.8.5)
  chooses_by : Place → CSite → CPurpose

-- what follows once the objects of a statement have begun: it does what it does, or a jump goes on inside
pub data CGoal : Type 0 where
  does_form : Place → CGoal
  follows : CWay → CGoal

-- the life of an object of a block begins: the other objects of that block, its level so far, where that stands, and what
-- follows
pub record CBeginning : Type 0 where
  pub object : ℕ
  pub others : List ℕ
  pub level : CLevel
  pub outer : CSite
  pub goal : CGoal

pub data CMove : Type 0 where
  -- a full expression is evaluated
  values : CExpr → CPurpose → CMove
  -- a statement is reached
  reaches : CStmt → CSite → CMove
  begins : CBeginning → CMove
  -- the function returns with this value
  leaves : CValue → CSite → CMove
  -- `main` is called (5.1.2.2.1)
  calls_main : CMove
  -- what no typed program does
  goes_nowhere : Place → CMove

-- a move, and the memory in which it is made
pub record CStand : Type 0 where
  pub move : CMove
  pub blocks : Blocks

abbrev pub stand : CMove → Blocks → CStand
stand move blocks = record { move = move; blocks = blocks }

-- ---- lives

-- objects die (6.2.4p5)
abbrev pub without_objects : Frame → Blocks → Blocks
without_objects [] blocks = blocks
without_objects (slot ∷ others) blocks = without_objects others (without_block slot.block blocks)

-- the objects of all open statements, the innermost first
abbrev pub slots_in : List CLevel → Frame
slots_in [] = []
slots_in (level ∷ outer) = level.slots ++ slots_in outer

-- all objects of a function that runs
abbrev pub slots_of_site : CSite → Frame
slots_of_site site = slots_in site.levels ++ site.bottom.params

-- ---- turns of loops (6.8.5)

-- the condition, or the body where a `for` has none; another statement than a loop has no turns
abbrev pub loop_test : CStmtForm → CLevel → List CLevel → CBottom → CMove
loop_test (while test body) level outer bottom = values test (chooses_by (place_of test) (site_at (level ∷ outer) bottom))
loop_test (do_while body test) level outer bottom = values test (chooses_by (place_of test) (site_at (level ∷ outer) bottom))
loop_test (for_loop first (Some test) next body) level outer bottom =
    values test (chooses_by (place_of test) (site_at (level ∷ outer) bottom))
loop_test (for_loop first None next body) level outer bottom =
    reaches body (site_at (with_rest turn_left level ∷ outer) bottom)
loop_test form level outer bottom = leaves missing (site_at (level ∷ outer) bottom)

abbrev pub turning : CLevel → List CLevel → CBottom → Blocks → CStand
turning level outer bottom blocks = stand (loop_test level.form level outer bottom) blocks

-- the end of a turn: the third expression of a `for`, then the condition
abbrev pub turn_ended_in : CStmtForm → CLevel → List CLevel → CBottom → Blocks → CStand
turn_ended_in (for_loop first test (Some next) body) level outer bottom blocks =
    stand (values next (turns_on (site_at (level ∷ outer) bottom))) blocks
turn_ended_in form level outer bottom blocks = turning level outer bottom blocks

abbrev pub turn_ended : CLevel → List CLevel → CBottom → Blocks → CStand
turn_ended level outer bottom blocks = turn_ended_in level.form level outer bottom blocks

-- ---- what follows

-- a statement of a list is reached, or the statement that holds the list has nothing left
abbrev pub next_statement : (CStmts → CRest) → CStmts → CLevel → List CLevel → CBottom → Blocks → CStand → CStand
next_statement rest_of no_stmts level outer bottom blocks at_end = at_end
next_statement rest_of (more_stmts first others) level outer bottom blocks at_end =
    stand (reaches first (site_at (with_rest (rest_of others) level ∷ outer) bottom)) blocks

-- what follows in the innermost open statement; where nothing is left of it, its objects die, and what follows around it is
-- next; at the end of the body the function returns
abbrev pub next_in : List CLevel → CBottom → Blocks → CStand
next_in [] bottom blocks = stand (leaves bottom.at_end (site_at [] bottom)) blocks
next_in (level ∷ outer) bottom blocks = elim level.rest as (λ _. CStand) [
  | nothing_left ↦ next_in outer bottom (without_objects level.slots blocks)
  | statements_left stmts ↦
      next_statement statements_left stmts level outer bottom blocks (next_in outer bottom (without_objects level.slots blocks))
  | firsts_left stmts ↦ next_statement firsts_left stmts level outer bottom blocks (turning level outer bottom blocks)
  | turn_left ↦ turn_ended level outer bottom blocks
]

abbrev pub next_of : CSite → Blocks → CStand
next_of site blocks = next_in site.levels site.bottom blocks

-- the innermost open statement has nothing left
abbrev pub level_ended : CLevel → List CLevel → CBottom → Blocks → CStand
level_ended level outer bottom blocks = next_in (with_rest nothing_left level ∷ outer) bottom blocks

-- ---- jumps (6.8.6)

abbrev pub is_loop : CStmtForm → Bool
is_loop (while test body) = true
is_loop (do_while body test) = true
is_loop (for_loop first test next body) = true
is_loop form = false

abbrev pub is_left_by_break : CStmtForm → Bool
is_left_by_break (switch value body) = true
is_left_by_break form = is_loop form

-- `break`: the innermost loop or `switch` has nothing left
abbrev pub breaking : Place → List CLevel → CBottom → Blocks → CStand
breaking place [] bottom blocks = stand (goes_nowhere place) blocks
breaking place (level ∷ outer) bottom blocks = elim (is_left_by_break level.form) as (λ _. CStand) [
  | true ↦ level_ended level outer bottom blocks
  | false ↦ breaking place outer bottom (without_objects level.slots blocks)
]

-- `continue`: the turn of the innermost loop is at its end
abbrev pub continuing : Place → List CLevel → CBottom → Blocks → CStand
continuing place [] bottom blocks = stand (goes_nowhere place) blocks
continuing place (level ∷ outer) bottom blocks = elim (is_loop level.form) as (λ _. CStand) [
  | true ↦ turn_ended level outer bottom blocks
  | false ↦ continuing place outer bottom (without_objects level.slots blocks)
]

-- a way is followed: the objects of each statement that is opened begin
abbrev pub following : CWay → CSite → CMove
following (arrives target) site = reaches target site
following (opens [] form rest way) site = following way (with_level (record { slots = []; form = form; rest = rest }) site)
following (opens (first ∷ others) form rest way) site =
    begins (record {
      object = first;
      others = others;
      level = record { slots = []; form = form; rest = rest };
      outer = site;
      goal = follows way;
    })

abbrev pub entered : CInside → CLevel → List CLevel → CBottom → CMove
entered one level outer bottom = following one.way (site_at (with_rest one.rest level ∷ outer) bottom)

-- `goto`: the innermost open statement that holds the label stays open, and those inside of it are left
abbrev pub jumping : Place → List ℕ → List CLevel → CBottom → Blocks → CStand
jumping place name [] bottom blocks = stand (goes_nowhere place) blocks
jumping place name (level ∷ outer) bottom blocks = elim (way_in (named name) level.form) as (λ _. CStand) [
  | Some one ↦ stand (entered one level outer bottom) blocks
  | None ↦ jumping place name outer bottom (without_objects level.slots blocks)
]

-- ---- puts (6.7.8)

abbrev pub static_puts_of : Option CPuts → CPuts
static_puts_of None = no_puts
static_puts_of (Some puts) = puts

-- a put's value is evaluated, or what is behind the puts follows
abbrev pub first_put : ℕ → CPuts → CBehind → CMove → CMove
first_put number no_puts behind after = after
first_put number (more_puts (put spot type value) others) behind after =
    values value
    (puts_it (place_of value) (record { object = number; spot = spot; type = type; others = others; behind = behind }))

-- the puts of static objects, in order, and then `main` is called
abbrev pub static_puts : List CObject → CMove
static_puts [] = calls_main
static_puts (one ∷ others) =
    first_put one.object (static_puts_of one.puts) (of_statics others) (static_puts others)

abbrev pub behind_puts : CBehind → Blocks → CStand
behind_puts (in_body site) blocks = next_of site blocks
behind_puts (of_statics others) blocks = stand (static_puts others) blocks

-- the next put of an object, or what is behind its puts
abbrev pub putting : ℕ → CPuts → CBehind → Blocks → CStand
putting number no_puts behind blocks = behind_puts behind blocks
putting number (more_puts one others) behind blocks =
    stand (first_put number (more_puts one others) behind calls_main) blocks

-- ---- what a statement does

-- its objects begin, and then it goes on
abbrev pub declared : Place → ℕ → Option CPuts → CSite → Result CCleared CWhy → Blocks → CStand
declared place number puts site (Ok one) blocks = putting number (static_puts_of puts) (in_body site) one.blocks
declared place number puts site (Err why) blocks = stand (goes_nowhere place) blocks

-- a statement that is open does what it does. Its level is the first of the site.
abbrev pub doing : CSetting → Place → CStmtForm → CLevel → CSite → Blocks → CStand
doing setting place (label name body) level outer blocks = stand (reaches body (with_level level outer)) blocks
doing setting place (case value body) level outer blocks = stand (reaches body (with_level level outer)) blocks
doing setting place (default body) level outer blocks = stand (reaches body (with_level level outer)) blocks
doing setting place (block stmts) level outer blocks =
    next_of (with_level (with_rest (statements_left stmts) level) outer) blocks
doing setting place (expression None) level outer blocks = next_of (with_level level outer) blocks
doing setting place (expression (Some value)) level outer blocks = stand (values value (drops_it (with_level level outer))) blocks
doing setting place (if_then test body otherwise) level outer blocks =
    stand (values test (chooses_by (place_of test) (with_level level outer))) blocks
doing setting place (switch value body) level outer blocks =
    stand (values value (chooses_by (place_of value) (with_level level outer))) blocks
doing setting place (while test body) level outer blocks = turning level outer.levels outer.bottom blocks
doing setting place (do_while body test) level outer blocks =
    stand (reaches body (with_level (with_rest turn_left level) outer)) blocks
doing setting place (for_loop first test next body) level outer blocks =
    next_of (with_level (with_rest (firsts_left first) level) outer) blocks
doing setting place (goto name) level outer blocks = jumping place name (level ∷ outer.levels) outer.bottom blocks
doing setting place continue level outer blocks = continuing place (level ∷ outer.levels) outer.bottom blocks
doing setting place break level outer blocks = breaking place (level ∷ outer.levels) outer.bottom blocks
doing setting place (returns None) level outer blocks = stand (leaves missing (with_level level outer)) blocks
doing setting place (returns (Some value)) level outer blocks =
    stand (values value (gives_it place (with_level level outer))) blocks
doing setting place (begin number puts) level outer blocks =
    declared place number puts (with_level level outer)
    (object_cleared setting (slots_in (level ∷ outer.levels)) number puts blocks) blocks

-- the objects of a statement have begun
abbrev pub opened_to : CSetting → CGoal → CLevel → CSite → Blocks → CStand
opened_to setting (does_form place) level outer blocks = doing setting place level.form level outer blocks
opened_to setting (follows way) level outer blocks = stand (following way (with_level level outer)) blocks

-- the objects of a statement begin, one after the other
abbrev pub beginning : CSetting → List ℕ → CGoal → CLevel → CSite → Blocks → CStand
beginning setting [] goal level outer blocks = opened_to setting goal level outer blocks
beginning setting (first ∷ others) goal level outer blocks =
    stand (begins (record { object = first; others = others; level = level; outer = outer; goal = goal })) blocks

-- the step in which a statement is reached
abbrev pub reached : CSetting → CStmt → CSite → Blocks → CStand
reached setting (stmt place objects form) site blocks =
    beginning setting objects (does_form place) (record { slots = []; form = form; rest = nothing_left }) site blocks

-- ---- choices (6.8.4, 6.8.5)

-- what a controlling expression is asked for: whether it is true, or its value
abbrev pub is_switch : CStmtForm → Bool
is_switch (switch value body) = true
is_switch form = false

abbrev pub with_body : CRest → CStmt → CLevel → List CLevel → CBottom → Blocks → CStand
with_body rest body level outer bottom blocks = stand (reaches body (site_at (with_rest rest level ∷ outer) bottom)) blocks

abbrev pub else_body : COtherwise → CLevel → List CLevel → CBottom → Blocks → CStand
else_body no_else level outer bottom blocks = level_ended level outer bottom blocks
else_body (else_do body) level outer bottom blocks = with_body nothing_left body level outer bottom blocks

-- the way that a `switch` takes: to the `case` of the value, or else to `default` (6.8.4.2p5)
abbrev pub way_of_switch : ℤ → CStmt → Option CWay → Option CWay
way_of_switch value body (Some way) = Some way
way_of_switch value body None = way_to default_case body

abbrev pub switched : Option CWay → CLevel → List CLevel → CBottom → Blocks → CStand
switched None level outer bottom blocks = level_ended level outer bottom blocks
switched (Some way) level outer bottom blocks =
    stand (following way (site_at (with_rest nothing_left level ∷ outer) bottom)) blocks

-- an `if` or a loop goes on where its condition is true or not
abbrev pub choosing : CStmtForm → Bool → CLevel → List CLevel → CBottom → Blocks → CStand
choosing (if_then test body otherwise) true level outer bottom blocks = with_body nothing_left body level outer bottom blocks
choosing (if_then test body otherwise) false level outer bottom blocks = else_body otherwise level outer bottom blocks
choosing (while test body) true level outer bottom blocks = with_body turn_left body level outer bottom blocks
choosing (do_while body test) true level outer bottom blocks = with_body turn_left body level outer bottom blocks
choosing (for_loop first test next body) true level outer bottom blocks = with_body turn_left body level outer bottom blocks
choosing form holds level outer bottom blocks = level_ended level outer bottom blocks

-- a `switch` goes on by its value
abbrev pub switching : CStmtForm → ℤ → CLevel → List CLevel → CBottom → Blocks → CStand
switching (switch test body) value level outer bottom blocks =
    switched (way_of_switch value body (way_to (case_of value) body)) level outer bottom blocks
switching form value level outer bottom blocks = level_ended level outer bottom blocks

-- the loop of the innermost open statement goes on to its condition
abbrev pub turning_on : CSite → Blocks → CStand
turning_on site blocks = elim site.levels as (λ _. CStand) [
  | [] ↦ next_of site blocks
  | level ∷ outer ↦ turning level outer site.bottom blocks
]
