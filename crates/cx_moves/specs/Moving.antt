-- Where moves lead, of an open statement and the site around it, and by which questions.
use Rattle.std.specs.Prelude.{◌≡◌, ℕ, ℤ, Bool, true, false, List, [], ◌∷◌, ◌++◌, Option, Some, None, unwrap_or}
use Rattle.cr_base.specs.declared.refusal.Place.{Place}
use Rattle.cx_core.specs.Trees.{CExpr, place_of, put, CPuts, no_puts, more_puts, CObject, CStmt, CStmtForm, if_then, COtherwise, no_else, else_do, switch, while, do_while, for_loop, no_stmts, more_stmts}
use Rattle.cx_mean.specs.Moves.{CMove, values, reaches, leaves, goes_nowhere, chooses_by, turns_on, CStand, stand, without_objects, turning, turn_ended, next_in, next_of, following, CBehind, in_body, of_statics, puts_it, static_puts}
use Rattle.cx_mean.specs.Operands.{Slot, missing}
use Rattle.cx_mean.specs.Paths.{CRest, nothing_left, statements_left, firsts_left, turn_left, CLevel, CBottom, CSite, site_at, with_level, with_rest, named, case_of, default_case, CWay, way_to, way_in}
use Rattle.mem_bytes.specs.Memory.{Blocks}

abbrev pub with_slot : Slot → CLevel → CLevel
with_slot new level = record level { slots = level.slots ++ new ∷ [] }

-- ---- moves in which nothing dies

abbrev pub turning_of : CLevel → CSite → CMove
turning_of level site = (turning level site.levels site.bottom []).move

abbrev pub turn_ended_of : CLevel → CSite → CMove
turn_ended_of level site = (turn_ended level site.levels site.bottom []).move

abbrev pub tested : CExpr → CLevel → CSite → CMove
tested test level site = values test (chooses_by (place_of test) (with_level level site))

abbrev pub entered : CStmt → CRest → CLevel → CSite → CMove
entered body rest level site = reaches body (with_level (with_rest rest level) site)

abbrev pub for_turning : Option CExpr → CStmt → CLevel → CSite → CMove
for_turning (Some test) body level site = tested test level site
for_turning None body level site = entered body turn_left level site

abbrev pub for_turn_ended : Option CExpr → CLevel → CSite → CMove
for_turn_ended (Some next) level site = values next (turns_on (with_level level site))
for_turn_ended None level site = turning_of level site

-- ---- what is next in an open statement

-- nothing is left of it
abbrev pub is_over : CRest → Bool
is_over nothing_left = true
is_over (statements_left no_stmts) = true
is_over (statements_left (more_stmts first others)) = false
is_over (firsts_left stmts) = false
is_over turn_left = false

abbrev pub next_inside_by : CRest → CLevel → CSite → CMove
next_inside_by nothing_left level site = leaves missing site
next_inside_by (statements_left no_stmts) level site = leaves missing site
next_inside_by (statements_left (more_stmts first others)) level site = entered first (statements_left others) level site
next_inside_by (firsts_left no_stmts) level site = turning_of level site
next_inside_by (firsts_left (more_stmts first others)) level site = entered first (firsts_left others) level site
next_inside_by turn_left level site = turn_ended_of level site

-- where something is left
abbrev pub next_inside : CLevel → CSite → CMove
next_inside level site = next_inside_by level.rest level site

-- ---- jumps

-- a statement has turns
abbrev pub has_turns : CStmtForm → Bool
has_turns (while test body) = true
has_turns (do_while body test) = true
has_turns (for_loop first test next body) = true
has_turns form = false

-- `break` leaves it
abbrev pub ends_by_break : CStmtForm → Bool
ends_by_break (switch value body) = true
ends_by_break (while test body) = true
ends_by_break (do_while body test) = true
ends_by_break (for_loop first test next body) = true
ends_by_break form = false

-- the innermost open statement has nothing left
abbrev pub ended_in : CLevel → CSite → Blocks → CStand
ended_in level site blocks = next_in site.levels site.bottom (without_objects level.slots blocks)

abbrev pub break_from : Place → List CLevel → CBottom → Blocks → CStand
break_from place [] bottom blocks = stand (goes_nowhere place) blocks
break_from place (level ∷ outer) bottom blocks = elim (ends_by_break level.form) as (λ _. CStand) [
  | true ↦ ended_in level (site_at outer bottom) blocks
  | false ↦ break_from place outer bottom (without_objects level.slots blocks)
]

abbrev pub continue_from : Place → List CLevel → CBottom → Blocks → CStand
continue_from place [] bottom blocks = stand (goes_nowhere place) blocks
continue_from place (level ∷ outer) bottom blocks = elim (has_turns level.form) as (λ _. CStand) [
  | true ↦ stand (turn_ended_of level (site_at outer bottom)) blocks
  | false ↦ continue_from place outer bottom (without_objects level.slots blocks)
]

abbrev pub jump_from : Place → List ℕ → List CLevel → CBottom → Blocks → CStand
jump_from place name [] bottom blocks = stand (goes_nowhere place) blocks
jump_from place name (level ∷ outer) bottom blocks = elim (way_in (named name) level.form) as (λ _. CStand) [
  | Some one ↦ stand (following one.way (with_level (with_rest one.rest level) (site_at outer bottom))) blocks
  | None ↦ jump_from place name outer bottom (without_objects level.slots blocks)
]

abbrev pub breaks_at : Place → CSite → Blocks → CStand
breaks_at place site blocks = break_from place site.levels site.bottom blocks

abbrev pub continues_at : Place → CSite → Blocks → CStand
continues_at place site blocks = continue_from place site.levels site.bottom blocks

abbrev pub jumps_at : Place → List ℕ → CSite → Blocks → CStand
jumps_at place name site blocks = jump_from place name site.levels site.bottom blocks

-- ---- ways

-- an opened statement has an object that begins, or the way goes on
abbrev pub Opens : Option CMove → (goes_on whole : CMove) → Type 0
Opens (Some first) goes_on whole = first ≡ whole
Opens None goes_on whole = goes_on ≡ whole

-- ---- puts

abbrev pub object_puts : CObject → CPuts
object_puts one = unwrap_or one.puts no_puts

-- the first put is evaluated, if there is one
abbrev pub first_put : ℕ → CPuts → CBehind → Option CMove
first_put number no_puts behind = None
first_put number (more_puts (put spot type value) others) behind =
    Some (values value
    (puts_it (place_of value) (record { object = number; spot = spot; type = type; others = others; behind = behind })))

abbrev pub behind_puts : CBehind → Blocks → CStand
behind_puts (in_body site) blocks = next_of site blocks
behind_puts (of_statics others) blocks = stand (static_puts others) blocks

-- ---- choices

abbrev pub turned_in : Bool → CStmt → CLevel → CSite → Blocks → CStand
turned_in true body level site blocks = stand (entered body turn_left level site) blocks
turned_in false body level site blocks = ended_in level site blocks

abbrev pub else_in : COtherwise → CLevel → CSite → Blocks → CStand
else_in no_else level site blocks = ended_in level site blocks
else_in (else_do body) level site blocks = stand (entered body nothing_left level site) blocks

abbrev pub branched_in : Bool → CStmt → COtherwise → CLevel → CSite → Blocks → CStand
branched_in true body otherwise level site blocks = stand (entered body nothing_left level site) blocks
branched_in false body otherwise level site blocks = else_in otherwise level site blocks

-- an `if` or a loop goes on where its condition is true or not
abbrev pub chosen_as : CStmtForm → Bool → CLevel → CSite → Blocks → CStand
chosen_as (if_then test body otherwise) holds level site blocks = branched_in holds body otherwise level site blocks
chosen_as (while test body) holds level site blocks = turned_in holds body level site blocks
chosen_as (do_while body test) holds level site blocks = turned_in holds body level site blocks
chosen_as (for_loop first test next body) holds level site blocks = turned_in holds body level site blocks
chosen_as form holds level site blocks = ended_in level site blocks

-- the way to the `case` of a value, or else to `default`
abbrev pub or_default : CStmt → Option CWay → Option CWay
or_default body (Some way) = Some way
or_default body None = way_to default_case body

abbrev pub switch_way : ℤ → CStmt → Option CWay
switch_way value body = or_default body (way_to (case_of value) body)

abbrev pub switched_by : Option CWay → CLevel → CSite → Blocks → CStand
switched_by None level site blocks = ended_in level site blocks
switched_by (Some way) level site blocks = stand (following way (with_level (with_rest nothing_left level) site)) blocks

abbrev pub switches_in : ℤ → CStmt → CLevel → CSite → Blocks → CStand
switches_in value body level site blocks = switched_by (switch_way value body) level site blocks

abbrev pub switching_as : CStmtForm → ℤ → CLevel → CSite → Blocks → CStand
switching_as (switch test body) value level site blocks = switches_in value body level site blocks
switching_as form value level site blocks = ended_in level site blocks
