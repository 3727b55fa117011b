-- What an open statement does, by its form and the site around it.
use Rattle.std.specs.Prelude.{◌≡◌, ℕ, Option, Some, None, Result, Ok, Err, unwrap_or}
use Rattle.cr_base.specs.declared.refusal.Place.{Place}
use Rattle.cx_core.specs.Trees.{CExpr, CPuts, no_puts, CStmtForm, label, case, default, block, expression, if_then, switch, while, do_while, for_loop, goto, continue, break, returns, begin}
use Rattle.cx_mean.specs.Initialisers.{CCleared, object_cleared}
use Rattle.cx_mean.specs.Moves.{CMove, values, reaches, leaves, goes_nowhere, drops_it, gives_it, CStand, stand, slots_in, next_of, in_body, putting}
use Rattle.cx_mean.specs.Operands.{CWhy, missing}
use Rattle.cx_mean.specs.Paths.{statements_left, firsts_left, turn_left, CLevel, CSite, with_level, with_rest}
use Rattle.cx_mean.specs.Settings.{CSetting}
use Rattle.cx_moves.specs.Moving.{breaks_at, continues_at, entered, jumps_at, tested, turning_of}
use Rattle.mem_bytes.specs.Memory.{Blocks}

abbrev pub evaluates_as : Option CExpr → CLevel → CSite → Blocks → CStand
evaluates_as None level site blocks = next_of (with_level level site) blocks
evaluates_as (Some value) level site blocks = stand (values value (drops_it (with_level level site))) blocks

abbrev pub returns_as : Place → Option CExpr → CLevel → CSite → CMove
returns_as place None level site = leaves missing (with_level level site)
returns_as place (Some value) level site = values value (gives_it place (with_level level site))

-- an object that was made anew, and the first of its puts
abbrev pub cleared_as : ℕ → Option CPuts → CSite → Result CCleared CWhy → Place → Blocks → CStand
cleared_as number puts site (Ok one) place blocks = putting number (unwrap_or puts no_puts) (in_body site) one.blocks
cleared_as number puts site (Err why) place blocks = stand (goes_nowhere place) blocks

-- what is next behind it
abbrev pub IsDeclared : Result CCleared CWhy → ℕ → Option CPuts → CSite → CStand → Type 0
IsDeclared (Ok one) number puts site next = next ≡ putting number (unwrap_or puts no_puts) (in_body site) one.blocks
IsDeclared (Err why) number puts site next = ⊥

abbrev pub declares_as : CSetting → Place → ℕ → Option CPuts → CSite → Blocks → CStand
declares_as setting place number puts site blocks = cleared_as number puts site (object_cleared setting (slots_in site.levels) number puts blocks) place blocks

abbrev pub does_as : CSetting → Place → CStmtForm → CLevel → CSite → Blocks → CStand
does_as setting place (label name body) level site blocks = stand (reaches body (with_level level site)) blocks
does_as setting place (case value body) level site blocks = stand (reaches body (with_level level site)) blocks
does_as setting place (default body) level site blocks = stand (reaches body (with_level level site)) blocks
does_as setting place (block stmts) level site blocks = next_of (with_level (with_rest (statements_left stmts) level) site) blocks
does_as setting place (expression value) level site blocks = evaluates_as value level site blocks
does_as setting place (if_then test body otherwise) level site blocks = stand (tested test level site) blocks
does_as setting place (switch value body) level site blocks = stand (tested value level site) blocks
does_as setting place (while test body) level site blocks = stand (turning_of level site) blocks
does_as setting place (do_while body test) level site blocks = stand (entered body turn_left level site) blocks
does_as setting place (for_loop first test next body) level site blocks = next_of (with_level (with_rest (firsts_left first) level) site) blocks
does_as setting place (goto name) level site blocks = jumps_at place name (with_level level site) blocks
does_as setting place continue level site blocks = continues_at place (with_level level site) blocks
does_as setting place break level site blocks = breaks_at place (with_level level site) blocks
does_as setting place (returns value) level site blocks = stand (returns_as place value level site) blocks
does_as setting place (begin number puts) level site blocks = declares_as setting place number puts (with_level level site) blocks
