-- What follows in an open statement.
use Rattle.std.proofs.Common.{◌≡◌, refl, Bool, true, false, List, [], ◌∷◌, Some, None}
use Rattle.cx_core.specs.Trees.{no_stmts, more_stmts, CStmtForm, label, case, default, block, expression, if_then, switch, while, do_while, for_loop, goto, continue, break, returns, begin}
use Rattle.cx_mean.specs.Moves.{CStand, stand, without_objects, next_in, turn_ended}
use Rattle.cx_mean.specs.Operands.{Frame}
use Rattle.cx_mean.specs.Paths.{CRest, nothing_left, statements_left, firsts_left, turn_left, CLevel, CBottom, CSite, site_at}
use Rattle.cx_moves.specs.Moving.{is_over, next_inside_by, turn_ended_of}
use Rattle.mem_bytes.specs.Memory.{Blocks}

level_with : Frame → CStmtForm → CRest → CLevel
level_with slots form rest = record { slots = slots; form = form; rest = rest }

turn_ended_as : (slots : Frame) (form : CStmtForm) (rest : CRest) (outer : List CLevel) (bottom : CBottom) (blocks : Blocks) →
    turn_ended (level_with slots form rest) outer bottom blocks ≡ stand (turn_ended_of (level_with slots form rest) (site_at outer bottom)) blocks
unfolding level_with
turn_ended_as slots (label name body) rest outer bottom blocks = refl
turn_ended_as slots (case value body) rest outer bottom blocks = refl
turn_ended_as slots (default body) rest outer bottom blocks = refl
turn_ended_as slots (block stmts) rest outer bottom blocks = refl
turn_ended_as slots (expression value) rest outer bottom blocks = refl
turn_ended_as slots (if_then test body otherwise) rest outer bottom blocks = refl
turn_ended_as slots (switch value body) rest outer bottom blocks = refl
turn_ended_as slots (while test body) rest outer bottom blocks = refl
turn_ended_as slots (do_while body test) rest outer bottom blocks = refl
turn_ended_as slots (for_loop first test None body) rest outer bottom blocks = refl
turn_ended_as slots (for_loop first test (Some next) body) rest outer bottom blocks = refl
turn_ended_as slots (goto name) rest outer bottom blocks = refl
turn_ended_as slots continue rest outer bottom blocks = refl
turn_ended_as slots break rest outer bottom blocks = refl
turn_ended_as slots (returns value) rest outer bottom blocks = refl
turn_ended_as slots (begin number puts) rest outer bottom blocks = refl

next_over_as : (slots : Frame) (form : CStmtForm) (rest : CRest) (outer : List CLevel) (bottom : CBottom) (blocks : Blocks) → is_over rest ≡ true →
    next_in (level_with slots form rest ∷ outer) bottom blocks ≡ next_in outer bottom (without_objects slots blocks)
unfolding level_with
next_over_as slots form nothing_left outer bottom blocks is = refl
next_over_as slots form (statements_left no_stmts) outer bottom blocks is = refl
next_over_as slots form (statements_left (more_stmts first others)) outer bottom blocks is = cc
next_over_as slots form (firsts_left stmts) outer bottom blocks is = cc
next_over_as slots form turn_left outer bottom blocks is = cc

next_goes_as : (slots : Frame) (form : CStmtForm) (rest : CRest) (outer : List CLevel) (bottom : CBottom) (blocks : Blocks) → is_over rest ≡ false →
    next_in (level_with slots form rest ∷ outer) bottom blocks ≡ stand (next_inside_by rest (level_with slots form rest) (site_at outer bottom)) blocks
unfolding level_with
next_goes_as slots form nothing_left outer bottom blocks is = cc
next_goes_as slots form (statements_left no_stmts) outer bottom blocks is = cc
next_goes_as slots form (statements_left (more_stmts first others)) outer bottom blocks is = refl
next_goes_as slots form (firsts_left no_stmts) outer bottom blocks is = refl
next_goes_as slots form (firsts_left (more_stmts first others)) outer bottom blocks is = refl
next_goes_as slots form turn_left outer bottom blocks is = turn_ended_as slots form turn_left outer bottom blocks

-- an open statement of which nothing is left
pub next_over : (level : CLevel) (outer : List CLevel) (bottom : CBottom) (blocks : Blocks) → is_over level.rest ≡ true →
    next_in (level ∷ outer) bottom blocks ≡ next_in outer bottom (without_objects level.slots blocks)
unfolding level_with
next_over level outer bottom blocks is = next_over_as level.slots level.form level.rest outer bottom blocks is

-- one of which something is left
pub next_goes : (level : CLevel) (outer : List CLevel) (bottom : CBottom) (blocks : Blocks) → is_over level.rest ≡ false →
    next_in (level ∷ outer) bottom blocks ≡ stand (next_inside_by level.rest level (site_at outer bottom)) blocks
unfolding level_with
next_goes level outer bottom blocks is = next_goes_as level.slots level.form level.rest outer bottom blocks is
