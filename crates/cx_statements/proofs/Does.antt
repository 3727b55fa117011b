-- What an open statement does is what the meaning says.
use Rattle.std.proofs.Common.{◌≡◌, refl, ap, ℕ, List, [], ◌∷◌, Option, Some, None, Result, Ok, Err}
use Rattle.cr_base.specs.declared.refusal.Place.{Place}
use Rattle.cx_core.specs.Trees.{CPuts, CStmtForm, label, case, default, block, expression, if_then, switch, while, do_while, for_loop, goto, continue, break, returns, begin}
use Rattle.cx_mean.specs.Moves.{CStand, stand, slots_in, without_objects, breaking, jumping, following, doing}
use Rattle.cx_mean.specs.Paths.{CRest, CLevel, CBottom, CSite, site_at, with_rest, named, way_in}
use Rattle.cx_mean.specs.Settings.{CSetting}
use Rattle.cx_moves.specs.Moving.{break_from, continue_from, jump_from}
use Rattle.cx_mean.specs.Initialisers.{CCleared, object_cleared}
use Rattle.cx_mean.specs.Operands.{CWhy, Frame}
use Rattle.cx_statements.specs.Doing.{cleared_as, does_as, IsDeclared}
use Rattle.mem_bytes.specs.Memory.{Blocks}

level_with : Frame → CStmtForm → CRest → CLevel
level_with slots form rest = record { slots = slots; form = form; rest = rest }

-- ---- `break`

break_one : (place : Place) (slots : Frame) (form : CStmtForm) (rest : CRest) (outer : List CLevel) (bottom : CBottom) (blocks : Blocks) →
    breaking place outer bottom (without_objects slots blocks) ≡ break_from place outer bottom (without_objects slots blocks) →
    breaking place (level_with slots form rest ∷ outer) bottom blocks ≡ break_from place (level_with slots form rest ∷ outer) bottom blocks
unfolding level_with
break_one place slots (label name body) rest outer bottom blocks more = more
break_one place slots (case value body) rest outer bottom blocks more = more
break_one place slots (default body) rest outer bottom blocks more = more
break_one place slots (block stmts) rest outer bottom blocks more = more
break_one place slots (expression value) rest outer bottom blocks more = more
break_one place slots (if_then test body otherwise) rest outer bottom blocks more = more
break_one place slots (switch value body) rest outer bottom blocks more = refl
break_one place slots (while test body) rest outer bottom blocks more = refl
break_one place slots (do_while body test) rest outer bottom blocks more = refl
break_one place slots (for_loop first test next body) rest outer bottom blocks more = refl
break_one place slots (goto name) rest outer bottom blocks more = more
break_one place slots continue rest outer bottom blocks more = more
break_one place slots break rest outer bottom blocks more = more
break_one place slots (returns value) rest outer bottom blocks more = more
break_one place slots (begin number puts) rest outer bottom blocks more = more

break_by : (place : Place) (levels : List CLevel) (bottom : CBottom) (blocks : Blocks) → breaking place levels bottom blocks ≡ break_from place levels bottom blocks
unfolding level_with
break_by place [] bottom blocks = refl
break_by place (level ∷ outer) bottom blocks =
    break_one place level.slots level.form level.rest outer bottom blocks (break_by place outer bottom (without_objects level.slots blocks))

-- ---- `continue`

continue_last : (setting : CSetting) (place : Place) (slots : Frame) (form : CStmtForm) (rest : CRest) (bottom : CBottom) (blocks : Blocks) →
    doing setting place continue (level_with slots form rest) (site_at [] bottom) blocks ≡ continue_from place (level_with slots form rest ∷ []) bottom blocks
unfolding level_with
continue_last setting place slots (label name body) rest bottom blocks = refl
continue_last setting place slots (case value body) rest bottom blocks = refl
continue_last setting place slots (default body) rest bottom blocks = refl
continue_last setting place slots (block stmts) rest bottom blocks = refl
continue_last setting place slots (expression value) rest bottom blocks = refl
continue_last setting place slots (if_then test body otherwise) rest bottom blocks = refl
continue_last setting place slots (switch value body) rest bottom blocks = refl
continue_last setting place slots (while test body) rest bottom blocks = refl
continue_last setting place slots (do_while body test) rest bottom blocks = refl
continue_last setting place slots (for_loop first test None body) rest bottom blocks = refl
continue_last setting place slots (for_loop first test (Some next) body) rest bottom blocks = refl
continue_last setting place slots (goto name) rest bottom blocks = refl
continue_last setting place slots continue rest bottom blocks = refl
continue_last setting place slots break rest bottom blocks = refl
continue_last setting place slots (returns value) rest bottom blocks = refl
continue_last setting place slots (begin number puts) rest bottom blocks = refl

continue_one : (setting : CSetting) (place : Place) (slots : Frame) (form : CStmtForm) (rest : CRest) (level : CLevel) (outer : List CLevel) (bottom : CBottom) (blocks : Blocks) →
    doing setting place continue level (site_at outer bottom) (without_objects slots blocks) ≡ continue_from place (level ∷ outer) bottom (without_objects slots blocks) →
    doing setting place continue (level_with slots form rest) (site_at (level ∷ outer) bottom) blocks ≡ continue_from place (level_with slots form rest ∷ level ∷ outer) bottom blocks
unfolding level_with
continue_one setting place slots (label name body) rest level outer bottom blocks more = more
continue_one setting place slots (case value body) rest level outer bottom blocks more = more
continue_one setting place slots (default body) rest level outer bottom blocks more = more
continue_one setting place slots (block stmts) rest level outer bottom blocks more = more
continue_one setting place slots (expression value) rest level outer bottom blocks more = more
continue_one setting place slots (if_then test body otherwise) rest level outer bottom blocks more = more
continue_one setting place slots (switch value body) rest level outer bottom blocks more = more
continue_one setting place slots (while test body) rest level outer bottom blocks more = refl
continue_one setting place slots (do_while body test) rest level outer bottom blocks more = refl
continue_one setting place slots (for_loop first test None body) rest level outer bottom blocks more = refl
continue_one setting place slots (for_loop first test (Some next) body) rest level outer bottom blocks more = refl
continue_one setting place slots (goto name) rest level outer bottom blocks more = more
continue_one setting place slots continue rest level outer bottom blocks more = more
continue_one setting place slots break rest level outer bottom blocks more = more
continue_one setting place slots (returns value) rest level outer bottom blocks more = more
continue_one setting place slots (begin number puts) rest level outer bottom blocks more = more

continue_by : (setting : CSetting) (place : Place) (level : CLevel) (outer : List CLevel) (bottom : CBottom) (blocks : Blocks) →
    doing setting place continue level (site_at outer bottom) blocks ≡ continue_from place (level ∷ outer) bottom blocks
unfolding level_with
continue_by setting place level [] bottom blocks = continue_last setting place level.slots level.form level.rest bottom blocks
continue_by setting place level (next ∷ outer) bottom blocks =
    continue_one setting place level.slots level.form level.rest next outer bottom blocks (continue_by setting place next outer bottom (without_objects level.slots blocks))

-- ---- `goto`

jump_by : (place : Place) (name : List ℕ) (levels : List CLevel) (bottom : CBottom) (blocks : Blocks) → jumping place name levels bottom blocks ≡ jump_from place name levels bottom blocks
jump_by place name [] bottom blocks = refl
jump_by place name (level ∷ outer) bottom blocks =
    ap (λ (rest : CStand). elim (way_in (named name) level.form) as (λ _. CStand) [
      | Some one ↦ stand (following one.way (site_at (with_rest one.rest level ∷ outer) bottom)) blocks
      | None ↦ rest
    ]) (jump_by place name outer bottom (without_objects level.slots blocks))

-- ---- declarations

pub declared_as : (found : Result CCleared CWhy) (place : Place) (number : ℕ) (puts : Option CPuts) (site : CSite) (next : CStand) (blocks : Blocks) → IsDeclared found number puts site next →
    next ≡ cleared_as number puts site found place blocks
declared_as (Ok one) place number puts site next blocks is = is
declared_as (Err why) place number puts site next blocks is = elim is [ ]

begin_is : (setting : CSetting) (place : Place) (number : ℕ) (puts : Option CPuts) (level : CLevel) (site : CSite) (blocks : Blocks) (found : Result CCleared CWhy) →
    object_cleared setting (slots_in (level ∷ site.levels)) number puts blocks ≡ found → doing setting place (begin number puts) level site blocks ≡ does_as setting place (begin number puts) level site blocks
begin_is setting place number None level site blocks (Ok one) is = rw is refl
begin_is setting place number (Some puts) level site blocks (Ok one) is = rw is refl
begin_is setting place number None level site blocks (Err why) is = rw is refl
begin_is setting place number (Some puts) level site blocks (Err why) is = rw is refl

-- ---- all forms

pub does_is : (setting : CSetting) (place : Place) (form : CStmtForm) (level : CLevel) (site : CSite) (blocks : Blocks) → doing setting place form level site blocks ≡ does_as setting place form level site blocks
does_is setting place (label name body) level site blocks = refl
does_is setting place (case value body) level site blocks = refl
does_is setting place (default body) level site blocks = refl
does_is setting place (block stmts) level site blocks = refl
does_is setting place (expression None) level site blocks = refl
does_is setting place (expression (Some value)) level site blocks = refl
does_is setting place (if_then test body otherwise) level site blocks = refl
does_is setting place (switch value body) level site blocks = refl
does_is setting place (while test body) level site blocks = refl
does_is setting place (do_while body test) level site blocks = refl
does_is setting place (for_loop first test next body) level site blocks = refl
does_is setting place (goto name) level site blocks = jump_by place name (level ∷ site.levels) site.bottom blocks
does_is setting place continue level site blocks = continue_by setting place level site.levels site.bottom blocks
does_is setting place break level site blocks = break_by place (level ∷ site.levels) site.bottom blocks
does_is setting place (returns None) level site blocks = refl
does_is setting place (returns (Some value)) level site blocks = refl
does_is setting place (begin number puts) level site blocks = begin_is setting place number puts level site blocks _ refl
