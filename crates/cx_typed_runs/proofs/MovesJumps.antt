-- Where jumps lead: `goto`, `break` and `continue` of typed statements (ISO C99, 6.8.6).
use Rattle.std.proofs.Common.{◌≡◌, ◌⊎◌, inl, inr, refl, sym, ap, ◌∙◌, subst, ℕ, ◌<◌, Bool, true, false, List, [], ◌∷◌, Option, Some, None, IsSome, arith}
use Rattle.std.specs.List.{Contains}
use Rattle.cr_base.specs.declared.refusal.Place.{Place}
use Rattle.cr_world.specs.Held.{Held}
use Rattle.cx_core.specs.Linked.{IsLinked, IsTypedFunction, home_of}
use Rattle.cx_core.specs.Statements.{CBody, with_objects, labels_in, IsBlock, IsDefinitionOf}
use Rattle.cx_core.specs.Trees.{CTy, CStmt, stmt, CStmtForm, block, switch, while, do_while, for_loop, CFun, CProgram}
use Rattle.cx_mean.specs.Moves.{follows, CBeginning, begins, slots_in, CStand, stand, following, breaking, turn_ended, next_in, goes_nowhere, without_objects, jumping}
use Rattle.cx_mean.specs.Operands.{Frame}
use Rattle.cx_mean.specs.Paths.{CRest, nothing_left, statements_left, firsts_left, turn_left, CLevel, CBottom, named, CWay, arrives, opens, CInside, way_in, site_at, with_rest}
use Rattle.mem_bytes.specs.Memory.{Blocks}
use Rattle.cx_typed_runs.proofs.MovesHere.{inner_site, here_at, here_with, here_around, without, stands, stands_around}
use Rattle.cx_typed_runs.proofs.MovesNext.{level_of, block_of, part_next, turn_ended_stands, next_stands}
use Rattle.cx_typed_runs.proofs.MovesWays.{label_inside, inside_typed}
use Rattle.cx_typed_runs.proofs.Scenes.{all_of}
use Rattle.cx_typed_runs.proofs.Standing.{IsHere, IsStandOf}
use Rattle.cx_typed_runs.specs.Sites.{objects_of, IsLevel, inside_form, inside_by, body_at, form_of_stmt, IsTypedWay, IsRunning, whole_body}

-- ---- the words in which jumps are said

-- `goto`, by the way that is found in the innermost open statement
abbrev jumped : Place → List ℕ → CLevel → List CLevel → CBottom → Blocks → Option CInside → CStand
jumped place name level outer bottom blocks found = elim found as (λ _. CStand) [
  | Some one ↦ stand (following one.way (site_at (with_rest one.rest level ∷ outer) bottom)) blocks
  | None ↦ jumping place name outer bottom (without_objects level.slots blocks)
]

abbrev is_loop : CStmtForm → Bool
is_loop (while test body) = true
is_loop (do_while body test) = true
is_loop (for_loop first test next body) = true
is_loop form = false

-- `continue`, as `doing` says it
abbrev pub continuing : Place → List CLevel → CBottom → Blocks → CStand
continuing place [] bottom blocks = stand (goes_nowhere place) blocks
continuing place (level ∷ outer) bottom blocks = elim (is_loop level.form) as (λ _. CStand) [
  | true ↦ turn_ended level outer bottom blocks
  | false ↦ continuing place outer bottom (without_objects level.slots blocks)
]

-- ---- what holds a jump

-- a statement of a loop or a `switch`
abbrev pub MayBreak : CBody → Type 0
MayBreak body = (body.in_loop ≡ true) ⊎ IsSome body.in_switch

-- another statement than a loop or a `switch` changes nothing for its parts
as_around : (left : CRest) (form : CStmtForm) (body : CBody) → inside_form form body ≡ body → inside_by left form body ≡ body
as_around nothing_left form body e = e
as_around (statements_left stmts) form body e = e
as_around (firsts_left stmts) form body e = refl
as_around turn_left form body e = e

-- another statement than a loop is in a loop where its parts are
loop_around : (left : CRest) (form : CStmtForm) (body : CBody) → (inside_form form body).in_loop ≡ body.in_loop → (inside_by left form body).in_loop ≡ true → body.in_loop ≡ true
loop_around nothing_left form body e is = sym e ∙ is
loop_around (statements_left stmts) form body e is = sym e ∙ is
loop_around (firsts_left stmts) form body e is = is
loop_around turn_left form body e is = sym e ∙ is

module _ (program : CProgram) (one : CFun) (result : CTy) where
  -- ---- ways are followed

  no_objects : (levels : List CLevel) (number : ℕ) → Contains [] number → Contains (objects_of (slots_in levels)) number
  no_objects levels number (k, within, e) = absurd (omega (arith, within))

  -- the objects of each statement that is opened begin
  pub following_stands : (held : Held) (rest : Frame) (way : CWay) (level : CLevel) (outer : List CLevel) (bottom : CBottom) → IsHere program one result held rest (site_at (level ∷ outer) bottom)
      → IsTypedWay (body_at (whole_body program one result) (level ∷ outer)) way → IsStandOf program one result held rest (stand (following way (site_at (level ∷ outer) bottom)) held.blocks)
  following_stands held rest (arrives target) level outer bottom here is = part_next program one result held rest level outer bottom target here is
  following_stands held rest (opens [] form left way) level outer bottom here is =
      let opened : IsLevel (body_at (whole_body program one result) (level ∷ outer)) (objects_of (slots_in (level ∷ outer))) (level_of [] form left) = record { declares = []; in_scope = no_objects (level ∷ outer); objects = is.0; form = is.1; rest = is.2 } in
      following_stands held rest way (level_of [] form left) (level ∷ outer) bottom
      (here_at program one result held rest (site_at (level ∷ outer) bottom) (site_at (level_of [] form left ∷ level ∷ outer) bottom) here
      (inner_site program one result (level_of [] form left) (site_at (level ∷ outer) bottom) here.at opened (λ e. cc (e))) refl) is.3
  following_stands held rest (opens (first ∷ others) form left way) level outer bottom here is =
      let it : CBeginning = record { object = first; others = others; level = level_of [] form left; outer = site_at (level ∷ outer) bottom; goal = follows way } in
      stands program one result held rest (site_at (level ∷ outer) bottom) (begins it) here
      (record { outer = here.at; first = λ e. cc (e); declares = []; in_scope = no_objects (level ∷ outer); objects = is.0; form = is.1; rest = is.2; goal = is.3 }) refl

  -- ---- `goto` (6.8.6.1)

  -- the body of a function is a block
  body_is_block : IsLinked program → IsRunning program one result → IsBlock one.body
  body_is_block linked running =
      (subst (IsDefinitionOf (home_of program None one.unit) one) running.type_is (all_of (IsTypedFunction program None) program.functions one linked.functions running.defined).definition).is_block

  label_in_block : (name : List ℕ) (whole : CStmt) → IsBlock whole → Contains (labels_in whole) name → IsSome (way_in (named name) (form_of_stmt whole))
  label_in_block name (stmt place objects (block stmts)) is there = by (label_inside name (block stmts) there)
    where
      by : (false ≡ true) ⊎ IsSome (way_in (named name) (block stmts)) → IsSome (way_in (named name) (block stmts))
      by (inl e) = cc (e)
      by (inr found) = found
  label_in_block name (stmt place objects _) is there = absurd is

  -- the label is in the innermost open statement, or in one around it
  jump_at : (held : Held) (rest : Frame) (place : Place) (name : List ℕ) (level : CLevel) (outer : List CLevel) (bottom : CBottom) (found : Option CInside) → way_in (named name) level.form ≡ found
      → IsHere program one result held rest (site_at (level ∷ outer) bottom) → (found ≡ None → IsStandOf program one result held rest (jumping place name outer bottom (without level.slots held).blocks))
      → IsStandOf program one result held rest (jumped place name level outer bottom held.blocks found)
  jump_at held rest place name level outer bottom None e here around = around refl
  jump_at held rest place name level outer bottom (Some inside) e here around =
      let first = here.at.levels.0 in
      let typed = inside_typed (named name) (block_of program one result level outer) first.declares (objects_of level.slots) level.form inside e first.form in
      following_stands held rest inside.way (with_rest inside.rest level) outer bottom (here_with program one result held rest level outer bottom inside.rest here typed.0) typed.1

  -- the outermost open statement is the body of the function, in which each of its labels is
  pub jumping_stands : (held : Held) (rest : Frame) (place : Place) (name : List ℕ) (level : CLevel) (outer : List CLevel) (bottom : CBottom) → IsHere program one result held rest (site_at (level ∷ outer) bottom)
      → Contains (labels_in one.body) name → IsStandOf program one result held rest (jumping place name (level ∷ outer) bottom held.blocks)
  jumping_stands held rest place name level [] bottom here there =
      jump_at held rest place name level [] bottom (way_in (named name) level.form) refl here
      (λ e. cc (label_in_block name one.body (body_is_block here.linked here.at.running) there, ap (way_in (named name)) (sym here.at.whole), e))
  jumping_stands held rest place name level (next ∷ others) bottom here there =
      let after = without level.slots held in
      jump_at held rest place name level (next ∷ others) bottom (way_in (named name) level.form) refl here
      (λ e. stands_around program one result held rest level.slots (jumping place name (next ∷ others) bottom after.blocks)
      (jumping_stands after rest place name next others bottom (here_around program one result held rest level (next ∷ others) bottom here) there))

  -- ---- `break` and `continue` (6.8.6.2, 6.8.6.3)

  -- nothing is left of the innermost open statement
  pub ended : (held : Held) (rest : Frame) (level : CLevel) (outer : List CLevel) (bottom : CBottom) → IsHere program one result held rest (site_at (level ∷ outer) bottom)
      → IsStandOf program one result held rest (next_in (with_rest nothing_left level ∷ outer) bottom held.blocks)
  ended held rest level outer bottom here =
      next_stands program one result held rest (with_rest nothing_left level ∷ outer) bottom (here_with program one result held rest level outer bottom nothing_left here tt)

  -- the innermost open statement is left, or the jump goes on around it
  break_at : (held : Held) (rest : Frame) (place : Place) (slots : Frame) (form : CStmtForm) (left : CRest) (outer : List CLevel) (bottom : CBottom) → IsHere program one result held rest (site_at (level_of slots form left ∷ outer) bottom)
      → MayBreak (body_at (whole_body program one result) (level_of slots form left ∷ outer))
      → (MayBreak (body_at (whole_body program one result) outer) → IsStandOf program one result held rest (breaking place outer bottom (without slots held).blocks))
      → IsStandOf program one result held rest (breaking place (level_of slots form left ∷ outer) bottom held.blocks)
  break_at held rest place slots (while test inner) left outer bottom here is around = ended held rest (level_of slots (while test inner) left) outer bottom here
  break_at held rest place slots (do_while inner test) left outer bottom here is around = ended held rest (level_of slots (do_while inner test) left) outer bottom here
  break_at held rest place slots (for_loop first test next inner) left outer bottom here is around = ended held rest (level_of slots (for_loop first test next inner) left) outer bottom here
  break_at held rest place slots (switch value inner) left outer bottom here is around = ended held rest (level_of slots (switch value inner) left) outer bottom here
  break_at held rest place slots form left outer bottom here is around =
      around (subst MayBreak (as_around left form (with_objects (objects_of slots) (body_at (whole_body program one result) outer)) refl) is)

  pub breaking_stands : (held : Held) (rest : Frame) (place : Place) (levels : List CLevel) (bottom : CBottom) → IsHere program one result held rest (site_at levels bottom) → MayBreak (body_at (whole_body program one result) levels)
      → IsStandOf program one result held rest (breaking place levels bottom held.blocks)
  breaking_stands held rest place [] bottom here (inl is) = cc (is)
  breaking_stands held rest place [] bottom here (inr is) = cc (is)
  breaking_stands held rest place (level ∷ outer) bottom here is =
      let after = without level.slots held in
      break_at held rest place level.slots level.form level.rest outer bottom here is
      (λ left. stands_around program one result held rest level.slots (breaking place outer bottom after.blocks) (breaking_stands after rest place outer bottom (here_around program one result held rest level outer bottom here) left))

  -- the turn of the innermost open statement ends, or the jump goes on around it
  continue_at : (held : Held) (rest : Frame) (place : Place) (slots : Frame) (form : CStmtForm) (left : CRest) (outer : List CLevel) (bottom : CBottom) → IsHere program one result held rest (site_at (level_of slots form left ∷ outer) bottom)
      → (body_at (whole_body program one result) (level_of slots form left ∷ outer)).in_loop ≡ true
      → ((body_at (whole_body program one result) outer).in_loop ≡ true → IsStandOf program one result held rest (continuing place outer bottom (without slots held).blocks))
      → IsStandOf program one result held rest (continuing place (level_of slots form left ∷ outer) bottom held.blocks)
  continue_at held rest place slots (while test inner) left outer bottom here is around = turn_ended_stands program one result held rest slots (while test inner) left outer bottom here refl
  continue_at held rest place slots (do_while inner test) left outer bottom here is around = turn_ended_stands program one result held rest slots (do_while inner test) left outer bottom here refl
  continue_at held rest place slots (for_loop first test next inner) left outer bottom here is around = turn_ended_stands program one result held rest slots (for_loop first test next inner) left outer bottom here refl
  continue_at held rest place slots form left outer bottom here is around =
      around (loop_around left form (with_objects (objects_of slots) (body_at (whole_body program one result) outer)) refl is)

  pub continuing_stands : (held : Held) (rest : Frame) (place : Place) (levels : List CLevel) (bottom : CBottom) → IsHere program one result held rest (site_at levels bottom)
      → (body_at (whole_body program one result) levels).in_loop ≡ true → IsStandOf program one result held rest (continuing place levels bottom held.blocks)
  continuing_stands held rest place [] bottom here is = cc (is)
  continuing_stands held rest place (level ∷ outer) bottom here is =
      let after = without level.slots held in
      continue_at held rest place level.slots level.form level.rest outer bottom here is
      (λ left. stands_around program one result held rest level.slots (continuing place outer bottom after.blocks) (continuing_stands after rest place outer bottom (here_around program one result held rest level outer bottom here) left))
