-- What follows in a body: the next statement, the next turn of a loop, the end of the function (ISO C99, 6.8, 6.8.6.4).
use Rattle.std.proofs.Common.{◌≡◌, refl, sym, ap, subst, ℕ, ◌<◌, List, [], ◌∷◌, ◌++◌, true, Some, None, arith}
use Rattle.std.specs.List.{Contains}
use Rattle.cr_world.specs.Held.{Held}
use Rattle.cx_core.specs.Conversions.{IsScalarType}
use Rattle.cx_core.specs.Statements.{CBody, with_objects, IsCondition, IsTypedStmt}
use Rattle.cx_core.specs.Trees.{CTy, unqualified, CExpr, type_of, place_of, CStmt, CStmtForm, block, while, do_while, for_loop, no_stmts, more_stmts, CFun, CProgram}
use Rattle.cx_core.specs.Typing.{CHome, IsTyped}
use Rattle.cx_mean.specs.Moves.{CPurpose, turns_on, chooses_by, values, reaches, leaves, stand, slots_in, turning, turn_ended, next_in, turning_on}
use Rattle.cx_mean.specs.Operands.{Frame}
use Rattle.cx_mean.specs.Paths.{CRest, nothing_left, statements_left, firsts_left, turn_left, CLevel, CBottom, CSite, site_at}
use Rattle.cx_mean.specs.State.{own_frame}
use Rattle.cx_typed_work.specs.Calls.{IsReturned}
use Rattle.cx_typed_runs.proofs.MovesEnds.{end_is_returned}
use Rattle.cx_typed_runs.proofs.MovesHere.{here_with, here_around, without, stands, stands_around}
use Rattle.cx_typed_runs.proofs.Scenes.{inside_by_home, home_is, contains_front, objects_append}
use Rattle.cx_typed_runs.proofs.Standing.{IsHere, IsStandOf}
use Rattle.cx_typed_runs.specs.Sites.{objects_of, body_at, is_loop_form, whole_body, home_at}
use Rattle.cx_typed_runs.specs.States.{in_function, home_in, ChoosesIn, Turns, IsPurposeIn}

-- ---- where parts of open statements stand

-- all of it is of the program of the function
pub home_program : (program : CProgram) (one : CFun) (result : CTy) (levels : List CLevel) → (home_at program one result levels).program ≡ program
home_program program one result levels = ap (λ (home : CHome). home.program) (home_is (whole_body program one result) levels)

-- the block of the objects of an open statement
abbrev pub block_of : CProgram → CFun → CTy → CLevel → List CLevel → CBody
block_of program one result level outer = with_objects (objects_of level.slots) (body_at (whole_body program one result) outer)

abbrev pub level_of : Frame → CStmtForm → CRest → CLevel
level_of slots form left = record { slots = slots; form = form; rest = left }

module _ (program : CProgram) (one : CFun) (result : CTy) where
  -- an expression in that block
  pub typed_inside : (level : CLevel) (outer : List CLevel) (node : CExpr) → IsTyped (block_of program one result level outer).home node → IsTyped (home_at program one result (level ∷ outer)) node
  typed_inside level outer node is = subst (λ home. IsTyped home node) (sym (inside_by_home level.rest level.form (block_of program one result level outer))) is

  -- a condition there is scalar in the types of the program
  pub scalar_there : (level : CLevel) (outer : List CLevel) (test : CExpr) → IsCondition (block_of program one result level outer).home test → IsScalarType program.types (type_of test)
  scalar_there level outer test is = subst (λ (p : CProgram). IsScalarType p.types (type_of test)) (home_program program one result outer) is.1

-- ---- moves from an open statement

module _ (program : CProgram) (one : CFun) (result : CTy) (held : Held) (rest : Frame) where
  -- an expression of it is next, and what is done with its value
  pub expression_next : (level : CLevel) (outer : List CLevel) (bottom : CBottom) (node : CExpr) (purpose : CPurpose) → IsHere program one result held rest (site_at (level ∷ outer) bottom)
      → home_in program (in_function one result) purpose ≡ home_at program one result (level ∷ outer) → own_frame purpose ≡ slots_in (level ∷ outer) ++ bottom.params
      → IsTyped (block_of program one result level outer).home node → IsPurposeIn program one result (type_of node) purpose → IsStandOf program one result held rest (stand (values node purpose) held.blocks)
  expression_next level outer bottom node purpose here home slots is fits =
      stands program one result held rest (site_at (level ∷ outer) bottom) (values node purpose) here
      (record { constant = tt; typed = subst (λ h. IsTyped h node) (sym home) (typed_inside program one result level outer node is); fits = fits }) (sym slots)

  -- one by whose value it chooses
  pub choice_next : (level : CLevel) (outer : List CLevel) (bottom : CBottom) (test : CExpr) → IsHere program one result held rest (site_at (level ∷ outer) bottom) → IsTyped (block_of program one result level outer).home test
      → ChoosesIn program.types (type_of test) level.form → IsStandOf program one result held rest (stand (values test (chooses_by (place_of test) (site_at (level ∷ outer) bottom))) held.blocks)
  choice_next level outer bottom test here is chooses = expression_next level outer bottom test (chooses_by (place_of test) (site_at (level ∷ outer) bottom)) here refl refl is (here.at, chooses)

  -- a statement of it is reached, which may declare some of its objects
  pub statement_next : (level : CLevel) (outer : List CLevel) (bottom : CBottom) (declares : List ℕ) (reached : CStmt) → IsHere program one result held rest (site_at (level ∷ outer) bottom)
      → ((number : ℕ) → Contains declares number → Contains (objects_of (level.slots ++ slots_in outer)) number) → IsTypedStmt (body_at (whole_body program one result) (level ∷ outer)) declares reached
      → IsStandOf program one result held rest (stand (reaches reached (site_at (level ∷ outer) bottom)) held.blocks)
  statement_next level outer bottom declares reached here in_scope is =
      stands program one result held rest (site_at (level ∷ outer) bottom) (reaches reached (site_at (level ∷ outer) bottom)) here
      (here.at, record { declares = declares; in_scope = in_scope; typed = is; first = λ e. cc (e) }) refl

  -- it declares none
  pub part_next : (level : CLevel) (outer : List CLevel) (bottom : CBottom) (reached : CStmt) → IsHere program one result held rest (site_at (level ∷ outer) bottom)
      → IsTypedStmt (body_at (whole_body program one result) (level ∷ outer)) [] reached → IsStandOf program one result held rest (stand (reaches reached (site_at (level ∷ outer) bottom)) held.blocks)
  part_next level outer bottom reached here is = statement_next level outer bottom [] reached here none is
    where
      none : (number : ℕ) → Contains [] number → Contains (objects_of (level.slots ++ slots_in outer)) number
      none number (k, within, e) = absurd (omega (arith, within))

  -- one of a list right in its block
  pub listed_next : (level : CLevel) (outer : List CLevel) (bottom : CBottom) (reached : CStmt) → IsHere program one result held rest (site_at (level ∷ outer) bottom)
      → body_at (whole_body program one result) (level ∷ outer) ≡ block_of program one result level outer → IsTypedStmt (block_of program one result level outer) (objects_of level.slots) reached
      → IsStandOf program one result held rest (stand (reaches reached (site_at (level ∷ outer) bottom)) held.blocks)
  listed_next level outer bottom reached here same is =
      statement_next level outer bottom (objects_of level.slots) reached here
      (λ number there. subst (λ list. Contains list number) (sym (objects_append level.slots (slots_in outer))) (contains_front (objects_of level.slots) (objects_of (slots_in outer)) number there))
      (subst (λ body. IsTypedStmt body (objects_of level.slots) reached) (sym same) is)

  -- ---- turns of loops (6.8.5)

  -- its condition is next, or its body
  pub turning_stands : (slots : Frame) (form : CStmtForm) (left : CRest) (outer : List CLevel) (bottom : CBottom) → IsHere program one result held rest (site_at (level_of slots form left ∷ outer) bottom) → is_loop_form form ≡ true
      → IsStandOf program one result held rest (turning (level_of slots form left) outer bottom held.blocks)
  turning_stands slots (while test inner) left outer bottom here is =
      let typed = here.at.levels.0.form in
      choice_next (level_of slots (while test inner) left) outer bottom test here typed.0.0 (scalar_there program one result (level_of slots (while test inner) left) outer test typed.0)
  turning_stands slots (do_while inner test) left outer bottom here is =
      let typed = here.at.levels.0.form in
      choice_next (level_of slots (do_while inner test) left) outer bottom test here typed.1.0 (scalar_there program one result (level_of slots (do_while inner test) left) outer test typed.1)
  turning_stands slots (for_loop first (Some test) next inner) left outer bottom here is =
      let typed = here.at.levels.0.form in
      choice_next (level_of slots (for_loop first (Some test) next inner) left) outer bottom test here typed.2.0
      (scalar_there program one result (level_of slots (for_loop first (Some test) next inner) left) outer test typed.2)
  turning_stands slots (for_loop first None next inner) left outer bottom here is =
      part_next (level_of slots (for_loop first None next inner) turn_left) outer bottom inner
      (here_with program one result held rest (level_of slots (for_loop first None next inner) left) outer bottom turn_left here refl) here.at.levels.0.form.4
  turning_stands slots _ left outer bottom here is = cc (is)

  -- the end of a turn
  pub turn_ended_stands : (slots : Frame) (form : CStmtForm) (left : CRest) (outer : List CLevel) (bottom : CBottom) → IsHere program one result held rest (site_at (level_of slots form left ∷ outer) bottom) → is_loop_form form ≡ true
      → IsStandOf program one result held rest (turn_ended (level_of slots form left) outer bottom held.blocks)
  turn_ended_stands slots (for_loop first test (Some next) inner) left outer bottom here is =
      let level = level_of slots (for_loop first test (Some next) inner) left in
      expression_next level outer bottom next (turns_on (site_at (level ∷ outer) bottom)) here refl refl here.at.levels.0.form.3.0 (here.at, refl)
  turn_ended_stands slots (for_loop first test None inner) left outer bottom here is = turning_stands slots (for_loop first test None inner) left outer bottom here is
  turn_ended_stands slots form left outer bottom here is = turning_stands slots form left outer bottom here is

  -- a loop goes on to its condition
  pub turned_stands : (site : CSite) → IsHere program one result held rest site → Turns site.levels → IsStandOf program one result held rest (turning_on site held.blocks)
  turned_stands site here is = by site.levels here is
    where
      by : (levels : List CLevel) → IsHere program one result held rest (site_at levels site.bottom) → Turns levels → IsStandOf program one result held rest (turning_on (site_at levels site.bottom) held.blocks)
      by [] here is = absurd is
      by (level ∷ outer) here is = turning_stands level.slots level.form level.rest outer site.bottom here is

  -- ---- what follows

  -- statements that are left of an open statement, in its block
  listed_stand : (slots : Frame) (form : CStmtForm) (left : CRest) (outer : List CLevel) (bottom : CBottom) → IsHere program one result held rest (site_at (level_of slots form left ∷ outer) bottom)
      → IsStandOf program one result held rest (next_in outer bottom (without slots held).blocks) → IsStandOf program one result held rest (next_in (level_of slots form left ∷ outer) bottom held.blocks)
  listed_stand slots form nothing_left outer bottom here around = around
  listed_stand slots form (statements_left no_stmts) outer bottom here around = around
  listed_stand slots (block stmts) (statements_left (more_stmts first others)) outer bottom here around =
      let left = here.at.levels.0.rest in
      listed_next (level_of slots (block stmts) (statements_left others)) outer bottom first
      (here_with program one result held rest (level_of slots (block stmts) (statements_left (more_stmts first others))) outer bottom (statements_left others) here (left.0, left.1.1)) refl left.1.0
  listed_stand slots form (statements_left (more_stmts first others)) outer bottom here around = cc (here.at.levels.0.rest.0)
  listed_stand slots (for_loop start test next inner) (firsts_left no_stmts) outer bottom here around = turning_stands slots (for_loop start test next inner) (firsts_left no_stmts) outer bottom here refl
  listed_stand slots form (firsts_left no_stmts) outer bottom here around = cc (here.at.levels.0.rest.0)
  listed_stand slots form (firsts_left (more_stmts first others)) outer bottom here around =
      let left = here.at.levels.0.rest in
      listed_next (level_of slots form (firsts_left others)) outer bottom first
      (here_with program one result held rest (level_of slots form (firsts_left (more_stmts first others))) outer bottom (firsts_left others) here (left.0, left.1.1)) refl left.1.0
  listed_stand slots form turn_left outer bottom here around = turn_ended_stands slots form turn_left outer bottom here here.at.levels.0.rest

-- what follows in the innermost open statement, or around it
pub next_stands : (program : CProgram) (one : CFun) (result : CTy) (held : Held) (rest : Frame) (levels : List CLevel) (bottom : CBottom) → IsHere program one result held rest (site_at levels bottom)
    → IsStandOf program one result held rest (next_in levels bottom held.blocks)
next_stands program one result held rest [] bottom here =
    stands program one result held rest (site_at [] bottom) (leaves bottom.at_end (site_at [] bottom)) here
    (here.at, subst (IsReturned program (unqualified result)) (sym here.at.at_end_is) (end_is_returned program one result here.linked here.at.running)) refl
next_stands program one result held rest (level ∷ outer) bottom here =
    let after = without level.slots held in
    listed_stand program one result held rest level.slots level.form level.rest outer bottom here
    (stands_around program one result held rest level.slots (next_in outer bottom after.blocks) (next_stands program one result after rest outer bottom (here_around program one result held rest level outer bottom here)))
