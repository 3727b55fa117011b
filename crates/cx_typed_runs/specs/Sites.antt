-- Where a run of a typed program stands in its functions (ISO C99, 6.2.4, 6.8): the outermost open statement is the function's body, and
-- each other is typed in the blocks of those around it. What it is that the objects of open statements live is said here, too.
use Rattle.std.specs.Prelude.{◌≡◌, ◌⊎◌, ℕ, ◌==◌, Bool, true, false, List, [], ◌∷◌, ◌++◌, map, Option, Some, None, IfSome, IsSome}
use Rattle.std.specs.List.{Contains, list_any}
use Rattle.cr_base.specs.declared.layout.Laid.{Laid}
use Rattle.cr_world.specs.Held.{Held, is_listed}
use Rattle.cx_core.specs.Linked.{home_of, is_main}
use Rattle.cx_core.specs.Statements.{CBody, with_objects, within_loop, within_switch, IsCondition, IsVoidExpr, IsTypedStmt, IsTypedStmtForm, AreTypedStmts, AreBlockObjects, body_of}
use Rattle.cx_core.specs.Trees.{CTy, function, CParams, form_of_type, unqualified, CExpr, CStmt, stmt, CStmtForm, label, case, default, block, expression, if_then, switch, while, do_while, for_loop, goto, continue, break, returns, begin, CObject, CFun, CProgram, type_of}
use Rattle.cx_core.specs.Typing.{CHome, IsTyped, object_with}
use Rattle.cx_mean.specs.Operands.{Slot, Frame}
use Rattle.cx_mean.specs.Paths.{CRest, nothing_left, statements_left, firsts_left, turn_left, CLevel, CBottom, CSite, CWay, arrives, opens}
use Rattle.cx_mean.specs.Moves.{slots_in}
use Rattle.cx_mean.specs.Settings.{setting_of, extent_in}
use Rattle.cx_mean.specs.State.{value_at_end}
use Rattle.mem_bytes.specs.Memory.{Block, Blocks, live_block, size_of}

-- ---- objects of frames

abbrev pub objects_of : Frame → List ℕ
objects_of frame = map (λ one. one.object) frame

-- a block is that of an object
abbrev pub is_block_of : ℕ → Frame → Bool
is_block_of number frame = list_any (λ one. one.block == number) frame

-- the object of a slot lives in its block, which is as large and as aligned as its type
pub record IsSlotAlive (program : CProgram) (blocks : Blocks) (slot : Slot) : Type 0 where
  pub one : CObject
  pub object_is : object_with slot.object program.objects ≡ Some one
  pub laid : Laid
  pub laid_is : extent_in (setting_of program) one.type ≡ Some laid
  pub held : Block
  pub live : live_block blocks slot.block ≡ Some held
  pub size : size_of held ≡ laid.size
  pub align : held.align ≡ laid.align

-- each object lives in a block of its own, which isn't an allocated one (6.2.4p2, 7.20.3p1)
abbrev pub AreOwned : CProgram → Held → Frame → Type 0
AreOwned program held [] = Unit {0}
AreOwned program held (slot ∷ others) =
    IsSlotAlive program held.blocks slot × (is_listed slot.block held.heap ≡ false) × (is_block_of slot.block others ≡ false)
    × AreOwned program held others

-- ---- open statements

abbrev pub inside_form : CStmtForm → CBody → CBody
inside_form (switch value inner) body = within_switch (type_of value) body
inside_form (while test inner) body = within_loop body
inside_form (do_while inner test) body = within_loop body
inside_form (for_loop first test next inner) body = within_loop body
inside_form _ body = body

-- where the parts of an open statement stand; the first part of a `for` isn't in the loop (6.8.5.3p1)
abbrev pub inside_by : CRest → CStmtForm → CBody → CBody
inside_by nothing_left form body = inside_form form body
inside_by (statements_left stmts) form body = inside_form form body
inside_by (firsts_left stmts) form body = body
inside_by turn_left form body = inside_form form body

abbrev pub inside_level : CBody → CLevel → CBody
inside_level body level = inside_by level.rest level.form (with_objects (objects_of level.slots) body)

-- where the innermost of open statements has its parts
abbrev pub body_at : CBody → List CLevel → CBody
body_at body [] = body
body_at body (level ∷ outer) = inside_level (body_at body outer) level

abbrev pub is_block_form : CStmtForm → Bool
is_block_form (block stmts) = true
is_block_form _ = false

abbrev pub is_for_form : CStmtForm → Bool
is_for_form (for_loop first test next inner) = true
is_for_form _ = false

abbrev pub is_loop_form : CStmtForm → Bool
is_loop_form (while test inner) = true
is_loop_form (do_while inner test) = true
is_loop_form form = is_for_form form

-- what is left of an open statement is typed, in the block of its objects
abbrev pub IsLeftOf : CBody → List ℕ → CStmtForm → CRest → Type 0
IsLeftOf body objects form nothing_left = Unit {0}
IsLeftOf body objects form (statements_left stmts) = (is_block_form form ≡ true) × AreTypedStmts body objects stmts
IsLeftOf body objects form (firsts_left stmts) = (is_for_form form ≡ true) × AreTypedStmts body objects stmts
IsLeftOf body objects form turn_left = is_loop_form form ≡ true

-- an open statement, in the body where it stands; it may declare some of the objects of the open statements around it
pub record IsLevel (body : CBody) (around : List ℕ) (level : CLevel) : Type 0 where
  pub declares : List ℕ
  pub in_scope : (number : ℕ) → Contains declares number → Contains around number
  pub objects : AreBlockObjects body.home (objects_of level.slots)
  pub form : IsTypedStmtForm (with_objects (objects_of level.slots) body) declares (objects_of level.slots) level.form
  pub rest : IsLeftOf (with_objects (objects_of level.slots) body) (objects_of level.slots) level.form level.rest

abbrev pub AreLevels : CBody → List CLevel → Type 0
AreLevels body [] = Unit {0}
AreLevels body (level ∷ outer) = IsLevel (body_at body outer) (objects_of (slots_in outer)) level × AreLevels body outer

-- ---- statements that are reached, and ways into them

abbrev pub form_of_stmt : CStmt → CStmtForm
form_of_stmt (stmt place objects form) = form

-- a statement is reached: what it may declare is in scope, and the first one is the function's body
pub record IsReached (whole : CBody) (one : CFun) (levels : List CLevel) (reached : CStmt) : Type 0 where
  pub declares : List ℕ
  pub in_scope : (number : ℕ) → Contains declares number → Contains (objects_of (slots_in levels)) number
  pub typed : IsTypedStmt (body_at whole levels) declares reached
  pub first : levels ≡ [] → reached ≡ one.body

-- the way to a label, a `case` or `default` goes over typed statements (6.8.1, 6.8.4.2p5, 6.8.6.1)
abbrev pub IsTypedWay : CBody → CWay → Type 0
IsTypedWay body (arrives target) = IsTypedStmt body [] target
IsTypedWay body (opens objects form rest way) =
    AreBlockObjects body.home objects × IsTypedStmtForm (with_objects objects body) [] objects form
    × IsLeftOf (with_objects objects body) objects form rest × IsTypedWay (inside_by rest form (with_objects objects body)) way

-- ---- functions that run

-- the outermost open statement
abbrev pub outermost : List CLevel → Option CStmtForm
outermost [] = None
outermost (level ∷ outer) = elim outer as (λ _. Option CStmtForm) [
  | [] ↦ Some level.form
  | next ∷ others ↦ outermost outer
]

-- a definition of a program, with its result type
pub record IsRunning (program : CProgram) (one : CFun) (result : CTy) : Type 0 where
  pub defined : Contains program.functions one
  pub params : CParams
  pub variadic : Bool
  pub type_is : form_of_type one.type ≡ function result params variadic

-- where the body of a function stands
abbrev pub whole_body : CProgram → CFun → CTy → CBody
whole_body program one result = body_of (home_of program None one.unit) result one

-- a run stands somewhere in a function; the outermost open statement is the function's body
pub record IsSite (program : CProgram) (one : CFun) (result : CTy) (site : CSite) : Type 0 where
  pub running : IsRunning program one result
  pub levels : AreLevels (whole_body program one result) site.levels
  pub whole : IfSome (outermost site.levels) (λ form. form ≡ form_of_stmt one.body)
  pub params_are : objects_of site.bottom.params ≡ one.params
  pub at_end_is : site.bottom.at_end ≡ value_at_end (is_main one)

-- what an expression there may name
abbrev pub home_at : CProgram → CFun → CTy → List CLevel → CHome
home_at program one result levels = (body_at (whole_body program one result) levels).home
