-- What moves of a typed run are given, and what they have to leave (ISO C99, 6.2.4 and 6.8).
use Rattle.std.proofs.Common.{◌≡◌, ℕ, ℤ, List, [], ◌∷◌, ◌++◌, Option, Some, None}
use Rattle.std.specs.List.{Contains}
use Rattle.cr_world.specs.Held.{Held, with_blocks}
use Rattle.cr_world.specs.Laws.{AreAllocated}
use Rattle.cx_core.specs.Linked.{IsLinked}
use Rattle.cx_core.specs.Statements.{with_objects}
use Rattle.cx_core.specs.Trees.{CTy, unqualified, CExpr, type_of, CPuts, CStmt, CObject, CFun, CProgram}
use Rattle.cx_core.specs.Typing.{IsTyped, ArePuts, object_with}
use Rattle.cx_mean.specs.Moves.{CBehind, in_body, CBeginning, CStand, slots_of_site, next_of, putting, beginning, reached, turning_on}
use Rattle.cx_mean.specs.Operands.{COperand, CValue, Slot, Frame}
use Rattle.cx_mean.specs.Paths.{CSite}
use Rattle.cx_mean.specs.Settings.{setting_of}
use Rattle.cx_mean.specs.State.{choice_at, with_slot}
use Rattle.cx_typed_values.specs.Outcomes.{Comes}
use Rattle.cx_typed_work.specs.Operands.{IsOperandOf}
use Rattle.cx_typed_work.specs.Scenes.{IsTypedMemory}
use Rattle.cx_typed_runs.specs.Sites.{whole_body, IsReached, IsSite, home_at, AreOwned}
use Rattle.cx_typed_runs.specs.States.{Chooses, Turns, IsBeginning, IsMoveIn, slots_of_move}

-- a run stands at a site, beside the objects of functions that wait and static ones
pub record IsHere (program : CProgram) (one : CFun) (result : CTy) (held : Held) (rest : Frame) (site : CSite) : Type 0 where
  pub linked : IsLinked program
  pub at : IsSite program one result site
  pub memory : IsTypedMemory program held.blocks
  pub allocated : AreAllocated held.blocks held.heap
  pub owned : AreOwned program held (slots_of_site site ++ rest)

-- a typed move of the same function, in a typed memory, beside the same objects
pub record IsStandOf (program : CProgram) (one : CFun) (result : CTy) (held : Held) (rest : Frame) (stand : CStand) : Type 0 where
  pub memory : IsTypedMemory program stand.blocks
  pub allocated : AreAllocated stand.blocks held.heap
  pub owned : AreOwned program (with_blocks stand.blocks held) (slots_of_move stand.move ++ rest)
  pub move : IsMoveIn program one result stand.move

-- what statements owe
pub record MovesStand (program : CProgram) (one : CFun) (result : CTy) : Type 0 where
  -- what follows in the innermost open statement
  pub next : (held : Held) (rest : Frame) (site : CSite) → IsHere program one result held rest site → IsStandOf program one result held rest (next_of site held.blocks)
  -- a loop goes on to its condition
  pub turned : (held : Held) (rest : Frame) (site : CSite) → IsHere program one result held rest site → Turns site.levels
      → IsStandOf program one result held rest (turning_on site held.blocks)
  -- a statement is reached
  pub reached_it : (held : Held) (rest : Frame) (site : CSite) (stmt : CStmt) → IsHere program one result held rest site
      → IsReached (whole_body program one result) one site.levels stmt
      → IsStandOf program one result held rest (reached (setting_of program) stmt site held.blocks)
  -- an object has begun; its slot is the last of the level's
  pub has_begun : (held : Held) (rest : Frame) (it : CBeginning) (new : Slot) → IsLinked program → IsBeginning program one result it → new.object ≡ it.object
      → IsTypedMemory program held.blocks → AreAllocated held.blocks held.heap → AreOwned program held ((it.level.slots ++ new ∷ []) ++ slots_of_site it.outer ++ rest)
      → IsStandOf program one result held rest (beginning (setting_of program) it.others it.goal (with_slot new it.level) it.outer held.blocks)
  -- a value chooses in the innermost open statement
  pub chosen_by : (held : Held) (rest : Frame) (site : CSite) (node : CExpr) (operand : COperand) → IsHere program one result held rest site
      → IsTyped (home_at program one result site.levels) node → IsOperandOf (home_at program one result site.levels) node operand → Chooses program.types (type_of node) site.levels
      → Comes (IsStandOf program one result held rest) (choice_at held.blocks operand.value site.levels site.bottom)
  -- the puts of an object that are left
  pub puts_left : (held : Held) (rest : Frame) (site : CSite) (object : CObject) (number : ℕ) (puts : CPuts) → IsHere program one result held rest site
      → object_with number program.objects ≡ Some object → Contains (home_at program one result site.levels).scope number → ArePuts (home_at program one result site.levels) object.type puts
      → IsStandOf program one result held rest (putting number puts (in_body site) held.blocks)
