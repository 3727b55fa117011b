-- What the pointers of a run can't lead to (ISO C99, 6.2.4, 6.5p2, 6.5.3.2 and 6.5.6): an object is accessed by its name, or by a
-- pointer that was derived from its address. So a block to which no name and no pointer leads stays as it is, whatever is called.
--
-- A set of blocks is given by a test of their numbers.
use Rattle.std.specs.Prelude.{◌≡◌, ℕ, ◌≤◌, Bool, true, false, All, List, [], ◌∷◌, length, Option, Some, None, slice_get}
use Rattle.cr_base.specs.declared.scalar.Scalar.{Scalar}
use Rattle.cr_world.specs.World.{World, blocks_of}
use Rattle.cx_core.specs.Trees.{CExpr, expr, CForm, whole, null, object, code, load, deref, member, address, convert, unary, binary, and, or, cond, assign, assign_by, step, call, call_by, comma, literal, CExprs, no_exprs, more_exprs, CPut, put, CPuts, no_puts, more_puts}
use Rattle.cx_mean.specs.Moves.{CBehind, in_body, of_statics, CPurpose, puts_it, drops_it, turns_on, gives_it, chooses_by, CMove, values, reaches, begins, leaves, calls_main, goes_nowhere}
use Rattle.cx_mean.specs.Operands.{CValue, scalar, cells, names, designates, designates_bits, missing, COperand, Frame, slot_of}
use Rattle.cx_mean.specs.Paths.{CLevel, CBottom, CSite}
use Rattle.cx_mean.specs.Run.{c_after}
use Rattle.cx_mean.specs.Settings.{CSetting}
use Rattle.cx_mean.specs.State.{CCaller, CControl, begins_static, moves, evaluates, uses, takes, has_ended, has_stopped, CState, c_step}
use Rattle.cx_mean.specs.Work.{CUpdate, CStage, was_loaded, was_computed, was_converted, CWork, finished, needs, chooses, tests, carries, updates, fills, waits, CWorks, no_works, more_works, begun}
use Rattle.mem_bytes.specs.Access.{part_at, value_at, field_at, record_at}
use Rattle.mem_bytes.specs.declared.cell.Cell.{Cell}
use Rattle.mem_bytes.specs.declared.cell.Cell.TheVariants.{Bits, PtrByte}
use Rattle.mem_bytes.specs.declared.value.Ptr.{Ptr}
use Rattle.mem_bytes.specs.declared.value.Value.{Value}
use Rattle.mem_bytes.specs.declared.value.Value.TheVariants.{Whole as Number, Null, Object as Pointer, Code as Function}
use Rattle.mem_bytes.specs.Memory.{Block, Blocks, live_block}
use Rattle.cx_stays.specs.Stays.{EvaluatesIn}

-- ---- values

-- a pointer to an object leads to its block; a number, a null pointer and the address of a function lead nowhere
abbrev pub LeadsWithin : (ℕ → Bool) → Value → Type 0
LeadsWithin reached (Number number) = Unit {0}
LeadsWithin reached Null = Unit {0}
LeadsWithin reached (Pointer at) = reached at.block ≡ true
LeadsWithin reached (Function number) = Unit {0}

-- a byte of a stored pointer leads where the pointer leads
abbrev pub CellLeadsWithin : (ℕ → Bool) → Cell → Type 0
CellLeadsWithin reached (Bits value set) = Unit {0}
CellLeadsWithin reached (PtrByte of index) = LeadsWithin reached of

-- a place, where there is one, is in a block of the set
abbrev pub IsPlaceWithin : (ℕ → Bool) → Option Ptr → Type 0
IsPlaceWithin reached None = Unit {0}
IsPlaceWithin reached (Some at) = reached at.block ≡ true

-- what an operand gives leads within a set, where it may name these objects alone: a pointer, or the place that an lvalue
-- designates; of a structure or union each of its cells, and the place from which it was read
abbrev pub GivesWithin : (ℕ → Bool) → (ℕ → Type 0) → CValue → Type 0
GivesWithin reached Named (scalar value) = LeadsWithin reached value
GivesWithin reached Named (cells held from) = All (CellLeadsWithin reached) held × IsPlaceWithin reached from
GivesWithin reached Named (names number) = Named number
GivesWithin reached Named (designates to) = LeadsWithin reached to
GivesWithin reached Named (designates_bits at bit width) = reached at.block ≡ true
GivesWithin reached Named missing = Unit {0}

abbrev pub AreOperandsWithin : (ℕ → Bool) → (ℕ → Type 0) → List COperand → Type 0
AreOperandsWithin reached Named [] = Unit {0}
AreOperandsWithin reached Named (first ∷ others) = GivesWithin reached Named first.value × AreOperandsWithin reached Named others

abbrev pub AreValuesWithin : (ℕ → Bool) → (ℕ → Type 0) → List CValue → Type 0
AreValuesWithin reached Named [] = Unit {0}
AreValuesWithin reached Named (first ∷ others) = GivesWithin reached Named first × AreValuesWithin reached Named others

-- ---- expressions

abbrev mutual
  -- an expression names no other objects than these, also by its compound literals
  pub NamesOnly : (ℕ → Type 0) → CExpr → Type 0
  NamesOnly Named (expr type place form) = FormNamesOnly Named form

  pub FormNamesOnly : (ℕ → Type 0) → CForm → Type 0
  FormNamesOnly Named (whole value) = Unit {0}
  FormNamesOnly Named null = Unit {0}
  FormNamesOnly Named (object number) = Named number
  FormNamesOnly Named (code number) = Unit {0}
  FormNamesOnly Named (load from) = NamesOnly Named from
  FormNamesOnly Named (deref from) = NamesOnly Named from
  FormNamesOnly Named (member of spot) = NamesOnly Named of
  FormNamesOnly Named (address of) = NamesOnly Named of
  FormNamesOnly Named (convert value) = NamesOnly Named value
  FormNamesOnly Named (unary op value) = NamesOnly Named value
  FormNamesOnly Named (binary op left right) = NamesOnly Named left × NamesOnly Named right
  FormNamesOnly Named (and left right) = NamesOnly Named left × NamesOnly Named right
  FormNamesOnly Named (or left right) = NamesOnly Named left × NamesOnly Named right
  FormNamesOnly Named (cond test first second) = NamesOnly Named test × NamesOnly Named first × NamesOnly Named second
  FormNamesOnly Named (assign target value) = NamesOnly Named target × NamesOnly Named value
  FormNamesOnly Named (assign_by op computes target value) = NamesOnly Named target × NamesOnly Named value
  FormNamesOnly Named (step up post on) = NamesOnly Named on
  FormNamesOnly Named (call callee args) = AllNameOnly Named args
  FormNamesOnly Named (call_by callee args) = NamesOnly Named callee × AllNameOnly Named args
  FormNamesOnly Named (comma first second) = NamesOnly Named first × NamesOnly Named second
  FormNamesOnly Named (literal number puts) = Named number × PutsNameOnly Named puts

  pub AllNameOnly : (ℕ → Type 0) → CExprs → Type 0
  AllNameOnly Named no_exprs = Unit {0}
  AllNameOnly Named (more_exprs first others) = NamesOnly Named first × AllNameOnly Named others

  pub PutsNameOnly : (ℕ → Type 0) → CPuts → Type 0
  PutsNameOnly Named no_puts = Unit {0}
  PutsNameOnly Named (more_puts first others) = PutNamesOnly Named first × PutsNameOnly Named others

  pub PutNamesOnly : (ℕ → Type 0) → CPut → Type 0
  PutNamesOnly Named (put spot type value) = NamesOnly Named value

-- ---- expressions under evaluation

-- `op=`, `++` or `--` after its load: what was loaded, the target, and what it computes with
abbrev pub IsUpdateWithin : (ℕ → Bool) → (ℕ → Type 0) → CUpdate → Type 0
IsUpdateWithin reached Named update =
    LeadsWithin reached update.old × GivesWithin reached Named update.target × LeadsWithin reached update.right.value

abbrev pub IsStageWithin : (ℕ → Bool) → CStage → Type 0
IsStageWithin reached was_loaded = Unit {0}
IsStageWithin reached (was_computed new) = LeadsWithin reached new
IsStageWithin reached (was_converted new) = LeadsWithin reached new

abbrev mutual
  -- each value in a tree leads within a set, and what may still be evaluated names these objects alone
  pub IsWorkWithin : (ℕ → Bool) → (ℕ → Type 0) → CWork → Type 0
  IsWorkWithin reached Named (finished operand) = GivesWithin reached Named operand.value
  IsWorkWithin reached Named (needs node operands) = NamesOnly Named node × AreWorksWithin reached Named operands
  IsWorkWithin reached Named (chooses node first) = NamesOnly Named node × IsWorkWithin reached Named first
  IsWorkWithin reached Named (tests node marks second) = IsWorkWithin reached Named second
  IsWorkWithin reached Named (carries node marks part) = IsWorkWithin reached Named part
  IsWorkWithin reached Named (updates node update stage marks) = IsUpdateWithin reached Named update × IsStageWithin reached stage
  IsWorkWithin reached Named (fills node marks one others value) =
      NamesOnly Named node × PutsNameOnly Named others × IsWorkWithin reached Named value
  IsWorkWithin reached Named (waits node marks) = Unit {0}

  pub AreWorksWithin : (ℕ → Bool) → (ℕ → Type 0) → CWorks → Type 0
  AreWorksWithin reached Named no_works = Unit {0}
  AreWorksWithin reached Named (more_works first others) = IsWorkWithin reached Named first × AreWorksWithin reached Named others

-- ---- memories

-- a set is closed in a memory
pub record IsClosedIn (reached : ℕ → Bool) (memory : Blocks) : Type 0 where
  -- each pointer that a live block of the set holds leads within it
  pub holds : (number : ℕ) (block : Block) → reached number ≡ true → live_block memory number ≡ Some block →
      All (CellLeadsWithin reached) block.cells
  -- a block that isn't made yet is in the set: who makes it reaches it
  pub unmade : (number : ℕ) → length memory ≤ number → reached number ≡ true

-- each block that a set leaves out is in a later memory what it was in an earlier one, whole: live or dead, its cells and its
-- alignment
pub record StaysOutside (reached : ℕ → Bool) (before after : Blocks) : Type 0 where
  pub blocks : (number : ℕ) → reached number ≡ false → slice_get after number ≡ slice_get before number

-- what is loaded from such a block is what it was
pub record LoadsAlikeOutside (reached : ℕ → Bool) (before after : Blocks) : Type 0 where
  -- any number of cells at a place
  pub parts : (at : Ptr) (count : ℕ) → reached at.block ≡ false → part_at after at count ≡ part_at before at count
  -- a scalar, and a structure or union
  pub scalars : (at : Ptr) (kind : Scalar) → reached at.block ≡ false → value_at after at kind ≡ value_at before at kind
  pub records : (at : Ptr) (size align : ℕ) → reached at.block ≡ false → record_at after at size align ≡ record_at before at size align
  -- a bit-field
  pub fields : (at : Ptr) (bit width : ℕ) → reached at.block ≡ false → field_at after at bit width ≡ field_at before at bit width

-- ---- states

-- any object may be named
abbrev pub AnyObject : ℕ → Type 0
AnyObject number = Unit {0}

-- no object may be: what a function gives back is a value
abbrev pub NoObject : ℕ → Type 0
NoObject number = ⊥

-- each object of a frame lives in a block of the set
abbrev pub AreSlotsWithin : (ℕ → Bool) → Frame → Type 0
AreSlotsWithin reached [] = Unit {0}
AreSlotsWithin reached (slot ∷ others) = (reached slot.block ≡ true) × AreSlotsWithin reached others

-- so do the objects of the open statements of a function
abbrev pub AreLevelsWithin : (ℕ → Bool) → List CLevel → Type 0
AreLevelsWithin reached [] = Unit {0}
AreLevelsWithin reached (level ∷ outer) = AreSlotsWithin reached level.slots × AreLevelsWithin reached outer

-- its parameters, and what its end gives
abbrev pub IsBottomWithin : (ℕ → Bool) → CBottom → Type 0
IsBottomWithin reached bottom = AreSlotsWithin reached bottom.params × GivesWithin reached NoObject bottom.at_end

abbrev pub IsSiteWithin : (ℕ → Bool) → CSite → Type 0
IsSiteWithin reached site = AreLevelsWithin reached site.levels × IsBottomWithin reached site.bottom

abbrev pub IsBehindWithin : (ℕ → Bool) → CBehind → Type 0
IsBehindWithin reached (in_body site) = IsSiteWithin reached site
IsBehindWithin reached (of_statics others) = Unit {0}

abbrev pub IsPurposeWithin : (ℕ → Bool) → CPurpose → Type 0
IsPurposeWithin reached (puts_it place one) = IsBehindWithin reached one.behind
IsPurposeWithin reached (drops_it site) = IsSiteWithin reached site
IsPurposeWithin reached (turns_on site) = IsSiteWithin reached site
IsPurposeWithin reached (gives_it place site) = IsSiteWithin reached site
IsPurposeWithin reached (chooses_by place site) = IsSiteWithin reached site

abbrev pub IsMoveWithin : (ℕ → Bool) → CMove → Type 0
IsMoveWithin reached (values node purpose) = IsPurposeWithin reached purpose
IsMoveWithin reached (reaches one site) = IsSiteWithin reached site
IsMoveWithin reached (begins one) = AreSlotsWithin reached one.level.slots × IsSiteWithin reached one.outer
IsMoveWithin reached (leaves value site) = GivesWithin reached NoObject value × IsSiteWithin reached site
IsMoveWithin reached calls_main = Unit {0}
IsMoveWithin reached (goes_nowhere place) = Unit {0}

-- where a run stands: the objects of the function that runs, and the values that it has
abbrev pub IsControlWithin : (ℕ → Bool) → CControl → Type 0
IsControlWithin reached (begins_static one others) = Unit {0}
IsControlWithin reached (moves one) = IsMoveWithin reached one
IsControlWithin reached (evaluates work purpose) = IsWorkWithin reached AnyObject work × IsPurposeWithin reached purpose
IsControlWithin reached (uses operand purpose) = GivesWithin reached AnyObject operand.value × IsPurposeWithin reached purpose
IsControlWithin reached (takes one) = AreValuesWithin reached AnyObject one.args × AreSlotsWithin reached one.frame
IsControlWithin reached (has_ended status) = Unit {0}
IsControlWithin reached (has_stopped stop) = Unit {0}

abbrev pub AreCallersWithin : (ℕ → Bool) → List CCaller → Type 0
AreCallersWithin reached [] = Unit {0}
AreCallersWithin reached (first ∷ others) =
    IsWorkWithin reached AnyObject first.work × IsPurposeWithin reached first.purpose × AreCallersWithin reached others

-- all that a state names or points to is in a set, and what is in the set points to nothing outside of it
pub record IsReachedSet (reached : ℕ → Bool) (state : CState) : Type 0 where
  pub memory : IsClosedIn reached (blocks_of state.world)
  -- the static objects
  pub statics : AreSlotsWithin reached state.statics
  -- the function that runs, and those that wait for one that they called
  pub control : IsControlWithin reached state.control
  pub callers : AreCallersWithin reached state.callers

-- ---- the law

-- an object that a frame has lives in a block of the set
abbrev pub LivesWithin : (ℕ → Bool) → Frame → ℕ → Type 0
LivesWithin reached frame number = IsPlaceWithin reached (slot_of frame number)

-- what an evaluation leaves, at a point of it
pub record IsEvaluatedWithin (reached : ℕ → Bool) (frame : Frame) (before : Blocks) (work : CWork) (now : Blocks) : Type 0 where
  -- the blocks that the set leaves out as they were
  pub stays : StaysOutside reached before now
  pub loads : LoadsAlikeOutside reached before now
  -- and a tree and a memory that lead within the set still
  pub within : IsWorkWithin reached (LivesWithin reached frame) work
  pub closed : IsClosedIn reached now

pub record UnreachedStays : Type 0 where
  -- a step of a program leads nowhere else, and leaves each block that the set leaves out as it was, whatever is called
  pub step : (reached : ℕ → Bool) (setting : CSetting) (state : CState) → IsReachedSet reached state →
      IsReachedSet reached (c_step setting state)
      × StaysOutside reached (blocks_of state.world) (blocks_of (c_step setting state).world)
  -- and so do any number of steps
  pub steps : (reached : ℕ → Bool) (setting : CSetting) (state : CState) (many : ℕ) → IsReachedSet reached state →
      IsReachedSet reached (c_after setting many state)
      × StaysOutside reached (blocks_of state.world) (blocks_of (c_after setting many state).world)
  -- so what is loaded there after them is what it was
  pub values : (reached : ℕ → Bool) (setting : CSetting) (state : CState) (many : ℕ) → IsReachedSet reached state →
      LoadsAlikeOutside reached (blocks_of state.world) (blocks_of (c_after setting many state).world)
  -- an expression by itself, in whatever order it is evaluated, and whatever functions it calls that no unit defines: of the
  -- objects in scope it reaches those that it names, so they alone have to live in blocks of the set
  pub evaluation : (reached : ℕ → Bool) (setting : CSetting) (frame : Frame) (e : CExpr) (before now : World) (work : CWork) →
      NamesOnly (LivesWithin reached frame) e → IsClosedIn reached (blocks_of before) →
      EvaluatesIn setting frame (begun e) before work now → IsEvaluatedWithin reached frame (blocks_of before) work (blocks_of now)
