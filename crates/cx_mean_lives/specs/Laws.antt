-- What values and moves of the leftmost run leave of the lives of objects (ISO C99, 6.2.4): an expression without calls leaves the sizes of all
-- objects the same; and whatever is called, an object that was made before lives on as large as it was, but for those that `malloc` or
-- `calloc` gave and for the objects of a function that returns.
use Rattle.std.specs.Prelude.{◌≡◌, ℕ, ◌<◌, ◌≤◌, true, false, List, [], ◌∷◌, ◌++◌, length, Some}
use Rattle.cr_runs.specs.Owes.{AtEnd}
use Rattle.cr_runs.specs.Runs.{came}
use Rattle.cr_world.specs.Held.{Held, is_listed}
use Rattle.cr_world.specs.World.{World, blocks_of}
use Rattle.cx_core.specs.Trees.{CExpr, CFun}
use Rattle.cx_mean.specs.Leftmost.{CCalls, CGoes, c_value, c_called, c_goes}
use Rattle.cx_mean.specs.Moves.{CBehind, in_body, of_statics, CPurpose, puts_it, drops_it, turns_on, gives_it, chooses_by, CMove, values, reaches, begins, leaves, calls_main, goes_nowhere, slots_in}
use Rattle.cx_mean.specs.Operands.{CValue, COperand, Frame, slot_of}
use Rattle.cx_mean.specs.Paths.{CSite}
use Rattle.cx_mean.specs.Quiet.{calls_nothing}
use Rattle.cx_mean.specs.Settings.{CSetting}
use Rattle.cx_mean_laws.specs.Laws.{calls_of, goes_of}
use Rattle.mem_bytes.specs.declared.value.Ptr.{Ptr}
use Rattle.mem_bytes.specs.Memory.{Blocks, live_block}
use Rattle.mem_bytes.specs.Pointers.{live_size, object_size}

-- ---- sizes

-- no object is made, none dies, and each is as large as it was
pub record SameSizes (before after : Blocks) : Type 0 where
  pub many : length after ≡ length before
  pub sizes : (number : ℕ) → live_size (live_block after number) ≡ live_size (live_block before number)

-- an expression without calls leaves them so
pub record UnwrittenSizes : Type 0 where
  pub blocks : (setting : CSetting) (calls : CCalls) (frame : Frame) (e : CExpr) (before after : World) (operand : COperand)
      (steps left : ℕ) → calls_nothing e ≡ true → c_value setting calls frame e before steps ≡ came operand after left →
      SameSizes (blocks_of before) (blocks_of after)
  -- so what operators ask of pointers is the same behind it
  pub sizes : (setting : CSetting) (calls : CCalls) (frame : Frame) (e : CExpr) (before after : World) (operand : COperand)
      (steps left : ℕ) → calls_nothing e ≡ true → c_value setting calls frame e before steps ≡ came operand after left →
      (at : Ptr) → object_size (blocks_of after) at ≡ object_size (blocks_of before) at

-- ---- lives

-- of the objects below a number those that `malloc` and `calloc` didn't give, or that are freed already, stay as large as they are, dead ones
-- dead, and become none of those that may be freed
pub record LivesOn (bound : ℕ) (before after : Held) : Type 0 where
  -- no number is given up
  pub grows : length before.blocks ≤ length after.blocks
  pub unlisted : (number : ℕ) → number < bound → is_listed number before.heap ≡ false → is_listed number after.heap ≡ false
  pub sizes : (number : ℕ) → number < bound → is_listed number before.heap ≡ false →
      live_size (live_block after.blocks number) ≡ live_size (live_block before.blocks number)

-- so it is with all objects that were made before
abbrev pub LivesFrom : {A : Type 0} → World → A → World → Type 0
LivesFrom before value after = LivesOn (length (blocks_of before)) before.held after.held

-- functions that are called leave it so
abbrev pub CallsLive : CCalls → Type 0
CallsLive calls =
    (callee : CFun) (args : List CValue) (world : World) (left : ℕ) → AtEnd (LivesFrom world) (calls callee args world left)

-- ---- moves: the objects of the function that runs are those from a number on

abbrev pub AreFrom : ℕ → Frame → Type 0
AreFrom bound [] = Unit {0}
AreFrom bound (slot ∷ others) = (bound ≤ slot.block) × AreFrom bound others

pub record IsSiteFrom (bound : ℕ) (site : CSite) : Type 0 where
  pub levels : AreFrom bound (slots_in site.levels)
  pub params : AreFrom bound site.bottom.params

abbrev pub IsBehindFrom : ℕ → CBehind → Type 0
IsBehindFrom bound (in_body site) = IsSiteFrom bound site
IsBehindFrom bound (of_statics others) = Unit {0}

abbrev pub IsPurposeFrom : ℕ → CPurpose → Type 0
IsPurposeFrom bound (puts_it place one) = IsBehindFrom bound one.behind
IsPurposeFrom bound (drops_it site) = IsSiteFrom bound site
IsPurposeFrom bound (turns_on site) = IsSiteFrom bound site
IsPurposeFrom bound (gives_it place site) = IsSiteFrom bound site
IsPurposeFrom bound (chooses_by place site) = IsSiteFrom bound site

abbrev pub IsMoveFrom : ℕ → CMove → Type 0
IsMoveFrom bound (values value purpose) = IsPurposeFrom bound purpose
IsMoveFrom bound (reaches one site) = IsSiteFrom bound site
IsMoveFrom bound (begins one) = AreFrom bound (one.level.slots ++ slots_in one.outer.levels) × AreFrom bound one.outer.bottom.params
IsMoveFrom bound (leaves value site) = IsSiteFrom bound site
IsMoveFrom bound calls_main = Unit {0}
IsMoveFrom bound (goes_nowhere place) = Unit {0}

-- moves of a function whose objects are those from a number on leave the objects below it so, until it returns
abbrev pub GoesLive : CGoes → Type 0
GoesLive goes =
    (bound : ℕ) (move : CMove) (world : World) (left : ℕ) → bound ≤ length (blocks_of world) → IsMoveFrom bound move →
    AtEnd (λ value after. LivesOn bound world.held after.held) (goes move world left)

pub record ScopeLives : Type 0 where
  -- functions that are called, and moves of a run
  pub calls : (setting : CSetting) (statics : Frame) → CallsLive (calls_of setting statics)
  pub goes : (setting : CSetting) (statics : Frame) → GoesLive (goes_of setting statics)
  -- also those of a run as deep as a number says
  pub called : (setting : CSetting) (statics : Frame) (fuel : ℕ) → CallsLive (c_called setting (c_goes setting statics fuel))
  -- an expression that came to its end, whatever it called
  pub value : (setting : CSetting) (calls : CCalls) (frame : Frame) (e : CExpr) (before after : World) (operand : COperand)
      (steps left : ℕ) → CallsLive calls → c_value setting calls frame e before steps ≡ came operand after left →
      LivesOn (length (blocks_of before)) before.held after.held
  -- so each object in scope that was made and that can't be freed keeps its size, and can't be freed behind it
  pub scope : (setting : CSetting) (calls : CCalls) (frame : Frame) (e : CExpr) (before after : World) (operand : COperand)
      (steps left : ℕ) → CallsLive calls → c_value setting calls frame e before steps ≡ came operand after left →
      (number : ℕ) (at : Ptr) → slot_of frame number ≡ Some at → at.block < length (blocks_of before) →
      is_listed at.block before.held.heap ≡ false →
      (object_size (blocks_of after) at ≡ object_size (blocks_of before) at) × (is_listed at.block after.held.heap ≡ false)
