-- What the parts of a body do that are written for it, wherever a run of C stands beside one of the crate: full expressions, conditions, declarations, lives and
-- returns (ISO C99, 6.2.4, 6.7.8 and 6.8).
use Rattle.std.specs.Prelude.{◌≡◌, ℕ, ◌+◌, ◌≤◌, ℤ, Bool, ◌||◌, List, [], ◌∷◌, ◌++◌, map, Option, Some, None, Ok}
use Rattle.cr_base.specs.declared.refusal.Place.{Place}
use Rattle.cr_runs.specs.Owes.{Owes}
use Rattle.cr_runs.specs.Runs.{came, bind}
use Rattle.cr_world.specs.World.{Got, World, blocks_of, with_memory, events_of}
use Rattle.cx_core.specs.Trees.{CTy, CExpr, place_of, CPut, put, CPuts, no_puts, more_puts, CStmt, stmt, CStmtForm, label, case, default, block, expression, if_then, switch, while, do_while, for_loop, goto, continue, break, returns, begin, COtherwise, no_else, else_do, CStmts, no_stmts, more_stmts}
use Rattle.cx_mean.specs.Initialisers.{CCleared, object_cleared, put_stored}
use Rattle.cx_mean.specs.Leftmost.{CPiece, CGoes, one_step, c_value, c_called, c_move}
use Rattle.cx_mean.specs.Marks.{no_marks}
use Rattle.cx_mean.specs.Moves.{CMove, static_puts_of, without_objects}
use Rattle.cx_mean.specs.Nodes.{truth_of_value}
use Rattle.cx_mean.specs.Operands.{CValue, missing, COperand, with_marks, Slot, Frame as CFrame, scalar_value}
use Rattle.cx_mean.specs.Paths.{CBottom}
use Rattle.cx_mean.specs.Settings.{CSetting}
use Rattle.cx_mean.specs.State.{given_back, value_given, slot, object_begins, no_place}
use Rattle.cx_mean.specs.Values.{number_in}
use Rattle.cx_mean_laws.specs.Laws.{AreBounded}
use Rattle.build_flow_nodes.specs.Parts.{BodyNames, count_in_test, count_in_option, count_in_condition, count_in_stmt, count_in_stmts, begun, cleared_where, leaves_bits, effect, condition, operand_of, given, at_end_of}
use Rattle.lift_exprs.specs.Lifted.{lifted_put}
use Rattle.lift_exprs.specs.Objects.{object_at}
use Rattle.lift_exprs.specs.Written.{Written}
use Rattle.mem_bytes.specs.declared.value.Ptr.{Ptr}
use Rattle.mem_bytes.specs.declared.value.Value.{Value}
use Rattle.mem_bytes.specs.declared.value.Value.TheVariants.{Whole}
use Rattle.rs_mean.specs.Run.{Frame, Flow, normal, run_expr, run_stmts, tests}
use Rattle.rs_mean.specs.Values.{Typed}
use Rattle.rs_mean.specs.World.{Run, seq}
use Rattle.rs_text.specs.Tree.{Expr, Stmt, stmts}
use Rattle.build_flow_moves.specs.Runs.{run_given}

-- ---- a function that runs

-- a function of C beside that of the crate: what each has around its body, the bounds below which calls are known, where the two stand together, by the
-- objects of open statements in C, the innermost first, and where both have returned
pub record Stage : Type 1 where
  pub setting : CSetting
  pub statics : CFrame
  pub bottom : CBottom
  -- how the function goes on from a move
  pub goes : CGoes
  pub unfolds : (move : CMove) (world : World) (left : ℕ) → goes move world left ≡ c_move setting statics goes move world left
  pub bounded : AreBounded (c_called setting goes)
  pub of : BodyNames
  pub frame : Frame
  pub most_units : ℕ
  pub most_steps : ℕ
  pub Here : CFrame → World → World → Type 0
  pub Back : CValue → World → Option Typed → World → Type 0

-- the objects of slots
abbrev pub objects_in : CFrame → List ℕ
objects_in slots = map (λ (one : Slot). one.object) slots

-- all objects in scope
abbrev pub in_scope : Stage → CFrame → CFrame
in_scope a slots = (slots ++ a.bottom.params) ++ a.statics

abbrev pub value_in : Stage → CFrame → CExpr → CPiece COperand
value_in a slots e = c_value a.setting (c_called a.setting a.goes) (in_scope a slots) e

-- all objects of the function have died
abbrev pub all_dead : Stage → CFrame → World → World
all_dead a slots world = with_memory (without_objects (slots ++ a.bottom.params) (blocks_of world)) world

-- statements come to their end, at every number of units, take none and show nothing
pub record RunsTo (frame : Frame) (written : List Stmt) (world after : World) : Type 0 where
  pub runs : (units : ℕ) → run_stmts frame (stmts written) world units ≡ came normal after units

-- ---- parts: each where these objects are in scope

module _ (a : Stage) where
  -- statements that are written beside a piece of C owe that they end where it does, both in worlds that stand for each other, in which something holds
  abbrev pub PieceOwes : {A : Type 0} → List ℕ → (CFrame → CPiece A) → List Stmt → (CFrame → A → World → World → Type 0) → Type 0
  PieceOwes scope piece written Holds =
      (slots : CFrame) (c_world world : World) (n m : ℕ) → n ≤ a.most_units → m ≤ a.most_steps → objects_in slots ≡ scope → a.Here slots c_world world →
      Owes events_of events_of (λ value c_after flow after. (flow ≡ normal) × Holds slots value c_after after) n m (piece slots c_world) (run_stmts a.frame (stmts written) world)

  -- a full expression whose value is dropped
  abbrev pub EffectDone : List ℕ → CExpr → (number : ℕ) → Type 0
  EffectDone scope e number =
      PieceOwes scope (λ slots. value_in a slots e) (effect a.of e number) (λ slots operand c_after after. a.Here slots c_after after)

  -- an expression tests as this
  pub record TestsAs (e : Expr) (world : World) (holds : Bool) : Type 0 where
    pub runs : (units : ℕ) → seq (run_expr a.frame e) tests world units ≡ came holds world units

  -- a condition
  pub record Tested (slots : CFrame) (test : Expr) (operand : COperand) (c_after after : World) : Type 0 where
    pub here : a.Here slots c_after after
    pub tests : (holds : Bool) → truth_of_value (blocks_of c_after) operand.value ≡ Ok holds → TestsAs test after holds

  abbrev pub TestDone : List ℕ → CExpr → ℕ → Type 0
  TestDone scope e number =
      PieceOwes scope (λ slots. value_in a slots e) (condition a.of e number).written.body
      (λ slots operand c_after after. Tested slots (condition a.of e number).test operand c_after after)

  -- an expression gives a number
  pub record GivesNumber (e : Expr) (world : World) (number : ℤ) : Type 0 where
    pub typed : Typed
    pub runs : (units : ℕ) → run_expr a.frame e world units ≡ came typed world units
    pub is : typed.value ≡ Whole number

  -- the operand of a `switch`
  pub record Chosen (slots : CFrame) (on : Expr) (operand : COperand) (c_after after : World) : Type 0 where
    pub here : a.Here slots c_after after
    pub gives : (value : Value) (number : ℤ) → scalar_value operand.value ≡ Ok value → number_in value ≡ Ok number → GivesNumber on after number

  abbrev pub ChoiceDone : List ℕ → CExpr → ℕ → Type 0
  ChoiceDone scope e number =
      PieceOwes scope (λ slots. value_in a slots e) (operand_of a.of e number).body
      (λ slots operand c_after after. Chosen slots (operand_of a.of e number).value operand c_after after)

  -- the function gives back a value, and all of its objects die
  pub record GivenBack (slots : CFrame) (written : Option Expr) (value : CValue) (c_after after : World) : Type 0 where
    pub given : Option Typed
    pub runs : (units : ℕ) → run_given a.frame written after units ≡ came given after units
    pub back : a.Back (given_back value) (all_dead a slots c_after) given after

  -- a value that is given back, which has to be one
  abbrev pub return_piece : Place → CExpr → CFrame → CPiece CValue
  return_piece place e slots world left = bind (value_in a slots e world left) (λ operand. one_step place (value_given operand.value) came)

  abbrev pub ReturnDone : List ℕ → CExpr → ℕ → Type 0
  ReturnDone scope e number =
      (place : Place) → PieceOwes scope (return_piece place e) (given a.of (Some e) number).body
      (λ slots value c_after after. GivenBack slots (given a.of (Some e) number).value value c_after after)

  -- a return without value
  abbrev pub NothingGiven : List ℕ → Type 0
  NothingGiven scope =
      (slots : CFrame) (c_world world : World) → objects_in slots ≡ scope → a.Here slots c_world world → GivenBack slots None missing c_world world

  -- ---- objects

  -- the life of an object begins, behind others of its block and in others around
  pub record Begun (inner outer : CFrame) (object : ℕ) (got : Got Ptr) (world : World) : Type 0 where
    pub after : World
    pub runs : RunsTo a.frame (begun a.of (object ∷ [])) world after
    pub here : a.Here ((inner ++ slot object got.value ∷ []) ++ outer) got.world after

  abbrev pub BeginDone : (inner : List ℕ) → ℕ → (outer : List ℕ) → Type 0
  BeginDone inner object outer =
      (inners outers : CFrame) (c_world world : World) (got : Got Ptr) → objects_in inners ≡ inner → objects_in outers ≡ outer → a.Here (inners ++ outers) c_world world →
      object_begins a.setting no_place object c_world ≡ Ok got → Begun inners outers object got world

  abbrev pub BeginsDone : (inner : List ℕ) → List ℕ → (outer : List ℕ) → Type 0
  BeginsDone inner [] outer = Unit {0}
  BeginsDone inner (object ∷ objects) outer = BeginDone inner object outer × BeginsDone (inner ++ object ∷ []) objects outer

  -- the declaration of an object is reached: it is made anew
  pub record Cleared (slots : CFrame) (written : List Stmt) (c_after world : World) : Type 0 where
    pub after : World
    pub runs : RunsTo a.frame written world after
    pub here : a.Here slots c_after after

  abbrev pub ClearDone : List ℕ → ℕ → Option CPuts → Type 0
  ClearDone scope object puts =
      (slots : CFrame) (c_world world : World) (made : CCleared) → objects_in slots ≡ scope → a.Here slots c_world world →
      object_cleared a.setting slots object puts (blocks_of c_world) ≡ Ok made →
      Cleared slots (cleared_where (a.of.names.has_bits || leaves_bits a.of object puts) a.of object) (with_memory made.blocks c_world) world

  -- a value is stored in a part of an object
  abbrev pub put_piece : ℕ → CPut → CFrame → CPiece (Unit {0})
  put_piece object (put spot type value) slots world left =
      bind (value_in a slots value world left) (λ operand after.
      one_step (place_of value) (put_stored a.setting (in_scope a slots) (blocks_of after) object spot type (with_marks no_marks operand))
      (λ done later. came tt (with_memory done.blocks later)) after)

  abbrev pub put_written : ℕ → CPut → (number : ℕ) → Written
  put_written object one number = lifted_put a.of.names (a.of.type_of_object object) (object_at a.of.names (a.of.type_of_object object) object) one number

  abbrev pub PutDone : List ℕ → ℕ → CPut → ℕ → Type 0
  PutDone scope object one number = PieceOwes scope (put_piece object one) (put_written object one number).body (λ slots nothing c_after after. a.Here slots c_after after)

  abbrev pub PutsDone : List ℕ → ℕ → CPuts → ℕ → Type 0
  PutsDone scope object no_puts number = Unit {0}
  PutsDone scope object (more_puts one others) number = PutDone scope object one number × PutsDone scope object others (put_written object one number).next

  -- ---- statements: their parts, with temporaries from a number on

  abbrev pub EffectsDone : List ℕ → Option CExpr → ℕ → Type 0
  EffectsDone scope None number = Unit {0}
  EffectsDone scope (Some e) number = EffectDone scope e number

  abbrev pub TestsDone : List ℕ → Option CExpr → ℕ → Type 0
  TestsDone scope None number = Unit {0}
  TestsDone scope (Some e) number = TestDone scope e number

  abbrev mutual
    pub StmtDone : (scope : List ℕ) → (number : ℕ) → CStmt → Type 0
    StmtDone scope number (stmt place objects form) = BeginsDone [] objects scope × FormDone (objects ++ scope) number form

    pub FormDone : List ℕ → ℕ → CStmtForm → Type 0
    FormDone scope number (label name body) = StmtDone scope number body
    FormDone scope number (case value body) = StmtDone scope number body
    FormDone scope number (default body) = StmtDone scope number body
    FormDone scope number (block stmts) = StmtsDone scope number stmts
    FormDone scope number (expression value) = EffectsDone scope value number
    FormDone scope number (if_then test body otherwise) =
        TestDone scope test number × StmtDone scope (number + count_in_test a.of.names test) body
        × ElseDone scope (number + count_in_test a.of.names test + count_in_stmt a.of.names body) otherwise
    FormDone scope number (switch value body) = ChoiceDone scope value number × StmtDone scope (number + count_in_test a.of.names value) body
    FormDone scope number (while test body) = TestDone scope test number × StmtDone scope (number + count_in_test a.of.names test) body
    FormDone scope number (do_while body test) = StmtDone scope number body × TestDone scope test (number + count_in_stmt a.of.names body)
    FormDone scope number (for_loop first test next body) =
        StmtsDone scope number first × TestsDone scope test (number + count_in_stmts a.of.names first)
        × EffectsDone scope next (number + count_in_stmts a.of.names first + count_in_condition a.of.names test)
        × StmtDone scope (number + count_in_stmts a.of.names first + count_in_condition a.of.names test + count_in_option a.of.names next) body
    FormDone scope number (goto name) = Unit {0}
    FormDone scope number continue = Unit {0}
    FormDone scope number break = Unit {0}
    FormDone scope number (returns None) = NothingGiven scope
    FormDone scope number (returns (Some value)) = ReturnDone scope value number
    FormDone scope number (begin object puts) = ClearDone scope object puts × PutsDone scope object (static_puts_of puts) number

    pub ElseDone : List ℕ → ℕ → COtherwise → Type 0
    ElseDone scope number no_else = Unit {0}
    ElseDone scope number (else_do body) = StmtDone scope number body

    pub StmtsDone : List ℕ → ℕ → CStmts → Type 0
    StmtsDone scope number no_stmts = Unit {0}
    StmtsDone scope number (more_stmts first others) = StmtDone scope number first × StmtsDone scope (number + count_in_stmt a.of.names first) others

  -- ---- what holds wherever both stand

  pub record AlwaysHere : Type 0 where
    -- they have shown the same
    pub same : (slots : CFrame) (c_world world : World) → a.Here slots c_world world → events_of c_world ≡ events_of world
    -- objects of the innermost open statements die, and nothing is done for them
    pub dies : (gone kept : CFrame) (c_world world : World) → a.Here (gone ++ kept) c_world world →
        a.Here kept (with_memory (without_objects gone (blocks_of c_world)) c_world) world
    -- the end of the body
    pub ends : (c_world world : World) → a.Here [] c_world world → GivenBack [] (at_end_of a.of) a.bottom.at_end c_world world
