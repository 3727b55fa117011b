-- What is known of the parts of a body where each is written: expressions are typed and their temporaries kept, and objects are new to their scope (ISO C99, 6.2.4 and 6.8).
use Rattle.std.specs.Prelude.{◌≡◌, ◌⊎◌, ℕ, true, ◌||◌, ◌+◌, false, List, [], ◌∷◌, ◌++◌, map, Option, Some, None, IfSome}
use Rattle.cx_core.specs.Trees.{CTy, CExpr, type_of, CPut, put, CPuts, no_puts, more_puts, CObject, CStmt, stmt, CStmtForm, label, case, default, block, expression, if_then, switch, while, do_while, for_loop, goto, continue, break, returns, begin, COtherwise, no_else, else_do, CStmts, no_stmts, more_stmts}
use Rattle.std.specs.List.{Contains}
use Rattle.cr_base.specs.declared.layout.Laid.{Laid}
use Rattle.cr_base.specs.declared.layout.Spot.{Spot}
use Rattle.cr_world.specs.World.{World}
use Rattle.cx_core.specs.Linked.{is_main}
use Rattle.cx_core.specs.Typing.{object_with, IsTyped, IsPutOf, ArePuts}
use Rattle.cx_mean.specs.Moves.{static_puts_of}
use Rattle.cx_mean.specs.Settings.{extent_in}
use Rattle.cx_mean.specs.Operands.{Slot}
use Rattle.cx_mean.specs.State.{bottom_of}
use Rattle.build_flow_lives.specs.Standing.{Calling, Standing, stage_of}
use Rattle.build_flow_moves.specs.Parts.{Stage, objects_in, put_written, StmtDone, GivenBack}
use Rattle.build_flow_nodes.specs.Parts.{at_end_of, leaves_bits, count_in_test, count_in_option, count_in_condition, count_in_stmt, count_in_stmts}
use Rattle.lift_calls.specs.Calls.{result_laid}
use Rattle.lift_calls.specs.Programs.{setting_in}
use Rattle.lift_does.specs.Agree.{AreKeptFrom}
use Rattle.lift_does.specs.Calls.{CallsMean}
use Rattle.lift_exprs.specs.Lifted.{lifted}
use Rattle.lift_exprs.specs.Names.{type_in}
use Rattle.lift_held.specs.Held.{is_void, is_record, operand, value_for, full}
use Rattle.lift_held.specs.declared.asked.Asked.{Asked}
use Rattle.lift_stands.specs.Worlds.{WorldsStand}
use Rattle.rs_mean.specs.Scalars.{is_scalar}
use Rattle.rs_mean.specs.Typing.{is_bits}
use Rattle.build_flow_parts.specs.Means.{home_in, PartsMean, ObjectMeans, ZeroMeans, NotAmong}

module _ (a : Calling) (units steps : ℕ) where
  abbrev stage : Stage
  stage = stage_of a units steps

  -- an expression is typed where these objects are in scope, beside the parameters, its calls can be written, and its temporaries are kept
  pub record ValueMeans (asked : Asked) (scope : List ℕ) (e : CExpr) (number : ℕ) : Type 0 where
    pub typed : IsTyped (home_in a.s a.one (scope ++ a.one.params)) e
    pub calls : CallsMean a.s a.of.names e
    pub kept : AreKeptFrom a.of.names a.names number (lifted a.of.names asked e number).temporaries

  -- of an operand that is used there is a value
  pub record OperandMeans (scope : List ℕ) (e : CExpr) (number : ℕ) : Type 0 where
    pub value : ValueMeans operand scope e number
    pub some : is_void (type_of e) ≡ false

  abbrev pub EffectsMean : List ℕ → Option CExpr → ℕ → Type 0
  EffectsMean scope None number = Unit {0}
  EffectsMean scope (Some e) number = ValueMeans (full e) scope e number

  abbrev pub TestsMean : List ℕ → Option CExpr → ℕ → Type 0
  TestsMean scope None number = Unit {0}
  TestsMean scope (Some e) number = OperandMeans scope e number

  -- objects of a statement, behind those that have begun: each has a local, and none is in scope; in a program with a bit-field member each can become zero
  abbrev pub ObjectsMean : (inner : List ℕ) → List ℕ → (scope : List ℕ) → Type 0
  ObjectsMean inner [] scope = Unit {0}
  ObjectsMean inner (number ∷ objects) scope =
      ObjectMeans a.s a.names a.of number × (a.of.names.has_bits ≡ true → ZeroMeans a.s a.names a.of number) × NotAmong number (inner ++ (scope ++ objects_in (a.params ++ a.s.statics)))
      × ObjectsMean (inner ++ number ∷ []) objects scope

  -- a scalar is given back by a function that gives one of its type
  pub record ScalarGiven (scope : List ℕ) (e : CExpr) (number : ℕ) : Type 0 where
    pub value : ValueMeans operand scope e number
    pub some : is_void (type_of e) ≡ false
    pub plain : is_record (type_of e) ≡ false
    pub result_is : a.tree.result ≡ Some (type_in a.of.names (type_of e))
    pub no_place : result_laid a.s a.one ≡ None

  -- a structure or union is given back by a function that gives one of its type
  pub record RecordGiven (scope : List ℕ) (e : CExpr) (number : ℕ) : Type 0 where
    pub value : ValueMeans operand scope e number
    pub of_record : is_record (type_of e) ≡ true
    pub laid : Laid
    pub laid_is : extent_in (setting_in a.s) (type_of e) ≡ Some laid
    pub place_is : result_laid a.s a.one ≡ Some laid
    pub result_is : a.tree.result ≡ None
    pub name_is : a.names.result ≡ Some a.of.result

  abbrev pub ReturnMeans : List ℕ → CExpr → ℕ → Type 0
  ReturnMeans scope e number = ScalarGiven scope e number ⊎ RecordGiven scope e number

  -- a value is stored in a part of an object in scope: a scalar, a structure or union, or a bit-field
  pub record ValuePut (scope : List ℕ) (object : ℕ) (spot : Spot) (type : CTy) (e : CExpr) (number : ℕ) : Type 0 where
    pub value : ValueMeans (value_for spot) scope e number
    pub one : CObject
    pub object_is : object_with object a.s.program.objects ≡ Some one
    pub among : Contains (scope ++ a.one.params) object
    pub type_is : a.of.type_of_object object ≡ one.type
    pub is : IsPutOf a.s.program.types one.type spot type (type_of e)

  abbrev pub PutMeans : List ℕ → ℕ → CPut → ℕ → Type 0
  PutMeans scope object (put spot type value) number = ValuePut scope object spot type value number

  abbrev pub PutsMean : List ℕ → ℕ → CPuts → ℕ → Type 0
  PutsMean scope object no_puts number = Unit {0}
  PutsMean scope object (more_puts one others) number = PutMeans scope object one number × PutsMean scope object others (put_written stage object one number).next

  -- the declaration of an object in scope is reached
  pub record IsDeclared (scope : List ℕ) (object : ℕ) (puts : Option CPuts) : Type 0 where
    pub one : CObject
    pub object_is : object_with object a.s.program.objects ≡ Some one
    pub among : Contains (scope ++ a.one.params) object
    pub typed : IfSome puts (ArePuts (home_in a.s a.one (scope ++ a.one.params)) one.type)

  -- it is made anew with no bit set, and nothing is written for that
  pub record NothingLeft (scope : List ℕ) (object : ℕ) (puts : Option CPuts) : Type 0 where
    pub declared : IsDeclared scope object puts
    pub no_bits : a.of.names.has_bits ≡ false
    pub leaves : leaves_bits a.of object puts ≡ false
    pub type_is : a.of.type_of_object object ≡ declared.one.type

  -- or it becomes zero
  pub record IsZeroed (scope : List ℕ) (object : ℕ) (puts : Option CPuts) : Type 0 where
    pub declared : IsDeclared scope object puts
    pub zero : ZeroMeans a.s a.names a.of object
    pub written : (a.of.names.has_bits || leaves_bits a.of object puts) ≡ true

  abbrev pub ClearMeans : List ℕ → ℕ → Option CPuts → Type 0
  ClearMeans scope object puts = NothingLeft scope object puts ⊎ IsZeroed scope object puts

  abbrev mutual
    pub StmtMeans : (scope : List ℕ) → (number : ℕ) → CStmt → Type 0
    StmtMeans scope number (stmt place objects form) = ObjectsMean [] objects scope × FormMeans (objects ++ scope) number form

    pub FormMeans : List ℕ → ℕ → CStmtForm → Type 0
    FormMeans scope number (label name body) = StmtMeans scope number body
    FormMeans scope number (case value body) = StmtMeans scope number body
    FormMeans scope number (default body) = StmtMeans scope number body
    FormMeans scope number (block stmts) = StmtsMean scope number stmts
    FormMeans scope number (expression value) = EffectsMean scope value number
    FormMeans scope number (if_then test body otherwise) =
        OperandMeans scope test number × StmtMeans scope (number + count_in_test a.of.names test) body
        × ElseMeans scope (number + count_in_test a.of.names test + count_in_stmt a.of.names body) otherwise
    FormMeans scope number (switch value body) = OperandMeans scope value number × StmtMeans scope (number + count_in_test a.of.names value) body
    FormMeans scope number (while test body) = OperandMeans scope test number × StmtMeans scope (number + count_in_test a.of.names test) body
    FormMeans scope number (do_while body test) = StmtMeans scope number body × OperandMeans scope test (number + count_in_stmt a.of.names body)
    FormMeans scope number (for_loop first test next body) =
        StmtsMean scope number first × TestsMean scope test (number + count_in_stmts a.of.names first)
        × EffectsMean scope next (number + count_in_stmts a.of.names first + count_in_condition a.of.names test)
        × StmtMeans scope (number + count_in_stmts a.of.names first + count_in_condition a.of.names test + count_in_option a.of.names next) body
    FormMeans scope number (goto name) = Unit {0}
    FormMeans scope number continue = Unit {0}
    FormMeans scope number break = Unit {0}
    FormMeans scope number (returns None) = a.tree.result ≡ None
    FormMeans scope number (returns (Some value)) = ReturnMeans scope value number
    FormMeans scope number (begin object puts) = ClearMeans scope object puts × PutsMean scope object (static_puts_of puts) number

    pub ElseMeans : List ℕ → ℕ → COtherwise → Type 0
    ElseMeans scope number no_else = Unit {0}
    ElseMeans scope number (else_do body) = StmtMeans scope number body

    pub StmtsMean : List ℕ → ℕ → CStmts → Type 0
    StmtsMean scope number no_stmts = Unit {0}
    StmtsMean scope number (more_stmts first others) = StmtMeans scope number first × StmtsMean scope (number + count_in_stmt a.of.names first) others

-- the parts of a statement are done, wherever the function was called
abbrev pub PartsAreDone : Type 0
PartsAreDone =
    (a : Calling) (units steps : ℕ) → PartsMean a.s a.names a.of units steps → WorldsStand a.images a.c_before a.before → map (λ (slot : Slot). slot.object) a.params ≡ a.one.params →
    (s : CStmt) (scope : List ℕ) (number : ℕ) → StmtMeans a units steps scope number s → StmtDone (stage_of a units steps) scope number s

-- ---- the end of a body

-- what the function gives: nothing, or a structure or union in a place; or a scalar
pub record NoValueGiven (a : Calling) : Type 0 where
  pub result_is : a.tree.result ≡ None
  pub no_main : is_main a.one ≡ false

pub record ScalarResult (a : Calling) : Type 0 where
  pub result_is : a.tree.result ≡ Some (type_in a.of.names a.of.result_type)
  pub no_place : result_laid a.s a.one ≡ None
  pub scalars : is_scalar (type_in a.of.names a.of.result_type) ≡ true
  pub number : is_main a.one ≡ true → is_bits (type_in a.of.names a.of.result_type) ≡ true

pub record ResultMeans (a : Calling) : Type 0 where
  pub nothing : (is_void a.of.result_type || is_record a.of.result_type) ≡ true → NoValueGiven a
  pub scalar : (is_void a.of.result_type || is_record a.of.result_type) ≡ false → ScalarResult a

-- where the end of a body is reached, what is written for it is given back (6.9.1p12, 5.1.2.2.3)
abbrev pub EndsAreDone : Type 0
EndsAreDone =
    (a : Calling) (units steps : ℕ) → WorldsStand a.images a.c_before a.before → ResultMeans a → (c_world world : World) → Standing a [] c_world world →
    GivenBack (stage_of a units steps) [] (at_end_of a.of) (bottom_of a.one a.params).at_end c_world world
