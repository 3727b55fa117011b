-- The programs that are translated today: straight `int` programs of one unit.
use Rattle.std.specs.Prelude.{◌≡◌, List, [], ◌∷◌, ◌++◌, Some, None, IsSome, All}
use Rattle.straight_core.specs.declared.program.Linkage.TheVariants.{External}
use Rattle.straight_core.specs.Linked.{IsLinked}
use Rattle.straight_core.specs.Trees.{CStmt, stmt, CStmtForm, block, expression, returns, CObject, CFun, CProgram}
use Rattle.straight_core.specs.Views.{stmts_of}
use Rattle.cr_base.specs.declared.refusal.Place.{Place}

-- an object of file scope with external linkage, which is defined
pub record IsPlainObject (one : CObject) : Type 0 where
  pub unit : one.unit ≡ 0
  pub linkage : one.linkage ≡ External
  pub named : IsSome one.name
  pub defined : IsSome one.puts

-- an expression statement, and a `return` with a value
abbrev pub IsExpressionForm : CStmtForm → Type 0
IsExpressionForm (expression value) = Unit {0}
IsExpressionForm (block stmts) = ⊥
IsExpressionForm (returns value) = ⊥

abbrev pub IsExpression : CStmt → Type 0
IsExpression (stmt place objects form) = IsExpressionForm form

abbrev pub GivesValueForm : CStmtForm → Type 0
GivesValueForm (returns (Some value)) = Unit {0}
GivesValueForm (returns None) = ⊥
GivesValueForm (expression value) = ⊥
GivesValueForm (block stmts) = ⊥

abbrev pub GivesValue : CStmt → Type 0
GivesValue (stmt place objects form) = GivesValueForm form

-- a body: a block of expression statements, and of a `return` with a value at its end
pub record IsStraightBody (body : CStmt) : Type 0 where
  pub place : Place
  pub firsts : List CStmt
  pub last : CStmt
  pub is : body ≡ stmt place [] (block (stmts_of (firsts ++ last ∷ [])))
  pub expressions : All IsExpression firsts
  pub gives : GivesValue last

-- a typed and linked program of one unit, number 0, whose one function is `main`, without parameters
pub record IsStraight (program : CProgram) : Type 0 where
  pub linked : IsLinked program
  pub objects : All IsPlainObject program.objects
  pub main : CFun
  pub functions : program.functions ≡ main ∷ []
  pub unit : main.unit ≡ 0
  pub body : IsStraightBody main.body
