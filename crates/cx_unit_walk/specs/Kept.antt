-- Statements behind their clauses, by what the code keeps of the scopes at which they began.
use Rattle.std.specs.Prelude.{ℕ, ℤ, Bool, List, Option, length}
use Rattle.cx_core.specs.Trees.{CTy, CExpr}
use Rattle.cx_rules.specs.Operands.{COperand}
use Rattle.cx_rules.specs.UnitWalk.{CMeant, CTested, CFor}

-- how many declarations there were where a statement began, and where the innermost scope began
pub record CTestedKept : Type 0 where
  pub count : ℕ
  pub begins : ℕ
  pub test : COperand
  pub literals : List ℕ

abbrev pub kept_tested : CTested → CTestedKept
kept_tested begun = record {
  count = length begun.before.declared;
  begins = begun.before.begins;
  test = begun.test;
  literals = begun.literals;
}

pub record CForKept : Type 0 where
  pub count : ℕ
  pub begins : ℕ
  pub first : CMeant
  pub test : Option COperand
  pub next : Option CExpr
  pub literals : List ℕ

abbrev pub kept_for : CFor → CForKept
kept_for begun = record {
  count = length begun.before.declared;
  begins = begun.before.begins;
  first = begun.first;
  test = begun.test;
  next = begun.next;
  literals = begun.literals;
}

-- the promoted type of what controls a `switch`, and the labels of the one around it
pub record CWithinKept : Type 0 where
  pub type : CTy
  pub values : List ℤ
  pub has_default : Bool
