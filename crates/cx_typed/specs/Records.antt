-- Sound types of a unit stay sound where a structure or union is declared (ISO C99, 6.7.2.1, 6.7.2.3).
use Rattle.std.specs.Prelude.{ℕ, Bool, List, Option, All}
use Rattle.cx_core.specs.Trees.{CRecord, CTypes}
use Rattle.cx_core.specs.ValidTypes.{IsRecordIn}
use Rattle.cx_rules.specs.Scope.{CScope, with_record}
use Rattle.cx_typed.specs.Growth.{IsSettled, Grows}
use Rattle.cx_typed.specs.Sound.{AreSound}

-- a completed record that C allows stays one
abbrev pub GrowthKeepsRecords : Type 0
GrowthKeepsRecords = (opens : List ℕ) (before after : CTypes) (unit number : ℕ) (one : CRecord) → Grows opens before after → All (λ member. IsSettled opens member.type) one.members
    → IsRecordIn before number unit one → IsRecordIn after number unit one

-- one more structure or union that isn't completed
pub record IsOneMore (opens : List ℕ) (before after : CScope) : Type 0 where
  pub grows : Grows opens before.types after.types
  pub sound : AreSound opens after.types after.unit

pub record RecordsStaySound : Type 0 where
  pub kept : GrowthKeepsRecords
  pub declared : (opens : List ℕ) (scope : CScope) (name : Option (List ℕ)) (is_union : Bool) → AreSound opens scope.types scope.unit
      → IsOneMore opens scope (with_record name is_union scope)
