-- What initialisers do, from the names with which they are written.
use Rattle.std.specs.Prelude.{ℕ, ◌==◌, if◌then◌else◌, List, [], ◌∷◌, flat_map, Option, Some, None}
use Rattle.build_flow_code.specs.Parts.{ContentsFit}
use Rattle.cx_core.specs.Trees.{CPuts, CObject}
use Rattle.lift_exprs.specs.Lifted.{lifted_puts}
use Rattle.lift_exprs.specs.Names.{Names}
use Rattle.lift_exprs.specs.Objects.{object_at}
use Rattle.rs_text.specs.Tree.{Stmt}

abbrev pub stored_in : Names → CObject → Option CPuts → List Stmt
stored_in names one None = []
stored_in names one (Some puts) = if one.is_text then [] else (lifted_puts names one.type (object_at names one.type one.object) puts 0).body

abbrev pub contents_in : Names → CObject → List Stmt
contents_in names one = stored_in names one one.puts

abbrev pub unit_contents : Names → (unit : ℕ) → CObject → List Stmt
unit_contents names unit one = if one.unit == unit then contents_in names one else []

abbrev pub initialiser_in : Names → (unit : ℕ) → List CObject → List Stmt
initialiser_in names unit objects = flat_map (unit_contents names unit) objects

-- each bit-field that the values of an object name is one of the profile
abbrev pub ObjectFits : CObject → Type 0
ObjectFits one = ContentsFit one.puts

abbrev pub AllFit : List CObject → Type 0
AllFit [] = Unit {0}
AllFit (one ∷ others) = ObjectFits one × AllFit others
