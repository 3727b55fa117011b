-- Numbers of places, as they are kept with an index.
use Rattle.std.specs.Prelude.{◌≡◌, ℕ, suc, if◌then◌else◌, List, [], ◌∷◌, ◌++◌, length, Option, Some, None, unwrap_or, bytes_eq}
use Rattle.std.specs.Global.{Vec}
use Rattle.build_flow_linear.specs.Linear.{Instr, marks, does, leaves}
use Rattle.build_flow_nodes.specs.Points.{FlowPlace, at_part, on_edge, same_place}
use Rattle.build_flow_reached.specs.declared.index.PlaceIndex.{PlaceIndex}
use Rattle.cx_mean.specs.BodyGraph.{CPath, at_statement, at_test, at_third, at_end}
use Rattle.indexmap.specs.IndexMap.{IndexMap, get_by}

-- ---- keys

abbrev pub edge_key : (choice target : CPath) → List ℕ
edge_key choice target = 4 ∷ length choice ∷ (choice ++ target)

-- what a place is found by: its kind, and then the paths of its statements
abbrev pub key_of : FlowPlace → List ℕ
key_of (at_part (at_statement path)) = 0 ∷ path
key_of (at_part (at_test path)) = 1 ∷ path
key_of (at_part (at_third path)) = 2 ∷ path
key_of (at_part at_end) = 3 ∷ []
key_of (on_edge choice target) = edge_key choice target

-- ---- numbers

-- what an index holds of a place
abbrev pub held_in : {S : Type 0} → IndexMap (Vec ℕ) ℕ S → FlowPlace → Option ℕ
held_in numbers place = get_by (λ key. bytes_eq (key_of place) key.items) numbers

-- the number of a place, or how many there are
abbrev pub number_in : PlaceIndex → FlowPlace → ℕ
number_in index place = unwrap_or (held_in index.numbers place) index.count

-- the number of the first mark of a place, where the marks are numbered from one on
abbrev pub number_from : ℕ → FlowPlace → List Instr → Option ℕ
number_from number place [] = None
number_from number place (marks one ∷ others) = if same_place place one then Some number else number_from (suc number) place others
number_from number place (does body ∷ others) = number_from number place others
number_from number place (leaves branch ∷ others) = number_from number place others

abbrev pub count_from : ℕ → List Instr → ℕ
count_from number [] = number
count_from number (marks one ∷ others) = count_from (suc number) others
count_from number (does body ∷ others) = count_from number others
count_from number (leaves branch ∷ others) = count_from number others

abbrev pub or_else : Option ℕ → Option ℕ → Option ℕ
or_else (Some number) other = Some number
or_else None other = other

-- a place has a number, unless it had one
abbrev pub IsHeld : {S : Type 0} → (before after : IndexMap (Vec ℕ) ℕ S) → (number : ℕ) → FlowPlace → Type 0
IsHeld before after number place = (other : FlowPlace) → held_in after other ≡ or_else (held_in before other) (if same_place other place then Some number else None)

-- a place has the next number, unless it had one
pub record IsNoted (before after : PlaceIndex) (place : FlowPlace) : Type 0 where
  pub held : IsHeld before.numbers after.numbers before.count place
  pub count : after.count ≡ suc before.count

-- each place of linear code has the number of its first mark
pub record IsNumbered (index : PlaceIndex) (code : List Instr) : Type 0 where
  pub held : (place : FlowPlace) → held_in index.numbers place ≡ number_from 0 place code
  pub count : index.count ≡ count_from 0 code
