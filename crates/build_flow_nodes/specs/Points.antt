-- Where control may stand in a body, and what is done from there on (ISO C99, 6.8): statements of Rust, and a branch to other places.
use Rattle.std.specs.Prelude.{ℤ, ◌==◌, ◌&&◌, Bool, true, false, if◌then◌else◌, List, [], ◌∷◌, ◌++◌, Option, Some, None}
use Rattle.cx_mean.specs.BodyGraph.{CNode, CPath, at_statement, at_test, at_third, at_end}
use Rattle.rs_text.specs.Tree.{Expr, Stmt}
use Rattle.rs_text.specs.declared.integer.IntegerTy.{IntegerTy}

-- ---- places

pub data FlowPlace : Type 0 where
  -- a part of the body: at a statement that is what it does from its begin on
  at_part : CNode → FlowPlace
  -- the way from a `switch` to a label behind which objects begin
  on_edge : (choice target : CPath) → FlowPlace

abbrev pub same_path : CPath → CPath → Bool
same_path [] [] = true
same_path (one ∷ others) (first ∷ rest) = one == first && same_path others rest
same_path [] (first ∷ rest) = false
same_path (one ∷ others) [] = false

abbrev pub same_node : CNode → CNode → Bool
same_node (at_statement one) (at_statement other) = same_path one other
same_node (at_test one) (at_test other) = same_path one other
same_node (at_third one) (at_third other) = same_path one other
same_node at_end at_end = true
same_node _ _ = false

abbrev pub same_place : FlowPlace → FlowPlace → Bool
same_place (at_part one) (at_part other) = same_node one other
same_place (on_edge one to) (on_edge other target) = same_path one other && same_path to target
same_place _ _ = false

-- ---- branches

pub record PlacedCase : Type 0 where
  pub value : ℤ
  pub to : FlowPlace

pub record PlacedSwitch : Type 0 where
  pub on : Expr
  -- the integer type of the operand
  pub by : IntegerTy
  pub cases : List PlacedCase
  pub other : FlowPlace

-- how control goes on
pub data PlacedBranch : Type 0 where
  goes : FlowPlace → PlacedBranch
  tests : Expr → (if_true if_false : FlowPlace) → PlacedBranch
  chooses : PlacedSwitch → PlacedBranch
  returns : Option Expr → PlacedBranch

-- what is done from a place on
pub record Point : Type 0 where
  pub body : List Stmt
  pub last : PlacedBranch

-- control goes to a place
abbrev pub jump : FlowPlace → Point
jump to = record { body = []; last = goes to }

-- statements in front
abbrev pub behind : List Stmt → Point → Point
behind body point = record point { body = body ++ point.body }

-- ---- points at places

pub record Placed : Type 0 where
  pub place : FlowPlace
  pub point : Point

abbrev pub placed : FlowPlace → Point → Placed
placed place point = record { place = place; point = point }

-- what stands at a place
abbrev pub point_at : FlowPlace → List Placed → Option Point
point_at place [] = None
point_at place (one ∷ others) = if same_place place one.place then Some one.point else point_at place others
