-- Worked examples: graphs of flows, and runs of their machine.
use Rattle.std.specs.Prelude.{◌≡◌, ℕ, true, false, pos, [], ◌∷◌, Some, None, refl}
use Rattle.cr_runs.specs.Runs.{came, bad, out}
use Rattle.cr_world.specs.World.{World, wrong}
use Rattle.mem_bytes.specs.declared.value.Value.TheVariants.{Whole}
use Rattle.rs_mean.specs.declared.cause.Cause.TheVariants.{WrongCall}
use Rattle.rs_mean.specs.Run.{Frame}
use Rattle.rs_mean.specs.Values.{typed}
use Rattle.rs_mean.specs.World.{pure, fails, seq, takes_unit, rounds}
use Rattle.rs_text.specs.declared.integer.IntegerTy.TheVariants.{I32}
use Rattle.rs_text.specs.Tree.{Integer, Expr, Literal, Truth, no_stmts}
use Rattle.flow.specs.Flows.{CaseTree, BranchTree, go, if_test, switch, gives, NodeTree, FlowTree, graph_of}
use Rattle.flow.specs.Machine.{to_node, run_branch, run_flow}

abbrev node : BranchTree → NodeTree
node last = record { body = no_stmts; last = last }

abbrev number : ℕ → Expr
number value = Literal (pos value) I32

-- ---- graphs

-- a `while`: its test goes to its body and behind it, and the body goes round (ISO C99, 6.8.5.1)
graph_of_while : graph_of (record { nodes = node (if_test (Truth true) 1 2) ∷ node (go 0) ∷ node (gives None) ∷ []; entry = 0 }) ≡ (record { next = (1 ∷ 2 ∷ []) ∷ (0 ∷ []) ∷ [] ∷ []; entry = 0 })
graph_of_while = refl

abbrev at : ℕ → ℕ → CaseTree
at value to = record { value = pos value; to = to }

-- `case 1: case 2:` go to one statement, which is listed twice, and `case 3:` goes to another; other values go behind the `switch` (6.8.4.2)
graph_of_switch : graph_of (record { nodes = node (switch (record { on = number 2; by = I32; cases = at 1 1 ∷ at 2 1 ∷ at 3 2 ∷ []; other = 3 })) ∷ node (go 3) ∷ node (go 3) ∷ node (gives None) ∷ []; entry = 0 })
    ≡ (record { next = (1 ∷ 1 ∷ 2 ∷ 3 ∷ []) ∷ (3 ∷ []) ∷ (3 ∷ []) ∷ [] ∷ []; entry = 0 })
graph_of_switch = refl

-- ---- the machine

abbrev frame : Frame
frame = record { modules = []; locals = []; bodies = λ fun args. fails WrongCall }

-- `if (1) return 7; return 8;`, and the same with `0`
abbrev chooses : Expr → FlowTree
chooses test = record { nodes = node (if_test test 1 2) ∷ node (gives (Some (number 7))) ∷ node (gives (Some (number 8))) ∷ []; entry = 0 }

-- three units are taken: for the first node, for the one that is chosen, and for the `return`
returns_seven : (world : World) → run_flow frame (chooses (Truth true)) world 3 ≡ came (Some (typed (Integer I32) (Whole (pos 7)))) world 0
unfolding pure seq takes_unit rounds
returns_seven world = refl

returns_eight : (world : World) → run_flow frame (chooses (Truth false)) world 3 ≡ came (Some (typed (Integer I32) (Whole (pos 8)))) world 0
unfolding pure seq takes_unit rounds
returns_eight world = refl

-- with two it isn't at its end
asks_for_more : (world : World) → run_flow frame (chooses (Truth true)) world 2 ≡ out world
unfolding pure seq takes_unit rounds
asks_for_more world = refl

-- `for (;;);` asks for more units, whatever it had
goes_on : (world : World) → run_flow frame (record { nodes = node (go 0) ∷ []; entry = 0 }) world 100 ≡ out world
unfolding pure seq takes_unit rounds
goes_on world = refl

-- a `switch` goes to the first case with the value of its operand, or else to the other node
abbrev switched : ℕ → BranchTree
switched value = switch (record { on = number value; by = I32; cases = at 1 5 ∷ at 2 6 ∷ []; other = 9 })

first_case : (world : World) → run_branch frame (switched 1) world 0 ≡ came (to_node 5) world 0
unfolding pure seq takes_unit rounds
first_case world = refl

second_case : (world : World) → run_branch frame (switched 2) world 0 ≡ came (to_node 6) world 0
unfolding pure seq takes_unit rounds
second_case world = refl

no_case : (world : World) → run_branch frame (switched 3) world 0 ≡ came (to_node 9) world 0
unfolding pure seq takes_unit rounds
no_case world = refl

-- a node that isn't there has no meaning
nowhere : (world : World) → run_flow frame (record { nodes = []; entry = 0 }) world 1 ≡ bad (wrong WrongCall) world
unfolding fails pure seq takes_unit rounds
nowhere world = refl
