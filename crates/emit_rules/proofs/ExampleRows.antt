-- Worked examples: many tests behind one another, of which each leaves what follows. The text is flat, however many there are.
use Rattle.std.specs.Prelude.{◌≡◌, ℕ, zero, suc, ◌+◌, List, [], ◌∷◌, ◌++◌, None, Some, codes, refl}
use Rattle.std.specs.Fmt.{digits}
use Rattle.reloop.specs.Shapes.{ShapeTree, simple, blocks, loop, ShapeTrees, no_shapes, more_shapes}
use Rattle.rs_text.specs.declared.line.Line.{Line}
use Rattle.rs_text.specs.Lines.{line, stmts_lines}
use Rattle.rs_text.specs.Tree.{no_stmts, stmts}
use Rattle.flow.specs.Flows.{go, if_test, gives, NodeTree, FlowTree}
use Rattle.emit_rules.specs.Bodies.{emitted}
use Rattle.emit_rules.proofs.Examples.{node, c, n_left, x, x_is}

-- the nodes from one number on, so many
abbrev nodes_from : (number left : ℕ) → ShapeTrees
nodes_from number zero = no_shapes
nodes_from number (suc left) = more_shapes (simple number) (nodes_from (number + 1) left)

-- lines, so many times
abbrev repeated_lines : ℕ → List Line → List Line
repeated_lines zero lines = []
repeated_lines (suc times) lines = lines ++ repeated_lines times lines

-- ---- `if (c) return x;` 40 times, then `x = 1; return x;`

abbrev returns_from : (number left : ℕ) → List NodeTree
returns_from number zero = node (stmts (x_is 1 ∷ [])) (gives (Some x)) ∷ []
returns_from number (suc left) = node no_stmts (if_test c (number + 1) (number + 2)) ∷ node no_stmts (gives (Some x)) ∷ returns_from (number + 2) left

abbrev returning : FlowTree
returning = record { nodes = returns_from 0 40; entry = 0 }

returning_reads : stmts_lines 0 (emitted returning (blocks (nodes_from 0 81)))
    ≡ repeated_lines 40 (line 0 (codes "if c != 0i32 {") ∷ line 1 (codes "return x;") ∷ line 0 (codes "}") ∷ [])
    ++ line 0 (codes "x = 1i32;") ∷ line 0 (codes "return x;") ∷ []
unfolding digits
returning_reads = refl

-- ---- `while (n) { .. x = 1; }` with `if (c) continue;` 40 times, in a function without a result

abbrev continues_from : (number left : ℕ) → List NodeTree
continues_from number zero = node (stmts (x_is 1 ∷ [])) (go 1) ∷ []
continues_from number (suc left) = node no_stmts (if_test c (number + 1) (number + 2)) ∷ node no_stmts (go 1) ∷ continues_from (number + 2) left

abbrev continuing : FlowTree
continuing = record { nodes = node no_stmts (gives None) ∷ node no_stmts (if_test n_left 2 0) ∷ continues_from 2 40; entry = 1 }

continuing_reads : stmts_lines 0 (emitted continuing (blocks (more_shapes (loop 1 (blocks (nodes_from 1 82))) (more_shapes (simple 0) no_shapes))))
    ≡ line 0 (codes "'l0: loop {") ∷ line 1 (codes "if n == 0i32 {") ∷ line 2 (codes "break 'l0;") ∷ line 1 (codes "}") ∷ []
    ++ repeated_lines 40 (line 1 (codes "if c != 0i32 {") ∷ line 2 (codes "continue 'l0;") ∷ line 1 (codes "}") ∷ [])
    ++ line 1 (codes "x = 1i32;") ∷ line 0 (codes "}") ∷ []
unfolding digits
continuing_reads = refl

-- ---- the same with `if (c) break;`, whose nodes are behind the loop in the shape

abbrev breaks_from : (number left : ℕ) → List NodeTree
breaks_from number zero = node (stmts (x_is 1 ∷ [])) (go 1) ∷ []
breaks_from number (suc left) = node no_stmts (if_test c (number + 41) (number + 1)) ∷ breaks_from (number + 1) left

abbrev all_to : ℕ → (left : ℕ) → List NodeTree
all_to number zero = []
all_to number (suc left) = node no_stmts (go number) ∷ all_to number left

abbrev breaking : FlowTree
breaking = record { nodes = node no_stmts (gives None) ∷ node no_stmts (if_test n_left 2 0) ∷ breaks_from 2 40 ++ all_to 0 40; entry = 1 }

-- members behind others
abbrev and_behind : ShapeTrees → ShapeTree → ShapeTrees
and_behind no_shapes last = more_shapes last no_shapes
and_behind (more_shapes member others) last = more_shapes member (and_behind others last)

breaking_reads : stmts_lines 0 (emitted breaking (blocks (more_shapes (loop 1 (blocks (nodes_from 1 42))) (and_behind (nodes_from 43 40) (simple 0)))))
    ≡ line 0 (codes "'l0: loop {") ∷ line 1 (codes "if n == 0i32 {") ∷ line 2 (codes "break 'l0;") ∷ line 1 (codes "}") ∷ []
    ++ repeated_lines 40 (line 1 (codes "if c != 0i32 {") ∷ line 2 (codes "break 'l0;") ∷ line 1 (codes "}") ∷ [])
    ++ line 1 (codes "x = 1i32;") ∷ line 0 (codes "}") ∷ []
unfolding digits
breaking_reads = refl
