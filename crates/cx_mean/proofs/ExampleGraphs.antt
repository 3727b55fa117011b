-- Worked graphs of bodies, plain functions, and expressions that call nothing.
use Rattle.std.proofs.Common.{◌≡◌, pos, true, false, Bool, List, [], ◌∷◌, Some, None, codes, refl}
use Rattle.cx_core.specs.declared.expr.Op2.TheVariants.{Add}
use Rattle.cx_core.specs.Trees.{CStmt, label, case, default, switch, while, do_while, for_loop, goto, continue, break}
use Rattle.cx_mean.proofs.Programs.{n, var, val, set, two, post_up, both_true, calls, run, skip, give, when, does, stmts, in_block, main_fun, conv, void_t}
use Rattle.cx_mean.specs.BodyGraph.{CNode, at_statement, at_test, at_third, at_end, CEdge, body_graph, is_plain}
use Rattle.cx_mean.specs.Quiet.{calls_nothing}

to : CNode → CNode → CEdge
to from next = record { from = from; to = next }

-- `{ while (x) y; return 0; }`
loop_edges : (body_graph (in_block [] (does (while (val 1) (run (val 2))) ∷ give (n 0) ∷ []))).edges
    ≡ to (at_statement []) (at_statement (0 ∷ [])) ∷ to (at_statement (0 ∷ [])) (at_test (0 ∷ []))
    ∷ to (at_test (0 ∷ [])) (at_statement (0 ∷ 0 ∷ [])) ∷ to (at_test (0 ∷ [])) (at_statement (1 ∷ []))
    ∷ to (at_statement (0 ∷ 0 ∷ [])) (at_test (0 ∷ [])) ∷ to (at_statement (1 ∷ [])) at_end ∷ []
unfolding to
loop_edges = refl

loop_nodes : (body_graph (in_block [] (does (while (val 1) (run (val 2))) ∷ give (n 0) ∷ []))).nodes
    ≡ at_statement [] ∷ at_statement (0 ∷ []) ∷ at_test (0 ∷ []) ∷ at_statement (0 ∷ 0 ∷ []) ∷ at_statement (1 ∷ []) ∷ at_end ∷ []
loop_nodes = refl

-- `{ for (;; y) { if (x) continue; break; } }`: the missing condition has the body alone
for_edges : (body_graph (in_block [] (does (for_loop (stmts []) None (Some (conv void_t (val 2)))
    (in_block [] (when (val 1) (does continue) ∷ does break ∷ []))) ∷ []))).edges
    ≡ to (at_statement []) (at_statement (0 ∷ [])) ∷ to (at_statement (0 ∷ [])) (at_test (0 ∷ []))
    ∷ to (at_test (0 ∷ [])) (at_statement (0 ∷ 0 ∷ [])) ∷ to (at_third (0 ∷ [])) (at_test (0 ∷ []))
    ∷ to (at_statement (0 ∷ 0 ∷ [])) (at_statement (0 ∷ 0 ∷ 0 ∷ []))
    ∷ to (at_statement (0 ∷ 0 ∷ 0 ∷ [])) (at_test (0 ∷ 0 ∷ 0 ∷ []))
    ∷ to (at_test (0 ∷ 0 ∷ 0 ∷ [])) (at_statement (0 ∷ 0 ∷ 0 ∷ 0 ∷ [])) ∷ to (at_test (0 ∷ 0 ∷ 0 ∷ [])) (at_statement (1 ∷ 0 ∷ 0 ∷ []))
    ∷ to (at_statement (0 ∷ 0 ∷ 0 ∷ 0 ∷ [])) (at_third (0 ∷ []))
    ∷ to (at_statement (1 ∷ 0 ∷ 0 ∷ [])) at_end ∷ []
unfolding to
for_edges = refl

-- `{ switch (x) { case 1: ; a: ; } goto a; }`: without `default` what follows, too
switch_edges : (body_graph (in_block [] (does (switch (val 1) (in_block [] (does (case (pos 1) skip) ∷ does (label (codes "a") skip) ∷ [])))
    ∷ does (goto (codes "a")) ∷ []))).edges
    ≡ to (at_statement []) (at_statement (0 ∷ [])) ∷ to (at_statement (0 ∷ [])) (at_test (0 ∷ []))
    ∷ to (at_test (0 ∷ [])) (at_statement (0 ∷ 0 ∷ 0 ∷ [])) ∷ to (at_test (0 ∷ [])) (at_statement (1 ∷ []))
    ∷ to (at_statement (0 ∷ 0 ∷ [])) (at_statement (0 ∷ 0 ∷ 0 ∷ []))
    ∷ to (at_statement (0 ∷ 0 ∷ 0 ∷ [])) (at_statement (0 ∷ 0 ∷ 0 ∷ 0 ∷ [])) ∷ to (at_statement (0 ∷ 0 ∷ 0 ∷ 0 ∷ [])) (at_statement (1 ∷ 0 ∷ 0 ∷ []))
    ∷ to (at_statement (1 ∷ 0 ∷ 0 ∷ [])) (at_statement (0 ∷ 1 ∷ 0 ∷ 0 ∷ [])) ∷ to (at_statement (0 ∷ 1 ∷ 0 ∷ 0 ∷ [])) (at_statement (1 ∷ []))
    ∷ to (at_statement (1 ∷ [])) (at_statement (1 ∷ 0 ∷ 0 ∷ [])) ∷ []
unfolding to
switch_edges = refl

-- ---- plain functions

plain : List CStmt → Bool
plain list = is_plain (main_fun [] list)

structured : plain (does (while (n 1) (does (switch (n 1) (does (case (pos 1) (does (do_while (does break) (n 1)))))))) ∷ []) ≡ true
unfolding plain
structured = refl

with_goto : plain (does (label (codes "a") (does (goto (codes "a")))) ∷ []) ≡ false
unfolding plain
with_goto = refl

with_case_in_loop : plain (does (switch (n 1) (does (while (n 1) (does (case (pos 1) skip))))) ∷ []) ≡ false
unfolding plain
with_case_in_loop = refl

-- in the first part of a `for`, too
with_goto_in_first_part : plain (does (label (codes "a") (does (for_loop (stmts (does (goto (codes "a")) ∷ [])) None None (does break)))) ∷ []) ≡ false
unfolding plain
with_goto_in_first_part = refl

with_default_in_loop : plain (does (switch (n 1) (does (for_loop (stmts []) None None (does (default skip))))) ∷ []) ≡ false
unfolding plain
with_default_in_loop = refl

-- ---- expressions that call nothing

quiet : calls_nothing (both_true (set (var 1) (two Add (val 2) (n 1))) (post_up (var 1))) ≡ true
quiet = refl

not_quiet : calls_nothing (both_true (n 1) (two Add (calls 1 []) (n 1))) ≡ false
not_quiet = refl
