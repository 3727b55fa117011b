use Rattle.std.proofs.Common.{◌≡◌, ◌<◌, ◌≤◌, Bool, true, false, List, length, sym, subst, ap, ◌∙◌, arith}
use Rattle.std.proofs.lemmas.Bool.{true≢false}
use Rattle.std.proofs.lemmas.List.{length-replicate}
use Rattle.std.specs.Prelude.{replicate}
use Rattle.reloop.proofs.Checking.{flow_entry, flow_ends, marked_flow, flow_marked}
use Rattle.reloop.specs.Checks.{all_below, all_marked}
use Rattle.reloop.specs.Searches.{ends_of, held, rows_graph, IsFound}
use Rattle.reloop.specs.declared.graph.Row.{Row}
use Rattle.reloop.proofs.flow.is_flow.Goals as goal

pub returns-clause-flow : goal.returns-clause-flow
returns-clause-flow c is_true =
    let graph = c.args.graph.now in
    let found = c.in_ok-found.found in
    let ensured = c.in_ok-found.ensures in
    let next = c.as_slice-next.ensures in
    let entry : graph.entry < length graph.next = subst (λ (rows : List Row). graph.entry < length rows) next c.if-graph-next.false in
    let ends : all_below (length graph.next) (ends_of graph.next) ≡ true =
    ap (λ (rows : List Row). all_below (length rows) (ends_of rows)) (sym next) ∙ sym c.end_at_nodes.ensures ∙ c.if-not-end_at_nodes.false in
    let all_are : c.as_slice.result.now ≡ replicate (length graph.next) true =
    c.as_slice.ensures ∙ c.in_ok-all.ensures ∙ ap (λ (rows : List Row). replicate (length rows) true) next in
    let is : IsFound (rows_graph graph.next) (held (replicate (length graph.next) true)) graph.entry (held found.marks) found.order =
    subst (λ (marks : List Bool). IsFound (rows_graph graph.next) (held marks) graph.entry (held found.marks) found.order) all_are
    (subst (λ (rows : List Row). IsFound (rows_graph rows) (held c.as_slice.result.now) graph.entry (held found.marks) found.order) next ensured.found) in
    let long : length found.marks ≡ length graph.next = ensured.long ∙ ap length all_are ∙ length-replicate (length graph.next) true in
    let marked : c.are_marked.result ≡ all_marked found.marks = c.are_marked.ensures ∙ ap all_marked c.as_slice-2.ensures in
    marked_flow graph entry ends found.marks found.order is long (sym marked ∙ is_true)

pub returns-clause-only : goal.returns-clause-only
returns-clause-only c flow =
    let graph = c.args.graph.now in
    let found = c.in_ok-found.found in
    let ensured = c.in_ok-found.ensures in
    let next = c.as_slice-next.ensures in
    let entry : graph.entry < length graph.next = subst (λ (rows : List Row). graph.entry < length rows) next c.if-graph-next.false in
    let ends : all_below (length graph.next) (ends_of graph.next) ≡ true =
    ap (λ (rows : List Row). all_below (length rows) (ends_of rows)) (sym next) ∙ sym c.end_at_nodes.ensures ∙ c.if-not-end_at_nodes.false in
    let all_are : c.as_slice.result.now ≡ replicate (length graph.next) true =
    c.as_slice.ensures ∙ c.in_ok-all.ensures ∙ ap (λ (rows : List Row). replicate (length rows) true) next in
    let is : IsFound (rows_graph graph.next) (held (replicate (length graph.next) true)) graph.entry (held found.marks) found.order =
    subst (λ (marks : List Bool). IsFound (rows_graph graph.next) (held marks) graph.entry (held found.marks) found.order) all_are
    (subst (λ (rows : List Row). IsFound (rows_graph rows) (held c.as_slice.result.now) graph.entry (held found.marks) found.order) next ensured.found) in
    let long : length found.marks ≡ length graph.next = ensured.long ∙ ap length all_are ∙ length-replicate (length graph.next) true in
    let marked : c.are_marked.result ≡ all_marked found.marks = c.are_marked.ensures ∙ ap all_marked c.as_slice-2.ensures in
    marked ∙ flow_marked graph entry ends found.marks found.order is long flow

pub returns-then-graph-next-clause-only : goal.returns-then-graph-next-clause-only
returns-then-graph-next-clause-only c flow =
    let graph = c.args.graph.now in
    let below = flow_entry graph flow in
    let past : length graph.next ≤ graph.entry = subst (λ (rows : List Row). length rows ≤ graph.entry) c.as_slice-next.ensures c.if-graph-next.true in
    absurd (omega (arith, below, past))

pub returns-then-not-end_at_nodes-clause-only : goal.returns-then-not-end_at_nodes-clause-only
returns-then-not-end_at_nodes-clause-only c flow =
    let graph = c.args.graph.now in
    let next = c.as_slice-next.ensures in
    let none : all_below (length graph.next) (ends_of graph.next) ≡ false =
    ap (λ (rows : List Row). all_below (length rows) (ends_of rows)) (sym next) ∙ sym c.end_at_nodes.ensures ∙ c.if-not-end_at_nodes.true in
    absurd (true≢false (sym (flow_ends graph flow) ∙ none))
