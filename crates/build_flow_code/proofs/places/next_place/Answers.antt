use Rattle.std.proofs.Common.{◌≡◌, ◌∙◌, ◌∷◌, ap, sym, subst, IfOk, ℕ}
use Rattle.build_flow_code.proofs.Firsts.{first_there}
use Rattle.build_flow_code.proofs.places.next_place.Goals as goal
use Rattle.build_flow_instrs.specs.Views.{place_view}
use Rattle.build_flow_nodes.specs.Builder.{statement_at}
use Rattle.build_flow_nodes.specs.Points.{FlowPlace}

-- src/places.rt:1:1
pub returns-in_ok-number : goal.returns-in_ok-number
returns-in_ok-number c =
    subst (λ (there : FlowPlace). IfOk c.part_place.result (λ made. place_view made ≡ there))
    (ap (λ (number : ℕ). statement_at (number ∷ c.args.path.now)) c.in_ok-number.ensures
    ∙ sym (first_there c.args.stmts.now c.args.index c.args.index c.args.path.now (place_view c.args.place.now) c.if-index-stmts.true)) c.part_place.ensures
