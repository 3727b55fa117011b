use Rattle.std.proofs.Common.{◌∙◌, List, ap, map, subst}
use Rattle.build_flow_instrs.specs.Views.{instr_view}
use Rattle.build_flow_instrs.specs.declared.instrs.Instr.{Instr}
use Rattle.build_flow_reached.proofs.Whole.{flow_made}
use Rattle.build_flow_reached.specs.Index.{IsNumbered}
use Rattle.build_flow_reached.specs.Numbers.{counted_from, numbers_from}
use Rattle.build_flow_reached.specs.Reached.{reached_by}
use Rattle.flow.specs.Views.{node_view}
use Rattle.build_flow_reached.proofs.code.flow_of_code.Goals as goal

pub returns : goal.returns
returns c =
    flow_made c.in_ok-index.index c.in_ok-numbers.numbers (map instr_view c.args.code) c.requires
    (subst (λ (code : List Instr). IsNumbered c.in_ok-index.index (map instr_view code)) c.as_slice.ensures c.in_ok-index.ensures)
    (c.in_ok-numbers.ensures.numbers ∙ ap (λ (code : List Instr). numbers_from 0 (reached_by c.in_ok-index.index (map instr_view code))) c.as_slice-2.ensures)
    (c.in_ok-numbers.ensures.count ∙ ap (λ (code : List Instr). counted_from 0 (reached_by c.in_ok-index.index (map instr_view code))) c.as_slice-2.ensures)
    (map node_view c.in_ok-nodes.nodes) c.in_ok-nodes.ensures
