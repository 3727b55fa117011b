-- The text of a body follows the body.
use Rattle.std.proofs.Common.{◌≡◌, ◌∙◌, ℕ, ◌<◌, ◌^◌, true, [], map, sym, ap, subst}
use Rattle.cr_world.specs.World.{World}
use Rattle.cx_core.specs.Trees.{CFun}
use Rattle.cx_mean.specs.Operands.{Slot, Frame as CFrame}
use Rattle.cx_mean.specs.State.{bottom_of}
use Rattle.build_flow_bodies.specs.Laws.{BodyMeans, BodiesFollow}
use Rattle.build_flow_laws.proofs.Bodies.{text_follows}
use Rattle.build_flow_laws.specs.Laws.{IsCalled, IsTold, IsFlowing}
use Rattle.build_flow_lives.specs.Standing.{Calling, Standing, stage_of}
use Rattle.build_flow_moves.specs.Parts.{StmtDone, GivenBack}
use Rattle.build_flow_nodes.specs.Parts.{BodyNames, at_end_of}
use Rattle.build_flow_parts.proofs.Bodies.{stmt_done}
use Rattle.build_flow_parts.proofs.Returns.{end_done}
use Rattle.build_flow_parts.proofs.Tells.{node_told}
use Rattle.build_flow_parts.specs.Means.{PartsMean}
use Rattle.lift_calls.specs.Frames.{FunctionNames}
use Rattle.lift_calls.specs.Programs.{Setting}
use Rattle.reloop.specs.Shapes.{ShapeTree, has_dispatch}
use Rattle.rs_text.specs.Tree.{FunctionTree}

module _ (s : Setting) (one : CFun) (tree : FunctionTree) (names : FunctionNames) (of : BodyNames) (shape : ShapeTree) (units steps : ℕ) (mean : BodyMeans s one tree names of shape units steps) where
  module _ (a : Calling) (is : IsCalled s one tree names of a) where
    parts_mean : PartsMean a.s a.names a.of units steps
    parts_mean =
        subst (λ (it : Setting). PartsMean it a.names a.of units steps) (sym is.setting_is)
        (subst (λ (it : FunctionNames). PartsMean s it a.of units steps) (sym is.names_is) (subst (λ (it : BodyNames). PartsMean s names it units steps) (sym is.of_is) mean.parts))

    params : map (λ (slot : Slot). slot.object) a.params ≡ a.one.params
    params = is.params_are ∙ ap (λ (it : CFun). it.params) (sym is.one_is)

    parts_are : StmtDone (stage_of a units steps) [] 0 one.body
    parts_are = stmt_done a units steps parts_mean is.started params one.body [] 0 (mean.body a is)

    ends_are : (c_world world : World) → Standing a [] c_world world → GivenBack (stage_of a units steps) [] (at_end_of of) (bottom_of one a.params).at_end c_world world
    ends_are c_world world here =
        subst (λ (it : BodyNames). GivenBack (stage_of a units steps) [] (at_end_of it) (bottom_of one a.params).at_end c_world world) is.of_is
        (subst (λ (it : CFun). GivenBack (stage_of a units steps) [] (at_end_of a.of) (bottom_of it a.params).at_end c_world world) is.one_is
        (end_done a units steps is.started (mean.result a is) c_world world here))

    told : has_dispatch shape ≡ true → (slots : CFrame) (node : ℕ) (c_world world : World) → node < 2 ^ 32 → Standing a slots c_world world → IsTold a slots node c_world world
    told has slots node c_world world few here =
        let it = node_told a units steps parts_mean is.started params (mean.block has a is) slots node c_world world few here in
        record { later = it.later; runs = it.runs; stands = it.stands; reads = it.reads }

  flowing : IsFlowing s one tree names of shape units steps
  flowing = record {
    apart = mean.apart;
    parts = parts_are;
    ends = ends_are;
    fits = mean.fits;
    closed = mean.closed;
    few = mean.few;
    tells = λ has a is. told a is has;
  }

pub bodies_follow : BodiesFollow
bodies_follow s one tree names of shape units steps mean = text_follows s one tree names of shape units steps (flowing s one tree names of shape units steps mean)
