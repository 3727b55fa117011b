use Rattle.std.proofs.Common.{◌∙◌, sym, ap}
use Rattle.cx_mean.specs.Moves.{without_objects, slots_of_site}
use Rattle.cx_mean.specs.Operands.{Frame}
use Rattle.cx_mean.specs.Paths.{CSite}
use Rattle.cx_moves.specs.Sites.{view_level, view_site}
use Rattle.cx_machine.proofs.Going.{die_innermost}
use Rattle.mem_bytes.specs.Memory.{Blocks}
use Rattle.cx_machine.proofs.steps.end_site.Goals as goal

pub loop-level-preserved : goal.loop-level-preserved
loop-level-preserved g c =
    let site = view_site c.innermost.new.site in
    let before = g.S.Store.memory c.loop-level.store in
    record {
      blocks =
          ap (λ (blocks : Blocks). without_objects (slots_of_site site) blocks) c.kill_objects.ensures.blocks
          ∙ ap (λ (slots : Frame). without_objects (slots_of_site site) (without_objects slots before)) c.as_slice.ensures
          ∙ die_innermost (view_level c.in-Some.level) site.levels site.bottom.params before
          ∙ ap (λ (one : CSite). without_objects (slots_of_site one) before) (sym c.in-Some.ensures.site)
          ∙ c.loop-level.invariant.blocks;
      limit = c.kill_objects.ensures.limit ∙ c.loop-level.invariant.limit;
    }
