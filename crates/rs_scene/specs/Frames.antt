-- Lives of parameters and locals, as pieces.
use Rattle.std.specs.Prelude.{List, [], ◌∷◌, ◌++◌}
use Rattle.cr_world.specs.Held.{without_block}
use Rattle.mem_bytes.specs.Memory.{Blocks}
use Rattle.rs_mean.specs.Calls.{begin_params, begin_locals}
use Rattle.rs_mean.specs.Lookups.{LocalBlock}
use Rattle.rs_mean.specs.Values.{Typed}
use Rattle.rs_mean.specs.World.{Run, pure, seq}
use Rattle.rs_text.specs.Tree.{FunctionTree, ModuleTree}

-- the parameters and locals of a called function begin
abbrev pub frame_begins : List ModuleTree → FunctionTree → List Typed → Run (List LocalBlock)
frame_begins modules fun args =
    seq (begin_params modules fun.params args) (λ params. seq (begin_locals modules fun.locals) (λ locals. pure (params ++ locals)))

-- they end
abbrev pub without_blocks : List LocalBlock → Blocks → Blocks
without_blocks [] blocks = blocks
without_blocks (one ∷ others) blocks = without_blocks others (without_block one.block blocks)
