use Rattle.std.proofs.Common.{map}
use Rattle.rs_mean.specs.Laws.{bodies_of}
use Rattle.rs_tree.specs.Views.{module_view}
use Rattle.rs_exec.proofs.Started.{no_entry}
use Rattle.rs_exec.proofs.program.entry.Goals as goal

pub returns-in-None : goal.returns-in-None
returns-in-None g c = no_entry (bodies_of (map module_view c.args.scene.modules.now)) c.args.unit _ c.in-None.is
