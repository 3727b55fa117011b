use Rattle.rs_tree.specs.Views.{crate_view}
use Rattle.rs_parse.proofs.ModuleFiles.{read_on}
use Rattle.rs_parse.proofs.crates.read_modules.Goals as goal

pub loop-index-preserved : goal.loop-index-preserved
loop-index-preserved c =
    read_on c.args.files.now (crate_view c.args.outline.now) c.loop-index.index c.loop-index.modules c.push.new.self c.in-Ok.module c.read_module.result c.loop-index.invariant
    c.read_module.ensures c.in-Ok.is c.in_ok-push-in-Ok.ensures.ok
