use Rattle.rs_tree.specs.Views.{crate_view}
use Rattle.rs_parse.proofs.ModuleFiles.{AreRead}
use Rattle.rs_parse.proofs.crates.read_modules.Given as goal

abbrev pub invariant-loop-index : goal.invariant-loop-index
invariant-loop-index l = AreRead l.files (crate_view l.outline) l.index l.modules
