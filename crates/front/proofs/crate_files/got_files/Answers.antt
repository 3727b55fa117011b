use Rattle.front.proofs.CrateFileLaws.{got_next}
use Rattle.front.proofs.crate_files.got_files.Goals as goal

pub loop-path-preserved : goal.loop-path-preserved
loop-path-preserved g c =
    got_next c.args.directory.now c.args.paths.now c.loop-path.files c.push.new.self c.loop-path.path-index c.path-item.result _ c.in_ok-got_file.field-0 _ _ _ c.loop-path-test.true c.path-item.is
    c.loop-path.invariant c.in_ok-got_file.ensures c.in_ok-push.ensures.ok
