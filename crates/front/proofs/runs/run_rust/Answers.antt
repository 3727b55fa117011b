use Rattle.front.specs.Outcome.{ending_of}
use Rattle.front.proofs.JobLaws.{got_leaves}
use Rattle.front.proofs.runs.run_rust.Goals as goal

pub returns-in-Ok : goal.returns-in-Ok
returns-in-Ok g c =
    got_leaves c.args.directory.now c.in-Ok.list c.args.steps (ending_of c.run_got.result) _ _ _ _ c.in-Ok.ensures c.run_got.ensures
