use Rattle.rust_job.proofs.Ending.{may_end}
use Rattle.rust_job.proofs.run.run_files.Goals as goal

pub returns-clause-right : goal.returns-clause-right
returns-clause-right g c =
    may_end c.args.files.now.list c.args.units _ _ c.in_ok-run_whole.field-0
    (record { whole = _; read = c.in_ok-whole.ensures.read; typed = c.in_ok-checked.ensures.typed; run = c.in_ok-run_whole.ensures.run })
    c.in_ok-run_whole.ensures.right
