use Rattle.std.proofs.Common.{map, string_bytes, sym, ◌∙◌}
use Rattle.clap.specs.Simple.{app_of}
use Rattle.jobs.proofs.JobLaws.{taken_job, untaken_job}
use Rattle.jobs.proofs.read.read_job.Goals as goal

pub returns-in-Ok-clause-read : goal.returns-in-Ok-clause-read
returns-in-Ok-clause-read c =
    taken_job (app_of c.in_ok-command.field-0) (map string_bytes c.args.words.now) c.in-Ok.matches c.job_in.result c.in_ok-command.ensures
    (sym c.has_end.ensures ∙ c.if-has_end.false) c.in-Ok.ensures.kinds c.in-Ok.ensures.matches c.job_in.ensures.read

pub returns-in-Err-clause-read : goal.returns-in-Err-clause-read
returns-in-Err-clause-read c =
    untaken_job (app_of c.in_ok-command.field-0) (map string_bytes c.args.words.now) c.in-Err.error c.untaken.result c.in_ok-command.ensures
    c.in-Err.ensures.kinds c.untaken.ensures
