use Rattle.std.proofs.Common.{map, string_bytes, refl}
use Rattle.front.specs.Job.{job_of}
use Rattle.front.proofs.SureLaws.{only_large, never_4, never_9, never_13}
use Rattle.front.proofs.top.run_surely.Goals as goal

pub returns-clause-unread : goal.returns-clause-unread
returns-clause-unread g c = λ is.
    let why = c.run.ensures.cannot_read is in
    only_large (job_of (map string_bytes c.args.words.now)) why.0 _ _ _ _ _ refl refl refl why.1

pub returns-clause-no_unwritten : goal.returns-clause-no_unwritten
returns-clause-no_unwritten g c = λ is. never_4 (map string_bytes c.args.words.now) _ _ _ _ _ _ refl refl refl refl (c.run.ensures.cannot_write is)

pub returns-clause-no_failure : goal.returns-clause-no_failure
returns-clause-no_failure g c = λ is. never_9 (job_of (map string_bytes c.args.words.now)) _ _ _ _ _ _ refl refl (c.run.ensures.host_failed is)

pub returns-clause-no_refusal : goal.returns-clause-no_refusal
returns-clause-no_refusal g c = λ is. never_13 (job_of (map string_bytes c.args.words.now)) _ _ _ _ _ _ _ refl (λ call. refl) (c.run.ensures.call_refused is)
