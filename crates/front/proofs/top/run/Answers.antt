-- Each clause follows from how the job ended and how that was told.
use Rattle.std.proofs.Common.{map, string_bytes}
use Rattle.front.specs.Job.{job_of}
use Rattle.front.specs.Outcome.{ending_of}
use Rattle.front.proofs.EndLaws.{when_5, when_6, when_7, never_8, when_9, when_10, when_11, when_13}
use Rattle.front.proofs.RunLaws.{none_failed, statuses, when_0, when_0_run, when_1, when_2, when_3, when_4}
use Rattle.front.proofs.StayLaws.{keeps_others, uncalled}
use Rattle.front.proofs.WhenLaws.{no_job_told, when_too_many, when_broken, when_missing, when_no_crate, when_comes, when_sound}
use Rattle.front.proofs.top.run.Goals as goal

pub returns-clause-statuses : goal.returns-clause-statuses
returns-clause-statuses g c = statuses (ending_of c.outcome_of-outcome.result) _ _ c.tell.result c.tell.ensures.told

pub returns-clause-translated : goal.returns-clause-translated
returns-clause-translated g c = λ runs is. when_0 (job_of (map string_bytes c.args.words.now)) (ending_of c.outcome_of-outcome.result) _ _ _ _ _ _ c.tell.result c.outcome_of-outcome.ensures c.tell.ensures.told runs is

pub returns-clause-ended : goal.returns-clause-ended
returns-clause-ended g c = λ runs is. when_0_run (job_of (map string_bytes c.args.words.now)) (ending_of c.outcome_of-outcome.result) _ _ _ _ _ _ c.tell.result c.outcome_of-outcome.ensures c.tell.ensures.told runs is

pub returns-clause-refused_units : goal.returns-clause-refused_units
returns-clause-refused_units g c = when_1 (job_of (map string_bytes c.args.words.now)) (ending_of c.outcome_of-outcome.result) _ _ _ _ _ _ c.tell.result c.outcome_of-outcome.ensures c.tell.ensures.told

pub returns-clause-refused_words : goal.returns-clause-refused_words
returns-clause-refused_words g c = when_2 (job_of (map string_bytes c.args.words.now)) (ending_of c.outcome_of-outcome.result) _ _ _ _ _ _ c.tell.result c.outcome_of-outcome.ensures c.tell.ensures.told

pub returns-clause-cannot_read : goal.returns-clause-cannot_read
returns-clause-cannot_read g c = when_3 (job_of (map string_bytes c.args.words.now)) (ending_of c.outcome_of-outcome.result) _ _ _ _ _ _ c.tell.result c.outcome_of-outcome.ensures c.tell.ensures.told

pub returns-clause-cannot_write : goal.returns-clause-cannot_write
returns-clause-cannot_write g c = when_4 (job_of (map string_bytes c.args.words.now)) (ending_of c.outcome_of-outcome.result) _ _ _ _ _ _ c.tell.result c.outcome_of-outcome.ensures c.tell.ensures.told

pub returns-clause-undefined : goal.returns-clause-undefined
returns-clause-undefined g c = when_5 (job_of (map string_bytes c.args.words.now)) (ending_of c.outcome_of-outcome.result) _ _ _ _ _ _ c.tell.result c.outcome_of-outcome.ensures c.tell.ensures.told

pub returns-clause-wrong : goal.returns-clause-wrong
returns-clause-wrong g c = when_6 (job_of (map string_bytes c.args.words.now)) (ending_of c.outcome_of-outcome.result) _ _ _ _ _ _ c.tell.result c.outcome_of-outcome.ensures c.tell.ensures.told

pub returns-clause-steps_used : goal.returns-clause-steps_used
returns-clause-steps_used g c = when_7 (job_of (map string_bytes c.args.words.now)) (ending_of c.outcome_of-outcome.result) _ _ _ _ _ _ c.tell.result c.outcome_of-outcome.ensures c.tell.ensures.told

pub returns-clause-room : goal.returns-clause-room
returns-clause-room g c = never_8 (job_of (map string_bytes c.args.words.now)) (ending_of c.outcome_of-outcome.result) _ _ _ _ _ _ c.tell.result c.outcome_of-outcome.ensures c.tell.ensures.told

pub returns-clause-host_failed : goal.returns-clause-host_failed
returns-clause-host_failed g c = when_9 (job_of (map string_bytes c.args.words.now)) (ending_of c.outcome_of-outcome.result) _ _ _ _ _ _ c.tell.result c.outcome_of-outcome.ensures c.tell.ensures.told

pub returns-clause-out_of_memory : goal.returns-clause-out_of_memory
returns-clause-out_of_memory g c = λ is. ((ending_of c.outcome_of-outcome.result, c.outcome_of-outcome.ensures), when_10 (ending_of c.outcome_of-outcome.result) _ _ c.tell.result c.tell.ensures.told is)

pub returns-clause-not_crate : goal.returns-clause-not_crate
returns-clause-not_crate g c = when_11 (job_of (map string_bytes c.args.words.now)) (ending_of c.outcome_of-outcome.result) _ _ _ _ _ _ c.tell.result c.outcome_of-outcome.ensures c.tell.ensures.told

pub returns-clause-call_refused : goal.returns-clause-call_refused
returns-clause-call_refused g c = when_13 (job_of (map string_bytes c.args.words.now)) (ending_of c.outcome_of-outcome.result) _ _ _ _ _ _ c.tell.result c.outcome_of-outcome.ensures c.tell.ensures.told

pub returns-clause-no_job : goal.returns-clause-no_job
returns-clause-no_job g c = no_job_told (job_of (map string_bytes c.args.words.now)) (ending_of c.outcome_of-outcome.result) _ _ _ _ _ _ c.tell.result c.outcome_of-outcome.ensures c.tell.ensures.told

pub returns-clause-too_many : goal.returns-clause-too_many
returns-clause-too_many g c = when_too_many (job_of (map string_bytes c.args.words.now)) (ending_of c.outcome_of-outcome.result) _ _ _ _ _ _ c.tell.result c.outcome_of-outcome.ensures c.tell.ensures.told

pub returns-clause-broken : goal.returns-clause-broken
returns-clause-broken g c = when_broken (job_of (map string_bytes c.args.words.now)) (ending_of c.outcome_of-outcome.result) _ _ _ _ _ _ c.tell.result c.outcome_of-outcome.ensures c.tell.ensures.told

pub returns-clause-missing : goal.returns-clause-missing
returns-clause-missing g c = when_missing (job_of (map string_bytes c.args.words.now)) (ending_of c.outcome_of-outcome.result) _ _ _ _ _ _ c.tell.result c.outcome_of-outcome.ensures c.tell.ensures.told

pub returns-clause-no_crate : goal.returns-clause-no_crate
returns-clause-no_crate g c = when_no_crate (job_of (map string_bytes c.args.words.now)) (ending_of c.outcome_of-outcome.result) _ _ _ _ _ _ c.tell.result c.outcome_of-outcome.ensures c.tell.ensures.told

pub returns-clause-comes : goal.returns-clause-comes
returns-clause-comes g c = λ status comes. when_comes (job_of (map string_bytes c.args.words.now)) (ending_of c.outcome_of-outcome.result) _ _ _ _ _ _ c.tell.result status c.outcome_of-outcome.ensures c.tell.ensures.told comes

pub returns-clause-complete : goal.returns-clause-complete
returns-clause-complete g c = λ sound. when_sound (job_of (map string_bytes c.args.words.now)) (ending_of c.outcome_of-outcome.result) _ _ _ _ _ _ c.tell.result c.outcome_of-outcome.ensures c.tell.ensures.told sound.0 sound.1 sound.2 sound.3

pub returns-clause-others : goal.returns-clause-others
returns-clause-others g c = keeps_others (job_of (map string_bytes c.args.words.now)) (ending_of c.outcome_of-outcome.result) _ _ _ _ c.outcome_of-outcome.ensures

pub returns-clause-host_untouched : goal.returns-clause-host_untouched
returns-clause-host_untouched g c = uncalled (job_of (map string_bytes c.args.words.now)) (ending_of c.outcome_of-outcome.result) _ _ _ _ c.outcome_of-outcome.ensures

pub returns-clause-ran : goal.returns-clause-ran
returns-clause-ran g c = (ending_of c.outcome_of-outcome.result, c.outcome_of-outcome.ensures, c.tell.ensures.told)

pub returns-clause-unfailed : goal.returns-clause-unfailed
returns-clause-unfailed g c = none_failed (ending_of c.outcome_of-outcome.result) _ _ c.tell.result c.tell.ensures.told
