use Rattle.cr_runs_rules.proofs.Rules.{goes_at_a_step, waits_in_front, waits_behind}
use Rattle.cr_runs_rules.proofs.laws.source_goes_on.Goals as goal

pub returns : goal.returns
returns g c = record {
  at_a_step = λ events_of s source next steps. goes_at_a_step events_of s source next steps;
  in_front = λ events_of events source go waits. waits_in_front events_of events source go waits;
  behind = λ events_of events source go taken a s comes waits. waits_behind events_of events source go taken a s comes waits;
}
