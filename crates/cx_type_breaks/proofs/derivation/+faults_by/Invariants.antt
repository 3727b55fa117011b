use Rattle.std.proofs.Common.{length}
use Rattle.cx_type_breaks.proofs.derivation.+faults_by.Given as goal

abbrev pub decreases-faults_by : goal.decreases-faults_by
decreases-faults_by l = length l.steps.now
