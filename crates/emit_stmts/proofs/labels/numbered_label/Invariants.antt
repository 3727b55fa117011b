use Rattle.std.proofs.Common.{◌≡◌, ◌+◌, length, drop}
use Rattle.emit_rules.specs.Labels.{numbered_label}
use Rattle.emit_stmts.proofs.labels.numbered_label.Given as goal

abbrev pub invariant-loop-inner : goal.invariant-loop-inner
invariant-loop-inner l = record {
  counted : l.outer + l.inner-index ≡ length l.around;
  found : numbered_label (drop l.inner-index l.around) l.label ≡ numbered_label l.around l.label;
}
