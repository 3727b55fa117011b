use Rattle.std.proofs.Common.{sym, ◌∙◌}
use Rattle.rs_forms.proofs.Remaining.{none_left}
use Rattle.rs_forms.proofs.left.inner_left.Goals as goal

pub returns-then-is_empty : goal.returns-then-is_empty
returns-then-is_empty c = λ frame blocks limit. none_left frame c.args.list.now blocks limit (sym c.is_empty.ensures ∙ c.if-is_empty.true)

pub returns : goal.returns
returns c = λ frame blocks limit kept host end last does. does
