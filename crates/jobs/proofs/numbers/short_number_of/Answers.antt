use Rattle.std.proofs.Common.{sym, ◌∙◌}
use Rattle.jobs.proofs.NumberLaws.{reads_short}
use Rattle.jobs.proofs.numbers.short_number_of.Goals as goal

pub returns-in-Err : goal.returns-in-Err
returns-in-Err c =
    let read = reads_short c.args.most c.args.word.now c.requires (sym c.is_number.ensures ∙ c.if-not-is_number.false) in
    absurd (c.in-Err.ensures.value.0 read.numeral)
