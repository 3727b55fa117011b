use Rattle.std.proofs.Common.{rules, ◌≡◌, ◌+◌, ◌++◌, [], ◌∷◌, length, ap, ◌∙◌}
use Rattle.cx_linked.proofs.Tables.{long_more, own_more}
use Rattle.cx_renumber.specs.Views.{number_in}
use Rattle.cx_linked.proofs.numbers.own_numbers.Goals as goal

pub loop-number-preserved : goal.loop-number-preserved
loop-number-preserved c =
    let pushed : c.push.new.self ≡ c.loop-number.table ++ (c.args.before + c.loop-number.number) ∷ [] = search rules in (
      ap length pushed ∙ long_more c.loop-number.table (c.args.before + c.loop-number.number) c.loop-number.number c.loop-number.invariant.0,
      λ n. ap (λ table. number_in table c.args.before n) pushed ∙ own_more c.loop-number.table c.args.before c.loop-number.number c.loop-number.invariant.0 c.loop-number.invariant.1 n,
    )
