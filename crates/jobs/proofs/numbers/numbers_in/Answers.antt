use Rattle.std.proofs.Common.{rules, ◌∙◌, sym, ap, arith, None, Some, []}
use Rattle.std.proofs.lemmas.Str.Pattern.{split_once_first}
use Rattle.jobs.specs.Numbers.{parts_of, numbers_of, at_most}
use Rattle.jobs.proofs.NumberLaws.{at_comma, at_last, takes_number, takes_none, joined, nothing_more, too_many, few_enough}
use Rattle.jobs.proofs.numbers.numbers_in.Goals as goal

pub returns-in_default-short_number_of : goal.returns-in_default-short_number_of
returns-in_default-short_number_of c =
    let split = split_once_first 44 c.loop-first.left.now (Some (c.in-Some.first, c.in-Some.rest)) c.in-Some.ensures.cases (omega arith) in
    let left = at_comma c.args.digits c.loop-first.numbers c.args.word.now c.loop-first.left.now c.in-Some.first.now c.in-Some.rest.now c.loop-first.invariant.1 split in
    sym (ap (at_most c.args.most) (takes_none c.args.digits c.loop-first.numbers c.in-Some.first.now _ _ left (sym c.in_default-short_number_of.is ∙ c.short_number_of.ensures)))

pub loop-first-preserved : goal.loop-first-preserved
loop-first-preserved c =
    let split = split_once_first 44 c.loop-first.left.now (Some (c.in-Some.first, c.in-Some.rest)) c.in-Some.ensures.cases (omega arith) in
    let left = at_comma c.args.digits c.loop-first.numbers c.args.word.now c.loop-first.left.now c.in-Some.first.now c.in-Some.rest.now c.loop-first.invariant.1 split in
    let more = takes_number c.args.digits c.loop-first.numbers c.in-Some-short_number_of.number c.in-Some.first.now _ _ left (sym c.in-Some-short_number_of.is ∙ c.short_number_of.ensures) in
    (search rules, more ∙ sym (ap (λ numbers. joined numbers (numbers_of c.args.digits (parts_of c.in-Some.rest.now))) c.in_ok-push.ensures.ok))

pub returns-in_default-short_number_of-2 : goal.returns-in_default-short_number_of-2
returns-in_default-short_number_of-2 c =
    let none = split_once_first 44 c.loop-first.left.now None c.in_default.ensures.cases (omega arith) in
    let left = at_last c.args.digits c.loop-first.numbers c.args.word.now c.loop-first.left.now c.loop-first.invariant.1 none in
    sym (ap (at_most c.args.most) (takes_none c.args.digits c.loop-first.numbers c.loop-first.left.now _ (Some []) left (sym c.in_default-short_number_of-2.is ∙ c.short_number_of-2.ensures)))

pub returns-then-most-len : goal.returns-then-most-len
returns-then-most-len c =
    let none = split_once_first 44 c.loop-first.left.now None c.in_default.ensures.cases (omega arith) in
    let left = at_last c.args.digits c.loop-first.numbers c.args.word.now c.loop-first.left.now c.loop-first.invariant.1 none in
    let more = takes_number c.args.digits c.loop-first.numbers c.in-Some-short_number_of-2.last c.loop-first.left.now _ (Some []) left (sym c.in-Some-short_number_of-2.is ∙ c.short_number_of-2.ensures) in
    let whole = nothing_more _ c.loop-first.numbers c.in-Some-short_number_of-2.last more ∙ sym (ap Some c.in_ok-push-2.ensures.ok) in
    too_many c.args.most _ c.push-2.new.self whole (omega arith)

pub returns : goal.returns
returns c =
    let none = split_once_first 44 c.loop-first.left.now None c.in_default.ensures.cases (omega arith) in
    let left = at_last c.args.digits c.loop-first.numbers c.args.word.now c.loop-first.left.now c.loop-first.invariant.1 none in
    let more = takes_number c.args.digits c.loop-first.numbers c.in-Some-short_number_of-2.last c.loop-first.left.now _ (Some []) left (sym c.in-Some-short_number_of-2.is ∙ c.short_number_of-2.ensures) in
    let whole = nothing_more _ c.loop-first.numbers c.in-Some-short_number_of-2.last more ∙ sym (ap Some c.in_ok-push-2.ensures.ok) in
    few_enough c.args.most _ c.push-2.new.self whole (omega arith)
