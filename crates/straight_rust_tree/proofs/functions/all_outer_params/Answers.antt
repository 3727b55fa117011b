use Rattle.std.proofs.Common.{rules}
use Rattle.straight_rust_tree.proofs.Commas.{all_listed}
use Rattle.straight_rust_tree.proofs.functions.all_outer_params.Goals as goal

pub returns : goal.returns
returns c =
    all_listed c.args.params.now c.in-Some.others.now c.in-Some.first.now c.args.variadic c.args.draft.now
    c.outer_param.new.draft c.more_outer_params.new.draft c.more_variadic.new.draft
    (search rules) c.in_ok-outer_param.ensures c.in_ok-more_outer_params.ensures c.in_ok-more_variadic.ensures
