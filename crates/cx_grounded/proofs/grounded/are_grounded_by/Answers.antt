use Rattle.std.proofs.Common.{rules, arith, ◌≡◌, ◌≤◌, length, option_map}
use Rattle.std.proofs.lemmas.List.{length-map}
use Rattle.cx_core.specs.Views.{view_record, view_types}
use Rattle.cx_grounded.proofs.Ranks.{all_grounded, one_more}
use Rattle.cx_grounded.proofs.grounded.are_grounded_by.Goals as goal

pub loop-number-preserved : goal.loop-number-preserved
loop-number-preserved c =
    one_more (view_types c.args.types.now) c.args.ranks.now c.loop-number.number _ (search rules) c.loop-number.invariant (c.is_grounded_at.ensures (search rules))

pub returns : goal.returns
returns c =
    let long : length (view_types c.args.types.now).records ≡ length c.args.types.now.records = length-map c.args.types.now.records (option_map view_record) in
    let most : length c.args.types.now.records ≤ c.loop-number.number = search rules in
    λ _. all_grounded (view_types c.args.types.now) c.args.ranks.now c.loop-number.number (omega (arith, long, most)) c.loop-number.invariant
