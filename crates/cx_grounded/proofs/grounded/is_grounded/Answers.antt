use Rattle.std.proofs.Common.{rules, map, subst}
use Rattle.cx_core.specs.Views.{view_member, view_record, view_types}
use Rattle.cx_grounded.proofs.Ranks.{grounded_is}
use Rattle.cx_grounded.specs.Grounded.{AllFit}
use Rattle.cx_grounded.proofs.grounded.is_grounded.Goals as goal

pub returns : goal.returns
returns c = λ passes.
    grounded_is (view_types c.args.types.now) c.args.ranks.now c.args.number (view_record c.args.one.now) (search rules)
    (subst (λ rank. AllFit (view_types c.args.types.now) c.args.ranks.now rank (map view_member c.args.one.now.members)) c.rank_of.ensures
    (subst (λ members. AllFit (view_types c.args.types.now) c.args.ranks.now c.rank_of.result (map view_member members)) c.as_slice.ensures (c.all_fit.ensures passes)))
