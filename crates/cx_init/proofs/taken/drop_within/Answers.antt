use Rattle.std.proofs.Common.{sym, ap, ◌∙◌, map}
use Rattle.std.specs.List.{list_any}
use Rattle.cx_init.proofs.Ascents.{all_stay}
use Rattle.cx_init.proofs.Taking.{none_within}
use Rattle.cx_init.specs.Views.{view_stored}
use Rattle.cx_rules.specs.Pieces.{is_within}
use Rattle.cx_init.proofs.taken.drop_within.Goals as goal

pub returns-then-stand_before : goal.returns-then-stand_before
returns-then-stand_before c = all_stay c.args.part.now c.args.stored.now (sym c.stand_before.ensures ∙ c.if-stand_before.true)

pub returns-then-not-holds_within : goal.returns-then-not-holds_within
returns-then-not-holds_within c = none_within c.args.part.now (map view_stored c.args.stored.now)
    (ap (λ held. list_any (λ one. is_within c.args.part.now one.path) (map view_stored held)) (sym c.as_slice.ensures) ∙ sym c.holds_within.ensures ∙ c.if-not-holds_within.true)
