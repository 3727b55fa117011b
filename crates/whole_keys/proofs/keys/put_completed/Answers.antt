use Rattle.std.proofs.Common.{ap, map, sym, ◌∙◌}
use Rattle.std.specs.Option.{option_copied}
use Rattle.whole_keys.proofs.Ordered.{none_completed}
use Rattle.whole_keys.specs.Views.{view_key}
use Rattle.whole_keys.proofs.keys.put_completed.Goals as goal

pub returns-in-None : goal.returns-in-None
returns-in-None c = none_completed c.args.parts.now c.args.unit (map view_key c.args.keys.now) (sym c.get.ensures.value ∙ ap option_copied c.in-None.is)
