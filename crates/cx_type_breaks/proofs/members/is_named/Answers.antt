use Rattle.std.proofs.Common.{ap, map, sym, ◌∙◌}
use Rattle.std.specs.List.{list_any}
use Rattle.cx_core.specs.Views.{view_member}
use Rattle.cx_rules.specs.Rules.{has_name}
use Rattle.cx_type_breaks.proofs.Unnamed.{none_has}
use Rattle.cx_type_breaks.proofs.members.is_named.Goals as goal

pub returns-in-None : goal.returns-in-None
returns-in-None c =
    sym (ap (λ name. list_any (has_name name) (map view_member c.args.before.now)) c.in-None.is ∙ none_has (map view_member c.args.before.now))
