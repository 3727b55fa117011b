use Rattle.std.proofs.Common.{rules, option_map, Some}
use Rattle.std.proofs.lemmas.List.{map-set}
use Rattle.cx_core.specs.Views.{view_record}
use Rattle.cx_scope.specs.Views.{view_scope}
use Rattle.cx_scope.proofs.scope.Scope.complete_record.Goals as goal

pub returns : goal.returns
unfolding view_scope
returns c = rw c.replace_at.ensures (rw (map-set (option_map view_record) c.args.self.now.types.records c.args.one.number (Some c.args.one)) (search rules))
