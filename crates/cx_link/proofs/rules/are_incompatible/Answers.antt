use Rattle.std.proofs.Common.{rules, ◌≡◌, ap, ◌∙◌}
use Rattle.std.specs.Prelude.{not}
use Rattle.cx_core.specs.Views.{view_type, view_types}
use Rattle.cx_links.proofs.Compatible.{compatible_is}
use Rattle.cx_link.proofs.rules.are_incompatible.Goals as goal

pub returns : goal.returns
returns c = ap not (compatible_is (view_types c.args.types.now) (view_type c.args.first.now) (view_type c.args.second.now) c.in_ok-compatible.field-0 c.in_ok-compatible.ensures)
