use Rattle.std.proofs.Common.{rules, ◌≡◌, false, map}
use Rattle.cx_core.specs.Views.{view_member, view_record}
use Rattle.cx_layout.specs.Building.{are_complete}
use Rattle.cx_layout.proofs.Asked.{incomplete_row}
use Rattle.cx_layout.proofs.layouts.Layouts.has_row.Goals as goal

pub returns-then-not-is_ready-clause-has : goal.returns-then-not-is_ready-clause-has
returns-then-not-is_ready-clause-has c =
    let open_one : are_complete c.args.self.now (map view_member c.args.r.now.members) ≡ false = search rules in
    incomplete_row c.args.self.now (view_record c.args.r.now) open_one
