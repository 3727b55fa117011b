use Rattle.std.proofs.Common.{rules}
use Rattle.cx_scope.specs.Views.{view_thing}
use Rattle.cx_unit_ends.proofs.Numbering.{noted, passed_over}
use Rattle.cx_unit_ends.specs.Numbered.{placed}
use Rattle.cx_unit_ends.proofs.places.note.Goals as goal

pub returns-then-one : goal.returns-then-one
returns-then-one c = λ number. passed_over (view_thing c.args.one.now) number c.args.place (placed c.args.places.now number) c.if-one.true

pub returns : goal.returns
returns c = λ number.
    noted (view_thing c.args.one.now) number c.args.place (placed c.args.places.now number) (placed c.insert.new.self number) c.if-one.false
    (c.in_ok-insert.ensures.updates.0 number)
