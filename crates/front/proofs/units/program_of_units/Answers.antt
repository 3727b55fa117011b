use Rattle.std.proofs.Common.{map}
use Rattle.cx_core.specs.Views.{view_unit}
use Rattle.front.proofs.UnitLaws.{many_stop, one_is, one_small, one_spelled, one_found, one_stopped}
use Rattle.front.proofs.units.program_of_units.Goals as goal

pub returns-then-sources-gt1-clause-stopped : goal.returns-then-sources-gt1-clause-stopped
returns-then-sources-gt1-clause-stopped c =
    many_stop c.args.first.now c.args.sources.now (map view_unit c.in_ok-check_units.field-0) c.not_built.result c.if-sources-gt1.true c.in_ok-check_units.ensures.unbroken c.not_built.ensures

pub program_of_unit-requires-clause-small : goal.program_of_unit-requires-clause-small
program_of_unit-requires-clause-small c =
    let one = one_is c.args.sources.now c.index-sources-0.result c.in-Bytes.bytes c.as_slice.result.now c.requires c.if-sources-gt1.false c.index-sources-0.is c.in-Bytes.is c.as_slice.ensures in
    one_small c.args.sources.now c.as_slice.result.now (map view_unit c.in_ok-check_units.field-0) one c.in_ok-check_units.ensures.unbroken

pub program_of_unit-requires-clause-spelled : goal.program_of_unit-requires-clause-spelled
program_of_unit-requires-clause-spelled c =
    let one = one_is c.args.sources.now c.index-sources-0.result c.in-Bytes.bytes c.as_slice.result.now c.requires c.if-sources-gt1.false c.index-sources-0.is c.in-Bytes.is c.as_slice.ensures in
    one_spelled c.args.sources.now c.as_slice.result.now (map view_unit c.in_ok-check_units.field-0) one c.in_ok-check_units.ensures.unbroken

pub returns-in-Bytes-clause-built : goal.returns-in-Bytes-clause-built
returns-in-Bytes-clause-built c =
    let one = one_is c.args.sources.now c.index-sources-0.result c.in-Bytes.bytes c.as_slice.result.now c.requires c.if-sources-gt1.false c.index-sources-0.is c.in-Bytes.is c.as_slice.ensures in
    one_found c.args.first.now c.args.sources.now c.as_slice.result.now (map view_unit c.in_ok-check_units.field-0) c.program_of_unit.result one c.in_ok-check_units.ensures.unbroken c.program_of_unit.ensures.found

pub returns-in-Bytes-clause-stopped : goal.returns-in-Bytes-clause-stopped
returns-in-Bytes-clause-stopped c =
    let one = one_is c.args.sources.now c.index-sources-0.result c.in-Bytes.bytes c.as_slice.result.now c.requires c.if-sources-gt1.false c.index-sources-0.is c.in-Bytes.is c.as_slice.ensures in
    one_stopped c.args.first.now c.args.sources.now c.as_slice.result.now (map view_unit c.in_ok-check_units.field-0) c.program_of_unit.result one c.in_ok-check_units.ensures.unbroken c.program_of_unit.ensures.stopped
