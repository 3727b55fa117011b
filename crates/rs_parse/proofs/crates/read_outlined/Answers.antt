use Rattle.std.proofs.Common.{true, false, Some, None}
use Rattle.rs_tree.specs.Views.{crate_view}
use Rattle.rs_parse.proofs.CrateRead.{misnamed, wrong_cargo_of, wrong_modules, right_modules, at_fault, are_in, line_in}
use Rattle.rs_parse.proofs.crates.read_outlined.Goals as goal

pub returns-then-not-branch : goal.returns-then-not-branch
returns-then-not-branch c =
    misnamed c.args.files.now (crate_view c.args.outline) c.requires.main
    (are_in c.args.files.now c.args.outline c.as_slice.result.now c.in_ok-are_of_modules.field-0 false c.as_slice.ensures c.in_ok-are_of_modules.ensures c.if-not-branch.true)

pub returns-in-Some : goal.returns-in-Some
returns-in-Some c =
    at_fault c.args.files.now c.at_file.result c.args.cargo c.at_file.ensures
    (wrong_cargo_of c.args.files.now (crate_view c.args.outline) c.args.cargo c.requires.cargo.only c.requires.main
    (are_in c.args.files.now c.args.outline c.as_slice.result.now c.in_ok-are_of_modules.field-0 true c.as_slice.ensures c.in_ok-are_of_modules.ensures c.if-not-branch.false)
    (line_in c.args.files.now c.args.cargo c.args.cargo_line (Some c.in-Some.line) c.requires.cargo c.in-Some.is))

pub returns-in-Err : goal.returns-in-Err
returns-in-Err c =
    wrong_modules c.args.files.now (crate_view c.args.outline) c.args.cargo c.in-Err.fault c.read_modules.result c.requires.cargo.only c.requires.main
    (are_in c.args.files.now c.args.outline c.as_slice.result.now c.in_ok-are_of_modules.field-0 true c.as_slice.ensures c.in_ok-are_of_modules.ensures c.if-not-branch.false)
    (line_in c.args.files.now c.args.cargo c.args.cargo_line None c.requires.cargo c.in_default.is) c.read_modules.ensures c.in-Err.is

pub returns : goal.returns
returns c =
    right_modules c.args.files.now c.args.outline c.in-Ok.modules c.read_modules.result c.requires.main
    (are_in c.args.files.now c.args.outline c.as_slice.result.now c.in_ok-are_of_modules.field-0 true c.as_slice.ensures c.in_ok-are_of_modules.ensures c.if-not-branch.false)
    (line_in c.args.files.now c.args.cargo c.args.cargo_line None c.requires.cargo c.in_default.is) c.read_modules.ensures c.in-Ok.is
