use Rattle.rs_parse.proofs.CrateRead.{headed, head_wrong}
use Rattle.rs_parse.proofs.crates.read_headed.Goals as goal

pub returns-in-Err-NotRust : goal.returns-in-Err-NotRust
returns-in-Err-NotRust c =
    head_wrong c.args.files.now c.args.cargo c.args.main c.in_ok-cargo_line.cargo_line c.head_fault.result c.as_slice-2.result.now c.index-files-main.result c.outline_of.result
    c.in-Err-NotRust.field-0-0 c.in-Err-NotRust.line c.in-Err-NotRust.field-0
    (headed c.args.files.now c.args.cargo c.as_slice.result.now c.index-files-cargo.result c.in_ok-cargo_line.cargo_line c.requires.cargo c.as_slice.ensures c.in_ok-cargo_line.ensures)
    c.requires.main c.as_slice-2.ensures c.head_fault.ensures c.outline_of.ensures c.in-Err-NotRust.is c.in-Err-NotRust.field-0-is
