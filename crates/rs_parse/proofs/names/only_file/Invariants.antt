use Rattle.std.proofs.Common.{drop}
use Rattle.rs_parse.specs.Reading.{IsFoundIn}
use Rattle.rs_parse.proofs.names.only_file.Given as goal

abbrev pub invariant-loop-index : goal.invariant-loop-index
invariant-loop-index l = IsFoundIn l.files (drop l.index l.files) l.name l.found
