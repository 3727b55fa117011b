use Rattle.rs_parse.proofs.CrateText.{text_reads}
use Rattle.rs_parse.proofs.laws.text_reads.Goals as goal

pub returns : goal.returns
returns c = text_reads
