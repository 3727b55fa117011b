use Rattle.std.proofs.Common.{◌≡◌, drop}
use Rattle.rs_text.specs.Names.{is_among}
use Rattle.rs_valid.specs.Lists.{names_of}
use Rattle.rs_parse.proofs.outline.number_of.Given as goal

-- what is left answers for all
abbrev pub invariant-loop-index : goal.invariant-loop-index
invariant-loop-index l = is_among (names_of (drop l.index l.modules)) l.name ≡ is_among (names_of l.modules) l.name
