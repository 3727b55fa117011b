-- The accesses of operands, of which the others are united.
use Rattle.std.specs.Prelude.{if◌then◌else◌, Result, Ok, Err}
use Rattle.cr_base.specs.declared.rule.URule.TheVariants.{U1}
use Rattle.cx_mean.specs.Marks.{Marks, both, conflict}
use Rattle.cx_mean.specs.Operands.{CWhy, breaks}

abbrev pub united_with : Marks → Marks → Result Marks CWhy
united_with first rest = if conflict first rest then Err (breaks U1) else Ok (both first rest)
