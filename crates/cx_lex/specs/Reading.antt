-- What is read of the bytes, or the rule that they break.
use Rattle.std.specs.Prelude.{Option, Some, None, Result, Ok, Err}
use Rattle.cr_base.specs.declared.rule.Rule.{Rule}

-- the rule that is broken, if one is
abbrev pub rule_of : {A : Type 0} → Result A Rule → Option Rule
rule_of (Ok read) = None
rule_of (Err rule) = Some rule
