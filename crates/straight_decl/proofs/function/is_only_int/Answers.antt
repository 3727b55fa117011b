use Rattle.straight_decl.specs.CoreOf.{is_int_word}
use Rattle.straight_decl.proofs.Lists.{not_one_specifier}
use Rattle.straight_decl.proofs.function.is_only_int.Goals as goal

pub returns-in-len2-up : goal.returns-in-len2-up
returns-in-len2-up c = not_one_specifier is_int_word c.args.list.now c.in-len2-up.len_at_least
