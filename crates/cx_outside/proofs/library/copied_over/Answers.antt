use Rattle.std.proofs.Common.{refl}
use Rattle.cx_outside.proofs.Effected.{copied_over_is}
use Rattle.cx_outside.proofs.library.copied_over.Goals as goal

pub returns : goal.returns
returns g c = λ heap. (copied_over_is _ heap c.args.to c.args.from c.args.count _ c.requires.overlap c.requires.some c.over_rule.ensures, refl)
