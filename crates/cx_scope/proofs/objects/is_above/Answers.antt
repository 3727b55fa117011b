use Rattle.std.proofs.Common.{rules, arith, ◌≡◌, ◌<◌, true, ◌++◌, [], ◌∷◌, subst, sym, ap, ◌∙◌}
use Rattle.std.proofs.lemmas.Bool.Decides.{nat_tests}
use Rattle.std.specs.Prelude.{nat_lt}
use Rattle.cx_scope.proofs.Numbered.{above_last}
use Rattle.cx_scope.proofs.objects.is_above.Goals as goal

pub returns-in-Some : goal.returns-in-Some
returns-in-Some c = λ less above one is.
    above_last c.args.objects.now c.in-Some.field-0-1.now c.in-Some.last.now one c.args.number (search rules) above is less
