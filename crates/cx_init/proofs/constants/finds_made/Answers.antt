use Rattle.std.proofs.Common.{arith, refl, sym, ◌∙◌, length}
use Rattle.std.proofs.lemmas.Bool.Decides.{nat_tests}
use Rattle.std.proofs.lemmas.Option.{slice_get_read}
use Rattle.cx_scope.specs.Views.{view_made}
use Rattle.cx_init.proofs.Found.{any_got}
use Rattle.cx_rules.specs.Pieces.{made_static}
use Rattle.cx_init.proofs.constants.finds_made.Goals as goal

pub returns-in-Some : goal.returns-in-Some
returns-in-Some c = λ is.
    let got = slice_get_read c.args.literals.now (length c.args.literals.now) c.partition_point-index.result c.in-Some.made.now refl (grind (arith, nat_tests, c.in-Some.ensures.lookup.0)) c.in-Some.ensures.lookup.1 in
    any_got view_made (made_static c.args.number) c.args.literals.now c.partition_point-index.result c.in-Some.made.now got (sym c.made_static.ensures ∙ is)
