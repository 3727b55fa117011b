use Rattle.std.proofs.Common.{arith, refl, sym, ◌∙◌, length}
use Rattle.std.proofs.lemmas.Bool.Decides.{nat_tests}
use Rattle.std.proofs.lemmas.Option.{slice_get_read}
use Rattle.cx_core.specs.Views.{view_object}
use Rattle.cx_init.proofs.Found.{any_got}
use Rattle.cx_rules.specs.Pieces.{object_static}
use Rattle.cx_init.proofs.constants.finds_object.Goals as goal

pub returns-in-Some : goal.returns-in-Some
returns-in-Some c = λ is.
    let got = slice_get_read c.args.objects.now (length c.args.objects.now) c.partition_point-index.result c.in-Some.one.now refl (grind (arith, nat_tests, c.in-Some.ensures.lookup.0)) c.in-Some.ensures.lookup.1 in
    any_got view_object (object_static c.args.number) c.args.objects.now c.partition_point-index.result c.in-Some.one.now got (sym c.object_static.ensures ∙ is)
