use Rattle.std.proofs.Common.{refl, ap, option_map}
use Rattle.std.proofs.lemmas.Option.{slice_get_read}
use Rattle.cx_core.specs.Views.{view_object, view_puts, view_type}
use Rattle.cx_scope.proofs.Numbered.{stays_above}
use Rattle.cx_scope.proofs.Places.{changed_set, changed_out}
use Rattle.cx_scope.specs.Objects.{with_content}
use Rattle.cx_scope.proofs.objects.set_at.Goals as goal

pub returns-in-Some-clause-content : goal.returns-in-Some-clause-content
returns-in-Some-clause-content c =
    changed_set view_object (with_content (view_type c.args.ty) (option_map view_puts c.args.puts)) c.args.objects.now.items c.args.index c.in-Some.one.now c.set_content.new.one
    (slice_get_read _ _ _ _ refl c.in-Some.ensures.item.3.0 c.in-Some.ensures.item.1) c.set_content.ensures.content

pub returns-in-Some-clause-above : goal.returns-in-Some-clause-above
returns-in-Some-clause-above c = λ above.
    stays_above c.args.objects.now.items 0 c.args.index c.in-Some.one.now c.set_content.new.one
    (slice_get_read _ _ _ _ refl c.in-Some.ensures.item.3.0 c.in-Some.ensures.item.1) c.set_content.ensures.number above

pub returns-in_default-clause-content : goal.returns-in_default-clause-content
returns-in_default-clause-content c =
    changed_out view_object (with_content (view_type c.args.ty) (option_map view_puts c.args.puts)) c.args.objects.now.items c.args.index c.in_default.ensures.item.2
