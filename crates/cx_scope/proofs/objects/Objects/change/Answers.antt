use Rattle.std.proofs.Common.{rules, sym, ap, ◌∙◌, option_map, subst}
use Rattle.cx_core.specs.Views.{view_object, view_puts, view_type}
use Rattle.cx_scope.proofs.Numbered.{none_changes, found_changes}
use Rattle.cx_scope.specs.Objects.{with_content, NoneHas, HasAt}
use Rattle.cx_scope.proofs.objects.Objects.change.Goals as goal

pub returns-in_default : goal.returns-in_default
returns-in_default c =
    rw (← c.self.view_is) (sym (none_changes (with_content (view_type c.args.ty) (option_map view_puts c.args.puts)) c.args.number c.self.inside.list.items
    (subst (NoneHas c.args.number) c.as_slice.ensures.value c.in_default.ensures)))

pub returns-in-Some : goal.returns-in-Some
returns-in-Some c =
    rw (← c.self.view_is) (c.set_at.ensures.content
    ∙ found_changes (with_content (view_type c.args.ty) (option_map view_puts c.args.puts)) c.args.number c.self.inside.list.items c.in-Some.index c.self.invariant
    (subst (λ list. HasAt c.args.number list c.in-Some.index) c.as_slice.ensures.value c.in-Some.ensures))
