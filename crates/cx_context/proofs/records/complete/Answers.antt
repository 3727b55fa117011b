use Rattle.std.proofs.Common.{rules, ◌≡◌, true, sym, ap, ◌∙◌, subst, slice_get}
use Rattle.cx_context.proofs.Completed.{completes}
use Rattle.cx_context.specs.Laid.{IsLaid}
use Rattle.cx_context.specs.Slots.{is_open}
use Rattle.cx_core.specs.Views.{view_record}
use Rattle.cx_rules.specs.Scope.{with_completed}
use Rattle.cx_scope.specs.Changes.{with_contents}
use Rattle.cx_scope.specs.Views.{view_scope}
use Rattle.cx_context.proofs.records.complete.Goals as goal

pub returns-clause-laid : goal.returns-clause-laid
returns-clause-laid c =
    let open_one : is_open (slice_get (view_scope c.args.scope.now).types.records c.args.one.number) ≡ true = search rules in
    let laid = c.adding_is_completing.ensures (view_scope c.args.scope.now).types (with_completed c.args.one.number (view_record c.args.one) (view_scope c.args.scope.now)).types (view_record c.args.one)
    c.args.layouts.now c.add_row.new.layouts (completes (view_scope c.args.scope.now) (view_record c.args.one) open_one) c.requires.same c.requires.all c.in_ok-add_row.ensures.added in
    subst (λ scope. IsLaid scope.types c.add_row.new.layouts) (sym (c.complete_record.ensures ∙ ap (with_contents c.args.one.number (view_record c.args.one)) c.in_ok-note_completed.ensures.noted)) (record { same = laid.0; all = laid.1 })
