use Rattle.std.proofs.Common.{◌≡◌, ap, sym, ◌∙◌, subst, IfSome, map, reverse, option_map}
use Rattle.cx_rules.specs.Scope.{is_ordinary}
use Rattle.cx_scope.specs.declared.meant.Declared.{Declared}
use Rattle.std.specs.Option.{option_copied}
use Rattle.cx_contents.proofs.Newest.{none_redeclared, redeclares, stays_ordinary}
use Rattle.cx_core.specs.Views.{view_type}
use Rattle.cx_scope.specs.Views.{view_declared, view_meant, view_scope}
use Rattle.cx_contents.proofs.names.redeclare.Goals as goal

pub returns-in_default-clause-named : goal.returns-in_default-clause-named
unfolding view_scope
returns-in_default-clause-named c =
    ap (λ declared. record (view_scope c.args.scope.now) { declared = declared })
    (sym (none_redeclared c.args.name.now (view_type c.args.ty.now) (reverse (map view_declared c.args.scope.now.declared))
    (sym c.newest_object.ensures ∙ c.in_default.is)))

pub returns-clause-named : goal.returns-clause-named
unfolding view_scope
returns-clause-named c =
    ap (λ declared. record (view_scope c.args.scope.now) { declared = declared })
    (redeclares view_declared c.args.name.now (view_type c.args.ty.now) c.args.scope.now.declared c.set.new.self c.in-Some.index c.in-Some-get.before.now
    (record { name = c.in_ok-name.name; meant = c.in-Some-2.meant }) (view_meant c.in-Some-2.meant)
    (sym c.newest_object.ensures ∙ c.in-Some.is)
    (sym c.get.ensures.value ∙ ap option_copied c.in-Some-get.is)
    c.set.ensures
    (sym c.in_ok-meant.ensures ∙ ap (option_map view_meant) c.in-Some-2.is)
    (ap (λ name. record { name = name; meant = view_meant c.in-Some-2.meant }) c.in_ok-name.ensures))

pub set-requires-clause-name : goal.set-requires-clause-name
set-requires-clause-name c =
    subst (λ found. IfSome found (λ (was : Declared). was.name ≡ c.in_ok-name.name)) (sym (ap option_copied c.in-Some-get.is) ∙ c.get.ensures.value) (sym c.in_ok-name.ensures)

pub set-requires-clause-space : goal.set-requires-clause-space
set-requires-clause-space c =
    subst (λ found. IfSome found (λ (was : Declared). is_ordinary (view_meant was.meant) ≡ is_ordinary (view_meant c.in-Some-2.meant)))
    (sym (ap option_copied c.in-Some-get.is) ∙ c.get.ensures.value)
    (stays_ordinary (view_type c.args.ty.now) (view_meant c.in-Some-get.before.now.meant) c.in_ok-meant.field-0 c.in-Some-2.meant c.in_ok-meant.ensures c.in-Some-2.is)
