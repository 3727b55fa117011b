use Rattle.std.proofs.Common.{ap, ◌∙◌}
use Rattle.cx_context.specs.Views.{scope_of}
use Rattle.cx_core.specs.Views.{view_puts, view_type}
use Rattle.cx_decl_steps.proofs.Contents.{content_anew, not_static, on_any}
use Rattle.cx_decl_steps.specs.Steps as steps
use Rattle.cx_decl_steps.specs.Views.{content_of, view_begun}
use Rattle.cx_init.specs.Views.{view_filled}
use Rattle.cx_decl_steps.proofs.ends.anew.Goals as goal

pub returns-clause-scope : goal.returns-clause-scope
returns-clause-scope c =
    let old = scope_of c.args.context.now in
    let begun = view_begun c.args.site.name.now c.args.begun.now in
    on_any c.begin_of.result
    (c.in_ok-complete_if.ensures
    ∙ (ap (λ one. steps.with_content_if c.args.site.has_init one (view_type c.get.result.now) (view_puts c.new.result) old) c.content_of-one.ensures
    ∙ (ap (λ t. steps.with_content_if c.args.site.has_init (content_of begun) (view_type t) (view_puts c.new.result) old) c.get.ensures
    ∙ content_anew c.args.site.has_init begun (view_filled c.args.filled) (view_puts c.new.result) old (not_static old.in_function c.args.begun.now.is_static c.requires))))
