use Rattle.std.proofs.Common.{ap, ◌∙◌, subst, option_map}
use Rattle.cx_context.specs.Checks.{Checks}
use Rattle.cx_context.specs.Views.{scope_of}
use Rattle.cx_core.specs.Views.{view_type}
use Rattle.cx_decl_steps.proofs.HeadLaws.{head_by}
use Rattle.cx_decl_steps.specs.Views.{view_head}
use Rattle.cx_entities.specs.Entities.{joined_type}
use Rattle.cx_rules.specs.declared.kinds.SpecsPlace.TheVariants.{Definition}
use Rattle.cx_rules.specs.Declare.{linkage_of}
use Rattle.cx_scope.specs.Views.{view_meant}
use Rattle.cx_shapes.specs.Views.{view_shape, view_specs}
use Rattle.cx_decl_steps.proofs.heads.head_seen.Goals as goal

pub returns : goal.returns
returns c =
    let before = option_map (λ one. view_meant one.now) c.ordinary-before.result in
    subst (λ walked. Checks view_head c.head_as.result (scope_of c.head_as.new.context) walked)
    (head_by (view_specs c.args.specs.now) c.args.line (view_shape c.args.shape) (view_type c.args.written) (scope_of c.args.context.now)
    c.name_or_none-name.result before c.linkage_of-linkage.result (view_type c.get.result.now)
    c.name_or_none-name.ensures c.ordinary-before.ensures
    (c.linkage_of-linkage.ensures ∙ ap (λ t. linkage_of Definition (view_specs c.args.specs.now) (view_type t) before) c.get-t.ensures)
    (ap view_type c.get.ensures ∙ (c.in_ok-own.ensures ∙ ap (λ t. joined_type c.linkage_of-linkage.result (view_type t) before) c.get-t.ensures)))
    c.head_as.ensures
