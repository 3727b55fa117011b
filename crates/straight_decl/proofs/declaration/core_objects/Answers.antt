use Rattle.std.proofs.Common.{ap, sym, ◌∙◌, map}
use Rattle.straight_core.specs.Views.{view_object}
use Rattle.straight_decl.specs.CoreOf.{with_object, scope_behind}
use Rattle.straight_decl.specs.Given.{scope_of}
use Rattle.straight_decl.proofs.Objects.{objects_step, scope_behind_snoc}
use Rattle.straight_decl.proofs.declaration.core_objects.Goals as goal

pub loop-part-preserved : goal.loop-part-preserved
loop-part-preserved c =
    let declared = c.in_ok-declare.ensures.declared in
    record {
      objects = objects_step c.args.unit (scope_of c.loop-part.scope) _ c.args.parts.now c.loop-part.part-index c.part-item.result (map view_object c.loop-part.objects) _ c.loop-part-test.true c.part-item.is declared ∙ c.loop-part.invariant.objects;
      scope = declared.scope ∙ ap (λ s. with_object s declared.one) c.loop-part.invariant.scope ∙ sym (scope_behind_snoc _ (map view_object c.loop-part.objects) declared.one) ∙ ap (scope_behind _) (sym declared.objects_are);
    }
