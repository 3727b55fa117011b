use Rattle.std.proofs.Common.{◌≡◌, ◌++◌, map, drop, option_map}
use Rattle.straight_core.specs.Views.{view_object}
use Rattle.straight_tree.specs.Views.{external_view}
use Rattle.straight_decl.specs.CoreOf as spec
use Rattle.straight_decl.specs.Given.{scope_of}
use Rattle.straight_decl.proofs.declaration.core_objects.Given as goal

-- the objects so far, and those of what is left
abbrev pub invariant-loop-part : goal.invariant-loop-part
invariant-loop-part l = record {
  objects : option_map (λ more. map view_object l.objects ++ more) (spec.core_objects l.unit (scope_of l.scope) (map external_view (drop l.part-index l.parts)))
      ≡ spec.core_objects l.unit (scope_of l.fn.scope) (map external_view l.parts);
  scope : scope_of l.scope ≡ spec.scope_behind (scope_of l.fn.scope) (map view_object l.objects);
}
