-- Which labels values of the declared types are.
use Rattle.std.specs.Prelude.{ℕ, Bool, List, map, Option, Some, None}
use Rattle.build_flow_code.specs.declared.labels.Label.{Label}
use Rattle.build_flow_code.specs.declared.labels.Target.{Target}
use Rattle.build_flow_code.specs.declared.labels.Target.TheVariants as target
use Rattle.build_flow_nodes.specs.Labels as spec
use Rattle.cx_core.specs.Trees.{CStmt, stmt}
use Rattle.cx_mean.specs.BodyGraph.{CPath}
use Rattle.cx_mean.specs.Paths.{CTarget, named, case_of, default_case}

abbrev pub target_view : Target → CTarget
target_view (target.Named name) = named name
target_view (target.Case value) = case_of value
target_view target.Default = default_case

abbrev pub label_view : Label → spec.Label
label_view one = record { target = target_view one.target; path = one.path; objects = one.objects }

-- labels, or those around where there are none
abbrev pub labels_or : Option (List Label) → List spec.Label → List spec.Label
labels_or None around = around
labels_or (Some labels) around = map label_view labels

abbrev pub own_label_of : CStmt → CPath → List ℕ → List spec.Label
own_label_of (stmt place objects form) path entered = spec.own_label form path entered

abbrev pub labels_in_stmt : Bool → CStmt → CPath → List ℕ → List spec.Label
labels_in_stmt own (stmt place objects form) path entered = spec.labels_in own form path (entered)
