use Rattle.std.proofs.Common.{◌≡◌, ◌++◌, drop, map}
use Rattle.cx_core.specs.Views.{view_object}
use Rattle.lift_stores.specs.Names.{lift_names}
use Rattle.rs_items.specs.Known.{view_names}
use Rattle.rs_tree.specs.Views.{stmt_view}
use Rattle.whole_texts.specs.Statics.{initialiser_in, AllFit}
use Rattle.whole_texts.proofs.statics.all_contents.Given as goal

abbrev pub invariant-loop-one : goal.invariant-loop-one
invariant-loop-one l = record {
  text : map stmt_view l.made ++ initialiser_in (lift_names (view_names l.names)) l.unit (map view_object (drop l.one-index l.objects))
      ≡ initialiser_in (lift_names (view_names l.names)) l.unit (map view_object l.objects);
  fits : AllFit (map view_object (drop l.one-index l.objects));
}
