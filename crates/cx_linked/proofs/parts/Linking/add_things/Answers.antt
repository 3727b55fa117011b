use Rattle.std.proofs.Common.{rules, ◌≡◌, List, map, ap, sym, ◌∙◌}
use Rattle.std.specs.List.{flat_map}
use Rattle.cx_core.specs.Trees.{CUnit}
use Rattle.cx_core.specs.Views.{view_function, view_object, view_outer}
use Rattle.cx_linked.specs.Found.{view_found}
use Rattle.cx_linked.specs.Linking.{units_in}
use Rattle.cx_linked.proofs.Gathered.{kept_at}
use Rattle.cx_linked.proofs.parts.Linking.add_things.Goals as goal

pub objects-requires-clause-at : goal.objects-requires-clause-at
objects-requires-clause-at c =
    kept_at (view_found view_object) (λ (home : CUnit). home.objects) (units_in c.args.self.now) c.as_slice.result.now c.args.self.now.named.things.objects c.as_slice.ensures
    c.requires.known.named.objects

pub functions-requires-clause-at : goal.functions-requires-clause-at
functions-requires-clause-at c =
    kept_at (view_found view_function) (λ (home : CUnit). home.functions) (units_in c.args.self.now) c.as_slice-2.result.now c.args.self.now.named.things.functions c.as_slice-2.ensures
    c.requires.known.named.functions

pub externals-requires-clause-at : goal.externals-requires-clause-at
externals-requires-clause-at c =
    kept_at (view_found view_outer) (λ (home : CUnit). home.externals) (units_in c.args.self.now) c.as_slice-3.result.now c.args.self.now.named.things.externals c.as_slice-3.ensures
    c.requires.known.named.externals
