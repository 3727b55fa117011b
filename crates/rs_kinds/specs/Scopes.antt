-- Which scope a held one is.
use Rattle.std.specs.Prelude.{ℕ, Bool, ◌&&◌, List, [], ◌∷◌, ◌++◌, map, option_map, bytes_eq}
use Rattle.std.specs.List.{list_any}
use Rattle.rs_tree.specs.Views.{ty_view, local_view, module_view}
use Rattle.rs_mean.specs.Typing.{BodyScope, LabelScope, Scope}
use Rattle.rs_kinds.specs.declared.scope.HeldScope.{HeldScope}
use Rattle.rs_kinds.specs.declared.scope.Labels.{Labels, fold-Labels}
use Rattle.rs_kinds.specs.declared.scope.Labels.TheOpen as l

abbrev labels_step : l.Labels-F (List LabelScope) → List LabelScope
labels_step l.Labels-F.Outermost = []
labels_step (l.Labels-F.Within name is_loop outer) = record { name = name.now; is_loop = is_loop } ∷ outer.now

abbrev pub labels_view : Labels → List LabelScope
labels_view = fold-Labels (List LabelScope) labels_step

-- what the names of an expression stand for in it
abbrev pub scope_view : HeldScope → Scope
scope_view scope = record {
  modules = map module_view scope.modules.now;
  locals = map local_view scope.params.now ++ map local_view scope.locals.now;
}

abbrev pub body_view : HeldScope → BodyScope
body_view scope = record {
  names = scope_view scope;
  result = option_map ty_view scope.given.now;
  labels = labels_view scope.labels.now;
}

-- a label of a name that meets a test
abbrev pub has_among : (LabelScope → Bool) → List ℕ → List LabelScope → Bool
has_among test name labels = list_any (λ label. bytes_eq label.name name && test label) labels
