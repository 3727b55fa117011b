use Rattle.std.proofs.Common.{◌≡◌, true, false, not, refl, Bool, map, sym, ◌∙◌}
use Rattle.rs_items.specs.Known.{view_names}
use Rattle.whole_given.specs.Whole.{named}
use Rattle.whole_keys.specs.Views.{view_key}
use Rattle.whole_known.proofs.Declared.{base_again}
use Rattle.whole_known.proofs.externals.is_base_again.Goals as goal

not_true : (t : Bool) → not t ≡ true → t ≡ false
not_true true e = cc
not_true false e = refl

pub returns : goal.returns
returns c = λ e.
    base_again (named c.args.whole.now) c.args.unit (view_names c.args._names.now) (map view_key c.in_ok-keys.keys.now) c.requires c.in_ok-keys.ensures
    (sym c.some_bare.ensures ∙ not_true c.some_bare.result e)
