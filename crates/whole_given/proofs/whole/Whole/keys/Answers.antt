use Rattle.std.proofs.Common.{◌≡◌, Some, List, ℕ, ap, map, sym, ◌∙◌, slice_get}
use Rattle.std.specs.Option.{option_copied}
use Rattle.cx_core.specs.Views.{view_program}
use Rattle.cx_core.specs.declared.program.Parts.{Parts}
use Rattle.whole_keys.specs.Views.{view_key}
use Rattle.whole_keys.specs.declared.key.NameKey.{NameKey}
use Rattle.whole_names.specs.Keys.{module_keys}
use Rattle.whole_given.proofs.whole.Whole.keys.Goals as goal

pub returns-in-Some : goal.returns-in-Some
returns-in-Some c =
    let there : slice_get c.self.inside.given c.args.unit ≡ Some c.in-Some.made.now = sym c.get.ensures.value ∙ ap option_copied c.in-Some.is in
    ap (λ (keys : List NameKey). map view_key keys) c.as_slice.ensures ∙ (c.self.invariant.2 c.args.unit c.in-Some.made.now there).keys_are
    ∙ ap (λ (it : Parts × List (List ℕ)). module_keys (view_program it.0) c.args.unit) c.self.view_is
