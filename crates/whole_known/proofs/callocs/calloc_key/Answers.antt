use Rattle.std.proofs.Common.{List, ℕ, [], codes, map, ap, ◌∙◌}
use Rattle.cx_core.specs.Views.{view_outer}
use Rattle.cx_core.specs.declared.program.Outer.{Outer}
use Rattle.cx_core.specs.declared.program.Parts.{Parts}
use Rattle.whole_given.specs.Whole.{named}
use Rattle.whole_keys.specs.Kept.{number_of, put_where}
use Rattle.whole_keys.specs.Views.{view_key}
use Rattle.whole_keys.specs.declared.key.NameKey.{NameKey}
use Rattle.whole_known.proofs.CallocKeys.{calloc_is}
use Rattle.whole_names.specs.Keys.{is_outer_named}
use Rattle.whole_known.proofs.callocs.calloc_key.Goals as goal

pub returns : goal.returns
returns c =
    calloc_is (named c.args.whole.now) c.args.unit c.as_slice-2.result.now (map view_key c.as_slice-3.result.now) (view_key c.first_key.result)
    (c.as_slice-2.ensures ∙ c.in_ok-numbers.ensures
    ∙ ap (λ (name : List ℕ). put_where (is_outer_named name) number_of (map view_outer c.as_slice-externals.result.now) []) c.as_slice.ensures
    ∙ ap (λ (externals : List Outer). put_where (is_outer_named (codes "calloc")) number_of (map view_outer externals) []) (c.as_slice-externals.ensures ∙ ap (λ (parts : Parts). parts.externals) c.parts.ensures))
    (ap (λ (keys : List NameKey). map view_key keys) c.as_slice-3.ensures ∙ c.in_ok-things.ensures) c.first_key.ensures
