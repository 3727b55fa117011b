use Rattle.std.proofs.Common.{◌≡◌, ◌+◌, ◌<◌, ◌^◌, List, ℕ, OnOk, length, map, arith, subst}
use Rattle.std.proofs.lemmas.List.{length-map}
use Rattle.cx_core.specs.Views.{view_program}
use Rattle.rs_items.specs.Known.{view_names}
use Rattle.whole_keys.specs.Views.{view_key}
use Rattle.whole_known.proofs.Declared.{names_are}
use Rattle.whole_known.specs.Modules.{TakesNames}
use Rattle.whole_known.proofs.externals.take_own.Goals as goal

pub returns : goal.returns
returns c =
    let w = c.well_formed in
    let keys = c.args.keys.now in
    let same = length-map keys view_key in
    let few : length (map view_key keys) + 5 < 2 ^ 64 = omega (arith, w, same) in
    subst (λ (list : List (List ℕ)). OnOk c.take_names.result (TakesNames (view_names c.args.names.now) (view_names c.take_names.new.names) list))
    (names_are (view_program c.args.whole.now.0) c.args.unit (view_names c.args.names.now).taken.module_names (map view_key keys) c.requires.none c.requires.keys few) c.take_names.ensures
