use Rattle.std.proofs.Common.{◌≡◌, ◌+◌, ◌<◌, ◌^◌, List, length, map, ap, arith}
use Rattle.std.proofs.lemmas.List.{length-map}
use Rattle.cx_core.specs.Views.{view_program}
use Rattle.rs_items.specs.Known.{view_names}
use Rattle.whole_keys.specs.Views.{view_key}
use Rattle.whole_locals.proofs.Several.{locals_are}
use Rattle.whole_locals.specs.Names.{view_local}
use Rattle.whole_locals.specs.Wanted.{view_wanted}
use Rattle.whole_locals.specs.declared.names.LocalName.{LocalName}
use Rattle.whole_locals.proofs.names.given.Goals as goal

pub returns-clause-made : goal.returns-clause-made
returns-clause-made c =
    let w = c.well_formed in
    let old = view_names c.args.names.now in
    let keys = c.args._keys.now in
    let wanted = c.args.wanted.now in
    let long = length-map keys view_key in
    let longer = length-map wanted view_wanted in
    let few : length (map view_key keys) + length (map view_wanted wanted) + 5 < 2 ^ 64 = omega (arith, w, long, longer) in
    locals_are (view_program c.args._whole.now.0) c.args._unit (map view_key keys) old.taken.module_names old.taken.own_names (map view_local c.new-made.result)
    (map view_local c.give_all.new.made) (map view_wanted wanted) c.requires.keys c.requires.taken c.requires.none (ap (λ (list : List LocalName). map view_local list) c.new-made.ensures) few
    c.in_ok-give_all.ensures.made
