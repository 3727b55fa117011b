use Rattle.std.proofs.Common.{◌≡◌, ◌+◌, ◌<◌, ◌^◌, List, [], length, map, OnOk, ap, sym, subst, ◌∙◌, arith}
use Rattle.std.proofs.lemmas.List.{length-map}
use Rattle.cx_core.specs.Views.{view_program}
use Rattle.rs_items_sets.specs.Sets.{TakenNames}
use Rattle.whole_given.proofs.OwnNames.{given_own}
use Rattle.whole_given.specs.Told.{first_of, told}
use Rattle.whole_keys.specs.Views.{view_key}
use Rattle.whole_keys.specs.declared.key.NameKey.{NameKey}
use Rattle.whole_names.specs.ModuleNames.{GivenName, given_from, name_among, own_names}
use Rattle.whole_given.proofs.given.give_keys.Goals as goal

pub returns : goal.returns
returns c =
    let w = c.well_formed in
    let keys = c.args.keys.now in
    let same = length-map keys view_key in
    let few : length (map view_key keys) + 5 < 2 ^ 64 = omega (arith, w, same) in
    let names : given_from (view_program c.args.parts.now) c.new-scopes.result.module_names (map view_key keys) ≡ given_from (view_program c.args.parts.now) own_names (map view_key keys) =
    ap (λ (taken : TakenNames). given_from (view_program c.args.parts.now) taken.module_names (map view_key keys)) c.new-scopes.ensures
    ∙ sym (given_own (view_program c.args.parts.now) [] (map view_key keys) (omega (arith, few))) in
    subst (λ (list : List GivenName). OnOk c.give_all.result ((other : NameKey) → told c.give_all.new.table other ≡ first_of (told c.args.table.now other) (name_among (view_key other) list)))
    names c.give_all.ensures
