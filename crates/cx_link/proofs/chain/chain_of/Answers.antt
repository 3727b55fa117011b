use Rattle.std.proofs.Common.{rules, ◌≡◌, ◌∷◌, [], ◌++◌, map, option_map, Some, slice_get, length, refl, subst, suc, ◌+◌, ap, sym, ◌∙◌}
use Rattle.std.proofs.lemmas.Option.{slice_get-map, slice_get_read}
use Rattle.cx_core.specs.Views.{view_mention}
use Rattle.cx_link.specs.Chains.{indexed, kind_of}
use Rattle.cx_link.proofs.Chains.{IsChained, chain_goes}
use Rattle.cx_link.proofs.chain.chain_of.Goals as goal

pub loop-at-preserved : goal.loop-at-preserved
loop-at-preserved c =
    let one = view_mention c.index-all-at.result in
    let there : slice_get c.args.all.now c.loop-at.at ≡ Some c.index-all-at.result = slice_get_read c.args.all.now (length c.args.all.now) c.loop-at.at c.index-all-at.result refl (search rules) c.index-all-at.is in
    let is : slice_get (map view_mention c.args.all.now) c.loop-at.at ≡ Some one =
    slice_get-map view_mention c.args.all.now c.loop-at.at ∙ ap (option_map view_mention) there in
    let pushed : c.loop-at.earlier ++ indexed c.loop-at.last one.name ∷ [] ≡ c.push.new.self = search rules in
    let next : suc c.loop-at.at ≡ c.loop-at.at + 1 = search rules in
    subst (λ earlier. IsChained c.note.new.index earlier (kind_of c.args.kind) (map view_mention c.args.all.now) (c.loop-at.at + 1)) pushed
    (subst (λ at. IsChained c.note.new.index (c.loop-at.earlier ++ indexed c.loop-at.last one.name ∷ []) (kind_of c.args.kind) (map view_mention c.args.all.now) at) next
    (chain_goes c.loop-at.last c.note.new.index c.loop-at.earlier (kind_of c.args.kind) (map view_mention c.args.all.now) c.loop-at.at one
    c.loop-at.invariant is (search rules)))
