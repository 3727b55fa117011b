use Rattle.std.proofs.Common.{rules, arith, ◌≡◌, ◌<◌, ◌+◌, map, option_map, Option, Some, None, slice_get, subst, suc, take, length, ap, sym, refl, ◌∙◌, true, false, unwrap_or, ℕ}
use Rattle.std.proofs.lemmas.Option.{slice_get-map, slice_get_read}
use Rattle.cx_core.specs.Views.{view_mention, view_types}
use Rattle.cx_link.specs.Chains.{indexed, kind_of, relates, wanted, latest}
use Rattle.cx_links.specs.Rules.{is_kind_of}
use Rattle.cx_link.proofs.Chains.{Walks, walk_begins, walk_goes, walk_finds, walk_ends, steps_back, falls, latest_before, holds_in, same_length}
use Rattle.cx_link.proofs.rules.some_relates.Goals as goal

pub loop-at-init : goal.loop-at-init
loop-at-init c =
    subst (λ at. Walks (is_kind_of (kind_of (wanted c.args.relation)) c.args.one.now.name) (relates (view_types c.args.types.now) c.args.relation (view_mention c.args.one.now)) (map view_mention c.args.all.now) at)
    (sym (c.last_of-at.ensures ∙ ap (λ name. indexed c.args.chain.now.last name) (search rules) ∙ c.requires.last c.args.one.now.name))
    (walk_begins (is_kind_of (kind_of (wanted c.args.relation)) c.args.one.now.name) (relates (view_types c.args.types.now) c.args.relation (view_mention c.args.one.now)) (map view_mention c.args.all.now))

pub bounds-all-index : goal.bounds-all-index
bounds-all-index c =
    subst (λ count. c.in-Some.index < count) (same_length view_mention c.args.all.now) (holds_in (is_kind_of (kind_of (wanted c.args.relation)) c.args.one.now.name) (map view_mention c.args.all.now) c.in-Some.index (c.loop-at.invariant.holds c.in-Some.index c.in-Some.is))

pub offset_bounds-all-index : goal.offset_bounds-all-index
offset_bounds-all-index c =
    let within = subst (λ count. c.in-Some.index < count) (same_length view_mention c.args.all.now) (holds_in (is_kind_of (kind_of (wanted c.args.relation)) c.args.one.now.name) (map view_mention c.args.all.now) c.in-Some.index (c.loop-at.invariant.holds c.in-Some.index c.in-Some.is)) in
    search (rules, within)

pub returns-then-branch : goal.returns-then-branch
returns-then-branch c =
    let there : slice_get c.args.all.now c.in-Some.index ≡ Some c.index-all-index.result = slice_get_read c.args.all.now (length c.args.all.now) c.in-Some.index c.index-all-index.result refl (subst (λ count. c.in-Some.index < count) (same_length view_mention c.args.all.now) (holds_in (is_kind_of (kind_of (wanted c.args.relation)) c.args.one.now.name) (map view_mention c.args.all.now) c.in-Some.index (c.loop-at.invariant.holds c.in-Some.index c.in-Some.is))) c.index-all-index.is in
    let is : slice_get (map view_mention c.args.all.now) c.in-Some.index ≡ Some (view_mention c.index-all-index.result) = slice_get-map view_mention c.args.all.now c.in-Some.index ∙ ap (option_map view_mention) there in
    sym (walk_finds (is_kind_of (kind_of (wanted c.args.relation)) c.args.one.now.name) (relates (view_types c.args.types.now) c.args.relation (view_mention c.args.one.now)) (map view_mention c.args.all.now) c.in-Some.index (view_mention c.index-all-index.result) (subst (λ at. Walks (is_kind_of (kind_of (wanted c.args.relation)) c.args.one.now.name) (relates (view_types c.args.types.now) c.args.relation (view_mention c.args.one.now)) (map view_mention c.args.all.now) at) c.in-Some.is c.loop-at.invariant) is (search rules))

pub loop-at-smaller : goal.loop-at-smaller
loop-at-smaller c =
    let there : slice_get c.args.all.now c.in-Some.index ≡ Some c.index-all-index.result = slice_get_read c.args.all.now (length c.args.all.now) c.in-Some.index c.index-all-index.result refl (subst (λ count. c.in-Some.index < count) (same_length view_mention c.args.all.now) (holds_in (is_kind_of (kind_of (wanted c.args.relation)) c.args.one.now.name) (map view_mention c.args.all.now) c.in-Some.index (c.loop-at.invariant.holds c.in-Some.index c.in-Some.is))) c.index-all-index.is in
    let is : slice_get (map view_mention c.args.all.now) c.in-Some.index ≡ Some (view_mention c.index-all-index.result) = slice_get-map view_mention c.args.all.now c.in-Some.index ∙ ap (option_map view_mention) there in
    let back = c.before-at.ensures ∙ steps_back c.args.chain.now (kind_of (wanted c.args.relation)) (relates (view_types c.args.types.now) c.args.relation (view_mention c.args.one.now)) (map view_mention c.args.all.now) c.args.one.now.name c.in-Some.index (view_mention c.index-all-index.result) c.requires (subst (λ at. Walks (is_kind_of (kind_of (wanted c.args.relation)) c.args.one.now.name) (relates (view_types c.args.types.now) c.args.relation (view_mention c.args.one.now)) (map view_mention c.args.all.now) at) c.in-Some.is c.loop-at.invariant) is in
    subst (λ (at : Option ℕ). unwrap_or (option_map suc c.before-at.result) 0 < unwrap_or (option_map suc at) 0) (sym c.in-Some.is)
    (falls c.before-at.result c.in-Some.index (λ m found. latest_before (is_kind_of (kind_of (wanted c.args.relation)) c.args.one.now.name) (map view_mention c.args.all.now) c.in-Some.index m (sym back ∙ found)))

pub loop-at-preserved : goal.loop-at-preserved
loop-at-preserved c =
    let there : slice_get c.args.all.now c.in-Some.index ≡ Some c.index-all-index.result = slice_get_read c.args.all.now (length c.args.all.now) c.in-Some.index c.index-all-index.result refl (subst (λ count. c.in-Some.index < count) (same_length view_mention c.args.all.now) (holds_in (is_kind_of (kind_of (wanted c.args.relation)) c.args.one.now.name) (map view_mention c.args.all.now) c.in-Some.index (c.loop-at.invariant.holds c.in-Some.index c.in-Some.is))) c.index-all-index.is in
    let is : slice_get (map view_mention c.args.all.now) c.in-Some.index ≡ Some (view_mention c.index-all-index.result) = slice_get-map view_mention c.args.all.now c.in-Some.index ∙ ap (option_map view_mention) there in
    let back = c.before-at.ensures ∙ steps_back c.args.chain.now (kind_of (wanted c.args.relation)) (relates (view_types c.args.types.now) c.args.relation (view_mention c.args.one.now)) (map view_mention c.args.all.now) c.args.one.now.name c.in-Some.index (view_mention c.index-all-index.result) c.requires (subst (λ at. Walks (is_kind_of (kind_of (wanted c.args.relation)) c.args.one.now.name) (relates (view_types c.args.types.now) c.args.relation (view_mention c.args.one.now)) (map view_mention c.args.all.now) at) c.in-Some.is c.loop-at.invariant) is in
    subst (λ at. Walks (is_kind_of (kind_of (wanted c.args.relation)) c.args.one.now.name) (relates (view_types c.args.types.now) c.args.relation (view_mention c.args.one.now)) (map view_mention c.args.all.now) at) (sym back)
    (walk_goes (is_kind_of (kind_of (wanted c.args.relation)) c.args.one.now.name) (relates (view_types c.args.types.now) c.args.relation (view_mention c.args.one.now)) (map view_mention c.args.all.now) c.in-Some.index (view_mention c.index-all-index.result) (subst (λ at. Walks (is_kind_of (kind_of (wanted c.args.relation)) c.args.one.now.name) (relates (view_types c.args.types.now) c.args.relation (view_mention c.args.one.now)) (map view_mention c.args.all.now) at) c.in-Some.is c.loop-at.invariant) is (search rules))
