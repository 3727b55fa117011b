use Rattle.std.proofs.Common.{rules, arith, ◌≡◌, ℕ, List, [], ◌∷◌, ◌+◌, ◌<◌, ◌++◌, suc, map, length, take, Some, All, slice_get, refl, sym, ap, subst, ◌∙◌, length-append}
use Rattle.std.proofs.Math.Seq.{take-length}
use Rattle.std.proofs.lemmas.List.{map-append}
use Rattle.std.proofs.lemmas.List.Elements.{All-more}
use Rattle.std.proofs.lemmas.Option.{slice_get_read}
use Rattle.cx_core.specs.Trees.{CUnit}
use Rattle.cx_core.specs.Views.{view_unit}
use Rattle.cx_units.specs.Broken.{IsTypedAs}
use Rattle.cx_units.specs.Sources.{IsGot, IsOf, StopsUnit, StopsUnits}
use Rattle.cx_units.specs.declared.source.Source.{Source}
use Rattle.cx_units.proofs.Steps.{AreTypedTo, kept_error, stops_there, typed_all, typed_next}
use Rattle.cx_units.proofs.checked.all_typed.Goals as goal

pub returns-in_err-core-clause-refused : goal.returns-in_err-core-clause-refused
returns-in_err-core-clause-refused c =
    let is : slice_get c.args.sources.now c.loop-place.place ≡ Some c.index-sources-place.result =
    slice_get_read c.args.sources.now (length c.args.sources.now) c.loop-place.place c.index-sources-place.result refl (search rules) c.index-sources-place.is in
    let number : c.in_ok-number_of.field-0 ≡ c.loop-place.place = search rules in
    kept_error (StopsUnits c.args.sources.now) c.in_err-core.field-0.0 c.from_residual-in_err-core.result c.from_residual-in_err-core.ensures.1
    (stops_there c.args.sources.now (map view_unit c.loop-place.cores) c.loop-place.place c.index-sources-place.result c.in_err-core.field-0.0 c.loop-place.invariant.1 is
    (subst (λ (n : ℕ). StopsUnit n (IsOf c.index-sources-place.result) c.in_err-core.field-0.0) number c.in_err-core.ensures.refused))

pub loop-place-preserved : goal.loop-place-preserved
loop-place-preserved c =
    let is : slice_get c.args.sources.now c.loop-place.place ≡ Some c.index-sources-place.result =
    slice_get_read c.args.sources.now (length c.args.sources.now) c.loop-place.place c.index-sources-place.result refl (search rules) c.index-sources-place.is in
    let number : c.in_ok-number_of.field-0 ≡ c.loop-place.place = search rules in
    let next : suc c.loop-place.place ≡ c.loop-place.place + 1 = search rules in
    let put : c.push.new.self ≡ c.loop-place.cores ++ c.in_ok-core.core ∷ [] = c.in_ok-push.ensures.ok in
    let count : length c.push.new.self ≡ c.loop-place.place + 1 =
    ap length put ∙ length-append c.loop-place.cores (c.in_ok-core.core ∷ []) ∙ ap (λ n. n + 1) c.loop-place.invariant.0 in
    let pushed : (map view_unit c.loop-place.cores) ++ view_unit c.in_ok-core.core ∷ [] ≡ map view_unit c.push.new.self =
    sym (ap (map view_unit) put ∙ map-append view_unit c.loop-place.cores (c.in_ok-core.core ∷ [])) in (
      count,
      subst (λ (cores : List CUnit). AreTypedTo c.args.sources.now cores (c.loop-place.place + 1)) pushed
          (subst (λ (n : ℕ). AreTypedTo c.args.sources.now ((map view_unit c.loop-place.cores) ++ view_unit c.in_ok-core.core ∷ []) n) next
          (typed_next c.args.sources.now (map view_unit c.loop-place.cores) c.loop-place.place c.index-sources-place.result (view_unit c.in_ok-core.core) c.loop-place.invariant.1 is
          (λ bytes of. subst (λ (n : ℕ). IsTypedAs n bytes (view_unit c.in_ok-core.core)) number (c.in_ok-core.ensures.typed bytes of)))),
      All-more IsGot c.args.sources.now c.loop-place.place c.index-sources-place.result (search rules) c.loop-place.invariant.2
          (subst IsGot c.index-sources-place.is c.in_ok-core.ensures.got),
    )

pub returns-clause-typed : goal.returns-clause-typed
returns-clause-typed c =
    let all : c.loop-place.place ≡ length c.args.sources.now = search rules in
    typed_all c.args.sources.now (map view_unit c.loop-place.cores) (subst (λ (n : ℕ). AreTypedTo c.args.sources.now (map view_unit c.loop-place.cores) n) all c.loop-place.invariant.1)

pub returns-clause-got : goal.returns-clause-got
returns-clause-got c =
    let all : c.loop-place.place ≡ length c.args.sources.now = search rules in
    subst (λ (sources : List Source). All IsGot sources) (ap (λ n. take n c.args.sources.now) all ∙ take-length c.args.sources.now) c.loop-place.invariant.2
