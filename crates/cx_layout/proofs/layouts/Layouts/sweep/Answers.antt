use Rattle.std.proofs.Common.{◌≡◌, map, sym, ap, ◌∙◌, option_map, slice_get, Some}
use Rattle.std.specs.Option.{option_flatten}
use Rattle.cx_core.specs.Views.{view_types, view_record}
use Rattle.cx_layout.proofs.Builds.{record_found, record_missing, has_large}
use Rattle.cx_layout.proofs.Sweeps.{missing_next, record_next}
use Rattle.cx_layout.specs.Calls.{record_at}
use Rattle.cx_layout.proofs.layouts.Layouts.sweep.Goals as goal

pub loop-found-preserved-in_default : goal.loop-found-preserved-in_default
loop-found-preserved-in_default c =
    missing_next _ _ _ _ _ c.loop-found.invariant
    (ap (λ xs. option_flatten (slice_get (map (option_map view_record) xs) c.loop-found.found-index)) (sym c.as_slice-found-items.ensures)
    ∙ record_missing c.as_slice-found-items.result.now c.loop-found.found-index c.found-item.result c.loop-found-test.true c.found-item.is c.in_default.is)

pub take-requires : goal.take-requires
take-requires c =
    let found : record_at (view_types c.args.types.now) c.loop-found.found-index ≡ Some (view_record c.in-Some.one) =
    ap (λ xs. option_flatten (slice_get (map (option_map view_record) xs) c.loop-found.found-index)) (sym c.as_slice-found-items.ensures)
    ∙ record_found c.as_slice-found-items.result.now c.loop-found.found-index c.found-item.result c.in-Some.one c.loop-found-test.true c.found-item.is c.in-Some.is in
    (c.requires.grounded.grounded c.loop-found.found-index (view_record c.in-Some.one) found).bits

pub returns-in-Err-clause-too_large : goal.returns-in-Err-clause-too_large
returns-in-Err-clause-too_large c = λ e.
    let found : record_at (view_types c.args.types.now) c.loop-found.found-index ≡ Some (view_record c.in-Some.one) =
    ap (λ xs. option_flatten (slice_get (map (option_map view_record) xs) c.loop-found.found-index)) (sym c.as_slice-found-items.ensures)
    ∙ record_found c.as_slice-found-items.result.now c.loop-found.found-index c.found-item.result c.in-Some.one c.loop-found-test.true c.found-item.is c.in-Some.is in
    has_large (view_types c.args.types.now) c.loop-found.self c.loop-found.found-index (view_record c.in-Some.one) c.loop-found.invariant.built found (c.in-Err.ensures.too_large e)

pub loop-found-preserved : goal.loop-found-preserved
loop-found-preserved c =
    let found : record_at (view_types c.args.types.now) c.loop-found.found-index ≡ Some (view_record c.in-Some.one) =
    ap (λ xs. option_flatten (slice_get (map (option_map view_record) xs) c.loop-found.found-index)) (sym c.as_slice-found-items.ensures)
    ∙ record_found c.as_slice-found-items.result.now c.loop-found.found-index c.found-item.result c.in-Some.one c.loop-found-test.true c.found-item.is c.in-Some.is in
    record_next _ _ c.loop-found.self c.take.new.self c.loop-found.added c.in-Ok.taken c.either-added.result c.loop-found.found-index (view_record c.in-Some.one) c.loop-found.invariant found
    (c.requires.grounded.grounded c.loop-found.found-index (view_record c.in-Some.one) found).number_is
    c.either-added.ensures c.in-Ok.ensures.taken c.in-Ok.ensures.passed
