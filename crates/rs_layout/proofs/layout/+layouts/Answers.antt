use Rattle.std.proofs.Common.{rules, arith, ap, ◌∙◌, List, map, reverse}
use Rattle.std.proofs.lemmas.Grind.{common_steps}
use Rattle.cr_base.specs.Layout.{no_front}
use Rattle.rs_tree.specs.declared.item.Field.{Field}
use Rattle.rs_tree.specs.Views.{field_view, item_view, record_view, ty_view}
use Rattle.rs_layout.specs.Layouts.{found_view, by_front, fronts}
use Rattle.rs_layout.proofs.Layouts.{laid_without, front_elsewhere, front_none, front_some, laid_none, laid_some, aligned_found, record_none, record_some}
use Rattle.rs_layout.proofs.layout.+layouts.Goals as goal

-- src/layout.rt:192:24
pub laid_among-record_in_front-requires : goal.laid_among-record_in_front-requires
laid_among-record_in_front-requires t c =
    let is = aligned_found c.args.name.now (reverse (map item_view c.args.items.now)) (found_view c.in-Some.found) c.requires c.in-Some.ensures.found in
    search rules

-- src/layout.rt:185:1
pub laid_among-returns-in-Some-clause-laid : goal.laid_among-returns-in-Some-clause-laid
laid_among-returns-in-Some-clause-laid t c =
    c.record_in_front.ensures.laid
    ∙ laid_some c.args.home.now (reverse (map item_view c.args.items.now)) c.args.name.now (found_view c.in-Some.found) c.in-Some.ensures.found

-- src/layout.rt:185:1
pub laid_among-returns-in-None-clause-laid : goal.laid_among-returns-in-None-clause-laid
laid_among-returns-in-None-clause-laid t c =
    laid_none c.args.home.now (reverse (map item_view c.args.items.now)) c.args.name.now c.in-None.ensures.found

-- src/layout.rt:205:9
pub laid_in_front-returns-in_default-clause-laid :
    goal.laid_in_front-returns-in_default-clause-laid
laid_in_front-returns-in_default-clause-laid t c =
    c.plain_laid.ensures.laid ∙ laid_without _ (ty_view c.args.ty.now) c.in_default.ensures

-- src/layout.rt:208:9
pub laid_in_front-returns-then-ne-clause-laid : goal.laid_in_front-returns-then-ne-clause-laid
laid_in_front-returns-then-ne-clause-laid t c =
    front_elsewhere c.args.home.now (reverse (map item_view c.args.earlier.now)) (ty_view c.args.ty.now) c.in-Some.path.now c.in-Some.ensures (first_of (search rules, grind (arith, common_steps)))

-- src/layout.rt:198:1
pub laid_in_front-returns-in-Some-laid_among-clause-laid :
    goal.laid_in_front-returns-in-Some-laid_among-clause-laid
laid_in_front-returns-in-Some-laid_among-clause-laid t c =
    c.array_laid.ensures.laid
    ∙ front_some c.args.home.now (reverse (map item_view c.args.earlier.now)) (ty_view c.args.ty.now) c.in-Some.path.now
    c.in-Some-laid_among.base c.in-Some.ensures (first_of (search rules, grind (arith, common_steps))) c.in-Some-laid_among.ensures.laid

-- src/layout.rt:198:1
pub laid_in_front-returns-in-None-clause-laid : goal.laid_in_front-returns-in-None-clause-laid
laid_in_front-returns-in-None-clause-laid t c =
    front_none c.args.home.now (reverse (map item_view c.args.earlier.now)) (ty_view c.args.ty.now) c.in-Some.path.now c.in-Some.ensures
    (first_of (search rules, grind (arith, common_steps))) c.in-None.ensures.laid

-- src/layout.rt:237:1
pub record_in_front-returns-in-Some-clause-laid : goal.record_in_front-returns-in-Some-clause-laid
record_in_front-returns-in-Some-clause-laid t c =
    c.finished.ensures.laid ∙ record_some (by_front c.args.home.now (reverse (map item_view c.args.earlier.now))) (record_view c.args.one.now) c.in-Some.front
    (c.in-Some.ensures.front ∙ ap (λ (fields : List Field). fronts (by_front c.args.home.now (reverse (map item_view c.args.earlier.now))) (no_front c.args.one.now.is_union) (map field_view fields)) c.as_slice.ensures)

-- src/layout.rt:237:1
pub record_in_front-returns-in-None-clause-laid : goal.record_in_front-returns-in-None-clause-laid
record_in_front-returns-in-None-clause-laid t c = record_none (by_front c.args.home.now (reverse (map item_view c.args.earlier.now))) (record_view c.args.one.now)
    (c.in-None.ensures.front ∙ ap (λ (fields : List Field). fronts (by_front c.args.home.now (reverse (map item_view c.args.earlier.now))) (no_front c.args.one.now.is_union) (map field_view fields)) c.as_slice.ensures)
