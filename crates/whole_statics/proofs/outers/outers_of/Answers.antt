use Rattle.std.proofs.Common.{List, ◌&&◌, map, ap, ◌∙◌}
use Rattle.cx_core.specs.BitFields.{has_bit_fields}
use Rattle.cx_core.specs.Views.{view_outer, view_program, view_types}
use Rattle.cx_core.specs.declared.program.Parts.{Parts}
use Rattle.rs_tree.specs.Views.{outer_view}
use Rattle.rs_tree.specs.declared.item.Outer.{Outer}
use Rattle.whole_given.specs.Whole.{named}
use Rattle.whole_keys.specs.Kept.{calls_malloc_in}
use Rattle.whole_keys.specs.Views.{view_key}
use Rattle.whole_names.specs.Calls.{NamedCall}
use Rattle.whole_names.specs.Keys.{calls_of}
use Rattle.whole_statics.proofs.Declared.{all_outers}
use Rattle.whole_statics.proofs.outers.outers_of.Goals as goal

pub returns : goal.returns
returns c =
    let whole = named c.args.whole.now in
    let unit = c.args.unit in
    let calls = c.in_ok-called.ensures ∙ c.in_ok-calls.ensures ∙ ap (λ (parts : Parts). calls_of (view_program parts) unit) c.parts-parts.ensures in
    all_outers whole unit c.in_ok-called.called c.stands_for_malloc-for_malloc.result (map view_key c.in_ok-keys.keys.now) (map outer_view c.new-outers.result) (map outer_view c.put_keys.new.outers) calls
    (c.stands_for_malloc-for_malloc.ensures
    ∙ ap (λ (parts : Parts). has_bit_fields (view_types parts.types) && calls_malloc_in c.in_ok-called.called (map view_outer parts.externals)) c.parts-parts.ensures
    ∙ ap (λ (list : List NamedCall). has_bit_fields whole.program.types && calls_malloc_in list whole.program.externals) calls)
    c.in_ok-keys.ensures (ap (λ (list : List Outer). map outer_view list) c.new-outers.ensures) c.in_ok-put_keys.ensures
