use Rattle.std.proofs.Common.{List, OnOk, ap, map, subst, ◌∙◌}
use Rattle.cx_core.specs.Views.{view_outer}
use Rattle.cx_core.specs.declared.program.Outer.{Outer}
use Rattle.cx_core.specs.declared.program.Parts.{Parts}
use Rattle.rs_items.specs.Known.{view_names}
use Rattle.whole_given.specs.Whole.{named}
use Rattle.whole_known.proofs.Declared.{module_known}
use Rattle.whole_known.proofs.Kept.{on_ok}
use Rattle.whole_known.specs.Stages.{KnowsMore, bares_put, outers_put}
use Rattle.whole_names.specs.Keys.{NameKey}
use Rattle.whole_known.proofs.externals.keep_declared.Goals as goal

pub returns : goal.returns
returns c =
    let whole = named c.args.whole.now in
    let unit = c.args.unit in
    let old = view_names c.args.names.now in
    let middle = view_names c.keep_outers.new.names in
    let new = view_names c.keep_bares.new.names in
    let outers = subst (λ (list : List Outer). KnowsMore old middle (outers_put whole unit (map view_outer list) old.known))
    (c.as_slice.ensures ∙ ap (λ (parts : Parts). parts.externals) c.parts.ensures) c.in_ok-keep_outers.ensures.known in
    let bares = subst (λ (keys : List NameKey). OnOk c.keep_bares.result (KnowsMore middle new (bares_put whole unit keys middle.known))) c.requires.keys c.keep_bares.ensures in
    on_ok c.keep_bares.result (module_known whole unit old middle new c.requires.base outers) bares
