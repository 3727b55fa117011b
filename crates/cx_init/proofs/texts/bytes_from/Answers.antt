use Rattle.std.proofs.Common.{◌++◌, sym, ap, ◌∙◌, map, drop}
use Rattle.std.proofs.lemmas.List.{append-nil}
use Rattle.cx_core.specs.Views.{view_type}
use Rattle.cx_init.proofs.TextBytes.{no_more}
use Rattle.cx_init.specs.Views.{view_stored}
use Rattle.cx_kinds.specs.Known.{types_in}
use Rattle.cx_parts.specs.Views.{view_at}
use Rattle.cx_init.proofs.texts.bytes_from.Goals as goal

pub returns-then-not-has_element : goal.returns-then-not-has_element
returns-then-not-has_element c = sym (append-nil (map view_stored c.loop-index.made))
    ∙ ap (λ rest. map view_stored c.loop-index.made ++ rest)
    (sym (no_more (types_in c.args.known) c.args.place (view_at c.args.at.now) (view_type c.args.element.now) c.args.length c.loop-index.index (drop c.loop-index.index c.args.bytes.now)
    (sym c.has_element.ensures ∙ c.if-not-has_element.true)))
    ∙ c.loop-index.invariant
