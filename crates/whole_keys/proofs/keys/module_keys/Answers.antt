use Rattle.std.proofs.Common.{List, ap, map, ◌∙◌}
use Rattle.cx_core.specs.Views.{view_program}
use Rattle.whole_keys.proofs.Ordered.{keys_are}
use Rattle.whole_keys.specs.Kept.{needs_calloc_in}
use Rattle.whole_keys.specs.Views.{view_key}
use Rattle.whole_keys.specs.declared.key.NameKey.{NameKey}
use Rattle.whole_keys.proofs.keys.module_keys.Goals as goal

pub returns : goal.returns
returns c =
    keys_are (view_program c.args.parts.now) c.args.unit c.args.called.now c.in_ok-needs_calloc.needs_calloc (map view_key c.in_ok-keys.keys) (map view_key c.put_completed.new.keys)
    (map view_key c.put_statics.new.keys) (map view_key c.put_declared.new.keys) c.requires.called c.in_ok-keys.ensures
    (c.in_ok-needs_calloc.ensures ∙ ap (λ (list : List NameKey). needs_calloc_in (view_program c.args.parts.now) c.args.called.now (map view_key list)) c.as_slice.ensures)
    c.in_ok-put_completed.ensures c.in_ok-put_statics.ensures c.in_ok-put_declared.ensures
