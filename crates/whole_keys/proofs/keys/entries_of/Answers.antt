use Rattle.std.proofs.Common.{List, ap, map, ◌∙◌}
use Rattle.cx_core.specs.Views.{view_function, view_program}
use Rattle.cx_core.specs.declared.program.Fun.{Fun}
use Rattle.whole_keys.proofs.Ordered.{entries_are}
use Rattle.whole_keys.specs.Kept.{entry_key, is_entry_of, put_where}
use Rattle.whole_keys.specs.Views.{view_key}
use Rattle.whole_keys.specs.declared.key.NameKey.{NameKey}
use Rattle.whole_keys.proofs.keys.entries_of.Goals as goal

pub returns : goal.returns
returns c =
    entries_are (view_program c.args.parts.now) c.args.unit (map view_key c.new-keys.result) (map view_key c.put_entries.new.keys)
    (ap (λ (list : List NameKey). map view_key list) c.new-keys.ensures)
    (c.in_ok-put_entries.ensures
    ∙ ap (λ (functions : List Fun). put_where (is_entry_of c.args.unit) entry_key (map view_function functions) (map view_key c.new-keys.result)) c.as_slice.ensures)
