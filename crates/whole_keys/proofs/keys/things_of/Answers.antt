use Rattle.std.proofs.Common.{List, ap, map}
use Rattle.cx_core.specs.Views.{view_program}
use Rattle.whole_keys.proofs.Ordered.{things_are}
use Rattle.whole_keys.specs.Views.{view_key}
use Rattle.whole_keys.specs.declared.key.NameKey.{NameKey}
use Rattle.whole_keys.proofs.keys.things_of.Goals as goal

pub returns : goal.returns
returns c =
    things_are (view_program c.args.parts.now) c.args.unit (map view_key c.new-keys.result) (map view_key c.put_declared_things.new.keys)
    (ap (λ (list : List NameKey). map view_key list) c.new-keys.ensures) c.in_ok-put_declared_things.ensures
