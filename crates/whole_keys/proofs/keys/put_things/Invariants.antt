use Rattle.std.proofs.Common.{◌≡◌, ◌++◌, map, drop}
use Rattle.cx_core.specs.Views as core
use Rattle.cx_core.specs.Views.{view_program}
use Rattle.whole_keys.specs.Kept.{put_where}
use Rattle.whole_keys.specs.Views.{view_key}
use Rattle.whole_names.specs.Keys.{is_named_in, key_of}
use Rattle.whole_keys.proofs.keys.put_things.Given as goal

abbrev pub invariant-loop-one : goal.invariant-loop-one
invariant-loop-one l =
    put_where (is_named_in (view_program l.parts) l.unit) key_of (map core.view_key (drop l.one-index l.things)) (map view_key l.keys)
    ≡ put_where (is_named_in (view_program l.parts) l.unit) key_of (map core.view_key l.things) (map view_key l.fn.keys)
