use Rattle.std.proofs.Common.{◌≡◌, map, drop}
use Rattle.std.specs.List.{list_any}
use Rattle.cx_core.specs.BitFields.{is_bit_field}
use Rattle.cx_core.specs.Views.{view_member}
use Rattle.cx_core.proofs.bit_fields.members_have_one.Given as goal

abbrev pub invariant-loop-one : goal.invariant-loop-one
invariant-loop-one l = list_any is_bit_field (map view_member (drop l.one-index l.members)) ≡ list_any is_bit_field (map view_member l.members)
