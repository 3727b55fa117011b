use Rattle.std.proofs.Common.{◌≡◌, map, option_map, drop}
use Rattle.std.specs.List.{list_any}
use Rattle.cx_core.specs.BitFields.{has_bit_field}
use Rattle.cx_core.specs.Views.{view_record}
use Rattle.cx_core.proofs.bit_fields.has_bit_fields.Given as goal

abbrev pub invariant-loop-one : goal.invariant-loop-one
invariant-loop-one l = list_any has_bit_field (map (option_map view_record) (drop l.one-index l.one-items)) ≡ list_any has_bit_field (map (option_map view_record) l.types.records)
