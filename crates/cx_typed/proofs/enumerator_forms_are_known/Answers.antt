use Rattle.cx_typed.proofs.Enumerated.{enumerator_goes, no_enumerators_go, more_enumerators_go, enum_list_goes}
use Rattle.cx_typed.proofs.enumerator_forms_are_known.Goals as goal

pub returns : goal.returns
returns c = record { enumerator = enumerator_goes; none = no_enumerators_go; more = more_enumerators_go; enum_list = enum_list_goes }
