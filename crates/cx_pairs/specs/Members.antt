-- What a member that was found stands for.
use Rattle.cx_core.specs.Views.{view_type}
use Rattle.cx_pairs.specs.declared.members.FoundMember.{FoundMember}
use Rattle.cx_rules.specs.Meanings.{CFoundMember}

abbrev pub view_found : FoundMember → CFoundMember
view_found found = record { index = found.index; type = view_type found.ty.now; spot = found.spot }
