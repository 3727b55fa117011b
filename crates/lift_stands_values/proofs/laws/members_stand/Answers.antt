use Rattle.lift_stands_values.proofs.Members.{member_below, field_found, base_found}
use Rattle.lift_stands_values.proofs.MemberBits.{bits_member}
use Rattle.lift_stands_values.proofs.MemberValues.{scalar_member, record_member}
use Rattle.lift_stands_values.proofs.laws.members_stand.Goals as goal

pub returns : goal.returns
returns c = record { places = member_below; fields = field_found; bases = base_found; scalars = scalar_member; records = record_member; bits = bits_member }
