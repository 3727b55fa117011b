-- Which tentative definition that stays incomplete is refused at the end of a unit: the first in the text (ISO C99, 6.9.2p2, p3).
use Rattle.std.specs.Prelude.{nat_le, if◌then◌else◌, List, [], ◌∷◌, Option, None, Some}
use Rattle.cr_base.specs.declared.refusal.Refusal.{Refusal}
use Rattle.cx_rules.specs.Nodes.{tentative_node}
use Rattle.cx_rules.specs.Readings.{refusal_at}
use Rattle.cx_rules.specs.Scope.{CScope, CThing}
use Rattle.cx_rules.specs.UnitWalk.{tentative_line}
use Rattle.cx_unit_ends.specs.Ends.{is_left}

-- why a tentative definition is refused
abbrev pub refused : CScope → CThing → Option Refusal
refused scope one = refusal_at (record { scope = scope; line = tentative_line one; node = tentative_node one.type })

abbrev pub refused_if_left : CScope → CThing → Option Refusal
refused_if_left scope one = if is_left one then refused scope one else None

-- the one that stands first in the text; of two on one line, the first
abbrev pub earlier : Option Refusal → Option Refusal → Option Refusal
earlier None other = other
earlier (Some one) None = Some one
earlier (Some one) (Some other) = if nat_le one.line other.line then Some one else Some other

abbrev pub first_refused : CScope → List CThing → Option Refusal
first_refused scope [] = None
first_refused scope (one ∷ others) = earlier (refused_if_left scope one) (first_refused scope others)
