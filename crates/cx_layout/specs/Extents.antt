-- The extent of a type as the code has it: its size may be more than numbers of 64 bits hold.
use Rattle.std.specs.Prelude.{nat_le, if◌then◌else◌, Option, None, Some}
use Rattle.cr_base.specs.declared.layout.Laid.{Laid}
use Rattle.cr_base.specs.Layout.{most_bytes}
use Rattle.cx_layout.specs.declared.extent.Extent.{Extent}
use Rattle.cx_layout.specs.declared.extent.Extent.TheVariants.{Unknown, TooLarge, Known}

-- what is told of an extent
abbrev pub told : Option Laid → Extent
told None = Unknown
told (Some laid) = if nat_le laid.size most_bytes then Known laid else TooLarge
