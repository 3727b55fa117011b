-- How a structure or union is laid out.
use Rattle.cx_core.specs.Layouts.{CRow}
use Rattle.whole_records.specs.declared.laid.LaidOut.{LaidOut}

abbrev pub view_laid : LaidOut → CRow
view_laid one = record { laid = record { size = one.size; align = one.align }; spots = one.spots }
