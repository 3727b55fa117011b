-- The function that a program begins with.
use Rattle.std.specs.Prelude.{List, Option, find}
use Rattle.cx_core.specs.Linked.{is_main}
use Rattle.cx_core.specs.Trees.{CFun}

abbrev pub main_among : List CFun → Option CFun
main_among functions = find is_main functions
