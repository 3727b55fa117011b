-- Whether units define `main`.
use Rattle.std.specs.Prelude.{Bool, List}
use Rattle.std.specs.List.{list_any}
use Rattle.cx_core.specs.Linked.{is_main}
use Rattle.cx_core.specs.Trees.{CUnit}

abbrev pub has_main : List CUnit → Bool
has_main units = list_any (λ one. list_any is_main one.functions) units
