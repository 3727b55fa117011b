use Rattle.std.proofs.Common.{◌≡◌, drop}
use Rattle.std.specs.List.{list_all}
use Rattle.rs_text.specs.Names.{is_module_name}
use Rattle.rs_valid.specs.Lists.{names_of}
use Rattle.rs_valid.proofs.crates.are_module_names.Given as goal

-- what is left answers for all
abbrev pub invariant-loop-module : goal.invariant-loop-module
invariant-loop-module l = list_all is_module_name (names_of (drop l.module-index l.modules)) ≡ list_all is_module_name (names_of l.modules)
