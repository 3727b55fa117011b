use Rattle.std.proofs.Common.{◌≡◌, drop}
use Rattle.std.specs.List.{list_all}
use Rattle.rs_parse.specs.Crates.{stands_once}
use Rattle.rs_text.specs.Text.{module_path}
use Rattle.rs_valid.specs.Lists.{names_of}
use Rattle.rs_parse.proofs.names.have_files.Given as goal

-- what is left answers for all
abbrev pub invariant-loop-module : goal.invariant-loop-module
invariant-loop-module l =
    list_all (λ name. stands_once l.files (module_path name)) (names_of (drop l.module-index l.modules)) ≡ list_all (λ name. stands_once l.files (module_path name)) (names_of l.modules)
