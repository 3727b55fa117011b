use Rattle.std.proofs.Common.{◌≡◌, drop}
use Rattle.rs_items_modules.specs.Modules.{module_names, module_names_from}
use Rattle.rs_items_modules.proofs.modules.module_names.Given as goal

-- with what is left the names are all
abbrev pub invariant-loop-file : goal.invariant-loop-file
invariant-loop-file l = module_names_from l.names (drop l.file-index l.files) ≡ module_names l.files
