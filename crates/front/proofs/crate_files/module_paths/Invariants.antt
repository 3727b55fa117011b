use Rattle.std.proofs.Common.{◌≡◌, ◌++◌, map, drop}
use Rattle.rs_text.specs.Text.{module_path}
use Rattle.front.proofs.crate_files.module_paths.Given as goal

-- the paths so far, and those of the names that are left
abbrev pub invariant-loop-name : goal.invariant-loop-name
invariant-loop-name l = l.paths ++ map module_path (drop l.name-index l.names) ≡ map module_path l.names
