use Rattle.std.proofs.Common.{◌≡◌, ◌++◌, drop}
use Rattle.rs_valid.specs.Lists.{names_of}
use Rattle.rs_parse.proofs.outline.copied_names.Given as goal

-- those that are left come behind those that were copied
abbrev pub invariant-loop-module : goal.invariant-loop-module
invariant-loop-module l = l.names ++ names_of (drop l.module-index l.modules) ≡ names_of l.modules
