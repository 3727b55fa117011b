use Rattle.std.proofs.Common.{◌≡◌, ◌++◌, map, drop, IsTrue}
use Rattle.rs_text.specs.Text.{module_file}
use Rattle.rs_print.specs.Condition.{have_words}
use Rattle.rs_tree.specs.Views.{module_view}
use Rattle.rs_print.proofs.files.module_files.Given as goal

-- the files that are made, and those of the modules that are left, are those of all modules; the names that are left are words
abbrev pub invariant-loop-module : goal.invariant-loop-module
invariant-loop-module l = record {
  files : l.files ++ map module_file (map module_view (drop l.module-index l.modules)) ≡ map module_file (map module_view l.modules);
  words : IsTrue (have_words (map module_view (drop l.module-index l.modules)));
}
