-- The law of entries: where a function is entered as it is written, both stand before their bodies.
use Rattle.std.specs.Prelude.{ℕ, List}
use Rattle.cx_core.specs.Trees.{CFun}
use Rattle.lift_calls.specs.Entries.{EntryOwes}
use Rattle.lift_calls.specs.Frames.{FunctionNames}
use Rattle.lift_calls.specs.Programs.{Setting}
use Rattle.rs_text.specs.Tree.{Stmt, stmts, FunctionTree}
use Rattle.lift_calls_entry.specs.Entry.{EntryMeans}

abbrev pub EntriesOwe : Type 0
EntriesOwe =
    (s : Setting) (one : CFun) (tree : FunctionTree) (names : FunctionNames) (copies : List Stmt) (units steps : ℕ) → EntryMeans s one tree names copies →
    EntryOwes s one tree names (stmts copies) units steps
