-- What the values of the code stand for: names, and what is written.
use Rattle.std.specs.Prelude.{ℕ, ◌==◌, if◌then◌else◌, List, [], ◌∷◌, ◌++◌, map, Option, slice_get, unwrap_or}
use Rattle.straight_lift.specs.declared.names.Known.{Known}
use Rattle.straight_lift.specs.declared.names.NameTable.{NameTable}
use Rattle.straight_lift.specs.declared.written.Written.{Written}
use Rattle.straight_lift.specs.declared.written.WrittenArgs.{WrittenArgs}
use Rattle.straight_lift.specs.declared.written.WrittenStmts.{WrittenStmts}
use Rattle.straight_lift.specs.Lifted.{Names, Lifted, LiftedArgs, LiftedStmts}
use Rattle.straight_lift.specs.declared.atom.Atom.{Atom}
use Rattle.straight_rust_tree.specs.Tree.{Stmt}
use Rattle.straight_rust_tree.specs.View.{stmt_view}

-- the name of the first with a number
abbrev pub known_name : List Known → ℕ → List ℕ
known_name [] number = []
known_name (one ∷ more) number = if one.number == number then one.name else known_name more number

-- the name of a temporary
abbrev pub nth_name : List (List ℕ) → ℕ → List ℕ
nth_name names number = unwrap_or (slice_get names number) []

-- the names of a table
abbrev pub names_of : NameTable → Names
names_of table = record {
  home = table.home;
  objects = known_name table.objects;
  functions = known_name table.functions;
  temporaries = nth_name table.temporaries;
}

-- what was written, without memory
abbrev pub written_view : Written → Lifted
written_view one = record { stmts = map stmt_view one.stmts; value = one.value; next = one.next }

abbrev pub args_view : WrittenArgs → LiftedArgs
args_view one = record { stmts = map stmt_view one.stmts; values = one.values; next = one.next }

abbrev pub stmts_view : WrittenStmts → LiftedStmts
stmts_view one = record { stmts = map stmt_view one.stmts; next = one.next }

-- what was written for arguments, in front of what is written for others
abbrev pub args_before : List Stmt → List (Option Atom) → LiftedArgs → LiftedArgs
args_before list values rest = record { stmts = list ++ rest.stmts; values = values ++ rest.values; next = rest.next }

-- what was written for statements, in front of what is written for others
abbrev pub stmts_before : List Stmt → LiftedStmts → LiftedStmts
stmts_before list rest = record { stmts = list ++ rest.stmts; next = rest.next }
