-- How a job ends: its exit status, and the line that it reports.
use Rattle.std.specs.Prelude.{◌≡◌, ℕ, ◌==◌, ◌≤◌, ◌⊎◌, List, [], ◌++◌, take, length, codes, decimal, Bool, true, false, if◌then◌else◌}
use Rattle.cr_base.specs.Count.{Rose}
use Rattle.cr_base.specs.Rules.{code_of, text_of}
use Rattle.cr_base.specs.declared.refusal.Refusal.{Refusal}
use Rattle.cr_base.specs.declared.rule.Rule.{Rule}
use Rattle.cr_base.specs.declared.rule.Rule.TheVariants.{L3, M1, M2}
use Rattle.run_ends.specs.Told.{Tale}
use Rattle.run_ends.specs.Told as run
use Rattle.shelf.specs.Sink.{SinkState, Appended}

-- how a job ended
pub data Ending : Type 0 where
  -- what it is for was done
  done : Ending
  -- the units break a rule: that of this file, or all together
  refused : (file : List ℕ) → Refusal → Ending
  -- the words are no job
  usage : Ending
  -- a file couldn't be read
  cannot_read : (name : List ℕ) → Ending
  -- a file couldn't be written
  cannot_write : (name : List ℕ) → Ending
  -- want of memory
  memory : Ending
  -- a program was run, and this is told of it
  told : Tale → Ending
  -- the files of a crate are none of the subset: that of this name is at fault, at a line
  not_rust : (name : List ℕ) (line : ℕ) → Ending
  -- an item of a crate, counted from 0, isn't well typed, in the module of this name
  ill_typed : (name : List ℕ) (item : ℕ) → Ending

abbrev pub status_of : Ending → ℕ
status_of done = 0
status_of (refused file refusal) = 1
status_of usage = 2
status_of (cannot_read name) = 3
status_of (cannot_write name) = 4
status_of memory = 10
status_of (told tale) = run.status_of tale
status_of (not_rust name line) = 11
status_of (ill_typed name item) = 11

unfoldable pub usage_report : List ℕ
usage_report = codes "c2rs: usage: transpile -o DIR FILE.. | run-c [--steps N] [--order LIST] FILE.. | run-rust [--steps N] DIR\n"

unfoldable pub memory_report : List ℕ
memory_report = codes "c2rs: out of memory\n"

-- a rule of the whole program
unfoldable pub program_report : Rule → List ℕ
program_report rule = codes "c2rs: " ++ (code_of rule ++ (codes ": " ++ (text_of rule ++ codes "\n")))

-- a rule of a whole file
unfoldable pub whole_file_report : List ℕ → Rule → List ℕ
whole_file_report file rule = file ++ (codes ": " ++ (code_of rule ++ (codes ": " ++ (text_of rule ++ codes "\n"))))

-- a rule at a line of a file
unfoldable pub line_report : List ℕ → ℕ → Rule → List ℕ
line_report file line rule =
    file ++ (codes ":" ++ (decimal line ++ (codes ": " ++ (code_of rule ++ (codes ": " ++ (text_of rule ++ codes "\n"))))))

-- whether a rule speaks of a whole file, and not of a line
abbrev pub is_of_file : Rule → Bool
is_of_file M1 = true
is_of_file rule = false

-- whether a refusal speaks of the whole program, and not of a file: there are too many units, or `main` is missing, which is told with
-- line 0
abbrev pub is_of_program : Rule → ℕ → Bool
is_of_program M2 line = true
is_of_program L3 line = line == 0
is_of_program rule line = false

abbrev pub refusal_report : List ℕ → Refusal → List ℕ
refusal_report file refusal =
    if is_of_program refusal.rule refusal.line then program_report refusal.rule
    else if is_of_file refusal.rule then whole_file_report file refusal.rule
    else line_report file refusal.line refusal.rule

unfoldable pub unread_report : List ℕ → List ℕ
unread_report name = codes "c2rs: cannot read " ++ (name ++ codes "\n")

unfoldable pub unwritten_report : List ℕ → List ℕ
unwritten_report name = codes "c2rs: cannot write " ++ (name ++ codes "\n")

unfoldable pub not_rust_report : List ℕ → ℕ → List ℕ
not_rust_report name line = codes "c2rs: not Rust: " ++ (name ++ (codes ":" ++ (decimal line ++ codes "\n")))

unfoldable pub ill_typed_report : List ℕ → ℕ → List ℕ
ill_typed_report name item = codes "c2rs: ill typed: " ++ (name ++ (codes ": item " ++ (decimal item ++ codes "\n")))

-- what is reported; a job that was done reports nothing
abbrev pub report_of : Ending → List ℕ
report_of done = []
report_of (refused file refusal) = refusal_report file refusal
report_of usage = usage_report
report_of (cannot_read name) = unread_report name
report_of (cannot_write name) = unwritten_report name
report_of memory = memory_report
report_of (told tale) = run.report_of tale
report_of (not_rust name line) = not_rust_report name line
report_of (ill_typed name item) = ill_typed_report name item

-- a part of a text, from its beginning on, was appended
abbrev pub AppendedPart : List ℕ → SinkState → SinkState → Type 0
AppendedPart report before after =
    (count : ℕ) × (count ≤ length report) × Appended (take count report) before.written after.written

-- a write of the report failed: a part of the report was written
pub record WriteFailed (report : List ℕ) (before after : SinkState) : Type 0 where
  pub rose : Rose before.faults after.faults
  pub part : AppendedPart report before after

-- that memory ran out was reported, or a write of that failed
abbrev pub ReportsMemory : SinkState → SinkState → Type 0
ReportsMemory before after = Appended memory_report before.written after.written ⊎ WriteFailed memory_report before after

-- the whole report was written, and no write of it failed
pub record WholeWritten (report : List ℕ) (before after : SinkState) : Type 0 where
  pub appended : Appended report before.written after.written
  pub still : after.faults ≡ before.faults

-- how an ending that has a report was told: the status is its own and the whole report was written; or a
-- write of the report failed, and the status is 4; or memory ran out, and the status is 10
abbrev pub IsReported : Ending → SinkState → SinkState → ℕ → Type 0
IsReported ending before after status =
    ((status ≡ status_of ending) × WholeWritten (report_of ending) before after)
    ⊎ (((status ≡ 4) × WriteFailed (report_of ending) before after) ⊎ ((status ≡ 10) × ReportsMemory before after))

-- how an ending was told: a job that was done reports nothing, and want of memory has status 10 also where
-- a write of its report failed
abbrev pub IsTold : Ending → SinkState → SinkState → ℕ → Type 0
IsTold done before after status = (status ≡ 0) × (after ≡ before)
IsTold memory before after status = (status ≡ 10) × ReportsMemory before after
IsTold (refused file refusal) before after status = IsReported (refused file refusal) before after status
IsTold usage before after status = IsReported usage before after status
IsTold (cannot_read name) before after status = IsReported (cannot_read name) before after status
IsTold (cannot_write name) before after status = IsReported (cannot_write name) before after status
IsTold (told tale) before after status = IsReported (told tale) before after status
IsTold (not_rust name line) before after status = IsReported (not_rust name line) before after status
IsTold (ill_typed name item) before after status = IsReported (ill_typed name item) before after status

-- a report was written and the status is its own, or a write of it failed and the status is 4
abbrev pub IsWritten : List ℕ → ℕ → SinkState → SinkState → ℕ → Type 0
IsWritten report own before after status =
    ((status ≡ own) × WholeWritten report before after) ⊎ ((status ≡ 4) × WriteFailed report before after)
