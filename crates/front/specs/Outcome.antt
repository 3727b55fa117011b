-- How a job ended, as the program holds it.
use Rattle.front.specs.declared.outcome.Outcome.{Outcome}
use Rattle.front.specs.declared.outcome.Outcome.TheVariants.{Done, Refused, Usage, CannotRead, CannotReadPart, CannotWrite, Memory, Told, NotRust, IllTyped}
use Rattle.front.specs.Report.{Ending, done, refused, usage, cannot_read, cannot_write, memory, told, not_rust, ill_typed}
use Rattle.run_ends.specs.Told.{told_of}

abbrev pub ending_of : Outcome → Ending
ending_of Done = done
ending_of (Refused file refusal) = refused file.now refusal
ending_of Usage = usage
ending_of (CannotRead name) = cannot_read name.now
ending_of (CannotReadPart name) = cannot_read name
ending_of (CannotWrite name) = cannot_write name
ending_of Memory = memory
ending_of (Told of) = told (told_of of)
ending_of (NotRust name line) = not_rust name line
ending_of (IllTyped name item) = ill_typed name item
