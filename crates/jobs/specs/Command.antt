-- The command line, in the terms of `clap`: one level of subcommands, each with its options and what stands without one.
use Rattle.std.specs.Prelude.{[], ◌∷◌, Some, true, codes}
use Rattle.clap.specs.Simple.{App, Shape, new_app, new_rule, new_shape, on_top, with_subcommand}
use Rattle.clap.specs.Walk.{Rule, Text}
use Rattle.clap.specs.declared.builder.action.ArgAction.TheVariants.{Append}

-- `--NAME VALUE`
abbrev pub option_rule : Text → Rule
option_rule name = record (new_rule name) { long = Some name }

-- `-o DIR`, which has to be there
abbrev pub output_rule : Rule
output_rule = record (new_rule (codes "output")) { short = Some 111; required = true }

-- `FILE..`, one or more
abbrev pub files_rule : Rule
files_rule = record (new_rule (codes "files")) { required = true; action = Some Append }

-- `DIR`, one
abbrev pub directory_rule : Rule
directory_rule = record (new_rule (codes "directory")) { required = true }

abbrev pub steps_rule : Rule
steps_rule = option_rule (codes "steps")

abbrev pub order_rule : Rule
order_rule = option_rule (codes "order")

abbrev pub transpile_shape : Shape
transpile_shape = record (new_shape (codes "transpile")) { rules = output_rule ∷ files_rule ∷ [] }

abbrev pub run_c_shape : Shape
run_c_shape = record (new_shape (codes "run-c")) { rules = steps_rule ∷ order_rule ∷ files_rule ∷ [] }

abbrev pub run_rust_shape : Shape
run_rust_shape = record (new_shape (codes "run-rust")) { rules = steps_rule ∷ directory_rule ∷ [] }

-- the program's name isn't among the words
abbrev pub base_app : App
base_app = on_top (λ top. record top { no_binary_name = true }) (new_app (codes "c2rs"))

-- `c2rs transpile -o DIR FILE..`, `c2rs run-c [--steps N] [--order LIST] FILE..`, `c2rs run-rust [--steps N] DIR`
abbrev pub command : App
command = with_subcommand (with_subcommand (with_subcommand base_app transpile_shape) run_c_shape) run_rust_shape
