-- Units that break no rule together have a `main`.
use Rattle.std.proofs.Common.{rules, ◌≡◌, Bool, true, false, Option, None, Some, if◌then◌else◌, nat_lt, length}
use Rattle.std.specs.Prelude.{is_none, is_some}
use Rattle.cr_base.specs.declared.refusal.Refusal.{Refusal}
use Rattle.cx_core.specs.Linked.{main_of}
use Rattle.cx_core.specs.Trees.{CFun, CProgram}
use Rattle.cx_links.specs.Laws.{LinkedUnitsHaveMain}
use Rattle.cx_links.specs.Program.{linked, all_mentions, types_of_all}
use Rattle.cx_links.specs.Rules.{broken_links, first_in, by_mentions, most_units}

one_there : (program : CProgram) (many : Bool) (refusal : Refusal) (first : Option Refusal)
    → (if many then Some refusal else by_mentions program first) ≡ None → is_some (main_of program) ≡ true
one_there program true refusal first fine = search rules
one_there program false refusal (Some broken) fine = search rules
one_there program false refusal None fine = by_main (main_of program) _ fine
  where
    by_main : (found : Option CFun) (missing : Refusal) → (if is_none found then Some missing else None) ≡ None → is_some found ≡ true
    by_main None missing fine = search rules
    by_main (Some found) missing fine = search rules

pub units_have_main : LinkedUnitsHaveMain
unfolding broken_links
units_have_main units fine =
    one_there (linked units) (nat_lt most_units (length units)) _ (first_in (types_of_all units) (all_mentions units) (all_mentions units)) fine
