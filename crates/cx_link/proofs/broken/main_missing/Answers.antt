use Rattle.std.proofs.Common.{rules, ◌≡◌, map, true, false, None, Some, if◌then◌else◌, ap, sym, ◌∙◌}
use Rattle.std.specs.Prelude.{not}
use Rattle.cr_base.specs.declared.rule.Rule.TheVariants.{L3}
use Rattle.cx_core.specs.Views.{view_unit}
use Rattle.cx_link.specs.Mains.{has_main}
use Rattle.cx_links.specs.Rules.{nowhere}
use Rattle.cx_link.proofs.Joining.{main_is}
use Rattle.cx_link.proofs.broken.main_missing.Goals as goal

pub returns-then-has_main : goal.returns-then-has_main
returns-then-has_main c =
    let there : has_main (map view_unit c.args.units.now) ≡ true = search rules in
    sym (ap (λ missing. if missing then Some (nowhere L3) else None) (main_is (map view_unit c.args.units.now) ∙ ap not there))

pub returns-else-has_main : goal.returns-else-has_main
returns-else-has_main c =
    let there : has_main (map view_unit c.args.units.now) ≡ false = search rules in
    ap Some c.nowhere.ensures ∙ sym (ap (λ missing. if missing then Some (nowhere L3) else None) (main_is (map view_unit c.args.units.now) ∙ ap not there))
