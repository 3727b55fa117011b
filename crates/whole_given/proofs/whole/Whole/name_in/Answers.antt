use Rattle.std.proofs.Common.{◌≡◌, Some, [], List, ℕ, IfOk, ap, subst, sym, ◌∙◌, slice_get}
use Rattle.std.specs.Option.{option_copied}
use Rattle.cx_core.specs.Views.{view_program}
use Rattle.cx_core.specs.declared.program.Parts.{Parts}
use Rattle.whole_given.specs.Whole.{named}
use Rattle.whole_keys.specs.Views.{view_key}
use Rattle.whole_names.specs.Kept.{name_in}
use Rattle.whole_names.specs.ModuleNames.{name_or}
use Rattle.whole_given.proofs.whole.Whole.name_in.Goals as goal

pub returns-in-Some : goal.returns-in-Some
returns-in-Some c =
    let there : slice_get c.self.inside.given c.args.unit ≡ Some c.in-Some.made.now = sym c.get.ensures.value ∙ ap option_copied c.in-Some.is in
    let same = c.name.ensures ∙ (c.self.invariant.2 c.args.unit c.in-Some.made.now there).names_are c.args.key in
    let name = ap (name_or []) same ∙ ap (λ (it : Parts × List (List ℕ)). name_in (named it) c.args.unit (view_key c.args.key)) c.self.view_is in
    subst (λ (wanted : List ℕ). IfOk c.copied.result (λ name. name ≡ wanted)) name c.copied.ensures
