use Rattle.std.proofs.Common.{sym, subst}
use Rattle.cx_core.specs.Views.{view_types}
use Rattle.cx_core.specs.ValidTypes.{AreTypes}
use Rattle.cx_core.specs.declared.program.Parts.{Parts}
use Rattle.cx_exec.proofs.Sizes.{none_too_large}
use Rattle.cx_exec.proofs.run.layouts_of.Goals as goal

pub unreachable-requires : goal.unreachable-requires
unreachable-requires c =
    let types : AreTypes (view_types c.parts.result.now.types) =
    subst (λ (parts : Parts). AreTypes (view_types parts.types)) (sym c.parts.ensures.value) c.parts.ensures.linked.types in
    none_too_large (view_types c.parts.result.now.types) types (c.in-Err-TooLarge.ensures.too_large c.in-Err-TooLarge.field-0-is)
