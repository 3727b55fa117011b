use Rattle.std.proofs.Common.{◌≡◌, true, false, sym, ◌∙◌}
use Rattle.straight_core.specs.Views.{view_program}
use Rattle.front.specs.Steps.{BuildsAs, StopsAs}
use Rattle.front.proofs.UnitLaws.{kept_error, no_program, not_kept}
use Rattle.front.proofs.KeptLaws.{not_true}
use Rattle.front.proofs.units.built.Goals as goal

pub returns-in_err-program-clause-stopped : goal.returns-in_err-program-clause-stopped
returns-in_err-program-clause-stopped c =
    kept_error (StopsAs (BuildsAs c.args.file.now c.args.tokens.now)) c.in_err-program.field-0.0 c.from_residual.result c.from_residual.ensures.1
    (no_program c.args.file.now c.args.tokens.now c.in_err-program.field-0.0 c.in_err-program.ensures.stopped)

pub returns-then-not-keeps_names-clause-stopped : goal.returns-then-not-keeps_names-clause-stopped
returns-then-not-keeps_names-clause-stopped c =
    not_kept c.args.file.now c.args.tokens.now (view_program c.in_ok-program.program) c.not_built-then-not-keeps_names.result (λ kept. not_true c.keeps_names.result c.if-not-keeps_names.true (c.keeps_names.ensures.1 kept)) (c.in_ok-program.ensures.only) c.not_built-then-not-keeps_names.ensures
