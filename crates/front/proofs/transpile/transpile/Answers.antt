use Rattle.clap.specs.Walk.{texts}
use Rattle.front.specs.Outcome.{ending_of}
use Rattle.straight_core.specs.Views.{view_program}
use Rattle.straight_items.specs.Modules.{stem_of}
use Rattle.straight_items.proofs.KeptLaws.{plain_stems}
use Rattle.front.proofs.KeptLaws.{names_kept}
use Rattle.front.proofs.StraightLaws.{core_straight}
use Rattle.front.proofs.TranspileLaws.{stops_leave, one_leaves}
use Rattle.front.proofs.transpile.transpile.Goals as goal

pub crate_files-requires : goal.crate_files-requires
crate_files-requires g c =
    let built = c.in-Ok-program_of_sources.ensures.built.core.built in
    record {
      straight = core_straight built.program_is.tree (view_program c.in-Ok-program_of_sources.program) built.program_is.typed;
      kept = names_kept (view_program c.in-Ok-program_of_sources.program) built.kept;
      named = plain_stems (stem_of c.args.first.now) built.plain;
    }

pub returns-in-Err : goal.returns-in-Err
returns-in-Err g c =
    stops_leave c.args.directory.now (texts c.args.names.now) c.args.first.now c.in-Ok.sources c.in-Err.stop (ending_of c.stopped.result) _ _ c.in-Ok.ensures c.requires
    c.in-Err.ensures.stopped c.stopped.ensures

pub returns-in-Ok-crate_files : goal.returns-in-Ok-crate_files
returns-in-Ok-crate_files g c =
    let program = view_program c.in-Ok-program_of_sources.program in
    one_leaves c.args.directory.now (texts c.args.names.now) c.args.first.now c.in-Ok.sources program c.in-Ok-crate_files.files _ _ _ (ending_of c.put_crate.result) c.in-Ok.ensures c.requires
    c.in-Ok-program_of_sources.ensures.built c.in-Ok-crate_files.ensures c.put_crate.ensures
