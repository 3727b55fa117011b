use Rattle.std.proofs.Common.{ℕ, List, sym, subst}
use Rattle.front.specs.CrateFiles.{StopsGet}
use Rattle.front.proofs.CrateFileLaws.{main_stops_modules, modules_stop}
use Rattle.front.proofs.crate_files.got_modules.Goals as goal

pub returns-in-Err : goal.returns-in-Err
returns-in-Err g c =
    main_stops_modules c.args.directory.now c.args.heads c.in-Some.main.now c.in-Err.why _ c.requires (sym c.in-Some.ensures.value) c.in-Err.ensures

pub returns-in-Err-got_files : goal.returns-in-Err-got_files
returns-in-Err-got_files g c =
    modules_stop c.args.directory.now c.args.heads c.in-Some.main.now c.in-Ok.paths c.in-Err-got_files.why (g.F.Shelf.state c.args.shelf.now) (g.F.Shelf.state c.got_files.new.shelf) c.requires (sym c.in-Some.ensures.value) c.in-Ok.ensures
    (subst (λ (list : List (List ℕ)). StopsGet c.args.directory.now list c.in-Err-got_files.why (g.F.Shelf.state c.args.shelf.now) (g.F.Shelf.state c.got_files.new.shelf)) c.as_slice.ensures c.in-Err-got_files.ensures)
