use Rattle.std.proofs.Common.{ℕ, List, subst, ◌∙◌}
use Rattle.front.specs.CrateFiles.{AreGotAll}
use Rattle.front.proofs.CrateFileLaws.{crate_of}
use Rattle.front.proofs.crate_files.got_crate.Goals as goal

pub returns : goal.returns
returns g c =
    crate_of c.args.directory.now c.in_ok-heads.heads c.got_modules.result (g.F.Shelf.state c.args.shelf.now) (g.F.Shelf.state c.got_files.new.shelf) _
    (subst (λ (list : List (List ℕ)). AreGotAll c.args.directory.now list c.in_ok-heads.heads (g.F.Shelf.state c.args.shelf.now) (g.F.Shelf.state c.got_files.new.shelf)) (c.as_slice.ensures ∙ c.in_ok-paths.ensures) c.in_ok-heads.ensures)
    c.got_modules.ensures
