use Rattle.std.proofs.Common.{◌++◌, [], ◌∷◌, sym, ap, ◌∙◌, map}
use Rattle.std.proofs.lemmas.List.{map-append}
use Rattle.cx_core.specs.ValidTypes.{part_at}
use Rattle.cx_core.specs.Views.{view_put, view_type}
use Rattle.cx_init.proofs.PartsLaws.{listed_last}
use Rattle.cx_init.specs.Parts.{put_before, put_of, puts_listed}
use Rattle.cx_init.specs.Views.{view_stored}
use Rattle.cx_kinds.specs.Known.{types_in}
use Rattle.cx_init.proofs.puts.puts_listed.Goals as goal

pub loop-one-preserved : goal.loop-one-preserved
loop-one-preserved c = c.in_ok-push_found.ensures
    ∙ ap (λ last. map view_put c.loop-one.puts ++ put_before last []) c.in_ok-found.ensures
    ∙ ap (λ front. front ++ put_before (put_of (view_stored c.in-Some.one) (part_at (types_in c.args.known) c.in-Some.one.path (view_type c.args.t.now))) []) c.loop-one.invariant
    ∙ sym (listed_last (types_in c.args.known) (view_type c.args.t.now) (map view_stored c.loop-one.yielded) (view_stored c.in-Some.one))
    ∙ ap (puts_listed (types_in c.args.known) (view_type c.args.t.now)) (sym (map-append view_stored c.loop-one.yielded (c.in-Some.one ∷ [])))
