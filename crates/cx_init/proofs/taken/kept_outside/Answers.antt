use Rattle.std.proofs.Common.{◌++◌, [], ◌∷◌, if◌then◌else◌, sym, ap, ◌∙◌, map}
use Rattle.std.proofs.lemmas.List.{map-append}
use Rattle.cx_init.proofs.Taking.{kept_last}
use Rattle.cx_init.specs.Views.{view_stored}
use Rattle.cx_rules.specs.Pieces.{is_within, kept_outside}
use Rattle.cx_init.proofs.taken.kept_outside.Goals as goal

pub loop-one-preserved : goal.loop-one-preserved
loop-one-preserved c = c.in_ok-keep_outside.ensures
    ∙ ap (λ front. front ++ (if is_within c.args.part.now c.in-Some.one.path then [] else view_stored c.in-Some.one ∷ [])) c.loop-one.invariant
    ∙ sym (kept_last c.args.part.now (map view_stored c.loop-one.yielded) (view_stored c.in-Some.one))
    ∙ ap (kept_outside c.args.part.now) (sym (map-append view_stored c.loop-one.yielded (c.in-Some.one ∷ [])))
