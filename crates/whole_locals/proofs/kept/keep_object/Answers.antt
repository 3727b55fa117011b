use Rattle.std.proofs.Common.{◌≡◌, List, ℕ, Option, Some, OnOk, ap, option_map, subst, sym, ◌∙◌, Bor}
use Rattle.cx_core.specs.Trees.{CObject}
use Rattle.cx_core.specs.Typing.{object_with}
use Rattle.cx_core.specs.Views.{view_object}
use Rattle.cx_core.specs.declared.program.CoreObject.{CoreObject}
use Rattle.rs_items.specs.Known.{KnownThing, view_names}
use Rattle.rs_items.specs.declared.known.Named.TheVariants.{Object}
use Rattle.whole_given.specs.Whole.{named}
use Rattle.whole_known.specs.Stages.{KnowsMore, put}
use Rattle.whole_locals.proofs.Known.{found_number}
use Rattle.whole_locals.specs.Functions.{own_item}
use Rattle.whole_locals.proofs.kept.keep_object.Goals as goal

pub returns-in_ok-entry-in-Some : goal.returns-in_ok-entry-in-Some
returns-in_ok-entry-in-Some c =
    let whole = named c.args.whole.now in
    let name = c.args.name.now in
    let old = view_names c.args.names.now in
    let new = view_names c.keep.new.names in
    let one = view_object c.in-Some.one.now in
    let there : object_with c.args.number whole.program.objects ≡ Some one =
    sym c.object.ensures ∙ ap (λ (found : Option (Bor CoreObject)). option_map (λ (held : Bor CoreObject). view_object held.now) found) c.in-Some.is in
    let made = c.in_ok-entry-in-Some.ensures ∙ ap (λ (copied : List ℕ). own_item whole copied one) c.in_ok-copied-in-Some.ensures in
    let kept = subst (λ (entry : KnownThing). OnOk c.keep.result (KnowsMore old new (put entry.named (Some entry) old.known))) made c.keep.ensures in
    let numbered = subst (λ (number : ℕ). OnOk c.keep.result (KnowsMore old new (put (Object number) (Some (own_item whole name one)) old.known)))
    (found_number whole.program.objects c.args.number one there) kept in
    subst (λ (found : Option CObject). OnOk c.keep.result (KnowsMore old new (put (Object c.args.number) (option_map (own_item whole name) found) old.known))) (sym there) numbered
