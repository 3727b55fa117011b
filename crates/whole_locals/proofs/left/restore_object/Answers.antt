use Rattle.std.proofs.Common.{◌≡◌, ℕ, Option, Some, OnOk, ap, option_map, subst, sym, ◌∙◌, Bor}
use Rattle.cx_core.specs.Trees.{CObject}
use Rattle.cx_core.specs.Typing.{object_with}
use Rattle.cx_core.specs.Views.{view_object}
use Rattle.cx_core.specs.declared.program.CoreObject.{CoreObject}
use Rattle.rs_items.specs.Known.{KnownThing, view_names}
use Rattle.rs_items.specs.declared.known.Named.TheVariants.{Object}
use Rattle.whole_given.specs.Whole.{named}
use Rattle.whole_known.specs.Stages.{KnowsMore, put}
use Rattle.whole_locals.proofs.Known.{found_number}
use Rattle.whole_names.specs.Kept.{object_item}
use Rattle.whole_locals.proofs.left.restore_object.Goals as goal

pub returns-in_ok-entry-in-Some : goal.returns-in_ok-entry-in-Some
returns-in_ok-entry-in-Some c =
    let whole = named c.args.whole.now in
    let old = view_names c.args.names.now in
    let new = view_names c.keep.new.names in
    let one = view_object c.in-Some.one.now in
    let there : object_with c.args.number whole.program.objects ≡ Some one =
    sym c.object.ensures ∙ ap (λ (found : Option (Bor CoreObject)). option_map (λ (held : Bor CoreObject). view_object held.now) found) c.in-Some.is in
    let kept = subst (λ (entry : KnownThing). OnOk c.keep.result (KnowsMore old new (put entry.named (Some entry) old.known))) c.in_ok-entry-in-Some.ensures c.keep.ensures in
    let numbered = subst (λ (number : ℕ). OnOk c.keep.result (KnowsMore old new (put (Object number) (Some (object_item whole one)) old.known)))
    (found_number whole.program.objects c.args.number one there) kept in
    subst (λ (found : Option CObject). OnOk c.keep.result (KnowsMore old new (put (Object c.args.number) (option_map (object_item whole) found) old.known))) (sym there) numbered
