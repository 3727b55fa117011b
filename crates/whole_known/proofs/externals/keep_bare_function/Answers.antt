use Rattle.std.proofs.Common.{◌≡◌, ℕ, Option, Some, OnOk, ap, option_map, subst, sym, ◌∙◌, Bor}
use Rattle.cx_core.specs.Trees.{COuter}
use Rattle.cx_core.specs.Typing.{outer_with}
use Rattle.cx_core.specs.Views.{view_outer}
use Rattle.cx_core.specs.declared.program.Outer.{Outer}
use Rattle.rs_items.specs.Known.{KnownThing, view_names}
use Rattle.rs_items.specs.declared.known.Named.TheVariants.{BareFunction}
use Rattle.whole_given.specs.Whole.{named}
use Rattle.whole_known.proofs.Declared.{found_number}
use Rattle.whole_known.specs.Stages.{KnowsMore, put}
use Rattle.whole_names.specs.Kept.{bare_item}
use Rattle.whole_known.proofs.externals.keep_bare_function.Goals as goal

pub returns-in_ok-entry-in-Some : goal.returns-in_ok-entry-in-Some
returns-in_ok-entry-in-Some c =
    let whole = named c.args.whole.now in
    let old = view_names c.args.names.now in
    let new = view_names c.keep.new.names in
    let one = view_outer c.in-Some.one.now in
    let there : outer_with c.args.number whole.program.externals ≡ Some one = sym c.outer.ensures ∙ ap (λ (found : Option (Bor Outer)). option_map (λ (held : Bor Outer). view_outer held.now) found) c.in-Some.is in
    let kept = subst (λ (entry : KnownThing). OnOk c.keep.result (KnowsMore old new (put entry.named (Some entry) old.known))) c.in_ok-entry-in-Some.ensures c.keep.ensures in
    let numbered = subst (λ (number : ℕ). OnOk c.keep.result (KnowsMore old new (put (BareFunction number) (Some (bare_item whole c.args.unit one)) old.known)))
    (found_number whole.program.externals c.args.number one there) kept in
    subst (λ (found : Option COuter). OnOk c.keep.result (KnowsMore old new (put (BareFunction c.args.number) (option_map (bare_item whole c.args.unit) found) old.known))) (sym there) numbered
