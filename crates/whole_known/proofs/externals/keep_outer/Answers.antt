use Rattle.std.proofs.Common.{◌≡◌, false, Option, Some, OnOk, is_some, ap, option_map, subst, sym, ◌∙◌, Bor}
use Rattle.cx_core.specs.Trees.{CFun}
use Rattle.cx_core.specs.Typing.{function_with}
use Rattle.cx_core.specs.Views.{view_outer}
use Rattle.rs_items.specs.Known.{KnownThing, view_names}
use Rattle.rs_items.specs.declared.known.Named.{Named}
use Rattle.rs_items.specs.declared.known.Named.TheVariants.{Function}
use Rattle.whole_given.specs.Whole.{named}
use Rattle.whole_known.proofs.Declared.{none_defined, outer_named, outer_there}
use Rattle.whole_known.specs.Modules.{outer_made}
use Rattle.whole_known.specs.Stages.{KnowsMore, put}
use Rattle.whole_known.proofs.externals.keep_outer.Goals as goal

pub returns : goal.returns
returns c =
    let whole = named c.args.whole.now in
    let unit = c.args.unit in
    let old = view_names c.args.names.now in
    let new = view_names c.keep.new.names in
    let one = view_outer c.args.one.now in
    let made = outer_made whole unit one in
    let kept = subst (λ (entry : KnownThing). OnOk c.keep.result (KnowsMore old new (put entry.named (Some entry) old.known))) c.in_ok-entry.ensures c.keep.ensures in
    let placed = subst (λ (of : Named). OnOk c.keep.result (KnowsMore old new (put of (Some made) old.known))) (outer_named whole unit one) kept in
    let none : is_some (function_with one.function whole.program.functions) ≡ false = none_defined c.function.result (function_with one.function whole.program.functions) c.function.ensures (sym c.is_some.ensures ∙ c.if-is_some.false) in
    subst (λ (entry : Option KnownThing). OnOk c.keep.result (KnowsMore old new (put (Function one.function) entry old.known))) (sym (outer_there whole unit one none)) placed
