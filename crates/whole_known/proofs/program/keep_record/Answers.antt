use Rattle.std.proofs.Common.{ℕ, Option, Some, OnOk, ap, subst, sym, ◌∙◌}
use Rattle.rs_items.specs.Known.{KnownThing, view_names}
use Rattle.rs_items.specs.declared.known.Named.TheVariants.{Record}
use Rattle.whole_given.specs.Whole.{named}
use Rattle.whole_known.proofs.Kept.{record_there}
use Rattle.whole_known.specs.Entries.{record_entry}
use Rattle.whole_known.specs.Stages.{KnowsMore, put}
use Rattle.whole_known.proofs.program.keep_record.Goals as goal

pub returns : goal.returns
returns c =
    let old = view_names c.args.names.now in
    let new = view_names c.keep.new.names in
    let kept = subst (λ (entry : KnownThing). OnOk c.keep.result (KnowsMore old new (put entry.named (Some entry) old.known))) (c.in_ok-entry.ensures ∙ ap (λ (unit : ℕ). record_entry (named c.args.whole.now) c.args.number unit) c.record_unit.ensures) c.keep.ensures in
    subst (λ (entry : Option KnownThing). OnOk c.keep.result (KnowsMore old new (put (Record c.args.number) entry old.known)))
    (sym (record_there (named c.args.whole.now) c.args.number (sym c.is_completed.ensures ∙ c.if-not-is_completed.false))) kept
