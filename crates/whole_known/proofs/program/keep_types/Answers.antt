use Rattle.std.proofs.Common.{◌≡◌, ◌≤◌, ℕ, OnOk, length, option_map, ap, subst, sym, ◌∙◌}
use Rattle.std.proofs.lemmas.List.{length-map}
use Rattle.cx_core.specs.Views.{view_record}
use Rattle.cx_core.specs.declared.program.Parts.{Parts}
use Rattle.rs_items.specs.Known.{view_names}
use Rattle.whole_given.specs.Whole.{named}
use Rattle.whole_known.proofs.Kept.{on_ok, types_known}
use Rattle.whole_known.specs.Stages.{KnowsMore, enums_put, records_put}
use Rattle.whole_known.proofs.program.keep_types.Goals as goal

pub returns : goal.returns
returns c =
    let whole = named c.args.whole.now in
    let old = view_names c.args.names.now in
    let middle = view_names c.keep_enums.new.names in
    let new = view_names c.keep_records.new.names in
    let enums : c.in_ok-enums.enums ≡ length whole.program.types.enums = c.in_ok-enums.ensures ∙ c.len.ensures ∙ ap (λ (parts : Parts). length parts.types.enums) c.parts.ensures in
    let records : c.in_ok-records.records ≡ length c.args.whole.now.0.types.records = c.in_ok-records.ensures ∙ c.len-2.ensures ∙ ap (λ (parts : Parts). length parts.types.records) c.parts.ensures in
    let all : c.in_ok-records.records ≡ length whole.program.types.records = records ∙ sym (length-map c.args.whole.now.0.types.records (option_map view_record)) in
    let units = subst (λ (parts : Parts). length parts.types.enums ≤ length parts.types.enum_units) c.parts.ensures (c.has_units.ensures c.if-not-has_units.false) in
    let first = subst (λ (count : ℕ). KnowsMore old middle (enums_put whole count old.known)) enums c.in_ok-keep_enums.ensures in
    let second = subst (λ (count : ℕ). OnOk c.keep_records.result (KnowsMore middle new (records_put whole count middle.known))) all c.keep_records.ensures in
    on_ok c.keep_records.result (types_known whole old middle new units c.requires first) second
