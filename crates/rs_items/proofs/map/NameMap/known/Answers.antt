use Rattle.std.proofs.Common.{sym, ◌∙◌}
use Rattle.indexmap.specs.IndexMap.{get_by}
use Rattle.rs_items.specs.Known.{same_named}
use Rattle.rs_items.proofs.Kept.{known_other, named_alike, seen}
use Rattle.rs_items.proofs.map.NameMap.known.Goals as goal

pub returns-in_default : goal.returns-in_default
returns-in_default c =
    seen c.get-in_default.result (get_by (same_named c.args.named) c.args.self.now.kept) (c.get-in_default.ensures.value ∙ named_alike c.args.self.now.kept c.args.named)
    ∙ sym (known_other c.args.self.now c.args.named c.in_default.not-Temporary)
