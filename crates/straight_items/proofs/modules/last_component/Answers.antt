use Rattle.std.proofs.Common.{◌∙◌, sym, lit<}
use Rattle.std.proofs.lemmas.Str.Pattern.{rfind_char}
use Rattle.straight_items.proofs.ModuleLaws.{after_last_at, after_last_none}
use Rattle.straight_items.proofs.modules.last_component.Goals as goal

pub returns-in-Some : goal.returns-in-Some
returns-in-Some c =
    c.range_from.ensures.value
    ∙ sym (after_last_at 47 c.args.file.now c.rfind.result c.in-Some.at c.in-Some.is (rfind_char 47 c.args.file.now c.rfind.result c.rfind.ensures.cases (lit< tt)))

pub returns-in-None : goal.returns-in-None
returns-in-None c =
    sym (after_last_none 47 c.args.file.now c.rfind.result c.in-None.is (rfind_char 47 c.args.file.now c.rfind.result c.rfind.ensures.cases (lit< tt)))
