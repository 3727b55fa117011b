use Rattle.std.proofs.Common.{◌≡◌, ◌∙◌, sym, ap, lit<, take, arith}
use Rattle.std.proofs.lemmas.Grind.{common_steps}
use Rattle.std.proofs.lemmas.Str.Pattern.{rfind_char}
use Rattle.straight_items.specs.Modules.{without_extension}
use Rattle.straight_items.proofs.ModuleLaws.{cut_at, whole_at, whole_none}
use Rattle.straight_items.proofs.modules.stem_of.Goals as goal

pub returns-in-Some : goal.returns-in-Some
returns-in-Some c =
    let name = c.last_component-name.result.now in
    let cut = cut_at name c.rfind.result c.in-Some.at c.in-Some.is (rfind_char 46 name c.rfind.result c.rfind.ensures.cases (lit< tt)) c.if-at-gt0.true in
    let front : c.range.result.now ≡ take c.in-Some.at name = grind (arith, common_steps, c.range.ensures.value) in
    front ∙ sym cut ∙ ap without_extension c.last_component-name.ensures

pub returns-in_default : goal.returns-in_default
returns-in_default c =
    let name = c.last_component-name.result.now in
    let whole = whole_at name c.rfind.result c.in-Some.at c.in-Some.is (rfind_char 46 name c.rfind.result c.rfind.ensures.cases (lit< tt)) c.if-at-gt0.false in
    sym whole ∙ ap without_extension c.last_component-name.ensures

pub returns-in_default-2 : goal.returns-in_default-2
returns-in_default-2 c =
    let name = c.last_component-name.result.now in
    let whole = whole_none name c.rfind.result c.in_default.is (rfind_char 46 name c.rfind.result c.rfind.ensures.cases (lit< tt)) in
    sym whole ∙ ap without_extension c.last_component-name.ensures
