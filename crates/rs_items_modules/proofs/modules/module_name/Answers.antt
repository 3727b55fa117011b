use Rattle.std.proofs.Common.{◌≡◌, ◌∙◌, arith, rules}
use Rattle.rs_items_modules.specs.LawsModules.{AreFew}
use Rattle.rs_items_modules.specs.Modules.{module_candidate, stem_of, word_of}
use Rattle.rs_items_modules.proofs.Firsts.{module_only}
use Rattle.rs_items_sets.specs.Names.{IsFirstFree}
use Rattle.rs_items_modules.proofs.modules.module_name.Goals as goal

pub returns : goal.returns
returns c =
    let w = c.well_formed in
    let few : AreFew c.args.taken.now = omega (arith, w) in
    let word : c.in_ok-word.word.items ≡ word_of (stem_of c.args.file.now) = search rules in
    let first : IsFirstFree c.args.taken.now (module_candidate (word_of (stem_of c.args.file.now))) c.in_ok-name.name.items = rw word at c.in_ok-name.ensures in
    c.of.ensures ∙ module_only c.args.taken.now c.args.file.now c.in_ok-name.name.items few first
