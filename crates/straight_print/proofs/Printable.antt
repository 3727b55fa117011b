-- Valid crates can be printed.
use Rattle.std.proofs.Common.{◌≡◌, true, ◌&&◌, List, [], ◌∷◌, refl, ap, ◌∙◌}
use Rattle.std.specs.List.{list_all}
use Rattle.straight_rust_tree.specs.Names.{is_word, is_plain_identifier, is_module_name}
use Rattle.straight_rust_tree.specs.Tree.{ModuleTree}
use Rattle.straight_rust_tree.specs.Valid.{valid_module}
use Rattle.straight_print.specs.Condition.{have_words, ValidIsPrintable}
use Rattle.straight_print.proofs.Paths.{first_holds, second_holds}

-- the name of a valid module is a word
named_by_word : (unit : ModuleTree) → valid_module unit ≡ true → is_word unit.name ≡ true
named_by_word unit h =
    let named : is_module_name unit.name ≡ true = search (first_holds, h) in
    let plain : is_plain_identifier unit.name ≡ true = first_holds (is_plain_identifier unit.name) _ named in
    search (first_holds, plain)

words : (units : List ModuleTree) → list_all valid_module units ≡ true → have_words units ≡ true
words [] h = refl
words (unit ∷ units) h =
    let first : is_word unit.name ≡ true = named_by_word unit (first_holds (valid_module unit) (list_all valid_module units) h) in
    ap (λ b. b && have_words units) first ∙ words units (second_holds (valid_module unit) (list_all valid_module units) h)

pub printable : ValidIsPrintable
printable whole valid = words whole.modules valid.forms
