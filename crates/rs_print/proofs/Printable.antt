-- Valid crates can be printed.
use Rattle.std.proofs.Common.{◌≡◌, true, ◌&&◌, List, [], ◌∷◌, refl, ap, ◌∙◌, map}
use Rattle.std.specs.List.{list_all}
use Rattle.rs_text.specs.Names.{is_word, is_plain_identifier, is_module_name}
use Rattle.rs_text.specs.Tree.{ModuleTree}
use Rattle.rs_text.specs.Valid.{valid_names}
use Rattle.rs_print.specs.Condition.{have_words, ValidIsPrintable}
use Rattle.rs_print.proofs.Paths.{first_holds, second_holds}

-- the name of a valid module is a word
named_by_word : (unit : ModuleTree) → is_module_name unit.name ≡ true → is_word unit.name ≡ true
named_by_word unit named =
    let plain : is_plain_identifier unit.name ≡ true = first_holds (is_plain_identifier unit.name) _ named in
    search (first_holds, plain)

words : (units : List ModuleTree) → list_all is_module_name (map (λ unit. unit.name) units) ≡ true → have_words units ≡ true
words [] h = refl
words (unit ∷ units) h =
    let first : is_word unit.name ≡ true = named_by_word unit (first_holds (is_module_name unit.name) _ h) in
    ap (λ b. b && have_words units) first ∙ words units (second_holds (is_module_name unit.name) _ h)

pub printable : ValidIsPrintable
printable whole valid =
    let names : valid_names (map (λ unit. unit.name) whole.modules) ≡ true = first_holds _ _ (first_holds _ _ valid) in
    words whole.modules (second_holds _ _ (first_holds _ _ names))
