-- Modules are read back from the texts that spell them.
use Rattle.std.proofs.Common.{◌≡◌, true, ◌&&◌, List, [], Option, Some, None, option_map, sym, ap, ◌∙◌}
use Rattle.std.specs.List.{list_all}
use Rattle.std.proofs.lemmas.Bool.{and_parts}
use Rattle.rs_item.specs.Items.{items}
use Rattle.rs_lex.specs.Closed.{closed}
use Rattle.rs_text.specs.Reads.{both_fit}
use Rattle.rs_text.specs.Spelling.{module_tokens}
use Rattle.rs_text.specs.Tokens.{RToken, tokens_in}
use Rattle.rs_text.specs.Tree.{ModuleTree, ItemTree}
use Rattle.rs_text.specs.Valid.{valid_item, valid_items, are_in_order, ends_with_initialiser}
use Rattle.rs_parse.specs.Laws.{ModulesAreRead, TextsAreClosed, OneModule, ModuleTextsSpell}
use Rattle.rs_parse.proofs.ClosedTrees.{items_closed}
use Rattle.rs_parse.proofs.ReadItems.{items_read}
use Rattle.rs_parse.proofs.TextItems.{items_spelled}

each_valid : (list : List ItemTree) → valid_items list ≡ true → list_all valid_item list ≡ true
each_valid list v =
    let parts = and_parts (list_all valid_item list && are_in_order 0 list) (ends_with_initialiser list) v in
    (and_parts (list_all valid_item list) (are_in_order 0 list) parts.0).0

pub modules_are_read : ModulesAreRead
modules_are_read unit v = items_read unit.items (each_valid unit.items v)

closed_by : (o : Option (List RToken)) (unit : ModuleTree) → valid_items unit.items ≡ true → both_fit o (Some (module_tokens unit)) ≡ true →
    option_map closed o ≡ Some (module_tokens unit)
closed_by None unit v h = cc
closed_by (Some ts) unit v h = ap Some (items_closed ts unit.items (each_valid unit.items v) h)

pub texts_are_closed : TextsAreClosed
texts_are_closed unit text v h = closed_by (tokens_in text) unit v h

abbrev items_or : Option (List RToken) → List ItemTree
items_or None = items []
items_or (Some ts) = items ts

pub one_module : OneModule
one_module one other text v w h g =
    sym (modules_are_read one v) ∙ ap items_or (sym (texts_are_closed one text v h) ∙ texts_are_closed other text w g) ∙ modules_are_read other w

pub module_texts_spell : ModuleTextsSpell
module_texts_spell unit v = (items_spelled unit.items (each_valid unit.items v)).fit
