-- Names among items and locals.
use Rattle.std.proofs.Common.{◌≡◌, ℕ, Bool, true, false, not, ◌&&◌, ◌||◌, List, [], ◌∷◌, ◌++◌, reverse, bytes_eq, refl, sym, ap, ◌∙◌}
use Rattle.std.specs.List.{list_any, flat_map}
use Rattle.std.proofs.lemmas.List.{reverse-append}
use Rattle.std.proofs.lemmas.List.Folds.{list_any-append}
use Rattle.rs_mean.specs.Typing.{item_names, names_typed}
use Rattle.rs_text.specs.Names.{is_among}
use Rattle.rs_text.specs.Tree.{LocalTree, ItemTree, ModuleTree}
use Rattle.rs_text.specs.Valid.{all_differ}
use Rattle.rs_types.specs.Names.{local_names, is_item_name, are_new}

abbrev Name : Type 0
Name = List ℕ

pub or_none : (b : Bool) → b ≡ (b || false)
or_none true = refl
or_none false = refl

or_turned : (a b : Bool) → (a || b) ≡ (b || a)
or_turned true true = refl
or_turned true false = refl
or_turned false true = refl
or_turned false false = refl

or_same : (a b c d : Bool) → a ≡ b → c ≡ d → (a || c) ≡ (b || d)
or_same a b c d e f = ap (λ x. x || c) e ∙ ap (λ y. b || y) f

-- a name is among lists behind one another where it is among one of them
pub among_both : (xs ys : List Name) (name : Name) → (is_among xs name || is_among ys name) ≡ is_among (xs ++ ys) name
among_both xs ys name = sym (list_any-append (λ word. bytes_eq word name) xs ys)

-- ---- items the other way round

abbrev has : Name → ItemTree → Bool
has name item = is_among (item_names item) name

among_items : (items : List ItemTree) (name : Name) → is_item_name items name ≡ list_any (has name) items
among_items [] name = refl
among_items (item ∷ items) name =
    sym (among_both (item_names item) (flat_map item_names items) name) ∙ ap (λ b. has name item || b) (among_items items name)

any_turned : (test : ItemTree → Bool) (items : List ItemTree) → list_any test (reverse items) ≡ list_any test items
any_turned test [] = refl
any_turned test (item ∷ items) =
    ap (λ l. list_any test l) (reverse-append (item ∷ []) items) ∙ list_any-append test (reverse items) (item ∷ [])
    ∙ or_same _ _ _ _ (any_turned test items) (sym (or_none (test item))) ∙ or_turned (list_any test items) (test item)

pub item_name_turned : (items : List ItemTree) (name : Name) → is_item_name items name ≡ is_item_name (reverse items) name
item_name_turned items name = among_items items name ∙ sym (any_turned (has name) items) ∙ sym (among_items (reverse items) name)

pub one_differs : (items : List ItemTree) (name : Name) → not (is_item_name items name) ≡ not (list_any (is_item_name (reverse items)) (name ∷ []))
one_differs items name = ap not (item_name_turned items name ∙ or_none (is_item_name (reverse items) name))

any_alike : (f g : Name → Bool) (names : List Name) → ((name : Name) → f name ≡ g name) → list_any f names ≡ list_any g names
any_alike f g [] h = refl
any_alike f g (name ∷ names) h = or_same _ _ _ _ (h name) (any_alike f g names h)

pub all_turned : (items : List ItemTree) (names : List Name) → list_any (is_item_name items) names ≡ list_any (is_item_name (reverse items)) names
all_turned items names = any_alike (is_item_name items) (is_item_name (reverse items)) names (item_name_turned items)

-- ---- parameters and locals

names_behind : (params locals : List LocalTree) → local_names (params ++ locals) ≡ local_names params ++ local_names locals
names_behind [] locals = refl
names_behind (param ∷ params) locals = ap (λ l. param.name ∷ l) (names_behind params locals)

not_or : (a b : Bool) → (not a && not b) ≡ not (a || b)
not_or true b = refl
not_or false b = refl

new_behind : (items : List ItemTree) (params locals : List LocalTree) → (are_new items params && are_new items locals) ≡ are_new items (params ++ locals)
new_behind items params locals =
    not_or (list_any (λ local. is_item_name items local.name) params) (list_any (λ local. is_item_name items local.name) locals)
    ∙ ap not (sym (list_any-append (λ (local : LocalTree). is_item_name items local.name) params locals))

pub both_typed : (unit : ModuleTree) (params locals : List LocalTree) →
    (all_differ (local_names params ++ local_names locals) && (are_new unit.items params && are_new unit.items locals)) ≡ names_typed unit (params ++ locals)
both_typed unit params locals =
    ap (λ l. all_differ l && (are_new unit.items params && are_new unit.items locals)) (sym (names_behind params locals))
    ∙ ap (λ b. all_differ (local_names (params ++ locals)) && b) (new_behind unit.items params locals)
