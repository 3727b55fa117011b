-- Items whose names differ and which are typed make a typed module, and the external functions are typed.
use Rattle.std.proofs.Common.{◌≡◌, ℕ, ◌+◌, Bool, true, false, cond, not, ◌&&◌, ◌||◌, List, [], ◌∷◌, ◌++◌, map, drop, Some, None, codes, bytes_eq, nat_eq, refl, sym, ap, subst, ◌∙◌, rules, arith}
use Rattle.std.specs.List.{IsDistinct, AllByRecursion, list_any, list_all, filter, flat_map, starts_with}
use Rattle.std.specs.Cmp.Lexicographic.{bytes_decides}
use Rattle.std.proofs.lemmas.Bool.Decides.{nat_tests}
use Rattle.straight_core.specs.Linked.{known_names}
use Rattle.straight_core.specs.Trees.{CTyForm, void, int, function, form_of_type, CObject, COuter}
use Rattle.straight_rust_mean.specs.Typing.{known_functions, outer_typed, item_typed, names_differ, first_ill_item}
use Rattle.straight_rust_tree.specs.Names.{is_digit, is_word_byte, is_word, is_among, path_words, keywords, is_plain_identifier, is_raw_identifier, is_identifier, bare_name}
use Rattle.straight_rust_tree.specs.Tree.{FunctionTree, ItemTree, defined, ModuleTree, CrateTree}
use Rattle.straight_rust_tree.specs.Valid.{item_names, valid_outer}
use Rattle.straight_whole.specs.CrateOf.{static_of, declared_outer, outer_of, extern_of}
use Rattle.straight_whole.specs.Items.{name_or_empty}
use Rattle.straight_whole.proofs.Lookups.{object_names, filtered}
use Rattle.straight_whole.proofs.TypedLift.{and_true}
use Rattle.straight_whole.proofs.TypedNames.{DiffersFrom, split_all, split_distinct, none_among, turned, differ_all, not_any, among_append}

-- ---- names of items

-- no name of a list is among others
abbrev pub AreNew : List (List ℕ) → List (List ℕ) → Type 0
AreNew earlier names = AllByRecursion (λ name. is_among earlier name ≡ false) names

first_of_each : (xs : List (List ℕ)) (y : List ℕ) (ys : List (List ℕ)) → AllByRecursion (DiffersFrom (y ∷ ys)) xs → AllByRecursion (λ x. bytes_eq x y ≡ false) xs × AllByRecursion (DiffersFrom ys) xs
first_of_each [] y ys all = (tt, tt)
first_of_each (x ∷ xs) y ys all = ((all.0.0, (first_of_each xs y ys all.1).0), (all.0.1, (first_of_each xs y ys all.1).1))

-- where names differ from others, the others are new
turned_about : (xs ys : List (List ℕ)) → AllByRecursion (DiffersFrom ys) xs → AreNew xs ys
turned_about xs [] all = tt
turned_about xs (y ∷ ys) all =
    let parts = first_of_each xs y ys all in
    (none_among xs y parts.0, turned_about xs ys parts.1)

both_new : (xs ys names : List (List ℕ)) → AreNew xs names → AreNew ys names → AreNew (xs ++ ys) names
both_new xs ys [] one other = tt
both_new xs ys (name ∷ names) one other = (among_append xs ys name one.0 other.0, both_new xs ys names one.1 other.1)

-- items that are typed, with names that differ from one another and from those before them
pub items_typed : (whole : CrateTree) (unit : ModuleTree) (earlier : List (List ℕ)) (k : ℕ) (items : List ItemTree) → IsDistinct bytes_eq (flat_map item_names items) → AreNew earlier (flat_map item_names items) →
    AllByRecursion (λ item. item_typed whole unit item ≡ true) items → first_ill_item whole unit earlier k items ≡ None
items_typed whole unit earlier k [] distinct fresh typed = refl
items_typed whole unit earlier k (item ∷ others) distinct fresh typed =
    let parts = split_distinct (item_names item) (flat_map item_names others) distinct in
    let apart = split_all (λ name. is_among earlier name ≡ false) (item_names item) (flat_map item_names others) fresh in
    let here : (names_differ earlier item && item_typed whole unit item) ≡ true =
    and_true _ _ (and_true _ _ (differ_all (item_names item) parts.first) (not_any (item_names item) earlier apart.0)) typed.0 in
    ap (λ test. cond test (first_ill_item whole unit (item_names item ++ earlier) (k + 1) others) (Some k)) here
    ∙ items_typed whole unit (item_names item ++ earlier) (k + 1) others parts.second
    (both_new (item_names item) earlier (flat_map item_names others) (turned_about (item_names item) (flat_map item_names others) parts.between) apart.1) typed.1

-- ---- the names of the items of a program

declared_name : (name : List ℕ) (form : CTyForm) → (declared_outer name form).name ≡ name
declared_name name void = refl
declared_name name int = refl
declared_name name (function result params variadic) = refl

outer_names : (outers : List COuter) → map (λ outer. outer.name) (map outer_of outers) ≡ map (λ one. one.name) outers
outer_names [] = refl
outer_names (one ∷ others) =
    ap (λ name. name ∷ map (λ outer. outer.name) (map outer_of others)) (declared_name one.name (form_of_type one.type)) ∙ ap (λ names. one.name ∷ names) (outer_names others)

names_first : (objects : List CObject) (rest : List ItemTree) → flat_map item_names (map static_of objects ++ rest) ≡ object_names objects ++ flat_map item_names rest
names_first [] rest = refl
names_first (one ∷ others) rest = ap (λ names. name_or_empty one.name ∷ names) (names_first others rest)

names_behind : (outers : List COuter) (main init : FunctionTree) → flat_map item_names (extern_of outers ++ defined main ∷ defined init ∷ []) ≡ map (λ one. one.name) outers ++ main.name ∷ init.name ∷ []
names_behind [] main init = refl
names_behind (first ∷ others) main init = ap (λ names. names ++ main.name ∷ init.name ∷ []) (outer_names (first ∷ others))

pub names_are : (objects : List CObject) (outers : List COuter) (main init : FunctionTree) →
    flat_map item_names (map static_of objects ++ (extern_of outers ++ defined main ∷ defined init ∷ [])) ≡ object_names objects ++ (map (λ one. one.name) outers ++ main.name ∷ init.name ∷ [])
names_are objects outers main init =
    names_first objects (extern_of outers ++ defined main ∷ defined init ∷ []) ∙ ap (λ names. object_names objects ++ names) (names_behind outers main init)

-- names of external functions that pass a test differ
pub distinct_filtered : (test : COuter → Bool) (list : List COuter) → IsDistinct bytes_eq (map (λ one. one.name) list) → IsDistinct bytes_eq (map (λ one. one.name) (filter test list))
unfolding IsDistinct
distinct_filtered test [] distinct = tt
distinct_filtered test (first ∷ others) distinct =
    by_test (test first) (filtered (λ name. bytes_eq first.name name ≡ false) (λ one. one.name) test others distinct.0) (distinct_filtered test others distinct.1)
  where
    by_test : (b : Bool) → AllByRecursion (λ name. bytes_eq first.name name ≡ false) (map (λ one. one.name) (filter test others)) → IsDistinct bytes_eq (map (λ one. one.name) (filter test others)) →
        IsDistinct bytes_eq (map (λ one. one.name) (cond b (first ∷ filter test others) (filter test others)))
    by_test true heads rest = (heads, rest)
    by_test false heads rest = rest

-- ---- external functions

same_words : known_names ≡ known_functions
unfolding known_names known_functions
same_words = refl

any_none : (names : List (List ℕ)) (name : List ℕ) → list_any (bytes_eq name) names ≡ false → DiffersFrom names name
any_none [] name none = tt
any_none (first ∷ others) name none =
    let parts = or_false (bytes_eq name first) (list_any (bytes_eq name) others) none in
    (parts.0, any_none others name parts.1)
  where
    or_false : (a b : Bool) → (a || b) ≡ false → (a ≡ false) × (b ≡ false)
    or_false true b e = absurd (cc)
    or_false false b e = (refl, e)

-- a name without `#` isn't raw
hash_is_no_word : (byte : ℕ) → is_word_byte byte ≡ true → nat_eq 35 byte ≡ false
hash_is_no_word byte is = by_test (nat_eq 35 byte) refl
  where
    by_test : (test : Bool) → nat_eq 35 byte ≡ test → test ≡ false
    by_test false e = refl
    by_test true e =
        let same : 35 ≡ byte = grind (arith, nat_tests) in
        let broken : is_word_byte 35 ≡ true = subst (λ b. is_word_byte b ≡ true) (sym same) is in
        absurd (search (rules, broken))

and_false : (a b : Bool) → b ≡ false → (a && b) ≡ false
and_false true b e = e
and_false false b e = refl

and_parts : (a b : Bool) → (a && b) ≡ true → (a ≡ true) × (b ≡ true)
and_parts true b e = (refl, e)
and_parts false b e = absurd (cc)

word_is_not_raw : (name : List ℕ) → is_word name ≡ true → starts_with nat_eq name (codes "r#") ≡ false
word_is_not_raw [] is = refl
word_is_not_raw (first ∷ []) is = and_false (nat_eq 114 first) false refl
word_is_not_raw (first ∷ second ∷ rest) is =
    let bytes = and_parts (not (is_digit first)) (list_all is_word_byte (first ∷ second ∷ rest)) is in
    let more = and_parts (is_word_byte first) (list_all is_word_byte (second ∷ rest)) bytes.1 in
    let next = and_parts (is_word_byte second) (list_all is_word_byte rest) more.1 in
    and_false (nat_eq 114 first) (nat_eq 35 second && true) (ap (λ b. b && true) (hash_is_no_word second next.0))

-- words none of which is among others
words_apart : (words others : List (List ℕ)) (x : List ℕ) → list_all (λ word. not (is_among others word)) words ≡ true → is_among words x ≡ true → is_among others x ≡ false
words_apart [] others x all is = absurd (cc)
words_apart (word ∷ words) others x all is = by_test (bytes_eq word x) refl (words_apart words others x parts.1)
  where
    parts : (not (is_among others word) ≡ true) × (list_all (λ word. not (is_among others word)) words ≡ true)
    parts = and_parts (not (is_among others word)) (list_all (λ word. not (is_among others word)) words) all

    turned_not : (b : Bool) → not b ≡ true → b ≡ false
    turned_not true e = cc
    turned_not false e = refl

    by_test : (test : Bool) → bytes_eq word x ≡ test → (is_among words x ≡ true → is_among others x ≡ false) → is_among others x ≡ false
    by_test true e rest = subst (λ name. is_among others name ≡ false) ((bytes_decides word x).0 e) (turned_not (is_among others word) parts.0)
    by_test false e rest = rest (sym (ap (λ b. b || is_among words x) e) ∙ is)

keywords_apart : list_all (λ word. not (is_among known_functions word)) keywords ≡ true
unfolding keywords known_functions
keywords_apart = refl

unknown_symbol : (name : List ℕ) → is_identifier name ≡ true → is_among known_functions name ≡ false → is_among known_functions (bare_name name) ≡ false
unknown_symbol name is unknown = by_test (is_plain_identifier name) refl is
  where
    by_test : (test : Bool) → is_plain_identifier name ≡ test → (test || is_raw_identifier name) ≡ true → is_among known_functions (bare_name name) ≡ false
    by_test true e either =
        let word = and_parts (is_word name) (not (is_among path_words name)) (and_parts (is_word name && not (is_among path_words name)) (not (is_among keywords name)) e).0 in
        ap (λ test. is_among known_functions (cond test (drop 2 name) name)) (word_is_not_raw name word.0) ∙ unknown
    by_test false e raw =
        let parts = and_parts (starts_with nat_eq name (codes "r#")) (is_among keywords (drop 2 name)) raw in
        ap (λ test. is_among known_functions (cond test (drop 2 name) name)) parts.0 ∙ words_apart keywords known_functions (drop 2 name) keywords_apart parts.1

-- an external function as it is declared
pub declared_typed : (name : List ℕ) (form : CTyForm) → is_identifier name ≡ true → list_any (bytes_eq name) known_names ≡ false → outer_typed (declared_outer name form) ≡ true
declared_typed name form is unknown =
    let free : is_among known_functions (bare_name name) ≡ false =
    unknown_symbol name is (subst (λ names. is_among names name ≡ false) same_words (none_among known_names name (turned known_names name (any_none known_names name unknown)))) in
    by_form form (ap not free)
  where
    by_form : (form : CTyForm) → not (is_among known_functions (bare_name name)) ≡ true → outer_typed (declared_outer name form) ≡ true
    by_form void e = e
    by_form int e = e
    by_form (function result params variadic) e = e

pub declared_valid : (name : List ℕ) (form : CTyForm) → is_identifier name ≡ true → valid_outer (declared_outer name form) ≡ true
declared_valid name void is = and_true _ _ is refl
declared_valid name int is = and_true _ _ is refl
declared_valid name (function result params variadic) is = and_true _ _ is refl
