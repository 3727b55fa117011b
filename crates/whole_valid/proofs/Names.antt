-- The names of a module's items are identifiers where those of C are (ISO C99, 6.4.2.1; the Rust Reference, "Identifiers").
use Rattle.std.proofs.Common.{◌≡◌, ℕ, ◌==◌, Bool, true, false, if◌then◌else◌, List, [], ◌∷◌, ◌++◌, codes, filter, find, Option, Some, None, IfSome, IsSome, is_some, All, refl, sym, ap, subst, ◌∙◌, ◌⊎◌, inl, inr, slice_get}
use Rattle.std.proofs.lemmas.Bool.{and_from, and_parts}
use Rattle.std.proofs.lemmas.List.Elements.{All-contains}
use Rattle.std.specs.List.{list_all}
use Rattle.cx_core.specs.Trees.{CFun, CKey, CObject, COuter, CProgram, CRecordTag}
use Rattle.cx_core.specs.Trees as core
use Rattle.cx_core.specs.Typing.{function_with, object_with, outer_with}
use Rattle.rs_text.specs.Names.{is_identifier, is_word}
use Rattle.whole_means.proofs.Keys.{number_self}
use Rattle.whole_means.proofs.Lists.{Among, among_at, among_cases, among_contains, among_filter, among_map, find_there}
use Rattle.whole_means.proofs.Records.{IsDone, done_in}
use Rattle.whole_means.proofs.Things.{object_there}
use Rattle.whole_means.specs.Written.{IsNamed}
use Rattle.whole_names.proofs.Named.{of_modules}
use Rattle.whole_names.specs.Keys.{NameKey, a_bare_function, a_calloc, a_record, an_object, bare_functions, calls_of, entries_of, is_bare_too, is_block_static, is_defined_in, is_named_in, is_object_of, is_static_literal, is_text_of, key_of, module_keys, needs_calloc, objects_that, order_of, records_of, same_key, things_of}
use Rattle.whole_names.specs.Kept.{NamedProgram, name_in}
use Rattle.whole_names.specs.Laws.{wanted_of_module}
use Rattle.whole_names.specs.ModuleNames.{GivenName, entry_names, function_name, given_from, module_names, name_among, name_or, names_only, object_name, own_names, record_name, taken_names, wanted_name}
use Rattle.whole_means.proofs.Named.{HasName}
use Rattle.whole_valid.specs.Given.{HasWords}

-- ---- all elements

pub all_test : {A : Type 0} (p : A → Bool) (xs : List A) → ((x : A) → Among xs x → p x ≡ true) → list_all p xs ≡ true
all_test p [] each = refl
all_test p (x ∷ xs) each = and_from (p x) (list_all p xs) (each x (inl refl)) (all_test p xs (λ y there. each y (inr there)))

pub test_of : {A : Type 0} (p : A → Bool) (xs : List A) (x : A) → list_all p xs ≡ true → Among xs x → p x ≡ true
test_of p [] x all there = absurd there
test_of p (y ∷ xs) x all (inl same) = ap p (sym same) ∙ (and_parts (p y) (list_all p xs) all).0
test_of p (y ∷ xs) x all (inr there) = test_of p xs x (and_parts (p y) (list_all p xs) all).1 there

pub all_of : {A : Type 0} (P : A → Type 0) (xs : List A) (x : A) → All P xs → Among xs x → P x
all_of P xs x all there = All-contains P xs x all (among_contains xs x there)

find_some : {A : Type 0} (p : A → Bool) (xs : List A) (x : A) → Among xs x → p x ≡ true → IsSome (find p xs)
find_some p [] x there is = absurd there
find_some {A} p (y ∷ xs) x there is = by_test (p y) refl (find_some p xs x)
  where
    rest : p y ≡ false → Among (y ∷ xs) x → Among xs x
    rest e (inl same) = absurd (let h : false ≡ true = sym e ∙ ap p same ∙ is in cc)
    rest e (inr other) = other

    by_test : (t : Bool) → p y ≡ t → (Among xs x → p x ≡ true → IsSome (find p xs)) → IsSome (find p (y ∷ xs))
    by_test true e more = ap is_some (ap (λ t. if t then Some y else find p xs) e)
    by_test false e more = ap is_some (ap (λ t. if t then Some y else find p xs) e) ∙ more (rest e there) is

-- ---- a name is among those that are taken

given_among : (given : List GivenName) (key : NameKey) (x : List ℕ) → name_among key given ≡ Some x → Among (names_only given) x
given_among [] key x found = absurd cc
given_among (one ∷ given) key x found = by_test (same_key key one.key) refl (given_among given key x)
  where
    by_test : (t : Bool) → same_key key one.key ≡ t → (name_among key given ≡ Some x → Among (names_only given) x) → (one.name ≡ x) ⊎ Among (names_only given) x
    by_test true e more = let h : Some one.name ≡ Some x = sym (ap (λ t. if t then Some one.name else name_among key given) e) ∙ found in inl cc
    by_test false e more = inr (more (sym (ap (λ t. if t then Some one.name else name_among key given) e) ∙ found))

entry_among : (entries : List NameKey) (given : List GivenName) (key : NameKey) (x : List ℕ) → name_among key (entry_names entries ++ given) ≡ Some x →
    Among (own_names ++ names_only given) x
entry_among [] given key x found = inr (inr (given_among given key x found))
entry_among (first ∷ entries) given key x found = by_test (same_key key first) refl (entry_among entries given key x)
  where
    by_test : (t : Bool) → same_key key first ≡ t → (name_among key (entry_names entries ++ given) ≡ Some x → Among (own_names ++ names_only given) x) → Among (own_names ++ names_only given) x
    by_test true e more =
        let h : Some (codes "main_0") ≡ Some x = sym (ap (λ t. if t then Some (codes "main_0") else name_among key (entry_names entries ++ given)) e) ∙ found in inl cc
    by_test false e more = more (sym (ap (λ t. if t then Some (codes "main_0") else name_among key (entry_names entries ++ given)) e) ∙ found)

pub name_taken : (program : CProgram) (unit : ℕ) (key : NameKey) (x : List ℕ) → name_among key (module_names program unit) ≡ Some x → Among (taken_names program unit) x
name_taken program unit key x found = entry_among (entries_of program unit) (given_from program own_names (module_keys program unit)) key x found

-- ---- the names that are wanted are words

module _ (whole : NamedProgram) (is : IsNamed whole) (words : HasWords whole.program) where
  abbrev program : CProgram
  program = whole.program

  pub function_word : (number : ℕ) (one : CFun) → function_with number program.functions ≡ Some one → is_word one.name ≡ true
  function_word number one found =
      all_of (λ (f : CFun). is_word f.name ≡ true) program.functions one words.functions (find_there (λ (f : CFun). f.function == number) program.functions one found).0

  pub outer_word : (number : ℕ) (one : COuter) → outer_with number program.externals ≡ Some one → is_word one.name ≡ true
  outer_word number one found =
      all_of (λ (o : COuter). is_word o.name ≡ true) program.externals one words.externals (find_there (λ (o : COuter). o.function == number) program.externals one found).0

  named_word : (name : Option (List ℕ)) (other : List ℕ) → IfSome name (λ x. is_word x ≡ true) → is_word other ≡ true → is_word (name_or other name) ≡ true
  named_word None other named also = also
  named_word (Some x) other named also = named

  literal_word : (is_text : Bool) → is_word (if is_text then codes "lit" else codes "val") ≡ true
  literal_word true = refl
  literal_word false = refl

  object_word : (one : CObject) → Among program.objects one → is_word (object_name (Some one)) ≡ true
  object_word one there =
      named_word one.name (if one.is_text then codes "lit" else codes "val")
      (all_of (λ (o : CObject). IfSome o.name (λ name. is_word name ≡ true)) program.objects one words.objects there) (literal_word one.is_text)

  defined_word : (unit : ℕ) (fun : Option CFun) (outer : Option COuter) → ((one : CFun) → fun ≡ Some one → is_word one.name ≡ true) →
      ((one : COuter) → outer ≡ Some one → is_word one.name ≡ true) → is_defined_in unit fun outer ≡ true → is_word (function_name fun outer) ≡ true
  defined_word unit (Some one) outer of_fun of_outer defined = of_fun one refl
  defined_word unit None (Some one) of_fun of_outer defined = of_outer one refl
  defined_word unit None None of_fun of_outer defined = absurd cc

  kept_object_word : (unit : ℕ) (found : Option CObject) → ((one : CObject) → found ≡ Some one → Among program.objects one) → is_object_of unit found ≡ true → is_word (object_name found) ≡ true
  kept_object_word unit None there of_unit = absurd cc
  kept_object_word unit (Some one) there of_unit = object_word one (there one refl)

  thing_word : (unit : ℕ) (key : CKey) → is_named_in program unit key ≡ true → is_word (wanted_name program (key_of key)) ≡ true
  thing_word unit (core.a_function number) named =
      defined_word unit (function_with number program.functions) (outer_with number program.externals) (function_word number) (outer_word number) named
  thing_word unit (core.an_object number) named =
      kept_object_word unit (object_with number program.objects)
      (λ one found. (find_there (λ (o : CObject). o.object == number) program.objects one found).0) named
  thing_word unit (core.a_record number) named = absurd cc
  thing_word unit core.a_calloc named = absurd cc

  tag_word : (number : ℕ) (one : CRecordTag) → slice_get program.types.record_tags number ≡ Some one → is_word (record_name (Some one)) ≡ true
  tag_word number one found =
      named_word one.tag (codes "anon")
      (all_of (λ (t : CRecordTag). IfSome t.tag (λ tag. is_word tag ≡ true)) program.types.record_tags one words.tags (among_at program.types.record_tags number one found)) refl

  record_word : (number unit : ℕ) → IsDone whole unit number → is_word (wanted_name program (a_record number)) ≡ true
  record_word number unit done =
      let tag_is = (is.linked.types.records number unit done.one done.one_is done.unit_is).tag_is in
      ap (λ found. is_word (record_name found)) tag_is ∙ tag_word number (record { tag = done.one.tag; is_union = done.one.is_union }) tag_is

  bare_word : (number : ℕ) (found : Option COuter) → outer_with number program.externals ≡ found → IsSome found → is_word (function_name None found) ≡ true
  bare_word number None found some = absurd cc
  bare_word number (Some one) found some = outer_word number one found

  module _ (unit : ℕ) where
    abbrev WordOf : NameKey → Type 0
    WordOf key = is_word (wanted_name program key) ≡ true

    things_words : (key : NameKey) → Among (things_of program unit) key → WordOf key
    things_words key there =
        let one = among_map key_of (filter (is_named_in program unit) (order_of program unit).things) key there in
        subst (λ (k : NameKey). WordOf k) one.2 (thing_word unit one.0 (among_filter (is_named_in program unit) (order_of program unit).things one.0 one.1).1)

    records_words : (key : NameKey) → Among (records_of program unit) key → WordOf key
    records_words key there =
        let one = among_map a_record (order_of program unit).completed key there in
        subst (λ (k : NameKey). WordOf k) one.2 (record_word one.0 unit (done_in whole is unit one.0 one.1))

    objects_words : (test : CObject → Bool) (key : NameKey) → Among (objects_that test program) key → WordOf key
    objects_words test key there =
        let one = among_map (λ (o : CObject). an_object o.object) (filter test program.objects) key there in
        let among = (among_filter test program.objects one.0 one.1).0 in
        subst (λ (k : NameKey). WordOf k) one.2 (ap (λ found. is_word (object_name found)) (object_there whole is one.0 among) ∙ object_word one.0 among)

    callocs_words : (test : Bool) (key : NameKey) → Among (if test then a_calloc ∷ [] else []) key → WordOf key
    callocs_words true key (inl same) = subst (λ (k : NameKey). WordOf k) same refl
    callocs_words true key (inr none) = absurd none
    callocs_words false key there = absurd there

    bares_words : (key : NameKey) → Among (bare_functions program unit) key → WordOf key
    bares_words key there =
        let one = among_map (λ (o : COuter). a_bare_function o.function) (filter (is_bare_too (calls_of program unit)) program.externals) key there in
        let among = (among_filter (is_bare_too (calls_of program unit)) program.externals one.0 one.1).0 in
        subst (λ (k : NameKey). WordOf k) one.2
        (bare_word one.0.function (outer_with one.0.function program.externals) refl
        (find_some (λ (o : COuter). o.function == one.0.function) program.externals one.0 among (number_self one.0.function)))

    abbrev last_keys : List NameKey
    last_keys = (if needs_calloc program unit then a_calloc ∷ [] else []) ++ bare_functions program unit

    abbrev behind_texts : List NameKey
    behind_texts = objects_that (is_static_literal unit) program ++ last_keys

    abbrev behind_statics : List NameKey
    behind_statics = objects_that (is_text_of unit) program ++ behind_texts

    abbrev behind_records : List NameKey
    behind_records = objects_that (is_block_static unit) program ++ behind_statics

    pub key_word : (key : NameKey) → Among (module_keys program unit) key → WordOf key
    key_word key there =
        first (among_cases (things_of program unit) (records_of program unit ++ behind_records) key there)
      where
        sixth : Among (if needs_calloc program unit then a_calloc ∷ [] else []) key ⊎ Among (bare_functions program unit) key → WordOf key
        sixth (inl one) = callocs_words (needs_calloc program unit) key one
        sixth (inr one) = bares_words key one

        fifth : Among (objects_that (is_static_literal unit) program) key ⊎ Among last_keys key → WordOf key
        fifth (inl one) = objects_words (is_static_literal unit) key one
        fifth (inr rest) = sixth (among_cases (if needs_calloc program unit then a_calloc ∷ [] else []) (bare_functions program unit) key rest)

        fourth : Among (objects_that (is_text_of unit) program) key ⊎ Among behind_texts key → WordOf key
        fourth (inl one) = objects_words (is_text_of unit) key one
        fourth (inr rest) = fifth (among_cases (objects_that (is_static_literal unit) program) last_keys key rest)

        third : Among (objects_that (is_block_static unit) program) key ⊎ Among behind_statics key → WordOf key
        third (inl one) = objects_words (is_block_static unit) key one
        third (inr rest) = fourth (among_cases (objects_that (is_text_of unit) program) behind_texts key rest)

        second : Among (records_of program unit) key ⊎ Among behind_records key → WordOf key
        second (inl one) = records_words key one
        second (inr rest) = third (among_cases (objects_that (is_block_static unit) program) behind_statics key rest)

        first : Among (things_of program unit) key ⊎ Among (records_of program unit ++ behind_records) key → WordOf key
        first (inl one) = things_words key one
        first (inr rest) = second (among_cases (records_of program unit) behind_records key rest)

    pub wanted_words : list_all is_word (wanted_of_module program unit) ≡ true
    wanted_words = all_test is_word (wanted_of_module program unit) (λ x there. by_key x (among_map (wanted_name program) (module_keys program unit) x there))
      where
        by_key : (x : List ℕ) → (key : NameKey) × Among (module_keys program unit) key × (wanted_name program key ≡ x) → is_word x ≡ true
        by_key x one = ap is_word (sym one.2) ∙ key_word one.0 one.1

    pub taken_identifiers : list_all is_identifier (taken_names program unit) ≡ true
    taken_identifiers = of_modules.identifiers program unit (is.few_names unit) wanted_words

    -- what has a name in a module has an identifier
    pub name_identifier : (key : NameKey) → HasName whole unit key → is_identifier (name_in whole unit key) ≡ true
    name_identifier key has = test_of is_identifier (taken_names program unit) (name_in whole unit key) taken_identifiers (name_taken program unit key (name_in whole unit key) has.name_is)
