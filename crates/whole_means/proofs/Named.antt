-- What has a name in the module of its unit: each function, each static object and each structure or union that the unit completes.
use Rattle.std.proofs.Common.{◌≡◌, ℕ, Bool, true, false, if◌then◌else◌, List, [], ◌∷◌, ◌++◌, codes, Option, Some, None, is_some, IsSome, refl, sym, ap, ◌∙◌, ◌⊎◌, inl, inr}
use Rattle.cx_core.specs.Trees.{CProgram}
use Rattle.whole_means.proofs.Keys.{key_self}
use Rattle.whole_means.proofs.Lists.{Among, among_left, among_right}
use Rattle.whole_names.specs.Keys.{NameKey, a_calloc, same_key, bare_functions, entries_of, is_block_static, is_static_literal, is_text_of, module_keys, needs_calloc, objects_that, records_of, things_of}
use Rattle.whole_names.specs.Kept.{NamedProgram, name_in}
use Rattle.whole_names.specs.ModuleNames.{GivenName, entry_names, given_from, module_names, name_among, name_or, own_names}
use Rattle.rs_items_sets.specs.Names.{rust_name}
use Rattle.rs_items_sets.specs.declared.scope.NameScope.TheVariants.{Module}
use Rattle.whole_names.specs.ModuleNames.{wanted_name}

-- a key has a name in the module of a unit
pub record HasName (whole : NamedProgram) (unit : ℕ) (key : NameKey) : Type 0 where
  pub name_is : name_among key (module_names whole.program unit) ≡ Some (name_in whole unit key)

has_name : (whole : NamedProgram) (unit : ℕ) (key : NameKey) (found : Option (List ℕ)) → name_among key (module_names whole.program unit) ≡ found → IsSome found → HasName whole unit key
has_name whole unit key None is some = absurd cc
has_name whole unit key (Some x) is some = record { name_is = is ∙ ap Some (sym (ap (name_or []) is)) }

given_some : (program : CProgram) (taken : List (List ℕ)) (keys : List NameKey) (key : NameKey) → Among keys key → IsSome (name_among key (given_from program taken keys))
given_some program taken [] key there = absurd there
given_some program taken (first ∷ keys) key there =
    by_test (same_key key first) refl (λ rest. given_some program (taken ++ rust_name taken Module (wanted_name program first) ∷ []) keys key rest) there
  where
    by_test : (t : Bool) → same_key key first ≡ t → (Among keys key → IsSome (name_among key (given_from program (taken ++ rust_name taken Module (wanted_name program first) ∷ []) keys))) →
        Among (first ∷ keys) key → IsSome (name_among key (given_from program taken (first ∷ keys)))
    by_test true e more there = ap is_some (ap (λ t. if t then Some (rust_name taken Module (wanted_name program first)) else name_among key (given_from program (taken ++ rust_name taken Module (wanted_name program first) ∷ []) keys)) e)
    by_test false e more (inl same) = absurd (let h : false ≡ true = sym e ∙ ap (λ k. same_key key k) same ∙ key_self key in cc)
    by_test false e more (inr rest) =
        ap is_some (ap (λ t. if t then Some (rust_name taken Module (wanted_name program first)) else name_among key (given_from program (taken ++ rust_name taken Module (wanted_name program first) ∷ []) keys)) e)
        ∙ more rest

entries_some : (entries : List NameKey) (given : List GivenName) (key : NameKey) → Among entries key ⊎ IsSome (name_among key given) → IsSome (name_among key (entry_names entries ++ given))
entries_some [] given key (inl there) = absurd there
entries_some [] given key (inr some) = some
entries_some (first ∷ entries) given key there = by_test (same_key key first) refl (entries_some entries given key) there
  where
    by_test : (t : Bool) → same_key key first ≡ t → (Among entries key ⊎ IsSome (name_among key given) → IsSome (name_among key (entry_names entries ++ given))) →
        Among (first ∷ entries) key ⊎ IsSome (name_among key given) → IsSome (name_among key (entry_names (first ∷ entries) ++ given))
    by_test true e more there = ap is_some (ap (λ t. if t then Some (codes "main_0") else name_among key (entry_names entries ++ given)) e)
    by_test false e more (inl (inl same)) = absurd (let h : false ≡ true = sym e ∙ ap (λ k. same_key key k) same ∙ key_self key in cc)
    by_test false e more (inl (inr rest)) = ap is_some (ap (λ t. if t then Some (codes "main_0") else name_among key (entry_names entries ++ given)) e) ∙ more (inl rest)
    by_test false e more (inr some) = ap is_some (ap (λ t. if t then Some (codes "main_0") else name_among key (entry_names entries ++ given)) e) ∙ more (inr some)

module _ (whole : NamedProgram) (unit : ℕ) (key : NameKey) where
  abbrev program : CProgram
  program = whole.program

  pub entry_named : Among (entries_of program unit) key → HasName whole unit key
  entry_named there =
      has_name whole unit key (name_among key (module_names program unit)) refl
      (entries_some (entries_of program unit) (given_from program own_names (module_keys program unit)) key (inl there))

  pub key_named : Among (module_keys program unit) key → HasName whole unit key
  key_named there =
      has_name whole unit key (name_among key (module_names program unit)) refl
      (entries_some (entries_of program unit) (given_from program own_names (module_keys program unit)) key (inr (given_some program own_names (module_keys program unit) key there)))

  abbrev behind_texts : List NameKey
  behind_texts = objects_that (is_static_literal unit) program ++ ((if needs_calloc program unit then a_calloc ∷ [] else []) ++ bare_functions program unit)

  abbrev behind_records : List NameKey
  behind_records = objects_that (is_block_static unit) program ++ (objects_that (is_text_of unit) program ++ behind_texts)

  pub thing_key : Among (things_of program unit) key → Among (module_keys program unit) key
  thing_key there = among_left (things_of program unit) (records_of program unit ++ behind_records) key there

  pub record_key : Among (records_of program unit) key → Among (module_keys program unit) key
  record_key there = among_right (things_of program unit) (records_of program unit ++ behind_records) key (among_left (records_of program unit) behind_records key there)

  late : Among behind_records key → Among (module_keys program unit) key
  late there = among_right (things_of program unit) (records_of program unit ++ behind_records) key (among_right (records_of program unit) behind_records key there)

  pub block_static_key : Among (objects_that (is_block_static unit) program) key → Among (module_keys program unit) key
  block_static_key there = late (among_left (objects_that (is_block_static unit) program) (objects_that (is_text_of unit) program ++ behind_texts) key there)

  pub text_key : Among (objects_that (is_text_of unit) program) key → Among (module_keys program unit) key
  text_key there =
      late (among_right (objects_that (is_block_static unit) program) (objects_that (is_text_of unit) program ++ behind_texts) key (among_left (objects_that (is_text_of unit) program) behind_texts key there))

  pub literal_key : Among (objects_that (is_static_literal unit) program) key → Among (module_keys program unit) key
  literal_key there =
      late (among_right (objects_that (is_block_static unit) program) (objects_that (is_text_of unit) program ++ behind_texts) key (among_right (objects_that (is_text_of unit) program) behind_texts key
      (among_left (objects_that (is_static_literal unit) program) ((if needs_calloc program unit then a_calloc ∷ [] else []) ++ bare_functions program unit) key there)))
