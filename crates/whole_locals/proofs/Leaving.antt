-- What is known outside of a function, once its parameters and locals are items again.
use Rattle.std.proofs.Common.{arith, ◌≡◌, ◌≤◌, ℕ, ◌==◌, Bool, true, false, if◌then◌else◌, List, [], ◌∷◌, length, Option, Some, None, option_map, slice_get, refl, sym, ap, ◌∙◌}
use Rattle.std.proofs.lemmas.Bool.Decides.{nat_tests}
use Rattle.cx_core.specs.Trees.{CObject, CFun}
use Rattle.cx_core.specs.Typing.{object_with}
use Rattle.rs_items.specs.Known.{Begins, KnownThing, Knows, Names, same_named}
use Rattle.rs_items.specs.declared.known.Named.{Named}
use Rattle.rs_items.specs.declared.known.Named.TheVariants.{Object, Function, BareFunction, Record, Enum, Temporary, Result}
use Rattle.rs_items_sets.specs.Sets.{TakenNames}
use Rattle.rs_items_sets.specs.declared.scope.NameScope.TheVariants.{Function as FunctionNames}
use Rattle.rs_text.specs.Tree.{Ty}
use Rattle.whole_given.specs.Told.{first_of}
use Rattle.whole_known.proofs.Declared.{enum_in}
use Rattle.whole_known.specs.Modules.{IsModule, KnowsAll}
use Rattle.whole_known.specs.Stages.{put, KnowsMore, HasTypes}
use Rattle.whole_locals.proofs.Known.{found_number}
use Rattle.whole_locals.specs.Functions.{IsFunction, item_at, item_put, items_put, key_item_put, own_names_of}
use Rattle.whole_names.specs.FunctionNames.{LocalKey, a_result, a_passed, a_local, a_temporary, LocalName, local_names}
use Rattle.whole_names.specs.Kept.{LocalNames, NamedProgram, known_thing, local_among, local_or_item, no_locals, object_item, object_thing, same_local}

module _ (whole : NamedProgram) where
  key_alike : (key : LocalKey) (known other : Knows) (one : Named) → known one ≡ other one → key_item_put whole key known one ≡ key_item_put whole key other one
  key_alike a_result known other one e = e
  key_alike (a_passed number) known other one e = e
  key_alike (a_local number) known other one e = ap (λ (found : Option KnownThing). if same_named one (Object number) then first_of (item_at whole number) found else found) e
  key_alike (a_temporary number) known other one e = e

  pub items_alike : (locals : List LocalName) (known other : Knows) (one : Named) → known one ≡ other one → items_put whole locals known one ≡ items_put whole locals other one
  items_alike [] known other one e = e
  items_alike (first ∷ others) known other one e = items_alike others (item_put whole first known) (item_put whole first other) one (key_alike first.key known other one e)

  key_apart : (key : LocalKey) (known : Knows) (one : Named) → ((m : ℕ) → same_named one (Object m) ≡ false) → key_item_put whole key known one ≡ known one
  key_apart a_result known one far = refl
  key_apart (a_passed number) known one far = refl
  key_apart (a_local number) known one far = ap (λ (t : Bool). if t then first_of (item_at whole number) (known one) else known one) (far number)
  key_apart (a_temporary number) known one far = refl

  pub item_types : (one : LocalName) (known : Knows) → HasTypes whole known → HasTypes whole (item_put whole one known)
  item_types one known has = record {
    has_records = λ n. key_apart one.key known (Record n) (λ m. refl) ∙ has.has_records n;
    has_enums = λ n. key_apart one.key known (Enum n) (λ m. refl) ∙ has.has_enums n;
  }

  items_apart : (locals : List LocalName) (known : Knows) (one : Named) → ((m : ℕ) → same_named one (Object m) ≡ false) → items_put whole locals known one ≡ known one
  items_apart [] known one far = refl
  items_apart (first ∷ others) known one far = items_apart others (item_put whole first known) one far ∙ key_apart first.key known one far

  -- an item, where the object is a local
  abbrev item_or : (number : ℕ) → Option (List ℕ) → Option KnownThing → Option KnownThing
  item_or number None known = known
  item_or number (Some name) known = first_of (item_at whole number) known

  twice : {A : Type 0} (found old : Option A) → first_of found (first_of found old) ≡ first_of found old
  twice None old = refl
  twice (Some one) old = refl

  item_head : (n m : ℕ) (name : List ℕ) (held : Option (List ℕ)) (old : Option KnownThing) (t : Bool) → (n == m) ≡ t →
      item_or n held (if t then first_of (item_at whole m) old else old) ≡ item_or n (if t then Some name else held) old
  item_head n m name None old true is =
      let same : m ≡ n = sym (let f : n ≡ m = grind (arith, nat_tests, is) in f) in
      ap (λ (k : ℕ). first_of (item_at whole k) old) same
  item_head n m name (Some other) old true is =
      let same : m ≡ n = sym (let f : n ≡ m = grind (arith, nat_tests, is) in f) in
      ap (λ (k : ℕ). first_of (item_at whole n) (first_of (item_at whole k) old)) same ∙ twice (item_at whole n) old
  item_head n m name held old false is = refl

  item_found : (locals : List LocalName) (known : Knows) (n : ℕ) → items_put whole locals known (Object n) ≡ item_or n (local_among (a_local n) locals) (known (Object n))
  item_found [] known n = refl
  item_found (one ∷ others) known n = item_found others (item_put whole one known) n ∙ by_key one.name one.key
    where
      by_key : (name : List ℕ) (key : LocalKey) → item_or n (local_among (a_local n) others) (key_item_put whole key known (Object n))
          ≡ item_or n (if same_local (a_local n) key then Some name else local_among (a_local n) others) (known (Object n))
      by_key name a_result = refl
      by_key name (a_passed number) = refl
      by_key name (a_local number) = item_head n number name (local_among (a_local n) others) (known (Object n)) (n == number) refl
      by_key name (a_temporary number) = refl

  object_out : (own : LocalNames) (n : ℕ) (object : Option CObject) → object_with n whole.program.objects ≡ object →
      item_or n (local_among (a_local n) own.names) (object_thing whole own object) ≡ object_thing whole no_locals object
  object_out own n None there = by_found (local_among (a_local n) own.names)
    where
      by_found : (held : Option (List ℕ)) → item_or n held None ≡ None
      by_found None = refl
      by_found (Some name) = ap (λ (o : Option CObject). first_of (option_map (object_item whole) o) None) there
  object_out own n (Some one) there =
      ap (λ (k : ℕ). item_or n (local_among (a_local n) own.names) (Some (local_or_item whole one (local_among (a_local k) own.names)))) (found_number whole.program.objects n one there)
      ∙ by_found (local_among (a_local n) own.names)
    where
      by_found : (held : Option (List ℕ)) → item_or n held (Some (local_or_item whole one held)) ≡ Some (object_item whole one)
      by_found None = refl
      by_found (Some name) = ap (λ (o : Option CObject). first_of (option_map (object_item whole) o) (Some (local_or_item whole one (Some name)))) there

module _ (whole : NamedProgram) (fun : CFun) (temporaries : List Ty) (start begun_names : Names) where
  pub types_out : IsFunction whole fun temporaries start → Begins FunctionNames start begun_names → HasTypes whole begun_names.known
  types_out is_function begins = record {
    has_records = λ n. begins (Record n) ∙ is_function.known_are (Record n) refl;
    has_enums = λ n. begins (Enum n) ∙ is_function.known_are (Enum n) refl ∙ sym (enum_in whole fun.unit n is_function.units_there);
  }

  pub module_again : (after : Names) (locals : List LocalName) → IsFunction whole fun temporaries start → Begins FunctionNames start begun_names →
      begun_names.taken ≡ record start.taken { own_names = [] } → begun_names.has_bits ≡ start.has_bits → locals ≡ local_names whole.program fun (length temporaries) →
      KnowsMore begun_names after (items_put whole locals begun_names.known) → IsModule whole fun.unit after
  module_again after locals is_function begins taken bits are known = record {
    known_are = all;
    taken_are = ap (λ (t : TakenNames). t.module_names) (known.rest.same_taken ∙ taken) ∙ is_function.taken_are;
    none_own = ap (λ (t : TakenNames). t.own_names) (known.rest.same_taken ∙ taken);
    units_there = is_function.units_there;
    has_bits_is = known.rest.same_bits ∙ bits ∙ is_function.has_bits_is;
  }
    where
      other : (one : Named) → ((m : ℕ) → same_named one (Object m) ≡ false) → after.known one ≡ begun_names.known one
      other one far = known.known_is one ∙ items_apart whole locals begun_names.known one far

      all : KnowsAll whole fun.unit no_locals after
      all (Object n) is =
          known.known_is (Object n) ∙ item_found whole locals begun_names.known n
          ∙ ap (λ (names : List LocalName). item_or whole n (local_among (a_local n) names) (begun_names.known (Object n))) are
          ∙ ap (λ (found : Option KnownThing). item_or whole n (local_among (a_local n) (local_names whole.program fun (length temporaries))) found)
          (begins (Object n) ∙ is_function.known_are (Object n) refl)
          ∙ object_out whole (own_names_of whole fun temporaries) n (object_with n whole.program.objects) refl
      all (Function n) is = other (Function n) (λ m. refl) ∙ begins (Function n) ∙ is_function.known_are (Function n) refl
      all (BareFunction n) is = other (BareFunction n) (λ m. refl) ∙ begins (BareFunction n) ∙ is_function.known_are (BareFunction n) refl
      all (Record n) is = other (Record n) (λ m. refl) ∙ begins (Record n) ∙ is_function.known_are (Record n) refl
      all (Enum n) is = other (Enum n) (λ m. refl) ∙ begins (Enum n) ∙ is_function.known_are (Enum n) refl
      all (Temporary n) is = other (Temporary n) (λ m. refl) ∙ begins (Temporary n)
      all Result is = cc
