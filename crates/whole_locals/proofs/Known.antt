-- What is known in a function.
use Rattle.std.proofs.Common.{arith, ◌≡◌, ◌≤◌, ℕ, ◌==◌, Bool, true, false, if◌then◌else◌, List, [], ◌∷◌, length, Option, Some, None, option_map, slice_get, refl, sym, ap, ◌∙◌}
use Rattle.std.proofs.lemmas.Bool.Decides.{nat_tests}
use Rattle.std.proofs.lemmas.Cmp.{nat_eq_equiv}
use Rattle.cx_core.specs.Trees.{CObject, CFun}
use Rattle.cx_core.specs.Typing.{object_with}
use Rattle.rs_items.specs.Known.{Begins, KnownThing, Knows, Names, same_named}
use Rattle.rs_items.specs.declared.known.Named.{Named}
use Rattle.rs_items.specs.declared.known.Named.TheVariants.{Object, Function, BareFunction, Record, Enum, Temporary, Result}
use Rattle.rs_items_sets.specs.Sets.{TakenNames}
use Rattle.rs_items_sets.specs.declared.scope.NameScope.TheVariants.{Function as FunctionNames}
use Rattle.rs_text.specs.Tree.{Ty}
use Rattle.whole_given.specs.Told.{first_of}
use Rattle.whole_known.proofs.Declared.{enum_in}
use Rattle.whole_known.proofs.Kept.{both_rest}
use Rattle.whole_known.specs.Modules.{IsModule, KnowsAll, is_result, item_names}
use Rattle.whole_known.specs.Stages.{put, KnowsMore, HasTypes}
use Rattle.whole_locals.specs.Functions.{IsFunction, key_put, local_put, locals_put, own_item, own_names_of, own_object, temporary_at}
use Rattle.whole_locals.specs.Names.{TakesMoreOwn, TakesOwn}
use Rattle.whole_names.specs.FunctionNames.{LocalKey, a_result, a_passed, a_local, a_temporary, LocalName, local_names}
use Rattle.whole_names.specs.Kept.{LocalNames, NamedProgram, known_thing, local_among, local_or_item, no_locals, object_thing, same_local, temporary_thing}

-- ---- the object of a number

found_head : (first : CObject) (others : List CObject) (n : ℕ) (one : CObject) → (object_with n others ≡ Some one → one.object ≡ n) → (t : Bool) → (first.object == n) ≡ t →
    (if t then Some first else object_with n others) ≡ Some one → one.object ≡ n
found_head first others n one later true is found =
    let same : first ≡ one = cc in
    let number : first.object ≡ n = grind (arith, nat_tests, is) in
    ap (λ (o : CObject). o.object) (sym same) ∙ number
found_head first others n one later false is found = later found

pub found_number : (objects : List CObject) (n : ℕ) (one : CObject) → object_with n objects ≡ Some one → one.object ≡ n
found_number [] n one e = cc
found_number (first ∷ others) n one e = found_head first others n one (found_number others n one) (first.object == n) refl e

-- ---- what is put

module _ (whole : NamedProgram) (unit : ℕ) (temporaries : List Ty) where
  key_alike : (name : List ℕ) (key : LocalKey) (known other : Knows) (one : Named) → known one ≡ other one → key_put whole unit temporaries name key known one ≡ key_put whole unit temporaries name key other one
  key_alike name a_result known other one e = e
  key_alike name (a_passed number) known other one e = e
  key_alike name (a_local number) known other one e = ap (λ (found : Option KnownThing). if same_named one (Object number) then first_of (own_object whole number name) found else found) e
  key_alike name (a_temporary number) known other one e =
      ap (λ (found : Option KnownThing). if same_named one (Temporary number) then first_of (temporary_at unit temporaries number name) found else found) e

  -- one more
  pub more_local : (before old new : Names) (known : Knows) (one : LocalName) → KnowsMore before old known → KnowsMore old new (local_put whole unit temporaries one old.known) →
      KnowsMore before new (local_put whole unit temporaries one known)
  more_local before old new known one first second = record {
    known_is = λ thing. second.known_is thing ∙ key_alike one.name one.key old.known known thing (first.known_is thing);
    rest = both_rest first.rest second.rest;
  }

  key_apart : (name : List ℕ) (key : LocalKey) (known : Knows) (one : Named) → ((m : ℕ) → same_named one (Object m) ≡ false) → ((m : ℕ) → same_named one (Temporary m) ≡ false) →
      key_put whole unit temporaries name key known one ≡ known one
  key_apart name a_result known one far other = refl
  key_apart name (a_passed number) known one far other = refl
  key_apart name (a_local number) known one far other = ap (λ (t : Bool). if t then first_of (own_object whole number name) (known one) else known one) (far number)
  key_apart name (a_temporary number) known one far other = ap (λ (t : Bool). if t then first_of (temporary_at unit temporaries number name) (known one) else known one) (other number)

  pub local_types : (one : LocalName) (known : Knows) → HasTypes whole known → HasTypes whole (local_put whole unit temporaries one known)
  local_types one known has = record {
    has_records = λ n. key_apart one.name one.key known (Record n) (λ m. refl) (λ m. refl) ∙ has.has_records n;
    has_enums = λ n. key_apart one.name one.key known (Enum n) (λ m. refl) (λ m. refl) ∙ has.has_enums n;
  }

  locals_apart : (locals : List LocalName) (known : Knows) (one : Named) → ((m : ℕ) → same_named one (Object m) ≡ false) → ((m : ℕ) → same_named one (Temporary m) ≡ false) →
      locals_put whole unit temporaries locals known one ≡ known one
  locals_apart [] known one far other = refl
  locals_apart (first ∷ others) known one far other =
      key_apart first.name first.key (locals_put whole unit temporaries others known) one far other ∙ locals_apart others known one far other

  -- a local, or else what is known
  abbrev own_or : (number : ℕ) → Option (List ℕ) → Option KnownThing → Option KnownThing
  own_or number None known = known
  own_or number (Some name) known = first_of (own_object whole number name) known

  abbrev temporary_or : (number : ℕ) → Option (List ℕ) → Option KnownThing → Option KnownThing
  temporary_or number None known = known
  temporary_or number (Some name) known = first_of (temporary_at unit temporaries number name) known

  own_head : (n m : ℕ) (name : List ℕ) (found : Option (List ℕ)) (old rest : Option KnownThing) (t : Bool) → (n == m) ≡ t → rest ≡ own_or n found old →
      (if t then first_of (own_object whole m name) rest else rest) ≡ own_or n (if t then Some name else found) old
  own_head n m name found old rest true is e =
      let same : m ≡ n = sym (let f : n ≡ m = grind (arith, nat_tests, is) in f) in
      ap (λ (k : ℕ). first_of (own_object whole k name) rest) same ∙ by_object (object_with n whole.program.objects) refl
    where
      by_found : (held : Option (List ℕ)) → object_with n whole.program.objects ≡ None → own_or n held old ≡ old
      by_found None there = refl
      by_found (Some other) there = ap (λ (o : Option CObject). first_of (option_map (own_item whole other) o) old) there

      by_object : (object : Option CObject) → object_with n whole.program.objects ≡ object → first_of (own_object whole n name) rest ≡ first_of (own_object whole n name) old
      by_object None there =
          let none : own_object whole n name ≡ None = ap (option_map (own_item whole name)) there in
          ap (λ (o : Option KnownThing). first_of o rest) none ∙ e ∙ by_found found there ∙ sym (ap (λ (o : Option KnownThing). first_of o old) none)
      by_object (Some one) there =
          let some : own_object whole n name ≡ Some (own_item whole name one) = ap (option_map (own_item whole name)) there in
          ap (λ (o : Option KnownThing). first_of o rest) some ∙ sym (ap (λ (o : Option KnownThing). first_of o old) some)
  own_head n m name found old rest false is e = e

  object_found : (locals : List LocalName) (known : Knows) (n : ℕ) →
      locals_put whole unit temporaries locals known (Object n) ≡ own_or n (local_among (a_local n) locals) (known (Object n))
  object_found [] known n = refl
  object_found (one ∷ others) known n = by_key one.name one.key (object_found others known n)
    where
      by_key : (name : List ℕ) (key : LocalKey) → locals_put whole unit temporaries others known (Object n) ≡ own_or n (local_among (a_local n) others) (known (Object n)) →
          key_put whole unit temporaries name key (locals_put whole unit temporaries others known) (Object n)
          ≡ own_or n (if same_local (a_local n) key then Some name else local_among (a_local n) others) (known (Object n))
      by_key name a_result e = e
      by_key name (a_passed number) e = e
      by_key name (a_local number) e =
          own_head n number name (local_among (a_local n) others) (known (Object n)) (locals_put whole unit temporaries others known (Object n)) (n == number) refl e
      by_key name (a_temporary number) e = e

  temporary_head : (n m : ℕ) (name : List ℕ) (found : Option (List ℕ)) (old rest : Option KnownThing) (t : Bool) → (n == m) ≡ t → rest ≡ temporary_or n found old →
      (if t then first_of (temporary_at unit temporaries m name) rest else rest) ≡ temporary_or n (if t then Some name else found) old
  temporary_head n m name found old rest true is e =
      let same : m ≡ n = sym (let f : n ≡ m = grind (arith, nat_tests, is) in f) in
      ap (λ (k : ℕ). first_of (temporary_at unit temporaries k name) rest) same ∙ by_type (slice_get temporaries n) refl
    where
      by_found : (held : Option (List ℕ)) → slice_get temporaries n ≡ None → temporary_or n held old ≡ old
      by_found None there = refl
      by_found (Some other) there = ap (λ (o : Option Ty). first_of (temporary_thing unit n (Some other) o) old) there

      by_type : (type : Option Ty) → slice_get temporaries n ≡ type → first_of (temporary_at unit temporaries n name) rest ≡ first_of (temporary_at unit temporaries n name) old
      by_type None there =
          let none : temporary_at unit temporaries n name ≡ None = ap (temporary_thing unit n (Some name)) there in
          ap (λ (o : Option KnownThing). first_of o rest) none ∙ e ∙ by_found found there ∙ sym (ap (λ (o : Option KnownThing). first_of o old) none)
      by_type (Some one) there =
          let some = ap (temporary_thing unit n (Some name)) there in
          ap (λ (o : Option KnownThing). first_of o rest) some ∙ sym (ap (λ (o : Option KnownThing). first_of o old) some)
  temporary_head n m name found old rest false is e = e

  temporary_found : (locals : List LocalName) (known : Knows) (n : ℕ) →
      locals_put whole unit temporaries locals known (Temporary n) ≡ temporary_or n (local_among (a_temporary n) locals) (known (Temporary n))
  temporary_found [] known n = refl
  temporary_found (one ∷ others) known n = by_key one.name one.key (temporary_found others known n)
    where
      by_key : (name : List ℕ) (key : LocalKey) → locals_put whole unit temporaries others known (Temporary n) ≡ temporary_or n (local_among (a_temporary n) others) (known (Temporary n)) →
          key_put whole unit temporaries name key (locals_put whole unit temporaries others known) (Temporary n)
          ≡ temporary_or n (if same_local (a_temporary n) key then Some name else local_among (a_temporary n) others) (known (Temporary n))
      by_key name a_result e = e
      by_key name (a_passed number) e = e
      by_key name (a_local number) e = e
      by_key name (a_temporary number) e =
          temporary_head n number name (local_among (a_temporary n) others) (known (Temporary n)) (locals_put whole unit temporaries others known (Temporary n)) (n == number) refl e

  object_in : (own : LocalNames) (n : ℕ) (object : Option CObject) → object_with n whole.program.objects ≡ object →
      own_or n (local_among (a_local n) own.names) (object_thing whole no_locals object) ≡ object_thing whole own object
  object_in own n None there = by_found (local_among (a_local n) own.names)
    where
      by_found : (held : Option (List ℕ)) → own_or n held None ≡ None
      by_found None = refl
      by_found (Some name) = ap (λ (o : Option CObject). first_of (option_map (own_item whole name) o) None) there
  object_in own n (Some one) there =
      by_found (local_among (a_local n) own.names)
      ∙ ap (λ (k : ℕ). Some (local_or_item whole one (local_among (a_local k) own.names))) (sym (found_number whole.program.objects n one there))
    where
      by_found : (held : Option (List ℕ)) → own_or n held (object_thing whole no_locals (Some one)) ≡ Some (local_or_item whole one held)
      by_found None = refl
      by_found (Some name) = ap (λ (o : Option CObject). first_of (option_map (own_item whole name) o) (object_thing whole no_locals (Some one))) there

  temporary_in : (n : ℕ) (held : Option (List ℕ)) (type : Option Ty) → slice_get temporaries n ≡ type → temporary_or n held None ≡ temporary_thing unit n held type
  temporary_in n None None there = refl
  temporary_in n None (Some type) there = refl
  temporary_in n (Some name) None there = ap (λ (o : Option Ty). first_of (temporary_thing unit n (Some name) o) None) there
  temporary_in n (Some name) (Some type) there = ap (λ (o : Option Ty). first_of (temporary_thing unit n (Some name) o) None) there

-- ---- the function

module _ (whole : NamedProgram) (fun : CFun) (temporaries : List Ty) (start begun_names middle after : Names) where
  pub types_there : IsModule whole fun.unit start → Begins FunctionNames start begun_names → TakesMoreOwn begun_names middle → HasTypes whole middle.known
  types_there is_module begins takes = record {
    has_records = λ n. ap (λ (known : Knows). known (Record n)) takes.takes.same_known ∙ begins (Record n) ∙ is_module.known_are (Record n) refl;
    has_enums = λ n. ap (λ (known : Knows). known (Enum n)) takes.takes.same_known ∙ begins (Enum n) ∙ is_module.known_are (Enum n) refl ∙ sym (enum_in whole fun.unit n is_module.units_there);
  }

  pub function_is : (locals : List LocalName) → IsModule whole fun.unit start → Begins FunctionNames start begun_names → begun_names.taken.module_names ≡ start.taken.module_names →
      begun_names.has_bits ≡ start.has_bits → TakesMoreOwn begun_names middle → locals ≡ local_names whole.program fun (length temporaries) →
      KnowsMore middle after (locals_put whole fun.unit temporaries locals middle.known) → IsFunction whole fun temporaries after
  function_is locals is_module begins items bits takes are known = record {
    known_are = all;
    taken_are = ap (λ (t : TakenNames). t.module_names) (known.rest.same_taken ∙ takes.takes.taken_are) ∙ items ∙ is_module.taken_are;
    units_there = is_module.units_there;
    has_bits_is = known.rest.same_bits ∙ takes.takes.same_bits ∙ bits ∙ is_module.has_bits_is;
  }
    where
      own : LocalNames
      own = own_names_of whole fun temporaries

      same : (one : Named) → middle.known one ≡ begun_names.known one
      same one = ap (λ (k : Knows). k one) takes.takes.same_known

      other : (one : Named) → ((m : ℕ) → same_named one (Object m) ≡ false) → ((m : ℕ) → same_named one (Temporary m) ≡ false) → after.known one ≡ begun_names.known one
      other one far apart = known.known_is one ∙ locals_apart whole fun.unit temporaries locals middle.known one far apart ∙ same one

      all : KnowsAll whole fun.unit (own_names_of whole fun temporaries) after
      all (Object n) is =
          known.known_is (Object n) ∙ object_found whole fun.unit temporaries locals middle.known n
          ∙ ap (λ (names : List LocalName). own_or whole fun.unit temporaries n (local_among (a_local n) names) (middle.known (Object n))) are
          ∙ ap (λ (found : Option KnownThing). own_or whole fun.unit temporaries n (local_among (a_local n) (local_names whole.program fun (length temporaries))) found)
          (same (Object n) ∙ begins (Object n) ∙ is_module.known_are (Object n) refl)
          ∙ object_in whole fun.unit temporaries (own_names_of whole fun temporaries) n (object_with n whole.program.objects) refl
      all (Function n) is = other (Function n) (λ m. refl) (λ m. refl) ∙ begins (Function n) ∙ is_module.known_are (Function n) refl
      all (BareFunction n) is = other (BareFunction n) (λ m. refl) (λ m. refl) ∙ begins (BareFunction n) ∙ is_module.known_are (BareFunction n) refl
      all (Record n) is = other (Record n) (λ m. refl) (λ m. refl) ∙ begins (Record n) ∙ is_module.known_are (Record n) refl
      all (Enum n) is = other (Enum n) (λ m. refl) (λ m. refl) ∙ begins (Enum n) ∙ is_module.known_are (Enum n) refl
      all (Temporary n) is =
          known.known_is (Temporary n) ∙ temporary_found whole fun.unit temporaries locals middle.known n
          ∙ ap (λ (names : List LocalName). temporary_or whole fun.unit temporaries n (local_among (a_temporary n) names) (middle.known (Temporary n))) are
          ∙ ap (λ (found : Option KnownThing). temporary_or whole fun.unit temporaries n (local_among (a_temporary n) (local_names whole.program fun (length temporaries))) found)
          (same (Temporary n) ∙ begins (Temporary n))
          ∙ temporary_in whole fun.unit temporaries n (local_among (a_temporary n) (local_names whole.program fun (length temporaries))) (slice_get temporaries n) refl
      all Result is = cc
