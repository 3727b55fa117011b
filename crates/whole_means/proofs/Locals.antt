-- No two locals of a function have one name.
use Rattle.std.proofs.Common.{arith, ◌≡◌, ◌<◌, ℕ, ◌==◌, Bool, true, false, if◌then◌else◌, List, [], ◌∷◌, ◌++◌, map, length, Option, Some, None, slice_get, is_some, IsSome, option_map, refl, sym, ap, ◌∙◌, ◌⊎◌, inl, inr}
use Rattle.std.proofs.lemmas.Option.{slice_get_within}
use Rattle.std.specs.List.{list_any}
use Rattle.cx_core.specs.Trees.{CFun, CObject, CProgram}
use Rattle.cx_core.specs.Typing.{object_with}
use Rattle.lift_calls.specs.Frames.{KeptTemporary, NamesApart}
use Rattle.lift_exprs.specs.Names.{Names}
use Rattle.lift_forms.specs.Places.{Kept}
use Rattle.rs_text.specs.Tree.{Ty, Local, Static}
use Rattle.rs_text.specs.Valid.{all_differ}
use Rattle.whole_bodies.specs.Names.{held_in_body, index_in, kept_object, locals_of, names_in, own_names, temporaries_of, zeroed_objects}
use Rattle.whole_items.specs.Items.{WrittenBodies}
use Rattle.whole_means.proofs.Keys.{differ_first, differ_rest, number_same, number_self}
use Rattle.whole_means.proofs.Lists.{Among, find_there}
use Rattle.whole_means.proofs.Numbers.{same_object}
use Rattle.whole_means.specs.FunctionNames.{HasFewNames, kept_by, kept_found, kept_names, kept_temporary, kept_zero, zero_number}
use Rattle.whole_means.specs.Written.{IsNamed}
use Rattle.whole_names.proofs.Named.{of_functions}
use Rattle.whole_names.specs.FunctionNames.{LocalKey, a_result, a_passed, a_local, a_temporary, LocalName}
use Rattle.whole_names.specs.Kept.{NamedProgram, local_among, module_of, name_in, object_item, same_local}
use Rattle.whole_names.specs.Keys.{an_object}
use Rattle.whole_names.specs.ModuleNames.{taken_names}

pub local_same : (one other : LocalKey) → same_local one other ≡ true → one ≡ other
local_same a_result a_result e = refl
local_same (a_passed one) (a_passed other) e = ap a_passed (number_same one other e)
local_same (a_local one) (a_local other) e = ap a_local (number_same one other e)
local_same (a_temporary one) (a_temporary other) e = ap a_temporary (number_same one other e)
local_same _ _ e = absurd cc

pub local_self : (one : LocalKey) → same_local one one ≡ true
local_self a_result = refl
local_self (a_passed one) = number_self one
local_self (a_local one) = number_self one
local_self (a_temporary one) = number_self one

abbrev names_only : List LocalName → List (List ℕ)
names_only names = map (λ (one : LocalName). one.name) names

among_locals : (names : List LocalName) (key : LocalKey) (x : List ℕ) → local_among key names ≡ Some x → Among (names_only names) x
among_locals [] key x found = absurd cc
among_locals (one ∷ names) key x found = by_test (same_local key one.key) refl (among_locals names key x)
  where
    by_test : (t : Bool) → same_local key one.key ≡ t → (local_among key names ≡ Some x → Among (names_only names) x) → (one.name ≡ x) ⊎ Among (names_only names) x
    by_test true e more = let h : Some one.name ≡ Some x = sym (ap (λ t. if t then Some one.name else local_among key names) e) ∙ found in inl (cc (h))
    by_test false e more = inr (more (sym (ap (λ t. if t then Some one.name else local_among key names) e) ∙ found))

-- two keys with one name are one
pub locals_apart : (names : List LocalName) (one other : LocalKey) (x : List ℕ) → all_differ (names_only names) ≡ true → local_among one names ≡ Some x → local_among other names ≡ Some x → one ≡ other
locals_apart [] one other x differ first second = absurd cc
locals_apart (it ∷ names) one other x differ first second =
    by_tests (same_local one it.key) (same_local other it.key) refl refl (locals_apart names one other x (differ_rest it.name (names_only names) differ))
  where
    here : (key : LocalKey) → same_local key it.key ≡ true → local_among key (it ∷ names) ≡ Some x → it.name ≡ x
    here key e found = let h : Some it.name ≡ Some x = sym (ap (λ t. if t then Some it.name else local_among key names) e) ∙ found in cc (h)

    later : (key : LocalKey) → same_local key it.key ≡ false → local_among key (it ∷ names) ≡ Some x → local_among key names ≡ Some x
    later key e found = sym (ap (λ t. if t then Some it.name else local_among key names) e) ∙ found

    by_tests : (s t : Bool) → same_local one it.key ≡ s → same_local other it.key ≡ t → (local_among one names ≡ Some x → local_among other names ≡ Some x → one ≡ other) → one ≡ other
    by_tests true true e f more = local_same one it.key e ∙ sym (local_same other it.key f)
    by_tests true false e f more = absurd (differ_first it.name (names_only names) x differ (among_locals names other x (later other f second)) (sym (here one e first)))
    by_tests false true e f more = absurd (differ_first it.name (names_only names) x differ (among_locals names one x (later one e first)) (sym (here other f second)))
    by_tests false false e f more = more (later one e first) (later other f second)

differ_behind : (front behind : List (List ℕ)) → all_differ (front ++ behind) ≡ true → all_differ behind ≡ true
differ_behind [] behind differ = differ
differ_behind (x ∷ front) behind differ = differ_behind front behind (differ_rest x (front ++ behind) differ)

pub local_number : (n m : ℕ) → a_local n ≡ a_local m → n ≡ m
local_number n m same = number_same n m (ap (λ k. same_local (a_local n) k) (sym same) ∙ local_self (a_local n))

pub temporary_number : (n m : ℕ) → a_temporary n ≡ a_temporary m → n ≡ m
temporary_number n m same = number_same n m (ap (λ k. same_local (a_temporary n) k) (sym same) ∙ local_self (a_temporary n))

module _ (whole : NamedProgram) (is : IsNamed whole) (bodies : WrittenBodies) (fun : CFun) (few : HasFewNames whole fun) where
  abbrev program : CProgram
  program = whole.program

  abbrev own : List LocalName
  own = own_names whole fun

  pub own_differ : all_differ (names_only own) ≡ true
  own_differ =
      differ_behind (taken_names program fun.unit) (names_only own) (of_functions.differ program fun (length (temporaries_of whole fun)) (is.few_names fun.unit) few)

  one_local : (one other : LocalKey) (x : List ℕ) → local_among one own ≡ Some x → local_among other own ≡ Some x → one ≡ other
  one_local one other x first second = locals_apart own one other x own_differ first second

  -- what an object is kept as
  pub data KeptIs (number : ℕ) (kept : Kept) : Type 0 where
    is_local : (o : CObject) (x : List ℕ) → o.object ≡ number → local_among (a_local o.object) own ≡ Some x → kept.place ≡ Local x → KeptIs number kept
    is_static : (o : CObject) → Among program.objects o → o.object ≡ number → IsSome o.puts → kept ≡ kept_object (object_item whole o) → KeptIs number kept

  pub kept_is : (number : ℕ) (kept : Kept) → (kept_names whole fun).objects number ≡ Some kept → KeptIs number kept
  kept_is number kept found = by_object (object_with number program.objects) refl found
    where
      by_static : (o : CObject) → Among program.objects o → o.object ≡ number → (t : Bool) → is_some o.puts ≡ t → (if t then Some (kept_object (object_item whole o)) else None) ≡ Some kept → KeptIs number kept
      by_static o there same true e at = let h : Some (kept_object (object_item whole o)) ≡ Some kept = at in is_static o there same e (sym (cc (h)))
      by_static o there same false e at = absurd cc

      by_name : (o : CObject) → Among program.objects o → o.object ≡ number → (name : Option (List ℕ)) → local_among (a_local o.object) own ≡ name → kept_by whole o name ≡ Some kept → KeptIs number kept
      by_name o there same (Some x) e at =
          let place : Some (Local x) ≡ Some kept.place = ap (option_map (λ (k : Kept). k.place)) at in
          is_local o x same e (sym (cc (place)))
      by_name o there same None e at = by_static o there same (is_some o.puts) refl at

      by_object : (object : Option CObject) → object_with number program.objects ≡ object → kept_found whole fun object ≡ Some kept → KeptIs number kept
      by_object None e at = absurd cc
      by_object (Some o) e at =
          let there = find_there (λ (one : CObject). one.object == number) program.objects o e in
          by_name o there.0 (number_same o.object number there.1) (local_among (a_local o.object) own) refl at

  pub record TemporaryIs (number : ℕ) (one : KeptTemporary) : Type 0 where
    pub named : local_among (a_temporary number) own ≡ Some one.name
    pub within : number < length (held_in_body whole fun)

  pub temporary_is : (number : ℕ) (one : KeptTemporary) → (kept_names whole fun).temporaries number ≡ Some one → TemporaryIs number one
  temporary_is number one found = by_both (local_among (a_temporary number) own) (slice_get (held_in_body whole fun) number) refl refl found
    where
      by_both : (name : Option (List ℕ)) (type : Option Ty) → local_among (a_temporary number) own ≡ name → slice_get (held_in_body whole fun) number ≡ type → kept_temporary name type ≡ Some one →
          TemporaryIs number one
      by_both (Some x) (Some type) e f at =
          let same : Some x ≡ Some one.name = ap (option_map (λ (t : KeptTemporary). t.name)) at in
          record { named = e ∙ same; within = slice_get_within (held_in_body whole fun) number type f }
      by_both None type e f at = absurd cc
      by_both (Some x) None e f at = absurd cc

  pub zero_is : (number : ℕ) (one : KeptTemporary) → (kept_names whole fun).zeros number ≡ Some one → local_among (a_temporary (zero_number whole fun number)) own ≡ Some one.name
  zero_is number one found = by_name (local_among (a_temporary (zero_number whole fun number)) own) refl found
    where
      by_test : (x : List ℕ) (ty : Ty) (t : Bool) → (if t then Some (record { name = x; ty = ty }) else None) ≡ Some one → Some x ≡ Some one.name
      by_test x ty true at = ap (option_map (λ (t : KeptTemporary). t.name)) at
      by_test x ty false at = absurd cc

      by_name : (name : Option (List ℕ)) → local_among (a_temporary (zero_number whole fun number)) own ≡ name → kept_zero whole fun number name ≡ Some one →
          local_among (a_temporary (zero_number whole fun number)) own ≡ Some one.name
      by_name None e at = absurd cc
      by_name (Some x) e at =
          e ∙ by_test x (Rattle.lift_exprs.specs.Names.type_in (Rattle.whole_bodies.specs.Names.module_names_in whole fun.unit) (Rattle.whole_bodies.specs.Names.object_type whole number))
          (list_any (λ other. other == number) (zeroed_objects whole fun)) at

  local_place : (x y : List ℕ) → Local x ≡ Local y → x ≡ y
  local_place x y same = cc (same)

  -- the name of what is a local here
  named_local : (number : ℕ) (kept : Kept) (x : List ℕ) → KeptIs number kept → kept.place ≡ Local x → (o : CObject) × (o.object ≡ number) × (local_among (a_local o.object) own ≡ Some x)
  named_local number kept x (is_local o y same found at) place = (o, same, found ∙ ap Some (local_place y x (sym at ∙ place)))
  named_local number kept x (is_static o there same static at) place =
      absurd (let h : Static (module_of whole o.unit) (name_in whole o.unit (an_object o.object)) ≡ Local x = ap (λ (k : Kept). k.place) (sym at) ∙ place in cc)

  objects_apart : (one other : ℕ) (first second : Kept) → KeptIs one first → KeptIs other second → first.place ≡ second.place → one ≡ other
  objects_apart one other first second (is_local o x same found at) its place =
      let second_local = named_local other second x its (sym place ∙ at) in
      let key = one_local (a_local o.object) (a_local second_local.0.object) x found second_local.2 in
      sym same ∙ local_number o.object second_local.0.object key ∙ second_local.1
  objects_apart one other first second (is_static o there same static at) (is_local p y equal found place_at) place =
      absurd (let h : Static (module_of whole o.unit) (name_in whole o.unit (an_object o.object)) ≡ Local y = ap (λ (k : Kept). k.place) (sym at) ∙ place ∙ place_at in cc)
  objects_apart one other first second (is_static o there same static at) (is_static p there_too equal static_too at_too) place =
      let places : Static (module_of whole o.unit) (name_in whole o.unit (an_object o.object)) ≡ Static (module_of whole p.unit) (name_in whole p.unit (an_object p.object)) =
      ap (λ (k : Kept). k.place) (sym at) ∙ place ∙ ap (λ (k : Kept). k.place) at_too in
      let home : module_of whole o.unit ≡ module_of whole p.unit = cc (places) in
      let name : name_in whole o.unit (an_object o.object) ≡ name_in whole p.unit (an_object p.object) = cc (places) in
      sym same ∙ ap (λ (q : CObject). q.object) (same_object whole is bodies p o there_too there static_too static home name) ∙ equal

  -- the names of a function are those of different things
  pub names_apart : NamesApart (kept_names whole fun)
  names_apart = record {
    objects = λ one other first second a b place. objects_apart one other first second (kept_is one first a) (kept_is other second b) place;
    temporaries = λ one other first second a b same.
        temporary_number one other
        (one_local (a_temporary one) (a_temporary other) second.name ((temporary_is one first a).named ∙ ap Some same) (temporary_is other second b).named);
    both = λ one other first second a b place.
        let it = named_local one first second.name (kept_is one first a) place in
        absurd (let h : a_local it.0.object ≡ a_temporary other = one_local (a_local it.0.object) (a_temporary other) second.name it.2 (temporary_is other second b).named in cc);
    result = λ one kept name a b place.
        let it = named_local one kept name (kept_is one kept a) place in
        absurd (let h : a_local it.0.object ≡ a_result = one_local (a_local it.0.object) a_result name it.2 b in cc);
    result_temporary = λ one kept name a b same.
        absurd (let h : a_temporary one ≡ a_result = one_local (a_temporary one) a_result name ((temporary_is one kept a).named ∙ ap Some same) b in cc);
    zero = λ one other kept zero_one a b place.
        let it = named_local one kept zero_one.name (kept_is one kept a) place in
        absurd (let h : a_local it.0.object ≡ a_temporary (zero_number whole fun other) =
        one_local (a_local it.0.object) (a_temporary (zero_number whole fun other)) zero_one.name it.2 (zero_is other zero_one b) in cc);
    zero_temporary = λ one other kept zero_one a b same.
        let its = temporary_is one kept a in
        let number = temporary_number one (zero_number whole fun other)
        (one_local (a_temporary one) (a_temporary (zero_number whole fun other)) zero_one.name (its.named ∙ ap Some same) (zero_is other zero_one b)) in
        let within = its.within in
        absurd (omega (arith, number, within));
  }
