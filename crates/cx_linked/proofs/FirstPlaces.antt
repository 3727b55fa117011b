-- The first places of names.
use Rattle.std.proofs.Common.{arith, ◌≡◌, ℕ, suc, ◌&&◌, Bool, true, false, cond, if◌then◌else◌, List, [], ◌∷◌, ◌++◌, map, take, length, Option, Some, None, option_map, refl, sym, ap, ◌∙◌, subst, slice_get}
use Rattle.std.proofs.Math.Path.{fun_ext}
use Rattle.std.proofs.lemmas.Cmp.{nat_list_eq_equiv}
use Rattle.std.proofs.lemmas.Option.{slice_get-map}
use Rattle.std.proofs.lemmas.Slice.Eq.{bytes_eq-Decides}
use Rattle.std.specs.Global.{Vec}
use Rattle.std.specs.HashMap.{HashMap, Updates}
use Rattle.std.proofs.Math.Seq.{take-length}
use Rattle.std.specs.List.{find}
use Rattle.std.specs.Option.{option_and_then, option_or}
use Rattle.std.specs.Prelude.{bytes_eq, is_some}
use Rattle.cx_core.specs.Linked.{is_external}
use Rattle.cx_core.specs.declared.program.CoreObject.{CoreObject}
use Rattle.cx_core.specs.declared.program.Fun.{Fun}
use Rattle.cx_core.specs.declared.program.Outer.{Outer}
use Rattle.cx_core.specs.Trees.{CObject, CFun, COuter, CUnit}
use Rattle.cx_core.specs.Views.{view_function, view_object, view_outer}
use Rattle.cx_link.specs.Chains.{indexed}
use Rattle.cx_links.specs.Program.{CFound, declared_function, declared_object, defined_object, first_unit, function_of_name, has_name, is_object_named, is_prototype, prototyped_function}
use Rattle.cx_link.proofs.Chains.{puts, split_at}
use Rattle.cx_linked.specs.declared.index.Index.{Index}
use Rattle.cx_linked.specs.declared.found.Found.{Found}
use Rattle.cx_linked.specs.declared.named.Named.{Named}
use Rattle.cx_linked.specs.Found.{all_found, view_found}
use Rattle.cx_linked.specs.Named.{IsIndex, IsNamedBy, declares_object, defines_object, first_place, is_external_function, is_external_outer, is_external_prototype, is_named, name_of_function, name_of_object, name_of_outer}
use Rattle.cx_linked.proofs.Gathered.{first_found}

-- ---- first places

-- a place where a test holds
abbrev pub here_at : Bool → ℕ → Option ℕ
here_at here n = if here then Some n else None

abbrev later_at : Bool → Option ℕ → Option ℕ
later_at here rest = if here then Some 0 else option_map suc rest

later_or : (first : Option ℕ) (here : Bool) (n : ℕ) → option_map suc (option_or first (here_at here n)) ≡ option_or (option_map suc first) (here_at here (suc n))
later_or (Some first) here n = refl
later_or None true n = refl
later_or None false n = refl

last_by : (first : Option ℕ) (front here : Bool) (n : ℕ) → later_at front (option_or first (here_at here n)) ≡ option_or (later_at front first) (here_at here (suc n))
last_by first true here n = refl
last_by first false here n = later_or first here n

alone : (here : Bool) → later_at here None ≡ here_at here 0
alone true = refl
alone false = refl

-- the first place of a list with one more at its end
pub place_last : {A : Type 0} (test : A → Bool) (xs : List A) (x : A)
    → first_place test (xs ++ x ∷ []) ≡ option_or (first_place test xs) (here_at (test x) (length xs))
place_last test [] x = alone (test x)
place_last test (y ∷ ys) x = ap (later_at (test y)) (place_last test ys x) ∙ last_by (first_place test ys) (test y) (test x) (length ys)

then_later : {A : Type 0} (x : A) (xs : List A) (place : Option ℕ) → option_and_then (slice_get (x ∷ xs)) (option_map suc place) ≡ option_and_then (slice_get xs) place
then_later x xs (Some n) = refl
then_later x xs None = refl

found_here : {A : Type 0} (x : A) (xs : List A) (place : Option ℕ) (found : Option A) (here : Bool) → option_and_then (slice_get xs) place ≡ found
    → option_and_then (slice_get (x ∷ xs)) (later_at here place) ≡ cond here (Some x) found
found_here x xs place found true is = refl
found_here x xs place found false is = then_later x xs place ∙ is

-- what stands there
pub place_found : {A : Type 0} (test : A → Bool) (xs : List A) → option_and_then (slice_get xs) (first_place test xs) ≡ find test xs
place_found test [] = refl
place_found test (x ∷ xs) = found_here x xs (first_place test xs) (find test xs) (test x) (place_found test xs)

-- ---- an index

-- what is known of the first things of a list
abbrev pub IsNoted : {A : Type 0} → Index → (List ℕ → A → Bool) → List A → ℕ → Type 0
IsNoted index test all at = IsIndex index test (take at all)

pub index_goes : {A : Type 0} (before after : Index) (test : List ℕ → A → Bool) (all : List A) (at : ℕ) (one : A)
    → IsNoted before test all at → slice_get all at ≡ Some one
    → ((name : List ℕ) → indexed after.first name ≡ option_or (indexed before.first name) (here_at (test name one) at))
    → IsNoted after test all (suc at)
index_goes before after test all at one noted is goes = λ name.
    goes name
    ∙ ap (λ first. option_or first (here_at (test name one) at)) (noted name)
    ∙ ap (λ n. option_or (first_place (test name) (take at all)) (here_at (test name one) n)) (sym (split_at all at one is).2)
    ∙ sym (place_last (test name) (take at all) one)
    ∙ ap (first_place (test name)) (sym (split_at all at one is).0)

-- the same, where one counts or doesn't
pub index_counts : {A : Type 0} (before after : Index) (counts_of : A → Bool) (name_of : A → Option (List ℕ)) (all : List (CFound A)) (at next : ℕ) (one : CFound A) (counts : Bool)
    → IsNoted before (is_named counts_of name_of) all at → slice_get all at ≡ Some one → suc at ≡ next → counts ≡ counts_of one.thing
    → ((name : List ℕ) → indexed after.first name ≡ option_or (indexed before.first name) (here_at (counts && has_name name (name_of one.thing)) at))
    → IsNoted after (is_named counts_of name_of) all next
index_counts before after counts_of name_of all at next one counts noted is next_is counts_is goes =
    subst (λ n. IsNoted after (is_named counts_of name_of) all n) next_is
    (index_goes before after (is_named counts_of name_of) all at one noted is
    (λ name. goes name ∙ ap (λ b. option_or (indexed before.first name) (here_at (b && has_name name (name_of one.thing)) at)) counts_is))

pub index_ends : {A : Type 0} (index : Index) (test : List ℕ → A → Bool) (all : List A) → IsNoted index test all (length all) → IsIndex index test all
index_ends index test all noted = λ name. noted name ∙ ap (first_place (test name)) (take-length all)

-- ---- what has a name

same_test : {A : Type 0} (one other : A → Bool) (xs : List A) → ((x : A) → one x ≡ other x) → find one xs ≡ find other xs
same_test one other xs same = ap (λ test. find test xs) (fun_ext same)

module _ {X A : Type 0} (view : X → A) where
  there_by : (kept : List X) (place : Option ℕ) → option_map view (option_and_then (slice_get kept) place) ≡ option_and_then (slice_get (map view kept)) place
  there_by kept None = refl
  there_by kept (Some n) = sym (slice_get-map view kept n)

  -- what stands at the first place of a name
  pub found_at_name : (kept : List X) (all : List A) (index : Index) (test : List ℕ → A → Bool) (name : List ℕ) (result : Option X)
      → map view kept ≡ all → IsIndex index test (map view kept) → result ≡ option_and_then (slice_get kept) (indexed index.first name)
      → option_map view result ≡ find (test name) all
  found_at_name kept all index test name result all_is known is =
      ap (option_map view) is
      ∙ there_by kept (indexed index.first name)
      ∙ ap (λ place. option_and_then (slice_get (map view kept)) place) (known name)
      ∙ place_found (test name) (map view kept)
      ∙ ap (find (test name)) all_is

defined_parts : (external named defined : Bool) → (external && defined) && named ≡ (external && named) && defined
defined_parts true true true = refl
defined_parts true true false = refl
defined_parts true false true = refl
defined_parts true false false = refl
defined_parts false named defined = refl

module _ (named : Named) (units : List CUnit) (known : IsNamedBy named units) (name : List ℕ) where
  pub declared_object_is : (result : Option (Found CoreObject)) → result ≡ option_and_then (slice_get named.things.objects) (indexed named.places.declared_objects.first name)
      → option_map (view_found view_object) result ≡ first_unit (declared_object name) 0 units
  declared_object_is result is =
      found_at_name (view_found view_object) named.things.objects (all_found (λ (home : CUnit). home.objects) units) named.places.declared_objects (is_named declares_object name_of_object) name result known.objects known.places.declared_objects is
      ∙ sym (first_found (is_object_named name) (λ (home : CUnit). home.objects) 0 units)

  pub defined_object_is : (result : Option (Found CoreObject)) → result ≡ option_and_then (slice_get named.things.objects) (indexed named.places.defined_objects.first name)
      → option_map (view_found view_object) result ≡ first_unit (defined_object name) 0 units
  defined_object_is result is =
      found_at_name (view_found view_object) named.things.objects (all_found (λ (home : CUnit). home.objects) units) named.places.defined_objects (is_named defines_object name_of_object) name result known.objects known.places.defined_objects is
      ∙ same_test (is_named defines_object name_of_object name) (λ (found : CFound CObject). is_object_named name found.thing && is_some found.thing.puts) (all_found (λ (home : CUnit). home.objects) units)
      (λ found. defined_parts (is_external found.thing.linkage) (has_name name found.thing.name) (is_some found.thing.puts))
      ∙ sym (first_found (λ (one : CObject). is_object_named name one && is_some one.puts) (λ (home : CUnit). home.objects) 0 units)

  pub function_is : (result : Option (Found Fun)) → result ≡ option_and_then (slice_get named.things.functions) (indexed named.places.defined_functions.first name)
      → option_map (view_found view_function) result ≡ function_of_name units name
  function_is result is =
      found_at_name (view_found view_function) named.things.functions (all_found (λ (home : CUnit). home.functions) units) named.places.defined_functions (is_named is_external_function name_of_function) name result known.functions known.places.defined_functions is
      ∙ sym (first_found (λ (one : CFun). is_external one.linkage && bytes_eq name one.name) (λ (home : CUnit). home.functions) 0 units)

  pub prototype_is : (result : Option (Found Outer)) → result ≡ option_and_then (slice_get named.things.externals) (indexed named.places.prototyped_functions.first name)
      → option_map (view_found view_outer) result ≡ first_unit (prototyped_function name) 0 units
  prototype_is result is =
      found_at_name (view_found view_outer) named.things.externals (all_found (λ (home : CUnit). home.externals) units) named.places.prototyped_functions (is_named is_external_prototype name_of_outer) name result known.externals known.places.prototyped_functions is
      ∙ sym (first_found (λ (one : COuter). (is_external one.linkage && is_prototype one) && bytes_eq name one.name) (λ (home : CUnit). home.externals) 0 units)

  pub outer_is : (result : Option (Found Outer)) → result ≡ option_and_then (slice_get named.things.externals) (indexed named.places.declared_functions.first name)
      → option_map (view_found view_outer) result ≡ first_unit (declared_function name) 0 units
  outer_is result is =
      found_at_name (view_found view_outer) named.things.externals (all_found (λ (home : CUnit). home.externals) units) named.places.declared_functions (is_named is_external_outer name_of_outer) name result known.externals known.places.declared_functions is
      ∙ sym (first_found (λ (one : COuter). is_external one.linkage && bytes_eq name one.name) (λ (home : CUnit). home.externals) 0 units)

-- ---- a name that is noted

or_none : {A : Type 0} (one : Option A) → one ≡ option_or one None
or_none None = refl
or_none (Some one) = refl

-- what doesn't count is not noted
pub noted_none : (after before : Option ℕ) → after ≡ before → after ≡ option_or before None
noted_none after before same = same ∙ or_none before

module _ {S : Type 0} (old new : HashMap (Vec ℕ) ℕ S) (name wanted : List ℕ) (place : ℕ) where
  kept_by : (same : Bool) → bytes_eq wanted name ≡ same → (before : Option ℕ) → indexed old wanted ≡ before → is_some (indexed old name) ≡ true
      → before ≡ option_or before (here_at same place)
  kept_by same is (Some at) before held = refl
  kept_by false is None before held = refl
  kept_by true is None before held =
      let equal : wanted ≡ name = (bytes_eq-Decides wanted name).0 is in
      absurd (grind (arith, held, ap (λ bytes. is_some (indexed old bytes)) (sym equal) ∙ ap is_some before))

  -- a name that was noted before stays where it is
  pub noted_before : is_some (indexed old name) ≡ true → indexed old wanted ≡ option_or (indexed old wanted) (here_at (bytes_eq wanted name) place)
  noted_before held = kept_by (bytes_eq wanted name) refl (indexed old wanted) refl held

  new_by : (same : Bool) → bytes_eq wanted name ≡ same → is_some (indexed old name) ≡ false
      → (if same then Some place else indexed old wanted) ≡ option_or (indexed old wanted) (here_at same place)
  new_by false is none = or_none (indexed old wanted)
  new_by true is none =
      let equal : wanted ≡ name = (bytes_eq-Decides wanted name).0 is in
      unheld (indexed old wanted) (ap (λ bytes. is_some (indexed old bytes)) equal ∙ none) where
        unheld : (before : Option ℕ) → is_some before ≡ false → Some place ≡ option_or before (Some place)
        unheld None no_one = refl
        unheld (Some at) no_one = cc

  -- a new one is noted
  pub noted_new : (key : Vec ℕ) → key.items ≡ name → is_some (indexed old name) ≡ false
      → Updates (λ (x y : Vec ℕ). bytes_eq x.items y.items) old new key (Some place)
      → indexed new wanted ≡ option_or (indexed old wanted) (here_at (bytes_eq wanted name) place)
  noted_new key key_is none updates =
      puts old new key place updates wanted
      ∙ ap (λ bytes. if bytes_eq bytes wanted then Some place else indexed old wanted) key_is
      ∙ ap (λ same. if same then Some place else indexed old wanted) (nat_list_eq_equiv.symm name wanted)
      ∙ new_by (bytes_eq wanted name) refl none
