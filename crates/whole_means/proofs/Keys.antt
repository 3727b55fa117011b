-- No two keys of a module have one name, and no two functions, objects or external functions have one number.
use Rattle.std.proofs.Common.{arith, ◌≡◌, ℕ, ◌==◌, Bool, true, false, not, ◌&&◌, ◌||◌, if◌then◌else◌, List, [], ◌∷◌, ◌++◌, map, filter, codes, Option, Some, None, find, refl, sym, ap, subst, ◌∙◌, ◌⊎◌, inl, inr, eqb}
use Rattle.std.proofs.lemmas.Bool.{and_parts, not-true}
use Rattle.std.proofs.lemmas.Bool.Decides.{nat_tests}
use Rattle.std.proofs.lemmas.Map.Keys.{IsDistinct-head, IsDistinct-tail}
use Rattle.std.specs.List.{AllByRecursion, IsDistinct, list_any}
use Rattle.std.specs.Str.{bytes_eq}
use Rattle.cx_core.specs.Linked.{IsLinked, is_external, names_with}
use Rattle.cx_core.specs.Trees.{CDeclaredOrder, CFun, CObject, COuter, CProgram, CPuts, CStmt, CTy, CTypes}
use Rattle.cx_core.specs.declared.program.Linkage.{Linkage}
use Rattle.cx_core.specs.declared.program.Linkage.TheVariants.{External, Internal, Nothing}
use Rattle.rs_text.specs.Valid.{all_differ}
use Rattle.whole_means.proofs.Lists.{Among, among_filter, among_left, among_map, among_map_in, among_right, texts_equal, texts_same}
use Rattle.whole_means.specs.Written.{IsNamed}
use Rattle.whole_names.proofs.Named.{of_modules}
use Rattle.whole_names.specs.Keys.{NameKey, a_function, an_object, a_record, a_calloc, a_bare_function, same_key, entries_of, is_entry, is_external as names_external, module_keys}
use Rattle.whole_names.specs.Kept.{NamedProgram}
use Rattle.whole_names.specs.ModuleNames.{GivenName, entry_names, given_from, module_names, name_among, names_only, own_names, taken_names}

pub number_same : (one other : ℕ) → (one == other) ≡ true → one ≡ other
number_same one other e = grind (arith, nat_tests, e)

pub number_self : (one : ℕ) → (one == one) ≡ true
number_self one = grind (arith, nat_tests)

pub key_same : (one other : NameKey) → same_key one other ≡ true → one ≡ other
key_same (a_function one) (a_function other) e = ap a_function (number_same one other e)
key_same (an_object one) (an_object other) e = ap an_object (number_same one other e)
key_same (a_record one) (a_record other) e = ap a_record (number_same one other e)
key_same a_calloc a_calloc e = refl
key_same (a_bare_function one) (a_bare_function other) e = ap a_bare_function (number_same one other e)
key_same _ _ e = absurd cc

pub key_self : (one : NameKey) → same_key one one ≡ true
key_self (a_function one) = number_self one
key_self (an_object one) = number_self one
key_self (a_record one) = number_self one
key_self a_calloc = refl
key_self (a_bare_function one) = number_self one

-- ---- lists without equal elements

pub any_there : {A : Type 0} (p : A → Bool) (xs : List A) (x : A) → Among xs x → p x ≡ true → list_any p xs ≡ true
any_there p [] x there is = absurd there
any_there p (y ∷ xs) x (inl same) is = ap (λ t. t || list_any p xs) (ap p same ∙ is)
any_there p (y ∷ xs) x (inr there) is = let rest = any_there p xs x there is in by_test (p y) rest
  where
    by_test : (t : Bool) → list_any p xs ≡ true → (t || list_any p xs) ≡ true
    by_test true e = refl
    by_test false e = e

pub differ_first : (x : List ℕ) (others : List (List ℕ)) (y : List ℕ) → all_differ (x ∷ others) ≡ true → Among others y → y ≡ x → ⊥
differ_first x others y differ there same =
    let parts = and_parts (not (list_any (λ other. bytes_eq other x) others)) (all_differ others) differ in
    let none : list_any (λ other. bytes_eq other x) others ≡ false = not-true (list_any (λ other. bytes_eq other x) others) parts.0 in
    let one : list_any (λ other. bytes_eq other x) others ≡ true = any_there (λ other. bytes_eq other x) others y there (ap (λ z. bytes_eq z x) same ∙ texts_same x) in
    let h : false ≡ true = sym none ∙ one in absurd cc

pub differ_rest : (x : List ℕ) (others : List (List ℕ)) → all_differ (x ∷ others) ≡ true → all_differ others ≡ true
differ_rest x others differ = (and_parts (not (list_any (λ other. bytes_eq other x) others)) (all_differ others) differ).1

pub all_there : {A : Type 0} (P : A → Type 0) (xs : List A) (x : A) → AllByRecursion P xs → Among xs x → P x
all_there P [] x all there = absurd there
all_there P (y ∷ xs) x all (inl same) = subst P same all.0
all_there P (y ∷ xs) x all (inr there) = all_there P xs x all.1 there

pub distinct_first : {A : Type 0} (e : A → A → Bool) (x : A) (xs : List A) (y : A) → IsDistinct e (x ∷ xs) → Among xs y → e x y ≡ false
distinct_first e x xs y distinct there = all_there (λ z. e x z ≡ false) xs y (IsDistinct-head e x xs distinct) there

pub distinct_front : {A : Type 0} (e : A → A → Bool) (xs ys : List A) (x y : A) → IsDistinct e (xs ++ ys) → Among xs x → Among ys y → e x y ≡ false
distinct_front e [] ys x y distinct there other = absurd there
distinct_front e (z ∷ xs) ys x y distinct (inl same) other =
    ap (λ w. e w y) (sym same) ∙ distinct_first e z (xs ++ ys) y distinct (among_right xs ys y other)
distinct_front e (z ∷ xs) ys x y distinct (inr there) other = distinct_front e xs ys x y (IsDistinct-tail e z (xs ++ ys) distinct) there other

pub distinct_later : {A : Type 0} (e : A → A → Bool) (xs ys : List A) → IsDistinct e (xs ++ ys) → IsDistinct e ys
distinct_later e [] ys distinct = distinct
distinct_later e (x ∷ xs) ys distinct = distinct_later e xs ys (IsDistinct-tail e x (xs ++ ys) distinct)

-- what has a number is found by it
pub numbered : {A : Type 0} (number_of : A → ℕ) (xs : List A) (more : List ℕ) (x : A) → IsDistinct eqb (map number_of xs ++ more) → Among xs x →
    find (λ one. number_of one == number_of x) xs ≡ Some x
numbered number_of [] more x distinct there = absurd there
numbered {A} number_of (y ∷ xs) more x distinct (inl same) =
    ap (λ t. if t then Some y else find (λ one. number_of one == number_of x) xs) (ap (λ (z : A). number_of z == number_of x) same ∙ number_self (number_of x)) ∙ ap Some same
numbered {A} number_of (y ∷ xs) more x distinct (inr there) =
    let apart : eqb (number_of y) (number_of x) ≡ false =
    distinct_first eqb (number_of y) (map number_of xs ++ more) (number_of x) distinct (among_left (map number_of xs) more (number_of x) (among_map_in number_of xs x there)) in
    ap (λ t. if t then Some y else find (λ one. number_of one == number_of x) xs) apart
    ∙ numbered number_of xs more x (IsDistinct-tail eqb (number_of y) (map number_of xs ++ more) distinct) there

-- ---- the names of given keys

among_names : (given : List GivenName) (key : NameKey) (x : List ℕ) → name_among key given ≡ Some x → Among (names_only given) x
among_names [] key x found = absurd cc
among_names (one ∷ given) key x found = by_test (same_key key one.key) refl (among_names given key x)
  where
    by_test : (t : Bool) → same_key key one.key ≡ t → (name_among key given ≡ Some x → Among (names_only given) x) → (one.name ≡ x) ⊎ Among (names_only given) x
    by_test true e more = let h : Some one.name ≡ Some x = sym (ap (λ t. if t then Some one.name else name_among key given) e) ∙ found in inl cc
    by_test false e more = inr (more (sym (ap (λ t. if t then Some one.name else name_among key given) e) ∙ found))

abbrev NamedApart : List GivenName → NameKey → NameKey → Type 0
NamedApart given one other = (x : List ℕ) → name_among one given ≡ Some x → name_among other given ≡ Some x → one ≡ other

given_apart : (given : List GivenName) (one other : NameKey) → all_differ (names_only given) ≡ true → NamedApart given one other
given_apart [] one other differ x first second = absurd cc
given_apart (it ∷ given) one other differ x first second =
    by_tests (same_key one it.key) (same_key other it.key) refl refl (given_apart given one other (differ_rest it.name (names_only given) differ) x)
  where
    here : (key : NameKey) → same_key key it.key ≡ true → name_among key (it ∷ given) ≡ Some x → it.name ≡ x
    here key e found = let h : Some it.name ≡ Some x = sym (ap (λ t. if t then Some it.name else name_among key given) e) ∙ found in cc (h)

    later : (key : NameKey) → same_key key it.key ≡ false → name_among key (it ∷ given) ≡ Some x → name_among key given ≡ Some x
    later key e found = sym (ap (λ t. if t then Some it.name else name_among key given) e) ∙ found

    by_tests : (s t : Bool) → same_key one it.key ≡ s → same_key other it.key ≡ t → (name_among one given ≡ Some x → name_among other given ≡ Some x → one ≡ other) → one ≡ other
    by_tests true true e f more = key_same one it.key e ∙ sym (key_same other it.key f)
    by_tests true false e f more = absurd (differ_first it.name (names_only given) x differ (among_names given other x (later other f second)) (sym (here one e first)))
    by_tests false true e f more = absurd (differ_first it.name (names_only given) x differ (among_names given one x (later one e first)) (sym (here other f second)))
    by_tests false false e f more = more (later one e first) (later other f second)

-- ---- the program's entry

external_same : (linkage : Linkage) → names_external linkage ≡ true → is_external linkage ≡ true
external_same External e = refl
external_same Internal e = e
external_same Nothing e = e

-- the names of external functions
abbrev external_names : List CFun → List (List ℕ)
external_names [] = []
external_names (one ∷ others) = if is_external one.linkage then one.name ∷ external_names others else external_names others

module _ (types : CTypes) (orders : List CDeclaredOrder) where
  abbrev things : List CObject → List CFun → List COuter → CProgram
  things objects functions externals = record { types = types; objects = objects; functions = functions; externals = externals; orders = orders }

  abbrev Apart : List CObject → List CFun → List COuter → Type 0
  Apart objects functions externals = IsDistinct bytes_eq (names_with is_external (things objects functions externals))

  object_gone : (number unit : ℕ) (name : Option (List ℕ)) (is_text : Bool) (type : CTy) (linkage : Linkage) (puts : Option CPuts) (others : List CObject) (functions : List CFun)
      (externals : List COuter) → Apart (record { object = number; unit = unit; name = name; is_text = is_text; type = type; linkage = linkage; puts = puts } ∷ others) functions externals →
      Apart others functions externals
  object_gone number unit None is_text type External puts others functions externals apart = apart
  object_gone number unit (Some name) is_text type External puts others functions externals apart =
      IsDistinct-tail bytes_eq name (names_with is_external (things others functions externals)) apart
  object_gone number unit name is_text type Internal puts others functions externals apart = apart
  object_gone number unit name is_text type Nothing puts others functions externals apart = apart

  objects_gone : (objects : List CObject) (functions : List CFun) (externals : List COuter) → Apart objects functions externals → Apart [] functions externals
  objects_gone [] functions externals apart = apart
  objects_gone (o ∷ objects) functions externals apart =
      objects_gone objects functions externals (object_gone o.object o.unit o.name o.is_text o.type o.linkage o.puts objects functions externals apart)

  function_named : (number : ℕ) (name : List ℕ) (unit : ℕ) (linkage : Linkage) (type : CTy) (params : List ℕ) (body : CStmt) (others : List CFun) (externals : List COuter) →
      let one : CFun = record { function = number; name = name; unit = unit; linkage = linkage; type = type; params = params; body = body } in
      names_with is_external (things [] others externals) ≡ external_names others ++ names_with is_external (things [] [] externals) →
      names_with is_external (things [] (one ∷ others) externals) ≡ external_names (one ∷ others) ++ names_with is_external (things [] [] externals)
  function_named number name unit External type params body others externals same = ap (λ (names : List (List ℕ)). name ∷ names) same
  function_named number name unit Internal type params body others externals same = same
  function_named number name unit Nothing type params body others externals same = same

  functions_named : (functions : List CFun) (externals : List COuter) →
      names_with is_external (things [] functions externals) ≡ external_names functions ++ names_with is_external (things [] [] externals)
  functions_named [] externals = refl
  functions_named (f ∷ functions) externals =
      function_named f.function f.name f.unit f.linkage f.type f.params f.body functions externals (functions_named functions externals)

among_functions : (functions : List CFun) (f : CFun) → Among functions f → is_external f.linkage ≡ true → Among (external_names functions) f.name
among_functions [] f there is = absurd there
among_functions (g ∷ functions) f (inl same) is =
    subst (λ (names : List (List ℕ)). Among names f.name)
    (sym (ap (λ t. if t then g.name ∷ external_names functions else external_names functions) (ap (λ (h : CFun). is_external h.linkage) same ∙ is)))
    (inl (ap (λ (h : CFun). h.name) same))
among_functions (g ∷ functions) f (inr there) is = by_test (is_external g.linkage) refl (among_functions functions f there is)
  where
    by_test : (t : Bool) → is_external g.linkage ≡ t → Among (external_names functions) f.name → Among (external_names (g ∷ functions)) f.name
    by_test true e rest = subst (λ (names : List (List ℕ)). Among names f.name) (sym (ap (λ t. if t then g.name ∷ external_names functions else external_names functions) e)) (inr rest)
    by_test false e rest = subst (λ (names : List (List ℕ)). Among names f.name) (sym (ap (λ t. if t then g.name ∷ external_names functions else external_names functions) e)) rest

-- of two external functions with one name one isn't behind the other
once : (functions : List CFun) (more : List (List ℕ)) (f g : CFun) → IsDistinct bytes_eq (external_names functions ++ more) → Among functions f → Among functions g →
    is_external f.linkage ≡ true → is_external g.linkage ≡ true → f.name ≡ g.name → f ≡ g
once [] more f g distinct there other first second same = absurd there
once (h ∷ functions) more f g distinct there other first second same = by_test (is_external h.linkage) refl there other (λ d a b. once functions more f g d a b first second same)
  where
    names : List (List ℕ)
    names = external_names functions

    apart : (one : CFun) → is_external h.linkage ≡ true → IsDistinct bytes_eq ((h.name ∷ names) ++ more) → Among functions one → is_external one.linkage ≡ true → bytes_eq h.name one.name ≡ false
    apart one e d a is = distinct_first bytes_eq h.name (names ++ more) one.name d (among_left names more one.name (among_functions functions one a is))

    behind : is_external h.linkage ≡ true → IsDistinct bytes_eq ((h.name ∷ names) ++ more)
    behind e = subst (λ (all : List (List ℕ)). IsDistinct bytes_eq (all ++ more)) (ap (λ t. if t then h.name ∷ names else names) e) distinct

    never : (one two : CFun) → h ≡ one → one.name ≡ two.name → Among functions two → is_external h.linkage ≡ true → is_external two.linkage ≡ true → ⊥
    never one two is equal a e external =
        let no : bytes_eq h.name two.name ≡ false = apart two e (behind e) a external in
        let yes : bytes_eq h.name two.name ≡ true = ap (λ (z : List ℕ). bytes_eq z two.name) (ap (λ (k : CFun). k.name) is ∙ equal) ∙ texts_same two.name in
        let both : false ≡ true = sym no ∙ yes in absurd cc

    by_test : (t : Bool) → is_external h.linkage ≡ t → Among (h ∷ functions) f → Among (h ∷ functions) g →
        (IsDistinct bytes_eq (names ++ more) → Among functions f → Among functions g → f ≡ g) → f ≡ g
    by_test t e (inl a) (inl b) rest = sym a ∙ b
    by_test true e (inl a) (inr b) rest = absurd (never f g a same b e second)
    by_test true e (inr a) (inl b) rest = absurd (never g f b (sym same) a e first)
    by_test true e (inr a) (inr b) rest = rest (IsDistinct-tail bytes_eq h.name (names ++ more) (behind e)) a b
    by_test false e (inl a) (inr b) rest = absurd (let both : false ≡ true = sym e ∙ ap (λ (k : CFun). is_external k.linkage) a ∙ first in cc)
    by_test false e (inr a) (inl b) rest = absurd (let both : false ≡ true = sym e ∙ ap (λ (k : CFun). is_external k.linkage) b ∙ second in cc)
    by_test false e (inr a) (inr b) rest = rest (subst (λ (all : List (List ℕ)). IsDistinct bytes_eq (all ++ more)) (ap (λ t. if t then h.name ∷ names else names) e) distinct) a b

pub one_entry : (program : CProgram) → IsLinked program → (f g : CFun) → Among program.functions f → Among program.functions g → is_entry f ≡ true → is_entry g ≡ true → f ≡ g
one_entry program linked f g there other first second =
    let f_parts = and_parts (names_external f.linkage) (bytes_eq f.name (codes "main")) first in
    let g_parts = and_parts (names_external g.linkage) (bytes_eq g.name (codes "main")) second in
    let types = program.types in
    let orders = program.orders in
    once program.functions (names_with is_external (things types orders [] [] program.externals)) f g
    (subst (λ (names : List (List ℕ)). IsDistinct bytes_eq names) (functions_named types orders program.functions program.externals)
    (objects_gone types orders program.objects program.functions program.externals linked.names_differ))
    there other (external_same f.linkage f_parts.0) (external_same g.linkage g_parts.0) (texts_equal f.name (codes "main") f_parts.1 ∙ sym (texts_equal g.name (codes "main") g_parts.1))

-- ---- the names of a module

module _ (whole : NamedProgram) (is : IsNamed whole) (unit : ℕ) where
  abbrev program : CProgram
  program = whole.program

  abbrev given : List GivenName
  given = given_from program own_names (module_keys program unit)

  taken_differ : all_differ (taken_names program unit) ≡ true
  taken_differ = of_modules.differ program unit (is.few_names unit)

  given_differ : all_differ (names_only given) ≡ true
  given_differ =
      differ_rest (codes "run_static_initializers") (names_only given) (differ_rest (codes "main_0") (codes "run_static_initializers" ∷ names_only given) taken_differ)

  no_entry : (key : NameKey) → name_among key given ≡ Some (codes "main_0") → ⊥
  no_entry key found =
      differ_first (codes "main_0") (codes "run_static_initializers" ∷ names_only given) (codes "main_0") taken_differ (inr (among_names given key (codes "main_0") found)) refl

  -- where a key that has a name stands
  data Stands (key : NameKey) (x : List ℕ) : Type 0 where
    entry : Among (entries_of program unit) key → x ≡ codes "main_0" → Stands key x
    other : name_among key given ≡ Some x → Stands key x

  stands_among : (entries : List NameKey) (key : NameKey) (x : List ℕ) → ((one : NameKey) → Among entries one → Among (entries_of program unit) one) →
      name_among key (entry_names entries ++ given) ≡ Some x → Stands key x
  stands_among [] key x all found = other found
  stands_among (first ∷ entries) key x all found = by_test (same_key key first) refl (stands_among entries key x (λ one there. all one (inr there)))
    where
      by_test : (t : Bool) → same_key key first ≡ t → (name_among key (entry_names entries ++ given) ≡ Some x → Stands key x) → Stands key x
      by_test true e more =
          let h : Some (codes "main_0") ≡ Some x = sym (ap (λ t. if t then Some (codes "main_0") else name_among key (entry_names entries ++ given)) e) ∙ found in
          entry (all key (inl (sym (key_same key first e)))) (sym (cc (h)))
      by_test false e more = more (sym (ap (λ t. if t then Some (codes "main_0") else name_among key (entry_names entries ++ given)) e) ∙ found)

  stands : (key : NameKey) (x : List ℕ) → name_among key (module_names program unit) ≡ Some x → Stands key x
  stands key x found = stands_among (entries_of program unit) key x (λ one there. there) found

  same_entry : (one two : NameKey) → Among (entries_of program unit) one → Among (entries_of program unit) two → one ≡ two
  same_entry one two there also =
      let f = among_map (λ (f : CFun). a_function f.function) (filter (λ (f : CFun). f.unit == unit && is_entry f) program.functions) one there in
      let g = among_map (λ (f : CFun). a_function f.function) (filter (λ (f : CFun). f.unit == unit && is_entry f) program.functions) two also in
      let f_in = among_filter (λ (f : CFun). f.unit == unit && is_entry f) program.functions f.0 f.1 in
      let g_in = among_filter (λ (f : CFun). f.unit == unit && is_entry f) program.functions g.0 g.1 in
      sym f.2 ∙ ap (λ (h : CFun). a_function h.function)
      (one_entry program is.linked f.0 g.0 f_in.0 g_in.0 (and_parts (f.0.unit == unit) (is_entry f.0) f_in.1).1 (and_parts (g.0.unit == unit) (is_entry g.0) g_in.1).1) ∙ g.2

  -- two keys with one name are one
  pub keys_apart : (one two : NameKey) (x : List ℕ) → name_among one (module_names program unit) ≡ Some x → name_among two (module_names program unit) ≡ Some x → one ≡ two
  keys_apart one two x first second = by_cases (stands one x first) (stands two x second)
    where
      by_cases : Stands one x → Stands two x → one ≡ two
      by_cases (entry a same) (entry b equal) = same_entry one two a b
      by_cases (entry a same) (other b) = absurd (no_entry two (b ∙ ap Some same))
      by_cases (other a) (entry b equal) = absurd (no_entry one (a ∙ ap Some equal))
      by_cases (other a) (other b) = given_apart given one two given_differ x a b

  -- and none has that of the initialiser
  pub no_initialiser : (key : NameKey) → name_among key (module_names program unit) ≡ Some (codes "run_static_initializers") → ⊥
  no_initialiser key found = by_cases (stands key (codes "run_static_initializers") found)
    where
      by_cases : Stands key (codes "run_static_initializers") → ⊥
      by_cases (entry a same) = absurd (let h : bytes_eq (codes "run_static_initializers") (codes "main_0") ≡ true = ap (λ x. bytes_eq x (codes "main_0")) same ∙ texts_same (codes "main_0") in cc)
      by_cases (other a) =
          differ_first (codes "run_static_initializers") (names_only given) (codes "run_static_initializers")
          (differ_rest (codes "main_0") (codes "run_static_initializers" ∷ names_only given) taken_differ) (among_names given key (codes "run_static_initializers") a) refl
