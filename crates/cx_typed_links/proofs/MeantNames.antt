-- Names with linkage of a unit are each one thing's (ISO C99, 6.2.2p2).
use Rattle.std.proofs.Common.{◌≡◌, ℕ, zero, suc, Bool, true, false, if◌then◌else◌, List, [], ◌∷◌, ◌++◌, Option, None, Some, bytes_eq, refl, sym, ap, ◌∙◌, arith, subst, ◌⊎◌, inl, inr}
use Rattle.std.specs.Prelude.{cond}
use Rattle.std.specs.List.{Contains, find, list_any, IsDistinct}
use Rattle.std.proofs.lemmas.Bool.{or_left, or_right, or_cases}
use Rattle.std.proofs.lemmas.List.Folds.{list_any-append}
use Rattle.std.proofs.lemmas.Slice.Eq.{bytes_eq-Decides}
use Rattle.cx_core.specs.declared.program.Linkage.{Linkage}
use Rattle.cx_core.specs.declared.program.Linkage.TheVariants.{External, Internal, Nothing}
use Rattle.cx_core.specs.Linked.{has_linkage, names_with, program_of}
use Rattle.cx_core.specs.Trees.{CTy, CPuts, CTypes, CObject, CFun, COuter, CUnit}
use Rattle.cx_typed_links.proofs.Outers.{AreOtherNames, things_of, object_of}
use Rattle.cx_typed_links.proofs.Places.{same_found}

-- ---- lists of names

abbrev pub IsIn : List ℕ → List (List ℕ) → Type 0
IsIn name names = list_any (bytes_eq name) names ≡ true

same_name : (name other : List ℕ) → bytes_eq name other ≡ true → name ≡ other
same_name name other is = (bytes_eq-Decides name other).0 is

its_name : (name : List ℕ) → bytes_eq name name ≡ true
its_name name = (bytes_eq-Decides name name).1 refl

not_in : (name : List ℕ) (names : List (List ℕ)) → AreOtherNames name names → IsIn name names → ⊥
not_in name [] apart is = cc
not_in name (first ∷ others) apart is = by (or_cases (bytes_eq name first) (list_any (bytes_eq name) others) is) (not_in name others apart.1) where
  by : (bytes_eq name first ≡ true) ⊎ IsIn name others → (IsIn name others → ⊥) → ⊥
  by (inl same) later = let h : true ≡ false = sym same ∙ apart.0 in cc
  by (inr there) later = later there

in_second : (name : List ℕ) (xs ys : List (List ℕ)) → IsIn name ys → IsIn name (xs ++ ys)
in_second name xs ys is = list_any-append (bytes_eq name) xs ys ∙ or_right (list_any (bytes_eq name) xs) (list_any (bytes_eq name) ys) is

in_first : (name : List ℕ) (xs ys : List (List ℕ)) → IsIn name xs → IsIn name (xs ++ ys)
in_first name xs ys is = list_any-append (bytes_eq name) xs ys ∙ or_left (list_any (bytes_eq name) xs) (list_any (bytes_eq name) ys) is

-- a name in one of two lists isn't in the other
pub not_in_both : (name : List ℕ) (xs ys : List (List ℕ)) → IsDistinct bytes_eq (xs ++ ys) → IsIn name xs → IsIn name ys → ⊥
unfolding IsDistinct
not_in_both name [] ys differ here there = cc
not_in_both name (first ∷ others) ys differ here there =
    by (or_cases (bytes_eq name first) (list_any (bytes_eq name) others) here) (λ later. not_in_both name others ys differ.1 later there) where
      by : (bytes_eq name first ≡ true) ⊎ IsIn name others → (IsIn name others → ⊥) → ⊥
      by (inl same) rest =
          not_in first (others ++ ys) differ.0
          (subst (λ n. IsIn n (others ++ ys)) (same_name name first same) (in_second name others ys there))
      by (inr later) rest = rest later

pub front_differ : (xs ys : List (List ℕ)) → IsDistinct bytes_eq (xs ++ ys) → IsDistinct bytes_eq ys
unfolding IsDistinct
front_differ [] ys differ = differ
front_differ (first ∷ others) ys differ = front_differ others ys differ.1

others_first : (name : List ℕ) (xs ys : List (List ℕ)) → AreOtherNames name (xs ++ ys) → AreOtherNames name xs
others_first name [] ys apart = tt
others_first name (first ∷ others) ys apart = (apart.0, others_first name others ys apart.1)

pub back_differ : (xs ys : List (List ℕ)) → IsDistinct bytes_eq (xs ++ ys) → IsDistinct bytes_eq xs
unfolding IsDistinct
back_differ [] ys differ = tt
back_differ (first ∷ others) ys differ = (others_first first others ys differ.0, back_differ others ys differ.1)

-- ---- the names of things

abbrev pub name_first : Option (List ℕ) → List (List ℕ) → List (List ℕ)
name_first None names = names
name_first (Some name) names = name ∷ names

abbrev has_it : List ℕ → Option (List ℕ) → Bool
has_it name None = false
has_it name (Some other) = bytes_eq name other

module _ {X : Type 0} (name_of : X → Option (List ℕ)) where
  abbrev pub names_of : List X → List (List ℕ)
  names_of [] = []
  names_of (x ∷ xs) = name_first (name_of x) (names_of xs)

  in_later : (name : List ℕ) (found : Option (List ℕ)) (names : List (List ℕ)) → IsIn name names → IsIn name (name_first found names)
  in_later name None names is = is
  in_later name (Some other) names is = or_right (bytes_eq name other) (list_any (bytes_eq name) names) is

  in_now : (name : List ℕ) (found : Option (List ℕ)) (names : List (List ℕ)) → found ≡ Some name → IsIn name (name_first found names)
  in_now name None names is = absurd cc
  in_now name (Some other) names is =
      let same : other ≡ name = cc (is) in
      or_left (bytes_eq name other) (list_any (bytes_eq name) names) (subst (λ n. bytes_eq name n ≡ true) (sym same) (its_name name))

  pub in_names : (xs : List X) (x : X) → Contains xs x → (name : List ℕ) → name_of x ≡ Some name → IsIn name (names_of xs)
  in_names [] x (k, less, is) name named = absurd (omega (arith, less))
  in_names (first ∷ others) x (zero, less, is) name named = in_now name (name_of first) (names_of others) (ap name_of is ∙ named)
  in_names (first ∷ others) x (suc k, less, is) name named =
      in_later name (name_of first) (names_of others) (in_names others x (k, omega (arith, less), is) name named)

  later_differ : (found : Option (List ℕ)) (names : List (List ℕ)) → IsDistinct bytes_eq (name_first found names) → IsDistinct bytes_eq names
  unfolding IsDistinct
  later_differ None names differ = differ
  later_differ (Some name) names differ = differ.1

  other_first : (name : List ℕ) (found : Option (List ℕ)) (names : List (List ℕ)) → IsDistinct bytes_eq (name_first found names) → IsIn name names → has_it name found ≡ false
  unfolding IsDistinct
  other_first name None names differ is = refl
  other_first name (Some other) names differ is = by (bytes_eq name other) refl where
    by : (same : Bool) → bytes_eq name other ≡ same → bytes_eq name other ≡ false
    by false same = same
    by true same = absurd (not_in other names differ.0 (subst (λ n. IsIn n names) (same_name name other same) is))

  its_it : (name : List ℕ) (found : Option (List ℕ)) → found ≡ Some name → has_it name found ≡ true
  its_it name None is = absurd cc
  its_it name (Some other) is = (let same : other ≡ name = cc (is) in subst (λ n. bytes_eq name n ≡ true) (sym same) (its_name name))

  found_it : (xs : List X) → IsDistinct bytes_eq (names_of xs) → (x : X) → Contains xs x → (name : List ℕ) → name_of x ≡ Some name
      → find (λ y. has_it name (name_of y)) xs ≡ Some x
  found_it [] differ x (k, less, is) name named = absurd (omega (arith, less))
  found_it (first ∷ others) differ x (zero, less, is) name named =
      ap (λ (passes : Bool). cond passes (Some first) (find (λ y. has_it name (name_of y)) others)) (its_it name (name_of first) (ap name_of is ∙ named))
      ∙ ap (λ y. Some y) is
  found_it (first ∷ others) differ x (suc k, less, is) name named =
      let there : Contains others x = (k, omega (arith, less), is) in
      ap (λ (passes : Bool). cond passes (Some first) (find (λ y. has_it name (name_of y)) others))
      (other_first name (name_of first) (names_of others) differ (in_names others x there name named))
      ∙ found_it others (later_differ (name_of first) (names_of others) differ) x there name named

  -- what has one name is one thing
  pub one_thing : (xs : List X) → IsDistinct bytes_eq (names_of xs) → (x y : X) → Contains xs x → Contains xs y → (name : List ℕ) → name_of x ≡ Some name
      → name_of y ≡ Some name → x ≡ y
  one_thing xs differ x y first second name named also =
      same_found (find (λ z. has_it name (name_of z)) xs) x y (found_it xs differ x first name named) (found_it xs differ y second name also)

-- ---- the names of a unit

abbrev pub object_name : CObject → Option (List ℕ)
object_name known = if has_linkage known.linkage then known.name else None

abbrev pub function_name : CFun → Option (List ℕ)
function_name known = if has_linkage known.linkage then Some known.name else None

abbrev pub outer_name : COuter → Option (List ℕ)
outer_name known = if has_linkage known.linkage then Some known.name else None

one_before : (has : Bool) (name : List ℕ) (these those here there : List (List ℕ)) → these ++ those ≡ here ++ there
    → (if has then name ∷ these else these) ++ those ≡ name_first (if has then Some name else None) here ++ there
one_before true name these those here there same = ap (λ names. name ∷ names) same
one_before false name these those here there same = same

last_before : (has : Bool) (name : List ℕ) (these here : List (List ℕ)) → these ≡ here
    → (if has then name ∷ these else these) ≡ name_first (if has then Some name else None) here
last_before true name these here same = ap (λ names. name ∷ names) same
last_before false name these here same = same

module _ (types : CTypes) where
  object_before : (others : List CObject) (functions : List CFun) (externals : List COuter)
      (number unit : ℕ) (name : Option (List ℕ)) (is_text : Bool) (type : CTy) (linkage : Linkage) (puts : Option CPuts)
      → names_with has_linkage (things_of types others functions externals) ≡ names_of object_name others ++ (names_of function_name functions ++ names_of outer_name externals)
      → names_with has_linkage (things_of types (object_of number unit name is_text type linkage puts ∷ others) functions externals)
      ≡ names_of object_name (object_of number unit name is_text type linkage puts ∷ others) ++ (names_of function_name functions ++ names_of outer_name externals)
  object_before others functions externals number unit None is_text type External puts same = same
  object_before others functions externals number unit None is_text type Internal puts same = same
  object_before others functions externals number unit (Some name) is_text type External puts same = ap (λ names. name ∷ names) same
  object_before others functions externals number unit (Some name) is_text type Internal puts same = ap (λ names. name ∷ names) same
  object_before others functions externals number unit name is_text type Nothing puts same = same

  all_names : (objects : List CObject) (functions : List CFun) (externals : List COuter)
      → names_with has_linkage (things_of types objects functions externals)
      ≡ names_of object_name objects ++ (names_of function_name functions ++ names_of outer_name externals)
  all_names [] [] [] = refl
  all_names [] [] (one ∷ others) = last_before (has_linkage one.linkage) one.name _ (names_of outer_name others) (all_names [] [] others)
  all_names [] (one ∷ others) externals =
      one_before (has_linkage one.linkage) one.name _ _ (names_of function_name others) (names_of outer_name externals) (all_names [] others externals)
  all_names (one ∷ others) functions externals =
      object_before others functions externals one.object one.unit one.name one.is_text one.type one.linkage one.puts (all_names others functions externals)

named_if : {X : Type 0} (has : Bool) (x : Option X) → has ≡ true → (if has then x else None) ≡ x
named_if true x is = refl
named_if false x is = absurd cc

module _ (one : CUnit) (differ : IsDistinct bytes_eq (names_with has_linkage (program_of one))) where
  all_differ : IsDistinct bytes_eq (names_of object_name one.objects ++ (names_of function_name one.functions ++ names_of outer_name one.externals))
  all_differ = subst (IsDistinct bytes_eq) (all_names one.types one.objects one.functions one.externals) differ

  name_of_object : (known : CObject) → has_linkage known.linkage ≡ true → object_name known ≡ known.name
  name_of_object known linked = named_if (has_linkage known.linkage) known.name linked

  name_of_function : (known : CFun) → has_linkage known.linkage ≡ true → function_name known ≡ Some known.name
  name_of_function known linked = named_if (has_linkage known.linkage) (Some known.name) linked

  name_of_outer : (known : COuter) → has_linkage known.linkage ≡ true → outer_name known ≡ Some known.name
  name_of_outer known linked = named_if (has_linkage known.linkage) (Some known.name) linked

  pub same_object : (known other : CObject) → Contains one.objects known → Contains one.objects other → has_linkage known.linkage ≡ true → has_linkage other.linkage ≡ true
      → (name : List ℕ) → known.name ≡ Some name → other.name ≡ Some name → known ≡ other
  same_object known other first second linked also name named other_named =
      one_thing object_name one.objects
      (back_differ (names_of object_name one.objects) (names_of function_name one.functions ++ names_of outer_name one.externals) all_differ)
      known other first second name (name_of_object known linked ∙ named) (name_of_object other also ∙ other_named)

  pub no_object_and_function : (known : CObject) (fun : CFun) → Contains one.objects known → Contains one.functions fun → has_linkage known.linkage ≡ true
      → has_linkage fun.linkage ≡ true → known.name ≡ Some fun.name → ⊥
  no_object_and_function known fun first second linked also named =
      not_in_both fun.name (names_of object_name one.objects) (names_of function_name one.functions ++ names_of outer_name one.externals) all_differ
      (in_names object_name one.objects known first fun.name (name_of_object known linked ∙ named))
      (in_first fun.name (names_of function_name one.functions) (names_of outer_name one.externals)
      (in_names function_name one.functions fun second fun.name (name_of_function fun also)))

  pub no_object_and_outer : (known : CObject) (outer : COuter) → Contains one.objects known → Contains one.externals outer → has_linkage known.linkage ≡ true
      → has_linkage outer.linkage ≡ true → known.name ≡ Some outer.name → ⊥
  no_object_and_outer known outer first second linked also named =
      not_in_both outer.name (names_of object_name one.objects) (names_of function_name one.functions ++ names_of outer_name one.externals) all_differ
      (in_names object_name one.objects known first outer.name (name_of_object known linked ∙ named))
      (in_second outer.name (names_of function_name one.functions) (names_of outer_name one.externals)
      (in_names outer_name one.externals outer second outer.name (name_of_outer outer also)))

  pub no_function_and_outer : (fun : CFun) (outer : COuter) → Contains one.functions fun → Contains one.externals outer → has_linkage fun.linkage ≡ true
      → has_linkage outer.linkage ≡ true → fun.name ≡ outer.name → ⊥
  no_function_and_outer fun outer first second linked also named =
      not_in_both outer.name (names_of function_name one.functions) (names_of outer_name one.externals)
      (front_differ (names_of object_name one.objects) (names_of function_name one.functions ++ names_of outer_name one.externals) all_differ)
      (in_names function_name one.functions fun first outer.name (name_of_function fun linked ∙ ap (λ name. Some name) named))
      (in_names outer_name one.externals outer second outer.name (name_of_outer outer also))

  -- functions that are only declared, by their names
  pub same_outer : (known other : COuter) → Contains one.externals known → Contains one.externals other → has_linkage known.linkage ≡ true → has_linkage other.linkage ≡ true
      → known.name ≡ other.name → known ≡ other
  same_outer known other first second linked also named =
      one_thing outer_name one.externals
      (front_differ (names_of function_name one.functions) (names_of outer_name one.externals)
      (front_differ (names_of object_name one.objects) (names_of function_name one.functions ++ names_of outer_name one.externals) all_differ))
      known other first second other.name (name_of_outer known linked ∙ ap (λ name. Some name) named) (name_of_outer other also)
