-- An array without length has one behind its initialiser, for whoever names it from there on (ISO C99, 6.7.8p22).
use Rattle.std.proofs.Common.{◌≡◌, ◌⊎◌, inl, inr, ℕ, Bool, true, false, not, ◌&&◌, if◌then◌else◌, List, [], ◌∷◌, ◌++◌, Option, None, Some, bytes_eq, refl, sym, ap, ◌∙◌}
use Rattle.std.proofs.lemmas.Slice.Eq.{bytes_eq-Decides}
use Rattle.cx_core.specs.declared.program.Linkage.{Linkage}
use Rattle.cx_core.specs.Trees.{CTy}
use Rattle.cx_rules.specs.Scope.{CMeant, an_object, a_function, a_type_name, an_enumerator, a_tag, CDeclared, ordinary, tag, tag_of, is_ordinary}

-- as `Declare` says it
abbrev is_object_meant : CMeant → Bool
is_object_meant (an_object number type is_register linkage) = true
is_object_meant _ = false

abbrev redeclared : List ℕ → CTy → CDeclared → CDeclared
redeclared name type one = elim one.meant as (λ _. CDeclared) [
  | an_object number before is_register linkage ↦
      (if bytes_eq one.name name then record one { meant = an_object number type is_register linkage } else one)
  | a_function number before linkage ↦ one
  | a_type_name before ↦ one
  | an_enumerator value ↦ one
  | a_tag is_record is_open number ↦ one
]

abbrev pub redeclare_first : List ℕ → CTy → List CDeclared → List CDeclared
redeclare_first name type [] = []
redeclare_first name type (one ∷ others) =
    if bytes_eq one.name name && is_object_meant one.meant then redeclared name type one ∷ others else one ∷ redeclare_first name type others

-- ---- what stands behind stays

joined : {X : Type 0} (xs ys zs : List X) → (xs ++ ys) ++ zs ≡ xs ++ (ys ++ zs)
joined [] ys zs = refl
joined (first ∷ xs) ys zs = ap (λ others. first ∷ others) (joined xs ys zs)

front_by : (name : List ℕ) (type : CTy) (first : CDeclared) (same : Bool) (few many : List CDeclared) (behind : List CDeclared) → redeclare_first name type many ≡ redeclare_first name type few ++ behind → many ≡ few ++ behind
    → (if same then redeclared name type first ∷ many else first ∷ redeclare_first name type many)
    ≡ (if same then redeclared name type first ∷ few else first ∷ redeclare_first name type few) ++ behind
front_by name type first true few many behind later is = ap (λ others. redeclared name type first ∷ others) is
front_by name type first false few many behind later is = ap (λ others. first ∷ others) later

last_by : (name : List ℕ) (type : CTy) (new : CDeclared) (behind : List CDeclared) (same : Bool) → same ≡ true
    → (if same then redeclared name type new ∷ behind else new ∷ redeclare_first name type behind) ≡ (if same then redeclared name type new ∷ [] else new ∷ []) ++ behind
last_by name type new behind true is = refl
last_by name type new behind false is = absurd cc

and_true : (a b : Bool) → a ≡ true → b ≡ true → (a && b) ≡ true
and_true true b first second = second
and_true false b first second = absurd cc

pub redeclared_front : (name : List ℕ) (type : CTy) (front : List CDeclared) (meant : CMeant) (behind : List CDeclared) → is_object_meant meant ≡ true
    → redeclare_first name type (front ++ record { name = name; meant = meant } ∷ behind) ≡ redeclare_first name type (front ++ record { name = name; meant = meant } ∷ []) ++ behind
redeclared_front name type [] meant behind object =
    last_by name type (record { name = name; meant = meant }) behind (bytes_eq name name && is_object_meant meant) (and_true (bytes_eq name name) (is_object_meant meant) ((bytes_eq-Decides name name).1 refl) object)
redeclared_front name type (first ∷ front) meant behind object =
    front_by name type first (bytes_eq first.name name && is_object_meant first.meant) (front ++ record { name = name; meant = meant } ∷ []) (front ++ record { name = name; meant = meant } ∷ behind) behind
    (redeclared_front name type front meant behind object) (sym (joined front (record { name = name; meant = meant } ∷ []) behind))

-- ---- what a name means then

pub record IsRetyped (name other : List ℕ) (type : CTy) (was : Option CMeant) (found : CMeant) : Type 0 where
  pub number : ℕ
  pub before : CTy
  pub is_register : Bool
  pub linkage : Linkage
  pub was_is : was ≡ Some (an_object number before is_register linkage)
  pub found_is : found ≡ an_object number type is_register linkage
  pub name_is : name ≡ other

same_some : {X : Type 0} {x y : X} → Some x ≡ Some y → x ≡ y
same_some is = cc

-- the one that is declared again, and one before it
object_here : (name other : List ℕ) (type : CTy) (own : List ℕ) (number : ℕ) (before : CTy) (is_register : Bool) (linkage : Linkage) (others more : Option CMeant) (found : CMeant) (same here : Bool)
    → bytes_eq own name ≡ same → bytes_eq own other ≡ here
    → (if here then Some (an_object number type is_register linkage) else others) ≡ Some found → same ≡ true
    → ((if here then Some (an_object number before is_register linkage) else others) ≡ Some found) ⊎ IsRetyped name other type (if here then Some (an_object number before is_register linkage) else others) found
object_here name other type own number before is_register linkage others more found same true e at is named = inr (record {
  number = number;
  before = before;
  is_register = is_register;
  linkage = linkage;
  was_is = refl;
  found_is = sym (same_some is);
  name_is = sym ((bytes_eq-Decides own name).0 (e ∙ named)) ∙ (bytes_eq-Decides own other).0 at;
})
object_here name other type own number before is_register linkage others more found same false e at is named = inl is

step_past : (here : Bool) (meant found : CMeant) (few many : Option CMeant) (name other : List ℕ) (type : CTy) → (if here then Some meant else many) ≡ Some found
    → (many ≡ Some found → (few ≡ Some found) ⊎ IsRetyped name other type few found)
    → ((if here then Some meant else few) ≡ Some found) ⊎ IsRetyped name other type (if here then Some meant else few) found
step_past true meant found few many name other type is later = inl is
step_past false meant found few many name other type is later = later is

-- an object at the head
abbrev head_of : Bool → Bool → List ℕ → List ℕ → ℕ → (before type : CTy) → Bool → Linkage → List CDeclared → List CDeclared
head_of same again name own number before type is_register linkage rest =
    if same && true
    then (if again then record { name = own; meant = an_object number type is_register linkage } else record { name = own; meant = an_object number before is_register linkage }) ∷ rest
    else record { name = own; meant = an_object number before is_register linkage } ∷ redeclare_first name type rest

object_step : (name other : List ℕ) (type : CTy) (own : List ℕ) (number : ℕ) (before : CTy) (is_register : Bool) (linkage : Linkage) (rest : List CDeclared) (found : CMeant) (same : Bool) → bytes_eq own name ≡ same
    → ordinary other (head_of same same name own number before type is_register linkage rest) ≡ Some found
    → (ordinary other (redeclare_first name type rest) ≡ Some found → (ordinary other rest ≡ Some found) ⊎ IsRetyped name other type (ordinary other rest) found)
    → (ordinary other (record { name = own; meant = an_object number before is_register linkage } ∷ rest) ≡ Some found)
    ⊎ IsRetyped name other type (ordinary other (record { name = own; meant = an_object number before is_register linkage } ∷ rest)) found
object_step name other type own number before is_register linkage rest found true e is later =
    object_here name other type own number before is_register linkage (ordinary other rest) None found true (bytes_eq own other) e refl is refl
object_step name other type own number before is_register linkage rest found false e is later =
    step_past (bytes_eq own other) (an_object number before is_register linkage) found (ordinary other rest) (ordinary other (redeclare_first name type rest)) name other type is later

-- what is no object stays
other_step : (name other : List ℕ) (type : CTy) (own : List ℕ) (meant : CMeant) (rest : List CDeclared) (found : CMeant) (same : Bool)
    → ordinary other (if same && false then redeclared name type (record { name = own; meant = meant }) ∷ rest else record { name = own; meant = meant } ∷ redeclare_first name type rest) ≡ Some found
    → (ordinary other (redeclare_first name type rest) ≡ Some found → (ordinary other rest ≡ Some found) ⊎ IsRetyped name other type (ordinary other rest) found)
    → (ordinary other (record { name = own; meant = meant } ∷ rest) ≡ Some found) ⊎ IsRetyped name other type (ordinary other (record { name = own; meant = meant } ∷ rest)) found
other_step name other type own meant rest found true is later =
    step_past (is_ordinary meant && bytes_eq own other) meant found (ordinary other rest) (ordinary other (redeclare_first name type rest)) name other type is later
other_step name other type own meant rest found false is later =
    step_past (is_ordinary meant && bytes_eq own other) meant found (ordinary other rest) (ordinary other (redeclare_first name type rest)) name other type is later

means_by : (name other : List ℕ) (type : CTy) (own : List ℕ) (meant : CMeant) (rest : List CDeclared) (found : CMeant)
    → ordinary other (redeclare_first name type (record { name = own; meant = meant } ∷ rest)) ≡ Some found
    → (ordinary other (redeclare_first name type rest) ≡ Some found → (ordinary other rest ≡ Some found) ⊎ IsRetyped name other type (ordinary other rest) found)
    → (ordinary other (record { name = own; meant = meant } ∷ rest) ≡ Some found) ⊎ IsRetyped name other type (ordinary other (record { name = own; meant = meant } ∷ rest)) found
means_by name other type own (an_object number before is_register linkage) rest found is later =
    object_step name other type own number before is_register linkage rest found (bytes_eq own name) refl is later
means_by name other type own (a_function number before linkage) rest found is later = other_step name other type own (a_function number before linkage) rest found (bytes_eq own name) is later
means_by name other type own (a_type_name before) rest found is later = other_step name other type own (a_type_name before) rest found (bytes_eq own name) is later
means_by name other type own (an_enumerator value) rest found is later = other_step name other type own (an_enumerator value) rest found (bytes_eq own name) is later
means_by name other type own (a_tag is_record goes_on number) rest found is later = other_step name other type own (a_tag is_record goes_on number) rest found (bytes_eq own name) is later

pub redeclared_means : (name other : List ℕ) (type : CTy) (declared : List CDeclared) (found : CMeant) → ordinary other (redeclare_first name type declared) ≡ Some found
    → (ordinary other declared ≡ Some found) ⊎ IsRetyped name other type (ordinary other declared) found
redeclared_means name other type [] found is = inl is
redeclared_means name other type (one ∷ rest) found is = means_by name other type one.name one.meant rest found is (redeclared_means name other type rest found)

-- tags stay
tag_object : (name other : List ℕ) (type : CTy) (own : List ℕ) (number : ℕ) (before : CTy) (is_register : Bool) (linkage : Linkage) (rest : List CDeclared) (same : Bool)
    → tag other (redeclare_first name type rest) ≡ tag other rest
    → tag other (head_of same same name own number before type is_register linkage rest) ≡ tag other rest
tag_object name other type own number before is_register linkage rest true later = refl
tag_object name other type own number before is_register linkage rest false later = later

tag_other : (name other : List ℕ) (type : CTy) (own : List ℕ) (meant : CMeant) (rest : List CDeclared) (same : Bool) → tag other (redeclare_first name type rest) ≡ tag other rest
    → tag other (if same && false then redeclared name type (record { name = own; meant = meant }) ∷ rest else record { name = own; meant = meant } ∷ redeclare_first name type rest)
    ≡ tag other (record { name = own; meant = meant } ∷ rest)
tag_other name other type own meant rest true later = ap (λ found. if not (is_ordinary meant) && bytes_eq own other then tag_of meant else found) later
tag_other name other type own meant rest false later = ap (λ found. if not (is_ordinary meant) && bytes_eq own other then tag_of meant else found) later

tags_by : (name other : List ℕ) (type : CTy) (own : List ℕ) (meant : CMeant) (rest : List CDeclared) → tag other (redeclare_first name type rest) ≡ tag other rest
    → tag other (redeclare_first name type (record { name = own; meant = meant } ∷ rest)) ≡ tag other (record { name = own; meant = meant } ∷ rest)
tags_by name other type own (an_object number before is_register linkage) rest later = tag_object name other type own number before is_register linkage rest (bytes_eq own name) later
tags_by name other type own (a_function number before linkage) rest later = tag_other name other type own (a_function number before linkage) rest (bytes_eq own name) later
tags_by name other type own (a_type_name before) rest later = tag_other name other type own (a_type_name before) rest (bytes_eq own name) later
tags_by name other type own (an_enumerator value) rest later = tag_other name other type own (an_enumerator value) rest (bytes_eq own name) later
tags_by name other type own (a_tag is_record goes_on number) rest later = tag_other name other type own (a_tag is_record goes_on number) rest (bytes_eq own name) later

pub redeclared_tags : (name other : List ℕ) (type : CTy) (declared : List CDeclared) → tag other (redeclare_first name type declared) ≡ tag other declared
redeclared_tags name other type [] = refl
redeclared_tags name other type (one ∷ rest) = tags_by name other type one.name one.meant rest (redeclared_tags name other type rest)
