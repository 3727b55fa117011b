-- In a typed unit, what has an external name has it alone (ISO C99, 6.2.2p2).
use Rattle.std.proofs.Common.{◌≡◌, ℕ, Bool, true, false, ◌&&◌, if◌then◌else◌, List, [], ◌∷◌, ◌++◌, All, Option, Some, bytes_eq, refl, ap, ◌∙◌, subst}
use Rattle.std.specs.Prelude.{cond}
use Rattle.std.specs.List.{find, IsDistinct}
use Rattle.std.proofs.lemmas.List.Elements.{All-nil, All-cons, All-head, All-tail}
use Rattle.std.proofs.lemmas.Slice.Eq.{bytes_eq-Decides}
use Rattle.cx_core.specs.Linked.{is_external, has_linkage, names_with}
use Rattle.cx_core.specs.Trees.{CTypes, CObject, CFun, COuter}
use Rattle.cx_typed_links.proofs.Compatible.{together_true}
use Rattle.cx_typed_links.proofs.ObjectNumbers.{first_apart, other_rest}
use Rattle.cx_typed_links.proofs.Outers.{AreOtherNames, things_of, later_object, later_function, external_has, names_of, outers_are, other_back}

module _ (types : CTypes) where
  -- the names of functions that are defined and of those that are declared
  abbrev later : List CFun → List COuter → List (List ℕ)
  later functions externals = names_with has_linkage (things_of types [] functions externals)

  -- another name than that of a function with external linkage, and of a declared one
  abbrev pub IsOtherFunction : List ℕ → CFun → Type 0
  IsOtherFunction name known = is_external known.linkage ≡ true → bytes_eq name known.name ≡ false

  abbrev pub IsOtherOuter : List ℕ → COuter → Type 0
  IsOtherOuter name known = is_external known.linkage ≡ true → bytes_eq name known.name ≡ false

  head_by : (name first : List ℕ) (front back : List (List ℕ)) (has : Bool) → has ≡ true → AreOtherNames name ((if has then first ∷ front else front) ++ back)
      → bytes_eq name first ≡ false
  head_by name first front back false is apart = absurd cc
  head_by name first front back true is apart = apart.0

  rest_of : (name first : List ℕ) (front back : List (List ℕ)) (has : Bool) → AreOtherNames name ((if has then first ∷ front else front) ++ back)
      → AreOtherNames name (front ++ back)
  rest_of name first front back false apart = apart
  rest_of name first front back true apart = apart.1

  outer_head : (name first : List ℕ) (others : List (List ℕ)) (has : Bool) → has ≡ true → AreOtherNames name (if has then first ∷ others else others)
      → bytes_eq name first ≡ false
  outer_head name first others false is apart = absurd cc
  outer_head name first others true is apart = apart.0

  outer_rest : (name first : List ℕ) (others : List (List ℕ)) (has : Bool) → AreOtherNames name (if has then first ∷ others else others) → AreOtherNames name others
  outer_rest name first others false apart = apart
  outer_rest name first others true apart = apart.1

  other_outers : (name : List ℕ) (externals : List COuter) → AreOtherNames name (names_of externals) → All (IsOtherOuter name) externals
  other_outers name [] apart = All-nil (IsOtherOuter name)
  other_outers name (one ∷ others) apart =
      All-cons (IsOtherOuter name) one others
      (λ external. outer_head name one.name (names_of others) (has_linkage one.linkage) (external_has one.linkage external) apart)
      (other_outers name others (outer_rest name one.name (names_of others) (has_linkage one.linkage) apart))

  -- what has a name that no function of the unit has
  pub others_are : (name : List ℕ) (functions : List CFun) (externals : List COuter) → AreOtherNames name (later functions externals)
      → All (IsOtherFunction name) functions × All (IsOtherOuter name) externals
  others_are name [] externals apart =
      (All-nil (IsOtherFunction name), other_outers name externals (subst (AreOtherNames name) (outers_are types externals) apart))
  others_are name (one ∷ others) externals apart =
      let rest = others_are name others externals (rest_of name one.name _ _ (has_linkage one.linkage) apart) in (
        All-cons (IsOtherFunction name) one others
            (λ external. head_by name one.name _ _ (has_linkage one.linkage) (external_has one.linkage external) apart) rest.0,
        rest.1,
      )

  module _ (functions : List CFun) (externals : List COuter) where
    abbrev names : List CObject → List (List ℕ)
    names objects = names_with has_linkage (things_of types objects functions externals)

    without_objects : (name : List ℕ) (objects : List CObject) → AreOtherNames name (names objects) → AreOtherNames name (later functions externals)
    without_objects name [] apart = apart
    without_objects name (one ∷ others) apart =
        without_objects name others
        (other_rest types functions externals name others one.object one.unit one.name one.is_text one.type one.linkage one.puts apart)

    -- the name of an object with external linkage is that of no function
    abbrev pub IsNoFunction : CObject → Type 0
    IsNoFunction known = (name : List ℕ) → is_external known.linkage ≡ true → known.name ≡ Some name → AreOtherNames name (later functions externals)

    pub no_functions : (objects : List CObject) → IsDistinct bytes_eq (names objects) → All IsNoFunction objects
    no_functions [] differ = All-nil IsNoFunction
    no_functions (one ∷ others) differ =
        All-cons IsNoFunction one others
        (λ name external is.
        without_objects name others
        (first_apart types functions externals name others one.object one.unit one.name one.is_text one.type one.linkage one.puts differ external is))
        (no_functions others
        (later_object types others functions externals one.object one.unit one.name one.is_text one.type one.linkage one.puts differ))

    pub functions_differ : (objects : List CObject) → IsDistinct bytes_eq (names objects) → IsDistinct bytes_eq (later functions externals)
    functions_differ [] differ = differ
    functions_differ (one ∷ others) differ =
        functions_differ others (later_object types others functions externals one.object one.unit one.name one.is_text one.type one.linkage one.puts differ)

  -- ---- a function is found by its external name

  abbrev pub has_function_name : List ℕ → CFun → Bool
  has_function_name name known = is_external known.linkage && bytes_eq name known.name

  abbrev pub IsFunctionAlone : List CFun → CFun → Type 0
  IsFunctionAlone all known = is_external known.linkage ≡ true → find (has_function_name known.name) all ≡ Some known

  first_names : (first : CFun) (front back : List (List ℕ)) (has : Bool) → has ≡ true → IsDistinct bytes_eq ((if has then first.name ∷ front else front) ++ back)
      → AreOtherNames first.name (front ++ back)
  unfolding IsDistinct
  first_names first front back false is differ = absurd cc
  first_names first front back true is differ = differ.0

  skip_by : (first known : CFun) (rest : Option CFun) (external : Bool) → is_external first.linkage ≡ external
      → (external ≡ true → bytes_eq first.name known.name ≡ false) → cond (external && bytes_eq known.name first.name) (Some first) rest ≡ rest
  skip_by first known rest false is apart = refl
  skip_by first known rest true is apart =
      ap (λ (passes : Bool). cond passes (Some first) rest) (other_back first.name known.name (apart refl) (bytes_eq known.name first.name) refl)

  skip_first : (first : CFun) (others all : List CFun) → (is_external first.linkage ≡ true → All (IsOtherFunction first.name) others)
      → All (IsFunctionAlone all) others → All (IsFunctionAlone (first ∷ all)) others
  skip_first first [] all apart found = All-nil (IsFunctionAlone (first ∷ all))
  skip_first first (known ∷ others) all apart found =
      All-cons (IsFunctionAlone (first ∷ all)) known others
      (λ external.
      skip_by first known (find (has_function_name known.name) all) (is_external first.linkage) refl
      (λ first_external. All-head (IsOtherFunction first.name) known others (apart first_external) external)
      ∙ All-head (IsFunctionAlone all) known others found external)
      (skip_first first others all (λ external. All-tail (IsOtherFunction first.name) known others (apart external))
      (All-tail (IsFunctionAlone all) known others found))

  pub function_alone : (functions : List CFun) (externals : List COuter) → IsDistinct bytes_eq (later functions externals) → All (IsFunctionAlone functions) functions
  function_alone [] externals differ = All-nil (IsFunctionAlone [])
  function_alone (first ∷ others) externals differ =
      All-cons (IsFunctionAlone (first ∷ others)) first others
      (λ external.
      ap (λ (passes : Bool). cond passes (Some first) (find (has_function_name first.name) others))
      (together_true external ((bytes_eq-Decides first.name first.name).1 refl)))
      (skip_first first others others
      (λ external. (others_are first.name others externals (first_names first _ _ (has_linkage first.linkage) (external_has first.linkage external) differ)).0)
      (function_alone others externals (later_function (has_linkage first.linkage) first.name _ _ differ)))
