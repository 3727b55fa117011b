-- In units that break no rule together no name is defined twice, or declared as an object and as a function (ISO C99, 6.2.7p2, 6.9p5).
use Rattle.std.proofs.Common.{◌≡◌, ℕ, nat_lt, not, Bool, true, false, ◌||◌, ◌&&◌, List, [], ◌∷◌, All, None, Some, slice_get, bytes_eq, refl, sym, ap, ◌∙◌, arith}
use Rattle.std.specs.Prelude.{◌<◌}
use Rattle.std.specs.Bool.{beq}
use Rattle.std.specs.List.{Contains, list_any}
use Rattle.std.proofs.lemmas.Bool.Decides.{nat_tests}
use Rattle.std.proofs.lemmas.List.Elements.{All-nil, All-cons}
use Rattle.std.proofs.lemmas.Slice.Eq.{bytes_eq-Decides}
use Rattle.cx_core.specs.declared.program.Linkage.TheVariants.{External}
use Rattle.cx_core.specs.Compatible.{agree, forms_agree}
use Rattle.cx_core.specs.Linked.{is_external, IsDeclaredForm}
use Rattle.cx_core.specs.Trees.{CTy, ty, CTyForm, void, basic, enum_type, pointer, array, record_type, function, form_of_type, CTypes, CDoes, declares, defines, calls, uses, CMention, CUnit}
use Rattle.cx_links.specs.Program.{counts_before, types_of_all, all_mentions}
use Rattle.cx_links.specs.Rules.{counts_in, is_good, compatible_in, is_declaration, is_definition, declares_external, defines_external, is_kind_of, stands_earlier, clashes, broken_links}
use Rattle.cx_renumber.specs.Numbers.{CCounts, type_there, does_there, mention_there}
use Rattle.cx_typed_links.proofs.Compatible.{together_true}
use Rattle.cx_typed_links.proofs.Mentions.{mention_of, mention_passes}
use Rattle.cx_typed_links.proofs.Types.{declared_there}

-- ---- tests

none_any : {X : Type 0} (test : X → Bool) (xs : List X) → ((x : X) → test x ≡ false) → list_any test xs ≡ false
none_any test [] each = refl
none_any test (x ∷ xs) each = ap (λ passes. passes || list_any test xs) (each x) ∙ none_any test xs each

neither_of : (a b : Bool) → (a || b) ≡ false → (a ≡ false) × (b ≡ false)
neither_of true b is = absurd cc
neither_of false b is = (refl, is)

all_fail : {X : Type 0} (test : X → Bool) (xs : List X) → list_any test xs ≡ false → All (λ x. test x ≡ false) xs
all_fail test [] is = All-nil (λ x. test x ≡ false)
all_fail test (x ∷ xs) is =
    let both = neither_of (test x) (list_any test xs) is in All-cons (λ y. test y ≡ false) x xs both.0 (all_fail test xs both.1)

second_false : (a b : Bool) → b ≡ false → (a && b) ≡ false
second_false true b is = is
second_false false b is = refl

other_false : (a b : Bool) → a ≡ true → (a && b) ≡ false → b ≡ false
other_false true b holds is = is
other_false false b holds is = absurd cc

-- ---- a type with which an object may be declared and a function type aren't compatible

abbrev pub IsFunctionType : CTyForm → Type 0
IsFunctionType (function result params variadic) = Unit {0}
IsFunctionType _ = ⊥

forms_apart : (types : CTypes) (counts : ℕ → ℕ → Bool) (first second : CTyForm) → IsDeclaredForm External first → IsFunctionType second
    → (forms_agree types counts first second ≡ false) × (forms_agree types counts second first ≡ false)
forms_apart types counts (basic which) (function result params variadic) object code = (refl, refl)
forms_apart types counts (enum_type number) (function result params variadic) object code = (refl, refl)
forms_apart types counts (pointer to) (function result params variadic) object code = (refl, refl)
forms_apart types counts (array element length) (function result params variadic) object code = (refl, refl)
forms_apart types counts (record_type number) (function result params variadic) object code = (refl, refl)
forms_apart types counts void (function result params variadic) object code = (refl, refl)
forms_apart types counts (function result params variadic) second object code = absurd object
forms_apart types counts first second object code = absurd code

types_apart : (types : CTypes) (counts : ℕ → ℕ → Bool) (first second : CTy) → IsDeclaredForm External (form_of_type first) → IsFunctionType (form_of_type second)
    → (agree types counts first second ≡ false) × (agree types counts second first ≡ false)
types_apart types counts (ty first first_const) (ty second second_const) object code =
    let apart = forms_apart types counts first second object code in (
      second_false (beq first_const second_const) (forms_agree types counts first second) apart.0,
      second_false (beq second_const first_const) (forms_agree types counts second first) apart.1,
    )

not_compatible : (types : CTypes) (first second : CTy) → IsDeclaredForm External (form_of_type first) → IsFunctionType (form_of_type second)
    → (compatible_in types first second ≡ false) × (compatible_in types second first ≡ false)
unfolding compatible_in
not_compatible types first second object code = (
  none_any _ _ (λ pairs. second_false (is_good types pairs) (agree types (counts_in pairs) first second) (types_apart types (counts_in pairs) first second object code).0),
  none_any _ _ (λ pairs. second_false (is_good types pairs) (agree types (counts_in pairs) second first) (types_apart types (counts_in pairs) first second object code).1),
)

function_there_is : (before : CCounts) (type : CTy) → IsFunctionType (form_of_type type) → IsFunctionType (form_of_type (type_there before type))
function_there_is before (ty (function result params variadic) is_const) code = tt
function_there_is before (ty form is_const) code = absurd code

-- ---- mentions that declare

declares_there : (before : CCounts) (does : CDoes) → is_declaration (does_there before does) ≡ is_declaration does
declares_there before declares = refl
declares_there before defines = refl
declares_there before (calls trailing) = refl
declares_there before uses = refl

-- a unit declares an external name with a type of a form
pub record IsDeclaredAs (units : List CUnit) (name : List ℕ) (P : CTyForm → Type 0) (unit : ℕ) : Type 0 where
  pub one : CUnit
  pub unit_is : slice_get units unit ≡ Some one
  pub mention : CMention
  pub among : Contains one.mentions mention
  pub name_is : mention.name ≡ name
  pub linkage_is : mention.linkage ≡ External
  pub declaring : is_declaration mention.does ≡ true
  pub form : P (form_of_type mention.type)

itself : (name : List ℕ) (first second : List ℕ) → first ≡ name → second ≡ name → bytes_eq first second ≡ true
itself name first second is also = (bytes_eq-Decides first second).1 (is ∙ sym also)

less_is : (first second : ℕ) → first < second → nat_lt first second ≡ true
less_is first second less = grind (arith, nat_tests, less)

module _ (units : List CUnit) (none : broken_links units ≡ None) (name : List ℕ) where
  external_there : (P : CTyForm → Type 0) (unit : ℕ) (told : IsDeclaredAs units name P unit)
      → declares_external (mention_there (counts_before unit units) unit told.mention) ≡ true
  external_there P unit told =
      together_true (ap is_external told.linkage_is) (declares_there (counts_before unit units) told.mention.does ∙ told.declaring)

  -- what an earlier unit declares has a compatible type
  agrees : (P Q : CTyForm → Type 0) (first second : ℕ) → first < second → (told : IsDeclaredAs units name P first) (also : IsDeclaredAs units name Q second)
      → compatible_in (types_of_all units) (type_there (counts_before second units) also.mention.type) (type_there (counts_before first units) told.mention.type) ≡ false
      → ⊥
  agrees P Q first second less told also apart =
      let later = mention_there (counts_before second units) second also.mention in
      let earlier = mention_there (counts_before first units) first told.mention in
      let fails = other_false (declares_external later)
      (list_any (λ other. is_kind_of declares_external later.name other && clashes (types_of_all units) later other) (all_mentions units))
      (external_there Q second also) (mention_passes units none second also.one also.unit_is also.mention also.among).compatible in
      let here = mention_of units (λ other. (is_kind_of declares_external later.name other && clashes (types_of_all units) later other) ≡ false)
      (all_fail (λ other. is_kind_of declares_external later.name other && clashes (types_of_all units) later other) (all_mentions units) fails)
      first told.one told.unit_is told.mention told.among in
      let kind : is_kind_of declares_external later.name earlier ≡ true =
      together_true (external_there P first told) (itself name told.mention.name also.mention.name told.name_is also.name_is) in
      let clash : clashes (types_of_all units) later earlier ≡ true =
      together_true (less_is first second less) (ap not apart) in
      (let h : true ≡ false = sym (together_true kind clash) ∙ here in cc)

  -- no unit declares an object where another declares a function
  pub one_kind : (first second : ℕ) → (first ≡ second → ⊥) → IsDeclaredAs units name (IsDeclaredForm External) first → IsDeclaredAs units name IsFunctionType second → ⊥
  one_kind first second apart told also = by (nat_lt first second) refl
    where
      kinds : (compatible_in (types_of_all units) (type_there (counts_before first units) told.mention.type) (type_there (counts_before second units) also.mention.type) ≡ false)
          × (compatible_in (types_of_all units) (type_there (counts_before second units) also.mention.type) (type_there (counts_before first units) told.mention.type) ≡ false)
      kinds = not_compatible (types_of_all units) (type_there (counts_before first units) told.mention.type) (type_there (counts_before second units) also.mention.type)
          (declared_there (counts_before first units) External told.mention.type told.form) (function_there_is (counts_before second units) also.mention.type also.form)

      by : (less : Bool) → nat_lt first second ≡ less → ⊥
      by true less = agrees (IsDeclaredForm External) IsFunctionType first second (let h : first < second = grind (arith, nat_tests, less) in h) told also kinds.1
      by false less = agrees IsFunctionType (IsDeclaredForm External) second first (let h : second < first = grind (arith, nat_tests, less, apart) in h) also told kinds.0

-- ---- definitions

defines_there : (before : CCounts) (does : CDoes) → does ≡ defines → is_definition (does_there before does) ≡ true
defines_there before does is = ap (λ one. is_definition (does_there before one)) is

-- a unit says that it defines an external name
pub record IsDefinedIn (units : List CUnit) (name : List ℕ) (unit : ℕ) : Type 0 where
  pub one : CUnit
  pub unit_is : slice_get units unit ≡ Some one
  pub mention : CMention
  pub among : Contains one.mentions mention
  pub name_is : mention.name ≡ name
  pub linkage_is : mention.linkage ≡ External
  pub does_is : mention.does ≡ defines

module _ (units : List CUnit) (none : broken_links units ≡ None) (name : List ℕ) where
  definition_there : (unit : ℕ) (told : IsDefinedIn units name unit) → defines_external (mention_there (counts_before unit units) unit told.mention) ≡ true
  definition_there unit told = together_true (ap is_external told.linkage_is) (defines_there (counts_before unit units) told.mention.does told.does_is)

  defined_earlier : (first second : ℕ) → first < second → IsDefinedIn units name first → IsDefinedIn units name second → ⊥
  defined_earlier first second less told also =
      let later = mention_there (counts_before second units) second also.mention in
      let earlier = mention_there (counts_before first units) first told.mention in
      let fails = other_false (defines_external later)
      (list_any (λ other. is_kind_of defines_external later.name other && stands_earlier later other) (all_mentions units))
      (definition_there second also) (mention_passes units none second also.one also.unit_is also.mention also.among).one_definition in
      let here = mention_of units (λ other. (is_kind_of defines_external later.name other && stands_earlier later other) ≡ false)
      (all_fail (λ other. is_kind_of defines_external later.name other && stands_earlier later other) (all_mentions units) fails)
      first told.one told.unit_is told.mention told.among in
      let kind : is_kind_of defines_external later.name earlier ≡ true =
      together_true (definition_there first told) (itself name told.mention.name also.mention.name told.name_is also.name_is) in
      (let h : true ≡ false = sym (together_true kind (less_is first second less)) ∙ here in cc)

  -- no two units define it
  pub one_definition : (first second : ℕ) → (first ≡ second → ⊥) → IsDefinedIn units name first → IsDefinedIn units name second → ⊥
  one_definition first second apart told also = by (nat_lt first second) refl
    where
      by : (less : Bool) → nat_lt first second ≡ less → ⊥
      by true less = defined_earlier first second (let h : first < second = grind (arith, nat_tests, less) in h) told also
      by false less = defined_earlier second first (let h : second < first = grind (arith, nat_tests, less, apart) in h) also told
