-- A program serves each part of a stretch of a unit that it serves.
use Rattle.std.proofs.Common.{◌≡◌, ℕ, zero, suc, ◌<◌, ◌≤◌, Bool, false, List, [], ◌∷◌, ◌++◌, length, Option, None, Some, slice_get, slice_set, refl, sym, ap, ◌∙◌, subst, arith}
use Rattle.std.specs.Prelude.{IsSome, IfSome}
use Rattle.std.specs.List.{Contains}
use Rattle.cr_base.specs.declared.refusal.Place.{Place as TextPlace}
use Rattle.cx_core.specs.declared.program.Linkage.{Linkage}
use Rattle.cx_core.specs.declared.program.Linkage.TheVariants.{External, Internal, Nothing}
use Rattle.cx_core.specs.Trees.{CTy, ty, void, basic, enum_type, pointer, array, record_type, function, listed, unlisted, CTys, no_types, more_types, form_of_type, CTypes, CPuts, CObject, COuter, CMention, CDoes, calls, uses, CExprs, type_of}
use Rattle.cx_core.specs.Typing.{CHome, object_with, callee_with, trailing_of, trailing_types as trailing_there, IsObjectOf, IsThere, IsUsable, IsOutside, IsPointerToCode, IsNamed, IsCodeOf, IsMentioned, IsMentionedIn, IsExternalCall}
use Rattle.cx_rules.specs.Meanings.{args_for, trailing_value, trailing_from, trailing_types}
use Rattle.cx_rules.specs.Operands.{COperand}
use Rattle.cx_rules.specs.Pieces.{used, made_text}
use Rattle.cx_rules.specs.Scope.{CMeant, an_object, a_function, a_type_name, an_enumerator, a_tag, CScope, ordinary, mention_of, with_call, with_mention}
use Rattle.cx_typed.proofs.Numbered.{numbers_by, numbers_on}
use Rattle.cx_typed.specs.Calls.{named_function, args_to, IsCalled, MayBeCalled}
use Rattle.cx_typed.specs.Growth.{Gives, Grows}
use Rattle.cx_typed.specs.Names.{IsServed}
use Rattle.cx_typed.specs.Scopes.{IsHeldObject, IsHeldFunction, IsHeld, Serves, Passes, Keeps, ScopesServe}

-- ---- lists

pub kept_before : {X : Type 0} (xs ys : List X) (number : ℕ) (x : X) → slice_get xs number ≡ Some x → slice_get (xs ++ ys) number ≡ Some x
kept_before [] ys number x is = absurd cc
kept_before (first ∷ xs) ys zero x is = is
kept_before (first ∷ xs) ys (suc number) x is = kept_before xs ys number x is

joined : {X : Type 0} (xs ys zs : List X) → xs ++ (ys ++ zs) ≡ (xs ++ ys) ++ zs
joined [] ys zs = refl
joined (first ∷ xs) ys zs = ap (λ others. first ∷ others) (joined xs ys zs)

pub pushed_at : {X : Type 0} (xs : List X) (x : X) → slice_get (xs ++ x ∷ []) (length xs) ≡ Some x
pushed_at [] x = refl
pushed_at (first ∷ xs) x = pushed_at xs x

pub set_at : {X : Type 0} (xs : List X) (number : ℕ) (x y : X) → slice_get xs number ≡ Some y → slice_get (slice_set xs number x) number ≡ Some x
set_at [] number x y is = absurd cc
set_at (first ∷ xs) zero x y is = refl
set_at (first ∷ xs) (suc number) x y is = set_at xs number x y is

pub longer : {X : Type 0} (xs ys : List X) → ((number : ℕ) → Gives (slice_get xs number) (slice_get ys number)) → length xs ≤ length ys
longer [] ys more = omega arith
longer (first ∷ xs) [] more = absurd (let h : None ≡ Some first = more 0 first refl in cc)
longer (first ∷ xs) (one ∷ ys) more = let h : length xs ≤ length ys = longer xs ys (λ number. more (suc number)) in omega arith

if_some : {X : Type 0} (P Q : X → Type 0) (found : Option X) → ((x : X) → P x → Q x) → IfSome found P → IfSome found Q
if_some P Q None each held = held
if_some P Q (Some x) each held = each x held

-- ---- growth

module _ (opens : List ℕ) where
  pub grows_not : (types : CTypes) → Grows opens types types
  grows_not types = record {
    records = λ number x is. is;
    tags = λ number x is. is;
    record_units = λ number x is. is;
    enum_units = λ number x is. is;
    enums = λ number closed x is. is;
  }

  pub grows_on : (before middle after : CTypes) → Grows opens before middle → Grows opens middle after → Grows opens before after
  grows_on before middle after one other = record {
    records = λ number x is. other.records number x (one.records number x is);
    tags = λ number x is. other.tags number x (one.tags number x is);
    record_units = λ number x is. other.record_units number x (one.record_units number x is);
    enum_units = λ number x is. other.enum_units number x (one.enum_units number x is);
    enums = λ number closed x is. other.enums number closed x (one.enums number closed x is);
  }

  pub stays_itself : (scope : CScope) → Passes opens scope scope
  stays_itself scope = record {
    unit_is = refl;
    grows = grows_not scope.types;
    declared = λ name meant thing is. is;
    mentions = λ number x is. is;
    literals = λ number x is. is;
    front = [];
    declared_is = refl;
    begins_is = refl;
    rest_is = refl;
    numbers = numbers_by scope scope (omega arith) refl;
  }

  pub passes_on : (before middle after : CScope) → Passes opens before middle → Passes opens middle after → Passes opens before after
  passes_on before middle after one other = record {
    unit_is = other.unit_is ∙ one.unit_is;
    grows = grows_on before.types middle.types after.types one.grows other.grows;
    declared = λ name meant thing is. one.declared name meant thing (other.declared name meant thing is);
    mentions = λ number x is. other.mentions number x (one.mentions number x is);
    literals = λ number x is. other.literals number x (one.literals number x is);
    front = other.front ++ one.front;
    declared_is = other.declared_is ∙ (ap (λ declared. other.front ++ declared) one.declared_is ∙ joined other.front one.front before.declared);
    begins_is = other.begins_is ∙ one.begins_is;
    rest_is = other.rest_is ∙ one.rest_is;
    numbers = numbers_on before middle after one.numbers other.numbers other.literals;
  }

  held_by : (home : CHome) (before middle : CScope) → Passes opens before middle → ((name : List ℕ) (meant : CMeant) → ordinary name before.declared ≡ Some meant → IsHeld home name meant)
      → (name : List ℕ) (meant : CMeant) → ordinary name middle.declared ≡ Some meant → IsHeld home name meant
  held_by home before middle passes held name (an_object number type is_register linkage) is = held name _ (passes.declared name _ refl is)
  held_by home before middle passes held name (a_function number type linkage) is = held name _ (passes.declared name _ refl is)
  held_by home before middle passes held name (a_type_name type) is = tt
  held_by home before middle passes held name (an_enumerator value) is = tt
  held_by home before middle passes held name (a_tag is_record is_open number) is = tt

  pub part_of : (home : CHome) (before middle later after : CScope) → Serves home opens before after → Passes opens before middle
      → Keeps opens (length middle.mentions) (length middle.literals) later after → Serves home opens middle later
  part_of home before middle later after serves passes keeps =
      let told_more : length before.mentions ≤ length middle.mentions = longer before.mentions middle.mentions passes.mentions in
      let made_before : length before.literals ≤ length middle.literals = longer before.literals middle.literals passes.literals in
      record {
        unit_is = serves.unit_is ∙ sym passes.unit_is;
        grows = grows_on later.types after.types home.program.types keeps.grows serves.grows;
        told = serves.told;
        told_is = serves.told_is;
        declared = held_by home before middle passes serves.declared;
        mentions = λ number one from is. serves.mentions number one (omega (arith, told_more, from)) (keeps.mentions number from one is);
        literals = λ number one from is. serves.literals number one (omega (arith, made_before, from)) (keeps.literals number from one is);
        statics = λ number is. serves.statics number (keeps.statics number is);
      }

  -- ---- names

  told_passes : (before : CScope) (one : CMention) → Passes opens before (with_mention one before)
  told_passes before one = record {
    unit_is = refl;
    grows = grows_not before.types;
    declared = λ name meant thing is. is;
    mentions = λ number x is. kept_before before.mentions (one ∷ []) number x is;
    literals = λ number x is. is;
    front = [];
    declared_is = refl;
    begins_is = refl;
    rest_is = refl;
    numbers = numbers_by before (with_mention one before) (omega arith) refl;
  }

  pub used_passes : (before : CScope) (line : ℕ) (name : List ℕ) (found : Option CMeant) → Passes opens before (used line name found before)
  used_passes before line name (Some (an_object number type is_register External)) = told_passes before (mention_of before name line type External uses)
  used_passes before line name (Some (an_object number type is_register Internal)) = stays_itself before
  used_passes before line name (Some (an_object number type is_register Nothing)) = stays_itself before
  used_passes before line name (Some (a_function number type linkage)) = told_passes before (mention_of before name line type linkage uses)
  used_passes before line name (Some (a_type_name type)) = stays_itself before
  used_passes before line name (Some (an_enumerator value)) = stays_itself before
  used_passes before line name (Some (a_tag is_record is_open number)) = stays_itself before
  used_passes before line name None = stays_itself before

-- ---- mentions

same_count : (n : ℕ) → n ≤ n
same_count n = omega arith

told_of : (scope : CScope) (name : List ℕ) (line : ℕ) (type : CTy) (linkage : Linkage) (does : CDoes) (told : List CMention) → Contains told (mention_of scope name line type linkage does)
    → IsMentionedIn told name linkage type does
told_of scope name line type linkage does told among = record {
  one = mention_of scope name line type linkage does;
  among = among;
  mention = record { name_is = refl; linkage_is = refl; type_is = refl; does_is = refl };
}

module _ (home : CHome) (type : CTy) where
  -- as `Typing` says it
  abbrev IsUsedHere : CObject → Option (List ℕ) → Type 0
  IsUsedHere one None = ⊥
  IsUsedHere one (Some name) = IsMentioned home.mentions name one.linkage type uses

  abbrev IsThereHere : CObject → Linkage → Option CPuts → Type 0
  IsThereHere one linkage (Some puts) = Unit {0}
  IsThereHere one Nothing None = Contains home.scope one.object
  IsThereHere one linkage None = IsUsedHere one one.name

  there_static : (one : CObject) (linkage : Linkage) (found : Option CPuts) → IsSome found → IsThereHere one linkage found
  there_static one linkage None is = absurd cc
  there_static one linkage (Some puts) is = tt

  there_told : (one : CObject) (found : Option CPuts) → IsUsedHere one one.name → IsThereHere one External found
  there_told one None told = told
  there_told one (Some puts) told = tt

  module _ (name : List ℕ) where
    object_there : (linkage : Linkage) (one : CObject) → IsHeldObject home name type linkage one → (linkage ≡ External → IsMentioned home.mentions name External type uses)
        → IsThere home type one
    object_there Nothing one held told = held.held
    object_there Internal one held told = there_static one one.linkage one.puts held.held
    object_there External one held told =
        let as_told : IsMentioned home.mentions name one.linkage type uses = subst (λ l. IsMentioned home.mentions name l type uses) (sym held.linkage_is) (told refl) in
        let named : IsUsedHere one one.name = subst (IsUsedHere one) (sym held.held) as_told in
        subst (λ l. IsThereHere one l one.puts) (sym held.linkage_is) (there_told one one.puts named)

    object_served : (number : ℕ) (is_register : Bool) (linkage : Linkage) → IsHeld home name (an_object number type is_register linkage)
        → (linkage ≡ External → IsMentioned home.mentions name External type uses) → IsNamed home type number
    object_served number is_register linkage held told = (
      held.0,
      if_some (IsHeldObject home name type linkage) (IsObjectOf home type) (object_with number home.program.objects)
          (λ one is. record { compatible = is.compatible; there = object_there linkage one is told }) held.1,
    )

    module _ (linkage : Linkage) where
      usable_by : (outer : Option COuter) → IfSome outer (λ one. (one.name ≡ name) × (one.linkage ≡ linkage)) → IsMentioned home.mentions name linkage type uses → IsUsable home type outer
      usable_by None held told = tt
      usable_by (Some one) held told =
          subst (λ n. IsMentioned home.mentions n one.linkage type uses) (sym held.0) (subst (λ l. IsMentioned home.mentions name l type uses) (sym held.1) told)

      function_served : (number : ℕ) → IsHeld home name (a_function number type linkage) → IsMentioned home.mentions name linkage type uses → IsCodeOf home number (ty (pointer type) false)
      function_served number held told = (
        refl,
        (
          held.1,
          if_some (IsHeldFunction home name type linkage) (IsPointerToCode home type) (callee_with number home.program)
              (λ callee is. record { is_function = held.0; compatible = is.compatible; usable = usable_by callee.outer is.outer told }) held.2,
        ),
      )

      module _ (args : CExprs) where
        -- as `Typing` says it
        abbrev IsOutsideHere : COuter → Option (List CMention) → Type 0
        IsOutsideHere one None = IsExternalCall home.program.types one.name type args
        IsOutsideHere one (Some mentions) = IsMentionedIn mentions one.name one.linkage type (calls (trailing_of (form_of_type type) args))

        outside_by : (told : List CMention) → home.mentions ≡ Some told → (outer : Option COuter) → IfSome outer (λ one. (one.name ≡ name) × (one.linkage ≡ linkage))
            → IsMentionedIn told name linkage type (calls (trailing_of (form_of_type type) args)) → IsOutside home type args outer
        outside_by told told_is None held mentioned = tt
        outside_by told told_is (Some one) held mentioned =
            subst (IsOutsideHere one) (sym told_is)
            (subst (λ n. IsMentionedIn told n one.linkage type (calls (trailing_of (form_of_type type) args))) (sym held.0)
            (subst (λ l. IsMentionedIn told name l type (calls (trailing_of (form_of_type type) args))) (sym held.1) mentioned))

        function_called : (number : ℕ) (told : List CMention) → home.mentions ≡ Some told → IsHeld home name (a_function number type linkage)
            → IsMentionedIn told name linkage type (calls (trailing_of (form_of_type type) args)) → MayBeCalled home number type args
        function_called number told told_is held mentioned = (
          held.1,
          if_some (IsHeldFunction home name type linkage) (IsCalled home type args) (callee_with number home.program)
              (λ callee is. record { compatible = is.compatible; outside = outside_by told told_is callee.outer is.outer mentioned }) held.2,
        )

module _ (opens : List ℕ) (home : CHome) (before : CScope) (line : ℕ) (name : List ℕ) where
  -- what a name tells
  told_use : (type : CTy) (linkage : Linkage) → Serves home opens before (with_mention (mention_of before name line type linkage uses) before) → IsMentioned home.mentions name linkage type uses
  told_use type linkage serves =
      subst (λ t. IsMentioned t name linkage type uses) (sym serves.told_is)
      (told_of before name line type linkage uses serves.told
      (serves.mentions (length before.mentions) (mention_of before name line type linkage uses) (same_count (length before.mentions)) (pushed_at before.mentions (mention_of before name line type linkage uses))))

  pub name_served : (meant : CMeant) → ordinary name before.declared ≡ Some meant → Serves home opens before (used line name (Some meant) before) → IsServed home meant
  name_served (an_object number type is_register External) is serves = object_served home type name number is_register External (serves.declared name _ is) (λ other. told_use type External serves)
  name_served (an_object number type is_register Internal) is serves = object_served home type name number is_register Internal (serves.declared name _ is) (λ other. absurd cc)
  name_served (an_object number type is_register Nothing) is serves = object_served home type name number is_register Nothing (serves.declared name _ is) (λ other. absurd cc)
  name_served (a_function number type linkage) is serves = function_served home type name linkage number (serves.declared name _ is) (told_use type linkage serves)
  name_served (a_type_name type) is serves = tt
  name_served (an_enumerator value) is serves = tt
  name_served (a_tag is_record is_open number) is serves = tt

-- ---- calls by name

trailing_listed : (types : CTypes) (params : CTys) (args : List COperand) → trailing_there params (args_for types params args) ≡ trailing_from types params args
trailing_listed types no_types [] = refl
trailing_listed types no_types (arg ∷ args) = ap (λ others. type_of (trailing_value types arg) ∷ others) (trailing_listed types no_types args)
trailing_listed types (more_types param params) [] = refl
trailing_listed types (more_types param params) (arg ∷ args) = trailing_listed types params args

trailing_same : (types : CTypes) (place : TextPlace) (number : ℕ) (type : CTy) (args : List COperand)
    → trailing_types types (named_function place number type) args ≡ trailing_of (form_of_type type) (args_to types type args)
trailing_same types place number (ty (function result (listed params) variadic) is_const) args = sym (trailing_listed types params args)
trailing_same types place number (ty (function result unlisted variadic) is_const) args = refl
trailing_same types place number (ty void is_const) args = refl
trailing_same types place number (ty (basic which) is_const) args = refl
trailing_same types place number (ty (enum_type other) is_const) args = refl
trailing_same types place number (ty (pointer to) is_const) args = refl
trailing_same types place number (ty (array element length) is_const) args = refl
trailing_same types place number (ty (record_type other) is_const) args = refl

-- as `Scope` says it
abbrev with_trailing_here : Option CMention → List CTy → Option CMention
with_trailing_here None types = None
with_trailing_here (Some one) types = Some (record one { does = calls types })

abbrev set_mention_here : ℕ → List CMention → Option CMention → List CMention
set_mention_here index mentions None = mentions
set_mention_here index mentions (Some one) = slice_set mentions index one

pub set_other : {X : Type 0} (xs : List X) (number other : ℕ) (x : X) → (other ≡ number → ⊥) → slice_get (slice_set xs number x) other ≡ slice_get xs other
set_other [] number other x differ = refl
set_other (first ∷ xs) zero zero x differ = absurd (differ refl)
set_other (first ∷ xs) zero (suc other) x differ = refl
set_other (first ∷ xs) (suc number) zero x differ = refl
set_other (first ∷ xs) (suc number) (suc other) x differ = set_other xs number other x (λ is. differ (ap suc is))

pub within : {X : Type 0} (xs : List X) (number : ℕ) (x : X) → slice_get xs number ≡ Some x → number < length xs
within [] number x is = absurd cc
within (first ∷ xs) zero x is = omega arith
within (first ∷ xs) (suc number) x is = let h : number < length xs = within xs number x is in omega arith

kept_by : (index : ℕ) (trailing : List CTy) (mentions : List CMention) (number : ℕ) (one : CMention) (found : Option CMention) → (number ≡ index → ⊥) → slice_get mentions number ≡ Some one
    → slice_get (set_mention_here index mentions (with_trailing_here found trailing)) number ≡ Some one
kept_by index trailing mentions number one None differ is = is
kept_by index trailing mentions number one (Some told) differ is = set_other mentions index number (record told { does = calls trailing }) differ ∙ is

-- the other mentions stay
pub call_kept : (index : ℕ) (trailing : List CTy) (later : CScope) (number : ℕ) (one : CMention) → (number ≡ index → ⊥) → slice_get later.mentions number ≡ Some one
    → slice_get (with_call index trailing later).mentions number ≡ Some one
call_kept index trailing later number one differ is = kept_by index trailing later.mentions number one (slice_get later.mentions index) differ is

pub call_told : (index : ℕ) (trailing : List CTy) (later : CScope) (one : CMention) → slice_get later.mentions index ≡ Some one
    → slice_get (with_call index trailing later).mentions index ≡ Some (record one { does = calls trailing })
call_told index trailing later one is =
    ap (λ found. slice_get (set_mention_here index later.mentions (with_trailing_here found trailing)) index) is
    ∙ set_at later.mentions index (record one { does = calls trailing }) one is

pub called_served : (opens : List ℕ) (home : CHome) (before later : CScope) (line : ℕ) (name : List ℕ) (number : ℕ) (type : CTy) (linkage : Linkage) (place : TextPlace) (args : List COperand)
    → ordinary name before.declared ≡ Some (a_function number type linkage)
    → Passes opens (used line name (Some (a_function number type linkage)) before) later
    → Serves home opens before (with_call (length before.mentions) (trailing_types later.types (named_function place number type) args) later)
    → MayBeCalled home number type (args_to later.types type args)
called_served opens home before later line name number type linkage place args is passes serves =
    let trailing = trailing_types later.types (named_function place number type) args in
    let mention = mention_of before name line type linkage uses in
    let there : slice_get later.mentions (length before.mentions) ≡ Some mention = passes.mentions (length before.mentions) mention (pushed_at before.mentions mention) in
    let among : Contains serves.told (mention_of before name line type linkage (calls trailing)) =
    serves.mentions (length before.mentions) (mention_of before name line type linkage (calls trailing)) (same_count (length before.mentions)) (call_told (length before.mentions) trailing later mention there) in
    function_called home type name linkage (args_to later.types type args) number serves.told serves.told_is (serves.declared name _ is)
    (subst (λ t. IsMentionedIn serves.told name linkage type (calls t)) (trailing_same later.types place number type args) (told_of before name line type linkage (calls trailing) serves.told among))

-- ---- all

pub serve : (opens : List ℕ) → ScopesServe opens
serve opens = record {
  stays = stays_itself opens;
  goes_on = passes_on opens;
  part = part_of opens;
  name_passes = used_passes opens;
  name = λ home before line name meant is serves. name_served opens home before line name meant is serves;
  called = called_served opens;
  text = λ home before line bytes serves. serves.literals (length before.literals) (made_text before line bytes) (same_count (length before.literals)) (pushed_at before.literals (made_text before line bytes));
}
