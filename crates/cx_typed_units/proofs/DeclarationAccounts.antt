-- What a unit keeps account of stays right where a declarator ends (ISO C99, 6.2.1p7, 6.2.2, 6.9.2).
use Rattle.std.proofs.Common.{◌≡◌, ℕ, Bool, true, false, not, ◌&&◌, ◌||◌, if◌then◌else◌, List, [], ◌∷◌, ◌++◌, Option, None, Some, is_some, bytes_eq, refl, sym, ap, ◌∙◌, subst}
use Rattle.std.proofs.lemmas.Slice.Eq.{bytes_eq-Decides}
use Rattle.std.specs.Prelude.{IfSome}
use Rattle.cx_core.specs.declared.program.Linkage.{Linkage}
use Rattle.cx_core.specs.declared.program.Linkage.TheVariants.{External, Internal, Nothing}
use Rattle.cx_core.specs.Linked.{IsDeclaredForm}
use Rattle.cx_core.specs.Trees.{CTy, CMention, form_of_type}
use Rattle.cx_lex.specs.declared.token.Keyword.TheVariants as keyword
use Rattle.cx_rules.specs.Declare.{is_linked, is_outside, is_typedef, thing_named, CDeclaring, with_declaration}
use Rattle.cx_rules.specs.Scope.{CThing, CScope, with_mention}
use Rattle.cx_rules.specs.Shapes.{has_storage}
use Rattle.cx_rules.specs.Types.{is_function, composite}
use Rattle.cx_typed.proofs.Scopes.{kept_before}
use Rattle.cx_typed_units.proofs.Entities.{declared_again, new_thing, new_object, linked_object, linked_function, agree_function}
use Rattle.cx_typed_units.proofs.Fine.{tentative_at, does_by, is_external, told_type, mention_by, static_puts, told_by, declared_by, declaration_is, IsFine, no_linkage}
use Rattle.cx_typed_units.proofs.FunctionAccounts.{pending_by, told_last, new_function_accounted, function_again_accounted}
use Rattle.cx_typed_units.proofs.Named.{set_thing, found_last, found_set, has_name}
use Rattle.cx_typed_units.proofs.ObjectAccounts.{own_accounted, IsToldNow, new_object_accounted, object_again_accounted}
use Rattle.cx_typed_units.specs.Account.{account_of, IsAccounted}
use Rattle.cx_typed_units.specs.Stretches.{IsOrderly}

-- what is asked of a declaration beside that it is fine
pub record IsAccountable (pending : Option (List ℕ)) (scope : CScope) (one : CDeclaring) : Type 0 where
  -- one initialiser is read at a time, and an object with linkage has one outside of functions alone
  pub alone : one.has_init ≡ true → pending ≡ None
  pub outside : one.has_init ≡ true → is_outside one.where_stands ≡ true
  -- the first declaration of an object with internal linkage defines it (6.2.2p3)
  pub internal : one.linkage ≡ Internal → thing_named one.name scope.things ≡ None → (is_outside one.where_stands ≡ true) × (has_storage keyword.Extern one.specs ≡ false)

-- what is pending behind it
abbrev pub later_by : (typedef is_fun linked : Bool) → CDeclaring → Option (List ℕ) → Option (List ℕ)
later_by typedef is_fun linked one pending = if typedef then pending else if is_fun then pending else if linked then pending_by one.has_init one.name pending else pending

does_same : (outside has_init extern : Bool) (line : ℕ) → (has_init ≡ true → outside ≡ true) → (outside && (has_init || not extern)) ≡ (has_init || is_some (tentative_at (outside && not (has_init || extern)) line))
does_same true true extern line held = refl
does_same true false true line held = refl
does_same true false false line held = refl
does_same false true extern line held = absurd (let h : false ≡ true = held refl in cc)
does_same false false extern line held = refl

internal_by : (outside has_init extern : Bool) (line : ℕ) → (outside ≡ true) × (extern ≡ false) → (has_init || is_some (tentative_at (outside && not (has_init || extern)) line)) ≡ true
internal_by outside true extern line held = refl
internal_by true false true line held = absurd (let h : true ≡ false = held.1 in cc)
internal_by true false false line held = refl
internal_by false false extern line held = absurd (let h : false ≡ true = held.0 in cc)

linked_or : (linkage : Linkage) → is_linked linkage ≡ true → (is_external linkage || (true && is_linked linkage)) ≡ true
linked_or External linked = refl
linked_or Internal linked = refl
linked_or Nothing linked = absurd cc

or_none : (a : Bool) → (a || false) ≡ a
or_none true = refl
or_none false = refl

pub found_goes : (P : CThing → Type 0) (found : Option CThing) (one : CThing) → found ≡ Some one → IfSome found P → P one
found_goes P None one is held = absurd cc
found_goes P (Some x) one is held = let same : x ≡ one = cc in subst P same held

module _ (opens : List ℕ) (pending : Option (List ℕ)) (scope : CScope) (orderly : IsOrderly opens scope) (one : CDeclaring) (fine : IsFine opens scope one)
    (held : IsAccounted opens pending (account_of scope)) where
  itself : bytes_eq one.name one.name ≡ true
  itself = (bytes_eq-Decides one.name one.name).1 refl

  set_again : (old again : CThing) → thing_named one.name scope.things ≡ Some old → again.name ≡ one.name → thing_named one.name (set_thing one.name again scope.things) ≡ Some again
  set_again old again there named =
      found_set one.name one.name again scope.things old (ap (λ n. bytes_eq n one.name) named) there
      ∙ ap (λ b. Some (if b then again else old)) (ap (λ n. bytes_eq n one.name) (has_name one.name scope.things old there) ∙ itself)

  -- ---- functions

  abbrev function_behind : Option CThing → CScope
  function_behind found = linked_function one.name one.type one.linkage false found scope

  function_at : (found : Option CThing) → thing_named one.name scope.things ≡ found → is_typedef one.specs ≡ false → is_function one.type ≡ true
      → IsAccounted opens pending (account_of (with_mention (mention_by one (function_behind found)) (function_behind found)))
  function_at None there t f =
      let new = new_thing one.name one.linkage true scope.next_function one.type false None in
      new_function_accounted opens pending (account_of scope) held one.name one.type fine.known one.linkage false (λ is. absurd cc) (mention_by one (function_behind None)) refl refl
      (λ is. ap (λ b. does_by (not b && (is_outside one.where_stands && (one.has_init || not (has_storage keyword.Extern one.specs))))) f) there
      (λ is. ap (told_type one) (found_last one.name scope.things new there itself))
  function_at (Some old) there t f =
      let goes = found_goes _ (thing_named one.name scope.things) old there (fine.goes (fine.function_linked t f)) in
      let was = orderly.things one.name old there in
      let again = declared_again one.type false None old in
      function_again_accounted opens pending (account_of scope) held one.name one.type fine.known one.linkage false (λ is. absurd cc) (mention_by one (function_behind (Some old))) refl refl
      (λ is. ap (λ b. does_by (not b && (is_outside one.where_stands && (one.has_init || not (has_storage keyword.Extern one.specs))))) f) old there
      (has_name one.name scope.things old there) (sym was.function_is ∙ (sym (agree_function scope.types one.type old.type goes.agrees) ∙ f)) goes was.known (λ is. absurd cc)
      (λ is. ap (told_type one) (set_again old again there (has_name one.name scope.things old there)))

  function_by : (told : Bool) → told_by one ≡ told → is_typedef one.specs ≡ false → is_function one.type ≡ true → is_linked one.linkage ≡ true
      → IsAccounted opens pending (account_of (declared_by false true (is_linked one.linkage) told one scope))
  function_by true e t f l = function_at (thing_named one.name scope.things) refl t f
  function_by false e t f l =
      absurd (let h : told_by one ≡ true =
      ap (λ b. not b && (is_external one.linkage || (is_function one.type && is_linked one.linkage))) t
      ∙ (ap (λ b. is_external one.linkage || (b && is_linked one.linkage)) f ∙ linked_or one.linkage l) in let k : false ≡ true = sym e ∙ h in cc)

  -- ---- objects with linkage

  abbrev line_is : Option ℕ
  line_is = tentative_at (is_outside one.where_stands && not (one.has_init || has_storage keyword.Extern one.specs)) one.line

  abbrev defines_is : Bool
  defines_is = is_outside one.where_stands && (one.has_init || not (has_storage keyword.Extern one.specs))

  abbrev object_behind : Option CThing → CScope
  object_behind found = linked_object one.name one.type one.linkage one.has_init line_is found scope

  abbrev told_list : Bool → CMention → List CMention
  told_list told mention = if told then scope.mentions ++ mention ∷ [] else scope.mentions

  told_now : (told : Bool) → is_external one.linkage ≡ told → (mention : CMention) (type : CTy) → mention.name ≡ one.name → mention.linkage ≡ one.linkage → mention.type ≡ type → mention.does ≡ does_by defines_is
      → IsToldNow scope.mentions (told_list told mention) one.name one.linkage type defines_is
  told_now true e mention type named linked typed does = record {
    more = λ number x is. kept_before scope.mentions (mention ∷ []) number x is;
    says = λ external. told_last scope.mentions mention one.name External _ named (linked ∙ external) (typed, does);
  }
  told_now false e mention type named linked typed does = record {
    more = λ number x is. is;
    says = λ external. absurd (let h : true ≡ false = ap is_external (sym external) ∙ e in cc);
  }

  does_is : is_function one.type ≡ false → does_by (not (is_function one.type) && defines_is) ≡ does_by defines_is
  does_is f = ap (λ b. does_by (not b && defines_is)) f

  object_made : IsAccountable pending scope one → (told : Bool) → is_external one.linkage ≡ told → (found : Option CThing) → thing_named one.name scope.things ≡ found → is_typedef one.specs ≡ false → is_function one.type ≡ false
      → is_linked one.linkage ≡ true
      → IsAccounted opens (pending_by one.has_init one.name pending) (account_of (record (object_behind found) { mentions = told_list told (mention_by one (object_behind found)) }))
  object_made able told e None there t f l =
      let new = new_thing one.name one.linkage false scope.next_object one.type one.has_init line_is in
      new_object_accounted opens pending (account_of scope) held one.name one.type fine.known one.linkage (fine.object t f) l one.has_init line_is able.alone (told_list told (mention_by one (object_behind None))) there
      (new_object scope one.name one.type one.linkage None) refl refl refl refl refl refl refl defines_is
      (does_same (is_outside one.where_stands) one.has_init (has_storage keyword.Extern one.specs) one.line able.outside)
      (λ internal. internal_by (is_outside one.where_stands) one.has_init (has_storage keyword.Extern one.specs) one.line (able.internal internal there))
      (told_now told e (mention_by one (object_behind None)) one.type refl refl (ap (told_type one) (found_last one.name scope.things new there itself)) (does_is f))
  object_made able told e (Some old) there t f l =
      let goes = found_goes _ (thing_named one.name scope.things) old there (fine.goes l) in
      let was = orderly.things one.name old there in
      let again = declared_again one.type one.has_init line_is old in
      object_again_accounted opens pending (account_of scope) held one.name one.type fine.known one.linkage (fine.object t f) l one.has_init line_is able.alone (told_list told (mention_by one (object_behind (Some old)))) old there
      (has_name one.name scope.things old there) (sym was.function_is ∙ (sym (agree_function scope.types one.type old.type goes.agrees) ∙ f)) goes was.known defines_is
      (does_same (is_outside one.where_stands) one.has_init (has_storage keyword.Extern one.specs) one.line able.outside)
      (told_now told e (mention_by one (object_behind (Some old))) (composite one.type old.type) refl refl
      (ap (told_type one) (set_again old again there (has_name one.name scope.things old there))) (does_is f))

  object_at : IsAccountable pending scope one → (told : Bool) → is_external one.linkage ≡ told → (found : Option CThing) → thing_named one.name scope.things ≡ found → is_typedef one.specs ≡ false → is_function one.type ≡ false
      → is_linked one.linkage ≡ true
      → IsAccounted opens (pending_by one.has_init one.name pending) (account_of (if told then with_mention (mention_by one (object_behind found)) (object_behind found) else object_behind found))
  object_at able true e None there t f l = object_made able true e None there t f l
  object_at able true e (Some old) there t f l = object_made able true e (Some old) there t f l
  object_at able false e None there t f l = object_made able false e None there t f l
  object_at able false e (Some old) there t f l = object_made able false e (Some old) there t f l

  object_by : IsAccountable pending scope one → (told : Bool) → told_by one ≡ told → is_typedef one.specs ≡ false → is_function one.type ≡ false → is_linked one.linkage ≡ true
      → IsAccounted opens (pending_by one.has_init one.name pending) (account_of (declared_by false false true told one scope))
  object_by able told e t f l = by_told told (sym external_is ∙ e)
    where
      external_is : told_by one ≡ is_external one.linkage
      external_is =
          ap (λ b. not b && (is_external one.linkage || (is_function one.type && is_linked one.linkage))) t ∙ (ap (λ b. is_external one.linkage || (b && is_linked one.linkage)) f ∙ or_none (is_external one.linkage))

      by_told : (told : Bool) → is_external one.linkage ≡ told → IsAccounted opens (pending_by one.has_init one.name pending) (account_of (declared_by false false true told one scope))
      by_told told e = object_at able told e (thing_named one.name scope.things) refl t f l

  -- ---- all kinds

  accounted_by : (typedef is_fun linked told : Bool) → (typedef ≡ false → is_fun ≡ false → linked ≡ true → IsAccountable pending scope one) → is_typedef one.specs ≡ typedef → is_function one.type ≡ is_fun
      → is_linked one.linkage ≡ linked → told_by one ≡ told
      → IsAccounted opens (later_by typedef is_fun linked one pending) (account_of (declared_by typedef is_fun linked told one scope))
  accounted_by true is_fun linked true able t f l e =
      absurd (let h : told_by one ≡ false = ap (λ b. not b && (is_external one.linkage || (is_function one.type && is_linked one.linkage))) t in let k : true ≡ false = sym e ∙ h in cc)
  accounted_by true is_fun linked false able t f l e = held
  accounted_by false true linked told able t f l e =
      subst (λ b. IsAccounted opens pending (account_of (declared_by false true b told one scope))) l (function_by told e t f (fine.function_linked t f))
  accounted_by false false true told able t f l e = object_by (able refl refl refl) told e t f l
  accounted_by false false false true able t f l e =
      absurd (let h : told_by one ≡ false =
      ap (λ b. not b && (is_external one.linkage || (is_function one.type && is_linked one.linkage))) t
      ∙ (ap (λ b. is_external one.linkage || (b && is_linked one.linkage)) f ∙ (or_none (is_external one.linkage) ∙ ap is_external (no_linkage one.linkage l))) in let k : true ≡ false = sym e ∙ h in cc)
  accounted_by false false false false able t f l e =
      own_accounted opens pending (account_of scope) held (new_object scope one.name one.type Nothing (static_puts (has_storage keyword.Static one.specs))) refl refl refl fine.known (subst (λ linkage. IsDeclaredForm linkage (form_of_type one.type)) (no_linkage one.linkage l) (fine.object t f)) refl

  pub declaration_accounted : (is_typedef one.specs ≡ false → is_function one.type ≡ false → is_linked one.linkage ≡ true → IsAccountable pending scope one)
      → IsAccounted opens (later_by (is_typedef one.specs) (is_function one.type) (is_linked one.linkage) one pending) (account_of (with_declaration one scope))
  declaration_accounted able =
      subst (λ after. IsAccounted opens (later_by (is_typedef one.specs) (is_function one.type) (is_linked one.linkage) one pending) (account_of after)) (sym (declaration_is one scope))
      (accounted_by (is_typedef one.specs) (is_function one.type) (is_linked one.linkage) (told_by one) able refl refl refl refl)

  -- nothing more is pending behind a declaration without initialiser, and behind one of an object without linkage
  same_pending : (typedef is_fun linked has_init : Bool) → (linked ≡ true → has_init ≡ false)
      → (if typedef then pending else if is_fun then pending else if linked then pending_by has_init one.name pending else pending) ≡ pending
  same_pending true is_fun linked has_init held = refl
  same_pending false true linked has_init held = refl
  same_pending false false true true held = absurd (let h : true ≡ false = held refl in cc)
  same_pending false false true false held = refl
  same_pending false false false has_init held = refl

  pub plain_accounted : (is_linked one.linkage ≡ true → one.has_init ≡ false) → (is_typedef one.specs ≡ false → is_function one.type ≡ false → is_linked one.linkage ≡ true → IsAccountable pending scope one)
      → IsAccounted opens pending (account_of (with_declaration one scope))
  plain_accounted none able =
      subst (λ later. IsAccounted opens later (account_of (with_declaration one scope))) (same_pending (is_typedef one.specs) (is_function one.type) (is_linked one.linkage) one.has_init none) (declaration_accounted able)
