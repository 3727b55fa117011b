-- What declarators declare where their declarations break no rule (ISO C99, 6.2.2, 6.2.7, 6.7).
use Rattle.std.proofs.Common.{◌≡◌, ℕ, Bool, true, false, not, ◌&&◌, ◌||◌, if◌then◌else◌, List, Option, None, Some, is_some, refl, sym, ap, ◌∙◌, subst}
use Rattle.std.specs.Prelude.{IsSome, IfSome}
use Rattle.cx_core.specs.declared.program.Linkage.{Linkage}
use Rattle.cx_core.specs.declared.program.Linkage.TheVariants.{External, Internal, Nothing}
use Rattle.cx_core.specs.Linked.{IsDeclaredForm}
use Rattle.cx_core.specs.Trees.{CTy, form_of_type, CTypes, CPuts, no_puts, CDoes, declares, defines, CMention}
use Rattle.cx_lex.specs.declared.token.Keyword.TheVariants as keyword
use Rattle.cx_rules.specs.declared.kinds.SpecsPlace.{SpecsPlace}
use Rattle.cx_rules.specs.Declare.{is_linked, is_outside, is_typedef, linkage_of, thing_named, joined_with, clashes_thing, clashes, same_linkage, CDeclaring, declaring, with_declaration}
use Rattle.cx_rules.specs.Scope.{CMeant, an_object, a_function, a_type_name, CThing, CScope, ordinary, with_declared, with_mention, mention_of}
use Rattle.cx_rules.specs.Shapes.{CSpecs, has_storage}
use Rattle.cx_rules.specs.Types.{is_function, compatible}
use Rattle.cx_typed.proofs.Promoted.{not_not}
use Rattle.cx_typed.specs.Operands.{IsKnownType}
use Rattle.cx_typed.specs.Walked.{IsGood}
use Rattle.cx_typed_units.proofs.Begun.{IsJoined, joined_is, IsBegunAs, named_as, typedef_entity, own_entity, object_entity, function_entity}
use Rattle.cx_typed_units.proofs.Entities.{new_object, linked_object, linked_object_is, linked_function, linked_number, object_defined, GoesWith}
use Rattle.cx_typed_units.proofs.Steps.{with_next_object}
use Rattle.cx_typed_units.proofs.Joins.{fills_itself}
use Rattle.cx_typed_units.specs.Fills.{Fills}
use Rattle.cx_typed_units.specs.Rest.{is_defining}
use Rattle.cx_typed_units.specs.Stretches.{IsThing, IsOrderly, IsCovered}

-- ---- what is declared, as `Declare` says it

abbrev pub tentative_at : Bool → ℕ → Option ℕ
tentative_at true line = Some line
tentative_at false line = None

abbrev pub does_by : Bool → CDoes
does_by true = defines
does_by false = declares

abbrev pub is_external : Linkage → Bool
is_external External = true
is_external Internal = false
is_external Nothing = false

abbrev pub told_type : CDeclaring → Option CThing → CTy
told_type one None = one.type
told_type one (Some thing) = thing.type

abbrev pub meant_by : (typedef is_fun linked : Bool) → CDeclaring → CScope → CMeant
meant_by typedef is_fun linked one scope =
    if typedef then a_type_name one.type
    else if is_fun then a_function (linked_number scope.next_function (thing_named one.name scope.things)) one.type one.linkage
    else an_object (if linked then linked_number scope.next_object (thing_named one.name scope.things) else scope.next_object) one.type (has_storage keyword.Register one.specs) one.linkage

abbrev pub static_puts : Bool → Option CPuts
static_puts is_static = if is_static then Some no_puts else None

abbrev pub entity_by : (typedef is_fun linked : Bool) → CDeclaring → CScope → CScope
entity_by typedef is_fun linked one scope =
    if typedef then scope
    else if is_fun then linked_function one.name one.type one.linkage false (thing_named one.name scope.things) scope
    else if linked
    then linked_object one.name one.type one.linkage one.has_init
    (tentative_at (is_outside one.where_stands && not (one.has_init || has_storage keyword.Extern one.specs)) one.line) (thing_named one.name scope.things) scope
    else with_next_object (new_object scope one.name one.type Nothing (static_puts (has_storage keyword.Static one.specs))) scope

abbrev pub mention_by : CDeclaring → CScope → CMention
mention_by one scope =
    mention_of scope one.name one.line (told_type one (thing_named one.name scope.things)) one.linkage
    (does_by (not (is_function one.type) && (is_outside one.where_stands && (one.has_init || not (has_storage keyword.Extern one.specs)))))

abbrev pub told_by : CDeclaring → Bool
told_by one = not (is_typedef one.specs) && (is_external one.linkage || (is_function one.type && is_linked one.linkage))

abbrev pub declared_by : (typedef is_fun linked told : Bool) → CDeclaring → CScope → CScope
declared_by typedef is_fun linked told one scope =
    with_declared one.name (meant_by typedef is_fun linked one scope)
    (if told then with_mention (mention_by one (entity_by typedef is_fun linked one scope)) (entity_by typedef is_fun linked one scope) else entity_by typedef is_fun linked one scope)

-- with what is made of a scope where an object with linkage is declared
abbrev entity_with : (typedef is_fun linked : Bool) → CDeclaring → (scope object : CScope) → CScope
entity_with typedef is_fun linked one scope object =
    if typedef then scope
    else if is_fun then linked_function one.name one.type one.linkage false (thing_named one.name scope.things) scope
    else if linked then object
    else with_next_object (new_object scope one.name one.type Nothing (static_puts (has_storage keyword.Static one.specs))) scope

abbrev declared_with : (typedef is_fun linked told : Bool) → CDeclaring → (scope object : CScope) → CScope
declared_with typedef is_fun linked told one scope object =
    with_declared one.name (meant_by typedef is_fun linked one scope)
    (if told then with_mention (mention_by one (entity_with typedef is_fun linked one scope object)) (entity_with typedef is_fun linked one scope object)
    else entity_with typedef is_fun linked one scope object)

pub declaration_is : (one : CDeclaring) (scope : CScope) → with_declaration one scope ≡ declared_by (is_typedef one.specs) (is_function one.type) (is_linked one.linkage) (told_by one) one scope
unfolding with_declaration
declaration_is one scope =
    ap (declared_with (is_typedef one.specs) (is_function one.type) (is_linked one.linkage) (told_by one) one scope)
    (linked_object_is one.name one.type one.linkage one.has_init (tentative_at (is_outside one.where_stands && not (one.has_init || has_storage keyword.Extern one.specs)) one.line)
    (thing_named one.name scope.things) scope)

-- ---- a declaration that may be made

pub record IsFine (opens : List ℕ) (scope : CScope) (one : CDeclaring) : Type 0 where
  pub known : IsKnownType opens scope.types scope.unit one.type
  pub goes : is_linked one.linkage ≡ true → IfSome (thing_named one.name scope.things) (GoesWith scope.types one.type one.linkage)
  pub function_linked : is_typedef one.specs ≡ false → is_function one.type ≡ true → is_linked one.linkage ≡ true
  pub object : is_typedef one.specs ≡ false → is_function one.type ≡ false → IsDeclaredForm one.linkage (form_of_type one.type)

pub no_linkage : (linkage : Linkage) → is_linked linkage ≡ false → linkage ≡ Nothing
no_linkage External is = absurd cc
no_linkage Internal is = absurd cc
no_linkage Nothing is = refl

-- a type name isn't told of, nor is what has no linkage
typedef_untold : (typedef others : Bool) → typedef ≡ true → (not typedef && others) ≡ true → ⊥
typedef_untold true others is told = absurd cc
typedef_untold false others is told = absurd cc

own_untold : (typedef external is_fun linked : Bool) → external ≡ false → is_fun ≡ false → (not typedef && (external || (is_fun && linked))) ≡ true → ⊥
own_untold true external is_fun linked apart object told = absurd cc
own_untold false true is_fun linked apart object told = absurd cc
own_untold false false true linked apart object told = absurd cc
own_untold false false false linked apart object told = absurd cc

-- a declaration that defines has an initialiser or is a tentative definition, and is none of a function
defining_so : (does : Bool) → is_defining (does_by does) ≡ true → does ≡ true
defining_so true is = refl
defining_so false is = absurd cc

defining_content : (is_fun outside has_init asked : Bool) (line : ℕ) → (not is_fun && (outside && (has_init || not asked))) ≡ true
    → (has_init || is_some (tentative_at (outside && not (has_init || asked)) line)) ≡ true
defining_content true outside has_init asked line is = absurd cc
defining_content false false has_init asked line is = absurd cc
defining_content false true true asked line is = refl
defining_content false true false true line is = absurd cc
defining_content false true false false line is = refl

no_function_defined : (is_fun others : Bool) → is_fun ≡ true → (not is_fun && others) ≡ true → ⊥
no_function_defined true others is defining = absurd cc
no_function_defined false others is defining = absurd cc

module _ (opens : List ℕ) (scope : CScope) (good : IsGood opens scope) (orderly : IsOrderly opens scope) (one : CDeclaring) (fine : IsFine opens scope one) where
  abbrev own : CScope
  own = with_next_object (new_object scope one.name one.type Nothing (static_puts (has_storage keyword.Static one.specs))) scope

  -- what is told of it says the type that the unit has, and that it is defined where it is
  pub told_covered : (middle : CScope) (number : ℕ) (is_fun : Bool) (found : Option CThing) → thing_named one.name middle.things ≡ found
      → IsSome found × IfSome found (IsThing opens middle.types number one.type one.linkage is_fun)
      → (is_defining (mention_by one middle).does ≡ true → (is_fun ≡ false) × ((thing : CThing) → thing_named one.name middle.things ≡ Some thing → (thing.is_defined || is_some thing.tentative) ≡ true))
      → IsCovered opens middle.types middle.things (mention_by one middle)
  told_covered middle number is_fun None there held defined = absurd (let h : false ≡ true = held.0 in cc)
  told_covered middle number is_fun (Some thing) there held defined = record {
    thing = thing;
    there = there;
    fills = subst (λ found. Fills opens middle.types (told_type one found) thing.type) (sym there) (fills_itself opens middle.types middle.unit thing.type);
    defined = λ is.
        let so = defined is in
        record { linkage_is = held.1.linkage_is; defined = ap (λ b. thing.is_defined || (not b && is_some thing.tentative)) (held.1.function_is ∙ so.0) ∙ so.1 thing there };
  }

  begun_by : (typedef is_fun linked told : Bool) → is_typedef one.specs ≡ typedef → is_function one.type ≡ is_fun → is_linked one.linkage ≡ linked → told_by one ≡ told
      → IsBegunAs opens scope one.name (meant_by typedef is_fun linked one scope) (declared_by typedef is_fun linked told one scope)
  begun_by true is_fun linked told t f l e =
      named_as opens scope good one.name (a_type_name one.type) refl scope (typedef_entity opens scope one.name one.type fine.known) told _
      (λ is. absurd (typedef_untold (is_typedef one.specs) _ t (e ∙ is)))
  begun_by false true linked told t f l e =
      let entity = function_entity opens scope one.name one.type fine.known orderly one.linkage (fine.function_linked t f) (fine.goes (fine.function_linked t f)) f false in
      named_as opens scope good one.name _ refl _ entity told _
      (λ is. told_covered (entity_by false true linked one scope) (linked_number scope.next_function (thing_named one.name scope.things)) true _ refl entity.linked.1
      (λ defining. absurd (no_function_defined (is_function one.type) _ f (defining_so _ defining))))
  begun_by false false true told t f l e =
      let entity = object_entity opens scope one.name one.type fine.known orderly one.linkage l (fine.goes l) f (fine.object t f) (has_storage keyword.Register one.specs) one.has_init
      (tentative_at (is_outside one.where_stands && not (one.has_init || has_storage keyword.Extern one.specs)) one.line) in
      named_as opens scope good one.name _ refl _ entity told _
      (λ is. told_covered (entity_by false false true one scope) (linked_number scope.next_object (thing_named one.name scope.things)) false _ refl (entity.linked l)
      (λ defining. (
        refl,
        object_defined scope one.name one.type one.linkage one.has_init _
            (defining_content (is_function one.type) (is_outside one.where_stands) one.has_init (has_storage keyword.Extern one.specs) one.line (defining_so _ defining))
            (thing_named one.name scope.things) refl,
      )))
  begun_by false false false told t f l e =
      subst (λ linkage. IsBegunAs opens scope one.name (an_object scope.next_object one.type (has_storage keyword.Register one.specs) linkage)
      (with_declared one.name (an_object scope.next_object one.type (has_storage keyword.Register one.specs) linkage) (if told then with_mention (mention_by one own) own else own))) (sym (no_linkage one.linkage l))
      (named_as opens scope good one.name (an_object scope.next_object one.type (has_storage keyword.Register one.specs) Nothing) refl own
      (own_entity opens scope one.name one.type fine.known (static_puts (has_storage keyword.Static one.specs)) (has_storage keyword.Register one.specs) (subst (λ linkage. IsDeclaredForm linkage (form_of_type one.type)) (no_linkage one.linkage l) (fine.object t f))) told (mention_by one own)
      (λ is. absurd (own_untold (is_typedef one.specs) (is_external one.linkage) (is_function one.type) (is_linked one.linkage) (ap is_external (no_linkage one.linkage l)) f (e ∙ is))))

  pub begun_is : IsBegunAs opens scope one.name (meant_by (is_typedef one.specs) (is_function one.type) (is_linked one.linkage) one scope) (with_declaration one scope)
  begun_is =
      subst (IsBegunAs opens scope one.name (meant_by (is_typedef one.specs) (is_function one.type) (is_linked one.linkage) one scope)) (sym (declaration_is one scope))
      (begun_by (is_typedef one.specs) (is_function one.type) (is_linked one.linkage) (told_by one) refl refl refl refl)

-- ---- what the rules say

pub either_false : (a b : Bool) → (a || b) ≡ false → (a ≡ false) × (b ≡ false)
either_false true b is = absurd cc
either_false false b is = (refl, is)

linkage_same : (one other : Linkage) → same_linkage one other ≡ true → other ≡ one
linkage_same External External is = refl
linkage_same Internal Internal is = refl
linkage_same Nothing Nothing is = refl
linkage_same External Internal is = absurd cc
linkage_same External Nothing is = absurd cc
linkage_same Internal External is = absurd cc
linkage_same Internal Nothing is = absurd cc
linkage_same Nothing External is = absurd cc
linkage_same Nothing Internal is = absurd cc

-- what other declarations of the same thing say
pub record IsUnclashed (scope : CScope) (name : List ℕ) (written : CTy) (linkage : Linkage) : Type 0 where
  pub same : is_linked linkage ≡ true → (one : CThing) → thing_named name scope.things ≡ Some one → GoesWith scope.types written linkage one

pub thing_goes : (types : CTypes) (written : CTy) (linkage : Linkage) (has_content : Bool) (found : Option CThing) → clashes_thing types written linkage has_content found ≡ false → (one : CThing) → found ≡ Some one
    → GoesWith types written linkage one
thing_goes types written linkage has_content None fine one is = absurd cc
thing_goes types written linkage has_content (Some thing) fine one is =
    let parts = either_false (not (same_linkage linkage thing.linkage)) (not (compatible types written thing.type) || (has_content && thing.is_defined)) fine in
    let more = either_false (not (compatible types written thing.type)) (has_content && thing.is_defined) parts.1 in
    let made : GoesWith types written linkage thing = record { linkage_is = linkage_same linkage thing.linkage (not_not parts.0); agrees = not_not more.0 } in
    subst (GoesWith types written linkage) (some_same is) made
  where
    some_same : {x y : CThing} → Some x ≡ Some y → x ≡ y
    some_same e = cc

linked_false : (linked clashing : Bool) → (linked && clashing) ≡ false → linked ≡ true → clashing ≡ false
linked_false true clashing is linked = is
linked_false false clashing is linked = absurd cc

pub unclashed : (scope : CScope) (name : List ℕ) (typedef : Bool) (written : CTy) (linkage : Linkage) (has_content : Bool) → clashes scope name typedef written linkage has_content ≡ false
    → IsUnclashed scope name written linkage
unfolding clashes
unclashed scope name typedef written linkage has_content fine = record {
  same = λ linked one is.
      thing_goes scope.types written linkage has_content (thing_named name scope.things)
      (linked_false (is_linked linkage) _ (either_false _ _ fine).1 linked) one is;
}

-- the linkage of functions (6.2.2p3 to p5)
or_linked : (outside static asked external : Bool) (before : Linkage) → is_linked before ≡ true → asked ≡ true
    → is_linked (if outside && static then Internal else if asked then before else if external then External else Nothing) ≡ true
or_linked true true asked external before some is = refl
or_linked true false true external before some is = some
or_linked true false false external before some is = absurd cc
or_linked false static true external before some is = some
or_linked false static false external before some is = absurd cc

-- as `Declare` says it
abbrev linkage_before : Option CMeant → Linkage
linkage_before (Some (an_object number type is_register linkage)) = linkage
linkage_before (Some (a_function number type linkage)) = linkage
linkage_before _ = Nothing

abbrev or_external : Linkage → Linkage
or_external External = External
or_external Internal = Internal
or_external Nothing = External

external_linked : (linkage : Linkage) → is_linked (or_external linkage) ≡ true
external_linked External = refl
external_linked Internal = refl
external_linked Nothing = refl

or_true : (a b : Bool) → b ≡ true → (a || b) ≡ true
or_true true b is = refl
or_true false b is = is

pub function_linked : (place : SpecsPlace) (specs : CSpecs) (type : CTy) (before : Option CMeant) → is_typedef specs ≡ false → is_function type ≡ true → is_linked (linkage_of place specs type before) ≡ true
unfolding linkage_of
function_linked place specs type before typedef is_fun =
    subst (λ b. is_linked (if b then Nothing else if is_outside place && has_storage keyword.Static specs then Internal else if has_storage keyword.Extern specs || is_function type then or_external (linkage_before before) else if is_outside place then External else Nothing) ≡ true) (sym typedef)
    (or_linked (is_outside place) (has_storage keyword.Static specs) (has_storage keyword.Extern specs || is_function type) (is_outside place) (or_external (linkage_before before))
    (external_linked (linkage_before before)) (or_true (has_storage keyword.Extern specs) (is_function type) is_fun))

-- ---- so it may be made

if_found : (P : CThing → Type 0) (found : Option CThing) → ((one : CThing) → found ≡ Some one → P one) → IfSome found P
if_found P None each = tt
if_found P (Some one) each = each one refl

module _ (opens : List ℕ) (scope : CScope) (good : IsGood opens scope) (orderly : IsOrderly opens scope) (place : SpecsPlace) (specs : CSpecs) (name : List ℕ) (line : ℕ) (written : CTy) (has_init : Bool)
    (known : IsKnownType opens scope.types scope.unit written) where
  abbrev linkage : Linkage
  linkage = linkage_of place specs written (ordinary name scope.declared)

  abbrev type_by : Bool → CTy
  type_by linked = if linked then joined_with written (ordinary name scope.declared) else written

  joined_by : (linked : Bool) → is_linked linkage ≡ linked → IsUnclashed scope name written linkage → IsJoined opens scope name written (type_by linked)
  joined_by true is apart = joined_is opens scope good orderly name written known (λ one found. (apart.same is one found).agrees)
  joined_by false is apart = record { known = known; goes = λ one found same. same; form = refl; fills = fills_itself opens scope.types scope.unit written }

  pub form_is : IsUnclashed scope name written linkage → is_function (declaring scope place specs name line written has_init).type ≡ is_function written
  form_is apart = (joined_by (is_linked linkage) refl apart).form

  -- the declared type says no less than what is written
  pub says_no_less : IsUnclashed scope name written linkage → Fills opens scope.types written (declaring scope place specs name line written has_init).type
  says_no_less apart = (joined_by (is_linked linkage) refl apart).fills

  pub fine_is : IsUnclashed scope name written linkage
      → (is_typedef specs ≡ false → is_function (declaring scope place specs name line written has_init).type ≡ false
      → IsDeclaredForm (declaring scope place specs name line written has_init).linkage (form_of_type (declaring scope place specs name line written has_init).type))
      → IsFine opens scope (declaring scope place specs name line written has_init)
  fine_is apart form =
      let joined = joined_by (is_linked linkage) refl apart in
      record {
        known = joined.known;
        goes = λ linked. if_found _ (thing_named name scope.things) (λ one found.
            let goes = apart.same linked one found in record { linkage_is = goes.linkage_is; agrees = joined.goes one found goes.agrees });
        function_linked = λ typedef is_fun. function_linked place specs written (ordinary name scope.declared) typedef (sym joined.form ∙ is_fun);
        object = form;
      }
