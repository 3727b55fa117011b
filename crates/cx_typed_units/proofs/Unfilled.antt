-- The walk over declarators without initialisers in blocks (ISO C99, 6.7).
use Rattle.std.proofs.Common.{◌≡◌, ℕ, nat_lt, ◌≤◌, Bool, true, false, not, ◌&&◌, ◌||◌, if◌then◌else◌, List, [], ◌∷◌, ◌++◌, length, Option, None, Some, slice_get, refl, sym, ap, ◌∙◌, subst, arith, suc, ◌+◌}
use Rattle.std.specs.Prelude.{IsSome, IfSome}
use Rattle.std.specs.List.{Contains}
use Rattle.cr_base.specs.declared.refusal.Place.{Place as TextPlace}
use Rattle.cx_core.proofs.Relation.{compatible_reflexive}
use Rattle.cx_core.specs.declared.program.Linkage.{Linkage}
use Rattle.cx_core.specs.declared.program.Linkage.TheVariants.{External, Internal, Nothing}
use Rattle.cx_core.specs.Layouts.{whole_extent, layouts_of}
use Rattle.cx_core.specs.Trees.{CTy, CTypes, CPuts, no_puts, CObject, stmt, begin, uses}
use Rattle.cx_core.specs.Typing.{CHome, object_with, IsThere, IsMentioned}
use Rattle.cx_core.specs.ValidTypes.{IsComplete}
use Rattle.cx_lex.specs.declared.token.Keyword.TheVariants as keyword
use Rattle.cx_rules.proofs.UnitNodesAgree.{s_init_walk, s_declared_ends, s_named_walk}
use Rattle.cx_rules.specs.declared.kinds.SpecsPlace.{SpecsPlace}
use Rattle.cx_rules.specs.Declare.{is_linked, is_outside, is_typedef, thing_named, CDeclaring, declaring, begun_as, with_declaration}
use Rattle.cx_rules.specs.Initial.{CStored}
use Rattle.cx_rules.specs.Nodes.{CNode, declares_node}
use Rattle.cx_rules.specs.Rules.{is_unlinked}
use Rattle.cx_rules.specs.Scope.{an_object, a_type_name, CThing, CScope}
use Rattle.cx_rules.specs.Shapes.{CSpecs, CShape, has_storage}
use Rattle.cx_rules.specs.Types.{is_function, is_incomplete, is_too_large, has_size}
use Rattle.cx_rules.specs.UnitWalk.{CMeant as CMeaning, nothing_meant, name_or_none, literals_since, declared_meant, clashes_behind}
use Rattle.cx_rules.specs.Readings.{seen_chain}
use Rattle.cx_typed.proofs.DeclaredForms.{declared_form}
use Rattle.cx_typed.proofs.Derived.{small_whole, fits_by, sized_by}
use Rattle.cx_typed.proofs.Growing.{complete_stays}
use Rattle.cx_typed.proofs.Goes.{go_gives, go_becomes, go_here_then, go_chain, go_changed}
use Rattle.cx_typed.proofs.Scopes.{pushed_at}
use Rattle.cx_typed.specs.Operands.{IsKnownType}
use Rattle.cx_typed.specs.Scopes.{IsHeld, IsHeldObject}
use Rattle.cx_typed.specs.Unbroken.{IsUnbroken}
use Rattle.cx_typed.specs.Walked.{IsGood, Ends}
use Rattle.cx_typed_units.proofs.Begun.{IsBegunAs, function_form}
use Rattle.cx_typed_units.proofs.DeclarationAccounts.{IsAccountable, found_goes, plain_accounted}
use Rattle.cx_typed_units.proofs.Declared.{object_held, function_held, one_more_held, only_literals, plain_declared, begun_declared}
use Rattle.cx_typed_units.proofs.Entities.{new_object, linked_number, agree_function, linked_function, linked_object}
use Rattle.cx_typed_units.proofs.FilledObjects.{declared_filled}
use Rattle.cx_typed_units.proofs.Fine.{meant_by, static_puts, entity_by, declared_by, declaration_is, told_by, IsFine, no_linkage, begun_is, unclashed, fine_is}
use Rattle.cx_typed_units.proofs.FirstInternal.{first_internal}
use Rattle.cx_typed_units.proofs.Once.{once_first, nothing_once}
use Rattle.cx_typed_units.proofs.Stretches.{leads_by, backs_from, holds_earlier}
use Rattle.cx_typed_units.specs.Account.{account_of, IsAccounted}
use Rattle.cx_typed_units.specs.Once.{AreOnce}
use Rattle.cx_typed_units.specs.Statements.{IsDeclaration}
use Rattle.cx_typed_units.specs.Stretches.{IsOrderly, Leads, Backs, IsHeldAt, HoldsAll, AreTypedUpTo}

-- ---- sizes (6.7p7)

pub complete_object : (types : CTypes) (type : CTy) → is_function type ≡ false → is_incomplete types type ≡ false → is_too_large types type ≡ false → IsComplete types type
complete_object types type object sized small =
    fits_by (whole_extent (layouts_of types) type) (sized_by (is_function type) (has_size types type) object sized) (small_whole (layouts_of types) type small)

-- ---- what a declaration leaves in a block, as `UnitWalk` says it

abbrev begin_at : TextPlace → Bool → CPuts → Option ℕ → CMeaning
begin_at place has_init puts None = nothing_meant
begin_at place has_init puts (Some number) = record { stmts = stmt place [] (begin number (if has_init then Some puts else None)) ∷ []; objects = number ∷ [] }

abbrev with_literals : List ℕ → CMeaning → CMeaning
with_literals literals meant = record meant { objects = meant.objects ++ literals }

abbrev if_object : Bool → ℕ → Option ℕ
if_object true number = Some number
if_object false number = None

abbrev pub meaning_by : (in_function linked static typedef is_fun : Bool) → TextPlace → Bool → CPuts → ℕ → List ℕ → CMeaning
meaning_by in_function linked static typedef is_fun at has_init puts number literals =
    with_literals literals (if in_function && not (linked || static) then begin_at at has_init puts (if_object (not (typedef || is_fun)) number) else nothing_meant)

-- ---- the numbers that a declaration takes

module _ (scope : CScope) (one : CDeclaring) where
  function_next : (found : Option CThing) → (linked_function one.name one.type one.linkage false found scope).next_object ≡ scope.next_object
  function_next None = refl
  function_next (Some old) = refl

  object_next : (has_init : Bool) (line : Option ℕ) (found : Option CThing) → scope.next_object ≤ (linked_object one.name one.type one.linkage has_init line found scope).next_object
  object_next has_init line None = omega arith
  object_next has_init line (Some old) = omega arith

  entity_next : (typedef is_fun linked : Bool) → scope.next_object ≤ (entity_by typedef is_fun linked one scope).next_object
  entity_next true is_fun linked = omega arith
  entity_next false true linked = (let h = function_next (thing_named one.name scope.things) in omega (arith, h))
  entity_next false false true = object_next one.has_init _ (thing_named one.name scope.things)
  entity_next false false false = omega arith

  told_next : (typedef is_fun linked told : Bool) → (declared_by typedef is_fun linked told one scope).next_object ≡ (entity_by typedef is_fun linked one scope).next_object
  told_next typedef is_fun linked true = refl
  told_next typedef is_fun linked false = refl

  all_next : (with_declaration one scope).next_object ≡ (entity_by (is_typedef one.specs) (is_function one.type) (is_linked one.linkage) one scope).next_object
  all_next = ap (λ (later : CScope). later.next_object) (declaration_is one scope) ∙ told_next (is_typedef one.specs) (is_function one.type) (is_linked one.linkage) (told_by one)

  pub next_grows : scope.next_object ≤ (with_declaration one scope).next_object
  next_grows = (let h = all_next in let k = entity_next (is_typedef one.specs) (is_function one.type) (is_linked one.linkage) in omega (arith, h, k))

  pub own_next : is_typedef one.specs ≡ false → is_function one.type ≡ false → is_linked one.linkage ≡ false → (with_declaration one scope).next_object ≡ scope.next_object + 1
  own_next t f l =
      all_next
      ∙ (ap (λ b. (entity_by b (is_function one.type) (is_linked one.linkage) one scope).next_object) t
      ∙ (ap (λ b. (entity_by false b (is_linked one.linkage) one scope).next_object) f ∙ ap (λ b. (entity_by false false b one scope).next_object) l))

-- ---- an object without linkage

abbrev pub own_object : CDeclaring → CScope → CObject
own_object one scope = new_object scope one.name one.type Nothing (static_puts (has_storage keyword.Static one.specs))

own_objects : (one : CDeclaring) (scope : CScope) (told : Bool) → (declared_by false false false told one scope).objects ≡ scope.objects ++ own_object one scope ∷ []
own_objects one scope true = refl
own_objects one scope false = refl

pub own_all : (one : CDeclaring) (scope : CScope) → is_typedef one.specs ≡ false → is_function one.type ≡ false → is_linked one.linkage ≡ false
    → (with_declaration one scope).objects ≡ scope.objects ++ own_object one scope ∷ []
own_all one scope t f l =
    ap (λ (after : CScope). after.objects) (declaration_is one scope)
    ∙ (ap (λ typedef. (declared_by typedef (is_function one.type) (is_linked one.linkage) (told_by one) one scope).objects) t
    ∙ (ap (λ is_fun. (declared_by false is_fun (is_linked one.linkage) (told_by one) one scope).objects) f
    ∙ (ap (λ linked. (declared_by false false linked (told_by one) one scope).objects) l ∙ own_objects one scope (told_by one))))

pub own_found : (one : CDeclaring) (scope : CScope) → is_typedef one.specs ≡ false → is_function one.type ≡ false → is_linked one.linkage ≡ false
    → slice_get (with_declaration one scope).objects (length scope.objects) ≡ Some (own_object one scope)
own_found one scope t f l =
    subst (λ (after : CScope). slice_get after.objects (length scope.objects) ≡ Some (own_object one scope)) (sym (declaration_is one scope))
    (subst (λ typedef. slice_get (declared_by typedef (is_function one.type) (is_linked one.linkage) (told_by one) one scope).objects (length scope.objects) ≡ Some (own_object one scope)) (sym t)
    (subst (λ is_fun. slice_get (declared_by false is_fun (is_linked one.linkage) (told_by one) one scope).objects (length scope.objects) ≡ Some (own_object one scope)) (sym f)
    (subst (λ linked. slice_get (declared_by false false linked (told_by one) one scope).objects (length scope.objects) ≡ Some (own_object one scope)) (sym l)
    (subst (λ objects. slice_get objects (length scope.objects) ≡ Some (own_object one scope)) (sym (own_objects one scope (told_by one))) (pushed_at scope.objects (own_object one scope))))))

-- as `Typing` says it
abbrev pub IsUsedHere : CHome → CTy → CObject → Option (List ℕ) → Type 0
IsUsedHere home type one None = ⊥
IsUsedHere home type one (Some name) = IsMentioned home.mentions name one.linkage type uses

abbrev pub IsThereHere : CHome → CTy → CObject → Linkage → Option CPuts → Type 0
IsThereHere home type one linkage (Some puts) = Unit {0}
IsThereHere home type one Nothing None = Contains home.scope one.object
IsThereHere home type one linkage None = IsUsedHere home type one one.name

static_there : (home : CHome) (type : CTy) (scope : CScope) (one : CDeclaring) → has_storage keyword.Static one.specs ≡ true → IsThere home type (own_object one scope)
static_there home type scope one s = subst (λ b. IsThereHere home type (own_object one scope) Nothing (static_puts b)) (sym s) tt

own_there : (home : CHome) (type : CTy) (scope : CScope) (one : CDeclaring) → has_storage keyword.Static one.specs ≡ false → Contains home.scope scope.next_object → IsThere home type (own_object one scope)
own_there home type scope one s contains = subst (λ b. IsThereHere home type (own_object one scope) Nothing (static_puts b)) (sym s) contains

module _ (opens : List ℕ) (scope : CScope) (good : IsGood opens scope) (orderly : IsOrderly opens scope) (one : CDeclaring) (fine : IsFine opens scope one) where
  abbrev after : CScope
  after = with_declaration one scope

  pub made : IsBegunAs opens scope one.name (meant_by (is_typedef one.specs) (is_function one.type) (is_linked one.linkage) one scope) after
  made = begun_is opens scope good orderly one fine

  pub made_as : (typedef is_fun linked : Bool) → is_typedef one.specs ≡ typedef → is_function one.type ≡ is_fun → is_linked one.linkage ≡ linked
      → IsBegunAs opens scope one.name (meant_by typedef is_fun linked one scope) after
  made_as typedef is_fun linked t f l =
      subst (λ b. IsBegunAs opens scope one.name (meant_by b is_fun linked one scope) after) t
      (subst (λ b. IsBegunAs opens scope one.name (meant_by (is_typedef one.specs) b linked one scope) after) f
      (subst (λ b. IsBegunAs opens scope one.name (meant_by (is_typedef one.specs) (is_function one.type) b one scope) after) l made))

  -- an object without linkage is held
  own_held : is_typedef one.specs ≡ false → is_function one.type ≡ false → is_linked one.linkage ≡ false → (home : CHome) → Backs home opens scope after
      → IsThere home one.type (own_object one scope) → IsHeld home one.name (an_object scope.next_object one.type (has_storage keyword.Register one.specs) one.linkage)
  own_held t f l home backs there =
      let nothing = no_linkage one.linkage l in
      let found : object_with scope.next_object home.program.objects ≡ Some (own_object one scope) =
      backs.objects (length scope.objects) (own_object one scope) refl (omega arith) (own_found one scope t f l) in
      subst (λ linkage. IsHeld home one.name (an_object scope.next_object one.type (has_storage keyword.Register one.specs) linkage)) (sym nothing) (
        subst IsSome (sym found) refl,
        subst (λ x. IfSome x (IsHeldObject home one.name one.type Nothing)) (sym found) (record {
          compatible = compatible_reflexive home.program.types one.type;
          linkage_is = refl;
          held = there;
        }),
      )

  pub held_after : (typedef is_fun linked : Bool) → is_typedef one.specs ≡ typedef → is_function one.type ≡ is_fun → is_linked one.linkage ≡ linked → (home : CHome) → Backs home opens scope after
      → (typedef ≡ false → is_fun ≡ false → linked ≡ false → IsThere home one.type (own_object one scope)) → IsHeldAt home scope.declared → IsHeldAt home after.declared
  held_after true is_fun linked t f l home backs there known =
      one_more_held home one.name (a_type_name one.type) scope.declared after.declared (made_as true is_fun linked t f l).declared_is known tt
  held_after false true linked t f l home backs there known =
      let as_made = made_as false true linked t f l in
      one_more_held home one.name _ scope.declared after.declared as_made.declared_is known
      (function_held home opens scope after backs one.name (linked_number scope.next_function (thing_named one.name scope.things)) one.type one.linkage as_made.linked.1 (function_form one.type f))
  held_after false false true t f l home backs there known =
      let as_made = made_as false false true t f l in
      one_more_held home one.name _ scope.declared after.declared as_made.declared_is known
      (object_held home opens scope after backs one.name (linked_number scope.next_object (thing_named one.name scope.things)) one.type one.linkage (as_made.linked l) l (has_storage keyword.Register one.specs))
  held_after false false false t f l home backs there known =
      one_more_held home one.name _ scope.declared after.declared (made_as false false false t f l).declared_is known (own_held t f l home backs (there refl refl refl))

  there_by : is_typedef one.specs ≡ false → is_function one.type ≡ false → is_linked one.linkage ≡ false → (static : Bool) → has_storage keyword.Static one.specs ≡ static → (home : CHome) → HoldsAll home opens after
      → IsThere home one.type (own_object one scope)
  there_by t f l true s home all = static_there home one.type scope one s
  there_by t f l false s home all = own_there home one.type scope one s (all.objects_inside (length scope.objects) (own_object one scope) (own_found one scope t f l) refl)

  -- a declaration of an object stands beside those of one
  pub old_objects : is_typedef one.specs ≡ false → is_function one.type ≡ false → is_linked one.linkage ≡ true → (old : CThing) → thing_named one.name scope.things ≡ Some old → old.is_function ≡ false
  old_objects t f l old there =
      sym (orderly.things one.name old there).function_is
      ∙ (sym (agree_function scope.types one.type old.type (found_goes _ (thing_named one.name scope.things) old there (fine.goes l)).agrees) ∙ f)

  module _ (unfilled : one.has_init ≡ false)
      (sized : is_typedef one.specs ≡ false → is_function one.type ≡ false → is_linked one.linkage ≡ false → IsComplete (with_declaration one scope).types one.type)
      (internal : one.linkage ≡ Internal → thing_named one.name scope.things ≡ None → (is_outside one.where_stands ≡ true) × (has_storage keyword.Extern one.specs ≡ false)) where
    able : (pending : Option (List ℕ)) → IsAccountable pending scope one
    able pending = record {
      alone = λ is. absurd (let h : false ≡ true = sym unfilled ∙ is in cc);
      outside = λ is. absurd (let h : false ≡ true = sym unfilled ∙ is in cc);
      internal = internal;
    }

    pub made_typed : (pending : Option (List ℕ)) → IsAccounted opens pending (account_of scope) → AreTypedUpTo opens scope → AreTypedUpTo opens after
    made_typed pending account held home all =
        let was = held home (holds_earlier opens home scope after all made.leads) in
        let backs = backs_from opens home scope after all made.leads in
        record {
          held = held_after (is_typedef one.specs) (is_function one.type) (is_linked one.linkage) refl refl refl home backs (λ t f l. there_by t f l (has_storage keyword.Static one.specs) refl home all) was.held;
          literals = λ index x is. was.literals index x (subst (λ literals. slice_get literals index ≡ Some x) made.literals_are is);
          objects = λ index x is.
              declared_filled home opens pending scope account one (λ t f l. record {
                complete = complete_stays opens after.types home.program.types all.backs.grows one.type (sized t f l);
                typed = (tt, tt);
                constant = tt;
              }) was.objects old_objects index x is;
          functions = λ index x is. was.functions index x (subst (λ functions. slice_get functions index ≡ Some x) made.leads.functions_are is);
        }

    pub made_leads : Leads opens scope after
    made_leads = leads_by opens scope after made.leads (λ pending held. plain_accounted opens pending scope orderly one fine held (λ linked. unfilled) (λ t f l. able pending))
        made_typed

    -- no number but that of the object is taken
    none_once : AreOnce scope.next_object after.next_object (literals_since scope after)
    none_once = nothing_once scope after made.literals_are (next_grows scope one)

    one_once : is_typedef one.specs ≡ false → is_function one.type ≡ false → is_linked one.linkage ≡ false → AreOnce scope.next_object after.next_object (scope.next_object ∷ literals_since scope after)
    one_once t f l =
        let more : suc scope.next_object ≤ after.next_object = (let h = own_next scope one t f l in omega (arith, h)) in
        once_first scope.next_object scope.next_object after.next_object (literals_since scope after) (omega arith)
        (nothing_once (record scope { next_object = suc scope.next_object }) after made.literals_are more)

    -- without an object whose life begins
    plain_either : (at : TextPlace) (has_init begins : Bool) (puts : CPuts) → IsDeclaration opens scope (only_literals scope after) after
        → IsDeclaration opens scope (with_literals (literals_since scope after) (if begins then begin_at at has_init puts None else nothing_meant)) after
    plain_either at has_init true puts held = held
    plain_either at has_init false puts held = held

    unfilled_by : (at : TextPlace) (puts : CPuts) (typedef is_fun linked static : Bool) → is_typedef one.specs ≡ typedef → is_function one.type ≡ is_fun → is_linked one.linkage ≡ linked
        → has_storage keyword.Static one.specs ≡ static → (typedef ≡ false → is_fun ≡ false → linked ≡ false → IsComplete after.types one.type)
        → IsDeclaration opens scope (meaning_by true linked static typedef is_fun at false puts (if linked then linked_number scope.next_object (thing_named one.name scope.things) else scope.next_object) (literals_since scope after)) after
    unfilled_by at puts true is_fun linked static t f l s complete =
        plain_either at false (not (linked || static)) puts (plain_declared opens scope after made.good made_leads made.body_is none_once (λ home backs known. held_after true is_fun linked t f l home backs (λ x. absurd cc) known))
    unfilled_by at puts false true linked static t f l s complete =
        plain_either at false (not (linked || static)) puts (plain_declared opens scope after made.good made_leads made.body_is none_once (λ home backs known. held_after false true linked t f l home backs (λ x y. absurd cc) known))
    unfilled_by at puts false false true static t f l s complete =
        plain_declared opens scope after made.good made_leads made.body_is none_once (λ home backs known. held_after false false true t f l home backs (λ x y z. absurd cc) known)
    unfilled_by at puts false false false true t f l s complete =
        plain_declared opens scope after made.good made_leads made.body_is none_once
        (λ home backs known. held_after false false false t f l home backs (λ x y z. static_there home one.type scope one s) known)
    unfilled_by at puts false false false false t f l s complete =
        begun_declared opens scope after made.good made_leads made.body_is at None (own_object one scope) (length scope.objects) (omega arith) (own_found one scope t f l) refl
        (ap static_puts s) refl refl (complete refl refl refl) (one_once t f l)
        (λ home backs known contains. held_after false false false t f l home backs (λ x y z. own_there home one.type scope one s contains) known)
        (λ home backs known contains literals. tt)

-- ---- the walk

pub size_said : (typedef unlinked incomplete : Bool) → (not typedef && (unlinked && incomplete)) ≡ false → typedef ≡ false → unlinked ≡ true → incomplete ≡ false
size_said true unlinked incomplete fine t linked = absurd cc
size_said false true incomplete fine t linked = fine
size_said false false incomplete fine t linked = absurd cc

pub unlinked_is : (linkage : Linkage) → is_linked linkage ≡ false → is_unlinked linkage ≡ true
unlinked_is External is = absurd cc
unlinked_is Internal is = absurd cc
unlinked_is Nothing is = refl

module _ (opens : List ℕ) (place : SpecsPlace) (specs : CSpecs) (line : ℕ) (written : CTy) (name : List ℕ) (scope : CScope) (good : IsGood opens scope) (orderly : IsOrderly opens scope)
    (inside : scope.in_function ≡ true) (known : IsKnownType opens scope.types scope.unit written) (few : nat_lt 1 (length specs.storage) ≡ false) where
  abbrev one : CDeclaring
  one = declaring scope place specs name line written false

  abbrev behind : CScope
  behind = with_declaration one scope

  abbrev node : CNode
  node = declares_node (record {
    where_stands = place;
    specs = specs;
    type = one.type;
    linkage = one.linkage;
    clashes = clashes_behind false behind (begun_as scope one written) one.type;
    has_init = false;
  })

  ends_so : IsUnbroken behind behind.types node → (at : TextPlace) (puts : CPuts) → IsDeclaration opens scope (declared_meant scope behind at (begun_as scope one written) false puts) behind
  ends_so unbroken at puts =
      let said = size_said (is_typedef specs) (is_unlinked one.linkage) (is_incomplete behind.types one.type) unbroken.k5 in
      let fine = fine_is opens scope good orderly place specs name line written false known (unclashed scope name (is_typedef specs) written one.linkage false unbroken.k2) (λ typedef no_fun. declared_form behind.types one.linkage one.type no_fun (said typedef)) in
      let begun = begun_is opens scope good orderly one fine in
      subst (λ b. IsDeclaration opens scope
      (meaning_by b (is_linked one.linkage) (has_storage keyword.Static specs) (is_typedef specs) (is_function one.type) at false puts
      (if is_linked one.linkage then linked_number scope.next_object (thing_named name scope.things) else scope.next_object) (literals_since scope behind)) behind)
      (sym (begun.leads.in_function_is ∙ inside))
      (unfilled_by opens scope good orderly one fine refl
      (λ typedef no_fun no_link. complete_object behind.types one.type no_fun (said typedef (unlinked_is one.linkage no_link)) unbroken.m3) (λ internal none. first_internal opens scope orderly name none place specs written few internal) at puts (is_typedef specs) (is_function one.type) (is_linked one.linkage) (has_storage keyword.Static specs) refl refl refl refl
      (λ typedef no_fun no_link. complete_object behind.types one.type no_fun (said typedef (unlinked_is one.linkage no_link)) unbroken.m3))

pub unfilled_goes : (opens : List ℕ) (place : SpecsPlace) (specs : CSpecs) (line : ℕ) (written : CTy) (shape : CShape) (scope : CScope) → IsGood opens scope → IsOrderly opens scope → scope.in_function ≡ true
    → IsKnownType opens scope.types scope.unit written → nat_lt 1 (length specs.storage) ≡ false → Ends (s_named_walk place specs line written shape None) scope (IsDeclaration opens scope)
unfilled_goes opens place specs line written shape scope good orderly inside known few =
    let name = name_or_none shape.name in
    let one_is = declaring scope place specs (name_or_none shape.name) line written false in
    go_here_then _ _ scope _ (go_chain _ _ _ _ scope (λ begun middle. (begun ≡ begun_as scope one_is written) × (middle ≡ with_declaration one_is scope)) _
    (go_here_then _ _ scope _ (go_chain _ _ _ _ scope (λ done middle. middle ≡ with_declaration one_is scope) _ (go_becomes (with_declaration one_is scope) scope _ refl) (λ done middle at.
    go_gives _ middle _ (refl, at))))
    (λ begun middle at.
    subst (λ found. Ends (seen_chain (List CStored) CMeaning (s_init_walk found.target None) (λ stored. s_declared_ends place specs line scope found false stored)) middle (IsDeclaration opens scope)) (sym at.0)
    (subst (λ later. Ends (seen_chain (List CStored) CMeaning (s_init_walk (begun_as scope one_is written).target None) (λ stored. s_declared_ends place specs line scope (begun_as scope one_is written) false stored)) later
    (IsDeclaration opens scope)) (sym at.1)
    (go_chain _ _ _ _ (with_declaration one_is scope) (λ stored later. (stored ≡ []) × (later ≡ with_declaration one_is scope)) _ (go_gives [] (with_declaration one_is scope) _ (refl, refl)) (λ stored later same.
    subst (λ found. Ends (s_declared_ends place specs line scope (begun_as scope one_is written) false stored) found (IsDeclaration opens scope)) (sym same.1)
    (go_here_then _ _ (with_declaration one_is scope) _ (go_changed _ (with_declaration one_is scope) _ _ _ _ (with_declaration one_is scope) _ (λ unbroken.
    ends_so opens place specs line written (name_or_none shape.name) scope good orderly inside known few unbroken _ no_puts))))))))
