-- Declarations without initialisers in blocks (ISO C99, 6.7).
use Rattle.std.proofs.Common.{◌≡◌, ℕ, ◌≤◌, Bool, true, false, ◌&&◌, if◌then◌else◌, List, [], ◌∷◌, ◌++◌, length, Option, None, Some, slice_get, bytes_eq, refl, sym, ap, ◌∙◌, subst}
use Rattle.std.proofs.lemmas.Slice.Eq.{bytes_eq-Decides}
use Rattle.std.specs.Prelude.{IsSome, IfSome}
use Rattle.std.specs.List.{Contains}
use Rattle.cr_base.specs.declared.refusal.Place.{Place as TextPlace}
use Rattle.cx_core.specs.declared.program.Linkage.{Linkage}
use Rattle.cx_core.specs.declared.program.Linkage.TheVariants.{External, Internal, Nothing}
use Rattle.cx_core.specs.Statements.{AreBlockObjects, IsBlockObject, IsDeclared}
use Rattle.cx_core.specs.Trees.{CTy, form_of_type, CPuts, CObject, stmt, begin}
use Rattle.cx_core.specs.Typing.{CHome, object_with, callee_with, AreTypedPuts}
use Rattle.cx_core.specs.ValidTypes.{IsComplete}
use Rattle.cx_rules.specs.Declare.{is_linked, thing_named}
use Rattle.cx_rules.specs.Scope.{CMeant, an_object, a_function, CDeclared, CThing, CScope, ordinary, is_ordinary}
use Rattle.cx_rules.specs.UnitWalk.{CMeant as CMeaning, literals_since}
use Rattle.cx_typed.proofs.Growing.{complete_stays}
use Rattle.cx_typed.proofs.Scopes.{grows_on}
use Rattle.cx_typed.specs.Names.{IsFunctionForm}
use Rattle.cx_typed.specs.Scopes.{IsHeld, IsHeldBy, IsHeldObject, IsHeldFunction}
use Rattle.cx_typed.specs.Walked.{IsGood}
use Rattle.cx_typed_units.proofs.Blocks.{blocks_joined, literal_blocks, all_inside}
use Rattle.cx_typed_units.proofs.Stretches.{if_some, home_in, backs_in}
use Rattle.cx_typed_units.specs.Statements.{IsDeclaration}
use Rattle.cx_typed_units.specs.Fills.{Fills}
use Rattle.cx_typed_units.specs.Once.{AreOnce}
use Rattle.cx_typed_units.specs.Stretches.{IsThing, IsThingOf, IsLinkedBy, Leads, Backs, IsHeldAt, AreIn}

-- ---- what is linked is held

held_by : (home : CHome) (linkage : Linkage) (name : List ℕ) (type : CTy) (one : CObject) → is_linked linkage ≡ true → one.name ≡ Some name → (linkage ≡ Internal → IsSome one.puts)
    → IsHeldBy linkage home name type one
held_by home External name type one linked named defined = named
held_by home Internal name type one linked named defined = defined refl
held_by home Nothing name type one linked named defined = absurd (let h : false ≡ true = linked in cc)

module _ (home : CHome) (opens : List ℕ) (before after : CScope) (backs : Backs home opens before after) (name : List ℕ) (number : ℕ) (type : CTy) (linkage : Linkage) where
  fills_there : (later : CTy) → Fills opens after.types type later → Fills opens home.program.types type later
  fills_there later fills now grows = fills now (grows_on opens after.types home.program.types now backs.grows grows)

  module _ (thing : CThing) where
    linked_object : IsThing opens after.types number type linkage false thing → is_linked linkage ≡ true → IsLinkedBy thing.is_function home.program opens name thing
        → (is_register : Bool) → IsHeld home name (an_object number type is_register linkage)
    linked_object held linked there is_register =
        let object_there : IsLinkedBy false home.program opens name thing = subst (λ f. IsLinkedBy f home.program opens name thing) held.function_is there in
        subst (λ n. IsSome (object_with n home.program.objects) × IfSome (object_with n home.program.objects) (IsHeldObject home name type linkage)) held.number_is (
          object_there.0,
          if_some _ (IsHeldObject home name type linkage) (object_with thing.number home.program.objects) (λ one is. record {
            compatible = is.compatible type (fills_there thing.type held.fills);
            linkage_is = is.linkage_is ∙ held.linkage_is;
            held = held_by home linkage name type one linked is.named (λ internal. is.defined (held.linkage_is ∙ internal));
          }) object_there.1,
        )

    linked_function : IsThing opens after.types number type linkage true thing → IsFunctionForm (form_of_type type) → IsLinkedBy thing.is_function home.program opens name thing
        → IsHeld home name (a_function number type linkage)
    linked_function held form there =
        let function_there : IsLinkedBy true home.program opens name thing = subst (λ f. IsLinkedBy f home.program opens name thing) held.function_is there in
        subst (λ n. IsFunctionForm (form_of_type type) × IsSome (callee_with n home.program) × IfSome (callee_with n home.program) (IsHeldFunction home name type linkage)) held.number_is (
          form,
          function_there.0,
          if_some _ (IsHeldFunction home name type linkage) (callee_with thing.number home.program) (λ one is. record {
            compatible = is.compatible type (fills_there thing.type held.fills);
            outer = if_some _ _ one.outer (λ x at. (at.0, at.1 ∙ held.linkage_is)) is.outer;
          }) function_there.1,
        )

  thing_at : (P : CThing → Type 0) (found : Option CThing) → IsSome found × IfSome found P → (one : CThing) × (found ≡ Some one) × P one
  thing_at P None held = absurd (let h : false ≡ true = held.0 in cc)
  thing_at P (Some one) held = (one, refl, held.1)

  pub object_held : IsThingOf opens after name number type linkage false → is_linked linkage ≡ true → (is_register : Bool) → IsHeld home name (an_object number type is_register linkage)
  object_held thing linked is_register =
      let there = thing_at (IsThing opens after.types number type linkage false) (thing_named name after.things) thing in
      linked_object there.0 there.2 linked (backs.things name there.0 there.1) is_register

  pub function_held : IsThingOf opens after name number type linkage true → IsFunctionForm (form_of_type type) → IsHeld home name (a_function number type linkage)
  function_held thing form =
      let there = thing_at (IsThing opens after.types number type linkage true) (thing_named name after.things) thing in
      linked_function there.0 there.2 form (backs.things name there.0 there.1)

-- ---- one more name is held

second_of : (a b : Bool) → (a && b) ≡ true → b ≡ true
second_of true b is = is
second_of false b is = absurd cc

front_held : (home : CHome) (name other : List ℕ) (meant found : CMeant) (few : List CDeclared) (is_new : Bool) → (is_ordinary meant && bytes_eq name other) ≡ is_new → IsHeldAt home few → IsHeld home name meant
    → (if is_new then Some meant else ordinary other few) ≡ Some found → IsHeld home other found
front_held home name other meant found few true e held new is =
    let same : meant ≡ found = cc in
    let same_name : name ≡ other = (bytes_eq-Decides name other).0 (second_of (is_ordinary meant) (bytes_eq name other) e) in
    subst (IsHeld home other) same (subst (λ n. IsHeld home n meant) same_name new)
front_held home name other meant found few false e held new is = held other found is

pub one_more_held : (home : CHome) (name : List ℕ) (meant : CMeant) (few many : List CDeclared) → many ≡ record { name = name; meant = meant } ∷ few → IsHeldAt home few → IsHeld home name meant
    → IsHeldAt home many
one_more_held home name meant few many many_is held new other found is =
    front_held home name other meant found few (is_ordinary meant && bytes_eq name other) refl held new (ap (ordinary other) (sym many_is) ∙ is)

-- ---- what declarations leave in a block

-- nothing but the objects of literals
abbrev pub only_literals : CScope → CScope → CMeaning
only_literals before after = record { stmts = []; objects = [] ++ literals_since before after }

module _ (opens : List ℕ) (before after : CScope) (good : IsGood opens after) (leads : Leads opens before after) (body_is : after.body ≡ before.body) where
  pub plain_declared : AreOnce before.next_object after.next_object (literals_since before after) → ((home : CHome) → Backs home opens before after → IsHeldAt home before.declared → IsHeldAt home after.declared) → IsDeclaration opens before (only_literals before after) after
  plain_declared numbers held = record {
    good = good;
    leads = leads;
    body_is = body_is;
    begun = tt;
    numbers = numbers;
    blocks = λ home backs. literal_blocks home opens before after backs;
    held = λ home backs known inside. held home backs known;
    typed = λ body declares backs known inside among. tt;
  }

  -- an object whose life is filled where its declaration is reached
  module _ (at : TextPlace) (puts : Option CPuts) (one : CObject) (index : ℕ) (from : length before.objects ≤ index) (found : slice_get after.objects index ≡ Some one) (nothing : one.linkage ≡ Nothing)
      (own : one.puts ≡ None) (here : one.unit ≡ before.unit) (named : IsSome one.name) (complete : IsComplete after.types one.type) where
    abbrev beginning : CMeaning
    beginning = record { stmts = stmt at [] (begin one.object puts) ∷ []; objects = (one.object ∷ []) ++ literals_since before after }

    there : (home : CHome) → Backs home opens before after → object_with one.object home.program.objects ≡ Some one
    there home backs = backs.objects index one nothing from found

    own_block : (home : CHome) → Backs home opens before after → AreBlockObjects home (one.object ∷ [])
    own_block home backs = (
      subst IsSome (sym (there home backs)) refl,
      subst (λ x. IfSome x (IsBlockObject home)) (sym (there home backs)) (record {
        no_linkage = nothing;
        not_static = own;
        here = here ∙ sym backs.unit_is;
        complete = complete_stays opens after.types home.program.types backs.grows one.type complete;
      }),
      tt,
    )

    pub begun_declared : AreOnce before.next_object after.next_object (one.object ∷ literals_since before after) → ((home : CHome) → Backs home opens before after → IsHeldAt home before.declared → Contains home.scope one.object → IsHeldAt home after.declared)
        → ((home : CHome) → Backs home opens before after → IsHeldAt home before.declared → Contains home.scope one.object → AreIn home.scope (literals_since before after) → IfSome puts (AreTypedPuts home one.type))
        → IsDeclaration opens before beginning after
    begun_declared numbers held stored = record {
      good = good;
      leads = leads;
      body_is = body_is;
      begun = (refl, tt);
      numbers = numbers;
      blocks = λ home backs. blocks_joined home (one.object ∷ []) (literals_since before after) (own_block home backs) (literal_blocks home opens before after backs);
      held = λ home backs known inside. held home backs known inside.0;
      typed = λ body declares backs known inside among.
          let inner = backs_in opens body.home [] before after backs in (
            (
              tt,
              (
                among.0,
                subst IsSome (sym (there body.home backs)) refl,
                subst (λ x. IfSome x (IsDeclared (home_in [] body.home) puts)) (sym (there body.home backs)) (record {
                  named = named;
                  stored = stored (home_in [] body.home) inner (all_inside body.home [] before.declared known) inside.0 inside.1;
                }),
              ),
            ),
            tt,
          );
    }
