-- A function whose body has ended (ISO C99, 6.9.1).
use Rattle.std.proofs.Common.{◌≡◌, ◌⊎◌, inl, inr, ℕ, zero, suc, ◌+◌, ◌-◌, Bool, true, false, ◌||◌, List, [], ◌∷◌, ◌++◌, map, length, drop, Option, Some, slice_get, refl, sym, ap, ◌∙◌, subst, length-append, append_assoc, arith}
use Rattle.std.specs.Prelude.{IsSome, IfSome}
use Rattle.std.specs.List.{Contains, list_any}
use Rattle.cx_core.specs.declared.program.Linkage.{Linkage}
use Rattle.cx_core.specs.declared.program.Linkage.TheVariants.{Nothing}
use Rattle.cx_core.specs.Linked.{IsTypedFunction}
use Rattle.cx_core.specs.Trees.{CTy, form_of_type, CObject, CFun}
use Rattle.cx_core.specs.Typing.{CHome, object_with}
use Rattle.cx_core.proofs.Relation.{compatible_reflexive}
use Rattle.cx_rules.specs.Scope.{CMeant, an_object, a_function, a_type_name, an_enumerator, a_tag, CDeclared, CScope, no_labels, new_scope, ordinary, tag, left}
use Rattle.cx_rules.specs.Shapes.{CParam}
use Rattle.cx_rules.specs.Pieces.{object_static}
use Rattle.cx_typed.proofs.Scopes.{kept_before}
use Rattle.cx_typed.proofs.Tags.{meant_stays, tag_stays}
use Rattle.cx_typed.specs.Names.{IsKnownMeant, IsKnownTag, IsFunctionForm}
use Rattle.cx_typed.specs.Scopes.{IsHeld, IsHeldObject, is_thing}
use Rattle.cx_typed.specs.Walked.{IsGood}
use Rattle.cx_typed_files.proofs.FileSteps.{backs_before, backs_between, backs_start}
use Rattle.cx_typed_files.proofs.Heads.{split_ordinary, split_list, param_object}
use Rattle.cx_typed_files.proofs.OwnParams.{IsParamMeant}
use Rattle.cx_typed_files.specs.FileScope.{IsAtFileScope}
use Rattle.cx_typed_units.proofs.Around.{known_thing}
use Rattle.cx_typed_units.proofs.Begun.{IsBegunAs}
use Rattle.cx_typed_units.proofs.Declared.{function_held, one_more_held}
use Rattle.cx_typed_units.proofs.ObjectNumbers.{got_last}
use Rattle.cx_typed_units.proofs.Stretches.{Steps, steps_on, thing_on, backs_first, holds_earlier}
use Rattle.cx_typed_units.specs.Account.{account_of, IsAccounted}
use Rattle.cx_typed_units.specs.Stretches.{IsOrderly, Leads, Backs, IsHeldAt, HoldsAll, IsFilled, AreTypedThere, AreTypedUpTo}

behind_front : (front behind : List CDeclared) → drop (length (front ++ behind) - length behind) (front ++ behind) ≡ behind
behind_front front behind = dropped front behind (length (front ++ behind) - length behind) (count front behind)
  where
    count : (front behind : List CDeclared) → length (front ++ behind) - length behind ≡ length front
    count front behind = let h : length (front ++ behind) ≡ length front + length behind = length-append front behind in omega (arith, h)

    dropped : (front behind : List CDeclared) (n : ℕ) → n ≡ length front → drop n (front ++ behind) ≡ behind
    dropped [] behind n is = ap (λ count. drop count behind) is
    dropped (first ∷ front) behind n is = ap (λ count. drop count (first ∷ (front ++ behind))) is ∙ dropped front behind (length front) refl

any_more : {X : Type 0} (test : X → Bool) (few more : List X) → list_any test few ≡ true → list_any test (few ++ more) ≡ true
any_more test [] more is = absurd cc
any_more test (first ∷ few) more is = by_first (test first) (λ held. any_more test few more held) is
  where
    by_first : (here : Bool) → (list_any test few ≡ true → list_any test (few ++ more) ≡ true) → (here || list_any test few) ≡ true → (here || list_any test (few ++ more)) ≡ true
    by_first true others held = refl
    by_first false others held = others held

either_any : (a b c : Bool) → (b ≡ true → c ≡ true) → (a || b) ≡ true → (a || c) ≡ true
either_any true b c more is = refl
either_any false b c more is = more is

is_param : (home : CHome) (name : List ℕ) (params : List CParam) (meant : CMeant)
    → ((index : ℕ) (one : CParam) → slice_get params index ≡ Some one → IsHeld home name (an_object one.object one.type one.is_register Nothing)) → IsParamMeant params meant → IsHeld home name meant
is_param home name [] meant each of = absurd of
is_param home name (one ∷ others) meant each (inl is) = subst (IsHeld home name) (sym is) (each zero one refl)
is_param home name (one ∷ others) meant each (inr of) = is_param home name others meant (λ index x found. each (suc index) x found) of

none_before : (index : ℕ) → index ≡ 0 + index
none_before index = omega (arith)

one_before : (front index : ℕ) → suc (front + index) ≡ suc front + index
one_before front index = omega (arith)

behind_at : {X : Type 0} (front : List X) (others : List X) (index : ℕ) (x : X) → slice_get others index ≡ Some x → slice_get (front ++ others) (length front + index) ≡ Some x
behind_at [] others index x is = subst (λ n. slice_get others n ≡ Some x) (none_before index) is
behind_at (first ∷ front) others index x is = subst (λ n. slice_get (first ∷ (front ++ others)) n ≡ Some x) (one_before (length front) index) (behind_at front others index x is)

-- `start` is where the declarator of the definition begins, `scope` where it ends, and `behind` where the function is declared
module _ (opens : List ℕ) (start scope : CScope) (at_start : IsAtFileScope opens start) (at : IsAtFileScope opens scope) (early : Steps opens start scope) (name : List ℕ) (number : ℕ) (type : CTy) (linkage : Linkage)
    (behind : CScope) (begun : IsBegunAs opens scope name (a_function number type linkage) behind) (same_objects : behind.objects ≡ scope.objects) (within : List CDeclared) (params : List CParam)
    (things : (other : List ℕ) (meant : CMeant) → is_thing meant ≡ true → ordinary other within ≡ Some meant → (ordinary other start.declared ≡ Some meant) ⊎ IsParamMeant params meant) where
  abbrev pub inside : CScope
  inside = record behind {
    begins = length behind.declared;
    declared = within ++ behind.declared;
    objects = behind.objects ++ map (param_object behind) params;
    in_function = true;
  }

  -- ---- a program that has the unit up to there

  backs_behind : (home : CHome) → Backs home opens (new_scope inside.unit) inside → Backs home opens (new_scope behind.unit) behind
  backs_behind home backs = record {
    unit_is = backs.unit_is;
    grows = backs.grows;
    told = backs.told;
    told_is = backs.told_is;
    mentions = backs.mentions;
    literals = backs.literals;
    objects = λ index one nothing from is. backs.objects index one nothing from (kept_before behind.objects (map (param_object behind) params) index one is);
    things = backs.things;
    statics = λ index is. backs.statics index (either_any _ _ _ (any_more (object_static index) behind.objects (map (param_object behind) params)) is);
  }

  pub param_there : (home : CHome) → Backs home opens (new_scope inside.unit) inside → (index : ℕ) (one : CParam) → slice_get params index ≡ Some one
      → object_with one.object home.program.objects ≡ Some (param_object behind one)
  param_there home backs index one is =
      backs.objects (length behind.objects + index) (param_object behind one) refl (omega arith)
      (behind_at behind.objects (map (param_object behind) params) index (param_object behind one) (mapped_to (param_object behind) params index one is))
    where
      mapped_to : {X Y : Type 0} (f : X → Y) (xs : List X) (index : ℕ) (x : X) → slice_get xs index ≡ Some x → slice_get (map f xs) index ≡ Some (f x)
      mapped_to f [] index x is = absurd cc
      mapped_to f (first ∷ xs) zero x is = let e : first ≡ x = cc in ap (λ y. Some (f y)) e
      mapped_to f (first ∷ xs) (suc index) x is = mapped_to f xs index x is

  param_held : (home : CHome) → Backs home opens (new_scope inside.unit) inside → ((index : ℕ) (one : CParam) → slice_get params index ≡ Some one → Contains home.scope one.object)
      → (other : List ℕ) (index : ℕ) (one : CParam) → slice_get params index ≡ Some one → IsHeld home other (an_object one.object one.type one.is_register Nothing)
  param_held home backs contains other index one is =
      let found = param_there home backs index one is in (
        subst IsSome (sym found) refl,
        subst (λ x. IfSome x (IsHeldObject home other one.type Nothing)) (sym found) (record {
          compatible = compatible_reflexive home.program.types one.type;
          linkage_is = refl;
          held = contains index one is;
        }),
      )

  behind_held : (home : CHome) → Backs home opens (new_scope behind.unit) behind → IsFunctionForm (form_of_type type) → IsHeldAt home behind.declared
  behind_held home backs form =
      one_more_held home name (a_function number type linkage) scope.declared behind.declared begun.declared_is
      (at.held home (backs_before opens home scope behind begun.leads backs))
      (function_held home opens scope behind (backs_between opens home scope behind begun.leads backs) name number type linkage begun.linked.1 form)

  pub inside_held : (home : CHome) → Backs home opens (new_scope inside.unit) inside → IsFunctionForm (form_of_type type)
      → ((index : ℕ) (one : CParam) → slice_get params index ≡ Some one → Contains home.scope one.object) → IsHeldAt home inside.declared
  inside_held home backs form contains other meant is = by_thing meant (split_ordinary other within behind.declared meant is)
    where
      backs_there : Backs home opens (new_scope behind.unit) behind
      backs_there = backs_behind home backs

      thing_held : (meant : CMeant) → is_thing meant ≡ true → ordinary other within ≡ Some meant → IsHeld home other meant
      thing_held meant thing first = early_or (things other meant thing first)
        where
          early_or : (ordinary other start.declared ≡ Some meant) ⊎ IsParamMeant params meant → IsHeld home other meant
          early_or (inl was) =
              at_start.held home (backs_before opens home start behind (steps_on opens start scope behind early begun.leads) backs_there) other meant was
          early_or (inr of) = is_param home other params meant (λ index one found. param_held home backs contains other index one found) of

      by_thing : (meant : CMeant) → (ordinary other within ≡ Some meant) ⊎ (ordinary other behind.declared ≡ Some meant) → IsHeld home other meant
      by_thing meant (inr later) = behind_held home backs_there form other meant later
      by_thing (an_object n found reg l) (inl first) = thing_held _ refl first
      by_thing (a_function n found l) (inl first) = thing_held _ refl first
      by_thing (a_type_name found) (inl first) = tt
      by_thing (an_enumerator value) (inl first) = tt
      by_thing (a_tag is_record goes_on n) (inl first) = tt

  pub inside_typed : IsFunctionForm (form_of_type type) → AreTypedUpTo opens scope → AreTypedUpTo opens inside
  inside_typed form held home all =
      let behind_all : HoldsAll home opens behind = record {
        backs = backs_behind home all.backs;
        objects_inside = λ index one is nothing. all.objects_inside index one (kept_before behind.objects (map (param_object behind) params) index one is) nothing;
        literals_inside = all.literals_inside;
      } in
      let was = held home (holds_earlier opens home scope behind behind_all begun.leads) in
      record {
        held = inside_held home all.backs form (λ index one is.
            all.objects_inside (length behind.objects + index) (param_object behind one)
            (behind_at behind.objects (map (param_object behind) params) index (param_object behind one) (mapped_one params index one is)) refl);
        literals = λ index one is. was.literals index one (subst (λ literals. slice_get literals index ≡ Some one) begun.literals_are is);
        objects = λ index one is. object_by home was index one (split_list behind.objects (map (param_object behind) params) index one is);
        functions = λ index one is. was.functions index one (subst (λ functions. slice_get functions index ≡ Some one) begun.leads.functions_are is);
      }
    where
      mapped_one : (params : List CParam) (index : ℕ) (one : CParam) → slice_get params index ≡ Some one → slice_get (map (param_object behind) params) index ≡ Some (param_object behind one)
      mapped_one [] index one is = absurd cc
      mapped_one (first ∷ others) zero one is = let e : first ≡ one = cc in ap (λ y. Some (param_object behind y)) e
      mapped_one (first ∷ others) (suc index) one is = mapped_one others index one is

      empty_by : (home : CHome) (params : List CParam) (index : ℕ) (one : CObject) → slice_get (map (param_object behind) params) index ≡ Some one → IfSome one.puts (IsFilled home one)
      empty_by home [] index one is = absurd cc
      empty_by home (first ∷ others) zero one is = let e : param_object behind first ≡ one = cc in subst (λ (x : CObject). IfSome x.puts (IsFilled home x)) e tt
      empty_by home (first ∷ others) (suc index) one is = empty_by home others index one is

      object_by : (home : CHome) → AreTypedThere home scope → (index : ℕ) (one : CObject)
          → ((n : ℕ) × (slice_get behind.objects n ≡ Some one)) ⊎ ((n : ℕ) × (slice_get (map (param_object behind) params) n ≡ Some one)) → IfSome one.puts (IsFilled home one)
      object_by home was index one (inl old) = was.objects old.0 one (subst (λ objects. slice_get objects old.0 ≡ Some one) same_objects old.1)
      object_by home was index one (inr new) = empty_by home params new.0 one new.1

  -- ---- the body ends: its parameters and labels are out of scope

  module _ (inner : CScope) (leads : Leads opens inside inner) (inner_good : IsGood opens inner) (fun : CFun) where
    abbrev pub end : CScope
    end = record (left (length scope.declared + 1) scope.begins inner) { functions = inner.functions ++ fun ∷ []; in_function = false; body = no_labels }

    declared_length : length behind.declared ≡ length scope.declared + 1
    declared_length = ap length begun.declared_is ∙ (let h : suc (length scope.declared) ≡ length scope.declared + 1 = omega arith in h)

    end_declared : end.declared ≡ behind.declared
    end_declared =
        ap (λ n. drop (length inner.declared - n) inner.declared) (sym declared_length)
        ∙ (ap (λ declared. drop (length declared - length behind.declared) declared) (leads.declares.declared_is ∙ sym (append_assoc leads.declares.front within behind.declared))
        ∙ behind_front (leads.declares.front ++ within) behind.declared)

    pub end_good : IsGood opens end
    end_good = record {
      sound = inner_good.sound;
      known = λ other meant is.
          subst (λ unit. IsKnownMeant opens inner.types unit meant) (sym leads.declares.unit_is)
          (meant_stays opens behind.types inner.types leads.declares.grows behind.unit meant (begun.good.known other meant (ap (ordinary other) (sym end_declared) ∙ is)));
      tags = λ other one is.
          subst (λ unit. IsKnownTag opens inner.types unit other one) (sym leads.declares.unit_is)
          (tag_stays opens behind.types inner.types leads.declares.grows behind.unit other one (begun.good.tags other one (ap (tag other) (sym end_declared) ∙ is)));
    }

    pub end_orderly : IsOrderly opens inside → IsOrderly opens end
    end_orderly held =
        let before = begun.leads.orderly at.orderly in
        let late = leads.orderly held in
        record {
          objects = λ other n found reg l is linked.
              thing_on opens behind inner leads.declares.grows leads.things other n found l false (before.objects other n found reg l (ap (ordinary other) (sym end_declared) ∙ is) linked);
          functions = λ other n found l is.
              let was = before.functions other n found l (ap (ordinary other) (sym end_declared) ∙ is) in (was.0, thing_on opens behind inner leads.declares.grows leads.things other n found l true was.1);
          things = λ other one is. known_thing opens inner end refl refl refl refl one (late.things other one is);
          numbers = late.numbers;
        }

    -- a program that has the unit up to its end
    backs_inner : (home : CHome) → Backs home opens (new_scope end.unit) end → Backs home opens (new_scope inner.unit) inner
    backs_inner home backs = record {
      unit_is = backs.unit_is;
      grows = backs.grows;
      told = backs.told;
      told_is = backs.told_is;
      mentions = backs.mentions;
      literals = backs.literals;
      objects = backs.objects;
      things = backs.things;
      statics = backs.statics;
    }

    pub backs_inside : (home : CHome) → Backs home opens (new_scope end.unit) end → Backs home opens (new_scope inside.unit) inside
    backs_inside home backs =
        backs_start opens home inner.unit inside.unit inside leads.declares.unit_is (backs_first opens home (new_scope inner.unit) inside inner (backs_inner home backs) leads)

    pub end_held : (home : CHome) → Backs home opens (new_scope end.unit) end → IsFunctionForm (form_of_type type) → IsHeldAt home end.declared
    end_held home backs form other meant is = behind_held home (backs_behind home (backs_inside home backs)) form other meant (ap (ordinary other) (sym end_declared) ∙ is)

    pub end_typed : (pending : Option (List ℕ)) → IsAccounted opens pending (account_of inside) → AreTypedUpTo opens inside → ((home : CHome) → HoldsAll home opens inner → IsTypedFunction home.program home.mentions fun) → IsFunctionForm (form_of_type type) → AreTypedUpTo opens end
    end_typed pending account held own form home all =
        let inner_all : HoldsAll home opens inner = record { backs = backs_inner home all.backs; objects_inside = all.objects_inside; literals_inside = all.literals_inside } in
        let was = leads.typed pending account held home inner_all in
        record {
          held = end_held home all.backs form;
          literals = was.literals;
          objects = was.objects;
          functions = λ index one is. by_case was inner_all index one (got_last inner.functions fun index one is);
        }
      where
        by_case : AreTypedThere home inner → HoldsAll home opens inner → (index : ℕ) (one : CFun) → (slice_get inner.functions index ≡ Some one) ⊎ ((index ≡ length inner.functions) × (fun ≡ one))
            → IsTypedFunction home.program home.mentions one
        by_case was inner_all index one (inl early) = was.functions index one early
        by_case was inner_all index one (inr new) = subst (IsTypedFunction home.program home.mentions) new.1 (own home inner_all)
