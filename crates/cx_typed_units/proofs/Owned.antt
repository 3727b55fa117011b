-- An object without linkage, between its declarator and behind its initialiser (ISO C99, 6.7.8).
use Rattle.std.proofs.Common.{◌≡◌, ◌⊎◌, inl, inr, ℕ, ◌<◌, ◌≤◌, ◌==◌, Bool, true, false, ◌&&◌, if◌then◌else◌, List, [], ◌∷◌, ◌++◌, map, length, Option, None, Some, is_some, slice_get, refl, sym, ap, ◌∙◌, subst, arith}
use Rattle.std.proofs.lemmas.Bool.Decides.{nat_tests}
use Rattle.std.proofs.lemmas.Slice.Eq.{bytes_eq-Decides}
use Rattle.std.specs.Prelude.{IsSome, IfSome}
use Rattle.std.specs.List.{Contains}
use Rattle.std.specs.Bool.{beq}
use Rattle.cr_base.specs.declared.refusal.Refusal.{Refusal}
use Rattle.cx_core.proofs.Relation.{compatible_reflexive}
use Rattle.cx_core.specs.declared.program.Linkage.{Linkage}
use Rattle.cx_core.specs.declared.program.Linkage.TheVariants.{External, Nothing}
use Rattle.cx_core.specs.Compatible.{agree, in_pairs, AreCompatible}
use Rattle.cx_core.specs.Trees.{CTy, ty, array, CTypes, CPuts, CObject, form_of_type}
use Rattle.cx_core.specs.Linked.{home_of, IsStatic, IsDeclaredForm}
use Rattle.cx_core.specs.Typing.{CHome, object_with, IsThere}
use Rattle.cx_rules.proofs.Verdicts.{broken_behind}
use Rattle.cx_rules.specs.Declare.{is_linked, with_object_at, CBegun, with_content}
use Rattle.cx_rules.specs.Initial.{CStored, completed_type}
use Rattle.cx_rules.specs.Pieces.{CTarget}
use Rattle.cx_rules.specs.Readings.{Seen, seen_chain, or_else, first_broken}
use Rattle.cx_rules.specs.Scope.{CMeant, an_object, a_function, CScope, ordinary}
use Rattle.cx_rules.specs.Types.{is_function}
use Rattle.cx_rules.specs.UnitWalk.{literals_since}
use Rattle.cx_typed.proofs.DeclaredForms.{object_declared}
use Rattle.cx_typed.proofs.Scopes.{longer, within}
use Rattle.cx_typed.specs.Initialised.{IsKnownWhole}
use Rattle.cx_typed.specs.Names.{IsKnownMeant}
use Rattle.cx_typed.specs.Scopes.{IsHeld, IsHeldObject, Serves, Passes, is_thing, AreTypedLiterals}
use Rattle.cx_typed.specs.Walked.{IsGood, Ends}
use Rattle.cx_typed_units.proofs.Begun.{IsBegunAs}
use Rattle.cx_typed_units.proofs.Blocks.{serves_of, all_on}
use Rattle.cx_typed_units.proofs.Declared.{one_more_held}
use Rattle.cx_typed_units.proofs.Fine.{static_puts}
use Rattle.cx_typed_units.proofs.Joins.{agree_itself}
use Rattle.cx_typed_units.proofs.Redeclared.{redeclare_first, IsRetyped, redeclared_front, redeclared_means, redeclared_tags}
use Rattle.cx_typed_units.proofs.RestNodes.{StaysTo}
use Rattle.cx_typed_units.proofs.Steps.{got_behind, got_mapped, mapped_at, length_mapped, changed_static, changed_own, changed_numbers}
use Rattle.cx_typed_units.proofs.StoredAccounts.{stored_accounted}
use Rattle.cx_typed_units.proofs.Rests.{since_in, literals_typed, rest_leads}
use Rattle.cx_typed_units.proofs.Stretches.{Steps, steps_on, steps_of, leads_by, backs_from, holds_earlier, passes_declare}
use Rattle.cx_typed_units.specs.Account.{account_of, IsAccounted}
use Rattle.cx_typed_units.proofs.Unfilled.{IsThereHere}
use Rattle.cx_typed_units.specs.Rest.{CRest}
use Rattle.cx_typed_units.specs.Stretches.{IsOrderly, Leads, Backs, IsHeldAt, AreIn, HoldsAll, IsFilled, AreTypedThere, AreTypedUpTo}

-- ---- the type that an initialiser completes

flag : (b : Bool) → beq b b ≡ true
flag true = refl
flag false = refl

agree_completed : (types : CTypes) (counts : ℕ → ℕ → Bool) (type : CTy) (stored : List CStored) → agree types counts type (completed_type type stored) ≡ true
agree_completed types counts (ty (array element None) is_const) stored = ap (λ b. b && agree types counts element element) (flag is_const) ∙ agree_itself types counts element
agree_completed types counts type stored = agree_itself types counts type

pub completed_function : (type : CTy) (stored : List CStored) → is_function (completed_type type stored) ≡ is_function type
completed_function (ty (array element None) is_const) stored = refl
completed_function type stored = refl

-- an object may be declared with the type that its initialiser completes
pub completed_declared : (linkage : Linkage) (type : CTy) (stored : List CStored) → IsDeclaredForm linkage (form_of_type (completed_type type stored)) → IsDeclaredForm linkage (form_of_type type)
completed_declared linkage (ty (array element None) is_const) stored held = tt
completed_declared linkage type stored held = held

pub completed_goes : (types : CTypes) (type : CTy) (stored : List CStored) → AreCompatible types type (completed_type type stored)
completed_goes types type stored = record { pairs = []; good = refl; meet = agree_completed types (in_pairs []) type stored }

-- ---- a part of a walk may use what is known of a later one

neither_refused : (one other : Option Refusal) → or_else one other ≡ None → (one ≡ None) × (other ≡ None)
neither_refused None other is = (refl, is)
neither_refused (Some refusal) other is = absurd cc

pub go_known : (A B : Type 0) (first : Seen A) (next : A → Seen B) (scope : CScope) (Known : Type 0) (Post : B → CScope → Type 0) → Ends (next (first scope).meaning) (first scope).scope (λ value after. Known)
    → (Known → Ends (seen_chain A B first next) scope Post) → Ends (seen_chain A B first next) scope Post
unfolding seen_chain
go_known A B first next scope Known Post later held = record {
  ends = λ fine.
      let parts = neither_refused (first_broken (first scope).nodes) (first_broken (next (first scope).meaning (first scope).scope).nodes)
      (sym (broken_behind (first scope).nodes (next (first scope).meaning (first scope).scope).nodes) ∙ fine) in
      (held (later.ends parts.1)).ends fine;
}

-- ---- a declaration of an object without linkage, as `Declare` says it

abbrev pub stored_in : Bool → CTy → CPuts → CObject → CObject
stored_in true type puts one = record one { type = type; puts = Some puts }
stored_in false type puts one = record one { type = type }

abbrev pub own_begun : List ℕ → CTy → Bool → ℕ → Bool → CTarget → CBegun
own_begun name type clashing number is_static target = record {
  name = name;
  type = type;
  linkage = Nothing;
  clashes = clashing;
  object = Some number;
  is_static = is_static;
  target = target;
  mention = None;
}

pub own_content : (name : List ℕ) (type : CTy) (clashing : Bool) (number : ℕ) (is_static : Bool) (target : CTarget) (whole : CTy) (puts : CPuts) (scope : CScope)
    → with_content (own_begun name type clashing number is_static target) whole puts scope
    ≡ with_object_at number (stored_in is_static whole puts) (record scope { declared = redeclare_first name whole scope.declared })
unfolding with_content
own_content name type clashing number is_static target whole puts scope = refl

stored_number : (is_static : Bool) (type : CTy) (puts : CPuts) (one : CObject) → (stored_in is_static type puts one).object ≡ one.object
stored_number true type puts one = refl
stored_number false type puts one = refl

stored_linkage : (is_static : Bool) (type : CTy) (puts : CPuts) (one : CObject) → (stored_in is_static type puts one).linkage ≡ one.linkage
stored_linkage true type puts one = refl
stored_linkage false type puts one = refl

stored_unit : (is_static : Bool) (type : CTy) (puts : CPuts) (one : CObject) → (stored_in is_static type puts one).unit ≡ one.unit
stored_unit true type puts one = refl
stored_unit false type puts one = refl

stored_text : (is_static : Bool) (type : CTy) (puts : CPuts) (one : CObject) → (stored_in is_static type puts one).is_text ≡ one.is_text
stored_text true type puts one = refl
stored_text false type puts one = refl

stored_static : (is_static : Bool) (type : CTy) (puts : CPuts) (one : CObject) → is_some one.puts ≡ true → is_some (stored_in is_static type puts one).puts ≡ true
stored_static true type puts one is = refl
stored_static false type puts one is = is

stored_type : (is_static : Bool) (type : CTy) (puts : CPuts) (one : CObject) → (stored_in is_static type puts one).type ≡ type
stored_type true type puts one = refl
stored_type false type puts one = refl

not_same : (a b : ℕ) → a < b → (a == b) ≡ false
not_same a b less = grind (arith, nat_tests)

itself : (a : ℕ) → (a == a) ≡ true
itself a = grind (arith, nat_tests)

same_object : {x y : CMeant} → Some x ≡ Some y → x ≡ y
same_object is = cc

abbrev retype : CTy → CMeant → CMeant
retype type (an_object number before is_register linkage) = an_object number type is_register linkage
retype type meant = meant

abbrev linkage_of_object : CMeant → Linkage
linkage_of_object (an_object number type is_register linkage) = linkage
linkage_of_object _ = External

-- the object of the declaration, between its declarator and behind its initialiser
pub record IsOwn (scope : CScope) (name : List ℕ) (is_static : Bool) (middle : CScope) (own : CObject) : Type 0 where
  pub at : slice_get middle.objects (length scope.objects) ≡ Some own
  pub number_is : own.object ≡ scope.next_object
  pub nothing : own.linkage ≡ Nothing
  pub here : own.unit ≡ scope.unit
  pub named : IsSome own.name
  pub puts_are : own.puts ≡ static_puts is_static
  pub all : middle.objects ≡ scope.objects ++ own ∷ []

module _ (opens : List ℕ) (scope : CScope) (orderly : IsOrderly opens scope) (name : List ℕ) (type : CTy) (is_register is_static : Bool) (whole : CTy) (puts : CPuts) (middle later : CScope)
    (begun : IsBegunAs opens scope name (an_object scope.next_object type is_register Nothing) middle) (own : CObject) (own_is : IsOwn scope name is_static middle own)
    (accounted : (pending : Option (List ℕ)) → IsAccounted opens pending (account_of scope) → IsAccounted opens pending (account_of middle))
    (passes : Passes opens middle later) (stays : StaysTo middle later) (made : AreTypedLiterals opens middle later)
    (own_static : (home : CHome) → Serves home opens middle later → is_static ≡ true → IsStatic (home_of home.program home.mentions home.unit) whole puts) (good : IsGood opens later) (known : IsKnownWhole opens later.types later.unit whole)
    (goes : (types : CTypes) → AreCompatible types type whole) where
  abbrev change : CObject → CObject
  change one = if one.object == scope.next_object then stored_in is_static whole puts one else one

  abbrev behind : CScope
  behind = with_object_at scope.next_object (stored_in is_static whole puts) (record later { declared = redeclare_first name whole later.declared })

  abbrev final : CObject
  final = stored_in is_static whole puts own

  init_leads : Leads opens middle later
  init_leads = rest_leads opens middle later (passes_declare opens middle later passes) passes.declared stays passes.numbers made

  all_leads : Steps opens scope later
  all_leads = steps_on opens scope middle later begun.leads (steps_of opens middle later init_leads)

  objects_are : later.objects ≡ middle.objects
  objects_are = ap {A = CRest} (λ one. one.objects) stays.rest_is

  pub final_at : slice_get behind.objects (length scope.objects) ≡ Some final
  final_at =
      mapped_at change later.objects (length scope.objects) own (ap (λ objects. slice_get objects (length scope.objects)) objects_are ∙ own_is.at)
      ∙ ap (λ b. Some (if b then stored_in is_static whole puts own else own)) (ap (λ n. n == scope.next_object) own_is.number_is ∙ itself scope.next_object)

  -- what stays
  kept_by : (one : CObject) (same : Bool) → same ≡ false → (if same then stored_in is_static whole puts one else one) ≡ one
  kept_by one true is = absurd cc
  kept_by one false is = refl

  own_means : (other : List ℕ) (meant : CMeant) → name ≡ other → is_thing meant ≡ true → ordinary other later.declared ≡ Some meant → an_object scope.next_object type is_register Nothing ≡ meant
  own_means other meant same thing is =
      let early : ordinary other middle.declared ≡ Some meant = passes.declared other meant thing is in
      let named : ordinary name middle.declared ≡ Some meant = subst (λ n. ordinary n middle.declared ≡ Some meant) (sym same) early in
      same_object (sym (ap (ordinary name) begun.declared_is ∙ ap (λ b. if b then Some (an_object scope.next_object type is_register Nothing) else ordinary name scope.declared) ((bytes_eq-Decides name name).1 refl)) ∙ named)

  means_so : (other : List ℕ) (number : ℕ) (found : CTy) (is_reg : Bool) (linkage : Linkage) → ordinary other behind.declared ≡ Some (an_object number found is_reg linkage) → is_linked linkage ≡ true
      → ordinary other later.declared ≡ Some (an_object number found is_reg linkage)
  means_so other number found is_reg linkage is linked = by_case (redeclared_means name other whole later.declared (an_object number found is_reg linkage) is)
    where
      by_case : (ordinary other later.declared ≡ Some (an_object number found is_reg linkage)) ⊎ IsRetyped name other whole (ordinary other later.declared) (an_object number found is_reg linkage)
          → ordinary other later.declared ≡ Some (an_object number found is_reg linkage)
      by_case (inl at) = at
      by_case (inr at) =
          let mine = own_means other _ at.name_is refl at.was_is in
          let mine_linkage : Nothing ≡ at.linkage = ap linkage_of_object mine in
          let found_linkage : linkage ≡ at.linkage = ap linkage_of_object at.found_is in
          absurd (let h : is_linked Nothing ≡ true = subst (λ l. is_linked l ≡ true) (found_linkage ∙ sym mine_linkage) linked in let k : false ≡ true = h in cc)

  function_so : (other : List ℕ) (number : ℕ) (found : CTy) (linkage : Linkage) → ordinary other behind.declared ≡ Some (a_function number found linkage)
      → ordinary other later.declared ≡ Some (a_function number found linkage)
  function_so other number found linkage is = by_case (redeclared_means name other whole later.declared (a_function number found linkage) is)
    where
      by_case : (ordinary other later.declared ≡ Some (a_function number found linkage)) ⊎ IsRetyped name other whole (ordinary other later.declared) (a_function number found linkage)
          → ordinary other later.declared ≡ Some (a_function number found linkage)
      by_case (inl at) = at
      by_case (inr at) = absurd (let h : a_function number found linkage ≡ an_object at.number whole at.is_register at.linkage = at.found_is in cc)

  behind_orderly : IsOrderly opens behind
  behind_orderly =
      let held = all_leads.orderly orderly in
      record {
        objects = λ other number found is_reg linkage is linked. held.objects other number found is_reg linkage (means_so other number found is_reg linkage is linked) linked;
        functions = λ other number found linkage is. held.functions other number found linkage (function_so other number found linkage is);
        things = λ other one is.
            let was = held.things other one is in
            record {
              known = was.known;
              linked = was.linked;
              function_is = was.function_is;
              below = was.below;
              own = changed_own opens later scope.next_object (stored_in is_static whole puts) (stored_number is_static whole puts) (stored_linkage is_static whole puts) (stored_static is_static whole puts) one was;
            };
        numbers = changed_numbers opens later scope.next_object (stored_in is_static whole puts) (stored_number is_static whole puts) (stored_linkage is_static whole puts) (stored_static is_static whole puts) held;
      }

  pub behind_steps : Steps opens scope behind
  behind_steps = record {
    declares = record {
      unit_is = all_leads.declares.unit_is;
      grows = all_leads.declares.grows;
      mentions = all_leads.declares.mentions;
      literals = all_leads.declares.literals;
      front = redeclare_first name whole (passes.front ++ record { name = name; meant = an_object scope.next_object type is_register Nothing } ∷ []);
      declared_is =
          ap (redeclare_first name whole) (passes.declared_is ∙ ap (λ declared. passes.front ++ declared) begun.declared_is)
          ∙ redeclared_front name whole passes.front (an_object scope.next_object type is_register Nothing) scope.declared refl;
    };
    begins_is = all_leads.begins_is;
    in_function_is = all_leads.in_function_is;
    functions_are = all_leads.functions_are;
    objects_more = let h : length (map change later.objects) ≡ length later.objects = length_mapped change later.objects in omega (arith, h, all_leads.objects_more);
    objects = λ index one nothing at.
        mapped_at change later.objects index one (all_leads.objects index one nothing at)
        ∙ ap (λ x. Some x) (kept_by one (one.object == scope.next_object) (not_same one.object scope.next_object (orderly.numbers index one at)));
    things = all_leads.things;
    orderly = λ held. behind_orderly;
    covered = all_leads.covered;
    statics = λ index is.
        changed_static opens later scope.next_object (stored_in is_static whole puts) (stored_number is_static whole puts) (stored_linkage is_static whole puts) (stored_static is_static whole puts) later.literals
        index later.objects (all_leads.statics index is);
  }

  behind_accounted : (pending : Option (List ℕ)) → IsAccounted opens pending (account_of scope) → IsAccounted opens pending (account_of behind)
  behind_accounted =
      λ pending held.
      stored_accounted opens pending (account_of later) (init_leads.keeps pending (accounted pending held)) (λ other one there. ((all_leads.orderly orderly).things other one there).linked) (length scope.objects) own
      (ap (λ objects. slice_get objects (length scope.objects)) objects_are ∙ own_is.at) own_is.nothing scope.next_object own_is.number_is (stored_in is_static whole puts) (stored_number is_static whole puts)
      (stored_linkage is_static whole puts) (stored_unit is_static whole puts) (stored_text is_static whole puts) whole (stored_type is_static whole puts) known.known known.object

  pub behind_good : IsGood opens behind
  behind_good = record {
    sound = good.sound;
    known = λ other found is. known_by other found (redeclared_means name other whole later.declared found is);
    tags = λ other one is. good.tags other one (sym (redeclared_tags name other whole later.declared) ∙ is);
  }
    where
      known_by : (other : List ℕ) (found : CMeant) → (ordinary other later.declared ≡ Some found) ⊎ IsRetyped name other whole (ordinary other later.declared) found
          → IsKnownMeant opens later.types later.unit found
      known_by other found (inl at) = good.known other found at
      known_by other found (inr at) = subst (IsKnownMeant opens later.types later.unit) (sym at.found_is) (known.known, object_declared at.linkage (form_of_type whole) known.object)

  -- ---- in a program

  module _ (home : CHome) (backs : Backs home opens scope behind) where
    final_there : object_with scope.next_object home.program.objects ≡ Some final
    final_there =
        subst (λ n. object_with n home.program.objects ≡ Some final) (stored_number is_static whole puts own ∙ own_is.number_is)
        (backs.objects (length scope.objects) final (stored_linkage is_static whole puts own ∙ own_is.nothing) (omega arith) final_at)

    -- it is there by whichever type it is named
    held_as : (found : CTy) → AreCompatible home.program.types found whole → IsThere home found final → IsHeld home name (an_object scope.next_object found is_register Nothing)
    held_as found same there = (
      subst IsSome (sym final_there) refl,
      subst (λ x. IfSome x (IsHeldObject home name found Nothing)) (sym final_there) (record {
        compatible = subst (λ t. AreCompatible home.program.types found t) (sym (stored_type is_static whole puts own)) same;
        linkage_is = stored_linkage is_static whole puts own ∙ own_is.nothing;
        held = there;
      }),
    )

    middle_held : IsHeldAt home scope.declared → IsThere home type final → IsHeldAt home middle.declared
    middle_held held there =
        one_more_held home name (an_object scope.next_object type is_register Nothing) scope.declared middle.declared begun.declared_is held (held_as type (goes home.program.types) there)

    middle_backs : Backs home opens middle later
    middle_backs =
        let told_more : length scope.mentions ≤ length middle.mentions = longer scope.mentions middle.mentions begun.leads.declares.mentions in
        let made_more : length scope.literals ≤ length middle.literals = longer scope.literals middle.literals begun.leads.declares.literals in
        record {
          unit_is = backs.unit_is ∙ sym begun.leads.declares.unit_is;
          grows = backs.grows;
          told = backs.told;
          told_is = backs.told_is;
          mentions = λ number one from is. backs.mentions number one (omega (arith, told_more, from)) is;
          literals = λ number one from is. backs.literals number one (omega (arith, made_more, from)) is;
          objects = λ index one nothing from at.
              absurd (let h : index < length middle.objects = within middle.objects index one (ap (λ objects. slice_get objects index) (sym objects_are) ∙ at) in omega (arith, h, from));
          things = backs.things;
          statics = λ index is.
              backs.statics index
              (changed_static opens later scope.next_object (stored_in is_static whole puts) (stored_number is_static whole puts) (stored_linkage is_static whole puts) (stored_static is_static whole puts) later.literals
              index later.objects is);
        }

    pub init_serves : IsHeldAt home scope.declared → IsThere home type final → AreIn home.scope (literals_since middle later) → Serves home opens middle later
    init_serves held there inside = serves_of home opens middle later middle_backs stays.defined (middle_held held there) inside

    pub behind_held : IsHeldAt home scope.declared → ((found : CTy) → IsThere home found final) → IsHeldAt home behind.declared
    behind_held held there other found is = held_by other found (redeclared_means name other whole later.declared found is)
      where
        held_by : (other : List ℕ) (found : CMeant) → (ordinary other later.declared ≡ Some found) ⊎ IsRetyped name other whole (ordinary other later.declared) found → IsHeld home other found
        held_by other found (inl at) = all_on home middle later passes.declared (middle_held held (there type)) other found at
        held_by other found (inr at) =
            let mine = own_means other _ at.name_is refl at.was_is in
            subst (IsHeld home other) (ap (retype whole) mine ∙ sym at.found_is)
            (subst (λ n. IsHeld home n (an_object scope.next_object whole is_register Nothing)) at.name_is (held_as whole (compatible_reflexive home.program.types whole) (there whole)))

  -- ---- what is typed

  there_by : (static : Bool) → is_static ≡ static → (home : CHome) → HoldsAll home opens behind → (found : CTy) → IsThere home found final
  there_by true e home all found = subst (λ b. IsThere home found (stored_in b whole puts own)) (sym e) tt
  there_by false e home all found =
      let inside : Contains home.scope final.object = all.objects_inside (length scope.objects) final final_at (stored_linkage is_static whole puts own ∙ own_is.nothing) in
      subst (λ b. IsThere home found (stored_in b whole puts own)) (sym e)
      (subst (λ l. IsThereHere home found (stored_in false whole puts own) l own.puts) (sym own_is.nothing)
      (subst (λ p. IsThereHere home found (stored_in false whole puts own) Nothing p) (sym (own_is.puts_are ∙ ap static_puts e))
      (subst (Contains home.scope) (stored_number is_static whole puts own) inside)))

  own_filled : (static : Bool) → is_static ≡ static → (home : CHome) → Serves home opens middle later → IfSome (stored_in static whole puts own).puts (IsFilled home (stored_in static whole puts own))
  own_filled true e home serves = own_static home serves e
  own_filled false e home serves = subst (λ p. IfSome p (IsFilled home (stored_in false whole puts own))) (sym (own_is.puts_are ∙ ap static_puts e)) tt

  behind_typed : AreTypedUpTo opens scope → AreTypedUpTo opens behind
  behind_typed held home all =
      let was = held home (holds_earlier opens home scope behind all behind_steps) in
      let backs = backs_from opens home scope behind all behind_steps in
      let there = there_by is_static refl home all in
      let inside : AreIn home.scope (literals_since middle later) = literals_since_in home all in
      let serves = init_serves home backs was.held (there type) inside in
      record {
        held = behind_held home backs was.held there;
        literals = literals_typed home middle later passes.literals (λ index one is. was.literals index one (subst (λ made. slice_get made index ≡ Some one) begun.literals_are is))
            (λ index one from is. made.typed home serves index one from is);
        objects = λ index one is. objects_by home serves was index one (got_mapped change later.objects index one is);
        functions = λ index one is. was.functions index one (subst (λ functions. slice_get functions index ≡ Some one) behind_steps.functions_are is);
      }
    where
      literals_since_in : (home : CHome) → HoldsAll home opens behind → AreIn home.scope (literals_since middle later)
      literals_since_in home all = since_in home.scope (length middle.literals) later.literals all.literals_inside

      object_by : (home : CHome) → Serves home opens middle later → AreTypedThere home scope → (index : ℕ) (before one : CObject) → slice_get (scope.objects ++ own ∷ []) index ≡ Some before → change before ≡ one
          → (slice_get scope.objects index ≡ Some before) ⊎ (own ≡ before) → IfSome one.puts (IsFilled home one)
      object_by home serves was index before one at is (inl old) =
          subst (λ (x : CObject). IfSome x.puts (IsFilled home x))
          (sym (kept_by before (before.object == scope.next_object) (not_same before.object scope.next_object (orderly.numbers index before old))) ∙ is) (was.objects index before old)
      object_by home serves was index before one at is (inr new) =
          let own_changed : change own ≡ final = ap (λ b. if b then final else own) (ap (λ n. n == scope.next_object) own_is.number_is ∙ itself scope.next_object) in
          subst (λ (x : CObject). IfSome x.puts (IsFilled home x)) (sym own_changed ∙ (ap change new ∙ is)) (own_filled is_static refl home serves)

      objects_by : (home : CHome) → Serves home opens middle later → AreTypedThere home scope → (index : ℕ) (one : CObject) → (before : CObject) × (slice_get later.objects index ≡ Some before) × (change before ≡ one)
          → IfSome one.puts (IsFilled home one)
      objects_by home serves was index one before =
          let at = subst (λ objects. slice_get objects index ≡ Some before.0) (objects_are ∙ own_is.all) before.1 in
          object_by home serves was index before.0 one at before.2 (got_behind scope.objects own index before.0 at)

  pub behind_leads : Leads opens scope behind
  behind_leads = leads_by opens scope behind behind_steps behind_accounted (λ pending account. behind_typed)
