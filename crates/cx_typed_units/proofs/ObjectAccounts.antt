-- What a unit keeps account of stays right where an object is declared (ISO C99, 6.2.2, 6.2.7p4, 6.9.2).
use Rattle.std.proofs.Common.{◌≡◌, ◌⊎◌, inl, inr, ℕ, ◌+◌, ◌==◌, Bool, true, false, ◌||◌, if◌then◌else◌, List, [], ◌∷◌, ◌++◌, map, length, Option, None, Some, is_some, slice_get, refl, sym, ap, ◌∙◌, subst, arith}
use Rattle.std.proofs.lemmas.Bool.Decides.{nat_tests}
use Rattle.std.proofs.lemmas.Slice.Eq.{bytes_eq-Decides}
use Rattle.cx_core.specs.declared.program.Linkage.{Linkage}
use Rattle.cx_core.specs.declared.program.Linkage.TheVariants.{External, Internal, Nothing}
use Rattle.cx_core.specs.Linked.{IsDeclaredForm}
use Rattle.cx_core.specs.Trees.{CTy, ty, CTyForm, void, basic, enum_type, pointer, array, record_type, function, form_of_type, CObject, CFun, CMention}
use Rattle.cx_rules.specs.Declare.{is_linked, thing_named}
use Rattle.cx_rules.specs.Scope.{CThing}
use Rattle.cx_rules.specs.Types.{composite, composite_form}
use Rattle.cx_typed.proofs.Same.{number_is}
use Rattle.cx_typed.proofs.Scopes.{kept_before, pushed_at}
use Rattle.cx_typed.specs.Growth.{Gives}
use Rattle.cx_typed.specs.Operands.{IsKnownType}
use Rattle.cx_typed_units.proofs.Accounted.{told_later}
use Rattle.cx_typed_units.proofs.Entities.{declared_again, or_line, new_thing, GoesWith}
use Rattle.cx_typed_units.proofs.FunctionAccounts.{pending_by, looser_by}
use Rattle.cx_typed_units.proofs.Joins.{fills_itself, fills_second, fills_through, composite_known}
use Rattle.cx_typed_units.proofs.Named.{set_thing, found_last}
use Rattle.cx_typed_units.proofs.ObjectNumbers.{numbered_of, got_last, one_more_numbered, changed_numbered}
use Rattle.cx_typed_units.proofs.Steps.{got_mapped, mapped_at}
use Rattle.cx_typed_units.proofs.ThingAccounts.{AreDeclared, declared_account, thing_accounted, named_onward}
use Rattle.cx_typed_units.proofs.ThingLists.{one_more_declared, set_declared}
use Rattle.cx_typed_units.specs.Account.{CAccount, does_by, is_declaring, IsToldAs, IsObjectNamed, IsKnownObject, IsObjectThing, IsAccounted}
use Rattle.cx_typed_units.specs.Fills.{Fills}

same_value : {X : Type 0} {x y : X} → Some x ≡ Some y → x ≡ y
same_value is = cc

or_right : (a b : Bool) → b ≡ true → (a || b) ≡ true
or_right true b is = refl
or_right false b is = is

declaring_is : (b : Bool) → is_declaring (does_by b) ≡ true
declaring_is true = refl
declaring_is false = refl

-- an object may be declared with the composite of a type with which it may
pub object_composite : (linkage : Linkage) (one other : CTy) → IsDeclaredForm linkage (form_of_type one) → IsDeclaredForm linkage (form_of_type (composite one other))
object_composite linkage (ty one one_const) (ty other other_const) held = by_form one other held
  where
    by_form : (one other : CTyForm) → IsDeclaredForm linkage one → IsDeclaredForm linkage (composite_form one other)
    by_form (basic one) (enum_type other) held = tt
    by_form (pointer one) (pointer other) held = tt
    by_form (array one one_length) (array other other_length) held = tt
    by_form (function one ones one_more) (function other others other_more) held = absurd held
    by_form void other held = held
    by_form (basic one) other held = tt
    by_form (enum_type one) other held = tt
    by_form (pointer one) other held = tt
    by_form (array one one_length) other held = tt
    by_form (record_type one) other held = tt
    by_form (function one ones one_more) other held = absurd held

-- ---- an object without linkage

module _ (opens : List ℕ) (pending : Option (List ℕ)) (few : CAccount) (held : IsAccounted opens pending few) (new : CObject) (next : new.object ≡ few.next_object) (nothing : new.linkage ≡ Nothing)
    (here : new.unit ≡ few.unit) (known : IsKnownType opens few.types few.unit new.type) (form : IsDeclaredForm new.linkage (form_of_type new.type)) (no_text : new.is_text ≡ false) where
  abbrev pub own_account : CAccount
  own_account = record few { next_object = few.next_object + 1; objects = few.objects ++ new ∷ [] }

  own_later : (one : CObject) → IsKnownObject opens few one → IsKnownObject opens own_account one
  own_later one was = record { here = was.here; known = was.known; object = was.object; no_text = was.no_text; named = was.named }

  own_known : IsKnownObject opens own_account new
  own_known = record {
    here = here;
    known = known;
    object = form;
    no_text = no_text;
    named = λ linked. absurd (let h : is_linked Nothing ≡ true = subst (λ l. is_linked l ≡ true) nothing linked in let k : false ≡ true = h in cc);
  }

  own_known_by : (index : ℕ) (one : CObject) → (slice_get few.objects index ≡ Some one) ⊎ ((index ≡ length few.objects) × (new ≡ one)) → IsKnownObject opens own_account one
  own_known_by index one (inl at) = own_later one (held.objects index one at)
  own_known_by index one (inr at) = subst (IsKnownObject opens own_account) at.1 own_known

  own_thing : (name : List ℕ) (thing : CThing) → IsObjectThing opens pending few name thing → IsObjectThing opens pending own_account name thing
  own_thing name thing was = record {
    index = was.index;
    one = was.one;
    at = kept_before few.objects (new ∷ []) was.index was.one was.at;
    number_is = was.number_is;
    linkage_is = was.linkage_is;
    named = was.named;
    type_is = was.type_is;
    fills = was.fills;
    defined = was.defined;
    filled = was.filled;
    internal = was.internal;
    type_told = was.type_told;
    does_told = was.does_told;
  }

  pub own_accounted : IsAccounted opens pending own_account
  own_accounted =
      let numbered = one_more_numbered few.objects few.literals few.next_object (numbered_of opens pending few held) new next in
      record {
        objects_differ = numbered.differ;
        literals_differ = numbered.made.differ;
        apart = numbered.made.apart;
        objects_below = numbered.below;
        literals_below = numbered.made.below;
        literals = held.literals;
        objects = λ index one at. own_known_by index one (got_last few.objects new index one at);
        listed = held.listed;
        things_differ = held.things_differ;
        object_things = λ name one there is. own_thing name one (held.object_things name one there is);
        function_things = λ name one there is. (
            let was = held.function_things name one there is in
            record {
              below = was.below;
              undefined = was.undefined;
              defined = λ apart defined.
                  let by = was.defined apart defined in
                  record { index = by.index; one = by.one; at = by.at; number_is = by.number_is; named = by.named; linkage_is = by.linkage_is; fills = by.fills };
            });
        functions_differ = held.functions_differ;
        functions = λ index one at.
            let was = held.functions index one at in
            record {
              here = was.here;
              linked = was.linked;
              thing = was.thing;
              there = was.there;
              function_is = was.function_is;
              defined = was.defined;
              number_is = was.number_is;
              told = was.told;
            };
        bodies_differ = held.bodies_differ;
        awaited = held.awaited;
      }

-- ---- an object with linkage

-- what a declaration tells of it: its type, and whether it defines it
pub record IsToldNow (mentions told : List CMention) (name : List ℕ) (linkage : Linkage) (type : CTy) (defines : Bool) : Type 0 where
  pub more : (number : ℕ) → Gives (slice_get mentions number) (slice_get told number)
  pub says : linkage ≡ External → IsToldAs told name External (λ one. (one.type ≡ type) × (one.does ≡ does_by defines))

module _ (opens : List ℕ) (pending : Option (List ℕ)) (few : CAccount) (held : IsAccounted opens pending few) (name : List ℕ) (type : CTy) (known : IsKnownType opens few.types few.unit type)
    (linkage : Linkage) (form : IsDeclaredForm linkage (form_of_type type)) (linked : is_linked linkage ≡ true) (has_content : Bool) (tentative : Option ℕ) (alone : has_content ≡ true → pending ≡ None)
    (told : List CMention) where
  abbrev later : Option (List ℕ)
  later = pending_by has_content name pending

  pending_is : (content : Bool) → has_content ≡ content → content ≡ true → later ≡ Some name
  pending_is true e is = ap (λ b. pending_by b name pending) e
  pending_is false e is = absurd cc

  type_of_told : (thing wanted : CTy) (defines : Bool) → thing ≡ wanted → IsToldAs told name External (λ one. (one.type ≡ thing) × (one.does ≡ does_by defines))
      → IsToldAs told name External (λ one. (one.type ≡ wanted) × (is_declaring one.does ≡ true))
  type_of_told thing wanted defines same was = record {
    index = was.index;
    one = was.one;
    at = was.at;
    name_is = was.name_is;
    linkage_is = was.linkage_is;
    says = (was.says.0 ∙ same, ap is_declaring was.says.1 ∙ declaring_is defines);
  }

  does_of_told : (thing : CTy) (defines wanted : Bool) → defines ≡ wanted → IsToldAs told name External (λ one. (one.type ≡ thing) × (one.does ≡ does_by defines)) → IsToldAs told name External (λ one. one.does ≡ does_by wanted)
  does_of_told thing defines wanted same was = record {
    index = was.index;
    one = was.one;
    at = was.at;
    name_is = was.name_is;
    linkage_is = was.linkage_is;
    says = was.says.1 ∙ ap does_by same;
  }

  -- ---- for the first time

  module _ (none : thing_named name few.things ≡ None) (new : CObject) (next : new.object ≡ few.next_object) (here : new.unit ≡ few.unit) (named : new.name ≡ Some name) (new_type : new.type ≡ type)
      (new_linkage : new.linkage ≡ linkage) (no_puts : new.puts ≡ None) (no_text : new.is_text ≡ false) (defines : Bool) (does_is : defines ≡ (has_content || is_some tentative))
      (internal : linkage ≡ Internal → (has_content || is_some tentative) ≡ true) (now : IsToldNow few.mentions told name linkage type defines) where
    abbrev thing : CThing
    thing = new_thing name linkage false few.next_object type has_content tentative

    abbrev many : CAccount
    many = declared_account few (few.next_object + 1) few.next_function told (few.objects ++ new ∷ []) (few.things ++ thing ∷ [])

    found_new : thing_named name (few.things ++ thing ∷ []) ≡ Some thing
    found_new = found_last name few.things thing none ((bytes_eq-Decides name name).1 refl)

    new_known : IsKnownObject opens many new
    new_known = record {
      here = here;
      known = subst (IsKnownType opens few.types few.unit) (sym new_type) known;
      object = subst (λ l. IsDeclaredForm l (form_of_type new.type)) (sym new_linkage) (subst (λ t. IsDeclaredForm linkage (form_of_type t)) (sym new_type) form);
      no_text = no_text;
      named = λ is. record { name = name; named = named; thing = thing; there = found_new; number_is = sym next; object_is = refl };
    }

    known_by : (index : ℕ) (one : CObject) → (slice_get few.objects index ≡ Some one) ⊎ ((index ≡ length few.objects) × (new ≡ one)) → (slice_get few.objects index ≡ Some one) ⊎ IsKnownObject opens many one
    known_by index one (inl at) = inl at
    known_by index one (inr at) = inr (subst (IsKnownObject opens many) at.1 new_known)

    no_value : is_some new.puts ≡ true → ⊥
    no_value is = let h : false ≡ true = ap is_some (sym no_puts) ∙ is in cc

    own : IsObjectThing opens later many name thing
    own = record {
      index = length few.objects;
      one = new;
      at = pushed_at few.objects new;
      number_is = next;
      linkage_is = new_linkage;
      named = named;
      type_is = λ is. new_type;
      fills = subst (λ t. Fills opens few.types t type) (sym new_type) (fills_itself opens few.types few.unit type);
      defined = λ is. absurd (no_value is);
      filled = λ apart is. absurd (apart (pending_is has_content refl is));
      internal = internal;
      type_told = λ external. type_of_told type new.type defines (sym new_type) (now.says external);
      does_told = λ external. does_of_told type defines (has_content || is_some tentative) does_is (now.says external);
    }

    open_by : (content : Bool) (other : List ℕ) → pending_by content name pending ≡ Some other → (index : ℕ) (one : CFun) → slice_get few.functions index ≡ Some one → one.name ≡ other → ⊥
    open_by true other is index one at same =
        let fun = held.functions index one at in
        let h : None ≡ Some fun.thing = sym none ∙ (ap (λ n. thing_named n few.things) (same_value is ∙ sym same) ∙ fun.there) in cc
    open_by false other is index one at same = held.awaited other is index one at same

    pub new_object_accounted : IsAccounted opens later many
    new_object_accounted =
        thing_accounted opens pending later few (few.next_object + 1) few.next_function told (few.objects ++ new ∷ []) (few.things ++ thing ∷ []) held name thing (one_more_declared few.things held.listed thing none) (record {
          told = λ number one is other. now.more number one is;
          more_functions = omega arith;
          numbered = one_more_numbered few.objects few.literals few.next_object (numbered_of opens pending few held) new next;
          stays = λ index one at apart. kept_before few.objects (new ∷ []) index one at;
          known = λ index one at. known_by index one (got_last few.objects new index one at);
          looser = λ other apart is. looser_by has_content name pending alone other is;
          awaited = open_by has_content;
          own_object = λ is. own;
          own_function = λ is. absurd cc;
          apart = λ is. absurd cc;
        })

  -- ---- once more

  module _ (old : CThing) (there : thing_named name few.things ≡ Some old) (old_name : old.name ≡ name) (object : old.is_function ≡ false) (goes : GoesWith few.types type linkage old)
      (old_known : IsKnownType opens few.types few.unit old.type) (defines : Bool) (does_is : defines ≡ (has_content || is_some tentative))
      (now : IsToldNow few.mentions told name linkage (composite type old.type) defines) where
    abbrev again : CThing
    again = declared_again type has_content tentative old

    abbrev retyped : CObject → CObject
    retyped one = record one { type = if old.is_defined then one.type else composite type old.type }

    abbrev change_one : CObject → CObject
    change_one one = if one.object == old.number then retyped one else one

    abbrev many_again : CAccount
    many_again = declared_account few few.next_object few.next_function told (map change_one few.objects) (set_thing name again few.things)

    was : IsObjectThing opens pending few name old
    was = held.object_things name old there object

    number_kept : (one : CObject) (same : Bool) → (if same then retyped one else one).object ≡ one.object
    number_kept one true = refl
    number_kept one false = refl

    stays_by : (index : ℕ) (one : CObject) (same : Bool) → (one.object == old.number) ≡ same → slice_get few.objects index ≡ Some one → (one.name ≡ Some name → ⊥) → slice_get (map change_one few.objects) index ≡ Some one
    stays_by index one true e at apart =
        let same : index ≡ was.index = held.objects_differ index was.index one was.one at was.at (number_is one.object old.number e ∙ sym was.number_is) in
        let is : Some one ≡ Some was.one = sym at ∙ (ap (slice_get few.objects) same ∙ was.at) in
        absurd (apart (ap (λ (x : CObject). x.name) (same_value is) ∙ was.named))
    stays_by index one false e at apart = mapped_at change_one few.objects index one at ∙ ap (λ b. Some (if b then retyped one else one)) e

    itself : (one other : ℕ) → one ≡ other → (one == other) ≡ true
    itself one other same = grind (arith, nat_tests)

    again_known : IsKnownType opens few.types few.unit (composite type old.type)
    again_known = composite_known opens few.types few.unit type old.type known old_known goes.agrees

    or_some : (old_line new_line : Option ℕ) → is_some old_line ≡ true → is_some (or_line old_line new_line) ≡ true
    or_some None new_line is = absurd cc
    or_some (Some line) new_line is = refl

    or_left : (a b : Bool) → a ≡ true → (a || b) ≡ true
    or_left true b is = refl
    or_left false b is = absurd cc

    more_defined : (content defined : Bool) (line : Option ℕ) → (defined || is_some line) ≡ true → ((content || defined) || is_some (or_line line tentative)) ≡ true
    more_defined content true line is = or_left (content || true) _ (or_right content true refl)
    more_defined content false line is = or_right (content || false) _ (or_some line tentative is)

    does_now : (content defined : Bool) (line : Option ℕ) → IsToldAs few.mentions name External (λ one. one.does ≡ does_by (defined || is_some line))
        → IsToldAs told name External (λ one. one.does ≡ does_by (content || is_some tentative)) → IsToldAs told name External (λ one. one.does ≡ does_by ((content || defined) || is_some (or_line line tentative)))
    does_now content true line before behind =
        subst (λ b. IsToldAs told name External (λ one. one.does ≡ does_by b)) (sym (more_defined content true line refl)) (told_later few.mentions told now.more name External (λ one. one.does ≡ does_by true) before)
    does_now content false (Some line) before behind =
        subst (λ b. IsToldAs told name External (λ one. one.does ≡ does_by b)) (sym (more_defined content false (Some line) refl))
        (told_later few.mentions told now.more name External (λ one. one.does ≡ does_by true) before)
    does_now true false None before behind = behind
    does_now false false None before behind = behind

    filled_by : (content : Bool) → has_content ≡ content → (later ≡ Some name → ⊥) → (content || old.is_defined) ≡ true → is_some was.one.puts ≡ true
    filled_by true e apart is = absurd (apart (ap (λ b. pending_by b name pending) e))
    filled_by false e apart is = was.filled (λ waits. apart (ap (λ b. pending_by b name pending) e ∙ waits)) is

    -- one that is defined keeps its type, and the later declaration says no less
    type_of_undefined : (content defined : Bool) → (content || defined) ≡ false → (if defined then was.one.type else composite type old.type) ≡ composite type old.type
    type_of_undefined true defined is = absurd cc
    type_of_undefined false true is = absurd cc
    type_of_undefined false false is = refl

    fills_by : (defined : Bool) → Fills opens few.types (if defined then was.one.type else composite type old.type) (composite type old.type)
    fills_by true =
        fills_through opens few.types few.unit was.one.type old.type (composite type old.type) was.fills (fills_second opens few.types few.unit type old.type known old_known goes.agrees)
    fills_by false = fills_itself opens few.types few.unit (composite type old.type)

    type_now : (defined : Bool) → IsToldAs few.mentions name External (λ mention. (mention.type ≡ was.one.type) × (is_declaring mention.does ≡ true))
        → IsToldAs told name External (λ mention. (mention.type ≡ composite type old.type) × (mention.does ≡ does_by defines))
        → IsToldAs told name External (λ mention. (mention.type ≡ (if defined then was.one.type else composite type old.type)) × (is_declaring mention.does ≡ true))
    type_now true before behind = told_later few.mentions told now.more name External (λ mention. (mention.type ≡ was.one.type) × (is_declaring mention.does ≡ true)) before
    type_now false before behind = type_of_told (composite type old.type) (composite type old.type) defines refl behind

    own_again : IsObjectThing opens later many_again name again
    own_again = record {
      index = was.index;
      one = retyped was.one;
      at = mapped_at change_one few.objects was.index was.one was.at ∙ ap (λ b. Some (if b then retyped was.one else was.one)) (itself was.one.object old.number was.number_is);
      number_is = was.number_is;
      linkage_is = was.linkage_is;
      named = was.named;
      type_is = λ is. type_of_undefined has_content old.is_defined is;
      fills = fills_by old.is_defined;
      defined = λ is. or_right has_content old.is_defined (was.defined is);
      filled = λ apart is. filled_by has_content refl apart is;
      internal = λ is. more_defined has_content old.is_defined old.tentative (was.internal is);
      type_told = λ external. type_now old.is_defined (was.type_told external) (now.says (sym goes.linkage_is ∙ external));
      does_told = λ external.
          does_now has_content old.is_defined old.tentative (was.does_told external)
          (does_of_told (composite type old.type) defines (has_content || is_some tentative) does_is (now.says (sym goes.linkage_is ∙ external)));
    }

    declared_so : AreDeclared few.things (set_thing name again few.things) name again
    declared_so = set_declared few.things held.listed name old again there old_name refl refl (λ is. or_right has_content old.is_defined is)

    known_by_state : (defined : Bool) (before : CTy) → IsKnownType opens few.types few.unit before → IsKnownType opens few.types few.unit (if defined then before else composite type old.type)
    known_by_state true before held = held
    known_by_state false before held = again_known

    form_by_state : (defined : Bool) (one_linkage : Linkage) → one_linkage ≡ linkage → (before : CTy) → IsDeclaredForm one_linkage (form_of_type before)
        → IsDeclaredForm one_linkage (form_of_type (if defined then before else composite type old.type))
    form_by_state true one_linkage is before held = held
    form_by_state false one_linkage is before held = subst (λ l. IsDeclaredForm l (form_of_type (composite type old.type))) (sym is) (object_composite linkage type old.type form)

    same_linkage : (index : ℕ) (one : CObject) → (one.object == old.number) ≡ true → slice_get few.objects index ≡ Some one → one.linkage ≡ linkage
    same_linkage index one e at =
        let same : index ≡ was.index = held.objects_differ index was.index one was.one at was.at (number_is one.object old.number e ∙ sym was.number_is) in
        let is : Some one ≡ Some was.one = sym at ∙ (ap (slice_get few.objects) same ∙ was.at) in
        ap (λ (x : CObject). x.linkage) (same_value is) ∙ (was.linkage_is ∙ goes.linkage_is)

    known_again : (index : ℕ) (before one : CObject) (same : Bool) → (before.object == old.number) ≡ same → slice_get few.objects index ≡ Some before → (if same then retyped before else before) ≡ one
        → (slice_get few.objects index ≡ Some one) ⊎ IsKnownObject opens many_again one
    known_again index before one true e at is =
        let known_before = held.objects index before at in
        inr (subst (IsKnownObject opens many_again) is (record {
          here = known_before.here;
          known = known_by_state old.is_defined before.type known_before.known;
          object = form_by_state old.is_defined before.linkage (same_linkage index before e at) before.type known_before.object;
          no_text = known_before.no_text;
          named = λ is_linked. named_onward few.things (set_thing name again few.things) name again declared_so (retyped before) (named_retyped before (known_before.named is_linked));
        }))
      where
        named_retyped : (before : CObject) → IsObjectNamed few.things before → IsObjectNamed few.things (retyped before)
        named_retyped before held = record { name = held.name; named = held.named; thing = held.thing; there = held.there; number_is = held.number_is; object_is = held.object_is }
    known_again index before one false e at is = inl (at ∙ ap (λ x. Some x) is)

    open_again : (content : Bool) (other : List ℕ) → pending_by content name pending ≡ Some other → (index : ℕ) (one : CFun) → slice_get few.functions index ≡ Some one → one.name ≡ other → ⊥
    open_again true other is index one at same =
        let fun = held.functions index one at in
        let found : Some old ≡ Some fun.thing = sym there ∙ (ap (λ n. thing_named n few.things) (same_value is ∙ sym same) ∙ fun.there) in
        let h : true ≡ false = sym fun.function_is ∙ (ap (λ (x : CThing). x.is_function) (sym (same_value found)) ∙ object) in cc
    open_again false other is index one at same = held.awaited other is index one at same

    pub object_again_accounted : IsAccounted opens later many_again
    object_again_accounted =
        thing_accounted opens pending later few few.next_object few.next_function told (map change_one few.objects) (set_thing name again few.things) held name again declared_so (record {
          told = λ number one is other. now.more number one is;
          more_functions = omega arith;
          numbered = changed_numbered few.objects few.literals few.next_object (numbered_of opens pending few held) change_one (λ one. number_kept one (one.object == old.number));
          stays = λ index one at apart. stays_by index one (one.object == old.number) refl at apart;
          known = λ index one at.
              let before = got_mapped change_one few.objects index one at in
              known_again index before.0 one (before.0.object == old.number) refl before.1 before.2;
          looser = λ other apart is. looser_by has_content name pending alone other is;
          awaited = open_again has_content;
          own_object = λ is. own_again;
          own_function = λ is. absurd (let h : true ≡ false = sym is ∙ object in cc);
          apart = λ is. absurd (let h : true ≡ false = sym is ∙ object in cc);
        })
