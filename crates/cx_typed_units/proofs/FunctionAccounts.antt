-- What a unit keeps account of stays right where a function is declared (ISO C99, 6.2.2, 6.2.7p4).
use Rattle.std.proofs.Common.{◌≡◌, inl, ℕ, ◌+◌, ◌<◌, Bool, true, false, ◌||◌, List, [], ◌∷◌, ◌++◌, length, Option, None, Some, slice_get, refl, sym, ap, ◌∙◌, subst, arith}
use Rattle.cx_core.specs.declared.program.Linkage.{Linkage}
use Rattle.cx_core.specs.Trees.{CTy, CFun, declares, CMention}
use Rattle.cx_rules.specs.Declare.{thing_named}
use Rattle.cx_rules.specs.Scope.{CThing}
use Rattle.cx_typed.proofs.Scopes.{kept_before, pushed_at}
use Rattle.cx_typed.specs.Operands.{IsKnownType}
use Rattle.cx_typed_units.proofs.Entities.{declared_again, new_thing, GoesWith}
use Rattle.cx_typed_units.proofs.Joins.{fills_second, fills_through}
use Rattle.cx_typed_units.proofs.Named.{set_thing}
use Rattle.cx_typed_units.proofs.ObjectNumbers.{numbered_of}
use Rattle.cx_typed_units.proofs.ThingAccounts.{declared_account, thing_accounted}
use Rattle.cx_typed_units.proofs.ThingLists.{one_more_declared, set_declared}
use Rattle.cx_typed_units.specs.Account.{CAccount, IsToldAs, IsDefinedBy, IsFunctionThing, IsAccounted}

same_value : {X : Type 0} {x y : X} → Some x ≡ Some y → x ≡ y
same_value is = cc

pub or_false : (a b : Bool) → (a || b) ≡ false → (a ≡ false) × (b ≡ false)
or_false true b is = absurd cc
or_false false b is = (refl, is)

-- what is pending behind it: the function, where its body follows
abbrev pub pending_by : Bool → List ℕ → Option (List ℕ) → Option (List ℕ)
pending_by true name pending = Some name
pending_by false name pending = pending

pub looser_by : (has_content : Bool) (name : List ℕ) (pending : Option (List ℕ)) → (has_content ≡ true → pending ≡ None) → (other : List ℕ) → pending ≡ Some other → pending_by has_content name pending ≡ Some other
looser_by true name pending none other is = absurd (let h : None ≡ Some other = sym (none refl) ∙ is in cc)
looser_by false name pending none other is = is

-- a mention behind those before
pub told_last : (mentions : List CMention) (one : CMention) (name : List ℕ) (linkage : Linkage) (Says : CMention → Type 0) → one.name ≡ name → one.linkage ≡ linkage → Says one → IsToldAs (mentions ++ one ∷ []) name linkage Says
told_last mentions one name linkage Says named linked says = record {
  index = length mentions;
  one = one;
  at = pushed_at mentions one;
  name_is = named;
  linkage_is = linked;
  says = says;
}

module _ (opens : List ℕ) (pending : Option (List ℕ)) (few : CAccount) (held : IsAccounted opens pending few) (name : List ℕ) (type : CTy) (known : IsKnownType opens few.types few.unit type) (linkage : Linkage)
    (has_body : Bool) (alone : has_body ≡ true → pending ≡ None) (mention : CMention) (named : mention.name ≡ name) (same_linkage : mention.linkage ≡ linkage) (says : has_body ≡ false → mention.does ≡ declares) where
  abbrev told : List CMention
  told = few.mentions ++ mention ∷ []

  abbrev later : Option (List ℕ)
  later = pending_by has_body name pending

  -- ---- for the first time

  module _ (none : thing_named name few.things ≡ None) (type_is : has_body ≡ false → mention.type ≡ type) where
    abbrev new : CThing
    new = new_thing name linkage true few.next_function type has_body None

    abbrev many : CAccount
    many = declared_account few few.next_object (few.next_function + 1) told few.objects (few.things ++ new ∷ [])

    open_by : (content : Bool) (other : List ℕ) → pending_by content name pending ≡ Some other → (index : ℕ) (one : CFun) → slice_get few.functions index ≡ Some one → one.name ≡ other → ⊥
    open_by true other is index one at same =
        let fun = held.functions index one at in
        let h : None ≡ Some fun.thing = sym none ∙ (ap (λ n. thing_named n few.things) (same_value is ∙ sym same) ∙ fun.there) in cc
    open_by false other is index one at same = held.awaited other is index one at same

    own : (content : Bool) → has_body ≡ content → IsFunctionThing opens later many name new
    own true e = record {
      below = omega arith;
      undefined = λ is. absurd (let h : true ≡ false = sym e ∙ is in cc);
      defined = λ apart is. absurd (apart (ap (λ b. pending_by b name pending) e));
    }
    own false e = record {
      below = omega arith;
      undefined = λ is. told_last few.mentions mention name linkage _ named same_linkage (type_is e, says e);
      defined = λ apart is. absurd (let h : true ≡ false = sym is ∙ e in cc);
    }

    pub new_function_accounted : IsAccounted opens later many
    new_function_accounted =
        thing_accounted opens pending later few few.next_object (few.next_function + 1) told few.objects (few.things ++ new ∷ []) held name new (one_more_declared few.things held.listed new none) (record {
          told = λ number one is other. kept_before few.mentions (mention ∷ []) number one is;
          more_functions = omega arith;
          numbered = numbered_of opens pending few held;
          stays = λ index one at apart. at;
          known = λ index one at. inl at;
          looser = λ other apart is. looser_by has_body name pending alone other is;
          awaited = open_by has_body;
          own_object = λ is. absurd cc;
          own_function = λ is. own has_body refl;
          apart = λ is other was there function same.
              absurd (let h : was.number < few.next_function = (held.function_things other was there function).below in omega (arith, h, same));
        })

  -- ---- once more

  module _ (old : CThing) (there : thing_named name few.things ≡ Some old) (old_name : old.name ≡ name) (function : old.is_function ≡ true) (goes : GoesWith few.types type linkage old)
      (old_known : IsKnownType opens few.types few.unit old.type) (no_body : has_body ≡ true → old.is_defined ≡ false) where
    abbrev again : CThing
    again = declared_again type has_body None old

    abbrev many_again : CAccount
    many_again = declared_account few few.next_object few.next_function told few.objects (set_thing name again few.things)

    open_again : (content : Bool) → has_body ≡ content → (other : List ℕ) → pending_by content name pending ≡ Some other → (index : ℕ) (one : CFun) → slice_get few.functions index ≡ Some one → one.name ≡ other → ⊥
    open_again true e other is index one at same =
        let fun = held.functions index one at in
        let found : Some old ≡ Some fun.thing = sym there ∙ (ap (λ n. thing_named n few.things) (same_value is ∙ sym same) ∙ fun.there) in
        let h : true ≡ false = sym fun.defined ∙ (ap (λ (x : CThing). x.is_defined) (sym (same_value found)) ∙ no_body e) in cc
    open_again false e other is index one at same = held.awaited other is index one at same

    was : IsFunctionThing opens pending few name old
    was = held.function_things name old there function

    defined_again : IsDefinedBy opens few name old → IsDefinedBy opens many_again name again
    defined_again before = record {
      index = before.index;
      one = before.one;
      at = before.at;
      number_is = before.number_is;
      named = before.named;
      linkage_is = before.linkage_is;
      fills = fills_through opens few.types few.unit before.one.type old.type again.type before.fills (fills_second opens few.types few.unit type old.type known old_known goes.agrees);
    }

    own_again : (content : Bool) → has_body ≡ content → (content ≡ false → mention.type ≡ again.type) → IsFunctionThing opens later many_again name again
    own_again true e type_is = record {
      below = was.below;
      undefined = λ is. absurd (let h : true ≡ false = sym e ∙ (or_false has_body old.is_defined is).0 in cc);
      defined = λ apart is. absurd (apart (ap (λ b. pending_by b name pending) e));
    }
    own_again false e type_is = record {
      below = was.below;
      undefined = λ is. told_last few.mentions mention name old.linkage _ named (same_linkage ∙ sym goes.linkage_is) (type_is refl, says e);
      defined = λ apart is.
          defined_again (was.defined (λ waits. apart (ap (λ b. pending_by b name pending) e ∙ waits)) (subst (λ b. (b || old.is_defined) ≡ true) e is));
    }

    pub function_again_accounted : (has_body ≡ false → mention.type ≡ again.type) → IsAccounted opens later many_again
    function_again_accounted type_is =
        thing_accounted opens pending later few few.next_object few.next_function told few.objects (set_thing name again few.things) held name again
        (set_declared few.things held.listed name old again there old_name refl refl (λ is. or_true has_body old.is_defined is)) (record {
          told = λ number one is other. kept_before few.mentions (mention ∷ []) number one is;
          more_functions = omega arith;
          numbered = numbered_of opens pending few held;
          stays = λ index one at apart. at;
          known = λ index one at. inl at;
          looser = λ other apart is. looser_by has_body name pending alone other is;
          awaited = open_again has_body refl;
          own_object = λ is. absurd (let h : true ≡ false = sym function ∙ is in cc);
          own_function = λ is. own_again has_body refl type_is;
          apart = λ is other one at one_function same. held.functions_differ other name one old at there one_function function same;
        })
      where
        or_true : (a b : Bool) → b ≡ true → (a || b) ≡ true
        or_true true b is = refl
        or_true false b is = is
