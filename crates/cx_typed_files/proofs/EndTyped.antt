-- A unit is typed at its end (ISO C99, 6.9).
use Rattle.std.proofs.Common.{◌≡◌, ℕ, Bool, true, false, not, ◌&&◌, if◌then◌else◌, List, [], ◌∷◌, map, Option, None, Some, is_some, is_none, slice_get, refl, sym, ap, ◌∙◌, subst}
use Rattle.std.specs.Prelude.{IfSome, nat_le}
use Rattle.cx_core.specs.declared.program.Linkage.{Linkage}
use Rattle.cx_core.specs.declared.program.Linkage.TheVariants.{External, Internal, Nothing}
use Rattle.cx_core.specs.Linked.{home_of, IsStatic, IsTypedObject, has_linkage, is_external, program_of, IsDeclaredForm}
use Rattle.cx_core.specs.Trees.{CTy, ty, void, basic, enum_type, pointer, array, record_type, function, form_of_type, CPuts, no_puts, CObject, CProgram, CMention}
use Rattle.cx_core.specs.ValidTypes.{IsTypeIn}
use Rattle.cx_rules.specs.Declare.{is_linked, thing_named}
use Rattle.cx_rules.specs.Scope.{CThing, CScope}
use Rattle.cx_rules.specs.Types.{is_function}
use Rattle.cx_rules.specs.UnitWalk.{tentative_line, put_by_line, tentative_things}
use Rattle.cx_typed.proofs.Stays.{together}
use Rattle.cx_typed_files.proofs.EndComplete.{IsLookedAt, final_complete, final_in}
use Rattle.cx_typed_files.proofs.EndHeld.{end_home, end_holds}
use Rattle.cx_typed_files.proofs.EndLists.{Each, each_among, find_passes}
use Rattle.cx_typed_files.proofs.EndObjects.{one_element, final_with, was}
use Rattle.cx_typed_files.proofs.UnitEnd.{final_mention, unit_at}
use Rattle.cx_typed_files.specs.FileScope.{IsAtFileScope}
use Rattle.cx_typed_units.specs.Account.{account_of, IsAccounted}
use Rattle.cx_typed_units.specs.Stretches.{AreTypedThere}

same_value : {X : Type 0} {x y : X} → Some x ≡ Some y → x ≡ y
same_value is = cc

pub has_or_not : (linkage : Linkage) → has_linkage linkage ≡ is_linked linkage
has_or_not External = refl
has_or_not Internal = refl
has_or_not Nothing = refl

pub no_linkage : (linkage : Linkage) → is_linked linkage ≡ false → linkage ≡ Nothing
no_linkage External is = absurd cc
no_linkage Internal is = absurd cc
no_linkage Nothing is = refl

pub external_is : (linkage : Linkage) → is_external linkage ≡ true → linkage ≡ External
external_is External is = refl
external_is Internal is = absurd cc
external_is Nothing is = absurd cc

-- what each has of those that one was put among, it has and the others have
each_put : (P : CThing → Type 0) (one : CThing) (things : List CThing) → Each P (put_by_line one things) → P one × Each P things
each_put P one [] held = held
each_put P one (first ∷ others) held = by_test (nat_le (tentative_line one) (tentative_line first)) held (λ rest. each_put P one others rest)
  where
    by_test : (b : Bool) → Each P (if b then one ∷ first ∷ others else first ∷ put_by_line one others)
        → (Each P (put_by_line one others) → P one × Each P others) → P one × (P first × Each P others)
    by_test true held rest = held
    by_test false held rest = let got = rest held.1 in (got.0, (held.0, got.1))

-- what each tentative definition of a list has, each thing of it has that is one
pub each_tentative : (P : CThing → Type 0) (things : List CThing) → Each P (tentative_things things) → Each (λ one. (is_some one.tentative && not one.is_defined) ≡ true → P one) things
each_tentative P [] held = tt
each_tentative P (one ∷ others) held = by_test (is_some one.tentative && not one.is_defined) refl held (λ rest. each_tentative P others rest)
  where
    by_test : (b : Bool) → (is_some one.tentative && not one.is_defined) ≡ b → Each P (if b then put_by_line one (tentative_things others) else tentative_things others)
        → (Each P (tentative_things others) → Each (λ one. (is_some one.tentative && not one.is_defined) ≡ true → P one) others)
        → ((is_some one.tentative && not one.is_defined) ≡ true → P one) × Each (λ one. (is_some one.tentative && not one.is_defined) ≡ true → P one) others
    by_test true e held rest = let got = each_put P one (tentative_things others) held in (λ is. got.0, rest got.1)
    by_test false e held rest = (λ is. absurd (let h : false ≡ true = sym e ∙ is in cc), rest held)

element_form : (linkage : Linkage) (type : CTy) → IsDeclaredForm linkage (form_of_type type) → IsDeclaredForm linkage (form_of_type (one_element type))
element_form linkage (ty (array element None) is_const) held = held
element_form linkage (ty (array element (Some count)) is_const) held = held
element_form linkage (ty void is_const) held = held
element_form linkage (ty (basic which) is_const) held = held
element_form linkage (ty (enum_type number) is_const) held = held
element_form linkage (ty (pointer to) is_const) held = held
element_form linkage (ty (record_type number) is_const) held = held
element_form linkage (ty (function result params variadic) is_const) held = held

module _ (scope : CScope) (at : IsAtFileScope [] scope) (looked : Each (IsLookedAt scope) (tentative_things scope.things)) where
  held : IsAccounted [] None (account_of scope)
  held = at.accounted

  abbrev program : CProgram
  program = program_of (unit_at scope)

  abbrev mentions : List CMention
  mentions = map (final_mention scope.things) scope.mentions

  pub typed : AreTypedThere (end_home scope) scope
  typed = at.typed (end_home scope) (end_holds scope at)

  -- ---- objects

  -- one that nothing changes at the end
  pub same_typed : (place : ℕ) (one : CObject) → slice_get scope.objects place ≡ Some one → IsTypedObject program (Some mentions) one
  same_typed place one here =
      let known = held.objects place one here in
      record {
        type_in = subst (λ unit. IsTypeIn scope.types unit one.type) (sym known.here) known.known.type_in;
        object = known.object;
        named = λ linked. ap is_some (known.named (sym (has_or_not one.linkage) ∙ linked)).named;
        text = λ is_text. absurd (let h : true ≡ false = sym is_text ∙ known.no_text in cc);
        static = subst (λ unit. IfSome one.puts (IsStatic (home_of program (Some mentions) unit) one.type)) (sym known.here) (typed.objects place one here);
      }

  module _ (name : List ℕ) (thing : CThing) (there : thing_named name scope.things ≡ Some thing) (object : thing.is_function ≡ false) where
    abbrev own : CObject
    own = (was scope at name thing there object).one

    own_here : slice_get scope.objects (was scope at name thing there object).index ≡ Some own
    own_here = (was scope at name thing there object).at

    thing_in : IsTypeIn scope.types scope.unit thing.type
    thing_in = (at.orderly.things name thing there).known.type_in

    looked_at : (is_some thing.tentative && not thing.is_defined) ≡ true → IsLookedAt scope thing
    looked_at is = each_among (λ one. (is_some one.tentative && not one.is_defined) ≡ true → IsLookedAt scope one) scope.things thing (each_tentative (IsLookedAt scope) scope.things looked) (find_passes _ scope.things thing there).0 is

    nothing_stored : thing.is_defined ≡ false → (puts : Option CPuts) → own.puts ≡ puts → puts ≡ None
    nothing_stored d None e = refl
    nothing_stored d (Some puts) e = absurd (let h : false ≡ true = sym d ∙ (was scope at name thing there object).defined (ap is_some e) in cc)

    -- one that nothing defines; with a tentative definition it is filled with nothing
    undefined_typed : thing.is_defined ≡ false → (tentative : Bool) → is_some thing.tentative ≡ tentative
        → IsTypedObject program (Some mentions) (record own { type = if tentative && not thing.is_defined then one_element thing.type else thing.type; puts = if tentative && is_none own.puts then Some no_puts else own.puts })
    undefined_typed d true t =
        let known = held.objects (was scope at name thing there object).index own own_here in
        let asked : (is_some thing.tentative && not thing.is_defined) ≡ true = together t (ap not d) in
        let no_code : is_function thing.type ≡ false = (at.orderly.things name thing there).function_is ∙ object in
        let complete = final_complete scope.types scope.unit thing.type thing_in no_code (looked_at asked).k5 in
        let empty : own.puts ≡ None = nothing_stored d own.puts refl in
        subst (λ b. IsTypedObject program (Some mentions) (record own { type = if not b then one_element thing.type else thing.type; puts = if is_none own.puts then Some no_puts else own.puts })) (sym d)
        (subst (λ puts. IsTypedObject program (Some mentions) (record own { type = one_element thing.type; puts = if is_none puts then Some no_puts else puts })) (sym empty) (record {
          type_in = subst (λ unit. IsTypeIn scope.types unit (one_element thing.type)) (sym known.here) (final_in scope.types scope.unit thing.type thing_in complete);
          object = element_form own.linkage thing.type (subst (λ t. IsDeclaredForm own.linkage (form_of_type t)) ((was scope at name thing there object).type_is d) known.object);
          named = λ linked. ap is_some (was scope at name thing there object).named;
          text = λ is_text. absurd (let h : true ≡ false = sym is_text ∙ known.no_text in cc);
          static = record { complete = complete; typed = (tt, tt); constant = tt };
        }))
    undefined_typed d false t =
        let known = held.objects (was scope at name thing there object).index own own_here in
        subst (λ type. IsTypedObject program (Some mentions) (record own { type = type; puts = own.puts })) ((was scope at name thing there object).type_is d)
        (same_typed (was scope at name thing there object).index own own_here)

    pub final_typed : (is_defined : Bool) → thing.is_defined ≡ is_defined → IsTypedObject program (Some mentions) (final_with is_defined thing own)
    final_typed true d = same_typed (was scope at name thing there object).index own own_here
    final_typed false d = undefined_typed d (is_some thing.tentative) refl
