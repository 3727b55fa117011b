-- Names of objects and their index.
use Rattle.std.proofs.Common.{◌≡◌, ℕ, suc, Bool, true, false, ◌||◌, if◌then◌else◌, List, [], ◌∷◌, ◌++◌, length, Option, Some, None, option_map, refl, sym, ap, ◌∙◌}
use Rattle.std.proofs.lemmas.Cmp.{nat_list_eq_equiv}
use Rattle.std.proofs.lemmas.Slice.Eq.{bytes_eq-Decides}
use Rattle.std.specs.Global.{Vec}
use Rattle.std.specs.HashMap.{HashMap, Updates}
use Rattle.std.specs.List.{list_any}
use Rattle.std.specs.Map.{lookup, IsKeyTest, AreApart, KeepsOthers}
use Rattle.std.specs.Prelude.{bytes_eq, is_some}
use Rattle.straight_decl.specs.CoreOf.{object_named}
use Rattle.straight_decl.specs.ObjectNames.{indexed, IsIndexed, or_new, HasFirst}

-- ---- an index

module _ {K : Type 0} (eq : K → K → Bool) (test : K → Bool) where
  other_entries : {X : Type 0} (old new : List (K × X)) → KeepsOthers eq test old new → (other : K → Bool) → IsKeyTest eq other → AreApart test other → lookup other new ≡ lookup other old
  unfolding KeepsOthers
  other_entries old new h = h

apart : (bs cs ks : List ℕ) → bytes_eq bs cs ≡ false → bytes_eq bs ks ≡ true → bytes_eq cs ks ≡ false
apart bs cs ks n y = nat_list_eq_equiv.symm cs ks ∙ sym (nat_list_eq_equiv.congr bs ks cs y) ∙ n

absent : (held : Option ℕ) → is_some held ≡ false → held ≡ None
absent None e = refl
absent (Some number) e = cc

put_new : (held : Option ℕ) (same : Bool) (number : ℕ) → (same ≡ true → held ≡ None) → (if same then Some number else held) ≡ or_new held same number
put_new (Some other) true number none = cc (none refl)
put_new (Some other) false number none = refl
put_new None true number none = refl
put_new None false number none = refl

module _ {S : Type 0} (old new : HashMap (Vec ℕ) ℕ S) where
  puts : (key : Vec ℕ) (value : ℕ) → Updates (λ (x y : Vec ℕ). bytes_eq x.items y.items) old new key (Some value)
      → (name : List ℕ) → indexed new name ≡ if bytes_eq key.items name then Some value else indexed old name
  puts key value h name = puts_by (bytes_eq key.items name) refl where
    puts_by : (test : Bool) → bytes_eq key.items name ≡ test → indexed new name ≡ if test then Some value else indexed old name
    puts_by true y = ap (λ (bs : List ℕ). indexed new bs) (sym ((bytes_eq-Decides key.items name).0 y)) ∙ h.1
    puts_by false n = other_entries _ _ _ _ h.3 _ (λ x y. nat_list_eq_equiv.congr name x.items y.items) (λ k. apart key.items name k.items n)

  -- a name that isn't in the index is put there
  pub noted : (key : Vec ℕ) (name : List ℕ) (number : ℕ) → key.items ≡ name → is_some (indexed old name) ≡ false
      → Updates (λ (x y : Vec ℕ). bytes_eq x.items y.items) old new key (Some number) → HasFirst old new name number
  noted key name number is none h other =
      puts key number h other
      ∙ ap (λ bs. if bytes_eq bs other then Some number else indexed old other) is
      ∙ put_new (indexed old other) (bytes_eq name other) number
      (λ same. ap (λ (bs : List ℕ). indexed old bs) (sym ((bytes_eq-Decides name other).0 same)) ∙ absent (indexed old name) none)

-- ---- numbers

raised : (held : Option ℕ) (same : Bool) (number : ℕ) → or_new (option_map suc held) same (suc number) ≡ option_map suc (or_new held same number)
raised (Some other) same number = refl
raised None true number = refl
raised None false number = refl

first_or_new : (here : Bool) (held found : Option ℕ) (same : Bool) (number : ℕ) → or_new held same number ≡ found
    → or_new (if here then Some 0 else option_map suc held) same (suc number) ≡ if here then Some 0 else option_map suc found
first_or_new true held found same number e = refl
first_or_new false held found same number e = raised held same number ∙ ap (λ o. option_map suc o) e

last : (same : Bool) → or_new None same 0 ≡ if same then Some 0 else None
last true = refl
last false = refl

-- one more name at the end
snoc : (other name : List ℕ) (objects : List (List ℕ)) → or_new (object_named other objects) (bytes_eq name other) (length objects) ≡ object_named other (objects ++ name ∷ [])
snoc other name [] = last (bytes_eq name other)
snoc other name (first ∷ others) =
    first_or_new (bytes_eq first other) (object_named other others) (object_named other (others ++ name ∷ [])) (bytes_eq name other) (length others) (snoc other name others)

pub grown : {S : Type 0} (old new : HashMap (Vec ℕ) ℕ S) (objects more : List (List ℕ)) (name : List ℕ) (number : ℕ) → IsIndexed old objects → number ≡ length objects
    → HasFirst old new name number → more ≡ objects ++ name ∷ [] → IsIndexed new more
grown old new objects more name number is counts put behind other =
    put other
    ∙ ap (λ held. or_new held (bytes_eq name other) number) (is other)
    ∙ ap (λ n. or_new (object_named other objects) (bytes_eq name other) n) counts
    ∙ snoc other name objects
    ∙ ap (λ all. object_named other all) (sym behind)

-- ---- whether there is one

any_by : (here : Bool) (found : Option ℕ) (any : Bool) → is_some found ≡ any → is_some (if here then Some 0 else option_map suc found) ≡ (here || any)
any_by true found any e = refl
any_by false None any e = e
any_by false (Some number) any e = e

pub is_named : (name : List ℕ) (objects : List (List ℕ)) → is_some (object_named name objects) ≡ list_any (λ other. bytes_eq other name) objects
is_named name [] = refl
is_named name (first ∷ others) = any_by (bytes_eq first name) (object_named name others) (list_any (λ other. bytes_eq other name) others) (is_named name others)
