-- What a set of names holds once a name is taken, or a number is noted.
use Rattle.std.proofs.Common.{◌≡◌, ℕ, Bool, true, false, ◌||◌, if◌then◌else◌, List, [], ◌∷◌, ◌++◌, bytes_eq, unwrap_or, Option, Some, refl, sym, ap, ◌∙◌}
use Rattle.std.proofs.lemmas.Cmp.{nat_list_eq_equiv}
use Rattle.std.proofs.lemmas.Slice.Eq.{bytes_eq-Decides}
use Rattle.std.specs.Global.{Vec}
use Rattle.std.specs.HashMap.{HashMap, get_by, Updates}
use Rattle.std.specs.List.{list_any}
use Rattle.std.specs.Map.{lookup, IsKeyTest, AreApart, KeepsOthers}
use Rattle.rs_items_sets.specs.Sets.{names_in, passed_in}
use Rattle.rs_text.specs.Names.{is_among}

-- ---- numbers

module _ {K : Type 0} (eq : K → K → Bool) (test : K → Bool) where
  other_entries : {X : Type 0} (old new : List (K × X)) → KeepsOthers eq test old new → (other : K → Bool) → IsKeyTest eq other → AreApart test other → lookup other new ≡ lookup other old
  unfolding KeepsOthers
  other_entries old new h = h

apart : (bs cs ks : List ℕ) → bytes_eq bs cs ≡ false → bytes_eq bs ks ≡ true → bytes_eq cs ks ≡ false
apart bs cs ks n y = nat_list_eq_equiv.symm cs ks ∙ sym (nat_list_eq_equiv.congr bs ks cs y) ∙ n

module _ {S : Type 0} (old new : HashMap (Vec ℕ) ℕ S) where
  held : HashMap (Vec ℕ) ℕ S → List ℕ → Option ℕ
  held index name = get_by (λ key. bytes_eq name key.items) index

  puts_by : (key : Vec ℕ) (value : ℕ) → Updates (λ (x y : Vec ℕ). bytes_eq x.items y.items) old new key (Some value) → (name : List ℕ) → (test : Bool) → bytes_eq name key.items ≡ test
      → passed_in new name ≡ if test then value else passed_in old name
  puts_by key value h name true y = ap (λ (found : Option ℕ). unwrap_or found 0) (ap (λ (bs : List ℕ). get_by (λ one. bytes_eq bs one.items) new) ((bytes_eq-Decides name key.items).0 y) ∙ h.1)
  puts_by key value h name false n =
      let other : bytes_eq key.items name ≡ false = nat_list_eq_equiv.symm key.items name ∙ n in
      ap (λ (found : Option ℕ). unwrap_or found 0) (other_entries _ _ _ _ h.3 _ (λ x y. nat_list_eq_equiv.congr name x.items y.items) (λ k. apart key.items name k.items other))

  -- what is held of a name after a number is put at one
  pub puts : (key : Vec ℕ) (value : ℕ) → Updates (λ (x y : Vec ℕ). bytes_eq x.items y.items) old new key (Some value) → (name : List ℕ)
      → passed_in new name ≡ if bytes_eq name key.items then value else passed_in old name
  puts key value h name = puts_by key value h name (bytes_eq name key.items) refl

-- ---- names

pub any_name : (keys : List (Vec ℕ)) (name : List ℕ) → list_any (λ (key : Vec ℕ). bytes_eq name key.items) keys ≡ is_among (names_in keys) name
any_name [] name = refl
any_name (key ∷ keys) name =
    ap (λ t. t || list_any (λ (one : Vec ℕ). bytes_eq name one.items) keys) (nat_list_eq_equiv.symm name key.items) ∙ ap (λ t. bytes_eq key.items name || t) (any_name keys name)

names_behind : (keys : List (Vec ℕ)) (key : Vec ℕ) → names_in (keys ++ key ∷ []) ≡ names_in keys ++ key.items ∷ []
names_behind [] key = refl
names_behind (one ∷ keys) key = ap (λ names. one.items ∷ names) (names_behind keys key)

-- a name that isn't taken goes behind the others
pub taken_last : (keys : List (Vec ℕ)) (key : Vec ℕ) → is_among (names_in keys) key.items ≡ false
    → names_in (if list_any (λ (one : Vec ℕ). bytes_eq key.items one.items) keys then keys else keys ++ key ∷ []) ≡ names_in keys ++ key.items ∷ []
taken_last keys key free =
    ap (λ (t : Bool). names_in (if t then keys else keys ++ key ∷ [])) (any_name keys key.items ∙ free) ∙ names_behind keys key
