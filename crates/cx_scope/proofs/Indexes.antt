-- Names and their index.
use Rattle.std.proofs.Common.{rules, ◌≡◌, ℕ, Bool, true, false, cond, if◌then◌else◌, List, [], ◌∷◌, map, Option, Some, None, Result, Ok, Err, OnOk, OnErr, IsSome, refl, sym, ap, ◌∙◌, subst}
use Rattle.std.proofs.lemmas.Bool.{cond-true}
use Rattle.std.proofs.lemmas.Cmp.{nat_list_eq_equiv}
use Rattle.std.proofs.lemmas.Slice.Eq.{bytes_eq-Decides}
use Rattle.std.specs.Global.{Vec}
use Rattle.std.specs.HashMap.{HashMap, Updates, IsUnchanged}
use Rattle.std.specs.Map.{lookup, IsKeyTest, AreApart, KeepsOthers}
use Rattle.std.specs.Option.{option_flatten}
use Rattle.std.specs.Prelude.{bytes_eq}
use Rattle.cx_scope.specs.NameIndex.{named, indexed, AreKept, IsIndexed}
use Rattle.cx_scope.specs.Names.{place_of}
use Rattle.cx_scope.specs.declared.names.Link.{Link}

-- ---- the index

module _ {K : Type 0} (eq : K → K → Bool) (test : K → Bool) where
  other_entries : {X : Type 0} (old new : List (K × X)) → KeepsOthers eq test old new → (other : K → Bool) → IsKeyTest eq other → AreApart test other → lookup other new ≡ lookup other old
  unfolding KeepsOthers
  other_entries old new h = h

apart : (bs cs ks : List ℕ) → bytes_eq bs cs ≡ false → bytes_eq bs ks ≡ true → bytes_eq cs ks ≡ false
apart bs cs ks n y = nat_list_eq_equiv.symm cs ks ∙ sym (nat_list_eq_equiv.congr bs ks cs y) ∙ n

none_is_some : (o : Option (Option ℕ)) → o ≡ None → IsSome o → ⊥
none_is_some None e some = cc
none_is_some (Some b) e some = cc

flattened : (test : Bool) (value : Option ℕ) (other : Option (Option ℕ)) → option_flatten (cond test (Some value) other) ≡ cond test value (option_flatten other)
flattened true value other = refl
flattened false value other = refl

chosen : (test : Bool) (value found other : Option ℕ) → found ≡ other → cond test value found ≡ (if test then value else other)
chosen true value found other e = refl
chosen false value found other e = e

module _ {S : Type 0} (old new : HashMap (Vec ℕ) (Option ℕ) S) where
  -- what an index holds after a value is put at a key
  abbrev pub Puts : List ℕ → Option ℕ → Type 0
  Puts key value = (name : List ℕ) → indexed new name ≡ cond (bytes_eq key name) (Some value) (indexed old name)

  pub puts : (key : Vec ℕ) (value : Option ℕ) → Updates (λ (x y : Vec ℕ). bytes_eq x.items y.items) old new key (Some value) → Puts key.items value
  puts key value h name = puts_by (bytes_eq key.items name) refl where
    puts_by : (test : Bool) → bytes_eq key.items name ≡ test → indexed new name ≡ cond test (Some value) (indexed old name)
    puts_by true y = ap (λ (bs : List ℕ). indexed new bs) (sym ((bytes_eq-Decides key.items name).0 y)) ∙ h.1
    puts_by false n = other_entries _ _ _ _ h.3 _ (λ x y. nat_list_eq_equiv.congr name x.items y.items) (λ k. apart key.items name k.items n)

  abbrev Finds : Vec ℕ → Option (Option ℕ)
  Finds key = indexed old key.items

  -- a value that is put at a key that is known, which never fails
  pub sure : {A E : Type 0} (key : Vec ℕ) (value : Option ℕ) (result : Result A E)
      → OnOk result (Updates (λ (x y : Vec ℕ). bytes_eq x.items y.items) old new key (Some value)) → OnErr result (Finds key ≡ None) → IsSome (Finds key)
      → Updates (λ (x y : Vec ℕ). bytes_eq x.items y.items) old new key (Some value)
  sure key value (Ok a) put absent some = put
  sure key value (Err e) put absent some = absurd (none_is_some (Finds key) absent some)

  kept_grows : ((name : List ℕ) → IsSome (indexed old name) → IsSome (indexed new name)) → (links : List Link) → AreKept old links → AreKept new links
  kept_grows grows [] kept = tt
  kept_grows grows (one ∷ older) kept = (kept.0, grows one.name.items kept.1, kept_grows grows older kept.2)

  puts_some : (key : List ℕ) (value : Option ℕ) → Puts key value → (name : List ℕ) → IsSome (indexed old name) → IsSome (indexed new name)
  puts_some key value h name some = subst IsSome (sym (h name)) (some_by (bytes_eq key name)) where
    some_by : (test : Bool) → IsSome (cond test (Some value) (indexed old name))
    some_by true = refl
    some_by false = some

  puts_here : (key : List ℕ) (value : Option ℕ) → Puts key value → IsSome (indexed new key)
  puts_here key value h = subst IsSome (sym (h key ∙ cond-true (bytes_eq key key) (Some value) (indexed old key) (nat_list_eq_equiv.refl key))) refl

  tells : (key : List ℕ) (value : Option ℕ) → Puts key value → (name : List ℕ) → option_flatten (indexed new name) ≡ cond (bytes_eq key name) value (option_flatten (indexed old name))
  tells key value h name = ap option_flatten (h name) ∙ flattened (bytes_eq key name) value (indexed old name)

  -- a name is added
  pub added : (links : List Link) (one : Link) → IsIndexed old links → one.older ≡ place_of one.name.items (map named links)
      → Puts one.name.items (Some one.place) → IsIndexed new (one ∷ links)
  added links one is older h = record {
    told = λ name. tells one.name.items (Some one.place) h name
        ∙ chosen (bytes_eq one.name.items name) (Some one.place) (option_flatten (indexed old name)) (place_of name (map named links)) (is.told name);
    kept = (older, puts_here one.name.items (Some one.place) h, kept_grows (puts_some one.name.items (Some one.place) h) links is.kept);
  }

  back : (links : List Link) (one : Link) (name : List ℕ) (found : Option ℕ) → one.older ≡ place_of one.name.items (map named links) → (test : Bool) → bytes_eq one.name.items name ≡ test
      → found ≡ (if test then Some one.place else place_of name (map named links)) → cond test one.older found ≡ place_of name (map named links)
  back links one name found older true y is = older ∙ ap (λ (bs : List ℕ). place_of bs (map named links)) ((bytes_eq-Decides one.name.items name).0 y)
  back links one name found older false n is = is

  -- the newest name is dropped
  pub dropped : (links : List Link) (one : Link) → IsIndexed old (one ∷ links) → Puts one.name.items one.older → IsIndexed new links
  dropped links one is h = record {
    told = λ name. tells one.name.items one.older h name
        ∙ back links one name (option_flatten (indexed old name)) is.kept.0 (bytes_eq one.name.items name) refl (is.told name);
    kept = kept_grows (puts_some one.name.items one.older h) links is.kept.2;
  }

  -- nothing changed
  pub stays : (links later : List Link) → later ≡ links → IsUnchanged old new → IsIndexed old links → IsIndexed new later
  stays links later same e is = subst (λ (ls : List Link). IsIndexed new ls) (sym same) (record {
    told = λ name. ap (λ (es : List (Vec ℕ × Option ℕ)). option_flatten (lookup (λ key. bytes_eq name key.items) es)) e ∙ is.told name;
    kept = kept_grows (λ name. subst (λ (es : List (Vec ℕ × Option ℕ)). IsSome (lookup (λ (key : Vec ℕ). bytes_eq name key.items) es)) (sym e)) links is.kept;
  })
