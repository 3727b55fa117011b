-- The names in scope and their index.
use Rattle.std.proofs.Common.{rules, ◌≡◌, ℕ, Bool, true, false, cond, List, [], ◌∷◌, ◌++◌, map, Option, Some, None, Result, Ok, Err, IfOk, OnOk, OnErr, unwrap_or, IsSome, refl, sym, ap, ◌∙◌, subst, append_assoc}
use Rattle.std.proofs.lemmas.List.{map-append, drop-map}
use Rattle.std.proofs.Math.Seq.{drop-cons}
use Rattle.std.specs.Prelude.{drop, suc, length, get_or, ◌<◌}
use Rattle.cx_cursor.specs.Scopes.{bound}
use Rattle.cx_cursor.specs.declared.scope.Bound.{Bound}
use Rattle.std.proofs.lemmas.Bool.{cases_Bool, cond-true, cond-false}
use Rattle.std.specs.Prelude.{bytes_eq}
use Rattle.std.specs.Global.{Vec}
use Rattle.std.specs.HashMap.{HashMap, get_by, Updates, IsUnchanged}
use Rattle.std.proofs.lemmas.Cmp.{nat_list_eq_equiv}
use Rattle.std.proofs.lemmas.Slice.Eq.{bytes_eq-Decides}
use Rattle.std.specs.Map.{lookup, IsKeyTest, AreApart, KeepsOthers}
use Rattle.cx_cursor.specs.Scopes.{binding, bindings, indexed, AreKept, IsIndexed}
use Rattle.cx_cursor.specs.declared.scope.Declared.{Declared}
use Rattle.cx_tree.specs.Names.{Binding, latest}

-- ---- the index

module _ {K : Type 0} (eq : K → K → Bool) (test : K → Bool) where
  other_entries : {X : Type 0} (old new : List (K × X)) → KeepsOthers eq test old new → (other : K → Bool) → IsKeyTest eq other → AreApart test other → lookup other new ≡ lookup other old
  unfolding KeepsOthers
  other_entries old new h = h

apart : (bs cs ks : List ℕ) → bytes_eq bs cs ≡ false → bytes_eq bs ks ≡ true → bytes_eq cs ks ≡ false
apart bs cs ks n y = nat_list_eq_equiv.symm cs ks ∙ sym (nat_list_eq_equiv.congr bs ks cs y) ∙ n

module _ {S : Type 0} (old new : HashMap (Vec ℕ) Bool S) where
  -- what an index holds after a value is put at a key
  abbrev pub Puts : List ℕ → Bool → Type 0
  Puts key value = (name : List ℕ) → indexed new name ≡ cond (bytes_eq key name) (Some value) (indexed old name)

  pub puts : (key : Vec ℕ) (value : Bool) → Updates (λ (x y : Vec ℕ). bytes_eq x.items y.items) old new key (Some value) → Puts key.items value
  puts key value h name = puts_by (bytes_eq key.items name) refl where
    puts_by : (test : Bool) → bytes_eq key.items name ≡ test → indexed new name ≡ cond test (Some value) (indexed old name)
    puts_by true y = ap (λ (bs : List ℕ). indexed new bs) (sym ((bytes_eq-Decides key.items name).0 y)) ∙ h.1
    puts_by false n = other_entries _ _ _ _ h.3 _ (λ x y. nat_list_eq_equiv.congr name x.items y.items) (λ k. apart key.items name k.items n)

none_is_some : (o : Option Bool) → o ≡ None → IsSome o → ⊥
none_is_some None e some = cc
none_is_some (Some b) e some = cc

-- ---- names

latest-append : (found : Bool) (xs ys : List Binding) (name : List ℕ) → latest found (xs ++ ys) name ≡ latest (latest found xs name) ys name
latest-append found [] ys name = refl
latest-append found (x ∷ xs) ys name = latest-append (cond (bytes_eq x.name name) x.is_type found) xs ys name

bindings-append : (xs ys : List Declared) → bindings (xs ++ ys) ≡ bindings xs ++ bindings ys
bindings-append [] ys = refl
bindings-append (x ∷ xs) ys = ap (λ (bs : List Binding). binding x.name.items x.is_type ∷ bs) (bindings-append xs ys)

latest_last : (xs : List Declared) (last : Declared) (name : List ℕ)
    → latest false (bindings (xs ++ last ∷ [])) name ≡ cond (bytes_eq last.name.items name) last.is_type (latest false (bindings xs) name)
latest_last xs last name =
    ap (λ (bs : List Binding). latest false bs name) (bindings-append xs (last ∷ []))
    ∙ latest-append false (bindings xs) (binding last.name.items last.is_type ∷ []) name

-- ---- what is kept of each declared name

module _ {S : Type 0} (index : HashMap (Vec ℕ) Bool S) where
  kept-append : (before : List Binding) (xs ys : List Declared) → AreKept index before xs → AreKept index (before ++ bindings xs) ys → AreKept index before (xs ++ ys)
  kept-append before [] ys kept more = subst (λ (bs : List Binding). AreKept index bs ys) (search rules) more
  kept-append before (x ∷ xs) ys kept more = (
    kept.0,
    kept.1,
    kept-append (before ++ binding x.name.items x.is_type ∷ []) xs ys kept.2
        (subst (λ (bs : List Binding). AreKept index bs ys) (sym (append_assoc before (binding x.name.items x.is_type ∷ []) (bindings xs))) more),
  )

  kept_front : (before : List Binding) (xs ys : List Declared) → AreKept index before (xs ++ ys) → AreKept index before xs
  kept_front before [] ys kept = tt
  kept_front before (x ∷ xs) ys kept = (kept.0, kept.1, kept_front (before ++ binding x.name.items x.is_type ∷ []) xs ys kept.2)

  kept_behind : (before : List Binding) (xs ys : List Declared) → AreKept index before (xs ++ ys) → AreKept index (before ++ bindings xs) ys
  kept_behind before [] ys kept = subst (λ (bs : List Binding). AreKept index bs ys) (search rules) kept
  kept_behind before (x ∷ xs) ys kept =
      subst (λ (bs : List Binding). AreKept index bs ys) (append_assoc before (binding x.name.items x.is_type ∷ []) (bindings xs))
      (kept_behind (before ++ binding x.name.items x.is_type ∷ []) xs ys kept.2)

  -- the newest name is known
  pub known_last : (declared : List Declared) (one : Declared) → IsIndexed index (declared ++ one ∷ []) → IsSome (indexed index one.name.items)
  known_last declared one is = (kept_behind [] declared (one ∷ []) is.kept).1

module _ {S : Type 0} (old new : HashMap (Vec ℕ) Bool S) where
  abbrev Finds : Vec ℕ → Option Bool
  Finds key = indexed old key.items

  -- a value that is put at a key that is known, which never fails
  pub sure : {A E : Type 0} (key : Vec ℕ) (value : Bool) (result : Result A E)
      → OnOk result (Updates (λ (x y : Vec ℕ). bytes_eq x.items y.items) old new key (Some value)) → OnErr result (Finds key ≡ None) → IsSome (Finds key)
      → Updates (λ (x y : Vec ℕ). bytes_eq x.items y.items) old new key (Some value)
  sure key value (Ok a) put absent some = put
  sure key value (Err e) put absent some = absurd (none_is_some (Finds key) absent some)

  kept_grows : ((name : List ℕ) → IsSome (indexed old name) → IsSome (indexed new name)) → (before : List Binding) (xs : List Declared) → AreKept old before xs → AreKept new before xs
  kept_grows grows before [] kept = tt
  kept_grows grows before (x ∷ xs) kept = (kept.0, grows x.name.items kept.1, kept_grows grows (before ++ binding x.name.items x.is_type ∷ []) xs kept.2)

  puts_some : (key : List ℕ) (value : Bool) → Puts old new key value → (name : List ℕ) → IsSome (indexed old name) → IsSome (indexed new name)
  puts_some key value h name some = subst IsSome (sym (h name)) (some_by (bytes_eq key name)) where
    some_by : (test : Bool) → IsSome (cond test (Some value) (indexed old name))
    some_by true = refl
    some_by false = some

  puts_here : (key : List ℕ) (value : Bool) → Puts old new key value → IsSome (indexed new key)
  puts_here key value h = subst IsSome (sym (h key ∙ cond-true (bytes_eq key key) (Some value) (indexed old key) (nat_list_eq_equiv.refl key))) refl

  unwrap_cond : (test value : Bool) (other : Option Bool) → unwrap_or (cond test (Some value) other) false ≡ cond test value (unwrap_or other false)
  unwrap_cond true value other = refl
  unwrap_cond false value other = refl

  -- a name is declared
  pub declares : (declared : List Declared) (one : Declared) → IsIndexed old declared → one.hides_type ≡ latest false (bindings declared) one.name.items
      → Puts old new one.name.items one.is_type → IsIndexed new (declared ++ one ∷ [])
  declares declared one is hides h = record {
    told = λ name. ap (λ (o : Option Bool). unwrap_or o false) (h name) ∙ unwrap_cond (bytes_eq one.name.items name) one.is_type (indexed old name)
        ∙ ap (λ (b : Bool). cond (bytes_eq one.name.items name) one.is_type b) (is.told name) ∙ sym (latest_last declared one name);
    kept = kept-append new [] declared (one ∷ []) (kept_grows (puts_some one.name.items one.is_type h) [] declared is.kept)
        (hides, puts_here one.name.items one.is_type h, tt);
  }

  restored : (test was is before : Bool) → before ≡ was → cond test was (cond test is before) ≡ before
  restored true was is before e = sym e
  restored false was is before e = refl

  -- the newest binding ends
  pub forgets : (declared : List Declared) (one : Declared) → IsIndexed old (declared ++ one ∷ []) → Puts old new one.name.items one.hides_type → IsIndexed new declared
  forgets declared one is h =
      let last : AreKept old (bindings declared) (one ∷ []) = kept_behind old [] declared (one ∷ []) is.kept in
      record {
        told = λ name. ap (λ (o : Option Bool). unwrap_or o false) (h name) ∙ unwrap_cond (bytes_eq one.name.items name) one.hides_type (indexed old name)
            ∙ ap (λ (b : Bool). cond (bytes_eq one.name.items name) one.hides_type b) (is.told name ∙ latest_last declared one name)
            ∙ back declared one name last.0 (bytes_eq one.name.items name) refl;
        kept = kept_grows (puts_some one.name.items one.hides_type h) [] declared (kept_front old [] declared (one ∷ []) is.kept);
      } where
        back : (declared : List Declared) (one : Declared) (name : List ℕ) → one.hides_type ≡ latest false (bindings declared) one.name.items
            → (test : Bool) → bytes_eq one.name.items name ≡ test
            → cond test one.hides_type (cond test one.is_type (latest false (bindings declared) name)) ≡ latest false (bindings declared) name
        back declared one name hides true y = hides ∙ ap (λ (bs : List ℕ). latest false (bindings declared) bs) ((bytes_eq-Decides one.name.items name).0 y)
        back declared one name hides false n = refl

  -- nothing changed
  pub stays : (declared later : List Declared) → later ≡ declared → IsUnchanged old new → IsIndexed old declared → IsIndexed new later
  stays declared later same e is = subst (λ (ds : List Declared). IsIndexed new ds) (sym same) (record {
    told = λ name. ap (λ (es : List (Vec ℕ × Bool)). unwrap_or (lookup (λ key. bytes_eq name key.items) es) false) e ∙ is.told name;
    kept = kept_grows (λ name. subst (λ (es : List (Vec ℕ × Bool)). IsSome (lookup (λ (key : Vec ℕ). bytes_eq name key.items) es)) (sym e)) [] declared is.kept;
  })

-- ---- copies of bindings

abbrev as_binding : Declared → Binding
as_binding one = binding one.name.items one.is_type

pub next_bound : (declared : List Declared) (index next : ℕ) (item : Declared) (done more : List Bound) (one : Bound) (all : List Binding) → index < length declared → get_or declared index item ≡ item
    → next ≡ suc index → more ≡ done ++ one ∷ [] → bound one ≡ as_binding item → map bound done ++ drop index (bindings declared) ≡ all → map bound more ++ drop next (bindings declared) ≡ all
next_bound declared index next item done more one all within is e made same before =
    let split : drop index declared ≡ item ∷ drop (suc index) declared = drop-cons declared index item within ∙ ap (λ (d : Declared). d ∷ drop (suc index) declared) is in
    ap (λ (n : ℕ). map bound more ++ drop n (bindings declared)) e
    ∙ ap (λ (bs : List Bound). map bound bs ++ drop (suc index) (bindings declared)) made
    ∙ ap (λ (bs : List Binding). bs ++ drop (suc index) (bindings declared)) (map-append bound done (one ∷ []))
    ∙ append_assoc (map bound done) (bound one ∷ []) (drop (suc index) (bindings declared))
    ∙ ap (λ (b : Binding). map bound done ++ b ∷ drop (suc index) (bindings declared)) same
    ∙ ap (λ (bs : List Binding). map bound done ++ as_binding item ∷ bs) (drop-map as_binding (suc index) declared)
    ∙ ap (λ (ds : List Declared). map bound done ++ map as_binding ds) (sym split)
    ∙ ap (λ (bs : List Binding). map bound done ++ bs) (sym (drop-map as_binding index declared))
    ∙ before
