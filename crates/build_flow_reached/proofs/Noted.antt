-- What an index holds once a place is noted.
use Rattle.std.proofs.Common.{◌≡◌, ◌∙◌, ℕ, suc, ◌==◌, Bool, true, false, ◌&&◌, if◌then◌else◌, List, [], ◌∷◌, ◌++◌, length, bytes_eq, Option, Some, None, is_some, refl, sym, ap, subst}
use Rattle.std.proofs.lemmas.Cmp.{nat_list_eq_equiv}
use Rattle.std.proofs.lemmas.Slice.Eq.{bytes_eq-Decides}
use Rattle.std.specs.Global.{Vec}
use Rattle.std.specs.HashMap.{HashMap, get_by, Updates}
use Rattle.std.specs.Map.{lookup, IsKeyTest, AreApart, KeepsOthers}
use Rattle.build_flow_nodes.specs.Points.{FlowPlace, at_part, on_edge, same_path, same_place}
use Rattle.build_flow_reached.specs.Index.{edge_key, key_of, held_in, or_else}
use Rattle.cx_mean.specs.BodyGraph.{CPath, at_statement, at_test, at_third, at_end}
use Rattle.reloop.proofs.Sets.{equal_itself, same_number}

-- ---- keys tell places

path_key : (one other : CPath) → bytes_eq one other ≡ same_path one other
path_key [] [] = refl
path_key [] (first ∷ rest) = refl
path_key (one ∷ others) [] = refl
path_key (one ∷ others) (first ∷ rest) = ap (λ (is : Bool). (one == first) && is) (path_key others rest)

-- two paths behind each other, where the first ones are of one length
two_paths : (one other target goal : CPath) → length one ≡ length other → bytes_eq (one ++ target) (other ++ goal) ≡ (same_path one other && same_path target goal)
two_paths [] [] target goal long = path_key target goal
two_paths (x ∷ one) (y ∷ other) target goal long = ap (λ (is : Bool). (x == y) && is) (two_paths one other target goal cc) ∙ grouped (x == y) (same_path one other) (same_path target goal)
  where
    grouped : (a b c : Bool) → (a && (b && c)) ≡ ((a && b) && c)
    grouped true b c = refl
    grouped false b c = refl
two_paths [] (y ∷ other) target goal long = absurd cc
two_paths (x ∷ one) [] target goal long = absurd cc

both_true : (a b : Bool) → (a && b) ≡ true → b ≡ true
both_true true b is = is
both_true false b is = absurd cc

same_lengths : (one other : CPath) → same_path one other ≡ true → length one ≡ length other
same_lengths [] [] is = refl
same_lengths [] (y ∷ other) is = absurd cc
same_lengths (x ∷ one) [] is = absurd cc
same_lengths (x ∷ one) (y ∷ other) is = ap suc (same_lengths one other (both_true (x == y) (same_path one other) is))

length_tells : (one other : CPath) → (length one == length other) ≡ false → same_path one other ≡ false
length_tells one other is = by (same_path one other) refl
  where
    by : (same : Bool) → same_path one other ≡ same → same ≡ false
    by true same =
        let itself : (length one == length other) ≡ true = subst (λ (n : ℕ). (length one == n) ≡ true) (same_lengths one other same) (equal_itself (length one)) in
        cc
    by false same = refl

edge_keys : (one target other goal : CPath) → bytes_eq (edge_key one target) (edge_key other goal) ≡ (same_path one other && same_path target goal)
edge_keys one target other goal = by (length one == length other) refl
  where
    by : (same : Bool) → (length one == length other) ≡ same → ((length one == length other) && bytes_eq (one ++ target) (other ++ goal)) ≡ (same_path one other && same_path target goal)
    by true is = ap (λ (it : Bool). it && bytes_eq (one ++ target) (other ++ goal)) is ∙ two_paths one other target goal (same_number (length one) (length other) is)
    by false is =
        ap (λ (it : Bool). it && bytes_eq (one ++ target) (other ++ goal)) is ∙ sym (ap (λ (it : Bool). it && same_path target goal) (length_tells one other is))

pub keys_tell : (one other : FlowPlace) → bytes_eq (key_of one) (key_of other) ≡ same_place one other
keys_tell (at_part (at_statement one)) (at_part (at_statement other)) = path_key one other
keys_tell (at_part (at_statement one)) (at_part (at_test other)) = refl
keys_tell (at_part (at_statement one)) (at_part (at_third other)) = refl
keys_tell (at_part (at_statement one)) (at_part at_end) = refl
keys_tell (at_part (at_statement one)) (on_edge other goal) = refl
keys_tell (at_part (at_test one)) (at_part (at_statement other)) = refl
keys_tell (at_part (at_test one)) (at_part (at_test other)) = path_key one other
keys_tell (at_part (at_test one)) (at_part (at_third other)) = refl
keys_tell (at_part (at_test one)) (at_part at_end) = refl
keys_tell (at_part (at_test one)) (on_edge other goal) = refl
keys_tell (at_part (at_third one)) (at_part (at_statement other)) = refl
keys_tell (at_part (at_third one)) (at_part (at_test other)) = refl
keys_tell (at_part (at_third one)) (at_part (at_third other)) = path_key one other
keys_tell (at_part (at_third one)) (at_part at_end) = refl
keys_tell (at_part (at_third one)) (on_edge other goal) = refl
keys_tell (at_part at_end) (at_part (at_statement other)) = refl
keys_tell (at_part at_end) (at_part (at_test other)) = refl
keys_tell (at_part at_end) (at_part (at_third other)) = refl
keys_tell (at_part at_end) (at_part at_end) = refl
keys_tell (at_part at_end) (on_edge other goal) = refl
keys_tell (on_edge one target) (at_part (at_statement other)) = refl
keys_tell (on_edge one target) (at_part (at_test other)) = refl
keys_tell (on_edge one target) (at_part (at_third other)) = refl
keys_tell (on_edge one target) (at_part at_end) = refl
keys_tell (on_edge one target) (on_edge other goal) = edge_keys one target other goal

-- ---- what is held

module _ {K : Type 0} (eq : K → K → Bool) (test : K → Bool) where
  other_entries : {X : Type 0} (old new : List (K × X)) → KeepsOthers eq test old new → (other : K → Bool) → IsKeyTest eq other → AreApart test other → lookup other new ≡ lookup other old
  unfolding KeepsOthers
  other_entries old new h = h

apart : (bs cs ks : List ℕ) → bytes_eq bs cs ≡ false → bytes_eq bs ks ≡ true → bytes_eq cs ks ≡ false
apart bs cs ks n y = nat_list_eq_equiv.symm cs ks ∙ sym (nat_list_eq_equiv.congr bs ks cs y) ∙ n

module _ {S : Type 0} (old new : HashMap (Vec ℕ) ℕ S) where
  of_key : HashMap (Vec ℕ) ℕ S → List ℕ → Option ℕ
  of_key index name = get_by (λ key. bytes_eq name key.items) index

  puts_by : (key : Vec ℕ) (value : ℕ) → Updates (λ (x y : Vec ℕ). bytes_eq x.items y.items) old new key (Some value) → (name : List ℕ) → (test : Bool) → bytes_eq name key.items ≡ test
      → of_key new name ≡ if test then Some value else of_key old name
  unfolding of_key
  puts_by key value h name true y = ap (λ (bs : List ℕ). get_by (λ one. bytes_eq bs one.items) new) ((bytes_eq-Decides name key.items).0 y) ∙ h.1
  puts_by key value h name false n =
      let other : bytes_eq key.items name ≡ false = nat_list_eq_equiv.symm key.items name ∙ n in
      other_entries _ _ _ _ h.3 _ (λ x y. nat_list_eq_equiv.congr name x.items y.items) (λ k. apart key.items name k.items other)

  -- a place that isn't held is put
  pub put_new : (place : FlowPlace) (key : Vec ℕ) (value : ℕ) → key.items ≡ key_of place → Updates (λ (x y : Vec ℕ). bytes_eq x.items y.items) old new key (Some value) → held_in old place ≡ None →
      (other : FlowPlace) → held_in new other ≡ or_else (held_in old other) (if same_place other place then Some value else None)
  unfolding of_key
  put_new place key value same h none other = by (same_place other place) refl
    where
      test : bytes_eq (key_of other) key.items ≡ same_place other place
      test = ap (bytes_eq (key_of other)) same ∙ keys_tell other place

      by : (is : Bool) → same_place other place ≡ is → held_in new other ≡ or_else (held_in old other) (if is then Some value else None)
      by true is =
          puts_by key value h (key_of other) true (test ∙ is)
          ∙ sym (ap (λ (found : Option ℕ). or_else found (Some value)) (ap (λ (bs : List ℕ). get_by (λ one. bytes_eq bs one.items) old) ((bytes_eq-Decides (key_of other) (key_of place)).0 (keys_tell other place ∙ is)) ∙ none))
      by false is = puts_by key value h (key_of other) false (test ∙ is) ∙ left (held_in old other)
        where
          left : (found : Option ℕ) → found ≡ or_else found None
          left None = refl
          left (Some one) = refl

pub not_held : (found : Option ℕ) → is_some found ≡ false → found ≡ None
not_held None is = refl
not_held (Some number) is = absurd cc

-- a place that is held stays so
pub kept_old : {S : Type 0} (held : HashMap (Vec ℕ) ℕ S) (place : FlowPlace) (value : ℕ) → is_some (held_in held place) ≡ true →
    (other : FlowPlace) → held_in held other ≡ or_else (held_in held other) (if same_place other place then Some value else None)
kept_old held place value there other = by (same_place other place) refl
  where
    found_there : (found : Option ℕ) → is_some found ≡ true → found ≡ or_else found (Some value)
    found_there (Some one) is = refl
    found_there None is = absurd cc

    left : (found : Option ℕ) → found ≡ or_else found None
    left None = refl
    left (Some one) = refl

    by : (is : Bool) → same_place other place ≡ is → held_in held other ≡ or_else (held_in held other) (if is then Some value else None)
    by true is =
        found_there (held_in held other)
        (ap (λ (bs : List ℕ). is_some (get_by (λ one. bytes_eq bs one.items) held)) ((bytes_eq-Decides (key_of other) (key_of place)).0 (keys_tell other place ∙ is)) ∙ there)
    by false is = left (held_in held other)
