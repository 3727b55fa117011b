-- What is kept, and its order.
use Rattle.std.proofs.Common.{arith, map, ◌≡◌, refl, ap, sym, ◌∙◌, ℕ, suc, ◌+◌, length, Bool, true, false, if◌then◌else◌, List, [], ◌∷◌, ◌++◌, take, drop, reverse}
use Rattle.std.proofs.lemmas.List.{append_assoc, length-append, length-map, length-reverse, map-append, reverse-append, reverse-reverse, take-map, take_at, drop-map, drop_at}
use Rattle.cx_core.specs.Trees.{CTy, CTypes}
use Rattle.cx_init.specs.Orders.{kept_flags, chosen, place_among, ordered_onto}
use Rattle.cx_rules.specs.Initial.{CStored, kept_by, kept, comes_before, put_in_order, in_order}

kept_one : (flag : Bool) (one : CStored) (first second : List CStored) → first ≡ second → (if flag then one ∷ first else first) ≡ (if flag then one ∷ second else second)
kept_one flag one first second same = ap (λ others. if flag then one ∷ others else others) same

pub kept_is : (types : CTypes) (type : CTy) (stored : List CStored) → chosen (kept_flags types type stored) stored ≡ kept types type stored
kept_is types type [] = refl
kept_is types type (one ∷ others) =
    kept_one (kept_by types type others one) one (chosen (kept_flags types type others) others) (kept types type others) (kept_is types type others)

-- where a value goes among others that are in order
record Put (one : CStored) (sorted : List CStored) : Type 0 where
  front : List CStored
  back : List CStored
  is : sorted ≡ front ++ back
  behind : length back ≡ place_among sorted one.path
  put : put_in_order one sorted ≡ front ++ one ∷ back

put_head : (one first : CStored) (others : List CStored) (before : Bool) → comes_before first.path one.path ≡ before → Put one others → Put one (first ∷ others)
put_head one first others false t s = record { front = []; back = first ∷ others; is = refl; behind = rw t refl; put = rw t refl }
put_head one first others true t s = record {
  front = first ∷ s.front;
  back = s.back;
  is = ap (λ rest. first ∷ rest) s.is;
  behind = rw t s.behind;
  put = rw t (ap (λ rest. first ∷ rest) s.put);
}

put_split : (one : CStored) (sorted : List CStored) → Put one sorted
put_split one [] = record { front = []; back = []; is = refl; behind = refl; put = refl }
put_split one (first ∷ others) = put_head one first others (comes_before first.path one.path) refl (put_split one others)

turned_round : {A : Type 0} (front back : List A) (x : A) → reverse (front ++ x ∷ back) ≡ reverse back ++ x ∷ reverse front
turned_round front back x =
    reverse-append front (x ∷ back) ∙ ap (λ later. later ++ reverse front) (reverse-append (x ∷ []) back)
    ∙ append_assoc (reverse back) (x ∷ []) (reverse front)

module _ (one : CStored) (held : List CStored) (n : ℕ) (s : Put one (reverse held)) (place : n ≡ place_among (reverse held) one.path) where
  held_is : held ≡ reverse s.back ++ reverse s.front
  held_is = sym (reverse-reverse held) ∙ ap reverse s.is ∙ reverse-append s.front s.back

  count_is : length (reverse s.back) ≡ n
  count_is = length-reverse s.back ∙ s.behind ∙ sym place

  front_is : take n held ≡ reverse s.back
  front_is = ap (take n) held_is ∙ take_at (reverse s.back) (reverse s.front) n count_is

  back_is : drop n held ≡ reverse s.front
  back_is = ap (drop n) held_is ∙ drop_at (reverse s.back) (reverse s.front) n count_is

  put_is : reverse (take n held ++ one ∷ drop n held) ≡ put_in_order one (reverse held)
  put_is =
      ap (λ front. reverse (front ++ one ∷ drop n held)) front_is
      ∙ ap (λ back. reverse (reverse s.back ++ one ∷ back)) back_is
      ∙ turned_round (reverse s.back) (reverse s.front) one
      ∙ ap (λ front. front ++ one ∷ reverse (reverse s.back)) (reverse-reverse s.front)
      ∙ ap (λ back. s.front ++ one ∷ back) (reverse-reverse s.back)
      ∙ sym s.put

pub onto_append : (stored more sorted : List CStored) → ordered_onto (stored ++ more) sorted ≡ ordered_onto stored (ordered_onto more sorted)
onto_append [] more sorted = refl
onto_append (first ∷ others) more sorted = ap (put_in_order first) (onto_append others more sorted)

pub onto_nothing : (stored : List CStored) → ordered_onto stored [] ≡ in_order stored
onto_nothing [] = refl
onto_nothing (one ∷ others) = ap (put_in_order one) (onto_nothing others)

-- one more at the end
pub chosen_last : (flags : List Bool) (stored : List CStored) (flag : Bool) (one : CStored) → length flags ≡ length stored
    → chosen (flags ++ flag ∷ []) (stored ++ one ∷ []) ≡ chosen flags stored ++ (if flag then one ∷ [] else [])
chosen_last [] [] true one same = refl
chosen_last [] [] false one same = refl
chosen_last [] (first ∷ others) flag one same = absurd (omega (arith, same))
chosen_last (f ∷ flags) [] flag one same = absurd (omega (arith, same))
chosen_last (true ∷ flags) (first ∷ others) flag one same = ap (λ rest. first ∷ rest) (chosen_last flags others flag one (omega arith))
chosen_last (false ∷ flags) (first ∷ others) flag one same = chosen_last flags others flag one (omega arith)

pub flags_length : (types : CTypes) (type : CTy) (stored : List CStored) → length (kept_flags types type stored) ≡ length stored
flags_length types type [] = refl
flags_length types type (one ∷ others) = ap suc (flags_length types type others)

-- a value is put among others that are held the last first
pub inserted : {A : Type 0} (view : A → CStored) (held now : List A) (one : A) (place : ℕ) → place ≡ place_among (reverse (map view held)) (view one).path
    → now ≡ take place held ++ one ∷ drop place held → reverse (map view now) ≡ put_in_order (view one) (reverse (map view held))
inserted view held now one place is there =
    ap (λ xs. reverse (map view xs)) there
    ∙ ap reverse (map-append view (take place held) (one ∷ drop place held)
    ∙ ap (λ front. front ++ view one ∷ map view (drop place held)) (sym (take-map view place held))
    ∙ ap (λ back. take place (map view held) ++ view one ∷ back) (sym (drop-map view place held)))
    ∙ put_is (view one) (map view held) place (put_split (view one) (reverse (map view held))) is

pub turned_views : {A : Type 0} (view : A → CStored) (held : List A) → map view (reverse held) ≡ reverse (map view held)
turned_views view [] = refl
turned_views view (one ∷ others) =
    ap (map view) (reverse-append (one ∷ []) others) ∙ map-append view (reverse others) (one ∷ [])
    ∙ ap (λ front. front ++ view one ∷ []) (turned_views view others)
    ∙ sym (reverse-append (view one ∷ []) (map view others))

-- ---- a turn that takes the last of those that are left

pub step_same : {A B : Type 0} (flags others : List A) (flag : A) (left rest : List B) (one : B) → flags ≡ others ++ flag ∷ [] → left ≡ rest ++ one ∷ []
    → length flags ≡ length left → length others ≡ length rest
step_same flags others flag left rest one f l same =
    let fs : length flags ≡ length others + 1 = ap length f ∙ length-append others (flag ∷ []) in
    let ls : length left ≡ length rest + 1 = ap length l ∙ length-append rest (one ∷ []) in
    omega arith

pub step_count : {B : Type 0} (left rest : List B) (one : B) (index count : ℕ) → left ≡ rest ++ one ∷ [] → length left + index ≡ count → length rest + (index + 1) ≡ count
step_count left rest one index count l is =
    let ls : length left ≡ length rest + 1 = ap length l ∙ length-append rest (one ∷ []) in
    omega arith

pub step_onto : {B : Type 0} (view : B → CStored) (flags others : List Bool) (flag : Bool) (left rest : List B) (one : B) (sorted new all : List CStored)
    → flags ≡ others ++ flag ∷ [] → left ≡ rest ++ one ∷ [] → length flags ≡ length left
    → ordered_onto (chosen flags (map view left)) sorted ≡ all → new ≡ ordered_onto (if flag then view one ∷ [] else []) sorted
    → ordered_onto (chosen others (map view rest)) new ≡ all
step_onto view flags others flag left rest one sorted new all f l same is added =
    let lengths : length others ≡ length (map view rest) = step_same flags others flag left rest one f l same ∙ sym (length-map rest view) in
    let viewed : map view left ≡ map view rest ++ view one ∷ [] = ap (map view) l ∙ map-append view rest (one ∷ []) in
    ap (ordered_onto (chosen others (map view rest))) added
    ∙ sym (onto_append (chosen others (map view rest)) (if flag then view one ∷ [] else []) sorted)
    ∙ ap (λ some. ordered_onto some sorted) (sym (chosen_last others (map view rest) flag (view one) lengths))
    ∙ ap (λ held. ordered_onto (chosen (others ++ flag ∷ []) held) sorted) (sym viewed)
    ∙ ap (λ fs. ordered_onto (chosen fs (map view left)) sorted) (sym f)
    ∙ is
