-- Objects that are held the last first, in the order of their numbers.
use Rattle.std.proofs.Common.{◌≡◌, refl, sym, ap, ◌∙◌, ℕ, nat_le, ◌&&◌, Bool, true, false, if◌then◌else◌, List, [], ◌∷◌, ◌++◌, length, map, reverse, take, drop, Option, None, Some, is_some, is_none}
use Rattle.std.proofs.lemmas.List.{append_assoc, drop-map, drop_at, length-reverse, map-append, reverse-append, reverse-reverse, take-map, take_at}
use Rattle.cx_core.specs.Trees.{CObject, CPuts, no_puts}
use Rattle.cx_rules.specs.Scope.{CMade, CThing}
use Rattle.cx_unit_ends.specs.Ends.{final_object, final_puts, in_number_order, made_object, objects_of, ordered_onto, place_of, put_object, puts_by, puts_when}

record Put (one : CObject) (sorted : List CObject) : Type 0 where
  front : List CObject
  back : List CObject
  is : sorted ≡ front ++ back
  behind : length back ≡ place_of sorted one.object
  put : put_object one sorted ≡ front ++ one ∷ back

put_head : (one first : CObject) (others : List CObject) (b : Bool) → nat_le one.object first.object ≡ b → Put one others → Put one (first ∷ others)
put_head one first others true t s = record { front = []; back = first ∷ others; is = refl; behind = rw t refl; put = rw t refl }
put_head one first others false t s = record {
  front = first ∷ s.front;
  back = s.back;
  is = ap (λ rest. first ∷ rest) s.is;
  behind = rw t s.behind;
  put = rw t (ap (λ rest. first ∷ rest) s.put);
}

put_split : (one : CObject) (sorted : List CObject) → Put one sorted
put_split one [] = record { front = []; back = []; is = refl; behind = refl; put = refl }
put_split one (first ∷ others) = put_head one first others (nat_le one.object first.object) refl (put_split one others)

turned : {A : Type 0} (front back : List A) (x : A) → reverse (front ++ x ∷ back) ≡ reverse back ++ x ∷ reverse front
turned front back x =
    reverse-append front (x ∷ back) ∙ ap (λ later. later ++ reverse front) (reverse-append (x ∷ []) back)
    ∙ append_assoc (reverse back) (x ∷ []) (reverse front)

module _ (one : CObject) (held : List CObject) (n : ℕ) (s : Put one (reverse held)) (place : n ≡ place_of (reverse held) one.object) where
  held_is : held ≡ reverse s.back ++ reverse s.front
  held_is = sym (reverse-reverse held) ∙ ap reverse s.is ∙ reverse-append s.front s.back

  count_is : length (reverse s.back) ≡ n
  count_is = length-reverse s.back ∙ s.behind ∙ sym place

  front_is : take n held ≡ reverse s.back
  front_is = ap (take n) held_is ∙ take_at (reverse s.back) (reverse s.front) n count_is

  back_is : drop n held ≡ reverse s.front
  back_is = ap (drop n) held_is ∙ drop_at (reverse s.back) (reverse s.front) n count_is

  put_is : reverse (take n held ++ one ∷ drop n held) ≡ put_object one (reverse held)
  put_is =
      ap (λ front. reverse (front ++ one ∷ drop n held)) front_is
      ∙ ap (λ back. reverse (reverse s.back ++ one ∷ back)) back_is
      ∙ turned (reverse s.back) (reverse s.front) one
      ∙ ap (λ front. front ++ one ∷ reverse (reverse s.back)) (reverse-reverse s.front)
      ∙ ap (λ back. s.front ++ one ∷ back) (reverse-reverse s.back)
      ∙ sym s.put

pub put_held : {A : Type 0} (view : A → CObject) (held now : List A) (one : A) (n : ℕ) → n ≡ place_of (reverse (map view held)) (view one).object
    → now ≡ take n held ++ one ∷ drop n held → reverse (map view now) ≡ put_object (view one) (reverse (map view held))
put_held view held now one n place is =
    ap (λ xs. reverse (map view xs)) is
    ∙ ap reverse (map-append view (take n held) (one ∷ drop n held)
    ∙ ap (λ front. front ++ view one ∷ map view (drop n held)) (sym (take-map view n held))
    ∙ ap (λ back. take n (map view held) ++ view one ∷ back) (sym (drop-map view n held)))
    ∙ put_is (view one) (map view held) n (put_split (view one) (reverse (map view held))) place

-- ---- lists

onto_last : (objects : List CObject) (one : CObject) (sorted : List CObject) → ordered_onto (objects ++ one ∷ []) sorted ≡ ordered_onto objects (put_object one sorted)
onto_last [] one sorted = refl
onto_last (first ∷ others) one sorted = ap (put_object first) (onto_last others one sorted)

pub put_last : {A B : Type 0} (view : A → B) (f : B → CObject) (left rest : List A) (one : A) (held now sorted : List CObject) → left ≡ rest ++ one ∷ []
    → now ≡ put_object (f (view one)) held → ordered_onto (map f (map view left)) held ≡ sorted → ordered_onto (map f (map view rest)) now ≡ sorted
put_last view f left rest one held now sorted e n i =
    ap (ordered_onto (map f (map view rest))) n
    ∙ sym (onto_last (map f (map view rest)) (f (view one)) held)
    ∙ ap (λ objects. ordered_onto objects held)
    (sym (ap (λ all. map f (map view all)) e ∙ ap (map f) (map-append view rest (one ∷ [])) ∙ map-append f (map view rest) (view one ∷ [])))
    ∙ i

pub onto_nothing : (objects : List CObject) → ordered_onto objects [] ≡ in_number_order objects
onto_nothing [] = refl
onto_nothing (one ∷ others) = ap (put_object one) (onto_nothing others)

pub onto_both : (first second : List CObject) → ordered_onto first (in_number_order second) ≡ in_number_order (first ++ second)
onto_both [] second = refl
onto_both (one ∷ others) second = ap (put_object one) (onto_both others second)

pub reversed_map : {A B : Type 0} (f : A → B) (xs : List A) → map f (reverse xs) ≡ reverse (map f xs)
reversed_map f [] = refl
reversed_map f (x ∷ xs) =
    ap (map f) (reverse-append (x ∷ []) xs)
    ∙ map-append f (reverse xs) (x ∷ [])
    ∙ ap (λ ys. ys ++ f x ∷ []) (reversed_map f xs)
    ∙ sym (reverse-append (f x ∷ []) (map f xs))

pub all_is : {A : Type 0} (view : A → CObject) (unit : ℕ) (things : List CThing) (objects : List CObject) (literals : List CMade) (first second now : List A)
    → reverse (map view first) ≡ ordered_onto (map (made_object unit) literals) []
    → reverse (map view second) ≡ ordered_onto (map (final_object things) objects) (reverse (map view first))
    → now ≡ reverse second → map view now ≡ objects_of unit things objects literals
all_is view unit things objects literals first second now a b c =
    ap (map view) c ∙ reversed_map view second ∙ b
    ∙ ap (ordered_onto (map (final_object things) objects)) (a ∙ onto_nothing (map (made_object unit) literals))
    ∙ onto_both (map (final_object things) objects) (map (made_object unit) literals)

-- ---- what is stored

puts_case : (line : Option ℕ) (puts : Option CPuts) → puts_when line puts ≡ (if is_some line && is_none puts then Some no_puts else puts)
puts_case None None = refl
puts_case (Some line) None = refl
puts_case None (Some puts) = refl
puts_case (Some line) (Some puts) = refl

pub puts_are : (thing : CThing) (one : CObject) → puts_by thing one.puts ≡ final_puts thing one
puts_are thing one = puts_case thing.tentative one.puts
