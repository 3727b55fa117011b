-- The names of temporaries: candidates of `t`, and what stands when one was made.
use Rattle.std.proofs.Common.{◌≡◌, ◌≢◌, ℕ, zero, suc, ◌+◌, ◌-◌, ◌<◌, ◌≤◌, ◌^◌, Bool, true, false, not, cond, ◌&&◌, ◌||◌, ◌==◌, List, [], ◌∷◌, ◌++◌, codes, Some, bytes_eq, refl, sym, ap, ◌∙◌, arith, inl, inr, eq-or-lt_of_le, subst, length}
use Rattle.std.specs.Fmt.{decimal}
use Rattle.std.specs.List.{list_any, list_all}
use Rattle.std.specs.Str.Parse.{AllDigits}
use Rattle.std.proofs.lemmas.Bool.{cases_lt}
use Rattle.std.proofs.lemmas.Bool.Decides.{nat_tests, not_from_Decides}
use Rattle.std.proofs.lemmas.Fmt.{decimal_is_IsNumeral, decimal_injective}
use Rattle.std.proofs.lemmas.List.Folds.{list_any-append, list_all-append}
use Rattle.std.proofs.lemmas.Slice.Eq.{bytes_eq-Decides}
use Rattle.std.proofs.lemmas.Str.Parse.{digit_from_value}
use Rattle.straight_items.specs.declared.scope.NameScope.TheVariants.{Function}
use Rattle.straight_items.specs.Names.{reserved, candidate, IsGone, IsRustName}
use Rattle.straight_items.specs.Search.{temporary, is_used, AreUsed, IsNextFree, AreUnused, HoldsNames}
use Rattle.straight_items.specs.Temporaries.{TemporaryNames, Makes}
use Rattle.straight_rust_tree.specs.Names.{is_word_byte, is_word, is_among, path_words, keywords, is_plain_identifier}
use Rattle.straight_rust_tree.specs.Valid.{all_differ}

-- ---- truth values

pub both : (a b : Bool) → a ≡ true → b ≡ true → (a && b) ≡ true
both a b e f = ap (λ t. t && b) e ∙ f

pub parts : (a b : Bool) → (a && b) ≡ true → (a ≡ true) × (b ≡ true)
parts true b h = (refl, h)
parts false b h = cc

pub neither : (a b : Bool) → (a || b) ≡ false → (a ≡ false) × (b ≡ false)
neither true b h = cc
neither false b h = (refl, h)

or_more : (a b c : Bool) → (a || b) ≡ true → (a || (b || c)) ≡ true
or_more true b c h = refl
or_more false true c h = refl
or_more false false c h = cc

or_last : (a b c : Bool) → c ≡ true → (a || (b || (c || false))) ≡ true
or_last true b c h = refl
or_last false true c h = refl
or_last false false true h = refl
or_last false false false h = cc

pub not_true : (a : Bool) → not a ≡ true → a ≡ false
not_true true h = cc
not_true false h = refl

-- ---- bytes

same_bytes : (xs : List ℕ) → bytes_eq xs xs ≡ true
same_bytes xs = (bytes_eq-Decides xs xs).1 refl

other_bytes : (a b : List ℕ) (r : Bool) → bytes_eq a b ≡ false → bytes_eq b a ≡ r → r ≡ false
other_bytes a b true h e = absurd (not_from_Decides (bytes_eq a b) (bytes_eq-Decides a b) h (sym ((bytes_eq-Decides b a).0 e)))
other_bytes a b false h e = refl

bytes_differ : (a b : List ℕ) → bytes_eq a b ≡ false → bytes_eq b a ≡ false
bytes_differ a b h = other_bytes a b (bytes_eq b a) h refl

-- ---- candidates

digits_are_word_bytes : (ds : List ℕ) → AllDigits 10 ds → list_all is_word_byte ds ≡ true
digits_are_word_bytes [] h = refl
digits_are_word_bytes (d ∷ ds) h =
    let range = digit_from_value d h.0 in
    let byte : is_word_byte d ≡ true = grind (arith, nat_tests, range) in
    both (is_word_byte d) (list_all is_word_byte ds) byte (digits_are_word_bytes ds h.1)

temporary_next : (k : ℕ) → temporary (suc k) ≡ 116 ∷ 95 ∷ decimal k
temporary_next k =
    let test : (suc k == 0) ≡ false = grind (arith, nat_tests) in
    let less : suc k - 1 ≡ k = omega arith in
    ap (λ t. cond t (codes "t") (codes "t_" ++ decimal (suc k - 1))) test ∙ ap (λ n. codes "t_" ++ decimal n) less

plain_behind : (tail : List ℕ) → list_all is_word_byte tail ≡ true → is_plain_identifier (116 ∷ 95 ∷ tail) ≡ true
unfolding keywords path_words
plain_behind tail h = both (is_word (116 ∷ 95 ∷ tail) && not (is_among path_words (116 ∷ 95 ∷ tail))) (not (is_among keywords (116 ∷ 95 ∷ tail)))
    (both (is_word (116 ∷ 95 ∷ tail)) (not (is_among path_words (116 ∷ 95 ∷ tail))) h refl) refl

plain_first : is_plain_identifier (temporary 0) ≡ true
unfolding keywords path_words
plain_first = refl

plain_temporary : (k : ℕ) → k < 2 ^ 64 → is_plain_identifier (temporary k) ≡ true
plain_temporary zero small = plain_first
plain_temporary (suc k) small =
    let less : k < 2 ^ 64 = omega arith in
    rw (temporary_next k) (plain_behind (decimal k) (digits_are_word_bytes (decimal k) (decimal_is_IsNumeral k less).0.1))

candidate_first : candidate Function (codes "t") 0 ≡ Some (temporary 0)
unfolding keywords path_words reserved
candidate_first = refl

candidate_temporary : (k : ℕ) → candidate Function (codes "t") k ≡ Some (temporary k)
candidate_temporary zero = candidate_first
candidate_temporary (suc k) = ap Some (sym (temporary_next k))

among_both : (taken names : List (List ℕ)) (name : List ℕ) → is_among (taken ++ names) name ≡ is_used taken names name
among_both taken names name = list_any-append (λ word. bytes_eq word name) taken names

gone : (taken names : List (List ℕ)) (k : ℕ) → is_used taken names (temporary k) ≡ true → IsGone (taken ++ names) (candidate Function (codes "t") k)
gone taken names k used = rw (candidate_temporary k) (among_both taken names (temporary k) ∙ used)

-- a candidate that is free, the first one
record IsFirstFree (taken names : List (List ℕ)) (name : List ℕ) (number : ℕ) : Type 0 where
  is : name ≡ temporary number
  free : is_used taken names name ≡ false
  used : AreUsed taken names number

unused_is_free : (taken names : List (List ℕ)) (name : List ℕ) → is_among taken name ≡ false → is_among names name ≡ false → is_used taken names name ≡ false
unused_is_free taken names name one other = ap (λ t. t || is_among names name) one ∙ other

taken_is_used : (taken names : List (List ℕ)) (name : List ℕ) → is_among taken name ≡ true → is_used taken names name ≡ true
taken_is_used taken names name is = ap (λ t. t || is_among names name) is

-- the first one from the number on before which all are used
first_free : (taken names : List (List ℕ)) (name : List ℕ) (number next : ℕ) → HoldsNames taken names next → IsNextFree taken next name number →
    IsFirstFree taken names name number
first_free taken names name number next holds found = record {
  is = found.is;
  free = unused_is_free taken names name found.free (ap (is_among names) found.is ∙ holds.unused number found.reached found.small);
  used = λ k low. elim (cases_lt k next) [
    | inl less ↦ holds.used k less
    | inr more ↦ taken_is_used taken names (temporary k) (found.passed k more low)
  ];
}

-- the first candidate that is free is the Rust name of `t`
named_first : (taken names : List (List ℕ)) (name : List ℕ) (number : ℕ) → IsFirstFree taken names name number →
    IsRustName (taken ++ names) Function (codes "t") name
named_first taken names name number first = record {
  number = number;
  is = candidate_temporary number ∙ ap Some (sym first.is);
  free = ap not (among_both taken names name ∙ first.free);
  first = λ k low. gone taken names k (first.used k low);
}

-- ---- candidates differ

temporaries_equal : (j k : ℕ) → j < 2 ^ 64 → k < 2 ^ 64 → temporary j ≡ temporary k → j ≡ k
temporaries_equal zero zero small few same = refl
temporaries_equal zero (suc k) small few same =
    let apart : 116 ∷ [] ≡ 116 ∷ 95 ∷ decimal k = same ∙ temporary_next k in
    absurd (cc)
temporaries_equal (suc j) zero small few same =
    let apart : 116 ∷ 95 ∷ decimal j ≡ 116 ∷ [] = sym (temporary_next j) ∙ same in
    absurd (cc)
temporaries_equal (suc j) (suc k) small few same =
    let whole : 116 ∷ 95 ∷ decimal j ≡ 116 ∷ 95 ∷ decimal k = sym (temporary_next j) ∙ (same ∙ temporary_next k) in
    let digits : decimal j ≡ decimal k = cc in
    ap suc (decimal_injective j k (omega (arith, small)) (omega (arith, few)) digits)

bytes_apart : (a b : List ℕ) (r : Bool) → a ≢ b → bytes_eq a b ≡ r → r ≡ false
bytes_apart a b true apart e = absurd (apart ((bytes_eq-Decides a b).0 e))
bytes_apart a b false apart e = refl

neither_or : (a b : Bool) → a ≡ false → b ≡ false → (a || (b || false)) ≡ false
neither_or a b e f = ap (λ t. t || (b || false)) e ∙ ap (λ t. t || false) f

-- behind a candidate that is a temporary now, none is one
unused_next : (names : List (List ℕ)) (name : List ℕ) (number next : ℕ) → name ≡ temporary number → next ≤ number → AreUnused names next →
    AreUnused (names ++ name ∷ []) (number + 1)
unused_next names name number next is less unused k more small =
    let apart : name ≢ temporary k = λ same. (let one : number ≡ k = temporaries_equal number k (omega (arith, more, small)) (omega (arith, small)) (sym is ∙ same) in absurd (omega (arith, one, more))) in
    list_any-append (λ word. bytes_eq word (temporary k)) names (name ∷ [])
    ∙ neither_or (is_among names (temporary k)) (bytes_eq name (temporary k)) (unused k (omega (arith, less, more)) small)
    (bytes_apart name (temporary k) (bytes_eq name (temporary k)) apart refl)

-- ---- one name more

push_differ : (names : List (List ℕ)) (name : List ℕ) → all_differ names ≡ true → is_among names name ≡ false → all_differ (names ++ name ∷ []) ≡ true
push_differ [] name h free = refl
push_differ (x ∷ xs) name h free =
    let known = parts (not (list_any (λ other. bytes_eq other x) xs)) (all_differ xs) h in
    let apart = neither (bytes_eq x name) (is_among xs name) free in
    let none : list_any (λ other. bytes_eq other x) (xs ++ name ∷ []) ≡ false =
    list_any-append (λ other. bytes_eq other x) xs (name ∷ [])
    ∙ (ap (λ t. t || (bytes_eq name x || false)) (not_true (list_any (λ other. bytes_eq other x) xs) known.0)
    ∙ ap (λ t. t || false) (bytes_differ x name apart.0)) in
    both (not (list_any (λ other. bytes_eq other x) (xs ++ name ∷ []))) (all_differ (xs ++ name ∷ [])) (ap not none)
    (push_differ xs name known.1 apart.1)

push_all : (test : List ℕ → Bool) (names : List (List ℕ)) (name : List ℕ) → list_all test names ≡ true → test name ≡ true → list_all test (names ++ name ∷ []) ≡ true
push_all test names name h e =
    list_all-append test names (name ∷ []) ∙ both (list_all test names) (test name && true) h (both (test name) true e refl)

used_kept : (taken names : List (List ℕ)) (name other : List ℕ) → is_used taken names other ≡ true → is_used taken (names ++ name ∷ []) other ≡ true
used_kept taken names name other h =
    ap (λ t. is_among taken other || t) (list_any-append (λ word. bytes_eq word other) names (name ∷ []))
    ∙ or_more (is_among taken other) (is_among names other) (bytes_eq name other || false) h

used_itself : (taken names : List (List ℕ)) (name : List ℕ) → is_used taken (names ++ name ∷ []) name ≡ true
used_itself taken names name =
    ap (λ t. is_among taken name || t) (list_any-append (λ word. bytes_eq word name) names (name ∷ []))
    ∙ or_last (is_among taken name) (is_among names name) (bytes_eq name name) (same_bytes name)

-- the candidates before the next number are used
used_next : (taken names : List (List ℕ)) (number : ℕ) → AreUsed taken names number → is_used taken names (temporary number) ≡ true → AreUsed taken names (number + 1)
used_next taken names number used here k low =
    let most : k ≤ number = omega arith in
    elim (eq-or-lt_of_le most) [ inl e ↦ rw e here | inr less ↦ used k less ]

-- what is held after a name was made
held_next : (taken names : List (List ℕ)) (name : List ℕ) (number next : ℕ) → HoldsNames taken names next → IsNextFree taken next name number →
    HoldsNames taken (names ++ name ∷ []) (number + 1)
held_next taken names name number next holds found =
    let first = first_free taken names name number next holds found in
    let free = neither (is_among taken name) (is_among names name) first.free in
    let small : number < 2 ^ 64 = omega (arith, found.small) in
    record {
      apart = record {
        differ = push_differ names name holds.apart.differ free.1;
        apart = push_all (λ other. not (is_among taken other)) names name holds.apart.apart (ap not free.0);
        identifiers = push_all is_plain_identifier names name holds.apart.identifiers (rw first.is (plain_temporary number small));
      };
      used = used_next taken (names ++ name ∷ []) number (λ k low. used_kept taken names name (temporary k) (first.used k low))
          (ap (is_used taken (names ++ name ∷ [])) (sym first.is) ∙ used_itself taken names name);
      unused = unused_next names name number next found.is found.reached holds.unused;
    }

-- ---- a temporary that was made

pub held_after : (taken names others after : List (List ℕ)) (name : List ℕ) (number next : ℕ) →
    others ≡ taken → after ≡ names ++ name ∷ [] → HoldsNames taken names next →
    IsNextFree others next name number → HoldsNames taken after (number + 1)
held_after taken names others after name number next e g holds found =
    rw g (held_next taken names name number next holds (subst (λ q. IsNextFree q next name number) e found))

abbrev with_names : List (List ℕ) → List (List ℕ) → TemporaryNames
with_names taken names = record { taken = taken; names = names }

makes_from : (taken names after : List (List ℕ)) (name : List ℕ) (number next given : ℕ) →
    after ≡ names ++ name ∷ [] → given ≡ length names → HoldsNames taken names next → IsNextFree taken next name number →
    Makes (with_names taken names) (with_names taken after) given
makes_from taken names after name number next given g counted holds found = record {
  counted = counted;
  kept = refl;
  name = name;
  named = named_first taken names name number (first_free taken names name number next holds found);
  made = g;
}

pub makes_after : (before : TemporaryNames) (taken names others after : List (List ℕ)) (name : List ℕ) (number next given : ℕ) →
    with_names taken names ≡ before → others ≡ taken → after ≡ names ++ name ∷ [] → given ≡ length names →
    HoldsNames taken names next → IsNextFree others next name number → Makes before (with_names taken after) given
makes_after before taken names others after name number next given viewed e g counted holds found =
    subst (λ q. Makes q (with_names taken after) given) viewed
    (makes_from taken names after name number next given g counted holds (subst (λ q. IsNextFree q next name number) e found))
