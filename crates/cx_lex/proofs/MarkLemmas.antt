-- The first mark of the table that the bytes begin with is the longest.
use Rattle.std.proofs.Common.{◌≡◌, ℕ, zero, suc, ◌≤◌, ◌<◌, nat_eq, nat_le, Bool, true, false, ◌&&◌, Option, Some, None, List, [], ◌∷◌, length, take, bytes_eq, refl, sym, ap, ◌∙◌, subst, ⊎_elim, arith}
use Rattle.std.specs.List.{starts_with}
use Rattle.std.proofs.lemmas.Bool.{cond-true, cond-false, cases_Bool, and_parts, and_from, both_ways, false_from_ne_true, eq-eqb, eqb-true, leb-true}
use Rattle.cx_lex.specs.declared.token.Punct.{Punct}
use Rattle.cx_lex.specs.Words.{entry_of}
use Rattle.cx_lex.specs.Marks.{marks}
use Rattle.cx_lex.specs.Mirror.{mark_in}

abbrev Table : Type 0
Table = List (List ℕ × Punct)

-- each text has at least one byte, and is no longer than the one before
abbrev falls : ℕ → Table → Bool
falls most [] = true
falls most (entry ∷ table) = (nat_le 1 (length entry.0) && nat_le (length entry.0) most) && falls (length entry.0) table

pub marks-fall : falls 3 marks ≡ true
unfolding marks
marks-fall = refl

swap_eq : (a b : ℕ) → nat_eq a b ≡ true → nat_eq b a ≡ true
swap_eq a b is = eq-eqb b a (sym (eqb-true a b is))

-- a front that equals a text is as long, and the bytes begin with the text
front_is : (bytes text : List ℕ) (n : ℕ) → bytes_eq (take n bytes) text ≡ true → n ≤ length bytes → (length text ≡ n) × (starts_with nat_eq bytes text ≡ true)
front_is bytes [] zero is le = (refl, refl)
front_is [] [] (suc n) is le = absurd (omega arith)
front_is (b ∷ rest) [] (suc n) is le = cc
front_is bytes (c ∷ text) zero is le = cc
front_is [] (c ∷ text) (suc n) is le = absurd (omega arith)
front_is (b ∷ rest) (c ∷ text) (suc n) is le =
    let parts = and_parts (nat_eq b c) (bytes_eq (take n rest) text) is in
    let later = front_is rest text n parts.1 (omega arith) in
    (ap suc later.0, and_from _ _ (swap_eq b c parts.0) later.1)

-- the front of a text's length equals the text where the bytes begin with it
front_has : (bytes text : List ℕ) → starts_with nat_eq bytes text ≡ true → (length text ≤ length bytes) × (bytes_eq (take (length text) bytes) text ≡ true)
front_has bytes [] is = (omega arith, refl)
front_has [] (c ∷ text) is = cc
front_has (b ∷ rest) (c ∷ text) is =
    let parts = and_parts (nat_eq c b) (starts_with nat_eq rest text) is in
    let later = front_has rest text parts.1 in
    (omega (arith, later.0), and_from _ _ (swap_eq c b parts.0) later.1)

-- where the bytes don't begin with a text, no front equals it
front_not : (bytes text : List ℕ) (n : ℕ) → starts_with nat_eq bytes text ≡ false → n ≤ length bytes → bytes_eq (take n bytes) text ≡ false
front_not bytes text n not_begun le =
    false_from_ne_true (bytes_eq (take n bytes) text) (λ is. both_ways (starts_with nat_eq bytes text) not_begun (front_is bytes text n is le).1)

-- nor does one that is longer
front_longer : (bytes text : List ℕ) (n : ℕ) → length text < n → n ≤ length bytes → bytes_eq (take n bytes) text ≡ false
front_longer bytes text n longer le =
    false_from_ne_true (bytes_eq (take n bytes) text) (λ is. omega (arith, (front_is bytes text n is le).0))

record Falls (most : ℕ) (text : List ℕ) (table : Table) : Type 0 where
  some : 1 ≤ length text
  within : length text ≤ most
  later : falls (length text) table ≡ true

falls-parts : (most : ℕ) (text : List ℕ) (table : Table) → ((nat_le 1 (length text) && nat_le (length text) most) && falls (length text) table) ≡ true → Falls most text table
falls-parts most text table is =
    let parts = and_parts _ _ is in
    let both = and_parts _ _ parts.0 in
    record { some = leb-true 1 (length text) both.0; within = leb-true (length text) most both.1; later = parts.1 }

-- the entry of a front, where the first text of the table is another
entry_of-later : (front : List ℕ) (entry : List ℕ × Punct) (table : Table) → bytes_eq front entry.0 ≡ false → entry_of (entry ∷ table) front ≡ entry_of table front
entry_of-later front entry table other = cond-false (bytes_eq front entry.0) (Some entry.1) (entry_of table front) other

-- no text is longer than the first
entry_of-longer : (most : ℕ) (table : Table) (bytes : List ℕ) (n : ℕ) → falls most table ≡ true → most < n → n ≤ length bytes → entry_of table (take n bytes) ≡ None
entry_of-longer most [] bytes n fall longer le = refl
entry_of-longer most (entry ∷ table) bytes n fall longer le =
    let parts = falls-parts most entry.0 table fall in
    entry_of-later (take n bytes) entry table (front_longer bytes entry.0 n (omega (arith, parts.within)) le)
    ∙ entry_of-longer (length entry.0) table bytes n parts.later (omega (arith, parts.within)) le

-- n bytes are the longest front that is a text of the table, with that mark
pub record IsLongestMark (table : Table) (bytes : List ℕ) (n : ℕ) (mark : Punct) : Type 0 where
  pub some : 1 ≤ n
  pub within : n ≤ length bytes
  pub here : entry_of table (take n bytes) ≡ Some mark
  pub longer : (m : ℕ) → n < m → m ≤ length bytes → entry_of table (take m bytes) ≡ None

-- the first entry that the bytes begin with
first_found : (most : ℕ) (entry : List ℕ × Punct) (table : Table) (bytes : List ℕ) → falls most (entry ∷ table) ≡ true → starts_with nat_eq bytes entry.0 ≡ true
    → IsLongestMark (entry ∷ table) bytes (length entry.0) entry.1
first_found most entry table bytes fall begun =
    let parts = falls-parts most entry.0 table fall in
    let has = front_has bytes entry.0 begun in
    record {
      some = parts.some;
      within = has.0;
      here = cond-true (bytes_eq (take (length entry.0) bytes) entry.0) (Some entry.1) (entry_of table (take (length entry.0) bytes)) has.1;
      longer = λ m more le.
          entry_of-later (take m bytes) entry table (front_longer bytes entry.0 m more le) ∙ entry_of-longer (length entry.0) table bytes m parts.later more le;
    }

later_found : (entry : List ℕ × Punct) (table : Table) (bytes : List ℕ) (n : ℕ) (mark : Punct) → starts_with nat_eq bytes entry.0 ≡ false → IsLongestMark table bytes n mark
    → IsLongestMark (entry ∷ table) bytes n mark
later_found entry table bytes n mark other found = record {
  some = found.some;
  within = found.within;
  here = entry_of-later (take n bytes) entry table (front_not bytes entry.0 n other found.within) ∙ found.here;
  longer = λ m more le. entry_of-later (take m bytes) entry table (front_not bytes entry.0 m other le) ∙ found.longer m more le;
}

pub mark-longest : (most : ℕ) (table : Table) (bytes : List ℕ) (n : ℕ) (mark : Punct) → falls most table ≡ true → mark_in table bytes ≡ Some (n, mark) → IsLongestMark table bytes n mark
mark-longest most [] bytes n mark fall is = cc
mark-longest most (entry ∷ table) bytes n mark fall is =
    let begun = starts_with nat_eq bytes entry.0 in
    let here : Option (ℕ × Punct) = Some (length entry.0, entry.1) in
    ⊎_elim
    (λ yes_begun.
    let e : ◌≡◌ {A = ℕ × Punct} (length entry.0, entry.1) (n, mark) = let h = sym (cond-true begun here (mark_in table bytes) yes_begun) ∙ is in cc in
    subst (λ (p : ℕ × Punct). IsLongestMark (entry ∷ table) bytes p.0 p.1) e (first_found most entry table bytes fall yes_begun))
    (λ other.
    later_found entry table bytes n mark other
    (mark-longest (length entry.0) table bytes n mark (falls-parts most entry.0 table fall).later (sym (cond-false begun here (mark_in table bytes) other) ∙ is)))
    (cases_Bool begun)

pub mark-none : (table : Table) (bytes : List ℕ) (n : ℕ) → mark_in table bytes ≡ None → n ≤ length bytes → entry_of table (take n bytes) ≡ None
mark-none [] bytes n is le = refl
mark-none (entry ∷ table) bytes n is le =
    let begun = starts_with nat_eq bytes entry.0 in
    let here : Option (ℕ × Punct) = Some (length entry.0, entry.1) in
    ⊎_elim
    (λ yes_begun. let h = sym (cond-true begun here (mark_in table bytes) yes_begun) ∙ is in cc)
    (λ other.
    entry_of-later (take n bytes) entry table (front_not bytes entry.0 n other le)
    ∙ mark-none table bytes n (sym (cond-false begun here (mark_in table bytes) other) ∙ is) le)
    (cases_Bool begun)
