-- What is seen of the ways to a node: they come out of a nest of the list with this number or an earlier one, and where they all come out of one arm, which it is.
use Rattle.std.proofs.Common.{◌≡◌, ◌∙◌, ◌⊎◌, inl, inr, ℕ, ◌<◌, ◌≤◌, ◌==◌, nat_lt, Bool, true, false, ◌&&◌, List, [], ◌∷◌, Option, Some, None, if◌then◌else◌, arith, refl, sym, ap, subst}
use Rattle.std.proofs.lemmas.Bool.{ltb-false, ltb-true}
use Rattle.reloop.proofs.Sets.{same_number, equal_itself}
use Rattle.emit_rules.specs.Places.{Leaving, Seen, least, see, Table, with_seen, see_all}
use Rattle.emit_laws.proofs.Closing.{and_left, and_right}

-- an element of a list
abbrev pub IsAmong : {A : Type 0} → A → List A → Type 0
IsAmong one [] = ⊥
IsAmong one (first ∷ others) = (one ≡ first) ⊎ IsAmong one others

pub least_left : (a b : ℕ) → least a b ≤ a
least_left a b = by_test (nat_lt b a) refl
  where
    by_test : (test : Bool) → nat_lt b a ≡ test → (if test then b else a) ≤ a
    by_test true is = let less = ltb-true b a is in omega (arith, less)
    by_test false is = omega arith

pub least_right : (a b : ℕ) → least a b ≤ b
least_right a b = by_test (nat_lt b a) refl
  where
    by_test : (test : Bool) → nat_lt b a ≡ test → (if test then b else a) ≤ b
    by_test true is = omega arith
    by_test false is = let no = ltb-false b a is in omega (arith, no)

least_same : (a b : ℕ) → a ≡ b → least a b ≡ a
least_same a b same = by_test (nat_lt b a)
  where
    by_test : (test : Bool) → (if test then b else a) ≡ a
    by_test true = sym same
    by_test false = refl

some_same : (one other : Seen) → Some one ≡ Some other → one ≡ other
some_same one other same = cc

-- the ways out of an arm of a nest of the list with this number to a node were seen
pub record IsSeen (table : Table) (number node arm to : ℕ) : Type 0 where
  pub seen : Seen
  pub is : table to ≡ Some seen
  pub earlier : seen.sibling ≤ number
  pub one : seen.is_one ≡ true → (seen.sibling ≡ number) × (seen.node ≡ node) × (seen.arm ≡ arm)

-- what one way more makes of what was seen
record IsSame (old : Seen) (sibling : ℕ) (way : Leaving) : Type 0 where
  was_one : old.is_one ≡ true
  sibling_is : old.sibling ≡ sibling
  node_is : old.node ≡ way.node
  arm_is : old.arm ≡ way.arm

same_by : (sibling : ℕ) (is_direct : Bool) (way : Leaving) (old : Seen) → (see sibling is_direct way (Some old)).is_one ≡ true → IsSame old sibling way
same_by sibling is_direct way old is =
    let first = and_left (old.is_one && way.may_hold && old.sibling == sibling && old.node == way.node) (old.arm == way.arm) is in
    let second = and_left (old.is_one && way.may_hold && old.sibling == sibling) (old.node == way.node) first in
    let third = and_left (old.is_one && way.may_hold) (old.sibling == sibling) second in
    record {
      was_one = and_left old.is_one way.may_hold third;
      sibling_is = same_number old.sibling sibling (and_right (old.is_one && way.may_hold) (old.sibling == sibling) second);
      node_is = same_number old.node way.node (and_right (old.is_one && way.may_hold && old.sibling == sibling) (old.node == way.node) first);
      arm_is = same_number old.arm way.arm (and_right (old.is_one && way.may_hold && old.sibling == sibling && old.node == way.node) (old.arm == way.arm) is);
    }

module _ (sibling : ℕ) (is_direct : Bool) (way : Leaving) (table : Table) where
  abbrev after : Table
  after = with_seen way.to (see sibling is_direct way (table way.to)) table

  -- what was seen before is seen still
  see_keeps : (number node arm to : ℕ) → IsSeen table number node arm to → IsSeen after number node arm to
  see_keeps number node arm to before = by_test (to == way.to) refl
    where
      at_it : (same : (to == way.to) ≡ true) → table way.to ≡ Some before.seen
      at_it same = sym (ap table (same_number to way.to same)) ∙ before.is

      by_test : (test : Bool) → (to == way.to) ≡ test → IsSeen after number node arm to
      by_test false differ = record {
        seen = before.seen;
        is = ap (λ (test : Bool). if test then Some (see sibling is_direct way (table way.to)) else table to) differ ∙ before.is;
        earlier = before.earlier;
        one = before.one;
      }
      by_test true same = record {
        seen = see sibling is_direct way (Some before.seen);
        is = ap (λ (test : Bool). if test then Some (see sibling is_direct way (table way.to)) else table to) same
            ∙ ap (λ (found : Option Seen). Some (see sibling is_direct way found)) (at_it same);
        earlier = let fewer = least_left before.seen.sibling sibling in let earlier = before.earlier in omega (arith, fewer, earlier);
        one = λ is.
            let same_as = same_by sibling is_direct way before.seen is in
            let told = before.one same_as.was_one in
            (least_same before.seen.sibling sibling same_as.sibling_is ∙ told.0, told.1, told.2);
      }

  abbrev at_way : Option Seen
  at_way = Some (see sibling is_direct way (table way.to))

  after_at_way : after way.to ≡ at_way
  after_at_way = ap (λ (test : Bool). if test then at_way else table way.to) (equal_itself way.to)

  -- and the way itself is
  see_it : IsSeen after sibling way.node way.arm way.to
  see_it = by_found (table way.to) refl
    where
      by_found : (found : Option Seen) → table way.to ≡ found → IsSeen after sibling way.node way.arm way.to
      by_found None none = record {
        seen = see sibling is_direct way None;
        is = after_at_way ∙ ap (λ (found : Option Seen). Some (see sibling is_direct way found)) none;
        earlier = omega arith;
        one = λ is. (refl, refl, refl);
      }
      by_found (Some old) there = record {
        seen = see sibling is_direct way (Some old);
        is = after_at_way ∙ ap (λ (found : Option Seen). Some (see sibling is_direct way found)) there;
        earlier = least_right old.sibling sibling;
        one = λ is.
            let same_as = same_by sibling is_direct way old is in
            (least_same old.sibling sibling same_as.sibling_is ∙ same_as.sibling_is, same_as.node_is, same_as.arm_is);
      }

  -- what was seen of a node is what was seen before or with the way
  see_by : (C : Seen → Type 0) (to : ℕ) (seen : Seen) → ((to == way.to) ≡ false → table to ≡ Some seen → C seen) →
      (to ≡ way.to → (found : Option Seen) → table to ≡ found → see sibling is_direct way found ≡ seen → C seen) → after to ≡ Some seen → C seen
  see_by C to seen before with_it is = by_test (to == way.to) refl
    where
      by_test : (test : Bool) → (to == way.to) ≡ test → C seen
      by_test false differ = before differ (sym (ap (λ (test : Bool). if test then at_way else table to) differ) ∙ is)
      by_test true same =
          let at = same_number to way.to same in
          with_it at (table to) refl
          (some_same (see sibling is_direct way (table to)) seen (ap (λ (one : ℕ). Some (see sibling is_direct way (table one))) at ∙ sym (ap (λ (test : Bool). if test then at_way else table to) same) ∙ is))

-- all that is told of one arm of a nest of the list
abbrev pub AreTold : Table → ℕ → (ℕ → ℕ → ℕ → Type 0) → Type 0
AreTold table number IsArm = (to : ℕ) (seen : Seen) → table to ≡ Some seen → seen.sibling ≡ number → seen.is_one ≡ true → IsArm seen.node seen.arm to

-- all that was seen comes out of nests before this number
abbrev pub AreBefore : Table → ℕ → Type 0
AreBefore table number = (to : ℕ) (seen : Seen) → table to ≡ Some seen → seen.sibling < number

module _ (sibling : ℕ) (is_direct : Bool) where
  see_told : (way : Leaving) (table : Table) (number : ℕ) (IsArm : ℕ → ℕ → ℕ → Type 0) → AreTold table number IsArm → (sibling ≡ number → IsArm way.node way.arm way.to) →
      AreTold (after sibling is_direct way table) number IsArm
  see_told way table number IsArm told arm to seen is at one =
      see_by sibling is_direct way table (λ seen. seen.sibling ≡ number → seen.is_one ≡ true → IsArm seen.node seen.arm to) to seen (λ differ is. told to seen is)
      (λ same found there made. subst (λ (seen : Seen). seen.sibling ≡ number → seen.is_one ≡ true → IsArm seen.node seen.arm to) made (with_way same found there)) is at one
    where
      with_way : to ≡ way.to → (found : Option Seen) → table to ≡ found →
          (see sibling is_direct way found).sibling ≡ number → (see sibling is_direct way found).is_one ≡ true → IsArm (see sibling is_direct way found).node (see sibling is_direct way found).arm to
      with_way same None there at one = subst (IsArm way.node way.arm) (sym same) (arm at)
      with_way same (Some old) there at one =
          let same_as = same_by sibling is_direct way old one in
          told to old there (sym (least_same old.sibling sibling same_as.sibling_is) ∙ at) same_as.was_one

  see_before : (way : Leaving) (table : Table) (number : ℕ) → AreBefore table number → sibling < number → AreBefore (after sibling is_direct way table) number
  see_before way table number before less to seen is =
      see_by sibling is_direct way table (λ seen. seen.sibling < number) to seen (λ differ is. before to seen is)
      (λ same found there made. subst (λ (seen : Seen). seen.sibling < number) made (with_way found there)) is
    where
      with_way : (found : Option Seen) → table to ≡ found → (see sibling is_direct way found).sibling < number
      with_way None there = less
      with_way (Some old) there = let fewer = least_left old.sibling sibling in let was = before to old there in omega (arith, fewer, was)

  -- ---- all ways

  pub all_keep : (ways : List Leaving) (table : Table) (number node arm to : ℕ) → IsSeen table number node arm to → IsSeen (see_all sibling is_direct ways table) number node arm to
  all_keep [] table number node arm to before = before
  all_keep (way ∷ others) table number node arm to before =
      all_keep others (after sibling is_direct way table) number node arm to (see_keeps sibling is_direct way table number node arm to before)

  pub all_seen : (ways : List Leaving) (table : Table) (way : Leaving) → IsAmong way ways → IsSeen (see_all sibling is_direct ways table) sibling way.node way.arm way.to
  all_seen [] table way none = elim none [ ]
  all_seen (first ∷ others) table way (inl same) =
      subst (λ (one : Leaving). IsSeen (see_all sibling is_direct (first ∷ others) table) sibling one.node one.arm one.to) (sym same)
      (all_keep others (after sibling is_direct first table) sibling first.node first.arm first.to (see_it sibling is_direct first table))
  all_seen (first ∷ others) table way (inr later) = all_seen others (after sibling is_direct first table) way later

  pub all_told : (ways : List Leaving) (table : Table) (number : ℕ) (IsArm : ℕ → ℕ → ℕ → Type 0) → AreTold table number IsArm →
      ((way : Leaving) → IsAmong way ways → sibling ≡ number → IsArm way.node way.arm way.to) → AreTold (see_all sibling is_direct ways table) number IsArm
  all_told [] table number IsArm told arms = told
  all_told (way ∷ others) table number IsArm told arms =
      all_told others (after sibling is_direct way table) number IsArm (see_told way table number IsArm told (arms way (inl refl))) (λ one there. arms one (inr there))

  pub all_before : (ways : List Leaving) (table : Table) (number : ℕ) → AreBefore table number → sibling < number → AreBefore (see_all sibling is_direct ways table) number
  all_before [] table number before less = before
  all_before (way ∷ others) table number before less = all_before others (after sibling is_direct way table) number (see_before way table number before less) less
