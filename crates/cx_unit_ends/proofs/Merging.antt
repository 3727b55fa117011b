-- Objects that are merged with those of literals, as they would be put one by one.
use Rattle.std.proofs.Common.{arith, ◌≡◌, refl, sym, ap, ◌∙◌, subst, ℕ, suc, ◌<◌, ◌≤◌, ◌⊎◌, inl, inr, nat_le, ◌&&◌, Bool, true, false, not, if◌then◌else◌, List, [], ◌∷◌, ◌++◌, map, reverse, Option, None, Some, find}
use Rattle.std.proofs.lemmas.Bool.Decides.{nat_tests}
use Rattle.std.proofs.lemmas.List.{append_assoc, map-append, reverse-append, reverse-reverse}
use Rattle.cx_core.specs.Trees.{CObject}
use Rattle.cx_core.specs.Views.{view_object}
use Rattle.cx_core.specs.declared.program.CoreObject.{CoreObject}
use Rattle.cx_rules.specs.Scope.{CMade, CThing}
use Rattle.cx_scope.specs.Objects.{AreAbove}
use Rattle.cx_unit_ends.proofs.Ordering.{onto_nothing, onto_both}
use Rattle.cx_unit_ends.specs.Ends.{final_as, final_by, final_object, made_object, names_object, objects_of, ordered_onto, put_object}
use Rattle.cx_unit_ends.specs.Merged.{is_first_below, taken_below, left_above, merged}

-- each number is at least this one, and less than those behind it
abbrev AreRising : ℕ → List CObject → Type 0
AreRising least [] = Unit {0}
AreRising least (one ∷ others) = (least ≤ one.object) × AreRising (suc one.object) others

rises_from : (low least : ℕ) (objects : List CObject) → low ≤ least → AreRising least objects → AreRising low objects
rises_from low least [] less rising = tt
rises_from low least (one ∷ others) less rising = (let h = rising.0 in omega (arith, less, h), rising.1)

-- ---- one that goes in front

at_front : (one first : CObject) (others : List CObject) → one.object ≤ first.object → put_object one (first ∷ others) ≡ one ∷ first ∷ others
at_front one first others less = let is : nat_le one.object first.object ≡ true = grind (arith, nat_tests) in rw is refl

behind_first : (one first : CObject) (others : List CObject) → first.object < one.object → put_object one (first ∷ others) ≡ first ∷ put_object one others
behind_first one first others less = let is : nat_le one.object first.object ≡ false = grind (arith, nat_tests) in rw is refl

none_taken : (number : ℕ) (one : CObject) (others : List CObject) → number ≤ one.object → (taken_below number (one ∷ others) ≡ []) × (left_above number (one ∷ others) ≡ one ∷ others)
none_taken number one others less = let is : nat_le number one.object ≡ true = grind (arith, nat_tests) in (rw is refl, rw is refl)

one_taken : (number : ℕ) (one : CObject) (others : List CObject) → one.object < number
    → (taken_below number (one ∷ others) ≡ one ∷ taken_below number others) × (left_above number (one ∷ others) ≡ left_above number others)
one_taken number one others less = let is : nat_le number one.object ≡ false = grind (arith, nat_tests) in (rw is refl, rw is refl)

-- an object whose number is below all others'
put_front : (one : CObject) (objects others : List CObject) → AreRising (suc one.object) objects → (first : CObject) (rest : List CObject) → others ≡ first ∷ rest → one.object ≤ first.object
    → put_object one (merged objects others) ≡ one ∷ merged objects others
put_front one [] others rising first rest is less = ap (put_object one) is ∙ at_front one first rest less ∙ ap (λ all. one ∷ all) (sym is)
put_front one (next ∷ objects) others rising first rest is less = by (order next.object first.object) where
  order : (m n : ℕ) → (m ≤ n) ⊎ (n < m)
  order m n = grind (arith)

  by : (next.object ≤ first.object) ⊎ (first.object < next.object) → put_object one (merged (next ∷ objects) others) ≡ one ∷ merged (next ∷ objects) others
  by (inl before) =
      let none = none_taken next.object first rest before in
      let e : merged (next ∷ objects) others ≡ next ∷ merged objects (first ∷ rest) =
      ap (λ all. merged (next ∷ objects) all) is ∙ ap (λ front. front ++ next ∷ merged objects (left_above next.object (first ∷ rest))) none.0
      ∙ ap (λ back. next ∷ merged objects back) none.1 in
      ap (put_object one) e ∙ at_front one next (merged objects (first ∷ rest)) (let h = rising.0 in omega (arith, h)) ∙ ap (λ all. one ∷ all) (sym e)
  by (inr behind) =
      let taken = one_taken next.object first rest behind in
      let e : merged (next ∷ objects) others ≡ first ∷ (taken_below next.object rest ++ next ∷ merged objects (left_above next.object rest)) =
      ap (λ all. merged (next ∷ objects) all) is ∙ ap (λ front. front ++ next ∷ merged objects (left_above next.object (first ∷ rest))) taken.0
      ∙ ap (λ back. first ∷ (taken_below next.object rest ++ next ∷ merged objects back)) taken.1 in
      ap (put_object one) e ∙ at_front one first (taken_below next.object rest ++ next ∷ merged objects (left_above next.object rest)) less ∙ ap (λ all. one ∷ all) (sym e)

put_alone : (one : CObject) (objects : List CObject) → AreRising (suc one.object) objects → put_object one (merged objects []) ≡ one ∷ merged objects []
put_alone one [] rising = refl
put_alone one (next ∷ objects) rising = at_front one next (merged objects []) (let h = rising.0 in omega (arith, h))

passed : (objects others : List CObject) (first : CObject) (least : ℕ) → AreRising least objects → first.object < least → merged objects (first ∷ others) ≡ first ∷ merged objects others
passed [] others first least rising less = refl
passed (next ∷ objects) others first least rising less =
    let taken = one_taken next.object first others (let h = rising.0 in omega (arith, less, h)) in
    ap (λ front. front ++ next ∷ merged objects (left_above next.object (first ∷ others))) taken.0
    ∙ ap (λ back. first ∷ (taken_below next.object others ++ next ∷ merged objects back)) taken.1

in_order : (m n : ℕ) → (m ≤ n) ⊎ (n < m)
in_order m n = grind (arith)

put_by : (one first : CObject) (objects others : List CObject) → AreRising (suc one.object) objects → put_object one (merged objects others) ≡ merged (one ∷ objects) others
    → (one.object ≤ first.object) ⊎ (first.object < one.object) → put_object one (merged objects (first ∷ others)) ≡ merged (one ∷ objects) (first ∷ others)
put_by one first objects others rising rest (inl before) =
    let none = none_taken one.object first others before in
    put_front one objects (first ∷ others) rising first others refl before
    ∙ sym (ap (λ front. front ++ one ∷ merged objects (left_above one.object (first ∷ others))) none.0 ∙ ap (λ back. one ∷ merged objects back) none.1)
put_by one first objects others rising rest (inr behind) =
    let taken = one_taken one.object first others behind in
    ap (put_object one) (passed objects others first (suc one.object) rising (omega (arith, behind)))
    ∙ behind_first one first (merged objects others) behind
    ∙ ap (λ all. first ∷ all) rest
    ∙ sym (ap (λ front. front ++ one ∷ merged objects (left_above one.object (first ∷ others))) taken.0
    ∙ ap (λ back. first ∷ (taken_below one.object others ++ one ∷ merged objects back)) taken.1)

put_merged : (one : CObject) (objects others : List CObject) → AreRising (suc one.object) objects → put_object one (merged objects others) ≡ merged (one ∷ objects) others
put_merged one objects [] rising = put_alone one objects rising
put_merged one objects (first ∷ others) rising = put_by one first objects others rising (put_merged one objects others rising) (in_order one.object first.object)

onto_merged : (objects others : List CObject) (least : ℕ) → AreRising least objects → ordered_onto objects others ≡ merged objects others
onto_merged [] others least rising = refl
onto_merged (one ∷ objects) others least rising =
    ap (put_object one) (onto_merged objects others (suc one.object) rising.1) ∙ put_merged one objects others rising.1

-- ---- the objects of a unit

final_number : (one : CObject) (found : Option CThing) → (final_as one found).object ≡ one.object
final_number one None = refl
final_number one (Some thing) = by_state thing.is_defined refl
  where
    by_state : (is_defined : Bool) → thing.is_defined ≡ is_defined → (if is_defined then one else final_by thing one).object ≡ one.object
    by_state true e = refl
    by_state false e = refl

pub keeps_number : (things : List CThing) (one : CObject) → (final_object things one).object ≡ one.object
keeps_number things one = final_number one (find (names_object one.object) things)

final_rising : (things : List CThing) (least : ℕ) (objects : List CoreObject) → AreAbove least objects → AreRising least (map (final_object things) (map view_object objects))
final_rising things least [] above = tt
final_rising things least (one ∷ others) above =
    let same = keeps_number things (view_object one) in
    (subst (λ n. least ≤ n) (sym same) above.0, subst (λ n. AreRising (suc n) (map (final_object things) (map view_object others))) (sym same) (final_rising things (suc one.object) others above.1))

pub all_merged : (unit : ℕ) (things : List CThing) (objects : List CoreObject) (literals : List CMade) (held done : List CoreObject) → AreAbove 0 objects
    → reverse (map view_object held) ≡ ordered_onto (map (made_object unit) literals) []
    → map view_object done ≡ merged (map (final_object things) (map view_object objects)) (reverse (map view_object held))
    → map view_object done ≡ objects_of unit things (map view_object objects) literals
all_merged unit things objects literals held done above put is =
    is ∙ ap (merged (map (final_object things) (map view_object objects))) (put ∙ onto_nothing (map (made_object unit) literals))
    ∙ sym (onto_merged (map (final_object things) (map view_object objects)) _ 0 (final_rising things 0 objects above))
    ∙ onto_both (map (final_object things) (map view_object objects)) (map (made_object unit) literals)

-- ---- steps

pub moved : (held : List CObject) (number : ℕ) (one : CObject) (rest : List CObject) → held ≡ one ∷ rest → is_first_below number held ≡ true
    → (taken_below number held ≡ one ∷ taken_below number rest) × (left_above number held ≡ left_above number rest)
moved held number one rest is below = by (nat_le number one.object) refl where
  by : (test : Bool) → nat_le number one.object ≡ test → (taken_below number held ≡ one ∷ taken_below number rest) × (left_above number held ≡ left_above number rest)
  by true e = absurd (let h : not (nat_le number one.object) ≡ true = ap (is_first_below number) (sym is) ∙ below in let f : not true ≡ true = ap not (sym e) ∙ h in cc)
  by false e = (ap (taken_below number) is ∙ rw e refl, ap (left_above number) is ∙ rw e refl)

pub none_moved : (held : List CObject) (number : ℕ) → is_first_below number held ≡ false → (taken_below number held ≡ []) × (left_above number held ≡ held)
none_moved [] number below = (refl, refl)
none_moved (one ∷ rest) number below = by (nat_le number one.object) refl where
  by : (test : Bool) → nat_le number one.object ≡ test → (taken_below number (one ∷ rest) ≡ []) × (left_above number (one ∷ rest) ≡ one ∷ rest)
  by true e = (rw e refl, rw e refl)
  by false e = absurd (let f : not false ≡ false = ap not (sym e) ∙ below in cc)

pub finished_one : (made : CObject) (number : ℕ) (others done mid now held later : List CObject) → made.object ≡ number → mid ≡ done ++ taken_below number held → later ≡ left_above number held
    → now ≡ mid ++ made ∷ [] → now ++ merged others later ≡ done ++ merged (made ∷ others) held
finished_one made number others done mid now held later same taken left is =
    ap (λ all. all ++ merged others later) (is ∙ ap (λ all. all ++ made ∷ []) taken)
    ∙ append_assoc (done ++ taken_below number held) (made ∷ []) (merged others later)
    ∙ append_assoc done (taken_below number held) (made ∷ merged others later)
    ∙ ap (λ rest. done ++ (taken_below number held ++ made ∷ merged others rest)) left
    ∙ ap (λ n. done ++ (taken_below n held ++ made ∷ merged others (left_above n held))) (sym same)
