-- Readers of lists, in both directions.
use Rattle.std.proofs.Common.{◌≡◌, ℕ, zero, suc, ◌<◌, Bool, true, false, cond, Option, Some, List, [], ◌∷◌, ◌++◌, length, map, fold, refl, sym, ap, ◌∙◌, subst, arith, append_assoc}
use Rattle.std.proofs.lemmas.Bool.{cond-true, cond-false}
use Rattle.cx_lex.specs.declared.token.Token.{Token}
use Rattle.straight_parse.specs.declared.sight.Sight.{Sight}
use Rattle.straight_parse.specs.Lists.{many, taking}
use Rattle.straight_parse.specs.Reading.{State, Reader, bind}
use Rattle.straight_parse.specs.Sights.{sight}
use Rattle.straight_parse.proofs.Readers.{bind_some, bind_elim, same_answer, none_some}
use Rattle.straight_tree.specs.Tokens.{joined}

-- P holds of each item
abbrev pub Each : {A : Type 0} → (A → Type 0) → List A → Type 0
Each P [] = Unit {0}
Each P (x ∷ xs) = P x × Each P xs

pub joined-append : (xs ys : List (List Token)) → joined (xs ++ ys) ≡ joined xs ++ joined ys
joined-append [] ys = refl
joined-append (x ∷ xs) ys = ap (λ (t : List Token). x ++ t) (joined-append xs ys) ∙ sym (append_assoc x (joined xs) (joined ys))

-- What was read of a list: the items whose tokens stood in front, taken in one after the other.
pub record Items {A B : Type 0} (P : A → Type 0) (tokens : A → List Token) (add : B → A → B) (stops : Sight → Bool) (all : B) (state : State) (made : B) (after : State) : Type 0 where
  pub items : List A
  pub spelled : state ≡ joined (map tokens items) ++ after
  pub good : Each P items
  pub taken : made ≡ fold add all items
  pub stopped : stops (sight after) ≡ true

module _ {A B : Type 0} (P : A → Type 0) (tokens : A → List Token) (add : B → A → B) (stops : Sight → Bool) (item : Reader A)
    (sound : (state : State) (a : A) (after : State) → item state ≡ Some (a, after) → (state ≡ tokens a ++ after) × P a) where
  more_items : (all : B) (state mid : State) (a : A) (made : B) (after : State) → (state ≡ tokens a ++ mid) × P a
      → Items P tokens add stops (add all a) mid made after → Items P tokens add stops all state made after
  more_items all state mid a made after one rest = record {
    items = a ∷ rest.items;
    spelled = one.0 ∙ ap (λ (t : List Token). tokens a ++ t) rest.spelled ∙ sym (append_assoc (tokens a) (joined (map tokens rest.items)) after);
    good = (one.1, rest.good);
    taken = rest.taken;
    stopped = rest.stopped;
  }

  many_turn : (turns : ℕ) (all : B) (state : State) (made : B) (after : State) (test : Bool) → stops (sight state) ≡ test
      → ((all : B) (state : State) (made : B) (after : State) → many stops (taking item add) turns all state ≡ Some (made, after) → Items P tokens add stops all state made after)
      → cond test (Some (all, state)) (bind (taking item add all) (many stops (taking item add) turns) state) ≡ Some (made, after)
      → Items P tokens add stops all state made after
  unfolding taking
  many_turn turns all state made after true stop rec e =
      same_answer (λ made after. Items P tokens add stops all state made after) all state made after e
      (record { items = []; spelled = refl; good = tt; taken = refl; stopped = stop })
  many_turn turns all state made after false stop rec e =
      bind_elim _ (taking item add all) (many stops (taking item add) turns) state made after e (λ next mid h k.
      bind_elim _ item (λ a. λ s. Some (add all a, s)) state next mid h (λ a behind one same.
      more_items all state behind a made after (sound state a behind one)
      (same_answer (λ next mid. many stops (taking item add) turns next mid ≡ Some (made, after) → Items P tokens add stops (add all a) behind made after)
      (add all a) behind next mid same (λ read. rec (add all a) behind made after read) k)))

  pub many_sound : (turns : ℕ) (all : B) (state : State) (made : B) (after : State) → many stops (taking item add) turns all state ≡ Some (made, after)
      → Items P tokens add stops all state made after
  unfolding many
  many_sound zero all state made after e = none_some _ _ e
  many_sound (suc turns) all state made after e =
      many_turn turns all state made after (stops (sight state)) refl (λ all state made after read. many_sound turns all state made after read) e

-- Items that are read one after the other. `Follows` says what may stand behind an item.
module _ {A B : Type 0} (P : A → Type 0) (tokens : A → List Token) (add : B → A → B) (stops : Sight → Bool) (item : Reader A) (Follows : State → Type 0)
    (begins : (a : A) (behind : State) → P a → stops (sight (tokens a ++ behind)) ≡ false)
    (follows : (a : A) (behind : State) → P a → Follows (tokens a ++ behind))
    (reads : (a : A) (behind : State) → P a → Follows behind → item (tokens a ++ behind) ≡ Some (a, behind)) where
  follows_joined : (items : List A) (rest : State) → Each P items → Follows rest → Follows (joined (map tokens items) ++ rest)
  follows_joined [] rest good end = end
  follows_joined (a ∷ items) rest good end =
      subst Follows (sym (append_assoc (tokens a) (joined (map tokens items)) rest)) (follows a (joined (map tokens items) ++ rest) good.0)

  pub many_reads : (items : List A) (turns : ℕ) (all : B) (rest : State) → length items < turns → Each P items → Follows rest → stops (sight rest) ≡ true
      → many stops (taking item add) turns all (joined (map tokens items) ++ rest) ≡ Some (fold add all items, rest)
  unfolding many taking
  many_reads items zero all rest room good end stop = absurd (omega arith)
  many_reads [] (suc turns) all rest room good end stop = cond-true (stops (sight rest)) _ _ stop
  many_reads (a ∷ items) (suc turns) all rest room good end stop =
      let behind = joined (map tokens items) ++ rest in
      let front : (tokens a ++ joined (map tokens items)) ++ rest ≡ tokens a ++ behind = append_assoc (tokens a) (joined (map tokens items)) rest in
      let one : item (tokens a ++ behind) ≡ Some (a, behind) = reads a behind good.0 (follows_joined items rest good.1 end) in
      ap (λ (s : State). many stops (taking item add) (suc turns) all s) front
      ∙ cond-false (stops (sight (tokens a ++ behind))) _ _ (begins a behind good.0)
      ∙ bind_some (taking item add all) (many stops (taking item add) turns) (tokens a ++ behind) (add all a) behind
      (bind_some item (λ a. λ s. Some (add all a, s)) (tokens a ++ behind) a behind one)
      ∙ many_reads items turns (add all a) rest (omega arith) good.1 end stop

-- a loop of steps that each keep a fact
module _ {A : Type 0} (P : A → State → Type 0) (stops : Sight → Bool) (step : A → Reader A)
    (keeps : (all : A) (state : State) (next : A) (after : State) → P all state → step all state ≡ Some (next, after) → P next after) where
  keeps_turn : (turns : ℕ) (all : A) (state : State) (made : A) (after : State) (test : Bool) → P all state
      → ((all : A) (state : State) → P all state → many stops step turns all state ≡ Some (made, after) → P made after)
      → cond {A = Option (A × State)} test (Some (all, state)) (bind (step all) (many stops step turns) state) ≡ Some (made, after) → P made after
  keeps_turn turns all state made after true p rec e = same_answer P all state made after e p
  keeps_turn turns all state made after false p rec e =
      bind_elim _ (step all) (many stops step turns) state made after e (λ next mid h k. rec next mid (keeps all state next mid p h) k)

  pub many_keeps : (turns : ℕ) (all : A) (state : State) (made : A) (after : State) → P all state → many stops step turns all state ≡ Some (made, after) → P made after
  unfolding many
  many_keeps zero all state made after p e = none_some _ _ e
  many_keeps (suc turns) all state made after p e =
      keeps_turn turns all state made after (stops (sight state)) p (λ next mid q k. many_keeps turns next mid made after q k) e
