-- The numbers of allocated blocks, held with the greatest in front.
use Rattle.std.proofs.Common.{◌≡◌, ◌∙◌, refl, ap, sym, arith, ℕ, ℤ, ◌==◌, nat_lt, Bool, true, false, cond, List, [], ◌∷◌, if◌then◌else◌, ◌||◌}
use Rattle.std.proofs.lemmas.Bool.{ltb-true, ne_eqb}
use Rattle.std.specs.Bool.{OnFalse}
use Rattle.std.specs.List.{list_any}
use Rattle.std.specs.Ordering.{is_eq, nat_cmp}
use Rattle.std.specs.Set.{remove_key}
use Rattle.std.specs.declared.cmp.Ordering.TheVariants.{Less, Equal, Greater}
use Rattle.std.specs.declared.cmp.Reverse.{Reverse}
use Rattle.cr_world.specs.Held.{is_listed, without_entry}
use Rattle.cx_outside.specs.Moves.{Released}
use Rattle.cx_outside.specs.States.{numbers_of}

-- ---- numbers that are equal

ordered_alike : (less same : Bool) → (less ≡ true → same ≡ false) → is_eq (cond less Less (cond same Equal Greater)) ≡ same
ordered_alike true same apart = sym (apart refl)
ordered_alike false true apart = refl
ordered_alike false false apart = refl

compared : (one other : ℕ) → is_eq (nat_cmp one other) ≡ (one == other)
compared one other = ordered_alike (nat_lt one other) (one == other)
    (λ less. ne_eqb one other (λ same. let below = ltb-true one other less in absurd (omega (arith, below, same))))

-- whether a number of the list is this one
abbrev is_of : ℕ → Reverse ℕ → Bool
is_of block key = is_eq (nat_cmp key.0 block)

-- ---- a number is taken out

listed_step : (one same : Bool) → one ≡ same → (here there : Bool) → here ≡ there → (one || here) ≡ (if same then true else there)
listed_step true true is here there behind = refl
listed_step false false is here there behind = behind
listed_step true false is here there behind = absurd cc
listed_step false true is here there behind = absurd cc

is_there : (block : ℕ) (keys : List (Reverse ℕ)) → list_any (is_of block) keys ≡ is_listed block (numbers_of keys)
is_there block [] = refl
is_there block (first ∷ others) =
    listed_step (is_of block first) (first.0 == block) (compared first.0 block) (list_any (is_of block) others) (is_listed block (numbers_of others)) (is_there block others)

removed_step : (one same : Bool) → one ≡ same → (first : Reverse ℕ) (others rest : List (Reverse ℕ)) (numbers : List ℕ) → numbers_of rest ≡ numbers →
    numbers_of (cond one others (first ∷ rest)) ≡ (if same then numbers_of others else first.0 ∷ numbers)
removed_step true true is first others rest numbers behind = refl
removed_step false false is first others rest numbers behind = ap (λ (list : List ℕ). first.0 ∷ list) behind
removed_step true false is first others rest numbers behind = absurd cc
removed_step false true is first others rest numbers behind = absurd cc

is_removed : (block : ℕ) (keys : List (Reverse ℕ)) → numbers_of (remove_key (is_of block) keys) ≡ without_entry block (numbers_of keys)
is_removed block [] = refl
is_removed block (first ∷ others) =
    removed_step (is_of block first) (first.0 == block) (compared first.0 block) first others (remove_key (is_of block) others) (without_entry block (numbers_of others)) (is_removed block others)

pub is_released : (result : Bool) (block : ℕ) (trail : List ℤ) (before after : List (Reverse ℕ)) →
    result ≡ list_any (is_of block) before → after ≡ remove_key (is_of block) before → OnFalse result (after ≡ before) →
    Released result block (record { trail = trail; heap = numbers_of before }) (record { trail = trail; heap = numbers_of after })
is_released true block trail before after is keys same =
    (sym (is_there block before) ∙ sym is, ap (λ (list : List ℕ). record { trail = trail; heap = list }) (ap numbers_of keys ∙ is_removed block before))
is_released false block trail before after is keys same =
    (sym (is_there block before) ∙ sym is, ap (λ (list : List (Reverse ℕ)). record { trail = trail; heap = numbers_of list }) same)
