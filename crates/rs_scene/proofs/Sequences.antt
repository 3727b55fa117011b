-- Pieces one behind the other, and lists that grow piece by piece.
use Rattle.std.proofs.Common.{◌≡◌, refl, sym, ap, ℕ, List, [], ◌∷◌, ◌++◌, append_assoc, append-nil}
use Rattle.cr_runs.specs.Runs.{Ran, came, halted, bad, out, bind}
use Rattle.cr_world.specs.World.{World, Stop}
use Rattle.rs_mean.specs.declared.cause.Cause.{Cause}
use Rattle.rs_mean.specs.World.{Run, pure, seq}
use Rattle.rs_machine.specs.Does.{End, gives, Does}
use Rattle.rs_machine.specs.States.{State}
use Rattle.rs_machine.proofs.Pieces.{then_does, same_does}
use Rattle.rs_machine.proofs.Rules.{pure_does, pure_is}

bind_bind : {A B C : Type 0} (first : Ran (Stop Cause) World A) (next : A → Run B) (last : B → Run C) →
    bind first (λ value world left. bind (next value world left) last) ≡ bind (bind first next) last
bind_bind (came value world left) next last = refl
bind_bind (halted status world) next last = refl
bind_bind (bad why world) next last = refl
bind_bind (out world) next last = refl

joined : {A B C : Type 0} (first : Run A) (next : A → Run B) (last : B → Run C) (world : World) (units : ℕ) →
    seq first (λ value. seq (next value) last) world units ≡ seq (seq first next) last world units
unfolding seq
joined first next last world units = bind_bind (first world units) next last

-- two pieces and a third, by the first and the other two
pub joined_does : {A B C : Type 0} (first : Run A) (next : A → Run B) (last : B → Run C) {end : End C} {before after : State} →
    Does (seq first (λ value. seq (next value) last)) end before after → Does (seq (seq first next) last) end before after
joined_does first next last does = same_does (seq first (λ value. seq (next value) last)) (seq (seq first next) last) (joined first next last) does

-- and the other way round
pub parted_does : {A B C : Type 0} (first : Run A) (next : A → Run B) (last : B → Run C) {end : End C} {before after : State} →
    Does (seq (seq first next) last) end before after → Does (seq first (λ value. seq (next value) last)) end before after
parted_does first next last does =
    same_does (seq (seq first next) last) (seq first (λ value. seq (next value) last)) (λ world units. sym (joined first next last world units)) does

-- ---- lists

no_first : {X : Type 0} (found : Ran (Stop Cause) World (List X)) → bind found (λ others world left. came ([] ++ others) world left) ≡ found
no_first (came values world left) = refl
no_first (halted status world) = refl
no_first (bad why world) = refl
no_first (out world) = refl

none_first : {X : Type 0} (run : Run (List X)) (world : World) (units : ℕ) → seq run (λ others. pure ([] ++ others)) world units ≡ run world units
unfolding seq pure
none_first run world units = no_first (run world units)

-- a list behind none
pub behind_none : {X : Type 0} (run : Run (List X)) {end : End (List X)} {before after : State} →
    Does (seq run (λ others. pure ([] ++ others))) end before after → Does run end before after
behind_none run does = same_does (seq run (λ others. pure ([] ++ others))) run (none_first run) does

-- no more elements
pub no_more : {X : Type 0} (done : List X) (at : State) → Does (seq (pure []) (λ others. pure (done ++ others))) (gives done) at at
no_more done at = then_does _ (pure_does [] at) (pure_is (done ++ []) done (sym (append-nil done)) at)

behind_one : {X : Type 0} (done : List X) (one : X) (found : Ran (Stop Cause) World (List X)) →
    bind found (λ others world left. came (done ++ one ∷ [] ++ others) world left)
    ≡ bind (bind found (λ others world left. came (one ∷ others) world left)) (λ others world left. came (done ++ others) world left)
behind_one done one (came others world left) = ap (λ (all : List _). came all world left) (append_assoc done (one ∷ []) others)
behind_one done one (halted status world) = refl
behind_one done one (bad why world) = refl
behind_one done one (out world) = refl

one_behind : {X : Type 0} (done : List X) (one : X) (run : Run (List X)) (world : World) (units : ℕ) →
    seq run (λ others. pure (done ++ one ∷ [] ++ others)) world units ≡ seq (seq run (λ others. pure (one ∷ others))) (λ others. pure (done ++ others)) world units
unfolding seq pure
one_behind done one run world units = behind_one done one (run world units)

-- one more element, and the others behind it
pub one_more : {X : Type 0} (done : List X) (one : X) (run : Run (List X)) {end : End (List X)} {before after : State} →
    Does (seq run (λ others. pure (done ++ one ∷ [] ++ others))) end before after →
    Does (seq (seq run (λ others. pure (one ∷ others))) (λ others. pure (done ++ others))) end before after
one_more done one run does =
    same_does (seq run (λ others. pure (done ++ one ∷ [] ++ others))) (seq (seq run (λ others. pure (one ∷ others))) (λ others. pure (done ++ others))) (one_behind done one run) does
