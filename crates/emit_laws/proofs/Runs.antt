-- Pieces of runs one behind another.
use Rattle.std.proofs.Common.{◌≡◌, ℕ, refl, ap}
use Rattle.std.proofs.Math.Path.{fun_ext}
use Rattle.cr_runs.proofs.Rules.{bind_bind, bind_came}
use Rattle.cr_world.specs.World.{World}
use Rattle.rs_mean.specs.World.{Run, pure, seq}

-- runs are the same where they are under each bound
pub same_runs : {A : Type 0} (run other : Run A) → ((world : World) (units : ℕ) → run world units ≡ other world units) → run ≡ other
same_runs run other same = fun_ext (λ world. fun_ext (λ units. same world units))

pub seq_seq : {A B C : Type 0} (first : Run A) (next : A → Run B) (last : B → Run C) → seq (seq first next) last ≡ seq first (λ value. seq (next value) last)
unfolding seq
seq_seq first next last = same_runs _ _ (λ world units. bind_bind (first world units) next last)

pub seq_with : {A B : Type 0} (first : Run A) (next other : A → Run B) → ((value : A) → next value ≡ other value) → seq first next ≡ seq first other
seq_with {A = A} {B = B} first next other same = ap (λ (go : A → Run B). seq first go) (fun_ext same)

pub pure_seq : {A B : Type 0} (value : A) (next : A → Run B) → seq (pure value) next ≡ next value
unfolding seq pure
pure_seq value next = refl

pub seq_pure : {A : Type 0} (first : Run A) → seq first (λ value. pure value) ≡ first
unfolding seq pure
seq_pure first = same_runs _ _ (λ world units. bind_came (first world units))
