-- The end of a text as a return without value.
use Rattle.std.proofs.Common.{◌≡◌, ◌∙◌, ◌⊎◌, inl, inr, ℕ, ◌+◌, None, sym, ap, subst, arith}
use Rattle.cr_runs.specs.Owes.{Fails, Comes, Backed, Rests, Reached, Owes}
use Rattle.cr_runs.specs.Runs.{Ran, came, halted, bad, out, bind}
use Rattle.cr_world.specs.World.{World, Stop, events_of}
use Rattle.rs_mean.specs.declared.cause.Cause.{Cause}
use Rattle.rs_mean.specs.Run.{Flow, normal, breaks, continues, returned}
use Rattle.rs_mean.specs.World.{Run, pure, seq}
use Rattle.rs_mean_frames.specs.Behave.{TakesJust, Behaves}

abbrev pub settled : Flow → Flow
settled normal = returned None
settled (breaks label) = breaks label
settled (continues label) = continues label
settled (returned value) = returned value

module _ {F A : Type 0} (Good : A → World → Flow → World → Type 0) (run : Run Flow) (behaves : Behaves Flow run) (source : ℕ → Ran F World A) (world : World) where
  abbrev Settles : A → World → Flow → World → Type 0
  Settles value c_world flow after = Good value c_world (settled flow) after

  abbrev settles : Flow → Run Flow
  settles flow = pure (settled flow)

  backed : (bound : ℕ) (r : Ran (Stop Cause) World Flow) → Backed events_of events_of Good source bound (bind r settles) → Backed events_of events_of Settles source bound r
  unfolding pure
  backed bound (came flow after left) is = is
  backed bound (halted status after) is = is
  backed bound (bad why after) is = is
  backed bound (out after) is = is

  -- where the settled run comes to an end the run does
  record CameAs (r : Ran (Stop Cause) World Flow) (flow : Flow) (after : World) : Type 0 where
    ending : Flow
    is : r ≡ came ending after 0
    same : settled ending ≡ flow

  came_as : (r : Ran (Stop Cause) World Flow) (flow : Flow) (after : World) → bind r settles ≡ came flow after 0 → CameAs r flow after
  unfolding pure
  came_as (came ending there left) flow after is =
      let same : settled ending ≡ flow = cc in
      let worlds : there ≡ after = cc in
      let none : left ≡ 0 = cc in
      record { ending = ending; is = ap (λ (w : World). came ending w left) worlds ∙ ap (λ (k : ℕ). came ending after k) none; same = same }
  came_as (halted status there) flow after is = absurd cc
  came_as (bad why there) flow after is = absurd cc
  came_as (out there) flow after is = absurd cc

  rests_as : (events : _) (r : Ran (Stop Cause) World Flow) → Rests events_of events (bind r settles) → Rests events_of events r
  unfolding pure
  rests_as events (came flow after left) is = is
  rests_as events (halted status after) is = is
  rests_as events (bad why after) is = is
  rests_as events (out after) is = is

  halted_as : (r : Ran (Stop Cause) World Flow) (status : _) (after : World) → bind r settles ≡ halted status after → r ≡ halted status after
  unfolding pure
  halted_as (came flow there left) status after is = absurd cc
  halted_as (halted own there) status after is = let statuses : own ≡ status = cc in let worlds : there ≡ after = cc in cc
  halted_as (bad why there) status after is = absurd cc
  halted_as (out there) status after is = absurd cc

  comes_as : (taken : ℕ) (flow : Flow) (after : World) → Comes (seq run settles world) taken flow after → (it : CameAs (run world (taken + 0)) flow after) → Comes (run world) taken it.ending after
  comes_as taken flow after comes it left =
      let on = subst (λ (r : Ran (Stop Cause) World Flow). TakesJust r (run world ((taken + 0) + left)) left) it.is (behaves.takes world (taken + 0) left) in
      ap (λ (k : ℕ). run world k) (omega arith) ∙ on ∙ ap (λ (k : ℕ). came it.ending after k) (omega arith)

  reached : (bound : ℕ) (r : Ran F World A) → Reached events_of events_of Good (seq run settles world) bound r → Reached events_of events_of Settles (run world) bound r
  unfolding seq
  reached bound (came value c_world left) is =
      let it = came_as (run world (is.taken + 0)) is.value is.state (is.comes 0) in
      record {
        within = is.within;
        taken = is.taken;
        value = it.ending;
        state = is.state;
        comes = comes_as is.taken is.value is.state is.comes it;
        good = subst (λ (flow : Flow). Good value c_world flow is.state) (sym it.same) is.good;
      }
  reached bound (halted status c_world) is = record { taken = is.taken; state = is.state; halts = halted_as (run world is.taken) status is.state is.halts; same = is.same }
  reached bound (bad why c_world) is = tt
  reached bound (out c_world) is = record { bound = is.bound; rests = rests_as _ (run world is.bound) is.rests }

  pub settles_owed : (n m : ℕ) → Owes events_of events_of Good n m source (seq run settles world) → Owes events_of events_of Settles n m source (run world)
  unfolding seq
  settles_owed n m owed = record { safe = λ k less. by k (owed.safe k less); reaches = λ k less. reached k (source k) (owed.reaches k less) }
    where
      by : (k : ℕ) → (Fails source) ⊎ (Backed events_of events_of Good source k (bind (run world k) settles)) → (Fails source) ⊎ (Backed events_of events_of Settles source k (run world k))
      by k (inl fails) = inl fails
      by k (inr is) = inr (backed k (run world k) is)
