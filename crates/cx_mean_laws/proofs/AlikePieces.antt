-- Two pieces that are the same and take so many steps at least: how it follows of a piece from its parts.
use Rattle.std.proofs.Common.{◌≡◌, ℕ, zero, suc, ◌+◌, ◌<◌, ◌≤◌, Result, Ok, Err, refl, ap, subst, ◌∙◌, arith}
use Rattle.cr_base.specs.declared.refusal.Place.{Place}
use Rattle.cr_runs.specs.Runs.{came, halted, bad, out, bind, tick}
use Rattle.cr_world.specs.World.{World}
use Rattle.cx_mean.specs.Leftmost.{CRan, CPiece, or_bad, or_stop, one_step}
use Rattle.cx_mean.specs.Operands.{CWhy, CStop}
use Rattle.cx_mean_laws.specs.Laws.{Takes}

pub record Alike {A : Type 0} (least steps : ℕ) (one other : CRan A) : Type 0 where
  pub same : one ≡ other
  pub takes : Takes least steps one

-- ---- bounds

weaker : {A : Type 0} (least less steps more : ℕ) (piece : CRan A) → less ≤ least → steps ≤ more → Takes least steps piece → Takes less more piece
weaker least less steps more (came value world left) low high takes = omega (arith, low, high, takes)
weaker least less steps more (halted status world) low high takes = tt
weaker least less steps more (bad stop world) low high takes = tt
weaker least less steps more (out world) low high takes = tt

pub alike_weak : {A : Type 0} (least less steps more : ℕ) (one other : CRan A) → less ≤ least → steps ≤ more → Alike least steps one other → Alike less more one other
alike_weak least less steps more one other low high is = record { same = is.same; takes = weaker least less steps more one low high is.takes }

-- fewer steps, also none
pub alike_any : {A : Type 0} (least steps : ℕ) (one other : CRan A) → Alike least steps one other → Alike 0 steps one other
alike_any least steps one other is = alike_weak least 0 steps steps one other (omega arith) (omega arith) is

-- ---- one piece after another

bind_same : {A B : Type 0} (piece : CRan A) (go more : A → CPiece B) → ((value : A) (world : World) (left : ℕ) → piece ≡ came value world left → go value world left ≡ more value world left) → bind piece go ≡ bind piece more
bind_same (came value world left) go more all = all value world left refl
bind_same (halted status world) go more all = refl
bind_same (bad stop world) go more all = refl
bind_same (out world) go more all = refl

bind_takes : {A B : Type 0} (first least steps : ℕ) (piece : CRan A) (go : A → CPiece B) → Takes first steps piece
    → ((value : A) (world : World) (left : ℕ) → left + first ≤ steps → Takes least left (go value world left)) → Takes least steps (bind piece go)
bind_takes first least steps (came value world left) go takes all = weaker least least left steps (go value world left) (omega arith) (omega (arith, takes)) (all value world left takes)
bind_takes first least steps (halted status world) go takes all = tt
bind_takes first least steps (bad stop world) go takes all = tt
bind_takes first least steps (out world) go takes all = tt

came_takes : {A : Type 0} (least steps : ℕ) (piece : CRan A) (value : A) (world : World) (left : ℕ) → Takes least steps piece → piece ≡ came value world left → left + least ≤ steps
came_takes least steps piece value world left takes is = subst (Takes least steps) is takes

pub alike_bind : {A B : Type 0} (first least steps : ℕ) (one other : CRan A) (go more : A → CPiece B) → Alike first steps one other
    → ((value : A) (world : World) (left : ℕ) → left + first ≤ steps → Alike least left (go value world left) (more value world left)) → Alike least steps (bind one go) (bind other more)
alike_bind first least steps one other go more is all = record {
  same = bind_same one go more (λ value world left e. (all value world left (came_takes first steps one value world left is.takes e)).same) ∙ ap (λ piece. bind piece more) is.same;
  takes = bind_takes first least steps one go is.takes (λ value world left within. (all value world left within).takes);
}

-- ---- a step

pub alike_tick : {A : Type 0} (steps : ℕ) (world : World) (go more : ℕ → CRan A) → ((left : ℕ) → left < steps → Alike 0 left (go left) (more left)) → Alike 1 steps (tick world go steps) (tick world more steps)
alike_tick zero world go more all = record { same = refl; takes = tt }
alike_tick (suc left) world go more all =
    let rest = all left (omega arith) in
    record { same = rest.same; takes = weaker_step left (go left) rest.takes }
  where
    weaker_step : {A : Type 0} (left : ℕ) (piece : CRan A) → Takes 0 left piece → Takes 1 (suc left) piece
    weaker_step left (came value world rest) takes = omega (arith, takes)
    weaker_step left (halted status world) takes = tt
    weaker_step left (bad stop world) takes = tt
    weaker_step left (out world) takes = tt

pub alike_came : {A : Type 0} (steps : ℕ) (value : A) (world : World) → Alike 0 steps (came value world steps) (came value world steps)
alike_came steps value world = record { same = refl; takes = omega arith }

pub alike_bad : {A B : Type 0} (least steps : ℕ) (place : Place) (outcome : Result A CWhy) (go more : A → CPiece B) (world : World)
    → ((one : A) → Alike least steps (go one world steps) (more one world steps)) → Alike least steps (or_bad place outcome go world steps) (or_bad place outcome more world steps)
alike_bad least steps place (Ok one) go more world all = all one
alike_bad least steps place (Err why) go more world all = record { same = refl; takes = tt }

pub alike_stop : {A B : Type 0} (least steps : ℕ) (outcome : Result A CStop) (go more : A → CPiece B) (world : World)
    → ((one : A) → Alike least steps (go one world steps) (more one world steps)) → Alike least steps (or_stop outcome go world steps) (or_stop outcome more world steps)
alike_stop least steps (Ok one) go more world all = all one
alike_stop least steps (Err stop) go more world all = record { same = refl; takes = tt }

-- one step at a place
pub alike_step : {A B : Type 0} (steps : ℕ) (place : Place) (outcome : Result A CWhy) (go more : A → CPiece B) (world : World)
    → ((one : A) (left : ℕ) → left < steps → Alike 0 left (go one world left) (more one world left)) → Alike 1 steps (one_step place outcome go world steps) (one_step place outcome more world steps)
alike_step steps place outcome go more world all =
    alike_tick steps world (λ left. or_bad place outcome go world left) (λ left. or_bad place outcome more world left)
    (λ left less. alike_bad 0 left place outcome go more world (λ one. all one left less))
