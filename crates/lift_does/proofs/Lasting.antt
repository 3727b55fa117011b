-- What lasts from one pair of worlds to a later one.
use Rattle.std.proofs.Common.{◌≡◌, Bool, true, false, ◌&&◌, ◌||◌, ◌==◌, nat_lt, List, [], ◌∷◌, ◌++◌, refl, subst, ◌∙◌, arith}
use Rattle.std.proofs.lemmas.Bool.Decides.{nat_tests}
use Rattle.cr_world.specs.World.{World, blocks_of}
use Rattle.cx_mean.specs.Marks.{Range, Marks, overlap, any_overlap, conflict}
use Rattle.cx_mean.specs.Unwritten.{Avoids, KeepsBeside}
use Rattle.cx_typed_leftmost.proofs.Worlds.{shapes_same, shapes_then, keeps_then}
use Rattle.cx_typed_work.specs.ExternalCalls.{KeepsObjects}
use Rattle.lift_does.specs.Later.{IsSameAt, AllOf, StaysBeside, Lasts}
use Rattle.mem_bytes.specs.Memory.{Blocks}

-- ---- lists

pub all_front : (P : Range → Type 0) (xs ys : List Range) → AllOf P (xs ++ ys) → AllOf P xs
all_front P [] ys all = tt
all_front P (x ∷ xs) ys all = (all.0, all_front P xs ys all.1)

pub all_back : (P : Range → Type 0) (xs ys : List Range) → AllOf P (xs ++ ys) → AllOf P ys
all_back P [] ys all = all
all_back P (x ∷ xs) ys all = all_back P xs ys all.1

all_both : (P Q R : Range → Type 0) (xs : List Range) → ((a : Range) → P a → Q a → R a) → AllOf P xs → AllOf Q xs → AllOf R xs
all_both P Q R [] by one other = tt
all_both P Q R (x ∷ xs) by one other = (by x one.0 other.0, all_both P Q R xs by one.1 other.1)

all_each : (P : Range → Type 0) (xs : List Range) → ((a : Range) → P a) → AllOf P xs
all_each P [] by = tt
all_each P (x ∷ xs) by = (by x, all_each P xs by)

-- ---- what was read

same_at_once : (blocks : Blocks) (range : Range) → IsSameAt blocks blocks range
same_at_once blocks range = record { cells = λ at count e. refl; values = λ at kind e. refl; records = λ at size align e. refl; fields = λ at bit width place e. refl }

same_then : (one two three : Blocks) (range : Range) → IsSameAt one two range → IsSameAt two three range → IsSameAt one three range
same_then one two three range first second = record {
  cells = λ at count e. second.cells at count e ∙ first.cells at count e;
  values = λ at kind e. second.values at kind e ∙ first.values at kind e;
  records = λ at size align e. second.records at size align e ∙ first.records at size align e;
  fields = λ at bit width place e. second.fields at bit width place e ∙ first.fields at bit width place e;
}

pub beside_once : (reads : List Range) (world : World) → StaysBeside reads world world
beside_once reads world = record { each = all_each (IsSameAt (blocks_of world) (blocks_of world)) reads (same_at_once (blocks_of world)); shapes = shapes_same (blocks_of world) }

pub beside_then : (reads : List Range) (one two three : World) → StaysBeside reads one two → StaysBeside reads two three → StaysBeside reads one three
beside_then reads one two three first second = record {
  each = all_both (IsSameAt (blocks_of one) (blocks_of two)) (IsSameAt (blocks_of two) (blocks_of three)) (IsSameAt (blocks_of one) (blocks_of three)) reads (same_then (blocks_of one) (blocks_of two) (blocks_of three)) first.each second.each;
  shapes = shapes_then (blocks_of one) (blocks_of two) (blocks_of three) first.shapes second.shapes;
}

-- ---- where no write overlaps what was read (6.5p2)

pub no_either : (one other : Bool) → (one || other) ≡ false → (one ≡ false) × (other ≡ false)
no_either true other none = cc (none)
no_either false other none = (refl, none)

neither : (one other : Bool) → one ≡ false → other ≡ false → (one || other) ≡ false
neither one other first second = rw first second

overlap_back : (one other : Range) → overlap one other ≡ false → overlap other one ≡ false
overlap_back one other none = by (one.block == other.block) (nat_lt one.from other.to) (nat_lt other.from one.to) (other.block == one.block) refl none (grind (arith, nat_tests))
  where
    by : (a b c d : Bool) → (one.block == other.block) ≡ a → ((a && b) && c) ≡ false → d ≡ a → ((d && c) && b) ≡ false
    by true true true d e none same = cc (none)
    by true true false d e none same = rw same refl
    by true false true d e none same = rw same refl
    by true false false d e none same = rw same refl
    by false true true d e none same = rw same refl
    by false true false d e none same = rw same refl
    by false false true d e none same = rw same refl
    by false false false d e none same = rw same refl

avoids_each : (range : Range) (writes : List Range) → any_overlap (range ∷ []) writes ≡ false → Avoids writes range
avoids_each range [] none = refl
avoids_each range (write ∷ writes) none =
    let parts = no_either (overlap range write) (any_overlap (range ∷ []) writes) (by (overlap range write) _ none) in
    neither _ _ (neither _ _ (overlap_back range write parts.0) refl) (avoids_each range writes parts.1)
  where
    by : (one other : Bool) → ((one || other) || false) ≡ false → (one || (other || false)) ≡ false
    by true other e = e
    by false other e = e

same_avoiding : (writes : List Range) (before after : Blocks) (range : Range) → KeepsBeside writes before after → Avoids writes range → IsSameAt before after range
same_avoiding writes before after range keeps avoids = record {
  cells = λ at count e. keeps.cells at count (subst (Avoids writes) e avoids);
  values = λ at kind e. keeps.values at kind (subst (Avoids writes) e avoids);
  records = λ at size align e. keeps.records at size align (subst (Avoids writes) e avoids);
  fields = λ at bit width place e. keeps.fields at bit width place (subst (Avoids writes) e avoids);
}

pub reads_stay : (reads writes : List Range) (before after : Blocks) → KeepsBeside writes before after → any_overlap reads writes ≡ false → AllOf (IsSameAt before after) reads
reads_stay [] writes before after keeps none = tt
reads_stay (range ∷ reads) writes before after keeps none =
    let parts = no_either _ _ none in
    (same_avoiding writes before after range keeps (avoids_each range writes (neither _ _ parts.0 refl)), reads_stay reads writes before after keeps parts.1)

-- operands that don't conflict
pub no_conflict : (one other : Marks) → conflict one other ≡ false → any_overlap one.reads other.writes ≡ false
no_conflict one other none = (no_either (any_overlap one.writes other.writes || any_overlap one.writes other.reads) (any_overlap one.reads other.writes) none).1

-- ---- behind calls, and without one

pub lasts_objects : (fixed : Bool) (reads : List Range) (before after : World) → Lasts fixed reads before after → KeepsObjects before.held after.held
lasts_objects true reads before after lasts = lasts
lasts_objects false reads before after lasts = lasts.0

pub lasts_then : (fixed : Bool) (reads : List Range) (one two three : World) → Lasts fixed reads one two → Lasts fixed reads two three → Lasts fixed reads one three
lasts_then true reads one two three first second = keeps_then one.held two.held three.held first second
lasts_then false reads one two three first second = (keeps_then one.held two.held three.held first.0 second.0, beside_then reads one two three first.1 second.1)

pub objects_stay : (world : World) → KeepsObjects world.held world.held
objects_stay world = record { grows = omega arith; lives = λ number within unlisted. (shapes_same (blocks_of world)).each number; not_allocated = λ number within unlisted. unlisted }

pub lasts_once : (fixed : Bool) (reads : List Range) (world : World) → Lasts fixed reads world world
lasts_once true reads world = objects_stay world
lasts_once false reads world = (objects_stay world, beside_once reads world)

-- less is asked, of less that was read
pub lasts_less : (fixed more : Bool) (reads others : List Range) (before after : World) → (fixed ≡ true → more ≡ true) → (AllOf (IsSameAt (blocks_of before) (blocks_of after)) reads → AllOf (IsSameAt (blocks_of before) (blocks_of after)) others) → Lasts fixed reads before after → Lasts more others before after
lasts_less true true reads others before after less some lasts = lasts
lasts_less true false reads others before after less some lasts = cc (less refl)
lasts_less false true reads others before after less some lasts = lasts.0
lasts_less false false reads others before after less some lasts = (lasts.0, record { each = some lasts.1.each; shapes = lasts.1.shapes })
