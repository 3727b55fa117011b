-- What a function leaves of what was made before it was called: its own objects are behind a number, and only they begin and die.
use Rattle.std.proofs.Common.{◌≡◌, ◌∙◌, ℕ, ◌<◌, ◌≤◌, ◌==◌, Bool, true, false, List, [], ◌∷◌, ◌++◌, length, Option, Some, None, Result, Ok, Err, refl, sym, ap, subst, arith, length-append, length-set, slice_set, if◌then◌else◌}
use Rattle.std.proofs.lemmas.Bool.{eqb-true}
use Rattle.std.proofs.lemmas.Bool.Decides.{nat_tests}
use Rattle.cr_world.specs.Held.{Held, with_blocks, is_listed, with_block, without_block}
use Rattle.cx_core.specs.Trees.{CPuts, CStmtForm, begin}
use Rattle.cx_mean.specs.Accesses.{sized}
use Rattle.cx_mean.specs.Initialisers.{CCleared, first_cells, cleared_block, object_cleared}
use Rattle.cx_mean.specs.Moves.{CGoal, does_form, follows, CStand, without_objects}
use Rattle.cx_mean.specs.Operands.{CWhy, stuck, needed, Frame, slot_of}
use Rattle.cx_mean.specs.Paths.{CBottom}
use Rattle.cx_mean.specs.Settings.{CSetting}
use Rattle.cx_mean_lives.proofs.HeldLives.{live_before}
use Rattle.cx_mean_lives.proofs.MoveLives.{from_first, from_second, move_from}
use Rattle.cx_mean_lives.specs.Laws.{AreFrom, IsMoveFrom}
use Rattle.cx_mean_moves.specs.Laws.{LeavesObjects, cleared_or, made_anew, goal_anew, begun_anew}
use Rattle.cx_typed_leftmost.proofs.Worlds.{shape_same, shape_then, shapes_same}
use Rattle.cx_typed_work.specs.ExternalCalls.{KeepsObjects}
use Rattle.cx_typed_work.specs.Scenes.{IsSameShape, AreSameShapes}
use Rattle.mem_bytes.proofs.Reached.{and_then_ok}
use Rattle.mem_bytes.proofs.Slots.{live-set_other, live-set_same, live_within}
use Rattle.mem_bytes.specs.Access.{and_then}
use Rattle.mem_bytes.specs.Memory.{Block, Blocks, live_block, size_of}
use Rattle.mem_bytes.specs.declared.cell.Cell.{Cell}

-- ---- what is below a number

pub record KeepsBelow (bound : ℕ) (before after : Held) : Type 0 where
  pub grows : length before.blocks ≤ length after.blocks
  pub lives : (number : ℕ) → number < bound → is_listed number before.heap ≡ false → IsSameShape (live_block before.blocks number) (live_block after.blocks number)
  pub not_allocated : (number : ℕ) → number < bound → is_listed number before.heap ≡ false → is_listed number after.heap ≡ false

pub keeps_none : (bound : ℕ) (held : Held) → KeepsBelow bound held held
keeps_none bound held = record { grows = omega arith; lives = λ number below unlisted. shape_same (live_block held.blocks number); not_allocated = λ number below unlisted. unlisted }

pub keeps_both : (bound : ℕ) (one two three : Held) → KeepsBelow bound one two → KeepsBelow bound two three → KeepsBelow bound one three
keeps_both bound one two three first second = record {
  grows = omega (arith, first.grows, second.grows);
  lives = λ number below unlisted.
      shape_then (live_block one.blocks number) (live_block two.blocks number) (live_block three.blocks number) (first.lives number below unlisted) (second.lives number below (first.not_allocated number below unlisted));
  not_allocated = λ number below unlisted. second.not_allocated number below (first.not_allocated number below unlisted);
}

-- stores
pub keeps_shapes : (bound : ℕ) (held : Held) (blocks : Blocks) → length held.blocks ≡ length blocks → AreSameShapes held.blocks blocks → KeepsBelow bound held (with_blocks blocks held)
keeps_shapes bound held blocks many shapes = record { grows = omega (arith, many); lives = λ number below unlisted. shapes.each number; not_allocated = λ number below unlisted. unlisted }

-- calls of others
pub keeps_objects : (bound : ℕ) (held after : Held) → bound ≤ length held.blocks → KeepsObjects held after → KeepsBelow bound held after
keeps_objects bound held after fits keeps = record {
  grows = keeps.grows;
  lives = λ number below unlisted. keeps.lives number (omega (arith, below, fits)) unlisted;
  not_allocated = λ number below unlisted. keeps.not_allocated number (omega (arith, below, fits)) unlisted;
}

-- an object begins
pub keeps_made : (bound : ℕ) (held : Held) (block : Block) → bound ≤ length held.blocks → KeepsBelow bound held (with_blocks (with_block block held.blocks) held)
keeps_made bound held block fits = record {
  grows = let long = length-append held.blocks (Some block ∷ []) in omega (arith, long);
  lives = λ number below unlisted. subst (IsSameShape (live_block held.blocks number)) (sym (live_before held.blocks (Some block) number (omega (arith, below, fits)))) (shape_same (live_block held.blocks number));
  not_allocated = λ number below unlisted. unlisted;
}

-- objects die
gone_many : (gone : Frame) (blocks : Blocks) → length (without_objects gone blocks) ≡ length blocks
gone_many [] blocks = refl
gone_many (slot ∷ gone) blocks = gone_many gone (without_block slot.block blocks) ∙ length-set blocks slot.block None

gone_same : (bound : ℕ) (gone : Frame) (blocks : Blocks) (number : ℕ) → AreFrom bound gone → number < bound → live_block (without_objects gone blocks) number ≡ live_block blocks number
gone_same bound [] blocks number from below = refl
gone_same bound (slot ∷ gone) blocks number from below =
    gone_same bound gone (without_block slot.block blocks) number from.1 below ∙ live-set_other blocks slot.block number None (λ same. let least = from.0 in omega (arith, below, same, least))

pub keeps_gone : (bound : ℕ) (held : Held) (gone : Frame) → AreFrom bound gone → KeepsBelow bound held (with_blocks (without_objects gone held.blocks) held)
keeps_gone bound held gone from = record {
  grows = let many = gone_many gone held.blocks in omega (arith, many);
  lives = λ number below unlisted. subst (IsSameShape (live_block held.blocks number)) (sym (gone_same bound gone held.blocks number from below)) (shape_same (live_block held.blocks number));
  not_allocated = λ number below unlisted. unlisted;
}

-- ---- an object that is made anew has the shape that it had

pub record SameAs (before after : Blocks) : Type 0 where
  pub many : length before ≡ length after
  pub shapes : AreSameShapes before after

same_as : (blocks : Blocks) → SameAs blocks blocks
same_as blocks = record { many = refl; shapes = shapes_same blocks }

needed_is : {A : Type 0} (found : Option A) (one : A) → needed found ≡ Ok one → found ≡ Some one
needed_is None one e = cc
needed_is (Some other) one e = let same : other ≡ one = cc (e) in ap Some same

sized_by : (size : ℕ) (given held : List Cell) (test : Bool) → (length given == size) ≡ test → (if test then Ok given else Err stuck) ≡ Ok held → length held ≡ size
sized_by size given held true is e = let same : given ≡ held = cc (e) in ap length (sym same) ∙ eqb-true (length given) size is
sized_by size given held false is e = cc

sized_is : (size : ℕ) (given held : List Cell) → sized size given ≡ Ok held → length held ≡ size
sized_is size given held e = sized_by size given held (length given == size) refl e

anew_shape : (blocks : Blocks) (number : ℕ) (block : Block) (held : List Cell) → live_block blocks number ≡ Some block → length held ≡ size_of block → SameAs blocks (slice_set blocks number (Some (record block { cells = held })))
anew_shape blocks number block held live many = record {
  many = sym (length-set blocks number (Some (record block { cells = held })));
  shapes = record { each = λ other. by other (number == other) refl };
}
  where
    by : (other : ℕ) (same : Bool) → (number == other) ≡ same → IsSameShape (live_block blocks other) (live_block (slice_set blocks number (Some (record block { cells = held }))) other)
    by other true is =
        let equal : number ≡ other = grind (arith, nat_tests, is) in
        subst (λ (n : ℕ). IsSameShape (live_block blocks n) (live_block (slice_set blocks number (Some (record block { cells = held }))) n)) equal
        (subst (λ (one : Option Block). IsSameShape one (live_block (slice_set blocks number (Some (record block { cells = held }))) number)) (sym live)
        (subst (λ (one : Option Block). IsSameShape (Some block) one) (sym (live-set_same blocks number (record block { cells = held }) (live_within blocks number block live)))
        (record { size = sym many; align = refl; lives = λ some. refl; lived = λ some. refl })))
    by other false is =
        subst (IsSameShape (live_block blocks other)) (sym (live-set_other blocks number other (Some (record block { cells = held })) (λ (same : number ≡ other). (let t : (number == other) ≡ true = grind (arith, nat_tests, same) in cc))))
        (shape_same (live_block blocks other))

cleared_same : (setting : CSetting) (frame : Frame) (number : ℕ) (puts : Option CPuts) (blocks : Blocks) (outcome : Result CCleared CWhy) → object_cleared setting frame number puts blocks ≡ outcome → SameAs blocks (cleared_or blocks outcome)
cleared_same setting frame number puts blocks (Err why) e = same_as blocks
cleared_same setting frame number puts blocks (Ok one) e =
    let first = and_then_ok (needed (slot_of frame number)) (λ at. and_then (needed (live_block blocks at.block)) (cleared_block setting puts blocks at)) one e in
    let second = and_then_ok (needed (live_block blocks first.0.block)) (cleared_block setting puts blocks first.0) one first.2 in
    let last : List Cell → Result CCleared CWhy = λ held. Ok (record { at = first.0; size = size_of second.0; blocks = slice_set blocks first.0.block (Some (record second.0 { cells = held })) }) in
    let third = and_then_ok (first_cells setting (size_of second.0) puts) (λ given. and_then (sized (size_of second.0) given) last) one second.2 in
    let fourth = and_then_ok (sized (size_of second.0) third.0) last one third.2 in
    let made : slice_set blocks first.0.block (Some (record second.0 { cells = fourth.0 })) ≡ one.blocks = ap (λ (c : CCleared). c.blocks) (let f : record { at = first.0; size = size_of second.0; blocks = slice_set blocks first.0.block (Some (record second.0 { cells = fourth.0 })) } ≡ one = cc (fourth.2) in f) in
    subst (SameAs blocks) made
    (anew_shape blocks first.0.block second.0 fourth.0 (needed_is (live_block blocks first.0.block) second.0 second.1) (sized_is (size_of second.0) third.0 fourth.0 fourth.1))

anew_same : (setting : CSetting) (frame : Frame) (form : CStmtForm) (blocks : Blocks) → SameAs blocks (made_anew setting frame form blocks)
anew_same setting frame (begin number puts) blocks = cleared_same setting frame number puts blocks (object_cleared setting frame number puts blocks) refl
anew_same setting frame form blocks = same_as blocks

goal_same : (setting : CSetting) (frame : Frame) (goal : CGoal) (form : CStmtForm) (blocks : Blocks) → SameAs blocks (goal_anew setting frame goal form blocks)
goal_same setting frame (does_form place) form blocks = anew_same setting frame form blocks
goal_same setting frame (follows way) form blocks = same_as blocks

pub begun_same : (setting : CSetting) (frame : Frame) (objects : List ℕ) (goal : CGoal) (form : CStmtForm) (blocks : Blocks) → SameAs blocks (begun_anew setting frame objects goal form blocks)
begun_same setting frame [] goal form blocks = goal_same setting frame goal form blocks
begun_same setting frame (first ∷ others) goal form blocks = same_as blocks

-- ---- what is next

-- the memory in which a move is made, and the move
pub record StandKeeps (bound : ℕ) (held : Held) (one : CStand) : Type 0 where
  pub keeps : KeepsBelow bound held (with_blocks one.blocks held)
  pub from : IsMoveFrom bound one.move

pub stand_keeps : (bound : ℕ) (held : Held) (slots : Frame) (bottom : CBottom) (blocks : Blocks) (one : CStand) → SameAs held.blocks blocks → AreFrom bound slots → AreFrom bound bottom.params → LeavesObjects slots bottom blocks one →
    StandKeeps bound held one
stand_keeps bound held slots bottom blocks one same are params is =
    let both : AreFrom bound (is.gone ++ is.kept) = subst (AreFrom bound) is.parts are in
    record {
      keeps =
          subst (λ (m : Blocks). KeepsBelow bound held (with_blocks m held)) (sym is.dies)
          (keeps_both bound held (with_blocks blocks held) (with_blocks (without_objects is.gone blocks) held) (keeps_shapes bound held blocks same.many same.shapes)
          (keeps_gone bound (with_blocks blocks held) is.gone (from_first bound is.gone is.kept both)));
      from = move_from bound is.kept bottom one.move (from_second bound is.gone is.kept both) params is.stands;
    }

pub none_same : (blocks : Blocks) → SameAs blocks blocks
none_same blocks = same_as blocks

pub shapes_as : (before after : Blocks) → length before ≡ length after → AreSameShapes before after → SameAs before after
shapes_as before after many shapes = record { many = many; shapes = shapes }
