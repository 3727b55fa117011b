-- The blocks of a memory that lies in a region: those that are found, those that aren't, and what changes.
use Rattle.std.proofs.Common.{◌≡◌, ℕ, zero, suc, ◌+◌, ◌-◌, ◌<◌, ◌≤◌, ◌==◌, List, [], ◌∷◌, ◌++◌, length, take, drop, replicate, get_or, slice_set, Option, Some, None, refl, sym, ◌∙◌, ap, subst, arith, length-append, length-take, length-drop, eq-eqb, zero-add, ⊎_elim}
use Rattle.std.proofs.lemmas.Bool.{cases_order, cond-true, cond-false, ne_eqb}
use Rattle.std.proofs.lemmas.List.{take-append-drop, drop-drop, length-replicate, get_or-append-add, get_or_at, set_at, take-take, take-append-le, drop-append-le, drop-take, take_all, drop_at}
use Rattle.std.proofs.lemmas.Option.{unwrap_or-slice_get}
use Rattle.mem_bytes.specs.declared.cell.Cell.{Cell}
use Rattle.mem_bytes.specs.Memory.{Block, Blocks, live_block, with_part}
use Rattle.mem_region.specs.declared.table.Live.{Live}
use Rattle.mem_region.specs.Layout.{blocks_from, AreLaid, Has, block_of, lookup, slid}
use Rattle.mem_region.proofs.Laid.{bounds, lower, gap, laid_split, laid_join, laid_slid, blocks_join, length-blocks, blocks_slid}

-- ---- numbers that no block has

dead_at : (n k : ℕ) → live_block (replicate n None) k ≡ None
dead_at zero k = refl
dead_at (suc n) zero = refl
dead_at (suc n) (suc k) = dead_at n k

dead_in_front : (n k : ℕ) (rest : Blocks) → k < n → live_block (replicate n None ++ rest) k ≡ None
dead_in_front zero k rest p = absurd (omega arith)
dead_in_front (suc n) zero rest p = refl
dead_in_front (suc n) (suc k) rest p = dead_in_front n k rest (omega arith)

live_is : (memory : Blocks) (number : ℕ) → live_block memory number ≡ get_or memory number None
live_is memory number = unwrap_or-slice_get memory number None

behind_front : (front rest : Blocks) (one : Option Block) (n k : ℕ) → n ≡ length front + suc k → live_block (front ++ one ∷ rest) n ≡ live_block rest k
behind_front front rest one n k e =
    live_is (front ++ one ∷ rest) n
    ∙ ap (λ i. get_or (front ++ one ∷ rest) i None) e
    ∙ get_or-append-add front (one ∷ rest) (suc k) None
    ∙ sym (live_is rest k)

pub none_live : (table : List Live) (cells : List Cell) (low next start end number : ℕ) → AreLaid low next start end table → lookup table number ≡ None → low ≤ number → live_block (blocks_from low next table cells) (number - low) ≡ None
none_live [] cells low next start end number laid none p = dead_at (next - low) (number - low)
none_live (live ∷ others) cells low next start end number laid none p =
    let front : Blocks = replicate (live.number - low) None in
    let one : Option Block = Some (record { align = live.align; cells = take live.size cells }) in
    let rest : Blocks = blocks_from (suc live.number) next others (drop live.size cells) in
    let many : length front ≡ live.number - low = length-replicate (live.number - low) None in
    ⊎_elim
    (λ (same : live.number ≡ number). cc (cond-true (live.number == number) (Some live) (lookup others number) (eq-eqb live.number number same)))
    (⊎_elim
    (λ (less : live.number < number).
    let behind : lookup others number ≡ None = sym (cond-false (live.number == number) (Some live) (lookup others number) (ne_eqb live.number number (λ same. omega arith))) ∙ none in
    behind_front front rest one (number - low) (number - suc live.number) (omega arith)
    ∙ none_live others (drop live.size cells) (suc live.number) next (start + live.size) end number laid.2 behind less)
    (λ (more : number < live.number). dead_in_front (live.number - low) (number - low) (one ∷ rest) (omega arith)))
    (cases_order live.number number)

-- ---- the block of a table's entry

pub split : (table before after : List Live) (live : Live) (cells : List Cell) (next : ℕ) → table ≡ before ++ live ∷ after → AreLaid 0 next 0 (length cells) table → blocks_from 0 next table cells ≡ blocks_from 0 live.number before (take live.start cells) ++ Some (block_of live cells) ∷ blocks_from (suc live.number) next after (drop (live.start + live.size) cells)
split table before after live cells next e laid =
    let parts = laid_split before live after 0 next 0 (length cells) (subst (AreLaid 0 next 0 (length cells)) e laid) in
    let within = bounds (live ∷ after) live.number next live.start (length cells) parts.1 in
    let front : Blocks = blocks_from 0 live.number before (take live.start cells) in
    let one : Option Block = Some (block_of live cells) in
    let rest : List Cell → Blocks = blocks_from (suc live.number) next after in
    let long : 0 + length (take live.start cells) ≡ live.start = simp length-take (omega arith) in
    let none : live.number - live.number ≡ 0 = omega arith in
    ap (λ t. blocks_from 0 next t cells) e
    ∙ ap (blocks_from 0 next (before ++ live ∷ after)) (sym (take-append-drop live.start cells))
    ∙ blocks_join before (live ∷ after) (take live.start cells) (drop live.start cells) 0 live.number next 0 live.start (length cells) parts.0 parts.1 long
    ∙ ap (λ n. front ++ (replicate n None ++ one ∷ rest (drop live.size (drop live.start cells)))) none
    ∙ ap (λ c. front ++ one ∷ rest c) (drop-drop live.size live.start cells)

front_many : (before : List Live) (live : Live) (after : List Live) (cells front : List Cell) (next end : ℕ) → AreLaid 0 next 0 end (before ++ live ∷ after) → length (blocks_from 0 live.number before front) ≡ live.number
front_many before live after cells front next end laid =
    let parts = laid_split before live after 0 next 0 end laid in
    let many = length-blocks before front 0 live.number 0 live.start parts.0 in omega arith

pub some_live : (table : List Live) (number : ℕ) (live : Live) (cells : List Cell) (next : ℕ) → Has table number live → AreLaid 0 next 0 (length cells) table → live_block (blocks_from 0 next table cells) number ≡ Some (block_of live cells)
some_live table number live cells next has laid =
    let front : Blocks = blocks_from 0 live.number has.before (take live.start cells) in
    let rest : Blocks = blocks_from (suc live.number) next has.after (drop (live.start + live.size) cells) in
    let many : length front ≡ number = front_many has.before live has.after cells (take live.start cells) next (length cells) (subst (AreLaid 0 next 0 (length cells)) has.parts laid) ∙ has.same in
    ap (λ m. live_block m number) (split table has.before has.after live cells next has.parts laid)
    ∙ live_is (front ++ Some (block_of live cells) ∷ rest) number
    ∙ get_or_at front (Some (block_of live cells)) rest None number many

-- ---- cells written over those of a block

take_past : {X : Type 0} (front rest : List X) (k : ℕ) → take (length front + k) (front ++ rest) ≡ front ++ take k rest
take_past [] rest k = ap (λ n. take n rest) (zero-add k)
take_past (x ∷ front) rest k =
    let next : suc (length front) + k ≡ suc (length front + k) = omega arith in
    ap (λ n. take n (x ∷ (front ++ rest))) next ∙ ap (λ xs. x ∷ xs) (take_past front rest k)

front_kept : (cells part rest : List Cell) (start s : ℕ) → s ≤ start → start ≤ length cells → take s (take start cells ++ part ++ rest) ≡ take s cells
front_kept cells part rest start s p q =
    let few : s ≤ length (take start cells) = simp length-take (omega arith) in
    let fewer : s ≤ length (take start cells ++ part) = simp length-append (omega arith) in
    take-append-le s (take start cells ++ part) rest fewer
    ∙ take-append-le s (take start cells) part few
    ∙ take-take s start cells p

back_kept : (cells part : List Cell) (start e : ℕ) → start + length part ≤ e → start ≤ length cells → drop e (take start cells ++ part ++ drop (start + length part) cells) ≡ drop e cells
back_kept cells part start e p q =
    let m : ℕ = start + length part in
    let k : ℕ = e - m in
    let both : m + k ≡ e = omega arith in
    let long : length (take start cells ++ part) ≡ m = simp (length-append, length-take) (omega arith) in
    ap (λ n. drop n (take start cells ++ part ++ drop m cells)) (sym both)
    ∙ sym (drop-drop k m (take start cells ++ part ++ drop m cells))
    ∙ ap (drop k) (drop_at (take start cells ++ part) (drop m cells) m long)
    ∙ drop-drop k m cells
    ∙ ap (λ n. drop n cells) both

-- the cells of the block from its start on
inner : (cells part : List Cell) (s o : ℕ) → s + o ≤ length cells → drop s (take (s + o) cells ++ part ++ drop (s + o + length part) cells) ≡ take o (drop s cells) ++ part ++ drop (o + length part) (drop s cells)
inner cells part s o p =
    let few : s ≤ length (take (s + o) cells) = simp length-take (omega arith) in
    let fewer : s ≤ length (take (s + o) cells ++ part) = simp (length-append, length-take) (omega arith) in
    let rest : List Cell = drop (s + o + length part) cells in
    let far : s + (o + length part) ≡ s + o + length part = omega arith in
    drop-append-le s (take (s + o) cells ++ part) rest fewer
    ∙ ap (λ xs. xs ++ rest) (drop-append-le s (take (s + o) cells) part few)
    ∙ ap (λ xs. xs ++ part ++ rest) (drop-take s o cells)
    ∙ ap (λ xs. take o (drop s cells) ++ part ++ xs) (sym (drop-drop (o + length part) s cells ∙ ap (λ n. drop n cells) far))

within_block : (held part : List Cell) (size o : ℕ) → o + length part ≤ size → o ≤ length held → take size (take o held ++ part ++ drop (o + length part) held) ≡ take o (take size held) ++ part ++ drop (o + length part) (take size held)
within_block held part size o p q =
    let m : ℕ = o + length part in
    let k : ℕ = size - m in
    let both : m + k ≡ size = omega arith in
    let long : length (take o held ++ part) ≡ m = simp (length-append, length-take) (omega arith) in
    let sum : size ≡ length (take o held ++ part) + k = omega arith in
    ap (λ n. take n (take o held ++ part ++ drop m held)) sum
    ∙ take_past (take o held ++ part) (drop m held) k
    ∙ ap (λ xs. xs ++ part ++ take k (drop m held)) (sym (take-take o size held (omega arith)))
    ∙ ap (λ xs. take o (take size held) ++ part ++ xs) (sym (drop-take m k held) ∙ ap (λ n. drop m (take n held)) both)

length-written : (cells part : List Cell) (start : ℕ) → start + length part ≤ length cells → length (take start cells ++ part ++ drop (start + length part) cells) ≡ length cells
length-written cells part start p = simp (length-append, length-take, length-drop) (omega arith)

pub length-changed : (cells part new : List Cell) (start : ℕ) → start + length part ≤ length cells → new ≡ take start cells ++ part ++ drop (start + length part) cells → length new ≡ length cells
length-changed cells part new start p made = ap length made ∙ length-written cells part start p

pub changed : (table : List Live) (number : ℕ) (live : Live) (cells part new : List Cell) (next start offset : ℕ) → Has table number live → AreLaid 0 next 0 (length cells) table → start ≡ live.start + offset → offset + length part ≤ live.size → new ≡ take start cells ++ part ++ drop (start + length part) cells → blocks_from 0 next table new ≡ slice_set (blocks_from 0 next table cells) number (Some (with_part (block_of live cells) offset part))
changed table number live cells part new next start offset has laid e within made =
    let s : ℕ = live.start in
    let size : ℕ = live.size in
    let parts = laid_split has.before live has.after 0 next 0 (length cells) (subst (AreLaid 0 next 0 (length cells)) has.parts laid) in
    let inside = bounds has.after (suc live.number) next (s + size) (length cells) parts.1.2 in
    let at : new ≡ take (s + offset) cells ++ part ++ drop (s + offset + length part) cells = made ∙ ap (λ n. take n cells ++ part ++ drop (n + length part) cells) e in
    let long : length new ≡ length cells = ap length at ∙ length-written cells part (s + offset) (omega arith) in
    let front : take s new ≡ take s cells = ap (take s) at ∙ front_kept cells part (drop (s + offset + length part) cells) (s + offset) s (omega arith) (omega arith) in
    let back : drop (s + size) new ≡ drop (s + size) cells = ap (drop (s + size)) at ∙ back_kept cells part (s + offset) (s + size) (omega arith) (omega arith) in
    let held : offset ≤ length (drop s cells) = simp length-drop (omega arith) in
    let block : block_of live new ≡ with_part (block_of live cells) offset part =
    ap (λ xs. record { align = live.align; cells = xs }) (ap (λ xs. take size (drop s xs)) at ∙ ap (take size) (inner cells part s offset (omega arith)) ∙ within_block (drop s cells) part size offset within held) in
    let head : List Cell → Blocks = blocks_from 0 live.number has.before in
    let tail : List Cell → Blocks = blocks_from (suc live.number) next has.after in
    let many : length (head (take s cells)) ≡ number = front_many has.before live has.after cells (take s cells) next (length cells) (subst (AreLaid 0 next 0 (length cells)) has.parts laid) ∙ has.same in
    split table has.before has.after live new next has.parts (subst (λ n. AreLaid 0 next 0 n table) (sym long) laid)
    ∙ ap (λ xs. head xs ++ Some (block_of live new) ∷ tail (drop (s + size) new)) front
    ∙ ap (λ xs. head (take s cells) ++ Some (block_of live new) ∷ tail xs) back
    ∙ ap (λ b. head (take s cells) ++ Some b ∷ tail (drop (s + size) cells)) block
    ∙ sym (ap (λ m. slice_set m number (Some (with_part (block_of live cells) offset part))) (split table has.before has.after live cells next has.parts laid)
    ∙ set_at (head (take s cells)) (Some (block_of live cells)) (tail (drop (s + size) cells)) (Some (with_part (block_of live cells) offset part)) number many)

-- ---- a block that dies

laid_later : (before after : List Live) (live : Live) (next end : ℕ) → AreLaid 0 next 0 end (before ++ live ∷ after) → AreLaid (suc live.number) next live.start (end - live.size) (slid live.size after)
laid_later before after live next end laid =
    let parts = laid_split before live after 0 next 0 end laid in
    let inside = bounds after (suc live.number) next (live.start + live.size) end parts.1.2 in
    let back : end ≡ (end - live.size) + live.size = omega arith in
    laid_slid live.size after (suc live.number) next live.start (end - live.size) (subst (λ e. AreLaid (suc live.number) next (live.start + live.size) e after) back parts.1.2)

laid_behind : (before after : List Live) (live : Live) (next end : ℕ) → AreLaid 0 next 0 end (before ++ live ∷ after) → AreLaid live.number next live.start (end - live.size) (slid live.size after)
laid_behind before after live next end laid =
    lower (slid live.size after) live.number (suc live.number) next live.start (end - live.size) (omega arith) (laid_later before after live next end laid)

pub laid_killed : (table table' : List Live) (number : ℕ) (live : Live) (cells new : List Cell) (next : ℕ) (has : Has table number live) → AreLaid 0 next 0 (length cells) table → table' ≡ has.before ++ slid live.size has.after → new ≡ take live.start cells ++ drop (live.start + live.size) cells → AreLaid 0 next 0 (length new) table'
laid_killed table table' number live cells new next has laid e made =
    let whole = subst (AreLaid 0 next 0 (length cells)) has.parts laid in
    let parts = laid_split has.before live has.after 0 next 0 (length cells) whole in
    let inside = bounds has.after (suc live.number) next (live.start + live.size) (length cells) parts.1.2 in
    let many : length cells - live.size ≡ length new = sym (ap length made ∙ simp (length-append, length-take, length-drop) (omega arith)) in
    subst (AreLaid 0 next 0 (length new)) (sym e)
    (subst (λ n. AreLaid 0 next 0 n (has.before ++ slid live.size has.after)) many
    (laid_join has.before (slid live.size has.after) 0 live.number next 0 live.start (length cells - live.size) parts.0 (laid_behind has.before has.after live next (length cells) whole)))

pub killed : (table table' : List Live) (number : ℕ) (live : Live) (cells new : List Cell) (next : ℕ) (has : Has table number live) → AreLaid 0 next 0 (length cells) table → table' ≡ has.before ++ slid live.size has.after → new ≡ take live.start cells ++ drop (live.start + live.size) cells → blocks_from 0 next table' new ≡ slice_set (blocks_from 0 next table cells) number None
killed table table' number live cells new next has laid e made =
    let whole = subst (AreLaid 0 next 0 (length cells)) has.parts laid in
    let parts = laid_split has.before live has.after 0 next 0 (length cells) whole in
    let inside = bounds has.after (suc live.number) next (live.start + live.size) (length cells) parts.1.2 in
    let front : List Cell = take live.start cells in
    let back : List Cell = drop (live.start + live.size) cells in
    let head : Blocks = blocks_from 0 live.number has.before front in
    let behind = laid_behind has.before has.after live next (length cells) whole in
    let later : AreLaid (suc live.number) next live.start (length cells - live.size) (slid live.size has.after) = laid_later has.before has.after live next (length cells) whole in
    let long : 0 + length front ≡ live.start = simp length-take (omega arith) in
    let one : suc live.number - live.number ≡ 1 = omega arith in
    let dead : blocks_from live.number next (slid live.size has.after) back ≡ None ∷ blocks_from (suc live.number) next has.after back =
    sym (gap (slid live.size has.after) back live.number (suc live.number) next live.start (length cells - live.size) (omega arith) later)
    ∙ ap (λ n. replicate n None ++ blocks_from (suc live.number) next (slid live.size has.after) back) one
    ∙ ap (λ blocks. None ∷ blocks) (blocks_slid live.size has.after back (suc live.number) next) in
    let many : length head ≡ number = front_many has.before live has.after cells front next (length cells) whole ∙ has.same in
    ap (λ t. blocks_from 0 next t new) e
    ∙ ap (blocks_from 0 next (has.before ++ slid live.size has.after)) made
    ∙ blocks_join has.before (slid live.size has.after) front back 0 live.number next 0 live.start (length cells - live.size) parts.0 behind long
    ∙ ap (λ blocks. head ++ blocks) dead
    ∙ sym (ap (λ m. slice_set m number None) (split table has.before has.after live cells next has.parts laid)
    ∙ set_at head (Some (block_of live cells)) (blocks_from (suc live.number) next has.after back) None number many)

-- ---- a new block

laid_one : (live : Live) (next end : ℕ) → live.number ≡ next → live.start ≡ end → AreLaid next (next + 1) end (end + live.size) (live ∷ [])
laid_one live next end same e = (omega arith, e, (omega arith, refl))

pub laid_pushed : (table : List Live) (live : Live) (next end : ℕ) → AreLaid 0 next 0 end table → live.number ≡ next → live.start ≡ end → AreLaid 0 (next + 1) 0 (end + live.size) (table ++ live ∷ [])
laid_pushed table live next end laid same e =
    laid_join table (live ∷ []) 0 next (next + 1) 0 end (end + live.size) laid (laid_one live next end same e)

pub pushed : (table : List Live) (live : Live) (cells new : List Cell) (next : ℕ) → AreLaid 0 next 0 (length cells) table → live.number ≡ next → live.start ≡ length cells → length new ≡ live.size → blocks_from 0 (next + 1) (table ++ live ∷ []) (cells ++ new) ≡ blocks_from 0 next table cells ++ Some (record { align = live.align; cells = new }) ∷ []
pushed table live cells new next laid same e many =
    let front : Blocks = blocks_from 0 next table cells in
    let one : List Cell → Option Block = λ xs. Some (record { align = live.align; cells = xs }) in
    let before : live.number - next ≡ 0 = omega arith in
    let behind : next + 1 - suc live.number ≡ 0 = omega arith in
    blocks_join table (live ∷ []) cells new 0 next (next + 1) 0 (length cells) (length cells + live.size) laid (laid_one live next (length cells) same e) (omega arith)
    ∙ ap (λ n. front ++ (replicate n None ++ one (take live.size new) ∷ replicate (next + 1 - suc live.number) None)) before
    ∙ ap (λ n. front ++ one (take live.size new) ∷ replicate n None) behind
    ∙ ap (λ xs. front ++ one xs ∷ []) (take_all live.size new (omega arith))
