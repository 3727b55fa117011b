-- Tables of blocks that lie end to end, and the memory that they and their cells are.
use Rattle.std.proofs.Common.{◌≡◌, ℕ, zero, suc, ◌+◌, ◌-◌, ◌*◌, ◌<◌, ◌≤◌, List, [], ◌∷◌, ◌++◌, length, take, drop, replicate, get_or, Option, Some, None, refl, sym, ◌∙◌, ap, subst, append_assoc, arith, length-append, length-drop, cond}
use Rattle.std.specs.List.{sum_by}
use Rattle.std.specs.Option.{is_some}
use Rattle.std.proofs.lemmas.List.{nil_from_length, take-append-le, drop-append-le, length-take-le, length-replicate, replicate-append-replicate}
use Rattle.std.proofs.lemmas.List.Sums.{sum_by-append, sum_by-cons}
use Rattle.std.proofs.lemmas.List.Folds.{sum_by-replicate}
use Rattle.mem_bytes.specs.declared.cell.Cell.{Cell}
use Rattle.mem_bytes.specs.Counted.{bytes_in, live_bytes, live_blocks}
use Rattle.mem_bytes.specs.Memory.{Block, Blocks}
use Rattle.mem_region.specs.declared.table.Live.{Live}
use Rattle.mem_region.specs.Layout.{blocks_from, AreLaid, slid}

-- ---- tables

-- a table's numbers and cells end no earlier than they begin
pub bounds : (table : List Live) (number next start end : ℕ) → AreLaid number next start end table → (number ≤ next) × (start ≤ end)
bounds [] number next start end laid = (laid.0, omega arith)
bounds (live ∷ others) number next start end laid =
    let more = bounds others (suc live.number) next (start + live.size) end laid.2 in (omega arith, omega arith)

-- a table may begin at a lower number
pub lower : (table : List Live) (low number next start end : ℕ) → low ≤ number → AreLaid number next start end table → AreLaid low next start end table
lower [] low number next start end p laid = (omega arith, laid.1)
lower (live ∷ others) low number next start end p laid = (omega arith, laid.1, laid.2)

-- the blocks in front of one, and it with those behind it
pub laid_split : (before : List Live) (live : Live) (after : List Live) (number next start end : ℕ) → AreLaid number next start end (before ++ live ∷ after) → AreLaid number live.number start live.start before × AreLaid live.number next live.start end (live ∷ after)
laid_split [] live after number next start end laid =
    ((laid.0, sym laid.1), (omega arith, refl, subst (λ s. AreLaid (suc live.number) next (s + live.size) end after) (sym laid.1) laid.2))
laid_split (first ∷ before) live after number next start end laid =
    let parts = laid_split before live after (suc first.number) next (start + first.size) end laid.2 in
    ((laid.0, laid.1, parts.0), parts.1)

-- two tables, one behind another
pub laid_join : (before after : List Live) (low number next start middle end : ℕ) → AreLaid low number start middle before → AreLaid number next middle end after → AreLaid low next start end (before ++ after)
laid_join [] after low number next start middle end laid behind =
    lower after low number next start end laid.0 (subst (λ s. AreLaid number next s end after) (sym laid.1) behind)
laid_join (first ∷ before) after low number next start middle end laid behind =
    (laid.0, laid.1, laid_join before after (suc first.number) number next (start + first.size) middle end laid.2 behind)

-- a table whose blocks slid
pub laid_slid : (bytes : ℕ) (table : List Live) (number next start end : ℕ) → AreLaid number next (start + bytes) (end + bytes) table → AreLaid number next start end (slid bytes table)
laid_slid bytes [] number next start end laid = (laid.0, omega arith)
laid_slid bytes (live ∷ others) number next start end laid =
    let same : (start + bytes) + live.size ≡ (start + live.size) + bytes = omega arith in
    (laid.0, omega arith, laid_slid bytes others (suc live.number) next (start + live.size) end (subst (λ s. AreLaid (suc live.number) next s (end + bytes) others) same laid.2))

-- each number of a table is at least the first that it may have
at_least : (table : List Live) (number next start end k : ℕ) (d : Live) → AreLaid number next start end table → k < length table → number ≤ (get_or table k d).number
at_least [] number next start end k d laid p = absurd (omega arith)
at_least (live ∷ others) number next start end zero d laid p = laid.0
at_least (live ∷ others) number next start end (suc k) d laid p =
    let more = at_least others (suc live.number) next (start + live.size) end k d laid.2 (omega arith) in omega arith

-- the numbers of a table rise
pub rising : (table : List Live) (number next start end i j : ℕ) (d : Live) → AreLaid number next start end table → i ≤ j → j < length table → (get_or table i d).number ≤ (get_or table j d).number
rising [] number next start end i j d laid p q = absurd (omega arith)
rising (live ∷ others) number next start end zero zero d laid p q = omega arith
rising (live ∷ others) number next start end zero (suc j) d laid p q =
    let more = at_least others (suc live.number) next (start + live.size) end j d laid.2 (omega arith) in omega arith
rising (live ∷ others) number next start end (suc i) zero d laid p q = absurd (omega arith)
rising (live ∷ others) number next start end (suc i) (suc j) d laid p q =
    rising others (suc live.number) next (start + live.size) end i j d laid.2 (omega arith) (omega arith)

-- ---- the memory

-- numbers in front of a table are of dead blocks
pub gap : (table : List Live) (cells : List Cell) (low number next start end : ℕ) → low ≤ number → AreLaid number next start end table → replicate (number - low) None ++ blocks_from number next table cells ≡ blocks_from low next table cells
gap [] cells low number next start end p laid =
    let many : (number - low) + (next - number) ≡ next - low = omega arith in
    replicate-append-replicate (number - low) (next - number) None ∙ ap (λ n. replicate n None) many
gap (live ∷ others) cells low number next start end p laid =
    let many : (number - low) + (live.number - number) ≡ live.number - low = omega arith in
    let rest : Blocks = Some (record { align = live.align; cells = take live.size cells }) ∷ blocks_from (suc live.number) next others (drop live.size cells) in
    sym (append_assoc (replicate (number - low) None) (replicate (live.number - number) None) rest)
    ∙ ap (λ xs. xs ++ rest) (replicate-append-replicate (number - low) (live.number - number) None ∙ ap (λ n. replicate n None) many)

-- the memory of two tables, one behind another
pub blocks_join : (before after : List Live) (front back : List Cell) (low number next start middle end : ℕ) → AreLaid low number start middle before → AreLaid number next middle end after → start + length front ≡ middle → blocks_from low next (before ++ after) (front ++ back) ≡ blocks_from low number before front ++ blocks_from number next after back
blocks_join [] after front back low number next start middle end laid behind long =
    let none : front ≡ [] = nil_from_length front (omega (arith, laid.1)) in
    ap (λ xs. blocks_from low next after (xs ++ back)) none
    ∙ sym (gap after back low number next middle end laid.0 behind)
blocks_join (first ∷ before) after front back low number next start middle end laid behind long =
    let within = bounds before (suc first.number) number (start + first.size) middle laid.2 in
    let few : first.size ≤ length front = omega arith in
    let rest : start + first.size + length (drop first.size front) ≡ middle = simp length-drop (omega arith) in
    let more = blocks_join before after (drop first.size front) back (suc first.number) number next (start + first.size) middle end laid.2 behind rest in
    let dead : Blocks = replicate (first.number - low) None in
    let one : List Cell → Option Block = λ cells. Some (record { align = first.align; cells = cells }) in
    ap (λ cells. dead ++ one cells ∷ blocks_from (suc first.number) next (before ++ after) (drop first.size (front ++ back))) (take-append-le first.size front back few)
    ∙ ap (λ cells. dead ++ one (take first.size front) ∷ blocks_from (suc first.number) next (before ++ after) cells) (drop-append-le first.size front back few)
    ∙ ap (λ blocks. dead ++ one (take first.size front) ∷ blocks) more
    ∙ sym (append_assoc dead (one (take first.size front) ∷ blocks_from (suc first.number) number before (drop first.size front)) (blocks_from number next after back))

pub length-blocks : (table : List Live) (cells : List Cell) (number next start end : ℕ) → AreLaid number next start end table → number + length (blocks_from number next table cells) ≡ next
length-blocks [] cells number next start end laid =
    let many : length (replicate {A = Option Block} (next - number) None) ≡ next - number = length-replicate (next - number) None in omega arith
length-blocks (live ∷ others) cells number next start end laid =
    let more = length-blocks others (drop live.size cells) (suc live.number) next (start + live.size) end laid.2 in
    let many : length (replicate {A = Option Block} (live.number - number) None) ≡ live.number - number = length-replicate (live.number - number) None in
    let both = length-append (replicate (live.number - number) None) (Some (record { align = live.align; cells = take live.size cells }) ∷ blocks_from (suc live.number) next others (drop live.size cells)) in
    omega arith

-- where blocks begin in the region says nothing of the memory
pub blocks_slid : (bytes : ℕ) (table : List Live) (cells : List Cell) (number next : ℕ) → blocks_from number next (slid bytes table) cells ≡ blocks_from number next table cells
blocks_slid bytes [] cells number next = refl
blocks_slid bytes (live ∷ others) cells number next =
    ap (λ blocks. replicate (live.number - number) None ++ Some (record { align = live.align; cells = take live.size cells }) ∷ blocks) (blocks_slid bytes others (drop live.size cells) (suc live.number) next)

-- ---- what is counted

-- as many bytes are live as the region has cells
pub bytes_counted : (table : List Live) (cells : List Cell) (number next start end : ℕ) → AreLaid number next start end table → start + length cells ≡ end → live_bytes (blocks_from number next table cells) ≡ length cells
bytes_counted [] cells number next start end laid long =
    let none : length cells ≡ 0 = omega (arith, laid.1) in
    let dead = sum_by-replicate bytes_in (next - number) None in
    omega arith
bytes_counted (live ∷ others) cells number next start end laid long =
    let within = bounds others (suc live.number) next (start + live.size) end laid.2 in
    let rest : start + live.size + length (drop live.size cells) ≡ end = simp length-drop (omega arith) in
    let dead : Blocks = replicate (live.number - number) None in
    let one : Option Block = Some (record { align = live.align; cells = take live.size cells }) in
    let tail : Blocks = blocks_from (suc live.number) next others (drop live.size cells) in
    let more : sum_by bytes_in tail ≡ length (drop live.size cells) = bytes_counted others (drop live.size cells) (suc live.number) next (start + live.size) end laid.2 rest in
    let none : sum_by bytes_in dead ≡ (live.number - number) * 0 = sum_by-replicate bytes_in (live.number - number) None in
    let both : sum_by bytes_in (dead ++ one ∷ tail) ≡ sum_by bytes_in dead + sum_by bytes_in (one ∷ tail) = sum_by-append bytes_in dead (one ∷ tail) in
    let first : sum_by bytes_in (one ∷ tail) ≡ length (take live.size cells) + sum_by bytes_in tail = sum_by-cons bytes_in one tail in
    let size : length (take live.size cells) ≡ live.size = length-take-le live.size cells (omega arith) in
    let left : length (drop live.size cells) ≡ length cells - live.size = length-drop live.size cells in
    let all : sum_by bytes_in (dead ++ one ∷ tail) ≡ length cells = omega arith in all

-- as many blocks are live as the table has
pub blocks_counted : (table : List Live) (cells : List Cell) (number next : ℕ) → live_blocks (blocks_from number next table cells) ≡ length table
blocks_counted [] cells number next =
    let dead = sum_by-replicate (λ x. cond (is_some {T = Block} x) 1 0) (next - number) None in omega arith
blocks_counted (live ∷ others) cells number next =
    let counted : Option Block → ℕ = λ x. cond (is_some x) 1 0 in
    let dead : Blocks = replicate (live.number - number) None in
    let one : Option Block = Some (record { align = live.align; cells = take live.size cells }) in
    let tail : Blocks = blocks_from (suc live.number) next others (drop live.size cells) in
    let more : sum_by counted tail ≡ length others = blocks_counted others (drop live.size cells) (suc live.number) next in
    let none : sum_by counted dead ≡ (live.number - number) * 0 = sum_by-replicate counted (live.number - number) None in
    let both : sum_by counted (dead ++ one ∷ tail) ≡ sum_by counted dead + sum_by counted (one ∷ tail) = sum_by-append counted dead (one ∷ tail) in
    let first : sum_by counted (one ∷ tail) ≡ 1 + sum_by counted tail = sum_by-cons counted one tail in
    let all : sum_by counted (dead ++ one ∷ tail) ≡ suc (length others) = omega arith in all
