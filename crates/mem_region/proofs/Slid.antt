-- Blocks that slide when one is taken out of a table.
use Rattle.std.proofs.Common.{◌≡◌, ℕ, zero, suc, ◌+◌, ◌-◌, ◌<◌, ◌≤◌, List, [], ◌∷◌, ◌++◌, length, take, drop, get_or, set, sym, ◌∙◌, ap, subst, arith, length-append, length-take, length-drop, drop-cons, add-zero}
use Rattle.std.specs.List.{remove}
use Rattle.std.proofs.lemmas.List.{take-append-drop, take_at, drop_at, drop-drop, take_rest, take_more_set, drop-set-lt, length-take-le, length-map, map_more, get_or-drop}
use borrow.Rule.Slice.PartMut.{post_of}
use Rattle.mem_region.specs.declared.table.Live.{Live}
use Rattle.mem_region.specs.Layout.{AreLaid, IsTable, slid, StartPast}
use Rattle.mem_region.proofs.Laid.{laid_split}
use Rattle.mem_region.proofs.Written.{tail_written}

-- blocks that lie end to end begin where the first does or later
starts_past : (table : List Live) (number next start end : ℕ) → AreLaid number next start end table → (k : ℕ) (d : Live) → k < length table → start ≤ (get_or table k d).start
starts_past [] number next start end laid k d p = absurd (omega arith)
starts_past (live ∷ others) number next start end laid zero d p = omega (arith, laid.1)
starts_past (live ∷ others) number next start end laid (suc k) d p =
    let more = starts_past others (suc live.number) next (start + live.size) end laid.2 k d (omega arith) in omega arith

-- what is before and behind an item that was removed
front_kept : {X : Type 0} (old : List X) (index : ℕ) → index < length old → take index (remove old index) ≡ take index old
front_kept old index p = take_at (take index old) (drop (suc index) old) index (length-take-le index old (omega arith))

back_kept : {X : Type 0} (old : List X) (index : ℕ) → index < length old → drop index (remove old index) ≡ drop (suc index) old
back_kept old index p = drop_at (take index old) (drop (suc index) old) index (length-take-le index old (omega arith))

behind : (old removed slice : List Live) (index : ℕ) → index < length old → removed ≡ remove old index → slice ≡ removed → take (length slice - index) (drop index slice) ≡ drop (suc index) old
behind old removed slice index p e same =
    ap (λ xs. take (length xs - index) (drop index xs)) (same ∙ e)
    ∙ take_rest (remove old index) index
    ∙ back_kept old index p

pub past : (old removed slice : List Live) (index : ℕ) (dead : Live) → IsTable old → index < length old → dead ≡ get_or old index dead → removed ≡ remove old index → slice ≡ removed → StartPast dead.size (take (length slice - index) (drop index slice))
past old removed slice index dead it p read e same =
    let parts : old ≡ take index old ++ dead ∷ drop (suc index) old = sym (take-append-drop index old) ∙ ap (λ xs. take index old ++ xs) (drop-cons old index dead p) ∙ ap (λ one. take index old ++ one ∷ drop (suc index) old) (sym read) in
    let split = laid_split (take index old) dead (drop (suc index) old) 0 it.next 0 it.end (subst (AreLaid 0 it.next 0 it.end) parts it.laid) in
    let far = starts_past (drop (suc index) old) (suc dead.number) it.next (dead.start + dead.size) it.end split.1.2 in
    subst (StartPast dead.size) (sym (behind old removed slice index p e same)) (λ k d q. let f = far k d q in omega arith)

pub taken_out : (old removed slice new : List Live) (len index bytes : ℕ) → index < length old → removed ≡ remove old index → slice ≡ removed → len ≡ length removed → new ≡ slid bytes (take (length slice - index) (drop index slice)) → take len (take index slice ++ (new ++ post_of index (length slice - index) slice) ++ drop (length (take index slice ++ (new ++ post_of index (length slice - index) slice))) removed) ≡ take index old ++ slid bytes (drop (index + 1) old)
taken_out old removed slice new len index bytes p e same long slides =
    let left : take (length slice - index) (drop index slice) ≡ drop (suc index) old = behind old removed slice index p e same in
    let few : length removed + 1 ≡ length old = ap (λ xs. length xs + 1) e ∙ simp (length-append, length-take, length-drop) (omega arith) in
    let k : length slice - index ≡ length removed - index = ap (λ xs. length xs - index) same in
    let many : length new ≡ length removed - index = ap length slides ∙ length-map (take (length slice - index) (drop index slice)) (λ (live : Live). record live { start = live.start - bytes }) ∙ ap length left ∙ length-drop (suc index) old ∙ omega arith in
    let next : suc index ≡ index + 1 = omega arith in
    tail_written removed slice new len index (length slice - index) same long k many (omega arith)
    ∙ ap (λ xs. take index xs ++ new) e
    ∙ ap (λ xs. xs ++ new) (front_kept old index p)
    ∙ ap (λ xs. take index old ++ xs) (slides ∙ ap (slid bytes) (left ∙ ap (λ n. drop n old) next))

-- an element of what is left of a list
pub same_at : {X : Type 0} (table old : List X) (index : ℕ) (d : X) → drop index table ≡ drop index old → get_or table index d ≡ get_or old index d
same_at table old index d rest =
    ap (λ n. get_or table n d) (sym (add-zero index))
    ∙ sym (get_or-drop index table 0 d)
    ∙ ap (λ xs. get_or xs 0 d) rest
    ∙ get_or-drop index old 0 d
    ∙ ap (λ n. get_or old n d) (add-zero index)

pub rest_of : {X : Type 0} (table old : List X) (index : ℕ) (one : X) → drop index table ≡ drop index old → drop (index + 1) (set table index one) ≡ drop (index + 1) old
rest_of table old index one rest =
    drop-set-lt (index + 1) table index one (omega arith)
    ∙ sym (drop-drop 1 index table)
    ∙ ap (drop 1) rest
    ∙ drop-drop 1 index old

-- one more block slides
pub slid_more : (table old : List Live) (bytes index : ℕ) (d : Live) → index < length table → index < length old → take index table ≡ slid bytes (take index old) → drop index table ≡ drop index old → take (index + 1) (set table index (record (get_or table index d) { start = (get_or table index d).start - bytes })) ≡ slid bytes (take (index + 1) old)
slid_more table old bytes index d p q done rest =
    let slide : Live → Live = λ live. record live { start = live.start - bytes } in
    take_more_set table index (slide (get_or table index d)) p
    ∙ ap (λ xs. xs ++ slide (get_or table index d) ∷ []) done
    ∙ ap (λ live. slid bytes (take index old) ++ slide live ∷ []) (same_at table old index d rest)
    ∙ sym (map_more slide old index d q)
