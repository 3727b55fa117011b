-- What maps of nodes tell after one node more.
use Rattle.std.proofs.Common.{◌≡◌, ◌∙◌, ℕ, ◌+◌, ◌<◌, ◌==◌, Bool, true, false, ◌||◌, List, ◌∷◌, length, get_or, drop, map, refl, ap, sym, arith, cond, if◌then◌else◌}
use Rattle.std.proofs.Math.Path.{fun_ext}
use Rattle.std.proofs.lemmas.Bool.Decides.{nat_tests}
use Rattle.std.specs.Prelude.{Option, Some, option_map, unwrap_or}
use Rattle.std.specs.HashMap.{HashMap, get_by}
use Rattle.emit_rules.specs.Places as places
use Rattle.emit_rules.specs.Places.{Table, with_seen}
use Rattle.emit_places.proofs.Later.{next_of}
use Rattle.emit_places.specs.Places.{leaving_view, seen_view, table_of}
use Rattle.emit_places.specs.declared.seeing.Seen.{Seen}
use Rattle.emit_places.specs.declared.ways.Leaving.{Leaving}
use Rattle.reloop.specs.Graphs.{is_in}

same_test : (a b : ℕ) → (a == b) ≡ (b == a)
same_test a b = grind (arith, nat_tests)

-- ---- numbers

number_one : (a b later : Bool) (n : ℕ) (found new : Option ℕ) (whole : ℕ) → a ≡ b → new ≡ cond a (Some n) found → (if b || later then n else unwrap_or found 0) ≡ whole → (if later then n else unwrap_or new 0) ≡ whole
number_one a b true n found new whole same is was = ap (λ test. if test then n else unwrap_or found 0) (or_true b) ∙ was
  where
    or_true : (test : Bool) → true ≡ (test || true)
    or_true true = refl
    or_true false = refl
number_one true b false n found new whole same is was = ap (λ one. unwrap_or one 0) is ∙ ap (λ test. if test || false then n else unwrap_or found 0) same ∙ was
number_one false b false n found new whole same is was = ap (λ one. unwrap_or one 0) is ∙ ap (λ test. if test || false then n else unwrap_or found 0) same ∙ was

pub note_more : (nodes items : List ℕ) (k x other n node : ℕ) (found new : Option ℕ) (whole : ℕ) → items ≡ nodes → x ≡ get_or items k other → k < length items → new ≡ cond (x == node) (Some n) found →
    (if is_in node (drop k nodes) then n else unwrap_or found 0) ≡ whole → (if is_in node (drop (k + 1) nodes) then n else unwrap_or new 0) ≡ whole
note_more nodes items k x other n node found new whole same is within more was =
    number_one (x == node) (node == x) (is_in node (drop (k + 1) nodes)) n found new whole (same_test x node) more
    (ap (λ list. if is_in node list then n else unwrap_or found 0) (sym left) ∙ was)
  where
    left : drop k nodes ≡ x ∷ drop (k + 1) nodes
    left = ap (drop k) (sym same) ∙ next_of items k other x is within ∙ ap (λ list. x ∷ drop (k + 1) list) same

-- ---- ways

seen_one : (a b : Bool) (seen : Seen) (found new : Option Seen) → a ≡ b → new ≡ cond a (Some seen) found → option_map seen_view new ≡ (if b then Some (seen_view seen) else option_map seen_view found)
seen_one true true seen found new same is = ap (option_map seen_view) is
seen_one false false seen found new same is = ap (option_map seen_view) is
seen_one true false seen found new same is = absurd cc
seen_one false true seen found new same is = absurd cc

pub table_more : {S : Type 0} (map new : HashMap ℕ Seen S) (to : ℕ) (seen : Seen) → ((node : ℕ) → get_by (λ key. node == key) new ≡ cond (to == node) (Some seen) (get_by (λ key. node == key) map)) →
    table_of new ≡ with_seen to (seen_view seen) (table_of map)
table_more map new to seen more = fun_ext (λ node. seen_one (to == node) (node == to) seen (get_by (λ key. node == key) map) (get_by (λ key. node == key) new) (same_test to node) (more node))

pub see_more : (sibling : ℕ) (is_direct : Bool) (ways items : List Leaving) (k : ℕ) (way other : Leaving) (table new whole : Table) → items ≡ ways → way ≡ get_or items k other → k < length items →
    new ≡ with_seen way.to (places.see sibling is_direct (leaving_view way) (table way.to)) table → places.see_all sibling is_direct (map leaving_view (drop k ways)) table ≡ whole →
    places.see_all sibling is_direct (map leaving_view (drop (k + 1) ways)) new ≡ whole
see_more sibling is_direct ways items k way other table new whole same is within more was =
    ap (places.see_all sibling is_direct (map leaving_view (drop (k + 1) ways))) more ∙ ap (λ list. places.see_all sibling is_direct (map leaving_view list) table) (sym left) ∙ was
  where
    left : drop k ways ≡ way ∷ drop (k + 1) ways
    left = ap (drop k) (sym same) ∙ next_of items k other way is within ∙ ap (λ list. way ∷ drop (k + 1) list) same
